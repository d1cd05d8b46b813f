-- Each reader of the language on the first way into a phrase takes a first token of its kinds, or reads it beyond the limit.
use Rattle.std.proofs.Common.{◌≡◌, ◌==◌, ℕ, zero, suc, Bool, true, false, List, [], ◌∷◌, ◌++◌, ◌||◌, refl, sym, ◌∙◌, ap, ℤ, Some, cond}
use Rattle.std.proofs.lemmas.Bool.{eqb-true}
use Rattle.std.specs.Prelude.{nat_lt}
use Rattle.value_ops.specs.declared.places.Place.{Place}
use Rattle.algolw_tree.specs.declared.tokens.Word.{Word}
use Rattle.algolw_tree.specs.declared.tokens.Word.TheVariants as w
use Rattle.algolw_tree.specs.declared.tokens.Symbol.{Symbol}
use Rattle.algolw_tree.specs.declared.tokens.Symbol.TheVariants as s
use Rattle.algolw_tree.specs.declared.tokens.Token.{Token}
use Rattle.algolw_tree.specs.declared.tokens.TokenKind.{TokenKind}
use Rattle.algolw_tree.specs.declared.tokens.TokenKind.TheVariants.{Word as AWord, Named, Number, BitsLit, Quoted, Symbol as ASymbol, Finish}
use Rattle.algolw_tree.specs.declared.phrases.Op.{Op}
use Rattle.algolw_tree.specs.Tree.{Placed, Phrase}
use Rattle.algolw_tree.specs.Grammar.{right, applied, block_of, number_of, bits_of, string_of, truth_of, null_of, named_of, chain_of, signed_of, if_of, case_of, for_of, while_of, goto_of, assert_of, negated_of, absolute_of}
use Rattle.algolw_grammar.specs.Kinds.{word_number, symbol_number, kind_number, has, the_word, the_symbol, a_name}
use Rattle.algolw_grammar.specs.Readers.{Reader, read_applied, read_both, read_left, read_made, read_right, read_token}
use Rattle.algolw_grammar.specs.Taken.{is_word, is_symbol, word_taken, symbol_taken, name_taken, number_taken, bits_taken, string_taken}
use Rattle.algolw_grammar.specs.Reading.{Readers, adding, multiplying, shifting, first_decl, first_goto, first_literal, first_neg, first_phrase, first_prim, first_rel, read_absolute, read_adding, read_and, read_assert, read_assign_end, read_assignment, read_block, read_case, read_chain, read_conj, read_disj, read_for, read_goto, read_if, read_links, read_lists, read_literal, read_multiplying, read_name, read_neg, read_negation, read_number, read_or, read_parens, read_phrase, read_prim, read_rel, read_relation_end, read_shift, read_shifting, read_signed, read_sum, read_symbol, read_term, read_while, read_word}
use Rattle.algolw_grammar.proofs.Good.{Eats}
use Rattle.algolw_grammar.proofs.Numbers.{word_opens}
use Rattle.algolw_grammar.proofs.Eating.{token_eats, made_eats, choice_eats, deep_eats, beyond_eats}
use Rattle.algolw_grammar.proofs.Marked.{marked, EatsLevels}
use Rattle.algolw_grammar.proofs.Leaving.{Leaves, LeavesLevels, then_left, leaves_adding, leaves_and, leaves_applied, leaves_assign_end, leaves_both, leaves_case_end, leaves_conj, leaves_decl, leaves_else, leaves_for_end, leaves_item, leaves_left, leaves_levels, leaves_links, leaves_listing, leaves_many, leaves_multiplying, leaves_name, leaves_neg, leaves_or, leaves_perhaps, leaves_prim, leaves_relation_end, leaves_right, leaves_separated, leaves_shift, leaves_shifting, leaves_symbol, leaves_term, leaves_word}

pub eats_both : {A B : Type 0} (p : Reader A) (q : Reader B) (s : List ℕ) → Leaves q → Eats p s → Eats (read_both p q) s
eats_both p q s a k t w h = then_left q a (p (t ∷ w)) w (k t w h)

-- tokens

word_low : (x : Word) → nat_lt (word_number x) 44 ≡ true
word_low w.Abs = refl
word_low _ = refl

word_lower : (x : Word) → nat_lt (word_number x) 65 ≡ true
word_lower w.Abs = refl
word_lower _ = refl

symbol_high : (x : Symbol) → nat_lt (symbol_number x) 44 ≡ false
symbol_high s.Open = refl
symbol_high _ = refl

symbol_lower : (x : Symbol) → nat_lt (symbol_number x) 65 ≡ true
symbol_lower s.Open = refl
symbol_lower _ = refl

-- a number below a bound is none that isn't
unequal : (bound n k : ℕ) → nat_lt n bound ≡ true → nat_lt k bound ≡ false → n ≡ k → ⊥
unequal bound n k h i e = let z : nat_lt n bound ≡ nat_lt k bound = ap (λ n. nat_lt n bound) e in cc

or_false : (b : Bool) → (b || false) ≡ true → b ≡ true
or_false true h = refl
or_false false h = h

of_one : (n k : ℕ) → has n (k ∷ []) ≡ true → n ≡ k
of_one n k h = eqb-true n k (or_false (n == k) h)

word_takes : (x : Word) (t : Token) → has (kind_number t.kind) (the_word x) ≡ true → (p : Place) × (word_taken x t ≡ Some p)
word_takes x t h = (t.place, let e : is_word x t.kind ≡ true = sym (word_opens x t.kind) ∙ h in rw (e, cond) refl)

symbol_of : (x : Symbol) (k : TokenKind) → has (kind_number k) (the_symbol x) ≡ true → is_symbol x k ≡ true
symbol_of x (ASymbol y) h = or_false (symbol_number y == symbol_number x) h
symbol_of x (AWord y) h = absurd (unequal 44 (word_number y) (symbol_number x) (word_low y) (symbol_high x) (of_one _ _ h))
symbol_of x (Named n) h = absurd (unequal 65 (symbol_number x) 65 (symbol_lower x) refl (sym (of_one _ _ h)))
symbol_of x (Number n) h = absurd (unequal 65 (symbol_number x) 66 (symbol_lower x) refl (sym (of_one _ _ h)))
symbol_of x (BitsLit n) h = absurd (unequal 65 (symbol_number x) 67 (symbol_lower x) refl (sym (of_one _ _ h)))
symbol_of x (Quoted n) h = absurd (unequal 65 (symbol_number x) 68 (symbol_lower x) refl (sym (of_one _ _ h)))
symbol_of x Finish h = absurd (unequal 65 (symbol_number x) 69 (symbol_lower x) refl (sym (of_one _ _ h)))

symbol_takes : (x : Symbol) (t : Token) → has (kind_number t.kind) (the_symbol x) ≡ true → (p : Place) × (symbol_taken x t ≡ Some p)
symbol_takes x t h = (t.place, rw (symbol_of x t.kind h, cond) refl)

-- a kind of this number, which no word and no symbol has
module _ (n : ℕ) (high : nat_lt n 65 ≡ false) where
  no_word : (x : Word) → has (word_number x) (n ∷ []) ≡ true → ⊥
  no_word x h = unequal 65 (word_number x) n (word_lower x) high (of_one _ _ h)

  no_symbol : (x : Symbol) → has (symbol_number x) (n ∷ []) ≡ true → ⊥
  no_symbol x h = unequal 65 (symbol_number x) n (symbol_lower x) high (of_one _ _ h)

name_takes : (t : Token) → has (kind_number t.kind) a_name ≡ true → (x : Placed) × (name_taken t ≡ Some x)
name_takes t h = go t.kind h
  where
    go : (k : TokenKind) → has (kind_number k) a_name ≡ true → (x : Placed) × (name_taken (record { place = t.place; kind = k }) ≡ Some x)
    go (AWord y) h = absurd (no_word 65 refl y h)
    go (ASymbol y) h = absurd (no_symbol 65 refl y h)
    go (Named n) h = ((n, t.place), refl)
    go _ h = cc

number_takes : (t : Token) → has (kind_number t.kind) (66 ∷ []) ≡ true → (x : ℤ × Place) × (number_taken t ≡ Some x)
number_takes t h = go t.kind h
  where
    go : (k : TokenKind) → has (kind_number k) (66 ∷ []) ≡ true → (x : ℤ × Place) × (number_taken (record { place = t.place; kind = k }) ≡ Some x)
    go (AWord y) h = absurd (no_word 66 refl y h)
    go (ASymbol y) h = absurd (no_symbol 66 refl y h)
    go (Number n) h = ((n, t.place), refl)
    go _ h = cc

bits_take : (t : Token) → has (kind_number t.kind) (67 ∷ []) ≡ true → (x : ℕ × Place) × (bits_taken t ≡ Some x)
bits_take t h = go t.kind h
  where
    go : (k : TokenKind) → has (kind_number k) (67 ∷ []) ≡ true → (x : ℕ × Place) × (bits_taken (record { place = t.place; kind = k }) ≡ Some x)
    go (AWord y) h = absurd (no_word 67 refl y h)
    go (ASymbol y) h = absurd (no_symbol 67 refl y h)
    go (BitsLit b) h = ((b, t.place), refl)
    go _ h = cc

string_takes : (t : Token) → has (kind_number t.kind) (68 ∷ []) ≡ true → (x : List ℕ × Place) × (string_taken t ≡ Some x)
string_takes t h = go t.kind h
  where
    go : (k : TokenKind) → has (kind_number k) (68 ∷ []) ≡ true → (x : List ℕ × Place) × (string_taken (record { place = t.place; kind = k }) ≡ Some x)
    go (AWord y) h = absurd (no_word 68 refl y h)
    go (ASymbol y) h = absurd (no_symbol 68 refl y h)
    go (Quoted x) h = ((x, t.place), refl)
    go _ h = cc

pub word_eats : (x : Word) → Eats (read_word x) (the_word x)
word_eats x = token_eats (word_taken x) (the_word x) (word_takes x)

pub symbol_eats : (x : Symbol) → Eats (read_symbol x) (the_symbol x)
symbol_eats x = token_eats (symbol_taken x) (the_symbol x) (symbol_takes x)

pub name_eats : Eats read_name a_name
name_eats = token_eats name_taken a_name name_takes

-- the parts of a part, a word first or any part

word_then : {A B : Type 0} (f : Place × A → B) (x : Word) (q : Reader A) → Leaves q → Eats (read_made f (read_both (read_word x) q)) (the_word x)
word_then f x q a = made_eats f (read_both (read_word x) q) (the_word x) (eats_both (read_word x) q (the_word x) a (word_eats x))

symbol_then : {A B : Type 0} (f : Place × A → B) (x : Symbol) (q : Reader A) → Leaves q → Eats (read_made f (read_both (read_symbol x) q)) (the_symbol x)
symbol_then f x q a = made_eats f (read_both (read_symbol x) q) (the_symbol x) (eats_both (read_symbol x) q (the_symbol x) a (symbol_eats x))

pub applied_eats : {A B : Type 0} (p : Reader A) (q : Reader (A → B)) (s : List ℕ) → Leaves q → Eats p s → Eats (read_applied p q) s
applied_eats p q s a k = made_eats applied (read_both p q) s (eats_both p q s a k)

pub parens_eats : {A : Type 0} (p : Reader A) → Leaves p → Eats (read_parens p) (the_symbol s.Open)
parens_eats p a = symbol_then right s.Open (read_left p (read_symbol s.Close)) (leaves_left a (leaves_symbol s.Close))

pub chain_eats : (ops : List ℕ) (f : Reader Phrase) (o : Reader (Op × Place)) (p : Reader Phrase) (s : List ℕ) → Leaves o → Leaves p → Eats f s → Eats (read_chain ops f o p) s
chain_eats ops f o p s a b k = made_eats chain_of (read_both f (read_links ops o p)) s (eats_both f (read_links ops o p) s (leaves_links ops a b) k)

-- literals, and what begins a part from one of its cases on

abbrev from_false : List ℕ
from_false = the_word w.False ++ the_word w.Null

abbrev from_true : List ℕ
from_true = the_word w.True ++ from_false

abbrev from_name : List ℕ
from_name = a_name ++ first_literal

abbrev from_begin : List ℕ
from_begin = the_word w.Begin ++ from_name

abbrev from_minus : List ℕ
from_minus = the_symbol s.Minus ++ first_prim

abbrev from_assert : List ℕ
from_assert = the_word w.Assert ++ first_neg

abbrev from_goto : List ℕ
from_goto = first_goto ++ from_assert

abbrev from_while : List ℕ
from_while = the_word w.While ++ from_goto

abbrev from_for : List ℕ
from_for = the_word w.For ++ from_while

abbrev from_case : List ℕ
from_case = the_word w.Case ++ from_for

pub literal_eats : Eats read_literal first_literal
unfolding read_literal
literal_eats =
    choice_eats _ _ (66 ∷ []) (67 ∷ 68 ∷ from_true) (made_eats number_of read_number (66 ∷ []) (token_eats number_taken (66 ∷ []) number_takes)) (
    choice_eats _ _ (67 ∷ []) (68 ∷ from_true) (made_eats bits_of (read_token bits_taken) (67 ∷ []) (token_eats bits_taken (67 ∷ []) bits_take)) (
    choice_eats _ _ (68 ∷ []) from_true (made_eats string_of (read_token string_taken) (68 ∷ []) (token_eats string_taken (68 ∷ []) string_takes)) (
    choice_eats _ _ (the_word w.True) from_false (made_eats (truth_of true) (read_word w.True) (the_word w.True) (word_eats w.True)) (
    choice_eats _ _ (the_word w.False) (the_word w.Null) (made_eats (truth_of false) (read_word w.False) (the_word w.False) (word_eats w.False))
    (made_eats null_of (read_word w.Null) (the_word w.Null) (word_eats w.Null))))))

pub goto_eats : Eats read_goto first_goto
unfolding read_goto
goto_eats = choice_eats _ _ (the_word w.Goto) (the_word w.Go) (word_then goto_of w.Goto read_name leaves_name) (word_then goto_of w.Go (read_right (read_word w.To) read_name) (leaves_right (leaves_word w.To) leaves_name))

-- what nests

module _ (r : Readers) (le : LeavesLevels r) (ok : EatsLevels r) where
  pub block_eats : Eats (read_block r) (the_word w.Begin)
  unfolding read_block
  block_eats = word_then block_of w.Begin _ (leaves_both (leaves_many first_decl (leaves_left (leaves_decl r le) (leaves_symbol s.Semicolon))) (leaves_left (leaves_separated s.Semicolon (leaves_item r le)) (leaves_word w.End)))

  pub prim_eats : Eats (read_prim r) first_prim
  unfolding read_prim
  prim_eats =
      choice_eats _ _ (the_word w.Abs) (the_symbol s.Open ++ from_begin) ok.absolute (
      choice_eats _ _ (the_symbol s.Open) from_begin (parens_eats r.phrase le.phrase) (
      choice_eats _ _ (the_word w.Begin) from_name block_eats (
      choice_eats _ _ a_name first_literal (made_eats named_of (read_both read_name (read_lists r)) a_name (eats_both read_name (read_lists r) a_name (leaves_many (the_symbol s.Open) (leaves_listing r le)) name_eats))
      literal_eats)))

  pub shift_eats : Eats (read_shift r) first_prim
  unfolding read_shift
  shift_eats = chain_eats shifting (read_prim r) read_shifting (read_prim r) first_prim leaves_shifting (leaves_prim r le) prim_eats

  pub term_eats : Eats (read_term r) first_prim
  unfolding read_term
  term_eats = chain_eats multiplying (read_shift r) read_multiplying (read_shift r) first_prim leaves_multiplying (leaves_shift r le) shift_eats

  pub signed_eats : Eats (read_signed r) first_rel
  unfolding read_signed
  signed_eats =
      choice_eats _ _ (the_symbol s.Plus) from_minus (symbol_then (signed_of false) s.Plus (read_term r) (leaves_term r le)) (
      choice_eats _ _ (the_symbol s.Minus) first_prim (symbol_then (signed_of true) s.Minus (read_term r) (leaves_term r le))
      term_eats)

  pub sum_eats : Eats (read_sum r) first_rel
  unfolding read_sum
  sum_eats = chain_eats adding (read_signed r) read_adding (read_term r) first_rel leaves_adding (leaves_term r le) signed_eats

  pub rel_eats : Eats (read_rel r) first_rel
  unfolding read_rel
  rel_eats = applied_eats (read_sum r) (read_relation_end r) first_rel (leaves_relation_end r le) sum_eats

  pub neg_eats : Eats (read_neg r) first_neg
  unfolding read_neg
  neg_eats = choice_eats r.negation (read_rel r) (the_symbol s.Not) first_rel ok.negation rel_eats

  pub conj_eats : Eats (read_conj r) first_neg
  unfolding read_conj
  conj_eats = chain_eats (the_word w.And) (read_neg r) read_and (read_neg r) first_neg leaves_and (leaves_neg r le) neg_eats

  pub disj_eats : Eats (read_disj r) first_neg
  unfolding read_disj
  disj_eats = chain_eats (the_word w.Or) (read_conj r) read_or (read_conj r) first_neg leaves_or (leaves_conj r le) conj_eats

  pub assignment_eats : Eats (read_assignment r) first_neg
  unfolding read_assignment
  assignment_eats = applied_eats (read_disj r) (read_assign_end r) first_neg (leaves_assign_end r le) disj_eats

  pub if_eats : Eats (read_if r) (the_word w.If)
  unfolding read_if
  if_eats =
      let one = leaves_perhaps r le in
      word_then if_of w.If _ (leaves_both (leaves_left le.phrase (leaves_word w.Then)) (leaves_both one (leaves_else (leaves_right (leaves_word w.Else) one))))

  pub case_eats : Eats (read_case r) (the_word w.Case)
  unfolding read_case
  case_eats = word_then case_of w.Case _ (leaves_applied (leaves_left le.phrase (leaves_word w.Of)) (leaves_case_end r le))

  pub for_eats : Eats (read_for r) (the_word w.For)
  unfolding read_for
  for_eats = word_then for_of w.For _ (leaves_both (leaves_left leaves_name (leaves_symbol s.Becomes)) (leaves_both le.phrase (leaves_both (leaves_for_end r le) (leaves_perhaps r le))))

  pub while_eats : Eats (read_while r) (the_word w.While)
  unfolding read_while
  while_eats = word_then while_of w.While _ (leaves_both (leaves_left le.phrase (leaves_word w.Do)) (leaves_perhaps r le))

  pub assert_eats : Eats (read_assert r) (the_word w.Assert)
  unfolding read_assert
  assert_eats = word_then assert_of w.Assert r.phrase le.phrase

  pub phrase_eats : Eats (read_phrase r) first_phrase
  unfolding read_phrase
  phrase_eats =
      choice_eats _ _ (the_word w.If) from_case if_eats (
      choice_eats _ _ (the_word w.Case) from_for case_eats (
      choice_eats _ _ (the_word w.For) from_while for_eats (
      choice_eats _ _ (the_word w.While) from_goto while_eats (
      choice_eats _ _ first_goto from_assert goto_eats (
      choice_eats _ _ (the_word w.Assert) first_neg assert_eats
      assignment_eats)))))

  pub negation_eats : Eats (read_negation r) (the_symbol s.Not)
  unfolding read_negation
  negation_eats = symbol_then negated_of s.Not (read_neg r) (leaves_neg r le)

  pub absolute_eats : Eats (read_absolute r) (the_word w.Abs)
  unfolding read_absolute
  absolute_eats = word_then absolute_of w.Abs (read_prim r) (leaves_prim r le)

  pub eats_next : EatsLevels (record { phrase = read_phrase r; negation = read_negation r; absolute = read_absolute r })
  eats_next = record { phrase = phrase_eats; negation = negation_eats; absolute = absolute_eats }

-- where so many levels of nesting are left
pub eats_levels : (n room : ℕ) → EatsLevels (marked n room)
unfolding marked
eats_levels zero room = record { phrase = deep_eats Phrase first_phrase; negation = deep_eats Phrase (the_symbol s.Not); absolute = deep_eats Phrase (the_word w.Abs) }
eats_levels (suc n) zero =
    let next = eats_next (marked n zero) (leaves_levels n zero) (eats_levels n zero) in
    record { phrase = beyond_eats (read_phrase (marked n zero)) first_phrase next.phrase; negation = beyond_eats (read_negation (marked n zero)) (the_symbol s.Not) next.negation; absolute = beyond_eats (read_absolute (marked n zero)) (the_word w.Abs) next.absolute }
eats_levels (suc n) (suc room) = eats_next (marked n room) (leaves_levels n room) (eats_levels n room)
