-- Each reader of the language that stops beyond the limit gives what the one that marks it gives, cut there.
use Rattle.std.proofs.Common.{◌≡◌, ◌==◌, ℕ, zero, suc, ◌<◌, Bool, true, false, List, [], ◌∷◌, refl, sym, ◌∙◌, ap, arith, Option, Some, None, cond}
use Rattle.value_ops.specs.declared.places.Place.{Place}
use Rattle.algolw_tree.specs.declared.tokens.Word.{Word}
use Rattle.algolw_tree.specs.declared.tokens.Word.TheVariants as w
use Rattle.algolw_tree.specs.declared.tokens.Symbol.{Symbol}
use Rattle.algolw_tree.specs.declared.tokens.Symbol.TheVariants as s
use Rattle.algolw_tree.specs.declared.tokens.Symbol.TheVariants.{Colon}
use Rattle.algolw_tree.specs.declared.tokens.Token.{Token}
use Rattle.algolw_tree.specs.declared.tokens.TokenKind.{TokenKind}
use Rattle.algolw_tree.specs.declared.tokens.TokenKind.TheVariants.{Word as AWord, Named, Number, BitsLit, Quoted, Symbol as ASymbol, Finish}
use Rattle.algolw_tree.specs.declared.phrases.Op.{Op}
use Rattle.algolw_tree.specs.declared.phrases.Op.TheVariants as op
use Rattle.algolw_tree.specs.declared.phrases.RelOp.TheVariants as rel_op
use Rattle.algolw_tree.specs.declared.phrases.Mode.TheVariants as mode
use Rattle.algolw_tree.specs.Parts.{Beyond}
use Rattle.algolw_tree.specs.Tree.{Placed, Integer, Logical, Bits, Str, Reference, Phrase, Star, Given}
use Rattle.algolw_tree.specs.Grammar.{left, right, applied, onto, to, same, class_of, array_formal, simple_formal, procedure_formal, empty_at, bound_of, procedure_of, array_decl, simple_decl, typed, untyped, item_of, block_of, part_of, actuals_from, actuals_from_star, number_of, bits_of, string_of, truth_of, null_of, named_of, op_at, link_of, chain_of, signed_of, relop_at, relation_of, class_test, assign_of, if_of, case_value, case_do, case_of, for_step, for_list, for_of, while_of, goto_of, assert_of, negated_of, absolute_of}
use Rattle.algolw_grammar.specs.Kinds.{word_number, symbol_number, kind_number, the_word, the_symbol, a_name}
use Rattle.algolw_grammar.specs.Readers.{Out, Got, Bad, Deep, Reader, earlier, taken, behind, then, mapped, read_token, read_left, read_right, read_applied}
use Rattle.algolw_grammar.specs.Taken.{is_symbol, labels, label_taken, name_taken, word_taken, symbol_taken, number_taken, bits_taken, string_taken, finish_taken}
use Rattle.algolw_grammar.specs.Reading.{Readers, read_word, read_symbol, read_name, read_number, read_parens, read_optional, read_later, read_separated, read_names, read_length, read_type, read_group, read_class, read_passing, read_formal_end, read_formal, read_formals, first_phrase, read_perhaps, read_bound, read_procedure, read_decl_end, first_decl, read_decl, read_item, read_block, read_actual, read_list, read_listing, read_literal, read_prim, read_or, read_and, read_adding, read_multiplying, read_shifting, adding, multiplying, shifting, read_links, read_chain, read_shift, read_term, read_signed, read_sum, read_relop, comparing, read_relation_end, read_rel, read_neg, read_conj, read_disj, read_assign_end, read_assignment, read_if, read_case_end, read_case, listing_values, read_for_end, read_for, read_while, read_goto, read_assert, first_goto, read_phrase, read_negation, read_absolute, readers, read_program_by}
use Rattle.algolw_grammar.proofs.Good.{Tied, Ends, EndsOut, cut, bad_rest, deep_rest}
use Rattle.algolw_grammar.proofs.Tying.{token_tied, nothing_tied, empty_tied, both_tied, made_tied, choice_tied, else_tied, many_tied, labelled_tied, beyond_tied}
use Rattle.algolw_grammar.proofs.Marked.{marked, TiedLevels, UnreadLevels}
use Rattle.algolw_grammar.proofs.Leaving.{leaves_levels}
use Rattle.algolw_grammar.proofs.LanguageEats.{eats_next, eats_levels}

-- what is taken isn't the end of the deck

word_not_end : (x : Word) → (word_number x == 69) ≡ false
word_not_end w.Abs = refl
word_not_end _ = refl

symbol_not_end : (x : Symbol) → (symbol_number x == 69) ≡ false
symbol_not_end s.Open = refl
symbol_not_end _ = refl

not_end : (n : ℕ) → (n == 69) ≡ false → n ≡ 69 → ⊥
not_end n h e = let k : (n == 69) ≡ true = rw e refl in cc

finished : (k : TokenKind) → kind_number k ≡ 69 → k ≡ Finish
finished (AWord x) e = absurd (not_end (word_number x) (word_not_end x) e)
finished (ASymbol x) e = absurd (not_end (symbol_number x) (symbol_not_end x) e)
finished (Named n) e = absurd (not_end 65 refl e)
finished (Number n) e = absurd (not_end 66 refl e)
finished (BitsLit b) e = absurd (not_end 67 refl e)
finished (Quoted t) e = absurd (not_end 68 refl e)
finished Finish e = refl

not_finish : {A : Type 0} (f : Token → Option A) → ((p : Place) → f (record { place = p; kind = Finish }) ≡ None) → (t : Token) (x : A) → f t ≡ Some x → kind_number t.kind ≡ 69 → ⊥
not_finish f h t x e k =
    let m : f t ≡ None = ap (λ k. f (record { place = t.place; kind = k })) (finished t.kind k) ∙ h t.place in
    cc

tied_token : {A : Type 0} (f : Token → Option A) → ((p : Place) → f (record { place = p; kind = Finish }) ≡ None) → Tied (read_token f) (read_token f)
tied_token f h = token_tied f (not_finish f h)

pub word_tied : (x : Word) → Tied (read_word x) (read_word x)
word_tied x = tied_token (word_taken x) (λ p. refl)

pub symbol_tied : (x : Symbol) → Tied (read_symbol x) (read_symbol x)
symbol_tied x = tied_token (symbol_taken x) (λ p. refl)

pub name_tied : Tied read_name read_name
name_tied = tied_token name_taken (λ p. refl)

pub number_tied : Tied read_number read_number
number_tied = tied_token number_taken (λ p. refl)

pub bits_tied : Tied (read_token bits_taken) (read_token bits_taken)
bits_tied = tied_token bits_taken (λ p. refl)

pub string_tied : Tied (read_token string_taken) (read_token string_taken)
string_tied = tied_token string_taken (λ p. refl)

-- the parts of a part

pub left_tied : {A B : Type 0} {p q : Reader A} {p2 q2 : Reader B} → Tied p q → Tied p2 q2 → Tied (read_left p p2) (read_left q q2)
left_tied a b = made_tied left (both_tied a b)

pub right_tied : {A B : Type 0} {p q : Reader A} {p2 q2 : Reader B} → Tied p q → Tied p2 q2 → Tied (read_right p p2) (read_right q q2)
right_tied a b = made_tied right (both_tied a b)

pub applied_tied : {A B : Type 0} {p q : Reader A} {p2 q2 : Reader (A → B)} → Tied p q → Tied p2 q2 → Tied (read_applied p p2) (read_applied q q2)
applied_tied a b = made_tied applied (both_tied a b)

pub parens_tied : {A : Type 0} {p q : Reader A} → Tied p q → Tied (read_parens p) (read_parens q)
parens_tied a = right_tied (symbol_tied s.Open) (left_tied a (symbol_tied s.Close))

pub optional_tied : {A : Type 0} (first : List ℕ) {p q : Reader A} → Tied p q → Tied (read_optional first p) (read_optional first q)
optional_tied first a = choice_tied first (made_tied Some a) (nothing_tied None)

pub later_tied : {A : Type 0} (x : Symbol) {p q : Reader A} → Tied p q → Tied (read_later x p) (read_later x q)
later_tied x a = many_tied (the_symbol x) (right_tied (symbol_tied x) a)

pub separated_tied : {A : Type 0} (x : Symbol) {p q : Reader A} → Tied p q → Tied (read_separated x p) (read_separated x q)
separated_tied x a = made_tied onto (both_tied a (later_tied x a))

pub links_tied : (ops : List ℕ) {o n : Reader (Op × Place)} {p q : Reader Phrase} → Tied o n → Tied p q → Tied (read_links ops o p) (read_links ops n q)
links_tied ops o a = many_tied ops (made_tied link_of (both_tied o a))

pub chain_tied : (ops : List ℕ) {f g : Reader Phrase} {o n : Reader (Op × Place)} {p q : Reader Phrase} → Tied f g → Tied o n → Tied p q → Tied (read_chain ops f o p) (read_chain ops g n q)
chain_tied ops f o a = made_tied chain_of (both_tied f (links_tied ops o a))

-- types, classes and formals

pub names_tied : Tied read_names read_names
unfolding read_names
names_tied = separated_tied s.Comma name_tied

pub length_tied : Tied read_length read_length
length_tied = optional_tied (the_symbol s.Open) (parens_tied number_tied)

pub type_tied : Tied read_type read_type
unfolding read_type
type_tied =
    choice_tied (the_word w.Integer) (made_tied (to Integer) (word_tied w.Integer)) (
    choice_tied (the_word w.Logical) (made_tied (to Logical) (word_tied w.Logical)) (
    choice_tied (the_word w.Bits) (made_tied Bits (right_tied (word_tied w.Bits) length_tied)) (
    choice_tied (the_word w.String) (made_tied Str (right_tied (word_tied w.String) length_tied))
    (made_tied Reference (right_tied (word_tied w.Reference) (parens_tied names_tied))))))

pub group_tied : Tied read_group read_group
unfolding read_group
group_tied = both_tied type_tied names_tied

pub class_tied : Tied read_class read_class
unfolding read_class
class_tied = made_tied class_of (right_tied (word_tied w.Record) (both_tied name_tied (parens_tied (separated_tied s.Semicolon group_tied))))

pub passing_tied : Tied read_passing read_passing
unfolding read_passing
passing_tied =
    choice_tied (the_word w.Value) (right_tied (word_tied w.Value) (choice_tied (the_word w.Result) (made_tied (to mode.ValueResult) (word_tied w.Result)) (nothing_tied mode.Value))) (
    choice_tied (the_word w.Result) (made_tied (to mode.Result) (word_tied w.Result)) (
    choice_tied (the_word w.Procedure) (made_tied (to mode.Procedure) (word_tied w.Procedure))
    (nothing_tied mode.ByName)))

pub formal_end_tied : Tied read_formal_end read_formal_end
unfolding read_formal_end
formal_end_tied =
    choice_tied (the_word w.Array) (made_tied array_formal (right_tied (word_tied w.Array) (both_tied names_tied (parens_tied (separated_tied s.Comma (symbol_tied s.Star))))))
    (made_tied simple_formal (both_tied passing_tied names_tied))

pub formal_tied : Tied read_formal read_formal
unfolding read_formal
formal_tied = choice_tied (the_word w.Procedure) (made_tied procedure_formal (right_tied (word_tied w.Procedure) names_tied)) (applied_tied type_tied formal_end_tied)

pub formals_tied : Tied read_formals read_formals
unfolding read_formals
formals_tied = choice_tied (the_symbol s.Open) (parens_tied (separated_tied s.Semicolon formal_tied)) (nothing_tied [])

-- literals and operators

pub literal_tied : Tied read_literal read_literal
unfolding read_literal
literal_tied =
    choice_tied (66 ∷ []) (made_tied number_of number_tied) (
    choice_tied (67 ∷ []) (made_tied bits_of bits_tied) (
    choice_tied (68 ∷ []) (made_tied string_of string_tied) (
    choice_tied (the_word w.True) (made_tied (truth_of true) (word_tied w.True)) (
    choice_tied (the_word w.False) (made_tied (truth_of false) (word_tied w.False))
    (made_tied null_of (word_tied w.Null))))))

pub or_tied : Tied read_or read_or
unfolding read_or
or_tied = made_tied (op_at op.Or) (word_tied w.Or)

pub and_tied : Tied read_and read_and
unfolding read_and
and_tied = made_tied (op_at op.And) (word_tied w.And)

pub adding_tied : Tied read_adding read_adding
unfolding read_adding
adding_tied = choice_tied (the_symbol s.Plus) (made_tied (op_at op.Plus) (symbol_tied s.Plus)) (made_tied (op_at op.Minus) (symbol_tied s.Minus))

pub multiplying_tied : Tied read_multiplying read_multiplying
unfolding read_multiplying
multiplying_tied =
    choice_tied (the_symbol s.Star) (made_tied (op_at op.Times) (symbol_tied s.Star)) (
    choice_tied (the_symbol s.Slash) (made_tied (op_at op.Slash) (symbol_tied s.Slash)) (
    choice_tied (the_word w.Div) (made_tied (op_at op.Div) (word_tied w.Div))
    (made_tied (op_at op.Rem) (word_tied w.Rem))))

pub shifting_tied : Tied read_shifting read_shifting
unfolding read_shifting
shifting_tied =
    choice_tied (the_word w.Shl) (made_tied (op_at op.Shl) (word_tied w.Shl)) (
    choice_tied (the_word w.Shr) (made_tied (op_at op.Shr) (word_tied w.Shr))
    (made_tied (op_at op.Power) (symbol_tied s.Power)))

pub relop_tied : Tied read_relop read_relop
unfolding read_relop
relop_tied =
    choice_tied (the_symbol s.Equal) (made_tied (relop_at rel_op.Equal) (symbol_tied s.Equal)) (
    choice_tied (the_symbol s.NotEqual) (made_tied (relop_at rel_op.NotEqual) (symbol_tied s.NotEqual)) (
    choice_tied (the_symbol s.Less) (made_tied (relop_at rel_op.Less) (symbol_tied s.Less)) (
    choice_tied (the_symbol s.LessEqual) (made_tied (relop_at rel_op.LessEqual) (symbol_tied s.LessEqual)) (
    choice_tied (the_symbol s.Greater) (made_tied (relop_at rel_op.Greater) (symbol_tied s.Greater))
    (made_tied (relop_at rel_op.GreaterEqual) (symbol_tied s.GreaterEqual))))))

pub goto_tied : Tied read_goto read_goto
unfolding read_goto
goto_tied = choice_tied (the_word w.Goto) (made_tied goto_of (both_tied (word_tied w.Goto) name_tied)) (made_tied goto_of (both_tied (word_tied w.Go) (right_tied (word_tied w.To) name_tied)))

-- what nests

label_not_end : (t k : Token) (l : Placed) → label_taken t k ≡ Some l → (kind_number t.kind ≡ 69 → ⊥) × (kind_number k.kind ≡ 69 → ⊥)
label_not_end t k l e = go (name_taken t) refl (is_symbol Colon k.kind) refl e
  where
    go : (o : Option Placed) → name_taken t ≡ o → (c : Bool) → is_symbol Colon k.kind ≡ c → labels o c ≡ Some l → (kind_number t.kind ≡ 69 → ⊥) × (kind_number k.kind ≡ 69 → ⊥)
    go (Some n) h true i e = (not_finish name_taken (λ p. refl) t n h, not_finish (symbol_taken Colon) (λ p. refl) k k.place (rw (i, cond) refl))
    go (Some n) h false i e = cc
    go None h c i e = cc

module _ (r q : Readers) (ok : TiedLevels r q) where
  pub perhaps_tied : Tied (read_perhaps r) (read_perhaps q)
  unfolding read_perhaps
  perhaps_tied = choice_tied first_phrase ok.phrase (empty_tied empty_at)

  pub bound_tied : Tied (read_bound r) (read_bound q)
  unfolding read_bound
  bound_tied = made_tied bound_of (both_tied ok.phrase (both_tied (symbol_tied s.Bounds) ok.phrase))

  pub procedure_tied : Tied (read_procedure r) (read_procedure q)
  unfolding read_procedure
  procedure_tied = made_tied procedure_of (both_tied (word_tied w.Procedure) (both_tied name_tied (both_tied (left_tied formals_tied (symbol_tied s.Semicolon)) perhaps_tied)))

  pub decl_end_tied : Tied (read_decl_end r) (read_decl_end q)
  unfolding read_decl_end
  decl_end_tied =
      choice_tied (the_word w.Array) (made_tied array_decl (right_tied (word_tied w.Array) (both_tied names_tied (parens_tied (separated_tied s.Comma bound_tied))))) (
      choice_tied (the_word w.Procedure) (made_tied typed procedure_tied)
      (made_tied simple_decl names_tied))

  pub decl_tied : Tied (read_decl r) (read_decl q)
  unfolding read_decl
  decl_tied = choice_tied (the_word w.Procedure) (made_tied untyped procedure_tied) (choice_tied (the_word w.Record) class_tied (applied_tied type_tied decl_end_tied))

  pub item_tied : Tied (read_item r) (read_item q)
  unfolding read_item
  item_tied = made_tied item_of (labelled_tied label_taken label_not_end perhaps_tied)

  pub block_tied : Tied (read_block r) (read_block q)
  unfolding read_block
  block_tied = made_tied block_of (both_tied (word_tied w.Begin) (both_tied (many_tied first_decl (left_tied decl_tied (symbol_tied s.Semicolon))) (left_tied (separated_tied s.Semicolon item_tied) (word_tied w.End))))

  pub actual_tied : Tied (read_actual r) (read_actual q)
  unfolding read_actual
  actual_tied = choice_tied (the_symbol s.Star) (made_tied Star (symbol_tied s.Star)) (made_tied Given ok.phrase)

  pub list_tied : Tied (read_list r) (read_list q)
  unfolding read_list
  list_tied =
      let actuals = later_tied s.Comma actual_tied in
      choice_tied (the_symbol s.Star) (made_tied actuals_from_star (both_tied (symbol_tied s.Star) actuals))
      (applied_tied ok.phrase (choice_tied (the_symbol s.Bar) (made_tied part_of (right_tied (symbol_tied s.Bar) number_tied)) (made_tied actuals_from actuals)))

  pub listing_tied : Tied (read_listing r) (read_listing q)
  unfolding read_listing
  listing_tied = applied_tied (symbol_tied s.Open) (left_tied list_tied (symbol_tied s.Close))

  pub prim_tied : Tied (read_prim r) (read_prim q)
  unfolding read_prim
  prim_tied =
      choice_tied (the_word w.Abs) ok.absolute (
      choice_tied (the_symbol s.Open) (parens_tied ok.phrase) (
      choice_tied (the_word w.Begin) block_tied (
      choice_tied a_name (made_tied named_of (both_tied name_tied (many_tied (the_symbol s.Open) listing_tied)))
      literal_tied)))

  pub shift_tied : Tied (read_shift r) (read_shift q)
  unfolding read_shift
  shift_tied = chain_tied shifting prim_tied shifting_tied prim_tied

  pub term_tied : Tied (read_term r) (read_term q)
  unfolding read_term
  term_tied = chain_tied multiplying shift_tied multiplying_tied shift_tied

  pub signed_tied : Tied (read_signed r) (read_signed q)
  unfolding read_signed
  signed_tied =
      choice_tied (the_symbol s.Plus) (made_tied (signed_of false) (both_tied (symbol_tied s.Plus) term_tied)) (
      choice_tied (the_symbol s.Minus) (made_tied (signed_of true) (both_tied (symbol_tied s.Minus) term_tied))
      term_tied)

  pub sum_tied : Tied (read_sum r) (read_sum q)
  unfolding read_sum
  sum_tied = chain_tied adding signed_tied adding_tied term_tied

  pub relation_end_tied : Tied (read_relation_end r) (read_relation_end q)
  unfolding read_relation_end
  relation_end_tied =
      choice_tied (the_word w.Is) (made_tied class_test (both_tied (word_tied w.Is) name_tied)) (
      choice_tied comparing (made_tied relation_of (both_tied relop_tied sum_tied))
      (nothing_tied same))

  pub rel_tied : Tied (read_rel r) (read_rel q)
  unfolding read_rel
  rel_tied = applied_tied sum_tied relation_end_tied

  pub neg_tied : Tied (read_neg r) (read_neg q)
  unfolding read_neg
  neg_tied = choice_tied (the_symbol s.Not) ok.negation rel_tied

  pub conj_tied : Tied (read_conj r) (read_conj q)
  unfolding read_conj
  conj_tied = chain_tied (the_word w.And) neg_tied and_tied neg_tied

  pub disj_tied : Tied (read_disj r) (read_disj q)
  unfolding read_disj
  disj_tied = chain_tied (the_word w.Or) conj_tied or_tied conj_tied

  pub assign_end_tied : Tied (read_assign_end r) (read_assign_end q)
  unfolding read_assign_end
  assign_end_tied = choice_tied (the_symbol s.Becomes) (made_tied assign_of (both_tied (symbol_tied s.Becomes) ok.phrase)) (nothing_tied same)

  pub assignment_tied : Tied (read_assignment r) (read_assignment q)
  unfolding read_assignment
  assignment_tied = applied_tied disj_tied assign_end_tied

  pub if_tied : Tied (read_if r) (read_if q)
  unfolding read_if
  if_tied = made_tied if_of (both_tied (word_tied w.If) (both_tied (left_tied ok.phrase (word_tied w.Then)) (both_tied perhaps_tied (else_tied (right_tied (word_tied w.Else) perhaps_tied)))))

  pub case_end_tied : Tied (read_case_end r) (read_case_end q)
  unfolding read_case_end
  case_end_tied =
      choice_tied (the_symbol s.Open) (made_tied case_value (parens_tied (separated_tied s.Comma ok.phrase)))
      (made_tied case_do (right_tied (word_tied w.Begin) (left_tied (separated_tied s.Semicolon perhaps_tied) (word_tied w.End))))

  pub case_tied : Tied (read_case r) (read_case q)
  unfolding read_case
  case_tied = made_tied case_of (both_tied (word_tied w.Case) (applied_tied (left_tied ok.phrase (word_tied w.Of)) case_end_tied))

  pub for_end_tied : Tied (read_for_end r) (read_for_end q)
  unfolding read_for_end
  for_end_tied =
      choice_tied listing_values (made_tied for_list (left_tied (later_tied s.Comma ok.phrase) (word_tied w.Do)))
      (made_tied for_step (both_tied (optional_tied (the_word w.Step) (right_tied (word_tied w.Step) ok.phrase)) (right_tied (word_tied w.Until) (left_tied ok.phrase (word_tied w.Do)))))

  pub for_tied : Tied (read_for r) (read_for q)
  unfolding read_for
  for_tied = made_tied for_of (both_tied (word_tied w.For) (both_tied (left_tied name_tied (symbol_tied s.Becomes)) (both_tied ok.phrase (both_tied for_end_tied perhaps_tied))))

  pub while_tied : Tied (read_while r) (read_while q)
  unfolding read_while
  while_tied = made_tied while_of (both_tied (word_tied w.While) (both_tied (left_tied ok.phrase (word_tied w.Do)) perhaps_tied))

  pub assert_tied : Tied (read_assert r) (read_assert q)
  unfolding read_assert
  assert_tied = made_tied assert_of (both_tied (word_tied w.Assert) ok.phrase)

  pub phrase_tied : Tied (read_phrase r) (read_phrase q)
  unfolding read_phrase
  phrase_tied =
      choice_tied (the_word w.If) if_tied (
      choice_tied (the_word w.Case) case_tied (
      choice_tied (the_word w.For) for_tied (
      choice_tied (the_word w.While) while_tied (
      choice_tied first_goto goto_tied (
      choice_tied (the_word w.Assert) assert_tied
      assignment_tied)))))

  pub negation_tied : Tied (read_negation r) (read_negation q)
  unfolding read_negation
  negation_tied = made_tied negated_of (both_tied (symbol_tied s.Not) neg_tied)

  pub absolute_tied : Tied (read_absolute r) (read_absolute q)
  unfolding read_absolute
  absolute_tied = made_tied absolute_of (both_tied (word_tied w.Abs) prim_tied)

-- where so many levels of nesting are left
pub levels_tied : (unread : (r : Readers) → UnreadLevels r → UnreadLevels (record { phrase = read_phrase r; negation = read_negation r; absolute = read_absolute r })) → (unread_marked : (n room : ℕ) → UnreadLevels (marked n room)) → (n room : ℕ) → room < n → TiedLevels (marked n room) (readers room)
unfolding marked readers
levels_tied unread unread_marked zero room i = absurd (omega arith)
levels_tied unread unread_marked (suc n) zero i =
    let eats = eats_next (marked n zero) (leaves_levels n zero) (eats_levels n zero) in
    let refuses = unread (marked n zero) (unread_marked n zero) in
    record {
      phrase = beyond_tied (read_phrase (marked n zero)) first_phrase eats.phrase refuses.phrase;
      negation = beyond_tied (read_negation (marked n zero)) (the_symbol s.Not) eats.negation refuses.negation;
      absolute = beyond_tied (read_absolute (marked n zero)) (the_word w.Abs) eats.absolute refuses.absolute;
    }
levels_tied unread unread_marked (suc n) (suc room) i =
    let ok = levels_tied unread unread_marked n room (omega arith) in
    record { phrase = phrase_tied (marked n room) (readers room) ok; negation = negation_tied (marked n room) (readers room) ok; absolute = absolute_tied (marked n room) (readers room) ok }

-- the end of the deck, behind a block and a stop

end_stops : (x : Phrase) (from : List Token) (o : Out Place) → Deep from ≡ cut (mapped left (behind x (Some from) o))
end_stops x from (Got p e r) = refl
end_stops x from (Bad e r) = refl
end_stops x from (Deep r) = refl

end_taken_cuts : (x : Phrase) (c : Option Place) (t : Token) (r : List Token) → mapped left (behind x None (taken c t r)) ≡ cut (mapped left (behind x None (taken c t r)))
end_taken_cuts x (Some p) t r = refl
end_taken_cuts x None t r = refl

end_token_cuts : (x : Phrase) (r : List Token) → mapped left (behind x None (read_token finish_taken r)) ≡ cut (mapped left (behind x None (read_token finish_taken r)))
end_token_cuts x [] = refl
end_token_cuts x (t ∷ r) = end_taken_cuts x (finish_taken t) t r

end_cuts : (o : Out Phrase) → mapped left (then (read_token finish_taken) (cut o)) ≡ cut (mapped left (then (read_token finish_taken) o))
end_cuts (Got x None r) = end_token_cuts x r
end_cuts (Got x (Some from) r) = end_stops x from (read_token finish_taken r)
end_cuts (Bad None r) = refl
end_cuts (Bad (Some from) r) = refl
end_cuts (Deep r) = refl

-- tokens that end the deck aren't none
not_none : (r r2 : List Token) → Ends r → r ≡ r2 → (t : Token) × (r3 : List Token) × (r2 ≡ t ∷ r3)
not_none [] r2 e h = absurd e
not_none (t ∷ r) r2 e h = (t, r, sym h)

end_refuses : (x : Phrase) (d : Beyond) (c : Option Place) (t : Token) (r r2 : List Token) → mapped left (behind x d (taken c t r)) ≡ Bad None r2 → (k : Token) × (r3 : List Token) × (r2 ≡ k ∷ r3)
end_refuses x d (Some p) t r r2 h = cc
end_refuses x d None t r r2 h = (t, r, sym (bad_rest {A = Phrase} (earlier d None) None (t ∷ r) r2 h))

end_not_deep : (x : Phrase) (d : Beyond) (c : Option Place) (t : Token) (r r2 : List Token) → mapped left (behind x d (taken c t r)) ≡ Deep r2 → ⊥
end_not_deep x d (Some p) t r r2 h = cc
end_not_deep x d None t r r2 h = cc

refused : (o : Out Phrase) (r2 : List Token) → EndsOut o → mapped left (then (read_token finish_taken) o) ≡ Bad None r2 → (t : Token) × (r3 : List Token) × (r2 ≡ t ∷ r3)
refused (Got x d []) r2 e h = absurd e
refused (Got x d (t ∷ r)) r2 e h = end_refuses x d (finish_taken t) t r r2 h
refused (Bad d r) r2 e h = not_none r r2 e (bad_rest {A = Phrase} d None r r2 h)
refused (Deep r) r2 e h = cc

stopped : (o : Out Phrase) (r2 : List Token) → EndsOut o → mapped left (then (read_token finish_taken) o) ≡ Deep r2 → (t : Token) × (r3 : List Token) × (r2 ≡ t ∷ r3)
stopped (Got x d []) r2 e h = absurd e
stopped (Got x d (t ∷ r)) r2 e h = absurd (end_not_deep x d (finish_taken t) t r r2 h)
stopped (Bad d r) r2 e h = cc
stopped (Deep r) r2 e h = not_none r r2 e (deep_rest {A = Phrase} r r2 h)

-- programs

module _ (r q : Readers) (ok : TiedLevels r q) where
  pub block_dot_tied : Tied (read_left (read_block r) (read_optional (the_symbol s.Stop) (read_symbol s.Stop))) (read_left (read_block q) (read_optional (the_symbol s.Stop) (read_symbol s.Stop)))
  block_dot_tied = left_tied (block_tied r q ok) (optional_tied (the_symbol s.Stop) (symbol_tied s.Stop))

  pub program_cuts : (w : List Token) → read_program_by q w ≡ cut (read_program_by r w)
  unfolding read_program_by
  program_cuts w = ap (λ o. mapped left (then (read_token finish_taken) o)) (block_dot_tied.cuts w) ∙ end_cuts (read_left (read_block r) (read_optional (the_symbol s.Stop) (read_symbol s.Stop)) w)

  -- Where the last token is the end of the deck, a refusal names a token.
  pub program_ends : (w r2 : List Token) → Ends w → read_program_by q w ≡ Bad None r2 → (t : Token) × (r3 : List Token) × (r2 ≡ t ∷ r3)
  unfolding read_program_by
  program_ends w r2 e h = refused (read_left (read_block q) (read_optional (the_symbol s.Stop) (read_symbol s.Stop)) w) r2 (block_dot_tied.ends w e) h

  pub program_ends_deep : (w r2 : List Token) → Ends w → read_program_by q w ≡ Deep r2 → (t : Token) × (r3 : List Token) × (r2 ≡ t ∷ r3)
  unfolding read_program_by
  program_ends_deep w r2 e h = stopped (read_left (read_block q) (read_optional (the_symbol s.Stop) (read_symbol s.Stop)) w) r2 (block_dot_tied.ends w e) h
