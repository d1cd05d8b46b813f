-- What begins a phrase, what begins with ~ and what begins with ABS read nothing where the next token is of none of their kinds.
use Rattle.std.proofs.Common.{◌≡◌, ℕ, ℤ, zero, suc, Bool, true, false, List, [], ◌∷◌, refl, ◌∙◌, Some, None, cond}
use Rattle.value_ops.specs.declared.places.Place.{Place}
use Rattle.algolw_tree.specs.declared.tokens.Word.{Word}
use Rattle.algolw_tree.specs.declared.tokens.Word.TheVariants as w
use Rattle.algolw_tree.specs.declared.tokens.Symbol.{Symbol}
use Rattle.algolw_tree.specs.declared.tokens.Symbol.TheVariants as s
use Rattle.algolw_tree.specs.declared.tokens.TokenKind.{TokenKind}
use Rattle.algolw_tree.specs.declared.tokens.TokenKind.TheVariants.{Word as AWord, Named, Number, BitsLit, Quoted, Symbol as ASymbol, Finish}
use Rattle.algolw_tree.specs.Tree.{Placed, Phrase, Link}
use Rattle.algolw_tree.specs.Grammar.{right, applied, number_of, bits_of, string_of, named_of, chain_of, if_of, case_of, for_of, while_of, goto_of, assert_of, negated_of, absolute_of}
use Rattle.algolw_grammar.specs.Kinds.{kind_number, has, the_word, the_symbol, a_name}
use Rattle.algolw_grammar.specs.Readers.{Reader, read_both, read_made}
use Rattle.algolw_grammar.specs.Taken.{is_word, is_symbol, word_taken, symbol_taken, name_taken, number_taken, bits_taken, string_taken}
use Rattle.algolw_grammar.specs.Reading.{Readers, read_word, read_symbol, read_name, first_literal, first_prim, first_rel, first_neg, first_goto, first_phrase, read_block, read_literal, read_prim, read_shift, read_term, read_signed, read_sum, read_rel, read_neg, read_conj, read_disj, read_assignment, read_if, read_case, read_for, read_while, read_goto, read_assert, read_phrase, read_negation, read_absolute}
use Rattle.algolw_grammar.proofs.Sets.{or_left}
use Rattle.algolw_grammar.proofs.Numbers.{word_opens}
use Rattle.algolw_grammar.proofs.Unread.{Unread, unread_token, unread_both, unread_made, unread_choice, unread_deep, unread_beyond}
use Rattle.algolw_grammar.proofs.Marked.{marked, UnreadLevels}

-- tokens

cond_some : (b : Bool) (p q : Place) → cond b (Some p) None ≡ Some q → b ≡ true
cond_some true p q e = refl
cond_some false p q e = cc

symbol_has : (x : Symbol) (k : TokenKind) → is_symbol x k ≡ true → has (kind_number k) (the_symbol x) ≡ true
symbol_has x (ASymbol y) e = or_left _ false e
symbol_has x (AWord y) e = cc
symbol_has x (Named n) e = cc
symbol_has x (Number n) e = cc
symbol_has x (BitsLit n) e = cc
symbol_has x (Quoted n) e = cc
symbol_has x Finish e = cc

name_has : (k : TokenKind) (p : Place) (x : Placed) → name_taken (record { place = p; kind = k }) ≡ Some x → has (kind_number k) a_name ≡ true
name_has (Named n) p x e = refl
name_has (AWord y) p x e = cc
name_has (ASymbol y) p x e = cc
name_has (Number n) p x e = cc
name_has (BitsLit n) p x e = cc
name_has (Quoted n) p x e = cc
name_has Finish p x e = cc

number_has : (k : TokenKind) (p : Place) (x : ℤ × Place) → number_taken (record { place = p; kind = k }) ≡ Some x → has (kind_number k) (66 ∷ []) ≡ true
number_has (Number n) p x e = refl
number_has (AWord y) p x e = cc
number_has (ASymbol y) p x e = cc
number_has (Named n) p x e = cc
number_has (BitsLit n) p x e = cc
number_has (Quoted n) p x e = cc
number_has Finish p x e = cc

bits_has : (k : TokenKind) (p : Place) (x : ℕ × Place) → bits_taken (record { place = p; kind = k }) ≡ Some x → has (kind_number k) (67 ∷ []) ≡ true
bits_has (BitsLit n) p x e = refl
bits_has (AWord y) p x e = cc
bits_has (ASymbol y) p x e = cc
bits_has (Named n) p x e = cc
bits_has (Number n) p x e = cc
bits_has (Quoted n) p x e = cc
bits_has Finish p x e = cc

string_has : (k : TokenKind) (p : Place) (x : List ℕ × Place) → string_taken (record { place = p; kind = k }) ≡ Some x → has (kind_number k) (68 ∷ []) ≡ true
string_has (Quoted n) p x e = refl
string_has (AWord y) p x e = cc
string_has (ASymbol y) p x e = cc
string_has (Named n) p x e = cc
string_has (Number n) p x e = cc
string_has (BitsLit n) p x e = cc
string_has Finish p x e = cc

unread_word : (x : Word) → Unread (read_word x) (the_word x)
unread_word x = unread_token (word_taken x) (the_word x) (λ t p e. word_opens x t.kind ∙ cond_some (is_word x t.kind) t.place p e)

unread_symbol : (x : Symbol) → Unread (read_symbol x) (the_symbol x)
unread_symbol x = unread_token (symbol_taken x) (the_symbol x) (λ t p e. symbol_has x t.kind (cond_some (is_symbol x t.kind) t.place p e))

unread_name : Unread read_name a_name
unread_name = unread_token name_taken a_name (λ t x e. name_has t.kind t.place x e)

-- what begins a phrase

unread_block : (r : Readers) → Unread (read_block r) (the_word w.Begin)
unfolding read_block
unread_block r = unread_made _ (unread_both _ (unread_word w.Begin))

unread_literal : Unread read_literal first_literal
unfolding read_literal
unread_literal =
    let number = unread_token number_taken (66 ∷ []) (λ t x e. number_has t.kind t.place x e) in
    let bits = unread_token bits_taken (67 ∷ []) (λ t x e. bits_has t.kind t.place x e) in
    let string = unread_token string_taken (68 ∷ []) (λ t x e. string_has t.kind t.place x e) in
    unread_choice (unread_made number_of number) (unread_choice (unread_made bits_of bits) (unread_choice (unread_made string_of string) (unread_choice (unread_made _ (unread_word w.True)) (unread_choice (unread_made _ (unread_word w.False)) (unread_made _ (unread_word w.Null))))))

unread_prim : (r : Readers) → UnreadLevels r → Unread (read_prim r) first_prim
unfolding read_prim
unread_prim r u =
    let nested = unread_made right (unread_both _ (unread_symbol s.Open)) in
    let named = unread_made named_of (unread_both _ unread_name) in
    unread_choice u.absolute (unread_choice nested (unread_choice (unread_block r) (unread_choice named unread_literal)))

unread_chain : {r : Reader Phrase} {s : List ℕ} (q : Reader (List Link)) → Unread r s → Unread (read_made chain_of (read_both r q)) s
unread_chain q u = unread_made chain_of (unread_both q u)

unread_shift : (r : Readers) → UnreadLevels r → Unread (read_shift r) first_prim
unfolding read_shift
unread_shift r u = unread_chain _ (unread_prim r u)

unread_term : (r : Readers) → UnreadLevels r → Unread (read_term r) first_prim
unfolding read_term
unread_term r u = unread_chain _ (unread_shift r u)

unread_signed : (r : Readers) → UnreadLevels r → Unread (read_signed r) first_rel
unfolding read_signed
unread_signed r u = unread_choice (unread_made _ (unread_both _ (unread_symbol s.Plus))) (unread_choice (unread_made _ (unread_both _ (unread_symbol s.Minus))) (unread_term r u))

unread_sum : (r : Readers) → UnreadLevels r → Unread (read_sum r) first_rel
unfolding read_sum
unread_sum r u = unread_chain _ (unread_signed r u)

unread_rel : (r : Readers) → UnreadLevels r → Unread (read_rel r) first_rel
unfolding read_rel
unread_rel r u = unread_made applied (unread_both _ (unread_sum r u))

unread_neg : (r : Readers) → UnreadLevels r → Unread (read_neg r) first_neg
unfolding read_neg
unread_neg r u = unread_choice u.negation (unread_rel r u)

unread_conj : (r : Readers) → UnreadLevels r → Unread (read_conj r) first_neg
unfolding read_conj
unread_conj r u = unread_chain _ (unread_neg r u)

unread_disj : (r : Readers) → UnreadLevels r → Unread (read_disj r) first_neg
unfolding read_disj
unread_disj r u = unread_chain _ (unread_conj r u)

unread_assignment : (r : Readers) → UnreadLevels r → Unread (read_assignment r) first_neg
unfolding read_assignment
unread_assignment r u = unread_made applied (unread_both _ (unread_disj r u))

unread_goto : Unread read_goto first_goto
unfolding read_goto
unread_goto = unread_choice (unread_made goto_of (unread_both _ (unread_word w.Goto))) (unread_made goto_of (unread_both _ (unread_word w.Go)))

unread_phrase : (r : Readers) → UnreadLevels r → Unread (read_phrase r) first_phrase
unfolding read_phrase read_if read_case read_for read_while read_assert
unread_phrase r u =
    unread_choice (unread_made if_of (unread_both _ (unread_word w.If))) (
    unread_choice (unread_made case_of (unread_both _ (unread_word w.Case))) (
    unread_choice (unread_made for_of (unread_both _ (unread_word w.For))) (
    unread_choice (unread_made while_of (unread_both _ (unread_word w.While))) (
    unread_choice unread_goto (
    unread_choice (unread_made assert_of (unread_both _ (unread_word w.Assert)))
    (unread_assignment r u))))))

pub unread_next : (r : Readers) → UnreadLevels r → UnreadLevels (record { phrase = read_phrase r; negation = read_negation r; absolute = read_absolute r })
unfolding read_negation read_absolute
unread_next r u = record {
  phrase = unread_phrase r u;
  negation = unread_made negated_of (unread_both _ (unread_symbol s.Not));
  absolute = unread_made absolute_of (unread_both _ (unread_word w.Abs));
}

pub unread_marked : (n room : ℕ) → UnreadLevels (marked n room)
unfolding marked
unread_marked zero room = record { phrase = unread_deep first_phrase; negation = unread_deep (the_symbol s.Not); absolute = unread_deep (the_word w.Abs) }
unread_marked (suc n) zero =
    let next = unread_next (marked n zero) (unread_marked n zero) in
    record { phrase = unread_beyond next.phrase; negation = unread_beyond next.negation; absolute = unread_beyond next.absolute }
unread_marked (suc n) (suc room) = unread_next (marked n room) (unread_marked n room)
