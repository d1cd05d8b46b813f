-- Each reader of the language that marks what goes beyond the limit keeps the end of the deck, and marks by a token.
use Rattle.std.proofs.Common.{◌≡◌, ℕ, zero, suc, true, false, List, [], ◌∷◌, subst, Option, Some, None}
use Rattle.value_ops.specs.declared.places.Place.{Place}
use Rattle.algolw_tree.specs.declared.tokens.Word.TheVariants as w
use Rattle.algolw_tree.specs.declared.tokens.Symbol.{Symbol}
use Rattle.algolw_tree.specs.declared.tokens.Symbol.TheVariants as s
use Rattle.algolw_tree.specs.declared.tokens.Token.{Token}
use Rattle.algolw_tree.specs.declared.phrases.Op.{Op}
use Rattle.algolw_tree.specs.Parts.{Beyond}
use Rattle.algolw_tree.specs.Tree.{Placed, Phrase, Star, Given}
use Rattle.algolw_tree.specs.Grammar.{left, right, applied, onto, same, empty_at, bound_of, procedure_of, array_decl, simple_decl, typed, untyped, item_of, block_of, part_of, actuals_from, actuals_from_star, named_of, link_of, chain_of, signed_of, relation_of, class_test, assign_of, if_of, case_value, case_do, case_of, for_step, for_list, for_of, while_of, assert_of, negated_of, absolute_of}
use Rattle.algolw_grammar.specs.Kinds.{kind_number, has, the_word, the_symbol, a_name}
use Rattle.algolw_grammar.specs.Readers.{Out, Got, Bad, Deep, Reader, taken, behind, then, mapped, read_token, read_left, read_right, read_applied}
use Rattle.algolw_grammar.specs.Taken.{label_taken, finish_taken}
use Rattle.algolw_grammar.specs.Reading.{Readers, read_parens, read_optional, read_later, read_separated, read_chain, read_links, first_phrase, read_perhaps, read_bound, read_procedure, read_decl_end, first_decl, read_decl, read_item, read_block, read_actual, read_list, read_listing, read_prim, adding, multiplying, shifting, read_shift, read_term, read_signed, read_sum, comparing, read_relation_end, read_rel, read_neg, read_conj, read_disj, read_assign_end, read_assignment, read_if, read_case_end, read_case, listing_values, read_for_end, read_for, read_while, read_assert, first_goto, read_phrase, read_negation, read_absolute, read_program_by}
use Rattle.algolw_grammar.proofs.Good.{Ends}
use Rattle.algolw_grammar.proofs.Marked.{marked}
use Rattle.algolw_grammar.proofs.LanguageUnread.{unread_next, unread_marked}
use Rattle.algolw_grammar.proofs.Labelling.{label_split, colon_has}
use Rattle.algolw_grammar.proofs.LanguageTied.{word_tied, symbol_tied, name_tied, number_tied, names_tied, type_tied, class_tied, formals_tied, literal_tied, or_tied, and_tied, adding_tied, multiplying_tied, shifting_tied, relop_tied, goto_tied}
use Rattle.algolw_grammar.proofs.Keeping.{SomeAt, some_earlier, Keeping, Keeps, keeps_tied, keeps_nothing, keeps_empty, keeps_both, keeps_made, keeps_choice, keeps_else, keeps_many, keeps_labelled, keeps_deep, keeps_beyond}

-- the parts of a part

keeps_left : {A B : Type 0} {p : Reader A} {q : Reader B} → Keeps p → Keeps q → Keeps (read_left p q)
keeps_left a b = keeps_made left (keeps_both a b)

keeps_right : {A B : Type 0} {p : Reader A} {q : Reader B} → Keeps p → Keeps q → Keeps (read_right p q)
keeps_right a b = keeps_made right (keeps_both a b)

keeps_applied : {A B : Type 0} {p : Reader A} {q : Reader (A → B)} → Keeps p → Keeps q → Keeps (read_applied p q)
keeps_applied a b = keeps_made applied (keeps_both a b)

keeps_parens : {A : Type 0} {p : Reader A} → Keeps p → Keeps (read_parens p)
keeps_parens a = keeps_right (keeps_tied (symbol_tied s.Open)) (keeps_left a (keeps_tied (symbol_tied s.Close)))

keeps_optional : {A : Type 0} (first : List ℕ) {p : Reader A} → Keeps p → Keeps (read_optional first p)
keeps_optional first a = keeps_choice first (keeps_made Some a) (keeps_nothing None)

keeps_later : {A : Type 0} (x : Symbol) {p : Reader A} → Keeps p → Keeps (read_later x p)
keeps_later x a = keeps_many (the_symbol x) (keeps_right (keeps_tied (symbol_tied x)) a)

keeps_separated : {A : Type 0} (x : Symbol) {p : Reader A} → Keeps p → Keeps (read_separated x p)
keeps_separated x a = keeps_made onto (keeps_both a (keeps_later x a))

keeps_links : (ops : List ℕ) {o : Reader (Op × Place)} {p : Reader Phrase} → Keeps o → Keeps p → Keeps (read_links ops o p)
keeps_links ops o a = keeps_many ops (keeps_made link_of (keeps_both o a))

keeps_chain : (ops : List ℕ) {f : Reader Phrase} {o : Reader (Op × Place)} {p : Reader Phrase} → Keeps f → Keeps o → Keeps p → Keeps (read_chain ops f o p)
keeps_chain ops f o a = keeps_made chain_of (keeps_both f (keeps_links ops o a))

-- no label ends with the end of the deck

colon_number : (n : ℕ) → has n (the_symbol s.Colon) ≡ true → n ≡ 69 → ⊥
colon_number n h e = let k : has 69 (the_symbol s.Colon) ≡ true = subst (λ n. has n (the_symbol s.Colon) ≡ true) e h in cc

label_not_end : (t k : Token) (l : Placed) → label_taken t k ≡ Some l → kind_number k.kind ≡ 69 → ⊥
label_not_end t k l h = colon_number (kind_number k.kind) (colon_has k ((label_split t k l h).1))

-- what nests

pub record KeepsLevels (r : Readers) : Type 0 where
  pub phrase : Keeps r.phrase
  pub negation : Keeps r.negation
  pub absolute : Keeps r.absolute

module _ (r : Readers) (ok : KeepsLevels r) where
  keeps_perhaps : Keeps (read_perhaps r)
  unfolding read_perhaps
  keeps_perhaps = keeps_choice first_phrase ok.phrase (keeps_empty empty_at)

  keeps_bound : Keeps (read_bound r)
  unfolding read_bound
  keeps_bound = keeps_made bound_of (keeps_both ok.phrase (keeps_both (keeps_tied (symbol_tied s.Bounds)) ok.phrase))

  keeps_procedure : Keeps (read_procedure r)
  unfolding read_procedure
  keeps_procedure = keeps_made procedure_of (keeps_both (keeps_tied (word_tied w.Procedure)) (keeps_both (keeps_tied name_tied) (keeps_both (keeps_left (keeps_tied formals_tied) (keeps_tied (symbol_tied s.Semicolon))) keeps_perhaps)))

  keeps_decl_end : Keeps (read_decl_end r)
  unfolding read_decl_end
  keeps_decl_end =
      keeps_choice (the_word w.Array) (keeps_made array_decl (keeps_right (keeps_tied (word_tied w.Array)) (keeps_both (keeps_tied names_tied) (keeps_parens (keeps_separated s.Comma keeps_bound))))) (
      keeps_choice (the_word w.Procedure) (keeps_made typed keeps_procedure)
      (keeps_made simple_decl (keeps_tied names_tied)))

  keeps_decl : Keeps (read_decl r)
  unfolding read_decl
  keeps_decl = keeps_choice (the_word w.Procedure) (keeps_made untyped keeps_procedure) (keeps_choice (the_word w.Record) (keeps_tied class_tied) (keeps_applied (keeps_tied type_tied) keeps_decl_end))

  keeps_item : Keeps (read_item r)
  unfolding read_item
  keeps_item = keeps_made item_of (keeps_labelled label_taken label_not_end keeps_perhaps)

  keeps_block : Keeps (read_block r)
  unfolding read_block
  keeps_block = keeps_made block_of (keeps_both (keeps_tied (word_tied w.Begin)) (keeps_both (keeps_many first_decl (keeps_left keeps_decl (keeps_tied (symbol_tied s.Semicolon)))) (keeps_left (keeps_separated s.Semicolon keeps_item) (keeps_tied (word_tied w.End)))))

  keeps_actual : Keeps (read_actual r)
  unfolding read_actual
  keeps_actual = keeps_choice (the_symbol s.Star) (keeps_made Star (keeps_tied (symbol_tied s.Star))) (keeps_made Given ok.phrase)

  keeps_list : Keeps (read_list r)
  unfolding read_list
  keeps_list =
      let actuals = keeps_later s.Comma keeps_actual in
      keeps_choice (the_symbol s.Star) (keeps_made actuals_from_star (keeps_both (keeps_tied (symbol_tied s.Star)) actuals))
      (keeps_applied ok.phrase (keeps_choice (the_symbol s.Bar) (keeps_made part_of (keeps_right (keeps_tied (symbol_tied s.Bar)) (keeps_tied number_tied))) (keeps_made actuals_from actuals)))

  keeps_listing : Keeps (read_listing r)
  unfolding read_listing
  keeps_listing = keeps_applied (keeps_tied (symbol_tied s.Open)) (keeps_left keeps_list (keeps_tied (symbol_tied s.Close)))

  keeps_prim : Keeps (read_prim r)
  unfolding read_prim
  keeps_prim =
      keeps_choice (the_word w.Abs) ok.absolute (
      keeps_choice (the_symbol s.Open) (keeps_parens ok.phrase) (
      keeps_choice (the_word w.Begin) keeps_block (
      keeps_choice a_name (keeps_made named_of (keeps_both (keeps_tied name_tied) (keeps_many (the_symbol s.Open) keeps_listing)))
      (keeps_tied literal_tied))))

  keeps_shift : Keeps (read_shift r)
  unfolding read_shift
  keeps_shift = keeps_chain shifting keeps_prim (keeps_tied shifting_tied) keeps_prim

  keeps_term : Keeps (read_term r)
  unfolding read_term
  keeps_term = keeps_chain multiplying keeps_shift (keeps_tied multiplying_tied) keeps_shift

  keeps_signed : Keeps (read_signed r)
  unfolding read_signed
  keeps_signed =
      keeps_choice (the_symbol s.Plus) (keeps_made (signed_of false) (keeps_both (keeps_tied (symbol_tied s.Plus)) keeps_term)) (
      keeps_choice (the_symbol s.Minus) (keeps_made (signed_of true) (keeps_both (keeps_tied (symbol_tied s.Minus)) keeps_term))
      keeps_term)

  keeps_sum : Keeps (read_sum r)
  unfolding read_sum
  keeps_sum = keeps_chain adding keeps_signed (keeps_tied adding_tied) keeps_term

  keeps_relation_end : Keeps (read_relation_end r)
  unfolding read_relation_end
  keeps_relation_end =
      keeps_choice (the_word w.Is) (keeps_made class_test (keeps_both (keeps_tied (word_tied w.Is)) (keeps_tied name_tied))) (
      keeps_choice comparing (keeps_made relation_of (keeps_both (keeps_tied relop_tied) keeps_sum))
      (keeps_nothing same))

  keeps_rel : Keeps (read_rel r)
  unfolding read_rel
  keeps_rel = keeps_applied keeps_sum keeps_relation_end

  keeps_neg : Keeps (read_neg r)
  unfolding read_neg
  keeps_neg = keeps_choice (the_symbol s.Not) ok.negation keeps_rel

  keeps_conj : Keeps (read_conj r)
  unfolding read_conj
  keeps_conj = keeps_chain (the_word w.And) keeps_neg (keeps_tied and_tied) keeps_neg

  keeps_disj : Keeps (read_disj r)
  unfolding read_disj
  keeps_disj = keeps_chain (the_word w.Or) keeps_conj (keeps_tied or_tied) keeps_conj

  keeps_assign_end : Keeps (read_assign_end r)
  unfolding read_assign_end
  keeps_assign_end = keeps_choice (the_symbol s.Becomes) (keeps_made assign_of (keeps_both (keeps_tied (symbol_tied s.Becomes)) ok.phrase)) (keeps_nothing same)

  keeps_assignment : Keeps (read_assignment r)
  unfolding read_assignment
  keeps_assignment = keeps_applied keeps_disj keeps_assign_end

  keeps_if : Keeps (read_if r)
  unfolding read_if
  keeps_if = keeps_made if_of (keeps_both (keeps_tied (word_tied w.If)) (keeps_both (keeps_left ok.phrase (keeps_tied (word_tied w.Then))) (keeps_both keeps_perhaps (keeps_else (keeps_right (keeps_tied (word_tied w.Else)) keeps_perhaps)))))

  keeps_case_end : Keeps (read_case_end r)
  unfolding read_case_end
  keeps_case_end =
      keeps_choice (the_symbol s.Open) (keeps_made case_value (keeps_parens (keeps_separated s.Comma ok.phrase)))
      (keeps_made case_do (keeps_right (keeps_tied (word_tied w.Begin)) (keeps_left (keeps_separated s.Semicolon keeps_perhaps) (keeps_tied (word_tied w.End)))))

  keeps_case : Keeps (read_case r)
  unfolding read_case
  keeps_case = keeps_made case_of (keeps_both (keeps_tied (word_tied w.Case)) (keeps_applied (keeps_left ok.phrase (keeps_tied (word_tied w.Of))) keeps_case_end))

  keeps_for_end : Keeps (read_for_end r)
  unfolding read_for_end
  keeps_for_end =
      keeps_choice listing_values (keeps_made for_list (keeps_left (keeps_later s.Comma ok.phrase) (keeps_tied (word_tied w.Do))))
      (keeps_made for_step (keeps_both (keeps_optional (the_word w.Step) (keeps_right (keeps_tied (word_tied w.Step)) ok.phrase)) (keeps_right (keeps_tied (word_tied w.Until)) (keeps_left ok.phrase (keeps_tied (word_tied w.Do))))))

  keeps_for : Keeps (read_for r)
  unfolding read_for
  keeps_for = keeps_made for_of (keeps_both (keeps_tied (word_tied w.For)) (keeps_both (keeps_left (keeps_tied name_tied) (keeps_tied (symbol_tied s.Becomes))) (keeps_both ok.phrase (keeps_both keeps_for_end keeps_perhaps))))

  keeps_while : Keeps (read_while r)
  unfolding read_while
  keeps_while = keeps_made while_of (keeps_both (keeps_tied (word_tied w.While)) (keeps_both (keeps_left ok.phrase (keeps_tied (word_tied w.Do))) keeps_perhaps))

  keeps_assert : Keeps (read_assert r)
  unfolding read_assert
  keeps_assert = keeps_made assert_of (keeps_both (keeps_tied (word_tied w.Assert)) ok.phrase)

  keeps_phrase : Keeps (read_phrase r)
  unfolding read_phrase
  keeps_phrase =
      keeps_choice (the_word w.If) keeps_if (
      keeps_choice (the_word w.Case) keeps_case (
      keeps_choice (the_word w.For) keeps_for (
      keeps_choice (the_word w.While) keeps_while (
      keeps_choice first_goto (keeps_tied goto_tied) (
      keeps_choice (the_word w.Assert) keeps_assert
      keeps_assignment)))))

  keeps_negation : Keeps (read_negation r)
  unfolding read_negation
  keeps_negation = keeps_made negated_of (keeps_both (keeps_tied (symbol_tied s.Not)) keeps_neg)

  keeps_absolute : Keeps (read_absolute r)
  unfolding read_absolute
  keeps_absolute = keeps_made absolute_of (keeps_both (keeps_tied (word_tied w.Abs)) keeps_prim)

-- where so many levels of nesting are left
keeps_levels : (n room : ℕ) → KeepsLevels (marked n room)
unfolding marked
keeps_levels zero room = record { phrase = keeps_deep Phrase first_phrase; negation = keeps_deep Phrase (the_symbol s.Not); absolute = keeps_deep Phrase (the_word w.Abs) }
keeps_levels (suc n) zero =
    let refuses = unread_next (marked n zero) (unread_marked n zero) in
    let ok = keeps_levels n zero in
    record { phrase = keeps_beyond refuses.phrase (keeps_phrase _ ok); negation = keeps_beyond refuses.negation (keeps_negation _ ok); absolute = keeps_beyond refuses.absolute (keeps_absolute _ ok) }
keeps_levels (suc n) (suc room) =
    let ok = keeps_levels n room in
    record { phrase = keeps_phrase _ ok; negation = keeps_negation _ ok; absolute = keeps_absolute _ ok }

-- What the reader of a program gives of tokens w: where it refuses one, what is left ends the deck where w does.
abbrev pub Finishing : List Token → Out Phrase → Type 0
Finishing w (Got x d r) = SomeAt d
Finishing w (Bad d r) = SomeAt d × (Ends w → Ends r)
Finishing w (Deep r) = Unit {0}

taken_finishes : (x : Phrase) (d : Beyond) (c : Option Place) (t : Token) (r w : List Token) → SomeAt d → (Ends w → Ends (t ∷ r)) → Finishing w (mapped left (behind x d (taken c t r)))
taken_finishes x d (Some p) t r w s i = some_earlier d None s tt
taken_finishes x d None t r w s i = (some_earlier d None s tt, i)

kept_finishes : (o : Out Phrase) (w : List Token) → Keeping w o → Finishing w (mapped left (then (read_token finish_taken) o))
kept_finishes (Got x d []) w h = (some_earlier d None (h.0) tt, h.1)
kept_finishes (Got x d (t ∷ r)) w h = taken_finishes x d (finish_taken t) t r w (h.0) (h.1)
kept_finishes (Bad d r) w h = h
kept_finishes (Deep r) w h = tt

pub program_finishes : (n : ℕ) (w : List Token) → Finishing w (read_program_by (marked n 99) w)
unfolding read_program_by
program_finishes n w =
    let block_dot = keeps_left (keeps_block (marked n 99) (keeps_levels n 99)) (keeps_optional (the_symbol s.Stop) (keeps_tied (symbol_tied s.Stop))) in
    kept_finishes _ w (block_dot.keeps w)
