-- That the readers read the language.
use Rattle.std.proofs.Common.{◌≡◌, ℕ, zero, suc, true, false, List, [], ◌∷◌, ◌++◌, refl, inl, inr, ap, subst, ◌∙◌, arith, Option, Some, None}
use Rattle.algolw_tree.specs.declared.tokens.Token.{Token}
use Rattle.algolw_tree.specs.declared.tokens.Word.TheVariants as w
use Rattle.algolw_tree.specs.declared.tokens.Symbol.TheVariants as s
use Rattle.value_ops.specs.declared.places.Place.{Place}
use Rattle.algolw_tree.specs.declared.phrases.Op.{Op}
use Rattle.algolw_tree.specs.Tree.{Placed, Phrase, Star, Given}
use Rattle.algolw_tree.specs.Parts.{Beyond, Part, token, nothing, empty, both, choice, made, many, beyond, nowhere, at_first}
use Rattle.algolw_tree.specs.Grammar.{◌⊛◌, name_at, name, chain, links, Levels, same, empty_at, perhaps, bound_of, bound, procedure_of, procedure, array_decl, simple_decl, typed, untyped, decl_end, decl, item_of, item, block_of, block, actual, part_of, actuals_from, actuals_from_star, list, listing, named_of, prim, shift, term, signed_of, signed, sum, relation_of, class_test, relation_end, rel, neg, conj, disj, assign_of, assign_end, assignment, if_of, if_phrase, case_value, case_do, case_of, case_end, case_phrase, for_step, for_list, for_of, for_end, for_phrase, while_of, while_phrase, assert_of, assert_phrase, phrase, negated_of, negation, absolute_of, absolute, levels, program}
use Rattle.algolw_grammar.specs.Kinds.{kind_number, has, the_word, the_symbol, a_name}
use Rattle.algolw_grammar.specs.Readers.{Out, Got, Bad, Deep}
use Rattle.algolw_grammar.specs.Taken.{is_symbol, name_taken, label_taken}
use Rattle.algolw_grammar.specs.Reading.{Readers, first_prim, first_rel, first_neg, first_phrase, first_decl, read_perhaps, read_bound, read_procedure, read_decl_end, read_decl, read_item, read_block, read_actual, read_list, read_listing, read_prim, adding, multiplying, shifting, comparing, read_shift, read_term, read_signed, read_sum, read_relation_end, read_rel, read_neg, read_conj, read_disj, read_assign_end, read_assignment, read_if, read_case_end, read_case, listing_values, read_for_end, read_for, read_while, read_assert, read_phrase, read_negation, read_absolute, read_program_by}
use Rattle.algolw_grammar.proofs.Sets.{apart_has}
use Rattle.algolw_grammar.proofs.Good.{before, Agrees, Eaten, Good, Behind, append_nil}
use Rattle.algolw_grammar.proofs.Both.{nothing_good, empty_good, both_good, made_good, left_good, right_good, applied_good}
use Rattle.algolw_grammar.proofs.Choice.{choice_good, wide_good, else_good, beyond_good, nowhere_good}
use Rattle.algolw_grammar.proofs.Many.{many_good}
use Rattle.algolw_grammar.proofs.Labelling.{name_of, colon_has, label_split}
use Rattle.algolw_grammar.proofs.Labels.{labelled_good}
use Rattle.algolw_grammar.proofs.Marked.{marked}
use Rattle.algolw_grammar.proofs.Terminals.{word_good, symbol_good, name_good, number_good, finish_good}
use Rattle.algolw_grammar.proofs.LanguageTypes.{parens_good, optional_good, later_good, separated_good, chain_good, names_good, type_good, class_good, formals_good, literal_good, or_good, and_good, adding_good, multiplying_good, shifting_good, relop_good, goto_good}

-- the tokens with which a complete one may go on

abbrev pub last_prim : List ℕ
last_prim = the_symbol s.Open

abbrev pub last_shift : List ℕ
last_shift = shifting ++ last_prim

abbrev pub last_term : List ℕ
last_term = multiplying ++ last_shift

abbrev pub last_sum : List ℕ
last_sum = adding ++ last_term

abbrev pub last_rel : List ℕ
last_rel = the_word w.Is ++ comparing ++ last_sum

abbrev pub last_conj : List ℕ
last_conj = the_word w.And ++ last_rel

abbrev pub last_disj : List ℕ
last_disj = the_word w.Or ++ last_conj

abbrev pub last_phrase : List ℕ
last_phrase = the_symbol s.Becomes ++ last_disj ++ first_phrase

abbrev pub last_decl : List ℕ
last_decl = the_symbol s.Comma ++ last_phrase

abbrev pub last_item : List ℕ
last_item = a_name ++ the_symbol s.Colon ++ last_phrase

abbrev pub first_actual : List ℕ
first_actual = the_symbol s.Star ++ first_phrase

abbrev pub last_list : List ℕ
last_list = the_symbol s.Comma ++ the_symbol s.Bar ++ last_phrase

pub record GoodLevels (l : Levels) (r : Readers) : Type 0 where
  pub phrase : Good l.phrase r.phrase first_phrase last_phrase false
  pub negation : Good l.negation r.negation (the_symbol s.Not) last_rel false
  pub absolute : Good l.absolute r.absolute (the_word w.Abs) last_prim false
  pub behind : Behind label_taken name_taken (perhaps l) (read_perhaps r)

module _ (l : Levels) (r : Readers) (ok : GoodLevels l r) where
  pub perhaps_good : Good (perhaps l) (read_perhaps r) first_phrase last_phrase true
  unfolding perhaps read_perhaps
  perhaps_good = wide_good (choice_good ok.phrase (empty_good empty_at) refl) _ _ refl refl

  -- declarations

  pub bound_good : Good (bound l) (read_bound r) first_phrase last_phrase false
  unfolding bound read_bound
  bound_good = wide_good (made_good bound_of (both_good ok.phrase (both_good (symbol_good s.Bounds) ok.phrase refl) refl)) _ _ refl refl

  pub procedure_good : Good (procedure l) (read_procedure r) (the_word w.Procedure) last_phrase false
  unfolding procedure read_procedure
  procedure_good =
      let heading = left_good formals_good (symbol_good s.Semicolon) refl in
      let body = both_good heading perhaps_good refl in
      wide_good (made_good procedure_of (both_good (word_good w.Procedure) (both_good name_good body refl) refl)) _ _ refl refl

  pub decl_end_good : Good (decl_end l) (read_decl_end r) (the_word w.Array ++ the_word w.Procedure ++ a_name) last_decl false
  unfolding decl_end read_decl_end
  decl_end_good =
      let bounds = parens_good (separated_good s.Comma bound_good refl refl) refl in
      let array = made_good array_decl (right_good (word_good w.Array) (both_good names_good bounds refl) refl) in
      let others = choice_good (made_good typed procedure_good) (made_good simple_decl names_good) refl in
      wide_good (choice_good array others refl) _ _ refl refl

  pub decl_good : Good (decl l) (read_decl r) first_decl last_decl false
  unfolding decl read_decl
  decl_good =
      let others = choice_good class_good (applied_good type_good decl_end_good refl) refl in
      wide_good (choice_good (made_good untyped procedure_good) others refl) _ _ refl refl

  -- blocks

  pub item_good : Good (item l) (read_item r) first_phrase last_item true
  unfolding item read_item
  item_good = wide_good (made_good item_of (labelled_good perhaps_good ok.behind)) _ _ refl refl

  pub block_good : Good (block l) (read_block r) (the_word w.Begin) [] false
  unfolding block read_block
  block_good =
      let decls = many_good (left_good decl_good (symbol_good s.Semicolon) refl) refl in
      let items = left_good (separated_good s.Semicolon item_good refl refl) (word_good w.End) refl in
      made_good block_of (both_good (word_good w.Begin) (both_good decls items refl) refl)

  -- expressions

  pub actual_good : Good (actual l) (read_actual r) first_actual last_phrase false
  unfolding actual read_actual
  actual_good = wide_good (choice_good (made_good Star (symbol_good s.Star)) (made_good Given ok.phrase) refl) _ _ refl refl

  pub list_good : Good (list l) (read_list r) first_actual last_list false
  unfolding list read_list
  list_good =
      let actuals = later_good s.Comma actual_good refl in
      let star = made_good actuals_from_star (both_good (symbol_good s.Star) actuals refl) in
      let part = made_good part_of (right_good (symbol_good s.Bar) number_good refl) in
      let end = choice_good part (made_good actuals_from actuals) refl in
      wide_good (choice_good star (applied_good ok.phrase end refl) refl) _ _ refl refl

  pub listing_good : Good (listing l) (read_listing r) (the_symbol s.Open) [] false
  unfolding listing read_listing
  listing_good = applied_good (symbol_good s.Open) (left_good list_good (symbol_good s.Close) refl) refl

  pub prim_good : Good (prim l) (read_prim r) first_prim last_prim false
  unfolding prim read_prim
  prim_good =
      let named = made_good named_of (both_good name_good (many_good listing_good refl) refl) in
      let others = choice_good block_good (choice_good named literal_good refl) refl in
      wide_good (choice_good ok.absolute (choice_good (parens_good ok.phrase refl) others refl) refl) _ _ refl refl

  pub shift_good : Good (shift l) (read_shift r) first_prim last_shift false
  unfolding shift read_shift
  shift_good = wide_good (chain_good prim_good shifting_good prim_good refl refl) _ _ refl refl

  pub term_good : Good (term l) (read_term r) first_prim last_term false
  unfolding term read_term
  term_good = wide_good (chain_good shift_good multiplying_good shift_good refl refl) _ _ refl refl

  pub signed_good : Good (signed l) (read_signed r) first_rel last_term false
  unfolding signed read_signed
  signed_good =
      let plus = made_good (signed_of false) (both_good (symbol_good s.Plus) term_good refl) in
      let minus = made_good (signed_of true) (both_good (symbol_good s.Minus) term_good refl) in
      wide_good (choice_good plus (choice_good minus term_good refl) refl) _ _ refl refl

  pub sum_good : Good (sum l) (read_sum r) first_rel last_sum false
  unfolding sum read_sum
  sum_good = wide_good (chain_good signed_good adding_good term_good refl refl) _ _ refl refl

  pub relation_end_good : Good (relation_end l) (read_relation_end r) (the_word w.Is ++ comparing) last_rel true
  unfolding relation_end read_relation_end
  relation_end_good =
      let test = made_good class_test (both_good (word_good w.Is) name_good refl) in
      let relation = made_good relation_of (both_good relop_good sum_good refl) in
      wide_good (choice_good test (choice_good relation (nothing_good same) refl) refl) _ _ refl refl

  pub rel_good : Good (rel l) (read_rel r) first_rel last_rel false
  unfolding rel read_rel
  rel_good = wide_good (applied_good sum_good relation_end_good refl) _ _ refl refl

  pub neg_good : Good (neg l) (read_neg r) first_neg last_rel false
  unfolding neg read_neg
  neg_good = wide_good (choice_good ok.negation rel_good refl) _ _ refl refl

  pub conj_good : Good (conj l) (read_conj r) first_neg last_conj false
  unfolding conj read_conj
  conj_good = wide_good (chain_good neg_good and_good neg_good refl refl) _ _ refl refl

  pub disj_good : Good (disj l) (read_disj r) first_neg last_disj false
  unfolding disj read_disj
  disj_good = wide_good (chain_good conj_good or_good conj_good refl refl) _ _ refl refl

  -- statements

  pub assign_end_good : Good (assign_end l) (read_assign_end r) (the_symbol s.Becomes) last_phrase true
  unfolding assign_end read_assign_end
  assign_end_good =
      let becomes = made_good assign_of (both_good (symbol_good s.Becomes) ok.phrase refl) in
      wide_good (choice_good becomes (nothing_good same) refl) _ _ refl refl

  pub assignment_good : Good (assignment l) (read_assignment r) first_neg last_phrase false
  unfolding assignment read_assignment
  assignment_good = wide_good (applied_good disj_good assign_end_good refl) _ _ refl refl

  pub if_good : Good (if_phrase l) (read_if r) (the_word w.If) last_phrase false
  unfolding if_phrase read_if
  if_good =
      let condition = left_good ok.phrase (word_good w.Then) refl in
      let other = else_good (right_good (word_good w.Else) perhaps_good refl) in
      let parts = both_good condition (both_good perhaps_good other refl) refl in
      wide_good (made_good if_of (both_good (word_good w.If) parts refl)) _ _ refl refl

  pub case_end_good : Good (case_end l) (read_case_end r) (the_symbol s.Open ++ the_word w.Begin) [] false
  unfolding case_end read_case_end
  case_end_good =
      let values = made_good case_value (parens_good (separated_good s.Comma ok.phrase refl refl) refl) in
      let parts = left_good (separated_good s.Semicolon perhaps_good refl refl) (word_good w.End) refl in
      wide_good (choice_good values (made_good case_do (right_good (word_good w.Begin) parts refl)) refl) _ _ refl refl

  pub case_good : Good (case_phrase l) (read_case r) (the_word w.Case) [] false
  unfolding case_phrase read_case
  case_good =
      let parts = applied_good (left_good ok.phrase (word_good w.Of) refl) case_end_good refl in
      made_good case_of (both_good (word_good w.Case) parts refl)

  pub for_end_good : Good (for_end l) (read_for_end r) (listing_values ++ the_word w.Step ++ the_word w.Until) [] false
  unfolding for_end read_for_end
  for_end_good =
      let values = made_good for_list (left_good (later_good s.Comma ok.phrase refl) (word_good w.Do) refl) in
      let step = optional_good (right_good (word_good w.Step) ok.phrase refl) in
      let until = right_good (word_good w.Until) (left_good ok.phrase (word_good w.Do) refl) refl in
      wide_good (choice_good values (made_good for_step (both_good step until refl)) refl) _ _ refl refl

  pub for_good : Good (for_phrase l) (read_for r) (the_word w.For) last_phrase false
  unfolding for_phrase read_for
  for_good =
      let variable = left_good name_good (symbol_good s.Becomes) refl in
      let values = both_good ok.phrase (both_good for_end_good perhaps_good refl) refl in
      wide_good (made_good for_of (both_good (word_good w.For) (both_good variable values refl) refl)) _ _ refl refl

  pub while_good : Good (while_phrase l) (read_while r) (the_word w.While) last_phrase false
  unfolding while_phrase read_while
  while_good =
      let parts = both_good (left_good ok.phrase (word_good w.Do) refl) perhaps_good refl in
      wide_good (made_good while_of (both_good (word_good w.While) parts refl)) _ _ refl refl

  pub assert_good : Good (assert_phrase l) (read_assert r) (the_word w.Assert) last_phrase false
  unfolding assert_phrase read_assert
  assert_good = made_good assert_of (both_good (word_good w.Assert) ok.phrase refl)

  pub phrase_good : Good (phrase l) (read_phrase r) first_phrase last_phrase false
  unfolding phrase read_phrase
  phrase_good =
      let others = choice_good goto_good (choice_good assert_good assignment_good refl) refl in
      wide_good (choice_good if_good (choice_good case_good (choice_good for_good (choice_good while_good others refl) refl) refl) refl) _ _ refl refl

  pub negation_good : Good (negation l) (read_negation r) (the_symbol s.Not) last_rel false
  unfolding negation read_negation
  negation_good = made_good negated_of (both_good (symbol_good s.Not) neg_good refl)

  pub absolute_good : Good (absolute l) (read_absolute r) (the_word w.Abs) last_prim false
  unfolding absolute read_absolute
  absolute_good = made_good absolute_of (both_good (word_good w.Abs) prim_good refl)

-- a name alone is a phrase

chain_alone : (begin x : Part Phrase) (operator : Part (Op × Place)) (c : Option Token) (t : Token) (y : Phrase) → begin.spells c (t ∷ []) y None → (chain begin operator x).spells c (t ∷ []) y None
unfolding chain links made both many
chain_alone begin x operator c t y h = ((y, []), (t ∷ [], [], None, None, refl, refl, h, (refl, refl)), refl)

applied_alone : (g : Part Phrase) (h : Part (Phrase → Phrase)) (c : Option Token) (t : Token) (y : Phrase) → g.spells c (t ∷ []) y None → h.spells c [] same None → (g ⊛ h).spells c (t ∷ []) y None
unfolding made both
applied_alone g h c t y i j = ((y, same), (t ∷ [], [], None, None, refl, refl, i, j), refl)

module _ (l : Levels) (c : Option Token) (x : Placed) where
  abbrev alone : Part Phrase → Type 0
  alone g = g.spells c (name_at x ∷ []) (named_of (x, [])) None

  prim_named : alone (prim l)
  unfolding prim choice made both many name token
  prim_named = inr (inr (inr (inl ((x, []), (name_at x ∷ [], [], None, None, refl, refl, (refl, refl), (refl, refl)), refl))))

  sum_named : alone (sum l)
  unfolding sum signed term shift choice
  sum_named = chain_alone _ _ _ c _ _ (inr (inr (chain_alone _ _ _ c _ _ (chain_alone _ _ _ c _ _ prim_named))))

  rel_named : alone (rel l)
  unfolding rel relation_end choice nothing
  rel_named = applied_alone _ _ c _ _ sum_named (inr (inr (refl, refl, refl)))

  disj_named : alone (disj l)
  unfolding disj conj neg choice
  disj_named = chain_alone _ _ _ c _ _ (chain_alone _ _ _ c _ _ (inr rel_named))

  phrase_named : alone (phrase l)
  unfolding phrase assignment assign_end choice nothing
  phrase_named = inr (inr (inr (inr (inr (inr (applied_alone _ _ c _ _ disj_named (inr (refl, refl, refl))))))))

-- so no phrase begins with a label, and a name is read

agrees_eaten : {A : Type 0} (o : Out A) (d : Beyond) (y : List Token) → Agrees o d y → Eaten o y
agrees_eaten (Got x e r) d y h = h.0
agrees_eaten (Bad e r) d y h = h.0
agrees_eaten (Deep r) d y h = tt

module _ (l : Levels) (r : Readers) (ok : Good l.phrase r.phrase first_phrase last_phrase false) (named : (c : Option Token) (x : Placed) → (d : Beyond) × l.phrase.spells c (name_at x ∷ []) (named_of (x, [])) d) where
  no_colon : (k : Token) (v : List Token) (x : Placed) (b : Beyond) → has (kind_number k.kind) (the_symbol s.Colon) ≡ true → l.phrase.begins (name_at x ∷ k ∷ v) b → ⊥
  no_colon k v x b h g = go (named (Some k) x)
    where
      clear : has (kind_number k.kind) last_phrase ≡ false
      clear = apart_has (kind_number k.kind) (the_symbol s.Colon) last_phrase refl h

      past : (e : Beyond) (u : List Token) → u ≡ name_at x ∷ k ∷ v → Agrees (r.phrase u) b [] → r.phrase (name_at x ∷ k ∷ v) ≡ Got (named_of (x, [])) e (k ∷ v) → ⊥
      past e u f a i = let a2 : Agrees {A = Phrase} (Got (named_of (x, [])) e (k ∷ v)) b [] = subst (λ o. Agrees o b []) (ap r.phrase f ∙ i) a in omega arith

      go : (d : Beyond) × l.phrase.spells (Some k) (name_at x ∷ []) (named_of (x, [])) d → ⊥
      go (d, i) = past (before d (k ∷ v)) ((name_at x ∷ k ∷ v) ++ []) (append_nil (name_at x ∷ k ∷ v)) (ok.reads (name_at x ∷ k ∷ v) [] b g) (ok.takes (name_at x ∷ []) (k ∷ v) (named_of (x, [])) d i clear)

  name_eaten : (x : Placed) (y : List Token) → Eaten (r.phrase (name_at x ∷ y)) y
  name_eaten x y = go (named None x)
    where
      go : (d : Beyond) × l.phrase.spells None (name_at x ∷ []) (named_of (x, [])) d → Eaten (r.phrase (name_at x ∷ y)) y
      go (d, i) = agrees_eaten (r.phrase (name_at x ∷ y)) d y (ok.reads (name_at x ∷ []) y d (ok.whole None (name_at x ∷ []) (named_of (x, [])) d i))

  behind_good : Behind label_taken name_taken (perhaps l) (read_perhaps r)
  unfolding perhaps read_perhaps choice empty
  behind_good = record { two = two; one = λ t y x h. rw (name_of t x h) (name_eaten x y) }
    where
      two : (t k : Token) (v : List Token) (x : Placed) (b : Beyond) → label_taken t k ≡ Some x → (perhaps l).begins (t ∷ k ∷ v) b → ⊥
      two t k v x b h (inl g) =
          let e : (name_taken t ≡ Some x) × (is_symbol s.Colon k.kind ≡ true) = label_split t k x h in
          no_colon k v x b (colon_has k (e.1)) (rw (name_of t x (e.0)) at g)
      two t k v x b h (inr g) = let e : t ∷ k ∷ v ≡ [] = g.0 in cc

-- out of levels, nothing is spelled, and nothing but no token begins
nothing_behind : (room : ℕ) → Behind label_taken name_taken (perhaps (levels zero room)) (read_perhaps (marked zero room))
unfolding perhaps read_perhaps choice empty nowhere levels marked
nothing_behind room = record { two = two; one = λ t y x h. rw (name_of t x h) tt }
  where
    two : (t k : Token) (v : List Token) (x : Placed) (b : Beyond) → label_taken t k ≡ Some x → (perhaps (levels zero room)).begins (t ∷ k ∷ v) b → ⊥
    two t k v x b h (inl g) = let e : t ∷ k ∷ v ≡ [] = g.0 in cc
    two t k v x b h (inr g) = let e : t ∷ k ∷ v ≡ [] = g.0 in cc

beyond_named : (l : Levels) (c : Option Token) (x : Placed) → (d : Beyond) × (beyond (phrase l)).spells c (name_at x ∷ []) (named_of (x, [])) d
unfolding beyond
beyond_named l c x = (at_first (name_at x ∷ []), (None, phrase_named l c x, refl))

-- By so many levels, the readers read what nests.
pub levels_good : (n room : ℕ) → GoodLevels (levels n room) (marked n room)
unfolding levels marked
levels_good zero room = record {
  phrase = wide_good (nowhere_good Phrase first_phrase) _ _ refl refl;
  negation = wide_good (nowhere_good Phrase (the_symbol s.Not)) _ _ refl refl;
  absolute = wide_good (nowhere_good Phrase (the_word w.Abs)) _ _ refl refl;
  behind = nothing_behind room;
}
levels_good (suc n) zero = record {
  phrase = beyond_good (phrase_good _ _ (levels_good n zero));
  negation = beyond_good (negation_good _ _ (levels_good n zero));
  absolute = beyond_good (absolute_good _ _ (levels_good n zero));
  behind = behind_good (levels (suc n) zero) (marked (suc n) zero) (beyond_good (phrase_good _ _ (levels_good n zero))) (beyond_named (levels n zero));
}
levels_good (suc n) (suc room) = record {
  phrase = phrase_good _ _ (levels_good n room);
  negation = negation_good _ _ (levels_good n room);
  absolute = absolute_good _ _ (levels_good n room);
  behind = behind_good (levels (suc n) (suc room)) (marked (suc n) (suc room)) (phrase_good _ _ (levels_good n room)) (λ c x. (None, phrase_named (levels n room) c x));
}

pub program_good : (n : ℕ) → Good (program n) (read_program_by (marked n 99)) (the_word w.Begin) [] false
unfolding program read_program_by
program_good n =
    let stop = optional_good (symbol_good s.Stop) in
    left_good (left_good (block_good _ _ (levels_good n 99)) stop refl) finish_good refl
