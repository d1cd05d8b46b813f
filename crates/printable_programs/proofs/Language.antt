-- A program that tokens spell holds texts, where the tokens do.
use Rattle.std.proofs.Common.{ℕ, zero, suc, true, false, List, [], ◌∷◌, Option, Some, None}
use Rattle.value_ops.specs.declared.places.Place.{Place}
use Rattle.algolw_tree.specs.declared.tokens.Token.{Token}
use Rattle.algolw_tree.specs.declared.tokens.Word.TheVariants as w
use Rattle.algolw_tree.specs.declared.tokens.Symbol.{Symbol}
use Rattle.algolw_tree.specs.declared.tokens.Symbol.TheVariants as s
use Rattle.algolw_tree.specs.declared.phrases.Op.{Op}
use Rattle.algolw_tree.specs.Tree.{Placed, TypeSpec, Formal, Phrase, Kind, Link, Listing, Actual, Star, Given, Item, Bound, Decl}
use Rattle.algolw_tree.specs.Parts.{Part, Beyond, both, made, token}
use Rattle.algolw_tree.specs.Programs.{Spells}
use Rattle.algolw_tree.specs.Grammar as grammar
use Rattle.algolw_tree.specs.Grammar.{onto, same, empty_at, at, bound_of, procedure_of, array_decl, simple_decl, typed, untyped, item_of, block_of, part_of, actuals_from, actuals_from_star, named_of, link_of, chain_of, signed_of, relation_of, class_test, assign_of, if_of, case_value, case_do, case_of, for_step, for_list, for_of, while_of, assert_of, negated_of, absolute_of, number_of, bits_of, string_of, truth_of, null_of, goto_of, class_of, array_formal, simple_formal, procedure_formal, perhaps_of, phrases_of, bounds_of, decls_of, items_of, actuals_of, lists_of, links_of, word_at, string_at, Levels, finish_at, word, symbol, name, number, ◌⊗◌, ◌∥◌, ◌⊲◌, ◌⊳◌}
use Rattle.printed_lines.specs.Texts.{IsText, IsWord}
use Rattle.printable_programs.proofs.Trees.{Each, TokenHolds, NameHolds, FormalHolds, GroupHolds, TreeHolds, KindOf, PerhapsHolds, TreesHold, LinksHold, LinkHolds, ListsHold, ListingHolds, ActualsHold, ActualHolds, ItemsHold, ItemHolds, BoundsHold, BoundHolds, DeclsHold, DeclHolds}
use Rattle.printable_programs.proofs.Spelling as spelling
use Rattle.printable_programs.proofs.Spelling.{Any, Both, To, each_into, Spelt, spelt_any, spelt_token, spelt_nothing, spelt_empty, spelt_both, spelt_choice, spelt_made, spelt_many, spelt_else, spelt_beyond, spelt_nowhere, spelt_left, spelt_right, spelt_applied}

abbrev Names : List Placed → Type 0
Names = Each NameHolds

-- the end of a FOR
abbrev AForEnd : (List ℕ → Phrase → Phrase → Kind) → Type 0
AForEnd f = (x : List ℕ) (start body : Phrase) → IsWord x → TreeHolds start → TreeHolds body → KindOf (f x start body)

-- ---- lists

phrases_hold : (xs : List Phrase) → Each TreeHolds xs → TreesHold (phrases_of xs)
phrases_hold = each_into TreeHolds (λ xs. TreesHold (phrases_of xs)) tt (λ x xs a b. (a, b))

links_hold : (xs : List Link) → Each LinkHolds xs → LinksHold (links_of xs)
links_hold = each_into LinkHolds (λ xs. LinksHold (links_of xs)) tt (λ x xs a b. (a, b))

lists_hold : (xs : List Listing) → Each ListingHolds xs → ListsHold (lists_of xs)
lists_hold = each_into ListingHolds (λ xs. ListsHold (lists_of xs)) tt (λ x xs a b. (a, b))

actuals_hold : (xs : List Actual) → Each ActualHolds xs → ActualsHold (actuals_of xs)
actuals_hold = each_into ActualHolds (λ xs. ActualsHold (actuals_of xs)) tt (λ x xs a b. (a, b))

items_hold : (xs : List Item) → Each ItemHolds xs → ItemsHold (items_of xs)
items_hold = each_into ItemHolds (λ xs. ItemsHold (items_of xs)) tt (λ x xs a b. (a, b))

bounds_hold : (xs : List Bound) → Each BoundHolds xs → BoundsHold (bounds_of xs)
bounds_hold = each_into BoundHolds (λ xs. BoundsHold (bounds_of xs)) tt (λ x xs a b. (a, b))

decls_hold : (xs : List Decl) → Each DeclHolds xs → DeclsHold (decls_of xs)
decls_hold = each_into DeclHolds (λ xs. DeclsHold (decls_of xs)) tt (λ x xs a b. (a, b))

groups_hold : (xs : List (TypeSpec × List Placed)) → Each (Both Any Names) xs → Each GroupHolds xs
groups_hold = each_into (Both Any Names) (λ xs. Each GroupHolds xs) tt (λ x xs a b. (a.1, b))

-- ---- what is repeated

spelt_parens : {A : Type 0} {W : A → Type 0} {g : Part A} → Spelt W g → Spelt W (grammar.parens g)
unfolding grammar.parens
spelt_parens a = spelt_right (symbol s.Open) (spelt_left (symbol s.Close) a)

spelt_optional : {A : Type 0} {W : A → Type 0} {g : Part A} → Spelt W g → Spelt (spelling.Perhaps W) (grammar.optional g)
unfolding grammar.optional
spelt_optional {W = W} a = spelt_choice (spelt_made (spelling.Perhaps W) Some (λ x h. h) a) (spelt_nothing (spelling.Perhaps W) None tt)

spelt_later : {A : Type 0} {W : A → Type 0} (x : Symbol) {g : Part A} → Spelt W g → Spelt (Each W) (grammar.later x g)
unfolding grammar.later
spelt_later x a = spelt_many (spelt_right (symbol x) a)

spelt_separated : {A : Type 0} {W : A → Type 0} (x : Symbol) {g : Part A} → Spelt W g → Spelt (Each W) (grammar.separated x g)
unfolding grammar.separated
spelt_separated {W = W} x a = spelt_made (Each W) onto (λ y h. h) (spelt_both a (spelt_later x a))

-- ---- names, formals and record classes

spelt_name : Spelt NameHolds name
unfolding name
spelt_name = spelt_token NameHolds grammar.name_at (λ x h. h)

spelt_names : Spelt Names grammar.names
unfolding grammar.names
spelt_names = spelt_separated s.Comma spelt_name

spelt_group : Spelt (Both Any Names) grammar.group
unfolding grammar.group
spelt_group = spelt_both (spelt_any grammar.type_spec) spelt_names

spelt_class : Spelt DeclHolds grammar.record_class
unfolding grammar.record_class
spelt_class = spelt_made DeclHolds class_of (λ x h. (h.0, groups_hold x.1 h.1)) (spelt_right (word w.Record) (spelt_both spelt_name (spelt_parens (spelt_separated s.Semicolon spelt_group))))

spelt_formal_end : Spelt (To Any FormalHolds) grammar.formal_end
unfolding grammar.formal_end
spelt_formal_end = spelt_choice
    (spelt_made (To Any FormalHolds) array_formal (λ x h t k. h.0) (spelt_right (word w.Array) (spelt_both spelt_names (spelt_any (grammar.parens (grammar.separated s.Comma (symbol s.Star)))))))
    (spelt_made (To Any FormalHolds) simple_formal (λ x h t k. h.1) (spelt_both (spelt_any grammar.passing) spelt_names))

spelt_formal : Spelt FormalHolds grammar.formal
unfolding grammar.formal
spelt_formal = spelt_choice (spelt_made FormalHolds procedure_formal (λ x h. h) (spelt_right (word w.Procedure) spelt_names)) (spelt_applied (spelt_any grammar.type_spec) spelt_formal_end)

spelt_formals : Spelt (Each FormalHolds) grammar.formals
unfolding grammar.formals
spelt_formals = spelt_choice (spelt_parens (spelt_separated s.Semicolon spelt_formal)) (spelt_nothing (Each FormalHolds) [] tt)

spelt_literal : Spelt TreeHolds grammar.literal
unfolding grammar.literal
spelt_literal =
    spelt_choice (spelt_made TreeHolds number_of (λ x h. tt) (spelt_any number))
    (spelt_choice (spelt_made TreeHolds bits_of (λ x h. tt) (spelt_any _))
    (spelt_choice (spelt_made TreeHolds string_of (λ x h. h) (spelt_token (λ x. IsText x.0) string_at (λ x h. h)))
    (spelt_choice (spelt_made TreeHolds (truth_of true) (λ x h. tt) (spelt_any _))
    (spelt_choice (spelt_made TreeHolds (truth_of false) (λ x h. tt) (spelt_any _))
    (spelt_made TreeHolds null_of (λ x h. tt) (spelt_any _))))))

spelt_goto : Spelt TreeHolds grammar.goto_phrase
unfolding grammar.goto_phrase
spelt_goto = spelt_choice (spelt_made TreeHolds goto_of (λ x h. tt) (spelt_any _)) (spelt_made TreeHolds goto_of (λ x h. tt) (spelt_any _))

-- ---- what nests

record SpeltLevels (l : Levels) : Type 0 where
  phrase : Spelt TreeHolds l.phrase
  negation : Spelt TreeHolds l.negation
  absolute : Spelt TreeHolds l.absolute

chain_holds : (x : Phrase × List Link) → Both TreeHolds (Each LinkHolds) x → TreeHolds (chain_of x)
chain_holds x h = go x.1 h.1
  where
    go : (ls : List Link) → Each LinkHolds ls → TreeHolds (chain_of (x.0, ls))
    go [] i = h.0
    go (l ∷ ls) i = (h.0, links_hold (l ∷ ls) i)

spelt_chain : {first : Part Phrase} (operator : Part (Op × Place)) {x : Part Phrase} → Spelt TreeHolds first → Spelt TreeHolds x → Spelt TreeHolds (grammar.chain first operator x)
unfolding grammar.chain grammar.links
spelt_chain operator a b = spelt_made TreeHolds chain_of chain_holds (spelt_both a (spelt_many (spelt_made LinkHolds link_of (λ x h. h.1) (spelt_both (spelt_any operator) b))))

perhaps_holds : (x : Option Phrase) → spelling.Perhaps TreeHolds x → PerhapsHolds (perhaps_of x)
perhaps_holds None h = tt
perhaps_holds (Some x) h = h

module _ (l : Levels) (ok : SpeltLevels l) where
  spelt_perhaps : Spelt TreeHolds (grammar.perhaps l)
  unfolding grammar.perhaps
  spelt_perhaps = spelt_choice ok.phrase (spelt_empty TreeHolds empty_at (λ t. tt))

  spelt_bound : Spelt BoundHolds (grammar.bound l)
  unfolding grammar.bound
  spelt_bound = spelt_made BoundHolds bound_of (λ x h. (h.0, h.1.1)) (spelt_both ok.phrase (spelt_both (spelt_any (symbol s.Bounds)) ok.phrase))

  spelt_procedure : Spelt (To Any DeclHolds) (grammar.procedure l)
  unfolding grammar.procedure
  spelt_procedure = spelt_made (To Any DeclHolds) procedure_of (λ x h t k. (h.1.0, h.1.1.0, h.1.1.1))
      (spelt_both (spelt_any (word w.Procedure)) (spelt_both spelt_name (spelt_both (spelt_left (symbol s.Semicolon) spelt_formals) spelt_perhaps)))

  spelt_decl_end : Spelt (To Any DeclHolds) (grammar.decl_end l)
  unfolding grammar.decl_end
  spelt_decl_end =
      spelt_choice (spelt_made (To Any DeclHolds) array_decl (λ x h t k. (h.0, bounds_hold x.1 h.1)) (spelt_right (word w.Array) (spelt_both spelt_names (spelt_parens (spelt_separated s.Comma spelt_bound)))))
      (spelt_choice (spelt_made (To Any DeclHolds) typed (λ f h t k. h (Some t) tt) spelt_procedure)
      (spelt_made (To Any DeclHolds) simple_decl (λ x h t k. h) spelt_names))

  spelt_decl : Spelt DeclHolds (grammar.decl l)
  unfolding grammar.decl
  spelt_decl = spelt_choice (spelt_made DeclHolds untyped (λ f h. h None tt) spelt_procedure) (spelt_choice spelt_class (spelt_applied (spelt_any grammar.type_spec) spelt_decl_end))

  spelt_item : Spelt ItemHolds (grammar.item l)
  unfolding grammar.item grammar.label
  spelt_item = spelt_made ItemHolds item_of (λ x h. h) (spelt_both (spelt_many (spelt_left (symbol s.Colon) spelt_name)) spelt_perhaps)

  spelt_block : Spelt TreeHolds (grammar.block l)
  unfolding grammar.block
  spelt_block = spelt_made TreeHolds block_of (λ x h. (decls_hold x.1.0 h.1.0, items_hold x.1.1 h.1.1))
      (spelt_both (spelt_any (word w.Begin)) (spelt_both (spelt_many (spelt_left (symbol s.Semicolon) spelt_decl)) (spelt_left (word w.End) (spelt_separated s.Semicolon spelt_item))))

  spelt_actual : Spelt ActualHolds (grammar.actual l)
  unfolding grammar.actual
  spelt_actual = spelt_choice (spelt_made ActualHolds Star (λ x h. tt) (spelt_any (symbol s.Star))) (spelt_made ActualHolds Given (λ x h. h) ok.phrase)

  spelt_list : Spelt (To Any ListingHolds) (grammar.list l)
  unfolding grammar.list
  spelt_list =
      let actuals = spelt_later s.Comma spelt_actual in
      spelt_choice (spelt_made (To Any ListingHolds) actuals_from_star (λ x h p k. (tt, actuals_hold x.1 h.1)) (spelt_both (spelt_any (symbol s.Star)) actuals))
      (spelt_applied ok.phrase (spelt_choice
      (spelt_made (To TreeHolds (To Any ListingHolds)) part_of (λ x h y k p q. k) (spelt_any (symbol s.Bar ⊳ number)))
      (spelt_made (To TreeHolds (To Any ListingHolds)) actuals_from (λ x h y k p q. (k, actuals_hold x h)) actuals)))

  spelt_listing : Spelt ListingHolds (grammar.listing l)
  unfolding grammar.listing
  spelt_listing = spelt_applied (spelt_any (symbol s.Open)) (spelt_left (symbol s.Close) spelt_list)

  spelt_prim : Spelt TreeHolds (grammar.prim l)
  unfolding grammar.prim
  spelt_prim = spelt_choice ok.absolute (spelt_choice (spelt_parens ok.phrase) (spelt_choice spelt_block (spelt_choice
      (spelt_made TreeHolds named_of (λ x h. lists_hold x.1 h.1) (spelt_both spelt_name (spelt_many spelt_listing)))
      spelt_literal)))

  spelt_shift : Spelt TreeHolds (grammar.shift l)
  unfolding grammar.shift
  spelt_shift = spelt_chain grammar.shifting_op spelt_prim spelt_prim

  spelt_term : Spelt TreeHolds (grammar.term l)
  unfolding grammar.term
  spelt_term = spelt_chain grammar.multiplying_op spelt_shift spelt_shift

  spelt_signed : Spelt TreeHolds (grammar.signed l)
  unfolding grammar.signed
  spelt_signed =
      spelt_choice (spelt_made TreeHolds (signed_of false) (λ x h. h.1) (spelt_both (spelt_any (symbol s.Plus)) spelt_term))
      (spelt_choice (spelt_made TreeHolds (signed_of true) (λ x h. h.1) (spelt_both (spelt_any (symbol s.Minus)) spelt_term))
      spelt_term)

  spelt_sum : Spelt TreeHolds (grammar.sum l)
  unfolding grammar.sum
  spelt_sum = spelt_chain grammar.adding_op spelt_signed spelt_term

  spelt_relation_end : Spelt (To TreeHolds TreeHolds) (grammar.relation_end l)
  unfolding grammar.relation_end
  spelt_relation_end =
      spelt_choice (spelt_made (To TreeHolds TreeHolds) class_test (λ x h y k. k) (spelt_any (word w.Is ⊗ name)))
      (spelt_choice (spelt_made (To TreeHolds TreeHolds) relation_of (λ x h y k. (k, h.1)) (spelt_both (spelt_any grammar.relop) spelt_sum))
      (spelt_nothing (To TreeHolds TreeHolds) same (λ y k. k)))

  spelt_rel : Spelt TreeHolds (grammar.rel l)
  unfolding grammar.rel
  spelt_rel = spelt_applied spelt_sum spelt_relation_end

  spelt_neg : Spelt TreeHolds (grammar.neg l)
  unfolding grammar.neg
  spelt_neg = spelt_choice ok.negation spelt_rel

  spelt_conj : Spelt TreeHolds (grammar.conj l)
  unfolding grammar.conj
  spelt_conj = spelt_chain grammar.and_op spelt_neg spelt_neg

  spelt_disj : Spelt TreeHolds (grammar.disj l)
  unfolding grammar.disj
  spelt_disj = spelt_chain grammar.or_op spelt_conj spelt_conj

  spelt_assign_end : Spelt (To TreeHolds TreeHolds) (grammar.assign_end l)
  unfolding grammar.assign_end
  spelt_assign_end =
      spelt_choice (spelt_made (To TreeHolds TreeHolds) assign_of (λ x h y k. (k, h.1)) (spelt_both (spelt_any (symbol s.Becomes)) ok.phrase))
      (spelt_nothing (To TreeHolds TreeHolds) same (λ y k. k))

  spelt_assignment : Spelt TreeHolds (grammar.assignment l)
  unfolding grammar.assignment
  spelt_assignment = spelt_applied spelt_disj spelt_assign_end

  spelt_if : Spelt TreeHolds (grammar.if_phrase l)
  unfolding grammar.if_phrase
  spelt_if = spelt_made TreeHolds if_of (λ x h. (h.1.0, h.1.1.0, perhaps_holds x.1.1.1 h.1.1.1))
      (spelt_both (spelt_any (word w.If)) (spelt_both (spelt_left (word w.Then) ok.phrase) (spelt_both spelt_perhaps (spelt_else (spelt_right (word w.Else) spelt_perhaps)))))

  spelt_case_end : Spelt (To TreeHolds KindOf) (grammar.case_end l)
  unfolding grammar.case_end
  spelt_case_end =
      spelt_choice (spelt_made (To TreeHolds KindOf) case_value (λ xs h y k. (k, phrases_hold xs h)) (spelt_parens (spelt_separated s.Comma ok.phrase)))
      (spelt_made (To TreeHolds KindOf) case_do (λ xs h y k. (k, phrases_hold xs h)) (spelt_right (word w.Begin) (spelt_left (word w.End) (spelt_separated s.Semicolon spelt_perhaps))))

  spelt_case : Spelt TreeHolds (grammar.case_phrase l)
  unfolding grammar.case_phrase
  spelt_case = spelt_made TreeHolds case_of (λ x h. h.1) (spelt_both {W = KindOf} (spelt_any (word w.Case)) (spelt_applied (spelt_left (word w.Of) ok.phrase) spelt_case_end))

  spelt_for_end : Spelt AForEnd (grammar.for_end l)
  unfolding grammar.for_end
  spelt_for_end =
      spelt_choice (spelt_made AForEnd for_list (λ xs h x a b i j k. (i, (j, phrases_hold xs h), k)) (spelt_left (word w.Do) (spelt_later s.Comma ok.phrase)))
      (spelt_made AForEnd for_step (λ x h y a b i j k. (i, j, perhaps_holds x.0 h.0, h.1, k))
      (spelt_both (spelt_optional (spelt_right (word w.Step) ok.phrase)) (spelt_right (word w.Until) (spelt_left (word w.Do) ok.phrase))))

  spelt_for_phrase : Spelt TreeHolds (grammar.for_phrase l)
  unfolding grammar.for_phrase
  spelt_for_phrase = spelt_made TreeHolds for_of (λ x h. h.1.1.1.0 x.1.0.0 x.1.1.0 x.1.1.1.1 h.1.0 h.1.1.0 h.1.1.1.1)
      (spelt_both (spelt_any (word w.For)) (spelt_both (spelt_left (symbol s.Becomes) spelt_name) (spelt_both ok.phrase (spelt_both spelt_for_end spelt_perhaps))))

  spelt_while : Spelt TreeHolds (grammar.while_phrase l)
  unfolding grammar.while_phrase
  spelt_while = spelt_made TreeHolds while_of (λ x h. h.1) (spelt_both (spelt_any (word w.While)) (spelt_both (spelt_left (word w.Do) ok.phrase) spelt_perhaps))

  spelt_assert : Spelt TreeHolds (grammar.assert_phrase l)
  unfolding grammar.assert_phrase
  spelt_assert = spelt_made TreeHolds assert_of (λ x h. h.1) (spelt_both (spelt_any (word w.Assert)) ok.phrase)

  spelt_phrase : Spelt TreeHolds (grammar.phrase l)
  unfolding grammar.phrase
  spelt_phrase = spelt_choice spelt_if (spelt_choice spelt_case (spelt_choice spelt_for_phrase (spelt_choice spelt_while (spelt_choice spelt_goto (spelt_choice spelt_assert spelt_assignment)))))

  spelt_negation : Spelt TreeHolds (grammar.negation l)
  unfolding grammar.negation
  spelt_negation = spelt_made TreeHolds negated_of (λ x h. h.1) (spelt_both (spelt_any (symbol s.Not)) spelt_neg)

  spelt_absolute : Spelt TreeHolds (grammar.absolute l)
  unfolding grammar.absolute
  spelt_absolute = spelt_made TreeHolds absolute_of (λ x h. h.1) (spelt_both (spelt_any (word w.Abs)) spelt_prim)

-- by derivations of whatever nesting, within the limit or beyond
spelt_levels : (n room : ℕ) → SpeltLevels (grammar.levels n room)
unfolding grammar.levels
spelt_levels zero room = record { phrase = spelt_nowhere TreeHolds; negation = spelt_nowhere TreeHolds; absolute = spelt_nowhere TreeHolds }
spelt_levels (suc n) zero = let ok = spelt_levels n zero in record { phrase = spelt_beyond (spelt_phrase _ ok); negation = spelt_beyond (spelt_negation _ ok); absolute = spelt_beyond (spelt_absolute _ ok) }
spelt_levels (suc n) (suc room) = let ok = spelt_levels n room in record { phrase = spelt_phrase _ ok; negation = spelt_negation _ ok; absolute = spelt_absolute _ ok }

spelt_program : (n : ℕ) → Spelt TreeHolds (grammar.program n)
unfolding grammar.program
spelt_program n = spelt_left _ (spelt_left (grammar.optional (symbol s.Stop)) (spelt_block (grammar.levels n 99) (spelt_levels n 99)))

pub program_holds : (tokens : List Token) (x : Phrase) (b : Beyond) → Spells tokens x b → Each TokenHolds tokens → TreeHolds x
program_holds tokens x b (n, h) t = (spelt_program n).by None tokens x b h t
