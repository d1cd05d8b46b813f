-- The tree of a program holds only places of the tokens that spell it, but for the last one.
use Rattle.std.proofs.Common.{◌≡◌, ℕ, ℤ, zero, suc, true, false, Bool, ◌&&◌, List, [], ◌∷◌, ◌++◌, refl, sym, subst, ap, ◌∙◌, Option, Some, None}
use Rattle.std.proofs.lemmas.Bool.{and_parts, and_from}
use Rattle.value_ops.specs.declared.places.Place.{Place}
use Rattle.algolw_tree.specs.declared.tokens.Token.{Token}
use Rattle.algolw_tree.specs.declared.tokens.Word.{Word}
use Rattle.algolw_tree.specs.declared.tokens.Word.TheVariants as w
use Rattle.algolw_tree.specs.declared.tokens.Symbol.{Symbol}
use Rattle.algolw_tree.specs.declared.tokens.Symbol.TheVariants as s
use Rattle.algolw_tree.specs.declared.phrases.Op.{Op}
use Rattle.algolw_tree.specs.declared.phrases.Op.TheVariants as op
use Rattle.algolw_tree.specs.declared.phrases.RelOp.{RelOp}
use Rattle.algolw_tree.specs.declared.phrases.RelOp.TheVariants as rel_op
use Rattle.algolw_tree.specs.Tree.{Placed, TypeSpec, Integer, Logical, Bits, Str, Reference, Formal, Phrase, At, Kind, Link, Listing, Actual, Star, Given, Item, Bound, Decl}
use Rattle.algolw_tree.specs.Parts.{Part, Beyond, token, made, both}
use Rattle.algolw_tree.specs.Programs.{Spells}
use Rattle.algolw_tree.specs.Grammar as grammar
use Rattle.algolw_tree.specs.Grammar.{to, first_of, onto, same, empty_at, at, bound_of, procedure_of, array_decl, simple_decl, typed, untyped, item_of, block_of, part_of, actuals_from, actuals_from_star, named_of, op_at, link_of, chain_of, signed_of, relop_at, relation_of, class_test, assign_of, if_of, case_value, case_do, case_of, for_step, for_list, for_of, while_of, assert_of, negated_of, absolute_of, number_of, bits_of, string_of, truth_of, null_of, goto_of, class_of, array_formal, simple_formal, procedure_formal, perhaps_of, phrases_of, bounds_of, decls_of, items_of, actuals_of, lists_of, links_of, word_at, symbol_at, name_at, number_at, bits_at, string_at, finish_at, Levels, word, symbol, name, number, ◌⊗◌, ◌∥◌, ◌⊲◌, ◌⊳◌}
use Rattle.library_laws.specs.Stands.{names_stand, number_stands, spec_stands, result_stands, formals_stand, groups_stand, phrase_stands, kind_stands, perhaps_stands, phrases_stand, links_stand, link_stands, lists_stand, listing_stands, actuals_stand, actual_stands, items_stand, item_stands, bounds_stand, bound_stands, decls_stand, decl_stands}
use Rattle.library_laws.proofs.TokenPlaces as places
use Rattle.library_laws.proofs.TokenPlaces.{Holds, Any, Both, Each, To, each_all, tokens_stand, Keeps, keeps_any, keeps_token, keeps_nothing, keeps_empty, keeps_both, keeps_choice, keeps_made, keeps_many, keeps_else, keeps_beyond, keeps_nowhere, keeps_left, keeps_right, keeps_applied, Closed, closed_made, closed_both, closed_left, keeps_closed, closed_front}

also : {x y : Bool} → x ≡ true → y ≡ true → (x && y) ≡ true
also {x} {y} h k = and_from x y h k

module _ (q : Place → Bool) where
  abbrev APlace : Holds Place
  APlace p = q p ≡ true

  abbrev AName : Holds Placed
  AName x = q x.1 ≡ true

  abbrev Names : Holds (List Placed)
  Names xs = names_stand q xs ≡ true

  abbrev ANumber : Holds (ℤ × Place)
  ANumber x = q x.1 ≡ true

  abbrev ASpec : Holds TypeSpec
  ASpec t = spec_stands q t ≡ true

  abbrev AResult : Holds (Option TypeSpec)
  AResult t = result_stands q t ≡ true

  abbrev AFormal : Holds Formal
  AFormal f = (result_stands q f.spec ≡ true) × (names_stand q f.names ≡ true)

  abbrev Formals : Holds (List Formal)
  Formals fs = formals_stand q fs ≡ true

  abbrev AGroup : Holds (TypeSpec × List Placed)
  AGroup g = (spec_stands q g.0 ≡ true) × (names_stand q g.1 ≡ true)

  abbrev APhrase : Holds Phrase
  APhrase x = phrase_stands q x ≡ true

  abbrev ADecl : Holds Decl
  ADecl d = decl_stands q d ≡ true

  abbrev AKind : Holds Kind
  AKind k = kind_stands q k ≡ true

  abbrev ABound : Holds Bound
  ABound b = bound_stands q b ≡ true

  abbrev AnItem : Holds Item
  AnItem i = item_stands q i ≡ true

  abbrev ALink : Holds Link
  ALink l = link_stands q l ≡ true

  abbrev AListing : Holds Listing
  AListing l = listing_stands q l ≡ true

  abbrev AnActual : Holds Actual
  AnActual a = actual_stands q a ≡ true

  abbrev AnOp : Holds (Op × Place)
  AnOp x = q x.1 ≡ true

  abbrev ARelOp : Holds (RelOp × Place)
  ARelOp x = q x.1 ≡ true

  -- the end of a FOR
  abbrev AForEnd : Holds (List ℕ → Phrase → Phrase → Kind)
  AForEnd f = (x : List ℕ) (start body : Phrase) → phrase_stands q start ≡ true → phrase_stands q body ≡ true → kind_stands q (f x start body) ≡ true

  -- ---- lists

  all_phrases : (xs : List Phrase) → Each APhrase xs → phrases_stand q (phrases_of xs) ≡ true
  all_phrases = each_all (phrase_stands q) (λ xs. phrases_stand q (phrases_of xs)) refl (λ x xs. refl)

  all_links : (xs : List Link) → Each ALink xs → links_stand q (links_of xs) ≡ true
  all_links = each_all (link_stands q) (λ xs. links_stand q (links_of xs)) refl (λ x xs. refl)

  all_lists : (xs : List Listing) → Each AListing xs → lists_stand q (lists_of xs) ≡ true
  all_lists = each_all (listing_stands q) (λ xs. lists_stand q (lists_of xs)) refl (λ x xs. refl)

  all_actuals : (xs : List Actual) → Each AnActual xs → actuals_stand q (actuals_of xs) ≡ true
  all_actuals = each_all (actual_stands q) (λ xs. actuals_stand q (actuals_of xs)) refl (λ x xs. refl)

  all_items : (xs : List Item) → Each AnItem xs → items_stand q (items_of xs) ≡ true
  all_items = each_all (item_stands q) (λ xs. items_stand q (items_of xs)) refl (λ x xs. refl)

  all_bounds : (xs : List Bound) → Each ABound xs → bounds_stand q (bounds_of xs) ≡ true
  all_bounds = each_all (bound_stands q) (λ xs. bounds_stand q (bounds_of xs)) refl (λ x xs. refl)

  all_decls : (xs : List Decl) → Each ADecl xs → decls_stand q (decls_of xs) ≡ true
  all_decls = each_all (decl_stands q) (λ xs. decls_stand q (decls_of xs)) refl (λ x xs. refl)

  all_names : (xs : List Placed) → Each AName xs → names_stand q xs ≡ true
  all_names = each_all (λ (x : Placed). q x.1) (names_stand q) refl (λ x xs. refl)

  all_formals : (xs : List Formal) → Each AFormal xs → formals_stand q xs ≡ true
  all_formals [] h = refl
  all_formals (f ∷ fs) h = also h.0.0 (also h.0.1 (all_formals fs h.1))

  all_groups : (xs : List (TypeSpec × List Placed)) → Each AGroup xs → groups_stand q xs ≡ true
  all_groups [] h = refl
  all_groups (g ∷ gs) h = also h.0.0 (also h.0.1 (all_groups gs h.1))

  first_stands : (y : Phrase) → phrase_stands q y ≡ true → q (first_of y) ≡ true
  first_stands (At p f k) h = (and_parts (q f) (kind_stands q k) (and_parts (q p) (q f && kind_stands q k) h).1).0

  -- ---- what is repeated

  keeps_word : (x : Word) → Keeps q APlace (word x)
  unfolding word
  keeps_word x = keeps_token q APlace (word_at x) (λ p h. h)

  keeps_symbol : (x : Symbol) → Keeps q APlace (symbol x)
  unfolding symbol
  keeps_symbol x = keeps_token q APlace (symbol_at x) (λ p h. h)

  keeps_parens : {A : Type 0} {W : Holds A} {g : Part A} → Keeps q W g → Keeps q W (grammar.parens g)
  unfolding grammar.parens
  keeps_parens a = keeps_right q (symbol s.Open) (keeps_left q (symbol s.Close) a)

  keeps_optional : {A : Type 0} {W : Holds A} {g : Part A} → Keeps q W g → Keeps q (places.Perhaps W) (grammar.optional g)
  unfolding grammar.optional
  keeps_optional {W = W} a = keeps_choice q (keeps_made q (places.Perhaps W) Some (λ x h. h) a) (keeps_nothing q (places.Perhaps W) None tt)

  keeps_later : {A : Type 0} {W : Holds A} (x : Symbol) {g : Part A} → Keeps q W g → Keeps q (Each W) (grammar.later x g)
  unfolding grammar.later
  keeps_later x a = keeps_many q (keeps_right q (symbol x) a)

  keeps_separated : {A : Type 0} {W : Holds A} (x : Symbol) {g : Part A} → Keeps q W g → Keeps q (Each W) (grammar.separated x g)
  unfolding grammar.separated
  keeps_separated {W = W} x a = keeps_made q (Each W) onto (λ y h. h) (keeps_both q a (keeps_later x a))

  -- what follows from what is kept
  so : {A : Type 0} {V : Holds A} (W : Holds A) {g : Part A} → ((x : A) → V x → W x) → Keeps q V g → Keeps q W g
  so W i a = record { keeps = λ c u x b h k l. i x (a.keeps c u x b h k l) }

  -- ---- names, types, formals and record classes

  keeps_name : Keeps q AName name
  unfolding name
  keeps_name = keeps_token q AName name_at (λ x h. h)

  keeps_number : Keeps q ANumber number
  unfolding number
  keeps_number = keeps_token q ANumber number_at (λ x h. h)

  keeps_names : Keeps q Names grammar.names
  unfolding grammar.names
  keeps_names = so Names all_names (keeps_separated s.Comma keeps_name)

  number_kept : (x : Option (ℤ × Place)) → places.Perhaps ANumber x → number_stands q x ≡ true
  number_kept None h = refl
  number_kept (Some x) h = h

  keeps_spec : Keeps q ASpec grammar.type_spec
  unfolding grammar.type_spec
  keeps_spec =
      keeps_choice q (keeps_made q ASpec (to Integer) (λ x h. refl) (keeps_any q (word w.Integer)))
      (keeps_choice q (keeps_made q ASpec (to Logical) (λ x h. refl) (keeps_any q (word w.Logical)))
      (keeps_choice q (keeps_made q ASpec Bits number_kept (keeps_right q (word w.Bits) (keeps_optional (keeps_parens keeps_number))))
      (keeps_choice q (keeps_made q ASpec Str number_kept (keeps_right q (word w.String) (keeps_optional (keeps_parens keeps_number))))
      (keeps_made q ASpec Reference (λ x h. h) (keeps_right q (word w.Reference) (keeps_parens keeps_names))))))

  keeps_group : Keeps q AGroup grammar.group
  unfolding grammar.group
  keeps_group = keeps_both q keeps_spec keeps_names

  keeps_class : Keeps q ADecl grammar.record_class
  unfolding grammar.record_class
  keeps_class = keeps_made q ADecl class_of (λ x h. also h.0 (all_groups x.1 h.1)) (keeps_right q (word w.Record) (keeps_both q keeps_name (keeps_parens (keeps_separated s.Semicolon keeps_group))))

  keeps_formal_end : Keeps q (To ASpec AFormal) grammar.formal_end
  unfolding grammar.formal_end
  keeps_formal_end = keeps_choice q
      (keeps_made q (To ASpec AFormal) array_formal (λ x h t i. (i, h.0)) (keeps_right q (word w.Array) (keeps_both q keeps_names (keeps_any q (grammar.parens (grammar.separated s.Comma (symbol s.Star)))))))
      (keeps_made q (To ASpec AFormal) simple_formal (λ x h t i. (i, h.1)) (keeps_both q (keeps_any q grammar.passing) keeps_names))

  keeps_formal : Keeps q AFormal grammar.formal
  unfolding grammar.formal
  keeps_formal = keeps_choice q (keeps_made q AFormal procedure_formal (λ x h. (refl, h)) (keeps_right q (word w.Procedure) keeps_names)) (keeps_applied q keeps_spec keeps_formal_end)

  keeps_formals : Keeps q Formals grammar.formals
  unfolding grammar.formals
  keeps_formals = keeps_choice q (so Formals all_formals (keeps_parens (keeps_separated s.Semicolon keeps_formal))) (keeps_nothing q Formals [] refl)

  keeps_literal : Keeps q APhrase grammar.literal
  unfolding grammar.literal
  keeps_literal =
      keeps_choice q (keeps_made q APhrase number_of (λ x h. also h (also h refl)) keeps_number)
      (keeps_choice q (keeps_made q APhrase bits_of (λ x h. also h (also h refl)) (keeps_token q (λ x. q x.1 ≡ true) bits_at (λ x h. h)))
      (keeps_choice q (keeps_made q APhrase string_of (λ x h. also h (also h refl)) (keeps_token q (λ x. q x.1 ≡ true) string_at (λ x h. h)))
      (keeps_choice q (keeps_made q APhrase (truth_of true) (λ x h. also h (also h refl)) (keeps_word w.True))
      (keeps_choice q (keeps_made q APhrase (truth_of false) (λ x h. also h (also h refl)) (keeps_word w.False))
      (keeps_made q APhrase null_of (λ x h. also h (also h refl)) (keeps_word w.Null))))))

  keeps_goto : Keeps q APhrase grammar.goto_phrase
  unfolding grammar.goto_phrase
  keeps_goto = keeps_choice q (keeps_made q APhrase goto_of (λ x h. also h.1 (also h.0 refl)) (keeps_both q (keeps_word w.Goto) keeps_name))
      (keeps_made q APhrase goto_of (λ x h. also h.1 (also h.0 refl)) (keeps_both q (keeps_word w.Go) (keeps_right q (word w.To) keeps_name)))

  -- ---- operators

  one_op : (o : Op) {g : Part Place} → Keeps q APlace g → Keeps q AnOp (made (op_at o) g)
  one_op o a = keeps_made q AnOp (op_at o) (λ p h. h) a

  keeps_or : Keeps q AnOp grammar.or_op
  unfolding grammar.or_op
  keeps_or = one_op op.Or (keeps_word w.Or)

  keeps_and : Keeps q AnOp grammar.and_op
  unfolding grammar.and_op
  keeps_and = one_op op.And (keeps_word w.And)

  keeps_adding : Keeps q AnOp grammar.adding_op
  unfolding grammar.adding_op
  keeps_adding = keeps_choice q (one_op op.Plus (keeps_symbol s.Plus)) (one_op op.Minus (keeps_symbol s.Minus))

  keeps_multiplying : Keeps q AnOp grammar.multiplying_op
  unfolding grammar.multiplying_op
  keeps_multiplying = keeps_choice q (one_op op.Times (keeps_symbol s.Star)) (keeps_choice q (one_op op.Slash (keeps_symbol s.Slash)) (keeps_choice q (one_op op.Div (keeps_word w.Div)) (one_op op.Rem (keeps_word w.Rem))))

  keeps_shifting : Keeps q AnOp grammar.shifting_op
  unfolding grammar.shifting_op
  keeps_shifting = keeps_choice q (one_op op.Shl (keeps_word w.Shl)) (keeps_choice q (one_op op.Shr (keeps_word w.Shr)) (one_op op.Power (keeps_symbol s.Power)))

  one_relop : (o : RelOp) {g : Part Place} → Keeps q APlace g → Keeps q ARelOp (made (relop_at o) g)
  one_relop o a = keeps_made q ARelOp (relop_at o) (λ p h. h) a

  keeps_relop : Keeps q ARelOp grammar.relop
  unfolding grammar.relop
  keeps_relop =
      keeps_choice q (one_relop rel_op.Equal (keeps_symbol s.Equal))
      (keeps_choice q (one_relop rel_op.NotEqual (keeps_symbol s.NotEqual))
      (keeps_choice q (one_relop rel_op.Less (keeps_symbol s.Less))
      (keeps_choice q (one_relop rel_op.LessEqual (keeps_symbol s.LessEqual))
      (keeps_choice q (one_relop rel_op.Greater (keeps_symbol s.Greater))
      (one_relop rel_op.GreaterEqual (keeps_symbol s.GreaterEqual))))))

  -- ---- what nests

  pub record KeepsLevels (l : Levels) : Type 0 where
    pub phrase : Keeps q APhrase l.phrase
    pub negation : Keeps q APhrase l.negation
    pub absolute : Keeps q APhrase l.absolute

  chain_stands : (x : Phrase × List Link) → Both APhrase (Each ALink) x → phrase_stands q (chain_of x) ≡ true
  chain_stands x h = go x.1 h.1
    where
      go : (ls : List Link) → Each ALink ls → phrase_stands q (chain_of (x.0, ls)) ≡ true
      go [] i = h.0
      go (l ∷ ls) i = let first = first_stands x.0 h.0 in also first (also first (also h.0 (all_links (l ∷ ls) i)))

  keeps_chain : {first : Part Phrase} {operator : Part (Op × Place)} {x : Part Phrase} → Keeps q AnOp operator → Keeps q APhrase first → Keeps q APhrase x → Keeps q APhrase (grammar.chain first operator x)
  unfolding grammar.chain grammar.links
  keeps_chain o a b = keeps_made q APhrase chain_of chain_stands (keeps_both q a (keeps_many q (keeps_made q ALink link_of (λ x h. also h.0 h.1) (keeps_both q o b))))

  perhaps_kept : (x : Option Phrase) → places.Perhaps APhrase x → perhaps_stands q (perhaps_of x) ≡ true
  perhaps_kept None h = refl
  perhaps_kept (Some x) h = h

  module _ (l : Levels) (ok : KeepsLevels l) where
    keeps_perhaps : Keeps q APhrase (grammar.perhaps l)
    unfolding grammar.perhaps
    keeps_perhaps = keeps_choice q ok.phrase (keeps_empty q APhrase empty_at (λ t h. also h (also h refl)))

    keeps_bound : Keeps q ABound (grammar.bound l)
    unfolding grammar.bound
    keeps_bound = keeps_made q ABound bound_of (λ x h. also h.1.0 (also h.0 h.1.1)) (keeps_both q ok.phrase (keeps_both q (keeps_symbol s.Bounds) ok.phrase))

    keeps_procedure : Keeps q (To AResult ADecl) (grammar.procedure l)
    unfolding grammar.procedure
    keeps_procedure = keeps_made q (To AResult ADecl) procedure_of (λ x h t i. also h.0 (also i (also h.1.0 (also h.1.1.0 h.1.1.1))))
        (keeps_both q (keeps_word w.Procedure) (keeps_both q keeps_name (keeps_both q (keeps_left q (symbol s.Semicolon) keeps_formals) keeps_perhaps)))

    keeps_decl_end : Keeps q (To ASpec ADecl) (grammar.decl_end l)
    unfolding grammar.decl_end
    keeps_decl_end =
        keeps_choice q (keeps_made q (To ASpec ADecl) array_decl (λ x h t i. also i (also h.0 (all_bounds x.1 h.1))) (keeps_right q (word w.Array) (keeps_both q keeps_names (keeps_parens (keeps_separated s.Comma keeps_bound)))))
        (keeps_choice q (keeps_made q (To ASpec ADecl) typed (λ f h t i. h (Some t) i) keeps_procedure)
        (keeps_made q (To ASpec ADecl) simple_decl (λ x h t i. also i h) keeps_names))

    keeps_decl : Keeps q ADecl (grammar.decl l)
    unfolding grammar.decl
    keeps_decl = keeps_choice q (keeps_made q ADecl untyped (λ f h. h None refl) keeps_procedure) (keeps_choice q keeps_class (keeps_applied q keeps_spec keeps_decl_end))

    keeps_item : Keeps q AnItem (grammar.item l)
    unfolding grammar.item grammar.label
    keeps_item = keeps_made q AnItem item_of (λ x h. also (all_names x.0 h.0) h.1) (keeps_both q (keeps_many q (keeps_left q (symbol s.Colon) keeps_name)) keeps_perhaps)

    pub closed_block : Closed q APhrase (grammar.block l)
    unfolding grammar.block word
    closed_block = closed_made q APhrase block_of (λ x h. also h.0 (also h.0 (also (all_decls x.1.0 h.1.0) (all_items x.1.1 h.1.1))))
        (closed_both q (keeps_word w.Begin) (closed_both q (keeps_many q (keeps_left q (symbol s.Semicolon) keeps_decl)) (closed_left q (word_at w.End) (keeps_separated s.Semicolon keeps_item))))

    keeps_actual : Keeps q AnActual (grammar.actual l)
    unfolding grammar.actual
    keeps_actual = keeps_choice q (keeps_made q AnActual Star (λ x h. h) (keeps_symbol s.Star)) (keeps_made q AnActual Given (λ x h. h) ok.phrase)

    keeps_list : Keeps q (To APlace AListing) (grammar.list l)
    unfolding grammar.list
    keeps_list =
        let actuals = keeps_later s.Comma keeps_actual in
        keeps_choice q (keeps_made q (To APlace AListing) actuals_from_star (λ x h p i. also i (also h.0 (all_actuals x.1 h.1))) (keeps_both q (keeps_symbol s.Star) actuals))
        (keeps_applied q ok.phrase (keeps_choice q
        (keeps_made q (To APhrase (To APlace AListing)) part_of (λ x h y i p j. also j i) (keeps_any q (symbol s.Bar ⊳ number)))
        (keeps_made q (To APhrase (To APlace AListing)) actuals_from (λ x h y i p j. also j (also i (all_actuals x h))) actuals)))

    keeps_listing : Keeps q AListing (grammar.listing l)
    unfolding grammar.listing
    keeps_listing = keeps_applied q (keeps_symbol s.Open) (keeps_left q (symbol s.Close) keeps_list)

    keeps_prim : Keeps q APhrase (grammar.prim l)
    unfolding grammar.prim
    keeps_prim = keeps_choice q ok.absolute (keeps_choice q (keeps_parens ok.phrase) (keeps_choice q (keeps_closed q closed_block) (keeps_choice q
        (keeps_made q APhrase named_of (λ x h. also h.0 (also h.0 (all_lists x.1 h.1))) (keeps_both q keeps_name (keeps_many q keeps_listing)))
        keeps_literal)))

    keeps_shift : Keeps q APhrase (grammar.shift l)
    unfolding grammar.shift
    keeps_shift = keeps_chain keeps_shifting keeps_prim keeps_prim

    keeps_term : Keeps q APhrase (grammar.term l)
    unfolding grammar.term
    keeps_term = keeps_chain keeps_multiplying keeps_shift keeps_shift

    keeps_signed : Keeps q APhrase (grammar.signed l)
    unfolding grammar.signed
    keeps_signed =
        keeps_choice q (keeps_made q APhrase (signed_of false) (λ x h. also h.0 (also h.0 h.1)) (keeps_both q (keeps_symbol s.Plus) keeps_term))
        (keeps_choice q (keeps_made q APhrase (signed_of true) (λ x h. also h.0 (also h.0 h.1)) (keeps_both q (keeps_symbol s.Minus) keeps_term))
        keeps_term)

    keeps_sum : Keeps q APhrase (grammar.sum l)
    unfolding grammar.sum
    keeps_sum = keeps_chain keeps_adding keeps_signed keeps_term

    keeps_relation_end : Keeps q (To APhrase APhrase) (grammar.relation_end l)
    unfolding grammar.relation_end
    keeps_relation_end =
        keeps_choice q (keeps_made q (To APhrase APhrase) class_test (λ x h y i. also h.0 (also (first_stands y i) (also i h.1))) (keeps_both q (keeps_word w.Is) keeps_name))
        (keeps_choice q (keeps_made q (To APhrase APhrase) relation_of (λ x h y i. also h.0 (also (first_stands y i) (also i h.1))) (keeps_both q keeps_relop keeps_sum))
        (keeps_nothing q (To APhrase APhrase) same (λ y i. i)))

    keeps_rel : Keeps q APhrase (grammar.rel l)
    unfolding grammar.rel
    keeps_rel = keeps_applied q keeps_sum keeps_relation_end

    keeps_neg : Keeps q APhrase (grammar.neg l)
    unfolding grammar.neg
    keeps_neg = keeps_choice q ok.negation keeps_rel

    keeps_conj : Keeps q APhrase (grammar.conj l)
    unfolding grammar.conj
    keeps_conj = keeps_chain keeps_and keeps_neg keeps_neg

    keeps_disj : Keeps q APhrase (grammar.disj l)
    unfolding grammar.disj
    keeps_disj = keeps_chain keeps_or keeps_conj keeps_conj

    keeps_assign_end : Keeps q (To APhrase APhrase) (grammar.assign_end l)
    unfolding grammar.assign_end
    keeps_assign_end =
        keeps_choice q (keeps_made q (To APhrase APhrase) assign_of (λ x h y i. also h.0 (also (first_stands y i) (also i h.1))) (keeps_both q (keeps_symbol s.Becomes) ok.phrase))
        (keeps_nothing q (To APhrase APhrase) same (λ y i. i))

    keeps_assignment : Keeps q APhrase (grammar.assignment l)
    unfolding grammar.assignment
    keeps_assignment = keeps_applied q keeps_disj keeps_assign_end

    keeps_if : Keeps q APhrase (grammar.if_phrase l)
    unfolding grammar.if_phrase
    keeps_if = keeps_made q APhrase if_of (λ x h. also h.0 (also h.0 (also h.1.0 (also h.1.1.0 (perhaps_kept x.1.1.1 h.1.1.1)))))
        (keeps_both q (keeps_word w.If) (keeps_both q (keeps_left q (word w.Then) ok.phrase) (keeps_both q keeps_perhaps (keeps_else q (keeps_right q (word w.Else) keeps_perhaps)))))

    keeps_case_end : Keeps q (To APhrase AKind) (grammar.case_end l)
    unfolding grammar.case_end
    keeps_case_end =
        keeps_choice q (keeps_made q (To APhrase AKind) case_value (λ xs h y i. also i (all_phrases xs h)) (keeps_parens (keeps_separated s.Comma ok.phrase)))
        (keeps_made q (To APhrase AKind) case_do (λ xs h y i. also i (all_phrases xs h)) (keeps_right q (word w.Begin) (keeps_left q (word w.End) (keeps_separated s.Semicolon keeps_perhaps))))

    keeps_case : Keeps q APhrase (grammar.case_phrase l)
    unfolding grammar.case_phrase
    keeps_case = keeps_made q APhrase case_of (λ x h. also h.0 (also h.0 h.1)) (keeps_both q (keeps_word w.Case) (keeps_applied q {W = AKind} (keeps_left q (word w.Of) ok.phrase) keeps_case_end))

    keeps_for_end : Keeps q AForEnd (grammar.for_end l)
    unfolding grammar.for_end
    keeps_for_end =
        keeps_choice q (keeps_made q AForEnd for_list (λ xs h x a b i j. also (all_phrases (a ∷ xs) (i, h)) j) (keeps_left q (word w.Do) (keeps_later s.Comma ok.phrase)))
        (keeps_made q AForEnd for_step (λ x h y a b i j. also i (also (perhaps_kept x.0 h.0) (also h.1 j)))
        (keeps_both q (keeps_optional (keeps_right q (word w.Step) ok.phrase)) (keeps_right q (word w.Until) (keeps_left q (word w.Do) ok.phrase))))

    keeps_for_phrase : Keeps q APhrase (grammar.for_phrase l)
    unfolding grammar.for_phrase
    keeps_for_phrase = keeps_made q APhrase for_of (λ x h. also h.0 (also h.0 (h.1.1.1.0 x.1.0.0 x.1.1.0 x.1.1.1.1 h.1.1.0 h.1.1.1.1)))
        (keeps_both q (keeps_word w.For) (keeps_both q (keeps_any q (name ⊲ symbol s.Becomes)) (keeps_both q ok.phrase (keeps_both q keeps_for_end keeps_perhaps))))

    keeps_while : Keeps q APhrase (grammar.while_phrase l)
    unfolding grammar.while_phrase
    keeps_while = keeps_made q APhrase while_of (λ x h. also h.0 (also h.0 (also h.1.0 h.1.1))) (keeps_both q (keeps_word w.While) (keeps_both q (keeps_left q (word w.Do) ok.phrase) keeps_perhaps))

    keeps_assert : Keeps q APhrase (grammar.assert_phrase l)
    unfolding grammar.assert_phrase
    keeps_assert = keeps_made q APhrase assert_of (λ x h. also h.0 (also h.0 h.1)) (keeps_both q (keeps_word w.Assert) ok.phrase)

    keeps_phrase : Keeps q APhrase (grammar.phrase l)
    unfolding grammar.phrase
    keeps_phrase = keeps_choice q keeps_if (keeps_choice q keeps_case (keeps_choice q keeps_for_phrase (keeps_choice q keeps_while (keeps_choice q keeps_goto (keeps_choice q keeps_assert keeps_assignment)))))

    keeps_negation : Keeps q APhrase (grammar.negation l)
    unfolding grammar.negation
    keeps_negation = keeps_made q APhrase negated_of (λ x h. also h.0 (also h.0 h.1)) (keeps_both q (keeps_symbol s.Not) keeps_neg)

    keeps_absolute : Keeps q APhrase (grammar.absolute l)
    unfolding grammar.absolute
    keeps_absolute = keeps_made q APhrase absolute_of (λ x h. also h.0 (also h.0 h.1)) (keeps_both q (keeps_word w.Abs) keeps_prim)

  -- by derivations of whatever nesting, within the limit or beyond
  keeps_levels : (n room : ℕ) → KeepsLevels (grammar.levels n room)
  unfolding grammar.levels
  keeps_levels zero room = record { phrase = keeps_nowhere q APhrase; negation = keeps_nowhere q APhrase; absolute = keeps_nowhere q APhrase }
  keeps_levels (suc n) zero = let ok = keeps_levels n zero in record { phrase = keeps_beyond q (keeps_phrase _ ok); negation = keeps_beyond q (keeps_negation _ ok); absolute = keeps_beyond q (keeps_absolute _ ok) }
  keeps_levels (suc n) (suc room) = let ok = keeps_levels n room in record { phrase = keeps_phrase _ ok; negation = keeps_negation _ ok; absolute = keeps_absolute _ ok }

  -- ---- programs: the last token, which is the end of the deck, may stand anywhere

  abbrev pub init_stands : List Token → Bool
  init_stands [] = true
  init_stands (t ∷ []) = true
  init_stands (t ∷ s ∷ ts) = q t.place && init_stands (s ∷ ts)

  pub init_and : (t : Token) (ts : List Token) → q t.place ≡ true → init_stands ts ≡ true → init_stands (t ∷ ts) ≡ true
  init_and t [] h k = refl
  init_and t (s ∷ ts) h k = also h k

  front_stands : (v : List Token) (t : Token) → init_stands (v ++ t ∷ []) ≡ true → tokens_stand q v ≡ true
  front_stands [] t h = refl
  front_stands (s ∷ []) t h = h
  front_stands (s ∷ r ∷ v) t h = let parts = and_parts (q s.place) (init_stands (r ∷ v ++ t ∷ [])) h in also parts.0 (front_stands (r ∷ v) t parts.1)

  pub spelled : (tokens : List Token) (x : Phrase) (b : Beyond) → Spells tokens x b → init_stands tokens ≡ true → phrase_stands q x ≡ true
  unfolding grammar.program both made token
  spelled tokens x b (n, spells) h = subst (λ y. phrase_stands q y ≡ true) (sym spells.2) (go spells.0 spells.1)
    where
      go : (y : Phrase × Place) → (both (grammar.block (grammar.levels n 99) ⊲ grammar.optional (symbol s.Stop)) (token finish_at)).spells None tokens y b → phrase_stands q y.0 ≡ true
      go y (v, u, d, e, i, j, k, l) =
          let stand = front_stands v (finish_at y.1) (ap init_stands (sym (i ∙ ap (λ u. v ++ u) l.0)) ∙ h) in
          closed_front q (grammar.optional (symbol s.Stop)) (closed_block (grammar.levels n 99) (keeps_levels n 99)) _ v y.0 d k (λ a c m. (places.both_stand q v a c m stand).0)
