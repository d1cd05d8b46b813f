-- Each record class of a program is one of its names.
use Rattle.std.proofs.Common.{◌≡◌, refl, zero, suc, List, [], ◌∷◌, ◌++◌, Bool, true, false, ◌⊎◌, inl, inr, arith}
use Rattle.std.specs.Prelude.{⊤}
use Rattle.std.specs.List.{All}
use Rattle.value_ops.specs.declared.places.Place.{Place}
use Rattle.algolw_tree.specs.declared.programs.NameInfo.{NameInfo}
use Rattle.algolw_tree.specs.Tree.{Phrase, Placed}
use Rattle.algolw_tree.specs.Tree as tree
use Rattle.algolw_typing.specs.Types.{is_before}
use Rattle.algolw_typing.specs.Naming.{Class, Naming, and, Frame, infos, inside, of_procedure, outermost, NamePath, scope_of, standard_names, decls_names, decl_names, label_names, block_names, formal_names, declares, naming, kind_naming, perhaps_naming, phrases_naming, links_naming, lists_naming, actuals_naming, items_naming, bounds_naming, decls_naming, decl_naming, program_naming}
use Rattle.algolw_typing.specs.Programs.{inserted_by, by_place, program_of}
use Rattle.algolw_typing.specs.Known.{IsNamed}

-- ---- what each of a list is

abbrev Each : {A : Type 0} → (A → Type 0) → List A → Type 0
Each P [] = ⊤
Each P (x ∷ xs) = P x × Each P xs

each_two : {A : Type 0} (P : A → Type 0) (xs ys : List A) → Each P (xs ++ ys) → Each P xs × Each P ys
each_two P [] ys h = (tt, h)
each_two P (x ∷ xs) ys h = let more = each_two P xs ys h.1 in ((h.0, more.0), more.1)

each_both : {A : Type 0} (P : A → Type 0) (xs ys : List A) → Each P xs → Each P ys → Each P (xs ++ ys)
each_both P [] ys h k = k
each_both P (x ∷ xs) ys h k = (h.0, each_both P xs ys h.1 k)

each_more : {A : Type 0} (P Q : A → Type 0) → ((x : A) → P x → Q x) → (xs : List A) → Each P xs → Each Q xs
each_more P Q f [] h = tt
each_more P Q f (x ∷ xs) h = (f x h.0, each_more P Q f xs h.1)

all_each : {A : Type 0} (P : A → Type 0) (xs : List A) → Each P xs → All P xs
all_each P [] h k d within = absurd (omega arith)
all_each P (x ∷ xs) h zero d within = h.0
all_each P (x ∷ xs) h (suc k) d within = all_each P xs h.1 k d (omega (arith, within))

each_placed : {A : Type 0} (P : A → Type 0) (b : Bool) (a c : A) (as_ bs : List A) → P a → Each P (c ∷ as_) → Each P bs → Each P (elim b [ true ↦ c ∷ bs | false ↦ a ∷ c ∷ as_ ])
each_placed P true a c as_ bs h k more = (k.0, more)
each_placed P false a c as_ bs h k more = (h, k)

each_inserted : {A : Type 0} (P : A → Type 0) (place : A → Place) (a : A) (bs : List A) → P a → Each P bs → Each P (inserted_by place a bs)
each_inserted P place a [] h k = (h, tt)
each_inserted P place a (b ∷ bs) h k = each_placed P (is_before (place b) (place a)) a b bs (inserted_by place a bs) h k (each_inserted P place a bs h k.1)

each_by_place : {A : Type 0} (P : A → Type 0) (place : A → Place) (xs : List A) → Each P xs → Each P (by_place place xs)
each_by_place P place [] h = tt
each_by_place P place (x ∷ xs) h = each_inserted P place x (by_place place xs) h.0 (each_by_place P place xs h.1)

-- ---- what is there of a naming whose names are there

module _ (There : Placed → Type 0) where
  abbrev InfoThere : NameInfo → Type 0
  InfoThere i = There (i.name, i.place)

  abbrev ClassThere : Class → Type 0
  ClassThere c = There (c.name, c.place)

  -- where its names are there, its classes are
  abbrev IsGood : Naming → Type 0
  IsGood n = Each InfoThere n.names → Each ClassThere n.classes

  both : (a b : Naming) → IsGood a → IsGood b → IsGood (and a b)
  both a b f g h = let parts = each_two InfoThere a.names b.names h in each_both ClassThere a.classes b.classes (f parts.0) (g parts.1)

  infos_there : (frame : Frame) (xs : List Placed) → Each InfoThere (infos frame xs) → Each There xs
  infos_there frame [] h = tt
  infos_there frame (x ∷ xs) h = (h.0, infos_there (record frame { slot = suc frame.slot }) xs h.1)

  mutual
    good_naming : (frame : Frame) (path : NamePath) (x : tree.Phrase) → IsGood (naming frame path x)
    good_naming frame path (tree.At p f k) = good_kind frame path p k

    good_kind : (frame : Frame) (path : NamePath) (p : Place) (k : tree.Kind) → IsGood (kind_naming frame path p k)
    good_kind frame path p tree.Empty = λ h. tt
    good_kind frame path p tree.Null = λ h. tt
    good_kind frame path p (tree.Number n) = λ h. tt
    good_kind frame path p (tree.Truth b) = λ h. tt
    good_kind frame path p (tree.BitsLit b) = λ h. tt
    good_kind frame path p (tree.Quoted s) = λ h. tt
    good_kind frame path p (tree.Goto x) = λ h. tt
    good_kind frame path p (tree.Named x lists) = good_lists frame path lists
    good_kind frame path p (tree.Negated a) = good_naming frame path a
    good_kind frame path p (tree.Abs a) = good_naming frame path a
    good_kind frame path p (tree.Signed minus a) = good_naming frame path a
    good_kind frame path p (tree.Chain a links) = both (naming frame path a) (links_naming frame path links) (good_naming frame path a) (good_links frame path links)
    good_kind frame path p (tree.Relation op a b) = both (naming frame path a) (naming frame path b) (good_naming frame path a) (good_naming frame path b)
    good_kind frame path p (tree.IsClass a x q) = good_naming frame path a
    good_kind frame path p (tree.Assign a b) = both (naming frame path a) (naming frame path b) (good_naming frame path a) (good_naming frame path b)
    good_kind frame path p (tree.IfThen c a b) =
        both (naming frame path c) (and (naming frame path a) (perhaps_naming frame path b)) (good_naming frame path c)
        (both (naming frame path a) (perhaps_naming frame path b) (good_naming frame path a) (good_perhaps frame path b))
    good_kind frame path p (tree.CaseValue c values) = both (naming frame path c) (phrases_naming frame path values) (good_naming frame path c) (good_phrases frame path values)
    good_kind frame path p (tree.CaseDo c parts) = both (naming frame path c) (phrases_naming frame path parts) (good_naming frame path c) (good_phrases frame path parts)
    good_kind frame path p (tree.ForStep x a step b body) =
        let xs : List Placed = (x, p) ∷ [] in
        let f = inside frame xs in
        let inner = naming f (scope_of xs ∷ path) body in
        both (declares frame xs) (and (naming f path a) (and (perhaps_naming f path step) (and (naming f path b) inner))) (λ h. tt)
        (
        both (naming f path a) (and (perhaps_naming f path step) (and (naming f path b) inner)) (good_naming f path a)
        (both (perhaps_naming f path step) (and (naming f path b) inner) (good_perhaps f path step) (both (naming f path b) inner (good_naming f path b) (good_naming f (scope_of xs ∷ path) body)))
        )
    good_kind frame path p (tree.ForList x values body) =
        let xs : List Placed = (x, p) ∷ [] in
        let f = inside frame xs in
        let inner = naming f (scope_of xs ∷ path) body in
        both (declares frame xs) (and (phrases_naming f path values) inner) (λ h. tt) (both (phrases_naming f path values) inner (good_phrases f path values) (good_naming f (scope_of xs ∷ path) body))
    good_kind frame path p (tree.WhileDo c a) = both (naming frame path c) (naming frame path a) (good_naming frame path c) (good_naming frame path a)
    good_kind frame path p (tree.Assert c) = good_naming frame path c
    good_kind frame path p (tree.Block decls items) = λ h.
        let xs = block_names decls items in
        let f = inside frame xs in
        let inner = scope_of xs ∷ path in
        let parts = each_two InfoThere (infos frame xs) (and (decls_naming f path inner decls) (items_naming f inner items)).names h in
        let there = each_two There (decls_names decls) (label_names items) (infos_there frame xs parts.0) in
        both (decls_naming f path inner decls) (items_naming f inner items) (good_decls f path inner decls there.0) (good_items f inner items) parts.1

    good_perhaps : (frame : Frame) (path : NamePath) (a : tree.Perhaps) → IsGood (perhaps_naming frame path a)
    good_perhaps frame path tree.Missing = λ h. tt
    good_perhaps frame path (tree.There a) = good_naming frame path a

    good_phrases : (frame : Frame) (path : NamePath) (as_ : tree.Phrases) → IsGood (phrases_naming frame path as_)
    good_phrases frame path tree.no_phrases = λ h. tt
    good_phrases frame path (tree.phrase_and a rest) = both (naming frame path a) (phrases_naming frame path rest) (good_naming frame path a) (good_phrases frame path rest)

    good_links : (frame : Frame) (path : NamePath) (links : tree.Links) → IsGood (links_naming frame path links)
    good_links frame path tree.no_links = λ h. tt
    good_links frame path (tree.link_and (tree.Linked op q a) rest) = both (naming frame path a) (links_naming frame path rest) (good_naming frame path a) (good_links frame path rest)

    good_lists : (frame : Frame) (path : NamePath) (lists : tree.Lists) → IsGood (lists_naming frame path lists)
    good_lists frame path tree.no_lists = λ h. tt
    good_lists frame path (tree.list_and (tree.OfActuals q actuals) rest) = both (actuals_naming frame path actuals) (lists_naming frame path rest) (good_actuals frame path actuals) (good_lists frame path rest)
    good_lists frame path (tree.list_and (tree.OfPart q a n) rest) = both (naming frame path a) (lists_naming frame path rest) (good_naming frame path a) (good_lists frame path rest)

    good_actuals : (frame : Frame) (path : NamePath) (as_ : tree.Actuals) → IsGood (actuals_naming frame path as_)
    good_actuals frame path tree.no_actuals = λ h. tt
    good_actuals frame path (tree.actual_and (tree.Star q) rest) = good_actuals frame path rest
    good_actuals frame path (tree.actual_and (tree.Given a) rest) = both (naming frame path a) (actuals_naming frame path rest) (good_naming frame path a) (good_actuals frame path rest)

    good_items : (frame : Frame) (path : NamePath) (items : tree.Items) → IsGood (items_naming frame path items)
    good_items frame path tree.no_items = λ h. tt
    good_items frame path (tree.item_and (tree.Labelled labels a) rest) = both (naming frame path a) (items_naming frame path rest) (good_naming frame path a) (good_items frame path rest)

    good_bounds : (frame : Frame) (path : NamePath) (bounds : tree.Bounds) → IsGood (bounds_naming frame path bounds)
    good_bounds frame path tree.no_bounds = λ h. tt
    good_bounds frame path (tree.bound_and (tree.Between q a b) rest) =
        both (naming frame path a) (and (naming frame path b) (bounds_naming frame path rest)) (good_naming frame path a)
        (both (naming frame path b) (bounds_naming frame path rest) (good_naming frame path b) (good_bounds frame path rest))

    good_decls : (frame : Frame) (around path : NamePath) (decls : tree.Decls) → Each There (decls_names decls) → IsGood (decls_naming frame around path decls)
    good_decls frame around path tree.no_decls t = λ h. tt
    good_decls frame around path (tree.decl_and d rest) t =
        let parts = each_two There (decl_names d) (decls_names rest) t in
        both (decl_naming frame around path d) (decls_naming frame around path rest) (good_decl frame around path d parts.0) (good_decls frame around path rest parts.1)

    good_decl : (frame : Frame) (around path : NamePath) (d : tree.Decl) → Each There (decl_names d) → IsGood (decl_naming frame around path d)
    good_decl frame around path (tree.Simple spec xs) t = λ h. tt
    good_decl frame around path (tree.Array spec xs bounds) t = good_bounds frame around bounds
    good_decl frame around path (tree.Proc p result x formals body) t =
        let xs = formal_names formals in
        let f = of_procedure frame in
        let inner = naming (inside f xs) (scope_of xs ∷ path) body in
        both (declares f xs) inner (λ h. tt) (good_naming (inside f xs) (scope_of xs ∷ path) body)
    good_decl frame around path (tree.Class c) t = λ h. (t.0, tt)

  good_program : (x : Phrase) → IsGood (program_naming x)
  good_program x = both (declares outermost standard_names) (naming (inside outermost standard_names) (scope_of standard_names ∷ []) x) (λ h. tt) (good_naming (inside outermost standard_names) (scope_of standard_names ∷ []) x)

-- ---- the names in order of place

abbrev IsAmong : List NameInfo → Placed → Type 0
IsAmong [] x = ⊥
IsAmong (i ∷ is) x = ((i.place ≡ x.1) × (i.name ≡ x.0)) ⊎ IsAmong is x

among_placed : (b : Bool) (i j : NameInfo) (is js : List NameInfo) (x : Placed) → (IsAmong is x → IsAmong js x) → IsAmong (j ∷ is) x → IsAmong (elim b [ true ↦ j ∷ js | false ↦ i ∷ j ∷ is ]) x
among_placed true i j is js x f (inl h) = inl h
among_placed true i j is js x f (inr h) = inr (f h)
among_placed false i j is js x f h = inr h

among_inserted : (i : NameInfo) (is : List NameInfo) (x : Placed) → IsAmong is x → IsAmong (inserted_by (λ j. j.place) i is) x
among_inserted i [] x h = absurd h
among_inserted i (j ∷ is) x h = among_placed (is_before j.place i.place) i j is (inserted_by (λ j. j.place) i is) x (among_inserted i is x) h

new_placed : (b : Bool) (i j : NameInfo) (is js : List NameInfo) (x : Placed) → IsAmong js x → (i.place ≡ x.1) × (i.name ≡ x.0) → IsAmong (elim b [ true ↦ j ∷ js | false ↦ i ∷ j ∷ is ]) x
new_placed true i j is js x h e = inr h
new_placed false i j is js x h e = inl e

new_inserted : (i : NameInfo) (is : List NameInfo) → IsAmong (inserted_by (λ j. j.place) i is) (i.name, i.place)
new_inserted i [] = inl (refl, refl)
new_inserted i (j ∷ is) = new_placed (is_before j.place i.place) i j is (inserted_by (λ j. j.place) i is) (i.name, i.place) (new_inserted i is) (refl, refl)

all_among : (is : List NameInfo) → Each (λ (i : NameInfo). IsAmong (by_place (λ j. j.place) is) (i.name, i.place)) is
all_among [] = tt
all_among (i ∷ is) =
    let more = by_place (λ j. j.place) is in (
      new_inserted i more,
      each_more (λ (j : NameInfo). IsAmong more (j.name, j.place)) (λ (j : NameInfo). IsAmong (inserted_by (λ k. k.place) i more) (j.name, j.place)) (λ j h. among_inserted i more (j.name, j.place) h) is (all_among is),
    )

any_among : (is : List NameInfo) (c : Class) → IsAmong is (c.name, c.place) → IsNamed is c
any_among [] c h = absurd h
any_among (i ∷ is) c (inl h) = (0, i, omega arith, refl, h)
any_among (i ∷ is) c (inr h) = let more = any_among is c h in (suc more.0, more.1, omega (arith, more.2), more.3, more.4)

pub classes_are_names : (x : Phrase) → All (IsNamed (program_of x).names) (program_of x).classes
classes_are_names x =
    let names = (program_of x).names in
    let there = good_program (IsAmong names) x (all_among (program_naming x).names) in
    all_each (IsNamed names) (program_of x).classes
    (
    each_more (λ (c : Class). IsAmong names (c.name, c.place)) (IsNamed names) (any_among names) (program_of x).classes
    (each_by_place (λ (c : Class). IsAmong names (c.name, c.place)) (λ c. c.place) (program_naming x).classes there)
    )
