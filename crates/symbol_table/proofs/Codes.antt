-- What stands for names in code, where more names are declared.
use Rattle.std.proofs.Common.{◌≡◌, ℕ, ◌+◌, List, [], ◌∷◌, ◌++◌, length, map, take, drop, Option, Some, None, refl, sym, ap, ◌∙◌, arith, append_assoc}
use Rattle.std.specs.List.{All}
use Rattle.std.specs.declared.vec.Vec.{Vec}
use Rattle.std.specs.declared.alloc.Global.{Global}
use Rattle.std.proofs.lemmas.List.{length-append}
use Rattle.std.proofs.lemmas.List.Elements.{All-head, All-tail}
use Rattle.value_ops.specs.declared.places.Place.{Place}
use Rattle.value_ops.specs.declared.values.ClassId.{ClassId}
use Rattle.value_ops.specs.declared.values.SimpleType.{SimpleType}
use Rattle.algolw_tree.specs.declared.programs.TypedClass.{TypedClass}
use Rattle.algolw_tree.specs.declared.programs.TypedDecl.{TypedDecl, Simple, Array', Proc, Class}
use Rattle.algolw_tree.specs.declared.programs.TypedItem.{TypedItem}
use Rattle.algolw_tree.specs.declared.programs.TypedProc.{TypedProc'}
use Rattle.algolw_typing.specs.Known.{KnowsDecl, KnowsDecls}
use Rattle.algolw_typing.specs.ProgramView.{Numbers, decl_view, formal_view, numbered, targets_view}
use Rattle.program_meaning.specs.Phrases as phrases
use Rattle.program_meaning.specs.Phrases.{Items, no_items, item_and, Decls, no_decls, variables_and, arrays_and, procedure_and}
use Rattle.program_meaning.specs.Translating as translating
use Rattle.program_meaning.specs.Translating.{decl_of, decls_of, formals_of, items_of, names_at, places_of}
use Rattle.phrase_code.specs.Sizes as kinds
use Rattle.phrase_code.specs.Sizes.{Known, bounds_size, decls_size, size}
use Rattle.phrase_code.specs.Coding as coding
use Rattle.phrase_code.specs.Coding.{Stand, decl_stands, formal_stands, item_stands, known_of, label_stands, name_stands}
use Rattle.phrase_code.proofs.Sizes.{known_names}
use Rattle.stack_code.specs.CodeView as code
use Rattle.stack_code.specs.Linking.{instruction_at}
use Rattle.stack_code.specs.declared.heads.Formal.{Formal}
use Rattle.stack_code.specs.declared.heads.FormalType.{FormalType}
use Rattle.stack_code.specs.declared.heads.FormalType.TheVariants as formal
use Rattle.symbol_table.specs.declared.blocks.Cursor.{Cursor}
use Rattle.symbol_table.specs.declared.standings.Standing.{Standing}
use Rattle.symbol_table.specs.declared.standings.Standing.TheVariants as standing
use Rattle.symbol_table.specs.Blocks.{all_formals, all_names, behind, class_names, decl_formals, decl_names, decls_formals, decls_names, entry_count, entry_names, field_names, formal_count, group_names, label_names}
use Rattle.symbol_table.specs.Contexts.{Scene, SceneFits, StandingFits, info_of, numbers_in, place_of, stand, stand_and, stands}
use Rattle.symbol_table.specs.Parts.{decls_in, item_labels, items_in}
use Rattle.symbol_table.specs.Standings.{Names}
use Rattle.symbol_table.specs.Symbols.{SymbolsView, class_at, formal_names, formal_standing}
use Rattle.symbol_table.specs.Targets.{DeclsStand, ItemsStand}
use Rattle.symbol_table.proofs.Cursors.{behind_is, length-formals}
use Rattle.symbol_table.proofs.Fitting.{NameFits, with_symbols}
use Rattle.symbol_table.proofs.Knowing.{procedure_known}
use Rattle.symbol_table.proofs.Lists.{part_between, part_in_front}
use Rattle.symbol_table.proofs.Places.{numbered_place}
use Rattle.symbol_table.proofs.Viewing.{formals_viewed, length-names_at}

-- ---- names that were declared before

module _ (s : Scene) (v : SymbolsView) (more_formals : List Formal) (formals : v.formals ≡ s.symbols.formals ++ more_formals) (ts : List ℕ) where
  stand_as_before : (p : Place) (x : Standing) (more : List Stand) → StandingFits s x → stand_and (with_symbols s v) ts p x more ≡ stand_and s ts p x more
  stand_as_before p standing.Unknown more h = refl
  stand_as_before p (standing.Standard n) more h = refl
  stand_as_before p (standing.Variable t e) more h = refl
  stand_as_before p (standing.NameFormal t e) more h = refl
  stand_as_before p (standing.Control e) more h = refl
  stand_as_before p (standing.Array t e) more h = refl
  stand_as_before p (standing.ProcedureFormal t e) more h = refl
  stand_as_before p (standing.Procedure x) more h =
      ap (λ (fs : List Formal). stand p (kinds.a_procedure (map (code.formal_view s.given) fs)) (record { level = x.level; position = 0 }) (instruction_at ts x.target) ∷ more)
      (ap (λ (fs : List Formal). take x.count (drop x.formals fs)) formals ∙ part_in_front s.symbols.formals more_formals x.formals x.count h.1)
  stand_as_before p (standing.Class c) more h = refl
  stand_as_before p (standing.Field c n t) more h = refl
  stand_as_before p (standing.Label e target) more h = refl

  pub stands_as_before : (names : Names) → All (NameFits s) names → stands (with_symbols s v) ts names ≡ stands s ts names
  stands_as_before [] a = refl
  stands_as_before (x ∷ names) a =
      stand_as_before (place_of s x.0) x.1 (stands (with_symbols s v) ts names) (All-head (NameFits s) x names a).1
      ∙ ap (λ (l : List Stand). stand_and s ts (place_of s x.0) x.1 l) (stands_as_before names (All-tail (NameFits s) x names a))

-- ---- by the numbers of targets

-- the names of declarations, where procedures stand at these targets
abbrev pub decls_at : (ts : List ℕ) → (level position target : ℕ) → Decls → List Stand → List Stand
decls_at ts level position target no_decls names = names
decls_at ts level position target (variables_and xs rest) names = name_stands kinds.a_variable level position xs (decls_at ts level (position + length xs) target rest names)
decls_at ts level position target (arrays_and t xs pairs rest) names = name_stands kinds.an_array level position xs (decls_at ts level (position + length xs) target rest names)
decls_at ts level position target (procedure_and x result formals body rest) names = record { place = x.place; kind = kinds.a_procedure formals; level = level; position = 0; target = instruction_at ts target } ∷ decls_at ts level position (target + 1) rest names

abbrev pub items_at : (ts : List ℕ) → (level mark target : ℕ) → Items → List Stand → List Stand
items_at ts level mark target no_items names = names
items_at ts level mark target (item_and labels a rest) names = label_stands level mark (instruction_at ts target) labels (items_at ts level mark (target + 1) rest names)

pub decls_there : (ts : List ℕ) (outside inside : List Known) (level position k target : ℕ) (decls : Decls) (names : List Stand) → DeclsStand outside inside k decls ts target → decls_at ts level position target decls names ≡ decl_stands outside inside level position k decls names
decls_there ts outside inside level position k target no_decls names h = refl
decls_there ts outside inside level position k target (variables_and xs rest) names h =
    ap (λ (l : List Stand). name_stands kinds.a_variable level position xs l) (decls_there ts outside inside level (position + length xs) (k + length xs) target rest names h)
decls_there ts outside inside level position k target (arrays_and t xs pairs rest) names h =
    ap (λ (l : List Stand). name_stands kinds.an_array level position xs l) (decls_there ts outside inside level (position + length xs) (k + (bounds_size outside pairs + (1 + length xs))) target rest names h)
decls_there ts outside inside level position k target (procedure_and x result formals body rest) names h =
    ap (λ (n : ℕ). let y : Stand = record { place = x.place; kind = kinds.a_procedure formals; level = level; position = 0; target = n } in y ∷ decls_at ts level position (target + 1) rest names) h.0
    ∙ ap (λ (l : List Stand). let y : Stand = record { place = x.place; kind = kinds.a_procedure formals; level = level; position = 0; target = k } in y ∷ l) (decls_there ts outside inside level position (k + decls_size outside inside (procedure_and x result formals body no_decls)) (target + 1) rest names h.1)

pub items_there : (ts : List ℕ) (inside : List Known) (level mark k target : ℕ) (items : Items) (names : List Stand) → ItemsStand inside k items ts target → items_at ts level mark target items names ≡ item_stands inside level mark k items names
items_there ts inside level mark k target no_items names h = refl
items_there ts inside level mark k target (item_and labels a rest) names h =
    ap (λ (n : ℕ). label_stands level mark n labels (items_at ts level mark (target + 1) rest names)) h.0
    ∙ ap (λ (l : List Stand). label_stands level mark k labels l) (items_there ts inside level mark (k + size inside a) (target + 1) rest names h.1)

-- what they are is known wherever they stand
pub decls_at_known : (ts : List ℕ) (level position target : ℕ) (decls : Decls) (names : List Stand) → map known_of (decls_at ts level position target decls names) ≡ kinds.decls_known decls (map known_of names)
decls_at_known ts level position target no_decls names = refl
decls_at_known ts level position target (variables_and xs rest) names = known_names kinds.a_variable level position xs (decls_at ts level (position + length xs) target rest names) ∙ ap (kinds.name_known kinds.a_variable xs) (decls_at_known ts level (position + length xs) target rest names)
decls_at_known ts level position target (arrays_and t xs pairs rest) names = known_names kinds.an_array level position xs (decls_at ts level (position + length xs) target rest names) ∙ ap (kinds.name_known kinds.an_array xs) (decls_at_known ts level (position + length xs) target rest names)
decls_at_known ts level position target (procedure_and x result formals body rest) names = ap (λ (l : List Known). let y : Known = record { place = x.place; kind = kinds.a_procedure formals } in y ∷ l) (decls_at_known ts level position (target + 1) rest names)

labels_at_known : (level mark target : ℕ) (xs : List Place) (names : List Stand) → map known_of (label_stands level mark target xs names) ≡ kinds.labels_known xs (map known_of names)
labels_at_known level mark target [] names = refl
labels_at_known level mark target (x ∷ xs) names = ap (λ (l : List Known). let y : Known = record { place = x; kind = kinds.a_label } in y ∷ l) (labels_at_known level mark target xs names)

pub items_at_known : (ts : List ℕ) (level mark target : ℕ) (items : Items) (names : List Stand) → map known_of (items_at ts level mark target items names) ≡ kinds.items_known items (map known_of names)
items_at_known ts level mark target no_items names = refl
items_at_known ts level mark target (item_and labels a rest) names = labels_at_known level mark (instruction_at ts target) labels (items_at ts level mark (target + 1) rest names) ∙ ap (kinds.labels_known labels) (items_at_known ts level mark (target + 1) rest names)

-- ---- names that are declared

-- what stands for a name that is declared, in front of others
module _ (s : Scene) (ts : List ℕ) where
  abbrev ns : Numbers
  ns = numbers_in s

  at_place : (p q : Place) (kind : kinds.Kind) (level position target : ℕ) (a b : List Stand) → p ≡ q → a ≡ b → ◌≡◌ {A = List Stand} (record { place = p; kind = kind; level = level; position = position; target = target } ∷ a) (record { place = q; kind = kind; level = level; position = position; target = target } ∷ b)
  at_place p q kind level position target a b e f =
      ap (λ (r : Place). let y : Stand = record { place = r; kind = kind; level = level; position = position; target = target } in y ∷ a) e
      ∙ ap (λ (l : List Stand). let y : Stand = record { place = q; kind = kind; level = level; position = position; target = target } in y ∷ l) f

  place_numbered : (n : ℕ) → place_of s n ≡ numbered ns.names n
  place_numbered n = sym (numbered_place s n)

  variables_stand : (pc : translating.Context) (t : SimpleType) (level position : ℕ) (xs : List (ℕ × Place)) (more : Names) (rest : List Stand) → stands s ts more ≡ rest → stands s ts (entry_names (λ e. standing.Variable t e) level position xs more) ≡ name_stands kinds.a_variable level position (names_at pc (targets_view ns xs)) rest
  variables_stand pc t level position [] more rest e = e
  variables_stand pc t level position (x ∷ xs) more rest e = at_place (place_of s x.0) (numbered ns.names x.0) kinds.a_variable level position 0 _ _ (place_numbered x.0) (variables_stand pc t level (position + 1) xs more rest e)

  arrays_stand : (pc : translating.Context) (t : SimpleType) (level position : ℕ) (xs : List (ℕ × Place)) (more : Names) (rest : List Stand) → stands s ts more ≡ rest → stands s ts (entry_names (λ e. standing.Array t e) level position xs more) ≡ name_stands kinds.an_array level position (names_at pc (targets_view ns xs)) rest
  arrays_stand pc t level position [] more rest e = e
  arrays_stand pc t level position (x ∷ xs) more rest e = at_place (place_of s x.0) (numbered ns.names x.0) kinds.an_array level position 0 _ _ (place_numbered x.0) (arrays_stand pc t level (position + 1) xs more rest e)

  -- classes and fields add nothing
  fields_none : (class : ClassId) (position : ℕ) (t : SimpleType) (xs : List (ℕ × Place)) (more : Names) → stands s ts (field_names class position t xs more) ≡ stands s ts more
  fields_none class position t [] more = refl
  fields_none class position t (x ∷ xs) more = fields_none class (position + 1) t xs more

  groups_none : (class : ClassId) (position : ℕ) (groups : List (SimpleType × Vec (ℕ × Place) Global)) (more : Names) → stands s ts (group_names class position groups more) ≡ stands s ts more
  groups_none class position [] more = refl
  groups_none class position (g ∷ groups) more = fields_none class position g.0 g.1.items (group_names class (position + length g.1.items) groups more) ∙ groups_none class (position + length g.1.items) groups more

  class_none : (o : Option ClassId) (fields : ℕ) (x : TypedClass) (more : Names) → stands s ts (class_names o fields x more) ≡ stands s ts more
  class_none None fields x more = refl
  class_none (Some c) fields x more = groups_none c 0 x.groups.items more

  labels_stand : (level mark target : ℕ) (xs : List (ℕ × Place)) (more : Names) (rest : List Stand) → stands s ts more ≡ rest → stands s ts (all_names (standing.Label (record { level = level; position = mark }) target) xs more) ≡ label_stands level mark (instruction_at ts target) (places_of (targets_view ns xs)) rest
  labels_stand level mark target [] more rest e = e
  labels_stand level mark target (x ∷ xs) more rest e = at_place (place_of s x.0) (numbered ns.names x.0) kinds.a_label level mark (instruction_at ts target) _ _ (place_numbered x.0) (labels_stand level mark target xs more rest e)

  pub items_stand : (pc : translating.Context) (level mark target : ℕ) (items : List TypedItem) (more : Names) → stands s ts (label_names level mark target items more) ≡ items_at ts level mark target (items_of pc (items_in ns items)) (stands s ts more)
  items_stand pc level mark target [] more = refl
  items_stand pc level mark target (i ∷ rest) more = labels_stand level mark target (item_labels i) (label_names level mark (target + 1) rest more) (items_at ts level mark (target + 1) (items_of pc (items_in ns rest)) (stands s ts more)) (items_stand pc level mark (target + 1) rest more)

  pub formals_stand : (level position : ℕ) (fs : List Formal) (more : Names) → stands s ts (formal_names level position fs more) ≡ formal_stands level position (map (code.formal_view s.given) fs) (stands s ts more)
  formals_stand level position [] more = refl
  formals_stand level position (f ∷ fs) more = by f.is (formals_stand level (position + 1) fs more)
    where
      by : (t : FormalType) → stands s ts (formal_names level (position + 1) fs more) ≡ formal_stands level (position + 1) (map (code.formal_view s.given) fs) (stands s ts more) → stand_and s ts (place_of s f.name) (formal_standing t (record { level = level; position = position })) (stands s ts (formal_names level (position + 1) fs more)) ≡ record { place = place_of s f.name; kind = kinds.kind_of_formal (code.formal_type_view s.given t); level = level; position = position; target = 0 } ∷ formal_stands level (position + 1) (map (code.formal_view s.given) fs) (stands s ts more)
      by (formal.ByName t) e = at_place (place_of s f.name) (place_of s f.name) kinds.a_name_formal level position 0 _ _ refl e
      by (formal.Value t) e = at_place (place_of s f.name) (place_of s f.name) kinds.a_variable level position 0 _ _ refl e
      by (formal.Result t) e = at_place (place_of s f.name) (place_of s f.name) kinds.a_variable level position 0 _ _ refl e
      by (formal.ValueResult t) e = at_place (place_of s f.name) (place_of s f.name) kinds.a_variable level position 0 _ _ refl e
      by (formal.Array t n) e = at_place (place_of s f.name) (place_of s f.name) kinds.an_array level position 0 _ _ refl e
      by (formal.Procedure t) e = at_place (place_of s f.name) (place_of s f.name) kinds.a_procedure_formal level position 0 _ _ refl e

-- ---- declarations

module _ (s : Scene) (fits : SceneFits s) (v : SymbolsView) (ts : List ℕ) (pc : translating.Context) (written : pc.names ≡ map info_of s.given.names) where
  abbrev inner : Scene
  inner = with_symbols s v

  abbrev ours : Numbers
  ours = numbers_in s

  decl_stand : (classes : List (Option ClassId)) (level : ℕ) (c : Cursor) (d : TypedDecl) (before after : List Formal) → KnowsDecl ours.names s.given.class_places (decl_view ours d) → v.formals ≡ before ++ (decl_formals d ++ after) → c.formals ≡ length before → (more : Names) (rest : Decls) (names : List Stand) → stands inner ts more ≡ decls_at ts level (behind c d).position (behind c d).target rest names → stands inner ts (decl_names classes level c d more) ≡ decls_at ts level c.position c.target (decl_of pc (decl_view ours d) rest) names
  decl_stand classes level c (Simple t xs) before after k f g more rest names e =
      variables_stand inner ts pc t level c.position xs.items more (decls_at ts level (c.position + length (names_at pc (targets_view ours xs.items))) c.target rest names)
      (e ∙ ap (λ n. decls_at ts level (c.position + n) c.target rest names) (sym (length-names_at pc ours xs.items)))
  decl_stand classes level c (Array' t xs shape bounds) before after k f g more rest names e =
      arrays_stand inner ts pc t level c.position xs.items more (decls_at ts level (c.position + length (names_at pc (targets_view ours xs.items))) c.target rest names)
      (e ∙ ap (λ n. decls_at ts level (c.position + n) c.target rest names) (sym (length-names_at pc ours xs.items)))
  decl_stand classes level c (Proc (TypedProc' place result name formals q p ff kind gg st)) before after k f g more rest names e =
      ap (λ (fs : List phrases.Formal). stand (place_of s name.0) (kinds.a_procedure fs) (record { level = level; position = 0 }) (instruction_at ts c.target) ∷ stands inner ts more)
      (ap (λ (fs : List Formal). map (code.formal_view s.given) fs) (part_between v.formals before (all_formals formals.items) after c.formals (formal_count formals.items) f g (sym (length-formals formals.items)))
      ∙ sym (formals_viewed s fits pc written formals.items (procedure_known s fits (TypedProc' place result name formals q p ff kind gg st) k).2))
      ∙ at_place inner ts (place_of s name.0) (numbered ours.names name.0) (kinds.a_procedure (formals_of pc (map (formal_view ours) formals.items))) level 0 (instruction_at ts c.target) _ _ (place_numbered s ts name.0) e
  decl_stand classes level c (Class x) before after k f g more rest names e = class_none inner ts (class_at classes x.name.0) c.fields x more ∙ e

  pub decls_stand : (classes : List (Option ClassId)) (level : ℕ) (c : Cursor) (decls : List TypedDecl) (before after : List Formal) → KnowsDecls ours.names s.given.class_places (decls_in ours decls) → v.formals ≡ before ++ (decls_formals decls ++ after) → c.formals ≡ length before → (more : Names) → stands inner ts (decls_names classes level c decls more) ≡ decls_at ts level c.position c.target (decls_of pc (decls_in ours decls)) (stands inner ts more)
  decls_stand classes level c [] before after k f g more = refl
  decls_stand classes level c (d ∷ rest) before after k f g more =
      let on : (behind c d).formals ≡ c.formals + length (decl_formals d) = ap (λ (e : Cursor). e.formals) (behind_is c d) in
      let both = length-append before (decl_formals d) in
      let here : v.formals ≡ before ++ (decl_formals d ++ (decls_formals rest ++ after)) = f ∙ ap (λ fs. before ++ fs) (append_assoc (decl_formals d) (decls_formals rest) after) in
      decl_stand classes level c d before (decls_formals rest ++ after) k.0 here g (decls_names classes level (behind c d) rest more) (decls_of pc (decls_in ours rest)) (stands inner ts more)
      (decls_stand classes level (behind c d) rest (before ++ decl_formals d) after k.1 (here ∙ sym (append_assoc before (decl_formals d) (decls_formals rest ++ after))) (omega (arith, on, both, g)) more)

-- how many entries declarations make
pub entries_same : (pc : translating.Context) (ns : Numbers) (decls : List TypedDecl) → coding.entry_count (decls_of pc (decls_in ns decls)) ≡ entry_count decls
entries_same pc ns [] = refl
entries_same pc ns (Simple t xs ∷ rest) = let ih = entries_same pc ns rest in let n = length-names_at pc ns xs.items in omega (arith, ih, n)
entries_same pc ns (Array' t xs shape bounds ∷ rest) = let ih = entries_same pc ns rest in let n = length-names_at pc ns xs.items in omega (arith, ih, n)
entries_same pc ns (Proc (TypedProc' place result name formals q p ff kind gg st) ∷ rest) = let ih = entries_same pc ns rest in omega (arith, ih)
entries_same pc ns (Class x ∷ rest) = let ih = entries_same pc ns rest in omega (arith, ih)
