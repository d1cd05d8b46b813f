-- In a block, in a body and in the body of a FOR what is known of names fits too.
use Rattle.std.proofs.Common.{refl, ◌≡◌, ℕ, ◌+◌, ◌<◌, ◌≤◌, List, [], ◌∷◌, ◌++◌, length, map, Option, Some, None, true, sym, ap, ◌∙◌, subst, arith}
use Rattle.std.specs.List.{All}
use Rattle.std.specs.declared.vec.Vec.{Vec}
use Rattle.std.specs.declared.alloc.Global.{Global}
use Rattle.std.proofs.lemmas.List.{length-append, map-append}
use Rattle.std.proofs.lemmas.List.Elements.{All-append, All-cons, All-head, All-tail, All-weaker}
use Rattle.value_ops.specs.declared.places.Place.{Place}
use Rattle.value_ops.specs.declared.values.ClassId.{ClassId}
use Rattle.value_ops.specs.declared.values.SimpleType.{SimpleType}
use Rattle.algolw_tree.specs.declared.programs.TypedClass.{TypedClass}
use Rattle.algolw_tree.specs.declared.programs.TypedDecl.{TypedDecl, Simple, Array', Proc, Class}
use Rattle.algolw_tree.specs.declared.programs.TypedFormal.{TypedFormal}
use Rattle.algolw_tree.specs.declared.programs.TypedItem.{TypedItem}
use Rattle.algolw_tree.specs.declared.programs.TypedProc.{TypedProc'}
use Rattle.algolw_typing.specs.Known.{KnowsDecl, KnowsDeclared, KnowsDecls, KnowsGroups, KnowsItems}
use Rattle.algolw_typing.specs.ProgramView.{Numbers, decl_view, formal_view, numbered, targets_view}
use Rattle.algolw_typing.specs.Types.{has}
use Rattle.program_soundness.specs.Tables.{Info, control_info, formals_info}
use Rattle.stack_code.specs.CodeView.{FormalFits, FormalTypeFits, KindFits}
use Rattle.stack_code.specs.declared.heads.Formal.{Formal}
use Rattle.stack_code.specs.declared.heads.FormalType.{FormalType}
use Rattle.stack_code.specs.declared.heads.FormalType.TheVariants as formal
use Rattle.symbol_table.specs.declared.blocks.Cursor.{Cursor}
use Rattle.symbol_table.specs.declared.here.Here.{Here}
use Rattle.symbol_table.specs.declared.standings.Entry.{Entry}
use Rattle.symbol_table.specs.declared.standings.Standing.{Standing}
use Rattle.symbol_table.specs.declared.standings.Standing.TheVariants as standing
use Rattle.symbol_table.specs.Blocks.{all_formals, all_names, behind, block_names, class_names, decl_fields, decl_formals, decl_names, decls_fields, decls_formals, decls_names, entry_count, entry_names, field_count, field_names, first_cursor, formal_count, group_names, label_names, procedure_count, with_block}
use Rattle.symbol_table.specs.Contexts.{AreFresh, ClassesHad, IsOnce, Scene, SceneFits, StandingFits, block_infos, in_block, in_body, in_turn, numbers_in, place_of, places_of}
use Rattle.symbol_table.specs.Parts.{decls_in, item_labels, items_in}
use Rattle.symbol_table.specs.Standings.{Names}
use Rattle.symbol_table.specs.Symbols.{SymbolsView, class_at, formal_names, formal_standing}
use Rattle.symbol_table.proofs.Cursors.{behind_is, length-fields, length-formals}
use Rattle.symbol_table.proofs.Fresh.{fresh_inside, info_places}
use Rattle.symbol_table.proofs.Fronts.{front_block, front_formals}
use Rattle.symbol_table.proofs.Knowing.{decls_fields_known, decls_formals_known, groups_in, kind_known, name_known, procedure_known}
use Rattle.symbol_table.proofs.Once.{once_more}
use Rattle.symbol_table.proofs.Places.{numbered_place}
use Rattle.symbol_table.proofs.There.{There, block_there, formals_there}
use Rattle.symbol_table.proofs.Placing.{ClassOf, class_numbered, ClassesOf, classes_of, formals_placed, new_names, new_placed}

-- the scene, where this is known of names
abbrev pub with_symbols : Scene → SymbolsView → Scene
with_symbols s v = record { given = s.given; symbols = v }

abbrev pub NameFits : Scene → ℕ × Standing → Type 0
NameFits s x = (x.0 < length s.given.names) × StandingFits s x.1

-- what fits still does where more fields and formals are known
grown : (s : Scene) (v : SymbolsView) → length s.symbols.fields ≤ length v.fields → length s.symbols.formals ≤ length v.formals → (x : Standing) → StandingFits s x → StandingFits (with_symbols s v) x
grown s v f g standing.Unknown h = h
grown s v f g (standing.Standard n) h = h
grown s v f g (standing.Variable t e) h = h
grown s v f g (standing.NameFormal t e) h = h
grown s v f g (standing.Control e) h = h
grown s v f g (standing.Array t e) h = h
grown s v f g (standing.Procedure x) h = let l = h.1 in (h.0, omega (arith, l))
grown s v f g (standing.ProcedureFormal t e) h = h
grown s v f g (standing.Class c) h = let l = h.1 in (h.0, omega (arith, l))
grown s v f g (standing.Field c n t) h = h
grown s v f g (standing.Label e target) h = h

module _ (s : Scene) (fits : SceneFits s) (v : SymbolsView) where
  abbrev ns : Numbers
  ns = numbers_in s

  abbrev Fits : ℕ × Standing → Type 0
  Fits x = NameFits (with_symbols s v) x

  all_fit : (x : Standing) → StandingFits (with_symbols s v) x → (xs : List (ℕ × Place)) (more : Names) → KnowsDeclared ns.names (targets_view ns xs) → All Fits more → All Fits (all_names x xs more)
  all_fit x h [] more k a = a
  all_fit x h (y ∷ xs) more k a = All-cons Fits (y.0, x) (all_names x xs more) (name_known s fits y.0 k.0, h) (all_fit x h xs more k.1 a)

  entries_fit : (f : Entry → Standing) → ((e : Entry) → StandingFits (with_symbols s v) (f e)) → (level position : ℕ) (xs : List (ℕ × Place)) (more : Names) → KnowsDeclared ns.names (targets_view ns xs) → All Fits more → All Fits (entry_names f level position xs more)
  entries_fit f h level position [] more k a = a
  entries_fit f h level position (y ∷ xs) more k a =
      let e : Entry = record { level = level; position = position } in
      All-cons Fits (y.0, f e) (entry_names f level (position + 1) xs more) (name_known s fits y.0 k.0, h e) (entries_fit f h level (position + 1) xs more k.1 a)

  fields_fit : (class : ClassId) (position : ℕ) (t : SimpleType) → (class.0 < length s.given.class_places) × KindFits s.given t → (xs : List (ℕ × Place)) (more : Names) → KnowsDeclared ns.names (targets_view ns xs) → All Fits more → All Fits (field_names class position t xs more)
  fields_fit class position t h [] more k a = a
  fields_fit class position t h (y ∷ xs) more k a =
      All-cons Fits (y.0, standing.Field class position t) (field_names class (position + 1) t xs more) (name_known s fits y.0 k.0, h) (fields_fit class (position + 1) t h xs more k.1 a)

  groups_fit : (class : ClassId) → class.0 < length s.given.class_places → (position : ℕ) (groups : List (SimpleType × Vec (ℕ × Place) Global)) (more : Names) → KnowsGroups ns.names s.given.class_places (groups_in s fits groups) → All Fits more → All Fits (group_names class position groups more)
  groups_fit class r position [] more k a = a
  groups_fit class r position (g ∷ groups) more k a =
      fields_fit class position g.0 (r, kind_known s fits g.0 k.0) g.1.items (group_names class (position + length g.1.items) groups more) k.1 (groups_fit class r (position + length g.1.items) groups more k.2 a)

  class_fit : (o : Option ClassId) → ((c : ClassId) → o ≡ Some c → c.0 < length s.given.class_places) → (fields : ℕ) (x : TypedClass) (more : Names) → fields + field_count x.groups.items ≤ length v.fields → KnowsDecl ns.names s.given.class_places (decl_view ns (Class x)) → All Fits more → All Fits (class_names o fields x more)
  class_fit None r fields x more l k a = a
  class_fit (Some c) r fields x more l k a =
      All-cons Fits (x.name.0, standing.Class (record { class = c; fields = fields; count = field_count x.groups.items })) (group_names c 0 x.groups.items more) (name_known s fits x.name.0 k.0, (r c refl, l)) (groups_fit c (r c refl) 0 x.groups.items more k.1 a)

  decl_fit : (level : ℕ) (c : Cursor) (d : TypedDecl) (more : Names) → ClassOf s d → c.fields + length (decl_fields d) ≤ length v.fields → c.formals + length (decl_formals d) ≤ length v.formals → KnowsDecl ns.names s.given.class_places (decl_view ns d) → All Fits more → All Fits (decl_names s.symbols.classes level c d more)
  decl_fit level c (Simple t xs) more o f g k a = entries_fit (λ e. standing.Variable t e) (λ e. kind_known s fits t k.0) level c.position xs.items more k.1 a
  decl_fit level c (Array' t xs shape bounds) more o f g k a = entries_fit (λ e. standing.Array t e) (λ e. kind_known s fits t k.0) level c.position xs.items more k.1 a
  decl_fit level c (Proc (TypedProc' place result name formals q p ff kind gg st)) more o f g k a =
      let known = procedure_known s fits (TypedProc' place result name formals q p ff kind gg st) k in
      let n = length-formals formals.items in
      All-cons Fits (name.0, standing.Procedure (record { formals = c.formals; count = formal_count formals.items; result = result; level = level; target = c.target })) more
      (known.1, (known.0, omega (arith, n, g))) a
  decl_fit level c (Class x) more o f g k a = let n = length-fields x.groups.items in class_fit (class_at s.symbols.classes x.name.0) (class_numbered s fits x.name.0 (name_known s fits x.name.0 k.0) o) c.fields x more (omega (arith, n, f)) k a

  pub decls_fit : (level : ℕ) (c : Cursor) (decls : List TypedDecl) (more : Names) → ClassesOf s decls → c.fields + length (decls_fields decls) ≤ length v.fields → c.formals + length (decls_formals decls) ≤ length v.formals → KnowsDecls ns.names s.given.class_places (decls_in ns decls) → All Fits more → All Fits (decls_names s.symbols.classes level c decls more)
  decls_fit level c [] more o f g k a = a
  decls_fit level c (d ∷ rest) more o f g k a =
      let both_fields = length-append (decl_fields d) (decls_fields rest) in
      let both_formals = length-append (decl_formals d) (decls_formals rest) in
      let on_fields : (behind c d).fields ≡ c.fields + length (decl_fields d) = ap (λ (e : Cursor). e.fields) (behind_is c d) in
      let on_formals : (behind c d).formals ≡ c.formals + length (decl_formals d) = ap (λ (e : Cursor). e.formals) (behind_is c d) in
      decl_fit level c d (decls_names s.symbols.classes level (behind c d) rest more) o.0 (omega (arith, both_fields, f)) (omega (arith, both_formals, g)) k.0
      (decls_fit level (behind c d) rest more o.1 (omega (arith, both_fields, on_fields, f)) (omega (arith, both_formals, on_formals, g)) k.1 a)

  pub labels_fit : (level mark target : ℕ) (items : List TypedItem) (more : Names) → KnowsItems ns.names s.given.class_places (items_in ns items) → All Fits more → All Fits (label_names level mark target items more)
  labels_fit level mark target [] more k a = a
  labels_fit level mark target (i ∷ rest) more k a =
      all_fit (standing.Label (record { level = level; position = mark }) target) tt (item_labels i) (label_names level mark (target + 1) rest more) k.0 (labels_fit level mark (target + 1) rest more k.2 a)

  formal_fits : (t : FormalType) (e : Entry) → FormalTypeFits s.given t → StandingFits (with_symbols s v) (formal_standing t e)
  formal_fits (formal.ByName t) e h = h
  formal_fits (formal.Value t) e h = h
  formal_fits (formal.Result t) e h = h
  formal_fits (formal.ValueResult t) e h = h
  formal_fits (formal.Array t n) e h = h
  formal_fits (formal.Procedure t) e h = h

  formals_fit : (level position : ℕ) (fs : List Formal) (more : Names) → All (FormalFits s.given) fs → All Fits more → All Fits (formal_names level position fs more)
  formals_fit level position [] more k a = a
  formals_fit level position (f ∷ fs) more k a =
      let e : Entry = record { level = level; position = position } in
      let h = All-head (FormalFits s.given) f fs k in
      All-cons Fits (f.name, formal_standing f.is e) (formal_names level (position + 1) fs more) (h.name, formal_fits f.is e h.is) (formals_fit level (position + 1) fs more (All-tail (FormalFits s.given) f fs k) a)

-- ---- a block

-- what is known in a block fits
pub block_fits : (s : Scene) (here : Here) (target : ℕ) (decls : List TypedDecl) (items : List TypedItem) → SceneFits s → KnowsDecls (numbers_in s).names s.given.class_places (decls_in (numbers_in s) decls) → KnowsItems (numbers_in s).names s.given.class_places (items_in (numbers_in s) items) → ClassesHad s.given.class_places (decls_in (numbers_in s) decls) → AreFresh s (block_infos s decls items) → SceneFits (in_block s here target decls items)
block_fits s here target decls items fits kd ki kc fresh =
    let v : SymbolsView = with_block s.symbols here target decls items in
    let n_fields = length-append s.symbols.fields (decls_fields decls) in
    let n_formals = length-append s.symbols.formals (decls_formals decls) in
    let old : All (NameFits (with_symbols s v)) s.symbols.names = All-weaker (NameFits s) (NameFits (with_symbols s v)) (λ x h. (h.0, grown s v (omega (arith, n_fields)) (omega (arith, n_formals)) x.1 h.1)) s.symbols.names fits.names in
    let labels : All (NameFits (with_symbols s v)) (label_names here.level (here.entries + entry_count decls) (target + procedure_count decls) items s.symbols.names) = labels_fit s fits v here.level (here.entries + entry_count decls) (target + procedure_count decls) items s.symbols.names ki old in
    record {
      counted = fits.counted;
      classes = fits.classes;
      somewhere = fits.somewhere;
      apart = fits.apart;
      unclassed = fits.unclassed;
      numbered = fits.numbered;
      titled = fits.titled;
      once = subst IsOnce (sym (front_block s.symbols.classes here.level (first_cursor s.symbols here target) decls (here.entries + entry_count decls) (target + procedure_count decls) items s.symbols.names)) (once_more s (new_names s here target decls items) (block_infos s decls items) fits.once (new_placed s here target decls items (classes_of s fits decls kd kc)) fresh);
      names = decls_fit s fits v here.level (first_cursor s.symbols here target) decls (label_names here.level (here.entries + entry_count decls) (target + procedure_count decls) items s.symbols.names) (classes_of s fits decls kd kc) (omega (arith, n_fields)) (omega (arith, n_formals)) kd labels;
      there = block_there s here target decls items (classes_of s fits decls kd kc) fits.there;
      fields = All-append (KindFits s.given) s.symbols.fields (decls_fields decls) fits.fields (decls_fields_known s fits decls kd);
      formals = All-append (FormalFits s.given) s.symbols.formals (decls_formals decls) fits.formals (decls_formals_known s fits decls kd);
    }

block_places : (s : Scene) (here : Here) (target : ℕ) (decls : List TypedDecl) (items : List TypedItem) → ClassesOf s decls → places_of s (block_names s.symbols here target decls items s.symbols.names) ≡ info_places (block_infos s decls items) ++ places_of s s.symbols.names
block_places s here target decls items k =
    ap (places_of s) (front_block s.symbols.classes here.level (first_cursor s.symbols here target) decls (here.entries + entry_count decls) (target + procedure_count decls) items s.symbols.names)
    ∙ map-append (λ (x : ℕ × Standing). place_of s x.0) (new_names s here target decls items) s.symbols.names
    ∙ ap (λ ps. ps ++ places_of s s.symbols.names) (new_placed s here target decls items k)

-- what stands in a block is new there
pub block_fresh : (s : Scene) (here : Here) (target : ℕ) (decls : List TypedDecl) (items : List TypedItem) (inner : List Info) → SceneFits s → KnowsDecls (numbers_in s).names s.given.class_places (decls_in (numbers_in s) decls) → ClassesHad s.given.class_places (decls_in (numbers_in s) decls) → AreFresh s (block_infos s decls items ++ inner) → AreFresh (in_block s here target decls items) inner
block_fresh s here target decls items inner fits kd kc f =
    fresh_inside s (in_block s here target decls items) (block_infos s decls items) inner (block_places s here target decls items (classes_of s fits decls kd kc)) f

-- ---- a body

pub body_fits : (s : Scene) (level : ℕ) (fs : List TypedFormal) → SceneFits s → All (FormalFits s.given) (all_formals fs) → AreFresh s (formals_info (map (formal_view (numbers_in s)) fs)) → SceneFits (in_body s level (all_formals fs))
body_fits s level fs fits k fresh =
    let v : SymbolsView = record s.symbols { names = formal_names level 1 (all_formals fs) s.symbols.names } in
    record {
      counted = fits.counted;
      classes = fits.classes;
      somewhere = fits.somewhere;
      apart = fits.apart;
      unclassed = fits.unclassed;
      numbered = fits.numbered;
      titled = fits.titled;
      once = subst IsOnce (sym (front_formals level 1 (all_formals fs) s.symbols.names)) (once_more s (formal_names level 1 (all_formals fs) []) (formals_info (map (formal_view (numbers_in s)) fs)) fits.once (formals_placed s level 1 fs) fresh);
      names = formals_fit s fits v level 1 (all_formals fs) s.symbols.names k (All-weaker (NameFits s) (NameFits (with_symbols s v)) (λ x h. (h.0, grown s v (omega arith) (omega arith) x.1 h.1)) s.symbols.names fits.names);
      there = formals_there s level 1 (all_formals fs) s.symbols.names fits.there;
      fields = fits.fields;
      formals = fits.formals;
    }

pub body_fresh : (s : Scene) (level : ℕ) (fs : List TypedFormal) (inner : List Info) → AreFresh s (formals_info (map (formal_view (numbers_in s)) fs) ++ inner) → AreFresh (in_body s level (all_formals fs)) inner
body_fresh s level fs inner f =
    fresh_inside s (in_body s level (all_formals fs)) (formals_info (map (formal_view (numbers_in s)) fs)) inner
    (ap (places_of s) (front_formals level 1 (all_formals fs) s.symbols.names)
    ∙ map-append (λ (x : ℕ × Standing). place_of s x.0) (formal_names level 1 (all_formals fs) []) s.symbols.names
    ∙ ap (λ ps. ps ++ places_of s s.symbols.names) (formals_placed s level 1 fs)) f

-- ---- the body of a FOR

turn_places : (s : Scene) (n : ℕ) (e : Entry) → places_of s ((n, standing.Control e) ∷ []) ≡ info_places (control_info (numbered (numbers_in s).names n))
turn_places s n e = ap (λ (p : Place). p ∷ []) (sym (numbered_place s n))

pub turn_fits : (s : Scene) (n : ℕ) (e : Entry) → SceneFits s → has (numbers_in s).names (numbered (numbers_in s).names n) ≡ true → AreFresh s (control_info (numbered (numbers_in s).names n)) → SceneFits (in_turn s n e)
turn_fits s n e fits k fresh =
    let v : SymbolsView = record s.symbols { names = (n, standing.Control e) ∷ s.symbols.names } in
    record {
      counted = fits.counted;
      classes = fits.classes;
      somewhere = fits.somewhere;
      apart = fits.apart;
      unclassed = fits.unclassed;
      numbered = fits.numbered;
      titled = fits.titled;
      once = once_more s ((n, standing.Control e) ∷ []) (control_info (numbered (numbers_in s).names n)) fits.once (turn_places s n e) fresh;
      names = All-cons (NameFits (with_symbols s v)) (n, standing.Control e) s.symbols.names (name_known s fits n k, tt) (All-weaker (NameFits s) (NameFits (with_symbols s v)) (λ x h. (h.0, grown s v (omega arith) (omega arith) x.1 h.1)) s.symbols.names fits.names);
      there = All-cons (There s) (n, standing.Control e) s.symbols.names tt fits.there;
      fields = fits.fields;
      formals = fits.formals;
    }

pub turn_fresh : (s : Scene) (n : ℕ) (e : Entry) (inner : List Info) → AreFresh s (control_info (numbered (numbers_in s).names n) ++ inner) → AreFresh (in_turn s n e) inner
turn_fresh s n e inner f =
    fresh_inside s (in_turn s n e) (control_info (numbered (numbers_in s).names n)) inner (ap (λ ps. ps ++ places_of s s.symbols.names) (turn_places s n e)) f
