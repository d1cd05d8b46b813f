-- The places of names that are declared are those of their declarations in the tree.
use Rattle.std.proofs.Common.{◌≡◌, ℕ, ◌+◌, ◌<◌, List, [], ◌∷◌, ◌++◌, length, map, Option, Some, None, true, refl, sym, ap, ◌∙◌, subst, arith}
use Rattle.std.specs.declared.vec.Vec.{Vec}
use Rattle.std.specs.declared.alloc.Global.{Global}
use Rattle.std.proofs.lemmas.List.{length-map, map-append}
use Rattle.value_ops.specs.declared.places.Place.{Place}
use Rattle.value_ops.specs.declared.values.ClassId.{ClassId}
use Rattle.value_ops.specs.declared.values.SimpleType.{SimpleType}
use Rattle.algolw_tree.specs.declared.programs.TypedClass.{TypedClass}
use Rattle.algolw_tree.specs.declared.programs.TypedDecl.{TypedDecl, Simple, Array', Proc, Class}
use Rattle.algolw_tree.specs.declared.programs.TypedFormal.{TypedFormal}
use Rattle.algolw_tree.specs.declared.programs.TypedItem.{TypedItem}
use Rattle.algolw_tree.specs.declared.programs.TypedProc.{TypedProc'}
use Rattle.algolw_typing.specs.Known.{KnowsDecls}
use Rattle.algolw_typing.specs.ProgramView.{Numbers, decl_view, formal_view, numbered, targets_view, type_view}
use Rattle.algolw_typing.specs.Types.{ValueType, has}
use Rattle.program_meaning.specs.Phrases as phrases
use Rattle.program_meaning.specs.Translating as translating
use Rattle.program_soundness.proofs.Variables.{some_inj}
use Rattle.program_meaning.specs.Translating.{Declared, count}
use Rattle.program_soundness.specs.Kinds.{Meaning}
use Rattle.program_soundness.specs.Tables.{Info, decl_info, decls_info, each_info, fields_info, formals_info, group_info, labels_info}
use Rattle.stack_code.specs.CodeView.{class_place, class_view}
use Rattle.stack_code.specs.declared.heads.Formal.{Formal}
use Rattle.stack_code.specs.declared.heads.FormalType.{FormalType}
use Rattle.symbol_table.specs.declared.blocks.Cursor.{Cursor}
use Rattle.symbol_table.specs.declared.here.Here.{Here}
use Rattle.symbol_table.specs.declared.standings.Entry.{Entry}
use Rattle.symbol_table.specs.declared.standings.Standing.{Standing}
use Rattle.symbol_table.specs.declared.standings.Standing.TheVariants as standing
use Rattle.symbol_table.specs.Blocks.{all_formals, all_names, behind, class_names, decl_names, decls_names, entry_count, entry_names, field_names, first_cursor, formal_type, formals_as, group_names, label_names, procedure_count}
use Rattle.symbol_table.specs.Contexts.{ClassesHad, phrase_context, IsNumbered, Scene, SceneFits, block_infos, numbers_in, place_of, places_of}
use Rattle.symbol_table.specs.Parts.{decls_in, item_labels, items_in}
use Rattle.symbol_table.specs.Standings.{Names}
use Rattle.symbol_table.specs.Symbols.{class_at, formal_names}
use Rattle.symbol_table.proofs.Fresh.{info_places}
use Rattle.symbol_table.proofs.Knowing.{name_known}
use Rattle.symbol_table.proofs.Places.{has_numbered, in_range, numbered_place}

-- ---- the numbers of classes

-- the class that a name is
pub record IsClassOf (s : Scene) (n : ℕ) : Type 0 where
  pub class : ClassId
  pub is : class_at s.symbols.classes n ≡ Some class
  pub there : class_place s.given class ≡ place_of s n

abbrev pub ClassOf : Scene → TypedDecl → Type 0
ClassOf s (Class x) = IsClassOf s x.name.0
ClassOf s (Simple t xs) = Unit {0}
ClassOf s (Array' t xs shape bounds) = Unit {0}
ClassOf s (Proc p) = Unit {0}

abbrev pub ClassesOf : Scene → List TypedDecl → Type 0
ClassesOf s [] = Unit {0}
ClassesOf s (d ∷ rest) = ClassOf s d × ClassesOf s rest

numbered_class : (s : Scene) (n : ℕ) (o : Option ClassId) → class_at s.symbols.classes n ≡ o → IsNumbered s (place_of s n) o → IsClassOf s n
numbered_class s n None e h = absurd h
numbered_class s n (Some c) e h = record { class = c; is = e; there = h }

pub classes_of : (s : Scene) → SceneFits s → (decls : List TypedDecl) → KnowsDecls (numbers_in s).names s.given.class_places (decls_in (numbers_in s) decls) → ClassesHad s.given.class_places (decls_in (numbers_in s) decls) → ClassesOf s decls
classes_of s fits [] k h = tt
classes_of s fits (Simple t xs ∷ rest) k h = (tt, classes_of s fits rest k.1 h)
classes_of s fits (Array' t xs shape bounds ∷ rest) k h = (tt, classes_of s fits rest k.1 h)
classes_of s fits (Proc (TypedProc' place result name formals q p f kind g st) ∷ rest) k h = (tt, classes_of s fits rest k.1 h)
classes_of s fits (Class x ∷ rest) k h =
    let l : x.name.0 < length s.given.names = name_known s fits x.name.0 k.0.0 in
    (numbered_class s x.name.0 (class_at s.symbols.classes x.name.0) refl (fits.numbered x.name.0 l (subst (λ (p : Place). has s.given.class_places p ≡ true) (numbered_place s x.name.0) h.0)), classes_of s fits rest k.1 h.1)

-- the class of a name, where it is one of the program's
pub class_found : (s : Scene) → SceneFits s → (n : ℕ) → n < length s.given.names → has s.given.class_places (numbered (numbers_in s).names n) ≡ true → IsClassOf s n
class_found s fits n l had = numbered_class s n (class_at s.symbols.classes n) refl (fits.numbered n l (subst (λ (p : Place). has s.given.class_places p ≡ true) (numbered_place s n) had))

-- its number is one of a class
pub class_in_range : (s : Scene) → SceneFits s → (n : ℕ) → n < length s.given.names → (class : ClassId) → class_place s.given class ≡ place_of s n → class.0 < length s.given.class_places
class_in_range s fits n l class there =
    let many : length (numbers_in s).names ≡ length s.given.names = length-map s.given.names (λ x. x.place) in
    let inside : n < length (numbers_in s).names = omega arith in
    in_range (numbers_in s).names s.given.class_places class.0 fits.somewhere
    (subst (λ (p : Place). has (numbers_in s).names p ≡ true) (numbered_place s n ∙ sym there) (has_numbered (numbers_in s).names n inside))

pub class_numbered : (s : Scene) → SceneFits s → (n : ℕ) → n < length s.given.names → IsClassOf s n → (c : ClassId) → class_at s.symbols.classes n ≡ Some c → c.0 < length s.given.class_places
class_numbered s fits n l k c e =
    let same : k.class ≡ c = some_inj (sym k.is ∙ e) in
    subst (λ (d : ClassId). d.0 < length s.given.class_places) same (class_in_range s fits n l k.class k.there)

-- its name
pub class_named : (s : Scene) → SceneFits s → (class : ClassId) → class.0 < length s.given.class_places → class_view s.given class ≡ translating.name_at (phrase_context s) (class_place s.given class)
class_named s fits class l = ap (λ (text : List ℕ). let x : phrases.Name = record { place = class_place s.given class; text = text } in x) (sym (fits.titled class.0 l))

-- ---- places

module _ (s : Scene) where
  abbrev ns : Numbers
  ns = numbers_in s

  one_placed : (n : ℕ) (a b : List Place) → a ≡ b → place_of s n ∷ a ≡ numbered ns.names n ∷ b
  one_placed n a b e = ap (λ (p : Place). p ∷ a) (sym (numbered_place s n)) ∙ ap (λ ps. numbered ns.names n ∷ ps) e

  all_placed : (x : Standing) (d : Declared) (m : Option Meaning) (xs : List (ℕ × Place)) (more : Names) (rest : List Info) → places_of s more ≡ info_places rest → places_of s (all_names x xs more) ≡ info_places (each_info d m (targets_view ns xs) rest)
  all_placed x d m [] more rest e = e
  all_placed x d m (y ∷ xs) more rest e = one_placed y.0 (places_of s (all_names x xs more)) (info_places (each_info d m (targets_view ns xs) rest)) (all_placed x d m xs more rest e)

  entries_placed : (f : Entry → Standing) (level position : ℕ) (d : Declared) (m : Option Meaning) (xs : List (ℕ × Place)) (more : Names) (rest : List Info) → places_of s more ≡ info_places rest → places_of s (entry_names f level position xs more) ≡ info_places (each_info d m (targets_view ns xs) rest)
  entries_placed f level position d m [] more rest e = e
  entries_placed f level position d m (y ∷ xs) more rest e = one_placed y.0 (places_of s (entry_names f level (position + 1) xs more)) (info_places (each_info d m (targets_view ns xs) rest)) (entries_placed f level (position + 1) d m xs more rest e)

  fields_placed : (class : ClassId) (position : ℕ) (t : SimpleType) (p : Place) (n : ℕ) (u : ValueType) (xs : List (ℕ × Place)) (more : Names) (rest : List Info) → places_of s more ≡ info_places rest → places_of s (field_names class position t xs more) ≡ info_places (group_info p n u (targets_view ns xs) rest)
  fields_placed class position t p n u [] more rest e = e
  fields_placed class position t p n u (y ∷ xs) more rest e = one_placed y.0 (places_of s (field_names class (position + 1) t xs more)) (info_places (group_info p (n + 1) u (targets_view ns xs) rest)) (fields_placed class (position + 1) t p (n + 1) u xs more rest e)

  groups_placed : (class : ClassId) (position : ℕ) (p : Place) (n : ℕ) (groups : List (SimpleType × Vec (ℕ × Place) Global)) (more : Names) (rest : List Info) → places_of s more ≡ info_places rest → places_of s (group_names class position groups more) ≡ info_places (fields_info p n (map (λ (g : SimpleType × Vec (ℕ × Place) Global). record { type = type_view ns g.0; names = targets_view ns g.1.items }) groups) rest)
  groups_placed class position p n [] more rest e = e
  groups_placed class position p n (g ∷ groups) more rest e =
      fields_placed class position g.0 p n (type_view ns g.0) g.1.items _ _
      (groups_placed class (position + length g.1.items) p (n + count (targets_view ns g.1.items)) groups more rest e)

  class_placed : (o : Option ClassId) (fields : ℕ) (x : TypedClass) (more : Names) (rest : List Info) → (c : ClassId) → o ≡ Some c → places_of s more ≡ info_places rest → places_of s (class_names o fields x more) ≡ info_places (decl_info (decl_view ns (Class x)) rest)
  class_placed o fields x more rest c is e =
      ap (λ (q : Option ClassId). places_of s (class_names q fields x more)) is
      ∙ one_placed x.name.0 _ _ (groups_placed c 0 (numbered ns.names x.name.0) 0 x.groups.items more rest e)

  decl_placed : (level : ℕ) (c : Cursor) (d : TypedDecl) (more : Names) (rest : List Info) → ClassOf s d → places_of s more ≡ info_places rest → places_of s (decl_names s.symbols.classes level c d more) ≡ info_places (decl_info (decl_view ns d) rest)
  decl_placed level c (Simple t xs) more rest k e = entries_placed (λ y. standing.Variable t y) level c.position _ _ xs.items more rest e
  decl_placed level c (Array' t xs shape bounds) more rest k e = entries_placed (λ y. standing.Array t y) level c.position _ _ xs.items more rest e
  decl_placed level c (Proc (TypedProc' place result name formals q p f kind g st)) more rest k e = one_placed name.0 _ _ e
  decl_placed level c (Class x) more rest k e = class_placed (class_at s.symbols.classes x.name.0) c.fields x more rest k.class k.is e

  decls_placed : (level : ℕ) (c : Cursor) (decls : List TypedDecl) → ClassesOf s decls → places_of s (decls_names s.symbols.classes level c decls []) ≡ info_places (decls_info (decls_in ns decls))
  decls_placed level c [] k = refl
  decls_placed level c (d ∷ rest) k = decl_placed level c d (decls_names s.symbols.classes level (behind c d) rest []) (decls_info (decls_in ns rest)) k.0 (decls_placed level (behind c d) rest k.1)

  labels_placed : (level mark target : ℕ) (items : List TypedItem) → places_of s (label_names level mark target items []) ≡ info_places (labels_info (items_in ns items))
  labels_placed level mark target [] = refl
  labels_placed level mark target (i ∷ rest) = all_placed _ _ _ (item_labels i) (label_names level mark (target + 1) rest []) (labels_info (items_in ns rest)) (labels_placed level mark (target + 1) rest)

  -- formals that are the same, in front of others
  as_placed : (level position : ℕ) (t : FormalType) (d : Declared) (m : Option Meaning) (xs : List (ℕ × Place)) (fs : List Formal) (rest : List Info) → ((p : ℕ) → places_of s (formal_names level p fs []) ≡ info_places rest) → places_of s (formal_names level position (formals_as t xs ++ fs) []) ≡ info_places (each_info d m (targets_view ns xs) rest)
  as_placed level position t d m [] fs rest e = e position
  as_placed level position t d m (y ∷ xs) fs rest e = one_placed y.0 _ _ (as_placed level (position + 1) t d m xs fs rest e)

  pub formals_placed : (level position : ℕ) (fs : List TypedFormal) → places_of s (formal_names level position (all_formals fs) []) ≡ info_places (formals_info (map (formal_view ns) fs))
  formals_placed level position [] = refl
  formals_placed level position (f ∷ fs) = as_placed level position (formal_type f) _ _ f.names.items (all_formals fs) (formals_info (map (formal_view ns) fs)) (λ p. formals_placed level p fs)

  -- a block's names, in front of others
  abbrev pub new_names : Here → (target : ℕ) → List TypedDecl → List TypedItem → Names
  new_names here target decls items = decls_names s.symbols.classes here.level (first_cursor s.symbols here target) decls [] ++ label_names here.level (here.entries + entry_count decls) (target + procedure_count decls) items []

  pub new_placed : (here : Here) (target : ℕ) (decls : List TypedDecl) (items : List TypedItem) → ClassesOf s decls → places_of s (new_names here target decls items) ≡ info_places (block_infos s decls items)
  new_placed here target decls items k =
      map-append (λ (x : ℕ × Standing). place_of s x.0) (decls_names s.symbols.classes here.level (first_cursor s.symbols here target) decls []) (label_names here.level (here.entries + entry_count decls) (target + procedure_count decls) items [])
      ∙ ap (λ ps. ps ++ places_of s (label_names here.level (here.entries + entry_count decls) (target + procedure_count decls) items [])) (decls_placed here.level (first_cursor s.symbols here target) decls k)
      ∙ ap (λ ps. info_places (decls_info (decls_in ns decls)) ++ ps) (labels_placed here.level (here.entries + entry_count decls) (target + procedure_count decls) items)
      ∙ sym (map-append (λ (i : Info). i.place) (decls_info (decls_in ns decls)) (labels_info (items_in ns items)))
