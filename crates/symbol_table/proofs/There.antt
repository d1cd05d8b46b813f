-- Classes and standard names stand where those of their numbers do, in a block, in a body and in the body of a FOR too.
use Rattle.std.proofs.Common.{◌≡◌, ℕ, suc, ◌+◌, ◌==◌, List, [], ◌∷◌, ◌++◌, length, Option, Some, None, Bool, true, false, not, ◌&&◌, ◌||◌, refl, sym, ap, ◌∙◌, subst}
use Rattle.std.specs.List.{All, AllByRecursion}
use Rattle.std.specs.declared.vec.Vec.{Vec}
use Rattle.std.specs.declared.alloc.Global.{Global}
use Rattle.std.proofs.lemmas.Bool.{eqb-true}
use Rattle.std.proofs.lemmas.List.Elements.{All-cons, All-from_recursion, All-head, All-tail}
use Rattle.value_ops.specs.declared.places.Place.{Place}
use Rattle.value_ops.specs.declared.values.ClassId.{ClassId}
use Rattle.value_ops.specs.declared.values.SimpleType.{SimpleType}
use Rattle.algolw_tree.specs.declared.programs.TypedClass.{TypedClass}
use Rattle.algolw_tree.specs.declared.programs.TypedDecl.{TypedDecl, Simple, Array', Proc, Class}
use Rattle.algolw_tree.specs.declared.programs.TypedItem.{TypedItem}
use Rattle.algolw_tree.specs.declared.standard.Standard.{Standard}
use Rattle.algolw_tree.specs.Standards.{StandardNames, standard_table}
use Rattle.algolw_typing.specs.ProgramView.{numbered}
use Rattle.algolw_typing.specs.Types.{has}
use Rattle.program_soundness.proofs.Arrays.{both_true}
use Rattle.program_soundness.proofs.Variables.{some_inj}
use Rattle.stack_code.specs.CodeView.{class_place}
use Rattle.stack_code.specs.declared.heads.Formal.{Formal}
use Rattle.stack_code.specs.declared.heads.FormalType.{FormalType}
use Rattle.stack_code.specs.declared.heads.FormalType.TheVariants as formal
use Rattle.compilable_programs.specs.Begun.{is_procedure, standard_procedures}
use Rattle.compilable_programs.specs.Compiled.{standard_places}
use Rattle.symbol_table.specs.declared.blocks.Cursor.{Cursor}
use Rattle.symbol_table.specs.declared.here.Here.{Here}
use Rattle.symbol_table.specs.declared.standings.Entry.{Entry}
use Rattle.symbol_table.specs.declared.standings.Standing.{Standing}
use Rattle.symbol_table.specs.declared.standings.Standing.TheVariants as standing
use Rattle.symbol_table.specs.Blocks.{all_names, behind, block_names, class_names, decl_names, decls_names, entry_count, entry_names, field_count, field_names, first_cursor, group_names, label_names, named_procedure, procedure_count, procedure_standing}
use Rattle.symbol_table.specs.Contexts.{Scene, SceneFits, StandsAt, numbers_in, place_of}
use Rattle.symbol_table.specs.Parts.{item_labels}
use Rattle.symbol_table.specs.Standings.{Names, every_name, names_from, standing_of}
use Rattle.symbol_table.specs.Symbols.{class_at, formal_names, formal_standing}
use Rattle.symbol_table.proofs.Places.{numbered_place}
use Rattle.symbol_table.proofs.Placing.{ClassOf, ClassesOf, IsClassOf}

implied : (a b : Bool) → (not a || b) ≡ true → a ≡ true → b ≡ true
implied true b h e = h
implied false b h e = absurd (cc e)

module _ (s : Scene) where
  abbrev pub There : ℕ × Standing → Type 0
  There x = StandsAt s (place_of s x.0) x.1

  all_there : (x : Standing) → ((p : Place) → StandsAt s p x) → (xs : List (ℕ × Place)) (more : Names) → All There more → All There (all_names x xs more)
  all_there x h [] more a = a
  all_there x h (y ∷ xs) more a = All-cons There (y.0, x) (all_names x xs more) (h (place_of s y.0)) (all_there x h xs more a)

  entries_there : (f : Entry → Standing) → ((p : Place) (e : Entry) → StandsAt s p (f e)) → (level position : ℕ) (xs : List (ℕ × Place)) (more : Names) → All There more → All There (entry_names f level position xs more)
  entries_there f h level position [] more a = a
  entries_there f h level position (y ∷ xs) more a =
      let e : Entry = record { level = level; position = position } in
      All-cons There (y.0, f e) (entry_names f level (position + 1) xs more) (h (place_of s y.0) e) (entries_there f h level (position + 1) xs more a)

  fields_there : (class : ClassId) (position : ℕ) (t : SimpleType) (xs : List (ℕ × Place)) (more : Names) → All There more → All There (field_names class position t xs more)
  fields_there class position t [] more a = a
  fields_there class position t (y ∷ xs) more a = All-cons There (y.0, standing.Field class position t) (field_names class (position + 1) t xs more) tt (fields_there class (position + 1) t xs more a)

  groups_there : (class : ClassId) (position : ℕ) (groups : List (SimpleType × Vec (ℕ × Place) Global)) (more : Names) → All There more → All There (group_names class position groups more)
  groups_there class position [] more a = a
  groups_there class position (g ∷ groups) more a = fields_there class position g.0 g.1.items (group_names class (position + length g.1.items) groups more) (groups_there class (position + length g.1.items) groups more a)

  class_there : (o : Option ClassId) (fields : ℕ) (x : TypedClass) (more : Names) → ((c : ClassId) → o ≡ Some c → class_place s.given c ≡ place_of s x.name.0) → All There more → All There (class_names o fields x more)
  class_there None fields x more r a = a
  class_there (Some c) fields x more r a =
      All-cons There (x.name.0, standing.Class (record { class = c; fields = fields; count = field_count x.groups.items })) (group_names c 0 x.groups.items more) (r c refl) (groups_there c 0 x.groups.items more a)

  own_class : (n : ℕ) → IsClassOf s n → (c : ClassId) → class_at s.symbols.classes n ≡ Some c → class_place s.given c ≡ place_of s n
  own_class n k c e = ap (class_place s.given) (some_inj (sym e ∙ k.is)) ∙ k.there

  decl_there : (level : ℕ) (c : Cursor) (d : TypedDecl) (more : Names) → ClassOf s d → All There more → All There (decl_names s.symbols.classes level c d more)
  decl_there level c (Simple t xs) more k a = entries_there (λ e. standing.Variable t e) (λ p e. tt) level c.position xs.items more a
  decl_there level c (Array' t xs shape pairs) more k a = entries_there (λ e. standing.Array t e) (λ p e. tt) level c.position xs.items more a
  decl_there level c (Proc p) more k a = All-cons There ((named_procedure p).0, procedure_standing level c p) more tt a
  decl_there level c (Class x) more k a = class_there (class_at s.symbols.classes x.name.0) c.fields x more (own_class x.name.0 k) a

  decls_there : (level : ℕ) (c : Cursor) (decls : List TypedDecl) (more : Names) → ClassesOf s decls → All There more → All There (decls_names s.symbols.classes level c decls more)
  decls_there level c [] more k a = a
  decls_there level c (d ∷ rest) more k a = decl_there level c d (decls_names s.symbols.classes level (behind c d) rest more) k.0 (decls_there level (behind c d) rest more k.1 a)

  labels_there : (level mark target : ℕ) (items : List TypedItem) (more : Names) → All There more → All There (label_names level mark target items more)
  labels_there level mark target [] more a = a
  labels_there level mark target (i ∷ rest) more a =
      all_there (standing.Label (record { level = level; position = mark }) target) (λ p. tt) (item_labels i) (label_names level mark (target + 1) rest more) (labels_there level mark (target + 1) rest more a)

  pub block_there : (here : Here) (target : ℕ) (decls : List TypedDecl) (items : List TypedItem) → ClassesOf s decls → All There s.symbols.names → All There (block_names s.symbols here target decls items s.symbols.names)
  block_there here target decls items k a =
      let mark = here.entries + entry_count decls in
      let first = target + procedure_count decls in
      decls_there here.level (first_cursor s.symbols here target) decls (label_names here.level mark first items s.symbols.names) k (labels_there here.level mark first items s.symbols.names a)

  formal_there : (t : FormalType) (e : Entry) (p : Place) → StandsAt s p (formal_standing t e)
  formal_there (formal.ByName t) e p = tt
  formal_there (formal.Value t) e p = tt
  formal_there (formal.Result t) e p = tt
  formal_there (formal.ValueResult t) e p = tt
  formal_there (formal.Array t n) e p = tt
  formal_there (formal.Procedure t) e p = tt

  pub formals_there : (level position : ℕ) (fs : List Formal) (more : Names) → All There more → All There (formal_names level position fs more)
  formals_there level position [] more a = a
  formals_there level position (f ∷ fs) more a =
      let e : Entry = record { level = level; position = position } in
      All-cons There (f.name, formal_standing f.is e) (formal_names level (position + 1) fs more) (formal_there f.is e (place_of s f.name)) (formals_there level (position + 1) fs more a)

  -- each procedure of every deck has a number at whose place a procedure stands
  module _ (others : List Place) (e : (numbers_in s).names ≡ standard_places ++ others) where
    abbrev is_there : ℕ → Standard → Bool
    is_there n k = not (is_procedure k) || has standard_procedures (numbered (standard_places ++ others) n)

    abbrev are_there : ℕ → StandardNames → Bool
    are_there n [] = true
    are_there n (x ∷ names) = is_there n x.1 && are_there (suc n) names

    at_number : (n : ℕ) → has standard_procedures (numbered (standard_places ++ others) n) ≡ true → has standard_procedures (place_of s n) ≡ true
    at_number n h = subst (λ (p : Place). has standard_procedures p ≡ true) (ap (λ (places : List Place). numbered places n) (sym e) ∙ numbered_place s n) h

    names_there : (n : ℕ) (names : StandardNames) → are_there n names ≡ true → AllByRecursion There (names_from n names)
    names_there n [] h = tt
    names_there n (x ∷ names) h =
        let both = both_true (is_there n x.1) (are_there (suc n) names) h in
        (λ i. at_number n (implied (is_procedure x.1) (has standard_procedures (numbered (standard_places ++ others) n)) both.0 i), names_there (suc n) names both.1)

    -- what every deck has
    pub every_there : All There every_name
    every_there = All-from_recursion There every_name (names_there 0 standard_table refl)

  found_there : (n : ℕ) (names : Names) → All There names → StandsAt s (place_of s n) (standing_of names n)
  found_there n [] a = tt
  found_there n (x ∷ names) a = go (x.0 == n) refl (found_there n names (All-tail There x names a))
    where
      go : (b : Bool) → (x.0 == n) ≡ b → StandsAt s (place_of s n) (standing_of names n) → StandsAt s (place_of s n) (elim b [ true ↦ x.1 | false ↦ standing_of names n ])
      go true q ih = subst (λ (m : ℕ). StandsAt s (place_of s m) x.1) (eqb-true x.0 n q) (All-head There x names a)
      go false q ih = ih

-- whatever a name stands for stands there
pub stands_there : (s : Scene) → SceneFits s → (n : ℕ) → StandsAt s (place_of s n) (standing_of s.symbols.names n)
stands_there s fits n = found_there s n s.symbols.names fits.there
