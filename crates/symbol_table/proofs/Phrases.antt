-- What is known of names for phrases, where more names are declared.
use Rattle.std.proofs.Common.{◌≡◌, ℕ, ◌+◌, List, [], ◌∷◌, ◌++◌, length, map, take, drop, Option, Some, refl, sym, ap, ◌∙◌, arith, append_assoc}
use Rattle.std.specs.List.{All}
use Rattle.std.specs.declared.vec.Vec.{Vec}
use Rattle.std.specs.declared.alloc.Global.{Global}
use Rattle.std.proofs.lemmas.List.{length-append}
use Rattle.std.proofs.lemmas.List.Elements.{All-head, All-tail}
use Rattle.value_ops.specs.declared.places.Place.{Place}
use Rattle.value_ops.specs.declared.values.ClassId.{ClassId}
use Rattle.value_ops.specs.declared.values.SimpleType.{SimpleType}
use Rattle.algolw_tree.specs.declared.programs.TypedClass.{TypedClass}
use Rattle.algolw_tree.specs.declared.programs.TypedDecl.{TypedDecl, Simple, Array', Proc, Class}
use Rattle.algolw_tree.specs.declared.programs.TypedFormal.{TypedFormal}
use Rattle.algolw_tree.specs.declared.programs.TypedItem.{TypedItem}
use Rattle.algolw_tree.specs.declared.programs.TypedProc.{TypedProc'}
use Rattle.algolw_typing.specs.Meanings as typing
use Rattle.algolw_typing.specs.ProgramView.{Numbers, decl_view, formal_view, numbered, targets_view, type_view}
use Rattle.algolw_typing.specs.Types.{ValueType}
use Rattle.program_meaning.specs.Translating.{Declared, Known, a_class, a_field, a_procedure, a_variable, all_known, an_array, count, decl_known, decls_known, field_types, fields_known, formal_declared, formals_known, group_known, type_of_formal}
use Rattle.stack_code.specs.CodeView.{class_place, formal_type_view, kind_view, kinds_view}
use Rattle.stack_code.specs.declared.heads.Formal.{Formal}
use Rattle.stack_code.specs.declared.heads.FormalType.{FormalType}
use Rattle.stack_code.specs.declared.heads.FormalType.TheVariants as formal
use Rattle.symbol_table.specs.declared.blocks.Cursor.{Cursor}
use Rattle.symbol_table.specs.declared.standings.Entry.{Entry}
use Rattle.symbol_table.specs.declared.standings.Standing.{Standing}
use Rattle.symbol_table.specs.declared.standings.Standing.TheVariants as standing
use Rattle.symbol_table.specs.Blocks.{all_fields, all_formals, all_names, behind, class_names, decl_fields, decl_names, decls_fields, decls_names, entry_names, field_count, field_names, formal_type, formals_as, group_names, label_names}
use Rattle.symbol_table.specs.Contexts.{Scene, StandingFits, known_and, knowns, numbers_in, place_of}
use Rattle.symbol_table.specs.Parts.{decls_in, item_labels}
use Rattle.symbol_table.specs.Standings.{Names}
use Rattle.symbol_table.specs.Symbols.{SymbolsView, class_at, formal_names, formal_standing, types_of}
use Rattle.symbol_table.proofs.Cursors.{behind_is, length-fields}
use Rattle.symbol_table.proofs.Fitting.{NameFits, with_symbols}
use Rattle.symbol_table.proofs.Lists.{part_between, part_in_front}
use Rattle.symbol_table.proofs.Places.{numbered_place}
use Rattle.symbol_table.proofs.Placing.{ClassOf, ClassesOf}
use Rattle.symbol_table.proofs.Viewing.{count-targets, fields_viewed, formal_type_same, kind_same, kinds_same}

-- ---- names that were declared before

module _ (s : Scene) (v : SymbolsView) (more_fields : List SimpleType) (fields : v.fields ≡ s.symbols.fields ++ more_fields) where
  known_as_before : (p : Place) (x : Standing) (more : List Known) → StandingFits s x → known_and (with_symbols s v) p x more ≡ known_and s p x more
  known_as_before p standing.Unknown more h = refl
  known_as_before p (standing.Standard n) more h = refl
  known_as_before p (standing.Variable t e) more h = refl
  known_as_before p (standing.NameFormal t e) more h = refl
  known_as_before p (standing.Control e) more h = refl
  known_as_before p (standing.Array t e) more h = refl
  known_as_before p (standing.Procedure x) more h = refl
  known_as_before p (standing.ProcedureFormal t e) more h = refl
  known_as_before p (standing.Class c) more h =
      ap (λ (ts : List SimpleType). let k : Known = record { place = p; is = a_class (map (kind_view s.given) ts) } in k ∷ more)
      (ap (λ (fs : List SimpleType). take c.count (drop c.fields fs)) fields ∙ part_in_front s.symbols.fields more_fields c.fields c.count h.1)
  known_as_before p (standing.Field c n t) more h = refl
  known_as_before p (standing.Label e target) more h = refl

  pub knowns_as_before : (names : Names) → All (NameFits s) names → knowns (with_symbols s v) names ≡ knowns s names
  knowns_as_before [] a = refl
  knowns_as_before (x ∷ names) a =
      known_as_before (place_of s x.0) x.1 (knowns (with_symbols s v) names) (All-head (NameFits s) x names a).1
      ∙ ap (λ (ks : List Known). known_and s (place_of s x.0) x.1 ks) (knowns_as_before names (All-tail (NameFits s) x names a))

-- ---- names that are declared

module _ (s : Scene) where
  abbrev ns : Numbers
  ns = numbers_in s

  -- what is known of a name that is declared, in front of others
  one_known : (n : ℕ) (d e : Declared) (a b : List Known) → d ≡ e → a ≡ b → ◌≡◌ {A = List Known} (record { place = place_of s n; is = d } ∷ a) (record { place = numbered ns.names n; is = e } ∷ b)
  one_known n d e a b f g =
      ap (λ (p : Place). let k : Known = record { place = p; is = d } in k ∷ a) (sym (numbered_place s n))
      ∙ ap (λ (x : Declared). let k : Known = record { place = numbered ns.names n; is = x } in k ∷ a) f
      ∙ ap (λ (ks : List Known). let k : Known = record { place = numbered ns.names n; is = e } in k ∷ ks) g

  variables_known : (t : SimpleType) (level position : ℕ) (xs : List (ℕ × Place)) (more : Names) (known rest : List Known) → knowns s more ≡ known ++ rest → knowns s (entry_names (λ e. standing.Variable t e) level position xs more) ≡ all_known (a_variable (type_view ns t)) (targets_view ns xs) known ++ rest
  variables_known t level position [] more known rest e = e
  variables_known t level position (x ∷ xs) more known rest e =
      one_known x.0 (a_variable (kind_view s.given t)) (a_variable (type_view ns t)) _ _ (ap a_variable (sym (kind_same s t))) (variables_known t level (position + 1) xs more known rest e)

  arrays_known : (t : SimpleType) (level position : ℕ) (xs : List (ℕ × Place)) (more : Names) (known rest : List Known) → knowns s more ≡ known ++ rest → knowns s (entry_names (λ e. standing.Array t e) level position xs more) ≡ all_known (an_array (type_view ns t)) (targets_view ns xs) known ++ rest
  arrays_known t level position [] more known rest e = e
  arrays_known t level position (x ∷ xs) more known rest e =
      one_known x.0 (an_array (kind_view s.given t)) (an_array (type_view ns t)) _ _ (ap an_array (sym (kind_same s t))) (arrays_known t level (position + 1) xs more known rest e)

  group_fields : (class : ClassId) (p : Place) → class_place s.given class ≡ p → (n m : ℕ) → n ≡ m → (t : SimpleType) (xs : List (ℕ × Place)) (more : Names) (fields known rest : List Known) → knowns s more ≡ (fields ++ known) ++ rest → knowns s (field_names class n t xs more) ≡ (group_known p m (type_view ns t) (targets_view ns xs) fields ++ known) ++ rest
  group_fields class p c n m q t [] more fields known rest e = e
  group_fields class p c n m q t (x ∷ xs) more fields known rest e =
      one_known x.0 (a_field (class_place s.given class) n (kind_view s.given t)) (a_field p m (type_view ns t)) _ _
      (ap (λ (y : Place). a_field y n (kind_view s.given t)) c ∙ ap (λ (k : ℕ). a_field p k (kind_view s.given t)) q ∙ ap (λ (u : ValueType). a_field p m u) (sym (kind_same s t)))
      (group_fields class p c (n + 1) (m + 1) (ap (λ k. k + 1) q) t xs more fields known rest e)

  class_fields : (class : ClassId) (p : Place) → class_place s.given class ≡ p → (n m : ℕ) → n ≡ m → (groups : List (SimpleType × Vec (ℕ × Place) Global)) (more : Names) (known rest : List Known) → knowns s more ≡ known ++ rest → knowns s (group_names class n groups more) ≡ (fields_known p m (map (λ (g : SimpleType × Vec (ℕ × Place) Global). record { type = type_view ns g.0; names = targets_view ns g.1.items }) groups) ++ known) ++ rest
  class_fields class p c n m q [] more known rest e = e
  class_fields class p c n m q (g ∷ groups) more known rest e =
      group_fields class p c n m q g.0 g.1.items _ _ known rest
      (class_fields class p c (n + length g.1.items) (m + count (targets_view ns g.1.items)) (ap (λ k. k + length g.1.items) q ∙ ap (λ k. m + k) (sym (count-targets ns g.1.items))) groups more known rest e)

  class_known : (o : Option ClassId) (fields : ℕ) (x : TypedClass) (class : ClassId) → o ≡ Some class → class_place s.given class ≡ place_of s x.name.0 → types_of s.symbols (record { class = class; fields = fields; count = field_count x.groups.items }) ≡ all_fields x.groups.items → (more : Names) (known rest : List Known) → knowns s more ≡ known ++ rest → knowns s (class_names o fields x more) ≡ decl_known (decl_view ns (Class x)) known ++ rest
  class_known o fields x class is there types more known rest e =
      ap (λ (q : Option ClassId). knowns s (class_names q fields x more)) is
      ∙ one_known x.name.0 (a_class (map (kind_view s.given) (types_of s.symbols (record { class = class; fields = fields; count = field_count x.groups.items })))) (a_class (field_types (map (λ (g : SimpleType × Vec (ℕ × Place) Global). record { type = type_view ns g.0; names = targets_view ns g.1.items }) x.groups.items))) _ _
      (ap (λ (ts : List SimpleType). a_class (map (kind_view s.given) ts)) types ∙ ap a_class (fields_viewed s x.groups.items))
      (class_fields class (numbered ns.names x.name.0) (there ∙ sym (numbered_place s x.name.0)) 0 0 refl x.groups.items more known rest e)

  decl_knowns : (level : ℕ) (c : Cursor) (d : TypedDecl) (before after : List SimpleType) → ClassOf s d → s.symbols.fields ≡ before ++ (decl_fields d ++ after) → c.fields ≡ length before → (more : Names) (known rest : List Known) → knowns s more ≡ known ++ rest → knowns s (decl_names s.symbols.classes level c d more) ≡ decl_known (decl_view ns d) known ++ rest
  decl_knowns level c (Simple t xs) before after k f g more known rest e = variables_known t level c.position xs.items more known rest e
  decl_knowns level c (Array' t xs shape bounds) before after k f g more known rest e = arrays_known t level c.position xs.items more known rest e
  decl_knowns level c (Proc (TypedProc' place result name formals q p ff kind gg st)) before after k f g more known rest e =
      one_known name.0 (a_procedure (kinds_view s.given result)) _ _ _ (ap a_procedure (sym (kinds_same s result))) e
  decl_knowns level c (Class x) before after k f g more known rest e =
      class_known (class_at s.symbols.classes x.name.0) c.fields x k.class k.is k.there (part_between s.symbols.fields before (all_fields x.groups.items) after c.fields (field_count x.groups.items) f g (sym (length-fields x.groups.items))) more known rest e

  pub decls_knowns : (level : ℕ) (c : Cursor) (decls : List TypedDecl) (before after : List SimpleType) → ClassesOf s decls → s.symbols.fields ≡ before ++ (decls_fields decls ++ after) → c.fields ≡ length before → (more : Names) → knowns s (decls_names s.symbols.classes level c decls more) ≡ decls_known (decls_in ns decls) ++ knowns s more
  decls_knowns level c [] before after k f g more = refl
  decls_knowns level c (d ∷ rest) before after k f g more =
      let on : (behind c d).fields ≡ c.fields + length (decl_fields d) = ap (λ (e : Cursor). e.fields) (behind_is c d) in
      let both = length-append before (decl_fields d) in
      let here : s.symbols.fields ≡ before ++ (decl_fields d ++ (decls_fields rest ++ after)) = f ∙ ap (λ fs. before ++ fs) (append_assoc (decl_fields d) (decls_fields rest) after) in
      decl_knowns level c d before (decls_fields rest ++ after) k.0 here g (decls_names s.symbols.classes level (behind c d) rest more) (decls_known (decls_in ns rest)) (knowns s more)
      (decls_knowns level (behind c d) rest (before ++ decl_fields d) after k.1 (here ∙ sym (append_assoc before (decl_fields d) (decls_fields rest ++ after))) (omega (arith, on, both, g)) more)

  -- labels add nothing
  labels_none : (level mark target : ℕ) (xs : List (ℕ × Place)) (more : Names) → knowns s (all_names (standing.Label (record { level = level; position = mark }) target) xs more) ≡ knowns s more
  labels_none level mark target [] more = refl
  labels_none level mark target (x ∷ xs) more = labels_none level mark target xs more

  pub labels_knowns : (level mark target : ℕ) (items : List TypedItem) (more : Names) → knowns s (label_names level mark target items more) ≡ knowns s more
  labels_knowns level mark target [] more = refl
  labels_knowns level mark target (i ∷ rest) more = labels_none level mark target (item_labels i) (label_names level mark (target + 1) rest more) ∙ labels_knowns level mark (target + 1) rest more

  -- formals
  formal_known : (p : Place) (t : FormalType) (e : Entry) (more : List Known) → known_and s p (formal_standing t e) more ≡ record { place = p; is = formal_declared (formal_type_view s.given t) } ∷ more
  formal_known p (formal.ByName t) e more = refl
  formal_known p (formal.Value t) e more = refl
  formal_known p (formal.Result t) e more = refl
  formal_known p (formal.ValueResult t) e more = refl
  formal_known p (formal.Array t n) e more = refl
  formal_known p (formal.Procedure t) e more = refl

  as_known : (level position : ℕ) (t : FormalType) (u : typing.FormalType) → u ≡ formal_type_view s.given t → (xs : List (ℕ × Place)) (fs : List Formal) (more : Names) (known rest : List Known) → ((p : ℕ) → knowns s (formal_names level p fs more) ≡ known ++ rest) → knowns s (formal_names level position (formals_as t xs ++ fs) more) ≡ all_known (formal_declared u) (targets_view ns xs) known ++ rest
  as_known level position t u q [] fs more known rest e = e position
  as_known level position t u q (x ∷ xs) fs more known rest e =
      formal_known (place_of s x.0) t (record { level = level; position = position }) _
      ∙ one_known x.0 (formal_declared (formal_type_view s.given t)) (formal_declared u) _ _ (ap formal_declared (sym q)) (as_known level (position + 1) t u q xs fs more known rest e)

  pub formals_knowns : (level position : ℕ) (fs : List TypedFormal) (more : Names) → knowns s (formal_names level position (all_formals fs) more) ≡ formals_known (map (formal_view ns) fs) ++ knowns s more
  formals_knowns level position [] more = refl
  formals_knowns level position (f ∷ fs) more =
      as_known level position (formal_type f) (type_of_formal (formal_view ns f)) (formal_type_same s f) f.names.items (all_formals fs) more (formals_known (map (formal_view ns) fs)) (knowns s more) (λ p. formals_knowns level p fs more)
