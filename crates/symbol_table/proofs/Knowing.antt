-- What a tree knows has numbers that the tables have.
use Rattle.std.proofs.Common.{◌≡◌, ℕ, ◌<◌, ◌≤◌, List, [], ◌∷◌, length, map, replicate, Option, Some, None, true, ◌⊎◌, inl, inr, sym, ◌∙◌, subst, arith, slice_index_or}
use Rattle.std.specs.List.{All}
use Rattle.std.specs.Option.{option_map}
use Rattle.std.specs.declared.vec.Vec.{Vec}
use Rattle.std.specs.declared.alloc.Global.{Global}
use Rattle.std.proofs.lemmas.Bool.{cases_lt, false≢true}
use Rattle.std.proofs.lemmas.List.{get_or_past, length-map}
use Rattle.std.proofs.lemmas.List.Elements.{All-append, All-cons, All-nil, All-replicate}
use Rattle.value_ops.specs.declared.places.Place.{Place}
use Rattle.value_ops.specs.declared.values.ClassId.{ClassId}
use Rattle.value_ops.specs.declared.values.SimpleType.{SimpleType}
use Rattle.value_ops.specs.declared.values.SimpleType.TheVariants as simple
use Rattle.algolw_tree.specs.declared.phrases.Mode.{Mode}
use Rattle.algolw_tree.specs.declared.phrases.Mode.TheVariants as mode
use Rattle.algolw_tree.specs.declared.programs.TypedDecl.{TypedDecl, Simple, Array', Proc, Class}
use Rattle.algolw_tree.specs.declared.programs.TypedFormal.{TypedFormal}
use Rattle.algolw_tree.specs.declared.programs.TypedProc.{TypedProc, TypedProc'}
use Rattle.algolw_typing.specs.Types.{has}
use Rattle.algolw_typing.specs.Typed as typed
use Rattle.algolw_typing.specs.ProgramView.{Numbers, decl_view, formal_view, nowhere_set, numbered, procedure_view, targets_view, type_view}
use Rattle.algolw_typing.specs.Known.{AllHad, KnowsDecl, KnowsDeclared, KnowsDecls, KnowsFormals, KnowsGroups, KnowsResult, KnowsType}
use Rattle.stack_code.specs.declared.heads.Formal.{Formal}
use Rattle.stack_code.specs.CodeView.{FormalFits, FormalTypeFits, KindFits, KindsFit}
use Rattle.symbol_table.specs.Blocks.{all_fields, all_formals, decl_fields, decl_formals, decls_fields, decls_formals, formal_type, formals_as, formals_in, named_procedure, result_of, type_by_mode}
use Rattle.symbol_table.specs.Contexts.{Scene, SceneFits, numbers_in}
use Rattle.symbol_table.specs.Parts.{decls_in}
use Rattle.symbol_table.proofs.Places.{in_range}

module _ (s : Scene) (fits : SceneFits s) where
  abbrev ns : Numbers
  ns = numbers_in s

  abbrev names : List Place
  names = ns.names

  abbrev classes : List Place
  classes = s.given.class_places

  -- a number of a name
  pub name_known : (n : ℕ) → has names (numbered names n) ≡ true → n < length s.given.names
  name_known n h = let l : n < length names = in_range names names n fits.somewhere h in let many : length names ≡ length s.given.names = length-map s.given.names (λ x. x.place) in omega arith

  pub declared_known : (xs : List (ℕ × Place)) → KnowsDeclared names (targets_view ns xs) → All (λ (x : ℕ × Place). x.0 < length s.given.names) xs
  declared_known [] k = All-nil (λ (x : ℕ × Place). x.0 < length s.given.names)
  declared_known (x ∷ xs) k = All-cons (λ (y : ℕ × Place). y.0 < length s.given.names) x xs (name_known x.0 k.0) (declared_known xs k.1)

  pub kind_known : (t : SimpleType) → KnowsType classes (type_view ns t) → KindFits s.given t
  kind_known simple.Integer k = tt
  kind_known simple.Logical k = tt
  kind_known simple.Bits k = tt
  kind_known (simple.Str n) k = tt
  kind_known (simple.Reference set) k = go (cases_lt set.0 (length s.given.classes.sets))
    where
      go : (set.0 < length s.given.classes.sets) ⊎ (length s.given.classes.sets ≤ set.0) → set.0 < length s.given.classes.sets
      go (inl l) = l
      go (inr far) =
          let many : length (map (map (λ (c : ClassId). numbered classes c.0)) s.given.classes.sets) ≡ length s.given.classes.sets = length-map s.given.classes.sets (map (λ (c : ClassId). numbered classes c.0)) in
          let past : slice_index_or (map (map (λ (c : ClassId). numbered classes c.0)) s.given.classes.sets) set.0 nowhere_set ≡ nowhere_set = get_or_past (map (map (λ (c : ClassId). numbered classes c.0)) s.given.classes.sets) set.0 nowhere_set (omega arith) in
          let had : AllHad classes nowhere_set = subst (AllHad classes) past k in
          absurd (false≢true (sym fits.unclassed ∙ had.0))

  pub result_known : (t : Option SimpleType) → KnowsResult classes (option_map (type_view ns) t) → KindsFit s.given t
  result_known None k = tt
  result_known (Some t) k = kind_known t k

  -- ---- formals and fields

  type_known : (m : Mode) (t : Option SimpleType) (n : ℕ) → KnowsResult classes (option_map (type_view ns) t) → FormalTypeFits s.given (type_by_mode m t n)
  type_known mode.ByName None n k = tt
  type_known mode.Value None n k = tt
  type_known mode.Result None n k = tt
  type_known mode.ValueResult None n k = tt
  type_known mode.Array None n k = tt
  type_known mode.Procedure None n k = tt
  type_known mode.ByName (Some t) n k = kind_known t k
  type_known mode.Value (Some t) n k = kind_known t k
  type_known mode.Result (Some t) n k = kind_known t k
  type_known mode.ValueResult (Some t) n k = kind_known t k
  type_known mode.Array (Some t) n k = kind_known t k
  type_known mode.Procedure (Some t) n k = kind_known t k

  formals_fit : (f : TypedFormal) (xs : List (ℕ × Place)) → KnowsResult classes (option_map (type_view ns) f.spec) → KnowsDeclared names (targets_view ns xs) → All (FormalFits s.given) (formals_as (formal_type f) xs)
  formals_fit f [] t k = All-nil (FormalFits s.given)
  formals_fit f (x ∷ xs) t k =
      let first : Formal = record { name = x.0; is = formal_type f } in
      All-cons (FormalFits s.given) first (formals_as (formal_type f) xs) (record { name = name_known x.0 k.0; is = type_known f.mode f.spec f.dimensions t }) (formals_fit f xs t k.1)

  pub formals_known : (fs : List TypedFormal) → KnowsFormals names classes (map (formal_view ns) fs) → All (FormalFits s.given) (all_formals fs)
  formals_known [] k = All-nil (FormalFits s.given)
  formals_known (f ∷ fs) k = All-append (FormalFits s.given) (formals_as (formal_type f) f.names.items) (all_formals fs) (formals_fit f f.names.items k.0 k.1) (formals_known fs k.2)

  abbrev pub groups_in : List (SimpleType × Vec (ℕ × Place) Global) → List typed.Group
  groups_in groups = map (λ (g : SimpleType × Vec (ℕ × Place) Global). record { type = type_view ns g.0; names = targets_view ns g.1.items }) groups

  pub fields_known : (groups : List (SimpleType × Vec (ℕ × Place) Global)) → KnowsGroups names classes (groups_in groups) → All (KindFits s.given) (all_fields groups)
  fields_known [] k = All-nil (KindFits s.given)
  fields_known (g ∷ rest) k = All-append (KindFits s.given) (replicate (length g.1.items) g.0) (all_fields rest) (All-replicate (KindFits s.given) (length g.1.items) g.0 (kind_known g.0 k.0)) (fields_known rest k.2)

  -- ---- declarations

  pub procedure_known : (p : TypedProc) → KnowsDecl names classes (procedure_view ns p) → KindsFit s.given (result_of p) × ((named_procedure p).0 < length s.given.names) × KnowsFormals names classes (map (formal_view ns) (formals_in p))
  procedure_known (TypedProc' place result name formals q p f k g st) h = (result_known result h.0, name_known name.0 h.1, h.2)

  decl_formals_known : (d : TypedDecl) → KnowsDecl names classes (decl_view ns d) → All (FormalFits s.given) (decl_formals d)
  decl_formals_known (Simple t xs) k = All-nil (FormalFits s.given)
  decl_formals_known (Array' t xs shape bounds) k = All-nil (FormalFits s.given)
  decl_formals_known (Class c) k = All-nil (FormalFits s.given)
  decl_formals_known (Proc p) k = formals_known (formals_in p) (procedure_known p k).2

  decl_fields_known : (d : TypedDecl) → KnowsDecl names classes (decl_view ns d) → All (KindFits s.given) (decl_fields d)
  decl_fields_known (Simple t xs) k = All-nil (KindFits s.given)
  decl_fields_known (Array' t xs shape bounds) k = All-nil (KindFits s.given)
  decl_fields_known (Proc p) k = All-nil (KindFits s.given)
  decl_fields_known (Class c) k = fields_known c.groups.items k.1

  pub decls_formals_known : (decls : List TypedDecl) → KnowsDecls names classes (decls_in ns decls) → All (FormalFits s.given) (decls_formals decls)
  decls_formals_known [] k = All-nil (FormalFits s.given)
  decls_formals_known (d ∷ rest) k = All-append (FormalFits s.given) (decl_formals d) (decls_formals rest) (decl_formals_known d k.0) (decls_formals_known rest k.1)

  pub decls_fields_known : (decls : List TypedDecl) → KnowsDecls names classes (decls_in ns decls) → All (KindFits s.given) (decls_fields decls)
  decls_fields_known [] k = All-nil (KindFits s.given)
  decls_fields_known (d ∷ rest) k = All-append (KindFits s.given) (decl_fields d) (decls_fields rest) (decl_fields_known d k.0) (decls_fields_known rest k.1)
