-- Names, formals and fields of a tree, as the definitions have them.
use Rattle.std.proofs.Common.{◌≡◌, ℕ, ◌<◌, List, [], ◌∷◌, ◌++◌, length, map, replicate, Option, Some, None, refl, sym, ap, ◌∙◌, arith}
use Rattle.std.specs.Option.{option_map}
use Rattle.std.specs.declared.vec.Vec.{Vec}
use Rattle.std.specs.declared.alloc.Global.{Global}
use Rattle.value_ops.specs.declared.places.Place.{Place}
use Rattle.value_ops.specs.declared.values.SimpleType.{SimpleType}
use Rattle.value_ops.specs.declared.values.SimpleType.TheVariants as simple
use Rattle.algolw_tree.specs.declared.phrases.Mode.{Mode}
use Rattle.algolw_tree.specs.declared.phrases.Mode.TheVariants as mode
use Rattle.algolw_tree.specs.declared.programs.TypedFormal.{TypedFormal}
use Rattle.algolw_typing.specs.Known.{KnowsDeclared, KnowsFormals}
use Rattle.algolw_typing.specs.Meanings as typing
use Rattle.algolw_typing.specs.ProgramView.{Numbers, formal_view, numbered, targets_view, type_view}
use Rattle.algolw_typing.specs.Scopes as scopes
use Rattle.algolw_typing.specs.Types.{ValueType}
use Rattle.program_meaning.specs.Phrases as phrases
use Rattle.program_meaning.specs.Translating as translating
use Rattle.program_meaning.specs.Translating.{each_formal, field_types, name_at, names_at, same_types, text_at, type_of_formal}
use Rattle.stack_code.specs.CodeView as code
use Rattle.stack_code.specs.CodeView.{formal_type_view, kind_view, kinds_view, name_view}
use Rattle.stack_code.specs.declared.heads.Formal.{Formal}
use Rattle.stack_code.specs.declared.heads.FormalType.{FormalType}
use Rattle.symbol_table.specs.Blocks.{all_fields, all_formals, formal_type, formals_as, type_by_mode}
use Rattle.symbol_table.specs.Contexts.{Scene, SceneFits, info_of, numbers_in, place_of}
use Rattle.symbol_table.proofs.Knowing.{name_known}
use Rattle.symbol_table.proofs.Places.{numbered_place, text_found}

-- a type is the same by all numbers and by those of types
pub kind_same : (s : Scene) (t : SimpleType) → type_view (numbers_in s) t ≡ kind_view s.given t
kind_same s simple.Integer = refl
kind_same s simple.Logical = refl
kind_same s simple.Bits = refl
kind_same s (simple.Str n) = refl
kind_same s (simple.Reference set) = refl

pub kinds_same : (s : Scene) (t : Option SimpleType) → option_map (type_view (numbers_in s)) t ≡ kinds_view s.given t
kinds_same s None = refl
kinds_same s (Some t) = ap Some (kind_same s t)

pub count-targets : (ns : Numbers) (xs : List (ℕ × Place)) → translating.count (targets_view ns xs) ≡ length xs
count-targets ns [] = refl
count-targets ns (x ∷ xs) = let ih = count-targets ns xs in omega (arith, ih)

pub length-names_at : (pc : translating.Context) (ns : Numbers) (xs : List (ℕ × Place)) → length (names_at pc (targets_view ns xs)) ≡ length xs
length-names_at pc ns [] = refl
length-names_at pc ns (x ∷ xs) = let ih = length-names_at pc ns xs in omega (arith, ih)

-- ---- fields

types_same : (s : Scene) (t : SimpleType) (xs : List (ℕ × Place)) (fields : List SimpleType) (types : List ValueType) → map (kind_view s.given) fields ≡ types → map (kind_view s.given) (replicate (length xs) t ++ fields) ≡ same_types (type_view (numbers_in s) t) (targets_view (numbers_in s) xs) types
types_same s t [] fields types e = e
types_same s t (x ∷ xs) fields types e =
    ap (λ (u : ValueType). u ∷ map (kind_view s.given) (replicate (length xs) t ++ fields)) (sym (kind_same s t))
    ∙ ap (λ (us : List ValueType). type_view (numbers_in s) t ∷ us) (types_same s t xs fields types e)

pub fields_viewed : (s : Scene) (groups : List (SimpleType × Vec (ℕ × Place) Global)) → map (kind_view s.given) (all_fields groups) ≡ field_types (map (λ (g : SimpleType × Vec (ℕ × Place) Global). record { type = type_view (numbers_in s) g.0; names = targets_view (numbers_in s) g.1.items }) groups)
fields_viewed s [] = refl
fields_viewed s (g ∷ groups) = types_same s g.0 g.1.items (all_fields groups) _ (fields_viewed s groups)

-- ---- formals

type_same : (s : Scene) (m : Mode) (t : Option SimpleType) (n : ℕ) → scopes.formal_type m n (option_map (type_view (numbers_in s)) t) ≡ formal_type_view s.given (type_by_mode m t n)
type_same s mode.ByName None n = refl
type_same s mode.Value None n = refl
type_same s mode.Result None n = refl
type_same s mode.ValueResult None n = refl
type_same s mode.Array None n = refl
type_same s mode.Procedure None n = refl
type_same s mode.ByName (Some t) n = ap typing.by_name (kind_same s t)
type_same s mode.Value (Some t) n = ap typing.by_value (kind_same s t)
type_same s mode.Result (Some t) n = ap typing.by_result (kind_same s t)
type_same s mode.ValueResult (Some t) n = ap typing.by_value_result (kind_same s t)
type_same s mode.Array (Some t) n = ap (λ u. typing.for_array u n) (kind_same s t)
type_same s mode.Procedure (Some t) n = ap (λ u. typing.for_procedure (Some u)) (kind_same s t)

pub formal_type_same : (s : Scene) (f : TypedFormal) → type_of_formal (formal_view (numbers_in s) f) ≡ formal_type_view s.given (formal_type f)
formal_type_same s f = type_same s f.mode f.spec f.dimensions

module _ (s : Scene) (fits : SceneFits s) (pc : translating.Context) (written : pc.names ≡ map info_of s.given.names) where
  abbrev ns : Numbers
  ns = numbers_in s

  pub name_viewed : (n : ℕ) → n < length s.given.names → name_at pc (numbered ns.names n) ≡ name_view s.given n
  name_viewed n l =
      ap (λ (p : Place). name_at pc p) (numbered_place s n)
      ∙ ap (λ (text : List ℕ). let x : phrases.Name = record { place = place_of s n; text = text } in x) (ap (λ infos. text_at infos (place_of s n)) written ∙ text_found s.given n fits.apart l)

  formals_each : (u : typing.FormalType) (t : FormalType) → u ≡ formal_type_view s.given t → (xs : List (ℕ × Place)) (fs : List Formal) (rest : List phrases.Formal) → KnowsDeclared ns.names (targets_view ns xs) → rest ≡ map (code.formal_view s.given) fs → each_formal pc u (targets_view ns xs) rest ≡ map (code.formal_view s.given) (formals_as t xs ++ fs)
  formals_each u t e [] fs rest k r = r
  formals_each u t e (x ∷ xs) fs rest k r =
      ap (λ (f : phrases.Formal). f ∷ each_formal pc u (targets_view ns xs) rest)
      (ap (λ (name : phrases.Name). let f : phrases.Formal = record { name = name; is = u } in f) (name_viewed x.0 (name_known s fits x.0 k.0))
      ∙ ap (λ (v : typing.FormalType). let f : phrases.Formal = record { name = name_view s.given x.0; is = v } in f) e)
      ∙ ap (λ (more : List phrases.Formal). code.formal_view s.given (record { name = x.0; is = t }) ∷ more) (formals_each u t e xs fs rest k.1 r)

  pub formals_viewed : (fs : List TypedFormal) → KnowsFormals ns.names s.given.class_places (map (formal_view ns) fs) → translating.formals_of pc (map (formal_view ns) fs) ≡ map (code.formal_view s.given) (all_formals fs)
  formals_viewed [] k = refl
  formals_viewed (f ∷ fs) k = formals_each (type_of_formal (formal_view ns f)) (formal_type f) (formal_type_same s f) f.names.items (all_formals fs) _ k.1 (formals_viewed fs k.2)
