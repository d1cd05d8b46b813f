-- What a procedure's name alone is for a formal.
use Rattle.std.proofs.Common.{◌≡◌, Option, Some, None, false, List, [], ◌∷◌, length, map, ◌≢◌, refl, sym, ap, ◌∙◌}
use Rattle.value_ops.specs.declared.values.SimpleType.{SimpleType}
use Rattle.algolw_typing.specs.Types.{ValueType}
use Rattle.algolw_typing.specs.Actuals.{procedure_name}
use Rattle.algolw_typing.specs.Meanings as typing
use Rattle.algolw_typing.specs.ProgramView.{gives_view}
use Rattle.stack_code.specs.declared.heads.Formal.{Formal}
use Rattle.stack_code.specs.declared.heads.FormalType.{FormalType}
use Rattle.stack_code.specs.declared.heads.FormalType.TheVariants as formal
use Rattle.stack_code.specs.declared.heads.ProcedureHead.{ProcedureHead}
use Rattle.stack_code.specs.CodeView.{Given, numbers, kinds_view, formal_type_view, formal_view, procedure_view}
use Rattle.stack_code.specs.Table as table
use Rattle.program_meaning.specs.Copying.{formal_types}
use Rattle.machine_calls.specs.Fitting.{gives_of}

pub gives_are : (g : Given) (k : Option SimpleType) → gives_view (numbers g) (gives_of k) ≡ typing.gives_of (kinds_view g k)
gives_are g None = refl
gives_are g (Some t) = refl

abbrev IsNone : FormalType → Type 0
IsNone f = (x : Option SimpleType) → f ≡ formal.Procedure x → ⊥

abbrev named : List typing.FormalType → Option ValueType → typing.Part
named fs r = procedure_name false r fs

by_type : (g : Given) (f : FormalType) (q : ProcedureHead) → IsNone f → table.procedure_part (formal_type_view g f) (Some (procedure_view g q)) ≡ named (formal_types (map (formal_view g) q.formals.items)) (kinds_view g q.result)
by_type g (formal.ByName t) q n = refl
by_type g (formal.Value t) q n = refl
by_type g (formal.Result t) q n = refl
by_type g (formal.ValueResult t) q n = refl
by_type g (formal.Array t k) q n = refl
by_type g (formal.Procedure t) q n = absurd (n t refl)

plain_by : (g : Given) (fs : List Formal) (r : Option SimpleType) → length fs ≡ 0 → named (formal_types (map (formal_view g) fs)) (kinds_view g r) ≡ typing.a_phrase false (gives_view (numbers g) (gives_of r))
plain_by g [] r e = ap (typing.a_phrase false) (sym (gives_are g r))
plain_by g (f ∷ fs) r e = absurd (cc e)

formals_by : (g : Given) (fs : List Formal) (r : Option SimpleType) → length fs ≢ 0 → named (formal_types (map (formal_view g) fs)) (kinds_view g r) ≡ typing.with_formals
formals_by g [] r e = absurd (e refl)
formals_by g (f ∷ fs) r e = refl

pub plain_part : (g : Given) (f : FormalType) (q : ProcedureHead) → IsNone f → length q.formals.items ≡ 0 → typing.a_phrase false (gives_view (numbers g) (gives_of q.result)) ≡ table.procedure_part (formal_type_view g f) (Some (procedure_view g q))
plain_part g f q n e = sym (by_type g f q n ∙ plain_by g q.formals.items q.result e)

pub formals_part : (g : Given) (f : FormalType) (q : ProcedureHead) → IsNone f → length q.formals.items ≢ 0 → typing.with_formals ≡ table.procedure_part (formal_type_view g f) (Some (procedure_view g q))
formals_part g f q n e = sym (by_type g f q n ∙ formals_by g q.formals.items q.result e)
