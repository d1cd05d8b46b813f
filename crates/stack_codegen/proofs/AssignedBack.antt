-- What assigns a formal back to an actual in line, way by way.
use Rattle.std.proofs.Common.{◌≡◌, ℕ, ◌+◌, Bool, None, refl, sym, ◌∙◌, subst}
use Rattle.algolw_tree.specs.declared.programs.Gives.TheVariants as gives
use Rattle.value_ops.specs.declared.places.Place.{Place}
use Rattle.value_ops.specs.declared.values.SimpleType.{SimpleType}
use Rattle.algolw_typing.specs.Meanings as typing
use Rattle.algolw_typing.specs.Types as types
use Rattle.program_meaning.specs.Phrases as phrases
use Rattle.program_meaning.specs.Phrases.{Actual, Alone, Phrase, Subarray}
use Rattle.program_meaning.specs.Translating.{subscripts_of}
use Rattle.stack_code.specs.CodeView.{CodeFits, Given, GivesFits, KindFits, formal_type_view, kind_view}
use Rattle.stack_code.specs.declared.heads.FormalType.{FormalType}
use Rattle.stack_code.specs.declared.heads.FormalType.TheVariants as formal
use Rattle.stack_code.specs.declared.instructions.Instr.TheVariants as held
use Rattle.stack_code.specs.declared.instructions.Mode.TheVariants as mode
use Rattle.stack_code.specs.declared.instructions.Purpose.TheVariants as purpose
use Rattle.symbol_table.specs.declared.here.Here.{Here}
use Rattle.symbol_table.specs.Contexts.{numbers_in, phrase_context}
use Rattle.symbol_table.specs.Parts.{actuals_in}
use Rattle.code_emitter.specs.declared.emitter.Emitter.{Emitter}
use Rattle.code_emitter.specs.Appending.{appended}
use Rattle.code_emitter.specs.Parts.{CodesPhrase, Stays, none_own, scene}
use Rattle.code_emitter.proofs.Composing.{given_there}
use Rattle.stack_codegen.specs.declared.actuals.ActualKind.{ActualKind}
use Rattle.stack_codegen.specs.declared.actuals.ActualKind.TheVariants as kind
use Rattle.stack_codegen.specs.declared.actuals.Given.{Given as ActualGiven}
use Rattle.stack_codegen.specs.Calls.{actual_in, name_phrase}
use Rattle.stack_codegen.specs.Operations.{optional_phrase}
use Rattle.stack_codegen.proofs.CallsMade.{Backs, IsNotBack, back_as, back_nothing, back_result, back_value_result, given_is, statement_is, value_given}

-- its type is in the tables
pub back_fits : {a b : Emitter} (g : ActualGiven) (t : SimpleType) → g.gives ≡ gives.Simple t → GivesFits a.code.given g.gives → Stays none_own a b → KindFits b.code.given t
back_fits {a} g t is r x = subst (λ (s : Given). KindFits s t) (sym (given_there x)) (subst (GivesFits a.code.given) is r)

-- no phrase
pub back_other : (a : Emitter) (here : Here) (i text : ℕ) (k : ActualKind) (y : Actual) (f : typing.FormalType) → CodeFits a.code → ((g : ActualGiven) → k ≡ kind.Given g → ⊥) → actual_in (scene a) k ≡ y → Backs a a here i text y f 0
back_other a here i text (kind.Given g) y f h n e = absurd (n g refl)
back_other a here i text (kind.Alone p name) y f h n e = back_as here i text y f e (back_nothing a here i text (Alone p (name_phrase (scene a) name)) f h tt)
back_other a here i text (kind.Subarray name subscripts) y f h n e = back_as here i text y f e (back_nothing a here i text (Subarray (name_phrase (scene a) name) (subscripts_of (phrase_context (scene a)) (actuals_in (numbers_in (scene a)) subscripts.now))) f h tt)

not_statement : (x : Actual) (v : Bool) (first : Place) (p : Phrase) (f : typing.FormalType) → x ≡ phrases.Given v types.Statement first p → IsNotBack (phrases.Given v types.Statement first p) f
not_statement x v first p (typing.by_name t) e = tt
not_statement x v first p (typing.by_value t) e = tt
not_statement x v first p (typing.by_result t) e = tt
not_statement x v first p (typing.by_value_result t) e = tt
not_statement x v first p (typing.for_array t n) e = tt
not_statement x v first p (typing.for_procedure t) e = tt

-- a phrase that gives no value
pub back_statement : (a : Emitter) (here : Here) (i text : ℕ) (g : ActualGiven) (y : Actual) (f : typing.FormalType) → CodeFits a.code → g.gives ≡ gives.Statement → actual_in (scene a) (kind.Given g) ≡ y → Backs a a here i text y f 0
back_statement a here i text g y f h n e =
    let x : Actual = phrases.Given g.is_variable types.Statement g.first (optional_phrase (scene a) g.phrase) in
    back_as here i text y f (sym (statement_is (scene a) g n) ∙ e) (back_nothing a here i text x f h (not_statement x g.is_variable g.first (optional_phrase (scene a) g.phrase) f refl))

not_back : (s : Given) (g : types.Gives) (v : Bool) (first : Place) (p : Phrase) (of : FormalType) → ((t : SimpleType) → of ≡ formal.Result t → ⊥) → ((t : SimpleType) → of ≡ formal.ValueResult t → ⊥) → IsNotBack (phrases.Given v g first p) (formal_type_view s of)
not_back s (types.Simple u) v first p (formal.Result t) m n = absurd (m t refl)
not_back s (types.Simple u) v first p (formal.ValueResult t) m n = absurd (n t refl)
not_back s (types.Simple u) v first p (formal.ByName t) m n = tt
not_back s (types.Simple u) v first p (formal.Value t) m n = tt
not_back s (types.Simple u) v first p (formal.Array t d) m n = tt
not_back s (types.Simple u) v first p (formal.Procedure t) m n = tt
not_back s types.Statement v first p (formal.Result t) m n = absurd (m t refl)
not_back s types.Statement v first p (formal.ValueResult t) m n = absurd (n t refl)
not_back s types.Statement v first p (formal.ByName t) m n = tt
not_back s types.Statement v first p (formal.Value t) m n = tt
not_back s types.Statement v first p (formal.Array t d) m n = tt
not_back s types.Statement v first p (formal.Procedure t) m n = tt

-- a formal that isn't assigned back
pub back_other_formal : (a : Emitter) (here : Here) (i text : ℕ) (g : ActualGiven) (y : Actual) (t : SimpleType) (of : FormalType) → CodeFits a.code → g.gives ≡ gives.Simple t → ((u : SimpleType) → of ≡ formal.Result u → ⊥) → ((u : SimpleType) → of ≡ formal.ValueResult u → ⊥) → actual_in (scene a) (kind.Given g) ≡ y → Backs a a here i text y (formal_type_view a.code.given of) 0
back_other_formal a here i text g y t of h is m n e =
    back_as here i text y (formal_type_view a.code.given of) (sym (given_is (scene a) g t is) ∙ e) (back_nothing a here i text (value_given (scene a) g.is_variable g.first g.phrase t) (formal_type_view a.code.given of) h (not_back a.code.given (types.Simple (kind_view a.code.given t)) g.is_variable g.first (optional_phrase (scene a) g.phrase) of m n))

-- one of RESULT
pub back_result_done : {a b c : Emitter} {m : ℕ} (here : Here) (i text : ℕ) (g : ActualGiven) (y : Actual) (t u : SimpleType) (of : FormalType) (n : ℕ) → of ≡ formal.Result u → n ≡ m + 1 → KindFits a.code.given t → g.gives ≡ gives.Simple t → actual_in (scene a) (kind.Given g) ≡ y → CodesPhrase a b here mode.Place (optional_phrase (scene a) g.phrase) m → c ≡ appended b here (held.AssignBack t i) → Backs a c here i text y (formal_type_view a.code.given of) n
back_result_done {a} {b} {c} {m} here i text g y t u of n o one fits is e part qc =
    subst (λ k. Backs a c here i text y (formal_type_view a.code.given of) k) (sym one)
    (subst (λ x. Backs a c here i text y (formal_type_view a.code.given x) (m + 1)) (sym o)
    (back_as here i text y (typing.by_result (kind_view a.code.given u)) (sym (given_is (scene a) g t is) ∙ e) (back_result here i text g.is_variable g.first g.phrase t (kind_view a.code.given u) fits part qc)))

-- and one of VALUE RESULT
pub back_value_result_done : {a b c d : Emitter} (here : Here) (i text : ℕ) (g : ActualGiven) (y : Actual) (t u : SimpleType) (of : FormalType) → of ≡ formal.ValueResult u → CodeFits a.code → KindFits a.code.given t → g.gives ≡ gives.Simple t → actual_in (scene a) (kind.Given g) ≡ y → b ≡ appended a here (held.Aside purpose.Place None text) → c ≡ appended b here held.End → d ≡ appended c here (held.AssignBack t i) → Backs a d here i text y (formal_type_view a.code.given of) 0
back_value_result_done {a} {b} {c} {d} here i text g y t u of o h fits is e qb qc qd =
    subst (λ x. Backs a d here i text y (formal_type_view a.code.given x) 0) (sym o)
    (back_as here i text y (typing.by_value_result (kind_view a.code.given u)) (sym (given_is (scene a) g t is) ∙ e) (back_value_result here i text g.is_variable g.first g.phrase t (kind_view a.code.given u) h fits qb qc qd))
