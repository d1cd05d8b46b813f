-- Numbers stay ones that the tables hold where instructions are put for targets.
use Rattle.std.proofs.Common.{◌≡◌, ℕ, ◌<◌, List, [], ◌∷◌, map, length, zero, suc, refl, sym, subst, slice_index_or}
use Rattle.std.specs.List.{All}
use Rattle.std.proofs.lemmas.List.{length-map}
use Rattle.std.proofs.lemmas.List.Elements.{All-map, All-weaker}
use Rattle.stack_code.specs.Calls.{ComparedCall}
use Rattle.stack_code.specs.declared.heads.Reading.{Reading}
use Rattle.stack_code.specs.declared.heads.Reading.TheVariants as reading
use Rattle.stack_code.specs.declared.instructions.Coded.{Coded}
use Rattle.stack_code.specs.declared.instructions.Constant.{Constant}
use Rattle.stack_code.specs.declared.instructions.Constant.TheVariants as constant
use Rattle.stack_code.specs.declared.instructions.Instr.{Instr}
use Rattle.stack_code.specs.declared.instructions.Instr.TheVariants as held
use Rattle.stack_code.specs.CodeView.{CodeView, Given, Added, CodeFits, ConstantFits, InstrFits, ReadingFits, TextFits, call_view, no_call}
use Rattle.stack_code.specs.Linking.{linked, linked_added, linked_call, linked_coded, linked_instr, linked_reading, linked_text}

heads_same : (t : List ℕ) (calls : List ComparedCall) (n : ℕ) → (slice_index_or (map call_view (map (linked_call t) calls)) n no_call).heads ≡ (slice_index_or (map call_view calls) n no_call).heads
heads_same t [] n = refl
heads_same t (c ∷ calls) zero = refl
heads_same t (c ∷ calls) (suc n) = heads_same t calls n

constant_fits : (a : Added) (t : List ℕ) (c : Constant) → ConstantFits a c → ConstantFits (linked_added t a) c
constant_fits a t (constant.Integer n) f = f
constant_fits a t (constant.Logical b) f = f
constant_fits a t (constant.Bits b) f = f
constant_fits a t (constant.Str n) f = f
constant_fits a t constant.Null f = f

instr_fits : (g : Given) (a : Added) (t : List ℕ) (i : Instr) → InstrFits g a i → InstrFits g (linked_added t a) (linked_instr t i)
instr_fits g a ts held.Nothing f = f
instr_fits g a ts (held.Constant c) f = constant_fits a ts c f
instr_fits g a ts (held.Variable u links position) f = f
instr_fits g a ts (held.Standard u k) f = f
instr_fits g a ts held.Push f = f
instr_fits g a ts held.Reserve f = f
instr_fits g a ts (held.Unary op) f = f
instr_fits g a ts (held.Binary op) f = f
instr_fits g a ts (held.Relation op) f = f
instr_fits g a ts (held.IsClass c) f = f
instr_fits g a ts (held.Element u links position count) f = f
instr_fits g a ts (held.Field u c position) f = f
instr_fits g a ts (held.Part m n) f = f
instr_fits g a ts (held.Make t) f = f
instr_fits g a ts (held.MakeRecord c count) f = f
instr_fits g a ts (held.MakeRecordAlone c count) f = f
instr_fits g a ts held.Begin f = f
instr_fits g a ts (held.Jump k) f = f
instr_fits g a ts (held.JumpUnless k) f = f
instr_fits g a ts (held.Choose n) f = f
instr_fits g a ts (held.Assign t gives) f = f
instr_fits g a ts held.Assert f = f
instr_fits g a ts (held.SetWidth k position) f = f
instr_fits g a ts (held.Write first position) f = f
instr_fits g a ts (held.CloseWidths position) f = f
instr_fits g a ts (held.Read next t) f = f
instr_fits g a ts (held.ReadCard t) f = f
instr_fits g a ts held.IoControl f = f
instr_fits g a ts (held.Goto links position k) f = f
instr_fits g a ts (held.Again k) f = f
instr_fits g a ts (held.FirstTurn k) f = f
instr_fits g a ts (held.Turn x) f = f
instr_fits g a ts (held.NextTurn k position) f = f
instr_fits g a ts (held.ListTurn k x) f = f
instr_fits g a ts (held.EndTurn position) f = f
instr_fits g a ts (held.EnterBlock p) f = f
instr_fits g a ts (held.Declare x) f = f
instr_fits g a ts (held.Bounds n) f = f
instr_fits g a ts (held.DeclareArray t x) f = f
instr_fits g a ts held.Declared f = f
instr_fits g a ts (held.LeaveBlock position) f = f
instr_fits g a ts (held.Procedure n behind) f = f
instr_fits g a ts (held.Text n behind) f = subst (λ k. n < k) (sym (length-map a.texts (linked_text ts))) f
instr_fits g a ts (held.HandOn s) f = f
instr_fits g a ts (held.MakeThunk v t head) f = f
instr_fits g a ts (held.Subarray links position n) f = f
instr_fits g a ts (held.Aside u t head) f = f
instr_fits g a ts (held.UseFormal u links position) f = f
instr_fits g a ts (held.Call links site head) f = f
instr_fits g a ts held.Return f = f
instr_fits g a ts held.End f = f
instr_fits g a ts (held.AssignBack t i) f = f
instr_fits g a ts (held.Compare n) f = subst (λ k. n < k) (sym (length-map a.calls (linked_call ts))) f
instr_fits g a ts (held.Prepare n i) f = (subst (λ k. n < k) (sym (length-map a.calls (linked_call ts))) f.0, subst (λ hs. i < length hs) (sym (heads_same ts a.calls n)) f.1)
instr_fits g a ts (held.CallThrough site n) f = subst (λ k. n < k) (sym (length-map a.calls (linked_call ts))) f
instr_fits g a ts (held.PlaceBack i head) f = f
instr_fits g a ts held.Stop f = f
instr_fits g a ts held.Stuck f = f

reading_fits : (g : Given) (t : List ℕ) (r : Reading) → ReadingFits g r → ReadingFits g (linked_reading t r)
reading_fits g t (reading.Phrase v u) f = f
reading_fits g t (reading.Name s) f = f
reading_fits g t (reading.Subarray s n) f = f
reading_fits g t reading.Nothing f = f

-- each of them, as each of those that it was made of
all_of : {X : Type 0} (P Q : X → Type 0) (h : X → X) → ((x : X) → P x → Q (h x)) → (xs : List X) → All P xs → All Q (map h xs)
all_of P Q h step xs a = All-map Q h xs (All-weaker P (λ x. Q (h x)) step xs a)

pub fits_linked : (c : CodeView) (t : List ℕ) → CodeFits c → CodeFits (linked t c)
fits_linked c t h = record {
  given = h.given;
  instructions = all_of (λ (i : Coded). InstrFits c.given c.added i.does) (λ (i : Coded). InstrFits c.given (linked_added t c.added) i.does) (linked_coded t) (λ i f. instr_fits c.given c.added t i.does f) c.instructions h.instructions;
  procedures = h.procedures;
  texts = all_of (TextFits c.given) (TextFits c.given) (linked_text t) (λ x f. reading_fits c.given t x.reading f) c.added.texts h.texts;
}
