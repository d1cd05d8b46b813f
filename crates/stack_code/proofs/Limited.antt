-- What is within a machine's limits, and has numbers that the tables hold, may be run.
use Rattle.std.proofs.Common.{◌≡◌, ℕ, ◌<◌, ◌≤◌, Bool, true, false, ◌&&◌, nat_le, List, [], ◌∷◌, ◌++◌, zero, suc, length, map, Option, Some, None, refl, sym, subst, get_or, slice_index_or, slice_set, arith}
use Rattle.std.specs.List.{All, list_all}
use Rattle.std.proofs.lemmas.Bool.{leb-true}
use Rattle.std.proofs.lemmas.List.Elements.{All-get_or, All-map, All-push, All-set, All-weaker}
use Rattle.value_ops.specs.declared.values.SimpleType.{SimpleType}
use Rattle.value_ops.specs.declared.values.SimpleType.TheVariants as simple
use Rattle.algolw_tree.specs.declared.programs.Gives.{Gives}
use Rattle.algolw_tree.specs.declared.programs.Gives.TheVariants as gives
use Rattle.stack_code.specs.declared.heads.Formal.{Formal}
use Rattle.stack_code.specs.declared.heads.FormalType.{FormalType}
use Rattle.stack_code.specs.declared.heads.FormalType.TheVariants as formal
use Rattle.stack_code.specs.declared.heads.ProcedureHead.{ProcedureHead}
use Rattle.stack_code.specs.declared.heads.Reading.{Reading}
use Rattle.stack_code.specs.declared.heads.Reading.TheVariants as reading
use Rattle.stack_code.specs.declared.heads.Stars.{Stars}
use Rattle.stack_code.specs.declared.heads.TextHead.{TextHead}
use Rattle.stack_code.specs.declared.instructions.Coded.{Coded}
use Rattle.stack_code.specs.declared.instructions.Instr.{Instr}
use Rattle.stack_code.specs.declared.instructions.Instr.TheVariants as held
use Rattle.stack_code.specs.CodeView.{Given, Added, CodeView, CodeFits, KindFits, KindsFit, GivesFits, FormalTypeFits, FormalFits, ProcedureFits, ReadingFits, TextFits, InstrFits}
use Rattle.stack_code.specs.Linking.{linked, linked_coded, linked_instr, linked_reading, linked_text}
use Rattle.stack_code.specs.Limits.{IsWithin, is_kind, is_kind_or_none, is_given, is_formal, is_procedure, is_reading, is_text, is_instr, KindRuns, KindsRun, GivesRuns, FormalTypeRuns, FormalRuns, ProcedureRuns, ReadingRuns, TextRuns, InstrRuns, CodeRuns}
use Rattle.stack_code.proofs.Keeping.{instead}

-- ---- what may be run

both : (a b : Bool) → (a && b) ≡ true → (a ≡ true) × (b ≡ true)
both true b e = (refl, e)
both false b e = cc

passes : {X : Type 0} (p : X → Bool) (xs : List X) (k : ℕ) (d : X) → k < length xs → list_all p xs ≡ true → p (get_or xs k d) ≡ true
passes p [] k d h e = absurd (omega (arith, h))
passes p (x ∷ xs) zero d h e = (both (p x) (list_all p xs) e).0
passes p (x ∷ xs) (suc k) d h e = passes p xs k d (omega (arith, h)) (both (p x) (list_all p xs) e).1

at_most : (n m : ℕ) → nat_le n m ≡ true → n ≤ m
at_most n m e = leb-true n m e

pub kind_runs : (g : Given) (t : SimpleType) → KindFits g t → is_kind t ≡ true → KindRuns g t
kind_runs g (simple.Str n) f e = let h = both (nat_le 1 n) (nat_le n 256) e in (at_most 1 n h.0, at_most n 256 h.1)
kind_runs g (simple.Reference set) f e = f
kind_runs g simple.Integer f e = tt
kind_runs g simple.Logical f e = tt
kind_runs g simple.Bits f e = tt

kinds_run : (g : Given) (t : Option SimpleType) → KindsFit g t → is_kind_or_none t ≡ true → KindsRun g t
kinds_run g None f e = tt
kinds_run g (Some t) f e = kind_runs g t f e

gives_runs : (g : Given) (t : Gives) → GivesFits g t → is_given t ≡ true → GivesRuns g t
gives_runs g gives.Statement f e = tt
gives_runs g (gives.Simple t) f e = kind_runs g t f e

formal_type_runs : (g : Given) (t : FormalType) → FormalTypeFits g t → is_formal t ≡ true → FormalTypeRuns g t
formal_type_runs g (formal.ByName t) f e = kind_runs g t f e
formal_type_runs g (formal.Value t) f e = kind_runs g t f e
formal_type_runs g (formal.Result t) f e = kind_runs g t f e
formal_type_runs g (formal.ValueResult t) f e = kind_runs g t f e
formal_type_runs g (formal.Array t n) f e = kind_runs g t f e
formal_type_runs g (formal.Procedure t) f e = kinds_run g t f e

formals_run : (g : Given) (fs : List Formal) → All (FormalFits g) fs → list_all (λ (f : Formal). is_formal f.is) fs ≡ true → All (FormalRuns g) fs
formals_run g fs h e = λ k d there. record {
  name = (h k d there).name;
  is = formal_type_runs g (get_or fs k d).is (h k d there).is (passes (λ (f : Formal). is_formal f.is) fs k d there e);
}

pub procedure_runs : (g : Given) (p : ProcedureHead) → ProcedureFits g p → is_procedure p ≡ true → ProcedureRuns g p
procedure_runs g p f e =
    let h = both (is_kind_or_none p.result) (nat_le (length p.formals.items) 65536 && list_all (λ (x : Formal). is_formal x.is) p.formals.items) e in
    let k = both (nat_le (length p.formals.items) 65536) (list_all (λ (x : Formal). is_formal x.is) p.formals.items) h.1 in
    record { name = f.name; result = kinds_run g p.result f.result h.0; formals = formals_run g p.formals.items f.formals k.1; few = at_most (length p.formals.items) 65536 k.0 }

reading_runs : (g : Given) (r : Reading) → ReadingFits g r → is_reading r ≡ true → ReadingRuns g r
reading_runs g (reading.Phrase v t) f e = gives_runs g t f e
reading_runs g (reading.Name s) f e = tt
reading_runs g (reading.Subarray s n) f e = tt
reading_runs g reading.Nothing f e = tt

pub text_runs : (g : Given) (t : TextHead) → TextFits g t → is_text t ≡ true → TextRuns g t
text_runs g t f e = reading_runs g t.reading f e

few_stars : (ss : List Stars) (n : ℕ) → All (λ (s : Stars). length s.are.items ≤ 8) ss → length (slice_index_or (map (λ (s : Stars). s.are.items) ss) n []) ≤ 8
few_stars [] n h = omega arith
few_stars (s ∷ ss) zero h = h 0 s (omega arith)
few_stars (s ∷ ss) (suc n) h = few_stars ss n (λ k d there. h (suc k) d (omega (arith, there)))

pub instr_runs : (g : Given) (a : Added) (i : Instr) → All (λ (s : Stars). length s.are.items ≤ 8) a.stars → InstrFits g a i → is_instr i ≡ true → InstrRuns g a i
instr_runs g a (held.Make t) s f e = kind_runs g t f e
instr_runs g a (held.Assign t gives) s f e = kind_runs g t f e
instr_runs g a (held.Read next t) s f e = kind_runs g t f e
instr_runs g a (held.ReadCard t) s f e = kind_runs g t f e
instr_runs g a (held.AssignBack t i) s f e = kind_runs g t f e
instr_runs g a (held.MakeThunk v t head) s f e = kinds_run g t f e
instr_runs g a (held.Aside u t head) s f e = kinds_run g t f e
instr_runs g a (held.DeclareArray t x) s f e = (kind_runs g t f.0 e, f.1)
instr_runs g a (held.Bounds n) s f e = at_most n 8 e
instr_runs g a (held.Part m n) s f e = at_most m 256 e
instr_runs g a (held.Element u links position count) s f e = at_most count 8 e
instr_runs g a (held.Subarray links position n) s f e = (f, few_stars a.stars n s)
instr_runs g a i s f e = f

all_run : (g : Given) (a : Added) (is : List Coded) → All (λ (s : Stars). length s.are.items ≤ 8) a.stars → All (λ (i : Coded). InstrFits g a i.does) is → All (λ (i : Coded). is_instr i.does ≡ true) is → All (λ (i : Coded). InstrRuns g a i.does) is
all_run g a is s f e = λ k d there. instr_runs g a (get_or is k d).does s (f k d there) (e k d there)

procedures_run : (g : Given) (ps : List ProcedureHead) → All (ProcedureFits g) ps → All (λ (p : ProcedureHead). is_procedure p ≡ true) ps → All (ProcedureRuns g) ps
procedures_run g ps f e = λ k d there. procedure_runs g (get_or ps k d) (f k d there) (e k d there)

texts_run : (g : Given) (ts : List TextHead) → All (TextFits g) ts → All (λ (t : TextHead). is_text t ≡ true) ts → All (TextRuns g) ts
texts_run g ts f e = λ k d there. text_runs g (get_or ts k d) (f k d there) (e k d there)

pub code_runs : (c : CodeView) → CodeFits c × IsWithin c → CodeRuns c
code_runs c h = record {
  given = h.0.given;
  instructions = all_run c.given c.added c.instructions h.1.stars h.0.instructions h.1.instructions;
  procedures = procedures_run c.given c.added.procedures h.0.procedures h.1.procedures;
  texts = texts_run c.given c.added.texts h.0.texts h.1.texts;
}

-- an instruction of a code, and a procedure
pub coded_runs : (c : CodeView) (n : ℕ) (i : Coded) → CodeFits c × IsWithin c → n < length c.instructions → i ≡ slice_index_or c.instructions n i → InstrRuns c.given c.added i.does
coded_runs c n i h there is = subst (λ (x : Coded). InstrRuns c.given c.added x.does) (sym is) (All-get_or (λ (x : Coded). InstrRuns c.given c.added x.does) c.instructions n i there (code_runs c h).instructions)

pub procedure_run : (c : CodeView) (n : ℕ) (p : ProcedureHead) → CodeFits c × IsWithin c → n < length c.added.procedures → p ≡ slice_index_or c.added.procedures n p → ProcedureRuns c.given p
procedure_run c n p h there is = subst (ProcedureRuns c.given) (sym is) (All-get_or (ProcedureRuns c.given) c.added.procedures n p there (code_runs c h).procedures)

-- ---- what is within the limits stays so

pub within_appended : (c : CodeView) (i : Coded) (is : List Coded) → is ≡ c.instructions ++ i ∷ [] → IsWithin c → is_instr i.does ≡ true → IsWithin (instead c is)
within_appended c i is e h w = record {
  instructions = subst (λ l. All (λ (x : Coded). is_instr x.does ≡ true) l) (sym e) (All-push (λ (x : Coded). is_instr x.does ≡ true) c.instructions i h.instructions w);
  procedures = h.procedures;
  texts = h.texts;
  stars = h.stars;
}

pub within_replaced : (c : CodeView) (n : ℕ) (i : Coded) → IsWithin c → is_instr i.does ≡ true → IsWithin (instead c (slice_set c.instructions n i))
within_replaced c n i h w = record {
  instructions = All-set (λ (x : Coded). is_instr x.does ≡ true) c.instructions n i w h.instructions;
  procedures = h.procedures;
  texts = h.texts;
  stars = h.stars;
}

instr_linked : (ts : List ℕ) (i : Instr) → is_instr i ≡ true → is_instr (linked_instr ts i) ≡ true
instr_linked ts (held.Goto links position k) w = refl
instr_linked ts (held.Call links site head) w = refl
instr_linked ts (held.HandOn s) w = refl
instr_linked ts (held.Make t) w = w
instr_linked ts (held.Assign t gives) w = w
instr_linked ts (held.Read next t) w = w
instr_linked ts (held.ReadCard t) w = w
instr_linked ts (held.AssignBack t i) w = w
instr_linked ts (held.MakeThunk v t head) w = w
instr_linked ts (held.Aside u t head) w = w
instr_linked ts (held.DeclareArray t x) w = w
instr_linked ts (held.Bounds n) w = w
instr_linked ts (held.Part m n) w = w
instr_linked ts (held.Element u links position count) w = w
instr_linked ts i w = refl

reading_linked : (ts : List ℕ) (r : Reading) → is_reading r ≡ true → is_reading (linked_reading ts r) ≡ true
reading_linked ts (reading.Phrase v t) w = w
reading_linked ts (reading.Name s) w = refl
reading_linked ts (reading.Subarray s n) w = refl
reading_linked ts reading.Nothing w = refl

all_linked : {X : Type 0} (P : X → Type 0) (f : X → X) → ((x : X) → P x → P (f x)) → (xs : List X) → All P xs → All P (map f xs)
all_linked P f step xs h = All-map P f xs (All-weaker P (λ x. P (f x)) step xs h)

pub within_linked : (c : CodeView) (ts : List ℕ) → IsWithin c → IsWithin (linked ts c)
within_linked c ts h = record {
  instructions = all_linked (λ (x : Coded). is_instr x.does ≡ true) (linked_coded ts) (λ x w. instr_linked ts x.does w) c.instructions h.instructions;
  procedures = h.procedures;
  texts = all_linked (λ (x : TextHead). is_text x ≡ true) (linked_text ts) (λ x w. reading_linked ts x.reading w) c.added.texts h.texts;
  stars = h.stars;
}

pub within_with_procedure : (c : CodeView) (p : ProcedureHead) (ps : List ProcedureHead) → ps ≡ c.added.procedures ++ p ∷ [] → IsWithin c → is_procedure p ≡ true → IsWithin (record c { added = record c.added { procedures = ps } })
within_with_procedure c p ps e h w = record {
  instructions = h.instructions;
  procedures = subst (λ l. All (λ (x : ProcedureHead). is_procedure x ≡ true) l) (sym e) (All-push (λ (x : ProcedureHead). is_procedure x ≡ true) c.added.procedures p h.procedures w);
  texts = h.texts;
  stars = h.stars;
}
