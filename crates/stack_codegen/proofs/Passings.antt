-- How actuals are coded in line for their formals.
use Rattle.std.proofs.Common.{◌≡◌, ℕ, ◌<◌, Bool, List, length, Option, Some, refl, sym, ap, ◌∙◌, subst}
use Rattle.std.specs.Prelude.{⊤}
use Rattle.value_ops.specs.declared.values.SimpleType.{SimpleType}
use Rattle.algolw_typing.specs.Types as types
use Rattle.program_meaning.specs.Copying.{is_variable_of}
use Rattle.program_meaning.specs.Phrases.{Actual}
use Rattle.program_meaning.specs.State.{for_value}
use Rattle.program_meaning.specs.Translating.{subscripts_of}
use Rattle.phrase_code.specs.Coding.{◌▸◌, code_actual, code_subscripts, code_text, hand_on_code, one, stand_of}
use Rattle.phrase_code.specs.Marks.{actual_marks}
use Rattle.stack_code.specs.Code.{Coded}
use Rattle.stack_code.specs.CodeView as view
use Rattle.stack_code.specs.CodeView.{FormalTypeFits, KindFits, KindsFit, formal_type_view, kind_view, kinds_view}
use Rattle.stack_code.specs.Instr as instr
use Rattle.stack_code.specs.declared.heads.FormalType.{FormalType}
use Rattle.stack_code.specs.declared.heads.FormalType.TheVariants as formal
use Rattle.stack_code.specs.declared.instructions.Instr.TheVariants as held
use Rattle.compilable_programs.specs.Suits.{IsPassed}
use Rattle.symbol_table.specs.declared.here.Here.{Here}
use Rattle.symbol_table.specs.Contexts.{Scene, coding_context, numbers_in, phrase_context}
use Rattle.symbol_table.specs.Parts.{actuals_in}
use Rattle.code_emitter.specs.declared.emitter.Emitter.{Emitter}
use Rattle.code_emitter.specs.Appending.{appended, with_aside, with_thunk}
use Rattle.code_emitter.specs.Parts.{Codes, EmitterFits, next, none_own, place_in, scene}
use Rattle.code_emitter.proofs.Composing.{given_there}
use Rattle.code_emitter.proofs.Emitting.{joined_assoc}
use Rattle.code_emitter.proofs.Joining.{codes_as, codes_is, codes_most, codes_next, codes_plain, codes_then_plain}
use Rattle.code_emitter.proofs.Singles.{aside_codes, thunk_codes}
use Rattle.stack_codegen.specs.declared.actuals.ActualKind.{ActualKind}
use Rattle.stack_codegen.specs.declared.actuals.ActualKind.TheVariants as kind
use Rattle.code_emitter.specs.declared.passing.Passing.{Passing}
use Rattle.code_emitter.specs.declared.passing.Passing.TheVariants as passing
use Rattle.stack_codegen.specs.Calls.{GivenFit, IsCodableKind, actual_in, content_code, name_phrase, passing_of, ready_marks}
use Rattle.stack_codegen.proofs.ActualKinds.{gives_same}
use Rattle.stack_codegen.proofs.NamesAlone.{part_in}

-- the types in it are there
abbrev pub PassingFits : view.Given → Passing → Type 0
PassingFits g (passing.Value t) = KindFits g t
PassingFits g (passing.Aside t) = KindFits g t
PassingFits g (passing.Thunk t v) = KindsFit g t
PassingFits g p = ⊤

pub passing_fits : (g : view.Given) (k : ActualKind) (f : FormalType) → FormalTypeFits g f → PassingFits g (passing_of g k f)
passing_fits g (kind.Given x) (formal.Value t) h = h
passing_fits g (kind.Given x) (formal.Result t) h = tt
passing_fits g (kind.Given x) (formal.ValueResult t) h = h
passing_fits g (kind.Given x) (formal.ByName t) h = h
passing_fits g (kind.Given x) (formal.Procedure t) h = h
passing_fits g (kind.Given x) (formal.Array t n) h = tt
passing_fits g (kind.Alone p name) (formal.Value t) h = h
passing_fits g (kind.Alone p name) (formal.Result t) h = tt
passing_fits g (kind.Alone p name) (formal.ValueResult t) h = tt
passing_fits g (kind.Alone p name) (formal.ByName t) h = h
passing_fits g (kind.Alone p name) (formal.Procedure t) h = tt
passing_fits g (kind.Alone p name) (formal.Array t n) h = tt
passing_fits g (kind.Subarray name subscripts) f h = tt

-- the code of an actual that is passed so
abbrev passing_code : Scene → Here → (k : ℕ) → Actual → Passing → List ℕ → List Coded
passing_code s here k a (passing.Value t) ts = content_code (coding_context s ts here) (place_in s here) instr.the_value k a ▸ one (place_in s here) (instr.Make (kind_view s.given t)) ▸ one (place_in s here) instr.Push
passing_code s here k a passing.Reserve ts = one (place_in s here) instr.Reserve
passing_code s here k a (passing.Aside t) ts = code_text (coding_context s ts here) (place_in s here) k a ▸ one (place_in s here) (instr.Aside k for_value (Some (kind_view s.given t))) ▸ one (place_in s here) instr.End ▸ one (place_in s here) instr.Push
passing_code s here k a (passing.Thunk t v) ts = code_text (coding_context s ts here) (place_in s here) k a ▸ one (place_in s here) (instr.MakeThunk k (kinds_view s.given t) v) ▸ one (place_in s here) instr.Push
passing_code s here k a (passing.HandOn name) ts = hand_on_code (coding_context s ts here) (place_in s here) (stand_of (coding_context s ts here) (name_phrase s name)) ▸ one (place_in s here) instr.Push
passing_code s here k a passing.Subarray ts = content_code (coding_context s ts here) (place_in s here) instr.the_value k a ▸ one (place_in s here) instr.Push
passing_code s here k a passing.Stuck ts = one (place_in s here) instr.Stuck

abbrev passing_marks : Actual → Passing → ℕ
passing_marks a (passing.Value t) = actual_marks a
passing_marks a passing.Reserve = 0
passing_marks a (passing.Aside t) = actual_marks a
passing_marks a (passing.Thunk t v) = actual_marks a
passing_marks a (passing.HandOn name) = 0
passing_marks a passing.Subarray = actual_marks a
passing_marks a passing.Stuck = 0

passing_is : (s : Scene) (here : Here) (k : ℕ) (x : ActualKind) (f : FormalType) (ts : List ℕ) → passing_code s here k (actual_in s x) (passing_of s.given x f) ts ≡ code_actual (coding_context s ts here) (place_in s here) k (actual_in s x) (formal_type_view s.given f)
passing_is s here k (kind.Given g) (formal.Value t) ts = refl
passing_is s here k (kind.Given g) (formal.Result t) ts = refl
passing_is s here k (kind.Given g) (formal.ValueResult t) ts = refl
passing_is s here k (kind.Given g) (formal.ByName t) ts =
    ap (λ (x : types.Gives). code_text (coding_context s ts here) (place_in s here) k (actual_in s (kind.Given g)) ▸ one (place_in s here) (instr.MakeThunk k (Some (kind_view s.given t)) (is_variable_of (kind_view s.given t) g.is_variable x)) ▸ one (place_in s here) instr.Push) (sym (gives_same s g.gives))
passing_is s here k (kind.Given g) (formal.Procedure t) ts = refl
passing_is s here k (kind.Given g) (formal.Array t n) ts = refl
passing_is s here k (kind.Alone p name) (formal.Value t) ts = refl
passing_is s here k (kind.Alone p name) (formal.Result t) ts = refl
passing_is s here k (kind.Alone p name) (formal.ValueResult t) ts = refl
passing_is s here k (kind.Alone p name) (formal.ByName t) ts = refl
passing_is s here k (kind.Alone p name) (formal.Procedure t) ts = refl
passing_is s here k (kind.Alone p name) (formal.Array t n) ts = refl
passing_is s here k (kind.Subarray name subscripts) f ts =
    joined_assoc (code_subscripts (coding_context s ts here) (place_in s here) k (subscripts_of (phrase_context s) (actuals_in (numbers_in s) subscripts.now))) (part_in s here name subscripts.now ts) (one (place_in s here) instr.Push)

marks_are : (s : Scene) (x : ActualKind) (f : FormalType) → IsPassed (actual_in s x) (formal_type_view s.given f) → passing_marks (actual_in s x) (passing_of s.given x f) ≡ ready_marks (actual_in s x) (formal_type_view s.given f)
marks_are s (kind.Given g) (formal.Value t) h = refl
marks_are s (kind.Given g) (formal.Result t) h = refl
marks_are s (kind.Given g) (formal.ValueResult t) h = refl
marks_are s (kind.Given g) (formal.ByName t) h = refl
marks_are s (kind.Given g) (formal.Procedure t) h = refl
marks_are s (kind.Given g) (formal.Array t n) h = absurd h
marks_are s (kind.Alone p name) (formal.Value t) h = refl
marks_are s (kind.Alone p name) (formal.Result t) h = refl
marks_are s (kind.Alone p name) (formal.ValueResult t) h = refl
marks_are s (kind.Alone p name) (formal.ByName t) h = refl
marks_are s (kind.Alone p name) (formal.Procedure t) h = refl
marks_are s (kind.Alone p name) (formal.Array t n) h = refl
marks_are s (kind.Subarray name subscripts) f h = refl

-- ---- an actual, however it is passed

-- the code of the actual is that of the phrase, for its formal
pub passed_done : {a b : Emitter} {m : ℕ} (here : Here) (x : ActualKind) (f : FormalType) (p : Passing) (y : Actual) → p ≡ passing_of a.code.given x f → actual_in (scene a) x ≡ y → IsPassed y (formal_type_view a.code.given f) → Codes none_own a b (passing_code (scene a) here (next a) (actual_in (scene a) x) p) (passing_marks (actual_in (scene a) x) p) m
    → Codes none_own a b (λ ts. code_actual (coding_context (scene a) ts here) (place_in (scene a) here) (next a) y (formal_type_view a.code.given f)) (ready_marks y (formal_type_view a.code.given f)) m
passed_done {a} {b} {m} here x f p y is same passed part =
    let s : Scene = scene a in
    subst (λ (z : Actual). Codes none_own a b (λ ts. code_actual (coding_context s ts here) (place_in s here) (next a) z (formal_type_view a.code.given f)) (ready_marks z (formal_type_view a.code.given f)) m) same
    (codes_as (λ ts. code_actual (coding_context s ts here) (place_in s here) (next a) (actual_in s x) (formal_type_view a.code.given f)) (ready_marks (actual_in s x) (formal_type_view a.code.given f))
    (λ ts h. ap (λ (q : Passing). passing_code s here (next a) (actual_in s x) q ts) is ∙ passing_is s here (next a) x f ts)
    (ap (λ (q : Passing). passing_marks (actual_in s x) q) is ∙ marks_are s x f (subst (λ (z : Actual). IsPassed z (formal_type_view a.code.given f)) (sym same) passed))
    part)

-- ---- the ways

pub reserve_done : {a b : Emitter} (here : Here) (x : Actual) → EmitterFits a → b ≡ appended a here held.Reserve → Codes none_own a b (passing_code (scene a) here (next a) x passing.Reserve) (passing_marks x passing.Reserve) 0
reserve_done {a} here x f q = codes_is q (codes_plain none_own a here held.Reserve f.code tt refl)

pub stuck_done : {a b : Emitter} (here : Here) (x : Actual) → EmitterFits a → b ≡ appended a here held.Stuck → Codes none_own a b (passing_code (scene a) here (next a) x passing.Stuck) (passing_marks x passing.Stuck) 0
stuck_done {a} here x f q = codes_is q (codes_plain none_own a here held.Stuck f.code tt refl)

abbrev pub CodesText : (a b : Emitter) → Here → Actual → ℕ → Type 0
CodesText a b here x m = Codes none_own a b (λ ts. code_text (coding_context (scene a) ts here) (place_in (scene a) here) (next a) x) (actual_marks x) m

pub aside_done : {a b c : Emitter} {m : ℕ} (here : Here) (x : Actual) (t : SimpleType) (head : ℕ) → head ≡ next a → KindFits a.code.given t → CodesText a b here x m → c ≡ with_aside b here head t → Codes none_own a c (passing_code (scene a) here (next a) x (passing.Aside t)) (passing_marks x (passing.Aside t)) m
aside_done {a} {b} {c} {m} here x t head at f text q =
    codes_is (q ∙ ap (λ h. with_aside b here h t) at) (codes_most _ _ text.most (codes_next (λ s k ts. one (place_in s here) (instr.Aside (next a) for_value (Some (kind_view s.given t))) ▸ one (place_in s here) instr.End ▸ one (place_in s here) instr.Push) (λ s. 0) text
    (aside_codes b here (next a) t text.stays.fits (subst (λ (s : view.Given). KindFits s t) (sym (given_there text.stays)) f))))

pub thunk_done : {a b c : Emitter} {m : ℕ} (here : Here) (x : Actual) (t : Option SimpleType) (v : Bool) (head : ℕ) → head ≡ next a → KindsFit a.code.given t → CodesText a b here x m → c ≡ with_thunk b here head t v → Codes none_own a c (passing_code (scene a) here (next a) x (passing.Thunk t v)) (passing_marks x (passing.Thunk t v)) m
thunk_done {a} {b} {c} {m} here x t v head at f text q =
    codes_is (q ∙ ap (λ h. with_thunk b here h t v) at) (codes_most _ _ text.most (codes_next (λ s k ts. one (place_in s here) (instr.MakeThunk (next a) (kinds_view s.given t) v) ▸ one (place_in s here) instr.Push) (λ s. 0) text
    (thunk_codes b here (next a) t v text.stays.fits (subst (λ (s : view.Given). KindsFit s t) (sym (given_there text.stays)) f))))

pub part_pushed : {a b c : Emitter} {m : ℕ} (here : Here) (x : Actual) → Codes none_own a b (λ ts. content_code (coding_context (scene a) ts here) (place_in (scene a) here) instr.the_value (next a) x) (actual_marks x) m → c ≡ appended b here held.Push → Codes none_own a c (passing_code (scene a) here (next a) x passing.Subarray) (passing_marks x passing.Subarray) m
part_pushed here x part q = codes_is q (codes_then_plain here held.Push refl tt part)

-- ---- what each way requires

pub hand_on_known : (e : Emitter) (k : ActualKind) (f : FormalType) (name : ℕ) → passing.HandOn name ≡ passing_of e.code.given k f → IsCodableKind e k → name < length e.code.given.names
hand_on_known e (kind.Given g) (formal.Value t) name q r = absurd (cc q)
hand_on_known e (kind.Given g) (formal.Result t) name q r = absurd (cc q)
hand_on_known e (kind.Given g) (formal.ValueResult t) name q r = absurd (cc q)
hand_on_known e (kind.Given g) (formal.ByName t) name q r = absurd (cc q)
hand_on_known e (kind.Given g) (formal.Procedure t) name q r = absurd (cc q)
hand_on_known e (kind.Given g) (formal.Array t n) name q r = absurd (cc q)
hand_on_known e (kind.Alone p other) (formal.Value t) name q r = absurd (cc q)
hand_on_known e (kind.Alone p other) (formal.Result t) name q r = absurd (cc q)
hand_on_known e (kind.Alone p other) (formal.ValueResult t) name q r = absurd (cc q)
hand_on_known e (kind.Alone p other) (formal.ByName t) name q r = absurd (cc q)
hand_on_known e (kind.Alone p other) (formal.Procedure t) name q r = let same : other ≡ name = cc q in subst (λ n. n < length e.code.given.names) same r
hand_on_known e (kind.Alone p other) (formal.Array t n) name q r = let same : other ≡ name = cc q in subst (λ k. k < length e.code.given.names) same r
hand_on_known e (kind.Subarray other subscripts) f name q r = absurd (cc q)

pub gives_fit : (e : Emitter) (k : ActualKind) → IsCodableKind e k → GivenFit e.code.given k
gives_fit e (kind.Given g) r = r.1
gives_fit e (kind.Alone p name) r = tt
gives_fit e (kind.Subarray name subscripts) r = tt

-- the types in a passing that was found
pub found_fits : (g : view.Given) (k : ActualKind) (f : FormalType) (p : Passing) → p ≡ passing_of g k f → FormalTypeFits g f → PassingFits g p
found_fits g k f p q h = subst (PassingFits g) (sym q) (passing_fits g k f h)
