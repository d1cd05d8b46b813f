-- A list behind a name with what is done with it: its begin, its phrases, and the instruction behind them.
use Rattle.std.proofs.Common.{◌≡◌, ℕ, ◌+◌, Bool, true, false, List, [], ◌∷◌, Option, Some, None, refl, sym, ap, ◌∙◌, subst, arith}
use Rattle.std.specs.Prelude.{option_copied}
use Rattle.std.specs.Borrow.{Bor}
use Rattle.algolw_tree.specs.declared.programs.Node.{Node}
use Rattle.algolw_tree.specs.declared.programs.TypedActual.{TypedActual, Star, Phrase'}
use Rattle.program_meaning.specs.Phrases as phrases
use Rattle.program_meaning.specs.Phrases.{Phrase}
use Rattle.program_meaning.specs.Translating.{first_of, given_of}
use Rattle.phrase_code.specs.Coding.{◌▸◌}
use Rattle.stack_code.specs.CodeView.{CodeFits, InstrFits}
use Rattle.stack_code.specs.declared.instructions.Instr.TheVariants as held
use Rattle.symbol_table.specs.declared.here.Here.{Here}
use Rattle.symbol_table.specs.Contexts.{Scene, numbers_in, phrase_context}
use Rattle.symbol_table.specs.Parts.{actuals_in}
use Rattle.code_emitter.specs.declared.emitter.Emitter.{Emitter}
use Rattle.code_emitter.specs.Appending.{appended}
use Rattle.code_emitter.specs.Forms.{Form}
use Rattle.code_emitter.specs.Parts.{Codes, Stays, is_plain, next, none_own, one_in, phrase_in, scene}
use Rattle.code_emitter.proofs.Composing.{fits_there, stays_appended, stays_itself}
use Rattle.code_emitter.proofs.Emitting.{next_appended}
use Rattle.code_emitter.proofs.Joining.{codes_as, codes_front_plain, codes_is, codes_then_plain}
use Rattle.stack_codegen.specs.declared.lists.ListPlan.{ListPlan}
use Rattle.stack_codegen.specs.declared.lists.ListUse.{ListUse}
use Rattle.stack_codegen.specs.Codable.{IsCodableActuals, IsCodablePerhaps, node_in}
use Rattle.stack_codegen.specs.Listed.{CodesListed, CodesPlan, ListedSuits, UseSuits, begins_code, begins_size, first_phrase, list_begun, listed_code, listed_marks}
use Rattle.stack_codegen.specs.Operations.{CodesBefore, optional_phrase}
use Rattle.stack_codegen.proofs.Parts.{FirstReady, first_ready}
use Rattle.stack_codegen.proofs.Ready.{ready_after}

-- ---- its begin

pub begun_stays : {a b : Emitter} (here : Here) (begins : Bool) → CodeFits a.code → b ≡ list_begun a here begins → Stays none_own a b
begun_stays {a} here begins h e = subst (λ (b : Emitter). Stays none_own a b) (sym e) (by begins)
  where
    by : (o : Bool) → Stays none_own a (list_begun a here o)
    by true = stays_appended none_own a here held.Begin h tt
    by false = stays_itself none_own a h

-- what is told by where it begins, behind it
pub begun_list_codes : {a b d : Emitter} {q n : ℕ} (here : Here) (begins : Bool) (f : Form) → CodeFits a.code → b ≡ list_begun a here begins → Codes none_own b d (f (scene b) (next b)) q n → Codes none_own a d (λ ts. begins_code begins (scene a) here ts ▸ f (scene a) (next a + begins_size begins) ts) q n
begun_list_codes {a} {b} {d} {q} {n} here begins f h e part = by begins (subst (λ (c : Emitter). Codes none_own c d (f (scene c) (next c)) q n) e part)
  where
    by : (o : Bool) → Codes none_own (list_begun a here o) d (f (scene (list_begun a here o)) (next (list_begun a here o))) q n → Codes none_own a d (λ ts. begins_code o (scene a) here ts ▸ f (scene a) (next a + begins_size o) ts) q n
    by true c =
        codes_front_plain here held.Begin refl h tt
        (codes_as (λ ts. f (scene a) (next a + 1) ts) q (λ ts k. ap (λ m. f (scene a) m ts) (next_appended a here held.Begin)) refl c)
    by false c =
        let none : next a ≡ next a + 0 = omega arith in
        codes_as (λ ts. [] ▸ f (scene a) (next a + 0) ts) q (λ ts k. ap (λ m. f (scene a) m ts) none) refl c

-- ---- its first phrase

-- a phrase that may be missing
abbrev pub first_in : Scene → Option Node → Phrase
first_in s None = phrases.Empty
first_in s (Some a) = phrase_in s (node_in a s)

first_given : (s : Scene) (actuals : List TypedActual) → first_in s (first_phrase actuals) ≡ first_of (given_of (phrase_context s) (actuals_in (numbers_in s) actuals))
first_given s [] = refl
first_given s (Star q ∷ rest) = first_given s rest
first_given s (Phrase' p f k g st ∷ rest) = refl

first_held : (s : Scene) (x : Option (Bor Node)) → optional_phrase s x ≡ first_in s (option_copied x)
first_held s None = refl
first_held s (Some a) = refl

held_ready : (e : Emitter) (x : Option (Bor Node)) → FirstReady e (option_copied x) → IsCodablePerhaps e x
held_ready e None r = r
held_ready e (Some a) r = r

pub first_held_ready : {a b : Emitter} (here : Here) (begins : Bool) (use_ : Option ListUse) (x : Option (Bor Node)) (actuals : List TypedActual) → use_ ≡ None → option_copied x ≡ first_phrase actuals → CodeFits a.code → b ≡ list_begun a here begins → IsCodableActuals a actuals (ListedSuits use_) → IsCodablePerhaps b x
first_held_ready {a} {b} here begins use_ x actuals none is h e r =
    held_ready b x (subst (FirstReady b) (sym is) (first_ready b actuals (ready_after (begun_stays here begins h e) (subst (λ o. IsCodableActuals a actuals (ListedSuits o)) none r))))

pub use_ready : {a b : Emitter} (here : Here) (begins : Bool) (use_ : Option ListUse) (u : ListUse) (actuals : List TypedActual) → use_ ≡ Some u → CodeFits a.code → b ≡ list_begun a here begins → IsCodableActuals a actuals (ListedSuits use_) → IsCodableActuals b actuals (UseSuits u)
use_ready {a} {b} here begins use_ u actuals is h e r = ready_after (begun_stays here begins h e) (subst (λ o. IsCodableActuals a actuals (ListedSuits o)) is r)

-- ---- the whole

-- its phrases, and an instruction behind them
abbrev pub listed_form : Here → ListPlan → Option ListUse → List TypedActual → Form
listed_form here plan use_ actuals s k ts = listed_code s here k use_ (actuals_in (numbers_in s) actuals) ts ▸ one_in s here ts plan.does

-- told by the scene that it began in
plan_as : {a b d : Emitter} {m : ℕ} (here : Here) (plan : ListPlan) (use_ : Option ListUse) (actuals : List TypedActual) → plan.list ≡ use_ → CodeFits a.code → b ≡ list_begun a here plan.begins → Codes none_own b d (listed_form here plan use_ actuals (scene b) (next b)) (listed_marks (scene b) use_ (actuals_in (numbers_in (scene b)) actuals)) m → CodesPlan a d here plan actuals m
plan_as {a} {b} {d} {m} here plan use_ actuals is h e part =
    let at : scene b ≡ scene a = (begun_stays here plan.begins h e).scene in
    let whole = begun_list_codes here plan.begins (listed_form here plan use_ actuals) h e part in
    let named : Codes none_own a d (λ ts. begins_code plan.begins (scene a) here ts ▸ listed_form here plan use_ actuals (scene a) (next a + begins_size plan.begins) ts) (listed_marks (scene a) use_ (actuals_in (numbers_in (scene a)) actuals)) m =
    subst (λ (s : Scene). Codes none_own a d (λ ts. begins_code plan.begins (scene a) here ts ▸ listed_form here plan use_ actuals (scene a) (next a + begins_size plan.begins) ts) (listed_marks s use_ (actuals_in (numbers_in s) actuals)) m) at whole in
    subst (λ o. Codes none_own a d (λ ts. begins_code plan.begins (scene a) here ts ▸ listed_form here plan o actuals (scene a) (next a + begins_size plan.begins) ts) (listed_marks (scene a) o (actuals_in (numbers_in (scene a)) actuals)) m) (sym is) named

pub listed_plan : {a b c d : Emitter} {m : ℕ} (here : Here) (plan : ListPlan) (u : ListUse) (actuals : List TypedActual) → plan.list ≡ Some u → is_plain plan.does ≡ true → InstrFits a.code.given a.code.added plan.does → CodeFits a.code → b ≡ list_begun a here plan.begins → CodesListed b c here u actuals m → d ≡ appended c here plan.does → CodesPlan a d here plan actuals m
listed_plan here plan u actuals is plain fits h e part q =
    plan_as here plan (Some u) actuals is h e
    (codes_is q (codes_then_plain here plan.does plain (fits_there plan.does part.stays (fits_there plan.does (begun_stays here plan.begins h e) fits)) part))

pub alone_plan : {a b d : Emitter} {m : ℕ} (here : Here) (plan : ListPlan) (x : Option (Bor Node)) (actuals : List TypedActual) → plan.list ≡ None → option_copied x ≡ first_phrase actuals → CodeFits a.code → b ≡ list_begun a here plan.begins → CodesBefore b d here (optional_phrase (scene b) x) plan.does m → CodesPlan a d here plan actuals m
alone_plan {a} {b} {d} {m} here plan x actuals none is h e part =
    plan_as here plan None actuals none h e
    (subst (λ p. CodesBefore b d here p plan.does m) (first_held (scene b) x ∙ ap (first_in (scene b)) is ∙ first_given (scene b) actuals) part)
