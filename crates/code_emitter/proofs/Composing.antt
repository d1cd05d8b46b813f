-- What stays while parts are coded one behind another.
use Rattle.std.proofs.Common.{◌≡◌, ℕ, zero, suc, ◌+◌, ◌<◌, ◌≤◌, ◌⊎◌, inl, inr, List, [], ◌∷◌, ◌++◌, length, map, replicate, Option, Some, None, refl, sym, ap, ◌∙◌, subst, arith, slice_index_or, slice_set}
use Rattle.std.specs.Prelude.{true, false, nat_le}
use Rattle.std.specs.declared.alloc.Global.{Global}
use Rattle.std.specs.declared.vec.Vec.{Vec}
use Rattle.std.proofs.lemmas.Bool.Decides.{leb_tells}
use Rattle.std.proofs.lemmas.List.{get_or-set_other, get_or-set_same, get_or_append_left, get_or_past, length-append, length-set}
use Rattle.value_ops.specs.declared.places.Place.{Place}
use Rattle.phrase_code.specs.Coding.{Stand, known, known_of}
use Rattle.phrase_code.specs.Sizes as kinds
use Rattle.phrase_code.specs.Sizes.{size}
use Rattle.phrase_code.proofs.Sizes.{code_sized}
use Rattle.program_meaning.specs.Phrases.{Phrase}
use Rattle.stack_code.specs.CodeView.{CodeFits, formal_view, Given, InstrFits, ProcedureFits, TextFits, mode_view, statement_view}
use Rattle.stack_code.specs.Linking.{instruction_at}
use Rattle.stack_code.specs.Making.{coded_at, with_call, with_procedure, with_replaced, with_stars, with_string, with_text}
use Rattle.stack_code.specs.Calls.{ComparedCall}
use Rattle.stack_code.specs.declared.heads.ProcedureHead.{ProcedureHead}
use Rattle.stack_code.specs.declared.heads.Stars.{Stars}
use Rattle.stack_code.specs.declared.heads.TextHead.{TextHead}
use Rattle.stack_code.specs.declared.instructions.Instr.{Instr}
use Rattle.stack_code.specs.declared.instructions.Mode.{Mode}
use Rattle.stack_code.proofs.Keeping.{fits_appended, fits_replaced}
use Rattle.symbol_table.specs.declared.here.Here.{Here}
use Rattle.symbol_table.specs.Standings.{Names}
use Rattle.symbol_table.specs.Symbols.{SymbolsView, formals_of}
use Rattle.symbol_table.specs.declared.standings.Standing.{Standing}
use Rattle.symbol_table.specs.declared.standings.Standing.TheVariants as standing
use Rattle.symbol_table.specs.Contexts.{Scene, SceneFits, coding_context, place_of, stand_and, stands}
use Rattle.code_emitter.specs.Appending.{appended, final_targets, known_target, with_targets}
use Rattle.code_emitter.specs.Parts.{AreOpen, EmitterFits, IsOwn, Meets, Own, Stays, code_at, instr_in, next, none_own, scene}
use Rattle.code_emitter.specs.declared.emitter.Emitter.{Emitter}
use Rattle.code_emitter.proofs.Tables.{call_fits, call_more, fits_later, instr_later, procedure_fits, procedure_more, stars_fit, stars_more, string_fits, string_more, tables_more, tables_same, text_fits, text_more}

-- ---- one's own targets

-- all of one's own targets are among others
abbrev pub Within : Own → Own → Type 0
Within one own = (n : ℕ) → IsOwn one n → IsOwn own n

-- these, and those behind them
abbrev pub and_behind : Own → Own → Own
and_behind one two = record { first = one.first; count = one.count + two.count }

pub none_is_own : (n : ℕ) → IsOwn none_own n → ⊥
none_is_own n h = let a = h.0 in let b = h.1 in omega (arith, a, b)

pub none_within : (own : Own) → Within none_own own
none_within own n h = absurd (none_is_own n h)

pub front_within : (one two : Own) → Within one (and_behind one two)
front_within one two n h = let a : one.first ≤ n = h.0 in let b : n < one.first + one.count = h.1 in (a, omega (arith, b))

pub behind_within : (one two : Own) → one.first + one.count ≡ two.first → Within two (and_behind one two)
behind_within one two e n h = let a : two.first ≤ n = h.0 in let b : n < two.first + two.count = h.1 in (omega (arith, a, e), omega (arith, b, e))

own_or_not : (own : Own) (n : ℕ) → IsOwn own n ⊎ (IsOwn own n → ⊥)
own_or_not own n = by (leb_tells own.first n) (leb_tells (suc n) (own.first + own.count))
  where
    by : ((nat_le own.first n ≡ true) × (own.first ≤ n)) ⊎ ((nat_le own.first n ≡ false) × (n < own.first)) → ((nat_le (suc n) (own.first + own.count) ≡ true) × (suc n ≤ own.first + own.count)) ⊎ ((nat_le (suc n) (own.first + own.count) ≡ false) × (own.first + own.count < suc n)) → IsOwn own n ⊎ (IsOwn own n → ⊥)
    by (inl x) (inl y) = let a = x.1 in let b = y.1 in inl (a, omega (arith, b))
    by (inl x) (inr y) = inr (λ h. let a = y.1 in let b = h.1 in omega (arith, a, b))
    by (inr x) y = inr (λ h. let a = x.1 in let b = h.0 in omega (arith, a, b))

-- ---- one part behind another

pub stays_itself : (own : Own) (e : Emitter) → CodeFits e.code → Stays own e e
stays_itself own e h = record { scene = refl; tables = tables_same e.code.added; pending = refl; longer = omega arith; others = λ n l o. refl; fits = h }

pub stays_joined : {one two own : Own} {a b c : Emitter} → Within one own → Within two own → Stays one a b → Stays two b c → Stays own a c
stays_joined {one} {two} {own} {a} {b} {c} v w x y =
    let l = x.longer in
    let m = y.longer in
    record {
      scene = y.scene ∙ x.scene;
      tables = tables_more a.code.added b.code.added c.code.added x.tables y.tables;
      pending = y.pending ∙ x.pending;
      longer = omega (arith, l, m);
      others = λ n i o. y.others n (omega (arith, i, l)) (λ h. o (w n h)) ∙ x.others n i (λ h. o (v n h));
      fits = y.fits;
    }

pub stays_wider : {one own : Own} {a b : Emitter} → Within one own → Stays one a b → Stays own a b
stays_wider w x = record { scene = x.scene; tables = x.tables; pending = x.pending; longer = x.longer; others = λ n i o. x.others n i (λ h. o (w n h)); fits = x.fits }

pub stays_then : {own : Own} {a b c : Emitter} → Stays own a b → Stays none_own b c → Stays own a c
stays_then {own} x y = stays_joined (λ n h. h) (none_within own) x y

pub stays_behind : {own : Own} {a b c : Emitter} → Stays none_own a b → Stays own b c → Stays own a c
stays_behind {own} x y = stays_joined (none_within own) (λ n h. h) x y

pub stays_both : {own : Own} {a b c : Emitter} → Stays own a b → Stays own b c → Stays own a c
stays_both x y = stays_joined (λ n h. h) (λ n h. h) x y

pub stays_neighbours : {one two : Own} {a b c : Emitter} → one.first + one.count ≡ two.first → Stays one a b → Stays two b c → Stays (and_behind one two) a c
stays_neighbours {one} {two} e x y = stays_joined (front_within one two) (behind_within one two e) x y

-- to those outside, targets that weren't there are nobody's
pub stays_closed : {own : Own} {a b : Emitter} → length a.targets.items ≤ own.first → Stays own a b → Stays none_own a b
stays_closed l x = record { scene = x.scene; tables = x.tables; pending = x.pending; longer = x.longer; others = λ n i o. x.others n i (λ h. let a = h.0 in omega (arith, a, i, l)); fits = x.fits }

-- what is pending may be other in both
pub stays_pending : {own : Own} {a b : Emitter} (p q : Vec ℕ Global) → q.items ≡ p.items → Stays own a b → Stays own (record a { pending = p }) (record b { pending = q })
stays_pending p q e x = record { scene = x.scene; tables = x.tables; pending = e; longer = x.longer; others = x.others; fits = x.fits }

-- and so may what is known of names
pub stays_symbols : {own : Own} {a b : Emitter} (s t : SymbolsView) → t ≡ s → Stays own a b → Stays own (record a { symbols = s }) (record b { symbols = t })
stays_symbols {own} {a} {b} s t e x = record {
  scene = ap (λ (g : Given). scene (record b { code = record b.code { given = g }; symbols = t })) (ap (λ (v : Scene). v.given) x.scene) ∙ ap (λ (v : SymbolsView). scene (record a { symbols = v })) e;
  tables = x.tables;
  pending = x.pending;
  longer = x.longer;
  others = x.others;
  fits = x.fits;
}

-- ---- single steps

pub stays_appended : (own : Own) (e : Emitter) (here : Here) (does : Instr) → CodeFits e.code → InstrFits e.code.given e.code.added does → Stays own e (appended e here does)
stays_appended own e here does h f = record { scene = refl; tables = tables_same e.code.added; pending = refl; longer = omega arith; others = λ n l o. refl; fits = fits_appended e.code (record { at = here.statement; does = does }) _ refl h f }

pub stays_replaced : (own : Own) (e : Emitter) (n : ℕ) (does : Instr) → CodeFits e.code → InstrFits e.code.given e.code.added does → Stays own e (record e { code = with_replaced e.code n does })
stays_replaced own e n does h f = record { scene = refl; tables = tables_same e.code.added; pending = refl; longer = omega arith; others = λ n l o. refl; fits = fits_replaced e.code n (record { at = (coded_at e.code n).at; does = does }) h f }

pub stays_string : (own : Own) (e : Emitter) (text : List ℕ) → CodeFits e.code → Stays own e (record e { code = with_string e.code text })
stays_string own e text h = record { scene = refl; tables = string_more e.code.added text; pending = refl; longer = omega arith; others = λ n l o. refl; fits = string_fits e.code text h }

pub stays_procedure : (own : Own) (e : Emitter) (head : ProcedureHead) → CodeFits e.code → ProcedureFits e.code.given head → Stays own e (record e { code = with_procedure e.code head })
stays_procedure own e head h f = record { scene = refl; tables = procedure_more e.code.added head; pending = refl; longer = omega arith; others = λ n l o. refl; fits = procedure_fits e.code head h f }

pub stays_text : (own : Own) (e : Emitter) (head : TextHead) → CodeFits e.code → TextFits e.code.given head → Stays own e (record e { code = with_text e.code head })
stays_text own e head h f = record { scene = refl; tables = text_more e.code.added head; pending = refl; longer = omega arith; others = λ n l o. refl; fits = text_fits e.code head h f }

pub stays_call : (own : Own) (e : Emitter) (call : ComparedCall) → CodeFits e.code → Stays own e (record e { code = with_call e.code call })
stays_call own e call h = record { scene = refl; tables = call_more e.code.added call; pending = refl; longer = omega arith; others = λ n l o. refl; fits = call_fits e.code call h }

pub stays_stars : (own : Own) (e : Emitter) (stars : Stars) → CodeFits e.code → Stays own e (record e { code = with_stars e.code stars })
stays_stars own e stars h = record { scene = refl; tables = stars_more e.code.added stars; pending = refl; longer = omega arith; others = λ n l o. refl; fits = stars_fit e.code stars h }

-- targets more, of which nothing is known
pub stays_targets : (e : Emitter) (v : Vec (Option ℕ) Global) (n : ℕ) → CodeFits e.code → v.items ≡ e.targets.items ++ replicate n None → Stays none_own e (with_targets e v)
stays_targets e v n h q =
    let l = ap length q ∙ length-append e.targets.items (replicate n None) in
    record {
      scene = refl;
      tables = tables_same e.code.added;
      pending = refl;
      longer = omega (arith, l);
      others = λ k i o. ap (λ xs. slice_index_or xs k None) q ∙ get_or_append_left e.targets.items (replicate n None) None k i;
      fits = h;
    }

-- one of one's own targets is placed
pub stays_placed : (own : Own) (e : Emitter) (v : Vec (Option ℕ) Global) (target at : ℕ) → CodeFits e.code → IsOwn own target → v.items ≡ slice_set e.targets.items target (Some at) → Stays own e (with_targets e v)
stays_placed own e v target at h mine q =
    let l = ap length q ∙ length-set e.targets.items target (Some at) in
    record {
      scene = refl;
      tables = tables_same e.code.added;
      pending = refl;
      longer = omega (arith, l);
      others = λ k i o. ap (λ xs. slice_index_or xs k None) q ∙ get_or-set_other e.targets.items target k (Some at) None (λ s. o (subst (IsOwn own) (sym s) mine));
      fits = h;
    }

-- ---- targets that are known

pub open_none : (targets : List (Option ℕ)) → AreOpen none_own targets
open_none targets n h = absurd (none_is_own n h)

pub open_within : (one own : Own) (targets : List (Option ℕ)) → Within one own → AreOpen own targets → AreOpen one targets
open_within one own targets w h n o = h n (w n o)

unknown : (n k : ℕ) → slice_index_or {A = Option ℕ} (replicate n None) k None ≡ None
unknown zero k = refl
unknown (suc n) zero = refl
unknown (suc n) (suc k) = unknown n k

unknown_behind : (before : List (Option ℕ)) (n k : ℕ) → length before ≤ k → slice_index_or (before ++ replicate n None) k None ≡ None
unknown_behind [] n k l = unknown n k
unknown_behind (t ∷ before) n zero l = absurd (omega (arith, l))
unknown_behind (t ∷ before) n (suc k) l = unknown_behind before n k (omega (arith, l))

-- targets that were added just now
pub open_new : (before after : List (Option ℕ)) (n : ℕ) → after ≡ before ++ replicate n None → AreOpen (record { first = length before; count = n }) after
open_new before after n e k o = ap (λ xs. slice_index_or xs k None) e ∙ unknown_behind before n k o.0

-- targets stay open while a part is coded whose own they are not
pub open_after : (own : Own) {other : Own} {a b : Emitter} → own.first + own.count ≤ length a.targets.items → ((n : ℕ) → IsOwn own n → IsOwn other n → ⊥) → Stays other a b → AreOpen own a.targets.items → AreOpen own b.targets.items
open_after own l apart x h n o = let i = o.1 in x.others n (omega (arith, i, l)) (apart n o) ∙ h n o

module _ (own : Own) (a b : Emitter) (ts : List ℕ) (x : Stays own a b) (open_ : AreOpen own a.targets.items) (meets : Meets b.targets.items ts) where
  nothing : {v : ℕ} (P : Type 0) → None ≡ Some v → P
  nothing P e = absurd (cc)

  known_before : (n v : ℕ) → slice_index_or a.targets.items n None ≡ Some v → IsOwn own n ⊎ (IsOwn own n → ⊥) → ((nat_le (length a.targets.items) n ≡ true) × (length a.targets.items ≤ n)) ⊎ ((nat_le (length a.targets.items) n ≡ false) × (n < length a.targets.items)) → instruction_at ts n ≡ v
  known_before n v e (inl o) t = nothing (instruction_at ts n ≡ v) (sym (open_ n o) ∙ e)
  known_before n v e (inr o) (inl t) = nothing (instruction_at ts n ≡ v) (sym (get_or_past a.targets.items n None t.1) ∙ e)
  known_before n v e (inr o) (inr t) = meets n v (x.others n t.1 o ∙ e)

-- instructions that meet what is known of targets behind a part meet what was known before it
pub meets_before : {own : Own} {a b : Emitter} (ts : List ℕ) → Stays own a b → AreOpen own a.targets.items → Meets b.targets.items ts → Meets a.targets.items ts
meets_before {own} {a} {b} ts x o m n v e = known_before own a b ts x o m n v e (own_or_not own n) (leb_tells (length a.targets.items) n)

pub meets_none : {a b : Emitter} (ts : List ℕ) → Stays none_own a b → Meets b.targets.items ts → Meets a.targets.items ts
meets_none {a} ts x m = meets_before ts x (open_none a.targets.items) m

-- there are such instructions
found_final : (targets : List (Option ℕ)) (n v k : ℕ) → slice_index_or targets n None ≡ Some v → slice_index_or (final_targets targets) n k ≡ v
found_final [] n v k e = absurd (cc)
found_final (t ∷ targets) zero v k e = ap known_target e
found_final (t ∷ targets) (suc n) v k e = found_final targets n v k e

pub meets_final : (targets : List (Option ℕ)) → Meets targets (final_targets targets)
meets_final targets n v e = found_final targets n v n e

-- where a target was placed
pub placed_met : (before after : List (Option ℕ)) (target at : ℕ) (ts : List ℕ) → after ≡ slice_set before target (Some at) → target < length before → Meets after ts → instruction_at ts target ≡ at
placed_met before after target at ts e l m = m target at (ap (λ xs. slice_index_or xs target None) e ∙ get_or-set_same before target (Some at) None l)

-- ---- what fits

pub given_there : {own : Own} {a b : Emitter} → Stays own a b → b.code.given ≡ a.code.given
given_there x = ap (λ (s : Scene). s.given) x.scene

pub fits_there : {own : Own} {a b : Emitter} (does : Instr) → Stays own a b → InstrFits a.code.given a.code.added does → InstrFits b.code.given b.code.added does
fits_there {own} {a} {b} does x f = subst (λ (g : Given). InstrFits g b.code.added does) (sym (given_there x)) (fits_later a.code.given a.code.added b.code.added does x.tables f)

-- an instruction is what it was
pub instr_there : {own : Own} {a b : Emitter} (ts : List ℕ) (does : Instr) → Stays own a b → InstrFits a.code.given a.code.added does → instr_in b ts does ≡ instr_in a ts does
instr_there {own} {a} {b} ts does x f = ap (λ (g : Given). instr_in (record b { code = record b.code { given = g } }) ts does) (given_there x) ∙ instr_later a.code.given a.code.added b.code.added ts does x.tables f

pub fits_after : {own : Own} {a b : Emitter} → Stays own a b → EmitterFits a → EmitterFits b
fits_after x h = record { scene = subst SceneFits (sym x.scene) h.scene; code = x.fits }

-- ---- the code of a phrase

pub code_moved : (b : Emitter) (s : Scene) (here : Here) (mode : Mode) (k : ℕ) (a : Phrase) (ts : List ℕ) → scene b ≡ s → next b ≡ k → code_at (scene b) here mode (next b) a ts ≡ code_at s here mode k a ts
code_moved b s here mode k a ts e i = ap (λ (t : Scene). code_at t here mode (next b) a ts) e ∙ ap (λ n. code_at s here mode n a ts) i

pub length_code_at : (s : Scene) (here : Here) (mode : Mode) (k : ℕ) (a : Phrase) (ts : List ℕ) → length (code_at s here mode k a ts) ≡ size (known (coding_context s ts here)) a
length_code_at s here mode k a ts = (code_sized (coding_context s ts here) (statement_view s.given here.statement) (mode_view mode) k a).by

-- what is known of names is the same with whichever instructions at the targets
stand_known : (s : Scene) (ts us : List ℕ) (p : Place) (x : Standing) (more less : List Stand) → map known_of more ≡ map known_of less → map known_of (stand_and s ts p x more) ≡ map known_of (stand_and s us p x less)
stand_known s ts us p (standing.Variable t e) more less q = ap (λ l. record { place = p; kind = kinds.a_variable } ∷ l) q
stand_known s ts us p (standing.NameFormal t e) more less q = ap (λ l. record { place = p; kind = kinds.a_name_formal } ∷ l) q
stand_known s ts us p (standing.Control e) more less q = ap (λ l. record { place = p; kind = kinds.a_variable } ∷ l) q
stand_known s ts us p (standing.Array t e) more less q = ap (λ l. record { place = p; kind = kinds.an_array } ∷ l) q
stand_known s ts us p (standing.ProcedureFormal t e) more less q = ap (λ l. record { place = p; kind = kinds.a_procedure_formal } ∷ l) q
stand_known s ts us p (standing.Procedure x) more less q = ap (λ l. record { place = p; kind = kinds.a_procedure (map (formal_view s.given) (formals_of s.symbols x)) } ∷ l) q
stand_known s ts us p (standing.Label e target) more less q = ap (λ l. record { place = p; kind = kinds.a_label } ∷ l) q
stand_known s ts us p _ more less q = q

stands_known : (s : Scene) (ts us : List ℕ) (names : Names) → map known_of (stands s ts names) ≡ map known_of (stands s us names)
stands_known s ts us [] = refl
stands_known s ts us (x ∷ names) = stand_known s ts us (place_of s x.0) x.1 (stands s ts names) (stands s us names) (stands_known s ts us names)

pub known_anywhere : (s : Scene) (here : Here) (ts us : List ℕ) → known (coding_context s ts here) ≡ known (coding_context s us here)
known_anywhere s here ts us = stands_known s ts us s.symbols.names
