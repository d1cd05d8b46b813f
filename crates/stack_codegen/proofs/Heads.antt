-- The preparing of actuals by the heads of their texts.
use Rattle.std.proofs.Common.{◌≡◌, ℕ, zero, suc, ◌+◌, ◌<◌, ◌≤◌, List, [], ◌∷◌, ◌++◌, length, map, take, length-take, refl, sym, ap, ◌∙◌, subst, arith}
use Rattle.std.specs.Prelude.{slice_index_or}
use Rattle.std.proofs.lemmas.List.{take_all, take_more}
use Rattle.value_ops.specs.declared.places.Place.{Place}
use Rattle.program_meaning.specs.Phrases.{Actuals, no_actuals, actual_and}
use Rattle.phrase_code.specs.Coding.{◌▸◌, one, prepares_code, text_heads}
use Rattle.phrase_code.specs.Sizes.{Known, text_of_size}
use Rattle.stack_code.specs.Code.{Coded}
use Rattle.stack_code.specs.Instr as instr
use Rattle.stack_code.specs.CodeView.{Added, CallView, CodeFits, InstrFits, call_of, call_view, no_call}
use Rattle.stack_code.specs.Linking.{linked_added, linked_call}
use Rattle.stack_code.specs.Calls.{ComparedCall}
use Rattle.stack_code.specs.declared.instructions.Instr.TheVariants as held
use Rattle.symbol_table.specs.declared.here.Here.{Here}
use Rattle.code_emitter.specs.declared.emitter.Emitter.{Emitter}
use Rattle.code_emitter.specs.Appending.{appended}
use Rattle.code_emitter.specs.Parts.{Codes, TablesGrow, none_own, place_in, scene}
use Rattle.code_emitter.proofs.Composing.{fits_there}
use Rattle.code_emitter.proofs.Joining.{codes_as, codes_is, codes_nothing, codes_then_one, codes_then_plain}
use Rattle.code_emitter.proofs.Emitting.{joined_assoc}
use Rattle.code_emitter.proofs.Tables.{call_later}
use Rattle.stack_codegen.specs.Calls.{compared_call, heads_prepared}

pub heads_are : (names : List Known) (w : Place) (s : instr.Source) (i k : ℕ) (given : Actuals) → heads_prepared w s i (text_heads names k given) ≡ prepares_code names w s i k given
heads_are names w s i k no_actuals = refl
heads_are names w s i k (actual_and a rest) = ap (λ l. one w (instr.Prepare s i k) ▸ one w instr.End ▸ one w instr.Push ▸ l) (heads_are names w s (i + 1) (k + text_of_size names a) rest)

-- one more
pub heads_more : (w : Place) (s : instr.Source) (i k : ℕ) (heads : List ℕ) → heads_prepared w s i (heads ++ k ∷ []) ≡ heads_prepared w s i heads ▸ one w (instr.Prepare s (i + length heads) k) ▸ one w instr.End ▸ one w instr.Push
heads_more w s i k [] = let e : i ≡ i + 0 = omega arith in ap (λ n. one w (instr.Prepare s n k) ▸ one w instr.End ▸ one w instr.Push) e
heads_more w s i k (h ∷ heads) =
    let e : i + 1 + length heads ≡ i + length (h ∷ heads) = omega arith in
    ap (λ l. one w (instr.Prepare s i h) ▸ one w instr.End ▸ one w instr.Push ▸ l) (heads_more w s (i + 1) k heads ∙ ap (λ n. heads_prepared w s (i + 1) heads ▸ one w (instr.Prepare s n k) ▸ one w instr.End ▸ one w instr.Push) e)

-- ---- one by one

heads_any : (calls : List ComparedCall) (n : ℕ) (ts : List ℕ) → (slice_index_or (map call_view (map (linked_call ts) calls)) n no_call).heads ≡ (slice_index_or (map call_view calls) n no_call).heads
heads_any [] n ts = refl
heads_any (c ∷ calls) zero ts = refl
heads_any (c ∷ calls) (suc n) ts = heads_any calls n ts

-- a call that was added has the same heads, whatever is added since
pub heads_later : (a b : Added) (call : ℕ) (ts : List ℕ) → TablesGrow a b → call < length a.calls → (call_of b call).heads ≡ (call_of (linked_added ts a) call).heads
heads_later a b call ts w l = sym (heads_any b.calls call ts) ∙ ap (λ (v : CallView). v.heads) (call_later a b ts call w l)

pub heads_as : (a : Emitter) (call : ℕ) (ts us : List ℕ) → (compared_call a ts call).heads ≡ (compared_call a us call).heads
heads_as a call ts us = heads_any a.code.added.calls call ts ∙ sym (heads_any a.code.added.calls call us)

-- what is prepared, the first so many
abbrev pub prepared : Emitter → Here → (call n : ℕ) → List ℕ → List Coded
prepared a here call n ts = heads_prepared (place_in (scene a) here) (compared_call a ts call).source 0 (take n (compared_call a ts call).heads)

pub prepared_more : {a b c d e : Emitter} (here : Here) (call n : ℕ) → call < length a.code.added.calls → n < length (compared_call a [] call).heads → InstrFits b.code.given b.code.added (held.Prepare call n) → Codes none_own a b (prepared a here call n) 0 0 → c ≡ appended b here (held.Prepare call n) → d ≡ appended c here held.End → e ≡ appended d here held.Push → Codes none_own a e (prepared a here call (n + 1)) 0 0
prepared_more {a} {b} here call n there l fits part qc qd qe =
    codes_as (prepared a here call (n + 1)) 0 (λ ts h. same ts) refl
    (codes_is qe (codes_then_plain here held.Push refl tt (codes_is qd (codes_then_plain here held.End refl tt (codes_is qc (codes_then_one here (held.Prepare call n) fits part))))))
  where
    same : (ts : List ℕ) → ((prepared a here call n ts ▸ one (place_in (scene a) here) (instr.Prepare (call_of (linked_added ts b.code.added) call).source n (slice_index_or (call_of (linked_added ts b.code.added) call).heads n 0))) ▸ one (place_in (scene a) here) instr.End) ▸ one (place_in (scene a) here) instr.Push ≡ prepared a here call (n + 1) ts
    same ts =
        let w : Place = place_in (scene a) here in
        let v : CallView = compared_call a ts call in
        let first : List Coded = prepared a here call n ts in
        let longer : n < length v.heads = subst (λ (hs : List ℕ). n < length hs) (heads_as a call [] ts) l in
        let whole : 0 + length (take n v.heads) ≡ n = omega (arith, length-take n v.heads, longer) in
        joined_assoc (first ▸ one w (instr.Prepare (call_of (linked_added ts b.code.added) call).source n (slice_index_or (call_of (linked_added ts b.code.added) call).heads n 0))) (one w instr.End) (one w instr.Push)
        ∙ joined_assoc first (one w (instr.Prepare (call_of (linked_added ts b.code.added) call).source n (slice_index_or (call_of (linked_added ts b.code.added) call).heads n 0))) (one w instr.End ▸ one w instr.Push)
        ∙ ap (λ (c : CallView). first ▸ one w (instr.Prepare c.source n (slice_index_or c.heads n 0)) ▸ one w instr.End ▸ one w instr.Push) (call_later a.code.added b.code.added ts call part.stays.tables there)
        ∙ ap (λ i. first ▸ one w (instr.Prepare v.source i (slice_index_or v.heads n 0)) ▸ one w instr.End ▸ one w instr.Push) (sym whole)
        ∙ sym (heads_more w v.source 0 (slice_index_or v.heads n 0) (take n v.heads))
        ∙ ap (heads_prepared w v.source 0) (sym (take_more v.heads n 0 longer))

pub prepared_none : (a : Emitter) (here : Here) (call : ℕ) → CodeFits a.code → Codes none_own a a (prepared a here call 0) 0 0
prepared_none a here call h = codes_nothing none_own a h

-- each may be prepared
pub prepare_fits : {a b : Emitter} (here : Here) (call n count : ℕ) → call < length a.code.added.calls → count ≡ length (compared_call a [] call).heads → n < count → Codes none_own a b (prepared a here call n) 0 0 → InstrFits b.code.given b.code.added (held.Prepare call n)
prepare_fits {a} {b} here call n count there counted l part =
    let same : (call_of b.code.added call).heads ≡ (compared_call a [] call).heads = heads_later a.code.added b.code.added call [] part.stays.tables there in
    let inside : n < length (compared_call a [] call).heads = omega (arith, counted, l) in
    (fits_there {a = a} {b = b} (held.Compare call) part.stays there, subst (λ (hs : List ℕ). n < length hs) (sym same) inside)

-- until all are
pub prepared_all : {a b : Emitter} (here : Here) (call n count : ℕ) → count ≡ length (compared_call a [] call).heads → count ≤ n → Codes none_own a b (prepared a here call n) 0 0 → Codes none_own a b (λ ts. heads_prepared (place_in (scene a) here) (compared_call a ts call).source 0 (compared_call a ts call).heads) 0 0
prepared_all {a} here call n count counted l part =
    codes_as (λ ts. heads_prepared (place_in (scene a) here) (compared_call a ts call).source 0 (compared_call a ts call).heads) 0
    (λ ts h.
    let same : length (compared_call a ts call).heads ≡ length (compared_call a [] call).heads = ap length (heads_as a call ts []) in
    let few : length (compared_call a ts call).heads ≤ n = omega (arith, same, counted, l) in
    ap (heads_prepared (place_in (scene a) here) (compared_call a ts call).source 0) (take_all n (compared_call a ts call).heads few)) refl part
