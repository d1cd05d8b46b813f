-- Bounds of arrays are coded one by one.
use Rattle.std.proofs.Common.{◌≡◌, ℕ, ◌+◌, ◌<◌, ◌≤◌, max, List, [], ◌∷◌, drop, length, refl, sym, ap, ◌∙◌, subst, arith}
use Rattle.std.specs.Prelude.{slice_index_or}
use Rattle.std.proofs.lemmas.List.{drop_all}
use Rattle.value_ops.specs.declared.places.Place.{Place}
use Rattle.algolw_tree.specs.declared.programs.TypedBound.{TypedBound}
use Rattle.program_meaning.specs.Copying.{dimensions}
use Rattle.program_meaning.specs.Phrases.{Phrase}
use Rattle.phrase_code.specs.Coding.{◌▸◌, code_bounds, one}
use Rattle.phrase_code.specs.Marks.{bounds_marks, marks}
use Rattle.stack_code.specs.Code as code
use Rattle.stack_code.specs.Instr as instr
use Rattle.stack_code.specs.declared.instructions.Instr.{Instr}
use Rattle.stack_code.specs.declared.instructions.Instr.TheVariants as held
use Rattle.stack_code.specs.declared.instructions.Mode.TheVariants as mode
use Rattle.symbol_table.specs.declared.here.Here.{Here}
use Rattle.symbol_table.specs.Contexts.{Scene, coding_context}
use Rattle.symbol_table.proofs.Declaring.{next_out}
use Rattle.code_emitter.specs.declared.emitter.Emitter.{Emitter}
use Rattle.code_emitter.specs.Appending.{appended}
use Rattle.code_emitter.specs.Forms.{Form, before, sized}
use Rattle.code_emitter.specs.Parts.{Codes, Own, code_at, next, none_own, one_in, phrase_in, place_in, scene}
use Rattle.code_emitter.proofs.Composing.{length_code_at}
use Rattle.code_emitter.proofs.Emitting.{joined_assoc, joined_length}
use Rattle.code_emitter.proofs.Joining.{codes_as, codes_is, codes_then_plain}
use Rattle.code_emitter.proofs.Remaining.{Remains, remains_none, remains_part}
use Rattle.stack_codegen.specs.Blocks.{CodesBounds, bounds_phrase}
use Rattle.stack_codegen.specs.Codable.{IsCodable, IsCodableBounds, node_in}
use Rattle.stack_codegen.specs.Operations.{CodesBefore}
use Rattle.stack_codegen.proofs.Parts.{bound_ready}
use Rattle.stack_codegen.proofs.Ready.{ready_after}

-- ---- a phrase and an instruction

pub remains_before : {own : Own} {old now after : Emitter} {whole : List ℕ → List code.Coded} {rest : Form} {marked left m n : ℕ} (here : Here) (x : Phrase) (does : Instr) (more : Form) (less : ℕ) → left ≡ max (marks x) less → ((ts : List ℕ) → rest (scene now) (next now) ts ≡ code_at (scene now) here mode.Value (next now) x ts ▸ one_in (scene now) here ts does ▸ more (scene now) (next now + (sized (scene now) here x ts + 1)) ts) → Remains own old now whole rest marked left m → CodesBefore now after here x does n → Remains own old after whole more marked less (max m n)
remains_before {own} {old} {now} here x does more less most parted r c =
    remains_part (before here x does) more less most
    (λ ts.
    let first : List code.Coded = code_at (scene now) here mode.Value (next now) x ts in
    let one_more : List code.Coded = one_in (scene now) here ts does in
    let l = joined_length first one_more in
    let k = length_code_at (scene now) here mode.Value (next now) x ts in
    let long : sized (scene now) here x ts + 1 ≡ length (first ▸ one_more) = omega (arith, l, k) in
    parted ts ∙ sym (joined_assoc first one_more (more (scene now) (next now + (sized (scene now) here x ts + 1)) ts)) ∙ ap (λ n. (first ▸ one_more) ▸ more (scene now) (next now + n) ts) long) r c

-- the same, with its marks told otherwise
pub remains_most : {own : Own} {old now : Emitter} {whole : List ℕ → List code.Coded} {rest : Form} {marked left m : ℕ} (n : ℕ) → m ≡ n → Remains own old now whole rest marked left m → Remains own old now whole rest marked left n
remains_most {own} {old} {now} {whole} {rest} {marked} {left} n e r = subst (λ k. Remains own old now whole rest marked left k) e r

-- ---- bounds

abbrev pub left_bounds : Here → List TypedBound → Form
left_bounds here bounds s k ts = code_bounds (coding_context s ts here) (place_in s here) k (bounds_phrase s bounds)

abbrev pub marks_of_bounds : Scene → List TypedBound → ℕ
marks_of_bounds s bounds = bounds_marks (bounds_phrase s bounds)

-- its phrases, and what is left behind the first of them
abbrev pub lower : TypedBound → Scene → Phrase
lower x s = phrase_in s (node_in x.lower s)

abbrev pub upper : TypedBound → Scene → Phrase
upper x s = phrase_in s (node_in x.upper s)

abbrev pub left_upper : Here → TypedBound → List TypedBound → Form
left_upper here x rest s k ts = before here (upper x s) held.Push s k ts ▸ left_bounds here rest s (k + (sized s here (upper x s) ts + 1)) ts

parted_lower : (here : Here) (x : TypedBound) (rest : List TypedBound) (s : Scene) (k : ℕ) (ts : List ℕ) → left_bounds here (x ∷ rest) s k ts ≡ code_at s here mode.Value k (lower x s) ts ▸ one_in s here ts held.Push ▸ left_upper here x rest s (k + (sized s here (lower x s) ts + 1)) ts
parted_lower here x rest s k ts =
    let l : List code.Coded = code_at s here mode.Value k (lower x s) ts in
    let p : List code.Coded = one_in s here ts held.Push in
    let u : List code.Coded = code_at s here mode.Value (k + (sized s here (lower x s) ts + 1)) (upper x s) ts in
    let n : ℕ = k + (sized s here (lower x s) ts + (1 + (sized s here (upper x s) ts + 1))) in
    let o : ℕ = k + (sized s here (lower x s) ts + 1) + (sized s here (upper x s) ts + 1) in
    let e : n ≡ o = omega arith in
    ap (λ q. l ▸ p ▸ u ▸ p ▸ code_bounds (coding_context s ts here) (place_in s here) q (bounds_phrase s rest)) e
    ∙ ap (λ q. l ▸ p ▸ q) (sym (joined_assoc u p (left_bounds here rest s o ts)))

-- two phrases more
pub bounds_more : {a now b c : Emitter} {whole : List ℕ → List code.Coded} {marked m lo up : ℕ} (here : Here) (bounds : List TypedBound) (i : ℕ) (x : TypedBound) → i < length bounds → x ≡ slice_index_or bounds i x → Remains none_own a now whole (left_bounds here (drop i bounds)) marked (marks_of_bounds (scene a) (drop i bounds)) m → CodesBefore now b here (lower x (scene now)) held.Push lo → CodesBefore b c here (upper x (scene b)) held.Push up → Remains none_own a c whole (left_bounds here (drop (i + 1) bounds)) marked (marks_of_bounds (scene a) (drop (i + 1) bounds)) (max m (max lo up))
bounds_more {a} {now} {b} {c} {whole} {marked} {m} {lo} {up} here bounds i x l is r first second =
    let rest : List TypedBound = drop (i + 1) bounds in
    let less : ℕ = marks_of_bounds (scene a) rest in
    let out = next_out bounds i x l is in
    let split : marks_of_bounds (scene a) (drop i bounds) ≡ max (marks (lower x (scene now))) (max (marks (upper x (scene a))) less) =
    ap (λ ys. marks_of_bounds (scene a) ys) out ∙ ap (λ (s : Scene). max (marks (lower x s)) (max (marks (upper x (scene a))) less)) (sym r.stays.scene) in
    let half : Remains none_own a b whole (left_upper here x rest) marked (max (marks (upper x (scene a))) less) (max m lo) =
    remains_before here (lower x (scene now)) held.Push (left_upper here x rest) (max (marks (upper x (scene a))) less) split
    (λ ts. ap (λ ys. left_bounds here ys (scene now) (next now) ts) out ∙ parted_lower here x rest (scene now) (next now) ts) r first in
    let again : max (marks (upper x (scene a))) less ≡ max (marks (upper x (scene b))) less = ap (λ (s : Scene). max (marks (upper x s)) less) (sym half.stays.scene) in
    let together : max (max m lo) up ≡ max m (max lo up) = omega arith in
    remains_most (max m (max lo up)) together
    (remains_before here (upper x (scene b)) held.Push (left_bounds here rest) less again
    (λ ts. joined_assoc (code_at (scene b) here mode.Value (next b) (upper x (scene b)) ts) (one_in (scene b) here ts held.Push) (left_bounds here rest (scene b) (next b + (sized (scene b) here (upper x (scene b)) ts + 1)) ts)) half second)

-- what is known of both phrases there
pub lower_ready : {a now : Emitter} {whole : List ℕ → List code.Coded} {rest : Form} {marked left m : ℕ} (bounds : List TypedBound) (i : ℕ) (x : TypedBound) → i < length bounds → x ≡ slice_index_or bounds i x → IsCodableBounds a bounds → Remains none_own a now whole rest marked left m → IsCodable now (node_in x.lower)
lower_ready {a} bounds i x l is r q = ready_after q.stays (bound_ready a bounds i x l is r).0

pub upper_ready : {a now b : Emitter} {whole : List ℕ → List code.Coded} {rest : Form} {marked left m n : ℕ} (here : Here) (bounds : List TypedBound) (i : ℕ) (x : TypedBound) → i < length bounds → x ≡ slice_index_or bounds i x → IsCodableBounds a bounds → Remains none_own a now whole rest marked left m → CodesBefore now b here (lower x (scene now)) held.Push n → IsCodable b (node_in x.upper)
upper_ready {a} here bounds i x l is r q part = ready_after part.stays (ready_after q.stays (bound_ready a bounds i x l is r).1)

-- as many as are written
pub dimensions_same : (s : Scene) (bounds : List TypedBound) → dimensions (bounds_phrase s bounds) ≡ length bounds
dimensions_same s [] = refl
dimensions_same s (b ∷ rest) = let ih = dimensions_same s rest in omega (arith, ih)

pub bounds_done : {a now c : Emitter} {m : ℕ} (here : Here) (bounds : List TypedBound) (i n : ℕ) → length bounds ≤ i → n ≡ length bounds → Remains none_own a now (left_bounds here bounds (scene a) (next a)) (left_bounds here (drop i bounds)) (marks_of_bounds (scene a) bounds) (marks_of_bounds (scene a) (drop i bounds)) m → c ≡ appended now here (held.Bounds n) → CodesBounds a c here bounds m
bounds_done {a} {now} here bounds i n l many r e =
    let none = drop_all i bounds l in
    let w : Place = place_in (scene a) here in
    let part : Codes none_own a now (left_bounds here bounds (scene a) (next a)) (marks_of_bounds (scene a) bounds) _ =
    remains_none (ap (marks_of_bounds (scene a)) none) (λ ts. ap (λ ys. left_bounds here ys (scene now) (next now) ts) none) r in
    codes_as (λ ts. left_bounds here bounds (scene a) (next a) ts ▸ one w (instr.Bounds (dimensions (bounds_phrase (scene a) bounds)))) (marks_of_bounds (scene a) bounds)
    (λ ts h. ap (λ k. left_bounds here bounds (scene a) (next a) ts ▸ one w (instr.Bounds k)) (many ∙ sym (dimensions_same (scene a) bounds))) refl
    (codes_is e (codes_then_plain here (held.Bounds n) refl tt part))
