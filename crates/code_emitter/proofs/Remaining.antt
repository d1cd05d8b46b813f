-- Parts that are coded one by one: what is coded by now, with what is left, is the whole.
use Rattle.std.proofs.Common.{◌≡◌, ℕ, ◌+◌, ◌<◌, max, List, [], ◌∷◌, ◌++◌, length, refl, sym, ap, ◌∙◌, subst, arith, slice_index_or, slice_set}
use Rattle.std.specs.Prelude.{true}
use Rattle.std.proofs.lemmas.List.{append_assoc, get_or_append_left, length-append, set-append_left}
use Rattle.std.proofs.Math.Seq.{get_or-append_seam, set-append_seam}
use Rattle.value_ops.specs.declared.places.Place.{Place}
use Rattle.phrase_code.specs.Coding.{◌▸◌, known, one}
use Rattle.phrase_code.specs.Marks.{marks}
use Rattle.phrase_code.specs.Sizes.{size}
use Rattle.program_meaning.specs.Phrases.{Phrase}
use Rattle.stack_code.specs.Code as code
use Rattle.stack_code.specs.CodeView.{CodeFits, InstrFits}
use Rattle.stack_code.specs.Instr as instr
use Rattle.stack_code.specs.declared.instructions.Instr.{Instr}
use Rattle.stack_code.specs.declared.instructions.Mode.{Mode}
use Rattle.symbol_table.specs.Contexts.{coding_context}
use Rattle.symbol_table.specs.declared.here.Here.{Here}
use Rattle.code_emitter.specs.Appending.{appended, replaced}
use Rattle.code_emitter.specs.Forms.{Form}
use Rattle.code_emitter.specs.Parts.{AreOpen, Codes, CodesPhrase, Meets, Own, Stays, code_at, instr_in, is_plain, linked_code, next, none_own, one_in, scene}
use Rattle.code_emitter.specs.declared.emitter.Emitter.{Emitter}
use Rattle.code_emitter.proofs.Composing.{Within, fits_there, length_code_at, meets_before, none_within, open_none, stays_itself, stays_joined, stays_replaced}
use Rattle.code_emitter.proofs.Emitting.{joined_assoc, joined_is, joined_length, joined_none, next_linked, next_replaced, replaced_code}
use Rattle.code_emitter.proofs.Joining.{codes_is, codes_then_plain, next_behind}
use Rattle.code_emitter.proofs.Lines.{before_codes}

-- The instructions by now and what is left are those before and the whole, and so are the marks.
pub record Remains (own : Own) (old now : Emitter) (whole : List ℕ → List code.Coded) (rest : Form) (marked left m : ℕ) : Type 0 where
  pub stays : Stays own old now
  pub behind : (ts : List ℕ) → Meets now.targets.items ts → linked_code ts now ++ rest (scene now) (next now) ts ≡ linked_code ts old ++ whole ts
  pub most : max m left ≡ marked

-- at first all is left
pub remains_all : (own : Own) (e : Emitter) (rest : Form) (left : ℕ) → CodeFits e.code → Remains own e e (rest (scene e) (next e)) rest left left 0
remains_all own e rest left h = record { stays = stays_itself own e h; behind = λ ts k. refl; most = omega arith }

-- or all that is behind a part
pub remains_behind : {own : Own} {a b : Emitter} {x : List ℕ → List code.Coded} {p m : ℕ} (rest : Form) (left : ℕ) → Codes own a b x p m → Remains own a b (λ ts. x ts ▸ rest (scene a) (next a + length (x ts)) ts) rest (max p left) left m
remains_behind {own} {a} {b} {x} rest left c = record {
  stays = c.stays;
  behind = λ ts h.
      ap (λ l. l ++ rest (scene b) (next b) ts) (c.behind ts h)
      ∙ append_assoc (linked_code ts a) (x ts) (rest (scene b) (next b) ts)
      ∙ ap (λ s. linked_code ts a ++ (x ts ++ rest s (next b) ts)) c.stays.scene
      ∙ ap (λ k. linked_code ts a ++ (x ts ++ rest (scene a) k ts)) (next_behind ts c h)
      ∙ ap (λ l. linked_code ts a ++ l) (sym (joined_is (x ts) (rest (scene a) (next a + length (x ts)) ts)));
  most = ap (λ k. max k left) c.most;
}

-- the whole told otherwise, and what is left
pub remains_as : {own : Own} {old now : Emitter} {whole : List ℕ → List code.Coded} {rest : Form} {marked left m : ℕ} (all : List ℕ → List code.Coded) → ((ts : List ℕ) → Meets now.targets.items ts → whole ts ≡ all ts) → Remains own old now whole rest marked left m → Remains own old now all rest marked left m
remains_as {own} {old} all same r = record { stays = r.stays; behind = λ ts h. r.behind ts h ∙ ap (λ l. linked_code ts old ++ l) (same ts h); most = r.most }

pub remains_left : {own : Own} {old now : Emitter} {whole : List ℕ → List code.Coded} {rest : Form} {marked left m : ℕ} (other : Form) (less : ℕ) → ((ts : List ℕ) → rest (scene now) (next now) ts ≡ other (scene now) (next now) ts) → left ≡ less → Remains own old now whole rest marked left m → Remains own old now whole other marked less m
remains_left {own} {old} {now} {whole} {rest} {marked} {left} {m} other less same marks r = record { stays = r.stays; behind = λ ts h. ap (λ l. linked_code ts now ++ l) (sym (same ts)) ∙ r.behind ts h; most = ap (λ k. max m k) (sym marks) ∙ r.most }

-- then part by part is coded
pub remains_joined : {two own : Own} {old now after : Emitter} {whole : List ℕ → List code.Coded} {rest : Form} {marked left m q n : ℕ} (part more : Form) (less : ℕ) → Within two own → AreOpen two now.targets.items → left ≡ max q less → ((ts : List ℕ) → rest (scene now) (next now) ts ≡ part (scene now) (next now) ts ▸ more (scene now) (next now + length (part (scene now) (next now) ts)) ts) → Remains own old now whole rest marked left m → Codes two now after (part (scene now) (next now)) q n → Remains own old after whole more marked less (max m n)
remains_joined {two} {own} {old} {now} {after} {whole} {rest} {marked} {left} {m} {q} {n} part more less w open_ marks parted r c = record {
  stays = stays_joined (λ k h. h) w r.stays c.stays;
  behind = λ ts h.
      let p : List code.Coded = part (scene now) (next now) ts in
      let before = meets_before ts c.stays open_ h in
      ap (λ l. l ++ more (scene after) (next after) ts) (c.behind ts h)
      ∙ append_assoc (linked_code ts now) p (more (scene after) (next after) ts)
      ∙ ap (λ s. linked_code ts now ++ (p ++ more s (next after) ts)) c.stays.scene
      ∙ ap (λ k. linked_code ts now ++ (p ++ more (scene now) k ts)) (next_behind ts c h)
      ∙ ap (λ l. linked_code ts now ++ l) (sym (joined_is p (more (scene now) (next now + length p) ts)) ∙ sym (parted ts))
      ∙ r.behind ts before;
  most = let a = r.most in let b = c.most in omega (arith, a, b, marks);
}

pub remains_part : {own : Own} {old now after : Emitter} {whole : List ℕ → List code.Coded} {rest : Form} {marked left m q n : ℕ} (part more : Form) (less : ℕ) → left ≡ max q less → ((ts : List ℕ) → rest (scene now) (next now) ts ≡ part (scene now) (next now) ts ▸ more (scene now) (next now + length (part (scene now) (next now) ts)) ts) → Remains own old now whole rest marked left m → Codes none_own now after (part (scene now) (next now)) q n → Remains own old after whole more marked less (max m n)
remains_part {own} {old} {now} part more less marks parted r c = remains_joined part more less (none_within own) (open_none now.targets.items) marks parted r c

-- until nothing is left
pub remains_none : {own : Own} {old now : Emitter} {whole : List ℕ → List code.Coded} {rest : Form} {marked left m : ℕ} → left ≡ 0 → ((ts : List ℕ) → rest (scene now) (next now) ts ≡ []) → Remains own old now whole rest marked left m → Codes own old now whole marked m
remains_none {own} {old} {now} marks empty r = record {
  stays = r.stays;
  behind = λ ts h. sym (sym (joined_is (linked_code ts now) []) ∙ joined_none (linked_code ts now)) ∙ ap (λ l. linked_code ts now ++ l) (sym (empty ts)) ∙ r.behind ts h;
  most = let a = r.most in omega (arith, a, marks);
}

-- or what is left is coded as one part
pub remains_last : {own : Own} {old now after : Emitter} {whole : List ℕ → List code.Coded} {rest : Form} {marked left m n : ℕ} → Remains own old now whole rest marked left m → Codes none_own now after (rest (scene now) (next now)) left n → Codes own old after whole marked (max m n)
remains_last {own} {old} {now} r c = record {
  stays = stays_joined (λ k h. h) (none_within own) r.stays c.stays;
  behind = λ ts h. c.behind ts h ∙ r.behind ts (meets_before ts c.stays (open_none now.targets.items) h);
  most = let a = r.most in let b = c.most in omega (arith, a, b);
}

-- ---- lists of phrases

-- a phrase, and what is behind it
pub remains_phrase : {own : Own} {old now after : Emitter} {whole : List ℕ → List code.Coded} {rest : Form} {marked left m n : ℕ} (here : Here) (wanted : Mode) (x : Phrase) (more : Form) (less : ℕ) → left ≡ max (marks x) less → ((ts : List ℕ) → rest (scene now) (next now) ts ≡ code_at (scene now) here wanted (next now) x ts ▸ more (scene now) (next now + size (known (coding_context (scene now) ts here)) x) ts) → Remains own old now whole rest marked left m → CodesPhrase now after here wanted x n → Remains own old after whole more marked less (max m n)
remains_phrase {own} {old} {now} here wanted x more less marks parted r c =
    remains_part (λ s k ts. code_at s here wanted k x ts) more less marks
    (λ ts. parted ts ∙ ap (λ n. code_at (scene now) here wanted (next now) x ts ▸ more (scene now) (next now + n) ts) (sym (length_code_at (scene now) here wanted (next now) x ts))) r c

-- a phrase and an instruction
pub remains_each : {own : Own} {old now b after : Emitter} {whole : List ℕ → List code.Coded} {rest : Form} {marked left m n : ℕ} (here : Here) (wanted : Mode) (x : Phrase) (does : Instr) (more : Form) (less : ℕ) → is_plain does ≡ true → InstrFits now.code.given now.code.added does → left ≡ max (marks x) less → ((ts : List ℕ) → rest (scene now) (next now) ts ≡ code_at (scene now) here wanted (next now) x ts ▸ one_in (scene now) here ts does ▸ more (scene now) (next now + (size (known (coding_context (scene now) ts here)) x + 1)) ts) → Remains own old now whole rest marked left m → CodesPhrase now b here wanted x n → after ≡ appended b here does → Remains own old after whole more marked less (max m n)
remains_each {own} {old} {now} here wanted x does more less is fits marks parted r c e =
    remains_part (λ s k ts. code_at s here wanted k x ts ▸ one_in s here ts does) more less marks
    (λ ts.
    let first = code_at (scene now) here wanted (next now) x ts in
    let one_more = one_in (scene now) here ts does in
    let l = joined_length first one_more in
    let k = length_code_at (scene now) here wanted (next now) x ts in
    let long : size (known (coding_context (scene now) ts here)) x + 1 ≡ length (first ▸ one_more) = omega (arith, l, k) in
    parted ts ∙ sym (joined_assoc first one_more (more (scene now) (next now + (size (known (coding_context (scene now) ts here)) x + 1)) ts)) ∙ ap (λ n. (first ▸ one_more) ▸ more (scene now) (next now + n) ts) long) r
    (before_codes here wanted x does is fits c e)

-- a phrase and two instructions
pub remains_each_two : {own : Own} {old now b c after : Emitter} {whole : List ℕ → List code.Coded} {rest : Form} {marked left m n : ℕ} (here : Here) (wanted : Mode) (x : Phrase) (does then : Instr) (more : Form) (less : ℕ) → is_plain does ≡ true → is_plain then ≡ true → InstrFits now.code.given now.code.added does → InstrFits now.code.given now.code.added then → left ≡ max (marks x) less → ((ts : List ℕ) → rest (scene now) (next now) ts ≡ code_at (scene now) here wanted (next now) x ts ▸ one_in (scene now) here ts does ▸ one_in (scene now) here ts then ▸ more (scene now) (next now + (size (known (coding_context (scene now) ts here)) x + 2)) ts) → Remains own old now whole rest marked left m → CodesPhrase now b here wanted x n → c ≡ appended b here does → after ≡ appended c here then → Remains own old after whole more marked less (max m n)
remains_each_two {own} {old} {now} {b} {c} here wanted x does then more less is are fits fit marks parted r part e i =
    let first = before_codes here wanted x does is fits part e in
    remains_part (λ s k ts. (code_at s here wanted k x ts ▸ one_in s here ts does) ▸ one_in s here ts then) more less marks
    (λ ts.
    let phrase = code_at (scene now) here wanted (next now) x ts in
    let one_more = one_in (scene now) here ts does in
    let last = one_in (scene now) here ts then in
    let l = joined_length (phrase ▸ one_more) last in
    let j = joined_length phrase one_more in
    let k = length_code_at (scene now) here wanted (next now) x ts in
    let long : size (known (coding_context (scene now) ts here)) x + 2 ≡ length ((phrase ▸ one_more) ▸ last) = omega (arith, l, j, k) in
    let rest_of : List code.Coded = more (scene now) (next now + (size (known (coding_context (scene now) ts here)) x + 2)) ts in
    parted ts ∙ sym (joined_assoc phrase one_more (last ▸ rest_of)) ∙ sym (joined_assoc (phrase ▸ one_more) last rest_of) ∙ ap (λ n. ((phrase ▸ one_more) ▸ last) ▸ more (scene now) (next now + n) ts) long) r
    (codes_is i (codes_then_plain here then are (fits_there then first.stays fit) first))

-- ---- an instruction put right on the way

pub remains_replaced : {own : Own} {old now after : Emitter} {rest : Form} {marked left m : ℕ} (x : List ℕ → List code.Coded) (w : Place) (i : List ℕ → instr.Instr) (y : List ℕ → List code.Coded) (n : ℕ) (does : Instr) → InstrFits now.code.given now.code.added does → n < next now → ((ts : List ℕ) → Meets now.targets.items ts → n ≡ next old + length (x ts)) → Remains own old now (λ ts. x ts ▸ (one w (i ts) ▸ y ts)) rest marked left m → after ≡ replaced now n does → Remains own old after (λ ts. x ts ▸ (one w (instr_in now ts does) ▸ y ts)) rest marked left m
remains_replaced {own} {old} {now} {after} {rest} {marked} {left} {m} x w i y n does fits within there r e = subst (λ (b : Emitter). Remains own old b (λ ts. x ts ▸ (one w (instr_in now ts does) ▸ y ts)) rest marked left m) (sym e) (record {
  stays = stays_joined (λ k h. h) (none_within own) r.stays (stays_replaced none_own now n does r.stays.fits fits);
  behind = λ ts h. put ts h;
  most = r.most;
})
  where
    d : code.Coded
    d = record { at = w; does = instr.Nothing }

    put : (ts : List ℕ) → Meets now.targets.items ts → linked_code ts (replaced now n does) ++ rest (scene now) (next (replaced now n does)) ts ≡ linked_code ts old ++ (x ts ▸ (one w (instr_in now ts does) ▸ y ts))
    put ts h =
        let front : List code.Coded = linked_code ts old ++ x ts in
        let back : List code.Coded = rest (scene now) (next now) ts in
        let long = next_linked ts now in
        let first = next_linked ts old in
        let at = there ts h in
        let in_front = length-append (linked_code ts old) (x ts) in
        let seam : n ≡ length front = omega (arith, at, first, in_front) in
        let inside : n < length (linked_code ts now) = omega (arith, within, long) in
        let all : linked_code ts now ++ back ≡ front ++ record { at = w; does = i ts } ∷ y ts = r.behind ts h ∙ ap (λ l. linked_code ts old ++ l) (joined_is (x ts) (one w (i ts) ▸ y ts)) ∙ sym (append_assoc (linked_code ts old) (x ts) (one w (i ts) ▸ y ts)) in
        let here : (slice_index_or (linked_code ts now) n d).at ≡ w =
        ap (λ (c : code.Coded). c.at) (sym (get_or_append_left (linked_code ts now) back d n inside) ∙ ap (λ l. slice_index_or l n d) all ∙ ap (λ k. slice_index_or (front ++ record { at = w; does = i ts } ∷ y ts) k d) seam ∙ get_or-append_seam front (record { at = w; does = i ts }) (y ts) d) in
        ap (λ k. linked_code ts (replaced now n does) ++ rest (scene now) k ts) (next_replaced now n does)
        ∙ ap (λ l. l ++ back) (replaced_code ts now n does d within ∙ ap (λ p. slice_set (linked_code ts now) n (record { at = p; does = instr_in now ts does })) here)
        ∙ sym (set-append_left (linked_code ts now) back n (record { at = w; does = instr_in now ts does }) inside)
        ∙ ap (λ l. slice_set l n (record { at = w; does = instr_in now ts does })) all
        ∙ ap (λ k. slice_set (front ++ record { at = w; does = i ts } ∷ y ts) k (record { at = w; does = instr_in now ts does })) seam
        ∙ set-append_seam front (record { at = w; does = i ts }) (y ts) (record { at = w; does = instr_in now ts does })
        ∙ append_assoc (linked_code ts old) (x ts) (one w (instr_in now ts does) ▸ y ts)
        ∙ ap (λ l. linked_code ts old ++ l) (sym (joined_is (x ts) (one w (instr_in now ts does) ▸ y ts)))
