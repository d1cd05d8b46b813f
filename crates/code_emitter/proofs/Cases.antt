-- The parts of a CASE: jumps to them that are put right one by one, and their ends, which are put right behind the last.
use Rattle.std.proofs.Common.{◌≡◌, ℕ, zero, suc, ◌+◌, ◌<◌, ◌≤◌, max, List, [], ◌∷◌, ◌++◌, length, Option, Some, None, refl, sym, ap, ◌∙◌, subst, arith}
use Rattle.std.specs.Option.{option_map}
use Rattle.std.specs.declared.alloc.Global.{Global}
use Rattle.std.specs.declared.vec.Vec.{Vec}
use Rattle.std.proofs.lemmas.List.{append_assoc, length-append, length-replicate}
use Rattle.value_ops.specs.declared.places.Place.{Place}
use Rattle.value_ops.specs.declared.values.SimpleType.{SimpleType}
use Rattle.phrase_code.specs.Coding as coding
use Rattle.phrase_code.specs.Coding.{◌▸◌, Context, begin_code, code_parts, jumps_code, known, make_code, one, phrase_count}
use Rattle.phrase_code.specs.Marks.{marks, phrases_marks}
use Rattle.phrase_code.specs.Sizes.{Known, begin_size, jumps_size, parts_size, size}
use Rattle.phrase_code.proofs.Sizes.{code_sized, jumps_sized, parts_sized}
use Rattle.program_meaning.specs.Phrases.{Phrase, Phrases, no_phrases, phrase_and, Case}
use Rattle.stack_code.specs.Code as code
use Rattle.stack_code.specs.CodeView.{CodeFits, Given, KindsFit, kinds_view, statement_view}
use Rattle.stack_code.specs.Instr as instr
use Rattle.stack_code.specs.declared.instructions.Instr.{Instr}
use Rattle.stack_code.specs.declared.instructions.Instr.TheVariants as held
use Rattle.stack_code.specs.declared.instructions.Mode.{Mode}
use Rattle.stack_code.specs.declared.instructions.Mode.TheVariants as mode
use Rattle.symbol_table.specs.Contexts.{Scene, coding_context}
use Rattle.symbol_table.specs.declared.here.Here.{Here}
use Rattle.symbol_table.specs.Heres.{in_statement}
use Rattle.code_emitter.specs.Appending.{appended, begun, final_targets, made_into, replaced}
use Rattle.code_emitter.specs.Forms.{Form, all_replaced, before, jumps_open, part_at, part_ends, parts_to, selection, sized}
use Rattle.code_emitter.specs.Parts.{Codes, CodesPhrase, Meets, Own, Stays, code_at, linked_code, next, none_own, place_in, scene}
use Rattle.code_emitter.specs.declared.emitter.Emitter.{Emitter}
use Rattle.code_emitter.proofs.Composing.{given_there, known_anywhere, length_code_at, meets_final, stays_both, stays_itself, stays_replaced, stays_then}
use Rattle.code_emitter.proofs.Emitting.{joined_assoc, joined_is, joined_length, next_linked, patched, step}
use Rattle.code_emitter.proofs.Joining.{codes_as, codes_is, codes_next_at, codes_then_made, next_by}
use Rattle.code_emitter.proofs.Lines.{begun_codes, behind_before}
use Rattle.code_emitter.proofs.Remaining.{Remains, remains_as, remains_behind, remains_each, remains_none, remains_replaced}

-- ---- phrases by their numbers

abbrev pub parts_from : ℕ → Phrases → Phrases
parts_from i no_phrases = no_phrases
parts_from zero (phrase_and a rest) = phrase_and a rest
parts_from (suc i) (phrase_and a rest) = parts_from i rest

all_left : (rest : Phrases) → parts_from 0 rest ≡ rest
all_left no_phrases = refl
all_left (phrase_and a rest) = refl

pub parts_left : (i : ℕ) (parts : Phrases) → i < phrase_count parts → parts_from i parts ≡ phrase_and (part_at i parts) (parts_from (suc i) parts)
parts_left i no_phrases l = absurd (omega (arith, l))
parts_left zero (phrase_and a rest) l = ap (phrase_and a) (sym (all_left rest))
parts_left (suc i) (phrase_and a rest) l = parts_left i rest (omega (arith, l))

pub none_left : (n : ℕ) (parts : Phrases) → phrase_count parts ≤ n → parts_from n parts ≡ no_phrases
none_left n no_phrases l = refl
none_left zero (phrase_and a rest) l = absurd (omega (arith, l))
none_left (suc n) (phrase_and a rest) l = none_left n rest (omega (arith, l))

-- ---- jumps to them

-- jumps to parts that begin at k, the first so many put right
abbrev pub jumps_upto : List Known → Place → (i k : ℕ) → Phrases → List code.Coded
jumps_upto names w i k no_phrases = []
jumps_upto names w zero k (phrase_and a rest) = one w (instr.Jump 0) ▸ jumps_upto names w zero k rest
jumps_upto names w (suc i) k (phrase_and a rest) = one w (instr.Jump k) ▸ jumps_upto names w i (k + (size names a + 1)) rest

pub jumps_none : (names : List Known) (w : Place) (k : ℕ) (parts : Phrases) → jumps_upto names w 0 k parts ≡ jumps_open w (phrase_count parts)
jumps_none names w k no_phrases = refl
jumps_none names w k (phrase_and a rest) = ap (λ l. one w (instr.Jump 0) ▸ l) (jumps_none names w k rest) ∙ more (phrase_count rest)
  where
    more : (n : ℕ) → one w (instr.Jump 0) ▸ jumps_open w n ≡ jumps_open w (1 + n)
    more n = let e : 1 + n ≡ suc n = omega arith in rw e refl

pub jumps_all : (names : List Known) (w : Place) (n k : ℕ) (parts : Phrases) → phrase_count parts ≤ n → jumps_upto names w n k parts ≡ jumps_code names w k parts
jumps_all names w n k no_phrases l = refl
jumps_all names w zero k (phrase_and a rest) l = absurd (omega (arith, l))
jumps_all names w (suc n) k (phrase_and a rest) l = ap (λ is. one w (instr.Jump k) ▸ is) (jumps_all names w n (k + (size names a + 1)) rest (omega (arith, l)))

-- where a part begins
abbrev pub part_begin : List Known → (i k : ℕ) → Phrases → ℕ
part_begin names i k no_phrases = k
part_begin names zero k (phrase_and a rest) = k
part_begin names (suc i) k (phrase_and a rest) = part_begin names i (k + (size names a + 1)) rest

begins_behind : (names : List Known) (i k : ℕ) (parts : Phrases) → i ≤ phrase_count parts → part_begin names i k parts + parts_size names (parts_from i parts) ≡ k + parts_size names parts
begins_behind names i k no_phrases l = refl
begins_behind names zero k (phrase_and a rest) l = refl
begins_behind names (suc i) k (phrase_and a rest) l = let e = begins_behind names i (k + (size names a + 1)) rest (omega (arith, l)) in omega (arith, e)

-- the jumps before one of them, and those behind it
jumps_before : List Known → Place → (i k : ℕ) → Phrases → List code.Coded
jumps_before names w i k no_phrases = []
jumps_before names w zero k (phrase_and a rest) = []
jumps_before names w (suc i) k (phrase_and a rest) = one w (instr.Jump k) ▸ jumps_before names w i (k + (size names a + 1)) rest

jumps_behind : List Known → Place → (i k : ℕ) → Phrases → List code.Coded
jumps_behind names w i k no_phrases = []
jumps_behind names w zero k (phrase_and a rest) = jumps_upto names w zero k rest
jumps_behind names w (suc i) k (phrase_and a rest) = jumps_behind names w i (k + (size names a + 1)) rest

module _ (names : List Known) (w : Place) where
  length_before : (i k : ℕ) (parts : Phrases) → i ≤ phrase_count parts → length (jumps_before names w i k parts) ≡ i
  unfolding jumps_before
  length_before i k no_phrases l = omega (arith, l)
  length_before zero k (phrase_and a rest) l = refl
  length_before (suc i) k (phrase_and a rest) l = let e = length_before i (k + (size names a + 1)) rest (omega (arith, l)) in omega (arith, e)

  -- the next of them goes nowhere yet
  jump_open : (i k : ℕ) (parts : Phrases) → i < phrase_count parts → jumps_upto names w i k parts ≡ jumps_before names w i k parts ▸ one w (instr.Jump 0) ▸ jumps_behind names w i k parts
  unfolding jumps_before jumps_behind
  jump_open i k no_phrases l = absurd (omega (arith, l))
  jump_open zero k (phrase_and a rest) l = refl
  jump_open (suc i) k (phrase_and a rest) l = ap (λ is. one w (instr.Jump k) ▸ is) (jump_open i (k + (size names a + 1)) rest (omega (arith, l)))

  -- and is put right
  jump_right : (i k : ℕ) (parts : Phrases) → i < phrase_count parts → jumps_upto names w (suc i) k parts ≡ jumps_before names w i k parts ▸ one w (instr.Jump (part_begin names i k parts)) ▸ jumps_behind names w i k parts
  unfolding jumps_before jumps_behind
  jump_right i k no_phrases l = absurd (omega (arith, l))
  jump_right zero k (phrase_and a rest) l = ap (λ is. one w (instr.Jump k) ▸ is) (none_moved (k + (size names a + 1)) k rest)
    where
      none_moved : (k l : ℕ) (rest : Phrases) → jumps_upto names w 0 k rest ≡ jumps_upto names w 0 l rest
      none_moved k l no_phrases = refl
      none_moved k l (phrase_and a rest) = ap (λ is. one w (instr.Jump 0) ▸ is) (none_moved k l rest)
  jump_right (suc i) k (phrase_and a rest) l = ap (λ is. one w (instr.Jump k) ▸ is) (jump_right i (k + (size names a + 1)) rest (omega (arith, l)))

length_jumps : (names : List Known) (w : Place) (i k : ℕ) (parts : Phrases) → length (jumps_upto names w i k parts) ≡ phrase_count parts
length_jumps names w i k no_phrases = refl
length_jumps names w zero k (phrase_and a rest) = let e = length_jumps names w zero k rest in omega (arith, e)
length_jumps names w (suc i) k (phrase_and a rest) = let e = length_jumps names w i (k + (size names a + 1)) rest in omega (arith, e)

begins_least : (names : List Known) (i k : ℕ) (parts : Phrases) → k ≤ part_begin names i k parts
begins_least names i k no_phrases = omega arith
begins_least names zero k (phrase_and a rest) = omega arith
begins_least names (suc i) k (phrase_and a rest) = let e = begins_least names i (k + (size names a + 1)) rest in omega (arith, e)

-- ---- the parts, one by one

-- what is left of the parts, whose ends go nowhere yet
abbrev pub left_parts : Here → Phrases → Form
left_parts here parts s k ts = code_parts (coding_context s ts here) (place_in s here) k 0 parts

-- the jumps, the first so many put right, and the parts
abbrev pub parts_upto : Emitter → Here → ℕ → Phrases → List ℕ → List code.Coded
parts_upto a here i parts ts = jumps_upto (known (coding_context (scene a) ts here)) (place_in (scene a) here) i (next a + phrase_count parts) parts ▸ code_parts (coding_context (scene a) ts here) (place_in (scene a) here) (next a + phrase_count parts) 0 parts

abbrev all_parts : Emitter → Here → Phrases → List ℕ → List code.Coded
all_parts a here parts ts = code_parts (coding_context (scene a) ts here) (place_in (scene a) here) (next a + phrase_count parts) 0 parts

-- what is before the jump to a part, and behind it
abbrev before_part : Emitter → Here → ℕ → Phrases → List ℕ → List code.Coded
before_part a here i parts ts = jumps_before (known (coding_context (scene a) ts here)) (place_in (scene a) here) i (next a + phrase_count parts) parts

abbrev behind_part : Emitter → Here → ℕ → Phrases → List ℕ → List code.Coded
behind_part a here i parts ts = jumps_behind (known (coding_context (scene a) ts here)) (place_in (scene a) here) i (next a + phrase_count parts) parts ▸ all_parts a here parts ts

-- behind the jumps
pub parts_begin : {a b : Emitter} (here : Here) (parts : Phrases) → Codes none_own a b (λ ts. jumps_open (place_in (scene a) here) (phrase_count parts)) 0 0 → Remains none_own a b (parts_upto a here 0 parts) (left_parts here parts) (phrases_marks parts) (phrases_marks parts) 0
parts_begin {a} {b} here parts c = remains_as (parts_upto a here 0 parts) (λ ts h. same ts) started
  where
    started : Remains none_own a b (λ ts. jumps_open (place_in (scene a) here) (phrase_count parts) ▸ left_parts here parts (scene a) (next a + length (jumps_open (place_in (scene a) here) (phrase_count parts))) ts) (left_parts here parts) (phrases_marks parts) (phrases_marks parts) 0
    started = let r = remains_behind (left_parts here parts) (phrases_marks parts) c in record { stays = r.stays; behind = r.behind; most = omega arith }

    same : (ts : List ℕ) → jumps_open (place_in (scene a) here) (phrase_count parts) ▸ left_parts here parts (scene a) (next a + length (jumps_open (place_in (scene a) here) (phrase_count parts))) ts ≡ parts_upto a here 0 parts ts
    same ts =
        ap (λ n. jumps_open (place_in (scene a) here) (phrase_count parts) ▸ left_parts here parts (scene a) (next a + n) ts) (length-replicate (phrase_count parts) (record { at = place_in (scene a) here; does = instr.Jump 0 }))
        ∙ ap (λ l. l ▸ left_parts here parts (scene a) (next a + phrase_count parts) ts) (sym (jumps_none (known (coding_context (scene a) ts here)) (place_in (scene a) here) (next a + phrase_count parts) parts))

-- the next part, with its jump put right
pub parts_step : {a now b c d : Emitter} {marked m n : ℕ} (here : Here) (i : ℕ) (parts : Phrases) → i < phrase_count parts → Remains none_own a now (parts_upto a here i parts) (left_parts here (parts_from i parts)) marked (phrases_marks (parts_from i parts)) m → b ≡ replaced now (next a + i) (held.Jump (next now)) → CodesPhrase b c here mode.Value (part_at i parts) n → d ≡ appended c here (held.Jump 0) → Remains none_own a d (parts_upto a here (suc i) parts) (left_parts here (parts_from (suc i) parts)) marked (phrases_marks (parts_from (suc i) parts)) (max m n)
parts_step {a} {now} {b} {c} {d} {marked} {m} here i parts l r qb part qd =
    remains_each here mode.Value (part_at i parts) (held.Jump 0) (left_parts here (parts_from (suc i) parts)) (phrases_marks (parts_from (suc i) parts)) refl tt (ap phrases_marks (parts_left i parts l))
    (λ ts. ap (code_parts (coding_context (scene b) ts here) (place_in (scene b) here) (next b) 0) (parts_left i parts l)) jumped part qd
  where
    at_begin : (ts : List ℕ) → Meets now.targets.items ts → next now ≡ part_begin (known (coding_context (scene a) ts here)) i (next a + phrase_count parts) parts
    at_begin ts h =
        let names : List Known = known (coding_context (scene a) ts here) in
        let now_parts : List code.Coded = left_parts here (parts_from i parts) (scene now) (next now) ts in
        let all : List code.Coded = code_parts (coding_context (scene a) ts here) (place_in (scene a) here) (next a + phrase_count parts) 0 parts in
        let jumps : List code.Coded = jumps_upto names (place_in (scene a) here) i (next a + phrase_count parts) parts in
        let both = ap length (r.behind ts h) in
        let p = length-append (linked_code ts now) now_parts in
        let q = length-append (linked_code ts a) (jumps ▸ all) in
        let s = joined_length jumps all in
        let t = length_jumps names (place_in (scene a) here) i (next a + phrase_count parts) parts in
        let u = (parts_sized (coding_context (scene a) ts here) (place_in (scene a) here) (next a + phrase_count parts) 0 parts).by in
        let v : length now_parts ≡ parts_size names (parts_from i parts) = (parts_sized (coding_context (scene now) ts here) (place_in (scene now) here) (next now) 0 (parts_from i parts)).by ∙ ap (λ (s : Scene). parts_size (known (coding_context s ts here)) (parts_from i parts)) r.stays.scene in
        let x = begins_behind names i (next a + phrase_count parts) parts (omega (arith, l)) in
        let y = next_linked ts now in
        let z = next_linked ts a in
        omega (arith, both, p, q, s, t, u, v, x, y, z)

    within : next a + i < next now
    within =
        let ts : List ℕ = final_targets now.targets.items in
        let e = at_begin ts (meets_final now.targets.items) in
        let least = begins_least (known (coding_context (scene a) ts here)) i (next a + phrase_count parts) parts in
        omega (arith, e, least, l)

    long_before : (ts : List ℕ) → length (before_part a here i parts ts) ≡ i
    long_before ts = length_before (known (coding_context (scene a) ts here)) (place_in (scene a) here) i (next a + phrase_count parts) parts (omega (arith, l))

    opened : Remains none_own a now (λ ts. before_part a here i parts ts ▸ (step a here (instr.Jump 0) ▸ behind_part a here i parts ts)) (left_parts here (parts_from i parts)) marked (phrases_marks (parts_from i parts)) m
    opened = remains_as (λ ts. before_part a here i parts ts ▸ (step a here (instr.Jump 0) ▸ behind_part a here i parts ts))
        (λ ts h. ap (λ is. is ▸ all_parts a here parts ts) (jump_open (known (coding_context (scene a) ts here)) (place_in (scene a) here) i (next a + phrase_count parts) parts l)
        ∙ joined_assoc (before_part a here i parts ts) (step a here (instr.Jump 0) ▸ jumps_behind (known (coding_context (scene a) ts here)) (place_in (scene a) here) i (next a + phrase_count parts) parts) (all_parts a here parts ts)) r

    put : Remains none_own a b (λ ts. before_part a here i parts ts ▸ (step a here (instr.Jump (next now)) ▸ behind_part a here i parts ts)) (left_parts here (parts_from i parts)) marked (phrases_marks (parts_from i parts)) m
    put = remains_replaced (before_part a here i parts) (place_in (scene a) here) (λ ts. instr.Jump 0) (behind_part a here i parts) (next a + i) (held.Jump (next now)) tt within
        (λ ts h. ap (λ k. next a + k) (sym (long_before ts))) opened qb

    jumped : Remains none_own a b (parts_upto a here (suc i) parts) (left_parts here (parts_from i parts)) marked (phrases_marks (parts_from i parts)) m
    jumped = remains_as (parts_upto a here (suc i) parts)
        (λ ts h. ap (λ k. before_part a here i parts ts ▸ (step a here (instr.Jump k) ▸ behind_part a here i parts ts)) (at_begin ts (subst (λ (e : Emitter). Meets e.targets.items ts) qb h))
        ∙ sym (ap (λ is. is ▸ all_parts a here parts ts) (jump_right (known (coding_context (scene a) ts here)) (place_in (scene a) here) i (next a + phrase_count parts) parts l)
        ∙ joined_assoc (before_part a here i parts ts) (step a here (instr.Jump (part_begin (known (coding_context (scene a) ts here)) i (next a + phrase_count parts) parts)) ▸ jumps_behind (known (coding_context (scene a) ts here)) (place_in (scene a) here) i (next a + phrase_count parts) parts) (all_parts a here parts ts))) put

-- and none is left
pub parts_done : {a now : Emitter} {marked m : ℕ} (here : Here) (n : ℕ) (parts : Phrases) → phrase_count parts ≤ n → Remains none_own a now (parts_upto a here n parts) (left_parts here (parts_from n parts)) marked (phrases_marks (parts_from n parts)) m → Codes none_own a now (λ ts. jumps_code (known (coding_context (scene a) ts here)) (place_in (scene a) here) (next a + phrase_count parts) parts ▸ code_parts (coding_context (scene a) ts here) (place_in (scene a) here) (next a + phrase_count parts) 0 parts) marked m
parts_done {a} {now} here n parts l r =
    codes_as _ _ (λ ts h. ap (λ is. is ▸ all_parts a here parts ts) (jumps_all (known (coding_context (scene a) ts here)) (place_in (scene a) here) n (next a + phrase_count parts) parts l)) refl
    (remains_none (ap phrases_marks (none_left n parts l)) (λ ts. ap (code_parts (coding_context (scene now) ts here) (place_in (scene now) here) (next now) 0) (none_left n parts l)) r)

-- ---- their ends

ends_put : (ts : List ℕ) (e : Emitter) (c : Context) (w : Place) (k t : ℕ) (parts : Phrases) (xs : List code.Coded) → linked_code ts e ≡ xs ++ code_parts c w k 0 parts → k ≡ length xs → linked_code ts (all_replaced e (part_ends (known c) k parts) (held.Jump t)) ≡ xs ++ code_parts c w k t parts
ends_put ts e c w k t no_phrases xs q l = q
ends_put ts e c w k t (phrase_and a rest) xs q l =
    let part : List code.Coded = coding.code c w instr.the_value k a in
    let size_of : length part ≡ size (known c) a = (code_sized c w instr.the_value k a).by in
    let next_parts : List code.Coded = code_parts c w (k + (size (known c) a + 1)) 0 rest in
    let then_parts : List code.Coded = code_parts c w (k + (size (known c) a + 1)) t rest in
    let long = length-append xs part in
    let longer = length-append (xs ++ part) (one w (instr.Jump 0)) in
    let with_end : (xs ++ part) ++ (one w (instr.Jump 0) ▸ next_parts) ≡ ((xs ++ part) ++ one w (instr.Jump 0)) ++ next_parts = sym (append_assoc (xs ++ part) (one w (instr.Jump 0)) next_parts) in
    let before : linked_code ts e ≡ ((xs ++ part) ++ one w (instr.Jump 0)) ++ next_parts =
    q ∙ ap (λ is. xs ++ is) (joined_is part (one w (instr.Jump 0) ▸ next_parts)) ∙ sym (append_assoc xs part (one w (instr.Jump 0) ▸ next_parts)) ∙ with_end in
    let rest_put = ends_put ts e c w (k + (size (known c) a + 1)) t rest ((xs ++ part) ++ one w (instr.Jump 0)) before (omega (arith, l, size_of, long, longer)) in
    let all : linked_code ts (all_replaced e (part_ends (known c) (k + (size (known c) a + 1)) rest) (held.Jump t)) ≡ (xs ++ part) ++ (one w (instr.Jump 0) ▸ then_parts) = rest_put ∙ append_assoc (xs ++ part) (one w (instr.Jump 0)) then_parts in
    patched ts (all_replaced e (part_ends (known c) (k + (size (known c) a + 1)) rest) (held.Jump t)) (k + size (known c) a) (held.Jump t) (xs ++ part) w (instr.Jump 0) then_parts all (omega (arith, l, size_of, long))
    ∙ append_assoc xs part (one w (instr.Jump t) ▸ then_parts) ∙ ap (λ is. xs ++ is) (sym (joined_is part (one w (instr.Jump t) ▸ then_parts)))

pub stays_ended : (own : Own) (e : Emitter) (ns : List ℕ) (t : ℕ) → CodeFits e.code → Stays own e (all_replaced e ns (held.Jump t))
stays_ended own e [] t h = stays_itself own e h
stays_ended own e (n ∷ ns) t h = let s = stays_ended own e ns t h in stays_both s (stays_replaced own (all_replaced e ns (held.Jump t)) n (held.Jump t) s.fits tt)

pub targets_ended : (e : Emitter) (ns : List ℕ) (does : Instr) → (all_replaced e ns does).targets ≡ e.targets
targets_ended e [] does = refl
targets_ended e (n ∷ ns) does = targets_ended e ns does

-- parts whose ends are put right behind the last
pub parts_ended : {a b c : Emitter} {p m : ℕ} (here : Here) (x : List ℕ → List code.Coded) (k t : ℕ) (parts : Phrases) (ns : List ℕ) → ((ts : List ℕ) → Meets b.targets.items ts → k ≡ next a + length (x ts)) → ((ts : List ℕ) → ns ≡ part_ends (known (coding_context (scene a) ts here)) k parts) → Codes none_own a b (λ ts. x ts ▸ code_parts (coding_context (scene a) ts here) (place_in (scene a) here) k 0 parts) p m → c ≡ all_replaced b ns (held.Jump t) → Codes none_own a c (λ ts. x ts ▸ code_parts (coding_context (scene a) ts here) (place_in (scene a) here) k t parts) p m
parts_ended {a} {b} {c} here x k t parts ns at are part e = codes_is e (record {
  stays = stays_then part.stays (stays_ended none_own b ns t part.stays.fits);
  behind = λ ts h.
      let met : Meets b.targets.items ts = subst (λ (v : Vec (Option ℕ) Global). Meets v.items ts) (targets_ended b ns (held.Jump t)) h in
      let c_at : Context = coding_context (scene a) ts here in
      let w : Place = place_in (scene a) here in
      let long = length-append (linked_code ts a) (x ts) in
      let first = next_linked ts a in
      let begin = at ts met in
      ap (λ l. linked_code ts (all_replaced b l (held.Jump t))) (are ts)
      ∙ ends_put ts b c_at w k t parts (linked_code ts a ++ x ts) (part.behind ts met ∙ ap (λ l. linked_code ts a ++ l) (joined_is (x ts) (code_parts c_at w k 0 parts)) ∙ sym (append_assoc (linked_code ts a) (x ts) (code_parts c_at w k 0 parts))) (omega (arith, long, first, begin))
      ∙ append_assoc (linked_code ts a) (x ts) (code_parts c_at w k t parts) ∙ ap (λ l. linked_code ts a ++ l) (sym (joined_is (x ts) (code_parts c_at w k t parts)));
  most = part.most;
})

-- ---- a CASE

jumps_counted : (parts : Phrases) → jumps_size parts ≡ phrase_count parts
jumps_counted no_phrases = refl
jumps_counted (phrase_and a rest) = ap (λ n. 1 + n) (jumps_counted rest)

length_parts : (s : Scene) (here : Here) (end : ℕ) (parts : Phrases) (k : ℕ) (ts : List ℕ) → length (parts_to here end parts s k ts) ≡ phrase_count parts + parts_size (known (coding_context s ts here)) parts
length_parts s here end parts k ts =
    let a = joined_length (jumps_code (known (coding_context s ts here)) (place_in s here) (k + phrase_count parts) parts) (code_parts (coding_context s ts here) (place_in s here) (k + phrase_count parts) end parts) in
    let b = (jumps_sized (known (coding_context s ts here)) (place_in s here) (k + phrase_count parts) parts).by in
    let c = (parts_sized (coding_context s ts here) (place_in s here) (k + phrase_count parts) end parts).by in
    let d = jumps_counted parts in
    omega (arith, a, b, c, d)

regrouped : (a b c d e : List code.Coded) → ((a ▸ b) ▸ (c ▸ d)) ▸ e ≡ a ▸ (b ▸ (c ▸ (d ▸ e)))
regrouped a b c d e = simp joined_assoc

pub selection_codes : {a c d e : Emitter} {m n : ℕ} (here : Here) (t : Option SimpleType) (x : Phrase) (parts : Phrases) → KindsFit a.code.given t → Codes none_own a c (before here x (held.Choose (phrase_count parts)) (scene a) (next a)) (marks x) m → Codes none_own c d (parts_to here (next d) parts (scene c) (next c)) (phrases_marks parts) n → e ≡ made_into d here t → Codes none_own a e (selection here t x parts (scene a) (next a)) (max (marks x) (phrases_marks parts)) (max m n)
selection_codes {a} {c} {d} {e} {m} {n} here t x parts fits first second qe =
    codes_as (selection here t x parts (scene a) (next a)) _ (λ ts k. same ts) refl (codes_is qe (codes_then_made here t (subst (λ (s : Given). KindsFit s t) (sym (given_there both.stays)) fits) both))
  where
    both : Codes none_own a d (λ ts. (code_at (scene a) here mode.Value (next a) x ts ▸ step a here (instr.Choose (phrase_count parts))) ▸ parts_to here (next d) parts (scene a) (next a + sized (scene a) here x ts + 1) ts) (max (marks x) (phrases_marks parts)) (max m n)
    both = codes_next_at (parts_to here (next d) parts) (λ s. phrases_marks parts) (λ ts. next a + sized (scene a) here x ts + 1)
        (λ ts k. let l = joined_length (code_at (scene a) here mode.Value (next a) x ts) (step a here (instr.Choose (phrase_count parts))) in let n = length_code_at (scene a) here mode.Value (next a) x ts in omega (arith, l, n)) first second

    at_end : (ts : List ℕ) → next d ≡ next a + sized (scene a) here x ts + 1 + jumps_size parts + parts_size (known (coding_context (scene a) ts here)) parts
    at_end ts =
        let p = behind_before (scene a) here x (held.Choose (phrase_count parts)) ts refl first in
        let r : next d ≡ next c + (phrase_count parts + parts_size (known (coding_context (scene c) ts here)) parts) =
        next_by (phrase_count parts + parts_size (known (coding_context (scene c) ts here)) parts) (λ us. length_parts (scene c) here (next d) parts (next c) us ∙ ap (λ names. phrase_count parts + parts_size names parts) (known_anywhere (scene c) here us ts)) second in
        let s : parts_size (known (coding_context (scene c) ts here)) parts ≡ parts_size (known (coding_context (scene a) ts here)) parts = ap (λ (v : Scene). parts_size (known (coding_context v ts here)) parts) first.stays.scene in
        let u = jumps_counted parts in
        omega (arith, p, r, s, u)

    same : (ts : List ℕ) → ((code_at (scene a) here mode.Value (next a) x ts ▸ step a here (instr.Choose (phrase_count parts))) ▸ parts_to here (next d) parts (scene a) (next a + sized (scene a) here x ts + 1) ts) ▸ make_code (place_in (scene a) here) (kinds_view a.code.given t) ≡ selection here t x parts (scene a) (next a) ts
    same ts =
        let w : Place = place_in (scene a) here in
        let at : Context = coding_context (scene a) ts here in
        let k : ℕ = next a + sized (scene a) here x ts + 1 in
        let subject : List code.Coded = code_at (scene a) here mode.Value (next a) x ts in
        let made : List code.Coded = make_code w (kinds_view a.code.given t) in
        ap (λ n. ((subject ▸ one w (instr.Choose (phrase_count parts))) ▸ (jumps_code (known at) w (k + n) parts ▸ code_parts at w (k + n) (next d) parts)) ▸ made) (sym (jumps_counted parts))
        ∙ ap (λ n. ((subject ▸ one w (instr.Choose (phrase_count parts))) ▸ (jumps_code (known at) w (k + jumps_size parts) parts ▸ code_parts at w (k + jumps_size parts) n parts)) ▸ made) (at_end ts)
        ∙ regrouped subject (one w (instr.Choose (phrase_count parts))) (jumps_code (known at) w (k + jumps_size parts) parts) (code_parts at w (k + jumps_size parts) (k + jumps_size parts + parts_size (known at) parts) parts) made

case_is : (s : Scene) (here : Here) (wanted : Mode) (st : Option ℕ) (t : Option SimpleType) (x : Phrase) (parts : Phrases) (k : ℕ) (ts : List ℕ) → begin_code (option_map (statement_view s.given) st) ▸ selection (in_statement here st) t x parts s (k + begin_size (option_map (statement_view s.given) st)) ts ≡ code_at s here wanted k (Case (option_map (statement_view s.given) st) (kinds_view s.given t) x parts) ts
case_is s here wanted None t x parts k ts = refl
case_is s here wanted (Some statement) t x parts k ts = refl

pub case_codes : {a b c : Emitter} {n : ℕ} (here : Here) (wanted : Mode) (st : Option ℕ) (t : Option SimpleType) (x : Phrase) (parts : Phrases) → CodeFits a.code → b ≡ begun a here st → Codes none_own b c (selection (in_statement here st) t x parts (scene b) (next b)) (max (marks x) (phrases_marks parts)) n → CodesPhrase a c here wanted (Case (option_map (statement_view a.code.given) st) (kinds_view a.code.given t) x parts) n
case_codes {a} here wanted st t x parts h e part = codes_as (code_at (scene a) here wanted (next a) (Case (option_map (statement_view a.code.given) st) (kinds_view a.code.given t) x parts)) _ (λ ts k. case_is (scene a) here wanted st t x parts (next a) ts) refl (begun_codes here st (selection (in_statement here st) t x parts) h e part)
