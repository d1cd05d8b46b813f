-- Loops that are coded when their parts are.
use Rattle.std.proofs.Common.{◌≡◌, ℕ, ◌+◌, ◌<◌, max, List, [], ◌∷◌, length, refl, sym, ap, ◌∙◌, subst, arith}
use Rattle.phrase_code.specs.Coding as coding
use Rattle.phrase_code.specs.Coding.{◌▸◌, known, one, turn_context}
use Rattle.phrase_code.specs.Marks.{marks, phrases_marks}
use Rattle.phrase_code.specs.Sizes.{control_known, size}
use Rattle.phrase_code.proofs.Sizes.{code_sized}
use Rattle.program_meaning.specs.Phrases.{Name, Phrase, Phrases, ForList, ForStep, WhileDo}
use Rattle.stack_code.specs.Code as code
use Rattle.stack_code.specs.CodeView.{CodeFits, Given, text_view}
use Rattle.stack_code.specs.Instr as instr
use Rattle.stack_code.specs.declared.instructions.Instr.TheVariants as held
use Rattle.stack_code.specs.declared.instructions.Mode.{Mode}
use Rattle.stack_code.specs.declared.instructions.Mode.TheVariants as mode
use Rattle.symbol_table.specs.declared.here.Here.{Here}
use Rattle.symbol_table.specs.Contexts.{Scene, coding_context}
use Rattle.code_emitter.specs.Appending.{appended, replaced}
use Rattle.code_emitter.specs.Forms.{before, sized, turn, turn_sized}
use Rattle.code_emitter.specs.Parts.{Codes, CodesPhrase, code_at, next, none_own, place_in, scene}
use Rattle.code_emitter.specs.declared.emitter.Emitter.{Emitter}
use Rattle.code_emitter.proofs.Composing.{given_there, known_anywhere, length_code_at}
use Rattle.code_emitter.proofs.Emitting.{joined_assoc, joined_length, next_appended, step}
use Rattle.code_emitter.proofs.Joining.{codes_as, codes_is, codes_most, codes_next_at, codes_plain, codes_replaced, codes_then_plain, next_by, next_phrase}
use Rattle.code_emitter.proofs.Lines.{behind_before}

-- ---- a WHILE

pub while_codes : {a b c d e f : Emitter} {m n : ℕ} (here : Here) (wanted : Mode) (x body : Phrase) → CodeFits a.code → b ≡ appended a here held.Begin → c ≡ appended b here (held.Jump 0) → CodesPhrase c d here mode.Value body m → e ≡ replaced d (next b) (held.Jump (next d)) → Codes none_own e f (before here x (held.Again (next b + 1)) (scene e) (next e)) (marks x) n → CodesPhrase a f here wanted (WhileDo (place_in (scene a) here) x body) (max n m)
while_codes {a} {b} {c} {d} {e} {f} {m} {n} here wanted x body h qb qc first qe second =
    codes_most _ _ (cc (first.most, second.most)) (codes_as (code_at (scene a) here wanted (next a) (WhileDo (place_in (scene a) here) x body)) _ (λ ts k. same ts) refl whole)
  where
    begun_only : Codes none_own a c (λ ts. step a here instr.Begin ▸ step a here (instr.Jump 0)) 0 0
    begun_only = codes_is qc (codes_then_plain here (held.Jump 0) refl tt (codes_is qb (codes_plain none_own a here held.Begin h tt refl)))

    at_jump : next b ≡ next a + 1
    at_jump = ap next qb ∙ next_appended a here held.Begin

    behind_body : (ts : List ℕ) → next d ≡ next a + 2 + sized (scene a) here body ts
    behind_body ts =
        let q : next c ≡ next b + 1 = ap next qc ∙ next_appended b here (held.Jump 0) in
        let r = next_phrase (scene a) here mode.Value body ts begun_only.stays.scene first in
        omega (arith, at_jump, q, r)

    jumped : Codes none_own a e (λ ts. step a here instr.Begin ▸ step a here (instr.Jump (next d)) ▸ code_at (scene a) here mode.Value (next a + 2) body ts) (marks body) m
    jumped = codes_is qe (codes_replaced (λ ts. step a here instr.Begin) (place_in (scene a) here) (λ ts. instr.Jump 0) (code_at (scene a) here mode.Value (next a + 2) body) (next b) (held.Jump (next d)) tt (λ ts k. at_jump)
        (codes_most _ _ first.most (codes_next_at (λ s k ts. code_at s here mode.Value k body ts) (λ s. marks body) (λ ts. next a + 2) (λ ts k. refl) begun_only first)))

    whole : Codes none_own a f (λ ts. (step a here instr.Begin ▸ step a here (instr.Jump (next d)) ▸ code_at (scene a) here mode.Value (next a + 2) body ts) ▸ before here x (held.Again (next b + 1)) (scene a) (next a + 2 + sized (scene a) here body ts) ts) (max (marks body) (marks x)) (max m n)
    whole = codes_next_at (before here x (held.Again (next b + 1))) (λ s. marks x) (λ ts. next a + 2 + sized (scene a) here body ts)
        (λ ts k. let l = length_code_at (scene a) here mode.Value (next a + 2) body ts in omega (arith, l)) jumped second

    same : (ts : List ℕ) → (step a here instr.Begin ▸ step a here (instr.Jump (next d)) ▸ code_at (scene a) here mode.Value (next a + 2) body ts) ▸ before here x (held.Again (next b + 1)) (scene a) (next a + 2 + sized (scene a) here body ts) ts ≡ code_at (scene a) here wanted (next a) (WhileDo (place_in (scene a) here) x body) ts
    same ts =
        let turn : next b + 1 ≡ next a + 2 = omega (arith, at_jump) in
        rw (behind_body ts, turn)

-- ---- a turn

length_turn : (s : Scene) (here : Here) (x : Name) (body : Phrase) (k : ℕ) (ts : List ℕ) → length (turn here x body s k ts) ≡ turn_sized s here x body ts
length_turn s here x body k ts = (code_sized (turn_context (coding_context s ts here) x) (place_in s here) instr.the_value k body).by

pub behind_turn : {a b : Emitter} {q n : ℕ} (s : Scene) (here : Here) (x : Name) (body : Phrase) (ts : List ℕ) → scene a ≡ s → Codes none_own a b (turn here x body (scene a) (next a)) q n → next b ≡ next a + turn_sized s here x body ts
behind_turn {a} {b} s here x body ts e c =
    next_by (turn_sized (scene a) here x body ts) (λ us. length_turn (scene a) here x body (next a) us ∙ ap (λ names. size (control_known x names) body) (known_anywhere (scene a) here us ts)) c
    ∙ ap (λ t. next a + turn_sized t here x body ts) e

-- ---- a FOR with a step

-- what stands before its turns
abbrev start : Here → (x y z : Phrase) → Scene → ℕ → List ℕ → List code.Coded
start here x y z s k ts =
    one (place_in s here) instr.Begin ▸ code_at s here mode.Value (k + 1) x ts ▸ one (place_in s here) instr.Push ▸
    code_at s here mode.Value (k + 2 + sized s here x ts) y ts ▸ one (place_in s here) instr.Push ▸
    code_at s here mode.Value (k + 3 + sized s here x ts + sized s here y ts) z ts ▸ one (place_in s here) instr.Push

abbrev steps : Here → Name → (x y z body : Phrase) → Scene → ℕ → List ℕ → List code.Coded
steps here v x y z body s k ts =
    start here x y z s k ts ▸ one (place_in s here) (instr.FirstTurn (k + 7 + sized s here x ts + sized s here y ts + sized s here z ts + turn_sized s here v body ts)) ▸
    one (place_in s here) (instr.Turn v.text) ▸ turn here v body s (k + 6 + sized s here x ts + sized s here y ts + sized s here z ts) ts ▸
    one (place_in s here) (instr.NextTurn (k + 5 + sized s here x ts + sized s here y ts + sized s here z ts) here.entries)

regrouped : (p q : code.Coded) (x y z more : List code.Coded) → (p ∷ (x ▸ q ∷ (y ▸ q ∷ (z ▸ q ∷ [])))) ▸ more ≡ p ∷ (x ▸ q ∷ (y ▸ q ∷ (z ▸ q ∷ more)))
regrouped p q x y z more = simp joined_assoc

steps_are : (s : Scene) (here : Here) (wanted : Mode) (v : Name) (x y z body : Phrase) (k : ℕ) (ts : List ℕ) → steps here v x y z body s k ts ≡ code_at s here wanted k (ForStep (place_in s here) v x y z body) ts
steps_are s here wanted v x y z body k ts = regrouped (record { at = place_in s here; does = instr.Begin }) (record { at = place_in s here; does = instr.Push }) (code_at s here mode.Value (k + 1) x ts) (code_at s here mode.Value (k + 2 + sized s here x ts) y ts) (code_at s here mode.Value (k + 3 + sized s here x ts + sized s here y ts) z ts) _

length_start : (s : Scene) (here : Here) (x y z : Phrase) (k : ℕ) (ts : List ℕ) → length (start here x y z s k ts) ≡ 4 + sized s here x ts + sized s here y ts + sized s here z ts
length_start s here x y z k ts =
    let push : List code.Coded = one (place_in s here) instr.Push in
    let first = code_at s here mode.Value (k + 1) x ts in
    let second = code_at s here mode.Value (k + 2 + sized s here x ts) y ts in
    let third = code_at s here mode.Value (k + 3 + sized s here x ts + sized s here y ts) z ts in
    let a = joined_length first (push ▸ second ▸ push ▸ third ▸ push) in
    let b = joined_length second (push ▸ third ▸ push) in
    let c = joined_length third push in
    let d = length_code_at s here mode.Value (k + 1) x ts in
    let e = length_code_at s here mode.Value (k + 2 + sized s here x ts) y ts in
    let f = length_code_at s here mode.Value (k + 3 + sized s here x ts + sized s here y ts) z ts in
    omega (arith, a, b, c, d, e, f)

grouped : (a b c d e : List code.Coded) → ((a ▸ b ▸ c) ▸ d) ▸ e ≡ a ▸ (b ▸ (c ▸ d ▸ e))
grouped a b c d e = simp joined_assoc

pub for_step_codes : {a b d e f h i j l o r : Emitter} {m n p q : ℕ} (here : Here) (wanted : Mode) (number : ℕ) (v : Name) (x y z body : Phrase) → CodeFits a.code → number < length a.code.given.names → text_view a.code.given number ≡ v.text → b ≡ appended a here held.Begin → Codes none_own b d (before here x held.Push (scene b) (next b)) (marks x) m → CodesPhrase d e here mode.Value y n → f ≡ appended e here held.Push → Codes none_own f h (before here z held.Push (scene f) (next f)) (marks z) p → i ≡ appended h here (held.FirstTurn 0) → j ≡ appended i here (held.Turn number) → Codes none_own j l (turn here v body (scene j) (next j)) (1 + marks body) q → o ≡ appended l here (held.NextTurn (next i) here.entries) → r ≡ replaced o (next h) (held.FirstTurn (next l + 1)) → CodesPhrase a r here wanted (ForStep (place_in (scene a) here) v x y z body) (max m (max n (max p q)))
for_step_codes {a} {b} {d} {e} {f} {h} {i} {j} {l} {o} {r} {m} {n} {p} {q} here wanted number v x y z body fit there text qb first second qf third qi qj fourth qo qr =
    codes_most _ _ (cc (first.most, second.most, third.most, fourth.most)) (codes_as (code_at (scene a) here wanted (next a) (ForStep (place_in (scene a) here) v x y z body)) _ (λ ts k. same ts ∙ steps_are (scene a) here wanted v x y z body (next a) ts) refl whole)
  where
    to_first : Codes none_own a d (λ ts. step a here instr.Begin ▸ code_at (scene a) here mode.Value (next a + 1) x ts ▸ step a here instr.Push) (marks x) m
    to_first = codes_most _ _ first.most (codes_next_at (before here x held.Push) (λ s. marks x) (λ ts. next a + 1) (λ ts k. refl) (codes_is qb (codes_plain none_own a here held.Begin fit tt refl)) first)

    length_first : (ts : List ℕ) → length (step a here instr.Begin ▸ code_at (scene a) here mode.Value (next a + 1) x ts ▸ step a here instr.Push) ≡ 2 + sized (scene a) here x ts
    length_first ts = let k = joined_length (code_at (scene a) here mode.Value (next a + 1) x ts) (step a here instr.Push) in let s = length_code_at (scene a) here mode.Value (next a + 1) x ts in omega (arith, k, s)

    length_second : (ts : List ℕ) → length (step a here instr.Begin ▸ code_at (scene a) here mode.Value (next a + 1) x ts ▸ step a here instr.Push ▸ code_at (scene a) here mode.Value (next a + 2 + sized (scene a) here x ts) y ts ▸ step a here instr.Push) ≡ 3 + sized (scene a) here x ts + sized (scene a) here y ts
    length_second ts =
        let k = joined_length (code_at (scene a) here mode.Value (next a + 1) x ts) (step a here instr.Push ▸ code_at (scene a) here mode.Value (next a + 2 + sized (scene a) here x ts) y ts ▸ step a here instr.Push) in
        let l = joined_length (code_at (scene a) here mode.Value (next a + 2 + sized (scene a) here x ts) y ts) (step a here instr.Push) in
        let s = length_code_at (scene a) here mode.Value (next a + 1) x ts in
        let t = length_code_at (scene a) here mode.Value (next a + 2 + sized (scene a) here x ts) y ts in
        omega (arith, k, l, s, t)

    to_second : Codes none_own a f (λ ts. step a here instr.Begin ▸ code_at (scene a) here mode.Value (next a + 1) x ts ▸ step a here instr.Push ▸ code_at (scene a) here mode.Value (next a + 2 + sized (scene a) here x ts) y ts ▸ step a here instr.Push) (max (marks x) (marks y)) (max m n)
    to_second = codes_as _ _ (λ ts k. simp joined_assoc) refl (codes_is qf (codes_then_plain here held.Push refl tt
        (codes_next_at (λ s k ts. code_at s here mode.Value k y ts) (λ s. marks y) (λ ts. next a + 2 + sized (scene a) here x ts) (λ ts k. let s = length_first ts in omega (arith, s)) to_first second)))

    to_third : Codes none_own a h (start here x y z (scene a) (next a)) (max (max (marks x) (marks y)) (marks z)) (max (max m n) p)
    to_third = codes_as (start here x y z (scene a) (next a)) _ (λ ts k. simp joined_assoc) refl
        (codes_next_at (before here z held.Push) (λ s. marks z) (λ ts. next a + 3 + sized (scene a) here x ts + sized (scene a) here y ts) (λ ts k. let s = length_second ts in omega (arith, s)) to_second third)

    at_first_turn : (ts : List ℕ) → next h ≡ next a + 4 + sized (scene a) here x ts + sized (scene a) here y ts + sized (scene a) here z ts
    at_first_turn ts =
        let qb' : next b ≡ next a + 1 = ap next qb ∙ next_appended a here held.Begin in
        let x' = behind_before (scene a) here x held.Push ts (ap scene qb) first in
        let y' = next_phrase (scene a) here mode.Value y ts to_first.stays.scene second in
        let qf' : next f ≡ next e + 1 = ap next qf ∙ next_appended e here held.Push in
        let z' = behind_before (scene a) here z held.Push ts to_second.stays.scene third in
        omega (arith, qb', x', y', qf', z')

    at_turn : next i ≡ next h + 1
    at_turn = ap next qi ∙ next_appended h here (held.FirstTurn 0)

    to_turn : Codes none_own a j (λ ts. start here x y z (scene a) (next a) ts ▸ step a here (instr.FirstTurn 0) ▸ step a here (instr.Turn v.text)) (max (max (marks x) (marks y)) (marks z)) (max (max m n) p)
    to_turn =
        let first_turn = codes_is qi (codes_then_plain here (held.FirstTurn 0) refl tt to_third) in
        let named : (number < length i.code.given.names) = subst (λ (g : Given). number < length g.names) (sym (given_there first_turn.stays)) there in
        codes_as (λ ts. start here x y z (scene a) (next a) ts ▸ step a here (instr.FirstTurn 0) ▸ step a here (instr.Turn v.text)) _
        (λ ts k. joined_assoc (start here x y z (scene a) (next a) ts) (step a here (instr.FirstTurn 0)) (step a here (instr.Turn (text_view a.code.given number))) ∙ ap (λ t. start here x y z (scene a) (next a) ts ▸ step a here (instr.FirstTurn 0) ▸ step a here (instr.Turn t)) text) refl
        (codes_is qj (codes_then_plain here (held.Turn number) refl named first_turn))

    to_next : Codes none_own a o (λ ts. start here x y z (scene a) (next a) ts ▸ (step a here (instr.FirstTurn 0) ▸ (step a here (instr.Turn v.text) ▸ turn here v body (scene a) (next a + 6 + sized (scene a) here x ts + sized (scene a) here y ts + sized (scene a) here z ts) ts ▸ step a here (instr.NextTurn (next i) here.entries)))) (max (max (max (marks x) (marks y)) (marks z)) (1 + marks body)) (max (max (max m n) p) q)
    to_next = codes_as _ _ (λ ts k. grouped (start here x y z (scene a) (next a) ts) (step a here (instr.FirstTurn 0)) (step a here (instr.Turn v.text)) (turn here v body (scene a) (next a + 6 + sized (scene a) here x ts + sized (scene a) here y ts + sized (scene a) here z ts) ts) (step a here (instr.NextTurn (next i) here.entries))) refl
        (codes_is qo (codes_then_plain here (held.NextTurn (next i) here.entries) refl tt
        (codes_next_at (turn here v body) (λ s. 1 + marks body) (λ ts. next a + 6 + sized (scene a) here x ts + sized (scene a) here y ts + sized (scene a) here z ts)
        (λ ts k. let l = joined_length (start here x y z (scene a) (next a) ts) (step a here (instr.FirstTurn 0) ▸ step a here (instr.Turn v.text)) in let s = length_start (scene a) here x y z (next a) ts in omega (arith, l, s)) to_turn fourth)))

    whole : Codes none_own a r (λ ts. start here x y z (scene a) (next a) ts ▸ (step a here (instr.FirstTurn (next l + 1)) ▸ (step a here (instr.Turn v.text) ▸ turn here v body (scene a) (next a + 6 + sized (scene a) here x ts + sized (scene a) here y ts + sized (scene a) here z ts) ts ▸ step a here (instr.NextTurn (next i) here.entries)))) (max (max (max (marks x) (marks y)) (marks z)) (1 + marks body)) (max (max (max m n) p) q)
    whole = codes_is qr (codes_replaced (start here x y z (scene a) (next a)) (place_in (scene a) here) (λ ts. instr.FirstTurn 0) (λ ts. step a here (instr.Turn v.text) ▸ turn here v body (scene a) (next a + 6 + sized (scene a) here x ts + sized (scene a) here y ts + sized (scene a) here z ts) ts ▸ step a here (instr.NextTurn (next i) here.entries)) (next h) (held.FirstTurn (next l + 1)) tt
        (λ ts k. let s = length_start (scene a) here x y z (next a) ts in let t = at_first_turn ts in omega (arith, s, t)) to_next)

    same : (ts : List ℕ) → start here x y z (scene a) (next a) ts ▸ (step a here (instr.FirstTurn (next l + 1)) ▸ (step a here (instr.Turn v.text) ▸ turn here v body (scene a) (next a + 6 + sized (scene a) here x ts + sized (scene a) here y ts + sized (scene a) here z ts) ts ▸ step a here (instr.NextTurn (next i) here.entries))) ≡ steps here v x y z body (scene a) (next a) ts
    same ts =
        let s = at_first_turn ts in
        let j' : next j ≡ next i + 1 = ap next qj ∙ next_appended i here (held.Turn number) in
        let l' = behind_turn (scene a) here v body ts to_turn.stays.scene fourth in
        let end : next l + 1 ≡ next a + 7 + sized (scene a) here x ts + sized (scene a) here y ts + sized (scene a) here z ts + turn_sized (scene a) here v body ts = omega (arith, s, at_turn, j', l') in
        let back : next i ≡ next a + 5 + sized (scene a) here x ts + sized (scene a) here y ts + sized (scene a) here z ts = omega (arith, s, at_turn) in
        ap (λ k. start here x y z (scene a) (next a) ts ▸ (step a here (instr.FirstTurn k) ▸ (step a here (instr.Turn v.text) ▸ turn here v body (scene a) (next a + 6 + sized (scene a) here x ts + sized (scene a) here y ts + sized (scene a) here z ts) ts ▸ step a here (instr.NextTurn (next i) here.entries)))) end
        ∙ ap (λ k. start here x y z (scene a) (next a) ts ▸ (step a here (instr.FirstTurn (next a + 7 + sized (scene a) here x ts + sized (scene a) here y ts + sized (scene a) here z ts + turn_sized (scene a) here v body ts)) ▸ (step a here (instr.Turn v.text) ▸ turn here v body (scene a) (next a + 6 + sized (scene a) here x ts + sized (scene a) here y ts + sized (scene a) here z ts) ts ▸ step a here (instr.NextTurn k here.entries)))) back

-- ---- a FOR with values

gathered : (a b c d e f : List code.Coded) → ((a ▸ b ▸ c ▸ d) ▸ e) ▸ f ≡ a ▸ b ▸ c ▸ d ▸ e ▸ f
gathered a b c d e f = simp joined_assoc

pub for_list_codes : {a b c d e f g h : Emitter} {m n : ℕ} (here : Here) (wanted : Mode) (v : Name) (values : Phrases) (body : Phrase) → CodeFits a.code → b ≡ appended a here held.Begin → c ≡ appended b here (held.Jump 0) → Codes none_own c d (turn here v body (scene c) (next c)) (1 + marks body) m → e ≡ appended d here (held.EndTurn here.entries) → f ≡ replaced e (next b) (held.Jump (next e)) → Codes none_own f g (λ ts. coding.code_list (coding_context (scene f) ts here) (place_in (scene f) here) v (next c) (next f) values) (phrases_marks values) n → h ≡ appended g here held.Nothing → CodesPhrase a h here wanted (ForList (place_in (scene a) here) v values body) (max n m)
for_list_codes {a} {b} {c} {d} {e} {f} {g} {h} {m} {n} here wanted v values body fit qb qc first qe qf second qh =
    codes_most _ _ (cc (first.most, second.most)) (codes_as (code_at (scene a) here wanted (next a) (ForList (place_in (scene a) here) v values body)) _ (λ ts k. same ts) refl whole)
  where
    to_jump : Codes none_own a c (λ ts. step a here instr.Begin ▸ step a here (instr.Jump 0)) 0 0
    to_jump = codes_is qc (codes_then_plain here (held.Jump 0) refl tt (codes_is qb (codes_plain none_own a here held.Begin fit tt refl)))

    at_jump : next b ≡ next a + 1
    at_jump = ap next qb ∙ next_appended a here held.Begin

    at_body : next c ≡ next a + 2
    at_body = let q : next c ≡ next b + 1 = ap next qc ∙ next_appended b here (held.Jump 0) in omega (arith, at_jump, q)

    at_list : (ts : List ℕ) → next e ≡ next a + 3 + turn_sized (scene a) here v body ts
    at_list ts =
        let q : next e ≡ next d + 1 = ap next qe ∙ next_appended d here (held.EndTurn here.entries) in
        let r = behind_turn (scene a) here v body ts to_jump.stays.scene first in
        omega (arith, at_body, q, r)

    to_end : Codes none_own a e (λ ts. step a here instr.Begin ▸ step a here (instr.Jump 0) ▸ turn here v body (scene a) (next a + 2) ts ▸ step a here (instr.EndTurn here.entries)) (1 + marks body) m
    to_end = codes_is qe (codes_as _ _ (λ ts k. simp joined_assoc) refl (codes_then_plain here (held.EndTurn here.entries) refl tt
        (codes_most _ _ first.most (codes_next_at (turn here v body) (λ s. 1 + marks body) (λ ts. next a + 2) (λ ts k. refl) to_jump first))))

    to_list : Codes none_own a f (λ ts. step a here instr.Begin ▸ step a here (instr.Jump (next e)) ▸ turn here v body (scene a) (next a + 2) ts ▸ step a here (instr.EndTurn here.entries)) (1 + marks body) m
    to_list = codes_is qf (codes_replaced (λ ts. step a here instr.Begin) (place_in (scene a) here) (λ ts. instr.Jump 0) (λ ts. turn here v body (scene a) (next a + 2) ts ▸ step a here (instr.EndTurn here.entries)) (next b) (held.Jump (next e)) tt (λ ts k. at_jump) to_end)

    whole : Codes none_own a h (λ ts. ((step a here instr.Begin ▸ step a here (instr.Jump (next e)) ▸ turn here v body (scene a) (next a + 2) ts ▸ step a here (instr.EndTurn here.entries)) ▸ coding.code_list (coding_context (scene a) ts here) (place_in (scene a) here) v (next c) (next a + 3 + turn_sized (scene a) here v body ts) values) ▸ step a here instr.Nothing) (max (1 + marks body) (phrases_marks values)) (max m n)
    whole = codes_is qh (codes_then_plain here held.Nothing refl tt
        (codes_next_at (λ s k ts. coding.code_list (coding_context s ts here) (place_in s here) v (next c) k values) (λ s. phrases_marks values) (λ ts. next a + 3 + turn_sized (scene a) here v body ts)
        (λ ts k. let l = joined_length (turn here v body (scene a) (next a + 2) ts) (step a here (instr.EndTurn here.entries)) in let s = length_turn (scene a) here v body (next a + 2) ts in omega (arith, l, s)) to_list second))

    same : (ts : List ℕ) → ((step a here instr.Begin ▸ step a here (instr.Jump (next e)) ▸ turn here v body (scene a) (next a + 2) ts ▸ step a here (instr.EndTurn here.entries)) ▸ coding.code_list (coding_context (scene a) ts here) (place_in (scene a) here) v (next c) (next a + 3 + turn_sized (scene a) here v body ts) values) ▸ step a here instr.Nothing ≡ code_at (scene a) here wanted (next a) (ForList (place_in (scene a) here) v values body) ts
    same ts =
        ap (λ k. ((step a here instr.Begin ▸ step a here (instr.Jump k) ▸ turn here v body (scene a) (next a + 2) ts ▸ step a here (instr.EndTurn here.entries)) ▸ coding.code_list (coding_context (scene a) ts here) (place_in (scene a) here) v (next c) (next a + 3 + turn_sized (scene a) here v body ts) values) ▸ step a here instr.Nothing) (at_list ts)
        ∙ ap (λ k. ((step a here instr.Begin ▸ step a here (instr.Jump (next a + 3 + turn_sized (scene a) here v body ts)) ▸ turn here v body (scene a) (next a + 2) ts ▸ step a here (instr.EndTurn here.entries)) ▸ coding.code_list (coding_context (scene a) ts here) (place_in (scene a) here) v k (next a + 3 + turn_sized (scene a) here v body ts) values) ▸ step a here instr.Nothing) at_body
        ∙ gathered (step a here instr.Begin) (step a here (instr.Jump (next a + 3 + turn_sized (scene a) here v body ts))) (turn here v body (scene a) (next a + 2) ts) (step a here (instr.EndTurn here.entries)) (coding.code_list (coding_context (scene a) ts here) (place_in (scene a) here) v (next a + 2) (next a + 3 + turn_sized (scene a) here v body ts) values) (step a here instr.Nothing)
