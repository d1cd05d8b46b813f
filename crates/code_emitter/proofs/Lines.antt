-- Kinds of phrases that are coded when their parts are.
use Rattle.std.proofs.Common.{◌≡◌, ℕ, ◌+◌, max, List, [], length, map, Option, Some, None, refl, sym, ap, ◌∙◌, subst, arith}
use Rattle.std.specs.Option.{option_map}
use Rattle.std.specs.Prelude.{Bool, true}
use Rattle.value_ops.specs.declared.values.SimpleType.{SimpleType}
use Rattle.phrase_code.specs.Coding.{◌▸◌, begin_code, is_none, known_of, make_code}
use Rattle.phrase_code.specs.Marks.{marks}
use Rattle.phrase_code.specs.Sizes.{begin_size, size}
use Rattle.phrase_code.proofs.Sizes.{begin_sized}
use Rattle.program_meaning.specs.Phrases.{Phrase, Assign, IfThen}
use Rattle.stack_code.specs.Code as code
use Rattle.stack_code.specs.CodeView.{CodeFits, Given, InstrFits, KindsFit, kind_view, kinds_view, statement_view}
use Rattle.stack_code.specs.Instr as instr
use Rattle.stack_code.specs.declared.instructions.Instr.{Instr}
use Rattle.stack_code.specs.declared.instructions.Instr.TheVariants as held
use Rattle.stack_code.specs.declared.instructions.Mode.{Mode}
use Rattle.stack_code.specs.declared.instructions.Mode.TheVariants as mode
use Rattle.symbol_table.specs.declared.here.Here.{Here}
use Rattle.symbol_table.specs.Contexts.{Scene, stands}
use Rattle.symbol_table.specs.Heres.{in_statement}
use Rattle.code_emitter.specs.Appending.{appended, begun, made_into, replaced}
use Rattle.code_emitter.specs.Forms.{before, choice, pair, sized}
use Rattle.code_emitter.specs.Parts.{Codes, CodesPhrase, code_at, is_plain, next, none_own, one_in, place_in, scene}
use Rattle.code_emitter.specs.declared.emitter.Emitter.{Emitter}
use Rattle.code_emitter.proofs.Composing.{fits_there, given_there, known_anywhere, length_code_at}
use Rattle.code_emitter.proofs.Emitting.{joined_assoc, joined_length, next_appended, next_replaced, step}
use Rattle.code_emitter.proofs.Joining.{codes_as, codes_begun, codes_is, codes_most, codes_next_at, codes_plain, codes_replaced, codes_then_made, codes_then_plain, next_by, next_phrase}

-- its size goes by what is known of names alone
pub sized_anywhere : (s : Scene) (here : Here) (x : Phrase) (ts : List ℕ) → sized s here x ts ≡ size (map known_of (stands s [] s.symbols.names)) x
sized_anywhere s here x ts = ap (λ names. size names x) (known_anywhere s here ts [])

-- any phrase with an instruction behind it
pub before_codes : {a b c : Emitter} {m : ℕ} (here : Here) (wanted : Mode) (x : Phrase) (does : Instr) → is_plain does ≡ true → InstrFits a.code.given a.code.added does → CodesPhrase a b here wanted x m → c ≡ appended b here does → Codes none_own a c (λ ts. code_at (scene a) here wanted (next a) x ts ▸ one_in (scene a) here ts does) (marks x) m
before_codes here wanted x does is f first e = codes_is e (codes_then_plain here does is (fits_there does first.stays f) first)

length_before : (s : Scene) (here : Here) (wanted : Mode) (x : Phrase) (does : Instr) (k : ℕ) (ts : List ℕ) → length (code_at s here wanted k x ts ▸ one_in s here ts does) ≡ sized s here x ts + 1
length_before s here wanted x does k ts = let l = joined_length (code_at s here wanted k x ts) (one_in s here ts does) in let n = length_code_at s here wanted k x ts in omega (arith, l, n)

pub behind_before : {a b : Emitter} {q n : ℕ} (s : Scene) (here : Here) (x : Phrase) (does : Instr) (ts : List ℕ) → scene a ≡ s → Codes none_own a b (before here x does (scene a) (next a)) q n → next b ≡ next a + (sized s here x ts + 1)
behind_before {a} {b} s here x does ts e c =
    next_by (sized (scene a) here x ts + 1) (λ us. length_before (scene a) here mode.Value x does (next a) us ∙ ap (λ names. size names x + 1) (known_anywhere (scene a) here us ts)) c
    ∙ ap (λ t. next a + (sized t here x ts + 1)) e

-- two phrases, the first pushed, and an instruction behind them
pub pair_codes : {a b c d : Emitter} {m n : ℕ} (here : Here) (wanted : Mode) (x y : Phrase) (does : Instr) → CodesPhrase a b here wanted x m → c ≡ appended b here held.Push → Codes none_own c d (before here y does (scene c) (next c)) (marks y) n → Codes none_own a d (pair here wanted x y does (scene a) (next a)) (max (marks x) (marks y)) (max m n)
pair_codes {a} here wanted x y does first q second =
    let pushed = codes_is q (codes_then_plain here held.Push refl tt first) in
    codes_as (pair here wanted x y does (scene a) (next a)) _ (λ ts h. joined_assoc (code_at (scene a) here wanted (next a) x ts) (one_in (scene a) here ts held.Push) (before here y does (scene a) (next a + (sized (scene a) here x ts + 1)) ts)) refl
    (codes_next_at (before here y does) (λ s. marks y) (λ ts. next a + (sized (scene a) here x ts + 1)) (λ ts h. ap (λ n. next a + n) (length_before (scene a) here wanted x held.Push (next a) ts)) pushed second)

-- the value of a phrase as a statement, and an instruction behind it
pub statement_codes : {a b c : Emitter} {m : ℕ} (here : Here) (x : Phrase) (does : Instr) → CodeFits a.code → b ≡ appended a here held.Begin → Codes none_own b c (before here x does (scene b) (next b)) (marks x) m → Codes none_own a c (λ ts. one_in (scene a) here ts held.Begin ▸ code_at (scene a) here mode.Value (next a + 1) x ts ▸ one_in (scene a) here ts does) (marks x) m
statement_codes {a} here x does h e part =
    let begin = codes_is e (codes_plain none_own a here held.Begin h tt refl) in
    codes_most _ _ part.most (codes_next_at (before here x does) (λ s. marks x) (λ ts. next a + 1) (λ ts k. refl) begin part)

-- ---- a choice

-- its parts, each from where it begins
abbrev condition : Emitter → Here → Phrase → List ℕ → List code.Coded
condition a here x ts = code_at (scene a) here mode.Value (next a) x ts

abbrev then : Emitter → Here → (x y : Phrase) → List ℕ → List code.Coded
then a here x y ts = code_at (scene a) here mode.Value (next a + sized (scene a) here x ts + 1) y ts

abbrev otherwise : Emitter → Here → (x y z : Phrase) → List ℕ → List code.Coded
otherwise a here x y z ts = code_at (scene a) here mode.Value (next a + sized (scene a) here x ts + sized (scene a) here y ts + 2) z ts

pub choice_codes : {a b c d e f g h i : Emitter} {m n o : ℕ} (here : Here) (t : Option SimpleType) (x y z : Phrase) → KindsFit a.code.given t → CodesPhrase a b here mode.Value x m → c ≡ appended b here (held.JumpUnless 0) → CodesPhrase c d here mode.Value y n → e ≡ appended d here (held.Jump 0) → f ≡ replaced e (next b) (held.JumpUnless (next d + 1)) → CodesPhrase f g here mode.Value z o → h ≡ replaced g (next d) (held.Jump (next g)) → i ≡ made_into h here t → Codes none_own a i (choice here t x y z (scene a) (next a)) (max (marks x) (max (marks y) (marks z))) (max m (max n o))
choice_codes {a} {b} {c} {d} {e} {f} {g} {h} {i} {m} {n} {o} here t x y z fits first qc second qe qf third qh qi =
    codes_most _ _ (cc (first.most, second.most, third.most)) (codes_as (choice here t x y z (scene a) (next a)) _ (λ ts k. same ts) refl whole)
  where
    to_condition : Codes none_own a c (λ ts. condition a here x ts ▸ step a here (instr.JumpUnless 0)) (marks x) m
    to_condition = codes_is qc (codes_then_plain here (held.JumpUnless 0) refl tt first)

    behind_condition : (ts : List ℕ) → next b ≡ next a + sized (scene a) here x ts
    behind_condition ts = next_phrase (scene a) here mode.Value x ts refl first

    behind_then : (ts : List ℕ) → next d ≡ next a + sized (scene a) here x ts + 1 + sized (scene a) here y ts
    behind_then ts =
        let p = behind_condition ts in
        let q : next c ≡ next b + 1 = ap next qc ∙ next_appended b here (held.JumpUnless 0) in
        let r = next_phrase (scene a) here mode.Value y ts to_condition.stays.scene second in
        omega (arith, p, q, r)

    length_condition : (ts : List ℕ) → length (condition a here x ts) ≡ sized (scene a) here x ts
    length_condition ts = length_code_at (scene a) here mode.Value (next a) x ts

    length_then : (ts : List ℕ) → length (then a here x y ts) ≡ sized (scene a) here y ts
    length_then ts = length_code_at (scene a) here mode.Value (next a + sized (scene a) here x ts + 1) y ts

    to_then : Codes none_own a e (λ ts. condition a here x ts ▸ step a here (instr.JumpUnless 0) ▸ then a here x y ts ▸ step a here (instr.Jump 0)) (max (marks x) (marks y)) (max m n)
    to_then = codes_as _ _ (λ ts k. simp joined_assoc) refl (codes_is qe (codes_then_plain here (held.Jump 0) refl tt
        (codes_next_at (λ s k ts. code_at s here mode.Value k y ts) (λ s. marks y) (λ ts. next a + sized (scene a) here x ts + 1)
        (λ ts k. let l = joined_length (condition a here x ts) (step a here (instr.JumpUnless 0)) in let p = length_condition ts in omega (arith, l, p)) to_condition second)))

    jumped : Codes none_own a f (λ ts. condition a here x ts ▸ step a here (instr.JumpUnless (next d + 1)) ▸ then a here x y ts ▸ step a here (instr.Jump 0)) (max (marks x) (marks y)) (max m n)
    jumped = codes_is qf (codes_replaced (condition a here x) (place_in (scene a) here) (λ ts. instr.JumpUnless 0) (λ ts. then a here x y ts ▸ step a here (instr.Jump 0)) (next b) (held.JumpUnless (next d + 1)) tt
        (λ ts k. let p = behind_condition ts in let l = length_condition ts in omega (arith, p, l)) to_then)

    to_otherwise : Codes none_own a g (λ ts. (condition a here x ts ▸ step a here (instr.JumpUnless (next d + 1)) ▸ then a here x y ts) ▸ step a here (instr.Jump 0) ▸ otherwise a here x y z ts) (max (max (marks x) (marks y)) (marks z)) (max (max m n) o)
    to_otherwise = codes_as _ _ (λ ts k. simp joined_assoc) refl
        (codes_next_at (λ s k ts. code_at s here mode.Value k z ts) (λ s. marks z) (λ ts. next a + sized (scene a) here x ts + sized (scene a) here y ts + 2)
        (λ ts k. let l = joined_length (condition a here x ts) (step a here (instr.JumpUnless (next d + 1)) ▸ then a here x y ts ▸ step a here (instr.Jump 0)) in let r = joined_length (then a here x y ts) (step a here (instr.Jump 0)) in let p = length_condition ts in let q = length_then ts in omega (arith, l, r, p, q)) jumped third)

    whole : Codes none_own a i (λ ts. ((condition a here x ts ▸ step a here (instr.JumpUnless (next d + 1)) ▸ then a here x y ts) ▸ step a here (instr.Jump (next g)) ▸ otherwise a here x y z ts) ▸ make_code (place_in (scene a) here) (kinds_view a.code.given t)) (max (max (marks x) (marks y)) (marks z)) (max (max m n) o)
    whole =
        let ended = codes_is qh (codes_replaced (λ ts. condition a here x ts ▸ step a here (instr.JumpUnless (next d + 1)) ▸ then a here x y ts) (place_in (scene a) here) (λ ts. instr.Jump 0) (otherwise a here x y z) (next d) (held.Jump (next g)) tt
        (λ ts k. let l = joined_length (condition a here x ts) (step a here (instr.JumpUnless (next d + 1)) ▸ then a here x y ts) in let p = length_condition ts in let q = length_then ts in let r = behind_then ts in omega (arith, l, p, q, r)) to_otherwise) in
        codes_is qi (codes_then_made here t (subst (λ (s : Given). KindsFit s t) (sym (given_there ended.stays)) fits) ended)

    same : (ts : List ℕ) → ((condition a here x ts ▸ step a here (instr.JumpUnless (next d + 1)) ▸ then a here x y ts) ▸ step a here (instr.Jump (next g)) ▸ otherwise a here x y z ts) ▸ make_code (place_in (scene a) here) (kinds_view a.code.given t) ≡ choice here t x y z (scene a) (next a) ts
    same ts =
        let p = behind_then ts in
        let first_jump : next d + 1 ≡ next a + sized (scene a) here x ts + sized (scene a) here y ts + 2 = omega (arith, p) in
        let q : next f ≡ next d + 1 = ap next qf ∙ next_replaced e (next b) (held.JumpUnless (next d + 1)) ∙ ap next qe ∙ next_appended d here (held.Jump 0) in
        let r = next_phrase (scene a) here mode.Value z ts jumped.stays.scene third in
        let last_jump : next g ≡ next a + sized (scene a) here x ts + sized (scene a) here y ts + 2 + sized (scene a) here z ts = omega (arith, p, q, r) in
        rw (first_jump, last_jump) (simp joined_assoc)

-- a choice that is neither a statement nor made into a type
choice_is : (s : Scene) (here : Here) (wanted : Mode) (x y z : Phrase) (k : ℕ) (ts : List ℕ) → choice here None x y z s k ts ≡ code_at s here wanted k (IfThen None None x y z) ts
choice_is s here wanted x y z k ts = let e : k ≡ k + 0 = omega arith in ap (λ n. choice here None x y z s n ts) e

pub choice_alone_codes : {a b : Emitter} {m : ℕ} (here : Here) (wanted : Mode) (x y z : Phrase) → Codes none_own a b (choice here None x y z (scene a) (next a)) (max (marks x) (max (marks y) (marks z))) m → CodesPhrase a b here wanted (IfThen None None x y z) m
choice_alone_codes {a} here wanted x y z c = codes_as (code_at (scene a) here wanted (next a) (IfThen None None x y z)) _ (λ ts k. choice_is (scene a) here wanted x y z (next a) ts) refl c

-- and made into a type where there is one
choice_made : (a b c d e : List code.Coded) (f : List code.Coded) → (a ▸ b ▸ c ▸ d ▸ e ▸ []) ▸ f ≡ a ▸ b ▸ c ▸ d ▸ e ▸ f
choice_made a b c d e f = simp joined_assoc

pub choice_made_codes : {a b c : Emitter} {m : ℕ} (here : Here) (wanted : Mode) (t : Option SimpleType) (x y z : Phrase) → KindsFit a.code.given t → CodesPhrase a b here wanted (IfThen None None x y z) m → c ≡ made_into b here t → Codes none_own a c (choice here t x y z (scene a) (next a)) (max (marks x) (max (marks y) (marks z))) m
choice_made_codes {a} {b} here wanted t x y z fits part e =
    codes_as (choice here t x y z (scene a) (next a)) _
    (λ ts k. ap (λ l. l ▸ make_code (place_in (scene a) here) (kinds_view a.code.given t)) (sym (choice_is (scene a) here wanted x y z (next a) ts))
    ∙ choice_made (code_at (scene a) here mode.Value (next a) x ts) (step a here (instr.JumpUnless (next a + sized (scene a) here x ts + sized (scene a) here y ts + 2))) (code_at (scene a) here mode.Value (next a + sized (scene a) here x ts + 1) y ts) (step a here (instr.Jump (next a + sized (scene a) here x ts + sized (scene a) here y ts + 2 + sized (scene a) here z ts))) (code_at (scene a) here mode.Value (next a + sized (scene a) here x ts + sized (scene a) here y ts + 2) z ts) (make_code (place_in (scene a) here) (kinds_view a.code.given t))) refl
    (codes_is e (codes_then_made here t (subst (λ (s : Given). KindsFit s t) (sym (given_there part.stays)) fits) part))

-- ---- what begins a statement

pub next_begun : (e : Emitter) (here : Here) (st : Option ℕ) → next (begun e here st) ≡ next e + begin_size (option_map (statement_view e.code.given) st)
next_begun e here None = omega arith
next_begun e here (Some statement) = next_appended e (in_statement here (Some statement)) held.Begin

pub begun_codes : {a b c : Emitter} {q n : ℕ} (here : Here) (st : Option ℕ) (f : Scene → ℕ → List ℕ → List code.Coded) → CodeFits a.code → b ≡ begun a here st → Codes none_own b c (f (scene b) (next b)) q n → Codes none_own a c (λ ts. begin_code (option_map (statement_view a.code.given) st) ▸ f (scene a) (next a + begin_size (option_map (statement_view a.code.given) st)) ts) q n
begun_codes {a} {b} {c} {q} {n} here st f h e part =
    let begin : Codes none_own a b (λ ts. begin_code (option_map (statement_view a.code.given) st)) 0 0 = codes_is e (codes_begun none_own a here st h) in
    codes_most q n part.most (codes_next_at f (λ s. q) (λ ts. next a + begin_size (option_map (statement_view a.code.given) st))
    (λ ts k. let l = (begin_sized (option_map (statement_view a.code.given) st)).by in omega (arith, l)) begin part)

-- a choice that may be a statement
if_then_is : (s : Scene) (here : Here) (wanted : Mode) (st : Option ℕ) (t : Option SimpleType) (x y z : Phrase) (k : ℕ) (ts : List ℕ) → begin_code (option_map (statement_view s.given) st) ▸ choice (in_statement here st) t x y z s (k + begin_size (option_map (statement_view s.given) st)) ts ≡ code_at s here wanted k (IfThen (option_map (statement_view s.given) st) (kinds_view s.given t) x y z) ts
if_then_is s here wanted None t x y z k ts = refl
if_then_is s here wanted (Some statement) t x y z k ts = refl

pub if_then_codes : {a b c : Emitter} {n : ℕ} (here : Here) (wanted : Mode) (st : Option ℕ) (t : Option SimpleType) (x y z : Phrase) → CodeFits a.code → b ≡ begun a here st → Codes none_own b c (choice (in_statement here st) t x y z (scene b) (next b)) (max (marks x) (max (marks y) (marks z))) n → CodesPhrase a c here wanted (IfThen (option_map (statement_view a.code.given) st) (kinds_view a.code.given t) x y z) n
if_then_codes {a} here wanted st t x y z h e part = codes_as (code_at (scene a) here wanted (next a) (IfThen (option_map (statement_view a.code.given) st) (kinds_view a.code.given t) x y z)) _ (λ ts k. if_then_is (scene a) here wanted st t x y z (next a) ts) refl (begun_codes here st (choice (in_statement here st) t x y z) h e part)

-- ---- an assignment

assign_is : (s : Scene) (here : Here) (wanted : Mode) (st : Option ℕ) (t : SimpleType) (x y : Phrase) (k : ℕ) (ts : List ℕ) → begin_code (option_map (statement_view s.given) st) ▸ pair (in_statement here st) mode.Place x y (held.Assign t (is_none (option_map (statement_view s.given) st))) s (k + begin_size (option_map (statement_view s.given) st)) ts ≡ code_at s here wanted k (Assign (option_map (statement_view s.given) st) (kind_view s.given t) x y) ts
assign_is s here wanted None t x y k ts = let e : k + 0 + (sized s here x ts + 1) ≡ k + 0 + sized s here x ts + 1 = omega arith in rw e refl
assign_is s here wanted (Some statement) t x y k ts = let e : k + 1 + (sized s here x ts + 1) ≡ k + 1 + sized s here x ts + 1 = omega arith in rw e refl

pub assign_codes : {a b c : Emitter} {n : ℕ} (here : Here) (wanted : Mode) (st : Option ℕ) (t : SimpleType) (x y : Phrase) (alone : Bool) → alone ≡ is_none (option_map (statement_view a.code.given) st) → CodeFits a.code → b ≡ begun a here st → Codes none_own b c (pair (in_statement here st) mode.Place x y (held.Assign t alone) (scene b) (next b)) (max (marks x) (marks y)) n → CodesPhrase a c here wanted (Assign (option_map (statement_view a.code.given) st) (kind_view a.code.given t) x y) n
assign_codes {a} here wanted st t x y alone q h e part =
    codes_as (code_at (scene a) here wanted (next a) (Assign (option_map (statement_view a.code.given) st) (kind_view a.code.given t) x y)) _
    (λ ts k. ap (λ b. begin_code (option_map (statement_view a.code.given) st) ▸ pair (in_statement here st) mode.Place x y (held.Assign t b) (scene a) (next a + begin_size (option_map (statement_view a.code.given) st)) ts) q ∙ assign_is (scene a) here wanted st t x y (next a) ts) refl
    (begun_codes here st (pair (in_statement here st) mode.Place x y (held.Assign t alone)) h e part)
