-- How the parts of a program that are coded make greater parts.
use Rattle.std.proofs.Common.{◌≡◌, ℕ, ◌+◌, ◌<◌, ◌≤◌, max, List, [], ◌++◌, length, Option, Some, None, refl, sym, ap, ◌∙◌, subst, arith}
use Rattle.std.specs.Option.{option_map}
use Rattle.std.specs.Prelude.{true}
use Rattle.std.specs.declared.alloc.Global.{Global}
use Rattle.std.specs.declared.vec.Vec.{Vec}
use Rattle.std.proofs.lemmas.List.{append_assoc, length-append, length_push}
use Rattle.value_ops.specs.declared.places.Place.{Place}
use Rattle.value_ops.specs.declared.values.SimpleType.{SimpleType}
use Rattle.phrase_code.specs.Coding.{◌▸◌, begin_code, known, make_code, one, text_code}
use Rattle.phrase_code.specs.Sizes.{size, text_size}
use Rattle.program_meaning.specs.Phrases.{Phrase}
use Rattle.stack_code.specs.Code as code
use Rattle.stack_code.specs.CodeView.{CodeFits, Given, InstrFits, KindsFit, TextFits, kinds_view, procedure_of, reading_view, statement_view, text_head_view, text_of}
use Rattle.stack_code.specs.Instr as instr
use Rattle.stack_code.specs.Linking.{linked_added, linked_reading, linked_text}
use Rattle.stack_code.specs.Making.{with_replaced}
use Rattle.stack_code.specs.declared.heads.TextHead.{TextHead}
use Rattle.stack_code.specs.declared.instructions.Instr.{Instr}
use Rattle.stack_code.specs.declared.instructions.Instr.TheVariants as held
use Rattle.stack_code.specs.declared.instructions.Mode.{Mode}
use Rattle.symbol_table.specs.declared.here.Here.{Here}
use Rattle.symbol_table.specs.Contexts.{Scene, coding_context}
use Rattle.symbol_table.specs.Symbols.{SymbolsView}
use Rattle.code_emitter.specs.Appending.{appended, begun, final_targets, made_into, replaced, text_closed, text_opened}
use Rattle.code_emitter.specs.Parts.{AreOpen, Codes, CodesPhrase, Meets, Own, Stays, instr_in, is_plain, linked_code, next, none_own, one_in, place_in, plain, scene}
use Rattle.code_emitter.specs.declared.emitter.Emitter.{Emitter}
use Rattle.code_emitter.proofs.Composing.{Within, and_behind, behind_within, fits_there, front_within, given_there, known_anywhere, length_code_at, meets_before, meets_final, meets_none, none_within, open_none, stays_appended, stays_behind, stays_closed, stays_itself, stays_joined, stays_pending, stays_replaced, stays_symbols, stays_text, stays_then, stays_wider}
use Rattle.code_emitter.proofs.Emitting.{appended_code, appended_plain, behind_none, chain, joined_is, joined_none, longer, next_linked, patched, plain_instr, text_code as text_added, step}
use Rattle.code_emitter.proofs.Tables.{procedure_later, text_fits, text_found, text_later}

-- ---- a part told otherwise

pub codes_as : {own : Own} {a b : Emitter} {x : List ℕ → List code.Coded} {p m : ℕ} (y : List ℕ → List code.Coded) (q : ℕ) → ((ts : List ℕ) → Meets b.targets.items ts → x ts ≡ y ts) → p ≡ q → Codes own a b x p m → Codes own a b y q m
codes_as {own} {a} {b} y q same most c = record { stays = c.stays; behind = λ ts h. c.behind ts h ∙ ap (λ l. linked_code ts a ++ l) (same ts h); most = c.most ∙ most }

-- the same part, where what is behind it goes by another name
pub codes_is : {own : Own} {a b c : Emitter} {x : List ℕ → List code.Coded} {p m : ℕ} → c ≡ b → Codes own a b x p m → Codes own a c x p m
codes_is {own} {a} {b} {c} {x} {p} {m} e part = subst (λ (d : Emitter). Codes own a d x p m) (sym e) part

-- and the same, with its marks told otherwise
pub codes_most : {own : Own} {a b : Emitter} {x : List ℕ → List code.Coded} {p m : ℕ} (q n : ℕ) → n ≡ q → Codes own a b x p m → Codes own a b x q n
codes_most q n e c = record { stays = c.stays; behind = c.behind; most = e }

pub codes_wider : {one own : Own} {a b : Emitter} {x : List ℕ → List code.Coded} {p m : ℕ} → Within one own → Codes one a b x p m → Codes own a b x p m
codes_wider w c = record { stays = stays_wider w c.stays; behind = c.behind; most = c.most }

-- to those outside, targets that weren't there are nobody's
pub codes_closed : {own : Own} {a b : Emitter} {x : List ℕ → List code.Coded} {p m : ℕ} → length a.targets.items ≤ own.first → Codes own a b x p m → Codes none_own a b x p m
codes_closed l c = record { stays = stays_closed l c.stays; behind = c.behind; most = c.most }

-- what is pending may be other before and behind it
pub codes_pending : {own : Own} {a b : Emitter} {x : List ℕ → List code.Coded} {p m : ℕ} (v w : Vec ℕ Global) → w.items ≡ v.items → Codes own a b x p m → Codes own (record a { pending = v }) (record b { pending = w }) x p m
codes_pending v w e c = record { stays = stays_pending v w e c.stays; behind = c.behind; most = c.most }

-- and so may what is known of names: names are declared before a part, and taken back behind it
pub codes_symbols : {own : Own} {a b : Emitter} {x : List ℕ → List code.Coded} {p m : ℕ} (s t : SymbolsView) → t ≡ s → Codes own a b x p m → Codes own (record a { symbols = s }) (record b { symbols = t }) x p m
codes_symbols s t e c = record { stays = stays_symbols s t e c.stays; behind = c.behind; most = c.most }

-- where the next instruction is behind it
pub next_behind : {own : Own} {a b : Emitter} {x : List ℕ → List code.Coded} {p m : ℕ} (ts : List ℕ) → Codes own a b x p m → Meets b.targets.items ts → next b ≡ next a + length (x ts)
next_behind {own} {a} {b} {x} ts c h = longer ts a b (x ts) (c.behind ts h)

-- the same, where its length is one with whichever instructions at the targets
pub next_by : {own : Own} {a b : Emitter} {x : List ℕ → List code.Coded} {p m : ℕ} (n : ℕ) → ((ts : List ℕ) → length (x ts) ≡ n) → Codes own a b x p m → next b ≡ next a + n
next_by {own} {a} {b} n l c = let at = next_behind (final_targets b.targets.items) c (meets_final b.targets.items) in let long = l (final_targets b.targets.items) in omega (arith, at, long)

pub next_phrase : {a b : Emitter} {m : ℕ} (s : Scene) (here : Here) (wanted : Mode) (x : Phrase) (ts : List ℕ) → scene a ≡ s → CodesPhrase a b here wanted x m → next b ≡ next a + size (known (coding_context s ts here)) x
next_phrase {a} {b} s here wanted x ts e c =
    let at = next_by (size (known (coding_context (scene a) ts here)) x) (λ us. length_code_at (scene a) here wanted (next a) x us ∙ ap (λ k. size k x) (known_anywhere (scene a) here us ts)) c in
    at ∙ ap (λ (t : Scene). next a + size (known (coding_context t ts here)) x) e

-- ---- nothing, and what adds no instruction

pub codes_nothing : (own : Own) (e : Emitter) → CodeFits e.code → Codes own e e (λ ts. []) 0 0
codes_nothing own e h = record { stays = stays_itself own e h; behind = λ ts m. behind_none ts e; most = refl }

-- a step that leaves the instructions: something added to tables, and targets
pub codes_no_more : {own : Own} {a b : Emitter} → Stays own a b → ((ts : List ℕ) → linked_code ts b ≡ linked_code ts a) → Codes own a b (λ ts. []) 0 0
codes_no_more {own} {a} {b} x e = record { stays = x; behind = λ ts m. e ts ∙ behind_none ts a; most = refl }

-- such a step before a part, and behind it
pub codes_from : {own : Own} {a b c : Emitter} {x : List ℕ → List code.Coded} {p m : ℕ} → Stays none_own a b → ((ts : List ℕ) → linked_code ts b ≡ linked_code ts a) → Codes own b c x p m → Codes own a c x p m
codes_from {own} {a} {b} {c} {x} s e part = record { stays = stays_behind s part.stays; behind = λ ts h. part.behind ts h ∙ ap (λ l. l ++ x ts) (e ts); most = part.most }

pub codes_to : {own : Own} {a b c : Emitter} {x : List ℕ → List code.Coded} {p m : ℕ} → Stays none_own b c → ((ts : List ℕ) → linked_code ts c ≡ linked_code ts b) → Codes own a b x p m → Codes own a c x p m
codes_to {own} {a} {b} {c} {x} s e part = record { stays = stays_then part.stays s; behind = λ ts h. e ts ∙ part.behind ts (meets_none ts s h); most = part.most }

-- ---- two parts

pub codes_joined : {one two own : Own} {a b c : Emitter} {x y : List ℕ → List code.Coded} {p q m n : ℕ} → Within one own → Within two own → AreOpen two b.targets.items → Codes one a b x p m → Codes two b c y q n → Codes own a c (λ ts. x ts ▸ y ts) (max p q) (max m n)
codes_joined {one} {two} {own} {a} {b} {c} {x} {y} {p} {q} {m} {n} v w o first second = record {
  stays = stays_joined v w first.stays second.stays;
  behind = λ ts h. chain ts a b c (x ts) (y ts) (first.behind ts (meets_before ts second.stays o h)) (second.behind ts h);
  most = ap (λ k. max k n) first.most ∙ ap (max p) second.most;
}

pub codes_then : {own : Own} {a b c : Emitter} {x y : List ℕ → List code.Coded} {p q m n : ℕ} → Codes own a b x p m → Codes none_own b c y q n → Codes own a c (λ ts. x ts ▸ y ts) (max p q) (max m n)
codes_then {own} {a} {b} first second = codes_joined (λ n h. h) (none_within own) (open_none b.targets.items) first second

pub codes_behind : {own : Own} {a b c : Emitter} {x y : List ℕ → List code.Coded} {p q m n : ℕ} → AreOpen own b.targets.items → Codes none_own a b x p m → Codes own b c y q n → Codes own a c (λ ts. x ts ▸ y ts) (max p q) (max m n)
codes_behind {own} o first second = codes_joined (none_within own) (λ n h. h) o first second

pub codes_neighbours : {one two : Own} {a b c : Emitter} {x y : List ℕ → List code.Coded} {p q m n : ℕ} → one.first + one.count ≡ two.first → AreOpen two b.targets.items → Codes one a b x p m → Codes two b c y q n → Codes (and_behind one two) a c (λ ts. x ts ▸ y ts) (max p q) (max m n)
codes_neighbours {one} {two} e o first second = codes_joined (front_within one two) (behind_within one two e) o first second

-- Two parts, of which the second is told by what is known of names and by where it begins: so it is told from where the first begins.
module _ (f : Scene → ℕ → List ℕ → List code.Coded) (g : Scene → ℕ) where
  moved : {own : Own} {a b : Emitter} {x : List ℕ → List code.Coded} {p m : ℕ} (ts : List ℕ) → Codes own a b x p m → Meets b.targets.items ts → f (scene b) (next b) ts ≡ f (scene a) (next a + length (x ts)) ts
  moved {own} {a} {b} ts first h = ap (λ s. f s (next b) ts) first.stays.scene ∙ ap (λ k. f (scene a) k ts) (next_behind ts first h)

  pub codes_next_joined : {one two own : Own} {a b c : Emitter} {x : List ℕ → List code.Coded} {p m n : ℕ} → Within one own → Within two own → AreOpen two b.targets.items → Codes one a b x p m → Codes two b c (λ ts. f (scene b) (next b) ts) (g (scene b)) n → Codes own a c (λ ts. x ts ▸ f (scene a) (next a + length (x ts)) ts) (max p (g (scene a))) (max m n)
  codes_next_joined {one} {two} {own} {a} {b} {c} {x} {p} v w o first second =
      codes_as (λ ts. x ts ▸ f (scene a) (next a + length (x ts)) ts) (max p (g (scene a))) (λ ts h. ap (λ l. x ts ▸ l) (moved ts first (meets_before ts second.stays o h))) (ap (λ s. max p (g s)) first.stays.scene) (codes_joined v w o first second)

  pub codes_next : {own : Own} {a b c : Emitter} {x : List ℕ → List code.Coded} {p m n : ℕ} → Codes own a b x p m → Codes none_own b c (λ ts. f (scene b) (next b) ts) (g (scene b)) n → Codes own a c (λ ts. x ts ▸ f (scene a) (next a + length (x ts)) ts) (max p (g (scene a))) (max m n)
  codes_next {own} {a} {b} first second = codes_next_joined (λ n h. h) (none_within own) (open_none b.targets.items) first second

  -- the same, where the place at which the second begins is told otherwise
  pub codes_next_at : {own : Own} {a b c : Emitter} {x : List ℕ → List code.Coded} {p m n : ℕ} (at : List ℕ → ℕ) → ((ts : List ℕ) → Meets b.targets.items ts → next a + length (x ts) ≡ at ts) → Codes own a b x p m → Codes none_own b c (λ ts. f (scene b) (next b) ts) (g (scene b)) n → Codes own a c (λ ts. x ts ▸ f (scene a) (at ts) ts) (max p (g (scene a))) (max m n)
  codes_next_at {own} {a} {b} {c} {x} {p} at e first second = codes_as (λ ts. x ts ▸ f (scene a) (at ts) ts) (max p (g (scene a))) (λ ts h. ap (λ k. x ts ▸ f (scene a) k ts) (e ts (meets_none ts second.stays h))) refl (codes_next first second)

-- ---- one instruction

pub codes_one : (own : Own) (e : Emitter) (here : Here) (does : Instr) → CodeFits e.code → InstrFits e.code.given e.code.added does → Codes own e (appended e here does) (λ ts. step e here (instr_in e ts does)) 0 0
codes_one own e here does h f = record { stays = stays_appended own e here does h f; behind = λ ts m. appended_code e here does ts; most = refl }

pub codes_plain : (own : Own) (e : Emitter) (here : Here) (does : Instr) → CodeFits e.code → InstrFits e.code.given e.code.added does → is_plain does ≡ true → Codes own e (appended e here does) (λ ts. one_in (scene e) here ts does) 0 0
codes_plain own e here does h f p = record { stays = stays_appended own e here does h f; behind = λ ts m. appended_plain e here does ts p; most = refl }

-- a part and an instruction behind it
pub codes_then_one : {own : Own} {a b : Emitter} {x : List ℕ → List code.Coded} {p m : ℕ} (here : Here) (does : Instr) → InstrFits b.code.given b.code.added does → Codes own a b x p m → Codes own a (appended b here does) (λ ts. x ts ▸ step a here (instr_in b ts does)) p m
codes_then_one {own} {a} {b} {x} here does f c = record {
  stays = stays_then c.stays (stays_appended none_own b here does c.stays.fits f);
  behind = λ ts h. chain ts a b (appended b here does) (x ts) (step a here (instr_in b ts does)) (c.behind ts h) (appended_code b here does ts ∙ ap (λ (s : Scene). linked_code ts b ++ one (place_in s here) (instr_in b ts does)) c.stays.scene);
  most = c.most;
}

pub codes_then_plain : {own : Own} {a b : Emitter} {x : List ℕ → List code.Coded} {p m : ℕ} (here : Here) (does : Instr) → is_plain does ≡ true → InstrFits b.code.given b.code.added does → Codes own a b x p m → Codes own a (appended b here does) (λ ts. x ts ▸ one_in (scene a) here ts does) p m
codes_then_plain {own} {a} {b} {x} {p} here does is f c =
    codes_as (λ ts. x ts ▸ one_in (scene a) here ts does) p (λ ts h. ap (λ i. x ts ▸ step a here i) (plain_instr b ts does is ∙ ap (λ (s : Scene). plain s ts does) c.stays.scene)) refl (codes_then_one here does f c)

-- an instruction in front of a part
pub codes_front : {own : Own} {a b : Emitter} {x : List ℕ → List code.Coded} {p m : ℕ} (here : Here) (does : Instr) → CodeFits a.code → InstrFits a.code.given a.code.added does → Codes own (appended a here does) b x p m → Codes own a b (λ ts. step a here (instr_in a ts does) ▸ x ts) p m
codes_front {own} {a} {b} {x} here does h f c = record {
  stays = stays_behind (stays_appended none_own a here does h f) c.stays;
  behind = λ ts k. chain ts a (appended a here does) b (step a here (instr_in a ts does)) (x ts) (appended_code a here does ts) (c.behind ts k);
  most = c.most;
}

pub codes_front_plain : {own : Own} {a b : Emitter} {x : List ℕ → List code.Coded} {p m : ℕ} (here : Here) (does : Instr) → is_plain does ≡ true → CodeFits a.code → InstrFits a.code.given a.code.added does → Codes own (appended a here does) b x p m → Codes own a b (λ ts. one_in (scene a) here ts does ▸ x ts) p m
codes_front_plain {own} {a} {b} {x} {p} here does is h f c =
    codes_as (λ ts. one_in (scene a) here ts does ▸ x ts) p (λ ts k. ap (λ i. step a here i ▸ x ts) (plain_instr a ts does is)) refl (codes_front here does h f c)

-- an instruction in front of a part, which is put right behind it
pub codes_patched : {own : Own} {a b : Emitter} {x : List ℕ → List code.Coded} {p m : ℕ} (here : Here) (first does : Instr) → CodeFits a.code → InstrFits a.code.given a.code.added first → InstrFits b.code.given b.code.added does → Codes own (appended a here first) b x p m → Codes own a (record b { code = with_replaced b.code (next a) does }) (λ ts. step a here (instr_in b ts does) ▸ x ts) p m
codes_patched {own} {a} {b} {x} here first does h f g c =
    let whole = codes_front here first h f c in
    record {
      stays = stays_then whole.stays (stays_replaced none_own b (next a) does c.stays.fits g);
      behind = λ ts k. patched ts b (next a) does (linked_code ts a) (place_in (scene a) here) (instr_in a ts first) (x ts) (whole.behind ts k) (sym (next_linked ts a));
      most = c.most;
    }

-- an instruction within a part, which is put right behind it
pub codes_replaced : {own : Own} {a b : Emitter} {p m : ℕ} (x : List ℕ → List code.Coded) (w : Place) (i : List ℕ → instr.Instr) (y : List ℕ → List code.Coded) (n : ℕ) (does : Instr) → InstrFits b.code.given b.code.added does → ((ts : List ℕ) → Meets b.targets.items ts → n ≡ next a + length (x ts)) → Codes own a b (λ ts. x ts ▸ (one w (i ts) ▸ y ts)) p m → Codes own a (record b { code = with_replaced b.code n does }) (λ ts. x ts ▸ (one w (instr_in b ts does) ▸ y ts)) p m
codes_replaced {own} {a} {b} x w i y n does f there c = record {
  stays = stays_then c.stays (stays_replaced none_own b n does c.stays.fits f);
  behind = λ ts h.
      let before : linked_code ts b ≡ (linked_code ts a ++ x ts) ++ (one w (i ts) ▸ y ts) = c.behind ts h ∙ regrouped (linked_code ts a) (x ts) (one w (i ts) ▸ y ts) in
      let all : length (linked_code ts a ++ x ts) ≡ length (linked_code ts a) + length (x ts) = length-append (linked_code ts a) (x ts) in
      let first = next_linked ts a in
      let at = there ts h in
      patched ts b n does (linked_code ts a ++ x ts) w (i ts) (y ts) before (omega (arith, all, first, at)) ∙ sym (regrouped (linked_code ts a) (x ts) (one w (instr_in b ts does) ▸ y ts));
  most = c.most;
}
  where
    regrouped : (l m n : List code.Coded) → l ++ (m ▸ n) ≡ (l ++ m) ++ n
    regrouped l m n = ap (λ r. l ++ r) (joined_is m n) ∙ sym (append_assoc l m n)

-- ---- a type or a begin, where there is one

pub codes_made : (own : Own) (e : Emitter) (here : Here) (t : Option SimpleType) → CodeFits e.code → KindsFit e.code.given t → Codes own e (made_into e here t) (λ ts. make_code (place_in (scene e) here) (kinds_view e.code.given t)) 0 0
codes_made own e here None h f = codes_nothing own e h
codes_made own e here (Some t) h f = codes_plain own e here (held.Make t) h f refl

pub codes_then_made : {own : Own} {a b : Emitter} {x : List ℕ → List code.Coded} {p m : ℕ} (here : Here) (t : Option SimpleType) → KindsFit b.code.given t → Codes own a b x p m → Codes own a (made_into b here t) (λ ts. x ts ▸ make_code (place_in (scene a) here) (kinds_view a.code.given t)) p m
codes_then_made {own} {a} {b} {x} {p} here None f c = codes_as (λ ts. x ts ▸ []) p (λ ts h. sym (joined_none (x ts))) refl c
codes_then_made here (Some t) f c = codes_then_plain here (held.Make t) refl f c

pub codes_begun : (own : Own) (e : Emitter) (here : Here) (statement : Option ℕ) → CodeFits e.code → Codes own e (begun e here statement) (λ ts. begin_code (option_map (statement_view e.code.given) statement)) 0 0
codes_begun own e here None h = codes_nothing own e h
codes_begun own e here (Some statement) h = codes_plain own e (record here { statement = statement }) held.Begin h tt refl

pub codes_front_begun : {own : Own} {a b : Emitter} {x : List ℕ → List code.Coded} {p m : ℕ} (here : Here) (statement : Option ℕ) → CodeFits a.code → Codes own (begun a here statement) b x p m → Codes own a b (λ ts. begin_code (option_map (statement_view a.code.given) statement) ▸ x ts) p m
codes_front_begun here None h c = c
codes_front_begun here (Some statement) h c = codes_front_plain (record here { statement = statement }) held.Begin refl h tt c

-- ---- texts

-- the code of a text, from its head to its end
pub codes_text : {own : Own} {a b : Emitter} {x : List ℕ → List code.Coded} {p m : ℕ} (here : Here) (head : TextHead) (n : ℕ) → CodeFits a.code → TextFits a.code.given head → ((ts : List ℕ) → Meets b.targets.items ts → length (x ts) ≡ n) → Codes own (text_opened a here head) b x p m → Codes own a (text_closed b here (record { head = next a; number = length a.code.added.texts })) (λ ts. text_code (place_in (scene a) here) (next a) head.first (reading_view a.code.given (linked_reading ts head.reading)) n (x ts)) p m
codes_text {own} {a} {b} {x} {p} here head n h f long c =
    let number : ℕ = length a.code.added.texts in
    let held_head : Instr = held.Text number (next b + 1) in
    let there : number < length (text_opened a here head).code.added.texts = let l = length_push a.code.added.texts head in omega (arith, l) in
    let last = codes_then_plain here held.Return refl tt c in
    let whole = codes_from (stays_text none_own a head h f) (λ ts. text_added a head ts h) (codes_patched here (held.Text number 0) held_head (text_fits a.code head h f) there (fits_there held_head c.stays there) last) in
    codes_as (λ ts. text_code (place_in (scene a) here) (next a) head.first (reading_view a.code.given (linked_reading ts head.reading)) n (x ts)) p (λ ts k. ap (λ i. step a here i ▸ x ts ▸ step a here instr.Return) (is_head ts k)) refl whole
  where
    is_head : (ts : List ℕ) → Meets b.targets.items ts → instr_in b ts (held.Text (length a.code.added.texts) (next b + 1)) ≡ instr.Text (text_head_view a.code.given (linked_text ts head)) (next a + text_size n)
    is_head ts k =
        let there : length a.code.added.texts < length (text_opened a here head).code.added.texts = let l = length_push a.code.added.texts head in omega (arith, l) in
        let first : next (text_opened a here head) ≡ next a + 1 = length_push a.code.instructions (record { at = here.statement; does = held.Text (length a.code.added.texts) 0 }) in
        let all = next_behind ts c k in
        let as_long = long ts k in
        let behind : next b + 1 ≡ next a + text_size n = omega (arith, first, all, as_long) in
        ap (λ (g : Given). instr.Text (text_of g (linked_added ts b.code.added) (length a.code.added.texts)) (next b + 1)) (given_there c.stays)
        ∙ ap (λ t. instr.Text t (next b + 1)) (text_later a.code.given (text_opened a here head).code.added b.code.added ts (length a.code.added.texts) c.stays.tables there ∙ text_found a.code head ts)
        ∙ ap (λ e. instr.Text (text_head_view a.code.given (linked_text ts head)) e) behind

-- the code of a procedure, from its head to its end
pub codes_procedure : {own : Own} {a b c : Emitter} {x : List ℕ → List code.Coded} {p m : ℕ} (here : Here) (number n : ℕ) → CodeFits a.code → number < length a.code.added.procedures → ((ts : List ℕ) → Meets b.targets.items ts → length (x ts) ≡ n) → Codes own (appended a here (held.Procedure number 0)) b x p m → c ≡ replaced (appended b here held.Return) (next a) (held.Procedure number (next b + 1)) → Codes own a c (λ ts. step a here (instr.Procedure (procedure_of a.code.given a.code.added number) (next a + text_size n)) ▸ x ts ▸ step a here instr.Return) p m
codes_procedure {own} {a} {b} {c} {x} {p} here number n h there long part e =
    codes_is e (codes_as (λ ts. step a here (instr.Procedure (procedure_of a.code.given a.code.added number) (next a + text_size n)) ▸ x ts ▸ step a here instr.Return) p
    (λ ts k. ap (λ i. step a here i ▸ x ts ▸ step a here instr.Return) (is_head ts k)) refl
    (codes_patched here (held.Procedure number 0) (held.Procedure number (next b + 1)) h there (fits_there (held.Procedure number (next b + 1)) part.stays there) (codes_then_plain here held.Return refl tt part)))
  where
    is_head : (ts : List ℕ) → Meets b.targets.items ts → instr_in b ts (held.Procedure number (next b + 1)) ≡ instr.Procedure (procedure_of a.code.given a.code.added number) (next a + text_size n)
    is_head ts k =
        let first : next (appended a here (held.Procedure number 0)) ≡ next a + 1 = length_push a.code.instructions (record { at = here.statement; does = held.Procedure number 0 }) in
        let all = next_behind ts part k in
        let as_long = long ts k in
        let behind : next b + 1 ≡ next a + text_size n = omega (arith, first, all, as_long) in
        ap (λ (g : Given). instr.Procedure (procedure_of g b.code.added number) (next b + 1)) (given_there part.stays)
        ∙ ap (λ t. instr.Procedure t (next b + 1)) (procedure_later a.code.given a.code.added b.code.added ts number part.stays.tables there)
        ∙ ap (λ e. instr.Procedure (procedure_of a.code.given a.code.added number) e) behind
