-- What clap's walk does at each word of the monitor's command.
use Rattle.std.proofs.Common.{◌≡◌, ◌⊎◌, ◌∙◌, subst, ap, refl, inl, inr, ℕ, Bool, true, false, List, [], ◌∷◌, ◌++◌, Option, Some, None, codes}
use Rattle.std.specs.Str.{bytes_eq, chars}
use Rattle.std.proofs.lemmas.Slice.Eq.{bytes_eq-Decides}
use Rattle.clap.specs.Lexer.{long_of, short_of}
use Rattle.clap.specs.Kinds.{Kinds, or_else}
use Rattle.clap.specs.declared.builder.value_parser.Reading.TheVariants as reading
use Rattle.clap.specs.declared.parser.matches.ValueSource.TheVariants.{CommandLine}
use Rattle.clap.specs.Walk.{with_values, without, walk_from, Held, Row, Rule, Text, Walk, Waiting, idle, option, arg_by_long, arg_by_id, walked, bundle_met, settled, reacted, used, has_row}
use Rattle.clap.specs.Faults.{turn_fault, flags_fault, use_fault, settle_fault, is_simple_and_free}
use Rattle.clap.specs.Simple.{Shape, built, is_simple, filled}
use Rattle.command_words.specs.Command.{flag_rule, monitor_app, option_rule}
use Rattle.command_words.specs.Form.{dashed, flags, is_among, options}
use Rattle.std.specs.Prelude.{length, slice_get}
use Rattle.clap.specs.Walk.{positional, plain, short_word}
use Rattle.clap.specs.Faults.{step_fault}
use Rattle.clap.specs.declared.error.kind.ErrorKind.TheVariants as kind

abbrev pub top : Shape
top = (built monitor_app).top

pub simple : is_simple monitor_app ≡ true
simple = refl

pub simple_and_free : is_simple_and_free monitor_app ≡ true
simple_and_free = refl

-- the rule of an option as clap builds it
abbrev pub rule : Text → Rule
rule name = filled (option_rule name)

pub same : (a b : Text) → bytes_eq a b ≡ true → a ≡ b
same a b h = (bytes_eq-Decides a b).0 h

-- the rule of a flag as clap builds it
abbrev pub flag : Text → Rule
flag name = filled (flag_rule name)

pub record Finds (name : Text) : Type 0 where
  pub long : arg_by_long top.rules name ≡ Some (rule name)
  pub id : arg_by_id top.rules name ≡ Some (rule name)
  pub is_option : is_among name options ≡ true
  pub is_no_flag : is_among name flags ≡ false
  pub apart : long_of (dashed name) ≡ Some (name, None)
  pub joined : (v : Text) → long_of (dashed (name ++ 61 ∷ v)) ≡ Some (name, Some v)

pub finds_workers : Finds (codes "workers")
finds_workers = record { long = refl; id = refl; is_option = refl; is_no_flag = refl; apart = refl; joined = λ v. refl }

pub finds_queue : Finds (codes "queue")
finds_queue = record { long = refl; id = refl; is_option = refl; is_no_flag = refl; apart = refl; joined = λ v. refl }

pub finds_make : Finds (codes "make")
finds_make = record { long = refl; id = refl; is_option = refl; is_no_flag = refl; apart = refl; joined = λ v. refl }

pub finds_jobs : Finds (codes "jobs")
finds_jobs = record { long = refl; id = refl; is_option = refl; is_no_flag = refl; apart = refl; joined = λ v. refl }

pub finds_statement : Finds (codes "statement")
finds_statement = record { long = refl; id = refl; is_option = refl; is_no_flag = refl; apart = refl; joined = λ v. refl }

pub record FindsFlag (name : Text) : Type 0 where
  pub long : arg_by_long top.rules name ≡ Some (flag name)
  pub is_flag : is_among name flags ≡ true
  pub is_no_option : is_among name options ≡ false
  pub alone : long_of (dashed name) ≡ Some (name, None)

pub finds_accounts : FindsFlag (codes "accounts")
finds_accounts = record { long = refl; is_flag = refl; is_no_option = refl; alone = refl }

pub finds_board : FindsFlag (codes "board")
finds_board = record { long = refl; is_flag = refl; is_no_option = refl; alone = refl }

pub record FindsNone (name : Text) : Type 0 where
  pub long : arg_by_long top.rules name ≡ None
  pub is_no_option : is_among name options ≡ false
  pub is_no_flag : is_among name flags ≡ false

pub not_dashes : (x n : Text) (v : Option Text) → long_of x ≡ Some (n, v) → bytes_eq x (45 ∷ 45 ∷ []) ≡ false
not_dashes x n v l = go (bytes_eq x (45 ∷ 45 ∷ [])) refl
  where
    go : (t : Bool) → bytes_eq x (45 ∷ 45 ∷ []) ≡ t → bytes_eq x (45 ∷ 45 ∷ []) ≡ false
    go false e = e
    go true e =
        let is : x ≡ 45 ∷ 45 ∷ [] = same x _ e in
        let bad : None ≡ Some (n, v) = rw is at l in
        cc

-- ---- one use

pub no_value : (name : Text) (rows : List Row) → use_fault false (rule name) [] rows ≡ kind.InvalidValue ∷ []
no_value name rows = refl

pub first_use : (name v : Text) (rows : List Row) → has_row name rows ≡ false → use_fault false (rule name) (v ∷ []) rows ≡ []
first_use name v rows e = rw e refl

pub later_use : (name v : Text) (rows : List Row) → has_row name rows ≡ true → use_fault false (rule name) (v ∷ []) rows ≡ kind.ArgumentConflict ∷ []
later_use name v rows e = rw e refl

abbrev pub row : Text → Text → Row
row name v = record { id = name; values = v ∷ []; count = None; source = Some CommandLine; reading = reading.AsWritten }

pub appended : (name v : Text) (rows : List Row) → has_row name rows ≡ false
    → with_values name reading.AsWritten CommandLine (v ∷ []) rows ≡ rows ++ row name v ∷ []
appended name v [] e = refl
appended name v (r ∷ rs) e = go (bytes_eq r.id name) refl e (λ h. appended name v rs h)
  where
    go : (t : Bool) → bytes_eq r.id name ≡ t → has_row name (r ∷ rs) ≡ false
        → (has_row name rs ≡ false → with_values name reading.AsWritten CommandLine (v ∷ []) rs ≡ rs ++ row name v ∷ [])
        → with_values name reading.AsWritten CommandLine (v ∷ []) (r ∷ rs) ≡ (r ∷ rs) ++ row name v ∷ []
    go true t e rec = let bad : true ≡ false = rw t at e in cc
    go false t e rec = rw t (ap (λ xs. r ∷ xs) (rec (rw t at e)))

pub kept : (name : Text) (rows : List Row) → has_row name rows ≡ false → without name rows ≡ rows
kept name [] e = refl
kept name (r ∷ rs) e = go (bytes_eq r.id name) refl e (λ h. kept name rs h)
  where
    go : (t : Bool) → bytes_eq r.id name ≡ t → has_row name (r ∷ rs) ≡ false
        → (has_row name rs ≡ false → without name rs ≡ rs) → without name (r ∷ rs) ≡ r ∷ rs
    go true t e rec = let bad : true ≡ false = rw t at e in cc
    go false t e rec = rw t (ap (λ xs. r ∷ xs) (rec (rw t at e)))

pub first_row : (name v : Text) (rows : List Row) → has_row name rows ≡ false → used (rule name) (v ∷ []) rows ≡ rows ++ row name v ∷ []
first_row name v rows e = ap (with_values name reading.AsWritten CommandLine (v ∷ [])) (kept name rows e) ∙ appended name v rows e

pub first_flag : (name : Text) (rows : List Row) → has_row name rows ≡ false → use_fault false (flag name) [] rows ≡ []
first_flag name rows e = rw e refl

pub later_flag : (name : Text) (rows : List Row) → has_row name rows ≡ true → use_fault false (flag name) [] rows ≡ kind.ArgumentConflict ∷ []
later_flag name rows e = rw e refl

pub flag_row : (name : Text) (rows : List Row) → has_row name rows ≡ false → used (flag name) [] rows ≡ rows ++ row name (codes "true") ∷ []
flag_row name rows e = ap (with_values name reading.AsWritten CommandLine (codes "true" ∷ [])) (kept name rows e) ∙ appended name (codes "true") rows e

pub or_else_nil : (a : Kinds) → or_else a [] ≡ a
or_else_nil [] = refl
or_else_nil (k ∷ ks) = refl

pub first_none : (a b : Kinds) → or_else a b ≡ [] → a ≡ []
first_none [] b e = refl
first_none (k ∷ ks) b e = cc

pub second_none : (a b : Kinds) → or_else a b ≡ [] → b ≡ []
second_none [] b e = e
second_none (k ∷ ks) b e = cc

-- ---- one word

abbrev pub turn : Walk → Text → Kinds
turn w x = turn_fault top [] w x

abbrev pub after : Walk → Text → Walk
after w x = walked top.rules [] w x

abbrev pub waits_at : Text → Held → Walk
waits_at name h = record (walk_from h) { waiting = option name }

pub joined_turn : (n v x : Text) (h : Held) → Finds n → long_of x ≡ Some (n, Some v) → bytes_eq x (45 ∷ 45 ∷ []) ≡ false
    → turn (walk_from h) x ≡ or_else (settle_fault top.rules false h) (use_fault false (rule n) (v ∷ []) (settled top.rules h).rows)
joined_turn n v x h f l d = rw (d, l, f.long) (or_else_nil _)

pub joined_after : (n v x : Text) (h : Held) → Finds n → long_of x ≡ Some (n, Some v) → bytes_eq x (45 ∷ 45 ∷ []) ≡ false
    → after (walk_from h) x ≡ walk_from (reacted top.rules (rule n) (v ∷ []) h)
unfolding walked
joined_after n v x h f l d = rw (d, l, f.long) refl

pub apart_turn : (n x : Text) (h : Held) → Finds n → long_of x ≡ Some (n, None) → bytes_eq x (45 ∷ 45 ∷ []) ≡ false
    → turn (walk_from h) x ≡ settle_fault top.rules false h
apart_turn n x h f l d = rw (d, l, f.long) (or_else_nil _)

pub apart_after : (n x : Text) (h : Held) → Finds n → long_of x ≡ Some (n, None) → bytes_eq x (45 ∷ 45 ∷ []) ≡ false
    → after (walk_from h) x ≡ waits_at n (record (settled top.rules h) { pending = Some (n, []) })
unfolding walked
apart_after n x h f l d = rw (d, l, f.long) refl

pub flag_turn : (n x : Text) (h : Held) → FindsFlag n → long_of x ≡ Some (n, None) → bytes_eq x (45 ∷ 45 ∷ []) ≡ false
    → turn (walk_from h) x ≡ or_else (settle_fault top.rules false h) (use_fault false (flag n) [] (settled top.rules h).rows)
flag_turn n x h f l d = rw (d, l, f.long) (or_else_nil _)

pub flag_after : (n x : Text) (h : Held) → FindsFlag n → long_of x ≡ Some (n, None) → bytes_eq x (45 ∷ 45 ∷ []) ≡ false
    → after (walk_from h) x ≡ walk_from (reacted top.rules (flag n) [] h)
unfolding walked
flag_after n x h f l d = rw (d, l, f.long) refl

-- a flag takes no value
pub flag_joined_turn : (n v x : Text) (h : Held) (waiting : Waiting) → FindsFlag n → long_of x ≡ Some (n, Some v) → bytes_eq x (45 ∷ 45 ∷ []) ≡ false
    → turn (record (walk_from h) { waiting = waiting }) x ≡ [] → ⊥
flag_joined_turn n v x h idle f l d e = let bad : kind.TooManyValues ∷ [] ≡ [] = rw (d, l, f.long) at e in cc
flag_joined_turn n v x h (option m) f l d e = let bad : kind.TooManyValues ∷ [] ≡ [] = rw (d, l, f.long) at e in cc
flag_joined_turn n v x h positional f l d e = let bad : kind.TooManyValues ∷ [] ≡ [] = rw (d, l, f.long) at e in cc

pub unknown_turn : (n x : Text) (v : Option Text) (h : Held) (waiting : Waiting) → arg_by_long top.rules n ≡ None → long_of x ≡ Some (n, v) → bytes_eq x (45 ∷ 45 ∷ []) ≡ false
    → turn (record (walk_from h) { waiting = waiting }) x ≡ [] → ⊥
unknown_turn n x v h idle f l d e = let bad : kind.UnknownArgument ∷ [] ≡ [] = rw (d, l, f) at e in cc
unknown_turn n x v h (option m) f l d e = let bad : kind.UnknownArgument ∷ [] ≡ [] = rw (d, l, f) at e in cc
unknown_turn n x v h positional f l d e = let bad : kind.UnknownArgument ∷ [] ≡ [] = rw (d, l, f) at e in cc

abbrev pub holds : List Row → Option (Text × List Text) → Held
holds rows p = record { rows = rows; pending = p; skip = 0 }

pub bundle_plain : (flags : Text) (rows : List Row) (p : Option (Text × List Text)) → flags_fault top.rules false (length flags) flags 0 (holds rows p) ≡ []
    → bundle_met top.rules (length flags) flags 0 plain (holds rows p) ≡ (holds rows p, plain)
unfolding flags_fault bundle_met
bundle_plain [] rows p e = refl
bundle_plain (y ∷ ys) rows p e = go (slice_get (chars (y ∷ ys)) 0) refl
  where
    go : (o : Option ℕ) → slice_get (chars (y ∷ ys)) 0 ≡ o
        → bundle_met top.rules (length (y ∷ ys)) (y ∷ ys) 0 plain (holds rows p) ≡ (holds rows p, plain)
    go None o = rw o refl
    go (Some c) o = let bad : kind.UnknownArgument ∷ [] ≡ [] = rw o at e in cc

-- where nothing waits, a word that is no long option is refused
pub stray_turn : (x : Text) (rows : List Row) (p : Option (Text × List Text)) → long_of x ≡ None → bytes_eq x (45 ∷ 45 ∷ []) ≡ false
    → turn (walk_from (holds rows p)) x ≡ [] → ⊥
stray_turn x rows p l d e = go (short_of x) refl
  where
    go : (o : Option Text) → short_of x ≡ o → ⊥
    go None o = let bad : kind.UnknownArgument ∷ [] ≡ [] = rw (d, l, o) at e in cc
    go (Some flags) o =
        let both : or_else (flags_fault top.rules false (length flags) flags 0 (holds rows p))
        (step_fault top 1 (short_word top.rules idle x flags (holds rows p)).0 (short_word top.rules idle x flags (holds rows p)).1) ≡ [] = rw (d, l, o) at e in
        let first : flags_fault top.rules false (length flags) flags 0 (holds rows p) ≡ [] = first_none _ _ both in
        let clear = bundle_plain flags rows p first in
        let bad : kind.UnknownArgument ∷ [] ≡ [] = rw (first, clear) at both in cc

pub finds_or_not : (n : Text) → Finds n ⊎ FindsFlag n ⊎ FindsNone n
finds_or_not n = go (bytes_eq (codes "workers") n) (bytes_eq (codes "queue") n) (bytes_eq (codes "make") n) (bytes_eq (codes "jobs") n) (bytes_eq (codes "statement") n) (bytes_eq (codes "accounts") n) (bytes_eq (codes "board") n) refl refl refl refl refl refl refl
  where
    go : (a b c d s k p : Bool) → bytes_eq (codes "workers") n ≡ a → bytes_eq (codes "queue") n ≡ b → bytes_eq (codes "make") n ≡ c → bytes_eq (codes "jobs") n ≡ d
        → bytes_eq (codes "statement") n ≡ s → bytes_eq (codes "accounts") n ≡ k → bytes_eq (codes "board") n ≡ p → Finds n ⊎ FindsFlag n ⊎ FindsNone n
    go true b c d s k p ea eb ec ed es ek ep = inl (subst Finds (same _ _ ea) finds_workers)
    go false true c d s k p ea eb ec ed es ek ep = inl (subst Finds (same _ _ eb) finds_queue)
    go false false true d s k p ea eb ec ed es ek ep = inl (subst Finds (same _ _ ec) finds_make)
    go false false false true s k p ea eb ec ed es ek ep = inl (subst Finds (same _ _ ed) finds_jobs)
    go false false false false true k p ea eb ec ed es ek ep = inl (subst Finds (same _ _ es) finds_statement)
    go false false false false false true p ea eb ec ed es ek ep = inr (inl (subst FindsFlag (same _ _ ek) finds_accounts))
    go false false false false false false true ea eb ec ed es ek ep = inr (inl (subst FindsFlag (same _ _ ep) finds_board))
    go false false false false false false false ea eb ec ed es ek ep = inr (inr (record { long = rw (ea, eb, ec, ed, es, ek, ep) refl; is_no_option = rw (ea, eb, ec, ed, es) refl; is_no_flag = rw (ek, ep) refl }))

pub waiting_long : (n m x : Text) (rows : List Row) → Finds n → Finds m → (v : Option Text) → bytes_eq x (45 ∷ 45 ∷ []) ≡ false → long_of x ≡ Some (m, v)
    → turn (waits_at n (holds rows (Some (n, [])))) x ≡ [] → ⊥
waiting_long n m x rows f g None d l e = let bad : kind.InvalidValue ∷ [] ≡ [] = rw (d, l, g.long, f.id) at e in cc
waiting_long n m x rows f g (Some v) d l e = let bad : kind.InvalidValue ∷ [] ≡ [] = rw (d, l, g.long, f.id) at e in cc

pub waiting_flag : (n m x : Text) (rows : List Row) → Finds n → FindsFlag m → bytes_eq x (45 ∷ 45 ∷ []) ≡ false → long_of x ≡ Some (m, None)
    → turn (waits_at n (holds rows (Some (n, [])))) x ≡ [] → ⊥
waiting_flag n m x rows f g d l e = let bad : kind.InvalidValue ∷ [] ≡ [] = rw (d, l, g.long, f.id) at e in cc

pub plain_turn : (n x : Text) (rows : List Row) → Finds n → bytes_eq x (45 ∷ 45 ∷ []) ≡ false → long_of x ≡ None → short_of x ≡ None
    → turn (waits_at n (holds rows (Some (n, [])))) x ≡ []
plain_turn n x rows f d l o = rw (d, l, o) refl

pub plain_after : (n x : Text) (rows : List Row) → Finds n → bytes_eq x (45 ∷ 45 ∷ []) ≡ false → long_of x ≡ None → short_of x ≡ None
    → after (waits_at n (holds rows (Some (n, [])))) x ≡ walk_from (holds rows (Some (n, x ∷ [])))
unfolding walked
plain_after n x rows f d l o = rw (d, l, o, f.id, (bytes_eq-Decides n n).1 refl) refl

pub bundle_after : (n x flags : Text) (rows : List Row) → Finds n → bytes_eq x (45 ∷ 45 ∷ []) ≡ false → long_of x ≡ None → short_of x ≡ Some flags
    → bundle_met top.rules (length flags) flags 0 plain (holds rows (Some (n, []))) ≡ (holds rows (Some (n, [])), plain)
    → after (waits_at n (holds rows (Some (n, [])))) x ≡ walk_from (holds rows (Some (n, x ∷ [])))
unfolding walked
bundle_after n x flags rows f d l o clear = rw (d, l, o, clear, f.id, (bytes_eq-Decides n n).1 refl) refl

-- where an option waits, the word is its value, or it is refused
pub value_turn : (n x : Text) (rows : List Row) → Finds n → bytes_eq x (45 ∷ 45 ∷ []) ≡ false
    → turn (waits_at n (holds rows (Some (n, [])))) x ≡ []
    → after (waits_at n (holds rows (Some (n, [])))) x ≡ walk_from (holds rows (Some (n, x ∷ [])))
value_turn n x rows f d e = go (long_of x) refl
  where
    short : long_of x ≡ None → (o : Option Text) → short_of x ≡ o
        → after (waits_at n (holds rows (Some (n, [])))) x ≡ walk_from (holds rows (Some (n, x ∷ [])))
    short l None o = plain_after n x rows f d l o
    short l (Some flags) o =
        let both : or_else (flags_fault top.rules false (length flags) flags 0 (holds rows (Some (n, []))))
        (step_fault top 1 (short_word top.rules (option n) x flags (holds rows (Some (n, [])))).0 (short_word top.rules (option n) x flags (holds rows (Some (n, [])))).1) ≡ [] = rw (d, l, o) at e in
        let clear = bundle_plain flags rows (Some (n, [])) (first_none _ _ both) in
        bundle_after n x flags rows f d l o clear

    go : (o : Option (Text × Option Text)) → long_of x ≡ o
        → after (waits_at n (holds rows (Some (n, [])))) x ≡ walk_from (holds rows (Some (n, x ∷ [])))
    go None l = short l (short_of x) refl
    go (Some (m, None)) l = elim (finds_or_not m) [
      | inl g ↦ absurd (waiting_long n m x rows f g None d l e)
      | inr (inl g) ↦ absurd (waiting_flag n m x rows f g d l e)
      | inr (inr other) ↦ absurd (unknown_turn m x None (holds rows (Some (n, []))) (option n) other.long l d e)
    ]
    go (Some (m, Some v)) l = elim (finds_or_not m) [
      | inl g ↦ absurd (waiting_long n m x rows f g (Some v) d l e)
      | inr (inl g) ↦ absurd (flag_joined_turn m v x (holds rows (Some (n, []))) (option n) g l d e)
      | inr (inr other) ↦ absurd (unknown_turn m x (Some v) (holds rows (Some (n, []))) (option n) other.long l d e)
    ]
