-- clap's reading of all the words, against the form.
use Rattle.std.proofs.Common.{◌≡◌, ◌∙◌, sym, subst, ap, ap₂, refl, inl, inr, ℕ, Bool, true, false, List, [], ◌∷◌, ◌++◌, Option, Some, None, codes, arith, suc, append_assoc, append-nil, map}
use Rattle.std.specs.Prelude.{if◌then◌else◌, not, fold, ◌||◌, ◌==◌, ◌+◌, is_some, unwrap_or, option_and_then}
use Rattle.std.specs.List.{list_all, position_or_len}
use Rattle.std.specs.Str.{bytes_eq}
use Rattle.std.proofs.lemmas.Grind.{common_steps}
use Rattle.clap.specs.Lexer.{long_of, short_of, name_and_value, has_byte, long_of_rest, strip_byte}
use Rattle.clap.specs.Kinds.{Kinds, or_else}
use Rattle.clap.specs.Walk.{Row, Rule, Text, Walk, idle, settled, used, has_row, walk_from, settled_rows, nothing_held}
use Rattle.clap.specs.Faults.{fault_of, walk_fault, defaults_fault, settle_fault, use_fault}
use Rattle.clap.specs.Simple.{built, matches_of}
use Rattle.command_words.specs.Command.{monitor_app}
use Rattle.clap.specs.Faults.{check_fault, default_fault, given_default_fault, entered_fault}
use Rattle.clap.specs.Walk.{with_default, default_rows, reading_by, is_empty, finished}
use Rattle.clap.specs.Simple.{entered}
use Rattle.clap.proofs.WalkLemmas.{list_any-map}
use Rattle.clap.specs.declared.error.kind.ErrorKind.TheVariants as kind
use Rattle.std.proofs.lemmas.List.{map-append}
use Rattle.command_words.specs.Form.{has_dashes, Use, apart, joined, flag, dashed, flags, is_among, is_known, name_of, options, words_of}
use Rattle.command_words.proofs.Fresh.{and_first, and_second, not_true, or_first, or_second, is_fresh, has_use}
use Rattle.command_words.proofs.Walked as walked
use Rattle.command_words.proofs.Walked.{top, rule, row, FindsFlag, finds_accounts, first_flag, later_flag, flag_row, flag_turn, flag_after, flag_joined_turn, turn, after, holds, waits_at, Finds, finds_or_not, first_none, second_none, not_dashes, joined_turn, joined_after, apart_turn, apart_after, unknown_turn, stray_turn, value_turn, plain_turn, plain_after, first_use, later_use, first_row, or_else_nil, same}

-- the value of an option; that of a flag is `true`
abbrev pub text_of : Use → Text
text_of (apart n v) = v
text_of (joined n v) = v
text_of (flag n) = codes "true"

abbrev pub row_of : Use → Row
row_of u = row (name_of u) (text_of u)

abbrev pub rest_fault : Walk → List Text → Kinds
rest_fault w xs = or_else (walk_fault top [] w xs) (settle_fault top.rules false (fold after w xs).held)

abbrev pub rest_rows : Walk → List Text → List Row
rest_rows w xs = (settled top.rules (fold after w xs).held).rows

pub split_three : (a b c : Kinds) → or_else (or_else a b) c ≡ [] → (a ≡ []) × (or_else b c ≡ [])
split_three [] b c e = (refl, e)
split_three (k ∷ ks) b c e = cc

pub join_three : (a b c : Kinds) → a ≡ [] → or_else b c ≡ [] → or_else (or_else a b) c ≡ []
join_three a b c e f = rw e f

pub peel : (w : Walk) (x : Text) (xs : List Text) → rest_fault w (x ∷ xs) ≡ [] → (turn w x ≡ []) × (rest_fault (after w x) xs ≡ [])
unfolding walk_fault
peel w x xs e = split_three (turn w x) (walk_fault top [] (after w x) xs) (settle_fault top.rules false (fold after (after w x) xs).held) e

pub unpeel : (w : Walk) (x : Text) (xs : List Text) → turn w x ≡ [] → rest_fault (after w x) xs ≡ [] → rest_fault w (x ∷ xs) ≡ []
unfolding walk_fault
unpeel w x xs t e = join_three (turn w x) (walk_fault top [] (after w x) xs) (settle_fault top.rules false (fold after (after w x) xs).held) t e

pub at_end : (w : Walk) → rest_fault w [] ≡ settle_fault top.rules false w.held
unfolding walk_fault
at_end w = refl

-- what was held before is refused no later than at the next word
pub clean : (xs : List Text) (rows : List Row) (p : Option (Text × List Text)) → has_dashes xs ≡ false → rest_fault (walk_from (holds rows p)) xs ≡ []
    → settle_fault top.rules false (holds rows p) ≡ []
clean [] rows p d e = sym (at_end (walk_from (holds rows p))) ∙ e
clean (x ∷ xs) rows p d e = go (long_of x) refl
  where
    at : turn (walk_from (holds rows p)) x ≡ []
    at = (peel (walk_from (holds rows p)) x xs e).0

    plain_d : bytes_eq x (45 ∷ 45 ∷ []) ≡ false
    plain_d = or_first _ _ d

    go : (o : Option (Text × Option Text)) → long_of x ≡ o → settle_fault top.rules false (holds rows p) ≡ []
    go None l = absurd (stray_turn x rows p l plain_d at)
    go (Some (n, None)) l = elim (finds_or_not n) [
      | inl f ↦ sym (apart_turn n x (holds rows p) f l plain_d) ∙ at
      | inr (inl f) ↦ first_none (settle_fault top.rules false (holds rows p)) (use_fault false (walked.flag n) [] (settled top.rules (holds rows p)).rows) (sym (flag_turn n x (holds rows p) f l plain_d) ∙ at)
      | inr (inr other) ↦ absurd (unknown_turn n x None (holds rows p) idle other.long l plain_d at)
    ]
    go (Some (n, Some v)) l = elim (finds_or_not n) [
      | inl f ↦ first_none (settle_fault top.rules false (holds rows p)) (use_fault false (rule n) (v ∷ []) (settled top.rules (holds rows p)).rows) (sym (joined_turn n v x (holds rows p) f l plain_d) ∙ at)
      | inr (inl f) ↦ absurd (flag_joined_turn n v x (holds rows p) idle f l plain_d at)
      | inr (inr other) ↦ absurd (unknown_turn n x (Some v) (holds rows p) idle other.long l plain_d at)
    ]

-- ---- the words of a use

abbrev glue : Text × Option Text → Text
glue (n, None) = n
glue (n, Some v) = n ++ 61 ∷ v

pub is_equals : (x : ℕ) → (x == 61) ≡ true → x ≡ 61
is_equals x e = grind (arith, common_steps)

pub is_hyphen : (x : ℕ) → (x == 45) ≡ true → x ≡ 45
is_hyphen x e = grind (arith, common_steps)

pub parts : (t : Text) → t ≡ glue (name_and_value t)
parts [] = refl
parts (x ∷ xs) = go (x == 61) refl (parts xs)
  where
    k : ℕ
    k = position_or_len (λ b. b == 61) xs

    one : 1 + k ≡ suc k
    one = omega arith

    two : 1 + k + 1 ≡ suc (k + 1)
    two = omega arith

    later : (b : Bool) → has_byte 61 xs ≡ b → (x == 61) ≡ false → xs ≡ glue (name_and_value xs) → x ∷ xs ≡ glue (name_and_value (x ∷ xs))
    later true h e rec = rw (e, h, two, one) (ap (λ (t : Text). x ∷ t) (rw h at rec))
    later false h e rec = rw (e, h, one) (ap (λ (t : Text). x ∷ t) (rw h at rec))

    go : (b : Bool) → (x == 61) ≡ b → xs ≡ glue (name_and_value xs) → x ∷ xs ≡ glue (name_and_value (x ∷ xs))
    go true e rec = rw e (ap (λ k. k ∷ xs) (is_equals x e))
    go false e rec = later (has_byte 61 xs) refl e rec

pub long_parts : (x n : Text) (v : Option Text) → long_of x ≡ Some (n, v) → x ≡ dashed (glue (n, v))
long_parts [] n v l = cc
long_parts (a ∷ rest) n v l = go (a == 45) refl
  where
    third : (t : Text) → long_of_rest t ≡ Some (n, v) → t ≡ glue (n, v)
    third [] e = cc
    third (c ∷ u) e = parts (c ∷ u) ∙ ap (λ (o : Option (Text × Option Text)). glue (unwrap_or o (n, v))) e

    second : (b : ℕ) (t : Text) (k : Bool) → (b == 45) ≡ k → option_and_then long_of_rest (strip_byte 45 (b ∷ t)) ≡ Some (n, v) → b ∷ t ≡ 45 ∷ glue (n, v)
    second b t true e h = ap₂ (λ (p : ℕ) (q : Text). p ∷ q) (is_hyphen b e) (third t (rw e at h))
    second b t false e h = let bad : None ≡ Some (n, v) = rw e at h in cc

    first : (r : Text) → option_and_then long_of_rest (strip_byte 45 r) ≡ Some (n, v) → r ≡ 45 ∷ glue (n, v)
    first [] h = cc
    first (b ∷ t) h = second b t (b == 45) refl h

    go : (k : Bool) → (a == 45) ≡ k → a ∷ rest ≡ dashed (glue (n, v))
    go true e = ap₂ (λ (p : ℕ) (q : Text). p ∷ q) (is_hyphen a e) (first rest (rw e at l))
    go false e = let bad : None ≡ Some (n, v) = rw e at l in cc

-- ---- at the whole

pub default_same : (rows : List Row) (a : Rule) → a.defaults ≡ [] → with_default rows a ≡ rows
default_same rows a e = elim (has_row a.id rows) as (λ b. (if b then rows else default_rows a.id (reading_by a) a.defaults rows) ≡ rows) [
  | true ↦ refl
  | false ↦ rw e refl
]

pub five_defaults : (a b c d s : Rule) (rows : List Row) → a.defaults ≡ [] → b.defaults ≡ [] → c.defaults ≡ [] → d.defaults ≡ [] → s.defaults ≡ []
    → fold with_default rows (a ∷ b ∷ c ∷ d ∷ s ∷ []) ≡ rows
five_defaults a b c d s rows ea eb ec ed es =
    ap (λ r. with_default (with_default (with_default (with_default r b) c) d) s) (default_same rows a ea)
    ∙ ap (λ r. with_default (with_default (with_default r c) d) s) (default_same rows b eb)
    ∙ ap (λ r. with_default (with_default r d) s) (default_same rows c ec)
    ∙ ap (λ r. with_default r s) (default_same rows d ed) ∙ default_same rows s es

pub default_none : (rows : List Row) (a : Rule) → a.defaults ≡ [] → default_fault rows a ≡ []
default_none rows a e = elim (has_row a.id rows) as (λ b. (if b || is_empty a.defaults then [] else given_default_fault a a.defaults) ≡ []) [
  | true ↦ refl
  | false ↦ rw e refl
]

-- the rules of the flags
abbrev pub accounts : Rule
accounts = walked.flag (codes "accounts")

abbrev pub board : Rule
board = walked.flag (codes "board")

-- each flag that isn't used gets its default
abbrev pub with_flags : List Row → List Row
with_flags rows = with_default (with_default rows accounts) board

pub default_flag : (name : Text) (rows : List Row) → default_fault rows (walked.flag name) ≡ []
default_flag name rows = elim (has_row name rows) as (λ b. (if b || is_empty (walked.flag name).defaults then [] else given_default_fault (walked.flag name) (walked.flag name).defaults) ≡ []) [
  | true ↦ refl
  | false ↦ refl
]

pub all_faults : (a b c d s : Rule) (rows : List Row) → a.defaults ≡ [] → b.defaults ≡ [] → c.defaults ≡ [] → d.defaults ≡ [] → s.defaults ≡ []
    → defaults_fault rows (a ∷ b ∷ c ∷ d ∷ s ∷ accounts ∷ board ∷ []) ≡ []
unfolding defaults_fault
all_faults a b c d s rows ea eb ec ed es = rw (
  default_none rows a ea,
  default_none (with_default rows a) b eb,
  default_none (with_default (with_default rows a) b) c ec,
  default_none (with_default (with_default (with_default rows a) b) c) d ed,
  default_none (with_default (with_default (with_default (with_default rows a) b) c) d) s es,
  default_flag (codes "accounts") (with_default (with_default (with_default (with_default (with_default rows a) b) c) d) s),
  default_flag (codes "board") (with_default (with_default (with_default (with_default (with_default (with_default rows a) b) c) d) s) accounts),
) refl

pub no_check : (rows : List Row) (has : Bool) → check_fault top rows has ≡ []
no_check rows true = refl
no_check rows false = refl

pub no_entry : (stop : Option (Text × List Text)) → entered_fault (built monitor_app) stop ≡ []
no_entry None = refl
no_entry (Some p) = refl

pub five : (w b s d c : Kinds) → b ≡ [] → d ≡ [] → c ≡ [] → or_else w (or_else b (or_else s (or_else d c))) ≡ or_else w s
five w b s d c eb ed ec = rw (eb, ed, ec) (ap (or_else w) (or_else_nil s))

pub fault_is : (words : List Text) → fault_of monitor_app words ≡ rest_fault (walk_from nothing_held) words
fault_is words =
    let end = fold after (walk_from nothing_held) words in
    let rows = (settled top.rules end.held).rows in
    five (walk_fault top [] (walk_from nothing_held) words) (entered_fault (built monitor_app) end.stopped) (settle_fault top.rules false end.held)
    (defaults_fault rows top.rules) (check_fault top (finished top.rules end.held) (is_some (entered (built monitor_app) end.stopped)))
    (no_entry end.stopped) (all_faults (rule (codes "workers")) (rule (codes "queue")) (rule (codes "make")) (rule (codes "jobs")) (rule (codes "statement")) rows refl refl refl refl refl) (no_check (finished top.rules end.held) (is_some (entered (built monitor_app) end.stopped)))

pub matches_is : (words : List Text) → matches_of monitor_app words ≡ with_flags (rest_rows (walk_from nothing_held) words)
matches_is words = ap with_flags (five_defaults (rule (codes "workers")) (rule (codes "queue")) (rule (codes "make")) (rule (codes "jobs")) (rule (codes "statement")) (rest_rows (walk_from nothing_held) words) refl refl refl refl refl)

-- ---- what clap takes is of the form

pub record Read (before : List Use) (ws : List Text) (w : Walk) : Type 0 where
  pub uses : List Use
  pub spelt : ws ≡ words_of uses
  pub fresh : is_fresh before uses ≡ true
  pub rows : rest_rows w ws ≡ map row_of (before ++ uses)

pub use_row : (n : Text) (us : List Use) → has_use n us ≡ has_row n (map row_of us)
use_row n us = list_any-map (λ r. bytes_eq r.id n) row_of us

pub passes_once : (n v : Text) (rows : List Row) → use_fault false (rule n) (v ∷ []) rows ≡ [] → has_row n rows ≡ false
passes_once n v rows e = go (has_row n rows) refl
  where
    go : (b : Bool) → has_row n rows ≡ b → has_row n rows ≡ false
    go false h = h
    go true h = let bad : kind.ArgumentConflict ∷ [] ≡ [] = sym (later_use n v rows h) ∙ e in cc

pub flag_once : (n : Text) (rows : List Row) → use_fault false (walked.flag n) [] rows ≡ [] → has_row n rows ≡ false
flag_once n rows e = go (has_row n rows) refl
  where
    go : (b : Bool) → has_row n rows ≡ b → has_row n rows ≡ false
    go false h = h
    go true h = let bad : kind.ArgumentConflict ∷ [] ≡ [] = sym (later_flag n rows h) ∙ e in cc

pub more_rows : (u : Use) (rows rows' : List Row) (us : List Use) → rows ≡ map row_of us → rows' ≡ rows ++ row_of u ∷ [] → rows' ≡ map row_of (us ++ u ∷ [])
more_rows u rows rows' us e h = h ∙ ap (λ r. r ++ row_of u ∷ []) e ∙ sym (map-append row_of us (u ∷ []))

pub fresh_one : (u : Use) (us rest : List Use) → is_known u ≡ true → has_use (name_of u) us ≡ false → is_fresh (us ++ u ∷ []) rest ≡ true
    → is_fresh us (u ∷ rest) ≡ true
fresh_one u us rest k h r = rw (k, h, r) refl

abbrev Reads : List Text → Type 0
Reads xs = (rows : List Row) (p : Option (Text × List Text)) (us : List Use) → settled_rows top.rules p rows ≡ map row_of us → has_dashes xs ≡ false
    → rest_fault (walk_from (holds rows p)) xs ≡ [] → Read us xs (walk_from (holds rows p))

pub joined_case : (n v x : Text) (xs : List Text) → Finds n → long_of x ≡ Some (n, Some v) → Reads xs → Reads (x ∷ xs)
joined_case n v x xs f l rec rows p us settles d e =
    let u : Use = joined n v in
    let now = settled_rows top.rules p rows in
    let nd = not_dashes x n (Some v) l in
    let peeled = peel (walk_from (holds rows p)) x xs e in
    let t = sym (joined_turn n v x (holds rows p) f l nd) ∙ peeled.0 in
    let fresh : has_row n now ≡ false = passes_once n v now (second_none (settle_fault top.rules false (holds rows p)) (use_fault false (rule n) (v ∷ []) now) t) in
    let aft : after (walk_from (holds rows p)) x ≡ walk_from (holds (used (rule n) (v ∷ []) now) None) = joined_after n v x (holds rows p) f l nd in
    let r = rec (used (rule n) (v ∷ []) now) None (us ++ u ∷ []) (more_rows u now _ us settles (first_row n v now fresh)) (or_second _ _ d) (subst (λ w. rest_fault w xs ≡ []) aft peeled.1) in
    record {
      uses = u ∷ r.uses;
      spelt = ap₂ (λ (a : Text) (b : List Text). a ∷ b) (long_parts x n (Some v) l) r.spelt;
      fresh = fresh_one u us r.uses f.is_option (use_row n us ∙ ap (has_row n) (sym settles) ∙ fresh) r.fresh;
      rows = ap (λ w. rest_rows w xs) aft ∙ r.rows ∙ ap (map row_of) (append_assoc us (u ∷ []) r.uses);
    }

pub apart_case : (n x y : Text) (ys : List Text) → Finds n → long_of x ≡ Some (n, None) → Reads ys → Reads (x ∷ y ∷ ys)
apart_case n x y ys f l rec rows p us settles d e =
    let u : Use = apart n y in
    let now = settled_rows top.rules p rows in
    let nd = not_dashes x n None l in
    let peeled = peel (walk_from (holds rows p)) x (y ∷ ys) e in
    let aft : after (walk_from (holds rows p)) x ≡ waits_at n (holds now (Some (n, []))) = apart_after n x (holds rows p) f l nd in
    let next = peel (waits_at n (holds now (Some (n, [])))) y ys (subst (λ w. rest_fault w (y ∷ ys) ≡ []) aft peeled.1) in
    let d2 = or_second _ _ d in
    let aft2 : after (waits_at n (holds now (Some (n, [])))) y ≡ walk_from (holds now (Some (n, y ∷ []))) = value_turn n y now f (or_first _ _ d2) next.0 in
    let d3 = or_second _ _ d2 in
    let more : rest_fault (walk_from (holds now (Some (n, y ∷ [])))) ys ≡ [] = subst (λ w. rest_fault w ys ≡ []) aft2 next.1 in
    let settle : settle_fault top.rules false (holds now (Some (n, y ∷ []))) ≡ [] = clean ys now (Some (n, y ∷ [])) d3 more in
    let fresh : has_row n now ≡ false = passes_once n y now (rw f.id at settle) in
    let settles2 : settled_rows top.rules (Some (n, y ∷ [])) now ≡ map row_of (us ++ u ∷ []) = rw f.id (more_rows u now _ us settles (first_row n y now fresh)) in
    let r = rec now (Some (n, y ∷ [])) (us ++ u ∷ []) settles2 d3 more in
    record {
      uses = u ∷ r.uses;
      spelt = ap₂ (λ (a : Text) (b : List Text). a ∷ y ∷ b) (long_parts x n None l) r.spelt;
      fresh = fresh_one u us r.uses f.is_option (use_row n us ∙ ap (has_row n) (sym settles) ∙ fresh) r.fresh;
      rows = ap (λ w. rest_rows w (y ∷ ys)) aft ∙ ap (λ w. rest_rows w ys) aft2 ∙ r.rows ∙ ap (map row_of) (append_assoc us (u ∷ []) r.uses);
    }

pub flag_case : (n x : Text) (xs : List Text) → FindsFlag n → long_of x ≡ Some (n, None) → Reads xs → Reads (x ∷ xs)
flag_case n x xs f l rec rows p us settles d e =
    let u : Use = flag n in
    let now = settled_rows top.rules p rows in
    let nd = not_dashes x n None l in
    let peeled = peel (walk_from (holds rows p)) x xs e in
    let t = sym (flag_turn n x (holds rows p) f l nd) ∙ peeled.0 in
    let fresh : has_row n now ≡ false = flag_once n now (second_none (settle_fault top.rules false (holds rows p)) (use_fault false (walked.flag n) [] now) t) in
    let aft : after (walk_from (holds rows p)) x ≡ walk_from (holds (used (walked.flag n) [] now) None) = flag_after n x (holds rows p) f l nd in
    let r = rec (used (walked.flag n) [] now) None (us ++ u ∷ []) (more_rows u now _ us settles (flag_row n now fresh)) (or_second _ _ d) (subst (λ w. rest_fault w xs ≡ []) aft peeled.1) in
    record {
      uses = u ∷ r.uses;
      spelt = ap₂ (λ (a : Text) (b : List Text). a ∷ b) (long_parts x n None l) r.spelt;
      fresh = fresh_one u us r.uses f.is_flag (use_row n us ∙ ap (has_row n) (sym settles) ∙ fresh) r.fresh;
      rows = ap (λ w. rest_rows w xs) aft ∙ r.rows ∙ ap (map row_of) (append_assoc us (u ∷ []) r.uses);
    }

-- an option with no value after it
pub alone_case : (n x : Text) → Finds n → long_of x ≡ Some (n, None) → Reads (x ∷ [])
alone_case n x f l rows p us settles d e =
    let nd = not_dashes x n None l in
    let now = settled_rows top.rules p rows in
    let peeled = peel (walk_from (holds rows p)) x [] e in
    let aft : after (walk_from (holds rows p)) x ≡ waits_at n (holds now (Some (n, []))) = apart_after n x (holds rows p) f l nd in
    let last : settle_fault top.rules false (holds now (Some (n, []))) ≡ [] = sym (at_end (waits_at n (holds now (Some (n, []))))) ∙ subst (λ w. rest_fault w [] ≡ []) aft peeled.1 in
    let bad : kind.InvalidValue ∷ [] ≡ [] = rw f.id at last in
    cc

pub by_word : (x : Text) (xs : List Text) → Reads xs → ((n : Text) → Finds n → long_of x ≡ Some (n, None) → Reads (x ∷ xs)) → Reads (x ∷ xs)
by_word x xs rec two_words rows p us settles d e = go (long_of x) refl
  where
    at : turn (walk_from (holds rows p)) x ≡ []
    at = (peel (walk_from (holds rows p)) x xs e).0

    go : (o : Option (Text × Option Text)) → long_of x ≡ o → Read us (x ∷ xs) (walk_from (holds rows p))
    go None l = absurd (stray_turn x rows p l (or_first _ _ d) at)
    go (Some (n, None)) l = elim (finds_or_not n) [
      | inl f ↦ two_words n f l rows p us settles d e
      | inr (inl f) ↦ flag_case n x xs f l rec rows p us settles d e
      | inr (inr other) ↦ absurd (unknown_turn n x None (holds rows p) idle other.long l (or_first _ _ d) at)
    ]
    go (Some (n, Some v)) l = elim (finds_or_not n) [
      | inl f ↦ joined_case n v x xs f l rec rows p us settles d e
      | inr (inl f) ↦ absurd (flag_joined_turn n v x (holds rows p) idle f l (or_first _ _ d) at)
      | inr (inr other) ↦ absurd (unknown_turn n x (Some v) (holds rows p) idle other.long l (or_first _ _ d) at)
    ]

pub sound : (xs : List Text) → Reads xs
sound [] = λ rows p us settles d e. record { uses = []; spelt = refl; fresh = refl; rows = settles ∙ ap (map row_of) (sym (append-nil us)) }
sound (x ∷ []) = by_word x [] (sound []) (λ n f l. alone_case n x f l)
sound (x ∷ y ∷ ys) = by_word x (y ∷ ys) (sound (y ∷ ys)) (λ n f l. apart_case n x y ys f l (sound ys))

pub record IsRead (words : List Text) : Type 0 where
  pub uses : List Use
  pub spelt : words ≡ words_of uses
  pub fresh : is_fresh [] uses ≡ true
  pub rows : matches_of monitor_app words ≡ with_flags (map row_of uses)

pub taken_is_read : (words : List Text) → has_dashes words ≡ false → fault_of monitor_app words ≡ [] → IsRead words
taken_is_read words d e =
    let r = sound words [] None [] refl d (sym (fault_is words) ∙ e) in
    record { uses = r.uses; spelt = r.spelt; fresh = r.fresh; rows = matches_is words ∙ ap with_flags r.rows }

-- ---- what is of the form is taken

-- the value does not begin with a hyphen
abbrev pub is_plain : Text → Bool
is_plain v = not (is_some (strip_byte 45 v))

abbrev pub are_plain : List Use → Bool
are_plain us = list_all (λ u. is_plain (text_of u)) us

pub record IsPlainWord (v : Text) : Type 0 where
  pub long : long_of v ≡ None
  pub short : short_of v ≡ None
  pub dashes : bytes_eq v (45 ∷ 45 ∷ []) ≡ false

pub plain_word_is : (v : Text) → is_plain v ≡ true → IsPlainWord v
plain_word_is v e = go (strip_byte 45 v) refl
  where
    go : (o : Option Text) → strip_byte 45 v ≡ o → IsPlainWord v
    go (Some t) h = let bad : false ≡ true = rw h at e in cc
    go None h = record { long = rw h refl; short = rw h refl; dashes = test (bytes_eq v (45 ∷ 45 ∷ [])) refl }
      where
        test : (b : Bool) → bytes_eq v (45 ∷ 45 ∷ []) ≡ b → bytes_eq v (45 ∷ 45 ∷ []) ≡ false
        test false q = q
        test true q = let bad : false ≡ true = rw (same v (45 ∷ 45 ∷ []) q) at e in cc

pub record Takes (before uses : List Use) (w : Walk) : Type 0 where
  pub passes : rest_fault w (words_of uses) ≡ []
  pub rows : rest_rows w (words_of uses) ≡ map row_of (before ++ uses)

pub known_finds : (n : Text) → is_among n options ≡ true → Finds n
known_finds n k = elim (finds_or_not n) [
  | inl f ↦ f
  | inr (inl f) ↦ absurd (let bad : true ≡ false = sym k ∙ f.is_no_option in cc)
  | inr (inr other) ↦ absurd (let bad : true ≡ false = sym k ∙ other.is_no_option in cc)
]

pub known_flag : (n : Text) → is_among n flags ≡ true → FindsFlag n
known_flag n k = elim (finds_or_not n) [
  | inl f ↦ absurd (let bad : true ≡ false = sym k ∙ f.is_no_flag in cc)
  | inr (inl f) ↦ f
  | inr (inr other) ↦ absurd (let bad : true ≡ false = sym k ∙ other.is_no_flag in cc)
]

abbrev Completes : List Use → Type 0
Completes uses = (rows : List Row) (p : Option (Text × List Text)) (us : List Use) → settled_rows top.rules p rows ≡ map row_of us
    → settle_fault top.rules false (holds rows p) ≡ [] → is_fresh us uses ≡ true → are_plain uses ≡ true → Takes us uses (walk_from (holds rows p))

pub one_more : (u : Use) (rest : List Use) → Completes rest → Completes (u ∷ rest)
one_more (joined n v) rest rec rows p us settles c fresh plain =
    let u : Use = joined n v in
    let x = dashed (n ++ 61 ∷ v) in
    let w = walk_from (holds rows p) in
    let now = settled_rows top.rules p rows in
    let f = known_finds n (and_first _ _ fresh) in
    let unused : has_use n us ≡ false = not_true _ (and_first _ _ (and_second _ _ fresh)) in
    let none : has_row n now ≡ false = ap (has_row n) settles ∙ sym (use_row n us) ∙ unused in
    let l : long_of x ≡ Some (n, Some v) = f.joined v in
    let nd = not_dashes x n (Some v) l in
    let aft : after w x ≡ walk_from (holds (used (rule n) (v ∷ []) now) None) = joined_after n v x (holds rows p) f l nd in
    let t : turn w x ≡ [] = joined_turn n v x (holds rows p) f l nd
    ∙ ap (λ k. or_else k (use_fault false (rule n) (v ∷ []) now)) c ∙ first_use n v now none in
    let r = rec (used (rule n) (v ∷ []) now) None (us ++ u ∷ []) (more_rows u now _ us settles (first_row n v now none)) refl (and_second _ _ (and_second _ _ fresh)) (and_second _ _ plain) in
    record {
      passes = unpeel w x (words_of rest) t (subst (λ w. rest_fault w (words_of rest) ≡ []) (sym aft) r.passes);
      rows = ap (λ w. rest_rows w (words_of rest)) aft ∙ r.rows ∙ ap (map row_of) (append_assoc us (u ∷ []) rest);
    }
one_more (apart n v) rest rec rows p us settles c fresh plain =
    let u : Use = apart n v in
    let x = dashed n in
    let w = walk_from (holds rows p) in
    let now = settled_rows top.rules p rows in
    let w1 = waits_at n (holds now (Some (n, []))) in
    let w2 = walk_from (holds now (Some (n, v ∷ []))) in
    let f = known_finds n (and_first _ _ fresh) in
    let unused : has_use n us ≡ false = not_true _ (and_first _ _ (and_second _ _ fresh)) in
    let none : has_row n now ≡ false = ap (has_row n) settles ∙ sym (use_row n us) ∙ unused in
    let l : long_of x ≡ Some (n, None) = f.apart in
    let nd = not_dashes x n None l in
    let q = plain_word_is v (and_first _ _ plain) in
    let aft : after w x ≡ w1 = apart_after n x (holds rows p) f l nd in
    let t : turn w x ≡ [] = apart_turn n x (holds rows p) f l nd ∙ c in
    let aft2 : after w1 v ≡ w2 = plain_after n v now f q.dashes q.long q.short in
    let t2 : turn w1 v ≡ [] = plain_turn n v now f q.dashes q.long q.short in
    let settles2 : settled_rows top.rules (Some (n, v ∷ [])) now ≡ map row_of (us ++ u ∷ []) = rw f.id (more_rows u now _ us settles (first_row n v now none)) in
    let c2 : settle_fault top.rules false (holds now (Some (n, v ∷ []))) ≡ [] = rw f.id (first_use n v now none) in
    let r = rec now (Some (n, v ∷ [])) (us ++ u ∷ []) settles2 c2 (and_second _ _ (and_second _ _ fresh)) (and_second _ _ plain) in
    let tail : rest_fault w1 (v ∷ words_of rest) ≡ [] = unpeel w1 v (words_of rest) t2 (subst (λ w. rest_fault w (words_of rest) ≡ []) (sym aft2) r.passes) in
    record {
      passes = unpeel w x (v ∷ words_of rest) t (subst (λ w. rest_fault w (v ∷ words_of rest) ≡ []) (sym aft) tail);
      rows = ap (λ w. rest_rows w (v ∷ words_of rest)) aft ∙ ap (λ w. rest_rows w (words_of rest)) aft2 ∙ r.rows ∙ ap (map row_of) (append_assoc us (u ∷ []) rest);
    }
one_more (flag n) rest rec rows p us settles c fresh plain =
    let u : Use = flag n in
    let x = dashed n in
    let w = walk_from (holds rows p) in
    let now = settled_rows top.rules p rows in
    let f = known_flag n (and_first _ _ fresh) in
    let unused : has_use n us ≡ false = not_true _ (and_first _ _ (and_second _ _ fresh)) in
    let none : has_row n now ≡ false = ap (has_row n) settles ∙ sym (use_row n us) ∙ unused in
    let l : long_of x ≡ Some (n, None) = f.alone in
    let nd = not_dashes x n None l in
    let aft : after w x ≡ walk_from (holds (used (walked.flag n) [] now) None) = flag_after n x (holds rows p) f l nd in
    let t : turn w x ≡ [] = flag_turn n x (holds rows p) f l nd
    ∙ ap (λ k. or_else k (use_fault false (walked.flag n) [] now)) c ∙ first_flag n now none in
    let r = rec (used (walked.flag n) [] now) None (us ++ u ∷ []) (more_rows u now _ us settles (flag_row n now none)) refl (and_second _ _ (and_second _ _ fresh)) (and_second (is_plain (text_of u)) (are_plain rest) plain) in
    record {
      passes = unpeel w x (words_of rest) t (subst (λ w. rest_fault w (words_of rest) ≡ []) (sym aft) r.passes);
      rows = ap (λ w. rest_rows w (words_of rest)) aft ∙ r.rows ∙ ap (map row_of) (append_assoc us (u ∷ []) rest);
    }

pub complete : (uses : List Use) → Completes uses
complete [] = λ rows p us settles c fresh plain. record { passes = at_end (walk_from (holds rows p)) ∙ c; rows = settles ∙ ap (map row_of) (sym (append-nil us)) }
complete (u ∷ rest) = one_more u rest (complete rest)

pub record IsTaken (uses : List Use) : Type 0 where
  pub passes : fault_of monitor_app (words_of uses) ≡ []
  pub rows : matches_of monitor_app (words_of uses) ≡ with_flags (map row_of uses)

pub spelt_is_taken : (uses : List Use) → is_fresh [] uses ≡ true → are_plain uses ≡ true → IsTaken uses
spelt_is_taken uses fresh plain =
    let t = complete uses [] None [] refl refl fresh plain in
    record { passes = fault_is (words_of uses) ∙ t.passes; rows = matches_is (words_of uses) ∙ ap with_flags t.rows }
