-- From what clap gives to the order.
use Rattle.std.proofs.Common.{◌≡◌, ◌∙◌, sym, ap, ap₂, refl, ℕ, Bool, true, false, List, [], ◌∷◌, ◌++◌, Option, Some, None, codes, append_assoc, map}
use Rattle.std.specs.Prelude.{if◌then◌else◌, unwrap_or, ◌==◌, find, is_some, option_and_then, option_map, slice_get}
use Rattle.std.specs.List.{list_all}
use Rattle.std.specs.Str.{bytes_eq}
use Rattle.std.proofs.lemmas.Slice.Eq.{bytes_eq-Decides}
use Rattle.clap.specs.declared.builder.value_parser.Reading.{Reading}
use Rattle.clap.specs.declared.builder.value_parser.Reading.TheVariants as reading
use Rattle.clap.specs.declared.parser.matches.ValueSource.{ValueSource}
use Rattle.clap.specs.declared.parser.matches.ValueSource.TheVariants.{DefaultValue}
use Rattle.clap.specs.Walk.{Row, Text, first_of, has_row, one_of, row_text, with_default, with_values}
use Rattle.clap.specs.Faults.{fault_of}
use Rattle.clap.specs.Simple.{matches_of}
use Rattle.command_words.specs.Command.{monitor_app}
use Rattle.clap.specs.Words.{first_value, one_text, rows_of}
use Rattle.clap.proofs.WalkLemmas.{first_value-rows, one_text-rows}
use Rattle.clap.specs.declared.parser.matches.Found.{Found}
use Rattle.command_words.specs.declared.order.Order.{Order}
use Rattle.std.specs.Char.{is_ascii_digit}
use Rattle.std.specs.Str.Parse.{digits_value}
use Rattle.deck_reader.specs.Forms as forms
use Rattle.command_words.specs.Form.{Use, apart, joined, flag, flags, has_flag, is_among, is_known, name_of, options, run_from, make_from, statement_from, IsOrder, dashed, has_dashes, number_in, number_or, order_from, order_of, value_in, value_of, words_of}
use Rattle.command_words.proofs.Fresh.{and_first, are_known, both_true, and_second, not_true, is_fresh, has_use, fresh_by, fresh_is_known, fresh_is_once}
use Rattle.command_words.proofs.Walked as walked
use Rattle.command_words.proofs.Walked.{Finds, FindsFlag, finds_accounts, finds_board, finds_jobs, finds_make, finds_queue, finds_statement, finds_workers, not_dashes, same}
use Rattle.command_words.proofs.Whole.{IsRead, accounts, are_plain, is_plain, known_finds, known_flag, is_hyphen, plain_word_is, row_of, taken_is_read, spelt_is_taken, text_of, use_row, with_flags}

-- ---- the values of options

-- the text of the first use of a name
abbrev pub text_at : Text → List Use → Option Text
text_at name us = option_map text_of (find (λ u. bytes_eq (name_of u) name) us)

first_is_text : (name : Text) (us : List Use) → first_of name (map row_of us) ≡ text_at name us
first_is_text name [] = refl
first_is_text name (u ∷ us) = go (bytes_eq (name_of u) name) refl (first_is_text name us)
  where
    go : (b : Bool) → bytes_eq (name_of u) name ≡ b → first_of name (map row_of us) ≡ text_at name us → first_of name (map row_of (u ∷ us)) ≡ text_at name (u ∷ us)
    go true e rec = rw e refl
    go false e rec = rw e rec

has_value : (u : Use) → is_known u ≡ true → is_among (name_of u) flags ≡ false → value_in u ≡ Some (text_of u)
has_value (apart n v) known other = refl
has_value (joined n v) known other = refl
has_value (flag n) known other = let bad : true ≡ false = sym known ∙ other in cc

-- the value of an option is the text of its use
value_is_text : (name : Text) (us : List Use) → Finds name → are_known us ≡ true → value_of name us ≡ text_at name us
value_is_text name [] f known = refl
value_is_text name (u ∷ us) f known = go (bytes_eq (name_of u) name) refl (value_is_text name us f (and_second (is_known u) (are_known us) known))
  where
    go : (b : Bool) → bytes_eq (name_of u) name ≡ b → value_of name us ≡ text_at name us → value_of name (u ∷ us) ≡ text_at name (u ∷ us)
    go true e rec = rw e (has_value u (and_first (is_known u) (are_known us) known) (ap (λ (n : Text). is_among n flags) (same (name_of u) name e) ∙ f.is_no_flag))
    go false e rec = rw e rec

-- the row of a name
abbrev row_at : Text → List Row → Option Row
row_at name rows = find (λ r. bytes_eq r.id name) rows

-- values given to a name are none of another's
row_of_others : (name id : Text) (how : Reading) (source : ValueSource) (values : List Text) (rows : List Row) → bytes_eq id name ≡ false
    → row_at name (with_values id how source values rows) ≡ row_at name rows
row_of_others name id how source values [] other = rw other refl
row_of_others name id how source values (r ∷ rs) other = go (bytes_eq r.id id) (bytes_eq r.id name) refl refl (row_of_others name id how source values rs other)
  where
    go : (a b : Bool) → bytes_eq r.id id ≡ a → bytes_eq r.id name ≡ b → row_at name (with_values id how source values rs) ≡ row_at name rs
        → row_at name (with_values id how source values (r ∷ rs)) ≡ row_at name (r ∷ rs)
    go true b ea eb rec = rw (ea, ap (λ (i : Text). bytes_eq i name) (same r.id id ea) ∙ other) refl
    go false true ea eb rec = rw (ea, eb) refl
    go false false ea eb rec = rw (ea, eb) rec

-- nor is the default of a flag
past_default : (name id : Text) (rows : List Row) → bytes_eq id name ≡ false → row_at name (with_default rows (walked.flag id)) ≡ row_at name rows
past_default name id rows other = go (has_row id rows) refl
  where
    go : (b : Bool) → has_row id rows ≡ b → row_at name (with_default rows (walked.flag id)) ≡ row_at name rows
    go true e = rw e refl
    go false e = rw e (row_of_others name id reading.AsWritten DefaultValue (codes "false" ∷ []) rows other)

past_flags : (name : Text) (rows : List Row) → bytes_eq (codes "accounts") name ≡ false → bytes_eq (codes "board") name ≡ false → row_at name (with_flags rows) ≡ row_at name rows
past_flags name rows no_accounts no_board = past_default name (codes "board") (with_default rows accounts) no_board ∙ past_default name (codes "accounts") rows no_accounts

-- ---- the flags

-- what `clap` has for a flag that is used, or isn't
abbrev pub word_of : Bool → Text
word_of true = codes "true"
word_of false = codes "false"

abbrev pub is_true : Option Text → Bool
is_true None = false
is_true (Some text) = bytes_eq text (codes "true")

flag_reads : (b : Bool) → is_true (Some (word_of b)) ≡ b
flag_reads true = refl
flag_reads false = refl

is_flagged : (u : Use) → is_known u ≡ true → is_among (name_of u) options ≡ false → text_of u ≡ codes "true"
is_flagged (apart n v) known other = let bad : true ≡ false = sym known ∙ other in cc
is_flagged (joined n v) known other = let bad : true ≡ false = sym known ∙ other in cc
is_flagged (flag n) known other = refl

flag_used : (name : Text) (us : List Use) → FindsFlag name → are_known us ≡ true → has_use name us ≡ true → one_of name (map row_of us) ≡ Some (codes "true")
flag_used name [] f known h = cc
flag_used name (u ∷ us) f known h = go (bytes_eq (name_of u) name) refl (λ k. flag_used name us f (and_second (is_known u) (are_known us) known) k)
  where
    go : (b : Bool) → bytes_eq (name_of u) name ≡ b → (has_use name us ≡ true → one_of name (map row_of us) ≡ Some (codes "true")) → one_of name (map row_of (u ∷ us)) ≡ Some (codes "true")
    go true e rec = rw e (ap (λ (t : Text). Some t) (is_flagged u (and_first (is_known u) (are_known us) known) (ap (λ (n : Text). is_among n options) (same (name_of u) name e) ∙ f.is_no_option)))
    go false e rec = rw e (rec (rw e at h))

flag_unused : (name : Text) (rows : List Row) → has_row name rows ≡ false → one_of name (with_values name reading.AsWritten DefaultValue (codes "false" ∷ []) rows) ≡ Some (codes "false")
flag_unused name [] h = rw ((bytes_eq-Decides name name).1 refl) refl
flag_unused name (r ∷ rs) h = go (bytes_eq r.id name) refl (λ k. flag_unused name rs k)
  where
    go : (b : Bool) → bytes_eq r.id name ≡ b
        → (has_row name rs ≡ false → one_of name (with_values name reading.AsWritten DefaultValue (codes "false" ∷ []) rs) ≡ Some (codes "false"))
        → one_of name (with_values name reading.AsWritten DefaultValue (codes "false" ∷ []) (r ∷ rs)) ≡ Some (codes "false")
    go true e rec = let bad : true ≡ false = rw e at h in cc
    go false e rec = rw e (rw e (rec (rw e at h)))

-- with its default a flag has the word of whether it was used
flag_word : (name : Text) (rows : List Row) (b : Bool) → has_row name rows ≡ b → (b ≡ true → one_of name rows ≡ Some (codes "true")) → one_of name (with_default rows (walked.flag name)) ≡ Some (word_of b)
flag_word name rows true there is = rw there (is refl)
flag_word name rows false there is = rw there (flag_unused name rows there)

-- a name has a row where it has one that is found
row_there : (name : Text) (rows : List Row) → has_row name rows ≡ is_some (row_at name rows)
row_there name [] = refl
row_there name (r ∷ rs) = go (bytes_eq r.id name) refl (row_there name rs)
  where
    go : (b : Bool) → bytes_eq r.id name ≡ b → has_row name rs ≡ is_some (row_at name rs) → has_row name (r ∷ rs) ≡ is_some (row_at name (r ∷ rs))
    go true e rec = rw e refl
    go false e rec = rw e rec

-- what the uses of flags come to
abbrev HasWord : Text → Type 0
HasWord name = (us : List Use) → are_known us ≡ true → one_of name (with_flags (map row_of us)) ≡ Some (word_of (has_flag name us))

accounts_word : HasWord (codes "accounts")
accounts_word us known =
    ap (option_and_then row_text) (past_default (codes "accounts") (codes "board") (with_default (map row_of us) accounts) refl)
    ∙ flag_word (codes "accounts") (map row_of us) (has_flag (codes "accounts") us) (sym (use_row (codes "accounts") us)) (flag_used (codes "accounts") us finds_accounts known)

board_word : HasWord (codes "board")
board_word us known =
    let past = past_default (codes "board") (codes "accounts") (map row_of us) refl in
    flag_word (codes "board") (with_default (map row_of us) accounts) (has_flag (codes "board") us)
    (row_there (codes "board") (with_default (map row_of us) accounts) ∙ ap is_some past ∙ sym (row_there (codes "board") (map row_of us)) ∙ sym (use_row (codes "board") us))
    (λ h. ap (option_and_then row_text) past ∙ flag_used (codes "board") us finds_board known h)

-- ---- values are plain

skipped : (name : Text) (before us : List Use) → has_use name before ≡ false → value_of name (before ++ us) ≡ value_of name us
skipped name [] us h = refl
skipped name (b ∷ before) us h = go (bytes_eq (name_of b) name) refl (λ k. skipped name before us k)
  where
    go : (t : Bool) → bytes_eq (name_of b) name ≡ t → (has_use name before ≡ false → value_of name (before ++ us) ≡ value_of name us) → value_of name ((b ∷ before) ++ us) ≡ value_of name us
    go true e rec = let bad : true ≡ false = rw e at h in cc
    go false e rec = rw e (rec (rw e at h))

here : (n : Text) → bytes_eq n n ≡ true
here n = (bytes_eq-Decides n n).1 refl

abbrev ArePlain : List Use → Type 0
ArePlain us = (n v : Text) → Finds n → value_of n us ≡ Some v → is_plain v ≡ true

plain_use : (u : Use) (rest before : List Use) → is_fresh before (u ∷ rest) ≡ true → ArePlain (before ++ u ∷ rest) → is_plain (text_of u) ≡ true
plain_use (apart n v) rest before fresh h =
    let u : Use = apart n v in
    let unused : has_use n before ≡ false = not_true _ (and_first _ _ (and_second _ _ fresh)) in
    let value : value_of n (u ∷ rest) ≡ Some v = rw (here n) refl in
    h n v (known_finds n (and_first _ _ fresh)) (skipped n before (u ∷ rest) unused ∙ value)
plain_use (joined n v) rest before fresh h =
    let u : Use = joined n v in
    let unused : has_use n before ≡ false = not_true _ (and_first _ _ (and_second _ _ fresh)) in
    let value : value_of n (u ∷ rest) ≡ Some v = rw (here n) refl in
    h n v (known_finds n (and_first _ _ fresh)) (skipped n before (u ∷ rest) unused ∙ value)
plain_use (flag n) rest before fresh h = refl

plain_all : (us before : List Use) → is_fresh before us ≡ true → ArePlain (before ++ us) → are_plain us ≡ true
plain_all [] before fresh h = refl
plain_all (u ∷ rest) before fresh h =
    both_true (is_plain (text_of u)) (are_plain rest) (plain_use u rest before fresh h)
    (plain_all rest (before ++ u ∷ []) (and_second _ _ (and_second _ _ fresh)) (λ n v g e. h n v g (ap (value_of n) (sym (append_assoc before (u ∷ []) rest)) ∙ e)))

chosen : (b : Bool) (n m : ℕ) → (if b then Some n else None) ≡ Some m → b ≡ true
chosen true n m e = refl
chosen false n m e = cc

number_plain : (low high n : ℕ) (v : Text) → number_in low high v ≡ Some n → is_plain v ≡ true
number_plain low high n [] e = refl
number_plain low high n (x ∷ xs) e = go (x == 45) refl
  where
    go : (b : Bool) → (x == 45) ≡ b → is_plain (x ∷ xs) ≡ true
    go false h = rw h refl
    go true h =
        let number = and_first _ _ (chosen _ (digits_value 10 (x ∷ xs)) n e) in
        let digits = and_second _ _ (and_second _ _ number) in
        let digit : is_ascii_digit x ≡ true = and_first (is_ascii_digit x) (list_all is_ascii_digit xs) digits in
        let bad : is_ascii_digit 45 ≡ true = rw (is_hyphen x h) at digit in
        cc

name_plain : (v n : Text) → forms.name_of v ≡ Some n → is_plain v ≡ true
name_plain [] n e = refl
name_plain (x ∷ xs) n e = go (x == 45) refl
  where
    named : (b : Bool) → (if b then Some (forms.folded (x ∷ xs)) else None) ≡ Some n → b ≡ true
    named true e = refl
    named false e = cc

    go : (b : Bool) → (x == 45) ≡ b → is_plain (x ∷ xs) ≡ true
    go false h = rw h refl
    go true h =
        let letter : forms.is_letter x ≡ true = and_first _ _ (named (forms.is_name (x ∷ xs)) e) in
        let bad : forms.is_letter 45 ≡ true = rw (is_hyphen x h) at letter in
        cc

plain_or : (default low high n : ℕ) (t : Option Text) → number_or default low high t ≡ Some n → (v : Text) → t ≡ Some v → is_plain v ≡ true
plain_or default low high n None e v h = cc
plain_or default low high n (Some w) e v h = number_plain low high n v (rw (ap (λ (o : Option Text). unwrap_or o v) h) at e)

record Two (a b : Option ℕ) : Type 0 where
  x : ℕ
  y : ℕ
  is_x : a ≡ Some x
  is_y : b ≡ Some y

two : (k l : Bool) (a b : Option ℕ) (o : Order) → run_from k l a b ≡ Some o → Two a b
two k l (Some x) (Some y) o e = record { x = x; y = y; is_x = refl; is_y = refl }
two k l None b o e = cc
two k l (Some x) None o e = cc

record Named (n : Option Text) (a b : Option ℕ) : Type 0 where
  name : Text
  is_name : n ≡ Some name
  both : Two a b

named : (n : Option Text) (a b : Option ℕ) (o : Order) → statement_from n a b ≡ Some o → Named n a b
named (Some name) (Some x) (Some y) o e = record { name = name; is_name = refl; both = record { x = x; y = y; is_x = refl; is_y = refl } }
named None a b o e = cc
named (Some name) None b o e = cc
named (Some name) (Some x) None o e = cc

record Four (a b c d : Option ℕ) : Type 0 where
  first : Two a b
  second : Two c d

four : (a b c d : Option ℕ) (o : Order) → make_from a b c d ≡ Some o → Four a b c d
four (Some x) (Some y) (Some z) (Some w) o e = record { first = record { x = x; y = y; is_x = refl; is_y = refl }; second = record { x = z; y = w; is_x = refl; is_y = refl } }
four None b c d o e = cc
four (Some x) None c d o e = cc
four (Some x) (Some y) None d o e = cc
four (Some x) (Some y) (Some z) None o e = cc

record Plains (m j s w q : Option Text) : Type 0 where
  make : (v : Text) → m ≡ Some v → is_plain v ≡ true
  jobs : (v : Text) → j ≡ Some v → is_plain v ≡ true
  statement : (v : Text) → s ≡ Some v → is_plain v ≡ true
  workers : (v : Text) → w ≡ Some v → is_plain v ≡ true
  queue : (v : Text) → q ≡ Some v → is_plain v ≡ true

-- the text of a name is plain
plain_name : (s n : Text) → forms.name_of s ≡ Some n → (v : Text) → Some s ≡ Some v → is_plain v ≡ true
plain_name s n e v h = name_plain v n (rw (ap (λ (o : Option Text). unwrap_or o v) h) at e)

plains : (m j s : Option Text) (k l : Bool) (w q : Option Text) (o : Order) → order_from m j s k l (number_or 4 1 16 w) (number_or 8 1 64 q) ≡ Some o → Plains m j s w q
plains None None None k l w q o e =
    let t = two k l (number_or 4 1 16 w) (number_or 8 1 64 q) o e in
    record { make = λ v h. cc; jobs = λ v h. cc; statement = λ v h. cc; workers = plain_or 4 1 16 t.x w t.is_x; queue = plain_or 8 1 64 t.y q t.is_y }
plains None None (Some s) false false w q o e =
    let t = named (forms.name_of s) (number_or 4 1 16 w) (number_or 8 1 64 q) o e in
    record { make = λ v h. cc; jobs = λ v h. cc; statement = plain_name s t.name t.is_name; workers = plain_or 4 1 16 t.both.x w t.both.is_x; queue = plain_or 8 1 64 t.both.y q t.both.is_y }
plains None None (Some s) true l w q o e = cc
plains None None (Some s) false true w q o e = cc
plains (Some m) (Some j) None false false w q o e =
    let t = four (number_in 0 4294967295 m) (number_in 1 2000 j) (number_or 4 1 16 w) (number_or 8 1 64 q) o e in
    record {
      make = plain_or 0 0 4294967295 t.first.x (Some m) t.first.is_x;
      jobs = plain_or 0 1 2000 t.first.y (Some j) t.first.is_y;
      statement = λ v h. cc;
      workers = plain_or 4 1 16 t.second.x w t.second.is_x;
      queue = plain_or 8 1 64 t.second.y q t.second.is_y;
    }
plains (Some m) (Some j) None true l w q o e = cc
plains (Some m) (Some j) None false true w q o e = cc
plains (Some m) (Some j) (Some s) k l w q o e = cc
plains None (Some j) s k l w q o e = cc
plains (Some m) None s k l w q o e = cc

order_plain : (us : List Use) (o : Order) → order_of us ≡ Some o → (n v : Text) → Finds n → value_of n us ≡ Some v → is_plain v ≡ true
order_plain us o e n v f h = go (bytes_eq (codes "workers") n) (bytes_eq (codes "queue") n) (bytes_eq (codes "make") n) (bytes_eq (codes "jobs") n) (bytes_eq (codes "statement") n) refl refl refl refl refl
  where
    p : Plains (value_of (codes "make") us) (value_of (codes "jobs") us) (value_of (codes "statement") us) (value_of (codes "workers") us) (value_of (codes "queue") us)
    p = plains _ _ _ (has_flag (codes "accounts") us) (has_flag (codes "board") us) _ _ o e

    at : (m : Text) → bytes_eq m n ≡ true → value_of m us ≡ Some v
    at m s = ap (λ k. value_of k us) ((bytes_eq-Decides m n).0 s) ∙ h

    go : (a b c d s : Bool) → bytes_eq (codes "workers") n ≡ a → bytes_eq (codes "queue") n ≡ b → bytes_eq (codes "make") n ≡ c → bytes_eq (codes "jobs") n ≡ d
        → bytes_eq (codes "statement") n ≡ s → is_plain v ≡ true
    go true b c d s ea eb ec ed es = p.workers v (at (codes "workers") ea)
    go false true c d s ea eb ec ed es = p.queue v (at (codes "queue") eb)
    go false false true d s ea eb ec ed es = p.make v (at (codes "make") ec)
    go false false false true s ea eb ec ed es = p.jobs v (at (codes "jobs") ed)
    go false false false false true ea eb ec ed es = p.statement v (at (codes "statement") es)
    go false false false false false ea eb ec ed es = let bad : false ≡ true = rw (ea, eb, ec, ed, es) at f.is_option in cc

no_dashes_one : (u : Use) (rest : List Use) → is_known u ≡ true → is_plain (text_of u) ≡ true → has_dashes (words_of rest) ≡ false → has_dashes (words_of (u ∷ rest)) ≡ false
no_dashes_one (joined n v) rest known plain rec = rw (not_dashes (dashed (n ++ 61 ∷ v)) n (Some v) ((known_finds n known).joined v)) rec
no_dashes_one (apart n v) rest known plain rec = rw (not_dashes (dashed n) n None (known_finds n known).apart, (plain_word_is v plain).dashes) rec
no_dashes_one (flag n) rest known plain rec = rw (not_dashes (dashed n) n None (known_flag n known).alone) rec

no_dashes : (us before : List Use) → is_fresh before us ≡ true → are_plain us ≡ true → has_dashes (words_of us) ≡ false
no_dashes [] before fresh plain = refl
no_dashes (u ∷ rest) before fresh plain = no_dashes_one u rest (and_first _ _ fresh) (and_first _ _ plain)
    (no_dashes rest (before ++ u ∷ []) (and_second _ _ (and_second _ _ fresh)) (and_second _ _ plain))

pub record Agrees (words : List Text) : Type 0 where
  pub dashes : has_dashes words ≡ false
  pub passes : fault_of monitor_app words ≡ []

pub order_agrees : (words : List Text) (o : Order) → IsOrder words o → Agrees words
order_agrees words o h =
    let fresh = fresh_by h.uses h.known h.once in
    let plain = plain_all h.uses [] fresh (order_plain h.uses o h.says) in
    record {
      dashes = ap has_dashes h.spelt ∙ no_dashes h.uses [] fresh plain;
      passes = ap (fault_of monitor_app) h.spelt ∙ (spelt_is_taken h.uses fresh plain).passes;
    }

abbrev pub given : List Text → Text → Option Text
given words name = first_of name (matches_of monitor_app words)

abbrev pub flag_given : List Text → Text → Bool
flag_given words name = is_true (one_of name (matches_of monitor_app words))

abbrev pub order_given : List Text → Option Order
order_given words = order_from (given words (codes "make")) (given words (codes "jobs")) (given words (codes "statement"))
    (flag_given words (codes "accounts")) (flag_given words (codes "board"))
    (number_or 4 1 16 (given words (codes "workers"))) (number_or 8 1 64 (given words (codes "queue")))

order_by_rows : (words : List Text) (us : List Use) → are_known us ≡ true → matches_of monitor_app words ≡ with_flags (map row_of us) → order_given words ≡ order_of us
order_by_rows words us known e =
    let is : (n : Text) → Finds n → bytes_eq (codes "accounts") n ≡ false → bytes_eq (codes "board") n ≡ false → given words n ≡ value_of n us =
    λ n f no_accounts no_board. ap (first_of n) e ∙ ap (option_and_then (λ r. slice_get r.values 0)) (past_flags n (map row_of us) no_accounts no_board) ∙ first_is_text n us ∙ sym (value_is_text n us f known) in
    let flagged : (n : Text) → HasWord n → flag_given words n ≡ has_flag n us =
    λ n word. ap (λ rows. is_true (one_of n rows)) e ∙ ap is_true (word us known) ∙ flag_reads (has_flag n us) in
    rw (
      is (codes "make") finds_make refl refl,
      is (codes "jobs") finds_jobs refl refl,
      is (codes "statement") finds_statement refl refl,
      is (codes "workers") finds_workers refl refl,
      is (codes "queue") finds_queue refl refl,
      flagged (codes "accounts") accounts_word,
      flagged (codes "board") board_word,
    ) refl

pub order_is_given : (words : List Text) (o : Order) → IsOrder words o → order_given words ≡ Some o
order_is_given words o h =
    let fresh = fresh_by h.uses h.known h.once in
    let plain = plain_all h.uses [] fresh (order_plain h.uses o h.says) in
    order_by_rows words h.uses h.known (ap (matches_of monitor_app) h.spelt ∙ (spelt_is_taken h.uses fresh plain).rows) ∙ h.says

pub given_is_order : (words : List Text) (o : Order) → has_dashes words ≡ false → fault_of monitor_app words ≡ [] → order_given words ≡ Some o → IsOrder words o
given_is_order words o d e g =
    let r = taken_is_read words d e in
    record {
      uses = r.uses;
      spelt = r.spelt;
      known = fresh_is_known r.uses r.fresh;
      once = fresh_is_once r.uses r.fresh;
      says = sym (order_by_rows words r.uses (fresh_is_known r.uses r.fresh) r.rows) ∙ g;
    }

pub assembled : (words : List Text) (m j s w q : Option Text) (k l : Bool) (workers queue : Option ℕ) (r : Option Order)
    → m ≡ given words (codes "make") → j ≡ given words (codes "jobs") → s ≡ given words (codes "statement") → w ≡ given words (codes "workers") → q ≡ given words (codes "queue")
    → k ≡ flag_given words (codes "accounts") → l ≡ flag_given words (codes "board")
    → workers ≡ number_or 4 1 16 w → queue ≡ number_or 8 1 64 q → r ≡ order_from m j s k l workers queue → r ≡ order_given words
assembled words m j s w q k l workers queue r em ej es ew eq ek el eworkers equeue e =
    e ∙ ap₂ (λ a b. order_from a b s k l workers queue) em ej
    ∙ ap (λ a. order_from (given words (codes "make")) (given words (codes "jobs")) a k l workers queue) es
    ∙ ap₂ (λ a b. order_from (given words (codes "make")) (given words (codes "jobs")) (given words (codes "statement")) a b workers queue) ek el
    ∙ ap₂ (order_from (given words (codes "make")) (given words (codes "jobs")) (given words (codes "statement")) (flag_given words (codes "accounts")) (flag_given words (codes "board"))) (eworkers ∙ ap (number_or 4 1 16) ew) (equeue ∙ ap (number_or 8 1 64) eq)

-- what `get_flag` answers
flag_is : (name : Text) → HasWord name → (f : Found) (words : List Text) (answer : Bool) → has_dashes words ≡ false → fault_of monitor_app words ≡ [] → rows_of f ≡ matches_of monitor_app words
    → (one_text f name ≡ Some (codes "true") → answer ≡ true) → (one_text f name ≡ Some (codes "false") → answer ≡ false)
    → answer ≡ flag_given words name
flag_is name word f words answer d passes rows used unused = go (has_flag name r.uses) refl
  where
    r : IsRead words
    r = taken_is_read words d passes

    given_so : one_of name (matches_of monitor_app words) ≡ Some (word_of (has_flag name r.uses))
    given_so = ap (one_of name) r.rows ∙ word r.uses (fresh_is_known r.uses r.fresh)

    text : one_text f name ≡ Some (word_of (has_flag name r.uses))
    text = one_text-rows f name ∙ ap (one_of name) rows ∙ given_so

    go : (b : Bool) → has_flag name r.uses ≡ b → answer ≡ flag_given words name
    go true e = used (text ∙ ap (λ (b : Bool). Some (word_of b)) e) ∙ sym (ap is_true (given_so ∙ ap (λ (b : Bool). Some (word_of b)) e))
    go false e = unused (text ∙ ap (λ (b : Bool). Some (word_of b)) e) ∙ sym (ap is_true (given_so ∙ ap (λ (b : Bool). Some (word_of b)) e))

-- what it answers for each of the flags
abbrev pub FlagAnswers : Text → Type 0
FlagAnswers name = (f : Found) (words : List Text) (answer : Bool) → has_dashes words ≡ false → fault_of monitor_app words ≡ [] → rows_of f ≡ matches_of monitor_app words
    → (one_text f name ≡ Some (codes "true") → answer ≡ true) → (one_text f name ≡ Some (codes "false") → answer ≡ false)
    → answer ≡ flag_given words name

pub accounts_is : FlagAnswers (codes "accounts")
accounts_is = flag_is (codes "accounts") accounts_word

pub board_is : FlagAnswers (codes "board")
board_is = flag_is (codes "board") board_word

pub text_given : (f : Found) (words : List Text) (n : Text) → rows_of f ≡ matches_of monitor_app words → first_value f n ≡ given words n
text_given f words n e = first_value-rows f n ∙ ap (first_of n) e
