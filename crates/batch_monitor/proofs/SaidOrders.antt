-- What is known of what the command words say.
use Rattle.std.proofs.Common.{◌≡◌, ◌⊎◌, ◌≤◌, ◌∙◌, inl, inr, ℕ, Bool, true, false, Option, Some, None, List, arith, refl, ap, sym, subst}
use Rattle.std.specs.Prelude.{◌&&◌, codes, if◌then◌else◌, unwrap_or}
use Rattle.std.specs.Int.{is_in_range}
use Rattle.std.specs.Str.Parse.{digits_value}
use Rattle.std.proofs.lemmas.Bool.{leb-true}
use Rattle.deck_reader.specs.Forms as forms
use Rattle.command_words.specs.declared.order.Order.{Order}
use Rattle.command_words.specs.declared.order.Order.TheVariants.{Run, Make, Statement}
use Rattle.command_words.specs.Form.{IsOrder, Text, Use, is_number, make_from, number_in, number_or, order_from, run_from, statement_from, has_flag, value_of}
use Rattle.command_words.proofs.Fresh.{and_first, and_second}
use Rattle.command_words.proofs.Orders.{order_is_given}
use Rattle.batch_monitor.specs.declared.asked.Asked.{Asked}
use Rattle.batch_monitor.specs.Orders.{IsMake, IsRun, IsSaid, IsStatement, SaysAccounts, SaysMake, SaysRun, SaysStatement, WithAccounts}

-- ---- how many jobs

most_jobs : (text : Text) (n : ℕ) → number_in 1 2000 text ≡ Some n → n ≤ 2000
most_jobs text n = go (is_number text && is_in_range 1 2000 (digits_value 10 text)) refl
  where
    go : (b : Bool) → (is_number text && is_in_range 1 2000 (digits_value 10 text)) ≡ b → number_in 1 2000 text ≡ Some n → n ≤ 2000
    go true h e =
        let is : Some (digits_value 10 text) ≡ Some n = subst (λ (b : Bool). (if b then Some (digits_value 10 text) else None) ≡ Some n) h e in
        subst (λ (k : ℕ). k ≤ 2000) (ap (λ (o : Option ℕ). unwrap_or o n) is) (leb-true (digits_value 10 text) 2000 (and_second _ _ (and_second _ _ h)))
    go false h e =
        let is : None ≡ Some n = subst (λ (b : Bool). (if b then Some (digits_value 10 text) else None) ≡ Some n) h e in
        cc

jobs_given : (s n w q : Option ℕ) (seed jobs workers queue : ℕ) → make_from s n w q ≡ Some (Make seed jobs workers queue) → n ≡ Some jobs
jobs_given (Some a) (Some b) (Some c) (Some d) seed jobs workers queue e = cc
jobs_given (Some a) (Some b) (Some c) None seed jobs workers queue e = cc
jobs_given (Some a) (Some b) None q seed jobs workers queue e = cc
jobs_given (Some a) None w q seed jobs workers queue e = cc
jobs_given None n w q seed jobs workers queue e = cc

run_makes_none : (k l : Bool) (w q : Option ℕ) (seed jobs workers queue : ℕ) → run_from k l w q ≡ Some (Make seed jobs workers queue) → ⊥
run_makes_none k l (Some a) (Some b) seed jobs workers queue e = cc
run_makes_none k l (Some a) None seed jobs workers queue e = cc
run_makes_none k l None q seed jobs workers queue e = cc

statement_makes_none : (n : Option Text) (w q : Option ℕ) (seed jobs workers queue : ℕ) → statement_from n w q ≡ Some (Make seed jobs workers queue) → ⊥
statement_makes_none (Some n) (Some a) (Some b) seed jobs workers queue e = cc
statement_makes_none (Some n) (Some a) None seed jobs workers queue e = cc
statement_makes_none (Some n) None q seed jobs workers queue e = cc
statement_makes_none None w q seed jobs workers queue e = cc

in_range : (m j s : Option Text) (k l : Bool) (w q : Option ℕ) (seed jobs workers queue : ℕ) → order_from m j s k l w q ≡ Some (Make seed jobs workers queue) → jobs ≤ 2000
in_range None None None k l w q seed jobs workers queue e = absurd (run_makes_none k l w q seed jobs workers queue e)
in_range None None (Some s) true l w q seed jobs workers queue e = cc
in_range None None (Some s) false true w q seed jobs workers queue e = cc
in_range None None (Some s) false false w q seed jobs workers queue e = absurd (statement_makes_none (forms.name_of s) w q seed jobs workers queue e)
in_range None (Some j) s k l w q seed jobs workers queue e = cc
in_range (Some m) None s k l w q seed jobs workers queue e = cc
in_range (Some m) (Some j) (Some s) k l w q seed jobs workers queue e = cc
in_range (Some m) (Some j) None true l w q seed jobs workers queue e = cc
in_range (Some m) (Some j) None false true w q seed jobs workers queue e = cc
in_range (Some m) (Some j) None false false w q seed jobs workers queue e = most_jobs j jobs (jobs_given (number_in 0 4294967295 m) (number_in 1 2000 j) w q seed jobs workers queue e)

-- a batch of at most 2,000 jobs is made
jobs_in_range : (words : List Text) (seed jobs workers queue : ℕ) → IsOrder words (Make seed jobs workers queue) → jobs ≤ 2000
jobs_in_range words seed jobs workers queue h =
    in_range (value_of (codes "make") h.uses) (value_of (codes "jobs") h.uses) (value_of (codes "statement") h.uses) (has_flag (codes "accounts") h.uses) (has_flag (codes "board") h.uses) (number_or 4 1 16 (value_of (codes "workers") h.uses)) (number_or 8 1 64 (value_of (codes "queue") h.uses))
    seed jobs workers queue h.says

-- ---- how many workers, and how long a queue

within : (least most : ℕ) (text : Text) (n : ℕ) → number_in least most text ≡ Some n → (least ≤ n) × (n ≤ most)
within least most text n = go (is_number text && is_in_range least most (digits_value 10 text)) refl
  where
    go : (b : Bool) → (is_number text && is_in_range least most (digits_value 10 text)) ≡ b → number_in least most text ≡ Some n → (least ≤ n) × (n ≤ most)
    go true h e =
        let is : Some (digits_value 10 text) ≡ Some n = subst (λ (b : Bool). (if b then Some (digits_value 10 text) else None) ≡ Some n) h e in
        let same = ap (λ (o : Option ℕ). unwrap_or o n) is in
        let range = and_second _ _ h in
        (subst (λ (k : ℕ). least ≤ k) same (leb-true least (digits_value 10 text) (and_first _ _ range)), subst (λ (k : ℕ). k ≤ most) same (leb-true (digits_value 10 text) most (and_second _ _ range)))
    go false h e =
        let is : None ≡ Some n = subst (λ (b : Bool). (if b then Some (digits_value 10 text) else None) ≡ Some n) h e in
        cc

within_or : (default least most : ℕ) (text : Option Text) (n : ℕ) → least ≤ default → default ≤ most → number_or default least most text ≡ Some n → (least ≤ n) × (n ≤ most)
within_or default least most None n low high e = let same = ap (λ (o : Option ℕ). unwrap_or o n) e in (subst (λ (k : ℕ). least ≤ k) same low, subst (λ (k : ℕ). k ≤ most) same high)
within_or default least most (Some text) n low high e = within least most text n e

-- these are numbers of workers and places that there may be
pub record InRange (workers queue : ℕ) : Type 0 where
  pub some : (1 ≤ workers) × (workers ≤ 16)
  pub room : (1 ≤ queue) × (queue ≤ 64)

in_range_of : (words : List Use) (workers queue : ℕ) → number_or 4 1 16 (value_of (codes "workers") words) ≡ Some workers → number_or 8 1 64 (value_of (codes "queue") words) ≡ Some queue → InRange workers queue
in_range_of words workers queue w q = record {
  some = within_or 4 1 16 (value_of (codes "workers") words) workers (omega arith) (omega arith) w;
  room = within_or 8 1 64 (value_of (codes "queue") words) queue (omega arith) (omega arith) q;
}

run_given : (m j s : Option Text) (k l : Bool) (w q : Option ℕ) (workers queue : ℕ) (accounts board : Bool) → order_from m j s k l w q ≡ Some (Run workers queue accounts board) → (w ≡ Some workers) × (q ≡ Some queue)
run_given None None None k l (Some a) (Some b) workers queue accounts board e = (cc, cc)
run_given None None None k l (Some a) None workers queue accounts board e = absurd cc
run_given None None None k l None q workers queue accounts board e = absurd cc
run_given None None (Some s) true l w q workers queue accounts board e = absurd cc
run_given None None (Some s) false true w q workers queue accounts board e = absurd cc
run_given None None (Some s) false false w q workers queue accounts board e = absurd (states_no_run (forms.name_of s) w q e)
  where
    states_no_run : (n : Option Text) (w q : Option ℕ) → statement_from n w q ≡ Some (Run workers queue accounts board) → ⊥
    states_no_run (Some n) (Some a) (Some b) e = cc
    states_no_run (Some n) (Some a) None e = cc
    states_no_run (Some n) None q e = cc
    states_no_run None w q e = cc
run_given None (Some j) s k l w q workers queue accounts board e = absurd cc
run_given (Some m) None s k l w q workers queue accounts board e = absurd cc
run_given (Some m) (Some j) (Some s) k l w q workers queue accounts board e = absurd cc
run_given (Some m) (Some j) None true l w q workers queue accounts board e = absurd cc
run_given (Some m) (Some j) None false true w q workers queue accounts board e = absurd cc
run_given (Some m) (Some j) None false false w q workers queue accounts board e = absurd (makes_no_run (number_in 0 4294967295 m) (number_in 1 2000 j) w q e)
  where
    makes_no_run : (s n w q : Option ℕ) → make_from s n w q ≡ Some (Run workers queue accounts board) → ⊥
    makes_no_run (Some a) (Some b) (Some c) (Some d) e = cc
    makes_no_run (Some a) (Some b) (Some c) None e = cc
    makes_no_run (Some a) (Some b) None q e = cc
    makes_no_run (Some a) None w q e = cc
    makes_no_run None n w q e = cc

make_given : (m j s : Option Text) (k l : Bool) (w q : Option ℕ) (seed jobs workers queue : ℕ) → order_from m j s k l w q ≡ Some (Make seed jobs workers queue) → (w ≡ Some workers) × (q ≡ Some queue)
make_given None None None k l w q seed jobs workers queue e = absurd (run_makes_none k l w q seed jobs workers queue e)
make_given None None (Some s) true l w q seed jobs workers queue e = absurd cc
make_given None None (Some s) false true w q seed jobs workers queue e = absurd cc
make_given None None (Some s) false false w q seed jobs workers queue e = absurd (statement_makes_none (forms.name_of s) w q seed jobs workers queue e)
make_given None (Some j) s k l w q seed jobs workers queue e = absurd cc
make_given (Some m) None s k l w q seed jobs workers queue e = absurd cc
make_given (Some m) (Some j) (Some s) k l w q seed jobs workers queue e = absurd cc
make_given (Some m) (Some j) None true l w q seed jobs workers queue e = absurd cc
make_given (Some m) (Some j) None false true w q seed jobs workers queue e = absurd cc
make_given (Some m) (Some j) None false false w q seed jobs workers queue e = given (number_in 0 4294967295 m) (number_in 1 2000 j) w q e
  where
    given : (s n w q : Option ℕ) → make_from s n w q ≡ Some (Make seed jobs workers queue) → (w ≡ Some workers) × (q ≡ Some queue)
    given (Some a) (Some b) (Some c) (Some d) e = (cc, cc)
    given (Some a) (Some b) (Some c) None e = absurd cc
    given (Some a) (Some b) None q e = absurd cc
    given (Some a) None w q e = absurd cc
    given None n w q e = absurd cc

statement_given : (m j s : Option Text) (k l : Bool) (w q : Option ℕ) (name : Text) (workers queue : ℕ) → order_from m j s k l w q ≡ Some (Statement name workers queue) → (w ≡ Some workers) × (q ≡ Some queue)
statement_given None None None k l w q name workers queue e = absurd (runs_none k l w q e)
  where
    runs_none : (k l : Bool) (w q : Option ℕ) → run_from k l w q ≡ Some (Statement name workers queue) → ⊥
    runs_none k l (Some a) (Some b) e = cc
    runs_none k l (Some a) None e = cc
    runs_none k l None q e = cc
statement_given None None (Some s) true l w q name workers queue e = absurd cc
statement_given None None (Some s) false true w q name workers queue e = absurd cc
statement_given None None (Some s) false false w q name workers queue e = given (forms.name_of s) w q e
  where
    given : (n : Option Text) (w q : Option ℕ) → statement_from n w q ≡ Some (Statement name workers queue) → (w ≡ Some workers) × (q ≡ Some queue)
    given (Some n) (Some a) (Some b) e = (cc, cc)
    given (Some n) (Some a) None e = absurd cc
    given (Some n) None q e = absurd cc
    given None w q e = absurd cc
statement_given None (Some j) s k l w q name workers queue e = absurd cc
statement_given (Some m) None s k l w q name workers queue e = absurd cc
statement_given (Some m) (Some j) (Some s) k l w q name workers queue e = absurd cc
statement_given (Some m) (Some j) None true l w q name workers queue e = absurd cc
statement_given (Some m) (Some j) None false true w q name workers queue e = absurd cc
statement_given (Some m) (Some j) None false false w q name workers queue e = absurd (makes_none (number_in 0 4294967295 m) (number_in 1 2000 j) w q e)
  where
    makes_none : (s n w q : Option ℕ) → make_from s n w q ≡ Some (Statement name workers queue) → ⊥
    makes_none (Some a) (Some b) (Some c) (Some d) e = cc
    makes_none (Some a) (Some b) (Some c) None e = cc
    makes_none (Some a) (Some b) None q e = cc
    makes_none (Some a) None w q e = cc
    makes_none None n w q e = cc

pub said_as : {words : List Text} {one two : Order} → one ≡ two → IsOrder words one → IsOrder words two
said_as {words} e h = subst (λ (o : Order). IsOrder words o) e h

run_in_range : (words : List Text) (workers queue : ℕ) (accounts board : Bool) → IsOrder words (Run workers queue accounts board) → InRange workers queue
run_in_range words workers queue accounts board h =
    let given = run_given (value_of (codes "make") h.uses) (value_of (codes "jobs") h.uses) (value_of (codes "statement") h.uses) (has_flag (codes "accounts") h.uses) (has_flag (codes "board") h.uses) (number_or 4 1 16 (value_of (codes "workers") h.uses)) (number_or 8 1 64 (value_of (codes "queue") h.uses)) workers queue accounts board h.says in
    in_range_of h.uses workers queue given.0 given.1

make_in_range : (words : List Text) (seed jobs workers queue : ℕ) → IsOrder words (Make seed jobs workers queue) → InRange workers queue
make_in_range words seed jobs workers queue h =
    let given = make_given (value_of (codes "make") h.uses) (value_of (codes "jobs") h.uses) (value_of (codes "statement") h.uses) (has_flag (codes "accounts") h.uses) (has_flag (codes "board") h.uses) (number_or 4 1 16 (value_of (codes "workers") h.uses)) (number_or 8 1 64 (value_of (codes "queue") h.uses)) seed jobs workers queue h.says in
    in_range_of h.uses workers queue given.0 given.1

statement_in_range : (words : List Text) (name : Text) (workers queue : ℕ) → IsOrder words (Statement name workers queue) → InRange workers queue
statement_in_range words name workers queue h =
    let given = statement_given (value_of (codes "make") h.uses) (value_of (codes "jobs") h.uses) (value_of (codes "statement") h.uses) (has_flag (codes "accounts") h.uses) (has_flag (codes "board") h.uses) (number_or 4 1 16 (value_of (codes "workers") h.uses)) (number_or 8 1 64 (value_of (codes "queue") h.uses)) name workers queue h.says in
    in_range_of h.uses workers queue given.0 given.1

-- an order that some words say has such numbers, of whichever kind it is
pub said_in_range : (order : Order) (workers queue : ℕ) → IsSaid order
    → ((a : Bool) × (b : Bool) × (order ≡ Run workers queue a b)) ⊎ (((s : ℕ) × (j : ℕ) × (order ≡ Make s j workers queue)) ⊎ ((n : Text) × (order ≡ Statement n workers queue)))
    → InRange workers queue
said_in_range order workers queue said is = elim is [
  | inl run ↦ run_in_range said.words workers queue run.0 run.1 (said_as run.2 said.says)
  | inr (inl make) ↦ make_in_range said.words make.0 make.1 workers queue (said_as make.2 said.says)
  | inr (inr statement) ↦ statement_in_range said.words statement.0 workers queue (said_as statement.1 said.says)
]

-- and makes so few jobs
pub said_few : (order : Order) (seed jobs workers queue : ℕ) → IsSaid order → order ≡ Make seed jobs workers queue → jobs ≤ 2000
said_few order seed jobs workers queue said is = jobs_in_range said.words seed jobs workers queue (said_as is said.says)

-- ---- what an order is

asked_in : Asked → Order → Asked
asked_in other (Run workers queue accounts board) = record { accounts = accounts; board = board }
asked_in other (Make seed jobs workers queue) = other
asked_in other (Statement name workers queue) = other

name_in : Text → Order → Text
name_in n (Run workers queue accounts board) = n
name_in n (Make seed jobs workers queue) = n
name_in n (Statement name workers queue) = name

module _ (order : Order) (workers queue : ℕ) (accounts board : Bool) (is : order ≡ Run workers queue accounts board) where
  -- what a run was asked for is what the order asks for
  pub same_asked : (asked : Asked) → IsRun order asked → record { accounts = accounts; board = board } ≡ asked
  unfolding asked_in
  same_asked asked run = ap (asked_in asked) (sym is ∙ run.is)

  -- an accounts file that a run was asked for is asked for by the order
  pub with_accounts : {P : Type 0} → (accounts ≡ true) × P → WithAccounts order × P
  with_accounts known = (record { asked = record { accounts = accounts; board = board }; run = record { workers = workers; queue = queue; is = is }; accounts = known.0 }, known.1)

  pub or_with : {A P : Type 0} → A ⊎ ((accounts ≡ true) × P) → A ⊎ (WithAccounts order × P)
  or_with known = elim known [
    | inl a ↦ inl a
    | inr b ↦ inr (with_accounts b)
  ]

  pub run_not_made : (seed jobs : ℕ) → IsMake order seed jobs → ⊥
  run_not_made seed jobs make = let e = sym is ∙ make.is in cc

  pub run_not_stated : (name : Text) → IsStatement order name → ⊥
  run_not_stated name statement = let e = sym is ∙ statement.is in cc

module _ (order : Order) (seed jobs workers queue : ℕ) (is : order ≡ Make seed jobs workers queue) where
  -- what was made is what the order says
  pub same_made : (s j : ℕ) → IsMake order s j → (seed ≡ s) × (jobs ≡ j)
  same_made s j make = let e = sym is ∙ make.is in (cc, cc)

  pub made_not_run : (asked : Asked) → IsRun order asked → ⊥
  made_not_run asked run = let e = sym is ∙ run.is in cc

  pub made_not_stated : (name : Text) → IsStatement order name → ⊥
  made_not_stated name statement = let e = sym is ∙ statement.is in cc

module _ (order : Order) (name : Text) (workers queue : ℕ) (is : order ≡ Statement name workers queue) where
  -- the account that was stated is the one that the order names
  pub same_name : (said : Text) → IsStatement order said → name ≡ said
  unfolding name_in
  same_name said statement = ap (name_in name) (sym is ∙ statement.is)

  pub stated_not_run : (asked : Asked) → IsRun order asked → ⊥
  stated_not_run asked run = let e = sym is ∙ run.is in cc

  pub stated_not_made : (seed jobs : ℕ) → IsMake order seed jobs → ⊥
  stated_not_made seed jobs make = let e = sym is ∙ make.is in cc

-- what an order asks for with an accounts file
pub with_asked : (order : Order) (asked : Asked) → IsRun order asked → WithAccounts order → asked.accounts ≡ true
unfolding asked_in
with_asked order asked run its = let e : its.asked ≡ asked = ap (asked_in asked) (sym its.run.is ∙ run.is) in ap (λ (a : Asked). a.accounts) (sym e) ∙ its.accounts

pub or_asked : {A P : Type 0} (order : Order) (asked : Asked) → IsRun order asked → A ⊎ (WithAccounts order × P) → A ⊎ ((asked.accounts ≡ true) × P)
or_asked order asked run known = elim known [
  | inl a ↦ inl a
  | inr b ↦ inr (with_asked order asked run b.0, b.1)
]

-- ---- words say one order

module _ (words : List Text) (order : Order) (says : IsOrder words order) where
  said_so : (other : Order) → IsOrder words other → order ≡ other
  said_so other also = ap (λ (o : Option Order). unwrap_or o order) (sym (order_is_given words order says) ∙ order_is_given words other also)

  pub said : IsSaid order
  said = record { words = words; says = says }

  -- the order that they say is what they say that it is
  pub said_run : (asked : Asked) → SaysRun words asked → IsRun order asked
  said_run asked run = record { workers = run.workers; queue = run.queue; is = said_so (Run run.workers run.queue asked.accounts asked.board) run.order }

  pub said_make : (seed jobs : ℕ) → SaysMake words seed jobs → IsMake order seed jobs
  said_make seed jobs make = record { workers = make.workers; queue = make.queue; is = said_so (Make seed jobs make.workers make.queue) make.order }

  pub said_statement : (name : Text) → SaysStatement words name → IsStatement order name
  said_statement name statement = record { workers = statement.workers; queue = statement.queue; is = said_so (Statement name statement.workers statement.queue) statement.order }

  -- an accounts file that the order asks for is asked for by the words
  pub says_accounts : {P : Type 0} → WithAccounts order × P → SaysAccounts words × P
  says_accounts known =
      let its = known.0 in
      (record { asked = its.asked; run = record { workers = its.run.workers; queue = its.run.queue; order = said_as its.run.is says }; accounts = its.accounts }, known.1)

  pub or_says : {A P : Type 0} → A ⊎ (WithAccounts order × P) → A ⊎ (SaysAccounts words × P)
  or_says known = elim known [
    | inl a ↦ inl a
    | inr b ↦ inr (says_accounts b)
  ]
