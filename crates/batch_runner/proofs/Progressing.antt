-- How a batch is read on, and its sections are written one after the other.
use Rattle.std.proofs.Common.{ℕ, ◌≡◌, ◌⊎◌, ◌≤◌, ◌<◌, ◌+◌, ◌-◌, zero, suc, true, List, [], ◌∷◌, ◌++◌, Option, Some, None, length, map, take, drop, refl, sym, ap, subst, ◌∙◌, append_assoc, append-nil, arith, inl, inr}
use Rattle.std.specs.Io.KnownBytes.{Appends, Consumes, IsAtEnd}
use Rattle.std.proofs.KnownBytes.{Appends-trans, Appends-nil, Consumes-trans}
use Rattle.std.proofs.lemmas.List.{take-append-drop, length-append}
use Rattle.deck_reader.specs.declared.batch.Account.{Account}
use Rattle.deck_reader.specs.declared.batch.Batch.{Batch}
use Rattle.deck_reader.specs.declared.reader.Reader.{Reader}
use Rattle.deck_reader.specs.JobView.{JobView}
use Rattle.deck_reader.specs.Batch.{batch_with, passes, too_large}
use Rattle.deck_reader.proofs.Staying.{accounts_stay, jobs_stay, taken_and_kept}
use Rattle.account_book.specs.BookView.{openings_of}
use Rattle.account_book.specs.declared.decision.Decision.{Decision}
use Rattle.algolw_meaning.specs.Charging.{decision_at, decisions}
use Rattle.algolw_meaning.proofs.Charging.{decisions_more}
use Rattle.batch_listing.specs.declared.audit.Audit.{Audit}
use Rattle.batch_listing.specs.Behind.{IsBehind}
use Rattle.batch_listing.specs.Listing.{closing_lines, listing_with, section, sections}
use Rattle.batch_listing.specs.Tallies.{sections_tally}
use Rattle.batch_listing.specs.Texts.{heading, closing}
use Rattle.batch_listing.specs.Writing.{AppendsPrefix, WroteUpTo}
use Rattle.batch_listing.proofs.Sections.{sections_behind, sections_in_order}
use Rattle.batch_listing.proofs.Written.{all_left, prefix_more, prefix_written}
use Rattle.batch_io.specs.Causes.{Rose}
use Rattle.batch_runner.specs.declared.clerk.Docket.{Docket}
use Rattle.batch_intake.specs.declared.halt.Halt.{Halt}
use Rattle.batch_intake.specs.declared.halt.Halt.TheVariants.{NoMemory, ReadFault, WriteFault, TooLarge}
use Rattle.batch_intake.specs.declared.intake.Intake.{Intake}
use Rattle.batch_runner.specs.Outcome.{Outside, HasCause, HasHalted}
use Rattle.batch_intake.specs.Halts.{IsTooLarge}
use Rattle.batch_runner.specs.Progress.{Progress, openings, HasWritten, Standing, StandsSince, GoesOn, HasAll, IsDecided, IsOpened, begun, progress}
use Rattle.batch_intake.specs.Taking.{Knows, HasRead, StopCause, ReadsOn, StopsReading, StopsFront, jobs_by}

-- ---- the sections of a list of jobs that is cut

-- those behind the cut stand behind those before it
split_behind : (openings : List ℕ) (earlier xs ys : List JobView) → sections_behind openings earlier (xs ++ ys) ≡ sections_behind openings earlier xs ++ sections_behind openings (earlier ++ xs) ys
split_behind openings earlier [] ys = ap (λ (js : List JobView). sections_behind openings js ys) (sym (append-nil earlier))
split_behind openings earlier (x ∷ xs) ys =
    ap (λ (text : List ℕ). section openings earlier x ++ text)
    (split_behind openings (earlier ++ x ∷ []) xs ys
    ∙ ap (λ (js : List JobView). sections_behind openings (earlier ++ x ∷ []) xs ++ sections_behind openings js ys) (append_assoc earlier (x ∷ []) xs))
    ∙ sym (append_assoc (section openings earlier x) (sections_behind openings (earlier ++ x ∷ []) xs) (sections_behind openings (earlier ++ x ∷ xs) ys))

pub sections_split : (openings : List ℕ) (xs ys : List JobView) → sections openings (xs ++ ys) ≡ sections openings xs ++ sections_behind openings xs ys
sections_split openings xs ys =
    sym (sections_in_order openings (xs ++ ys)) ∙ split_behind openings [] xs ys ∙ ap (λ (text : List ℕ). text ++ sections_behind openings xs ys) (sections_in_order openings xs)

pub sections_more : (openings : List ℕ) (xs : List JobView) (x : JobView) → sections openings (xs ++ x ∷ []) ≡ sections openings xs ++ section openings xs x
sections_more openings xs x = sections_split openings xs (x ∷ []) ∙ ap (λ (text : List ℕ). sections openings xs ++ text) (append-nil (section openings xs x))

-- ---- what was read tells of the whole

-- the jobs by now are the first ones of any whole, and the accounts are those of it
record IsFront (given : Option (List Account)) (accounts : List Account) (jobs : List JobView) (whole : List ℕ) : Type 0 where
  rest : List JobView
  jobs_are : (batch_with given whole).jobs ≡ jobs ++ rest
  accounts_are : (batch_with given whole).accounts ≡ accounts

front_of : (given : Option (List Account)) (reader : Option Reader) (left : Option (List ℕ)) (accounts : List Account) (jobs : List JobView) (stray : ℕ) (input more whole : List ℕ) → whole ≡ input ++ more → ((reader ≡ None → ⊥) ⊎ (more ≡ []))
    → Knows given reader left accounts jobs stray input → IsFront given accounts jobs whole
front_of given (Some reader) left accounts jobs stray input more whole is going knows =
    let longer = jobs_stay given input more in
    let kept : List JobView = reader.reading.jobs in
    record {
      rest = kept ++ longer.0;
      jobs_are =
          ap (λ (bytes : List ℕ). (batch_with given bytes).jobs) is
          ∙ longer.1
          ∙ ap (λ (js : List JobView). js ++ longer.0) (sym (taken_and_kept given reader jobs input knows.0))
          ∙ append_assoc jobs kept longer.0;
      accounts_are = ap (λ (bytes : List ℕ). (batch_with given bytes).accounts) is ∙ accounts_stay given input more accounts knows.1;
    }
front_of given None left accounts jobs stray input more whole is (inl going) knows = absurd (going refl)
front_of given None left accounts jobs stray input more whole is (inr none) knows =
    let same : whole ≡ input = is ∙ ap (λ (bytes : List ℕ). input ++ bytes) none ∙ append-nil input in
    record {
      rest = [];
      jobs_are = ap (λ (bytes : List ℕ). (batch_with given bytes).jobs) same ∙ ap (λ (b : Batch). b.jobs) knows.2 ∙ sym (append-nil jobs);
      accounts_are = ap (λ (bytes : List ℕ). (batch_with given bytes).accounts) same ∙ ap (λ (b : Batch). b.accounts) knows.2;
    }

-- the closing lines of a batch
abbrev pub closing_of : Batch → List ℕ
closing_of b = closing (closing_lines (openings_of b.accounts) b.jobs b.accounts) b.stray

-- behind the sections of the first jobs stand those of the others, and the closing lines
left_behind : (given : Option (List Account)) (accounts : List Account) (jobs done others : List JobView) (whole : List ℕ) (front : IsFront given accounts jobs whole) → jobs ≡ done ++ others
    → (heading ++ sections (openings_of accounts) done) ++ (sections_behind (openings_of accounts) done (others ++ front.rest) ++ closing_of (batch_with given whole)) ≡ listing_with given whole
left_behind given accounts jobs done others whole front is =
    let o = openings_of accounts in
    let behind = sections_behind o done (others ++ front.rest) in
    let b = batch_with given whole in
    let all : b.jobs ≡ done ++ (others ++ front.rest) = front.jobs_are ∙ ap (λ (js : List JobView). js ++ front.rest) is ∙ append_assoc done others front.rest in
    sym (append_assoc (heading ++ sections o done) behind (closing_of b))
    ∙ ap (λ (text : List ℕ). text ++ closing_of b)
    (append_assoc heading (sections o done) behind
    ∙ ap (λ (text : List ℕ). heading ++ text)
    (sym (sections_split o done (others ++ front.rest)) ∙ ap (sections o) (sym all) ∙ ap (λ (xs : List Account). sections (openings_of xs) b.jobs) (sym front.accounts_are)))

-- what is left to write of the listing of what was read, and of more
still_left : (given : Option (List Account)) (start : Outside) (p : Progress) (h : HasWritten given start p) (done others : List JobView) (whole : List ℕ) (front : IsFront given p.audit.book.accounts (jobs_by p.intake) whole)
    → take p.written (jobs_by p.intake) ≡ done → drop p.written (jobs_by p.intake) ≡ others
    → WroteUpTo start.written p.outside.written (listing_with given whole) (sections_behind (openings p) done (others ++ front.rest) ++ closing_of (batch_with given whole))
still_left given start p h done others whole front taken dropped = record {
  done = heading ++ sections (openings p) done;
  wrote = subst (λ (js : List JobView). Appends start.written p.outside.written (heading ++ sections (openings p) js)) taken h.wrote;
  whole = left_behind given p.audit.book.accounts (jobs_by p.intake) done others whole front
      (sym (take-append-drop p.written (jobs_by p.intake)) ∙ ap (λ (js : List JobView). js ++ drop p.written (jobs_by p.intake)) taken ∙ ap (λ (js : List JobView). done ++ js) dropped);
}

-- the front of what was read, and of more
abbrev more_read : (given : Option (List Account)) (p : Progress) (input more : List ℕ) → Type 0
more_read given p input more = IsFront given p.audit.book.accounts (jobs_by p.intake) (input ++ more)

front_as_read : (given : Option (List Account)) (start : Outside) (p : Progress) (h : HasWritten given start p) → IsFront given p.audit.book.accounts (jobs_by p.intake) h.input
front_as_read given start p h = front_of given p.intake.reader p.outside.left p.audit.book.accounts (jobs_by p.intake) p.intake.stray h.input [] h.input (sym (append-nil h.input)) (inr refl) h.known

-- what was written is a prefix of the listing of what was read, and of more
prefix_so : (given : Option (List Account)) (start : Outside) (p : Progress) (h : HasWritten given start p) (whole : List ℕ) → IsFront given p.audit.book.accounts (jobs_by p.intake) whole → AppendsPrefix start.written p.outside.written (listing_with given whole)
prefix_so given start p h whole front =
    prefix_written start.written p.outside.written (listing_with given whole) _ (still_left given start p h (take p.written (jobs_by p.intake)) (drop p.written (jobs_by p.intake)) whole front refl refl)

-- ---- where it halts

-- memory may be wanting at any time
pub stops_anywhere : (p q : Progress) → p.halt ≡ None → q.halt ≡ Some NoMemory → q.outside ≡ p.outside → GoesOn p q
stops_anywhere p q free halted same = record { stands = stands }
  where
    halted_so : (given : Option (List Account)) (start : Outside) → HasWritten given start p → HasHalted given start p.outside NoMemory
    halted_so given start h = record { cut = record { input = h.input; read = h.read; wrote = prefix_so given start p h h.input (front_as_read given start p h) }; cause = tt }

    stands : (given : Option (List Account)) (start : Outside) → StandsSince given start p → StandsSince given start q
    stands given start h = subst (Standing given start q) (sym halted) (subst (λ (o : Outside). HasHalted given start o NoMemory) (sym same) (halted_so given start (subst (Standing given start p) free h)))

-- reading may stop
pub stops_reading : (p q : Progress) (halt : Halt) → p.halt ≡ None → q.halt ≡ Some halt → q.outside.written ≡ p.outside.written
    → StopsReading p.intake p.outside.left q.outside.left p.outside.read_faults q.outside.read_faults halt → GoesOn p q
stops_reading p q halt free halted same stops = record { stands = stands }
  where
    cause_since : (given : Option (List Account)) (halt : Halt) (start : Outside) (h : HasWritten given start p)
        → StopCause halt p.outside.read_faults q.outside.read_faults ((given : Option (List Account)) (accounts : List Account) (input : List ℕ) → HasRead given p.intake p.outside.left accounts input → (passes (input ++ stops.piece) ≡ true) ⊎ (IsAtEnd q.outside.left × (too_large (input ++ stops.piece) ≡ true)))
        → HasCause halt start q.outside
    cause_since given NoMemory start h cause = tt
    cause_since given ReadFault start h cause = subst (λ (n : ℕ). Rose n q.outside.read_faults) h.read_faults cause
    cause_since given WriteFault start h cause = absurd cause
    cause_since given TooLarge start h cause = record {
      input = h.input ++ stops.piece;
      read = Consumes-trans start.left p.outside.left q.outside.left h.input stops.piece h.read stops.read;
      large = cause given p.audit.book.accounts h.input h.known;
    }

    halted_so : (given : Option (List Account)) (start : Outside) → HasWritten given start p → HasHalted given start q.outside halt
    halted_so given start h =
        let whole = h.input ++ stops.piece in
        let front = front_of given p.intake.reader p.outside.left p.audit.book.accounts (jobs_by p.intake) p.intake.stray h.input stops.piece whole refl (inl stops.going) h.known in
        record {
          cut = record {
            input = whole;
            read = Consumes-trans start.left p.outside.left q.outside.left h.input stops.piece h.read stops.read;
            wrote = subst (λ (w : Option (List ℕ)). AppendsPrefix start.written w (listing_with given whole)) (sym same) (prefix_so given start p h whole front);
          };
          cause = cause_since given halt start h stops.cause;
        }

    stands : (given : Option (List Account)) (start : Outside) → StandsSince given start p → StandsSince given start q
    stands given start h = subst (Standing given start q) (sym halted) (halted_so given start (subst (Standing given start p) free h))

-- ---- where it is read on

take_first : (n : ℕ) (xs ys : List JobView) → n ≤ length xs → take n (xs ++ ys) ≡ take n xs
take_first zero xs ys h = refl
take_first (suc n) [] ys h = absurd (omega arith)
take_first (suc n) (x ∷ xs) ys h = ap (λ (js : List JobView). x ∷ js) (take_first n xs ys (omega arith))

pub reads_on : (p q : Progress) → p.halt ≡ None → q.halt ≡ None → q.audit ≡ p.audit → q.written ≡ p.written → q.became ≡ p.became → q.outside.written ≡ p.outside.written → q.outside.write_faults ≡ p.outside.write_faults
    → ReadsOn p.intake q.intake p.outside.left q.outside.left p.outside.read_faults q.outside.read_faults → GoesOn p q
reads_on p q free still audit count same written faults reads = record { stands = stands }
  where
    same_jobs : p.written ≤ length (jobs_by p.intake) → take q.written (jobs_by q.intake) ≡ take p.written (jobs_by p.intake)
    same_jobs few = ap (λ (n : ℕ). take n (jobs_by q.intake)) count ∙ ap (take p.written) reads.more.1 ∙ take_first p.written (jobs_by p.intake) reads.more.0 few

    accounts : q.audit.book.accounts ≡ p.audit.book.accounts
    accounts = ap (λ (a : Audit). a.book.accounts) audit

    written_so : (given : Option (List Account)) (start : Outside) → HasWritten given start p → HasWritten given start q
    written_so given start h =
        let jobs = same_jobs h.few in
        let Behind : Audit → Type 0 = λ a. IsBehind a.book (take p.written (jobs_by p.intake)) in
        let Tallied : Audit → Type 0 = λ a. a.tally ≡ sections_tally (openings_of a.book.accounts) (take p.written (jobs_by p.intake)) in
        let Decided : Audit → Type 0 = λ a. p.became ≡ decisions (openings_of a.book.accounts) (take p.written (jobs_by p.intake)) in
        let Wrote : Audit → Type 0 = λ a. Appends start.written p.outside.written (heading ++ sections (openings_of a.book.accounts) (take p.written (jobs_by p.intake))) in
        record {
          input = h.input ++ reads.piece;
          read = Consumes-trans start.left p.outside.left q.outside.left h.input reads.piece h.read reads.read;
          known = subst (λ (xs : List Account). HasRead given q.intake q.outside.left xs (h.input ++ reads.piece)) (sym accounts) (reads.known given p.audit.book.accounts h.input h.known);
          few = omega (arith, h.few, count, ap length reads.more.1, length-append (jobs_by p.intake) reads.more.0);
          behind = subst (IsBehind q.audit.book) (sym jobs) (subst Behind (sym audit) h.behind);
          tally = subst (λ (js : List JobView). q.audit.tally ≡ sections_tally (openings q) js) (sym jobs) (subst Tallied (sym audit) h.tally);
          decided = subst (λ (js : List JobView). q.became ≡ decisions (openings q) js) (sym jobs) (same ∙ subst Decided (sym audit) h.decided);
          wrote = subst (λ (js : List JobView). Appends start.written q.outside.written (heading ++ sections (openings q) js)) (sym jobs)
              (subst (λ (w : Option (List ℕ)). Appends start.written w (heading ++ sections (openings q) (take p.written (jobs_by p.intake)))) (sym written) (subst Wrote (sym audit) h.wrote));
          read_faults = reads.kept ∙ h.read_faults;
          write_faults = faults ∙ h.write_faults;
        }

    stands : (given : Option (List Account)) (start : Outside) → StandsSince given start p → StandsSince given start q
    stands given start h = subst (Standing given start q) (sym still) (written_so given start (subst (Standing given start p) free h))

-- ---- the next section

take_next : (jobs : List JobView) (n : ℕ) (job : JobView) (rest : List JobView) → drop n jobs ≡ job ∷ rest → take (suc n) jobs ≡ take n jobs ++ job ∷ []
take_next [] zero job rest is = cc
take_next [] (suc n) job rest is = cc
take_next (x ∷ xs) zero job rest is = ap (λ (js : List JobView). take 1 js) is
take_next (x ∷ xs) (suc n) job rest is = ap (λ (js : List JobView). x ∷ js) (take_next xs n job rest is)

one_more : (n : ℕ) → n + 1 ≡ suc n
one_more n = omega arith

-- what is left of the jobs is so of anything that the jobs are read off
pub left_of : {A : Type 0} (f : A → JobView) (items : List A) (n : ℕ) (x : A) (rest : List A) → drop n items ≡ x ∷ rest → drop n (map f items) ≡ f x ∷ map f rest
left_of f [] zero x rest is = cc
left_of f [] (suc n) x rest is = cc
left_of f (y ∷ ys) zero x rest is = ap (map f) is
left_of f (y ∷ ys) (suc n) x rest is = left_of f ys n x rest is

is_within : (jobs : List JobView) (n : ℕ) (job : JobView) (rest : List JobView) → drop n jobs ≡ job ∷ rest → n + 1 ≤ length jobs
is_within [] zero job rest is = cc
is_within [] (suc n) job rest is = cc
is_within (x ∷ xs) zero job rest is = omega arith
is_within (x ∷ xs) (suc n) job rest is = let h : n + 1 ≤ length xs = is_within xs n job rest is in omega arith

-- what the next section is, and what it leaves
pub record Next (p q : Progress) (job : JobView) (rest : List JobView) (piece : List ℕ) : Type 0 where
  pub free : p.halt ≡ None
  pub left : drop p.written (jobs_by p.intake) ≡ job ∷ rest
  pub intake : q.intake ≡ p.intake
  pub accounts : q.audit.book.accounts ≡ p.audit.book.accounts
  pub source : q.outside.left ≡ p.outside.left
  pub read_faults : q.outside.read_faults ≡ p.outside.read_faults
  pub text : (earlier : List JobView) → IsBehind p.audit.book earlier → piece ≡ section (openings p) earlier job

pub record Made (p q : Progress) (job : JobView) (piece : List ℕ) : Type 0 where
  pub free : q.halt ≡ None
  pub count : q.written ≡ p.written + 1
  pub behind : (earlier : List JobView) → IsBehind p.audit.book earlier → IsBehind q.audit.book (earlier ++ job ∷ [])
  pub tally : (earlier : List JobView) → IsBehind p.audit.book earlier → p.audit.tally ≡ sections_tally (openings p) earlier → q.audit.tally ≡ sections_tally (openings p) (earlier ++ job ∷ [])
  pub decided : (earlier : List JobView) → IsBehind p.audit.book earlier → q.became ≡ p.became ++ decision_at (openings p) earlier job ∷ []
  pub wrote : Appends p.outside.written q.outside.written piece
  pub faults : q.outside.write_faults ≡ p.outside.write_faults

pub writes_next : (p q : Progress) (job : JobView) (rest : List JobView) (piece : List ℕ) → Next p q job rest piece → Made p q job piece → GoesOn p q
writes_next p q job rest piece next made = record { stands = stands }
  where
    done : List JobView
    done = take p.written (jobs_by p.intake)

    same : openings q ≡ openings p
    same = ap openings_of next.accounts

    same_jobs : jobs_by q.intake ≡ jobs_by p.intake
    same_jobs = ap jobs_by next.intake

    now_done : take q.written (jobs_by q.intake) ≡ done ++ job ∷ []
    now_done =
        ap (λ (n : ℕ). take n (jobs_by q.intake)) (made.count ∙ one_more p.written)
        ∙ ap (λ (js : List JobView). take (suc p.written) js) same_jobs
        ∙ take_next (jobs_by p.intake) p.written job rest next.left

    known_so : (given : Option (List Account)) (input : List ℕ) → HasRead given p.intake p.outside.left p.audit.book.accounts input → HasRead given q.intake q.outside.left q.audit.book.accounts input
    known_so given input known =
        subst (λ (i : Intake). HasRead given i q.outside.left q.audit.book.accounts input) (sym next.intake)
        (subst (λ (l : Option (List ℕ)). HasRead given p.intake l q.audit.book.accounts input) (sym next.source) (subst (λ (xs : List Account). HasRead given p.intake p.outside.left xs input) (sym next.accounts) known))

    written_so : (given : Option (List Account)) (start : Outside) → HasWritten given start p → HasWritten given start q
    written_so given start h =
        let text : heading ++ sections (openings q) (take q.written (jobs_by q.intake)) ≡ (heading ++ sections (openings p) done) ++ piece =
        ap (λ (o : List ℕ). heading ++ sections o (take q.written (jobs_by q.intake))) same
        ∙ ap (λ (js : List JobView). heading ++ sections (openings p) js) now_done
        ∙ ap (λ (t : List ℕ). heading ++ t) (sections_more (openings p) done job ∙ ap (λ (t : List ℕ). sections (openings p) done ++ t) (sym (next.text done h.behind)))
        ∙ sym (append_assoc heading (sections (openings p) done) piece) in
        let within : p.written + 1 ≤ length (jobs_by p.intake) = is_within (jobs_by p.intake) p.written job rest next.left in
        let long : length (jobs_by q.intake) ≡ length (jobs_by p.intake) = ap length same_jobs in
        let counted = made.count in
        record {
          input = h.input;
          read = subst (λ (l : Option (List ℕ)). Consumes start.left l h.input) (sym next.source) h.read;
          known = known_so given h.input h.known;
          few = omega arith;
          behind = subst (IsBehind q.audit.book) (sym now_done) (made.behind done h.behind);
          tally = made.tally done h.behind h.tally ∙ ap (λ (o : List ℕ). sections_tally o (done ++ job ∷ [])) (sym same) ∙ ap (sections_tally (openings q)) (sym now_done);
          decided = made.decided done h.behind
              ∙ ap (λ (ds : List Decision). ds ++ decision_at (openings p) done job ∷ []) h.decided
              ∙ sym (decisions_more (openings p) done job)
              ∙ ap (λ (o : List ℕ). decisions o (done ++ job ∷ [])) (sym same)
              ∙ ap (decisions (openings q)) (sym now_done);
          wrote = subst (Appends start.written q.outside.written) (sym text) (Appends-trans start.written p.outside.written q.outside.written (heading ++ sections (openings p) done) piece h.wrote made.wrote);
          read_faults = next.read_faults ∙ h.read_faults;
          write_faults = made.faults ∙ h.write_faults;
        }

    stands : (given : Option (List Account)) (start : Outside) → StandsSince given start p → StandsSince given start q
    stands given start h = subst (Standing given start q) (sym made.free) (written_so given start (subst (Standing given start p) next.free h))

-- what holds where the next section isn't written whole
pub record Halts (p q : Progress) (piece : List ℕ) : Type 0 where
  pub halted : q.halt ≡ Some WriteFault
  pub wrote : AppendsPrefix p.outside.written q.outside.written piece
  pub cause : Rose p.outside.write_faults q.outside.write_faults

pub halts_next : (p q : Progress) (job : JobView) (rest : List JobView) (piece : List ℕ) → Next p q job rest piece → Halts p q piece → GoesOn p q
halts_next p q job rest piece next halts = record { stands = stands }
  where
    done : List JobView
    done = take p.written (jobs_by p.intake)

    halted_so : (given : Option (List Account)) (start : Outside) → HasWritten given start p → HasHalted given start q.outside WriteFault
    halted_so given start h =
        let front = front_as_read given start p h in
        let behind = sections_behind (openings p) (done ++ job ∷ []) (rest ++ front.rest) in
        let left = still_left given start p h done (job ∷ rest) h.input front refl next.left in
        let parts : (section (openings p) done job ++ behind) ++ closing_of (batch_with given h.input) ≡ piece ++ (behind ++ closing_of (batch_with given h.input)) =
        append_assoc (section (openings p) done job) behind (closing_of (batch_with given h.input)) ∙ ap (λ (t : List ℕ). t ++ (behind ++ closing_of (batch_with given h.input))) (sym (next.text done h.behind)) in
        record {
          cut = record {
            input = h.input;
            read = subst (λ (l : Option (List ℕ)). Consumes start.left l h.input) (sym next.source) h.read;
            wrote = prefix_more _ _ _ _ _ _ (subst (λ (rest : List ℕ). WroteUpTo start.written p.outside.written (listing_with given h.input) rest) parts left) halts.wrote;
          };
          cause = subst (λ (n : ℕ). Rose n q.outside.write_faults) h.write_faults halts.cause;
        }

    stands : (given : Option (List Account)) (start : Outside) → StandsSince given start p → StandsSince given start q
    stands given start h = subst (Standing given start q) (sym halts.halted) (halted_so given start (subst (Standing given start p) next.free h))

-- ---- how many turns are left

-- none once it is halted, and otherwise one for each section that isn't written, and one more
abbrev pub still_to_write : Option Halt → ℕ → ℕ → ℕ
still_to_write None jobs written = suc (jobs - written)
still_to_write (Some halt) jobs written = 0

pub less_to_write : (old new : Option Halt) (jobs jobs' written written' : ℕ) → old ≡ None → written < jobs → jobs' ≡ jobs → (new ≡ None → written' ≡ written + 1)
    → still_to_write new jobs' written' < still_to_write old jobs written
less_to_write (Some halt) new jobs jobs' written written' free more same one = cc
less_to_write None (Some halt) jobs jobs' written written' free more same one = omega arith
less_to_write None None jobs jobs' written written' free more same one = let next = one refl in omega arith

-- ---- behind the last section

take_whole : (n : ℕ) (jobs : List JobView) → length jobs ≤ n → take n jobs ≡ jobs
take_whole zero [] h = refl
take_whole zero (x ∷ xs) h = absurd (omega arith)
take_whole (suc n) [] h = refl
take_whole (suc n) (x ∷ xs) h = ap (λ (js : List JobView). x ∷ js) (take_whole n xs (omega arith))

pub decided_so : (given : Option (List Account)) (start : Outside) (p : Progress) → p.halt ≡ None → p.intake.reader ≡ None → length (jobs_by p.intake) ≤ p.written → StandsSince given start p
    → IsDecided given start p.outside p.audit p.intake.stray (jobs_by p.intake) p.became
decided_so given start p free ended all stands = record {
  served = record {
    input = h.input;
    read = h.read;
    to_end = known.0;
    fits = known.1;
    accounts = accounts;
    stray_is = sym (ap (λ (b : Batch). b.stray) known.2);
    behind = subst (IsBehind p.audit.book) jobs h.behind;
    tally = h.tally ∙ ap (sections_tally (openings p)) jobs ∙ ap (λ (xs : List Account). sections_tally (openings_of xs) (batch_with given h.input).jobs) accounts;
    wrote = subst (λ (xs : List Account). Appends start.written p.outside.written (heading ++ sections (openings_of xs) (batch_with given h.input).jobs)) accounts
        (subst (λ (js : List JobView). Appends start.written p.outside.written (heading ++ sections (openings p) js)) jobs h.wrote);
    read_faults = h.read_faults;
    write_faults = h.write_faults;
  };
  jobs_are = sym (ap (λ (b : Batch). b.jobs) known.2);
  decided = h.decided ∙ ap (decisions (openings p)) jobs ∙ ap (λ (xs : List Account). decisions (openings_of xs) (batch_with given h.input).jobs) accounts;
}
  where
    h : HasWritten given start p
    h = subst (Standing given start p) free stands

    known : Knows given None p.outside.left p.audit.book.accounts (jobs_by p.intake) p.intake.stray h.input
    known = subst (λ (r : Option Reader). Knows given r p.outside.left p.audit.book.accounts (jobs_by p.intake) p.intake.stray h.input) ended h.known

    accounts : p.audit.book.accounts ≡ (batch_with given h.input).accounts
    accounts = sym (ap (λ (b : Batch). b.accounts) known.2)

    jobs : take p.written (jobs_by p.intake) ≡ (batch_with given h.input).jobs
    jobs = take_whole p.written (jobs_by p.intake) all ∙ sym (ap (λ (b : Batch). b.jobs) known.2)

-- what all is so of is so of what it is
pub carried : (given : Option (List Account)) (start now now' : Outside) (docket docket' : Docket) → now ≡ now' → docket ≡ docket' → HasAll given start now docket → HasAll given start now' docket'
carried given start now now' docket docket' outside same all =
    subst (λ (d : Docket). HasAll given start now' d) same (subst (λ (o : Outside). HasAll given start o docket) outside all)

-- before the first section, what a docket keeps is what it was given
pub began : (given : Option (List Account)) (start now : Outside) (intake intake' : Intake) (audit audit' : Audit) → intake' ≡ intake → audit' ≡ audit → HasWritten given start (begun now intake audit) → HasWritten given start (begun now intake' audit')
began given start now intake intake' audit audit' same_intake same_audit h =
    subst (λ (a : Audit). HasWritten given start (begun now intake' a)) (sym same_audit) (subst (λ (i : Intake). HasWritten given start (begun now i audit)) (sym same_intake) h)

pub stopped_so : (given : Option (List Account)) (start : Outside) (p : Progress) (halt : Halt) → p.halt ≡ Some halt → StandsSince given start p → HasHalted given start p.outside halt
stopped_so given start p halt halted stands = subst (Standing given start p) halted stands

-- a docket before the first section
pub begun_so : (given : Option (List Account)) (start now : Outside) (docket : Docket) → docket.written ≡ 0 → docket.decisions.items ≡ [] → docket.halt ≡ None → HasWritten given start (begun now docket.intake docket.audit)
    → StandsSince given start (progress docket now)
begun_so given start now docket none undecided free h =
    let same : progress docket now ≡ begun now docket.intake docket.audit =
    ap (λ (n : ℕ). record (progress docket now) { written = n }) none
    ∙ ap (λ (ds : List Decision). record (progress docket now) { written = 0; became = ds }) undecided
    ∙ ap (λ (halt : Option Halt). record (begun now docket.intake docket.audit) { halt = halt }) free in
    subst (StandsSince given start) (sym same) h

-- without a section, nothing is written
pub none_written : (written : Option (List ℕ)) (text : List ℕ) → AppendsPrefix written written text
none_written written text = (0, Appends-nil written)

-- ---- before the first section

pub front_halted : (given : Option (List Account)) (start now : Outside) (halt : Halt) → now.written ≡ start.written → StopsFront start.left now.left start.read_faults now.read_faults halt → HasHalted given start now halt
front_halted given start now halt same stops = record {
  cut = record { input = stops.input; read = stops.read; wrote = subst (λ (w : Option (List ℕ)). AppendsPrefix start.written w (listing_with given stops.input)) (sym same) (none_written start.written (listing_with given stops.input)) };
  cause = cause_so halt stops.cause;
}
  where
    cause_so : (halt : Halt) → StopCause halt start.read_faults now.read_faults (IsTooLarge start.left now.left) → HasCause halt start now
    cause_so NoMemory cause = tt
    cause_so ReadFault cause = cause
    cause_so WriteFault cause = absurd cause
    cause_so TooLarge cause = cause

-- where the heading isn't written whole
pub heading_halted : (given : Option (List Account)) (start now : Outside) (intake : Intake) (audit : Audit) → IsOpened given start.left now.left intake audit → AppendsPrefix start.written now.written heading → Rose start.write_faults now.write_faults
    → HasHalted given start now WriteFault
heading_halted given start now intake audit opened wrote rose =
    let b = batch_with given opened.input in
    let text = sections (openings_of b.accounts) b.jobs in
    let parts : listing_with given opened.input ≡ heading ++ (text ++ closing_of b) = append_assoc heading text (closing_of b) in
    record {
      cut = record {
        input = opened.input;
        read = opened.read;
        wrote = prefix_more _ _ _ _ _ _ (subst (λ (rest : List ℕ). WroteUpTo start.written start.written (listing_with given opened.input) rest) parts (all_left start.written (listing_with given opened.input))) wrote;
      };
      cause = rose;
    }

-- where it is
pub opened_so : (given : Option (List Account)) (start now : Outside) (intake : Intake) (audit : Audit) → IsOpened given start.left now.left intake audit → Appends start.written now.written heading → now.read_faults ≡ start.read_faults → now.write_faults ≡ start.write_faults
    → HasWritten given start (begun now intake audit)
opened_so given start now intake audit opened wrote read_faults write_faults = record {
  input = opened.input;
  read = opened.read;
  known = opened.known;
  few = omega arith;
  behind = opened.behind;
  tally = opened.tally;
  decided = refl;
  wrote = subst (λ (text : List ℕ). Appends start.written now.written text) (sym (append-nil heading)) wrote;
  read_faults = read_faults;
  write_faults = write_faults;
}
