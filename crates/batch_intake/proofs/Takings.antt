-- How a batch is read, piece by piece.
use Rattle.std.proofs.Common.{ℕ, ◌≡◌, Bool, true, false, cond, ◌||◌, ◌⊎◌, List, [], ◌∷◌, ◌++◌, Option, Some, None, Result, Ok, Err, OnOk, IfOk, IfErr, IsErrAnd, IsErrOf, unwrap_or, map, refl, sym, ap, subst, ◌∙◌, append_assoc, append-nil, inl, inr}
use Rattle.std.specs.Io.KnownBytes.{Consumes, IsAtEnd}
use Rattle.std.specs.List.{list_any}
use Rattle.std.proofs.KnownBytes.{Consumes-trans}
use Rattle.std.proofs.lemmas.List.{map-append}
use Rattle.batch_io.specs.Causes.{Rose}
use Rattle.deck_reader.specs.declared.batch.Account.{Account}
use Rattle.deck_reader.specs.declared.batch.Batch.{Batch}
use Rattle.deck_reader.specs.declared.reader.FeedError.{FeedError}
use Rattle.deck_reader.specs.declared.reader.FeedError.TheVariants as feeds
use Rattle.deck_reader.specs.declared.reader.Reader.{Reader}
use Rattle.deck_reader.specs.Batch.{accounts_from, batch_with, before_head, known_accounts, passes, too_large}
use Rattle.deck_reader.specs.Cards.{cleaned, ended}
use Rattle.deck_reader.specs.Fed.{StandsFor}
use Rattle.deck_reader.specs.Forms.{is_head}
use Rattle.deck_reader.specs.JobView.{JobView}
use Rattle.deck_reader.proofs.Cuts.{ended-prefix}
use Rattle.deck_reader.proofs.Firsts.{before-found, list_any-push}
use Rattle.deck_reader.proofs.Staying.{accounts_stay}
use Rattle.batch_intake.specs.declared.halt.Halt.{Halt}
use Rattle.batch_intake.specs.declared.halt.Halt.TheVariants as halts
use Rattle.batch_intake.specs.declared.intake.Intake.{Intake}
use Rattle.batch_intake.specs.declared.reading.Front.{Front}
use Rattle.batch_intake.specs.Halts.{IsTooLarge, halt_of}
use Rattle.batch_intake.specs.Taking.{Knows, HasRead, StopCause, HasFed, StopsFeeding, ReadsOn, StopsReading, Ends, Opens, IsWhole, StopsFront, jobs_by}

-- ---- the accounts stay known

known_by : (b : Bool) (known accounts : List Account) → cond b (Some known) None ≡ Some accounts → (b ≡ true) × (known ≡ accounts)
known_by true known accounts h = (refl, ap (λ (o : Option (List Account)). unwrap_or o known) h)
known_by false known accounts h = cc

front_more : (cards more : List (List ℕ)) → list_any is_head cards ≡ true → (list_any is_head (cards ++ more) ≡ true) × (before_head (cards ++ more) ≡ before_head cards)
front_more cards [] is = (ap (list_any is_head) (append-nil cards) ∙ is, ap before_head (append-nil cards))
front_more cards (card ∷ more) is =
    let one : list_any is_head (cards ++ card ∷ []) ≡ true = list_any-push is_head cards card ∙ ap (λ (b : Bool). b || is_head card) is in
    let others = front_more (cards ++ card ∷ []) more one in
    let same = sym (append_assoc cards (card ∷ []) more) in
    (ap (list_any is_head) same ∙ others.0, ap before_head same ∙ others.1 ∙ before-found is_head cards card is)

pub known_more : (given : Option (List Account)) (input more : List ℕ) (accounts : List Account) → known_accounts given input ≡ Some accounts → known_accounts given (input ++ more) ≡ Some accounts
known_more given input more accounts is =
    let cards = map cleaned (ended input) in
    let prefix = ended-prefix input more in
    let all : map cleaned (ended (input ++ more)) ≡ cards ++ map cleaned prefix.0 = ap (map cleaned) prefix.1 ∙ map-append cleaned (ended input) prefix.0 in
    let at = known_by (list_any is_head cards) (accounts_from given (before_head cards)) accounts is in
    let front = front_more cards (map cleaned prefix.0) at.0 in
    ap (λ (cs : List (List ℕ)). cond (list_any is_head cs) (Some (accounts_from given (before_head cs))) None) all
    ∙ ap (λ (b : Bool). cond b (Some (accounts_from given (before_head (cards ++ map cleaned prefix.0)))) None) front.0
    ∙ ap (λ (cs : List (List ℕ)). Some (accounts_from given cs)) front.1
    ∙ ap (λ (xs : List Account). Some xs) at.1

-- ---- the jobs

-- a job more, so that threads can share it
pub shared_push : {A : Type 0} (f : A → JobView) (old new : List A) (x : A) (job : JobView) → new ≡ old ++ x ∷ [] → f x ≡ job → map f new ≡ map f old ++ job ∷ []
shared_push f old new x job is same = ap (map f) is ∙ map-append f old (x ∷ []) ∙ ap (λ (j : JobView). map f old ++ j ∷ []) same

-- ---- a whole batch

pub whole_so : (given : Option (List Account)) (intake : Intake) (accounts : List Account) (b : Batch) (input : List ℕ) → b ≡ batch_with given input → too_large input ≡ false → accounts ≡ b.accounts → intake.reader ≡ None → intake.stray ≡ b.stray → jobs_by intake ≡ b.jobs
    → (left : Option (List ℕ)) → IsAtEnd left → HasRead given intake left accounts input
whole_so given intake accounts b input is fits accounts_are closed stray jobs left end =
    let same : batch_with given input ≡ record { accounts = accounts; jobs = jobs_by intake; stray = intake.stray } =
    sym is
    ∙ ap (λ (xs : List Account). record b { accounts = xs }) (sym accounts_are)
    ∙ ap (λ (js : List JobView). record b { accounts = accounts; jobs = js }) (sym jobs)
    ∙ ap (λ (n : ℕ). record b { accounts = accounts; jobs = jobs_by intake; stray = n }) (sym stray) in
    subst (λ (r : Option Reader). Knows given r left accounts (jobs_by intake) intake.stray input) (sym closed) (end, fits, same)

end_so : (given : Option (List Account)) (reader : Reader) (jobs : List JobView) (left : Option (List ℕ)) (accounts : List Account) (input : List ℕ) (b : Batch) → IsAtEnd left → StandsFor given reader jobs input → known_accounts given input ≡ Some accounts
    → record b { jobs = jobs ++ b.jobs } ≡ batch_with given input → too_large input ≡ false → Knows given None left accounts (jobs ++ b.jobs) b.stray input
end_so given reader jobs left accounts input b end stands known is fits =
    let accounts_are : b.accounts ≡ accounts =
    ap (λ (whole : Batch). whole.accounts) is ∙ ap (λ (bytes : List ℕ). (batch_with given bytes).accounts) (sym (append-nil input)) ∙ accounts_stay given input [] accounts known in
    (end, fits, sym is ∙ ap (λ (xs : List Account). record b { accounts = xs; jobs = jobs ++ b.jobs }) accounts_are)

pub ends_so : (old new : Intake) (reader : Reader) (b : Batch) → old.reader ≡ Some reader → new.reader ≡ None → new.stray ≡ b.stray → jobs_by new ≡ jobs_by old ++ b.jobs
    → ((given : Option (List Account)) (taken : List JobView) (input : List ℕ) → StandsFor given reader taken input → record b { jobs = taken ++ b.jobs } ≡ batch_with given input)
    → ((given : Option (List Account)) (taken : List JobView) (input : List ℕ) → StandsFor given reader taken input → too_large input ≡ false) → Ends old new
ends_so old new reader b was closed stray jobs whole fits = record {
  known = λ given left accounts input end h.
      let knows = subst (λ (r : Option Reader). Knows given r left accounts (jobs_by old) old.stray input) was h in
      let now = end_so given reader (jobs_by old) left accounts input b end knows.0 knows.1 (whole given (jobs_by old) input knows.0) (fits given (jobs_by old) input knows.0) in
      subst (λ (r : Option Reader). Knows given r left accounts (jobs_by new) new.stray input) (sym closed)
      (subst (λ (js : List JobView). Knows given None left accounts js new.stray input) (sym jobs) (subst (λ (n : ℕ). Knows given None left accounts (jobs_by old ++ b.jobs) n input) (sym stray) now));
  more = (b.jobs, jobs);
}

-- ---- a piece more

-- what a reader knows behind a piece
fed_so : (old : Intake) (reader reader' : Reader) (left left' : Option (List ℕ)) (faults faults' : ℕ) (more : Bool) → old.reader ≡ Some reader → (fed : HasFed reader reader' left left' faults faults' more)
    → (given : Option (List Account)) (accounts : List Account) (input : List ℕ) → HasRead given old left accounts input → StandsFor given reader' (jobs_by old) (input ++ fed.piece) × (known_accounts given (input ++ fed.piece) ≡ Some accounts)
fed_so old reader reader' left left' faults faults' more was fed given accounts input h =
    let knows = subst (λ (r : Option Reader). Knows given r left accounts (jobs_by old) old.stray input) was h in
    (fed.fed given (jobs_by old) input knows.0, known_more given input fed.piece accounts knows.1)

pub reads_so : (old new : Intake) (reader reader' reader'' : Reader) (left left' : Option (List ℕ)) (faults faults' : ℕ) (more : Bool) → old.reader ≡ Some reader → new.reader ≡ Some reader'' → HasFed reader reader' left left' faults faults' more
    → ((given : Option (List Account)) (input : List ℕ) → StandsFor given reader' (jobs_by old) input → StandsFor given reader'' (jobs_by new) input) → (rest : List JobView) × (jobs_by new ≡ jobs_by old ++ rest) → ReadsOn old new left left' faults faults'
reads_so old new reader reader' reader'' left left' faults faults' more was is fed stands jobs = record {
  piece = fed.piece;
  read = fed.read;
  known = λ given accounts input h.
      let knows = fed_so old reader reader' left left' faults faults' more was fed given accounts input h in
      subst (λ (r : Option Reader). Knows given r left' accounts (jobs_by new) new.stray (input ++ fed.piece)) (sym is) (stands given (input ++ fed.piece) knows.0, knows.1);
  more = jobs;
  kept = fed.kept;
}

-- a piece that the reader refuses as too large makes the input so
pub piece_refused : (old : Reader) (left left' : Option (List ℕ)) (faults faults' : ℕ) (piece : List ℕ) (error : FeedError) → Consumes left left' piece
    → ((given : Option (List Account)) (taken : List JobView) (input : List ℕ) → StandsFor given old taken input → error ≡ feeds.TooLarge → passes (input ++ piece) ≡ true)
    → StopsFeeding old left left' faults faults' (halt_of error)
piece_refused old left left' faults faults' piece feeds.TooLarge read large = record { piece = piece; read = read; cause = λ given taken input stands. large given taken input stands refl }
piece_refused old left left' faults faults' piece feeds.NoMemory read large = record { piece = piece; read = read; cause = tt }

-- where its reader isn't fed the next piece, a batch isn't read on
pub reading_stops : (old : Intake) (reader : Reader) (left left' : Option (List ℕ)) (faults faults' : ℕ) (halt : Halt) → old.reader ≡ Some reader
    → StopsFeeding reader left left' faults faults' halt → StopsReading old left left' faults faults' halt
reading_stops old reader left left' faults faults' halt was stops = record {
  going = λ closed. let bad : Some reader ≡ None = sym was ∙ closed in cc;
  piece = stops.piece;
  read = stops.read;
  cause = cause_so halt stops.cause;
}
  where
    cause_so : (halt : Halt) → StopCause halt faults faults' ((given : Option (List Account)) (taken : List JobView) (input : List ℕ) → StandsFor given reader taken input → passes (input ++ stops.piece) ≡ true)
        → StopCause halt faults faults' ((given : Option (List Account)) (accounts : List Account) (input : List ℕ) → HasRead given old left accounts input → (passes (input ++ stops.piece) ≡ true) ⊎ (IsAtEnd left' × (too_large (input ++ stops.piece) ≡ true)))
    cause_so halts.NoMemory cause = tt
    cause_so halts.ReadFault cause = cause
    cause_so halts.WriteFault cause = cause
    cause_so halts.TooLarge cause = λ given accounts input h.
        let knows = subst (λ (r : Option Reader). Knows given r left accounts (jobs_by old) old.stray input) was h in
        inl (cause given (jobs_by old) input knows.0)

-- at the end of the input
pub reads_to_end : (old new : Intake) (reader reader' : Reader) (left left' : Option (List ℕ)) (faults faults' : ℕ) (more : Bool) → old.reader ≡ Some reader → HasFed reader reader' left left' faults faults' more → more ≡ false
    → Ends (record old { reader = Some reader' }) new → ReadsOn old new left left' faults faults'
reads_to_end old new reader reader' left left' faults faults' more was fed none ends = record {
  piece = fed.piece;
  read = fed.read;
  known = λ given accounts input h. ends.known given left' accounts (input ++ fed.piece) (fed.to_end none) (fed_so old reader reader' left left' faults faults' more was fed given accounts input h);
  more = ends.more;
  kept = fed.kept;
}

pub stops_at_end : {T : Type 0} (r : Result T Halt) (old : Intake) (reader reader' : Reader) (left left' : Option (List ℕ)) (faults faults' : ℕ) (more : Bool) → old.reader ≡ Some reader → HasFed reader reader' left left' faults faults' more → more ≡ false
    → ((given : Option (List Account)) (left : Option (List ℕ)) (accounts : List Account) (input : List ℕ) → HasRead given (record old { reader = Some reader' }) left accounts input → IsErrOf r halts.TooLarge → too_large input ≡ true)
    → (IsErrOf r halts.ReadFault → ⊥) → (IsErrOf r halts.WriteFault → ⊥) → IfErr r (λ halt. StopsReading old left left' faults faults' halt)
stops_at_end (Ok x) old reader reader' left left' faults faults' more was fed none large read write = tt
stops_at_end (Err halts.NoMemory) old reader reader' left left' faults faults' more was fed none large read write =
    record { going = λ closed. let bad : Some reader ≡ None = sym was ∙ closed in cc; piece = fed.piece; read = fed.read; cause = tt }
stops_at_end (Err halts.ReadFault) old reader reader' left left' faults faults' more was fed none large read write = absurd (read refl)
stops_at_end (Err halts.WriteFault) old reader reader' left left' faults faults' more was fed none large read write = absurd (write refl)
stops_at_end (Err halts.TooLarge) old reader reader' left left' faults faults' more was fed none large read write = record {
  going = λ closed. let bad : Some reader ≡ None = sym was ∙ closed in cc;
  piece = fed.piece;
  read = fed.read;
  cause = λ given accounts input h. inr (fed.to_end none, large given left' accounts (input ++ fed.piece) (fed_so old reader reader' left left' faults faults' more was fed given accounts input h) refl);
}

pub if_ok : {T E P Q : Type 0} (r : Result T E) → OnOk r P → (P → Q) → OnOk r Q
if_ok (Ok x) holds then = then holds
if_ok (Err e) holds then = tt

-- ---- the front of a batch

-- too large a batch comes from a reader that says so
pub large_error : {T : Type 0} (r : Result T Halt) (error : FeedError) → IsErrAnd r (λ h. h ≡ halt_of error) → IsErrOf r halts.TooLarge → error ≡ feeds.TooLarge
large_error (Ok x) error h is = absurd h
large_error (Err s) feeds.TooLarge h is = refl
large_error (Err s) feeds.NoMemory h is = cc

pub feeding_stops : (given : Option (List Account)) (reader : Reader) (start left left' : Option (List ℕ)) (faults faults' faults'' : ℕ) (halt : Halt) (input : List ℕ) → Consumes start left input → StandsFor given reader [] input → faults' ≡ faults
    → StopsFeeding reader left left' faults' faults'' halt → StopsFront start left' faults faults'' halt
feeding_stops given reader start left left' faults faults' faults'' halt input read stands same stops = record {
  input = input ++ stops.piece;
  read = Consumes-trans start left left' input stops.piece read stops.read;
  cause = cause_so halt stops.cause;
}
  where
    cause_so : (halt : Halt) → StopCause halt faults' faults'' ((given : Option (List Account)) (taken : List JobView) (input : List ℕ) → StandsFor given reader taken input → passes (input ++ stops.piece) ≡ true) → StopCause halt faults faults'' (IsTooLarge start left')
    cause_so halts.NoMemory cause = tt
    cause_so halts.ReadFault cause = subst (λ (n : ℕ). Rose n faults'') same cause
    cause_so halts.WriteFault cause = cause
    cause_so halts.TooLarge cause = record { input = input ++ stops.piece; read = Consumes-trans start left left' input stops.piece read stops.read; large = inl (cause given [] input stands) }

pub whole_stops : {T : Type 0} (r : Result T Halt) (left left' : Option (List ℕ)) (faults faults' : ℕ) (input : List ℕ) → Consumes left left' input → IsAtEnd left'
    → (IsErrOf r halts.TooLarge → too_large input ≡ true) → (IsErrOf r halts.ReadFault → ⊥) → (IsErrOf r halts.WriteFault → ⊥) → IfErr r (λ halt. StopsFront left left' faults faults' halt)
whole_stops (Ok x) left left' faults faults' input read end large rf wf = tt
whole_stops (Err halts.NoMemory) left left' faults faults' input read end large rf wf = record { input = input; read = read; cause = tt }
whole_stops (Err halts.ReadFault) left left' faults faults' input read end large rf wf = absurd (rf refl)
whole_stops (Err halts.WriteFault) left left' faults faults' input read end large rf wf = absurd (wf refl)
whole_stops (Err halts.TooLarge) left left' faults faults' input read end large rf wf = record { input = input; read = read; cause = record { input = input; read = read; large = inr (end, large refl) } }

pub whole_opens : (given : Option (List Account)) (r : Result Front Halt) (left left' : Option (List ℕ)) (input : List ℕ) → Consumes left left' input → IsAtEnd left' → IfOk r (λ front. IsWhole given front input) → IfOk r (Opens given left left')
whole_opens given (Ok front) left left' input read end whole = record { input = input; read = read; known = whole.known left' end; few = whole.few }
whole_opens given (Err halt) left left' input read end whole = tt
