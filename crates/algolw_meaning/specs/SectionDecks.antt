-- Jobs, each with the body of its section.
use Rattle.std.specs.Prelude.{◌≡◌, ℕ, List, [], ◌∷◌, codes, Some, None}
use Rattle.deck_reader.specs.JobView.{JobView}
use Rattle.algolw_meaning.specs.Meaning.{JobResult, counts_of}
use Rattle.algolw_meaning.specs.Running.{job_result, lines}
use Rattle.algolw_meaning.specs.declared.ending.Ending.{Ending}
use Rattle.algolw_meaning.specs.declared.ending.Ending.TheVariants.{Normal, Fault, Limit, Diagnosed}

-- a job of so many cards, with these limits
abbrev pub job : (cards steps lines : ℕ) → (given deck : List (List ℕ)) → JobView
job cards steps lines given deck = record { number = 1; name = codes "JOB"; account_name = codes "ADA"; account = Some 0; library = None; deck = deck; data_cards = given; steps = steps; lines = lines; cards = cards; flaw = None }

-- a body of these lines, what the job used, and how it ended
abbrev pub section : List (List ℕ) → (cards steps lines : ℕ) → Ending → JobResult
section texts cards steps printed ending = record { body = lines texts; counts = counts_of cards steps printed; ending = ending }

abbrev pub sum_job : JobView
sum_job = job 2 10000 100 [] (codes "BEGIN WRITE(2 + 2) END." ∷ [])

pub record SectionsGive : Type 0 where
  -- it ends normally
  pub sum : job_result sum_job ≡ section
      (
      codes "   1        1  BEGIN WRITE(2 + 2) END."
      ∷ codes "OUTPUT"
      ∷ codes "             4"
      ∷ codes "ENDED NORMALLY"
      ∷ codes "CARDS 2 STEPS 2 LINES 1 CHARGE 5"
      ∷ []
      )
      2 2 1 Normal
  -- each card has the count of its first statement, where one stands on it; what was under way is shown
  pub fault : job_result
      (job 7 10000 100 (codes "  12" ∷ []) (
      codes "BEGIN INTEGER N; INTEGER PROCEDURE HALF"
      ∷ codes "  (INTEGER VALUE X);"
      ∷ codes "  X DIV (X - 3);"
      ∷ codes "READ(N); WRITE(N);"
      ∷ codes "FOR I := 5 STEP -1 UNTIL 1 DO WRITE(HALF(I)) END."
      ∷ []
      ))
      ≡ section
      (
      codes "   1        1  BEGIN INTEGER N; INTEGER PROCEDURE HALF"
      ∷ codes "   2             (INTEGER VALUE X);"
      ∷ codes "   3             X DIV (X - 3);"
      ∷ codes "   4        1  READ(N); WRITE(N);"
      ∷ codes "   5        1  FOR I := 5 STEP -1 UNTIL 1 DO WRITE(HALF(I)) END."
      ∷ codes "OUTPUT"
      ∷ codes "            12"
      ∷ codes "             2"
      ∷ codes "             4"
      ∷ codes "FAULT 2 AT 1,1: DIVISION BY ZERO"
      ∷ codes "POST-MORTEM"
      ∷ codes "  CALL HALF FROM 5,37"
      ∷ codes "    X = 3"
      ∷ codes "  FOR 5,1"
      ∷ codes "    I = 3"
      ∷ codes "  BLOCK 1,1"
      ∷ codes "    N = 12"
      ∷ codes "CARDS 7 STEPS 13 LINES 3 CHARGE 14"
      ∷ []
      )
      7 13 3 Fault
  -- it meets the limit of steps, in the statement that would count one more
  pub limit : job_result (job 3 5 100 [] (codes "BEGIN INTEGER N; N := 0;" ∷ codes "MORE: N := N + 1; GOTO MORE END." ∷ [])) ≡ section
      (
      codes "   1        1  BEGIN INTEGER N; N := 0;"
      ∷ codes "   2        2  MORE: N := N + 1; GOTO MORE END."
      ∷ codes "OUTPUT"
      ∷ codes "LIMIT 1 AT 2,19: STEPS"
      ∷ codes "POST-MORTEM"
      ∷ codes "  BLOCK 1,1"
      ∷ codes "    N = 2"
      ∷ codes "CARDS 3 STEPS 5 LINES 0 CHARGE 4"
      ∷ []
      )
      3 5 0 Limit
  -- it isn't run
  pub diagnosed : job_result (job 2 10000 100 [] (codes "BEGIN WRITE(N); WRITE(M) END." ∷ [])) ≡ section
      (
      codes "   1           BEGIN WRITE(N); WRITE(M) END."
      ∷ codes "DIAGNOSTIC 30 AT 1,13: NAME NOT DECLARED"
      ∷ codes "DIAGNOSTIC 30 AT 1,23: NAME NOT DECLARED"
      ∷ codes "CARDS 2 STEPS 0 LINES 0 CHARGE 2"
      ∷ []
      )
      2 0 0 Diagnosed
