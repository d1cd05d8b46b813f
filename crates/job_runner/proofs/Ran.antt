-- What a job gives that is run by the code of its deck.
use Rattle.std.proofs.Common.{◌≡◌, ◌≤◌, ℕ, List, [], ◌∷◌, ◌++◌, length, take, refl, sym, ap, ◌∙◌, subst, arith}
use Rattle.std.specs.Prelude.{codes, Option, Some, None}
use Rattle.std.specs.Option.{option_map}
use Rattle.value_ops.specs.declared.places.Place.{Place}
use Rattle.output_editing.specs.Layout.{Piece, lay}
use Rattle.deck_reader.specs.JobView.{JobView}
use Rattle.deck_reader.specs.LibraryView.{LibraryView}
use Rattle.account_book.specs.declared.charges.Counts.{Counts}
use Rattle.algolw_typing.specs.Programs.{TypedProgram, program_of}
use Rattle.program_meaning.specs.Laws.{KeepsItsLimits}
use Rattle.program_meaning.specs.State.{Outcome, Given, Setting, by_fault, by_limit, unfinished, wrong}
use Rattle.program_meaning.specs.Copying.{Closed}
use Rattle.program_meaning.specs.Results.{state_of, why_text}
use Rattle.program_meaning.specs.Translating.{program_phrase}
use Rattle.program_meaning.proofs.Runs.{runs_keep_their_limits}
use Rattle.stack_code.specs.CodeView.{CodeView, code_view, statement_view}
use Rattle.stack_code.specs.Ending.{AlwaysEnds}
use Rattle.stack_code.specs.Run as table
use Rattle.stack_code.specs.Run.{RunsTo, machine_of, normal, stopped}
use Rattle.stack_code.proofs.Ending.{outcomes_are_one}
use Rattle.phrase_code.specs.Coding.{program_code}
use Rattle.joined_rows.specs.declared.outcome.Outcome as machine
use Rattle.joined_rows.specs.declared.outcome.Outcome.TheVariants as outcome
use Rattle.joined_rows.specs.Runs.{IsOutcome}
use Rattle.stack_machine.specs.Runs.{ComesTo, Shown}
use Rattle.algolw_meaning.specs.DeckDiagnostics.{Deck, IsProgram, job_deck}
use Rattle.algolw_meaning.specs.Meaning.{JobResult, counts_of, job_library}
use Rattle.algolw_meaning.specs.Running.{counted_lines, job_result, lines, program_outcome, setting_of}
use Rattle.algolw_meaning.specs.Texts.{sum_line}
use Rattle.algolw_meaning.specs.declared.ending.Ending.{Ending}
use Rattle.algolw_meaning.proofs.Composing.{job_only}
use Rattle.algolw_meaning.proofs.Results.{run_is}
use Rattle.algolw_scanner.specs.Laws.{IsDeck}
use Rattle.deck_programs.specs.Laws.{StandsBefore}
use Rattle.program_runs.specs.Laws.{HasRightCode, RunsAsItMeans, Shows}
use Rattle.program_runs.specs.Shown as table_shown
use Rattle.program_runs.proofs.Decks.{shown_result, spelled_is_right}
use Rattle.job_runner.specs.Compiled.{IsCodeOf}
use Rattle.job_runner.specs.Counted.{IsCounted, IsWithinSteps}
use Rattle.job_runner.specs.Sections.{dump_section, ending_of, ending_text, section, used}
use Rattle.job_runner.specs.Shown.{ShowsRun}

-- ---- the statements that a job begins

abbrev pub begun_in : JobView → Deck → List Place
begun_in job (IsProgram x) = (state_of (program_outcome job (program_of x))).begun
begun_in job deck = []

abbrev pub begun_of : JobView → List Place
begun_of job = begun_in job (job_deck (job_library job) job.deck)

-- what a run is given
pub setting_is : (job : JobView) (steps lines : ℕ) (cards : List (List ℕ)) → steps ≡ job.steps → lines ≡ job.lines → cards ≡ job.data_cards → ◌≡◌ {A = Setting} (record { steps = steps; lines = lines; cards = cards }) (setting_of job)
setting_is job steps lines cards e f g =
    ap (λ n. let set : Setting = record { steps = n; lines = lines; cards = cards } in set) e
    ∙ ap (λ n. let set : Setting = record { steps = job.steps; lines = n; cards = cards } in set) f
    ∙ ap (λ given. let set : Setting = record { steps = job.steps; lines = job.lines; cards = given } in set) g

-- results with the same parts
pub same_result : (a b : List ℕ) (m n : Counts) (how it : Ending) → a ≡ b → m ≡ n → how ≡ it → ◌≡◌ {A = JobResult} (record { body = a; counts = m; ending = how }) (record { body = b; counts = n; ending = it })
same_result a b m n how it e f g =
    ap (λ body. let result : JobResult = record { body = body; counts = m; ending = how } in result) e
    ∙ ap (λ counts. let result : JobResult = record { body = b; counts = counts; ending = how } in result) f
    ∙ ap (λ ending. let result : JobResult = record { body = b; counts = n; ending = ending } in result) g

-- ---- how a run ended

module _ (c : CodeView) where
  -- the ending and the dump are those of the table
  end_is : (o : machine.Outcome) (t : table.Outcome) (dump : List (List ℕ)) → IsOutcome c o t → dump ≡ table.dump_of (code_view c) t → table.ending_text t ∷ table_shown.dump_section (code_view c) t ≡ ending_text c o ∷ dump_section o dump
  end_is outcome.Normal (normal m) dump i e = refl
  end_is (outcome.Faulted f k) (stopped (by_fault g) w m) dump i e =
      ap (λ (y : List ℕ). y ∷ codes "POST-MORTEM" ∷ table.dump_lines (code_view c) m) (ap (λ h. why_text (by_fault h) w) (sym i.0) ∙ ap (why_text (by_fault f)) i.1)
      ∙ ap (λ (d : List (List ℕ)). why_text (by_fault f) (statement_view c.given k) ∷ codes "POST-MORTEM" ∷ d) (sym e)
  end_is (outcome.Limited l k) (stopped (by_limit g) w m) dump i e =
      ap (λ (y : List ℕ). y ∷ codes "POST-MORTEM" ∷ table.dump_lines (code_view c) m) (ap (λ h. why_text (by_limit h) w) (sym i.0) ∙ ap (why_text (by_limit l)) i.1)
      ∙ ap (λ (d : List (List ℕ)). why_text (by_limit l) (statement_view c.given k) ∷ codes "POST-MORTEM" ∷ d) (sym e)
  end_is outcome.Normal (stopped y w m) dump i e = absurd i
  end_is (outcome.Faulted f k) (normal m) dump i e = absurd i
  end_is (outcome.Faulted f k) (stopped (by_limit g) w m) dump i e = absurd i
  end_is (outcome.Faulted f k) (stopped wrong w m) dump i e = absurd i
  end_is (outcome.Faulted f k) (stopped unfinished w m) dump i e = absurd i
  end_is (outcome.Limited l k) (normal m) dump i e = absurd i
  end_is (outcome.Limited l k) (stopped (by_fault g) w m) dump i e = absurd i
  end_is (outcome.Limited l k) (stopped wrong w m) dump i e = absurd i
  end_is (outcome.Limited l k) (stopped unfinished w m) dump i e = absurd i

  ending_is : (o : machine.Outcome) (t : table.Outcome) → IsOutcome c o t → table_shown.ending_of t ≡ ending_of o
  ending_is outcome.Normal (normal m) i = refl
  ending_is (outcome.Faulted f k) (stopped (by_fault g) w m) i = refl
  ending_is (outcome.Limited l k) (stopped (by_limit g) w m) i = refl
  ending_is outcome.Normal (stopped y w m) i = absurd i
  ending_is (outcome.Faulted f k) (normal m) i = absurd i
  ending_is (outcome.Faulted f k) (stopped (by_limit g) w m) i = absurd i
  ending_is (outcome.Faulted f k) (stopped wrong w m) i = absurd i
  ending_is (outcome.Faulted f k) (stopped unfinished w m) i = absurd i
  ending_is (outcome.Limited l k) (normal m) i = absurd i
  ending_is (outcome.Limited l k) (stopped (by_fault g) w m) i = absurd i
  ending_is (outcome.Limited l k) (stopped wrong w m) i = absurd i
  ending_is (outcome.Limited l k) (stopped unfinished w m) i = absurd i

-- ---- a job that is run

-- it stands before its library, where it names one
stands_by : (library : Option LibraryView) (deck : List (List ℕ)) → IsDeck deck → length deck ≤ 1999 → StandsBefore (option_map (λ l. l.cards) library) deck
stands_by None deck is few = tt
stands_by (Some l) deck is few = (is, few)

pub stands : (job : JobView) → IsDeck job.deck → length job.deck ≤ 1999 → StandsBefore (job_library job) job.deck
stands job is few = stands_by job.library job.deck is few

module _ (job : JobView) (c : CodeView) (is : IsCodeOf (job_library job) job.deck c) (before : StandsBefore (job_library job) job.deck) where
  abbrev program : TypedProgram
  program = program_of is.program

  abbrev means : Outcome Closed Given
  means = program_outcome job program

  -- what it begins
  pub begun_is : (state_of means).begun ≡ begun_of job
  begun_is = ap (begun_in job) (job_only (job_library job) job.deck (IsProgram is.program) is.spelled)

  right : HasRightCode (program_phrase program)
  right = spelled_is_right (job_library job) job.deck is.program before is.spelled is.faultless

  -- its code always ends
  pub code_ends : AlwaysEnds (code_view c)
  code_ends = subst AlwaysEnds (sym is.code) right.ends

  -- no statement is begun more often than a job may take steps
  pub within_steps : job.steps ≤ 10000000 → IsWithinSteps (begun_of job)
  within_steps most = subst IsWithinSteps begun_is (λ statement.
      let keeps : KeepsItsLimits (setting_of job) (program_phrase program) = runs_keep_their_limits (setting_of job) (program_phrase program) in
      let begun = keeps.begun statement in
      let steps = keeps.steps in
      omega (arith, most, begun, steps))

  module _ (o : machine.Outcome) (d : Shown) (r : ComesTo (setting_of job) c o d) where
    abbrev runs : RunsAsItMeans (setting_of job) (program_phrase program)
    runs = right.runs (setting_of job)

    -- the table comes to one outcome
    same_outcome : r.outcome ≡ runs.run.outcome
    same_outcome = outcomes_are_one (setting_of job) (program_code (program_phrase program)) r.outcome runs.run.outcome (subst (λ k. RunsTo (setting_of job) k r.outcome) is.code r.comes) runs.run.comes

    shows : Shows (code_view c) r.outcome means
    shows = subst (λ k. Shows k r.outcome means) (sym is.code) (subst (λ t. Shows (program_code (program_phrase program)) t means) (sym same_outcome) runs.by_copying)

    -- each statement is counted as often as it was begun
    counted_so : IsCounted c.given.statements d.counts (state_of means).begun
    counted_so = record { numbers = r.begun; are = r.begun_are ∙ shows.begun; every = r.counts; counted = r.counted }

    pub counted : IsCounted c.given.statements d.counts (begun_of job)
    counted = subst (λ (ps : List Place). IsCounted c.given.statements d.counts ps) begun_is counted_so

    -- the desk shows what the run gives
    pub shows_run : ShowsRun job d
    shows_run = record {
      program = is.program;
      spelled = is.spelled;
      faultless = is.faultless;
      steps = r.steps ∙ shows.steps;
      lines = r.lines ∙ ap (λ (ps : List Piece). take job.lines (lay ps)) shows.pieces;
      dump = r.dump ∙ shows.dump;
      counts = subst (λ (ps : List Place). IsCounted ps d.counts (state_of means).begun) is.statements counted_so;
    }

    -- a section, by what goes into it
    abbrev section_by : (statements begun : List Place) (steps : ℕ) (printed end : List (List ℕ)) → Ending → JobResult
    section_by statements begun steps printed end how = record { body = lines (counted_lines statements begun 1 job.deck ++ (codes "OUTPUT" ∷ printed ++ end)) ++ sum_line (counts_of job.cards steps (length printed)); counts = counts_of job.cards steps (length printed); ending = how }

    -- and the section says what the job means
    pub result_is : job_result job ≡ record { body = section job c (begun_of job) o d; counts = used job d; ending = ending_of o }
    result_is =
        let m = machine_of r.outcome in
        let printed = table.printed_lines (setting_of job) m in
        let end = table.ending_text r.outcome ∷ table_shown.dump_section (code_view c) r.outcome in
        let how = table_shown.ending_of r.outcome in
        run_is job is.program is.spelled is.faultless
        ∙ shown_result job program.statements (code_view c) r.outcome means shows
        ∙ ap (λ ps. section_by ps m.begun m.steps printed end how) (sym is.statements)
        ∙ ap (λ ps. section_by c.given.statements ps m.steps printed end how) (shows.begun ∙ begun_is)
        ∙ ap (λ n. section_by c.given.statements (begun_of job) n printed end how) (sym r.steps)
        ∙ ap (λ ls. section_by c.given.statements (begun_of job) d.steps ls end how) (sym r.lines)
        ∙ ap (λ ls. section_by c.given.statements (begun_of job) d.steps d.lines ls how) (end_is c o r.outcome d.dump r.is r.dump)
        ∙ ap (λ e. section_by c.given.statements (begun_of job) d.steps d.lines (ending_text c o ∷ dump_section o d.dump) e) (ending_is c o r.outcome r.is)

    -- so it does where it is made of jobs that are this one
    pub ended_is : (a b e : JobView) (body : List ℕ) (counts : Counts) (how : Ending) → a ≡ job → b ≡ job → e ≡ job → body ≡ section b c (begun_of b) o d → counts ≡ used e d → how ≡ ending_of o → job_result a ≡ record { body = body; counts = counts; ending = how }
    ended_is a b e body counts how is_a is_b is_e is_body is_counts is_how =
        ap job_result is_a ∙ result_is
        ∙ same_result (section job c (begun_of job) o d) body (used job d) counts (ending_of o) how
        (sym (is_body ∙ ap (λ (j : JobView). section j c (begun_of j) o d) is_b)) (sym (is_counts ∙ ap (λ (j : JobView). used j d) is_e)) (sym is_how)
