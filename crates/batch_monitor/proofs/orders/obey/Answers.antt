use Rattle.std.proofs.Common.{◌≡◌, ◌⊎◌, List, Option, ap, refl, subst, ◌∙◌, true}
use Rattle.batch_io.specs.Causes.{Rose}
use Rattle.deck_reader.specs.declared.batch.Account.{Account}
use Rattle.batch_monitor.specs.Accounts.{Given}
use Rattle.batch_monitor.specs.declared.asked.Asked.{Asked}
use Rattle.batch_monitor.specs.declared.top.Status.TheVariants as statuses
use Rattle.batch_monitor.specs.Outcome.{IsCut, IsCutInBalances, IsDone}
use Rattle.batch_monitor.proofs.Endings.{made_after}
use Rattle.batch_monitor.proofs.SaidOrders.{made_not_run, made_not_stated, or_with, run_not_made, run_not_stated, said_few, same_asked, same_made, same_name, stated_not_made, stated_not_run, with_accounts}
use Rattle.batch_monitor.proofs.Stating.{ends_after, stated_after}
use Rattle.batch_monitor.proofs.orders.obey.Goals as goal

-- ---- a batch that is read

pub returns-in-Run-clause-done : goal.returns-in-Run-clause-done
returns-in-Run-clause-done g c = λ asked run.
    let e = same_asked c.args.order.now c.in-Run.workers c.in-Run.queue c.in-Run.accounts c.in-Run.board c.in-Run.is asked run in
    subst (λ (a : Asked). c.run_batch.result ≡ statuses.Done → IsDone a (g.S.Source.left c.args.src.now) (g.S.Source.left c.run_batch.new.src) (g.K.Sink.written c.args.sink.now) (g.K.Sink.written c.run_batch.new.sink) (g.A.Source.left c.args.accounts_src.now) (g.A.Source.left c.run_batch.new.accounts_src) (g.B.Sink.written c.args.accounts_sink.now) (g.B.Sink.written c.run_batch.new.accounts_sink)) e c.run_batch.ensures.done

pub returns-in-Run-clause-cut : goal.returns-in-Run-clause-cut
returns-in-Run-clause-cut g c = λ asked run.
    let e = same_asked c.args.order.now c.in-Run.workers c.in-Run.queue c.in-Run.accounts c.in-Run.board c.in-Run.is asked run in
    subst (λ (a : Asked). (c.run_batch.result ≡ statuses.Done → ⊥) → IsCut a (g.S.Source.left c.args.src.now) (g.S.Source.left c.run_batch.new.src) (g.K.Sink.written c.args.sink.now) (g.K.Sink.written c.run_batch.new.sink) (g.A.Source.left c.args.accounts_src.now) (g.A.Source.left c.run_batch.new.accounts_src)
    ⊎ ((a.accounts ≡ true) × (c.run_batch.new.src ≡ c.args.src.now) × (c.run_batch.new.sink ≡ c.args.sink.now))) e c.run_batch.ensures.cut

pub returns-in-Run-clause-balances : goal.returns-in-Run-clause-balances
returns-in-Run-clause-balances g c = λ asked run.
    let e = same_asked c.args.order.now c.in-Run.workers c.in-Run.queue c.in-Run.accounts c.in-Run.board c.in-Run.is asked run in
    subst (λ (a : Asked). (c.run_batch.result ≡ statuses.Done → ⊥) → (c.run_batch.new.accounts_sink ≡ c.args.accounts_sink.now)
    ⊎ ((c.run_batch.result ≡ statuses.WriteFault) × IsCutInBalances a (g.S.Source.left c.args.src.now) (g.S.Source.left c.run_batch.new.src) (g.K.Sink.written c.args.sink.now) (g.K.Sink.written c.run_batch.new.sink) (g.A.Source.left c.args.accounts_src.now) (g.A.Source.left c.run_batch.new.accounts_src) (g.B.Sink.written c.args.accounts_sink.now) (g.B.Sink.written c.run_batch.new.accounts_sink))) e c.run_batch.ensures.balances

pub returns-in-Run-clause-alone : goal.returns-in-Run-clause-alone
returns-in-Run-clause-alone g c = λ asked run without. c.run_batch.ensures.alone (ap (λ (a : Asked). a.accounts) (same_asked c.args.order.now c.in-Run.workers c.in-Run.queue c.in-Run.accounts c.in-Run.board c.in-Run.is asked run) ∙ without)

pub returns-in-Run-clause-read : goal.returns-in-Run-clause-read
returns-in-Run-clause-read g c = λ is. or_with c.args.order.now c.in-Run.workers c.in-Run.queue c.in-Run.accounts c.in-Run.board c.in-Run.is (c.run_batch.ensures.read is)

pub returns-in-Run-clause-write : goal.returns-in-Run-clause-write
returns-in-Run-clause-write g c = λ is. or_with c.args.order.now c.in-Run.workers c.in-Run.queue c.in-Run.accounts c.in-Run.board c.in-Run.is (c.run_batch.ensures.write is)

pub returns-in-Run-clause-accounts : goal.returns-in-Run-clause-accounts
returns-in-Run-clause-accounts g c = λ is. with_accounts c.args.order.now c.in-Run.workers c.in-Run.queue c.in-Run.accounts c.in-Run.board c.in-Run.is (c.run_batch.ensures.accounts is)

pub returns-in-Run-clause-known : goal.returns-in-Run-clause-known
returns-in-Run-clause-known g c = λ asked run.
    let e = same_asked c.args.order.now c.in-Run.workers c.in-Run.queue c.in-Run.accounts c.in-Run.board c.in-Run.is asked run in
    subst (λ (a : Asked). ((given : Option (List Account)) × Given a.accounts (g.A.Source.left c.args.accounts_src.now) (g.A.Source.left c.run_batch.new.accounts_src) given) ⊎ (c.run_batch.result ≡ statuses.BadAccounts) ⊎ (c.run_batch.result ≡ statuses.NoMemory) ⊎ Rose (g.A.Source.faults c.args.accounts_src.now) (g.A.Source.faults c.run_batch.new.accounts_src)) e c.run_batch.ensures.known

pub returns-in-Run-clause-made : goal.returns-in-Run-clause-made
returns-in-Run-clause-made g c = λ seed jobs make. absurd (run_not_made c.args.order.now c.in-Run.workers c.in-Run.queue c.in-Run.accounts c.in-Run.board c.in-Run.is seed jobs make)

pub returns-in-Run-clause-statement : goal.returns-in-Run-clause-statement
returns-in-Run-clause-statement g c = λ name statement. absurd (run_not_stated c.args.order.now c.in-Run.workers c.in-Run.queue c.in-Run.accounts c.in-Run.board c.in-Run.is name statement)

pub returns-in-Run-clause-stated : goal.returns-in-Run-clause-stated
returns-in-Run-clause-stated g c = λ name statement. absurd (run_not_stated c.args.order.now c.in-Run.workers c.in-Run.queue c.in-Run.accounts c.in-Run.board c.in-Run.is name statement)

-- ---- a batch that is made

pub run_made-requires-clause-few : goal.run_made-requires-clause-few
run_made-requires-clause-few g c = λ _ _. said_few c.args.order.now c.in-Make.seed c.in-Make.jobs c.in-Make.workers c.in-Make.queue c.requires.said c.in-Make.is

pub returns-in-Make-clause-done : goal.returns-in-Make-clause-done
returns-in-Make-clause-done g c = λ asked run. absurd (made_not_run c.args.order.now c.in-Make.seed c.in-Make.jobs c.in-Make.workers c.in-Make.queue c.in-Make.is asked run)

pub returns-in-Make-clause-cut : goal.returns-in-Make-clause-cut
returns-in-Make-clause-cut g c = λ asked run. absurd (made_not_run c.args.order.now c.in-Make.seed c.in-Make.jobs c.in-Make.workers c.in-Make.queue c.in-Make.is asked run)

pub returns-in-Make-clause-balances : goal.returns-in-Make-clause-balances
returns-in-Make-clause-balances g c = λ asked run. absurd (made_not_run c.args.order.now c.in-Make.seed c.in-Make.jobs c.in-Make.workers c.in-Make.queue c.in-Make.is asked run)

pub returns-in-Make-clause-alone : goal.returns-in-Make-clause-alone
returns-in-Make-clause-alone g c = λ asked run. absurd (made_not_run c.args.order.now c.in-Make.seed c.in-Make.jobs c.in-Make.workers c.in-Make.queue c.in-Make.is asked run)

pub returns-in-Make-clause-known : goal.returns-in-Make-clause-known
returns-in-Make-clause-known g c = λ asked run. absurd (made_not_run c.args.order.now c.in-Make.seed c.in-Make.jobs c.in-Make.workers c.in-Make.queue c.in-Make.is asked run)

pub returns-in-Make-clause-made : goal.returns-in-Make-clause-made
returns-in-Make-clause-made g c = λ s j make. (
  made_after c.run_made.result c.in-Make.seed c.in-Make.jobs s j (g.K.Sink.written c.args.sink.now) (g.K.Sink.written c.run_made.new.sink) c.status_after.result
      (same_made c.args.order.now c.in-Make.seed c.in-Make.jobs c.in-Make.workers c.in-Make.queue c.in-Make.is s j make) c.status_after.ensures c.run_made.ensures.done c.run_made.ensures.cut c.run_made.ensures.read c.run_made.ensures.large,
  refl,
  refl,
  refl,
)

pub returns-in-Make-clause-statement : goal.returns-in-Make-clause-statement
returns-in-Make-clause-statement g c = λ name statement. absurd (made_not_stated c.args.order.now c.in-Make.seed c.in-Make.jobs c.in-Make.workers c.in-Make.queue c.in-Make.is name statement)

pub returns-in-Make-clause-stated : goal.returns-in-Make-clause-stated
returns-in-Make-clause-stated g c = λ name statement. absurd (made_not_stated c.args.order.now c.in-Make.seed c.in-Make.jobs c.in-Make.workers c.in-Make.queue c.in-Make.is name statement)

-- ---- a batch of which an account is stated

pub returns-in-Statement-clause-done : goal.returns-in-Statement-clause-done
returns-in-Statement-clause-done g c = λ asked run. absurd (stated_not_run c.args.order.now c.in-Statement.name c.in-Statement.workers c.in-Statement.queue c.in-Statement.is asked run)

pub returns-in-Statement-clause-cut : goal.returns-in-Statement-clause-cut
returns-in-Statement-clause-cut g c = λ asked run. absurd (stated_not_run c.args.order.now c.in-Statement.name c.in-Statement.workers c.in-Statement.queue c.in-Statement.is asked run)

pub returns-in-Statement-clause-balances : goal.returns-in-Statement-clause-balances
returns-in-Statement-clause-balances g c = λ asked run. absurd (stated_not_run c.args.order.now c.in-Statement.name c.in-Statement.workers c.in-Statement.queue c.in-Statement.is asked run)

pub returns-in-Statement-clause-alone : goal.returns-in-Statement-clause-alone
returns-in-Statement-clause-alone g c = λ asked run. absurd (stated_not_run c.args.order.now c.in-Statement.name c.in-Statement.workers c.in-Statement.queue c.in-Statement.is asked run)

pub returns-in-Statement-clause-known : goal.returns-in-Statement-clause-known
returns-in-Statement-clause-known g c = λ asked run. absurd (stated_not_run c.args.order.now c.in-Statement.name c.in-Statement.workers c.in-Statement.queue c.in-Statement.is asked run)

pub returns-in-Statement-clause-made : goal.returns-in-Statement-clause-made
returns-in-Statement-clause-made g c = λ seed jobs make. absurd (stated_not_made c.args.order.now c.in-Statement.name c.in-Statement.workers c.in-Statement.queue c.in-Statement.is seed jobs make)

pub returns-in-Statement-clause-statement : goal.returns-in-Statement-clause-statement
returns-in-Statement-clause-statement g c = λ name statement. (
  stated_after c.run_statement.result c.status_after-in-Statement.result c.in-Statement.name name (g.S.Source.left c.args.src.now) (g.S.Source.left c.run_statement.new.src) (g.K.Sink.written c.args.sink.now) (g.K.Sink.written c.run_statement.new.sink)
      (same_name c.args.order.now c.in-Statement.name c.in-Statement.workers c.in-Statement.queue c.in-Statement.is name statement) c.status_after-in-Statement.ensures c.run_statement.ensures.done c.run_statement.ensures.cut,
  refl,
  refl,
)

pub returns-in-Statement-clause-stated : goal.returns-in-Statement-clause-stated
returns-in-Statement-clause-stated g c = λ name statement cards text.
    ends_after c.run_statement.result c.status_after-in-Statement.result c.in-Statement.name (g.S.Source.left c.args.src.now) (g.S.Source.left c.run_statement.new.src) (g.K.Sink.written c.args.sink.now) (g.K.Sink.written c.run_statement.new.sink)
    c.status_after-in-Statement.ensures c.run_statement.ensures.done c.run_statement.ensures.read c.run_statement.ensures.write c.run_statement.ensures.large cards text
