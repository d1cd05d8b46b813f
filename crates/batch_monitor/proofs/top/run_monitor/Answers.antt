use Rattle.std.proofs.Common.{Err, ap, refl}
use Rattle.command_words.specs.declared.order.WordsError.{WordsError}
use Rattle.batch_monitor.proofs.Boards.{shown_so}
use Rattle.batch_monitor.proofs.Endings.{cut_or, nothing_done, nothing_made}
use Rattle.batch_monitor.proofs.Known.{complete_so, refused_accounts_so, refused_so}
use Rattle.batch_monitor.proofs.SaidOrders.{or_asked, or_says, said, said_make, said_run, said_statement, says_accounts, with_asked}
use Rattle.batch_monitor.proofs.Stating.{none_ends, nothing_stated}
use Rattle.batch_monitor.proofs.top.run_monitor.Goals as goal

-- ---- the words say an order

pub staff_for-requires : goal.staff_for-requires
staff_for-requires g c = record { said = said _ c.in-Ok.order c.in-Ok.ensures.ok }

pub obey-requires-clause-said : goal.obey-requires-clause-said
obey-requires-clause-said g c = λ _ _. said _ c.in-Ok.order c.in-Ok.ensures.ok

pub returns-in-Ok-staff_for-clause-done : goal.returns-in-Ok-staff_for-clause-done
returns-in-Ok-staff_for-clause-done g c = λ asked says. c.obey.ensures.done asked (said_run _ c.in-Ok.order c.in-Ok.ensures.ok asked says)

pub returns-in-Ok-staff_for-clause-cut : goal.returns-in-Ok-staff_for-clause-cut
returns-in-Ok-staff_for-clause-cut g c = λ asked says. c.obey.ensures.cut asked (said_run _ c.in-Ok.order c.in-Ok.ensures.ok asked says)

pub returns-in-Ok-staff_for-clause-balances : goal.returns-in-Ok-staff_for-clause-balances
returns-in-Ok-staff_for-clause-balances g c = λ asked says. c.obey.ensures.balances asked (said_run _ c.in-Ok.order c.in-Ok.ensures.ok asked says)

pub returns-in-Ok-staff_for-clause-alone : goal.returns-in-Ok-staff_for-clause-alone
returns-in-Ok-staff_for-clause-alone g c = λ asked says. c.obey.ensures.alone asked (said_run _ c.in-Ok.order c.in-Ok.ensures.ok asked says)

pub returns-in-Ok-staff_for-clause-board : goal.returns-in-Ok-staff_for-clause-board
returns-in-Ok-staff_for-clause-board g c = λ asked says is done.
    shown_so asked (g.S.Source.left c.args.src.now) (g.S.Source.left c.obey.new.src) (g.K.Sink.written c.args.sink.now) (g.K.Sink.written c.obey.new.sink) (g.A.Source.left c.args.accounts_src.now) (g.A.Source.left c.obey.new.accounts_src) (g.B.Sink.written c.args.accounts_sink.now) (g.B.Sink.written c.obey.new.accounts_sink) is (c.obey.ensures.done asked (said_run _ c.in-Ok.order c.in-Ok.ensures.ok asked says) done)

pub returns-in-Ok-staff_for-clause-read : goal.returns-in-Ok-staff_for-clause-read
returns-in-Ok-staff_for-clause-read g c = λ is. or_says _ c.in-Ok.order c.in-Ok.ensures.ok (c.obey.ensures.read is)

pub returns-in-Ok-staff_for-clause-write : goal.returns-in-Ok-staff_for-clause-write
returns-in-Ok-staff_for-clause-write g c = λ is. or_says _ c.in-Ok.order c.in-Ok.ensures.ok (c.obey.ensures.write is)

pub returns-in-Ok-staff_for-clause-accounts : goal.returns-in-Ok-staff_for-clause-accounts
returns-in-Ok-staff_for-clause-accounts g c = λ is. says_accounts _ c.in-Ok.order c.in-Ok.ensures.ok (c.obey.ensures.accounts is)

pub returns-in-Ok-staff_for-clause-refused_accounts : goal.returns-in-Ok-staff_for-clause-refused_accounts
returns-in-Ok-staff_for-clause-refused_accounts g c = λ says.
    refused_accounts_so says.asked.accounts (g.A.Source.left c.args.accounts_src.now) (g.A.Source.left c.obey.new.accounts_src) c.obey.result says.accounts (c.obey.ensures.known says.asked (said_run _ c.in-Ok.order c.in-Ok.ensures.ok says.asked says.run))

pub returns-in-Ok-staff_for-clause-complete : goal.returns-in-Ok-staff_for-clause-complete
returns-in-Ok-staff_for-clause-complete g c = λ asked says states none.
    let run = said_run _ c.in-Ok.order c.in-Ok.ensures.ok asked says in
    complete_so asked (g.S.Source.left c.obey.new.src) (g.A.Source.left c.args.accounts_src.now) (g.A.Source.left c.obey.new.accounts_src) (g.S.Source.faults c.args.src.now) (g.S.Source.faults c.obey.new.src) (g.K.Sink.faults c.args.sink.now) (g.K.Sink.faults c.obey.new.sink) (g.A.Source.faults c.args.accounts_src.now) (g.A.Source.faults c.obey.new.accounts_src) (g.B.Sink.faults c.args.accounts_sink.now) (g.B.Sink.faults c.obey.new.accounts_sink)
    (g.S.Source.left c.args.src.now) c.obey.result (record {
      words = c.obey.ensures.bad;
      read = λ is. or_asked c.in-Ok.order asked run (c.obey.ensures.read is);
      write = λ is. or_asked c.in-Ok.order asked run (c.obey.ensures.write is);
      large = c.obey.ensures.large;
      accounts = λ is. let bad = c.obey.ensures.accounts is in (with_asked c.in-Ok.order asked run bad.0, bad.1);
    }) states none

pub returns-in-Ok-staff_for-clause-refused : goal.returns-in-Ok-staff_for-clause-refused
returns-in-Ok-staff_for-clause-refused g c = λ asked says states none.
    let run = said_run _ c.in-Ok.order c.in-Ok.ensures.ok asked says in
    refused_so asked (g.S.Source.left c.obey.new.src) (g.A.Source.left c.args.accounts_src.now) (g.A.Source.left c.obey.new.accounts_src) (g.S.Source.faults c.args.src.now) (g.S.Source.faults c.obey.new.src) (g.K.Sink.faults c.args.sink.now) (g.K.Sink.faults c.obey.new.sink) (g.A.Source.faults c.args.accounts_src.now) (g.A.Source.faults c.obey.new.accounts_src) (g.B.Sink.faults c.args.accounts_sink.now) (g.B.Sink.faults c.obey.new.accounts_sink)
    (g.S.Source.left c.args.src.now) c.obey.result (record {
      words = c.obey.ensures.bad;
      read = λ is. or_asked c.in-Ok.order asked run (c.obey.ensures.read is);
      write = λ is. or_asked c.in-Ok.order asked run (c.obey.ensures.write is);
      large = c.obey.ensures.large;
      accounts = λ is. let bad = c.obey.ensures.accounts is in (with_asked c.in-Ok.order asked run bad.0, bad.1);
    })
    (λ is. let d = c.obey.ensures.done asked run is in (d.all.input, d.all.whole.read, d.all.whole.to_end, d.all.whole.fits)) states none

pub returns-in-Ok-staff_for-clause-made : goal.returns-in-Ok-staff_for-clause-made
returns-in-Ok-staff_for-clause-made g c = λ seed jobs says. c.obey.ensures.made seed jobs (said_make _ c.in-Ok.order c.in-Ok.ensures.ok seed jobs says)

pub returns-in-Ok-staff_for-clause-statement : goal.returns-in-Ok-staff_for-clause-statement
returns-in-Ok-staff_for-clause-statement g c = λ name says. c.obey.ensures.statement name (said_statement _ c.in-Ok.order c.in-Ok.ensures.ok name says)

pub returns-in-Ok-staff_for-clause-stated : goal.returns-in-Ok-staff_for-clause-stated
returns-in-Ok-staff_for-clause-stated g c = λ name says. c.obey.ensures.stated name (said_statement _ c.in-Ok.order c.in-Ok.ensures.ok name says)

-- ---- memory was wanting for the workers

pub returns-in-Err-clause-cut : goal.returns-in-Err-clause-cut
returns-in-Err-clause-cut g c = λ asked says n. cut_or (nothing_done asked (g.S.Source.left c.args.src.now) (g.K.Sink.written c.args.sink.now) (g.A.Source.left c.args.accounts_src.now)) refl refl

pub returns-in-Err-clause-made : goal.returns-in-Err-clause-made
returns-in-Err-clause-made g c = λ seed jobs says. (nothing_made seed jobs (g.K.Sink.written c.args.sink.now), refl, refl, refl)

pub returns-in-Err-clause-statement : goal.returns-in-Err-clause-statement
returns-in-Err-clause-statement g c = λ name says. (nothing_stated name (g.S.Source.left c.args.src.now) (g.K.Sink.written c.args.sink.now) refl, refl, refl)

pub returns-in-Err-clause-stated : goal.returns-in-Err-clause-stated
returns-in-Err-clause-stated g c = λ name says cards text. none_ends (g.S.Source.left c.args.src.now)

-- ---- the words say none

pub returns-in-Err-BadWords-clause-bad : goal.returns-in-Err-BadWords-clause-bad
returns-in-Err-BadWords-clause-bad g c = λ is. c.in-Err-BadWords.ensures.bad (ap (λ (e : WordsError). Err e) c.in-Err-BadWords.field-0-is)

pub returns-in-Err-BadWords-clause-cut : goal.returns-in-Err-BadWords-clause-cut
returns-in-Err-BadWords-clause-cut g c = λ asked says. absurd (c.in-Err-BadWords.ensures.bad (ap (λ (e : WordsError). Err e) c.in-Err-BadWords.field-0-is) _ says.order)

pub returns-in-Err-BadWords-clause-complete : goal.returns-in-Err-BadWords-clause-complete
returns-in-Err-BadWords-clause-complete g c = λ asked says. absurd (c.in-Err-BadWords.ensures.bad (ap (λ (e : WordsError). Err e) c.in-Err-BadWords.field-0-is) _ says.order)

pub returns-in-Err-BadWords-clause-refused : goal.returns-in-Err-BadWords-clause-refused
returns-in-Err-BadWords-clause-refused g c = λ asked says. absurd (c.in-Err-BadWords.ensures.bad (ap (λ (e : WordsError). Err e) c.in-Err-BadWords.field-0-is) _ says.order)

pub returns-in-Err-BadWords-clause-refused_accounts : goal.returns-in-Err-BadWords-clause-refused_accounts
returns-in-Err-BadWords-clause-refused_accounts g c = λ says. absurd (c.in-Err-BadWords.ensures.bad (ap (λ (e : WordsError). Err e) c.in-Err-BadWords.field-0-is) _ says.run.order)

pub returns-in-Err-BadWords-clause-made : goal.returns-in-Err-BadWords-clause-made
returns-in-Err-BadWords-clause-made g c = λ seed jobs says. absurd (c.in-Err-BadWords.ensures.bad (ap (λ (e : WordsError). Err e) c.in-Err-BadWords.field-0-is) _ says.order)

pub returns-in-Err-BadWords-clause-statement : goal.returns-in-Err-BadWords-clause-statement
returns-in-Err-BadWords-clause-statement g c = λ name says. absurd (c.in-Err-BadWords.ensures.bad (ap (λ (e : WordsError). Err e) c.in-Err-BadWords.field-0-is) _ says.order)

pub returns-in-Err-BadWords-clause-stated : goal.returns-in-Err-BadWords-clause-stated
returns-in-Err-BadWords-clause-stated g c = λ name says. absurd (c.in-Err-BadWords.ensures.bad (ap (λ (e : WordsError). Err e) c.in-Err-BadWords.field-0-is) _ says.order)

-- ---- memory was wanting for the words

pub returns-in-Err-NoMemory-clause-cut : goal.returns-in-Err-NoMemory-clause-cut
returns-in-Err-NoMemory-clause-cut g c = λ asked says n. cut_or (nothing_done asked (g.S.Source.left c.args.src.now) (g.K.Sink.written c.args.sink.now) (g.A.Source.left c.args.accounts_src.now)) refl refl

pub returns-in-Err-NoMemory-clause-made : goal.returns-in-Err-NoMemory-clause-made
returns-in-Err-NoMemory-clause-made g c = λ seed jobs says. (nothing_made seed jobs (g.K.Sink.written c.args.sink.now), refl, refl, refl)

pub returns-in-Err-NoMemory-clause-statement : goal.returns-in-Err-NoMemory-clause-statement
returns-in-Err-NoMemory-clause-statement g c = λ name says. (nothing_stated name (g.S.Source.left c.args.src.now) (g.K.Sink.written c.args.sink.now) refl, refl, refl)

pub returns-in-Err-NoMemory-clause-stated : goal.returns-in-Err-NoMemory-clause-stated
returns-in-Err-NoMemory-clause-stated g c = λ name says cards text. none_ends (g.S.Source.left c.args.src.now)
