use Rattle.std.proofs.Common.{refl, sym, ap, ◌∙◌}
use Rattle.deck_reader.specs.CardFlaws.{is_long, is_foul}
use Rattle.deck_reader.specs.Batch.{account_for, library_for}
use Rattle.deck_reader.specs.JobCards.{job_card}
use Rattle.deck_reader.proofs.Firsts.{or_false}
use Rattle.deck_reader.proofs.OpenJobs.{account_for-counted, library_for-counted}
use Rattle.deck_reader.proofs.open_job.OpenJob.new.Goals as goal

pub returns : goal.returns
returns c = record {
  number_is = refl;
  card_is = c.job_card-card.ensures;
  account_is = c.account_for.ensures ∙ ap (account_for c.args.accounts.now) c.job_card-card.ensures ∙ account_for-counted c.args.accounts.now (job_card c.args.head.now);
  library_is = c.in_ok-library.ensures ∙ ap (library_for c.args.libraries.now) c.job_card-card.ensures ∙ library_for-counted c.args.libraries.now (job_card c.args.head.now);
  count_is = refl;
  long_is = c.is_long.ensures ∙ sym (or_false (is_long c.args.head.now));
  foul_is = c.is_foul.ensures ∙ sym (or_false (is_foul c.args.head.now));
  in_data_is = refl;
  deck_is = λ _. c.new.ensures;
  data_is = λ _. c.new-2.ensures;
}
