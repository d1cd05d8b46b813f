use Rattle.std.proofs.Common.{List, ℕ, [], refl, subst}
use Rattle.deck_reader.specs.declared.batch.Account.{Account}
use Rattle.deck_reader.specs.LibraryView.{Shelved}
use Rattle.deck_reader.specs.Reading.{IsOpenJob, put_back}
use Rattle.deck_reader.proofs.Arrivals.{begun, closes_back}
use Rattle.deck_reader.proofs.reading.Reading.begin_job.Goals as goal

pub returns : goal.returns
returns c = λ given taken cards few at.
    let job = c.in_ok-job.job in
    let between = c.close.new.self in
    let head = c.args.head.now in
    let P : List Account → Type 0 = λ xs. IsOpenJob (record { accounts = xs; shelf = c.as_slice-2.result.now }) c.saturating_add-self.result head [] job in
    let Q : List Shelved → Type 0 = λ xs. IsOpenJob (record { accounts = between.accounts; shelf = xs }) c.saturating_add-self.result head [] job in
    let R : ℕ → Type 0 = λ n. IsOpenJob (record { accounts = between.accounts; shelf = between.shelf }) n head [] job in
    begun given (put_back taken c.args.self.now) (put_back taken between) (put_back taken _) cards head job few c.requires at (closes_back _ _ taken c.in_ok-close.ensures) refl refl refl refl c.saturating_add-self.ensures refl refl
    (subst R c.saturating_add-self.ensures (subst Q c.as_slice-2.ensures (subst P c.as_slice.ensures c.in_ok-job.ensures)))
