use Rattle.std.proofs.Common.{◌++◌, refl, sym, ap, ◌∙◌}
use Rattle.deck_reader.specs.declared.reading.Reading.{Reading}
use Rattle.deck_reader.specs.Reading.{put_back}
use Rattle.deck_reader.proofs.Arrivals.{closes_back, strayed, ended_job, continued}
use Rattle.deck_reader.proofs.reading.Reading.take_card.Goals as goal

pub returns-in_ok-close-in-Inside : goal.returns-in_ok-close-in-Inside
returns-in_ok-close-in-Inside c = λ given taken cards few at.
    ended_job given (put_back taken c.args.self.now) (put_back taken c.close.new.self) cards c.args.card.now c.in-Inside.job few (sym c.is_head.ensures ∙ c.if-is_head.false) (sym c.is_end.ensures ∙ c.if-is_end.true) at c.in-Inside.is
    (put_back taken _) refl refl refl refl refl refl refl (closes_back _ _ taken c.in_ok-close-in-Inside.ensures)

pub returns-in_ok-push-in-Inside : goal.returns-in_ok-push-in-Inside
returns-in_ok-push-in-Inside c = λ given taken cards few at.
    continued given (put_back taken c.args.self.now) (put_back taken _) cards c.args.card.now c.in-Inside.job c.push.new.self few (sym c.is_head.ensures ∙ c.if-is_head.false) (sym c.is_end.ensures ∙ c.if-is_end.false) at c.in-Inside.is
    c.in_ok-push-in-Inside.ensures refl refl refl refl refl refl refl

pub returns-in-Outside : goal.returns-in-Outside
returns-in-Outside c = λ given taken cards few at.
    let stray = c.count_stray.ensures in
    strayed given (put_back taken c.args.self.now) (put_back taken c.count_stray.new.self) cards c.args.card.now few (sym c.is_head.ensures ∙ c.if-is_head.false) at c.in-Outside.is
    (ap (λ (r : Reading). r.given) stray) (ap (λ (r : Reading). r.accounts) stray) (ap (λ (r : Reading). r.shelf) stray) (ap (λ (r : Reading). taken ++ r.jobs) stray) (ap (λ (r : Reading). r.heads) stray) (ap (λ (r : Reading). r.stray) stray) (ap (λ (r : Reading). r.stage) stray ∙ c.in-Outside.is)
