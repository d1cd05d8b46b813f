use Rattle.std.proofs.Common.{◌++◌, refl, sym, ap, ◌∙◌}
use Rattle.std.proofs.lemmas.Result.{on_ok_weaker}
use Rattle.deck_reader.specs.declared.reading.Reading.{Reading}
use Rattle.deck_reader.specs.Reading.{put_back}
use Rattle.deck_reader.proofs.Arrivals.{closes_back, takes_back, controlled, in_a_library, in_no_library, front_alone}
use Rattle.deck_reader.proofs.reading.Reading.take_front_card.Goals as goal

pub returns-then-is_control_card : goal.returns-then-is_control_card
returns-then-is_control_card c = λ given taken cards few at.
    let closes = closes_back c.args.self.now c.close.new.self taken c.in_ok-close.ensures in
    on_ok_weaker c.take_control_card.result
    (λ takes. controlled given (put_back taken c.args.self.now) (put_back taken c.close.new.self) (put_back taken c.take_control_card.new.self) cards c.args.card.now few c.requires.other
    (sym c.is_control_card.ensures ∙ c.if-is_control_card.true) at c.requires.stage closes (takes_back c.close.new.self c.take_control_card.new.self c.args.card.now taken takes))
    c.take_control_card.ensures

pub returns-in_ok-push-in-Library : goal.returns-in_ok-push-in-Library
returns-in_ok-push-in-Library c = λ given taken cards few at.
    in_a_library given (put_back taken c.args.self.now) (put_back taken _) cards c.args.card.now c.in-Library.library c.push.new.self few c.requires.other (sym c.is_control_card.ensures ∙ c.if-is_control_card.false) at c.in-Library.is
    c.in_ok-push-in-Library.ensures refl refl refl refl refl refl refl

pub returns-in_default : goal.returns-in_default
returns-in_default c = λ given taken cards few at.
    let stray = c.count_stray.ensures in
    let front = front_alone c.args.self.now.stage c.requires.stage c.in_default.not-Library in
    in_no_library given (put_back taken c.args.self.now) (put_back taken c.count_stray.new.self) cards c.args.card.now few c.requires.other (sym c.is_control_card.ensures ∙ c.if-is_control_card.false) at front
    (ap (λ (r : Reading). r.given) stray) (ap (λ (r : Reading). r.accounts) stray) (ap (λ (r : Reading). r.shelf) stray) (ap (λ (r : Reading). taken ++ r.jobs) stray) (ap (λ (r : Reading). r.heads) stray) (ap (λ (r : Reading). r.stray) stray)
    (ap (λ (r : Reading). r.stage) stray ∙ front)
