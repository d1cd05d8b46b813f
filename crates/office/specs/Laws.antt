-- What holds of every answer to a decision.
use Rattle.std.specs.Prelude.{◌≡◌}
use Rattle.office.specs.declared.answers.Admitted.{Admitted}
use Rattle.office.specs.Answers.{Answers, decided_as, decision}
use Rattle.office.specs.Register.{RegisterView}
use Rattle.office.specs.RegisterStands.{RegisterStands}

-- each answer comes exactly where the next undecided job, its account and nothing else call for it, but that the queue tells whether one that is covered is accepted or finds no room
abbrev pub AnswersAreExact : Type 0
AnswersAreExact = (r : RegisterView) (answer : Admitted) → RegisterStands r → Answers r answer → decided_as answer ≡ decision r
