-- The progress of a batch goes on and on.
use Rattle.batch_runner.specs.Progress.{Progress, GoesOn}

pub goes_nowhere : (p : Progress) → GoesOn p p
goes_nowhere p = record { stands = λ given start h. h }

pub goes_further : (p q r : Progress) → GoesOn p q → GoesOn q r → GoesOn p r
goes_further p q r a b = record { stands = λ given start h. b.stands given start (a.stands given start h) }
