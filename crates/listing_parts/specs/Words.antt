-- What stands before and behind a blank.
use Rattle.std.specs.Prelude.{ℕ, ◌+◌, ◌==◌, not, List, take, drop}
use Rattle.std.specs.List.{prefix_len}

-- what stands before the first blank, or all
abbrev pub before_blank : List ℕ → List ℕ
before_blank text = take (prefix_len (λ b. not (b == 32)) text) text

-- what stands behind the first blank, or nothing
abbrev pub behind_blank : List ℕ → List ℕ
behind_blank text = drop (prefix_len (λ b. not (b == 32)) text + 1) text
