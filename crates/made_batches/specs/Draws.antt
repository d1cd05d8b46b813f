-- A linear congruential generator.
use Rattle.std.specs.Prelude.{ℕ, ◌+◌, ◌*◌, ◌/◌, ◌%◌}
use Rattle.std.specs.Fn.{iterate}

-- the number behind a number
abbrev pub next : ℕ → ℕ
next x = (x * 1103515245 + 12345) % 2147483648

-- the k-th draw from a seed, counted from 1: the k-th number without its 16 low bits
abbrev pub draw : ℕ → ℕ → ℕ
draw seed k = iterate next k seed / 65536
