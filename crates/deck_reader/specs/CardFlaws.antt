-- What flaws a card.
use Rattle.std.specs.Prelude.{ℕ, Bool, not, List, length, nat_lt}
use Rattle.std.specs.List.{list_all}
use Rattle.deck_reader.specs.Forms.{is_allowed}

-- over 80 bytes
abbrev pub is_long : List ℕ → Bool
is_long card = nat_lt 80 (length card)

-- with a byte that isn't from 32 to 126
abbrev pub is_foul : List ℕ → Bool
is_foul card = not (list_all is_allowed card)
