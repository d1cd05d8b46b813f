-- The lines of a text, the last one first.
use Rattle.std.specs.Prelude.{ℕ, ◌≡◌, ◌==◌, Bool, true, not, List, [], ◌∷◌, ◌++◌}
use Rattle.std.specs.List.{list_all}

-- bytes without a line feed
abbrev pub is_line : List ℕ → Bool
is_line bytes = list_all (λ b. not (b == 10)) bytes

-- the text of these lines, each ended by a line feed, where the last one stands first
abbrev pub text_up : List (List ℕ) → List ℕ
text_up [] = []
text_up (line ∷ up) = text_up up ++ line ++ 10 ∷ []

-- a text that has these lines, the last one first
pub record IsUpward (text : List ℕ) (lines : List (List ℕ)) : Type 0 where
  pub whole : text ≡ text_up lines
  pub each : list_all is_line lines ≡ true
