-- How a printer holds a page.
use Rattle.std.specs.Prelude.{◌≡◌, ℕ, ◌+◌, ◌≤◌, nat_lt, Bool, true, false, if◌then◌else◌, List, [], ◌∷◌, ◌++◌, length, Option, None, Some}
use Rattle.output_editing.specs.Layout.{fits, printed}
use Rattle.output_editing.specs.Page.{Page}

-- there is room for 500 lines, and the limit allows the closed ones and the open one
pub record Kept (lines : List (List ℕ)) (closed : ℕ) (open_line : Option (List ℕ)) (limit : ℕ) : Type 0 where
  pub room : length lines ≡ 500
  pub few : closed + length (printed open_line) ≤ limit
  pub most : limit ≤ 500

-- whether a line is open on which a text fits
abbrev pub takes : Option (List ℕ) → List ℕ → Bool
takes None text = false
takes (Some line) text = fits line text

-- a page on which a line is begun, where the limit allows one more
abbrev pub begun : Page → Page
begun page = if nat_lt (length page.lines) page.limit then record page { lines = page.lines ++ [] ∷ []; open_line = Some [] } else record page { open_line = None; is_full = true }

-- a page made ready for a text: as it is where the text fits on its open line, and else with a line begun
abbrev pub with_room : Page → List ℕ → Page
with_room page text = if takes page.open_line text then page else begun page
