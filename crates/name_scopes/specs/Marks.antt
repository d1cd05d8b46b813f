-- The marks of names, by which most scopes are passed over where a name is looked for.
use Rattle.std.specs.Prelude.{◌≡◌, ℕ, ◌+◌, ◌-◌, ◌*◌, ◌/◌, ◌%◌, List, Bool, false, None, length, slice_index_or}
use Rattle.algolw_tree.specs.Tree.{Placed}
use Rattle.name_scopes.specs.Firsts.{first_of}

-- the mark of a name: a number that tells most names apart, of its length and of its first, middle and last character
abbrev pub mark_of : List ℕ → ℕ
mark_of x = (4 * slice_index_or x 0 0 + slice_index_or x (length x - 1) 0 + 10 * slice_index_or x (length x / 2) 0 + 16 * (length x % 4)) % 64

-- no name with this mark is declared
pub record Unmarked (names : List Placed) (mark : ℕ) : Type 0 where
  pub none : (x : List ℕ) → mark_of x ≡ mark → first_of names x ≡ None

-- each name that is declared has its mark set
pub record Marked (names : List Placed) (marks : List Bool) : Type 0 where
  pub unset : (x : List ℕ) → slice_index_or marks (mark_of x) false ≡ false → first_of names x ≡ None
