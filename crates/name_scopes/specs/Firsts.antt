-- Where among names the first of each stands, and what a map of these holds to.
use Rattle.std.specs.HashMap.{HashMap, get}
use Rattle.std.specs.Option.{option_map}
use Rattle.std.specs.Prelude.{◌≡◌, ◌≤◌, ℕ, suc, List, [], ◌∷◌, Option, Some, None, true, false, length, map}
use denote.Ref.{Bor}
use Rattle.std.specs.Str.{bytes_eq}
use Rattle.algolw_tree.specs.Tree.{Placed}

-- names that stand elsewhere
abbrev pub lent : List (Bor Placed) → List Placed
lent xs = map (λ (x : Bor Placed). x.now) xs

-- where among names that are placed the first of this name stands
abbrev pub first_of : List Placed → List ℕ → Option ℕ
first_of [] x = None
first_of (y ∷ ys) x = elim (bytes_eq y.0 x) [ true ↦ Some 0 | false ↦ option_map suc (first_of ys x) ]

-- where among names each stands first
pub record Firsts {S : Type 0} (names : List Placed) (first : HashMap (List ℕ) ℕ S) : Type 0 where
  pub at : (x : List ℕ) → get bytes_eq first x ≡ first_of names x

-- what a scope knows of its names: they are few, or it is where each stands first
abbrev pub FirstsOf : {S : Type 0} → List Placed → Option (HashMap (List ℕ) ℕ S) → Type 0
FirstsOf names None = length names ≤ 8
FirstsOf names (Some first) = Firsts names first
