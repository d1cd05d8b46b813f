-- Items with names: the first of each name, as many as there is room for.
use Rattle.std.specs.Prelude.{ℕ, Bool, ◌&&◌, not, List, [], ◌∷◌, ◌++◌, Option, Some, None, nat_lt, if◌then◌else◌, length, bytes_eq, filter}
use Rattle.std.specs.List.{list_any}

-- those of the items whose name no earlier one has
abbrev pub first_by_name : {A : Type 0} → (A → List ℕ) → List A → List A
first_by_name name [] = []
first_by_name name (x ∷ xs) = x ∷ filter (λ y. not (bytes_eq (name y) (name x))) (first_by_name name xs)

-- there is room for an item more, and none has this name
abbrev pub is_free : {A : Type 0} → (A → List ℕ) → ℕ → List A → List ℕ → Bool
is_free name most items x = nat_lt (length items) most && not (list_any (λ y. bytes_eq (name y) x) items)

-- an item more, where there is one, its name is free and there is room
abbrev pub with_one : {A : Type 0} → (A → List ℕ) → ℕ → List A → Option A → List A
with_one name most items None = items
with_one name most items (Some x) = if is_free name most items (name x) then items ++ x ∷ [] else items
