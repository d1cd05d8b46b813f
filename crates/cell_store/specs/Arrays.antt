-- Arrays: dimensions with their bounds, and where an element stands.
use Rattle.std.specs.Prelude.{ℕ, ◌+◌, ◌*◌, ℤ, pos, negsuc, ◌+ℤ◌, ◌-ℤ◌, int_le, List, [], ◌∷◌, map, Option, Some, None, Bool, true, ◌&&◌, nat_lt, if◌then◌else◌, Result, Ok, Err}
use Rattle.value_ops.specs.declared.faults.Fault.{Fault}
use Rattle.value_ops.specs.declared.faults.Fault.TheVariants.{SubscriptOutsideBounds}
use Rattle.value_ops.specs.declared.values.SimpleType.{SimpleType}
use Rattle.cell_store.specs.declared.dimension.Dimension.{Dimension}

-- an array: the type of its elements, its dimensions, and the cell of the first of its elements
pub record Array : Type 0 where
  pub kind : SimpleType
  pub dimensions : List Dimension
  pub first : ℕ

-- a dimension with these bounds, of which nothing is given
abbrev pub dimension : ℤ × ℤ → Dimension
dimension bounds = record { lower = bounds.0; upper = bounds.1; given = None }

-- an integer, and 0 in place of one below 0
abbrev pub at_least_zero : ℤ → ℕ
at_least_zero (pos n) = n
at_least_zero (negsuc n) = 0

-- how many subscripts are within the bounds: none where the upper is below the lower
abbrev pub extent : Dimension → ℕ
extent d = at_least_zero (d.upper -ℤ d.lower +ℤ pos 1)

-- how many elements there are
abbrev pub elements : List Dimension → ℕ
elements [] = 1
elements (d ∷ ds) = extent d * elements ds

-- ---- subscripts

-- the subscript of a dimension: what is given of it, or else the next of these
abbrev pub chosen : Option ℤ → List (Option ℤ) → Option ℤ
chosen (Some i) more = Some i
chosen None [] = None
chosen None (i ∷ more) = i

-- those that are left for the dimensions behind it
abbrev pub left_of : Option ℤ → List (Option ℤ) → List (Option ℤ)
left_of (Some i) more = more
left_of None [] = []
left_of None (i ∷ more) = more

-- the dimensions of which nothing is given get these subscripts, in order
abbrev pub filled : List Dimension → List (Option ℤ) → List Dimension
filled [] more = []
filled (d ∷ ds) more = record d { given = chosen d.given more } ∷ filled ds (left_of d.given more)

-- a subscript is within the bounds of its dimension, where it is given
abbrev pub is_within : Dimension → Option ℤ → Bool
is_within d subscript = elim subscript [ None ↦ true | Some i ↦ int_le d.lower i && int_le i d.upper ]

abbrev pub all_within : List Dimension → Bool
all_within [] = true
all_within (d ∷ ds) = is_within d d.given && all_within ds

-- how many subscripts of its dimension are below one
abbrev pub place : Dimension → Option ℤ → ℕ
place d subscript = elim subscript [ None ↦ 0 | Some i ↦ at_least_zero (i -ℤ d.lower) ]

-- how many elements stand in front of one
abbrev pub offset : List Dimension → ℕ
offset [] = 0
offset (d ∷ ds) = place d d.given * elements ds + offset ds

-- the cell of an element that the array has
abbrev pub element : Array → List Dimension → Option ℕ
element a ds = if nat_lt (offset ds) (elements ds) then Some (a.first + offset ds) else None

-- what is found of an array by subscripts: F3 where one is outside its bounds
abbrev pub subscripted : {A : Type 0} → Array → List (Option ℤ) → (List Dimension → A) → Result A Fault
subscripted a subscripts found =
    let ds = filled a.dimensions subscripts in
    if all_within ds then Ok (found ds) else Err SubscriptOutsideBounds

abbrev pub index_of : Array → List ℤ → Result (Option ℕ) Fault
index_of a subscripts = subscripted a (map (λ i. Some i) subscripts) (element a)

abbrev pub subarray_of : Array → List (Option ℤ) → Result Array Fault
subarray_of a subscripts = subscripted a subscripts (λ ds. record a { dimensions = ds })
