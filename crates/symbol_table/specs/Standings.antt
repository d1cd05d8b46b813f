-- What names stand for, as the contexts of the definitions have it.
use Rattle.std.specs.Prelude.{◌≡◌, ℕ, suc, ◌==◌, ◌-◌, ◌<◌, ◌≤◌, List, [], ◌∷◌, length, reverse, Option, Some, None, Bool, true, false, slice_index_or, slice_set}
use Rattle.std.specs.List.{All}
use Rattle.algolw_tree.specs.Standards.{StandardNames, standard_table}
use Rattle.stack_code.specs.declared.instructions.Source.{Source}
use Rattle.stack_code.specs.declared.instructions.Source.TheVariants as source
use Rattle.symbol_table.specs.declared.here.Here.{Here}
use Rattle.symbol_table.specs.declared.standings.Entry.{Entry}
use Rattle.symbol_table.specs.declared.standings.Standing.{Standing}
use Rattle.algolw_tree.specs.declared.standard.Standard.TheVariants as standard
use Rattle.symbol_table.specs.declared.standings.Standing.TheVariants as standing

-- ---- tables of names

-- the names that are declared, the newest first, each by its number
abbrev pub Names : Type 0
Names = List (ℕ × Standing)

-- what a name stands for: its newest declaration counts
abbrev pub standing_of : Names → ℕ → Standing
standing_of [] n = standing.Unknown
standing_of (x ∷ names) n = elim (x.0 == n) [ true ↦ x.1 | false ↦ standing_of names n ]

-- names of every deck, the first of which has this number
abbrev pub names_from : ℕ → StandardNames → Names
names_from n [] = []
names_from n (x ∷ names) = (n, standing.Standard x.1) ∷ names_from (suc n) names

-- what they stand for, one by one
abbrev pub standings_of : StandardNames → List Standing
standings_of [] = []
standings_of (x ∷ names) = standing.Standard x.1 ∷ standings_of names

-- the names of every deck; the first of them is the newest
abbrev pub every_name : Names
every_name = names_from 0 standard_table

abbrev pub standard_count : ℕ
standard_count = length standard_table

-- what names stand for one by one, and what those that are declared stood for before, the newest first, give what is declared
abbrev pub names_declared : List Standing → Names → Names → Names
names_declared now [] first = first
names_declared now (x ∷ before) first = (x.0, slice_index_or now x.0 standing.Unknown) ∷ names_declared (slice_set now x.0 x.1) before first

-- a table as it is seen: what is declared, and how many names there are
pub record TableView : Type 0 where
  pub names : Names
  pub count : ℕ

abbrev pub table_view : List Standing → Names → TableView
table_view now before = record { names = names_declared now (reverse before) every_name; count = length now }

-- what names stood for before any was declared
abbrev pub taken_back : List Standing → Names → List Standing
taken_back now [] = now
taken_back now (x ∷ before) = taken_back (slice_set now x.0 x.1) before

-- all that is declared has a number of the table, and before it names stood for what they do in every deck
pub record IsTable (now : List Standing) (before : Names) : Type 0 where
  pub standard : standard_count ≤ length now
  pub numbered : All (λ (x : ℕ × Standing). x.0 < length now) before
  pub first : (n : ℕ) → n < length now → slice_index_or (taken_back now (reverse before)) n standing.Unknown ≡ standing_of every_name n

-- ---- what stands for a name

-- the entry that it has, a procedure the first one of its text
abbrev pub entry_of : Standing → Option Entry
entry_of (standing.Variable t e) = Some e
entry_of (standing.NameFormal t e) = Some e
entry_of (standing.Control e) = Some e
entry_of (standing.Array t e) = Some e
entry_of (standing.ProcedureFormal t e) = Some e
entry_of (standing.Label e target) = Some e
entry_of (standing.Procedure x) = Some (record { level = x.level; position = 0 })
entry_of s = None

abbrev pub entry_source : Here → Option Entry → Option Source
entry_source here None = None
entry_source here (Some e) = Some (source.Entry (here.level - e.level) e.position)

-- what stands for it, from here
abbrev pub source_from : Here → Standing → Option Source
source_from here (standing.Procedure x) = Some (source.Head (here.level - x.level) x.target)
source_from here s = entry_source here (entry_of s)

-- a label isn't read
abbrev pub read_source : Here → Standing → Option Source
read_source here (standing.Label e target) = None
read_source here s = source_from here s

-- whether with whatever lists it is a variable
abbrev pub is_variable : Standing → Bool
is_variable (standing.Variable t e) = true
is_variable (standing.NameFormal t e) = true
is_variable (standing.Array t e) = true
is_variable (standing.Field c n t) = true
is_variable (standing.Standard (standard.Variable width)) = true
is_variable s = false
