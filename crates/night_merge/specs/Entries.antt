-- Which of a window's jobs are in which chain, by the plan.
use Rattle.std.specs.Prelude.{ℕ, ◌<◌, ◌+◌, ◌==◌, Bool, false, List, [], ◌∷◌, ⊤, if◌then◌else◌}
use Rattle.night_merge.specs.declared.plan.Entry.{Entry}
use Rattle.night_merge.specs.declared.plan.Entry.TheVariants.{Job, Refused}

-- whether a job is in this chain
abbrev pub is_in : ℕ → Entry → Bool
is_in chain (Job own) = own == chain
is_in chain (Refused flaw name account_name) = false

-- how many of these jobs are
abbrev pub count_of : ℕ → List Entry → ℕ
count_of chain [] = 0
count_of chain (entry ∷ entries) = if is_in chain entry then count_of chain entries + 1 else count_of chain entries

-- whether each job that is in a chain is in one below this
abbrev pub is_below : ℕ → Entry → Type 0
is_below chains (Job chain) = chain < chains
is_below chains (Refused flaw name account_name) = ⊤

abbrev pub AreBelow : ℕ → List Entry → Type 0
AreBelow chains [] = ⊤
AreBelow chains (entry ∷ entries) = is_below chains entry × AreBelow chains entries
