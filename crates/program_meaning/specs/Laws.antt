-- What every run keeps.
use Rattle.std.specs.Prelude.{◌≡◌, ◌≢◌, ⊤, ℕ, ◌+◌, ◌-◌, ◌<◌, ◌≤◌, max, List, length, take}
use Rattle.value_ops.specs.declared.places.Place.{Place}
use Rattle.output_editing.specs.Layout.{Piece}
use Rattle.output_editing.specs.Cuts.{AreCut}
use Rattle.program_meaning.specs.Phrases.{Phrase}
use Rattle.program_meaning.specs.State.{State, Outcome, on, jump, stop, Made, Setting, unfinished}
use Rattle.program_meaning.specs.Copying as copying
use Rattle.program_meaning.specs.Environments as environments
use Rattle.program_meaning.specs.Results.{outcome, state_of, begun_at, printed_lines}

-- what a run may do was bounded by enough
abbrev pub IsFinished : {P A : Type 0} → Outcome P A → Type 0
IsFinished (on a s) = ⊤
IsFinished (jump l s) = ⊤
IsFinished (stop y w s) = y ≢ unfinished

-- It is finished. Its steps only grow, to the limit at most where that isn't passed before, and no more statements are begun than steps are counted.
pub record KeepsItsCounts {P A : Type 0} (set : Setting) (s : State P) (r : Outcome P A) : Type 0 where
  pub finished : IsFinished r
  pub grown : s.steps ≤ (state_of r).steps
  pub steps : (state_of r).steps ≤ max set.steps s.steps
  pub begun : length (state_of r).begun + s.steps ≤ length s.begun + (state_of r).steps

-- So is every job from every state, by either meaning, where its bound is more than the steps that the limit leaves.
pub record BoundedRunsEnd : Type 0 where
  pub by_copying : (set : Setting) (n : ℕ) (job : copying.Job) (s : State copying.Closed) → set.steps - s.steps < n → KeepsItsCounts set s (copying.run set n job s)
  pub by_environments : (set : Setting) (n : ℕ) (job : environments.Job) (s : State environments.Bodied) → set.steps - s.steps < n → KeepsItsCounts set s (environments.run set n job s)

-- the first of the lines that these pieces are cut into
abbrev pub AreFirstOf : List (List ℕ) → ℕ → List Piece → Type 0
AreFirstOf lines most pieces = (all : List (List ℕ)) × AreCut pieces all × (lines ≡ take most all)

-- A run has a result. Its steps and its lines are within their limits, and no statement is begun more often than steps are counted. What is
-- printed are the first lines of what is put.
pub record KeepsItsLimits (set : Setting) (program : Phrase) : Type 0 where
  pub finished : IsFinished (outcome set program)
  pub steps : (state_of (outcome set program)).steps ≤ set.steps
  pub lines : length (printed_lines set (state_of (outcome set program))) ≤ set.lines
  pub printed : AreFirstOf (printed_lines set (state_of (outcome set program))) set.lines (state_of (outcome set program)).pieces
  pub begun : (statement : Place) → begun_at statement (state_of (outcome set program)).begun ≤ (state_of (outcome set program)).steps

abbrev pub RunsKeepTheirLimits : Type 0
RunsKeepTheirLimits = (set : Setting) (program : Phrase) → KeepsItsLimits set program

-- what goes on leaves as many live cells, the same depth and the same entries under way
abbrev pub IsBalanced : {P A : Type 0} → State P → Outcome P A → Type 0
IsBalanced s (on a t) = (t.cells ≡ s.cells) × (t.depth ≡ s.depth) × (t.active ≡ s.active)
IsBalanced s (jump l t) = ⊤
IsBalanced s (stop y w t) = ⊤

-- as much is held and under way as when the block was made
abbrev pub IsAsMade : {P : Type 0} → Made → State P → Type 0
IsAsMade b s = (s.cells ≡ b.cells) × (s.depth ≡ b.depth) × (s.active ≡ b.active)

-- a job may begin in every state, but for the items of a block, which go on where all is as when it was made
abbrev pub MayBegin : environments.Job → State environments.Bodied → Type 0
MayBegin (environments.items_job b w items e k) s = IsAsMade b s
MayBegin job s = ⊤

abbrev pub MayBeginCopied : copying.Job → State copying.Closed → Type 0
MayBeginCopied (copying.items_job b w items k) s = IsAsMade b s
MayBeginCopied job s = ⊤

-- Each phrase, or rest of one, that ends on its own is balanced, by either meaning.
pub record PhrasesAreBalanced : Type 0 where
  pub by_copying : (set : Setting) (n : ℕ) (job : copying.Job) (s : State copying.Closed) → MayBeginCopied job s → IsBalanced s (copying.run set n job s)
  pub by_environments : (set : Setting) (n : ℕ) (job : environments.Job) (s : State environments.Bodied) → MayBegin job s → IsBalanced s (environments.run set n job s)
