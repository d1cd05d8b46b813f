-- What a window that isn't filed yet stands for.
use Rattle.std.specs.Prelude.{ℕ, ◌≡◌, ◌<◌, List, [], ◌++◌, Option, flat_map, length, map, slice_index_or}
use Rattle.night_shares.specs.declared.window.Window.{Window}
use Rattle.night_shares.specs.Filing.{Files, Filing}
use Rattle.night_shares.specs.Jobs.{NightJob}
use Rattle.night_shares.specs.Plan.{job_row}
use Rattle.night_shares.specs.Windows.{bytes_of, jobs_of_chain, part_text}

-- the texts of the parts
abbrev pub part_texts : Window → List (List ℕ)
part_texts window = map (λ p. p.items) window.parts.items

-- a window of so many chains stands for these jobs, behind these libraries
pub record IsWindow (chains : ℕ) (libraries : List ℕ) (number : ℕ) (jobs : List NightJob) (window : Window) : Type 0 where
  pub number_is : window.number ≡ number
  pub count_is : window.jobs ≡ length jobs
  pub bytes_are : window.bytes ≡ bytes_of jobs
  pub many : length window.parts.items ≡ chains
  pub parts_are : (chain : ℕ) → chain < chains → slice_index_or (part_texts window) chain [] ≡ part_text libraries (jobs_of_chain chains chain jobs)
  pub rows_are : window.rows.items ≡ flat_map (job_row chains) (map (λ j. j.job) jobs)

-- some of these were filed, the first ones
pub record FilesFirst (before now : Option (List Filing)) (all : List Filing) : Type 0 where
  pub done : List Filing
  pub rest : List Filing
  pub whole : all ≡ done ++ rest
  pub filed : Files before now done
