-- The job card, as functions that give its parts.
use Rattle.std.specs.Prelude.{ℕ, List, [], ◌∷◌, ◌==◌, if◌then◌else◌, drop, Option, Some, None}
use Rattle.std.specs.List.{slice_split}
use Rattle.deck_reader.specs.declared.forms.JobCard.{JobCard}
use Rattle.deck_reader.specs.declared.options.Settings.{Settings}
use Rattle.deck_reader.specs.Forms.{is_head, name_of, stripped}
use Rattle.deck_reader.specs.Options.{settings_of, counted_settings}

-- a job card with these names and these settings
abbrev pub job_with : Option (List ℕ) → Option (List ℕ) → Option Settings → Option JobCard
job_with None account settings = None
job_with (Some name) None settings = None
job_with (Some name) (Some account) None = None
job_with (Some name) (Some account) (Some settings) = Some (record { name = name; account = account; settings = settings })

-- the fields of a job card: a name, an account's name and the settings
abbrev pub job_of_fields : List (List ℕ) → Option JobCard
job_of_fields [] = None
job_of_fields (name ∷ []) = None
job_of_fields (name ∷ account ∷ settings) = job_with (name_of (stripped name)) (name_of (stripped account)) (settings_of settings)

-- the fields with commas between them
abbrev pub fields : List ℕ → List (List ℕ)
fields bytes = slice_split (λ b. b == 44) bytes

-- the parts of a job card: the control word, and then fields
abbrev pub job_card : List ℕ → Option JobCard
job_card card = if is_head card then job_of_fields (fields (drop 4 card)) else None

-- a job card with numbers that stop at the largest of 32 bits
abbrev pub counted : JobCard → JobCard
counted job = record job { settings = counted_settings job.settings }
