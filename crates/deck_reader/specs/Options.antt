-- The options of a job card: a table of them, and what fields give.
use Rattle.std.specs.Prelude.{ℕ, Bool, ◌&&◌, nat_le, List, [], ◌∷◌, codes, bytes_eq, Option, Some, None, unwrap_or}
use Rattle.std.specs.List.{find, fold}
use Rattle.std.specs.Option.{option_map, option_and_then}
use Rattle.deck_reader.specs.declared.options.JobOption.{JobOption}
use Rattle.deck_reader.specs.declared.options.JobOption.TheVariants.{Steps, Lines, Library}
use Rattle.deck_reader.specs.declared.options.Settings.{Settings}
use Rattle.deck_reader.specs.Forms.{folded, stripped, parted, name_of, number_of, in_32_bits}
use Rattle.deck_reader.specs.Texts.{IsName, IsNumber}

-- what an option gives
abbrev pub Value : JobOption → Type 0
Value Steps = ℕ
Value Lines = ℕ
Value Library = List ℕ

-- a row of the table: the option's word, how a text is read as its value, when a text is that value, and the field of the settings that it sets
pub record Row (V : Type 0) : Type 1 where
  pub word : List ℕ
  pub value_of : List ℕ → Option V
  pub Is : V → List ℕ → Type 0
  pub held : Settings → Option V
  pub with_value : Settings → V → Settings

-- the table
abbrev pub row : (option : JobOption) → Row (Value option)
row Steps = record { word = codes "STEPS"; value_of = number_of; Is = IsNumber; held = λ s. s.steps; with_value = λ s n. record s { steps = Some n } }
row Lines = record { word = codes "LINES"; value_of = number_of; Is = IsNumber; held = λ s. s.lines; with_value = λ s n. record s { lines = Some n } }
row Library = record { word = codes "LIB"; value_of = name_of; Is = IsName; held = λ s. s.library; with_value = λ s x. record s { library = Some x } }

-- the options that there are
abbrev pub options : List JobOption
options = Steps ∷ Lines ∷ Library ∷ []

-- where no option is given
abbrev pub unset : Settings
unset = record { steps = None; lines = None; library = None }

-- the most steps of a job: 10,000 where its card gives none
abbrev pub steps_of : Settings → ℕ
steps_of settings = unwrap_or settings.steps 10000

-- the most lines of a job: 100 where its card gives none
abbrev pub lines_of : Settings → ℕ
lines_of settings = unwrap_or settings.lines 100

-- from 1 to the most
abbrev pub is_up_to : ℕ → ℕ → Bool
is_up_to most n = nat_le 1 n && nat_le n most

-- 1 to 10,000,000 steps and 1 to 500 lines
abbrev pub is_in_range : Settings → Bool
is_in_range settings = is_up_to 10000000 (steps_of settings) && is_up_to 500 (lines_of settings)

-- the settings with numbers that stop at the largest of 32 bits
abbrev pub counted_settings : Settings → Settings
counted_settings settings = record { steps = option_map in_32_bits settings.steps; lines = option_map in_32_bits settings.lines; library = settings.library }

-- the option that this word names, in either case of letters
abbrev pub option_of : List ℕ → Option JobOption
option_of word = find (λ o. bytes_eq (folded word) (row o).word) options

-- what is given, unless there is something by now
abbrev pub once : {V : Type 0} → Option V → Option V → Option V
once None given = given
once (Some held) given = None

-- settings with the value that this text gives to an option that they haven't
abbrev pub with_option : Settings → List ℕ → JobOption → Option Settings
with_option settings text option = option_map ((row option).with_value settings) (once ((row option).held settings) ((row option).value_of text))

-- settings with what a field gives, by what stands before and behind its equals sign
abbrev pub with_parts : Settings → Option (List ℕ × List ℕ) → Option Settings
with_parts settings None = None
with_parts settings (Some (word, text)) = option_and_then (with_option settings (stripped text)) (option_of (stripped word))

-- settings with what a field gives: none where it names no option, or one that they have, or gives no value of it
abbrev pub with_field : List ℕ → Settings → Option Settings
with_field field settings = with_parts settings (parted 61 field)

-- what the fields of a job card give
abbrev pub settings_of : List (List ℕ) → Option Settings
settings_of fields = fold (λ given field. option_and_then (with_field field) given) (Some unset) fields
