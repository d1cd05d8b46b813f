-- The sections of a window, joined from those of its parts.
use Rattle.std.specs.Prelude.{ℕ, ◌≡◌, ◌<◌, ◌+◌, ◌%◌, ◌==◌, List, [], ◌∷◌, ◌++◌, Option, Some, codes, decimal, length, if◌then◌else◌}
use Rattle.deck_reader.specs.declared.batch.Account.{Account}
use Rattle.deck_reader.specs.declared.batch.Flaw.{Flaw}
use Rattle.deck_reader.specs.Flaws.{flaw_number, flaw_text}
use Rattle.night_merge.specs.declared.plan.Entry.{Entry}
use Rattle.night_merge.specs.declared.plan.Entry.TheVariants.{Job, Refused}
use Rattle.night_merge.specs.declared.shelf.Part.{Part}
use Rattle.night_merge.specs.Closing.{IsLower}
use Rattle.night_merge.specs.Entries.{AreBelow, count_of}
use Rattle.night_merge.specs.Parts.{IsPart, part_at}
use Rattle.night_merge.specs.Texts.{chain_lines, numbered}

-- ---- sections

abbrev pub first_of : List (List ℕ) → List ℕ
first_of [] = []
first_of (rest ∷ rests) = rest

abbrev pub others_of : List (List ℕ) → List (List ℕ)
others_of [] = []
others_of (rest ∷ rests) = rests

-- what the section of a job that is refused for a flaw has behind its number
abbrev pub refused_rest : Flaw → List ℕ → List ℕ → List ℕ
refused_rest flaw name account_name =
    32 ∷ (name ++ 32 ∷ (account_name ++ (codes "\nREFUSED " ++ (decimal (flaw_number flaw) ++ (codes ": " ++ (flaw_text flaw ++ 10 ∷ []))))))

-- what the section of a job has behind its number, from what each chain has
abbrev pub rest_by : (ℕ → List (List ℕ)) → Entry → List ℕ
rest_by supply (Job chain) = first_of (supply chain)
rest_by supply (Refused flaw name account_name) = refused_rest flaw name account_name

-- what each chain has then
abbrev pub left_by : (ℕ → List (List ℕ)) → Entry → ℕ → List (List ℕ)
left_by supply (Job chain) c = if chain == c then others_of (supply c) else supply c
left_by supply (Refused flaw name account_name) c = supply c

-- the sections of these jobs, numbered from here
abbrev pub joined : ℕ → (ℕ → List (List ℕ)) → List Entry → List ℕ
joined number supply [] = []
joined number supply (entry ∷ entries) = numbered number (rest_by supply entry) ++ joined (number + 1) (left_by supply entry) entries

-- ---- a window

-- The listings of a window's parts, as far as they are there, have these behind their sections' numbers, and take the accounts of each chain from one balance to another. A
-- chain of which the window has no job has no part, and its accounts keep theirs.
pub record IsWindow (chains : ℕ) (accounts : List Account) (known : Part → Option (List ℕ)) (number : ℕ) (entries : List Entry)
    (rests : ℕ → List (List ℕ)) (before after : ℕ → ℕ) : Type 0 where
  pub below : AreBelow chains entries
  pub counted : (chain : ℕ) → chain < chains → length (rests chain) ≡ count_of chain entries
  pub parts : (chain : ℕ) (text : List ℕ) → chain < chains → 0 < count_of chain entries → known (part_at chain number) ≡ Some text
      → IsPart text (rests chain) (chain_lines chains chain before after 0 accounts)
  pub falls : IsLower (length accounts) after before
  pub stays : (account : ℕ) → account < length accounts → count_of (account % chains) entries ≡ 0 → after account ≡ before account
