-- A night, joined by its plan from the listings of its parts.
use Rattle.std.specs.Prelude.{ℕ, ◌≡◌, ◌≤◌, ◌<◌, ◌+◌, ◌-◌, ◌^◌, ⊤, List, [], ◌∷◌, ◌++◌, Option, Some, length, slice_get}
use Rattle.deck_reader.specs.declared.batch.Account.{Account}
use Rattle.night_merge.specs.declared.plan.Entry.{Entry}
use Rattle.night_merge.specs.declared.shelf.Part.{Part}
use Rattle.night_merge.specs.Joining.{IsWindow, joined}
use Rattle.night_merge.specs.Plan.{AreListed, AreOpened, Plan}
use Rattle.night_merge.specs.Texts.{closing, closing_lines, heading}

-- the sections of these windows, the first of which has this number, where its first job has that one
abbrev pub windows_joined : ℕ → ℕ → (ℕ → ℕ → List (List ℕ)) → List (List Entry) → List ℕ
windows_joined number first rests [] = []
windows_joined number first rests (entries ∷ windows) =
    joined first (rests number) entries ++ windows_joined (number + 1) (first + length entries) rests windows

-- the listing of a night whose accounts are left so much
abbrev pub night_text : Plan → (ℕ → ℕ → List (List ℕ)) → (ℕ → ℕ) → List ℕ
night_text plan rests left = heading ++ (windows_joined 1 1 rests plan.windows ++ closing (closing_lines left 0 plan.accounts) plan.stray)

-- Windows, the first of which has this number. Of each, the listings of its parts have these behind their sections' numbers, and take the accounts from what they have before
-- it to what they have before the next one.
abbrev pub AreWindows : ℕ → List Account → (Part → Option (List ℕ)) → (ℕ → ℕ → List (List ℕ)) → (ℕ → ℕ → ℕ) → ℕ → List (List Entry) → Type 0
AreWindows chains accounts known rests balances number [] = ⊤
AreWindows chains accounts known rests balances number (entries ∷ windows) =
    AreListed entries × (length entries ≤ 2000) × IsWindow chains accounts known number entries (rests number) (balances number) (balances (number + 1))
    × AreWindows chains accounts known rests balances (number + 1) windows

-- A night of which the plan tells. The accounts have what they open with before its first window.
pub record IsNight (plan : Plan) (known : Part → Option (List ℕ)) (rests : ℕ → ℕ → List (List ℕ)) (balances : ℕ → ℕ → ℕ) : Type 0 where
  pub some_chain : 0 < plan.chains
  pub few_chains : plan.chains < 2 ^ 32
  pub opened : AreOpened plan.accounts
  pub few_accounts : length plan.accounts < 2 ^ 32 - 1
  pub few_windows : length plan.windows < 2 ^ 32 - 2
  pub few_stray : plan.stray < 2 ^ 64
  pub opens : (number : ℕ) (account : Account) → slice_get plan.accounts number ≡ Some account → balances 1 number ≡ account.opening
  pub windows : AreWindows plan.chains plan.accounts known rests balances 1 plan.windows

-- what each account has in the end, by its number
abbrev pub left_in : Plan → (ℕ → ℕ → ℕ) → ℕ → ℕ
left_in plan balances = balances (1 + length plan.windows)
