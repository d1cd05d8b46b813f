-- How a plan is read.
use Rattle.std.specs.Prelude.{ℕ, ◌≡◌, Bool, true, false, List, [], ◌∷◌, ◌++◌}
use Rattle.listing_parts.specs.Lines.{is_line}
use Rattle.night_merge.specs.declared.plan.Line.{Line}
use Rattle.night_merge.specs.declared.plan.Line.TheVariants.{Night, Opened, Window, Listed, Stray}

-- Of bytes the front is taken, up to the first line feed, which is left out; or all, where there is no line feed. A line grows by it.
abbrev pub TakesFront : List ℕ → List ℕ → List ℕ → List ℕ → Bool → Type 0
TakesFront old new line grown true = (front : List ℕ) × (old ≡ front ++ 10 ∷ new) × (grown ≡ line ++ front) × (is_line front ≡ true)
TakesFront old new line grown false = (new ≡ []) × (grown ≡ line ++ old) × (is_line old ≡ true)

-- whether a line isn't one of accounts, or of jobs, and so ends those before it
abbrev pub ends_accounts : Line → Bool
ends_accounts (Night chains) = true
ends_accounts (Opened account) = false
ends_accounts (Window number) = true
ends_accounts (Listed entry) = true
ends_accounts (Stray count) = true

abbrev pub ends_entries : Line → Bool
ends_entries (Night chains) = true
ends_entries (Opened account) = true
ends_entries (Window number) = true
ends_entries (Listed entry) = false
ends_entries (Stray count) = true
