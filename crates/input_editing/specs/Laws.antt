-- What a user of the data may rely on.
use Rattle.std.specs.Prelude.{◌≡◌, ◌↔◌, ◌⊎◌, ℕ, ◌+◌, ◌*◌, ◌≤◌, List, ◌∷◌, ◌++◌, length, drop, Ok, Err}
use Rattle.short_text.specs.Blanks.{blanks}
use Rattle.value_ops.specs.Strings.{filled}
use Rattle.value_ops.specs.declared.faults.Fault.{Fault}
use Rattle.value_ops.specs.declared.faults.Fault.TheVariants.{NoDataLeft, DatumIllFormed}
use Rattle.value_ops.specs.declared.values.SimpleType.{SimpleType}
use Rattle.value_ops.specs.declared.values.Value.{Value}
use Rattle.input_editing.specs.Columns.{columns, card_end, card_read}
use Rattle.input_editing.specs.Scanning.{Scans, scanned}

-- only blanks are left
abbrev pub IsSpent : List (List ℕ) → ℕ → Type 0
IsSpent cards from = (n : ℕ) × (drop from (columns cards) ≡ blanks n)

-- scanning gives a value exactly where it finds one, which is then the only one; no data are left exactly where only blanks are;
-- a datum is ill formed exactly where something else is left and no value is found; and there is no other fault
pub record IsExact (cards : List (List ℕ)) (from : ℕ) (kind : SimpleType) : Type 0 where
  pub found : (value : Value) (to : ℕ) → (scanned cards from kind ≡ Ok (value, to)) ↔ Scans cards from kind value to
  pub one : (a b : Value) (m n : ℕ) → Scans cards from kind a m → Scans cards from kind b n → (a ≡ b) × (m ≡ n)
  pub no_data : (scanned cards from kind ≡ Err NoDataLeft) ↔ IsSpent cards from
  pub ill_formed : (scanned cards from kind ≡ Err DatumIllFormed) ↔ ((IsSpent cards from → ⊥) × ((value : Value) (to : ℕ) → Scans cards from kind value to → ⊥))
  pub no_other : (fault : Fault) → scanned cards from kind ≡ Err fault → (fault ≡ NoDataLeft) ⊎ (fault ≡ DatumIllFormed)

abbrev pub ScanningIsExact : Type 0
ScanningIsExact = (cards : List (List ℕ)) (from : ℕ) (kind : SimpleType) → IsExact cards from kind

-- a card of at most 80 characters is read filled, from any place on the card before it or at that card's end; behind the last
-- card none is left
pub record AreReadWhole : Type 0 where
  pub card : (before : List (List ℕ)) (card : List ℕ) (behind : List (List ℕ)) (place : ℕ) → length card ≤ 80 → card_end place ≡ 80 * length before → card_read (before ++ card ∷ behind) place ≡ Ok (filled 80 card, 80 * length before + 80)
  pub none : (cards : List (List ℕ)) (place : ℕ) → 80 * length cards ≤ card_end place → card_read cards place ≡ Err NoDataLeft
