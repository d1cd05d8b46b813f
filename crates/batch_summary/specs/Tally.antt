-- Tallies of sections.
use Rattle.std.specs.Prelude.{ℕ, ◌+◌, ◌<◌, ◌^◌, Bool, true, false, List, count_by, map, sum_by, take, if◌then◌else◌}
use Rattle.std.specs.List.{enumerate_from}
use Rattle.batch_summary.specs.declared.tally.Entry.{Entry}
use Rattle.batch_summary.specs.declared.tally.Outcome.{Outcome}
use Rattle.batch_summary.specs.declared.tally.Outcome.TheVariants.{Normal, Fault, Limit, Diagnosed, Refused}
use Rattle.batch_summary.specs.declared.tally.Tally.{Tally}

abbrev pub is_normal : Outcome → Bool
is_normal Normal = true
is_normal _ = false

abbrev pub is_fault : Outcome → Bool
is_fault Fault = true
is_fault _ = false

abbrev pub is_limit : Outcome → Bool
is_limit Limit = true
is_limit _ = false

abbrev pub is_diagnosed : Outcome → Bool
is_diagnosed Diagnosed = true
is_diagnosed _ = false

abbrev pub is_refused : Outcome → Bool
is_refused Refused = true
is_refused _ = false

-- what these sections come to, behind this many bytes
abbrev pub tally_of : ℕ → List Entry → Tally
tally_of before sections = record {
  normal = count_by (λ e. is_normal e.outcome) sections;
  fault = count_by (λ e. is_fault e.outcome) sections;
  limit = count_by (λ e. is_limit e.outcome) sections;
  diagnosed = count_by (λ e. is_diagnosed e.outcome) sections;
  refused = count_by (λ e. is_refused e.outcome) sections;
  charges = sum_by (λ e. e.charge) sections;
  bytes = before + sum_by (λ e. e.bytes) sections;
}

-- what is counted of each element, by those before it
abbrev pub at_places : {X : Type 0} → (List X → X → Entry) → List X → List Entry
at_places f xs = map (λ p. f (take p.0 xs) p.1) (enumerate_from 0 xs)

abbrev pub with_one : ℕ → Bool → ℕ
with_one count is_one = count + (if is_one then 1 else 0)

-- a tally with a section more
abbrev pub tally_with : Tally → Entry → Tally
tally_with tally section = record {
  normal = with_one tally.normal (is_normal section.outcome);
  fault = with_one tally.fault (is_fault section.outcome);
  limit = with_one tally.limit (is_limit section.outcome);
  diagnosed = with_one tally.diagnosed (is_diagnosed section.outcome);
  refused = with_one tally.refused (is_refused section.outcome);
  charges = tally.charges + section.charge;
  bytes = tally.bytes + section.bytes;
}

-- each number fits its type
pub record Fits (tally : Tally) : Type 0 where
  pub normal : tally.normal < 2 ^ 32
  pub fault : tally.fault < 2 ^ 32
  pub limit : tally.limit < 2 ^ 32
  pub diagnosed : tally.diagnosed < 2 ^ 32
  pub refused : tally.refused < 2 ^ 32
  pub charges : tally.charges < 2 ^ 64
  pub bytes : tally.bytes < 2 ^ 64
