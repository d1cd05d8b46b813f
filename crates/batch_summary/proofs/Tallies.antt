-- A tally with a section more.
use Rattle.std.proofs.Common.{◌≡◌, refl, ℕ, ◌+◌, Bool, List, [], ◌∷◌, ◌++◌, count_by, cond, arith}
use Rattle.std.specs.Prelude.{sum_by}
use Rattle.std.proofs.lemmas.List.Sums.{sum_by-append}
use Rattle.batch_summary.specs.declared.tally.Entry.{Entry}
use Rattle.batch_summary.specs.declared.tally.Outcome.{Outcome}
use Rattle.batch_summary.specs.Tally.{is_diagnosed, is_fault, is_limit, is_normal, is_refused, tally_of, tally_with}

sum_more : (f : Entry → ℕ) (sections : List Entry) (section : Entry) → sum_by f (sections ++ section ∷ []) ≡ sum_by f sections + f section
sum_more f sections section = omega (arith, sum_by-append f sections (section ∷ []))

count_more : (is : Outcome → Bool) (sections : List Entry) (section : Entry)
    → count_by (λ e. is e.outcome) (sections ++ section ∷ []) ≡ count_by (λ e. is e.outcome) sections + cond (is section.outcome) 1 0
count_more is sections section = sum_more (λ e. cond (is e.outcome) 1 0) sections section

bytes_more : (before : ℕ) (sections : List Entry) (section : Entry)
    → before + sum_by (λ e. e.bytes) (sections ++ section ∷ []) ≡ (before + sum_by (λ e. e.bytes) sections) + section.bytes
bytes_more before sections section = omega (arith, sum_more (λ e. e.bytes) sections section)

pub tally_more : (before : ℕ) (sections : List Entry) (section : Entry) → tally_with (tally_of before sections) section ≡ tally_of before (sections ++ section ∷ [])
tally_more before sections section =
    rw (
      count_more is_normal sections section,
      count_more is_fault sections section,
      count_more is_limit sections section,
      count_more is_diagnosed sections section,
      count_more is_refused sections section,
      sum_more (λ e. e.charge) sections section,
      bytes_more before sections section,
    ) refl
