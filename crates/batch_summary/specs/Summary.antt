-- The summary of a listing.
use Rattle.std.specs.Prelude.{ℕ, List, [], ◌∷◌, ◌++◌, codes, decimal}
use Rattle.batch_summary.specs.declared.tally.Tally.{Tally}

-- a line with a number behind a text
abbrev pub entry : List ℕ → ℕ → List ℕ
entry text number = text ++ (decimal number ++ 10 ∷ [])

-- what the batch was made from
abbrev pub heading : ℕ → ℕ → List ℕ
heading seed jobs = codes "MADE " ++ (decimal seed ++ entry (codes " JOBS ") jobs)

abbrev pub summary : ℕ → ℕ → Tally → List ℕ
summary seed jobs tally = heading seed jobs
    ++ (entry (codes "NORMAL ") tally.normal
    ++ (entry (codes "FAULT ") tally.fault
    ++ (entry (codes "LIMIT ") tally.limit
    ++ (entry (codes "DIAGNOSED ") tally.diagnosed
    ++ (entry (codes "REFUSED ") tally.refused
    ++ (entry (codes "CHARGES ") tally.charges
    ++ entry (codes "LISTING BYTES ") tally.bytes))))))
