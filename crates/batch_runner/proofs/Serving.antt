-- What is left of a listing behind its sections.
use Rattle.std.proofs.Common.{ℕ, ◌≡◌, ◌+◌, true, List, [], ◌++◌, Option, Some, None, length, sym, ap, subst, ◌∙◌, append-nil, arith, inl, inr}
use Rattle.std.specs.Io.KnownBytes.{Appends, Consumes, IsAtEnd}
use Rattle.deck_reader.specs.declared.batch.Account.{Account}
use Rattle.deck_reader.specs.Batch.{batch, batch_with, too_large}
use Rattle.deck_reader.proofs.Limits.{passes_more}
use Rattle.account_book.specs.BookView.{openings_of}
use Rattle.batch_io.specs.Causes.{Rose}
use Rattle.batch_summary.specs.declared.tally.Tally.{Tally}
use Rattle.batch_listing.specs.declared.audit.Audit.{Audit}
use Rattle.batch_listing.specs.Listing.{closing_lines, listing_with, sections}
use Rattle.batch_listing.specs.Tallies.{listing_tally, sections_tally}
use Rattle.batch_listing.specs.Texts.{heading, closing}
use Rattle.batch_listing.specs.Writing.{AppendsPrefix, WroteUpTo}
use Rattle.batch_listing.proofs.Written.{all_written, piece_more, prefix_more, prefix_written}
use Rattle.batch_intake.specs.declared.halt.Halt.{Halt}
use Rattle.batch_intake.specs.declared.halt.Halt.TheVariants.{NoMemory, ReadFault, WriteFault, TooLarge}
use Rattle.batch_runner.specs.Outcome.{Outside, IsCutShort, IsListed, HasCause}
use Rattle.batch_intake.specs.Halts.{IsTooLarge}
use Rattle.batch_runner.specs.Progress.{IsServed}
use Rattle.batch_runner.proofs.Progressing.{closing_of}
use Rattle.batch_runner.proofs.Summaries.{listing_bytes}

-- the closing lines are left
closing_left : (given : Option (List Account)) (start now : Outside) (audit : Audit) (stray : ℕ) (s : IsServed given start now audit stray) → WroteUpTo start.written now.written (listing_with given s.input) (closing_of (batch_with given s.input) ++ [])
closing_left given start now audit stray s =
    let done : List ℕ = heading ++ sections (openings_of (batch_with given s.input).accounts) (batch_with given s.input).jobs in
    record { done = done; wrote = s.wrote; whole = ap (λ (text : List ℕ). done ++ text) (append-nil (closing_of (batch_with given s.input))) }

-- the closing lines that the audit makes are those of the batch
pub closing_is : (given : Option (List Account)) (start now : Outside) (audit : Audit) (stray : ℕ) (s : IsServed given start now audit stray)
    → closing (closing_lines (openings_of audit.book.accounts) (batch_with given s.input).jobs audit.book.accounts) stray ≡ closing_of (batch_with given s.input)
closing_is given start now audit stray s =
    ap (λ (xs : List Account). closing (closing_lines (openings_of xs) (batch_with given s.input).jobs xs) stray) s.accounts
    ∙ ap (closing (closing_lines (openings_of (batch_with given s.input).accounts) (batch_with given s.input).jobs (batch_with given s.input).accounts)) s.stray_is

pub served_cut : (given : Option (List Account)) (start now : Outside) (audit : Audit) (stray : ℕ) → IsServed given start now audit stray → IsCutShort given start.left now.left start.written now.written
served_cut given start now audit stray s = record { input = s.input; read = s.read; wrote = prefix_written _ _ _ _ (closing_left given start now audit stray s) }

pub closing_cut : (given : Option (List Account)) (start now : Outside) (audit : Audit) (stray : ℕ) (s : IsServed given start now audit stray) (written : Option (List ℕ)) (text : List ℕ) → text ≡ closing_of (batch_with given s.input)
    → AppendsPrefix now.written written text → IsCutShort given start.left now.left start.written written
closing_cut given start now audit stray s written text is wrote = record {
  input = s.input;
  read = s.read;
  wrote = prefix_more _ _ _ _ _ _ (closing_left given start now audit stray s) (subst (λ (bytes : List ℕ). AppendsPrefix now.written written bytes) is wrote);
}

pub closing_done : (given : Option (List Account)) (start now : Outside) (audit : Audit) (stray : ℕ) (s : IsServed given start now audit stray) (written : Option (List ℕ)) (text : List ℕ) → text ≡ closing_of (batch_with given s.input)
    → Appends now.written written text → IsListed given start.left now.left start.written written audit
closing_done given start now audit stray s written text is wrote = record {
  input = s.input;
  read = s.read;
  to_end = s.to_end;
  fits = s.fits;
  accounts = s.accounts;
  behind = s.behind;
  wrote = all_written _ _ _ (piece_more _ _ _ _ _ _ (closing_left given start now audit stray s) (subst (λ (bytes : List ℕ). Appends now.written written bytes) is wrote));
}

-- ---- the cause of a halt

pub read_cause : (halt : Halt) (start now : Outside) → halt ≡ ReadFault → HasCause halt start now → Rose start.read_faults now.read_faults
read_cause NoMemory start now is cause = cc
read_cause ReadFault start now is cause = cause
read_cause WriteFault start now is cause = cc
read_cause TooLarge start now is cause = cc

pub write_cause : (halt : Halt) (start now : Outside) → halt ≡ WriteFault → HasCause halt start now → Rose start.write_faults now.write_faults
write_cause NoMemory start now is cause = cc
write_cause ReadFault start now is cause = cc
write_cause WriteFault start now is cause = cause
write_cause TooLarge start now is cause = cc

pub large_cause : (halt : Halt) (start now : Outside) → halt ≡ TooLarge → HasCause halt start now → IsTooLarge start.left now.left
large_cause NoMemory start now is cause = cc
large_cause ReadFault start now is cause = cc
large_cause WriteFault start now is cause = cc
large_cause TooLarge start now is cause = cause

-- a count of no faults hasn't risen
pub not_risen : Rose 0 0 → ⊥
not_risen h = omega (arith, h)

-- ---- a source that tells all its bytes

pub all_read : (bytes : List ℕ) (left : Option (List ℕ)) (input : List ℕ) → Consumes (Some bytes) left input → IsAtEnd left → bytes ≡ input
all_read bytes None input read end = absurd read
all_read bytes (Some rest) input read end = read ∙ ap (λ (xs : List ℕ). input ++ xs) end ∙ append-nil input

pub all_too_large : (bytes : List ℕ) (left : Option (List ℕ)) → IsTooLarge (Some bytes) left → too_large bytes ≡ true
all_too_large bytes None large = absurd large.read
all_too_large bytes (Some rest) large = elim large.large [
  | inl passed ↦ ap too_large large.read ∙ passes_more large.input rest passed
  | inr whole ↦ ap too_large (large.read ∙ ap (λ (xs : List ℕ). large.input ++ xs) whole.0 ∙ append-nil large.input) ∙ whole.1
]

pub tally_is : (start now : Outside) (audit : Audit) (stray : ℕ) (s : IsServed None start now audit stray) (bytes text : List ℕ) → start.left ≡ Some bytes → text ≡ closing_of (batch s.input)
    → record audit.tally { bytes = audit.tally.bytes + length text } ≡ listing_tally (batch bytes)
tally_is start now audit stray s bytes text left is =
    let b = batch s.input in
    let tally : Tally = sections_tally (openings_of b.accounts) b.jobs in
    let whole : bytes ≡ s.input = all_read bytes now.left s.input (subst (λ (l : Option (List ℕ)). Consumes l now.left s.input) left s.read) s.to_end in
    ap (λ (t : Tally). record t { bytes = t.bytes + length text }) s.tally
    ∙ ap (λ (n : ℕ). record tally { bytes = n }) (ap (λ (xs : List ℕ). tally.bytes + length xs) is ∙ listing_bytes b)
    ∙ ap (λ (xs : List ℕ). listing_tally (batch xs)) (sym whole)
