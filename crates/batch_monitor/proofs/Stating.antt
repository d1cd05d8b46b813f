-- How a run ends that states an account.
use Rattle.std.proofs.Common.{◌≡◌, ◌⊎◌, ℕ, Bool, true, false, List, Option, Some, None, Result, Err, OnOk, IfErr, IfSome, refl, ap, sym, subst, inl, inr, ◌∙◌}
use Rattle.std.specs.Io.KnownBytes.{Appends}
use Rattle.batch_intake.specs.Halts.{IsTooLarge}
use Rattle.batch_intake.specs.declared.halt.Halt.{Halt}
use Rattle.batch_intake.specs.declared.halt.Halt.TheVariants as halts
use Rattle.deck_reader.specs.Batch.{too_large}
use Rattle.batch_listing.specs.Writing.{AppendsPrefix}
use Rattle.batch_runner.specs.Outcome.{IsStated}
use Rattle.batch_monitor.specs.declared.top.Status.{Status}
use Rattle.batch_monitor.specs.declared.top.Status.TheVariants as statuses
use Rattle.batch_monitor.specs.Stated.{EndsBy, HasStated, WroteStatement, WroteStatementInPart}
use Rattle.batch_monitor.specs.Status.{status_after}
use Rattle.batch_monitor.proofs.Endings.{accounts_after, balances_after, done_after, large_after, read_after, words_after, write_after}
use Rattle.batch_monitor.proofs.Known.{all_read, all_too_large}

-- ---- what was written

pub wrote_whole : (name : List ℕ) (left left' written written' : Option (List ℕ)) (text : List ℕ) → IsStated name left left' text → Appends written written' text → WroteStatement name left left' written written'
wrote_whole name left left' written written' text stated wrote =
    record { input = stated.input; read = stated.read; to_end = stated.to_end; fits = stated.fits; wrote = subst (Appends written written') stated.states wrote }

pub wrote_in_part : (name : List ℕ) (left left' written written' : Option (List ℕ)) (text : List ℕ) → IsStated name left left' text → AppendsPrefix written written' text → WroteStatementInPart name left left' written written'
wrote_in_part name left left' written written' text stated wrote =
    record { input = stated.input; read = stated.read; to_end = stated.to_end; fits = stated.fits; wrote = subst (AppendsPrefix written written') stated.states wrote }

-- ---- how it ended

pub stated_after : {T Untouched : Type 0} (r : Result T Halt) (status : Status) (one name : List ℕ) (left left' written written' : Option (List ℕ)) → one ≡ name → status ≡ status_after r
    → OnOk r (WroteStatement one left left' written written') → IfErr r (λ halt. Untouched ⊎ ((halt ≡ halts.WriteFault) × WroteStatementInPart one left left' written written'))
    → HasStated name left left' written written' Untouched status
stated_after {T} {Untouched} r status one name left left' written written' same is done cut =
    subst (λ (n : List ℕ). HasStated n left left' written written' Untouched status) same (record { done = done_after r status is done; cut = balances_after r status is cut (λ p. p) })

-- where nothing was written
pub nothing_stated : (name : List ℕ) (left written : Option (List ℕ)) {Untouched : Type 0} → Untouched → HasStated name left left written written Untouched statuses.NoMemory
nothing_stated name left written same = record { done = λ d. cc; cut = λ n. inl same }

-- where no read and no write failed
ends_so : {RoseCards RoseText : Type 0} (name bytes : List ℕ) (left' written written' : Option (List ℕ)) (status : Status) → (status ≡ statuses.BadWords → ⊥) → (status ≡ statuses.BadAccounts → ⊥)
    → (status ≡ statuses.Done → WroteStatement name (Some bytes) left' written written') → (status ≡ statuses.ReadFault → RoseCards) → (status ≡ statuses.WriteFault → RoseText)
    → (status ≡ statuses.TooLarge → IsTooLarge (Some bytes) left') → (RoseCards → ⊥) → (RoseText → ⊥) → EndsBy (too_large bytes) status
ends_so name bytes left' written written' status words accounts done read write large cards text = go (too_large bytes) refl status refl
  where
    go : (b : Bool) → too_large bytes ≡ b → (s : Status) → status ≡ s → EndsBy b s
    go true past statuses.Done is =
        let d = done is in
        let fits : true ≡ false = sym past ∙ ap too_large (all_read bytes left' d.input d.read d.to_end) ∙ d.fits in
        cc
    go false fits statuses.Done is = inl refl
    go true past statuses.TooLarge is = inl refl
    go false fits statuses.TooLarge is = let past : false ≡ true = sym fits ∙ all_too_large bytes left' (large is) in cc
    go true past statuses.NoMemory is = inr refl
    go false fits statuses.NoMemory is = inr refl
    go b past statuses.BadWords is = absurd (words is)
    go b past statuses.BadAccounts is = absurd (accounts is)
    go b past statuses.ReadFault is = absurd (cards (read is))
    go b past statuses.WriteFault is = absurd (text (write is))

pub ends_after : {T RoseCards RoseText : Type 0} (r : Result T Halt) (status : Status) (name : List ℕ) (left left' written written' : Option (List ℕ)) → status ≡ status_after r
    → OnOk r (WroteStatement name left left' written written') → (r ≡ Err halts.ReadFault → RoseCards) → (r ≡ Err halts.WriteFault → RoseText) → (r ≡ Err halts.TooLarge → IsTooLarge left left')
    → (RoseCards → ⊥) → (RoseText → ⊥) → IfSome left (λ b. EndsBy (too_large b) status)
ends_after r status name None left' written written' is done read write large cards text = tt
ends_after r status name (Some bytes) left' written written' is done read write large cards text =
    ends_so name bytes left' written written' status (words_after r status is) (accounts_after r status is) (done_after r status is done)
    (λ e. read (read_after r status is e)) (λ e. write (write_after r status is e)) (λ e. large (large_after r status is e)) cards text

-- where memory was wanting
ends_without : (b : Bool) → EndsBy b statuses.NoMemory
ends_without true = inr refl
ends_without false = inr refl

pub none_ends : (left : Option (List ℕ)) → IfSome left (λ b. EndsBy (too_large b) statuses.NoMemory)
none_ends None = tt
none_ends (Some bytes) = ends_without (too_large bytes)
