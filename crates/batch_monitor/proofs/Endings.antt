-- What holds behind a run that has ended so.
use Rattle.std.proofs.Common.{◌≡◌, ◌⊎◌, ℕ, Bool, [], List, Option, Some, None, Result, Ok, Err, OnOk, OnErr, IfErr, refl, ap, sym, subst, inl, inr, ◌∙◌, true, false}
use Rattle.std.specs.Io.KnownBytes.{Appends, Consumes}
use Rattle.deck_reader.specs.declared.batch.Account.{Account}
use Rattle.batch_listing.specs.Listing.{listing_with}
use Rattle.batch_listing.specs.Writing.{AppendsPrefix}
use Rattle.batch_listing.proofs.Written.{all_left, prefix_written}
use Rattle.batch_intake.specs.declared.halt.Halt.{Halt}
use Rattle.batch_intake.specs.declared.halt.Halt.TheVariants as halts
use Rattle.batch_monitor.specs.declared.accounts.Unread.{Unread}
use Rattle.batch_monitor.specs.declared.accounts.Unread.TheVariants as unread
use Rattle.batch_monitor.specs.declared.asked.Asked.{Asked}
use Rattle.batch_monitor.specs.declared.top.Status.{Status}
use Rattle.batch_monitor.specs.declared.top.Status.TheVariants as statuses
use Rattle.batch_monitor.specs.Accounts.{Given}
use Rattle.batch_monitor.specs.Made.{made_summary}
use Rattle.batch_monitor.specs.Outcome.{IsCut, IsMade, IsPart}
use Rattle.batch_monitor.proofs.Boards.{part_of_listing}
use Rattle.batch_monitor.specs.Status.{status_after, status_of, status_unread}

-- ---- a run whose end is known

pub done_after : {T P : Type 0} (r : Result T Halt) (status : Status) → status ≡ status_after r → OnOk r P → status ≡ statuses.Done → P
done_after (Ok x) status is holds done = holds
done_after (Err halts.NoMemory) status is holds done = cc
done_after (Err halts.ReadFault) status is holds done = cc
done_after (Err halts.WriteFault) status is holds done = cc
done_after (Err halts.TooLarge) status is holds done = cc

pub not_done_after : {T P : Type 0} (r : Result T Halt) (status : Status) → status ≡ status_after r → OnErr r P → (status ≡ statuses.Done → ⊥) → P
not_done_after (Ok x) status is holds none = absurd (none is)
not_done_after (Err halt) status is holds none = holds

-- what an error says of itself
pub balances_after : {T Same Part Q : Type 0} (r : Result T Halt) (status : Status) → status ≡ status_after r → IfErr r (λ halt. Same ⊎ ((halt ≡ halts.WriteFault) × Part)) → (Part → Q)
    → (status ≡ statuses.Done → ⊥) → Same ⊎ ((status ≡ statuses.WriteFault) × Q)
balances_after (Ok x) status is holds more none = absurd (none is)
balances_after (Err halt) status is holds more none = elim holds [
  | inl same ↦ inl same
  | inr part ↦ inr (is ∙ ap status_of part.0, more part.1)
]

pub read_after : {T : Type 0} (r : Result T Halt) (status : Status) → status ≡ status_after r → status ≡ statuses.ReadFault → r ≡ Err halts.ReadFault
read_after (Ok x) status is read = cc
read_after (Err halts.NoMemory) status is read = cc
read_after (Err halts.ReadFault) status is read = refl
read_after (Err halts.WriteFault) status is read = cc
read_after (Err halts.TooLarge) status is read = cc

pub write_after : {T : Type 0} (r : Result T Halt) (status : Status) → status ≡ status_after r → status ≡ statuses.WriteFault → r ≡ Err halts.WriteFault
write_after (Ok x) status is write = cc
write_after (Err halts.NoMemory) status is write = cc
write_after (Err halts.ReadFault) status is write = cc
write_after (Err halts.WriteFault) status is write = refl
write_after (Err halts.TooLarge) status is write = cc

pub large_after : {T : Type 0} (r : Result T Halt) (status : Status) → status ≡ status_after r → status ≡ statuses.TooLarge → r ≡ Err halts.TooLarge
large_after (Ok x) status is large = cc
large_after (Err halts.NoMemory) status is large = cc
large_after (Err halts.ReadFault) status is large = cc
large_after (Err halts.WriteFault) status is large = cc
large_after (Err halts.TooLarge) status is large = refl

-- such a run's words were of the form, and its accounts were known
pub words_after : {T : Type 0} (r : Result T Halt) (status : Status) → status ≡ status_after r → status ≡ statuses.BadWords → ⊥
words_after (Ok x) status is bad = cc
words_after (Err halts.NoMemory) status is bad = cc
words_after (Err halts.ReadFault) status is bad = cc
words_after (Err halts.WriteFault) status is bad = cc
words_after (Err halts.TooLarge) status is bad = cc

pub accounts_after : {T : Type 0} (r : Result T Halt) (status : Status) → status ≡ status_after r → status ≡ statuses.BadAccounts → ⊥
accounts_after (Ok x) status is bad = cc
accounts_after (Err halts.NoMemory) status is bad = cc
accounts_after (Err halts.ReadFault) status is bad = cc
accounts_after (Err halts.WriteFault) status is bad = cc
accounts_after (Err halts.TooLarge) status is bad = cc

-- ---- a run without its accounts

-- it ended so, or so, or so, and no other way
pub record IsUnread (u : Unread) (status : Status) : Type 0 where
  pub done : status ≡ statuses.Done → ⊥
  pub words : status ≡ statuses.BadWords → ⊥
  pub write : status ≡ statuses.WriteFault → ⊥
  pub large : status ≡ statuses.TooLarge → ⊥
  pub read : status ≡ statuses.ReadFault → u ≡ unread.ReadFault
  pub bad : status ≡ statuses.BadAccounts → u ≡ unread.BadAccounts

pub unread_so : (u : Unread) (status : Status) → status ≡ status_unread u → IsUnread u status
unread_so unread.NoMemory status is = record { done = λ e. cc; words = λ e. cc; write = λ e. cc; large = λ e. cc; read = λ e. cc; bad = λ e. cc }
unread_so unread.ReadFault status is = record { done = λ e. cc; words = λ e. cc; write = λ e. cc; large = λ e. cc; read = λ e. refl; bad = λ e. cc }
unread_so unread.BadAccounts status is = record { done = λ e. cc; words = λ e. cc; write = λ e. cc; large = λ e. cc; read = λ e. cc; bad = λ e. refl }

-- it has no accounts, was refused, or a read failed
pub unread_known : {P RoseRead : Type 0} (u : Unread) (status : Status) → status ≡ status_unread u → (u ≡ unread.ReadFault → RoseRead)
    → P ⊎ (status ≡ statuses.BadAccounts) ⊎ (status ≡ statuses.NoMemory) ⊎ RoseRead
unread_known unread.NoMemory status is rose = inr (inr (inl is))
unread_known unread.ReadFault status is rose = inr (inr (inr (rose refl)))
unread_known unread.BadAccounts status is rose = inr (inl is)

-- ---- a run of a batch that is made

made_by : {T : Type 0} (r : Result T Halt) (seed jobs : ℕ) (old new : Option (List ℕ)) (status : Status) → status ≡ status_after r
    → OnOk r (Appends old new (made_summary seed jobs)) → OnErr r (AppendsPrefix old new (made_summary seed jobs)) → (r ≡ Err halts.ReadFault → ⊥) → (r ≡ Err halts.TooLarge → ⊥)
    → IsMade seed jobs old new status
made_by (Ok x) seed jobs old new status is done cut read large = record { done = λ d. done; cut = λ n. absurd (n is); answers = inl is }
made_by (Err halts.NoMemory) seed jobs old new status is done cut read large = record { done = λ d. cc; cut = λ n. cut; answers = inr (inl is) }
made_by (Err halts.WriteFault) seed jobs old new status is done cut read large = record { done = λ d. cc; cut = λ n. cut; answers = inr (inr is) }
made_by (Err halts.ReadFault) seed jobs old new status is done cut read large = absurd (read refl)
made_by (Err halts.TooLarge) seed jobs old new status is done cut read large = absurd (large refl)

-- what was made of these numbers was made of those that the words say
pub made_after : {T : Type 0} (r : Result T Halt) (seed jobs s j : ℕ) (old new : Option (List ℕ)) (status : Status) → (seed ≡ s) × (jobs ≡ j) → status ≡ status_after r
    → OnOk r (Appends old new (made_summary seed jobs)) → OnErr r (AppendsPrefix old new (made_summary seed jobs)) → (r ≡ Err halts.ReadFault → ⊥) → (r ≡ Err halts.TooLarge → ⊥)
    → IsMade s j old new status
made_after r seed jobs s j old new status e is done cut read large =
    subst (λ (n : ℕ). IsMade s n old new status) e.1 (subst (λ (n : ℕ). IsMade n jobs old new status) e.0 (made_by r seed jobs old new status is done cut read large))

-- ---- where nothing was done

nothing_read : (left : Option (List ℕ)) → Consumes left left []
nothing_read None = tt
nothing_read (Some xs) = refl

pub nothing_written : (written : Option (List ℕ)) (text : List ℕ) → AppendsPrefix written written text
nothing_written written text = prefix_written written written text text (all_left written text)

pub nothing_cut : (asked : Asked) (given : Option (List Account)) (left written : Option (List ℕ)) → IsPart asked given left left written written
nothing_cut asked given left written =
    part_of_listing asked given left left written written (record { input = []; read = nothing_read left; wrote = nothing_written written (listing_with given []) })

-- where the words couldn't be read, for want of memory
pub nothing_done : (asked : Asked) (left written known : Option (List ℕ)) → IsCut asked left left written written known known ⊎ (asked.accounts ≡ true)
nothing_done asked left written known = go asked.accounts refl
  where
    go : (b : Bool) → asked.accounts ≡ b → IsCut asked left left written written known known ⊎ (asked.accounts ≡ true)
    go true e = inr e
    go false e = inl (record { given = None; is_given = subst (λ (k : Bool). Given k known known None) (sym e) refl; cut = nothing_cut asked None left written })

pub cut_or : {A B P Q : Type 0} → A ⊎ B → P → Q → A ⊎ (B × P × Q)
cut_or (inl a) p q = inl a
cut_or (inr b) p q = inr (b, p, q)

pub nothing_made : (seed jobs : ℕ) (written : Option (List ℕ)) → IsMade seed jobs written written statuses.NoMemory
nothing_made seed jobs written = record { done = λ d. cc; cut = λ n. nothing_written written (made_summary seed jobs); answers = inr (inl refl) }
