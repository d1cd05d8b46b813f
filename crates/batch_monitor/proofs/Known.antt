-- What is known of the bytes read and written, and of the cause of an answer.
use Rattle.std.proofs.Common.{ℕ, Bool, inl, append-nil, ◌≡◌, ◌⊎◌, List, ◌++◌, Option, Some, None, Result, Ok, Err, true, false, refl, ap, sym, subst, ◌∙◌, inr, OnOk, OnErr, IfErr, IfSome, length, ◌≤◌, arith}
use Rattle.std.specs.Prelude.{not}
use Rattle.std.specs.Io.KnownBytes.{Consumes, IsAtEnd}
use Rattle.std.proofs.lemmas.List.{length-append}
use Rattle.batch_io.specs.Causes.{Rose}
use Rattle.deck_reader.specs.declared.batch.Account.{Account}
use Rattle.deck_reader.specs.Batch.{too_large}
use Rattle.deck_reader.proofs.Limits.{passes_more}
use Rattle.accounts_text.specs.Text.{AccountsText}
use Rattle.batch_intake.specs.declared.halt.Halt.{Halt}
use Rattle.batch_intake.specs.declared.halt.Halt.TheVariants as halts
use Rattle.batch_monitor.specs.declared.asked.Asked.{Asked}
use Rattle.batch_monitor.specs.declared.top.Status.{Status}
use Rattle.batch_monitor.specs.declared.top.Status.TheVariants as statuses
use Rattle.batch_intake.specs.Halts.{IsTooLarge}
use Rattle.batch_monitor.specs.Accounts.{Given, IsBadText, StatesNone, StatesSome}
use Rattle.batch_monitor.specs.Outcome.{NoneRose}

-- what holds at an error
pub at_err : {T E P : Type 0} (r : Result T E) → P → OnErr r P
at_err (Ok x) holds = tt
at_err (Err e) holds = holds

-- what follows from what holds at a value
pub if_ok : {T E P Q : Type 0} (r : Result T E) → OnOk r P → (P → Q) → OnOk r Q
if_ok (Ok x) holds more = more holds
if_ok (Err e) holds more = tt

-- what follows where a write failed
pub part_of : {T Part Q : Type 0} (Same : Type 0) (r : Result T Halt) → IfErr r (λ halt. Same ⊎ ((halt ≡ halts.WriteFault) × Part)) → (Part → Q) → IfErr r (λ halt. Same ⊎ ((halt ≡ halts.WriteFault) × Q))
part_of Same (Ok x) holds more = tt
part_of Same (Err halt) holds more = elim holds [
  | inl same ↦ inl same
  | inr part ↦ inr (part.0, more part.1)
]

pub not_so : (b : Bool) → not b ≡ true → b ≡ false
not_so true e = cc
not_so false e = refl

pub so : (b : Bool) → not b ≡ false → b ≡ true
so true e = refl
so false e = cc

-- ---- a source that tells all its bytes

pub all_read : (bytes : List ℕ) (left : Option (List ℕ)) (input : List ℕ) → Consumes (Some bytes) left input → IsAtEnd left → bytes ≡ input
all_read bytes None input read end = absurd read
all_read bytes (Some rest) input read end = read ∙ ap (λ (xs : List ℕ). input ++ xs) end ∙ append-nil input

-- the whole source is too large where a part of it was
pub all_too_large : (bytes : List ℕ) (left : Option (List ℕ)) → IsTooLarge (Some bytes) left → too_large bytes ≡ true
all_too_large bytes None large = absurd large.read
all_too_large bytes (Some rest) large = elim large.large [
  | inl passed ↦ ap too_large large.read ∙ passes_more large.input rest passed
  | inr whole ↦ ap too_large (large.read ∙ ap (λ (xs : List ℕ). large.input ++ xs) whole.0 ∙ append-nil large.input) ∙ whole.1
]

-- a known text that is bad states no accounts
bad_states_none : (text : List ℕ) (left : Option (List ℕ)) → IsBadText (Some text) left → StatesNone text
bad_states_none text None bad = absurd bad.read
bad_states_none text (Some rest) bad = λ accounts states. elim bad.bad [
  | inl long ↦
      let read : length text ≡ length (bad.text ++ rest) = ap length bad.read in
      let short : length text ≤ 65536 = states.short in
      absurd (omega (arith, long, read, short, length-append bad.text rest))
  | inr whole ↦ whole.1 accounts (subst (λ (t : List ℕ). AccountsText t accounts) (all_read text (Some rest) bad.text bad.read whole.0) states)
]

-- a known text whose accounts are given states them
given_states : (text : List ℕ) (left : Option (List ℕ)) (given : Option (List Account)) → Given true (Some text) left given → StatesNone text → ⊥
given_states text left None given none = given
given_states text left (Some accounts) given none = none accounts (subst (λ (t : List ℕ). AccountsText t accounts) (sym (all_read text left given.text given.read given.to_end)) given.states)

-- ---- how a run can end

-- what each answer of a run tells
pub record HasCauses (asked : Asked) (left left' known known' : Option (List ℕ)) (RoseCards RoseListing RoseAccounts RoseBalances : Type 0) (status : Status) : Type 0 where
  pub words : status ≡ statuses.BadWords → ⊥
  pub read : status ≡ statuses.ReadFault → RoseCards ⊎ ((asked.accounts ≡ true) × RoseAccounts)
  pub write : status ≡ statuses.WriteFault → RoseListing ⊎ ((asked.accounts ≡ true) × RoseBalances)
  pub large : status ≡ statuses.TooLarge → IsTooLarge left left'
  pub accounts : status ≡ statuses.BadAccounts → (asked.accounts ≡ true) × IsBadText known known'

some_states : (b : Bool) (known known' : Option (List ℕ)) → b ≡ true → StatesSome b known → IsBadText known known' → ⊥
some_states true known known' e states bad = bad_states_none states.0 known' (subst (λ (k : Option (List ℕ)). IsBadText k known') states.2 bad) states.1 states.3
some_states false known known' e states bad = cc

module _ (asked : Asked) (left' known known' : Option (List ℕ)) (read read' written written' kept kept' closed closed' : ℕ) where
  abbrev Causes : Option (List ℕ) → Status → Type 0
  Causes left status = HasCauses asked left left' known known' (Rose read read') (Rose written written') (Rose kept kept') (Rose closed closed') status

  -- where nothing failed, and the accounts are stated, a run is done, memory was wanting, or the batch is too large
  ends_so : (bytes : List ℕ) (status : Status) → Causes (Some bytes) status → StatesSome asked.accounts known → NoneRose asked read read' written written' kept kept' closed closed'
      → (status ≡ statuses.Done) ⊎ (status ≡ statuses.NoMemory) ⊎ ((status ≡ statuses.TooLarge) × (too_large bytes ≡ true))
  ends_so bytes statuses.Done c states none = inl refl
  ends_so bytes statuses.NoMemory c states none = inr (inl refl)
  ends_so bytes statuses.TooLarge c states none = inr (inr (refl, all_too_large bytes left' (c.large refl)))
  ends_so bytes statuses.BadWords c states none = absurd (c.words refl)
  ends_so bytes statuses.ReadFault c states none = elim (c.read refl) [
    | inl rose ↦ absurd (none.cards rose)
    | inr rose ↦ absurd (none.accounts rose.0 rose.1)
  ]
  ends_so bytes statuses.WriteFault c states none = elim (c.write refl) [
    | inl rose ↦ absurd (none.listing rose)
    | inr rose ↦ absurd (none.balances rose.0 rose.1)
  ]
  ends_so bytes statuses.BadAccounts c states none = let bad = c.accounts refl in absurd (some_states asked.accounts known known' bad.0 states bad.1)

  pub complete_so : (left : Option (List ℕ)) (status : Status) → Causes left status → StatesSome asked.accounts known → NoneRose asked read read' written written' kept kept' closed closed'
      → IfSome left (λ b. too_large b ≡ false → (status ≡ statuses.Done) ⊎ (status ≡ statuses.NoMemory))
  complete_so None status c states none = tt
  complete_so (Some bytes) status c states none = λ fits. elim (ends_so bytes status c states none) [
    | inl done ↦ inl done
    | inr (inl wanting) ↦ inr wanting
    | inr (inr large) ↦ let past : true ≡ false = sym large.1 ∙ fits in cc
  ]

  pub refused_so : (left : Option (List ℕ)) (status : Status) → Causes left status → (status ≡ statuses.Done → (input : List ℕ) × Consumes left left' input × IsAtEnd left' × (too_large input ≡ false))
      → StatesSome asked.accounts known → NoneRose asked read read' written written' kept kept' closed closed'
      → IfSome left (λ b. too_large b ≡ true → (status ≡ statuses.TooLarge) ⊎ (status ≡ statuses.NoMemory))
  refused_so None status c done states none = tt
  refused_so (Some bytes) status c done states none = λ past. elim (ends_so bytes status c states none) [
    | inl is ↦
        let d = done is in
        let fits : true ≡ false = sym past ∙ ap too_large (all_read bytes left' d.0 d.1 d.2) ∙ d.3 in
        cc
    | inr (inl wanting) ↦ inr wanting
    | inr (inr large) ↦ inl large.0
  ]

-- a text that states no accounts is refused, unless a read or memory failed
pub refused_accounts_so : {RoseAccounts : Type 0} (b : Bool) (known known' : Option (List ℕ)) (status : Status) → b ≡ true
    → ((given : Option (List Account)) × Given b known known' given) ⊎ (status ≡ statuses.BadAccounts) ⊎ (status ≡ statuses.NoMemory) ⊎ RoseAccounts
    → IfSome known (λ text. StatesNone text → (RoseAccounts → ⊥) → (status ≡ statuses.BadAccounts) ⊎ (status ≡ statuses.NoMemory))
refused_accounts_so b None known' status e ends = tt
refused_accounts_so b (Some text) known' status e ends = λ none rose. elim ends [
  | inl given ↦ absurd (given_states text known' given.0 (subst (λ (k : Bool). Given k (Some text) known' given.0) e given.1) none)
  | inr (inl bad) ↦ inl bad
  | inr (inr (inl wanting)) ↦ inr wanting
  | inr (inr (inr rises)) ↦ absurd (rose rises)
]
