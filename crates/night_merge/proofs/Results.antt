-- What holds of results and options.
use Rattle.std.proofs.Common.{◌≡◌, ℕ, List, true, false, Option, None, Some, Result, Ok, Err, IsErrAnd, IsSomeAnd, MatchOption, MatchResult, refl, sym, subst}
use Rattle.std.specs.Option.{is_some}
use Rattle.night_merge.specs.declared.shelf.Part.{Part}
use Rattle.night_merge.specs.declared.stop.Stop.{Stop}
use Rattle.night_merge.specs.declared.stop.Stop.TheVariants as stop
use Rattle.night_merge.specs.declared.stop.Unread.{Unread}
use Rattle.night_merge.specs.declared.stop.Unread.TheVariants as unread
use Rattle.night_merge.specs.Stops.{IsFair, IsFault, stop_unread}

-- an error that was handed on is the one that it was
pub match_this : {T E : Type 0} (r : Result T E) (error : E) (P : T → Type 0) (Q : E → Type 0) → IsErrAnd r (λ e. e ≡ error) → Q error → MatchResult r P Q
match_this (Ok x) error P Q is holds = absurd is
match_this (Err e) error P Q is holds = subst Q (sym is) holds

-- there is something, where nothing can't be
pub some_there : {A : Type 0} (r : Option A) (P : Type 0) (Q : A → Type 0) → MatchOption r P Q → (P → ⊥) → is_some r ≡ true
some_there None P Q holds other = absurd (other holds)
some_there (Some x) P Q holds other = refl

-- and there is something, where that is said
pub something : {A : Type 0} (r : Option A) (P : Type 0) (Q : A → Type 0) → MatchOption r P Q → is_some r ≡ true → (x : A) × Q x
something None P Q holds is = absurd (let none : false ≡ true = is in cc none)
something (Some x) P Q holds is = (x, holds)

pub some_not_none : {A : Type 0} (r : Option A) (P : A → Type 0) → IsSomeAnd r P → r ≡ None → ⊥
some_not_none None P holds e = holds
some_not_none (Some x) P holds e = cc e

pub some_and : {A : Type 0} (r : Option A) (x : A) (P : A → Type 0) → IsSomeAnd r P → r ≡ Some x → P x
some_and None x P holds e = absurd holds
some_and (Some y) x P holds e = let same : y ≡ x = cc e in subst P same holds

pub matched_some : {A : Type 0} (r : Option A) (x : A) (P : Type 0) (Q : A → Type 0) → MatchOption r P Q → r ≡ Some x → Q x
matched_some None x P Q holds e = absurd (cc e)
matched_some (Some y) x P Q holds e = let same : y ≡ x = cc e in subst Q same holds

pub matched_none : {A : Type 0} (r : Option A) (P : Type 0) (Q : A → Type 0) → MatchOption r P Q → r ≡ None → P
matched_none None P Q holds e = holds
matched_none (Some y) P Q holds e = absurd (cc e)

-- what follows of a result
pub match_map : {T E : Type 0} (r : Result T E) (P P' : T → Type 0) (Q Q' : E → Type 0) → ((x : T) → P x → P' x) → ((e : E) → Q e → Q' e) → MatchResult r P Q → MatchResult r P' Q'
match_map (Ok x) P P' Q Q' f g holds = f x holds
match_map (Err e) P P' Q Q' f g holds = g e holds

pub fault_fair : (known : Part → Option (List ℕ)) (s : Stop) → IsFault s → IsFair known s
fault_fair known stop.NoMemory fault = fault
fault_fair known stop.ReadFault fault = fault
fault_fair known stop.WriteFault fault = fault
fault_fair known stop.BadPlan fault = absurd fault
fault_fair known (stop.Missing part) fault = absurd fault
fault_fair known (stop.OtherListing part) fault = absurd fault

pub memory_fault : (s : Stop) → s ≡ stop.NoMemory → IsFault s
memory_fault s e =
    let P : Stop → Type 0 = λ x. IsFault x in
    subst P (sym e) tt

pub unread_fair : (known : Part → Option (List ℕ)) (u : Unread) → (u ≡ unread.BadPlan → ⊥) → IsFair known (stop_unread u)
unread_fair known unread.NoMemory other = tt
unread_fair known unread.ReadFault other = tt
unread_fair known unread.BadPlan other = other refl
