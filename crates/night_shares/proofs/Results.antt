-- What holds at an error.
use Rattle.std.proofs.Common.{◌≡◌, ℕ, List, Result, Ok, Err, OnErr, OnOk, IfErr, IfOk, IsErrAnd, IsErrOf, IfSome, Option, None, Some, ap, refl, sym, subst, ◌∙◌}
use Rattle.batch_io.specs.Causes.{Rose}
use Rattle.night_shares.specs.declared.stop.Stop.{Stop}
use Rattle.night_shares.specs.declared.stop.Stop.TheVariants.{NoMemory, ReadFault, WriteFault, TooLarge, BadAccounts}
use Rattle.night_shares.specs.Stops.{ReadCause}

pub at_err : {T E P : Type 0} (r : Result T E) → P → OnErr r P
at_err (Ok x) holds = tt
at_err (Err e) holds = holds

pub at_this : {T E : Type 0} (r : Result T E) (error : E) (P : E → Type 0) → IsErrAnd r (λ e. e ≡ error) → P error → IfErr r P
at_this (Ok x) error P is holds = tt
at_this (Err e) error P is holds = subst P (sym is) holds

pub at_ok : {T E P : Type 0} (r : Result T E) → P → OnOk r P
at_ok (Ok x) holds = holds
at_ok (Err e) holds = tt

-- what holds where a result is good, made weaker, and two such facts together
pub on_ok : {T E P Q : Type 0} (r : Result T E) → OnOk r P → (P → Q) → OnOk r Q
on_ok (Ok x) h step = step h
on_ok (Err e) h step = tt

pub ok_both : {T E : Type 0} (r : Result T E) (P Q : Type 0) → OnOk r P → OnOk r Q → OnOk r (P × Q)
ok_both (Ok x) P Q h k = (h, k)
ok_both (Err e) P Q h k = tt

error_of : {T E : Type 0} → E → Result T E → E
error_of e (Ok x) = e
error_of e (Err error) = error

pub error_is : {T E : Type 0} (a b : E) → IsErrOf {T = T} (Err a) b → a ≡ b
unfolding error_of
error_is a b is = ap (error_of a) is

-- what holds of what is there
pub at_some : {A : Type 0} (o : Option A) (P : A → Type 0) → ((x : A) → o ≡ Some x → P x) → IfSome o P
at_some None P holds = tt
at_some (Some x) P holds = holds x refl

pub some_at : {A : Type 0} (o : Option A) (P : A → Type 0) (x : A) → o ≡ Some x → IfSome o P → P x
some_at o P x is holds = subst (λ o. IfSome o P) is holds

-- an error that was handed on is the one that it was
pub same_error : {T E : Type 0} (r : Result T E) (error other : E) → IsErrAnd r (λ e. e ≡ error) → IsErrOf r other → error ≡ other
same_error (Ok x) error other is that = absurd is
same_error {T} (Err e) error other is that = sym is ∙ error_is {T = T} e other that

-- what holds of a result, made weaker
pub ok_by : {T E : Type 0} (r : Result T E) (P Q : T → Type 0) → IfOk r P → ((x : T) → P x → Q x) → IfOk r Q
ok_by (Ok x) P Q h step = step x h
ok_by (Err e) P Q h step = tt

-- why reading stopped, where the count was the same before
pub read_cause : (stop : Stop) (before then now : ℕ) (P Q : Type 0) → then ≡ before → ReadCause stop then now P → (P → Q) → ReadCause stop before now Q
read_cause NoMemory before then now P Q same cause step = tt
read_cause ReadFault before then now P Q same cause step = subst (λ (n : ℕ). Rose n now) same cause
read_cause WriteFault before then now P Q same cause step = cause
read_cause TooLarge before then now P Q same cause step = step cause
read_cause BadAccounts before then now P Q same cause step = cause

-- what holds of all bytes where a result is good, and where it isn't
pub ok_all : {T E : Type 0} (r : Result T E) (A B : List ℕ → Type 0) (Q : Type 0) → ((bytes : List ℕ) → A bytes → OnOk r (B bytes)) → (((bytes : List ℕ) → A bytes → B bytes) → Q) → OnOk r Q
ok_all (Ok x) A B Q h step = step h
ok_all (Err e) A B Q h step = tt

pub err_all : {T E : Type 0} (r : Result T E) (A B : List ℕ → Type 0) (Q : Type 0) → ((bytes : List ℕ) → A bytes → OnErr r (B bytes)) → (((bytes : List ℕ) → A bytes → B bytes) → Q) → OnErr r Q
err_all (Ok x) A B Q h step = tt
err_all (Err e) A B Q h step = step h
