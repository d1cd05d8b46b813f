-- What holds at an error.
use Rattle.std.proofs.Common.{◌≡◌, Result, Ok, Err, OnErr, IfErr, IsErrAnd, IsErrOf, IfSome, Option, None, Some, ap, refl, sym, subst, ◌∙◌}

pub at_err : {T E P : Type 0} (r : Result T E) → P → OnErr r P
at_err (Ok x) holds = tt
at_err (Err e) holds = holds

pub at_this : {T E : Type 0} (r : Result T E) (error : E) (P : E → Type 0) → IsErrAnd r (λ e. e ≡ error) → P error → IfErr r P
at_this (Ok x) error P is holds = tt
at_this (Err e) error P is holds = subst P (sym is) holds

error_of : {T E : Type 0} → E → Result T E → E
error_of e (Ok x) = e
error_of e (Err error) = error

pub error_is : {T E : Type 0} (a b : E) → IsErrOf {T = T} (Err a) b → a ≡ b
unfolding error_of
error_is a b is = ap (error_of a) is

-- what holds of what is there
pub at_some : {A : Type 0} (o : Option A) (P : A → Type 0) → ((x : A) → o ≡ Some x → P x) → IfSome o P
at_some None P holds = tt
at_some (Some x) P holds = holds x refl

pub some_at : {A : Type 0} (o : Option A) (P : A → Type 0) (x : A) → o ≡ Some x → IfSome o P → P x
some_at o P x is holds = subst (λ o. IfSome o P) is holds

-- an error that was handed on is the one that it was
pub same_error : {T E : Type 0} (r : Result T E) (error other : E) → IsErrAnd r (λ e. e ≡ error) → IsErrOf r other → error ≡ other
same_error (Ok x) error other is that = absurd is
same_error {T} (Err e) error other is that = sym is ∙ error_is {T = T} e other that
