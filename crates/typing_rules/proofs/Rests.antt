-- What rows with a rest of their own for a list of types say, once the types are known.
use Rattle.std.proofs.Common.{◌≡◌, List, [], ◌∷◌, true, false, refl, ℕ, length, map, arith, ◌⊎◌, inl, inr}
use Rattle.algolw_typing.specs.Actuals.{actuals_fit}
use Rattle.std.proofs.lemmas.List.{length-map}
use Rattle.value_ops.specs.declared.places.Place.{Place}
use Rattle.algolw_tree.specs.declared.standard.Basic.{Basic}
use Rattle.algolw_tree.specs.declared.standard.Basic.TheVariants as basic
use Rattle.algolw_typing.specs.Types.{ValueType, Integer, Logical, Bits, Str, Reference, Statement, Simple, is_same}
use Rattle.algolw_typing.specs.Verdicts.{Verdict, Good, Fault, Silent, value, unless}
use Rattle.algolw_typing.specs.Meanings.{FormalType, Part, a_star, a_phrase, a_setting, as_array, as_procedure, with_formals, not_read, typeless, of_phrase, right_number, field_values, values_read, variables_read, field_of, basic_type, is_basic}
use Rattle.typing_rules.specs.MeaningView.{placed_value, values_of, refers_to}

-- each part that is no setting is a value
abbrev pub each_value : Place → List Part → Verdict → Verdict
each_value p [] row = row
each_value p (part ∷ parts) row = placed_value p part (each_value p parts row)

-- each part is a variable
abbrev pub each_variable : Place → List Part → Verdict → Verdict
each_variable p [] row = row
each_variable p (a_phrase true (Simple t) ∷ parts) row = each_variable p parts row
each_variable p (part ∷ parts) row = Fault 38 p

pub values_read_each : (p : Place) (parts : List Part) (row : List ValueType → Verdict) → values_read p parts row ≡ each_value p parts (row (values_of parts))
values_read_each p [] row = refl
values_read_each p (a_setting ∷ parts) row = values_read_each p parts row
values_read_each p (a_star ∷ parts) row = refl
values_read_each p (a_phrase v Statement ∷ parts) row = refl
values_read_each p (a_phrase v (Simple t) ∷ parts) row = values_read_each p parts (λ ts. row (t ∷ ts))
values_read_each p (as_array t n ∷ parts) row = refl
values_read_each p (as_procedure t ∷ parts) row = refl
values_read_each p (with_formals ∷ parts) row = refl
values_read_each p (not_read ∷ parts) row = refl
values_read_each p (typeless ∷ parts) row = refl

pub variables_read_each : (p : Place) (parts : List Part) (row : List ValueType → Verdict) → variables_read p parts row ≡ each_variable p parts (row (values_of parts))
variables_read_each p [] row = refl
variables_read_each p (a_setting ∷ parts) row = refl
variables_read_each p (a_star ∷ parts) row = refl
variables_read_each p (a_phrase true Statement ∷ parts) row = refl
variables_read_each p (a_phrase true (Simple t) ∷ parts) row = variables_read_each p parts (λ ts. row (t ∷ ts))
variables_read_each p (a_phrase false g ∷ parts) row = refl
variables_read_each p (as_array t n ∷ parts) row = refl
variables_read_each p (as_procedure t ∷ parts) row = refl
variables_read_each p (with_formals ∷ parts) row = refl
variables_read_each p (not_read ∷ parts) row = refl
variables_read_each p (typeless ∷ parts) row = refl

-- the test of a field's reference, as one test
pub field_of_refers : (p c : Place) (t u : ValueType) → field_of p c t u ≡ unless (refers_to u c) 37 p (Good (Simple t))
field_of_refers p c t Integer = refl
field_of_refers p c t Logical = refl
field_of_refers p c t Bits = refl
field_of_refers p c t (Str n) = refl
field_of_refers p c t (Reference s) = refl

-- the test for the type that an operation takes, as one for the same type
pub same_basic : (t : ValueType) (b : Basic) → is_same t (basic_type b) ≡ is_basic b t
same_basic Integer basic.Integer = refl
same_basic Integer b = refl
same_basic Logical basic.Logical = refl
same_basic Logical b = refl
same_basic Bits basic.Bits = refl
same_basic Bits b = refl
same_basic (Str n) basic.Character = refl
same_basic (Str n) b = refl
same_basic (Reference s) basic.Integer = refl
same_basic (Reference s) b = refl

-- where the condition lets each row go on, the number is right
pub number_from_right : {A : Type 0} (view : A → Part) (p : Place) (n : ℕ) (parts : List A) → ((row : Verdict) → row ≡ right_number p n (map view parts) row) → length parts ≡ n
number_from_right view p n parts h =
    let e : Silent ≡ right_number p n (map view parts) Silent = h Silent in
    let m : length (map view parts) ≡ length parts = length-map parts view in
    grind arith

-- of two lists in step, what is left of one of them is nothing
pub fits_at_end : {A B : Type 0} (f : A → FormalType) (g : B → Part) (p : Place) (xs : List A) (ys : List B) (row : Verdict) → (xs ≡ []) ⊎ (ys ≡ []) → actuals_fit p (map f xs) (map g ys) row ≡ row
fits_at_end f g p [] ys row e = refl
fits_at_end f g p (x ∷ xs) [] row e = refl
fits_at_end f g p (x ∷ xs) (y ∷ ys) row (inl e) = cc
fits_at_end f g p (x ∷ xs) (y ∷ ys) row (inr e) = cc

pub fields_at_end : {A B : Type 0} (f : A → ValueType) (g : B → Part) (p : Place) (xs : List A) (ys : List B) (row : Verdict) → (xs ≡ []) ⊎ (ys ≡ []) → field_values p (map f xs) (map g ys) row ≡ row
fields_at_end f g p [] ys row e = refl
fields_at_end f g p (x ∷ xs) [] row e = refl
fields_at_end f g p (x ∷ xs) (y ∷ ys) row (inl e) = cc
fields_at_end f g p (x ∷ xs) (y ∷ ys) row (inr e) = cc
