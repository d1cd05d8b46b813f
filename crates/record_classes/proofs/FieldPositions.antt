-- The positions of fields.
use Rattle.std.proofs.Common.{◌≡◌, ℕ, suc, ◌+◌, ◌<◌, Bool, true, false, cond, List, [], ◌∷◌, ◌++◌, Option, Some, None, length, take, get_or, refl, sym, ap, ◌∙◌, arith}
use Rattle.std.proofs.lemmas.List.{take_more, length-take-le}
use Rattle.std.proofs.lemmas.Slice.Eq.{bytes_eq-Decides}
use Rattle.std.specs.HashMap.{HashMap, get}
use Rattle.std.specs.Option.{option_map, option_or, unwrap_or}
use Rattle.std.specs.Str.{bytes_eq}
use Rattle.record_classes.specs.Classes.{Field, position_of}

push_step : (same : Bool) (p q : Option ℕ) → cond same (Some 0) (option_map suc (option_or p q)) ≡ option_or (cond same (Some 0) (option_map suc p)) (option_map suc q)
push_step true p q = refl
push_step false None q = refl
push_step false (Some n) q = refl

next : (same : Bool) (n : ℕ) → option_map suc (cond same (Some n) None) ≡ cond same (Some (suc n)) None
next true n = refl
next false n = refl

-- a field more stands at the end
pub position_of-push : (fields : List Field) (f : Field) (name : List ℕ) → position_of (fields ++ f ∷ []) name ≡ option_or (position_of fields name) (cond (bytes_eq f.0 name) (Some (length fields)) None)
position_of-push [] f name = refl
position_of-push (g ∷ fields) f name =
    ap (λ (p : Option ℕ). cond (bytes_eq g.0 name) (Some 0) (option_map suc p)) (position_of-push fields f name)
    ∙ push_step (bytes_eq g.0 name) (position_of fields name) (cond (bytes_eq f.0 name) (Some (length fields)) None)
    ∙ ap (option_or (position_of (g ∷ fields) name)) (next (bytes_eq f.0 name) (length fields))

-- what a name has behind a field of that name or another
by_name : (same : Bool) (at here : Option ℕ) (i : ℕ) → (same ≡ true → at ≡ here) → cond same (Some (unwrap_or here i)) at ≡ option_or at (cond same (Some i) None)
by_name true at None i f = ap (λ (p : Option ℕ). option_or p (Some i)) (sym (f refl))
by_name true at (Some n) i f = ap (λ (p : Option ℕ). option_or p (Some i)) (sym (f refl))
by_name false None here i f = refl
by_name false (Some n) here i f = refl

-- a name more among the positions, as among the fields
pub positions-push : {S : Type 0} (fields : List Field) (i : ℕ) (f : Field) (old : HashMap (List ℕ) ℕ S) (held : Option ℕ) (value : ℕ) (name : List ℕ) → i < length fields → f ≡ get_or fields i f
    → ((q : List ℕ) → get bytes_eq old q ≡ position_of (take i fields) q)
    → value ≡ unwrap_or (get bytes_eq old f.0) i
    → held ≡ cond (bytes_eq f.0 name) (Some value) (get bytes_eq old name)
    → held ≡ position_of (take (i + 1) fields) name
positions-push fields i f old held value name within item at here is =
    let long : length (take i fields) ≡ i = length-take-le i fields (omega arith) in
    is
    ∙ ap (λ (v : ℕ). cond (bytes_eq f.0 name) (Some v) (get bytes_eq old name)) here
    ∙ by_name (bytes_eq f.0 name) (get bytes_eq old name) (get bytes_eq old f.0) i (λ h. ap (get bytes_eq old) (sym ((bytes_eq-Decides f.0 name).0 h)))
    ∙ ap (λ (p : Option ℕ). option_or p (cond (bytes_eq f.0 name) (Some i) None)) (at name)
    ∙ ap (λ (n : ℕ). option_or (position_of (take i fields) name) (cond (bytes_eq f.0 name) (Some n) None)) (sym long)
    ∙ sym (position_of-push (take i fields) f name)
    ∙ ap (λ (g : Field). position_of (take i fields ++ g ∷ []) name) item
    ∙ ap (λ (fs : List Field). position_of fs name) (sym (take_more fields i f within))
