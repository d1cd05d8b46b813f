-- Actuals against formals, one after the other.
use Rattle.std.proofs.Common.{◌≡◌, ℕ, ◌+◌, ◌<◌, List, [], ◌∷◌, Option, Some, None, Bool, true, false, ◌&&◌, length, map, drop, get_or, ◌≢◌, refl, sym, ap, ◌∙◌, subst, arith}
use Rattle.std.specs.Prelude.{IsSome, IfSome, nat_eq}
use Rattle.std.specs.Option.{option_and_then}
use Rattle.std.proofs.lemmas.Bool.Decides.{nat_tests}
use Rattle.std.proofs.lemmas.List.{length-map, drop_more}
use Rattle.value_ops.specs.declared.places.Place.{Place}
use Rattle.cell_store.specs.Stores.{Store}
use Rattle.algolw_typing.specs.Types.{Statement}
use Rattle.algolw_typing.specs.Meanings as typing
use Rattle.algolw_typing.specs.Verdicts.{Verdict, Good}
use Rattle.algolw_typing.specs.Actuals as rules
use Rattle.program_meaning.specs.Copying.{is_good, formal_types}
use Rattle.stack_code.specs.declared.heads.Formal.{Formal}
use Rattle.stack_code.specs.declared.heads.TextHead.{TextHead}
use Rattle.stack_code.specs.CodeView.{CodeView, Given, formal_type_view, formal_view}
use Rattle.machine_calls.specs.Fitting as fitting
use Rattle.machine_calls.specs.Found as found

-- an actual and those behind it are read
split : (o : Option typing.Part) (q : Option (List typing.Part)) (ps : List typing.Part) → option_and_then (λ p. fitting.onto p q) o ≡ Some ps → (p : typing.Part) × (qs : List typing.Part) × (o ≡ Some p) × (q ≡ Some qs) × (ps ≡ p ∷ qs)
split None q ps e = absurd (cc e)
split (Some p) None ps e = absurd (cc e)
split (Some p) (Some qs) ps e = (p, qs, refl, refl, cc e)

some_there : {A : Type 0} (o : Option A) → IsSome o → (x : A) × (o ≡ Some x)
some_there None h = absurd (cc h)
some_there (Some x) h = (x, refl)

some_is : {A : Type 0} (o : Option A) (x : A) → o ≡ Some x → IsSome o
some_is o x e = subst (λ z. IsSome z) (sym e) refl

-- one of them
some_of : (l : List Formal) (i : ℕ) → i < length l → Formal
some_of [] i h = absurd (omega (arith, h))
some_of (x ∷ l) i h = x

-- what holds of what is found
if_some : {A : Type 0} (o : Option A) (P : A → Type 0) → ((x : A) → o ≡ Some x → P x) → IfSome o P
if_some None P h = tt
if_some (Some x) P h = h x refl

-- table A for each of them
abbrev pub all_fit : Given → Place → List Formal → List typing.Part → Bool
all_fit g w fs ps = is_good (rules.actuals_fit w (formal_types (map (formal_view g) fs)) ps (Good Statement))

numbers_by : (g : Given) (fs : List Formal) (hs : List ℕ) → length fs ≡ length hs → nat_eq (length (map (formal_view g) fs)) (length hs) ≡ true
numbers_by g fs hs e = let l = length-map fs (formal_view g) in grind (arith, nat_tests)

numbers_not : (g : Given) (fs : List Formal) (hs : List ℕ) → length fs ≢ length hs → nat_eq (length (map (formal_view g) fs)) (length hs) ≡ false
numbers_not g fs hs e = let l = length-map fs (formal_view g) in grind (arith, nat_tests)

with_numbers : (g : Given) (w : Place) (fs : List Formal) (hs : List ℕ) (ps : List typing.Part) → length fs ≡ length hs → fitting.they_fit g w fs (length hs) ps ≡ all_fit g w fs ps
with_numbers g w fs hs ps e = ap (λ b. b && all_fit g w fs ps) (numbers_by g fs hs e)

module _ (c : CodeView) (s : Store) (fs : List Formal) (hs : List ℕ) where
  abbrev pub Answers : Bool → Type 0
  Answers b = IfSome (fitting.parts c s fs hs) (λ ps. (w : Place) → fitting.they_fit c.given w fs (length hs) ps ≡ b)

  -- there are others
  pub other_number : length fs ≢ length hs → Answers false
  other_number n = if_some (fitting.parts c s fs hs) (λ ps. (w : Place) → fitting.they_fit c.given w fs (length hs) ps ≡ false) (λ ps e. λ w. ap (λ b. b && all_fit c.given w fs ps) (numbers_not c.given fs hs n))

  answers_by : (b : Bool) → length fs ≡ length hs → ((whole : List typing.Part) → fitting.parts c s fs hs ≡ Some whole → (w : Place) → all_fit c.given w fs whole ≡ b) → Answers b
  answers_by b n h = if_some (fitting.parts c s fs hs) (λ ps. (w : Place) → fitting.they_fit c.given w fs (length hs) ps ≡ b) (λ ps e. λ w. with_numbers c.given w fs hs ps n ∙ h ps e w)

  -- those behind so many are read, and all fit just where those do
  pub record RestFits (i : ℕ) : Type 0 where
    pub parts : List typing.Part
    pub is : fitting.parts c s (drop i fs) (drop i hs) ≡ Some parts
    pub same : (whole : List typing.Part) → fitting.parts c s fs hs ≡ Some whole → (w : Place) → all_fit c.given w fs whole ≡ all_fit c.given w (drop i fs) parts

  pub at_first : IsSome (fitting.parts c s fs hs) → RestFits 0
  at_first h = let p = some_there (fitting.parts c s fs hs) h in record { parts = p.0; is = p.1; same = λ whole e w. ap (λ ps. all_fit c.given w fs ps) (cc (e, p.1)) }

  pub at_last : (i : ℕ) → RestFits i → drop i fs ≡ [] → length fs ≡ length hs → Answers true
  at_last i r none n = answers_by true n (λ whole e w. r.same whole e w ∙ ap (λ l. all_fit c.given w l r.parts) none)

  module _ (i : ℕ) (r : RestFits i) (x : Formal) (y : ℕ) (xs : drop i fs ≡ x ∷ drop (i + 1) fs) (ys : drop i hs ≡ y ∷ drop (i + 1) hs) where
    parted : (p : typing.Part) × (qs : List typing.Part) × (fitting.head_part c s x.is y ≡ Some p) × (fitting.parts c s (drop (i + 1) fs) (drop (i + 1) hs) ≡ Some qs) × (r.parts ≡ p ∷ qs)
    parted = split (fitting.head_part c s x.is y) (fitting.parts c s (drop (i + 1) fs) (drop (i + 1) hs)) r.parts (sym (ap (λ l. fitting.parts c s l (drop i hs)) xs ∙ ap (λ l. fitting.parts c s (x ∷ drop (i + 1) fs) l) ys) ∙ r.is)

    text_by : (o : Option TextHead) (p : typing.Part) → option_and_then (λ t. fitting.read_part c s x.is t.reading) o ≡ Some p → IsSome o
    text_by None p e = absurd (cc e)
    text_by (Some t) p e = refl

    pub text_there : IsSome (found.text_at c y)
    text_there = text_by (found.text_at c y) parted.0 parted.2

    module _ (t : TextHead) (te : found.text_at c y ≡ Some t) where
      read : fitting.read_part c s x.is t.reading ≡ Some parted.0
      read = sym (ap (λ o. option_and_then (λ t. fitting.read_part c s x.is t.reading) o) te) ∙ parted.2

      pub part_there : IsSome (fitting.read_part c s x.is t.reading)
      part_there = some_is (fitting.read_part c s x.is t.reading) parted.0 read

      module _ (p : typing.Part) (pe : fitting.read_part c s x.is t.reading ≡ Some p) (b : Bool) (fits : (w : Place) (rest : Verdict) → is_good (rules.table_a w (formal_type_view c.given x.is) p rest) ≡ (b && is_good rest)) where
        parts_are : r.parts ≡ p ∷ parted.1
        parts_are = parted.4 ∙ ap (λ q. q ∷ parted.1) (cc (read, pe))

        rest_is : (w : Place) → all_fit c.given w (drop i fs) r.parts ≡ (b && all_fit c.given w (drop (i + 1) fs) parted.1)
        rest_is w = ap (λ l. all_fit c.given w l r.parts) xs ∙ ap (λ ps. all_fit c.given w (x ∷ drop (i + 1) fs) ps) parts_are ∙ fits w (rules.actuals_fit w (formal_types (map (formal_view c.given) (drop (i + 1) fs))) parted.1 (Good Statement))

        pub one_more : b ≡ true → RestFits (i + 1)
        one_more e = record { parts = parted.1; is = parted.3; same = λ whole h w. r.same whole h w ∙ rest_is w ∙ ap (λ z. z && all_fit c.given w (drop (i + 1) fs) parted.1) e }

        pub unfit : b ≡ false → length fs ≡ length hs → Answers false
        unfit e n = answers_by false n (λ whole h w. r.same whole h w ∙ rest_is w ∙ ap (λ z. z && all_fit c.given w (drop (i + 1) fs) parted.1) e)

  -- the same, whichever formal it is
  pub text_within : (i : ℕ) → RestFits i → i < length fs → (y : ℕ) → drop i hs ≡ y ∷ drop (i + 1) hs → IsSome (found.text_at c y)
  text_within i r h y ys = let d = some_of fs i h in text_there i r (get_or fs i d) y (drop_more fs i d h) ys
