-- Parts of a grammar whose values hold texts, where the tokens do that spell them.
use Rattle.std.proofs.Common.{◌≡◌, List, [], ◌∷◌, ◌++◌, sym, subst, inl, inr, Option, Some, None}
use Rattle.std.specs.Prelude.{⊤}
use Rattle.algolw_tree.specs.declared.tokens.Token.{Token}
use Rattle.algolw_tree.specs.Parts.{Part, Beyond, token, nothing, empty, both, choice, made, many, many_spells, else_part, else_spells, beyond, nowhere}
use Rattle.algolw_tree.specs.Grammar.{left, right, applied}
use Rattle.printable_programs.proofs.Trees.{Each, TokenHolds}

-- what nothing is asked of
abbrev pub Any : {A : Type 0} → A → Type 0
Any x = ⊤

abbrev pub Both : {A B : Type 0} → (A → Type 0) → (B → Type 0) → A × B → Type 0
Both V W x = V x.0 × W x.1

-- what there is
abbrev pub Perhaps : {A : Type 0} → (A → Type 0) → Option A → Type 0
Perhaps W None = ⊤
Perhaps W (Some x) = W x

-- what makes one of the other
abbrev pub To : {A B : Type 0} → (A → Type 0) → (B → Type 0) → (A → B) → Type 0
To {A} V W f = (x : A) → V x → W (f x)

-- of a list into what is made of it
pub each_into : {A : Type 0} (W : A → Type 0) (Q : List A → Type 0) → Q [] → ((x : A) (xs : List A) → W x → Q xs → Q (x ∷ xs)) → (xs : List A) → Each W xs → Q xs
each_into W Q none more [] h = none
each_into W Q none more (x ∷ xs) h = more x xs h.0 (each_into W Q none more xs h.1)

each_front : (v w : List Token) → Each TokenHolds (v ++ w) → Each TokenHolds v
each_front [] w h = tt
each_front (t ∷ v) w h = (h.0, each_front v w h.1)

each_rest : (v w : List Token) → Each TokenHolds (v ++ w) → Each TokenHolds w
each_rest [] w h = h
each_rest (t ∷ v) w h = each_rest v w h.1

front_of : {u : List Token} (v w : List Token) → u ≡ v ++ w → Each TokenHolds u → Each TokenHolds v
front_of v w e h = each_front v w (subst (Each TokenHolds) e h)

rest_of : {u : List Token} (v w : List Token) → u ≡ v ++ w → Each TokenHolds u → Each TokenHolds w
rest_of v w e h = each_rest v w (subst (Each TokenHolds) e h)

-- whatever the part spells with such tokens
pub record Spelt {A : Type 0} (W : A → Type 0) (g : Part A) : Type 0 where
  pub by : (c : Option Token) (u : List Token) (x : A) (b : Beyond) → g.spells c u x b → Each TokenHolds u → W x

pub spelt_any : {A : Type 0} (g : Part A) → Spelt Any g
spelt_any g = record { by = λ c u x b h t. tt }

pub spelt_token : {A : Type 0} (W : A → Type 0) (f : A → Token) → ((x : A) → TokenHolds (f x) → W x) → Spelt W (token f)
unfolding token
spelt_token W f a = record { by = λ c u x b h t. a x (subst (Each TokenHolds) h.0 t).0 }

pub spelt_nothing : {A : Type 0} (W : A → Type 0) (x : A) → W x → Spelt W (nothing x)
unfolding nothing
spelt_nothing W x a = record { by = λ c u y b h t. subst W (sym h.1) a }

pub spelt_empty : {A : Type 0} (W : A → Type 0) (f : Token → A) → ((t : Token) → W (f t)) → Spelt W (empty f)
unfolding empty
spelt_empty W f a = record { by = λ c u y b h t. subst W (sym h.1.2) (a h.1.0) }

pub spelt_both : {A B : Type 0} {V : A → Type 0} {W : B → Type 0} {g : Part A} {h : Part B} → Spelt V g → Spelt W h → Spelt (Both V W) (both g h)
unfolding both
spelt_both {V = V} {W = W} {g = g} {h = h} a b = record { by = go }
  where
    go : (c : Option Token) (u : List Token) (x : _) (d : Beyond) → (both g h).spells c u x d → Each TokenHolds u → Both V W x
    go c u x d (v, w, e, f, i, j, s, t) l = (a.by _ v x.0 e s (front_of v w i l), b.by c w x.1 f t (rest_of v w i l))

pub spelt_choice : {A : Type 0} {W : A → Type 0} {g h : Part A} → Spelt W g → Spelt W h → Spelt W (choice g h)
unfolding choice
spelt_choice {W = W} {g = g} {h = h} a b = record { by = go }
  where
    go : (c : Option Token) (u : List Token) (x : _) (d : Beyond) → (choice g h).spells c u x d → Each TokenHolds u → W x
    go c u x d (inl s) l = a.by c u x d s l
    go c u x d (inr s) l = b.by c u x d s l

pub spelt_made : {A B : Type 0} {V : A → Type 0} (W : B → Type 0) (f : A → B) {g : Part A} → ((x : A) → V x → W (f x)) → Spelt V g → Spelt W (made f g)
unfolding made
spelt_made W f i a = record { by = λ c u y d s l. subst W (sym s.2) (i s.0 (a.by c u s.0 d s.1 l)) }

pub spelt_many : {A : Type 0} {W : A → Type 0} {g : Part A} → Spelt W g → Spelt (Each W) (many g)
unfolding many
spelt_many {A = A} {W = W} {g = g} a = record { by = go }
  where
    go : (c : Option Token) (u : List Token) (xs : List A) (d : Beyond) → many_spells g c u xs d → Each TokenHolds u → Each W xs
    go c u [] d s l = tt
    go c u (x ∷ xs) d (v, w, e, f, i, j, s, t) l = (a.by _ v x e s (front_of v w i l), go c w xs f t (rest_of v w i l))

pub spelt_else : {A : Type 0} {W : A → Type 0} {g : Part A} → Spelt W g → Spelt (Perhaps W) (else_part g)
unfolding else_part
spelt_else {A = A} {W = W} {g = g} a = record { by = go }
  where
    go : (c : Option Token) (u : List Token) (x : Option A) (d : Beyond) → else_spells g c u x d → Each TokenHolds u → Perhaps W x
    go c u None d s l = tt
    go c u (Some x) d s l = a.by c u x d s l

pub spelt_beyond : {A : Type 0} {W : A → Type 0} {g : Part A} → Spelt W g → Spelt W (beyond g)
unfolding beyond
spelt_beyond a = record { by = λ c u x b s l. a.by c u x s.0 s.1 l }

pub spelt_nowhere : {A : Type 0} (W : A → Type 0) → Spelt W nowhere
unfolding nowhere
spelt_nowhere W = record { by = λ c u x b s l. absurd s }

pub spelt_left : {A B : Type 0} {W : A → Type 0} {g : Part A} (h : Part B) → Spelt W g → Spelt W (made left (both g h))
spelt_left {W = W} h a = spelt_made W left (λ x s. s.0) (spelt_both a (spelt_any h))

pub spelt_right : {A B : Type 0} {W : B → Type 0} (g : Part A) {h : Part B} → Spelt W h → Spelt W (made right (both g h))
spelt_right {W = W} g a = spelt_made W right (λ x s. s.1) (spelt_both (spelt_any g) a)

pub spelt_applied : {A B : Type 0} {V : A → Type 0} {W : B → Type 0} {g : Part A} {h : Part (A → B)} → Spelt V g → Spelt (To V W) h → Spelt W (made applied (both g h))
spelt_applied {W = W} a b = spelt_made W applied (λ x s. s.1 x.0 s.0) (spelt_both a b)
