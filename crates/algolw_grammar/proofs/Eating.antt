-- Readers that take a first token of some kinds, or read it beyond the limit.
use Rattle.std.proofs.Common.{◌≡◌, ℕ, ◌≤◌, Bool, true, false, List, [], ◌∷◌, ◌++◌, length, refl, arith, Option, Some, None, ◌||◌, ◌==◌}
use Rattle.algolw_tree.specs.declared.tokens.Token.{Token}
use Rattle.algolw_tree.specs.Parts.{Beyond, Part}
use Rattle.algolw_grammar.specs.Kinds.{kind_number, has}
use Rattle.algolw_grammar.specs.Readers.{Out, Got, Bad, Deep, Reader, read_token, taken, read_made, mapped, read_both, then, behind, read_choice, picked, read_deep}
use Rattle.algolw_grammar.proofs.Sets.{within, within_has}
use Rattle.algolw_grammar.proofs.Good.{Agrees, Good, Eaten, Eats, read_beyond, marked, left_le}

pub token_eats : {A : Type 0} (r : Token → Option A) (s : List ℕ) → ((t : Token) → has (kind_number t.kind) s ≡ true → (x : A) × (r t ≡ Some x)) → Eats (read_token r) s
token_eats {A} r s f t w h = go (f t h)
  where
    go : (x : A) × (r t ≡ Some x) → Eaten (taken (r t) t w) w
    go (x, e) = rw (e, taken, Eaten) (omega arith)

mapped_eaten : {A B : Type 0} (f : A → B) (o : Out A) (w : List Token) → Eaten o w → Eaten (mapped f o) w
mapped_eaten f (Got x e r) w h = h
mapped_eaten f (Bad e r) w h = h
mapped_eaten f (Deep r) w h = tt

pub made_eats : {A B : Type 0} (f : A → B) (p : Reader A) (s : List ℕ) → Eats p s → Eats (read_made f p) s
made_eats f p s k t w h = mapped_eaten f (p (t ∷ w)) w (k t w h)

behind_eaten : {A B : Type 0} (x : A) (d : Beyond) (o : Out B) (r w : List Token) → Agrees o None r → length r ≤ length w → Eaten (behind x d o) w
behind_eaten x d (Got y e z) r w h l = omega arith
behind_eaten x d (Bad e z) r w h l = omega arith
behind_eaten x d (Deep z) r w h l = tt

then_eaten : {A B : Type 0} (q : Reader B) → ((w : List Token) → Agrees (q w) None w) → (o : Out A) (w : List Token) → Eaten o w → Eaten (then q o) w
then_eaten q le (Got x d r) w h = behind_eaten x d (q r) r w (le r) h
then_eaten q le (Bad d r) w h = h
then_eaten q le (Deep r) w h = tt

pub both_eats : {A B : Type 0} (p : Reader A) (s : List ℕ) {h : Part B} {q : Reader B} {fb lb : List ℕ} {nb : Bool} → Good h q fb lb nb → Eats p s → Eats (read_both p q) s
both_eats p s {h} {q} {fb} {lb} {nb} qh k t w e = then_eaten q (left_le h q fb lb nb qh) (p (t ∷ w)) w (k t w e)

has_right_of : (k : ℕ) (a b : List ℕ) → has k a ≡ false → has k (a ++ b) ≡ true → has k b ≡ true
has_right_of k [] b e h = h
has_right_of k (x ∷ a) b e h = go (k == x) e h (has_right_of k a b)
  where
    go : (c : Bool) → (c || has k a) ≡ false → (c || has k (a ++ b)) ≡ true → (has k a ≡ false → has k (a ++ b) ≡ true → has k b ≡ true) → has k b ≡ true
    go true e h r = cc
    go false e h r = r e h

pub choice_eats : {A : Type 0} (p q : Reader A) (a b : List ℕ) → Eats p a → Eats q b → Eats (read_choice a p q) (a ++ b)
choice_eats p q a b ka kb t w h = go (has (kind_number t.kind) a) refl
  where
    go : (c : Bool) → has (kind_number t.kind) a ≡ c → Eaten (picked c p q (t ∷ w)) w
    go true e = ka t w e
    go false e = kb t w (has_right_of (kind_number t.kind) a b e h)

pub wide_eats : {A : Type 0} (p : Reader A) (s s2 : List ℕ) → within s2 s ≡ true → Eats p s → Eats p s2
wide_eats p s s2 i k t w h = k t w (within_has (kind_number t.kind) s2 s i h)

pub deep_eats : (A : Type 0) (s : List ℕ) → Eats (read_deep {A = A} s) s
deep_eats A s t w h = rw (h, picked, Eaten) tt

marked_eaten : {A : Type 0} (u : List Token) (o : Out A) (w : List Token) → Eaten o w → Eaten (marked u o) w
marked_eaten u (Got x d r) w h = h
marked_eaten u (Bad d r) w h = h
marked_eaten u (Deep r) w h = tt

pub beyond_eats : {A : Type 0} (p : Reader A) (s : List ℕ) → Eats p s → Eats (read_beyond p) s
beyond_eats p s k t w h = marked_eaten (t ∷ w) (p (t ∷ w)) w (k t w h)
