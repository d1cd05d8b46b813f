-- Parts of code that are fit where they stand, and how they are put together.
use Rattle.std.proofs.Common.{◌≡◌, ℕ, ◌+◌, ◌<◌, ◌≤◌, ◌⊎◌, inl, inr, List, [], ◌∷◌, length, Some, None, refl, ap, subst, arith}
use Rattle.std.proofs.lemmas.Bool.Decides.{leb_tells}
use Rattle.std.specs.Prelude.{slice_get, nat_le, true, false}
use Rattle.value_ops.specs.declared.places.Place.{Place}
use Rattle.stack_code.specs.Instr as instr
use Rattle.stack_code.specs.Instr.{Instr, TextHead}
use Rattle.stack_code.specs.Code.{Coded, text_of}
use Rattle.stack_code.specs.GoingOn.{Stands, StandsText, ends_behind, BeginsText, WellFormedAside, WellFormedAt, Ahead}
use Rattle.phrase_code.specs.Coding.{◌▸◌, one}
use Rattle.phrase_code.proofs.Sizes.{length_code}

module _ (program : List Coded) where
  -- this code stands at k
  abbrev pub Written : ℕ → List Coded → Type 0
  Written k [] = Unit {0}
  Written k (i ∷ is) = (slice_get program k ≡ Some i) × Written (k + 1) is

  pub front : (k : ℕ) (a b : List Coded) → Written k (a ▸ b) → Written k a
  front k [] b h = tt
  front k (i ∷ a) b h = (h.0, front (k + 1) a b h.1)

  pub rest : (k e : ℕ) (a b : List Coded) → k + length a ≡ e → Written k (a ▸ b) → Written e b
  rest k e [] b q h = subst (λ l. Written l b) (omega (arith, q)) h
  rest k e (i ∷ a) b q h = rest (k + 1) e a b (omega (arith, q)) h.1

  -- a text that begins there ends within the top
  abbrev pub EndsBy : ℕ → Instr → Type 0
  EndsBy top i = (behind : ℕ) → ends_behind i ≡ Some behind → behind ≤ top

  pub record FitThere (top k : ℕ) (c : Coded) : Type 0 where
    pub fit : WellFormedAt program k c.does
    pub ends : EndsBy top c.does

  -- the instructions from k to e are fit, and the texts that begin there end within the top
  abbrev pub Piece : (top k e : ℕ) → Type 0
  Piece top k e = (j : ℕ) → k ≤ j → j < e → (c : Coded) → slice_get program j ≡ Some c → FitThere top j c

  pub wider : (top more k e : ℕ) → top ≤ more → Piece top k e → Piece more k e
  wider top more k e l p j a b c g = let x = p j a b c g in record { fit = x.fit; ends = λ behind q. let i = x.ends behind q in omega (arith, i, l) }

  pub both : (top k m e : ℕ) → Piece top k m → Piece top m e → Piece top k e
  both top k m e p q j a b c g = by (leb_tells m j)
    where
      by : ((nat_le m j ≡ true) × (m ≤ j)) ⊎ ((nat_le m j ≡ false) × (j < m)) → FitThere top j c
      by (inl x) = q j x.1 b c g
      by (inr x) = p j a x.1 c g

-- code from k to e that is fit wherever it stands within an instruction at the top
pub record Part (program : List Coded) (top k : ℕ) (a : List Coded) (e : ℕ) : Type 0 where
  pub long : k + length a ≡ e
  pub piece : Stands program top → Written program k a → Piece program top k e

pub none : {program : List Coded} {top k : ℕ} → Part program top k [] k
none {program} {top} {k} = record { long = omega arith; piece = λ t h j a b c g. absurd (omega (arith, a, b)) }

pub then : {program : List Coded} {top k m e : ℕ} {a b : List Coded} → Part program top k a m → Part program top m b e → Part program top k (a ▸ b) e
then {program} {top} {k} {m} {e} {a} {b} p q =
    let x = p.long in
    let y = q.long in
    let z = length_code a b in
    record { long = omega (arith, x, y, z); piece = λ t h. both program top k m e (p.piece t (front program k a b h)) (q.piece t (rest program k m a b x h)) }

-- the same from an equal number on, and to one
pub from : {program : List Coded} {top k m e : ℕ} {a : List Coded} → m ≡ k → Part program top m a e → Part program top k a e
from {program} {top} {k} {m} {e} {a} q p = subst (λ l. Part program top l a e) q p

pub to : {program : List Coded} {top k m e : ℕ} {a : List Coded} → m ≡ e → Part program top k a m → Part program top k a e
to {program} {top} {k} {m} {e} {a} q p = subst (λ l. Part program top k a l) q p

-- of an equal size
pub resized : {program : List Coded} {k m n : ℕ} {a : List Coded} → m ≡ n → Part program (k + m) k a (k + m) → Part program (k + n) k a (k + n)
resized {program} {k} {m} {n} {a} q p = subst (λ l. Part program (k + l) k a (k + l)) q p

pub within : {program : List Coded} {top more k e : ℕ} {a : List Coded} → top ≤ more → Part program top k a e → Part program more k a e
within {program} {top} {more} {k} {e} {a} l p = record { long = p.long; piece = λ t h. wider program top more k e l (p.piece (omega (arith, t, l)) h) }

-- where it is known what stands there
pub knowing : {program : List Coded} {top k e : ℕ} {a : List Coded} → k + length a ≡ e → (Stands program top → Written program k a → Part program top k a e) → Part program top k a e
knowing l f = record { long = l; piece = λ t h. (f t h).piece t h }

-- one instruction
pub single : {program : List Coded} {top k : ℕ} (w : Place) (i : Instr) → (Stands program top → WellFormedAt program k i) → EndsBy program top i → Part program top k (one w i) (k + 1)
single {program} {top} {k} w i f n = record { long = omega arith; piece = λ t h j a b c g. by t h.0 j (omega (arith, a, b)) c g }
  where
    same : (x c : Coded) → x ≡ c → FitThere program top k x → FitThere program top k c
    same x c e y = subst (FitThere program top k) e y

    by : Stands program top → slice_get program k ≡ Some (record { at = w; does = i }) → (j : ℕ) → k ≡ j → (c : Coded) → slice_get program j ≡ Some c → FitThere program top j c
    by t h j e c g = subst (λ l. FitThere program top l c) e (same (record { at = w; does = i }) c (let q = ap (slice_get program) e in cc (h, g, q)) (record { fit = f t; ends = n }))

-- one that begins no text
pub plain : {program : List Coded} {top k : ℕ} (w : Place) (i : Instr) → ends_behind i ≡ None → (Stands program top → WellFormedAt program k i) → Part program top k (one w i) (k + 1)
plain w i n f = single w i f (λ behind q. absurd (cc (n, q)))

-- one that goes on behind it
pub next : {program : List Coded} {top k : ℕ} (w : Place) (i : Instr) → ends_behind i ≡ None → (Stands program (k + 1) → WellFormedAt program k i) → k + 1 ≤ top → Part program top k (one w i) (k + 1)
next w i n f l = plain w i n (λ t. f (omega (arith, t, l)))

pub stuck : {program : List Coded} {top k : ℕ} (w : Place) → Part program top k (one w instr.Stuck) (k + 1)
stuck w = plain w instr.Stuck refl (λ t. tt)

pub ahead : {program : List Coded} {k target top : ℕ} → k < target → target ≤ top → Stands program top → Ahead program k target
ahead a b t = record { after = a; stands = omega (arith, a, b, t) }

-- ---- texts

module _ (program : List Coded) where
  -- the head of a text that ends behind m
  pub record Headed (k m : ℕ) : Type 0 where
    pub at : Place
    pub head : TextHead
    pub is : slice_get program k ≡ Some (record { at = at; does = instr.Text head m })

  pub text_stands : (k m : ℕ) → Headed k m → StandsText program k
  text_stands k m h = record { head = h.head; is = ap text_of h.is }

  -- an aside from j to a text in front of it, from whose head on no text ends behind j
  pub fit_aside : (h m j : ℕ) → Headed h m → m ≤ j → Piece program j h j → WellFormedAside program j h
  fit_aside h m j x l p = record {
    text = text_stands h m x;
    behind = m;
    ends = record { coded = record { at = x.at; does = instr.Text x.head m }; is = x.is; ends = refl };
    before = l;
    within = λ round end b i k. by round end b i k (leb_tells h round);
  }
    where
      by : (round end : ℕ) → BeginsText program round end → round < j → j < end → ((nat_le h round ≡ true) × (h ≤ round)) ⊎ ((nat_le h round ≡ false) × (round < h)) → round < h
      by round end b i k (inr y) = y.1
      by round end b i k (inl y) = let z = (p round y.1 i b.coded b.is).ends end b.ends in absurd (omega (arith, z, k))
