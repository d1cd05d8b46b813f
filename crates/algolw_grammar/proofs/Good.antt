-- When a reader reads a part of a grammar, and small facts about what is read.
use Rattle.std.proofs.Common.{◌≡◌, ℕ, suc, ◌+◌, ◌≤◌, Bool, true, false, List, [], ◌∷◌, ◌++◌, length, refl, sym, ap, append_assoc, ◌⊎◌, Option, Some, None}
use Rattle.std.specs.Prelude.{cond, nat_lt}
use Rattle.algolw_tree.specs.declared.tokens.Token.{Token}
use Rattle.algolw_tree.specs.Parts.{Beyond, Part, follow, across}
use Rattle.algolw_grammar.specs.Kinds.{kind_number, has}
use Rattle.algolw_grammar.specs.Readers.{Out, Got, Bad, Deep, Reader, earlier}
use Rattle.algolw_grammar.proofs.Sets.{has_none}

-- The first token, where there is one, is of none of these kinds.
abbrev pub Clear : List ℕ → List Token → Type 0
Clear s [] = Unit {0}
Clear s (t ∷ ts) = has (kind_number t.kind) s ≡ false

-- Where a list goes beyond the limit, with further tokens behind it.
abbrev pub before : Beyond → List Token → Beyond
before (Some from) y = Some (from ++ y)
before None y = None

-- What was read of a list and tokens y behind it goes beyond the limit where the list does; or more than the list was read, and its
-- last token as something else.
abbrev pub Kept : Beyond → Beyond → List Token → List Token → Type 0
Kept None e r y = Unit {0}
Kept (Some from) e r y = (e ≡ Some (from ++ y)) ⊎ (suc (length r) ≤ length y)

abbrev pub Agrees : {A : Type 0} → Out A → Beyond → List Token → Type 0
Agrees (Got x e r) d y = (length r ≤ length y) × Kept d e r y
Agrees (Bad e r) d y = (length r ≤ length y) × Kept d e r y
Agrees (Deep r) d y = Unit {0}

-- The reader p reads the part g, which begins with a token of the first kinds, and may go on, where it is complete, with one of
-- the last; without tokens it is spelled only where null is true.
pub record Good {A : Type 0} (g : Part A) (p : Reader A) (first last : List ℕ) (null : Bool) : Type 0 where
  pub starts : (t : Token) (v : List Token) (b : Beyond) → g.begins (t ∷ v) b → has (kind_number t.kind) first ≡ true
  pub empty : g.begins [] None
  pub silent : (b : Beyond) → g.begins [] b → b ≡ None
  pub whole : (c : Option Token) (u : List Token) (x : A) (b : Beyond) → g.spells c u x b → g.begins u b
  pub fronts : (u v : List Token) (b : Beyond) → g.begins (u ++ v) b → (d : Beyond) × g.begins u d
  pub nulls : (c : Option Token) (x : A) (b : Beyond) → g.spells c [] x b → null ≡ true
  pub sound : (w : List Token) (x : A) (e : Beyond) (rest : List Token) → p w ≡ Got x e rest → (u : List Token) × (d : Beyond) × (w ≡ u ++ rest) × (e ≡ before d rest) × g.spells (follow rest None) u x d
  pub stops : (w : List Token) (e : Beyond) (rest : List Token) → p w ≡ Bad e rest → (u : List Token) × (d : Beyond) × (w ≡ u ++ rest) × (e ≡ before d rest) × g.begins u d
  pub takes : (u rest : List Token) (x : A) (d : Beyond) → g.spells (follow rest None) u x d → Clear last rest → p (u ++ rest) ≡ Got x (before d rest) rest
  pub reads : (v y : List Token) (d : Beyond) → g.begins v d → Agrees (p (v ++ y)) d y

-- What is begun directly beyond the limit is marked so.
abbrev pub begun : List Token → List Token → Beyond
begun w r = cond (nat_lt (length r) (length w)) (Some w) None

abbrev pub marked : {A : Type 0} → List Token → Out A → Out A
marked w (Got x d r) = Got x (Some w) r
marked w (Bad d r) = Bad (begun w r) r
marked w (Deep r) = Deep w

abbrev pub read_beyond : {A : Type 0} → Reader A → Reader A
read_beyond p w = marked w (p w)

-- A token of these kinds is taken, or read beyond the limit.
abbrev pub Eaten : {A : Type 0} → Out A → List Token → Type 0
Eaten (Got x e r) w = length r ≤ length w
Eaten (Bad e r) w = length r ≤ length w
Eaten (Deep r) w = Unit {0}

abbrev pub Eats : {A : Type 0} → Reader A → List ℕ → Type 0
Eats p s = (t : Token) (w : List Token) → has (kind_number t.kind) s ≡ true → Eaten (p (t ∷ w)) w

-- What stands behind labels. Where two tokens are a label, it doesn't begin with them; and a token that may begin a label is taken.
pub record Behind {A B : Type 0} (label : Token → Token → Option B) (name : Token → Option B) (g : Part A) (p : Reader A) : Type 0 where
  pub two : (t k : Token) (v : List Token) (l : B) (b : Beyond) → label t k ≡ Some l → g.begins (t ∷ k ∷ v) b → ⊥
  pub one : (t : Token) (y : List Token) (l : B) → name t ≡ Some l → Eaten (p (t ∷ y)) y

abbrev pub IsDeep : {A : Type 0} → Out A → Type 0
IsDeep (Got x d r) = ⊥
IsDeep (Bad d r) = ⊥
IsDeep (Deep r) = Unit {0}

-- h and its reader q have one level more than g and its reader p: they say as much, and where p isn't out of levels, q reads the
-- same. Lists of which twice the length is at most j don't bring p out of levels.
pub record Climbs {A : Type 0} (g h : Part A) (p q : Reader A) (j : ℕ) : Type 0 where
  pub spelled : (c : Option Token) (u : List Token) (x : A) (b : Beyond) → g.spells c u x b → h.spells c u x b
  pub begins : (u : List Token) (b : Beyond) → g.begins u b → h.begins u b
  pub same : (w : List Token) → IsDeep (p w) ⊎ (p w ≡ q w)
  pub shallow : (w : List Token) → length w + length w ≤ j → IsDeep (p w) → ⊥
  pub less : (w : List Token) (x : A) (e : Beyond) (r : List Token) → p w ≡ Got x e r → length r ≤ length w

-- What a reader that stops beyond the limit gives, where one that marks it gives this.
abbrev pub cut : {A : Type 0} → Out A → Out A
cut (Got x None r) = Got x None r
cut (Got x (Some from) r) = Deep from
cut (Bad None r) = Bad None r
cut (Bad (Some from) r) = Deep from
cut (Deep r) = Deep r

-- The last token is the end of the deck.
abbrev pub Ends : List Token → Type 0
Ends [] = ⊥
Ends (t ∷ []) = kind_number t.kind ≡ 69
Ends (t ∷ k ∷ w) = Ends (k ∷ w)

abbrev pub EndsOut : {A : Type 0} → Out A → Type 0
EndsOut (Got x d r) = Ends r
EndsOut (Bad d r) = Ends r
EndsOut (Deep r) = Ends r

-- The reader q stops beyond the limit, which the reader p marks; and it leaves the end of the deck.
pub record Tied {A : Type 0} (p q : Reader A) : Type 0 where
  pub cuts : (w : List Token) → q w ≡ cut (p w)
  pub ends : (w : List Token) → Ends w → EndsOut (q w)

-- small facts

pub got_value : {A : Type 0} (a b : A) (d e : Beyond) (r s : List Token) → Got a d r ≡ Got b e s → a ≡ b
got_value a b d e r s h = cc

pub got_beyond : {A : Type 0} (a b : A) (d e : Beyond) (r s : List Token) → Got a d r ≡ Got b e s → d ≡ e
got_beyond a b d e r s h = cc

pub got_rest : {A : Type 0} (a b : A) (d e : Beyond) (r s : List Token) → Got a d r ≡ Got b e s → r ≡ s
got_rest a b d e r s h = cc

pub bad_beyond : {A : Type 0} (d e : Beyond) (r s : List Token) → ◌≡◌ {A = Out A} (Bad d r) (Bad e s) → d ≡ e
bad_beyond d e r s h = cc

pub bad_rest : {A : Type 0} (d e : Beyond) (r s : List Token) → ◌≡◌ {A = Out A} (Bad d r) (Bad e s) → r ≡ s
bad_rest d e r s h = cc

pub deep_rest : {A : Type 0} (r s : List Token) → ◌≡◌ {A = Out A} (Deep r) (Deep s) → r ≡ s
deep_rest r s h = cc

pub follow_append : (w rest : List Token) (c : Option Token) → follow (w ++ rest) c ≡ follow w (follow rest c)
follow_append [] rest c = refl
follow_append (t ∷ w) rest c = refl

pub append_nil : {A : Type 0} (xs : List A) → xs ++ [] ≡ xs
append_nil [] = refl
append_nil (x ∷ xs) = ap (λ ys. x ∷ ys) (append_nil xs)

pub clear_left : (a b : List ℕ) (w : List Token) → Clear (a ++ b) w → Clear a w
clear_left a b [] h = tt
clear_left a b (t ∷ w) h = (has_none (kind_number t.kind) a b h).0

pub clear_right : (a b : List ℕ) (w : List Token) → Clear (a ++ b) w → Clear b w
clear_right a b [] h = tt
clear_right a b (t ∷ w) h = (has_none (kind_number t.kind) a b h).1

-- beyond the limit in two lists and what follows
pub before_across : (d : Beyond) (w : List Token) (e : Beyond) (rest : List Token) → earlier (before d (w ++ rest)) (before e rest) ≡ before (across d w e) rest
before_across None w e rest = refl
before_across (Some from) w e rest = ap Some (sym (append_assoc from w rest))

pub before_nil : (d : Beyond) → before d [] ≡ d
before_nil None = refl
before_nil (Some from) = ap Some (append_nil from)

pub across_nil : (d : Beyond) → across d [] None ≡ d
across_nil None = refl
across_nil (Some from) = ap Some (append_nil from)

-- what reads a list leaves no more than there was
pub left_le : {A : Type 0} (g : Part A) (p : Reader A) (first last : List ℕ) (null : Bool) → Good g p first last null → (w : List Token) → Agrees (p w) None w
left_le g p first last null ok w = ok.reads [] w None ok.empty
