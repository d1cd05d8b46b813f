-- Readers that read nothing where the next token is of none of their kinds.
use Rattle.std.proofs.Common.{◌≡◌, ℕ, Bool, true, false, List, [], ◌∷◌, ◌++◌, length, refl, ◌∙◌, ap, le-ltb, le_refl, Option, Some, None, cond}
use Rattle.algolw_tree.specs.declared.tokens.Token.{Token}
use Rattle.algolw_grammar.specs.Kinds.{kind_number, has, opens}
use Rattle.algolw_grammar.specs.Readers.{Bad, Deep, Reader, taken, then, mapped, picked, read_token, read_both, read_made, read_choice, read_deep}
use Rattle.algolw_grammar.proofs.Sets.{has_none, within, within_has}
use Rattle.algolw_grammar.proofs.Good.{begun, marked, read_beyond}

-- Where the first token, if there is one, isn't of the kinds s, the reader p says before all of the tokens that it doesn't go on.
pub record Unread {A : Type 0} (p : Reader A) (s : List ℕ) : Type 0 where
  pub refuses : (w : List Token) → opens s w ≡ false → p w ≡ Bad None w

pub unread_token : {A : Type 0} (r : Token → Option A) (s : List ℕ) → ((t : Token) (x : A) → r t ≡ Some x → has (kind_number t.kind) s ≡ true) → Unread (read_token r) s
unread_token {A} r s h = record { refuses = refuses }
  where
    go : (t : Token) (w : List Token) → has (kind_number t.kind) s ≡ false → (o : Option A) → r t ≡ o → taken o t w ≡ Bad None (t ∷ w)
    go t w z (Some x) e = let k : has (kind_number t.kind) s ≡ true = h t x e in cc
    go t w z None e = refl

    refuses : (w : List Token) → opens s w ≡ false → read_token r w ≡ Bad None w
    refuses [] z = refl
    refuses (t ∷ w) z = go t w z (r t) refl

pub unread_both : {A B : Type 0} {p : Reader A} (q : Reader B) {s : List ℕ} → Unread p s → Unread (read_both p q) s
unread_both q h = record { refuses = λ w z. ap (then q) (h.refuses w z) }

pub unread_made : {A B : Type 0} (f : A → B) {p : Reader A} {s : List ℕ} → Unread p s → Unread (read_made f p) s
unread_made f h = record { refuses = λ w z. ap (mapped f) (h.refuses w z) }

opens_none : (a b : List ℕ) (w : List Token) → opens (a ++ b) w ≡ false → (opens a w ≡ false) × (opens b w ≡ false)
opens_none a b [] z = (refl, refl)
opens_none a b (t ∷ w) z = has_none (kind_number t.kind) a b z

pub unread_choice : {A : Type 0} {p q : Reader A} {a b : List ℕ} → Unread p a → Unread q b → Unread (read_choice a p q) (a ++ b)
unread_choice {p} {q} {a} {b} h k = record { refuses = λ w z. ap (λ c. picked c p q w) ((opens_none a b w z).0) ∙ k.refuses w ((opens_none a b w z).1) }

opens_within : (s s2 : List ℕ) → within s s2 ≡ true → (w : List Token) → opens s2 w ≡ false → opens s w ≡ false
opens_within s s2 i [] z = refl
opens_within s s2 i (t ∷ w) z = go (has (kind_number t.kind) s) refl
  where
    go : (c : Bool) → has (kind_number t.kind) s ≡ c → c ≡ false
    go true e = let k : has (kind_number t.kind) s2 ≡ true = within_has (kind_number t.kind) s s2 i e in cc
    go false e = refl

pub unread_wide : {A : Type 0} {p : Reader A} {s s2 : List ℕ} → within s s2 ≡ true → Unread p s → Unread p s2
unread_wide {s} {s2} i h = record { refuses = λ w z. h.refuses w (opens_within s s2 i w z) }

pub unread_deep : {A : Type 0} (s : List ℕ) → Unread (read_deep {A = A} s) s
unread_deep s = record { refuses = λ w z. ap (λ c. picked c Deep (Bad None) w) z }

pub begun_self : (w : List Token) → begun w w ≡ None
begun_self w = ap (λ c. cond c (Some w) None) (le-ltb (length w) (length w) (le_refl (length w)))

pub unread_beyond : {A : Type 0} {p : Reader A} {s : List ℕ} → Unread p s → Unread (read_beyond p) s
unread_beyond h = record { refuses = λ w z. ap (marked w) (h.refuses w z) ∙ ap (λ e. Bad e w) (begun_self w) }
