-- What the turns of each loop take.
use Rattle.std.proofs.Common.{◌≡◌, ℕ, ◌≤◌, ◌<◌, List, [], ◌∷◌, length, refl, ap, subst, ◌∙◌, arith, Option, Some, None}
use Rattle.algolw_tree.specs.declared.tokens.Token.{Token}
use Rattle.algolw_tree.specs.declared.tokens.Symbol.{Symbol}
use Rattle.algolw_tree.specs.declared.tokens.Symbol.TheVariants.{Comma, Semicolon, Star, Open, Close}
use Rattle.algolw_tree.specs.Parts.{Beyond}
use Rattle.algolw_tree.specs.Grammar.{right, left, applied, link_of}
use Rattle.algolw_grammar.specs.Taken.{symbol_taken}
use Rattle.algolw_grammar.specs.Readers.{Out, Got, Bad, Deep, Reader, taken, then, behind, mapped, read_token, read_both, read_made, read_right, read_left}
use Rattle.algolw_grammar.specs.Reading.{readers, read_symbol, read_name, read_group, read_formal, read_perhaps, read_actual, read_bound, read_item, read_listing, read_decl}
use Rattle.algolw_grammar.proofs.Good.{Eaten, got_rest}
use Rattle.algolw_grammar.proofs.Leaving.{Leaves, leaves_symbol, leaves_name, leaves_group, leaves_formal, leaves_perhaps, leaves_actual, leaves_bound, leaves_item, leaves_list, leaves_left, leaves_decl, leaves_readers, leaves_conj, leaves_neg, leaves_term, leaves_shift, leaves_prim}
use Rattle.algolw_grammar.proofs.LanguageTypes.{or_good, and_good, adding_good, multiplying_good, shifting_good}
use Rattle.algolw_grammar.proofs.LanguageTied.{or_tied, and_tied, adding_tied, multiplying_tied, shifting_tied}
use Rattle.token_reader.specs.Levels.{read_operator, read_operand}
use Rattle.token_reader.specs.declared.operators.Level.{Level}
use Rattle.token_reader.specs.declared.operators.Level.TheVariants.{Or, And, Sum, Term, Shift}
use Rattle.token_reader.proofs.Turns.{Shrinks, shrinks}

-- how many tokens are left of those that a reader leaves
left_of : {A : Type 0} (q : Reader A) → Leaves q → (w : List Token) (x : A) (d : Beyond) (r : List Token) → q w ≡ Got x d r → length r ≤ length w
left_of {A} q ok w x d r e = go (q w) e (ok.leaves w)
  where
    go : (o : Out A) → o ≡ Got x d r → Eaten o w → length r ≤ length w
    go (Got y e s) h k = let i : s ≡ r = got_rest y x e d s r h in subst (λ s. length s ≤ length w) i k
    go (Bad e s) h k = cc
    go (Deep s) h k = cc

shrinks_token : {A : Type 0} (f : Token → Option A) → Shrinks (read_token f)
shrinks_token {A} f = record { less = go }
  where
    one : (o : Option A) (t : Token) (w : List Token) (x : A) (d : Beyond) (r : List Token) → taken o t w ≡ Got x d r → length r < length (t ∷ w)
    one (Some y) t w x d r e = let i : w ≡ r = got_rest y x None d w r e in subst (λ r. length r < length (t ∷ w)) i (omega arith)
    one None t w x d r e = cc

    go : (w : List Token) (x : A) (d : Beyond) (r : List Token) → read_token f w ≡ Got x d r → length r < length w
    go [] x d r e = cc
    go (t ∷ w) x d r e = one (f t) t w x d r e

shrinks_made : {A B : Type 0} (f : A → B) (p : Reader A) → Shrinks p → Shrinks (read_made f p)
shrinks_made {A} {B} f p sh = record { less = λ w x d r e. go w (p w) refl x d r e }
  where
    go : (w : List Token) (o : Out A) → p w ≡ o → (x : B) (d : Beyond) (r : List Token) → mapped f o ≡ Got x d r → length r < length w
    go w (Got y e s) h x d r k = let i : s ≡ r = got_rest (f y) x e d s r k in sh.less w y e r (h ∙ ap (Got y e) i)
    go w (Bad e s) h x d r k = cc
    go w (Deep s) h x d r k = cc

-- the rest behind the second of two
behind_rest : {A B : Type 0} (a : A) (c : Beyond) (o : Out B) (x : A × B) (d : Beyond) (r : List Token) → behind a c o ≡ Got x d r → (b : B) × (e : Beyond) × (o ≡ Got b e r)
behind_rest a c (Got b e s) x d r h = (b, e, ap (Got b e) (got_rest (a, b) x _ d s r h))
behind_rest a c (Bad e s) x d r h = cc
behind_rest a c (Deep s) x d r h = cc

module _ {A B : Type 0} (p : Reader A) (q : Reader B) where
  -- where the first takes a token
  shrinks_both : Shrinks p → Leaves q → Shrinks (read_both p q)
  shrinks_both sh ok = record { less = λ w x d r e. go w (p w) refl x d r e }
    where
      next : (w : List Token) (a : A) (c : Beyond) (s : List Token) → p w ≡ Got a c s → (r : List Token) → (b : B) × (e : Beyond) × (q s ≡ Got b e r) → length r < length w
      next w a c s h r (b, e, k) = let i : length s < length w = sh.less w a c s h in let j : length r ≤ length s = left_of q ok s b e r k in omega arith

      go : (w : List Token) (o : Out A) → p w ≡ o → (x : A × B) (d : Beyond) (r : List Token) → then q o ≡ Got x d r → length r < length w
      go w (Got a c s) h x d r k = next w a c s h r (behind_rest a c (q s) x d r k)
      go w (Bad e s) h x d r k = cc
      go w (Deep s) h x d r k = cc

  -- where the second does
  shrinks_last : Leaves p → Shrinks q → Shrinks (read_both p q)
  shrinks_last ok sh = record { less = λ w x d r e. go w (p w) refl x d r e }
    where
      next : (w : List Token) (a : A) (c : Beyond) (s : List Token) → p w ≡ Got a c s → (r : List Token) → (b : B) × (e : Beyond) × (q s ≡ Got b e r) → length r < length w
      next w a c s h r (b, e, k) = let i : length s ≤ length w = left_of p ok w a c s h in let j : length r < length s = sh.less s b e r k in omega arith

      go : (w : List Token) (o : Out A) → p w ≡ o → (x : A × B) (d : Beyond) (r : List Token) → then q o ≡ Got x d r → length r < length w
      go w (Got a c s) h x d r k = next w a c s h r (behind_rest a c (q s) x d r k)
      go w (Bad e s) h x d r k = cc
      go w (Deep s) h x d r k = cc

-- a symbol, and what leaves no more than there was
shrinks_behind : {A : Type 0} (x : Symbol) (p : Reader A) → Leaves p → Shrinks (read_right (read_symbol x) p)
shrinks_behind x p ok = shrinks_made right _ (shrinks_both (read_symbol x) p (shrinks_token (symbol_taken x)) ok)

pub shrinks_name : Shrinks (read_right (read_symbol Comma) read_name)
shrinks_name = shrinks_behind Comma read_name leaves_name

pub shrinks_group : Shrinks (read_right (read_symbol Semicolon) read_group)
shrinks_group = shrinks_behind Semicolon read_group leaves_group

pub shrinks_star : Shrinks (read_right (read_symbol Comma) (read_symbol Star))
shrinks_star = shrinks_behind Comma (read_symbol Star) (leaves_symbol Star)

pub shrinks_formal : Shrinks (read_right (read_symbol Semicolon) read_formal)
shrinks_formal = shrinks_behind Semicolon read_formal leaves_formal

module _ (n : ℕ) where
  pub shrinks_phrase : Shrinks (read_right (read_symbol Comma) (readers n).phrase)
  shrinks_phrase = shrinks_behind Comma _ (leaves_readers n).phrase

  pub shrinks_part : Shrinks (read_right (read_symbol Semicolon) (read_perhaps (readers n)))
  shrinks_part = shrinks_behind Semicolon _ (leaves_perhaps _ (leaves_readers n))

  pub shrinks_actual : Shrinks (read_right (read_symbol Comma) (read_actual (readers n)))
  shrinks_actual = shrinks_behind Comma _ (leaves_actual _ (leaves_readers n))

  pub shrinks_bound : Shrinks (read_right (read_symbol Comma) (read_bound (readers n)))
  shrinks_bound = shrinks_behind Comma _ (leaves_bound _ (leaves_readers n))

  pub shrinks_item : Shrinks (read_right (read_symbol Semicolon) (read_item (readers n)))
  shrinks_item = shrinks_behind Semicolon _ (leaves_item _ (leaves_readers n))

  pub shrinks_decl : Shrinks (read_left (read_decl (readers n)) (read_symbol Semicolon))
  shrinks_decl = shrinks_made left _ (shrinks_last _ _ (leaves_decl _ (leaves_readers n)) (shrinks_token (symbol_taken Semicolon)))

  pub shrinks_listing : Shrinks (read_listing (readers n))
  unfolding read_listing
  shrinks_listing = shrinks_made applied _ (shrinks_both _ _ (shrinks_token (symbol_taken Open)) (leaves_left (leaves_list _ (leaves_readers n)) (leaves_symbol Close)))

  shrinks_operator : (level : Level) → Shrinks (read_operator level)
  shrinks_operator Or = shrinks or_good or_tied
  shrinks_operator And = shrinks and_good and_tied
  shrinks_operator Sum = shrinks adding_good adding_tied
  shrinks_operator Term = shrinks multiplying_good multiplying_tied
  shrinks_operator Shift = shrinks shifting_good shifting_tied

  leaves_operand : (level : Level) → Leaves (read_operand level (readers n))
  leaves_operand Or = leaves_conj _ (leaves_readers n)
  leaves_operand And = leaves_neg _ (leaves_readers n)
  leaves_operand Sum = leaves_term _ (leaves_readers n)
  leaves_operand Term = leaves_shift _ (leaves_readers n)
  leaves_operand Shift = leaves_prim _ (leaves_readers n)

  pub shrinks_link : (level : Level) → Shrinks (read_made link_of (read_both (read_operator level) (read_operand level (readers n))))
  shrinks_link level = shrinks_made link_of _ (shrinks_both _ _ (shrinks_operator level) (leaves_operand level))
