-- Repetition, a turn at a time; and what stands before what is read.
use Rattle.std.proofs.Common.{◌≡◌, ℕ, zero, suc, ◌≤◌, ◌<◌, Bool, true, false, List, [], ◌∷◌, ◌++◌, length, refl, sym, ◌∙◌, ap, subst, arith, append_assoc, Some, None, length-append, map, Result, Ok, Err}
use Rattle.algolw_tree.specs.declared.tokens.Token.{Token}
use Rattle.algolw_tree.specs.Parts.{Beyond, Part, follow}
use Rattle.value_ops.specs.declared.places.Place.{Place}
use Rattle.algolw_tree.specs.declared.tokens.Word.TheVariants.{For, Do}
use Rattle.algolw_tree.specs.declared.tokens.Symbol.TheVariants.{Comma, Becomes}
use Rattle.algolw_tree.specs.Tree.{Phrase, Placed}
use Rattle.algolw_tree.specs.Grammar.{onto, applied, left, for_list, for_of}
use Rattle.algolw_grammar.specs.Kinds.{has, kind_number, opens}
use Rattle.algolw_grammar.specs.Reading.{Readers, read_word, read_symbol, read_name, read_later, read_perhaps, read_for, read_for_end, listing_values}
use Rattle.algolw_grammar.specs.Readers.{read_left, Out, Got, Bad, Deep, Reader, mapped, behind, then, picked, on_front, more, turns, read_many, read_both, read_choice, gathered, read_nothing}
use Rattle.algolw_grammar.proofs.Good.{Good, Tied, cut, append_nil, before}
use Rattle.token_reader.specs.Gives.{Fails, Gives}
use Rattle.std.specs.Result.{IsErr, IsErrAnd}
use Rattle.token_reader.specs.declared.stop.Stop.{Stop}
use Rattle.token_reader.specs.declared.stop.Stop.TheVariants.{Memory, Unexpected, TooDeep}

pub onto_gathered : {A : Type 0} (x : A) (o : Out (List A)) → mapped onto (behind x None o) ≡ gathered (x ∷ []) o
onto_gathered x (Got xs d r) = refl
onto_gathered x (Bad d r) = refl
onto_gathered x (Deep r) = refl

pub applied_behind : {A B : Type 0} (x : A) (o : Out (A → B)) → mapped applied (behind x None o) ≡ mapped (λ f. f x) o
applied_behind x (Got f d r) = refl
applied_behind x (Bad d r) = refl
applied_behind x (Deep r) = refl

gathered_more : {A : Type 0} (xs : List A) (x : A) (o : Out (List A)) → gathered xs (on_front x None o) ≡ gathered (xs ++ (x ∷ [])) o
gathered_more xs x (Got ys d r) = ap (λ zs. Got zs d r) (sym (append_assoc xs (x ∷ []) ys))
gathered_more xs x (Bad d r) = refl
gathered_more xs x (Deep r) = refl

pub gathered_none : {A : Type 0} (o : Out (List A)) → gathered [] o ≡ o
gathered_none (Got ys d r) = refl
gathered_none (Bad d r) = refl
gathered_none (Deep r) = refl

-- what reads an item takes a token
pub record Shrinks {A : Type 0} (p : Reader A) : Type 0 where
  pub less : (w : List Token) (x : A) (d : Beyond) (r : List Token) → p w ≡ Got x d r → length r < length w

pub shrinks : {A : Type 0} {g : Part A} {p q : Reader A} {fa la : List ℕ} → Good g p fa la false → Tied p q → Shrinks q
shrinks {A} {g} {p} {q} ok tied = record { less = λ w x d r e. go w (p w) refl x d r (sym (tied.cuts w) ∙ e) }
  where
    found : (w : List Token) (x : A) (r : List Token) → (u : List Token) × (d : Beyond) × (w ≡ u ++ r) × (None ≡ before d r) × g.spells (follow r None) u x d → length r < length w
    found w x r ([], d, f, k, s) = let z : false ≡ true = ok.nulls _ x d s in cc
    found w x r (t ∷ u, d, f, k, s) = let h : length w ≡ suc (length (u ++ r)) = ap length f in omega (arith, length-append u r)

    rest_of : (x y : A) (d : Beyond) (r s : List Token) → Got x None r ≡ Got y d s → r ≡ s
    rest_of x y d r s e = cc

    go : (w : List Token) (o : Out A) → p w ≡ o → (x : A) (d : Beyond) (r : List Token) → cut o ≡ Got x d r → length r < length w
    go w (Got y None s) e x d r h = let k : s ≡ r = rest_of y x d s r h in found w y r (ok.sound w y None r (e ∙ ap (Got y None) k))
    go w (Got y (Some from) s) e x d r h = cc
    go w (Bad None s) e x d r h = cc
    go w (Bad (Some from) s) e x d r h = cc
    go w (Deep s) e x d r h = cc

module _ {A : Type 0} (s : List ℕ) (p : Reader A) (sh : Shrinks p) where
  turns_any : (n m : ℕ) (w : List Token) → length w ≤ n → length w ≤ m → turns s p n w ≡ turns s p m w
  turns_any zero zero w h k = refl
  turns_any zero (suc m) [] h k = refl
  turns_any zero (suc m) (t ∷ w) h k = absurd (omega arith)
  turns_any (suc n) zero [] h k = refl
  turns_any (suc n) zero (t ∷ w) h k = absurd (omega arith)
  turns_any (suc n) (suc m) w h k = go (opens s w) (p w) refl (λ r l. turns_any n m r (omega arith) (omega arith))
    where
      inner : (o : Out A) → p w ≡ o → ((r : List Token) → length r < length w → turns s p n r ≡ turns s p m r) → more (turns s p n) o ≡ more (turns s p m) o
      inner (Got x d r) e rec = ap (on_front x d) (rec r (sh.less w x d r e))
      inner (Bad d r) e rec = refl
      inner (Deep r) e rec = refl

      go : (b : Bool) (o : Out A) → p w ≡ o → ((r : List Token) → length r < length w → turns s p n r ≡ turns s p m r) → picked b (λ w. more (turns s p n) (p w)) (read_nothing []) w ≡ picked b (λ w. more (turns s p m) (p w)) (read_nothing []) w
      go true o e rec = inner (p w) refl rec
      go false o e rec = refl

  many_step : (t : Token) (w : List Token) (x : A) (d : Beyond) (r : List Token) → has (kind_number t.kind) s ≡ true → p (t ∷ w) ≡ Got x d r → read_many s p (t ∷ w) ≡ on_front x d (read_many s p r)
  many_step t w x d r z e =
      let short : length r < length (t ∷ w) = sh.less (t ∷ w) x d r e in
      rw (z, turns, picked) (rw (e, more) (ap (on_front x d) (turns_any (length w) (length r) r (omega arith) (omega arith))))

many_end : {A : Type 0} (s : List ℕ) (p : Reader A) (w : List Token) → opens s w ≡ false → read_many s p w ≡ Got [] None w
many_end s p [] e = refl
many_end s p (t ∷ w) e = rw (e, turns, picked) refl

many_bad : {A : Type 0} (s : List ℕ) (p : Reader A) (t : Token) (w : List Token) (d : Beyond) (r : List Token) → has (kind_number t.kind) s ≡ true → p (t ∷ w) ≡ Bad d r → read_many s p (t ∷ w) ≡ Bad d r
many_bad s p t w d r z e = rw (z, turns, picked) (rw (e, more) refl)

many_deep : {A : Type 0} (s : List ℕ) (p : Reader A) (t : Token) (w r : List Token) → has (kind_number t.kind) s ≡ true → p (t ∷ w) ≡ Deep r → read_many s p (t ∷ w) ≡ Deep r
many_deep s p t w r z e = rw (z, turns, picked) (rw (e, more) refl)

-- a turn, where one item stands before what is left
turn : {A : Type 0} (s : List ℕ) (p : Reader A) (sh : Shrinks p) (xs : List A) (w : List Token) (x : A) (r : List Token) → opens s w ≡ true → p w ≡ Got x None r → gathered xs (read_many s p w) ≡ gathered (xs ++ (x ∷ [])) (read_many s p r)
turn s p sh xs [] x r o e = cc
turn s p sh xs (t ∷ w) x r o e = ap (gathered xs) (many_step s p sh t w x None r o e) ∙ gathered_more xs x (read_many s p r)

pub turn_end : {A : Type 0} (s : List ℕ) (p : Reader A) (xs : List A) (w : List Token) → opens s w ≡ false → gathered xs (read_many s p w) ≡ Got xs None w
turn_end s p xs w o = ap (gathered xs) (many_end s p w o) ∙ ap (λ ys. Got ys None w) (append_nil xs)

pub turn_fails : {A : Type 0} (s : List ℕ) (p : Reader A) (xs : List A) (w : List Token) (e : Stop) → opens s w ≡ true → Fails e (p w) → Fails e (gathered xs (read_many s p w))
turn_fails s p xs w Memory o h = tt
turn_fails s p xs [] (Unexpected n) o h = cc
turn_fails s p xs (t ∷ w) (Unexpected n) o (r, e, k) = (r, ap (gathered xs) (many_bad s p t w None r o e), k)
turn_fails s p xs [] (TooDeep n) o h = cc
turn_fails s p xs (t ∷ w) (TooDeep n) o (r, e, k) = (r, ap (gathered xs) (many_deep s p t w r o e), k)

map_end : {A B : Type 0} (f : A → B) (xs : List A) (y : A) → map f (xs ++ (y ∷ [])) ≡ map f xs ++ (f y ∷ [])
map_end f [] y = refl
map_end f (x ∷ xs) y = ap (λ zs. f x ∷ zs) (map_end f xs y)

-- a turn of a loop that pushes what it reads
pub turn_kept : {A B : Type 0} (s : List ℕ) (p : Reader B) (view : A → B) → Shrinks p → (xs ys : List A) (y : A) (w r : List Token) (all : Out (List B)) → ys ≡ xs ++ (y ∷ []) → opens s w ≡ true → p w ≡ Got (view y) None r → gathered (map view xs) (read_many s p w) ≡ all → gathered (map view ys) (read_many s p r) ≡ all
turn_kept s p view sh xs ys y w r all e o h k = ap (λ zs. gathered (map view zs) (read_many s p r)) e ∙ ap (λ zs. gathered zs (read_many s p r)) (map_end view xs y) ∙ sym (turn s p sh (map view xs) w (view y) r o h) ∙ k

pub turn_kept_plain : {A : Type 0} (s : List ℕ) (p : Reader A) → Shrinks p → (xs ys : List A) (y : A) (w r : List Token) (all : Out (List A)) → ys ≡ xs ++ (y ∷ []) → opens s w ≡ true → p w ≡ Got y None r → gathered xs (read_many s p w) ≡ all → gathered ys (read_many s p r) ≡ all
turn_kept_plain s p sh xs ys y w r all e o h k = ap (λ zs. gathered zs (read_many s p r)) e ∙ sym (turn s p sh xs w y r o h) ∙ k

-- One after the other.
pub both_got : {A B : Type 0} (p : Reader A) (q : Reader B) (w w2 r : List Token) (x : A) (y : B) → p w ≡ Got x None w2 → q w2 ≡ Got y None r → read_both p q w ≡ Got (x, y) None r
both_got p q w w2 r x y e h = ap (then q) e ∙ ap (behind x None) h

-- A stop in a part is one of the whole.
pub mapped_fails : {A B : Type 0} (f : A → B) (e : Stop) (o : Out A) → Fails e o → Fails e (mapped f o)
mapped_fails f Memory o h = tt
mapped_fails f (Unexpected n) o (r, h, k) = (r, ap (mapped f) h, k)
mapped_fails f (TooDeep n) o (r, h, k) = (r, ap (mapped f) h, k)

pub first_fails : {A B : Type 0} (p : Reader A) (q : Reader B) (e : Stop) (w : List Token) → Fails e (p w) → Fails e (read_both p q w)
first_fails p q Memory w h = tt
first_fails p q (Unexpected n) w (r, h, k) = (r, ap (then q) h, k)
first_fails p q (TooDeep n) w (r, h, k) = (r, ap (then q) h, k)

pub both_fails : {A B : Type 0} (p : Reader A) (q : Reader B) (e : Stop) (w w2 : List Token) (x : A) → p w ≡ Got x None w2 → Fails e (q w2) → Fails e (read_both p q w)
both_fails p q Memory w w2 x i h = tt
both_fails p q (Unexpected n) w w2 x i (r, h, k) = (r, ap (then q) i ∙ ap (behind x None) h, k)
both_fails p q (TooDeep n) w w2 x i (r, h, k) = (r, ap (then q) i ∙ ap (behind x None) h, k)

pub choice_fails : {A : Type 0} (s : List ℕ) (p q : Reader A) (e : Stop) (w : List Token) → opens s w ≡ true → Fails e (p w) → Fails e (read_choice s p q w)
choice_fails s p q e w o h = subst (λ b. Fails e (picked b p q w)) (sym o) h

-- A result that is a stop.
pub failed : {X A : Type 0} (view : X → A) (result : Result X Stop) (rest : List Token) (e : Stop) (o : Out A) → IsErr result × IsErrAnd result (λ s. s ≡ e) → Fails e o → Gives view result rest o
failed view (Ok x) rest e o h k = absurd (h.1)
failed view (Err s) rest e o h k = subst (λ s. Fails s o) (sym (h.1)) k

-- What stands behind what is gathered.
pub gathered_got : {A : Type 0} (x : A) (ys : List A) (r : List Token) (o : Out (List A)) → gathered (x ∷ []) o ≡ Got ys None r → (zs : List A) × (ys ≡ x ∷ zs) × (o ≡ Got zs None r)
gathered_got x ys r (Got zs d s) h = (zs, sym (ap_value h), ap_rest h)
  where
    ap_value : Got (x ∷ zs) d s ≡ Got ys None r → x ∷ zs ≡ ys
    ap_value h = cc

    ap_rest : Got (x ∷ zs) d s ≡ Got ys None r → Got zs d s ≡ Got zs None r
    ap_rest h = let a : d ≡ None = cc in let b : s ≡ r = cc in ap (λ d. Got zs d s) a ∙ ap (Got zs None) b
gathered_got x ys r (Bad d s) h = cc
gathered_got x ys r (Deep s) h = cc

gathered_fails : {A : Type 0} (xs : List A) (e : Stop) (o : Out (List A)) → Fails e (gathered xs o) → Fails e o
gathered_fails xs Memory o h = tt
gathered_fails xs (Unexpected n) (Got ys d s) (r, h, k) = cc
gathered_fails xs (Unexpected n) (Bad d s) (r, h, k) = (r, h, k)
gathered_fails xs (Unexpected n) (Deep s) (r, h, k) = cc
gathered_fails xs (TooDeep n) (Got ys d s) (r, h, k) = cc
gathered_fails xs (TooDeep n) (Bad d s) (r, h, k) = cc
gathered_fails xs (TooDeep n) (Deep s) (r, h, k) = (r, h, k)

-- A FOR that stops behind its start.
for_end_fails : (r : Readers) (e : Stop) (w w1 w2 w3 w4 : List Token) (p : Place) (n : Placed) (b : Place) (start : Phrase) → read_word For w ≡ Got p None w1 → read_name w1 ≡ Got n None w2 → read_symbol Becomes w2 ≡ Got b None w3 → r.phrase w3 ≡ Got start None w4 → Fails e (read_for_end r w4) → Fails e (read_for r w)
unfolding read_for
for_end_fails r e w w1 w2 w3 w4 p n b start h1 h2 h3 h4 f =
    let name : read_left read_name (read_symbol Becomes) w1 ≡ Got n None w3 = ap (mapped left) (both_got read_name (read_symbol Becomes) w1 w2 w3 n b h2 h3) in
    mapped_fails for_of e _ (both_fails (read_word For) _ e w w1 p h1 (both_fails (read_left read_name (read_symbol Becomes)) _ e w1 w3 n name (both_fails r.phrase _ e w3 w4 start h4 (first_fails (read_for_end r) (read_perhaps r) e w4 f))))

-- in its values
pub values_fail : (r : Readers) (e : Stop) (w w1 w2 w3 w4 : List Token) (p : Place) (n : Placed) (b : Place) (start : Phrase) → read_word For w ≡ Got p None w1 → read_name w1 ≡ Got n None w2 → read_symbol Becomes w2 ≡ Got b None w3 → r.phrase w3 ≡ Got start None w4 → opens listing_values w4 ≡ true → Fails e (gathered (start ∷ []) (read_later Comma r.phrase w4)) → Fails e (read_for r w)
unfolding read_for_end
values_fail r e w w1 w2 w3 w4 p n b start h1 h2 h3 h4 o f =
    for_end_fails r e w w1 w2 w3 w4 p n b start h1 h2 h3 h4 (choice_fails listing_values _ _ e w4 o (mapped_fails for_list e _ (mapped_fails left e _ (first_fails (read_later Comma r.phrase) (read_word Do) e w4 (gathered_fails (start ∷ []) e _ f)))))

-- or where its values aren't followed by DO
pub for_fails : (r : Readers) (e : Stop) (w w1 w2 w3 w4 w5 : List Token) (p : Place) (n : Placed) (b : Place) (start : Phrase) (values : List Phrase) → read_word For w ≡ Got p None w1 → read_name w1 ≡ Got n None w2 → read_symbol Becomes w2 ≡ Got b None w3 → r.phrase w3 ≡ Got start None w4 → opens listing_values w4 ≡ true → gathered (start ∷ []) (read_later Comma r.phrase w4) ≡ Got values None w5 → Fails e (read_word Do w5) → Fails e (read_for r w)
unfolding read_for_end
for_fails r e w w1 w2 w3 w4 w5 p n b start values h1 h2 h3 h4 o g f = go (gathered_got start values w5 (read_later Comma r.phrase w4) g)
  where
    go : (zs : List Phrase) × (values ≡ start ∷ zs) × (read_later Comma r.phrase w4 ≡ Got zs None w5) → Fails e (read_for r w)
    go (zs, v, h) =
        for_end_fails r e w w1 w2 w3 w4 p n b start h1 h2 h3 h4 (choice_fails listing_values _ _ e w4 o (mapped_fails for_list e _ (mapped_fails left e _ (both_fails (read_later Comma r.phrase) (read_word Do) e w4 w5 zs h f))))
