-- Labels before what is read.
use Rattle.std.proofs.Common.{◌≡◌, List, [], ◌∷◌, ◌++◌, refl, sym, ◌∙◌, ap, append_assoc, Option, Some, None}
use Rattle.algolw_tree.specs.Tree.{Phrase, Placed}
use Rattle.algolw_tree.specs.declared.tokens.Token.{Token}
use Rattle.algolw_grammar.specs.Readers.{Out, Got, Bad, Deep, Reader, read_labelled, behind_label, behind, one_label}
use Rattle.algolw_grammar.specs.Taken.{label_taken}
use Rattle.algolw_grammar.proofs.Good.{append_nil}
use Rattle.token_reader.specs.Gives.{labelled, label_at, label_before}

abbrev pub put_before : List Placed → Out (List Placed × Phrase) → Out (List Placed × Phrase)
put_before ls (Got x d r) = Got (ls ++ x.0, x.1) d r
put_before ls (Bad d r) = Bad d r
put_before ls (Deep r) = Deep r

pub put_none : (o : Out (List Placed × Phrase)) → o ≡ put_before [] o
put_none (Got x d r) = refl
put_none (Bad d r) = refl
put_none (Deep r) = refl

put_one : (ls : List Placed) (l : Placed) (o : Out (List Placed × Phrase)) → put_before ls (behind_label l o) ≡ put_before (ls ++ (l ∷ [])) o
put_one ls l (Got x d r) = ap (λ zs. Got (zs, x.1) d r) (sym (append_assoc ls (l ∷ []) x.0))
put_one ls l (Bad d r) = refl
put_one ls l (Deep r) = refl

put_last : (ls : List Placed) (o : Out Phrase) → put_before ls (behind [] None o) ≡ labelled ls o
put_last ls (Got x d r) = ap (λ zs. Got (zs, x) d r) (append_nil ls)
put_last ls (Bad d r) = refl
put_last ls (Deep r) = refl

-- a label is read before what is left
pub one_more : (p : Reader Phrase) (ls ms : List Placed) (w r : List Token) (l : Placed) → ms ≡ ls ++ (l ∷ []) → label_at w ≡ Some (l, r) → put_before ls (read_labelled label_taken p w) ≡ put_before ms (read_labelled label_taken p r)
one_more p ls ms [] r l e h = cc
one_more p ls ms (t ∷ []) r l e h = cc
one_more p ls ms (t ∷ k ∷ w) r l e h = go (label_taken t k) h
  where
    first : (m : Placed) → ◌≡◌ {A = Option (Placed × List Token)} (Some (m, w)) (Some (l, r)) → m ≡ l
    first m h = ap (λ o. elim o [ None ↦ m | Some x ↦ x.0 ]) h

    second : (m : Placed) → ◌≡◌ {A = Option (Placed × List Token)} (Some (m, w)) (Some (l, r)) → w ≡ r
    second m h = ap (λ o. elim o [ None ↦ w | Some x ↦ x.1 ]) h

    go : (o : Option Placed) → label_before o w ≡ Some (l, r) → put_before ls (one_label o (read_labelled label_taken p w) (behind [] None (p (t ∷ k ∷ w)))) ≡ put_before ms (read_labelled label_taken p r)
    go None h = cc
    go (Some m) h = put_one ls m (read_labelled label_taken p w) ∙ ap (λ m. put_before (ls ++ (m ∷ [])) (read_labelled label_taken p w)) (first m h) ∙ ap (λ ms. put_before ms (read_labelled label_taken p w)) (sym e) ∙ ap (λ w. put_before ms (read_labelled label_taken p w)) (second m h)

-- no label is left
pub no_more : (p : Reader Phrase) (ls : List Placed) (w : List Token) → label_at w ≡ None → put_before ls (read_labelled label_taken p w) ≡ labelled ls (p w)
no_more p ls [] h = put_last ls (p [])
no_more p ls (t ∷ []) h = put_last ls (p (t ∷ []))
no_more p ls (t ∷ k ∷ w) h = go (label_taken t k) h
  where
    go : (o : Option Placed) → label_before o w ≡ None → put_before ls (one_label o (read_labelled label_taken p w) (behind [] None (p (t ∷ k ∷ w)))) ≡ labelled ls (p (t ∷ k ∷ w))
    go None h = put_last ls (p (t ∷ k ∷ w))
    go (Some m) h = cc
