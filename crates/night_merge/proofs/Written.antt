-- A text that is written piece by piece.
use Rattle.std.proofs.Common.{ℕ, ◌+◌, ◌-◌, List, [], ◌++◌, Option, length, take, drop, refl, sym, ap, subst, ◌∙◌, append_assoc, append-nil}
use Rattle.std.specs.Io.KnownBytes.{Appends}
use Rattle.std.proofs.KnownBytes.{Appends-nil, Appends-trans}
use Rattle.std.proofs.Math.Seq.{take-add, take-append_seam}
use Rattle.std.proofs.lemmas.List.{take-append-drop, take_rest}
use Rattle.night_merge.specs.Writing.{AppendsPrefix, WroteUpTo}

-- a write of a part goes on
pub write_on : (a b c : Option (List ℕ)) (bytes : List ℕ) (at n : ℕ) → Appends a b (take at bytes) → Appends b c (take n (take (length bytes - at) (drop at bytes))) → Appends a c (take (at + n) bytes)
write_on a b c bytes at n so_far more =
    let next : Appends b c (take n (drop at bytes)) = rw (← take_rest bytes at) more in
    rw take-add (Appends-trans a b c (take at bytes) (take n (drop at bytes)) so_far next)

-- before the first piece, all is left
pub all_left : (written : Option (List ℕ)) (text : List ℕ) → WroteUpTo written written text text
all_left written text = record { done = []; wrote = Appends-nil written; whole = refl }

-- a piece more
pub piece_more : (a b c : Option (List ℕ)) (text piece rest : List ℕ) → WroteUpTo a b text (piece ++ rest) → Appends b c piece → WroteUpTo a c text rest
piece_more a b c text piece rest so_far more = record {
  done = so_far.done ++ piece;
  wrote = Appends-trans a b c so_far.done piece so_far.wrote more;
  whole = append_assoc so_far.done piece rest ∙ so_far.whole;
}

-- where nothing is left, all was written
pub all_written : (a b : Option (List ℕ)) (text : List ℕ) → WroteUpTo a b text [] → Appends a b text
all_written a b text so_far =
    let appends : List ℕ → Type 0 = λ bytes. Appends a b bytes in
    subst appends (sym (append-nil so_far.done) ∙ so_far.whole) so_far.wrote

-- what was written is a prefix
pub prefix_written : (a b : Option (List ℕ)) (text rest : List ℕ) → WroteUpTo a b text rest → AppendsPrefix a b text
prefix_written a b text rest so_far =
    let appends : List ℕ → Type 0 = λ bytes. Appends a b bytes in
    (length so_far.done, subst appends (sym (take-append_seam so_far.done rest) ∙ ap (take (length so_far.done)) so_far.whole) so_far.wrote)

-- a prefix of a piece more
pub prefix_more : (a b c : Option (List ℕ)) (text piece rest : List ℕ) → WroteUpTo a b text (piece ++ rest) → AppendsPrefix b c piece → AppendsPrefix a c text
prefix_more a b c text piece rest so_far (n, more) =
    let front = take n piece in
    let back = drop n piece in
    let split = sym (append_assoc front back rest) ∙ ap (λ (bytes : List ℕ). bytes ++ rest) (take-append-drop n piece) in
    let whole = append_assoc so_far.done front (back ++ rest) ∙ ap (λ (bytes : List ℕ). so_far.done ++ bytes) split ∙ so_far.whole in
    prefix_written a c text (back ++ rest) (record { done = so_far.done ++ front; wrote = Appends-trans a b c so_far.done front so_far.wrote more; whole = whole })
