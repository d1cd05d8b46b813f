-- Names and their marks.
use Rattle.std.proofs.Common.{◌≡◌, ℕ, ◌<◌, Bool, true, false, nat_eq, cond, List, [], ◌∷◌, ◌++◌, Option, Some, None, length, get_or, slice_set, refl, sym, ap, ◌∙◌, arith}
use Rattle.std.proofs.lemmas.Bool.Decides.{nat_tests}
use Rattle.std.proofs.lemmas.List.{get_or-set_same, get_or-set_other}
use Rattle.std.proofs.lemmas.Slice.Eq.{bytes_eq-Decides}
use Rattle.std.specs.Option.{option_or}
use Rattle.std.specs.Str.{bytes_eq}
use Rattle.algolw_tree.specs.Tree.{Placed}
use Rattle.name_scopes.specs.Firsts.{first_of}
use Rattle.name_scopes.specs.Marks.{Marked, Unmarked, mark_of}
use Rattle.name_scopes.proofs.Firsts.{first_of-push}

-- a mark that isn't set was not set before one more was, and is another
still_unset : (same : Bool) (marks : List Bool) (i j : ℕ) → nat_eq j i ≡ same → i < length marks → get_or (slice_set marks i true) j false ≡ false → (same ≡ false) × (get_or marks j false ≡ false)
still_unset true marks i j e w h =
    let at : j ≡ i = grind (arith, nat_tests) in
    let set = get_or-set_same marks i true false w in
    let no : true ≡ false = sym set ∙ ap (λ (n : ℕ). get_or (slice_set marks i true) n false) (sym at) ∙ h in cc
still_unset false marks i j e w h = (refl, sym (get_or-set_other marks i j true false (λ (at : j ≡ i). let no : true ≡ false = grind (arith, nat_tests) in cc)) ∙ h)

-- a mark more may be set
pub more_marks : (xs : List Placed) (marks : List Bool) (i : ℕ) → i < length marks → Marked xs marks → Marked xs (slice_set marks i true)
more_marks xs marks i w m = record { unset = λ q h. m.unset q (still_unset (nat_eq (mark_of q) i) marks i (mark_of q) refl w h).1 }

none_added : (same : Bool) (p : Option ℕ) (n : ℕ) → same ≡ false → p ≡ None → option_or p (cond same (Some n) None) ≡ None
none_added true p n s h = cc
none_added false p n s h = ap (λ (o : Option ℕ). option_or o None) h

other_mark : (same : Bool) (x q : List ℕ) → bytes_eq x q ≡ same → nat_eq (mark_of q) (mark_of x) ≡ false → same ≡ false
other_mark false x q e h = refl
other_mark true x q e h =
    let at = ap mark_of ((bytes_eq-Decides x q).0 e) in
    grind (arith, nat_tests)

-- a name whose mark is set may be declared
pub marked_push : (xs : List Placed) (x : Placed) (marks : List Bool) → mark_of x.0 < length marks → Marked xs marks → Marked (xs ++ x ∷ []) (slice_set marks (mark_of x.0) true)
marked_push xs x marks w m = record {
  unset = λ q h.
      let u = still_unset (nat_eq (mark_of q) (mark_of x.0)) marks (mark_of x.0) (mark_of q) refl w h in
      first_of-push xs x q ∙ none_added (bytes_eq x.0 q) (first_of xs q) (length xs) (other_mark (bytes_eq x.0 q) x.0 q refl u.0) (m.unset q u.1);
}

-- a number that another isn't
other_number : (a b m : ℕ) → a ≡ m → nat_eq b m ≡ false → nat_eq a b ≡ false
other_number a b m at other = grind (arith, nat_tests)

-- a name that hasn't a mark is none that has it
pub unlike : (x q : List ℕ) (mark : ℕ) → nat_eq (mark_of x) mark ≡ false → mark_of q ≡ mark → bytes_eq x q ≡ false
unlike x q mark other at = other_mark (bytes_eq x q) x q refl (other_number (mark_of q) (mark_of x) mark at other)
