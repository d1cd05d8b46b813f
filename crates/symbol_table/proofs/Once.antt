-- Names whose places stand apart are declared once.
use Rattle.std.proofs.Common.{◌≡◌, ◌≢◌, ℕ, List, [], ◌∷◌, ◌++◌, Bool, true, false, not, ◌&&◌, refl, sym, ap, ◌∙◌, subst}
use Rattle.std.specs.List.{All}
use Rattle.std.proofs.lemmas.Bool.{false≢true}
use Rattle.std.proofs.lemmas.List.Elements.{All-append, All-cons, All-head, All-nil, All-tail}
use Rattle.value_ops.specs.declared.places.Place.{Place}
use Rattle.algolw_typing.specs.Types.{has, is_place}
use Rattle.program_soundness.specs.Tables.{Info, are_apart}
use Rattle.program_soundness.proofs.Arrays.{both_true}
use Rattle.faultless_programs.proofs.Agreeing.{same_place}
use Rattle.symbol_table.specs.declared.standings.Standing.{Standing}
use Rattle.symbol_table.specs.Contexts.{AreFresh, IsOnce, Scene, place_of, places_of}
use Rattle.symbol_table.specs.Standings.{Names}
use Rattle.symbol_table.proofs.Fresh.{info_places, neither, not_true}

-- no two of these places are one
abbrev pub apart_places : List Place → Bool
apart_places [] = true
apart_places (p ∷ ps) = not (has ps p) && apart_places ps

infos_apart : (is : List Info) → are_apart is ≡ apart_places (info_places is)
infos_apart [] = refl
infos_apart (i ∷ is) = ap (λ b. not (has (info_places is) i.place) && b) (infos_apart is)

-- a name that is at none of their places is none of them
pub none_is : (s : Scene) (names : Names) (n : ℕ) → has (places_of s names) (place_of s n) ≡ false → All (λ (y : ℕ × Standing). n ≢ y.0) names
none_is s [] n e = All-nil (λ (y : ℕ × Standing). n ≢ y.0)
none_is s (x ∷ names) n e =
    let h = neither (is_place (place_of s x.0) (place_of s n)) (has (places_of s names) (place_of s n)) e in
    All-cons (λ (y : ℕ × Standing). n ≢ y.0) x names
    (λ q. false≢true (sym h.0 ∙ subst (λ (k : ℕ). is_place (place_of s k) (place_of s n) ≡ true) q (same_place (place_of s n))))
    (none_is s names n h.1)

once_places : (s : Scene) (names : Names) → apart_places (places_of s names) ≡ true → IsOnce names
once_places s [] e = tt
once_places s (x ∷ names) e =
    let h = both_true (not (has (places_of s names) (place_of s x.0))) (apart_places (places_of s names)) e in
    (none_is s names x.0 (not_true (has (places_of s names) (place_of s x.0)) h.0), once_places s names h.1)

pub once_both : (a b : Names) → IsOnce a → IsOnce b → All (λ (x : ℕ × Standing). All (λ (y : ℕ × Standing). x.0 ≢ y.0) b) a → IsOnce (a ++ b)
once_both [] b o p c = p
once_both (x ∷ a) b o p c = (
  All-append (λ (y : ℕ × Standing). x.0 ≢ y.0) a b o.0 (All-head (λ (z : ℕ × Standing). All (λ (y : ℕ × Standing). z.0 ≢ y.0) b) x a c),
  once_both a b o.1 p (All-tail (λ (z : ℕ × Standing). All (λ (y : ℕ × Standing). z.0 ≢ y.0) b) x a c),
)

-- what holds of each place of names
unplaced : (s : Scene) (P : Place → Type 0) (names : Names) → All P (places_of s names) → All (λ (x : ℕ × Standing). P (place_of s x.0)) names
unplaced s P [] a = All-nil (λ (x : ℕ × Standing). P (place_of s x.0))
unplaced s P (x ∷ names) a = All-cons (λ (y : ℕ × Standing). P (place_of s y.0)) x names (All-head P (place_of s x.0) (places_of s names) a) (unplaced s P names (All-tail P (place_of s x.0) (places_of s names) a))

placed : (P : Place → Type 0) (is : List Info) → All (λ (i : Info). P i.place) is → All P (info_places is)
placed P [] a = All-nil P
placed P (i ∷ is) a = All-cons P i.place (info_places is) (All-head (λ (j : Info). P j.place) i is a) (placed P is (All-tail (λ (j : Info). P j.place) i is a))

each_none : (s : Scene) (b : Names) (a : Names) → All (λ (x : ℕ × Standing). has (places_of s b) (place_of s x.0) ≡ false) a → All (λ (x : ℕ × Standing). All (λ (y : ℕ × Standing). x.0 ≢ y.0) b) a
each_none s b [] h = All-nil (λ (x : ℕ × Standing). All (λ (y : ℕ × Standing). x.0 ≢ y.0) b)
each_none s b (x ∷ a) h =
    All-cons (λ (z : ℕ × Standing). All (λ (y : ℕ × Standing). z.0 ≢ y.0) b) x a
    (none_is s b x.0 (All-head (λ (z : ℕ × Standing). has (places_of s b) (place_of s z.0) ≡ false) x a h))
    (each_none s b a (All-tail (λ (z : ℕ × Standing). has (places_of s b) (place_of s z.0) ≡ false) x a h))

-- new names in front of those that are declared
pub once_more : (s : Scene) (news : Names) (is : List Info) → IsOnce s.symbols.names → places_of s news ≡ info_places is → AreFresh s is → IsOnce (news ++ s.symbols.names)
once_more s news is o e f =
    once_both news s.symbols.names
    (once_places s news (ap apart_places e ∙ sym (infos_apart is) ∙ f.apart)) o
    (each_none s s.symbols.names news (unplaced s (λ (p : Place). has (places_of s s.symbols.names) p ≡ false) news
    (subst (All (λ (p : Place). has (places_of s s.symbols.names) p ≡ false)) (sym e) (placed (λ (p : Place). has (places_of s s.symbols.names) p ≡ false) is f.new))))
