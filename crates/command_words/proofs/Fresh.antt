-- That each option and flag is known and used at most once, followed from left to right.
use Rattle.std.proofs.Common.{◌≡◌, ◌∙◌, sym, ap, refl, Bool, true, false, List, [], ◌∷◌, ◌++◌, map}
use Rattle.std.specs.Prelude.{not, ◌&&◌, ◌||◌}
use Rattle.std.specs.List.{AllByRecursion, IsDistinct, list_any, list_all}
use Rattle.std.specs.Str.{bytes_eq}
use Rattle.std.proofs.lemmas.List.Folds.{list_any-append}
use Rattle.command_words.specs.Form.{Text, Use, is_known, name_of}

abbrev pub has_use : Text → List Use → Bool
has_use name uses = list_any (λ u. bytes_eq (name_of u) name) uses

-- each option is known, and none of those before it
abbrev pub is_fresh : List Use → List Use → Bool
is_fresh before [] = true
is_fresh before (u ∷ rest) = is_known u && (not (has_use (name_of u) before) && is_fresh (before ++ u ∷ []) rest)

abbrev pub names_of : List Use → List Text
names_of uses = map name_of uses

abbrev pub are_known : List Use → Bool
are_known uses = list_all is_known uses

pub and_first : (a b : Bool) → (a && b) ≡ true → a ≡ true
and_first true b e = refl
and_first false b e = cc

pub and_second : (a b : Bool) → (a && b) ≡ true → b ≡ true
and_second true b e = e
and_second false b e = cc

pub both_true : (a b : Bool) → a ≡ true → b ≡ true → (a && b) ≡ true
both_true a b e f = rw (e, f) refl

pub not_true : (a : Bool) → not a ≡ true → a ≡ false
not_true false e = refl
not_true true e = cc

pub or_first : (a b : Bool) → (a || b) ≡ false → a ≡ false
or_first false b e = refl
or_first true b e = cc

pub or_second : (a b : Bool) → (a || b) ≡ false → b ≡ false
or_second false b e = e
or_second true b e = cc

-- none of these names is used in a list
abbrev AreUnused : List Use → List Text → Type 0
AreUnused before names = AllByRecursion (λ name. has_use name before ≡ false) names

use_more : (name : Text) (before : List Use) (u : Use) → has_use name (before ++ u ∷ []) ≡ (has_use name before || (bytes_eq (name_of u) name || false))
use_more name before u = list_any-append (λ v. bytes_eq (name_of v) name) before (u ∷ [])

unused_before : (before : List Use) (u : Use) (names : List Text) → AreUnused (before ++ u ∷ []) names → AreUnused before names
unused_before before u [] h = tt
unused_before before u (name ∷ names) h = (or_first _ _ (sym (use_more name before u) ∙ h.0), unused_before before u names h.1)

others_than : (before : List Use) (u : Use) (names : List Text) → AreUnused (before ++ u ∷ []) names → AllByRecursion (λ name. bytes_eq (name_of u) name ≡ false) names
others_than before u [] h = tt
others_than before u (name ∷ names) h = (or_first _ _ (or_second _ _ (sym (use_more name before u) ∙ h.0)), others_than before u names h.1)

unused_more : (before : List Use) (u : Use) (names : List Text) → AreUnused before names → AllByRecursion (λ name. bytes_eq (name_of u) name ≡ false) names → AreUnused (before ++ u ∷ []) names
unused_more before u [] h o = tt
unused_more before u (name ∷ names) h o = (use_more name before u ∙ rw (h.0, o.0) refl, unused_more before u names h.1 o.1)

record AreFresh (before uses : List Use) : Type 0 where
  known : are_known uses ≡ true
  once : IsDistinct bytes_eq (names_of uses)
  unused : AreUnused before (names_of uses)

are_fresh : (before uses : List Use) → is_fresh before uses ≡ true → AreFresh before uses
unfolding IsDistinct
are_fresh before [] h = record { known = refl; once = tt; unused = tt }
are_fresh before (u ∷ rest) h =
    let more = are_fresh (before ++ u ∷ []) rest (and_second _ _ (and_second _ _ h)) in
    record {
      known = both_true _ _ (and_first _ _ h) more.known;
      once = (others_than before u (names_of rest) more.unused, more.once);
      unused = (not_true _ (and_first _ _ (and_second _ _ h)), unused_before before u (names_of rest) more.unused);
    }

is_fresh_by : (before uses : List Use) → AreFresh before uses → is_fresh before uses ≡ true
unfolding IsDistinct
is_fresh_by before [] h = refl
is_fresh_by before (u ∷ rest) h =
    let more = is_fresh_by (before ++ u ∷ []) rest (record { known = and_second _ _ h.known; once = h.once.1; unused = unused_more before u (names_of rest) h.unused.1 h.once.0 }) in
    both_true _ _ (and_first _ _ h.known) (both_true _ _ (ap not h.unused.0) more)

all_unused : (names : List Text) → AreUnused [] names
all_unused [] = tt
all_unused (name ∷ names) = (refl, all_unused names)

pub fresh_is_known : (uses : List Use) → is_fresh [] uses ≡ true → are_known uses ≡ true
fresh_is_known uses h = (are_fresh [] uses h).known

pub fresh_is_once : (uses : List Use) → is_fresh [] uses ≡ true → IsDistinct bytes_eq (names_of uses)
fresh_is_once uses h = (are_fresh [] uses h).once

pub fresh_by : (uses : List Use) → are_known uses ≡ true → IsDistinct bytes_eq (names_of uses) → is_fresh [] uses ≡ true
fresh_by uses known once = is_fresh_by [] uses (record { known = known; once = once; unused = all_unused (names_of uses) })
