-- Allowed characters are no line feeds.
use Rattle.std.proofs.Common.{◌≡◌, ◌==◌, ℕ, List, [], ◌∷◌, Bool, true, false, not, ◌&&◌, ◌||◌, refl, arith}
use Rattle.std.specs.List.{list_any, list_all}
use Rattle.std.proofs.lemmas.Bool.Decides.{nat_tests}
use Rattle.deck_reader.specs.Forms.{is_allowed}
use Rattle.deck_reader.specs.CardFlaws.{is_foul}
use Rattle.algolw_scanner.specs.Cursors.{clean, AreClean}

-- what passes one test passes a weaker one
all_weaker : {X : Type 0} (p q : X → Bool) → ((x : X) → p x ≡ true → q x ≡ true) → (xs : List X) → list_all p xs ≡ true → list_all q xs ≡ true
all_weaker p q h [] e = refl
all_weaker p q h (x ∷ xs) e = go (p x) (q x) (h x) (all_weaker p q h xs) e
  where
    go : (b d : Bool) → (b ≡ true → d ≡ true) → (list_all p xs ≡ true → list_all q xs ≡ true) → b && list_all p xs ≡ true → d && list_all q xs ≡ true
    go true true f g k = g k
    go true false f g k = f refl
    go false d f g k = absurd (cc)

no_feed : (c : ℕ) → is_allowed c ≡ true → not (c == 10) ≡ true
no_feed c e = grind (arith, nat_tests)

-- cards of allowed characters hold no line feed
pub allowed_clean : (cards : List (List ℕ)) → list_any is_foul cards ≡ false → AreClean cards
allowed_clean [] e = refl
allowed_clean (card ∷ cards) e = go (list_all is_allowed card) (clean card) (all_weaker is_allowed (λ c. not (c == 10)) no_feed card) (allowed_clean cards) e
  where
    go : (b d : Bool) → (b ≡ true → d ≡ true) → (list_any is_foul cards ≡ false → AreClean cards) → not b || list_any is_foul cards ≡ false → d && list_all clean cards ≡ true
    go true true f g k = g k
    go true false f g k = f refl
    go false d f g k = absurd (cc)
