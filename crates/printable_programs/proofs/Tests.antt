-- What tests tell, and what they answer.
use Rattle.std.proofs.Common.{◌≡◌, ℕ, ◌≤◌, ◌<◌, Bool, true, false, ◌&&◌, ◌||◌, nat_le, refl, ap, ◌∙◌}
use Rattle.std.proofs.lemmas.Bool.{leb-true, le-leb}

pub and_of : (a b : Bool) → a && b ≡ true → (a ≡ true) × (b ≡ true)
and_of true b h = (refl, h)
and_of false b h = absurd (cc h)

pub and_to : (a b : Bool) → a ≡ true → b ≡ true → a && b ≡ true
and_to a b h k = ap (λ (x : Bool). x && b) h ∙ k

pub either_test : {N : Type 0} (a b : Bool) → a || b ≡ true → (a ≡ true → N) → (b ≡ true → N) → N
either_test true b h f g = f refl
either_test false b h f g = g h

pub range_of : (least most c : ℕ) → nat_le least c && nat_le c most ≡ true → (least ≤ c) × (c ≤ most)
range_of least most c h = let p = and_of (nat_le least c) (nat_le c most) h in (leb-true least c p.0, leb-true c most p.1)

pub range_to : (least most c : ℕ) → least ≤ c → c ≤ most → nat_le least c && nat_le c most ≡ true
range_to least most c h k = and_to (nat_le least c) (nat_le c most) (le-leb least c h) (le-leb c most k)
