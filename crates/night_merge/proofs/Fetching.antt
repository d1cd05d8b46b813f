-- The listings of a window's parts, chain by chain.
use Rattle.std.proofs.Common.{◌≡◌, ℕ, zero, suc, ◌<◌, List, [], ◌∷◌, ◌++◌, Option, Some, length, map, slice_get, refl, sym, ap, ◌∙◌, arith}
use Rattle.std.specs.Borrow.{Bor}
use Rattle.std.specs.declared.alloc.Global.{Global}
use Rattle.std.specs.declared.vec.Vec.{Vec}
use Rattle.night_merge.specs.declared.plan.Entry.{Entry}
use Rattle.night_merge.specs.declared.shelf.Part.{Part}
use Rattle.night_merge.specs.Entries.{count_of}
use Rattle.night_merge.specs.Parts.{part_at}
use Rattle.night_merge.specs.Supplies.{HasCounts, HasRests, HasTexts}

-- one behind others is found among these, or is it
found_by : {A : Type 0} (xs : List A) (x v : A) (k : ℕ) (P : Type 0) → slice_get (xs ++ x ∷ []) k ≡ Some v → (slice_get xs k ≡ Some v → P) → (k ≡ length xs → v ≡ x → P) → P
found_by [] x v zero P e before here = here refl (sym (cc e))
found_by [] x v (suc k) P e before here = absurd (cc e)
found_by (y ∷ xs) x v zero P e before here = before e
found_by (y ∷ xs) x v (suc k) P e before here = found_by xs x v k P e before (λ last same. here (omega (arith, last)) same)

pub texts_more : (known : Part → Option (List ℕ)) (number : ℕ) (entries : List Entry) (texts : List (Vec ℕ Global)) (text : Vec ℕ Global) → HasTexts known number entries texts
    → (0 < count_of (length texts) entries → known (part_at (length texts) number) ≡ Some text.items) → HasTexts known number entries (texts ++ text ∷ [])
texts_more known number entries texts text has here = λ chain v e some.
    found_by texts text v chain (known (part_at chain number) ≡ Some v.items) e (λ before. has chain v before some)
    (λ last same.
    ap (λ (n : ℕ). known (part_at n number)) last
    ∙ here (omega (arith, some, ap (λ (n : ℕ). count_of n entries) last))
    ∙ ap (λ (t : Vec ℕ Global). Some t.items) (sym same))

pub rests_more : (rests : ℕ → List (List ℕ)) (owns : List (Vec (Bor (List ℕ)) Global)) (own : Vec (Bor (List ℕ)) Global) → HasRests rests owns → map (λ r. r.now) own.items ≡ rests (length owns)
    → HasRests rests (owns ++ own ∷ [])
rests_more rests owns own has here = λ chain v e.
    found_by owns own v chain (map (λ r. r.now) v.items ≡ rests chain) e (λ before. has chain v before)
    (λ last same. ap (λ (t : Vec (Bor (List ℕ)) Global). map (λ (r : Bor (List ℕ)). r.now) t.items) same ∙ here ∙ ap rests (sym last))

pub counts_more : (entries : List Entry) (owns : List (Vec (Bor (List ℕ)) Global)) (own : Vec (Bor (List ℕ)) Global) → HasCounts entries owns → length own.items ≡ count_of (length owns) entries
    → HasCounts entries (owns ++ own ∷ [])
counts_more entries owns own has here = λ chain v e.
    found_by owns own v chain (length v.items ≡ count_of chain entries) e (λ before. has chain v before)
    (λ last same. ap (λ (t : Vec (Bor (List ℕ)) Global). length t.items) same ∙ here ∙ ap (λ (n : ℕ). count_of n entries) (sym last))
