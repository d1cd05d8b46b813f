-- Texts that begin with another.
use Rattle.std.proofs.Common.{◌≡◌, ℕ, Bool, true, false, List, ◌++◌, length, take, drop, sym, ap, ◌∙◌, bytes_eq}
use Rattle.std.proofs.Math.Seq.{take-append_seam}
use Rattle.std.proofs.lemmas.List.{take-append-drop}
use Rattle.std.proofs.lemmas.Slice.Eq.{bytes_eq-Decides}

-- the front of the bytes is the text
pub front_agrees : (bytes text front rest : List ℕ) (same : Bool) → front ≡ take (length text) bytes → rest ≡ drop (length text) bytes → same ≡ bytes_eq front text → same ≡ true
    → bytes ≡ text ++ rest
front_agrees bytes text front rest same f r is h =
    let e : front ≡ text = (bytes_eq-Decides front text).0 (sym is ∙ h) in
    sym (take-append-drop (length text) bytes) ∙ ap (λ (l : List ℕ). l ++ drop (length text) bytes) (sym f ∙ e) ∙ ap (λ (l : List ℕ). text ++ l) (sym r)

-- it isn't
pub front_differs : (bytes text front rest : List ℕ) (same : Bool) → front ≡ take (length text) bytes → same ≡ bytes_eq front text → same ≡ false → bytes ≡ text ++ rest → ⊥
front_differs bytes text front rest same f is h e =
    let there : front ≡ text = f ∙ ap (take (length text)) e ∙ take-append_seam text rest in
    cc ((bytes_eq-Decides front text).1 there, is, h)
