-- Where a control word ends on a line.
use Rattle.std.specs.Prelude.{ℕ, ◌≡◌, ◌==◌, Bool, true, false, ◌||◌, List, [], ◌∷◌, ⊤}
use Rattle.deck_reader.specs.Forms.{capital, folded}

-- whether a word ends before these bytes of a line: nothing is left but a carriage return, or a blank or a tab follows
abbrev pub ends_word : List ℕ → Bool
ends_word [] = true
ends_word (b ∷ []) = b == 32 || (b == 9 || b == 13)
ends_word (b ∷ c ∷ bytes) = b == 32 || b == 9

-- a byte in capitals that cleaning neither makes nor takes off: no blank, tab, carriage return or tilde, nor the first of the not sign
pub record IsPlain (c : ℕ) : Type 0 where
  pub blank : (capital 32 == c) ≡ false
  pub tab : (capital 9 == c) ≡ false
  pub end : (capital 13 == c) ≡ false
  pub tilde : (capital 126 == c) ≡ false
  pub sign : (capital 194 == c) ≡ false

abbrev pub ArePlain : List ℕ → Type 0
ArePlain [] = ⊤
ArePlain (c ∷ word) = IsPlain c × ArePlain word

-- a control word, in capitals
pub record IsControlWord (word : List ℕ) : Type 0 where
  pub capitals : folded word ≡ word
  pub plain : ArePlain word
