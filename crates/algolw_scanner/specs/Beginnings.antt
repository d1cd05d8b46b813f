-- Where a word is looked up.
use Rattle.std.specs.Prelude.{◌≡◌, ℕ, List, ◌∷◌}
use Rattle.algolw_tree.specs.declared.tokens.Word.{Word}
use Rattle.algolw_tree.specs.Words.{word_in, word_of}

-- each word that begins so is one of these, which stand behind their spelling
abbrev pub HasWords : ℕ → List (List ℕ × Word) → Type 0
HasWords first words = (rest : List ℕ) → word_in words (first ∷ rest) ≡ word_of (first ∷ rest)
