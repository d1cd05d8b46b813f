-- What the numbers of kinds tell apart.
use Rattle.std.proofs.Common.{◌≡◌, ◌==◌, ℕ, Bool, true, false, ◌||◌, refl, ◌∙◌, ap}
use Rattle.std.proofs.lemmas.Bool.{eqb-true}
use Rattle.std.specs.Prelude.{nat_lt}
use Rattle.algolw_tree.specs.declared.tokens.Word.{Word}
use Rattle.algolw_tree.specs.declared.tokens.Word.TheVariants as w
use Rattle.algolw_tree.specs.declared.tokens.Symbol.{Symbol}
use Rattle.algolw_tree.specs.declared.tokens.Symbol.TheVariants as s
use Rattle.algolw_tree.specs.declared.tokens.TokenKind.{TokenKind}
use Rattle.algolw_tree.specs.declared.tokens.TokenKind.TheVariants.{Word as AWord, Named, Number, BitsLit, Quoted, Symbol as ASymbol, Finish}
use Rattle.algolw_grammar.specs.Kinds.{word_number, symbol_number, kind_number, has, the_word}
use Rattle.algolw_grammar.specs.Taken.{is_word}

-- the word and the symbol of a number
abbrev pub is_low : ℕ → Bool
is_low n = nat_lt n 44

words_low : (x : Word) → is_low (word_number x) ≡ true
words_low w.Abs = refl
words_low _ = refl

symbols_high : (y : Symbol) → is_low (symbol_number y) ≡ false
symbols_high s.Open = refl
symbols_high _ = refl

high_not_word : (n : ℕ) (x : Word) → is_low n ≡ false → (n == word_number x) ≡ false
high_not_word n x h = go (n == word_number x) refl
  where
    go : (b : Bool) → (n == word_number x) ≡ b → b ≡ false
    go true e = let k : n ≡ word_number x = eqb-true n (word_number x) e in let z : is_low n ≡ true = ap is_low k ∙ words_low x in cc
    go false e = refl

or_false : (b : Bool) → (b || false) ≡ b
or_false true = refl
or_false false = refl

pub word_opens : (x : Word) (k : TokenKind) → has (kind_number k) (the_word x) ≡ is_word x k
word_opens x (AWord y) = or_false _
word_opens x (ASymbol y) = or_false _ ∙ high_not_word (symbol_number y) x (symbols_high y)
word_opens x (Named n) = or_false _ ∙ high_not_word 65 x refl
word_opens x (Number n) = or_false _ ∙ high_not_word 66 x refl
word_opens x (BitsLit n) = or_false _ ∙ high_not_word 67 x refl
word_opens x (Quoted n) = or_false _ ∙ high_not_word 68 x refl
word_opens x Finish = or_false _ ∙ high_not_word 69 x refl
