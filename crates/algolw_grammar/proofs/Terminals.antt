-- Reading one token.
use Rattle.std.proofs.Common.{◌≡◌, ◌==◌, ℕ, suc, ℤ, Bool, true, false, List, [], ◌∷◌, refl, sym, ◌∙◌, ap, Some, None, eq-eqb}
use Rattle.std.specs.Prelude.{cond}
use Rattle.value_ops.specs.declared.places.Place.{Place}
use Rattle.algolw_tree.specs.declared.tokens.Word.{Word}
use Rattle.algolw_tree.specs.declared.tokens.Word.TheVariants as w
use Rattle.algolw_tree.specs.declared.tokens.Symbol.{Symbol}
use Rattle.algolw_tree.specs.declared.tokens.Symbol.TheVariants as s
use Rattle.algolw_tree.specs.declared.tokens.Token.{Token}
use Rattle.algolw_tree.specs.declared.tokens.TokenKind.{TokenKind}
use Rattle.algolw_tree.specs.declared.tokens.TokenKind.TheVariants.{Word as AWord, Number, BitsLit, Quoted, Symbol as ASymbol, Finish}
use Rattle.algolw_tree.specs.Parts.{token}
use Rattle.algolw_tree.specs.Grammar.{word_at, symbol_at, name_at, number_at, bits_at, string_at, finish_at, word, symbol, name, number}
use Rattle.algolw_grammar.specs.Kinds.{word_number, symbol_number, the_word, the_symbol, a_name}
use Rattle.algolw_grammar.specs.Readers.{read_token}
use Rattle.algolw_grammar.specs.Taken.{is_word, is_symbol, is_finish, word_taken, symbol_taken, name_taken, number_taken, bits_taken, string_taken, finish_taken}
use Rattle.algolw_grammar.specs.Reading.{read_word, read_symbol, read_name, read_number}
use Rattle.algolw_grammar.proofs.Sets.{or_left, eq_of}
use Rattle.algolw_grammar.proofs.Good.{Good}
use Rattle.algolw_grammar.proofs.Both.{token_good}
use Rattle.algolw_grammar.proofs.Labelling.{name_of}

same_number : (n : ℕ) → (n == n) ≡ true
same_number n = eq-eqb n n refl

-- the words and the symbols in the order of their numbers

words : List Word
words = w.Abs ∷ w.Algol ∷ w.And ∷ w.Array ∷ w.Assert ∷ w.Begin ∷ w.Bits ∷ w.Case ∷ w.Comment ∷ w.Complex ∷ w.Div ∷ w.Do ∷ w.Else ∷ w.End ∷ w.False ∷ w.For ∷ w.Fortran ∷ w.Go ∷ w.Goto ∷ w.If ∷ w.Integer ∷ w.Is ∷ w.Logical ∷ w.Long ∷ w.Null ∷ w.Of ∷ w.Or ∷ w.Procedure ∷ w.Real ∷ w.Record ∷ w.Reference ∷ w.Rem ∷ w.Result ∷ w.Shl ∷ w.Shr ∷ w.Short ∷ w.Step ∷ w.String ∷ w.Then ∷ w.To ∷ w.True ∷ w.Until ∷ w.Value ∷ w.While ∷ []

symbols : List Symbol
symbols = s.Open ∷ s.Close ∷ s.Comma ∷ s.Semicolon ∷ s.Colon ∷ s.Equal ∷ s.Less ∷ s.Greater ∷ s.Plus ∷ s.Minus ∷ s.Star ∷ s.Slash ∷ s.Bar ∷ s.Stop ∷ s.Not ∷ s.Becomes ∷ s.Bounds ∷ s.NotEqual ∷ s.LessEqual ∷ s.GreaterEqual ∷ s.Power ∷ []

-- the one of these with a number, counted from k on
from : {A : Type 0} → A → ℕ → List A → ℕ → A
from x k [] n = x
from x k (y ∷ ys) n = cond (n == k) y (from x (suc k) ys n)

word_back : (x : Word) → from w.Abs 0 words (word_number x) ≡ x
unfolding from words
word_back w.Abs = refl
word_back _ = refl

symbol_back : (x : Symbol) → from s.Open 44 symbols (symbol_number x) ≡ x
unfolding from symbols
symbol_back s.Open = refl
symbol_back _ = refl

word_same : (x y : Word) → word_number y ≡ word_number x → y ≡ x
word_same x y e = sym (word_back y) ∙ ap (from w.Abs 0 words) e ∙ word_back x

symbol_same : (x y : Symbol) → symbol_number y ≡ symbol_number x → y ≡ x
symbol_same x y e = sym (symbol_back y) ∙ ap (from s.Open 44 symbols) e ∙ symbol_back x

-- what a token is taken for, it is

some_if : {A : Type 0} (b : Bool) (x y : A) → cond b (Some x) None ≡ Some y → (b ≡ true) × (x ≡ y)
some_if true x y h = (refl, cc)
some_if false x y h = cc

word_kind : (x : Word) (k : TokenKind) → is_word x k ≡ true → k ≡ AWord x
word_kind x (AWord y) h = ap AWord (word_same x y (eq_of (word_number y) (word_number x) h))
word_kind x _ h = cc

symbol_kind : (x : Symbol) (k : TokenKind) → is_symbol x k ≡ true → k ≡ ASymbol x
symbol_kind x (ASymbol y) h = ap ASymbol (symbol_same x y (eq_of (symbol_number y) (symbol_number x) h))
symbol_kind x _ h = cc

finish_kind : (k : TokenKind) → is_finish k ≡ true → k ≡ Finish
finish_kind Finish h = refl
finish_kind _ h = cc

at_place : (t : Token) (k : TokenKind) (p : Place) → t.kind ≡ k → t.place ≡ p → t ≡ record { place = p; kind = k }
at_place t k p e f = ap (λ l. make l t.place) e ∙ ap (λ q. make k q) f
  where
    make : TokenKind → Place → Token
    make l q = record { place = q; kind = l }

pub word_is : (x : Word) (t : Token) (p : Place) → word_taken x t ≡ Some p → t ≡ word_at x p
word_is x t p h = let e = some_if (is_word x t.kind) t.place p h in at_place t (AWord x) p (word_kind x t.kind (e.0)) (e.1)

pub symbol_is : (x : Symbol) (t : Token) (p : Place) → symbol_taken x t ≡ Some p → t ≡ symbol_at x p
symbol_is x t p h = let e = some_if (is_symbol x t.kind) t.place p h in at_place t (ASymbol x) p (symbol_kind x t.kind (e.0)) (e.1)

pub finish_is : (t : Token) (p : Place) → finish_taken t ≡ Some p → t ≡ finish_at p
finish_is t p h = let e = some_if (is_finish t.kind) t.place p h in at_place t Finish p (finish_kind t.kind (e.0)) (e.1)

pub number_is : (t : Token) (x : ℤ × Place) → number_taken t ≡ Some x → t ≡ number_at x
number_is t x h = go t.kind t.place h
  where
    go : (k : TokenKind) (p : Place) → number_taken (record { place = p; kind = k }) ≡ Some x → record { place = p; kind = k } ≡ number_at x
    go (Number n) p h = let e : (n, p) ≡ x = cc in ap number_at e
    go _ p h = cc

pub bits_is : (t : Token) (x : ℕ × Place) → bits_taken t ≡ Some x → t ≡ bits_at x
bits_is t x h = go t.kind t.place h
  where
    go : (k : TokenKind) (p : Place) → bits_taken (record { place = p; kind = k }) ≡ Some x → record { place = p; kind = k } ≡ bits_at x
    go (BitsLit n) p h = let e : (n, p) ≡ x = cc in ap bits_at e
    go _ p h = cc

pub string_is : (t : Token) (x : List ℕ × Place) → string_taken t ≡ Some x → t ≡ string_at x
string_is t x h = go t.kind t.place h
  where
    go : (k : TokenKind) (p : Place) → string_taken (record { place = p; kind = k }) ≡ Some x → record { place = p; kind = k } ≡ string_at x
    go (Quoted n) p h = let e : (n, p) ≡ x = cc in ap string_at e
    go _ p h = cc

pub word_good : (x : Word) → Good (word x) (read_word x) (the_word x) [] false
unfolding word
word_good x = token_good (word_at x) (word_taken x) (the_word x) (word_is x) (λ p. ap (λ b. cond b (Some p) None) (same_number (word_number x))) (λ p. or_left _ _ (same_number (word_number x)))

pub symbol_good : (x : Symbol) → Good (symbol x) (read_symbol x) (the_symbol x) [] false
unfolding symbol
symbol_good x = token_good (symbol_at x) (symbol_taken x) (the_symbol x) (symbol_is x) (λ p. ap (λ b. cond b (Some p) None) (same_number (symbol_number x))) (λ p. or_left _ _ (same_number (symbol_number x)))

pub name_good : Good name read_name a_name [] false
unfolding name
name_good = token_good name_at name_taken a_name name_of (λ x. refl) (λ x. refl)

pub number_good : Good number read_number (66 ∷ []) [] false
unfolding number
number_good = token_good number_at number_taken (66 ∷ []) number_is (λ x. refl) (λ x. refl)

pub bits_good : Good (token bits_at) (read_token bits_taken) (67 ∷ []) [] false
bits_good = token_good bits_at bits_taken (67 ∷ []) bits_is (λ x. refl) (λ x. refl)

pub string_good : Good (token string_at) (read_token string_taken) (68 ∷ []) [] false
string_good = token_good string_at string_taken (68 ∷ []) string_is (λ x. refl) (λ x. refl)

pub finish_good : Good (token finish_at) (read_token finish_taken) (69 ∷ []) [] false
finish_good = token_good finish_at finish_taken (69 ∷ []) finish_is (λ x. refl) (λ x. refl)
