-- What a function that reads a front gives, which writes down the kind of a token.
use Rattle.std.specs.Prelude.{ℕ, length, ◌<◌}
use Rattle.algolw_tree.specs.declared.tokens.TokenKind.{TokenKind}
use Rattle.algolw_scanner.specs.Front.{Outcome, Found, Open, Pass, Fault}
use Rattle.algolw_scanner.specs.declared.lexeme.Lexeme.{Lexeme}
use Rattle.algolw_scanner.specs.declared.lexeme.Lexeme.TheVariants.{Token, Comment, Blank, Fault as AFault}

abbrev pub seen : TokenKind → Lexeme → Outcome
seen k (Token r) = Found k r.now
seen k (Comment r) = Open r.now
seen k (AFault n) = Fault n
seen k (Blank r) = Pass r.now

-- what stands behind the front is shorter than the line
abbrev pub Shrinks : ℕ → Outcome → Type 0
Shrinks n (Found k r) = length r < n
Shrinks n (Open r) = length r < n
Shrinks n (Pass r) = length r < n
Shrinks n (Fault k) = Unit {0}
