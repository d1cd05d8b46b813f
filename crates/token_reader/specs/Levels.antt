-- Chains of operators, by level.
use Rattle.std.specs.Prelude.{ℕ, List}
use Rattle.value_ops.specs.declared.places.Place.{Place}
use Rattle.algolw_tree.specs.declared.phrases.Op.{Op}
use Rattle.algolw_tree.specs.declared.tokens.Word.TheVariants as w
use Rattle.algolw_tree.specs.Tree.{Phrase, Link}
use Rattle.algolw_grammar.specs.Kinds.{the_word}
use Rattle.algolw_grammar.specs.Readers.{Reader}
use Rattle.algolw_grammar.specs.Reading.{Readers, read_or, read_and, read_adding, read_multiplying, read_shifting, adding, multiplying, shifting, read_conj, read_neg, read_signed, read_term, read_shift, read_prim, read_links, read_chain}
use Rattle.token_reader.specs.declared.operators.Level.{Level}
use Rattle.token_reader.specs.declared.operators.Level.TheVariants.{Or, And, Sum, Term, Shift}

abbrev pub operators : Level → List ℕ
operators Or = the_word w.Or
operators And = the_word w.And
operators Sum = adding
operators Term = multiplying
operators Shift = shifting

abbrev pub read_operator : Level → Reader (Op × Place)
read_operator Or = read_or
read_operator And = read_and
read_operator Sum = read_adding
read_operator Term = read_multiplying
read_operator Shift = read_shifting

-- the first operand, and a later one
abbrev pub read_first : Level → Readers → Reader Phrase
read_first Or r = read_conj r
read_first And r = read_neg r
read_first Sum r = read_signed r
read_first Term r = read_shift r
read_first Shift r = read_prim r

abbrev pub read_operand : Level → Readers → Reader Phrase
read_operand Or r = read_conj r
read_operand And r = read_neg r
read_operand Sum r = read_term r
read_operand Term r = read_shift r
read_operand Shift r = read_prim r

abbrev pub read_links_at : Level → Readers → Reader (List Link)
read_links_at level r = read_links (operators level) (read_operator level) (read_operand level r)

abbrev pub read_chain_at : Level → Readers → Reader Phrase
read_chain_at level r = read_chain (operators level) (read_first level r) (read_operator level) (read_operand level r)
