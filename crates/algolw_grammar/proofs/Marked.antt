-- Reading by so many levels of nesting, in which what goes beyond the limit is marked, and not where the reading stops.
use Rattle.std.proofs.Common.{ℕ, zero, suc}
use Rattle.algolw_tree.specs.declared.tokens.Word.TheVariants as w
use Rattle.algolw_tree.specs.declared.tokens.Symbol.TheVariants as s
use Rattle.algolw_grammar.specs.Kinds.{the_word, the_symbol}
use Rattle.algolw_grammar.specs.Readers.{read_deep}
use Rattle.algolw_grammar.specs.Reading.{Readers, first_phrase, read_phrase, read_negation, read_absolute}
use Rattle.algolw_grammar.proofs.Good.{read_beyond, Eats, Tied}
use Rattle.algolw_grammar.proofs.Unread.{Unread}

unfoldable pub marked : ℕ → ℕ → Readers
marked zero room = record { phrase = read_deep first_phrase; negation = read_deep (the_symbol s.Not); absolute = read_deep (the_word w.Abs) }
marked (suc n) zero = record { phrase = read_beyond (read_phrase (marked n zero)); negation = read_beyond (read_negation (marked n zero)); absolute = read_beyond (read_absolute (marked n zero)) }
marked (suc n) (suc room) = record { phrase = read_phrase (marked n room); negation = read_negation (marked n room); absolute = read_absolute (marked n room) }

pub record UnreadLevels (r : Readers) : Type 0 where
  pub phrase : Unread r.phrase first_phrase
  pub negation : Unread r.negation (the_symbol s.Not)
  pub absolute : Unread r.absolute (the_word w.Abs)

pub record EatsLevels (r : Readers) : Type 0 where
  pub phrase : Eats r.phrase first_phrase
  pub negation : Eats r.negation (the_symbol s.Not)
  pub absolute : Eats r.absolute (the_word w.Abs)

-- the readers q stop beyond the limit, which the readers r mark
pub record TiedLevels (r q : Readers) : Type 0 where
  pub phrase : Tied r.phrase q.phrase
  pub negation : Tied r.negation q.negation
  pub absolute : Tied r.absolute q.absolute
