-- The subscripts of a subarray: those that are phrases, and the stars.
use Rattle.std.proofs.Common.{◌≡◌, ℕ, ◌+◌, max, true, false, List, [], ◌∷◌, map, refl, sym, ap, ◌∙◌, zero-add}
use Rattle.value_ops.specs.declared.places.Place.{Place}
use Rattle.algolw_tree.specs.declared.programs.TypedActual.{TypedActual, Star, Phrase'}
use Rattle.algolw_typing.specs.Typed as typed
use Rattle.algolw_typing.specs.ProgramView.{Numbers}
use Rattle.program_meaning.specs.Copying.{free_of}
use Rattle.program_meaning.specs.Translating as translating
use Rattle.program_meaning.specs.Translating.{given_of, phrase_of, subscripts_of}
use Rattle.phrase_code.specs.Coding as coding
use Rattle.phrase_code.specs.Coding.{◌▸◌, code, code_each, code_subscripts, known, one, stars_of}
use Rattle.phrase_code.specs.Marks.{marks, phrases_marks, subscripts_marks}
use Rattle.phrase_code.specs.Sizes.{Known, size}
use Rattle.stack_code.specs.Instr as instr
use Rattle.compilable_programs.specs.Suits.{AllSuit, SubscriptsSuit}
use Rattle.symbol_table.specs.Parts.{actuals_in}
use Rattle.stack_codegen.specs.Listed.{is_star, star_count}

-- ---- those that are phrases

pub subscripts_suit : (names : List Known) (t : translating.Context) (given : typed.Actuals) → SubscriptsSuit names (subscripts_of t given) → AllSuit names (given_of t given)
subscripts_suit names t typed.no_actuals s = tt
subscripts_suit names t (typed.actual_and (typed.Star q) rest) s = subscripts_suit names t rest s
subscripts_suit names t (typed.actual_and (typed.Given a) rest) s = (s.0, subscripts_suit names t rest s.1)

pub subscripts_coded : (c : coding.Context) (w : Place) (k : ℕ) (t : translating.Context) (given : typed.Actuals) → code_each c w k (given_of t given) ≡ code_subscripts c w k (subscripts_of t given)
subscripts_coded c w k t typed.no_actuals = refl
subscripts_coded c w k t (typed.actual_and (typed.Star q) rest) = subscripts_coded c w k t rest
subscripts_coded c w k t (typed.actual_and (typed.Given a) rest) = ap (λ l. code c w instr.the_value k (phrase_of t a) ▸ one w instr.Push ▸ l) (subscripts_coded c w (k + (size (known c) (phrase_of t a) + 1)) t rest)

pub subscripts_marked : (t : translating.Context) (given : typed.Actuals) → phrases_marks (given_of t given) ≡ subscripts_marks (subscripts_of t given)
subscripts_marked t typed.no_actuals = refl
subscripts_marked t (typed.actual_and (typed.Star q) rest) = subscripts_marked t rest
subscripts_marked t (typed.actual_and (typed.Given a) rest) = ap (max (marks (phrase_of t a))) (subscripts_marked t rest)

-- ---- stars

pub stars_are : (t : translating.Context) (ns : Numbers) (subscripts : List TypedActual) → stars_of (subscripts_of t (actuals_in ns subscripts)) ≡ map is_star subscripts
stars_are t ns [] = refl
stars_are t ns (Star q ∷ rest) = ap (λ l. true ∷ l) (stars_are t ns rest)
stars_are t ns (Phrase' p f k g s ∷ rest) = ap (λ l. false ∷ l) (stars_are t ns rest)

pub free_are : (t : translating.Context) (ns : Numbers) (subscripts : List TypedActual) → free_of (subscripts_of t (actuals_in ns subscripts)) ≡ star_count subscripts
free_are t ns [] = refl
free_are t ns (Star q ∷ rest) = ap (λ n. 1 + n) (free_are t ns rest)
free_are t ns (Phrase' p f k g s ∷ rest) = free_are t ns rest ∙ sym (zero-add (star_count rest))
