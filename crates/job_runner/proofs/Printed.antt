-- The lines of a section, pushed one after the other.
use Rattle.std.proofs.Common.{◌≡◌, ℕ, ◌+◌, ◌≤◌, Option, List, [], ◌∷◌, ◌++◌, length, drop, Some, refl, sym, ap, ◌∙◌, arith, append_assoc}
use Rattle.std.specs.Prelude.{codes, slice_get}
use Rattle.value_ops.specs.declared.places.Place.{Place}
use Rattle.value_ops.specs.declared.places.Diagnostic.{Diagnostic}
use Rattle.value_ops.specs.Diagnostics.{diagnostic_text}
use Rattle.post_mortem.specs.Source.{source_text}
use Rattle.program_meaning.specs.Results.{numbered_text}
use Rattle.algolw_meaning.specs.Running.{count_of, counted_lines, lines, statement_on}
use Rattle.algolw_meaning.specs.Texts.{diagnostic_head, diagnostic_line, line}
use Rattle.job_runner.specs.declared.source.First.{First}
use Rattle.job_runner.specs.Counted.{HasCounts, lines_beside}
use Rattle.job_runner.proofs.Firsts.{next_of}

-- the line of a diagnostic is one with a number and a place
pub diagnostic_is : (d : Diagnostic) (text : List ℕ) → text ≡ diagnostic_text d.number → line (numbered_text (codes "DIAGNOSTIC") d.number d.place text) ≡ diagnostic_line d
unfolding diagnostic_head
diagnostic_is d text e = ap (λ t. line (numbered_text (codes "DIAGNOSTIC") d.number d.place t)) e

-- lines behind lines
pub lines_behind : (xs ys : List (List ℕ)) → lines (xs ++ ys) ≡ lines xs ++ lines ys
lines_behind [] ys = refl
lines_behind (x ∷ xs) ys = ap (λ text. line x ++ text) (lines_behind xs ys) ∙ sym (append_assoc (line x) (lines xs) (lines ys))

-- a line more of some
pub line_more : (texts : List (List ℕ)) (n : ℕ) (text out later all : List ℕ) → slice_get texts n ≡ Some text → later ≡ out ++ line text → out ++ lines (drop n texts) ≡ all → later ++ lines (drop (n + 1) texts) ≡ all
line_more texts n text out later all e is so_far =
    ap (λ t. t ++ lines (drop (n + 1) texts)) is
    ∙ append_assoc out (line text) (lines (drop (n + 1) texts))
    ∙ ap (λ ts. out ++ lines ts) (sym (next_of texts n text e))
    ∙ so_far

-- the first line of some
pub first_line : (text out later : List ℕ) (texts : List (List ℕ)) → later ≡ out ++ line text → later ++ lines texts ≡ out ++ lines (text ∷ texts)
first_line text out later texts e = ap (λ t. t ++ lines texts) e ∙ append_assoc out (line text) (lines texts)

-- the counts beside the cards are those of the first statements on them
beside_from : (statements begun : List Place) (cards : ℕ) (firsts : List (Option First)) → HasCounts statements begun cards firsts → (k : ℕ) (deck : List (List ℕ)) → k + length deck ≤ cards → lines_beside firsts (k + 1) deck ≡ counted_lines statements begun (k + 1) deck
beside_from statements begun cards firsts h k [] l = refl
beside_from statements begun cards firsts h k (card ∷ deck) l =
    ap (λ count. source_text card (k + 1) count ∷ lines_beside firsts (k + 1 + 1) deck) (h.counts k (omega (arith, l)))
    ∙ ap (λ texts. source_text card (k + 1) (count_of begun (statement_on (k + 1) statements)) ∷ texts) (beside_from statements begun cards firsts h (k + 1) deck (omega (arith, l)))

pub beside_is : (statements begun : List Place) (deck : List (List ℕ)) (firsts : List (Option First)) → HasCounts statements begun (length deck) firsts → lines_beside firsts 1 deck ≡ counted_lines statements begun 1 deck
beside_is statements begun deck firsts h = beside_from statements begun (length deck) firsts h 0 deck (omega arith)

-- the source, what was printed, the ending and the dump
pub section_is : (a b c d e : List ℕ) (source printed dump : List (List ℕ)) (ending : List ℕ) → a ≡ lines source → b ≡ a ++ line (codes "OUTPUT") → c ≡ b ++ lines printed → d ≡ c ++ line ending → e ≡ d ++ lines dump
    → e ≡ lines (source ++ (codes "OUTPUT" ∷ printed ++ (ending ∷ dump)))
section_is a b c d e source printed dump ending is_a is_b is_c is_d is_e =
    let output : List ℕ = line (codes "OUTPUT") in
    is_e
    ∙ ap (λ t. t ++ lines dump) (is_d ∙ ap (λ t. t ++ line ending) (is_c ∙ ap (λ t. t ++ lines printed) (is_b ∙ ap (λ t. t ++ output) is_a)))
    ∙ append_assoc (((lines source ++ output) ++ lines printed)) (line ending) (lines dump)
    ∙ append_assoc (lines source ++ output) (lines printed) (lines (ending ∷ dump))
    ∙ append_assoc (lines source) output (lines printed ++ lines (ending ∷ dump))
    ∙ ap (λ t. lines source ++ (output ++ t)) (sym (lines_behind printed (ending ∷ dump)))
    ∙ sym (lines_behind source (codes "OUTPUT" ∷ printed ++ (ending ∷ dump)))
