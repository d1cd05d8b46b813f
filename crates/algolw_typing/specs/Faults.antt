-- The faults of a program.
use Rattle.std.specs.Prelude.{List, [], ◌∷◌, ◌++◌, Bool, true, false, ◌&&◌, ◌||◌, nat_le}
use Rattle.value_ops.specs.declared.places.Diagnostic.{Diagnostic}
use Rattle.value_ops.specs.declared.places.Place.{Place}
use Rattle.algolw_tree.specs.Libraries.{library_place}
use Rattle.algolw_tree.specs.Tree.{Phrase, At, Kind, Block, item_and, Labelled}
use Rattle.algolw_typing.specs.Types.{is_place, is_before}
use Rattle.algolw_typing.specs.Verdicts.{Verdict, fault_of, part}
use Rattle.algolw_typing.specs.Rows.{program_row}
use Rattle.algolw_typing.specs.Scopes.{standard_scope}
use Rattle.algolw_typing.specs.Typing.{Out, faults, gives, typed_phrase}

-- in order of place, and at one place of number
abbrev pub is_in_front : Diagnostic → Diagnostic → Bool
is_in_front d e = is_before d.place e.place || (is_place d.place e.place && nat_le d.number e.number)

abbrev pub inserted : Diagnostic → List Diagnostic → List Diagnostic
inserted d [] = d ∷ []
inserted d (e ∷ es) = elim (is_in_front d e) [ true ↦ d ∷ e ∷ es | false ↦ e ∷ inserted d es ]

abbrev pub in_order : List Diagnostic → List Diagnostic
in_order [] = []
in_order (d ∷ ds) = inserted d (in_order ds)

-- what is found of a program, with the standard names in a block round it
abbrev pub typed_program : Phrase → Out
typed_program x = typed_phrase (standard_scope ∷ []) x

-- where the block of the deck begins: of a program alone, its own; of one with a library round it, that of the library's one item
abbrev pub item_place : Place → Kind → Place
item_place p (Block decls (item_and (Labelled labels (At q g k)) items)) = q
item_place p k = p

abbrev pub deck_place : Phrase → Place
deck_place (At p f k) = elim (is_place p library_place) [ true ↦ item_place p k | false ↦ p ]

-- the program's block, at BEGIN: 36 unless a statement; with a library it is the deck's, whose type the library's block has
abbrev pub program_verdict : Phrase → Out → Verdict
program_verdict x o = part (gives o) (program_row (deck_place x))

abbrev pub faults_found : Phrase → Out → List Diagnostic
faults_found x o = faults o ++ fault_of (program_verdict x o)

-- all faults of a program, in order
abbrev pub program_faults : Phrase → List Diagnostic
program_faults x = in_order (faults_found x (typed_program x))
