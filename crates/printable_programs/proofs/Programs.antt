-- Programs hold texts.
use Rattle.std.proofs.Common.{List, [], ◌∷◌, false}
use Rattle.algolw_tree.specs.Tree as tree
use Rattle.algolw_typing.specs.Scopes.{standard_scope}
use Rattle.algolw_typing.specs.Faults.{typed_program}
use Rattle.algolw_typing.specs.Naming.{program_naming}
use Rattle.algolw_typing.specs.Programs.{program_of, ordered_names}
use Rattle.algolw_typing.specs.Kept.{NothingForgotten}
use Rattle.program_meaning.specs.Translating.{Context, standard_known, program_phrase}
use Rattle.printed_lines.specs.Phrases.{PhraseHolds}
use Rattle.printable_programs.specs.Laws.{ProgramsHoldTexts}
use Rattle.printable_programs.proofs.Trees.{TreeHolds, NodeHolds}
use Rattle.printable_programs.proofs.Tokens.{tokens_hold}
use Rattle.printable_programs.proofs.Language.{program_holds}
use Rattle.printable_programs.proofs.Naming.{names_hold}
use Rattle.printable_programs.proofs.Typing.{node_holds}
use Rattle.printable_programs.proofs.Phrases.{phrase_holds}

pub program_texts : NothingForgotten → (x : tree.Phrase) → TreeHolds x → PhraseHolds (program_phrase (program_of x))
program_texts kept x t =
    let c : Context = record { names = ordered_names (program_naming x); known = standard_known standard_scope } in
    let n : NodeHolds (typed_program x).node = node_holds false x (typed_program x).node (kept (standard_scope ∷ []) x) t in
    phrase_holds c (typed_program x).node (names_hold x t) n

pub programs_hold_texts : NothingForgotten → ProgramsHoldTexts
programs_hold_texts kept deck tokens x b h are spelled = program_texts kept x (program_holds tokens x b spelled (tokens_hold deck tokens h are))
