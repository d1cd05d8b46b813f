-- A program whose findings are these has a number for each of its names, classes and statements, and it is what is taken.
use Rattle.std.proofs.Common.{◌≡◌, List, sym, ap, subst, ◌∙◌}
use Rattle.value_ops.specs.declared.places.Place.{Place}
use Rattle.record_classes.specs.Classes.{Classes}
use Rattle.algolw_tree.specs.Tree as tree
use Rattle.algolw_typing.specs.Faults.{typed_program}
use Rattle.algolw_typing.specs.Known.{AllHad, Knows}
use Rattle.algolw_typing.specs.Programs.{by_place, statements}
use Rattle.algolw_typing.specs.ProgramView.{Numbers}
use Rattle.algolw_typing.specs.Typed as typed
use Rattle.typed_findings.specs.Findings.{Found, counted_places, found_of}
use Rattle.program_numbers.specs.Makes.{Makes, MakesTaken}
use Rattle.program_numbers.specs.Numbered.{NodeNumbered}
use Rattle.program_numbers.specs.Taken.{node_taken}
use Rattle.program_numbers.specs.declared.numbering.Numbering.{Numbering}
use Rattle.program_numbers.proofs.KnownTrees.{all_sorted, tree_numbered}
use Rattle.program_numbers.proofs.StatementsFound.{statements_found}
use Rattle.program_numbers.proofs.TakenBack.{program_taken}

-- the statements that were found, in order of place
pub places_found : (x : tree.Phrase) (found : List Found) → found ≡ found_of (typed_program x).node → by_place (λ (p : Place). p) (counted_places found) ≡ by_place (λ (p : Place). p) (statements (typed_program x).node)
places_found x found e = ap (λ fs. by_place (λ (p : Place). p) (counted_places fs)) e ∙ statements_found x

pub program_numbered : (n : Numbering) (x : tree.Phrase) (found : List Found) (names classes : List Place) → found ≡ found_of (typed_program x).node → n.names ≡ names → n.classes ≡ classes → n.statements ≡ by_place (λ (p : Place). p) (counted_places found)
    → Knows names classes (typed_program x).node → NodeNumbered n (node_taken x found).0
program_numbered n x found names classes e of_names of_classes of_statements known =
    let root : typed.Node = (typed_program x).node in
    let all : Knows n.names n.classes root = subst (λ ps. Knows n.names ps root) (sym of_classes) (subst (λ ps. Knows ps classes root) (sym of_names) known) in
    subst (λ (t : typed.Node × List Found). NodeNumbered n t.0) (sym (program_taken x found e))
    (tree_numbered n root all (subst (λ ps. AllHad ps (statements root)) (sym (of_statements ∙ places_found x found e)) (all_sorted (statements root))))

pub program_made : (n : Numbering) (old new : Classes) (view : Numbers → typed.Node) (x : tree.Phrase) (found behind : List Found) → found ≡ found_of (typed_program x).node → MakesTaken n old new view behind (node_taken x found) → Makes n old new view (typed_program x).node
program_made n old new view x found behind e h = subst (λ (t : typed.Node × List Found). Makes n old new view t.0) (program_taken x found e) h.made
