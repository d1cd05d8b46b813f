use Rattle.std.proofs.Common.{[], ◌∷◌, ◌++◌, map}
use Rattle.algolw_tree.specs.View.{formal_tree}
use Rattle.algolw_typing.specs.Known.{KnowsFormals}
use Rattle.algolw_typing.specs.ProgramView as program
use Rattle.program_numbers.specs.Numbered.{FormalNumbered}
use Rattle.program_numbers.specs.Taken.{formal_taken, formals_taken}
use Rattle.program_numbers.proofs.RowKinds.{formal_row, formals_behind}
use Rattle.program_numbers.proofs.RowsTaken.{turn, finish_list, part_has}
use Rattle.program_numbers.proofs.numbering.Numbering.formals.Goals as goal

pub formal-requires : goal.formal-requires
formal-requires c = part_has c.args.self.now program.formal_view [] (λ x xs. x ∷ xs) (λ xs w. xs ++ w) (λ ss. formals_taken (map formal_tree ss)) (λ s. formal_taken (formal_tree s)) (formal_row formal_tree) (KnowsFormals c.args.self.now.names c.args.self.now.classes) (FormalNumbered c.args.self.now) (λ x w h. ((h.0, h.1), h.2)) (formals_behind c.args.self.now.names c.args.self.now.classes) c.args.table.now c.loop-formal.table c.args.formals.now c.loop-formal.formal-index c.formal-item.result (formals_taken (map formal_tree c.args.formals.now) c.args.found.now) c.loop-formal.found c.loop-formal.made.items c.loop-formal-test.true c.formal-item.is c.loop-formal.invariant c.requires

pub loop-formal-preserved : goal.loop-formal-preserved
loop-formal-preserved c = turn c.args.self.now program.formal_view [] (λ x xs. x ∷ xs) (λ xs w. xs ++ w) (λ ss. formals_taken (map formal_tree ss)) (λ s. formal_taken (formal_tree s)) (formal_row formal_tree) c.args.table.now c.loop-formal.table _ c.args.formals.now c.loop-formal.formal-index c.formal-item.result (formals_taken (map formal_tree c.args.formals.now) c.args.found.now) c.loop-formal.found _ c.loop-formal.made.items c.push.new.self.items _ c.loop-formal-test.true c.formal-item.is c.loop-formal.invariant c.in_ok-next.ensures c.in_ok-push.ensures.items

pub returns : goal.returns
returns c = finish_list c.args.self.now program.formal_view (λ ss. formals_taken (map formal_tree ss)) (λ s. formal_taken (formal_tree s)) (formal_row formal_tree) c.args.table.now c.loop-formal.table c.args.formals.now c.loop-formal.formal-index (formals_taken (map formal_tree c.args.formals.now) c.args.found.now) c.loop-formal.found c.loop-formal.made.items c.loop-formal-test.false c.loop-formal.invariant
