use Rattle.std.proofs.Common.{[], ◌∷◌, ◌++◌, map}
use Rattle.algolw_typing.specs.Known.{KnowsGroups}
use Rattle.program_numbers.specs.Numbered.{GroupNumbered}
use Rattle.program_numbers.specs.ProgramParts.{group_in, group_tree}
use Rattle.program_numbers.specs.Taken.{group_taken, groups_taken}
use Rattle.program_numbers.proofs.RowKinds.{group_row, groups_behind}
use Rattle.program_numbers.proofs.RowsTaken.{turn, finish_list, part_has}
use Rattle.program_numbers.proofs.numbering.Numbering.groups.Goals as goal

pub group-requires : goal.group-requires
group-requires c = part_has c.args.self.now group_in [] (λ x xs. x ∷ xs) (λ xs w. xs ++ w) (λ ss. groups_taken (map group_tree ss)) (λ s. group_taken (group_tree s)) (group_row group_tree) (KnowsGroups c.args.self.now.names c.args.self.now.classes) (GroupNumbered c.args.self.now) (λ x w h. ((h.0, h.1), h.2)) (groups_behind c.args.self.now.names c.args.self.now.classes) c.args.table.now c.loop-group.table c.args.groups.now c.loop-group.group-index c.group-item.result (groups_taken (map group_tree c.args.groups.now) c.args.found.now) c.loop-group.found c.loop-group.made.items c.loop-group-test.true c.group-item.is c.loop-group.invariant c.requires

pub loop-group-preserved : goal.loop-group-preserved
loop-group-preserved c = turn c.args.self.now group_in [] (λ x xs. x ∷ xs) (λ xs w. xs ++ w) (λ ss. groups_taken (map group_tree ss)) (λ s. group_taken (group_tree s)) (group_row group_tree) c.args.table.now c.loop-group.table _ c.args.groups.now c.loop-group.group-index c.group-item.result (groups_taken (map group_tree c.args.groups.now) c.args.found.now) c.loop-group.found _ c.loop-group.made.items c.push.new.self.items _ c.loop-group-test.true c.group-item.is c.loop-group.invariant c.in_ok-next.ensures c.in_ok-push.ensures.items

pub returns : goal.returns
returns c = finish_list c.args.self.now group_in (λ ss. groups_taken (map group_tree ss)) (λ s. group_taken (group_tree s)) (group_row group_tree) c.args.table.now c.loop-group.table c.args.groups.now c.loop-group.group-index (groups_taken (map group_tree c.args.groups.now) c.args.found.now) c.loop-group.found c.loop-group.made.items c.loop-group-test.false c.loop-group.invariant
