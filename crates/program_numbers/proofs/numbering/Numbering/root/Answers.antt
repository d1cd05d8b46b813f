use Rattle.algolw_tree.specs.Wholes.{whole_kind}
use Rattle.program_numbers.proofs.NodeMaking.{gives_asked, node_taken_made, statement_asked}
use Rattle.program_numbers.proofs.numbering.Numbering.root.Goals as goal

pub block-requires : goal.block-requires
block-requires c = c.requires.2

pub gives-requires : goal.gives-requires
gives-requires c =
    let root = c.args.root in
    gives_asked c.args.self.now root.place root.first (whole_kind root) c.args.found.now c.block.new.found _ _ c.in_ok-kind.ensures.left c.take-own.ensures.first c.phrase_type.ensures c.requires

pub statement-statement-requires : goal.statement-statement-requires
statement-statement-requires c =
    let root = c.args.root in
    statement_asked c.args.self.now root.place root.first (whole_kind root) c.args.found.now c.block.new.found _ c.in_ok-kind.ensures.left c.take-own.ensures.first c.requires

pub returns : goal.returns
returns c =
    let root = c.args.root in
    node_taken_made c.args.self.now _ _ _ root.place root.first c.in_ok-kind.kind c.in_ok-gives.gives c.statement-statement.result (whole_kind root) c.args.found.now c.block.new.found _ _ _ c.in_ok-kind.ensures c.take-own.ensures.first c.take-own.ensures.rest c.phrase_type.ensures c.in_ok-gives.ensures c.statement-statement.ensures
