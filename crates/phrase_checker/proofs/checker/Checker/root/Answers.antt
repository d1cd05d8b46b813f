use Rattle.algolw_tree.specs.Wholes.{whole_tree}
use Rattle.phrase_checker.proofs.Noting.{notes_still}
use Rattle.phrase_checker.proofs.Wholes.{noted}
use Rattle.phrase_checker.proofs.checker.Checker.root.Goals as goal

pub returns-clause-found : goal.returns-clause-found
returns-clause-found c =
    let root = c.args.root in
    noted c.args.path.now c.args.self.now.log c.block.new.self.log c.found.new.self.log _ (whole_tree root) (c.in_ok-verdict.ensures.found root.place root.first) c.in_ok-found.ensures.found

pub returns-clause-notes : goal.returns-clause-notes
returns-clause-notes c = notes_still c.args.self.now.log c.block.new.self.log c.found.new.self.log _ c.in_ok-verdict.ensures.notes c.in_ok-found.ensures.notes
