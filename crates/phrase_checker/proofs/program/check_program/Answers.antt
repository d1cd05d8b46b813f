use Rattle.algolw_tree.specs.Wholes.{whole_tree}
use Rattle.block_scopes.specs.FrameView.{frame_view}
use Rattle.phrase_checker.proofs.Noting.{program_noted}
use Rattle.phrase_checker.proofs.program.check_program.Goals as goal

pub returns-clause-names : goal.returns-clause-names
returns-clause-names c =
    (program_noted (whole_tree c.args.root) c.standard-standard.result (frame_view c.of_program.result) _ _ c.root.new.self.log c.note.new.self.log c.standard-standard.ensures c.of_program.ensures c.in_ok-note_standard.ensures c.new-log.ensures.names c.new-log.ensures.classes c.in_ok-block.ensures.notes c.in_ok-note.ensures.notes).0

pub returns-clause-classes : goal.returns-clause-classes
returns-clause-classes c =
    (program_noted (whole_tree c.args.root) c.standard-standard.result (frame_view c.of_program.result) _ _ c.root.new.self.log c.note.new.self.log c.standard-standard.ensures c.of_program.ensures c.in_ok-note_standard.ensures c.new-log.ensures.names c.new-log.ensures.classes c.in_ok-block.ensures.notes c.in_ok-note.ensures.notes).1
