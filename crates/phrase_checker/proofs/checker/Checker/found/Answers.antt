use Rattle.std.proofs.Common.{[], ◌∷◌, ◌++◌, ap, append-nil}
use Rattle.algolw_typing.specs.Verdicts.{Verdict, fault_of}
use Rattle.typing_rules.specs.View as view
use Rattle.typed_findings.specs.Findings.{Found, finding_view}
use Rattle.phrase_checker.proofs.Growth.{as_well, behind, both_ok, one_more}
use Rattle.phrase_checker.proofs.Noting.{notes_still, ok_weaker}
use Rattle.phrase_checker.proofs.checker.Checker.found.Goals as goal

pub returns-clause-found : goal.returns-clause-found
returns-clause-found c =
    let v : Verdict = view.verdict c.args.verdict in
    let f = c.of_phrase.result in
    let before = c.note.new.self.log in
    let after = c.add.new.self in
    both_ok c.add.result _ _ _
    (λ d e. as_well c.args.self.now.log after (fault_of v ++ []) (fault_of v) (finding_view f ∷ []) _ (append-nil (fault_of v)) (ap (λ (x : Found). x ∷ []) c.of_phrase.ensures)
    (behind c.args.self.now.log before after (fault_of v) [] [] (finding_view f ∷ []) c.in_ok-note.ensures.found (one_more before after f d e)))
    c.add.ensures.faults c.add.ensures.findings

pub returns-clause-notes : goal.returns-clause-notes
returns-clause-notes c = ok_weaker c.add.result _ _ (λ h. notes_still c.args.self.now.log c.note.new.self.log c.add.new.self _ c.in_ok-note.ensures.notes h) c.add.ensures.notes
