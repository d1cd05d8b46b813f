use Rattle.std.proofs.Common.{[], ◌∷◌, sym, ap, refl}
use Rattle.algolw_tree.specs.Tree as tree
use Rattle.algolw_tree.specs.View.{kind_tree}
use Rattle.algolw_tree.specs.declared.phrases.Kind.{Kind}
use Rattle.algolw_typing.specs.Verdicts.{Verdict, fault_of}
use Rattle.typing_rules.specs.View as view
use Rattle.typed_findings.specs.Findings.{own_finding}
use Rattle.phrase_checker.specs.Checked.{found_itself}
use Rattle.phrase_checker.proofs.Growth.{as_well, both_ok}
use Rattle.phrase_checker.proofs.OtherKinds.{found_of_some}
use Rattle.phrase_checker.proofs.checker.Checker.conclude.Goals as goal

pub returns-in-Empty-clause-found : goal.returns-in-Empty-clause-found
returns-in-Empty-clause-found c =
    let own = c.args.phrase.now in
    let v : Verdict = view.verdict c.args.verdict in
    both_ok c.note.result _ _ _
    (λ h k. as_well c.args.self.now.log c.note.new.self.log (fault_of v) (fault_of v) [] _ refl (sym (ap (λ (k : Kind). found_itself (tree.At own.place own.first (kind_tree k)) v) c.in-Empty.is)) h)
    c.note.ensures.found c.note.ensures.found

pub returns-in_default-clause-found : goal.returns-in_default-clause-found
returns-in_default-clause-found c =
    let own = c.args.phrase.now in
    let v : Verdict = view.verdict c.args.verdict in
    both_ok c.found.result _ _ _
    (λ h k. as_well c.args.self.now.log c.found.new.self.log (fault_of v) (fault_of v) (own_finding own.first v ∷ []) _ refl (sym (found_of_some own.place own.first own.kind v c.in_default.not-Empty)) h)
    c.found.ensures.found c.found.ensures.found
