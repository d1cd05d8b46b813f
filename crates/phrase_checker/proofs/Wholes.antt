-- What is found of a phrase itself stands behind what is found inside it.
use Rattle.std.proofs.Common.{◌≡◌, ◌++◌, refl, ap, ◌∙◌}
use Rattle.algolw_tree.specs.Tree as tree
use Rattle.algolw_typing.specs.Scopes.{Scopes}
use Rattle.algolw_typing.specs.Typed as typed
use Rattle.algolw_typing.specs.Typing.{Out, faults, typed_phrase}
use Rattle.algolw_typing.specs.Verdicts.{Verdict, fault_of}
use Rattle.typed_findings.specs.Findings.{found_of, found_of_kind}
use Rattle.typed_findings.specs.declared.findings.Log.{Log}
use Rattle.typed_phrases.specs.Readings.{with_verdict}
use Rattle.phrase_checker.specs.Checked.{Adds, Checked, Noted, found_itself}
use Rattle.phrase_checker.proofs.Growth.{as_well, behind}

-- whatever its verdict
pub found_with : (path : Scopes) (v : Verdict) (a : tree.Phrase) → found_of_kind (typed.kind (typed_phrase path a).node) ++ found_itself a v ≡ found_of (with_verdict v (typed_phrase path a).node)
found_with path v (tree.At p f tree.Empty) = refl
found_with path v (tree.At p f tree.Null) = refl
found_with path v (tree.At p f (tree.Number n)) = refl
found_with path v (tree.At p f (tree.Truth b)) = refl
found_with path v (tree.At p f (tree.BitsLit b)) = refl
found_with path v (tree.At p f (tree.Quoted s)) = refl
found_with path v (tree.At p f (tree.Named x lists)) = refl
found_with path v (tree.At p f (tree.Negated a)) = refl
found_with path v (tree.At p f (tree.Abs a)) = refl
found_with path v (tree.At p f (tree.Signed minus a)) = refl
found_with path v (tree.At p f (tree.Chain a links)) = refl
found_with path v (tree.At p f (tree.Relation op a b)) = refl
found_with path v (tree.At p f (tree.IsClass a x q)) = refl
found_with path v (tree.At p f (tree.Assign a b)) = refl
found_with path v (tree.At p f (tree.IfThen c a tree.Missing)) = refl
found_with path v (tree.At p f (tree.IfThen c a (tree.There b))) = refl
found_with path v (tree.At p f (tree.CaseValue c values)) = refl
found_with path v (tree.At p f (tree.CaseDo c parts)) = refl
found_with path v (tree.At p f (tree.ForStep x a tree.Missing b body)) = refl
found_with path v (tree.At p f (tree.ForStep x a (tree.There step) b body)) = refl
found_with path v (tree.At p f (tree.ForList x values body)) = refl
found_with path v (tree.At p f (tree.WhileDo c a)) = refl
found_with path v (tree.At p f (tree.Goto x)) = refl
found_with path v (tree.At p f (tree.Assert c)) = refl
found_with path v (tree.At p f (tree.Block decls items)) = refl

pub own_verdict : (path : Scopes) (a : tree.Phrase) → with_verdict (typed_phrase path a).verdict (typed_phrase path a).node ≡ (typed_phrase path a).node
own_verdict path (tree.At p f tree.Empty) = refl
own_verdict path (tree.At p f tree.Null) = refl
own_verdict path (tree.At p f (tree.Number n)) = refl
own_verdict path (tree.At p f (tree.Truth b)) = refl
own_verdict path (tree.At p f (tree.BitsLit b)) = refl
own_verdict path (tree.At p f (tree.Quoted s)) = refl
own_verdict path (tree.At p f (tree.Named x lists)) = refl
own_verdict path (tree.At p f (tree.Negated a)) = refl
own_verdict path (tree.At p f (tree.Abs a)) = refl
own_verdict path (tree.At p f (tree.Signed minus a)) = refl
own_verdict path (tree.At p f (tree.Chain a links)) = refl
own_verdict path (tree.At p f (tree.Relation op a b)) = refl
own_verdict path (tree.At p f (tree.IsClass a x q)) = refl
own_verdict path (tree.At p f (tree.Assign a b)) = refl
own_verdict path (tree.At p f (tree.IfThen c a tree.Missing)) = refl
own_verdict path (tree.At p f (tree.IfThen c a (tree.There b))) = refl
own_verdict path (tree.At p f (tree.CaseValue c values)) = refl
own_verdict path (tree.At p f (tree.CaseDo c parts)) = refl
own_verdict path (tree.At p f (tree.ForStep x a tree.Missing b body)) = refl
own_verdict path (tree.At p f (tree.ForStep x a (tree.There step) b body)) = refl
own_verdict path (tree.At p f (tree.ForList x values body)) = refl
own_verdict path (tree.At p f (tree.WhileDo c a)) = refl
own_verdict path (tree.At p f (tree.Goto x)) = refl
own_verdict path (tree.At p f (tree.Assert c)) = refl
own_verdict path (tree.At p f (tree.Block decls items)) = refl

-- a phrase, by what is inside it and by what is found of it itself
pub noted : (path : Scopes) (s0 s1 s2 : Log) (v : Verdict) (a : tree.Phrase) → Checked s0 s1 v (typed_phrase path a) → Adds s1 s2 (fault_of v) (found_itself a v) → Noted s0 s2 v (typed_phrase path a)
noted path s0 s1 s2 v a h k =
    let o : Out = typed_phrase path a in
    record {
      added = as_well s0 s2 (o.inside ++ fault_of v) (faults o) (found_of_kind (typed.kind o.node) ++ found_itself a v) (found_of o.node) (ap (λ (u : Verdict). o.inside ++ fault_of u) h.verdict)
          (found_with path v a ∙ ap (λ (u : Verdict). found_of (with_verdict u o.node)) h.verdict ∙ ap found_of (own_verdict path a)) (behind s0 s1 s2 o.inside (fault_of v) (found_of_kind (typed.kind o.node)) (found_itself a v) h.added k);
      verdict = h.verdict;
    }
