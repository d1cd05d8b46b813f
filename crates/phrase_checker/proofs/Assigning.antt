-- What is found of an assignment, and of the value of one, which isn't counted where it is an assignment itself.
use Rattle.std.proofs.Common.{◌≡◌, [], ◌∷◌, ◌++◌, List, Option, None, false, refl, sym, ap, subst, ◌∙◌, append-nil}
use Rattle.value_ops.specs.declared.places.Place.{Place}
use Rattle.algolw_tree.specs.Tree as tree
use Rattle.algolw_typing.specs.Scopes.{Scopes}
use Rattle.algolw_typing.specs.Typed as typed
use Rattle.algolw_typing.specs.Types.{Gives}
use Rattle.algolw_typing.specs.Typing.{Left, Out, assign_row, faults, gives, left_of, right_end, typed_kind, typed_phrase, uncounted}
use Rattle.algolw_typing.specs.Verdicts.{Verdict, fault_of, part, two_parts, type_of}
use Rattle.typed_findings.specs.Findings.{Found, Phrase, finding_view, found_of, found_of_kind}
use Rattle.typed_findings.specs.declared.finding.Finding.{Finding}
use Rattle.typed_findings.specs.declared.findings.Log.{Log}
use Rattle.phrase_checker.specs.Checked.{Adds, AssignmentChecked, Noted, ValueChecked}
use Rattle.phrase_checker.proofs.Growth.{as_well, behind, one_more}
use Rattle.phrase_checker.proofs.OtherKinds.{is_assignment}

-- counted or not, the right end is the same
same_end : (n : typed.Node) → right_end (uncounted n) ≡ right_end n
same_end (typed.At p f g s k) = by_kind k where
  by_kind : (k : typed.Kind) → right_end (uncounted (typed.At p f g s k)) ≡ right_end (typed.At p f g s k)
  by_kind (typed.Assign a b) = refl
  by_kind k = refl

-- ---- an assignment, by its sides

pub assigned : (path : Scopes) (p f : Place) (left : Left) (a b : tree.Phrase) (s0 s1 s2 : Log) (v w r : Verdict) (end : Option Gives) → left ≡ left_of path a → Noted s0 s1 v (typed_phrase path a) → ValueChecked s1 s2 w end (typed_phrase path b)
    → r ≡ two_parts (type_of v) (type_of w) (λ l u. part end (assign_row p left l)) → AssignmentChecked s0 s2 r end (typed_kind path p f (tree.Assign a b))
assigned path p f left a b s0 s1 s2 v w r end l h k e =
    let x : Out = typed_phrase path a in
    let y : Out = typed_phrase path b in
    record {
      checked = record {
        added = behind s0 s1 s2 (faults x) (faults y) (found_of x.node) (found_of (uncounted y.node)) h.added k.added;
        verdict = e ∙ ap (λ (q : Left). two_parts (type_of v) (type_of w) (λ l u. part end (assign_row p q l))) l ∙ ap (λ (q : Verdict). two_parts (type_of q) (type_of w) (λ l u. part end (assign_row p (left_of path a) l))) h.verdict
            ∙ ap (λ (q : Verdict). two_parts (gives x) (type_of q) (λ l u. part end (assign_row p (left_of path a) l))) k.verdict ∙ ap (λ (g : Option Gives). two_parts (gives x) (gives y) (λ l u. part g (assign_row p (left_of path a) l))) k.last;
      };
      last = k.last ∙ sym (same_end y.node);
    }

-- ---- the value of one

-- any other phrase is counted as it is, and is itself at the right end
still_counted : (path : Scopes) (p f : Place) (k : tree.Kind) → is_assignment k ≡ false → uncounted (typed_kind path p f k).node ≡ (typed_kind path p f k).node
still_counted path p f (tree.Assign a b) other = cc
still_counted path p f (tree.IfThen c a tree.Missing) other = refl
still_counted path p f (tree.IfThen c a (tree.There b)) other = refl
still_counted path p f (tree.ForStep x a tree.Missing b body) other = refl
still_counted path p f (tree.ForStep x a (tree.There step) b body) other = refl
still_counted path p f k other = refl

own_end : (path : Scopes) (p f : Place) (k : tree.Kind) → is_assignment k ≡ false → type_of (typed_kind path p f k).verdict ≡ right_end (typed_kind path p f k).node
own_end path p f (tree.Assign a b) other = cc
own_end path p f (tree.IfThen c a tree.Missing) other = refl
own_end path p f (tree.IfThen c a (tree.There b)) other = refl
own_end path p f (tree.ForStep x a tree.Missing b body) other = refl
own_end path p f (tree.ForStep x a (tree.There step) b body) other = refl
own_end path p f k other = refl

pub plain_value : (path : Scopes) (p f : Place) (k : tree.Kind) (s0 s1 : Log) (v : Verdict) (end : Option Gives) → is_assignment k ≡ false → Noted s0 s1 v (typed_kind path p f k) → end ≡ type_of v → ValueChecked s0 s1 v end (typed_kind path p f k)
plain_value path p f k s0 s1 v end other h e =
    let o : Out = typed_kind path p f k in
    record {
      added = as_well s0 s1 (faults o) (faults o) (found_of o.node) (found_of (uncounted o.node)) refl (ap found_of (sym (still_counted path p f k other))) h.added;
      verdict = h.verdict;
      last = e ∙ ap type_of h.verdict ∙ own_end path p f k other;
    }

-- what is found of an assignment that isn't counted
abbrev at_end : Verdict → Found
at_end v = Phrase (type_of v) None

assigned_value : (path : Scopes) (p f : Place) (a b : tree.Phrase) (s0 s1 s2 s3 : Log) (v : Verdict) (end : Option Gives) (x : Finding) → AssignmentChecked s0 s1 v end (typed_kind path p f (tree.Assign a b)) → Adds s1 s2 (fault_of v) []
    → s3.faults.items ≡ s2.faults.items → s3.findings.items ≡ s2.findings.items ++ x ∷ [] → finding_view x ≡ at_end v → ValueChecked s0 s3 v end (typed_kind path p f (tree.Assign a b))
assigned_value path p f a b s0 s1 s2 s3 v end x h n d e g =
    let o : Out = typed_kind path p f (tree.Assign a b) in
    let inside : List Found = found_of_kind (typed.kind o.node) in
    let own : Adds s1 s3 (fault_of v) (at_end v ∷ []) = as_well s1 s3 (fault_of v ++ []) (fault_of v) (finding_view x ∷ []) (at_end v ∷ []) (append-nil (fault_of v)) (ap (λ y. y ∷ []) g) (behind s1 s2 s3 (fault_of v) [] [] (finding_view x ∷ []) n (one_more s2 s3 x d e)) in
    record {
      added = as_well s0 s3 (o.inside ++ fault_of v) (faults o) (inside ++ at_end v ∷ []) (found_of (uncounted o.node)) (ap (λ (u : Verdict). o.inside ++ fault_of u) h.checked.verdict) (ap (λ (u : Verdict). inside ++ at_end u ∷ []) h.checked.verdict)
          (behind s0 s1 s3 o.inside (fault_of v) inside (at_end v ∷ []) h.checked.added own);
      verdict = h.checked.verdict;
      last = h.last;
    }

pub inner_value : (path : Scopes) (p f : Place) (k : tree.Kind) (a b : tree.Phrase) (s0 s1 s2 s3 : Log) (v : Verdict) (end : Option Gives) (x : Finding) → k ≡ tree.Assign a b → AssignmentChecked s0 s1 v end (typed_kind path p f (tree.Assign a b)) → Adds s1 s2 (fault_of v) []
    → s3.faults.items ≡ s2.faults.items → s3.findings.items ≡ s2.findings.items ++ x ∷ [] → finding_view x ≡ at_end v → ValueChecked s0 s3 v end (typed_kind path p f k)
inner_value path p f k a b s0 s1 s2 s3 v end x is h n d e g = subst (λ (z : tree.Kind). ValueChecked s0 s3 v end (typed_kind path p f z)) (sym is) (assigned_value path p f a b s0 s1 s2 s3 v end x h n d e g)
