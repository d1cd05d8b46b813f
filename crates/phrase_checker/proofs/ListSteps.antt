-- The lists behind a name, and the parts of a list: the turns of their loops.
use Rattle.std.proofs.Common.{◌≡◌, ℕ, ◌+◌, ◌<◌, ◌≤◌, List, [], ◌∷◌, ◌++◌, length, get_or, drop, map, refl, sym, ap, ◌∙◌, append_assoc, append-nil}
use Rattle.std.proofs.lemmas.List.{drop_all}
use Rattle.algolw_tree.specs.Grammar.{actuals_of, lists_of}
use Rattle.algolw_tree.specs.Tree as tree
use Rattle.algolw_tree.specs.View.{actual_tree, list_tree}
use Rattle.algolw_tree.specs.declared.phrases.Actual.{Actual}
use Rattle.algolw_tree.specs.declared.phrases.List as list
use Rattle.algolw_typing.specs.Actuals.{Reading, Wanted, behind, wanted}
use Rattle.algolw_typing.specs.Meanings.{Part}
use Rattle.algolw_typing.specs.Scopes.{Scopes}
use Rattle.algolw_typing.specs.Typed as typed
use Rattle.algolw_typing.specs.Typing.{ListsOut, PartsOut, listed, no_parts, typed_parts}
use Rattle.algolw_typing.specs.Verdicts.{Verdict}
use Rattle.declared_names.proofs.Placing.{next}
use Rattle.typed_findings.specs.Findings.{found_of, found_of_actuals, found_of_lists}
use Rattle.typed_findings.specs.declared.findings.Log.{Log}
use Rattle.typed_phrases.specs.Fronts.{ActualOut, Front, ListOut, a_name, actual_step, actual_then, complete, front_alone, front_lists, list_step, list_then}
use Rattle.phrase_checker.specs.Checked.{ActualChecked, Adds, ListChecked, PartsChecked}
use Rattle.phrase_checker.proofs.Growth.{SoFar, at_last, turn}

-- ---- the lists behind a name

pub record ListsSoFar (start now : Log) (whole rest : ListsOut) : Type 0 where
  pub added : SoFar start now whole.inside rest.inside (found_of_lists whole.lists) (found_of_lists rest.lists)
  pub verdict : whole.verdict ≡ rest.verdict

front_step : (path : Scopes) (front : Front) (l : tree.Listing) (lists : tree.Lists) → front_lists path front (tree.list_and l lists) ≡ list_then (list_step path front l) (front_lists path (complete (list_step path front l).verdict) lists)
front_step path (a_name p e) (tree.OfActuals q _) lists = refl
front_step path (a_name p e) (tree.OfPart q a n) lists = refl
front_step path (complete v) (tree.OfActuals q _) lists = refl
front_step path (complete v) (tree.OfPart q a n) lists = refl

-- what is found of lists is that of the first and that of the rest
found_first : (l : typed.Listing) (lists : typed.Lists) → found_of_lists (typed.list_and l lists) ≡ found_of_lists (typed.list_and l typed.no_lists) ++ found_of_lists lists
found_first (typed.OfActuals q _) lists = ap (λ xs. xs ++ found_of_lists lists) (sym (append-nil _))
found_first (typed.OfPart q a n) lists = ap (λ xs. xs ++ found_of_lists lists) (sym (append-nil (found_of a)))

pub lists_step : (path : Scopes) (whole : ListsOut) (start : Log) (xs : List list.List) (i : ℕ) (x : list.List) (a b : Log) (front : Front) (v : Verdict) → i < length xs → x ≡ get_or xs i x → ListChecked a b v (list_step path front (list_tree x))
    → ListsSoFar start a whole (front_lists path front (lists_of (map list_tree (drop i xs)))) → ListsSoFar start b whole (front_lists path (complete v) (lists_of (map list_tree (drop (i + 1) xs))))
lists_step path whole start xs i x a b front v within is c h =
    let o : ListOut = list_step path front (list_tree x) in
    let left : tree.Lists = lists_of (map list_tree (drop (i + 1) xs)) in
    let rest : ListsOut = front_lists path front (lists_of (map list_tree (drop i xs))) in
    let rest' : ListsOut = front_lists path (complete v) left in
    let e : rest ≡ list_then o rest' = ap (λ ys. front_lists path front (lists_of (map list_tree ys))) (next xs i x within is) ∙ front_step path front (list_tree x) left ∙ ap (λ (u : Verdict). list_then o (front_lists path (complete u) left)) (sym c.verdict) in
    record {
      added = turn start a b whole.inside rest.inside rest'.inside o.inside (found_of_lists whole.lists) (found_of_lists rest.lists) (found_of_lists rest'.lists) (found_of_lists (typed.list_and o.listing typed.no_lists)) h.added
          (ap (λ (r : ListsOut). r.inside) e) (ap (λ (r : ListsOut). found_of_lists r.lists) e ∙ found_first o.listing rest'.lists) c.added;
      verdict = h.verdict ∙ ap (λ (r : ListsOut). r.verdict) e;
    }

front_end : (path : Scopes) (front : Front) → front_lists path front tree.no_lists ≡ listed (front_alone front)
front_end path (a_name p e) = refl
front_end path (complete v) = refl

-- behind the last list
pub record ListsDone (old new : Log) (v : Verdict) (o : ListsOut) : Type 0 where
  pub added : Adds old new o.inside (found_of_lists o.lists)
  pub verdict : v ≡ o.verdict

pub lists_end : (path : Scopes) (xs : List list.List) (i : ℕ) (a b : Log) (before front : Front) → length xs ≤ i → ListsSoFar a b (front_lists path before (lists_of (map list_tree xs))) (front_lists path front (lists_of (map list_tree (drop i xs))))
    → ListsDone a b (front_alone front) (front_lists path before (lists_of (map list_tree xs)))
lists_end path xs i a b before front past h =
    let whole : ListsOut = front_lists path before (lists_of (map list_tree xs)) in
    let rest : ListsOut = front_lists path front (lists_of (map list_tree (drop i xs))) in
    let last : rest ≡ listed (front_alone front) = ap (λ ys. front_lists path front (lists_of (map list_tree ys))) (drop_all i xs past) ∙ front_end path front in
    record {
      added = at_last a b whole.inside rest.inside (found_of_lists whole.lists) (found_of_lists rest.lists) (ap (λ (o : ListsOut). o.inside) last) (ap (λ (o : ListsOut). found_of_lists o.lists) last) h.added;
      verdict = sym (h.verdict ∙ ap (λ (o : ListsOut). o.verdict) last);
    }

-- ---- the parts of a list

pub record PartsSoFar (start now : Log) (ps : List Part) (whole rest : PartsOut) : Type 0 where
  pub added : SoFar start now whole.inside rest.inside (found_of_actuals whole.actuals) (found_of_actuals rest.actuals)
  pub parts : whole.parts ≡ ps ++ rest.parts

part_step : (path : Scopes) (r : Reading) (a : tree.Actual) (rest : tree.Actuals) → typed_parts path r (tree.actual_and a rest) ≡ actual_then (actual_step path (wanted r) a) (typed_parts path (behind r) rest)
part_step path r (tree.Star q) rest = refl
part_step path r (tree.Given a) rest = refl

-- what is found of parts is that of the first and that of the rest
found_part : (a : typed.Actual) (others : typed.Actuals) → found_of_actuals (typed.actual_and a others) ≡ found_of_actuals (typed.actual_and a typed.no_actuals) ++ found_of_actuals others
found_part (typed.Star q) others = refl
found_part (typed.Given n) others = ap (λ xs. xs ++ found_of_actuals others) (sym (append-nil (found_of n)))

pub parts_step : (path : Scopes) (whole : PartsOut) (start : Log) (xs : List Actual) (i : ℕ) (x : Actual) (r r' : Reading) (w : Wanted) (a b : Log) (ps ps' : List Part) (p : Part) → i < length xs → x ≡ get_or xs i x → w ≡ wanted r → r' ≡ behind r
    → ActualChecked a b p (actual_step path w (actual_tree x)) → ps' ≡ ps ++ p ∷ []
    → PartsSoFar start a ps whole (typed_parts path r (actuals_of (map actual_tree (drop i xs)))) → PartsSoFar start b ps' whole (typed_parts path r' (actuals_of (map actual_tree (drop (i + 1) xs))))
parts_step path whole start xs i x r r' w a b ps ps' p within is wants goes c n h =
    let o : ActualOut = actual_step path w (actual_tree x) in
    let left : tree.Actuals = actuals_of (map actual_tree (drop (i + 1) xs)) in
    let rest : PartsOut = typed_parts path r (actuals_of (map actual_tree (drop i xs))) in
    let rest' : PartsOut = typed_parts path r' left in
    let e : rest ≡ actual_then o rest' = ap (λ ys. typed_parts path r (actuals_of (map actual_tree ys))) (next xs i x within is) ∙ part_step path r (actual_tree x) left
    ∙ ap (λ (v : Wanted). actual_then (actual_step path v (actual_tree x)) (typed_parts path (behind r) left)) (sym wants) ∙ ap (λ (q : Reading). actual_then o (typed_parts path q left)) (sym goes) in
    record {
      added = turn start a b whole.inside rest.inside rest'.inside o.inside (found_of_actuals whole.actuals) (found_of_actuals rest.actuals) (found_of_actuals rest'.actuals) (found_of_actuals (typed.actual_and o.actual typed.no_actuals)) h.added
          (ap (λ (q : PartsOut). q.inside) e) (ap (λ (q : PartsOut). found_of_actuals q.actuals) e ∙ found_part o.actual rest'.actuals) c.added;
      parts = h.parts ∙ ap (λ (q : PartsOut). ps ++ q.parts) e ∙ sym (append_assoc ps (o.part ∷ []) rest'.parts) ∙ ap (λ (qs : List Part). qs ++ rest'.parts) (sym (n ∙ ap (λ (q : Part). ps ++ q ∷ []) c.part));
    }

pub parts_end : (path : Scopes) (xs : List Actual) (i : ℕ) (a b : Log) (before r : Reading) (ps : List Part) → length xs ≤ i → PartsSoFar a b ps (typed_parts path before (actuals_of (map actual_tree xs))) (typed_parts path r (actuals_of (map actual_tree (drop i xs))))
    → PartsChecked a b ps (typed_parts path before (actuals_of (map actual_tree xs)))
parts_end path xs i a b before r ps past h =
    let whole : PartsOut = typed_parts path before (actuals_of (map actual_tree xs)) in
    let rest : PartsOut = typed_parts path r (actuals_of (map actual_tree (drop i xs))) in
    let last : rest ≡ no_parts = ap (λ ys. typed_parts path r (actuals_of (map actual_tree ys))) (drop_all i xs past) in
    record {
      added = at_last a b whole.inside rest.inside (found_of_actuals whole.actuals) (found_of_actuals rest.actuals) (ap (λ (o : PartsOut). o.inside) last) (ap (λ (o : PartsOut). found_of_actuals o.actuals) last) h.added;
      parts = sym (h.parts ∙ ap (λ (o : PartsOut). ps ++ o.parts) last ∙ append-nil ps);
    }
