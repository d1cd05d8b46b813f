-- A phrase in a list, as it is read: with its own verdict, or without what it gives.
use Rattle.std.proofs.Common.{◌≡◌, ℕ, Bool, true, false, ◌++◌, Option, None, List, refl, sym, ap, subst, ◌∙◌}
use Rattle.value_ops.specs.declared.places.Diagnostic.{Diagnostic}
use Rattle.value_ops.specs.declared.places.Place.{Place}
use Rattle.algolw_tree.specs.Tree as tree
use Rattle.algolw_typing.specs.Actuals.{Wanted, is_subarray, phrase_part, subarray_row}
use Rattle.algolw_typing.specs.Meanings.{Part}
use Rattle.algolw_typing.specs.Names.{Entry, declared}
use Rattle.algolw_typing.specs.Scopes.{Known, Scopes}
use Rattle.algolw_typing.specs.Typed as typed
use Rattle.algolw_typing.specs.Types.{ValueType}
use Rattle.algolw_typing.specs.Typing.{Out, ListsOut, array_given, counted, faults, first_list, given, named_out, phrase_given, subarray_given, target, typed_kind, typed_phrase}
use Rattle.algolw_typing.specs.Verdicts.{Verdict, Good, Fault, Silent, fault_of, type_of}
use Rattle.typing_rules.specs.MeaningView.{part}
use Rattle.typing_rules.specs.View.{verdict}
use Rattle.typed_phrases.specs.Readings.{NameReads, Reads, with_verdict, without_type}
use Rattle.typed_phrases.specs.declared.actuals.Given.{Given}

-- ---- a name

-- a name at a place, with this verdict
abbrev at_name : Place → Place → Option (Entry Known) → typed.Lists → Verdict → typed.Node
at_name p f e lists v = typed.At p f (type_of v) (counted f v) (typed.Named (target e) lists)

as_found : (g : Given) (p f : Place) (e : Option (Entry Known)) (lists : ListsOut) (q : Part) → verdict g.verdict ≡ lists.verdict → part g.part ≡ q
    → Reads g (named_out p f e lists) (record { inside = faults (named_out p f e lists); part = q; node = (named_out p f e lists).node })
as_found g p f e lists q v h = record {
  faults = ap (λ (u : Verdict). lists.inside ++ fault_of u) (sym v);
  part = sym h;
  node = ap (at_name p f e lists.lists) (sym v);
}

-- as a phrase
pub name_as_phrase : (g : Given) (b : Bool) (u : Verdict) → verdict g.verdict ≡ u → part g.part ≡ phrase_part b (type_of u) → NameReads u g (phrase_given b)
name_as_phrase g b u v h p f e lists same =
    as_found g p f e lists (phrase_part b (type_of lists.verdict)) (v ∙ sym same) (h ∙ ap (λ (w : Verdict). phrase_part b (type_of w)) (sym same))

same_fault : (v : Verdict) → fault_of v ≡ fault_of (without_type v)
same_fault (Good g) = refl
same_fault (Fault n p) = refl
same_fault Silent = refl

no_type : (p f : Place) (e : Option (Entry Known)) (lists : typed.Lists) (v : Verdict) → typed.At p f None None (typed.Named (target e) lists) ≡ at_name p f e lists (without_type v)
no_type p f e lists (Good g) = refl
no_type p f e lists (Fault n q) = refl
no_type p f e lists Silent = refl

-- a subarray, by the verdict of its row
pub without : (g : Given) (p f : Place) (e : Option (Entry Known)) (lists : ListsOut) (q : Part) (v : Verdict) → verdict g.verdict ≡ without_type v → part g.part ≡ q
    → Reads g (named_out p f e lists) (record { inside = lists.inside ++ fault_of v; part = q; node = typed.untyped (named_out p f e lists).node })
without g p f e lists q v w h = record {
  faults = ap (λ (ds : List Diagnostic). lists.inside ++ ds) (same_fault v ∙ ap fault_of (sym w));
  part = sym h;
  node = no_type p f e lists.lists v ∙ ap (at_name p f e lists.lists) (sym w);
}

-- an array's name with a list behind it, which makes no subarray
pub read_whole : (p : Place) (w : Wanted) (t : ValueType) (n : ℕ) (parts : List Part) (o : Out) → is_subarray w parts ≡ false → array_given p w t n parts o ≡ phrase_given true o
read_whole p w t n parts o h = ap (λ (b : Bool). elim b [ true ↦ subarray_given w t parts (subarray_row p n parts) o | false ↦ phrase_given true o ]) h

-- or one
pub read_subarray : (p : Place) (w : Wanted) (t : ValueType) (n : ℕ) (parts : List Part) (o : Out) → is_subarray w parts ≡ true → array_given p w t n parts o ≡ subarray_given w t parts (subarray_row p n parts) o
read_subarray p w t n parts o h = ap (λ (b : Bool). elim b [ true ↦ subarray_given w t parts (subarray_row p n parts) o | false ↦ phrase_given true o ]) h

-- ---- a phrase that stands where its name is known

-- a phrase that is a name with these lists
pub read_named : (path : Scopes) (w : Wanted) (p f : Place) (k : tree.Kind) (x : List ℕ) (lists : tree.Lists) (v : Verdict) (g : Given) → k ≡ tree.Named x lists → NameReads v g (given path w (tree.At p f k)) → v ≡ (typed_kind path p f k).verdict
    → Reads g (typed_kind path p f k) (given path w (tree.At p f k) (typed_kind path p f k))
read_named path w p f k x lists v g e =
    subst (λ (z : tree.Kind). NameReads v g (given path w (tree.At p f z)) → v ≡ (typed_kind path p f z).verdict → Reads g (typed_kind path p f z) (given path w (tree.At p f z) (typed_kind path p f z)))
    (sym e) (λ read h. read p f (declared path x) (first_list path p (declared path x) lists) (sym h))

-- what is found of a phrase has its own verdict
pub own_verdict : (path : Scopes) (a : tree.Phrase) → with_verdict (typed_phrase path a).verdict (typed_phrase path a).node ≡ (typed_phrase path a).node
own_verdict path (tree.At p f (tree.IfThen c a tree.Missing)) = refl
own_verdict path (tree.At p f (tree.IfThen c a (tree.There b))) = refl
own_verdict path (tree.At p f (tree.ForStep x a tree.Missing b body)) = refl
own_verdict path (tree.At p f (tree.ForStep x a (tree.There step) b body)) = refl
own_verdict path (tree.At p f k) = refl

-- any phrase, as a phrase
pub as_phrase : (path : Scopes) (p f : Place) (k : tree.Kind) (g : Given) (u : Verdict) (b : Bool) → verdict g.verdict ≡ u → part g.part ≡ phrase_part b (type_of u) → u ≡ (typed_kind path p f k).verdict
    → Reads g (typed_kind path p f k) (phrase_given b (typed_kind path p f k))
as_phrase path p f k g u b v h same = record {
  faults = ap (λ (w : Verdict). (typed_kind path p f k).inside ++ fault_of w) (sym (v ∙ same));
  part = ap (λ (w : Verdict). phrase_part b (type_of w)) (sym same) ∙ sym h;
  node = sym (own_verdict path (tree.At p f k)) ∙ ap (λ (w : Verdict). with_verdict w (typed_kind path p f k).node) (sym (v ∙ same));
}
