-- Which kinds of phrases are empty, and which are assignments.
use Rattle.std.proofs.Common.{◌≡◌, [], ◌∷◌, Bool, true, false, refl, sym}
use Rattle.std.specs.declared.boxed.Box.{Box}
use Rattle.std.specs.declared.alloc.Global.{Global}
use Rattle.value_ops.specs.declared.places.Place.{Place}
use Rattle.algolw_tree.specs.declared.phrases.Kind as code
use Rattle.algolw_tree.specs.declared.phrases.Kind.{Kind, out-Kind, roll-Kind}
use Rattle.algolw_tree.specs.declared.phrases.Assignment.{Assignment}
use Rattle.algolw_tree.specs.declared.phrases.Listed.{Listed' as listed}
use Rattle.algolw_tree.specs.declared.phrases.Chain.{Chain' as chain}
use Rattle.algolw_tree.specs.declared.phrases.Conditional.{Conditional'}
use Rattle.algolw_tree.specs.declared.phrases.CaseValue.{CaseValue' as case_value}
use Rattle.algolw_tree.specs.declared.phrases.ForStep.{ForStep' as for_step}
use Rattle.algolw_tree.specs.declared.phrases.ForList.{ForList' as for_list}
use Rattle.algolw_tree.specs.Tree as tree
use Rattle.algolw_tree.specs.View.{kind_tree}
use Rattle.algolw_typing.specs.Verdicts.{Verdict}
use Rattle.typed_findings.specs.Findings.{own_finding}
use Rattle.phrase_checker.specs.Checked.{found_itself}

-- what is found of any but an empty phrase itself
pub found_of_some : (p f : Place) (k : Kind) (v : Verdict) → (k ≡ code.Empty → ⊥) → found_itself (tree.At p f (kind_tree k)) v ≡ own_finding f v ∷ []
found_of_some p f code.Empty v some = absurd (some refl)
found_of_some p f (code.Listed' q (listed n shape lists)) v some = refl
found_of_some p f (code.Chain' q (chain place first kind shape links)) v some = refl
found_of_some p f (code.IfThen' q (Conditional' place first kind place2 first2 kind2 otherwise)) v some = refl
found_of_some p f (code.CaseValue' q (case_value place first kind shape values)) v some = refl
found_of_some p f (code.ForStep' q (for_step n place first kind step place2 first2 kind2 place3 first3 kind3)) v some = refl
found_of_some p f (code.ForList' q (for_list n shape values place first kind)) v some = refl
found_of_some p f k v some = refl

abbrev pub is_assignment : tree.Kind → Bool
is_assignment (tree.Assign a b) = true
is_assignment k = false

pub no_assignment : (k : Kind) → ((b : Box Assignment Global) → k ≡ code.Assign b → ⊥) → is_assignment (kind_tree k) ≡ false
unfolding out-Kind roll-Kind denote.Hole.Carrier.out denote.Hole.Carrier.roll
no_assignment (code.Assign' q place first kind place2 first2 kind2) other = absurd (other _ (sym (code.roll-out-Kind (code.Assign' q place first kind place2 first2 kind2))))
no_assignment (code.Listed' q (listed n shape lists)) other = refl
no_assignment (code.Chain' q (chain place first kind shape links)) other = refl
no_assignment (code.IfThen' q (Conditional' place first kind place2 first2 kind2 otherwise)) other = refl
no_assignment (code.CaseValue' q (case_value place first kind shape values)) other = refl
no_assignment (code.ForStep' q (for_step n place first kind step place2 first2 kind2 place3 first3 kind3)) other = refl
no_assignment (code.ForList' q (for_list n shape values place first kind)) other = refl
no_assignment k other = refl
