-- A kind that is none of some, as the rules see it.
use Rattle.std.proofs.Common.{◌≡◌, ℕ, Bool, true, false, List, refl, sym, ap}
use Rattle.std.specs.declared.boxed.Box.{Box}
use Rattle.std.specs.declared.alloc.Global.{Global}
use Rattle.value_ops.specs.declared.places.Place.{Place}
use Rattle.algolw_tree.specs.declared.phrases.Kind as code
use Rattle.algolw_tree.specs.declared.phrases.Kind.{Kind, out-Kind, roll-Kind}
use Rattle.algolw_tree.specs.declared.phrases.Applied.{Applied}
use Rattle.algolw_tree.specs.declared.phrases.Listed.{Listed}
use Rattle.algolw_tree.specs.declared.phrases.Chain.{Chain' as chain}
use Rattle.algolw_tree.specs.declared.phrases.Conditional.{Conditional'}
use Rattle.algolw_tree.specs.declared.phrases.CaseValue.{CaseValue' as case_value}
use Rattle.algolw_tree.specs.declared.phrases.ForStep.{ForStep' as for_step}
use Rattle.algolw_tree.specs.declared.phrases.ForList.{ForList' as for_list}
use Rattle.algolw_tree.specs.Tree as tree
use Rattle.algolw_tree.specs.View.{kind_tree}
use Rattle.algolw_typing.specs.Actuals.{Wanted}
use Rattle.algolw_typing.specs.Scopes.{Scopes}
use Rattle.algolw_typing.specs.Typing.{Out, PartOut, given, left_of, no_variable_left, phrase_given, setting_given}
use Rattle.typed_phrases.specs.Settings.{sets_width}

-- ---- a phrase that no name begins

abbrev pub begins_with_name : Kind → Bool
begins_with_name (code.Named n) = true
begins_with_name (code.Applied' q n place shape actuals) = true
begins_with_name (code.Listed' q l) = true
begins_with_name k = false

abbrev is_name : tree.Kind → Bool
is_name (tree.Named x lists) = true
is_name k = false

no_name : (k : Kind) → begins_with_name k ≡ false → is_name (kind_tree k) ≡ false
no_name (code.Listed' q l) h = cc
no_name (code.Chain' q (chain place first kind shape links)) h = refl
no_name (code.IfThen' q (Conditional' place first kind place2 first2 kind2 otherwise)) h = refl
no_name (code.CaseValue' q (case_value place first kind shape values)) h = refl
no_name (code.ForStep' q (for_step n place first kind step place2 first2 kind2 place3 first3 kind3)) h = refl
no_name (code.ForList' q (for_list n shape values place first kind)) h = refl
no_name k h = h

left_at : (path : Scopes) (p f : Place) (k : tree.Kind) → is_name k ≡ false → no_variable_left ≡ left_of path (tree.At p f k)
left_at path p f (tree.Named x lists) h = cc
left_at path p f k h = refl

pub no_variable : (path : Scopes) (p f : Place) (k : Kind) → begins_with_name k ≡ false → no_variable_left ≡ left_of path (tree.At p f (kind_tree k))
no_variable path p f k h = left_at path p f (kind_tree k) (no_name k h)

given_at : (path : Scopes) (w : Wanted) (p f : Place) (k : tree.Kind) (o : Out) → is_name k ≡ false → sets_width path w (tree.At p f k) ≡ false → phrase_given false o ≡ given path w (tree.At p f k) o
given_at path w p f (tree.Named x lists) o h s = cc
given_at path w p f (tree.Assign a b) o h s = ap (λ (q : Bool). elim q as (λ _. PartOut) [ true ↦ setting_given o | false ↦ phrase_given false o ]) (sym s)
given_at path w p f k o h s = refl

-- nor a setting
pub no_name_given : (path : Scopes) (w : Wanted) (p f : Place) (k : Kind) (o : Out) → begins_with_name k ≡ false → sets_width path w (tree.At p f (kind_tree k)) ≡ false → phrase_given false o ≡ given path w (tree.At p f (kind_tree k)) o
no_name_given path w p f k o h s = given_at path w p f (kind_tree k) o (no_name k h) s

-- ---- which kinds these are

pub no_name_begins : (k : Kind) → ((n : List ℕ) → k ≡ code.Named n → ⊥) → ((b : Box Applied Global) → k ≡ code.Applied b → ⊥) → ((b : Box Listed Global) → k ≡ code.Listed b → ⊥) → begins_with_name k ≡ false
unfolding out-Kind roll-Kind denote.Hole.Carrier.out denote.Hole.Carrier.roll
no_name_begins (code.Named n) named applied listed = absurd (named n refl)
no_name_begins (code.Applied' q n place shape actuals) named applied listed = absurd (applied _ (sym (code.roll-out-Kind (code.Applied' q n place shape actuals))))
no_name_begins (code.Listed' q l) named applied listed = absurd (listed (record { ptr = q.ptr; alloc = q.alloc; value = l }) refl)
no_name_begins k named applied listed = refl
