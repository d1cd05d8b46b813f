-- Which phrases are settings.
use Rattle.std.proofs.Common.{◌≡◌, ℕ, ◌<◌, Bool, true, false, List, [], ◌∷◌, length, map, refl, sym, ap, ◌∙◌, arith}
use Rattle.std.specs.Prelude.{◌&&◌, not}
use Rattle.std.specs.declared.boxed.Box.{Box}
use Rattle.std.specs.declared.alloc.Global.{Global}
use Rattle.value_ops.specs.declared.places.Place.{Place}
use Rattle.algolw_tree.specs.declared.phrases.Assignment.{Assignment}
use Rattle.algolw_tree.specs.declared.phrases.CaseValue.{CaseValue' as case_value}
use Rattle.algolw_tree.specs.declared.phrases.Chain.{Chain' as chain}
use Rattle.algolw_tree.specs.declared.phrases.Conditional.{Conditional'}
use Rattle.algolw_tree.specs.declared.phrases.ForList.{ForList' as for_list}
use Rattle.algolw_tree.specs.declared.phrases.ForStep.{ForStep' as for_step}
use Rattle.algolw_tree.specs.declared.phrases.Kind as code
use Rattle.algolw_tree.specs.declared.phrases.Kind.{Kind, out-Kind, roll-Kind}
use Rattle.algolw_tree.specs.declared.phrases.List as list
use Rattle.algolw_tree.specs.declared.phrases.Listed.{Listed, Listed' as listed, out-Listed}
use Rattle.algolw_tree.specs.Grammar.{lists_of}
use Rattle.algolw_tree.specs.Tree as tree
use Rattle.algolw_tree.specs.View.{kind_tree, list_tree, listed_tree}
use Rattle.algolw_typing.specs.Actuals as actuals
use Rattle.algolw_typing.specs.Names.{declared}
use Rattle.algolw_typing.specs.Scopes.{Scopes}
use Rattle.algolw_typing.specs.Typing.{is_assignment, is_setting, is_width, meaning_of}
use Rattle.typing_rules.specs.MeaningView.{wanted}
use Rattle.typing_rules.specs.declared.actuals.Wanted.{Wanted}
use Rattle.typing_rules.specs.declared.actuals.Wanted.TheVariants as wants
use Rattle.typed_phrases.specs.Settings.{names_width, sets_width}
use Rattle.algolw_tree.proofs.Rows.{listed_is}

-- ---- the name of a standard variable

names_at : (path : Scopes) (p f : Place) (x : List ℕ) (xs : List list.List) → length xs ≡ 0 → names_width path (tree.At p f (tree.Named x (lists_of (map list_tree xs)))) ≡ is_width (meaning_of (declared path x))
names_at path p f x [] h = refl
names_at path p f x (y ∷ ys) h = absurd (omega (arith, h))

-- a name with no lists
pub width_listed : (path : Scopes) (p f : Place) (l : Listed) → length (out-Listed l).lists.items ≡ 0 → names_width path (tree.At p f (listed_tree l)) ≡ is_width (meaning_of (declared path (out-Listed l).name))
width_listed path p f l h = ap (λ (z : tree.Kind). names_width path (tree.At p f z)) (listed_is l) ∙ names_at path p f (out-Listed l).name (out-Listed l).lists.items h

more_at : (path : Scopes) (p f : Place) (x : List ℕ) (xs : List list.List) → (length xs ≡ 0 → ⊥) → names_width path (tree.At p f (tree.Named x (lists_of (map list_tree xs)))) ≡ false
more_at path p f x [] h = absurd (h refl)
more_at path p f x (y ∷ ys) h = refl

-- and with some
pub no_width_listed : (path : Scopes) (p f : Place) (l : Listed) → (length (out-Listed l).lists.items ≡ 0 → ⊥) → names_width path (tree.At p f (listed_tree l)) ≡ false
no_width_listed path p f l h = ap (λ (z : tree.Kind). names_width path (tree.At p f z)) (listed_is l) ∙ more_at path p f (out-Listed l).name (out-Listed l).lists.items h

-- nothing else but a name
pub no_width : (path : Scopes) (p f : Place) (k : Kind) → ((n : List ℕ) → k ≡ code.Named n → ⊥) → ((b : Box Listed Global) → k ≡ code.Listed b → ⊥) → names_width path (tree.At p f (kind_tree k)) ≡ false
unfolding out-Kind roll-Kind denote.Hole.Carrier.out denote.Hole.Carrier.roll
no_width path p f (code.Named n) named lists = absurd (named n refl)
no_width path p f (code.Listed' q l) named lists = absurd (lists (record { ptr = q.ptr; alloc = q.alloc; value = l }) refl)
no_width path p f (code.Applied' q n place shape actuals) named lists = refl
no_width path p f (code.Chain' q (chain place first kind shape links)) named lists = refl
no_width path p f (code.IfThen' q (Conditional' place first kind place2 first2 kind2 otherwise)) named lists = refl
no_width path p f (code.CaseValue' q (case_value place first kind shape values)) named lists = refl
no_width path p f (code.ForStep' q (for_step n place first kind step place2 first2 kind2 place3 first3 kind3)) named lists = refl
no_width path p f (code.ForList' q (for_list n shape values place first kind)) named lists = refl
no_width path p f k named lists = refl

-- ---- assignments

pub no_assignment : (p f : Place) (k : Kind) → ((b : Box Assignment Global) → k ≡ code.Assign b → ⊥) → is_assignment (tree.At p f (kind_tree k)) ≡ false
unfolding out-Kind roll-Kind denote.Hole.Carrier.out denote.Hole.Carrier.roll
no_assignment p f (code.Assign' q place first kind place2 first2 kind2) other = absurd (other _ (sym (code.roll-out-Kind (code.Assign' q place first kind place2 first2 kind2))))
no_assignment p f (code.Listed' q (listed n shape lists)) other = refl
no_assignment p f (code.Chain' q (chain place first kind shape links)) other = refl
no_assignment p f (code.IfThen' q (Conditional' place first kind place2 first2 kind2 otherwise)) other = refl
no_assignment p f (code.CaseValue' q (case_value place first kind shape values)) other = refl
no_assignment p f (code.ForStep' q (for_step n place first kind step place2 first2 kind2 place3 first3 kind3)) other = refl
no_assignment p f (code.ForList' q (for_list n shape values place first kind)) other = refl
no_assignment p f k other = refl

-- ---- settings

setting_at : (path : Scopes) (p f : Place) (k : tree.Kind) (b : tree.Phrase) → is_setting path actuals.phrase_wanted (tree.At p f k) b ≡ (names_width path (tree.At p f k) && not (is_assignment b))
setting_at path p f (tree.Named x tree.no_lists) b = refl
setting_at path p f (tree.Named x (tree.list_and l lists)) b = refl
setting_at path p f k b = refl

-- of an assignment its sides tell it
pub setting_by : (path : Scopes) (a b : tree.Phrase) → is_setting path actuals.phrase_wanted a b ≡ (names_width path a && not (is_assignment b))
setting_by path (tree.At p f k) b = setting_at path p f k b

-- nothing else is one
pub no_setting : (path : Scopes) (w : actuals.Wanted) (a : tree.Phrase) → is_assignment a ≡ false → sets_width path w a ≡ false
no_setting path w (tree.At p f (tree.Assign a b)) h = cc
no_setting path w (tree.At p f k) h = refl

-- nor where no phrase is wanted
pub unwanted : (path : Scopes) (w : Wanted) (a : tree.Phrase) → (w ≡ wants.Phrase → ⊥) → sets_width path (wanted w) a ≡ false
unwanted path wants.Phrase a h = absurd (h refl)
unwanted path (wants.Formal x) (tree.At p f (tree.Assign a b)) h = refl
unwanted path (wants.Formal x) (tree.At p f k) h = refl
unwanted path wants.Nothing (tree.At p f (tree.Assign a b)) h = refl
unwanted path wants.Nothing (tree.At p f k) h = refl
unwanted path wants.Anything (tree.At p f (tree.Assign a b)) h = refl
unwanted path wants.Anything (tree.At p f k) h = refl
