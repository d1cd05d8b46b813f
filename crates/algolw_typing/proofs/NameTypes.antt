-- What the name of a label, an array or a class gives.
use Rattle.std.proofs.Common.{◌≡◌, ℕ, ℤ, List, [], ◌∷◌, Option, Some, None, Bool, true, false, refl, sym, ap, ◌∙◌, length, nat_eq}
use Rattle.value_ops.specs.declared.places.Place.{Place}
use Rattle.algolw_tree.specs.Tree.{Phrase, Lists, no_lists, list_and, OfActuals, OfPart, Actuals}
use Rattle.algolw_typing.specs.Names.{Entry, declared}
use Rattle.algolw_typing.specs.Types.{ValueType, Gives, Statement, Simple, Reference, fits}
use Rattle.algolw_typing.specs.Verdicts.{Verdict, Good, Fault, Silent, type_of, unless, value}
use Rattle.algolw_typing.specs.Meanings.{Meaning, an_array, a_class, a_label, no_base, Part, a_star, a_phrase, a_setting, as_array, as_procedure, with_formals, not_read, typeless, all_read, no_star, of_phrase, field_values, class_row}
use Rattle.algolw_typing.specs.Actuals.{as_phrases}
use Rattle.algolw_typing.specs.Scopes.{Known, Scopes}
use Rattle.algolw_typing.specs.Typing.{gives, onward, use_of, use_as_base, use_with_list, part_verdict, list_verdict, reading_of, typed_phrase, typed_parts, first_list, more_lists}
use Rattle.algolw_typing.specs.Laws.{name_gives, Means, NoValues}

-- what a name gives, by its declaration
by_entry : (path : Scopes) (p f : Place) (x : List ℕ) (lists : Lists) (e : Entry Known) → declared path x ≡ Some e → name_gives path p f x lists ≡ type_of (first_list path p (Some e) lists).verdict
by_entry path p f x lists e h = ap (λ o. type_of (first_list path p o lists).verdict) h

-- where the front has no type, nothing behind it has one
onward_none : (v : Verdict) (row : Gives → Verdict) → type_of v ≡ None → type_of (onward v row) ≡ None
onward_none (Good g) row h = cc
onward_none (Fault n p) row h = refl
onward_none Silent row h = refl

all_read_none : (parts : List Part) (v : Verdict) → type_of v ≡ None → type_of (all_read parts v) ≡ None
all_read_none [] v h = h
all_read_none (a_star ∷ parts) v h = all_read_none parts v h
all_read_none (a_phrase b g ∷ parts) v h = all_read_none parts v h
all_read_none (a_setting ∷ parts) v h = all_read_none parts v h
all_read_none (as_array t n ∷ parts) v h = all_read_none parts v h
all_read_none (as_procedure t ∷ parts) v h = all_read_none parts v h
all_read_none (with_formals ∷ parts) v h = all_read_none parts v h
all_read_none (not_read ∷ parts) v h = all_read_none parts v h
all_read_none (typeless ∷ parts) v h = refl

no_base_none : (p : Place) (start : Option Gives) → type_of (no_base p start) ≡ None
no_base_none p None = refl
no_base_none p (Some g) = refl

more_none : (path : Scopes) (v : Verdict) (lists : Lists) → type_of v ≡ None → type_of (more_lists path v lists).verdict ≡ None
more_none path v no_lists h = h
more_none path v (list_and (OfActuals q actuals) lists) h = more_none path (list_verdict q v (typed_parts path as_phrases actuals).parts) lists (onward_none v _ h)
more_none path v (list_and (OfPart q a n) lists) h = more_none path (part_verdict q n v (typed_phrase path a)) lists (onward_none v _ h)

-- a name whose declaration is good, by its meaning
by_meaning : (p : Place) (e : Entry Known) (m : Meaning) (row : Meaning → (d : Place) → Verdict) → e.is.means ≡ Some m → use_of p (Some e) row ≡ row m e.place
by_meaning p e m row h = rw h refl

-- a label
label_lists : (path : Scopes) (p : Place) (e : Entry Known) (lists : Lists) → e.is.means ≡ Some a_label → type_of (first_list path p (Some e) lists).verdict ≡ None
label_lists path p e no_lists h = ap type_of (by_meaning p e a_label _ h)
label_lists path p e (list_and (OfActuals q actuals) lists) h =
    let parts = (typed_parts path (reading_of (Some e)) actuals).parts in
    more_none path (use_with_list p (Some e) parts) lists (ap type_of (by_meaning p e a_label _ h) ∙ all_read_none parts (Fault 41 p) refl)
label_lists path p e (list_and (OfPart q a n) lists) h =
    let o = typed_phrase path a in
    more_none path (part_verdict q n (use_as_base p (Some e) o) o) lists (onward_none (use_as_base p (Some e) o) _ (ap type_of (by_meaning p e a_label _ h)))

label : (path : Scopes) (p f : Place) (x : List ℕ) (lists : Lists) (e : Entry Known) → Means path x e a_label → name_gives path p f x lists ≡ None
label path p f x lists e (h, k) = by_entry path p f x lists e h ∙ label_lists path p e lists k

-- an array, alone and before a substring list
array : (path : Scopes) (p f : Place) (x : List ℕ) (e : Entry Known) (t : ValueType) (n : ℕ) → Means path x e (an_array t n) → name_gives path p f x no_lists ≡ None
array path p f x e t n (h, k) = by_entry path p f x no_lists e h ∙ ap type_of (by_meaning p e (an_array t n) _ k)

part_of_array : (path : Scopes) (p f q : Place) (x : List ℕ) (start : Phrase) (length : ℤ) (lists : Lists) (e : Entry Known) (t : ValueType) (n : ℕ) → Means path x e (an_array t n) → name_gives path p f x (list_and (OfPart q start length) lists) ≡ None
part_of_array path p f q x start length lists e t n (h, k) =
    let o = typed_phrase path start in
    by_entry path p f x (list_and (OfPart q start length) lists) e h
    ∙ more_none path (part_verdict q length (use_as_base p (Some e) o) o) lists (onward_none (use_as_base p (Some e) o) _ (ap type_of (by_meaning p e (an_array t n) _ k) ∙ no_base_none p (gives o)))

-- a class alone
class : (path : Scopes) (p f : Place) (x : List ℕ) (e : Entry Known) (fields : List ValueType) → Means path x e (a_class fields) → name_gives path p f x no_lists ≡ Some (Simple (Reference (e.place ∷ [])))
class path p f x e fields (h, k) = by_entry path p f x no_lists e h ∙ ap type_of (by_meaning p e (a_class fields) _ k)

-- a verdict that gives nothing but g
abbrev Only : Gives → Verdict → Type 0
Only g v = (h : Gives) → type_of v ≡ Some h → h ≡ g

only_good : (g : Gives) → Only g (Good g)
only_good g = λ h e. cc

only_unless : (g : Gives) (b : Bool) (n : ℕ) (p : Place) (v : Verdict) → Only g v → Only g (unless b n p v)
only_unless g true n p v o = o
only_unless g false n p v o = λ h e. cc

only_value : (g : Gives) (p : Place) (a : Gives) (row : ValueType → Verdict) → ((t : ValueType) → Only g (row t)) → Only g (value p a row)
only_value g p Statement row o = λ h e. cc
only_value g p (Simple t) row o = o t

only_of_phrase : (g : Gives) (a : Part) (row : Gives → Verdict) → ((b : Gives) → Only g (row b)) → Only g (of_phrase a row)
only_of_phrase g (a_phrase b a) row o = o a
only_of_phrase g a_setting row o = o Statement
only_of_phrase g a_star row o = λ h e. cc
only_of_phrase g (as_array t n) row o = λ h e. cc
only_of_phrase g (as_procedure t) row o = λ h e. cc
only_of_phrase g with_formals row o = λ h e. cc
only_of_phrase g not_read row o = λ h e. cc
only_of_phrase g typeless row o = λ h e. cc

only_all_read : (g : Gives) (parts : List Part) (v : Verdict) → Only g v → Only g (all_read parts v)
only_all_read g [] v o = o
only_all_read g (a_star ∷ parts) v o = only_all_read g parts v o
only_all_read g (a_phrase b a ∷ parts) v o = only_all_read g parts v o
only_all_read g (a_setting ∷ parts) v o = only_all_read g parts v o
only_all_read g (as_array t n ∷ parts) v o = only_all_read g parts v o
only_all_read g (as_procedure t ∷ parts) v o = only_all_read g parts v o
only_all_read g (with_formals ∷ parts) v o = only_all_read g parts v o
only_all_read g (not_read ∷ parts) v o = only_all_read g parts v o
only_all_read g (typeless ∷ parts) v o = λ h e. cc

only_no_star : (g : Gives) (p : Place) (parts : List Part) (v : Verdict) → Only g v → Only g (no_star p parts v)
only_no_star g p [] v o = o
only_no_star g p (a_star ∷ parts) v o = λ h e. cc
only_no_star g p (a_phrase b a ∷ parts) v o = only_no_star g p parts v o
only_no_star g p (a_setting ∷ parts) v o = only_no_star g p parts v o
only_no_star g p (as_array t n ∷ parts) v o = only_no_star g p parts v o
only_no_star g p (as_procedure t ∷ parts) v o = only_no_star g p parts v o
only_no_star g p (with_formals ∷ parts) v o = only_no_star g p parts v o
only_no_star g p (not_read ∷ parts) v o = only_no_star g p parts v o
only_no_star g p (typeless ∷ parts) v o = only_no_star g p parts v o

only_fields : (g : Gives) (p : Place) (fields : List ValueType) (parts : List Part) (v : Verdict) → Only g v → Only g (field_values p fields parts v)
only_fields g p [] parts v o = o
only_fields g p (t ∷ ts) [] v o = o
only_fields g p (t ∷ ts) (a ∷ parts) v o = only_of_phrase g a _ (λ b. only_value g p b _ (λ u. only_unless g (fits u t) 37 p _ (only_fields g p ts parts v o)))

-- a class with a list
class_made : (p d : Place) (fields : List ValueType) (parts : List Part) → Only (Simple (Reference (d ∷ []))) (all_read parts (class_row p fields d parts))
class_made p d fields parts =
    let g = Simple (Reference (d ∷ [])) in
    only_all_read g parts _ (only_no_star g p parts _ (only_unless g (nat_eq (length fields) (length parts)) 39 p _ (only_fields g p fields parts (Good g) (only_good g))))

record_made : (path : Scopes) (p f q : Place) (x : List ℕ) (values : Actuals) (g : Gives) (e : Entry Known) (fields : List ValueType) → Means path x e (a_class fields) → name_gives path p f x (list_and (OfActuals q values) no_lists) ≡ Some g → g ≡ Simple (Reference (e.place ∷ []))
record_made path p f q x values g e fields (h, k) is =
    let parts = (typed_parts path (reading_of (Some e)) values).parts in
    class_made p e.place fields parts g (sym (by_entry path p f x (list_and (OfActuals q values) no_lists) e h ∙ ap type_of (by_meaning p e (a_class fields) _ k)) ∙ is)

pub names_give : NoValues
names_give = record { label = label; array = array; part_of_array = part_of_array; class = class; record_made = record_made }
