-- The lists behind a name are sound where the phrases in them are: each part is read, and has a type or is a name that stands for more.
use Rattle.std.proofs.Common.{refl, ℕ, ℤ, List, [], ◌∷◌, ◌++◌, Option, Some, None, Bool, true, false, inl, inr}
use Rattle.std.specs.Prelude.{⊤}
use Rattle.value_ops.specs.declared.places.Place.{Place}
use Rattle.value_ops.specs.declared.places.Diagnostic.{Diagnostic}
use Rattle.algolw_tree.specs.Tree as tree
use Rattle.algolw_typing.specs.Names.{Entry, declared}
use Rattle.algolw_typing.specs.Types.{ValueType, Gives}
use Rattle.algolw_typing.specs.Verdicts.{Verdict, Good, Fault, Silent, type_of, fault_of}
use Rattle.algolw_typing.specs.Meanings.{Meaning, an_array, a_procedure, a_procedure_formal, FormalType, alone_row, Part, as_array, as_procedure, with_formals, not_read}
use Rattle.algolw_typing.specs.Actuals.{Reading, as_phrases, for_formals, at_run_time, Wanted, phrase_wanted, formal_wanted, none_wanted, any_wanted, wanted, behind, wants_procedure, procedure_name, is_variable_name, phrase_part, name_read, has_star, subarray_row, subarray_part}
use Rattle.algolw_typing.specs.Scopes.{Known, Scopes}
use Rattle.algolw_typing.specs.Typed as typed
use Rattle.algolw_typing.specs.Typing.{Out, faults, gives, out, meaning_of, ListsOut, listed, use_alone, use_with_list, PartsOut, no_parts, star_and, PartOut, given_and, list_out, part_out, named_out, reading_of, phrase_given, variable_name, read_as, name_given, part_of_node, parts_of_actuals, subarray_given, array_given, list_given, given, uncounted, is_setting, setting_part, setting_given, typed_phrase, typed_parts}
use Rattle.algolw_typing.specs.Whole.{IsWhole, IsWholeActual, KindIsWhole, ActualsAreWhole, StandsForMore}
use Rattle.algolw_typing.proofs.Decided.{Decided, IsTyped, has_type}
use Rattle.algolw_typing.proofs.DecidedNames.{IsRead, IsPlain, ArePlain, ReadsPhrases, ReadBy, alone_decided, subarray_decided}
use Rattle.algolw_typing.proofs.GoodScopes.{NoFaults, none_first, none_two, GoodMeans, GoodFound, GoodPath, found_good}
use Rattle.algolw_typing.proofs.SoundOuts.{IsGood, a_type, Fine, settled, good_of, whole_has, uncounted_whole, FineLists}

-- ---- what is shown of a part, and of parts

abbrev pub WantsPhrase : Wanted → Type 0
WantsPhrase phrase_wanted = ⊤
WantsPhrase w = ⊥

pub record SoundGiven (w : Wanted) (g : PartOut) : Type 0 where
  pub is_read : IsRead g.part
  pub whole : IsWholeActual g.node
  pub is_plain : WantsPhrase w → IsPlain g.part
  pub node_plain : WantsPhrase w → IsPlain (part_of_node g.node)

pub record SoundParts (reading : Reading) (ps : PartsOut) : Type 0 where
  pub read : ReadBy reading ps.parts
  pub whole : ActualsAreWhole ps.actuals
  pub nodes_plain : ReadsPhrases reading → ArePlain (parts_of_actuals ps.actuals)

abbrev pub FineParts : Reading → PartsOut → Type 0
FineParts reading ps = NoFaults ps.inside → SoundParts reading ps

wants : (reading : Reading) → ReadsPhrases reading → WantsPhrase (wanted reading)
wants as_phrases h = tt
wants (for_formals fs) h = absurd h
wants at_run_time h = absurd h

goes_on : (reading : Reading) → ReadsPhrases reading → ReadsPhrases (behind reading)
goes_on as_phrases h = tt
goes_on (for_formals fs) h = absurd h
goes_on at_run_time h = absurd h

pub no_parts_fine : (reading : Reading) → FineParts reading no_parts
no_parts_fine reading h = record { read = record { are_read = tt; are_plain = λ k. tt }; whole = tt; nodes_plain = λ k. tt }

pub star_fine : (reading : Reading) (q : Place) (more : PartsOut) → FineParts (behind reading) more → FineParts reading (star_and q more)
star_fine reading q more i h =
    let s = i h in
    record {
      read = record { are_read = (tt, s.read.are_read); are_plain = λ k. (tt, s.read.are_plain (goes_on reading k)) };
      whole = s.whole;
      nodes_plain = λ k. (tt, s.nodes_plain (goes_on reading k));
    }

pub given_fine : (reading : Reading) (g : PartOut) (more : PartsOut) → (NoFaults g.inside → SoundGiven (wanted reading) g) → FineParts (behind reading) more → FineParts reading (given_and g more)
given_fine reading g more i j h =
    let none = none_two g.inside more.inside h in
    let s = i none.0 in
    let t = j none.1 in
    record {
      read = record { are_read = (s.is_read, t.read.are_read); are_plain = λ k. (s.is_plain (wants reading k), t.read.are_plain (goes_on reading k)) };
      whole = (s.whole, t.whole);
      nodes_plain = λ k. (s.node_plain (wants reading k), t.nodes_plain (goes_on reading k));
    }

pub list_fine : (reading : Reading) (q : Place) (ps : PartsOut) (more : ListsOut) → FineParts reading ps → (ReadBy reading ps.parts → FineLists more) → FineLists (list_out q ps more)
list_fine reading q ps more i j h =
    let none = none_two ps.inside more.inside h in
    let s = i none.0 in
    let t = j s.read none.1 in
    record { decided = t.decided; whole = (s.whole, t.whole) }

pub part_fine : (q : Place) (n : ℤ) (a : Out) (more : ListsOut) → Fine a → (IsTyped (gives a) → FineLists more) → FineLists (part_out q n a more)
part_fine q n a more i j h =
    let none = none_two (faults a) more.inside h in
    let s = settled a i none.0 in
    let t = j s.has none.1 in
    record { decided = t.decided; whole = (s.whole, t.whole) }

-- ---- a phrase in a list

phrase_read : (v : Bool) (g : Option Gives) → IsTyped g → IsRead (phrase_part v g)
phrase_read v _ (has_type {g = g}) = tt

phrase_plain : (v : Bool) (g : Option Gives) → IsTyped g → IsPlain (phrase_part v g)
phrase_plain v _ (has_type {g = g}) = tt

actual_whole : (n : typed.Node) → IsWhole n → IsWholeActual n
actual_whole (typed.At p f g s k) w = (inl w.0, w.1)

pub phrase_fine : (w : Wanted) (v : Bool) (o : Out) → Fine o → NoFaults (faults o) → SoundGiven w (phrase_given v o)
phrase_fine w v o i h =
    let s = settled o i h in
    record {
      is_read = phrase_read v (gives o) s.has;
      whole = actual_whole o.node s.whole;
      is_plain = λ k. phrase_plain v (gives o) s.has;
      node_plain = λ k. phrase_plain false (typed.gives o.node) (whole_has o.node s.whole);
    }

setting_read : (g : Option Gives) → IsTyped g → IsRead (setting_part g)
setting_read _ (has_type {g = g}) = tt

setting_plain : (g : Option Gives) → IsTyped g → IsPlain (setting_part g)
setting_plain _ (has_type {g = g}) = tt

setting_fine : (w : Wanted) (o : Out) → Fine o → NoFaults (faults o) → SoundGiven w (setting_given o)
setting_fine w o i h =
    let s = settled o i h in
    let whole = uncounted_whole o.node s.whole in
    record {
      is_read = setting_read (gives o) s.has;
      whole = actual_whole (uncounted o.node) whole;
      is_plain = λ k. setting_plain (gives o) s.has;
      node_plain = λ k. phrase_plain false (typed.gives (uncounted o.node)) (whole_has (uncounted o.node) whole);
    }

-- a name that is read as a phrase
read_phrase : (w : Wanted) (b : Bool) (inside : List Diagnostic) (v : Verdict) (n : typed.Node) → Fine (record { inside = inside; verdict = v; node = n })
    → NoFaults (read_as (phrase_part b (type_of v)) (record { inside = inside; verdict = v; node = n })).inside
    → SoundGiven w (read_as (phrase_part b (type_of v)) (record { inside = inside; verdict = v; node = n }))
read_phrase w b inside (Good g) n i h = phrase_fine w b (record { inside = inside; verdict = Good g; node = n }) i h
read_phrase w b inside (Fault m p) n i h = phrase_fine w b (record { inside = inside; verdict = Fault m p; node = n }) i h
read_phrase w b inside Silent n i h = phrase_fine w b (record { inside = inside; verdict = Silent; node = n }) i h

-- a name that stands for more
untyped_whole : (n : typed.Node) → StandsForMore (typed.kind n) → KindIsWhole (typed.kind n) → IsWholeActual (typed.untyped n)
untyped_whole (typed.At p f g s k) m w = (inr m, w)

stands_fine : (w : Wanted) (part : Part) (inside : List Diagnostic) (n : typed.Node) → (WantsPhrase w → ⊥) → IsRead part → StandsForMore (typed.kind n) → KindIsWhole (typed.kind n) → SoundGiven w (record { inside = inside; part = part; node = typed.untyped n })
stands_fine w part inside n x r m k = record { is_read = r; whole = untyped_whole n m k; is_plain = λ h. absurd (x h); node_plain = λ h. absurd (x h) }

-- ---- a name alone

abbrev alone : Place → Place → Meaning → Place → Out
alone p f m d = out [] p f (alone_row p m d) (typed.Named d typed.no_lists)

alone_fine : (p f : Place) (m : Meaning) (d : Place) → Fine (alone p f m d)
alone_fine p f m d h = record { decided = alone_decided p m d; stated = refl; whole = tt }

alone_phrase : (w : Wanted) (p f : Place) (m : Meaning) (d : Place) → NoFaults (read_as (phrase_part (is_variable_name m) (type_of (alone_row p m d))) (alone p f m d)).inside → SoundGiven w (read_as (phrase_part (is_variable_name m) (type_of (alone_row p m d))) (alone p f m d))
alone_phrase w p f m d h = read_phrase w (is_variable_name m) [] (alone_row p m d) (alone p f m d).node (alone_fine p f m d) h

alone_stands : (w : Wanted) (part : Part) (p f : Place) (m : Meaning) (d : Place) → (WantsPhrase w → ⊥) → IsRead part → SoundGiven w (record { inside = []; part = part; node = typed.untyped (alone p f m d).node })
alone_stands w part p f m d x r = stands_fine w part [] (alone p f m d).node x r (d, typed.no_lists, refl, tt) tt

procedure_alone_read : (g : FormalType) (b : Bool) (p f : Place) (result : Option ValueType) (fs : List FormalType) (d : Place)
    → NoFaults (read_as (procedure_name b result fs) (alone p f (a_procedure result fs) d)).inside → SoundGiven (formal_wanted g) (read_as (procedure_name b result fs) (alone p f (a_procedure result fs) d))
procedure_alone_read g true p f result fs d h = alone_stands (formal_wanted g) (as_procedure result) p f (a_procedure result fs) d (λ k. k) tt
procedure_alone_read g false p f result [] d h = phrase_fine (formal_wanted g) false (alone p f (a_procedure result []) d) (alone_fine p f (a_procedure result []) d) h
procedure_alone_read g false p f result (e ∷ fs) d h = alone_stands (formal_wanted g) with_formals p f (a_procedure result (e ∷ fs)) d (λ k. k) tt

formal_alone_read : (g : FormalType) (b : Bool) (p f : Place) (result : Option ValueType) (d : Place)
    → NoFaults (read_as (procedure_name b result []) (alone p f (a_procedure_formal result) d)).inside → SoundGiven (formal_wanted g) (read_as (procedure_name b result []) (alone p f (a_procedure_formal result) d))
formal_alone_read g true p f result d h = alone_stands (formal_wanted g) (as_procedure result) p f (a_procedure_formal result) d (λ k. k) tt
formal_alone_read g false p f result d h = phrase_fine (formal_wanted g) false (alone p f (a_procedure_formal result) d) (alone_fine p f (a_procedure_formal result) d) h

alone_read : (w : Wanted) (p f : Place) (m : Meaning) (d : Place) → NoFaults (read_as (name_read w m (alone_row p m d)) (alone p f m d)).inside → SoundGiven w (read_as (name_read w m (alone_row p m d)) (alone p f m d))
alone_read phrase_wanted p f m d h = alone_phrase phrase_wanted p f m d h
alone_read (formal_wanted g) p f (an_array t n) d h = alone_stands (formal_wanted g) (as_array t n) p f (an_array t n) d (λ k. k) tt
alone_read (formal_wanted g) p f (a_procedure result fs) d h = procedure_alone_read g (wants_procedure g) p f result fs d h
alone_read (formal_wanted g) p f (a_procedure_formal result) d h = formal_alone_read g (wants_procedure g) p f result d h
alone_read (formal_wanted g) p f m d h = alone_phrase (formal_wanted g) p f m d h
alone_read none_wanted p f (an_array t n) d h = alone_stands none_wanted not_read p f (an_array t n) d (λ k. k) tt
alone_read none_wanted p f (a_procedure result fs) d h = alone_stands none_wanted not_read p f (a_procedure result fs) d (λ k. k) tt
alone_read none_wanted p f m d h = alone_phrase none_wanted p f m d h
alone_read any_wanted p f (an_array t n) d h = alone_stands any_wanted not_read p f (an_array t n) d (λ k. k) tt
alone_read any_wanted p f (a_procedure result fs) d h = alone_stands any_wanted not_read p f (a_procedure result fs) d (λ k. k) tt
alone_read any_wanted p f (a_procedure_formal result) d h = alone_stands any_wanted not_read p f (a_procedure_formal result) d (λ k. k) tt
alone_read any_wanted p f m d h = alone_phrase any_wanted p f m d h

abbrev alone_by : Place → Place → Option (Entry Known) → Out
alone_by p f e = named_out p f e (listed (use_alone p e))

name_case : (w : Wanted) (p f : Place) (name : List ℕ) (d : Place) (c : Bool) (reading : Reading) (m : Option Meaning) → GoodMeans m reading
    → NoFaults (name_given w m (alone_by p f (Some (record { name = name; place = d; is = record { is_class = c; reading = reading; means = m } })))).inside
    → SoundGiven w (name_given w m (alone_by p f (Some (record { name = name; place = d; is = record { is_class = c; reading = reading; means = m } }))))
name_case w p f name d c reading None k h = absurd k
name_case w p f name d c reading (Some m) k h = alone_read w p f m d h

name_fine : (w : Wanted) (p f : Place) (e : Option (Entry Known)) → GoodFound e → NoFaults (name_given w (meaning_of e) (alone_by p f e)).inside → SoundGiven w (name_given w (meaning_of e) (alone_by p f e))
name_fine w p f None k h = absurd h
name_fine w p f (Some e) k h = name_case w p f e.name e.place e.is.is_class e.is.reading e.is.means k h

-- ---- a name with one list

subarray_read : (w : Wanted) (t : ValueType) (parts : List Part) (v : Verdict) → IsGood v → IsRead (subarray_part w t parts v)
subarray_read any_wanted t parts _ (a_type {g = g}) = tt
subarray_read phrase_wanted t parts _ (a_type {g = g}) = tt
subarray_read (formal_wanted f) t parts _ (a_type {g = g}) = tt
subarray_read none_wanted t parts _ (a_type {g = g}) = tt

subarray_fine : (w : Wanted) (t : ValueType) (parts : List Part) (v : Verdict) (o : Out) → (WantsPhrase w → ⊥) → Fine o → (NoFaults o.inside → Decided v) → StandsForMore (typed.kind o.node)
    → NoFaults (o.inside ++ fault_of v) → SoundGiven w (subarray_given w t parts v o)
subarray_fine w t parts v o x i j m h =
    let none = none_two o.inside (fault_of v) h in
    let s = i none.0 in
    stands_fine w (subarray_part w t parts v) (o.inside ++ fault_of v) o.node x (subarray_read w t parts v (good_of v (j none.0) none.1)) m s.whole

either_given : (b : Bool) (w : Wanted) (x y : PartOut) → (NoFaults x.inside → SoundGiven w x) → (NoFaults y.inside → SoundGiven w y) → NoFaults (elim b as (λ _. PartOut) [ true ↦ x | false ↦ y ]).inside → SoundGiven w (elim b [ true ↦ x | false ↦ y ])
either_given true w x y i j h = i h
either_given false w x y i j h = j h

array_fine : (p : Place) (w : Wanted) (t : ValueType) (n : ℕ) (parts : List Part) (o : Out) → Fine o → (NoFaults o.inside → ArePlain parts) → StandsForMore (typed.kind o.node)
    → NoFaults (array_given p w t n parts o).inside → SoundGiven w (array_given p w t n parts o)
array_fine p phrase_wanted t n parts o i j m h = phrase_fine phrase_wanted true o i h
array_fine p none_wanted t n parts o i j m h =
    let v = subarray_row p n parts in
    either_given (has_star parts) none_wanted (subarray_given none_wanted t parts v o) (phrase_given true o)
    (subarray_fine none_wanted t parts v o (λ k. k) i (λ none. subarray_decided p n parts (j none)) m)
    (phrase_fine none_wanted true o i) h
array_fine p (formal_wanted f) t n parts o i j m h =
    let v = subarray_row p n parts in
    either_given (has_star parts) (formal_wanted f) (subarray_given (formal_wanted f) t parts v o) (phrase_given true o)
    (subarray_fine (formal_wanted f) t parts v o (λ k. k) i (λ none. subarray_decided p n parts (j none)) m)
    (phrase_fine (formal_wanted f) true o i) h
array_fine p any_wanted t n parts o i j m h =
    let v = subarray_row p n parts in
    either_given (has_star parts) any_wanted (subarray_given any_wanted t parts v o) (phrase_given true o)
    (subarray_fine any_wanted t parts v o (λ k. k) i (λ none. subarray_decided p n parts (j none)) m)
    (phrase_fine any_wanted true o i) h

abbrev listed_by : Place → Place → Place → Place → Verdict → PartsOut → Out
listed_by p f q d v ps = named_out p f (Some (record { name = []; place = d; is = record { is_class = false; reading = as_phrases; means = None } })) (list_out q ps (listed v))

list_case : (p f q d : Place) (v : Verdict) (w : Wanted) (reading : Reading) (m : Option Meaning) (ps : PartsOut) → GoodMeans m reading → Fine (listed_by p f q d v ps) → FineParts reading ps
    → NoFaults (list_given p w m (listed_by p f q d v ps)).inside → SoundGiven w (list_given p w m (listed_by p f q d v ps))
list_case p f q d v w reading None ps k i j h = absurd k
list_case p f q d v w reading (Some (an_array t n)) ps k i j h =
    array_fine p w t n (parts_of_actuals ps.actuals) (listed_by p f q d v ps) i (λ none. (j (none_first ps.inside [] none)).nodes_plain k) (d, typed.list_and (typed.OfActuals q ps.actuals) typed.no_lists, refl, tt) h
list_case p f q d v w reading (Some m) ps k i j h = phrase_fine w (variable_name (Some m)) (listed_by p f q d v ps) i h

abbrev with_list : Place → Place → Place → Option (Entry Known) → PartsOut → Out
with_list p f q e ps = named_out p f e (list_out q ps (listed (use_with_list p e ps.parts)))

name_list_fine : (p f q : Place) (w : Wanted) (e : Option (Entry Known)) (ps : PartsOut) → GoodFound e → Fine (with_list p f q e ps) → FineParts (reading_of e) ps
    → NoFaults (list_given p w (meaning_of e) (with_list p f q e ps)).inside → SoundGiven w (list_given p w (meaning_of e) (with_list p f q e ps))
name_list_fine p f q w None ps k i j h = phrase_fine w false (with_list p f q None ps) i h
name_list_fine p f q w (Some e) ps k i j h = list_case p f q e.place (use_with_list p (Some e) ps.parts) w e.is.reading e.is.means ps k i j h

-- ---- a phrase in a list, as it is given

-- what is shown of the list of a name with one list
abbrev pub FineList : Scopes → tree.Phrase → Type 0
FineList path (tree.At p f (tree.Named x (tree.list_and (tree.OfActuals q actuals) tree.no_lists))) = FineParts (reading_of (declared path x)) (typed_parts path (reading_of (declared path x)) actuals)
FineList path a = ⊤

pub phrase_given_fine : (path : Scopes) → GoodPath path → (w : Wanted) (a : tree.Phrase) → Fine (typed_phrase path a) → FineList path a → NoFaults (given path w a (typed_phrase path a)).inside → SoundGiven w (given path w a (typed_phrase path a))
phrase_given_fine path good w (tree.At p f (tree.Named x tree.no_lists)) i j h = name_fine w p f (declared path x) (found_good path x good) h
phrase_given_fine path good w (tree.At p f (tree.Named x (tree.list_and (tree.OfActuals q actuals) tree.no_lists))) i j h =
    name_list_fine p f q w (declared path x) (typed_parts path (reading_of (declared path x)) actuals) (found_good path x good) i j h
phrase_given_fine path good w (tree.At p f (tree.Named x lists)) i j h = phrase_fine w (variable_name (meaning_of (declared path x))) (typed_phrase path (tree.At p f (tree.Named x lists))) i h
phrase_given_fine path good w (tree.At p f (tree.Assign a b)) i j h =
    let o = typed_phrase path (tree.At p f (tree.Assign a b)) in
    either_given (is_setting path w a b) w (setting_given o) (phrase_given false o) (setting_fine w o i) (phrase_fine w false o i) h
phrase_given_fine path good w a i j h = phrase_fine w false (typed_phrase path a) i h
