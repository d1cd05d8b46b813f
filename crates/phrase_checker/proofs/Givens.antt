-- Names, the lists behind them, and the parts of a list: what is found of them.
use Rattle.std.proofs.Common.{◌≡◌, ℕ, Bool, true, false, List, [], ◌∷◌, ◌++◌, Option, map, refl, sym, ap, subst, ◌∙◌, append-nil}
use Rattle.std.specs.Option.{option_map}
use Rattle.value_ops.specs.declared.places.Place.{Place}
use Rattle.algolw_tree.specs.Grammar.{actuals_of}
use Rattle.algolw_tree.specs.Tree as tree
use Rattle.algolw_tree.specs.View.{actual_tree}
use Rattle.algolw_typing.specs.Actuals.{Reading, Wanted}
use Rattle.algolw_typing.specs.Meanings.{Meaning, Part}
use Rattle.algolw_typing.specs.Names.{Entry, declared}
use Rattle.algolw_typing.specs.Scopes.{Known, Scopes}
use Rattle.algolw_typing.specs.Typed as typed
use Rattle.algolw_typing.specs.Types.{Gives}
use Rattle.algolw_typing.specs.Typing.{ListsOut, Out, PartOut, PartsOut, given, gives, faults, phrase_given, setting_given, setting_part, uncounted, first_list, list_given, meaning_of, named_out, reading_of, target, typed_kind, typed_parts, typed_phrase, use_with_list}
use Rattle.algolw_typing.specs.Verdicts.{Verdict, fault_of, type_of}
use Rattle.typing_rules.specs.MeaningView as meaning_view
use Rattle.typing_rules.specs.View as view
use Rattle.typed_findings.specs.Findings.{Found, Name, found_of, found_of_actuals, found_of_kind, found_of_lists}
use Rattle.typed_findings.specs.declared.findings.Log.{Log}
use Rattle.typed_findings.specs.declared.finding.Finding.TheVariants as finding
use Rattle.declared_names.specs.KnownView.{entry_of}
use Rattle.typed_phrases.specs.Applications.{Applies}
use Rattle.typed_phrases.specs.Fronts.{Front, a_name, actual_step, front_list, front_lists, front_reading, list_step}
use Rattle.typed_phrases.specs.Settings.{sets_width}
use Rattle.typed_phrases.specs.Readings.{ListReads, Reads, plain}
use Rattle.typed_phrases.specs.declared.actuals.Application.{Application}
use Rattle.typed_phrases.specs.declared.actuals.Given.{Given}
use Rattle.phrase_checker.specs.Checked.{ActualChecked, Adds, ApplicationChecked, Checked, GivenChecked, ListChecked, PartsChecked, ValueChecked, found_itself}
use Rattle.phrase_checker.proofs.Growth.{as_well, behind, one_more}
use Rattle.phrase_checker.proofs.ListSteps.{ListsDone}
use Rattle.phrase_checker.proofs.PlainParts.{parts_plain}
use Rattle.phrase_checker.proofs.Wholes.{found_with}

-- the declaration of a name
pub name_added : (s0 s1 : Log) (d d' : Place) → s1.faults.items ≡ s0.faults.items → s1.findings.items ≡ s0.findings.items ++ finding.Name d ∷ [] → d ≡ d' → Adds s0 s1 [] (Name d' ∷ [])
name_added s0 s1 d d' fs gs e = subst (λ (p : Place). Adds s0 s1 [] (Name p ∷ [])) e (one_more s0 s1 (finding.Name d) fs gs)

-- ---- a name and the lists behind it

pub named_checked : (path : Scopes) (p f : Place) (x : List ℕ) (lists : tree.Lists) (s0 s1 s2 : Log) (front : Front) (v w : Verdict) → front ≡ a_name p (declared path x) → Adds s0 s1 [] (Name (target (declared path x)) ∷ [])
    → ListsDone s1 s2 w (front_lists path front lists) → v ≡ w → Checked s0 s2 v (typed_kind path p f (tree.Named x lists))
named_checked path p f x lists s0 s1 s2 front v w at n done e =
    let d : ListsDone s1 s2 w (front_lists path (a_name p (declared path x)) lists) = subst (λ (z : Front). ListsDone s1 s2 w (front_lists path z lists)) at done in
    let o = first_list path p (declared path x) lists in
    record { added = behind s0 s1 s2 [] o.inside (Name (target (declared path x)) ∷ []) (found_of_lists o.lists) n d.added; verdict = e ∙ d.verdict }

pub list_checked : (path : Scopes) (front : Front) (l : tree.Listing) (q : Place) (actuals : tree.Actuals) (r : Reading) (s0 s1 : Log) (ps : List Part) (v : Verdict) → l ≡ tree.OfActuals q actuals → r ≡ front_reading front
    → PartsChecked s0 s1 ps (typed_parts path r actuals) → v ≡ front_list q front ps → ListChecked s0 s1 v (list_step path front l)
list_checked path front l q actuals r s0 s1 ps v is reads c e =
    let o : PartsOut = typed_parts path (front_reading front) actuals in
    let found : PartsChecked s0 s1 ps o = subst (λ (z : Reading). PartsChecked s0 s1 ps (typed_parts path z actuals)) reads c in
    let checked : ListChecked s0 s1 v (list_step path front (tree.OfActuals q actuals)) =
    record {
      added = as_well s0 s1 o.inside o.inside (found_of_actuals o.actuals) (found_of_actuals o.actuals ++ []) refl (sym (append-nil (found_of_actuals o.actuals))) found.added;
      verdict = e ∙ ap (front_list q front) found.parts;
    } in
    subst (λ (z : tree.Listing). ListChecked s0 s1 v (list_step path front z)) (sym is) checked

-- ---- a name with one list

alone_checked : (path : Scopes) (p f q : Place) (x : List ℕ) (actuals : tree.Actuals) (r : Reading) (s0 s1 s2 : Log) (ps : List Part) (v : Verdict) → r ≡ reading_of (declared path x) → Adds s0 s1 [] (Name (target (declared path x)) ∷ [])
    → PartsChecked s1 s2 ps (typed_parts path r actuals) → v ≡ use_with_list p (declared path x) ps → ApplicationChecked s0 s2 v ps (typed_kind path p f (tree.Named x (tree.list_and (tree.OfActuals q actuals) tree.no_lists)))
alone_checked path p f q x actuals r s0 s1 s2 ps v reads n c e =
    let d : Place = target (declared path x) in
    let o : PartsOut = typed_parts path (reading_of (declared path x)) actuals in
    let found : PartsChecked s1 s2 ps o = subst (λ (z : Reading). PartsChecked s1 s2 ps (typed_parts path z actuals)) reads c in
    record {
      checked = record {
        added = as_well s0 s2 o.inside (o.inside ++ []) (Name d ∷ found_of_actuals o.actuals) (Name d ∷ found_of_actuals o.actuals ++ []) (sym (append-nil o.inside)) (ap (λ (ys : List Found). Name d ∷ ys) (sym (append-nil (found_of_actuals o.actuals))))
            (behind s0 s1 s2 [] o.inside (Name d ∷ []) (found_of_actuals o.actuals) n found.added);
        verdict = e ∙ ap (use_with_list p (declared path x)) found.parts;
      };
      plain_parts = ap (map plain) found.parts ∙ parts_plain path (reading_of (declared path x)) actuals;
    }

pub application_checked : (path : Scopes) (p f : Place) (k : tree.Kind) (a : Application) (r : Reading) (s0 s1 s2 : Log) (ps : List Part) (v : Verdict) (h : Applies path k a) → r ≡ front_reading (a_name p (option_map (entry_of h.name) a.target))
    → Adds s0 s1 [] (Name (target (option_map (entry_of h.name) a.target)) ∷ []) → PartsChecked s1 s2 ps (typed_parts path r (actuals_of (map actual_tree a.actuals.now)))
    → v ≡ front_list a.place (a_name p (option_map (entry_of h.name) a.target)) ps → ApplicationChecked s0 s2 v ps (typed_kind path p f k)
application_checked path p f k a r s0 s1 s2 ps v h reads n c e =
    subst (λ (z : tree.Kind). ApplicationChecked s0 s2 v ps (typed_kind path p f z)) (sym h.kind)
    (alone_checked path p f a.place h.name (actuals_of (map actual_tree a.actuals.now)) r s0 s1 s2 ps v (reads ∙ ap reading_of h.target) (subst (λ (y : Option (Entry Known)). Adds s0 s1 [] (Name (target y) ∷ [])) h.target n) c (e ∙ ap (λ (y : Option (Entry Known)). use_with_list p y ps) h.target))

-- ---- a phrase in a list

pub actual_checked : (path : Scopes) (w : Wanted) (l : tree.Actual) (a : tree.Phrase) (s0 s1 s2 : Log) (g : Given) → l ≡ tree.Given a → GivenChecked path s0 s1 g w a → Adds s1 s2 (fault_of (view.verdict g.verdict)) (found_itself a (view.verdict g.verdict))
    → ActualChecked s0 s2 (meaning_view.part g.part) (actual_step path w l)
actual_checked path w l a s0 s1 s2 g is c n =
    let o : Out = typed_phrase path a in
    let v : Verdict = view.verdict g.verdict in
    let r : PartOut = given path w a o in
    let checked : ActualChecked s0 s2 (meaning_view.part g.part) (actual_step path w (tree.Given a)) =
    record {
      added = as_well s0 s2 (o.inside ++ fault_of v) r.inside (found_of_kind (typed.kind o.node) ++ found_itself a v) (found_of r.node ++ []) (sym c.reads.faults)
          (found_with path v a ∙ ap found_of (sym c.reads.node) ∙ sym (append-nil (found_of r.node))) (behind s0 s1 s2 o.inside (fault_of v) (found_of_kind (typed.kind o.node)) (found_itself a v) c.added n);
      part = sym c.reads.part;
    } in
    subst (λ (z : tree.Actual). ActualChecked s0 s2 (meaning_view.part g.part) (actual_step path w z)) (sym is) checked

-- a setting, which isn't counted
pub setting_checked : (path : Scopes) (w : Wanted) (l : tree.Actual) (a : tree.Phrase) (s0 s1 : Log) (q : Part) (v : Verdict) (end : Option Gives) → l ≡ tree.Given a → sets_width path w a ≡ true → ValueChecked s0 s1 v end (typed_phrase path a) → q ≡ setting_part (type_of v)
    → ActualChecked s0 s1 q (actual_step path w l)
setting_checked path w l (tree.At p f (tree.Assign a b)) s0 s1 q v end is sets c e =
    let o : Out = typed_phrase path (tree.At p f (tree.Assign a b)) in
    let node : typed.Node = uncounted o.node in
    let by : (t : Bool) → PartOut = λ t. elim t as (λ _. PartOut) [ true ↦ setting_given o | false ↦ phrase_given false o ] in
    let added : Adds s0 s1 (faults o) (found_of node ++ []) = as_well s0 s1 (faults o) (faults o) (found_of node) (found_of node ++ []) refl (sym (append-nil (found_of node))) c.added in
    let checked : ActualChecked s0 s1 q (record { inside = faults o; part = setting_part (gives o); actual = typed.Given node }) = record { added = added; part = e ∙ ap (λ (u : Verdict). setting_part (type_of u)) c.verdict } in
    subst (λ (z : tree.Actual). ActualChecked s0 s1 q (actual_step path w z)) (sym is)
    (subst (λ (t : Bool). ActualChecked s0 s1 q (record { inside = (by t).inside; part = (by t).part; actual = typed.Given (by t).node })) (sym sets) checked)
setting_checked path w l (tree.At p f k) s0 s1 q v end is sets c e = absurd (cc sets)

-- a name with one list, as it is read there
alone_read : (path : Scopes) (p f q : Place) (x : List ℕ) (actuals : tree.Actuals) (w : Wanted) (g : Given) (v : Verdict) (ps : List Part) (m : Option Meaning) (s0 s1 : Log)
    → ApplicationChecked s0 s1 v ps (typed_kind path p f (tree.Named x (tree.list_and (tree.OfActuals q actuals) tree.no_lists))) → m ≡ meaning_of (declared path x) → ListReads v ps g (list_given p w m)
    → GivenChecked path s0 s1 g w (tree.At p f (tree.Named x (tree.list_and (tree.OfActuals q actuals) tree.no_lists)))
alone_read path p f q x actuals w g v ps m s0 s1 c means reads =
    let e : Option (Entry Known) = declared path x in
    let lists : ListsOut = first_list path p e (tree.list_and (tree.OfActuals q actuals) tree.no_lists) in
    let o : Out = named_out p f e lists in
    record {
      added = c.checked.added;
      reads = subst (λ (y : Option Meaning). Reads g o (list_given p w y o)) means (reads p f e lists (sym c.checked.verdict) c.plain_parts);
    }

pub application_read : (path : Scopes) (p f : Place) (k : tree.Kind) (a : Application) (w : Wanted) (g : Given) (v : Verdict) (ps : List Part) (m : Option Meaning) (s0 s1 : Log) (h : Applies path k a)
    → ApplicationChecked s0 s1 v ps (typed_kind path p f k) → m ≡ meaning_of (option_map (entry_of h.name) a.target) → ListReads v ps g (list_given p w m) → GivenChecked path s0 s1 g w (tree.At p f k)
application_read path p f k a w g v ps m s0 s1 h c means reads =
    subst (λ (z : tree.Kind). GivenChecked path s0 s1 g w (tree.At p f z)) (sym h.kind)
    (alone_read path p f a.place h.name (actuals_of (map actual_tree a.actuals.now)) w g v ps m s0 s1 (subst (λ (z : tree.Kind). ApplicationChecked s0 s1 v ps (typed_kind path p f z)) h.kind c) (means ∙ ap meaning_of h.target) reads)
