-- The translation of a tree without faults fits, part by part.
use Rattle.std.proofs.Common.{◌≡◌, ℕ, List, [], ◌∷◌, ◌++◌, length, refl, sym, subst, ap, ◌∙◌, arith}
use Rattle.std.specs.Prelude.{Option, Some, None, Bool, true, false}
use Rattle.value_ops.specs.declared.places.Place.{Place}
use Rattle.value_ops.specs.declared.places.Diagnostic.{Diagnostic}
use Rattle.algolw_tree.specs.Tree as tree
use Rattle.algolw_typing.specs.Types.{ValueType, Gives, Statement, Simple, Integer, fits}
use Rattle.algolw_typing.specs.Verdicts.{Verdict, Good, Fault, type_of, fault_of, part, two_parts, unless, int}
use Rattle.algolw_typing.specs.Rows.{bound_row, procedure_row, item_row}
use Rattle.algolw_typing.specs.Meanings as typing
use Rattle.algolw_typing.specs.Meanings.{FormalType, gives_of, base_row, part_row, part_of_string, all_read, no_star}
use Rattle.algolw_typing.specs.Actuals.{Reading, as_phrases, for_formals, at_run_time, formal_wanted, wanted, actuals_fit, behind, phrase_part, list_row}
use Rattle.algolw_typing.specs.Scopes.{Scopes, result_faults, result_type, formal_fault, formal_faults, formal_type, formal_scope, names_of_block, twice, bound_count, written, control_scope, dimension_fault, class_fault}
use Rattle.algolw_typing.specs.Names.{declared}
use Rattle.algolw_typing.specs.Typed as typed
use Rattle.algolw_typing.specs.Typing.{Out, out, faults, gives, as_verdict, link_verdict, left_of, item_verdict, has_labels, first_token, then_item, array_faults, procedure_verdict, typed_phrase, typed_phrases, typed_links, typed_items, typed_bounds, typed_decls, typed_decl, typed_formals, typed_parts, more_lists, list_verdict, part_verdict, use_of, use_as_base, use_with_list, reading_of, given, target, uncounted, declare_at}
use Rattle.algolw_typing.proofs.GoodScopes.{NoFaults, none_first, none_second, none_two, none_three, none_four, GoodPath}
use Rattle.algolw_typing.proofs.GoodBlocks.{scope_of}
use Rattle.algolw_typing.proofs.SoundOuts.{IsGood, a_type, good_of}
use Rattle.algolw_typing.proofs.WholeTrees.{phrase_whole}
use Rattle.program_meaning.specs.Phrases as phrase
use Rattle.program_meaning.specs.Phrases.{Phrase, Formal}
use Rattle.program_meaning.specs.Translating as translating
use Rattle.program_meaning.specs.Translating.{phrase_of, phrases_of, chain_of, is_logical_given, decls_known, decls_of, items_of, bounds_of, formals_known, formals_of, each_formal, type_of_formal, with_known}
use Rattle.program_soundness.specs.Kinds as kinds
use Rattle.program_soundness.specs.Kinds.{Kind, an_integer, Want, a_statement, a_value, a_place, given_want, result_want, IsProper, IsProperGiven, IsProperResult, IsProperFormal, AreProper, Context, with_formals, with_block, Table}
use Rattle.program_meaning.specs.Copying.{actual_count}
use Rattle.program_soundness.specs.Fits as rule
use Rattle.program_soundness.specs.Fits.{Fits, IsNoPlace, IfVariable, ActualsFit, they_fit, AllFit, ItemsFit, BoundsFit, DeclsFit}
use Rattle.program_soundness.specs.Tables.{Info, table_of, infos, nodes_infos, links_infos, items_infos, bounds_infos, decls_infos, inner_infos, lists_infos, actuals_infos, decls_info, labels_info, formals_info, control_info}
use Rattle.program_soundness.proofs.Comparing.{fits_kind}
use Rattle.faultless_programs.specs.Filled.{IsFilled, AreFilled, ListsAreFilled, ActualsAreFilled, LinksAreFilled, ItemsAreFilled, BoundsAreFilled, DeclsAreFilled, DeclIsFilled}
use Rattle.faultless_programs.proofs.Agreeing.{AllAgree, agree_two}
use Rattle.faultless_programs.proofs.Round.{Round}
use Rattle.faultless_programs.proofs.Fitted.{Fitted, fitted_plain, fits_value, fits_statement}
use Rattle.faultless_programs.proofs.Rows.{good_gives, int_good}
use Rattle.faultless_programs.proofs.Simple.{fit_empty, fit_null, fit_number, fit_truth, fit_bits, fit_quoted, fit_negated, fit_absolute, fit_signed, fit_relation, fit_while, fit_assert, fit_if}
use Rattle.faultless_programs.proofs.Several.{FittedOuts, fit_none, fit_more, fit_if_else, fit_case_value, fit_case_do, fit_for_until, fit_for_step, fit_for_list}
use Rattle.faultless_programs.proofs.Chains.{links_good, link_fits, fit_assign}
use Rattle.faultless_programs.proofs.Types.{result_proper, formal_proper}
use Rattle.faultless_programs.proofs.Entering.{round_block, round_bounds, round_body, round_control}
use Rattle.faultless_programs.proofs.Names.{use_good, use_means, found_entry, flag, flag_variable, fit_goto, fit_is, left_variable, fit_alone}
use Rattle.faultless_programs.proofs.Parts.{onward_good, more_good, never_read, read_good, part_some, string_good, want_by, HasLength, part_step, GivenFit, unlisted}
use Rattle.faultless_programs.proofs.Settings.{part_fits}
use Rattle.faultless_programs.proofs.Listed.{base_fits, list_fits}
use Rattle.faultless_programs.proofs.Passing.{PartIs, IsActual, ListKnown, given_passed}
use Rattle.faultless_programs.proofs.Calls.{star_less, call_read, formal_call_read, same_test, given_infos}

-- ---- what has no faults is good

good_type : (v : Verdict) → IsGood v → (g : Gives) × (v ≡ Good g)
good_type _ (a_type {g = g}) = (g, refl)

pub good_at : (path : Scopes) → GoodPath path → (a : tree.Phrase) → NoFaults (faults (typed_phrase path a)) → (g : Gives) × ((typed_phrase path a).verdict ≡ Good g)
good_at path good a h =
    let o = typed_phrase path a in
    let n = none_two o.inside (fault_of o.verdict) h in
    good_type o.verdict (good_of o.verdict (phrase_whole path good a n.0).decided n.1)

-- ---- rows of what is no phrase

int_none : (p : Place) (y : Gives) (v : Verdict) → NoFaults (fault_of (int p y v)) → (y ≡ Simple Integer) × NoFaults (fault_of v)
int_none p (Simple Integer) v h = (refl, h)
int_none p Statement v h = absurd h
int_none p (Simple _) v h = absurd h

procedure_none : (p : Place) (r : Option ValueType) (y : Gives) → NoFaults (fault_of (procedure_row p r y)) → given_want y ≡ result_want r
procedure_none p None Statement h = refl
procedure_none p None (Simple t) h = absurd h
procedure_none p (Some t) Statement h = absurd h
procedure_none p (Some t) (Simple u) h = fit (fits u t) refl h where
  fit : (b : Bool) → fits u t ≡ b → NoFaults (fault_of (unless b 37 p (Good Statement))) → given_want (Simple u) ≡ result_want (Some t)
  fit true e h = ap a_value (fits_kind u t e)
  fit false e h = absurd h

procedure_given : (p : Place) (fs : List Diagnostic) (r : Option ValueType) (o : Out) (y : Gives) → NoFaults fs → o.verdict ≡ Good y → NoFaults (fault_of (procedure_verdict p fs r o)) → given_want y ≡ result_want r
procedure_given p [] r o y n e h = procedure_none p r y (subst (λ v. NoFaults (fault_of (part (type_of v) (procedure_row p r)))) e h)
procedure_given p (f ∷ fs) r o y n e h = absurd n

-- ---- formals

each_proper : (c : translating.Context) (t : FormalType) (xs : List typed.Placed) (fs : List Formal) → IsProperFormal t → AreProper fs → AreProper (each_formal c t xs fs)
each_proper c t [] fs h g = g
each_proper c t (x ∷ xs) fs h g = (h, each_proper c t xs fs h g)

formals_proper : (c : translating.Context) (path : Scopes) (fs : List tree.Formal) → NoFaults (formal_faults path fs) → AreProper (formals_of c (typed_formals path fs))
formals_proper c path [] h = tt
formals_proper c path (f ∷ fs) h =
    let n = none_two (formal_fault path f) (formal_faults path fs) h in
    let r = none_first (result_faults path f.spec) (dimension_fault f.names f.dimensions) n.0 in
    each_proper c (formal_type f.mode f.dimensions (result_type path f.spec)) _ (formals_of c (typed_formals path fs)) (formal_proper f.mode f.dimensions (result_type path f.spec) (result_proper path f.spec r)) (formals_proper c path fs n.1)

-- ---- items

labelled_good : (labelled : Bool) (p : Place) (y g : Gives) → then_item (Good Statement) (item_row true labelled p y) ≡ Good g → g ≡ y
labelled_good false p y g q = sym (good_gives q)
labelled_good true p Statement g q = sym (good_gives q)
labelled_good true p (Simple t) g q = absurd (cc q)

last_good : (labelled : Bool) (p : Place) (y g : Gives) (o : Out) → then_item (Good Statement) (part (gives o) (item_row true labelled p)) ≡ Good g → o.verdict ≡ Good y → g ≡ y
last_good labelled p y g o q e = labelled_good labelled p y g (subst (λ v. then_item (Good Statement) (part (type_of v) (item_row true labelled p)) ≡ Good g) e q)

statement_case : (p : Place) (labelled : Bool) (y : Gives) → NoFaults (fault_of (item_row false labelled p y)) → (y ≡ Statement) × (item_row false labelled p y ≡ Good Statement)
statement_case p labelled Statement h = (refl, refl)
statement_case p labelled (Simple t) h = absurd h

-- an item that isn't the last is a statement
statement_item : (p : Place) (labelled : Bool) (y : Gives) (o : Out) → o.verdict ≡ Good y → NoFaults (fault_of (part (gives o) (item_row false labelled p))) → (y ≡ Statement) × (part (gives o) (item_row false labelled p) ≡ Good Statement)
statement_item p labelled y o e h =
    let k = statement_case p labelled y (subst (λ v. NoFaults (fault_of (part (type_of v) (item_row false labelled p)))) e h) in
    (k.0, subst (λ v. part (type_of v) (item_row false labelled p) ≡ Good Statement) (sym e) k.1)

not_last : (c : translating.Context) (next : tree.Item) (rest : tree.Items) (path : Scopes) (v : Verdict) (table : Table) (d : Context) (a : Phrase) (want : Want) (labels : List Place) → Fits table d a a_statement → ItemsFit table d (items_of c (typed_items path v (tree.item_and next rest)).items) want
    → ItemsFit table d (phrase.item_and labels a (items_of c (typed_items path v (tree.item_and next rest)).items)) want
not_last c (tree.Labelled ls b) rest path v table d a want labels h k = (h, k)

-- what is counted or not declares the same
pub uncounted_agree : (is : List Info) (n : typed.Node) → AllAgree is (infos (uncounted n)) → AllAgree is (infos n)
uncounted_agree is (typed.At p f g s (typed.Assign a b)) h = h
uncounted_agree is (typed.At p f g s _) h = h

no_place : (g : Gives) → IsNoPlace (given_want g)
no_place Statement = tt
no_place (Simple t) = tt

module _ (is : List Info) where
  abbrev table : Table
  table = table_of is

  mutual
    pub phrase_fits : (a : tree.Phrase) (path : Scopes) (c : translating.Context) (d : Context) → Round is path c d → IsFilled a → AllAgree is (infos (typed_phrase path a).node) → NoFaults (faults (typed_phrase path a)) → Fitted table c d (typed_phrase path a)
    phrase_fits (tree.At p f k) path c d r i a h = kind_fits k p f path c d r i a h

    kind_fits : (k : tree.Kind) (p f : Place) (path : Scopes) (c : translating.Context) (d : Context) → Round is path c d → IsFilled (tree.At p f k) → AllAgree is (infos (typed_phrase path (tree.At p f k)).node) → NoFaults (faults (typed_phrase path (tree.At p f k))) → Fitted table c d (typed_phrase path (tree.At p f k))
    kind_fits tree.Empty p f path c d r i a h = fit_empty table c d p f
    kind_fits tree.Null p f path c d r i a h = fit_null table c d p f
    kind_fits (tree.Number n) p f path c d r i a h = fit_number table c d p f n
    kind_fits (tree.Truth b) p f path c d r i a h = fit_truth table c d p f b
    kind_fits (tree.BitsLit b) p f path c d r i a h = fit_bits table c d p f b
    kind_fits (tree.Quoted s) p f path c d r i a h = fit_quoted table c d p f s i
    kind_fits (tree.Named x tree.no_lists) p f path c d r i a h = let e = good_at path r.good (tree.At p f (tree.Named x tree.no_lists)) h in fit_alone is r p f x e.0 e.1
    kind_fits (tree.Named x (tree.list_and (tree.OfPart q b k) rest)) p f path c d r i a h =
        let e = declared path x in
        let o = typed_phrase path b in
        let v = part_verdict q k (use_as_base p e o) o in
        let more = more_lists path v rest in
        let g = good_at path r.good (tree.At p f (tree.Named x (tree.list_and (tree.OfPart q b k) rest))) h in
        let n = none_two (faults o) more.inside (none_first (faults o ++ more.inside) _ h) in
        let s = agree_two is (infos o.node) (lists_infos more.lists) a in
        let w = phrase_fits b path c d r i.0 s.0 n.0 in
        let m = more_good path v rest g.0 g.1 in
        let z = onward_good (use_as_base p e o) (λ base. part (gives o) (part_row q (written k) base)) m.0 m.1 in
        let u = use_good p e (λ m d. base_row p m (gives o)) z.0 z.1 in
        let t = found_entry is r x u.0 u.1 in
        let row = sym (use_means p u.0 t.0 (λ m d. base_row p m (gives o)) t.1) ∙ subst (λ e. use_as_base p e o ≡ Good z.0) u.1 z.1 in
        let l = part_some (gives o) (part_row q (written k) z.0) m.0 z.2 in
        let j = string_good q (written k) z.0 m.0 (int_good q l.0 (part_of_string q (written k) z.0) m.0 l.2).1 in
        subst (λ place. Fitted table c d (out (faults o ++ more.inside) p f more.verdict (typed.Named place (typed.list_and (typed.OfPart q o.node k) more.lists)))) (sym (ap target u.1))
        (base_fits is r p f q u.0 t.0 t.2 t.3 (gives o) z.0 g.0 row (j.0, j.1) (faults o ++ more.inside) more.verdict g.1 o.node k more.lists
        (λ front len mk ok has x. let y = part_step table c d w q len k front mk z.0 m.0 ok has x z.2 in more_fits rest path c d r v m.0 m.1 (phrase.Part len (translating.written k) front (phrase_of c o.node)) (translating.written k) mk ok y.1 y.0 y.2 i.1 s.1 n.1 g.0 g.1))
    kind_fits (tree.Named x (tree.list_and (tree.OfActuals q list) rest)) p f path c d r i a h =
        let e = declared path x in
        let ps = typed_parts path (reading_of e) list in
        let v = use_with_list p e ps.parts in
        let more = more_lists path v rest in
        let g = good_at path r.good (tree.At p f (tree.Named x (tree.list_and (tree.OfActuals q list) rest))) h in
        let n = none_two ps.inside more.inside (none_first (ps.inside ++ more.inside) _ h) in
        let s = agree_two is (actuals_infos ps.actuals) (lists_infos more.lists) a in
        let m = more_good path v rest g.0 g.1 in
        let row = λ (m : typing.Meaning) (d : Place). all_read ps.parts (list_row p m d ps.parts) in
        let u = use_good p e row m.0 m.1 in
        let t = found_entry is r x u.0 u.1 in
        let good = read_good ps.parts (list_row p t.0 u.0.place ps.parts) m.0 (sym (use_means p u.0 t.0 row t.1) ∙ subst (λ e. use_of p e row ≡ Good m.0) u.1 m.1) in
        let reads = ap reading_of u.1 in
        subst (λ place. Fitted table c d (out (ps.inside ++ more.inside) p f more.verdict (typed.Named place (typed.list_and (typed.OfActuals q ps.actuals) more.lists)))) (sym (ap target u.1))
        (list_fits is r p f q u.0 t.0 t.2 t.3 ps.parts m.0 g.0 good (ps.inside ++ more.inside) more.verdict g.1 ps.actuals more.lists
        (λ l. parts_fit list path c d r (reading_of e) (reads ∙ l) i.0 s.0 n.0)
        (λ res fs l b.
        let x = call_read d p res fs ps.parts m.0 b in
        let y = actuals_pass list path c d r (reading_of e) fs (reads ∙ l) p (typing.right_number p (length fs) ps.parts (actuals_fit p fs ps.parts (Good (gives_of res)))) m.0 i.0 s.0 n.0 b x.0 in
        (y.0, same_test d p fs (translating.actuals_of c ps.actuals) ps.parts y.1 y.2 x.2, x.1))
        (λ res l b. (formal_pass list path c d r (reading_of e) (reads ∙ l) p (Good (gives_of res)) m.0 i.0 s.0 n.0 b, formal_call_read p res ps.parts m.0 b))
        (λ front len mk ok has y z. more_fits rest path c d r v m.0 m.1 front len mk ok has y z i.1 s.1 n.1 g.0 g.1)
        (unlisted path v m.0 rest g.0 m.1 g.1))
    kind_fits (tree.Negated x) p f path c d r i a h =
        let e = good_at path r.good (tree.At p f (tree.Negated x)) h in
        fit_negated table c d p f (typed_phrase path x) e.0 (phrase_fits x path c d r i a (none_first (faults (typed_phrase path x)) _ h)) e.1
    kind_fits (tree.Abs x) p f path c d r i a h =
        let e = good_at path r.good (tree.At p f (tree.Abs x)) h in
        fit_absolute table c d p f (typed_phrase path x) e.0 (phrase_fits x path c d r i a (none_first (faults (typed_phrase path x)) _ h)) e.1
    kind_fits (tree.Signed minus x) p f path c d r i a h =
        let e = good_at path r.good (tree.At p f (tree.Signed minus x)) h in
        fit_signed table c d p f minus (typed_phrase path x) e.0 (phrase_fits x path c d r i a (none_first (faults (typed_phrase path x)) _ h)) e.1
    kind_fits (tree.Chain x links) p f path c d r i a h =
        let o = typed_phrase path x in
        let v = as_verdict (gives o) in
        let more = typed_links path v links in
        let e = good_at path r.good (tree.At p f (tree.Chain x links)) h in
        let n = none_two (faults o) more.inside (none_first (faults o ++ more.inside) _ h) in
        let b = agree_two is (infos o.node) (links_infos more.links) a in
        let q = phrase_fits x path c d r i.0 b.0 n.0 in
        let w = ap (λ v. as_verdict (type_of v)) q.verdict in
        let k = links_fit links path c d r v q.gives (phrase_of c o.node) e.0 w q.fits q.proper i.1 b.1 n.1 e.1 in
        fitted_plain table c d _ p f _ (typed.Chain o.node more.links) e.0 e.1 tt (subst IsProperGiven (sym k.0) q.proper)
        (subst (λ g. Fits table d (chain_of c (is_logical_given (Some g)) (phrase_of c o.node) more.links) (given_want g)) (sym k.0) k.1)
    kind_fits (tree.Relation op x y) p f path c d r i a h =
        let e = good_at path r.good (tree.At p f (tree.Relation op x y)) h in
        let n = none_two (faults (typed_phrase path x)) (faults (typed_phrase path y)) (none_first (faults (typed_phrase path x) ++ faults (typed_phrase path y)) _ h) in
        let b = agree_two is (infos (typed_phrase path x).node) (infos (typed_phrase path y).node) a in
        fit_relation table c d p f op (typed_phrase path x) (typed_phrase path y) e.0 (phrase_fits x path c d r i.0 b.0 n.0) (phrase_fits y path c d r i.1 b.1 n.1) e.1
    kind_fits (tree.IsClass x y q) p f path c d r i a h =
        let e = good_at path r.good (tree.At p f (tree.IsClass x y q)) h in
        let n = none_first (faults (typed_phrase path x)) (class_fault (y, q) (declared path y)) (none_first (faults (typed_phrase path x) ++ class_fault (y, q) (declared path y)) _ h) in
        fit_is is c d p f (y, q) (declared path y) (typed_phrase path x) e.0 (phrase_fits x path c d r i a n) e.1
    kind_fits (tree.Assign x y) p f path c d r i a h =
        let e = good_at path r.good (tree.At p f (tree.Assign x y)) h in
        let n = none_two (faults (typed_phrase path x)) (faults (typed_phrase path y)) (none_first (faults (typed_phrase path x) ++ faults (typed_phrase path y)) _ h) in
        let b = agree_two is (infos (typed_phrase path x).node) (infos (uncounted (typed_phrase path y).node)) a in
        fit_assign table c d p f (left_of path x) (typed_phrase path x) (typed_phrase path y) e.0 (phrase_fits x path c d r i.0 b.0 n.0) (phrase_fits y path c d r i.1 (uncounted_agree is (typed_phrase path y).node b.1) n.1) (left_variable is r x) e.1
    kind_fits (tree.IfThen x y tree.Missing) p f path c d r i a h =
        let e = good_at path r.good (tree.At p f (tree.IfThen x y tree.Missing)) h in
        let n = none_two (faults (typed_phrase path x)) (faults (typed_phrase path y)) (none_first (faults (typed_phrase path x) ++ faults (typed_phrase path y)) _ h) in
        let b = agree_two is (infos (typed_phrase path x).node) (infos (typed_phrase path y).node ++ []) a in
        let b' = agree_two is (infos (typed_phrase path y).node) [] b.1 in
        fit_if table c d p f (typed_phrase path x) (typed_phrase path y) e.0 (phrase_fits x path c d r i.0 b.0 n.0) (phrase_fits y path c d r i.1 b'.0 n.1) e.1
    kind_fits (tree.IfThen x y (tree.There z)) p f path c d r i a h =
        let e = good_at path r.good (tree.At p f (tree.IfThen x y (tree.There z))) h in
        let n = none_three (faults (typed_phrase path x)) (faults (typed_phrase path y)) (faults (typed_phrase path z)) (none_first (faults (typed_phrase path x) ++ faults (typed_phrase path y) ++ faults (typed_phrase path z)) _ h) in
        let b = agree_two is (infos (typed_phrase path x).node) (infos (typed_phrase path y).node ++ infos (typed_phrase path z).node) a in
        let b' = agree_two is (infos (typed_phrase path y).node) (infos (typed_phrase path z).node) b.1 in
        fit_if_else table c d p f (typed_phrase path x) (typed_phrase path y) (typed_phrase path z) e.0 (phrase_fits x path c d r i.0 b.0 n.0) (phrase_fits y path c d r i.1 b'.0 n.1) (phrase_fits z path c d r i.2 b'.1 n.2) e.1
    kind_fits (tree.CaseValue x parts) p f path c d r i a h =
        let e = good_at path r.good (tree.At p f (tree.CaseValue x parts)) h in
        let n = none_two (faults (typed_phrase path x)) (typed_phrases path parts).inside (none_first (faults (typed_phrase path x) ++ (typed_phrases path parts).inside) _ h) in
        let b = agree_two is (infos (typed_phrase path x).node) (nodes_infos (typed_phrases path parts).nodes) a in
        fit_case_value table c d p f (typed_phrase path x) (typed_phrases path parts) e.0 (phrase_fits x path c d r i.0 b.0 n.0) (phrases_fit parts path c d r i.1 b.1 n.1) e.1
    kind_fits (tree.CaseDo x parts) p f path c d r i a h =
        let e = good_at path r.good (tree.At p f (tree.CaseDo x parts)) h in
        let n = none_two (faults (typed_phrase path x)) (typed_phrases path parts).inside (none_first (faults (typed_phrase path x) ++ (typed_phrases path parts).inside) _ h) in
        let b = agree_two is (infos (typed_phrase path x).node) (nodes_infos (typed_phrases path parts).nodes) a in
        fit_case_do table c d p f (typed_phrase path x) (typed_phrases path parts) e.0 (phrase_fits x path c d r i.0 b.0 n.0) (phrases_fit parts path c d r i.1 b.1 n.1) e.1
    kind_fits (tree.ForStep x from tree.Missing to body) p f path c d r i a h =
        let inner = control_scope p x ∷ path in
        let e = good_at path r.good (tree.At p f (tree.ForStep x from tree.Missing to body)) h in
        let n = none_three (faults (typed_phrase path from)) (faults (typed_phrase path to)) (faults (typed_phrase inner body)) (none_first (faults (typed_phrase path from) ++ faults (typed_phrase path to) ++ faults (typed_phrase inner body)) _ h) in
        let b = agree_two is (infos (typed_phrase path from).node) ([] ++ (infos (typed_phrase path to).node ++ (control_info p ++ infos (typed_phrase inner body).node))) a in
        let b' = agree_two is (infos (typed_phrase path to).node) (control_info p ++ infos (typed_phrase inner body).node) b.1 in
        let s = agree_two is (control_info p) (infos (typed_phrase inner body).node) b'.1 in
        fit_for_until table c d p f (typed_phrase path from) (typed_phrase path to) (typed_phrase inner body) e.0 (phrase_fits from path c d r i.0 b.0 n.0) (phrase_fits to path c d r i.2 b'.0 n.1) (phrase_fits body inner _ _ (round_control is path p x r s.0) i.3 s.1 n.2) e.1
    kind_fits (tree.ForStep x from (tree.There step) to body) p f path c d r i a h =
        let inner = control_scope p x ∷ path in
        let e = good_at path r.good (tree.At p f (tree.ForStep x from (tree.There step) to body)) h in
        let n = none_four (faults (typed_phrase path from)) (faults (typed_phrase path step)) (faults (typed_phrase path to)) (faults (typed_phrase inner body)) (none_first (faults (typed_phrase path from) ++ faults (typed_phrase path step) ++ faults (typed_phrase path to) ++ faults (typed_phrase inner body)) _ h) in
        let b = agree_two is (infos (typed_phrase path from).node) (infos (typed_phrase path step).node ++ (infos (typed_phrase path to).node ++ (control_info p ++ infos (typed_phrase inner body).node))) a in
        let b' = agree_two is (infos (typed_phrase path step).node) (infos (typed_phrase path to).node ++ (control_info p ++ infos (typed_phrase inner body).node)) b.1 in
        let b3 = agree_two is (infos (typed_phrase path to).node) (control_info p ++ infos (typed_phrase inner body).node) b'.1 in
        let s = agree_two is (control_info p) (infos (typed_phrase inner body).node) b3.1 in
        fit_for_step table c d p f (typed_phrase path from) (typed_phrase path step) (typed_phrase path to) (typed_phrase inner body) e.0 (phrase_fits from path c d r i.0 b.0 n.0) (phrase_fits step path c d r i.1 b'.0 n.1) (phrase_fits to path c d r i.2 b3.0 n.2) (phrase_fits body inner _ _ (round_control is path p x r s.0) i.3 s.1 n.3) e.1
    kind_fits (tree.ForList x values body) p f path c d r i a h =
        let inner = control_scope p x ∷ path in
        let e = good_at path r.good (tree.At p f (tree.ForList x values body)) h in
        let n = none_two (typed_phrases path values).inside (faults (typed_phrase inner body)) (none_first ((typed_phrases path values).inside ++ faults (typed_phrase inner body)) _ h) in
        let b = agree_two is (nodes_infos (typed_phrases path values).nodes) (control_info p ++ infos (typed_phrase inner body).node) a in
        let s = agree_two is (control_info p) (infos (typed_phrase inner body).node) b.1 in
        fit_for_list table c d p f (typed_phrases path values) (typed_phrase inner body) e.0 (phrases_fit values path c d r i.0 b.0 n.0) (phrase_fits body inner _ _ (round_control is path p x r s.0) i.1 s.1 n.1) e.1
    kind_fits (tree.WhileDo x y) p f path c d r i a h =
        let e = good_at path r.good (tree.At p f (tree.WhileDo x y)) h in
        let n = none_two (faults (typed_phrase path x)) (faults (typed_phrase path y)) (none_first (faults (typed_phrase path x) ++ faults (typed_phrase path y)) _ h) in
        let b = agree_two is (infos (typed_phrase path x).node) (infos (typed_phrase path y).node) a in
        fit_while table c d p f (typed_phrase path x) (typed_phrase path y) e.0 (phrase_fits x path c d r i.0 b.0 n.0) (phrase_fits y path c d r i.1 b.1 n.1) e.1
    kind_fits (tree.Goto x) p f path c d r i a h = let e = good_at path r.good (tree.At p f (tree.Goto x)) h in fit_goto is r p f x e.0 e.1
    kind_fits (tree.Assert x) p f path c d r i a h =
        let e = good_at path r.good (tree.At p f (tree.Assert x)) h in
        fit_assert table c d p f (typed_phrase path x) e.0 (phrase_fits x path c d r i a (none_first (faults (typed_phrase path x)) _ h)) e.1
    kind_fits (tree.Block decls items) p f path c d r i a h =
        let inner = scope_of path decls items ∷ path in
        let ds = typed_decls path inner decls in
        let its = typed_items inner (Good Statement) items in
        let e = good_at path r.good (tree.At p f (tree.Block decls items)) h in
        let n = none_three (twice [] (names_of_block decls items)) ds.inside its.inside (none_first (twice [] (names_of_block decls items) ++ ds.inside ++ its.inside) _ h) in
        let b = agree_two is (decls_info ds.decls) (labels_info its.items ++ (decls_infos ds.decls ++ items_infos its.items)) a in
        let b' = agree_two is (labels_info its.items) (decls_infos ds.decls ++ items_infos its.items) b.1 in
        let b3 = agree_two is (decls_infos ds.decls) (items_infos its.items) b'.1 in
        let q = round_block is path decls items r n.1 b.0 b'.0 in
        let m = round_bounds is path ds.decls r b.0 in
        let its_fit = items_fit items inner _ _ q (Good Statement) refl e.0 i.1 b3.1 n.2 e.1 in
        fitted_plain table c d _ p f _ (typed.Block ds.decls its.items) e.0 e.1 tt its_fit.0 (no_place e.0, decls_fit decls path inner _ d _ m q i.0 b3.0 n.1, its_fit.1)

    -- ---- lists behind names

    -- parts of a string behind what is given
    more_fits : (rest : tree.Lists) (path : Scopes) (c : translating.Context) (d : Context) → Round is path c d → (v : Verdict) (y : Gives) → v ≡ Good y → (front : Phrase) (m : ℕ) (mk : Kind → Want) → kinds.IsVariable kinds.a_string (mk kinds.a_string) → HasLength m y → IsProperGiven y → Fits table d front (want_by mk y) → ListsAreFilled rest
        → AllAgree is (lists_infos (more_lists path v rest).lists) → NoFaults (more_lists path v rest).inside → (g : Gives) → (more_lists path v rest).verdict ≡ Good g → IsProperGiven g × Fits table d (translating.parts_of c m front (more_lists path v rest).lists) (want_by mk g)
    more_fits tree.no_lists path c d r v y e front m mk ok has z x i a h g q = let k = good_gives (sym e ∙ q) in (subst IsProperGiven k z, subst (λ g. Fits table d front (want_by mk g)) k x)
    more_fits (tree.list_and (tree.OfActuals l list) rest) path c d r v y e front m mk ok has z x i a h g q =
        let ps = typed_parts path as_phrases list in
        let w = more_good path (list_verdict l v ps.parts) rest g q in
        let o = onward_good v (λ b. all_read ps.parts (Fault 41 l)) w.0 w.1 in
        absurd (never_read ps.parts 41 l w.0 o.2)
    more_fits (tree.list_and (tree.OfPart l b k) rest) path c d r v y e front m mk ok has z x i a h g q =
        let o = typed_phrase path b in
        let w = part_verdict l k v o in
        let n = none_two (faults o) (more_lists path w rest).inside h in
        let s = agree_two is (infos o.node) (lists_infos (more_lists path w rest).lists) a in
        let u = more_good path w rest g q in
        let t = onward_good v (λ base. part (gives o) (part_row l (written k) base)) u.0 u.1 in
        let same = good_gives (sym t.1 ∙ e) in
        let j = part_step table c d (phrase_fits b path c d r i.0 s.0 n.0) l m k front mk y u.0 ok has x (subst (λ base. part (gives o) (part_row l (written k) base) ≡ Good u.0) same t.2) in
        more_fits rest path c d r w u.0 u.1 (phrase.Part m (translating.written k) front (phrase_of c o.node)) (translating.written k) mk ok j.1 j.0 j.2 i.1 s.1 n.1 g q

    -- the parts of a list that are read as phrases
    parts_fit : (list : tree.Actuals) (path : Scopes) (c : translating.Context) (d : Context) → Round is path c d → (rd : Reading) → rd ≡ as_phrases → ActualsAreFilled list → AllAgree is (actuals_infos (typed_parts path rd list).actuals) → NoFaults (typed_parts path rd list).inside → GivenFit table c d (typed_parts path rd list).actuals (typed_parts path rd list).parts
    parts_fit tree.no_actuals path c d r rd e i a h = tt
    parts_fit (tree.actual_and (tree.Star q) rest) path c d r rd e i a h = (refl, parts_fit rest path c d r (behind rd) (ap behind e) i a h)
    parts_fit (tree.actual_and (tree.Given b) rest) path c d r rd e i a h =
        let g = given path (wanted rd) b (typed_phrase path b) in
        let more = typed_parts path (behind rd) rest in
        let n = none_two g.inside more.inside h in
        let s = agree_two is (infos g.node) (actuals_infos more.actuals) a in
        (part_fits is r b (wanted rd) (ap wanted e) (λ k l. phrase_fits b path c d r i.0 k l) s.0 n.0, parts_fit rest path c d r (behind rd) (ap behind e) i.1 s.1 n.1)

    -- the list of a name with one list, as an actual
    list_known : (b : tree.Phrase) (path : Scopes) (c : translating.Context) (d : Context) → Round is path c d → IsFilled b → AllAgree is (infos (typed_phrase path b).node) → ListKnown is path c d b
    list_known (tree.At p f (tree.Named x (tree.list_and (tree.OfActuals q list) tree.no_lists))) path c d r i a = λ n l. parts_fit list path c d r (reading_of (declared path x)) l i.0 (agree_two is (actuals_infos (typed_parts path (reading_of (declared path x)) list).actuals) [] a).0 n
    list_known (tree.At p f (tree.Named x (tree.list_and (tree.OfActuals q list) (tree.list_and l ls)))) path c d r i a = tt
    list_known (tree.At p f (tree.Named x (tree.list_and (tree.OfPart q b n) ls))) path c d r i a = tt
    list_known (tree.At p f (tree.Named x tree.no_lists)) path c d r i a = tt
    list_known (tree.At p f _) path c d r i a = tt

    -- the actuals of a procedure
    actuals_pass : (list : tree.Actuals) (path : Scopes) (c : translating.Context) (d : Context) → Round is path c d → (rd : Reading) (fs : List FormalType) → rd ≡ for_formals fs → (p : Place) (v : Verdict) (y : Gives) → ActualsAreFilled list → AllAgree is (actuals_infos (typed_parts path rd list).actuals) → NoFaults (typed_parts path rd list).inside
        → no_star p (typed_parts path rd list).parts v ≡ Good y → length fs ≡ length (typed_parts path rd list).parts
        → ActualsFit table d (translating.actuals_of c (typed_parts path rd list).actuals) × (rule.actual_parts d fs (translating.actuals_of c (typed_parts path rd list).actuals) ≡ (typed_parts path rd list).parts) × (length fs ≡ actual_count (translating.actuals_of c (typed_parts path rd list).actuals))
    actuals_pass tree.no_actuals path c d r rd [] e p v y i a h q n = (tt, refl, refl)
    actuals_pass tree.no_actuals path c d r rd (f ∷ fs) e p v y i a h q n = absurd (omega (arith, n))
    actuals_pass (tree.actual_and (tree.Star l) rest) path c d r rd fs e p v y i a h q n = absurd (cc q)
    actuals_pass (tree.actual_and (tree.Given b) rest) path c d r rd [] e p v y i a h q n = absurd (omega (arith, n))
    actuals_pass (tree.actual_and (tree.Given b) rest) path c d r rd (f ∷ fs) e p v y i a h q n =
        let o = typed_phrase path b in
        let w = wanted rd in
        let g = given path w b o in
        let more = typed_parts path (behind rd) rest in
        let k = none_two g.inside more.inside h in
        let s = agree_two is (infos g.node) (actuals_infos more.actuals) a in
        let own = subst (AllAgree is) (given_infos path w b o) s.0 in
        let x = given_passed is r w (subst (λ r. IsActual (wanted r)) (sym e) tt) b (λ z. phrase_fits b path c d r i.0 own z) (list_known b path c d r i.0 own) k.0 in
        let t = actuals_pass rest path c d r (behind rd) fs (ap behind e) p v y i.1 s.1 k.1 (star_less p g.part more.parts v y q) (omega (arith, n)) in
        let same : PartIs is c d (formal_wanted f) g.node g.part = subst (λ w. PartIs is c d w g.node g.part) (ap wanted e) x.1 in
        let more_given = translating.actuals_of c more.actuals in
        ((x.0, t.0), ap (λ z. z ∷ rule.actual_parts d fs more_given) same ∙ ap (λ zs. g.part ∷ zs) t.1, omega (arith, t.2))

    -- the actuals of a procedure formal
    formal_pass : (list : tree.Actuals) (path : Scopes) (c : translating.Context) (d : Context) → Round is path c d → (rd : Reading) → rd ≡ at_run_time → (p : Place) (v : Verdict) (y : Gives) → ActualsAreFilled list → AllAgree is (actuals_infos (typed_parts path rd list).actuals) → NoFaults (typed_parts path rd list).inside
        → no_star p (typed_parts path rd list).parts v ≡ Good y → ActualsFit table d (translating.actuals_of c (typed_parts path rd list).actuals)
    formal_pass tree.no_actuals path c d r rd e p v y i a h q = tt
    formal_pass (tree.actual_and (tree.Star l) rest) path c d r rd e p v y i a h q = absurd (cc q)
    formal_pass (tree.actual_and (tree.Given b) rest) path c d r rd e p v y i a h q =
        let o = typed_phrase path b in
        let w = wanted rd in
        let g = given path w b o in
        let more = typed_parts path (behind rd) rest in
        let k = none_two g.inside more.inside h in
        let s = agree_two is (infos g.node) (actuals_infos more.actuals) a in
        let own = subst (AllAgree is) (given_infos path w b o) s.0 in
        let x = given_passed is r w (subst (λ r. IsActual (wanted r)) (sym e) tt) b (λ z. phrase_fits b path c d r i.0 own z) (list_known b path c d r i.0 own) k.0 in
        (x.0, formal_pass rest path c d r (behind rd) (ap behind e) p v y i.1 s.1 k.1 (star_less p g.part more.parts v y q))

    -- ---- several

    phrases_fit : (ps : tree.Phrases) (path : Scopes) (c : translating.Context) (d : Context) → Round is path c d → AreFilled ps → AllAgree is (nodes_infos (typed_phrases path ps).nodes) → NoFaults (typed_phrases path ps).inside → FittedOuts table c d (typed_phrases path ps)
    phrases_fit tree.no_phrases path c d r i a h = fit_none table c d
    phrases_fit (tree.phrase_and x rest) path c d r i a h =
        let n = none_two (faults (typed_phrase path x)) (typed_phrases path rest).inside h in
        let b = agree_two is (infos (typed_phrase path x).node) (nodes_infos (typed_phrases path rest).nodes) a in
        fit_more table c d (typed_phrase path x) (typed_phrases path rest) (phrase_fits x path c d r i.0 b.0 n.0) (phrases_fit rest path c d r i.1 b.1 n.1)

    links_fit : (links : tree.Links) (path : Scopes) (c : translating.Context) (d : Context) → Round is path c d → (v : Verdict) (y : Gives) (front : Phrase) (g : Gives) → v ≡ Good y → Fits table d front (given_want y) → IsProperGiven y → LinksAreFilled links
        → AllAgree is (links_infos (typed_links path v links).links) → NoFaults (typed_links path v links).inside → (typed_links path v links).verdict ≡ Good g → (g ≡ y) × Fits table d (chain_of c (is_logical_given (Some y)) front (typed_links path v links).links) (given_want y)
    links_fit tree.no_links path c d r v y front g e x z i a h q = (good_gives (sym q ∙ e), x)
    links_fit (tree.link_and (tree.Linked op p b) rest) path c d r v y front g e x z i a h q =
        let o = typed_phrase path b in
        let w = link_verdict op p v o in
        let n = none_two (faults o) (typed_links path w rest).inside h in
        let s = agree_two is (infos o.node) (links_infos (typed_links path w rest).links) a in
        let u = links_good table c d path w rest g q in
        let k = phrase_fits b path c d r i.0 s.0 n.0 in
        let l = link_fits table c d op p y u.0 front o k x (subst (λ v. link_verdict op p v o ≡ Good u.0) e u.1) in
        links_fit rest path c d r w y (translating.linked (is_logical_given (Some y)) op front (phrase_of c o.node)) g (u.1 ∙ ap Good l.0) l.1 z i.1 s.1 n.1 q

    items_fit : (its : tree.Items) (path : Scopes) (c : translating.Context) (d : Context) → Round is path c d → (v : Verdict) → v ≡ Good Statement → (g : Gives) → ItemsAreFilled its → AllAgree is (items_infos (typed_items path v its).items) → NoFaults (typed_items path v its).inside → (typed_items path v its).verdict ≡ Good g
        → IsProperGiven g × ItemsFit table d (items_of c (typed_items path v its).items) (given_want g)
    items_fit tree.no_items path c d r v e g i a h q = let k = good_gives (sym e ∙ q) in (subst IsProperGiven k tt, ap given_want (sym k))
    items_fit (tree.item_and (tree.Labelled labels b) tree.no_items) path c d r v e g i a h q =
        let o = typed_phrase path b in
        let w = item_verdict tree.no_items labels b o in
        let n = none_three (faults o) (fault_of w) [] h in
        let s = agree_two is (infos o.node) [] a in
        let k = phrase_fits b path c d r i.0 s.0 n.0 in
        let l = last_good (has_labels labels) (first_token b) k.gives g o (subst (λ v. then_item v (part (gives o) (item_row true (has_labels labels) (first_token b))) ≡ Good g) e q) k.verdict in
        (subst IsProperGiven (sym l) k.proper, subst (λ g. Fits table d (phrase_of c o.node) (given_want g)) (sym l) k.fits)
    items_fit (tree.item_and (tree.Labelled labels b) (tree.item_and next rest)) path c d r v e g i a h q =
        let o = typed_phrase path b in
        let w = item_verdict (tree.item_and next rest) labels b o in
        let more = typed_items path (then_item v w) (tree.item_and next rest) in
        let n = none_three (faults o) (fault_of w) more.inside h in
        let s = agree_two is (infos o.node) (items_infos more.items) a in
        let k = phrase_fits b path c d r i.0 s.0 n.0 in
        let l = statement_item (first_token b) (has_labels labels) k.gives o k.verdict n.1 in
        let m = items_fit (tree.item_and next rest) path c d r (then_item v w) (ap (λ v. then_item v w) e ∙ ap (then_item (Good Statement)) l.1) g i.1 s.1 n.2 q in
        (m.0, not_last c next rest path (then_item v w) table d (phrase_of c o.node) (given_want g) (translating.places_of (declare_at labels)) (fits_statement table c d k l.0) m.1)

    bounds_fit : (bs : tree.Bounds) (path : Scopes) (c : translating.Context) (d : Context) → Round is path c d → BoundsAreFilled bs → AllAgree is (bounds_infos (typed_bounds path bs).bounds) → NoFaults (typed_bounds path bs).inside → BoundsFit table d (bounds_of c (typed_bounds path bs).bounds)
    bounds_fit tree.no_bounds path c d r i a h = tt
    bounds_fit (tree.bound_and (tree.Between p x y) rest) path c d r i a h =
        let o = typed_phrase path x in
        let u = typed_phrase path y in
        let v = two_parts (gives o) (gives u) (bound_row p) in
        let n = none_four (faults o) (faults u) (fault_of v) (typed_bounds path rest).inside h in
        let b = agree_two is (infos o.node) (infos u.node ++ bounds_infos (typed_bounds path rest).bounds) a in
        let s = agree_two is (infos u.node) (bounds_infos (typed_bounds path rest).bounds) b.1 in
        let k = phrase_fits x path c d r i.0 b.0 n.0 in
        let l = phrase_fits y path c d r i.1 s.0 n.1 in
        let w = subst (λ z. NoFaults (fault_of (part (type_of z) (λ y. bound_row p k.gives y)))) l.verdict (subst (λ z. NoFaults (fault_of (two_parts (type_of z) (gives u) (bound_row p)))) k.verdict n.2) in
        let t = int_none p k.gives (int p l.gives (Good Statement)) w in
        let z = int_none p l.gives (Good Statement) t.1 in
        (fits_value table c d k Integer t.0, fits_value table c d l Integer z.0, bounds_fit rest path c d r i.2 s.1 n.3)

    -- bounds are read outside the block, bodies inside
    decls_fit : (ds : tree.Decls) (around inner : Scopes) (c : translating.Context) (d d' : Context) → Round is around c d → Round is inner c d' → DeclsAreFilled ds → AllAgree is (decls_infos (typed_decls around inner ds).decls) → NoFaults (typed_decls around inner ds).inside → DeclsFit table d d' (decls_of c (typed_decls around inner ds).decls)
    decls_fit tree.no_decls around inner c d d' m r i a h = tt
    decls_fit (tree.decl_and e rest) around inner c d d' m r i a h =
        let n = none_two (typed_decl around inner e).inside (typed_decls around inner rest).inside h in
        let b = agree_two is (inner_infos (typed_decl around inner e).decl) (decls_infos (typed_decls around inner rest).decls) a in
        decl_fits e around inner c d d' m r i.0 b.0 n.0 (decls_of c (typed_decls around inner rest).decls) (decls_fit rest around inner c d d' m r i.1 b.1 n.1)

    decl_fits : (e : tree.Decl) (around inner : Scopes) (c : translating.Context) (d d' : Context) → Round is around c d → Round is inner c d' → DeclIsFilled e → AllAgree is (inner_infos (typed_decl around inner e).decl) → NoFaults (typed_decl around inner e).inside
        → (rest : phrase.Decls) → DeclsFit table d d' rest → DeclsFit table d d' (translating.decl_of c (typed_decl around inner e).decl rest)
    decl_fits (tree.Simple spec xs) around inner c d d' m r i a h rest k = k
    decl_fits (tree.Array spec xs pairs) around inner c d d' m r i a h rest k = (bounds_fit pairs around c d m i a (none_second (array_faults inner spec xs (bound_count pairs)) (typed_bounds around pairs).inside h), k)
    decl_fits (tree.Class cl) around inner c d d' m r i a h rest k = k
    decl_fits (tree.Proc p result x formals body) around inner c d d' m r i a h rest k =
        let within = formal_scope inner formals ∷ inner in
        let o = typed_phrase within body in
        let types = result_faults inner result ++ formal_faults inner formals in
        let v = procedure_verdict p (result_faults inner result) (result_type inner result) o in
        let n = none_four types (twice [] (formal_scope inner formals)) (faults o) (fault_of v) h in
        let t = none_two (result_faults inner result) (formal_faults inner formals) n.0 in
        let b = agree_two is (formals_info (typed_formals inner formals)) (infos o.node) a in
        let q = phrase_fits body within _ _ (round_body is inner formals r t.1 b.0) i b.1 n.2 in
        ((result_proper inner result t.0, formals_proper c inner formals t.1, subst (λ want. Fits table (with_formals (formals_of c (typed_formals inner formals)) d') (phrase_of (with_known c (formals_known (typed_formals inner formals))) o.node) want) (procedure_given p (result_faults inner result) (result_type inner result) o q.gives t.0 q.verdict n.3) q.fits), k)
