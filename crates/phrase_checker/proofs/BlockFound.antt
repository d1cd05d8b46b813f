-- What is found of blocks, of procedures and of items.
use Rattle.std.proofs.Common.{◌≡◌, ℕ, Bool, List, [], ◌∷◌, ◌++◌, Option, map, refl, sym, ap, subst, ◌∙◌, append_assoc, append-nil}
use Rattle.std.specs.Option.{option_map}
use Rattle.std.specs.Prelude.{Result, Ok, Err, IfOk}
use Rattle.std.specs.declared.alloc.Global.{Global}
use Rattle.std.specs.declared.vec.Vec.{Vec}
use Rattle.value_ops.specs.declared.places.Diagnostic.{Diagnostic}
use Rattle.value_ops.specs.declared.places.Place.{Place}
use Rattle.algolw_tree.specs.Grammar.{bounds_of}
use Rattle.algolw_tree.specs.Tree as tree
use Rattle.algolw_tree.specs.View.{bound_tree, decl_tree}
use Rattle.algolw_tree.specs.declared.phrases.Bound.{Bound}
use Rattle.algolw_tree.specs.declared.phrases.Decl.{Decl, Array}
use Rattle.algolw_tree.specs.declared.phrases.TypeSpec.{TypeSpec}
use Rattle.algolw_typing.specs.Names.{Scope}
use Rattle.algolw_typing.specs.Rows.{bound_row}
use Rattle.algolw_typing.specs.Scopes.{Known, Scopes, result_faults, result_type, formal_faults, formal_scope, names_of_block, label_entries, twice}
use Rattle.algolw_typing.specs.Types.{Statement, ValueType}
use Rattle.algolw_typing.specs.Typing.{Out, faults, gives, BoundsOut, DeclsOut, ItemsOut, typed_bounds, typed_kind, typed_phrase, typed_decls, typed_items, meanings, typed_decl, typed_formals, procedure_verdict}
use Rattle.algolw_typing.specs.Verdicts.{Verdict, Good, fault_of, two_parts, type_of}
use Rattle.typing_rules.specs.View as view
use Rattle.declared_names.proofs.Bounding.{bounds_kept}
use Rattle.declared_names.specs.Blocks.{DeclFound, bounds_view, decl_bounds}
use Rattle.declared_names.specs.declared.blocks.Bounds.{Bounds}
use Rattle.declared_names.specs.Heads.{no_faults, IsHead, verdict_of}
use Rattle.declared_names.specs.declared.procedures.Head.{Head}
use Rattle.typed_findings.specs.Findings.{Found, as_type, finding_view, formals_found, found_of, found_of_bounds, found_of_decls, found_of_items}
use Rattle.typed_findings.specs.declared.findings.Log.{Log}
use Rattle.phrase_checker.specs.Checked.{Adds, BoundChecked, BoundsChecked, Checked, DeclsChecked, ItemsChecked, Noted, PairChecked}
use Rattle.phrase_checker.proofs.Growth.{as_well, four_behind, seen, three_behind}

-- ---- blocks

pub block_found : (path : Scopes) (p f : Place) (s0 s1 s2 s3 s4 : Log) (names meant scope : Scope Known) (decls : tree.Decls) (items : tree.Items) (v : Verdict)
    → names ≡ names_of_block decls items → Adds s0 s1 (twice [] names) [] → s2 ≡ s1 → meant ≡ meanings path (names ∷ path) decls → scope ≡ meant ++ label_entries items
    → DeclsChecked s2 s3 (typed_decls path (scope ∷ path) decls) → ItemsChecked s3 s4 v (typed_items (scope ∷ path) (Good Statement) items) → Checked s0 s4 v (typed_kind path p f (tree.Block decls items))
block_found path p f s0 s1 s2 s3 s4 names meant scope decls items v n w e m l hd hi =
    let all : Scope Known = names_of_block decls items in
    let own : Scope Known = meanings path (all ∷ path) decls ++ label_entries items in
    let inner : scope ≡ own = l ∙ ap (λ (s : Scope Known). s ++ label_entries items) (m ∙ ap (λ (s : Scope Known). meanings path (s ∷ path) decls) n) in
    let first : Adds s0 s2 (twice [] all) [] = subst (λ (s : Log). Adds s0 s (twice [] all) []) (sym e) (subst (λ (s : Scope Known). Adds s0 s1 (twice [] s) []) n w) in
    let od : DeclsOut = typed_decls path (own ∷ path) decls in
    let oi : ItemsOut = typed_items (own ∷ path) (Good Statement) items in
    let gd : DeclsChecked s2 s3 od = subst (λ (s : Scope Known). DeclsChecked s2 s3 (typed_decls path (s ∷ path) decls)) inner hd in
    let gi : ItemsChecked s3 s4 v oi = subst (λ (s : Scope Known). ItemsChecked s3 s4 v (typed_items (s ∷ path) (Good Statement) items)) inner hi in
    record {
      added = three_behind s0 s2 s3 s4 (twice [] all) od.inside oi.inside [] (found_of_decls od.decls) (found_of_items oi.items) first gd gi.added;
      verdict = gi.verdict;
    }

-- ---- procedures

-- what is found of a phrase, along equal scopes
pub noted_along : (a b : Log) (v : Verdict) (body : tree.Phrase) (path path' : Scopes) → path ≡ path' → Noted a b v (typed_phrase path body) → Noted a b v (typed_phrase path' body)
noted_along a b v body path path' e h = subst (λ (q : Scopes). Noted a b v (typed_phrase q body)) e h

verdict_is : (p : Place) (fs : List Diagnostic) (sound : Bool) (r r' : Option ValueType) (o : Out) (v : Verdict) → sound ≡ no_faults fs → r ≡ r' → v ≡ o.verdict → verdict_of p sound r (type_of v) ≡ procedure_verdict p fs r' o
verdict_is p fs sound r r' o v s e w = ap (λ b. verdict_of p b r (type_of v)) s ∙ ap (λ (q : Option ValueType). verdict_of p (no_faults fs) q (type_of v)) e ∙ ap (λ (u : Verdict). verdict_of p (no_faults fs) r' (type_of u)) w ∙ by_faults p fs r' o where
  by_faults : (p : Place) (fs : List Diagnostic) (r : Option ValueType) (o : Out) → verdict_of p (no_faults fs) r (gives o) ≡ procedure_verdict p fs r o
  by_faults p [] r o = refl
  by_faults p (f ∷ fs) r o = refl

body_last : (ts xs : List Found) → ts ++ [] ++ xs ++ [] ≡ ts ++ xs
body_last ts xs = append-nil (ts ++ [] ++ xs) ∙ ap (λ ys. ys ++ xs) (append-nil ts)

pub procedure_found : (around path : Scopes) (p : Place) (spec : Option tree.TypeSpec) (x : tree.Placed) (fs : List tree.Formal) (body : tree.Phrase) (s0 s1 s2 s3 s4 : Log) (scope : Scope Known) (h : Head) (w v : Verdict)
    → s1.faults.items ≡ s0.faults.items ++ result_faults path spec ++ formal_faults path fs → seen s1 ≡ seen s0 ++ as_type (result_type path spec) ∷ formals_found (typed_formals path fs) → IsHead h path spec
    → scope ≡ formal_scope path fs → Adds s1 s2 (twice [] scope) [] → Noted s2 s3 w (typed_phrase (scope ∷ path) body) → v ≡ verdict_of p h.is_sound (option_map view.value_type h.result) (type_of w) → Adds s3 s4 (fault_of v) []
    → DeclFound s0 s4 (typed_decl around path (tree.Proc p spec x fs body))
procedure_found around path p spec x fs body s0 s1 s2 s3 s4 scope h w v heads types head es again hb ev n =
    let own : Scope Known = formal_scope path fs in
    let o : Out = typed_phrase (own ∷ path) body in
    let hs : List Diagnostic = result_faults path spec ++ formal_faults path fs in
    let t : Found = as_type (result_type path spec) in
    let ts : List Found = formals_found (typed_formals path fs) in
    let gb : Noted s2 s3 w o = subst (λ (s : Scope Known). Noted s2 s3 w (typed_phrase (s ∷ path) body)) es hb in
    let u : Verdict = procedure_verdict p (result_faults path spec) (result_type path spec) o in
    let whole : v ≡ u = ev ∙ verdict_is p (result_faults path spec) h.is_sound (option_map view.value_type h.result) (result_type path spec) o w head.sound head.result gb.verdict in
    let first : Adds s0 s1 hs (t ∷ ts) = record { faults = heads ∙ append_assoc s0.faults.items (result_faults path spec) (formal_faults path fs); findings = types } in
    let second : Adds s1 s2 (twice [] own) [] = subst (λ (s : Scope Known). Adds s1 s2 (twice [] s) []) es again in
    let last : Adds s3 s4 (fault_of u) [] = subst (λ (z : Verdict). Adds s3 s4 (fault_of z) []) whole n in
    let all : Adds s0 s4 (hs ++ twice [] own ++ faults o ++ fault_of u) ((t ∷ ts) ++ [] ++ found_of o.node ++ []) = four_behind s0 s1 s2 s3 s4 hs (twice [] own) (faults o) (fault_of u) (t ∷ ts) [] (found_of o.node) [] first second gb.added last in
    let found = as_well s0 s4 (hs ++ twice [] own ++ faults o ++ fault_of u) (hs ++ twice [] own ++ faults o ++ fault_of u) ((t ∷ ts) ++ [] ++ found_of o.node ++ []) ((t ∷ ts) ++ found_of o.node) refl (body_last (t ∷ ts) (found_of o.node)) all in
    record { faults = found.faults; findings = found.findings }

-- ---- items

-- ---- the bounds of a dimension

pub bound_checked : (path : Scopes) (p : Place) (a b : tree.Phrase) (s0 s2 s3 : Log) (v w u : Verdict) → PairChecked path s0 s2 v w a b → u ≡ two_parts (type_of v) (type_of w) (bound_row p) → Adds s2 s3 (fault_of u) [] → BoundChecked s0 s3 p (typed_phrase path a) (typed_phrase path b)
bound_checked path p a b s0 s2 s3 v w u h e n =
    let lower : Out = typed_phrase path a in
    let upper : Out = typed_phrase path b in
    let same : u ≡ two_parts (gives lower) (gives upper) (bound_row p) = e ∙ ap (λ (q : Verdict). two_parts (type_of q) (type_of w) (bound_row p)) h.first.verdict ∙ ap (λ (q : Verdict). two_parts (gives lower) (type_of q) (bound_row p)) h.second.verdict in
    as_well s0 s3 (faults lower ++ faults upper ++ fault_of u) (faults lower ++ faults upper ++ fault_of (two_parts (gives lower) (gives upper) (bound_row p))) (found_of lower.node ++ found_of upper.node ++ []) (found_of lower.node ++ found_of upper.node)
    (ap (λ (q : Verdict). faults lower ++ faults upper ++ fault_of q) same) (append-nil (found_of lower.node ++ found_of upper.node))
    (three_behind s0 h.between s2 s3 (faults lower) (faults upper) (fault_of u) (found_of lower.node) (found_of upper.node) [] h.first.added h.second.added n)

-- ---- the bounds of a declaration, which are found apart and kept

pub both_ok : {T E : Type 0} (r : Result T E) (P Q R : T → Type 0) → ((x : T) → P x → Q x → R x) → IfOk r P → IfOk r Q → IfOk r R
both_ok (Ok x) P Q R f p q = f x p q
both_ok (Err e) P Q R f p q = tt

pub bounds_apart : (around : Scopes) (d : Decl) (s : TypeSpec) (ns : Vec (List ℕ × Place) Global) (v : Vec Bound Global) (xs : List Bound) (new before after found : Log) (b : Bounds) → d ≡ Array s ns v → xs ≡ v.items → new.faults.items ≡ [] → new.findings.items ≡ []
    → before ≡ new → BoundsChecked before after (typed_bounds around (bounds_of (map bound_tree xs))) → found ≡ after → b.faults.now ≡ found.faults.items → b.findings.now ≡ found.findings.items → bounds_view b ≡ decl_bounds around (decl_tree d)
bounds_apart around d s ns v xs new before after found b is items fs gs e c last bf bg =
    let o : BoundsOut = typed_bounds around (bounds_of (map bound_tree xs)) in
    bounds_kept around d s ns v xs b is items (bf ∙ ap (λ (l : Log). l.faults.items) last ∙ c.faults ∙ ap (λ (ds : List Diagnostic). ds ++ o.inside) (ap (λ (l : Log). l.faults.items) e ∙ fs))
    (ap (map finding_view) bg ∙ ap seen last ∙ c.findings ∙ ap (λ (ys : List Found). ys ++ found_of_bounds o.bounds) (ap seen e ∙ ap (map finding_view) gs))
