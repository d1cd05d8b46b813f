-- The turns of loops over parts, which find the whole part by part.
use Rattle.std.proofs.Common.{◌≡◌, ℕ, ◌+◌, ◌<◌, ◌≤◌, List, [], Option, Some, None, length, get_or, drop, map, refl, sym, ap, ◌∙◌, append-nil}
use Rattle.std.proofs.lemmas.List.{drop_all}
use Rattle.algolw_tree.specs.Grammar.{links_of, phrases_of}
use Rattle.algolw_tree.specs.View.{tree, link_tree, part_tree}
use Rattle.algolw_tree.specs.declared.phrases.Link.{Link}
use Rattle.algolw_tree.specs.declared.phrases.Part.{Part}
use Rattle.algolw_tree.specs.declared.phrases.Phrase.{Phrase}
use Rattle.algolw_typing.specs.Rows.{link_row}
use Rattle.algolw_typing.specs.Scopes.{Scopes}
use Rattle.algolw_typing.specs.Types.{Gives, Statement, Simple}
use Rattle.algolw_typing.specs.Typing.{Out, faults, gives, no_outs, out_and, PhrasesOut, LinksOut, link_out, link_verdict, no_more, onward, typed_links, typed_phrase, typed_phrases}
use Rattle.algolw_typing.specs.Verdicts.{Verdict, all_parts, part, type_of}
use Rattle.declared_names.proofs.Placing.{next}
use Rattle.typed_findings.specs.Findings.{found_of, found_of_links, found_of_nodes}
use Rattle.typed_findings.specs.declared.findings.Log.{Log}
use Rattle.typed_phrases.specs.Cases.{both_give, together}
use Rattle.typed_phrases.specs.FoundParts.{by_all, with_one_more}
use Rattle.typed_phrases.proofs.AllParts.{Behind, one_behind}
use Rattle.phrase_checker.specs.Checked.{CasesChecked, LinksChecked, Noted, PhrasesChecked}
use Rattle.phrase_checker.proofs.Growth.{SoFar, at_last, turn}

-- ---- phrases

pub record PhrasesSoFar (start now : Log) (gs : Option (List Gives)) (whole rest : PhrasesOut) : Type 0 where
  pub added : SoFar start now whole.inside rest.inside (found_of_nodes whole.nodes) (found_of_nodes rest.nodes)
  pub gives : (row : List Gives → Verdict) → all_parts whole.gives row ≡ Behind gs rest.gives row

phrases_turn : (start now later : Log) (gs gs' : Option (List Gives)) (whole rest rest' : PhrasesOut) (v : Verdict) (o : Out) → PhrasesSoFar start now gs whole rest → rest ≡ out_and o rest' → Noted now later v o → gs' ≡ with_one_more gs (type_of v)
    → PhrasesSoFar start later gs' whole rest'
phrases_turn start now later gs gs' whole rest rest' v o h e n g = record {
  added = turn start now later whole.inside rest.inside rest'.inside (faults o) (found_of_nodes whole.nodes) (found_of_nodes rest.nodes) (found_of_nodes rest'.nodes) (found_of o.node) h.added (ap (λ (r : PhrasesOut). r.inside) e) (ap (λ (r : PhrasesOut). found_of_nodes r.nodes) e) n.added;
  gives = λ row. h.gives row ∙ ap (λ (r : PhrasesOut). Behind gs r.gives row) e ∙ one_behind gs (gives o) rest'.gives row ∙ ap (λ (x : Option (List Gives)). Behind x rest'.gives row) (sym (g ∙ ap (λ (u : Verdict). with_one_more gs (type_of u)) n.verdict));
}

pub phrases_step : (path : Scopes) (whole : PhrasesOut) (start : Log) (xs : List Phrase) (i : ℕ) (x : Phrase) (a b : Log) (gs gs' : Option (List Gives)) (v : Verdict) → i < length xs → x ≡ get_or xs i x → Noted a b v (typed_phrase path (tree x)) → gs' ≡ with_one_more gs (type_of v)
    → PhrasesSoFar start a gs whole (typed_phrases path (phrases_of (map tree (drop i xs)))) → PhrasesSoFar start b gs' whole (typed_phrases path (phrases_of (map tree (drop (i + 1) xs))))
phrases_step path whole start xs i x a b gs gs' v within is n g h =
    phrases_turn start a b gs gs' whole _ (typed_phrases path (phrases_of (map tree (drop (i + 1) xs)))) v (typed_phrase path (tree x)) h (ap (λ ys. typed_phrases path (phrases_of (map tree ys))) (next xs i x within is)) n g

-- behind the last phrase
all_behind : (gs : Option (List Gives)) (row : List Gives → Verdict) → Behind gs [] row ≡ by_all gs row
all_behind None row = refl
all_behind (Some gs) row = ap row (append-nil gs)

pub phrases_end : (path : Scopes) (xs : List Phrase) (i : ℕ) (a b : Log) (gs : Option (List Gives)) → length xs ≤ i → PhrasesSoFar a b gs (typed_phrases path (phrases_of (map tree xs))) (typed_phrases path (phrases_of (map tree (drop i xs))))
    → PhrasesChecked a b gs (typed_phrases path (phrases_of (map tree xs)))
phrases_end path xs i a b gs past h =
    let whole : PhrasesOut = typed_phrases path (phrases_of (map tree xs)) in
    let rest : PhrasesOut = typed_phrases path (phrases_of (map tree (drop i xs))) in
    let last : rest ≡ no_outs = ap (λ ys. typed_phrases path (phrases_of (map tree ys))) (drop_all i xs past) in
    record {
      added = at_last a b whole.inside rest.inside (found_of_nodes whole.nodes) (found_of_nodes rest.nodes) (ap (λ (o : PhrasesOut). o.inside) last) (ap (λ (o : PhrasesOut). found_of_nodes o.nodes) last) h.added;
      gives = λ row. h.gives row ∙ ap (λ (o : PhrasesOut). Behind gs o.gives row) last ∙ all_behind gs row;
    }

-- ---- the statements of a CASE, of which is kept what they give together

pub record CasesSoFar (start now : Log) (g : Option Gives) (whole rest : PhrasesOut) : Type 0 where
  pub added : SoFar start now whole.inside rest.inside (found_of_nodes whole.nodes) (found_of_nodes rest.nodes)
  pub gives : together whole.gives ≡ both_give g (together rest.gives)

both_both : (a b c : Option Gives) → both_give (both_give a b) c ≡ both_give a (both_give b c)
both_both None b c = refl
both_both (Some Statement) b c = refl
both_both (Some (Simple t)) None c = refl
both_both (Some (Simple t)) (Some Statement) c = refl
both_both (Some (Simple t)) (Some (Simple u)) None = refl
both_both (Some (Simple t)) (Some (Simple u)) (Some g) = refl

cases_turn : (start now later : Log) (g g' : Option Gives) (whole rest rest' : PhrasesOut) (v : Verdict) (o : Out) → CasesSoFar start now g whole rest → rest ≡ out_and o rest' → Noted now later v o → g' ≡ both_give g (type_of v) → CasesSoFar start later g' whole rest'
cases_turn start now later g g' whole rest rest' v o h e n k = record {
  added = turn start now later whole.inside rest.inside rest'.inside (faults o) (found_of_nodes whole.nodes) (found_of_nodes rest.nodes) (found_of_nodes rest'.nodes) (found_of o.node) h.added (ap (λ (r : PhrasesOut). r.inside) e) (ap (λ (r : PhrasesOut). found_of_nodes r.nodes) e) n.added;
  gives = h.gives ∙ ap (λ (r : PhrasesOut). both_give g (together r.gives)) e ∙ sym (both_both g (gives o) (together rest'.gives)) ∙ ap (λ (x : Option Gives). both_give x (together rest'.gives)) (sym (k ∙ ap (λ (u : Verdict). both_give g (type_of u)) n.verdict));
}

pub cases_step : (path : Scopes) (whole : PhrasesOut) (start : Log) (xs : List Part) (i : ℕ) (x : Part) (a b : Log) (g g' : Option Gives) (v : Verdict) → i < length xs → x ≡ get_or xs i x → Noted a b v (typed_phrase path (part_tree x)) → g' ≡ both_give g (type_of v)
    → CasesSoFar start a g whole (typed_phrases path (phrases_of (map part_tree (drop i xs)))) → CasesSoFar start b g' whole (typed_phrases path (phrases_of (map part_tree (drop (i + 1) xs))))
cases_step path whole start xs i x a b g g' v within is n k h =
    cases_turn start a b g g' whole _ (typed_phrases path (phrases_of (map part_tree (drop (i + 1) xs)))) v (typed_phrase path (part_tree x)) h (ap (λ ys. typed_phrases path (phrases_of (map part_tree ys))) (next xs i x within is)) n k

-- behind the last statement
both_all : (g : Option Gives) → both_give g (together []) ≡ g
both_all None = refl
both_all (Some Statement) = refl
both_all (Some (Simple t)) = refl

pub cases_end : (path : Scopes) (xs : List Part) (i : ℕ) (a b : Log) (g : Option Gives) → length xs ≤ i → CasesSoFar a b g (typed_phrases path (phrases_of (map part_tree xs))) (typed_phrases path (phrases_of (map part_tree (drop i xs))))
    → CasesChecked a b g (typed_phrases path (phrases_of (map part_tree xs)))
cases_end path xs i a b g past h =
    let whole : PhrasesOut = typed_phrases path (phrases_of (map part_tree xs)) in
    let rest : PhrasesOut = typed_phrases path (phrases_of (map part_tree (drop i xs))) in
    let last : rest ≡ no_outs = ap (λ ys. typed_phrases path (phrases_of (map part_tree ys))) (drop_all i xs past) in
    record {
      added = at_last a b whole.inside rest.inside (found_of_nodes whole.nodes) (found_of_nodes rest.nodes) (ap (λ (o : PhrasesOut). o.inside) last) (ap (λ (o : PhrasesOut). found_of_nodes o.nodes) last) h.added;
      gives = sym (h.gives ∙ ap (λ (o : PhrasesOut). both_give g (together o.gives)) last ∙ both_all g);
    }

-- ---- the links of a chain

pub record LinksSoFar (start now : Log) (whole rest : LinksOut) : Type 0 where
  pub added : SoFar start now whole.inside rest.inside (found_of_links whole.links) (found_of_links rest.links)
  pub verdict : whole.verdict ≡ rest.verdict

pub links_step : (path : Scopes) (whole : LinksOut) (start : Log) (xs : List Link) (i : ℕ) (x : Link) (a b : Log) (front front' v : Verdict) → i < length xs → x ≡ get_or xs i x → Noted a b v (typed_phrase path (tree x.right))
    → front' ≡ onward front (λ left. part (type_of v) (link_row x.op x.place left))
    → LinksSoFar start a whole (typed_links path front (links_of (map link_tree (drop i xs)))) → LinksSoFar start b whole (typed_links path front' (links_of (map link_tree (drop (i + 1) xs))))
links_step path whole start xs i x a b front front' v within is n f h =
    let o : Out = typed_phrase path (tree x.right) in
    let rest : LinksOut = typed_links path front (links_of (map link_tree (drop i xs))) in
    let rest' : LinksOut = typed_links path front' (links_of (map link_tree (drop (i + 1) xs))) in
    let w : link_verdict x.op x.place front o ≡ front' = sym (f ∙ ap (λ (u : Verdict). onward front (λ left. part (type_of u) (link_row x.op x.place left))) n.verdict) in
    let e : rest ≡ link_out x.op x.place o rest' = ap (λ ys. typed_links path front (links_of (map link_tree ys))) (next xs i x within is) ∙ ap (λ (u : Verdict). link_out x.op x.place o (typed_links path u (links_of (map link_tree (drop (i + 1) xs))))) w in
    record {
      added = turn start a b whole.inside rest.inside rest'.inside (faults o) (found_of_links whole.links) (found_of_links rest.links) (found_of_links rest'.links) (found_of o.node) h.added (ap (λ (r : LinksOut). r.inside) e) (ap (λ (r : LinksOut). found_of_links r.links) e) n.added;
      verdict = h.verdict ∙ ap (λ (r : LinksOut). r.verdict) e;
    }

pub links_end : (path : Scopes) (xs : List Link) (i : ℕ) (a b : Log) (before front : Verdict) → length xs ≤ i → LinksSoFar a b (typed_links path before (links_of (map link_tree xs))) (typed_links path front (links_of (map link_tree (drop i xs))))
    → LinksChecked a b front (typed_links path before (links_of (map link_tree xs)))
links_end path xs i a b before front past h =
    let whole : LinksOut = typed_links path before (links_of (map link_tree xs)) in
    let rest : LinksOut = typed_links path front (links_of (map link_tree (drop i xs))) in
    let last : rest ≡ no_more front = ap (λ ys. typed_links path front (links_of (map link_tree ys))) (drop_all i xs past) in
    record {
      added = at_last a b whole.inside rest.inside (found_of_links whole.links) (found_of_links rest.links) (ap (λ (o : LinksOut). o.inside) last) (ap (λ (o : LinksOut). found_of_links o.links) last) h.added;
      verdict = sym (h.verdict ∙ ap (λ (o : LinksOut). o.verdict) last);
    }
