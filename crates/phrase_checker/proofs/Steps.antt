-- What is found of a phrase of one kind, by what is found of its parts.
use Rattle.std.proofs.Common.{◌≡◌, ℕ, List, [], ◌∷◌, ◌++◌, Option, Some, None, refl, sym, ap, subst, ◌∙◌, append-nil}
use Rattle.std.proofs.lemmas.Result.{IfOk-weaker}
use Rattle.std.specs.Option.{option_map}
use Rattle.std.specs.Prelude.{Result, IfOk}
use Rattle.value_ops.specs.declared.places.Place.{Place}
use Rattle.algolw_tree.specs.Tree as tree
use Rattle.algolw_tree.specs.View.{part_tree}
use Rattle.algolw_tree.specs.declared.phrases.Part as part_in
use Rattle.algolw_tree.specs.declared.phrases.Part.{Part}
use Rattle.algolw_tree.specs.declared.phrases.RelOp.{RelOp}
use Rattle.algolw_typing.specs.Names.{Entry, declared}
use Rattle.algolw_typing.specs.Rows.{case_do_row, case_value_row, for_row, is_row, relation_row, while_row}
use Rattle.algolw_typing.specs.Scopes.{Known, Scopes, class_fault, control_scope}
use Rattle.algolw_typing.specs.Types.{Gives, Statement}
use Rattle.algolw_typing.specs.Typing.{Out, PhrasesOut, LinksOut, as_verdict, case_do_out, case_value_out, chain_out, class_stated, faults, for_list_out, gives, meaning_of, target, typed_kind, typed_links, typed_phrase}
use Rattle.algolw_typing.specs.Verdicts.{Verdict, Good, all_parts, part, two_parts, type_of}
use Rattle.typing_rules.specs.View as view
use Rattle.typing_rules.specs.declared.types.PhraseType.{PhraseType}
use Rattle.typing_rules.specs.declared.verdicts.NoType.{NoType}
use Rattle.typed_findings.specs.Findings.{Found, Name, found_of, found_of_links, found_of_nodes}
use Rattle.typed_findings.specs.declared.findings.Log.{Log}
use Rattle.typed_phrases.specs.Prefixes.{prefix_row, prefixed}
use Rattle.typed_phrases.specs.Ranges.{range_given, step_given}
use Rattle.typed_phrases.specs.declared.operators.Prefix.{Prefix}
use Rattle.typed_phrases.specs.declared.operators.Prefix.TheVariants.{Not, Abs, Sign, Assert}
use Rattle.typed_phrases.specs.declared.statements.Range.{Range}
use Rattle.phrase_checker.specs.Checked.{Adds, CasesChecked, Checked, LinksChecked, Noted, PairChecked, PhrasesChecked, RangeChecked, StepChecked}
use Rattle.phrase_checker.proofs.Growth.{as_well, behind, faults_alone, four_behind, nothing, seen, three_behind}

-- ---- the kind of a phrase in memory

abbrev pub IsChecked : {E : Type 0} → Result (Result PhraseType NoType) E → Log → Log → Out → Type 0
IsChecked r a b o = IfOk r (λ v. Checked a b (view.verdict v) o)

pub by_kind : {E : Type 0} (r : Result (Result PhraseType NoType) E) (a b : Log) (path : Scopes) (p f : Place) (k k' : tree.Kind) → k ≡ k' → ((first : Place) → IsChecked r a b (typed_kind path p first k')) → IsChecked r a b (typed_kind path p f k)
by_kind r a b path p f k k' e h = subst (λ (z : tree.Kind). IsChecked r a b (typed_kind path p f z)) (sym e) (h f)

-- ---- one part

-- an operand behind what stands before it
pub prefixed_checked : (path : Scopes) (p f : Place) (x : Prefix) (a : tree.Phrase) (s0 s1 : Log) (v w : Verdict) → Noted s0 s1 v (typed_phrase path a) → w ≡ part (type_of v) (prefix_row x p) → Checked s0 s1 w (typed_kind path p f (prefixed x a))
prefixed_checked path p f Not a s0 s1 v w h e = record { added = h.added; verdict = e ∙ ap (λ (u : Verdict). part (type_of u) (prefix_row Not p)) h.verdict }
prefixed_checked path p f Abs a s0 s1 v w h e = record { added = h.added; verdict = e ∙ ap (λ (u : Verdict). part (type_of u) (prefix_row Abs p)) h.verdict }
prefixed_checked path p f (Sign minus) a s0 s1 v w h e = record { added = h.added; verdict = e ∙ ap (λ (u : Verdict). part (type_of u) (prefix_row (Sign minus) p)) h.verdict }
prefixed_checked path p f Assert a s0 s1 v w h e = record { added = h.added; verdict = e ∙ ap (λ (u : Verdict). part (type_of u) (prefix_row Assert p)) h.verdict }

-- ---- two parts, the one behind the other

pair_added : (s0 s1 s2 : Log) (v w : Verdict) (a b : Out) → Noted s0 s1 v a → Noted s1 s2 w b → Adds s0 s2 (faults a ++ faults b) (found_of a.node ++ found_of b.node)
pair_added s0 s1 s2 v w a b h k = behind s0 s1 s2 (faults a) (faults b) (found_of a.node) (found_of b.node) h.added k.added

by_two : (a b : Out) (v w : Verdict) (row : Gives → Gives → Verdict) → v ≡ a.verdict → w ≡ b.verdict → two_parts (type_of v) (type_of w) row ≡ two_parts (gives a) (gives b) row
by_two a b v w row h k = ap (λ (u : Verdict). two_parts (type_of u) (type_of w) row) h ∙ ap (λ (u : Verdict). two_parts (gives a) (type_of u) row) k

pub relation_checked : (path : Scopes) (p f : Place) (op : RelOp) (a b : tree.Phrase) (s0 s2 : Log) (v w u : Verdict) → PairChecked path s0 s2 v w a b → u ≡ two_parts (type_of v) (type_of w) (relation_row op p) → Checked s0 s2 u (typed_kind path p f (tree.Relation op a b))
relation_checked path p f op a b s0 s2 v w u h e = record {
  added = pair_added s0 h.between s2 v w (typed_phrase path a) (typed_phrase path b) h.first h.second;
  verdict = e ∙ by_two (typed_phrase path a) (typed_phrase path b) v w (relation_row op p) h.first.verdict h.second.verdict;
}

pub while_checked : (path : Scopes) (p f : Place) (a b : tree.Phrase) (s0 s2 : Log) (v w u : Verdict) → PairChecked path s0 s2 v w a b → u ≡ two_parts (type_of v) (type_of w) (while_row p) → Checked s0 s2 u (typed_kind path p f (tree.WhileDo a b))
while_checked path p f a b s0 s2 v w u h e = record {
  added = pair_added s0 h.between s2 v w (typed_phrase path a) (typed_phrase path b) h.first h.second;
  verdict = e ∙ by_two (typed_phrase path a) (typed_phrase path b) v w (while_row p) h.first.verdict h.second.verdict;
}

-- a test of a class, whose name has this fault
pub is_checked : (path : Scopes) (p f : Place) (a : tree.Phrase) (x : tree.Placed) (s0 s1 s2 s3 : Log) (v r : Verdict) → Noted s0 s1 v (typed_phrase path a) → s2.faults.items ≡ s1.faults.items ++ class_fault x (declared path x.0) → seen s2 ≡ seen s1
    → Adds s2 s3 [] (Name (target (declared path x.0)) ∷ []) → (y : Option (Entry Known)) → y ≡ declared path x.0 → r ≡ class_stated (class_fault x y) (meaning_of y) (part (type_of v) (is_row p)) → Checked s0 s3 r (typed_kind path p f (tree.IsClass a x.0 x.1))
is_checked path p f a x s0 s1 s2 s3 v r h d k n y same e =
    let o : Out = typed_phrase path a in
    let c : Option (Entry Known) = declared path x.0 in
    let found : List Found = Name (target c) ∷ [] in
    record {
      added = behind s0 s1 s3 (faults o) (class_fault x c) (found_of o.node) found h.added (as_well s1 s3 (class_fault x c ++ []) (class_fault x c) found found (append-nil (class_fault x c)) refl (behind s1 s2 s3 (class_fault x c) [] [] found (faults_alone s1 s2 (class_fault x c) d k) n));
      verdict = e ∙ ap (λ (z : Option (Entry Known)). class_stated (class_fault x z) (meaning_of z) (part (type_of v) (is_row p))) same ∙ ap (λ (u : Verdict). class_stated (class_fault x c) (meaning_of c) (part (type_of u) (is_row p))) h.verdict;
    }

-- ---- four parts

-- a FOR over a range with a step or none, whose parts and body have these verdicts
pub range_checked : (path : Scopes) (p f : Place) (x : List ℕ) (s0 s3 s4 : Log) (range : Range) (a : tree.Phrase) (s : tree.Perhaps) (b c : tree.Phrase) (w r : Verdict)
    → RangeChecked path s0 s3 range a s b → Noted s3 s4 w (typed_phrase (control_scope p x ∷ path) c) → r ≡ all_parts (range_given range) (λ gs. part (type_of w) (for_row p gs)) → Checked s0 s4 r (typed_kind path p f (tree.ForStep x a s b c))
range_checked path p f x s0 s3 s4 range a s b c w r h k e = by_step s (option_map view.verdict range.step) h.step refl where
  y : Out
  y = typed_phrase path a

  z : Out
  z = typed_phrase path b

  body : Out
  body = typed_phrase (control_scope p x ∷ path) c

  -- what the parts give, by the verdict of the step
  given_by : Option Verdict → List (Option Gives)
  given_by None = []
  given_by (Some v) = type_of v ∷ []

  steps : (v : Option (Result PhraseType NoType)) → step_given v ≡ given_by (option_map view.verdict v)
  steps None = refl
  steps (Some v) = refl

  row : List (Option Gives) → Verdict → Verdict
  row gs v = all_parts gs (λ all. part (type_of v) (for_row p all))

  whole : r ≡ row (gives y ∷ given_by (option_map view.verdict range.step) ++ gives z ∷ []) body.verdict
  whole = e ∙ ap (λ (q : Verdict). row (type_of q ∷ step_given range.step ++ type_of (view.verdict range.limit) ∷ []) w) h.start.verdict ∙ ap (λ (gs : List (Option Gives)). row (gives y ∷ gs ++ type_of (view.verdict range.limit) ∷ []) w) (steps range.step)
      ∙ ap (λ (q : Verdict). row (gives y ∷ given_by (option_map view.verdict range.step) ++ type_of q ∷ []) w) h.limit.verdict ∙ ap (λ (q : Verdict). row (gives y ∷ given_by (option_map view.verdict range.step) ++ gives z ∷ []) q) k.verdict

  by_step : (q : tree.Perhaps) (v : Option Verdict) → StepChecked path h.behind_start h.behind_step v q → option_map view.verdict range.step ≡ v → Checked s0 s4 r (typed_kind path p f (tree.ForStep x a q b c))
  by_step tree.Missing None g same = record {
    added = three_behind s0 h.behind_step s3 s4 (faults y) (faults z) (faults body) (found_of y.node ++ []) (found_of z.node) (found_of body.node)
        (as_well s0 h.behind_step (faults y ++ []) (faults y) (found_of y.node ++ []) (found_of y.node ++ []) (append-nil (faults y)) refl (behind s0 h.behind_start h.behind_step (faults y) [] (found_of y.node) [] h.start.added g)) h.limit.added k.added;
    verdict = whole ∙ ap (λ (o : Option Verdict). row (gives y ∷ given_by o ++ gives z ∷ []) body.verdict) same;
  }
  by_step (tree.There q) (Some v) g same =
      let t : Out = typed_phrase path q in
      record {
        added = four_behind s0 h.behind_start h.behind_step s3 s4 (faults y) (faults t) (faults z) (faults body) (found_of y.node) (found_of t.node) (found_of z.node) (found_of body.node) h.start.added g.added h.limit.added k.added;
        verdict = whole ∙ ap (λ (o : Option Verdict). row (gives y ∷ given_by o ++ gives z ∷ []) body.verdict) same ∙ ap (λ (u : Verdict). row (gives y ∷ type_of u ∷ gives z ∷ []) body.verdict) g.verdict;
      }
  by_step tree.Missing (Some v) g same = absurd g
  by_step (tree.There q) None g same = absurd g

-- ---- parts in a row

-- an empty statement of a CASE
pub empty_noted : (path : Scopes) (s : Log) (x : Part) (q : Place) → x ≡ part_in.Empty q → Noted s s (Good Statement) (typed_phrase path (part_tree x))
empty_noted path s x q is = subst (λ (y : Part). Noted s s (Good Statement) (typed_phrase path (part_tree y))) (sym is) (record { added = nothing s; verdict = refl })

pub chain_checked : (p f : Place) (s0 s1 s2 : Log) (v w : Verdict) (a : Out) (more : LinksOut) → Noted s0 s1 v a → LinksChecked s1 s2 w more → Checked s0 s2 w (chain_out p f a more)
chain_checked p f s0 s1 s2 v w a more h k = record {
  added = behind s0 s1 s2 (faults a) more.inside (found_of a.node) (found_of_links more.links) h.added k.added;
  verdict = k.verdict;
}

pub chain_found : {E : Type 0} (r : Result (Result PhraseType NoType) E) (path : Scopes) (p f : Place) (a : tree.Phrase) (links : tree.Links) (s0 s1 s2 : Log) (v u : Verdict) → u ≡ as_verdict (gives (typed_phrase path a)) → Noted s0 s1 v (typed_phrase path a)
    → IfOk r (λ w. LinksChecked s1 s2 (view.verdict w) (typed_links path u links)) → IsChecked r s0 s2 (typed_kind path p f (tree.Chain a links))
chain_found r path p f a links s0 s1 s2 v u e h k =
    let o : Out = typed_phrase path a in
    let more : LinksOut = typed_links path (as_verdict (gives o)) links in
    IfOk-weaker r (λ (w : Result PhraseType NoType). LinksChecked s1 s2 (view.verdict w) more) (λ (w : Result PhraseType NoType). Checked s0 s2 (view.verdict w) (chain_out p f o more))
    (λ (w : Result PhraseType NoType) l. chain_checked p f s0 s1 s2 v (view.verdict w) o more h l) (subst (λ (x : Verdict). IfOk r (λ w. LinksChecked s1 s2 (view.verdict w) (typed_links path x links))) e k)

pub case_value_checked : (p f : Place) (s0 s1 s2 : Log) (v r : Verdict) (all : Option (List Gives)) (a : Out) (os : PhrasesOut) → Noted s0 s1 v a → PhrasesChecked s1 s2 all os → r ≡ part (type_of v) (λ g. all_parts os.gives (case_value_row p g)) → Checked s0 s2 r (case_value_out p f a os)
case_value_checked p f s0 s1 s2 v r all a os h k e = record {
  added = behind s0 s1 s2 (faults a) os.inside (found_of a.node) (found_of_nodes os.nodes) h.added k.added;
  verdict = e ∙ ap (λ (q : Verdict). part (type_of q) (λ g. all_parts os.gives (case_value_row p g))) h.verdict;
}

pub case_do_checked : (p f : Place) (s0 s1 s2 : Log) (v r : Verdict) (all : Option Gives) (a : Out) (os : PhrasesOut) → Noted s0 s1 v a → CasesChecked s1 s2 all os → r ≡ part (type_of v) (λ g. all_parts os.gives (case_do_row p g)) → Checked s0 s2 r (case_do_out p f a os)
case_do_checked p f s0 s1 s2 v r all a os h k e = record {
  added = behind s0 s1 s2 (faults a) os.inside (found_of a.node) (found_of_nodes os.nodes) h.added k.added;
  verdict = e ∙ ap (λ (q : Verdict). part (type_of q) (λ g. all_parts os.gives (case_do_row p g))) h.verdict;
}

pub for_list_checked : (p f : Place) (s0 s1 s2 : Log) (w r : Verdict) (all : Option (List Gives)) (os : PhrasesOut) (body : Out) → PhrasesChecked s0 s1 all os → Noted s1 s2 w body → r ≡ all_parts os.gives (λ gs. part (type_of w) (for_row p gs)) → Checked s0 s2 r (for_list_out p f os body)
for_list_checked p f s0 s1 s2 w r all os body h k e = record {
  added = behind s0 s1 s2 os.inside (faults body) (found_of_nodes os.nodes) (found_of body.node) h.added k.added;
  verdict = e ∙ ap (λ (q : Verdict). all_parts os.gives (λ gs. part (type_of q) (for_row p gs))) k.verdict;
}
