-- Loops: what is known of them is known of their parts, and when their parts are coded they are.
use Rattle.std.proofs.Common.{◌≡◌, ℕ, ◌+◌, ◌<◌, max, List, ◌++◌, length, Option, Some, None, pos, refl, sym, ap, ◌∙◌, subst}
use Rattle.std.specs.Option.{option_map}
use Rattle.std.specs.Borrow.{Bor}
use Rattle.value_ops.specs.declared.places.Place.{Place}
use Rattle.value_ops.specs.declared.values.Value.TheVariants as value
use Rattle.algolw_tree.specs.declared.programs.Node.{Node}
use Rattle.algolw_typing.specs.ProgramView.{numbered}
use Rattle.algolw_typing.specs.Typed as typed
use Rattle.program_meaning.specs.Phrases as phrases
use Rattle.program_meaning.specs.Phrases.{Phrase, Phrases}
use Rattle.program_meaning.specs.Translating as translating
use Rattle.program_meaning.specs.Translating.{statement_at}
use Rattle.program_soundness.specs.Tables.{Info, control_info, infos, nodes_infos}
use Rattle.phrase_code.specs.Coding as coding
use Rattle.phrase_code.specs.Coding.{Context}
use Rattle.phrase_code.specs.Marks.{marks, phrases_marks}
use Rattle.compilable_programs.specs.Begun.{IsStatement}
use Rattle.stack_code.specs.CodeView.{mode_view, text_view}
use Rattle.stack_code.specs.declared.instructions.Constant.TheVariants as constant
use Rattle.stack_code.specs.declared.instructions.Instr.TheVariants as held
use Rattle.stack_code.specs.declared.instructions.Mode.{Mode}
use Rattle.stack_code.specs.declared.instructions.Mode.TheVariants as mode
use Rattle.symbol_table.specs.declared.here.Here.{Here}
use Rattle.symbol_table.specs.Contexts.{AreFresh, Scene, coding_context, numbers_in, phrase_context}
use Rattle.symbol_table.specs.Heres.{in_statement}
use Rattle.symbol_table.specs.Parts.{nodes_in, perhaps_in}
use Rattle.symbol_table.proofs.Fresh.{fresh_left, fresh_right}
use Rattle.symbol_table.proofs.Knowing.{name_known}
use Rattle.code_emitter.specs.declared.emitter.Emitter.{Emitter}
use Rattle.code_emitter.specs.Appending.{appended, replaced}
use Rattle.code_emitter.specs.Forms.{turn}
use Rattle.code_emitter.specs.Parts.{Codes, CodesPhrase, code_at, next, none_own, phrase_in, place_in, scene}
use Rattle.code_emitter.proofs.Emitting.{next_appended}
use Rattle.code_emitter.proofs.Joining.{codes_as}
use Rattle.code_emitter.proofs.Loops.{for_list_codes, for_step_codes, while_codes}
use Rattle.stack_codegen.specs.Blocks.{CodesTurn, CodesValues, IsCodableTurn, control_name, nodes_phrase, turn_phrase}
use Rattle.stack_codegen.specs.Codable.{CodesNode, IsCodable, IsCodableNodes, IsCodablePerhaps, node_in, with_kind}
use Rattle.stack_codegen.specs.Operations.{CodesBefore, perhaps_phrase}
use Rattle.stack_codegen.proofs.PhraseParts.{before_there, phrase_there}
use Rattle.stack_codegen.proofs.TurnParts.{control_named}

-- ---- statements

-- the first token of a statement, where it is one
pub stated : (s : Scene) (here : Here) (first : Place) (st : Option ℕ) → IsStatement (option_map (numbered s.given.statements) st) → place_in s (in_statement here st) ≡ statement_at first (option_map (numbered s.given.statements) st)
stated s here first None h = absurd h
stated s here first (Some n) h = refl

-- a phrase whose code tells its own statement
at_statement : {a b : Emitter} {m : ℕ} (here : Here) (wanted : Mode) (st : Option ℕ) (x : Phrase) → ((c : Context) (v w : Place) (k : ℕ) → coding.code c v (mode_view wanted) k x ≡ coding.code c w (mode_view wanted) k x) → CodesPhrase a b (in_statement here st) wanted x m → CodesPhrase a b here wanted x m
at_statement here wanted None x same part = part
at_statement {a} here wanted (Some n) x same part = codes_as (code_at (scene a) here wanted (next a) x) _ (λ ts h. same (coding_context (scene a) ts here) _ _ (next a)) refl part

pub codes_stated : {a b : Emitter} {m : ℕ} (here inner : Here) (wanted : Mode) (st : Option ℕ) (x : Phrase) → ((c : Context) (v w : Place) (k : ℕ) → coding.code c v (mode_view wanted) k x ≡ coding.code c w (mode_view wanted) k x) → inner ≡ in_statement here st → CodesPhrase a b inner wanted x m → CodesPhrase a b here wanted x m
codes_stated {a} {b} {m} here inner wanted st x same q part = at_statement here wanted st x same (subst (λ (h : Here). CodesPhrase a b h wanted x m) q part)

-- ---- a WHILE

module _ (e : Emitter) (n : Node) where
  abbrev Begins : Type 0
  Begins = IsStatement (option_map (numbered (scene e).given.statements) n.statement)

  pub while_ready : (c a : Scene → typed.Node) → IsCodable e (with_kind n (λ s. typed.WhileDo (c s) (a s))) → Begins × IsCodable e c × IsCodable e a
  while_ready c a r =
      let s : Scene = scene e in (
        r.begun.0,
        record { fits = r.fits; fresh = fresh_left s (infos (c s)) (infos (a s)) r.fresh; knows = r.knows.1.0; begun = r.begun.1; suits = r.suits.0 },
        record { fits = r.fits; fresh = fresh_right s (infos (c s)) (infos (a s)) r.fresh; knows = r.knows.1.1; begun = r.begun.2; suits = r.suits.1 },
      )

  -- ---- a FOR

  -- declarations in its body, and its control name
  abbrev turn_infos : ℕ → Node → Scene → List Info
  turn_infos x body s = control_info (numbered (numbers_in s).names x) ++ infos (node_in body s)

  pub list_ready : (x : ℕ) (values : List Node) (body : Node) → IsCodable e (with_kind n (λ s. typed.ForList (numbered (numbers_in s).names x) (nodes_in (numbers_in s) values) (node_in body s))) → Begins × IsCodableNodes e values × IsCodableTurn e x body
  list_ready x values body r =
      let s : Scene = scene e in (
        r.begun.0,
        record { fits = r.fits; fresh = fresh_left s (nodes_infos (nodes_in (numbers_in s) values)) (turn_infos x body s) r.fresh; knows = r.knows.1.1; begun = r.begun.1; suits = r.suits.0 },
        record { fits = r.fits; fresh = fresh_right s (nodes_infos (nodes_in (numbers_in s) values)) (turn_infos x body s) r.fresh; knows = (r.knows.1.0, r.knows.1.2); begun = r.begun.2; suits = r.suits.1 },
      )

  abbrev StepReady : ℕ → Node → Option (Bor Node) → Node → Node → Type 0
  StepReady x a b c body = Begins × IsCodable e (node_in a) × IsCodablePerhaps e b × IsCodable e (node_in c) × IsCodableTurn e x body

  pub step_ready : (x : ℕ) (a : Node) (b : Option (Bor Node)) (c body : Node) → IsCodable e (with_kind n (λ s. typed.ForStep (numbered (numbers_in s).names x) (node_in a s) (perhaps_in (numbers_in s) b) (node_in c s) (node_in body s))) → StepReady x a b c body
  step_ready x a None c body r =
      let s : Scene = scene e in
      let behind : AreFresh s (infos (node_in c s) ++ turn_infos x body s) = fresh_right s (infos (node_in a s)) (infos (node_in c s) ++ turn_infos x body s) r.fresh in (
        r.begun.0,
        record { fits = r.fits; fresh = fresh_left s (infos (node_in a s)) (infos (node_in c s) ++ turn_infos x body s) r.fresh; knows = r.knows.1.1; begun = r.begun.1; suits = r.suits.0 },
        r.fits,
        record { fits = r.fits; fresh = fresh_left s (infos (node_in c s)) (turn_infos x body s) behind; knows = r.knows.1.3; begun = r.begun.3; suits = r.suits.2 },
        record { fits = r.fits; fresh = fresh_right s (infos (node_in c s)) (turn_infos x body s) behind; knows = (r.knows.1.0, r.knows.1.4); begun = r.begun.4; suits = r.suits.3 },
      )
  step_ready x a (Some b) c body r =
      let s : Scene = scene e in
      let more : AreFresh s (infos (node_in b.now s) ++ (infos (node_in c s) ++ turn_infos x body s)) = fresh_right s (infos (node_in a s)) (infos (node_in b.now s) ++ (infos (node_in c s) ++ turn_infos x body s)) r.fresh in
      let behind : AreFresh s (infos (node_in c s) ++ turn_infos x body s) = fresh_right s (infos (node_in b.now s)) (infos (node_in c s) ++ turn_infos x body s) more in (
        r.begun.0,
        record { fits = r.fits; fresh = fresh_left s (infos (node_in a s)) (infos (node_in b.now s) ++ (infos (node_in c s) ++ turn_infos x body s)) r.fresh; knows = r.knows.1.1; begun = r.begun.1; suits = r.suits.0 },
        record { fits = r.fits; fresh = fresh_left s (infos (node_in b.now s)) (infos (node_in c s) ++ turn_infos x body s) more; knows = r.knows.1.2; begun = r.begun.2; suits = r.suits.1 },
        record { fits = r.fits; fresh = fresh_left s (infos (node_in c s)) (turn_infos x body s) behind; knows = r.knows.1.3; begun = r.begun.3; suits = r.suits.2 },
        record { fits = r.fits; fresh = fresh_right s (infos (node_in c s)) (turn_infos x body s) behind; knows = (r.knows.1.0, r.knows.1.4); begun = r.begun.4; suits = r.suits.3 },
      )

-- a turn is in the table of names
pub turn_in_range : (e : Emitter) (x : ℕ) (body : Node) → IsCodableTurn e x body → x < length e.code.given.names
turn_in_range e x body r = name_known (scene e) r.fits.scene x r.knows.0

-- ---- when their parts are coded

pub while_done : {a b c d e f : Emitter} {m n : ℕ} (here inner : Here) (node body : Node) (x : Node) (jump test back k : ℕ) → inner ≡ in_statement here node.statement → IsCodable a (with_kind node (λ s. typed.WhileDo (node_in x s) (node_in body s)))
    → b ≡ appended a inner held.Begin → jump ≡ next b → c ≡ appended b inner (held.Jump 0)
    → CodesPhrase c d inner mode.Value (phrase_in (scene c) (node_in body (scene c))) m
    → test ≡ next d → e ≡ replaced d jump (held.Jump test) → back ≡ jump + 1
    → CodesBefore e f inner (phrase_in (scene e) (node_in x (scene e))) (held.Again back) n
    → k ≡ max n m → CodesNode a f here mode.Value (with_kind node (λ s. typed.WhileDo (node_in x s) (node_in body s))) k
while_done {a} {b} {c} {d} {e} {f} {m} {n} here inner node body x jump test back z qi r qb qj qc first qt qe qk second qz =
    let s : Scene = scene a in
    let test_of : Phrase = phrase_in s (node_in x s) in
    let body_of : Phrase = phrase_in s (node_in body s) in
    let to_c : scene c ≡ s = ap scene qc ∙ ap scene qb in
    let to_e : scene e ≡ s = ap scene qe ∙ first.stays.scene ∙ to_c in
    let put : e ≡ replaced d (next b) (held.Jump (next d)) = qe ∙ ap (λ k. replaced d k (held.Jump test)) qj ∙ ap (λ k. replaced d (next b) (held.Jump k)) qt in
    let last : CodesBefore e f inner test_of (held.Again (next b + 1)) n =
    subst (λ k. CodesBefore e f inner test_of (held.Again k) n) (qk ∙ ap (λ k. k + 1) qj) (before_there s inner (λ u. phrase_in u (node_in x u)) (held.Again back) to_e second) in
    subst (λ k. CodesPhrase a f here mode.Value (phrases.WhileDo (statement_at node.first (option_map (numbered s.given.statements) node.statement)) test_of body_of) k) (sym qz)
    (subst (λ p. CodesPhrase a f here mode.Value (phrases.WhileDo p test_of body_of) (max n m)) (ap (place_in s) qi ∙ stated s here node.first node.statement r.begun.0)
    (codes_stated here inner mode.Value node.statement (phrases.WhileDo (place_in s inner) test_of body_of) (λ k v w l. refl) qi
    (while_codes inner mode.Value test_of body_of r.fits.code qb qc (phrase_there s inner mode.Value (λ u. phrase_in u (node_in body u)) to_c first) put last)))

-- what a FOR has for a step that isn't written
step_same : (s : Scene) (b : Option (Bor Node)) → perhaps_phrase s b (held.Constant (constant.Integer (pos 1))) ≡ translating.perhaps_of (phrase_context s) (phrases.Constant (value.Integer (pos 1))) (perhaps_in (numbers_in s) b)
step_same s None = refl
step_same s (Some b) = refl

turn_there : {b : Emitter} (s : Scene) (here : Here) (x : ℕ) (body : Node) {c : Emitter} {m : ℕ} → scene b ≡ s → CodesTurn b c here x body m → Codes none_own b c (turn here (control_name s x) (turn_phrase s x body) (scene b) (next b)) (1 + marks (turn_phrase s x body)) m
turn_there {b} s here x body {c} {m} e = subst (λ (u : Scene). Codes none_own b c (turn here (control_name u x) (turn_phrase u x body) (scene b) (next b)) (1 + marks (turn_phrase u x body)) m) e

pub step_done : {a b d e f h i j l o r : Emitter} {m n p q : ℕ} (here inner : Here) (node : Node) (x : ℕ) (start : Node) (step : Option (Bor Node)) (limit : Node) (body : Node) (first target behind z : ℕ) → inner ≡ in_statement here node.statement
    → IsCodable a (with_kind node (λ s. typed.ForStep (numbered (numbers_in s).names x) (node_in start s) (perhaps_in (numbers_in s) step) (node_in limit s) (node_in body s)))
    → b ≡ appended a inner held.Begin
    → CodesBefore b d inner (phrase_in (scene b) (node_in start (scene b))) held.Push m
    → CodesPhrase d e inner mode.Value (perhaps_phrase (scene d) step (held.Constant (constant.Integer (pos 1)))) n
    → f ≡ appended e inner held.Push
    → CodesBefore f h inner (phrase_in (scene f) (node_in limit (scene f))) held.Push p
    → first ≡ next h → i ≡ appended h inner (held.FirstTurn 0)
    → target ≡ next i → j ≡ appended i inner (held.Turn x)
    → CodesTurn j l inner x body q
    → o ≡ appended l inner (held.NextTurn target inner.entries)
    → behind ≡ next l + 1 → r ≡ replaced o first (held.FirstTurn behind)
    → z ≡ max m (max n (max p q)) → CodesNode a r here mode.Value (with_kind node (λ s. typed.ForStep (numbered (numbers_in s).names x) (node_in start s) (perhaps_in (numbers_in s) step) (node_in limit s) (node_in body s))) z
step_done {a} {b} {d} {e} {f} {h} {i} {j} {l} {o} {r} {m} {n} {p} {q} here inner node x start step limit body first target behind z qn k qb c1 c2 qf c3 q1 qi q2 qj c4 qo q3 qr qz =
    let s : Scene = scene a in
    let start_of : Phrase = phrase_in s (node_in start s) in
    let step_of : Phrase = perhaps_phrase s step (held.Constant (constant.Integer (pos 1))) in
    let limit_of : Phrase = phrase_in s (node_in limit s) in
    let body_of : Phrase = turn_phrase s x body in
    let v : phrases.Name = control_name s x in
    let to_b : scene b ≡ s = ap scene qb in
    let to_d : scene d ≡ s = c1.stays.scene ∙ to_b in
    let to_f : scene f ≡ s = ap scene qf ∙ c2.stays.scene ∙ to_d in
    let to_j : scene j ≡ s = ap scene qj ∙ ap scene qi ∙ c3.stays.scene ∙ to_f in
    let turning : o ≡ appended l inner (held.NextTurn (next i) inner.entries) = qo ∙ ap (λ t. appended l inner (held.NextTurn t inner.entries)) q2 in
    let put : r ≡ replaced o (next h) (held.FirstTurn (next l + 1)) = qr ∙ ap (λ t. replaced o t (held.FirstTurn behind)) q1 ∙ ap (λ t. replaced o (next h) (held.FirstTurn t)) q3 in
    let ready = step_ready a node x start step limit body k in
    let text : text_view s.given x ≡ v.text = sym (ap (λ (y : phrases.Name). y.text) (control_named s x k.fits.scene k.knows.1.0)) in
    subst (λ y. CodesPhrase a r here mode.Value (phrases.ForStep (statement_at node.first (option_map (numbered s.given.statements) node.statement)) v start_of y limit_of body_of) z) (step_same s step)
    (subst (λ k. CodesPhrase a r here mode.Value (phrases.ForStep (statement_at node.first (option_map (numbered s.given.statements) node.statement)) v start_of step_of limit_of body_of) k) (sym qz)
    (subst (λ w. CodesPhrase a r here mode.Value (phrases.ForStep w v start_of step_of limit_of body_of) (max m (max n (max p q)))) (ap (place_in s) qn ∙ stated s here node.first node.statement k.begun.0)
    (codes_stated here inner mode.Value node.statement (phrases.ForStep (place_in s inner) v start_of step_of limit_of body_of) (λ t y w g. refl) qn
    (for_step_codes inner mode.Value x v start_of step_of limit_of body_of k.fits.code (turn_in_range a x body ready.4) text qb
    (before_there s inner (λ u. phrase_in u (node_in start u)) held.Push to_b c1)
    (phrase_there s inner mode.Value (λ u. perhaps_phrase u step (held.Constant (constant.Integer (pos 1)))) to_d c2) qf
    (before_there s inner (λ u. phrase_in u (node_in limit u)) held.Push to_f c3) qi qj
    (turn_there s inner x body to_j c4) turning put))))

values_there : {b : Emitter} (s : Scene) (here : Here) (x body : ℕ) (values : List Node) {c : Emitter} {m : ℕ} → scene b ≡ s → CodesValues b c here x body values m → Codes none_own b c (λ ts. coding.code_list (coding_context (scene b) ts here) (place_in (scene b) here) (control_name s x) body (next b) (nodes_phrase s values)) (phrases_marks (nodes_phrase s values)) m
values_there {b} s here x body values {c} {m} e = subst (λ (u : Scene). Codes none_own b c (λ ts. coding.code_list (coding_context (scene b) ts here) (place_in (scene b) here) (control_name u x) body (next b) (nodes_phrase u values)) (phrases_marks (nodes_phrase u values)) m) e

pub list_done : {a b c d e f g h : Emitter} {m n : ℕ} (here inner : Here) (node : Node) (x : ℕ) (values : List Node) (body : Node) (jump target to z : ℕ) → inner ≡ in_statement here node.statement
    → IsCodable a (with_kind node (λ s. typed.ForList (numbered (numbers_in s).names x) (nodes_in (numbers_in s) values) (node_in body s)))
    → b ≡ appended a inner held.Begin → jump ≡ next b → c ≡ appended b inner (held.Jump 0)
    → target ≡ jump + 1 → CodesTurn c d inner x body m
    → e ≡ appended d inner (held.EndTurn inner.entries)
    → to ≡ next e → f ≡ replaced e jump (held.Jump to)
    → CodesValues f g inner x target values n
    → h ≡ appended g inner held.Nothing
    → z ≡ max n m → CodesNode a h here mode.Value (with_kind node (λ s. typed.ForList (numbered (numbers_in s).names x) (nodes_in (numbers_in s) values) (node_in body s))) z
list_done {a} {b} {c} {d} {e} {f} {g} {h} {m} {n} here inner node x values body jump target to z qi k qb q1 qc q2 c1 qe q3 qf c2 qh qz =
    let s : Scene = scene a in
    let values_of : Phrases = nodes_phrase s values in
    let body_of : Phrase = turn_phrase s x body in
    let v : phrases.Name = control_name s x in
    let to_c : scene c ≡ s = ap scene qc ∙ ap scene qb in
    let to_f : scene f ≡ s = ap scene qf ∙ ap scene qe ∙ c1.stays.scene ∙ to_c in
    let put : f ≡ replaced e (next b) (held.Jump (next e)) = qf ∙ ap (λ t. replaced e t (held.Jump to)) q1 ∙ ap (λ t. replaced e (next b) (held.Jump t)) q3 in
    let at_body : target ≡ next c = q2 ∙ ap (λ t. t + 1) q1 ∙ sym (ap next qc ∙ next_appended b inner (held.Jump 0)) in
    let listed : Codes none_own f g (λ ts. coding.code_list (coding_context (scene f) ts inner) (place_in (scene f) inner) v (next c) (next f) values_of) (phrases_marks values_of) n =
    subst (λ t. Codes none_own f g (λ ts. coding.code_list (coding_context (scene f) ts inner) (place_in (scene f) inner) v t (next f) values_of) (phrases_marks values_of) n) at_body (values_there s inner x target values to_f c2) in
    subst (λ k. CodesPhrase a h here mode.Value (phrases.ForList (statement_at node.first (option_map (numbered s.given.statements) node.statement)) v values_of body_of) k) (sym qz)
    (subst (λ w. CodesPhrase a h here mode.Value (phrases.ForList w v values_of body_of) (max n m)) (ap (place_in s) qi ∙ stated s here node.first node.statement k.begun.0)
    (codes_stated here inner mode.Value node.statement (phrases.ForList (place_in s inner) v values_of body_of) (λ t y w g. refl) qi
    (for_list_codes inner mode.Value v values_of body_of k.fits.code qb qc (turn_there s inner x body to_c c1) qe put listed qh)))
