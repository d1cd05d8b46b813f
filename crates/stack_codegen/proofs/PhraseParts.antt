-- The functions of single phrases: what their parts code is what they code.
use Rattle.std.proofs.Common.{◌≡◌, ℕ, ◌+◌, ◌<◌, max, Bool, [], Option, Some, None, refl, sym, ap, ◌∙◌, subst, arith}
use Rattle.std.specs.Option.{option_map}
use Rattle.std.specs.Borrow.{Bor}
use Rattle.algolw_tree.specs.declared.phrases.Op.{Op}
use Rattle.algolw_tree.specs.declared.programs.Node.{Node}
use Rattle.algolw_typing.specs.Typed as typed
use Rattle.program_meaning.specs.Phrases.{Phrase, Assign, Binary, Empty, IfThen}
use Rattle.program_meaning.specs.Translating as translating
use Rattle.phrase_code.specs.Coding.{is_none}
use Rattle.phrase_code.specs.Marks.{marks}
use Rattle.stack_code.specs.Making.{with_replaced}
use Rattle.stack_code.specs.CodeView.{CodeFits, CodeView, KindsFit, kind_view, kinds_view, statement_view}
use Rattle.stack_code.specs.declared.instructions.Instr.{Instr}
use Rattle.stack_code.specs.declared.instructions.Instr.TheVariants as held
use Rattle.stack_code.specs.declared.instructions.Mode.{Mode}
use Rattle.stack_code.specs.declared.instructions.Mode.TheVariants as mode
use Rattle.symbol_table.specs.declared.here.Here.{Here}
use Rattle.symbol_table.specs.Contexts.{Scene, numbers_in, phrase_context}
use Rattle.symbol_table.specs.Heres.{in_statement, type_given, variable_type}
use Rattle.symbol_table.specs.Parts.{perhaps_in}
use Rattle.code_emitter.specs.declared.emitter.Emitter.{Emitter}
use Rattle.code_emitter.specs.Appending.{appended, begun, made_into, replaced}
use Rattle.code_emitter.specs.Parts.{CodesPhrase, code_at, next, phrase_in, scene}
use Rattle.code_emitter.proofs.Emitting.{next_appended, next_replaced}
use Rattle.code_emitter.proofs.Joining.{codes_as, next_phrase}
use Rattle.code_emitter.proofs.Lines.{assign_codes, choice_alone_codes, choice_codes, choice_made_codes, if_then_codes, pair_codes, statement_codes}
use Rattle.stack_codegen.specs.Codable.{node_in, with_kind}
use Rattle.stack_codegen.specs.Operations as operations
use Rattle.stack_codegen.specs.Operations.{CodesBefore, CodesPair, CodesStatement, Continues, optional_phrase, perhaps_phrase}
use Rattle.stack_codegen.proofs.Typing.{type_given_same, variable_type_same}

-- ---- in another emitter of the same scene

pub scene_begun : (e : Emitter) (here : Here) (statement : Option ℕ) → scene (begun e here statement) ≡ scene e
scene_begun e here None = refl
scene_begun e here (Some statement) = refl

pub phrase_there : {b : Emitter} (s : Scene) (here : Here) (wanted : Mode) (f : Scene → Phrase) {c : Emitter} {m : ℕ} → scene b ≡ s → CodesPhrase b c here wanted (f (scene b)) m → CodesPhrase b c here wanted (f s) m
phrase_there {b} s here wanted f {c} {m} e = subst (λ (t : Scene). CodesPhrase b c here wanted (f t) m) e

pub before_there : {b : Emitter} (s : Scene) (here : Here) (f : Scene → Phrase) (does : Instr) {c : Emitter} {m : ℕ} → scene b ≡ s → CodesBefore b c here (f (scene b)) does m → CodesBefore b c here (f s) does m
before_there {b} s here f does {c} {m} e = subst (λ (t : Scene). CodesBefore b c here (f t) does m) e

-- ---- a value and an instruction

pub statement_done : {a b c : Emitter} {m : ℕ} (here : Here) (x : Option (Bor Node)) (does : Instr) → CodeFits a.code → b ≡ appended a here held.Begin → CodesBefore b c here (optional_phrase (scene b) x) does m → CodesStatement a c here (optional_phrase (scene a) x) does m
statement_done {a} {b} here x does h e part = statement_codes here (optional_phrase (scene a) x) does h e (before_there (scene a) here (λ s. optional_phrase s x) does (ap scene e) part)

pub pair_done : {a b c d : Emitter} {m n : ℕ} (here : Here) (wanted : Mode) (x : Phrase) (y : Option (Bor Node)) (does : Instr) → CodesPhrase a b here wanted x m → c ≡ appended b here held.Push → CodesBefore c d here (optional_phrase (scene c) y) does n → CodesPair a d here wanted x (optional_phrase (scene a) y) does (max m n)
pair_done {a} {b} {c} here wanted x y does first e second = pair_codes here wanted x (optional_phrase (scene a) y) does first e (before_there (scene a) here (λ s. optional_phrase s y) does (ap scene e ∙ first.stays.scene) second)

-- an operator behind two operands
binary_done : {a b : Emitter} {m : ℕ} (here : Here) (o : Op) (x y : Phrase) → CodesPair a b here mode.Value x y (held.Binary o) m → CodesPhrase a b here mode.Value (Binary o x y) m
binary_done {a} here o x y part = codes_as (code_at (scene a) here mode.Value (next a) (Binary o x y)) (marks (Binary o x y)) (λ ts h. refl) refl part

-- an operand behind another
pub operand_done : {a b c : Emitter} {m : ℕ} (here : Here) (o : Op) (y : Option (Bor Node)) → b ≡ appended a here held.Push → CodesBefore b c here (optional_phrase (scene b) y) (held.Binary o) m → (n : ℕ) → Continues a c here mode.Value (λ x. Binary o x (optional_phrase (scene a) y)) n (max n m)
operand_done {a} {b} {c} {m} here o y e second n first x part = subst (λ (s : Scene). CodesPhrase first c here mode.Value (Binary o x (optional_phrase s y)) (max n m)) (sym part.stays.scene) (binary_done here o x (optional_phrase (scene first) y) (pair_done here mode.Value x y (held.Binary o) part e second))

-- ---- a choice

pub branches_done : {a b c d e f g : Emitter} {m n : ℕ} (here : Here) (y z : Scene → Phrase) → b ≡ appended a here (held.JumpUnless 0) → CodesPhrase b c here mode.Value (y (scene b)) m → d ≡ appended c here (held.Jump 0) → e ≡ replaced d (next a) (held.JumpUnless (next c + 1)) → CodesPhrase e f here mode.Value (z (scene e)) n → g ≡ replaced f (next c) (held.Jump (next f))
    → (k : ℕ) → Continues a g here mode.Value (λ x. operations.choice x (y (scene a)) (z (scene a))) k (max k (max m n))
branches_done {a} {b} {c} {d} {e} here y z qb then qd qe otherwise qg k first x part =
    let to_then : scene b ≡ scene a = ap scene qb in
    let first_there : scene c ≡ scene a = then.stays.scene ∙ to_then in
    let to_otherwise : scene e ≡ scene a = ap scene qe ∙ ap scene qd ∙ first_there in
    choice_alone_codes here mode.Value x (y (scene a)) (z (scene a))
    (choice_codes here None x (y (scene a)) (z (scene a)) tt part qb (phrase_there (scene a) here mode.Value y to_then then) qd qe (phrase_there (scene a) here mode.Value z to_otherwise otherwise) qg refl)

-- an instruction that is put right
pub put_right : (d : Emitter) (k : CodeView) (i j : Instr) (n at : ℕ) → k ≡ with_replaced d.code n i → n ≡ at → i ≡ j → record d { code = k } ≡ replaced d at j
put_right d k i j n at q p e = ap (λ (x : CodeView). let f : Emitter = record d { code = x } in f) (q ∙ ap (λ y. with_replaced d.code y i) p ∙ ap (with_replaced d.code at) e)

-- where the jumps stand
pub first_jump_there : (a b c d : Emitter) {m : ℕ} (here : Here) (first second : Instr) (x : Phrase) → b ≡ appended a here first → CodesPhrase b c here mode.Value x m → d ≡ appended c here second → next a < next d
first_jump_there a b c d here first second x qb part qd =
    let p : next b ≡ next a + 1 = ap next qb ∙ next_appended a here first in
    let q = next_phrase (scene b) here mode.Value x [] refl part in
    let r : next d ≡ next c + 1 = ap next qd ∙ next_appended c here second in
    omega (arith, p, q, r)

pub second_jump_there : (c d e f : Emitter) {m : ℕ} (here : Here) (n : ℕ) (first second : Instr) (x : Phrase) → d ≡ appended c here second → e ≡ replaced d n first → CodesPhrase e f here mode.Value x m → next c < next f
second_jump_there c d e f here n first second x qd qe part =
    let p : next d ≡ next c + 1 = ap next qd ∙ next_appended c here second in
    let q : next e ≡ next d = ap next qe ∙ next_replaced d n first in
    let r = next_phrase (scene e) here mode.Value x [] refl part in
    omega (arith, p, q, r)

-- ---- an assignment

value_given : (s : Scene) (a : Node) → translating.value_type (typed.gives (node_in a s)) ≡ kind_view s.given (variable_type a.gives)
value_given s a = variable_type_same s a.gives

pub assign_done : {a b c : Emitter} {m : ℕ} (here : Here) (node x y : Node) (alone : Bool) → alone ≡ is_none (option_map (statement_view a.code.given) node.statement) → CodeFits a.code → b ≡ begun a here node.statement → scene b ≡ scene a
    → CodesPair b c (in_statement here node.statement) mode.Place (phrase_in (scene b) (node_in x (scene b))) (phrase_in (scene b) (node_in y (scene b))) (held.Assign (variable_type x.gives) alone) m
    → CodesPhrase a c here mode.Value (phrase_in (scene a) (with_kind node (λ s. typed.Assign (node_in x s) (node_in y s)) (scene a))) m
assign_done {a} {b} {c} {m} here node x y alone q h e there part =
    let s : Scene = scene a in
    let p : Phrase = phrase_in s (node_in x s) in
    let r : Phrase = phrase_in s (node_in y s) in
    let moved : CodesPair b c (in_statement here node.statement) mode.Place p r (held.Assign (variable_type x.gives) alone) m =
    subst (λ (t : Scene). CodesPair b c (in_statement here node.statement) mode.Place (phrase_in t (node_in x t)) (phrase_in t (node_in y t)) (held.Assign (variable_type x.gives) alone) m) there part in
    subst (λ t. CodesPhrase a c here mode.Value (Assign (option_map (statement_view s.given) node.statement) t p r) m) (sym (value_given s x))
    (assign_codes here mode.Value node.statement (variable_type x.gives) p r alone q h e moved)

-- ---- an IF

perhaps_same : (s : Scene) (b : Option (Bor Node)) → perhaps_phrase s b held.Nothing ≡ translating.perhaps_of (phrase_context s) Empty (perhaps_in (numbers_in s) b)
perhaps_same s None = refl
perhaps_same s (Some b) = refl

pub if_done : {a b c d e : Emitter} {m : ℕ} (n : ℕ) (here : Here) (node x y : Node) (z : Option (Bor Node)) → CodeFits a.code → KindsFit a.code.given (type_given node.gives) → b ≡ begun a here node.statement → scene b ≡ scene a
    → CodesPhrase b c (in_statement here node.statement) mode.Value (phrase_in (scene b) (node_in x (scene b))) m
    → ((k : ℕ) → Continues c d (in_statement here node.statement) mode.Value (λ p. operations.choice p (phrase_in (scene c) (node_in y (scene c))) (perhaps_phrase (scene c) z held.Nothing)) k (max k n))
    → e ≡ made_into d (in_statement here node.statement) (type_given node.gives)
    → CodesPhrase a e here mode.Value (phrase_in (scene a) (with_kind node (λ s. typed.IfThen (node_in x s) (node_in y s) (perhaps_in (numbers_in s) z)) (scene a))) (max m n)
if_done {a} {b} {c} {d} {e} {m} n here node x y z h fits q there first more made =
    let s : Scene = scene a in
    let inner : Here = in_statement here node.statement in
    let p : Phrase = phrase_in s (node_in x s) in
    let r : Phrase = phrase_in s (node_in y s) in
    let t : Phrase = perhaps_phrase s z held.Nothing in
    let condition : CodesPhrase b c inner mode.Value p m = phrase_there s inner mode.Value (λ u. phrase_in u (node_in x u)) there first in
    let at : scene c ≡ s = condition.stays.scene ∙ there in
    let chosen : CodesPhrase b d inner mode.Value (operations.choice p r t) (max m n) =
    subst (λ (u : Scene). CodesPhrase b d inner mode.Value (operations.choice p (phrase_in u (node_in y u)) (perhaps_phrase u z held.Nothing)) (max m n)) at (more m b p condition) in
    let whole = if_then_codes here mode.Value node.statement (type_given node.gives) p r t h q
    (choice_made_codes inner mode.Value (type_given node.gives) p r t (subst (λ (u : Scene). KindsFit u.given (type_given node.gives)) (sym there) fits) chosen made) in
    subst (λ u. CodesPhrase a e here mode.Value (IfThen (option_map (statement_view s.given) node.statement) u p r (translating.perhaps_of (phrase_context s) Empty (perhaps_in (numbers_in s) z))) (max m n)) (sym (type_given_same s node.gives))
    (subst (λ u. CodesPhrase a e here mode.Value (IfThen (option_map (statement_view s.given) node.statement) (kinds_view s.given (type_given node.gives)) p r u) (max m n)) (perhaps_same s z) whole)
