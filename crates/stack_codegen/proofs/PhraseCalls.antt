-- What the functions of single phrases require of each other, and what each codes.
use Rattle.std.proofs.Common.{◌≡◌, ℕ, max, Bool, true, false, not, List, Option, Some, None, is_none, is_some, refl, sym, ap, ◌∙◌, subst}
use Rattle.std.specs.Option.{option_map}
use Rattle.std.specs.Borrow.{Bor}
use Rattle.value_ops.specs.declared.places.Place.{Place}
use Rattle.value_ops.specs.declared.values.SimpleType.{SimpleType}
use Rattle.value_ops.specs.declared.values.Value.TheVariants as value
use Rattle.algolw_tree.specs.declared.phrases.Op.{Op}
use Rattle.algolw_tree.specs.declared.phrases.Op.TheVariants as op
use Rattle.algolw_tree.specs.declared.programs.Node.{Node}
use Rattle.algolw_tree.specs.declared.programs.TypedLink.{TypedLink}
use Rattle.algolw_typing.specs.Typed as typed
use Rattle.program_meaning.specs.Phrases.{Phrase, Binary, Constant}
use Rattle.program_meaning.specs.Translating.{linked}
use Rattle.phrase_code.specs.Coding as coding
use Rattle.stack_code.specs.CodeView.{CodeFits, KindsFit, statement_view}
use Rattle.stack_code.specs.declared.instructions.Constant.TheVariants as constant
use Rattle.stack_code.specs.declared.instructions.Instr.{Instr}
use Rattle.stack_code.specs.declared.instructions.Instr.TheVariants as held
use Rattle.stack_code.specs.declared.instructions.Mode.{Mode}
use Rattle.stack_code.specs.declared.instructions.Mode.TheVariants as mode
use Rattle.symbol_table.specs.declared.here.Here.{Here}
use Rattle.symbol_table.specs.Contexts.{Scene, numbers_in}
use Rattle.symbol_table.specs.Heres.{in_statement, type_given, variable_type}
use Rattle.symbol_table.specs.Parts.{links_in, perhaps_in}
use Rattle.code_emitter.specs.declared.emitter.Emitter.{Emitter}
use Rattle.code_emitter.specs.Appending.{appended, begun, made_into}
use Rattle.code_emitter.specs.Parts.{CodesPhrase, Stays, none_own, phrase_in, scene}
use Rattle.stack_codegen.specs.declared.phrases.Branch.{Branch}
use Rattle.stack_codegen.specs.Codable.{CodesNode, IsCodable, IsCodablePerhaps, node_in, with_kind}
use Rattle.stack_codegen.specs.Operations.{CodesBefore, CodesPair, CodesStatement, Continues, IsCodableBranch, branch_phrase, choice, is_logical, optional_phrase, perhaps_phrase}
use Rattle.code_emitter.specs.Operators.{deciding}
use Rattle.stack_codegen.proofs.Chains.{chained}
use Rattle.stack_codegen.proofs.Leaves.{missing_codes}
use Rattle.stack_codegen.proofs.PhraseParts.{assign_done, if_done, scene_begun, statement_done}
use Rattle.stack_codegen.proofs.Typing.{is_logical_same}

-- ---- a phrase that may be missing

pub branch_ready : (e : Emitter) (x : Branch) (n : Bor Node) → x.phrase ≡ Some n → IsCodableBranch e x → IsCodable e (node_in n.now)
branch_ready e x n q r = subst (IsCodablePerhaps e) q r.phrase

pub branch_done : {a b : Emitter} {m : ℕ} (here : Here) (wanted : Mode) (x : Branch) (n : Bor Node) → x.phrase ≡ Some n → CodesNode a b here wanted (node_in n.now) m → CodesPhrase a b here wanted (branch_phrase (scene a) x) m
branch_done {a} {b} {m} here wanted x n q part = subst (λ p. CodesPhrase a b here wanted (perhaps_phrase (scene a) p x.missing) m) (sym q) part

pub missing_done : {a b : Emitter} (here : Here) (wanted : Mode) (x : Branch) → x.phrase ≡ None → IsCodableBranch a x → CodeFits a.code → b ≡ appended a here x.missing → CodesPhrase a b here wanted (branch_phrase (scene a) x) 0
missing_done {a} {b} here wanted x q r fits e = subst (λ p. CodesPhrase a b here wanted (perhaps_phrase (scene a) p x.missing) 0) (sym q) (missing_codes here wanted x.missing r.missing fits e)

-- ---- links

pub continues_as : {a b : Emitter} (here : Here) (wanted : Mode) (f g : Phrase → Phrase) (n k : ℕ) → ((x : Phrase) → f x ≡ g x) → Continues a b here wanted f n k → Continues a b here wanted g n k
continues_as {a} {b} here wanted f g n k same more first x part = subst (λ p. CodesPhrase first b here wanted p k) (same x) (more first x part)

-- a truth value that stands for a phrase
abbrev pub truth_phrase : Bool → Phrase
truth_phrase v = Constant (value.Logical v)

constant_branch : (s : Scene) (x : Branch) (v : Bool) → x.phrase ≡ None → x.missing ≡ held.Constant (constant.Logical v) → branch_phrase s x ≡ truth_phrase v
constant_branch s x v p q = ap (λ y. perhaps_phrase s y x.missing) p ∙ ap (λ i. perhaps_phrase s None i) q

written_branch : (s : Scene) (x : Branch) (n : Bor Node) → x ≡ record { phrase = Some n; missing = held.Nothing } → branch_phrase s x ≡ phrase_in s (node_in n.now s)
written_branch s x n q = ap (branch_phrase s) q

-- how operands are linked, by what decides
linked_false : (logical : Bool) (o : Op) → deciding logical o ≡ Some false → (p r : Phrase) → linked logical o p r ≡ choice p r (truth_phrase false)
linked_false true op.And q p r = refl
linked_false logical o q p r = absurd (cc q)

linked_true : (logical : Bool) (o : Op) → deciding logical o ≡ Some true → (p r : Phrase) → linked logical o p r ≡ choice p (truth_phrase true) r
linked_true true op.Or q p r = refl
linked_true logical o q p r = absurd (cc q)

linked_none : (logical : Bool) (o : Op) → deciding logical o ≡ None → (p r : Phrase) → linked logical o p r ≡ Binary o p r
linked_none true op.And q p r = absurd (cc q)
linked_none true op.Or q p r = absurd (cc q)
linked_none logical o q p r = refl

pub and_done : {a b : Emitter} (m : ℕ) (here : Here) (logical : Bool) (o : Op) (n : Bor Node) (x y : Branch) → deciding logical o ≡ Some false → x ≡ record { phrase = Some n; missing = held.Nothing } → y.phrase ≡ None → y.missing ≡ held.Constant (constant.Logical false) → ((k : ℕ) → Continues a b here mode.Value (λ p. choice p (branch_phrase (scene a) x) (branch_phrase (scene a) y)) k (max k m)) → (k : ℕ) → Continues a b here mode.Value (λ p. linked logical o p (phrase_in (scene a) (node_in n.now (scene a)))) k (max k m)
and_done {a} m here logical o n x y q xe ye yq more k =
    continues_as here mode.Value _ _ k (max k m) (λ p. ap (λ t. choice p t (branch_phrase (scene a) y)) (written_branch (scene a) x n xe) ∙ ap (choice p (phrase_in (scene a) (node_in n.now (scene a)))) (constant_branch (scene a) y false ye yq) ∙ sym (linked_false logical o q p (phrase_in (scene a) (node_in n.now (scene a))))) (more k)

pub or_done : {a b : Emitter} (m : ℕ) (here : Here) (logical : Bool) (o : Op) (n : Bor Node) (x y : Branch) → deciding logical o ≡ Some true → x.phrase ≡ None → x.missing ≡ held.Constant (constant.Logical true) → y ≡ record { phrase = Some n; missing = held.Nothing } → ((k : ℕ) → Continues a b here mode.Value (λ p. choice p (branch_phrase (scene a) x) (branch_phrase (scene a) y)) k (max k m)) → (k : ℕ) → Continues a b here mode.Value (λ p. linked logical o p (phrase_in (scene a) (node_in n.now (scene a)))) k (max k m)
or_done {a} m here logical o n x y q xe xq ye more k =
    continues_as here mode.Value _ _ k (max k m) (λ p. ap (λ t. choice p t (branch_phrase (scene a) y)) (constant_branch (scene a) x true xe xq) ∙ ap (choice p (truth_phrase true)) (written_branch (scene a) y n ye) ∙ sym (linked_true logical o q p (phrase_in (scene a) (node_in n.now (scene a))))) (more k)

-- by another operator, or of no LOGICALs
pub link_done : {a b : Emitter} (m : ℕ) (here : Here) (logical : Bool) (o : Op) (n : Node) → deciding logical o ≡ None → ((k : ℕ) → Continues a b here mode.Value (λ p. Binary o p (phrase_in (scene a) (node_in n (scene a)))) k (max k m)) → (k : ℕ) → Continues a b here mode.Value (λ p. linked logical o p (phrase_in (scene a) (node_in n (scene a)))) k (max k m)
link_done {a} m here logical o n q more k = continues_as here mode.Value _ _ k (max k m) (λ p. sym (linked_none logical o q p (phrase_in (scene a) (node_in n (scene a))))) (more k)

-- ---- a chain

pub chain_node : {a b : Emitter} {m : ℕ} (here : Here) (wanted : Mode) (n first : Node) (links : List TypedLink) (logical : Bool) → logical ≡ is_logical n.gives → CodesPhrase a b here wanted (chained (scene a) logical (phrase_in (scene a) (node_in first (scene a))) links) m → CodesNode a b here wanted (with_kind n (λ s. typed.Chain (node_in first s) (links_in (numbers_in s) links))) m
chain_node {a} {b} {m} here wanted n first links logical q part = subst (λ by. CodesPhrase a b here wanted (chained (scene a) by (phrase_in (scene a) (node_in first (scene a))) links) m) (q ∙ sym (is_logical_same (scene a) n.gives)) part

-- ---- a statement

pub statement_coded : {a b c : Emitter} {m : ℕ} (here there : Here) (x : Option (Bor Node)) (does : Instr) → there ≡ here → CodeFits a.code → b ≡ appended a there held.Begin → CodesBefore b c there (optional_phrase (scene b) x) does m → CodesStatement a c here (optional_phrase (scene a) x) does m
statement_coded {a} {b} {c} {m} here there x does q h e part = subst (λ t. CodesStatement a c t (optional_phrase (scene a) x) does m) q (statement_done there x does h e part)

-- ---- an assignment, and an IF

-- whether it is alone, as it is tested
pub nothing_told : (st : Option ℕ) (none : Bool) → is_some st ≡ not none → none ≡ is_none st
nothing_told None true q = refl
nothing_told None false q = absurd (cc q)
nothing_told (Some n) true q = absurd (cc q)
nothing_told (Some n) false q = refl

-- what stays behind a condition and its branches
pub chosen_stays : {b c d : Emitter} {m : ℕ} (n : ℕ) (here : Here) (x : Phrase) (u v : Branch) → CodesPhrase b c here mode.Value x m → ((k : ℕ) → Continues c d here mode.Value (λ p. choice p (branch_phrase (scene c) u) (branch_phrase (scene c) v)) k (max k n)) → Stays none_own b d
chosen_stays {b} {c} {d} {m} n here x u v first more = (more m b x first).stays

statement_none : (f : ℕ → Place) (st : Option ℕ) → is_none st ≡ coding.is_none (option_map f st)
statement_none f None = refl
statement_none f (Some n) = refl

pub assignment_coded : {a b c : Emitter} {m : ℕ} (here there : Here) (node x y : Node) (t : SimpleType) (alone : Bool) → there ≡ in_statement here node.statement → t ≡ variable_type x.gives → alone ≡ is_none node.statement → CodeFits a.code → b ≡ begun a here node.statement
    → CodesPair b c there mode.Place (phrase_in (scene b) (node_in x (scene b))) (phrase_in (scene b) (node_in y (scene b))) (held.Assign t alone) m
    → CodesNode a c here mode.Value (with_kind node (λ s. typed.Assign (node_in x s) (node_in y s))) m
assignment_coded {a} {b} {c} {m} here there node x y t alone q p o h e part =
    let p1 = phrase_in (scene b) (node_in x (scene b)) in
    let p2 = phrase_in (scene b) (node_in y (scene b)) in
    assign_done here node x y alone (o ∙ statement_none (statement_view a.code.given) node.statement) h e (ap scene e ∙ scene_begun a here node.statement)
    (subst (λ u. CodesPair b c (in_statement here node.statement) mode.Place p1 p2 (held.Assign u alone) m) p (subst (λ w. CodesPair b c w mode.Place p1 p2 (held.Assign t alone) m) q part))

pub if_then_coded : {a b c d e : Emitter} {m : ℕ} (n : ℕ) (here there : Here) (node x : Node) (y : Bor Node) (z : Option (Bor Node)) (t : Option SimpleType) (u v : Branch) → there ≡ in_statement here node.statement → t ≡ type_given node.gives → u ≡ record { phrase = Some y; missing = held.Nothing } → v ≡ record { phrase = z; missing = held.Nothing } → CodeFits a.code → KindsFit a.code.given (type_given node.gives) → b ≡ begun a here node.statement
    → CodesPhrase b c there mode.Value (phrase_in (scene b) (node_in x (scene b))) m
    → ((k : ℕ) → Continues c d there mode.Value (λ p. choice p (branch_phrase (scene c) u) (branch_phrase (scene c) v)) k (max k n))
    → e ≡ made_into d there t
    → CodesNode a e here mode.Value (with_kind node (λ s. typed.IfThen (node_in x s) (node_in y.now s) (perhaps_in (numbers_in s) z))) (max m n)
if_then_coded {a} {b} {c} {d} {e} {m} n here there node x y z t u v q g yu zv h fits begins first more made =
    let inner : Here = in_statement here node.statement in
    if_done n here node x y.now z h fits begins (ap scene begins ∙ scene_begun a here node.statement)
    (subst (λ w. CodesPhrase b c w mode.Value (phrase_in (scene b) (node_in x (scene b))) m) q first)
    (λ k. continues_as inner mode.Value (λ p. choice p (branch_phrase (scene c) u) (branch_phrase (scene c) v)) (λ p. choice p (phrase_in (scene c) (node_in y.now (scene c))) (perhaps_phrase (scene c) z held.Nothing)) k (max k n)
    (λ p. ap (λ r. choice p r (branch_phrase (scene c) v)) (written_branch (scene c) u y yu) ∙ ap (λ w. choice p (phrase_in (scene c) (node_in y.now (scene c))) (branch_phrase (scene c) w)) zv)
    (subst (λ w. Continues c d w mode.Value (λ p. choice p (branch_phrase (scene c) u) (branch_phrase (scene c) v)) k (max k n)) q (more k)))
    (made ∙ ap (λ w. made_into d w t) q ∙ ap (made_into d inner) g)
