-- Kinds of phrases: where the function of a kind has coded its own, the phrase is coded.
use Rattle.std.proofs.Common.{◌≡◌, ℕ, ◌<◌, length, Bool, true, false, List, Option, Some, None, Result, Ok, Err, IfOk, OnOk, refl, sym, ap, ◌∙◌, subst, arith}
use Rattle.std.specs.Option.{option_map}
use Rattle.value_ops.specs.declared.places.Place.{Place}
use Rattle.value_ops.specs.declared.values.ClassId.{ClassId}
use Rattle.algolw_tree.specs.declared.phrases.RelOp.{RelOp}
use Rattle.algolw_tree.specs.declared.programs.Gives.{Gives}
use Rattle.algolw_tree.specs.declared.programs.Node.{Node}
use Rattle.algolw_typing.specs.Typed as typed
use Rattle.algolw_typing.specs.ProgramView.{gives_view, kind_view, numbered}
use Rattle.program_meaning.specs.Phrases as phrases
use Rattle.program_meaning.specs.Phrases.{Phrase}
use Rattle.program_meaning.specs.Translating.{is_logical_given, negated, statement_at}
use Rattle.phrase_code.specs.Coding as coding
use Rattle.phrase_code.specs.Marks.{marks}
use Rattle.compilable_programs.specs.Begun as compilable
use Rattle.stack_code.specs.CodeView.{CodeFits, Given, InstrFits, class_place}
use Rattle.stack_code.specs.declared.instructions.Instr.{Instr}
use Rattle.stack_code.specs.declared.instructions.Instr.TheVariants as held
use Rattle.stack_code.specs.declared.instructions.Mode.{Mode}
use Rattle.stack_code.specs.declared.instructions.Mode.TheVariants as mode
use Rattle.algolw_tree.specs.declared.standard.UnaryOp.{UnaryOp}
use Rattle.algolw_tree.specs.declared.standard.UnaryOp.TheVariants as unary
use Rattle.symbol_table.specs.declared.here.Here.{Here}
use Rattle.symbol_table.specs.Contexts.{Scene, coding_context, numbers_in, place_of}
use Rattle.symbol_table.specs.Heres.{in_statement}
use Rattle.symbol_table.specs.Standings.{standing_of}
use Rattle.symbol_table.specs.Symbols.{class_at}
use Rattle.symbol_table.proofs.Found.{name_stands_for, stand_by_is}
use Rattle.symbol_table.proofs.Knowing.{name_known}
use Rattle.symbol_table.proofs.Places.{numbered_place}
use Rattle.symbol_table.proofs.Placing.{IsClassOf, class_found, class_in_range}
use Rattle.code_emitter.specs.declared.emitter.Emitter.{Emitter}
use Rattle.code_emitter.specs.Appending.{appended, with_goto}
use Rattle.code_emitter.specs.Parts.{CodesPhrase, code_at, is_plain, next, phrase_in, scene}
use Rattle.code_emitter.proofs.Joining.{codes_as, codes_is}
use Rattle.code_emitter.proofs.Singles.{goto_codes}
use Rattle.stack_codegen.specs.Codable.{CodesNode, IsCodable, node_in, with_kind}
use Rattle.stack_codegen.specs.Operations.{CodesBefore, CodesPair, CodesStatement, class_test, is_logical, missing_phrase, negation, negation_by, stands_missing}
use Rattle.stack_codegen.proofs.Leaves.{missing_codes}
use Rattle.stack_codegen.proofs.Nodes.{codes_as_node, node_kind, ready_as}
use Rattle.stack_codegen.proofs.Typing.{is_logical_same}

-- ---- a node and its kind

pub kind_done : {a b : Emitter} {m : ℕ} (here : Here) (wanted : Mode) (n : Node) (k : Scene → typed.Kind) → kind_view (numbers_in (scene a)) n.kind ≡ k (scene a) → CodesNode a b here wanted (with_kind n k) m → CodesNode a b here wanted (node_in n) m
kind_done {a} {b} {m} here wanted n k q part = codes_as_node a b here wanted (with_kind n k) (node_in n) m (sym (node_kind (scene a) n k q)) part

pub kind_ready : (e : Emitter) (n : Node) (k : Scene → typed.Kind) → kind_view (numbers_in (scene e)) n.kind ≡ k (scene e) → IsCodable e (node_in n) → IsCodable e (with_kind n k)
kind_ready e n k q r = ready_as e (node_in n) (with_kind n k) (node_kind (scene e) n k q) r

-- what is wanted of it makes no difference
pub any_wanted : {a b : Emitter} {m : ℕ} (here : Here) (u v : Mode) (x : Phrase) → ((ts : List ℕ) → code_at (scene a) here u (next a) x ts ≡ code_at (scene a) here v (next a) x ts) → CodesPhrase a b here u x m → CodesPhrase a b here v x m
any_wanted {a} here u v x same part = codes_as (code_at (scene a) here v (next a) x) (marks x) (λ ts h. same ts) refl part

-- ---- one instruction, which has no marks

pub instruction_done : {E P : Type 0} (r : Result ℕ E) (Q : ℕ → Type 0) → IfOk r (λ m. m ≡ 0) → OnOk r P → (P → Q 0) → IfOk r Q
instruction_done (Ok m) Q none made codes = subst Q (sym none) (codes made)
instruction_done (Err e) Q none made codes = tt

pub leaf_done : {a b : Emitter} (here : Here) (wanted : Mode) (n : Node) (k : typed.Kind) (i : Instr) → phrase_in (scene a) (with_kind n (λ s. k) (scene a)) ≡ missing_phrase i → stands_missing i ≡ true → CodeFits a.code → kind_view (numbers_in (scene a)) n.kind ≡ k → b ≡ appended a here i → CodesNode a b here wanted (node_in n) 0
leaf_done {a} {b} here wanted n k i same stands fits q e = kind_done here wanted n (λ s. k) q (subst (λ x. CodesPhrase a b here wanted x 0) (sym same) (missing_codes here wanted i stands fits e))

-- ---- an instruction behind a value

pub unary_done : {a b : Emitter} {m : ℕ} (here : Here) (wanted : Mode) (op : UnaryOp) (x : Phrase) → CodesBefore a b here x (held.Unary op) m → CodesPhrase a b here wanted (phrases.Unary op x) m
unary_done {a} here wanted op x part = codes_as (code_at (scene a) here wanted (next a) (phrases.Unary op x)) (marks x) (λ ts h. refl) refl part

pub negated_done : {a b : Emitter} {m : ℕ} (here : Here) (wanted : Mode) (by : Bool) (x : Phrase) → CodesBefore a b here x (held.Unary (negation_by by)) m → CodesPhrase a b here wanted (negated by x) m
negated_done here wanted true x part = unary_done here wanted unary.Not x part
negated_done here wanted false x part = unary_done here wanted unary.Complement x part

pub negation_done : {a b : Emitter} {m : ℕ} (here : Here) (wanted : Mode) (g : Option Gives) (x : Phrase) → CodesBefore a b here x (held.Unary (negation g)) m → CodesPhrase a b here wanted (negated (is_logical_given (option_map (gives_view (numbers_in (scene a))) g)) x) m
negation_done {a} {b} {m} here wanted g x part = subst (λ by. CodesPhrase a b here wanted (negated by x) m) (sym (is_logical_same (scene a) g)) (negated_done here wanted (is_logical g) x part)

pub relation_done : {a b : Emitter} {m : ℕ} (here : Here) (wanted : Mode) (o : RelOp) (x y : Phrase) → CodesPair a b here mode.Value x y (held.Relation o) m → CodesPhrase a b here wanted (phrases.Relation o x y) m
relation_done {a} here wanted o x y part = codes_as (code_at (scene a) here wanted (next a) (phrases.Relation o x y)) (marks (phrases.Relation o x y)) (λ ts h. refl) refl part

-- ---- whether a reference is to a record of a class

class_fits : (g : Given) → length g.class_places ≡ length g.classes.classes → (c : ClassId) → c.0 < length g.class_places → c.0 < length g.classes.classes
class_fits g e c l = omega (arith, e, l)

pub class_test_is : (s : Scene) (n : ℕ) (k : IsClassOf s n) → class_test (class_at s.symbols.classes n) ≡ held.IsClass k.class
class_test_is s n k = ap class_test k.is

pub class_test_plain : (o : Option ClassId) → is_plain (class_test o) ≡ true
class_test_plain None = refl
class_test_plain (Some c) = refl

-- the class of a tree's name is one of the program's
pub class_test_fits : (e : Emitter) (n : Node) (a : Scene → typed.Node) (x : ℕ) (q : Place) → IsCodable e (with_kind n (λ s. typed.IsClass (a s) (numbered (numbers_in s).names x) q)) → InstrFits e.code.given e.code.added (class_test (class_at e.symbols.classes x))
class_test_fits e n a x q r =
    let s : Scene = scene e in
    let l : x < length s.given.names = name_known s r.fits.scene x r.knows.1.1 in
    let k : IsClassOf s x = class_found s r.fits.scene x l r.begun.0 in
    subst (InstrFits e.code.given e.code.added) (sym (class_test_is s x k)) (class_fits s.given r.fits.code.given.counted k.class (class_in_range s r.fits.scene x l k.class k.there))

pub is_class_done : {e b : Emitter} {m : ℕ} (here : Here) (wanted : Mode) (n : Node) (a : Scene → typed.Node) (x : ℕ) (q : Place) → IsCodable e (with_kind n (λ s. typed.IsClass (a s) (numbered (numbers_in s).names x) q)) → CodesBefore e b here (phrase_in (scene e) (a (scene e))) (class_test (class_at e.symbols.classes x)) m → CodesNode e b here wanted (with_kind n (λ s. typed.IsClass (a s) (numbered (numbers_in s).names x) q)) m
is_class_done {e} {b} {m} here wanted n a x q r part =
    let s : Scene = scene e in
    let l : x < length s.given.names = name_known s r.fits.scene x r.knows.1.1 in
    let k : IsClassOf s x = class_found s r.fits.scene x l r.begun.0 in
    let y : Phrase = phrase_in s (a s) in
    let same : class_place s.given k.class ≡ numbered (numbers_in s).names x = k.there ∙ sym (numbered_place s x) in
    let tested : CodesBefore e b here y (held.IsClass k.class) m = subst (λ i. CodesBefore e b here y i m) (class_test_is s x k) part in
    let whole : CodesPhrase e b here wanted (phrases.IsClass y (class_place s.given k.class)) m = codes_as (code_at s here wanted (next e) (phrases.IsClass y (class_place s.given k.class))) (marks y) (λ ts h. refl) refl tested in
    subst (λ c. CodesPhrase e b here wanted (phrases.IsClass y c) m) same whole

-- ---- statements

pub assert_done : {e b : Emitter} {m : ℕ} (here : Here) (wanted : Mode) (n : Node) (a : Scene → typed.Node) → IsCodable e (with_kind n (λ s. typed.Assert (a s))) → CodesStatement e b (in_statement here n.statement) (phrase_in (scene e) (a (scene e))) held.Assert m → CodesNode e b here wanted (with_kind n (λ s. typed.Assert (a s))) m
assert_done {e} {b} {m} here wanted n a r part = by n.statement r.begun.0 part
  where
    by : (st : Option ℕ) → compilable.IsStatement (option_map (numbered (scene e).given.statements) st) → CodesStatement e b (in_statement here st) (phrase_in (scene e) (a (scene e))) held.Assert m → CodesPhrase e b here wanted (phrases.Assert (statement_at n.first (option_map (numbered (scene e).given.statements) st)) (phrase_in (scene e) (a (scene e)))) m
    by None s c = absurd s
    by (Some st) s c = codes_as (code_at (scene e) here wanted (next e) (phrases.Assert (numbered (scene e).given.statements st) (phrase_in (scene e) (a (scene e))))) (marks (phrase_in (scene e) (a (scene e)))) (λ ts h. refl) refl c

pub goto_done : {e b : Emitter} (here : Here) (wanted : Mode) (n : Node) (x : ℕ) → IsCodable e (with_kind n (λ s. typed.Goto (numbered (numbers_in s).names x))) → b ≡ with_goto e (in_statement here n.statement) (standing_of e.symbols.names x) → CodesNode e b here wanted (with_kind n (λ s. typed.Goto (numbered (numbers_in s).names x))) 0
goto_done {e} {b} here wanted n x r q = by n.statement r.begun q
  where
    s : Scene
    s = scene e

    known : x < length s.given.names
    known = name_known s r.fits.scene x r.knows.1

    by : (st : Option ℕ) → compilable.IsStatement (option_map (numbered s.given.statements) st) → b ≡ with_goto e (in_statement here st) (standing_of e.symbols.names x) → CodesPhrase e b here wanted (phrases.Goto (statement_at n.first (option_map (numbered s.given.statements) st)) (phrases.Named (numbered (numbers_in s).names x))) 0
    by None h d = absurd h
    by (Some st) h d =
        codes_is d (codes_as (code_at s here wanted (next e) (phrases.Goto (numbered s.given.statements st) (phrases.Named (numbered (numbers_in s).names x)))) 0
        (λ ts k. ap (λ t. coding.goto_code (coding_context s ts here) (numbered s.given.statements st) t) (stand_by_is s ts (place_of s x) (standing_of s.symbols.names x) ∙ sym (name_stands_for s ts here x r.fits.scene known))) refl
        (goto_codes e (in_statement here (Some st)) r.fits.code (place_of s x) (standing_of s.symbols.names x)))
