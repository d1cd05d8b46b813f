-- Each kind of phrase: what the function of a kind requires is known of the phrase, and what it codes is the phrase.
use Rattle.std.proofs.Common.{◌≡◌, ℕ, Bool, true, false, List, Option, refl, ap}
use Rattle.std.specs.Option.{option_map}
use Rattle.std.specs.Borrow.{Bor}
use Rattle.std.specs.declared.vec.Vec.{Vec}
use Rattle.std.specs.declared.alloc.Global.{Global}
use Rattle.std.specs.declared.boxed.Box.{Box}
use Rattle.value_ops.specs.declared.places.Place.{Place}
use Rattle.algolw_tree.specs.declared.phrases.RelOp.{RelOp}
use Rattle.algolw_tree.specs.declared.programs.Node.{Node}
use Rattle.algolw_tree.specs.declared.programs.NodeKind as kinds
use Rattle.algolw_tree.specs.declared.programs.TypedDecl.{TypedDecl}
use Rattle.algolw_tree.specs.declared.programs.TypedItem.{TypedItem}
use Rattle.algolw_tree.specs.declared.programs.TypedLink.{TypedLink}
use Rattle.algolw_tree.specs.declared.programs.TypedList.{TypedList}
use Rattle.algolw_tree.specs.declared.programs.TypedPart.{TypedPart}
use Rattle.algolw_typing.specs.Typed as typed
use Rattle.algolw_typing.specs.ProgramView.{Numbers, kind_view, numbered}
use Rattle.stack_code.specs.declared.instructions.Instr.TheVariants as held
use Rattle.stack_code.specs.declared.instructions.Mode.{Mode}
use Rattle.stack_code.specs.declared.instructions.Mode.TheVariants as mode
use Rattle.algolw_tree.specs.declared.standard.UnaryOp.TheVariants as unary
use Rattle.symbol_table.specs.declared.here.Here.{Here}
use Rattle.symbol_table.specs.Contexts.{Scene, numbers_in}
use Rattle.symbol_table.specs.Heres.{in_statement}
use Rattle.symbol_table.specs.Parts.{decls_in, items_in, links_in, lists_in, nodes_in, perhaps_in}
use Rattle.symbol_table.specs.Standings.{standing_of}
use Rattle.symbol_table.specs.Symbols.{class_at}
use Rattle.code_emitter.specs.declared.emitter.Emitter.{Emitter}
use Rattle.code_emitter.specs.Appending.{with_goto}
use Rattle.code_emitter.specs.Parts.{phrase_in, scene}
use Rattle.stack_codegen.specs.declared.loops.Choices.{Choices}
use Rattle.stack_codegen.specs.declared.loops.Choices.TheVariants as choice
use Rattle.stack_codegen.specs.Codable.{CodesNode, IsCodable, choices_in, node_in, with_kind}
use Rattle.stack_codegen.specs.Operations.{CodesBefore, CodesPair, CodesStatement, class_test, negation}
use Rattle.stack_codegen.proofs.NodeKinds.{block_kind, case_do_kind, case_value_kind, chain_kind, for_list_kind, for_step_kind, if_kind, named_kind}
use Rattle.stack_codegen.proofs.Nodes.{abs_ready, negated_ready, relation_ready, signed_ready}
use Rattle.stack_codegen.proofs.PhraseKinds.{any_wanted, assert_done, goto_done, is_class_done, kind_done, kind_ready, negation_done, relation_done, unary_done}

-- ---- kinds by their parts

abbrev pub negated_of : Node → Scene → typed.Kind
negated_of a s = typed.Negated (node_in a s)

abbrev pub abs_of : Node → Scene → typed.Kind
abs_of a s = typed.Abs (node_in a s)

abbrev pub signed_of : Bool → Node → Scene → typed.Kind
signed_of minus a s = typed.Signed minus (node_in a s)

abbrev pub chain_of : Node → List TypedLink → Scene → typed.Kind
chain_of a links s = typed.Chain (node_in a s) (links_in (numbers_in s) links)

abbrev pub relation_of : RelOp → (a b : Node) → Scene → typed.Kind
relation_of o a b s = typed.Relation o (node_in a s) (node_in b s)

abbrev pub is_class_of : Node → ℕ → Place → Scene → typed.Kind
is_class_of a x q s = typed.IsClass (node_in a s) (numbered (numbers_in s).names x) q

abbrev pub assign_of : (a b : Node) → Scene → typed.Kind
assign_of a b s = typed.Assign (node_in a s) (node_in b s)

abbrev pub if_of : (c a : Node) → Option (Bor Node) → Scene → typed.Kind
if_of c a b s = typed.IfThen (node_in c s) (node_in a s) (perhaps_in (numbers_in s) b)

abbrev pub case_value_of : Node → List Node → Scene → typed.Kind
case_value_of c values s = typed.CaseValue (node_in c s) (nodes_in (numbers_in s) values)

abbrev pub case_of : Node → Choices → Scene → typed.Kind
case_of c choices s = typed.CaseDo (node_in c s) (choices_in (numbers_in s) choices)

abbrev pub for_step_of : ℕ → Node → Option (Bor Node) → (c body : Node) → Scene → typed.Kind
for_step_of x a b c body s = typed.ForStep (numbered (numbers_in s).names x) (node_in a s) (perhaps_in (numbers_in s) b) (node_in c s) (node_in body s)

abbrev pub for_list_of : ℕ → List Node → Node → Scene → typed.Kind
for_list_of x values body s = typed.ForList (numbered (numbers_in s).names x) (nodes_in (numbers_in s) values) (node_in body s)

abbrev pub while_of : (c body : Node) → Scene → typed.Kind
while_of c body s = typed.WhileDo (node_in c s) (node_in body s)

abbrev pub assert_of : Node → Scene → typed.Kind
assert_of a s = typed.Assert (node_in a s)

abbrev pub block_of : List TypedDecl → List TypedItem → Scene → typed.Kind
block_of decls items s = typed.Block (decls_in (numbers_in s) decls) (items_in (numbers_in s) items)

abbrev pub named_of : ℕ → List TypedList → Scene → typed.Kind
named_of x lists s = typed.Named (numbered (numbers_in s).names x) (lists_in (numbers_in s) lists)

abbrev pub goto_of : ℕ → Scene → typed.Kind
goto_of x s = typed.Goto (numbered (numbers_in s).names x)

-- ---- what is known of a phrase

module _ (e : Emitter) (n : Node) (r : IsCodable e (node_in n)) where
  abbrev ns : Numbers
  ns = numbers_in (scene e)

  pub negated_known : (b : Box Node Global) → n.kind ≡ kinds.Negated b → IsCodable e (node_in b.value)
  negated_known b q = negated_ready e n (node_in b.value) (kind_ready e n (negated_of b.value) (ap (kind_view ns) q) r)

  pub abs_known : (b : Box Node Global) → n.kind ≡ kinds.Abs b → IsCodable e (node_in b.value)
  abs_known b q = abs_ready e n (node_in b.value) (kind_ready e n (abs_of b.value) (ap (kind_view ns) q) r)

  pub signed_known : (minus : Bool) (b : Box Node Global) → n.kind ≡ kinds.Signed minus b → IsCodable e (node_in b.value)
  signed_known minus b q = signed_ready e n (node_in b.value) minus (kind_ready e n (signed_of minus b.value) (ap (kind_view ns) q) r)

  pub chain_known : (b : Box Node Global) (v : Vec TypedLink Global) (links : List TypedLink) → n.kind ≡ kinds.Chain b v → links ≡ v.items → IsCodable e (with_kind n (chain_of b.value links))
  chain_known b v links q p = kind_ready e n (chain_of b.value links) (chain_kind ns n b v links q p) r

  pub relation_known : (o : RelOp) (a b : Box Node Global) → n.kind ≡ kinds.Relation o a b → IsCodable e (node_in a.value) × IsCodable e (node_in b.value)
  relation_known o a b q = relation_ready e n (node_in a.value) (node_in b.value) o (kind_ready e n (relation_of o a.value b.value) (ap (kind_view ns) q) r)

  pub is_class_known : (a : Box Node Global) (x : ℕ) (p : Place) → n.kind ≡ kinds.IsClass a x p → IsCodable e (with_kind n (is_class_of a.value x p))
  is_class_known a x p q = kind_ready e n (is_class_of a.value x p) (ap (kind_view ns) q) r

  pub assign_known : (a b : Box Node Global) → n.kind ≡ kinds.Assign a b → IsCodable e (with_kind n (assign_of a.value b.value))
  assign_known a b q = kind_ready e n (assign_of a.value b.value) (ap (kind_view ns) q) r

  pub if_known : (c a : Box Node Global) (o : Option (Box Node Global)) (b : Option (Bor Node)) → n.kind ≡ kinds.IfThen c a o → option_map (λ (x : Bor Node). x.now) b ≡ option_map (λ (d : Box Node Global). d.value) o → IsCodable e (with_kind n (if_of c.value a.value b))
  if_known c a o b q p = kind_ready e n (if_of c.value a.value b) (if_kind ns n c a o b q p) r

  pub case_value_known : (c : Box Node Global) (v : Vec Node Global) (values : Bor (List Node)) → n.kind ≡ kinds.CaseValue c v → values.now ≡ v.items → IsCodable e (with_kind n (case_of c.value (choice.Values values)))
  case_value_known c v values q p =
      let k : IsCodable e (with_kind n (case_value_of c.value values.now)) = kind_ready e n (case_value_of c.value values.now) (case_value_kind ns n c v values.now q p) r in
      record { fits = k.fits; fresh = k.fresh; knows = k.knows; begun = k.begun; suits = k.suits }

  pub case_do_known : (c : Box Node Global) (v : Vec TypedPart Global) (parts : Bor (List TypedPart)) → n.kind ≡ kinds.CaseDo c v → parts.now ≡ v.items → IsCodable e (with_kind n (case_of c.value (choice.Statements parts)))
  case_do_known c v parts q p = kind_ready e n (case_of c.value (choice.Statements parts)) (case_do_kind ns n c v parts.now q p) r

  pub for_step_known : (x : ℕ) (a : Box Node Global) (o : Option (Box Node Global)) (c body : Box Node Global) (b : Option (Bor Node)) → n.kind ≡ kinds.ForStep x a o c body → option_map (λ (y : Bor Node). y.now) b ≡ option_map (λ (d : Box Node Global). d.value) o → IsCodable e (with_kind n (for_step_of x a.value b c.value body.value))
  for_step_known x a o c body b q p = kind_ready e n (for_step_of x a.value b c.value body.value) (for_step_kind ns n x a o c body b q p) r

  pub for_list_known : (x : ℕ) (v : Vec Node Global) (body : Box Node Global) (values : List Node) → n.kind ≡ kinds.ForList x v body → values ≡ v.items → IsCodable e (with_kind n (for_list_of x values body.value))
  for_list_known x v body values q p = kind_ready e n (for_list_of x values body.value) (for_list_kind ns n x v body values q p) r

  pub while_known : (c body : Box Node Global) → n.kind ≡ kinds.WhileDo c body → IsCodable e (with_kind n (while_of c.value body.value))
  while_known c body q = kind_ready e n (while_of c.value body.value) (ap (kind_view ns) q) r

  pub assert_known : (a : Box Node Global) → n.kind ≡ kinds.Assert a → IsCodable e (with_kind n (assert_of a.value))
  assert_known a q = kind_ready e n (assert_of a.value) (ap (kind_view ns) q) r

  pub block_known : (v : Vec TypedDecl Global) (w : Vec TypedItem Global) (decls : List TypedDecl) (items : List TypedItem) → n.kind ≡ kinds.Block v w → decls ≡ v.items → items ≡ w.items → IsCodable e (with_kind n (block_of decls items))
  block_known v w decls items q p o = kind_ready e n (block_of decls items) (block_kind ns n v w decls items q p o) r

  pub named_known : (x : ℕ) (v : Vec TypedList Global) (lists : List TypedList) → n.kind ≡ kinds.Named x v → lists ≡ v.items → IsCodable e (with_kind n (named_of x lists))
  named_known x v lists q p = kind_ready e n (named_of x lists) (named_kind ns n x v lists q p) r

  pub goto_known : (x : ℕ) → n.kind ≡ kinds.Goto x → IsCodable e (with_kind n (goto_of x))
  goto_known x q = kind_ready e n (goto_of x) (ap (kind_view ns) q) r

-- ---- what is coded

module _ {e b : Emitter} {m : ℕ} (here : Here) (wanted : Mode) (n : Node) where
  pub negated_coded : (a : Box Node Global) → n.kind ≡ kinds.Negated a → CodesBefore e b here (phrase_in (scene e) (node_in a.value (scene e))) (held.Unary (negation n.gives)) m → CodesNode e b here wanted (node_in n) m
  negated_coded a q part = kind_done here wanted n (negated_of a.value) (ap (kind_view (numbers_in (scene e))) q) (negation_done here wanted n.gives (phrase_in (scene e) (node_in a.value (scene e))) part)

  pub abs_coded : (a : Box Node Global) → n.kind ≡ kinds.Abs a → CodesBefore e b here (phrase_in (scene e) (node_in a.value (scene e))) (held.Unary unary.Absolute) m → CodesNode e b here wanted (node_in n) m
  abs_coded a q part = kind_done here wanted n (abs_of a.value) (ap (kind_view (numbers_in (scene e))) q) (unary_done here wanted unary.Absolute (phrase_in (scene e) (node_in a.value (scene e))) part)

  pub minus_coded : (a : Box Node Global) → n.kind ≡ kinds.Signed true a → CodesBefore e b here (phrase_in (scene e) (node_in a.value (scene e))) (held.Unary unary.Minus) m → CodesNode e b here wanted (node_in n) m
  minus_coded a q part = kind_done here wanted n (signed_of true a.value) (ap (kind_view (numbers_in (scene e))) q) (unary_done here wanted unary.Minus (phrase_in (scene e) (node_in a.value (scene e))) part)

  pub plus_coded : (a : Box Node Global) → n.kind ≡ kinds.Signed false a → CodesNode e b here wanted (node_in a.value) m → CodesNode e b here wanted (node_in n) m
  plus_coded a q part = kind_done here wanted n (signed_of false a.value) (ap (kind_view (numbers_in (scene e))) q) part

  pub chain_coded : (a : Box Node Global) (v : Vec TypedLink Global) (links : List TypedLink) → n.kind ≡ kinds.Chain a v → links ≡ v.items → CodesNode e b here wanted (with_kind n (chain_of a.value links)) m → CodesNode e b here wanted (node_in n) m
  chain_coded a v links q p part = kind_done here wanted n (chain_of a.value links) (chain_kind (numbers_in (scene e)) n a v links q p) part

  pub relation_coded : (o : RelOp) (x y : Box Node Global) → n.kind ≡ kinds.Relation o x y → CodesPair e b here mode.Value (phrase_in (scene e) (node_in x.value (scene e))) (phrase_in (scene e) (node_in y.value (scene e))) (held.Relation o) m → CodesNode e b here wanted (node_in n) m
  relation_coded o x y q part = kind_done here wanted n (relation_of o x.value y.value) (ap (kind_view (numbers_in (scene e))) q) (relation_done here wanted o (phrase_in (scene e) (node_in x.value (scene e))) (phrase_in (scene e) (node_in y.value (scene e))) part)

  pub is_class_coded : (a : Box Node Global) (x : ℕ) (p : Place) → n.kind ≡ kinds.IsClass a x p → IsCodable e (node_in n) → CodesBefore e b here (phrase_in (scene e) (node_in a.value (scene e))) (class_test (class_at e.symbols.classes x)) m → CodesNode e b here wanted (node_in n) m
  is_class_coded a x p q r part = kind_done here wanted n (is_class_of a.value x p) (ap (kind_view (numbers_in (scene e))) q) (is_class_done here wanted n (node_in a.value) x p (is_class_known e n r a x p q) part)

  pub assign_coded : (x y : Box Node Global) → n.kind ≡ kinds.Assign x y → CodesNode e b here mode.Value (with_kind n (assign_of x.value y.value)) m → CodesNode e b here wanted (node_in n) m
  assign_coded x y q part = kind_done here wanted n (assign_of x.value y.value) (ap (kind_view (numbers_in (scene e))) q) (any_wanted here mode.Value wanted (phrase_in (scene e) (with_kind n (assign_of x.value y.value) (scene e))) (λ ts. refl) part)

  pub if_coded : (c x : Box Node Global) (o : Option (Box Node Global)) (y : Option (Bor Node)) → n.kind ≡ kinds.IfThen c x o → option_map (λ (z : Bor Node). z.now) y ≡ option_map (λ (d : Box Node Global). d.value) o → CodesNode e b here mode.Value (with_kind n (if_of c.value x.value y)) m → CodesNode e b here wanted (node_in n) m
  if_coded c x o y q p part = kind_done here wanted n (if_of c.value x.value y) (if_kind (numbers_in (scene e)) n c x o y q p) (any_wanted here mode.Value wanted (phrase_in (scene e) (with_kind n (if_of c.value x.value y) (scene e))) (λ ts. refl) part)

  pub case_value_coded : (c : Box Node Global) (v : Vec Node Global) (values : Bor (List Node)) → n.kind ≡ kinds.CaseValue c v → values.now ≡ v.items → CodesNode e b here mode.Value (with_kind n (case_of c.value (choice.Values values))) m → CodesNode e b here wanted (node_in n) m
  case_value_coded c v values q p part = kind_done here wanted n (case_value_of c.value values.now) (case_value_kind (numbers_in (scene e)) n c v values.now q p) (any_wanted here mode.Value wanted (phrase_in (scene e) (with_kind n (case_of c.value (choice.Values values)) (scene e))) (λ ts. refl) part)

  pub case_do_coded : (c : Box Node Global) (v : Vec TypedPart Global) (parts : Bor (List TypedPart)) → n.kind ≡ kinds.CaseDo c v → parts.now ≡ v.items → CodesNode e b here mode.Value (with_kind n (case_of c.value (choice.Statements parts))) m → CodesNode e b here wanted (node_in n) m
  case_do_coded c v parts q p part = kind_done here wanted n (case_of c.value (choice.Statements parts)) (case_do_kind (numbers_in (scene e)) n c v parts.now q p) (any_wanted here mode.Value wanted (phrase_in (scene e) (with_kind n (case_of c.value (choice.Statements parts)) (scene e))) (λ ts. refl) part)

  pub for_step_coded : (x : ℕ) (a : Box Node Global) (o : Option (Box Node Global)) (c body : Box Node Global) (y : Option (Bor Node)) → n.kind ≡ kinds.ForStep x a o c body → option_map (λ (z : Bor Node). z.now) y ≡ option_map (λ (d : Box Node Global). d.value) o → CodesNode e b here mode.Value (with_kind n (for_step_of x a.value y c.value body.value)) m → CodesNode e b here wanted (node_in n) m
  for_step_coded x a o c body y q p part = kind_done here wanted n (for_step_of x a.value y c.value body.value) (for_step_kind (numbers_in (scene e)) n x a o c body y q p) (any_wanted here mode.Value wanted (phrase_in (scene e) (with_kind n (for_step_of x a.value y c.value body.value) (scene e))) (λ ts. refl) part)

  pub for_list_coded : (x : ℕ) (v : Vec Node Global) (body : Box Node Global) (values : List Node) → n.kind ≡ kinds.ForList x v body → values ≡ v.items → CodesNode e b here mode.Value (with_kind n (for_list_of x values body.value)) m → CodesNode e b here wanted (node_in n) m
  for_list_coded x v body values q p part = kind_done here wanted n (for_list_of x values body.value) (for_list_kind (numbers_in (scene e)) n x v body values q p) (any_wanted here mode.Value wanted (phrase_in (scene e) (with_kind n (for_list_of x values body.value) (scene e))) (λ ts. refl) part)

  pub while_coded : (c body : Box Node Global) → n.kind ≡ kinds.WhileDo c body → CodesNode e b here mode.Value (with_kind n (while_of c.value body.value)) m → CodesNode e b here wanted (node_in n) m
  while_coded c body q part = kind_done here wanted n (while_of c.value body.value) (ap (kind_view (numbers_in (scene e))) q) (any_wanted here mode.Value wanted (phrase_in (scene e) (with_kind n (while_of c.value body.value) (scene e))) (λ ts. refl) part)

  pub assert_coded : (a : Box Node Global) → n.kind ≡ kinds.Assert a → IsCodable e (node_in n) → CodesStatement e b (in_statement here n.statement) (phrase_in (scene e) (node_in a.value (scene e))) held.Assert m → CodesNode e b here wanted (node_in n) m
  assert_coded a q r part = kind_done here wanted n (assert_of a.value) (ap (kind_view (numbers_in (scene e))) q) (assert_done here wanted n (node_in a.value) (assert_known e n r a q) part)

  pub block_coded : (v : Vec TypedDecl Global) (w : Vec TypedItem Global) (decls : List TypedDecl) (items : List TypedItem) → n.kind ≡ kinds.Block v w → decls ≡ v.items → items ≡ w.items → CodesNode e b here mode.Value (with_kind n (block_of decls items)) m → CodesNode e b here wanted (node_in n) m
  block_coded v w decls items q p o part = kind_done here wanted n (block_of decls items) (block_kind (numbers_in (scene e)) n v w decls items q p o) (any_wanted here mode.Value wanted (phrase_in (scene e) (with_kind n (block_of decls items) (scene e))) (λ ts. refl) part)

  pub named_coded : (x : ℕ) (v : Vec TypedList Global) (lists : List TypedList) → n.kind ≡ kinds.Named x v → lists ≡ v.items → CodesNode e b here wanted (with_kind n (named_of x lists)) m → CodesNode e b here wanted (node_in n) m
  named_coded x v lists q p part = kind_done here wanted n (named_of x lists) (named_kind (numbers_in (scene e)) n x v lists q p) part

-- a jump
pub goto_coded : {e b : Emitter} (here : Here) (wanted : Mode) (n : Node) (x : ℕ) → n.kind ≡ kinds.Goto x → IsCodable e (node_in n) → b ≡ with_goto e (in_statement here n.statement) (standing_of e.symbols.names x) → CodesNode e b here wanted (node_in n) 0
goto_coded {e} here wanted n x q r part = kind_done here wanted n (goto_of x) (ap (kind_view (numbers_in (scene e))) q) (goto_done here wanted n x (goto_known e n r x q) part)
