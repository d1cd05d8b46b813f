-- The cases of a phrase, where what is lent of its parts is what stands in them.
use Rattle.std.proofs.Common.{◌≡◌, ℕ, ◌+◌, Bool, true, false, List, Option, Some, None, refl, sym, ap, ◌∙◌, subst}
use Rattle.std.specs.Prelude.{IsSomeAnd, MatchOption}
use Rattle.std.specs.Option.{option_map}
use Rattle.std.specs.Borrow.{Bor}
use Rattle.std.specs.declared.vec.Vec.{Vec}
use Rattle.std.specs.declared.alloc.Global.{Global}
use Rattle.std.specs.declared.boxed.Box.{Box}
use Rattle.value_ops.specs.declared.places.Place.{Place}
use Rattle.algolw_tree.specs.declared.phrases.RelOp.{RelOp}
use Rattle.algolw_tree.specs.declared.programs.Node.{Node}
use Rattle.algolw_tree.specs.declared.programs.NodeKind as kinds
use Rattle.algolw_tree.specs.declared.programs.TypedDecl.{TypedDecl}
use Rattle.algolw_tree.specs.declared.programs.TypedItem.{TypedItem}
use Rattle.algolw_tree.specs.declared.programs.TypedLink.{TypedLink}
use Rattle.algolw_tree.specs.declared.programs.TypedList.{TypedList}
use Rattle.algolw_tree.specs.declared.programs.TypedPart.{TypedPart}
use Rattle.algolw_typing.specs.Typed as typed
use Rattle.algolw_typing.specs.ProgramView.{kind_view, node_view, numbered}
use Rattle.stack_code.specs.CodeView.{InstrFits}
use Rattle.stack_code.specs.declared.instructions.Instr.{Instr}
use Rattle.stack_code.specs.declared.instructions.Instr.TheVariants as held
use Rattle.stack_code.specs.declared.instructions.Mode.{Mode}
use Rattle.stack_code.specs.declared.instructions.Mode.TheVariants as mode
use Rattle.algolw_tree.specs.declared.standard.UnaryOp.{UnaryOp}
use Rattle.algolw_tree.specs.declared.standard.UnaryOp.TheVariants as unary
use Rattle.symbol_table.specs.declared.here.Here.{Here}
use Rattle.symbol_table.specs.Contexts.{numbers_in}
use Rattle.symbol_table.specs.Heres.{in_statement}
use Rattle.symbol_table.specs.Parts.{decls_in, items_in, links_in, lists_in, nodes_in, parts_in, perhaps_in}
use Rattle.symbol_table.specs.Symbols.{class_at}
use Rattle.code_emitter.specs.declared.emitter.Emitter.{Emitter}
use Rattle.code_emitter.specs.Parts.{phrase_in, scene}
use Rattle.stack_codegen.specs.declared.loops.Choices.TheVariants as choice
use Rattle.stack_codegen.specs.Codable.{CodesNode, IsCodable, node_in, with_kind}
use Rattle.stack_codegen.specs.Operations.{CodesBefore, CodesPair, CodesStatement, class_test, negation}
use Rattle.stack_codegen.proofs.NodeKinds.{block_kind, case_do_kind, case_value_kind, chain_kind, for_list_kind, for_step_kind, if_kind, kind_sized, named_kind}
use Rattle.stack_codegen.proofs.NodeSizes.{node_size, nothing, perhaps_size, size_decls, size_items, size_links, size_lists, size_nodes, size_perhaps}
use Rattle.stack_codegen.proofs.Nodes.{assert_ready, is_class_ready}
use Rattle.stack_codegen.proofs.PhraseArms.{abs_coded, abs_known, assert_coded, assert_known, assign_coded, assign_known, assign_of, case_do_coded, case_do_known, case_of, case_value_coded, case_value_known, chain_coded, chain_known, chain_of, for_list_coded, for_list_known, for_list_of, for_step_coded, for_step_known, for_step_of, if_coded, if_known, if_of, is_class_coded, is_class_known, minus_coded, negated_coded, negated_known, plus_coded, relation_coded, relation_known, signed_known, while_coded, while_known, while_of}
use Rattle.stack_codegen.proofs.PhraseKinds.{class_test_fits}

-- ---- what is lent

-- of a box that may be missing
pub lent_same : (o : Option (Box Node Global)) (b : Option (Bor Node)) → MatchOption o (b ≡ None) (λ x. IsSomeAnd b (λ y. y.now ≡ x.value)) → option_map (λ (y : Bor Node). y.now) b ≡ option_map (λ (d : Box Node Global). d.value) o
lent_same None b h = ap (option_map (λ (y : Bor Node). y.now)) h
lent_same (Some x) None h = absurd h
lent_same (Some x) (Some y) h = ap Some h

codable_now : (e : Emitter) (x y : Node) → x ≡ y → IsCodable e (node_in y) → IsCodable e (node_in x)
codable_now e x y q r = subst (λ (n : Node). IsCodable e (node_in n)) (sym q) r

node_now : {a b : Emitter} {m : ℕ} (here : Here) (wanted : Mode) (x y : Node) → x ≡ y → CodesNode a b here wanted (node_in x) m → CodesNode a b here wanted (node_in y) m
node_now {a} {b} {m} here wanted x y q part = subst (λ (n : Node). CodesNode a b here wanted (node_in n) m) q part

before_now : {a b : Emitter} {m : ℕ} (here : Here) (x y : Node) (i j : Instr) → x ≡ y → i ≡ j → CodesBefore a b here (phrase_in (scene a) (node_in x (scene a))) i m → CodesBefore a b here (phrase_in (scene a) (node_in y (scene a))) j m
before_now {a} {b} {m} here x y i j q p part =
    subst (λ (k : Instr). CodesBefore a b here (phrase_in (scene a) (node_in y (scene a))) k m) p
    (subst (λ (n : Node). CodesBefore a b here (phrase_in (scene a) (node_in n (scene a))) i m) q part)

-- ---- each part is of less

perhaps_sized : (b : Option (Bor Node)) → size_perhaps (perhaps_in nothing b) ≡ perhaps_size b
perhaps_sized None = refl
perhaps_sized (Some a) = refl

module _ (n : Node) where
  pub negated_sized : (b : Box Node Global) (x : Node) → n.kind ≡ kinds.Negated b → x ≡ b.value → node_size n ≡ 8 + node_size x
  negated_sized b x q p = kind_sized n (typed.Negated (node_view nothing b.value)) (ap (kind_view nothing) q) ∙ ap (λ (y : Node). 8 + node_size y) (sym p)

  pub abs_sized : (b : Box Node Global) (x : Node) → n.kind ≡ kinds.Abs b → x ≡ b.value → node_size n ≡ 8 + node_size x
  abs_sized b x q p = kind_sized n (typed.Abs (node_view nothing b.value)) (ap (kind_view nothing) q) ∙ ap (λ (y : Node). 8 + node_size y) (sym p)

  pub signed_sized : (minus : Bool) (b : Box Node Global) (x : Node) → n.kind ≡ kinds.Signed minus b → x ≡ b.value → node_size n ≡ 8 + node_size x
  signed_sized minus b x q p = kind_sized n (typed.Signed minus (node_view nothing b.value)) (ap (kind_view nothing) q) ∙ ap (λ (y : Node). 8 + node_size y) (sym p)

  pub chain_sized : (b : Box Node Global) (v : Vec TypedLink Global) (x : Node) (links : List TypedLink) → n.kind ≡ kinds.Chain b v → x ≡ b.value → links ≡ v.items → node_size n ≡ 8 + (node_size x + size_links (links_in nothing links))
  chain_sized b v x links q p o = kind_sized n (typed.Chain (node_view nothing b.value) (links_in nothing links)) (chain_kind nothing n b v links q o) ∙ ap (λ (y : Node). 8 + (node_size y + size_links (links_in nothing links))) (sym p)

  pub relation_sized : (o : RelOp) (a b : Box Node Global) (x y : Node) → n.kind ≡ kinds.Relation o a b → x ≡ a.value → y ≡ b.value → node_size n ≡ 8 + (node_size x + node_size y)
  relation_sized o a b x y q p r = kind_sized n (typed.Relation o (node_view nothing a.value) (node_view nothing b.value)) (ap (kind_view nothing) q) ∙ ap (λ (z : Node). 8 + (node_size z + node_size b.value)) (sym p) ∙ ap (λ (z : Node). 8 + (node_size x + node_size z)) (sym r)

  pub is_class_sized : (a : Box Node Global) (class : ℕ) (at : Place) (x : Node) → n.kind ≡ kinds.IsClass a class at → x ≡ a.value → node_size n ≡ 8 + node_size x
  is_class_sized a class at x q p = kind_sized n (typed.IsClass (node_view nothing a.value) (numbered nothing.names class) at) (ap (kind_view nothing) q) ∙ ap (λ (z : Node). 8 + node_size z) (sym p)

  pub assign_sized : (a b : Box Node Global) (x y : Node) → n.kind ≡ kinds.Assign a b → x ≡ a.value → y ≡ b.value → node_size n ≡ 8 + (node_size x + node_size y)
  assign_sized a b x y q p r = kind_sized n (typed.Assign (node_view nothing a.value) (node_view nothing b.value)) (ap (kind_view nothing) q) ∙ ap (λ (z : Node). 8 + (node_size z + node_size b.value)) (sym p) ∙ ap (λ (z : Node). 8 + (node_size x + node_size z)) (sym r)

  pub if_sized : (c a : Box Node Global) (o : Option (Box Node Global)) (x y : Node) (b : Option (Bor Node)) → n.kind ≡ kinds.IfThen c a o → x ≡ c.value → y ≡ a.value → option_map (λ (z : Bor Node). z.now) b ≡ option_map (λ (d : Box Node Global). d.value) o → node_size n ≡ 8 + (node_size x + (node_size y + perhaps_size b))
  if_sized c a o x y b q p r t = kind_sized n (typed.IfThen (node_view nothing c.value) (node_view nothing a.value) (perhaps_in nothing b)) (if_kind nothing n c a o b q t) ∙ ap (λ (z : Node). 8 + (node_size z + (node_size a.value + size_perhaps (perhaps_in nothing b)))) (sym p) ∙ ap (λ (z : Node). 8 + (node_size x + (node_size z + size_perhaps (perhaps_in nothing b)))) (sym r) ∙ ap (λ k. 8 + (node_size x + (node_size y + k))) (perhaps_sized b)

  pub case_value_sized : (c : Box Node Global) (v : Vec Node Global) (x : Node) (values : List Node) → n.kind ≡ kinds.CaseValue c v → x ≡ c.value → values ≡ v.items → node_size n ≡ 8 + (node_size x + size_nodes (nodes_in nothing values))
  case_value_sized c v x values q p o = kind_sized n (typed.CaseValue (node_view nothing c.value) (nodes_in nothing values)) (case_value_kind nothing n c v values q o) ∙ ap (λ (z : Node). 8 + (node_size z + size_nodes (nodes_in nothing values))) (sym p)

  pub case_do_sized : (c : Box Node Global) (v : Vec TypedPart Global) (x : Node) (parts : List TypedPart) → n.kind ≡ kinds.CaseDo c v → x ≡ c.value → parts ≡ v.items → node_size n ≡ 8 + (node_size x + size_nodes (parts_in nothing parts))
  case_do_sized c v x parts q p o = kind_sized n (typed.CaseDo (node_view nothing c.value) (parts_in nothing parts)) (case_do_kind nothing n c v parts q o) ∙ ap (λ (z : Node). 8 + (node_size z + size_nodes (parts_in nothing parts))) (sym p)

  pub for_step_sized : (i : ℕ) (a : Box Node Global) (o : Option (Box Node Global)) (c body : Box Node Global) (x : Node) (b : Option (Bor Node)) (y z : Node) → n.kind ≡ kinds.ForStep i a o c body → x ≡ a.value → option_map (λ (w : Bor Node). w.now) b ≡ option_map (λ (d : Box Node Global). d.value) o → y ≡ c.value → z ≡ body.value → node_size n ≡ 8 + (node_size x + (perhaps_size b + (node_size y + node_size z)))
  for_step_sized i a o c body x b y z q p t r s =
      kind_sized n (typed.ForStep (numbered nothing.names i) (node_view nothing a.value) (perhaps_in nothing b) (node_view nothing c.value) (node_view nothing body.value)) (for_step_kind nothing n i a o c body b q t)
      ∙ ap (λ (w : Node). 8 + (node_size w + (size_perhaps (perhaps_in nothing b) + (node_size c.value + node_size body.value)))) (sym p)
      ∙ ap (λ k. 8 + (node_size x + (k + (node_size c.value + node_size body.value)))) (perhaps_sized b)
      ∙ ap (λ (w : Node). 8 + (node_size x + (perhaps_size b + (node_size w + node_size body.value)))) (sym r)
      ∙ ap (λ (w : Node). 8 + (node_size x + (perhaps_size b + (node_size y + node_size w)))) (sym s)

  pub for_list_sized : (i : ℕ) (v : Vec Node Global) (body : Box Node Global) (values : List Node) (x : Node) → n.kind ≡ kinds.ForList i v body → values ≡ v.items → x ≡ body.value → node_size n ≡ 8 + (size_nodes (nodes_in nothing values) + node_size x)
  for_list_sized i v body values x q o p = kind_sized n (typed.ForList (numbered nothing.names i) (nodes_in nothing values) (node_view nothing body.value)) (for_list_kind nothing n i v body values q o) ∙ ap (λ (w : Node). 8 + (size_nodes (nodes_in nothing values) + node_size w)) (sym p)

  pub while_sized : (c body : Box Node Global) (x y : Node) → n.kind ≡ kinds.WhileDo c body → x ≡ c.value → y ≡ body.value → node_size n ≡ 8 + (node_size x + node_size y)
  while_sized c body x y q p r = kind_sized n (typed.WhileDo (node_view nothing c.value) (node_view nothing body.value)) (ap (kind_view nothing) q) ∙ ap (λ (z : Node). 8 + (node_size z + node_size body.value)) (sym p) ∙ ap (λ (z : Node). 8 + (node_size x + node_size z)) (sym r)

  pub assert_sized : (a : Box Node Global) (x : Node) → n.kind ≡ kinds.Assert a → x ≡ a.value → node_size n ≡ 8 + node_size x
  assert_sized a x q p = kind_sized n (typed.Assert (node_view nothing a.value)) (ap (kind_view nothing) q) ∙ ap (λ (y : Node). 8 + node_size y) (sym p)

  pub block_sized : (v : Vec TypedDecl Global) (w : Vec TypedItem Global) (decls : List TypedDecl) (items : List TypedItem) → n.kind ≡ kinds.Block v w → decls ≡ v.items → items ≡ w.items → node_size n ≡ 8 + (size_decls (decls_in nothing decls) + size_items (items_in nothing items))
  block_sized v w decls items q p o = kind_sized n (typed.Block (decls_in nothing decls) (items_in nothing items)) (block_kind nothing n v w decls items q p o)

  pub named_sized : (i : ℕ) (v : Vec TypedList Global) (lists : List TypedList) → n.kind ≡ kinds.Named i v → lists ≡ v.items → node_size n ≡ 8 + size_lists (lists_in nothing lists)
  named_sized i v lists q o = kind_sized n (typed.Named (numbered nothing.names i) (lists_in nothing lists)) (named_kind nothing n i v lists q o)

-- ---- what is known of each part

module _ (e : Emitter) (n : Node) (r : IsCodable e (node_in n)) where
  pub negated_given : (b : Box Node Global) (x : Node) → n.kind ≡ kinds.Negated b → x ≡ b.value → IsCodable e (node_in x)
  negated_given b x q p = codable_now e x b.value p (negated_known e n r b q)

  pub abs_given : (b : Box Node Global) (x : Node) → n.kind ≡ kinds.Abs b → x ≡ b.value → IsCodable e (node_in x)
  abs_given b x q p = codable_now e x b.value p (abs_known e n r b q)

  pub signed_given : (minus : Bool) (b : Box Node Global) (x : Node) → n.kind ≡ kinds.Signed minus b → x ≡ b.value → IsCodable e (node_in x)
  signed_given minus b x q p = codable_now e x b.value p (signed_known e n r minus b q)

  pub chain_given : (b : Box Node Global) (v : Vec TypedLink Global) (x : Node) (links : List TypedLink) → n.kind ≡ kinds.Chain b v → x ≡ b.value → links ≡ v.items → IsCodable e (with_kind n (chain_of x links))
  chain_given b v x links q p o = subst (λ (y : Node). IsCodable e (with_kind n (chain_of y links))) (sym p) (chain_known e n r b v links q o)

  pub relation_given : (o : RelOp) (a b : Box Node Global) (x y : Node) → n.kind ≡ kinds.Relation o a b → x ≡ a.value → y ≡ b.value → IsCodable e (node_in x) × IsCodable e (node_in y)
  relation_given o a b x y q p t = let both = relation_known e n r o a b q in (codable_now e x a.value p both.0, codable_now e y b.value t both.1)

  pub is_class_given : (a : Box Node Global) (class : ℕ) (at : Place) (x : Node) → n.kind ≡ kinds.IsClass a class at → x ≡ a.value → IsCodable e (node_in x) × InstrFits e.code.given e.code.added (class_test (class_at e.symbols.classes class))
  is_class_given a class at x q p =
      let k = is_class_known e n r a class at q in
      (codable_now e x a.value p (is_class_ready e n (node_in a.value) (λ s. numbered (numbers_in s).names class) at k), class_test_fits e n (node_in a.value) class at k)

  pub assign_given : (a b : Box Node Global) (x y : Node) → n.kind ≡ kinds.Assign a b → x ≡ a.value → y ≡ b.value → IsCodable e (with_kind n (assign_of x y))
  assign_given a b x y q p t = subst (λ (z : Node). IsCodable e (with_kind n (assign_of z y))) (sym p) (subst (λ (z : Node). IsCodable e (with_kind n (assign_of a.value z))) (sym t) (assign_known e n r a b q))

  pub if_given : (c a : Box Node Global) (o : Option (Box Node Global)) (x y : Node) (b : Option (Bor Node)) → n.kind ≡ kinds.IfThen c a o → x ≡ c.value → y ≡ a.value → option_map (λ (z : Bor Node). z.now) b ≡ option_map (λ (d : Box Node Global). d.value) o → IsCodable e (with_kind n (if_of x y b))
  if_given c a o x y b q p t u = subst (λ (z : Node). IsCodable e (with_kind n (if_of z y b))) (sym p) (subst (λ (z : Node). IsCodable e (with_kind n (if_of c.value z b))) (sym t) (if_known e n r c a o b q u))

  pub case_value_given : (c : Box Node Global) (v : Vec Node Global) (x : Node) (values : Bor (List Node)) → n.kind ≡ kinds.CaseValue c v → x ≡ c.value → values.now ≡ v.items → IsCodable e (with_kind n (case_of x (choice.Values values)))
  case_value_given c v x values q p o = subst (λ (z : Node). IsCodable e (with_kind n (case_of z (choice.Values values)))) (sym p) (case_value_known e n r c v values q o)

  pub case_do_given : (c : Box Node Global) (v : Vec TypedPart Global) (x : Node) (parts : Bor (List TypedPart)) → n.kind ≡ kinds.CaseDo c v → x ≡ c.value → parts.now ≡ v.items → IsCodable e (with_kind n (case_of x (choice.Statements parts)))
  case_do_given c v x parts q p o = subst (λ (z : Node). IsCodable e (with_kind n (case_of z (choice.Statements parts)))) (sym p) (case_do_known e n r c v parts q o)

  pub for_step_given : (i : ℕ) (a : Box Node Global) (o : Option (Box Node Global)) (c body : Box Node Global) (x : Node) (b : Option (Bor Node)) (y z : Node) → n.kind ≡ kinds.ForStep i a o c body → x ≡ a.value → option_map (λ (w : Bor Node). w.now) b ≡ option_map (λ (d : Box Node Global). d.value) o → y ≡ c.value → z ≡ body.value → IsCodable e (with_kind n (for_step_of i x b y z))
  for_step_given i a o c body x b y z q p t u v =
      subst (λ (w : Node). IsCodable e (with_kind n (for_step_of i w b y z))) (sym p)
      (subst (λ (w : Node). IsCodable e (with_kind n (for_step_of i a.value b w z))) (sym u)
      (subst (λ (w : Node). IsCodable e (with_kind n (for_step_of i a.value b c.value w))) (sym v) (for_step_known e n r i a o c body b q t)))

  pub for_list_given : (i : ℕ) (v : Vec Node Global) (body : Box Node Global) (values : List Node) (x : Node) → n.kind ≡ kinds.ForList i v body → values ≡ v.items → x ≡ body.value → IsCodable e (with_kind n (for_list_of i values x))
  for_list_given i v body values x q o p = subst (λ (w : Node). IsCodable e (with_kind n (for_list_of i values w))) (sym p) (for_list_known e n r i v body values q o)

  pub while_given : (c body : Box Node Global) (x y : Node) → n.kind ≡ kinds.WhileDo c body → x ≡ c.value → y ≡ body.value → IsCodable e (with_kind n (while_of x y))
  while_given c body x y q p t = subst (λ (z : Node). IsCodable e (with_kind n (while_of z y))) (sym p) (subst (λ (z : Node). IsCodable e (with_kind n (while_of c.value z))) (sym t) (while_known e n r c body q))

  pub assert_given : (a : Box Node Global) (x : Node) → n.kind ≡ kinds.Assert a → x ≡ a.value → IsCodable e (node_in x)
  assert_given a x q p = codable_now e x a.value p (assert_ready e n (node_in a.value) (assert_known e n r a q))

-- ---- what is coded

module _ {e b : Emitter} {m : ℕ} (here : Here) (wanted : Mode) (n : Node) where
  pub negated_told : (a : Box Node Global) (x : Node) (op : UnaryOp) → n.kind ≡ kinds.Negated a → x ≡ a.value → op ≡ negation n.gives → CodesBefore e b here (phrase_in (scene e) (node_in x (scene e))) (held.Unary op) m → CodesNode e b here wanted (node_in n) m
  negated_told a x op q p o part = negated_coded here wanted n a q (before_now here x a.value (held.Unary op) (held.Unary (negation n.gives)) p (ap held.Unary o) part)

  pub abs_told : (a : Box Node Global) (x : Node) → n.kind ≡ kinds.Abs a → x ≡ a.value → CodesBefore e b here (phrase_in (scene e) (node_in x (scene e))) (held.Unary unary.Absolute) m → CodesNode e b here wanted (node_in n) m
  abs_told a x q p part = abs_coded here wanted n a q (before_now here x a.value (held.Unary unary.Absolute) (held.Unary unary.Absolute) p refl part)

  pub minus_told : (minus : Bool) (a : Box Node Global) (x : Node) → minus ≡ true → n.kind ≡ kinds.Signed minus a → x ≡ a.value → CodesBefore e b here (phrase_in (scene e) (node_in x (scene e))) (held.Unary unary.Minus) m → CodesNode e b here wanted (node_in n) m
  minus_told minus a x is q p part = minus_coded here wanted n a (q ∙ ap (λ by. kinds.Signed by a) is) (before_now here x a.value (held.Unary unary.Minus) (held.Unary unary.Minus) p refl part)

  pub plus_told : (minus : Bool) (a : Box Node Global) (x : Node) → minus ≡ false → n.kind ≡ kinds.Signed minus a → x ≡ a.value → CodesNode e b here wanted (node_in x) m → CodesNode e b here wanted (node_in n) m
  plus_told minus a x is q p part = plus_coded here wanted n a (q ∙ ap (λ by. kinds.Signed by a) is) (node_now here wanted x a.value p part)

  pub chain_told : (a : Box Node Global) (v : Vec TypedLink Global) (x : Node) (links : List TypedLink) → n.kind ≡ kinds.Chain a v → x ≡ a.value → links ≡ v.items → CodesNode e b here wanted (with_kind n (chain_of x links)) m → CodesNode e b here wanted (node_in n) m
  chain_told a v x links q p o part = chain_coded here wanted n a v links q o (subst (λ (y : Node). CodesNode e b here wanted (with_kind n (chain_of y links)) m) p part)

  pub relation_told : (o : RelOp) (a c : Box Node Global) (x y : Node) → n.kind ≡ kinds.Relation o a c → x ≡ a.value → y ≡ c.value → CodesPair e b here mode.Value (phrase_in (scene e) (node_in x (scene e))) (phrase_in (scene e) (node_in y (scene e))) (held.Relation o) m → CodesNode e b here wanted (node_in n) m
  relation_told o a c x y q p t part =
      relation_coded here wanted n o a c q
      (subst (λ (z : Node). CodesPair e b here mode.Value (phrase_in (scene e) (node_in a.value (scene e))) (phrase_in (scene e) (node_in z (scene e))) (held.Relation o) m) t
      (subst (λ (z : Node). CodesPair e b here mode.Value (phrase_in (scene e) (node_in z (scene e))) (phrase_in (scene e) (node_in y (scene e))) (held.Relation o) m) p part))

  pub is_class_told : (a : Box Node Global) (class : ℕ) (at : Place) (x : Node) → n.kind ≡ kinds.IsClass a class at → x ≡ a.value → IsCodable e (node_in n) → CodesBefore e b here (phrase_in (scene e) (node_in x (scene e))) (class_test (class_at e.symbols.classes class)) m → CodesNode e b here wanted (node_in n) m
  is_class_told a class at x q p r part = is_class_coded here wanted n a class at q r (before_now here x a.value _ _ p refl part)

  pub assign_told : (a c : Box Node Global) (x y : Node) → n.kind ≡ kinds.Assign a c → x ≡ a.value → y ≡ c.value → CodesNode e b here mode.Value (with_kind n (assign_of x y)) m → CodesNode e b here wanted (node_in n) m
  assign_told a c x y q p t part = assign_coded here wanted n a c q (subst (λ (z : Node). CodesNode e b here mode.Value (with_kind n (assign_of a.value z)) m) t (subst (λ (z : Node). CodesNode e b here mode.Value (with_kind n (assign_of z y)) m) p part))

  pub if_told : (c a : Box Node Global) (o : Option (Box Node Global)) (x y : Node) (z : Option (Bor Node)) → n.kind ≡ kinds.IfThen c a o → x ≡ c.value → y ≡ a.value → option_map (λ (w : Bor Node). w.now) z ≡ option_map (λ (d : Box Node Global). d.value) o → CodesNode e b here mode.Value (with_kind n (if_of x y z)) m → CodesNode e b here wanted (node_in n) m
  if_told c a o x y z q p t u part = if_coded here wanted n c a o z q u (subst (λ (w : Node). CodesNode e b here mode.Value (with_kind n (if_of c.value w z)) m) t (subst (λ (w : Node). CodesNode e b here mode.Value (with_kind n (if_of w y z)) m) p part))

  pub case_value_told : (c : Box Node Global) (v : Vec Node Global) (x : Node) (values : Bor (List Node)) → n.kind ≡ kinds.CaseValue c v → x ≡ c.value → values.now ≡ v.items → CodesNode e b here mode.Value (with_kind n (case_of x (choice.Values values))) m → CodesNode e b here wanted (node_in n) m
  case_value_told c v x values q p o part = case_value_coded here wanted n c v values q o (subst (λ (w : Node). CodesNode e b here mode.Value (with_kind n (case_of w (choice.Values values))) m) p part)

  pub case_do_told : (c : Box Node Global) (v : Vec TypedPart Global) (x : Node) (parts : Bor (List TypedPart)) → n.kind ≡ kinds.CaseDo c v → x ≡ c.value → parts.now ≡ v.items → CodesNode e b here mode.Value (with_kind n (case_of x (choice.Statements parts))) m → CodesNode e b here wanted (node_in n) m
  case_do_told c v x parts q p o part = case_do_coded here wanted n c v parts q o (subst (λ (w : Node). CodesNode e b here mode.Value (with_kind n (case_of w (choice.Statements parts))) m) p part)

  pub for_step_told : (i : ℕ) (a : Box Node Global) (o : Option (Box Node Global)) (c body : Box Node Global) (x : Node) (t : Option (Bor Node)) (y z : Node) → n.kind ≡ kinds.ForStep i a o c body → x ≡ a.value → option_map (λ (w : Bor Node). w.now) t ≡ option_map (λ (d : Box Node Global). d.value) o → y ≡ c.value → z ≡ body.value → CodesNode e b here mode.Value (with_kind n (for_step_of i x t y z)) m → CodesNode e b here wanted (node_in n) m
  for_step_told i a o c body x t y z q p u v w part =
      for_step_coded here wanted n i a o c body t q u
      (subst (λ (k : Node). CodesNode e b here mode.Value (with_kind n (for_step_of i a.value t c.value k)) m) w
      (subst (λ (k : Node). CodesNode e b here mode.Value (with_kind n (for_step_of i a.value t k z)) m) v
      (subst (λ (k : Node). CodesNode e b here mode.Value (with_kind n (for_step_of i k t y z)) m) p part)))

  pub for_list_told : (i : ℕ) (v : Vec Node Global) (body : Box Node Global) (values : List Node) (x : Node) → n.kind ≡ kinds.ForList i v body → values ≡ v.items → x ≡ body.value → CodesNode e b here mode.Value (with_kind n (for_list_of i values x)) m → CodesNode e b here wanted (node_in n) m
  for_list_told i v body values x q o p part = for_list_coded here wanted n i v body values q o (subst (λ (w : Node). CodesNode e b here mode.Value (with_kind n (for_list_of i values w)) m) p part)

  pub while_told : (c body : Box Node Global) (x y : Node) → n.kind ≡ kinds.WhileDo c body → x ≡ c.value → y ≡ body.value → CodesNode e b here mode.Value (with_kind n (while_of x y)) m → CodesNode e b here wanted (node_in n) m
  while_told c body x y q p t part = while_coded here wanted n c body q (subst (λ (w : Node). CodesNode e b here mode.Value (with_kind n (while_of c.value w)) m) t (subst (λ (w : Node). CodesNode e b here mode.Value (with_kind n (while_of w y)) m) p part))

  pub assert_told : (a : Box Node Global) (x : Node) → n.kind ≡ kinds.Assert a → x ≡ a.value → IsCodable e (node_in n) → CodesStatement e b (in_statement here n.statement) (phrase_in (scene e) (node_in x (scene e))) held.Assert m → CodesNode e b here wanted (node_in n) m
  assert_told a x q p r part = assert_coded here wanted n a q r (subst (λ (w : Node). CodesStatement e b (in_statement here n.statement) (phrase_in (scene e) (node_in w (scene e))) held.Assert m) p part)
