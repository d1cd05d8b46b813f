-- A block, step by step.
use Rattle.std.proofs.Common.{◌≡◌, ℕ, ◌+◌, ◌<◌, max, List, [], ◌++◌, length, replicate, sym, ap, ◌∙◌, subst}
use Rattle.std.specs.Prelude.{None}
use Rattle.std.specs.List.{All}
use Rattle.algolw_tree.specs.declared.programs.Node.{Node}
use Rattle.algolw_tree.specs.declared.programs.TypedDecl.{TypedDecl}
use Rattle.algolw_tree.specs.declared.programs.TypedItem.{TypedItem}
use Rattle.phrase_code.specs.Marks.{decls_marks, items_marks}
use Rattle.stack_code.specs.declared.instructions.Instr.TheVariants as held
use Rattle.stack_code.specs.declared.instructions.Mode.{Mode}
use Rattle.symbol_table.specs.declared.here.Here.{Here}
use Rattle.symbol_table.specs.declared.standings.Standing.{Standing}
use Rattle.symbol_table.specs.declared.symbols.SymbolMark.{SymbolMark}
use Rattle.symbol_table.specs.Blocks.{block_names, entry_count, procedure_count, with_block}
use Rattle.symbol_table.specs.Heres.{in_statement, with_entries}
use Rattle.symbol_table.specs.Symbols.{mark_of, taken_back}
use Rattle.code_emitter.specs.declared.emitter.Emitter.{Emitter}
use Rattle.code_emitter.specs.Appending.{appended, begun, with_targets}
use Rattle.code_emitter.specs.Parts.{Codes, next, none_own, scene}
use Rattle.code_emitter.proofs.Joining.{codes_begun, codes_is}
use Rattle.stack_codegen.specs.Blocks.{AreDeclared, AreReserved, CodesScope, scope_own}
use Rattle.stack_codegen.specs.Codable.{CodesNode, IsCodable, IsCodableDecls, IsCodableItems}
use Rattle.stack_codegen.proofs.Ready.{ready_after}
use Rattle.stack_codegen.proofs.WholeBlocks.{are_declared, are_reserved, block_done, block_form, block_node, decls_ready, inner_done, items_ready, numbered_names, own_decls, own_items, within}

module _ {e b c d : Emitter} (here at outside : Here) (first count : ℕ) (node : Node) (decls : List TypedDecl) (items : List TypedItem) (r : IsCodable e (block_node node decls items)) (eb : b ≡ begun e here node.statement) (ec : c ≡ appended b at (held.EnterBlock node.place)) (eo : outside ≡ with_entries at 1) (ed : d ≡ with_targets c d.targets) where
  -- where it is begun
  begun_ready : IsCodable b (block_node node decls items)
  begun_ready = let begin = codes_is eb (codes_begun none_own e here node.statement r.fits.code) in ready_after begin.stays r

  steps : d ≡ with_targets (appended b at (held.EnterBlock node.place)) d.targets
  steps = ed ∙ ap (λ (x : Emitter). with_targets x d.targets) ec

  -- what declaring its names requires
  pub names_numbered : All (λ (name : ℕ × Standing). name.0 < d.symbols.count) (block_names d.symbols outside first decls items [])
  names_numbered =
      let here_names : All (λ (name : ℕ × Standing). name.0 < b.symbols.count) (block_names b.symbols (with_entries at 1) first decls items []) = numbered_names b at node decls items begun_ready first in
      subst (λ (x : Emitter). All (λ (name : ℕ × Standing). name.0 < x.symbols.count) (block_names x.symbols outside first decls items [])) (sym steps)
      (subst (λ (o : Here). All (λ (name : ℕ × Standing). name.0 < b.symbols.count) (block_names b.symbols o first decls items [])) (sym eo) here_names)

  module _ {f : Emitter} (ef : f ≡ record d { symbols = with_block d.symbols outside first decls items }) where
    there : f ≡ within b at node decls items begun_ready d.targets first
    there =
        ef
        ∙ ap (λ (o : Here). let x : Emitter = record d { symbols = with_block d.symbols o first decls items } in x) eo
        ∙ ap (λ (x : Emitter). let y : Emitter = record x { symbols = with_block x.symbols (with_entries at 1) first decls items } in y) steps

    pub block_decls_ready : IsCodableDecls f decls
    block_decls_ready = subst (λ (x : Emitter). IsCodableDecls x decls) (sym there) (decls_ready b at node decls items begun_ready d.targets first)

    pub block_items_ready : IsCodableItems f items
    block_items_ready = subst (λ (x : Emitter). IsCodableItems x items) (sym there) (items_ready b at node decls items begun_ready d.targets first)

    pub block_declared : AreDeclared f.symbols decls
    block_declared = subst (λ (x : Emitter). AreDeclared x.symbols decls) (sym there) (are_declared b at node decls items begun_ready d.targets first)

    module _ (many : count ≡ procedure_count decls + length items) (is_first : first ≡ length c.targets.items) (added : d.targets.items ≡ c.targets.items ++ replicate count None) where
      first_of : first ≡ length b.targets.items
      first_of = is_first ∙ ap (λ (x : Emitter). length x.targets.items) ec

      added_to : d.targets.items ≡ b.targets.items ++ replicate count None
      added_to = added ∙ ap (λ (x : Emitter). x.targets.items ++ replicate count None) ec

      pub block_reserved : AreReserved f (scope_own first decls items)
      block_reserved = subst (λ (x : Emitter). AreReserved x (scope_own first decls items)) (sym there) (are_reserved b at node decls items begun_ready d.targets first count many first_of added_to)

      pub block_closed : {g h z : Emitter} {m n : ℕ} (wanted : Mode) (inside : Here) (k : ℕ) (mark : SymbolMark) → at ≡ in_statement here node.statement → inside ≡ with_entries outside k → k ≡ entry_count decls + 1 → mark ≡ mark_of c.symbols → CodesScope f g outside inside first decls items m → h ≡ appended g at (held.LeaveBlock at.entries) → z ≡ record h { symbols = taken_back h.symbols mark } → n ≡ m + 2 → CodesNode e z here wanted (block_node node decls items) n
      block_closed {g} {h} {z} {m} {n} wanted inside k mark ea ei ek em scope eh ez en =
          let in_it : inside ≡ with_entries (with_entries at 1) (entry_count decls + 1) = ei ∙ ap (λ (o : Here). with_entries o k) eo ∙ ap (λ j. with_entries (with_entries at 1) j) ek in
          let marked : mark ≡ mark_of b.symbols = em ∙ ap (λ (x : Emitter). mark_of x.symbols) ec in
          let inner : CodesScope (within b at node decls items begun_ready d.targets first) g (with_entries at 1) (with_entries (with_entries at 1) (entry_count decls + 1)) first decls items m =
          subst (λ (x : Emitter). CodesScope x g (with_entries at 1) (with_entries (with_entries at 1) (entry_count decls + 1)) first decls items m) there
          (subst (λ (o : Here). CodesScope f g o (with_entries (with_entries at 1) (entry_count decls + 1)) first decls items m) eo
          (subst (λ (i : Here). CodesScope f g outside i first decls items m) in_it scope)) in
          let last : z ≡ record (appended g at (held.LeaveBlock at.entries)) { symbols = taken_back g.symbols (mark_of b.symbols) } =
          ez
          ∙ ap (λ (j : SymbolMark). let x : Emitter = record h { symbols = taken_back h.symbols j } in x) marked
          ∙ ap (λ (x : Emitter). let y : Emitter = record x { symbols = taken_back x.symbols (mark_of b.symbols) } in y) eh in
          let whole = inner_done b at node decls items begun_ready d.targets first count many first_of added_to inner in
          let q : ℕ = 2 + max (decls_marks (own_decls decls (scene b))) (items_marks (own_items decls items (scene b))) in
          block_done here wanted node decls items r eb
          (subst (λ j. Codes none_own b z (block_form (in_statement here node.statement) node.place (own_decls decls (scene b)) (own_items decls items (scene b)) (scene b) (next b)) q j) (sym en)
          (subst (λ (o : Here). Codes none_own b z (block_form o node.place (own_decls decls (scene b)) (own_items decls items (scene b)) (scene b) (next b)) q (m + 2)) ea (codes_is last whole)))
