-- Bounds of a block have none of its names, so they are the same in it and round it.
use Rattle.std.proofs.Common.{◌≡◌, ℕ, ◌+◌, List, [], ◌∷◌, length, refl, ap, ◌∙◌, subst, arith}
use Rattle.std.specs.Prelude.{Bool, true, false, Option, Some}
use Rattle.value_ops.specs.declared.places.Place.{Place}
use Rattle.algolw_typing.specs.Types.{has, is_place}
use Rattle.program_meaning.specs.Copying.{dimensions}
use Rattle.program_meaning.specs.Phrases.{Bounds, no_bounds, bound_and, Decls, no_decls, variables_and, arrays_and, procedure_and, Items, no_items, item_and, Name, block_places, decl_places, label_places, places}
use Rattle.phrase_code.specs.Coding as coding
use Rattle.phrase_code.specs.Coding.{◌▸◌, Stand, block_context, body_context, code_bounds, code_decls, decl_stands, declare_arrays_code, declare_code, item_stands, known, label_stands, name_stands, one, result_code, stand_at, with_entries}
use Rattle.phrase_code.specs.Sizes.{Kind, Known, block_known, bounds_size, decls_known, decls_size, formals_known, items_known, kind_at, labels_known, name_known, result_size, size, text_size}
use Rattle.compilable_programs.specs.Suits.{BoundsAvoid, BoundsSuit, DeclsAvoid, DeclsSuit}
use Rattle.stack_code.specs.Code as code
use Rattle.stack_code.specs.Instr as instr
use Rattle.symbol_table.specs.Targets.{DeclsStand}
use Rattle.symbol_table.proofs.Fresh.{had_in_neither, neither}
use Rattle.compilable_programs.proofs.AvoidedSizes.{KnownBut, size_avoids}
use Rattle.compilable_programs.proofs.AvoidedSuits.{suits_avoids}
use Rattle.compilable_programs.proofs.Avoiding.{SameBut, code_avoids}

-- ---- what stands for other names

not_first : {X : Type 0} (b : Bool) (x : X) (y z : Option X) → b ≡ false → y ≡ z → elim b [ true ↦ Some x | false ↦ y ] ≡ z
not_first true x y z e f = cc
not_first false x y z e f = f

module _ (x : Place) where
  names_beyond : (kind : Kind) (level position : ℕ) (xs : List Name) (names : List Stand) → has (places xs) x ≡ false → stand_at (name_stands kind level position xs names) x ≡ stand_at names x
  names_beyond kind level position [] names h = refl
  names_beyond kind level position (y ∷ ys) names h =
      let n = neither (is_place y.place x) (has (places ys) x) h in
      not_first (is_place y.place x) _ _ _ n.0 (names_beyond kind level (position + 1) ys names n.1)

  labels_beyond : (level mark target : ℕ) (xs : List Place) (names : List Stand) → has xs x ≡ false → stand_at (label_stands level mark target xs names) x ≡ stand_at names x
  labels_beyond level mark target [] names h = refl
  labels_beyond level mark target (y ∷ ys) names h =
      let n = neither (is_place y x) (has ys x) h in
      not_first (is_place y x) _ _ _ n.0 (labels_beyond level mark target ys names n.1)

  items_beyond : (inside : List Known) (level mark k : ℕ) (items : Items) (names : List Stand) → has (label_places items) x ≡ false → stand_at (item_stands inside level mark k items names) x ≡ stand_at names x
  items_beyond inside level mark k no_items names h = refl
  items_beyond inside level mark k (item_and labels a rest) names h =
      let n = had_in_neither labels (label_places rest) x h in
      labels_beyond level mark k labels (item_stands inside level mark (k + size inside a) rest names) n.0 ∙ items_beyond inside level mark (k + size inside a) rest names n.1

  decls_beyond : (outside inside : List Known) (level position k : ℕ) (decls : Decls) (names : List Stand) → has (decl_places decls) x ≡ false → stand_at (decl_stands outside inside level position k decls names) x ≡ stand_at names x
  decls_beyond outside inside level position k no_decls names h = refl
  decls_beyond outside inside level position k (variables_and xs rest) names h =
      let n = had_in_neither (places xs) (decl_places rest) x h in
      names_beyond _ level position xs _ n.0 ∙ decls_beyond outside inside level (position + length xs) (k + length xs) rest names n.1
  decls_beyond outside inside level position k (arrays_and t xs pairs rest) names h =
      let n = had_in_neither (places xs) (decl_places rest) x h in
      names_beyond _ level position xs _ n.0 ∙ decls_beyond outside inside level (position + length xs) (k + (bounds_size outside pairs + (1 + length xs))) rest names n.1
  decls_beyond outside inside level position k (procedure_and y result formals body rest) names h =
      let n = neither (is_place y.place x) (has (decl_places rest) x) h in
      not_first (is_place y.place x) _ _ _ n.0 (decls_beyond outside inside level position (k + decls_size outside inside (procedure_and y result formals body no_decls)) rest names n.1)

  pub block_beyond : (c : coding.Context) (k : ℕ) (decls : Decls) (items : Items) → has (block_places decls items) x ≡ false → stand_at (block_context c k decls items).names x ≡ stand_at c.names x
  block_beyond c k decls items h =
      let n = had_in_neither (decl_places decls) (label_places items) x h in
      let inside : List Known = block_known decls items (known c) in
      decls_beyond (known c) inside c.level (c.count + 1) k decls _ n.0
      ∙ items_beyond inside c.level (c.count + 1 + coding.entry_count decls) (k + (decls_size (known c) inside decls + 1)) items c.names n.1

  -- the same of what is known of them
  kinds_beyond : (kind : Kind) (xs : List Name) (known : List Known) → has (places xs) x ≡ false → kind_at (name_known kind xs known) x ≡ kind_at known x
  kinds_beyond kind [] known h = refl
  kinds_beyond kind (y ∷ ys) known h =
      let n = neither (is_place y.place x) (has (places ys) x) h in
      not_first (is_place y.place x) _ _ _ n.0 (kinds_beyond kind ys known n.1)

  label_kinds_beyond : (xs : List Place) (known : List Known) → has xs x ≡ false → kind_at (labels_known xs known) x ≡ kind_at known x
  label_kinds_beyond [] known h = refl
  label_kinds_beyond (y ∷ ys) known h =
      let n = neither (is_place y x) (has ys x) h in
      not_first (is_place y x) _ _ _ n.0 (label_kinds_beyond ys known n.1)

  item_kinds_beyond : (items : Items) (known : List Known) → has (label_places items) x ≡ false → kind_at (items_known items known) x ≡ kind_at known x
  item_kinds_beyond no_items known h = refl
  item_kinds_beyond (item_and labels a rest) known h =
      let n = had_in_neither labels (label_places rest) x h in
      label_kinds_beyond labels (items_known rest known) n.0 ∙ item_kinds_beyond rest known n.1

  decl_kinds_beyond : (decls : Decls) (known : List Known) → has (decl_places decls) x ≡ false → kind_at (decls_known decls known) x ≡ kind_at known x
  decl_kinds_beyond no_decls known h = refl
  decl_kinds_beyond (variables_and xs rest) known h =
      let n = had_in_neither (places xs) (decl_places rest) x h in
      kinds_beyond _ xs (decls_known rest known) n.0 ∙ decl_kinds_beyond rest known n.1
  decl_kinds_beyond (arrays_and t xs pairs rest) known h =
      let n = had_in_neither (places xs) (decl_places rest) x h in
      kinds_beyond _ xs (decls_known rest known) n.0 ∙ decl_kinds_beyond rest known n.1
  decl_kinds_beyond (procedure_and y result formals body rest) known h =
      let n = neither (is_place y.place x) (has (decl_places rest) x) h in
      not_first (is_place y.place x) _ _ _ n.0 (decl_kinds_beyond rest known n.1)

  pub block_kinds_beyond : (decls : Decls) (items : Items) (known : List Known) → has (block_places decls items) x ≡ false → kind_at (block_known decls items known) x ≡ kind_at known x
  block_kinds_beyond decls items known h =
      let n = had_in_neither (decl_places decls) (label_places items) x h in
      decl_kinds_beyond decls (items_known items known) n.0 ∙ item_kinds_beyond items known n.1

-- ---- bounds that avoid names

module _ (beyond : List Place) where
  bounds_size_avoids : (one other : List Known) → KnownBut beyond one other → (bounds : Bounds) → BoundsAvoid beyond bounds → bounds_size one bounds ≡ bounds_size other bounds
  bounds_size_avoids one other h no_bounds free = refl
  bounds_size_avoids one other h (bound_and a b rest) free =
      let e = size_avoids beyond one other h a free.0 in
      let f = size_avoids beyond one other h b free.1 in
      let g = bounds_size_avoids one other h rest free.2 in
      omega (arith, e, f, g)

  bounds_code_avoids : (c d : coding.Context) → SameBut beyond c d → KnownBut beyond (known c) (known d) → (bounds : Bounds) → BoundsAvoid beyond bounds → (w : Place) (k : ℕ) → code_bounds c w k bounds ≡ code_bounds d w k bounds
  bounds_code_avoids c d h ks no_bounds free w k = refl
  bounds_code_avoids c d h ks (bound_and a b rest) free w k =
      let p : List code.Coded = one w instr.Push in
      let first : List code.Coded = coding.code d w instr.the_value k a in
      let m : ℕ = k + (size (known d) a + 1) in
      let second : List code.Coded = coding.code d w instr.the_value m b in
      let e = size_avoids beyond (known c) (known d) ks a free.0 in
      let f = size_avoids beyond (known c) (known d) ks b free.1 in
      ap (λ l. l ▸ p ▸ coding.code c w instr.the_value (k + (size (known c) a + 1)) b ▸ p ▸ code_bounds c w (k + (size (known c) a + (1 + (size (known c) b + 1)))) rest) (code_avoids beyond c d h a free.0 w instr.the_value k)
      ∙ ap (λ l. first ▸ p ▸ l ▸ p ▸ code_bounds c w (k + (size (known c) a + (1 + (size (known c) b + 1)))) rest) (code_avoids beyond c d h b free.1 w instr.the_value (k + (size (known c) a + 1)))
      ∙ ap (λ n. first ▸ p ▸ coding.code d w instr.the_value (k + (n + 1)) b ▸ p ▸ code_bounds c w (k + (n + (1 + (size (known c) b + 1)))) rest) e
      ∙ ap (λ n. first ▸ p ▸ second ▸ p ▸ code_bounds c w (k + (size (known d) a + (1 + (n + 1)))) rest) f
      ∙ ap (λ l. first ▸ p ▸ second ▸ p ▸ l) (bounds_code_avoids c d h ks rest free.2 w (k + (size (known d) a + (1 + (size (known d) b + 1)))))

  bounds_suit_avoids : (one other : List Known) → KnownBut beyond one other → (bounds : Bounds) → BoundsAvoid beyond bounds → BoundsSuit one bounds → BoundsSuit other bounds
  bounds_suit_avoids one other h no_bounds free s = s
  bounds_suit_avoids one other h (bound_and a b rest) free s =
      (suits_avoids beyond one other h a free.0 s.0, suits_avoids beyond one other h b free.1 s.1, bounds_suit_avoids one other h rest free.2 s.2)

  -- ---- declarations

  pub decls_size_avoids : (one other inside : List Known) → KnownBut beyond one other → (decls : Decls) → DeclsAvoid beyond decls → decls_size one inside decls ≡ decls_size other inside decls
  decls_size_avoids one other inside h no_decls free = refl
  decls_size_avoids one other inside h (variables_and xs rest) free = ap (λ n. length xs + n) (decls_size_avoids one other inside h rest free)
  decls_size_avoids one other inside h (arrays_and t xs pairs rest) free =
      ap (λ n. n + (1 + (length xs + decls_size one inside rest))) (bounds_size_avoids one other h pairs free.0)
      ∙ ap (λ n. bounds_size other pairs + (1 + (length xs + n))) (decls_size_avoids one other inside h rest free.1)
  decls_size_avoids one other inside h (procedure_and x result formals body rest) free = ap (λ n. text_size (size (formals_known formals inside) body + result_size result) + n) (decls_size_avoids one other inside h rest free)

  pub decls_suit_avoids : (one other inside : List Known) → KnownBut beyond one other → (decls : Decls) → DeclsAvoid beyond decls → DeclsSuit one inside decls → DeclsSuit other inside decls
  decls_suit_avoids one other inside h no_decls free s = s
  decls_suit_avoids one other inside h (variables_and xs rest) free s = decls_suit_avoids one other inside h rest free s
  decls_suit_avoids one other inside h (arrays_and t xs pairs rest) free s = (bounds_suit_avoids one other h pairs free.0 s.0, decls_suit_avoids one other inside h rest free.1 s.1)
  decls_suit_avoids one other inside h (procedure_and x result formals body rest) free s = (s.0, decls_suit_avoids one other inside h rest free s.1)

  pub decls_stand_avoid : (one other inside : List Known) → KnownBut beyond one other → (k : ℕ) (decls : Decls) (ts : List ℕ) (n : ℕ) → DeclsAvoid beyond decls → DeclsStand one inside k decls ts n → DeclsStand other inside k decls ts n
  decls_stand_avoid one other inside h k no_decls ts n free s = s
  decls_stand_avoid one other inside h k (variables_and xs rest) ts n free s = decls_stand_avoid one other inside h (k + length xs) rest ts n free s
  decls_stand_avoid one other inside h k (arrays_and t xs pairs rest) ts n free s =
      subst (λ m. DeclsStand other inside (k + (m + (1 + length xs))) rest ts n) (bounds_size_avoids one other h pairs free.0)
      (decls_stand_avoid one other inside h (k + (bounds_size one pairs + (1 + length xs))) rest ts n free.1 s)
  decls_stand_avoid one other inside h k (procedure_and x result formals body rest) ts n free s =
      (s.0, decls_stand_avoid one other inside h (k + decls_size other inside (procedure_and x result formals body no_decls)) rest ts (n + 1) free s.1)

  further : (c d : coding.Context) (n : ℕ) → SameBut beyond c d → SameBut beyond (with_entries n c) (with_entries n d)
  further c d n h = record { names = h.names; level = h.level; count = ap (λ m. m + n) h.count }

  pub decls_code_avoids : (c d inside : coding.Context) → SameBut beyond c d → KnownBut beyond (known c) (known d) → (decls : Decls) → DeclsAvoid beyond decls → (w : Place) (k : ℕ) → code_decls c inside w k decls ≡ code_decls d inside w k decls
  decls_code_avoids c d inside h ks no_decls free w k = refl
  decls_code_avoids c d inside h ks (variables_and xs rest) free w k =
      ap (λ l. declare_code w xs ▸ l) (decls_code_avoids (with_entries (length xs) c) (with_entries (length xs) d) inside (further c d (length xs) h) ks rest free w (k + length xs))
  decls_code_avoids c d inside h ks (arrays_and t xs pairs rest) free w k =
      let n : ℕ = length xs in
      let second : List code.Coded = one w (instr.Bounds (dimensions pairs)) in
      let third : List code.Coded = declare_arrays_code w t xs in
      ap (λ l. l ▸ second ▸ third ▸ code_decls (with_entries n c) inside w (k + (bounds_size (known c) pairs + (1 + n))) rest) (bounds_code_avoids c d h ks pairs free.0 w k)
      ∙ ap (λ m. code_bounds d w k pairs ▸ second ▸ third ▸ code_decls (with_entries n c) inside w (k + (m + (1 + n))) rest) (bounds_size_avoids (known c) (known d) ks pairs free.0)
      ∙ ap (λ l. code_bounds d w k pairs ▸ second ▸ third ▸ l) (decls_code_avoids (with_entries n c) (with_entries n d) inside (further c d n h) ks rest free.1 w (k + (bounds_size (known d) pairs + (1 + n))))
  decls_code_avoids c d inside h ks (procedure_and x result formals body rest) free w k =
      let n : ℕ = text_size (size (known (body_context inside formals)) body + result_size result) in
      let first : List code.Coded = one w (instr.Procedure (record { name = x.text; result = result; formals = formals }) (k + n)) in
      let second : List code.Coded = coding.code (body_context inside formals) w instr.the_value (k + 1) body in
      ap (λ l. first ▸ second ▸ result_code w result ▸ one w instr.Return ▸ l) (decls_code_avoids c d inside h ks rest free w (k + n))
