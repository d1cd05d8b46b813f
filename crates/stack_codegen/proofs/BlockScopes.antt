-- What stands in a block is coded when its declarations and its items are.
use Rattle.std.proofs.Common.{◌≡◌, ℕ, ◌+◌, ◌≤◌, max, List, [], length, refl, sym, ap, ◌∙◌, subst, arith}
use Rattle.std.specs.Prelude.{Option}
use Rattle.algolw_tree.specs.declared.programs.TypedDecl.{TypedDecl}
use Rattle.algolw_tree.specs.declared.programs.TypedItem.{TypedItem}
use Rattle.phrase_code.specs.Coding.{◌▸◌, code_items, known, one}
use Rattle.phrase_code.specs.Marks.{decls_marks, items_marks}
use Rattle.phrase_code.specs.Sizes.{Known, decls_size}
use Rattle.phrase_code.proofs.Sizes.{decls_sized}
use Rattle.stack_code.specs.Instr as instr
use Rattle.stack_code.specs.declared.instructions.Instr.TheVariants as held
use Rattle.symbol_table.specs.declared.here.Here.{Here}
use Rattle.symbol_table.specs.Blocks.{procedure_count}
use Rattle.symbol_table.specs.Contexts.{Scene, coding_context}
use Rattle.symbol_table.specs.Targets.{ItemsStand}
use Rattle.code_emitter.specs.declared.emitter.Emitter.{Emitter}
use Rattle.code_emitter.specs.Appending.{appended, final_targets}
use Rattle.code_emitter.specs.Parts.{AreOpen, Codes, IsOwn, Meets, next, place_in, scene}
use Rattle.code_emitter.proofs.Composing.{Within, known_anywhere, meets_before, meets_final, open_after}
use Rattle.code_emitter.proofs.Emitting.{joined_assoc, next_appended}
use Rattle.code_emitter.proofs.Joining.{codes_as, codes_is, codes_joined, codes_then_plain, next_behind}
use Rattle.stack_codegen.specs.Blocks.{AreReserved, CodesDecls, CodesItems, CodesScope, declared_size, decls_code, decls_own, decls_phrase, items_own, items_phrase, scope_own}
use Rattle.stack_codegen.specs.Codable.{IsCodableItems, sizes_known}
use Rattle.stack_codegen.proofs.Ready.{ready_after}

pub decls_reserved : (e : Emitter) (target : ℕ) (decls : List TypedDecl) (items : List TypedItem) → AreReserved e (scope_own target decls items) → AreReserved e (decls_own target decls)
decls_reserved e target decls items r = let there = r.there in record { there = omega arith; open_ = λ n h. r.open_ n (h.0, omega (arith, h)) }

-- how many instructions the declarations are
length_decls : (s : Scene) (outside inside : Here) (decls : List TypedDecl) (k : ℕ) (ts : List ℕ) → length (decls_code s outside inside k (decls_phrase s decls) ts) ≡ declared_size s decls
length_decls s outside inside decls k ts =
    let sized = decls_sized (coding_context s ts outside) (coding_context s ts inside) (place_in s outside) k (decls_phrase s decls) in
    sized.by
    ∙ ap (λ (ks : List Known). decls_size ks (known (coding_context s ts inside)) (decls_phrase s decls)) (known_anywhere s outside ts [])
    ∙ ap (λ (ks : List Known). decls_size (sizes_known s) ks (decls_phrase s decls)) (known_anywhere s inside ts [])

module _ {a b c : Emitter} {m : ℕ} (outside inside : Here) (target : ℕ) (decls : List TypedDecl) (items : List TypedItem) (reserved : AreReserved a (scope_own target decls items)) (first : CodesDecls a b outside inside target decls m) (e : c ≡ appended b inside held.Declared) where
  abbrev behind : ℕ
  behind = target + procedure_count decls

  declared : Codes (decls_own target decls) a c (λ ts. decls_code (scene a) outside inside (next a) (decls_phrase (scene a) decls) ts ▸ one (place_in (scene a) inside) instr.Declared) (decls_marks (decls_phrase (scene a) decls)) m
  declared = codes_is e (codes_then_plain inside held.Declared refl tt first.codes)

  items_open : AreOpen (items_own behind items) c.targets.items
  items_open =
      let there = reserved.there in
      let room : behind + length items ≤ length a.targets.items = omega (arith, there) in
      let apart : (n : ℕ) → IsOwn (items_own behind items) n → IsOwn (decls_own target decls) n → ⊥ = λ n h k. omega (arith, h, k) in
      let mine : AreOpen (items_own behind items) a.targets.items = λ n h. reserved.open_ n (omega (arith, h), omega (arith, h)) in
      open_after (items_own behind items) {other = decls_own target decls} {a = a} {b = c} room apart declared.stays mine

  pub items_reserved : AreReserved c (items_own behind items)
  items_reserved = let there = reserved.there in let longer = declared.stays.longer in record { there = omega arith; open_ = items_open }

  -- where the items begin
  next_items : (ts : List ℕ) → Meets b.targets.items ts → next c ≡ next a + (declared_size (scene a) decls + 1)
  next_items ts h =
      let one_more : next c ≡ next b + 1 = ap next e ∙ next_appended b inside held.Declared in
      let all = next_behind ts first.codes h in
      let l = length_decls (scene a) outside inside decls (next a) ts in
      omega (arith, one_more, all, l)

  pub scope_done : {d : Emitter} {n : ℕ} → CodesItems c d inside behind items n → CodesScope a d outside inside target decls items (max m n)
  scope_done {d} {n} rest =
      let same : scene c ≡ scene a = declared.stays.scene in
      let at : next c ≡ next a + (declared_size (scene a) decls + 1) = next_items (final_targets b.targets.items) (meets_final b.targets.items) in
      let front : Within (decls_own target decls) (scope_own target decls items) = λ k h. (h.0, omega (arith, h)) in
      let back : Within (items_own behind items) (scope_own target decls items) = λ k h. (omega (arith, h), omega (arith, h)) in
      let met : (ts : List ℕ) → Meets d.targets.items ts → Meets c.targets.items ts = λ ts h. meets_before ts rest.codes.stays items_open h in
      record {
        codes =
            codes_as (λ ts. decls_code (scene a) outside inside (next a) (decls_phrase (scene a) decls) ts ▸ one (place_in (scene a) inside) instr.Declared ▸ code_items (coding_context (scene a) ts inside) (place_in (scene a) inside) (next a + (declared_size (scene a) decls + 1)) (items_phrase (scene a) items))
            (max (decls_marks (decls_phrase (scene a) decls)) (items_marks (items_phrase (scene a) items)))
            (λ ts h.
            joined_assoc (decls_code (scene a) outside inside (next a) (decls_phrase (scene a) decls) ts) (one (place_in (scene a) inside) instr.Declared) (code_items (coding_context (scene c) ts inside) (place_in (scene c) inside) (next c) (items_phrase (scene c) items))
            ∙ ap (λ k. decls_code (scene a) outside inside (next a) (decls_phrase (scene a) decls) ts ▸ one (place_in (scene a) inside) instr.Declared ▸ code_items (coding_context (scene c) ts inside) (place_in (scene c) inside) k (items_phrase (scene c) items)) at
            ∙ ap (λ s. decls_code (scene a) outside inside (next a) (decls_phrase (scene a) decls) ts ▸ one (place_in (scene a) inside) instr.Declared ▸ code_items (coding_context s ts inside) (place_in s inside) (next a + (declared_size (scene a) decls + 1)) (items_phrase s items)) same)
            (ap (λ s. max (decls_marks (decls_phrase (scene a) decls)) (items_marks (items_phrase s items))) same)
            (codes_joined {one = decls_own target decls} {two = items_own behind items} {own = scope_own target decls items} front back items_open declared rest.codes);
        procedures = λ ts h. first.placed ts (subst (λ (l : List (Option ℕ)). Meets l ts) (ap (λ (x : Emitter). x.targets.items) e) (met ts h));
        labelled = λ ts h. subst (λ k. ItemsStand (sizes_known (scene a)) k (items_phrase (scene a) items) ts behind) at (subst (λ s. ItemsStand (sizes_known s) (next c) (items_phrase s items) ts behind) same (rest.placed ts h));
      }

-- ---- the same, from what the steps ensure

module _ {a b c : Emitter} {m : ℕ} (outside inside : Here) (target k : ℕ) (decls : List TypedDecl) (items : List TypedItem) (reserved : AreReserved a (scope_own target decls items)) (first : CodesDecls a b outside inside target decls m) (e : c ≡ appended b inside held.Declared) (at : k ≡ target + procedure_count decls) where
  pub scope_items_ready : IsCodableItems a items → IsCodableItems c items
  scope_items_ready r = ready_after (declared outside inside target decls items reserved first e).stays r

  pub scope_items_reserved : AreReserved c (items_own k items)
  scope_items_reserved = subst (λ n. AreReserved c (items_own n items)) (sym at) (items_reserved outside inside target decls items reserved first e)

  pub scope_closed : {d : Emitter} {n o : ℕ} → CodesItems c d inside k items n → o ≡ max m n → CodesScope a d outside inside target decls items o
  scope_closed {d} {n} {o} rest most =
      subst (λ l. CodesScope a d outside inside target decls items l) (sym most)
      (scope_done outside inside target decls items reserved first e (subst (λ l. CodesItems c d inside l items n) at rest))
