-- The items of a block are coded one by one, each at its target.
use Rattle.std.proofs.Common.{◌≡◌, ℕ, ◌+◌, ◌<◌, ◌≤◌, max, List, [], ◌∷◌, drop, length, refl, sym, ap, ◌∙◌, subst, arith}
use Rattle.std.specs.Prelude.{◌==◌, false, Some, slice_index_or, slice_set, true}
use Rattle.std.proofs.lemmas.Bool.Decides.{nat_tests}
use Rattle.std.proofs.lemmas.List.{drop_all}
use Rattle.algolw_tree.specs.declared.programs.TypedItem.{TypedItem}
use Rattle.program_meaning.specs.Phrases.{Phrase}
use Rattle.phrase_code.specs.Coding.{◌▸◌, code_items}
use Rattle.phrase_code.specs.Marks.{items_marks, marks}
use Rattle.phrase_code.specs.Sizes.{size}
use Rattle.stack_code.specs.CodeView.{CodeFits}
use Rattle.stack_code.specs.declared.instructions.Instr.TheVariants as held
use Rattle.stack_code.specs.declared.instructions.Mode.TheVariants as mode
use Rattle.symbol_table.specs.declared.here.Here.{Here}
use Rattle.symbol_table.specs.Contexts.{Scene, coding_context}
use Rattle.symbol_table.specs.Targets.{ItemsStand}
use Rattle.symbol_table.proofs.Declaring.{next_out}
use Rattle.code_emitter.specs.declared.emitter.Emitter.{Emitter}
use Rattle.code_emitter.specs.Appending.{appended, with_targets}
use Rattle.code_emitter.specs.Forms.{Form}
use Rattle.code_emitter.specs.Parts.{AreOpen, Codes, IsOwn, Meets, Own, Stays, code_at, linked_code, next, phrase_in, place_in, scene}
use Rattle.code_emitter.proofs.Composing.{Within, length_code_at, meets_before, meets_none, open_after, open_within, placed_met, stays_placed}
use Rattle.code_emitter.proofs.Emitting.{joined_none, targets_code}
use Rattle.code_emitter.proofs.Joining.{codes_as, codes_is, codes_most, codes_no_more, codes_plain, codes_then, next_phrase}
use Rattle.code_emitter.proofs.Remaining.{Remains, remains_all, remains_joined, remains_none}
use Rattle.stack_codegen.specs.Blocks.{AreReserved, CodesItems, items_own, items_phrase}
use Rattle.stack_codegen.specs.Codable.{CodesNode, IsCodable, IsCodableItems, item_in, sizes_known}
use Rattle.stack_codegen.proofs.Parts.{item_phrase_ready}
use Rattle.stack_codegen.proofs.Ready.{ready_after}

-- what is left of items; none is nothing
abbrev pub left_items : Here → List TypedItem → Form
left_items here [] s k ts = []
left_items here (i ∷ rest) s k ts = code_items (coding_context s ts here) (place_in s here) k (items_phrase s (i ∷ rest))

abbrev pub marks_of_items : Scene → List TypedItem → ℕ
marks_of_items s items = items_marks (items_phrase s items)

abbrev pub ItemsAt : Scene → ℕ → List TypedItem → List ℕ → ℕ → Type 0
ItemsAt s k items ts target = ItemsStand (sizes_known s) k (items_phrase s items) ts target

-- Those in front of the ones that are left are coded, and stand at the targets from the first on.
pub record ItemsCoded (old now : Emitter) (here : Here) (first target : ℕ) (items left : List TypedItem) (m : ℕ) : Type 0 where
  pub coded : Remains (items_own first items) old now (left_items here items (scene old) (next old)) (left_items here left) (marks_of_items (scene old) items) (marks_of_items (scene old) left) m
  pub many : target + length left ≡ first + length items
  pub from : first ≤ target
  pub there : first + length items ≤ length now.targets.items
  pub open_ : AreOpen (record { first = target; count = length left }) now.targets.items
  pub stand : (ts : List ℕ) → Meets now.targets.items ts → ItemsAt (scene old) (next now) left ts target → ItemsAt (scene old) (next old) items ts first

-- ---- no items

-- whether there are any, as it is tested
pub no_length : (n : ℕ) → (n == 0) ≡ true → n ≡ 0
no_length n h = grind (arith, nat_tests)

pub some_length : (n : ℕ) → (n == 0) ≡ false → 0 < n
some_length n h = grind (arith, nat_tests)

pub items_none : {a b : Emitter} {m : ℕ} (here : Here) (first : ℕ) (items : List TypedItem) → length items ≡ 0 → CodeFits a.code → b ≡ appended a here held.Nothing → m ≡ 0 → CodesItems a b here first items m
items_none {a} {b} {m} here first [] empty fits e none = record {
  codes = codes_most 0 m none (codes_is e (codes_plain (items_own first []) a here held.Nothing fits tt refl));
  placed = λ ts h. tt;
}
items_none here first (i ∷ rest) empty fits e none = absurd (omega (arith, empty))

-- ---- item by item

pub items_begin : (e : Emitter) (here : Here) (first : ℕ) (items : List TypedItem) → CodeFits e.code → AreReserved e (items_own first items) → ItemsCoded e e here first first items items 0
items_begin e here first items fits reserved = record {
  coded = remains_all (items_own first items) e (left_items here items) (marks_of_items (scene e) items) fits;
  many = refl;
  from = omega arith;
  there = reserved.there;
  open_ = reserved.open_;
  stand = λ ts h k. k;
}

-- an item in front of others
parted_items : (here : Here) (x : TypedItem) (rest : List TypedItem) (s : Scene) (k : ℕ) (ts : List ℕ) → let a : Phrase = phrase_in s (item_in x s) in left_items here (x ∷ rest) s k ts ≡ code_at s here mode.Value k a ts ▸ left_items here rest s (k + length (code_at s here mode.Value k a ts)) ts
parted_items here x [] s k ts = sym (joined_none (code_at s here mode.Value k (phrase_in s (item_in x s)) ts))
parted_items here x (y ∷ rest) s k ts =
    let a : Phrase = phrase_in s (item_in x s) in
    ap (λ n. code_at s here mode.Value k a ts ▸ code_items (coding_context s ts here) (place_in s here) (k + n) (items_phrase s (y ∷ rest))) (sym (length_code_at s here mode.Value k a ts))

abbrev pub item_phrase : TypedItem → Scene → Phrase
item_phrase x s = phrase_in s (item_in x s)

abbrev pub one_target : ℕ → Own
one_target target = record { first = target; count = 1 }

module _ (now b : Emitter) (target : ℕ) (fits : CodeFits now.code) (rest_same : b ≡ with_targets now b.targets) (put : b.targets.items ≡ slice_set now.targets.items target (Some (next now))) where
  pub placed_stays : Stays (one_target target) now b
  placed_stays =
      let own : (target ≤ target) × (target < target + 1) = (omega arith, omega arith) in
      subst (λ (e : Emitter). Stays (one_target target) now e) (sym rest_same) (stays_placed (one_target target) now b.targets target (next now) fits own put)

  next_same : next b ≡ next now
  next_same = ap (λ (e : Emitter). next e) rest_same

  module _ {c : Emitter} {n : ℕ} (here : Here) (x : TypedItem) (phrase : CodesNode b c here mode.Value (item_in x) n) where
    -- the phrase of an item, at its target
    pub placed_phrase : Codes (one_target target) now c (λ ts. code_at (scene now) here mode.Value (next now) (item_phrase x (scene now)) ts) (marks (item_phrase x (scene now))) n
    placed_phrase =
        let stays : Stays (one_target target) now b = placed_stays in
        let nothing : Codes (one_target target) now b (λ ts. []) 0 0 = codes_no_more stays (λ ts. ap (λ (e : Emitter). linked_code ts e) rest_same ∙ targets_code now b.targets ts) in
        let same : scene b ≡ scene now = stays.scene in
        let both : Codes (one_target target) now c (λ ts. [] ▸ code_at (scene b) here mode.Value (next b) (item_phrase x (scene b)) ts) (max 0 (marks (item_phrase x (scene b)))) (max 0 n) = codes_then nothing phrase in
        let none : max 0 (marks (item_phrase x (scene b))) ≡ marks (item_phrase x (scene b)) = omega arith in
        codes_most (marks (item_phrase x (scene now))) n (phrase.most ∙ ap (λ (s : Scene). marks (item_phrase x s)) same)
        (codes_as (λ ts. code_at (scene now) here mode.Value (next now) (item_phrase x (scene now)) ts) (marks (item_phrase x (scene b)))
        (λ ts h. ap (λ k. code_at (scene b) here mode.Value k (item_phrase x (scene b)) ts) next_same ∙ ap (λ (s : Scene). code_at s here mode.Value (next now) (item_phrase x s) ts) same)
        none both)

    -- where the next instruction is
    pub next_placed : (s : Scene) → scene now ≡ s → next c ≡ next now + size (sizes_known s) (item_phrase x s)
    next_placed s e =
        next_phrase (scene b) here mode.Value (item_phrase x (scene b)) [] refl phrase
        ∙ ap (λ k. k + size (sizes_known (scene b)) (item_phrase x (scene b))) next_same
        ∙ ap (λ (t : Scene). next now + size (sizes_known t) (item_phrase x t)) (placed_stays.scene ∙ e)

    pub stands_there : (ts : List ℕ) → target < length now.targets.items → Meets c.targets.items ts → slice_index_or ts target target ≡ next now
    stands_there ts l h = placed_met now.targets.items b.targets.items target (next now) ts put l (meets_none ts phrase.stays h)

-- its target is there
pub target_there : {a now : Emitter} {m : ℕ} (here : Here) (first target : ℕ) (items : List TypedItem) (i : ℕ) (x : TypedItem) → i < length items → x ≡ slice_index_or items i x → ItemsCoded a now here first target items (drop i items) m → target < length now.targets.items
target_there {a} {now} {m} here first target items i x l is r =
    let q : ItemsCoded a now here first target items (x ∷ drop (i + 1) items) m = subst (λ left. ItemsCoded a now here first target items left m) (next_out items i x l is) r in
    let many = q.many in
    let there = q.there in
    omega (arith, many, there)

-- what is known of a phrase there
pub item_ready_there : {a now b : Emitter} {m : ℕ} (here : Here) (first target : ℕ) (items : List TypedItem) (i : ℕ) (x : TypedItem) → i < length items → x ≡ slice_index_or items i x → IsCodableItems a items → ItemsCoded a now here first target items (drop i items) m → b ≡ with_targets now b.targets → b.targets.items ≡ slice_set now.targets.items target (Some (next now)) → IsCodable b (item_in x)
item_ready_there {a} {now} {b} here first target items i x l is r q e put = ready_after (placed_stays now b target q.coded.stays.fits e put) (ready_after q.coded.stays (item_phrase_ready a items i x l is r))

pub items_more : {a now b c : Emitter} {m n : ℕ} (here : Here) (first target : ℕ) (items : List TypedItem) (i : ℕ) (x : TypedItem) → i < length items → x ≡ slice_index_or items i x → ItemsCoded a now here first target items (drop i items) m → b ≡ with_targets now b.targets → b.targets.items ≡ slice_set now.targets.items target (Some (next now)) → CodesNode b c here mode.Value (item_in x) n → ItemsCoded a c here first (target + 1) items (drop (i + 1) items) (max m n)
items_more {a} {now} {b} {c} {m} {n} here first target items i x l is r e put phrase =
    let rest : List TypedItem = drop (i + 1) items in
    let all : ItemsCoded a now here first target items (x ∷ rest) m = subst (λ left. ItemsCoded a now here first target items left m) (next_out items i x l is) r in
    more all
  where
    rest : List TypedItem
    rest = drop (i + 1) items

    more : ItemsCoded a now here first target items (x ∷ rest) m → ItemsCoded a c here first (target + 1) items rest (max m n)
    more q =
        let many = q.many in
        let from = q.from in
        let there = q.there in
        let fits = q.coded.stays.fits in
        let part = placed_phrase now b target fits e put here x phrase in
        let same : scene now ≡ scene a = q.coded.stays.scene in
        let one_open : AreOpen (one_target target) now.targets.items = open_within (one_target target) (record { first = target; count = length (x ∷ rest) }) now.targets.items (λ k h. (h.0, omega (arith, h))) q.open_ in
        let longer = part.stays.longer in
        let is_in : Within (one_target target) (items_own first items) = λ k h. (omega (arith, h, from), omega (arith, h, many)) in
        let others : Own = record { first = target + 1; count = length rest } in
        let room : target + 1 + length rest ≤ length now.targets.items = omega (arith, many, there) in
        let apart : (k : ℕ) → IsOwn others k → IsOwn (one_target target) k → ⊥ = λ k h j. omega (arith, h, j) in
        let still : AreOpen others now.targets.items = λ k h. q.open_ k (omega (arith, h), omega (arith, h)) in
        let within : target < length now.targets.items = omega (arith, many, there) in
        record {
          coded = remains_joined {two = one_target target} {own = items_own first items} (λ s k ts. code_at s here mode.Value k (phrase_in s (item_in x s)) ts) (left_items here rest) (marks_of_items (scene a) rest) is_in one_open
              (ap (λ s. max (marks (phrase_in s (item_in x s))) (marks_of_items (scene a) rest)) (sym same))
              (λ ts. parted_items here x rest (scene now) (next now) ts) q.coded part;
          many = omega (arith, many);
          from = omega (arith, from);
          there = omega (arith, there, longer);
          open_ = open_after others {other = one_target target} {a = now} {b = c} room apart part.stays still;
          stand = λ ts h k.
              let before = meets_before ts part.stays one_open h in
              let at : slice_index_or ts target target ≡ next now = stands_there now b target fits e put here x phrase ts within h in
              let behind = next_placed now b target fits e put here x phrase (scene a) same in
              q.stand ts before (at, subst (λ j. ItemsAt (scene a) j rest ts (target + 1)) behind k);
        }

-- the same, from what the steps ensure
pub items_step : {a now b c : Emitter} {m n o : ℕ} (here : Here) (first target behind : ℕ) (items : List TypedItem) (i : ℕ) (x : TypedItem) → i < length items → x ≡ slice_index_or items i x → ItemsCoded a now here first target items (drop i items) m → b ≡ with_targets now b.targets → b.targets.items ≡ slice_set now.targets.items target (Some (next now)) → CodesNode b c here mode.Value (item_in x) n → behind ≡ target + 1 → o ≡ max m n → ItemsCoded a c here first behind items (drop (i + 1) items) o
items_step {a} {now} {b} {c} {m} {n} {o} here first target behind items i x l is r e put phrase then most =
    subst (λ k. ItemsCoded a c here first k items (drop (i + 1) items) o) (sym then)
    (subst (λ k. ItemsCoded a c here first (target + 1) items (drop (i + 1) items) k) (sym most) (items_more here first target items i x l is r e put phrase))

-- ---- all items

pub items_done : {a now : Emitter} {m : ℕ} (here : Here) (first target : ℕ) (items : List TypedItem) (i : ℕ) → 0 < length items → length items ≤ i → ItemsCoded a now here first target items (drop i items) m → CodesItems a now here first items m
items_done {a} {now} {m} here first target [] i some l r = absurd (omega (arith, some))
items_done {a} {now} {m} here first target (y ∷ ys) i some l r =
    let q : ItemsCoded a now here first target (y ∷ ys) [] m = subst (λ left. ItemsCoded a now here first target (y ∷ ys) left m) (drop_all i (y ∷ ys) l) r in
    record { codes = remains_none refl (λ ts. refl) q.coded; placed = λ ts h. q.stand ts h tt }
