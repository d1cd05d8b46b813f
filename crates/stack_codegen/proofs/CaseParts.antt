-- The parts of a CASE: jumps to them, and the parts, each with a jump to the end.
use Rattle.std.proofs.Common.{◌≡◌, ℕ, zero, suc, ◌+◌, ◌<◌, ◌≤◌, max, List, [], ◌∷◌, ◌++◌, drop, take, length, refl, sym, ap, ◌∙◌, subst, arith}
use Rattle.std.specs.Prelude.{slice_index_or}
use Rattle.std.specs.Borrow.{Bor}
use Rattle.std.specs.List.{All}
use Rattle.std.specs.declared.alloc.Global.{Global}
use Rattle.std.specs.declared.vec.Vec.{Vec}
use Rattle.std.proofs.Math.Seq.{drop-append_seam, take-append_seam}
use Rattle.std.proofs.lemmas.List.{append-nil, append_assoc, length-append, length-replicate}
use Rattle.std.proofs.lemmas.List.Elements.{All-append, All-cons, All-nil, All-weaker}
use Rattle.algolw_tree.specs.declared.programs.Node.{Node}
use Rattle.algolw_tree.specs.declared.programs.TypedPart.{TypedPart}
use Rattle.algolw_typing.specs.ProgramView.{part_view}
use Rattle.phrase_code.specs.Coding.{◌▸◌, jumps_code, known, one, phrase_count}
use Rattle.phrase_code.specs.Marks.{phrases_marks}
use Rattle.phrase_code.specs.Sizes.{Known, jumps_size, size}
use Rattle.phrase_code.proofs.Sizes.{jumps_sized}
use Rattle.program_meaning.specs.Phrases.{Phrases, no_phrases, phrase_and}
use Rattle.program_meaning.specs.Translating.{phrases_of}
use Rattle.stack_code.specs.Code.{Coded}
use Rattle.stack_code.specs.Instr as instr
use Rattle.stack_code.specs.declared.instructions.Instr.{Instr}
use Rattle.stack_code.specs.declared.instructions.Instr.TheVariants as held
use Rattle.stack_code.specs.declared.instructions.Mode.TheVariants as mode
use Rattle.symbol_table.specs.declared.here.Here.{Here}
use Rattle.symbol_table.specs.Contexts.{Scene, coding_context, numbers_in, phrase_context}
use Rattle.symbol_table.specs.Parts.{parts_in}
use Rattle.code_emitter.specs.declared.emitter.Emitter.{Emitter}
use Rattle.code_emitter.specs.Appending.{appended, replaced}
use Rattle.code_emitter.specs.Forms.{all_replaced, jumps_open, part_at, part_ends, parts_to}
use Rattle.code_emitter.specs.Parts.{Codes, CodesPhrase, next, none_own, phrase_in, place_in, scene}
use Rattle.code_emitter.proofs.Cases.{left_parts, none_left, parts_begin, parts_done, parts_ended, parts_from, parts_left, parts_step, parts_upto}
use Rattle.code_emitter.proofs.Composing.{known_anywhere, stays_replaced}
use Rattle.code_emitter.proofs.Emitting.{next_appended, next_replaced}
use Rattle.code_emitter.proofs.Joining.{codes_as, codes_is, codes_pending, codes_then_plain, next_by, next_phrase}
use Rattle.code_emitter.proofs.Remaining.{Remains}
use Rattle.stack_codegen.specs.declared.loops.Choices.{Choices}
use Rattle.stack_codegen.specs.declared.loops.Choices.TheVariants as choice
use Rattle.stack_codegen.specs.Blocks.{CodesChoices, EndsJumps, choices_phrase, nodes_phrase}
use Rattle.stack_codegen.specs.Codable.{CodesNode, IsCodable, IsCodableChoices, choice_count, choices_in, node_in, part_in, sizes_known}
use Rattle.stack_codegen.proofs.NodeSizes.{node_less, node_size, nothing, part_less, size as size_of, size_nodes}
use Rattle.stack_codegen.proofs.Parts.{node_ready, part_ready}
use Rattle.stack_codegen.proofs.PendingJumps.{next_all}
use Rattle.stack_codegen.proofs.PhraseParts.{phrase_there}
use Rattle.stack_codegen.proofs.Ready.{ready_after}

-- ---- phrases by their numbers

count_nodes : (s : Scene) (nodes : List Node) → phrase_count (nodes_phrase s nodes) ≡ length nodes
count_nodes s [] = refl
count_nodes s (a ∷ rest) = let e = count_nodes s rest in omega (arith, e)

abbrev parts_phrase : Scene → List TypedPart → Phrases
parts_phrase s parts = phrases_of (phrase_context s) (parts_in (numbers_in s) parts)

count_parts : (s : Scene) (parts : List TypedPart) → phrase_count (parts_phrase s parts) ≡ length parts
count_parts s [] = refl
count_parts s (p ∷ rest) = let e = count_parts s rest in omega (arith, e)

pub count_choices : (s : Scene) (choices : Choices) → phrase_count (choices_phrase s choices) ≡ choice_count choices
count_choices s (choice.Values values) = count_nodes s values.now
count_choices s (choice.Statements parts) = count_parts s parts.now

node_at : (s : Scene) (nodes : List Node) (i : ℕ) (a : Node) → i < length nodes → a ≡ slice_index_or nodes i a → part_at i (nodes_phrase s nodes) ≡ phrase_in s (node_in a s)
node_at s [] i a l is = absurd (omega (arith, l))
node_at s (b ∷ rest) zero a l is = ap (λ n. phrase_in s (node_in n s)) (sym is)
node_at s (b ∷ rest) (suc i) a l is = node_at s rest i a (omega (arith, l)) is

statement_at : (s : Scene) (parts : List TypedPart) (i : ℕ) (p : TypedPart) → i < length parts → p ≡ slice_index_or parts i p → part_at i (parts_phrase s parts) ≡ phrase_in s (part_in p s)
statement_at s [] i p l is = absurd (omega (arith, l))
statement_at s (q ∷ rest) zero p l is = ap (λ x. phrase_in s (part_in x s)) (sym is)
statement_at s (q ∷ rest) (suc i) p l is = statement_at s rest i p (omega (arith, l)) is

-- ---- one of them

module _ (choices : Choices) (i : ℕ) (l : i < choice_count choices) where
  pub value_inside : (values : Bor (List Node)) → choices ≡ choice.Values values → i < length values.now
  value_inside values is = let n = ap choice_count is in omega (arith, n)

  pub statement_inside : (parts : Bor (List TypedPart)) → choices ≡ choice.Statements parts → i < length parts.now
  statement_inside parts is = let n = ap choice_count is in omega (arith, n)

  module _ (e : Emitter) (r : IsCodableChoices e choices) where
    module _ (values : Bor (List Node)) (a : Node) (is : choices ≡ choice.Values values) (there : a ≡ slice_index_or values.now i a) where
      pub chosen_value_ready : IsCodable e (node_in a)
      chosen_value_ready = node_ready e values.now i a (value_inside values is) there (subst (λ (x : Choices). IsCodableChoices e x) is r)

      pub chosen_value_less : 8 + node_size a ≤ size_nodes (choices_in nothing choices)
      chosen_value_less = let less = node_less values.now i a (value_inside values is) there in let same = ap (λ (x : Choices). size_nodes (choices_in nothing x)) is in omega (arith, less, same)

      pub chosen_value_coded : {b : Emitter} {m : ℕ} (here : Here) → CodesNode e b here mode.Value (node_in a) m → CodesPhrase e b here mode.Value (part_at i (choices_phrase (scene e) choices)) m
      chosen_value_coded {b} {m} here part = subst (λ x. CodesPhrase e b here mode.Value x m) (sym (ap (λ (x : Choices). part_at i (choices_phrase (scene e) x)) is ∙ node_at (scene e) values.now i a (value_inside values is) there)) part

    module _ (parts : Bor (List TypedPart)) (p : TypedPart) (is : choices ≡ choice.Statements parts) (there : p ≡ slice_index_or parts.now i p) where
      pub chosen_statement_ready : IsCodable e (part_in p)
      chosen_statement_ready = part_ready e parts.now i p (statement_inside parts is) there (subst (λ (x : Choices). IsCodableChoices e x) is r)

      pub chosen_statement_less : 8 + size_of (part_view nothing p) ≤ size_nodes (choices_in nothing choices)
      chosen_statement_less = let less = part_less parts.now i p (statement_inside parts is) there in let same = ap (λ (x : Choices). size_nodes (choices_in nothing x)) is in omega (arith, less, same)

      pub chosen_statement_coded : {b : Emitter} {m : ℕ} (here : Here) → CodesNode e b here mode.Value (part_in p) m → CodesPhrase e b here mode.Value (part_at i (choices_phrase (scene e) choices)) m
      chosen_statement_coded {b} {m} here part = subst (λ x. CodesPhrase e b here mode.Value x m) (sym (ap (λ (x : Choices). part_at i (choices_phrase (scene e) x)) is ∙ statement_at (scene e) parts.now i p (statement_inside parts is) there)) part

-- ---- jumps to the parts

pub jump_more : {a b c : Emitter} (here : Here) (i : ℕ) → Codes none_own a b (λ ts. jumps_open (place_in (scene a) here) i) 0 0 → c ≡ appended b here (held.Jump 0) → Codes none_own a c (λ ts. jumps_open (place_in (scene a) here) (i + 1)) 0 0
jump_more {a} here i part q = codes_as _ _ (λ ts h. same i) refl (codes_is q (codes_then_plain here (held.Jump 0) refl tt part))
  where
    same : (n : ℕ) → jumps_open (place_in (scene a) here) n ▸ one (place_in (scene a) here) (instr.Jump 0) ≡ jumps_open (place_in (scene a) here) (n + 1)
    same zero = refl
    same (suc n) =
        let e : suc n + 1 ≡ suc (n + 1) = omega arith in
        ap (λ l. one (place_in (scene a) here) (instr.Jump 0) ▸ l) (same n) ∙ ap (jumps_open (place_in (scene a) here)) (sym e)

-- ---- the parts, one by one

abbrev pub with_pending : Emitter → Vec ℕ Global → Emitter
with_pending e v = record e { pending = v }

-- by now the first so many parts are coded, and these are their ends
pub record PartsUnderWay (old now : Emitter) (here : Here) (parts : Choices) (pending i jump m : ℕ) : Type 0 where
  pub ends : List ℕ
  pub are : now.pending.items ≡ old.pending.items ++ ends
  pub left : ends ++ part_ends (sizes_known (scene old)) (next now) (parts_from i (choices_phrase (scene old) parts)) ≡ part_ends (sizes_known (scene old)) (next old + phrase_count (choices_phrase (scene old) parts)) (choices_phrase (scene old) parts)
  pub within : All (λ n. n < next now) ends
  pub remains : Remains none_own old (with_pending now old.pending) (parts_upto old here i (choices_phrase (scene old) parts)) (left_parts here (parts_from i (choices_phrase (scene old) parts))) (phrases_marks (choices_phrase (scene old) parts)) (phrases_marks (parts_from i (choices_phrase (scene old) parts))) m
  pub long : next old + choice_count parts ≤ next now
  pub at : jump ≡ next old + i
  pub before : pending ≡ length old.pending.items

all_from : (rest : Phrases) → parts_from 0 rest ≡ rest
all_from no_phrases = refl
all_from (phrase_and a rest) = refl

pub parts_begun : {a b : Emitter} (here : Here) (parts : Choices) (pending i jump : ℕ) → i ≡ choice_count parts → Codes none_own a b (λ ts. jumps_open (place_in (scene a) here) i) 0 0 → jump ≡ next a → pending ≡ length b.pending.items → PartsUnderWay a b here parts pending 0 jump 0
parts_begun {a} {b} here parts pending i jump q jumps j p =
    let s : Scene = scene a in
    let phrases : Phrases = choices_phrase s parts in
    let counted : phrase_count phrases ≡ choice_count parts = count_choices s parts in
    let all : Codes none_own a b (λ ts. jumps_open (place_in s here) (phrase_count phrases)) 0 0 = subst (λ n. Codes none_own a b (λ ts. jumps_open (place_in s here) n) 0 0) (q ∙ sym counted) jumps in
    let long : next b ≡ next a + phrase_count phrases = next_by (phrase_count phrases) (λ ts. length-replicate (phrase_count phrases) (record { at = place_in s here; does = instr.Jump 0 })) all in
    let kept : length b.pending.items ≡ length a.pending.items = ap length jumps.stays.pending in
    record {
      ends = [];
      are = jumps.stays.pending ∙ sym (append-nil a.pending.items);
      left = ap (part_ends (sizes_known s) (next b)) (all_from phrases) ∙ ap (λ k. part_ends (sizes_known s) k phrases) long;
      within = All-nil (λ n. n < next b);
      remains = subst (λ ps. Remains none_own a (with_pending b a.pending) (parts_upto a here 0 phrases) (left_parts here ps) (phrases_marks phrases) (phrases_marks ps) 0) (sym (all_from phrases)) (parts_begin here phrases (codes_pending a.pending a.pending refl all));
      long = omega (arith, long, counted);
      at = omega (arith, j);
      before = p ∙ kept;
    }

-- what is pending doesn't matter to what may be coded
pending_ready : (e : Emitter) (v : Vec ℕ Global) (parts : Choices) → IsCodableChoices e parts → IsCodableChoices (with_pending e v) parts
pending_ready e v parts r = record { fits = record { scene = r.fits.scene; code = r.fits.code }; fresh = r.fresh; knows = r.knows; begun = r.begun; suits = r.suits }

-- the parts may be coded there
pub choices_ready : {old now b : Emitter} {m : ℕ} (here : Here) (parts : Choices) (pending i jump begin : ℕ) → IsCodableChoices old parts → PartsUnderWay old now here parts pending i jump m → b ≡ replaced now jump (held.Jump begin) → IsCodableChoices b parts
choices_ready {old} {now} {b} here parts pending i jump begin r w q =
    let there : IsCodableChoices now parts = pending_ready (with_pending now old.pending) now.pending parts (ready_after w.remains.stays r) in
    subst (λ (e : Emitter). IsCodableChoices e parts) (sym q) (ready_after (stays_replaced none_own now jump (held.Jump begin) w.remains.stays.fits tt) there)

pending_all : (e : Emitter) (v : Vec ℕ Global) (ns : List ℕ) (does : Instr) → all_replaced (with_pending e v) ns does ≡ with_pending (all_replaced e ns does) v
pending_all e v [] does = refl
pending_all e v (n ∷ ns) does = ap (λ (x : Emitter). replaced x n does) (pending_all e v ns does)

jumps_counted : (parts : Phrases) → jumps_size parts ≡ phrase_count parts
jumps_counted no_phrases = refl
jumps_counted (phrase_and a rest) = ap (λ n. 1 + n) (jumps_counted rest)

module _ {old now b c d : Emitter} {m n : ℕ} (here : Here) (parts : Choices) (pending i jump begin more end : ℕ) (v : Vec ℕ Global) where
  part_coded : i < choice_count parts → PartsUnderWay old now here parts pending i jump m → begin ≡ next now → b ≡ replaced now jump (held.Jump begin) → more ≡ jump + 1 → CodesPhrase b c here mode.Value (part_at i (choices_phrase (scene b) parts)) n → end ≡ next c → d ≡ appended c here (held.Jump 0) → v.items ≡ d.pending.items ++ end ∷ [] → PartsUnderWay old (with_pending d v) here parts pending (suc i) more (max m n)
  part_coded l w q1 qb q2 part q3 qd qv =
      let s : Scene = scene old in
      let all : Phrases = choices_phrase s parts in
      let names : List Known = sizes_known s in
      let counted : phrase_count all ≡ choice_count parts = count_choices s parts in
      let inside : i < phrase_count all = omega (arith, l, counted) in
      let to_b : scene b ≡ s = ap scene qb ∙ w.remains.stays.scene in
      let there : CodesPhrase b c here mode.Value (part_at i all) n = phrase_there s here mode.Value (λ u. part_at i (choices_phrase u parts)) to_b part in
      let put : with_pending b old.pending ≡ replaced (with_pending now old.pending) (next old + i) (held.Jump (next now)) =
      ap (λ (e : Emitter). with_pending e old.pending) qb ∙ ap (λ k. replaced (with_pending now old.pending) k (held.Jump begin)) w.at ∙ ap (λ k. replaced (with_pending now old.pending) (next old + i) (held.Jump k)) q1 in
      let stepped = parts_step here i all inside w.remains put (codes_pending old.pending old.pending refl there) (ap (λ (e : Emitter). with_pending e old.pending) qd) in
      let at_b : next b ≡ next now = ap next qb ∙ next_replaced now jump (held.Jump begin) in
      let at_c : next c ≡ next b + size names (part_at i all) = next_phrase s here mode.Value (part_at i all) [] to_b there in
      let at_d : next d ≡ next c + 1 = ap next qd ∙ next_appended c here (held.Jump 0) in
      let at_end : next now + size names (part_at i all) ≡ end = omega (arith, at_b, at_c, q3) in
      let at_next : next now + (size names (part_at i all) + 1) ≡ next d = omega (arith, at_b, at_c, at_d) in
      let first = w.at in
      let least = w.long in
      record {
        ends = w.ends ++ end ∷ [];
        are =
            qv ∙ ap (λ (e : Emitter). e.pending.items ++ end ∷ []) qd ∙ ap (λ l. l ++ end ∷ []) (part.stays.pending ∙ ap (λ (e : Emitter). e.pending.items) qb ∙ w.are)
            ∙ append_assoc old.pending.items w.ends (end ∷ []);
        left =
            append_assoc w.ends (end ∷ []) (part_ends names (next d) (parts_from (suc i) all))
            ∙ ap (λ k. w.ends ++ (k ∷ part_ends names (next d) (parts_from (suc i) all))) (sym at_end)
            ∙ ap (λ k. w.ends ++ ((next now + size names (part_at i all)) ∷ part_ends names k (parts_from (suc i) all))) (sym at_next)
            ∙ ap (λ ps. w.ends ++ part_ends names (next now) ps) (sym (parts_left i all inside))
            ∙ w.left;
        within = All-append (λ k. k < next d) w.ends (end ∷ []) (All-weaker (λ k. k < next now) (λ k. k < next d) (λ k h. omega (arith, h, at_b, at_c, at_d)) w.ends w.within)
            (All-cons (λ k. k < next d) end [] (omega (arith, q3, at_d)) (All-nil (λ k. k < next d)));
        remains = stepped;
        long = omega (arith, least, at_b, at_c, at_d);
        at = omega (arith, first, q2);
        before = w.before;
      }

  pub parts_more : i < choice_count parts → PartsUnderWay old now here parts pending i jump m → begin ≡ next now → b ≡ replaced now jump (held.Jump begin) → more ≡ jump + 1 → CodesPhrase b c here mode.Value (part_at i (choices_phrase (scene b) parts)) n → end ≡ next c → d ≡ appended c here (held.Jump 0) → v.items ≡ d.pending.items ++ end ∷ [] → (z : ℕ) → z ≡ max m n → PartsUnderWay old (with_pending d v) here parts pending (i + 1) more z
  parts_more l w q1 qb q2 part q3 qd qv z qz =
      let e : suc i ≡ i + 1 = omega arith in
      subst (λ k. PartsUnderWay old (with_pending d v) here parts pending (i + 1) more k) (sym qz) (subst (λ k. PartsUnderWay old (with_pending d v) here parts pending k more (max m n)) e (part_coded l w q1 qb q2 part q3 qd qv))

-- the jump to the next part is there
pub jump_there_yet : {old now : Emitter} {m : ℕ} (here : Here) (parts : Choices) (pending i jump : ℕ) → i < choice_count parts → PartsUnderWay old now here parts pending i jump m → jump < next now
jump_there_yet here parts pending i jump l w = let a = w.at in let k = w.long in omega (arith, a, k, l)

pub pending_least : {old now : Emitter} {m : ℕ} (here : Here) (parts : Choices) (pending i jump : ℕ) → PartsUnderWay old now here parts pending i jump m → pending ≤ length now.pending.items
pending_least {old} here parts pending i jump w = let e = ap length w.are in let n = length-append old.pending.items w.ends in let b = w.before in omega (arith, e, n, b)

-- the jumps to the end are those that became pending
pub ends_pending : {old now : Emitter} {m : ℕ} (here : Here) (parts : Choices) (pending i jump : ℕ) (w : PartsUnderWay old now here parts pending i jump m) → drop pending now.pending.items ≡ w.ends
ends_pending {old} {now} here parts pending i jump w = ap (λ l. drop pending l) w.are ∙ ap (λ k. drop k (old.pending.items ++ w.ends)) w.before ∙ drop-append_seam old.pending.items w.ends

pub ends_within : {old now : Emitter} {m : ℕ} (here : Here) (parts : Choices) (pending i jump : ℕ) → PartsUnderWay old now here parts pending i jump m → All (λ n. n < next now) (drop pending now.pending.items)
ends_within {old} {now} here parts pending i jump w = subst (λ l. All (λ n. n < next now) l) (sym (ends_pending here parts pending i jump w)) w.within

-- and they go to what is next
pub parts_ended_there : {old now e : Emitter} {m : ℕ} (here : Here) (parts : Choices) (pending i jump : ℕ) → choice_count parts ≤ i → PartsUnderWay old now here parts pending i jump m → EndsJumps now e pending → CodesChoices old e here parts m
parts_ended_there {old} {now} {e} {m} here parts pending i jump l w q =
    let s : Scene = scene old in
    let all : Phrases = choices_phrase s parts in
    let marked : ℕ = phrases_marks all in
    let counted : phrase_count all ≡ choice_count parts = count_choices s parts in
    let over : phrase_count all ≤ i = omega (arith, l, counted) in
    let jumps : List ℕ → List Coded = λ ts. jumps_code (known (coding_context s ts here)) (place_in s here) (next old + phrase_count all) all in
    let now_is : Emitter = with_pending now old.pending in
    let ends_are : (ts : List ℕ) → w.ends ≡ part_ends (known (coding_context s ts here)) (next old + phrase_count all) all =
    λ ts. sym (append-nil w.ends) ∙ ap (λ ps. w.ends ++ part_ends (sizes_known s) (next now) ps) (sym (none_left i all over)) ∙ w.left ∙ ap (λ ns. part_ends ns (next old + phrase_count all) all) (known_anywhere s here [] ts) in
    let begin : (ts : List ℕ) → next old + phrase_count all ≡ next old + length (jumps ts) =
    λ ts. ap (λ k. next old + k) (sym ((jumps_sized (known (coding_context s ts here)) (place_in s here) (next old + phrase_count all) all).by ∙ jumps_counted all)) in
    let ended : Codes none_own old (all_replaced now_is w.ends (held.Jump (next now))) (parts_to here (next now) all s (next old)) marked m =
    parts_ended here jumps (next old + phrase_count all) (next now) all w.ends (λ ts h. begin ts) ends_are (parts_done here i all over w.remains) refl in
    let left : e.pending.items ≡ old.pending.items = q.left ∙ ap (λ l. take pending l) w.are ∙ ap (λ k. take k (old.pending.items ++ w.ends)) w.before ∙ take-append_seam old.pending.items w.ends in
    let same : e ≡ record (all_replaced now_is w.ends (held.Jump (next now))) { pending = e.pending } =
    q.ended ∙ ap (λ ns. record (all_replaced now ns (held.Jump (next now))) { pending = e.pending }) (ends_pending here parts pending i jump w) ∙ ap (λ (x : Emitter). record x { pending = e.pending }) (sym (pending_all now old.pending w.ends (held.Jump (next now)))) in
    let at_end : next e ≡ next now = ap next same ∙ next_all now_is w.ends (held.Jump (next now)) in
    subst (λ k. Codes none_own old e (parts_to here k all s (next old)) marked m) (sym at_end) (codes_is same (codes_pending old.pending e.pending left ended))
