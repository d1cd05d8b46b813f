-- Jumps that are pending are put right one by one, the last one first.
use Rattle.std.proofs.Common.{◌≡◌, ℕ, ◌<◌, ◌≤◌, List, [], ◌∷◌, ◌++◌, drop, take, length, refl, sym, ap, ◌∙◌, subst, arith}
use Rattle.std.specs.List.{All}
use Rattle.std.specs.declared.alloc.Global.{Global}
use Rattle.std.specs.declared.vec.Vec.{Vec}
use Rattle.std.proofs.Math.Seq.{drop-append_seam, take-append_seam}
use Rattle.std.proofs.lemmas.List.{append_assoc, length-append, length-take, take-append-drop}
use Rattle.std.proofs.lemmas.List.Elements.{All-head}
use Rattle.symbol_table.proofs.Declaring.{All-right}
use Rattle.stack_code.specs.declared.instructions.Instr.{Instr}
use Rattle.code_emitter.specs.Appending.{replaced}
use Rattle.code_emitter.specs.Forms.{all_replaced}
use Rattle.code_emitter.specs.Parts.{next}
use Rattle.code_emitter.specs.declared.emitter.Emitter.{Emitter}
use Rattle.code_emitter.proofs.Emitting.{next_replaced}

module _ (all now rest : List ℕ) (jump : ℕ) (there : now ≡ take (length now) all) (popped : now ≡ rest ++ jump ∷ []) where
  behind_rest : all ≡ rest ++ (jump ∷ drop (length now) all)
  behind_rest = sym (take-append-drop (length now) all) ∙ ap (λ l. l ++ drop (length now) all) (sym there ∙ popped) ∙ append_assoc rest (jump ∷ []) (drop (length now) all)

  pub dropped_more : drop (length rest) all ≡ jump ∷ drop (length now) all
  dropped_more = ap (drop (length rest)) behind_rest ∙ drop-append_seam rest (jump ∷ drop (length now) all)

  pub taken_less : rest ≡ take (length rest) all
  taken_less = sym (ap (take (length rest)) behind_rest ∙ take-append_seam rest (jump ∷ drop (length now) all))

  -- it is one of those behind the first so many
  pub jump_within : (P : ℕ → Type 0) (pending : ℕ) → pending ≤ length rest → All P (drop pending all) → P jump
  jump_within P pending l a =
      let first : length (take pending rest) ≡ pending = omega (arith, length-take pending rest, l) in
      let split : all ≡ take pending rest ++ (drop pending rest ++ (jump ∷ drop (length now) all)) =
      behind_rest ∙ ap (λ r. r ++ (jump ∷ drop (length now) all)) (sym (take-append-drop pending rest)) ∙ append_assoc (take pending rest) (drop pending rest) (jump ∷ drop (length now) all) in
      let cut : drop pending all ≡ drop pending rest ++ (jump ∷ drop (length now) all) =
      ap (drop pending) split ∙ ap (λ k. drop k (take pending rest ++ (drop pending rest ++ (jump ∷ drop (length now) all)))) (sym first) ∙ drop-append_seam (take pending rest) (drop pending rest ++ (jump ∷ drop (length now) all)) in
      All-head P jump (drop (length now) all) (All-right P (drop pending rest) (jump ∷ drop (length now) all) (subst (λ xs. All P xs) cut a))

-- what is put right stays as many
pub next_all : (e : Emitter) (ns : List ℕ) (does : Instr) → next (all_replaced e ns does) ≡ next e
next_all e [] does = refl
next_all e (n ∷ ns) does = next_replaced (all_replaced e ns does) n does ∙ next_all e ns does

-- one more is put right
pub ended_more : (old now : Emitter) (v : Vec ℕ Global) (jump : ℕ) (does : Instr) → now.pending.items ≡ take (length now.pending.items) old.pending.items → now.pending.items ≡ v.items ++ jump ∷ [] → now ≡ record (all_replaced old (drop (length now.pending.items) old.pending.items) does) { pending = now.pending } → replaced (record now { pending = v }) jump does ≡ record (all_replaced old (drop (length v.items) old.pending.items) does) { pending = v }
ended_more old now v jump does there popped ended =
    ap (λ (e : Emitter). replaced (record e { pending = v }) jump does) ended
    ∙ ap (λ ns. record (all_replaced old ns does) { pending = v }) (sym (dropped_more old.pending.items now.pending.items v.items jump there popped))

pub ended_next : (old now : Emitter) (does : Instr) (ns : List ℕ) → now ≡ record (all_replaced old ns does) { pending = now.pending } → next now ≡ next old
ended_next old now does ns ended = ap next ended ∙ next_all old ns does

pub rest_least : (now rest : List ℕ) (jump pending : ℕ) → now ≡ rest ++ jump ∷ [] → pending < length now → pending ≤ length rest
rest_least now rest jump pending popped l = let e = ap length popped in let n = length-append rest (jump ∷ []) in omega (arith, e, n, l)

-- the one that is put right is there
pub jump_next : (old now : Emitter) (v : Vec ℕ Global) (jump pending : ℕ) (does : Instr) → now.pending.items ≡ take (length now.pending.items) old.pending.items → now.pending.items ≡ v.items ++ jump ∷ [] → now ≡ record (all_replaced old (drop (length now.pending.items) old.pending.items) does) { pending = now.pending } → pending < length now.pending.items → All (λ j. j < next old) (drop pending old.pending.items) → jump < next now
jump_next old now v jump pending does there popped ended l all =
    let least : pending ≤ length v.items = rest_least now.pending.items v.items jump pending popped l in
    let within : jump < next old = jump_within old.pending.items now.pending.items v.items jump there popped (λ j. j < next old) pending least all in
    let same : next now ≡ next old = ended_next old now does (drop (length now.pending.items) old.pending.items) ended in
    omega (arith, within, same)
