use Rattle.std.proofs.Common.{◌≡◌, ◌-◌, ◌++◌, ℕ, suc, [], replicate, vec_capacity, vec_len}
use Rattle.record_store.proofs.fields.put_text.Given as goal

abbrev pub invariant-loop-texts : goal.invariant-loop-texts
invariant-loop-texts l = ((more : ℕ) × (l.texts.items ≡ l.initial.texts.items ++ replicate more [])) × (vec_capacity l.texts ≡ vec_capacity l.initial.texts)

abbrev pub decreases-loop-texts : goal.decreases-loop-texts
decreases-loop-texts l = suc l.place - vec_len l.texts
