use Rattle.std.proofs.Common.{Option, None, length, refl, sym, ap, ◌∙◌, arith}
use Rattle.std.proofs.lemmas.List.{length-replicate}
use Rattle.value_ops.specs.declared.values.Value.{Value}
use Rattle.record_store.proofs.records.Records.new.Goals as goal

pub invariant_of-result : goal.invariant_of-result
invariant_of-result c = record {
  records = sym c.in_ok-vec.field-0.ok.0 ∙ c.in_ok-vec.ensures.len;
  room = ap length c.in_ok-new.ensures ∙ length-replicate {A = Option Value} 16384 None;
  made_within = omega arith;
  taken_within = omega arith;
  laid = refl;
}
