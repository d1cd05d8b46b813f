use Rattle.std.proofs.Common.{ℕ, ◌+◌, ◌≤◌, Ok, length, refl, ◌∙◌, ap, sym, arith}
use Rattle.value_ops.specs.declared.values.RecordId.{RecordId}
use Rattle.record_store.proofs.RecordsInLine.{kept_more, kept_made, kept_taken, kept_behind, next_long, full_of_records, full_of_fields, has_room_for}
use Rattle.record_store.proofs.records.Records.make.Goals as goal
use Rattle.record_store.proofs.records.Records.make.Goals.{then-self-ge-MOST_RECORDS-via-then-self-ge-MOST_RECORDS, then-self-ge-MOST_RECORDS-via-else-self-ge-MOST_RECORDS+then-fields-self}

pub returns-then-self-ge-MOST_RECORDS-clause-answer : goal.returns-then-self-ge-MOST_RECORDS-clause-answer
returns-then-self-ge-MOST_RECORDS-clause-answer c =
    let made = kept_made _ _ _ _ _ c.self.invariant c.self.view_is in
    let taken = kept_taken _ _ _ _ _ c.self.invariant c.self.view_is in
    elim c.then-self-ge-MOST_RECORDS.branch [
      | then-self-ge-MOST_RECORDS-via-then-self-ge-MOST_RECORDS w ↦ let t = w.if-self-ge-MOST_RECORDS.true in rw (full_of_records c.args.self.now c.args.fields (omega arith)) refl
      | then-self-ge-MOST_RECORDS-via-else-self-ge-MOST_RECORDS+then-fields-self w ↦ let t = w.if-fields-self.true in rw (full_of_fields c.args.self.now c.args.fields (omega arith)) refl
    ]

pub invariant_of-self : goal.invariant_of-self
invariant_of-self c =
    let taken = c.self.inside.taken in
    let fields = c.self.inside.fields in
    let enough : taken + c.args.fields ≤ 16384 = omega (arith, c.self.invariant.taken_within) in
    let long = ap length c.undefine.ensures ∙ next_long fields taken c.args.fields (omega (arith, c.self.invariant.room)) in
    kept_more _ _ _ _ _ _ _ c.self.invariant c.from.ensures (omega arith) enough refl long

pub returns-clause-answer : goal.returns-clause-answer
returns-clause-answer c =
    let made = kept_made _ _ _ _ _ c.self.invariant c.self.view_is in
    let taken = kept_taken _ _ _ _ _ c.self.invariant c.self.view_is in
    let room = has_room_for c.args.self.now c.args.fields (omega arith) (omega (arith, c.self.invariant.taken_within)) in
    rw room (ap (λ (n : ℕ). let id : RecordId = record { 0 = n } in Ok id) (sym made))

pub returns-clause-made : goal.returns-clause-made
returns-clause-made c =
    let enough : c.self.inside.taken + c.args.fields ≤ 16384 = omega (arith, c.self.invariant.taken_within) in
    kept_behind _ _ _ _ _ _ _ _ c.self.invariant c.self.view_is c.from.ensures (omega arith) enough refl c.undefine.ensures
