use Rattle.std.proofs.Common.{◌++◌, ◌∷◌, [], length, ap, ◌∙◌, arith}
use Rattle.std.specs.Prelude.{Ok, Err, if◌then◌else◌, nat_lt}
use Rattle.cell_store.specs.declared.entries.Entry.TheVariants as entry
use Rattle.cell_store.specs.declared.entries.Refusal.TheVariants as refusal
use Rattle.cell_store.specs.Stores.{Store}
use Rattle.machine_rows.proofs.Declaring.{declared, has_entry, declared_comes, declared_not, fits_by, never_full}
use Rattle.machine_rows.proofs.arrays.declare_array.Goals as goal

pub returns-in-Err : goal.returns-in-Err
returns-in-Err g c = declared_not g.seen c.args.state.now c.args.held c.args.kind c.args.name c.in-Bounds.bounds c.push_array.new.self c.in-Err.limit c.requires.0 c.in-Bounds.is c.requires.1.1.1 c.in-Err.ensures.answer c.in-Err.ensures.unchanged

pub unreachable-requires-in-Err-push_entry : goal.unreachable-requires-in-Err-push_entry
unreachable-requires-in-Err-push_entry g c =
    let s = c.args.state.now in
    let ok = fits_by g.seen s c.args.held c.args.kind c.args.name c.in-Bounds.bounds c.in-Ok.field-0 c.in-Ok.ensures.answer in
    never_full g.seen s c.args.held c.args.kind c.args.name c.in-Bounds.bounds c.in-Err-push_entry.field-0 c.requires.0 (has_entry g.seen s c.args.held c.args.kind c.args.name c.in-Bounds.bounds c.in-Bounds.is c.requires.1.1.1 ok)
    (c.in-Err-push_entry.ensures.answer ∙ ap (λ (x : Store). if nat_lt (length x.entries) x.entry_room then Ok tt else Err refusal.NoRoom) c.in-Ok.ensures.pushed)

pub returns : goal.returns
returns g c =
    let s = c.args.state.now in
    let ok = fits_by g.seen s c.args.held c.args.kind c.args.name c.in-Bounds.bounds c.in-Ok.field-0 c.in-Ok.ensures.answer in
    declared_comes g.seen s c.args.held c.args.kind c.args.name c.in-Bounds.bounds c.push_entry.new.self c.requires.0 c.requires.1.0 c.requires.1.1.0 (omega (arith, c.live-cell.ensures.count, c.live-cell.ensures.within)) c.in-Bounds.is c.requires.1.1.1 ok
    (c.in-Ok-push_entry.ensures.pushed ∙ ap (λ (x : Store). record x { entries = x.entries ++ entry.Name c.args.name c.live-cell.result ∷ [] }) c.in-Ok.ensures.pushed ∙ ap (λ n. record (declared g.seen s c.args.held c.args.kind c.args.name c.in-Bounds.bounds) { entries = s.store.entries ++ entry.Name c.args.name n ∷ [] }) c.live-cell.ensures.count)
