use Rattle.std.proofs.Common.{rules, w32, FitsSigned, ◌+◌, ◌++◌, ◌∷◌, [], set, sym, ap, ◌∙◌, subst}
use Rattle.std.specs.Prelude.{Ok}
use Rattle.std.proofs.lemmas.Int.{to_z-of_z}
use Rattle.machine_rows.specs.Widths.{only, with_width}
use Rattle.cell_store.specs.declared.entries.Entry.TheVariants as entry
use Rattle.cell_store.specs.declared.entries.WidthsSet.{WidthsSet}
use Rattle.cell_store.specs.Stores.{Store}
use Rattle.machine_rows.specs.Seen.{Comes, IsClear}
use Rattle.machine_rows.proofs.SettingRows.{setting_row, opened, set_there, within, replaced_comes}
use Rattle.machine_rows.proofs.widths.set_width.Goals as goal

pub widths_at-set-requires : goal.widths_at-set-requires
widths_at-set-requires g c =
    let s = c.args.state.now in
    set_there g.seen s c.args.held c.requires.0 c.args.width c.in-Some.position c.integer-number.result c.integer-number.ensures
    (subst (λ p. IsClear (setting_row g.seen s c.args.held c.requires.0 c.args.width p)) c.in-Some.is c.requires.1)

pub set_entry-requires : goal.set_entry-requires
set_entry-requires g c =
    within g.seen c.args.state.now c.args.held c.requires.0 c.args.width c.in-Some.position c.integer-number.result c.integer-number.ensures c.widths_at-set.result c.widths_at-set.ensures c.start_out.result c.start_out.ensures

pub returns-in-None : goal.returns-in-None
returns-in-None g c =
    let s = c.args.state.now in
    let row = setting_row g.seen s c.args.held c.requires.0 c.args.width in
    let n = c.integer-number.result in
    let fits : FitsSigned w32 n = search rules in
    subst (λ p. Comes g.seen c.enter.new.state c.args.held (Ok c.args.held) (row p)) (sym c.in-None.is)
    (opened g.seen s c.args.held c.requires.0 c.args.width c.integer-number.result c.integer-number.ensures (subst (λ p. IsClear (row p)) c.in-None.is c.requires.1) c.enter.new.state
    (c.enter.ensures ∙ ap (λ (w : WidthsSet). record s { store = record s.store { entries = s.store.entries ++ entry.Widths w ∷ [] } }) (c.only.ensures ∙ ap (only c.args.width) (to_z-of_z w32 n fits))))

pub returns-in-Some : goal.returns-in-Some
returns-in-Some g c =
    let s = c.args.state.now in
    let row = setting_row g.seen s c.args.held c.requires.0 c.args.width in
    let p = c.in-Some.position in
    let at = c.start_out.result + p in
    let n = c.integer-number.result in
    let fits : FitsSigned w32 n = search rules in
    subst (λ q. Comes g.seen (record s { store = c.set_entry.new.self }) c.args.held (Ok c.args.held) (row q)) (sym c.in-Some.is)
    (replaced_comes g.seen s c.args.held c.requires.0 c.args.width p c.integer-number.result c.integer-number.ensures c.widths_at-set.result c.widths_at-set.ensures c.start_out.result c.start_out.ensures (record s { store = c.set_entry.new.self })
    (ap (λ (t : Store). record s { store = t }) (c.set_entry.ensures ∙ ap (λ (w : WidthsSet). record s.store { entries = set s.store.entries at (entry.Widths w) }) (c.with_width-set.ensures ∙ ap (λ k. with_width c.args.width k c.widths_at-set.result) (to_z-of_z w32 n fits)))))
