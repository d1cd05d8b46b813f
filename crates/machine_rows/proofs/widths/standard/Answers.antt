use Rattle.std.proofs.Common.{sym, ap, ◌∙◌, subst}
use Rattle.std.specs.Prelude.{Ok, Some}
use Rattle.cell_store.specs.declared.cells.Word.TheVariants as held
use Rattle.machine_rows.specs.Seen.{Comes, machine_of, row_of}
use Rattle.stack_code.specs.declared.instructions.Instr.TheVariants as instr
use Rattle.machine_rows.proofs.SettingRows.{standard_wanted, place_comes, value_comes}
use Rattle.machine_rows.proofs.widths.standard.Goals as goal

pub wanted-requires : goal.wanted-requires
wanted-requires g c = standard_wanted g.was.0 c.args.state.now g.was.1 c.requires.0 c.args.mode c.args.width c.requires.1

pub returns-in-Place : goal.returns-in-Place
returns-in-Place g c =
    subst (λ n. Comes g.was.0 c.args.state.now g.was.1 (Ok (held.Field n)) (row_of g.was.0 0 (instr.Standard c.args.mode c.args.width) (machine_of g.was.0 c.args.state.now g.was.1))) (sym c.standard_field.ensures)
    (place_comes g.was.0 c.args.state.now g.was.1 c.requires.0 c.args.mode c.args.width (c.wanted.ensures ∙ ap Some c.in-Place.is))

pub returns-in-Value : goal.returns-in-Value
returns-in-Value g c =
    value_comes g.was.0 c.args.state.now g.was.1 c.requires.0 c.args.mode c.args.width c.hold_value.new.state c.hold_value.result (c.wanted.ensures ∙ ap Some c.in-Value.is)
    (c.hold_value.ensures.held ∙ ap Some c.standard_value-value.ensures) (c.hold_value.ensures.fits g.was.0.code.given c.requires.0.kinds.wide) c.hold_value.ensures.kept
