use Rattle.std.proofs.Common.{◌≡◌, true, false, sym, rules}
use Rattle.std.specs.Str.{bytes_eq}
use Rattle.declared_names.proofs.Knowing.{control_found, control_passed}
use Rattle.declared_names.proofs.innermost.find_control.Goals as goal

pub returns-then-eq : goal.returns-then-eq
returns-then-eq c =
    let same : bytes_eq c.args.control.now c.args.name.now ≡ true = search rules in
    control_found c.args.control.now c.args.name.now c.args.place same

pub returns-else-eq : goal.returns-else-eq
returns-else-eq c =
    let other : bytes_eq c.args.control.now c.args.name.now ≡ false = search rules in
    sym (control_passed c.args.control.now c.args.name.now c.args.place other)
