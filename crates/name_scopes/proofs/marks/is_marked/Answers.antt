use Rattle.std.proofs.Common.{ℕ, nat_eq, sym, ap, ◌∙◌}
use Rattle.name_scopes.specs.Marks.{mark_of}
use Rattle.name_scopes.proofs.Marking.{unlike}
use Rattle.name_scopes.proofs.marks.is_marked.Goals as goal

pub returns : goal.returns
returns c unset x at =
    let is = c.mark_of.ensures.value ∙ ap mark_of c.as_slice.ensures in
    unlike c.args.name.now x c.args.mark (ap (λ (n : ℕ). nat_eq n c.args.mark) (sym is) ∙ unset) at
