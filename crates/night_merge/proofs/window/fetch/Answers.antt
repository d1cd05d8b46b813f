use Rattle.std.proofs.Common.{ap, sym, ◌∙◌}
use Rattle.night_merge.specs.declared.shelf.Part.{Part}
use Rattle.night_merge.specs.Stops.{stop_unfetched}
use Rattle.night_merge.proofs.Nights.{stopped}
use Rattle.night_merge.proofs.Reasons.{named_part, unfetched_unnamed}
use Rattle.night_merge.proofs.Results.{matched_none, matched_some}
use Rattle.night_merge.proofs.window.fetch.Goals as goal

pub returns-in-Some-clause-found : goal.returns-in-Some-clause-found
returns-in-Some-clause-found g c = λ known e some.
    ap known (sym c.part-part.ensures) ∙ matched_some c.in_ok-text.field-0 c.in-Some.text _ _ (c.in_ok-text.ensures.found known e) c.in-Some.is

pub returns-in-None-clause-found : goal.returns-in-None-clause-found
returns-in-None-clause-found g c = λ known e. matched_none c.in_ok-text.field-0 _ _ (c.in_ok-text.ensures.found known e) c.in-None.is

pub returns-in_err-text-clause-named : goal.returns-in_err-text-clause-named
returns-in_err-text-clause-named g c =
    stopped c.from_residual.result (stop_unfetched c.in_err-text.field-0.0) _ c.from_residual.ensures.1 (λ part names. absurd (unfetched_unnamed c.in_err-text.field-0.0 part names))

pub returns-in-None-clause-named : goal.returns-in-None-clause-named
returns-in-None-clause-named g c = λ part names. ap (λ (p : Part). p.window) (sym (named_part c.part-part.result part names) ∙ c.part-part.ensures)
