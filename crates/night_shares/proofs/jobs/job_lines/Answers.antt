use Rattle.std.proofs.Common.{◌≡◌, ◌-◌, ◌==◌, ◌++◌, ◌∷◌, [], List, ℕ, length, take, refl, sym, ap, ◌∙◌, append_assoc, append-nil, arith}
use Rattle.std.specs.List.{before_first, list_any}
use Rattle.std.proofs.lemmas.List.{length-append, take_at}
use Rattle.deck_reader.proofs.Cuts.{parted-is, parted-none}
use Rattle.night_shares.specs.Lines.{ends_job, text_of_lines}
use Rattle.night_shares.proofs.LineRuns.{before_all, before_at, none_push}
use Rattle.night_shares.proofs.Texts.{line_off, no_lines, text_push}
use Rattle.night_shares.proofs.jobs.job_lines.Goals as goal

pub loop-line-init : goal.loop-line-init
loop-line-init c = ([], refl, λ lines all is. ([], lines, refl, all, refl, is, refl))

pub loop-line-preserved : goal.loop-line-preserved
loop-line-preserved c =
    let inv = c.loop-line.invariant in
    let line = c.in-Some.line.now in
    let behind = c.in-Some.behind.now in
    let part = parted-is 10 c.loop-line.rest.now line behind c.in-Some.ensures.parts in (
      inv.0 ++ line ++ 10 ∷ [],
      inv.1 ∙ ap (λ (r : List ℕ). inv.0 ++ r) part.0 ∙ simp append_assoc,
      λ lines all is.
          let at = inv.2 lines all is in
          let off = line_off at.1 line behind at.3 part.1 (sym at.5 ∙ part.0) in (
            at.0 ++ line ∷ [],
            off.0,
            at.2 ∙ ap (λ (ls : List (List ℕ)). at.0 ++ ls) off.1 ∙ sym (append_assoc at.0 (line ∷ []) off.0),
            off.3,
            ap (λ (t : List ℕ). t ++ line ++ 10 ∷ []) at.4 ∙ text_push at.0 line,
            off.2,
            none_push ends_job at.0 line at.6 (sym c.ends_job.ensures ∙ c.if-ends_job.false),
          ),
    )

pub returns-then-ends_job-clause-lines : goal.returns-then-ends_job-clause-lines
returns-then-ends_job-clause-lines c = λ lines all is.
    let inv = c.loop-line.invariant in
    let line = c.in-Some.line.now in
    let behind = c.in-Some.behind.now in
    let part = parted-is 10 c.loop-line.rest.now line behind c.in-Some.ensures.parts in
    let at = inv.2 lines all is in
    let off = line_off at.1 line behind at.3 part.1 (sym at.5 ∙ part.0) in
    let long : length c.args.run.now - length c.loop-line.rest.now ≡ length inv.0 = omega (arith, ap length inv.1, length-append inv.0 c.loop-line.rest.now) in
    ap (λ (n : ℕ). take n c.args.run.now) long
    ∙ ap (take (length inv.0)) inv.1
    ∙ take_at inv.0 c.loop-line.rest.now (length inv.0) refl
    ∙ at.4
    ∙ ap text_of_lines (sym (ap (before_first ends_job) (at.2 ∙ ap (λ (ls : List (List ℕ)). at.0 ++ ls) off.1) ∙ before_at ends_job at.0 line off.0 at.6 (sym c.ends_job.ensures ∙ c.if-ends_job.true)))

pub returns-clause-lines : goal.returns-clause-lines
returns-clause-lines c = λ lines all is.
    let inv = c.loop-line.invariant in
    let at = inv.2 lines all is in
    let none = no_lines at.1 (ap (list_any (λ b. b == 10)) (sym at.5) ∙ parted-none 10 c.loop-line.rest.now c.in_default.ensures.parts) in
    let whole : lines ≡ at.0 = at.2 ∙ ap (λ (ls : List (List ℕ)). at.0 ++ ls) none ∙ append-nil at.0 in
    is ∙ ap text_of_lines (whole ∙ sym (ap (before_first ends_job) whole ∙ before_all ends_job at.0 at.6))
