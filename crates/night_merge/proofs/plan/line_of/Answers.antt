use Rattle.std.proofs.Common.{ap, sym, ◌∙◌, arith}
use Rattle.std.proofs.lemmas.List.{nil_from_length}
use Rattle.night_merge.proofs.Plans.{first, is_job, is_night, is_opened, is_refused, is_stray, is_window, some_text}
use Rattle.night_merge.proofs.plan.line_of.Goals as goal

pub returns-in_err-first : goal.returns-in_err-first
returns-in_err-first c = λ line said e. absurd (some_text line said (sym e ∙ nil_from_length c.args.text.now c.in_err-first.ensures.cases))

pub returns-in-78 : goal.returns-in-78
returns-in-78 c = is_night c.args.text.now c.night_of.result (ap first c.in_ok-first.ensures.cases.0 ∙ c.in-78.is) c.night_of.ensures

pub returns-in-65 : goal.returns-in-65
returns-in-65 c = is_opened c.args.text.now c.opened_of.result (ap first c.in_ok-first.ensures.cases.0 ∙ c.in-65.is) c.opened_of.ensures

pub returns-in-87 : goal.returns-in-87
returns-in-87 c = is_window c.args.text.now c.window_of.result (ap first c.in_ok-first.ensures.cases.0 ∙ c.in-87.is) c.window_of.ensures

pub returns-in-82 : goal.returns-in-82
returns-in-82 c = is_refused c.args.text.now c.refused_of.result (ap first c.in_ok-first.ensures.cases.0 ∙ c.in-82.is) c.refused_of.ensures

pub returns-in-83 : goal.returns-in-83
returns-in-83 c = is_stray c.args.text.now c.stray_of.result (ap first c.in_ok-first.ensures.cases.0 ∙ c.in-83.is) c.stray_of.ensures

pub returns-in_default : goal.returns-in_default
returns-in_default c =
    is_job c.args.text.now c.job_of.result c.in_ok-first.first.now (ap first c.in_ok-first.ensures.cases.0)
    (λ e. omega (arith, e, c.in_default)) (λ e. omega (arith, e, c.in_default)) (λ e. omega (arith, e, c.in_default)) (λ e. omega (arith, e, c.in_default)) (λ e. omega (arith, e, c.in_default))
    c.job_of.ensures
