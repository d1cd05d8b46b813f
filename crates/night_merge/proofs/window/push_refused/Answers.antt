use Rattle.std.proofs.Common.{◌++◌, List, ℕ, ap, ◌∙◌}
use Rattle.night_merge.proofs.Supplying.{pushed_refused}
use Rattle.night_merge.proofs.window.push_refused.Goals as goal

pub returns : goal.returns
returns c =
    pushed_refused c.args.out.now.items c.push.new.self.items c.extend_from_slice.new.self.items c.push-2.new.self.items c.extend_from_slice-2.new.self.items _ _ _ _ _ c.args.name.now c.args.account_name.now
    c.text.result.now c.from.result c.args.flaw (c.from.ensures ∙ c.number.ensures) c.text.ensures c.in_ok-push.ensures.items
    (c.in_ok-extend_from_slice.ensures.items ∙ ap (λ (l : List ℕ). c.push.new.self.items ++ l) c.as_slice.ensures.value) c.in_ok-push-2.ensures.items
    (c.in_ok-extend_from_slice-2.ensures.items ∙ ap (λ (l : List ℕ). c.push-2.new.self.items ++ l) c.as_slice-2.ensures.value) c.in_ok-extend_from_slice-3.ensures.items c.in_ok-push_number.ensures
    c.in_ok-extend_from_slice-4.ensures.items c.in_ok-extend_from_slice-5.ensures.items c.in_ok-push-3.ensures.items
