use Rattle.std.proofs.Common.{rules, ◌≡◌, ◌∙◌, refl, decimal}
use Rattle.std.proofs.lemmas.Fmt.{IsAscii-decimal, parse-decimal}
use Rattle.std.proofs.lemmas.Str.{IsUtf8-from_ascii}
use Rattle.night_merge.proofs.texts.number_of.Goals as goal

pub returns-in-Ok : goal.returns-in-Ok
returns-in-Ok c = λ n h e.
    let text : c.in-Ok.text.now ≡ c.args.digits.now = search rules in
    let read = parse-decimal 64 n _ _ h h (text ∙ e) c.parse.ensures.value.0 in
    c.ok.ensures.value ∙ rw read refl

pub returns-in-Err : goal.returns-in-Err
returns-in-Err c = λ n h e. absurd (c.in-Err.ensures.cases.0 (rw e (IsUtf8-from_ascii (decimal n) (IsAscii-decimal n h))))
