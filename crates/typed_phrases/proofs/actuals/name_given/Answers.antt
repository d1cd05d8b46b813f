use Rattle.std.proofs.Common.{false, Option, sym, ap, subst, ◌∙◌}
use Rattle.std.specs.Option.{option_map}
use Rattle.algolw_typing.specs.Actuals.{name_read}
use Rattle.algolw_typing.specs.Meanings.{Part}
use Rattle.algolw_typing.specs.Typing as rules
use Rattle.algolw_typing.specs.Typing.{named_out, read_as}
use Rattle.typing_rules.specs.MeaningView.{meaning, wanted}
use Rattle.typing_rules.specs.View.{verdict}
use Rattle.typing_rules.specs.declared.meanings.Meaning.{Meaning}
use Rattle.typed_phrases.specs.Readings.{NameReads, Reads}
use Rattle.typed_phrases.proofs.Readings.{name_as_phrase}
use Rattle.typed_phrases.proofs.actuals.name_given.Goals as goal

pub returns-in-None : goal.returns-in-None
returns-in-None c =
    subst (λ (m : Option Meaning). NameReads (verdict c.args.found) c.phrase_given.result (rules.name_given (wanted c.args.wanted) (option_map meaning m))) (sym c.in-None.is)
    (name_as_phrase c.phrase_given.result false (verdict c.args.found) (ap verdict c.phrase_given.ensures.verdict) c.phrase_given.ensures.part)

pub returns-in-Some : goal.returns-in-Some
returns-in-Some c =
    subst (λ (m : Option Meaning). NameReads (verdict c.args.found) c.read_as.result (rules.name_given (wanted c.args.wanted) (option_map meaning m))) (sym c.in-Some.is)
    (λ p f e lists same. subst (λ (q : Part). Reads c.read_as.result (named_out p f e lists) (read_as q (named_out p f e lists)))
    (c.read_name.ensures ∙ ap (name_read (wanted c.args.wanted) (meaning c.in-Some.meaning)) (sym same)) (c.read_as.ensures p f e lists same))
