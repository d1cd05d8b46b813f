use Rattle.std.proofs.Common.{◌∙◌, map}
use Rattle.std.proofs.lemmas.Bool.Decides.{same_from_decides}
use Rattle.std.proofs.lemmas.Slice.Eq.{bytes_eq-Decides}
use Rattle.std.specs.Char.{to_ascii_lowercase}
use Rattle.std.specs.Str.{str_eq_ignore_ascii_case}
use Rattle.deck_reader.proofs.Words.{eq_ignore_ascii_case-folded}
use Rattle.deck_reader.proofs.forms.is_word.Goals as goal

pub returns : goal.returns
returns c =
    let text = c.args.text.now in
    let word = c.args.word.now in
    same_from_decides c.eq_ignore_ascii_case.result (str_eq_ignore_ascii_case text word) c.eq_ignore_ascii_case.ensures.test (bytes_eq-Decides (map to_ascii_lowercase text) (map to_ascii_lowercase word))
    ∙ eq_ignore_ascii_case-folded text word c.requires
