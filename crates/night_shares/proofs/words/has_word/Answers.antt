use Rattle.std.proofs.Common.{◌≡◌, ◌&&◌, Bool, List, ℕ, length, take, drop, map, sym, ap, ◌∙◌, arith}
use Rattle.std.proofs.lemmas.Bool.Decides.{same_from_decides}
use Rattle.std.proofs.lemmas.Slice.Eq.{bytes_eq-Decides}
use Rattle.std.specs.Char.{to_ascii_lowercase}
use Rattle.std.specs.Str.{bytes_eq, str_eq_ignore_ascii_case}
use Rattle.deck_reader.specs.Forms.{folded}
use Rattle.deck_reader.proofs.Words.{eq_ignore_ascii_case-folded}
use Rattle.night_shares.specs.WordEnds.{ends_word}
use Rattle.night_shares.proofs.ControlWords.{not_on_line, on_line}
use Rattle.night_shares.proofs.words.has_word.Goals as goal

pub returns-in_default : goal.returns-in_default
returns-in_default c = sym (not_on_line c.args.word.now c.args.line.now c.requires.plain (omega (arith, c.in_default.ensures.cases)))

pub returns-then-eq_ignore_ascii_case : goal.returns-then-eq_ignore_ascii_case
returns-then-eq_ignore_ascii_case c =
    let front = c.in-Some.front.now in
    let word = c.args.word.now in
    let same : bytes_eq (folded front) word ≡ c.eq_ignore_ascii_case.result =
    sym (same_from_decides c.eq_ignore_ascii_case.result (str_eq_ignore_ascii_case front word) c.eq_ignore_ascii_case.ensures.test (bytes_eq-Decides (map to_ascii_lowercase front) (map to_ascii_lowercase word))
    ∙ eq_ignore_ascii_case-folded front word c.requires.capitals) in
    let parts = c.in-Some.ensures.cases in
    c.ends_word.ensures
    ∙ ap (λ (v : Bool). v && ends_word c.in-Some.rest.now) (sym (same ∙ c.if-eq_ignore_ascii_case.true))
    ∙ ap (λ (t : List ℕ). bytes_eq (folded t) word && ends_word c.in-Some.rest.now) parts.1
    ∙ ap (λ (t : List ℕ). bytes_eq (folded (take (length word) c.args.line.now)) word && ends_word t) parts.2
    ∙ sym (on_line word c.args.line.now c.requires.plain)

pub returns-else-eq_ignore_ascii_case : goal.returns-else-eq_ignore_ascii_case
returns-else-eq_ignore_ascii_case c =
    let front = c.in-Some.front.now in
    let word = c.args.word.now in
    let same : bytes_eq (folded front) word ≡ c.eq_ignore_ascii_case.result =
    sym (same_from_decides c.eq_ignore_ascii_case.result (str_eq_ignore_ascii_case front word) c.eq_ignore_ascii_case.ensures.test (bytes_eq-Decides (map to_ascii_lowercase front) (map to_ascii_lowercase word))
    ∙ eq_ignore_ascii_case-folded front word c.requires.capitals) in
    let parts = c.in-Some.ensures.cases in
    c.if-eq_ignore_ascii_case.false
    ∙ ap (λ (v : Bool). v && ends_word (drop (length word) c.args.line.now)) (sym (same ∙ c.if-eq_ignore_ascii_case.false))
    ∙ ap (λ (t : List ℕ). bytes_eq (folded t) word && ends_word (drop (length word) c.args.line.now)) parts.1
    ∙ sym (on_line word c.args.line.now c.requires.plain)
