use Rattle.std.proofs.Common.{◌≡◌, ℕ, ◌-◌, min, List, [], ◌∷◌, ◌++◌, length, take, map, Option, None, subst, sym, ap, ◌∙◌}
use Rattle.short_text.specs.Blanks.{trimmed, blanks}
use Rattle.output_editing.specs.Layout.{Put, printed}
use Rattle.output_editing.specs.Page.{Page, HasPrinted}
use Rattle.output_editing.specs.Held.{with_room}
use Rattle.output_editing.proofs.Pages.{page-put, page-put_nowhere}
use Rattle.output_editing.proofs.printer.Printer.put.Goals as goal
use Rattle.output_editing.proofs.printer.Printer.put.Goals.{in-Some, in_default}

pub returns-clause-printed : goal.returns-clause-printed
returns-clause-printed c = λ pieces is.
    let page = c.args.self.now in
    let text = c.args.text.now in
    let after = c.args.after in
    let fields = c.self.inside in
    let front : List (List ℕ) = map trimmed (take fields.closed fields.lines.items) in
    let ready = c.self.view_is ∙ c.make_room.ensures in
    elim c.match-self.branch [
      | in-Some w ↦
          let At : Option (List ℕ) → Type 0 = λ o. record { limit = fields.limit; lines = front ++ printed o; open_line = o; is_full = fields.is_full } ≡ with_room page text in
          let spaced_is = w.blanks.ensures ∙ ap (λ (line : List ℕ). line ++ blanks (min after (132 - length line))) w.append.ensures in
          rw w.self-inside-is (page-put page fields.limit front w.in-Some.line w.blanks.new.self fields.is_full pieces text after is c.requires (subst At w.in-Some.is ready) spaced_is)
      | in_default w ↦
          let none : (with_room page text).open_line ≡ None = ap (λ p. p.open_line) (sym ready) ∙ w.in_default.is in
          let Printed : Page → Type 0 = λ p. HasPrinted p (pieces ++ Put text after ∷ []) in
          rw w.self-inside-is (subst Printed (sym ready) (page-put_nowhere page pieces text after is none))
    ]
