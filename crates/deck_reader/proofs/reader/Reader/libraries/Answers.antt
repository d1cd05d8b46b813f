use Rattle.std.proofs.Common.{Some, ap, sym, ◌∙◌}
use Rattle.deck_reader.proofs.Staying.{front_is, not_front, none_known, some_known}
use Rattle.deck_reader.proofs.reader.Reader.libraries.Goals as goal

pub returns-in-Front : goal.returns-in-Front
returns-in-Front c = λ given taken input stands. (none_known given c.args.self.now taken input (front_is c.args.self.now.reading.stage c.in-Front.is) stands).1

pub returns-in_default : goal.returns-in_default
returns-in_default c = λ given taken input stands.
    (some_known given c.args.self.now taken input (not_front c.args.self.now.reading.stage c.in_default.not-Front c.in_default.not-Library) stands).1 ∙ ap Some (sym c.as_slice.ensures)
