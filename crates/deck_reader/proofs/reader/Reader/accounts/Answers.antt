use Rattle.std.proofs.Common.{Some, ap, sym, ◌∙◌}
use Rattle.deck_reader.proofs.Staying.{front_is, not_front, none_known, some_known}
use Rattle.deck_reader.proofs.reader.Reader.accounts.Goals as goal

pub returns-in-Front-clause-known : goal.returns-in-Front-clause-known
returns-in-Front-clause-known c = λ given taken input stands. (none_known given c.args.self.now taken input (front_is c.args.self.now.reading.stage c.in-Front.is) stands).0

pub returns-in_default-clause-known : goal.returns-in_default-clause-known
returns-in_default-clause-known c = λ given taken input stands.
    (some_known given c.args.self.now taken input (not_front c.args.self.now.reading.stage c.in_default.not-Front c.in_default.not-Library) stands).0 ∙ ap Some (sym c.as_slice.ensures)
