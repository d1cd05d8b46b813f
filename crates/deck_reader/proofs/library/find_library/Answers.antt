use Rattle.std.proofs.Common.{ℕ, List, bytes_eq, sym, ap, ◌∙◌}
use Rattle.std.specs.List.{find}
use Rattle.deck_reader.specs.Batch.{library_found, library_named}
use Rattle.deck_reader.proofs.library.find_library.Goals as goal

pub returns-in-Some : goal.returns-in-Some
returns-in-Some c =
    c.library_of.ensures
    ∙ ap library_found (c.kept_library.ensures ∙ ap (λ (n : List ℕ). find (λ k. bytes_eq k.name n) c.args.kept.now) c.as_slice.ensures.value)
    ∙ sym (ap (library_named c.args.kept.now) c.in-Some.is)
