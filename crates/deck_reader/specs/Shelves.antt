-- The libraries that are kept: how they are shared, and whether there is room for one more.
use Rattle.std.specs.Prelude.{ℕ, List, Option, Some, None, Result, Ok, Err, if◌then◌else◌}
use Rattle.std.specs.Option.{option_map}
use Rattle.std.specs.declared.alloc.Global.{Global}
use Rattle.std.specs.declared.sync.Arc.{Arc}
use denote.Ref.{Bor}
use Rattle.deck_reader.specs.declared.batch.Flaw.{Flaw}
use Rattle.deck_reader.specs.LibraryView.{LibraryView, Shelved}
use Rattle.deck_reader.specs.Forms.{library_card}
use Rattle.deck_reader.specs.Named.{is_free}

-- a library that is shared, where there is one
abbrev pub held : Option (Arc LibraryView Global) → Option LibraryView
held library = option_map (λ l. l.value) library

-- what a job card's library is
abbrev pub lying : Result (Option (Arc LibraryView Global)) Flaw → Result (Option LibraryView) Flaw
lying (Ok library) = Ok (held library)
lying (Err flaw) = Err flaw

-- the same, where it is kept
abbrev pub found_at : Result (Option (Bor (Arc LibraryView Global))) Flaw → Result (Option LibraryView) Flaw
found_at (Ok library) = Ok (option_map (λ l. l.now.value) library)
found_at (Err flaw) = Err flaw

-- a name, where there is room for a library more and none has it
abbrev pub unless_kept : List Shelved → Option (List ℕ) → Option (List ℕ)
unless_kept shelf None = None
unless_kept shelf (Some name) = if is_free (λ l. l.name) 20 shelf name then Some name else None

-- the name of the library that a card begins, where that is kept
abbrev pub free_name : List Shelved → List ℕ → Option (List ℕ)
free_name shelf card = unless_kept shelf (library_card card)
