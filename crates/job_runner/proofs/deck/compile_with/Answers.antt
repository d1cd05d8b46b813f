use Rattle.std.proofs.Common.{◌≡◌, subst, Some, inl}
use Rattle.deck_reader.specs.LibraryView.{LibraryView}
use Rattle.algolw_meaning.specs.DeckDiagnostics.{IsLibraryFound}
use Rattle.job_runner.specs.Preparing.{library_found}
use Rattle.job_runner.specs.declared.preparing.Found.{Found}
use Rattle.job_runner.proofs.deck.compile_with.Goals as goal

-- what was found of a library is found of this one, which is the same
of_same : (l m : LibraryView) (f g : Found) → l ≡ m → f ≡ g → IsLibraryFound l.cards (library_found f) → IsLibraryFound m.cards (library_found g)
of_same l m f g same is found = subst (λ (k : LibraryView). IsLibraryFound k.cards (library_found g)) same (subst (λ h. IsLibraryFound l.cards (library_found h)) is found)

pub compile_within-requires-clause-library : goal.compile_within-requires-clause-library
compile_within-requires-clause-library c =
    let of = c.prepared.inside in
    (c.args.prepared.now.cards, of_same of.library.value c.args.prepared.now of.found _ c.prepared.view_is c.in-Tree.is c.prepared.invariant)

pub returns-in-Tree : goal.returns-in-Tree
returns-in-Tree c =
    let of = c.prepared.inside in
    c.compile_within.ensures c.args.prepared.now.cards (of_same of.library.value c.args.prepared.now of.found _ c.prepared.view_is c.in-Tree.is c.prepared.invariant)

pub returns-in-Bad : goal.returns-in-Bad
returns-in-Bad c =
    let of = c.prepared.inside in
    c.diagnosed.ensures (Some c.args.prepared.now.cards) c.args.deck.now (inl (of_same of.library.value c.args.prepared.now of.found _ c.prepared.view_is c.in-Bad.is c.prepared.invariant))
