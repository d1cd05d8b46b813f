use Rattle.std.proofs.Common.{List, ◌∙◌, sym, subst}
use Rattle.algolw_parser.specs.Parsed.{Means}
use Rattle.algolw_parser.specs.declared.parsing.Parsed.TheVariants.{Bad, Tree}
use Rattle.algolw_tree.specs.View.{tree}
use Rattle.algolw_tree.specs.declared.tokens.Token.{Token}
use Rattle.algolw_meaning.specs.DeckDiagnostics.{IsLibraryFound, of_form}
use Rattle.job_runner.specs.Preparing.{library_found}
use Rattle.job_runner.proofs.Compiling.{judged_right}
use Rattle.job_runner.proofs.preparing.find_in.Goals as goal

pub returns-in-Tree : goal.returns-in-Tree
returns-in-Tree c = λ cards own are e.
    let of_slice : Means c.as_slice.result.now (Tree c.in-Tree.program) = subst (Means c.as_slice.result.now) c.in-Tree.is c.in_ok-program.ensures.means in
    let means = subst (λ (tokens : List Token). Means tokens (Tree c.in-Tree.program)) (c.as_slice.ensures.value ∙ e) of_slice in
    subst (λ f. IsLibraryFound cards (library_found f)) (sym c.judge.ensures) (judged_right cards own (tree c.in-Tree.program) c.as_library.result are means c.as_library.ensures)

pub returns : goal.returns
returns c = λ cards own are e.
    let of_slice : Means c.as_slice.result.now (Bad c.in-Bad.fault) = subst (Means c.as_slice.result.now) c.in-Bad.is c.in_ok-program.ensures.means in
    let means = subst (λ (tokens : List Token). Means tokens (Bad c.in-Bad.fault)) (c.as_slice.ensures.value ∙ e) of_slice in
    of_form own means.0 are means.1 means.2
