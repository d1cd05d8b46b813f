use Rattle.std.proofs.Common.{List, ◌≡◌, ◌∙◌, ap, sym, subst, arith, refl, true}
use Rattle.std.specs.List.{list_all}
use Rattle.algolw_scanner.specs.Laws.{IsOfDeck, IsScanOf}
use Rattle.algolw_tree.specs.declared.tokens.Token.{Token}
use Rattle.algolw_tree.specs.Libraries.{is_early, wrapped}
use Rattle.algolw_tree.specs.Programs.{IsEnded}
use Rattle.algolw_meaning.specs.DeckDiagnostics.{of_tokens}
use Rattle.algolw_meaning.proofs.Found.{deck_ended}
use Rattle.procedure_library.proofs.MovedTokens.{wrapped_are_ended}
use Rattle.job_runner.proofs.Compiling.{are_early}
use Rattle.job_runner.proofs.preparing.find.Goals as goal

pub wrap-requires : goal.wrap-requires
wrap-requires c =
    let placed = subst (IsOfDeck c.args.cards.now) c.in-Tokens.is c.in_ok-tokens.ensures.placed in
    subst (λ (ts : List Token). list_all is_early ts ≡ true) (sym c.as_slice.ensures.value) (are_early c.args.cards.now c.in-Tokens.tokens.items c.requires.few placed)

pub find_in-requires : goal.find_in-requires
find_in-requires c =
    let are = subst (IsScanOf c.args.cards.now) c.in-Tokens.is c.in_ok-tokens.ensures.said in
    subst IsEnded (sym (c.in_ok-wrap-in-Tokens.ensures ∙ ap wrapped c.as_slice.ensures.value)) (wrapped_are_ended c.in-Tokens.tokens.items (deck_ended c.args.cards.now c.in-Tokens.tokens.items are))

pub returns-in_ok-wrap-in-Tokens : goal.returns-in_ok-wrap-in-Tokens
returns-in_ok-wrap-in-Tokens c =
    let are = subst (IsScanOf c.args.cards.now) c.in-Tokens.is c.in_ok-tokens.ensures.said in
    c.find_in.ensures c.args.cards.now c.in-Tokens.tokens.items are (c.in_ok-wrap-in-Tokens.ensures ∙ ap wrapped c.as_slice.ensures.value)

pub moved-requires : goal.moved-requires
moved-requires c =
    let placed = subst (IsOfDeck c.args.cards.now) c.in-Bad.is c.in_ok-tokens.ensures.placed in
    omega (arith, placed.to_last, c.requires.few)

pub returns-in-Bad : goal.returns-in-Bad
returns-in-Bad c = of_tokens c.in-Bad.fault (subst (IsScanOf c.args.cards.now) c.in-Bad.is c.in_ok-tokens.ensures.said) c.moved.ensures
