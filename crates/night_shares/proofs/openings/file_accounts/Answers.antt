use Rattle.std.proofs.Common.{◌∷◌, [], ◌+◌, List, ℕ, refl, sym, subst, ◌∙◌}
use Rattle.deck_reader.specs.declared.batch.Account.{Account}
use Rattle.accounts_text.specs.Text.{AccountsList, AreAccounts}
use Rattle.night_shares.specs.declared.shelf.NightFile.TheVariants.{Accounts}
use Rattle.night_shares.specs.Filing.{Files}
use Rattle.night_shares.proofs.ChainFiles.{next_filed, none_filed}
use Rattle.night_shares.proofs.OfChains.{are_accounts}
use Rattle.night_shares.proofs.openings.file_accounts.Goals as goal

pub loop-chain-init : goal.loop-chain-init
loop-chain-init g c = (refl, none_filed (g.D.Shelf.filed c.args.shelf.now) c.args.chains c.args.accounts.now)

pub accounts_bytes-requires : goal.accounts_bytes-requires
accounts_bytes-requires g c =
    subst AreAccounts (sym (c.as_slice.ensures.value ∙ c.in_ok-own.ensures)) (are_accounts c.args.chains c.loop-chain.chain c.args.accounts.now c.requires.rules c.loop-chain-test.true c.requires.enough)

pub loop-chain-preserved : goal.loop-chain-preserved
loop-chain-preserved g c =
    let chain = c.loop-chain.chain in
    let then = g.D.Shelf.filed c.loop-chain.shelf in
    let now = g.D.Shelf.filed c.file.new.self in
    let states = subst (λ (own : List Account). AccountsList c.in_ok-text.text.items own) (c.as_slice.ensures.value ∙ c.in_ok-own.ensures) c.in_ok-text.ensures in
    let filed = subst (λ (t : List ℕ). Files then now (record { file = Accounts (chain + 1); text = t } ∷ [])) c.as_slice-in-loop-chain.ensures.value c.in_ok-file.ensures.ok in (
      c.in_ok-file.ensures.cause.same ∙ c.loop-chain.invariant.0,
      next_filed (g.D.Shelf.filed c.args.shelf.now) then now c.args.chains c.args.accounts.now chain c.in_ok-text.text.items c.loop-chain.invariant.1 states filed,
    )
