-- The accounts that cards open, one card at a time.
use Rattle.std.proofs.Common.{◌≡◌, ℕ, List, [], ◌∷◌, ◌++◌}
use Rattle.deck_reader.specs.Batch.{account_on, opened, with_account}
use Rattle.deck_reader.proofs.Named.{stated-push}

-- one card more
pub opened-push : (cards : List (List ℕ)) (card : List ℕ) → opened (cards ++ card ∷ []) ≡ with_account (opened cards) (account_on card)
opened-push cards card = stated-push (λ a. a.name) 500 account_on cards card
