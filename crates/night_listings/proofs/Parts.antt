-- The sections of a part.
use Rattle.std.proofs.Common.{◌≡◌, ℕ, ◌+◌, Bool, true, false, cond, List, [], ◌∷◌, ◌++◌, Option, refl, ap, ◌∙◌, append_assoc}
use Rattle.deck_reader.specs.JobView.{JobView}
use Rattle.account_book.specs.BookView.{openings_of}
use Rattle.batch_listing.specs.Listing.{closed_accounts, section}
use Rattle.batch_listing.specs.Texts.{heading, closing}
use Rattle.account_shares.specs.Own.{section_as}
use Rattle.account_shares.specs.Shares.{closing_in, sections_in}
use Rattle.account_shares.proofs.SharesOfNights.{share_night_listing}
use Rattle.night_listings.specs.Laws.{PartListing}
use Rattle.night_listings.specs.Nights.{behind_number, in_chain, numbered, numbered_from, rests_in}

-- a section under a number
pub section_numbered : (number : ℕ) (openings : List ℕ) (earlier : List JobView) (job : JobView) → section_as number openings earlier job ≡ numbered number (behind_number openings earlier job)
section_numbered number openings earlier job = simp append_assoc

pub own_number : (openings : List ℕ) (earlier : List JobView) (job : JobView) → section openings earlier job ≡ numbered job.number (behind_number openings earlier job)
own_number openings earlier job = simp append_assoc

sections_by : (b : Bool) (number : ℕ) (here one rest more : List ℕ) (rests others : List (List ℕ)) → here ≡ numbered number one → rest ≡ numbered_from (number + 1) rests → more ≡ numbered_from number others
    → cond b (here ++ rest) more ≡ numbered_from number (cond b (one ∷ rests) others)
sections_by true number here one rest more rests others first next none = ap (λ (xs : List ℕ). xs ++ rest) first ∙ ap (λ (xs : List ℕ). numbered number one ++ xs) next
sections_by false number here one rest more rests others first next none = none

pub sections_numbered : (own : Option ℕ → Bool) (number : ℕ) (openings : List ℕ) (earlier jobs : List JobView) → sections_in own number openings earlier jobs ≡ numbered_from number (rests_in own openings earlier jobs)
sections_numbered own number openings earlier [] = refl
sections_numbered own number openings earlier (job ∷ jobs) =
    sections_by (own job.account) number (section_as number openings earlier job) (behind_number openings earlier job)
    (sections_in own (number + 1) openings (earlier ++ job ∷ []) jobs) (sections_in own number openings (earlier ++ job ∷ []) jobs)
    (rests_in own openings (earlier ++ job ∷ []) jobs) (rests_in own openings (earlier ++ job ∷ []) jobs)
    (section_numbered number openings earlier job)
    (sections_numbered own (number + 1) openings (earlier ++ job ∷ []) jobs)
    (sections_numbered own number openings (earlier ++ job ∷ []) jobs)

pub part_listing : PartListing
part_listing chain c accounts earlier jobs =
    share_night_listing (in_chain chain c) accounts earlier jobs
    ∙ ap (λ (xs : List ℕ). heading ++ xs ++ closing (closing_in (in_chain chain c) 0 (openings_of accounts) (earlier ++ jobs) (closed_accounts (openings_of accounts) earlier accounts)) 0)
    (sections_numbered (in_chain chain c) 1 (openings_of accounts) earlier jobs)
