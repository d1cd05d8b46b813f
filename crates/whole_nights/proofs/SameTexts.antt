-- The texts of a listing, in the words of the joining and in those of the batch.
use Rattle.std.proofs.Common.{◌≡◌, ℕ, ◌+◌, ◌-◌, ◌%◌, ◌==◌, Bool, true, false, cond, List, [], ◌∷◌, ◌++◌, flat_map, codes, decimal, refl, sym, ap, ◌∙◌, append_assoc}
use Rattle.std.specs.List.{enumerate_from}
use Rattle.deck_reader.specs.declared.batch.Account.{Account}
use Rattle.deck_reader.specs.declared.batch.Flaw.{Flaw}
use Rattle.deck_reader.specs.Flaws.{flaw_number, flaw_text}
use Rattle.deck_reader.specs.JobView.{JobView}
use Rattle.account_book.specs.BookView.{openings_of}
use Rattle.batch_listing.specs.Listing.{closing_lines as batch_lines}
use Rattle.batch_listing.specs.Texts.{closing_title, flawed_line, heading, stray_line}
use Rattle.batch_listing.specs.Texts as batch
use Rattle.night_forms.specs.Joining.{closings_in, each_numbered, left_after}
use Rattle.night_listings.specs.Nights.{in_chain, names}
use Rattle.night_listings.specs.Nights as night
use Rattle.night_merge.specs.Joining.{refused_rest}
use Rattle.night_merge.specs.Texts.{chain_lines, closing, closing_line, closing_lines, numbered, numbered_each}
use Rattle.night_merge.specs.Texts as merge
use Rattle.night_shares.specs.Plan.{chain_of}

-- ---- sections

pub numbered_same : (number : ℕ) (rest : List ℕ) → numbered number rest ≡ night.numbered number rest
numbered_same number rest = sym (append_assoc (codes "\nJOB ") (decimal number) rest)

pub each_same : (number : ℕ) (rests : List (List ℕ)) → numbered_each number rests ≡ each_numbered number rests
each_same number [] = refl
each_same number (rest ∷ rests) = let first = numbered_same number rest in let others = each_same (number + 1) rests in λ i. first i ∷ others i

-- what the section of a refused job has behind its number
pub refused_same : (flaw : Flaw) (job : JobView) → refused_rest flaw job.name job.account_name ≡ names job ++ flawed_line flaw
refused_same flaw job =
    let number = decimal (flaw_number flaw) in
    let said = flaw_text flaw ++ 10 ∷ [] in
    let told : codes "REFUSED " ++ (number ++ (codes ": " ++ said)) ≡ flawed_line flaw =
    sym (
    append_assoc (codes "REFUSED " ++ number ++ codes ": ") (flaw_text flaw) (10 ∷ [])
    ∙ append_assoc (codes "REFUSED " ++ number) (codes ": ") said
    ∙ append_assoc (codes "REFUSED ") number (codes ": " ++ said)) in
    let title : names job ++ flawed_line flaw ≡ 32 ∷ (job.name ++ 32 ∷ (job.account_name ++ 10 ∷ flawed_line flaw)) =
    append_assoc (codes " " ++ job.name ++ codes " " ++ job.account_name) (10 ∷ []) (flawed_line flaw)
    ∙ append_assoc (codes " " ++ job.name ++ codes " ") job.account_name (10 ∷ flawed_line flaw)
    ∙ append_assoc (codes " " ++ job.name) (codes " ") (job.account_name ++ 10 ∷ flawed_line flaw) in
    ap (λ (t : List ℕ). 32 ∷ (job.name ++ 32 ∷ (job.account_name ++ 10 ∷ t))) told ∙ sym title

-- ---- closing lines

line_same : (account : Account) (left : ℕ) → closing_line account.name account.opening left ≡ batch.closing_line account left
line_same account left =
    let opening = decimal account.opening in
    let charges = decimal (account.opening - left) in
    let rest = decimal left ++ 10 ∷ [] in
    let front = account.name ++ codes " OPENING " in
    sym (
    append_assoc (front ++ opening ++ codes " CHARGES " ++ charges ++ codes " CLOSING ") (decimal left) (10 ∷ [])
    ∙ append_assoc (front ++ opening ++ codes " CHARGES " ++ charges) (codes " CLOSING ") rest
    ∙ append_assoc (front ++ opening ++ codes " CHARGES ") charges (codes " CLOSING " ++ rest)
    ∙ append_assoc (front ++ opening) (codes " CHARGES ") (charges ++ (codes " CLOSING " ++ rest))
    ∙ append_assoc front opening (codes " CHARGES " ++ (charges ++ (codes " CLOSING " ++ rest)))
    ∙ append_assoc account.name (codes " OPENING ") (opening ++ (codes " CHARGES " ++ (charges ++ (codes " CLOSING " ++ rest)))))

lines_from : (left : ℕ → ℕ) (number : ℕ) (accounts : List Account) → closing_lines left number accounts ≡ flat_map (λ p. batch.closing_line p.1 (left p.0)) (enumerate_from number accounts)
lines_from left number [] = refl
lines_from left number (account ∷ accounts) =
    let first = line_same account (left number) in
    let rest = lines_from left (number + 1) accounts in
    λ i. first i ++ rest i

-- those of all accounts
pub lines_same : (accounts : List Account) (jobs : List JobView) → closing_lines (left_after accounts jobs) 0 accounts ≡ batch_lines (openings_of accounts) jobs accounts
lines_same accounts jobs = lines_from (left_after accounts jobs) 0 accounts

chain_by : (own : Bool) (account : Account) (opening left : ℕ) (xs ys : List ℕ) → xs ≡ ys
    → cond own (closing_line account.name opening left ++ xs) xs ≡ cond own (batch.closing_line (record account { opening = opening }) left ++ ys) ys
chain_by true account opening left xs ys same = let first = line_same (record account { opening = opening }) left in λ i. first i ++ same i
chain_by false account opening left xs ys same = same

-- those of a chain's accounts
pub chain_same : (chains chain : ℕ) (before after : ℕ → ℕ) (number : ℕ) (accounts : List Account)
    → chain_lines chains chain before after number accounts ≡ closings_in (in_chain (chain_of chains) chain) number before after accounts
chain_same chains chain before after number [] = refl
chain_same chains chain before after number (account ∷ accounts) =
    chain_by (number % chains == chain) account (before number) (after number) (chain_lines chains chain before after (number + 1) accounts)
    (closings_in (in_chain (chain_of chains) chain) (number + 1) before after accounts) (chain_same chains chain before after (number + 1) accounts)

pub closing_same : (balances : List ℕ) (stray : ℕ) → closing balances stray ≡ batch.closing balances stray
unfolding closing_title stray_line
closing_same balances stray = sym (append_assoc closing_title balances (stray_line stray))

pub heading_same : merge.heading ≡ heading
unfolding heading
heading_same = refl
