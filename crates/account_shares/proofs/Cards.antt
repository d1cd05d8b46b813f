-- The cards of a share's jobs.
use Rattle.std.proofs.Common.{◌≡◌, ℕ, ◌+◌, Bool, true, false, cond, nat_lt, List, [], ◌∷◌, ◌++◌, append-nil, Option, Some, None, Ok, Err, length, map, filter, flat_map, option_map, refl, sym, ap, ◌∙◌, arith, sum_by}
use Rattle.std.specs.List.{list_any, position_from}
use Rattle.std.specs.Str.{bytes_eq}
use Rattle.std.proofs.lemmas.Iterator.Adapters.{position_from-zero}
use Rattle.deck_reader.specs.declared.batch.Account.{Account}
use Rattle.deck_reader.specs.declared.forms.JobCard.{JobCard}
use Rattle.deck_reader.specs.JobView.{JobView}
use Rattle.deck_reader.specs.Cards.{cards}
use Rattle.deck_reader.specs.Forms.{is_head}
use Rattle.deck_reader.specs.JobCards.{job_card}
use Rattle.deck_reader.specs.Options.{is_in_range}
use Rattle.deck_reader.specs.LibraryView.{LibraryView}
use Rattle.deck_reader.specs.Batch.{Front, Run, account_for, account_of, batch_of, before_head, body, front_of, job_from, job_of, jobs_of, libraries_in, library_for, outside, runs, shelf_cards, shelved, strays, written}
use Rattle.deck_reader.specs.CardFlaws.{is_long, is_foul}
use Rattle.account_shares.specs.Own.{job_cards, kept_library_cards}
use Rattle.account_shares.specs.Laws.{IsPlain}
use Rattle.account_shares.specs.Shares.{as_in, cards_in, is_in, jobs_in, number_in, numbered_in, part_from, run_is_in}
use Rattle.account_shares.specs.ShareLaws.{ShareCards, ShareInput}
use Rattle.account_shares.proofs.Cut.{Found, account_by_any, body_again, closed, first_is_head, none_outside, read_job, runs_again, runs_are, runs_past, some_are}
use Rattle.account_shares.proofs.Firsts.{before-past_all}
use Rattle.account_shares.proofs.Kept.{all_counted, libraries_alone, no_heads}
use Rattle.account_shares.proofs.Again.{all_again}
use Rattle.account_shares.proofs.Bytes.{all_shared, cards_again}
use Rattle.account_shares.proofs.Shares.{next_other, next_own}

-- ---- the account of a name

found_by : (b c : Bool) (own : Option ℕ → Bool) (name : List ℕ) (a : Account) (accounts : List Account) (n : ℕ) → own (Some n) ≡ b → bytes_eq a.name name ≡ c
    → own (cond c (Some n) (position_from (λ x. bytes_eq x.name name) (n + 1) accounts)) ≡ true
    → (own (position_from (λ x. bytes_eq x.name name) (n + 1) accounts) ≡ true
    → position_from (λ x. bytes_eq x.name name) (number_in own (n + 1)) (part_from own (n + 1) accounts) ≡ option_map (number_in own) (position_from (λ x. bytes_eq x.name name) (n + 1) accounts))
    → position_from (λ x. bytes_eq x.name name) (number_in own n) (cond b (a ∷ part_from own (n + 1) accounts) (part_from own (n + 1) accounts))
    ≡ option_map (number_in own) (cond c (Some n) (position_from (λ x. bytes_eq x.name name) (n + 1) accounts))
found_by true true own name a accounts n is same mine rest =
    ap (λ (t : Bool). cond t (Some (number_in own n)) (position_from (λ x. bytes_eq x.name name) (number_in own n + 1) (part_from own (n + 1) accounts))) same
found_by true false own name a accounts n is same mine rest =
    ap (λ (t : Bool). cond t (Some (number_in own n)) (position_from (λ x. bytes_eq x.name name) (number_in own n + 1) (part_from own (n + 1) accounts))) same
    ∙ ap (λ (m : ℕ). position_from (λ x. bytes_eq x.name name) m (part_from own (n + 1) accounts)) (sym (next_own own n is))
    ∙ rest mine
found_by false true own name a accounts n is same mine rest = let both : false ≡ true = sym is ∙ mine in cc
found_by false false own name a accounts n is same mine rest =
    ap (λ (m : ℕ). position_from (λ x. bytes_eq x.name name) m (part_from own (n + 1) accounts)) (sym (next_other own n is))
    ∙ rest mine

found_in : (own : Option ℕ → Bool) (name : List ℕ) (accounts : List Account) (n : ℕ) → own (position_from (λ x. bytes_eq x.name name) n accounts) ≡ true
    → position_from (λ x. bytes_eq x.name name) (number_in own n) (part_from own n accounts) ≡ option_map (number_in own) (position_from (λ x. bytes_eq x.name name) n accounts)
found_in own name [] n mine = refl
found_in own name (a ∷ accounts) n mine =
    found_by (own (Some n)) (bytes_eq a.name name) own name a accounts n refl refl mine (found_in own name accounts (n + 1))

-- an account that is in the share, or a name that no account has, is found in the share's accounts as it is in all
account_in : (own : Option ℕ → Bool) (accounts : List Account) (name : List ℕ) → own (account_of accounts name) ≡ true → account_of (part_from own 0 accounts) name ≡ option_map (number_in own) (account_of accounts name)
account_in own accounts name mine =
    let there = position_from-zero (λ (x : Account). bytes_eq x.name name) accounts in
    position_from-zero (λ (x : Account). bytes_eq x.name name) (part_from own 0 accounts)
    ∙ found_in own name accounts 0 (ap own (sym there) ∙ mine)
    ∙ ap (option_map (number_in own)) (sym there)

-- ---- jobs

paid_in : (ranged many : Bool) (own : Option ℕ → Bool) (count : ℕ) (c : JobCard) (payer : Option ℕ) (library : Found) (deck data_cards : List (List ℕ)) → own (read_job ranged many 0 count c payer library deck data_cards).account ≡ true → own payer ≡ true
paid_in false many own count c payer library deck data_cards h = h
paid_in true true own count c payer library deck data_cards h = h
paid_in true false own count c None library deck data_cards h = h
paid_in true false own count c (Some p) (Ok library) deck data_cards h = h
paid_in true false own count c (Some p) (Err flaw) deck data_cards h = h

as_in_read : (ranged many : Bool) (own : Option ℕ → Bool) (n m count : ℕ) (c : JobCard) (payer : Option ℕ) (library : Found) (deck data_cards : List (List ℕ))
    → read_job ranged many n count c (option_map (number_in own) payer) library deck data_cards ≡ as_in own n (read_job ranged many m count c payer library deck data_cards)
as_in_read false many own n m count c payer library deck data_cards = refl
as_in_read true true own n m count c payer library deck data_cards = refl
as_in_read true false own n m count c None library deck data_cards = refl
as_in_read true false own n m count c (Some p) (Ok library) deck data_cards = refl
as_in_read true false own n m count c (Some p) (Err flaw) deck data_cards = refl

job_in : (long foul : Bool) (card : Option JobCard) (own : Option ℕ → Bool) (accounts : List Account) (n m count : ℕ) (library : Found) (deck data_cards : List (List ℕ))
    → own (job_from 0 count long foul card (account_for accounts card) library deck data_cards).account ≡ true
    → job_from n count long foul card (account_for (part_from own 0 accounts) card) library deck data_cards ≡ as_in own n (job_from m count long foul card (account_for accounts card) library deck data_cards)
job_in true foul card own accounts n m count library deck data_cards h = refl
job_in false true card own accounts n m count library deck data_cards h = refl
job_in false false None own accounts n m count library deck data_cards h = refl
job_in false false (Some c) own accounts n m count library deck data_cards h =
    let ranged = is_in_range c.settings in
    let many = nat_lt 2000 count in
    ap (λ (payer : Option ℕ). read_job ranged many n count c payer library deck data_cards) (account_in own accounts c.account (paid_in ranged many own count c (account_of accounts c.account) library deck data_cards h))
    ∙ as_in_read ranged many own n m count c (account_of accounts c.account) library deck data_cards

-- the front of the share's accounts, with the same libraries
abbrev pub front_in : (Option ℕ → Bool) → Front → Front
front_in own front = record { accounts = part_from own 0 front.accounts; shelf = front.shelf }

job_of_in : (own : Option ℕ → Bool) (front : Front) (run : Run) (n m : ℕ) → run_is_in own front run ≡ true
    → job_of (front_in own front) n run.head (body (closed run)) ≡ as_in own n (job_of front m run.head (body run))
job_of_in own front run n m h =
    ap (job_of (front_in own front) n run.head) (body_again run)
    ∙ job_in (list_any is_long (run.head ∷ body run)) (list_any is_foul (run.head ∷ body run)) (job_card run.head) own front.accounts n m (length (body run) + 1) (library_for front.shelf (job_card run.head)) _ _ h

jobs_by : (b : Bool) (own : Option ℕ → Bool) (front : Front) (run : Run) (rs : List Run) (n m : ℕ) → run_is_in own front run ≡ b
    → ((n : ℕ) → jobs_of (front_in own front) n (map closed (filter (run_is_in own front) rs)) ≡ numbered_in own n (filter (is_in own) (jobs_of front (m + 1) rs)))
    → jobs_of (front_in own front) n (map closed (cond b (run ∷ filter (run_is_in own front) rs) (filter (run_is_in own front) rs)))
    ≡ numbered_in own n (cond b (job_of front m run.head (body run) ∷ filter (is_in own) (jobs_of front (m + 1) rs)) (filter (is_in own) (jobs_of front (m + 1) rs)))
jobs_by true own front run rs n m is rest =
    ap (λ (job : JobView). job ∷ jobs_of (front_in own front) (n + 1) (map closed (filter (run_is_in own front) rs))) (job_of_in own front run n m is)
    ∙ ap (λ (jobs : List JobView). as_in own n (job_of front m run.head (body run)) ∷ jobs) (rest (n + 1))
jobs_by false own front run rs n m is rest = rest n

pub jobs_of_in : (own : Option ℕ → Bool) (front : Front) (rs : List Run) (n m : ℕ)
    → jobs_of (front_in own front) n (map closed (filter (run_is_in own front) rs)) ≡ numbered_in own n (filter (is_in own) (jobs_of front m rs))
jobs_of_in own front [] n m = refl
jobs_of_in own front (run ∷ rs) n m =
    let same : run_is_in own front run ≡ is_in own (job_of front m run.head (body run)) =
    ap own (account_by_any 0 m (length (body run) + 1) (list_any is_long (run.head ∷ body run)) (list_any is_foul (run.head ∷ body run)) (job_card run.head) (account_for front.accounts (job_card run.head)) (library_for front.shelf (job_card run.head)) _ _) in
    jobs_by (run_is_in own front run) own front run rs n m refl (λ k. jobs_of_in own front rs k (m + 1))
    ∙ ap (λ (b : Bool). numbered_in own n (cond b (job_of front m run.head (body run) ∷ filter (is_in own) (jobs_of front (m + 1) rs)) (filter (is_in own) (jobs_of front (m + 1) rs)))) same

-- ---- the batch

pub share_cards : ShareCards
share_cards own accounts cards =
    let front = front_of (Some accounts) cards in
    let given = Some (part_from own 0 accounts) in
    let libs = kept_library_cards cards in
    let some = cards_in own accounts cards in
    let mine = filter (run_is_in own front) (runs cards) in
    let are = some_are (run_is_in own front) (runs cards) (runs_are cards) in
    let first : before_head some ≡ libs = before-past_all is_head libs (flat_map job_cards mine) (no_heads cards) ∙ ap (λ (xs : List (List ℕ)). libs ++ xs) (first_is_head mine are) ∙ append-nil libs in
    let all : runs some ≡ map closed mine = runs_past libs (flat_map job_cards mine) (no_heads cards) ∙ runs_again mine are in
    let libraries : libraries_in (before_head some) ≡ libraries_in (before_head cards) = ap libraries_in first ∙ libraries_alone cards in
    let alike : front_of given some ≡ front_in own front = ap (λ (ls : List LibraryView). record { accounts = part_from own 0 accounts; shelf = map shelved ls }) libraries in
    let jobs : jobs_of (front_of given some) 1 (runs some) ≡ jobs_in own (jobs_of front 1 (runs cards)) =
    ap (λ (f : Front). jobs_of f 1 (runs some)) alike ∙ ap (jobs_of (front_in own front) 1) all ∙ jobs_of_in own front (runs cards) 1 1 in
    let shown : written (before_head some) ≡ written libs = ap written first in
    let shelf : shelf_cards (libraries_in (before_head some)) ≡ shelf_cards (libraries_in (before_head cards)) = ap shelf_cards libraries in
    let outer : sum_by (λ run. written (outside run)) (runs some) ≡ 0 = ap (sum_by (λ run. written (outside run))) all ∙ none_outside mine in
    let stray : strays given some ≡ 0 = omega (arith, shown, shelf, all_counted cards, outer) in
    λ i. record { accounts = part_from own 0 accounts; jobs = jobs i; stray = stray i }

-- ---- its bytes

pub share_input : ShareInput
share_input own accounts bytes =
    ap (batch_of (Some (part_from own 0 accounts))) (cards_again (cards_in own accounts (cards bytes)) (all_shared IsPlain (run_is_in own (front_of (Some accounts) (cards bytes))) (cards bytes) (all_again bytes)))
    ∙ share_cards own accounts (cards bytes)
