-- The sections of a part, each by itself.
use Rattle.std.proofs.Common.{◌≡◌, ℕ, ◌+◌, Bool, true, false, cond, List, [], ◌∷◌, ◌++◌, length, map, flat_map, filter, Option, slice_index, refl, sym, ap, ◌∙◌, append-nil, append_assoc, arith, length-append}
use Rattle.std.proofs.lemmas.List.Elements.{filter-append}
use Rattle.deck_reader.specs.declared.batch.Account.{Account}
use Rattle.deck_reader.specs.JobView.{JobView}
use Rattle.account_book.specs.BookView.{openings_of}
use Rattle.account_book.specs.Places.{balances_behind, place_balance}
use Rattle.account_book.proofs.Tables.{table_holds}
use Rattle.algolw_meaning.specs.Charging.{charged}
use Rattle.batch_listing.specs.Listing.{closed_accounts, section}
use Rattle.batch_listing.specs.Texts.{title}
use Rattle.account_shares.specs.Shares.{as_in, is_in, jobs_in, numbered_in, part_from}
use Rattle.account_shares.proofs.Nights.{closed_openings, in_turn}
use Rattle.account_shares.proofs.Sameness.{same_body}
use Rattle.account_shares.proofs.Shares.{openings_in, share_bodies}
use Rattle.listing_forms.specs.Laws.{texts_after}
use Rattle.night_listings.specs.Nights.{behind_number, in_chain, names, numbered, numbered_from, part_of, rests_in}
use Rattle.night_listings.proofs.Parts.{section_numbered}
use Rattle.night_forms.specs.Joining.{each_numbered}

-- ---- a share's sections are those of the whole, but for the numbers

section_of : (own : Option ℕ → Bool) (openings : List ℕ) (earlier : List JobView) (job : JobView) (number : ℕ) → is_in own job ≡ true
    → section (part_from own 0 openings) (jobs_in own earlier) (as_in own number job) ≡ numbered number (behind_number openings earlier job)
section_of own openings earlier job number is =
    ap (λ (text : List ℕ). title (record job { number = number }) ++ text) (share_bodies own openings earlier job number is) ∙ section_numbered number openings earlier job

numbered_both : (own : Option ℕ → Bool) (n : ℕ) (xs ys : List JobView) → numbered_in own n (xs ++ ys) ≡ numbered_in own n xs ++ numbered_in own (n + length xs) ys
numbered_both own n [] ys = let e : n ≡ n + 0 = omega arith in ap (λ (k : ℕ). numbered_in own k ys) e
numbered_both own n (x ∷ xs) ys =
    let e : n + 1 + length xs ≡ n + length (x ∷ xs) = omega arith in
    ap (λ (js : List JobView). as_in own n x ∷ js) (numbered_both own (n + 1) xs ys ∙ ap (λ (k : ℕ). numbered_in own (n + 1) xs ++ numbered_in own k ys) e)

-- the number of the next job of the share
abbrev next_in : (Option ℕ → Bool) → List JobView → ℕ
next_in own earlier = 1 + length (filter (is_in own) earlier)

-- with a job more the share has one more, under the next number, or none
one_more : (b : Bool) (own : Option ℕ → Bool) (earlier : List JobView) (job : JobView) → is_in own job ≡ b
    → jobs_in own (earlier ++ job ∷ []) ≡ jobs_in own earlier ++ numbered_in own (next_in own earlier) (cond b (job ∷ []) [])
one_more b own earlier job is =
    ap (numbered_in own 1) (filter-append (is_in own) earlier (job ∷ []))
    ∙ numbered_both own 1 (filter (is_in own) earlier) (filter (is_in own) (job ∷ []))
    ∙ ap (λ (c : Bool). jobs_in own earlier ++ numbered_in own (next_in own earlier) (cond c (job ∷ []) [])) is

counted : (b : Bool) (own : Option ℕ → Bool) (earlier : List JobView) (job : JobView) → is_in own job ≡ b
    → length (filter (is_in own) (earlier ++ job ∷ [])) ≡ length (filter (is_in own) earlier) + length (cond b (job ∷ []) [])
counted b own earlier job is =
    ap length (filter-append (is_in own) earlier (job ∷ []))
    ∙ length-append (filter (is_in own) earlier) (filter (is_in own) (job ∷ []))
    ∙ ap (λ (c : Bool). length (filter (is_in own) earlier) + length (cond c (job ∷ []) [])) is

abbrev TextsAre : (Option ℕ → Bool) → List ℕ → List JobView → List JobView → ℕ → Type 0
TextsAre own openings earlier jobs n =
    texts_after (part_from own 0 openings) (jobs_in own earlier) (numbered_in own n (filter (is_in own) jobs)) ≡ each_numbered n (rests_in own openings earlier jobs)

texts_by : (b : Bool) (own : Option ℕ → Bool) (openings : List ℕ) (earlier : List JobView) (job : JobView) (jobs : List JobView) → is_in own job ≡ b
    → ((n : ℕ) → n ≡ next_in own (earlier ++ job ∷ []) → TextsAre own openings (earlier ++ job ∷ []) jobs n) → (n : ℕ) → n ≡ next_in own earlier
    → texts_after (part_from own 0 openings) (jobs_in own earlier) (numbered_in own n (cond b (job ∷ filter (is_in own) jobs) (filter (is_in own) jobs)))
    ≡ each_numbered n (cond b (behind_number openings earlier job ∷ rests_in own openings (earlier ++ job ∷ []) jobs) (rests_in own openings (earlier ++ job ∷ []) jobs))
texts_by true own openings earlier job jobs is rest n e =
    let long : length (filter (is_in own) (earlier ++ job ∷ [])) ≡ length (filter (is_in own) earlier) + 1 = counted true own earlier job is in
    let more : jobs_in own earlier ++ as_in own n job ∷ [] ≡ jobs_in own (earlier ++ job ∷ []) =
    ap (λ (k : ℕ). jobs_in own earlier ++ as_in own k job ∷ []) e ∙ sym (one_more true own earlier job is) in
    let here = section_of own openings earlier job n is in
    let behind = ap (λ (js : List JobView). texts_after (part_from own 0 openings) js (numbered_in own (n + 1) (filter (is_in own) jobs))) more ∙ rest (n + 1) (omega (arith, e, long)) in
    λ i. here i ∷ behind i
texts_by false own openings earlier job jobs is rest n e =
    let long : length (filter (is_in own) (earlier ++ job ∷ [])) ≡ length (filter (is_in own) earlier) + 0 = counted false own earlier job is in
    let same : jobs_in own earlier ≡ jobs_in own (earlier ++ job ∷ []) = sym (one_more false own earlier job is ∙ append-nil (jobs_in own earlier)) in
    ap (λ (js : List JobView). texts_after (part_from own 0 openings) js (numbered_in own n (filter (is_in own) jobs))) same
    ∙ rest n (omega (arith, e, long))

texts_from : (own : Option ℕ → Bool) (openings : List ℕ) (earlier jobs : List JobView) (n : ℕ) → n ≡ next_in own earlier → TextsAre own openings earlier jobs n
texts_from own openings earlier [] n e = refl
texts_from own openings earlier (job ∷ jobs) n e = texts_by (is_in own job) own openings earlier job jobs refl (texts_from own openings (earlier ++ job ∷ []) jobs) n e

-- ---- behind earlier jobs

-- what sections have behind their numbers is the same behind none, from what the earlier jobs leave
rests_from : (own : Option ℕ → Bool) (openings openings' : List ℕ) (earlier front jobs : List JobView)
    → ((account : ℕ) → slice_index openings' account ≡ place_balance openings (map charged earlier) account)
    → rests_in own openings' front jobs ≡ rests_in own openings (earlier ++ front) jobs
rests_from own openings openings' earlier front [] left = refl
rests_from own openings openings' earlier front (job ∷ jobs) left =
    let here : behind_number openings' front job ≡ behind_number openings (earlier ++ front) job =
    ap (λ (text : List ℕ). names job ++ text)
    (same_body job (place_balance openings' (map charged front)) (place_balance openings (map charged (earlier ++ front))) (λ account. sym (in_turn openings openings' earlier front account (left account)))) in
    let rest : rests_in own openings' (front ++ job ∷ []) jobs ≡ rests_in own openings ((earlier ++ front) ++ job ∷ []) jobs =
    rests_from own openings openings' earlier (front ++ job ∷ []) jobs left ∙ ap (λ (xs : List JobView). rests_in own openings xs jobs) (sym (append_assoc earlier front (job ∷ []))) in
    λ i. cond (own job.account) (here i ∷ rest i) (rest i)

-- the sections of a part
pub part_texts : (chain : ℕ → ℕ) (c : ℕ) (accounts : List Account) (earlier jobs : List JobView)
    → texts_after (openings_of (part_of chain c accounts earlier jobs).accounts) [] (part_of chain c accounts earlier jobs).jobs
    ≡ each_numbered 1 (rests_in (in_chain chain c) (openings_of accounts) earlier jobs)
part_texts chain c accounts earlier jobs =
    let own = in_chain chain c in
    let openings = openings_of accounts in
    let table = balances_behind openings (map charged earlier) in
    let opens : openings_of (part_of chain c accounts earlier jobs).accounts ≡ part_from own 0 table =
    openings_in own (closed_accounts openings earlier accounts) 0 ∙ ap (part_from own 0) (closed_openings accounts earlier) in
    let rests : rests_in own table [] jobs ≡ rests_in own openings earlier jobs =
    rests_from own openings table earlier [] jobs (table_holds openings (map charged earlier)) ∙ ap (λ (xs : List JobView). rests_in own openings xs jobs) (append-nil earlier) in
    ap (λ (xs : List ℕ). texts_after xs [] (jobs_in own jobs)) opens
    ∙ texts_from own table [] jobs 1 refl
    ∙ ap (each_numbered 1) rests

-- sections under numbers, one after the other
pub numbered_texts : (number : ℕ) (rests : List (List ℕ)) → flat_map (λ text. text) (each_numbered number rests) ≡ numbered_from number rests
numbered_texts number [] = refl
numbered_texts number (rest ∷ rests) = ap (λ (text : List ℕ). numbered number rest ++ text) (numbered_texts (number + 1) rests)
