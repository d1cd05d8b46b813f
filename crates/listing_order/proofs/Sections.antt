-- The sections by the decisions of a list of events, and the listing.
use Rattle.std.proofs.Common.{◌≡◌, ℕ, suc, ◌+◌, ◌++◌, ◌∷◌, [], Bool, true, false, cond, not, nat_le, List, Option, Some, None, flat_map, length, map, slice_get, slice_index, take, refl, sym, ap, ◌∙◌, arith}
use Rattle.std.specs.List.{enumerate_from}
use Rattle.std.proofs.lemmas.List.{length-take, take_all}
use Rattle.std.proofs.lemmas.Option.{slice_get_within}
use Rattle.deck_reader.specs.declared.batch.Account.{Account}
use Rattle.deck_reader.specs.declared.batch.Flaw.{Flaw}
use Rattle.deck_reader.specs.JobView.{JobView}
use Rattle.account_book.specs.BookView.{openings_of}
use Rattle.account_book.specs.Charges.{reserve}
use Rattle.account_book.specs.Places.{account_by, is_accepted, place_balance}
use Rattle.algolw_meaning.specs.Running.{job_result}
use Rattle.batch_core.specs.declared.event.Event.{Event}
use Rattle.batch_listing.specs.declared.verdict.Verdict.TheVariants.{Accepted, Refused}
use Rattle.algolw_meaning.specs.Charging.{charged}
use Rattle.batch_listing.specs.Listing.{accepted, body, closing_lines, verdict_by, section, sections}
use Rattle.batch_listing.specs.Texts.{heading, title, closing, closing_line}
use Rattle.listing_order.specs.Decisions.{accepts, refuses, closing_lines_by, left, left_on, refusal, section_by}
use Rattle.listing_order.specs.Laws.{BringsToEnd, DecisionsGiveTheListing, DecisionsGiveTheSections}
use Rattle.listing_order.proofs.Accounts.{AcceptsByPlace, left_behind}
use Rattle.listing_order.proofs.Decided.{DecidedAs}
use Rattle.listing_order.proofs.Places.{at_place}

-- two texts for each place are those of the same places, from a number on
same_places : (f g : ℕ → JobView → List ℕ) (n : ℕ) (jobs : List JobView) → ((place : ℕ) (job : JobView) → slice_get jobs place ≡ Some job → f (n + place) job ≡ g (n + place) job)
    → flat_map (λ p. f p.0 p.1) (enumerate_from n jobs) ≡ flat_map (λ p. g p.0 p.1) (enumerate_from n jobs)
same_places f g n [] same = refl
same_places f g n (job ∷ jobs) same =
    let at : n + 0 ≡ n = omega arith in
    let here : f n job ≡ g n job = ap (λ (k : ℕ). f k job) (sym at) ∙ same 0 job refl ∙ ap (λ (k : ℕ). g k job) at in
    let rest = same_places f g (n + 1) jobs
    (λ place other is. let next : n + suc place ≡ n + 1 + place = omega arith in ap (λ (k : ℕ). f k other) (sym next) ∙ same (suc place) other is ∙ ap (λ (k : ℕ). g k other) next) in
    ap (λ (text : List ℕ). text ++ flat_map (λ p. f p.0 p.1) (enumerate_from (n + 1) jobs)) here ∙ ap (λ (text : List ℕ). g n job ++ text) rest

same_lines : (f g : ℕ → ℕ) (n : ℕ) (accounts : List Account) → ((account : ℕ) → f account ≡ g account)
    → flat_map (λ p. closing_line p.1 (f p.0)) (enumerate_from n accounts) ≡ flat_map (λ p. closing_line p.1 (g p.0)) (enumerate_from n accounts)
same_lines f g n [] same = refl
same_lines f g n (account ∷ accounts) same =
    ap (λ (k : ℕ). closing_line account k ++ flat_map (λ p. closing_line p.1 (f p.0)) (enumerate_from (n + 1) accounts)) (same n)
    ∙ ap (λ (text : List ℕ). closing_line account (g n) ++ text) (same_lines f g (n + 1) accounts same)

-- the events accept each job as its place does
by_place : (openings : List ℕ) (jobs : List JobView) (events : List Event) → BringsToEnd openings jobs events → AcceptsByPlace events 1 (slice_index openings) jobs
by_place openings jobs events brings place job is =
    let next : 1 + place ≡ place + 1 = omega arith in
    ap (accepts events) next ∙ (at_place openings jobs events place job brings is).accepts

left_there : (openings : List ℕ) (jobs : List JobView) (events : List Event) (place account : ℕ) → BringsToEnd openings jobs events
    → left openings events (take place jobs) account ≡ place_balance openings (map charged (take place jobs)) account
left_there openings jobs events place account brings = left_behind place jobs events 1 (slice_index openings) account (by_place openings jobs events brings)

-- a body by a decision
body_if : (covered : Bool) (payer asked balance : ℕ) (flaw : Option Flaw) (job : JobView) → flaw ≡ None
    → cond covered (job_result job).body (refusal flaw asked balance) ≡ body (cond covered (Accepted payer) (Refused asked balance)) job
body_if true payer asked balance flaw job none = refl
body_if false payer asked balance flaw job none = ap (λ (f : Option Flaw). refusal f asked balance) none

body_by : (flaw : Option Flaw) (payer : Option ℕ) (asked : ℕ) (balance : ℕ → ℕ) (job : JobView)
    → cond (is_accepted balance (record { account = account_by flaw payer; reserve = asked })) (job_result job).body (refusal flaw asked (left_on balance payer)) ≡ body (verdict_by flaw payer asked balance) job
body_by (Some flaw) payer asked balance job = refl
body_by None None asked balance job = refl
body_by None (Some payer) asked balance job = body_if (nat_le asked (balance payer)) payer asked (balance payer) None job refl

text_if : (taken : Bool) (front run refused : List ℕ) → cond taken (front ++ run) (cond (not taken) (front ++ refused) []) ≡ front ++ cond taken run refused
text_if true front run refused = refl
text_if false front run refused = refl

left_at : (payer : Option ℕ) (b c : ℕ → ℕ) → ((account : ℕ) → b account ≡ c account) → left_on b payer ≡ left_on c payer
left_at None b c same = refl
left_at (Some account) b c same = same account

same_section : (openings : List ℕ) (jobs : List JobView) (events : List Event) (place : ℕ) (job : JobView) → BringsToEnd openings jobs events → slice_get jobs place ≡ Some job
    → section_by openings events (take place jobs) job ≡ section openings (take place jobs) job
same_section openings jobs events place job brings is =
    let earlier = take place jobs in
    let number : length earlier + 1 ≡ place + 1 = omega (arith, length-take place jobs, slice_get_within jobs place job is) in
    let decided : DecidedAs (accepts events (place + 1)) (refuses events (place + 1)) (accepted openings earlier job) = at_place openings jobs events place job brings is in
    let run : List ℕ = (job_result job).body in
    let refused : ℕ → List ℕ = refusal job.flaw (reserve job) in
    let balance : ℕ → ℕ = place_balance openings (map charged earlier) in
    let there : left_on (left openings events earlier) job.account ≡ left_on balance job.account = left_at job.account (left openings events earlier) balance (λ account. left_there openings jobs events place account brings) in
    ap (λ (n : ℕ). cond (accepts events n) (title job ++ run) (cond (refuses events n) (title job ++ refused (left_on (left openings events earlier) job.account)) [])) number
    ∙ ap (λ (n : ℕ). cond (accepts events (place + 1)) (title job ++ run) (cond (refuses events (place + 1)) (title job ++ refused n) [])) there
    ∙ ap (λ (b : Bool). cond b (title job ++ run) (cond (refuses events (place + 1)) (title job ++ refused (left_on balance job.account)) [])) decided.accepts
    ∙ ap (λ (b : Bool). cond (accepted openings earlier job) (title job ++ run) (cond b (title job ++ refused (left_on balance job.account)) [])) decided.refuses
    ∙ text_if (accepted openings earlier job) (title job) run (refused (left_on balance job.account))
    ∙ ap (λ (text : List ℕ). title job ++ text) (body_by job.flaw job.account (reserve job) balance job)

pub same_sections : DecisionsGiveTheSections
same_sections openings jobs events brings =
    same_places (λ n job. section_by openings events (take n jobs) job) (λ n job. section openings (take n jobs) job) 0 jobs
    (λ place job is. let at : 0 + place ≡ place = omega arith in
    ap (λ (n : ℕ). section_by openings events (take n jobs) job) at ∙ same_section openings jobs events place job brings is ∙ ap (λ (n : ℕ). section openings (take n jobs) job) (sym at))

same_closing : (openings : List ℕ) (jobs : List JobView) (events : List Event) (accounts : List Account) → BringsToEnd openings jobs events
    → closing_lines_by openings events jobs accounts ≡ closing_lines openings jobs accounts
same_closing openings jobs events accounts brings =
    let all : take (length jobs) jobs ≡ jobs = take_all (length jobs) jobs (omega arith) in
    same_lines (left openings events jobs) (place_balance openings (map charged jobs)) 0 accounts
    (λ account. ap (λ (js : List JobView). left openings events js account) (sym all)
    ∙ left_there openings jobs events (length jobs) account brings
    ∙ ap (λ (js : List JobView). place_balance openings (map charged js) account) all)

pub same_listing : DecisionsGiveTheListing
same_listing b events brings =
    let openings = openings_of b.accounts in
    ap (λ (text : List ℕ). heading ++ text ++ closing (closing_lines_by openings events b.jobs b.accounts) b.stray) (same_sections openings b.jobs events brings)
    ∙ ap (λ (lines : List ℕ). heading ++ sections openings b.jobs ++ closing lines b.stray) (same_closing openings b.jobs events b.accounts brings)
