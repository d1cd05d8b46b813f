-- The input of one account's cards.
use Rattle.std.proofs.Common.{◌≡◌, ℕ, ◌==◌, ◌||◌, Bool, true, false, cond, List, [], ◌∷◌, ◌++◌, map, filter, flat_map, refl, sym, ap, ◌∙◌, append_assoc, append-nil, None}
use Rattle.std.specs.List.{AllByRecursion as AllOf, list_any, position_or_len}
use Rattle.deck_reader.specs.Cards.{cards, cleaned, ended, under_way, unless_empty}
use Rattle.deck_reader.specs.Forms.{is_end, is_head}
use Rattle.deck_reader.specs.Batch.{Run, batch_of, before_head, front_of, runs}
use Rattle.deck_reader.proofs.Cuts.{ended-feed, under_way-feed}
use Rattle.batch_listing.specs.Listing.{listing_of}
use Rattle.account_shares.specs.Own.{job_cards, kept_library_cards, own_cards, runs_on, text_of}
use Rattle.account_shares.specs.Laws.{IsPlain, OwnInput, OwnInputListing}
use Rattle.account_shares.proofs.Again.{all_again}
use Rattle.account_shares.proofs.Cut.{own_batch, own_listing}
use Rattle.account_shares.proofs.Firsts.{all_append, all_take, neither_of}
use Rattle.account_shares.proofs.Kept.{all_kept}

-- ---- runs of such cards

abbrev pub RunsOf : (List ℕ → Type 0) → List Run → Type 0
RunsOf P [] = Unit {0}
RunsOf P (run ∷ rs) = (P run.head × AllOf P run.behind) × RunsOf P rs

runs_all_by : (P : List ℕ → Type 0) (b : Bool) (card : List ℕ) (cs : List (List ℕ)) → P card → AllOf P cs → RunsOf P (runs cs) → RunsOf P (cond b (record { head = card; behind = before_head cs } ∷ runs cs) (runs cs))
runs_all_by P true card cs this all rest = ((this, all_take P (position_or_len is_head cs) cs all), rest)
runs_all_by P false card cs this all rest = rest

pub runs_all : (P : List ℕ → Type 0) (cs : List (List ℕ)) → AllOf P cs → RunsOf P (runs cs)
runs_all P [] all = tt
runs_all P (card ∷ cs) all = runs_all_by P (is_head card) card cs all.0 all.1 (runs_all P cs all.1)

-- ---- of a batch

chosen_by : (P : List ℕ → Type 0) (b : Bool) (test : Run → Bool) (run : Run) (rs : List Run) → P run.head → AllOf P run.behind → AllOf P (flat_map job_cards (filter test rs))
    → AllOf P (flat_map job_cards (cond b (run ∷ filter test rs) (filter test rs)))
chosen_by P false test run rs head behind rest = rest
chosen_by P true test run rs head behind rest =
    all_append P (job_cards run) (flat_map job_cards (filter test rs)) (head, all_take P (position_or_len is_end run.behind) run.behind behind) rest

chosen : (P : List ℕ → Type 0) (test : Run → Bool) (rs : List Run) → RunsOf P rs → AllOf P (flat_map job_cards (filter test rs))
chosen P test [] all = tt
chosen P test (run ∷ rs) all = chosen_by P (test run) test run rs all.0.0 all.0.1 (chosen P test rs all.1)

-- the libraries' cards, and those of some jobs
pub all_shared : (P : List ℕ → Type 0) (test : Run → Bool) (cs : List (List ℕ)) → AllOf P cs → AllOf P (kept_library_cards cs ++ flat_map job_cards (filter test (runs cs)))
all_shared P test cs all = all_append P (kept_library_cards cs) (flat_map job_cards (filter test (runs cs))) (all_kept P cs all) (chosen P test (runs cs) (runs_all P cs all))

-- ---- the text

record HasRead (bytes : List ℕ) (ps : List (List ℕ)) : Type 0 where
  pub ended_is : ended bytes ≡ ps
  pub nothing : under_way bytes ≡ []

-- the piece of a card, which ends with a carriage return
abbrev returned : List ℕ → List ℕ
returned c = c ++ 13 ∷ []

no_feed_in : (c : List ℕ) → list_any (λ b. b == 10) c ≡ false → list_any (λ b. b == 10) (returned c) ≡ false
no_feed_in [] h = refl
no_feed_in (b ∷ c) h =
    let parts = neither_of (b == 10) (list_any (λ d. d == 10) c) h in
    ap (λ (v : Bool). v || list_any (λ d. d == 10) (returned c)) parts.0 ∙ no_feed_in c parts.1

read_on : (bytes : List ℕ) (done cs : List (List ℕ)) → HasRead bytes done → AllOf IsPlain cs → HasRead (bytes ++ text_of cs) (done ++ map returned cs)
read_on bytes done [] has all = record {
  ended_is = ap ended (append-nil bytes) ∙ has.ended_is ∙ sym (append-nil done);
  nothing = ap under_way (append-nil bytes) ∙ has.nothing;
}
read_on bytes done (c ∷ cs) has all =
    let more = bytes ++ returned c ++ 10 ∷ [] in
    let line : c ++ 13 ∷ 10 ∷ [] ≡ returned c ++ 10 ∷ [] = sym (append_assoc c (13 ∷ []) (10 ∷ [])) in
    let same : bytes ++ text_of (c ∷ cs) ≡ more ++ text_of cs =
    ap (λ (l : List ℕ). bytes ++ (l ++ text_of cs)) line
    ∙ sym (append_assoc bytes (returned c ++ 10 ∷ []) (text_of cs)) ∙ ap (λ (xs : List ℕ). xs ++ text_of cs) (sym (append_assoc bytes (returned c) (10 ∷ []))) in
    let next : HasRead more (done ++ returned c ∷ []) = record {
      ended_is = ended-feed bytes (returned c) (no_feed_in c all.0.no_feed) ∙ ap (λ (ps : List (List ℕ)). ps ++ (under_way bytes ++ returned c) ∷ []) has.ended_is
          ∙ ap (λ (u : List ℕ). done ++ (u ++ returned c) ∷ []) has.nothing;
      nothing = under_way-feed bytes (returned c);
    } in
    let rest = read_on more (done ++ returned c ∷ []) cs next all.1 in
    record {
      ended_is = ap ended same ∙ rest.ended_is ∙ append_assoc done (returned c ∷ []) (map returned cs);
      nothing = ap under_way same ∙ rest.nothing;
    }

all_stay : (cs : List (List ℕ)) → AllOf IsPlain cs → map cleaned (map returned cs) ≡ cs
all_stay [] all = refl
all_stay (c ∷ cs) all = λ i. all.0.stays i ∷ all_stay cs all.1 i

pub cards_again : (cs : List (List ℕ)) → AllOf IsPlain cs → cards (text_of cs) ≡ cs
cards_again cs all =
    let has = read_on [] [] cs (record { ended_is = refl; nothing = refl }) all in
    ap (λ (ps : List (List ℕ)). map cleaned (ps ++ unless_empty (under_way (text_of cs)))) has.ended_is
    ∙ ap (λ (u : List ℕ). map cleaned (map returned cs ++ unless_empty u)) has.nothing
    ∙ ap (map cleaned) (append-nil (map returned cs)) ∙ all_stay cs all

own_plain : (bytes : List ℕ) (account : ℕ) → AllOf IsPlain (own_cards account (cards bytes))
own_plain bytes account = all_shared IsPlain (runs_on (front_of None (cards bytes)) account) (cards bytes) (all_again bytes)

pub own_input : OwnInput
own_input bytes card account a at states is =
    ap (batch_of None) (cards_again (card ∷ own_cards account (cards bytes)) (is, own_plain bytes account))
    ∙ own_batch (cards bytes) card account a at states

pub own_input_listing : OwnInputListing
own_input_listing bytes card account a at states is =
    ap (λ (cs : List (List ℕ)). listing_of (batch_of None cs)) (cards_again (card ∷ own_cards account (cards bytes)) (is, own_plain bytes account))
    ∙ own_listing (cards bytes) card account a at states
