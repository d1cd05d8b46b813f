-- What becomes of the jobs of a batch, one after the other.
use Rattle.std.proofs.Common.{◌≡◌, ℕ, ◌+◌, List, [], ◌∷◌, ◌++◌, length, map, take, refl, sym, ap, ◌∙◌, append_assoc, append-nil}
use Rattle.std.specs.List.{enumerate_from}
use Rattle.std.proofs.lemmas.List.{length-append}
use Rattle.std.proofs.Math.Seq.{take-append_seam}
use Rattle.deck_reader.specs.JobView.{JobView}
use Rattle.account_book.specs.declared.decision.Decision.{Decision}
use Rattle.algolw_meaning.specs.Charging.{decision_at, decisions}

-- what becomes of these jobs, behind those
abbrev pub decisions_behind : List ℕ → List JobView → List JobView → List Decision
decisions_behind openings earlier [] = []
decisions_behind openings earlier (job ∷ jobs) = decision_at openings earlier job ∷ decisions_behind openings (earlier ++ job ∷ []) jobs

decisions_from : (openings : List ℕ) (earlier jobs : List JobView)
    → decisions_behind openings earlier jobs ≡ map (λ p. decision_at openings (take p.0 (earlier ++ jobs)) p.1) (enumerate_from (length earlier) jobs)
decisions_from openings earlier [] = refl
decisions_from openings earlier (job ∷ jobs) =
    let one_more : length (earlier ++ job ∷ []) ≡ length earlier + 1 = length-append earlier (job ∷ []) in
    ap (λ (xs : List JobView). decision_at openings xs job ∷ decisions_behind openings (earlier ++ job ∷ []) jobs) (sym (take-append_seam earlier (job ∷ jobs)))
    ∙ ap (λ (ds : List Decision). decision_at openings (take (length earlier) (earlier ++ job ∷ jobs)) job ∷ ds)
    (decisions_from openings (earlier ++ job ∷ []) jobs
    ∙ ap (λ (xs : List JobView). map (λ p. decision_at openings (take p.0 xs) p.1) (enumerate_from (length (earlier ++ job ∷ [])) jobs)) (append_assoc earlier (job ∷ []) jobs)
    ∙ ap (λ (n : ℕ). map (λ p. decision_at openings (take p.0 (earlier ++ job ∷ jobs)) p.1) (enumerate_from n jobs)) one_more)

-- one after the other they are those by their places
pub decisions_in_order : (openings : List ℕ) (jobs : List JobView) → decisions_behind openings [] jobs ≡ decisions openings jobs
decisions_in_order openings jobs = decisions_from openings [] jobs

one_behind : (openings : List ℕ) (earlier jobs : List JobView) (job : JobView)
    → decisions_behind openings earlier (jobs ++ job ∷ []) ≡ decisions_behind openings earlier jobs ++ decision_at openings (earlier ++ jobs) job ∷ []
one_behind openings earlier [] job = ap (λ (xs : List JobView). decision_at openings xs job ∷ []) (sym (append-nil earlier))
one_behind openings earlier (first ∷ jobs) job =
    ap (λ (ds : List Decision). decision_at openings earlier first ∷ ds)
    (one_behind openings (earlier ++ first ∷ []) jobs job
    ∙ ap (λ (xs : List JobView). decisions_behind openings (earlier ++ first ∷ []) jobs ++ decision_at openings xs job ∷ []) (append_assoc earlier (first ∷ []) jobs))

-- with a job more
pub decisions_more : (openings : List ℕ) (jobs : List JobView) (job : JobView) → decisions openings (jobs ++ job ∷ []) ≡ decisions openings jobs ++ decision_at openings jobs job ∷ []
decisions_more openings jobs job =
    sym (decisions_in_order openings (jobs ++ job ∷ [])) ∙ one_behind openings [] jobs job
    ∙ ap (λ (ds : List Decision). ds ++ decision_at openings jobs job ∷ []) (decisions_in_order openings jobs)
