-- A window with a job more.
use Rattle.std.proofs.Common.{◌≡◌, ◌≢◌, ℕ, suc, zero, ◌+◌, ◌<◌, ◌==◌, Bool, true, false, cond, List, [], ◌∷◌, ◌++◌, length, map, replicate, get_or, set, Some, None, sum_by, refl, sym, ap, subst, ◌∙◌, append_assoc, arith}
use Rattle.std.specs.List.{flat_map}
use Rattle.std.proofs.lemmas.Bool.Decides.{nat_tests}
use Rattle.std.proofs.lemmas.Grind.{flat_map-append}
use Rattle.std.proofs.lemmas.List.{get_or-set_other, get_or-set_same, length-append, map-append, map-set}
use Rattle.std.proofs.lemmas.List.Elements.{filter-append}
use Rattle.std.proofs.lemmas.List.Sums.{sum_by-append}
use Rattle.night_shares.specs.Begun.{begun}
use Rattle.night_shares.specs.Jobs.{NightJob}
use Rattle.night_shares.specs.Plan.{chain_of, job_row}
use Rattle.night_shares.specs.Windows.{bytes_of, is_of_chain, jobs_of_chain, part_text}

nil_behind : {X : Type 0} (xs : List X) → xs ++ [] ≡ xs
nil_behind [] = refl
nil_behind (x ∷ xs) = ap (λ (ys : List _). x ∷ ys) (nil_behind xs)

begun_as_is : (libraries text : List ℕ) → begun libraries (libraries ++ text) ≡ libraries ++ text
begun_as_is [] [] = refl
begun_as_is [] (b ∷ text) = refl
begun_as_is (b ∷ libraries) text = refl

-- a part with a job more
pub part_more : (libraries : List ℕ) (jobs : List NightJob) (job : NightJob) → begun libraries (part_text libraries jobs) ++ job.text ≡ part_text libraries (jobs ++ job ∷ [])
part_more libraries [] job = ap (λ (t : List ℕ). libraries ++ t) (sym (nil_behind job.text))
part_more libraries (first ∷ jobs) job =
    ap (λ (t : List ℕ). t ++ job.text) (begun_as_is libraries (flat_map (λ j. j.text) (first ∷ jobs)))
    ∙ append_assoc libraries (flat_map (λ j. j.text) (first ∷ jobs)) job.text
    ∙ ap (λ (t : List ℕ). libraries ++ (flat_map (λ j. j.text) (first ∷ jobs) ++ t)) (sym (nil_behind job.text))
    ∙ ap (λ (t : List ℕ). libraries ++ t) (sym (flat_map-append (λ (j : NightJob). j.text) (first ∷ jobs) (job ∷ [])))

in_by : (v : Bool) (chains chain : ℕ) (jobs : List NightJob) (job : NightJob) → is_of_chain chains chain job.job.account ≡ v
    → jobs_of_chain chains chain (jobs ++ job ∷ []) ≡ jobs_of_chain chains chain jobs ++ cond v (job ∷ []) []
in_by v chains chain jobs job is =
    filter-append (λ j. is_of_chain chains chain j.job.account) jobs (job ∷ [])
    ∙ ap (λ (b : Bool). jobs_of_chain chains chain jobs ++ cond b (job ∷ []) []) is

-- a chain's jobs, with one more that is of the chain
pub chain_more : (chains chain : ℕ) (jobs : List NightJob) (job : NightJob) → is_of_chain chains chain job.job.account ≡ true → jobs_of_chain chains chain (jobs ++ job ∷ []) ≡ jobs_of_chain chains chain jobs ++ job ∷ []
chain_more chains chain jobs job is = in_by true chains chain jobs job is

-- with one more that isn't
pub chain_same : (chains chain : ℕ) (jobs : List NightJob) (job : NightJob) → is_of_chain chains chain job.job.account ≡ false → jobs_of_chain chains chain (jobs ++ job ∷ []) ≡ jobs_of_chain chains chain jobs
chain_same chains chain jobs job is = in_by false chains chain jobs job is ∙ nil_behind (jobs_of_chain chains chain jobs)

of_its_chain : (chains account chain : ℕ) → chain ≡ chain_of chains account → is_of_chain chains chain (Some account) ≡ true
of_its_chain chains account chain is = grind (arith, nat_tests)

of_no_other : (chains account chain other : ℕ) → chain ≡ chain_of chains account → other ≢ chain → is_of_chain chains other (Some account) ≡ false
of_no_other chains account chain other is differs = grind (arith, nat_tests)

-- the texts of all parts, with a job more in one
pub parts_more : (chains chain account : ℕ) (libraries : List ℕ) (jobs : List NightJob) (job : NightJob) (texts : List (List ℕ)) (text : List ℕ) → job.job.account ≡ Some account → chain ≡ chain_of chains account
    → length texts ≡ chains → chain < chains → ((c : ℕ) → c < chains → get_or texts c [] ≡ part_text libraries (jobs_of_chain chains c jobs)) → text ≡ begun libraries (get_or texts chain []) ++ job.text
    → (c : ℕ) → c < chains → get_or (set texts chain text) c [] ≡ part_text libraries (jobs_of_chain chains c (jobs ++ job ∷ []))
parts_more chains chain account libraries jobs job texts text pays is many less before text_is c h = by (c == chain) refl
  where
    by : (v : Bool) → (c == chain) ≡ v → get_or (set texts chain text) c [] ≡ part_text libraries (jobs_of_chain chains c (jobs ++ job ∷ []))
    by true e =
        let same : c ≡ chain = grind (arith, nat_tests) in
        ap (λ (k : ℕ). get_or (set texts chain text) k []) same
        ∙ get_or-set_same texts chain text [] (omega arith)
        ∙ text_is
        ∙ ap (λ (t : List ℕ). begun libraries t ++ job.text) (before chain less)
        ∙ part_more libraries (jobs_of_chain chains chain jobs) job
        ∙ ap (part_text libraries) (sym (chain_more chains chain jobs job (ap (is_of_chain chains chain) pays ∙ of_its_chain chains account chain is)))
        ∙ ap (λ (k : ℕ). part_text libraries (jobs_of_chain chains k (jobs ++ job ∷ []))) (sym same)
    by false e =
        let differs : c ≢ chain = λ same. (let yes : (c == chain) ≡ true = grind (arith, nat_tests) in cc) in
        get_or-set_other texts chain c text [] differs
        ∙ before c h
        ∙ ap (part_text libraries) (sym (chain_same chains c jobs job (ap (is_of_chain chains c) pays ∙ of_no_other chains account chain c is differs)))

-- a refused job is in none
pub parts_same : (chains : ℕ) (libraries : List ℕ) (jobs : List NightJob) (job : NightJob) (texts : List (List ℕ)) → job.job.account ≡ None
    → ((c : ℕ) → c < chains → get_or texts c [] ≡ part_text libraries (jobs_of_chain chains c jobs)) → (c : ℕ) → c < chains → get_or texts c [] ≡ part_text libraries (jobs_of_chain chains c (jobs ++ job ∷ []))
parts_same chains libraries jobs job texts pays before c h = before c h ∙ ap (part_text libraries) (sym (chain_same chains c jobs job (ap (is_of_chain chains c) pays)))

pub bytes_more : (jobs : List NightJob) (job : NightJob) → bytes_of (jobs ++ job ∷ []) ≡ bytes_of jobs + length job.text
bytes_more jobs job = let one : sum_by (λ j. length j.text) (job ∷ []) ≡ length job.text = omega arith in omega (arith, sum_by-append (λ j. length j.text) jobs (job ∷ []), one)

pub rows_more : (chains : ℕ) (jobs : List NightJob) (job : NightJob) → flat_map (job_row chains) (map (λ j. j.job) jobs) ++ job_row chains job.job ≡ flat_map (job_row chains) (map (λ j. j.job) (jobs ++ job ∷ []))
rows_more chains jobs job =
    ap (λ (t : List ℕ). flat_map (job_row chains) (map (λ j. j.job) jobs) ++ t) (sym (nil_behind (job_row chains job.job)))
    ∙ sym (flat_map-append (job_row chains) (map (λ j. j.job) jobs) (job.job ∷ []))
    ∙ ap (flat_map (job_row chains)) (sym (map-append (λ (j : NightJob). j.job) jobs (job ∷ [])))

pub count_more : (jobs : List NightJob) (job : NightJob) → length (jobs ++ job ∷ []) ≡ length jobs + 1
count_more jobs job = omega (arith, length-append jobs (job ∷ []))

-- ---- a window with no job

-- there is no text among parts of which none has one
pub none_there : (parts chain : ℕ) → get_or {A = List ℕ} (replicate parts []) chain [] ≡ []
none_there zero chain = refl
none_there (suc parts) zero = refl
none_there (suc parts) (suc chain) = none_there parts chain

-- ---- the text of a part

pub text_at : {X : Type 0} (f : X → List ℕ) (xs : List X) (i : ℕ) (x : X) → i < length xs → x ≡ get_or xs i x → get_or (map f xs) i [] ≡ f x
text_at f [] i x less is = absurd (omega arith)
text_at f (y ∷ xs) zero x less is = ap f (sym is)
text_at f (y ∷ xs) (suc i) x less is = text_at f xs i x (omega (arith, less)) is

-- with another text in one place
pub texts_with : {X : Type 0} (f : X → List ℕ) (xs : List X) (i : ℕ) (x : X) (P : List (List ℕ) → Type 0) → P (set (map f xs) i (f x)) → P (map f (set xs i x))
texts_with f xs i x P holds = subst P (sym (map-set f xs i x)) holds
