-- Each job and each state by copying is one by environments, closed: its environments are empty.
use Rattle.std.proofs.Common.{◌≡◌, List, [], ◌∷◌, map, refl, ap, ◌∙◌}
use Rattle.program_meaning.specs.Phrases.{Phrase, Name, with, kept, formal_places}
use Rattle.program_meaning.specs.State.{State}
use Rattle.program_meaning.specs.Copying as copying
use Rattle.program_meaning.specs.Environments as environments
use Rattle.program_meaning.specs.Environments.{empty, Bodied}
use Rattle.program_meaning.specs.Closing.{put_by, closed_procedure, closed_state, closed_job}
use Rattle.program_meaning.proofs.Putting.{with_none, with_none_items, stays_kept}

-- a closed procedure as one with an environment, which is empty
abbrev bodied : copying.Closed → Bodied
bodied p = record { name = p.name; result = p.result; formals = p.formals; body = p.body; statement = p.statement; env = empty }

closed_bodied : (p : copying.Closed) → closed_procedure (bodied p) ≡ p
closed_bodied p = ap (λ (b : Phrase). record p { body = b }) (with_none p.body (kept (formal_places p.formals) (put_by empty)) (stays_kept (formal_places p.formals) (put_by empty) (λ x. refl)))

all_bodied : (ps : List copying.Closed) → map closed_procedure (map bodied ps) ≡ ps
all_bodied [] = refl
all_bodied (p ∷ ps) = ap (λ q. q ∷ map closed_procedure (map bodied ps)) (closed_bodied p) ∙ ap (λ qs. p ∷ qs) (all_bodied ps)

abbrev pub opened_state : State copying.Closed → State Bodied
opened_state s = record { memory = s.memory; arrays = s.arrays; procedures = map bodied s.procedures; labels = s.labels; records = s.records; fields = s.fields; data_read = s.data_read; pieces = s.pieces; begun = s.begun; steps = s.steps; cells = s.cells; depth = s.depth; active = s.active }

pub closed_again : (s : State copying.Closed) → closed_state (opened_state s) ≡ s
closed_again s = ap (λ (ps : List copying.Closed). record s { procedures = ps }) (all_bodied s.procedures)

-- ---- jobs

abbrev pub opened_job : copying.Job → environments.Job
opened_job (copying.phrase_job u w a) = environments.phrase_job u w a empty
opened_job (copying.while_job w c body) = environments.while_job w c body empty
opened_job (copying.step_job w x i j k body) = environments.step_job w x i j k body empty
opened_job (copying.list_job w x i body) = environments.list_job w x i body empty
opened_job (copying.items_job b w items k) = environments.items_job b w items empty k

closed_body : (x : Name) (body : Phrase) → with (kept (x.place ∷ []) (put_by empty)) body ≡ body
closed_body x body = with_none body (kept (x.place ∷ []) (put_by empty)) (stays_kept (x.place ∷ []) (put_by empty) (λ y. refl))

pub closed_job_again : (job : copying.Job) → closed_job (opened_job job) ≡ job
closed_job_again (copying.phrase_job u w a) = ap (copying.phrase_job u w) (with_none a (put_by empty) (λ y. refl))
closed_job_again (copying.while_job w c body) = let d = with_none c (put_by empty) (λ y. refl) in let e = with_none body (put_by empty) (λ y. refl) in cc
closed_job_again (copying.step_job w x i j k body) = ap (copying.step_job w x i j k) (closed_body x body)
closed_job_again (copying.list_job w x i body) = ap (copying.list_job w x i) (closed_body x body)
closed_job_again (copying.items_job b w items k) = ap (λ is. copying.items_job b w is k) (with_none_items items (put_by empty) (λ y. refl))
