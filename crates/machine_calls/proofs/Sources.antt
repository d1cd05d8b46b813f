-- What names stand for is found in memory as the table finds it.
use Rattle.std.proofs.Common.{◌≡◌, ℕ, Option, Some, None, length, refl, ap, ◌∙◌}
use Rattle.std.specs.Option.{option_map}
use Rattle.stack_code.specs.declared.instructions.Source.{Source}
use Rattle.stack_code.specs.declared.instructions.Source.TheVariants as source
use Rattle.stack_code.specs.CodeView.{Given, source_view}
use Rattle.stack_code.specs.Doing as doing
use Rattle.name_thunks.specs.Links.{outwards}
use Rattle.cell_store.specs.declared.cells.Word.{Word as Held}
use Rattle.machine_rows.specs.declared.state.State.{State}
use Rattle.machine_rows.specs.Seen.{Seen, machine_of, content_of}
use Rattle.machine_rows.proofs.Finding.{outwards_is}
use Rattle.machine_rows.proofs.Shown.{content_found}
use Rattle.machine_calls.specs.Found.{source_out, procedure_cell}

closure_is : (g : Given) (head : ℕ) (link : Option (Option ℕ)) → doing.closure_from head link ≡ option_map (content_of g) (option_map (procedure_cell head) link)
closure_is g head None = refl
closure_is g head (Some link) = refl

pub source_found : (v : Seen) (s : State) (h : Held) → length s.store.frames ≡ length s.store.answers → (x : Source) →
    doing.source_from (machine_of v s h).frames (machine_of v s h).entries (machine_of v s h).cells (machine_of v s h).display (source_view x) ≡ option_map (content_of v.code.given) (source_out s.store x)
source_found v s h e (source.Entry links position) = content_found v s h e links position
source_found v s h e (source.Head links head) = ap (doing.closure_from head) (outwards_is v.code.given s.store.frames s.store.answers e s.store.current links) ∙ closure_is v.code.given head (outwards s.store.frames s.store.current links)
