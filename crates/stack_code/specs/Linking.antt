-- Code in which procedures and labelled items go by the numbers of targets, and the code in which they go by instructions.
use Rattle.std.specs.Prelude.{ℕ, List, map, slice_index_or}
use Rattle.stack_code.specs.Calls.{ComparedCall}
use Rattle.stack_code.specs.declared.heads.Reading.{Reading}
use Rattle.stack_code.specs.declared.heads.Reading.TheVariants as reading
use Rattle.stack_code.specs.declared.heads.TextHead.{TextHead}
use Rattle.stack_code.specs.declared.instructions.Coded.{Coded}
use Rattle.stack_code.specs.declared.instructions.Instr.{Instr}
use Rattle.stack_code.specs.declared.instructions.Instr.TheVariants as held
use Rattle.stack_code.specs.declared.instructions.Source.{Source}
use Rattle.stack_code.specs.declared.instructions.Source.TheVariants as source
use Rattle.stack_code.specs.CodeView.{Added, CodeView}

-- the instruction at a target; a number that no target has stays
abbrev pub instruction_at : List ℕ → ℕ → ℕ
instruction_at targets n = slice_index_or targets n n

abbrev pub linked_source : List ℕ → Source → Source
linked_source targets (source.Head links head) = source.Head links (instruction_at targets head)
linked_source targets s = s

abbrev pub linked_reading : List ℕ → Reading → Reading
linked_reading targets (reading.Name s) = reading.Name (linked_source targets s)
linked_reading targets (reading.Subarray s n) = reading.Subarray (linked_source targets s) n
linked_reading targets r = r

abbrev pub linked_instr : List ℕ → Instr → Instr
linked_instr targets (held.Goto links position k) = held.Goto links position (instruction_at targets k)
linked_instr targets (held.Call links site head) = held.Call links site (instruction_at targets head)
linked_instr targets (held.HandOn s) = held.HandOn (linked_source targets s)
linked_instr targets i = i

abbrev pub linked_coded : List ℕ → Coded → Coded
linked_coded targets c = record c { does = linked_instr targets c.does }

abbrev pub linked_text : List ℕ → TextHead → TextHead
linked_text targets t = record t { reading = linked_reading targets t.reading }

abbrev pub linked_call : List ℕ → ComparedCall → ComparedCall
linked_call targets c = record c { source = linked_source targets c.source }

abbrev pub linked_added : List ℕ → Added → Added
linked_added targets a = record a { texts = map (linked_text targets) a.texts; calls = map (linked_call targets) a.calls }

abbrev pub linked : List ℕ → CodeView → CodeView
linked targets c = record c { instructions = map (linked_coded targets) c.instructions; added = linked_added targets c.added }
