-- What a run gives: its ending, what it printed, its counts, and what is shown of it when it doesn't end normally.
use Rattle.std.specs.Prelude.{ℕ, suc, ℤ, pos, List, [], ◌∷◌, ◌++◌, map, length, take, decimal, codes, Option, Some, None, true, false, slice_get}
use Rattle.value_ops.specs.declared.places.Place.{Place}
use Rattle.value_ops.specs.declared.values.RecordId.{RecordId}
use Rattle.value_ops.specs.declared.values.Value.{Value}
use Rattle.value_ops.specs.declared.values.Value.TheVariants as value
use Rattle.value_ops.specs.Faults.{fault_number, fault_text, limit_number, limit_text}
use Rattle.algolw_typing.specs.Types.{is_place}
use Rattle.output_editing.specs.Layout.{lay}
use Rattle.post_mortem.specs.declared.entries.Entry as dump
use Rattle.post_mortem.specs.declared.entries.Entry.TheVariants as line
use Rattle.post_mortem.specs.declared.entries.Shown.{Shown}
use Rattle.post_mortem.specs.declared.entries.Shown.TheVariants as shown
use Rattle.post_mortem.specs.Dump.{place_text, dump_text}
use Rattle.program_meaning.specs.Phrases.{Phrase}
use Rattle.program_meaning.specs.State.{State, Outcome, on, jump, stop, Setting, Why, by_fault, by_limit, wrong, unfinished, for_value, Given, ArrayInfo, RecordInfo, Held, a_variable, an_array, a_number, by_name, a_procedure, ShownName, Entry, in_block, in_call, in_actual, in_turn}
use Rattle.program_meaning.specs.Copying.{Closed, phrase_job, run}

-- nothing is held but the two standard variables
abbrev pub initial : {P : Type 0} → State P
initial = record { memory = Some (value.Integer (pos 14)) ∷ Some (value.Integer (pos 2)) ∷ []; arrays = []; procedures = []; labels = 0; records = []; fields = 0; data_read = 0; pieces = []; begun = []; steps = 0; cells = 0; depth = 0; active = [] }

abbrev pub nowhere : Place
nowhere = record { card = 0; column = 0 }

-- a program is run: a step more than its limit bounds what it may do
abbrev pub outcome : Setting → Phrase → Outcome Closed Given
outcome set program = run set (suc set.steps) (phrase_job for_value nowhere program) initial

abbrev pub state_of : {P A : Type 0} → Outcome P A → State P
state_of (on a s) = s
state_of (jump l s) = s
state_of (stop y w s) = s

-- ---- what is shown of a state

abbrev pub shown_record : RecordId → Option RecordInfo → Shown
shown_record r None = shown.Undefined
shown_record r (Some info) = shown.Record info.class.text r

abbrev pub shown_value : {P : Type 0} → State P → Value → Shown
shown_value s (value.Reference (Some r)) = shown_record r (slice_get s.records r.0)
shown_value s v = shown.Simple v

abbrev pub shown_variable : {P : Type 0} → State P → Option (Option Value) → Shown
shown_variable s (Some (Some v)) = shown_value s v
shown_variable s _ = shown.Undefined

-- the bounds of the subscripts that aren't given
abbrev pub free_bounds : List (ℤ × ℤ) → List (Option ℤ) → List (ℤ × ℤ)
free_bounds (bound ∷ bounds) (None ∷ given) = bound ∷ free_bounds bounds given
free_bounds (bound ∷ bounds) (Some i ∷ given) = free_bounds bounds given
free_bounds bounds given = []

abbrev pub shown_bounds : List (ℤ × ℤ) → Shown
shown_bounds bounds = shown.Bounds (record { count = length bounds; bounds = bounds })

abbrev pub shown_array : Option (Option ArrayInfo) → List (Option ℤ) → Shown
shown_array (Some (Some a)) given = shown_bounds (free_bounds a.bounds given)
shown_array _ given = shown.Undefined

abbrev pub shown_held : {P : Type 0} → State P → Held → Shown
shown_held s (a_variable k) = shown_variable s (slice_get s.memory k)
shown_held s (an_array k given) = shown_array (slice_get s.arrays k) given
shown_held s (a_number n) = shown.Simple (value.Integer n)
shown_held s by_name = shown.ByName
shown_held s a_procedure = shown.Procedure

abbrev pub shown_names : {P : Type 0} → State P → List ShownName → List dump.Entry
shown_names s [] = []
shown_names s (x ∷ xs) = line.Shown x.text (shown_held s x.held) ∷ shown_names s xs

abbrev pub entry_lines : {P : Type 0} → State P → Entry → List dump.Entry
entry_lines s (in_block p names) = line.Block p ∷ shown_names s names
entry_lines s (in_call x p names) = line.Call x p ∷ shown_names s names
entry_lines s (in_actual p) = line.Actual p ∷ []
entry_lines s (in_turn p names) = line.For p ∷ shown_names s names

abbrev pub all_lines : {P : Type 0} → State P → List Entry → List dump.Entry
all_lines s [] = []
all_lines s (e ∷ es) = entry_lines s e ++ all_lines s es

-- the dump: what is under way, the innermost first, in at most 40 lines
abbrev pub dump_lines : {P : Type 0} → State P → List (List ℕ)
dump_lines s = map dump_text (take 40 (all_lines s s.active))

-- ---- the ending

abbrev pub numbered_text : List ℕ → ℕ → Place → List ℕ → List ℕ
numbered_text word n w text = word ++ codes " " ++ decimal n ++ codes " AT " ++ place_text w ++ codes ": " ++ text

abbrev pub why_text : Why → Place → List ℕ
why_text (by_fault f) w = numbered_text (codes "FAULT") (fault_number f) w (fault_text f)
why_text (by_limit l) w = numbered_text (codes "LIMIT") (limit_number l) w (limit_text l)
why_text wrong w = codes "WRONG AT " ++ place_text w
why_text unfinished w = codes "UNFINISHED"

abbrev pub ending_text : {P A : Type 0} → Outcome P A → List ℕ
ending_text (on a s) = codes "ENDED NORMALLY"
ending_text (jump l s) = codes "WRONG"
ending_text (stop y w s) = why_text y w

abbrev pub dump_of : {P A : Type 0} → Outcome P A → List (List ℕ)
dump_of (on a s) = []
dump_of (jump l s) = dump_lines s
dump_of (stop y w s) = dump_lines s

-- ---- the counts

-- how often a statement was begun
abbrev pub begun_at : Place → List Place → ℕ
begun_at st [] = 0
begun_at st (w ∷ begun) = elim (is_place st w) [ true ↦ suc (begun_at st begun) | false ↦ begun_at st begun ]

-- the lines that are printed, as many as the limit allows
abbrev pub printed_lines : {P : Type 0} → Setting → State P → List (List ℕ)
printed_lines set s = take set.lines (lay s.pieces)
