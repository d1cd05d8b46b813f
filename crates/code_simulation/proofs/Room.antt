-- There is room for entries and frames. Names are no more than cells, and marks of a text no more than the code's marks, since the marks so far and
-- those of the phrase that is still to be done are within them.
use Rattle.std.proofs.Common.{◌≡◌, ℕ, suc, ◌+◌, ◌-◌, ◌*◌, ◌<◌, ◌≤◌, List, [], ◌∷◌, length, Option, Some, None, refl, sym, ap, ◌∙◌, subst, arith, lt-ltb}
use Rattle.std.specs.Prelude.{slice_get, max, nat_lt, Bool, true, false}
use Rattle.std.proofs.Math.Nat.{le-max_left, le-max_right}
use Rattle.std.proofs.lemmas.Nat.{mul-le}
use Rattle.value_ops.specs.declared.places.Place.{Place}
use Rattle.algolw_typing.specs.Types.{ValueType}
use Rattle.algolw_typing.specs.Meanings.{FormalType, by_name, by_value, by_result, by_value_result, for_array, for_procedure}
use Rattle.program_meaning.specs.Phrases.{Formal}
use Rattle.program_meaning.specs.State as state
use Rattle.program_meaning.specs.State.{State, Setting, Outcome, Use, wrong, ArrayInfo, ShownName, most_cells, most_depth}
use Rattle.program_meaning.specs.Environments.{Bodied}
use Rattle.stack_code.specs.Code.{Code, Coded}
use Rattle.stack_code.specs.Machine as machine
use Rattle.stack_code.specs.Machine.{Machine, Content, Entry, Frame, on_top_of}
use Rattle.stack_code.specs.Doing as doing
use Rattle.stack_code.specs.Doing.{Next, Row, halted, most_frames, most_entries, enter, push_frame, open_frame, start_of, frame_for, run_newest, go_to, ◌>>◌}
use Rattle.stack_code.specs.Table.{does, name_of, enter_formals}
use Rattle.code_simulation.specs.UnderWay.{names_in, marks_in, texts_in, texts_under, IsDeep}
use Rattle.code_simulation.specs.Room.{Fits}
use Rattle.code_simulation.specs.Relation.{Slot, Base, Heap, mach, World, Target, IsUnderWay, Listed}
use Rattle.code_simulation.specs.Ready.{formal_entries}
use Rattle.code_simulation.specs.Following.{Follows}
use Rattle.code_simulation.proofs.Stacks.{is_below, top_below}
use Rattle.code_simulation.proofs.Rows.{one_row, follows_from}
use Rattle.code_simulation.proofs.Keeping.{pushed, grew_to}
use Rattle.code_simulation.proofs.Texts.{inside}

-- ---- names and marks

pub names_and_marks : (entries : List Entry) → names_in entries + marks_in entries ≡ length entries
names_and_marks [] = refl
names_and_marks (machine.a_name text k ∷ entries) = let h = names_and_marks entries in omega (arith, h)
names_and_marks (machine.a_procedure_name text k ∷ entries) = let h = names_and_marks entries in omega (arith, h)
names_and_marks (machine.a_block p n ∷ entries) = let h = names_and_marks entries in omega (arith, h)
names_and_marks (machine.declared n d f ∷ entries) = let h = names_and_marks entries in omega (arith, h)
names_and_marks (machine.a_turn st back ∷ entries) = let h = names_and_marks entries in omega (arith, h)
names_and_marks (machine.a_call head site ∷ entries) = let h = names_and_marks entries in omega (arith, h)
names_and_marks (machine.an_actual head ∷ entries) = let h = names_and_marks entries in omega (arith, h)
names_and_marks (machine.an_aside ∷ entries) = let h = names_and_marks entries in omega (arith, h)
names_and_marks (machine.some_widths ws ∷ entries) = let h = names_and_marks entries in omega (arith, h)

-- ---- texts that count in the depth

-- a formal enters a name
one_name : (t : FormalType) (text : List ℕ) (k : ℕ) (es : List Entry) → (names_in (name_of t text k ∷ es) ≡ suc (names_in es)) × (marks_in (name_of t text k ∷ es) ≡ marks_in es) × (texts_in (name_of t text k ∷ es) ≡ texts_in es)
one_name (by_name t) text k es = (refl, refl, refl)
one_name (by_value t) text k es = (refl, refl, refl)
one_name (by_result t) text k es = (refl, refl, refl)
one_name (by_value_result t) text k es = (refl, refl, refl)
one_name (for_array t n) text k es = (refl, refl, refl)
one_name (for_procedure r) text k es = (refl, refl, refl)

-- formals enter names alone
pub formal_names : (cell : ℕ) (formals : List Formal) (entries : List Entry) → (names_in (formal_entries cell formals entries) ≡ length formals + names_in entries) × (marks_in (formal_entries cell formals entries) ≡ marks_in entries) × (texts_in (formal_entries cell formals entries) ≡ texts_in entries)
formal_names cell [] entries = (omega arith, refl, refl)
formal_names cell (f ∷ formals) entries =
    let h = formal_names (cell + 1) formals (name_of f.is f.name.text cell ∷ entries) in
    let n = one_name f.is f.name.text cell entries in
    let h0 = h.0 in let n0 = n.0 in
    (omega (arith, h0, n0), h.1 ∙ n.1, h.2 ∙ n.2)

-- they are those that the meaning has under way
pub texts_listed : (program : List Coded) (b : Base) (arrays : List (Option ArrayInfo)) (entries : List Entry) (names : List ShownName) (active : List state.Entry) → Listed program b arrays entries names active → texts_in entries ≡ texts_under active
texts_listed program b arrays [] [] [] x = refl
texts_listed program b arrays (machine.a_name text k ∷ entries) names active x = texts_listed program b arrays entries _ active x.2
texts_listed program b arrays (machine.a_procedure_name text k ∷ entries) names active x = texts_listed program b arrays entries _ active x.2
texts_listed program b arrays (machine.a_block p n ∷ entries) names (state.in_block q xs ∷ active) x = texts_listed program b arrays entries [] active x.2
texts_listed program b arrays (machine.declared n d f ∷ entries) names active x = texts_listed program b arrays entries names active x
texts_listed program b arrays (machine.a_turn st back ∷ entries) names (state.in_turn q xs ∷ active) x = texts_listed program b arrays entries [] active x.2
texts_listed program b arrays (machine.a_call head site ∷ entries) names (state.in_call name q xs ∷ active) x = ap suc (texts_listed program b arrays entries [] active x.3)
texts_listed program b arrays (machine.an_actual head ∷ entries) names (state.in_actual first ∷ active) x = ap suc (texts_listed program b arrays entries [] active x.2)
texts_listed program b arrays (machine.an_aside ∷ entries) names active x = texts_listed program b arrays entries names active x
texts_listed program b arrays (machine.some_widths ws ∷ entries) names active x = texts_listed program b arrays entries names active x
texts_listed program b arrays entries names active x = absurd x

-- what is under way no more counts no more
pub deep_popped : (active : List state.Entry) → texts_under (state.behind_first active) ≤ texts_under active
deep_popped [] = omega arith
deep_popped (state.in_block p xs ∷ active) = omega arith
deep_popped (state.in_turn p xs ∷ active) = omega arith
deep_popped (state.in_call name p xs ∷ active) = omega arith
deep_popped (state.in_actual first ∷ active) = omega arith

pub deep_behind : (s : State Bodied) → IsDeep s → IsDeep (record s { active = state.behind_first s.active })
deep_behind s d = let p = deep_popped s.active in omega (arith, p, d)

-- a name that is shown counts for no text
texts_first : (xs : List ShownName) (active : List state.Entry) → texts_under (state.on_first xs active) ≤ texts_under active
texts_first xs [] = omega arith
texts_first xs (state.in_block p ys ∷ active) = omega arith
texts_first xs (state.in_turn p ys ∷ active) = omega arith
texts_first xs (state.in_call name p ys ∷ active) = omega arith
texts_first xs (state.in_actual first ∷ active) = omega arith

pub deep_first : (s : State Bodied) (xs : List ShownName) → IsDeep s → texts_under (state.on_first xs s.active) ≤ s.depth
deep_first s xs d = let p = texts_first xs s.active in omega (arith, p, d)

-- a text that counted is left
pub deep_left : (s s' : State Bodied) (e : state.Entry) (rest : List state.Entry) → suc (texts_under rest) ≤ texts_under (e ∷ rest) → s.active ≡ e ∷ rest → s'.active ≡ rest → s'.depth ≡ s.depth - 1 → IsDeep s → IsDeep s'
deep_left s s' e rest l p q r d = let x = ap texts_under p in let y = ap texts_under q in omega (arith, x, y, r, l, d)

-- where the depth leaves one more, texts are fewer than may be
pub texts_below : (program : List Coded) (b : Base) (s : State Bodied) → Listed program b s.arrays b.entries [] s.active → IsDeep s → s.depth < most_depth → texts_in b.entries < most_depth
texts_below program b s l d q = let e = texts_listed program b s.arrays b.entries [] s.active l in omega (arith, e, d, q)

-- ---- what fits

-- the marks of a phrase are within the code's
pub fits_most : {most n : ℕ} {w : World} {b : Base} → Fits most w b n → n ≤ most
fits_most f = let w = f.within in omega (arith, w)

-- fewer marks fit too: those of a part
pub fits_less : {most n n' : ℕ} {w : World} {b : Base} → n' ≤ n → Fits most w b n → Fits most w b n'
fits_less q f = record { so_far = f.so_far; within = let w = f.within in omega (arith, w, q); marked = f.marked; named = f.named; framed = f.framed; few = f.few; deep = f.deep; marks_are = f.marks_are }

pub fits_left : {most : ℕ} {w : World} {b : Base} (n n' : ℕ) → Fits most w b (max n n') → Fits most w b n
fits_left n n' f = fits_less (le-max_left n n') f

pub fits_right : {most : ℕ} {w : World} {b : Base} (n n' : ℕ) → Fits most w b (max n n') → Fits most w b n'
fits_right n n' f = fits_less (le-max_right n n') f

-- in another world of the same marks
pub fits_world : {most n : ℕ} {w : World} {b : Base} (w' : World) → w'.marks ≡ w.marks → Fits most w b n → Fits most w' b n
fits_world w' q f = record { so_far = f.so_far; within = f.within; marked = f.marked; named = f.named; framed = f.framed; few = f.few; deep = f.deep; marks_are = q ∙ f.marks_are }

-- nothing is under way
pub fits_nothing : (most n : ℕ) (w : World) → w.marks ≡ most → n ≤ most → Fits most w (record { reserved = []; slots = []; entries = []; frames = []; current = None }) n
fits_nothing most n w e q = record { marks_are = e; so_far = 0; within = omega (arith, q); marked = omega arith; named = omega arith; framed = omega arith; few = omega arith; deep = omega arith }

-- other slots, no fewer
pub fits_slots : {most n : ℕ} {w : World} {b : Base} (b' : Base) → b'.entries ≡ b.entries → b'.frames ≡ b.frames → length b.slots ≤ length b'.slots → Fits most w b n → Fits most w b' n
fits_slots {most} b' p e l f = record {
  so_far = f.so_far;
  within = f.within;
  marked = let m = f.marked in let x = ap marks_in p in let y = ap texts_in p in subst (λ z. marks_in b'.entries ≤ z * (most + 1) + f.so_far) (sym y) (omega (arith, m, x));
  named = let m = f.named in let x = ap names_in p in omega (arith, m, x, l);
  framed = let m = f.framed in let x = ap marks_in p in let y = ap (λ (z : List Frame). length z) e in omega (arith, m, x, y);
  few = let m = f.few in let x = ap names_in p in omega (arith, m, x);
  deep = let d = f.deep in let y = ap texts_in p in omega (arith, d, y);
  marks_are = f.marks_are;
}

-- a cell more
pub fits_pushed : {most n : ℕ} {w : World} {b : Base} (x : Content) → Fits most w b n → Fits most w (pushed x b) n
fits_pushed {b = b} x f = fits_slots (pushed x b) refl refl (omega arith) f

-- names more, no more than there are cells
pub fits_named : {most n : ℕ} {w : World} {b : Base} (b' : Base) → names_in b'.entries ≤ length b'.slots → names_in b'.entries ≤ most_cells → marks_in b'.entries ≡ marks_in b.entries → texts_in b'.entries ≡ texts_in b.entries → b'.frames ≡ b.frames → Fits most w b n → Fits most w b' n
fits_named {most} b' p c q t e f = record {
  so_far = f.so_far;
  within = f.within;
  marked = let m = f.marked in subst (λ z. marks_in b'.entries ≤ z * (most + 1) + f.so_far) (sym t) (omega (arith, m, q));
  named = p;
  framed = let l = ap (λ (x : List Frame). length x) e in let d = f.framed in omega (arith, l, d, q);
  few = c;
  deep = let d = f.deep in omega (arith, d, t);
  marks_are = f.marks_are;
}

-- a variable or an array is declared: its name, and cells of its own
pub fits_declared : {most n : ℕ} {w : World} {b : Base} (reserved : List ℕ) (text : List ℕ) (cell : ℕ) (slots : List Slot) → length b.slots < length slots → length b.slots < most_cells → Fits most w b n → Fits most w (record b { reserved = reserved; slots = slots; entries = machine.a_name text cell ∷ b.entries }) n
fits_declared {b = b} reserved text cell slots p c f = fits_named (record b { reserved = reserved; slots = slots; entries = machine.a_name text cell ∷ b.entries }) (let m = f.named in omega (arith, m, p)) (let m = f.named in omega (arith, m, c)) refl refl refl f

-- a mark more in the text that runs, and names; fewer marks fit behind it
pub fits_marked : {most n : ℕ} {w : World} {b : Base} (b' : Base) → names_in b'.entries ≤ length b'.slots → names_in b'.entries ≤ most_cells → marks_in b'.entries ≡ suc (marks_in b.entries) → texts_in b'.entries ≡ texts_in b.entries → b'.frames ≡ b.frames → Fits most w b (1 + n) → Fits most w b' n
fits_marked {most} b' p c q t e f = record {
  so_far = f.so_far + 1;
  within = let w = f.within in omega (arith, w);
  marked = let m = f.marked in subst (λ z. marks_in b'.entries ≤ z * (most + 1) + (f.so_far + 1)) (sym t) (omega (arith, m, q));
  named = p;
  framed = let l = ap (λ (x : List Frame). length x) e in let d = f.framed in omega (arith, l, d, q);
  few = c;
  deep = let d = f.deep in omega (arith, d, t);
  marks_are = f.marks_are;
}

-- a block, and where its declarations were made
pub fits_block : {most n : ℕ} {w : World} {b : Base} (reserved : List ℕ) (p : Place) (cells : ℕ) → Fits most w b (1 + n) → Fits most w (record b { reserved = reserved; entries = machine.a_block p cells ∷ b.entries }) n
fits_block {b = b} reserved p cells f = fits_marked (record b { reserved = reserved; entries = machine.a_block p cells ∷ b.entries }) f.named f.few refl refl refl f

pub fits_declared_mark : {most n : ℕ} {w : World} {b : Base} (cells depth frames : ℕ) → Fits most w b (1 + n) → Fits most w (record b { entries = machine.declared cells depth frames ∷ b.entries }) n
fits_declared_mark {b = b} cells depth frames f = fits_marked (record b { entries = machine.declared cells depth frames ∷ b.entries }) f.named f.few refl refl refl f

-- a turn: its mark and the control's name, which has a cell of its own
pub fits_turn : {most n : ℕ} {w : World} {b : Base} (at : Place) (back : ℕ) (text : List ℕ) (cell : ℕ) (slots : List Slot) → length b.slots < length slots → length b.slots < most_cells → Fits most w b (1 + n) → Fits most w (record b { slots = slots; entries = machine.a_name text cell ∷ (machine.a_turn at back ∷ b.entries) }) n
fits_turn {b = b} at back text cell slots p c f = fits_marked (record b { slots = slots; entries = machine.a_name text cell ∷ (machine.a_turn at back ∷ b.entries) }) (let m = f.named in omega (arith, m, p)) (let m = f.named in omega (arith, m, c)) refl refl refl f

-- ---- texts

-- an aside has its frame and its mark, and counts for the text round it
pub fits_aside : {most n : ℕ} {w : World} {b : Base} (fr : Frame) → Fits most w b (1 + n) → Fits most w (inside fr machine.an_aside b) n
fits_aside fr f = record {
  so_far = f.so_far + 1;
  within = let w = f.within in omega (arith, w);
  marked = let m = f.marked in omega (arith, m);
  named = f.named;
  framed = let d = f.framed in omega (arith, d);
  few = f.few;
  deep = f.deep;
  marks_are = f.marks_are;
}

-- a text that counts begins with no mark but its own
pub fits_text : {most n : ℕ} {w : World} {b : Base} (b' : Base) (n' : ℕ) → names_in b'.entries ≤ length b'.slots → names_in b'.entries ≤ most_cells → marks_in b'.entries ≡ suc (marks_in b.entries) → texts_in b'.entries ≡ suc (texts_in b.entries) → length b'.frames ≡ suc (length b.frames) → texts_in b.entries < most_depth → n' ≤ most →
    Fits most w b n → Fits most w b' n'
fits_text {most} {n} {w} {b} b' n' p c q t e d v f = record {
  so_far = 0;
  within = omega (arith, v);
  marked = let m = f.marked in let i = f.within in let x : suc (texts_in b.entries) * (most + 1) ≡ texts_in b.entries * (most + 1) + (most + 1) = omega arith in subst (λ z. marks_in b'.entries ≤ z * (most + 1) + 0) (sym t) (omega (arith, m, i, q, x));
  named = p;
  framed = let l = f.framed in omega (arith, l, e, q);
  few = c;
  deep = omega (arith, d, t);
  marks_are = f.marks_are;
}

-- a copied actual
pub fits_actual : {most n : ℕ} {w : World} {b : Base} (fr : Frame) (head n' : ℕ) → texts_in b.entries < most_depth → n' ≤ most → Fits most w b n → Fits most w (inside fr (machine.an_actual head) b) n'
fits_actual {b = b} fr head n' d w f = fits_text (inside fr (machine.an_actual head) b) n' f.named f.few refl refl refl d w f

-- a procedure, whose formals have cells that are new
pub fits_call : {most n : ℕ} {w : World} {b : Base} (b' : Base) (fr : Frame) (head : ℕ) (site : Place) (cell : ℕ) (formals : List Formal) (n' : ℕ) →
    b'.entries ≡ formal_entries cell formals (machine.a_call head site ∷ b.entries) → b'.frames ≡ fr ∷ b.frames → length b'.slots ≡ length formals + length b.slots → names_in b.entries + length formals ≤ most_cells → texts_in b.entries < most_depth → n' ≤ most →
    Fits most w b n → Fits most w b' n'
fits_call {b = b} b' fr head site cell formals n' es fs ss c d w f =
    let h = formal_names cell formals (machine.a_call head site ∷ b.entries) in
    let h0 = ap names_in es ∙ h.0 in
    let l = f.named in
    fits_text b' n' (omega (arith, h0, l, ss)) (omega (arith, h0, l, c)) (ap marks_in es ∙ h.1) (ap texts_in es ∙ h.2) (ap (λ (x : List Frame). length x) fs) d w f

-- ---- there is room

-- with as many texts as may be, marks are fewer than all
marks_below : (most depth so_far : ℕ) → depth ≤ most_depth → so_far ≤ most → depth * (most + 1) + so_far < (most_depth + 1) * (most + 1)
marks_below most depth so_far d w = let m = mul-le depth (most + 1) most_depth (most + 1) d (omega arith) in omega (arith, m, w)

pub marks_few : {most n : ℕ} {w : World} {b : Base} → Fits most w b n → marks_in b.entries < (most_depth + 1) * (most + 1)
marks_few {most} {n} {w} {b} f = let w = f.within in let q = marks_below most (texts_in b.entries) f.so_far f.deep (omega (arith, w)) in let m = f.marked in omega (arith, q, m)

-- an entry more, also above names that were entered since, no more than cells
room_above : {most n : ℕ} {w : World} {b : Base} (entries : List Entry) → Fits most w b n → names_in entries ≤ most_cells → marks_in entries ≡ marks_in b.entries → length entries < most_entries most
room_above entries f p q = let m = marks_few f in let e = names_and_marks entries in omega (arith, m, e, p, q)

pub room_for_entry : {most n : ℕ} {w : World} {b : Base} → Fits most w b n → length b.entries < most_entries most
room_for_entry {b = b} f = room_above b.entries f f.few refl

-- above a mark that was entered since: where another fits, or where a text was entered that counts
pub room_above_mark : {most : ℕ} {w : World} {b : Base} (n : ℕ) (entries : List Entry) → Fits most w b (1 + n) → names_in entries ≤ most_cells → marks_in entries ≡ suc (marks_in b.entries) → length entries < most_entries most
room_above_mark {most} {w} {b} n entries f p q =
    let w = f.within in let b' = marks_below most (texts_in b.entries) (f.so_far + 1) f.deep (omega (arith, w)) in let m = f.marked in let e = names_and_marks entries in omega (arith, b', m, e, p, q)

-- above whatever was entered since
pub room_by : (most : ℕ) (entries : List Entry) → names_in entries ≤ most_cells → marks_in entries < (most_depth + 1) * (most + 1) → length entries < most_entries most
room_by most entries p q = let e = names_and_marks entries in omega (arith, e, p, q)

-- also with the mark of a text that counts
pub marks_few_in_text : {most n : ℕ} {w : World} {b : Base} → Fits most w b n → texts_in b.entries < most_depth → suc (marks_in b.entries) < (most_depth + 1) * (most + 1)
marks_few_in_text {most} {n} {w} {b} f d =
    let t = texts_in b.entries in let w = f.within in let q = marks_below most (suc t) 0 (omega (arith, d)) (omega arith) in let x : suc t * (most + 1) ≡ t * (most + 1) + (most + 1) = omega arith in let m = f.marked in
    let y : suc (marks_in b.entries) ≤ suc t * (most + 1) + 0 = omega (arith, m, w, x) in omega (arith, q, y)

-- a frame more
pub room_for_frame : {most n : ℕ} {w : World} {b : Base} → Fits most w b n → length b.frames < most_frames most
room_for_frame f = let m = marks_few f in let d = f.framed in omega (arith, m, d)

-- ---- links that name a text below

pub link_is_below : (frames : List Frame) (link : Option ℕ) → IsUnderWay frames link → doing.is_below link (length frames) ≡ true
link_is_below frames None x = refl
link_is_below frames (Some k) x = by (on_top_of frames k) refl x.starts
  where
    by : (o : Option Frame) → on_top_of frames k ≡ o → start_of o ≡ Some x.start → nat_lt k (length frames) ≡ true
    by None q e = absurd (cc)
    by (Some f) q e = is_below k (length frames) (top_below frames k f q)

-- ---- rows that have room

pub entered_is : (most : ℕ) (e : Entry) (K : Row (Unit {0})) (m : Machine) → length m.entries < most_entries most → (enter most e >> K) m ≡ K (record m { entries = e ∷ m.entries })
entered_is most e K m q = ap (λ (z : Bool). let n : Next (Unit {0}) = elim z [ true ↦ doing.on (tt {0}) (record m { entries = e ∷ m.entries }) | false ↦ halted wrong m ] in doing.after n (λ a. K)) (lt-ltb (length m.entries) (most_entries most) q)

pub framed_is : (most : ℕ) (f : Frame) (K : Row (Unit {0})) (m : Machine) → length m.frames < most_frames most → (push_frame most f >> K) m ≡ K (record m { frames = f ∷ m.frames })
framed_is most f K m q = ap (λ (z : Bool). let n : Next (Unit {0}) = elim z [ true ↦ doing.on (tt {0}) (record m { frames = f ∷ m.frames }) | false ↦ halted wrong m ] in doing.after n (λ a. K)) (lt-ltb (length m.frames) (most_frames most) q)

pub opened_is : (most back base head : ℕ) (link : Option ℕ) (purpose : Use) (type : Option ValueType) (counts : Bool) (K : Row (Unit {0})) (m : Machine) → doing.is_below link (length m.frames) ≡ true →
    (open_frame most back base head link purpose type counts >> K) m ≡ (push_frame most (frame_for m back base head link purpose type counts) >> K) m
opened_is most back base head link purpose type counts K m q = ap (λ (z : Bool). doing.after (doing.test z (push_frame most (frame_for m back base head link purpose type counts)) doing.stuck m) (λ a. K)) q

module _ (set : Setting) (program : Code) where
  -- an entry more within a row, and a frame more
  pub enter_in_room : {P : Type 0} (m m0 : Machine) (c : Coded) (e : Entry) (K : Row (Unit {0})) → length m0.entries < most_entries program.marks → does set program c.at c.does m ≡ (enter program.marks e >> K) m0 →
      (does set program c.at c.does m ≡ K (record m0 { entries = e ∷ m0.entries }) → P) → P
  enter_in_room m m0 c e K q d g = g (d ∙ entered_is program.marks e K m0 q)

  pub frame_in_room : {P : Type 0} (m m0 : Machine) (c : Coded) (f : Frame) (K : Row (Unit {0})) → length m0.frames < most_frames program.marks → does set program c.at c.does m ≡ (push_frame program.marks f >> K) m0 →
      (does set program c.at c.does m ≡ K (record m0 { frames = f ∷ m0.frames }) → P) → P
  frame_in_room m m0 c f K q d g = g (d ∙ framed_is program.marks f K m0 q)

  -- a text is entered, with its frame and its mark
  pub text_in_room : {A : Type 0} (R : A → Heap → State Bodied → Machine → Type 0) (ts : List Target) (b : Base) (h : Heap) (s : State Bodied) (k : ℕ) (held : Content) (m : Machine) (c : Coded) (back n head next : ℕ) (link : Option ℕ) (purpose : Use) (type : Option ValueType) (counts : Bool) (e : Entry) (r : Outcome Bodied A) →
      doing.is_below link (length b.frames) ≡ true → length b.frames < most_frames program.marks → length b.entries < most_entries program.marks →
      slice_get program.instructions m.pc ≡ Some c → does set program c.at c.does m ≡ (open_frame program.marks back n head link purpose type counts >> (enter program.marks e >> (run_newest >> go_to next))) (mach b h s k held) →
      Follows set program R ts h s (mach (inside (frame_for (mach b h s k held) back n head link purpose type counts) e b) h s next held) r → Follows set program R ts h s m r
  text_in_room R ts b h s k held m c back n head next link purpose type counts e r lb rf re q d f =
      let fr = frame_for (mach b h s k held) back n head link purpose type counts in
      let K = enter program.marks e >> (run_newest >> go_to next) in
      frame_in_room m (mach b h s k held) c fr K rf (d ∙ opened_is program.marks back n head link purpose type counts K (mach b h s k held) lb)
      (λ d1. enter_in_room m (record (mach b h s k held) { frames = fr ∷ b.frames }) c e (run_newest >> go_to next) re d1
      (λ d2. follows_from set program R ts h s h s m (mach (inside fr e b) h s next held) r (one_row set program m (mach (inside fr e b) h s next held) c q d2) (grew_to h s s refl refl refl refl (λ d. d)) f))

  -- the names of formals are entered within a row
  pub formals_in_room : {P : Type 0} (m : Machine) (c : Coded) (K : Row (Unit {0})) (formals : List Formal) (cell : ℕ) (m0 : Machine) → names_in m0.entries + length formals ≤ most_cells → marks_in m0.entries < (most_depth + 1) * (program.marks + 1) →
      does set program c.at c.does m ≡ (enter_formals program.marks cell formals >> K) m0 → (does set program c.at c.does m ≡ K (record m0 { entries = formal_entries cell formals m0.entries }) → P) → P
  formals_in_room m c K [] cell m0 p q d g = g d
  formals_in_room m c K (f ∷ fs) cell m0 p q d g =
      let e = name_of f.is f.name.text cell in
      let o = one_name f.is f.name.text cell m0.entries in
      let o0 = o.0 in let o1 = o.1 in
      enter_in_room m m0 c e (enter_formals program.marks (cell + 1) fs >> K) (room_by program.marks m0.entries (omega (arith, p)) q) (d ∙ shape (enter program.marks e m0))
      (λ d1. formals_in_room m c K fs (cell + 1) (record m0 { entries = e ∷ m0.entries }) (omega (arith, p, o0)) (omega (arith, q, o1)) d1 g)
    where
      shape : (n : Next (Unit {0})) → doing.after (doing.after n (λ z. enter_formals program.marks (cell + 1) fs)) (λ z. K) ≡ doing.after n (λ z. enter_formals program.marks (cell + 1) fs >> K)
      shape (doing.on y n) = refl
      shape (doing.ended n) = refl
      shape (doing.halted y n) = refl
