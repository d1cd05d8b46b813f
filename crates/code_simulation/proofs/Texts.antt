-- Texts: they are entered, and they end.
use Rattle.std.proofs.Common.{◌≡◌, ℕ, zero, suc, ◌+◌, ◌-◌, ◌≤◌, inl, inr, List, [], ◌∷◌, length, map, Option, Some, refl, sym, ap, ◌∙◌, subst, arith}
use Rattle.std.specs.Prelude.{slice_get, Bool, true, false}
use Rattle.value_ops.specs.declared.places.Place.{Place}
use Rattle.value_ops.specs.declared.values.Value.{Value}
use Rattle.algolw_typing.specs.Types.{ValueType}
use Rattle.program_meaning.specs.State as state
use Rattle.program_meaning.specs.State.{State, Setting, Why, by_fault, by_limit, wrong, unfinished, Outcome, on, jump, stop, M, Use, for_value, for_place, ArrayInfo, RecordInfo, after, behind_first}
use Rattle.program_meaning.specs.Environments.{Env, empty, bind, Thing, to_constant, to_variable, to_array, to_label, to_procedure, thunk, Bodied}
use Rattle.stack_code.specs.Instr as instr
use Rattle.stack_code.specs.Instr.{Instr, Mode, the_value, the_place, as_asked}
use Rattle.stack_code.specs.Code.{Code, Coded}
use Rattle.stack_code.specs.Machine as machine
use Rattle.stack_code.specs.Machine.{Machine, Content, Entry, Frame, Where, in_cell, in_field, on_top_of, lowest, replaced}
use Rattle.stack_code.specs.Doing as doing
use Rattle.stack_code.specs.Doing.{Next, halted, go_on, there, most_frames, most_entries, frame_for, open_frame, enter, run_newest, go_to, push_frame, outwards, step_out, start_at, ◌>>=◌, ◌>>◌}
use Rattle.phrase_code.specs.Coding.{Stand}
use Rattle.code_simulation.specs.Relation.{HasAt, Has, Slot, Base, Heap, mach, World, Target, Stands, Holds, HeldSpot, HasEntry, HasLabel, HasProcedure, HasProcedureFormal, Shows, Means, Settled, Listed, Grew, Agrees, At, Wanted, content_of}
use Rattle.code_simulation.specs.Following.{Comes, Follows, Gives}
use Rattle.code_simulation.proofs.Stacks.{top_at, is_equal, length_map, lowest_append, lowest_all}
use Rattle.code_simulation.proofs.Rows.{one_row, follows_on}
use Rattle.code_simulation.proofs.Keeping.{Over}
use Rattle.code_simulation.proofs.Making.{made_follows}

-- the stacks inside a text: its frame and its mark are there, and it runs
abbrev pub inside : Frame → Entry → Base → Base
inside f e b = record { reserved = b.reserved; slots = b.slots; entries = e ∷ b.entries; frames = f ∷ b.frames; current = Some (length (f ∷ b.frames) - 1) }

-- and behind its return
abbrev pub answered_in : Frame → Entry → Content → Base → Base
answered_in f e x b = record { reserved = b.reserved; slots = b.slots; entries = e ∷ b.entries; frames = record f { answer = x } ∷ b.frames; current = f.text }

pub over_inside : (f : Frame) (e : Entry) (b : Base) → Over b (inside f e b)
over_inside f e b = record { slots = []; slots_are = refl; entries = e ∷ []; entries_are = refl; frames = f ∷ []; frames_are = refl; reserved = λ k i. i }

-- the same cells
pub stands_in : (b b' : Base) (h : Heap) (k : ℕ) (x : Where) → b'.slots ≡ b.slots → Stands b' h k x → Stands b h k x
stands_in b b' h k (in_cell c) q e = subst (λ l. on_top_of l c ≡ Some (Rattle.code_simulation.specs.Relation.variable k)) q e
stands_in b b' h k (in_field f) q e = e

pub settled_in : (b b' : Base) (h : Heap) (memory : List (Option Value)) (records : List RecordInfo) (fields : ℕ) → b'.slots ≡ b.slots → ((k : ℕ) → Has k b'.reserved → Has k b.reserved) → Settled b h memory records fields → Settled b' h memory records fields
settled_in b b' h memory records fields q o a = record {
  apart = λ k x y p r. a.apart k x y (stands_in b b' h k x q p) (stands_in b b' h k y q r);
  within = λ k x p. a.within k x (stands_in b b' h k x q p);
  kept = λ k i. let z = a.kept k (o k i) in (z.0, λ x p. z.1 x (stands_in b b' h k x q p));
  has = a.has;
  count = a.count;
  as_many = a.as_many;
  standard = a.standard;
}

pub spot_in_same : (b b' : Base) (h : Heap) (k : state.Spot) (x : machine.Spot) → b'.slots ≡ b.slots → HeldSpot b' h k x → HeldSpot b h k x
spot_in_same b b' h (state.whole k) (machine.whole x) q e = stands_in b b' h k x q e
spot_in_same b b' h (state.within k m i n) (machine.within x m' i' n') q e = (stands_in b b' h k x q e.0, e.1, e.2, e.3)
spot_in_same b b' h k x q e = absurd e

pub holds_in : (b b' : Base) (h : Heap) (r : state.Given) (x : Content) → b'.slots ≡ b.slots → Holds b' h r x → Holds b h r x
holds_in b b' h state.nothing machine.nothing q e = tt
holds_in b b' h (state.a_value v) (machine.a_value u) q e = e
holds_in b b' h (state.a_spot k) (machine.a_spot x) q e = spot_in_same b b' h k x q e
holds_in b b' h r x q e = absurd e

-- ---- names seen from inside

-- the text round a text
pub out_inside : (frames : List Frame) (j : ℕ) (f : Frame) (n : ℕ) → on_top_of frames j ≡ Some f → outwards frames (Some j) (suc n) ≡ outwards frames f.link n
out_inside frames j f zero e = ap doing.link_of e
out_inside frames j f (suc n) e = ap (step_out frames) (out_inside frames j f n e)

module _ (b : Base) (j : ℕ) (f : Frame) (is : on_top_of b.frames j ≡ Some f) where
  inner_out : (level l : ℕ) → l ≤ level → outwards b.frames (Some j) (level + 1 - l) ≡ outwards b.frames f.link (level - l)
  inner_out level l q = let e : level + 1 - l ≡ suc (level - l) = omega (arith, q) in ap (outwards b.frames (Some j)) e ∙ out_inside b.frames j f (level - l) is

  inner_entry : (name : Stand) (level : ℕ) (slot : Slot) → HasEntry b name level f.link slot → HasEntry b name (level + 1) (Some j) slot
  inner_entry name level slot x = record { out = let o = x.out in omega (arith, o); start = x.start; starts = ap (start_at b.frames) (inner_out level name.level x.out) ∙ x.starts; entry = x.entry; stands = x.stands; cell = x.cell; is = x.is; holds = x.holds }

  inner_means : (program : List Coded) (w : World) (arrays : List (Option ArrayInfo)) (t : Thing) (name : Stand) (level : ℕ) → Means program w b arrays t name level f.link → Means program w b arrays t name (level + 1) (Some j)
  inner_means program w arrays (to_constant v) name level x = (x.0, inner_entry name level _ x.1)
  inner_means program w arrays (to_variable k) name level x = (x.0, inner_entry name level _ x.1)
  inner_means program w arrays (to_array k given) name level x = (x.0, x.1, inner_entry name level _ x.2, x.3)
  inner_means program w arrays (to_label n) name level x = let y = x.1 in (x.0, record { target = y.target; has = y.has; number = y.number; item = y.item; out = let o = y.out in omega (arith, o); text_is = inner_out level name.level y.out ∙ y.text_is; start = y.start; starts = y.starts; cut = y.cut; mark = y.mark })
  inner_means program w arrays (to_procedure k) name level (inl y) = inl (record { procedure = y.procedure; has = y.has; number = y.number; kind = y.kind; head = y.head; out = let o = y.out in omega (arith, o); text_is = inner_out level name.level y.out ∙ y.text_is })
  inner_means program w arrays (to_procedure k) name level (inr y) = inr (record { procedure = y.procedure; has = y.has; number = y.number; kind = y.kind; entry = inner_entry name level _ y.entry })
  inner_means program w arrays (thunk m a e) name level x = (x.0, x.1, inner_entry name level _ x.2, x.3, x.4, x.5, x.6, x.7)

  -- what a text's link shows, its code shows
  pub inner_shows : (program : List Coded) (w : World) (arrays : List (Option ArrayInfo)) (e : Env) (names : List Stand) (level : ℕ) → Shows program w b arrays e names level f.link → Shows program w b arrays e names (level + 1) (Some j)
  inner_shows program w arrays empty [] level x = tt
  inner_shows program w arrays empty (name ∷ names) level x = x
  inner_shows program w arrays (bind y t e) [] level x = x
  inner_shows program w arrays (bind y t e) (name ∷ names) level x = (x.0, inner_means program w arrays t name level x.1, inner_shows program w arrays e names level x.2)

-- the newest frame, by its number
pub newest_at : (f : Frame) (frames : List Frame) → on_top_of (f ∷ frames) (length (f ∷ frames) - 1) ≡ Some f
newest_at f frames = top_at f frames (length (f ∷ frames) - 1) (omega arith)

pub replaced_newest : {A : Type 0} (x y : A) (xs : List A) (k : ℕ) → k ≡ length xs → replaced (x ∷ xs) k y ≡ y ∷ xs
replaced_newest x y xs k e = subst (λ n. replaced (x ∷ xs) n y ≡ y ∷ xs) (sym e) (ap (λ (t : Bool). let l : List _ = elim t [ true ↦ y ∷ xs | false ↦ x ∷ replaced xs (length xs) y ] in l) (is_equal (length xs)))

-- what is under way when a text ends
abbrev pub ended_state : Bool → State Bodied → State Bodied
ended_state counts s = record s { depth = doing.less counts s.depth }

module _ (set : Setting) (program : Code) where
  -- ---- ending

  -- the row of a return
  pub returned : (b : Base) (h : Heap) (s : State Bodied) (k : ℕ) (held : Content) (f : Frame) (e : Entry) (w : Place) → slice_get program.instructions k ≡ Some (record { at = w; does = instr.Return }) → Comes set program (mach (inside f e b) h s k held) (mach (answered_in f e held b) h s f.back held)
  returned b h s k held f e w q = one_row set program (mach (inside f e b) h s k held) (mach (answered_in f e held b) h s f.back held) (record { at = w; does = instr.Return }) q
      (ap (λ o. doing.after (there o (mach (inside f e b) h s k held)) doing.go_back) (newest_at f b.frames)
      ∙ ap (λ l. doing.on tt (record (mach (answered_in f e held b) h s f.back held) { frames = l; display = outwards l f.text })) (replaced_newest f (record f { answer = held }) b.frames (length (f ∷ b.frames) - 1) (omega arith)))

  -- everything of the newest frame is given back
  pub closed : (b : Base) (h : Heap) (s : State Bodied) (k : ℕ) (x : Content) (f : Frame) (e : Entry) (held : Content) → f.text ≡ b.current → f.start ≡ length b.entries → f.base ≡ length b.slots →
      record (mach (answered_in f e x b) h s k held) { frames = b.frames; display = outwards b.frames f.text; entries = lowest (e ∷ b.entries) f.start; cells = lowest (map (content_of s.memory) b.slots) f.base; depth = doing.less f.counts s.depth } ≡ mach b h (ended_state f.counts s) k held
  closed b h s k x f e held et es eb =
      ap (λ l. record m0 { frames = b.frames; display = outwards b.frames f.text; entries = l; cells = lowest cells f.base; depth = doing.less f.counts s.depth }) entries_are
      ∙ ap (λ l. record m0 { frames = b.frames; display = outwards b.frames f.text; entries = b.entries; cells = l; depth = doing.less f.counts s.depth }) cells_are
      ∙ ap (λ t. record m0 { frames = b.frames; entries = b.entries; depth = doing.less f.counts s.depth; current = t; display = outwards b.frames t }) et
    where
      m0 : Machine
      m0 = mach (answered_in f e x b) h s k held

      cells : List Content
      cells = map (content_of s.memory) b.slots

      entries_are : lowest (e ∷ b.entries) f.start ≡ b.entries
      entries_are = ap (lowest (e ∷ b.entries)) es ∙ lowest_append (e ∷ []) b.entries

      cells_are : lowest cells f.base ≡ cells
      cells_are = ap (lowest cells) (eb ∙ sym (length_map (content_of s.memory) b.slots)) ∙ lowest_all cells

  -- a text ends that was done for its value, which is made
  pub ended_for_value : (b : Base) (h : Heap) (s : State Bodied) (k : ℕ) (held : Content) (ts : List Target) (w : Place) (world : World) (mf : Machine) (back n head : ℕ) (link : Option ℕ) (type : Option ValueType) (counts : Bool) (e : Entry) (r : state.Given) → slice_get program.instructions k ≡ Some (record { at = w; does = instr.End }) →
      mf.current ≡ b.current → length mf.entries ≡ length b.entries → n ≡ length b.slots → Agrees program.instructions world b h (ended_state counts s) → Holds b h r held →
      Follows set program (Gives b s.active (k + 1)) ts h (ended_state counts s) (mach (answered_in (frame_for mf back n head link for_value type counts) e held b) h s k held) (state.made_result w type r (ended_state counts s))
  ended_for_value b h s k held ts w world mf back n head link type counts e r q et es eb a x =
      let f = frame_for mf back n head link for_value type counts in
      made_follows set program b h (ended_state counts s) k held (mach (answered_in f e held b) h s k held) (record { at = w; does = instr.End }) ts world type r held q
      (ap (λ m. doing.after (doing.after (doing.made_result type held m) doing.hold) (λ z. go_on)) (closed b h s k held f e held et es eb)) a x

  -- and one that was done for a place
  pub ended_for_place : (b : Base) (h : Heap) (s : State Bodied) (k : ℕ) (held : Content) (ts : List Target) (w : Place) (world : World) (mf : Machine) (back n head : ℕ) (link : Option ℕ) (type : Option ValueType) (counts : Bool) (e : Entry) (r : state.Given) → slice_get program.instructions k ≡ Some (record { at = w; does = instr.End }) →
      mf.current ≡ b.current → length mf.entries ≡ length b.entries → n ≡ length b.slots → Agrees program.instructions world b h (ended_state counts s) → Holds b h r held →
      Follows set program (Gives b s.active (k + 1)) ts h (ended_state counts s) (mach (answered_in (frame_for mf back n head link for_place type counts) e held b) h s k held) (on r (ended_state counts s))
  ended_for_place b h s k held ts w world mf back n head link type counts e r q et es eb a x =
      let f = frame_for mf back n head link for_place type counts in
      follows_on set program (Gives b s.active (k + 1)) ts h (ended_state counts s) _ (mach b h (ended_state counts s) (k + 1) held) r
      (one_row set program (mach (answered_in f e held b) h s k held) (mach b h (ended_state counts s) (k + 1) held) (record { at = w; does = instr.End }) q (ap (λ m. doing.after (doing.hold held m) (λ z. go_on)) (closed b h s k held f e held et es eb)))
      (record { held = held; holds = x; reached = record { is = refl; settled = a.settled; cells = a.cells; listed = refl } })
