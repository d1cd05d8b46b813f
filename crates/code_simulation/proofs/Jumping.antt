-- GOTO, and what is left of the stacks at a label's block.
use Rattle.std.proofs.Common.{◌≡◌, ℕ, ◌+◌, ◌⊎◌, inl, inr, List, ◌++◌, length, map, Option, Some, None, refl, sym, ap, ◌∙◌, subst}
use Rattle.std.specs.Prelude.{slice_get}
use Rattle.value_ops.specs.declared.places.Place.{Place}
use Rattle.value_ops.specs.declared.values.Value.{Value}
use Rattle.program_meaning.specs.Phrases.{Goto, Named}
use Rattle.program_meaning.specs.State as state
use Rattle.program_meaning.specs.State.{State, Setting, Outcome, on, jump, stop, M, Use, for_value, for_place, RecordInfo, after, back_to}
use Rattle.program_meaning.specs.Environments.{Env, find, Thing, to_constant, to_variable, to_array, to_label, to_procedure, thunk, Bodied, Job, went}
use Rattle.stack_code.specs.Instr as instr
use Rattle.stack_code.specs.Instr.{Instr, Mode}
use Rattle.stack_code.specs.Code.{Code, Coded}
use Rattle.stack_code.specs.Machine as machine
use Rattle.stack_code.specs.Machine.{Machine, Content, Entry, Frame, Where, in_cell, in_field, on_top_of, lowest}
use Rattle.stack_code.specs.Doing as doing
use Rattle.stack_code.specs.Doing.{Next, there, start_at, outwards, entry_on, ◌>>=◌, ◌>>◌}
use Rattle.stack_code.specs.Table.{jump_out, cut_to}
use Rattle.phrase_code.specs.Sizes.{a_name_formal, a_procedure_formal, size}
use Rattle.phrase_code.specs.Coding.{Stand, Context, known, code, one, links, stand_at, goto_by, goto_code}
use Rattle.code_simulation.specs.Relation.{HasAt, Base, Heap, mach, World, Target, HasLabel, Settled, Above, At, content_of}
use Rattle.code_simulation.specs.Following.{Follows, Gives, PhraseFollows}
use Rattle.code_simulation.proofs.Stacks.{map_append, length_map, lowest_append}
use Rattle.code_simulation.proofs.Rows.{one_row}
use Rattle.code_simulation.proofs.Keeping.{Over, stands_over, grew_to}
use Rattle.code_simulation.proofs.Counting.{ticked, begun_state, begin_then, tick_then, follows_assoc}
use Rattle.code_simulation.proofs.Names.{Found, found}

-- what was settled is settled below
pub settled_above : (b b' : Base) (h : Heap) (memory : List (Option Value)) (records : List RecordInfo) (fields : ℕ) → Over b b' → Settled b' h memory records fields → Settled b h memory records fields
settled_above b b' h memory records fields o a = record {
  apart = λ k x y p q. a.apart k x y (stands_over b b' h h k x o (λ f n e. e) p) (stands_over b b' h h k y o (λ f n e. e) q);
  within = λ k x p. a.within k x (stands_over b b' h h k x o (λ f n e. e) p);
  kept = λ k i. let z = a.kept k (o.reserved k i) in (z.0, λ x p. z.1 x (stands_over b b' h h k x o (λ f n e. e) p));
  has = a.has;
  count = a.count;
  as_many = a.as_many;
  standard = a.standard;
}

pub over_above : (program : List Coded) (b : Base) (s : State Bodied) (t : Target) → Above program b s t → Over t.base b
over_above program b s t x = record { slots = x.slots; slots_are = x.slots_are; entries = x.entries; entries_are = x.entries_are; frames = x.frames; frames_are = x.frames_are; reserved = x.reserved }

-- everything cut to a block's mark
pub cut_is : (program : List Coded) (b : Base) (h : Heap) (s : State Bodied) (k item kept : ℕ) (held : Content) (t : Target) → Above program b s t → kept ≡ length t.base.entries →
    (cut_to t.base.current kept (Some (machine.declared (length t.base.slots) t.made.depth (length t.base.frames))) >> doing.go_to item) (mach b h s k held) ≡ doing.on tt (mach t.base h (back_to t.made s) item machine.nothing)
cut_is program b h s k item kept held t x q =
    ap (λ l. doing.on tt (record m0 { entries = l; cells = lowest cells (length t.base.slots); frames = lowest b.frames (length t.base.frames) })) (ap (lowest b.entries) q ∙ ap (λ l. lowest l (length t.base.entries)) x.entries_are ∙ lowest_append x.entries t.base.entries)
    ∙ ap (λ l. doing.on tt (record m0 { entries = t.base.entries; cells = l; frames = lowest b.frames (length t.base.frames) })) cells_are
    ∙ ap (λ l. doing.on tt (record m0 { entries = t.base.entries; cells = map (content_of s.memory) t.base.slots; frames = l; display = outwards l t.base.current })) (ap (λ l. lowest l (length t.base.frames)) x.frames_are ∙ lowest_append x.frames t.base.frames)
  where
    cells : List Content
    cells = map (content_of s.memory) b.slots

    m0 : Machine
    m0 = record (mach b h s item machine.nothing) { depth = t.made.depth; current = t.base.current; display = outwards (lowest b.frames (length t.base.frames)) t.base.current }

    cells_are : lowest cells (length t.base.slots) ≡ map (content_of s.memory) t.base.slots
    cells_are = ap (λ l. lowest (map (content_of s.memory) l) (length t.base.slots)) x.slots_are ∙ ap (λ l. lowest l (length t.base.slots)) (map_append (content_of s.memory) x.slots t.base.slots)
        ∙ ap (lowest (map (content_of s.memory) x.slots ++ map (content_of s.memory) t.base.slots)) (sym (length_map (content_of s.memory) t.base.slots)) ∙ lowest_append (map (content_of s.memory) x.slots) (map (content_of s.memory) t.base.slots)

module _ (set : Setting) (program : Code) where
  -- the row of a jump
  jump_row : (w : World) (b : Base) (h : Heap) (s : State Bodied) (c : Context) (k l : ℕ) (held : Content) (name : Stand) → (x : HasLabel w b l name c.level b.current) → Above program.instructions b s x.target → jump_out (links c name) name.position name.target (mach b h s k held) ≡ doing.on tt (mach x.target.base h (back_to x.target.made s) x.target.item machine.nothing)
  jump_row w b h s c k l held name x a =
      ap (λ o. doing.after (there o m0) (λ text. rest text)) x.text_is
      ∙ ap (λ o. doing.after (there (start_at b.frames o) m0) (λ start. behind x.target.base.current start)) x.text_is
      ∙ ap (λ o. doing.after (there o m0) (λ start. behind x.target.base.current start)) x.starts
      ∙ ap (λ o. doing.after (there (entry_on b.entries (start_at b.frames o) name.position) m0) (last x.target.base.current x.start)) x.text_is
      ∙ ap (λ o. doing.after (there (entry_on b.entries o name.position) m0) (last x.target.base.current x.start)) x.starts
      ∙ ap (λ o. doing.after (there o m0) (last x.target.base.current x.start)) x.mark
      ∙ cut_is program.instructions b h s k name.target (x.start + name.position + 1) held x.target a x.cut
      ∙ ap (λ n. doing.on tt (mach x.target.base h (back_to x.target.made s) n machine.nothing)) x.item
    where
      m0 : Machine
      m0 = mach b h s k held

      last : Option ℕ → ℕ → Entry → doing.Row (Unit {0})
      last text start e = cut_to text (start + name.position + 1) (Some e) >> doing.go_to name.target

      behind : Option ℕ → ℕ → doing.Row (Unit {0})
      behind text start = doing.entry_out (links c name) name.position >>= last text start

      rest : Option ℕ → doing.Row (Unit {0})
      rest text = doing.start_out (links c name) >>= behind text

  module _ (later : Job → M Bodied state.Given) where
    -- a jump leads to the label's item
    jumps_to : (at st : Place) (w : World) (b : Base) (h : Heap) (s : State Bodied) (c : Context) (e : Env) (k kn l : ℕ) (held : Content) (name : Stand) → HasLabel w b l name c.level b.current → slice_get program.instructions k ≡ Some (record { at = st; does = instr.Goto (links c name) name.position name.target }) → At program.instructions w b h s c e →
        Follows set program (Gives b s.active kn) w.targets h s (mach b h s k held) (after (state.begin set (Some st) s) (λ z s1. jump l s1))
    jumps_to at st w b h s c e k kn l held name x i a =
        let s0 = begun_state (Some st) s in
        let R = Gives b s.active kn in
        follows_assoc set program R w.targets h s (mach b h s k held) (state.tick set st s) (λ z. state.note_begun st) (λ z s1. jump l s1)
        (tick_then set program R w.targets b h s k held (mach b h s k held) (record { at = st; does = instr.Goto (links c name) name.position name.target }) (doing.note_begun st >> jump_out (links c name) name.position name.target) (λ z s1. after (state.note_begun st s1) (λ y s2. jump l s2)) i (shape (doing.tick set (mach b h s k held)) (jump_out (links c name) name.position name.target)) a.agrees.listed a.agrees.settled
        (λ d. (record {
          target = x.target;
          has = x.has;
          number = x.number;
          heap = h;
          comes = one_row set program (mach b h s k held) (mach x.target.base h (back_to x.target.made s0) x.target.item machine.nothing) (record { at = st; does = instr.Goto (links c name) name.position name.target }) i (d ∙ jump_row w b h s0 c k l held name x (aboves s0));
          settled = settled_above x.target.base b h s.memory s.records s.fields (over_above program.instructions b s x.target (a.agrees.above x.target x.has)) a.agrees.settled;
          grew = grew_to h (ticked s) s0 refl refl refl refl (λ d. d);
        })))
      where
        shape : (n : Next (Unit {0})) (f : doing.Row (Unit {0})) → doing.after (doing.after n (λ z. doing.note_begun st)) (λ z. f) ≡ doing.after n (λ z. doing.note_begun st >> f)
        shape (doing.on y n) f = refl
        shape (doing.ended n) f = refl
        shape (doing.halted y n) f = refl

        aboves : (s0 : State Bodied) → Above program.instructions b (begun_state (Some st) s) x.target
        aboves s0 = let y = a.agrees.above x.target x.has in record { slots = y.slots; slots_are = y.slots_are; entries = y.entries; entries_are = y.entries_are; frames = y.frames; frames_are = y.frames_are; reserved = y.reserved; number = y.number }

    goto_by_kind : (at st : Place) (w : World) (b : Base) (h : Heap) (s : State Bodied) (c : Context) (e : Env) (k kn : ℕ) (held : Content) (ot : Option Thing) (os : Option Stand) → Found program.instructions w b s.arrays c.level b.current ot os → HasAt program.instructions k (goto_code c st os) → At program.instructions w b h s c e →
        Follows set program (Gives b s.active kn) w.targets h s (mach b h s k held) (after (state.begin set (Some st) s) (λ z. went set later st ot))
    goto_by_kind at st w b h s c e k kn held None None f code a = begin_then set program (Gives b s.active kn) w.targets (Some st) w b h s k held (one st instr.Stuck) (λ z. went set later st None) code a.agrees (λ has. tt)
    goto_by_kind at st w b h s c e k kn held None (Some name) f code a = absurd f
    goto_by_kind at st w b h s c e k kn held (Some t) None f code a = absurd f
    goto_by_kind at st w b h s c e k kn held (Some (to_label l)) (Some name) f code a =
        jumps_to at st w b h s c e k kn l held name f.1 (subst (λ κ. HasAt program.instructions k (goto_by c st κ name)) f.0 code).0 a
    goto_by_kind at st w b h s c e k kn held (Some (to_constant v)) (Some name) f code a = begin_then set program (Gives b s.active kn) w.targets (Some st) w b h s k held (one st instr.Stuck) (λ z. went set later st (Some (to_constant v))) (subst (λ κ. HasAt program.instructions k (goto_by c st κ name)) f.0 code) a.agrees (λ has. tt)
    goto_by_kind at st w b h s c e k kn held (Some (to_variable v)) (Some name) f code a = begin_then set program (Gives b s.active kn) w.targets (Some st) w b h s k held (one st instr.Stuck) (λ z. went set later st (Some (to_variable v))) (subst (λ κ. HasAt program.instructions k (goto_by c st κ name)) f.0 code) a.agrees (λ has. tt)
    goto_by_kind at st w b h s c e k kn held (Some (to_array v given)) (Some name) f code a = begin_then set program (Gives b s.active kn) w.targets (Some st) w b h s k held (one st instr.Stuck) (λ z. went set later st (Some (to_array v given))) (subst (λ κ. HasAt program.instructions k (goto_by c st κ name)) f.0 code) a.agrees (λ has. tt)
    goto_by_kind at st w b h s c e k kn held (Some (to_procedure v)) (Some name) (inl f) code a = begin_then set program (Gives b s.active kn) w.targets (Some st) w b h s k held (one st instr.Stuck) (λ z. went set later st (Some (to_procedure v))) (subst (λ κ. HasAt program.instructions k (goto_by c st κ name)) f.kind code) a.agrees (λ has. tt)
    goto_by_kind at st w b h s c e k kn held (Some (to_procedure v)) (Some name) (inr f) code a = begin_then set program (Gives b s.active kn) w.targets (Some st) w b h s k held (one st instr.Stuck) (λ z. went set later st (Some (to_procedure v))) (subst (λ κ. HasAt program.instructions k (goto_by c st κ name)) f.kind code) a.agrees (λ has. tt)
    goto_by_kind at st w b h s c e k kn held (Some (thunk m p env)) (Some name) f code a = either f.0
      where
        either : ((name.kind ≡ a_name_formal) ⊎ (name.kind ≡ a_procedure_formal)) → Follows set program (Gives b s.active kn) w.targets h s (mach b h s k held) (after (state.begin set (Some st) s) (λ z. went set later st (Some (thunk m p env))))
        either (inl q) = begin_then set program (Gives b s.active kn) w.targets (Some st) w b h s k held (one st instr.Stuck) (λ z. went set later st (Some (thunk m p env))) (subst (λ κ. HasAt program.instructions k (goto_by c st κ name)) q code) a.agrees (λ has. tt)
        either (inr q) = begin_then set program (Gives b s.active kn) w.targets (Some st) w b h s k held (one st instr.Stuck) (λ z. went set later st (Some (thunk m p env))) (subst (λ κ. HasAt program.instructions k (goto_by c st κ name)) q code) a.agrees (λ has. tt)

    pub goto_follows : (st : Place) (x : Place) → PhraseFollows set program later (Goto st (Named x))
    goto_follows st x = record { by = λ u at w b h s c e mode k held code wanted a ft. goto_by_kind at st w b h s c e k (k + size (known c) (Goto st (Named x))) held (find e x) (stand_at c.names x) (found program.instructions w b s.arrays c.level b.current e c.names x a.shows) code a }
