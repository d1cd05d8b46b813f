-- Names that stand alone.
use Rattle.std.proofs.Common.{◌≡◌, ℕ, ◌+◌, ◌<◌, ◌⊎◌, inl, inr, List, [], ◌∷◌, map, Option, Some, None, refl, sym, ap, ◌∙◌, subst, arith}
use Rattle.std.specs.Prelude.{Bool, true, false}
use Rattle.value_ops.specs.declared.places.Place.{Place}
use Rattle.algolw_typing.specs.Types.{is_place}
use Rattle.program_meaning.specs.Phrases.{Named, Variable}
use Rattle.program_meaning.specs.State as state
use Rattle.program_meaning.specs.State.{State, Setting, Outcome, on, jump, stop, M, Use, for_value, for_place, ArrayInfo, after}
use Rattle.program_meaning.specs.Environments.{Env, empty, bind, find, Thing, to_constant, to_variable, to_array, to_label, to_procedure, thunk, Bodied, Job, named}
use Rattle.stack_code.specs.Instr as instr
use Rattle.stack_code.specs.Instr.{Instr, Mode, the_value, the_place, as_asked}
use Rattle.stack_code.specs.Code.{Code, Coded}
use Rattle.stack_code.specs.Machine as machine
use Rattle.stack_code.specs.Machine.{Machine, Content, Entry, Frame, Thunk, on_top_of, in_cell, in_field}
use Rattle.stack_code.specs.Doing as doing
use Rattle.stack_code.specs.Doing.{there, cell_of, entry_on, go_on}
use Rattle.stack_code.specs.Table.{does}
use Rattle.phrase_code.specs.Sizes.{a_name_formal, a_procedure_formal, named_size}
use Rattle.phrase_code.specs.Coding.{Stand, Context, code, one, ◌▸◌, links, stand_at, kind_of_stand, named_by, named_code}
use Rattle.code_simulation.specs.Relation.{HasAt, Slot, fixed, Base, Heap, mach, World, HasEntry, Shows, Means, At, Wanted, asked, asked_in, content_of}
use Rattle.code_simulation.specs.Following.{Follows, Gives, PhraseFollows, LaterFollows}
use Rattle.code_simulation.proofs.Stacks.{top_map}
use Rattle.code_simulation.proofs.Rows.{one_row}
use Rattle.code_simulation.proofs.Sizes.{kind_found}
use Rattle.code_simulation.proofs.Values.{gives_value}
use Rattle.code_simulation.proofs.Making.{variable_follows}
use Rattle.code_simulation.proofs.Operators.{ends_at}
use Rattle.code_simulation.proofs.Copied.{copied_follows}
use Rattle.code_simulation.specs.Room.{Fits}

-- ---- what a name means, and where it stands

abbrev pub Found : List Coded → World → Base → List (Option ArrayInfo) → (level : ℕ) → (text : Option ℕ) → Option Thing → Option Stand → Type 0
Found program w b arrays level text None None = Unit {0}
Found program w b arrays level text (Some t) (Some name) = Means program w b arrays t name level text
Found program w b arrays level text t name = ⊥

pub found : (program : List Coded) (w : World) (b : Base) (arrays : List (Option ArrayInfo)) (level : ℕ) (text : Option ℕ) (e : Env) (names : List Stand) (x : Place) → Shows program w b arrays e names level text → Found program w b arrays level text (find e x) (stand_at names x)
found program w b arrays level text empty [] x h = tt
found program w b arrays level text empty (name ∷ names) x h = absurd h
found program w b arrays level text (bind y t e) [] x h = absurd h
found program w b arrays level text (bind y t e) (name ∷ names) x h = subst (λ z. Found program w b arrays level text (elim (is_place y x) [ true ↦ Some t | false ↦ find e x ]) (elim (is_place z x) [ true ↦ Some name | false ↦ stand_at names x ])) (sym h.0) (by (is_place y x) (found program w b arrays level text e names x h.2))
  where
    by : (q : Bool) → Found program w b arrays level text (find e x) (stand_at names x) → Found program w b arrays level text (elim q [ true ↦ Some t | false ↦ find e x ]) (elim q [ true ↦ Some name | false ↦ stand_at names x ])
    by true g = h.1
    by false g = g

-- ---- rows that look for a name

-- what a variable is wanted for
frame_wanted : (m : Machine) (o : Option Frame) (u : Use) → asked o ≡ Some u → doing.after (there o m) (λ f. doing.give f.purpose) ≡ doing.on u m
frame_wanted m None u e = absurd (cc)
frame_wanted m (Some f) u e = let q : f.purpose ≡ u = cc in ap (λ z. doing.on z m) q

current_wanted : (m : Machine) (o : Option ℕ) (u : Use) → asked_in m.frames o ≡ Some u → doing.after (there (doing.frame_at m.frames o) m) (λ f. doing.give f.purpose) ≡ doing.on u m
current_wanted m None u e = absurd (cc)
current_wanted m (Some j) u e = frame_wanted m (on_top_of m.frames j) u e

pub wanted_is : (mode : Mode) (u : Use) (b : Base) (h : Heap) (s : State Bodied) (k : ℕ) (held : Content) → Wanted b mode u → doing.wanted_for mode (mach b h s k held) ≡ doing.on u (mach b h s k held)
wanted_is the_value u b h s k held e = ap (λ z. doing.on z (mach b h s k held)) (sym e)
wanted_is the_place u b h s k held e = ap (λ z. doing.on z (mach b h s k held)) (sym e)
wanted_is as_asked u b h s k held e = current_wanted (mach b h s k held) b.current u e

module _ (b : Base) (h : Heap) (s : State Bodied) (k : ℕ) (held : Content) (c : Context) (name : Stand) (slot : Slot) (x : HasEntry b name c.level b.current slot) where
  pub entry_is : doing.entry_from b.frames b.entries (doing.outwards b.frames b.current) (links c name) name.position ≡ Some x.entry
  entry_is = ap (λ o. entry_on b.entries o name.position) x.starts ∙ x.stands

  pub cell_is : doing.cell_out (links c name) name.position (mach b h s k held) ≡ doing.on x.cell (mach b h s k held)
  cell_is = ap (λ o. there (cell_of (entry_on b.entries o name.position)) (mach b h s k held)) x.starts ∙ ap (λ e. there (cell_of e) (mach b h s k held)) x.stands ∙ ap (λ o. there o (mach b h s k held)) x.is

  pub cell_content : doing.cell_at x.cell (mach b h s k held) ≡ doing.on (content_of s.memory slot) (mach b h s k held)
  cell_content = ap (λ o. there o (mach b h s k held)) (top_map (content_of s.memory) b.slots x.cell slot x.holds)

  pub content_is : doing.content_out (links c name) name.position (mach b h s k held) ≡ doing.on (content_of s.memory slot) (mach b h s k held)
  content_is = ap (λ o. there o (mach b h s k held)) (ap (λ o. doing.content_on (map (content_of s.memory) b.slots) (cell_of (entry_on b.entries o name.position))) x.starts ∙ ap (λ e. doing.content_on (map (content_of s.memory) b.slots) (cell_of e)) x.stands ∙ ap (doing.content_on (map (content_of s.memory) b.slots)) x.is ∙ top_map (content_of s.memory) b.slots x.cell slot x.holds)

module _ (set : Setting) (program : Code) where
  variable_row : (mode : Mode) (u : Use) (at : Place) (b : Base) (h : Heap) (s : State Bodied) (k : ℕ) (held : Content) (c : Context) (name : Stand) (slot : Slot) (x : HasEntry b name c.level b.current slot) → Wanted b mode u → does set program at (instr.Variable mode (links c name) name.position) (mach b h s k held) ≡ doing.after (doing.variable u (in_cell x.cell) (mach b h s k held)) (λ z. go_on)
  variable_row mode u at b h s k held c name slot x wanted =
      ap (λ r. doing.after r (λ purpose. doing.◌>>=◌ (doing.cell_out (links c name) name.position) (λ n. doing.◌>>◌ (doing.variable purpose (in_cell n)) go_on))) (wanted_is mode u b h s k held wanted)
      ∙ ap (λ r. doing.after r (λ n. doing.◌>>◌ (doing.variable u (in_cell n)) go_on)) (cell_is b h s k held c name slot x)

  standard_row : (mode : Mode) (u : Use) (at : Place) (b : Base) (h : Heap) (s : State Bodied) (k n : ℕ) (held : Content) → Wanted b mode u → does set program at (instr.Standard mode n) (mach b h s k held) ≡ doing.after (doing.variable u (in_field n) (mach b h s k held)) (λ z. go_on)
  standard_row mode u at b h s k n held wanted = ap (λ r. doing.after r (λ purpose. doing.◌>>◌ (doing.variable purpose (in_field n)) go_on)) (wanted_is mode u b h s k held wanted)

  formal_row : (mode : Mode) (u : Use) (at : Place) (b : Base) (h : Heap) (s : State Bodied) (k : ℕ) (held : Content) (c : Context) (name : Stand) (t : Thunk) (x : HasEntry b name c.level b.current (fixed (machine.a_thunk t))) → Wanted b mode u → does set program at (instr.UseFormal mode (links c name) name.position) (mach b h s k held) ≡ Rattle.stack_code.specs.Table.use_thunk set program.marks (k + 1) u t (mach b h s k held)
  formal_row mode u at b h s k held c name t x wanted =
      ap (λ r. doing.after r (λ purpose. doing.◌>>=◌ (doing.◌>>=◌ (doing.content_out (links c name) name.position) doing.thunk_in) (λ t. doing.◌>>=◌ doing.here (λ n. Rattle.stack_code.specs.Table.use_thunk set program.marks (n + 1) purpose t)))) (wanted_is mode u b h s k held wanted)
      ∙ ap (λ r. doing.after (doing.after r doing.thunk_in) (λ t. doing.◌>>=◌ doing.here (λ n. Rattle.stack_code.specs.Table.use_thunk set program.marks (n + 1) u t))) (content_is b h s k held c name (fixed (machine.a_thunk t)) x)

  module _ (later : Job → M Bodied state.Given) (hl : LaterFollows set program later) where
    named_by_kind : (u : Use) (at : Place) (w : World) (b : Base) (h : Heap) (s : State Bodied) (c : Context) (e : Env) (mode : Mode) (k : ℕ) (held : Content) (ot : Option Thing) (os : Option Stand) → Found program.instructions w b s.arrays c.level b.current ot os → HasAt program.instructions k (named_code c at mode os) → Wanted b mode u → At program.instructions w b h s c e → Fits program.marks w b 0 →
        Follows set program (Gives b s.active (k + named_size (kind_of_stand os))) w.targets h s (mach b h s k held) (named set later u at ot s)
    named_by_kind u at w b h s c e mode k held None os f code wanted l ft = tt
    named_by_kind u at w b h s c e mode k held (Some t) None f code wanted l ft = absurd f
    named_by_kind for_place at w b h s c e mode k held (Some (to_constant v)) (Some name) f code wanted l ft = tt
    named_by_kind for_value at w b h s c e mode k held (Some (to_constant v)) (Some name) f code wanted l ft =
        let has = subst (λ κ. HasAt program.instructions k (named_by c at mode κ name)) f.0 code in
        ends_at set program b s.active (k + 1) _ w.targets h s (mach b h s k held) (on (state.a_value v) s) (ap (λ κ. k + named_size (Some κ)) (sym f.0))
        (gives_value set program b s.active (k + 1) w.targets h s (mach b h s k held) v
        (one_row set program (mach b h s k held) (mach b h s (k + 1) (machine.a_value v)) _ has.0 (variable_row mode for_value at b h s k held c name _ f.1 wanted
        ∙ ap (λ r. doing.after (doing.after (doing.after r doing.value_of_cell) (λ y. doing.hold (machine.a_value y))) (λ z. go_on)) (cell_content b h s k held c name _ f.1))) l.agrees.settled l.agrees.cells refl)
    named_by_kind u at w b h s c e mode k held (Some (to_variable n)) (Some name) f code wanted l ft =
        let has = subst (λ κ. HasAt program.instructions k (named_by c at mode κ name)) f.0 code in
        let x = f.1 in
        ends_at set program b s.active (k + 1) _ w.targets h s (mach b h s k held) (state.variable u at n s) (ap (λ κ. k + named_size (Some κ)) (sym f.0))
        (variable_follows set program u b h s k n held (mach b h s k held) _ w.targets w (in_cell x.cell) has.0 (variable_row mode u at b h s k held c name _ f.1 wanted) l.agrees x.holds)
    named_by_kind u at w b h s c e mode k held (Some (to_array n given)) (Some name) f code wanted l ft = tt
    named_by_kind u at w b h s c e mode k held (Some (to_label n)) (Some name) f code wanted l ft = tt
    named_by_kind u at w b h s c e mode k held (Some (to_procedure n)) (Some name) f code wanted l ft = tt
    named_by_kind u at w b h s c e mode k held (Some (thunk m a env)) (Some name) f code wanted l ft = either f.0
      where
        formal : HasAt program.instructions k (one at (instr.UseFormal mode (links c name) name.position) ▸ one at instr.End) → Follows set program (Gives b s.active (k + 1 + 1)) w.targets h s (mach b h s k held) (named set later u at (Some (thunk m a env)) s)
        formal has = copied_follows set program later hl u w b h s k held (mach b h s k held) (record { at = at; does = instr.UseFormal mode (links c name) name.position }) (k + 1) f.1 m a f.3 env l.agrees f.4 f.5 f.6 f.7 ft has.0 (formal_row mode u at b h s k held c name f.1 f.2 wanted) has.1.0

        either : ((name.kind ≡ a_name_formal) ⊎ (name.kind ≡ a_procedure_formal)) → Follows set program (Gives b s.active (k + named_size (Some name.kind))) w.targets h s (mach b h s k held) (named set later u at (Some (thunk m a env)) s)
        either (inl q) = ends_at set program b s.active (k + 1 + 1) (k + named_size (Some name.kind)) w.targets h s (mach b h s k held) (named set later u at (Some (thunk m a env)) s) (let y = ap (λ κ. k + named_size (Some κ)) q in omega (arith, y)) (formal (subst (λ κ. HasAt program.instructions k (named_by c at mode κ name)) q code))
        either (inr q) = ends_at set program b s.active (k + 1 + 1) (k + named_size (Some name.kind)) w.targets h s (mach b h s k held) (named set later u at (Some (thunk m a env)) s) (let y = ap (λ κ. k + named_size (Some κ)) q in omega (arith, y)) (formal (subst (λ κ. HasAt program.instructions k (named_by c at mode κ name)) q code))

    pub named_follows : (x : Place) → PhraseFollows set program later (Named x)
    named_follows x = record {
      by = λ u at w b h s c e mode k held code wanted l ft. ends_at set program b s.active _ _ w.targets h s (mach b h s k held) (named set later u at (find e x) s) (ap (λ κ. k + named_size κ) (sym (kind_found c.names x)))
          (named_by_kind u at w b h s c e mode k held (find e x) (stand_at c.names x) (found program.instructions w b s.arrays c.level b.current e c.names x l.shows) code wanted l ft);
    }

    -- a standard variable
    pub standard_follows : (n : ℕ) → n < 2 → PhraseFollows set program later (Variable n)
    standard_follows n q = record {
      by = λ u at w b h s c e mode k held code wanted l ft. variable_follows set program u b h s k n held (mach b h s k held) (record { at = at; does = instr.Standard mode n }) w.targets w (in_field n) code.0 (standard_row mode u at b h s k n held wanted) l.agrees (l.agrees.settled.standard n q);
    }
