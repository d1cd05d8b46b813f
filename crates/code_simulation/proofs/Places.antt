-- Classes, fields, and parts of strings.
use Rattle.std.proofs.Common.{◌≡◌, ℕ, ◌+◌, ℤ, pos, negsuc, List, [], ◌∷◌, Option, Some, None, refl, ap, ◌∙◌, arith, ltb-true}
use Rattle.std.specs.Prelude.{slice_get, nat_lt, nat_le, min, Bool, true, false, Result, Ok, Err}
use Rattle.value_ops.specs.declared.places.Place.{Place}
use Rattle.value_ops.specs.declared.faults.Fault.{Fault}
use Rattle.value_ops.specs.declared.faults.Fault.TheVariants as fault
use Rattle.value_ops.specs.declared.values.RecordId.{RecordId}
use Rattle.value_ops.specs.declared.values.Value.{Value}
use Rattle.value_ops.specs.declared.values.Value.TheVariants as value
use Rattle.value_ops.specs.Strings.{part}
use Rattle.algolw_typing.specs.Types.{has}
use Rattle.program_meaning.specs.Phrases.{Phrase, IsClass, Field, Part}
use Rattle.program_meaning.specs.State as state
use Rattle.program_meaning.specs.State.{State, Setting, Outcome, on, jump, stop, M, Use, for_value, for_place, RecordInfo, after, value_in, record_in, string_in, is_place_of}
use Rattle.program_meaning.specs.Environments.{Env, Bodied, Job, go}
use Rattle.stack_code.specs.Instr as instr
use Rattle.stack_code.specs.Instr.{Instr, Mode, the_value, the_place, as_asked}
use Rattle.stack_code.specs.Code.{Code, Coded}
use Rattle.stack_code.specs.Machine as machine
use Rattle.stack_code.specs.Machine.{Machine, Content, RecordMade, Where, in_cell, in_field, on_top_of}
use Rattle.stack_code.specs.Doing as doing
use Rattle.stack_code.specs.Doing.{Next, Row, go_on, there, is_of, ◌>>=◌, ◌>>◌}
use Rattle.stack_code.specs.Table.{does}
use Rattle.phrase_code.specs.Sizes.{size}
use Rattle.phrase_code.specs.Coding.{Context, known, code}
use Rattle.code_simulation.specs.Relation.{HasAt, Base, Heap, mach, World, Target, HeldSpot, HasRecord, Settled, Agrees, At, Wanted}
use Rattle.code_simulation.specs.Following.{already, Follows, Gives, Reached, PhraseFollows, CodeDoes}
use Rattle.code_simulation.proofs.Stacks.{has_front}
use Rattle.code_simulation.proofs.Rows.{one_row, follows_then, follows_on}
use Rattle.code_simulation.proofs.Keeping.{pushed, with_cells, at_pushed}
use Rattle.code_simulation.proofs.Values.{Topped, follows_at, value_follows, spot_follows, Placed, gives_value, holding_follows, fault_here}
use Rattle.code_simulation.proofs.Making.{variable_follows}
use Rattle.code_simulation.proofs.Operators.{behind, at_reached, at_topped, ends_at, gives_as, value_by}
use Rattle.code_simulation.proofs.Choices.{integer_by, code_at}
use Rattle.code_simulation.proofs.Names.{wanted_is}
use Rattle.phrase_code.specs.Marks.{marks}
use Rattle.code_simulation.specs.Room.{Fits}
use Rattle.code_simulation.proofs.Room.{fits_left, fits_right, fits_pushed}

-- a place stays, on a heap that only grew
pub spot_on : (b : Base) (h h' : Heap) (k : state.Spot) (y : machine.Spot) → ((f n : ℕ) → on_top_of h.fields f ≡ Some n → on_top_of h'.fields f ≡ Some n) → HeldSpot b h k y → HeldSpot b h' k y
spot_on b h h' (state.whole n) (machine.whole (in_cell i)) f q = q
spot_on b h h' (state.whole n) (machine.whole (in_field i)) f q = f i n q
spot_on b h h' (state.within n i j y) (machine.within (in_cell o) i' j' y') f q = q
spot_on b h h' (state.within n i j y) (machine.within (in_field o) i' j' y') f q = (f o n q.0, q.1, q.2, q.3)
spot_on b h h' (state.whole n) (machine.within o i' j' y') f q = absurd q
spot_on b h h' (state.within n i j y) (machine.whole o) f q = absurd q

module _ (set : Setting) (program : Code) where
  -- a record that is looked up
  pub record_then : {A : Type 0} (R : A → Heap → State Bodied → Machine → Type 0) (ts : List Target) (b : Base) (h : Heap) (s : State Bodied) (k : ℕ) (held : Content) (m : Machine) (c : Coded) (K : RecordMade → Row (Unit {0})) (f : RecordInfo → M Bodied A) (r : RecordId) → does set program c.at c.does m ≡ doing.after (doing.the_record r (mach b h s k held)) K → Settled b h s.memory s.records s.fields →
      ((info : RecordInfo) (x : HasRecord h r.0 info) → does set program c.at c.does m ≡ K x.there (mach b h s k held) → Follows set program R ts h s m (f info s)) → Follows set program R ts h s m (after (state.the_record c.at r s) f)
  record_then R ts b h s k held m c K f r d st g = by (slice_get s.records r.0) (st.has r.0)
    where
      by : (o : Option RecordInfo) → ((info : RecordInfo) → o ≡ Some info → HasRecord h r.0 info) → Follows set program R ts h s m (after (state.record_at c.at o s) f)
      by None x = tt
      by (Some info) x = let y = x info refl in g info y (d ∙ ap (λ o. doing.after (there o (mach b h s k held)) K) y.is)

  reference_follows : (b : Base) (active : List state.Entry) (next : ℕ) (ts : List Target) (h : Heap) (s : State Bodied) (m : Machine) (w : Place) (r : Outcome Bodied Value) → Follows set program (λ v. Reached b active next (machine.a_value v)) ts h s m r → Follows set program (λ x. Reached b active next (machine.a_value (value.Reference x))) ts h s m (after r (record_in w))
  reference_follows b active next ts h s m w r f = follows_then set program (λ v. Reached b active next (machine.a_value v)) (λ x. Reached b active next (machine.a_value (value.Reference x))) ts h s m r (record_in w) f (λ v h' s' m' q g. by v h' s' m' q)
    where
      by : (v : Value) (h' : Heap) (s' : State Bodied) (m' : Machine) → Reached b active next (machine.a_value v) h' s' m' → Follows set program (λ x. Reached b active next (machine.a_value (value.Reference x))) ts h' s' m' (record_in w v s')
      by (value.Reference x) h' s' m' q = follows_on set program (λ x. Reached b active next (machine.a_value (value.Reference x))) ts h' s' m' m' x already q
      by _ h' s' m' q = tt

  string_follows : (b : Base) (active : List state.Entry) (next : ℕ) (ts : List Target) (h : Heap) (s : State Bodied) (m : Machine) (w : Place) (r : Outcome Bodied Value) → Follows set program (λ v. Reached b active next (machine.a_value v)) ts h s m r → Follows set program (λ x. Reached b active next (machine.a_value (value.Str x))) ts h s m (after r (string_in w))
  string_follows b active next ts h s m w r f = follows_then set program (λ v. Reached b active next (machine.a_value v)) (λ x. Reached b active next (machine.a_value (value.Str x))) ts h s m r (string_in w) f (λ v h' s' m' q g. by v h' s' m' q)
    where
      by : (v : Value) (h' : Heap) (s' : State Bodied) (m' : Machine) → Reached b active next (machine.a_value v) h' s' m' → Follows set program (λ x. Reached b active next (machine.a_value (value.Str x))) ts h' s' m' (string_in w v s')
      by (value.Str x) h' s' m' q = follows_on set program (λ x. Reached b active next (machine.a_value (value.Str x))) ts h' s' m' m' x already q
      by _ h' s' m' q = tt

  shape : {A B C : Type 0} (n : Next A) (f : A → Row B) (g : B → Row C) → doing.after (doing.after n f) g ≡ doing.after n (λ a m. doing.after (f a m) g)
  shape (doing.on a m) f g = refl
  shape (doing.ended m) f g = refl
  shape (doing.halted y m) f g = refl

  module _ (later : Job → M Bodied state.Given) where
    reference_by : (a : Phrase) → PhraseFollows set program later a → (at : Place) (w : World) (b : Base) (h : Heap) (s : State Bodied) (c : Context) (e : Env) (k : ℕ) (held : Content) → HasAt program.instructions k (code c at the_value k a) → At program.instructions w b h s c e → Fits program.marks w b (marks a) → Follows set program (λ x. Reached b s.active (k + size (known c) a) (machine.a_value (value.Reference x))) w.targets h s (mach b h s k held) (after (state.value_of at (go set later a for_value at e) s) (record_in at))
    reference_by a p at w b h s c e k held code l ft = reference_follows b s.active (k + size (known c) a) w.targets h s (mach b h s k held) at (state.value_of at (go set later a for_value at e) s) (value_by set program later a p at w b h s c e k held code l ft)

    -- ---- IS

    pub is_class_follows : (a : Phrase) (class : Place) → PhraseFollows set program later a → PhraseFollows set program later (IsClass a class)
    is_class_follows a class p = record { by = by }
      where
        row : (at : Place) (w : World) (b : Base) (h : Heap) (s : State Bodied) (k : ℕ) (r : Option RecordId) → slice_get program.instructions k ≡ Some (record { at = at; does = instr.IsClass class }) → Agrees program.instructions w b h s → Follows set program (Gives b s.active (k + 1)) w.targets h s (mach b h s k (machine.a_value (value.Reference r))) (state.is_of_class at class r s)
        row at w b h s k None i a1 = gives_value set program b s.active (k + 1) w.targets h s (mach b h s k (machine.a_value (value.Reference None))) (value.Logical false) (one_row set program (mach b h s k (machine.a_value (value.Reference None))) (mach b h s (k + 1) (machine.a_value (value.Logical false))) _ i refl) a1.settled a1.cells refl
        row at w b h s k (Some r) i a1 =
            let x = machine.a_value (value.Reference (Some r)) in
            record_then (Gives b s.active (k + 1)) w.targets b h s k x (mach b h s k x) (record { at = at; does = instr.IsClass class }) (λ info. doing.hold (machine.a_value (value.Logical (is_of class info))) >> go_on) (λ info. state.give (state.a_value (value.Logical (is_place_of class info)))) r
            (shape (doing.the_record r (mach b h s k x)) (λ info. doing.hold (machine.a_value (value.Logical (is_of class info)))) (λ z. go_on)) a1.settled
            (λ info y d. gives_value set program b s.active (k + 1) w.targets h s (mach b h s k x) (value.Logical (is_place_of class info))
            (one_row set program (mach b h s k x) (mach b h s (k + 1) (machine.a_value (value.Logical (is_place_of class info)))) _ i (d ∙ ap (λ q. doing.on tt (mach b h s (k + 1) (machine.a_value (value.Logical (has (class ∷ []) q.place))))) y.class)) a1.settled a1.cells refl)

        by : (u : Use) (at : Place) → CodeDoes set program u at (IsClass a class) (go set later (IsClass a class) u at)
        by for_place at w b h s c e mode k held code wanted l ft = tt
        by for_value at w b h s c e mode k held code wanted l ft =
            let k1 = k + size (known c) a in
            ends_at set program b s.active (k1 + 1) (k + (size (known c) a + 1)) w.targets h s (mach b h s k held) (go set later (IsClass a class) for_value at e s) (omega arith)
            (follows_then set program (λ x. Reached b s.active k1 (machine.a_value (value.Reference x))) (Gives b s.active (k1 + 1)) w.targets h s (mach b h s k held) (after (state.value_of at (go set later a for_value at e) s) (record_in at)) (state.is_of_class at class)
            (reference_by a p at w b h s c e k held (has_front program.instructions k _ _ code) l ft)
            (λ r h1 s1 m1 q g. let l1 = at_reached set program w b h s c e k1 (machine.a_value (value.Reference r)) h1 s1 m1 l g q in
            follows_at set program (Gives b s.active (k1 + 1)) w.targets h1 s1 m1 (mach b h1 s1 k1 (machine.a_value (value.Reference r))) (state.is_of_class at class r s1) q.is
            (gives_as set program b s1.active s.active (k1 + 1) w.targets h1 s1 (mach b h1 s1 k1 (machine.a_value (value.Reference r))) (state.is_of_class at class r s1) q.listed
            (row at w b h1 s1 k1 r (behind program.instructions c at the_value k a _ code).0 l1.agrees))))

    -- ---- fields

    pub field_follows : (class : Place) (position : ℕ) (a : Phrase) → PhraseFollows set program later a → PhraseFollows set program later (Field class position a)
    field_follows class position a p = record { by = by }
      where
        row : (u : Use) (mode : Mode) (at : Place) (w : World) (b : Base) (h : Heap) (s : State Bodied) (k : ℕ) (r : Option RecordId) → slice_get program.instructions k ≡ Some (record { at = at; does = instr.Field mode class position }) → Wanted b mode u → Agrees program.instructions w b h s → Follows set program (Gives b s.active (k + 1)) w.targets h s (mach b h s k (machine.a_value (value.Reference r))) (state.field_of u at class position r s)
        row u mode at w b h s k r i wanted a1 = of r (ap (λ z. doing.after z (λ purpose. (((Rattle.stack_code.specs.Table.value_held >>= doing.record_of) >>= doing.field_of purpose class position) >> go_on))) (wanted_is mode u b h s k (machine.a_value (value.Reference r)) wanted))
          where
            of : (q : Option RecordId) → does set program at (instr.Field mode class position) (mach b h s k (machine.a_value (value.Reference q))) ≡ (doing.field_of u class position q >> go_on) (mach b h s k (machine.a_value (value.Reference q))) → Follows set program (Gives b s.active (k + 1)) w.targets h s (mach b h s k (machine.a_value (value.Reference q))) (state.field_of u at class position q s)
            of None d = fault_here set program (Gives b s.active (k + 1)) w.targets h s (mach b h s k (machine.a_value (value.Reference None))) (record { at = at; does = instr.Field mode class position }) fault.ReferenceNull b k (machine.a_value (value.Reference None)) i d a1.listed a1.settled
            of (Some q) d =
                record_then (Gives b s.active (k + 1)) w.targets b h s k x (mach b h s k x) (record { at = at; does = instr.Field mode class position }) (λ info. doing.test (is_of class info) (doing.field_in u position info) (doing.fault_now fault.WrongRecordClass) >> go_on) (λ info. state.test (is_place_of class info) (state.field_in u at position info) (state.fault_at fault.WrongRecordClass at)) q
                (d ∙ shape (doing.the_record q (mach b h s k x)) (λ info. doing.test (is_of class info) (doing.field_in u position info) (doing.fault_now fault.WrongRecordClass)) (λ z. go_on)) a1.settled
                (λ info y d1. classes info y (is_place_of class info) (d1 ∙ ap (λ z. (doing.test (has (class ∷ []) z.place) (doing.field_in u position y.there) (doing.fault_now fault.WrongRecordClass) >> go_on) (mach b h s k x)) y.class))
              where
                x : Content
                x = machine.a_value (value.Reference (Some q))

                counted : (info : RecordInfo) (y : HasRecord h q.0 info) (t : Bool) → nat_lt position info.count ≡ t → does set program at (instr.Field mode class position) (mach b h s k x) ≡ (doing.test t (doing.variable u (in_field (y.there.first + position))) doing.stuck >> go_on) (mach b h s k x) →
                    Follows set program (Gives b s.active (k + 1)) w.targets h s (mach b h s k x) (state.test t (state.variable u at (info.first + position)) (state.halt state.wrong at) s)
                counted info y true e d2 = variable_follows set program u b h s k (info.first + position) x (mach b h s k x) (record { at = at; does = instr.Field mode class position }) w.targets w (in_field (y.there.first + position)) i d2 a1 (y.fields position (ltb-true position info.count e))
                counted info y false e d2 = tt

                classes : (info : RecordInfo) (y : HasRecord h q.0 info) (t : Bool) → does set program at (instr.Field mode class position) (mach b h s k x) ≡ (doing.test t (doing.field_in u position y.there) (doing.fault_now fault.WrongRecordClass) >> go_on) (mach b h s k x) →
                    Follows set program (Gives b s.active (k + 1)) w.targets h s (mach b h s k x) (state.test t (state.field_in u at position info) (state.fault_at fault.WrongRecordClass at) s)
                classes info y true d2 = counted info y (nat_lt position info.count) refl (d2 ∙ ap (λ z. (doing.test (nat_lt position z) (doing.variable u (in_field (y.there.first + position))) doing.stuck >> go_on) (mach b h s k x)) y.count)
                classes info y false d2 = fault_here set program (Gives b s.active (k + 1)) w.targets h s (mach b h s k x) (record { at = at; does = instr.Field mode class position }) fault.WrongRecordClass b k x i d2 a1.listed a1.settled

        by : (u : Use) (at : Place) → CodeDoes set program u at (Field class position a) (go set later (Field class position a) u at)
        by u at w b h s c e mode k held code wanted l ft =
            let k1 = k + size (known c) a in
            ends_at set program b s.active (k1 + 1) (k + (size (known c) a + 1)) w.targets h s (mach b h s k held) (go set later (Field class position a) u at e s) (omega arith)
            (follows_then set program (λ x. Reached b s.active k1 (machine.a_value (value.Reference x))) (Gives b s.active (k1 + 1)) w.targets h s (mach b h s k held) (after (state.value_of at (go set later a for_value at e) s) (record_in at)) (state.field_of u at class position)
            (reference_by a p at w b h s c e k held (has_front program.instructions k _ _ code) l ft)
            (λ r h1 s1 m1 q g. let l1 = at_reached set program w b h s c e k1 (machine.a_value (value.Reference r)) h1 s1 m1 l g q in
            follows_at set program (Gives b s.active (k1 + 1)) w.targets h1 s1 m1 (mach b h1 s1 k1 (machine.a_value (value.Reference r))) (state.field_of u at class position r s1) q.is
            (gives_as set program b s1.active s.active (k1 + 1) w.targets h1 s1 (mach b h1 s1 k1 (machine.a_value (value.Reference r))) (state.field_of u at class position r s1) q.listed
            (row u mode at w b h1 s1 k1 r (behind program.instructions c at the_value k a _ code).0 wanted l1.agrees))))

    -- ---- parts of strings

    pub part_follows : (m n : ℕ) (a start : Phrase) → PhraseFollows set program later a → PhraseFollows set program later start → PhraseFollows set program later (Part m n a start)
    part_follows m n a start pa ps = record { by = by }
      where
        answers : (at : Place) (w : World) (b : Base) (h : Heap) (s : State Bodied) (k : ℕ) (i : ℤ) (text : List ℕ) (r : Result (List ℕ) Fault) → slice_get program.instructions k ≡ Some (record { at = at; does = instr.Part m n }) → does set program at (instr.Part m n) (mach (pushed (machine.a_value (value.Str text)) b) h s k (machine.a_value (value.Integer i))) ≡ (doing.string_answer r >> go_on) (mach b h s k (machine.a_value (value.Integer i))) → Agrees program.instructions w b h s →
            Follows set program (Gives b s.active (k + 1)) w.targets h s (mach (pushed (machine.a_value (value.Str text)) b) h s k (machine.a_value (value.Integer i))) (state.string_answer at r s)
        answers at w b h s k i text (Ok x) e d a1 = gives_value set program b s.active (k + 1) w.targets h s _ (value.Str x) (one_row set program _ (mach b h s (k + 1) (machine.a_value (value.Str x))) _ e d) a1.settled a1.cells refl
        answers at w b h s k i text (Err f) e d a1 = fault_here set program (Gives b s.active (k + 1)) w.targets h s _ (record { at = at; does = instr.Part m n }) f b k (machine.a_value (value.Integer i)) e d a1.listed a1.settled

        places : (at : Place) (w : World) (b : Base) (h : Heap) (s : State Bodied) (k : ℕ) (i : ℤ) (sp : state.Spot) (y : machine.Spot) → HeldSpot b h sp y → slice_get program.instructions k ≡ Some (record { at = at; does = instr.Part m n }) → Agrees program.instructions w b h s →
            Follows set program (Gives b s.active (k + 1)) w.targets h s (mach (pushed (machine.a_spot y) b) h s k (machine.a_value (value.Integer i))) (state.spot_within at m n sp i s)
        places at w b h s k (negsuc i) (state.whole v) (machine.whole x) hs e a1 = fault_here set program (Gives b s.active (k + 1)) w.targets h s _ (record { at = at; does = instr.Part m n }) fault.PlaceOutsideString b k (machine.a_value (value.Integer (negsuc i))) e refl a1.listed a1.settled
        places at w b h s k (negsuc i) (state.within v l o cnt) (machine.within x l' o' cnt') hs e a1 = fault_here set program (Gives b s.active (k + 1)) w.targets h s _ (record { at = at; does = instr.Part m n }) fault.PlaceOutsideString b k (machine.a_value (value.Integer (negsuc i))) e refl a1.listed a1.settled
        places at w b h s k (pos i) (state.whole v) (machine.whole x) hs e a1 = which (nat_le (i + n) m) refl
          where
            m0 : Machine
            m0 = mach (pushed (machine.a_spot (machine.whole x)) b) h s k (machine.a_value (value.Integer (pos i)))

            row : (t : Bool) → nat_le (i + n) m ≡ t → does set program at (instr.Part m n) m0 ≡ (doing.test t (doing.hold (machine.a_spot (machine.within x m i n))) (doing.fault_now fault.PlaceOutsideString) >> go_on) (mach b h s k (machine.a_value (value.Integer (pos i))))
            row t q = ap (λ z. (doing.test z (doing.hold (machine.a_spot (machine.within x m i n))) (doing.fault_now fault.PlaceOutsideString) >> go_on) (mach b h s k (machine.a_value (value.Integer (pos i))))) q

            which : (t : Bool) → nat_le (i + n) m ≡ t → Follows set program (Gives b s.active (k + 1)) w.targets h s m0 (state.test t (state.give (state.a_spot (state.within v m i n))) (state.fault_at fault.PlaceOutsideString at) s)
            which true q = follows_on set program (Gives b s.active (k + 1)) w.targets h s m0 (mach b h s (k + 1) (machine.a_spot (machine.within x m i n))) (state.a_spot (state.within v m i n)) (one_row set program m0 (mach b h s (k + 1) (machine.a_spot (machine.within x m i n))) _ e (row true q)) (record { held = machine.a_spot (machine.within x m i n); holds = (hs, refl, refl, refl); reached = record { is = refl; settled = a1.settled; cells = a1.cells; listed = refl } })
            which false q = fault_here set program (Gives b s.active (k + 1)) w.targets h s m0 (record { at = at; does = instr.Part m n }) fault.PlaceOutsideString b k (machine.a_value (value.Integer (pos i))) e (row false q) a1.listed a1.settled
        places at w b h s k (pos i) (state.within v l o cnt) (machine.within x l' o' cnt') hs e a1 = which (nat_le (i + n) m) refl
          where
            m0 : Machine
            m0 = mach (pushed (machine.a_spot (machine.within x l' o' cnt')) b) h s k (machine.a_value (value.Integer (pos i)))

            row : (t : Bool) → nat_le (i + n) m ≡ t → does set program at (instr.Part m n) m0 ≡ (doing.test t (doing.hold (machine.a_spot (machine.within x l' (min (o' + i) l') n))) (doing.fault_now fault.PlaceOutsideString) >> go_on) (mach b h s k (machine.a_value (value.Integer (pos i))))
            row t q = ap (λ z. (doing.test z (doing.hold (machine.a_spot (machine.within x l' (min (o' + i) l') n))) (doing.fault_now fault.PlaceOutsideString) >> go_on) (mach b h s k (machine.a_value (value.Integer (pos i))))) q

            which : (t : Bool) → nat_le (i + n) m ≡ t → Follows set program (Gives b s.active (k + 1)) w.targets h s m0 (state.test t (state.give (state.a_spot (state.within v l (min (o + i) l) n))) (state.fault_at fault.PlaceOutsideString at) s)
            which true q = follows_on set program (Gives b s.active (k + 1)) w.targets h s m0 (mach b h s (k + 1) (machine.a_spot (machine.within x l' (min (o' + i) l') n))) (state.a_spot (state.within v l (min (o + i) l) n)) (one_row set program m0 (mach b h s (k + 1) (machine.a_spot (machine.within x l' (min (o' + i) l') n))) _ e (row true q)) (record { held = machine.a_spot (machine.within x l' (min (o' + i) l') n); holds = (hs.0, hs.1, ap (λ z. min (z + i) l) hs.2 ∙ ap (λ z. min (o' + i) z) hs.1, refl); reached = record { is = refl; settled = a1.settled; cells = a1.cells; listed = refl } })
            which false q = fault_here set program (Gives b s.active (k + 1)) w.targets h s m0 (record { at = at; does = instr.Part m n }) fault.PlaceOutsideString b k (machine.a_value (value.Integer (pos i))) e (row false q) a1.listed a1.settled
        places at w b h s k i (state.whole v) (machine.within x l' o' cnt') hs e a1 = absurd hs
        places at w b h s k i (state.within v l o cnt) (machine.whole x) hs e a1 = absurd hs

        by : (u : Use) (at : Place) → CodeDoes set program u at (Part m n a start) (go set later (Part m n a start) u at)
        by for_value at w b h s c e mode k held code wanted l ft =
            let k1 = k + size (known c) a in
            let k2 = k1 + 1 + size (known c) start in
            let R = Gives b s.active (k2 + 1) in
            let has1 = behind program.instructions c at mode k a _ code in
            let has2 = code_at set program later c at the_value (k + (size (known c) a + 1)) (k1 + 1) start _ (omega arith) has1.1 in
            let has3 = behind program.instructions c at the_value (k1 + 1) start _ has2 in
            ends_at set program b s.active (k2 + 1) (k + size (known c) (Part m n a start)) w.targets h s (mach b h s k held) (go set later (Part m n a start) for_value at e s) (omega arith)
            (follows_then set program (λ x. Reached b s.active k1 (machine.a_value (value.Str x))) R w.targets h s (mach b h s k held) (after (state.value_of at (go set later a for_value at e) s) (string_in at)) (λ x s1. after (state.holding at (state.integer_of at (go set later start for_value at e)) s1) (λ i. state.string_answer at (part x i n)))
            (string_follows b s.active k1 w.targets h s (mach b h s k held) at _ (value_follows set program b s.active k1 w.targets h s (mach b h s k held) at (go set later a for_value at e s) (pa.by for_value at w b h s c e mode k held (has_front program.instructions k _ _ code) wanted l (fits_left (marks a) (marks start) ft))))
            (λ x h1 s1 m1 r g. let v = machine.a_value (value.Str x) in let l1 = at_reached set program w b h s c e k1 v h1 s1 m1 l g r in
            follows_at set program R w.targets h1 s1 m1 (mach b h1 s1 k1 v) _ r.is
            (gives_as set program b s1.active s.active (k2 + 1) w.targets h1 s1 _ _ r.listed
            (follows_then set program (λ i. Topped b v s1.active k2 (machine.a_value (value.Integer i))) (Gives b s1.active (k2 + 1)) w.targets h1 s1 (mach b h1 s1 k1 v) (state.holding at (state.integer_of at (go set later start for_value at e)) s1) (λ i. state.string_answer at (part x i n))
            (holding_follows set program (λ i. machine.a_value (value.Integer i)) w.targets w b h1 s1 k1 k2 v at (state.integer_of at (go set later start for_value at e)) has1.0 l1.agrees
            (integer_by set program later start ps at w (pushed v b) h1 (with_cells (s1.cells + 1) s1) c e (k1 + 1) v (has_front program.instructions (k1 + 1) _ _ has2) (at_pushed program.instructions w b h1 s1 c e v l1) (fits_pushed v (fits_right (marks a) (marks start) ft))))
            (λ i h2 s2 m2 r2 g2. let l2 = at_topped set program w b h1 s1 c e v k2 (machine.a_value (value.Integer i)) h2 s2 m2 l1 g2 r2 in
            follows_at set program (Gives b s1.active (k2 + 1)) w.targets h2 s2 m2 (mach (pushed v b) h2 s2 k2 (machine.a_value (value.Integer i))) _ r2.is
            (gives_as set program b s2.active s1.active (k2 + 1) w.targets h2 s2 _ _ r2.listed
            (answers at w b h2 s2 k2 i x (part x i n) has3.0 refl l2.agrees)))))))
        by for_place at w b h s c e mode k held code wanted l ft =
            let k1 = k + size (known c) a in
            let k2 = k1 + 1 + size (known c) start in
            let R = Gives b s.active (k2 + 1) in
            let has1 = behind program.instructions c at mode k a _ code in
            let has2 = code_at set program later c at the_value (k + (size (known c) a + 1)) (k1 + 1) start _ (omega arith) has1.1 in
            let has3 = behind program.instructions c at the_value (k1 + 1) start _ has2 in
            ends_at set program b s.active (k2 + 1) (k + size (known c) (Part m n a start)) w.targets h s (mach b h s k held) (go set later (Part m n a start) for_place at e s) (omega arith)
            (follows_then set program (Placed set program b s.active k1) R w.targets h s (mach b h s k held) (state.spot_of at (go set later a for_place at e) s) (λ sp s1. after (state.holding at (state.integer_of at (go set later start for_value at e)) s1) (state.spot_within at m n sp))
            (spot_follows set program b s.active k1 w.targets h s (mach b h s k held) at (go set later a for_place at e s) (pa.by for_place at w b h s c e mode k held (has_front program.instructions k _ _ code) wanted l (fits_left (marks a) (marks start) ft)))
            (λ sp h1 s1 m1 pl g. let r = pl.reached in let v = machine.a_spot pl.spot in let l1 = at_reached set program w b h s c e k1 v h1 s1 m1 l g r in
            follows_at set program R w.targets h1 s1 m1 (mach b h1 s1 k1 v) _ r.is
            (gives_as set program b s1.active s.active (k2 + 1) w.targets h1 s1 _ _ r.listed
            (follows_then set program (λ i. Topped b v s1.active k2 (machine.a_value (value.Integer i))) (Gives b s1.active (k2 + 1)) w.targets h1 s1 (mach b h1 s1 k1 v) (state.holding at (state.integer_of at (go set later start for_value at e)) s1) (state.spot_within at m n sp)
            (holding_follows set program (λ i. machine.a_value (value.Integer i)) w.targets w b h1 s1 k1 k2 v at (state.integer_of at (go set later start for_value at e)) has1.0 l1.agrees
            (integer_by set program later start ps at w (pushed v b) h1 (with_cells (s1.cells + 1) s1) c e (k1 + 1) v (has_front program.instructions (k1 + 1) _ _ has2) (at_pushed program.instructions w b h1 s1 c e v l1) (fits_pushed v (fits_right (marks a) (marks start) ft))))
            (λ i h2 s2 m2 r2 g2. let l2 = at_topped set program w b h1 s1 c e v k2 (machine.a_value (value.Integer i)) h2 s2 m2 l1 g2 r2 in
            follows_at set program (Gives b s1.active (k2 + 1)) w.targets h2 s2 m2 (mach (pushed v b) h2 s2 k2 (machine.a_value (value.Integer i))) _ r2.is
            (gives_as set program b s2.active s1.active (k2 + 1) w.targets h2 s2 _ _ r2.listed
            (places at w b h2 s2 k2 i sp pl.spot (spot_on b h1 h2 sp pl.spot g2.fields pl.stands) has3.0 l2.agrees)))))))
