-- What stands for a name that is called or handed on.
use Rattle.std.proofs.Common.{◌≡◌, ℕ, ◌-◌, ◌≤◌, ◌⊎◌, inl, inr, List, Option, Some, None, refl, ap, ◌∙◌}
use Rattle.value_ops.specs.declared.places.Place.{Place}
use Rattle.program_meaning.specs.State.{State, Outcome, on, stop, wrong, ArrayInfo}
use Rattle.program_meaning.specs.Environments.{Thing, to_constant, to_variable, to_array, to_label, to_procedure, thunk, Bodied, Ready, put_for, procedure_handed, array_handed}
use Rattle.stack_code.specs.Instr.{as_name, as_subarray, as_nothing, Reading}
use Rattle.stack_code.specs.Code.{Coded}
use Rattle.stack_code.specs.Machine as machine
use Rattle.stack_code.specs.Machine.{Machine, Content}
use Rattle.stack_code.specs.Doing as doing
use Rattle.stack_code.specs.Doing.{outwards, source_out, there}
use Rattle.stack_code.specs.Table as table
use Rattle.phrase_code.specs.Sizes.{Kind, a_variable, an_array, a_name_formal, a_procedure_formal, a_procedure}
use Rattle.phrase_code.specs.Coding.{Context, Stand, links, source_by, source_of, reading_by, reading_of_name, reading_of_subarray}
use Rattle.code_simulation.specs.Relation.{fixed, Base, Heap, mach, World, LiveProcedure, HasEntry, HasProcedure, HasProcedureFormal, Means}
use Rattle.code_simulation.proofs.Keeping.{Later, out_later, entry_later}
use Rattle.code_simulation.proofs.Names.{content_is, Found}
use Rattle.code_simulation.proofs.Actuals.{ReadyAs}
use Rattle.code_simulation.proofs.CallRows.{closure_of}

-- ---- a procedure

-- it is declared by the name
abbrev pub IsDeclared : Base → Stand → (level : ℕ) → (text : Option ℕ) → LiveProcedure → Type 0
IsDeclared b name level text q = (name.kind ≡ a_procedure q.formals) × (name.target ≡ q.head) × (name.level ≤ level) × (outwards b.frames text (level - name.level) ≡ Some q.link)

-- it was handed on for a procedure formal
abbrev pub IsHanded : Base → Stand → (level : ℕ) → (text : Option ℕ) → LiveProcedure → Type 0
IsHanded b name level text q = (name.kind ≡ a_procedure_formal) × HasEntry b name level text (fixed (machine.a_procedure (closure_of q)))

abbrev pub StandsFor : Base → Stand → (level : ℕ) → (text : Option ℕ) → LiveProcedure → Type 0
StandsFor b name level text q = IsDeclared b name level text q ⊎ IsHanded b name level text q

pub stands_declared : (w : World) (b : Base) (v : ℕ) (name : Stand) (level : ℕ) (text : Option ℕ) (y : HasProcedure w b v name level text) → StandsFor b name level text y.procedure
stands_declared w b v name level text y = inl (y.kind, y.head, y.out, y.text_is)

pub stands_handed : (w : World) (b : Base) (v : ℕ) (name : Stand) (level : ℕ) (text : Option ℕ) (y : HasProcedureFormal w b v name level text) → StandsFor b name level text y.procedure
stands_handed w b v name level text y = inr (y.kind, y.entry)

pub stands_later : {w w' : World} {b b' : Base} {arrays arrays' : List (Option ArrayInfo)} → Later w b arrays w' b' arrays' → (name : Stand) (level : ℕ) (text : Option ℕ) (q : LiveProcedure) → StandsFor b name level text q → StandsFor b' name level text q
stands_later {b = b} {b' = b'} l name level text q (inl x) = inl (x.0, x.1, x.2, out_later b.frames b'.frames l.frames text (level - name.level) q.link x.3)
stands_later l name level text q (inr x) = inr (x.0, entry_later l name level text _ x.1)

-- the machine finds it
pub source_is : (b : Base) (h : Heap) (s : State Bodied) (k : ℕ) (held : Content) (c : Context) (name : Stand) (q : LiveProcedure) → StandsFor b name c.level b.current q → source_out (source_of c name) (mach b h s k held) ≡ doing.on (machine.a_procedure (closure_of q)) (mach b h s k held)
source_is b h s k held c name q (inl x) =
    let m = mach b h s k held in
    ap (λ κ. source_out (source_by κ (links c name) name) m) x.0
    ∙ ap (λ o. there (doing.closure_from name.target o) m) x.3
    ∙ ap (λ n. doing.on (machine.a_procedure (record { head = n; link = q.link })) m) x.1
source_is b h s k held c name q (inr x) =
    ap (λ κ. source_out (source_by κ (links c name) name) (mach b h s k held)) x.0 ∙ content_is b h s k held c name (fixed (machine.a_procedure (closure_of q))) x.1

-- ---- what is handed on

-- a name hands on what the meaning hands on
pub record HandsOn (program : List Coded) (w : World) (b : Base) (h : Heap) (s : State Bodied) (c : Context) (name : Stand) (o : Outcome Bodied Ready) : Type 0 where
  pub content : Content
  pub ready : Ready
  pub source : (k : ℕ) (held : Content) → source_out (source_of c name) (mach b h s k held) ≡ doing.on content (mach b h s k held)
  pub handed : (m : Machine) → table.handed content m ≡ doing.on content m
  pub gives : o ≡ on ready s
  pub is : ReadyAs program w b s.arrays ready content

abbrev pub Hands : (program : List Coded) (w : World) (b : Base) (h : Heap) (s : State Bodied) (at : Place) (c : Context) (name : Stand) → Outcome Bodied Ready → Type 0
Hands program w b h s at c name o = HandsOn program w b h s c name o ⊎ (o ≡ stop wrong at s)

module _ (program : List Coded) (w : World) (b : Base) (h : Heap) (s : State Bodied) (at : Place) (c : Context) (name : Stand) where
  pub array_hands_on : (t : Thing) → Means program w b s.arrays t name c.level b.current → Hands program w b h s at c name (array_handed at (Some t) s)
  array_hands_on (to_constant v) f = inr refl
  array_hands_on (to_variable v) f = inr refl
  array_hands_on (to_label v) f = inr refl
  array_hands_on (to_procedure v) f = inr refl
  array_hands_on (thunk m a e) f = inr refl
  array_hands_on (to_array k given) f = inl (record {
    content = machine.an_array f.1 given;
    ready = put_for (to_array k given);
    source = λ j held. ap (λ κ. source_out (source_by κ (links c name) name) (mach b h s j held)) f.0 ∙ content_is b h s j held c name _ f.2;
    handed = λ m. refl;
    gives = refl;
    is = (refl, f.3);
  })

  pub procedure_hands_on : (t : Thing) → Means program w b s.arrays t name c.level b.current → Hands program w b h s at c name (procedure_handed at (Some t) s)
  procedure_hands_on (to_constant v) f = inr refl
  procedure_hands_on (to_variable v) f = inr refl
  procedure_hands_on (to_label v) f = inr refl
  procedure_hands_on (to_array k given) f = inr refl
  procedure_hands_on (to_procedure v) (inl y) = inl (record {
    content = machine.a_procedure (closure_of y.procedure);
    ready = put_for (to_procedure v);
    source = λ j held. source_is b h s j held c name y.procedure (stands_declared w b v name c.level b.current y);
    handed = λ m. refl;
    gives = refl;
    is = (y.procedure, y.has, y.number, refl);
  })
  procedure_hands_on (to_procedure v) (inr y) = inl (record {
    content = machine.a_procedure (closure_of y.procedure);
    ready = put_for (to_procedure v);
    source = λ j held. source_is b h s j held c name y.procedure (stands_handed w b v name c.level b.current y);
    handed = λ m. refl;
    gives = refl;
    is = (y.procedure, y.has, y.number, refl);
  })
  procedure_hands_on (thunk m a e) f = inl (record {
    content = machine.a_thunk f.1;
    ready = put_for (thunk m a e);
    source = λ j held. either j held f.0;
    handed = λ m. refl;
    gives = refl;
    is = (f.3, f.4, f.5, f.6, f.7);
  })
    where
      either : (j : ℕ) (held : Content) → ((name.kind ≡ a_name_formal) ⊎ (name.kind ≡ a_procedure_formal)) → source_out (source_of c name) (mach b h s j held) ≡ doing.on (machine.a_thunk f.1) (mach b h s j held)
      either j held (inl q) = ap (λ κ. source_out (source_by κ (links c name) name) (mach b h s j held)) q ∙ content_is b h s j held c name _ f.2
      either j held (inr q) = ap (λ κ. source_out (source_by κ (links c name) name) (mach b h s j held)) q ∙ content_is b h s j held c name _ f.2

-- ---- how names are read

-- a name that stands for nothing that may be handed on, nor for a value
abbrev pub Nameless : Option Thing → Type 0
Nameless None = Unit {0}
Nameless (Some (to_label l)) = Unit {0}
Nameless o = ⊥

-- it is read by what stands for it
pub record IsRead (c : Context) (ot : Option Thing) (os : Option Stand) (means : Thing → Stand → Type 0) : Type 0 where
  pub name : Stand
  pub thing : Thing
  pub stand_is : os ≡ Some name
  pub thing_is : ot ≡ Some thing
  pub means_it : means thing name
  pub named : Nameless (Some thing) → ⊥
  pub name_read : reading_of_name c os ≡ as_name (source_of c name)
  pub subarray_read : (n : ℕ) → reading_of_subarray c n os ≡ as_subarray (source_of c name) n

-- or as nothing
pub record IsUnread (c : Context) (ot : Option Thing) (os : Option Stand) : Type 0 where
  pub nameless : Nameless ot
  pub name_unread : reading_of_name c os ≡ as_nothing
  pub subarray_unread : (n : ℕ) → reading_of_subarray c n os ≡ as_nothing

module _ (program : List Coded) (w : World) (b : Base) (arrays : List (Option ArrayInfo)) (c : Context) where
  read_by : (t : Thing) (name : Stand) (κ : Kind) → (Nameless (Some t) → ⊥) → name.kind ≡ κ → ((r : Reading) → reading_by κ r ≡ r) → Means program w b arrays t name c.level b.current → IsRead c (Some t) (Some name) (λ t name. Means program w b arrays t name c.level b.current)
  read_by t name κ un e h f = record {
    name = name;
    thing = t;
    stand_is = refl;
    thing_is = refl;
    means_it = f;
    named = un;
    name_read = ap (λ z. reading_by z (as_name (source_of c name))) e ∙ h (as_name (source_of c name));
    subarray_read = λ n. ap (λ z. reading_by z (as_subarray (source_of c name) n)) e ∙ h (as_subarray (source_of c name) n);
  }

  pub reading_is : (ot : Option Thing) (os : Option Stand) → Found program w b arrays c.level b.current ot os → IsRead c ot os (λ t name. Means program w b arrays t name c.level b.current) ⊎ IsUnread c ot os
  reading_is None None f = inr (record { nameless = tt; name_unread = refl; subarray_unread = λ n. refl })
  reading_is None (Some name) f = absurd f
  reading_is (Some t) None f = absurd f
  reading_is (Some (to_label l)) (Some name) f = inr (record { nameless = tt; name_unread = ap (λ z. reading_by z (as_name (source_of c name))) f.0; subarray_unread = λ n. ap (λ z. reading_by z (as_subarray (source_of c name) n)) f.0 })
  reading_is (Some (to_constant v)) (Some name) f = inl (read_by (to_constant v) name a_variable (λ z. z) f.0 (λ r. refl) f)
  reading_is (Some (to_variable v)) (Some name) f = inl (read_by (to_variable v) name a_variable (λ z. z) f.0 (λ r. refl) f)
  reading_is (Some (to_array v given)) (Some name) f = inl (read_by (to_array v given) name an_array (λ z. z) f.0 (λ r. refl) f)
  reading_is (Some (to_procedure v)) (Some name) (inl y) = inl (read_by (to_procedure v) name (a_procedure y.procedure.formals) (λ z. z) y.kind (λ r. refl) (inl y))
  reading_is (Some (to_procedure v)) (Some name) (inr y) = inl (read_by (to_procedure v) name a_procedure_formal (λ z. z) y.kind (λ r. refl) (inr y))
  reading_is (Some (thunk m a e)) (Some name) f = either f.0
    where
      either : ((name.kind ≡ a_name_formal) ⊎ (name.kind ≡ a_procedure_formal)) → IsRead c (Some (thunk m a e)) (Some name) (λ t name. Means program w b arrays t name c.level b.current) ⊎ IsUnread c (Some (thunk m a e)) (Some name)
      either (inl q) = inl (read_by (thunk m a e) name a_name_formal (λ z. z) q (λ r. refl) f)
      either (inr q) = inl (read_by (thunk m a e) name a_procedure_formal (λ z. z) q (λ r. refl) f)
