-- What was shown stays shown.
use Rattle.std.proofs.Common.{◌≡◌, ℕ, zero, suc, ◌+◌, ◌-◌, ◌≤◌, ◌⊎◌, inl, inr, List, [], ◌∷◌, ◌++◌, length, Option, Some, None, refl, sym, ap, ◌∙◌, subst, arith, append_assoc}
use Rattle.std.specs.Prelude.{slice_get}
use Rattle.value_ops.specs.declared.values.Value.{Value}
use Rattle.program_meaning.specs.State as state
use Rattle.program_meaning.specs.State.{State, ArrayInfo, RecordInfo, ShownName, Held}
use Rattle.program_meaning.specs.Environments.{Env, empty, bind, Thing, to_constant, to_variable, to_array, to_label, to_procedure, thunk, Bodied}
use Rattle.stack_code.specs.Code.{Coded}
use Rattle.stack_code.specs.Machine as machine
use Rattle.stack_code.specs.Machine.{Machine, Content, Entry, Frame, Where, in_cell, in_field, on_top_of}
use Rattle.stack_code.specs.Doing.{outwards, step_out, link_of, start_at, start_of}
use Rattle.phrase_code.specs.Coding.{Stand, Context}
use Rattle.code_simulation.specs.Relation.{Has, Slot, variable, fixed, Base, Heap, World, LiveProcedure, Target, Stands, HasEntry, HasArray, HasLabel, HasProcedure, HasProcedureFormal, IsUnderWay, Shows, Means, Lives, Shown, Listed, Settled, Above, Agrees, At, Grew}
use Rattle.code_simulation.specs.UnderWay.{IsDeep}
use Rattle.code_simulation.proofs.Stacks.{top_append, top_less}

-- a later machine: what lies in its stacks lies there still, what may be called or jumped to may be so still, and arrays are the same
pub record Later (w : World) (b : Base) (arrays : List (Option ArrayInfo)) (w' : World) (b' : Base) (arrays' : List (Option ArrayInfo)) : Type 0 where
  pub slots : (k : ℕ) (x : Slot) → on_top_of b.slots k ≡ Some x → on_top_of b'.slots k ≡ Some x
  pub entries : (k : ℕ) (x : Entry) → on_top_of b.entries k ≡ Some x → on_top_of b'.entries k ≡ Some x
  pub frames : (k : ℕ) (x : Frame) → on_top_of b.frames k ≡ Some x → on_top_of b'.frames k ≡ Some x
  pub procedures : (p : LiveProcedure) → Has p w.procedures → Has p w'.procedures
  pub targets : (t : Target) → Has t w.targets → Has t w'.targets
  pub marks : w'.marks ≡ w.marks
  pub same : (k : ℕ) (a : ArrayInfo) → slice_get arrays k ≡ Some (Some a) → slice_get arrays' k ≡ Some (Some a)

-- ---- links

link_later : (frames frames' : List Frame) → ((k : ℕ) (x : Frame) → on_top_of frames k ≡ Some x → on_top_of frames' k ≡ Some x) → (k : ℕ) (o : Option Frame) (t : Option ℕ) → on_top_of frames k ≡ o → link_of o ≡ Some t → link_of (on_top_of frames' k) ≡ Some t
link_later frames frames' h k None t e q = absurd (cc)
link_later frames frames' h k (Some f) t e q = ap link_of (h k f e) ∙ q

step_later : (frames frames' : List Frame) → ((k : ℕ) (x : Frame) → on_top_of frames k ≡ Some x → on_top_of frames' k ≡ Some x) → (o : Option (Option ℕ)) (t : Option ℕ) → step_out frames o ≡ Some t → step_out frames' o ≡ Some t
step_later frames frames' h None t e = absurd (cc)
step_later frames frames' h (Some None) t e = absurd (cc)
step_later frames frames' h (Some (Some k)) t e = link_later frames frames' h k (on_top_of frames k) t refl e

out_by : (frames frames' : List Frame) (text : Option ℕ) (n : ℕ) (o : Option (Option ℕ)) (t : Option ℕ) → outwards frames text n ≡ o → ((u : Option ℕ) → outwards frames text n ≡ Some u → outwards frames' text n ≡ Some u) → step_out frames o ≡ Some t → ((p : Option (Option ℕ)) → step_out frames p ≡ Some t → step_out frames' p ≡ Some t) → step_out frames' (outwards frames' text n) ≡ Some t
out_by frames frames' text n None t e ih q h = absurd (cc)
out_by frames frames' text n (Some u) t e ih q h = ap (step_out frames') (ih u e) ∙ h (Some u) q

pub out_later : (frames frames' : List Frame) → ((k : ℕ) (x : Frame) → on_top_of frames k ≡ Some x → on_top_of frames' k ≡ Some x) → (text : Option ℕ) (n : ℕ) (t : Option ℕ) → outwards frames text n ≡ Some t → outwards frames' text n ≡ Some t
out_later frames frames' h text zero t e = e
out_later frames frames' h text (suc n) t e = out_by frames frames' text n (outwards frames text n) t refl (λ u q. out_later frames frames' h text n u q) e (λ p. step_later frames frames' h p t)

start_of_later : (frames frames' : List Frame) → ((k : ℕ) (x : Frame) → on_top_of frames k ≡ Some x → on_top_of frames' k ≡ Some x) → (k : ℕ) (o : Option Frame) (n : ℕ) → on_top_of frames k ≡ o → start_of o ≡ Some n → start_of (on_top_of frames' k) ≡ Some n
start_of_later frames frames' h k None n e q = absurd (cc)
start_of_later frames frames' h k (Some f) n e q = ap start_of (h k f e) ∙ q

pub start_later : (frames frames' : List Frame) → ((k : ℕ) (x : Frame) → on_top_of frames k ≡ Some x → on_top_of frames' k ≡ Some x) → (o : Option (Option ℕ)) (n : ℕ) → start_at frames o ≡ Some n → start_at frames' o ≡ Some n
start_later frames frames' h None n e = absurd (cc)
start_later frames frames' h (Some None) n e = e
start_later frames frames' h (Some (Some k)) n e = start_of_later frames frames' h k (on_top_of frames k) n refl e

-- the start of a text out
pub starts_by : (frames frames' : List Frame) → ((k : ℕ) (x : Frame) → on_top_of frames k ≡ Some x → on_top_of frames' k ≡ Some x) → (text : Option ℕ) (l : ℕ) (o : Option (Option ℕ)) (n : ℕ) → outwards frames text l ≡ o → start_at frames o ≡ Some n → start_at frames' (outwards frames' text l) ≡ Some n
starts_by frames frames' h text l None n e q = absurd (cc)
starts_by frames frames' h text l (Some t) n e q = ap (start_at frames') (out_later frames frames' h text l t e) ∙ start_later frames frames' h (Some t) n q

-- ---- names

module _ {w : World} {b : Base} {arrays : List (Option ArrayInfo)} {w' : World} {b' : Base} {arrays' : List (Option ArrayInfo)} where
  pub entry_later : Later w b arrays w' b' arrays' → (name : Stand) (level : ℕ) (text : Option ℕ) (slot : Slot) → HasEntry b name level text slot → HasEntry b' name level text slot
  entry_later l name level text slot x = record {
    out = x.out;
    start = x.start;
    starts = starts_by b.frames b'.frames l.frames text (level - name.level) (outwards b.frames text (level - name.level)) x.start refl x.starts;
    entry = x.entry;
    stands = l.entries (x.start + name.position) x.entry x.stands;
    cell = x.cell;
    is = x.is;
    holds = l.slots x.cell slot x.holds;
  }

  pub array_later : Later w b arrays w' b' arrays' → (k : ℕ) (a : ArrayInfo) → HasArray b arrays k a → HasArray b' arrays' k a
  array_later l k a x = record { info = x.info; is = l.same k x.info x.is; type = x.type; bounds = x.bounds; elements = λ i h. l.slots (a.first + i) (variable (x.info.first + i)) (x.elements i h) }

  label_later : Later w b arrays w' b' arrays' → (n : ℕ) (name : Stand) (level : ℕ) (text : Option ℕ) → HasLabel w b n name level text → HasLabel w' b' n name level text
  label_later l n name level text x = record {
    target = x.target;
    has = l.targets x.target x.has;
    number = x.number;
    item = x.item;
    out = x.out;
    text_is = out_later b.frames b'.frames l.frames text (level - name.level) x.target.base.current x.text_is;
    start = x.start;
    starts = start_later b.frames b'.frames l.frames (Some x.target.base.current) x.start x.starts;
    cut = x.cut;
    mark = l.entries (x.start + name.position) _ x.mark;
  }

  procedure_later : Later w b arrays w' b' arrays' → (k : ℕ) (name : Stand) (level : ℕ) (text : Option ℕ) → HasProcedure w b k name level text → HasProcedure w' b' k name level text
  procedure_later l k name level text x = record { procedure = x.procedure; has = l.procedures x.procedure x.has; number = x.number; kind = x.kind; head = x.head; out = x.out; text_is = out_later b.frames b'.frames l.frames text (level - name.level) x.procedure.link x.text_is }

  procedure_formal_later : Later w b arrays w' b' arrays' → (k : ℕ) (name : Stand) (level : ℕ) (text : Option ℕ) → HasProcedureFormal w b k name level text → HasProcedureFormal w' b' k name level text
  procedure_formal_later l k name level text x = record { procedure = x.procedure; has = l.procedures x.procedure x.has; number = x.number; kind = x.kind; entry = entry_later l name level text _ x.entry }

  pub as_few : {n : ℕ} → Later w b arrays w' b' arrays' → n ≤ w.marks → n ≤ w'.marks
  as_few l q = let m = l.marks in omega (arith, m, q)

  pub under_way_later : Later w b arrays w' b' arrays' → (text : Option ℕ) → IsUnderWay b.frames text → IsUnderWay b'.frames text
  under_way_later l text x = record { start = x.start; starts = start_later b.frames b'.frames l.frames (Some text) x.start x.starts }

  mutual
    pub shows_later : (program : List Coded) → Later w b arrays w' b' arrays' → (e : Env) (names : List Stand) (level : ℕ) (text : Option ℕ) → Shows program w b arrays e names level text → Shows program w' b' arrays' e names level text
    shows_later program l empty [] level text x = tt
    shows_later program l empty (name ∷ names) level text x = x
    shows_later program l (bind y t e) [] level text x = x
    shows_later program l (bind y t e) (name ∷ names) level text x = (x.0, means_later program l t name level text x.1, shows_later program l e names level text x.2)

    pub means_later : (program : List Coded) → Later w b arrays w' b' arrays' → (t : Thing) (name : Stand) (level : ℕ) (text : Option ℕ) → Means program w b arrays t name level text → Means program w' b' arrays' t name level text
    means_later program l (to_constant v) name level text x = (x.0, entry_later l name level text _ x.1)
    means_later program l (to_variable k) name level text x = (x.0, entry_later l name level text _ x.1)
    means_later program l (to_array k given) name level text x = (x.0, x.1, entry_later l name level text _ x.2, array_later l k x.1 x.3)
    means_later program l (to_label n) name level text x = (x.0, label_later l n name level text x.1)
    means_later program l (to_procedure k) name level text (inl x) = inl (procedure_later l k name level text x)
    means_later program l (to_procedure k) name level text (inr x) = inr (procedure_formal_later l k name level text x)
    means_later program l (thunk m a e) name level text x = (x.0, x.1, entry_later l name level text _ x.2, x.3, x.4, shows_later program l e x.3.names x.3.level x.1.link x.5, as_few l x.6, under_way_later l x.1.link x.7)

  pub lives_later : (program : List Coded) (s s' : State Bodied) → s.arrays ≡ arrays → s'.arrays ≡ arrays' → Later w b arrays w' b' arrays' → ((k : ℕ) (p : Bodied) → slice_get s.procedures k ≡ Some p → slice_get s'.procedures k ≡ Some p) → (p : LiveProcedure) → Lives program w b s p → Lives program w' b' s' p
  lives_later program s s' e e' l g p x = record {
    bodied = x.bodied;
    is = g p.number x.bodied x.is;
    formals = x.formals;
    written = x.written;
    few = as_few l x.few;
    behind = x.behind;
    head = x.head;
    body = x.body;
    result = x.result;
    back = x.back;
    shows = subst (λ z. Shows program w' b' z x.bodied.env p.context.names p.context.level p.link) (sym e') (shows_later program l x.bodied.env p.context.names p.context.level p.link (subst (λ z. Shows program w b z x.bodied.env p.context.names p.context.level p.link) e x.shows));
    under_way = under_way_later l p.link x.under_way;
  }

  -- ---- what is under way

  shown_later : Later w b arrays w' b' arrays' → (held : Held) (k : ℕ) (o : Option Slot) → on_top_of b.slots k ≡ o → Shown b arrays held o → Shown b' arrays' held (on_top_of b'.slots k)
  shown_later l (state.a_variable n) k (Some (variable i)) e x = subst (Shown b' arrays' (state.a_variable n)) (sym (l.slots k _ e)) x
  shown_later l (state.an_array n given) k (Some (fixed (machine.an_array a free))) e x = subst (Shown b' arrays' (state.an_array n given)) (sym (l.slots k _ e)) (x.0, array_later l n a x.1)
  shown_later l (state.a_number n) k (Some (fixed (machine.a_value v))) e x = subst (Shown b' arrays' (state.a_number n)) (sym (l.slots k _ e)) x
  shown_later l state.by_name k (Some (fixed (machine.a_thunk t))) e x = subst (Shown b' arrays' state.by_name) (sym (l.slots k _ e)) x
  shown_later l held k o e x = absurd x

  pub listed_later : (program : List Coded) → Later w b arrays w' b' arrays' → (entries : List Entry) (names : List ShownName) (active : List state.Entry) → Listed program b arrays entries names active → Listed program b' arrays' entries names active
  listed_later program l [] [] [] x = tt
  listed_later program l (machine.a_name text k ∷ entries) names active x = (x.0, shown_later l x.0 k (on_top_of b.slots k) refl x.1, listed_later program l entries _ active x.2)
  listed_later program l (machine.a_procedure_name text k ∷ entries) names active x = (x.0, l.slots k x.0 x.1, listed_later program l entries _ active x.2)
  listed_later program l (machine.a_block p n ∷ entries) names (state.in_block q xs ∷ active) x = (x.0, x.1, listed_later program l entries [] active x.2)
  listed_later program l (machine.declared n d f ∷ entries) names active x = listed_later program l entries names active x
  listed_later program l (machine.a_turn st back ∷ entries) names (state.in_turn q xs ∷ active) x = (x.0, x.1, listed_later program l entries [] active x.2)
  listed_later program l (machine.a_call head site ∷ entries) names (state.in_call name q xs ∷ active) x = (x.0, x.1, x.2, listed_later program l entries [] active x.3)
  listed_later program l (machine.an_actual head ∷ entries) names (state.in_actual first ∷ active) x = (x.0, x.1, listed_later program l entries [] active x.2)
  listed_later program l (machine.an_aside ∷ entries) names active x = listed_later program l entries names active x
  listed_later program l (machine.some_widths ws ∷ entries) names active x = listed_later program l entries names active x
  listed_later program l entries names active x = absurd x

-- ---- more on the stacks

-- b' has all that b has, and more above
pub record Over (b b' : Base) : Type 0 where
  pub slots : List Slot
  pub slots_are : b'.slots ≡ slots ++ b.slots
  pub entries : List Entry
  pub entries_are : b'.entries ≡ entries ++ b.entries
  pub frames : List Frame
  pub frames_are : b'.frames ≡ frames ++ b.frames
  pub reserved : (k : ℕ) → Has k b.reserved → Has k b'.reserved

pub over_same : (b : Base) → Over b b
over_same b = record { slots = []; slots_are = refl; entries = []; entries_are = refl; frames = []; frames_are = refl; reserved = λ k i. i }

joined_lists : {A : Type 0} (a b c ys xs : List A) → a ≡ ys ++ b → b ≡ xs ++ c → a ≡ (ys ++ xs) ++ c
joined_lists a b c ys xs p q = p ∙ ap (λ l. ys ++ l) q ∙ sym (append_assoc ys xs c)

pub over_on : (b b' b'' : Base) → Over b b' → Over b' b'' → Over b b''
over_on b b' b'' p q = record {
  slots = q.slots ++ p.slots;
  slots_are = joined_lists b''.slots b'.slots b.slots q.slots p.slots q.slots_are p.slots_are;
  entries = q.entries ++ p.entries;
  entries_are = joined_lists b''.entries b'.entries b.entries q.entries p.entries q.entries_are p.entries_are;
  frames = q.frames ++ p.frames;
  frames_are = joined_lists b''.frames b'.frames b.frames q.frames p.frames q.frames_are p.frames_are;
  reserved = λ k i. q.reserved k (p.reserved k i);
}

top_over : {A : Type 0} (xs ys more : List A) → ys ≡ more ++ xs → (k : ℕ) (x : A) → on_top_of xs k ≡ Some x → on_top_of ys k ≡ Some x
top_over xs ys more q k x e = subst (λ l. on_top_of l k ≡ Some x) (sym q) (top_append more xs k x e)

pub later_over : (w : World) (b b' : Base) (arrays arrays' : List (Option ArrayInfo)) → Over b b' → ((k : ℕ) (a : Option ArrayInfo) → slice_get arrays k ≡ Some a → slice_get arrays' k ≡ Some a) → Later w b arrays w b' arrays'
later_over w b b' arrays arrays' o g = record {
  slots = top_over b.slots b'.slots o.slots o.slots_are;
  entries = top_over b.entries b'.entries o.entries o.entries_are;
  frames = top_over b.frames b'.frames o.frames o.frames_are;
  procedures = λ p x. x;
  targets = λ t x. x;
  marks = refl;
  same = λ k a e. g k (Some a) e;
}

pub above_over : (program : List Coded) (b b' : Base) (s s' : State Bodied) (t : Target) → Over b b' → s.labels ≤ s'.labels → Above program b s t → Above program b' s' t
above_over program b b' s s' t o l x = record {
  slots = o.slots ++ x.slots;
  slots_are = joined_lists b'.slots b.slots t.base.slots o.slots x.slots o.slots_are x.slots_are;
  entries = o.entries ++ x.entries;
  entries_are = joined_lists b'.entries b.entries t.base.entries o.entries x.entries o.entries_are x.entries_are;
  frames = o.frames ++ x.frames;
  frames_are = joined_lists b'.frames b.frames t.base.frames o.frames x.frames o.frames_are x.frames_are;
  reserved = λ k i. o.reserved k (x.reserved k i);
  number = let n = x.number in omega (arith, n, l);
}

-- what agreed agrees with more on the stacks and a later state
pub agrees_over : (program : List Coded) (w : World) (b b' : Base) (h h' : Heap) (s s' : State Bodied) → Over b b' → Grew h s h' s' → Settled b' h' s'.memory s'.records s'.fields → length b'.slots ≡ s'.cells → Listed program b' s'.arrays b'.entries [] s'.active →
    Agrees program w b h s → Agrees program w b' h' s'
agrees_over program w b b' h h' s s' o g st q l a = record {
  settled = st;
  cells = q;
  listed = l;
  lives = λ p i. lives_later program s s' refl refl (later_over w b b' s.arrays s'.arrays o g.arrays) g.procedures p (a.lives p i);
  above = λ t i. above_over program b b' s s' t o g.labels (a.above t i);
  deep = g.deep a.deep;
}

-- the text that runs is under way
pub runs_under_way : {program : List Coded} {w : World} {b : Base} {h : Heap} {s : State Bodied} {c : Context} {e : Env} → At program w b h s c e → IsUnderWay b.frames b.current
runs_under_way l = record { start = l.start; starts = l.starts }

-- the same stacks, and a later state
pub agrees_on : (program : List Coded) (w : World) (b : Base) (h h' : Heap) (s s' : State Bodied) → Grew h s h' s' → Settled b h' s'.memory s'.records s'.fields → length b.slots ≡ s'.cells → s'.active ≡ s.active → Agrees program w b h s → Agrees program w b h' s'
agrees_on program w b h h' s s' g st q e a = agrees_over program w b b h h' s s' (over_same b) g st q
    (subst (Listed program b s'.arrays b.entries []) (sym e) (listed_later program (later_over w b b s.arrays s'.arrays (over_same b) g.arrays) b.entries [] s.active a.listed)) a

pub at_on : (program : List Coded) (w : World) (b : Base) (h h' : Heap) (s s' : State Bodied) (c : Context) (e : Env) → Grew h s h' s' → Settled b h' s'.memory s'.records s'.fields → length b.slots ≡ s'.cells → s'.active ≡ s.active → At program w b h s c e → At program w b h' s' c e
at_on program w b h h' s s' c e g st q i a = record {
  agrees = agrees_on program w b h h' s s' g st q i a.agrees;
  shows = shows_later program (later_over w b b s.arrays s'.arrays (over_same b) g.arrays) e c.names c.level b.current a.shows;
  start = a.start;
  starts = a.starts;
  counted = a.counted;
}

-- ---- a cell more that is no variable

abbrev pub pushed : Content → Base → Base
pushed x b = record b { slots = fixed x ∷ b.slots }

pub over_pushed : (x : Content) (b : Base) → Over b (pushed x b)
over_pushed x b = record { slots = fixed x ∷ []; slots_are = refl; entries = []; entries_are = refl; frames = []; frames_are = refl; reserved = λ k i. i }

stands_pushed : (x : Content) (b : Base) (h : Heap) (k : ℕ) (y : Where) → Stands (pushed x b) h k y → Stands b h k y
stands_pushed x b h k (in_field f) e = e
stands_pushed x b h k (in_cell c) e = by (top_less (fixed x) b.slots c (variable k) e)
  where
    by : ((c ≡ length b.slots) × (variable k ≡ fixed x)) ⊎ (on_top_of b.slots c ≡ Some (variable k)) → on_top_of b.slots c ≡ Some (variable k)
    by (inl p) = let q = p.1 in absurd (cc)
    by (inr p) = p

pub settled_pushed : (x : Content) (b : Base) (h : Heap) (memory : List (Option Value)) (records : List RecordInfo) (fields : ℕ) → Settled b h memory records fields → Settled (pushed x b) h memory records fields
settled_pushed x b h memory records fields a = record {
  apart = λ k y z p q. a.apart k y z (stands_pushed x b h k y p) (stands_pushed x b h k z q);
  within = λ k y p. a.within k y (stands_pushed x b h k y p);
  kept = λ k i. let z = a.kept k i in (z.0, λ y p. z.1 y (stands_pushed x b h k y p));
  has = a.has;
  count = a.count;
  as_many = a.as_many;
  standard = a.standard;
}

-- a state with so many more cells
abbrev pub with_cells : ℕ → State Bodied → State Bodied
with_cells n s = record s { cells = n }

pub grew_to : (h : Heap) (s s' : State Bodied) → s'.memory ≡ s.memory → s'.arrays ≡ s.arrays → s'.procedures ≡ s.procedures → s'.labels ≡ s.labels → (IsDeep s → IsDeep s') → Grew h s h s'
grew_to h s s' p q r t d = record {
  memory = let e = ap length p in omega (arith, e);
  arrays = λ k a e. subst (λ l. slice_get l k ≡ Some a) (sym q) e;
  procedures = λ k a e. subst (λ l. slice_get l k ≡ Some a) (sym r) e;
  labels = omega (arith, t);
  fields = λ f k e. e;
  fresh = λ f k e. inl e;
  deep = d;
}

pub at_pushed : (program : List Coded) (w : World) (b : Base) (h : Heap) (s : State Bodied) (c : Context) (e : Env) (x : Content) → At program w b h s c e → At program w (pushed x b) h (with_cells (s.cells + 1) s) c e
at_pushed program w b h s c e x a = record {
  agrees = agrees_over program w b (pushed x b) h h s (with_cells (s.cells + 1) s) (over_pushed x b) (grew_to h s (with_cells (s.cells + 1) s) refl refl refl refl (λ d. d)) (settled_pushed x b h s.memory s.records s.fields a.agrees.settled)
      (let q = a.agrees.cells in omega (arith, q)) (listed_later program (later_over w b (pushed x b) s.arrays s.arrays (over_pushed x b) (λ k z i. i)) b.entries [] s.active a.agrees.listed) a.agrees;
  shows = shows_later program (later_over w b (pushed x b) s.arrays s.arrays (over_pushed x b) (λ k z i. i)) e c.names c.level b.current a.shows;
  start = a.start;
  starts = a.starts;
  counted = a.counted;
}

-- what was held is held on a later machine
pub stands_over : (b b' : Base) (h h' : Heap) (k : ℕ) (x : Where) → Over b b' → ((f n : ℕ) → on_top_of h.fields f ≡ Some n → on_top_of h'.fields f ≡ Some n) → Stands b h k x → Stands b' h' k x
stands_over b b' h h' k (in_cell c) o g e = top_over b.slots b'.slots o.slots o.slots_are c (variable k) e
stands_over b b' h h' k (in_field f) o g e = g f k e
