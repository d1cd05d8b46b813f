-- Constants and operators.
use Rattle.std.proofs.Common.{◌≡◌, ℕ, ◌+◌, List, refl, subst, arith}
use Rattle.value_ops.specs.declared.places.Place.{Place}
use Rattle.value_ops.specs.declared.values.Value.{Value}
use Rattle.algolw_tree.specs.declared.phrases.Op.{Op}
use Rattle.algolw_tree.specs.declared.phrases.RelOp.{RelOp}
use Rattle.algolw_tree.specs.declared.standard.UnaryOp.{UnaryOp}
use Rattle.program_meaning.specs.Phrases.{Phrase, Empty, Constant, Unary, Binary, Relation}
use Rattle.program_meaning.specs.Operations.{Answer, unary, binary, relation}
use Rattle.program_meaning.specs.State as state
use Rattle.program_meaning.specs.State.{State, Setting, Outcome, on, jump, stop, M, Use, for_value, for_place, after, holding, value_of, answer_at, only_value}
use Rattle.program_meaning.specs.Environments.{Env, Bodied, Job, go}
use Rattle.stack_code.specs.Instr as instr
use Rattle.stack_code.specs.Instr.{Instr, Mode, the_value, the_place, as_asked}
use Rattle.stack_code.specs.Code.{Code, Coded}
use Rattle.stack_code.specs.Machine as machine
use Rattle.stack_code.specs.Machine.{Machine, Content}
use Rattle.phrase_code.specs.Sizes.{size}
use Rattle.phrase_code.specs.Coding.{Context, known, code, one, ◌▸◌}
use Rattle.code_simulation.specs.Relation.{HasAt, Base, Heap, mach, World, Target, Grew, At}
use Rattle.code_simulation.specs.Following.{Follows, Gives, Reached, PhraseFollows, CodeDoes}
use Rattle.code_simulation.proofs.Stacks.{has_front, has_back}
use Rattle.code_simulation.proofs.Sizes.{code_sized}
use Rattle.code_simulation.proofs.Rows.{one_row, follows_then}
use Rattle.code_simulation.proofs.Keeping.{pushed, with_cells, at_on, at_pushed}
use Rattle.code_simulation.proofs.Values.{Topped, follows_at, value_follows, gives_value, gives_nothing, answer_follows, holding_follows}
use Rattle.std.specs.Prelude.{max}
use Rattle.phrase_code.specs.Marks.{marks}
use Rattle.code_simulation.specs.Room.{Fits}
use Rattle.code_simulation.proofs.Room.{fits_left, fits_right, fits_pushed}

-- the code behind a phrase's
pub behind : (program : List Coded) (c : Context) (w : Place) (u : Mode) (k : ℕ) (a : Phrase) (more : List Coded) → HasAt program k (code c w u k a ▸ more) → HasAt program (k + size (known c) a) more
behind program c w u k a more h = has_back program k (size (known c) a) (code c w u k a) more (code_sized c w u k a).by h

module _ (set : Setting) (program : Code) where
  -- a machine that came to a place on a later state is at the code there
  pub at_reached : (w : World) (b : Base) (h : Heap) (s : State Bodied) (c : Context) (e : Env) (k : ℕ) (x : Content) (h' : Heap) (s' : State Bodied) (m' : Machine) → At program.instructions w b h s c e → Grew h s h' s' → Reached b s.active k x h' s' m' → At program.instructions w b h' s' c e
  at_reached w b h s c e k x h' s' m' a g q = at_on program.instructions w b h h' s s' c e g q.settled q.cells q.listed a

  pub at_topped : (w : World) (b : Base) (h : Heap) (s : State Bodied) (c : Context) (e : Env) (y : Content) (k : ℕ) (x : Content) (h' : Heap) (s' : State Bodied) (m' : Machine) → At program.instructions w b h s c e → Grew h s h' s' → Topped b y s.active k x h' s' m' → At program.instructions w b h' s' c e
  at_topped w b h s c e y k x h' s' m' a g q = at_on program.instructions w b h h' s s' c e g q.settled q.cells q.listed a

  -- what is held is the same somewhere else
  pub ends_at : (b : Base) (active : List state.Entry) (k l : ℕ) (ts : List Target) (h : Heap) (s : State Bodied) (m : Machine) (r : Outcome Bodied state.Given) → k ≡ l → Follows set program (Gives b active k) ts h s m r → Follows set program (Gives b active l) ts h s m r
  ends_at b active k l ts h s m r e = subst (λ n. Follows set program (Gives b active n) ts h s m r) e

  pub gives_as : (b : Base) (active active' : List state.Entry) (k : ℕ) (ts : List Target) (h : Heap) (s : State Bodied) (m : Machine) (r : Outcome Bodied state.Given) → active ≡ active' → Follows set program (Gives b active k) ts h s m r → Follows set program (Gives b active' k) ts h s m r
  gives_as b active active' k ts h s m r e = subst (λ n. Follows set program (Gives b n k) ts h s m r) e

  module _ (later : Job → M Bodied state.Given) where
    pub empty_follows : PhraseFollows set program later Empty
    empty_follows = record { by = λ u at w b h s c e mode k held code wanted a ft. gives_nothing set program b s.active (k + 1) w.targets h s (mach b h s k held) (one_row set program (mach b h s k held) (mach b h s (k + 1) machine.nothing) _ code.0 refl) a.agrees.settled a.agrees.cells refl }

    pub constant_follows : (v : Value) → PhraseFollows set program later (Constant v)
    constant_follows v = record { by = by }
      where
        by : (u : Use) (at : Place) → CodeDoes set program u at (Constant v) (go set later (Constant v) u at)
        by for_place at w b h s c e mode k held code wanted a ft = tt
        by for_value at w b h s c e mode k held code wanted a ft = gives_value set program b s.active (k + 1) w.targets h s (mach b h s k held) v (one_row set program (mach b h s k held) (mach b h s (k + 1) (machine.a_value v)) _ code.0 refl) a.agrees.settled a.agrees.cells refl

    -- a phrase is done for its value
    pub value_by : (a : Phrase) → PhraseFollows set program later a → (at : Place) (w : World) (b : Base) (h : Heap) (s : State Bodied) (c : Context) (e : Env) (k : ℕ) (held : Content) → HasAt program.instructions k (code c at the_value k a) → At program.instructions w b h s c e → Fits program.marks w b (marks a) → Follows set program (λ v. Reached b s.active (k + size (known c) a) (machine.a_value v)) w.targets h s (mach b h s k held) (value_of at (go set later a for_value at e) s)
    value_by a p at w b h s c e k held code l ft = value_follows set program b s.active (k + size (known c) a) w.targets h s (mach b h s k held) at (go set later a for_value at e s) (p.by for_value at w b h s c e the_value k held code refl l ft)

    pub unary_follows : (op : UnaryOp) (a : Phrase) → PhraseFollows set program later a → PhraseFollows set program later (Unary op a)
    unary_follows op a p = record { by = by }
      where
        by : (u : Use) (at : Place) → CodeDoes set program u at (Unary op a) (go set later (Unary op a) u at)
        by for_place at w b h s c e mode k held code wanted l ft = tt
        by for_value at w b h s c e mode k held code wanted l ft =
            let k1 = k + size (known c) a in
            ends_at b s.active (k1 + 1) (k + (size (known c) a + 1)) w.targets h s (mach b h s k held) _ (omega arith)
            (follows_then set program (λ v. Reached b s.active k1 (machine.a_value v)) (Gives b s.active (k1 + 1)) w.targets h s (mach b h s k held) (value_of at (go set later a for_value at e) s) (λ v. answer_at at (unary op v))
            (value_by a p at w b h s c e k held (has_front program.instructions k _ _ code) l ft)
            (λ v h1 s1 m1 q g. let l1 = at_reached w b h s c e k1 (machine.a_value v) h1 s1 m1 l g q in
            follows_at set program (Gives b s.active (k1 + 1)) w.targets h1 s1 m1 (mach b h1 s1 k1 (machine.a_value v)) _ q.is
            (gives_as b s1.active s.active (k1 + 1) w.targets h1 s1 _ _ q.listed
            (answer_follows set program (unary op v) w b h1 s1 k1 (machine.a_value v) (mach b h1 s1 k1 (machine.a_value v)) _ w.targets (behind program.instructions c at the_value k a _ code).0 refl l1.agrees))))

    -- two operands
    pub both_follow : (a d : Phrase) (i : Instr) (f : Value → Value → Answer) → ((at : Place) (b : Base) (h : Heap) (s : State Bodied) (k : ℕ) (v v' : Value) → Rattle.stack_code.specs.Table.does set program at i (mach (pushed (machine.a_value v) b) h s k (machine.a_value v')) ≡ (Rattle.stack_code.specs.Doing.◌>>◌ (Rattle.stack_code.specs.Doing.answer (f v v')) Rattle.stack_code.specs.Doing.go_on) (mach b h s k (machine.a_value v'))) →
        PhraseFollows set program later a → PhraseFollows set program later d → (at : Place) (w : World) (b : Base) (h : Heap) (s : State Bodied) (c : Context) (e : Env) (k : ℕ) (held : Content) → HasAt program.instructions k (code c at the_value k a ▸ one at instr.Push ▸ code c at the_value (k + (size (known c) a + 1)) d ▸ one at i) → At program.instructions w b h s c e → Fits program.marks w b (max (marks a) (marks d)) →
        Follows set program (Gives b s.active (k + (size (known c) a + (1 + (size (known c) d + 1))))) w.targets h s (mach b h s k held) (after (value_of at (go set later a for_value at e) s) (λ v s1. after (holding at (value_of at (go set later d for_value at e)) s1) (λ v'. answer_at at (f v v'))))
    both_follow a d i f does_is p q at w b h s c e k held code l ft =
        let k1 = k + size (known c) a in
        let k2 = k1 + 1 + size (known c) d in
        let has1 = behind program.instructions c at the_value k a _ code in
        let same : k + (size (known c) a + 1) ≡ k1 + 1 = omega arith in
        let has2 = subst (λ n. HasAt program.instructions (k1 + 1) (Rattle.phrase_code.specs.Coding.code c at the_value n d ▸ one at i)) same has1.1 in
        let has3 = behind program.instructions c at the_value (k1 + 1) d _ has2 in
        ends_at b s.active (k2 + 1) _ w.targets h s (mach b h s k held) _ (omega arith)
        (follows_then set program (λ v. Reached b s.active k1 (machine.a_value v)) (Gives b s.active (k2 + 1)) w.targets h s (mach b h s k held) (value_of at (go set later a for_value at e) s) (λ v s1. after (holding at (value_of at (go set later d for_value at e)) s1) (λ v'. answer_at at (f v v')))
        (value_by a p at w b h s c e k held (has_front program.instructions k _ _ code) l (fits_left (marks a) (marks d) ft))
        (λ v h1 s1 m1 r g. let l1 = at_reached w b h s c e k1 (machine.a_value v) h1 s1 m1 l g r in
        follows_at set program (Gives b s.active (k2 + 1)) w.targets h1 s1 m1 (mach b h1 s1 k1 (machine.a_value v)) _ r.is
        (gives_as b s1.active s.active (k2 + 1) w.targets h1 s1 _ _ r.listed
        (follows_then set program (λ v'. Topped b (machine.a_value v) s1.active k2 (machine.a_value v')) (Gives b s1.active (k2 + 1)) w.targets h1 s1 (mach b h1 s1 k1 (machine.a_value v)) (holding at (value_of at (go set later d for_value at e)) s1) (λ v'. answer_at at (f v v'))
        (holding_follows set program (λ v'. machine.a_value v') w.targets w b h1 s1 k1 k2 (machine.a_value v) at (value_of at (go set later d for_value at e)) has1.0 l1.agrees
        (value_by d q at w (pushed (machine.a_value v) b) h1 (with_cells (s1.cells + 1) s1) c e (k1 + 1) (machine.a_value v) (has_front program.instructions (k1 + 1) _ _ has2) (at_pushed program.instructions w b h1 s1 c e (machine.a_value v) l1) (fits_pushed (machine.a_value v) (fits_right (marks a) (marks d) ft))))
        (λ v' h2 s2 m2 r2 g2. let l2 = at_topped w b h1 s1 c e (machine.a_value v) k2 (machine.a_value v') h2 s2 m2 l1 g2 r2 in
        follows_at set program (Gives b s1.active (k2 + 1)) w.targets h2 s2 m2 (mach (pushed (machine.a_value v) b) h2 s2 k2 (machine.a_value v')) _ r2.is
        (gives_as b s2.active s1.active (k2 + 1) w.targets h2 s2 _ _ r2.listed
        (answer_follows set program (f v v') w b h2 s2 k2 (machine.a_value v') (mach (pushed (machine.a_value v) b) h2 s2 k2 (machine.a_value v')) _ w.targets has3.0 (does_is at b h2 s2 k2 v v') l2.agrees)))))))

    pub binary_follows : (op : Op) (a d : Phrase) → PhraseFollows set program later a → PhraseFollows set program later d → PhraseFollows set program later (Binary op a d)
    binary_follows op a d p q = record { by = by }
      where
        by : (u : Use) (at : Place) → CodeDoes set program u at (Binary op a d) (go set later (Binary op a d) u at)
        by for_place at w b h s c e mode k held code wanted l ft = tt
        by for_value at w b h s c e mode k held code wanted l ft = both_follow a d (instr.Binary op) (binary op) (λ at b h s k v v'. refl) p q at w b h s c e k held code l ft

    pub relation_follows : (op : RelOp) (a d : Phrase) → PhraseFollows set program later a → PhraseFollows set program later d → PhraseFollows set program later (Relation op a d)
    relation_follows op a d p q = record { by = by }
      where
        by : (u : Use) (at : Place) → CodeDoes set program u at (Relation op a d) (go set later (Relation op a d) u at)
        by for_place at w b h s c e mode k held code wanted l ft = tt
        by for_value at w b h s c e mode k held code wanted l ft = both_follow a d (instr.Relation op) (relation op) (λ at b h s k v v'. refl) p q at w b h s c e k held code l ft
