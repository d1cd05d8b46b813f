-- The items of a block, and jumps to its labels.
use Rattle.std.proofs.Common.{◌≡◌, ◌≢◌, ℕ, zero, suc, ◌+◌, ◌-◌, ◌<◌, ◌≤◌, ◌⊎◌, inl, inr, ℤ, List, [], ◌∷◌, ◌++◌, length, map, Option, Some, None, refl, sym, ap, ◌∙◌, subst, arith, le-leb, ltb-true, ltb-false, length-append}
use Rattle.std.specs.Prelude.{nat_lt, nat_le, ◌&&◌, Bool, true, false}
use Rattle.value_ops.specs.declared.places.Place.{Place}
use Rattle.program_meaning.specs.Phrases.{Phrase, Items, no_items, item_and, label_places}
use Rattle.program_meaning.specs.State as state
use Rattle.program_meaning.specs.State.{State, Setting, by_fault, by_limit, wrong, unfinished, Outcome, on, jump, stop, M, Use, for_value, for_place, after, Made, back_to, is_own, caught, catching}
use Rattle.program_meaning.specs.Copying.{from}
use Rattle.program_meaning.specs.Environments.{Env, Bodied, Job, items_job, go, go_items}
use Rattle.stack_code.specs.Instr.{the_value}
use Rattle.stack_code.specs.Code.{Code}
use Rattle.stack_code.specs.Machine as machine
use Rattle.stack_code.specs.Machine.{Machine, Content}
use Rattle.phrase_code.specs.Sizes.{Known, size, items_size}
use Rattle.phrase_code.specs.Coding.{Context, known, code, code_items}
use Rattle.code_simulation.specs.Written.{ItemsWritten}
use Rattle.code_simulation.specs.Relation.{HasAt, Has, Base, Heap, mach, World, Target, Settled, Grew, At, label_targets, item_targets, item_at}
use Rattle.code_simulation.specs.Following.{Comes, Follows, Gives, PhraseFollows, LaterFollows}
use Rattle.code_simulation.proofs.Stacks.{has_front, is_below, is_not_below}
use Rattle.code_simulation.proofs.Rows.{one_row, follows_from, follows_then, grew_on}
use Rattle.code_simulation.proofs.Keeping.{grew_to, at_on}
use Rattle.code_simulation.proofs.Values.{follows_at, gives_nothing}
use Rattle.code_simulation.proofs.Operators.{behind, at_reached, ends_at, gives_as}
use Rattle.phrase_code.specs.Marks.{marks, items_marks}
use Rattle.code_simulation.specs.Room.{Fits}
use Rattle.code_simulation.specs.UnderWay.{texts_under}
use Rattle.code_simulation.proofs.Room.{fits_left, fits_right}

-- ---- whose label it is

-- one of a block's own labels
pub record Own (names : List Known) (made : Made) (b : Base) (l k : ℕ) (items : Items) (t : Target) : Type 0 where
  pub index : ℕ
  pub few : index < length (label_places items)
  pub is : t ≡ record { number = l + index; made = made; base = b; item = item_at names index k items }

own_label : (made : Made) (b : Base) (l k : ℕ) (labels : List Place) (more : List Target) (t : Target) → Has t (label_targets made b l k labels more) → ((j : ℕ) × (j < length labels) × (t ≡ record { number = l + j; made = made; base = b; item = k })) ⊎ Has t more
own_label made b l k [] more t x = inr x
own_label made b l k (y ∷ labels) more t (inl x) = inl (zero, omega arith, x ∙ ap (λ n. record { number = n; made = made; base = b; item = k }) (omega arith))
own_label made b l k (y ∷ labels) more t (inr x) = by (own_label made b (l + 1) k labels more t x)
  where
    by : ((j : ℕ) × (j < length labels) × (t ≡ record { number = l + 1 + j; made = made; base = b; item = k })) ⊎ Has t more → ((j : ℕ) × (j < suc (length labels)) × (t ≡ record { number = l + j; made = made; base = b; item = k })) ⊎ Has t more
    by (inl z) = let q = z.1 in inl (suc z.0, omega (arith, q), z.2 ∙ ap (λ n. record { number = n; made = made; base = b; item = k }) (omega arith))
    by (inr z) = inr z

item_first : (names : List Known) (n k : ℕ) (labels : List Place) (a : Phrase) (rest : Items) → n < length labels → item_at names n k (item_and labels a rest) ≡ k
item_first names n k labels a rest h = ap (λ (t : Bool). let r : ℕ = elim t [ true ↦ k | false ↦ item_at names (n - length labels) (k + size names a) rest ] in r) (is_below n (length labels) h)

item_later : (names : List Known) (n k : ℕ) (labels : List Place) (a : Phrase) (rest : Items) → length labels ≤ n → item_at names n k (item_and labels a rest) ≡ item_at names (n - length labels) (k + size names a) rest
item_later names n k labels a rest h = ap (λ (t : Bool). let r : ℕ = elim t [ true ↦ k | false ↦ item_at names (n - length labels) (k + size names a) rest ] in r) (is_not_below n (length labels) h)

pub own_or_outer : (names : List Known) (made : Made) (b : Base) (l k : ℕ) (items : Items) (outer : List Target) (t : Target) → Has t (item_targets names made b l k items outer) → Own names made b l k items t ⊎ Has t outer
own_or_outer names made b l k no_items outer t x = inr x
own_or_outer names made b l k (item_and labels a rest) outer t x = by (own_label made b l k labels (item_targets names made b (l + length labels) (k + size names a) rest outer) t x) (λ y. own_or_outer names made b (l + length labels) (k + size names a) rest outer t y)
  where
    further : Own names made b (l + length labels) (k + size names a) rest t ⊎ Has t outer → Own names made b l k (item_and labels a rest) t ⊎ Has t outer
    further (inr z) = inr z
    further (inl z) = let i = z.index in let f = z.few in inl (record {
      index = length labels + i;
      few = omega (arith, f, length-append labels (label_places rest));
      is = z.is ∙ ap (λ n. record { number = n; made = made; base = b; item = item_at names i (k + size names a) rest }) (omega arith)
          ∙ ap (λ n. record { number = l + (length labels + i); made = made; base = b; item = n }) (ap (λ j. item_at names j (k + size names a) rest) (omega arith) ∙ sym (item_later names (length labels + i) k labels a rest (omega arith)));
    })

    by : ((j : ℕ) × (j < length labels) × (t ≡ record { number = l + j; made = made; base = b; item = k })) ⊎ Has t (item_targets names made b (l + length labels) (k + size names a) rest outer) → (Has t (item_targets names made b (l + length labels) (k + size names a) rest outer) → Own names made b (l + length labels) (k + size names a) rest t ⊎ Has t outer) → Own names made b l k (item_and labels a rest) t ⊎ Has t outer
    by (inl z) f = let q = z.1 in inl (record { index = z.0; few = omega (arith, q, length-append labels (label_places rest)); is = z.2 ∙ ap (λ n. record { number = l + z.0; made = made; base = b; item = n }) (sym (item_first names z.0 k labels a rest z.1)) })
    by (inr z) f = further (f z)

is_own_yes : (made : Made) (l : ℕ) → made.first ≤ l → l < made.first + made.count → is_own made l ≡ true
is_own_yes made l p q = ap (λ t. t && nat_lt l (made.first + made.count)) (le-leb made.first l p) ∙ is_below l (made.first + made.count) q

is_own_no : (made : Made) (l : ℕ) → l < made.first → is_own made l ≡ false
is_own_no made l p = by (nat_le made.first l) refl
  where
    by : (t : Bool) → nat_le made.first l ≡ t → nat_le made.first l && nat_lt l (made.first + made.count) ≡ false
    by false q = ap (λ z. z && nat_lt l (made.first + made.count)) q
    by true q = absurd (let y = Rattle.std.proofs.Common.leb-true made.first l q in omega (arith, y, p))

module _ (set : Setting) (program : Code) where
  -- a jump to one of the block's own labels goes on there
  pub caught_follows : {A : Type 0} (Q : A → Heap → State Bodied → Machine → Type 0) (names : List Known) (made : Made) (b : Base) (k : ℕ) (items : Items) (outer : List Target) (h : Heap) (s : State Bodied) (m : Machine) (resume : ℕ → M Bodied A) (r : Outcome Bodied A) → made.count ≡ length (label_places items) → ((t : Target) → Has t outer → t.number < made.first) → texts_under made.active ≤ made.depth →
      Follows set program Q (item_targets names made b made.first k items outer) h s m r →
      ((j : ℕ) (h' : Heap) (s' : State Bodied) → j < made.count → Settled b h' s'.memory s'.records s'.fields → Grew h s h' s' → Follows set program Q outer h' (back_to made s') (mach b h' (back_to made s') (item_at names j k items) machine.nothing) (resume j (back_to made s'))) →
      Follows set program Q outer h s m (caught made resume r)
  caught_follows Q names made b k items outer h s m resume (on a s') ec eo dm x f = x
  caught_follows Q names made b k items outer h s m resume (stop (by_fault y) w s') ec eo dm x f = x
  caught_follows Q names made b k items outer h s m resume (stop (by_limit y) w s') ec eo dm x f = x
  caught_follows Q names made b k items outer h s m resume (stop wrong w s') ec eo dm x f = tt
  caught_follows Q names made b k items outer h s m resume (stop unfinished w s') ec eo dm x f = tt
  caught_follows {A} Q names made b k items outer h s m resume (jump l s') ec eo dm x f = by (own_or_outer names made b made.first k items outer x.target x.has)
    where
      caught_by : Bool → Outcome Bodied A
      caught_by t = elim t [ true ↦ resume (l - made.first) (back_to made s') | false ↦ jump l s' ]

      by : Own names made b made.first k items x.target ⊎ Has x.target outer → Follows set program Q outer h s m (caught_by (is_own made l))
      by (inr z) =
          let n = eo x.target z in
          let nl = x.number in
          subst (λ t. Follows set program Q outer h s m (caught_by t)) (sym (is_own_no made l (omega (arith, n, nl)))) (record { target = x.target; has = z; number = x.number; heap = x.heap; comes = x.comes; settled = x.settled; grew = x.grew })
      by (inl z) =
          let i = z.index in let few = z.few in
          let nl : l ≡ made.first + i = x.number ∙ ap (λ t. t.number) z.is in
          let few' : i < made.count = omega (arith, few, ec) in
          let same : l - made.first ≡ i = omega (arith, nl) in
          let comes' : Comes set program m (mach b x.heap (back_to made s') (item_at names i k items) machine.nothing) = subst (λ t. Comes set program m (mach t.base x.heap (back_to t.made s') t.item machine.nothing)) z.is x.comes in
          let settled' : Settled b x.heap s'.memory s'.records s'.fields = subst (λ t. Settled t.base x.heap s'.memory s'.records s'.fields) z.is x.settled in
          subst (λ t. Follows set program Q outer h s m (caught_by t)) (sym (is_own_yes made l (omega (arith, nl)) (omega (arith, nl, few'))))
          (subst (λ n. Follows set program Q outer h s m (resume n (back_to made s'))) (sym same)
          (follows_from set program Q outer h s x.heap (back_to made s') m (mach b x.heap (back_to made s') (item_at names i k items) machine.nothing) (resume i (back_to made s')) comes'
          (grew_on h s x.heap s' x.heap (back_to made s') x.grew (grew_to x.heap s' (back_to made s') refl refl refl refl (λ d. dm))) (f i x.heap s' few' settled' x.grew)))

  module _ (later : Job → M Bodied state.Given) where
    pub data EachItem : Items → Type 0 where
      items_none : EachItem no_items
      items_and : {labels : List Place} {a : Phrase} {rest : Items} → PhraseFollows set program later a → EachItem rest → EachItem (item_and labels a rest)

    -- items one after the other
    pub items_follow : (items : Items) → EachItem items → (at : Place) (w : World) (b : Base) (h : Heap) (s : State Bodied) (c : Context) (e : Env) (k : ℕ) (held : Content) → HasAt program.instructions k (code_items c at k items) → At program.instructions w b h s c e → Fits program.marks w b (items_marks items) →
        Follows set program (Gives b s.active (k + items_size (known c) items)) w.targets h s (mach b h s k held) (go_items set later items at e s)
    items_follow no_items p at w b h s c e k held code l ft = gives_nothing set program b s.active (k + 1) w.targets h s (mach b h s k held) (one_row set program (mach b h s k held) (mach b h s (k + 1) machine.nothing) _ code.0 refl) l.agrees.settled l.agrees.cells refl
    items_follow (item_and labels a no_items) (items_and p ps) at w b h s c e k held code l ft = p.by for_value at w b h s c e the_value k held code refl l (fits_left (marks a) 0 ft)
    items_follow (item_and labels a (item_and labels' a' rest)) (items_and p ps) at w b h s c e k held code l ft =
        let k1 = k + size (known c) a in
        let more = item_and labels' a' rest in
        let R = Gives b s.active (k + items_size (known c) (item_and labels a more)) in
        follows_then set program (Gives b s.active k1) R w.targets h s (mach b h s k held) (go set later a for_value at e s) (λ r. go_items set later more at e)
        (p.by for_value at w b h s c e the_value k held (has_front program.instructions k _ _ code) refl l (fits_left (marks a) (items_marks more) ft))
        (λ r h1 s1 m1 q g. let y = q.reached in let a1 = at_reached set program w b h s c e k1 q.held h1 s1 m1 l g y in
        follows_at set program R w.targets h1 s1 m1 (mach b h1 s1 k1 q.held) (go_items set later more at e s1) y.is
        (gives_as set program b s1.active s.active (k + items_size (known c) (item_and labels a more)) w.targets h1 s1 (mach b h1 s1 k1 q.held) (go_items set later more at e s1) y.listed
        (ends_at set program b s1.active (k1 + items_size (known c) more) (k + (size (known c) a + items_size (known c) more)) w.targets h1 s1 (mach b h1 s1 k1 q.held) (go_items set later more at e s1) (omega arith)
        (items_follow more ps at w b h1 s1 c e k1 q.held (behind program.instructions c at the_value k a _ code) a1 (fits_right (marks a) (items_marks more) ft)))))

    -- the items from the n-th label on
    from_follows : (items : Items) → EachItem items → (at : Place) (w : World) (b : Base) (h : Heap) (s : State Bodied) (c : Context) (e : Env) (k n : ℕ) (held : Content) → n < length (label_places items) → HasAt program.instructions k (code_items c at k items) → At program.instructions w b h s c e → Fits program.marks w b (items_marks items) →
        Follows set program (Gives b s.active (k + items_size (known c) items)) w.targets h s (mach b h s (item_at (known c) n k items) held) (go_items set later (from n items) at e s)
    from_follows no_items p at w b h s c e k n held few code l ft = absurd (omega (arith, few))
    from_follows (item_and labels a no_items) (items_and p ps) at w b h s c e k n held few code l ft =
        subst (λ t. Follows set program (Gives b s.active (k + size (known c) a)) w.targets h s (mach b h s (elim t [ true ↦ k | false ↦ k + size (known c) a ]) held) (go_items set later (elim t [ true ↦ item_and labels a no_items | false ↦ no_items ]) at e s)) (sym (is_below n (length labels) (omega (arith, few, length-append labels []))))
        (items_follow (item_and labels a no_items) (items_and p ps) at w b h s c e k held code l ft)
    from_follows (item_and labels a (item_and labels' a' rest)) (items_and p ps) at w b h s c e k n held few code l ft = by (nat_lt n (length labels)) refl (from_follows (item_and labels' a' rest) ps at w b h s c e (k + size (known c) a) (n - length labels) held)
      where
        more : Items
        more = item_and labels' a' rest

        by : (t : Bool) → nat_lt n (length labels) ≡ t → (n - length labels < length (label_places more) → HasAt program.instructions (k + size (known c) a) (code_items c at (k + size (known c) a) more) → At program.instructions w b h s c e → Fits program.marks w b (items_marks more) → Follows set program (Gives b s.active (k + size (known c) a + items_size (known c) more)) w.targets h s (mach b h s (item_at (known c) (n - length labels) (k + size (known c) a) more) held) (go_items set later (from (n - length labels) more) at e s)) →
            Follows set program (Gives b s.active (k + (size (known c) a + items_size (known c) more))) w.targets h s (mach b h s (elim t [ true ↦ k | false ↦ item_at (known c) (n - length labels) (k + size (known c) a) more ]) held) (go_items set later (elim t [ true ↦ item_and labels a more | false ↦ from (n - length labels) more ]) at e s)
        by true q ih = items_follow (item_and labels a more) (items_and p ps) at w b h s c e k held code l ft
        by false q ih = let z = ltb-false n (length labels) q in
            ends_at set program b s.active (k + size (known c) a + items_size (known c) more) (k + (size (known c) a + items_size (known c) more)) w.targets h s (mach b h s (item_at (known c) (n - length labels) (k + size (known c) a) more) held) (go_items set later (from (n - length labels) more) at e s) (omega arith)
            (ih (omega (arith, z, few, length-append labels (label_places more))) (behind program.instructions c at the_value k a _ code) l (fits_right (marks a) (items_marks more) ft))

    pub items_job_follows : LaterFollows set program later → (made : Made) (at : Place) (items : Items) → ItemsWritten items → EachItem items → (outer : List Target) (w : World) (b : Base) (h : Heap) (s : State Bodied) (c : Context) (e : Env) (k n : ℕ) (held : Content) →
        w.targets ≡ item_targets (known c) made b made.first k items outer → made.count ≡ length (label_places items) → ((t : Target) → Has t outer → t.number < made.first) → length b.slots ≡ made.cells → made.active ≡ s.active → n < made.count →
        HasAt program.instructions k (code_items c at k items) → At program.instructions w b h s c e → Fits program.marks w b (items_marks items) → texts_under made.active ≤ made.depth →
        Follows set program (Gives b s.active (k + items_size (known c) items)) outer h s (mach b h s (item_at (known c) n k items) held) (catching made (λ j. later (items_job made at items e j)) (go_items set later (from n items) at e) s)
    items_job_follows hl made at items wi ps outer w b h s c e k n held et ec eo el ea few code l ft dm =
        caught_follows (Gives b s.active (k + items_size (known c) items)) (known c) made b k items outer h s (mach b h s (item_at (known c) n k items) held) (λ j. later (items_job made at items e j)) (go_items set later (from n items) at e s) ec eo dm
        (subst (λ ts. Follows set program (Gives b s.active (k + items_size (known c) items)) ts h s (mach b h s (item_at (known c) n k items) held) (go_items set later (from n items) at e s)) et
        (from_follows items ps at w b h s c e k n held (let q = ec in omega (arith, few, q)) code l ft))
        (λ j h' s' fj st g. gives_as set program b made.active s.active (k + items_size (known c) items) outer h' (back_to made s') (mach b h' (back_to made s') (item_at (known c) j k items) machine.nothing) (later (items_job made at items e j) (back_to made s')) ea
        (hl.items made at items wi outer w b h' (back_to made s') c e k j machine.nothing et ec eo el refl fj code
        (at_on program.instructions w b h h' s (back_to made s') c e (grew_on h s h' s' h' (back_to made s') g (grew_to h' s' (back_to made s') refl refl refl refl (λ d. dm))) st el ea l) ft dm))
