-- Each step keeps the rule of the queue.
use Rattle.std.proofs.Common.{◌≡◌, ◌≢◌, ℕ, zero, suc, ◌<◌, ◌≤◌, ◌+◌, ◌-◌, ◌^◌, List, [], ◌∷◌, ◌++◌, length, set, sum_by, All, sym, refl, ap, ◌∙◌, subst, ◌⊎◌, inl, inr, ⊎_elim, append_assoc, append-nil, arith}
use Rattle.std.proofs.lemmas.List.Sums.{sum_by-append, sum_by_push}
use Rattle.std.proofs.lemmas.List.{length-append}
use mathlib.Core.Option.{some}
use lib.ListN.{get_elem?}
use Rattle.crossbeam_queue.specs.Fifo.{Pushes, Pops, Forks, Merges, Learns}
use Rattle.crossbeam_queue.proofs.Lists.{at_set}
use Rattle.job_queue.specs.declared.ticket.Ticket.{Ticket}
use Rattle.job_queue.specs.declared.rule.PassView.{PassView}
use Rattle.job_queue.specs.Rule.{amount_of, SameTickets, spent, one_part, put_side, take_side, less_a_part, joined, with_put, with_taken, found_full, found_empty, Rises, since, Knows, Kept, HoldsEnd, Accounts}
use Rattle.job_queue.proofs.Lists.{sum_set, sum_less, in_sum, two_in_sum, sum_one, Each, each_set, each_push, next_number, rises_push, next_above, amounts_fit}

zero_or : (n : ℕ) → (n ≡ 0) ⊎ (0 < n)
zero_or zero = inl refl
zero_or (suc n) = inr (omega arith)

pub nothing_known : (put : List Ticket) (v : PassView) → v.rights ≡ 0 → v.put ≡ [] → v.taken ≡ [] → v.held ≡ 0 → v.met ≡ 0 → Knows put v
nothing_known put v none no_list no_taken not_held not_met = record { none = λ _. no_list; all = λ n. absurd (omega (arith, n, none)); taken = λ _. no_taken; unheld = λ _. not_held; met = omega (arith, not_met) }

-- what came after no put came after no later one
later : (n : ℕ) (views : List PassView) → sum_by (λ u. since n u.heard) views ≡ 0 → sum_by (λ u. since (suc n) u.heard) views ≡ 0
later n views none = let s = sum_less (λ u. since (suc n) u.heard) (λ u. since n u.heard) (λ u. sum_less (λ k. suc k - suc n) (λ k. suc k - n) (λ k. omega arith) u.heard) views in omega (arith, s, none)

-- a put that succeeds
pub puts : (n pass : ℕ) (v : PassView) (x : Ticket) → 0 < v.rights → All (λ t. t.number < x.number) v.put
    → Pushes Kept n pass v x (λ w. (w ≡ with_put w.held v x) × (amount_of w.put < 2 ^ 62))
puts n pass v x right above items views room kept at =
    let w = with_put (length items + 1) v x in
    let mine = kept.knows pass v at in
    let all = mine.all right in
    let put = kept.gone ++ items in
    let longer : put ++ x ∷ [] ≡ kept.gone ++ (items ++ x ∷ []) = append_assoc kept.gone items (x ∷ []) in
    let over : next_number 0 put ≤ x.number = subst (λ l. next_number 0 l ≤ x.number) all (next_above 0 x.number v.put (omega arith) above) in
    let rises : Rises 0 (put ++ x ∷ []) = rises_push 0 put x kept.rises over in
    let none_since : sum_by (λ u. since (suc (length put)) u.heard) (set views pass w) ≡ 0 = let s = sum_set (λ u. since (suc (length put)) u.heard) views pass v w at in let t = kept.early in omega (arith, s, t) in
    let one_more : suc (length put) ≡ length (put ++ x ∷ []) = let a = length-append put (x ∷ []) in omega (arith, a) in (
      w,
      record {
        gone = kept.gone;
        rises = subst (Rises 0) longer rises;
        taken = λ f. let s = sum_set (λ u. sum_by f u.taken) views pass v w at in let t = kept.taken f in omega (arith, s, t);
        parts = let s = sum_set (λ u. u.parts) views pass v w at in let t = kept.parts in omega (arith, s, t);
        rights = let s = sum_set (λ u. u.rights) views pass v w at in let t = kept.rights in omega (arith, s, t);
        knows = subst (λ l. Each (Knows l) (set views pass w)) longer
            (each_set (Knows (put ++ x ∷ [])) views pass w (record { none = λ none. absurd (omega (arith, none, right)); all = λ _. ap (λ l. l ++ x ∷ []) all; taken = mine.taken; unheld = λ none. absurd (omega (arith, none, right)); met = omega arith })
            (λ j u apart e. record {
              none = (kept.knows j u e).none;
              all = λ some_right. let t = two_in_sum (λ y. y.rights) views pass j v u apart at e in let s = kept.rights in absurd (omega (arith, t, s, right, some_right));
              taken = (kept.knows j u e).taken;
              unheld = (kept.knows j u e).unheld;
              met = (kept.knows j u e).met;
            }));
        early = subst (λ l. sum_by (λ u. since (suc (length l)) u.heard) (set views pass w) ≡ 0) longer (subst (λ n. sum_by (λ u. since (suc n) u.heard) (set views pass w) ≡ 0) one_more (later (suc (length put)) (set views pass w) none_since));
        held = each_set (λ u. 0 < u.rights → u.held ≡ length (items ++ x ∷ []) + sum_by (λ y. since (length (kept.gone ++ (items ++ x ∷ []))) y.heard) (set views pass w)) views pass w
            (λ _. let a = length-append items (x ∷ []) in
            let z = subst (λ l. sum_by (λ u. since (length l) u.heard) (set views pass w) ≡ 0) longer (subst (λ n. sum_by (λ u. since n u.heard) (set views pass w) ≡ 0) one_more none_since) in
            omega (arith, a, z))
            (λ j u apart e some_right. let t = two_in_sum (λ y. y.rights) views pass j v u apart at e in let s = kept.rights in absurd (omega (arith, t, s, right, some_right)));
      },
      (refl, subst (λ l. amount_of (l ++ x ∷ []) < 2 ^ 62) (sym all) (amounts_fit (put ++ x ∷ []) rises)),
    )

-- a take that succeeds
pub takes : (pass : ℕ) (v : PassView) → 0 < v.parts → Pops Kept pass v (λ x w. (w ≡ with_taken w.heard v x) × (amount_of w.taken < 2 ^ 62))
takes pass v part x items views kept at =
    let n = length (kept.gone ++ (x ∷ items)) in
    let w = with_taken (v.heard ++ n ∷ []) v x in
    let mine = kept.knows pass v at in
    let gone = kept.gone ++ x ∷ [] in
    let same : kept.gone ++ (x ∷ items) ≡ gone ++ items = sym (append_assoc kept.gone (x ∷ []) items) in
    let taken : (f : Ticket → ℕ) → sum_by (λ u. sum_by f u.taken) (set views pass w) ≡ sum_by f gone =
    λ f. let s = sum_set (λ u. sum_by f u.taken) views pass v w at in let t = kept.taken f in let a = sum_by_push f v.taken x in let b = sum_by_push f kept.gone x in omega (arith, s, t, a, b) in (
      w,
      record {
        gone = gone;
        rises = subst (Rises 0) same kept.rises;
        taken = taken;
        parts = let s = sum_set (λ u. u.parts) views pass v w at in let t = kept.parts in omega (arith, s, t);
        rights = let s = sum_set (λ u. u.rights) views pass v w at in let t = kept.rights in omega (arith, s, t);
        knows = subst (λ l. Each (Knows l) (set views pass w)) same
            (each_set (Knows (kept.gone ++ (x ∷ items))) views pass w (record { none = mine.none; all = mine.all; taken = λ none. absurd (omega (arith, none, part)); unheld = mine.unheld; met = mine.met }) (λ j u apart e. kept.knows j u e));
        early = subst (λ l. sum_by (λ u. since (suc (length l)) u.heard) (set views pass w) ≡ 0) same
            (let s = sum_set (λ u. since (suc n) u.heard) views pass v w at in let p = sum_by_push (λ k. suc k - suc n) v.heard n in let t = kept.early in omega (arith, s, p, t));
        held = subst (λ l. Each (λ u. 0 < u.rights → u.held ≡ length items + sum_by (λ y. since (length l) y.heard) (set views pass w)) (set views pass w)) same
            (let s = sum_set (λ u. since n u.heard) views pass v w at in let p = sum_by_push (λ k. suc k - n) v.heard n in
            each_set (λ u. 0 < u.rights → u.held ≡ length items + sum_by (λ y. since n y.heard) (set views pass w)) views pass w
            (λ r. let h = kept.held pass v at r in omega (arith, h, s, p)) (λ j u apart e r. let h = kept.held j u e r in omega (arith, h, s, p)));
      },
      (
        refl,
        (let amount : Ticket → ℕ = λ t. t.amount in
            let s = sum_set (λ u. sum_by amount u.taken) views pass v w at in
            let i = in_sum (λ u. sum_by amount u.taken) views pass v at in
            let t = kept.taken amount in
            let a = sum_by_push amount v.taken x in
            let b = sum_by-append amount kept.gone (x ∷ items) in
            let e = sum_by-append amount (kept.gone ++ x ∷ []) items in
            let p = sum_by_push amount kept.gone x in
            let q = ap amount_of same in
            let c = amounts_fit (kept.gone ++ (x ∷ items)) kept.rises in
            omega (arith, i, t, a, e, p, q, c)),
      ),
    )

-- a new pass is made of this one: what both have is what it had
forks : (pass : ℕ) (v l r : PassView) → ((f : ℕ → ℕ) → sum_by f l.heard + sum_by f r.heard ≡ sum_by f v.heard) → ((f : Ticket → ℕ) → sum_by f l.taken + sum_by f r.taken ≡ sum_by f v.taken) → l.parts + r.parts ≡ v.parts → l.rights + r.rights ≡ v.rights
    → ((put : List Ticket) → Knows put v → Knows put l × Knows put r) → (0 < l.rights → (0 < v.rights) × (l.held ≡ v.held)) → (0 < r.rights → (0 < v.rights) × (r.held ≡ v.held))
    → Forks Kept pass v l r
forks pass v l r heard taken parts rights knows left right items views kept at =
    let vs = set views pass l in
    let put = kept.gone ++ items in
    let two = knows put (kept.knows pass v at) in
    let all_heard : (n : ℕ) → sum_by (λ u. since n u.heard) (vs ++ r ∷ []) ≡ sum_by (λ u. since n u.heard) views =
    λ n. let s = sum_set (λ u. since n u.heard) views pass v l at in let a = sum_by_push (λ u. since n u.heard) vs r in let b = heard (λ k. suc k - n) in omega (arith, s, a, b) in
    record {
      gone = kept.gone;
      rises = kept.rises;
      taken = λ f. let s = sum_set (λ u. sum_by f u.taken) views pass v l at in let t = kept.taken f in let a = sum_by_push (λ u. sum_by f u.taken) vs r in let b = taken f in omega (arith, s, t, a, b);
      parts = let s = sum_set (λ u. u.parts) views pass v l at in let t = kept.parts in let a = sum_by_push (λ u. u.parts) vs r in omega (arith, s, t, a, parts);
      rights = let s = sum_set (λ u. u.rights) views pass v l at in let t = kept.rights in let a = sum_by_push (λ u. u.rights) vs r in omega (arith, s, t, a, rights);
      knows = each_push (Knows put) vs r two.1 (each_set (Knows put) views pass l two.0 (λ j u apart e. kept.knows j u e));
      early = all_heard (suc (length put)) ∙ kept.early;
      held = let same = all_heard (length put) in
          each_push (λ u. 0 < u.rights → u.held ≡ length items + sum_by (λ y. since (length put) y.heard) (vs ++ r ∷ [])) vs r (λ some. let q = right some in let m = kept.held pass v at q.0 in let h = q.1 in omega (arith, m, h, same))
          (each_set (λ u. 0 < u.rights → u.held ≡ length items + sum_by (λ y. since (length put) y.heard) (vs ++ r ∷ [])) views pass l (λ some. let q = left some in let m = kept.held pass v at q.0 in let h = q.1 in omega (arith, m, h, same))
          (λ j u apart e some. let m = kept.held j u e some in omega (arith, m, same)));
    }

-- the right to put, apart from the parts
pub aparts : (pass : ℕ) (v : PassView) → Forks Kept pass v (put_side v) (take_side v)
aparts pass v = forks pass v (put_side v) (take_side v) (λ f. omega arith) (λ f. omega arith) (omega arith) (omega arith)
    (λ put k. (record { none = k.none; all = k.all; taken = λ _. refl; unheld = k.unheld; met = k.met }, record { none = λ _. refl; all = λ n. absurd (omega (arith, n)); taken = k.taken; unheld = λ _. refl; met = omega arith }))
    (λ r. (r, refl)) (λ r. absurd (omega (arith, r)))

-- one part for another pass
pub parts_off : (pass : ℕ) (v : PassView) → 2 ≤ v.parts → Forks Kept pass v (less_a_part v) one_part
parts_off pass v two = forks pass v (less_a_part v) one_part (λ f. omega arith) (λ f. omega arith) (omega (arith, two)) (omega arith)
    (λ put k. (record { none = k.none; all = k.all; taken = λ none. absurd (omega (arith, none, two)); unheld = k.unheld; met = k.met }, nothing_known put one_part refl refl refl refl refl))
    (λ r. (r, refl)) (λ r. absurd (omega (arith, r)))

-- a finding
pub finds_full : (n pass : ℕ) (v : PassView) → n ≤ v.held → Forks Kept pass v (found_full n v) spent
finds_full n pass v full = forks pass v (found_full n v) spent (λ f. omega arith) (λ f. omega arith) (omega arith) (omega arith)
    (λ put k. (record { none = k.none; all = k.all; taken = k.taken; unheld = k.unheld; met = full }, nothing_known put spent refl refl refl refl refl))
    (λ r. (r, refl)) (λ r. absurd (omega (arith, r)))

pub finds_empty : (pass : ℕ) (v : PassView) → Forks Kept pass v (found_empty v) spent
finds_empty pass v = forks pass v (found_empty v) spent (λ f. omega arith) (λ f. omega arith) (omega arith) (omega arith)
    (λ put k. (record { none = k.none; all = k.all; taken = k.taken; unheld = k.unheld; met = k.met }, nothing_known put spent refl refl refl refl refl))
    (λ r. (r, refl)) (λ r. absurd (omega (arith, r)))

both_know : (put : List Ticket) (v w : PassView) → v.rights + w.rights ≤ 1 → Knows put v → Knows put w → Knows put (joined v w)
both_know put v w one a b = record {
  none = λ none. let e = a.none (omega (arith, none)) in let d = b.none (omega (arith, none)) in λ i. e i ++ d i;
  all = λ right. ⊎_elim (λ (z : v.rights ≡ 0). let e = a.none z in let d = b.all (omega (arith, z, right)) in λ i. e i ++ d i)
      (λ (z : 0 < v.rights). let e = a.all z in let d = b.none (omega (arith, z, one)) in (λ i. e i ++ d i) ∙ append-nil put) (zero_or v.rights);
  taken = λ none. let e = a.taken (omega (arith, none)) in let d = b.taken (omega (arith, none)) in λ i. e i ++ d i;
  unheld = λ none. let e = a.unheld (omega (arith, none)) in let d = b.unheld (omega (arith, none)) in omega (arith, e, d);
  met = let e = a.met in let d = b.met in omega (arith, e, d);
}

-- two passes become one
pub joins : (pass : ℕ) (v : PassView) (other : ℕ) (w : PassView) → Merges Kept pass v other w (joined v w) spent
joins pass v other w items views kept at two at' =
    let both = joined v w in
    let put = kept.gone ++ items in
    let vs = set views pass both in
    let was : get_elem? views other ≡ some w = ⊎_elim (λ x. absurd (two x.0)) (λ x. x.1) (at_set views pass other both w at') in
    let one : v.rights + w.rights ≤ 1 = let t = two_in_sum (λ y. y.rights) views pass other v w two at was in let s = kept.rights in omega (arith, t, s) in
    let all_heard : (n : ℕ) → sum_by (λ u. since n u.heard) (set vs other spent) ≡ sum_by (λ u. since n u.heard) views =
    λ n. let s = sum_set (λ u. since n u.heard) views pass v both at in let z = sum_set (λ u. since n u.heard) vs other w spent at' in let a = sum_by-append (λ k. suc k - n) v.heard w.heard in omega (arith, s, z, a) in
    record {
      gone = kept.gone;
      rises = kept.rises;
      taken = λ f. let s = sum_set (λ u. sum_by f u.taken) views pass v both at in let z = sum_set (λ u. sum_by f u.taken) vs other w spent at' in
          let t = kept.taken f in let a = sum_by-append f v.taken w.taken in omega (arith, s, z, t, a);
      parts = let s = sum_set (λ u. u.parts) views pass v both at in let z = sum_set (λ u. u.parts) vs other w spent at' in let t = kept.parts in omega (arith, s, z, t);
      rights = let s = sum_set (λ u. u.rights) views pass v both at in let z = sum_set (λ u. u.rights) vs other w spent at' in let t = kept.rights in omega (arith, s, z, t);
      knows = each_set (Knows put) vs other spent (nothing_known put spent refl refl refl refl refl)
          (λ j u apart e. each_set (Knows put) views pass both (both_know put v w one (kept.knows pass v at) (kept.knows other w was)) (λ k y _ d. kept.knows k y d) j u e);
      early = all_heard (suc (length put)) ∙ kept.early;
      held = let same = all_heard (length put) in
          each_set (λ u. 0 < u.rights → u.held ≡ length items + sum_by (λ y. since (length put) y.heard) (set vs other spent)) vs other spent (λ r. absurd (omega (arith, r)))
          (λ j u apart e. each_set (λ u. 0 < u.rights → u.held ≡ length items + sum_by (λ y. since (length put) y.heard) (set vs other spent)) views pass both
          (λ r. ⊎_elim (λ (z : v.rights ≡ 0). let m = kept.held other w was (omega (arith, z, r)) in let n = (kept.knows pass v at).unheld z in omega (arith, m, n, same))
          (λ (z : 0 < v.rights). let m = kept.held pass v at z in let n = (kept.knows other w was).unheld (omega (arith, z, one)) in omega (arith, m, n, same)) (zero_or v.rights))
          (λ k y _ d some. let m = kept.held k y d some in omega (arith, m, same)) j u e);
    }

-- what a pass with all parts and the list of what was put learns
pub accounts : (pass : ℕ) (v : PassView) → Learns Kept pass v (Accounts v)
accounts pass v items views kept at all right f =
    let others : (j : ℕ) (u : PassView) → j ≢ pass → get_elem? views j ≡ some u → sum_by f u.taken ≡ 0 =
    λ j u apart e. let t = two_in_sum (λ y. y.parts) views pass j v u apart at e in let s = kept.parts in ap (sum_by f) ((kept.knows j u e).taken (omega (arith, t, s, all))) in
    let t = kept.taken f in
    let o = sum_one (λ y. sum_by f y.taken) views pass v at others in
    let a = sum_by-append f kept.gone items in
    let b = sum_by-append f v.taken items in
    let p = ap (sum_by f) ((kept.knows pass v at).all right) in
    omega (arith, t, o, a, b, p)

-- what any pass learns
pub bounded : (pass : ℕ) (v : PassView) → Learns Kept pass v (λ items. (amount_of v.taken < 2 ^ 62) × (v.rights ≤ 1))
bounded pass v items views kept at = (
  (let amount : Ticket → ℕ = λ t. t.amount in
      let i = in_sum (λ u. sum_by amount u.taken) views pass v at in
      let t = kept.taken amount in
      let b = sum_by-append amount kept.gone items in
      let c = amounts_fit (kept.gone ++ items) kept.rises in
      omega (arith, i, t, b, c)),
  (let i = in_sum (λ u. u.rights) views pass v at in let t = kept.rights in omega (arith, i, t)),
)

-- what a put that finds the queue full learns
pub holds_end : (pass : ℕ) (v : PassView) → Learns Kept pass v (HoldsEnd v)
holds_end pass v items views kept at right = ((kept.gone, (kept.knows pass v at).all right), (let h = kept.held pass v at right in omega (arith, h)))

-- with nothing left, what was put is what was taken
pub all_taken : (v : PassView) (items : List Ticket) → length items ≡ 0 → Accounts v items → v.parts ≡ 16 → 0 < v.rights → SameTickets v.put v.taken
all_taken v [] none known all right f = let e = known all right f in let a = sum_by-append f v.taken [] in omega (arith, e, a)
all_taken v (x ∷ items) none known all right f = absurd (omega (arith, none))

-- the amounts of what both passes have taken
pub both_amount : (v w u : PassView) → u ≡ joined v w → amount_of u.taken ≡ amount_of v.taken + amount_of w.taken
both_amount v w u e = ap (λ (y : PassView). amount_of y.taken) e ∙ sum_by-append (λ y. y.amount) v.taken w.taken

-- and with one ticket more
pub more_amount : (v u : PassView) (x : Ticket) → u ≡ with_taken u.heard v x → amount_of u.taken ≡ amount_of v.taken + x.amount
more_amount v u x e = let a = sum_by_push (λ y. y.amount) v.taken x in let b = ap (λ (y : PassView). amount_of y.taken) e in omega (arith, a, b)

pub both_none : (a b : List Ticket) → a ≡ [] → b ≡ [] → a ++ b ≡ []
both_none a b e d = λ i. e i ++ d i
