-- Lists in chunks: where an item stands, and what another item there or one more behind makes of them.
use Rattle.std.proofs.Common.{◌≡◌, ℕ, zero, suc, ◌+◌, ◌-◌, ◌*◌, ◌/◌, ◌%◌, ◌<◌, ◌≤◌, List, [], ◌∷◌, ◌++◌, length, slice_index_or, slice_set, refl, sym, ap, ◌∙◌, subst, arith, length-set, append-nil}
use Rattle.std.specs.declared.vec.Vec.{Vec}
use Rattle.std.specs.declared.alloc.Global.{Global}
use Rattle.std.proofs.Math.Nat.{div-add-mod, mod-lt}
use Rattle.std.proofs.lemmas.List.{length-append, append_assoc, get_or_append_left, get_or-append_right, set-append_left, set-append_right}
use Rattle.chunked_vec.specs.Chunks.{items_in, AreFull, HasRoom}

-- ---- by an item's number

pub whole : (n : ℕ) → 4096 * (n / 4096) + n % 4096 ≡ n
whole n = div-add-mod n 4096

pub few : (n : ℕ) → n % 4096 < 4096
few n = mod-lt n {m = 4096} (omega arith)

-- the last number below l
last_one : (k l : ℕ) → k < l → (k + 1 < l → ⊥) → k + 1 ≡ l
last_one k zero l f = absurd (omega (arith, l))
last_one zero (suc zero) l f = refl
last_one zero (suc (suc n)) l f = absurd (f (omega arith))
last_one (suc k) (suc n) l f = let more = last_one k n (omega (arith, l)) (λ m. f (omega (arith, m))) in omega (arith, more)

module _ {T : Type 0} where
  rest_full : (p : Vec T Global) (ps : List (Vec T Global)) → AreFull (p ∷ ps) → AreFull ps
  rest_full p [] f = tt
  rest_full p (o ∷ ps) f = f.1

  head_most : (p : Vec T Global) (ps : List (Vec T Global)) → AreFull (p ∷ ps) → length p.items ≤ 4096
  head_most p [] f = f
  head_most p (o ∷ ps) f = let e = f.0 in omega (arith, e)

  -- the first chunk is full where another is behind it
  head_full : (p : Vec T Global) (ps : List (Vec T Global)) → AreFull (p ∷ ps) → 0 < length ps → length p.items ≡ 4096
  head_full p [] f l = absurd (omega (arith, l))
  head_full p (o ∷ ps) f l = f.0

  all_full : (p : Vec T Global) (ps : List (Vec T Global)) → length p.items ≡ 4096 → AreFull ps → AreFull (p ∷ ps)
  all_full p [] e f = omega (arith, e)
  all_full p (o ∷ ps) e f = (e, f)

  same_full : (p v : Vec T Global) (ps : List (Vec T Global)) → AreFull (p ∷ ps) → length v.items ≡ length p.items → AreFull (v ∷ ps)
  same_full p v [] f e = omega (arith, e, f)
  same_full p v (o ∷ ps) f e = (e ∙ f.0, f.1)

  most_in : (ps : List (Vec T Global)) → AreFull ps → length (items_in ps) ≤ 4096 * length ps
  most_in [] f = omega arith
  most_in (p ∷ ps) f =
      let most = head_most p ps f in
      let more = most_in ps (rest_full p ps f) in
      let sum = length-append p.items (items_in ps) in
      omega (arith, most, more, sum)

  -- ---- where an item stands

  record StandsIn (ps : List (Vec T Global)) (k i : ℕ) : Type 0 where
    pub chunk : k < length ps
    pub within : (d : Vec T Global) → i < length (slice_index_or ps k d).items
    pub item : (d : Vec T Global) (x : T) → slice_index_or (items_in ps) (4096 * k + i) x ≡ slice_index_or (slice_index_or ps k d).items i x

  stands_in : (ps : List (Vec T Global)) → AreFull ps → (k i : ℕ) → i < 4096 → 4096 * k + i < length (items_in ps) → StandsIn ps k i
  stands_in [] f k i few l = absurd (omega (arith, l))
  stands_in (p ∷ ps) f zero i few l =
      let here = first ps f (omega (arith, l)) in record {
        chunk = omega arith;
        within = λ d. here;
        item = λ d x. ap (λ n. slice_index_or (p.items ++ items_in ps) n x) (let same : 4096 * 0 + i ≡ i = omega arith in same) ∙ get_or_append_left p.items (items_in ps) x i here;
      }
    where
      first : (ps : List (Vec T Global)) → AreFull (p ∷ ps) → i < length (p.items ++ items_in ps) → i < length p.items
      first [] f l = let sum = length-append p.items (items_in {T = T} []) in omega (arith, l, sum)
      first (o ∷ ps) f l = let full = f.0 in omega (arith, few, full)
  stands_in (p ∷ ps) f (suc k) i few l =
      let sum = length-append p.items (items_in ps) in
      let most = head_most p ps f in
      let others = most_in ps (rest_full p ps f) in
      let full = head_full p ps f (omega (arith, l, sum, most, others)) in
      let more = stands_in ps (rest_full p ps f) k i few (omega (arith, full, l, sum)) in
      let there = more.chunk in
      let same : 4096 * suc k + i - 4096 ≡ 4096 * k + i = omega arith in record {
        chunk = omega (arith, there);
        within = more.within;
        item = λ d x. get_or-append_right p.items (items_in ps) 4096 (4096 * suc k + i) x full (omega arith) ∙ ap (λ n. slice_index_or (items_in ps) n x) same ∙ more.item d x;
      }

  -- the same by the item's number: what the list has there, and what it is with another item there
  pub record IsFound (ps : List (Vec T Global)) (n : ℕ) : Type 0 where
    pub chunk : n / 4096 < length ps
    pub within : (p : Vec T Global) → p ≡ slice_index_or ps (n / 4096) p → n % 4096 < length p.items
    pub item : (p : Vec T Global) (x : T) → p ≡ slice_index_or ps (n / 4096) p → slice_index_or p.items (n % 4096) x ≡ slice_index_or (items_in ps) n x

  pub found : (ps : List (Vec T Global)) → AreFull ps → (n : ℕ) → n < length (items_in ps) → IsFound ps n
  found ps f n l =
      let sum = whole n in
      let s = stands_in ps f (n / 4096) (n % 4096) (few n) (omega (arith, l, sum)) in record {
        chunk = s.chunk;
        within = λ p is. subst (λ (v : Vec T Global). n % 4096 < length v.items) (sym is) (s.within p);
        item = λ p x is. ap (λ (v : Vec T Global). slice_index_or v.items (n % 4096) x) is ∙ sym (s.item p x) ∙ ap (λ k. slice_index_or (items_in ps) k x) sum;
      }

  -- ---- an item more

  -- as many as are in full chunks and in the last one
  last_length : (ps : List (Vec T Global)) → AreFull ps → (k : ℕ) → k + 1 ≡ length ps → (p : Vec T Global) → p ≡ slice_index_or ps k p → length (items_in ps) ≡ 4096 * k + length p.items
  last_length [] f k l p is = absurd (omega (arith, l))
  last_length (q ∷ []) f zero l p is = let sum = length-append q.items (items_in {T = T} []) in let same = ap (λ (v : Vec T Global). length v.items) is in omega (arith, sum, same)
  last_length (q ∷ (o ∷ ps)) f zero l p is = absurd (omega (arith, l))
  last_length (q ∷ ps) f (suc k) l p is =
      let full = head_full q ps f (omega (arith, l)) in
      let sum = length-append q.items (items_in ps) in
      let more = last_length ps (rest_full q ps f) k (omega (arith, l)) p is in
      omega (arith, full, sum, more)

  pub small : (ps : List (Vec T Global)) (len : ℕ) → HasRoom len ps → (p : Vec T Global) → p ≡ slice_index_or ps (len / 4096) p → length p.items < 4096
  small ps len r p is =
      let long = last_length ps r.full (len / 4096) r.last p is in
      let sum = whole len in
      let less = few len in
      let all = r.all in
      omega (arith, long, sum, less, all)

  pub grown : (ps : List (Vec T Global)) → AreFull ps → (k : ℕ) → k + 1 ≡ length ps → (p v : Vec T Global) (x : T) → p ≡ slice_index_or ps k p → v.items ≡ p.items ++ x ∷ [] → length p.items < 4096
      → AreFull (slice_set ps k v) × (items_in (slice_set ps k v) ≡ items_in ps ++ x ∷ [])
  grown [] f k l p v x is e few = absurd (omega (arith, l))
  grown (q ∷ []) f zero l p v x is e few =
      let sum = length-append p.items (x ∷ []) in
      let long = ap (λ (xs : List T). length xs) e in
      (omega (arith, sum, long, few), append-nil v.items ∙ e ∙ ap (λ (y : Vec T Global). y.items ++ x ∷ []) is ∙ ap (λ (xs : List T). xs ++ x ∷ []) (sym (append-nil q.items)))
  grown (q ∷ (o ∷ ps)) f zero l p v x is e few = absurd (omega (arith, l))
  grown (q ∷ []) f (suc k) l p v x is e few = absurd (omega (arith, l))
  grown (q ∷ (o ∷ ps)) f (suc k) l p v x is e few =
      let more = grown (o ∷ ps) f.1 k (omega (arith, l)) p v x is e few in
      (all_full q (slice_set (o ∷ ps) k v) f.0 more.0, ap (λ (xs : List T). q.items ++ xs) more.1 ∙ sym (append_assoc q.items (items_in (o ∷ ps)) (x ∷ [])))

  -- the same items in another room
  pub kept : (ps : List (Vec T Global)) → AreFull ps → (k : ℕ) → (p v : Vec T Global) → p ≡ slice_index_or ps k p → v.items ≡ p.items → AreFull (slice_set ps k v) × (items_in (slice_set ps k v) ≡ items_in ps)
  kept [] f k p v is e = (tt, refl)
  kept (q ∷ ps) f zero p v is e =
      let same = e ∙ ap (λ (y : Vec T Global). y.items) is in
      (same_full q v ps f (ap (λ (xs : List T). length xs) same), ap (λ (xs : List T). xs ++ items_in ps) same)
  kept (q ∷ []) f (suc k) p v is e = (f, refl)
  kept (q ∷ (o ∷ ps)) f (suc k) p v is e =
      let more = kept (o ∷ ps) f.1 k p v is e in
      (all_full q (slice_set (o ∷ ps) k v) f.0 more.0, ap (λ (xs : List T). q.items ++ xs) more.1)

  -- ---- room for an item more

  -- an empty chunk behind full ones
  begun : (ps : List (Vec T Global)) → AreFull ps → 4096 * length ps ≤ length (items_in ps) → (v : Vec T Global) → v.items ≡ [] → AreFull (ps ++ v ∷ []) × (items_in (ps ++ v ∷ []) ≡ items_in ps)
  begun [] f l v e = (let long = ap (λ (xs : List T). length xs) e in omega (arith, long), ap (λ (xs : List T). xs ++ []) e)
  begun (p ∷ ps) f l v e =
      let most = head_most p ps f in
      let others = most_in ps (rest_full p ps f) in
      let sum = length-append p.items (items_in ps) in
      let more = begun ps (rest_full p ps f) (omega (arith, l, most, sum)) v e in
      (all_full p (ps ++ v ∷ []) (omega (arith, l, most, others, sum)) more.0, ap (λ (xs : List T). p.items ++ xs) more.1)

  -- those before one are full
  before : (ps : List (Vec T Global)) → AreFull ps → (k : ℕ) → k < length ps → 4096 * k ≤ length (items_in ps)
  before [] f k l = absurd (omega (arith, l))
  before (p ∷ ps) f zero l = omega arith
  before (p ∷ ps) f (suc k) l =
      let full = head_full p ps f (omega (arith, l)) in
      let more = before ps (rest_full p ps f) k (omega (arith, l)) in
      let sum = length-append p.items (items_in ps) in
      omega (arith, full, more, sum)

  pub room_there : (ps : List (Vec T Global)) → AreFull ps → (len : ℕ) → len ≡ length (items_in ps) → len / 4096 < length ps → HasRoom len ps
  room_there ps f len e l = record {
    full = f;
    all = e;
    last = last_one (len / 4096) (length ps) l (λ m. let full = before ps f (len / 4096 + 1) m in let sum = whole len in let small = few len in absurd (omega (arith, full, sum, small, e)));
  }

  pub room_begun : (ps : List (Vec T Global)) → AreFull ps → (len : ℕ) → len ≡ length (items_in ps) → length ps ≤ len / 4096 → (v : Vec T Global) → v.items ≡ [] → HasRoom len (ps ++ v ∷ []) × (items_in (ps ++ v ∷ []) ≡ items_in ps)
  room_begun ps f len e l v none_in =
      let sum = whole len in
      let most = most_in ps f in
      let q = begun ps f (omega (arith, l, sum, e)) v none_in in
      let long = length-append ps (v ∷ []) in (
        record {
          full = q.0;
          all = e ∙ ap (λ (xs : List T). length xs) (sym q.1);
          last = omega (arith, l, sum, most, e, long);
        },
        q.1,
      )

  -- ---- another item

  replaced : (ps : List (Vec T Global)) → AreFull ps → (k i : ℕ) → k < length ps → (p v : Vec T Global) (x : T) → p ≡ slice_index_or ps k p → v.items ≡ slice_set p.items i x → i < length p.items
      → AreFull (slice_set ps k v) × (items_in (slice_set ps k v) ≡ slice_set (items_in ps) (4096 * k + i) x)
  replaced [] f k i l p v x is e there = absurd (omega (arith, l))
  replaced (q ∷ ps) f zero i l p v x is e there =
      let made = e ∙ ap (λ (y : Vec T Global). slice_set y.items i x) is in
      let within = subst (λ (y : Vec T Global). i < length y.items) is there in (
        same_full q v ps f (ap (λ (xs : List T). length xs) made ∙ length-set q.items i x),
        ap (λ (xs : List T). xs ++ items_in ps) made ∙ sym (set-append_left q.items (items_in ps) i x within) ∙ ap (λ n. slice_set (q.items ++ items_in ps) n x) (let same : i ≡ 4096 * 0 + i = omega arith in same),
      )
  replaced (q ∷ ps) f (suc k) i l p v x is e there =
      let full = head_full q ps f (omega (arith, l)) in
      let more = replaced ps (rest_full q ps f) k i (omega (arith, l)) p v x is e there in
      let same : 4096 * k + i ≡ 4096 * suc k + i - 4096 = omega arith in (
        all_full q (slice_set ps k v) full more.0,
        ap (λ (xs : List T). q.items ++ xs) (more.1 ∙ ap (λ n. slice_set (items_in ps) n x) same) ∙ sym (set-append_right q.items (items_in ps) 4096 (4096 * suc k + i) x full (omega arith)),
      )

  -- the same by the item's number
  pub set : (ps : List (Vec T Global)) → AreFull ps → (n : ℕ) → n < length (items_in ps) → (p v : Vec T Global) (x : T) → p ≡ slice_index_or ps (n / 4096) p → v.items ≡ slice_set p.items (n % 4096) x
      → AreFull (slice_set ps (n / 4096) v) × (items_in (slice_set ps (n / 4096) v) ≡ slice_set (items_in ps) n x)
  set ps f n l p v x is e =
      let there = found ps f n l in
      let q = replaced ps f (n / 4096) (n % 4096) there.chunk p v x is e (there.within p is) in
      (q.0, q.1 ∙ ap (λ k. slice_set (items_in ps) k x) (whole n))
