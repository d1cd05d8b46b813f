-- The counts that are noted on the cards of a deck are those of the first statements on them.
use Rattle.std.proofs.Common.{◌≡◌, ℕ, zero, suc, ◌+◌, ◌<◌, ◌≤◌, List, [], ◌∷◌, Bool, true, false, Option, Some, None, map, length, refl, sym, ap, ◌∙◌, subst, arith, add-zero}
use Rattle.std.specs.Prelude.{◌&&◌, nat_eq, slice_get, slice_index_or, IfSome}
use Rattle.std.proofs.lemmas.Bool.Decides.{nat_tests}
use Rattle.value_ops.specs.declared.places.Place.{Place}
use Rattle.algolw_typing.specs.Types.{is_place}
use Rattle.algolw_typing.specs.ProgramView.{numbered}
use Rattle.program_meaning.specs.Results.{begun_at}
use Rattle.machine_rows.specs.Seen.{times}
use Rattle.algolw_meaning.specs.Running.{count_of, statement_on}
use Rattle.job_runner.specs.declared.source.First.{First}
use Rattle.job_runner.specs.Counted.{IsCounted, count_beside}
use Rattle.job_runner.specs.Noting.{noted}

-- ---- places

same_numbers : (p q : Place) → is_place p q ≡ true → (p.card ≡ q.card) × (p.column ≡ q.column)
same_numbers p q h = grind (arith, nat_tests)

same_place : (p q : Place) → is_place p q ≡ true → p ≡ q
same_place p q h =
    let e = same_numbers p q h in
    ap {B = Place} (λ n. record { card = n; column = p.column }) e.0 ∙ ap {B = Place} (λ n. record { card = q.card; column = n }) e.1

place_itself : (p : Place) → is_place p p ≡ true
place_itself p = grind (arith, nat_tests)

nat_itself : (n : ℕ) → nat_eq n n ≡ true
nat_itself n = grind (arith, nat_tests)

same_nat : (n k : ℕ) → nat_eq n k ≡ true → n ≡ k
same_nat n k h = grind (arith, nat_tests)

-- on different cards there are different places
other_card : (p q : Place) (card : ℕ) → p.card ≡ card → nat_eq q.card card ≡ false → is_place p q ≡ false
other_card p q card e h = grind (arith, nat_tests)

-- ---- what is noted

-- what is noted on a card of statements with their counts, one after the other
abbrev pub told : ℕ → Option First → List Place → List ℕ → Option First
told card first [] counts = first
told card first (p ∷ statements) [] = first
told card first (p ∷ statements) (n ∷ counts) = told card (elim (nat_eq p.card card) [ true ↦ noted first p n | false ↦ first ]) statements counts

-- how much begins at a place
abbrev pub among : Place → List Place → List ℕ → ℕ
among p [] counts = 0
among p (q ∷ statements) [] = 0
among p (q ∷ statements) (n ∷ counts) = elim (is_place p q) [ true ↦ n + among p statements counts | false ↦ among p statements counts ]

-- a first statement stays the first one
first_stays : (card : ℕ) (f : First) (statements : List Place) (counts : List ℕ) → f.place.card ≡ card
    → told card (Some f) statements counts ≡ Some (record { place = f.place; count = f.count + among f.place statements counts })
first_stays card f [] counts e = ap {B = Option First} (λ n. Some (record { place = f.place; count = n })) (sym (add-zero f.count))
first_stays card f (p ∷ statements) [] e = ap {B = Option First} (λ n. Some (record { place = f.place; count = n })) (sym (add-zero f.count))
first_stays card f (p ∷ statements) (n ∷ counts) e = go (nat_eq p.card card) (is_place f.place p) (λ g is. first_stays card g statements counts is) refl refl where
  go : (b c : Bool) → ((g : First) → g.place.card ≡ card → told card (Some g) statements counts ≡ Some (record { place = g.place; count = g.count + among g.place statements counts }))
      → nat_eq p.card card ≡ b → is_place f.place p ≡ c
      → told card (elim b [ true ↦ elim c [ true ↦ Some (record { place = p; count = f.count + n }) | false ↦ Some f ] | false ↦ Some f ]) statements counts
      ≡ Some (record { place = f.place; count = f.count + elim c [ true ↦ n + among f.place statements counts | false ↦ among f.place statements counts ] })
  go true true stays h i =
      let p_is : p ≡ f.place = sym (same_place f.place p i) in
      stays (record { place = p; count = f.count + n }) (same_nat p.card card h)
      ∙ ap {B = Option First} (λ q. Some (record { place = q; count = f.count + n + among q statements counts })) p_is
      ∙ ap {B = Option First} (λ m. Some (record { place = f.place; count = m })) (omega arith)
  go true false stays h i = stays f e
  go false true stays h i = absurd (cc (sym i ∙ other_card f.place p card e h))
  go false false stays h i = stays f e

-- the first of some statements on a card, with how much of all begins there
abbrev pub first_of : List Place → List ℕ → Option Place → Option First
first_of statements counts None = None
first_of statements counts (Some p) = Some (record { place = p; count = among p statements counts })

-- a statement on a card is on that card
on_its_card : (card : ℕ) (statements : List Place) (q : Place) → statement_on card statements ≡ Some q → q.card ≡ card
on_its_card card [] q e = absurd (cc e)
on_its_card card (p ∷ statements) q e = go (nat_eq p.card card) (λ is. on_its_card card statements q is) refl e where
  go : (b : Bool) → (statement_on card statements ≡ Some q → q.card ≡ card) → nat_eq p.card card ≡ b → elim b [ true ↦ Some p | false ↦ statement_on card statements ] ≡ Some q → q.card ≡ card
  go true behind h e = ap (λ (o : Option Place). elim o [ Some x ↦ x.card | None ↦ p.card ]) (sym e) ∙ same_nat p.card card h
  go false behind h e = behind e

-- one on another card adds nothing
first_behind : (card : ℕ) (p : Place) (n : ℕ) (statements : List Place) (counts : List ℕ) (o : Option Place) → nat_eq p.card card ≡ false → ((q : Place) → o ≡ Some q → q.card ≡ card)
    → first_of statements counts o ≡ first_of (p ∷ statements) (n ∷ counts) o
first_behind card p n statements counts None h on = refl
first_behind card p n statements counts (Some q) h on =
    ap {B = Option First} (λ b. Some (record { place = q; count = elim b [ true ↦ n + among q statements counts | false ↦ among q statements counts ] })) (sym (other_card q p card (on q refl) h))

pub told_is : (card : ℕ) (statements : List Place) (counts : List ℕ) → length counts ≡ length statements → told card None statements counts ≡ first_of statements counts (statement_on card statements)
told_is card [] counts e = refl
told_is card (p ∷ statements) [] e = absurd (omega (arith, e))
told_is card (p ∷ statements) (n ∷ counts) e = go (nat_eq p.card card) (told_is card statements counts (omega (arith, e))) refl where
  go : (b : Bool) → told card None statements counts ≡ first_of statements counts (statement_on card statements) → nat_eq p.card card ≡ b
      → told card (elim b [ true ↦ Some (record { place = p; count = n }) | false ↦ None ]) statements counts ≡ first_of (p ∷ statements) (n ∷ counts) (elim b [ true ↦ Some p | false ↦ statement_on card statements ])
  go true others h =
      first_stays card (record { place = p; count = n }) statements counts (same_nat p.card card h)
      ∙ ap {B = Option First} (λ b. Some (record { place = p; count = elim b [ true ↦ n + among p statements counts | false ↦ among p statements counts ] })) (sym (place_itself p))
  go false others h =
      others
      ∙ first_behind card p n statements counts (statement_on card statements) h (λ q is. on_its_card card statements q is)

-- what is noted never gets less
pub told_grows : (card : ℕ) (f : First) (statements : List Place) (counts : List ℕ) (most : ℕ) → IfSome (told card (Some f) statements counts) (λ g. g.count ≤ most) → f.count ≤ most
told_grows card f [] counts most h = h
told_grows card f (p ∷ statements) [] most h = h
told_grows card f (p ∷ statements) (n ∷ counts) most h = go (nat_eq p.card card) (is_place f.place p) (λ g is. told_grows card g statements counts most is) h where
  go : (b c : Bool) → ((g : First) → IfSome (told card (Some g) statements counts) (λ g. g.count ≤ most) → g.count ≤ most) → IfSome (told card (elim b [ true ↦ elim c [ true ↦ Some (record { place = p; count = f.count + n }) | false ↦ Some f ] | false ↦ Some f ]) statements counts) (λ g. g.count ≤ most) → f.count ≤ most
  go true true grows h = let m = grows (record { place = p; count = f.count + n }) h in omega (arith, m)
  go true false grows h = grows f h
  go false c grows h = grows f h

-- ---- counts by number and by place

-- how often these numbers are among some, from one on
abbrev times_from : ℕ → List Place → List ℕ → List ℕ
times_from k [] numbers = []
times_from k (p ∷ statements) numbers = times k numbers ∷ times_from (suc k) statements numbers

counts_are : (k : ℕ) (statements : List Place) (counts numbers : List ℕ) → length counts ≡ length statements → ((i : ℕ) → i < length counts → slice_get counts i ≡ Some (times (k + i) numbers)) → counts ≡ times_from k statements numbers
counts_are k [] [] numbers e h = refl
counts_are k [] (n ∷ counts) numbers e h = absurd (omega (arith, e))
counts_are k (p ∷ statements) [] numbers e h = absurd (omega (arith, e))
counts_are k (p ∷ statements) (n ∷ counts) numbers e h =
    let here : k + 0 ≡ k = omega arith in
    let first : n ≡ times k numbers = ap (λ (o : Option ℕ). elim o [ Some m ↦ m | None ↦ n ]) (h 0 (omega arith)) ∙ ap (λ i. times i numbers) here in
    let others : counts ≡ times_from (suc k) statements numbers = counts_are (suc k) statements counts numbers (omega (arith, e)) (λ i l. let on : k + suc i ≡ suc k + i = omega arith in h (suc i) (omega (arith, l)) ∙ ap (λ j. Some (times j numbers)) on) in
    ap (λ m. m ∷ counts) first ∙ ap (λ ms. times k numbers ∷ ms) others

-- one where it is so
abbrev one : Bool → ℕ
one true = 1
one false = 0

-- what a number adds to what begins at a place
abbrev hit : Place → (k n : ℕ) → List Place → ℕ
hit p k n [] = 0
hit p k n (q ∷ statements) = one (nat_eq k n && is_place p q) + hit p (suc k) n statements

number_more : (p : Place) (k n : ℕ) (statements : List Place) (numbers : List ℕ)
    → among p statements (times_from k statements (n ∷ numbers)) ≡ among p statements (times_from k statements numbers) + hit p k n statements
number_more p k n [] numbers = refl
number_more p k n (q ∷ statements) numbers = go (nat_eq k n) (is_place p q) (number_more p (suc k) n statements numbers) where
  go : (b c : Bool) → among p statements (times_from (suc k) statements (n ∷ numbers)) ≡ among p statements (times_from (suc k) statements numbers) + hit p (suc k) n statements
      → elim c [ true ↦ elim b [ true ↦ suc (times k numbers) | false ↦ times k numbers ] + among p statements (times_from (suc k) statements (n ∷ numbers)) | false ↦ among p statements (times_from (suc k) statements (n ∷ numbers)) ]
      ≡ elim c [ true ↦ times k numbers + among p statements (times_from (suc k) statements numbers) | false ↦ among p statements (times_from (suc k) statements numbers) ] + (one (b && c) + hit p (suc k) n statements)
  go true true h = omega (arith, h)
  go true false h = omega (arith, h)
  go false true h = omega (arith, h)
  go false false h = omega (arith, h)

-- what a place is that no number has
abbrev nowhere : Place
nowhere = record { card = 0; column = 0 }

-- a number that no statement has
abbrev spare : List Place → (j x : ℕ) → ℕ
spare [] j x = x
spare (q ∷ statements) zero x = 0
spare (q ∷ statements) (suc j) x = spare statements j x

hit_past : (p : Place) (k n : ℕ) (statements : List Place) → n < k → hit p k n statements ≡ 0
hit_past p k n [] l = refl
hit_past p k n (q ∷ statements) l =
    let other : nat_eq k n ≡ false = grind (arith, nat_tests) in
    let none : one (nat_eq k n && is_place p q) ≡ 0 = ap (λ b. one (b && is_place p q)) other in
    let others : hit p (suc k) n statements ≡ 0 = hit_past p (suc k) n statements (omega (arith, l)) in
    omega (arith, none, others)

hit_is : (p : Place) (k n j : ℕ) (statements : List Place) → n ≡ k + j → hit p k n statements + spare statements j (one (is_place p nowhere)) ≡ one (is_place p (slice_index_or statements j nowhere))
hit_is p k n j [] e = omega arith
hit_is p k n zero (q ∷ statements) e =
    let here : nat_eq k n ≡ true = grind (arith, nat_tests) in
    let it : one (nat_eq k n && is_place p q) ≡ one (is_place p q) = ap (λ b. one (b && is_place p q)) here in
    let past : hit p (suc k) n statements ≡ 0 = hit_past p (suc k) n statements (omega (arith, e)) in
    omega (arith, it, past)
hit_is p k n (suc j) (q ∷ statements) e =
    let other : nat_eq k n ≡ false = grind (arith, nat_tests) in
    let none : one (nat_eq k n && is_place p q) ≡ 0 = ap (λ b. one (b && is_place p q)) other in
    let others : hit p (suc k) n statements + spare statements j (one (is_place p nowhere)) ≡ one (is_place p (slice_index_or statements j nowhere)) = hit_is p (suc k) n j statements (omega (arith, e)) in
    omega (arith, none, others)

-- numbers that no statement has
abbrev spares : Place → List Place → List ℕ → ℕ
spares p statements [] = 0
spares p statements (n ∷ numbers) = spare statements n (one (is_place p nowhere)) + spares p statements numbers

none_begun : (p : Place) (k : ℕ) (statements : List Place) → among p statements (times_from k statements []) ≡ 0
none_begun p k [] = refl
none_begun p k (q ∷ statements) = go (is_place p q) (none_begun p (suc k) statements) where
  go : (c : Bool) → among p statements (times_from (suc k) statements []) ≡ 0 → ◌≡◌ {A = ℕ} (elim c [ true ↦ 0 + among p statements (times_from (suc k) statements []) | false ↦ among p statements (times_from (suc k) statements []) ]) 0
  go true h = omega (arith, h)
  go false h = h

all_begun : (p : Place) (statements : List Place) (numbers : List ℕ) → among p statements (times_from 0 statements numbers) + spares p statements numbers ≡ begun_at p (map (numbered statements) numbers)
all_begun p statements [] = ap (λ m. m + 0) (none_begun p 0 statements)
all_begun p statements (n ∷ numbers) =
    go (is_place p (numbered statements n)) (number_more p 0 n statements numbers) (hit_is p 0 n n statements (omega arith)) (all_begun p statements numbers) where
      go : (c : Bool) → among p statements (times_from 0 statements (n ∷ numbers)) ≡ among p statements (times_from 0 statements numbers) + hit p 0 n statements → hit p 0 n statements + spare statements n (one (is_place p nowhere)) ≡ one c
          → among p statements (times_from 0 statements numbers) + spares p statements numbers ≡ begun_at p (map (numbered statements) numbers)
          → among p statements (times_from 0 statements (n ∷ numbers)) + (spare statements n (one (is_place p nowhere)) + spares p statements numbers) ≡ elim c [ true ↦ suc (begun_at p (map (numbered statements) numbers)) | false ↦ begun_at p (map (numbered statements) numbers) ]
      go true h i j = omega (arith, h, i, j)
      go false h i j = omega (arith, h, i, j)

none_spare : (statements : List Place) (j x : ℕ) → x ≡ 0 → spare statements j x ≡ 0
none_spare [] j x e = e
none_spare (q ∷ statements) zero x e = refl
none_spare (q ∷ statements) (suc j) x e = none_spare statements j x e

no_spares : (p : Place) (statements : List Place) (numbers : List ℕ) → one (is_place p nowhere) ≡ 0 → spares p statements numbers ≡ 0
no_spares p statements [] e = refl
no_spares p statements (n ∷ numbers) e = let a = none_spare statements n (one (is_place p nowhere)) e in let b = no_spares p statements numbers e in omega (arith, a, b)

module _ (statements : List Place) (counts : List ℕ) (begun : List Place) (c : IsCounted statements counts begun) where
  total : (p : Place) → among p statements counts + spares p statements c.numbers ≡ begun_at p begun
  total p =
      let are : counts ≡ times_from 0 statements c.numbers = counts_are 0 statements counts c.numbers c.every (λ i l. let first : i ≡ 0 + i = omega arith in c.counted i l ∙ ap (λ j. Some (times j c.numbers)) first) in
      ap (λ ns. among p statements ns + spares p statements c.numbers) are ∙ all_begun p statements c.numbers ∙ ap (begun_at p) c.are

  -- no more begins at a place than was begun there
  pub among_least : (p : Place) → among p statements counts ≤ begun_at p begun
  among_least p = let t = total p in omega (arith, t)

  -- and as much on a card
  pub among_is : (p : Place) → 1 ≤ p.card → among p statements counts ≡ begun_at p begun
  among_is p l =
      let other : is_place p nowhere ≡ false = grind (arith, nat_tests) in
      let none : spares p statements c.numbers ≡ 0 = no_spares p statements c.numbers (ap one other) in
      let t = total p in
      omega (arith, t, none)

  -- a statement was begun as often as it is counted, at most
  pub count_least : (k : ℕ) (most : ℕ) → k < length counts → ((p : Place) → begun_at p begun ≤ most) → IfSome (slice_get counts k) (λ n. n ≤ most)
  count_least k most l few = subst (λ o. IfSome o (λ n. n ≤ most)) (sym (c.counted k l)) (enough (few (numbered statements k))) where
    times_least : (numbers : List ℕ) → times k numbers ≤ begun_at (numbered statements k) (map (numbered statements) numbers)
    times_least [] = omega arith
    times_least (n ∷ numbers) = go (nat_eq k n) (is_place (numbered statements k) (numbered statements n)) refl refl (times_least numbers) where
      go : (b d : Bool) → nat_eq k n ≡ b → is_place (numbered statements k) (numbered statements n) ≡ d → times k numbers ≤ begun_at (numbered statements k) (map (numbered statements) numbers)
          → elim b [ true ↦ suc (times k numbers) | false ↦ times k numbers ] ≤ elim d [ true ↦ suc (begun_at (numbered statements k) (map (numbered statements) numbers)) | false ↦ begun_at (numbered statements k) (map (numbered statements) numbers) ]
      go true true h i j = omega (arith, j)
      go true false h i j = absurd (cc (sym i ∙ ap (λ m. is_place (numbered statements k) (numbered statements m)) (sym (same_nat k n h)) ∙ place_itself (numbered statements k)))
      go false true h i j = omega (arith, j)
      go false false h i j = j

    enough : begun_at (numbered statements k) begun ≤ most → times k c.numbers ≤ most
    enough l =
        let a = times_least c.numbers in
        let e : begun_at (numbered statements k) (map (numbered statements) c.numbers) ≡ begun_at (numbered statements k) begun = ap (begun_at (numbered statements k)) c.are in
        omega (arith, a, e, l)

  -- what is noted on a card is the count beside it
  pub told_count : (card : ℕ) → 1 ≤ card → count_beside (told card None statements counts) ≡ count_of begun (statement_on card statements)
  told_count card l = ap count_beside (told_is card statements counts c.every) ∙ go (statement_on card statements) (λ q e. on_its_card card statements q e) where
    go : (o : Option Place) → ((q : Place) → o ≡ Some q → q.card ≡ card) → count_beside (first_of statements counts o) ≡ count_of begun o
    go None on = refl
    go (Some p) on = let on_card = on p refl in ap Some (among_is p (omega (arith, l, on_card)))

  -- and is no more than what was begun at a place
  pub told_few : (card most : ℕ) → ((p : Place) → begun_at p begun ≤ most) → IfSome (told card None statements counts) (λ first. first.count ≤ most)
  told_few card most few = subst (λ o. IfSome o (λ (first : First). first.count ≤ most)) (sym (told_is card statements counts c.every)) (go (statement_on card statements)) where
    go : (o : Option Place) → IfSome (first_of statements counts o) (λ first. first.count ≤ most)
    go None = tt
    go (Some p) = let a = among_least p in let b = few p in omega (arith, a, b)
