-- What a table of names has: by each number what its newest declaration says.
use Rattle.std.proofs.Common.{◌≡◌, ◌≢◌, ℕ, zero, suc, ◌+◌, ◌-◌, ◌<◌, ◌≤◌, ◌==◌, List, [], ◌∷◌, ◌++◌, length, drop, reverse, Bool, true, false, refl, sym, ap, ◌∙◌, subst, arith, slice_index_or, slice_set}
use Rattle.std.specs.List.{All, AllByRecursion}
use Rattle.std.proofs.lemmas.Bool.{eqb-true, eq-eqb, false_from_ne_true, false≢true}
use Rattle.std.proofs.lemmas.List.{get_or-set_other, get_or-set_same, length-drop, length-reverse, length-set, reverse-append, set-get_or, set-set}
use Rattle.std.proofs.lemmas.List.Elements.{All-head, All-push, All-tail, All-weaker}
use Rattle.algolw_tree.specs.Standards.{StandardNames, standard_table}
use Rattle.symbol_table.specs.declared.standings.Standing.{Standing}
use Rattle.symbol_table.specs.declared.standings.Standing.TheVariants as standing
use Rattle.symbol_table.specs.Standings.{IsTable, Names, TableView, every_name, names_declared, names_from, standard_count, standing_of, table_view, taken_back}

-- a declaration of another name is passed over
skip : (k n : ℕ) (s : Standing) (names : Names) → k < n → standing_of names n ≡ standing.Unknown → standing_of ((k, s) ∷ names) n ≡ standing.Unknown
skip k n s names l e = subst (λ b. elim b [ true ↦ s | false ↦ standing_of names n ] ≡ standing.Unknown) (sym (false_from_ne_true (k == n) (λ q. let same : k ≡ n = eqb-true k n q in omega arith))) e

standing_past : (names : Names) (n : ℕ) → AllByRecursion (λ (x : ℕ × Standing). x.0 < n) names → standing_of names n ≡ standing.Unknown
standing_past [] n a = refl
standing_past (x ∷ names) n a = skip x.0 n x.1 names a.0 (standing_past names n a.1)

names_before : (first : ℕ) (names : StandardNames) (n : ℕ) → first + length names ≤ n → AllByRecursion (λ (x : ℕ × Standing). x.0 < n) (names_from first names)
names_before first [] n l = tt
names_before first (x ∷ names) n l = (omega (arith, l), names_before (suc first) names n (omega (arith, l)))

-- a number that the names of every deck don't have
pub far_from : (n : ℕ) → standard_count ≤ n → standing_of every_name n ≡ standing.Unknown
far_from n l = standing_past every_name n (names_before 0 standard_table n (omega (arith, l)))

-- the standing of a number that the table has
pub found : (now : List Standing) (bs : Names) (n : ℕ) → n < length now → slice_index_or (taken_back now bs) n standing.Unknown ≡ standing_of every_name n → standing_of (names_declared now bs every_name) n ≡ slice_index_or now n standing.Unknown
found now [] n l e = sym e
found now (x ∷ bs) n l e = go (found (slice_set now x.0 x.1) bs n (subst (λ k. n < k) (sym (length-set now x.0 x.1)) l) e) (x.0 == n) refl
  where
    go : standing_of (names_declared (slice_set now x.0 x.1) bs every_name) n ≡ slice_index_or (slice_set now x.0 x.1) n standing.Unknown → (b : Bool) → (x.0 == n) ≡ b → elim b [ true ↦ slice_index_or now x.0 standing.Unknown | false ↦ standing_of (names_declared (slice_set now x.0 x.1) bs every_name) n ] ≡ slice_index_or now n standing.Unknown
    go ih true q = ap (λ k. slice_index_or now k standing.Unknown) (eqb-true x.0 n q)
    go ih false q =
        let other : n ≢ x.0 = λ s. false≢true (sym q ∙ eq-eqb x.0 n (sym s)) in
        ih ∙ get_or-set_other now x.0 n x.1 standing.Unknown other

-- a number that it hasn't stands for nothing
pub not_found : (now : List Standing) (bs : Names) (n : ℕ) → standard_count ≤ n → All (λ (x : ℕ × Standing). x.0 < n) bs → standing_of (names_declared now bs every_name) n ≡ standing.Unknown
not_found now [] n l below = far_from n l
not_found now (x ∷ bs) n l below = go (not_found (slice_set now x.0 x.1) bs n l (All-tail (λ (y : ℕ × Standing). y.0 < n) x bs below)) (x.0 == n) refl
  where
    go : standing_of (names_declared (slice_set now x.0 x.1) bs every_name) n ≡ standing.Unknown → (b : Bool) → (x.0 == n) ≡ b → elim b [ true ↦ slice_index_or now x.0 standing.Unknown | false ↦ standing_of (names_declared (slice_set now x.0 x.1) bs every_name) n ] ≡ standing.Unknown
    go ih true q = absurd (let same : x.0 ≡ n = eqb-true x.0 n q in let less : x.0 < n = All-head (λ (y : ℕ × Standing). y.0 < n) x bs below in omega arith)
    go ih false q = ih

pub all_reversed : {X : Type 0} (P : X → Type 0) (xs : List X) → All P xs → All P (reverse xs)
all_reversed P [] a = a
all_reversed P (x ∷ xs) a = subst (All P) (sym (reverse-append (x ∷ []) xs)) (All-push P (reverse xs) x (all_reversed P xs (All-tail P x xs a)) (All-head P x xs a))

-- how many names are declared
pub length-names_declared : (now : List Standing) (bs first : Names) → length (names_declared now bs first) ≡ length bs + length first
length-names_declared now [] first = omega arith
length-names_declared now (x ∷ bs) first = let ih = length-names_declared (slice_set now x.0 x.1) bs first in omega (arith, ih)

-- ---- one name more

-- what it stood for before stands behind it
put_back : (now : List Standing) (name : ℕ) (s : Standing) → slice_set (slice_set now name s) name (slice_index_or now name standing.Unknown) ≡ now
put_back now name s = set-set now name s (slice_index_or now name standing.Unknown) ∙ set-get_or now name standing.Unknown

last_first : (before : Names) (x : ℕ × Standing) → reverse (before ++ x ∷ []) ≡ x ∷ reverse before
last_first before x = reverse-append before (x ∷ [])

pub one_more : (now : List Standing) (before : Names) (name : ℕ) (s : Standing) → name < length now → table_view (slice_set now name s) (before ++ (name, slice_index_or now name standing.Unknown) ∷ []) ≡ record (table_view now before) { names = (name, s) ∷ (table_view now before).names }
one_more now before name s l =
    rw (last_first before (name, slice_index_or now name standing.Unknown), put_back now name s, length-set now name s, get_or-set_same now name s standing.Unknown l) refl

pub one_more_table : (now : List Standing) (before : Names) (name : ℕ) (s : Standing) → name < length now → IsTable now before → IsTable (slice_set now name s) (before ++ (name, slice_index_or now name standing.Unknown) ∷ [])
one_more_table now before name s l h = record {
  standard = subst (λ k. standard_count ≤ k) (sym (length-set now name s)) h.standard;
  numbered = subst (λ k. All (λ (x : ℕ × Standing). x.0 < k) (before ++ (name, slice_index_or now name standing.Unknown) ∷ [])) (sym (length-set now name s)) (All-push (λ (x : ℕ × Standing). x.0 < length now) before (name, slice_index_or now name standing.Unknown) h.numbered l);
  first = λ n below.
      subst (λ bs. slice_index_or (taken_back (slice_set now name s) bs) n standing.Unknown ≡ standing_of every_name n) (sym (last_first before (name, slice_index_or now name standing.Unknown)))
      (subst (λ xs. slice_index_or (taken_back xs (reverse before)) n standing.Unknown ≡ standing_of every_name n) (sym (put_back now name s))
      (h.first n (subst (λ k. n < k) (length-set now name s) below)));
}

-- ---- names less

drop_more : {X : Type 0} (k : ℕ) (xs : List X) → drop 1 (drop k xs) ≡ drop (suc k) xs
drop_more zero xs = refl
drop_more (suc k) [] = refl
drop_more (suc k) (x ∷ xs) = drop_more k xs

-- the last so many of a list, and one less
pub dropped : {X : Type 0} (xs ys : List X) → 0 < length ys → ys ≡ drop (length xs - length ys) xs → drop 1 ys ≡ drop (length xs - length (drop 1 ys)) xs
dropped xs ys l e =
    let one : length (drop 1 ys) ≡ length ys - 1 = length-drop 1 ys in
    let same : length ys ≡ length xs - (length xs - length ys) = ap length e ∙ length-drop (length xs - length ys) xs in
    let more : suc (length xs - length ys) ≡ length xs - length (drop 1 ys) = omega (arith, one, same, l) in
    ap (drop 1) e ∙ drop_more (length xs - length ys) xs ∙ ap (λ n. drop n xs) more

pub same_view : (t : TableView) (names : Names) (count : ℕ) → t.names ≡ names → t.count ≡ count → t ≡ record { names = names; count = count }
same_view t names count a b = subst (λ ns. t ≡ record { names = ns; count = count }) a (subst (λ k. t ≡ record { names = t.names; count = k }) b refl)

-- ---- what the table answers

pub standing_found : (now : List Standing) (before : Names) (n : ℕ) → IsTable now before → n < length now → standing_of (table_view now before).names n ≡ slice_index_or now n standing.Unknown
standing_found now before n h l = found now (reverse before) n l (h.first n l)

pub standing_far : (now : List Standing) (before : Names) (n : ℕ) → IsTable now before → length now ≤ n → standing_of (table_view now before).names n ≡ standing.Unknown
standing_far now before n h l =
    let below : All (λ (x : ℕ × Standing). x.0 < n) (reverse before) = all_reversed (λ (x : ℕ × Standing). x.0 < n) before (All-weaker (λ (x : ℕ × Standing). x.0 < length now) (λ (x : ℕ × Standing). x.0 < n) (λ x less. omega (arith, less, l)) before h.numbered) in
    not_found now (reverse before) n (let many : standard_count ≤ length now = h.standard in omega (arith, many, l)) below

pub length-names : (now : List Standing) (before : Names) → length (table_view now before).names ≡ length before + standard_count
length-names now before = let all = length-names_declared now (reverse before) every_name in let as_many = length-reverse before in omega (arith, all, as_many)
