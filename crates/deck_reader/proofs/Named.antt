-- Items with names, when one more comes.
use Rattle.std.proofs.Common.{◌≡◌, ℕ, ◌<◌, ◌≤◌, Bool, true, false, cond, not, ◌&&◌, ◌||◌, nat_lt, List, [], ◌∷◌, ◌++◌, length, take, Option, Some, None, refl, sym, ap, ◌∙◌, arith, bytes_eq, filter, append-nil}
use Rattle.std.specs.List.{list_any, filter_map, cons_option}
use Rattle.std.proofs.lemmas.Bool.Decides.{nat_tests}
use Rattle.std.proofs.lemmas.List.{length-take-le, length-append, take-append-le, take_all}
use Rattle.std.proofs.lemmas.List.Elements.{filter-append, filter_map-append}
use Rattle.std.proofs.lemmas.Map.Views.{any-filter_same}
use Rattle.std.proofs.lemmas.Slice.Eq.{bytes_eq-Decides}
use Rattle.deck_reader.specs.Named.{first_by_name, with_one}

other_name_by : (b : Bool) (x y a : List ℕ) → bytes_eq x y ≡ b → bytes_eq y a ≡ false → bytes_eq x a ≡ true → not b ≡ true
other_name_by false x y a is differs agrees = refl
other_name_by true x y a is differs agrees =
    let xy : x ≡ y = (bytes_eq-Decides x y).0 is in
    let xa : x ≡ a = (bytes_eq-Decides x a).0 agrees in
    let ya : bytes_eq y a ≡ true = (bytes_eq-Decides y a).1 (sym xy ∙ xa) in
    cc

-- what has the one name hasn't the other
other_name : (x y a : List ℕ) → bytes_eq y a ≡ false → bytes_eq x a ≡ true → not (bytes_eq x y) ≡ true
other_name x y a differs agrees = other_name_by (bytes_eq x y) x y a refl differs agrees

bytes_eq-sym_by : (b c : Bool) (x y : List ℕ) → bytes_eq x y ≡ b → bytes_eq y x ≡ c → b ≡ c
bytes_eq-sym_by true true x y h k = refl
bytes_eq-sym_by false false x y h k = refl
bytes_eq-sym_by true false x y h k =
    let agrees : bytes_eq y x ≡ true = (bytes_eq-Decides y x).1 (sym ((bytes_eq-Decides x y).0 h)) in cc
bytes_eq-sym_by false true x y h k =
    let agrees : bytes_eq x y ≡ true = (bytes_eq-Decides x y).1 (sym ((bytes_eq-Decides y x).0 k)) in cc

bytes_eq-sym : (x y : List ℕ) → bytes_eq x y ≡ bytes_eq y x
bytes_eq-sym x y = bytes_eq-sym_by (bytes_eq x y) (bytes_eq y x) x y refl refl

module _ {A : Type 0} (name : A → List ℕ) where
  -- one more item behind y: whether y has its name, whether one of the firsts has, and whether one of those kept has
  more_behind : (same any found : Bool) (y a : A) (firsts : List A) → bytes_eq (name y) (name a) ≡ same → (same ≡ false → found ≡ any)
      → y ∷ filter (λ x. not (bytes_eq (name x) (name y))) (cond any firsts (firsts ++ a ∷ []))
      ≡ cond (same || found) (y ∷ filter (λ x. not (bytes_eq (name x) (name y))) firsts) ((y ∷ filter (λ x. not (bytes_eq (name x) (name y))) firsts) ++ a ∷ [])
  more_behind true true found y a firsts same h = refl
  more_behind true false found y a firsts same h =
      let kept : List A = filter (λ x. not (bytes_eq (name x) (name y))) firsts in
      ap (λ (xs : List A). y ∷ xs) (filter-append (λ x. not (bytes_eq (name x) (name y))) firsts (a ∷ [])
      ∙ ap (λ (b : Bool). kept ++ cond (not b) (a ∷ []) []) (bytes_eq-sym (name a) (name y) ∙ same)
      ∙ append-nil kept)
  more_behind false true true y a firsts same h = refl
  more_behind false true false y a firsts same h = let e : false ≡ true = h refl in cc
  more_behind false false true y a firsts same h = let e : true ≡ false = h refl in cc
  more_behind false false false y a firsts same h =
      let kept : List A = filter (λ x. not (bytes_eq (name x) (name y))) firsts in
      ap (λ (xs : List A). y ∷ xs) (filter-append (λ x. not (bytes_eq (name x) (name y))) firsts (a ∷ [])
      ∙ ap (λ (b : Bool). kept ++ cond (not b) (a ∷ []) []) (bytes_eq-sym (name a) (name y) ∙ same))

  -- an item more is one of the first of each name unless one of these has its name
  first_by_name-push : (items : List A) (a : A)
      → first_by_name name (items ++ a ∷ []) ≡ cond (list_any (λ x. bytes_eq (name x) (name a)) (first_by_name name items)) (first_by_name name items) (first_by_name name items ++ a ∷ [])
  first_by_name-push [] a = refl
  first_by_name-push (y ∷ items) a =
      let firsts = first_by_name name items in
      ap (λ (xs : List A). y ∷ filter (λ x. not (bytes_eq (name x) (name y))) xs) (first_by_name-push items a)
      ∙ more_behind (bytes_eq (name y) (name a)) (list_any (λ x. bytes_eq (name x) (name a)) firsts) (list_any (λ x. bytes_eq (name x) (name a)) (filter (λ x. not (bytes_eq (name x) (name y))) firsts)) y a firsts refl
      (λ other. any-filter_same (λ x. bytes_eq (name x) (name a)) (λ x. not (bytes_eq (name x) (name y))) true (λ x agrees. other_name (name x) (name y) (name a) other agrees) firsts)

  with_room : (room any : Bool) (n : ℕ) (firsts : List A) (a : A) → room ≡ true → length firsts < n
      → take n (cond any firsts (firsts ++ a ∷ [])) ≡ cond (room && not any) (firsts ++ a ∷ []) firsts
  with_room true true n firsts a is h = take_all n firsts (omega arith)
  with_room true false n firsts a is h = take_all n (firsts ++ a ∷ []) (omega (arith, length-append firsts (a ∷ [])))
  with_room false any n firsts a is h = cc

  with_none : (room any there : Bool) (n : ℕ) (firsts : List A) (a : A) → room ≡ false → n ≤ length firsts
      → take n (cond any firsts (firsts ++ a ∷ [])) ≡ cond (room && not there) (take n firsts ++ a ∷ []) (take n firsts)
  with_none false true there n firsts a is h = refl
  with_none false false there n firsts a is h = take-append-le n firsts (a ∷ []) h
  with_none true any there n firsts a is h = cc

  limited_by : (room : Bool) (n : ℕ) (firsts : List A) (a : A) → nat_lt (length firsts) n ≡ room
      → take n (cond (list_any (λ x. bytes_eq (name x) (name a)) firsts) firsts (firsts ++ a ∷ []))
      ≡ cond (nat_lt (length (take n firsts)) n && not (list_any (λ x. bytes_eq (name x) (name a)) (take n firsts))) (take n firsts ++ a ∷ []) (take n firsts)
  limited_by true n firsts a is =
      let few : length firsts < n = grind (arith, nat_tests) in
      let all : take n firsts ≡ firsts = take_all n firsts (omega arith) in
      with_room (nat_lt (length firsts) n) (list_any (λ x. bytes_eq (name x) (name a)) firsts) n firsts a is few
      ∙ ap (λ (xs : List A). cond (nat_lt (length xs) n && not (list_any (λ x. bytes_eq (name x) (name a)) xs)) (xs ++ a ∷ []) xs) (sym all)
  limited_by false n firsts a is =
      let many : n ≤ length firsts = grind (arith, nat_tests) in
      let len : length (take n firsts) ≡ n = length-take-le n firsts many in
      let none : nat_lt (length (take n firsts)) n ≡ false = grind (arith, nat_tests) in
      with_none (nat_lt (length (take n firsts)) n) (list_any (λ x. bytes_eq (name x) (name a)) firsts) (list_any (λ x. bytes_eq (name x) (name a)) (take n firsts)) n firsts a none many

  push_by : (n : ℕ) (r : Option A) (items : List A) → take n (first_by_name name (items ++ cons_option r [])) ≡ with_one name n (take n (first_by_name name items)) r
  push_by n None items = ap (λ (xs : List A). take n (first_by_name name xs)) (append-nil items)
  push_by n (Some a) items =
      ap (λ (xs : List A). take n xs) (first_by_name-push items a)
      ∙ limited_by (nat_lt (length (first_by_name name items)) n) n (first_by_name name items) a refl

  -- one more of what may state an item
  pub stated-push : {B : Type 0} (n : ℕ) (stated : B → Option A) (xs : List B) (x : B) → take n (first_by_name name (filter_map stated (xs ++ x ∷ []))) ≡ with_one name n (take n (first_by_name name (filter_map stated xs))) (stated x)
  stated-push n stated xs x =
      ap (λ (items : List A). take n (first_by_name name items)) (filter_map-append stated xs (x ∷ []))
      ∙ push_by n (stated x) (filter_map stated xs)
