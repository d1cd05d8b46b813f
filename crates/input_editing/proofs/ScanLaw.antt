-- Scanning gives what is related, and a fault where nothing is.
use Rattle.std.proofs.Common.{◌≡◌, ◌⊎◌, inl, inr, ℕ, zero, suc, ◌+◌, ◌-◌, ◌%◌, ◌<◌, Bool, true, false, cond, List, [], ◌∷◌, ◌++◌, length, take, drop, Option, Some, None, Result, Ok, Err, refl, sym, ap, subst, ◌∙◌, append-nil, append_assoc, add-zero, arith}
use Rattle.std.proofs.lemmas.Bool.{cond-true, cond-false, eqb-true, lt-ltb, le-ltb, ltb-true, ltb-false, both_ways}
use Rattle.std.proofs.lemmas.List.{length-append, length-take, length-drop, length-replicate, drop-drop, drop_at, take_all, take-append-drop}
use Rattle.std.specs.List.{prefix_len}
use Rattle.std.specs.Result.{result_unwrap_or}
use Rattle.short_text.specs.Blanks.{blanks}
use Rattle.value_ops.specs.declared.faults.Fault.{Fault}
use Rattle.value_ops.specs.declared.faults.Fault.TheVariants.{NoDataLeft, DatumIllFormed}
use Rattle.value_ops.specs.declared.values.SimpleType.{SimpleType}
use Rattle.value_ops.specs.declared.values.Value.{Value}
use Rattle.input_editing.specs.Columns.{columns, line_at, is_on_card}
use Rattle.input_editing.specs.Scanning.{is_blank, ends_item, Scans, item_at, item_start, placed, scanned}
use Rattle.input_editing.specs.Laws.{IsSpent, ScanningIsExact}
use Rattle.input_editing.proofs.CardColumns.{length-columns}
use Rattle.input_editing.proofs.ItemStarts.{behind_line}
use Rattle.input_editing.proofs.FrontItems.{item_at_sound, item_at_complete, item_begun}

-- the blanks in front
front_blanks : (xs : List ℕ) → take (prefix_len is_blank xs) xs ≡ blanks (prefix_len is_blank xs)
front_blanks [] = refl
front_blanks (c ∷ cs) = by_blank (front_blanks cs) (is_blank c) refl
  where
    by_blank : take (prefix_len is_blank cs) cs ≡ blanks (prefix_len is_blank cs) → (b : Bool) → is_blank c ≡ b → take (cond (is_blank c) (1 + prefix_len is_blank cs) 0) (c ∷ cs) ≡ blanks (cond (is_blank c) (1 + prefix_len is_blank cs) 0)
    by_blank rest false is = let n : cond {A = ℕ} (is_blank c) (1 + prefix_len is_blank cs) 0 ≡ 0 = ap (λ (b : Bool). cond {A = ℕ} b (1 + prefix_len is_blank cs) 0) is in rw n refl
    by_blank rest true is =
        let next : 1 + prefix_len is_blank cs ≡ suc (prefix_len is_blank cs) = omega arith in
        let n : cond {A = ℕ} (is_blank c) (1 + prefix_len is_blank cs) 0 ≡ suc (prefix_len is_blank cs) = ap (λ (b : Bool). cond {A = ℕ} b (1 + prefix_len is_blank cs) 0) is ∙ next in
        rw n ((λ i. eqb-true c 32 is i ∷ rest i))

begun_behind : (xs : List ℕ) → prefix_len is_blank xs < length xs → ends_item (drop (prefix_len is_blank xs) xs) ≡ false
begun_behind [] some = absurd (omega arith)
begun_behind (c ∷ cs) some = by_blank (begun_behind cs) (is_blank c) refl
  where
    by_blank : (prefix_len is_blank cs < length cs → ends_item (drop (prefix_len is_blank cs) cs) ≡ false) → (b : Bool) → is_blank c ≡ b → ends_item (drop (cond (is_blank c) (1 + prefix_len is_blank cs) 0) (c ∷ cs)) ≡ false
    by_blank rest false is = let n : cond {A = ℕ} (is_blank c) (1 + prefix_len is_blank cs) 0 ≡ 0 = ap (λ (b : Bool). cond {A = ℕ} b (1 + prefix_len is_blank cs) 0) is in rw n is
    by_blank rest true is =
        let next : 1 + prefix_len is_blank cs ≡ suc (prefix_len is_blank cs) = omega arith in
        let n : cond {A = ℕ} (is_blank c) (1 + prefix_len is_blank cs) 0 ≡ suc (prefix_len is_blank cs) = ap (λ (b : Bool). cond {A = ℕ} b (1 + prefix_len is_blank cs) 0) is ∙ next in
        rw n (rest (omega arith))

begun_len : (item : List ℕ) → ends_item item ≡ false → prefix_len is_blank item ≡ 0
begun_len [] begun = cc
begun_len (c ∷ cs) begun = ap (λ (b : Bool). cond {A = ℕ} b (1 + prefix_len is_blank cs) 0) begun

begun_append : (item behind : List ℕ) → ends_item item ≡ false → ends_item (item ++ behind) ≡ false
begun_append [] behind begun = cc
begun_append (c ∷ cs) behind begun = begun

begun_some : (item : List ℕ) → ends_item item ≡ false → 0 < length item
begun_some [] begun = cc
begun_some (c ∷ cs) begun = omega arith

blanks_then : (n : ℕ) (xs : List ℕ) → prefix_len is_blank (blanks n ++ xs) ≡ n + prefix_len is_blank xs
blanks_then zero xs = omega arith
blanks_then (suc n) xs = omega (arith, blanks_then n xs)

-- what is left from a place on is blanks, and what is left from the item on
start_cut : (cards : List (List ℕ)) (from : ℕ) → drop from (columns cards) ≡ blanks (prefix_len is_blank (drop from (columns cards))) ++ drop (item_start cards from) (columns cards)
start_cut cards from =
    let rest = drop from (columns cards) in
    let n = prefix_len is_blank rest in
    sym (take-append-drop n rest)
    ∙ (λ i. front_blanks rest i ++ drop-drop n from (columns cards) i)

-- no item starts on a card exactly where only blanks are left
spent_from : (cards : List (List ℕ)) (from : ℕ) → is_on_card cards (item_start cards from) ≡ false → IsSpent cards from
spent_from cards from none =
    let rest = drop from (columns cards) in
    let n = prefix_len is_blank rest in
    let past = ltb-false (item_start cards from) (length (columns cards)) none in
    (n, sym (take_all n rest (omega (arith, length-drop from (columns cards)))) ∙ front_blanks rest)

spent_none : (cards : List (List ℕ)) (from : ℕ) → IsSpent cards from → is_on_card cards (item_start cards from) ≡ false
spent_none cards from spent =
    let rest = drop from (columns cards) in
    let n = spent.0 in
    let count : prefix_len is_blank rest ≡ prefix_len is_blank (blanks n ++ []) = ap (prefix_len is_blank) (spent.1 ∙ sym (append-nil (blanks n))) in
    let long : length rest ≡ n = ap length spent.1 ∙ length-replicate n 32 in
    le-ltb (item_start cards from) (length (columns cards)) (omega (arith, blanks_then n [], length-drop from (columns cards)))

-- the line of a place on a card goes up to the card's end
line_length : (cards : List (List ℕ)) (place : ℕ) → is_on_card cards place ≡ true → length (line_at cards place) ≡ 80 - place % 80
line_length cards place on =
    let within = ltb-true place (length (columns cards)) on in
    omega (arith, length-take (80 - place % 80) (drop place (columns cards)), length-drop place (columns cards), length-columns cards)

-- what scanning gives, by where the item starts
abbrev scanned_from : List (List ℕ) → SimpleType → ℕ → Result (Value × ℕ) Fault
scanned_from cards kind start = cond (is_on_card cards start) (placed start (item_at kind (line_at cards start))) (Err NoDataLeft)

-- what is placed
placed_ok : (start : ℕ) (o : Option (Value × ℕ)) (value : Value) (to : ℕ) → placed start o ≡ Ok (value, to) → (n : ℕ) × (o ≡ Some (value, n)) × (start + n ≡ to)
placed_ok start None value to h = cc
placed_ok start (Some p) value to h =
    let inside : Result (Value × ℕ) Fault → Value × ℕ = λ r. result_unwrap_or r (value, to) in
    let same : ◌≡◌ {A = Value × ℕ} (p.0, start + p.1) (value, to) = ap inside h in
    (p.1, ap (λ (v : Value). Some (v, p.1)) (ap (λ (q : Value × ℕ). q.0) same), ap (λ (q : Value × ℕ). q.1) same)

placed_err : (start : ℕ) (o : Option (Value × ℕ)) (fault : Fault) → placed start o ≡ Err fault → fault ≡ DatumIllFormed
placed_err start None fault h = cc
placed_err start (Some p) fault h = cc

at_end : (start n to : ℕ) → n ≡ 80 - start % 80 → start + n ≡ to → to % 80 ≡ 0
at_end start n to long is = omega arith

ended_by : (behind later : List ℕ) (start to n : ℕ) → ends_item behind ≡ true → n + length behind ≡ 80 - start % 80 → start + n ≡ to → (ends_item (behind ++ later) ≡ true) ⊎ (to % 80 ≡ 0)
ended_by [] later start to n ended long is = inr (at_end start n to (omega arith) is)
ended_by (c ∷ cs) later start to n ended long is = inl ended

scans_from : (cards : List (List ℕ)) (from : ℕ) (kind : SimpleType) (value : Value) (to : ℕ) → is_on_card cards (item_start cards from) ≡ true → placed (item_start cards from) (item_at kind (line_at cards (item_start cards from))) ≡ Ok (value, to) → Scans cards from kind value to
scans_from cards from kind value to on h =
    let start = item_start cards from in
    let before = prefix_len is_blank (drop from (columns cards)) in
    let line = line_at cards start in
    let later = behind_line cards start in
    let found = placed_ok start (item_at kind line) value to h in
    let front = item_at_sound kind line value found.0 found.1 in
    let long : found.0 + length front.behind ≡ 80 - start % 80 = omega (arith, ap length front.cut, length-append front.item front.behind, front.long, line_length cards start on) in
    let cut : drop start (columns cards) ≡ front.item ++ (front.behind ++ later) =
    sym (take-append-drop (80 - start % 80) (drop start (columns cards)))
    ∙ ap (λ (xs : List ℕ). xs ++ later) front.cut
    ∙ append_assoc front.item front.behind later in
    record {
      before = before;
      item = front.item;
      behind = front.behind ++ later;
      cut = start_cut cards from ∙ ap (λ (xs : List ℕ). blanks before ++ xs) cut;
      begun = item_begun kind front.item value front.form;
      on_card = omega (arith, front.long);
      ended = ended_by front.behind later start to found.0 front.ended long found.2;
      form = front.form;
      place = omega (arith, front.long, found.2);
    }

ends_item-take : (n : ℕ) (behind : List ℕ) → ends_item behind ≡ true → ends_item (take n behind) ≡ true
ends_item-take zero behind h = refl
ends_item-take (suc n) [] h = refl
ends_item-take (suc n) (c ∷ cs) h = h

take_behind : (item behind : List ℕ) (n : ℕ) → take (length item + n) (item ++ behind) ≡ item ++ take n behind
take_behind [] behind n = let none : length {A = ℕ} [] + n ≡ n = omega arith in ap (λ (k : ℕ). take k behind) none
take_behind (c ∷ cs) behind n =
    let next : length (c ∷ cs) + n ≡ suc (length cs + n) = omega arith in
    ap (λ (k : ℕ). take k (c ∷ (cs ++ behind))) next ∙ ap (λ (xs : List ℕ). c ∷ xs) (take_behind cs behind n)

-- what is left on the card behind an item begins with a blank, or is nothing
ended_on_card : (behind : List ℕ) (place long to left : ℕ) → (ends_item behind ≡ true) ⊎ (to % 80 ≡ 0) → 0 < long → to ≡ place + long → place % 80 + long + left ≡ 80 → ends_item (take left behind) ≡ true
ended_on_card behind place long to left (inl h) some is all = ends_item-take left behind h
ended_on_card behind place long to left (inr h) some is all =
    let none : left ≡ 0 = omega arith in
    ap (λ (n : ℕ). ends_item (take n behind)) none

scanned_of : (cards : List (List ℕ)) (from : ℕ) (kind : SimpleType) (value : Value) (to : ℕ) → Scans cards from kind value to → scanned cards from kind ≡ Ok (value, to)
scanned_of cards from kind value to s =
    let rest = drop from (columns cards) in
    let place = from + s.before in
    let left = 80 - place % 80 - length s.item in
    let some = begun_some s.item s.begun in
    let count : prefix_len is_blank rest ≡ s.before = ap (prefix_len is_blank) s.cut ∙ blanks_then s.before (s.item ++ s.behind) ∙ ap (λ (n : ℕ). s.before + n) (begun_len (s.item ++ s.behind) (begun_append s.item s.behind s.begun)) ∙ add-zero s.before in
    let start : item_start cards from ≡ place = ap (λ (n : ℕ). from + n) count in
    let cut : drop place (columns cards) ≡ s.item ++ s.behind = sym (drop-drop s.before from (columns cards)) ∙ ap (drop s.before) s.cut ∙ drop_at (blanks s.before) (s.item ++ s.behind) s.before (length-replicate s.before 32) in
    let on : is_on_card cards place ≡ true = lt-ltb place (length (columns cards)) (omega (arith, ap length cut, length-drop place (columns cards), length-append s.item s.behind)) in
    let room : 80 - place % 80 ≡ length s.item + left = omega (arith, s.on_card) in
    let line : line_at cards place ≡ s.item ++ take left s.behind = (λ i. take (room i) (cut i)) ∙ take_behind s.item s.behind left in
    let ended : ends_item (take left s.behind) ≡ true = ended_on_card s.behind place (length s.item) to left s.ended some s.place (omega (arith, s.on_card)) in
    ap (scanned_from cards kind) start
    ∙ cond-true (is_on_card cards place) (placed place (item_at kind (line_at cards place))) (Err NoDataLeft) on
    ∙ ap (placed place) (ap (item_at kind) line ∙ item_at_complete kind s.item (take left s.behind) value s.form ended)
    ∙ ap (λ (n : ℕ). Ok (value, n)) (sym s.place)

-- what scanning gives is one of three: a value that is found, and two faults
record Finds (cards : List (List ℕ)) (from : ℕ) (kind : SimpleType) (r : Result (Value × ℕ) Fault) : Type 0 where
  value : Value
  to : ℕ
  is : r ≡ Ok (value, to)
  scans : Scans cards from kind value to

abbrev Cases : List (List ℕ) → ℕ → SimpleType → Result (Value × ℕ) Fault → Type 0
Cases cards from kind r = Finds cards from kind r ⊎ (((r ≡ Err NoDataLeft) × IsSpent cards from) ⊎ ((r ≡ Err DatumIllFormed) × (IsSpent cards from → ⊥)))

scanned_cases : (cards : List (List ℕ)) (from : ℕ) (kind : SimpleType) → Cases cards from kind (scanned cards from kind)
scanned_cases cards from kind = by_card (is_on_card cards (item_start cards from)) refl
  where
    by_card : (b : Bool) → is_on_card cards (item_start cards from) ≡ b → Cases cards from kind (scanned cards from kind)
    by_card false none = inr (inl (cond-false _ _ _ none, spent_from cards from none))
    by_card true on = by_item (placed (item_start cards from) (item_at kind (line_at cards (item_start cards from)))) refl
      where
        here : scanned cards from kind ≡ placed (item_start cards from) (item_at kind (line_at cards (item_start cards from)))
        here = cond-true _ _ _ on

        by_item : (p : Result (Value × ℕ) Fault) → placed (item_start cards from) (item_at kind (line_at cards (item_start cards from))) ≡ p → Cases cards from kind (scanned cards from kind)
        by_item (Ok p) is = inl (record { value = p.0; to = p.1; is = here ∙ is; scans = scans_from cards from kind p.0 p.1 on is })
        by_item (Err fault) is = inr (inr (here ∙ is ∙ ap Err (placed_err (item_start cards from) (item_at kind (line_at cards (item_start cards from))) fault is), λ spent. both_ways _ (spent_none cards from spent) on))

same_found : (a b : Value) (m n : ℕ) → ◌≡◌ {A = Result (Value × ℕ) Fault} (Ok (a, m)) (Ok (b, n)) → (a ≡ b) × (m ≡ n)
same_found a b m n h =
    let inside : Result (Value × ℕ) Fault → Value × ℕ = λ r. result_unwrap_or r (a, m) in
    let same : ◌≡◌ {A = Value × ℕ} (a, m) (b, n) = ap inside h in
    (ap (λ (q : Value × ℕ). q.0) same, ap (λ (q : Value × ℕ). q.1) same)

scanned_spent : (cards : List (List ℕ)) (from : ℕ) (kind : SimpleType) → IsSpent cards from → scanned cards from kind ≡ Err NoDataLeft
scanned_spent cards from kind spent = cond-false _ _ _ (spent_none cards from spent)

found_in : (cards : List (List ℕ)) (from : ℕ) (kind : SimpleType) (r : Result (Value × ℕ) Fault) (value : Value) (to : ℕ) → Cases cards from kind r → r ≡ Ok (value, to) → Scans cards from kind value to
found_in cards from kind r value to (inl found) h =
    let same = same_found found.value value found.to to (sym found.is ∙ h) in
    subst (Scans cards from kind value) same.1 (subst (λ (v : Value). Scans cards from kind v found.to) same.0 found.scans)
found_in cards from kind r value to (inr (inl spent)) h = let e : ◌≡◌ {A = Result (Value × ℕ) Fault} (Err NoDataLeft) (Ok (value, to)) = sym spent.0 ∙ h in cc
found_in cards from kind r value to (inr (inr unfit)) h = let e : ◌≡◌ {A = Result (Value × ℕ) Fault} (Err DatumIllFormed) (Ok (value, to)) = sym unfit.0 ∙ h in cc

spent_in : (cards : List (List ℕ)) (from : ℕ) (kind : SimpleType) (r : Result (Value × ℕ) Fault) → Cases cards from kind r → r ≡ Err NoDataLeft → IsSpent cards from
spent_in cards from kind r (inl found) h = let e : ◌≡◌ {A = Result (Value × ℕ) Fault} (Ok (found.value, found.to)) (Err NoDataLeft) = sym found.is ∙ h in cc
spent_in cards from kind r (inr (inl spent)) h = spent.1
spent_in cards from kind r (inr (inr unfit)) h = let e : ◌≡◌ {A = Result (Value × ℕ) Fault} (Err DatumIllFormed) (Err NoDataLeft) = sym unfit.0 ∙ h in cc

unfit_in : (cards : List (List ℕ)) (from : ℕ) (kind : SimpleType) (r : Result (Value × ℕ) Fault) → Cases cards from kind r → (IsSpent cards from → ⊥) → ((value : Value) (to : ℕ) → Scans cards from kind value to → ⊥) → r ≡ Err DatumIllFormed
unfit_in cards from kind r (inl found) left none = absurd (none found.value found.to found.scans)
unfit_in cards from kind r (inr (inl spent)) left none = absurd (left spent.1)
unfit_in cards from kind r (inr (inr unfit)) left none = unfit.0

fault_in : (cards : List (List ℕ)) (from : ℕ) (kind : SimpleType) (r : Result (Value × ℕ) Fault) (fault : Fault) → Cases cards from kind r → r ≡ Err fault → (fault ≡ NoDataLeft) ⊎ (fault ≡ DatumIllFormed)
fault_in cards from kind r fault (inl found) h = let e : ◌≡◌ {A = Result (Value × ℕ) Fault} (Ok (found.value, found.to)) (Err fault) = sym found.is ∙ h in cc
fault_in cards from kind r fault (inr (inl spent)) h = let e : ◌≡◌ {A = Result (Value × ℕ) Fault} (Err fault) (Err NoDataLeft) = sym h ∙ spent.0 in inl cc
fault_in cards from kind r fault (inr (inr unfit)) h = let e : ◌≡◌ {A = Result (Value × ℕ) Fault} (Err fault) (Err DatumIllFormed) = sym h ∙ unfit.0 in inr cc

left_of : (cards : List (List ℕ)) (from : ℕ) (kind : SimpleType) → scanned cards from kind ≡ Err DatumIllFormed → IsSpent cards from → ⊥
left_of cards from kind h spent = let e : ◌≡◌ {A = Result (Value × ℕ) Fault} (Err NoDataLeft) (Err DatumIllFormed) = sym (scanned_spent cards from kind spent) ∙ h in cc

none_of : (cards : List (List ℕ)) (from : ℕ) (kind : SimpleType) → scanned cards from kind ≡ Err DatumIllFormed → (value : Value) (to : ℕ) → Scans cards from kind value to → ⊥
none_of cards from kind h value to scans = let e : ◌≡◌ {A = Result (Value × ℕ) Fault} (Ok (value, to)) (Err DatumIllFormed) = sym (scanned_of cards from kind value to scans) ∙ h in cc

pub scanning_is_exact : ScanningIsExact
scanning_is_exact cards from kind =
    let r = scanned cards from kind in
    let cases = scanned_cases cards from kind in
    record {
      found = λ value to. (found_in cards from kind r value to cases, scanned_of cards from kind value to);
      one = λ a b m n first second. same_found a b m n (sym (scanned_of cards from kind a m first) ∙ scanned_of cards from kind b n second);
      no_data = (spent_in cards from kind r cases, scanned_spent cards from kind);
      ill_formed = (λ h. (left_of cards from kind h, none_of cards from kind h), λ h. unfit_in cards from kind r cases h.0 h.1);
      no_other = λ fault. fault_in cards from kind r fault cases;
    }
