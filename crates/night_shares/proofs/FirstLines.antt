-- The first line of a text.
use Rattle.std.proofs.Common.{◌≡◌, ℕ, zero, suc, ◌+◌, ◌-◌, ◌≤◌, take, drop, ◌<◌, ◌==◌, ◌||◌, Bool, true, false, List, [], ◌∷◌, ◌++◌, length, Option, Some, None, refl, sym, ap, ◌∙◌, arith, append_assoc}
use Rattle.std.specs.List.{list_any, onto_first, slice_range}
use Rattle.std.specs.Io.KnownBytes.{Consumes, IsAtEnd, prepend_known}
use Rattle.std.proofs.lemmas.List.Folds.{list_any-append}
use Rattle.std.proofs.lemmas.List.{drop-take, drop_at, length-append}
use Rattle.std.proofs.lemmas.List.Splits.{length-slice_split, slice_split-cons_no}
use Rattle.deck_reader.specs.Cards.{all_but_last, last_of, parts, pieces, unless_empty}
use Rattle.deck_reader.proofs.Cuts.{one_part}
use Rattle.night_shares.specs.declared.lines.Lines.{Lines}
use Rattle.night_shares.specs.Endings.{EndsLine}
use Rattle.night_shares.specs.Reading.{HasLongFirst, IsInLine, Moves, TakesLine, held, to_come}

neither_of : (a b : Bool) → (a || b) ≡ false → (a ≡ false) × (b ≡ false)
neither_of true b h = cc
neither_of false b h = (refl, h)

-- the first of these parts stands behind this text
abbrev onto : List ℕ → List (List ℕ) → List (List ℕ)
onto front [] = []
onto front (part ∷ parts) = (front ++ part) ∷ parts

onto_none : (ps : List (List ℕ)) → onto [] ps ≡ ps
onto_none [] = refl
onto_none (p ∷ ps) = refl

onto_one : (x : ℕ) (front : List ℕ) (ps : List (List ℕ)) → 0 < length ps → onto_first x (onto front ps) ≡ onto (x ∷ front) ps
onto_one x front [] some = absurd (omega arith)
onto_one x front (p ∷ ps) some = refl

some_parts : (bytes : List ℕ) → 0 < length (parts bytes)
some_parts bytes = omega (arith, length-slice_split (λ b. b == 10) bytes)

parts_behind : (front rest : List ℕ) → IsInLine front → parts (front ++ rest) ≡ onto front (parts rest)
parts_behind [] rest none = sym (onto_none (parts rest))
parts_behind (x ∷ front) rest none =
    let both = neither_of (x == 10) (list_any (λ b. b == 10) front) none in
    slice_split-cons_no (λ b. b == 10) x (front ++ rest) both.0
    ∙ ap (onto_first x) (parts_behind front rest both.1) ∙ onto_one x front (parts rest) (some_parts rest)

abbrev pieces_in : List (List ℕ) → List (List ℕ)
pieces_in ps = all_but_last ps ++ unless_empty (last_of ps)

one_more : (line : List ℕ) (ps : List (List ℕ)) → 0 < length ps → pieces_in (line ∷ ps) ≡ line ∷ pieces_in ps
one_more line [] some = absurd (omega arith)
one_more line (p ∷ ps) some = refl

nil_behind : (front : List ℕ) → front ++ [] ≡ front
nil_behind [] = refl
nil_behind (x ∷ front) = ap (λ (xs : List ℕ). x ∷ xs) (nil_behind front)

pub parts_fed : (front rest : List ℕ) → IsInLine front → parts (front ++ 10 ∷ rest) ≡ front ∷ parts rest
parts_fed front rest none = parts_behind front (10 ∷ rest) none ∙ ap (λ (p : List ℕ). p ∷ parts rest) (nil_behind front)

-- a line that a line feed ends is the first
pub first_line : (front rest : List ℕ) → IsInLine front → pieces (front ++ 10 ∷ rest) ≡ front ∷ pieces rest
first_line front rest none = ap pieces_in (parts_fed front rest none) ∙ one_more front (parts rest) (some_parts rest)

some_piece : (line : List ℕ) → 0 < length line → unless_empty line ≡ line ∷ []
some_piece [] h = absurd (omega arith)
some_piece (b ∷ line) h = refl

-- a text without a line feed is one line, unless it is empty
pub last_line : (line : List ℕ) → IsInLine line → 0 < length line → pieces line ≡ line ∷ []
last_line line none some = ap pieces_in (one_part 10 line none) ∙ some_piece line some

first_long : (front rest : List ℕ) (ps : List (List ℕ)) → 0 < length ps → 4194304 < length front → parts (front ++ rest) ≡ onto front ps → HasLongFirst (front ++ rest)
first_long front rest [] some long is = absurd (omega arith)
first_long front rest (p ∷ []) some long is = record {
  line = front ++ p;
  others = [];
  are = ap pieces_in is ∙ some_piece (front ++ p) (omega (arith, length-append front p));
  long = omega (arith, length-append front p);
}
first_long front rest (p ∷ q ∷ ps) some long is = record { line = front ++ p; others = pieces_in (q ∷ ps); are = ap pieces_in is; long = omega (arith, length-append front p) }

-- a text that begins with a long one without a line feed has a long first line
pub long_line : (front rest : List ℕ) → IsInLine front → 4194304 < length front → HasLongFirst (front ++ rest)
long_line front rest none long = first_long front rest (parts rest) (some_parts rest) long (parts_behind front rest none)

-- ---- bytes to come

pub nothing_held : (left : Option (List ℕ)) → prepend_known [] left ≡ left
nothing_held None = refl
nothing_held (Some xs) = refl

-- what is left where the bytes to come are known
pub left_known : (held : List ℕ) (left : Option (List ℕ)) (bytes : List ℕ) → prepend_known held left ≡ Some bytes → (rest : List ℕ) × (left ≡ Some rest) × (bytes ≡ held ++ rest)
left_known held None bytes h = cc
left_known held (Some rest) bytes h = (rest, refl, cc)

pub consumed : (left left' : Option (List ℕ)) (piece rest : List ℕ) → Consumes left left' piece → left ≡ Some rest → (rest' : List ℕ) × (left' ≡ Some rest') × (rest ≡ piece ++ rest')
consumed None left' piece rest h is = cc
consumed (Some xs) None piece rest h is = absurd h
consumed (Some xs) (Some ys) piece rest h is = (ys, refl, cc)

pub at_end : (left : Option (List ℕ)) (rest : List ℕ) → IsAtEnd left → left ≡ Some rest → rest ≡ []
at_end None rest h is = cc
at_end (Some xs) rest h is = cc

-- ---- what is held

pub nothing_between : (xs : List ℕ) (n : ℕ) → slice_range xs n n ≡ []
nothing_between xs n = let none : n - n ≡ 0 = omega arith in ap (λ (k : ℕ). take k (drop n xs)) none

drop_nil : (a : ℕ) → drop {A = ℕ} a [] ≡ []
drop_nil zero = refl
drop_nil (suc a) = refl

drop_twice : (a b : ℕ) (xs : List ℕ) → drop a (drop b xs) ≡ drop (b + a) xs
drop_twice a zero xs = let same : a ≡ 0 + a = omega arith in ap (λ (n : ℕ). drop n xs) same
drop_twice a (suc b) [] = drop_nil a ∙ sym (drop_nil (suc b + a))
drop_twice a (suc b) (x ∷ xs) = let same : suc b + a ≡ suc (b + a) = omega arith in drop_twice a b xs ∙ ap (λ (n : ℕ). drop n (x ∷ xs)) (sym same)

-- what is held from a place further on
pub held_on : (xs front rest : List ℕ) (from to k : ℕ) → from + k ≤ to → length front ≡ k → slice_range xs from to ≡ front ++ rest → slice_range xs (from + k) to ≡ rest
held_on xs front rest from to k before long is =
    let m = to - (from + k) in
    let whole : to - from ≡ k + m = omega arith in
    ap (take m) (sym (drop_twice k from xs))
    ∙ sym (drop-take k m (drop from xs))
    ∙ ap (λ (n : ℕ). drop k (take n (drop from xs))) (sym whole)
    ∙ ap (drop k) is
    ∙ drop_at front rest k long

-- ---- a line that is read piece by piece

pub in_line_more : (front more : List ℕ) → IsInLine front → IsInLine more → IsInLine (front ++ more)
in_line_more front more none others = list_any-append (λ b. b == 10) front more ∙ ap (λ (v : Bool). v || list_any (λ b. b == 10) more) none ∙ others

-- the bytes to come where what is held has gone behind the line
pub moved : (old : Lines) (left : Option (List ℕ)) (bytes before text come : List ℕ) → to_come old left ≡ Some come → bytes ≡ before ++ come → text ≡ before ++ held old
    → (rest : List ℕ) × (left ≡ Some rest) × (bytes ≡ text ++ rest)
moved old left bytes before text come known is text_is =
    let rest = left_known (held old) left come known in (
      rest.0,
      rest.1,
      is ∙ ap (λ (t : List ℕ). before ++ t) rest.2 ∙ sym (append_assoc before (held old) rest.0) ∙ ap (λ (t : List ℕ). t ++ rest.0) (sym text_is),
    )

-- and where more was read then
pub more_read : (new : Lines) (left left' : Option (List ℕ)) (bytes text rest : List ℕ) → left ≡ Some rest → bytes ≡ text ++ rest → Consumes left left' (held new)
    → (now : List ℕ) × (to_come new left' ≡ Some now) × (bytes ≡ text ++ now)
more_read new left left' bytes text rest known is read =
    let next = consumed left left' (held new) rest read known in
    (held new ++ next.0, ap (prepend_known (held new)) next.1, is ∙ ap (λ (t : List ℕ). text ++ t) next.2)

-- a line was taken whose line feed was held
pub line_taken : (old new : Lines) (left : Option (List ℕ)) (bytes before text come : List ℕ) → IsInLine before → to_come old left ≡ Some come → bytes ≡ before ++ come → Moves old new before text true
    → TakesLine bytes text (to_come new left) true
line_taken old new left bytes before text come none known is moves =
    let front = moves.0 in
    let rest = left_known (held old) left come known in
    let in_line = in_line_more before front none moves.1 in
    let behind = held new ++ rest.0 in (
      before ++ front,
      behind,
      in_line,
      ap (prepend_known (held new)) rest.1,
      moves.3 ∙ sym (append_assoc before front (10 ∷ [])),
      ap pieces
          (is
          ∙ ap (λ (t : List ℕ). before ++ t) (rest.2 ∙ ap (λ (t : List ℕ). t ++ rest.0) moves.2 ∙ append_assoc front (10 ∷ held new) rest.0)
          ∙ sym (append_assoc before front (10 ∷ behind)))
          ∙ first_line (before ++ front) behind in_line,
    )

-- the last line, at the end
pub end_taken : (some : Bool) (new : Lines) (left left' : Option (List ℕ)) (bytes text rest ended : List ℕ) → IsInLine text → left ≡ Some rest → bytes ≡ text ++ rest
    → held new ≡ [] → Consumes left left' [] → IsAtEnd left' → EndsLine text ended some → TakesLine bytes ended (to_come new left') some
end_taken some new left left' bytes text rest ended none known is nothing read over ends = by some ends
  where
    next : (now : List ℕ) × (left' ≡ Some now) × (rest ≡ now)
    next = consumed left left' [] rest read known

    empty : next.0 ≡ []
    empty = at_end left' next.0 over next.1

    whole : bytes ≡ text
    whole = is ∙ ap (λ (t : List ℕ). text ++ t) (next.2 ∙ empty) ∙ nil_behind text

    come : to_come new left' ≡ Some []
    come = ap (λ (h : List ℕ). prepend_known h left') nothing ∙ nothing_held left' ∙ next.1 ∙ ap (λ (t : List ℕ). Some t) empty

    by : (v : Bool) → EndsLine text ended v → TakesLine bytes ended (to_come new left') v
    by true e = (text, [], none, come, e.1, ap pieces whole ∙ last_line text none e.0)
    by false e = (whole ∙ e.0, come, e.1)
