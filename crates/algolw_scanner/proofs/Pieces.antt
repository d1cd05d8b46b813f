-- What a deck scans to is the relation's answer.
use Rattle.std.proofs.Common.{◌≡◌, ◌==◌, ℕ, zero, suc, ◌+◌, ◌-◌, ◌≤◌, ◌<◌, List, [], ◌∷◌, ◌++◌, length, take, drop, Bool, true, false, not, cond, nat_lt, ◌&&◌, ◌⊎◌, inl, inr, refl, sym, ◌∙◌, ap, subst, arith, append_assoc, length-append}
use Rattle.std.specs.Prelude.{Result, Ok, Err, IfOk}
use Rattle.std.specs.List.{list_all, prefix_len}
use Rattle.std.specs.declared.alloc.AllocError.{AllocError}
use Rattle.std.proofs.Math.Seq.{take-append_seam, drop-append_seam}
use Rattle.std.proofs.lemmas.Bool.Decides.{nat_tests}
use Rattle.value_ops.specs.declared.places.Place.{Place}
use Rattle.algolw_tree.specs.Chars.{name_char, class, Letter}
use Rattle.algolw_tree.specs.Words.{opens_comment}
use Rattle.algolw_tree.specs.Tokens.{Piece, Separator, OfKind, Reads, ReadsNothing, IsRun, Gives, Stops, finish, skip, token, here, later, fault, fault_of, text, origin, walk}
use Rattle.algolw_scanner.specs.Cursors.{clean, no_semicolon}
use Rattle.algolw_scanner.specs.Front.{Outcome, Found, Open, Pass, Fault, front}
use Rattle.algolw_scanner.specs.Matches.{Matches, Opens}
use Rattle.algolw_scanner.specs.Decks.{Reading, AllTokens, FirstFault, Next, APiece, NoPiece, line_of, comment, piece, next, onto, follow, read, keep, scanned}
use Rattle.algolw_scanner.specs.Scans.{reading}
use Rattle.algolw_scanner.specs.Laws.{IsReading, IsScanOf}
use Rattle.algolw_scanner.specs.declared.scanning.Scanned.{Scanned}
use Rattle.algolw_scanner.specs.declared.scanning.Scanned.TheVariants.{Tokens, Bad}
use Rattle.algolw_scanner.proofs.Chain.{front_nonempty}
use Rattle.algolw_scanner.proofs.Nexts.{front_matches, feed_reads, comment_reads, comment_nothing}
use Rattle.algolw_scanner.proofs.One.{one_list, no_list, stops_one}

-- a text that ends with a card's end, or is empty
abbrev Fed : List ℕ → Type 0
Fed [] = Unit {0}
Fed (c ∷ []) = c ≡ 10
Fed (c ∷ d ∷ rest) = Fed (d ∷ rest)

fed_tail : (c : ℕ) (rest : List ℕ) → Fed (c ∷ rest) → Fed rest
fed_tail c [] f = tt
fed_tail c (d ∷ rest) f = f

fed_on : (u w : List ℕ) → Fed (u ++ w) → Fed w
fed_on [] w f = f
fed_on (c ∷ u) w f = fed_on u w (fed_tail c (u ++ w) f)

fed_line : (line rest : List ℕ) → Fed rest → Fed ((line ++ 10 ∷ []) ++ rest)
fed_line [] [] f = refl
fed_line [] (c ∷ rest) f = f
fed_line (c ∷ []) rest f = fed_line [] rest f
fed_line (c ∷ d ∷ line) rest f = fed_line (d ∷ line) rest f

fed_text : (cards : List (List ℕ)) → Fed (text cards)
fed_text [] = tt
fed_text (card ∷ cards) = fed_line card (text cards) (fed_text cards)

-- the end of the first card
abbrev IsLine : List ℕ → List ℕ → Type 0
IsLine rest line = (t : List ℕ) × (rest ≡ line ++ 10 ∷ t) × (clean line ≡ true)

line_step : (c : ℕ) (rest : List ℕ) → ((c == 10) ≡ false → IsLine rest (line_of rest)) → (b : Bool) → (c == 10) ≡ b → IsLine (c ∷ rest) (elim b [ true ↦ [] | false ↦ c ∷ line_of rest ])
line_step c rest h true e = let f : c ≡ 10 = grind (arith, nat_tests) in (rest, ap (λ x. x ∷ rest) f, refl)
line_step c rest h false e = go (h e)
  where
    go : IsLine rest (line_of rest) → IsLine (c ∷ rest) (c ∷ line_of rest)
    go (t, f, g) = (t, ap (λ s. c ∷ s) f, ap (λ b. not b && clean (line_of rest)) e ∙ g)

no_feed : (c : ℕ) → c ≡ 10 → (c == 10) ≡ false → ⊥
no_feed c e f = grind (arith, nat_tests)

line_is : (c : ℕ) (rest : List ℕ) → Fed (c ∷ rest) → IsLine (c ∷ rest) (line_of (c ∷ rest))
line_is c [] f = line_step c [] (λ e. absurd (no_feed c f e)) (c == 10) refl
line_is c (d ∷ rest) f = line_step c (d ∷ rest) (λ e. line_is d rest f) (c == 10) refl

-- what a text begins with, in the relation
abbrev Begins : List ℕ → Next → Type 0
Begins rest (APiece x n) = Reads rest (take n rest) x (drop n rest)
Begins rest (NoPiece number) = ReadsNothing rest × (number ≡ fault rest)

begins_piece : (rest u w : List ℕ) (x : Piece) (n : ℕ) → n ≡ length u → Reads rest u x w → Begins rest (APiece x n)
begins_piece rest u w x n e r =
    let f : take n rest ≡ u = ap (λ k. take k rest) e ∙ ap (take (length u)) r.cut ∙ take-append_seam u w in
    let g : drop n rest ≡ w = ap (λ k. drop k rest) e ∙ ap (drop (length u)) r.cut ∙ drop-append_seam u w in
    subst (λ s. Reads rest s x (drop n rest)) (sym f) (subst (λ s. Reads rest u x s) (sym g) r)

-- the first semicolon
abbrev is_other : ℕ → Bool
is_other c = not (c == 59)

abbrev Ends : List ℕ → ℕ → Type 0
Ends rest n = ((b z : List ℕ) × (rest ≡ b ++ 59 ∷ z) × (no_semicolon b ≡ true) × (n ≡ length b)) ⊎ ((no_semicolon rest ≡ true) × (n ≡ length rest))

semicolon_is : (rest : List ℕ) → Ends rest (prefix_len is_other rest)
semicolon_is [] = inr (refl, refl)
semicolon_is (c ∷ rest) = go (c == 59) refl (semicolon_is rest)
  where
    go : (b : Bool) → (c == 59) ≡ b → Ends rest (prefix_len is_other rest) → Ends (c ∷ rest) (cond (not b) (1 + prefix_len is_other rest) 0)
    go true e h = let f : c ≡ 59 = grind (arith, nat_tests) in inl ([], rest, ap (λ x. x ∷ rest) f, refl, refl)
    go false e (inl (b, z, f, g, k)) = inl (c ∷ b, z, ap (λ s. c ∷ s) f, ap (λ d. not d && no_semicolon b) e ∙ g, omega arith)
    go false e (inr (g, k)) = inr (ap (λ d. not d && no_semicolon rest) e ∙ g, omega arith)

no_semicolon_in : (c : ℕ) → name_char c ≡ true → (c == 59) ≡ false
no_semicolon_in c e = go (c == 59) refl
  where
    go : (b : Bool) → (c == 59) ≡ b → b ≡ false
    go true f = let g : c ≡ 59 = grind (arith, nat_tests) in let h : name_char 59 ≡ true = subst (λ x. name_char x ≡ true) g e in cc
    go false f = refl

both : (a b : Bool) → a && b ≡ true → (a ≡ true) × (b ≡ true)
both true b e = (refl, e)
both false b e = absurd (cc)

-- none is in a word
behind_word : (u w : List ℕ) → list_all name_char u ≡ true → prefix_len is_other (u ++ w) ≡ length u + prefix_len is_other w
behind_word [] w e = omega arith
behind_word (c ∷ u) w e = go (both (name_char c) (list_all name_char u) e) (behind_word u w)
  where
    go : (name_char c ≡ true) × (list_all name_char u ≡ true) → (list_all name_char u ≡ true → prefix_len is_other (u ++ w) ≡ length u + prefix_len is_other w) → prefix_len is_other (c ∷ (u ++ w)) ≡ length (c ∷ u) + prefix_len is_other w
    go (f, g) h = ap (λ b. cond (not b) (1 + prefix_len is_other (u ++ w)) 0) (no_semicolon_in c f) ∙ omega (arith, h g)

below : (m n : ℕ) → m < n → nat_lt m n ≡ true
below m n h = grind (arith, nat_tests)

not_below : (m n : ℕ) → m ≡ n → nat_lt m n ≡ false
not_below m n h = grind (arith, nat_tests)

-- a comment, by the number of characters before its semicolon
abbrev ends_behind : ℕ → List ℕ → Next
ends_behind n rest = cond (nat_lt n (length rest)) (APiece Separator (n + 1)) (NoPiece 16)

ends_if : (rest : List ℕ) (n : ℕ) (b : Bool) → nat_lt n (length rest) ≡ b → Begins rest (cond b (APiece Separator (n + 1)) (NoPiece 16)) → Begins rest (ends_behind n rest)
ends_if rest n b e h = subst (λ d. Begins rest (cond d (APiece Separator (n + 1)) (NoPiece 16))) (sym e) h

module _ (c : ℕ) (u w : List ℕ) (letter : class c ≡ Letter) (run : IsRun name_char (c ∷ u) w) (opens : opens_comment (c ∷ u) ≡ true) where
  ends_is : (n : ℕ) → Ends w n → Begins (c ∷ (u ++ w)) (ends_behind (length (c ∷ u) + n) (c ∷ (u ++ w)))
  ends_is n (inl (b, z, e, f, g)) =
      let h : w ≡ (b ++ 59 ∷ []) ++ z = e ∙ sym (append_assoc b (59 ∷ []) z) in
      let k : c ∷ ((u ++ (b ++ 59 ∷ [])) ++ z) ≡ c ∷ (u ++ w) = ap (λ s. c ∷ s) (append_assoc u (b ++ 59 ∷ []) z ∙ ap (λ s. u ++ s) (sym h)) in
      ends_if (c ∷ (u ++ w)) (length (c ∷ u) + n) true
      (below (length (c ∷ u) + n) (length (c ∷ (u ++ w))) (omega (arith, length-append u w, ap length e, length-append b (59 ∷ z))))
      (begins_piece (c ∷ (u ++ w)) (c ∷ (u ++ (b ++ 59 ∷ []))) z Separator (length (c ∷ u) + n + 1) (omega (arith, length-append u (b ++ 59 ∷ []), length-append b (59 ∷ [])))
      (subst (λ s. Reads s (c ∷ (u ++ (b ++ 59 ∷ []))) Separator z) k (comment_reads c u w letter run opens b z h f)))
  ends_is n (inr (f, g)) =
      ends_if (c ∷ (u ++ w)) (length (c ∷ u) + n) false
      (not_below (length (c ∷ u) + n) (length (c ∷ (u ++ w))) (omega (arith, length-append u w)))
      (comment_nothing c u w letter run opens f, sym (ap (λ k. fault_of k (c ∷ (u ++ w))) letter))

  comment_text : Begins (c ∷ (u ++ w)) (comment (c ∷ (u ++ w)))
  comment_text = subst (λ n. Begins (c ∷ (u ++ w)) (ends_behind n (c ∷ (u ++ w)))) (sym (behind_word (c ∷ u) w run.all)) (ends_is (prefix_len is_other w) (semicolon_is w))

comment_is : (line t left : List ℕ) → Opens line t left → Begins (line ++ 10 ∷ t) (comment (line ++ 10 ∷ t))
comment_is line t left o =
    subst (λ s. Begins s (comment s))
    (sym (ap (λ s. s ++ 10 ∷ t) o.cut ∙ append_assoc (o.first ∷ o.more) left (10 ∷ t)))
    (comment_text o.first o.more (left ++ 10 ∷ t) o.letter o.run o.comment)

piece_is : (line t : List ℕ) (o : Outcome) → Matches line t o → Begins (line ++ 10 ∷ t) (piece (line ++ 10 ∷ t) line o)
piece_is line t (Found kind left) (u, e, r) = begins_piece (line ++ 10 ∷ t) u (left ++ 10 ∷ t) (OfKind kind) (length line - length left) (omega (arith, ap length e, length-append u left)) r
piece_is line t (Pass left) (u, e, r) = begins_piece (line ++ 10 ∷ t) u (left ++ 10 ∷ t) Separator (length line - length left) (omega (arith, ap length e, length-append u left)) r
piece_is line t (Open left) o = comment_is line t left o
piece_is line t (Fault number) h = h

next_is : (line t : List ℕ) → clean line ≡ true → Begins (line ++ 10 ∷ t) (next (line ++ 10 ∷ t) line)
next_is [] t e = feed_reads t
next_is (c ∷ line) t e = piece_is (c ∷ line) t (front (c ∷ line)) (front_matches (c ∷ line) t e (omega arith))

text_is : (c : ℕ) (rest line : List ℕ) → IsLine (c ∷ rest) line → Begins (c ∷ rest) (next (c ∷ rest) line)
text_is c rest line (t, e, f) = subst (λ s. Begins s (next s line)) (sym e) (next_is line t f)

-- a reading from a place on, in the relation
abbrev Answers : Place → List ℕ → Reading → Type 0
Answers place rest (AllTokens tokens) = Gives place rest tokens
Answers place rest (FirstFault diagnostic) = Stops place rest diagnostic

onto_is : (place : Place) (rest u w : List ℕ) (x : Piece) (behind : Reading) → Reads rest u x w → Answers (walk place u) w behind → Answers place rest (onto x place behind)
onto_is place rest u w Separator (AllTokens tokens) r a = skip u w r a
onto_is place rest u w Separator (FirstFault diagnostic) r a = later u Separator w r a
onto_is place rest u w (OfKind kind) (AllTokens tokens) r a = token kind u w r a
onto_is place rest u w (OfKind kind) (FirstFault diagnostic) r a = later u (OfKind kind) w r a

-- what stands behind a piece is shorter, and ends as the text does
shorter : (rest u w : List ℕ) (x : Piece) → Reads rest u x w → length w < length rest
shorter rest u w x r = omega (arith, ap length r.cut, length-append u w, front_nonempty u w x r.is)

follow_is : (n : ℕ) (behind : Place → List ℕ → Reading) → ((place : Place) (rest : List ℕ) → length rest ≤ n → Fed rest → Answers place rest (behind place rest)) → (place : Place) (c : ℕ) (rest : List ℕ) → length rest ≤ n → Fed (c ∷ rest) → (o : Next) → Begins (c ∷ rest) o → Answers place (c ∷ rest) (follow behind place (c ∷ rest) o)
follow_is n behind h place c rest l f (APiece x k) r =
    let u = take k (c ∷ rest) in
    let w = drop k (c ∷ rest) in
    onto_is place (c ∷ rest) u w x (behind (walk place u) w) r (h (walk place u) w (omega (arith, shorter (c ∷ rest) u w x r)) (fed_on u w (subst Fed r.cut f)))
follow_is n behind h place c rest l f (NoPiece number) (r, e) = subst (λ k. Stops place (c ∷ rest) (record { number = k; place = place })) (sym e) (here r)

read_is : (n : ℕ) (place : Place) (rest : List ℕ) → length rest ≤ n → Fed rest → Answers place rest (read n place rest)
read_is zero place [] l f = finish
read_is zero place (c ∷ rest) l f = absurd (omega arith)
read_is (suc n) place [] l f = finish
read_is (suc n) place (c ∷ rest) l f = follow_is n (read n) (read_is n) place c rest (omega arith) f (next (c ∷ rest) (line_of (c ∷ rest))) (text_is c rest (line_of (c ∷ rest)) (line_is c rest f))

keep_is : (cards : List (List ℕ)) (whole : Reading) → Answers origin (text cards) whole → IsReading cards (keep whole)
keep_is cards (AllTokens tokens) a = (tokens, a, refl)
keep_is cards (FirstFault diagnostic) a = a

pub scanned_is : (cards : List (List ℕ)) → IsReading cards (scanned cards)
unfolding scanned
scanned_is cards = keep_is cards (read (length (text cards)) origin (text cards)) (read_is (length (text cards)) origin (text cards) (omega arith) (fed_text cards))

-- what the scanner says is this
one_reading : (cards : List (List ℕ)) (s : Scanned) (r : Reading) → IsScanOf cards s → IsReading cards r → reading s ≡ r
one_reading cards (Tokens v) (AllTokens tokens) a b = ap AllTokens (one_list cards v.items tokens a b)
one_reading cards (Tokens v) (FirstFault diagnostic) a b = absurd (no_list cards v.items diagnostic a b)
one_reading cards (Bad d) (AllTokens tokens) a b = absurd (no_list cards tokens d b a)
one_reading cards (Bad d) (FirstFault diagnostic) a b = ap FirstFault (stops_one a b)

pub if_read : (cards : List (List ℕ)) (r : Result Scanned AllocError) → IfOk r (λ s. IsScanOf cards s) → IfOk r (λ s. reading s ≡ scanned cards)
if_read cards (Ok s) h = one_reading cards s (scanned cards) h (scanned_is cards)
if_read cards (Err e) h = h
