-- Sections, the last one first, and their numbers.
use Rattle.std.proofs.Common.{◌≡◌, ℕ, suc, ◌+◌, ◌-◌, ◌<◌, ◌≤◌, Bool, true, List, [], ◌∷◌, ◌++◌, Option, None, Some, IsSomeAnd, codes, decimal, drop, get_or, length, map, reverse, subst, refl, sym, ap, ◌∙◌, arith, append_assoc, append-nil}
use Rattle.std.proofs.lemmas.List.{append_cancel_left, length-drop, length-map, map-append, reverse-append, reverse-reverse, length-reverse}
use Rattle.std.proofs.Math.ListN.{drop_of_length-le}
use Rattle.std.proofs.Math.Seq.{drop-cons}
use Rattle.listing_parts.specs.Lines.{text_up}
use Rattle.std.specs.Borrow.{Bor}
use Rattle.std.specs.List.{list_all}
use Rattle.std.proofs.lemmas.Bool.{and_parts}
use Rattle.listing_parts.specs.Sections.{begins}
use Rattle.night_merge.specs.Texts.{numbered, numbered_each}

-- sections whose numbers go down to 1
abbrev pub numbered_down : List (List ℕ) → List (List ℕ)
numbered_down [] = []
numbered_down (rest ∷ rests) = numbered (length rests + 1) rest ∷ numbered_down rests

numbered_each-append : (number : ℕ) (xs ys : List (List ℕ)) → numbered_each number (xs ++ ys) ≡ numbered_each number xs ++ numbered_each (number + length xs) ys
numbered_each-append number [] ys = ap (λ (n : ℕ). numbered_each n ys) (omega arith)
numbered_each-append number (x ∷ xs) ys =
    ap (λ (l : List (List ℕ)). numbered number x ∷ l) (numbered_each-append (number + 1) xs ys ∙ ap (λ (n : ℕ). numbered_each (number + 1) xs ++ numbered_each n ys) (omega arith))

reverse-cons : (x : List ℕ) (xs : List (List ℕ)) → reverse (x ∷ xs) ≡ reverse xs ++ x ∷ []
reverse-cons x xs = reverse-append (x ∷ []) xs

down : (ds : List (List ℕ)) → numbered_each 1 (reverse ds) ≡ reverse (numbered_down ds)
down [] = refl
down (d ∷ ds) =
    ap (numbered_each 1) (reverse-cons d ds)
    ∙ numbered_each-append 1 (reverse ds) (d ∷ [])
    ∙ ap (λ (l : List (List ℕ)). l ++ numbered (1 + length (reverse ds)) d ∷ []) (down ds)
    ∙ ap (λ (n : ℕ). reverse (numbered_down ds) ++ numbered n d ∷ []) (omega (arith, length-reverse ds))
    ∙ sym (reverse-cons (numbered (length ds + 1) d) (numbered_down ds))

-- sections that are numbered from 1, the last one first
pub numbers_go_down : (rests : List (List ℕ)) → reverse (numbered_each 1 rests) ≡ numbered_down (reverse rests)
numbers_go_down rests =
    ap (λ (l : List (List ℕ)). reverse (numbered_each 1 l)) (sym (reverse-reverse rests))
    ∙ ap (λ (l : List (List ℕ)). reverse l) (down (reverse rests))
    ∙ reverse-reverse (numbered_down (reverse rests))

-- ---- numbers taken off one after the other

pub all_append : (p : List ℕ → Bool) (xs ys : List (List ℕ)) → list_all p xs ≡ true → list_all p ys ≡ true → list_all p (xs ++ ys) ≡ true
all_append p [] ys h k = k
all_append p (x ∷ xs) ys h k = rw (and_parts (p x) (list_all p xs) h).0 (all_append p xs ys (and_parts (p x) (list_all p xs) h).1 k)

all_reverse : (p : List ℕ → Bool) (xs : List (List ℕ)) → list_all p xs ≡ true → list_all p (reverse xs) ≡ true
all_reverse p [] h = refl
all_reverse p (x ∷ xs) h =
    let here : list_all p (x ∷ []) ≡ true = rw (and_parts (p x) (list_all p xs) h).0 refl in
    ap (list_all p) (reverse-cons x xs) ∙ all_append p (reverse xs) (x ∷ []) (all_reverse p xs (and_parts (p x) (list_all p xs) h).1) here

pub length-numbered_down : (ds : List (List ℕ)) → length (numbered_down ds) ≡ length ds
length-numbered_down [] = refl
length-numbered_down (d ∷ ds) = omega (arith, length-numbered_down ds)

-- so many numbers are taken off; these sections still have theirs
pub record StillNumbered (rests texts so_far : List (List ℕ)) : Type 0 where
  pub left : List (List ℕ)
  pub whole : so_far ++ left ≡ reverse rests
  pub here : texts ≡ numbered_down left
  pub blanks : list_all (begins 32) left ≡ true

pub numbers_begin : (rests texts so_far : List (List ℕ)) → so_far ≡ [] → list_all (begins 32) rests ≡ true → texts ≡ reverse (numbered_each 1 rests) → StillNumbered rests texts so_far
numbers_begin rests texts so_far none blanks e = record { left = reverse rests; whole = ap (λ (l : List (List ℕ)). l ++ reverse rests) none; here = e ∙ numbers_go_down rests; blanks = all_reverse (begins 32) rests blanks }

-- a section is the one of a number
pub record Numbered (number : ℕ) (section rest : List ℕ) : Type 0 where
  pub text : section ≡ numbered number rest
  pub blank : begins 32 rest ≡ true

-- the next section has the number of as many as there are
pub record NextNumbered (rests : List (List ℕ)) (number : ℕ) (section : List ℕ) (texts so_far : List (List ℕ)) : Type 0 where
  pub rest : List ℕ
  pub is : Numbered number section rest
  pub after : StillNumbered rests texts (so_far ++ rest ∷ [])

numbers_more_by : (rests : List (List ℕ)) (section : List ℕ) (texts so_far left : List (List ℕ)) → so_far ++ left ≡ reverse rests → section ∷ texts ≡ numbered_down left → list_all (begins 32) left ≡ true
    → NextNumbered rests (length texts + 1) section texts so_far
numbers_more_by rests section texts so_far [] whole here blanks = absurd (cc here)
numbers_more_by rests section texts so_far (r ∷ left) whole here blanks =
    let first : section ≡ numbered (length left + 1) r = cc here in
    let others : texts ≡ numbered_down left = cc here in
    let many : length left + 1 ≡ length texts + 1 = omega (arith, ap (λ (l : List (List ℕ)). length l) others, length-numbered_down left) in
    record {
      rest = r;
      is = record { text = first ∙ ap (λ (n : ℕ). numbered n r) many; blank = (and_parts (begins 32 r) (list_all (begins 32) left) blanks).0 };
      after = record { left = left; whole = append_assoc so_far (r ∷ []) left ∙ whole; here = others; blanks = (and_parts (begins 32 r) (list_all (begins 32) left) blanks).1 };
    }

pub numbers_more : (rests : List (List ℕ)) (section : List ℕ) (texts all so_far : List (List ℕ)) → all ≡ section ∷ texts → StillNumbered rests all so_far → NextNumbered rests (length texts + 1) section texts so_far
numbers_more rests section texts all so_far e still = numbers_more_by rests section texts so_far still.left still.whole (sym e ∙ still.here) still.blanks

numbers_end_by : (rests so_far left : List (List ℕ)) → so_far ++ left ≡ reverse rests → [] ≡ numbered_down left → so_far ≡ reverse rests
numbers_end_by rests so_far [] whole here = sym (append-nil so_far) ∙ whole
numbers_end_by rests so_far (r ∷ left) whole here = absurd (cc here)

pub numbers_end : (rests texts so_far : List (List ℕ)) → texts ≡ [] → StillNumbered rests texts so_far → so_far ≡ reverse rests
numbers_end rests texts so_far e still = numbers_end_by rests so_far still.left still.whole (sym e ∙ still.here)

pub map_reverse : (xs : List (Bor (List ℕ))) → map (λ (r : Bor (List ℕ)). r.now) (reverse xs) ≡ reverse (map (λ (r : Bor (List ℕ)). r.now) xs)
map_reverse [] = refl
map_reverse (x ∷ xs) =
    ap (λ (l : List (Bor (List ℕ))). map (λ (r : Bor (List ℕ)). r.now) l) (reverse-append (x ∷ []) xs)
    ∙ map-append (λ (r : Bor (List ℕ)). r.now) (reverse xs) (x ∷ [])
    ∙ ap (λ (l : List (List ℕ)). l ++ x.now ∷ []) (map_reverse xs)
    ∙ sym (reverse-append (x.now ∷ []) (map (λ (r : Bor (List ℕ)). r.now) xs))

-- what stands behind a section's number
pub rest_there : (section head rest : List ℕ) (number : ℕ) → head ≡ codes "\nJOB " ++ decimal number → section ≡ numbered number rest → section ≡ head ++ rest
rest_there section head rest number is e = e ∙ sym (append_assoc (codes "\nJOB ") (decimal number) rest) ∙ ap (λ (l : List ℕ). l ++ rest) (sym is)

pub rest_is : (section head behind rest : List ℕ) (number : ℕ) → head ≡ codes "\nJOB " ++ decimal number → section ≡ head ++ behind → section ≡ numbered number rest → behind ≡ rest
rest_is section head behind rest number is e h = append_cancel_left head behind rest (sym e ∙ rest_there section head rest number is h)

-- ---- sections as they are read

abbrev pub shown : List (Bor (List ℕ)) → List (List ℕ)
shown items = map (λ r. r.now) items

pub number_here : (sections : List (Bor (List ℕ))) (at : ℕ) (d : Bor (List ℕ)) (rests so_far : List (List ℕ)) → at < length sections → StillNumbered rests (shown (drop at sections)) so_far
    → NextNumbered rests (length sections - at) (get_or sections at d).now (shown (drop (at + 1) sections)) so_far
number_here sections at d rests so_far within still =
    let next : suc at ≡ at + 1 = omega arith in
    let cut : shown (drop at sections) ≡ (get_or sections at d).now ∷ shown (drop (at + 1) sections) =
    ap (λ (l : List (Bor (List ℕ))). shown l) (drop-cons sections at d within ∙ ap (λ (n : ℕ). get_or sections at d ∷ drop n sections) next) in
    let many : length (shown (drop (at + 1) sections)) + 1 ≡ length sections - at =
    omega (arith, within, length-map (drop (at + 1) sections) (λ (r : Bor (List ℕ)). r.now), length-drop (at + 1) sections) in
    let P : ℕ → Type 0 = λ n. NextNumbered rests n (get_or sections at d).now (shown (drop (at + 1) sections)) so_far in
    subst P many (numbers_more rests (get_or sections at d).now (shown (drop (at + 1) sections)) (shown (drop at sections)) so_far cut still)

-- a section whose number is taken off
pub rest_read : (rests : List (List ℕ)) (number : ℕ) (section : List ℕ) (texts so_far : List (List ℕ)) (read : Option (Bor (List ℕ))) → NextNumbered rests number section texts so_far
    → ((rest : List ℕ) → begins 32 rest ≡ true → section ≡ numbered number rest → IsSomeAnd read (λ r. r.now ≡ rest)) → IsSomeAnd read (λ r. StillNumbered rests texts (so_far ++ r.now ∷ []))
rest_read rests number section texts so_far None n f = f n.rest n.is.blank n.is.text
rest_read rests number section texts so_far (Some r) n f =
    let same : r.now ≡ n.rest = f n.rest n.is.blank n.is.text in
    let P : List ℕ → Type 0 = λ l. StillNumbered rests texts (so_far ++ l ∷ []) in
    subst P (sym same) n.after

pub rest_pushed : (rests texts : List (List ℕ)) (items grown : List (Bor (List ℕ))) (r : Bor (List ℕ)) → grown ≡ items ++ r ∷ [] → StillNumbered rests texts (shown items ++ r.now ∷ [])
    → StillNumbered rests texts (shown grown)
rest_pushed rests texts items grown r push still =
    let P : List (List ℕ) → Type 0 = λ l. StillNumbered rests texts l in
    let is : shown grown ≡ shown items ++ r.now ∷ [] = ap (λ (l : List (Bor (List ℕ))). shown l) push ∙ map-append (λ (b : Bor (List ℕ)). b.now) items (r ∷ []) in
    subst P (sym is) still

pub rests_read : (rests : List (List ℕ)) (sections items turned : List (Bor (List ℕ))) (at : ℕ) → length sections ≤ at → turned ≡ reverse items
    → StillNumbered rests (shown (drop at sections)) (shown items) → shown turned ≡ rests
rests_read rests sections items turned at past turn still =
    let none : shown (drop at sections) ≡ [] = ap (λ (l : List (Bor (List ℕ))). shown l) (drop_of_length-le sections past) in
    ap (λ (l : List (Bor (List ℕ))). shown l) turn
    ∙ map_reverse items
    ∙ ap (λ (l : List (List ℕ)). reverse l) (numbers_end rests (shown (drop at sections)) (shown items) none still)
    ∙ reverse-reverse rests

-- the sections of a listing, the last one first
texts_reverse : (xs : List (List (List ℕ))) → map text_up (reverse xs) ≡ reverse (map text_up xs)
texts_reverse [] = refl
texts_reverse (x ∷ xs) =
    ap (λ (l : List (List (List ℕ))). map text_up l) (reverse-append (x ∷ []) xs)
    ∙ map-append text_up (reverse xs) (x ∷ [])
    ∙ ap (λ (l : List (List ℕ)). l ++ text_up x ∷ []) (texts_reverse xs)
    ∙ sym (reverse-append (text_up x ∷ []) (map text_up xs))

pub sections_down : (parts : List (List (List ℕ))) (rests : List (List ℕ)) (sections : List (Bor (List ℕ))) → map text_up (reverse parts) ≡ numbered_each 1 rests → shown sections ≡ map text_up parts
    → shown sections ≡ reverse (numbered_each 1 rests)
sections_down parts rests sections are e =
    e ∙ sym (reverse-reverse (map text_up parts)) ∙ ap (λ (l : List (List ℕ)). reverse l) (sym (texts_reverse parts) ∙ are)

pub sections_many : (rests : List (List ℕ)) (sections : List (Bor (List ℕ))) → shown sections ≡ reverse (numbered_each 1 rests) → length sections ≡ length rests
sections_many rests sections e =
    let down : shown sections ≡ numbered_down (reverse rests) = e ∙ numbers_go_down rests in
    omega (arith, length-map sections (λ (r : Bor (List ℕ)). r.now), ap (λ (l : List (List ℕ)). length l) down, length-numbered_down (reverse rests), length-reverse rests)
