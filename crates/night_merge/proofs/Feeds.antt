-- Lines that are read up to their line feeds.
use Rattle.std.proofs.Common.{◌≡◌, ℕ, ◌==◌, ◌<◌, ◌≤◌, ◌+◌, ◌-◌, ◌&&◌, not, Bool, true, false, List, [], ◌∷◌, ◌++◌, Option, None, Some, length, drop, take, refl, sym, ap, ◌∙◌, arith, append_assoc, length-append}
use Rattle.std.specs.Io.KnownBytes.{prepend_known}
use Rattle.std.proofs.lemmas.List.Sums.{list_all-from_AllPass}
use Rattle.std.proofs.Math.ListN.{drop_of_length-le}
use Rattle.std.proofs.Math.Seq.{drop-append-add}
use Rattle.std.proofs.lemmas.List.{drop-drop, drop-take, length-take}
use Rattle.std.proofs.lemmas.Bool.{and_parts}
use Rattle.deck_reader.specs.Forms.{parted}
use Rattle.deck_reader.proofs.Fields.{Lacks, Lacks-from_all, parted_is}
use Rattle.listing_parts.specs.Lines.{is_line}
use Rattle.night_merge.specs.Reading.{TakesFront}

pub line_from_lacks : (bytes : List ℕ) → Lacks 10 bytes → is_line bytes ≡ true
line_from_lacks bytes lacks = list_all-from_AllPass (λ b. not (b == 10)) bytes (λ k d h. ap not (lacks k d h))

pub lacks_from_line : (bytes : List ℕ) → is_line bytes ≡ true → Lacks 10 bytes
lacks_from_line bytes h = Lacks-from_all (λ b. not (b == 10)) 10 bytes refl h

-- a text is parted at its first line feed in one way
pub parted_once : (a b xs ys : List ℕ) → is_line a ≡ true → is_line b ≡ true → a ++ 10 ∷ xs ≡ b ++ 10 ∷ ys → (a ≡ b) × (xs ≡ ys)
parted_once a b xs ys ha hb e =
    let both : Some (a, xs) ≡ Some (b, ys) = sym (parted_is 10 a xs (lacks_from_line a ha)) ∙ ap (parted 10) e ∙ parted_is 10 b ys (lacks_from_line b hb) in
    let pairs : (a, xs) ≡ (b, ys) = cc both in
    (ap (λ (p : List ℕ × List ℕ). p.0) pairs, ap (λ (p : List ℕ × List ℕ). p.1) pairs)

-- bytes without a line feed are the front of the line that they begin
pub record GoesPast (old more left rest : List ℕ) : Type 0 where
  pub further : List ℕ
  pub whole : more ≡ old ++ further
  pub there : left ≡ further ++ 10 ∷ rest

pub goes_past : (old more left rest : List ℕ) → is_line old ≡ true → old ++ left ≡ more ++ 10 ∷ rest → GoesPast old more left rest
goes_past [] more left rest h e = record { further = more; whole = refl; there = e }
goes_past (x ∷ old) [] left rest h e =
    let first : x ≡ 10 = cc in
    let no = (and_parts (not (x == 10)) (is_line old) h).0 in
    absurd (cc (no, ap (λ (n : ℕ). not (n == 10)) first))
goes_past (x ∷ old) (y ∷ more) left rest h e =
    let first : x ≡ y = cc in
    let others : old ++ left ≡ more ++ 10 ∷ rest = cc in
    let past = goes_past old more left rest (and_parts (not (x == 10)) (is_line old) h).1 others in
    record { further = past.further; whole = ap (λ (t : List ℕ). y ∷ t) past.whole ∙ ap (λ (b : ℕ). b ∷ (old ++ past.further)) (sym first); there = past.there }

-- ---- a line of which the front was taken

-- so much of a line was taken; the rest of it, and what follows its line feed, is still ahead
pub record Pending (line rest so_far : List ℕ) (ahead : Option (List ℕ)) : Type 0 where
  pub more : List ℕ
  pub whole : line ≡ so_far ++ more
  pub there : ahead ≡ Some (more ++ 10 ∷ rest)

pub pending_begins : (line rest so_far : List ℕ) (ahead : Option (List ℕ)) → so_far ≡ [] → ahead ≡ Some (line ++ 10 ∷ rest) → Pending line rest so_far ahead
pending_begins line rest so_far ahead none h = record { more = line; whole = ap (λ (l : List ℕ). l ++ line) (sym none); there = h }

line_behind : (front more line : List ℕ) → line ≡ front ++ more → is_line line ≡ true → is_line more ≡ true
line_behind [] more line e h = sym (ap is_line e) ∙ h
line_behind (x ∷ front) more line e h =
    let all : is_line (x ∷ (front ++ more)) ≡ true = sym (ap is_line e) ∙ h in
    line_behind front more (front ++ more) refl (and_parts (not (x == 10)) (is_line (front ++ more)) all).1

-- its line feed was taken
pub pending_ends : (line rest so_far grown old new front : List ℕ) (left : Option (List ℕ)) → is_line line ≡ true → Pending line rest so_far (prepend_known old left)
    → old ≡ front ++ 10 ∷ new → grown ≡ so_far ++ front → is_line front ≡ true → (grown ≡ line) × (prepend_known new left ≡ Some rest)
pending_ends line rest so_far grown old new front None h p e g f = absurd (cc p.there)
pending_ends line rest so_far grown old new front (Some left) h p e g f =
    let texts : old ++ left ≡ p.more ++ 10 ∷ rest = cc p.there in
    let split : front ++ 10 ∷ (new ++ left) ≡ p.more ++ 10 ∷ rest = sym (append_assoc front (10 ∷ new) left) ∙ ap (λ (t : List ℕ). t ++ left) (sym e) ∙ texts in
    let once = parted_once front p.more (new ++ left) rest f (line_behind so_far p.more line p.whole h) split in
    (g ∙ ap (λ (t : List ℕ). so_far ++ t) once.0 ∙ sym p.whole, ap (λ (t : List ℕ). Some t) once.1)

-- all that was there was taken
pub pending_more : (line rest so_far grown old new : List ℕ) (left : Option (List ℕ)) → Pending line rest so_far (prepend_known old left)
    → new ≡ [] → grown ≡ so_far ++ old → is_line old ≡ true → Pending line rest grown (prepend_known new left)
pending_more line rest so_far grown old new None p n g o = absurd (cc p.there)
pending_more line rest so_far grown old new (Some left) p n g o =
    let texts : old ++ left ≡ p.more ++ 10 ∷ rest = cc p.there in
    let past = goes_past old p.more left rest o texts in
    record {
      more = past.further;
      whole = p.whole ∙ ap (λ (t : List ℕ). so_far ++ t) past.whole ∙ sym (append_assoc so_far old past.further) ∙ ap (λ (t : List ℕ). t ++ past.further) (sym g);
      there = ap (λ (t : List ℕ). Some (t ++ left)) n ∙ ap (λ (t : List ℕ). Some t) past.there;
    }

pub pending_short : (line rest so_far : List ℕ) (ahead : Option (List ℕ)) → Pending line rest so_far ahead → length so_far ≤ length line
pending_short line rest so_far ahead p = omega (arith, ap length p.whole, length-append so_far p.more)

-- ---- as the loop takes them

pub took_more : (line rest so_far grown old new : List ℕ) (left : Option (List ℕ)) (ended : Bool) → TakesFront old new so_far grown ended → ended ≡ false
    → Pending line rest so_far (prepend_known old left) → Pending line rest grown (prepend_known new left)
took_more line rest so_far grown old new left true took e p = absurd (cc e)
took_more line rest so_far grown old new left false took e p = pending_more line rest so_far grown old new left p took.0 took.1 took.2

pub took_all : (line rest so_far grown old new : List ℕ) (left : Option (List ℕ)) (ended : Bool) → TakesFront old new so_far grown ended → ended ≡ true → is_line line ≡ true
    → Pending line rest so_far (prepend_known old left) → (grown ≡ line) × (prepend_known new left ≡ Some rest)
took_all line rest so_far grown old new left true took e h p = pending_ends line rest so_far grown old new took.0 left h p took.1 took.2 took.3
took_all line rest so_far grown old new left false took e h p = absurd (cc e)

pub took_some : (so_far grown old new : List ℕ) (ended : Bool) → TakesFront old new so_far grown ended → ended ≡ false → 0 < length old → length so_far < length grown
took_some so_far grown old new true took e some = absurd (cc e)
took_some so_far grown old new false took e some = omega (arith, some, ap (λ (l : List ℕ). length l) took.1, length-append so_far old)

pub pending_along : (line rest so_far : List ℕ) (ahead behind : Option (List ℕ)) → ((text : List ℕ) → ahead ≡ Some text → behind ≡ Some text) → Pending line rest so_far ahead → Pending line rest so_far behind
pending_along line rest so_far ahead behind along p = record { more = p.more; whole = p.whole; there = along (p.more ++ 10 ∷ rest) p.there }

-- a line is ahead, where one is pending
pub pending_some : (line rest so_far : List ℕ) (ahead : Option (List ℕ)) (P : Type 0) → Pending line rest so_far ahead → ((text : List ℕ) → ahead ≡ Some text → P → text ≡ []) → P → ⊥
pending_some line rest so_far ahead P p none holds =
    let empty : p.more ++ 10 ∷ rest ≡ [] = none (p.more ++ 10 ∷ rest) p.there holds in
    omega (arith, ap (λ (l : List ℕ). length l) empty, length-append p.more (10 ∷ rest))

-- ---- what a buffer has

pub behind_front : (items front behind : List ℕ) (taken filled : ℕ) → drop taken (take filled items) ≡ front ++ 10 ∷ behind → drop (taken + (length front + 1)) (take filled items) ≡ behind
behind_front items front behind taken filled e =
    sym (drop-drop (length front + 1) taken (take filled items)) ∙ ap (drop (length front + 1)) e ∙ drop-append-add front (10 ∷ behind) 1

pub none_behind : (items : List ℕ) (filled : ℕ) → drop filled (take filled items) ≡ []
none_behind items filled = drop_of_length-le (take filled items) (omega (arith, length-take filled items))

pub slice_is : (items shown : List ℕ) (taken filled : ℕ) → shown ≡ items → taken ≤ filled → take (filled - taken) (drop taken shown) ≡ drop taken (take filled items)
slice_is items shown taken filled e less =
    ap (λ (l : List ℕ). take (filled - taken) (drop taken l)) e
    ∙ sym (drop-take taken (filled - taken) items)
    ∙ ap (λ (n : ℕ). drop taken (take n items)) (omega arith)
