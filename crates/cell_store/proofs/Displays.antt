-- How a display is made and kept.
use Rattle.std.proofs.Common.{◌≡◌, inl, inr, ℕ, zero, suc, ◌+◌, ◌-◌, ◌<◌, ◌≤◌, List, [], ◌∷◌, ◌++◌, Option, Some, None, length, take, get_or, min, add-one, eqb, not, true, false, refl, sym, ap, ◌∙◌, subst, arith, ◌≢◌, ◌⊎◌}
use Rattle.std.specs.Prelude.{IsSome, is_some, slice_get, slice_set, slice_index, nat_le, if◌then◌else◌}
use Rattle.std.specs.Bool.{then_some}
use Rattle.std.specs.Option.{option_map}
use Rattle.std.proofs.lemmas.Bool.{cases_lt, ltb-true, ltb-false, ne_eqb, le-leb, lt-leb}
use Rattle.std.proofs.lemmas.List.{get_or-set_same, get_or-set_other, length_push, length-set, length-take}
use Rattle.std.proofs.lemmas.Option.{slice_get_within, slice_get_read, slice_get_past, slice_get_cases}
use Rattle.cell_store.specs.declared.entries.Frame.{Frame}
use Rattle.cell_store.specs.declared.display.Shown.{Shown}
use Rattle.cell_store.specs.Links.{link_of, step_out, outwards, is_below, start_at, level_of, displayed, number_of}
use Rattle.cell_store.specs.Displays.{IsBelow, level_in, IsLevel, AreLevels, shown_by, shown_of, IsDisplay, HasText}
use Rattle.cell_store.proofs.Links.{below_all, from_frame, further_out, found, level_low, walked, at_program, past_program, level_is, none_further, no_further, outermost_is}

-- ---- lists

pub get_set_same : {A : Type 0} (xs : List A) (a : ℕ) (v : A) → a < length xs → slice_get (slice_set xs a v) a ≡ Some v
get_set_same [] a v h = absurd (omega arith)
get_set_same (x ∷ xs) zero v h = refl
get_set_same (x ∷ xs) (suc a) v h = get_set_same xs a v (omega arith)

pub get_set_other : {A : Type 0} (xs : List A) (a b : ℕ) (v : A) → a ≢ b → slice_get (slice_set xs a v) b ≡ slice_get xs b
get_set_other [] a b v h = refl
get_set_other (x ∷ xs) zero zero v h = absurd (h refl)
get_set_other (x ∷ xs) zero (suc b) v h = refl
get_set_other (x ∷ xs) (suc a) zero v h = refl
get_set_other (x ∷ xs) (suc a) (suc b) v h = get_set_other xs a b v (omega arith)

pub get_append_below : {A : Type 0} (xs ys : List A) (a : ℕ) → a < length xs → slice_get (xs ++ ys) a ≡ slice_get xs a
get_append_below [] ys a h = absurd (omega arith)
get_append_below (x ∷ xs) ys zero h = refl
get_append_below (x ∷ xs) ys (suc a) h = get_append_below xs ys a (omega arith)

pub newest_there : {A : Type 0} (xs : List A) (y : A) → slice_get (xs ++ y ∷ []) (length xs) ≡ Some y
newest_there [] y = refl
newest_there (x ∷ xs) y = newest_there xs y

-- what is in the front is there, and is in the whole
pub get_taken : {A : Type 0} (n : ℕ) (xs : List A) (k : ℕ) → k < length (take n xs) → slice_get xs k ≡ slice_get (take n xs) k
get_taken zero xs k h = absurd (omega (arith, h))
get_taken (suc n) [] k h = absurd (omega (arith, h))
get_taken (suc n) (x ∷ xs) zero h = refl
get_taken (suc n) (x ∷ xs) (suc k) h = get_taken n xs k (omega (arith, h))

-- ---- one display, and another

-- texts that are there go by numbers of their own
pub same_number : (a b : Option ℕ) (n : ℕ) → IsBelow a n → IsBelow b n → n ≤ 4294967295 → number_of a ≡ number_of b → a ≡ b
same_number None None n below_a below_b few e = refl
same_number None (Some k) n below_a below_b few e = absurd (omega (arith, below_b, few, e))
same_number (Some j) None n below_a below_b few e = absurd (omega (arith, below_a, few, e))
same_number (Some j) (Some k) n below_a below_b few e = ap (λ i. Some i) e

text_by : (k : ℕ) (f : Option Frame) → (shown_by k f).text ≡ k
text_by k None = refl
text_by k (Some f) = refl

pub text_shown : (frames : List Frame) (t : Option ℕ) → (shown_of frames t).text ≡ number_of t
text_shown frames None = refl
text_shown frames (Some k) = text_by k (slice_get frames k)

module _ (frames : List Frame) (text : Option ℕ) (levels : List ℕ) (shown : List Shown) (level : ℕ) (d : IsDisplay frames text levels shown level) where
  -- what stands so many levels below the innermost is the text so many links out
  pub record Stands (n : ℕ) : Type 0 where
    pub here : Option ℕ
    pub is : outwards frames text n ≡ Some here
    pub there : IsBelow here (length frames)
    pub level_left : level_in levels here + n ≡ level
    pub at : slice_get shown (level - n) ≡ Some (shown_of frames here)

  pub stands : (n : ℕ) → n ≤ level → Stands n
  stands n le =
      let own = d.own in
      let w = walked frames levels d.rising text d.there n (omega (arith, le, own)) in
      let left = w.level in
      record {
        here = w.here;
        is = w.is;
        there = w.there;
        level_left = omega (arith, left, own);
        at = d.each n le ∙ ap (λ o. option_map (shown_of frames) o) w.is;
      }

  pub level_there : level < length shown
  level_there =
      let s = stands 0 (omega arith) in
      let own : level ≡ level - 0 = omega arith in
      slice_get_within shown level (shown_of frames s.here) (ap (λ k. slice_get shown k) own ∙ s.at)

  -- the display of a text further out
  pub out_to : (at : ℕ) (here : Option ℕ) → at ≤ level → outwards frames text (level - at) ≡ Some here → IsDisplay frames here levels shown at
  out_to at here le is =
      let s = stands (level - at) (omega arith) in
      let same : s.here ≡ here = cc (s.is, is) in
      let left = s.level_left in
      record {
        rising = d.rising;
        there = subst (λ (t : Option ℕ). IsBelow t (length frames)) same s.there;
        own = let k : at ≡ level_in levels s.here = omega (arith, left, le) in k ∙ ap (λ (t : Option ℕ). level_in levels t) same;
        each = λ n below.
            let e : at - n ≡ level - ((level - at) + n) = omega (arith, le, below) in
            ap (λ k. slice_get shown k) e ∙ d.each ((level - at) + n) (omega (arith, le, below)) ∙ ap (λ o. option_map (shown_of frames) o) (further_out frames text here (level - at) n is);
      }

  pub of_program : IsDisplay frames None levels shown 0
  of_program = out_to 0 None (omega arith) (let own = d.own in let e : level - 0 ≡ level_in levels text = omega (arith, own) in ap (λ n. outwards frames text n) e ∙ at_program frames levels d.rising text d.there)

  -- what stands at a level is the text of this number
  text_at : (s : Option Shown) (x : Shown) (n : ℕ) → s ≡ Some x → option_map (λ y. y.text) s ≡ Some n → x.text ≡ n
  text_at s x n e f = cc (sym (ap (λ o. option_map (λ (y : Shown). y.text) o) e) ∙ f)

  pub reached : (at : ℕ) (here : Option ℕ) → IsBelow here (length frames) → length frames ≤ 4294967295 → HasText shown level at here → IsDisplay frames here levels shown at
  reached at here there few has =
      let s = stands (level - at) (omega arith) in
      let e : at ≡ level - (level - at) = omega (arith, has.0) in
      let same : s.here ≡ here = same_number s.here here (length frames) s.there there few (sym (text_shown frames s.here) ∙ text_at (slice_get shown at) (shown_of frames s.here) (number_of here) (ap (λ k. slice_get shown k) e ∙ s.at) has.1) in
      out_to at here has.0 (s.is ∙ ap (λ (t : Option ℕ). Some t) same)

  -- one level further in
  pub put : (k : ℕ) (f : Frame) → slice_get frames k ≡ Some f → f.link ≡ text → suc level < length shown → IsDisplay frames (Some k) levels (slice_set shown (suc level) (record { text = k; start = f.start })) (suc level)
  put k f is link room =
      let x : Shown = record { text = k; start = f.start } in
      let own = d.own in
      let up = (d.rising.each k f is).level in
      record {
        rising = d.rising;
        there = slice_get_within frames k f is;
        own = ap suc (own ∙ ap (λ (t : Option ℕ). level_in levels t) (sym link)) ∙ sym up;
        each = each x refl;
      } where
        each : (x : Shown) → x ≡ record { text = k; start = f.start } → (n : ℕ) → n ≤ suc level → slice_get (slice_set shown (suc level) x) (suc level - n) ≡ option_map (shown_of frames) (outwards frames (Some k) n)
        each x e zero le =
            let own : suc level - 0 ≡ suc level = omega arith in
            ap (λ i. slice_get (slice_set shown (suc level) x) i) own ∙ get_set_same shown (suc level) x room ∙ ap (λ y. Some y) e ∙ sym (ap (λ o. Some (shown_by k o)) is)
        each x e (suc n) le =
            let lower : suc level - suc n ≡ level - n = omega arith in
            ap (λ i. slice_get (slice_set shown (suc level) x) i) lower ∙ get_set_other shown (suc level) (level - n) x (λ same. omega (arith, same)) ∙ d.each n (omega (arith, le))
            ∙ ap (λ o. option_map (shown_of frames) o) (ap (λ (t : Option ℕ). outwards frames t n) (sym link) ∙ sym (from_frame frames k f n is))

  -- where there are more places
  pub wider_display : (wider : List Shown) → take (length shown) wider ≡ shown → IsDisplay frames text levels wider level
  wider_display wider e = record {
    rising = d.rising;
    there = d.there;
    own = d.own;
    each = λ n le.
        let there = level_there in
        get_taken (length shown) wider (level - n) (subst (λ (xs : List Shown). level - n < length xs) (sym e) (omega (arith, there))) ∙ ap (λ xs. slice_get xs (level - n)) e ∙ d.each n le;
  }

pub none_stands : (frames : List Frame) (levels : List ℕ) (shown : List Shown) (t : Option ℕ) → is_some t ≡ false → IsDisplay frames None levels shown 0 → IsDisplay frames t levels shown 0
none_stands frames levels shown None e d = d
none_stands frames levels shown (Some k) e d = absurd (cc e)

-- ---- the same texts among other frames

-- levels that agree as far as some number
module _ (levels more : List ℕ) (m : ℕ) (agree : (k : ℕ) → k < m → slice_index more k ≡ slice_index levels k) where
  pub level_agrees : (t : Option ℕ) → IsBelow t m → level_in more t ≡ level_in levels t
  level_agrees None below = refl
  level_agrees (Some k) below = agree k below

  pub is_level : (k : ℕ) (link : Option ℕ) → k < m → IsLevel levels k link → IsLevel more k link
  is_level k link less e =
      let same = agree k less in
      let level = e.level in
      let low = e.low in
      record {
        below = e.below;
        level = same ∙ level ∙ ap suc (sym (level_agrees link (below_all link k m e.below (omega (arith, less)))));
        low = omega (arith, same, low);
      }

-- frames that agree as far as the fewer go
module _ (fewer more : List Frame) (agree : (k : ℕ) → k < length fewer → slice_get more k ≡ slice_get fewer k) (levels : List ℕ) (are : AreLevels fewer levels) where
  step_agrees : (here : Option ℕ) → IsBelow here (length fewer) → step_out more (Some here) ≡ step_out fewer (Some here)
  step_agrees None below = refl
  step_agrees (Some k) below = ap link_of (agree k below)

  outwards_agree : (text : Option ℕ) → IsBelow text (length fewer) → (n : ℕ) → n ≤ level_in levels text → outwards more text n ≡ outwards fewer text n
  outwards_agree text there zero le = refl
  outwards_agree text there (suc n) le =
      let w = walked fewer levels are text there n (omega (arith, le)) in
      ap (step_out more) (outwards_agree text there n (omega (arith, le)) ∙ w.is) ∙ step_agrees w.here w.there ∙ sym (ap (step_out fewer) w.is)

  shown_agrees : (t : Option ℕ) → IsBelow t (length fewer) → shown_of more t ≡ shown_of fewer t
  shown_agrees None below = refl
  shown_agrees (Some k) below = ap (shown_by k) (agree k below)

  each_agrees : (text : Option ℕ) → IsBelow text (length fewer) → (n : ℕ) → n ≤ level_in levels text → option_map (shown_of more) (outwards more text n) ≡ option_map (shown_of fewer) (outwards fewer text n)
  each_agrees text there n le =
      let w = walked fewer levels are text there n le in
      ap (λ o. option_map (shown_of more) o) (outwards_agree text there n le ∙ w.is) ∙ ap (λ s. Some s) (shown_agrees w.here w.there) ∙ sym (ap (λ o. option_map (shown_of fewer) o) w.is)

  -- the display of a text that is there among the fewer
  pub among_more : (text : Option ℕ) (levels_more : List ℕ) (shown : List Shown) (level : ℕ) → length fewer ≤ length more → AreLevels more levels_more → level_in levels_more text ≡ level_in levels text → IsDisplay fewer text levels shown level → IsDisplay more text levels_more shown level
  among_more text levels_more shown level fit are_more same d =
      let own = d.own in
      record {
        rising = are_more;
        there = below_all text (length fewer) (length more) d.there fit;
        own = own ∙ sym same;
        each = λ n le. d.each n le ∙ sym (each_agrees text d.there n (omega (arith, le, own)));
      }

  pub among_fewer : (text : Option ℕ) (levels_more : List ℕ) (shown : List Shown) (level : ℕ) → IsBelow text (length fewer) → level_in levels_more text ≡ level_in levels text → IsDisplay more text levels_more shown level → IsDisplay fewer text levels shown level
  among_fewer text levels_more shown level there same d =
      let own = d.own in
      record {
        rising = are;
        there = there;
        own = own ∙ same;
        each = λ n le. d.each n le ∙ each_agrees text there n (omega (arith, le, own, same));
      }

-- levels that agree as far as there are frames
pub levels_changed : (frames : List Frame) (levels more : List ℕ) (text : Option ℕ) (shown : List Shown) (level : ℕ) → ((k : ℕ) → k < length frames → slice_index more k ≡ slice_index levels k) → length frames ≤ length more →
    IsDisplay frames text levels shown level → IsDisplay frames text more shown level
levels_changed frames levels more text shown level agree long d =
    among_more frames frames (λ k less. refl) levels d.rising text more shown level (omega arith) are (level_agrees levels more (length frames) agree text d.there) d where
      are : AreLevels frames more
      are = record {
        many = long;
        each = λ k f is. let less = slice_get_within frames k f is in is_level levels more (length frames) agree k f.link less (d.rising.each k f is);
      }

-- ---- a frame more, and fewer frames

module _ (frames : List Frame) (levels : List ℕ) (are : AreLevels frames levels) where
  -- the level of the newest stands at its number
  pub levels_entered : (f : Frame) → IsBelow f.link (length frames) → length frames < length levels → AreLevels (frames ++ f ∷ []) (slice_set levels (length frames) (suc (level_in levels f.link)))
  levels_entered f below room =
      record {
        many = omega (arith, room, length_push frames f, length-set levels (length frames) (suc (level_in levels f.link)));
        each = λ k g is. by k g is (cases_lt k (length frames));
      } where
        more : List ℕ
        more = slice_set levels (length frames) (suc (level_in levels f.link))

        agree : (k : ℕ) → k < length frames → slice_index more k ≡ slice_index levels k
        agree k less = get_or-set_other levels (length frames) k (suc (level_in levels f.link)) 0 (λ e. omega (arith, e, less))

        newest : (g : Frame) (k : ℕ) → k ≡ length frames → f ≡ g → IsLevel more k g.link
        newest g k last same = subst (λ (h : Frame). IsLevel more k h.link) same (
            let here : slice_index more k ≡ suc (level_in levels f.link) = ap (λ n. slice_index more n) last ∙ get_or-set_same levels (length frames) (suc (level_in levels f.link)) 0 room in
            let low = level_low frames levels are f.link below in
            record {
              below = below_all f.link (length frames) k below (omega (arith, last));
              level = here ∙ ap suc (sym (level_agrees levels more (length frames) agree f.link below));
              low = omega (arith, here, low, last);
            })

        by : (k : ℕ) (g : Frame) → slice_get (frames ++ f ∷ []) k ≡ Some g → (k < length frames) ⊎ (length frames ≤ k) → IsLevel more k g.link
        by k g is (inl less) = is_level levels more (length frames) agree k g.link less (are.each k g (sym (get_append_below frames (f ∷ []) k less) ∙ is))
        by k g is (inr past) =
            let within = slice_get_within (frames ++ f ∷ []) k g is in
            let last : k ≡ length frames = omega (arith, past, within, length_push frames f) in
            let same : f ≡ g = cc (sym (newest_there frames f) ∙ ap (λ n. slice_get (frames ++ f ∷ []) n) (sym last) ∙ is) in
            newest g k last same

  pub newest_entered : (f : Frame) (shown : List Shown) (level : ℕ) → length frames < length levels → IsDisplay frames f.link levels shown level → suc level < length shown
      → IsDisplay (frames ++ f ∷ []) (Some (length frames)) (slice_set levels (length frames) (suc level)) (slice_set shown (suc level) (record { text = length frames; start = f.start })) (suc level)
  newest_entered f shown level room d places =
      let more : List ℕ = slice_set levels (length frames) (suc (level_in levels f.link)) in
      let link_there : IsDisplay (frames ++ f ∷ []) f.link more shown level =
      among_more frames (frames ++ f ∷ []) (λ k less. get_append_below frames (f ∷ []) k less) levels are f.link more shown level (omega (arith, length_push frames f)) (levels_entered f d.there room)
      (level_agrees levels more (length frames) (λ k less. get_or-set_other levels (length frames) k (suc (level_in levels f.link)) 0 (λ e. omega (arith, e, less))) f.link d.there) d in
      subst (λ (n : ℕ). IsDisplay (frames ++ f ∷ []) (Some (length frames)) (slice_set levels (length frames) (suc n)) (slice_set shown (suc level) (record { text = length frames; start = f.start })) (suc level)) (sym d.own)
      (put (frames ++ f ∷ []) f.link more shown level link_there (length frames) f (newest_there frames f) refl places)

  -- the first so many
  pub levels_fewer : (n : ℕ) → AreLevels (take n frames) levels
  levels_fewer n =
      let many = are.many in
      record {
        many = omega (arith, many, length-take n frames);
        each = λ k f is. let within = slice_get_within (take n frames) k f is in are.each k f (get_taken n frames k within ∙ is);
      }

  pub taken : (n : ℕ) (text : Option ℕ) (shown : List Shown) (level : ℕ) → IsBelow text n → IsDisplay frames text levels shown level → IsDisplay (take n frames) text levels shown level
  taken n text shown level below d =
      among_fewer (take n frames) frames (λ k less. get_taken n frames k less) levels (levels_fewer n) text levels shown level (below_both text below d.there) refl d where
        below_both : (t : Option ℕ) → IsBelow t n → IsBelow t (length frames) → IsBelow t (length (take n frames))
        below_both None p q = tt
        below_both (Some k) p q = omega (arith, p, q, length-take n frames)

  -- a display of some of them is one of all
  pub among_all : (n : ℕ) (text : Option ℕ) (shown : List Shown) (level : ℕ) → IsDisplay (take n frames) text levels shown level → IsDisplay frames text levels shown level
  among_all n text shown level d =
      among_more (take n frames) frames (λ k less. get_taken n frames k less) levels d.rising text levels shown level (let few = length-take n frames in omega (arith, few)) are refl d

-- ---- what stands at the innermost level

pub innermost : (frames : List Frame) (text : Option ℕ) (levels : List ℕ) (shown : List Shown) (level : ℕ) (x : Shown) → IsDisplay frames text levels shown level → slice_get shown level ≡ Some x → x.text ≡ number_of text
innermost frames text levels shown level x d is =
    let own : level ≡ level - 0 = omega arith in
    let e : x ≡ shown_of frames text = cc (sym is ∙ ap (λ k. slice_get shown k) own ∙ d.each 0 (omega arith)) in
    ap (λ (y : Shown). y.text) e ∙ text_shown frames text

-- ---- as the code says it

pub read_there : (xs : List Shown) (i : ℕ) (x : Shown) → i < length xs → x ≡ get_or xs i x → slice_get xs i ≡ Some x
read_there xs i x less is = slice_get_read xs (length xs) i x refl less is

pub put_next : (frames : List Frame) (levels : List ℕ) (shown : List Shown) (level k : ℕ) (f : Frame) → IsDisplay frames f.link levels shown level → slice_get frames k ≡ Some f → level + 1 < length shown
    → IsDisplay frames (Some k) levels (slice_set shown (level + 1) (record { text = k; start = f.start })) (level + 1)
put_next frames levels shown level k f d is room =
    subst (λ (n : ℕ). IsDisplay frames (Some k) levels (slice_set shown n (record { text = k; start = f.start })) n) (sym (add-one level))
    (put frames f.link levels shown level d k f is refl (omega (arith, room)))

pub display_low : (frames : List Frame) (text : Option ℕ) (levels : List ℕ) (shown : List Shown) (level : ℕ) → IsDisplay frames text levels shown level → level ≤ length frames
display_low frames text levels shown level d =
    let low = level_low frames levels d.rising text d.there in
    let own = d.own in
    omega (arith, low, own)

-- the text round a frame's
pub round_low : (frames : List Frame) (levels : List ℕ) (shown : List Shown) (level k : ℕ) (f : Frame) → IsDisplay frames f.link levels shown level → slice_get frames k ≡ Some f → level ≤ k
round_low frames levels shown level k f d is =
    let own = d.own in
    let e = d.rising.each k f is in
    let up = e.level in
    let low = e.low in
    omega (arith, own, up, low)

-- ---- what is read

-- the text of a number
abbrev pub text_of : ℕ → Option ℕ
text_of n = then_some (not (eqb n 4294967295)) n

text_back : (t : Option ℕ) (n : ℕ) → IsBelow t n → n ≤ 4294967295 → text_of (number_of t) ≡ t
text_back None n below few = refl
text_back (Some k) n below few = ap (λ b. then_some (not b) k) (ne_eqb k 4294967295 (λ e. omega (arith, e, below, few)))

start_shown : (frames : List Frame) (t : Option ℕ) → IsBelow t (length frames) → start_at frames (Some t) ≡ Some (shown_of frames t).start
start_shown frames None below = refl
start_shown frames (Some k) below = let l = found frames k below in ap (λ o. option_map (λ (f : Frame). f.start) o) l.1 ∙ sym (ap (λ o. Some (shown_by k o).start) l.1)

-- a text that is found further out than a text is there
pub runs_there : (frames : List Frame) (current : Option ℕ) (n : ℕ) → 0 < n → IsSome (outwards frames current n) → IsBelow current (length frames)
runs_there frames None n out there = tt
runs_there frames (Some k) n out there =
    elim (slice_get_cases frames k).1 [
      | inl here ↦ here.1
      | inr past ↦ absurd (cc (there, none_further frames (Some k) 1 n (ap link_of past.1) (omega (arith, out))))
    ]

pub start_there : (frames : List Frame) (current : Option ℕ) (n : ℕ) → IsSome (start_at frames (outwards frames current n)) → IsSome (outwards frames current n)
start_there frames current n there = some_start (outwards frames current n) there where
  some_start : (o : Option (Option ℕ)) → IsSome (start_at frames o) → IsSome o
  some_start None there = there
  some_start (Some t) there = refl

pub starts_there : (frames : List Frame) (current : Option ℕ) (n : ℕ) → IsSome (start_at frames (outwards frames current n)) → IsBelow current (length frames)
starts_there frames None n there = tt
starts_there frames (Some k) zero there =
    elim (slice_get_cases frames k).1 [
      | inl here ↦ here.1
      | inr past ↦ absurd (cc (there, ap (λ o. option_map (λ (f : Frame). f.start) o) past.1))
    ]
starts_there frames (Some k) (suc n) there = runs_there frames (Some k) (suc n) (omega arith) (start_there frames (Some k) (suc n) there)

module _ (frames : List Frame) (current text : Option ℕ) (levels : List ℕ) (shown : List Shown) (level : ℕ) (d : IsDisplay frames text levels shown level) (runs : IsBelow current (length frames) → text ≡ current) where
  module _ (there : IsBelow current (length frames)) where
    -- it is that of the text that runs
    pub own : IsDisplay frames current levels shown level
    own = subst (λ (t : Option ℕ). IsDisplay frames t levels shown level) (runs there) d

    pub within : (n : ℕ) → IsSome (outwards frames current n) → n ≤ level
    within n out = let e = own.own in no_further frames current level n (ap (λ k. outwards frames current (suc k)) e ∙ past_program frames levels own.rising current there) out

    pub text_found : (n : ℕ) (x : Shown) → n ≤ level → slice_get shown (level - n) ≡ Some x → length frames ≤ 4294967295 → outwards frames current n ≡ Some (text_of x.text)
    text_found n x le is few =
        let s = stands frames current levels shown level own n le in
        let e : x ≡ shown_of frames s.here = cc (is, s.at) in
        s.is ∙ ap (λ (t : Option ℕ). Some t) (sym (ap text_of (ap (λ (y : Shown). y.text) e ∙ text_shown frames s.here) ∙ text_back s.here (length frames) s.there few))

    pub start_found : (n : ℕ) (x : Shown) → n ≤ level → slice_get shown (level - n) ≡ Some x → start_at frames (outwards frames current n) ≡ Some x.start
    start_found n x le is =
        let s = stands frames current levels shown level own n le in
        let e : x ≡ shown_of frames s.here = cc (is, s.at) in
        ap (start_at frames) s.is ∙ start_shown frames s.here s.there ∙ ap (λ (y : Shown). Some y.start) (sym e)

    pub displayed_there : (i : ℕ) (x : Shown) → i ≤ level → slice_get shown i ≡ Some x → displayed frames current i ≡ Some x.text
    displayed_there i x le is =
        let e = own.own in
        let s = stands frames current levels shown level own (level - i) (omega arith) in
        let up = level_is frames levels own.rising current there ∙ sym e in
        let back : level - (level - i) ≡ i = omega (arith, le) in
        let same : x ≡ shown_of frames s.here = cc (is, ap (λ k. slice_get shown k) (sym back) ∙ s.at) in
        ap (λ k. if nat_le i k then option_map number_of (outwards frames current (k - i)) else None) up ∙ ap (λ b. if b then option_map number_of (outwards frames current (level - i)) else None) (le-leb i level le) ∙ ap (λ o. option_map number_of o) s.is ∙ ap (λ k. Some k) (sym (ap (λ (y : Shown). y.text) same ∙ text_shown frames s.here))

    pub displayed_past : (i : ℕ) → level < i → displayed frames current i ≡ None
    displayed_past i past =
        let e = own.own in
        let up = level_is frames levels own.rising current there ∙ sym e in
        ap (λ k. if nat_le i k then option_map number_of (outwards frames current (k - i)) else None) up ∙ ap (λ b. if b then option_map number_of (outwards frames current (level - i)) else None) (lt-leb i level past)

-- whether a text is there
pub is_there : (t : Option ℕ) (n : ℕ) → is_below t n ≡ true → IsBelow t n
is_there None n e = tt
is_there (Some k) n e = ltb-true k n e

pub not_there : (t : Option ℕ) (n : ℕ) → is_below t n ≡ false → (k : ℕ) × (t ≡ Some k) × (n ≤ k)
not_there None n e = absurd (cc e)
not_there (Some k) n e = (k, refl, ltb-false k n e)

-- a text that has no frame stands inside none
gone_level : (frames : List Frame) (k : ℕ) → length frames ≤ k → level_of frames (Some k) ≡ 0
gone_level frames k past = outermost_is frames (Some k) 0 (length frames) refl (ap link_of (slice_get_past frames k past)) (omega arith)

displayed_gone_at : (frames : List Frame) (k i : ℕ) → length frames ≤ k → displayed frames (Some k) i ≡ then_some (eqb i 0) k
displayed_gone_at frames k zero past =
    ap (λ n. if nat_le 0 n then option_map number_of (outwards frames (Some k) (n - 0)) else None) (gone_level frames k past)
displayed_gone_at frames k (suc i) past =
    ap (λ n. if nat_le (suc i) n then option_map number_of (outwards frames (Some k) (n - suc i)) else None) (gone_level frames k past)
    ∙ ap (λ b. if b then option_map number_of (outwards frames (Some k) (0 - suc i)) else None) (lt-leb (suc i) 0 (omega arith)) ∙ sym (ap (λ b. then_some b k) (ne_eqb (suc i) 0 (λ e. omega (arith, e))))

pub displayed_gone : (frames : List Frame) (current : Option ℕ) → is_below current (length frames) ≡ false → displayed frames current 0 ≡ current
displayed_gone frames current gone =
    let w = not_there current (length frames) gone in
    ap (λ (t : Option ℕ). displayed frames t 0) w.1 ∙ displayed_gone_at frames w.0 0 w.2 ∙ sym w.1

pub displayed_gone_past : (frames : List Frame) (current : Option ℕ) (i : ℕ) → is_below current (length frames) ≡ false → (i ≡ 0 → ⊥) → displayed frames current i ≡ None
displayed_gone_past frames current i gone past =
    let w = not_there current (length frames) gone in
    ap (λ (t : Option ℕ). displayed frames t i) w.1 ∙ displayed_gone_at frames w.0 i w.2 ∙ ap (λ b. then_some b w.0) (ne_eqb i 0 past)
