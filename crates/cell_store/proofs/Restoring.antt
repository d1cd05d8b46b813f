-- What is kept of texts that were entered gives the display back.
use Rattle.std.proofs.Common.{◌≡◌, ℕ, suc, ◌+◌, ◌-◌, ◌<◌, ◌≤◌, ◌++◌, List, [], ◌∷◌, length, map, take, min, Option, Some, None, ◌≢◌, get_or, set, zero, add-one, refl, sym, ap, ◌∙◌, subst, arith}
use Rattle.std.specs.Prelude.{is_some, slice_get, slice_set, slice_index}
use Rattle.std.proofs.lemmas.List.{set-set, set-get_or, map-set, get_or-set_other, length-map, length-set, length-take, length_push, take_all, take-append-le, take-take}
use Rattle.std.proofs.lemmas.Option.{get_or_from_slice_get, slice_get-get_or}
use Rattle.cell_store.specs.declared.entries.Frame.{Frame}
use Rattle.cell_store.specs.declared.display.Shown.{Shown}
use Rattle.cell_store.specs.declared.display.Entering.{Entering}
use Rattle.std.specs.Option.{option_map}
use Rattle.cell_store.specs.Links.{outwards, number_of}
use Rattle.cell_store.specs.Displays.{IsBelow, level_in, AreLevels, shown_of, IsDisplay, HasText, levels_of, Restores, ends, undone, Standing, Displayed}
use Rattle.cell_store.proofs.Links.{below_all}
use Rattle.cell_store.proofs.Displays.{get_set_same, get_set_other, levels_changed, taken, among_all, newest_entered, of_program, innermost, text_shown, wider_display, within, own as running_display, out_to, runs_there}

-- ---- among other frames

module _ (frames other : List Frame) (entered more : List Entering) (m torn lower : ℕ)
    (frames_same : (k : ℕ) → k < m → take k other ≡ take k frames)
    (entered_same : (k : ℕ) → k < m → slice_get more k ≡ slice_get entered k)
    (level_same : (k : ℕ) → k < m → slice_index (levels_of more) k ≡ slice_index (levels_of entered) k)
    (long : m ≤ length (levels_of more))
    (still_torn : (t : Option ℕ) → IsBelow t m → IsBelow t torn → IsBelow t lower) where
  pub restores_same : (text : Option ℕ) (shown : List Shown) (level : ℕ) → IsBelow text m → Restores frames entered torn text shown level → Restores other more lower text shown level
  restores_same text shown level below (ends torn_below) = ends (still_torn text below torn_below)
  restores_same text shown level below (undone {n = n} e before at d rest) =
      let few = length-take n frames in
      let display : IsDisplay (take n frames) before (levels_of more) (slice_set shown level e.replaced) e.before =
      levels_changed (take n frames) (levels_of entered) (levels_of more) before (slice_set shown level e.replaced) e.before (λ k less. level_same k (omega (arith, less, few, below))) (omega (arith, few, below, long)) d in
      undone e before (entered_same n below ∙ at)
      (subst (λ (fs : List Frame). IsDisplay fs before (levels_of more) (slice_set shown level e.replaced) e.before) (sym (frames_same n below)) display)
      (restores_same before (slice_set shown level e.replaced) e.before (below_all before (length (take n frames)) m d.there (omega (arith, few, below))) rest)

-- ---- one more

-- what was replaced is put back
put_back : (shown : List Shown) (at : ℕ) (x new : Shown) → slice_get shown at ≡ Some x → slice_set (slice_set shown at new) at x ≡ shown
put_back shown at x new is =
    set-set shown at new x
    ∙ ap (λ (y : Shown). set shown at y) (sym (get_or_from_slice_get shown at x x is))
    ∙ set-get_or shown at x

module _ (frames : List Frame) (f : Frame) (entered : List Entering) (shown : List Shown) (level torn lower at : ℕ) (x new : Shown) (s : Standing frames entered shown level torn)
    (room : length frames < length entered) (is : slice_get shown at ≡ Some x) (still_torn : (t : Option ℕ) → IsBelow t (length frames) → IsBelow t torn → IsBelow t lower) where
  abbrev pub n : ℕ
  n = length frames

  abbrev pub own : Entering
  own = record { level = at; before = level; replaced = x }

  abbrev pub more : List Entering
  more = slice_set entered n own

  pub levels_more : levels_of more ≡ slice_set (levels_of entered) n at
  levels_more = map-set (λ (e : Entering). e.level) entered n own

  long : n ≤ length (levels_of more)
  long = let a = length-map more (λ (e : Entering). e.level) in let b = length-set entered n own in omega (arith, a, b, room)

  level_same : (k : ℕ) → k < n → slice_index (levels_of more) k ≡ slice_index (levels_of entered) k
  level_same k less = ap (λ ls. slice_index ls k) levels_more ∙ get_or-set_other (levels_of entered) n k at 0 (λ e. omega (arith, e, less))

  frames_same : (k : ℕ) → k < n → take k (frames ++ f ∷ []) ≡ take k frames
  frames_same k less = take-append-le k frames (f ∷ []) (omega (arith, less))

  -- the newest replaced what stood at its level, and nothing else
  pub entered_restores : Restores (frames ++ f ∷ []) more lower (Some n) (slice_set shown at new) at
  entered_restores =
      let back : shown ≡ slice_set (slice_set shown at new) at x = sym (put_back shown at x new is) in
      let whole : frames ≡ take n (frames ++ f ∷ []) = sym (take-append-le n frames (f ∷ []) (omega arith) ∙ take_all n frames (omega arith)) in
      let before : IsDisplay frames s.text (levels_of more) shown level = levels_changed frames (levels_of entered) (levels_of more) s.text shown level level_same long s.display in
      undone own s.text (get_set_same entered n own room)
      (subst (λ (xs : List Shown). IsDisplay (take n (frames ++ f ∷ [])) s.text (levels_of more) xs level) back (subst (λ (fs : List Frame). IsDisplay fs s.text (levels_of more) shown level) whole before))
      (subst (λ (xs : List Shown). Restores (frames ++ f ∷ []) more lower s.text xs level) back
      (restores_same frames (frames ++ f ∷ []) entered more n torn lower frames_same (λ k less. get_set_other entered n k own (λ e. omega (arith, e, less))) level_same long still_torn s.text shown level s.display.there s.restores))

-- ---- fewer

module _ (frames : List Frame) (entered : List Entering) (shown : List Shown) (level torn n : ℕ) where
  below_min : (t : Option ℕ) → IsBelow t n → IsBelow t (length frames) → IsBelow t (min n (length frames))
  below_min None a b = tt
  below_min (Some k) a b = omega (arith, a, b)

  pub fewer_restores : (text : Option ℕ) → IsBelow text n → IsDisplay frames text (levels_of entered) shown level → Restores frames entered torn text shown level → Restores (take n frames) entered torn text shown level
  fewer_restores text below d r =
      let many = d.rising.many in
      restores_same frames (take n frames) entered entered (min n (length frames)) torn torn (λ k less. take-take k n frames (omega (arith, less))) (λ k less. refl) (λ k less. refl) (omega (arith, many)) (λ t b torn_below. torn_below) text shown level (below_min text below d.there) r

below_taken : (t : Option ℕ) (n : ℕ) (frames : List Frame) → IsBelow t (length (take n frames)) → IsBelow t n
below_taken None n frames below = tt
below_taken (Some k) n frames below = omega (arith, below, length-take n frames)

-- ---- undoing

-- among the frames from then, and among all
undoing : (frames : List Frame) (entered : List Entering) (torn n : ℕ) (e : Entering) (shown : List Shown) (level : ℕ) → AreLevels frames (levels_of entered) → torn ≤ n → slice_get entered n ≡ Some e → Restores frames entered torn (Some n) shown level →
    (Standing (take n frames) entered (slice_set shown level e.replaced) e.before torn) × (Standing frames entered (slice_set shown level e.replaced) e.before torn)
undoing frames entered torn n e shown level are whole is (ends below) = absurd (omega (arith, whole, below))
undoing frames entered torn n e shown level are whole is (undone own before at d rest) =
    let same : own ≡ e = cc (sym at ∙ is) in
    let back : List Shown = slice_set shown level own.replaced in
    let all = among_all frames (levels_of entered) are n before back own.before d in
    let below : IsBelow before n = below_taken before n frames d.there in
    subst (λ (x : Entering). (Standing (take n frames) entered (slice_set shown level x.replaced) x.before torn) × (Standing frames entered (slice_set shown level x.replaced) x.before torn)) same
    (record { text = before; display = d; restores = fewer_restores frames entered back own.before torn n before below all rest }, record { text = before; display = all; restores = rest })

-- ---- as the code has it

below_number : (t : Option ℕ) (k n : ℕ) → k ≡ number_of t → k < n → IsBelow t n
below_number None k n e less = tt
below_number (Some j) k n e less = omega (arith, e, less)

pub is_text : (t : Option ℕ) (n : ℕ) → n < 4294967295 → number_of t ≡ n → t ≡ Some n
is_text None n few e = absurd (omega (arith, few, e))
is_text (Some k) n few e = ap (λ i. Some i) e

not_newest : (t : Option ℕ) (n : ℕ) → IsBelow t (suc n) → number_of t ≢ n → IsBelow t n
not_newest None n below apart = tt
not_newest (Some k) n below apart = omega (arith, below, apart)

below_none : (t : Option ℕ) (n : ℕ) → t ≡ Some n → IsBelow t n → ⊥
below_none t n e below = let less : n < n = subst (λ (u : Option ℕ). IsBelow u n) e below in omega (arith, less)

-- the text that stands at the innermost level
innermost_is : (frames : List Frame) (text : Option ℕ) (levels : List ℕ) (shown : List Shown) (level n : ℕ) → IsDisplay frames text levels shown level → n < 4294967295 → HasText shown level level (Some n) → text ≡ Some n
innermost_is frames text levels shown level n d few has =
    let own : level ≡ level - 0 = omega arith in
    let at : slice_get shown level ≡ Some (shown_of frames text) = ap (λ k. slice_get shown k) own ∙ d.each 0 (omega arith) in
    let e : Some (shown_of frames text).text ≡ Some n = sym (ap (λ o. option_map (λ (y : Shown). y.text) o) at) ∙ has.1 in
    is_text text n few (sym (text_shown frames text) ∙ cc e)

-- the innermost text is undone
pub innermost_undone : (frames : List Frame) (entered : List Entering) (torn n : ℕ) (e : Entering) (shown : List Shown) (level : ℕ) (s : Standing frames entered shown level torn) → n < 4294967295 → torn ≤ n → HasText shown level level (Some n) → e ≡ get_or entered n e →
    (Standing (take n frames) entered (slice_set shown level e.replaced) e.before torn) × (Standing frames entered (slice_set shown level e.replaced) e.before torn)
innermost_undone frames entered torn n e shown level s few whole has read =
    let text : s.text ≡ Some n = innermost_is frames s.text (levels_of entered) shown level n s.display few has in
    let there : n < length frames = subst (λ (t : Option ℕ). IsBelow t (length frames)) text s.display.there in
    let many = s.display.rising.many in
    let as_many = length-map entered (λ (x : Entering). x.level) in
    let is : slice_get entered n ≡ Some e = slice_get-get_or entered n e (omega (arith, there, many, as_many)) ∙ ap (λ (x : Entering). Some x) (sym read) in
    undoing frames entered torn n e shown level s.display.rising whole is (subst (λ (t : Option ℕ). Restores frames entered torn t shown level) text s.restores)

-- at first
pub at_first : (entered : List Entering) (shown : List Shown) (torn : ℕ) → slice_get shown 0 ≡ Some (record { text = 4294967295; start = 0 }) → Displayed [] None entered shown 0 torn
at_first entered shown torn first = record {
  text = None;
  display = record {
    rising = record { many = omega arith; each = λ k f is. absurd (cc is) };
    there = tt;
    own = refl;
    each = λ n le. let e : n ≡ 0 = omega (arith, le) in subst (λ (m : ℕ). slice_get shown (0 - m) ≡ option_map (shown_of []) (outwards [] None m)) (sym e) first;
  };
  restores = ends tt;
  runs = λ below. refl;
}

module _ (frames : List Frame) (entered : List Entering) (shown : List Shown) (level torn : ℕ) where
  -- the program, among the first so many
  pub program_stands : (s : Standing frames entered shown level torn) (n : ℕ) → Standing (take n frames) entered shown 0 torn
  program_stands s n = record {
    text = None;
    display = taken frames (levels_of entered) s.display.rising n None shown 0 tt (of_program frames s.text (levels_of entered) shown level s.display);
    restores = ends tt;
  }

  pub none_displayed : (s : Standing frames entered shown level torn) → Displayed [] None entered shown 0 torn
  none_displayed s = record {
    text = None;
    display = taken frames (levels_of entered) s.display.rising 0 None shown 0 tt (of_program frames s.text (levels_of entered) shown level s.display);
    restores = ends tt;
    runs = λ below. refl;
  }

  pub cut_stands : (s : Standing frames entered shown level torn) (n : ℕ) (x : Shown) → slice_get shown level ≡ Some x → x.text < n → Standing (take n frames) entered shown level torn
  cut_stands s n x is less =
      let below = below_number s.text x.text n (innermost frames s.text (levels_of entered) shown level x s.display is) less in
      record {
        text = s.text;
        display = taken frames (levels_of entered) s.display.rising n s.text shown level below s.display;
        restores = fewer_restores frames entered shown level torn n s.text below s.display s.restores;
      }

  module _ (current : Option ℕ) (d : Displayed frames current entered shown level torn) (n : ℕ) (one : suc n ≡ length frames) (few : length frames ≤ 4294967295) (x : Shown) (is : slice_get shown level ≡ Some x) where
    below_frames : IsBelow current (length (take n frames)) → IsBelow current (length frames)
    below_frames below = below_all current n (length frames) (below_taken current n frames below) (omega (arith, one))

    -- the newest text is the innermost
    pub left_newest : x.text ≡ n → Displayed (take n frames) current entered shown 0 torn
    left_newest same =
        let text_is : d.text ≡ Some n = is_text d.text n (omega (arith, one, few)) (sym (innermost frames d.text (levels_of entered) shown level x d.display is) ∙ same) in
        let p = program_stands (record { text = d.text; display = d.display; restores = d.restores }) n in
        record {
          text = p.text;
          display = p.display;
          restores = p.restores;
          runs = λ below. absurd (below_none current n (sym (d.runs (below_frames below)) ∙ text_is) (below_taken current n frames below));
        }

    pub left_other : x.text ≢ n → Displayed (take n frames) current entered shown level torn
    left_other apart =
        let below = not_newest d.text n (subst (λ (m : ℕ). IsBelow d.text m) (sym one) d.display.there) (λ same. apart (innermost frames d.text (levels_of entered) shown level x d.display is ∙ same)) in
        record {
          text = d.text;
          display = taken frames (levels_of entered) d.display.rising n d.text shown level below d.display;
          restores = fewer_restores frames entered shown level torn n d.text below d.display d.restores;
          runs = λ b. d.runs (below_frames b);
        }

-- ---- a text that is entered

pub newest_displayed : (frames : List Frame) (f : Frame) (entered : List Entering) (shown : List Shown) (round before torn : ℕ) (x : Shown) → AreLevels frames (levels_of entered) → length frames < length entered → IsDisplay frames f.link (levels_of entered) shown round → round + 1 < length shown →
    Restores (frames ++ f ∷ []) (slice_set entered (length frames) (record { level = round + 1; before = before; replaced = x })) torn (Some (length frames)) (slice_set shown (round + 1) (record { text = length frames; start = f.start })) (round + 1) →
    Displayed (frames ++ f ∷ []) (Some (length frames)) (slice_set entered (length frames) (record { level = round + 1; before = before; replaced = x })) (slice_set shown (round + 1) (record { text = length frames; start = f.start })) (round + 1) torn
newest_displayed frames f entered shown round before torn x are room d places r =
    let n : ℕ = length frames in
    let own : Entering = record { level = round + 1; before = before; replaced = x } in
    let new : Shown = record { text = n; start = f.start } in
    let as_many = length-map entered (λ (e : Entering). e.level) in
    let next = newest_entered frames (levels_of entered) are f shown round (omega (arith, room, as_many)) d (omega (arith, places)) in
    record {
      text = Some n;
      display = subst (λ (ls : List ℕ). IsDisplay (frames ++ f ∷ []) (Some n) ls (slice_set shown (round + 1) new) (round + 1)) (sym (map-set (λ (e : Entering). e.level) entered n own))
          (subst (λ (k : ℕ). IsDisplay (frames ++ f ∷ []) (Some n) (slice_set (levels_of entered) n k) (slice_set shown k new) k) (sym (add-one round)) next);
      restores = r;
      runs = λ below. refl;
    }

-- ---- more room

pub wider_level : (entered more : List Entering) (k : ℕ) → take (length entered) more ≡ entered → k < length entered → slice_index (levels_of more) k ≡ slice_index (levels_of entered) k
wider_level [] more k e less = absurd (omega (arith, less))
wider_level (x ∷ entered) [] k e less = absurd (cc e)
wider_level (x ∷ entered) (y ∷ more) zero e less = let same : y ≡ x = cc e in ap (λ (z : Entering). z.level) same
wider_level (x ∷ entered) (y ∷ more) (suc k) e less = let rest : take (length entered) more ≡ entered = cc e in wider_level entered more k rest (omega (arith, less))

pub wider_displayed : (frames : List Frame) (current : Option ℕ) (entered more : List Entering) (shown wider : List Shown) (level torn : ℕ) → take (length entered) more ≡ entered → take (length shown) wider ≡ shown → length entered ≤ length more →
    Displayed frames current entered shown level torn → Displayed frames current more wider level (length frames)
wider_displayed frames current entered more shown wider level torn kept kept_shown long d =
    let many = d.display.rising.many in
    let a = length-map entered (λ (e : Entering). e.level) in
    let b = length-map more (λ (e : Entering). e.level) in
    record {
      text = d.text;
      display = levels_changed frames (levels_of entered) (levels_of more) d.text wider level (λ k less. wider_level entered more k kept (omega (arith, less, many, a))) (omega (arith, many, a, b, long))
          (wider_display frames d.text (levels_of entered) shown level d.display wider kept_shown);
      restores = ends d.display.there;
      runs = d.runs;
    }

-- ---- a text round it that is so many links out

pub record Round (frames : List Frame) (entered : List Entering) (shown : List Shown) (level links : ℕ) (link : Option ℕ) : Type 0 where
  pub less : links ≤ level
  pub display : IsDisplay frames link (levels_of entered) shown (level - links)

pub round_there : (frames : List Frame) (current : Option ℕ) (entered : List Entering) (shown : List Shown) (level torn links : ℕ) (link : Option ℕ) → Displayed frames current entered shown level torn → outwards frames current links ≡ Some link → IsBelow link (length frames) → Round frames entered shown level links link
round_there frames current entered shown level torn links link d way below =
    let there : IsBelow current (length frames) = text_there links way in
    let less = within frames current d.text (levels_of entered) shown level d.display d.runs there links (ap (λ o. is_some o) way) in
    let own_display = running_display frames current d.text (levels_of entered) shown level d.display d.runs there in
    let back : level - (level - links) ≡ links = omega (arith, less) in
    record {
      less = less;
      display = out_to frames current (levels_of entered) shown level own_display (level - links) link (omega arith) (ap (λ n. outwards frames current n) back ∙ way);
    } where
      text_there : (n : ℕ) → outwards frames current n ≡ Some link → IsBelow current (length frames)
      text_there zero w = let same : link ≡ current = cc (sym w) in subst (λ (t : Option ℕ). IsBelow t (length frames)) same below
      text_there (suc n) w = runs_there frames current (suc n) (omega arith) (ap (λ o. is_some o) w)
