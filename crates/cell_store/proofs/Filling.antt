-- How a display is filled, from the innermost text out.
use Rattle.std.proofs.Common.{◌≡◌, inl, inr, ℕ, zero, suc, ◌+◌, ◌-◌, ◌<◌, ◌≤◌, List, Option, Some, None, length, refl, sym, ap, ◌∙◌, subst, arith, ◌≢◌}
use Rattle.std.specs.Prelude.{slice_get, slice_set, slice_index}
use Rattle.std.specs.Option.{option_map}
use Rattle.std.proofs.lemmas.Bool.{cases_eq, cases_lt}
use Rattle.std.proofs.lemmas.List.{length-set}
use Rattle.cell_store.specs.declared.entries.Frame.{Frame}
use Rattle.cell_store.specs.declared.display.Shown.{Shown}
use Rattle.cell_store.specs.Links.{link_of, step_out, outwards, program, number_of}
use Rattle.cell_store.specs.Displays.{IsBelow, level_in, AreLevels, shown_by, shown_of, IsDisplay, HasText}
use Rattle.cell_store.proofs.Links.{below_all, further_out, found, level_low}
use Rattle.cell_store.proofs.Displays.{get_set_same, get_set_other, reached, of_program, level_there}

-- of a text of this level: the texts above another level stand at theirs, and the one at it is here
pub record IsFilled (frames : List Frame) (levels : List ℕ) (text : Option ℕ) (before : List Shown) (level at : ℕ) (here : Option ℕ) (shown : List Shown) : Type 0 where
  pub next : outwards frames text (level - at) ≡ Some here
  pub there : IsBelow here (length frames)
  pub own : at ≡ level_in levels here
  pub within : at ≤ level
  pub done : (n : ℕ) → n < level - at → slice_get shown (level - n) ≡ option_map (shown_of frames) (outwards frames text n)
  pub kept : (n : ℕ) → n ≤ at → slice_get shown n ≡ slice_get before n
  pub places : length shown ≡ length before

module _ (frames : List Frame) (levels : List ℕ) (are : AreLevels frames levels) where
  -- before the first
  pub begun : (text : Option ℕ) (shown : List Shown) (at : ℕ) → IsBelow text (length frames) → at ≡ level_in levels text → IsFilled frames levels text shown (level_in levels text) at text shown
  begun text shown at there is = record {
    next = ap (λ n. outwards frames text n) (let e : level_in levels text - at ≡ 0 = omega (arith, is) in e);
    there = there;
    own = is;
    within = omega (arith, is);
    done = λ n less. absurd (omega (arith, less, is));
    kept = λ n le. refl;
    places = refl;
  }

  -- one more
  pub filled : (text : Option ℕ) (before : List Shown) (level at number : ℕ) (f : Frame) (shown : List Shown) → IsFilled frames levels text before level at (Some number) shown → slice_get frames number ≡ Some f → level < length before
      → IsFilled frames levels text before level (at - 1) f.link (slice_set shown at (record { text = number; start = f.start }))
  filled text before level at number f shown g is room =
      let x : Shown = record { text = number; start = f.start } in
      let e = are.each number f is in
      let own = g.own in
      let up = e.level in
      let within = g.within in
      let places = g.places in
      record {
        next = let one : level - (at - 1) ≡ suc (level - at) = omega (arith, own, up, within) in ap (λ n. outwards frames text n) one ∙ ap (step_out frames) g.next ∙ ap link_of is;
        there = below_all f.link number (length frames) e.below (let t = g.there in omega (arith, t));
        own = omega (arith, own, up);
        within = omega (arith, within);
        done = λ n less. elim (cases_eq n (level - at)) [
          | inl same ↦
              let here : level - n ≡ at = omega (arith, same, within) in
              ap (λ k. slice_get (slice_set shown at x) k) here ∙ get_set_same shown at x (omega (arith, places, room, within)) ∙ sym (ap (λ o. option_map (shown_of frames) o) (ap (λ k. outwards frames text k) same ∙ g.next) ∙ ap (λ o. Some (shown_by number o)) is)
          | inr apart ↦
              get_set_other shown at (level - n) x (λ same. apart (omega (arith, same, within, less))) ∙ g.done n (omega (arith, less, apart, own, up, within))
        ];
        kept = λ n le. get_set_other shown at n x (λ same. omega (arith, same, le, own, up)) ∙ g.kept n (omega (arith, le));
        places = length-set shown at x ∙ places;
      }

  -- where the text at the next level stands there, the whole display does
  pub shown_whole : (text other here : Option ℕ) (before shown : List Shown) (innermost at : ℕ) → IsBelow text (length frames) → length frames ≤ 4294967295 → IsDisplay frames other levels before innermost
      → IsFilled frames levels text before (level_in levels text) at here shown → HasText shown innermost at here → IsDisplay frames text levels shown (level_in levels text)
  shown_whole text other here before shown innermost at there few d g has =
      let level = level_in levels text in
      let within = g.within in
      let below = reached frames other levels before innermost d at here g.there few (has.0, ap (λ o. option_map (λ (s : Shown). s.text) o) (sym (g.kept at (omega arith))) ∙ has.1) in
      record {
        rising = are;
        there = there;
        own = refl;
        each = λ n le. elim (cases_lt n (level - at)) [
          | inl less ↦ g.done n less
          | inr past ↦
              let m = n - (level - at) in
              let e : level - n ≡ at - m = omega (arith, past, le, within) in
              let w : n ≡ (level - at) + m = omega (arith, past) in
              ap (λ k. slice_get shown k) e ∙ g.kept (at - m) (omega arith) ∙ below.each m (omega (arith, past, le, within))
              ∙ sym (ap (λ o. option_map (shown_of frames) o) (ap (λ k. outwards frames text k) w ∙ further_out frames text here (level - at) m g.next))
        ];
      }

  -- the program stands at its level
  pub program_stands : (text other : Option ℕ) (before shown : List Shown) (innermost at : ℕ) → IsDisplay frames other levels before innermost → IsFilled frames levels text before (level_in levels text) at None shown → HasText shown innermost at None
  program_stands text other before shown innermost at d g =
      let none : at ≡ 0 = g.own in
      let e = (of_program frames other levels before innermost d).each 0 (omega arith) in
      (omega (arith, none), ap (λ o. option_map (λ (s : Shown). s.text) o) (g.kept at (omega arith) ∙ ap (λ k. slice_get before k) none ∙ e))

  -- the next text, where it has a frame
  pub frame_there : (text here : Option ℕ) (number : ℕ) (before shown : List Shown) (level at : ℕ) → IsFilled frames levels text before level at here shown → here ≡ Some number → IsFilled frames levels text before level at (Some number) shown
  frame_there text here number before shown level at g is = subst (λ (t : Option ℕ). IsFilled frames levels text before level at t shown) is g

  pub has_level : (text : Option ℕ) (number : ℕ) (before shown : List Shown) (level at : ℕ) → IsFilled frames levels text before level at (Some number) shown → 1 ≤ at
  has_level text number before shown level at g =
      let l = found frames number g.there in
      let own = g.own in
      let up = (are.each number l.0 l.1).level in
      omega (arith, own, up)
