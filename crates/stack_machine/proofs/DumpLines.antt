-- The lines of a dump, from the newest entry down.
use Rattle.std.proofs.Common.{◌≡◌, ℕ, zero, suc, ◌+◌, ◌-◌, ◌<◌, ◌≤◌, List, [], ◌∷◌, ◌++◌, length, map, take, drop, reverse, Some, None, refl, sym, ap, ◌∙◌, subst, arith, slice_get, slice_index_or, append_assoc, append-nil}
use Rattle.std.proofs.lemmas.List.{map-append, take_all, take-append-le}
use Rattle.std.proofs.lemmas.Option.{slice_get-map}
use Rattle.cell_store.specs.declared.entries.Entry.{Entry}
use Rattle.cell_store.specs.declared.entries.Entry.TheVariants as entry
use Rattle.post_mortem.specs.declared.entries.Entry as dump
use Rattle.post_mortem.specs.declared.entries.Entry.TheVariants as line
use Rattle.post_mortem.specs.declared.entries.Shown.{Shown}
use Rattle.post_mortem.specs.declared.entries.Shown.TheVariants as shown
use Rattle.post_mortem.specs.Dump.{dump_text}
use Rattle.stack_code.specs.CodeView.{CodeView, code_view, text_view}
use Rattle.stack_code.specs.Machine as machine
use Rattle.stack_code.specs.Machine.{on_top_of}
use Rattle.stack_code.specs.Run.{all_lines, dump_lines, shown_cell}
use Rattle.machine_rows.specs.declared.state.State.{State}
use Rattle.machine_rows.specs.Seen.{content_of, entry_of}
use Rattle.machine_rows.proofs.Lists.{on_top_of-reverse}
use Rattle.machine_rows.proofs.Memory.{entries_more}
use Rattle.stack_machine.specs.Dumped.{shown_machine, cell_shown, mark_line, name_lines, between}

-- ---- parts of lists

module _ {A : Type 0} where
  pub take_over : (k : ℕ) (xs ys : List A) → take k (take k xs ++ ys) ≡ take k (xs ++ ys)
  take_over zero xs ys = refl
  take_over (suc k) [] ys = refl
  take_over (suc k) (x ∷ xs) ys = ap (λ zs. x ∷ zs) (take_over k xs ys)

  -- what is full stays as it is
  pub take_full : (k : ℕ) (xs ys : List A) → k ≤ length (take k xs) → take k (xs ++ ys) ≡ take k xs
  take_full zero xs ys h = refl
  take_full (suc k) [] ys h = absurd (omega (arith, h))
  take_full (suc k) (x ∷ xs) ys h = ap (λ zs. x ∷ zs) (take_full k xs ys (omega (arith, h)))

  pub take_next : (xs : List A) (n : ℕ) (x : A) → slice_get xs n ≡ Some x → take (suc n) xs ≡ take n xs ++ x ∷ []
  take_next [] n x e = absurd (cc e)
  take_next (y ∷ ys) zero x e = ap (λ z. z ∷ []) (cc e)
  take_next (y ∷ ys) (suc n) x e = ap (λ zs. y ∷ zs) (take_next ys n x e)

  pub drop_next : (xs : List A) (n : ℕ) (x : A) → slice_get xs n ≡ Some x → drop n xs ≡ x ∷ drop (suc n) xs
  drop_next [] n x e = absurd (cc e)
  drop_next (y ∷ ys) zero x e = ap (λ z. z ∷ ys) (cc e)
  drop_next (y ∷ ys) (suc n) x e = drop_next ys n x e

  pub between_none : (n : ℕ) (xs : List A) → between n n xs ≡ []
  between_none n xs = ap (λ k. take k (drop n xs)) (none n) where
    none : (n : ℕ) → n - n ≡ 0
    none n = omega arith

  -- one more in front
  pub between_front : (n end : ℕ) (xs : List A) (x : A) → n < end → slice_get xs n ≡ Some x → between n end xs ≡ x ∷ between (suc n) end xs
  between_front n end xs x l e = ap (λ ys. take (end - n) ys) (drop_next xs n x e) ∙ ap (λ k. take k (x ∷ drop (suc n) xs)) (one_more n end l) where
    one_more : (n end : ℕ) → n < end → end - n ≡ suc (end - suc n)
    one_more n end l = omega (arith, l)

  -- one more at the end
  pub between_back : (first n : ℕ) (xs : List A) (x : A) → first ≤ n → slice_get xs n ≡ Some x → between first (suc n) xs ≡ between first n xs ++ x ∷ []
  between_back first n xs x l e = ap (λ k. take k (drop first xs)) (one_more first n l) ∙ take_next (drop first xs) (n - first) x (dropped first n xs l ∙ e) where
    one_more : (first n : ℕ) → first ≤ n → suc n - first ≡ suc (n - first)
    one_more first n l = omega (arith, l)

    dropped : (first n : ℕ) (ys : List A) → first ≤ n → slice_get (drop first ys) (n - first) ≡ slice_get ys n
    dropped zero n ys h = ap (slice_get ys) (same n) where
      same : (n : ℕ) → n - 0 ≡ n
      same n = omega arith
    dropped (suc first) n [] h = refl
    dropped (suc first) zero (y ∷ ys) h = absurd (omega (arith, h))
    dropped (suc first) (suc n) (y ∷ ys) h = ap (slice_get (drop first ys)) (same n first) ∙ dropped first n ys (omega (arith, h)) where
      same : (n k : ℕ) → suc n - suc k ≡ n - k
      same n k = omega arith

  -- a part and what is behind it
  pub between_parts : (first n end : ℕ) (xs : List A) → first ≤ n → n ≤ end → between first end xs ≡ between first n xs ++ between n end xs
  between_parts first n end xs l r = parts (n - first) (end - n) (drop first xs) (end - first) (sum first n end l r) ∙ ap (λ ys. between first n xs ++ take (end - n) ys) (dropped (n - first) first n xs (back first n l)) where
    sum : (first n end : ℕ) → first ≤ n → n ≤ end → end - first ≡ (n - first) + (end - n)
    sum first n end l r = omega (arith, l, r)

    back : (first n : ℕ) → first ≤ n → n ≡ (n - first) + first
    back first n l = omega (arith, l)

    parts : (a b : ℕ) (ys : List A) (k : ℕ) → k ≡ a + b → take k ys ≡ take a ys ++ take b (drop a ys)
    parts zero b ys k e = ap (λ j. take j ys) (e ∙ zero_more b) where
      zero_more : (b : ℕ) → 0 + b ≡ b
      zero_more b = omega arith
    parts (suc a) b [] zero e = absurd (omega (arith, e))
    parts (suc a) zero [] (suc k) e = refl
    parts (suc a) (suc b) [] (suc k) e = refl
    parts (suc a) b (y ∷ ys) zero e = absurd (omega (arith, e))
    parts (suc a) b (y ∷ ys) (suc k) e = ap (λ zs. y ∷ zs) (parts a b ys k (omega (arith, e)))

    dropped : (a first n : ℕ) (ys : List A) → n ≡ a + first → drop a (drop first ys) ≡ drop n ys
    dropped a zero n ys e = ap (λ k. drop k ys) (sym (e ∙ same a)) where
      same : (a : ℕ) → a + 0 ≡ a
      same a = omega arith
    dropped zero (suc first) zero [] e = refl
    dropped zero (suc first) (suc n) [] e = refl
    dropped (suc a) (suc first) zero [] e = refl
    dropped (suc a) (suc first) (suc n) [] e = refl
    dropped a (suc first) zero (y ∷ ys) e = absurd (omega (arith, e))
    dropped a (suc first) (suc n) (y ∷ ys) e = dropped a first n ys (omega (arith, e))

-- 40 lines stay as they are
pub full_stays : {A : Type 0} (xs ys : List A) → length xs ≤ 40 → 40 ≤ length xs → xs ≡ take 40 (xs ++ ys)
full_stays xs ys few full = sym (take-append-le 40 xs ys full ∙ take_all 40 xs few)

pub nothing_more : {A : Type 0} (xs : List A) → length xs ≤ 40 → xs ≡ take 40 (xs ++ [])
nothing_more xs few = sym (ap (take 40) (append-nil xs) ∙ take_all 40 xs few)

-- what is no name has no line of one
pub no_name_lines : (c : CodeView) (s : State) (e : Entry) → ((x k : ℕ) → e ≡ entry.Name x k → ⊥) → ((x k : ℕ) → e ≡ entry.ProcedureName x k → ⊥) → name_lines c s (e ∷ []) ≡ []
no_name_lines c s (entry.Name x k) no_name no_procedure = absurd (no_name x k refl)
no_name_lines c s (entry.ProcedureName x k) no_name no_procedure = absurd (no_procedure x k refl)
no_name_lines c s (entry.Block p k) no_name no_procedure = refl
no_name_lines c s (entry.Declared m) no_name no_procedure = refl
no_name_lines c s (entry.Turn p k) no_name no_procedure = refl
no_name_lines c s (entry.Call k p) no_name no_procedure = refl
no_name_lines c s (entry.Actual k) no_name no_procedure = refl
no_name_lines c s entry.Aside no_name no_procedure = refl
no_name_lines c s (entry.Widths w) no_name no_procedure = refl

pub length_take_most : {A : Type 0} (k : ℕ) (xs : List A) → length (take k xs) ≤ k
length_take_most zero xs = omega arith
length_take_most (suc k) [] = omega arith
length_take_most (suc k) (x ∷ xs) = let few = length_take_most k xs in omega (arith, few)

pub some_within : {A : Type 0} (xs : List A) (k : ℕ) → k < length xs → (x : A) × (slice_get xs k ≡ Some x)
some_within [] k l = absurd (omega (arith, l))
some_within (x ∷ xs) zero l = (x, refl)
some_within (x ∷ xs) (suc k) l = some_within xs k (omega (arith, l))

pub or_any : {A : Type 0} (xs : List A) (k : ℕ) (d d' : A) → k < length xs → slice_index_or xs k d ≡ slice_index_or xs k d'
or_any [] k d d' l = absurd (omega (arith, l))
or_any (x ∷ xs) zero d d' l = refl
or_any (x ∷ xs) (suc k) d d' l = or_any xs k d d' (omega (arith, l))

pub map_take : {A B : Type 0} (f : A → B) (n : ℕ) (xs : List A) → map f (take n xs) ≡ take n (map f xs)
map_take f zero xs = refl
map_take f (suc n) [] = refl
map_take f (suc n) (x ∷ xs) = ap (λ ys. f x ∷ ys) (map_take f n xs)

-- ---- names

pub names_append : (c : CodeView) (s : State) (xs ys : List Entry) → name_lines c s (xs ++ ys) ≡ name_lines c s xs ++ name_lines c s ys
names_append c s [] ys = refl
names_append c s (entry.Name x k ∷ xs) ys = ap (λ zs. line.Shown (text_view c.given x) (cell_shown c s (slice_get s.store.cells k)) ∷ zs) (names_append c s xs ys)
names_append c s (entry.ProcedureName x k ∷ xs) ys = ap (λ zs. line.Shown (text_view c.given x) shown.Procedure ∷ zs) (names_append c s xs ys)
names_append c s (entry.Block p n ∷ xs) ys = names_append c s xs ys
names_append c s (entry.Declared mark ∷ xs) ys = names_append c s xs ys
names_append c s (entry.Turn p back ∷ xs) ys = names_append c s xs ys
names_append c s (entry.Call head site ∷ xs) ys = names_append c s xs ys
names_append c s (entry.Actual head ∷ xs) ys = names_append c s xs ys
names_append c s (entry.Aside ∷ xs) ys = names_append c s xs ys
names_append c s (entry.Widths w ∷ xs) ys = names_append c s xs ys

-- names more, in 40 lines
pub names_more : (c : CodeView) (s : State) (first n : ℕ) (e : Entry) (old : List (List ℕ)) → first ≤ n → slice_get s.store.entries n ≡ Some e →
    take 40 (take 40 (old ++ map dump_text (name_lines c s (between first n s.store.entries))) ++ map dump_text (name_lines c s (e ∷ []))) ≡ take 40 (old ++ map dump_text (name_lines c s (between first (suc n) s.store.entries)))
names_more c s first n e old l is =
    take_over 40 (old ++ map dump_text (name_lines c s (between first n s.store.entries))) (map dump_text (name_lines c s (e ∷ [])))
    ∙ ap (take 40) (append_assoc old (map dump_text (name_lines c s (between first n s.store.entries))) (map dump_text (name_lines c s (e ∷ []))))
    ∙ ap (λ zs. take 40 (old ++ zs)) (sym (map-append dump_text (name_lines c s (between first n s.store.entries)) (name_lines c s (e ∷ []))))
    ∙ ap (λ zs. take 40 (old ++ map dump_text zs)) (sym (names_append c s (between first n s.store.entries) (e ∷ [])))
    ∙ ap (λ zs. take 40 (old ++ map dump_text (name_lines c s zs))) (sym (between_back first n s.store.entries e l is))

-- none by now
pub names_none : (c : CodeView) (s : State) (first : ℕ) (old : List (List ℕ)) → length old ≤ 40 → old ≡ take 40 (old ++ map dump_text (name_lines c s (between first first s.store.entries)))
names_none c s first old few =
    sym (ap (λ es. take 40 (old ++ map dump_text (name_lines c s es))) (between_none first s.store.entries) ∙ ap (take 40) (append-nil old) ∙ take_all 40 old few)

-- those that there are no lines for
pub names_over : (c : CodeView) (s : State) (first n end : ℕ) (old : List (List ℕ)) → first ≤ n → n ≤ end → 40 ≤ length (take 40 (old ++ map dump_text (name_lines c s (between first n s.store.entries)))) →
    take 40 (old ++ map dump_text (name_lines c s (between first n s.store.entries))) ≡ take 40 (old ++ map dump_text (name_lines c s (between first end s.store.entries)))
names_over c s first n end old l r full =
    sym (take_full 40 (old ++ map dump_text (name_lines c s (between first n s.store.entries))) (map dump_text (name_lines c s (between n end s.store.entries))) full)
    ∙ ap (take 40) (append_assoc old (map dump_text (name_lines c s (between first n s.store.entries))) (map dump_text (name_lines c s (between n end s.store.entries))))
    ∙ ap (λ zs. take 40 (old ++ zs)) (sym (map-append dump_text (name_lines c s (between first n s.store.entries)) (name_lines c s (between n end s.store.entries))))
    ∙ ap (λ zs. take 40 (old ++ map dump_text zs)) (sym (names_append c s (between first n s.store.entries) (between n end s.store.entries)))
    ∙ ap (λ zs. take 40 (old ++ map dump_text (name_lines c s zs))) (sym (between_parts first n end s.store.entries l r))

-- ---- all lines

module _ (c : CodeView) (s : State) where
  abbrev m : machine.Machine
  m = shown_machine c s

  abbrev lines_of : List machine.Entry → List dump.Entry → List dump.Entry
  lines_of es names = all_lines (code_view c).instructions m es names

  abbrev newest_first : List Entry → List machine.Entry
  newest_first es = reverse (map (entry_of c.given) es)

  pub cell_found : (k : ℕ) → shown_cell m (on_top_of m.cells k) ≡ cell_shown c s (slice_get s.store.cells k)
  cell_found k = ap (shown_cell m) (on_top_of-reverse (map (content_of c.given) s.store.cells) k ∙ slice_get-map (content_of c.given) s.store.cells k)

  -- an entry that is shown as no mark
  hidden : (e : Entry) (es : List machine.Entry) (names : List dump.Entry) → mark_line c e ≡ None → lines_of (entry_of c.given e ∷ es) names ≡ lines_of es (name_lines c s (e ∷ []) ++ names)
  hidden (entry.Name x k) es names q = ap (λ (z : Shown). lines_of es (line.Shown (text_view c.given x) z ∷ names)) (cell_found k)
  hidden (entry.ProcedureName x k) es names q = refl
  hidden (entry.Block p n) es names q = absurd (cc q)
  hidden (entry.Declared mark) es names q = refl
  hidden (entry.Turn p back) es names q = absurd (cc q)
  hidden (entry.Call head site) es names q = absurd (cc q)
  hidden (entry.Actual head) es names q = absurd (cc q)
  hidden entry.Aside es names q = refl
  hidden (entry.Widths w) es names q = refl

  -- one that is
  marked : (e : Entry) (l : dump.Entry) (es : List machine.Entry) (names : List dump.Entry) → mark_line c e ≡ Some l → lines_of (entry_of c.given e ∷ es) names ≡ l ∷ (names ++ lines_of es [])
  marked (entry.Name x k) l es names q = absurd (cc q)
  marked (entry.ProcedureName x k) l es names q = absurd (cc q)
  marked (entry.Block p n) l es names q = ap (λ z. z ∷ (names ++ lines_of es [])) (cc q)
  marked (entry.Declared mark) l es names q = absurd (cc q)
  marked (entry.Turn p back) l es names q = ap (λ z. z ∷ (names ++ lines_of es [])) (cc q)
  marked (entry.Call head site) l es names q = ap (λ z. z ∷ (names ++ lines_of es [])) (cc q)
  marked (entry.Actual head) l es names q = ap (λ z. z ∷ (names ++ lines_of es [])) (cc q)
  marked entry.Aside l es names q = absurd (cc q)
  marked (entry.Widths w) l es names q = absurd (cc q)

  abbrev names_of : (n end : ℕ) → List dump.Entry
  names_of n end = name_lines c s (between n end s.store.entries)

  -- The lines by now are of the entries from a number on, but for the names up to the next mark.
  pub record Shows (n end : ℕ) (lines : List (List ℕ)) : Type 0 where
    pub done : List dump.Entry
    pub are : lines ≡ take 40 (map dump_text done)
    pub rest : lines_of (newest_first s.store.entries) [] ≡ done ++ lines_of (newest_first (take n s.store.entries)) (name_lines c s (between n end s.store.entries))
    pub below : n ≤ end
    pub within : end ≤ length s.store.entries

  pub nothing_yet : Shows (length s.store.entries) (length s.store.entries) []
  nothing_yet = record {
    done = [];
    are = refl;
    rest = ap (λ es. lines_of (newest_first es) []) (sym (take_all (length s.store.entries) s.store.entries (omega arith))) ∙ ap (λ es. lines_of (newest_first (take (length s.store.entries) s.store.entries)) (name_lines c s es)) (sym (between_none (length s.store.entries) s.store.entries));
    below = omega arith;
    within = omega arith;
  }

  module _ (n end : ℕ) (lines : List (List ℕ)) (e : Entry) (here : slice_get s.store.entries n ≡ Some e) (w : Shows (suc n) end lines) where
    one_less : newest_first (take (suc n) s.store.entries) ≡ entry_of c.given e ∷ newest_first (take n s.store.entries)
    one_less = ap newest_first (take_next s.store.entries n e here) ∙ entries_more c.given (take n s.store.entries) e

    pub passed : mark_line c e ≡ None → Shows n end lines
    passed q = record {
      done = w.done;
      are = w.are;
      rest = w.rest
          ∙ ap (λ es. w.done ++ lines_of es (names_of (suc n) end)) one_less
          ∙ ap (λ ls. w.done ++ ls) (hidden e (newest_first (take n s.store.entries)) (names_of (suc n) end) q)
          ∙ ap (λ ns. w.done ++ lines_of (newest_first (take n s.store.entries)) ns) (sym (names_append c s (e ∷ []) (between (suc n) end s.store.entries)))
          ∙ ap (λ es. w.done ++ lines_of (newest_first (take n s.store.entries)) (name_lines c s es)) (sym (between_front n end s.store.entries e (omega (arith, w.below)) here));
      below = omega (arith, w.below);
      within = w.within;
    }

    module _ (l : dump.Entry) (q : mark_line c e ≡ Some l) where
      abbrev shown_now : List dump.Entry
      shown_now = w.done ++ l ∷ names_of (suc n) end

      lines_now : take 40 (take 40 (lines ++ dump_text l ∷ []) ++ map dump_text (names_of (suc n) end)) ≡ take 40 (map dump_text shown_now)
      lines_now =
          take_over 40 (lines ++ dump_text l ∷ []) (map dump_text (names_of (suc n) end))
          ∙ ap (take 40) (append_assoc lines (dump_text l ∷ []) (map dump_text (names_of (suc n) end)))
          ∙ ap (λ ls. take 40 (ls ++ map dump_text (l ∷ names_of (suc n) end))) w.are
          ∙ take_over 40 (map dump_text w.done) (map dump_text (l ∷ names_of (suc n) end))
          ∙ ap (take 40) (sym (map-append dump_text w.done (l ∷ names_of (suc n) end)))

      pub shown_mark : Shows n n (take 40 (take 40 (lines ++ dump_text l ∷ []) ++ map dump_text (names_of (suc n) end)))
      shown_mark = record {
        done = shown_now;
        are = lines_now;
        rest = w.rest
            ∙ ap (λ es. w.done ++ lines_of es (names_of (suc n) end)) one_less
            ∙ ap (λ ls. w.done ++ ls) (marked e l (newest_first (take n s.store.entries)) (names_of (suc n) end) q)
            ∙ sym (append_assoc w.done (l ∷ names_of (suc n) end) (lines_of (newest_first (take n s.store.entries)) []))
            ∙ ap (λ es. shown_now ++ lines_of (newest_first (take n s.store.entries)) (name_lines c s es)) (sym (between_none n s.store.entries));
        below = omega arith;
        within = omega (arith, w.below, w.within);
      }

  -- no more lines, or no more entries
  pub shows_all : (n end : ℕ) (lines : List (List ℕ)) → Shows n end lines → 40 ≤ length lines → lines ≡ dump_lines (code_view c) m
  shows_all n end lines w full =
      let later = lines_of (newest_first (take n s.store.entries)) (names_of n end) in
      w.are ∙ sym (take_full 40 (map dump_text w.done) (map dump_text later) (subst (λ ls. 40 ≤ length ls) w.are full))
      ∙ ap (take 40) (sym (map-append dump_text w.done later))
      ∙ sym (map_take dump_text 40 (w.done ++ later))
      ∙ ap (λ ls. map dump_text (take 40 ls)) (sym w.rest)

  pub shows_end : (end : ℕ) (lines : List (List ℕ)) → Shows 0 end lines → lines ≡ dump_lines (code_view c) m
  shows_end end lines w =
      w.are ∙ sym (map_take dump_text 40 w.done) ∙ ap (λ ls. map dump_text (take 40 ls)) (sym (w.rest ∙ append-nil w.done))
