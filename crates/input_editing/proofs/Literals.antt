-- Literals, and their texts.
use Rattle.std.proofs.Common.{◌≢◌, ◌≡◌, ℕ, ◌+◌, ◌<◌, ◌≤◌, ◌==◌, Bool, true, false, cond, List, [], ◌∷◌, ◌++◌, length, drop, get_or, Option, Some, None, refl, sym, ap, subst, ◌∙◌, append_assoc, arith}
use Rattle.std.proofs.lemmas.Bool.{eqb-true}
use Rattle.std.proofs.lemmas.Bool.Decides.{nat_tests}
use Rattle.std.proofs.lemmas.Option.{none-some, some_pair_parts}
use Rattle.std.proofs.lemmas.List.{length-append, length-drop, drop-drop, drop_more, drop_all, length_push, append-nil, flat_map_more}
use Rattle.std.specs.Option.{option_map}
use Rattle.input_editing.specs.Items.{doubled, literal}
use Rattle.input_editing.specs.Scanning.{begins_with_quote, onto, unquoted, literal_at}

-- a text with more in front of it
abbrev pub with_front : List ℕ → Option (List ℕ × List ℕ) → Option (List ℕ × List ℕ)
with_front front parts = option_map (λ p. (front ++ p.0, p.1)) parts

with_front-onto : (front : List ℕ) (c : ℕ) (parts : Option (List ℕ × List ℕ)) → with_front front (onto c parts) ≡ with_front (front ++ c ∷ []) parts
with_front-onto front c None = refl
with_front-onto front c (Some p) = ap (λ (text : List ℕ). Some (text, p.1)) (sym (append_assoc front (c ∷ []) p.0))

with_front-nil : (parts : Option (List ℕ × List ℕ)) → with_front [] parts ≡ parts
with_front-nil None = refl
with_front-nil (Some p) = refl

-- a character that is no quote
pub unquoted_other : (c : ℕ) (line : List ℕ) → (c == 34) ≡ false → unquoted (c ∷ line) ≡ onto c (unquoted line)
unquoted_other c [] h = ap (λ (b : Bool). cond b (Some ([], [])) None) h
unquoted_other c (d ∷ line) h = ap (λ (b : Bool). cond b (cond (d == 34) (onto 34 (unquoted line)) (Some ([], d ∷ line))) (onto c (unquoted (d ∷ line)))) h

-- a quote that isn't doubled
pub unquoted_closed : (line : List ℕ) → begins_with_quote line ≡ false → unquoted (34 ∷ line) ≡ Some ([], line)
unquoted_closed [] h = refl
unquoted_closed (d ∷ line) h = ap (λ (b : Bool). cond b (onto 34 (unquoted line)) (Some ([], d ∷ line))) h

-- a quote that is doubled
pub unquoted_doubled : (line : List ℕ) → begins_with_quote line ≡ true → unquoted (34 ∷ line) ≡ onto 34 (unquoted (drop 1 line))
unquoted_doubled [] h = cc
unquoted_doubled (d ∷ line) h = ap (λ (b : Bool). cond b (onto 34 (unquoted line)) (Some ([], d ∷ line))) h

after_two : (line : List ℕ) (i : ℕ) → drop 1 (drop (i + 1) line) ≡ drop (i + 2) line
after_two line i = let two : i + 1 + 1 ≡ i + 2 = omega arith in drop-drop 1 (i + 1) line ∙ ap (λ (n : ℕ). drop n line) two

some_with_quote : (line : List ℕ) → begins_with_quote line ≡ true → 0 < length line
some_with_quote [] h = cc
some_with_quote (c ∷ line) h = omega arith

abbrev doubled_char : ℕ → List ℕ
doubled_char c = cond (c == 34) (34 ∷ 34 ∷ []) (c ∷ [])

length-doubled_char : (c : ℕ) → length (doubled_char c) ≡ cond (c == 34) 2 1
length-doubled_char c = elim (c == 34) as (λ b. length (cond b (34 ∷ 34 ∷ []) (c ∷ [])) ≡ cond b 2 1) [ true ↦ refl | false ↦ refl ]

-- a character more takes one column more, and a quote two
length-literal_push : (text : List ℕ) (c : ℕ) → length (literal (text ++ c ∷ [])) ≡ length (literal text) + cond (c == 34) 2 1
length-literal_push text c =
    let more : doubled text ++ doubled_char c ≡ doubled (text ++ c ∷ []) = flat_map_more doubled_char [] text c in
    omega (arith, length-append (doubled (text ++ c ∷ [])) (34 ∷ []), length-append (doubled text) (34 ∷ []), ap length more, length-append (doubled text) (doubled_char c), length-doubled_char c)

-- of the literal that a line begins with, this text is read, in so many columns
pub record IsReadTo (line text : List ℕ) (columns : ℕ) : Type 0 where
  pub parts : with_front text (unquoted (drop columns line)) ≡ literal_at line
  pub taken : columns + 1 ≡ length (literal text)
  pub short : length text < columns
  pub within : columns ≤ length line

-- behind the first quote
pub read_first : (line : List ℕ) → begins_with_quote line ≡ true → IsReadTo line [] 1
read_first [] h = cc
read_first (c ∷ line) h = record {
  parts = with_front-nil (unquoted line) ∙ sym (ap (λ (b : Bool). cond b (unquoted line) None) h);
  taken = refl;
  short = omega arith;
  within = omega arith;
}

-- behind a character that is no quote
pub read_other : (line text longer : List ℕ) (i next c : ℕ) → IsReadTo line text i → i < length line → c ≡ get_or line i 0 → c ≢ 34 → next ≡ i + 1 → longer ≡ text ++ c ∷ [] → IsReadTo line longer next
read_other line text longer i next c read within is other n t =
    let test : (c == 34) ≡ false = grind (arith, nat_tests) in
    let cut : drop i line ≡ c ∷ drop (i + 1) line = drop_more line i 0 within ∙ ap (λ (x : ℕ). x ∷ drop (i + 1) line) (sym is) in
    let step : with_front text (unquoted (drop i line)) ≡ with_front (text ++ c ∷ []) (unquoted (drop (i + 1) line)) =
    ap (λ (xs : List ℕ). with_front text (unquoted xs)) cut
    ∙ ap (with_front text) (unquoted_other c (drop (i + 1) line) test)
    ∙ with_front-onto text c (unquoted (drop (i + 1) line)) in
    let one : cond {A = ℕ} (c == 34) 2 1 ≡ 1 = ap (λ (b : Bool). cond {A = ℕ} b 2 1) test in
    rw (n, t) (record {
      parts = sym step ∙ read.parts;
      taken = omega (arith, length-literal_push text c);
      short = omega (arith, length_push text c);
      within = omega arith;
    })

-- behind a pair of quotes
pub read_pair : (line text longer : List ℕ) (i next c : ℕ) → IsReadTo line text i → i < length line → c ≡ get_or line i 0 → c ≡ 34 → begins_with_quote (drop (i + 1) line) ≡ true → next ≡ i + 1 + 1 → longer ≡ text ++ c ∷ [] → IsReadTo line longer next
read_pair line text longer i next c read within is quote pair n t =
    let cut : drop i line ≡ 34 ∷ drop (i + 1) line = drop_more line i 0 within ∙ ap (λ (x : ℕ). x ∷ drop (i + 1) line) (sym is ∙ quote) in
    let step : with_front text (unquoted (drop i line)) ≡ with_front (text ++ 34 ∷ []) (unquoted (drop (i + 2) line)) =
    ap (λ (xs : List ℕ). with_front text (unquoted xs)) cut
    ∙ ap (with_front text) (unquoted_doubled (drop (i + 1) line) pair ∙ ap (λ (xs : List ℕ). onto 34 (unquoted xs)) (after_two line i))
    ∙ with_front-onto text 34 (unquoted (drop (i + 2) line)) in
    let two : next ≡ i + 2 = omega arith in
    rw (two, t, quote) (record {
      parts = sym step ∙ read.parts;
      taken = omega (arith, length-literal_push text 34);
      short = omega (arith, length_push text 34);
      within = omega (arith, some_with_quote (drop (i + 1) line) pair, length-drop (i + 1) line);
    })

-- at the quote that closes it
pub read_close : (line text : List ℕ) (i c : ℕ) → IsReadTo line text i → i < length line → c ≡ get_or line i 0 → c ≡ 34 → begins_with_quote (drop (i + 1) line) ≡ false → literal_at line ≡ Some (text, drop (i + 1) line)
read_close line text i c read within is quote closed =
    let cut : drop i line ≡ 34 ∷ drop (i + 1) line = drop_more line i 0 within ∙ ap (λ (x : ℕ). x ∷ drop (i + 1) line) (sym is ∙ quote) in
    sym read.parts
    ∙ ap (λ (xs : List ℕ). with_front text (unquoted xs)) cut
    ∙ ap (with_front text) (unquoted_closed (drop (i + 1) line) closed)
    ∙ ap (λ (t : List ℕ). Some (t, drop (i + 1) line)) (append-nil text)

-- at the end of the line
pub read_open : (line text : List ℕ) (i : ℕ) → IsReadTo line text i → length line ≤ i → literal_at line ≡ None
read_open line text i read end = sym read.parts ∙ ap (λ (xs : List ℕ). with_front text (unquoted xs)) (drop_all i line end)

-- what is read of a literal is all of it
pub record IsClosed (line text behind : List ℕ) : Type 0 where
  pub cut : line ≡ doubled text ++ 34 ∷ behind
  pub undoubled : begins_with_quote behind ≡ false

closed_onto : (c : ℕ) (line text behind : List ℕ) → (c == 34) ≡ false → IsClosed line text behind → IsClosed (c ∷ line) (c ∷ text) behind
closed_onto c line text behind other closed = record {
  cut = ap (λ (xs : List ℕ). c ∷ xs) closed.cut ∙ sym (ap (λ (b : Bool). (cond b (34 ∷ 34 ∷ []) (c ∷ []) ++ doubled text) ++ 34 ∷ behind) other);
  undoubled = closed.undoubled;
}

closed_onto_pair : (line text behind : List ℕ) → IsClosed line text behind → IsClosed (34 ∷ 34 ∷ line) (34 ∷ text) behind
closed_onto_pair line text behind closed = record {
  cut = ap (λ (xs : List ℕ). 34 ∷ 34 ∷ xs) closed.cut;
  undoubled = closed.undoubled;
}

-- what onto gives has this character first
some_onto : (c : ℕ) (parts : Option (List ℕ × List ℕ)) (text behind : List ℕ) → onto c parts ≡ Some (text, behind) → (front : List ℕ) × (parts ≡ Some (front, behind)) × (c ∷ front ≡ text)
some_onto c None text behind h = cc
some_onto c (Some p) text behind h =
    let both = some_pair_parts (c ∷ p.0) text p.1 behind h in
    (p.0, ap (λ (r : List ℕ). Some (p.0, r)) both.1, both.0)

pub unquoted_sound : (line text behind : List ℕ) → unquoted line ≡ Some (text, behind) → IsClosed line text behind
unquoted_sound [] text behind h = cc
unquoted_sound (c ∷ []) text behind h = by_quote (c == 34) refl
  where
    by_quote : (b : Bool) → (c == 34) ≡ b → IsClosed (c ∷ []) text behind
    by_quote false is = absurd (none-some (text, behind) (rw is at h))
    by_quote true is =
        let e : Some ([], []) ≡ Some (text, behind) = rw is at h in
        let both = some_pair_parts [] text [] behind e in
        rw (← both.0, ← both.1) (record { cut = ap (λ (x : ℕ). x ∷ []) (eqb-true c 34 is); undoubled = refl })
unquoted_sound (c ∷ d ∷ line) text behind h =
    by_quotes (λ front e. unquoted_sound (d ∷ line) front behind e) (λ front e. unquoted_sound line front behind e) (c == 34) (d == 34) refl refl
  where
    by_quotes : ((front : List ℕ) → unquoted (d ∷ line) ≡ Some (front, behind) → IsClosed (d ∷ line) front behind) → ((front : List ℕ) → unquoted line ≡ Some (front, behind) → IsClosed line front behind) → (b e : Bool) → (c == 34) ≡ b → (d == 34) ≡ e → IsClosed (c ∷ d ∷ line) text behind
    by_quotes one two false e is also =
        let found : onto c (unquoted (d ∷ line)) ≡ Some (text, behind) = rw is at h in
        let some = some_onto c (unquoted (d ∷ line)) text behind found in
        subst (λ (t : List ℕ). IsClosed (c ∷ d ∷ line) t behind) some.2 (closed_onto c (d ∷ line) some.0 behind is (one some.0 some.1))
    by_quotes one two true true is also =
        let found : onto 34 (unquoted line) ≡ Some (text, behind) = rw (is, also) at h in
        let some = some_onto 34 (unquoted line) text behind found in
        rw (eqb-true c 34 is, eqb-true d 34 also) (subst (λ (t : List ℕ). IsClosed (34 ∷ 34 ∷ line) t behind) some.2 (closed_onto_pair line some.0 behind (two some.0 some.1)))
    by_quotes one two true false is also =
        let e : Some ([], d ∷ line) ≡ Some (text, behind) = rw (is, also) at h in
        let both = some_pair_parts [] text (d ∷ line) behind e in
        rw (← both.0, ← both.1) (record { cut = ap (λ (x : ℕ). x ∷ d ∷ line) (eqb-true c 34 is); undoubled = also })

pub unquoted_complete : (text behind : List ℕ) → begins_with_quote behind ≡ false → unquoted (doubled text ++ 34 ∷ behind) ≡ Some (text, behind)
unquoted_complete [] behind h = unquoted_closed behind h
unquoted_complete (c ∷ text) behind h = by_quote (unquoted_complete text behind h) (c == 34) refl
  where
    by_quote : unquoted (doubled text ++ 34 ∷ behind) ≡ Some (text, behind) → (b : Bool) → (c == 34) ≡ b → unquoted ((cond (c == 34) (34 ∷ 34 ∷ []) (c ∷ []) ++ doubled text) ++ 34 ∷ behind) ≡ Some (c ∷ text, behind)
    by_quote rest true is =
        ap (λ (b : Bool). unquoted ((cond b (34 ∷ 34 ∷ []) (c ∷ []) ++ doubled text) ++ 34 ∷ behind)) is
        ∙ ap (onto 34) rest
        ∙ ap (λ (x : ℕ). Some (x ∷ text, behind)) (sym (eqb-true c 34 is))
    by_quote rest false is =
        ap (λ (b : Bool). unquoted ((cond b (34 ∷ 34 ∷ []) (c ∷ []) ++ doubled text) ++ 34 ∷ behind)) is
        ∙ unquoted_other c (doubled text ++ 34 ∷ behind) is
        ∙ ap (onto c) rest

pub literal_at_sound : (line text behind : List ℕ) → literal_at line ≡ Some (text, behind) → line ≡ literal text ++ behind
literal_at_sound [] text behind h = cc
literal_at_sound (c ∷ line) text behind h = by_quote (c == 34) refl
  where
    by_quote : (b : Bool) → (c == 34) ≡ b → c ∷ line ≡ literal text ++ behind
    by_quote false is = absurd (none-some (text, behind) (rw is at h))
    by_quote true is =
        let found : unquoted line ≡ Some (text, behind) = rw is at h in
        ap (λ (x : ℕ). x ∷ line) (eqb-true c 34 is)
        ∙ ap (λ (xs : List ℕ). 34 ∷ xs) ((unquoted_sound line text behind found).cut ∙ sym (append_assoc (doubled text) (34 ∷ []) behind))

pub literal_at_complete : (text behind : List ℕ) → begins_with_quote behind ≡ false → literal_at (literal text ++ behind) ≡ Some (text, behind)
literal_at_complete text behind h = ap unquoted (append_assoc (doubled text) (34 ∷ []) behind) ∙ unquoted_complete text behind h
