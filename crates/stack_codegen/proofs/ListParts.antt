-- A list behind a name, phrase by phrase.
use Rattle.std.proofs.Common.{◌≡◌, ℕ, ◌+◌, ◌<◌, ◌≤◌, max, Bool, true, false, ◌&&◌, List, [], ◌∷◌, drop, length, map, Some, None, ◌⊎◌, inl, inr, refl, sym, ap, ◌∙◌, subst, arith}
use Rattle.std.specs.Prelude.{slice_index_or, ◌==◌}
use Rattle.std.specs.List.{All, slice_get}
use Rattle.std.proofs.lemmas.Bool.{eqb-true}
use Rattle.std.proofs.lemmas.List.{drop_all, get_or-map, length-map}
use Rattle.std.proofs.lemmas.List.Elements.{All-drop, All-get_or, All-take}
use Rattle.std.proofs.lemmas.Option.{slice_get_cases}
use Rattle.value_ops.specs.declared.places.Place.{Place}
use Rattle.value_ops.specs.declared.values.SimpleType.{SimpleType}
use Rattle.algolw_tree.specs.declared.programs.Node.{Node}
use Rattle.algolw_tree.specs.declared.programs.TypedActual.{TypedActual, Star, Phrase'}
use Rattle.algolw_typing.specs.Types.{ValueType}
use Rattle.program_meaning.specs.Phrases.{Phrase}
use Rattle.program_meaning.specs.Translating.{given_of, targets_of}
use Rattle.phrase_code.specs.Coding as coding
use Rattle.phrase_code.specs.Coding.{◌▸◌, known, one}
use Rattle.phrase_code.specs.Sizes.{size}
use Rattle.stack_code.specs.Code as code
use Rattle.stack_code.specs.CodeView.{CodeFits, KindFits, kind_view}
use Rattle.stack_code.specs.Instr as instr
use Rattle.stack_code.specs.declared.instructions.Instr.TheVariants as held
use Rattle.stack_code.specs.declared.instructions.Mode.TheVariants as mode
use Rattle.symbol_table.specs.declared.here.Here.{Here}
use Rattle.symbol_table.specs.declared.standings.Class.{Class}
use Rattle.symbol_table.specs.Contexts.{Scene, coding_context, numbers_in, phrase_context}
use Rattle.symbol_table.specs.Heres.{variable_type}
use Rattle.symbol_table.specs.Parts.{actuals_in}
use Rattle.symbol_table.specs.Symbols.{field_at, types_of}
use Rattle.symbol_table.proofs.Declaring.{next_out}
use Rattle.code_emitter.specs.declared.emitter.Emitter.{Emitter}
use Rattle.code_emitter.specs.Forms.{Form}
use Rattle.code_emitter.specs.Parts.{CodesPhrase, code_at, next, none_own, phrase_in, place_in, scene}
use Rattle.code_emitter.proofs.Remaining.{Remains, remains_all, remains_as, remains_each, remains_each_two, remains_left, remains_none}
use Rattle.stack_codegen.specs.declared.lists.ListUse.{ListUse}
use Rattle.stack_codegen.specs.declared.lists.ListUse.TheVariants as list
use Rattle.stack_codegen.specs.Codable.{node_in}
use Rattle.stack_codegen.specs.Listed.{CodesListed, behind, use_code, use_marks, wanted, with_field}
use Rattle.stack_codegen.proofs.Typing.{variable_type_same}

-- what is left of a list behind n phrases
abbrev pub left_use : Here → ListUse → (n : ℕ) → List TypedActual → Form
left_use here list.Subscripts n actuals s k ts = coding.code_each (coding_context s ts here) (place_in s here) k (given_of (phrase_context s) (actuals_in (numbers_in s) actuals))
left_use here (list.Fields class) n actuals s k ts = coding.code_fields (coding_context s ts here) (place_in s here) k (drop n (map (kind_view s.given) (types_of s.symbols class))) (given_of (phrase_context s) (actuals_in (numbers_in s) actuals))
left_use here (list.Read next) n actuals s k ts = coding.code_reads (coding_context s ts here) (place_in s here) (next && (n == 0)) k (targets_of (phrase_context s) (actuals_in (numbers_in s) actuals))
left_use here list.ReadCard n actuals s k ts = coding.code_cards (coding_context s ts here) (place_in s here) k (targets_of (phrase_context s) (actuals_in (numbers_in s) actuals))

at_first : (b : Bool) → (b && true) ≡ b
at_first true = refl
at_first false = refl

pub all_left : (here : Here) (u : ListUse) (actuals : List TypedActual) (s : Scene) (k : ℕ) (ts : List ℕ) → left_use here u 0 actuals s k ts ≡ use_code s here k u (actuals_in (numbers_in s) actuals) ts
all_left here list.Subscripts actuals s k ts = refl
all_left here (list.Fields class) actuals s k ts = refl
all_left here (list.Read next) actuals s k ts = ap (λ b. coding.code_reads (coding_context s ts here) (place_in s here) b k (targets_of (phrase_context s) (actuals_in (numbers_in s) actuals))) (at_first next)
all_left here list.ReadCard actuals s k ts = refl

pub none_left : (here : Here) (u : ListUse) (n : ℕ) (s : Scene) (k : ℕ) (ts : List ℕ) → left_use here u n [] s k ts ≡ []
none_left here list.Subscripts n s k ts = refl
none_left here (list.Fields class) n s k ts = refl
none_left here (list.Read next) n s k ts = refl
none_left here list.ReadCard n s k ts = refl

pub star_left : (here : Here) (u : ListUse) (n : ℕ) (q : Place) (rest : List TypedActual) (s : Scene) (k : ℕ) (ts : List ℕ) → left_use here u n (Star q ∷ rest) s k ts ≡ left_use here u n rest s k ts
star_left here list.Subscripts n q rest s k ts = refl
star_left here (list.Fields class) n q rest s k ts = refl
star_left here (list.Read next) n q rest s k ts = refl
star_left here list.ReadCard n q rest s k ts = refl

-- ---- phrase by phrase

not_first : (b : Bool) → (b && false) ≡ false
not_first true = refl
not_first false = refl

-- a phrase behind another isn't the first
is_later : (n : ℕ) → ((n + 1) == 0) ≡ false
is_later n = go ((n + 1) == 0) refl
  where
    go : (b : Bool) → ((n + 1) == 0) ≡ b → b ≡ false
    go true q = let e : n + 1 ≡ 0 = eqb-true (n + 1) 0 q in absurd (omega (arith, e))
    go false q = refl

later : (b : Bool) (n : ℕ) → false ≡ (b && ((n + 1) == 0))
later b n = sym (ap (λ k. b && k) (is_later n) ∙ not_first b)

-- a phrase of a list
abbrev pub as_actual : Node → TypedActual
as_actual x = Phrase' x.place x.first x.kind x.gives x.statement

abbrev Fields : Emitter → Class → List ValueType
Fields e class = map (kind_view e.code.given) (types_of e.symbols class)

field_left : (g : SimpleType → ValueType) (types : List SimpleType) (i : ℕ) (t : SimpleType) → i < length types → slice_index_or types i t ≡ t → drop i (map g types) ≡ g t ∷ drop (i + 1) (map g types)
field_left g types i t l at =
    let many = length-map types g in
    next_out (map g types) i (g t) (omega (arith, many, l)) (sym (get_or-map g types i t (g t) l ∙ ap g at))

fields_gone : (g : SimpleType → ValueType) (types : List SimpleType) (i : ℕ) → length types ≤ i → drop i (map g types) ≡ []
fields_gone g types i l = let many = length-map types g in drop_all i (map g types) (omega (arith, many, l))

field_fits : (e : Emitter) (class : Class) (i : ℕ) (t : SimpleType) → All (KindFits e.code.given) e.symbols.fields → i < length (types_of e.symbols class) → slice_index_or (types_of e.symbols class) i t ≡ t → KindFits e.code.given t
field_fits e class i t fits l at =
    let each : All (KindFits e.code.given) (types_of e.symbols class) = All-take (KindFits e.code.given) class.count (drop class.fields e.symbols.fields) (All-drop (KindFits e.code.given) class.fields e.symbols.fields fits) in
    subst (KindFits e.code.given) at (All-get_or (KindFits e.code.given) (types_of e.symbols class) i t l each)

-- the phrase in front, with what is done with it
module _ (old now b after : Emitter) (whole : List ℕ → List code.Coded) (marked m n : ℕ) (here : Here) (i : ℕ) (x : Node) (rest : List TypedActual) (kind : KindFits now.code.given (variable_type x.gives)) (fields : All (KindFits now.code.given) now.symbols.fields) where
  abbrev Left : ListUse → Type 0
  Left u = Remains none_own old now whole (left_use here u i (as_actual x ∷ rest)) marked (use_marks (scene now) u (actuals_in (numbers_in (scene now)) (as_actual x ∷ rest))) m

  abbrev Next : ListUse → Type 0
  Next u = Remains none_own old after whole (left_use here u (i + 1) rest) marked (use_marks (scene now) u (actuals_in (numbers_in (scene now)) rest)) (max m n)

  abbrev phrase : Phrase
  phrase = phrase_in (scene now) (node_in x (scene now))

  abbrev less : ListUse → ℕ
  less u = use_marks (scene now) u (actuals_in (numbers_in (scene now)) rest)

  field_there : (class : Class) → CodesPhrase now b here mode.Value phrase n → field_at b.symbols class i ≡ slice_get (types_of now.symbols class) i
  field_there class c = ap (λ (s : Scene). field_at s.symbols class i) c.stays.scene

  -- the values of a record, by the type of its field
  abbrev values : (ts : List ℕ) → ℕ → List ValueType → List TypedActual → List code.Coded
  values ts k types actuals = coding.code_fields (coding_context (scene now) ts here) (place_in (scene now) here) k types (given_of (phrase_context (scene now)) (actuals_in (numbers_in (scene now)) actuals))

  with_type : (class : Class) (t : SimpleType) → i < length (types_of now.symbols class) → slice_get (types_of now.symbols class) i ≡ Some t → slice_index_or (types_of now.symbols class) i t ≡ t → Left (list.Fields class) → CodesPhrase now b here mode.Value phrase n → after ≡ behind b here (list.Fields class) i x.gives → Next (list.Fields class)
  with_type class t l is at r c e =
      remains_each_two here mode.Value phrase (held.Make t) held.Push (left_use here (list.Fields class) (i + 1) rest) (less (list.Fields class)) refl refl (field_fits now class i t fields l at) tt refl
      (λ ts. ap (λ vs. values ts (next now) vs (as_actual x ∷ rest)) (field_left (kind_view now.code.given) (types_of now.symbols class) i t l at))
      r c refl (e ∙ ap (with_field b here) (field_there class c ∙ is))

  without_type : (class : Class) → length (types_of now.symbols class) ≤ i → slice_get (types_of now.symbols class) i ≡ None → Left (list.Fields class) → CodesPhrase now b here mode.Value phrase n → after ≡ behind b here (list.Fields class) i x.gives → Next (list.Fields class)
  without_type class l is r c e =
      remains_each_two here mode.Value phrase held.Stuck held.Stuck (left_use here (list.Fields class) (i + 1) rest) (less (list.Fields class)) refl refl tt tt refl
      (λ ts.
      let w : Place = place_in (scene now) here in
      let k : ℕ = next now + (size (known (coding_context (scene now) ts here)) phrase + 2) in
      ap (λ vs. values ts (next now) vs (as_actual x ∷ rest)) (fields_gone (kind_view now.code.given) (types_of now.symbols class) i l)
      ∙ ap (λ vs. code_at (scene now) here mode.Value (next now) phrase ts ▸ one w instr.Stuck ▸ one w instr.Stuck ▸ values ts k vs rest) (sym (fields_gone (kind_view now.code.given) (types_of now.symbols class) (i + 1) (omega (arith, l)))))
      r c refl (e ∙ ap (with_field b here) (field_there class c ∙ is))

  fields_step : (class : Class) → Left (list.Fields class) → CodesPhrase now b here mode.Value phrase n → after ≡ behind b here (list.Fields class) i x.gives → Next (list.Fields class)
  fields_step class r c e = go (slice_get_cases (types_of now.symbols class) i).1
    where
      go : ((t : SimpleType) × (i < length (types_of now.symbols class)) × (slice_get (types_of now.symbols class) i ≡ Some t) × (slice_index_or (types_of now.symbols class) i t ≡ t)) ⊎ ((length (types_of now.symbols class) ≤ i) × (slice_get (types_of now.symbols class) i ≡ None)) → Next (list.Fields class)
      go (inl h) = with_type class h.0 h.1 h.2 h.3 r c e
      go (inr h) = without_type class h.0 h.1 r c e

  listed_step : (u : ListUse) → Left u → CodesPhrase now b here (wanted u) phrase n → after ≡ behind b here u i x.gives → Next u
  listed_step list.Subscripts r c e = remains_each here mode.Value phrase held.Push (left_use here list.Subscripts (i + 1) rest) (less list.Subscripts) refl tt refl (λ ts. refl) r c e
  listed_step (list.Fields class) r c e = fields_step class r c e
  listed_step (list.Read on) r c e =
      remains_each here mode.Place phrase (held.Read (on && (i == 0)) (variable_type x.gives)) (left_use here (list.Read on) (i + 1) rest) (less (list.Read on)) refl kind refl
      (λ ts.
      let d : coding.Context = coding_context (scene now) ts here in
      let w : Place = place_in (scene now) here in
      let k : ℕ = next now + (size (known d) phrase + 1) in
      ap (λ t. code_at (scene now) here mode.Place (next now) phrase ts ▸ one w (instr.Read (on && (i == 0)) t) ▸ coding.code_reads d w false k (targets_of (phrase_context (scene now)) (actuals_in (numbers_in (scene now)) rest))) (variable_type_same (scene now) x.gives)
      ∙ ap (λ o. code_at (scene now) here mode.Place (next now) phrase ts ▸ one w (instr.Read (on && (i == 0)) (kind_view now.code.given (variable_type x.gives))) ▸ coding.code_reads d w o k (targets_of (phrase_context (scene now)) (actuals_in (numbers_in (scene now)) rest))) (later on i))
      r c e
  listed_step list.ReadCard r c e =
      remains_each here mode.Place phrase (held.ReadCard (variable_type x.gives)) (left_use here list.ReadCard (i + 1) rest) (less list.ReadCard) refl kind refl
      (λ ts.
      let d : coding.Context = coding_context (scene now) ts here in
      let w : Place = place_in (scene now) here in
      ap (λ t. code_at (scene now) here mode.Place (next now) phrase ts ▸ one w (instr.ReadCard t) ▸ coding.code_cards d w (next now + (size (known d) phrase + 1)) (targets_of (phrase_context (scene now)) (actuals_in (numbers_in (scene now)) rest))) (variable_type_same (scene now) x.gives))
      r c e

-- ---- by index

-- the phrases behind the i-th actual are left, of which n were before it
abbrev pub ListedLeft : (old now : Emitter) → Here → ListUse → (n : ℕ) → List TypedActual → (i m : ℕ) → Type 0
ListedLeft old now here u n actuals i m =
    Remains none_own old now (use_code (scene old) here (next old) u (actuals_in (numbers_in (scene old)) actuals)) (left_use here u n (drop i actuals)) (use_marks (scene old) u (actuals_in (numbers_in (scene old)) actuals)) (use_marks (scene old) u (actuals_in (numbers_in (scene old)) (drop i actuals))) m

pub listed_begun : (e : Emitter) (here : Here) (u : ListUse) (actuals : List TypedActual) → CodeFits e.code → ListedLeft e e here u 0 actuals 0 0
listed_begun e here u actuals h =
    remains_as (use_code (scene e) here (next e) u (actuals_in (numbers_in (scene e)) actuals)) (λ ts k. all_left here u actuals (scene e) (next e) ts)
    (remains_all none_own e (left_use here u 0 actuals) (use_marks (scene e) u (actuals_in (numbers_in (scene e)) actuals)) h)

pub listed_more : {old now b after : Emitter} {m n : ℕ} (here : Here) (u : ListUse) (p : ℕ) (actuals : List TypedActual) (i : ℕ) (x : Node) → i < length actuals → as_actual x ≡ slice_index_or actuals i (as_actual x) → KindFits now.code.given (variable_type x.gives) → All (KindFits now.code.given) now.symbols.fields → ListedLeft old now here u p actuals i m → CodesPhrase now b here (wanted u) (phrase_in (scene now) (node_in x (scene now))) n → after ≡ behind b here u p x.gives → ListedLeft old after here u (p + 1) actuals (i + 1) (max m n)
listed_more {old} {now} {b} {after} {m} {n} here u p actuals i x l is kind fields r c e =
    let whole : List ℕ → List code.Coded = use_code (scene old) here (next old) u (actuals_in (numbers_in (scene old)) actuals) in
    let all : ℕ = use_marks (scene old) u (actuals_in (numbers_in (scene old)) actuals) in
    let here_too : Remains none_own old now whole (left_use here u p (drop i actuals)) all (use_marks (scene now) u (actuals_in (numbers_in (scene now)) (drop i actuals))) m =
    subst (λ (s : Scene). Remains none_own old now whole (left_use here u p (drop i actuals)) all (use_marks s u (actuals_in (numbers_in s) (drop i actuals))) m) (sym r.stays.scene) r in
    let first : Remains none_own old now whole (left_use here u p (as_actual x ∷ drop (i + 1) actuals)) all (use_marks (scene now) u (actuals_in (numbers_in (scene now)) (as_actual x ∷ drop (i + 1) actuals))) m =
    subst (λ (ys : List TypedActual). Remains none_own old now whole (left_use here u p ys) all (use_marks (scene now) u (actuals_in (numbers_in (scene now)) ys)) m) (next_out actuals i (as_actual x) l is) here_too in
    subst (λ (s : Scene). Remains none_own old after whole (left_use here u (p + 1) (drop (i + 1) actuals)) all (use_marks s u (actuals_in (numbers_in s) (drop (i + 1) actuals))) (max m n)) r.stays.scene
    (listed_step old now b after whole all m n here p x (drop (i + 1) actuals) kind fields u first c e)

star_marks : (u : ListUse) (q : Place) (rest : List TypedActual) (s : Scene) → use_marks s u (actuals_in (numbers_in s) (Star q ∷ rest)) ≡ use_marks s u (actuals_in (numbers_in s) rest)
star_marks list.Subscripts q rest s = refl
star_marks (list.Fields class) q rest s = refl
star_marks (list.Read next) q rest s = refl
star_marks list.ReadCard q rest s = refl

pub listed_star : {old now : Emitter} {m : ℕ} (here : Here) (u : ListUse) (p : ℕ) (actuals : List TypedActual) (i : ℕ) (q : Place) → i < length actuals → Star q ≡ slice_index_or actuals i (Star q) → ListedLeft old now here u p actuals i m → ListedLeft old now here u p actuals (i + 1) m
listed_star {old} {now} here u p actuals i q l is r =
    let front = next_out actuals i (Star q) l is in
    remains_left (left_use here u p (drop (i + 1) actuals)) (use_marks (scene old) u (actuals_in (numbers_in (scene old)) (drop (i + 1) actuals)))
    (λ ts. ap (λ ys. left_use here u p ys (scene now) (next now) ts) front ∙ star_left here u p q (drop (i + 1) actuals) (scene now) (next now) ts)
    (ap (λ ys. use_marks (scene old) u (actuals_in (numbers_in (scene old)) ys)) front ∙ star_marks u q (drop (i + 1) actuals) (scene old)) r

none_marks : (u : ListUse) (s : Scene) → use_marks s u (actuals_in (numbers_in s) []) ≡ 0
none_marks list.Subscripts s = refl
none_marks (list.Fields class) s = refl
none_marks (list.Read next) s = refl
none_marks list.ReadCard s = refl

pub listed_done : {old now : Emitter} {m : ℕ} (here : Here) (u : ListUse) (p : ℕ) (actuals : List TypedActual) (i : ℕ) → length actuals ≤ i → ListedLeft old now here u p actuals i m → CodesListed old now here u actuals m
listed_done {old} {now} here u p actuals i l r =
    let gone = drop_all i actuals l in
    remains_none
    (ap (λ ys. use_marks (scene old) u (actuals_in (numbers_in (scene old)) ys)) gone ∙ none_marks u (scene old))
    (λ ts. ap (λ ys. left_use here u p ys (scene now) (next now) ts) gone ∙ none_left here u p (scene now) (next now) ts) r
