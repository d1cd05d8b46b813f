-- What is executed of an actual, and its text.
use Rattle.std.proofs.Common.{◌≡◌, ℕ, ◌+◌, ◌<◌, ◌≤◌, List, [], ◌∷◌, ◌++◌, length, length-take, take, Option, Some, None, refl, sym, ap, ◌∙◌, subst, arith}
use Rattle.std.proofs.lemmas.List.{length_push}
use Rattle.std.specs.Borrow.{Bor}
use Rattle.value_ops.specs.declared.places.Place.{Place}
use Rattle.value_ops.specs.declared.values.SimpleType.{SimpleType}
use Rattle.algolw_tree.specs.declared.programs.TypedActual.{TypedActual}
use Rattle.program_meaning.specs.Phrases.{Actual, Given, Alone, Subarray}
use Rattle.phrase_code.specs.Coding.{◌▸◌, Context, code_text, inner_text, known, one, reading_of_name, reading_of_subarray, stand_of, stars_of, text_code}
use Rattle.phrase_code.specs.Marks.{actual_marks}
use Rattle.phrase_code.specs.Sizes.{Known, bare_call_size, head_kind, size, subscripts_size}
use Rattle.phrase_code.proofs.Sizes.{Sized, bare_sized, code_sized, head_found, joined, subarray_sized, subscripts_sized}
use Rattle.stack_code.specs.Code.{Coded}
use Rattle.stack_code.specs.CodeView as view
use Rattle.stack_code.specs.CodeView.{CodeFits, GivesFits, KindFits, KindsFit, TextFits, kind_view, mode_view, reading_view}
use Rattle.stack_code.specs.Instr as instr
use Rattle.stack_code.specs.Linking.{linked_reading}
use Rattle.stack_code.specs.Making.{with_text}
use Rattle.stack_code.specs.declared.heads.Reading.{Reading}
use Rattle.stack_code.specs.declared.heads.Reading.TheVariants as reading
use Rattle.stack_code.specs.declared.heads.TextHead.{TextHead}
use Rattle.stack_code.specs.declared.instructions.Instr.TheVariants as held
use Rattle.stack_code.specs.declared.instructions.Mode.{Mode}
use Rattle.stack_code.specs.declared.instructions.Mode.TheVariants as mode
use Rattle.stack_code.specs.declared.instructions.Source.{Source}
use Rattle.symbol_table.specs.declared.here.Here.{Here}
use Rattle.symbol_table.specs.Contexts.{Scene, coding_context, numbers_in, phrase_context, place_of}
use Rattle.symbol_table.specs.Heres as heres
use Rattle.symbol_table.specs.Parts.{actuals_in}
use Rattle.symbol_table.specs.Standings.{read_source, standing_of}
use Rattle.code_emitter.specs.declared.emitter.Emitter.{Emitter}
use Rattle.code_emitter.specs.declared.texts.OpenText.{OpenText}
use Rattle.code_emitter.specs.Appending.{appended, final_targets, text_closed, text_opened}
use Rattle.code_emitter.specs.Parts.{Codes, EmitterFits, Stays, next, none_own, place_in, scene}
use Rattle.code_emitter.specs.Readings.{of_name, of_subarray}
use Rattle.code_emitter.proofs.Composing.{fits_after, given_there, known_anywhere, meets_final, stays_appended, stays_text, stays_then}
use Rattle.code_emitter.proofs.Emitting.{joined_assoc}
use Rattle.code_emitter.proofs.Joining.{codes_as, codes_is, codes_most, codes_next, codes_text, codes_then_plain, next_behind}
use Rattle.code_emitter.proofs.Singles.{name_is_read, subarray_is_read}
use Rattle.stack_codegen.specs.declared.actuals.ActualKind.{ActualKind}
use Rattle.stack_codegen.specs.declared.actuals.ActualKind.TheVariants as kind
use Rattle.stack_codegen.specs.declared.actuals.Given as given
use Rattle.stack_codegen.specs.declared.lists.ListUse.TheVariants as list
use Rattle.stack_codegen.specs.Calls.{IsCodableKind, IsHead, SubscriptsFit, actual_in, content_code, name_phrase, text_first, text_reading}
use Rattle.stack_codegen.specs.Codable.{IsCodableActuals, sizes_known}
use Rattle.stack_codegen.specs.Listed.{UseSuits, star_count}
use Rattle.stack_codegen.specs.Listed as listed
use Rattle.stack_codegen.specs.Operations.{IsCodableBranch}
use Rattle.stack_codegen.proofs.ActualKinds.{gives_same}
use Rattle.stack_codegen.proofs.NamesAlone.{name_stands, part_code, part_in}
use Rattle.stack_codegen.proofs.Ready.{perhaps_after, ready_after}
use Rattle.stack_codegen.proofs.Subscripts.{free_are, subscripts_coded, subscripts_marked, subscripts_suit}

-- ---- behind what was coded

pub kind_after : {a b : Emitter} (k : ActualKind) → Stays none_own a b → IsCodableKind a k → IsCodableKind b k
kind_after (kind.Given g) x r = (perhaps_after g.phrase x r.0, subst (λ (s : view.Given). GivesFits s g.gives) (sym (given_there x)) r.1)
kind_after (kind.Alone p name) x r = subst (λ (s : view.Given). name < length s.names) (sym (given_there x)) r
kind_after (kind.Subarray name subscripts) x r = (subst (λ (s : view.Given). name < length s.names) (sym (given_there x)) r.0, ready_after x r.1)

-- ---- how a text begins

pub given_head : (e : Emitter) (here : Here) (g : given.Given) → GivesFits e.code.given g.gives → IsHead e here (actual_in (scene e) (kind.Given g)) (record { first = g.first; reading = reading.Phrase g.is_variable g.gives })
given_head e here g f = record { fits = f; first = refl; reading = λ ts. ap (instr.as_phrase g.is_variable) (sym (gives_same (scene e) g.gives)) }

name_fits : (g : view.Given) (p : Place) (o : Option Source) → TextFits g (record { first = p; reading = of_name o })
name_fits g p None = tt
name_fits g p (Some s) = tt

pub name_head : (e : Emitter) (here : Here) (p : Place) (name : ℕ) (r : Reading) → EmitterFits e → name < length e.code.given.names → r ≡ of_name (read_source here (standing_of e.symbols.names name)) → IsHead e here (actual_in (scene e) (kind.Alone p name)) (record { first = p; reading = r })
name_head e here p name r f l is = record {
  fits = subst (λ (x : Reading). TextFits e.code.given (record { first = p; reading = x })) (sym is) (name_fits e.code.given p (read_source here (standing_of e.symbols.names name)));
  first = refl;
  reading = λ ts. ap (λ (x : Reading). reading_view e.code.given (linked_reading ts x)) is
      ∙ name_is_read (scene e) here (place_of (scene e) name) (standing_of e.symbols.names name) ts
      ∙ sym (ap (reading_of_name (coding_context (scene e) ts here)) (name_stands (scene e) ts here name f.scene l));
}

subarray_fits : (g : view.Given) (p : Place) (o : Option Source) (n : ℕ) → TextFits g (record { first = p; reading = of_subarray o n })
subarray_fits g p None n = tt
subarray_fits g p (Some s) n = tt

pub subarray_head : (e : Emitter) (here : Here) (name n : ℕ) (subscripts : Bor (List TypedActual)) (p : Place) (r : Reading) → EmitterFits e → name < length e.code.given.names → p ≡ place_in (scene e) here → n ≡ star_count subscripts.now → r ≡ of_subarray (read_source here (standing_of e.symbols.names name)) n → IsHead e here (actual_in (scene e) (kind.Subarray name subscripts)) (record { first = p; reading = r })
subarray_head e here name n subscripts p r f l at stars is = record {
  fits = subst (λ (x : Reading). TextFits e.code.given (record { first = p; reading = x })) (sym is) (subarray_fits e.code.given p (read_source here (standing_of e.symbols.names name)) n);
  first = at;
  reading = λ ts. ap (λ (x : Reading). reading_view e.code.given (linked_reading ts x)) is
      ∙ subarray_is_read (scene e) here (place_of (scene e) name) (standing_of e.symbols.names name) n ts
      ∙ sym (ap (reading_of_subarray (coding_context (scene e) ts here) n) (name_stands (scene e) ts here name f.scene l))
      ∙ ap (λ k. reading_of_subarray (coding_context (scene e) ts here) k (stand_of (coding_context (scene e) ts here) (name_phrase (scene e) name))) (stars ∙ sym (free_are (phrase_context (scene e)) (numbers_in (scene e)) subscripts.now));
}

-- of whichever actual is such a one
pub name_head_of : (e : Emitter) (here : Here) (k : ActualKind) (p : Place) (name : ℕ) (r : Reading) → k ≡ kind.Alone p name → EmitterFits e → IsCodableKind e k → r ≡ of_name (read_source here (standing_of e.symbols.names name)) → IsHead e here (actual_in (scene e) k) (record { first = p; reading = r })
name_head_of e here k p name r same f ready is =
    subst (λ (j : ActualKind). IsHead e here (actual_in (scene e) j) (record { first = p; reading = r })) (sym same) (name_head e here p name r f (subst (λ (j : ActualKind). IsCodableKind e j) same ready) is)

pub subarray_head_of : (e : Emitter) (here : Here) (k : ActualKind) (name n : ℕ) (subscripts : Bor (List TypedActual)) (p : Place) (r : Reading) → k ≡ kind.Subarray name subscripts → EmitterFits e → IsCodableKind e k → p ≡ place_in (scene e) here → n ≡ star_count subscripts.now → r ≡ of_subarray (read_source here (standing_of e.symbols.names name)) n → IsHead e here (actual_in (scene e) k) (record { first = p; reading = r })
subarray_head_of e here k name n subscripts p r same f ready at stars is =
    subst (λ (j : ActualKind). IsHead e here (actual_in (scene e) j) (record { first = p; reading = r })) (sym same) (subarray_head e here name n subscripts p r f (subst (λ (j : ActualKind). IsCodableKind e j) same ready).0 at stars is)

-- ---- what is executed

abbrev content_size : List Known → Actual → ℕ
content_size names (Given v g first a) = size names a
content_size names (Alone p a) = bare_call_size (head_kind names a)
content_size names (Subarray a subscripts) = subscripts_size names subscripts + 1

content_sized : (c : Context) (w : Place) (u : instr.Mode) (k : ℕ) (a : Actual) → Sized (content_code c w u k a) (content_size (known c) a)
content_sized c w u k (Given v g first a) = code_sized c w u k a
content_sized c w u k (Alone p a) = bare_sized c w p k (head_kind (known c) a) (stand_of c a) (head_found c a)
content_sized c w u k (Subarray a subscripts) = joined (subscripts_sized c w k subscripts) (subarray_sized c w (stars_of subscripts) (stand_of c a))

-- the code of what is executed of an actual, from where an emitter stands
abbrev pub content_at : Scene → Here → Mode → ℕ → Actual → List ℕ → List Coded
content_at s here u k a ts = content_code (coding_context s ts here) (place_in s here) (mode_view u) k a

-- the subscripts of a subarray, and what takes the part
pub subarray_done : {a b c : Emitter} {m : ℕ} (here : Here) (u : Mode) (name : ℕ) (subscripts : Bor (List TypedActual)) → listed.CodesListed a b here list.Subscripts subscripts.now m → Codes none_own b c (part_code b here name subscripts.now) 0 0
    → Codes none_own a c (content_at (scene a) here u (next a) (actual_in (scene a) (kind.Subarray name subscripts))) (actual_marks (actual_in (scene a) (kind.Subarray name subscripts))) m
subarray_done {a} {b} {c} {m} here u name subscripts first part =
    codes_most (actual_marks (actual_in (scene a) (kind.Subarray name subscripts))) m (first.most ∙ subscripts_marked (phrase_context (scene a)) (actuals_in (numbers_in (scene a)) subscripts.now))
    (codes_as (content_at (scene a) here u (next a) (actual_in (scene a) (kind.Subarray name subscripts))) _
    (λ ts h. ap (λ l. l ▸ part_code a here name subscripts.now ts) (subscripts_coded (coding_context (scene a) ts here) (place_in (scene a) here) (next a) (phrase_context (scene a)) (actuals_in (numbers_in (scene a)) subscripts.now))) refl
    (codes_next (λ s k ts. part_in s here name subscripts.now ts) (λ s. 0) first part))

-- ---- a text

text_is : (c : Context) (w : Place) (k : ℕ) (a : Actual) → text_code w k (text_first w a) (text_reading c a) (content_size (known c) a) (content_code (inner_text c) w instr.as_asked (k + 1) a) ≡ code_text c w k a
text_is c w k (Given v g first a) = refl
text_is c w k (Alone p a) = refl
text_is c w k (Subarray a parts) = refl

next_opened : (a : Emitter) (here : Here) (head : TextHead) → next (text_opened a here head) ≡ next a + 1
next_opened a here head = length_push a.code.instructions (record { at = here.statement; does = held.Text (length a.code.added.texts) 0 })

-- what is inside it
abbrev pub Inside : Emitter → Here → TextHead → (x : Actual) → (b : Emitter) → ℕ → Type 0
Inside a here head x b m = Codes none_own (text_opened a here head) b (content_at (scene a) (heres.inner_text here 0) mode.AsAsked (next (text_opened a here head)) x) (actual_marks x) m

pub text_done : {a b c : Emitter} {m : ℕ} (here : Here) (head : TextHead) (x : Actual) → CodeFits a.code → IsHead a here x head → Inside a here head x b m → c ≡ text_closed b here (record { head = next a; number = length a.code.added.texts })
    → Codes none_own a c (λ ts. code_text (coding_context (scene a) ts here) (place_in (scene a) here) (next a) x) (actual_marks x) m
text_done {a} {b} {c} {m} here head x h is part q =
    let s : Scene = scene a in
    let w : Place = place_in s here in
    codes_as (λ ts. code_text (coding_context s ts here) w (next a) x) _
    (λ ts k.
    ap (λ p. text_code w (next a) p (reading_view a.code.given (linked_reading ts head.reading)) (content_size (known (coding_context s [] here)) x) (content_code (inner_text (coding_context s ts here)) w instr.as_asked (next (text_opened a here head)) x)) is.first
    ∙ ap (λ r. text_code w (next a) (text_first w x) r (content_size (known (coding_context s [] here)) x) (content_code (inner_text (coding_context s ts here)) w instr.as_asked (next (text_opened a here head)) x)) (is.reading ts)
    ∙ ap (λ names. text_code w (next a) (text_first w x) (text_reading (coding_context s ts here) x) (content_size names x) (content_code (inner_text (coding_context s ts here)) w instr.as_asked (next (text_opened a here head)) x)) (known_anywhere s here [] ts)
    ∙ ap (λ n. text_code w (next a) (text_first w x) (text_reading (coding_context s ts here) x) (content_size (known (coding_context s ts here)) x) (content_code (inner_text (coding_context s ts here)) w instr.as_asked n x)) (next_opened a here head)
    ∙ text_is (coding_context s ts here) w (next a) x) refl
    (codes_is q (codes_text here head (content_size (known (coding_context s [] here)) x) h is.fits
    (λ ts k. (content_sized (coding_context s ts (heres.inner_text here 0)) w instr.as_asked (next (text_opened a here head)) x).by ∙ ap (λ names. content_size names x) (known_anywhere s here ts [])) part))

-- its head is behind what was there
head_there : (a : Emitter) {b : Emitter} {m : ℕ} (here : Here) (head : TextHead) (x : Actual) → Inside a here head x b m → next a < next b
head_there a {b} here head x part =
    let n = next_opened a here head in
    let m = next_behind (final_targets b.targets.items) part (meets_final b.targets.items) in
    omega (arith, n, m)

longer_texts : {X : Type 0} (xs ys : List X) → take (length xs) ys ≡ xs → length xs ≤ length ys
longer_texts xs ys e = let n = length-take (length xs) ys in let m = ap length e in omega (arith, n, m)

number_there : (a : Emitter) {b : Emitter} {m : ℕ} (here : Here) (head : TextHead) (x : Actual) → Inside a here head x b m → length a.code.added.texts < length b.code.added.texts
number_there a {b} here head x part =
    let n = length_push a.code.added.texts head in
    let m = longer_texts (text_opened a here head).code.added.texts b.code.added.texts part.stays.tables.texts in
    omega (arith, n, m)

-- what may be coded, in the text
inside_stays : (a : Emitter) (here : Here) (head : TextHead) → EmitterFits a → TextFits a.code.given head → Stays none_own a (text_opened a here head)
inside_stays a here head f h =
    let there : length a.code.added.texts < length (a.code.added.texts ++ head ∷ []) = let n = length_push a.code.added.texts head in omega (arith, n) in
    let opened : Stays none_own a (record a { code = with_text a.code head }) = stays_text none_own a head f.code h in
    stays_then opened (stays_appended none_own (record a { code = with_text a.code head }) here (held.Text (length a.code.added.texts) 0) opened.fits there)

pub inside_fits : {a b : Emitter} (here : Here) (head : TextHead) → EmitterFits a → TextFits a.code.given head → b ≡ text_opened a here head → EmitterFits b
inside_fits {a} here head f h q = subst (λ (e : Emitter). EmitterFits e) (sym q) (fits_after (inside_stays a here head f h) f)

pub inside_codable : {a b : Emitter} (here : Here) (head : TextHead) (k : ActualKind) → EmitterFits a → TextFits a.code.given head → b ≡ text_opened a here head → IsCodableKind a k → IsCodableKind b k
inside_codable {a} here head k f h q r = subst (λ (e : Emitter). IsCodableKind e k) (sym q) (kind_after k (inside_stays a here head f h) r)

-- an actual is coded, wanted so
abbrev pub CodesContent : (a b : Emitter) → Here → Mode → ActualKind → ℕ → Type 0
CodesContent a b here u k m = Codes none_own a b (content_at (scene a) here u (next a) (actual_in (scene a) k)) (actual_marks (actual_in (scene a) k)) m

-- where it is a subarray
pub subarray_coded : {a b c : Emitter} {m : ℕ} (here : Here) (u : Mode) (k : ActualKind) (name : ℕ) (subscripts : Bor (List TypedActual)) → k ≡ kind.Subarray name subscripts → listed.CodesListed a b here list.Subscripts subscripts.now m → Codes none_own b c (part_code b here name subscripts.now) 0 0 → CodesContent a c here u k m
subarray_coded {a} {b} {c} {m} here u k name subscripts same first part = subst (λ (x : ActualKind). CodesContent a c here u x m) (sym same) (subarray_done here u name subscripts first part)

pub inside_is : (a : Emitter) {b c : Emitter} {m : ℕ} (here inner : Here) (head : TextHead) (k : ActualKind) → b ≡ text_opened a here head → inner ≡ heres.inner_text here 0 → CodesContent b c inner mode.AsAsked k m → Inside a here head (actual_in (scene a) k) c m
inside_is a {b} {c} {m} here inner head k q is part = subst (λ (i : Here). CodesContent (text_opened a here head) c i mode.AsAsked k m) is (subst (λ (e : Emitter). CodesContent e c inner mode.AsAsked k m) q part)

-- what closing it requires
pub closing : (a : Emitter) {c : Emitter} {m : ℕ} (here : Here) (head : TextHead) (x : Actual) (text : OpenText) → text ≡ record { head = next a; number = length a.code.added.texts } → Inside a here head x c m → (text.head < next c) × (text.number < length c.code.added.texts)
closing a {c} here head x text is part =
    let one = head_there a here head x part in
    let other = number_there a here head x part in
    let same : text.head ≡ next a = ap (λ (t : OpenText). t.head) is in
    let also : text.number ≡ length a.code.added.texts = ap (λ (t : OpenText). t.number) is in
    (omega (arith, one, same), omega (arith, other, also))

pub closed_text : {a b c : Emitter} {m : ℕ} (here : Here) (head : TextHead) (x : Actual) (text : OpenText) → CodeFits a.code → IsHead a here x head → text ≡ record { head = next a; number = length a.code.added.texts } → Inside a here head x b m → c ≡ text_closed b here text
    → Codes none_own a c (λ ts. code_text (coding_context (scene a) ts here) (place_in (scene a) here) (next a) x) (actual_marks x) m
closed_text {a} {b} here head x text f h is part q = text_done here head x f h part (q ∙ ap (text_closed b here) is)

-- ---- what each part requires

pub given_branch : (e : Emitter) (g : given.Given) → IsCodableKind e (kind.Given g) → IsCodableBranch e (record { phrase = g.phrase; missing = held.Nothing })
given_branch e g r = record { phrase = r.0; missing = refl }

pub subscripts_ready : (e : Emitter) (subscripts : List TypedActual) → IsCodableActuals e subscripts SubscriptsFit → IsCodableActuals e subscripts (UseSuits list.Subscripts)
subscripts_ready e subscripts r = record { fits = r.fits; fresh = r.fresh; knows = r.knows; begun = r.begun; suits = subscripts_suit (sizes_known (scene e)) (phrase_context (scene e)) (actuals_in (numbers_in (scene e)) subscripts) r.suits }

pub name_there : {a b : Emitter} (name : ℕ) → Stays none_own a b → name < length a.code.given.names → name < length b.code.given.names
name_there name x l = subst (λ (s : view.Given). name < length s.names) (sym (given_there x)) l

pub kind_there : {a b : Emitter} (t : SimpleType) → Stays none_own a b → KindFits a.code.given t → KindFits b.code.given t
kind_there t x f = subst (λ (s : view.Given). KindFits s t) (sym (given_there x)) f

pub kinds_there : {a b : Emitter} (t : Option SimpleType) → Stays none_own a b → KindsFit a.code.given t → KindsFit b.code.given t
kinds_there t x f = subst (λ (s : view.Given). KindsFit s t) (sym (given_there x)) f

-- ---- the value of an actual, made into a type and pushed

pub value_done : {a b c d : Emitter} {x : List ℕ → List Coded} {p m : ℕ} (here : Here) (t : SimpleType) → KindFits a.code.given t → Codes none_own a b x p m → c ≡ appended b here (held.Make t) → d ≡ appended c here held.Push
    → Codes none_own a d (λ ts. x ts ▸ one (place_in (scene a) here) (instr.Make (kind_view a.code.given t)) ▸ one (place_in (scene a) here) instr.Push) p m
value_done {a} {x = x} here t f part qc qd =
    codes_as _ _ (λ ts k. joined_assoc (x ts) (one (place_in (scene a) here) (instr.Make (kind_view a.code.given t))) (one (place_in (scene a) here) instr.Push)) refl
    (codes_is qd (codes_then_plain here held.Push refl tt (codes_is qc (codes_then_plain here (held.Make t) refl (subst (λ (s : view.Given). KindFits s t) (sym (given_there part.stays)) f) part))))
