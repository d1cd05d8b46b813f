-- Texts of phrases, and the actuals that are phrases.
use Rattle.std.proofs.Common.{◌≡◌, ℕ, ◌+◌, [], length, Option, Some, refl, sym, ap, ◌∙◌, subst}
use Rattle.std.specs.Prelude.{Bool, false}
use Rattle.std.proofs.lemmas.List.{length_push}
use Rattle.value_ops.specs.declared.places.Place.{Place}
use Rattle.value_ops.specs.declared.values.SimpleType.{SimpleType}
use Rattle.algolw_tree.specs.declared.programs.Gives.{Gives}
use Rattle.algolw_typing.specs.Meanings.{by_name, by_value, by_value_result, for_procedure}
use Rattle.algolw_typing.specs.ProgramView.{gives_view}
use Rattle.program_meaning.specs.Copying.{is_variable_of}
use Rattle.program_meaning.specs.Phrases.{Phrase, Given}
use Rattle.program_meaning.specs.State.{for_value}
use Rattle.phrase_code.specs.Coding as coding
use Rattle.phrase_code.specs.Coding.{◌▸◌, code_actual, inner_text, known, one, text_code}
use Rattle.phrase_code.specs.Marks.{marks}
use Rattle.phrase_code.specs.Sizes.{size}
use Rattle.stack_code.specs.CodeView as view
use Rattle.stack_code.specs.CodeView.{CodeFits, GivesFits, KindFits, KindsFit, TextFits, kind_view, kinds_view, numbers, reading_view}
use Rattle.stack_code.specs.Instr as instr
use Rattle.stack_code.specs.Linking.{linked_reading}
use Rattle.stack_code.specs.declared.heads.Reading.TheVariants as reading
use Rattle.stack_code.specs.declared.heads.TextHead.{TextHead}
use Rattle.stack_code.specs.declared.instructions.Instr.TheVariants as held
use Rattle.stack_code.specs.declared.instructions.Mode.TheVariants as mode
use Rattle.symbol_table.specs.declared.here.Here.{Here}
use Rattle.symbol_table.specs.Contexts.{coding_context}
use Rattle.symbol_table.specs.Heres as heres
use Rattle.code_emitter.specs.Appending.{appended, text_closed, text_opened, with_aside, with_thunk}
use Rattle.code_emitter.specs.Forms.{sized}
use Rattle.code_emitter.specs.Parts.{Codes, CodesPhrase, code_at, next, none_own, place_in, scene}
use Rattle.code_emitter.specs.declared.emitter.Emitter.{Emitter}
use Rattle.code_emitter.proofs.Composing.{given_there, known_anywhere, length_code_at}
use Rattle.code_emitter.proofs.Emitting.{joined_assoc, step}
use Rattle.code_emitter.proofs.Joining.{codes_as, codes_is, codes_most, codes_next, codes_text, codes_then_plain}
use Rattle.code_emitter.proofs.Singles.{aside_codes, thunk_codes}

-- the text of a phrase
pub text_phrase_codes : {a b c : Emitter} {m : ℕ} (here : Here) (head : TextHead) (x : Phrase) → CodeFits a.code → TextFits a.code.given head → CodesPhrase (text_opened a here head) b (heres.inner_text here 0) mode.AsAsked x m → c ≡ text_closed b here (record { head = next a; number = length a.code.added.texts }) → Codes none_own a c (λ ts. text_code (place_in (scene a) here) (next a) head.first (reading_view a.code.given (linked_reading ts head.reading)) (sized (scene a) here x ts) (coding.code (inner_text (coding_context (scene a) ts here)) (place_in (scene a) here) instr.as_asked (next a + 1) x)) (marks x) m
text_phrase_codes {a} {b} {c} {m} here head x h f part e =
    codes_as (λ ts. text_code (place_in (scene a) here) (next a) head.first (reading_view a.code.given (linked_reading ts head.reading)) (sized (scene a) here x ts) (coding.code (inner_text (coding_context (scene a) ts here)) (place_in (scene a) here) instr.as_asked (next a + 1) x)) _
    (λ ts k.
    ap (λ n. text_code (place_in (scene a) here) (next a) head.first (reading_view a.code.given (linked_reading ts head.reading)) (sized (scene a) here x []) (coding.code (inner_text (coding_context (scene a) ts here)) (place_in (scene a) here) instr.as_asked n x)) first
    ∙ ap (λ n. text_code (place_in (scene a) here) (next a) head.first (reading_view a.code.given (linked_reading ts head.reading)) n (coding.code (inner_text (coding_context (scene a) ts here)) (place_in (scene a) here) instr.as_asked (next a + 1) x)) (ap (λ names. size names x) (known_anywhere (scene a) here [] ts))) refl
    (codes_is e (codes_text here head (sized (scene a) here x []) h f
    (λ ts k. length_code_at (scene a) (heres.inner_text here 0) mode.AsAsked (next (text_opened a here head)) x ts ∙ ap (λ names. size names x) (known_anywhere (scene a) here ts [])) part))
  where
    first : next (text_opened a here head) ≡ next a + 1
    first = length_push a.code.instructions (record { at = here.statement; does = held.Text (length a.code.added.texts) 0 })

-- ---- actuals that are phrases, by their formals

pub value_actual_codes : {a b c d : Emitter} {m : ℕ} (here : Here) (t : SimpleType) (v : Bool) (g : Gives) (first : Place) (x : Phrase) → KindFits a.code.given t → CodesPhrase a b here mode.Value x m → c ≡ appended b here (held.Make t) → d ≡ appended c here held.Push → Codes none_own a d (λ ts. code_actual (coding_context (scene a) ts here) (place_in (scene a) here) (next a) (Given v (gives_view (numbers a.code.given) g) first x) (by_value (kind_view a.code.given t))) (marks x) m
value_actual_codes {a} {b} here t v g first x f part qc qd =
    codes_as _ _ (λ ts k. joined_assoc (code_at (scene a) here mode.Value (next a) x ts) (step a here (instr.Make (kind_view a.code.given t))) (step a here instr.Push)) refl
    (codes_is qd (codes_then_plain here held.Push refl tt (codes_is qc (codes_then_plain here (held.Make t) refl (subst (λ (s : view.Given). KindFits s t) (sym (given_there part.stays)) f) part))))

-- the head of the text of a phrase
abbrev pub phrase_head : Bool → Gives → Place → TextHead
phrase_head v g first = record { first = first; reading = reading.Phrase v g }

pub value_result_actual_codes : {a b c d : Emitter} {m : ℕ} (here : Here) (t : SimpleType) (v : Bool) (g : Gives) (first : Place) (x : Phrase) → CodeFits a.code → KindFits a.code.given t → GivesFits a.code.given g → CodesPhrase (text_opened a here (phrase_head v g first)) b (heres.inner_text here 0) mode.AsAsked x m → c ≡ text_closed b here (record { head = next a; number = length a.code.added.texts }) → d ≡ with_aside c here (next a) t → Codes none_own a d (λ ts. code_actual (coding_context (scene a) ts here) (place_in (scene a) here) (next a) (Given v (gives_view (numbers a.code.given) g) first x) (by_value_result (kind_view a.code.given t))) (marks x) m
value_result_actual_codes {a} {b} {c} here t v g first x h f fits part qc qd =
    let text = text_phrase_codes here (phrase_head v g first) x h fits part qc in
    codes_is qd (codes_most _ _ text.most (codes_next (λ s k ts. one (place_in s here) (instr.Aside (next a) for_value (Some (kind_view s.given t))) ▸ one (place_in s here) instr.End ▸ one (place_in s here) instr.Push) (λ s. 0) text
    (aside_codes c here (next a) t text.stays.fits (subst (λ (s : view.Given). KindFits s t) (sym (given_there text.stays)) f))))

pub name_actual_codes : {a b c d : Emitter} {m : ℕ} (here : Here) (t : SimpleType) (v is_variable : Bool) (g : Gives) (first : Place) (x : Phrase) → is_variable ≡ is_variable_of (kind_view a.code.given t) v (gives_view (numbers a.code.given) g) → CodeFits a.code → KindFits a.code.given t → GivesFits a.code.given g → CodesPhrase (text_opened a here (phrase_head v g first)) b (heres.inner_text here 0) mode.AsAsked x m → c ≡ text_closed b here (record { head = next a; number = length a.code.added.texts }) → d ≡ with_thunk c here (next a) (Some t) is_variable → Codes none_own a d (λ ts. code_actual (coding_context (scene a) ts here) (place_in (scene a) here) (next a) (Given v (gives_view (numbers a.code.given) g) first x) (by_name (kind_view a.code.given t))) (marks x) m
name_actual_codes {a} {b} {c} here t v is_variable g first x q h f fits part qc qd =
    let text = text_phrase_codes here (phrase_head v g first) x h fits part qc in
    codes_is qd (codes_as (λ ts. code_actual (coding_context (scene a) ts here) (place_in (scene a) here) (next a) (Given v (gives_view (numbers a.code.given) g) first x) (by_name (kind_view a.code.given t))) _
    (λ ts k. ap (λ y. text_code (place_in (scene a) here) (next a) first (instr.as_phrase v (gives_view (numbers a.code.given) g)) (sized (scene a) here x ts) (coding.code (inner_text (coding_context (scene a) ts here)) (place_in (scene a) here) instr.as_asked (next a + 1) x) ▸ step a here (instr.MakeThunk (next a) (Some (kind_view a.code.given t)) y) ▸ step a here instr.Push) q) refl
    (codes_most _ _ text.most (codes_next (λ s k ts. one (place_in s here) (instr.MakeThunk (next a) (Some (kind_view s.given t)) is_variable) ▸ one (place_in s here) instr.Push) (λ s. 0) text
    (thunk_codes c here (next a) (Some t) is_variable text.stays.fits (subst (λ (s : view.Given). KindFits s t) (sym (given_there text.stays)) f)))))

pub procedure_actual_codes : {a b c d : Emitter} {m : ℕ} (here : Here) (t : Option SimpleType) (v : Bool) (g : Gives) (first : Place) (x : Phrase) → CodeFits a.code → KindsFit a.code.given t → GivesFits a.code.given g → CodesPhrase (text_opened a here (phrase_head v g first)) b (heres.inner_text here 0) mode.AsAsked x m → c ≡ text_closed b here (record { head = next a; number = length a.code.added.texts }) → d ≡ with_thunk c here (next a) t false → Codes none_own a d (λ ts. code_actual (coding_context (scene a) ts here) (place_in (scene a) here) (next a) (Given v (gives_view (numbers a.code.given) g) first x) (for_procedure (kinds_view a.code.given t))) (marks x) m
procedure_actual_codes {a} {b} {c} here t v g first x h f fits part qc qd =
    let text = text_phrase_codes here (phrase_head v g first) x h fits part qc in
    codes_is qd (codes_most _ _ text.most (codes_next (λ s k ts. one (place_in s here) (instr.MakeThunk (next a) (kinds_view s.given t) false) ▸ one (place_in s here) instr.Push) (λ s. 0) text
    (thunk_codes c here (next a) t false text.stays.fits (subst (λ (s : view.Given). KindsFit s t) (sym (given_there text.stays)) f))))
