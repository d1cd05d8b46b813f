-- Each line of a section is known by its front, and each is a text.
use Rattle.std.proofs.Common.{◌≡◌, ℕ, zero, suc, ◌+◌, ◌-◌, ◌<◌, Bool, true, false, ◌==◌, ◌||◌, List, [], ◌∷◌, ◌++◌, length, get_or, All, codes, decimal, refl, sym, ap, ◌∙◌, append_assoc, arith, Option, Some, None}
use Rattle.std.specs.List.{list_all}
use Rattle.std.proofs.lemmas.List.Elements.{All-nil, All-cons, All-head, All-tail}
use Rattle.short_text.specs.Blanks.{blanks, right, trimmed}
use Rattle.value_ops.specs.declared.places.Place.{Place}
use Rattle.value_ops.specs.declared.places.Diagnostic.{Diagnostic}
use Rattle.value_ops.specs.declared.faults.Fault.{Fault}
use Rattle.value_ops.specs.declared.faults.Fault.TheVariants as fault
use Rattle.value_ops.specs.declared.faults.Limit.{Limit}
use Rattle.value_ops.specs.declared.faults.Limit.TheVariants as limit
use Rattle.value_ops.specs.Faults.{fault_number, fault_text, limit_number, limit_text}
use Rattle.value_ops.specs.Diagnostics.{text_beside, diagnostic_texts, diagnostic_text}
use Rattle.post_mortem.specs.Dump.{place_text}
use Rattle.post_mortem.specs.Source.{count_text, source_text}
use Rattle.program_meaning.specs.State.{Outcome, on, jump, stop, Why, by_fault, by_limit, wrong, unfinished}
use Rattle.program_meaning.specs.Results.{why_text, ending_text}
use Rattle.algolw_meaning.specs.Running.{counted_lines, lines, count_of, statement_on}
use Rattle.algolw_meaning.specs.Texts.{line, source_lines, diagnostic_head, diagnostic_lines}
use Rattle.listing_parts.specs.Sections.{begins, is_card, is_digit}
use Rattle.printed_lines.specs.Texts.{IsText, IsIndented}
use Rattle.printed_lines.proofs.Texts.{either, is_printable, text_nil, text_append, text_trimmed, text_right, text_of, text_decimal}
use Rattle.printed_lines.proofs.Lines.{begins_trimmed, place_texts}
use Rattle.printable_programs.proofs.Tests.{and_of, range_to}
use Rattle.section_forms.proofs.Numbers.{IsDigit, decimal_numeral}

-- ---- cards

pub source_is_text : (card : List ℕ) (number : ℕ) (count : Option ℕ) → IsText card → IsText (source_text card number count)
source_is_text card number count h =
    text_trimmed (text_append (text_append (text_append (text_append (text_right 4 (text_decimal number)) (text_of (codes " ") refl)) (text_right 8 (count_is_text count))) (text_of (codes "  ") refl)) h)
  where
    count_is_text : (count : Option ℕ) → IsText (count_text count)
    count_is_text None = text_nil
    count_is_text (Some n) = text_decimal n

digit_test : (c : ℕ) → IsDigit c → is_digit c ≡ true
digit_test c h = range_to 48 57 c h.0 h.1

digit_card : (c : ℕ) (s : List ℕ) → IsDigit c → is_card (c ∷ s) ≡ true
digit_card c s h = go (c == 32) (digit_test c h)
  where
    go : (b : Bool) → is_digit c ≡ true → b || is_digit c ≡ true
    go true e = refl
    go false e = e

at_blanks : (k c : ℕ) (s : List ℕ) → get_or (blanks k ++ c ∷ s) k 0 ≡ c
at_blanks zero c s = refl
at_blanks (suc k) c s = at_blanks k c s

within_blanks : (k c : ℕ) (s : List ℕ) → k < length (blanks k ++ c ∷ s)
within_blanks zero c s = omega arith
within_blanks (suc k) c s = omega (arith, within_blanks k c s)

-- blanks and then a digit, whatever stands behind it
front_card : (k c : ℕ) (s : List ℕ) → IsDigit c → is_card (trimmed (blanks k ++ c ∷ s)) ≡ true
front_card zero c s h = let b = begins_trimmed c s 0 (omega arith) (λ e. omega (arith, e, h.0)) in ap is_card b.1 ∙ digit_card c b.0 h
front_card (suc k) c s h = let b = begins_trimmed 32 (blanks k ++ c ∷ s) (suc k) (within_blanks (suc k) c s) (λ e. let f : c ≡ 32 = sym (at_blanks (suc k) c s) ∙ e in omega (arith, f, h.0)) in ap is_card b.1

number_card : (n : ℕ) (s : List ℕ) → is_card (trimmed (right 4 (decimal n) ++ s)) ≡ true
number_card n s =
    let d = decimal_numeral n in
    let k = 4 - length (decimal n) in
    ap (λ (t : List ℕ). is_card (trimmed (blanks k ++ t ++ s))) d.is
    ∙ ap (λ (t : List ℕ). is_card (trimmed t)) (append_assoc (blanks k) (d.first ∷ d.rest) s)
    ∙ front_card k d.first (d.rest ++ s) d.first_digit

pub source_is_card : (card : List ℕ) (number : ℕ) (count : Option ℕ) → is_card (source_text card number count) ≡ true
source_is_card card number count =
    let w = right 4 (decimal number) in
    let a = codes " " in
    let b = right 8 (count_text count) in
    let c = codes "  " in
    ap (λ (t : List ℕ). is_card (trimmed t)) (append_assoc (w ++ a ++ b) c card ∙ append_assoc (w ++ a) b (c ++ card) ∙ append_assoc w a (b ++ (c ++ card)))
    ∙ number_card number (a ++ (b ++ (c ++ card)))

pub counted_texts : (statements begun : List Place) (number : ℕ) (cards : List (List ℕ)) → All IsText cards → All IsText (counted_lines statements begun number cards)
counted_texts statements begun number [] h = All-nil IsText
counted_texts statements begun number (card ∷ cards) h = All-cons IsText (source_text card number (count_of begun (statement_on number statements))) (counted_lines statements begun (number + 1) cards) (source_is_text card number (count_of begun (statement_on number statements)) (All-head IsText card cards h)) (counted_texts statements begun (number + 1) cards (All-tail IsText card cards h))

abbrev IsCard : List ℕ → Type 0
IsCard text = is_card text ≡ true

pub counted_cards : (statements begun : List Place) (number : ℕ) (cards : List (List ℕ)) → All (λ x. is_card x ≡ true) (counted_lines statements begun number cards)
counted_cards statements begun number [] = All-nil IsCard
counted_cards statements begun number (card ∷ cards) = All-cons IsCard (source_text card number (count_of begun (statement_on number statements))) (counted_lines statements begun (number + 1) cards) (source_is_card card number (count_of begun (statement_on number statements))) (counted_cards statements begun (number + 1) cards)

-- the cards with no counts, as lines
abbrev pub sources : ℕ → List (List ℕ) → List (List ℕ)
sources number [] = []
sources number (card ∷ cards) = source_text card number None ∷ sources (number + 1) cards

pub sources_are : (number : ℕ) (cards : List (List ℕ)) → source_lines number cards ≡ lines (sources number cards)
sources_are number [] = refl
sources_are number (card ∷ cards) = ap (λ (t : List ℕ). line (source_text card number None) ++ t) (sources_are (number + 1) cards)

pub sources_texts : (number : ℕ) (cards : List (List ℕ)) → All IsText cards → All IsText (sources number cards)
sources_texts number [] h = All-nil IsText
sources_texts number (card ∷ cards) h = All-cons IsText (source_text card number None) (sources (number + 1) cards) (source_is_text card number None (All-head IsText card cards h)) (sources_texts (number + 1) cards (All-tail IsText card cards h))

pub sources_cards : (number : ℕ) (cards : List (List ℕ)) → All (λ x. is_card x ≡ true) (sources number cards)
sources_cards number [] = All-nil IsCard
sources_cards number (card ∷ cards) = All-cons IsCard (source_text card number None) (sources (number + 1) cards) (source_is_card card number None) (sources_cards (number + 1) cards)

-- ---- diagnostics

beside_text : (number : ℕ) (texts : List (ℕ × List ℕ)) → list_all (λ t. list_all is_printable t.1) texts ≡ true → IsText (text_beside number texts)
beside_text number [] h = text_nil
beside_text number ((at, text) ∷ texts) h =
    let p = and_of (list_all is_printable text) (list_all (λ t. list_all is_printable t.1) texts) h in
    either IsText (number == at) text (text_beside number texts) (text_of text p.0) (beside_text number texts p.1)

diagnostic_is_text : (number : ℕ) → IsText (diagnostic_text number)
unfolding diagnostic_texts
diagnostic_is_text number = beside_text number diagnostic_texts refl

-- the line of a diagnostic
abbrev note : Diagnostic → List ℕ
note d = diagnostic_head d ++ codes ": " ++ diagnostic_text d.number

-- the lines of diagnostics
abbrev pub noted : List Diagnostic → List (List ℕ)
noted [] = []
noted (d ∷ faults) = note d ∷ noted faults

pub noted_are : (faults : List Diagnostic) → diagnostic_lines faults ≡ lines (noted faults)
noted_are [] = refl
noted_are (d ∷ faults) = ap (λ (t : List ℕ). line (note d) ++ t) (noted_are faults)

head_is_text : (d : Diagnostic) → IsText (diagnostic_head d)
unfolding diagnostic_head
head_is_text d = text_append (text_append (text_append (text_of (codes "DIAGNOSTIC ") refl) (text_decimal d.number)) (text_of (codes " AT ") refl)) (place_texts d.place)

head_begins : (d : Diagnostic) (s t : List ℕ) → begins 68 (diagnostic_head d ++ s ++ t) ≡ true
unfolding diagnostic_head
head_begins d s t = refl

pub noted_texts : (faults : List Diagnostic) → All IsText (noted faults)
noted_texts [] = All-nil IsText
noted_texts (d ∷ faults) = All-cons IsText (note d) (noted faults) (text_append (text_append (head_is_text d) (text_of (codes ": ") refl)) (diagnostic_is_text d.number)) (noted_texts faults)

pub noted_begin : (faults : List Diagnostic) → All (λ x. begins 68 x ≡ true) (noted faults)
noted_begin [] = All-nil (λ x. begins 68 x ≡ true)
noted_begin (d ∷ faults) = All-cons (λ x. begins 68 x ≡ true) (note d) (noted faults) (head_begins d (codes ": ") (diagnostic_text d.number)) (noted_begin faults)

-- ---- endings

fault_prints : (f : Fault) → list_all is_printable (fault_text f) ≡ true
fault_prints fault.IntegerOverflow = refl
fault_prints f = refl

limit_prints : (l : Limit) → list_all is_printable (limit_text l) ≡ true
limit_prints limit.Steps = refl
limit_prints l = refl

numbered_is_text : (word : List ℕ) (n : ℕ) (w : Place) (text : List ℕ) → IsText word → IsText text → IsText (word ++ codes " " ++ decimal n ++ codes " AT " ++ place_text w ++ codes ": " ++ text)
numbered_is_text word n w text h k =
    text_append (text_append (text_append (text_append (text_append (text_append h (text_of (codes " ") refl)) (text_decimal n)) (text_of (codes " AT ") refl)) (place_texts w)) (text_of (codes ": ") refl)) k

why_is_text : (y : Why) (w : Place) → IsText (why_text y w)
why_is_text (by_fault f) w = numbered_is_text (codes "FAULT") (fault_number f) w (fault_text f) (text_of (codes "FAULT") refl) (text_of (fault_text f) (fault_prints f))
why_is_text (by_limit l) w = numbered_is_text (codes "LIMIT") (limit_number l) w (limit_text l) (text_of (codes "LIMIT") refl) (text_of (limit_text l) (limit_prints l))
why_is_text wrong w = text_append (text_of (codes "WRONG AT ") refl) (place_texts w)
why_is_text unfinished w = text_of (codes "UNFINISHED") refl

pub ending_is_text : {P A : Type 0} (o : Outcome P A) → IsText (ending_text o)
ending_is_text (on a s) = text_of (codes "ENDED NORMALLY") refl
ending_is_text (jump l s) = text_of (codes "WRONG") refl
ending_is_text (stop y w s) = why_is_text y w

-- ---- the lines of a dump

indented_begins : (s : List ℕ) → IsIndented s → begins 32 s ≡ true
indented_begins s h = ap (begins 32) h.is

pub dump_begins : (xs : List (List ℕ)) → All IsIndented xs → All (λ x. begins 32 x ≡ true) xs
dump_begins xs h k d l = indented_begins (get_or xs k d) (h k d l)
