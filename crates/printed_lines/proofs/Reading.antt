-- What is read of data cards that are texts.
use Rattle.std.proofs.Common.{◌≡◌, ℕ, ◌+◌, ◌-◌, ◌%◌, Bool, true, false, ◌&&◌, ◌==◌, nat_le, nat_lt, if◌then◌else◌, List, [], ◌∷◌, ◌++◌, length, take, drop, All, Option, Some, None, Result, Ok, Err, refl, arith}
use Rattle.std.specs.Prelude.{⊤}
use Rattle.std.specs.Option.{option_map}
use Rattle.std.proofs.lemmas.List.Elements.{All-head, All-tail}
use Rattle.value_ops.specs.declared.faults.Fault.{Fault}
use Rattle.value_ops.specs.declared.faults.Fault.TheVariants.{NoDataLeft}
use Rattle.value_ops.specs.declared.values.Value.{Value}
use Rattle.value_ops.specs.declared.values.Value.TheVariants as value
use Rattle.value_ops.specs.declared.values.SimpleType.{SimpleType}
use Rattle.value_ops.specs.declared.values.SimpleType.TheVariants as types
use Rattle.value_ops.specs.Strings.{filled}
use Rattle.input_editing.specs.Columns.{columns, card_columns, card_end, line_at, is_on_card, card_read}
use Rattle.input_editing.specs.Scanning.{onto, unquoted, literal_at, fitting, string_at, ends_item, item_at, item_start, placed, scanned, integer_of, logical_of, bits_of, word}
use Rattle.program_meaning.specs.Copying.{string_read}
use Rattle.printed_lines.specs.Texts.{IsPrintable, IsText, ValueHolds}
use Rattle.printed_lines.proofs.Texts.{either, text_nil, text_cons, text_append, text_take, text_drop, text_filled}

-- what is read, where there is something
abbrev pub ReadHolds : Result (Value × ℕ) Fault → Type 0
ReadHolds (Ok r) = ValueHolds r.0
ReadHolds (Err f) = ⊤

columns_text : (cards : List (List ℕ)) → All IsText cards → IsText (columns cards)
columns_text [] h = text_nil
columns_text (card ∷ cards) h = text_append (text_take 80 (text_filled 80 (All-head IsText card cards h))) (columns_text cards (All-tail IsText card cards h))

line_text : (cards : List (List ℕ)) (n : ℕ) → All IsText cards → IsText (line_at cards n)
line_text cards n h = text_take (80 - n % 80) (text_drop n (columns_text cards h))

pub card_holds : (cards : List (List ℕ)) (n : ℕ) → All IsText cards → ReadHolds (string_read (card_read cards n))
card_holds cards n h = go (is_on_card cards (card_end n))
  where
    go : (b : Bool) → ReadHolds (string_read (if b then Ok (line_at cards (card_end n), card_end n + 80) else Err NoDataLeft))
    go true = line_text cards (card_end n) h
    go false = tt

-- ---- literals

-- the text that was read, and the rest of the line
abbrev CutHolds : Option (List ℕ × List ℕ) → Type 0
CutHolds None = ⊤
CutHolds (Some p) = IsText p.0

onto_holds : {c : ℕ} → IsPrintable c → (o : Option (List ℕ × List ℕ)) → CutHolds o → CutHolds (onto c o)
onto_holds p None h = tt
onto_holds p (Some q) h = text_cons p h

head_of : {c : ℕ} {s : List ℕ} → IsText (c ∷ s) → IsPrintable c
head_of {c} {s} h = All-head IsPrintable c s h.each

rest_of : {c : ℕ} {s : List ℕ} → IsText (c ∷ s) → IsText s
rest_of {c} {s} h = record { each = All-tail IsPrintable c s h.each }

unquoted_holds : (line : List ℕ) → IsText line → CutHolds (unquoted line)
unquoted_holds [] h = tt
unquoted_holds (c ∷ []) h = either CutHolds (c == 34) _ _ text_nil tt
unquoted_holds (c ∷ d ∷ line) h =
    either CutHolds (c == 34) _ _
    (either CutHolds (d == 34) _ _ (onto_holds (omega arith, omega arith) (unquoted line) (unquoted_holds line (rest_of (rest_of h)))) text_nil)
    (onto_holds (head_of h) (unquoted (d ∷ line)) (unquoted_holds (d ∷ line) (rest_of h)))

literal_holds : (line : List ℕ) → IsText line → CutHolds (literal_at line)
literal_holds [] h = tt
literal_holds (c ∷ line) h = either CutHolds (c == 34) _ _ (unquoted_holds line (rest_of h)) tt

-- the text of a string, and how many columns it takes
abbrev StringHolds : Option (List ℕ × ℕ) → Type 0
StringHolds None = ⊤
StringHolds (Some p) = IsText p.0

fitting_holds : (n : ℕ) (o : Option (List ℕ × List ℕ)) → CutHolds o → StringHolds (fitting n o)
fitting_holds n None h = tt
fitting_holds n (Some p) h = either StringHolds ((nat_le 1 (length p.0) && nat_le (length p.0) n) && ends_item p.1) _ _ h tt

-- ---- items

abbrev ItemHolds : Option (Value × ℕ) → Type 0
ItemHolds None = ⊤
ItemHolds (Some p) = ValueHolds p.0

mapped_holds : {A : Type 0} (f : A → Value × ℕ) → ((a : A) → ValueHolds (f a).0) → (o : Option A) → ItemHolds (option_map f o)
mapped_holds f h None = tt
mapped_holds f h (Some a) = h a

string_holds : (n : ℕ) (o : Option (List ℕ × ℕ)) → StringHolds o → ItemHolds (option_map (λ string. (value.Str (filled n string.0), string.1)) o)
string_holds n None h = tt
string_holds n (Some p) h = text_filled n h

item_holds : (t : SimpleType) (line : List ℕ) → IsText line → ItemHolds (item_at t line)
item_holds types.Integer line h = mapped_holds (λ number. (value.Integer number, length (word line))) (λ a. tt) (integer_of (word line))
item_holds types.Logical line h = mapped_holds (λ truth. (value.Logical truth, length (word line))) (λ a. tt) (logical_of (word line))
item_holds types.Bits line h = mapped_holds (λ bits. (value.Bits bits, length (word line))) (λ a. tt) (bits_of (word line))
item_holds (types.Str n) line h = string_holds n (string_at n line) (fitting_holds n (literal_at line) (literal_holds line h))
item_holds (types.Reference set) line h = tt

placed_holds : (start : ℕ) (o : Option (Value × ℕ)) → ItemHolds o → ReadHolds (placed start o)
placed_holds start None h = tt
placed_holds start (Some p) h = h

pub scanned_holds : (cards : List (List ℕ)) (from : ℕ) (t : SimpleType) → All IsText cards → ReadHolds (scanned cards from t)
scanned_holds cards from t h =
    let start = item_start cards from in
    either ReadHolds (is_on_card cards start) _ _ (placed_holds start (item_at t (line_at cards start)) (item_holds t (line_at cards start) (line_text cards start h))) tt
