-- The item that a line begins with: the function that gives it, and the forms of items.
use Rattle.std.proofs.Common.{◌≡◌, ℕ, ◌<◌, ◌==◌, nat_le, ℤ, Bool, true, false, ◌&&◌, List, [], ◌∷◌, ◌++◌, length, drop, codes, Option, Some, None, refl, sym, ap, subst, ◌∙◌, arith}
use Rattle.std.proofs.lemmas.Bool.{and_parts, and_from, cond-true, eqb-true, leb-true, le-leb}
use Rattle.std.proofs.lemmas.List.{take-append-drop}
use Rattle.std.proofs.lemmas.Option.{none-some, same_Some, cond_some}
use Rattle.std.specs.List.{prefix_len}
use Rattle.std.specs.Option.{option_map}
use Rattle.value_ops.specs.Strings.{filled}
use Rattle.value_ops.specs.declared.values.SimpleType.{SimpleType}
use Rattle.value_ops.specs.declared.values.SimpleType.TheVariants as types
use Rattle.value_ops.specs.declared.values.Value.{Value}
use Rattle.value_ops.specs.declared.values.Value.TheVariants as values
use Rattle.input_editing.specs.Items.{IsSigned, bare, plus, minus, IsItem, integer, true_word, false_word, bits, string, literal, in_small_letters}
use Rattle.input_editing.specs.Scanning.{ends_item, begins_with_quote, integer_of, logical_of, bits_of, literal_at, fitting, word, item_at}
use Rattle.input_editing.proofs.ItemForms.{is_mark, marks_of_digits, marks_of_signed, marks_of_word, integer_of_sound, integer_of_complete, IsLogical, logical_of_sound, logical_of_complete, IsBitsItem, bits_of_sound, bits_of_complete}
use Rattle.input_editing.proofs.Literals.{literal_at_sound, literal_at_complete}
use Rattle.input_editing.proofs.Words.{behind_word, word-append, begun_of_marks}

-- a line begins with an item of so many columns
pub record BeginsWith (kind : SimpleType) (line : List ℕ) (value : Value) (n : ℕ) : Type 0 where
  pub item : List ℕ
  pub behind : List ℕ
  pub cut : line ≡ item ++ behind
  pub ended : ends_item behind ≡ true
  pub form : IsItem kind item value
  pub long : length item ≡ n

mapped_some : {A B : Type 0} (f : A → B) (o : Option A) (y : B) → option_map f o ≡ Some y → (x : A) × (o ≡ Some x) × (f x ≡ y)
mapped_some f None y h = absurd (none-some y h)
mapped_some f (Some x) y h = (x, refl, same_Some (f x) y h)

-- where the word of a line is an item
word_item : (kind : SimpleType) (line : List ℕ) (found value : Value) (n : ℕ) → IsItem kind (word line) found → ◌≡◌ {A = Value × ℕ} (found, length (word line)) (value, n) → BeginsWith kind line value n
word_item kind line found value n form is = record {
  item = word line;
  behind = drop (prefix_len is_mark line) line;
  cut = sym (take-append-drop (prefix_len is_mark line) line);
  ended = behind_word line;
  form = subst (IsItem kind (word line)) (ap (λ (p : Value × ℕ). p.0) is) form;
  long = ap (λ (p : Value × ℕ). p.1) is;
}

logical_item : (item : List ℕ) (truth : Bool) → IsLogical item truth → IsItem types.Logical item (values.Logical truth)
logical_item item true h = true_word item h
logical_item item false h = false_word item h

bits_item : (item : List ℕ) (number : ℕ) → IsBitsItem item number → IsItem types.Bits item (values.Bits number)
bits_item item number h = rw (h.cut, ← h.value) (bits h.digits h.numeral h.short)

-- where a literal is one
string_item : (n : ℕ) (line : List ℕ) (parts : Option (List ℕ × List ℕ)) (value : Value) (k : ℕ) (found : List ℕ × ℕ) → literal_at line ≡ parts → fitting n parts ≡ Some found → ◌≡◌ {A = Value × ℕ} (values.Str (filled n found.0), found.1) (value, k) → BeginsWith (types.Str n) line value k
string_item n line None value k found is h e = absurd (none-some found h)
string_item n line (Some (text, behind)) value k found is h e =
    let some = cond_some ((nat_le 1 (length text) && nat_le (length text) n) && ends_item behind) (text, length (literal text)) found h in
    let tests = and_parts (nat_le 1 (length text) && nat_le (length text) n) (ends_item behind) some.0 in
    let sizes = and_parts (nat_le 1 (length text)) (nat_le (length text) n) tests.0 in
    let all : ◌≡◌ {A = Value × ℕ} (values.Str (filled n text), length (literal text)) (value, k) = ap (λ (p : List ℕ × ℕ). (values.Str (filled n p.0), p.1)) some.1 ∙ e in
    record {
      item = literal text;
      behind = behind;
      cut = literal_at_sound line text behind is;
      ended = tests.1;
      form = subst (IsItem (types.Str n) (literal text)) (ap (λ (p : Value × ℕ). p.0) all) (string n text (leb-true 1 (length text) sizes.0) (leb-true (length text) n sizes.1));
      long = ap (λ (p : Value × ℕ). p.1) all;
    }

pub item_at_sound : (kind : SimpleType) (line : List ℕ) (value : Value) (n : ℕ) → item_at kind line ≡ Some (value, n) → BeginsWith kind line value n
item_at_sound types.Integer line value n h =
    let f : ℤ → Value × ℕ = λ number. (values.Integer number, length (word line)) in
    let found = mapped_some f (integer_of (word line)) (value, n) h in
    let form = integer_of_sound (word line) found.0 found.1 in
    word_item types.Integer line (values.Integer found.0) value n (integer (word line) found.0 form.0 form.1) found.2
item_at_sound types.Logical line value n h =
    let f : Bool → Value × ℕ = λ truth. (values.Logical truth, length (word line)) in
    let found = mapped_some f (logical_of (word line)) (value, n) h in
    word_item types.Logical line (values.Logical found.0) value n (logical_item (word line) found.0 (logical_of_sound (word line) found.0 found.1)) found.2
item_at_sound types.Bits line value n h =
    let f : ℕ → Value × ℕ = λ number. (values.Bits number, length (word line)) in
    let found = mapped_some f (bits_of (word line)) (value, n) h in
    word_item types.Bits line (values.Bits found.0) value n (bits_item (word line) found.0 (bits_of_sound (word line) found.0 found.1)) found.2
item_at_sound (types.Str most) line value n h =
    let f : List ℕ × ℕ → Value × ℕ = λ found. (values.Str (filled most found.0), found.1) in
    let found = mapped_some f (fitting most (literal_at line)) (value, n) h in
    string_item most line (literal_at line) value n found.0 refl found.1 found.2
item_at_sound (types.Reference set) line value n h = absurd (none-some (value, n) h)

no_quote : (behind : List ℕ) → ends_item behind ≡ true → begins_with_quote behind ≡ false
no_quote [] h = refl
no_quote (c ∷ cs) h = ap (λ (x : ℕ). x == 34) (eqb-true c 32 h)

pub item_at_complete : (kind : SimpleType) (item behind : List ℕ) (value : Value) → IsItem kind item value → ends_item behind ≡ true → item_at kind (item ++ behind) ≡ Some (value, length item)
item_at_complete _ _ behind _ (integer item number signed range) ended =
    ap (λ (w : List ℕ). option_map (λ z. (values.Integer z, length w)) (integer_of w)) (word-append item behind (marks_of_signed item number signed) ended)
    ∙ ap (option_map (λ z. (values.Integer z, length item))) (integer_of_complete item number signed range)
item_at_complete _ _ behind _ (true_word item is) ended =
    ap (λ (w : List ℕ). option_map (λ t. (values.Logical t, length w)) (logical_of w)) (word-append item behind (marks_of_word item (codes "true") is refl) ended)
    ∙ ap (option_map (λ t. (values.Logical t, length item))) (logical_of_complete item true is)
item_at_complete _ _ behind _ (false_word item is) ended =
    ap (λ (w : List ℕ). option_map (λ t. (values.Logical t, length w)) (logical_of w)) (word-append item behind (marks_of_word item (codes "false") is refl) ended)
    ∙ ap (option_map (λ t. (values.Logical t, length item))) (logical_of_complete item false is)
item_at_complete _ _ behind _ (bits digits numeral short) ended =
    ap (λ (w : List ℕ). option_map (λ n. (values.Bits n, length w)) (bits_of w)) (word-append (35 ∷ digits) behind (marks_of_digits 16 digits (omega arith) numeral.1) ended)
    ∙ ap (option_map (λ n. (values.Bits n, length (35 ∷ digits)))) (bits_of_complete digits numeral short)
item_at_complete _ _ behind _ (string n text some most) ended =
    let sizes = and_from (nat_le 1 (length text)) (nat_le (length text) n) (le-leb 1 (length text) some) (le-leb (length text) n most) in
    let tests = and_from (nat_le 1 (length text) && nat_le (length text) n) (ends_item behind) sizes ended in
    ap (λ parts. option_map (λ (p : List ℕ × ℕ). (values.Str (filled n p.0), p.1)) (fitting n parts)) (literal_at_complete text behind (no_quote behind ended))
    ∙ ap (option_map (λ (p : List ℕ × ℕ). (values.Str (filled n p.0), p.1))) (cond-true ((nat_le 1 (length text) && nat_le (length text) n) && ends_item behind) (Some (text, length (literal text))) None tests)

some_of_signed : (item : List ℕ) (number : ℤ) → IsSigned item number → 0 < length item
some_of_signed _ _ (bare digits h) = h.0
some_of_signed _ _ (plus digits h) = omega arith
some_of_signed _ _ (minus digits h) = omega arith

some_of_small_letters : (item small : List ℕ) → in_small_letters item ≡ small → 0 < length small → 0 < length item
some_of_small_letters [] small is some = let none : length small ≡ 0 = ap length (sym is) in omega arith
some_of_small_letters (c ∷ cs) small is some = omega arith

-- no item begins with a blank
pub item_begun : (kind : SimpleType) (item : List ℕ) (value : Value) → IsItem kind item value → ends_item item ≡ false
item_begun _ _ _ (integer item number signed range) = begun_of_marks item (some_of_signed item number signed) (marks_of_signed item number signed)
item_begun _ _ _ (true_word item is) = begun_of_marks item (some_of_small_letters item (codes "true") is (omega arith)) (marks_of_word item (codes "true") is refl)
item_begun _ _ _ (false_word item is) = begun_of_marks item (some_of_small_letters item (codes "false") is (omega arith)) (marks_of_word item (codes "false") is refl)
item_begun _ _ _ (bits digits numeral short) = refl
item_begun _ _ _ (string n text some most) = refl
