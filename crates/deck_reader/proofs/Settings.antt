-- The texts of a card's fields, and its settings.
use Rattle.std.proofs.Common.{◌≡◌, ℕ, ◌<◌, ◌==◌, ◌&&◌, ◌||◌, Bool, true, false, List, [], ◌∷◌, ◌++◌, Option, Some, None, length, drop, get_or, ◌+◌, refl, sym, ap, ◌∙◌, subst, arith, cond}
use Rattle.std.proofs.lemmas.List.{append-nil, append_assoc, length-map, at_drop_more}
use Rattle.std.proofs.lemmas.List.Elements.{All-append}
use Rattle.std.proofs.lemmas.List.Folds.{list_all-map}
use Rattle.std.proofs.lemmas.List.Sums.{fold-append}
use Rattle.std.proofs.lemmas.Bool.Decides.{nat_tests}
use Rattle.std.proofs.lemmas.Iterator.Adapters.{option_map_id}
use Rattle.std.proofs.lemmas.Option.{same_Some}
use Rattle.std.proofs.lemmas.Slice.Eq.{bytes_eq-Decides}
use Rattle.std.specs.List.{list_all, find, fold, prefix_len, suffix_len, join_with_byte}
use Rattle.std.specs.Option.{option_map, option_and_then}
use Rattle.std.specs.Str.{bytes_eq}
use Rattle.std.specs.Str.Parse.{digits_value}
use Rattle.deck_reader.specs.declared.options.JobOption.{JobOption}
use Rattle.deck_reader.specs.declared.options.JobOption.TheVariants.{Steps, Lines, Library}
use Rattle.deck_reader.specs.declared.options.Settings.{Settings}
use Rattle.deck_reader.specs.Forms.{capital, folded, is_letter, is_digit, is_name, is_digits, parted, behind_blanks, stripped, name_of, number_of, in_32_bits}
use Rattle.deck_reader.specs.Options.{Value, row, options, unset, option_of, once, with_option, with_parts, with_field, settings_of, counted_settings}
use Rattle.deck_reader.specs.JobCards.{fields}
use Rattle.deck_reader.specs.Texts.{IsWord, IsName, IsNumber, IsField}
use Rattle.short_text.specs.Blanks.{blanks}
use Rattle.deck_reader.specs.CardForms.{IsSetting, IsSettings, no_more, one_more}
use Rattle.deck_reader.proofs.Fields.{Lacks, Lacks-from_all, Lacks-blanks, from_parted, parted_is, fields_of_one, fields-joined, stripped_is, with_blanks_round}

pub if_some : {A : Type 0} (b : Bool) (r : Option A) (w : A) → cond b r None ≡ Some w → (b ≡ true) × (r ≡ Some w)
if_some true r w h = (refl, h)
if_some false r w h = cc

pub both_true : (a b : Bool) → (a && b) ≡ true → (a ≡ true) × (b ≡ true)
both_true true true h = (refl, refl)
both_true true false h = cc
both_true false b h = cc

some_more : (c : ℕ) (cs : List ℕ) → 0 < length (c ∷ cs)
some_more c cs = omega arith

-- a name has letters and digits alone, and one or more
pub from_is_name : (name : List ℕ) → is_name name ≡ true → (list_all (λ d. is_letter d || is_digit d) name ≡ true) × (0 < length name)
from_is_name [] h = cc
from_is_name (c ∷ cs) h =
    let first = both_true (is_letter c) _ h in
    let rest = both_true _ _ first.1 in
    (ap (λ (b : Bool). (b || is_digit c) && list_all (λ d. is_letter d || is_digit d) cs) first.0 ∙ rest.1, some_more c cs)

pub name_lacks : (t : ℕ) (name : List ℕ) → (is_letter t || is_digit t) ≡ false → is_name name ≡ true → Lacks t name
name_lacks t name other h = Lacks-from_all (λ d. is_letter d || is_digit d) t name other (from_is_name name h).0

pub from_is_digits : (digits : List ℕ) → is_digits digits ≡ true → (list_all is_digit digits ≡ true) × (0 < length digits)
from_is_digits [] h = cc
from_is_digits (c ∷ cs) h = (h, omega arith)

pub digits_lack : (t : ℕ) (digits : List ℕ) → is_digit t ≡ false → is_digits digits ≡ true → Lacks t digits
digits_lack t digits other h = Lacks-from_all is_digit t digits other (from_is_digits digits h).0

-- a word of letters has letters alone, in either case
pub word_lacks : (t : ℕ) (word text : List ℕ) → is_letter (capital t) ≡ false → list_all is_letter word ≡ true → IsWord word text → Lacks t text
word_lacks t word text other letters is =
    Lacks-from_all (λ b. is_letter (capital b)) t text other (sym (list_all-map is_letter capital text) ∙ ap (list_all is_letter) is ∙ letters)

pub word-length : (word text : List ℕ) → IsWord word text → length text ≡ length word
word-length word text is = sym (length-map text capital) ∙ ap length is

pub from_name_of : (text name : List ℕ) → name_of text ≡ Some name → IsName name text
from_name_of text name h =
    let passed = if_some (is_name text) (Some (folded text)) name h in
    record { form = passed.0; value = same_Some _ _ passed.1 }

pub name_of_is : (text name : List ℕ) → IsName name text → name_of text ≡ Some name
name_of_is text name h = ap (λ (b : Bool). cond b (Some (folded text)) None) h.form ∙ ap Some h.value

from_number_of : (text : List ℕ) (n : ℕ) → number_of text ≡ Some n → IsNumber n text
from_number_of text n h =
    let passed = if_some (is_digits text) (Some (digits_value 10 text)) n h in
    record { form = passed.0; value = same_Some _ _ passed.1 }

number_of_is : (text : List ℕ) (n : ℕ) → IsNumber n text → number_of text ≡ Some n
number_of_is text n h = ap (λ (b : Bool). cond b (Some (digits_value 10 text)) None) h.form ∙ ap Some h.value

pub field_of : (T : List ℕ → Type 0) (bytes : List ℕ) → T (stripped bytes) → IsField T bytes
field_of T bytes h = record {
  before = prefix_len (λ b. b == 32) bytes;
  content = stripped bytes;
  behind = suffix_len (λ b. b == 32) (behind_blanks bytes);
  text = with_blanks_round bytes;
  is = h;
}

pub field-stripped : (T : List ℕ → Type 0) (bytes : List ℕ) (f : IsField T bytes) → 0 < length f.content → Lacks 32 f.content → stripped bytes ≡ f.content
field-stripped T bytes f some lacks = ap stripped f.text ∙ stripped_is f.before f.behind f.content some lacks

pub field_lacks : (t : ℕ) (T : List ℕ → Type 0) (bytes : List ℕ) (f : IsField T bytes) → (32 == t) ≡ false → Lacks t f.content → Lacks t bytes
field_lacks t T bytes f other lacks =
    let P : ℕ → Type 0 = λ b. (b == t) ≡ false in
    subst (Lacks t) (sym f.text)
    (All-append P (blanks f.before) (f.content ++ blanks f.behind) (Lacks-blanks t f.before other) (All-append P f.content (blanks f.behind) lacks (Lacks-blanks t f.behind other)))

-- ---- the rows of the table

from_value_of : (option : JobOption) (text : List ℕ) (value : Value option) → (row option).value_of text ≡ Some value → (row option).Is value text
from_value_of Steps = from_number_of
from_value_of Lines = from_number_of
from_value_of Library = from_name_of

value_of_is : (option : JobOption) (text : List ℕ) (value : Value option) → (row option).Is value text → (row option).value_of text ≡ Some value
value_of_is Steps = number_of_is
value_of_is Lines = number_of_is
value_of_is Library = name_of_is

-- a text that lacks a byte where that is no letter and no digit, and that isn't empty
record IsPlain (text : List ℕ) : Type 0 where
  lacks : (t : ℕ) → is_letter t ≡ false → is_digit t ≡ false → Lacks t text
  some : 0 < length text

number_is_plain : (text : List ℕ) (n : ℕ) → IsNumber n text → IsPlain text
number_is_plain text n is = record { lacks = λ t _ other. digits_lack t text other is.form; some = (from_is_digits text is.form).1 }

name_is_plain : (text name : List ℕ) → IsName name text → IsPlain text
name_is_plain text name is = record {
  lacks = λ t letter digit. name_lacks t text (ap (λ (b : Bool). b || is_digit t) letter ∙ digit) is.form;
  some = (from_is_name text is.form).1;
}

value_is_plain : (option : JobOption) (text : List ℕ) (value : Value option) → (row option).Is value text → IsPlain text
value_is_plain Steps = number_is_plain
value_is_plain Lines = number_is_plain
value_is_plain Library = name_is_plain

-- an option's word has capitals alone, and one or more
record IsOptionWord (word : List ℕ) : Type 0 where
  letters : list_all is_letter word ≡ true
  some : 0 < length word

option_word : (option : JobOption) → IsOptionWord (row option).word
option_word Steps = record { letters = refl; some = omega arith }
option_word Lines = record { letters = refl; some = omega arith }
option_word Library = record { letters = refl; some = omega arith }

-- each option is found by its word
is_found : (option : JobOption) → find (λ o. bytes_eq (row option).word (row o).word) options ≡ Some option
is_found Steps = refl
is_found Lines = refl
is_found Library = refl

-- a byte whose capital is a letter is one
no_capital : (t : ℕ) → is_letter t ≡ false → is_letter (capital t) ≡ false
no_capital t h = grind (arith, nat_tests)

word_is_plain : (option : JobOption) (text : List ℕ) → IsWord (row option).word text → IsPlain text
word_is_plain option text is = record {
  lacks = λ t other _. word_lacks t (row option).word text (no_capital t other) (option_word option).letters is;
  some = omega (arith, word-length (row option).word text is, (option_word option).some);
}

option_of_is : (option : JobOption) (text : List ℕ) → IsWord (row option).word text → option_of text ≡ Some option
option_of_is option text is = ap (λ (w : List ℕ). find (λ o. bytes_eq w (row o).word) options) is ∙ is_found option

found_by : {X : Type 0} (p : X → Bool) (y : X) (xs : List X) (x : X) (b : Bool) → p y ≡ b → ((find p xs ≡ Some x) → p x ≡ true) → cond b (Some y) (find p xs) ≡ Some x → p x ≡ true
found_by p y xs x true e later h = ap p (sym (same_Some y x h)) ∙ e
found_by p y xs x false e later h = later h

found : {X : Type 0} (p : X → Bool) (xs : List X) (x : X) → find p xs ≡ Some x → p x ≡ true
found p [] x h = cc
found p (y ∷ xs) x h = found_by p y xs x (p y) refl (found p xs x) h

from_option_of : (option : JobOption) (text : List ℕ) → option_of text ≡ Some option → IsWord (row option).word text
from_option_of option text h = (bytes_eq-Decides (folded text) (row option).word).0 (found (λ o. bytes_eq (folded text) (row o).word) options option h)

-- ---- a field

-- a field gives settings an option that they haven't
record Adds (before : Settings) (field : List ℕ) (after : Settings) : Type 0 where
  option : JobOption
  value : Value option
  free : (row option).held before ≡ None
  is : IsSetting option value field
  gives : (row option).with_value before value ≡ after

from_once : {V : Type 0} (held given : Option V) (with : V → Settings) (after : Settings) → option_map with (once held given) ≡ Some after → (v : V) × (held ≡ None) × (given ≡ Some v) × (with v ≡ after)
from_once None None with after h = cc
from_once None (Some v) with after h = (v, refl, refl, same_Some _ _ h)
from_once (Some u) given with after h = cc

from_option : (before : Settings) (field word text : List ℕ) (after : Settings) (q : Option JobOption) → parted 61 field ≡ Some (word, text) → option_of (stripped word) ≡ q
    → option_and_then (with_option before (stripped text)) q ≡ Some after → Adds before field after
from_option before field word text after None e f h = cc
from_option before field word text after (Some option) e f h =
    let given = from_once ((row option).held before) ((row option).value_of (stripped text)) ((row option).with_value before) after h in
    record {
      option = option;
      value = given.0;
      free = given.1;
      is = record {
        left = word;
        right = text;
        text = (from_parted 61 field word text e).0;
        left_is = field_of (IsWord (row option).word) word (from_option_of option (stripped word) f);
        right_is = field_of ((row option).Is given.0) text (from_value_of option (stripped text) given.0 given.2);
      };
      gives = given.3;
    }

from_parts : (before : Settings) (field : List ℕ) (after : Settings) (r : Option (List ℕ × List ℕ)) → parted 61 field ≡ r → with_parts before r ≡ Some after → Adds before field after
from_parts before field after None e h = cc
from_parts before field after (Some (word, text)) e h = from_option before field word text after (option_of (stripped word)) e refl h

plain_lacks : (t : ℕ) (T : List ℕ → Type 0) (bytes : List ℕ) (f : IsField T bytes) → IsPlain f.content → (32 == t) ≡ false → is_letter t ≡ false → is_digit t ≡ false → Lacks t bytes
plain_lacks t T bytes f plain other letter digit = field_lacks t T bytes f other (plain.lacks t letter digit)

plain-stripped : (T : List ℕ → Type 0) (bytes : List ℕ) (f : IsField T bytes) → IsPlain f.content → stripped bytes ≡ f.content
plain-stripped T bytes f plain = field-stripped T bytes f plain.some (plain.lacks 32 refl refl)

-- a field with an option's value gives it to settings that haven't that
field_is : (before : Settings) (option : JobOption) (value : Value option) (field : List ℕ) → (row option).held before ≡ None → IsSetting option value field
    → with_field field before ≡ Some ((row option).with_value before value)
field_is before option value field free h =
    let word = word_is_plain option h.left_is.content h.left_is.is in
    let text = value_is_plain option h.right_is.content value h.right_is.is in
    let there : parted 61 field ≡ Some (h.left, h.right) = ap (parted 61) h.text ∙ parted_is 61 h.left h.right (plain_lacks 61 (IsWord (row option).word) h.left h.left_is word refl refl refl) in
    let left : stripped h.left ≡ h.left_is.content = plain-stripped (IsWord (row option).word) h.left h.left_is word in
    let right : stripped h.right ≡ h.right_is.content = plain-stripped ((row option).Is value) h.right h.right_is text in
    let named : option_of (stripped h.left) ≡ Some option = ap option_of left ∙ option_of_is option h.left_is.content h.left_is.is in
    let given : (row option).value_of (stripped h.right) ≡ Some value = ap (row option).value_of right ∙ value_of_is option h.right_is.content value h.right_is.is in
    ap (with_parts before) there
    ∙ ap (option_and_then (with_option before (stripped h.right))) named
    ∙ ap (λ (g : Option (Value option)). option_map ((row option).with_value before) (once ((row option).held before) g)) given
    ∙ ap (λ (g : Option (Value option)). option_map ((row option).with_value before) (once g (Some value))) free

-- a field with an option has no comma in it
setting_lacks : (option : JobOption) (value : Value option) (field : List ℕ) → IsSetting option value field → Lacks 44 field
setting_lacks option value field h =
    let P : ℕ → Type 0 = λ b. (b == 44) ≡ false in
    let left : Lacks 44 h.left = plain_lacks 44 (IsWord (row option).word) h.left h.left_is (word_is_plain option h.left_is.content h.left_is.is) refl refl refl in
    let equals : Lacks 44 (61 ∷ []) = Lacks-from_all (λ b. b == 61) 44 (61 ∷ []) refl refl in
    let right : Lacks 44 h.right = plain_lacks 44 ((row option).Is value) h.right h.right_is (value_is_plain option h.right_is.content value h.right_is.is) refl refl refl in
    subst (Lacks 44) (sym h.text) (All-append P h.left (61 ∷ h.right) left (All-append P (61 ∷ []) h.right equals right))

-- ---- the fields

-- what is given, and what a field gives besides
abbrev pub step : Option Settings → List ℕ → Option Settings
step given field = option_and_then (with_field field) given

pub fold-none : (fs : List (List ℕ)) → fold step None fs ≡ None
fold-none [] = refl
fold-none (f ∷ fs) = fold-none fs

join-moved : (first second : List ℕ) (fs : List (List ℕ)) → join_with_byte 44 (first ∷ second ∷ fs) ≡ join_with_byte 44 ((first ++ 44 ∷ second) ∷ fs)
join-moved first second [] = refl
join-moved first second (f ∷ fs) = sym (append_assoc first (44 ∷ second) (44 ∷ join_with_byte 44 (f ∷ fs)))

-- a text of settings behind an account's name, and the rest of the fields
record IsText (account : List ℕ) (given : Settings) (joined : List ℕ) : Type 0 where
  settings : List ℕ
  text : joined ≡ account ++ settings
  are : IsSettings given settings

one_field_more : (account text : List ℕ) (before given : Settings) (f : List ℕ) (fs : List (List ℕ)) (q : Option Settings)
    → ((text' : List ℕ) (s : Settings) → IsSettings s text' → fold step (Some s) fs ≡ Some given → IsText account given (join_with_byte 44 ((account ++ text') ∷ fs)))
    → IsSettings before text → with_field f before ≡ q → fold step q fs ≡ Some given → IsText account given (join_with_byte 44 ((account ++ text) ∷ f ∷ fs))
one_field_more account text before given f fs None later is e h = let none : Some given ≡ None = sym h ∙ fold-none fs in cc
one_field_more account text before given f fs (Some s) later is e h =
    let adds = from_parts before f s (parted 61 f) refl e in
    let P : Settings → Type 0 = λ g. IsSettings g (text ++ 44 ∷ f) in
    let one : IsSettings s (text ++ 44 ∷ f) = subst P adds.gives (one_more before text adds.option adds.value f is adds.free adds.is) in
    let rest = later (text ++ 44 ∷ f) s one h in
    record {
      settings = rest.settings;
      text = join-moved (account ++ text) f fs ∙ ap (λ (r : List ℕ). join_with_byte 44 (r ∷ fs)) (append_assoc account text (44 ∷ f)) ∙ rest.text;
      are = rest.are;
    }

from_fields : (account : List ℕ) (given : Settings) (fs : List (List ℕ)) (text : List ℕ) (before : Settings) → IsSettings before text → fold step (Some before) fs ≡ Some given
    → IsText account given (join_with_byte 44 ((account ++ text) ∷ fs))
from_fields account given [] text before is h =
    let P : Settings → Type 0 = λ g. IsSettings g text in
    record { settings = text; text = refl; are = subst P (same_Some _ _ h) is }
from_fields account given (f ∷ fs) text before is h = one_field_more account text before given f fs (with_field f before) (from_fields account given fs) is refl h

-- fields that give these settings are a text of them
pub from_settings_of : (account : List ℕ) (fs : List (List ℕ)) (given : Settings) → settings_of fs ≡ Some given
    → (settings : List ℕ) × (join_with_byte 44 (account ∷ fs) ≡ account ++ settings) × IsSettings given settings
from_settings_of account fs given h =
    let whole = from_fields account given fs [] unset no_more h in
    (whole.settings, ap (λ (r : List ℕ). join_with_byte 44 (r ∷ fs)) (sym (append-nil account)) ∙ whole.text, whole.are)

-- a text of settings is fields that give them
pub settings_are : (account settings : List ℕ) (given : Settings) → Lacks 44 account → IsSettings given settings
    → (fs : List (List ℕ)) × (fields (account ++ settings) ≡ account ∷ fs) × (settings_of fs ≡ Some given)
settings_are account settings given lacks no_more = ([], ap fields (append-nil account) ∙ fields_of_one account lacks, refl)
settings_are account settings given lacks (one_more before text option value field is free setting) =
    let rest = settings_are account text before lacks is in (
      rest.0 ++ field ∷ [],
      ap fields (sym (append_assoc account text (44 ∷ field)))
          ∙ fields-joined (account ++ text) field
          ∙ ap (λ (fs : List (List ℕ)). fs ++ fields field) rest.1
          ∙ ap (λ (fs : List (List ℕ)). account ∷ (rest.0 ++ fs)) (fields_of_one field (setting_lacks option value field setting)),
      fold-append step (Some unset) rest.0 (field ∷ [])
          ∙ ap (λ (g : Option Settings). fold step g (field ∷ [])) rest.2
          ∙ field_is before option value field free setting,
    )

-- ---- numbers that stop at the largest of 32 bits

once-mapped : {V : Type 0} (f : V → V) (held given : Option V) → once (option_map f held) (option_map f given) ≡ option_map f (once held given)
once-mapped f None given = refl
once-mapped f (Some v) given = refl

counted-with_value : {V : Type 0} (s : Settings) (with : Settings → V → Settings) (f : V → V) → ((v : V) → counted_settings (with s v) ≡ with (counted_settings s) (f v)) → (given : Option V)
    → option_map counted_settings (option_map (with s) given) ≡ option_map (with (counted_settings s)) (option_map f given)
counted-with_value s with f same None = refl
counted-with_value s with f same (Some v) = ap Some (same v)

counted_once : {V : Type 0} (s : Settings) (with : Settings → V → Settings) (f : V → V) (held given : Option V) → ((v : V) → counted_settings (with s v) ≡ with (counted_settings s) (f v))
    → option_map counted_settings (option_map (with s) (once held given)) ≡ option_map (with (counted_settings s)) (once (option_map f held) (option_map f given))
counted_once s with f held given same = counted-with_value s with f same (once held given) ∙ ap (option_map (with (counted_settings s))) (sym (once-mapped f held given))

-- an option's value as the code counts it
abbrev pub counted_value : (option : JobOption) → Value option → Value option
counted_value Steps = in_32_bits
counted_value Lines = in_32_bits
counted_value Library = λ name. name

-- to count what an option gives is to count the settings and the value
counted-option : (s : Settings) (text : List ℕ) (option : JobOption)
    → option_map counted_settings (with_option s text option) ≡ option_map ((row option).with_value (counted_settings s)) (once ((row option).held (counted_settings s)) (option_map (counted_value option) ((row option).value_of text)))
counted-option s text Steps = counted_once s (row Steps).with_value in_32_bits s.steps (number_of text) (λ n. refl)
counted-option s text Lines = counted_once s (row Lines).with_value in_32_bits s.lines (number_of text) (λ n. refl)
counted-option s text Library =
    counted_once s (row Library).with_value (λ name. name) s.library (name_of text) (λ name. refl)
    ∙ ap (λ (held : Option (List ℕ)). option_map ((row Library).with_value (counted_settings s)) (once held (option_map (λ name. name) (name_of text)))) (option_map_id s.library)

-- what the code makes of a field that names this option
pub counted_field : (option : JobOption) (self s : Settings) (field word text : List ℕ) (given : Option (Value option)) → self ≡ counted_settings s → parted 61 field ≡ Some (word, text) → option_of (stripped word) ≡ Some option
    → given ≡ option_map (counted_value option) ((row option).value_of (stripped text)) → option_map counted_settings (with_field field s) ≡ option_map ((row option).with_value self) (once ((row option).held self) given)
counted_field option self s field word text given stands parts named is =
    ap (option_map counted_settings) (ap (with_parts s) parts ∙ ap (option_and_then (with_option s (stripped text))) named)
    ∙ counted-option s (stripped text) option
    ∙ ap (λ (g : Option (Value option)). option_map ((row option).with_value (counted_settings s)) (once ((row option).held (counted_settings s)) g)) (sym is)
    ∙ ap (λ (t : Settings). option_map ((row option).with_value t) (once ((row option).held t) given)) (sym stands)

-- one field more
pub turn : (s : Settings) (fs : List (List ℕ)) (i : ℕ) (field : List ℕ) → (i < length fs) × (field ≡ get_or fs i field) → fold step (Some s) (drop i fs) ≡ fold step (with_field field s) (drop (i + 1) fs)
turn s fs i field t =
    at_drop_more (fold step (Some s)) fs i field t.0 ∙ ap (λ (f : List ℕ). fold step (with_field f s) (drop (i + 1) fs)) (sym t.1)

-- what a field gives as the code counts it, where it gives something and where it gives nothing
pub from_counted : (q : Option Settings) (t : Settings) → option_map counted_settings q ≡ Some t → (s : Settings) × (q ≡ Some s) × (t ≡ counted_settings s)
from_counted None t h = cc
from_counted (Some s) t h = (s, refl, sym (same_Some _ _ h))

pub from_none_counted : (q : Option Settings) → option_map counted_settings q ≡ None → q ≡ None
from_none_counted None h = refl
from_none_counted (Some s) h = cc
