-- What the texts on a card are, as relations between a text and what it stands for.
use Rattle.std.specs.Prelude.{◌≡◌, ℕ, true, List, ◌++◌}
use Rattle.std.specs.Str.Parse.{digits_value}
use Rattle.short_text.specs.Blanks.{blanks}
use Rattle.deck_reader.specs.Forms.{folded, is_name, is_digits}

-- a word in either case of letters
abbrev pub IsWord : List ℕ → List ℕ → Type 0
IsWord word text = folded text ≡ word

-- a name, which in capitals is this one
pub record IsName (name text : List ℕ) : Type 0 where
  pub form : is_name text ≡ true
  pub value : folded text ≡ name

-- digits, with this value
pub record IsNumber (number : ℕ) (text : List ℕ) : Type 0 where
  pub form : is_digits text ≡ true
  pub value : digits_value 10 text ≡ number

-- a field is blanks, a text and blanks
pub record IsField (T : List ℕ → Type 0) (field : List ℕ) : Type 0 where
  pub before : ℕ
  pub content : List ℕ
  pub behind : ℕ
  pub text : field ≡ blanks before ++ (content ++ blanks behind)
  pub is : T content
