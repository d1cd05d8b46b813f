-- The form of the command words.
use Rattle.std.specs.Prelude.{ℕ, Bool, ◌&&◌, ◌∷◌, [], ◌++◌, List, codes, if◌then◌else◌, Option, Some, None, find, length, nat_le, map, option_and_then, ◌≡◌, true, false}
use Rattle.std.specs.Char.{is_ascii_digit}
use Rattle.std.specs.Int.{is_in_range}
use Rattle.std.specs.List.{IsDistinct, flat_map, list_any, list_all}
use Rattle.std.specs.Str.{bytes_eq}
use Rattle.std.specs.Str.Parse.{digits_value}
use Rattle.deck_reader.specs.Forms as forms
use Rattle.command_words.specs.declared.order.Order.{Order}
use Rattle.command_words.specs.declared.order.Order.TheVariants.{Run, Make, Statement}

abbrev pub Text : Type 0
Text = List ℕ

-- an option with its value, as two words or joined by `=`, or a flag, which is one word
pub data Use : Type 0 where
  apart : Text → Text → Use
  joined : Text → Text → Use
  flag : Text → Use

abbrev pub name_of : Use → Text
name_of (apart name value) = name
name_of (joined name value) = name
name_of (flag name) = name

-- the value of an option; a flag has none
abbrev pub value_in : Use → Option Text
value_in (apart name value) = Some value
value_in (joined name value) = Some value
value_in (flag name) = None

abbrev pub dashed : Text → Text
dashed name = 45 ∷ 45 ∷ name

abbrev pub words_of_use : Use → List Text
words_of_use (apart name value) = dashed name ∷ value ∷ []
words_of_use (joined name value) = dashed (name ++ 61 ∷ value) ∷ []
words_of_use (flag name) = dashed name ∷ []

-- the words that spell these options and flags, one after the other
abbrev pub words_of : List Use → List Text
words_of uses = flat_map words_of_use uses

abbrev pub options : List Text
options = codes "workers" ∷ codes "queue" ∷ codes "make" ∷ codes "jobs" ∷ codes "statement" ∷ []

abbrev pub flags : List Text
flags = codes "accounts" ∷ codes "board" ∷ []

abbrev pub is_among : Text → List Text → Bool
is_among name names = list_any (λ known. bytes_eq known name) names

-- an option has a value, and a flag none
abbrev pub is_known : Use → Bool
is_known (apart name value) = is_among name options
is_known (joined name value) = is_among name options
is_known (flag name) = is_among name flags

-- the value of an option, where it is used
abbrev pub value_of : Text → List Use → Option Text
value_of name uses = option_and_then value_in (find (λ u. bytes_eq (name_of u) name) uses)

-- whether a flag is used
abbrev pub has_flag : Text → List Use → Bool
has_flag name uses = list_any (λ u. bytes_eq (name_of u) name) uses

-- 1 to 10 digits
abbrev pub is_number : Text → Bool
is_number text = nat_le 1 (length text) && (nat_le (length text) 10 && list_all is_ascii_digit text)

-- the number that a text says, where it lies in the range
abbrev pub number_in : ℕ → ℕ → Text → Option ℕ
number_in least most text =
    if is_number text && is_in_range least most (digits_value 10 text) then Some (digits_value 10 text) else None

-- the number that the value says, or the default where there is no value
abbrev pub number_or : ℕ → ℕ → ℕ → Option Text → Option ℕ
number_or default least most None = Some default
number_or default least most (Some text) = number_in least most text

abbrev pub run_from : Bool → Bool → Option ℕ → Option ℕ → Option Order
run_from accounts board (Some workers) (Some queue) = Some (Run workers queue accounts board)
run_from accounts board _ _ = None

abbrev pub make_from : Option ℕ → Option ℕ → Option ℕ → Option ℕ → Option Order
make_from (Some seed) (Some jobs) (Some workers) (Some queue) = Some (Make seed jobs workers queue)
make_from _ _ _ _ = None

abbrev pub statement_from : Option Text → Option ℕ → Option ℕ → Option Order
statement_from (Some name) (Some workers) (Some queue) = Some (Statement name workers queue)
statement_from _ _ _ = None

-- the order of these values: `--make` and `--jobs` stand together or not at all, and not beside `--statement`, whose value is an
-- account's name; none of the three stands beside `--accounts` or `--board`
abbrev pub order_from : Option Text → Option Text → Option Text → Bool → Bool → Option ℕ → Option ℕ → Option Order
order_from None None None accounts board workers queue = run_from accounts board workers queue
order_from None None (Some name) false false workers queue = statement_from (forms.name_of name) workers queue
order_from (Some make) (Some jobs) None false false workers queue =
    make_from (number_in 0 4294967295 make) (number_in 1 2000 jobs) workers queue
order_from _ _ _ _ _ _ _ = None

-- the order that the options and flags say: 1 to 16 workers or 4, a queue of 1 to 64 or 8
abbrev pub order_of : List Use → Option Order
order_of uses = order_from (value_of (codes "make") uses) (value_of (codes "jobs") uses) (value_of (codes "statement") uses)
    (has_flag (codes "accounts") uses) (has_flag (codes "board") uses)
    (number_or 4 1 16 (value_of (codes "workers") uses))
    (number_or 8 1 64 (value_of (codes "queue") uses))

-- the words spell options and flags, each known and used at most once, that say the order
pub record IsOrder (words : List Text) (order : Order) : Type 0 where
  pub uses : List Use
  pub spelt : words ≡ words_of uses
  pub known : list_all is_known uses ≡ true
  pub once : IsDistinct bytes_eq (map name_of uses)
  pub says : order_of uses ≡ Some order

abbrev pub has_dashes : List Text → Bool
has_dashes words = list_any (λ word. bytes_eq word (dashed [])) words
