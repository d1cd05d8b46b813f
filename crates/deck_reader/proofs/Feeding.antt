-- A reader that is fed in pieces.
use Rattle.std.proofs.Common.{◌≡◌, ℕ, ◌+◌, ◌-◌, ◌^◌, ◌<◌, ◌≤◌, ◌==◌, Bool, true, false, ◌||◌, nat_lt, List, [], ◌∷◌, ◌++◌, length, map, Option, None, refl, sym, ap, subst, ◌∙◌, arith, count_by, append_assoc, append-nil, if◌then◌else◌}
use Rattle.std.specs.List.{list_any}
use Rattle.std.proofs.lemmas.Bool.Decides.{nat_tests}
use Rattle.std.proofs.lemmas.List.{length-append, length-map, map-append}
use Rattle.std.proofs.lemmas.List.Sums.{sum_by-append, count_by-le-length}
use Rattle.std.proofs.lemmas.List.Splits.{length-slice_split}
use Rattle.deck_reader.specs.declared.batch.Account.{Account}
use Rattle.deck_reader.specs.declared.reader.Reader.{Reader}
use Rattle.deck_reader.specs.declared.reading.Reading.{Reading}
use Rattle.deck_reader.specs.Cards.{cleaned, parts, all_but_last, ended, under_way, unless_empty, cards}
use Rattle.deck_reader.specs.Forms.{is_head}
use Rattle.deck_reader.specs.Batch.{passes}
use Rattle.deck_reader.specs.JobView.{JobView}
use Rattle.deck_reader.specs.Reading.{IsReading, put_back}
use Rattle.deck_reader.specs.Fed.{HasRead, StandsFor}
use Rattle.deck_reader.proofs.Cuts.{ended-more, under_way-more, ended-feed, under_way-feed, ended-prefix}

length-all_but_last : (x : List ℕ) (xs : List (List ℕ)) → length (all_but_last (x ∷ xs)) ≡ length xs
length-all_but_last x [] = refl
length-all_but_last x (y ∷ ys) = let rest : length (all_but_last (y ∷ ys)) ≡ length ys = length-all_but_last y ys in omega arith

all_but_last-le : (xs : List (List ℕ)) → length (all_but_last xs) ≤ length xs - 1
all_but_last-le [] = omega arith
all_but_last-le (x ∷ xs) = omega (arith, length-all_but_last x xs)

-- each piece that ended took a byte
ended-le : (bytes : List ℕ) → length (ended bytes) ≤ length bytes
ended-le bytes = omega (arith, all_but_last-le (parts bytes), length-slice_split (λ b. b == 10) bytes, count_by-le-length (λ b. b == 10) bytes)

few_cards : (bytes : List ℕ) → length bytes ≤ 4194304 → length (map cleaned (ended bytes)) < 2 ^ 31
few_cards bytes few = omega (arith, ended-le bytes, length-map (ended bytes) cleaned)

-- the cards with the one that the line feed ended
pub read_card : (given : Option (List Account)) (old : Reader) (new : Reading) (taken : List JobView) (input front held : List ℕ) → list_any (λ b. b == 10) front ≡ false → length input ≤ 4194304 → HasRead given old taken input → held ≡ old.under_way.items ++ front
    → ((cards : List (List ℕ)) → length cards < 2 ^ 31 → IsReading given (put_back taken old.reading) cards → IsReading given (put_back taken new) (cards ++ cleaned held ∷ []))
    → IsReading given (put_back taken new) (map cleaned (ended (input ++ front ++ 10 ∷ [])))
read_card given old new taken input front held none few has holds step =
    let P : List (List ℕ) → Type 0 = λ cs. IsReading given (put_back taken new) cs in
    let is : map cleaned (ended input) ++ cleaned held ∷ [] ≡ map cleaned (ended (input ++ front ++ 10 ∷ [])) =
    ap (λ (u : List ℕ). map cleaned (ended input) ++ cleaned u ∷ []) holds
    ∙ ap (λ (u : List ℕ). map cleaned (ended input) ++ cleaned (u ++ front) ∷ []) has.under_way_is
    ∙ sym (map-append cleaned (ended input) ((under_way input ++ front) ∷ []))
    ∙ sym (ap (map cleaned) (ended-feed input front none)) in
    subst P is (step (map cleaned (ended input)) (few_cards input few) has.read)

-- a line feed ends the card under way
pub fed_card : (given : Option (List Account)) (old new : Reader) (taken : List JobView) (input front held : List ℕ) → list_any (λ b. b == 10) front ≡ false → length input ≤ 4194304 → HasRead given old taken input → held ≡ old.under_way.items ++ front
    → ((cards : List (List ℕ)) → length cards < 2 ^ 31 → IsReading given (put_back taken old.reading) cards → IsReading given (put_back taken new.reading) (cards ++ cleaned held ∷ []))
    → new.under_way.items ≡ [] → new.refused ≡ None → new.reading.heads ≤ 2000 → HasRead given new taken (input ++ front ++ 10 ∷ [])
fed_card given old new taken input front held none few has holds step under refused heads = record {
  refuses_none = refused;
  under_way_is = under ∙ sym (under_way-feed input front);
  read = read_card given old new.reading taken input front held none few has holds step;
  few_heads = heads;
}

-- bytes without a line feed belong to the card under way
pub fed_rest : (given : Option (List Account)) (old new : Reader) (taken : List JobView) (input rest : List ℕ) → list_any (λ b. b == 10) rest ≡ false → HasRead given old taken input
    → new.reading ≡ old.reading → new.under_way.items ≡ old.under_way.items ++ rest → new.refused ≡ None → HasRead given new taken (input ++ rest)
fed_rest given old new taken input rest none has reading under refused =
    let P : List (List ℕ) → Type 0 = λ ps. IsReading given (put_back taken new.reading) (map cleaned ps) in
    let Q : Reading → Type 0 = λ r. IsReading given (put_back taken r) (map cleaned (ended input)) in
    let R : Reading → Type 0 = λ r. r.heads ≤ 2000 in
    record {
      refuses_none = refused;
      under_way_is = under ∙ ap (λ (u : List ℕ). u ++ rest) has.under_way_is ∙ sym (under_way-more input rest none);
      read = subst P (sym (ended-more input rest none)) (subst Q (sym reading) has.read);
      few_heads = subst R (sym reading) has.few_heads;
    }

-- what was fed before and a part of the next bytes fit
pub part_fits : (input bytes done rest : List ℕ) (fed : ℕ) → bytes ≡ done ++ rest → fed ≡ length input → length bytes ≤ 4194304 → fed ≤ 4194304 - length bytes → length (input ++ done) ≤ 4194304
part_fits input bytes done rest fed is counted few room = omega (arith, ap length is, length-append done rest, length-append input done)

pub regroup_rest : (done front behind : List ℕ) → done ++ (front ++ 10 ∷ behind) ≡ (done ++ front ++ 10 ∷ []) ++ behind
regroup_rest done front behind = simp append_assoc

pub regroup_input : (input done front : List ℕ) → (input ++ done) ++ front ++ 10 ∷ [] ≡ input ++ (done ++ front ++ 10 ∷ [])
regroup_input input done front = simp append_assoc

pub regroup_whole : (input done front behind : List ℕ) → ((input ++ done) ++ front ++ 10 ∷ []) ++ behind ≡ input ++ (done ++ (front ++ 10 ∷ behind))
regroup_whole input done front behind = simp append_assoc

pub over_by : (a b : Bool) → a ≡ false → b ≡ false → (a || b) ≡ false
over_by false false h k = refl
over_by true b h k = cc
over_by false true h k = cc

pub over_heads : (a b : Bool) → b ≡ true → (a || b) ≡ true
over_heads true true h = refl
over_heads false true h = refl
over_heads a false h = cc

pub within : (m n : ℕ) → n ≤ m → nat_lt m n ≡ false
within m n h = grind (arith, nat_tests)

pub beyond : (m n : ℕ) → m < n → nat_lt m n ≡ true
beyond m n h = grind (arith, nat_tests)

-- a reader that stands for its bytes hasn't passed a limit
pub stands_fits : (given : Option (List Account)) (reader : Reader) (taken : List JobView) (input : List ℕ) → StandsFor given reader taken input → passes input ≡ false
stands_fits given reader taken input stands =
    let heads : reader.reading.heads ≡ count_by is_head (map cleaned (ended input)) = stands.has_read.read.heads_are in
    over_by (nat_lt 4194304 (length input)) (nat_lt 2000 (count_by is_head (map cleaned (ended input))))
    (within 4194304 (length input) stands.few_bytes)
    (within 2000 (count_by is_head (map cleaned (ended input))) (omega (arith, stands.has_read.few_heads)))

-- too many heads, whatever comes behind them
pub heads_pass : (given : Option (List Account)) (reading : Reading) (taken : List JobView) (input more : List ℕ) → IsReading given (put_back taken reading) (map cleaned (ended input)) → 2000 < reading.heads → passes (input ++ more) ≡ true
heads_pass given reading taken input more read many =
    let prefix = ended-prefix input more in
    let f : List ℕ → ℕ = λ c. (if is_head c then 1 else 0) in
    let heads : reading.heads ≡ count_by is_head (map cleaned (ended input)) = read.heads_are in
    let all : count_by is_head (map cleaned (ended (input ++ more))) ≡ count_by is_head (map cleaned (ended input)) + count_by is_head (map cleaned prefix.0) =
    ap (λ (ps : List (List ℕ)). count_by is_head (map cleaned ps)) prefix.1
    ∙ ap (count_by is_head) (map-append cleaned (ended input) prefix.0)
    ∙ sum_by-append (λ (c : List ℕ). if is_head c then 1 else 0) (map cleaned (ended input)) (map cleaned prefix.0) in
    over_heads (nat_lt 4194304 (length (input ++ more))) (nat_lt 2000 (count_by is_head (map cleaned (ended (input ++ more)))))
    (beyond 2000 (count_by is_head (map cleaned (ended (input ++ more)))) (omega arith))

-- the cards of an input that ends with a line feed, or with nothing
pub no_last : (given : Option (List Account)) (reader : Reader) (taken : List JobView) (input : List ℕ) → HasRead given reader taken input → reader.under_way.items ≡ [] → IsReading given (put_back taken reader.reading) (cards input)
no_last given reader taken input has empty =
    let P : List ℕ → Type 0 = λ u. IsReading given (put_back taken reader.reading) (map cleaned (ended input ++ unless_empty u)) in
    let Q : List (List ℕ) → Type 0 = λ ps. IsReading given (put_back taken reader.reading) (map cleaned ps) in
    subst P (sym empty ∙ has.under_way_is) (subst Q (sym (append-nil (ended input))) has.read)

unless_empty-some : (bytes : List ℕ) → 0 < length bytes → unless_empty bytes ≡ bytes ∷ []
unless_empty-some [] h = absurd (omega arith)
unless_empty-some (b ∷ bytes) h = refl

-- the cards of an input with a last card that no line feed ends
pub with_last : (given : Option (List Account)) (old : Reader) (new : Reading) (taken : List JobView) (input : List ℕ) → length input ≤ 4194304 → HasRead given old taken input → 0 < length old.under_way.items
    → ((cards : List (List ℕ)) → length cards < 2 ^ 31 → IsReading given (put_back taken old.reading) cards → IsReading given (put_back taken new) (cards ++ cleaned old.under_way.items ∷ [])) → IsReading given (put_back taken new) (cards input)
with_last given old new taken input few has some step =
    let P : List (List ℕ) → Type 0 = λ cs. IsReading given (put_back taken new) cs in
    let is : map cleaned (ended input) ++ cleaned old.under_way.items ∷ [] ≡ cards input =
    sym (map-append cleaned (ended input) (old.under_way.items ∷ []))
    ∙ ap (λ (ps : List (List ℕ)). map cleaned (ended input ++ ps)) (sym (unless_empty-some old.under_way.items some))
    ∙ ap (λ (u : List ℕ). map cleaned (ended input ++ unless_empty u)) has.under_way_is in
    subst P is (step (map cleaned (ended input)) (few_cards input few) has.read)
