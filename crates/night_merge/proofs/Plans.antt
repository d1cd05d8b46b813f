-- Lines of a plan, as they are read.
use Rattle.std.proofs.Common.{◌≡◌, ℕ, ◌==◌, ◌<◌, ◌≤◌, ◌+◌, ◌^◌, ◌&&◌, not, Bool, true, false, List, [], ◌∷◌, ◌++◌, Option, Some, length, codes, decimal, refl, sym, ap, ◌∙◌, arith, append_assoc, length-append, lit<}
use Rattle.std.proofs.lemmas.List.{append_cancel_left}
use Rattle.std.specs.List.{list_all}
use Rattle.std.specs.Str.Parse.{AllDigits}
use Rattle.std.proofs.lemmas.Bool.Decides.{nat_tests}
use Rattle.std.proofs.lemmas.Fmt.{decimal_is_IsNumeral, decimal_nonempty, length-decimal-le}
use Rattle.std.proofs.lemmas.Str.Parse.{digit_at}
use Rattle.std.proofs.lemmas.Bool.{and_parts}
use Rattle.deck_reader.specs.Forms.{parted}
use Rattle.deck_reader.proofs.Fields.{Lacks-from_all, parted_is}
use Rattle.listing_parts.specs.Lines.{is_line}
use Rattle.deck_reader.specs.declared.batch.Account.{Account}
use Rattle.deck_reader.specs.declared.batch.Flaw.{Flaw}
use Rattle.deck_reader.specs.declared.batch.Flaw.TheVariants.{CardTooLong, ByteNotAllowed, JobCard, NumberOutOfRange, TooManyCards, AccountUnknown, LibraryUnknown, LibraryIllFormed}
use Rattle.deck_reader.specs.Flaws.{flaw_number}
use Rattle.night_merge.specs.declared.plan.Entry.TheVariants.{Job, Refused}
use Rattle.night_merge.specs.declared.plan.Line.{Line}
use Rattle.night_merge.specs.declared.plan.Line.TheVariants.{Night, Opened, Window, Listed, Stray}
use Rattle.night_merge.specs.Plan.{IsSaid, IsWord, fed, is_word, line_text}

-- ---- words and numbers are parted at a blank

all_digits : (p : ℕ → Bool) → ((d : ℕ) → 48 ≤ d → d < 58 → p d ≡ true) → (ds : List ℕ) → AllDigits 10 ds → list_all p ds ≡ true
all_digits p f [] h = refl
all_digits p f (d ∷ ds) h =
    let range = digit_at (d ∷ ds) 0 h (omega arith) in
    let here : p d ≡ true = f d (omega arith) (omega arith) in
    rw here (all_digits p f ds h.1)

-- digits pass a test that each digit passes
pub decimal_passes : (p : ℕ → Bool) → ((d : ℕ) → 48 ≤ d → d < 58 → p d ≡ true) → (n : ℕ) → n < 2 ^ 64 → list_all p (decimal n) ≡ true
decimal_passes p f n h = all_digits p f (decimal n) (decimal_is_IsNumeral n h).0.1

no_blank : (d : ℕ) → 48 ≤ d → d < 58 → not (d == 32) ≡ true
no_blank d low high = let other : (d == 32) ≡ false = grind (arith, nat_tests) in ap not other

no_feed : (d : ℕ) → 48 ≤ d → d < 58 → not (d == 10) ≡ true
no_feed d low high = let other : (d == 10) ≡ false = grind (arith, nat_tests) in ap not other

pub number_is_line : (n : ℕ) → n < 2 ^ 64 → is_line (decimal n) ≡ true
number_is_line n h = decimal_passes (λ d. not (d == 10)) no_feed n h

pub number_parted : (n : ℕ) (rest : List ℕ) → n < 2 ^ 64 → parted 32 (decimal n ++ 32 ∷ rest) ≡ Some (decimal n, rest)
number_parted n rest h = parted_is 32 (decimal n) rest (Lacks-from_all (λ b. not (b == 32)) 32 (decimal n) refl (decimal_passes (λ d. not (d == 32)) no_blank n h))

pub word_parted : (word rest : List ℕ) → is_word word ≡ true → parted 32 (word ++ 32 ∷ rest) ≡ Some (word, rest)
word_parted word rest h = parted_is 32 word rest (Lacks-from_all (λ b. not (b == 32) && not (b == 10)) 32 word refl h)

-- what is parted so is these parts
pub parts_are : (bytes front rest front' rest' : List ℕ) → parted 32 bytes ≡ Some (front, rest) → parted 32 bytes ≡ Some (front', rest') → (front ≡ front') × (rest ≡ rest')
parts_are bytes front rest front' rest' e e' =
    let both : Some (front, rest) ≡ Some (front', rest') = sym e ∙ e' in
    let pairs : (front, rest) ≡ (front', rest') = cc both in
    (ap (λ (p : List ℕ × List ℕ). p.0) pairs, ap (λ (p : List ℕ × List ℕ). p.1) pairs)

-- ---- they are lines

pub word_is_line : (word : List ℕ) → is_word word ≡ true → is_line word ≡ true
word_is_line [] h = refl
word_is_line (b ∷ word) h =
    let here = (and_parts (not (b == 32)) (not (b == 10)) (and_parts (not (b == 32) && not (b == 10)) (is_word word) h).0).1 in
    rw here (word_is_line word (and_parts (not (b == 32) && not (b == 10)) (is_word word) h).1)

pub lines_joined : (a b : List ℕ) → is_line a ≡ true → is_line b ≡ true → is_line (a ++ b) ≡ true
lines_joined [] b h k = k
lines_joined (x ∷ a) b h k =
    let here = (and_parts (not (x == 10)) (is_line a) h).0 in
    rw here (lines_joined a b (and_parts (not (x == 10)) (is_line a) h).1 k)

pub short_number : (n : ℕ) → n < 2 ^ 64 → length (decimal n) ≤ 20
short_number n h = length-decimal-le 20 n (lit< tt) (omega arith) h

-- ---- the first byte of a line

abbrev pub first : List ℕ → ℕ
first [] = 0
first (b ∷ bytes) = b

first_digit : (ds : List ℕ) → AllDigits 10 ds → 0 < length ds → (48 ≤ first ds) × (first ds < 58)
first_digit [] h some = absurd (omega arith)
first_digit (d ∷ ds) h some = let range = digit_at (d ∷ ds) 0 h (omega arith) in (omega arith, omega arith)

pub number_begins : (n : ℕ) → n < 2 ^ 64 → (48 ≤ first (decimal n)) × (first (decimal n) < 58)
number_begins n h = first_digit (decimal n) (decimal_is_IsNumeral n h).0.1 (decimal_nonempty n h)

-- ---- a line of a plan is one line, and short

flaw_small : (flaw : Flaw) → flaw_number flaw < 2 ^ 64
flaw_small CardTooLong = lit< tt
flaw_small ByteNotAllowed = lit< tt
flaw_small JobCard = lit< tt
flaw_small NumberOutOfRange = lit< tt
flaw_small TooManyCards = lit< tt
flaw_small AccountUnknown = lit< tt
flaw_small LibraryUnknown = lit< tt
flaw_small LibraryIllFormed = lit< tt

pub flaw_fits : (flaw : Flaw) → flaw_number flaw < 2 ^ 64
flaw_fits flaw = flaw_small flaw

pub said_is_line : (line : Line) → IsSaid line → is_line (line_text line) ≡ true
said_is_line (Night chains) h = lines_joined (codes "NIGHT 1 CHAINS ") (decimal chains) refl (number_is_line chains (omega arith))
said_is_line (Opened account) (word, fits) =
    lines_joined (codes "ACCOUNT ") (account.name ++ 32 ∷ decimal account.opening) refl
    (lines_joined account.name (32 ∷ decimal account.opening) (word_is_line account.name word.whole) (number_is_line account.opening fits))
said_is_line (Window number) h = lines_joined (codes "WINDOW ") (decimal number) refl (number_is_line number (omega arith))
said_is_line (Listed (Job chain)) h = number_is_line (chain + 1) (omega arith)
said_is_line (Listed (Refused flaw name account_name)) (word, account) =
    lines_joined (codes "REFUSED ") (decimal (flaw_number flaw) ++ 32 ∷ (name ++ 32 ∷ account_name)) refl
    (lines_joined (decimal (flaw_number flaw)) (32 ∷ (name ++ 32 ∷ account_name)) (number_is_line (flaw_number flaw) (flaw_fits flaw))
    (lines_joined name (32 ∷ account_name) (word_is_line name word.whole) (word_is_line account_name account.whole)))
said_is_line (Stray count) h = lines_joined (codes "STRAY ") (decimal count) refl (number_is_line count h)

pub said_short : (line : Line) → IsSaid line → length (line_text line) ≤ 256
said_short (Night chains) h = omega (arith, length-append (codes "NIGHT 1 CHAINS ") (decimal chains), short_number chains (omega arith))
said_short (Opened account) (word, fits) =
    omega (arith, word.short, length-append (codes "ACCOUNT ") (account.name ++ 32 ∷ decimal account.opening), length-append account.name (32 ∷ decimal account.opening), short_number account.opening fits)
said_short (Window number) h = omega (arith, length-append (codes "WINDOW ") (decimal number), short_number number (omega arith))
said_short (Listed (Job chain)) h = omega (arith, short_number (chain + 1) (omega arith))
said_short (Listed (Refused flaw name account_name)) (word, account) =
    omega (
      arith,
      word.short,
      account.short,
      length-append (codes "REFUSED ") (decimal (flaw_number flaw) ++ 32 ∷ (name ++ 32 ∷ account_name)),
      length-append (decimal (flaw_number flaw)) (32 ∷ (name ++ 32 ∷ account_name)),
      length-append name (32 ∷ account_name),
      short_number (flaw_number flaw) (flaw_fits flaw),
    )
said_short (Stray count) h = omega (arith, length-append (codes "STRAY ") (decimal count), short_number count h)

-- a line with its line feed, before what follows
pub fed_is : (line : Line) (rest : List ℕ) → fed line ++ rest ≡ line_text line ++ 10 ∷ rest
fed_is line rest = append_assoc (line_text line) (10 ∷ []) rest

-- ---- which line it is, by its first byte

pub is_night : (text : List ℕ) (r : Option Line) → first text ≡ 78 → ((n : ℕ) → IsSaid (Night n) → text ≡ line_text (Night n) → r ≡ Some (Night n))
    → (line : Line) → IsSaid line → text ≡ line_text line → r ≡ Some line
is_night text r f h (Night n) said e = h n said e
is_night text r f h (Opened account) said e = (let same : first text ≡ 65 = ap first e in absurd (omega (arith, f, same)))
is_night text r f h (Window n) said e = (let same : first text ≡ 87 = ap first e in absurd (omega (arith, f, same)))
is_night text r f h (Listed (Job c)) said e = let digit = number_begins (c + 1) (omega arith) in let same : first text ≡ first (decimal (c + 1)) = ap first e in absurd (omega (arith, digit.0, digit.1, same, f))
is_night text r f h (Listed (Refused flaw name account_name)) said e = (let same : first text ≡ 82 = ap first e in absurd (omega (arith, f, same)))
is_night text r f h (Stray n) said e = (let same : first text ≡ 83 = ap first e in absurd (omega (arith, f, same)))

pub is_opened : (text : List ℕ) (r : Option Line) → first text ≡ 65 → ((a : Account) → IsSaid (Opened a) → text ≡ line_text (Opened a) → r ≡ Some (Opened a))
    → (line : Line) → IsSaid line → text ≡ line_text line → r ≡ Some line
is_opened text r f h (Night n) said e = (let same : first text ≡ 78 = ap first e in absurd (omega (arith, f, same)))
is_opened text r f h (Opened account) said e = h account said e
is_opened text r f h (Window n) said e = (let same : first text ≡ 87 = ap first e in absurd (omega (arith, f, same)))
is_opened text r f h (Listed (Job c)) said e = let digit = number_begins (c + 1) (omega arith) in let same : first text ≡ first (decimal (c + 1)) = ap first e in absurd (omega (arith, digit.0, digit.1, same, f))
is_opened text r f h (Listed (Refused flaw name account_name)) said e = (let same : first text ≡ 82 = ap first e in absurd (omega (arith, f, same)))
is_opened text r f h (Stray n) said e = (let same : first text ≡ 83 = ap first e in absurd (omega (arith, f, same)))

pub is_window : (text : List ℕ) (r : Option Line) → first text ≡ 87 → ((n : ℕ) → IsSaid (Window n) → text ≡ line_text (Window n) → r ≡ Some (Window n))
    → (line : Line) → IsSaid line → text ≡ line_text line → r ≡ Some line
is_window text r f h (Night n) said e = (let same : first text ≡ 78 = ap first e in absurd (omega (arith, f, same)))
is_window text r f h (Opened account) said e = (let same : first text ≡ 65 = ap first e in absurd (omega (arith, f, same)))
is_window text r f h (Window n) said e = h n said e
is_window text r f h (Listed (Job c)) said e = let digit = number_begins (c + 1) (omega arith) in let same : first text ≡ first (decimal (c + 1)) = ap first e in absurd (omega (arith, digit.0, digit.1, same, f))
is_window text r f h (Listed (Refused flaw name account_name)) said e = (let same : first text ≡ 82 = ap first e in absurd (omega (arith, f, same)))
is_window text r f h (Stray n) said e = (let same : first text ≡ 83 = ap first e in absurd (omega (arith, f, same)))

pub is_refused : (text : List ℕ) (r : Option Line) → first text ≡ 82
    → ((flaw : Flaw) (name account_name : List ℕ) → IsSaid (Listed (Refused flaw name account_name)) → text ≡ line_text (Listed (Refused flaw name account_name)) → r ≡ Some (Listed (Refused flaw name account_name)))
    → (line : Line) → IsSaid line → text ≡ line_text line → r ≡ Some line
is_refused text r f h (Night n) said e = (let same : first text ≡ 78 = ap first e in absurd (omega (arith, f, same)))
is_refused text r f h (Opened account) said e = (let same : first text ≡ 65 = ap first e in absurd (omega (arith, f, same)))
is_refused text r f h (Window n) said e = (let same : first text ≡ 87 = ap first e in absurd (omega (arith, f, same)))
is_refused text r f h (Listed (Job c)) said e = let digit = number_begins (c + 1) (omega arith) in let same : first text ≡ first (decimal (c + 1)) = ap first e in absurd (omega (arith, digit.0, digit.1, same, f))
is_refused text r f h (Listed (Refused flaw name account_name)) said e = h flaw name account_name said e
is_refused text r f h (Stray n) said e = (let same : first text ≡ 83 = ap first e in absurd (omega (arith, f, same)))

pub is_stray : (text : List ℕ) (r : Option Line) → first text ≡ 83 → ((n : ℕ) → IsSaid (Stray n) → text ≡ line_text (Stray n) → r ≡ Some (Stray n))
    → (line : Line) → IsSaid line → text ≡ line_text line → r ≡ Some line
is_stray text r f h (Night n) said e = (let same : first text ≡ 78 = ap first e in absurd (omega (arith, f, same)))
is_stray text r f h (Opened account) said e = (let same : first text ≡ 65 = ap first e in absurd (omega (arith, f, same)))
is_stray text r f h (Window n) said e = (let same : first text ≡ 87 = ap first e in absurd (omega (arith, f, same)))
is_stray text r f h (Listed (Job c)) said e = let digit = number_begins (c + 1) (omega arith) in let same : first text ≡ first (decimal (c + 1)) = ap first e in absurd (omega (arith, digit.0, digit.1, same, f))
is_stray text r f h (Listed (Refused flaw name account_name)) said e = (let same : first text ≡ 82 = ap first e in absurd (omega (arith, f, same)))
is_stray text r f h (Stray n) said e = h n said e

-- by none of these
pub is_job : (text : List ℕ) (r : Option Line) (b : ℕ) → first text ≡ b → (b ≡ 78 → ⊥) → (b ≡ 65 → ⊥) → (b ≡ 87 → ⊥) → (b ≡ 82 → ⊥) → (b ≡ 83 → ⊥)
    → ((c : ℕ) → IsSaid (Listed (Job c)) → text ≡ line_text (Listed (Job c)) → r ≡ Some (Listed (Job c)))
    → (line : Line) → IsSaid line → text ≡ line_text line → r ≡ Some line
is_job text r b f n a w u s h (Night k) said e = absurd (n (sym f ∙ ap first e))
is_job text r b f n a w u s h (Opened account) said e = absurd (a (sym f ∙ ap first e))
is_job text r b f n a w u s h (Window k) said e = absurd (w (sym f ∙ ap first e))
is_job text r b f n a w u s h (Listed (Job c)) said e = h c said e
is_job text r b f n a w u s h (Listed (Refused flaw name account_name)) said e = absurd (u (sym f ∙ ap first e))
is_job text r b f n a w u s h (Stray k) said e = absurd (s (sym f ∙ ap first e))

-- a line isn't empty
pub some_text : (line : Line) → IsSaid line → line_text line ≡ [] → ⊥
some_text (Night n) said e = cc e
some_text (Opened account) said e = cc e
some_text (Window n) said e = cc e
some_text (Listed (Job c)) said e = omega (arith, decimal_nonempty (c + 1) (omega arith), ap (λ (l : List ℕ). length l) e)
some_text (Listed (Refused flaw name account_name)) said e = cc e
some_text (Stray n) said e = cc e

-- ---- what stands behind a line's first word

pub account_parted : (text rest : List ℕ) (account : Account) → text ≡ codes "ACCOUNT " ++ rest → IsSaid (Opened account) → text ≡ line_text (Opened account)
    → parted 32 rest ≡ Some (account.name, decimal account.opening)
account_parted text rest account e said h =
    let is : rest ≡ account.name ++ 32 ∷ decimal account.opening = append_cancel_left (codes "ACCOUNT ") rest (account.name ++ 32 ∷ decimal account.opening) (sym e ∙ h) in
    ap (parted 32) is ∙ word_parted account.name (decimal account.opening) said.0.whole

pub refusal_parted : (text rest : List ℕ) (flaw : Flaw) (name account_name : List ℕ) → text ≡ codes "REFUSED " ++ rest → text ≡ line_text (Listed (Refused flaw name account_name))
    → parted 32 rest ≡ Some (decimal (flaw_number flaw), name ++ 32 ∷ account_name)
refusal_parted text rest flaw name account_name e h =
    let behind = name ++ 32 ∷ account_name in
    let is : rest ≡ decimal (flaw_number flaw) ++ 32 ∷ behind = append_cancel_left (codes "REFUSED ") rest (decimal (flaw_number flaw) ++ 32 ∷ behind) (sym e ∙ h) in
    ap (parted 32) is ∙ number_parted (flaw_number flaw) behind (flaw_fits flaw)

pub names_parted : (names name account_name : List ℕ) → names ≡ name ++ 32 ∷ account_name → IsWord name → parted 32 names ≡ Some (name, account_name)
names_parted names name account_name e word = ap (parted 32) e ∙ word_parted name account_name word.whole

-- ---- the same lines

pub some_same : {A : Type 0} (x y : A) → Some x ≡ Some y → x ≡ y
some_same x y e = cc e

pub opened_same : (name : List ℕ) (opening : ℕ) (account : Account) → name ≡ account.name → opening ≡ account.opening → Some (Opened (record { name = name; opening = opening })) ≡ Some (Opened account)
opened_same name opening account p q =
    ap (λ (n : List ℕ). Some (Opened (record { name = n; opening = opening }))) p ∙ ap (λ (n : ℕ). Some (Opened (record { name = account.name; opening = n }))) q

pub refused_same : (flaw flaw' : Flaw) (name name' account account' : List ℕ) → flaw ≡ flaw' → name ≡ name' → account ≡ account' → Some (Listed (Refused flaw name account)) ≡ Some (Listed (Refused flaw' name' account'))
refused_same flaw flaw' name name' account account' p q r =
    ap (λ (f : Flaw). Some (Listed (Refused f name account))) p ∙ ap (λ (n : List ℕ). Some (Listed (Refused flaw' n account))) q ∙ ap (λ (a : List ℕ). Some (Listed (Refused flaw' name' a))) r
