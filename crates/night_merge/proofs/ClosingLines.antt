-- A closing line, as it is read.
use Rattle.std.proofs.Common.{◌≡◌, ℕ, ◌-◌, ◌<◌, ◌≤◌, ◌^◌, List, [], ◌∷◌, ◌++◌, Some, codes, decimal, length, drop, sym, ap, ◌∙◌, arith, append_assoc, append-nil}
use Rattle.std.proofs.lemmas.List.{append_cancel_left}
use Rattle.std.proofs.Math.ListN.{drop_of_length-le}
use Rattle.deck_reader.specs.declared.batch.Account.{Account}
use Rattle.deck_reader.specs.Forms.{parted}
use Rattle.night_merge.specs.Texts.{closing, closing_front, closing_line, closing_lines, closing_title}
use Rattle.night_merge.proofs.Plans.{number_parted}

-- the digits behind a front
pub charges_parted : (text front behind rest : List ℕ) (charges : ℕ) → charges < 2 ^ 64 → text ≡ front ++ behind → text ≡ front ++ (decimal charges ++ 32 ∷ rest) → parted 32 behind ≡ Some (decimal charges, rest)
charges_parted text front behind rest charges fits e h =
    let is : behind ≡ decimal charges ++ 32 ∷ rest = append_cancel_left front behind (decimal charges ++ 32 ∷ rest) (sym e ∙ h) in
    ap (parted 32) is ∙ number_parted charges rest fits

pub line_begins : (name rest : List ℕ) (opening left : ℕ)
    → closing_line name opening left ++ rest ≡ closing_front name opening ++ (decimal (opening - left) ++ 32 ∷ (codes "CLOSING " ++ (decimal left ++ 10 ∷ rest)))
line_begins name rest opening left = simp append_assoc

pub back_to : (opening left : ℕ) → left ≤ opening → opening - (opening - left) ≡ left
back_to opening left less = omega arith

-- a closing line that is written piece by piece
pub pushed_line : (o o1 o2 o3 o4 o5 o6 o7 o8 name : List ℕ) (opening left charges : ℕ) → charges ≡ opening - left → o1 ≡ o ++ name → o2 ≡ o1 ++ codes " OPENING " → o3 ≡ o2 ++ decimal opening
    → o4 ≡ o3 ++ codes " CHARGES " → o5 ≡ o4 ++ decimal charges → o6 ≡ o5 ++ codes " CLOSING " → o7 ≡ o6 ++ decimal left → o8 ≡ o7 ++ 10 ∷ [] → o8 ≡ o ++ closing_line name opening left
pushed_line o o1 o2 o3 o4 o5 o6 o7 o8 name opening left charges e e1 e2 e3 e4 e5 e6 e7 e8 = simp (e8, e7, e6, e5, e4, e3, e2, e1, e, append_assoc)

-- its front
pub pushed_front : (o1 o2 o3 o4 name : List ℕ) (opening : ℕ) → o1 ≡ name → o2 ≡ o1 ++ codes " OPENING " → o3 ≡ o2 ++ decimal opening → o4 ≡ o3 ++ codes " CHARGES " → o4 ≡ closing_front name opening
pushed_front o1 o2 o3 o4 name opening e1 e2 e3 e4 = simp (e4, e3, e2, e1, append_assoc)

-- a line that was written anew stands before what is behind it
pub line_cut : (text line rest behind name : List ℕ) (opening left balance : ℕ) → balance ≡ left → line ≡ closing_line name opening balance → text ≡ line ++ behind → text ≡ closing_line name opening left ++ rest
    → behind ≡ rest
line_cut text line rest behind name opening left balance same is e h =
    append_cancel_left (closing_line name opening left) behind rest
    (sym (e ∙ ap (λ (l : List ℕ). l ++ behind) (is ∙ ap (closing_line name opening) same)) ∙ h)

-- what was charged tells what is left
pub charged_as : (balance opening left : ℕ) → left ≤ opening → Some balance ≡ Some (opening - (opening - left)) → balance ≡ left
charged_as balance opening left less e = let same : balance ≡ opening - (opening - left) = cc e in same ∙ back_to opening left less

-- the closing lines of all accounts, and the last line
pub closing_ends : (left : ℕ → ℕ) (at : ℕ) (accounts : List Account) (out o1 o2 o3 : List ℕ) (stray : ℕ) → length accounts ≤ at
    → out ++ closing_lines left at (drop at accounts) ≡ closing_title ++ closing_lines left 0 accounts → o1 ≡ out ++ codes "STRAY CARDS " → o2 ≡ o1 ++ decimal stray → o3 ≡ o2 ++ 10 ∷ []
    → o3 ≡ closing (closing_lines left 0 accounts) stray
closing_ends left at accounts out o1 o2 o3 stray past all e1 e2 e3 =
    let is : out ≡ closing_title ++ closing_lines left 0 accounts = sym (append-nil out) ∙ ap (λ (l : List Account). out ++ closing_lines left at l) (sym (drop_of_length-le accounts past)) ∙ all in
    simp (e3, e2, e1, is, append_assoc)
