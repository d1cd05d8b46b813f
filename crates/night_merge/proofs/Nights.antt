-- A night, from its plan's first line to its closing lines.
use Rattle.std.proofs.Common.{◌≡◌, ℕ, zero, suc, ◌+◌, ◌<◌, List, [], ◌∷◌, ◌++◌, Option, Some, Result, IfErr, IsErrAnd, codes, decimal, length, map, slice_get, slice_index, refl, sym, ap, ◌∙◌, arith, subst, append-nil}
use Rattle.std.specs.Prelude.{⊤}
use Rattle.std.specs.Io.KnownBytes.{Appends, prepend_known}
use Rattle.std.proofs.KnownBytes.{Appends-trans}
use Rattle.std.proofs.lemmas.List.{length-map}
use Rattle.deck_reader.specs.declared.batch.Account.{Account}
use Rattle.night_merge.specs.declared.plan.Entry.{Entry}
use Rattle.night_merge.specs.declared.plan.Line.{Line}
use Rattle.night_merge.specs.declared.plan.Line.TheVariants.{Night}
use Rattle.night_merge.specs.declared.shelf.Part.{Part}
use Rattle.night_merge.specs.Closing.{HasLeft}
use Rattle.night_merge.specs.Nights.{AreWindows, night_text, windows_joined}
use Rattle.night_merge.specs.Plan.{Plan, accounts_text, fed, first_line, lines_behind, plan_text}
use Rattle.night_merge.specs.Texts.{balance_lines, balances_file, closing, closing_line, closing_lines, heading}
use Rattle.night_merge.specs.Writing.{AppendsPrefix, WroteUpTo}
use Rattle.night_merge.proofs.Results.{match_this}
use Rattle.night_merge.proofs.Windows.{plan_begins}
use Rattle.night_merge.proofs.Written.{all_left, piece_more, prefix_more, prefix_written}

-- an error that was handed on is the one that it was
pub stopped : {T E : Type 0} (r : Result T E) (error : E) (Q : E → Type 0) → IsErrAnd r (λ e. e ≡ error) → Q error → IfErr r Q
stopped r error Q is holds = match_this r error (λ x. ⊤) Q is holds

-- ---- the plan

-- before anything is read, the whole plan is ahead
pub plan_ahead : (view : List ℕ) (left : Option (List ℕ)) (plan : Plan) (more : List ℕ) → view ≡ [] → left ≡ Some (plan_text plan ++ more)
    → prepend_known view left
    ≡ Some (fed (Night plan.chains) ++ (accounts_text plan.accounts ++ (fed (first_line 1 plan.windows plan.stray) ++ (lines_behind 1 plan.windows plan.stray ++ more))))
plan_ahead view left plan more none there =
    ap (λ (v : List ℕ). prepend_known v left) none ∙ ap (prepend_known []) there ∙ ap (λ (t : List ℕ). Some t) (plan_begins plan more)

pub chains_are : (said chains chains' : ℕ) (line : Line) → line ≡ Night said → line ≡ Night chains → chains ≡ chains' → said ≡ chains'
chains_are said chains chains' line is so e = let same : Night said ≡ Night chains = sym is ∙ so in let both : said ≡ chains = cc same in both ∙ e

-- windows of a plan are windows of what was read of it
pub windows_of : (said chains : ℕ) (mine accounts : List Account) (known : Part → Option (List ℕ)) (rests : ℕ → ℕ → List (List ℕ)) (balances : ℕ → ℕ → ℕ) (windows : List (List Entry))
    → said ≡ chains → mine ≡ accounts → AreWindows chains accounts known rests balances 1 windows → AreWindows said mine known rests balances 1 windows
windows_of said chains mine accounts known rests balances windows same are all =
    let C : ℕ → Type 0 = λ n. AreWindows n mine known rests balances 1 windows in
    let A : List Account → Type 0 = λ l. AreWindows chains l known rests balances 1 windows in
    subst C (sym same) (subst A (sym are) all)

-- ---- what the accounts have

openings_left : (accounts : List Account) (balance : ℕ → ℕ) → ((number : ℕ) (account : Account) → slice_get accounts number ≡ Some account → balance number ≡ account.opening)
    → (k : ℕ) → k < length (map (λ (account : Account). account.opening) accounts) → slice_index (map (λ (account : Account). account.opening) accounts) k ≡ balance k
openings_left [] balance opens k within = absurd (omega (arith, within))
openings_left (account ∷ accounts) balance opens zero within = sym (opens zero account refl)
openings_left (account ∷ accounts) balance opens (suc k) within = openings_left accounts (λ n. balance (suc n)) (λ n x there. opens (suc n) x there) k (omega (arith, within))

-- before the first window they have what they open with
pub left_begins : (mine accounts : List Account) (left : List ℕ) (balance : ℕ → ℕ) → mine ≡ accounts → left ≡ map (λ (account : Account). account.opening) mine
    → ((number : ℕ) (account : Account) → slice_get accounts number ≡ Some account → balance number ≡ account.opening) → HasLeft left balance
left_begins mine accounts left balance are is opens =
    let P : List ℕ → Type 0 = λ l. HasLeft l balance in
    subst P (sym (is ∙ ap (map (λ (account : Account). account.opening)) are)) (openings_left accounts balance opens)

pub opened_length : (mine : List Account) (left : List ℕ) → left ≡ map (λ (account : Account). account.opening) mine → length left ≡ length mine
opened_length mine left is = ap (λ (l : List ℕ). length l) is ∙ length-map mine (λ (account : Account). account.opening)

-- lines of accounts go by what these have
closing_lines_same : (f g : ℕ → ℕ) (number : ℕ) (accounts : List Account) → ((k : ℕ) → k < number + length accounts → f k ≡ g k) → closing_lines f number accounts ≡ closing_lines g number accounts
closing_lines_same f g number [] same = refl
closing_lines_same f g number (account ∷ accounts) same =
    ap (λ (n : ℕ). closing_line account.name account.opening n ++ closing_lines f (number + 1) accounts) (same number (omega arith))
    ∙ ap (λ (t : List ℕ). closing_line account.name account.opening (g number) ++ t) (closing_lines_same f g (number + 1) accounts (λ k within. same k (omega (arith, within))))

balance_lines_same : (f g : ℕ → ℕ) (number : ℕ) (accounts : List Account) → ((k : ℕ) → k < number + length accounts → f k ≡ g k) → balance_lines f number accounts ≡ balance_lines g number accounts
balance_lines_same f g number [] same = refl
balance_lines_same f g number (account ∷ accounts) same =
    ap (λ (n : ℕ). account.name ++ (codes " = " ++ (decimal n ++ 10 ∷ balance_lines f (number + 1) accounts))) (same number (omega arith))
    ∙ ap (λ (t : List ℕ). account.name ++ (codes " = " ++ (decimal (g number) ++ 10 ∷ t))) (balance_lines_same f g (number + 1) accounts (λ k within. same k (omega (arith, within))))

pub closing_as : (left : List ℕ) (balance : ℕ → ℕ) (mine accounts : List Account) (count stray : ℕ) → HasLeft left balance → length left ≡ length mine → mine ≡ accounts → count ≡ stray
    → closing (closing_lines (slice_index left) 0 mine) count ≡ closing (closing_lines balance 0 accounts) stray
closing_as left balance mine accounts count stray has long are is =
    ap (λ (t : List ℕ). closing t count) (closing_lines_same (slice_index left) balance 0 mine (λ k within. has k (omega (arith, within, long))))
    ∙ ap (λ (l : List Account). closing (closing_lines balance 0 l) count) are
    ∙ ap (λ (n : ℕ). closing (closing_lines balance 0 accounts) n) is

pub file_as : (left : List ℕ) (balance : ℕ → ℕ) (mine accounts : List Account) → HasLeft left balance → length left ≡ length mine → mine ≡ accounts
    → balances_file (slice_index left) mine ≡ balances_file balance accounts
file_as left balance mine accounts has long are =
    ap (λ (t : List ℕ). codes "[accounts]\n" ++ t) (balance_lines_same (slice_index left) balance 0 mine (λ k within. has k (omega (arith, within, long)))) ∙ ap (balances_file balance) are

-- ---- what is written

-- nothing is
pub nothing_yet : (written : Option (List ℕ)) (text : List ℕ) → AppendsPrefix written written text
nothing_yet written text = prefix_written written written text text (all_left written text)

-- all of a text is
pub whole_prefix : (a b : Option (List ℕ)) (text : List ℕ) → Appends a b text → AppendsPrefix a b text
whole_prefix a b text wrote = prefix_written a b text [] (record { done = text; wrote = wrote; whole = append-nil text })

pub wrote_so : (a b : Option (List ℕ)) (text text' : List ℕ) → text ≡ text' → Appends a b text → Appends a b text'
wrote_so a b text text' e wrote =
    let P : List ℕ → Type 0 = λ t. Appends a b t in
    subst P e wrote

pub prefix_so : (a b : Option (List ℕ)) (text text' : List ℕ) → text ≡ text' → AppendsPrefix a b text → AppendsPrefix a b text'
prefix_so a b text text' e wrote =
    let P : List ℕ → Type 0 = λ t. AppendsPrefix a b t in
    subst P e wrote

-- the heading is, whole or in part
pub heading_on : (a b : Option (List ℕ)) (plan : Plan) (rests : ℕ → ℕ → List (List ℕ)) (left : ℕ → ℕ) → Appends a b heading
    → WroteUpTo a b (night_text plan rests left) (windows_joined 1 1 rests plan.windows ++ closing (closing_lines left 0 plan.accounts) plan.stray)
heading_on a b plan rests left wrote =
    piece_more a a b (night_text plan rests left) heading (windows_joined 1 1 rests plan.windows ++ closing (closing_lines left 0 plan.accounts) plan.stray) (all_left a (night_text plan rests left)) wrote

pub heading_cut : (a b : Option (List ℕ)) (plan : Plan) (rests : ℕ → ℕ → List (List ℕ)) (left : ℕ → ℕ) → AppendsPrefix a b heading → AppendsPrefix a b (night_text plan rests left)
heading_cut a b plan rests left wrote =
    prefix_more a a b (night_text plan rests left) heading (windows_joined 1 1 rests plan.windows ++ closing (closing_lines left 0 plan.accounts) plan.stray) (all_left a (night_text plan rests left)) wrote

-- so are the windows behind it
pub windows_on : (a b c : Option (List ℕ)) (plan : Plan) (rests : ℕ → ℕ → List (List ℕ)) (left : ℕ → ℕ) → Appends a b heading → Appends b c (windows_joined 1 1 rests plan.windows)
    → WroteUpTo a c (night_text plan rests left) (closing (closing_lines left 0 plan.accounts) plan.stray)
windows_on a b c plan rests left wrote more =
    piece_more a b c (night_text plan rests left) (windows_joined 1 1 rests plan.windows) (closing (closing_lines left 0 plan.accounts) plan.stray) (heading_on a b plan rests left wrote) more

pub windows_begun : (a b c : Option (List ℕ)) (plan : Plan) (rests : ℕ → ℕ → List (List ℕ)) (left : ℕ → ℕ) → Appends a b heading → AppendsPrefix b c (windows_joined 1 1 rests plan.windows)
    → AppendsPrefix a c (night_text plan rests left)
windows_begun a b c plan rests left wrote more =
    prefix_more a b c (night_text plan rests left) (windows_joined 1 1 rests plan.windows) (closing (closing_lines left 0 plan.accounts) plan.stray) (heading_on a b plan rests left wrote) more

-- and the last piece of a text
pub last_on : (a b c : Option (List ℕ)) (text piece : List ℕ) → WroteUpTo a b text piece → Appends b c piece → Appends a c text
last_on a b c text piece so_far more =
    let P : List ℕ → Type 0 = λ t. Appends a c t in
    subst P so_far.whole (Appends-trans a b c so_far.done piece so_far.wrote more)

pub last_cut : (a b c : Option (List ℕ)) (text piece : List ℕ) → WroteUpTo a b text piece → AppendsPrefix b c piece → AppendsPrefix a c text
last_cut a b c text piece so_far more =
    let P : List ℕ → Type 0 = λ t. WroteUpTo a b text t in
    prefix_more a b c text piece [] (subst P (sym (append-nil piece)) so_far) more
