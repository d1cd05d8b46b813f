-- The windows of a night, one after the other.
use Rattle.std.proofs.Common.{◌≡◌, ℕ, ◌+◌, ◌<◌, ◌≤◌, ◌^◌, List, [], ◌∷◌, ◌++◌, Option, Some, true, length, refl, sym, ap, ◌∙◌, arith, lit<, subst, append_assoc, append-nil}
use Rattle.std.specs.Io.KnownBytes.{Appends}
use Rattle.deck_reader.specs.declared.batch.Account.{Account}
use Rattle.night_merge.specs.declared.plan.Entry.{Entry}
use Rattle.night_merge.specs.declared.plan.Line.{Line}
use Rattle.night_merge.specs.declared.plan.Line.TheVariants.{Night, Window, Stray}
use Rattle.night_merge.specs.declared.shelf.Part.{Part}
use Rattle.night_merge.specs.Closing.{HasLeft}
use Rattle.night_merge.specs.Joining.{IsWindow, joined}
use Rattle.night_merge.specs.Nights.{AreWindows, windows_joined}
use Rattle.night_merge.specs.Plan.{AreListed, IsSaid, Plan, accounts_text, entries_text, fed, first_line, lines_behind, plan_text, windows_text}
use Rattle.night_merge.specs.Reading.{ends_accounts, ends_entries}
use Rattle.night_merge.specs.Stops.{AgreeBefore}
use Rattle.night_merge.specs.Writing.{AppendsPrefix, WroteUpTo}
use Rattle.night_merge.proofs.Written.{all_left, all_written, piece_more, prefix_more, prefix_written}

-- the lines of windows and the last line begin with the first of them
pub begins_with : (number : ℕ) (windows : List (List Entry)) (stray : ℕ) → windows_text number windows ++ fed (Stray stray) ≡ fed (first_line number windows stray) ++ lines_behind number windows stray
begins_with number [] stray = sym (append-nil (fed (Stray stray)))
begins_with number (entries ∷ windows) stray =
    append_assoc (fed (Window number)) (entries_text entries ++ windows_text (number + 1) windows) (fed (Stray stray))
    ∙ ap (λ (t : List ℕ). fed (Window number) ++ t) (append_assoc (entries_text entries) (windows_text (number + 1) windows) (fed (Stray stray)))

-- the lines of a window's jobs end with the first line of the windows behind it
pub window_read : (number : ℕ) (entries : List Entry) (windows : List (List Entry)) (stray : ℕ) (more : List ℕ)
    → lines_behind number (entries ∷ windows) stray ++ more ≡ entries_text entries ++ (fed (first_line (number + 1) windows stray) ++ (lines_behind (number + 1) windows stray ++ more))
window_read number entries windows stray more =
    append_assoc (entries_text entries) (windows_text (number + 1) windows ++ fed (Stray stray)) more
    ∙ ap (λ (t : List ℕ). entries_text entries ++ (t ++ more)) (begins_with (number + 1) windows stray)
    ∙ ap (λ (t : List ℕ). entries_text entries ++ t) (append_assoc (fed (first_line (number + 1) windows stray)) (lines_behind (number + 1) windows stray) more)

pub first_said : (number : ℕ) (windows : List (List Entry)) (stray : ℕ) → number < 2 ^ 32 → stray < 2 ^ 64 → IsSaid (first_line number windows stray)
first_said number [] stray few small = small
first_said number (entries ∷ windows) stray few small = few

pub first_ends : (number : ℕ) (windows : List (List Entry)) (stray : ℕ) → (ends_entries (first_line number windows stray) ≡ true) × (ends_accounts (first_line number windows stray) ≡ true)
first_ends number [] stray = (refl, refl)
first_ends number (entries ∷ windows) stray = (refl, refl)

-- ---- the windows one after the other

pub agree_earlier : (seen known : Part → Option (List ℕ)) (number : ℕ) → AgreeBefore seen known (number + 1) → AgreeBefore seen known number
agree_earlier seen known number agree = λ part early. agree part (omega (arith, early))

pub agree_alone : (known : Part → Option (List ℕ)) (number : ℕ) → AgreeBefore known known number
agree_alone known number = λ part early. refl

-- these windows are still ahead; where the listings so far are the seen ones, those before them are written, and the accounts have what they have left
pub record StillWindows (chains : ℕ) (accounts : List Account) (seen known : Part → Option (List ℕ)) (rests : ℕ → ℕ → List (List ℕ)) (balances : ℕ → ℕ → ℕ) (windows : List (List Entry)) (stray : ℕ)
    (tail : List ℕ) (number first : ℕ) (line : Line) (ahead : Option (List ℕ)) (left : List ℕ) (old new : Option (List ℕ)) : Type 0 where
  pub low : 0 < number
  pub more : List (List Entry)
  pub next : line ≡ first_line number more stray
  pub there : ahead ≡ Some (lines_behind number more stray ++ tail)
  pub count : number + length more ≡ 1 + length windows
  pub are : AreWindows chains accounts seen rests balances number more
  pub has : AgreeBefore seen known number → HasLeft left (balances number)
  pub wrote : AgreeBefore seen known number → WroteUpTo old new (windows_joined 1 1 rests windows) (windows_joined number first rests more)

pub windows_begin : (chains : ℕ) (accounts : List Account) (seen known : Part → Option (List ℕ)) (rests : ℕ → ℕ → List (List ℕ)) (balances : ℕ → ℕ → ℕ) (windows : List (List Entry)) (stray : ℕ) (tail : List ℕ)
    (line : Line) (ahead : Option (List ℕ)) (left : List ℕ) (written : Option (List ℕ)) → line ≡ first_line 1 windows stray → ahead ≡ Some (lines_behind 1 windows stray ++ tail)
    → HasLeft left (balances 1) → AreWindows chains accounts seen rests balances 1 windows
    → StillWindows chains accounts seen known rests balances windows stray tail 1 1 line ahead left written written
windows_begin chains accounts seen known rests balances windows stray tail line ahead left written next there has are = record {
  low = lit< tt;
  more = windows;
  next = next;
  there = there;
  count = refl;
  are = are;
  has = λ agree. has;
  wrote = λ agree. all_left written (windows_joined 1 1 rests windows);
}

-- a window is ahead where a window's line was read
pub record NextWindow (chains : ℕ) (accounts : List Account) (seen known : Part → Option (List ℕ)) (rests : ℕ → ℕ → List (List ℕ)) (balances : ℕ → ℕ → ℕ) (windows : List (List Entry)) (stray : ℕ)
    (tail : List ℕ) (number first : ℕ) (ahead : Option (List ℕ)) (left : List ℕ) (old new : Option (List ℕ)) : Type 0 where
  pub low : 0 < number
  pub entries : List Entry
  pub more : List (List Entry)
  pub listed : AreListed entries
  pub few : length entries ≤ 2000
  pub is : IsWindow chains accounts seen number entries (rests number) (balances number) (balances (number + 1))
  pub others : AreWindows chains accounts seen rests balances (number + 1) more
  pub there : ahead ≡ Some (entries_text entries ++ (fed (first_line (number + 1) more stray) ++ (lines_behind (number + 1) more stray ++ tail)))
  pub count : (number + 1) + length more ≡ 1 + length windows
  pub has : AgreeBefore seen known number → HasLeft left (balances number)
  pub wrote : AgreeBefore seen known number
      → WroteUpTo old new (windows_joined 1 1 rests windows) (joined first (rests number) entries ++ windows_joined (number + 1) (first + length entries) rests more)

next_by : (chains : ℕ) (accounts : List Account) (seen known : Part → Option (List ℕ)) (rests : ℕ → ℕ → List (List ℕ)) (balances : ℕ → ℕ → ℕ) (windows : List (List Entry)) (stray : ℕ) (tail : List ℕ)
    (number first said : ℕ) (ahead : Option (List ℕ)) (left : List ℕ) (old new : Option (List ℕ)) (more : List (List Entry))
    → Window said ≡ first_line number more stray → ahead ≡ Some (lines_behind number more stray ++ tail) → 0 < number → number + length more ≡ 1 + length windows
    → AreWindows chains accounts seen rests balances number more → (AgreeBefore seen known number → HasLeft left (balances number))
    → (AgreeBefore seen known number → WroteUpTo old new (windows_joined 1 1 rests windows) (windows_joined number first rests more))
    → NextWindow chains accounts seen known rests balances windows stray tail number first ahead left old new × (said ≡ number)
next_by chains accounts seen known rests balances windows stray tail number first said ahead left old new [] next there low count are has wrote = absurd (cc next)
next_by chains accounts seen known rests balances windows stray tail number first said ahead left old new (entries ∷ more) next there low count are has wrote = (
  record {
    low = low;
    entries = entries;
    more = more;
    listed = are.0;
    few = are.1;
    is = are.2;
    others = are.3;
    there = there ∙ ap (λ (t : List ℕ). Some t) (window_read number entries more stray tail);
    count = omega (arith, count);
    has = has;
    wrote = wrote;
  },
  cc next,
)

pub next_window : {chains : ℕ} {accounts : List Account} {seen known : Part → Option (List ℕ)} {rests : ℕ → ℕ → List (List ℕ)} {balances : ℕ → ℕ → ℕ} {windows : List (List Entry)} {stray : ℕ} {tail : List ℕ}
    {number first : ℕ} {line : Line} {ahead : Option (List ℕ)} {left : List ℕ} {old new : Option (List ℕ)} (said : ℕ) → line ≡ Window said
    → StillWindows chains accounts seen known rests balances windows stray tail number first line ahead left old new
    → NextWindow chains accounts seen known rests balances windows stray tail number first ahead left old new × (said ≡ number)
next_window said e s = next_by _ _ _ _ _ _ _ _ _ _ _ said _ _ _ _ s.more (sym e ∙ s.next) s.there s.low s.count s.are s.has s.wrote

-- it is written
pub windows_more : (chains : ℕ) (accounts : List Account) (seen known : Part → Option (List ℕ)) (rests : ℕ → ℕ → List (List ℕ)) (balances : ℕ → ℕ → ℕ) (windows : List (List Entry)) (stray : ℕ) (tail : List ℕ)
    (number first : ℕ) (line : Line) (ahead ahead' : Option (List ℕ)) (left left' : List ℕ) (old new new' : Option (List ℕ)) (entries : List Entry)
    → (w : NextWindow chains accounts seen known rests balances windows stray tail number first ahead left old new) → entries ≡ w.entries → line ≡ first_line (number + 1) w.more stray
    → ahead' ≡ Some (lines_behind (number + 1) w.more stray ++ tail)
    → (AgreeBefore seen known (number + 1) → Appends new new' (joined first (rests number) w.entries) × HasLeft left' (balances (number + 1)))
    → StillWindows chains accounts seen known rests balances windows stray tail (number + 1) (first + length entries) line ahead' left' old new'
windows_more chains accounts seen known rests balances windows stray tail number first line ahead ahead' left left' old new new' entries w e next there more = record {
  low = omega arith;
  more = w.more;
  next = next;
  there = there;
  count = w.count;
  are = w.others;
  has = λ agree. (more agree).1;
  wrote = λ agree.
      let text = windows_joined 1 1 rests windows in
      let W : List Entry → Type 0 = λ es. WroteUpTo old new' text (windows_joined (number + 1) (first + length es) rests w.more) in
      subst W (sym e) (piece_more old new new' text (joined first (rests number) w.entries) (windows_joined (number + 1) (first + length w.entries) rests w.more)
      (w.wrote (agree_earlier seen known number agree)) (more agree).0);
}

-- the last line was read
ends_by : (rests : ℕ → ℕ → List (List ℕ)) (balances : ℕ → ℕ → ℕ) (windows : List (List Entry)) (stray said number first : ℕ) (left : List ℕ) (old new : Option (List ℕ)) (more : List (List Entry))
    → Stray said ≡ first_line number more stray → number + length more ≡ 1 + length windows → HasLeft left (balances number)
    → WroteUpTo old new (windows_joined 1 1 rests windows) (windows_joined number first rests more)
    → (said ≡ stray) × Appends old new (windows_joined 1 1 rests windows) × HasLeft left (balances (1 + length windows))
ends_by rests balances windows stray said number first left old new [] next count has wrote =
    let left_so : ℕ → Type 0 = λ n. HasLeft left (balances n) in
    (cc next, all_written old new (windows_joined 1 1 rests windows) wrote, subst left_so (omega (arith, count)) has)
ends_by rests balances windows stray said number first left old new (entries ∷ more) next count has wrote = absurd (cc next)

pub windows_end : {chains : ℕ} {accounts : List Account} {seen known : Part → Option (List ℕ)} (rests : ℕ → ℕ → List (List ℕ)) (balances : ℕ → ℕ → ℕ) (windows : List (List Entry)) {stray : ℕ} {tail : List ℕ}
    {number first : ℕ} {line : Line} {ahead : Option (List ℕ)} {left : List ℕ} {old new : Option (List ℕ)} (said : ℕ) → line ≡ Stray said
    → StillWindows chains accounts seen known rests balances windows stray tail number first line ahead left old new → AgreeBefore seen known number
    → (said ≡ stray) × Appends old new (windows_joined 1 1 rests windows) × HasLeft left (balances (1 + length windows))
windows_end rests balances windows said e s agree = ends_by rests balances windows _ said _ _ _ _ _ s.more (sym e ∙ s.next) s.count (s.has agree) (s.wrote agree)

-- what is written is a front
pub windows_cut : {chains : ℕ} {accounts : List Account} {seen known : Part → Option (List ℕ)} {rests : ℕ → ℕ → List (List ℕ)} {balances : ℕ → ℕ → ℕ} {windows : List (List Entry)} {stray : ℕ} {tail : List ℕ}
    {number first : ℕ} {line : Line} {ahead : Option (List ℕ)} {left : List ℕ} {old new : Option (List ℕ)}
    → StillWindows chains accounts seen known rests balances windows stray tail number first line ahead left old new → AgreeBefore seen known number
    → AppendsPrefix old new (windows_joined 1 1 rests windows)
windows_cut s agree = prefix_written _ _ _ _ (s.wrote agree)

pub window_cut : {chains : ℕ} {accounts : List Account} {seen known : Part → Option (List ℕ)} {rests : ℕ → ℕ → List (List ℕ)} {balances : ℕ → ℕ → ℕ} {windows : List (List Entry)} {stray : ℕ} {tail : List ℕ}
    {number first : ℕ} {ahead : Option (List ℕ)} {left : List ℕ} {old new : Option (List ℕ)} (new' : Option (List ℕ))
    → (w : NextWindow chains accounts seen known rests balances windows stray tail number first ahead left old new) → AgreeBefore seen known number
    → AppendsPrefix new new' (joined first (rests number) w.entries) → AppendsPrefix old new' (windows_joined 1 1 rests windows)
window_cut new' w agree more = prefix_more _ _ new' _ _ _ (w.wrote agree) more

-- a line of another kind isn't read
other_by : (line : Line) (number : ℕ) (more : List (List Entry)) (stray : ℕ) → line ≡ first_line number more stray → ((n : ℕ) → line ≡ Window n → ⊥) → ((n : ℕ) → line ≡ Stray n → ⊥) → ⊥
other_by line number [] stray e no_window no_stray = no_stray stray e
other_by line number (entries ∷ more) stray e no_window no_stray = no_window number e

pub no_other : {chains : ℕ} {accounts : List Account} {seen known : Part → Option (List ℕ)} {rests : ℕ → ℕ → List (List ℕ)} {balances : ℕ → ℕ → ℕ} {windows : List (List Entry)} {stray : ℕ} {tail : List ℕ}
    {number first : ℕ} {line : Line} {ahead : Option (List ℕ)} {left : List ℕ} {old new : Option (List ℕ)}
    → StillWindows chains accounts seen known rests balances windows stray tail number first line ahead left old new
    → ((n : ℕ) → line ≡ Window n → ⊥) → ((n : ℕ) → line ≡ Stray n → ⊥) → ⊥
no_other s no_window no_stray = other_by _ _ s.more _ s.next no_window no_stray

-- ---- a plan

-- a plan begins with how many chains there are, the accounts, and the line behind them
pub plan_begins : (plan : Plan) (more : List ℕ)
    → plan_text plan ++ more
    ≡ fed (Night plan.chains) ++ (accounts_text plan.accounts ++ (fed (first_line 1 plan.windows plan.stray) ++ (lines_behind 1 plan.windows plan.stray ++ more)))
plan_begins plan more =
    append_assoc (fed (Night plan.chains)) (accounts_text plan.accounts ++ (windows_text 1 plan.windows ++ fed (Stray plan.stray))) more
    ∙ ap (λ (t : List ℕ). fed (Night plan.chains) ++ t)
    (append_assoc (accounts_text plan.accounts) (windows_text 1 plan.windows ++ fed (Stray plan.stray)) more
    ∙ ap (λ (t : List ℕ). accounts_text plan.accounts ++ t)
    (ap (λ (t : List ℕ). t ++ more) (begins_with 1 plan.windows plan.stray) ∙ append_assoc (fed (first_line 1 plan.windows plan.stray)) (lines_behind 1 plan.windows plan.stray) more))
