-- The lines of a plan, as they are read one after the other.
use Rattle.std.proofs.Common.{◌≡◌, ℕ, ◌≤◌, true, List, [], ◌∷◌, ◌++◌, Option, Some, length, sym, ap, ◌∙◌, arith, append_assoc, append-nil, length-append, subst}
use Rattle.deck_reader.specs.declared.batch.Account.{Account}
use Rattle.night_merge.specs.declared.plan.Entry.{Entry}
use Rattle.night_merge.specs.declared.plan.Line.{Line}
use Rattle.night_merge.specs.declared.plan.Line.TheVariants.{Opened, Listed}
use Rattle.night_merge.specs.Plan.{AreListed, AreOpened, IsSaid, accounts_text, entries_text, fed}
use Rattle.night_merge.specs.Reading.{ends_accounts, ends_entries}

-- a line was read, as what is ahead begins
abbrev pub NextIs : Option (List ℕ) → Option (List ℕ) → Line → Type 0
NextIs ahead behind read = (line : Line) (rest : List ℕ) → IsSaid line → ahead ≡ Some (fed line ++ rest) → (read ≡ line) × (behind ≡ Some rest)

pub next_so : (ahead behind : Option (List ℕ)) (read said : Line) → read ≡ said → NextIs ahead behind read → NextIs ahead behind said
next_so ahead behind read said e next = λ line rest fit there. let so = next line rest fit there in (sym e ∙ so.0, so.1)

-- ---- accounts that are read one after the other

-- so many accounts were read; the rest of them, and the line that ends them, is still ahead
pub record StillOpened (xs : List Account) (line : Line) (rest : List ℕ) (so_far : List Account) (ahead : Option (List ℕ)) : Type 0 where
  pub more : List Account
  pub whole : xs ≡ so_far ++ more
  pub said : AreOpened more
  pub there : ahead ≡ Some (accounts_text more ++ (fed line ++ rest))

pub accounts_begin : (xs : List Account) (line : Line) (rest : List ℕ) (so_far : List Account) (ahead : Option (List ℕ)) → so_far ≡ [] → AreOpened xs → ahead ≡ Some (accounts_text xs ++ (fed line ++ rest))
    → StillOpened xs line rest so_far ahead
accounts_begin xs line rest so_far ahead none said there = record { more = xs; whole = ap (λ (l : List Account). l ++ xs) (sym none); said = said; there = there }

accounts_first : (more : List Account) (x : Account) (line : Line) (rest : List ℕ) → accounts_text (x ∷ more) ++ (fed line ++ rest) ≡ fed (Opened x) ++ (accounts_text more ++ (fed line ++ rest))
accounts_first more x line rest = append_assoc (fed (Opened x)) (accounts_text more) (fed line ++ rest)

-- the next one is read
accounts_more_by : (xs : List Account) (line : Line) (rest : List ℕ) (so_far : List Account) (ahead behind : Option (List ℕ)) (x : Account) (more : List Account)
    → IsSaid line → ends_accounts line ≡ true → NextIs ahead behind (Opened x) → xs ≡ so_far ++ more → AreOpened more → ahead ≡ Some (accounts_text more ++ (fed line ++ rest))
    → StillOpened xs line rest (so_far ++ x ∷ []) behind
accounts_more_by xs line rest so_far ahead behind x [] said ends next whole all there =
    let is : Opened x ≡ line = (next line rest said there).0 in
    absurd (cc (ends, ap ends_accounts is))
accounts_more_by xs line rest so_far ahead behind x (y ∷ more) said ends next whole all there =
    let read = next (Opened y) (accounts_text more ++ (fed line ++ rest)) all.0 (there ∙ ap (λ (t : List ℕ). Some t) (accounts_first more y line rest)) in
    let is : Opened x ≡ Opened y = read.0 in
    let same : x ≡ y = cc in
    record {
      more = more;
      whole = whole ∙ sym (append_assoc so_far (y ∷ []) more) ∙ ap (λ (z : Account). (so_far ++ z ∷ []) ++ more) (sym same);
      said = all.1;
      there = read.1;
    }

pub accounts_more : (xs : List Account) (line : Line) (rest : List ℕ) (so_far grown : List Account) (ahead behind : Option (List ℕ)) (x : Account)
    → IsSaid line → ends_accounts line ≡ true → NextIs ahead behind (Opened x) → grown ≡ so_far ++ x ∷ [] → StillOpened xs line rest so_far ahead → StillOpened xs line rest grown behind
accounts_more xs line rest so_far grown ahead behind x said ends next push still =
    let P : List Account → Type 0 = λ l. StillOpened xs line rest l behind in
    subst P (sym push) (accounts_more_by xs line rest so_far ahead behind x still.more said ends next still.whole still.said still.there)

-- the line that ends them is read
accounts_end_by : (xs : List Account) (line : Line) (rest : List ℕ) (so_far : List Account) (ahead behind : Option (List ℕ)) (read : Line) (more : List Account)
    → IsSaid line → ((x : Account) → read ≡ Opened x → ⊥) → NextIs ahead behind read → xs ≡ so_far ++ more → AreOpened more → ahead ≡ Some (accounts_text more ++ (fed line ++ rest))
    → (so_far ≡ xs) × (read ≡ line) × (behind ≡ Some rest)
accounts_end_by xs line rest so_far ahead behind read [] said other next whole all there =
    let is = next line rest said there in
    (sym (whole ∙ append-nil so_far), is.0, is.1)
accounts_end_by xs line rest so_far ahead behind read (y ∷ more) said other next whole all there =
    absurd (other y (next (Opened y) (accounts_text more ++ (fed line ++ rest)) all.0 (there ∙ ap (λ (t : List ℕ). Some t) (accounts_first more y line rest))).0)

pub accounts_end : (xs : List Account) (line : Line) (rest : List ℕ) (so_far : List Account) (ahead behind : Option (List ℕ)) (read : Line)
    → IsSaid line → ((x : Account) → read ≡ Opened x → ⊥) → NextIs ahead behind read → StillOpened xs line rest so_far ahead → (so_far ≡ xs) × (read ≡ line) × (behind ≡ Some rest)
accounts_end xs line rest so_far ahead behind read said other next still = accounts_end_by xs line rest so_far ahead behind read still.more said other next still.whole still.said still.there

-- some line is ahead
accounts_ahead_by : (line : Line) (rest : List ℕ) (ahead : Option (List ℕ)) (more : List Account) (P : Type 0) → IsSaid line → ((l : Line) (r : List ℕ) → IsSaid l → ahead ≡ Some (fed l ++ r) → P)
    → AreOpened more → ahead ≡ Some (accounts_text more ++ (fed line ++ rest)) → P
accounts_ahead_by line rest ahead [] P said f all there = f line rest said there
accounts_ahead_by line rest ahead (y ∷ more) P said f all there =
    f (Opened y) (accounts_text more ++ (fed line ++ rest)) all.0 (there ∙ ap (λ (t : List ℕ). Some t) (accounts_first more y line rest))

pub accounts_ahead : (xs : List Account) (line : Line) (rest : List ℕ) (so_far : List Account) (ahead : Option (List ℕ)) (P : Type 0) → IsSaid line
    → ((l : Line) (r : List ℕ) → IsSaid l → ahead ≡ Some (fed l ++ r) → P) → StillOpened xs line rest so_far ahead → P
accounts_ahead xs line rest so_far ahead P said f still = accounts_ahead_by line rest ahead still.more P said f still.said still.there

pub accounts_few : (xs : List Account) (line : Line) (rest : List ℕ) (so_far : List Account) (ahead : Option (List ℕ)) → StillOpened xs line rest so_far ahead → length so_far ≤ length xs
accounts_few xs line rest so_far ahead still = omega (arith, ap (λ (l : List Account). length l) still.whole, length-append so_far still.more)

-- ---- jobs that are read one after the other

-- so many jobs were read; the rest of them, and the line that ends them, is still ahead
pub record StillListed (xs : List Entry) (line : Line) (rest : List ℕ) (so_far : List Entry) (ahead : Option (List ℕ)) : Type 0 where
  pub more : List Entry
  pub whole : xs ≡ so_far ++ more
  pub said : AreListed more
  pub there : ahead ≡ Some (entries_text more ++ (fed line ++ rest))

pub entries_begin : (xs : List Entry) (line : Line) (rest : List ℕ) (so_far : List Entry) (ahead : Option (List ℕ)) → so_far ≡ [] → AreListed xs → ahead ≡ Some (entries_text xs ++ (fed line ++ rest))
    → StillListed xs line rest so_far ahead
entries_begin xs line rest so_far ahead none said there = record { more = xs; whole = ap (λ (l : List Entry). l ++ xs) (sym none); said = said; there = there }

entries_first : (more : List Entry) (x : Entry) (line : Line) (rest : List ℕ) → entries_text (x ∷ more) ++ (fed line ++ rest) ≡ fed (Listed x) ++ (entries_text more ++ (fed line ++ rest))
entries_first more x line rest = append_assoc (fed (Listed x)) (entries_text more) (fed line ++ rest)

-- the next one is read
entries_more_by : (xs : List Entry) (line : Line) (rest : List ℕ) (so_far : List Entry) (ahead behind : Option (List ℕ)) (x : Entry) (more : List Entry)
    → IsSaid line → ends_entries line ≡ true → NextIs ahead behind (Listed x) → xs ≡ so_far ++ more → AreListed more → ahead ≡ Some (entries_text more ++ (fed line ++ rest))
    → StillListed xs line rest (so_far ++ x ∷ []) behind
entries_more_by xs line rest so_far ahead behind x [] said ends next whole all there =
    let is : Listed x ≡ line = (next line rest said there).0 in
    absurd (cc (ends, ap ends_entries is))
entries_more_by xs line rest so_far ahead behind x (y ∷ more) said ends next whole all there =
    let read = next (Listed y) (entries_text more ++ (fed line ++ rest)) all.0 (there ∙ ap (λ (t : List ℕ). Some t) (entries_first more y line rest)) in
    let is : Listed x ≡ Listed y = read.0 in
    let same : x ≡ y = cc in
    record {
      more = more;
      whole = whole ∙ sym (append_assoc so_far (y ∷ []) more) ∙ ap (λ (z : Entry). (so_far ++ z ∷ []) ++ more) (sym same);
      said = all.1;
      there = read.1;
    }

pub entries_more : (xs : List Entry) (line : Line) (rest : List ℕ) (so_far grown : List Entry) (ahead behind : Option (List ℕ)) (x : Entry)
    → IsSaid line → ends_entries line ≡ true → NextIs ahead behind (Listed x) → grown ≡ so_far ++ x ∷ [] → StillListed xs line rest so_far ahead → StillListed xs line rest grown behind
entries_more xs line rest so_far grown ahead behind x said ends next push still =
    let P : List Entry → Type 0 = λ l. StillListed xs line rest l behind in
    subst P (sym push) (entries_more_by xs line rest so_far ahead behind x still.more said ends next still.whole still.said still.there)

-- the line that ends them is read
entries_end_by : (xs : List Entry) (line : Line) (rest : List ℕ) (so_far : List Entry) (ahead behind : Option (List ℕ)) (read : Line) (more : List Entry)
    → IsSaid line → ((x : Entry) → read ≡ Listed x → ⊥) → NextIs ahead behind read → xs ≡ so_far ++ more → AreListed more → ahead ≡ Some (entries_text more ++ (fed line ++ rest))
    → (so_far ≡ xs) × (read ≡ line) × (behind ≡ Some rest)
entries_end_by xs line rest so_far ahead behind read [] said other next whole all there =
    let is = next line rest said there in
    (sym (whole ∙ append-nil so_far), is.0, is.1)
entries_end_by xs line rest so_far ahead behind read (y ∷ more) said other next whole all there =
    absurd (other y (next (Listed y) (entries_text more ++ (fed line ++ rest)) all.0 (there ∙ ap (λ (t : List ℕ). Some t) (entries_first more y line rest))).0)

pub entries_end : (xs : List Entry) (line : Line) (rest : List ℕ) (so_far : List Entry) (ahead behind : Option (List ℕ)) (read : Line)
    → IsSaid line → ((x : Entry) → read ≡ Listed x → ⊥) → NextIs ahead behind read → StillListed xs line rest so_far ahead → (so_far ≡ xs) × (read ≡ line) × (behind ≡ Some rest)
entries_end xs line rest so_far ahead behind read said other next still = entries_end_by xs line rest so_far ahead behind read still.more said other next still.whole still.said still.there

-- some line is ahead
entries_ahead_by : (line : Line) (rest : List ℕ) (ahead : Option (List ℕ)) (more : List Entry) (P : Type 0) → IsSaid line → ((l : Line) (r : List ℕ) → IsSaid l → ahead ≡ Some (fed l ++ r) → P)
    → AreListed more → ahead ≡ Some (entries_text more ++ (fed line ++ rest)) → P
entries_ahead_by line rest ahead [] P said f all there = f line rest said there
entries_ahead_by line rest ahead (y ∷ more) P said f all there =
    f (Listed y) (entries_text more ++ (fed line ++ rest)) all.0 (there ∙ ap (λ (t : List ℕ). Some t) (entries_first more y line rest))

pub entries_ahead : (xs : List Entry) (line : Line) (rest : List ℕ) (so_far : List Entry) (ahead : Option (List ℕ)) (P : Type 0) → IsSaid line
    → ((l : Line) (r : List ℕ) → IsSaid l → ahead ≡ Some (fed l ++ r) → P) → StillListed xs line rest so_far ahead → P
entries_ahead xs line rest so_far ahead P said f still = entries_ahead_by line rest ahead still.more P said f still.said still.there

pub entries_few : (xs : List Entry) (line : Line) (rest : List ℕ) (so_far : List Entry) (ahead : Option (List ℕ)) → StillListed xs line rest so_far ahead → length so_far ≤ length xs
entries_few xs line rest so_far ahead still = omega (arith, ap (λ (l : List Entry). length l) still.whole, length-append so_far still.more)
