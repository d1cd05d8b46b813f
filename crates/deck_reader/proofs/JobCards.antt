-- A job card and its parts.
use Rattle.std.proofs.Common.{◌≡◌, ℕ, zero, suc, ◌==◌, ◌&&◌, Bool, true, false, List, [], ◌∷◌, ◌++◌, Option, Some, None, length, take, drop, codes, refl, sym, ap, ◌∙◌, cond, append_assoc, Bor}
use Rattle.std.proofs.lemmas.List.{take-append-drop, take_at, drop_at}
use Rattle.std.proofs.lemmas.List.Splits.{join_with_byte-slice_split}
use Rattle.std.proofs.lemmas.Option.{same_Some}
use Rattle.std.proofs.lemmas.Slice.Eq.{bytes_eq-Decides}
use Rattle.std.specs.List.{join_with_byte}
use Rattle.std.specs.Option.{option_map, MatchOption}
use Rattle.std.specs.Str.{bytes_eq}
use Rattle.deck_reader.specs.declared.forms.JobCard.{JobCard}
use Rattle.deck_reader.specs.declared.options.Settings.{Settings}
use Rattle.deck_reader.specs.Forms.{folded, is_name, ends_a_word, is_control, is_head, stripped, name_of}
use Rattle.deck_reader.specs.JobCards.{fields, job_with, job_of_fields, job_card, counted}
use Rattle.deck_reader.specs.Options.{unset, settings_of, counted_settings}
use Rattle.short_text.specs.Blanks.{blanks}
use Rattle.deck_reader.specs.Texts.{IsWord, IsName, IsField}
use Rattle.deck_reader.specs.CardForms.{IsSettings, IsJobCard, JobCardByParts}
use Rattle.deck_reader.proofs.Fields.{Lacks, fields_of_more}
use Rattle.deck_reader.proofs.Settings.{if_some, both_true, name_lacks, from_is_name, word-length, from_name_of, name_of_is, field_of, field-stripped, field_lacks, from_settings_of, settings_are}

-- a card with a control word is this word and what stands behind it
pub from_is_control : (word card : List ℕ) → is_control word card ≡ true
    → IsWord word (take (length word) card) × (card ≡ take (length word) card ++ drop (length word) card) × (ends_a_word (drop (length word) card) ≡ true)
from_is_control word card h =
    let passed = both_true _ _ h in
    ((bytes_eq-Decides (folded (take (length word) card)) word).0 passed.0, sym (take-append-drop (length word) card), passed.1)

-- a word and a blank behind it are a control word
pub is_control_with : (word text rest : List ℕ) → IsWord word text → is_control word (text ++ 32 ∷ rest) ≡ true
is_control_with word text rest is =
    let len = word-length word text is in
    ap (λ (t : List ℕ). bytes_eq (folded t) word && ends_a_word (drop (length word) (text ++ 32 ∷ rest))) (take_at text (32 ∷ rest) (length word) len)
    ∙ ap (λ (b : Bool). b && ends_a_word (drop (length word) (text ++ 32 ∷ rest))) ((bytes_eq-Decides (folded text) word).1 is)
    ∙ ap ends_a_word (drop_at text (32 ∷ rest) (length word) len)

-- where a name follows a control word, a blank stands between them
pub leading_blank : (before : ℕ) (name more : List ℕ) → is_name name ≡ true → ends_a_word (blanks before ++ (name ++ more)) ≡ true → (n : ℕ) × (before ≡ suc n)
leading_blank (suc n) name more h ends = (n, refl)
leading_blank zero [] more h ends = cc
leading_blank zero (c ∷ cs) more h ends = let other : (c == 32) ≡ false = name_lacks 32 (c ∷ cs) refl h 0 0 (from_is_name (c ∷ cs) h).1 in cc

-- to count a job card is to count its settings
counted-job_with : (name account : Option (List ℕ)) (settings : Option Settings)
    → option_map counted (job_with name account settings) ≡ job_with name account (option_map counted_settings settings)
counted-job_with None account settings = refl
counted-job_with (Some name) None settings = refl
counted-job_with (Some name) (Some account) None = refl
counted-job_with (Some name) (Some account) (Some settings) = refl

job_card_of : (card : List ℕ) → is_head card ≡ true → job_card card ≡ job_of_fields (fields (drop 4 card))
job_card_of card h = ap (λ (b : Bool). cond b (job_of_fields (fields (drop 4 card))) None) h

pub job_with_no_account : (name : Option (List ℕ)) (settings : Option Settings) → job_with name None settings ≡ None
job_with_no_account None settings = refl
job_with_no_account (Some name) settings = refl

pub job_with_no_settings : (name account : Option (List ℕ)) → job_with name account None ≡ None
job_with_no_settings None account = refl
job_with_no_settings (Some name) None = refl
job_with_no_settings (Some name) (Some account) = refl

-- what stands behind a head's control word is one field
pub no_job_card : (card behind name : List ℕ) → (is_head card ≡ true) × (behind ≡ drop 4 card) → fields behind ≡ name ∷ [] → option_map counted (job_card card) ≡ None
no_job_card card behind name begun h =
    ap (option_map counted) (job_card_of card begun.0 ∙ ap (λ (b : List ℕ). job_of_fields (fields b)) (sym begun.1) ∙ ap job_of_fields h)

-- what stands behind a head's control word is a name's field, an account's and settings, which give this
pub record HasFields (card name account : List ℕ) (given : Option Settings) : Type 0 where
  pub settings : List (List ℕ)
  pub begun : is_head card ≡ true
  pub text : fields (drop 4 card) ≡ name ∷ account ∷ settings
  pub gives : given ≡ option_map counted_settings (settings_of settings)

-- the fields as the code takes them off
pub has_fields : (card behind name rest account : List ℕ) (given : Option Settings) (more : Option (Bor (List ℕ)))
    → (is_head card ≡ true) × (behind ≡ drop 4 card)
    → fields behind ≡ name ∷ fields rest
    → MatchOption more (fields rest ≡ account ∷ []) (λ settings. fields rest ≡ account ∷ fields settings.now)
    → MatchOption more (given ≡ Some unset) (λ settings. given ≡ option_map counted_settings (settings_of (fields settings.now)))
    → HasFields card name account given
has_fields card behind name rest account given None begun first second third = record {
  settings = [];
  begun = begun.0;
  text = ap fields (sym begun.1) ∙ first ∙ ap (λ (fs : List (List ℕ)). name ∷ fs) second;
  gives = third;
}
has_fields card behind name rest account given (Some settings) begun first second third = record {
  settings = fields settings.now;
  begun = begun.0;
  text = ap fields (sym begun.1) ∙ first ∙ ap (λ (fs : List (List ℕ)). name ∷ fs) second;
  gives = third;
}

-- a job card as the code counts it
pub counted-job_card : (card name account : List ℕ) (given : Option Settings) → HasFields card name account given
    → option_map counted (job_card card) ≡ job_with (name_of (stripped name)) (name_of (stripped account)) given
counted-job_card card name account given h =
    ap (option_map counted) (job_card_of card h.begun ∙ ap job_of_fields h.text)
    ∙ counted-job_with (name_of (stripped name)) (name_of (stripped account)) (settings_of h.settings)
    ∙ ap (job_with (name_of (stripped name)) (name_of (stripped account))) (sym h.gives)

from_job_with : (name account : Option (List ℕ)) (settings : Option Settings) (job : JobCard) → job_with name account settings ≡ Some job
    → (name ≡ Some job.name) × (account ≡ Some job.account) × (settings ≡ Some job.settings)
from_job_with None account settings job h = cc
from_job_with (Some name) None settings job h = cc
from_job_with (Some name) (Some account) None job h = cc
from_job_with (Some name) (Some account) (Some settings) job h =
    let same = same_Some _ job h in
    (ap (λ (j : JobCard). Some j.name) same, ap (λ (j : JobCard). Some j.account) same, ap (λ (j : JobCard). Some j.settings) same)

-- the parts of what stands behind a job card's control word
record HasJob (behind : List ℕ) (job : JobCard) : Type 0 where
  name : List ℕ
  account : List ℕ
  settings : List ℕ
  text : behind ≡ name ++ 44 ∷ (account ++ settings)
  name_is : IsField (IsName job.name) name
  account_is : IsField (IsName job.account) account
  settings_are : IsSettings job.settings settings

from_job_of_fields : (behind : List ℕ) (fs : List (List ℕ)) (job : JobCard) → behind ≡ join_with_byte 44 fs → job_of_fields fs ≡ Some job → HasJob behind job
from_job_of_fields behind [] job e h = cc
from_job_of_fields behind (name ∷ []) job e h = cc
from_job_of_fields behind (name ∷ account ∷ settings) job e h =
    let parts = from_job_with (name_of (stripped name)) (name_of (stripped account)) (settings_of settings) job h in
    let more = from_settings_of account settings job.settings parts.2 in
    record {
      name = name;
      account = account;
      settings = more.0;
      text = e ∙ ap (λ (r : List ℕ). name ++ 44 ∷ r) more.1;
      name_is = field_of (IsName job.name) name (from_name_of (stripped name) job.name parts.0);
      account_is = field_of (IsName job.account) account (from_name_of (stripped account) job.account parts.1);
      settings_are = more.2;
    }

-- the job's name, with a blank in front
record IsBlankAndName (behind : List ℕ) (job : JobCard) (more : List ℕ) : Type 0 where
  name : List ℕ
  text : behind ≡ 32 ∷ (name ++ more)
  name_is : IsField (IsName job.name) name

blank_and_name : (behind more : List ℕ) (job : JobCard) (name : List ℕ) (f : IsField (IsName job.name) name) → behind ≡ name ++ more → ends_a_word behind ≡ true → IsBlankAndName behind job more
blank_and_name behind more job name f e ends =
    let long : behind ≡ blanks f.before ++ (f.content ++ (blanks f.behind ++ more)) = e ∙ ap (λ (r : List ℕ). r ++ more) f.text ∙ simp append_assoc in
    let blank = leading_blank f.before f.content (blanks f.behind ++ more) f.is.form (sym (ap ends_a_word long) ∙ ends) in
    record {
      name = blanks blank.0 ++ (f.content ++ blanks f.behind);
      text = e ∙ ap (λ (r : List ℕ). r ++ more) (f.text ∙ ap (λ (n : ℕ). blanks n ++ (f.content ++ blanks f.behind)) blank.1);
      name_is = record { before = blank.0; content = f.content; behind = f.behind; text = refl; is = f.is };
    }

from_job_card : (card : List ℕ) (job : JobCard) → job_card card ≡ Some job → IsJobCard card job
from_job_card card job h =
    let begun = if_some (is_head card) (job_of_fields (fields (drop 4 card))) job h in
    let control = from_is_control (codes "%JOB") card begun.0 in
    let parts = from_job_of_fields (drop 4 card) (fields (drop 4 card)) job (sym (join_with_byte-slice_split 44 (drop 4 card))) begun.1 in
    let front = blank_and_name (drop 4 card) (44 ∷ (parts.account ++ parts.settings)) job parts.name parts.name_is parts.text control.2 in
    let more : List ℕ = 32 ∷ (front.name ++ 44 ∷ (parts.account ++ parts.settings)) in
    let text : card ≡ take 4 card ++ more = control.1 ∙ ap (λ (r : List ℕ). take 4 card ++ r) {y = more} front.text in
    record {
      word = take 4 card;
      name = front.name;
      account = parts.account;
      settings = parts.settings;
      text = text;
      word_is = control.0;
      name_is = front.name_is;
      account_is = parts.account_is;
      settings_are = parts.settings_are;
    }

-- a field that is a name gives it
name_in_field : (name : List ℕ) (field : List ℕ) (f : IsField (IsName name) field) → name_of (stripped field) ≡ Some name
name_in_field name field f =
    ap name_of (field-stripped (IsName name) field f (from_is_name f.content f.is.form).1 (name_lacks 32 f.content refl f.is.form)) ∙ name_of_is f.content name f.is

job_card_is : (card : List ℕ) (job : JobCard) → IsJobCard card job → job_card card ≡ Some job
job_card_is card job h =
    let rest = h.name ++ 44 ∷ (h.account ++ h.settings) in
    let named : IsField (IsName job.name) (32 ∷ h.name) = record {
      before = suc h.name_is.before;
      content = h.name_is.content;
      behind = h.name_is.behind;
      text = ap (λ (r : List ℕ). 32 ∷ r) h.name_is.text;
      is = h.name_is.is;
    } in
    let head : is_head card ≡ true = ap is_head h.text ∙ is_control_with (codes "%JOB") h.word rest h.word_is in
    let behind : drop 4 card ≡ 32 ∷ rest = ap (drop 4) h.text ∙ drop_at h.word (32 ∷ rest) 4 (word-length (codes "%JOB") h.word h.word_is) in
    let first : Lacks 44 (32 ∷ h.name) = field_lacks 44 (IsName job.name) (32 ∷ h.name) named refl (name_lacks 44 h.name_is.content refl h.name_is.is.form) in
    let second : Lacks 44 h.account = field_lacks 44 (IsName job.account) h.account h.account_is refl (name_lacks 44 h.account_is.content refl h.account_is.is.form) in
    let more = settings_are h.account h.settings job.settings second h.settings_are in
    job_card_of card head
    ∙ ap (λ (b : List ℕ). job_of_fields (fields b)) behind
    ∙ ap job_of_fields (fields_of_more (32 ∷ h.name) (h.account ++ h.settings) first ∙ ap (λ (fs : List (List ℕ)). (32 ∷ h.name) ∷ fs) more.1)
    ∙ ap (λ (n : Option (List ℕ)). job_with n (name_of (stripped h.account)) (settings_of more.0)) (name_in_field job.name (32 ∷ h.name) named)
    ∙ ap (λ (n : Option (List ℕ)). job_with (Some job.name) n (settings_of more.0)) (name_in_field job.account h.account h.account_is)
    ∙ ap (λ (s : Option Settings). job_with (Some job.name) (Some job.account) s) more.2

pub job_card_by_parts : JobCardByParts
job_card_by_parts card job = (from_job_card card job, job_card_is card job)
