-- Variables and arrays are declared name by name.
use Rattle.std.proofs.Common.{◌≡◌, ℕ, zero, suc, ◌+◌, ◌<◌, ◌≤◌, List, [], ◌∷◌, drop, length, map, refl, sym, ap, ◌∙◌, subst}
use Rattle.std.specs.Prelude.{slice_index_or}
use Rattle.std.proofs.lemmas.List.{drop_all, get_or_default}
use Rattle.value_ops.specs.declared.places.Place.{Place}
use Rattle.value_ops.specs.declared.values.SimpleType.{SimpleType}
use Rattle.algolw_typing.specs.Known.{KnowsDeclared}
use Rattle.algolw_typing.specs.ProgramView.{numbered, targets_view}
use Rattle.program_meaning.specs.Phrases.{Name}
use Rattle.program_meaning.specs.Translating.{names_at, text_at}
use Rattle.phrase_code.specs.Coding.{◌▸◌, declare_arrays_code, declare_code, one}
use Rattle.stack_code.specs.Code as code
use Rattle.stack_code.specs.CodeView.{InstrFits, KindFits, kind_view, text_view}
use Rattle.stack_code.specs.Instr as instr
use Rattle.stack_code.specs.declared.instructions.Instr.TheVariants as held
use Rattle.symbol_table.specs.declared.here.Here.{Here}
use Rattle.symbol_table.specs.Contexts.{Scene, SceneFits, info_of, numbers_in, phrase_context}
use Rattle.symbol_table.proofs.Declaring.{next_out}
use Rattle.symbol_table.proofs.Knowing.{name_known}
use Rattle.symbol_table.proofs.Viewing.{name_viewed}
use Rattle.code_emitter.specs.declared.emitter.Emitter.{Emitter}
use Rattle.code_emitter.specs.Appending.{appended}
use Rattle.code_emitter.specs.Forms.{Form}
use Rattle.code_emitter.specs.Parts.{Codes, EmitterFits, none_own, one_in, place_in, scene}
use Rattle.code_emitter.proofs.Composing.{fits_there}
use Rattle.code_emitter.proofs.Joining.{codes_is, codes_plain}
use Rattle.code_emitter.proofs.Remaining.{Remains, remains_none, remains_part}

-- an item of a list is there, whatever were past its end
pub item_there : {X : Type 0} (xs : List X) (i : ℕ) (d : X) → i < length xs → slice_index_or xs i d ≡ slice_index_or xs i (slice_index_or xs i d)
item_there xs i d l = get_or_default xs i d (slice_index_or xs i d) l

-- names that are declared, as phrases have them
abbrev pub names_in : Scene → List (ℕ × Place) → List Name
names_in s xs = names_at (phrase_context s) (targets_view (numbers_in s) xs)

-- each of them is one of the table
abbrev pub AreKnown : Scene → List (ℕ × Place) → Type 0
AreKnown s xs = KnowsDeclared (numbers_in s).names (targets_view (numbers_in s) xs)

-- what is left of variables, and of arrays
abbrev pub left_variables : Here → List (ℕ × Place) → Form
left_variables here xs s k ts = declare_code (place_in s here) (names_in s xs)

abbrev pub left_arrays : Here → SimpleType → List (ℕ × Place) → Form
left_arrays here t xs s k ts = declare_arrays_code (place_in s here) (kind_view s.given t) (names_in s xs)

left_known : (s : Scene) (xs : List (ℕ × Place)) (n : ℕ) → AreKnown s xs → AreKnown s (drop n xs)
left_known s xs zero h = h
left_known s [] (suc n) h = h
left_known s (x ∷ xs) (suc n) h = left_known s xs n h.1

-- the number of one of them is one of the table
pub listed_known : (s : Scene) (xs : List (ℕ × Place)) (i : ℕ) (x : ℕ × Place) → SceneFits s → AreKnown s xs → i < length xs → x ≡ slice_index_or xs i x → x.0 < length s.given.names
listed_known s xs i x fits k l is =
    let first : AreKnown s (x ∷ drop (i + 1) xs) = subst (AreKnown s) (next_out xs i x l is) (left_known s xs i k) in
    name_known s fits x.0 first.0

-- it is written as the table has it
pub text_written : (s : Scene) (n : ℕ) → SceneFits s → n < length s.given.names → text_at (map info_of s.given.names) (numbered (numbers_in s).names n) ≡ text_view s.given n
text_written s n fits l = ap (λ (x : Name). x.text) (name_viewed s fits (phrase_context s) refl n l)

-- ---- variables

module _ {a now : Emitter} {whole : List ℕ → List code.Coded} {rest : Form} {marked left m : ℕ} (xs : List (ℕ × Place)) (i : ℕ) (x : ℕ × Place) (fits : EmitterFits a) (k : AreKnown (scene a) xs) (l : i < length xs) (is : x ≡ slice_index_or xs i x) where
  pub variable_fits : Remains none_own a now whole rest marked left m → InstrFits now.code.given now.code.added (held.Declare x.0)
  variable_fits r = fits_there (held.Declare x.0) r.stays (listed_known (scene a) xs i x fits.scene k l is)

  pub array_fits : (t : SimpleType) → KindFits a.code.given t → Remains none_own a now whole rest marked left m → InstrFits now.code.given now.code.added (held.DeclareArray t x.0)
  array_fits t kind r = fits_there (held.DeclareArray t x.0) r.stays (kind, listed_known (scene a) xs i x fits.scene k l is)

-- and so it is where nothing more is known of names
written_there : (a now : Emitter) (xs : List (ℕ × Place)) (i : ℕ) (x : ℕ × Place) → EmitterFits a → AreKnown (scene a) xs → i < length xs → x ≡ slice_index_or xs i x → scene now ≡ scene a → text_at (map info_of now.code.given.names) (numbered (numbers_in (scene now)).names x.0) ≡ text_view now.code.given x.0
written_there a now xs i x fits k l is e =
    let there : Scene → Type 0 = λ (s : Scene). text_at (map info_of s.given.names) (numbered (numbers_in s).names x.0) ≡ text_view s.given x.0 in
    subst there (sym e) (text_written (scene a) x.0 fits.scene (listed_known (scene a) xs i x fits.scene k l is))

module _ {a now after : Emitter} {whole : List ℕ → List code.Coded} (here : Here) (xs : List (ℕ × Place)) (i : ℕ) (x : ℕ × Place) (fits : EmitterFits a) (k : AreKnown (scene a) xs) (l : i < length xs) (is : x ≡ slice_index_or xs i x) where
  pub variable_more : Remains none_own a now whole (left_variables here (drop i xs)) 0 0 0 → after ≡ appended now here (held.Declare x.0) → Remains none_own a after whole (left_variables here (drop (i + 1) xs)) 0 0 0
  variable_more r e =
      let s : Scene = scene now in
      let rest : List (ℕ × Place) = drop (i + 1) xs in
      remains_part (λ s k ts. one_in s here ts (held.Declare x.0)) (left_variables here rest) 0 refl
      (λ ts.
      ap (λ ys. declare_code (place_in s here) (names_in s ys)) (next_out xs i x l is)
      ∙ ap (λ text. one (place_in s here) (instr.Declare text) ▸ declare_code (place_in s here) (names_in s rest)) (written_there a now xs i x fits k l is r.stays.scene))
      r (codes_is e (codes_plain none_own now here (held.Declare x.0) r.stays.fits (variable_fits xs i x fits k l is r) refl))

  pub array_more : (t : SimpleType) → KindFits a.code.given t → Remains none_own a now whole (left_arrays here t (drop i xs)) 0 0 0 → after ≡ appended now here (held.DeclareArray t x.0) → Remains none_own a after whole (left_arrays here t (drop (i + 1) xs)) 0 0 0
  array_more t kind r e =
      let s : Scene = scene now in
      let rest : List (ℕ × Place) = drop (i + 1) xs in
      remains_part (λ s k ts. one_in s here ts (held.DeclareArray t x.0)) (left_arrays here t rest) 0 refl
      (λ ts.
      ap (λ ys. declare_arrays_code (place_in s here) (kind_view s.given t) (names_in s ys)) (next_out xs i x l is)
      ∙ ap (λ text. one (place_in s here) (instr.DeclareArray (kind_view s.given t) text) ▸ declare_arrays_code (place_in s here) (kind_view s.given t) (names_in s rest)) (written_there a now xs i x fits k l is r.stays.scene))
      r (codes_is e (codes_plain none_own now here (held.DeclareArray t x.0) r.stays.fits (array_fits xs i x fits k l is t kind r) refl))

-- ---- all of them

pub variables_done : {a now : Emitter} {whole : List ℕ → List code.Coded} (here : Here) (xs : List (ℕ × Place)) (i : ℕ) → length xs ≤ i → Remains none_own a now whole (left_variables here (drop i xs)) 0 0 0 → Codes none_own a now whole 0 0
variables_done {a} {now} here xs i l r = remains_none refl (λ ts. ap (λ ys. declare_code (place_in (scene now) here) (names_in (scene now) ys)) (drop_all i xs l)) r

pub arrays_done : {a now : Emitter} {whole : List ℕ → List code.Coded} (here : Here) (t : SimpleType) (xs : List (ℕ × Place)) (i : ℕ) → length xs ≤ i → Remains none_own a now whole (left_arrays here t (drop i xs)) 0 0 0 → Codes none_own a now whole 0 0
arrays_done {a} {now} here t xs i l r = remains_none refl (λ ts. ap (λ ys. declare_arrays_code (place_in (scene now) here) (kind_view (scene now).given t) (names_in (scene now) ys)) (drop_all i xs l)) r
