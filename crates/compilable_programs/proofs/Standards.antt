-- A name of a standard procedure stands in a statement.
use Rattle.std.proofs.Common.{◌≡◌, ℕ, List, [], ◌∷◌, ◌++◌, refl, sym, subst, ◌∙◌, inl, inr}
use Rattle.std.proofs.lemmas.Bool.{or_cases}
use Rattle.std.specs.Prelude.{Option, Some, None, Bool, true, false, ◌&&◌}
use Rattle.value_ops.specs.declared.places.Place.{Place}
use Rattle.value_ops.specs.declared.places.Diagnostic.{Diagnostic}
use Rattle.algolw_tree.specs.declared.standard.Standard.{Standard}
use Rattle.algolw_tree.specs.declared.standard.Standard.TheVariants as the
use Rattle.algolw_typing.specs.Names.{Entry, declared}
use Rattle.algolw_typing.specs.Types.{ValueType, Gives, Statement, Simple, is_place, has}
use Rattle.algolw_typing.specs.Verdicts.{Verdict, Good}
use Rattle.algolw_typing.specs.Meanings as typing
use Rattle.algolw_typing.specs.Actuals.{Reading}
use Rattle.algolw_typing.specs.Scopes.{Known, Scopes, standard_scope}
use Rattle.algolw_typing.specs.Typed as typed
use Rattle.algolw_typing.specs.Typing.{out, counted, target}
use Rattle.program_meaning.specs.Phrases.{Named}
use Rattle.program_meaning.specs.Translating as translating
use Rattle.program_meaning.specs.Translating.{standard_known, named_of, declared_at}
use Rattle.program_soundness.specs.Kinds.{Meaning, Want, a_statement, given_want, Context, meaning_in}
use Rattle.program_soundness.specs.Fits.{Fits, IsNamed}
use Rattle.program_soundness.specs.Tables.{Info, standard_infos, known_at, means_at, table_of}
use Rattle.program_soundness.proofs.Arrays.{both_true}
use Rattle.program_soundness.proofs.Records.{place_read}
use Rattle.faultless_programs.proofs.Fitted.{Fitted}
use Rattle.faultless_programs.proofs.Names.{found_entry}
use Rattle.faultless_programs.proofs.Round.{Told, Round, known_is, meant_is}
use Rattle.compilable_programs.specs.Begun.{is_procedure, standard_procedures, IsStatement, StatementIf}

-- ---- the standard procedures

-- a standard procedure is declared, and means no more than that
abbrev declares_procedure : translating.Declared → Bool
declares_procedure (translating.a_standard_name s) = is_procedure s
declares_procedure d = false

abbrev has_none : Option Meaning → Bool
has_none None = true
has_none (Some m) = false

procedure_declared : (d : translating.Declared) → declares_procedure d ≡ true → (s : Standard) × (is_procedure s ≡ true) × (d ≡ translating.a_standard_name s)
procedure_declared (translating.a_standard_name s) h = (s, h, refl)
procedure_declared d h = absurd (cc h)

none_had : (m : Option Meaning) → has_none m ≡ true → m ≡ None
none_had None h = refl
none_had (Some m) h = absurd (cc h)

-- what gives a statement is counted
pub counted_statement : (g : Gives) (f : Place) (v : Verdict) → v ≡ Good g → given_want g ≡ a_statement → IsStatement (counted f v)
counted_statement Statement f v e w = subst (λ v. IsStatement (counted f v)) (sym e) tt
counted_statement (Simple t) f v e w = absurd (cc w)

pub statement_if : (b : Bool) (st : Option Place) → (b ≡ true → IsStatement st) → StatementIf b st
statement_if true st h = h refl
statement_if false st h = tt

pub not_if : (b : Bool) (st : Option Place) → (b ≡ true → ⊥) → StatementIf b st
not_if true st h = absurd (h refl)
not_if false st h = tt

module _ (more : List Info) where
  abbrev pub is : List Info
  is = standard_infos (standard_known standard_scope) ++ more

  -- what is declared at a standard procedure's place
  pub record AtStandard (p : Place) : Type 0 where
    pub standard : Standard
    pub procedure : is_procedure standard ≡ true
    pub known : known_at is p ≡ translating.a_standard_name standard
    pub means : means_at is p ≡ None

  abbrev is_told : Place → Bool
  is_told p = declares_procedure (known_at is p) && has_none (means_at is p)

  abbrev are_told : List Place → Bool
  are_told [] = true
  are_told (p ∷ places) = is_told p && are_told places

  told_one : (places : List Place) (p : Place) → are_told places ≡ true → has places p ≡ true → is_told p ≡ true
  told_one [] p a h = absurd (cc h)
  told_one (q ∷ places) p a h =
      let both = both_true (is_told q) (are_told places) a in
      elim (or_cases (is_place q p) (has places p) h) [ inl e ↦ subst (λ x. is_told x ≡ true) (place_read q p e) both.0 | inr e ↦ told_one places p both.1 e ]

  -- so it is at each place of the table
  all_told : are_told standard_procedures ≡ true
  all_told = refl

  pub standard_at : (p : Place) → has standard_procedures p ≡ true → AtStandard p
  standard_at p h =
      let t = both_true (declares_procedure (known_at is p)) (has_none (means_at is p)) (told_one standard_procedures p all_told h) in
      let d = procedure_declared (known_at is p) t.0 in
      record { standard = d.0; procedure = d.1; known = d.2; means = none_had (means_at is p) t.1 }

  -- an array or a procedure of the program is none of them
  pub array_elsewhere : (t : ValueType) (n : ℕ) (r : Reading) (p : Place) → Told is (typing.an_array t n) r p → has standard_procedures p ≡ true → ⊥
  array_elsewhere t n r p h e = let a = standard_at p e in absurd (cc (sym h.0 ∙ a.known))

  pub procedure_elsewhere : (result : Option ValueType) (fs : List typing.FormalType) (r : Reading) (p : Place) → Told is (typing.a_procedure result fs) r p → has standard_procedures p ≡ true → ⊥
  procedure_elsewhere result fs r p h e = let a = standard_at p e in absurd (cc (sym h.0 ∙ a.known))

  pub formal_elsewhere : (result : Option ValueType) (r : Reading) (p : Place) → Told is (typing.a_procedure_formal result) r p → has standard_procedures p ≡ true → ⊥
  formal_elsewhere result r p h e = let a = standard_at p e in absurd (cc (sym h.0 ∙ a.known))

  -- what a standard procedure gives
  unnamed : (d : Context) (x : Place) (want : Want) → meaning_in d x ≡ None → Fits (table_of is) d (Named x) want → want ≡ a_statement
  unnamed d x want e h = absurd (subst (λ o. IsNamed o want) e h)

  procedure_fits : (s : Standard) → is_procedure s ≡ true → (c : translating.Context) (d : Context) (p f : Place) (st : Option Place) (x : Place) (lists : typed.Lists) (want : Want) → meaning_in d x ≡ None
      → Fits (table_of is) d (named_of c p f st x (translating.a_standard_name s) lists) want → want ≡ a_statement
  procedure_fits (the.Function op) i c d p f st x lists want e h = absurd (cc i)
  procedure_fits the.MaxInteger i c d p f st x lists want e h = absurd (cc i)
  procedure_fits (the.Variable width) i c d p f st x lists want e h = absurd (cc i)
  procedure_fits (the.Read on) i c d p f st x typed.no_lists want e h = unnamed d x want e h
  procedure_fits (the.Read on) i c d p f st x (typed.list_and (typed.OfActuals q given) rest) want e h = h.0
  procedure_fits (the.Read on) i c d p f st x (typed.list_and (typed.OfPart q a n) rest) want e h = unnamed d x want e h
  procedure_fits the.ReadCard i c d p f st x typed.no_lists want e h = unnamed d x want e h
  procedure_fits the.ReadCard i c d p f st x (typed.list_and (typed.OfActuals q given) rest) want e h = h.0
  procedure_fits the.ReadCard i c d p f st x (typed.list_and (typed.OfPart q a n) rest) want e h = unnamed d x want e h
  procedure_fits (the.Write on) i c d p f st x typed.no_lists want e h = unnamed d x want e h
  procedure_fits (the.Write on) i c d p f st x (typed.list_and (typed.OfActuals q given) rest) want e h = h.0
  procedure_fits (the.Write on) i c d p f st x (typed.list_and (typed.OfPart q a n) rest) want e h = unnamed d x want e h
  procedure_fits the.IoControl i c d p f st x typed.no_lists want e h = unnamed d x want e h
  procedure_fits the.IoControl i c d p f st x (typed.list_and (typed.OfActuals q given) rest) want e h = h.0
  procedure_fits the.IoControl i c d p f st x (typed.list_and (typed.OfPart q a n) rest) want e h = unnamed d x want e h

  -- what is found of a name is a statement, where that is a standard procedure's
  pub name_counted : {path : Scopes} {c : translating.Context} {d : Context} → Round is path c d → (x : List ℕ) (o : Option (Entry Known)) → declared path x ≡ o → (inside : List Diagnostic) (p f : Place) (v : Verdict) (lists : typed.Lists)
      → Fitted (table_of is) c d (out inside p f v (typed.Named (target o) lists)) → StatementIf (has standard_procedures (target o)) (counted f v)
  name_counted r x None e inside p f v lists k = tt
  name_counted {path} {c} {d} r x (Some g) e inside p f v lists k = statement_if (has standard_procedures g.place) (counted f v) (λ h.
      let a = standard_at g.place h in
      let i = found_entry is r x g e in
      let known : declared_at c.known g.place ≡ translating.a_standard_name a.standard = known_is is r g.place i.3 ∙ a.known in
      let fit = subst (λ z. Fits (table_of is) d (named_of c p f (counted f v) g.place z lists) (given_want k.gives)) known k.fits in
      counted_statement k.gives f v k.verdict (procedure_fits a.standard a.procedure c d p f (counted f v) g.place lists (given_want k.gives) (meant_is is r g.place i.3 ∙ a.means) fit))
