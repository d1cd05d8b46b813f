-- Names with lists behind them fit, by what the names mean.
use Rattle.std.proofs.Common.{◌≡◌, ℕ, ℤ, List, [], ◌∷◌, refl, sym, subst, ap, ◌∙◌}
use Rattle.std.proofs.lemmas.Option.{slice_get-map}
use Rattle.std.specs.Option.{option_map}
use Rattle.std.specs.Prelude.{Option, Some, None, true, false, slice_get}
use Rattle.value_ops.specs.declared.places.Place.{Place}
use Rattle.value_ops.specs.declared.places.Diagnostic.{Diagnostic}
use Rattle.algolw_tree.specs.declared.standard.Standard.{Standard}
use Rattle.algolw_tree.specs.declared.standard.Standard.TheVariants as standard
use Rattle.algolw_tree.specs.declared.standard.Basic.TheVariants as basic
use Rattle.algolw_tree.specs.Standards as standards
use Rattle.algolw_typing.specs.Names.{Entry}
use Rattle.algolw_typing.specs.Types.{ValueType, Gives, Statement, Simple, Str, Reference}
use Rattle.algolw_typing.specs.Verdicts.{Verdict, Good}
use Rattle.algolw_typing.specs.Meanings as typing
use Rattle.algolw_typing.specs.Meanings.{Part, FormalType, base_row, no_base, gives_of, standard_row, basic_type}
use Rattle.algolw_typing.specs.Actuals.{Reading, as_phrases, for_formals, at_run_time, list_row, call_row, formal_call_row}
use Rattle.algolw_typing.specs.Scopes.{Known, Scopes}
use Rattle.algolw_typing.specs.Typed as typed
use Rattle.algolw_typing.specs.Typing.{out, counted}
use Rattle.program_meaning.specs.Phrases as phrase
use Rattle.program_meaning.specs.Phrases.{Phrase}
use Rattle.program_meaning.specs.Translating as translating
use Rattle.program_meaning.specs.Translating.{phrase_of, parts_of, given_of, targets_of, actuals_of, first_of, length_of, length_given, written, is_variable, declared_at, statement_at}
use Rattle.program_soundness.specs.Kinds as kinds
use Rattle.program_soundness.specs.Kinds.{Kind, kind_of, an_integer, a_string, a_reference, Want, a_statement, a_value, a_place, given_want, result_want, IsVariable, IsProper, IsProperGiven, IsProperResult, Context, meaning_in, Table}
use Rattle.program_soundness.specs.Fits.{Fits, Names, ActualsFit, they_fit, phrase_count, field_kind}
use Rattle.program_soundness.specs.Tables.{Info, known_at, table_of, class_fields}
use Rattle.faultless_programs.proofs.Rows.{good_gives}
use Rattle.faultless_programs.proofs.Round.{Told, Present, Round, known_is, meant_is}
use Rattle.faultless_programs.proofs.Fitted.{Fitted}
use Rattle.faultless_programs.proofs.Names.{fitted_name, variable_fits}
use Rattle.faultless_programs.proofs.Parts.{want_by, want_value, HasLength, has_length, GivenFit, array_fits, class_fits, field_fits, one_value_fits, basic_proper, basic_length, write_fits, read_fits, card_fits}

no_base_never : (p : Place) (start : Option Gives) (g : Gives) → no_base p start ≡ Good g → ⊥
no_base_never p None g e = cc
no_base_never p (Some y) g e = cc

proper_result : (r : Option ValueType) → IsProperResult r → IsProperGiven (gives_of r)
proper_result None h = tt
proper_result (Some t) h = h

result_by : (r : Option ValueType) → want_by a_value (gives_of r) ≡ result_want r
result_by None = refl
result_by (Some t) = refl

length_result : (r : Option ValueType) → HasLength (length_given r) (gives_of r)
length_result None = tt
length_result (Some t) = has_length t

module _ (is : List Info) where
  abbrev table : Table
  table = table_of is

  -- what is behind a name is put round its phrase, as a value and as a place
  abbrev pub Finishes : translating.Context → Context → Gives → Gives → typed.Lists → Type 0
  Finishes c d y g ls = (front : Phrase) (m : ℕ) (mk : Kind → Want) → IsVariable a_string (mk a_string) → HasLength m y → IsProperGiven y → Fits table d front (want_by mk y) → IsProperGiven g × Fits table d (parts_of c m front ls) (want_by mk g)

  value_of : (d : Context) (a : Phrase) (g : Gives) → Fits table d a (want_by a_value g) → Fits table d a (given_want g)
  value_of d a g h = subst (Fits table d a) (want_value g) h

  place_of : (d : Context) (a : Phrase) (g : Gives) (t : ValueType) → g ≡ Simple t → Fits table d a (want_by a_place g) → Fits table d a (a_place (kind_of t))
  place_of d a g t e h = subst (λ g. Fits table d a (want_by a_place g)) e h

  -- ---- a part of a name

  abbrev Parted : translating.Context → Context → Gives → Gives → typed.Node → ℤ → typed.Lists → Type 0
  Parted c d base g sn n ls = (front : Phrase) (m : ℕ) (mk : Kind → Want) → IsVariable a_string (mk a_string) → HasLength m base → Fits table d front (want_by mk base) → IsProperGiven g × Fits table d (parts_of c (written n) (phrase.Part m (written n) front (phrase_of c sn)) ls) (want_by mk g)

  pub base_fits : {path : Scopes} {c : translating.Context} {d : Context} → Round is path c d → (p f q : Place) (e : Entry Known) (m : typing.Meaning) → Told is m e.is.reading e.place → Present is c d e.place → (start : Option Gives) (base g : Gives) → base_row p m start ≡ Good base
      → ((k : ℕ) × (base ≡ Simple (Str k))) → (inside : List Diagnostic) (v : Verdict) → v ≡ Good g → (sn : typed.Node) (n : ℤ) (ls : typed.Lists) → Parted c d base g sn n ls → Fitted table c d (out inside p f v (typed.Named e.place (typed.list_and (typed.OfPart q sn n) ls)))
  base_fits {c = c} {d = d} r p f q e (typing.a_variable t) s z start base g b k inside v w sn n ls h =
      let mean = meant_is is r e.place z ∙ s.1 in
      let i = good_gives b in
      let x = h (phrase.Named e.place) (length_of t) a_value refl (subst (HasLength (length_of t)) i (has_length t)) (subst (λ y. Fits table d (phrase.Named e.place) (want_by a_value y)) i (variable_fits is d e.place (kind_of t) (a_value (kind_of t)) mean refl)) in
      let y = h (phrase.Named e.place) (length_of t) a_place refl (subst (HasLength (length_of t)) i (has_length t)) (subst (λ y. Fits table d (phrase.Named e.place) (want_by a_place y)) i (variable_fits is d e.place (kind_of t) (a_place (kind_of t)) mean refl)) in
      fitted_name is c d inside p f e.place v _ (translating.a_variable t) g w (known_is is r e.place z ∙ s.0) x.0 (value_of d _ g x.1) (λ o u l. place_of d _ g u l y.1)
  base_fits {c = c} {d = d} r p f q e (typing.a_procedure (Some t) []) s z start base g b k inside v w sn n ls h =
      let i = good_gives b in
      let call : (st : Option Place) → Fits table d (phrase.Call st false p (phrase.Named e.place) phrase.no_actuals) (a_value (kind_of t)) = λ st. (Some t, refl, ([], (e.place, refl, meant_is is r e.place z ∙ s.1), refl), tt) in
      let x = h (phrase.Call (counted f (Good g)) false p (phrase.Named e.place) phrase.no_actuals) (length_of t) a_value refl (subst (HasLength (length_of t)) i (has_length t)) (subst (λ y. Fits table d (phrase.Call (counted f (Good g)) false p (phrase.Named e.place) phrase.no_actuals) (want_by a_value y)) i (call (counted f (Good g)))) in
      fitted_name is c d inside p f e.place v _ (translating.a_procedure (Some t)) g w (known_is is r e.place z ∙ s.0) x.0 (value_of d _ g x.1) (λ o u l. absurd (cc o))
  base_fits {c = c} {d = d} r p f q e (typing.a_procedure_formal (Some t)) s z start base g b k inside v w sn n ls h =
      let i = good_gives b in
      let call : (st : Option Place) → Fits table d (phrase.Call st true p (phrase.Named e.place) phrase.no_actuals) (a_value (kind_of t)) = λ st. (Some t, refl, (kinds.a_procedure_formal (Some t), (e.place, refl, meant_is is r e.place z ∙ s.1), refl), tt) in
      let x = h (phrase.Call (counted f (Good g)) true p (phrase.Named e.place) phrase.no_actuals) (length_of t) a_value refl (subst (HasLength (length_of t)) i (has_length t)) (subst (λ y. Fits table d (phrase.Call (counted f (Good g)) true p (phrase.Named e.place) phrase.no_actuals) (want_by a_value y)) i (call (counted f (Good g)))) in
      fitted_name is c d inside p f e.place v _ (translating.a_procedure_formal (Some t)) g w (known_is is r e.place z ∙ s.0) x.0 (value_of d _ g x.1) (λ o u l. absurd (cc o))
  base_fits r p f q e typing.a_control s z start base g b k inside v w sn n ls h = absurd (cc (b ∙ ap Good k.1))
  base_fits r p f q e (typing.a_standard standard.MaxInteger) s z start base g b k inside v w sn n ls h = absurd (cc (b ∙ ap Good k.1))
  base_fits r p f q e (typing.a_standard (standard.Variable width)) s z start base g b k inside v w sn n ls h = absurd (cc (b ∙ ap Good k.1))
  base_fits r p f q e typing.a_label s z start base g b k inside v w sn n ls h = absurd (cc b)
  base_fits r p f q e (typing.a_procedure (Some t) (y ∷ fs)) s z start base g b k inside v w sn n ls h = absurd (no_base_never p start base b)
  base_fits r p f q e (typing.a_procedure None fs) s z start base g b k inside v w sn n ls h = absurd (no_base_never p start base b)
  base_fits r p f q e (typing.a_procedure_formal None) s z start base g b k inside v w sn n ls h = absurd (no_base_never p start base b)
  base_fits r p f q e (typing.an_array t i) s z start base g b k inside v w sn n ls h = absurd (no_base_never p start base b)
  base_fits r p f q e (typing.a_class ts) s z start base g b k inside v w sn n ls h = absurd (no_base_never p start base b)
  base_fits r p f q e (typing.a_field cl t) s z start base g b k inside v w sn n ls h = absurd (no_base_never p start base b)
  base_fits r p f q e (typing.a_standard _) s z start base g b k inside v w sn n ls h = absurd (no_base_never p start base b)

  -- ---- a name with another list

  kind_of_field : (class : Place) (n : ℕ) (ts : List ValueType) (t : ValueType) → known_at is class ≡ translating.a_class ts → slice_get ts n ≡ Some t → field_kind (table.fields class) n ≡ Some (kind_of t)
  kind_of_field class n ts t e h = ap (λ o. field_kind (class_fields o) n) e ∙ slice_get-map kind_of ts n ∙ ap (option_map kind_of) h

  -- what the actuals of a call do
  abbrev pub Calling : Context → Place → Reading → List Part → Gives → phrase.Actuals → Type 0
  Calling d p reading parts y given = (res : Option ValueType) (fs : List FormalType) → reading ≡ for_formals fs → call_row p res fs parts ≡ Good y → ActualsFit table d given × (they_fit d p fs given ≡ true) × (y ≡ gives_of res)

  abbrev pub CallingFormal : Context → Place → Reading → List Part → Gives → phrase.Actuals → Type 0
  CallingFormal d p reading parts y given = (res : Option ValueType) → reading ≡ at_run_time → formal_call_row p res parts ≡ Good y → ActualsFit table d given × (y ≡ gives_of res)

  pub list_fits : {path : Scopes} {c : translating.Context} {d : Context} → Round is path c d → (p f q : Place) (e : Entry Known) (m : typing.Meaning) → Told is m e.is.reading e.place → Present is c d e.place → (parts : List Part) (y g : Gives) → list_row p m e.place parts ≡ Good y
      → (inside : List Diagnostic) (v : Verdict) → v ≡ Good g → (list : typed.Actuals) (ls : typed.Lists) → (e.is.reading ≡ as_phrases → GivenFit table c d list parts) → Calling d p e.is.reading parts y (actuals_of c list) → CallingFormal d p e.is.reading parts y (actuals_of c list)
      → Finishes c d y g ls → (((k : ℕ) → y ≡ Simple (Str k) → ⊥) → g ≡ y) → Fitted table c d (out inside p f v (typed.Named e.place (typed.list_and (typed.OfActuals q list) ls)))
  list_fits {c = c} {d = d} r p f q e (typing.an_array t n) s z parts y g b inside v w list ls k call formal h same =
      let a = array_fits table c d p t n list parts y (k s.3) b in
      let names : Names d (phrase.Named e.place) (kinds.an_array t (phrase_count (given_of c list))) = (e.place, refl, meant_is is r e.place z ∙ s.1 ∙ ap (λ i. Some (kinds.an_array t i)) (sym a.1)) in
      let element : (mk : Kind → Want) → IsVariable (kind_of t) (mk (kind_of t)) → Fits table d (phrase.Element (phrase.Named e.place) (given_of c list)) (mk (kind_of t)) = λ mk i. (t, names, i, a.0) in
      let ends : (mk : Kind → Want) → IsVariable a_string (mk a_string) → IsVariable (kind_of t) (mk (kind_of t)) → IsProperGiven g × Fits table d (parts_of c (length_of t) (phrase.Element (phrase.Named e.place) (given_of c list)) ls) (want_by mk g) = λ mk i j.
      h (phrase.Element (phrase.Named e.place) (given_of c list)) (length_of t) mk i (subst (HasLength (length_of t)) (sym a.2) (has_length t)) (subst IsProperGiven (sym a.2) s.2) (subst (λ y. Fits table d (phrase.Element (phrase.Named e.place) (given_of c list)) (want_by mk y)) (sym a.2) (element mk j)) in
      let x = ends a_value refl refl in
      let l = ends a_place refl refl in
      fitted_name is c d inside p f e.place v _ (translating.an_array t) g w (known_is is r e.place z ∙ s.0) x.0 (value_of d _ g x.1) (λ o u i. place_of d _ g u i l.1)
  list_fits {c = c} {d = d} r p f q e (typing.a_field cl t) s z parts y g b inside v w list ls k call formal h same =
      let a = field_fits table c d p cl t list parts y (k s.6) b in
      let front = phrase.Field cl s.0 (first_of (given_of c list)) in
      let field : (mk : Kind → Want) → IsVariable (kind_of t) (mk (kind_of t)) → Fits table d front (mk (kind_of t)) = λ mk i. (kind_of t, kind_of_field cl s.0 s.1 t s.3 s.4, i, a.0) in
      let ends : (mk : Kind → Want) → IsVariable a_string (mk a_string) → IsVariable (kind_of t) (mk (kind_of t)) → IsProperGiven g × Fits table d (parts_of c (length_of t) front ls) (want_by mk g) = λ mk i j.
      h front (length_of t) mk i (subst (HasLength (length_of t)) (sym a.1) (has_length t)) (subst IsProperGiven (sym a.1) s.5) (subst (λ y. Fits table d front (want_by mk y)) (sym a.1) (field mk j)) in
      let x = ends a_value refl refl in
      let l = ends a_place refl refl in
      fitted_name is c d inside p f e.place v _ (translating.a_field cl s.0 t) g w (known_is is r e.place z ∙ s.2) x.0 (value_of d _ g x.1) (λ o u i. place_of d _ g u i l.1)
  list_fits {c = c} {d = d} r p f q e (typing.a_class ts) s z parts y g b inside v w list ls k call formal h same =
      let a = class_fits table c d p ts e.place list parts y s.1 (k s.2) b in
      let i = same (λ j n. absurd (cc (sym a.1 ∙ n))) ∙ a.1 in
      fitted_name is c d inside p f e.place v _ (translating.a_class ts) (Simple (Reference (e.place ∷ []))) (w ∙ ap Good i) (known_is is r e.place z ∙ s.0) tt (refl, ap class_fields s.0, a.0) (λ o u l. absurd (cc o))
  list_fits {c = c} {d = d} r p f q e (typing.a_procedure res fs) s z parts y g b inside v w list ls k call formal h same =
      let a = call res fs s.3 b in
      let front = phrase.Call (counted f (Good g)) false p (phrase.Named e.place) (actuals_of c list) in
      let fit : Fits table d front (result_want res) = (res, refl, (fs, (e.place, refl, meant_is is r e.place z ∙ s.1), a.1), a.0) in
      let x = h front (length_given res) a_value refl (subst (HasLength (length_given res)) (sym a.2) (length_result res)) (subst IsProperGiven (sym a.2) (proper_result res s.2)) (subst (λ y. Fits table d front (want_by a_value y)) (sym a.2) (subst (Fits table d front) (sym (result_by res)) fit)) in
      fitted_name is c d inside p f e.place v _ (translating.a_procedure res) g w (known_is is r e.place z ∙ s.0) x.0 (value_of d _ g x.1) (λ o u l. absurd (cc o))
  list_fits {c = c} {d = d} r p f q e (typing.a_procedure_formal res) s z parts y g b inside v w list ls k call formal h same =
      let a = formal res s.3 b in
      let front = phrase.Call (counted f (Good g)) true p (phrase.Named e.place) (actuals_of c list) in
      let fit : Fits table d front (result_want res) = (res, refl, (kinds.a_procedure_formal res, (e.place, refl, meant_is is r e.place z ∙ s.1), refl), a.0) in
      let x = h front (length_given res) a_value refl (subst (HasLength (length_given res)) (sym a.1) (length_result res)) (subst IsProperGiven (sym a.1) (proper_result res s.2)) (subst (λ y. Fits table d front (want_by a_value y)) (sym a.1) (subst (Fits table d front) (sym (result_by res)) fit)) in
      fitted_name is c d inside p f e.place v _ (translating.a_procedure_formal res) g w (known_is is r e.place z ∙ s.0) x.0 (value_of d _ g x.1) (λ o u l. absurd (cc o))
  list_fits {c = c} {d = d} r p f q e (typing.a_standard st) s z parts y g b inside v w list ls k call formal h same = standard_fits st s.0 b where
    fit : GivenFit table c d list parts
    fit = k s.1

    statement : (dd : Standard) → y ≡ Statement → known_at is e.place ≡ translating.a_standard_name dd → Fits table d (translating.named_of c p f (counted f (Good Statement)) e.place (translating.a_standard_name dd) (typed.list_and (typed.OfActuals q list) ls)) a_statement → Fitted table c d (out inside p f v (typed.Named e.place (typed.list_and (typed.OfActuals q list) ls)))
    statement dd i t x = fitted_name is c d inside p f e.place v (typed.list_and (typed.OfActuals q list) ls) (translating.a_standard_name dd) Statement (w ∙ ap Good (same (λ j n. absurd (cc (sym i ∙ n))) ∙ i)) (known_is is r e.place z ∙ t) tt x (λ o u l. absurd (cc o))

    ended : (t : ValueType) (front : Phrase) → y ≡ Simple t → IsProper t → HasLength 1 (Simple t) → Fits table d front (a_value (kind_of t)) → IsProperGiven g × Fits table d (parts_of c 1 front ls) (want_by a_value g)
    ended t front i n l x = h front 1 a_value refl (subst (HasLength 1) (sym i) l) (subst IsProperGiven (sym i) n) (subst (λ y. Fits table d front (want_by a_value y)) (sym i) x)

    standard_fits : (st : Standard) → known_at is e.place ≡ translating.a_standard_name st → standard_row p st parts ≡ Good y → Fitted table c d (out inside p f v (typed.Named e.place (typed.list_and (typed.OfActuals q list) ls)))
    standard_fits (standard.Function op) t b =
        let type = basic_type (standards.gives op) in
        let front = phrase.Unary op (first_of (given_of c list)) in
        let a = one_value_fits table c d p (standards.takes op) list parts (Simple type) y fit b in
        let x = ended type front a.1 (basic_proper (standards.gives op)) (basic_length (standards.gives op)) (refl, a.0) in
        fitted_name is c d inside p f e.place v (typed.list_and (typed.OfActuals q list) ls) (translating.a_standard_name (standard.Function op)) g w (known_is is r e.place z ∙ t) x.0 (value_of d (parts_of c 1 front ls) g x.1) (λ o u l. absurd (cc o))
    standard_fits (standard.Read on) t b = let a = read_fits table c d p list parts y fit b in statement (standard.Read on) a.1 t (refl, a.0)
    standard_fits standard.ReadCard t b = let a = card_fits table c d p list parts y fit b in statement standard.ReadCard a.1 t (refl, a.0)
    standard_fits (standard.Write on) t b = let a = write_fits table c d p list parts y fit b in statement (standard.Write on) a.1 t (refl, a.0)
    standard_fits standard.IoControl t b = let a = one_value_fits table c d p basic.Integer list parts Statement y fit b in statement standard.IoControl a.1 t (refl, a.0)
    standard_fits standard.MaxInteger t b = absurd (cc b)
    standard_fits (standard.Variable width) t b = absurd (cc b)
  list_fits r p f q e (typing.a_variable t) s z parts y g b inside v w list ls k call formal h same = absurd (cc b)
  list_fits r p f q e typing.a_control s z parts y g b inside v w list ls k call formal h same = absurd (cc b)
  list_fits r p f q e typing.a_label s z parts y g b inside v w list ls k call formal h same = absurd (cc b)
