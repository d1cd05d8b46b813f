-- Settings: assignments to standard variables in lists of phrases, and the integers to which widths are set.
use Rattle.std.proofs.Common.{◌≡◌, ℕ, List, [], ◌∷◌, refl, sym, subst, ap, ◌∙◌, ◌⊎◌, inl, inr}
use Rattle.std.specs.Prelude.{Option, Some, None, Bool, true, false, ◌&&◌, not}
use Rattle.value_ops.specs.declared.places.Place.{Place}
use Rattle.algolw_tree.specs.declared.standard.Standard.TheVariants as standard
use Rattle.algolw_tree.specs.declared.standard.Width.{Width}
use Rattle.algolw_tree.specs.Tree as tree
use Rattle.algolw_typing.specs.Names.{Entry, declared}
use Rattle.algolw_typing.specs.Types.{ValueType, Gives, Statement, Simple, Integer}
use Rattle.algolw_typing.specs.Verdicts.{Verdict, Good, type_of, part}
use Rattle.algolw_typing.specs.Meanings as typing
use Rattle.algolw_typing.specs.Meanings.{alone_row}
use Rattle.algolw_typing.specs.Actuals.{Wanted, phrase_wanted, phrase_part}
use Rattle.algolw_typing.specs.Scopes.{Known, Scopes}
use Rattle.algolw_typing.specs.Typed as typed
use Rattle.algolw_typing.specs.Typing.{Out, PartOut, faults, gives, given, meaning_of, target, use_alone, left_of, assign_row, right_end, uncounted, is_width, is_assignment, is_setting, setting_part, typed_phrase}
use Rattle.algolw_typing.proofs.GoodScopes.{NoFaults}
use Rattle.program_meaning.specs.Phrases.{placed, sets}
use Rattle.program_meaning.specs.Translating as translating
use Rattle.program_meaning.specs.Translating.{phrase_of, declared_at, value_type, is_variable_node, width_role, left_role, kind_role, role_of, value_part}
use Rattle.program_soundness.specs.Kinds.{kind_of, an_integer, a_value, a_place, given_want, Context}
use Rattle.program_soundness.specs.Fits.{Fits, IfVariable}
use Rattle.program_soundness.specs.Tables.{Info, table_of, infos}
use Rattle.program_soundness.proofs.Arrays.{both_true}
use Rattle.faultless_programs.proofs.Agreeing.{AllAgree}
use Rattle.faultless_programs.proofs.Round.{Round, known_is}
use Rattle.faultless_programs.proofs.Fitted.{Fitted}
use Rattle.faultless_programs.proofs.Names.{use_means, found_entry, flag, flag_variable}
use Rattle.faultless_programs.proofs.Parts.{PhrasePart, SettingPart, sets_width, given_phrase, given_setting, part_some}
use Rattle.faultless_programs.proofs.Chains.{assign_good}

-- a standard variable, by what its name means
standard_width : (o : Option typing.Meaning) → is_width o ≡ true → (w : Width) × (o ≡ Some (typing.a_standard (standard.Variable w)))
standard_width (Some (typing.a_standard (standard.Variable w))) e = (w, refl)
standard_width _ e = absurd (cc e)

declared_width : (o : Option (Entry Known)) → is_width (meaning_of o) ≡ true → (e : Entry Known) × (w : Width) × (o ≡ Some e) × (e.is.means ≡ Some (typing.a_standard (standard.Variable w)))
declared_width None e = absurd (cc e)
declared_width (Some d) e = let w = standard_width d.is.means e in (d, w.0, refl, w.1)

some_meaning : {a b : typing.Meaning} → Some a ≡ Some b → a ≡ b
some_meaning {a = a} q = ap (λ o. elim o [ Some x ↦ x | None ↦ a ]) q

-- where a phrase is a variable, it is a place
if_variable : (b : Bool) (g : Gives) (P : Rattle.program_soundness.specs.Kinds.Kind → Type 0) → (b ≡ true → (t : ValueType) → g ≡ Simple t → P (kind_of t)) → IfVariable b g P
if_variable true (Simple t) P h = h refl t refl
if_variable true Statement P h = tt
if_variable false g P h = tt

module _ (is : List Info) where
  -- a setting gives a statement, and its right part fits an integer
  abbrev Sets : translating.Context → Context → typed.Node → Type 0
  Sets c d n = (typed.gives n ≡ Some Statement) × (w : Width) × (role_of c.known n ≡ sets w) × Fits (table_of is) d (value_part (sets w) (phrase_of c n)) (a_value an_integer)

  named_setting : {path : Scopes} {c : translating.Context} {d : Context} → Round is path c d → (p f q e : Place) (x : List ℕ) (m : tree.Phrase) → is_width (meaning_of (declared path x)) ≡ true
      → let a = tree.At p f (tree.Assign (tree.At q e (tree.Named x tree.no_lists)) m) in Fitted (table_of is) c d (typed_phrase path a) → Sets c d (uncounted (typed_phrase path a).node)
  named_setting {path} {c} {d} r p f q e x m is_one h =
      let left = tree.At q e (tree.Named x tree.no_lists) in
      let a = typed_phrase path left in
      let b = typed_phrase path m in
      let v = (typed_phrase path (tree.At p f (tree.Assign left m))).verdict in
      let one = declared_width (declared path x) is_one in
      let found = found_entry is r x one.0 one.2 in
      let means = some_meaning (sym found.1 ∙ one.3) in
      -- the translation knows it
      let told = subst (λ m. Rattle.faultless_programs.proofs.Round.Told is m one.0.is.reading one.0.place) means found.2 in
      let known : declared_at c.known (target (declared path x)) ≡ translating.a_standard_name (standard.Variable one.1) = ap (λ o. declared_at c.known (target o)) one.2 ∙ known_is is r one.0.place found.3 ∙ told.0 in
      -- alone it gives an integer
      let alone : use_alone q (declared path x) ≡ Good (Simple Integer) = ap (use_alone q) one.2 ∙ use_means q one.0 (typing.a_standard (standard.Variable one.1)) (alone_row q) one.3 in
      -- the assignment is a statement
      let row = λ (l k : Gives). part (right_end b.node) (assign_row p (left_of path left) l) in
      let first = part_some (gives a) (λ l. part (gives b) (row l)) h.gives h.verdict in
      let second = part_some (gives b) (row first.0) h.gives first.2 in
      let third = part_some (right_end b.node) (assign_row p (left_of path left) first.0) h.gives second.2 in
      let statement : h.gives ≡ Statement = (assign_good (table_of is) c d p (left_of path left) first.0 third.0 h.gives third.2).6 in
      let type : type_of v ≡ Some Statement = ap type_of h.verdict ∙ ap (λ g. Some g) statement in (
        type,
        one.1,
        ap (λ g. kind_role c.known g (typed.Assign a.node (uncounted b.node))) type ∙ ap width_role known,
        subst (λ w. Fits (table_of is) d (phrase_of c (uncounted b.node)) (a_value (kind_of (value_type (type_of w))))) alone h.fits.3,
      )

  setting_fits : {path : Scopes} {c : translating.Context} {d : Context} → Round is path c d → (p f : Place) (l m : tree.Phrase) → is_setting path phrase_wanted l m ≡ true → Fitted (table_of is) c d (typed_phrase path (tree.At p f (tree.Assign l m)))
      → Sets c d (uncounted (typed_phrase path (tree.At p f (tree.Assign l m))).node)
  setting_fits {path} r p f (tree.At q e (tree.Named x tree.no_lists)) m s h = named_setting r p f q e x m (both_true (is_width (meaning_of (declared path x))) (not (is_assignment m)) s).0 h
  setting_fits r p f (tree.At q e (tree.Named x (tree.list_and y ys))) m s h = absurd (cc s)
  setting_fits r p f (tree.At q e _) m s h = absurd (cc s)

  -- ---- a part of a list that is read as a phrase

  abbrev pub Found : Scopes → translating.Context → Context → tree.Phrase → Type 0
  Found path c d b = AllAgree is (infos (typed_phrase path b).node) → NoFaults (faults (typed_phrase path b)) → Fitted (table_of is) c d (typed_phrase path b)

  abbrev pub Parted : translating.Context → Context → PartOut → Type 0
  Parted c d g = AllAgree is (infos g.node) → NoFaults g.inside → PhrasePart (table_of is) c d g.node g.part ⊎ SettingPart (table_of is) c d g.node g.part

  uncounted_infos : (n : typed.Node) → AllAgree is (infos (uncounted n)) → AllAgree is (infos n)
  uncounted_infos (typed.At p f g s (typed.Assign a b)) h = h
  uncounted_infos (typed.At p f g s _) h = h

  phrase_parted : {path : Scopes} {c : translating.Context} {d : Context} → Round is path c d → (b : tree.Phrase) → sets_width path b ≡ false → Found path c d b → Parted c d (given path phrase_wanted b (typed_phrase path b))
  phrase_parted {path} {c} {d} r b e found agree none =
      let o = typed_phrase path b in
      let k = given_phrase path b o e in
      let x = found (subst (λ n. AllAgree is (infos n)) k.2 agree) (subst NoFaults k.0 none) in
      inl (
        flag path b,
        x.gives,
        k.1 ∙ ap (λ v. phrase_part (flag path b) (type_of v)) x.verdict,
        ap typed.gives k.2 ∙ x.stated,
        x.proper,
        subst (λ n. Fits (table_of is) d (phrase_of c n) (given_want x.gives)) (sym k.2) x.fits,
        subst (λ n. IfVariable (flag path b) x.gives (λ j. Fits (table_of is) d (phrase_of c n) (a_place j))) (sym k.2) (if_variable (flag path b) x.gives (λ j. Fits (table_of is) d (phrase_of c o.node) (a_place j)) (λ t u l. x.place (flag_variable is r b t) u l)),
      )

  setting_parted : {path : Scopes} {c : translating.Context} {d : Context} → Round is path c d → (b : tree.Phrase) → sets_width path b ≡ true → Found path c d b → Parted c d (given path phrase_wanted b (typed_phrase path b))
  setting_parted {path} {c} {d} r (tree.At p f (tree.Assign l m)) e found agree none =
      let b = tree.At p f (tree.Assign l m) in
      let o = typed_phrase path b in
      let k = given_setting path p f l m o e in
      let x = found (uncounted_infos o.node (subst (λ n. AllAgree is (infos n)) k.2 agree)) (subst NoFaults k.0 none) in
      let s = subst (Sets c d) (sym k.2) (setting_fits r p f l m e x) in
      inr (k.1 ∙ ap (λ v. setting_part (type_of v)) x.verdict, s.0, s.1, s.2, s.3)
  setting_parted r (tree.At p f _) e found agree none = absurd (cc e)

  pub part_fits : {path : Scopes} {c : translating.Context} {d : Context} → Round is path c d → (b : tree.Phrase) (w : Wanted) → w ≡ phrase_wanted → Found path c d b → Parted c d (given path w b (typed_phrase path b))
  part_fits {path} {c} {d} r b w e found = subst (λ w. Parted c d (given path w b (typed_phrase path b))) (sym e) (by (sets_width path b) refl) where
    by : (s : Bool) → sets_width path b ≡ s → Parted c d (given path phrase_wanted b (typed_phrase path b))
    by true q = setting_parted r b q found
    by false q = phrase_parted r b q found
