-- A name that is neither a variable nor called, with the lists behind it.
use Rattle.std.proofs.Common.{◌≡◌, ℕ, suc, ◌+◌, ◌-◌, ◌<◌, ◌≤◌, Bool, true, false, List, [], ◌∷◌, length, map, drop, Option, Some, None, ◌⊎◌, inl, inr, pos, refl, sym, ap, ◌∙◌, subst, arith}
use Rattle.std.specs.Option.{option_map}
use Rattle.std.proofs.Common.{Err, IfOk, Ok, OnOk, Result}
use Rattle.std.specs.declared.alloc.AllocError.{AllocError}
use Rattle.std.proofs.lemmas.List.{length-drop, length-take}
use Rattle.value_ops.specs.declared.places.Place.{Place}
use Rattle.value_ops.specs.declared.values.SimpleType.{SimpleType}
use Rattle.value_ops.specs.declared.values.Value.TheVariants as value
use Rattle.algolw_tree.specs.declared.programs.Node.{Node}
use Rattle.algolw_tree.specs.declared.programs.TypedActual.{TypedActual}
use Rattle.algolw_tree.specs.declared.programs.TypedList.{TypedList}
use Rattle.algolw_typing.specs.Typed as typed
use Rattle.algolw_typing.specs.Types.{ValueType, has}
use Rattle.algolw_typing.specs.ProgramView.{Numbers, numbered}
use Rattle.program_meaning.specs.Phrases as phrases
use Rattle.program_meaning.specs.Phrases.{Phrase}
use Rattle.program_meaning.specs.Widths.{variable_of}
use Rattle.program_meaning.specs.Translating as translating
use Rattle.program_meaning.specs.Translating.{first_of, given_of, name_at, named_of, number_of, parts_of, targets_of}
use Rattle.program_soundness.proofs.Variables.{some_inj}
use Rattle.phrase_code.specs.Coding as coding
use Rattle.phrase_code.specs.Coding.{◌▸◌, Stand, element_code, named_code, one, stand_at}
use Rattle.compilable_programs.specs.Begun.{StatementIf, is_procedure, standard_procedures}
use Rattle.compilable_programs.specs.Suits.{Suits}
use Rattle.stack_code.specs.Code as code
use Rattle.stack_code.specs.CodeView.{InstrFits, class_place, class_view, kind_view, mode_view}
use Rattle.stack_code.specs.Instr as instr
use Rattle.stack_code.specs.declared.instructions.Constant.TheVariants as constant
use Rattle.stack_code.specs.declared.instructions.Instr.{Instr}
use Rattle.stack_code.specs.declared.instructions.Instr.TheVariants as held
use Rattle.stack_code.specs.declared.instructions.Mode.{Mode}
use Rattle.algolw_tree.specs.declared.standard.UnaryOp.{UnaryOp}
use Rattle.symbol_table.specs.declared.here.Here.{Here}
use Rattle.symbol_table.specs.declared.standings.Class.{Class}
use Rattle.algolw_tree.specs.declared.standard.Standard.{Standard}
use Rattle.algolw_tree.specs.declared.standard.Standard.TheVariants as standard
use Rattle.symbol_table.specs.declared.standings.Standing.{Standing}
use Rattle.symbol_table.specs.declared.standings.Standing.TheVariants as standing
use Rattle.symbol_table.specs.Contexts.{Scene, StandingFits, coding_context, numbers_in, phrase_context, place_of, stand_for}
use Rattle.symbol_table.specs.Heres.{in_statement}
use Rattle.symbol_table.specs.Parts.{actuals_in, lists_in}
use Rattle.symbol_table.specs.Standings.{standing_of}
use Rattle.symbol_table.specs.Symbols.{types_of}
use Rattle.symbol_table.proofs.Found.{name_stands_for}
use Rattle.symbol_table.proofs.Places.{numbered_place}
use Rattle.symbol_table.proofs.Placing.{class_named}
use Rattle.code_emitter.specs.declared.emitter.Emitter.{Emitter}
use Rattle.code_emitter.specs.Parts.{CodesPhrase, EmitterFits, is_plain, next, none_own, place_in, scene}
use Rattle.code_emitter.proofs.Joining.{codes_as, codes_is, codes_plain}
use Rattle.stack_codegen.specs.declared.lists.ListPlan.{ListPlan}
use Rattle.stack_codegen.specs.declared.lists.ListUse.TheVariants as list
use Rattle.stack_codegen.specs.Codable.{CodesNode, IsCodable, IsCodableActuals, IsCodableLists, sizes_known}
use Rattle.stack_codegen.specs.Listed.{AreParted, CodesPlan, ContinuesParts, ListedSuits, PartsSuit, begins_with_phrases, listed_marks, parts_given, phrase_count, plan_code, plan_here}
use Rattle.stack_codegen.specs.Names.{AloneFits, alone_instr, is_applied, list_plan, named_node, standard_plan, with_alone}
use Rattle.stack_codegen.specs.Names as names
use Rattle.symbol_table.specs.Contexts.{StandsAt}
use Rattle.symbol_table.proofs.There.{stands_there}
use Rattle.stack_codegen.proofs.StandsThere.{standing_fits}
use Rattle.value_ops.specs.declared.values.ClassId.{ClassId}
use Rattle.compilable_programs.specs.Begun.{IsStatement}
use Rattle.phrase_code.specs.Marks.{marks}
use Rattle.symbol_table.specs.declared.standings.Entry.{Entry}
use Rattle.code_emitter.specs.Parts.{code_at}
use Rattle.stack_codegen.specs.declared.lists.ListUse.{ListUse}
use Rattle.stack_codegen.proofs.StringParts.{parts_after, parts_suit}
use Rattle.stack_codegen.proofs.NamedParts.{NamedSuit, actuals_ready, alone_name, at, behind_ready, count_same, length_same, lists_ready, name_in_table, named_as, named_phrase, split_is, split_suits, statement}

-- ---- what is done with its list

by_plan : (P : ListPlan → Type 0) (p plan : ListPlan) → Some p ≡ Some plan → P p → P plan
by_plan P p plan h = subst P (some_inj h)

pub plan_plain : (here : Here) (u : Mode) (x : Standing) (n : ℕ) (plan : ListPlan) → list_plan here u x n ≡ Some plan → is_plain plan.does ≡ true
plan_plain here u (standing.Array t e) n plan h = by_plan (λ p. is_plain p.does ≡ true) _ plan h refl
plan_plain here u (standing.Class c) n plan h = by_plan (λ p. is_plain p.does ≡ true) _ plan h refl
plan_plain here u (standing.Field c k t) n plan h = by_plan (λ p. is_plain p.does ≡ true) _ plan h refl
plan_plain here u (standing.Standard (standard.Function op)) n plan h = by_plan (λ p. is_plain p.does ≡ true) _ plan h refl
plan_plain here u (standing.Standard (standard.Read on)) n plan h = by_plan (λ p. is_plain p.does ≡ true) _ plan h refl
plan_plain here u (standing.Standard standard.ReadCard) n plan h = by_plan (λ p. is_plain p.does ≡ true) _ plan h refl
plan_plain here u (standing.Standard standard.IoControl) n plan h = by_plan (λ p. is_plain p.does ≡ true) _ plan h refl
plan_plain here u x n plan h = absurd (cc h)

-- the class of a record or of a field is one of the table
class_held : (e : Emitter) → EmitterFits e → (c : ClassId) → c.0 < length e.code.given.class_places → c.0 < length e.code.given.classes.classes
class_held e fits c l = let same = fits.code.given.counted in omega (arith, same, l)

pub plan_fits : (e : Emitter) → EmitterFits e → (here : Here) (u : Mode) (x : Standing) (n : ℕ) (plan : ListPlan) → StandingFits (scene e) x → list_plan here u x n ≡ Some plan → InstrFits e.code.given e.code.added plan.does
plan_fits e fits here u (standing.Array t a) n plan k h = by_plan (λ p. InstrFits e.code.given e.code.added p.does) _ plan h tt
plan_fits e fits here u (standing.Class c) n plan k h = by_plan (λ p. InstrFits e.code.given e.code.added p.does) _ plan h (class_held e fits c.class k.0)
plan_fits e fits here u (standing.Field c i t) n plan k h = by_plan (λ p. InstrFits e.code.given e.code.added p.does) _ plan h (class_held e fits c k.0)
plan_fits e fits here u (standing.Standard (standard.Function op)) n plan k h = by_plan (λ p. InstrFits e.code.given e.code.added p.does) _ plan h tt
plan_fits e fits here u (standing.Standard (standard.Read on)) n plan k h = by_plan (λ p. InstrFits e.code.given e.code.added p.does) _ plan h tt
plan_fits e fits here u (standing.Standard standard.ReadCard) n plan k h = by_plan (λ p. InstrFits e.code.given e.code.added p.does) _ plan h tt
plan_fits e fits here u (standing.Standard standard.IoControl) n plan k h = by_plan (λ p. InstrFits e.code.given e.code.added p.does) _ plan h tt
plan_fits e fits here u x n plan k h = absurd (cc h)

-- ---- what suits

module _ (s : Scene) (node : Node) (name : ℕ) (here : Here) (u : Mode) (n : ℕ) (q : Place) (given : typed.Actuals) (rest : typed.Lists) where
  abbrev Suit : ListPlan → Type 0
  Suit p = ListedSuits p.list s given × PartsSuit p.whole s rest

  -- a phrase with the parts of a string that it is
  string_suits : (t : SimpleType) (a : Phrase) → Suits (sizes_known s) (parts_of (phrase_context s) (translating.length_of (kind_view s.given t)) a rest) → Suits (sizes_known s) a × PartsSuit (Some (names.length_of t)) s rest
  string_suits t a h =
      let k : Suits (sizes_known s) (parts_of (phrase_context s) (names.length_of t) a rest) = subst (λ m. Suits (sizes_known s) (parts_of (phrase_context s) m a rest)) (length_same s t) h in
      ((parts_suit (sizes_known s) (phrase_context s) (names.length_of t) a rest k).0, parts_after (sizes_known s) (phrase_context s) (names.length_of t) a rest k)

  abbrev first : Phrase
  first = first_of (given_of (phrase_context s) given)

  function_suits : (op : UnaryOp) → Suits (sizes_known s) (named_as s node name (standing.Standard (standard.Function op)) (typed.list_and (typed.OfActuals q given) rest)) → Suits (sizes_known s) first × PartsSuit (Some 1) s rest
  function_suits op h = ((parts_suit (sizes_known s) (phrase_context s) 1 (phrases.Unary op first) rest h).0, parts_after (sizes_known s) (phrase_context s) 1 (phrases.Unary op first) rest h)

  pub planned_suits : (x : Standing) (plan : ListPlan) → list_plan here u x n ≡ Some plan → Suits (sizes_known s) (named_as s node name x (typed.list_and (typed.OfActuals q given) rest)) → Suit plan
  planned_suits (standing.Array t e) plan h k = by_plan Suit _ plan h (string_suits t (phrases.Element (phrases.Named (at s name)) (given_of (phrase_context s) given)) k)
  planned_suits (standing.Class c) plan h k = by_plan Suit _ plan h (k, tt)
  planned_suits (standing.Field c i t) plan h k = by_plan Suit _ plan h (string_suits t (phrases.Field (class_place s.given c) i first) k)
  planned_suits (standing.Standard (standard.Function op)) plan h k = by_plan Suit _ plan h (function_suits op k)
  planned_suits (standing.Standard (standard.Read on)) plan h k = by_plan Suit _ plan h (k, tt)
  planned_suits (standing.Standard standard.ReadCard) plan h k = by_plan Suit _ plan h (k, tt)
  planned_suits (standing.Standard standard.IoControl) plan h k = by_plan Suit _ plan h (k, tt)
  planned_suits x plan h k = absurd (cc h)

-- ---- the code

-- its list is coded as planned
pub record Planned (a b : Emitter) (here : Here) (u : Mode) (node : Node) (name : ℕ) (x : Standing) (whole : Option ℕ) (q : Place) (given : typed.Actuals) (m : ℕ) : Type 0 where
  pub phrase : Phrase
  pub codes : CodesPhrase a b here u phrase m
  pub named : (rest : typed.Lists) → parts_given (phrase_context (scene a)) whole phrase rest ≡ named_as (scene a) node name x (typed.list_and (typed.OfActuals q given) rest)

-- in a statement the context is the same
pub in_statement_same : (s : Scene) (ts : List ℕ) (here : Here) (st : Option ℕ) → coding_context s ts (in_statement here st) ≡ coding_context s ts here
in_statement_same s ts here None = refl
in_statement_same s ts here (Some n) = refl

-- and the place is the statement's
pub statement_place : (s : Scene) (here : Here) (first : Place) (st : Option ℕ) → IsStatement (option_map (numbered s.given.statements) st) → place_in s (in_statement here st) ≡ translating.statement_at first (option_map (numbered s.given.statements) st)
statement_place s here start None h = absurd h
statement_place s here start (Some n) h = refl

module _ (a b : Emitter) (m : ℕ) (fits : EmitterFits a) (here : Here) (u : Mode) (node : Node) (name : ℕ) (known : name < length a.code.given.names) (x : Standing) (is : standing_of a.symbols.names name ≡ x) (there : StandsAt (scene a) (place_of (scene a) name) x) (begins : StatementIf (has standard_procedures (at (scene a) name)) (statement (scene a) node)) (q : Place) (actuals : List TypedActual) where
  abbrev s : Scene
  s = scene a

  abbrev given : typed.Actuals
  given = actuals_in (numbers_in s) actuals

  abbrev IsPlanned : Standing → ListPlan → Type 0
  IsPlanned y p = CodesPlan a b (plan_here p.begins here node.statement) p actuals m → Planned a b here u node name y p.whole q given m

  abbrev gs : phrases.Phrases
  gs = given_of (phrase_context s) given

  from_there : next a + 0 ≡ next a
  from_there = omega arith

  array_planned : (t : SimpleType) (e : Entry) → standing_of a.symbols.names name ≡ standing.Array t e → IsPlanned (standing.Array t e) (record { begins = false; list = Some list.Subscripts; does = held.Element u (here.level - e.level) e.position (phrase_count actuals); whole = Some (names.length_of t) })
  array_planned t e array part = record {
    phrase = phrases.Element (phrases.Named (at s name)) gs;
    codes = codes_as _ _ (λ ts h.
        let c : coding.Context = coding_context s ts here in
        let w : Place = place_in s here in
        ap (λ k. coding.code_each c w k gs ▸ one w (instr.Element (mode_view u) (here.level - e.level) e.position (phrase_count actuals))) from_there
        ∙ ap (λ n. coding.code_each c w (next a) gs ▸ one w (instr.Element (mode_view u) (here.level - e.level) e.position n)) (sym (count_same s actuals))
        ∙ ap (λ o. coding.code_each c w (next a) gs ▸ element_code c w (mode_view u) (coding.phrase_count gs) o) (sym (name_stands_for s ts here name fits.scene known ∙ ap (stand_for s ts (place_of s name)) array))) refl part;
    named = λ rest. ap (λ l. parts_of (phrase_context s) l (phrases.Element (phrases.Named (at s name)) gs) rest) (sym (length_same s t));
  }

  -- a class by its name
  class_by_name : (c : Class) → StandingFits s (standing.Class c) → class_place s.given c.class ≡ place_of s name → class_view s.given c.class ≡ name_at (phrase_context s) (at s name)
  class_by_name c f at_place = class_named s fits.scene c.class f.0 ∙ ap (name_at (phrase_context s)) (at_place ∙ sym (numbered_place s name))

  record_planned : (c : Class) → StandingFits s (standing.Class c) → class_place s.given c.class ≡ place_of s name → IsPlanned (standing.Class c) (record { begins = false; list = Some (list.Fields c); does = held.MakeRecord c.class (phrase_count actuals); whole = None })
  record_planned c f at_place part = record {
    phrase = phrases.Record (name_at (phrase_context s) (at s name)) (map (kind_view s.given) (types_of s.symbols c)) gs;
    codes = codes_as _ _ (λ ts h.
        let d : coding.Context = coding_context s ts here in
        let w : Place = place_in s here in
        let types : List ValueType = map (kind_view s.given) (types_of s.symbols c) in
        ap (λ k. coding.code_fields d w k types gs ▸ one w (instr.MakeRecord (class_view s.given c.class) (phrase_count actuals))) from_there
        ∙ ap (λ n. coding.code_fields d w (next a) types gs ▸ one w (instr.MakeRecord (class_view s.given c.class) n)) (sym (count_same s actuals))
        ∙ ap (λ v. coding.code_fields d w (next a) types gs ▸ one w (instr.MakeRecord v (coding.phrase_count gs))) (class_by_name c f at_place)) refl part;
    named = λ rest. refl;
  }

  field_planned : (c : ClassId) (i : ℕ) (t : SimpleType) → IsPlanned (standing.Field c i t) (record { begins = false; list = None; does = held.Field u c i; whole = Some (names.length_of t) })
  field_planned c i t part = record {
    phrase = phrases.Field (class_place s.given c) i (first_of gs);
    codes = codes_as _ _ (λ ts h.
        let d : coding.Context = coding_context s ts here in
        let w : Place = place_in s here in
        ap (λ k. coding.code d w instr.the_value k (first_of gs) ▸ one w (instr.Field (mode_view u) (class_place s.given c) i)) from_there) refl part;
    named = λ rest. ap (λ l. parts_of (phrase_context s) l (phrases.Field (class_place s.given c) i (first_of gs)) rest) (sym (length_same s t));
  }

  -- a standard function, as phrases have it
  function_planned : (op : UnaryOp) → IsPlanned (standing.Standard (standard.Function op)) (record { begins = false; list = None; does = held.Unary op; whole = Some 1 })
  function_planned op part = record {
    phrase = phrases.Unary op (first_of gs);
    codes = codes_as _ _ (λ ts h.
        let d : coding.Context = coding_context s ts here in
        let w : Place = place_in s here in
        ap (λ k. coding.code d w instr.the_value k (first_of gs) ▸ one w (instr.Unary op)) from_there) refl part;
    named = λ rest. refl;
  }

  -- what begins a statement
  abbrev st : Place
  st = translating.statement_at node.first (statement s node)

  is_begun : has standard_procedures (place_of s name) ≡ true → IsStatement (statement s node)
  is_begun h = subst (λ o. StatementIf o (statement s node)) (ap (has standard_procedures) (numbered_place s name) ∙ h) begins

  begun_planned : (y : Standing) (use_ : Option ListUse) (does : Instr) (f : coding.Context → Place → List code.Coded) (p : Phrase)
      → has standard_procedures (place_of s name) ≡ true
      → ((ts : List ℕ) → plan_code s (in_statement here node.statement) (next a) (record { begins = true; list = use_; does = does; whole = None }) given ts ≡ f (coding_context s ts (in_statement here node.statement)) (place_in s (in_statement here node.statement)))
      → ((ts : List ℕ) → f (coding_context s ts here) st ≡ code_at s here u (next a) p ts)
      → listed_marks s use_ given ≡ marks p
      → ((rest : typed.Lists) → p ≡ named_as s node name y (typed.list_and (typed.OfActuals q given) rest))
      → IsPlanned y (record { begins = true; list = use_; does = does; whole = None })
  begun_planned y use_ does f p h planned coded marked named part = record {
    phrase = p;
    codes = codes_as _ _ (λ ts k.
        planned ts
        ∙ ap (λ w. f (coding_context s ts (in_statement here node.statement)) w) (statement_place s here node.first node.statement (is_begun h))
        ∙ ap (λ c. f c st) (in_statement_same s ts here node.statement)
        ∙ coded ts) marked part;
    named = named;
  }

  read_planned : (on : Bool) → has standard_procedures (place_of s name) ≡ true → IsPlanned (standing.Standard (standard.Read on)) (names.transfer (list.Read on))
  read_planned on h = begun_planned (standing.Standard (standard.Read on)) (Some (list.Read on)) held.Nothing (λ c w. one w instr.Begin ▸ coding.code_reads c w on (next a + 1) (targets_of (phrase_context s) given) ▸ one w instr.Nothing) (phrases.Read st on (targets_of (phrase_context s) given)) h (λ ts. refl) (λ ts. refl) refl (λ rest. refl)

  -- a standard procedure stands at a place of these
  procedure_there : {k : Standard} → standing.Standard k ≡ x → is_procedure k ≡ true → has standard_procedures (place_of s name) ≡ true
  procedure_there o = subst (StandsAt s (place_of s name)) (sym o) there

  pub planned : (y : Standing) → y ≡ x → (plan : ListPlan) → list_plan here u y (phrase_count actuals) ≡ Some plan → IsPlanned y plan
  planned (standing.Array t e) o plan h = by_plan (IsPlanned (standing.Array t e)) _ plan h (array_planned t e (is ∙ sym o))
  planned (standing.Class c) o plan h =
      by_plan (IsPlanned (standing.Class c)) _ plan h
      (record_planned c (subst (StandingFits s) (is ∙ sym o) (standing_fits s fits.scene name)) (subst (StandsAt s (place_of s name)) (sym o) there))
  planned (standing.Field c i t) o plan h = by_plan (IsPlanned (standing.Field c i t)) _ plan h (field_planned c i t)
  planned (standing.Standard (standard.Function op)) o plan h = by_plan (IsPlanned (standing.Standard (standard.Function op))) _ plan h (function_planned op)
  planned (standing.Standard (standard.Read on)) o plan h = by_plan (IsPlanned (standing.Standard (standard.Read on))) _ plan h (read_planned on (procedure_there o refl))
  planned (standing.Standard standard.ReadCard) o plan h =
      by_plan (IsPlanned (standing.Standard standard.ReadCard)) _ plan h
      (begun_planned (standing.Standard standard.ReadCard) (Some list.ReadCard) held.Nothing (λ c w. one w instr.Begin ▸ coding.code_cards c w (next a + 1) (targets_of (phrase_context s) given) ▸ one w instr.Nothing) (phrases.ReadCard st (targets_of (phrase_context s) given)) (procedure_there o refl) (λ ts. refl) (λ ts. refl) refl (λ rest. refl))
  planned (standing.Standard standard.IoControl) o plan h =
      by_plan (IsPlanned (standing.Standard standard.IoControl)) _ plan h
      (begun_planned (standing.Standard standard.IoControl) None held.IoControl (λ c w. one w instr.Begin ▸ coding.code c w instr.the_value (next a + 1) (first_of gs) ▸ one w instr.IoControl) (phrases.IoControl st (first_of gs)) (procedure_there o refl) (λ ts. refl) (λ ts. refl) refl (λ rest. refl))
  planned y o plan h = absurd (cc h)

-- ---- a name with its lists

-- what is behind a name may be coded, as it is planned
pub planned_ready : (e : Emitter) (here : Here) (u : Mode) (node : Node) (name : ℕ) (lists : List TypedList) (actuals : List TypedActual) (rest : List TypedList) (n : ℕ) (plan : ListPlan) → AreParted lists actuals rest → list_plan here u (standing_of e.symbols.names name) n ≡ Some plan → IsCodable e (named_node node name lists) → IsCodableActuals e actuals (ListedSuits plan.list) × IsCodableLists e rest (PartsSuit plan.whole)
planned_ready e here u node name lists actuals rest n plan parted h r =
    let x : Standing = standing_of e.symbols.names name in
    let ready = lists_ready e node name x lists refl r in
    let suit = planned_suits (scene e) node name here u n (parted (numbers_in (scene e))).0 (actuals_in (numbers_in (scene e)) actuals) (lists_in (numbers_in (scene e)) rest) x plan h (split_suits e lists actuals rest parted (NamedSuit node name x) ready) in
    (actuals_ready e lists actuals rest parted (NamedSuit node name x) ready (ListedSuits plan.list) suit.0, behind_ready e lists actuals rest parted (NamedSuit node name x) ready (PartsSuit plan.whole) suit.1)

pub applied_done : {a b d : Emitter} {m k : ℕ} (here : Here) (u : Mode) (node : Node) (name : ℕ) (lists : List TypedList) (actuals : List TypedActual) (rest : List TypedList) (plan : ListPlan) → AreParted lists actuals rest → list_plan here u (standing_of a.symbols.names name) (phrase_count actuals) ≡ Some plan → IsCodable a (named_node node name lists) → CodesPlan a b (plan_here plan.begins here node.statement) plan actuals m → ContinuesParts b d here plan.whole rest m k → CodesNode a d here u (named_node node name lists) k
applied_done {a} {b} {d} {m} {k} here u node name lists actuals rest plan parted h r part more =
    let s : Scene = scene a in
    let x : Standing = standing_of a.symbols.names name in
    let known = name_in_table a node name lists r in
    let q : Place = (parted (numbers_in s)).0 in
    let p : Planned a b here u node name x plan.whole q (actuals_in (numbers_in s) actuals) m =
    planned a b m r.fits here u node name known x refl (stands_there s r.fits.scene name) r.begun.0 q actuals x refl plan h part in
    let first : CodesPhrase a d here u (parts_given (phrase_context (scene b)) plan.whole p.phrase (lists_in (numbers_in (scene b)) rest)) k = more u a p.phrase p.codes in
    let here_too : CodesPhrase a d here u (parts_given (phrase_context s) plan.whole p.phrase (lists_in (numbers_in s) rest)) k =
    subst (λ (t : Scene). CodesPhrase a d here u (parts_given (phrase_context t) plan.whole p.phrase (lists_in (numbers_in t) rest)) k) p.codes.stays.scene first in
    subst (λ y. CodesPhrase a d here u y k)
    (p.named (lists_in (numbers_in s) rest) ∙ ap (named_as s node name x) (sym (split_is a lists actuals rest parted)) ∙ sym (named_phrase s node name x lists r.fits.scene known refl)) here_too

-- ---- a name alone

-- no list is behind it that it takes
abbrev pub StandsAlone : Here → Mode → Standing → List TypedList → Type 0
StandsAlone here u x lists = ((ns : Numbers) → begins_with_phrases (lists_in ns lists) ≡ false) ⊎ ((n : ℕ) × (list_plan here u x n ≡ None))

-- what it is
abbrev alone_as : Scene → ℕ → Standing → Phrase
alone_as s name (standing.Class c) = phrases.RecordAlone (name_at (phrase_context s) (at s name)) (number_of (map (kind_view s.given) (types_of s.symbols c)))
alone_as s name (standing.Standard standard.MaxInteger) = phrases.Constant (value.Integer (pos 2147483647))
alone_as s name (standing.Standard (standard.Variable width)) = phrases.Variable (variable_of width)
alone_as s name x = phrases.Named (at s name)

module _ (s : Scene) (node : Node) (name : ℕ) where
  abbrev pub As : translating.Declared → typed.Lists → Phrase
  As d lists = named_of (phrase_context s) node.place node.first (statement s node) (at s name) d lists

  none_of_class : (types : List ValueType) (lists : typed.Lists) → begins_with_phrases lists ≡ false → As (translating.a_class types) lists ≡ phrases.RecordAlone (name_at (phrase_context s) (at s name)) (number_of types)
  none_of_class types typed.no_lists h = refl
  none_of_class types (typed.list_and (typed.OfPart q start n) rest) h = refl
  none_of_class types (typed.list_and (typed.OfActuals q given) rest) h = absurd (cc h)

  none_of_array : (t : ValueType) (lists : typed.Lists) → begins_with_phrases lists ≡ false → As (translating.an_array t) lists ≡ phrases.Named (at s name)
  none_of_array t typed.no_lists h = refl
  none_of_array t (typed.list_and (typed.OfPart q start n) rest) h = refl
  none_of_array t (typed.list_and (typed.OfActuals q given) rest) h = absurd (cc h)

  none_of_field : (c : Place) (i : ℕ) (t : ValueType) (lists : typed.Lists) → begins_with_phrases lists ≡ false → As (translating.a_field c i t) lists ≡ phrases.Named (at s name)
  none_of_field c i t typed.no_lists h = refl
  none_of_field c i t (typed.list_and (typed.OfPart q start n) rest) h = refl
  none_of_field c i t (typed.list_and (typed.OfActuals q given) rest) h = absurd (cc h)

  -- but for MAXINTEGER and the standard variables, which are what they are with any lists
  abbrev pub is_itself : Standard → Bool
  is_itself standard.MaxInteger = true
  is_itself (standard.Variable width) = true
  is_itself k = false

  pub none_of_standard : (k : Standard) (lists : typed.Lists) → is_itself k ≡ false → begins_with_phrases lists ≡ false → As (translating.a_standard_name k) lists ≡ phrases.Named (at s name)
  none_of_standard standard.MaxInteger lists other h = absurd (cc other)
  none_of_standard (standard.Variable width) lists other h = absurd (cc other)
  none_of_standard k typed.no_lists other h = refl
  none_of_standard k (typed.list_and (typed.OfPart q start n) rest) other h = refl
  none_of_standard k (typed.list_and (typed.OfActuals q given) rest) other h = absurd (cc h)

  greatest : (lists : typed.Lists) → As (translating.a_standard_name standard.MaxInteger) lists ≡ phrases.Constant (value.Integer (pos 2147483647))
  greatest lists = refl

  module _ (here : Here) (u : Mode) (lists : List TypedList) where
    abbrev ls : typed.Lists
    ls = lists_in (numbers_in s) lists

    alone_named : (x : Standing) → is_applied x ≡ true → StandsAlone here u x lists → named_as s node name x ls ≡ alone_as s name x
    alone_named standing.Unknown a h = refl
    alone_named (standing.Control e) a h = refl
    alone_named (standing.Label e target) a h = refl
    alone_named (standing.Class c) a (inl h) = none_of_class (map (kind_view s.given) (types_of s.symbols c)) ls (h (numbers_in s))
    alone_named (standing.Array t e) a (inl h) = none_of_array (kind_view s.given t) ls (h (numbers_in s))
    alone_named (standing.Field c i t) a (inl h) = none_of_field (class_place s.given c) i (kind_view s.given t) ls (h (numbers_in s))
    alone_named (standing.Standard (standard.Function op)) a (inl h) = none_of_standard (standard.Function op) ls refl (h (numbers_in s))
    alone_named (standing.Standard (standard.Read on)) a (inl h) = none_of_standard (standard.Read on) ls refl (h (numbers_in s))
    alone_named (standing.Standard standard.ReadCard) a (inl h) = none_of_standard standard.ReadCard ls refl (h (numbers_in s))
    alone_named (standing.Standard standard.IoControl) a (inl h) = none_of_standard standard.IoControl ls refl (h (numbers_in s))
    alone_named (standing.Standard standard.MaxInteger) a h = greatest ls
    alone_named (standing.Standard (standard.Variable width)) a h = refl
    alone_named (standing.Class c) a (inr h) = let e = h.1 in absurd (cc e)
    alone_named (standing.Array t e) a (inr h) = let e = h.1 in absurd (cc e)
    alone_named (standing.Field c i t) a (inr h) = let e = h.1 in absurd (cc e)
    alone_named (standing.Standard (standard.Function op)) a (inr h) = let e = h.1 in absurd (cc e)
    alone_named (standing.Standard (standard.Read on)) a (inr h) = let e = h.1 in absurd (cc e)
    alone_named (standing.Standard standard.ReadCard) a (inr h) = let e = h.1 in absurd (cc e)
    alone_named (standing.Standard standard.IoControl) a (inr h) = let e = h.1 in absurd (cc e)
    alone_named x a h = absurd (cc a)

-- as many fields as it has
number_mapped : (f : SimpleType → ValueType) (types : List SimpleType) → number_of (map f types) ≡ length types
number_mapped f [] = refl
number_mapped f (t ∷ types) = ap suc (number_mapped f types)

fields_counted : (s : Scene) (c : Class) → c.fields + c.count ≤ length s.symbols.fields → c.count ≡ number_of (map (kind_view s.given) (types_of s.symbols c))
fields_counted s c l =
    let mapped = number_mapped (kind_view s.given) (types_of s.symbols c) in
    let taken = length-take c.count (drop c.fields s.symbols.fields) in
    let left = length-drop c.fields s.symbols.fields in
    omega (arith, mapped, taken, left, l)

module _ (a b : Emitter) (fits : EmitterFits a) (here : Here) (u : Mode) (name : ℕ) (known : name < length a.code.given.names) where
  alone_codes : (x : Standing) → standing_of a.symbols.names name ≡ x → is_applied x ≡ true → StandingFits (scene a) x → StandsAt (scene a) (place_of (scene a) name) x → b ≡ with_alone a here u x (alone_instr u x) → CodesPhrase a b here u (alone_as (scene a) name x) 0
  alone_codes (standing.Class c) is o f at_place e =
      let s : Scene = scene a in
      let named : class_view s.given c.class ≡ name_at (phrase_context s) (at s name) = class_named s fits.scene c.class f.0 ∙ ap (name_at (phrase_context s)) (at_place ∙ sym (numbered_place s name)) in
      codes_as _ 0 (λ ts h.
      ap (λ v. one (place_in s here) (instr.MakeRecordAlone v c.count)) named
      ∙ ap (λ n. one (place_in s here) (instr.MakeRecordAlone (name_at (phrase_context s) (at s name)) n)) (fields_counted s c f.1)) refl
      (codes_is e (codes_plain none_own a here (held.MakeRecordAlone c.class c.count) fits.code (class_held a fits c.class f.0) refl))
  alone_codes (standing.Standard standard.MaxInteger) is o f at_place e = codes_is e (codes_plain none_own a here (held.Constant (constant.Integer (pos 2147483647))) fits.code tt refl)
  alone_codes (standing.Standard (standard.Variable width)) is o f at_place e = codes_is e (codes_plain none_own a here (held.Standard u width) fits.code tt refl)
  alone_codes standing.Unknown is o f at_place e = alone_name here u name standing.Unknown fits known is e
  alone_codes (standing.Control x) is o f at_place e = alone_name here u name (standing.Control x) fits known is e
  alone_codes (standing.Label x target) is o f at_place e = alone_name here u name (standing.Label x target) fits known is e
  alone_codes (standing.Array t x) is o f at_place e = alone_name here u name (standing.Array t x) fits known is e
  alone_codes (standing.Field c i t) is o f at_place e = alone_name here u name (standing.Field c i t) fits known is e
  alone_codes (standing.Standard (standard.Function op)) is o f at_place e = alone_name here u name (standing.Standard (standard.Function op)) fits known is e
  alone_codes (standing.Standard (standard.Read on)) is o f at_place e = alone_name here u name (standing.Standard (standard.Read on)) fits known is e
  alone_codes (standing.Standard standard.ReadCard) is o f at_place e = alone_name here u name (standing.Standard standard.ReadCard) fits known is e
  alone_codes (standing.Standard standard.IoControl) is o f at_place e = alone_name here u name (standing.Standard standard.IoControl) fits known is e
  alone_codes x is o f at_place e = absurd (cc o)

pub alone_fits : (e : Emitter) → EmitterFits e → (u : Mode) (name : ℕ) → AloneFits e (alone_instr u (standing_of e.symbols.names name))
alone_fits e fits u name = by (standing_of e.symbols.names name) (standing_fits (scene e) fits.scene name)
  where
    by : (x : Standing) → StandingFits (scene e) x → AloneFits e (alone_instr u x)
    by (standing.Class c) f = class_held e fits c.class f.0
    by (standing.Standard standard.MaxInteger) f = tt
    by (standing.Standard k) f = tt
    by x f = tt

pub alone_done : {a b : Emitter} {m : ℕ} (here : Here) (u : Mode) (node : Node) (name : ℕ) (lists : List TypedList) → IsCodable a (named_node node name lists) → is_applied (standing_of a.symbols.names name) ≡ true → StandsAlone here u (standing_of a.symbols.names name) lists → b ≡ with_alone a here u (standing_of a.symbols.names name) (alone_instr u (standing_of a.symbols.names name)) → m ≡ 0 → CodesNode a b here u (named_node node name lists) m
alone_done {a} {b} here u node name lists r applied alone e none =
    let s : Scene = scene a in
    let x : Standing = standing_of a.symbols.names name in
    let known = name_in_table a node name lists r in
    let coded = alone_codes a b r.fits here u name known x refl applied (standing_fits s r.fits.scene name) (stands_there s r.fits.scene name) e in
    subst (λ n. CodesNode a b here u (named_node node name lists) n) (sym none)
    (subst (λ y. CodesPhrase a b here u y 0) (sym (named_phrase s node name x lists r.fits.scene known refl ∙ alone_named s node name here u lists x applied alone)) coded)

-- ---- told by the code's own values

pub plan_told : (here : Here) (u : Mode) (x y : Standing) (n k : ℕ) (r : Option ListPlan) (plan : ListPlan) → x ≡ y → n ≡ k → r ≡ list_plan here u x n → r ≡ Some plan → list_plan here u y k ≡ Some plan
plan_told here u x y n k r plan same count told is = sym (ap (λ z. list_plan here u z k) same) ∙ sym (ap (list_plan here u x) count) ∙ sym told ∙ is

pub none_told : (here : Here) (u : Mode) (x : Standing) (n : ℕ) (r : Option ListPlan) → r ≡ list_plan here u x n → r ≡ None → (k : ℕ) × (list_plan here u x k ≡ None)
none_told here u x n r told is = (n, sym told ∙ is)

pub alone_told : {a b : Emitter} {m : ℕ} (here : Here) (u : Mode) (node : Node) (name : ℕ) (lists : List TypedList) (x : Standing) → x ≡ standing_of a.symbols.names name → IsCodable a (named_node node name lists) → is_applied (standing_of a.symbols.names name) ≡ true → StandsAlone here u x lists → m ≡ 0 → b ≡ with_alone a here u x (alone_instr u x) → CodesNode a b here u (named_node node name lists) m
alone_told {a} {b} here u node name lists x same r applied alone none e =
    alone_done here u node name lists r applied (subst (λ y. StandsAlone here u y lists) same alone) (subst (λ y. b ≡ with_alone a here u y (alone_instr u y)) same e) none

pub alone_fit : (e : Emitter) → EmitterFits e → (u : Mode) (name : ℕ) (x : Standing) → x ≡ standing_of e.symbols.names name → AloneFits e (alone_instr u x)
alone_fit e fits u name x same = subst (λ y. AloneFits e (alone_instr u y)) (sym same) (alone_fits e fits u name)

-- what is ensured in two clauses
pub both_ensured : {E : Type 0} (r : Result ℕ AllocError) (Q : ℕ → Type 0) → IfOk r (λ m. m ≡ 0) → OnOk r E → ((m : ℕ) → m ≡ 0 → E → Q m) → IfOk r Q
both_ensured (Ok m) Q z e f = f m z e
both_ensured (Err x) Q z e f = tt
