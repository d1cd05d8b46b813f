-- What phrases do keeps states so that they hold texts alone.
use Rattle.std.proofs.Common.{◌≡◌, ℕ, zero, suc, ◌+◌, ◌-◌, ◌*◌, ℤ, pos, ◌+ℤ◌, List, [], ◌∷◌, length, map, All, refl}
use Rattle.std.specs.Prelude.{⊤, Option, Some, None, Bool, true, false, replicate, nat_lt, Result, Ok, Err}
use Rattle.std.specs.Ordering.{int_eq}
use Rattle.std.proofs.lemmas.List.Elements.{All-nil, All-cons, All-replicate}
use Rattle.value_ops.specs.declared.places.Place.{Place}
use Rattle.value_ops.specs.declared.faults.Fault.{Fault}
use Rattle.value_ops.specs.declared.faults.Fault.TheVariants as fault
use Rattle.value_ops.specs.declared.values.Value.{Value}
use Rattle.value_ops.specs.declared.values.Value.TheVariants as value
use Rattle.value_ops.specs.Integers.{sum, difference, product, quotient, remainder, negated, absolute}
use Rattle.value_ops.specs.Bits.{shifted}
use Rattle.value_ops.specs.Strings.{part, character}
use Rattle.algolw_tree.specs.declared.phrases.Op.{Op}
use Rattle.algolw_tree.specs.declared.phrases.Op.TheVariants as op
use Rattle.algolw_tree.specs.declared.phrases.RelOp.{RelOp}
use Rattle.algolw_tree.specs.declared.phrases.RelOp.TheVariants as rel
use Rattle.algolw_tree.specs.declared.standard.UnaryOp.{UnaryOp}
use Rattle.algolw_tree.specs.declared.standard.UnaryOp.TheVariants.{Minus, Absolute, Not, Complement, IsOdd, ToBits, ToNumber, ToCharacter, ToCode}
use Rattle.algolw_typing.specs.Types.{ValueType, Gives, Statement, Simple}
use Rattle.algolw_typing.specs.Meanings.{FormalType, by_name, by_value, by_result, by_value_result, for_array, for_procedure}
use Rattle.program_meaning.specs.Phrases.{Phrase, Empty, Constant, Named, Variable, Array, Label, Procedure, Copied, Unary, Binary, Relation, IsClass, Element, Field, Part, Record, RecordAlone, IfThen, Case, Block, Call, Assign, WhileDo, ForStep, ForList, Goto, Assert, Write, Read, ReadCard, IoControl, Phrases, no_phrases, phrase_and, Targets, no_targets, target_and, Subscripts, no_subscripts, star_and, subscript_and, Actuals, no_actuals, actual_and, Actual, Given, Alone, Subarray, Items, no_items, item_and, Bounds, no_bounds, bound_and, Decls, no_decls, variables_and, arrays_and, procedure_and, Name, Formal, Mark, label_places, Role, placed, sets}
use Rattle.program_meaning.specs.Widths.{WidthsSet, none_set, with_width}
use Rattle.program_meaning.specs.Operations.{Answer, integer, bits, string, code_of, unary, binary, holds_of_equals, relation}
use Rattle.program_meaning.specs.State as state
use Rattle.program_meaning.specs.State.{State, Outcome, on, jump, stop, M, Setting, wrong, Use, for_value, for_place, nothing, a_value, a_number, in_block, in_call, in_actual, in_turn, ◌>>=◌, ◌>>◌, give, halt, begin, innermost, value_of, integer_of, truth_of, filled_in, all_within, subscripted, for_an_array, Made, made_here, back_to, is_own, caught, catching}
use Rattle.program_meaning.specs.Copying.{Firsts, shown, value_held, read_type, has_turn, case_number, cells_of, from, assigned}
use Rattle.program_meaning.specs.Environments as env
use Rattle.program_meaning.specs.Environments.{Env, empty, bind, find, Bodied, Meant, Thing, to_constant, to_variable, to_array, to_label, to_procedure, thunk, extend, head}
use Rattle.printed_lines.specs.Texts.{IsText, ValueHolds}
use Rattle.printed_lines.specs.Phrases.{NameHolds, FormalHolds, PhraseHolds, PhrasesHold, TargetsHold, SubscriptsHold, ActualsHold, ActualHolds, ItemsHold, BoundsHold, DeclsHold}
use Rattle.printed_lines.specs.States.{VariableHolds, ShownHolds, EntryHolds}
use Rattle.printed_lines.proofs.Texts.{ResultHolds, text_part, text_character}
use Rattle.printed_lines.proofs.Holding.{EnvHolds, ThingHolds, MaybeHolds, MeantHold, BodiedHolds, Holding, Held, Holds, Any, GivenHolds, AnswerHolds, ReadyHolds, ReadyHold, BoundHolds, find_holds, head_holds, extend_holds, holds_bind, holds_then, held_at, holds_test, holds_give, holds_any, holds_wrong, holds_fault, holds_tick, holds_begin, holds_take, holds_back, holds_deeper, holds_shallower, holds_holding, holds_under, holds_entered, holds_value, holds_spot, holds_integer, holds_truth, holds_string_in, holds_record_in, holds_answer, holds_only, holds_look, holds_variable, holds_made, holds_made_result, holds_assign, holds_the_array, holds_element, holds_make_record, holds_field, holds_class, holds_within, holds_string_answer, holds_scan, holds_take_card, holds_io_control, holds_written, holds_no_actuals, holds_procedure_handed, holds_array_handed, holds_bound, holds_compared, holds_the_procedure, holds_fresh, holds_opened, holds_variables, holds_arrays, holds_firsts, holds_cells_held, holds_set_cells}

-- ---- operators

integer_holds : (r : Result ℤ Fault) → AnswerHolds (integer r)
integer_holds (Ok n) = tt
integer_holds (Err f) = tt

bits_hold : (r : Result ℕ Fault) → AnswerHolds (bits r)
bits_hold (Ok n) = tt
bits_hold (Err f) = tt

string_holds : (r : Result (List ℕ) Fault) → ResultHolds r → AnswerHolds (string r)
string_holds (Ok s) h = h
string_holds (Err f) h = tt

code_holds : (s : List ℕ) → AnswerHolds (code_of s)
code_holds [] = tt
code_holds (c ∷ s) = tt

unary_holds : (o : UnaryOp) (v : Value) → AnswerHolds (unary o v)
unary_holds Minus (value.Integer n) = integer_holds (negated n)
unary_holds Absolute (value.Integer n) = integer_holds (absolute n)
unary_holds ToCharacter (value.Integer n) = string_holds (character n) (text_character n)
unary_holds ToCode (value.Str s) = code_holds s
unary_holds Not (value.Logical b) = tt
unary_holds Complement (value.Bits b) = tt
unary_holds IsOdd (value.Integer n) = tt
unary_holds ToBits (value.Integer n) = tt
unary_holds ToNumber (value.Bits b) = tt
unary_holds o v = tt

binary_holds : (o : Op) (u v : Value) → AnswerHolds (binary o u v)
binary_holds op.Plus (value.Integer m) (value.Integer n) = integer_holds (sum m n)
binary_holds op.Minus (value.Integer m) (value.Integer n) = integer_holds (difference m n)
binary_holds op.Times (value.Integer m) (value.Integer n) = integer_holds (product m n)
binary_holds op.Div (value.Integer m) (value.Integer n) = integer_holds (quotient m n)
binary_holds op.Rem (value.Integer m) (value.Integer n) = integer_holds (remainder m n)
binary_holds op.Shl (value.Bits b) (value.Integer n) = bits_hold (shifted true b n)
binary_holds op.Shr (value.Bits b) (value.Integer n) = bits_hold (shifted false b n)
binary_holds op.And (value.Bits a) (value.Bits b) = tt
binary_holds op.Or (value.Bits a) (value.Bits b) = tt
binary_holds o u v = tt

equals_hold : (o : RelOp) (same : Bool) → AnswerHolds (holds_of_equals o same)
equals_hold rel.Equal same = tt
equals_hold rel.NotEqual same = tt
equals_hold o same = tt

relation_holds : (o : RelOp) (u v : Value) → AnswerHolds (relation o u v)
relation_holds o (value.Integer m) (value.Integer n) = tt
relation_holds o (value.Str s) (value.Str t) = tt
relation_holds o (value.Logical a) (value.Logical b) = equals_hold o _
relation_holds o (value.Bits a) (value.Bits b) = equals_hold o _
relation_holds o (value.Reference a) (value.Reference b) = equals_hold o _
relation_holds o u v = tt

-- ---- actuals

holds_value_ready : {m : M Bodied state.Given} (w : Place) (t : ValueType) → Holds GivenHolds m → Holds ReadyHolds (env.value_ready w t m)
holds_value_ready w t h = holds_bind (holds_value w h) (λ v p. holds_bind (holds_made w t v p) (λ u q. holds_give (env.with_value u) q))

holds_phrase_ready : {m : M Bodied state.Given} (f : FormalType) (w : Place) (v : Bool) (g : Gives) (first : Place) (a : Phrase) (e : Env) → PhraseHolds a → EnvHolds e → Holds GivenHolds m → Holds ReadyHolds (env.phrase_ready f w m v g first a e)
holds_phrase_ready (by_value t) w v g first a e p q h = holds_value_ready w t h
holds_phrase_ready (by_value_result t) w v g first a e p q h = holds_value_ready w t h
holds_phrase_ready (by_result t) w v g first a e p q h = holds_give env.without_value tt
holds_phrase_ready (by_name t) w v g first a e p q h = holds_give _ (p, q)
holds_phrase_ready (for_procedure result) w v g first a e p q h = holds_give _ (p, q)
holds_phrase_ready (for_array t n) w v g first a e p q h = holds_wrong w

holds_name_ready : {m : M Bodied state.Given} (f : FormalType) (w p : Place) (a : Phrase) (e : Env) → PhraseHolds a → EnvHolds e → Holds GivenHolds m → Holds ReadyHolds (env.name_ready f w m p a e)
holds_name_ready (by_value t) w p a e k q h = holds_value_ready w t h
holds_name_ready (by_name t) w p a e k q h = holds_give _ ((k, tt), q)
holds_name_ready (for_procedure result) w p a e k q h = holds_procedure_handed w (head e a) (head_holds e a q k)
holds_name_ready (for_array t n) w p a e k q h = holds_array_handed w (head e a)
holds_name_ready (by_result t) w p a e k q h = holds_wrong w
holds_name_ready (by_value_result t) w p a e k q h = holds_wrong w

holds_for_an_array : {A : Type 0} {G : A → Type 0} {m : M Bodied A} (w : Place) (f : FormalType) → Holds G m → Holds G (for_an_array w f m)
holds_for_an_array w (for_array t n) h = h
holds_for_an_array w (by_value t) h = holds_wrong w
holds_for_an_array w (by_name t) h = holds_wrong w
holds_for_an_array w (by_result t) h = holds_wrong w
holds_for_an_array w (by_value_result t) h = holds_wrong w
holds_for_an_array w (for_procedure result) h = holds_wrong w

holds_give_back_value : {m : M Bodied state.Given} (w : Place) (g : Gives) (t : Thing) → Holds GivenHolds m → Holds Any (env.give_back_value w m g t)
holds_give_back_value w (Simple ty) (to_variable k) h = holds_bind (holds_spot w h) (λ spot p. holds_bind (holds_look w k) (λ v q. holds_assign w ty spot v q))
holds_give_back_value w g t h = holds_wrong w

holds_assigned_back : {m : M Bodied state.Given} (f : FormalType) (w : Place) (g : Gives) (t : Thing) → Holds GivenHolds m → Holds Any (env.assigned_back f w m g t)
holds_assigned_back (by_result ty) w g t h = holds_give_back_value w g t h
holds_assigned_back (by_value_result ty) w g t h = holds_give_back_value w g t h
holds_assigned_back f w g t h = holds_any tt

holds_value_held : {m : M Bodied (Unit {0})} (t : Option ValueType) (w : Place) → Holds Any m → Holds Any (value_held t w m)
holds_value_held None w h = h
holds_value_held (Some t) w h = holds_holding w h

-- a statement gives nothing, or the value that it assigned
assigned_holds : (st : Option Place) (v : Value) → ValueHolds v → GivenHolds (assigned st v)
assigned_holds None v h = h
assigned_holds (Some st) v h = tt

-- ---- blocks

caught_holds : (b : Made) (k : ℕ → M Bodied state.Given) → All EntryHolds b.active → ((j : ℕ) → Holds GivenHolds (k j)) → (r : Outcome Bodied state.Given) → Held GivenHolds r → Held GivenHolds (caught b k r)
caught_holds b k a h (on v t) p = p
caught_holds b k a h (jump l t) p = held_at GivenHolds (is_own b l) _ _ ((h (l - b.first)).by (back_to b t) (p.0, p.1, p.2, a, p.4)) p
caught_holds b k a h (stop y w t) p = p

holds_catching : (l n : ℕ) (m : M Bodied state.Given) (k : Made → ℕ → M Bodied state.Given) → Holds GivenHolds m → ((b : Made) (j : ℕ) → All EntryHolds b.active → Holds GivenHolds (k b j)) → Holds GivenHolds (made_here l n >>= λ b. catching b (k b) m)
holds_catching l n m k h g = record {
  by = λ s p.
      let b : Made = record { first = l; count = n; cells = s.cells; depth = s.depth; active = s.active } in
      caught_holds b (k b) p.3 (λ j. g b j p.3) (m s) (h.by s p);
}

-- ---- what is done

abbrev pub JobHolds : env.Job → Type 0
JobHolds (env.phrase_job u w a e) = PhraseHolds a × EnvHolds e
JobHolds (env.while_job w c body e) = PhraseHolds c × PhraseHolds body × EnvHolds e
JobHolds (env.step_job w x i j k body e) = NameHolds x × PhraseHolds body × EnvHolds e
JobHolds (env.list_job w x i body e) = NameHolds x × PhraseHolds body × EnvHolds e
JobHolds (env.items_job b w items e k) = All EntryHolds b.active × ItemsHold items × EnvHolds e

from_at : (b : Bool) (x y : Items) → ItemsHold x → ItemsHold y → ItemsHold (elim b [ true ↦ x | false ↦ y ])
from_at true x y h k = h
from_at false x y h k = k

from_holds : (k : ℕ) (is : Items) → ItemsHold is → ItemsHold (from k is)
from_holds k no_items h = tt
from_holds k (item_and labels a rest) h = from_at (nat_lt k (length labels)) (item_and labels a rest) (from (k - length labels) rest) h (from_holds (k - length labels) rest h.1)

module _ (set : Setting) (cards : All IsText set.cards) (later : env.Job → M Bodied state.Given) (hl : (job : env.Job) → JobHolds job → Holds GivenHolds (later job)) where
  holds_copied : (u : Use) (w : Place) (m : Mark) (a : Phrase) (e : Env) → PhraseHolds a → EnvHolds e → Holds GivenHolds (env.copied set later u w m a e)
  holds_copied for_value w m a e p q = holds_then (holds_tick set w) (holds_bind (holds_entered w (in_actual m.first) tt (hl (env.phrase_job for_value m.statement a e) (p, q))) (λ r g. holds_made_result w m.type r g))
  holds_copied for_place w m a e p q = holds_then (holds_tick set w) (holds_test m.is_variable (holds_entered w (in_actual m.first) tt (hl (env.phrase_job for_place m.statement a e) (p, q))) (holds_fault fault.AssignmentToNoVariable w))

  holds_named : (u : Use) (w : Place) (o : Option Thing) → MaybeHolds o → Holds GivenHolds (env.named set later u w o)
  holds_named u w (Some (to_constant v)) h = holds_only u w (holds_give (a_value v) h)
  holds_named u w (Some (to_variable k)) h = holds_variable u w k
  holds_named u w (Some (thunk m a e)) h = holds_copied u w m a e h.0 h.1
  holds_named u w o h = holds_wrong w

  holds_while : {m : M Bodied state.Given} (w : Place) → Holds GivenHolds m → (c body : Phrase) (e : Env) → PhraseHolds c → PhraseHolds body → EnvHolds e → Holds GivenHolds (env.while_turns set later w m c body e)
  holds_while w h c body e p q r = holds_bind (holds_truth w h) (λ b k. holds_test b (holds_then (holds_tick set w) (hl (env.while_job w c body e) (p, q, r))) (holds_give nothing tt))

  holds_steps : (w : Place) (x : Name) (i j k : ℤ) (body : Phrase) (e : Env) → NameHolds x → PhraseHolds body → EnvHolds e → Holds GivenHolds (env.step_turns set later w x i j k body e)
  holds_steps w x i j k body e p q r = holds_test (has_turn i j k) (holds_then (holds_tick set w) (hl (env.step_job w x i j k body e) (p, q, r))) (holds_give nothing tt)

  jumped : (st : Place) (o : Option Thing) (s : State Bodied) → Holding s → Held GivenHolds (env.went set later st o s)
  jumped st (Some (to_label l)) s h = h
  jumped st o s h = h

  holds_numbers : (w : Place) (ds : Decls) (is : Items) (e : Env) (d : Firsts → M Bodied (Unit {0})) (m : Env → M Bodied state.Given) → DeclsHold ds → ItemsHold is → EnvHolds e → ((k : Firsts) → Holds Any (d k)) → ((f : Env) → EnvHolds f → Holds GivenHolds (m f)) → (k : Firsts) (bs : List Meant)
      → MeantHold bs → Holds GivenHolds (env.with_numbers set later w ds is e d m k bs)
  holds_numbers w ds is e d m dh ih eh hd h k bs p =
      let f : EnvHolds (extend bs e) = extend_holds bs e p eh in
      holds_then (holds_opened w (extend bs e) ds is f dh) (holds_then (hd k)
      (holds_catching k.labels (length (label_places is)) (m (extend bs e)) (λ b j. later (env.items_job b w is (extend bs e) j)) (h (extend bs e) f) (λ b j a. hl (env.items_job b w is (extend bs e) j) (a, ih, f))))

  holds_block : (w p : Place) (ds : Decls) (is : Items) (e : Env) (d : Firsts → M Bodied (Unit {0})) (m : Env → M Bodied state.Given) → DeclsHold ds → ItemsHold is → EnvHolds e → ((k : Firsts) → Holds Any (d k)) → ((f : Env) → EnvHolds f → Holds GivenHolds (m f))
      → Holds GivenHolds (env.block set later w p ds is e d m)
  holds_block w p ds is e d m dh ih eh hd h =
      holds_under (in_block p []) (All-nil ShownHolds) (holds_bind holds_cells_held (λ held x. holds_bind holds_firsts (λ n y.
      holds_bind (holds_bind {f = env.with_numbers set later w ds is e d m n} (holds_fresh ds is) (λ bs q. holds_numbers w ds is e d m dh ih eh hd h n bs q)) (λ r g. holds_then (holds_set_cells held) (holds_give r g)))))

  holds_body : (p : Bodied) (k : List Meant → M Bodied (Unit {0})) (b : env.Bound) → BodiedHolds p → BoundHolds b → ((bs : List Meant) → Holds Any (k bs)) → Holds GivenHolds (env.body_done set later p k b)
  holds_body p k b hp hb hk =
      holds_bind (holds_bind {f = state.made_result p.statement p.result} (hl (env.phrase_job for_value p.statement p.body (extend b.puts p.env)) (hp.body, extend_holds b.puts p.env hb.puts hp.env)) (λ r g. holds_made_result p.statement p.result r g))
      (λ r g. holds_then (holds_value_held p.result p.statement (hk b.puts)) (holds_give r g))

  holds_called : (w p : Place) (procedure : Bodied) (r : M Bodied (List env.Ready)) (k : List Meant → M Bodied (Unit {0})) → BodiedHolds procedure → Holds ReadyHold r → ((bs : List Meant) → Holds Any (k bs)) → Holds GivenHolds (env.called set later w p procedure r k)
  holds_called w p procedure r k hp hr hk =
      holds_bind hr (λ rs q. holds_then (holds_tick set w) (holds_then (holds_deeper w) (holds_bind (holds_bound w procedure.formals rs hp.formals q) (λ b l.
      holds_bind (holds_under (in_call procedure.name p b.names) (hp.name, l.names) (holds_body procedure k b hp l hk))
      (λ x g. holds_then holds_shallower (holds_then (holds_back (length procedure.formals)) (holds_give x g)))))))

  holds_invoked : (w : Place) (compares : Bool) (p : Place) (o : Option Thing) (given : Actuals) (e : Env) (r : List Formal → M Bodied (List env.Ready)) (k : List Formal → List Meant → M Bodied (Unit {0}))
      → MaybeHolds o → ((fs : List Formal) → Holds ReadyHold (r fs)) → ((fs : List Formal) (bs : List Meant) → Holds Any (k fs bs)) → Holds GivenHolds (env.invoked set later w compares p o given e r k)
  holds_invoked w compares p (Some (to_procedure v)) given e r k h hr hk = holds_bind (holds_the_procedure w v) (λ procedure q. holds_then (holds_compared w compares e procedure.formals given) (holds_called w p procedure (r procedure.formals) (k procedure.formals) q (hr procedure.formals) (hk procedure.formals)))
  holds_invoked w compares p (Some (thunk m a f)) given e r k h hr hk = holds_then (holds_no_actuals w given) (holds_copied for_value w m a f h.0 h.1)
  holds_invoked w compares p o given e r k h hr hk = holds_wrong w

  holds_no_formals : (w : Place) (fs : List Formal) → Holds ReadyHold (env.no_formals w fs)
  holds_no_formals w [] = holds_give [] tt
  holds_no_formals w (f ∷ fs) = holds_wrong w

  holds_element_at : (u : Use) (w : Place) (o : Option Thing) (is : List ℤ) → Holds GivenHolds (env.element_at set later u w o is)
  holds_element_at u w (Some (to_array k given)) is = holds_bind (holds_element u w k (filled_in given (map (λ i. Some i) is))) (λ r g. holds_then (holds_back (length is)) (holds_give r g))
  holds_element_at u w o is = holds_wrong w

  holds_subarray_at : (w : Place) (o : Option Thing) (is : List (Option ℤ)) → Holds ReadyHolds (env.subarray_at set later w o is)
  holds_subarray_at w (Some (to_array k given)) is = holds_bind (holds_the_array w k) (λ a p. holds_test (all_within a.bounds (filled_in given is)) (holds_then (holds_back (cells_of is)) (holds_give (env.put_for (to_array k (filled_in given is))) tt)) (holds_fault fault.SubscriptOutsideBounds w))
  holds_subarray_at w o is = holds_wrong w

  mutual
    goes : (a : Phrase) (u : Use) (w : Place) (e : Env) → PhraseHolds a → EnvHolds e → Holds GivenHolds (env.go set later a u w e)
    goes Empty u w e h k = holds_give nothing tt
    goes (Constant v) u w e h k = holds_only u w (holds_give (a_value v) h)
    goes (Named x) u w e h k = holds_named u w (find e x) (find_holds e x k)
    goes (Variable n) u w e h k = holds_variable u w n
    goes (Array n given) u w e h k = holds_wrong w
    goes (Label l) u w e h k = holds_wrong w
    goes (Procedure n) u w e h k = holds_wrong w
    goes (Copied m a) u w e h k = holds_copied u w m a empty h tt
    goes (Unary o a) u w e h k = holds_only u w (holds_bind (holds_value w (goes a for_value w e h k)) (λ v p. holds_answer w (unary o v) (unary_holds o v)))
    goes (Binary o a b) u w e h k = holds_only u w (holds_bind (holds_value w (goes a for_value w e h.0 k)) (λ v p. holds_bind (holds_holding w (holds_value w (goes b for_value w e h.1 k))) (λ v' q. holds_answer w (binary o v v') (binary_holds o v v'))))
    goes (Relation o a b) u w e h k = holds_only u w (holds_bind (holds_value w (goes a for_value w e h.0 k)) (λ v p. holds_bind (holds_holding w (holds_value w (goes b for_value w e h.1 k))) (λ v' q. holds_answer w (relation o v v') (relation_holds o v v'))))
    goes (IsClass a class) u w e h k = holds_only u w (holds_bind (holds_bind (holds_value w (goes a for_value w e h k)) (λ v p. holds_record_in w v)) (λ r p. holds_class w class r))
    goes (Element a subs) u w e h k = holds_bind (go_subscripts subs w e h.1 k) (λ is p. holds_element_at u w (head e a) is)
    goes (Field class n a) u w e h k = holds_bind (holds_bind (holds_value w (goes a for_value w e h k)) (λ v p. holds_record_in w v)) (λ r p. holds_field u w class n r)
    goes (Part m n a start) for_value w e h k = holds_bind (holds_bind (holds_value w (goes a for_value w e h.0 k)) (λ v p. holds_string_in w v p)) (λ s p. holds_bind (holds_holding w (holds_integer w (goes start for_value w e h.1 k))) (λ j q. holds_string_answer w (part s j n) (text_part j n p)))
    goes (Part m n a start) for_place w e h k = holds_bind (holds_spot w (goes a for_place w e h.0 k)) (λ spot p. holds_bind (holds_holding w (holds_integer w (goes start for_value w e h.1 k))) (λ j q. holds_within w m n spot j))
    goes (Record class types values) u w e h k = holds_only u w (holds_bind (go_fields values w types e h.1 k) (λ vs p. holds_bind (holds_make_record w class vs h.0 p) (λ r g. holds_then (holds_back (length vs)) (holds_give r g))))
    goes (RecordAlone class n) u w e h k = holds_only u w (holds_make_record w class (replicate n None) h (All-replicate VariableHolds n None tt))
    goes (IfThen st t c a b) u w e h k = holds_only u w (holds_then (holds_begin set st) (holds_bind (holds_truth (innermost w st) (goes c for_value (innermost w st) e h.0 k)) (λ truth p. holds_bind (holds_test truth (goes a for_value (innermost w st) e h.1 k) (goes b for_value (innermost w st) e h.2 k)) (λ r g. holds_made_result (innermost w st) t r g))))
    goes (Case st t c parts) u w e h k = holds_only u w (holds_then (holds_begin set st) (holds_bind (holds_integer (innermost w st) (goes c for_value (innermost w st) e h.0 k)) (λ n p. holds_bind (go_case parts (innermost w st) (case_number n) e h.1 k) (λ r g. holds_made_result (innermost w st) t r g))))
    goes (Block st p ds is) u w e h k = holds_only u w (holds_then (holds_begin set st) (holds_block (innermost w st) p ds is e (λ n. env.go_decls set later ds (innermost w st) n.variables n.arrays e) (λ f. env.go_items set later is (innermost w st) f) h.0 h.1 k (λ n. go_decls ds (innermost w st) n.variables n.arrays e h.0 k) (λ f q. go_items is (innermost w st) f h.1 q)))
    goes (Call st compares p a given) u w e h k = holds_only u w (holds_then (holds_begin set st) (holds_invoked (innermost w st) compares p (head e a) given e (λ fs. env.go_actuals set later given (innermost w st) fs e) (λ fs bs. env.go_back set later given (innermost w st) fs bs e) (head_holds e a k h.0) (λ fs. go_actuals given (innermost w st) fs e h.1 k) (λ fs bs. go_back given (innermost w st) fs bs e h.1 k)))
    goes (Assign st t a b) u w e h k = holds_only u w (holds_then (holds_begin set st) (holds_bind (holds_spot (innermost w st) (goes a for_place (innermost w st) e h.0 k)) (λ spot p. holds_holding (innermost w st) (holds_bind (holds_value (innermost w st) (goes b for_value (innermost w st) e h.1 k)) (λ v q. holds_then (holds_assign (innermost w st) t spot v q) (holds_give (assigned st v) (assigned_holds st v q)))))))
    goes (WhileDo st c body) u w e h k = holds_only u w (holds_then (holds_begin set (Some st)) (holds_while st (goes c for_value st e h.0 k) c body e h.0 h.1 k))
    goes (ForStep st x a b c body) u w e h k =
        holds_only u w (holds_then (holds_begin set (Some st)) (holds_bind (holds_integer st (goes a for_value st e h.1 k)) (λ i p. holds_then (holds_take 1 st) (holds_bind (holds_integer st (goes b for_value st e h.2 k)) (λ j q. holds_then (holds_take 1 st) (holds_bind (holds_integer st (goes c for_value st e h.3 k)) (λ l r. holds_then (holds_take 1 st)
        (holds_then (holds_test (int_eq j (pos 0)) (holds_fault fault.StepZero st) (holds_steps st x i j l body e h.0 h.4 k)) (holds_then (holds_back 3) (holds_give nothing tt))))))))))
    goes (ForList st x values body) u w e h k = holds_only u w (holds_then (holds_begin set (Some st)) (holds_then (go_list values st x body e h.0 h.1 h.2 k) (holds_give nothing tt)))
    goes (Goto st a) u w e h k = holds_then (holds_begin set (Some st)) (record { by = λ s p. jumped st (head e a) s p })
    goes (Assert st c) u w e h k = holds_only u w (holds_then (holds_begin set (Some st)) (holds_bind (holds_truth st (goes c for_value st e h k)) (λ truth p. holds_test truth (holds_give nothing tt) (holds_fault fault.AssertionFalse st))))
    goes (Write st first roles values) u w e h k = holds_only u w (holds_then (holds_begin set (Some st)) (holds_then (go_writes values st first none_set roles e h k) (holds_give nothing tt)))
    goes (Read st next targets) u w e h k = holds_only u w (holds_then (holds_begin set (Some st)) (holds_then (go_reads targets st next e h k) (holds_give nothing tt)))
    goes (ReadCard st targets) u w e h k = holds_only u w (holds_then (holds_begin set (Some st)) (holds_then (go_cards targets st e h k) (holds_give nothing tt)))
    goes (IoControl st a) u w e h k = holds_only u w (holds_then (holds_begin set (Some st)) (holds_bind (holds_integer st (goes a for_value st e h k)) (λ n p. holds_then (holds_io_control n) (holds_give nothing tt))))

    go_subscripts : (ps : Phrases) (w : Place) (e : Env) → PhrasesHold ps → EnvHolds e → Holds Any (env.go_subscripts set later ps w e)
    go_subscripts no_phrases w e h k = holds_any []
    go_subscripts (phrase_and a rest) w e h k = holds_bind (holds_integer w (goes a for_value w e h.0 k)) (λ i p. holds_then (holds_take 1 w) (holds_bind (go_subscripts rest w e h.1 k) (λ is q. holds_any (i ∷ is))))

    go_fields : (ps : Phrases) (w : Place) (ts : List ValueType) (e : Env) → PhrasesHold ps → EnvHolds e → Holds (All VariableHolds) (env.go_fields set later ps w ts e)
    go_fields no_phrases w [] e h k = holds_give [] (All-nil VariableHolds)
    go_fields no_phrases w (t ∷ ts) e h k = holds_wrong w
    go_fields (phrase_and a rest) w [] e h k = holds_wrong w
    go_fields (phrase_and a rest) w (t ∷ ts) e h k = holds_bind (holds_bind (holds_value w (goes a for_value w e h.0 k)) (λ v p. holds_made w t v p)) (λ v p. holds_then (holds_take 1 w) (holds_bind (go_fields rest w ts e h.1 k) (λ vs q. holds_give (Some v ∷ vs) (All-cons VariableHolds (Some v) vs p q))))

    go_case : (ps : Phrases) (w : Place) (n : Option ℕ) (e : Env) → PhrasesHold ps → EnvHolds e → Holds GivenHolds (env.go_case set later ps w n e)
    go_case no_phrases w None e h k = holds_fault fault.CaseOutsideRange w
    go_case (phrase_and a rest) w None e h k = holds_fault fault.CaseOutsideRange w
    go_case no_phrases w (Some n) e h k = holds_fault fault.CaseOutsideRange w
    go_case (phrase_and a rest) w (Some zero) e h k = goes a for_value w e h.0 k
    go_case (phrase_and a rest) w (Some (suc n)) e h k = go_case rest w (Some n) e h.1 k

    go_list : (ps : Phrases) (w : Place) (x : Name) (body : Phrase) (e : Env) → NameHolds x → PhrasesHold ps → PhraseHolds body → EnvHolds e → Holds Any (env.go_list set later ps w x body e)
    go_list no_phrases w x body e n h b k = holds_any tt
    go_list (phrase_and a rest) w x body e n h b k = holds_bind (holds_integer w (goes a for_value w e h.0 k)) (λ i p. holds_then (holds_holding w (holds_then (holds_tick set w) (hl (env.list_job w x i body e) (n, b, k)))) (go_list rest w x body e n h.1 b k))

    go_writes : (ps : Phrases) (w : Place) (first : Bool) (ws : WidthsSet) (roles : List Role) (e : Env) → PhrasesHold ps → EnvHolds e → Holds Any (env.go_writes set later ps w first ws roles e)
    go_writes no_phrases w first ws roles e h k = holds_any tt
    go_writes (phrase_and a rest) w first ws [] e h k = holds_wrong w
    go_writes (phrase_and a rest) w first ws (placed ∷ roles) e h k = holds_bind (holds_value w (goes a for_value w e h.0 k)) (λ v p. holds_then (holds_written set w first ws v p) (go_writes rest w false ws roles e h.1 k))
    go_writes (phrase_and a rest) w first ws (sets width ∷ roles) e h k = holds_bind (holds_integer w (goes a for_value w e h.0 k)) (λ n p. go_writes rest w first (with_width width n ws) roles e h.1 k)

    go_reads : (ps : Targets) (w : Place) (next : Bool) (e : Env) → TargetsHold ps → EnvHolds e → Holds Any (env.go_reads set later ps w next e)
    go_reads no_targets w next e h k = holds_any tt
    go_reads (target_and t a rest) w next e h k = holds_bind (holds_spot w (goes a for_place w e h.0 k)) (λ spot p. holds_bind (holds_scan set cards w next (read_type t)) (λ v q. holds_then (holds_assign w t spot v q) (go_reads rest w false e h.1 k)))

    go_cards : (ps : Targets) (w : Place) (e : Env) → TargetsHold ps → EnvHolds e → Holds Any (env.go_cards set later ps w e)
    go_cards no_targets w e h k = holds_any tt
    go_cards (target_and t a rest) w e h k = holds_bind (holds_spot w (goes a for_place w e h.0 k)) (λ spot p. holds_bind (holds_take_card set cards w) (λ v q. holds_then (holds_assign w t spot v q) (go_cards rest w e h.1 k)))

    go_items : (is : Items) (w : Place) (e : Env) → ItemsHold is → EnvHolds e → Holds GivenHolds (env.go_items set later is w e)
    go_items no_items w e h k = holds_give nothing tt
    go_items (item_and labels a no_items) w e h k = goes a for_value w e h.0 k
    go_items (item_and labels a (item_and labels' b rest)) w e h k = holds_then (goes a for_value w e h.0 k) (go_items (item_and labels' b rest) w e h.1 k)

    go_bounds : (bs : Bounds) (w : Place) (e : Env) → BoundsHold bs → EnvHolds e → Holds Any (env.go_bounds set later bs w e)
    go_bounds no_bounds w e h k = holds_any []
    go_bounds (bound_and a b rest) w e h k = holds_bind (holds_integer w (goes a for_value w e h.0 k)) (λ i p. holds_then (holds_take 1 w) (holds_bind (holds_integer w (goes b for_value w e h.1 k)) (λ j q. holds_then (holds_take 1 w) (holds_bind (go_bounds rest w e h.2 k) (λ ps r. holds_any ((i, j) ∷ ps))))))

    go_decls : (ds : Decls) (w : Place) (v n : ℕ) (e : Env) → DeclsHold ds → EnvHolds e → Holds Any (env.go_decls set later ds w v n e)
    go_decls no_decls w v n e h k = holds_any tt
    go_decls (variables_and names rest) w v n e h k = holds_then (holds_variables w v names h.0) (go_decls rest w (v + length names) n e h.1 k)
    go_decls (arrays_and t names pairs rest) w v n e h k = holds_bind (go_bounds pairs w e h.1 k) (λ bs p. holds_then (holds_back (2 * length bs)) (holds_then (holds_arrays w n t names bs h.0) (go_decls rest w v (n + length names) e h.2 k)))
    go_decls (procedure_and x result formals body rest) w v n e h k = go_decls rest w v n e h.3 k

    go_stars : (ps : Subscripts) (w : Place) (e : Env) → SubscriptsHold ps → EnvHolds e → Holds Any (env.go_stars set later ps w e)
    go_stars no_subscripts w e h k = holds_any []
    go_stars (star_and rest) w e h k = holds_bind (go_stars rest w e h k) (λ is p. holds_any (None ∷ is))
    go_stars (subscript_and a rest) w e h k = holds_bind (holds_integer w (goes a for_value w e h.0 k)) (λ i p. holds_then (holds_take 1 w) (holds_bind (go_stars rest w e h.1 k) (λ is q. holds_any (Some i ∷ is))))

    go_actual : (a : Actual) (w : Place) (f : FormalType) (e : Env) → ActualHolds a → EnvHolds e → Holds ReadyHolds (env.go_actual set later a w f e)
    go_actual (Given v g first a) w f e h k = holds_phrase_ready f w v g first a e h k (goes a for_value w e h k)
    go_actual (Alone p a) w f e h k = holds_name_ready f w p a e h k (holds_invoked w true p (head e a) no_actuals e (λ fs. env.no_formals w fs) (λ fs bs. give tt) (head_holds e a k h) (λ fs. holds_no_formals w fs) (λ fs bs. holds_any tt))
    go_actual (Subarray a subs) w f e h k = holds_for_an_array w f (holds_bind (go_stars subs w e h.1 k) (λ is p. holds_subarray_at w (head e a) is))

    go_actuals : (ps : Actuals) (w : Place) (fs : List Formal) (e : Env) → ActualsHold ps → EnvHolds e → Holds ReadyHold (env.go_actuals set later ps w fs e)
    go_actuals no_actuals w [] e h k = holds_give [] tt
    go_actuals no_actuals w (f ∷ fs) e h k = holds_wrong w
    go_actuals (actual_and a rest) w [] e h k = holds_wrong w
    go_actuals (actual_and a rest) w (f ∷ fs) e h k = holds_bind (go_actual a w f.is e h.0 k) (λ r p. holds_then (holds_take 1 w) (holds_bind (go_actuals rest w fs e h.1 k) (λ rs q. holds_give (r ∷ rs) (p, q))))

    go_back : (ps : Actuals) (w : Place) (fs : List Formal) (bs : List Meant) (e : Env) → ActualsHold ps → EnvHolds e → Holds Any (env.go_back set later ps w fs bs e)
    go_back no_actuals w [] [] e h k = holds_any tt
    go_back no_actuals w [] (b ∷ bs) e h k = holds_wrong w
    go_back no_actuals w (f ∷ fs) bs e h k = holds_wrong w
    go_back (actual_and (Given v g first a) rest) w [] bs e h k = holds_wrong w
    go_back (actual_and (Alone p a) rest) w [] bs e h k = holds_wrong w
    go_back (actual_and (Subarray a subs) rest) w [] bs e h k = holds_wrong w
    go_back (actual_and (Given v g first a) rest) w (f ∷ fs) [] e h k = holds_wrong w
    go_back (actual_and (Alone p a) rest) w (f ∷ fs) [] e h k = holds_wrong w
    go_back (actual_and (Subarray a subs) rest) w (f ∷ fs) [] e h k = holds_wrong w
    go_back (actual_and (Given v g first a) rest) w (f ∷ fs) (b ∷ bs) e h k = holds_then (holds_assigned_back f.is w g b.by (goes a for_place w e h.0 k)) (go_back rest w fs bs e h.1 k)
    go_back (actual_and (Alone p a) rest) w (f ∷ fs) (b ∷ bs) e h k = go_back rest w fs bs e h.1 k
    go_back (actual_and (Subarray a subs) rest) w (f ∷ fs) (b ∷ bs) e h k = go_back rest w fs bs e h.1 k

  holds_does : (job : env.Job) → JobHolds job → Holds GivenHolds (env.does set later job)
  holds_does (env.phrase_job u w a e) h = goes a u w e h.0 h.1
  holds_does (env.while_job w c body e) h = holds_then (goes body for_value w e h.1 h.2) (holds_while w (goes c for_value w e h.0 h.2) c body e h.0 h.1 h.2)
  holds_does (env.step_job w x i j k body e) h = holds_then (holds_under (in_turn w (shown x (a_number i))) (All-cons ShownHolds _ [] h.0 (All-nil ShownHolds)) (goes body for_value w (env.at_control x i e) h.1 (tt, h.2))) (holds_steps w x (i +ℤ j) j k body e h.0 h.1 h.2)
  holds_does (env.list_job w x i body e) h = holds_under (in_turn w (shown x (a_number i))) (All-cons ShownHolds _ [] h.0 (All-nil ShownHolds)) (goes body for_value w (env.at_control x i e) h.1 (tt, h.2))
  holds_does (env.items_job b w is e k) h = record { by = λ s p. caught_holds b (λ j. later (env.items_job b w is e j)) h.0 (λ j. hl (env.items_job b w is e j) h) (env.go_items set later (from k is) w e s) ((go_items (from k is) w e (from_holds k is h.1) h.2).by s p) }

pub holds_run : (set : Setting) → All IsText set.cards → (n : ℕ) (job : env.Job) → JobHolds job → Holds GivenHolds (env.run set n job)
holds_run set cards zero job h = record { by = λ s p. p }
holds_run set cards (suc n) job h = holds_does set cards (env.run set n) (holds_run set cards n) job h
