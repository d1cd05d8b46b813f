-- Every phrase that fits is done soundly, where what comes behind a counted step is.
use Rattle.std.proofs.Common.{◌≡◌, ℕ, zero, suc, ◌+◌, ◌*◌, ℤ, pos, List, [], ◌∷◌, ◌++◌, map, length, refl, sym, subst, ap, ◌∙◌, arith}
use Rattle.std.proofs.lemmas.List.{length-replicate, length-take, length-drop, length-map}
use borrow.Author.Tests.{ltb-true}
use Rattle.std.specs.Prelude.{Option, Some, None, Bool, true, false, ⊤, ◌-◌, ◌%◌, ◌<◌, ◌≤◌, nat_lt, nat_le, ◌&&◌, drop, if◌then◌else◌, replicate, Result, Ok, Err}
use Rattle.std.specs.Ordering.{int_eq}
use Rattle.std.specs.Option.{option_map}
use Rattle.value_ops.specs.declared.places.Place.{Place}
use Rattle.value_ops.specs.declared.faults.Fault.{Fault}
use Rattle.value_ops.specs.declared.faults.Fault.TheVariants as fault
use Rattle.value_ops.specs.declared.values.Value.{Value}
use Rattle.value_ops.specs.declared.values.Value.TheVariants as value
use Rattle.value_ops.specs.declared.values.SimpleType.{SimpleType}
use Rattle.value_ops.specs.declared.values.SimpleType.TheVariants as simple
use Rattle.value_ops.specs.Strings.{filled}
use Rattle.input_editing.specs.Columns.{columns, line_at, is_on_card, card_end, card_read, read_from}
use Rattle.input_editing.specs.Scanning.{integer_of, logical_of, bits_of, string_at, word, item_at, item_start, placed, scanned}
use Rattle.algolw_typing.specs.Types.{ValueType, Gives, Statement, Simple, Integer, Logical, Bits, Str, Reference}
use Rattle.algolw_typing.specs.Meanings.{FormalType, by_name, by_value, by_result, by_value_result, for_array, for_procedure}
use Rattle.program_meaning.specs.Phrases.{Phrase, Empty, Constant, Named, Variable, Array, Label, Procedure, Copied, Unary, Binary, Relation, IsClass, Element, Field, Part, Record, RecordAlone, IfThen, Case, Block, Call, Assign, WhileDo, ForStep, ForList, Goto, Assert, Write, Read, ReadCard, IoControl, Phrases, no_phrases, phrase_and, Targets, no_targets, target_and, Subscripts, no_subscripts, star_and, subscript_and, Actuals, no_actuals, actual_and, Actual, Given, Alone, Subarray, Items, no_items, item_and, Bounds, no_bounds, bound_and, Decls, no_decls, variables_and, arrays_and, procedure_and, Name, Formal, Role, placed as a_value_placed, sets}
use Rattle.program_meaning.specs.State as state
use Rattle.program_meaning.specs.State.{M, Setting, Use, for_value, for_place, nothing, a_number, in_turn, ◌>>=◌, ◌>>◌, give, halt, fault_at, test, innermost, only_value}
use Rattle.program_meaning.specs.Copying.{formal_types, dimensions, array_count, declare_arrays, free, free_of, stars, assigned, case_number, has_turn, read_type, scan, take_card, string_read}
use Rattle.program_meaning.specs.Environments as env
use Rattle.program_meaning.specs.Environments.{Env, bind, Thing, to_constant, Job, phrase_job, while_job, step_job, list_job, items_job, Bodied, Meant, Ready, head, at_control}
use Rattle.program_meaning.specs.Widths.{WidthsSet, none_set, with_width}
use Rattle.program_soundness.specs.Kinds as kinds
use Rattle.program_soundness.specs.Kinds.{Kind, an_integer, a_truth, some_bits, a_string, a_reference, kind_of, Want, a_statement, a_value, a_place, use_of, result_want, given_want, IsVariable, IsProper, IsProperResult, IsProperFormal, AreProper, operand_of, answer_of, left_of, right_of, IsConstant, Context, Table}
use Rattle.program_soundness.specs.Fits.{IsNoPlace, IsResult, IsAssigned, Fits, AllFit, ValuesFit, FieldsFit, TargetsFit, CardsFit, SubscriptsFit, ItemsFit, BoundsFit, DeclsFit, ActualsFit, ActualFits, IsRead, phrase_count, subscript_count}
use Rattle.program_soundness.proofs.Lists.{Located, located_at, located_behind}
use Rattle.program_soundness.proofs.Worlds.{Live, World, Extends, ValueSuits, Suits, EnvSuits}
use Rattle.program_soundness.proofs.Growing.{same_live, same_world, extends_both, value_grows, spot_grows, env_grows}
use Rattle.program_soundness.proofs.Sound.{Sound, sound_bind, sound_then, sound_give, sound_fault, sound_test, quiet_bind, quiet_then, sound_end}
use Rattle.program_soundness.proofs.Quiet.{quiet_tick, quiet_begin, quiet_take, quiet_back, quiet_written, quiet_read_so_far, quiet_set_read, quiet_io_control, quiet_variables, sound_holding}
use Rattle.program_soundness.proofs.Values.{sound_value, sound_spot, sound_integer, sound_truth, sound_string, sound_record_in, sound_unary, sound_binary, sound_relation, sound_part, filled_long}
use Rattle.program_soundness.proofs.Variables.{sound_variable, sound_made, sound_made_result, sound_assign, sound_within}
use Rattle.program_soundness.proofs.Records.{sound_field, sound_class, FieldsSuit, none_fields, sound_make_record}
use Rattle.program_soundness.proofs.Readiness.{AllReady, PutsSuit, puts_grow, ready_grows, ReadySuits}
use Rattle.program_soundness.proofs.Actuals.{ActualsFor, ActualFor, SubarrayFor}
use Rattle.program_soundness.proofs.Jobs.{DoesSoundly, sound_named, sound_went, sound_element_at, sound_subarray_at}
use Rattle.program_soundness.proofs.Calls.{sound_invoked, sound_phrase_ready, sound_name_ready, sound_back}
use Rattle.program_soundness.proofs.Declaring.{array_kind, array_kinds}
use Rattle.program_soundness.proofs.Blocks.{Makes, makes_bind, makes_then, quiet_makes, makes_none, makes_arrays, upto, where_made, or_left, sound_block}

-- ---- small steps

constant_suits : (W : World) (k : Kind) (v : Value) → IsConstant k v → ValueSuits W k v
constant_suits W an_integer (value.Integer n) h = tt
constant_suits W a_truth (value.Logical n) h = tt
constant_suits W some_bits (value.Bits n) h = tt
constant_suits W a_string (value.Str (c ∷ cs)) h = omega arith
constant_suits W a_reference (value.Reference None) h = tt
constant_suits W _ _ h = absurd h

module _ (table : Table) where
  -- an environment in a world that extends its own
  pub grown : {W V : World} (live : Live) (c : Context) (e : Env) → Extends W V → EnvSuits table W live c e → EnvSuits table V live c e
  grown live c e g s = env_grows table g (same_live live) c e s

  pub control_env : (W : World) (live : Live) (c : Context) (e : Env) (x : Name) (i : ℤ) → EnvSuits table W live c e → EnvSuits table W live (kinds.at_control x.place c) (at_control x i e)
  control_env W live c e x i s = (refl, tt, s)

  -- a phrase that has no place
  pub sound_no_place : {live : Live} {W : World} {m : M Bodied state.Given} (want : Want) (w : Place) → IsNoPlace want → Sound table live W (Suits want) m → Sound table live W (Suits want) (only_value (use_of want) w m)
  sound_no_place a_statement w i h = h
  sound_no_place (a_value k) w i h = h
  sound_no_place (a_place k) w i h = absurd i

  -- ---- what is read from the data

  abbrev ItemSuits : World → Kind → Option (Value × ℕ) → Type 0
  ItemSuits W k None = ⊤
  ItemSuits W k (Some p) = ValueSuits W k p.0

  each_suits : {A : Type 0} (W : World) (k : Kind) (f : A → Value × ℕ) → ((a : A) → ValueSuits W k (f a).0) → (o : Option A) → ItemSuits W k (option_map f o)
  each_suits W k f h None = tt
  each_suits W k f h (Some a) = h a

  abbrev ReadSuits : World → Kind → Result (Value × ℕ) Fault → Type 0
  ReadSuits W k (Ok p) = ValueSuits W k p.0
  ReadSuits W k (Err f) = ⊤

  placed_suits : (W : World) (k : Kind) (n : ℕ) (o : Option (Value × ℕ)) → ItemSuits W k o → ReadSuits W k (placed n o)
  placed_suits W k n None h = tt
  placed_suits W k n (Some (v, m)) h = h

  either_suits : (W : World) (k : Kind) (b : Bool) (x y : Result (Value × ℕ) Fault) → ReadSuits W k x → ReadSuits W k y → ReadSuits W k (if b then x else y)
  either_suits W k true x y p q = p
  either_suits W k false x y p q = q

  item_suits : (W : World) (k : Kind) (t : SimpleType) (cards : List (List ℕ)) (n : ℕ) → ((line : List ℕ) → ItemSuits W k (item_at t line)) → ReadSuits W k (scanned cards n t)
  item_suits W k t cards n h = either_suits W k (is_on_card cards (item_start cards n)) _ _ (placed_suits W k (item_start cards n) (item_at t (line_at cards (item_start cards n))) (h (line_at cards (item_start cards n)))) tt

  scan_given : {live : Live} {W : World} (k : Kind) (w : Place) (r : Result (Value × ℕ) Fault) → ReadSuits W k r → Sound table live W (λ V v. ValueSuits V k v) (state.scan_answer w r)
  scan_given k w (Ok (v, n)) h = quiet_then table (quiet_set_read table n) (sound_give table v h)
  scan_given k w (Err f) h = sound_fault table f w

  scan_of : {live : Live} {W : World} (set : Setting) (k : Kind) (t : SimpleType) (w : Place) (next : Bool) → ((line : List ℕ) → ItemSuits W k (item_at t line)) → Sound table live W (λ V v. ValueSuits V k v) (scan set w next (Some t))
  scan_of {W = W} set k t w next h = quiet_bind table (quiet_read_so_far table) (λ n. scan_given k w (scanned set.cards (read_from next n) t) (item_suits W k t set.cards (read_from next n) h))

  sound_scan : {live : Live} {W : World} (set : Setting) (w : Place) (next : Bool) (t : ValueType) → IsRead t → Sound table live W (λ V v. ValueSuits V (kind_of t) v) (scan set w next (read_type t))
  sound_scan {W = W} set w next Integer h = scan_of set an_integer simple.Integer w next (λ line. each_suits W an_integer (λ number. (value.Integer number, length (word line))) (λ x. tt) (integer_of (word line)))
  sound_scan {W = W} set w next Logical h = scan_of set a_truth simple.Logical w next (λ line. each_suits W a_truth (λ truth. (value.Logical truth, length (word line))) (λ x. tt) (logical_of (word line)))
  sound_scan {W = W} set w next Bits h = scan_of set some_bits simple.Bits w next (λ line. each_suits W some_bits (λ bits. (value.Bits bits, length (word line))) (λ x. tt) (bits_of (word line)))
  sound_scan {W = W} set w next (Str n) h = scan_of set a_string (simple.Str n) w next (λ line. each_suits W a_string (λ string. (value.Str (filled n string.0), string.1)) (λ x. filled_long n x.0 h) (string_at n line))
  sound_scan set w next (Reference classes) h = absurd h

  -- a card has a character
  line_long : (cards : List (List ℕ)) (p : ℕ) → p < length (columns cards) → 1 ≤ length (line_at cards p)
  line_long cards p h = let e = length-take (80 - p % 80) (drop p (columns cards)) in let f = length-drop p (columns cards) in omega (arith, h, e, f)

  card_at : (W : World) (cards : List (List ℕ)) (p : ℕ) (b : Bool) → nat_lt p (length (columns cards)) ≡ b → ReadSuits W a_string (string_read (if b then Ok (line_at cards p, p + 80) else Err fault.NoDataLeft))
  card_at W cards p true e = line_long cards p (ltb-true p (length (columns cards)) e)
  card_at W cards p false e = tt

  sound_card : {live : Live} {W : World} (set : Setting) (w : Place) → Sound table live W (λ V v. ValueSuits V a_string v) (take_card set w)
  sound_card {W = W} set w = quiet_bind table (quiet_read_so_far table) (λ n. scan_given a_string w (string_read (card_read set.cards n)) (card_at W set.cards (card_end n) (nat_lt (card_end n) (length (columns set.cards))) refl))

module _ (table : Table) (set : Setting) (later : Job → M Bodied state.Given) (later_sound : DoesSoundly table later) where
  -- a phrase is done soundly for what it is wanted for
  abbrev Does : Live → World → Phrase → Want → Place → Env → Type 0
  Does live W a want w e = Sound table live W (Suits want) (env.go set later a (use_of want) w e)

  use_value : (t : Option ValueType) → use_of (result_want t) ≡ for_value
  use_value None = refl
  use_value (Some t) = refl

  for_given : {live : Live} {W : World} (g : Gives) (a : Phrase) (w : Place) (e : Env) → Does live W a (given_want g) w e → Sound table live W (Suits (given_want g)) (env.go set later a for_value w e)
  for_given Statement a w e h = h
  for_given (Simple t) a w e h = h

  for_no_place : {live : Live} {W : World} (want : Want) (a : Phrase) (w : Place) (e : Env) → IsNoPlace want → Does live W a want w e → Sound table live W (Suits want) (env.go set later a for_value w e)
  for_no_place a_statement a w e i h = h
  for_no_place (a_value k) a w e i h = h
  for_no_place (a_place k) a w e i h = absurd i

  result_no_place : (t : Option ValueType) (want : Want) → IsResult t want → IsNoPlace want
  result_no_place None want i = i
  result_no_place (Some t) want i = subst IsNoPlace (sym i) tt

  -- what is given is made into a type, if there is one
  sound_result : {live : Live} {W : World} (t : Option ValueType) (want : Want) (w : Place) (r : state.Given) → IsResult t want → IsProperResult t → Suits want W r → Sound table live W (Suits want) (state.made_result w t r)
  sound_result None want w r i p h = sound_give table r h
  sound_result {live = live} {W = W} (Some t) want w r i p h = subst (λ want. Sound table live W (Suits want) (state.made_result w (Some t) r)) (sym i) (sound_made_result table w (Some t) r p (subst (λ want. Suits want W r) i h))

  -- where what is wanted is that of a result
  at_result : {live : Live} {W : World} (want : Want) (t : Option ValueType) (w : Place) (m : M Bodied state.Given) → want ≡ result_want t → Sound table live W (Suits (result_want t)) m → Sound table live W (Suits want) (only_value (use_of want) w m)
  at_result {live = live} {W = W} want None w m q h = subst (λ want. Sound table live W (Suits want) (only_value (use_of want) w m)) (sym q) h
  at_result {live = live} {W = W} want (Some t) w m q h = subst (λ want. Sound table live W (Suits want) (only_value (use_of want) w m)) (sym q) h

  at_value : {live : Live} {W : World} (want : Want) (k : Kind) (w : Place) (m : M Bodied state.Given) → want ≡ a_value k → Sound table live W (Suits (a_value k)) m → Sound table live W (Suits want) (only_value (use_of want) w m)
  at_value {live = live} {W = W} want k w m q h = subst (λ want. Sound table live W (Suits want) (only_value (use_of want) w m)) (sym q) h

  at_statement : {live : Live} {W : World} (want : Want) (w : Place) (m : M Bodied state.Given) → want ≡ a_statement → Sound table live W (Suits a_statement) m → Sound table live W (Suits want) (only_value (use_of want) w m)
  at_statement {live = live} {W = W} want w m q h = subst (λ want. Sound table live W (Suits want) (only_value (use_of want) w m)) (sym q) h

  -- ---- loops

  pub sound_while : {live : Live} {W : World} (w : Place) (m : M Bodied state.Given) (a body : Phrase) (c : Context) (e : Env) → EnvSuits table W live c e → Fits table c a (a_value a_truth) → Fits table c body a_statement → Sound table live W (Suits (a_value a_truth)) m
      → Sound table live W (Suits a_statement) (env.while_turns set later w m a body e)
  sound_while {live = live} w m a body c e s f g h = sound_bind table (sound_truth table w h) (λ V d b p. sound_test table b (λ q. quiet_then table (quiet_tick table set w) (later_sound (while_job w a body e) live V a_statement (refl, c, grown table live c e d s, f, g))) (sound_give table nothing tt))

  pub sound_steps : {live : Live} {W : World} (w : Place) (x : Name) (i j k : ℤ) (body : Phrase) (c : Context) (e : Env) → EnvSuits table W live c e → Fits table (kinds.at_control x.place c) body a_statement → Sound table live W (Suits a_statement) (env.step_turns set later w x i j k body e)
  sound_steps {live = live} {W = W} w x i j k body c e s f = sound_test table (has_turn i j k) (λ q. quiet_then table (quiet_tick table set w) (later_sound (step_job w x i j k body e) live W a_statement (refl, c, s, f))) (sound_give table nothing tt)

  -- an assignment's own value
  sound_assigned : {live : Live} {W : World} (st : Option Place) (k : Kind) (v : Value) (want : Want) → IsAssigned st k want → ValueSuits W k v → Sound table live W (Suits want) (give (assigned st v))
  sound_assigned st k v a_statement i h = sound_give table (assigned st v) tt
  sound_assigned {W = W} None k v (a_value j) i h = sound_give table (state.a_value v) (subst (λ j. ValueSuits W j v) (sym i) h)
  sound_assigned (Some st) k v (a_value j) i h = absurd i
  sound_assigned st k v (a_place j) i h = absurd i

  assigned_no_place : (st : Option Place) (k : Kind) (want : Want) → IsAssigned st k want → IsNoPlace want
  assigned_no_place st k a_statement i = tt
  assigned_no_place None k (a_value j) i = tt
  assigned_no_place (Some st) k (a_value j) i = tt
  assigned_no_place st k (a_place j) i = i

  -- ---- declarations and actuals, in part

  read_proper : (t : ValueType) → IsRead t → IsProper t
  read_proper Integer h = h
  read_proper Logical h = h
  read_proper Bits h = h
  read_proper (Str n) h = h
  read_proper (Reference classes) h = absurd h

  none_made : (live : Live) (W : World) (a k : ℕ) → Makes table live (upto live.arrays a k) (upto live.arrays a (k + 0)) W (give tt)
  none_made live W a k = let e : k ≡ k + 0 = omega arith in subst (λ n. Makes table live (upto live.arrays a k) (upto live.arrays a n) W (give tt)) e (makes_none table)

  more_made : (live : Live) (a k j : ℕ) → live.arrays j ≡ true → upto live.arrays a k j ≡ true
  more_made live a k j h = or_left (live.arrays j) (nat_le a j && nat_lt j k) h

  more_env : (live : Live) (W : World) (c : Context) (e : Env) (a k : ℕ) → EnvSuits table W live c e → EnvSuits table W (where_made table live (upto live.arrays a k)) c e
  more_env live W c e a k s = env_grows table (same_world W) (record { labels = λ j h. h; arrays = λ j h. more_made live a k j h }) c e s

  -- the arrays of one declaration, and then the others
  arrays_then : (live : Live) (W : World) (w : Place) (v a k : ℕ) (t : ValueType) (names : List Name) (pairs : Bounds) (rest : Decls) (bs : List (ℤ × ℤ)) {m : M Bodied (Unit {0})} → length bs ≡ dimensions pairs → Located W.arrays k (array_kinds (arrays_and t names pairs rest))
      → ((U : World) → Extends W U → Located U.arrays (k + length names) (array_kinds rest) → Makes table live (upto live.arrays a (k + length names)) (upto live.arrays a (k + length names + array_count rest)) U m)
      → Makes table live (upto live.arrays a k) (upto live.arrays a (k + array_count (arrays_and t names pairs rest))) W (declare_arrays w k t names bs >> m)
  arrays_then live W w v a k t names pairs rest bs {m = m} p l f =
      let own = map (λ (x : Name). array_kind t pairs) names in
      let e : k + length names + array_count rest ≡ k + array_count (arrays_and t names pairs rest) = omega arith in
      let q : length (free (dimensions pairs)) ≡ length bs = length-replicate (dimensions pairs) None ∙ sym p in
      let behind : Located W.arrays (k + length names) (array_kinds rest) = located_at W.arrays (k + length own) (k + length names) (array_kinds rest) (ap (λ n. k + n) (length-map names (λ (x : Name). array_kind t pairs))) (located_behind W.arrays k own (array_kinds rest) l) in
      subst (λ n. Makes table live (upto live.arrays a k) (upto live.arrays a n) W (declare_arrays w k t names bs >> m)) e
      (makes_then table (makes_arrays table w a k t names bs (array_kinds rest) (subst (λ n. Located W.arrays k (map (λ (x : Name). record { kind = kind_of t; dimensions = n }) names ++ array_kinds rest)) q l))
      (λ U g. f U g (λ i b r. g.arrays (k + length names + i) b (behind i b r))))

  none_ready : (live : Live) (W : World) (c : Context) (w : Place) (fs : List Formal) → ActualsFor c (formal_types fs) no_actuals → Sound table live W (λ V rs. AllReady table V live fs rs) (env.no_formals w fs)
  none_ready live W c w [] h = sound_give table [] tt
  none_ready live W c w (f ∷ fs) h = absurd h

  subarray_ready : (live : Live) (W : World) (c : Context) (e : Env) (w : Place) (f : FormalType) (a : Phrase) (indices : Subscripts) (is : List (Option ℤ)) → SubarrayFor c f a indices → EnvSuits table W live c e → length is ≡ subscript_count indices → stars is ≡ free_of indices
      → Sound table live W (λ V r. ReadySuits table V live f r) (env.subarray_at set later w (head e a) is)
  subarray_ready live W c e w (for_array t n) a indices is h s p q = sound_subarray_at table set later later_sound w c e a h.0.0 t (subscript_count indices) n is h.0.1 s h.0.2 p (q ∙ sym h.1)
  subarray_ready live W c e w (by_name t) a indices is h s p q = absurd h
  subarray_ready live W c e w (by_value t) a indices is h s p q = absurd h
  subarray_ready live W c e w (by_result t) a indices is h s p q = absurd h
  subarray_ready live W c e w (by_value_result t) a indices is h s p q = absurd h
  subarray_ready live W c e w (for_procedure t) a indices is h s p q = absurd h

  -- a subarray is for the formal of an array
  sound_for_an_array : {live : Live} {W : World} {m : M Bodied Ready} (c : Context) (w : Place) (f : FormalType) (a : Phrase) (indices : Subscripts) → SubarrayFor c f a indices → Sound table live W (λ V r. ReadySuits table V live f r) m
      → Sound table live W (λ V r. ReadySuits table V live f r) (state.for_an_array w f m)
  sound_for_an_array c w (for_array t n) a indices h m = m
  sound_for_an_array c w (by_name t) a indices h m = absurd h
  sound_for_an_array c w (by_value t) a indices h m = absurd h
  sound_for_an_array c w (by_result t) a indices h m = absurd h
  sound_for_an_array c w (by_value_result t) a indices h m = absurd h
  sound_for_an_array c w (for_procedure t) a indices h m = absurd h

  -- ---- phrases

  mutual
    pub sound : (a : Phrase) (live : Live) (W : World) (c : Context) (e : Env) (want : Want) (w : Place) → Fits table c a want → EnvSuits table W live c e → Does live W a want w e
    sound Empty live W c e want w f s = subst (λ want. Sound table live W (Suits want) (give nothing)) (sym f) (sound_give table nothing tt)
    sound (Constant v) live W c e want w f s = at_value want f.0 w _ f.1 (sound_give table (state.a_value v) (constant_suits W f.0 v f.2))
    sound (Named x) live W c e want w f s = sound_named table set later later_sound w c e x want f s
    sound (Variable k) live W c e want w f s = record { by = λ t p. (sound_variable table w an_integer k want f.1 (p.standard k f.0)).by t p }
    sound (Array k given) live W c e want w f s = absurd f
    sound (Label l) live W c e want w f s = absurd f
    sound (Procedure k) live W c e want w f s = absurd f
    sound (Copied m a) live W c e want w f s = absurd f
    sound (Unary o a) live W c e want w f s = at_value want (answer_of o) w _ f.0 (sound_bind table (sound_value table (operand_of o) w (sound a live W c e (a_value (operand_of o)) w f.1 s)) (λ V d v p. sound_unary table w o v p))
    sound (Binary o a b) live W c e want w f s =
        at_value want (left_of o) w _ f.0 (sound_bind table (sound_value table (left_of o) w (sound a live W c e (a_value (left_of o)) w f.2 s)) (λ V d v p.
        sound_bind table (sound_holding table w (sound_value table (right_of o) w (sound b live V c e (a_value (right_of o)) w f.3 (grown table live c e d s)))) (λ U g u q. sound_binary table w o v u f.1 (value_grows g (left_of o) v p) q)))
    sound (Relation o a b) live W c e want w f s =
        at_value want a_truth w _ f.1 (sound_bind table (sound_value table f.0 w (sound a live W c e (a_value f.0) w f.3 s)) (λ V d v p.
        sound_bind table (sound_holding table w (sound_value table f.0 w (sound b live V c e (a_value f.0) w f.4 (grown table live c e d s)))) (λ U g u q. sound_relation table w o f.0 v u f.2 (value_grows g f.0 v p) q)))
    sound (IsClass a class) live W c e want w f s =
        at_value want a_truth w _ f.0 (sound_bind table (sound_bind table (sound_value table a_reference w (sound a live W c e (a_value a_reference) w f.1 s)) (λ V d v p. sound_record_in table w v p)) (λ V d r p. sound_class table w class r p))
    sound (Element a indices) live W c e want w f s =
        sound_bind table (sound_subscripts indices live W c e w f.3 s) (λ V d is p. sound_element_at table set later later_sound w c e a f.0 (phrase_count indices) want is f.1 (grown table live c e d s) f.2 p)
    sound (Field class position a) live W c e want w f s =
        sound_bind table (sound_bind table (sound_value table a_reference w (sound a live W c e (a_value a_reference) w f.3 s)) (λ V d v p. sound_record_in table w v p)) (λ V d r p. sound_field table w class position f.0 r want f.1 f.2 p)
    sound (Part m n a start) live W c e a_statement w f s = absurd f.0
    sound (Part m n a start) live W c e (a_value k) w f s =
        subst (λ k. Does live W (Part m n a start) (a_value k) w e) (sym f.0)
        (sound_bind table (sound_bind table (sound_value table a_string w (subst (λ k. Does live W a (a_value k) w e) f.0 (sound a live W c e (a_value k) w f.3 s))) (λ V d v p. sound_string table w v p)) (λ V d text p.
        sound_bind table (sound_holding table w (sound_integer table w (sound start live V c e (a_value an_integer) w f.4 (grown table live c e d s)))) (λ U g i q. sound_part table w n text i f.2)))
    sound (Part m n a start) live W c e (a_place k) w f s =
        subst (λ k. Does live W (Part m n a start) (a_place k) w e) (sym f.0)
        (sound_bind table (sound_spot table a_string w (subst (λ k. Does live W a (a_place k) w e) f.0 (sound a live W c e (a_place k) w f.3 s))) (λ V d spot p.
        sound_bind table (sound_holding table w (sound_integer table w (sound start live V c e (a_value an_integer) w f.4 (grown table live c e d s)))) (λ U g i q. sound_within table w m n spot i f.1 f.2 (spot_grows g a_string spot p))))
    sound (Record class types values) live W c e want w f s =
        at_value want a_reference w _ f.0 (sound_bind table (sound_fields values live W c e w types f.2 s) (λ V d vs p. sound_end table (sound_make_record table w class (map kind_of types) vs f.1 p) (quiet_back table (length vs))))
    sound (RecordAlone class n) live W c e want w f s =
        at_value want a_reference w _ f.1 (subst (λ n. Sound table live W (Suits (a_value a_reference)) (state.make_record w class (replicate n None))) f.3 (sound_make_record table w class f.0 (replicate (length f.0) None) f.2 (none_fields table W f.0)))
    sound (IfThen st t a b otherwise) live W c e want w f s =
        let v = innermost w st in
        let i = result_no_place t want f.0 in
        sound_no_place table want w i (quiet_then table (quiet_begin table set st) (sound_bind table (sound_truth table v (sound a live W c e (a_value a_truth) v f.2 s)) (λ V d truth p.
        sound_bind table (sound_test table truth (λ q. for_no_place want b v e i (sound b live V c e want v f.3 (grown table live c e d s))) (for_no_place want otherwise v e i (sound otherwise live V c e want v f.4 (grown table live c e d s)))) (λ U g r q. sound_result t want v r f.0 f.1 q))))
    sound (Case st t a parts) live W c e want w f s =
        let v = innermost w st in
        let i = result_no_place t want f.0 in
        sound_no_place table want w i (quiet_then table (quiet_begin table set st) (sound_bind table (sound_integer table v (sound a live W c e (a_value an_integer) v f.2 s)) (λ V d n p.
        sound_bind table (sound_case parts live V c e v (case_number n) want i f.3 (grown table live c e d s)) (λ U g r q. sound_result t want v r f.0 f.1 q))))
    sound (Block st p decls items) live W c e want w f s =
        sound_no_place table want w f.0 (quiet_then table (quiet_begin table set st) (sound_block table set later later_sound (innermost w st) p decls items c e want (λ n. env.go_decls set later decls (innermost w st) n.variables n.arrays e) (λ g. env.go_items set later items (innermost w st) g) s f.0 f.1 f.2
        (λ V d n l. sound_decls decls live V c (kinds.with_block table decls items c) e (innermost w st) n.variables n.arrays n.arrays f.1 (grown table live c e d s) l)
        (λ U inner g i. sound_items items inner U (kinds.with_block table decls items c) g want (innermost w st) f.0 f.2 i)))
    sound (Call st compares p a given) live W c e want w f s =
        at_result want f.0 w _ f.1 (quiet_then table (quiet_begin table set st) (sound_invoked table set later later_sound (innermost w st) p compares a f.0 c e given (λ fs. env.go_actuals set later given (innermost w st) fs e) (λ fs bs. env.go_back set later given (innermost w st) fs bs e) f.2 f.3 s
        (record { readies = λ fs i g. sound_actuals given live W c e (innermost w st) fs i f.3 g s; backs = λ fs i g V d bs h. sound_backs given live V c e (innermost w st) fs bs f.3 g h (grown table live c e d s) })))
    sound (Assign st t a b) live W c e want w f s =
        let v = innermost w st in
        sound_no_place table want w (assigned_no_place st (kind_of t) want f.0) (quiet_then table (quiet_begin table set st) (sound_bind table (sound_spot table (kind_of t) v (sound a live W c e (a_place (kind_of t)) v f.2 s)) (λ V d spot p.
        sound_holding table v (sound_bind table (sound_value table (kind_of t) v (sound b live V c e (a_value (kind_of t)) v f.3 (grown table live c e d s))) (λ U g u q.
        sound_then table (sound_assign table v t spot u f.1 (spot_grows g (kind_of t) spot p) q) (λ T h. sound_assigned st (kind_of t) u want f.0 (value_grows h (kind_of t) u q)))))))
    sound (WhileDo st a body) live W c e want w f s =
        at_statement want w _ f.0 (quiet_then table (quiet_begin table set (Some st)) (sound_while st _ a body c e s f.1 f.2 (sound a live W c e (a_value a_truth) st f.1 s)))
    sound (ForStep st x from step to body) live W c e want w f s =
        at_statement want w _ f.0 (quiet_then table (quiet_begin table set (Some st)) (sound_bind table (sound_integer table st (sound from live W c e (a_value an_integer) st f.1 s)) (λ V d i p. quiet_then table (quiet_take table 1 st)
        (sound_bind table (sound_integer table st (sound step live V c e (a_value an_integer) st f.2 (grown table live c e d s))) (λ U g j q. quiet_then table (quiet_take table 1 st)
        (sound_bind table (sound_integer table st (sound to live U c e (a_value an_integer) st f.3 (grown table live c e (extends_both d g) s))) (λ T h k r. quiet_then table (quiet_take table 1 st)
        (sound_then table (sound_test table (int_eq j (pos 0)) (λ z. sound_fault table fault.StepZero st) (sound_steps st x i j k body c e (grown table live c e (extends_both (extends_both d g) h) s) f.4)) (λ S y. quiet_then table (quiet_back table 3) (sound_give table nothing tt))))))))))
    sound (ForList st x values body) live W c e want w f s =
        at_statement want w _ f.0 (quiet_then table (quiet_begin table set (Some st)) (sound_then table (sound_list values live W c e st x body f.1 f.2 s) (λ V d. sound_give table nothing tt)))
    sound (Goto st a) live W c e want w f s = quiet_then table (quiet_begin table set (Some st)) (sound_went table set later later_sound st c e a f.1 s)
    sound (Assert st a) live W c e want w f s =
        at_statement want w _ f.0 (quiet_then table (quiet_begin table set (Some st)) (sound_bind table (sound_truth table st (sound a live W c e (a_value a_truth) st f.1 s)) (λ V d truth p. sound_test table truth (λ q. sound_give table nothing tt) (sound_fault table fault.AssertionFalse st))))
    sound (Write st first roles values) live W c e want w f s =
        at_statement want w _ f.0 (quiet_then table (quiet_begin table set (Some st)) (sound_then table (sound_writes values live W c e st first none_set roles f.1 s) (λ V d. sound_give table nothing tt)))
    sound (Read st next targets) live W c e want w f s =
        at_statement want w _ f.0 (quiet_then table (quiet_begin table set (Some st)) (sound_then table (sound_reads targets live W c e st next f.1 s) (λ V d. sound_give table nothing tt)))
    sound (ReadCard st targets) live W c e want w f s =
        at_statement want w _ f.0 (quiet_then table (quiet_begin table set (Some st)) (sound_then table (sound_cards targets live W c e st f.1 s) (λ V d. sound_give table nothing tt)))
    sound (IoControl st a) live W c e want w f s =
        at_statement want w _ f.0 (quiet_then table (quiet_begin table set (Some st)) (sound_bind table (sound_integer table st (sound a live W c e (a_value an_integer) st f.1 s)) (λ V d i p. quiet_then table (quiet_io_control table i) (sound_give table nothing tt))))

    -- ---- lists of phrases

    sound_subscripts : (ps : Phrases) (live : Live) (W : World) (c : Context) (e : Env) (w : Place) → AllFit table c ps (a_value an_integer) → EnvSuits table W live c e → Sound table live W (λ V is. length is ≡ phrase_count ps) (env.go_subscripts set later ps w e)
    sound_subscripts no_phrases live W c e w f s = sound_give table [] refl
    sound_subscripts (phrase_and a rest) live W c e w f s =
        sound_bind table (sound_integer table w (sound a live W c e (a_value an_integer) w f.0 s)) (λ V d i p. quiet_then table (quiet_take table 1 w) (sound_bind table (sound_subscripts rest live V c e w f.1 (grown table live c e d s)) (λ U g is q. sound_give table (i ∷ is) (omega (arith, q)))))

    sound_fields : (ps : Phrases) (live : Live) (W : World) (c : Context) (e : Env) (w : Place) (ts : List ValueType) → FieldsFit table c ts ps → EnvSuits table W live c e → Sound table live W (λ V vs. FieldsSuit table V (map kind_of ts) vs) (env.go_fields set later ps w ts e)
    sound_fields no_phrases live W c e w [] f s = sound_give table [] tt
    sound_fields no_phrases live W c e w (t ∷ ts) f s = absurd f
    sound_fields (phrase_and a rest) live W c e w [] f s = absurd f
    sound_fields (phrase_and a rest) live W c e w (t ∷ ts) f s =
        sound_bind table (sound_bind table (sound_value table (kind_of t) w (sound a live W c e (a_value (kind_of t)) w f.1 s)) (λ V d v p. sound_made table w t v f.0 p)) (λ V d v p. quiet_then table (quiet_take table 1 w)
        (sound_bind table (sound_fields rest live V c e w ts f.2 (grown table live c e d s)) (λ U g vs q. sound_give table (Some v ∷ vs) (value_grows g (kind_of t) v p, q))))

    sound_case : (ps : Phrases) (live : Live) (W : World) (c : Context) (e : Env) (w : Place) (k : Option ℕ) (want : Want) → IsNoPlace want → AllFit table c ps want → EnvSuits table W live c e → Sound table live W (Suits want) (env.go_case set later ps w k e)
    sound_case no_phrases live W c e w None want i f s = sound_fault table fault.CaseOutsideRange w
    sound_case (phrase_and a rest) live W c e w None want i f s = sound_fault table fault.CaseOutsideRange w
    sound_case no_phrases live W c e w (Some k) want i f s = sound_fault table fault.CaseOutsideRange w
    sound_case (phrase_and a rest) live W c e w (Some zero) want i f s = for_no_place want a w e i (sound a live W c e want w f.0 s)
    sound_case (phrase_and a rest) live W c e w (Some (suc k)) want i f s = sound_case rest live W c e w (Some k) want i f.1 s

    sound_list : (ps : Phrases) (live : Live) (W : World) (c : Context) (e : Env) (w : Place) (x : Name) (body : Phrase) → AllFit table c ps (a_value an_integer) → Fits table (kinds.at_control x.place c) body a_statement → EnvSuits table W live c e → Sound table live W (λ V a. ⊤) (env.go_list set later ps w x body e)
    sound_list no_phrases live W c e w x body f g s = sound_give table tt tt
    sound_list (phrase_and a rest) live W c e w x body f g s =
        sound_bind table (sound_integer table w (sound a live W c e (a_value an_integer) w f.0 s)) (λ V d i p.
        sound_then table (sound_holding table w (quiet_then table (quiet_tick table set w) (later_sound (list_job w x i body e) live V a_statement (refl, c, grown table live c e d s, g)))) (λ U h. sound_list rest live U c e w x body f.1 g (grown table live c e (extends_both d h) s)))

    sound_writes : (ps : Phrases) (live : Live) (W : World) (c : Context) (e : Env) (w : Place) (first : Bool) (ws : WidthsSet) (roles : List Role) → ValuesFit table c roles ps → EnvSuits table W live c e → Sound table live W (λ V a. ⊤) (env.go_writes set later ps w first ws roles e)
    sound_writes no_phrases live W c e w first ws roles f s = sound_give table tt tt
    sound_writes (phrase_and a rest) live W c e w first ws [] f s = absurd f
    sound_writes (phrase_and a rest) live W c e w first ws (a_value_placed ∷ roles) f s =
        sound_bind table (sound_value table f.0 w (sound a live W c e (a_value f.0) w f.1 s)) (λ V d v p. quiet_then table (quiet_written table set w first ws v) (sound_writes rest live V c e w false ws roles f.2 (grown table live c e d s)))
    sound_writes (phrase_and a rest) live W c e w first ws (sets k ∷ roles) f s =
        sound_bind table (sound_integer table w (sound a live W c e (a_value an_integer) w f.0 s)) (λ V d n p. sound_writes rest live V c e w first (with_width k n ws) roles f.1 (grown table live c e d s))

    sound_reads : (ps : Targets) (live : Live) (W : World) (c : Context) (e : Env) (w : Place) (next : Bool) → TargetsFit table c ps → EnvSuits table W live c e → Sound table live W (λ V a. ⊤) (env.go_reads set later ps w next e)
    sound_reads no_targets live W c e w next f s = sound_give table tt tt
    sound_reads (target_and t a rest) live W c e w next f s =
        sound_bind table (sound_spot table (kind_of t) w (sound a live W c e (a_place (kind_of t)) w f.1 s)) (λ V d spot p. sound_bind table (sound_scan table set w next t f.0) (λ U g v q.
        sound_then table (sound_assign table w t spot v (read_proper t f.0) (spot_grows g (kind_of t) spot p) q) (λ T h. sound_reads rest live T c e w false f.2 (grown table live c e (extends_both (extends_both d g) h) s))))

    sound_cards : (ps : Targets) (live : Live) (W : World) (c : Context) (e : Env) (w : Place) → CardsFit table c ps → EnvSuits table W live c e → Sound table live W (λ V a. ⊤) (env.go_cards set later ps w e)
    sound_cards no_targets live W c e w f s = sound_give table tt tt
    sound_cards (target_and t a rest) live W c e w f s =
        sound_bind table (sound_spot table (kind_of t) w (sound a live W c e (a_place (kind_of t)) w f.2 s)) (λ V d spot p. sound_bind table (sound_card table set w) (λ U g v q.
        sound_then table (sound_assign table w t spot v f.1 (spot_grows g (kind_of t) spot p) (subst (λ k. ValueSuits U k v) (sym f.0) q)) (λ T h. sound_cards rest live T c e w f.3 (grown table live c e (extends_both (extends_both d g) h) s))))

    pub sound_items : (is : Items) (live : Live) (W : World) (c : Context) (e : Env) (want : Want) (w : Place) → IsNoPlace want → ItemsFit table c is want → EnvSuits table W live c e → Sound table live W (Suits want) (env.go_items set later is w e)
    sound_items no_items live W c e want w i f s = subst (λ want. Sound table live W (Suits want) (give nothing)) (sym f) (sound_give table nothing tt)
    sound_items (item_and labels a no_items) live W c e a_statement w i f s = sound a live W c e a_statement w f s
    sound_items (item_and labels a no_items) live W c e (a_value k) w i f s = sound a live W c e (a_value k) w f s
    sound_items (item_and labels a no_items) live W c e (a_place k) w i f s = absurd i
    sound_items (item_and labels a (item_and more b rest)) live W c e want w i f s =
        sound_then table (sound a live W c e a_statement w f.0 s) (λ V d. sound_items (item_and more b rest) live V c e want w i f.1 (grown table live c e d s))

    sound_bounds : (bs : Bounds) (live : Live) (W : World) (c : Context) (e : Env) (w : Place) → BoundsFit table c bs → EnvSuits table W live c e → Sound table live W (λ V ps. length ps ≡ dimensions bs) (env.go_bounds set later bs w e)
    sound_bounds no_bounds live W c e w f s = sound_give table [] refl
    sound_bounds (bound_and a b rest) live W c e w f s =
        sound_bind table (sound_integer table w (sound a live W c e (a_value an_integer) w f.0 s)) (λ V d i p. quiet_then table (quiet_take table 1 w)
        (sound_bind table (sound_integer table w (sound b live V c e (a_value an_integer) w f.1 (grown table live c e d s))) (λ U g j q. quiet_then table (quiet_take table 1 w)
        (sound_bind table (sound_bounds rest live U c e w f.2 (grown table live c e (extends_both d g) s)) (λ T h ps r. sound_give table ((i, j) ∷ ps) (omega (arith, r)))))))

    -- the arrays of the declarations are made, from number k on
    sound_decls : (ds : Decls) (live : Live) (W : World) (around c : Context) (e : Env) (w : Place) (v a k : ℕ) → DeclsFit table around c ds → EnvSuits table W live around e → Located W.arrays k (array_kinds ds)
        → Makes table live (upto live.arrays a k) (upto live.arrays a (k + array_count ds)) W (env.go_decls set later ds w v k e)
    sound_decls no_decls live W around c e w v a k f s l = none_made live W a k
    sound_decls (variables_and names rest) live W around c e w v a k f s l = quiet_makes table (quiet_variables table w v names) (sound_decls rest live W around c e w (v + length names) a k f s l)
    sound_decls (arrays_and t names pairs rest) live W around c e w v a k f s l =
        makes_bind table (more_made live a k) (sound_bounds pairs (where_made table live (upto live.arrays a k)) W around e w f.0 (more_env live W around e a k s)) (λ V d bs p. quiet_makes table (quiet_back table (2 * length bs))
        (arrays_then live V w v a k t names pairs rest bs p (λ i b q. d.arrays (k + i) b (l i b q)) (λ U g m. sound_decls rest live U around c e w v a (k + length names) f.1 (grown table live around e (extends_both d g) s) m)))
    sound_decls (procedure_and x result formals body rest) live W around c e w v a k f s l = sound_decls rest live W around c e w v a k f.1 s l

    sound_stars : (ps : Subscripts) (live : Live) (W : World) (c : Context) (e : Env) (w : Place) → SubscriptsFit table c ps → EnvSuits table W live c e → Sound table live W (λ V is. (length is ≡ subscript_count ps) × (stars is ≡ free_of ps)) (env.go_stars set later ps w e)
    sound_stars no_subscripts live W c e w f s = sound_give table [] (refl, refl)
    sound_stars (star_and rest) live W c e w f s = sound_bind table (sound_stars rest live W c e w f s) (λ V d is p. sound_give table (None ∷ is) (omega (arith, p.0), omega (arith, p.1)))
    sound_stars (subscript_and a rest) live W c e w f s =
        sound_bind table (sound_integer table w (sound a live W c e (a_value an_integer) w f.0 s)) (λ V d i p. quiet_then table (quiet_take table 1 w)
        (sound_bind table (sound_stars rest live V c e w f.1 (grown table live c e d s)) (λ U g is q. sound_give table (Some i ∷ is) (omega (arith, q.0), q.1))))

    -- ---- actuals

    sound_actual : (a : Actual) (live : Live) (W : World) (c : Context) (e : Env) (w : Place) (f : FormalType) → IsProperFormal f → ActualFits table c a → ActualFor c f a → EnvSuits table W live c e → Sound table live W (λ V r. ReadySuits table V live f r) (env.go_actual set later a w f e)
    sound_actual (Given false g first a) live W c e w f i h p s = sound_phrase_ready table set later later_sound f w false g first a c e s i h.0 h.2 p (for_given g a w e (sound a live W c e (given_want g) w h.0 s))
    sound_actual (Given true Statement first a) live W c e w f i h p s = sound_phrase_ready table set later later_sound f w true Statement first a c e s i h.0 h.2 p (sound a live W c e a_statement w h.0 s)
    sound_actual (Given true (Simple t) first a) live W c e w f i h p s = sound_phrase_ready table set later later_sound f w true (Simple t) first a c e s i h.0 h.2 p (sound a live W c e (a_value (kind_of t)) w h.0 s)
    sound_actual (Alone q a) live W c e w f i h p s =
        sound_name_ready table set later later_sound f w q a c e s i p (λ r k. sound_invoked table set later later_sound w q true a r c e no_actuals (λ fs. env.no_formals w fs) (λ fs bs. give tt) k tt s
        (record { readies = λ fs j g. none_ready live W c w fs g; backs = λ fs j g V d bs m. sound_give table tt tt }))
    sound_actual (Subarray a indices) live W c e w f i h p s =
        sound_for_an_array c w f a indices p (sound_bind table (sound_stars indices live W c e w h.2 s) (λ V d is q. subarray_ready live V c e w f a indices is p (grown table live c e d s) q.0 q.1))

    sound_actuals : (ps : Actuals) (live : Live) (W : World) (c : Context) (e : Env) (w : Place) (fs : List Formal) → AreProper fs → ActualsFit table c ps → ActualsFor c (formal_types fs) ps → EnvSuits table W live c e → Sound table live W (λ V rs. AllReady table V live fs rs) (env.go_actuals set later ps w fs e)
    sound_actuals no_actuals live W c e w [] i h g s = sound_give table [] tt
    sound_actuals no_actuals live W c e w (f ∷ fs) i h g s = absurd g
    sound_actuals (actual_and a rest) live W c e w [] i h g s = absurd g
    sound_actuals (actual_and a rest) live W c e w (f ∷ fs) i h g s =
        sound_bind table (sound_actual a live W c e w f.is i.0 h.0 g.0 s) (λ V d r p. quiet_then table (quiet_take table 1 w) (sound_bind table (sound_actuals rest live V c e w fs i.1 h.1 g.1 (grown table live c e d s)) (λ U k rs q. sound_give table (r ∷ rs) (ready_grows table live k f.is r p, q))))

    sound_backs : (ps : Actuals) (live : Live) (W : World) (c : Context) (e : Env) (w : Place) (fs : List Formal) (bs : List Meant) → ActualsFit table c ps → ActualsFor c (formal_types fs) ps → PutsSuit table W live fs bs → EnvSuits table W live c e → Sound table live W (λ V a. ⊤) (env.go_back set later ps w fs bs e)
    sound_backs no_actuals live W c e w [] [] h g m s = sound_give table tt tt
    sound_backs no_actuals live W c e w [] (b ∷ bs) h g m s = absurd m
    sound_backs no_actuals live W c e w (f ∷ fs) bs h g m s = absurd g
    sound_backs (actual_and a rest) live W c e w [] bs h g m s = absurd g
    sound_backs (actual_and a rest) live W c e w (f ∷ fs) [] h g m s = absurd m
    sound_backs (actual_and (Given false y first a) rest) live W c e w (f ∷ fs) (b ∷ bs) h g m s =
        sound_then table (sound_back table set later later_sound (env.go set later a for_place w e) f.is w false y b.by g.0 h.0.1 m.1 tt) (λ V d. sound_backs rest live V c e w fs bs h.1 g.1 (puts_grow table live d fs bs m.2) (grown table live c e d s))
    sound_backs (actual_and (Given true Statement first a) rest) live W c e w (f ∷ fs) (b ∷ bs) h g m s =
        sound_then table (sound_back table set later later_sound (env.go set later a for_place w e) f.is w true Statement b.by g.0 h.0.1 m.1 tt) (λ V d. sound_backs rest live V c e w fs bs h.1 g.1 (puts_grow table live d fs bs m.2) (grown table live c e d s))
    sound_backs (actual_and (Given true (Simple t) first a) rest) live W c e w (f ∷ fs) (b ∷ bs) h g m s =
        sound_then table (sound_back table set later later_sound (env.go set later a for_place w e) f.is w true (Simple t) b.by g.0 h.0.1 m.1 (sound a live W c e (a_place (kind_of t)) w h.0.2 s)) (λ V d. sound_backs rest live V c e w fs bs h.1 g.1 (puts_grow table live d fs bs m.2) (grown table live c e d s))
    sound_backs (actual_and (Alone q a) rest) live W c e w (f ∷ fs) (b ∷ bs) h g m s = sound_backs rest live W c e w fs bs h.1 g.1 m.2 s
    sound_backs (actual_and (Subarray a indices) rest) live W c e w (f ∷ fs) (b ∷ bs) h g m s = sound_backs rest live W c e w fs bs h.1 g.1 m.2 s
