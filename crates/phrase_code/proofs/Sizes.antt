-- How long the code of a phrase is.
use Rattle.std.proofs.Common.{◌≡◌, ℕ, ◌+◌, List, [], ◌∷◌, length, map, Option, Some, None, refl, sym, ap, ◌∙◌, subst, arith}
use Rattle.std.specs.Prelude.{Bool, true, false}
use Rattle.value_ops.specs.declared.places.Place.{Place}
use Rattle.algolw_typing.specs.Types.{ValueType, Gives, Statement, Simple, is_place}
use Rattle.algolw_typing.specs.Meanings.{FormalType, by_name, by_value, by_result, by_value_result, for_array, for_procedure}
use Rattle.program_meaning.specs.Phrases.{Phrase, Empty, Constant, Named, Variable, Array, Label, Procedure, Copied, Unary, Binary, Relation, IsClass, Element, Field, Part, Record, RecordAlone, IfThen, Case, Block, Call, Assign, WhileDo, ForStep, ForList, Goto, Assert, Write, Read, ReadCard, IoControl, Phrases, no_phrases, phrase_and, Targets, no_targets, target_and, Subscripts, no_subscripts, star_and, subscript_and, Actuals, no_actuals, actual_and, Actual, Given, Alone, Subarray, Items, no_items, item_and, Bounds, no_bounds, bound_and, Decls, no_decls, variables_and, arrays_and, procedure_and, Name, Formal, Role, placed, sets}
use Rattle.program_meaning.specs.State.{innermost}
use Rattle.stack_code.specs.Instr as instr
use Rattle.stack_code.specs.Instr.{Instr, Mode, the_value, the_place, as_asked}
use Rattle.stack_code.specs.Code.{Coded}
use Rattle.phrase_code.specs.Sizes.{Kind, a_variable, an_array, a_name_formal, a_procedure_formal, a_procedure, a_label, Known, kind_at, kind_of_formal, name_known, formals_known, labels_known, items_known, decls_known, block_known, head_kind, call_kind, begin_size, make_size, result_size, named_size, text_size, bare_call_size, given_size, alone_size, back_size, call_size, goto_size, size, each_size, fields_size, jumps_size, parts_size, list_size, writes_size, targets_size, items_size, bounds_size, decls_size, subscripts_size, actuals_size, actual_size, backs_size, back_of_size, texts_size, text_of_size, prepares_size, place_backs_size, place_back_of_size}
use Rattle.phrase_code.specs.Coding.{◌▸◌, one, Stand, Context, known_of, known, stand_at, with_entries, inner_text, name_stands, formal_stands, label_stands, item_stands, decl_stands, entry_count, block_context, body_context, turn_context, stand_of, kind_of_stand, begin_code, make_code, result_code, named_by, named_code, element_code, goto_by, goto_code, declare_code, declare_arrays_code, stars_of, subarray_code, hand_on_code, jumps_code, bare_call, text_code, given_code, alone_code, back_code, prepares_code, place_back_code, place_backs_code, call_code, through_code, source_of, code, code_each, code_fields, code_parts, code_list, code_writes, code_reads, code_cards, code_items, code_bounds, code_decls, code_subscripts, code_actuals, code_actual, code_backs, code_back, code_texts, code_text}

pub length_code : (a b : List Coded) → length (a ▸ b) ≡ length a + length b
length_code [] b = omega arith
length_code (i ∷ a) b = let e = length_code a b in omega (arith, e)

-- code has so many instructions
pub record Sized (a : List Coded) (n : ℕ) : Type 0 where
  pub by : length a ≡ n

pub joined : {a b : List Coded} {m n : ℕ} → Sized a m → Sized b n → Sized (a ▸ b) (m + n)
joined {a} {b} {m} {n} p q = let e = length_code a b in let i = p.by in let j = q.by in record { by = omega (arith, e, i, j) }

pub sized_as : {a : List Coded} {m n : ℕ} → m ≡ n → Sized a m → Sized a n
sized_as e p = record { by = p.by ∙ e }

pub single : (w : Place) (i : Instr) → Sized (one w i) 1
single w i = record { by = refl }

pub none : Sized [] 0
none = record { by = refl }

-- ---- what is known of names

pub known_names : (kind : Kind) (level position : ℕ) (xs : List Name) (names : List Stand) → map known_of (name_stands kind level position xs names) ≡ name_known kind xs (map known_of names)
known_names kind level position [] names = refl
known_names kind level position (x ∷ xs) names = ap (λ l. record { place = x.place; kind = kind } ∷ l) (known_names kind level (position + 1) xs names)

pub known_formals : (level position : ℕ) (fs : List Formal) (names : List Stand) → map known_of (formal_stands level position fs names) ≡ formals_known fs (map known_of names)
known_formals level position [] names = refl
known_formals level position (f ∷ fs) names = ap (λ l. record { place = f.name.place; kind = kind_of_formal f.is } ∷ l) (known_formals level (position + 1) fs names)

known_labels : (level mark target : ℕ) (xs : List Place) (names : List Stand) → map known_of (label_stands level mark target xs names) ≡ labels_known xs (map known_of names)
known_labels level mark target [] names = refl
known_labels level mark target (x ∷ xs) names = ap (λ l. record { place = x; kind = a_label } ∷ l) (known_labels level mark target xs names)

known_items : (inside : List Known) (level mark k : ℕ) (items : Items) (names : List Stand) → map known_of (item_stands inside level mark k items names) ≡ items_known items (map known_of names)
known_items inside level mark k no_items names = refl
known_items inside level mark k (item_and labels a rest) names = known_labels level mark k labels _ ∙ ap (labels_known labels) (known_items inside level mark (k + size inside a) rest names)

known_decls : (outside inside : List Known) (level position k : ℕ) (decls : Decls) (names : List Stand) → map known_of (decl_stands outside inside level position k decls names) ≡ decls_known decls (map known_of names)
known_decls outside inside level position k no_decls names = refl
known_decls outside inside level position k (variables_and xs rest) names = known_names a_variable level position xs _ ∙ ap (name_known a_variable xs) (known_decls outside inside level (position + length xs) (k + length xs) rest names)
known_decls outside inside level position k (arrays_and t xs pairs rest) names = known_names an_array level position xs _ ∙ ap (name_known an_array xs) (known_decls outside inside level (position + length xs) (k + (bounds_size outside pairs + (1 + length xs))) rest names)
known_decls outside inside level position k (procedure_and x result formals body rest) names = ap (λ l. record { place = x.place; kind = a_procedure formals } ∷ l) (known_decls outside inside level position (k + decls_size outside inside (procedure_and x result formals body no_decls)) rest names)

pub known_block : (c : Context) (k : ℕ) (decls : Decls) (items : Items) → known (block_context c k decls items) ≡ block_known decls items (known c)
known_block c k decls items = known_decls (known c) (block_known decls items (known c)) c.level (c.count + 1) k decls _ ∙ ap (decls_known decls) (known_items (block_known decls items (known c)) c.level (c.count + 1 + entry_count decls) (k + (decls_size (known c) (block_known decls items (known c)) decls + 1)) items c.names)

pub kind_found : (names : List Stand) (x : Place) → kind_at (map known_of names) x ≡ kind_of_stand (stand_at names x)
kind_found [] x = refl
kind_found (s ∷ names) x = by (is_place s.place x) (kind_found names x)
  where
    by : (b : Bool) → kind_at (map known_of names) x ≡ kind_of_stand (stand_at names x) → elim b [ true ↦ Some s.kind | false ↦ kind_at (map known_of names) x ] ≡ kind_of_stand (elim b [ true ↦ Some s | false ↦ stand_at names x ])
    by true h = refl
    by false h = h

-- ---- single pieces

pub begin_sized : (st : Option Place) → Sized (begin_code st) (begin_size st)
begin_sized None = none
begin_sized (Some st) = single st _

pub make_sized : (w : Place) (t : Option ValueType) → Sized (make_code w t) (make_size t)
make_sized w None = none
make_sized w (Some t) = single w _

pub result_sized : (w : Place) (t : Option ValueType) → Sized (result_code w t) (result_size t)
result_sized w None = none
result_sized w (Some t) = record { by = refl }

pub kind_sized : (c : Context) (w : Place) (u : Mode) (kind : Kind) (s : Stand) → Sized (named_by c w u kind s) (named_size (Some kind))
kind_sized c w u a_variable s = single w _
kind_sized c w u an_array s = single w _
kind_sized c w u a_name_formal s = record { by = refl }
kind_sized c w u a_procedure_formal s = record { by = refl }
kind_sized c w u (a_procedure formals) s = single w _
kind_sized c w u a_label s = single w _

pub named_sized : (c : Context) (w : Place) (u : Mode) (o : Option Stand) → Sized (named_code c w u o) (named_size (kind_of_stand o))
named_sized c w u None = single w _
named_sized c w u (Some s) = kind_sized c w u s.kind s

pub element_sized : (c : Context) (w : Place) (u : Mode) (n : ℕ) (o : Option Stand) → Sized (element_code c w u n o) 1
element_sized c w u n None = single w _
element_sized c w u n (Some s) = single w _

pub goto_kind_sized : (c : Context) (st : Place) (kind : Kind) (s : Stand) → Sized (goto_by c st kind s) (goto_size (Some kind))
goto_kind_sized c w a_variable s = record { by = refl }
goto_kind_sized c w an_array s = record { by = refl }
goto_kind_sized c w a_name_formal s = record { by = refl }
goto_kind_sized c w a_procedure_formal s = record { by = refl }
goto_kind_sized c w (a_procedure formals) s = record { by = refl }
goto_kind_sized c w a_label s = single w _

pub goto_sized : (c : Context) (st : Place) (o : Option Stand) → Sized (goto_code c st o) (goto_size (kind_of_stand o))
goto_sized c st None = record { by = refl }
goto_sized c st (Some s) = goto_kind_sized c st s.kind s

pub declare_sized : (w : Place) (xs : List Name) → Sized (declare_code w xs) (length xs)
declare_sized w [] = none
declare_sized w (x ∷ xs) = sized_as (omega arith) (joined (single w _) (declare_sized w xs))

pub declare_arrays_sized : (w : Place) (t : ValueType) (xs : List Name) → Sized (declare_arrays_code w t xs) (length xs)
declare_arrays_sized w t [] = none
declare_arrays_sized w t (x ∷ xs) = sized_as (omega arith) (joined (single w _) (declare_arrays_sized w t xs))

pub subarray_sized : (c : Context) (w : Place) (stars : List Bool) (o : Option Stand) → Sized (subarray_code c w stars o) 1
subarray_sized c w stars None = single w _
subarray_sized c w stars (Some s) = single w _

pub hand_on_sized : (c : Context) (w : Place) (o : Option Stand) → Sized (hand_on_code c w o) 1
hand_on_sized c w None = single w _
hand_on_sized c w (Some s) = single w _

pub jumps_sized : (names : List Known) (w : Place) (k : ℕ) (parts : Phrases) → Sized (jumps_code names w k parts) (jumps_size parts)
jumps_sized names w k no_phrases = none
jumps_sized names w k (phrase_and a rest) = joined (single w _) (jumps_sized names w (k + (size names a + 1)) rest)

pub text_sized : (w : Place) (k : ℕ) (first : Place) (r : instr.Reading) (n : ℕ) (a : List Coded) → Sized a n → Sized (text_code w k first r n a) (text_size n)
text_sized w k first r n a p = sized_as (omega arith) (joined (single w _) (joined p (single w _)))

pub prepares_sized : (names : List Known) (w : Place) (s : instr.Source) (i k : ℕ) (given : Actuals) → Sized (prepares_code names w s i k given) (prepares_size given)
prepares_sized names w s i k no_actuals = none
prepares_sized names w s i k (actual_and a rest) = sized_as (omega arith) (joined (single w _) (joined (single w _) (joined (single w _) (prepares_sized names w s (i + 1) (k + text_of_size names a) rest))))

pub place_back_sized : (w : Place) (i k : ℕ) (a : Actual) → Sized (place_back_code w i k a) (place_back_of_size a)
place_back_sized w i k (Given v (Simple t) first a) = record { by = refl }
place_back_sized w i k (Given v Statement first a) = none
place_back_sized w i k (Alone p a) = none
place_back_sized w i k (Subarray a given) = none

pub place_backs_sized : (names : List Known) (w : Place) (i k : ℕ) (given : Actuals) → Sized (place_backs_code names w i k given) (place_backs_size given)
place_backs_sized names w i k no_actuals = none
place_backs_sized names w i k (actual_and a rest) = joined (place_back_sized w i k a) (place_backs_sized names w (i + 1) (k + text_of_size names a) rest)

-- an actual that is a phrase of size n
pub given_sized : (f : FormalType) (c : Context) (w : Place) (k : ℕ) (v : Bool) (g : Gives) (first : Place) (n : ℕ) (coded : Context → Mode → ℕ → List Coded) → ((u : Mode) (l : ℕ) → Sized (coded c u l) n) → ((u : Mode) (l : ℕ) → Sized (coded (inner_text c) u l) n) → Sized (given_code f c w k v g first n coded) (given_size f n)
given_sized (by_value t) c w k v g first n coded p q = sized_as (omega arith) (joined (p the_value k) (joined (single w _) (single w _)))
given_sized (by_result t) c w k v g first n coded p q = single w _
given_sized (by_value_result t) c w k v g first n coded p q = sized_as (omega arith) (joined (text_sized w k first _ n _ (q as_asked (k + 1))) (joined (single w _) (joined (single w _) (single w _))))
given_sized (by_name t) c w k v g first n coded p q = sized_as (omega arith) (joined (text_sized w k first _ n _ (q as_asked (k + 1))) (joined (single w _) (single w _)))
given_sized (for_procedure result) c w k v g first n coded p q = sized_as (omega arith) (joined (text_sized w k first _ n _ (q as_asked (k + 1))) (joined (single w _) (single w _)))
given_sized (for_array t d) c w k v g first n coded p q = single w _

-- a name alone, whose call has size n
pub alone_sized : (f : FormalType) (c : Context) (w : Place) (k : ℕ) (p : Place) (n : ℕ) (o : Option Stand) → ((l : ℕ) → Sized (bare_call c w p l o) n) → ((l : ℕ) → Sized (bare_call (inner_text c) w p l o) n) → Sized (alone_code f c w k p n o) (alone_size f n)
alone_sized (by_value t) c w k p n o q r = joined (q k) (joined (single w _) (single w _))
alone_sized (by_name t) c w k p n o q r = joined (text_sized w k p _ n _ (r (k + 1))) (joined (single w _) (single w _))
alone_sized (for_procedure result) c w k p n o q r = joined (hand_on_sized c w o) (single w _)
alone_sized (for_array t d) c w k p n o q r = joined (hand_on_sized c w o) (single w _)
alone_sized (by_result t) c w k p n o q r = single w _
alone_sized (by_value_result t) c w k p n o q r = single w _

pub back_sized : (f : FormalType) (c : Context) (w : Place) (k i kr : ℕ) (g : Gives) (n : ℕ) (coded : Context → Mode → ℕ → List Coded) → ((u : Mode) (l : ℕ) → Sized (coded c u l) n) → Sized (back_code f c w k i kr g coded) (back_size f g n)
back_sized (by_result t) c w k i kr (Simple u) n coded p = joined (p the_place k) (single w _)
back_sized (by_result t) c w k i kr Statement n coded p = none
back_sized (by_value_result t) c w k i kr (Simple u) n coded p = record { by = refl }
back_sized (by_value_result t) c w k i kr Statement n coded p = none
back_sized (by_value t) c w k i kr g n coded p = none
back_sized (by_name t) c w k i kr g n coded p = none
back_sized (for_array t d) c w k i kr g n coded p = none
back_sized (for_procedure t) c w k i kr g n coded p = none

pub through_sized : (c : Context) (w : Place) (compares : Bool) (p : Place) (k : ℕ) (given : Actuals) (s : Stand) (texts : ℕ → List Coded) (n : ℕ) → ((l : ℕ) → Sized (texts l) n) → Sized (through_code c w compares p k given s texts) (n + (1 + (prepares_size given + (1 + (place_backs_size given + 1)))))
through_sized c w compares p k given s texts n q = joined (q k) (joined (single w _) (joined (prepares_sized (known c) w (source_of c s) 0 k given) (joined (single w _) (joined (place_backs_sized (known c) w 0 k given) (single w _)))))

pub call_sized : (c : Context) (w : Place) (compares : Bool) (p : Place) (k : ℕ) (given : Actuals) (kind : Option Kind) (o : Option Stand) → kind ≡ kind_of_stand o → (ready back : List Formal → List Coded) (texts : ℕ → List Coded) (nr nb : List Formal → ℕ) (nt : ℕ) → ((fs : List Formal) → Sized (ready fs) (nr fs)) → ((fs : List Formal) → Sized (back fs) (nb fs)) → ((l : ℕ) → Sized (texts l) nt) →
    Sized (call_code c w compares p k given (call_kind compares (kind_of_stand o)) o ready back texts) (call_size (call_kind compares kind) nr nb nt given)
call_sized c w compares p k given kind o e ready back texts nr nb nt qr qb qt = subst (λ z. Sized (call_code c w compares p k given (call_kind compares (kind_of_stand o)) o ready back texts) (call_size (call_kind compares z) nr nb nt given)) (sym e) (by compares o)
  where
    kinds : (b : Bool) (kind : Kind) (s : Stand) → Sized (call_code c w b p k given (call_kind b (Some kind)) (Some s) ready back texts) (call_size (call_kind b (Some kind)) nr nb nt given)
    kinds false (a_procedure formals) s = joined (qr formals) (joined (single w _) (joined (qb formals) (single w _)))
    kinds true (a_procedure formals) s = through_sized c w true p k given s texts nt qt
    kinds false a_variable s = through_sized c w false p k given s texts nt qt
    kinds true a_variable s = through_sized c w true p k given s texts nt qt
    kinds false an_array s = through_sized c w false p k given s texts nt qt
    kinds true an_array s = through_sized c w true p k given s texts nt qt
    kinds false a_name_formal s = through_sized c w false p k given s texts nt qt
    kinds true a_name_formal s = through_sized c w true p k given s texts nt qt
    kinds false a_procedure_formal s = through_sized c w false p k given s texts nt qt
    kinds true a_procedure_formal s = through_sized c w true p k given s texts nt qt
    kinds false a_label s = single w _
    kinds true a_label s = single w _

    by : (b : Bool) (o : Option Stand) → Sized (call_code c w b p k given (call_kind b (kind_of_stand o)) o ready back texts) (call_size (call_kind b (kind_of_stand o)) nr nb nt given)
    by false None = single w _
    by true None = single w _
    by b (Some s) = kinds b s.kind s

-- a call without actuals that compares
pub bare_sized : (c : Context) (w p : Place) (k : ℕ) (kind : Option Kind) (o : Option Stand) → kind ≡ kind_of_stand o → Sized (bare_call c w p k o) (bare_call_size kind)
bare_sized c w p k kind o e = call_sized c w true p k no_actuals kind o e (λ formals. []) (λ formals. []) (λ l. []) (λ formals. 0) (λ formals. 0) 0 (λ formals. none) (λ formals. none) (λ l. none)

pub head_found : (c : Context) (a : Phrase) → head_kind (known c) a ≡ kind_of_stand (stand_of c a)
head_found c (Named x) = kind_found c.names x
head_found c Empty = refl
head_found c _ = refl

-- ---- phrases

mutual
  pub code_sized : (c : Context) (w : Place) (u : Mode) (k : ℕ) (a : Phrase) → Sized (code c w u k a) (size (known c) a)
  code_sized c w u k Empty = single w _
  code_sized c w u k (Constant v) = single w _
  code_sized c w u k (Named x) = sized_as (ap named_size (sym (kind_found c.names x))) (named_sized c w u (stand_at c.names x))
  code_sized c w u k (Variable n) = single w _
  code_sized c w u k (Array n given) = single w _
  code_sized c w u k (Label n) = single w _
  code_sized c w u k (Procedure n) = single w _
  code_sized c w u k (Copied mark a) = single w _
  code_sized c w u k (Unary op a) = joined (code_sized c w the_value k a) (single w _)
  code_sized c w u k (Binary op a b) = joined (code_sized c w the_value k a) (joined (single w _) (joined (code_sized c w the_value _ b) (single w _)))
  code_sized c w u k (Relation op a b) = joined (code_sized c w the_value k a) (joined (single w _) (joined (code_sized c w the_value _ b) (single w _)))
  code_sized c w u k (IsClass a class) = joined (code_sized c w the_value k a) (single w _)
  code_sized c w u k (Element a given) = joined (each_sized c w k given) (element_sized c w u _ (stand_of c a))
  code_sized c w u k (Field class position a) = joined (code_sized c w the_value k a) (single w _)
  code_sized c w u k (Part m n a start) = joined (code_sized c w u k a) (joined (single w _) (joined (code_sized c w the_value _ start) (single w _)))
  code_sized c w u k (Record class types values) = joined (fields_sized c w k types values) (single w _)
  code_sized c w u k (RecordAlone class n) = single w _
  code_sized c w u k (IfThen st t a b d) = joined (begin_sized st) (joined (code_sized c _ the_value _ a) (joined (single _ _) (joined (code_sized c _ the_value _ b) (joined (single _ _) (joined (code_sized c _ the_value _ d) (make_sized _ t))))))
  code_sized c w u k (Case st t a parts) = joined (begin_sized st) (joined (code_sized c _ the_value _ a) (joined (single _ _) (joined (jumps_sized (known c) _ _ parts) (joined (parts_sized c _ _ _ parts) (make_sized _ t)))))
  code_sized c w u k (Block st p decls items) =
      joined (begin_sized st) (joined (single _ _) (joined (sized_as (ap (λ l. decls_size (known c) l decls) (known_block c (k + begin_size st + 1) decls items)) (decls_sized (with_entries 1 c) (block_context c (k + begin_size st + 1) decls items) _ _ decls))
      (joined (single _ _) (joined (sized_as (ap (λ l. items_size l items) (known_block c (k + begin_size st + 1) decls items)) (items_sized (block_context c (k + begin_size st + 1) decls items) _ _ items)) (single _ _)))))
  code_sized c w u k (Call st compares p a given) = joined (begin_sized st) (call_sized c (innermost w st) compares p (k + begin_size st) given (head_kind (known c) a) (stand_of c a) (head_found c a) _ _ _ _ _ _
      (λ fs. actuals_sized c _ _ given fs) (λ fs. backs_sized (with_entries (1 + length fs) c) _ _ _ _ given fs) (λ l. texts_sized c _ l given))
  code_sized c w u k (Assign st t a b) = joined (begin_sized st) (joined (code_sized c _ the_place _ a) (joined (single _ _) (joined (code_sized c _ the_value _ b) (single _ _))))
  code_sized c w u k (WhileDo st a body) = sized_as (omega arith) (joined (single st _) (joined (single st _) (joined (code_sized c st the_value _ body) (joined (code_sized c st the_value _ a) (single st _)))))
  code_sized c w u k (ForStep st x a b d body) = sized_as (omega arith) (joined (single st _) (joined (code_sized c st the_value _ a) (joined (single st _) (joined (code_sized c st the_value _ b) (joined (single st _) (joined (code_sized c st the_value _ d) (joined (single st _) (joined (single st _) (joined (single st _) (joined (code_sized (turn_context c x) st the_value _ body) (single st _)))))))))))
  code_sized c w u k (ForList st x values body) = sized_as (omega arith) (joined (single st _) (joined (single st _) (joined (code_sized (turn_context c x) st the_value _ body) (joined (single st _) (joined (list_sized c st x _ _ values) (single st _))))))
  code_sized c w u k (Goto st a) = sized_as (ap goto_size (sym (head_found c a))) (goto_sized c st (stand_of c a))
  code_sized c w u k (Assert st a) = joined (single st _) (joined (code_sized c st the_value _ a) (single st _))
  code_sized c w u k (Write st first roles values) = joined (single st _) (writes_sized c st first None _ roles values)
  code_sized c w u k (Read st next targets) = joined (single st _) (joined (reads_sized c st next _ targets) (single st _))
  code_sized c w u k (ReadCard st targets) = joined (single st _) (joined (cards_sized c st _ targets) (single st _))
  code_sized c w u k (IoControl st a) = joined (single st _) (joined (code_sized c st the_value _ a) (single st _))

  pub each_sized : (c : Context) (w : Place) (k : ℕ) (given : Phrases) → Sized (code_each c w k given) (each_size (known c) given)
  each_sized c w k no_phrases = none
  each_sized c w k (phrase_and a rest) = joined (code_sized c w the_value k a) (joined (single w _) (each_sized c w _ rest))

  pub fields_sized : (c : Context) (w : Place) (k : ℕ) (types : List ValueType) (values : Phrases) → Sized (code_fields c w k types values) (fields_size (known c) values)
  fields_sized c w k [] no_phrases = none
  fields_sized c w k (t ∷ types) no_phrases = none
  fields_sized c w k (t ∷ types) (phrase_and a rest) = sized_as (omega arith) (joined (code_sized c w the_value k a) (joined (single w _) (joined (single w _) (fields_sized c w _ types rest))))
  fields_sized c w k [] (phrase_and a rest) = sized_as (omega arith) (joined (code_sized c w the_value k a) (joined (single w _) (joined (single w _) (fields_sized c w _ [] rest))))

  pub parts_sized : (c : Context) (w : Place) (k end : ℕ) (parts : Phrases) → Sized (code_parts c w k end parts) (parts_size (known c) parts)
  parts_sized c w k end no_phrases = none
  parts_sized c w k end (phrase_and a rest) = joined (code_sized c w the_value k a) (joined (single w _) (parts_sized c w _ end rest))

  pub list_sized : (c : Context) (st : Place) (x : Name) (body k : ℕ) (values : Phrases) → Sized (code_list c st x body k values) (list_size (known c) values)
  list_sized c st x body k no_phrases = none
  list_sized c st x body k (phrase_and a rest) = joined (code_sized c st the_value k a) (joined (single st _) (list_sized c st x body _ rest))

  pub writes_sized : (c : Context) (st : Place) (first : Bool) (position : Option ℕ) (k : ℕ) (roles : List Role) (values : Phrases) → Sized (code_writes c st first position k roles values) (writes_size (known c) values)
  writes_sized c st first position k roles no_phrases = single st _
  writes_sized c st first position k [] (phrase_and a rest) = joined (code_sized c st the_value k a) (joined (single st _) (writes_sized c st first position _ [] rest))
  writes_sized c st first position k (placed ∷ roles) (phrase_and a rest) = joined (code_sized c st the_value k a) (joined (single st _) (writes_sized c st false position _ roles rest))
  writes_sized c st first None k (sets n ∷ roles) (phrase_and a rest) = joined (code_sized c st the_value k a) (joined (single st _) (writes_sized (with_entries 1 c) st first (Some c.count) _ roles rest))
  writes_sized c st first (Some p) k (sets n ∷ roles) (phrase_and a rest) = joined (code_sized c st the_value k a) (joined (single st _) (writes_sized c st first (Some p) _ roles rest))

  pub reads_sized : (c : Context) (st : Place) (next : Bool) (k : ℕ) (targets : Targets) → Sized (code_reads c st next k targets) (targets_size (known c) targets)
  reads_sized c st next k no_targets = none
  reads_sized c st next k (target_and t a rest) = joined (code_sized c st the_place k a) (joined (single st _) (reads_sized c st false _ rest))

  pub cards_sized : (c : Context) (st : Place) (k : ℕ) (targets : Targets) → Sized (code_cards c st k targets) (targets_size (known c) targets)
  cards_sized c st k no_targets = none
  cards_sized c st k (target_and t a rest) = joined (code_sized c st the_place k a) (joined (single st _) (cards_sized c st _ rest))

  pub items_sized : (c : Context) (w : Place) (k : ℕ) (items : Items) → Sized (code_items c w k items) (items_size (known c) items)
  items_sized c w k no_items = single w _
  items_sized c w k (item_and labels a no_items) = code_sized c w the_value k a
  items_sized c w k (item_and labels a (item_and labels' a' rest)) = joined (code_sized c w the_value k a) (items_sized c w _ (item_and labels' a' rest))

  pub bounds_sized : (c : Context) (w : Place) (k : ℕ) (pairs : Bounds) → Sized (code_bounds c w k pairs) (bounds_size (known c) pairs)
  bounds_sized c w k no_bounds = none
  bounds_sized c w k (bound_and a b rest) = joined (code_sized c w the_value k a) (joined (single w _) (joined (code_sized c w the_value _ b) (joined (single w _) (bounds_sized c w _ rest))))

  pub decls_sized : (outside inside : Context) (w : Place) (k : ℕ) (decls : Decls) → Sized (code_decls outside inside w k decls) (decls_size (known outside) (known inside) decls)
  decls_sized outside inside w k no_decls = none
  decls_sized outside inside w k (variables_and names rest) = joined (declare_sized w names) (decls_sized (with_entries (length names) outside) inside w _ rest)
  decls_sized outside inside w k (arrays_and t names pairs rest) = joined (bounds_sized outside w k pairs) (joined (single w _) (joined (declare_arrays_sized w t names) (decls_sized (with_entries (length names) outside) inside w _ rest)))
  decls_sized outside inside w k (procedure_and x result formals body rest) =
      let e = known_formals (inside.level + 1) 1 formals inside.names in
      let i : size (known (body_context inside formals)) body ≡ size (formals_known formals (known inside)) body = ap (λ l. size l body) e in
      sized_as (omega (arith, i)) (joined (single w _) (joined (code_sized (body_context inside formals) w the_value (k + 1) body) (joined (result_sized w result) (joined (single w _) (decls_sized outside inside w _ rest)))))

  pub subscripts_sized : (c : Context) (w : Place) (k : ℕ) (given : Subscripts) → Sized (code_subscripts c w k given) (subscripts_size (known c) given)
  subscripts_sized c w k no_subscripts = none
  subscripts_sized c w k (star_and rest) = subscripts_sized c w k rest
  subscripts_sized c w k (subscript_and a rest) = joined (code_sized c w the_value k a) (joined (single w _) (subscripts_sized c w _ rest))

  pub actuals_sized : (c : Context) (w : Place) (k : ℕ) (given : Actuals) (fs : List Formal) → Sized (code_actuals c w k given fs) (actuals_size (known c) given fs)
  actuals_sized c w k no_actuals [] = none
  actuals_sized c w k (actual_and a rest) (f ∷ fs) = joined (actual_sized c w k a f.is) (actuals_sized c w _ rest fs)
  actuals_sized c w k no_actuals (f ∷ fs) = single w _
  actuals_sized c w k (actual_and a rest) [] = single w _

  pub actual_sized : (c : Context) (w : Place) (k : ℕ) (a : Actual) (f : FormalType) → Sized (code_actual c w k a f) (actual_size (known c) a f)
  actual_sized c w k (Given v g first a) f = given_sized f c w k v g first (size (known c) a) _ (λ u l. code_sized c w u l a) (λ u l. code_sized (inner_text c) w u l a)
  actual_sized c w k (Alone p a) f = alone_sized f c w k p _ (stand_of c a) (λ l. bare_sized c w p l _ (stand_of c a) (head_found c a)) (λ l. bare_sized (inner_text c) w p l _ (stand_of c a) (head_found c a))
  actual_sized c w k (Subarray a given) f = joined (subscripts_sized c w k given) (joined (subarray_sized c w (stars_of given) (stand_of c a)) (single w _))

  pub backs_sized : (c : Context) (w : Place) (k i kr : ℕ) (given : Actuals) (fs : List Formal) → Sized (code_backs c w k i kr given fs) (backs_size (known c) given fs)
  backs_sized c w k i kr (actual_and a rest) (f ∷ fs) = joined (back_of_sized c w k i kr a f.is) (backs_sized c w _ _ _ rest fs)
  backs_sized c w k i kr no_actuals [] = none
  backs_sized c w k i kr no_actuals (f ∷ fs) = none
  backs_sized c w k i kr (actual_and a rest) [] = none

  pub back_of_sized : (c : Context) (w : Place) (k i kr : ℕ) (a : Actual) (f : FormalType) → Sized (code_back c w k i kr a f) (back_of_size (known c) a f)
  back_of_sized c w k i kr (Given v g first a) f = back_sized f c w k i kr g (size (known c) a) _ (λ u l. code_sized c w u l a)
  back_of_sized c w k i kr (Alone p a) f = none
  back_of_sized c w k i kr (Subarray a given) f = none

  pub texts_sized : (c : Context) (w : Place) (k : ℕ) (given : Actuals) → Sized (code_texts c w k given) (texts_size (known c) given)
  texts_sized c w k no_actuals = none
  texts_sized c w k (actual_and a rest) = joined (text_of_sized c w k a) (texts_sized c w _ rest)

  pub text_of_sized : (c : Context) (w : Place) (k : ℕ) (a : Actual) → Sized (code_text c w k a) (text_of_size (known c) a)
  text_of_sized c w k (Given v g first a) = text_sized w k first _ (size (known c) a) _ (code_sized (inner_text c) w as_asked (k + 1) a)
  text_of_sized c w k (Alone p a) = text_sized w k p _ (bare_call_size (head_kind (known c) a)) _ (bare_sized (inner_text c) w p (k + 1) _ (stand_of c a) (head_found c a))
  text_of_sized c w k (Subarray a given) = text_sized w k w _ (subscripts_size (known c) given + 1) _ (joined (subscripts_sized (inner_text c) w (k + 1) given) (subarray_sized (inner_text c) w (stars_of given) (stand_of c a)))
