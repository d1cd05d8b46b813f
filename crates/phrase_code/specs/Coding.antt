-- The code of a phrase, from an instruction number on.
use Rattle.std.specs.Prelude.{ℕ, ◌+◌, ◌-◌, List, [], ◌∷◌, map, length, Option, Some, None, Bool, true, false}
use Rattle.value_ops.specs.declared.places.Place.{Place}
use Rattle.algolw_typing.specs.Types.{ValueType, Gives, Statement, Simple, is_place}
use Rattle.algolw_typing.specs.Meanings.{FormalType, by_name, by_value, by_result, by_value_result, for_array, for_procedure}
use Rattle.program_meaning.specs.Phrases.{Phrase, Empty, Constant, Named, Variable, Array, Label, Procedure, Copied, Unary, Binary, Relation, IsClass, Element, Field, Part, Record, RecordAlone, IfThen, Case, Block, Call, Assign, WhileDo, ForStep, ForList, Goto, Assert, Write, Read, ReadCard, IoControl, Phrases, no_phrases, phrase_and, Targets, no_targets, target_and, Subscripts, no_subscripts, star_and, subscript_and, Actuals, no_actuals, actual_and, Actual, Given, Alone, Subarray, Items, no_items, item_and, Bounds, no_bounds, bound_and, Decls, no_decls, variables_and, arrays_and, procedure_and, Name, Formal, Role, placed, sets}
use Rattle.program_meaning.specs.State.{for_value, for_place, innermost}
use Rattle.program_meaning.specs.Copying.{dimensions, is_variable_of, free_of}
use Rattle.stack_code.specs.Instr as instr
use Rattle.stack_code.specs.Instr.{Instr, Mode, the_value, the_place, as_asked, Source, from_entry, from_head, Reading, as_phrase, as_name, as_subarray, as_nothing}
use Rattle.stack_code.specs.Code.{Coded, Code}
use Rattle.stack_code.specs.Run.{nowhere}
use Rattle.phrase_code.specs.Marks.{marks}
use Rattle.phrase_code.specs.Sizes.{Kind, a_variable, an_array, a_name_formal, a_procedure_formal, a_procedure, a_label, Known, kind_of_formal, block_known, head_kind, call_kind, CallKind, in_line, through, begin_size, result_size, text_size, bare_call_size, size, jumps_size, parts_size, bounds_size, decls_size, subscripts_size, actuals_size, actual_size, back_of_size, texts_size, text_of_size, prepares_size, place_backs_size}

-- ---- code, part by part

infixr 5 ◌▸◌
abbrev pub ◌▸◌ : List Coded → List Coded → List Coded
◌▸◌ [] more = more
◌▸◌ (c ∷ code) more = c ∷ (code ▸ more)

-- an instruction of a statement
abbrev pub one : Place → Instr → List Coded
one w i = record { at = w; does = i } ∷ []

-- ---- contexts

-- a name: what is known of it, how deep its text stands, its position among that text's entries (a label's: that of its block's mark), and the
-- instruction at which a procedure's head or a label's item stands
pub record Stand : Type 0 where
  pub place : Place
  pub kind : Kind
  pub level : ℕ
  pub position : ℕ
  pub target : ℕ

-- the names, the innermost first; how deep the text is in which code stands; and how many entries of it there are by now
pub record Context : Type 0 where
  pub names : List Stand
  pub level : ℕ
  pub count : ℕ

abbrev pub known_of : Stand → Known
known_of s = record { place = s.place; kind = s.kind }

abbrev pub known : Context → List Known
known c = map known_of c.names

abbrev pub stand_at : List Stand → Place → Option Stand
stand_at [] x = None
stand_at (s ∷ names) x = elim (is_place s.place x) [ true ↦ Some s | false ↦ stand_at names x ]

-- n entries more
abbrev pub with_entries : ℕ → Context → Context
with_entries n c = record c { count = c.count + n }

-- a text in this one, which begins with its mark
abbrev pub inner_text : Context → Context
inner_text c = record { names = c.names; level = c.level + 1; count = 1 }

abbrev pub name_stands : Kind → (level position : ℕ) → List Name → List Stand → List Stand
name_stands kind level position [] names = names
name_stands kind level position (x ∷ xs) names = record { place = x.place; kind = kind; level = level; position = position; target = 0 } ∷ name_stands kind level (position + 1) xs names

abbrev pub formal_stands : (level position : ℕ) → List Formal → List Stand → List Stand
formal_stands level position [] names = names
formal_stands level position (f ∷ formals) names = record { place = f.name.place; kind = kind_of_formal f.is; level = level; position = position; target = 0 } ∷ formal_stands level (position + 1) formals names

abbrev pub label_stands : (level mark target : ℕ) → List Place → List Stand → List Stand
label_stands level mark target [] names = names
label_stands level mark target (x ∷ xs) names = record { place = x; kind = a_label; level = level; position = mark; target = target } ∷ label_stands level mark target xs names

-- the labels of items that begin at k, by what is known in them
abbrev pub item_stands : List Known → (level mark k : ℕ) → Items → List Stand → List Stand
item_stands known level mark k no_items names = names
item_stands known level mark k (item_and labels a rest) names = label_stands level mark k labels (item_stands known level mark (k + size known a) rest names)

-- the names of declarations from a position on, whose code begins at k
abbrev pub decl_stands : (outside inside : List Known) → (level position k : ℕ) → Decls → List Stand → List Stand
decl_stands outside inside level position k no_decls names = names
decl_stands outside inside level position k (variables_and xs rest) names = name_stands a_variable level position xs (decl_stands outside inside level (position + length xs) (k + length xs) rest names)
decl_stands outside inside level position k (arrays_and t xs pairs rest) names = name_stands an_array level position xs (decl_stands outside inside level (position + length xs) (k + (bounds_size outside pairs + (1 + length xs))) rest names)
decl_stands outside inside level position k (procedure_and x result formals body rest) names = record { place = x.place; kind = a_procedure formals; level = level; position = 0; target = k } ∷ decl_stands outside inside level position (k + decls_size outside inside (procedure_and x result formals body no_decls)) rest names

-- how many entries declarations make
abbrev pub entry_count : Decls → ℕ
entry_count no_decls = 0
entry_count (variables_and names rest) = length names + entry_count rest
entry_count (arrays_and t names pairs rest) = length names + entry_count rest
entry_count (procedure_and x result formals body rest) = entry_count rest

-- the context of a block's items, whose declarations' code begins at k
abbrev pub block_context : Context → ℕ → Decls → Items → Context
block_context c k decls items = record {
  names = decl_stands (known c) (block_known decls items (known c)) c.level (c.count + 1) k decls
      (item_stands (block_known decls items (known c)) c.level (c.count + 1 + entry_count decls) (k + (decls_size (known c) (block_known decls items (known c)) decls + 1)) items c.names);
  level = c.level;
  count = c.count + 2 + entry_count decls;
}

-- the context of a body in a block
abbrev pub body_context : Context → List Formal → Context
body_context c formals = record { names = formal_stands (c.level + 1) 1 formals c.names; level = c.level + 1; count = 1 + length formals }

-- the context of a turn: its mark, and the control name
abbrev pub turn_context : Context → Name → Context
turn_context c x = record { names = record { place = x.place; kind = a_variable; level = c.level; position = c.count + 1; target = 0 } ∷ c.names; level = c.level; count = c.count + 2 }

-- ---- single instructions

abbrev pub links : Context → Stand → ℕ
links c s = c.level - s.level

abbrev pub stand_of : Context → Phrase → Option Stand
stand_of c (Named x) = stand_at c.names x
stand_of c a = None

abbrev pub kind_of_stand : Option Stand → Option Kind
kind_of_stand None = None
kind_of_stand (Some s) = Some s.kind

abbrev pub source_by : Kind → (links : ℕ) → Stand → Source
source_by (a_procedure formals) n s = from_head n s.target
source_by kind n s = from_entry n s.position

abbrev pub source_of : Context → Stand → Source
source_of c s = source_by s.kind (links c s) s

abbrev pub begin_code : Option Place → List Coded
begin_code None = []
begin_code (Some st) = one st instr.Begin

abbrev pub make_code : Place → Option ValueType → List Coded
make_code w None = []
make_code w (Some t) = one w (instr.Make t)

-- the end of a WRITE: the entry of its widths is given back, where there is one
abbrev pub write_end : Option ℕ → Instr
write_end None = instr.Nothing
write_end (Some position) = instr.CloseWidths position

-- a function's value is made into its type, and then takes a cell
abbrev pub result_code : Place → Option ValueType → List Coded
result_code w None = []
result_code w (Some t) = one w (instr.Make t) ▸ one w instr.Reserve

abbrev pub named_by : Context → Place → Mode → Kind → Stand → List Coded
named_by c w u a_variable s = one w (instr.Variable u (links c s) s.position)
named_by c w u a_name_formal s = one w (instr.UseFormal u (links c s) s.position) ▸ one w instr.End
named_by c w u a_procedure_formal s = one w (instr.UseFormal u (links c s) s.position) ▸ one w instr.End
named_by c w u kind s = one w instr.Stuck

abbrev pub named_code : Context → Place → Mode → Option Stand → List Coded
named_code c w u None = one w instr.Stuck
named_code c w u (Some s) = named_by c w u s.kind s

abbrev pub element_code : Context → Place → Mode → ℕ → Option Stand → List Coded
element_code c w u n None = one w instr.Stuck
element_code c w u n (Some s) = one w (instr.Element u (links c s) s.position n)

abbrev pub goto_by : Context → Place → Kind → Stand → List Coded
goto_by c st a_label s = one st (instr.Goto (links c s) s.position s.target)
goto_by c st kind s = one st instr.Begin ▸ one st instr.Stuck

abbrev pub goto_code : Context → Place → Option Stand → List Coded
goto_code c st None = one st instr.Begin ▸ one st instr.Stuck
goto_code c st (Some s) = goto_by c st s.kind s

abbrev pub is_none : Option Place → Bool
is_none None = true
is_none (Some st) = false

abbrev pub phrase_count : Phrases → ℕ
phrase_count no_phrases = 0
phrase_count (phrase_and a rest) = 1 + phrase_count rest

abbrev pub declare_code : Place → List Name → List Coded
declare_code w [] = []
declare_code w (x ∷ xs) = one w (instr.Declare x.text) ▸ declare_code w xs

abbrev pub declare_arrays_code : Place → ValueType → List Name → List Coded
declare_arrays_code w t [] = []
declare_arrays_code w t (x ∷ xs) = one w (instr.DeclareArray t x.text) ▸ declare_arrays_code w t xs

abbrev pub stars_of : Subscripts → List Bool
stars_of no_subscripts = []
stars_of (star_and rest) = true ∷ stars_of rest
stars_of (subscript_and a rest) = false ∷ stars_of rest

abbrev pub subarray_code : Context → Place → List Bool → Option Stand → List Coded
subarray_code c w stars None = one w instr.Stuck
subarray_code c w stars (Some s) = one w (instr.Subarray (links c s) s.position stars)

abbrev pub hand_on_code : Context → Place → Option Stand → List Coded
hand_on_code c w None = one w instr.Stuck
hand_on_code c w (Some s) = one w (instr.HandOn (source_of c s))

-- the jumps behind a choice, to parts of which the first begins at k
abbrev pub jumps_code : List Known → Place → ℕ → Phrases → List Coded
jumps_code names w k no_phrases = []
jumps_code names w k (phrase_and a rest) = one w (instr.Jump k) ▸ jumps_code names w (k + (size names a + 1)) rest

-- ---- calls

-- a text at k, with this code
abbrev pub text_code : Place → ℕ → Place → Reading → ℕ → List Coded → List Coded
text_code w k first reading n code = one w (instr.Text (record { first = first; reading = reading }) (k + text_size n)) ▸ code ▸ one w instr.Return

-- a label is read as nothing
abbrev pub reading_by : Kind → Reading → Reading
reading_by a_label r = as_nothing
reading_by kind r = r

abbrev pub reading_of_name : Context → Option Stand → Reading
reading_of_name c None = as_nothing
reading_of_name c (Some s) = reading_by s.kind (as_name (source_of c s))

abbrev pub reading_of_subarray : Context → ℕ → Option Stand → Reading
reading_of_subarray c n None = as_nothing
reading_of_subarray c n (Some s) = reading_by s.kind (as_subarray (source_of c s) n)

-- an actual that is a phrase of size n, at k, for its formal, with its code in a context, wanted so, from a place on
abbrev pub given_code : FormalType → Context → Place → ℕ → Bool → Gives → Place → ℕ → (Context → Mode → ℕ → List Coded) → List Coded
given_code (by_value t) c w k v g first n coded = coded c the_value k ▸ one w (instr.Make t) ▸ one w instr.Push
given_code (by_result t) c w k v g first n coded = one w instr.Reserve
given_code (by_value_result t) c w k v g first n coded = text_code w k first (as_phrase v g) n (coded (inner_text c) as_asked (k + 1)) ▸ one w (instr.Aside k for_value (Some t)) ▸ one w instr.End ▸ one w instr.Push
given_code (by_name t) c w k v g first n coded = text_code w k first (as_phrase v g) n (coded (inner_text c) as_asked (k + 1)) ▸ one w (instr.MakeThunk k (Some t) (is_variable_of t v g)) ▸ one w instr.Push
given_code (for_procedure result) c w k v g first n coded = text_code w k first (as_phrase v g) n (coded (inner_text c) as_asked (k + 1)) ▸ one w (instr.MakeThunk k result false) ▸ one w instr.Push
given_code (for_array t d) c w k v g first n coded = one w instr.Stuck

-- assigning back to a phrase, at k, whose text stands at kr where it has one
abbrev pub back_code : FormalType → Context → Place → (k i kr : ℕ) → Gives → (Context → Mode → ℕ → List Coded) → List Coded
back_code (by_result t) c w k i kr (Simple u) coded = coded c the_place k ▸ one w (instr.AssignBack i u)
back_code (by_value_result t) c w k i kr (Simple u) coded = one w (instr.Aside kr for_place None) ▸ one w instr.End ▸ one w (instr.AssignBack i u)
back_code f c w k i kr g coded = []

-- ---- the same through a procedure formal

-- where the texts of actuals stand, from k on
abbrev pub text_heads : List Known → ℕ → Actuals → List ℕ
text_heads names k no_actuals = []
text_heads names k (actual_and a rest) = k ∷ text_heads names (k + text_of_size names a) rest

abbrev pub prepares_code : List Known → Place → Source → (i k : ℕ) → Actuals → List Coded
prepares_code names w s i k no_actuals = []
prepares_code names w s i k (actual_and a rest) = one w (instr.Prepare s i k) ▸ one w instr.End ▸ one w instr.Push ▸ prepares_code names w s (i + 1) (k + text_of_size names a) rest

abbrev pub place_back_by : Place → (i k : ℕ) → Gives → List Coded
place_back_by w i k (Simple t) = one w (instr.PlaceBack i k) ▸ one w instr.End ▸ one w (instr.AssignBack i t)
place_back_by w i k Statement = []

abbrev pub place_back_code : Place → (i k : ℕ) → Actual → List Coded
place_back_code w i k (Given v g first a) = place_back_by w i k g
place_back_code w i k (Alone p a) = []
place_back_code w i k (Subarray a given) = []

abbrev pub place_backs_code : List Known → Place → (i k : ℕ) → Actuals → List Coded
place_backs_code names w i k no_actuals = []
place_backs_code names w i k (actual_and a rest) = place_back_code w i k a ▸ place_backs_code names w (i + 1) (k + text_of_size names a) rest

-- the end of a call whose texts begin at k
abbrev pub end_of_call : List Known → ℕ → Actuals → ℕ
end_of_call names k given = k + (texts_size names given + (1 + (prepares_size given + (1 + place_backs_size given))))

abbrev pub through_code : Context → Place → Bool → Place → ℕ → Actuals → Stand → (ℕ → List Coded) → List Coded
through_code c w compares p k given s texts =
    texts k ▸ one w (instr.Compare compares (source_of c s) (text_heads (known c) k given) (end_of_call (known c) k given)) ▸
    prepares_code (known c) w (source_of c s) 0 k given ▸ one w (instr.CallThrough (source_of c s) p) ▸
    place_backs_code (known c) w 0 k given ▸ one w instr.End

-- a call at k by its kind, with the code of its actuals and of the assigning back in line, and with the texts of its actuals
abbrev pub call_code : Context → Place → Bool → Place → ℕ → Actuals → CallKind → Option Stand → (ready back : List Formal → List Coded) → (ℕ → List Coded) → List Coded
call_code c w compares p k given (in_line formals) (Some s) ready back texts = ready formals ▸ one w (instr.Call (links c s) s.target p) ▸ back formals ▸ one w instr.End
call_code c w compares p k given through (Some s) ready back texts = through_code c w compares p k given s texts
call_code c w compares p k given kind s ready back texts = one w instr.Stuck

-- ---- names alone as actuals

-- a call without actuals that compares, at k
abbrev pub bare_call : Context → Place → Place → ℕ → Option Stand → List Coded
bare_call c w p k s = call_code c w true p k no_actuals (call_kind true (kind_of_stand s)) s (λ formals. []) (λ formals. []) (λ l. [])

-- a name alone for its formal, whose call has size n
abbrev pub alone_code : FormalType → Context → Place → ℕ → Place → ℕ → Option Stand → List Coded
alone_code (by_value t) c w k p n s = bare_call c w p k s ▸ one w (instr.Make t) ▸ one w instr.Push
alone_code (by_name t) c w k p n s = text_code w k p (reading_of_name c s) n (bare_call (inner_text c) w p (k + 1) s) ▸ one w (instr.MakeThunk k (Some t) false) ▸ one w instr.Push
alone_code (for_procedure result) c w k p n s = hand_on_code c w s ▸ one w instr.Push
alone_code (for_array t d) c w k p n s = hand_on_code c w s ▸ one w instr.Push
alone_code (by_result t) c w k p n s = one w instr.Stuck
alone_code (by_value_result t) c w k p n s = one w instr.Stuck

-- ---- phrases

abbrev mutual
  -- the code of a phrase in a statement, wanted so, from k on
  pub code : Context → Place → Mode → ℕ → Phrase → List Coded
  code c w u k Empty = one w instr.Nothing
  code c w u k (Constant v) = one w (instr.Constant v)
  code c w u k (Named x) = named_code c w u (stand_at c.names x)
  code c w u k (Variable n) = one w (instr.Standard u n)
  code c w u k (Array n given) = one w instr.Stuck
  code c w u k (Label n) = one w instr.Stuck
  code c w u k (Procedure n) = one w instr.Stuck
  code c w u k (Copied mark a) = one w instr.Stuck
  code c w u k (Unary op a) = code c w the_value k a ▸ one w (instr.Unary op)
  code c w u k (Binary op a b) = code c w the_value k a ▸ one w instr.Push ▸ code c w the_value (k + (size (known c) a + 1)) b ▸ one w (instr.Binary op)
  code c w u k (Relation op a b) = code c w the_value k a ▸ one w instr.Push ▸ code c w the_value (k + (size (known c) a + 1)) b ▸ one w (instr.Relation op)
  code c w u k (IsClass a class) = code c w the_value k a ▸ one w (instr.IsClass class)
  code c w u k (Element a given) = code_each c w k given ▸ element_code c w u (phrase_count given) (stand_of c a)
  code c w u k (Field class position a) = code c w the_value k a ▸ one w (instr.Field u class position)
  code c w u k (Part m n a start) = code c w u k a ▸ one w instr.Push ▸ code c w the_value (k + (size (known c) a + 1)) start ▸ one w (instr.Part m n)
  code c w u k (Record class types values) = code_fields c w k types values ▸ one w (instr.MakeRecord class (phrase_count values))
  code c w u k (RecordAlone class n) = one w (instr.MakeRecordAlone class n)
  code c w u k (IfThen st t a b d) =
      begin_code st ▸ code c (innermost w st) the_value (k + begin_size st) a ▸ one (innermost w st) (instr.JumpUnless (k + begin_size st + size (known c) a + size (known c) b + 2)) ▸
      code c (innermost w st) the_value (k + begin_size st + size (known c) a + 1) b ▸ one (innermost w st) (instr.Jump (k + begin_size st + size (known c) a + size (known c) b + 2 + size (known c) d)) ▸
      code c (innermost w st) the_value (k + begin_size st + size (known c) a + size (known c) b + 2) d ▸ make_code (innermost w st) t
  code c w u k (Case st t a parts) =
      begin_code st ▸ code c (innermost w st) the_value (k + begin_size st) a ▸ one (innermost w st) (instr.Choose (phrase_count parts)) ▸
      jumps_code (known c) (innermost w st) (k + begin_size st + size (known c) a + 1 + jumps_size parts) parts ▸
      code_parts c (innermost w st) (k + begin_size st + size (known c) a + 1 + jumps_size parts) (k + begin_size st + size (known c) a + 1 + jumps_size parts + parts_size (known c) parts) parts ▸ make_code (innermost w st) t
  code c w u k (Block st p decls items) =
      begin_code st ▸ one (innermost w st) (instr.EnterBlock p) ▸
      code_decls (with_entries 1 c) (block_context c (k + begin_size st + 1) decls items) (innermost w st) (k + begin_size st + 1) decls ▸ one (innermost w st) instr.Declared ▸
      code_items (block_context c (k + begin_size st + 1) decls items) (innermost w st) (k + begin_size st + 2 + decls_size (known c) (block_known decls items (known c)) decls) items ▸
      one (innermost w st) (instr.LeaveBlock c.count)
  code c w u k (Call st compares p a given) =
      begin_code st ▸ call_code c (innermost w st) compares p (k + begin_size st) given (call_kind compares (kind_of_stand (stand_of c a))) (stand_of c a)
      (λ formals. code_actuals c (innermost w st) (k + begin_size st) given formals)
      (λ formals. code_backs (with_entries (1 + length formals) c) (innermost w st) (k + begin_size st + actuals_size (known c) given formals + 1) 0 (k + begin_size st) given formals)
      (λ l. code_texts c (innermost w st) l given)
  code c w u k (Assign st t a b) = begin_code st ▸ code c (innermost w st) the_place (k + begin_size st) a ▸ one (innermost w st) instr.Push ▸ code c (innermost w st) the_value (k + begin_size st + size (known c) a + 1) b ▸ one (innermost w st) (instr.Assign t (is_none st))
  code c w u k (WhileDo st a body) = one st instr.Begin ▸ one st (instr.Jump (k + 2 + size (known c) body)) ▸ code c st the_value (k + 2) body ▸ code c st the_value (k + 2 + size (known c) body) a ▸ one st (instr.Again (k + 2))
  code c w u k (ForStep st x a b d body) =
      one st instr.Begin ▸ code c st the_value (k + 1) a ▸ one st instr.Push ▸ code c st the_value (k + 2 + size (known c) a) b ▸ one st instr.Push ▸
      code c st the_value (k + 3 + size (known c) a + size (known c) b) d ▸ one st instr.Push ▸
      one st (instr.FirstTurn (k + 7 + size (known c) a + size (known c) b + size (known c) d + size (known (turn_context c x)) body)) ▸ one st (instr.Turn x.text) ▸
      code (turn_context c x) st the_value (k + 6 + size (known c) a + size (known c) b + size (known c) d) body ▸
      one st (instr.NextTurn (k + 5 + size (known c) a + size (known c) b + size (known c) d) c.count)
  code c w u k (ForList st x values body) =
      one st instr.Begin ▸ one st (instr.Jump (k + 3 + size (known (turn_context c x)) body)) ▸ code (turn_context c x) st the_value (k + 2) body ▸ one st (instr.EndTurn c.count) ▸
      code_list c st x (k + 2) (k + 3 + size (known (turn_context c x)) body) values ▸ one st instr.Nothing
  code c w u k (Goto st a) = goto_code c st (stand_of c a)
  code c w u k (Assert st a) = one st instr.Begin ▸ code c st the_value (k + 1) a ▸ one st instr.Assert
  code c w u k (Write st first roles values) = one st instr.Begin ▸ code_writes c st first None (k + 1) roles values
  code c w u k (Read st next targets) = one st instr.Begin ▸ code_reads c st next (k + 1) targets ▸ one st instr.Nothing
  code c w u k (ReadCard st targets) = one st instr.Begin ▸ code_cards c st (k + 1) targets ▸ one st instr.Nothing
  code c w u k (IoControl st a) = one st instr.Begin ▸ code c st the_value (k + 1) a ▸ one st instr.IoControl

  -- subscripts, each pushed
  pub code_each : Context → Place → ℕ → Phrases → List Coded
  code_each c w k no_phrases = []
  code_each c w k (phrase_and a rest) = code c w the_value k a ▸ one w instr.Push ▸ code_each c w (k + (size (known c) a + 1)) rest

  -- the values of a record's fields, each made into its type and pushed
  pub code_fields : Context → Place → ℕ → List ValueType → Phrases → List Coded
  code_fields c w k types no_phrases = []
  code_fields c w k (t ∷ types) (phrase_and a rest) = code c w the_value k a ▸ one w (instr.Make t) ▸ one w instr.Push ▸ code_fields c w (k + (size (known c) a + 2)) types rest
  code_fields c w k [] (phrase_and a rest) = code c w the_value k a ▸ one w instr.Stuck ▸ one w instr.Stuck ▸ code_fields c w (k + (size (known c) a + 2)) [] rest

  -- the parts of a CASE, each with a jump to its end
  pub code_parts : Context → Place → (k end : ℕ) → Phrases → List Coded
  code_parts c w k end no_phrases = []
  code_parts c w k end (phrase_and a rest) = code c w the_value k a ▸ one w (instr.Jump end) ▸ code_parts c w (k + (size (known c) a + 1)) end rest

  -- the values of a FOR, each with its turn, which goes to the body
  pub code_list : Context → Place → Name → (body k : ℕ) → Phrases → List Coded
  code_list c st x body k no_phrases = []
  code_list c st x body k (phrase_and a rest) = code c st the_value k a ▸ one st (instr.ListTurn body x.text) ▸ code_list c st x body (k + (size (known c) a + 1)) rest

  -- the parts of a WRITE, and its end; an entry holds the widths from the first setting on, if there is any
  pub code_writes : Context → Place → Bool → (position : Option ℕ) → ℕ → List Role → Phrases → List Coded
  code_writes c st first position k roles no_phrases = one st (write_end position)
  code_writes c st first position k (placed ∷ roles) (phrase_and a rest) = code c st the_value k a ▸ one st (instr.Write first position) ▸ code_writes c st false position (k + (size (known c) a + 1)) roles rest
  code_writes c st first None k (sets n ∷ roles) (phrase_and a rest) = code c st the_value k a ▸ one st (instr.SetWidth n None) ▸ code_writes (with_entries 1 c) st first (Some c.count) (k + (size (known c) a + 1)) roles rest
  code_writes c st first (Some p) k (sets n ∷ roles) (phrase_and a rest) = code c st the_value k a ▸ one st (instr.SetWidth n (Some p)) ▸ code_writes c st first (Some p) (k + (size (known c) a + 1)) roles rest
  code_writes c st first position k [] (phrase_and a rest) = code c st the_value k a ▸ one st instr.Stuck ▸ code_writes c st first position (k + (size (known c) a + 1)) [] rest

  pub code_reads : Context → Place → Bool → ℕ → Targets → List Coded
  code_reads c st next k no_targets = []
  code_reads c st next k (target_and t a rest) = code c st the_place k a ▸ one st (instr.Read next t) ▸ code_reads c st false (k + (size (known c) a + 1)) rest

  pub code_cards : Context → Place → ℕ → Targets → List Coded
  code_cards c st k no_targets = []
  code_cards c st k (target_and t a rest) = code c st the_place k a ▸ one st (instr.ReadCard t) ▸ code_cards c st (k + (size (known c) a + 1)) rest

  -- all items; the last one tells what is given
  pub code_items : Context → Place → ℕ → Items → List Coded
  code_items c w k no_items = one w instr.Nothing
  code_items c w k (item_and labels a no_items) = code c w the_value k a
  code_items c w k (item_and labels a rest) = code c w the_value k a ▸ code_items c w (k + size (known c) a) rest

  pub code_bounds : Context → Place → ℕ → Bounds → List Coded
  code_bounds c w k no_bounds = []
  code_bounds c w k (bound_and a b rest) =
      code c w the_value k a ▸ one w instr.Push ▸ code c w the_value (k + (size (known c) a + 1)) b ▸ one w instr.Push ▸
      code_bounds c w (k + (size (known c) a + (1 + (size (known c) b + 1)))) rest

  -- the declarations of a block, in the context outside it, with the entries made so far, and in that of its items
  pub code_decls : (outside inside : Context) → Place → ℕ → Decls → List Coded
  code_decls outside inside w k no_decls = []
  code_decls outside inside w k (variables_and names rest) = declare_code w names ▸ code_decls (with_entries (length names) outside) inside w (k + length names) rest
  code_decls outside inside w k (arrays_and t names pairs rest) =
      code_bounds outside w k pairs ▸ one w (instr.Bounds (dimensions pairs)) ▸ declare_arrays_code w t names ▸
      code_decls (with_entries (length names) outside) inside w (k + (bounds_size (known outside) pairs + (1 + length names))) rest
  code_decls outside inside w k (procedure_and x result formals body rest) =
      one w (instr.Procedure (record { name = x.text; result = result; formals = formals }) (k + text_size (size (known (body_context inside formals)) body + result_size result))) ▸
      code (body_context inside formals) w the_value (k + 1) body ▸ result_code w result ▸ one w instr.Return ▸
      code_decls outside inside w (k + text_size (size (known (body_context inside formals)) body + result_size result)) rest

  -- the subscripts of a subarray that are no stars, each pushed
  pub code_subscripts : Context → Place → ℕ → Subscripts → List Coded
  code_subscripts c w k no_subscripts = []
  code_subscripts c w k (star_and rest) = code_subscripts c w k rest
  code_subscripts c w k (subscript_and a rest) = code c w the_value k a ▸ one w instr.Push ▸ code_subscripts c w (k + (size (known c) a + 1)) rest

  -- actuals in line, for their formals
  pub code_actuals : Context → Place → ℕ → Actuals → List Formal → List Coded
  code_actuals c w k no_actuals [] = []
  code_actuals c w k (actual_and a rest) (f ∷ formals) = code_actual c w k a f.is ▸ code_actuals c w (k + actual_size (known c) a f.is) rest formals
  code_actuals c w k given formals = one w instr.Stuck

  pub code_actual : Context → Place → ℕ → Actual → FormalType → List Coded
  code_actual c w k (Given v g first a) f = given_code f c w k v g first (size (known c) a) (λ d u l. code d w u l a)
  code_actual c w k (Alone p a) f = alone_code f c w k p (bare_call_size (head_kind (known c) a)) (stand_of c a)
  code_actual c w k (Subarray a given) f = code_subscripts c w k given ▸ subarray_code c w (stars_of given) (stand_of c a) ▸ one w instr.Push

  -- assigning back in line, where the actuals' code begins at kr
  pub code_backs : Context → Place → (k i kr : ℕ) → Actuals → List Formal → List Coded
  code_backs c w k i kr (actual_and a rest) (f ∷ formals) =
      code_back c w k i kr a f.is ▸ code_backs c w (k + back_of_size (known c) a f.is) (i + 1) (kr + actual_size (known c) a f.is) rest formals
  code_backs c w k i kr given formals = []

  pub code_back : Context → Place → (k i kr : ℕ) → Actual → FormalType → List Coded
  code_back c w k i kr (Given v g first a) f = back_code f c w k i kr g (λ d u l. code d w u l a)
  code_back c w k i kr (Alone p a) f = []
  code_back c w k i kr (Subarray a given) f = []

  -- the texts of actuals of a call through a procedure formal
  pub code_texts : Context → Place → ℕ → Actuals → List Coded
  code_texts c w k no_actuals = []
  code_texts c w k (actual_and a rest) = code_text c w k a ▸ code_texts c w (k + text_of_size (known c) a) rest

  pub code_text : Context → Place → ℕ → Actual → List Coded
  code_text c w k (Given v g first a) = text_code w k first (as_phrase v g) (size (known c) a) (code (inner_text c) w as_asked (k + 1) a)
  code_text c w k (Alone p a) = text_code w k p (reading_of_name c (stand_of c a)) (bare_call_size (head_kind (known c) a)) (bare_call (inner_text c) w p (k + 1) (stand_of c a))
  code_text c w k (Subarray a given) = text_code w k w (reading_of_subarray c (free_of given) (stand_of c a)) (subscripts_size (known c) given + 1) (code_subscripts (inner_text c) w (k + 1) given ▸ subarray_code (inner_text c) w (stars_of given) (stand_of c a))

-- ---- programs

-- nothing is known of any name
abbrev pub outermost : Context
outermost = record { names = []; level = 0; count = 0 }

-- the code of a program
abbrev pub program_code : Phrase → Code
program_code a = record { instructions = code outermost nowhere the_value 0 a ▸ one nowhere instr.Stop; marks = marks a }
