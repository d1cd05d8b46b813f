-- What is added to the tables leaves the instructions as they are.
use Rattle.std.proofs.Common.{◌≡◌, ℕ, ◌<◌, List, [], ◌∷◌, ◌++◌, map, length, zero, suc, refl, sym, ap, ◌∙◌, subst, slice_set, slice_index_or}
use Rattle.std.specs.List.{All}
use Rattle.std.proofs.lemmas.List.{get_or_append_left, map-append, length-map}
use Rattle.std.proofs.lemmas.List.Elements.{All-head, All-tail}
use Rattle.std.proofs.Math.Seq.{get_or-append_seam}
use Rattle.stack_code.specs.Calls.{ComparedCall}
use Rattle.stack_code.specs.declared.heads.ProcedureHead.{ProcedureHead}
use Rattle.stack_code.specs.declared.heads.Stars.{Stars}
use Rattle.stack_code.specs.declared.heads.TextHead.{TextHead}
use Rattle.stack_code.specs.declared.instructions.Coded.{Coded}
use Rattle.stack_code.specs.declared.instructions.Constant.{Constant}
use Rattle.stack_code.specs.declared.instructions.Constant.TheVariants as constant
use Rattle.stack_code.specs.declared.instructions.Instr.{Instr}
use Rattle.stack_code.specs.declared.instructions.Instr.TheVariants as held
use Rattle.value_ops.specs.declared.values.Value.TheVariants as value
use Rattle.stack_code.specs.Instr as instr
use Rattle.stack_code.specs.CodeView.{CodeView, Given, Added, CallView, CodeFits, ConstantFits, InstrFits, constant_view, instr_view, coded_view, instructions_view, string_of, procedure_of, text_of, call_of, stars_of, procedure_view, text_head_view, call_view, no_procedure, no_text, no_call}
use Rattle.stack_code.specs.Making.{with_added}
use Rattle.stack_code.specs.Made.{CodeIsMade}

-- ---- lists

same_map : {X Y : Type 0} (P : X → Type 0) (f h : X → Y) → ((x : X) → P x → f x ≡ h x) → (xs : List X) → All P xs → map f xs ≡ map h xs
same_map P f h e [] p = refl
same_map P f h e (x ∷ xs) p = ap (λ y. y ∷ map f xs) (e x (All-head P x xs p)) ∙ ap (λ ys. h x ∷ ys) (same_map P f h e xs (All-tail P x xs p))

map_set : {X Y : Type 0} (f : X → Y) (xs : List X) (n : ℕ) (x : X) → map f (slice_set xs n x) ≡ slice_set (map f xs) n (f x)
map_set f [] n x = refl
map_set f (y ∷ xs) zero x = refl
map_set f (y ∷ xs) (suc n) x = ap (λ ys. f y ∷ ys) (map_set f xs n x)

-- what stood there stands there
kept : {X Y : Type 0} (f : X → Y) (xs : List X) (x : X) (d : Y) (n : ℕ) → n < length xs → slice_index_or (map f (xs ++ x ∷ [])) n d ≡ slice_index_or (map f xs) n d
kept f xs x d n l = ap (λ ys. slice_index_or ys n d) (map-append f xs (x ∷ [])) ∙ get_or_append_left (map f xs) (f x ∷ []) d n (subst (λ k. n < k) (sym (length-map xs f)) l)

-- and what was added is the last
last : {X Y : Type 0} (f : X → Y) (xs : List X) (x : X) (d : Y) → slice_index_or (map f (xs ++ x ∷ [])) (length xs) d ≡ f x
last f xs x d =
    ap (λ ys. slice_index_or ys (length xs) d) (map-append f xs (x ∷ [])) ∙ ap (λ k. slice_index_or (map f xs ++ f x ∷ []) k d) (sym (length-map xs f)) ∙ get_or-append_seam (map f xs) (f x) [] d

-- ---- tables that grow

record Grows (g : Given) (a b : Added) : Type 0 where
  strings : (n : ℕ) → n < length a.strings → string_of b n ≡ string_of a n
  procedures : (n : ℕ) → n < length a.procedures → procedure_of g b n ≡ procedure_of g a n
  texts : (n : ℕ) → n < length a.texts → text_of g b n ≡ text_of g a n
  calls : (n : ℕ) → n < length a.calls → call_of b n ≡ call_of a n
  stars : (n : ℕ) → n < length a.stars → stars_of b n ≡ stars_of a n

constant_same : (g : Given) (a b : Added) → Grows g a b → (c : Constant) → ConstantFits a c → constant_view b c ≡ constant_view a c
constant_same g a b w (constant.Integer n) f = refl
constant_same g a b w (constant.Logical t) f = refl
constant_same g a b w (constant.Bits n) f = refl
constant_same g a b w (constant.Str n) f = ap (λ s. value.Str s) (w.strings n f)
constant_same g a b w constant.Null f = refl

instr_same : (g : Given) (a b : Added) → Grows g a b → (i : Instr) → InstrFits g a i → instr_view g b i ≡ instr_view g a i
instr_same g a b w held.Nothing f = refl
instr_same g a b w (held.Constant c) f = ap (λ v. instr.Constant v) (constant_same g a b w c f)
instr_same g a b w (held.Variable u links position) f = refl
instr_same g a b w (held.Standard u k) f = refl
instr_same g a b w held.Push f = refl
instr_same g a b w held.Reserve f = refl
instr_same g a b w (held.Unary op) f = refl
instr_same g a b w (held.Binary op) f = refl
instr_same g a b w (held.Relation op) f = refl
instr_same g a b w (held.IsClass c) f = refl
instr_same g a b w (held.Element u links position count) f = refl
instr_same g a b w (held.Field u c position) f = refl
instr_same g a b w (held.Part m n) f = refl
instr_same g a b w (held.Make t) f = refl
instr_same g a b w (held.MakeRecord c count) f = refl
instr_same g a b w (held.MakeRecordAlone c count) f = refl
instr_same g a b w held.Begin f = refl
instr_same g a b w (held.Jump k) f = refl
instr_same g a b w (held.JumpUnless k) f = refl
instr_same g a b w (held.Choose n) f = refl
instr_same g a b w (held.Assign t gives) f = refl
instr_same g a b w held.Assert f = refl
instr_same g a b w (held.SetWidth k position) f = refl
instr_same g a b w (held.Write first position) f = refl
instr_same g a b w (held.CloseWidths position) f = refl
instr_same g a b w (held.Read next t) f = refl
instr_same g a b w (held.ReadCard t) f = refl
instr_same g a b w held.IoControl f = refl
instr_same g a b w (held.Goto links position k) f = refl
instr_same g a b w (held.Again k) f = refl
instr_same g a b w (held.FirstTurn k) f = refl
instr_same g a b w (held.Turn x) f = refl
instr_same g a b w (held.NextTurn k position) f = refl
instr_same g a b w (held.ListTurn k x) f = refl
instr_same g a b w (held.EndTurn position) f = refl
instr_same g a b w (held.EnterBlock p) f = refl
instr_same g a b w (held.Declare x) f = refl
instr_same g a b w (held.Bounds n) f = refl
instr_same g a b w (held.DeclareArray t x) f = refl
instr_same g a b w held.Declared f = refl
instr_same g a b w (held.LeaveBlock position) f = refl
instr_same g a b w (held.Procedure n behind) f = ap (λ p. instr.Procedure p behind) (w.procedures n f)
instr_same g a b w (held.Text n behind) f = ap (λ t. instr.Text t behind) (w.texts n f)
instr_same g a b w (held.HandOn s) f = refl
instr_same g a b w (held.MakeThunk v t head) f = refl
instr_same g a b w (held.Subarray links position n) f = ap (λ s. instr.Subarray links position s) (w.stars n f)
instr_same g a b w (held.Aside u t head) f = refl
instr_same g a b w (held.UseFormal u links position) f = refl
instr_same g a b w (held.Call links site head) f = refl
instr_same g a b w held.Return f = refl
instr_same g a b w held.End f = refl
instr_same g a b w (held.AssignBack t i) f = refl
instr_same g a b w (held.Compare n) f = ap (λ (c : CallView). instr.Compare c.compares c.source c.heads c.end) (w.calls n f)
instr_same g a b w (held.Prepare n i) f = ap (λ (c : CallView). instr.Prepare c.source i (slice_index_or c.heads i 0)) (w.calls n f.0)
instr_same g a b w (held.CallThrough site n) f = ap (λ (c : CallView). instr.CallThrough c.source site) (w.calls n f)
instr_same g a b w (held.PlaceBack i head) f = refl
instr_same g a b w held.Stop f = refl
instr_same g a b w held.Stuck f = refl

coded_same : (g : Given) (a b : Added) → Grows g a b → (c : Coded) → InstrFits g a c.does → coded_view g b c ≡ coded_view g a c
coded_same g a b w c f = ap (λ i. record { at = (coded_view g a c).at; does = i }) (instr_same g a b w c.does f)

same : (c : CodeView) (b : Added) → CodeFits c → Grows c.given c.added b → instructions_view (with_added c b) ≡ instructions_view c
same c b h w = same_map (λ (x : Coded). InstrFits c.given c.added x.does) (coded_view c.given b) (coded_view c.given c.added) (coded_same c.given c.added b w) c.instructions h.instructions

strings_grow : (g : Given) (a : Added) (text : List ℕ) → Grows g a (record a { strings = a.strings ++ text ∷ [] })
strings_grow g a text = record { strings = λ n l. get_or_append_left a.strings (text ∷ []) [] n l; procedures = λ n l. refl; texts = λ n l. refl; calls = λ n l. refl; stars = λ n l. refl }

procedures_grow : (g : Given) (a : Added) (head : ProcedureHead) → Grows g a (record a { procedures = a.procedures ++ head ∷ [] })
procedures_grow g a head = record { strings = λ n l. refl; procedures = λ n l. kept (procedure_view g) a.procedures head no_procedure n l; texts = λ n l. refl; calls = λ n l. refl; stars = λ n l. refl }

texts_grow : (g : Given) (a : Added) (head : TextHead) → Grows g a (record a { texts = a.texts ++ head ∷ [] })
texts_grow g a head = record { strings = λ n l. refl; procedures = λ n l. refl; texts = λ n l. kept (text_head_view g) a.texts head no_text n l; calls = λ n l. refl; stars = λ n l. refl }

calls_grow : (g : Given) (a : Added) (call : ComparedCall) → Grows g a (record a { calls = a.calls ++ call ∷ [] })
calls_grow g a call = record { strings = λ n l. refl; procedures = λ n l. refl; texts = λ n l. refl; calls = λ n l. kept call_view a.calls call no_call n l; stars = λ n l. refl }

stars_grow : (g : Given) (a : Added) (stars : Stars) → Grows g a (record a { stars = a.stars ++ stars ∷ [] })
stars_grow g a stars = record { strings = λ n l. refl; procedures = λ n l. refl; texts = λ n l. refl; calls = λ n l. refl; stars = λ n l. kept (λ (s : Stars). s.are.items) a.stars stars [] n l }

pub code_is_made : CodeIsMade
code_is_made = record {
  appended = λ c at does. map-append (coded_view c.given c.added) c.instructions (record { at = at; does = does } ∷ []);
  replaced = λ c n does. map_set (coded_view c.given c.added) c.instructions n _;
  string = λ c text h. same c _ h (strings_grow c.given c.added text);
  procedure = λ c head h. same c _ h (procedures_grow c.given c.added head);
  text = λ c head h. same c _ h (texts_grow c.given c.added head);
  call = λ c call h. same c _ h (calls_grow c.given c.added call);
  stars = λ c stars h. same c _ h (stars_grow c.given c.added stars);
  string_found = λ c text. get_or-append_seam c.added.strings text [] [];
  procedure_found = λ c head. last (procedure_view c.given) c.added.procedures head no_procedure;
  text_found = λ c head. last (text_head_view c.given) c.added.texts head no_text;
  call_found = λ c call. last call_view c.added.calls call no_call;
  stars_found = λ c stars. last (λ (s : Stars). s.are.items) c.added.stars stars [];
}
