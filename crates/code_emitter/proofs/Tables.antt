-- Tables that only grow: what a number stood for it stands for, and what fitted fits.
use Rattle.std.proofs.Common.{◌≡◌, ℕ, ◌<◌, ◌≤◌, List, [], ◌∷◌, ◌++◌, map, length, take, drop, refl, sym, ap, ◌∙◌, subst, arith, append_assoc, length-take, slice_index_or}
use Rattle.std.specs.List.{All}
use Rattle.std.proofs.lemmas.List.{get_or-take, length-map, take-append-drop, take-map, take_all}
use Rattle.std.proofs.lemmas.List.Elements.{All-head, All-push, All-tail, All-weaker}
use Rattle.std.proofs.Math.Seq.{get_or-append_seam, take-append_seam}
use Rattle.value_ops.specs.declared.values.Value.TheVariants as value
use Rattle.stack_code.specs.CodeView.{Added, CallView, CodeFits, CodeView, ConstantFits, Given, InstrFits, ProcedureFits, TextFits, call_of, call_view, coded_view, constant_view, instr_view, no_call, no_procedure, no_text, procedure_of, procedure_view, stars_of, string_of, text_head_view, text_of}
use Rattle.stack_code.specs.Instr as instr
use Rattle.stack_code.specs.Linking.{linked_added, linked_call, linked_coded, linked_instr, linked_text}
use Rattle.stack_code.specs.Making.{with_added, with_call, with_procedure, with_stars, with_string, with_text}
use Rattle.stack_code.specs.Calls.{ComparedCall}
use Rattle.stack_code.specs.declared.heads.ProcedureHead.{ProcedureHead}
use Rattle.stack_code.specs.declared.heads.Stars.{Stars}
use Rattle.stack_code.specs.declared.heads.TextHead.{TextHead}
use Rattle.stack_code.specs.declared.instructions.Coded.{Coded}
use Rattle.stack_code.specs.declared.instructions.Constant.{Constant}
use Rattle.stack_code.specs.declared.instructions.Constant.TheVariants as constant
use Rattle.stack_code.specs.declared.instructions.Instr.{Instr}
use Rattle.stack_code.specs.declared.instructions.Instr.TheVariants as held
use Rattle.code_emitter.specs.Parts.{TablesGrow}

-- ---- lists that begin with others

same : {X : Type 0} (a : List X) → take (length a) a ≡ a
same a = take_all (length a) a (omega arith)

one_more : {X : Type 0} (a : List X) (x : X) → take (length a) (a ++ x ∷ []) ≡ a
one_more a x = take-append_seam a (x ∷ [])

parted : {X : Type 0} (a b : List X) → take (length a) b ≡ a → b ≡ a ++ drop (length a) b
parted a b e = sym (take-append-drop (length a) b) ∙ ap (λ l. l ++ drop (length a) b) e

more : {X : Type 0} (a b c : List X) → take (length a) b ≡ a → take (length b) c ≡ b → take (length a) c ≡ a
more a b c e i =
    let all : c ≡ a ++ (drop (length a) b ++ drop (length b) c) = parted b c i ∙ ap (λ l. l ++ drop (length b) c) (parted a b e) ∙ append_assoc a (drop (length a) b) (drop (length b) c) in
    ap (take (length a)) all ∙ take-append_seam a (drop (length a) b ++ drop (length b) c)

longer : {X : Type 0} (a b : List X) → take (length a) b ≡ a → length a ≤ length b
longer a b e = let n = length-take (length a) b in let m = ap length e in omega (arith, n, m)

mapped : {X Y : Type 0} (f : X → Y) (a b : List X) → take (length a) b ≡ a → take (length (map f a)) (map f b) ≡ map f a
mapped f a b e = ap (λ n. take n (map f b)) (length-map a f) ∙ take-map f (length a) b ∙ ap (map f) e

found : {X : Type 0} (a b : List X) (n : ℕ) (d : X) → take (length a) b ≡ a → n < length a → slice_index_or b n d ≡ slice_index_or a n d
found a b n d e l = sym (get_or-take (length a) b n d l) ∙ ap (λ l. slice_index_or l n d) e

found_mapped : {X Y : Type 0} (f : X → Y) (a b : List X) (n : ℕ) (d : Y) → take (length a) b ≡ a → n < length a → slice_index_or (map f b) n d ≡ slice_index_or (map f a) n d
found_mapped f a b n d e l = found (map f a) (map f b) n d (mapped f a b e) (subst (λ k. n < k) (sym (length-map a f)) l)

found_twice : {X Y : Type 0} (h : X → X) (f : X → Y) (a b : List X) (n : ℕ) (d : Y) → take (length a) b ≡ a → n < length a → slice_index_or (map f (map h b)) n d ≡ slice_index_or (map f (map h a)) n d
found_twice h f a b n d e l = found_mapped f (map h a) (map h b) n d (mapped h a b e) (subst (λ k. n < k) (sym (length-map a h)) l)

-- ---- tables that grow

pub tables_same : (a : Added) → TablesGrow a a
tables_same a = record { strings = same a.strings; procedures = same a.procedures; texts = same a.texts; calls = same a.calls; stars = same a.stars }

pub tables_more : (a b c : Added) → TablesGrow a b → TablesGrow b c → TablesGrow a c
tables_more a b c x y = record {
  strings = more a.strings b.strings c.strings x.strings y.strings;
  procedures = more a.procedures b.procedures c.procedures x.procedures y.procedures;
  texts = more a.texts b.texts c.texts x.texts y.texts;
  calls = more a.calls b.calls c.calls x.calls y.calls;
  stars = more a.stars b.stars c.stars x.stars y.stars;
}

pub string_more : (a : Added) (text : List ℕ) → TablesGrow a (record a { strings = a.strings ++ text ∷ [] })
string_more a text = record { strings = one_more a.strings text; procedures = same a.procedures; texts = same a.texts; calls = same a.calls; stars = same a.stars }

pub procedure_more : (a : Added) (head : ProcedureHead) → TablesGrow a (record a { procedures = a.procedures ++ head ∷ [] })
procedure_more a head = record { strings = same a.strings; procedures = one_more a.procedures head; texts = same a.texts; calls = same a.calls; stars = same a.stars }

pub text_more : (a : Added) (head : TextHead) → TablesGrow a (record a { texts = a.texts ++ head ∷ [] })
text_more a head = record { strings = same a.strings; procedures = same a.procedures; texts = one_more a.texts head; calls = same a.calls; stars = same a.stars }

pub call_more : (a : Added) (call : ComparedCall) → TablesGrow a (record a { calls = a.calls ++ call ∷ [] })
call_more a call = record { strings = same a.strings; procedures = same a.procedures; texts = same a.texts; calls = one_more a.calls call; stars = same a.stars }

pub stars_more : (a : Added) (stars : Stars) → TablesGrow a (record a { stars = a.stars ++ stars ∷ [] })
stars_more a stars = record { strings = same a.strings; procedures = same a.procedures; texts = same a.texts; calls = same a.calls; stars = one_more a.stars stars }

-- ---- what a number stands for, where these instructions are at the targets

pub procedure_later : (g : Given) (a b : Added) (ts : List ℕ) (n : ℕ) → TablesGrow a b → n < length a.procedures → procedure_of g (linked_added ts b) n ≡ procedure_of g (linked_added ts a) n
procedure_later g a b ts n w l = found_mapped (procedure_view g) a.procedures b.procedures n no_procedure w.procedures l

pub text_later : (g : Given) (a b : Added) (ts : List ℕ) (n : ℕ) → TablesGrow a b → n < length a.texts → text_of g (linked_added ts b) n ≡ text_of g (linked_added ts a) n
text_later g a b ts n w l = found_twice (linked_text ts) (text_head_view g) a.texts b.texts n no_text w.texts l

pub call_later : (a b : Added) (ts : List ℕ) (n : ℕ) → TablesGrow a b → n < length a.calls → call_of (linked_added ts b) n ≡ call_of (linked_added ts a) n
call_later a b ts n w l = found_twice (linked_call ts) call_view a.calls b.calls n no_call w.calls l

pub stars_later : (a b : Added) (ts : List ℕ) (n : ℕ) → TablesGrow a b → n < length a.stars → stars_of (linked_added ts b) n ≡ stars_of (linked_added ts a) n
stars_later a b ts n w l = found_mapped (λ (s : Stars). s.are.items) a.stars b.stars n [] w.stars l

constant_later : (a b : Added) (ts : List ℕ) (c : Constant) → TablesGrow a b → ConstantFits a c → constant_view (linked_added ts b) c ≡ constant_view (linked_added ts a) c
constant_later a b ts (constant.Str n) w f = ap (λ s. value.Str s) (found a.strings b.strings n [] w.strings f)
constant_later a b ts _ w f = refl

pub instr_later : (g : Given) (a b : Added) (ts : List ℕ) (i : Instr) → TablesGrow a b → InstrFits g a i → instr_view g (linked_added ts b) (linked_instr ts i) ≡ instr_view g (linked_added ts a) (linked_instr ts i)
instr_later g a b ts (held.Constant c) w f = ap (λ v. instr.Constant v) (constant_later a b ts c w f)
instr_later g a b ts (held.Procedure n behind) w f = ap (λ p. instr.Procedure p behind) (procedure_later g a b ts n w f)
instr_later g a b ts (held.Text n behind) w f = ap (λ t. instr.Text t behind) (text_later g a b ts n w f)
instr_later g a b ts (held.Subarray links position n) w f = ap (λ s. instr.Subarray links position s) (stars_later a b ts n w f)
instr_later g a b ts (held.Compare n) w f = ap (λ (c : CallView). instr.Compare c.compares c.source c.heads c.end) (call_later a b ts n w f)
instr_later g a b ts (held.Prepare n i) w f = ap (λ (c : CallView). instr.Prepare c.source i (slice_index_or c.heads i 0)) (call_later a b ts n w f.0)
instr_later g a b ts (held.CallThrough site n) w f = ap (λ (c : CallView). instr.CallThrough c.source site) (call_later a b ts n w f)
instr_later g a b ts _ w f = refl

-- instructions by now, where the tables have grown
pub codes_later : (g : Given) (a b : Added) (ts : List ℕ) (is : List Coded) → TablesGrow a b → All (λ (i : Coded). InstrFits g a i.does) is → map (coded_view g (linked_added ts b)) (map (linked_coded ts) is) ≡ map (coded_view g (linked_added ts a)) (map (linked_coded ts) is)
codes_later g a b ts [] w h = refl
codes_later g a b ts (i ∷ is) w h =
    ap (λ does. record { at = (coded_view g a i).at; does = does } ∷ map (coded_view g (linked_added ts b)) (map (linked_coded ts) is)) (instr_later g a b ts i.does w (All-head (λ (x : Coded). InstrFits g a x.does) i is h))
    ∙ ap (λ rest. coded_view g (linked_added ts a) (linked_coded ts i) ∷ rest) (codes_later g a b ts is w (All-tail (λ (x : Coded). InstrFits g a x.does) i is h))

-- ---- what fits

constant_fits : (a b : Added) (c : Constant) → TablesGrow a b → ConstantFits a c → ConstantFits b c
constant_fits a b (constant.Str n) w f = let l = longer a.strings b.strings w.strings in omega (arith, l, f)
constant_fits a b _ w f = f

pub fits_later : (g : Given) (a b : Added) (i : Instr) → TablesGrow a b → InstrFits g a i → InstrFits g b i
fits_later g a b (held.Constant c) w f = constant_fits a b c w f
fits_later g a b (held.Procedure n behind) w f = let l = longer a.procedures b.procedures w.procedures in omega (arith, l, f)
fits_later g a b (held.Text n behind) w f = let l = longer a.texts b.texts w.texts in omega (arith, l, f)
fits_later g a b (held.Subarray links position n) w f = let l = longer a.stars b.stars w.stars in omega (arith, l, f)
fits_later g a b (held.Compare n) w f = let l = longer a.calls b.calls w.calls in omega (arith, l, f)
fits_later g a b (held.Prepare n i) w f =
    let l = longer a.calls b.calls w.calls in
    let there : n < length a.calls = f.0 in
    (omega (arith, l, there), subst (λ (c : CallView). i < length c.heads) (sym (found_mapped call_view a.calls b.calls n no_call w.calls there)) f.1)
fits_later g a b (held.CallThrough site n) w f = let l = longer a.calls b.calls w.calls in omega (arith, l, f)
fits_later g a b _ w f = f

-- code whose tables have grown fits
pub code_fits_later : (c : CodeView) (b : Added) → TablesGrow c.added b → All (ProcedureFits c.given) b.procedures → All (TextFits c.given) b.texts → CodeFits c → CodeFits (with_added c b)
code_fits_later c b w procedures texts h = record {
  given = h.given;
  instructions = All-weaker (λ (i : Coded). InstrFits c.given c.added i.does) (λ (i : Coded). InstrFits c.given b i.does) (λ i f. fits_later c.given c.added b i.does w f) c.instructions h.instructions;
  procedures = procedures;
  texts = texts;
}

pub string_fits : (c : CodeView) (text : List ℕ) → CodeFits c → CodeFits (with_string c text)
string_fits c text h = code_fits_later c _ (string_more c.added text) h.procedures h.texts h

pub procedure_fits : (c : CodeView) (head : ProcedureHead) → CodeFits c → ProcedureFits c.given head → CodeFits (with_procedure c head)
procedure_fits c head h f = code_fits_later c _ (procedure_more c.added head) (All-push (ProcedureFits c.given) c.added.procedures head h.procedures f) h.texts h

pub text_fits : (c : CodeView) (head : TextHead) → CodeFits c → TextFits c.given head → CodeFits (with_text c head)
text_fits c head h f = code_fits_later c _ (text_more c.added head) h.procedures (All-push (TextFits c.given) c.added.texts head h.texts f) h

pub call_fits : (c : CodeView) (call : ComparedCall) → CodeFits c → CodeFits (with_call c call)
call_fits c call h = code_fits_later c _ (call_more c.added call) h.procedures h.texts h

pub stars_fit : (c : CodeView) (stars : Stars) → CodeFits c → CodeFits (with_stars c stars)
stars_fit c stars h = code_fits_later c _ (stars_more c.added stars) h.procedures h.texts h

-- ---- what was added last

last : {X Y : Type 0} (f : X → Y) (xs : List X) (x : X) (d : Y) → slice_index_or (map f (xs ++ x ∷ [])) (length xs) d ≡ f x
last f [] x d = refl
last f (y ∷ xs) x d = last f xs x d

last_mapped : {X Y : Type 0} (h : X → X) (f : X → Y) (xs : List X) (x : X) (d : Y) → slice_index_or (map f (map h (xs ++ x ∷ []))) (length xs) d ≡ f (h x)
last_mapped h f [] x d = refl
last_mapped h f (y ∷ xs) x d = last_mapped h f xs x d

pub string_found : (c : CodeView) (text ts : List ℕ) → string_of (linked_added ts (with_string c text).added) (length c.added.strings) ≡ text
string_found c text ts = get_or-append_seam c.added.strings text [] []

pub procedure_found : (c : CodeView) (head : ProcedureHead) (ts : List ℕ) → procedure_of c.given (linked_added ts (with_procedure c head).added) (length c.added.procedures) ≡ procedure_view c.given head
procedure_found c head ts = last (procedure_view c.given) c.added.procedures head no_procedure

pub text_found : (c : CodeView) (head : TextHead) (ts : List ℕ) → text_of c.given (linked_added ts (with_text c head).added) (length c.added.texts) ≡ text_head_view c.given (linked_text ts head)
text_found c head ts = last_mapped (linked_text ts) (text_head_view c.given) c.added.texts head no_text

pub call_found : (c : CodeView) (call : ComparedCall) (ts : List ℕ) → call_of (linked_added ts (with_call c call).added) (length c.added.calls) ≡ call_view (linked_call ts call)
call_found c call ts = last_mapped (linked_call ts) call_view c.added.calls call no_call

pub stars_found : (c : CodeView) (stars : Stars) (ts : List ℕ) → stars_of (linked_added ts (with_stars c stars).added) (length c.added.stars) ≡ stars.are.items
stars_found c stars ts = last (λ (s : Stars). s.are.items) c.added.stars stars []
