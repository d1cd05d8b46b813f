-- What is appended, replaced or added to tables makes of the instructions by now, where these instructions are at the targets.
use Rattle.std.proofs.Common.{◌≡◌, ℕ, zero, suc, ◌+◌, ◌<◌, List, [], ◌∷◌, ◌++◌, map, length, true, Option, refl, sym, ap, ◌∙◌, arith, append_assoc, slice_index_or, slice_set}
use Rattle.std.specs.declared.alloc.Global.{Global}
use Rattle.std.specs.declared.vec.Vec.{Vec}
use Rattle.std.proofs.lemmas.Bool.{false≢true}
use Rattle.std.proofs.lemmas.List.{get_or_default, length-map, length-set, length_push, map-append}
use Rattle.std.proofs.Math.ListN.{get_or-map}
use Rattle.std.proofs.Math.Seq.{get_or-append_seam, set-append_seam}
use Rattle.value_ops.specs.declared.places.Place.{Place}
use Rattle.phrase_code.specs.Coding.{◌▸◌, one}
use Rattle.phrase_code.proofs.Sizes.{length_code}
use Rattle.stack_code.specs.Code as code
use Rattle.stack_code.specs.CodeView.{Added, CodeFits, coded_view}
use Rattle.stack_code.specs.Instr as instr
use Rattle.stack_code.specs.Linking.{linked_added, linked_coded}
use Rattle.stack_code.specs.Making.{coded_at, with_added, with_call, with_procedure, with_replaced, with_stars, with_string, with_text}
use Rattle.stack_code.specs.Calls.{ComparedCall}
use Rattle.stack_code.specs.declared.heads.ProcedureHead.{ProcedureHead}
use Rattle.stack_code.specs.declared.heads.Stars.{Stars}
use Rattle.stack_code.specs.declared.heads.TextHead.{TextHead}
use Rattle.stack_code.specs.declared.instructions.Coded.{Coded}
use Rattle.stack_code.specs.declared.instructions.Constant.TheVariants as constant
use Rattle.stack_code.specs.declared.instructions.Instr.{Instr}
use Rattle.stack_code.specs.declared.instructions.Instr.TheVariants as held
use Rattle.symbol_table.specs.declared.here.Here.{Here}
use Rattle.code_emitter.specs.Appending.{appended, replaced, with_targets}
use Rattle.code_emitter.specs.Parts.{TablesGrow, instr_in, is_plain, linked_code, next, one_in, place_in, plain, scene}
use Rattle.code_emitter.specs.declared.emitter.Emitter.{Emitter}
use Rattle.code_emitter.proofs.Tables.{call_more, codes_later, procedure_more, stars_more, string_more, text_more}

-- ---- code one behind another

pub joined_is : (a b : List code.Coded) → a ▸ b ≡ a ++ b
joined_is [] b = refl
joined_is (c ∷ a) b = ap (λ l. c ∷ l) (joined_is a b)

pub joined_assoc : (a b c : List code.Coded) → (a ▸ b) ▸ c ≡ a ▸ (b ▸ c)
joined_assoc [] b c = refl
joined_assoc (x ∷ a) b c = ap (λ l. x ∷ l) (joined_assoc a b c)

pub joined_none : (a : List code.Coded) → a ▸ [] ≡ a
joined_none [] = refl
joined_none (x ∷ a) = ap (λ l. x ∷ l) (joined_none a)

pub joined_length : (a b : List code.Coded) → length (a ▸ b) ≡ length a + length b
joined_length a b = length_code a b

-- an instruction of a statement, as the definitions have it
abbrev pub step : Emitter → Here → instr.Instr → List code.Coded
step e here i = one (place_in (scene e) here) i

-- ---- parts behind each other

-- the number of the next instruction is how many there are
pub next_linked : (ts : List ℕ) (e : Emitter) → length (linked_code ts e) ≡ next e
next_linked ts e = length-map (map (linked_coded ts) e.code.instructions) (coded_view e.code.given (linked_added ts e.code.added)) ∙ length-map e.code.instructions (linked_coded ts)

pub longer : (ts : List ℕ) (a b : Emitter) (xs : List code.Coded) → linked_code ts b ≡ linked_code ts a ++ xs → next b ≡ next a + length xs
longer ts a b xs e =
    let joined : length (linked_code ts b) ≡ length (linked_code ts a ▸ xs) = ap length (e ∙ sym (joined_is (linked_code ts a) xs)) in
    let both = length_code (linked_code ts a) xs in
    let first = next_linked ts a in
    let last = next_linked ts b in
    omega (arith, joined, both, first, last)

pub chain : (ts : List ℕ) (a b c : Emitter) (xs ys : List code.Coded) → linked_code ts b ≡ linked_code ts a ++ xs → linked_code ts c ≡ linked_code ts b ++ ys → linked_code ts c ≡ linked_code ts a ++ (xs ▸ ys)
chain ts a b c xs ys e i = i ∙ ap (λ l. l ++ ys) e ∙ append_assoc (linked_code ts a) xs ys ∙ ap (λ l. linked_code ts a ++ l) (sym (joined_is xs ys))

pub behind_none : (ts : List ℕ) (e : Emitter) → linked_code ts e ≡ linked_code ts e ++ []
behind_none ts e = sym (joined_none (linked_code ts e)) ∙ joined_is (linked_code ts e) []

-- ---- an instruction more

pub appended_code : (e : Emitter) (here : Here) (does : Instr) (ts : List ℕ) → linked_code ts (appended e here does) ≡ linked_code ts e ++ one (place_in (scene e) here) (instr_in e ts does)
appended_code e here does ts =
    ap (map (coded_view e.code.given (linked_added ts e.code.added))) (map-append (linked_coded ts) e.code.instructions (record { at = here.statement; does = does } ∷ []))
    ∙ map-append (coded_view e.code.given (linked_added ts e.code.added)) (map (linked_coded ts) e.code.instructions) (linked_coded ts (record { at = here.statement; does = does }) ∷ [])

pub next_appended : (e : Emitter) (here : Here) (does : Instr) → next (appended e here does) ≡ next e + 1
next_appended e here does = length_push e.code.instructions (record { at = here.statement; does = does })

pub next_replaced : (e : Emitter) (n : ℕ) (does : Instr) → next (replaced e n does) ≡ next e
next_replaced e n does = length-set e.code.instructions n (record { at = (coded_at e.code n).at; does = does })

-- one without a number of a table is the same with whatever is added
pub plain_instr : (e : Emitter) (ts : List ℕ) (does : Instr) → is_plain does ≡ true → instr_in e ts does ≡ plain (scene e) ts does
plain_instr e ts (held.Constant (constant.Str n)) p = absurd (false≢true p)
plain_instr e ts (held.Procedure n behind) p = absurd (false≢true p)
plain_instr e ts (held.Text n behind) p = absurd (false≢true p)
plain_instr e ts (held.Subarray links position n) p = absurd (false≢true p)
plain_instr e ts (held.Compare n) p = absurd (false≢true p)
plain_instr e ts (held.Prepare n i) p = absurd (false≢true p)
plain_instr e ts (held.CallThrough site n) p = absurd (false≢true p)
plain_instr e ts _ p = refl

pub appended_plain : (e : Emitter) (here : Here) (does : Instr) (ts : List ℕ) → is_plain does ≡ true → linked_code ts (appended e here does) ≡ linked_code ts e ++ one_in (scene e) here ts does
appended_plain e here does ts p = appended_code e here does ts ∙ ap (λ i. linked_code ts e ++ one (place_in (scene e) here) i) (plain_instr e ts does p)

-- ---- an instruction put for another

set_mapped : {X Y : Type 0} (f : X → Y) (xs : List X) (n : ℕ) (x : X) → map f (slice_set xs n x) ≡ slice_set (map f xs) n (f x)
set_mapped f [] n x = refl
set_mapped f (y ∷ xs) zero x = refl
set_mapped f (y ∷ xs) (suc n) x = ap (λ ys. f y ∷ ys) (set_mapped f xs n x)

module _ (ts : List ℕ) (e : Emitter) where
  -- an instruction as it is held, and what it is
  abbrev told : Coded → code.Coded
  told c = coded_view e.code.given (linked_added ts e.code.added) (linked_coded ts c)

  told_all : (is : List Coded) → map (coded_view e.code.given (linked_added ts e.code.added)) (map (linked_coded ts) is) ≡ map told is
  told_all [] = refl
  told_all (i ∷ is) = ap (λ l. told i ∷ l) (told_all is)

-- the code where one of the instructions is replaced, which are those behind xs
pub patched : (ts : List ℕ) (e : Emitter) (n : ℕ) (does : Instr) (xs : List code.Coded) (w : Place) (i : instr.Instr) (ys : List code.Coded) → linked_code ts e ≡ xs ++ (one w i ▸ ys) → n ≡ length xs → linked_code ts (record e { code = with_replaced e.code n does }) ≡ xs ++ (one w (instr_in e ts does) ▸ ys)
patched ts e n does xs w i ys q l =
    let before : map (told ts e) e.code.instructions ≡ xs ++ (one w i ▸ ys) = sym (told_all ts e e.code.instructions) ∙ q in
    let there : told ts e (coded_at e.code n) ≡ record { at = w; does = i } =
    sym (get_or-map (told ts e) e.code.instructions n (record { at = 0; does = held.Stuck })) ∙ ap (λ l. slice_index_or l n (told ts e (record { at = 0; does = held.Stuck }))) before
    ∙ ap (λ k. slice_index_or (xs ++ (one w i ▸ ys)) k (told ts e (record { at = 0; does = held.Stuck }))) l ∙ get_or-append_seam xs (record { at = w; does = i }) ys (told ts e (record { at = 0; does = held.Stuck })) in
    let put : told ts e (record { at = (coded_at e.code n).at; does = does }) ≡ record { at = w; does = instr_in e ts does } = ap (λ (c : code.Coded). record { at = c.at; does = instr_in e ts does }) there in
    told_all ts e (slice_set e.code.instructions n (record { at = (coded_at e.code n).at; does = does }))
    ∙ set_mapped (told ts e) e.code.instructions n (record { at = (coded_at e.code n).at; does = does })
    ∙ ap (λ l. slice_set l n (told ts e (record { at = (coded_at e.code n).at; does = does }))) before
    ∙ ap (λ c. slice_set (xs ++ (one w i ▸ ys)) n c) put
    ∙ ap (λ k. slice_set (xs ++ (one w i ▸ ys)) k (record { at = w; does = instr_in e ts does })) l
    ∙ set-append_seam xs (record { at = w; does = i }) ys (record { at = w; does = instr_in e ts does })

-- the same, by the number of the instruction
pub replaced_code : (ts : List ℕ) (e : Emitter) (n : ℕ) (does : Instr) (d : code.Coded) → n < next e → linked_code ts (replaced e n does) ≡ slice_set (linked_code ts e) n (record { at = (slice_index_or (linked_code ts e) n d).at; does = instr_in e ts does })
replaced_code ts e n does d l =
    let all : linked_code ts e ≡ map (told ts e) e.code.instructions = told_all ts e e.code.instructions in
    let long = next_linked ts e in
    let within : n < length (linked_code ts e) = omega (arith, l, long) in
    let there : told ts e (coded_at e.code n) ≡ slice_index_or (linked_code ts e) n d =
    sym (get_or-map (told ts e) e.code.instructions n (record { at = 0; does = held.Stuck })) ∙ ap (λ is. slice_index_or is n (told ts e (record { at = 0; does = held.Stuck }))) (sym all) ∙ get_or_default (linked_code ts e) n (told ts e (record { at = 0; does = held.Stuck })) d within in
    told_all ts e (slice_set e.code.instructions n (record { at = (coded_at e.code n).at; does = does }))
    ∙ set_mapped (told ts e) e.code.instructions n (record { at = (coded_at e.code n).at; does = does })
    ∙ ap (λ is. slice_set is n (told ts e (record { at = (coded_at e.code n).at; does = does }))) (sym all)
    ∙ ap (λ (c : code.Coded). slice_set (linked_code ts e) n (record { at = c.at; does = instr_in e ts does })) there

-- ---- tables

-- what is added to the tables leaves the instructions
pub added_code : (e : Emitter) (b : Added) (ts : List ℕ) → CodeFits e.code → TablesGrow e.code.added b → linked_code ts (record e { code = with_added e.code b }) ≡ linked_code ts e
added_code e b ts h w = codes_later e.code.given e.code.added b ts e.code.instructions w h.instructions

pub string_code : (e : Emitter) (text ts : List ℕ) → CodeFits e.code → linked_code ts (record e { code = with_string e.code text }) ≡ linked_code ts e
string_code e text ts h = added_code e _ ts h (string_more e.code.added text)

pub procedure_code : (e : Emitter) (head : ProcedureHead) (ts : List ℕ) → CodeFits e.code → linked_code ts (record e { code = with_procedure e.code head }) ≡ linked_code ts e
procedure_code e head ts h = added_code e _ ts h (procedure_more e.code.added head)

pub text_code : (e : Emitter) (head : TextHead) (ts : List ℕ) → CodeFits e.code → linked_code ts (record e { code = with_text e.code head }) ≡ linked_code ts e
text_code e head ts h = added_code e _ ts h (text_more e.code.added head)

pub call_code : (e : Emitter) (call : ComparedCall) (ts : List ℕ) → CodeFits e.code → linked_code ts (record e { code = with_call e.code call }) ≡ linked_code ts e
call_code e call ts h = added_code e _ ts h (call_more e.code.added call)

pub stars_code : (e : Emitter) (stars : Stars) (ts : List ℕ) → CodeFits e.code → linked_code ts (record e { code = with_stars e.code stars }) ≡ linked_code ts e
stars_code e stars ts h = added_code e _ ts h (stars_more e.code.added stars)

-- ---- targets

-- what is known of targets leaves the instructions
pub targets_code : (e : Emitter) (targets : Vec (Option ℕ) Global) (ts : List ℕ) → linked_code ts (with_targets e targets) ≡ linked_code ts e
targets_code e targets ts = refl

-- and what is pending does
pub pending_code : (e : Emitter) (pending : Vec ℕ Global) (ts : List ℕ) → linked_code ts (record e { pending = pending }) ≡ linked_code ts e
pending_code e pending ts = refl
