-- The values of a FOR, one by one, each with its turn.
use Rattle.std.proofs.Common.{◌≡◌, ℕ, ◌+◌, ◌<◌, ◌≤◌, max, List, ◌∷◌, drop, length, refl, sym, ap, ◌∙◌, subst, arith}
use Rattle.std.specs.Prelude.{slice_index_or}
use Rattle.std.proofs.lemmas.List.{drop_all}
use Rattle.algolw_tree.specs.declared.programs.Node.{Node}
use Rattle.phrase_code.specs.Coding as coding
use Rattle.phrase_code.specs.Coding.{◌▸◌, known, one}
use Rattle.phrase_code.specs.Marks.{phrases_marks}
use Rattle.phrase_code.specs.Sizes.{size}
use Rattle.program_meaning.specs.Phrases.{Name, Phrase}
use Rattle.stack_code.specs.Code.{Coded}
use Rattle.stack_code.specs.CodeView.{text_view}
use Rattle.stack_code.specs.Instr as instr
use Rattle.stack_code.specs.declared.instructions.Instr.TheVariants as held
use Rattle.stack_code.specs.declared.instructions.Mode.TheVariants as mode
use Rattle.symbol_table.specs.declared.here.Here.{Here}
use Rattle.symbol_table.specs.Contexts.{Scene, coding_context, phrase_context}
use Rattle.symbol_table.proofs.Declaring.{next_out}
use Rattle.symbol_table.proofs.Viewing.{name_viewed}
use Rattle.code_emitter.specs.declared.emitter.Emitter.{Emitter}
use Rattle.code_emitter.specs.Forms.{Form, before}
use Rattle.code_emitter.specs.Parts.{code_at, next, none_own, one_in, phrase_in, place_in, scene}
use Rattle.code_emitter.proofs.Composing.{length_code_at}
use Rattle.code_emitter.proofs.Emitting.{joined_assoc, joined_length}
use Rattle.code_emitter.proofs.Remaining.{Remains, remains_all, remains_none, remains_part}
use Rattle.stack_codegen.specs.Blocks.{CodesValues, control_name, nodes_phrase}
use Rattle.stack_codegen.specs.Codable.{IsCodable, IsCodableNodes, node_in}
use Rattle.stack_codegen.specs.Operations.{CodesBefore}
use Rattle.stack_codegen.proofs.Parts.{node_ready}
use Rattle.stack_codegen.proofs.PhraseParts.{before_there}
use Rattle.stack_codegen.proofs.Ready.{ready_after}

-- what is left of them, behind those coded
abbrev pub left_values : Scene → Here → (x body : ℕ) → List Node → Form
left_values old here x body values s k ts = coding.code_list (coding_context s ts here) (place_in s here) (control_name old x) body k (nodes_phrase old values)

-- what is coded by now, with those that are left, is the whole
abbrev pub ValuesUnderWay : (old now : Emitter) → Here → (x body : ℕ) → List Node → (i m : ℕ) → Type 0
ValuesUnderWay old now here x body values i m =
    Remains none_own old now (left_values (scene old) here x body values (scene old) (next old)) (left_values (scene old) here x body (drop i values)) (phrases_marks (nodes_phrase (scene old) values)) (phrases_marks (nodes_phrase (scene old) (drop i values))) m

pub values_begun : (e : Emitter) (here : Here) (x body : ℕ) (values : List Node) → IsCodableNodes e values → ValuesUnderWay e e here x body values 0 0
values_begun e here x body values r = remains_all none_own e (left_values (scene e) here x body values) (phrases_marks (nodes_phrase (scene e) values)) r.fits.code

-- the next one may be coded
pub value_ready : {old now : Emitter} {m : ℕ} (here : Here) (x body : ℕ) (values : List Node) (i : ℕ) (a : Node) → i < length values → a ≡ slice_index_or values i a → IsCodableNodes old values → ValuesUnderWay old now here x body values i m → IsCodable now (node_in a)
value_ready {old} here x body values i a l is r w = ready_after w.stays (node_ready old values i a l is r)

pub turn_fits_there : {old now : Emitter} {m : ℕ} (here : Here) (x body : ℕ) (values : List Node) (i : ℕ) → x < length old.code.given.names → ValuesUnderWay old now here x body values i m → x < length now.code.given.names
turn_fits_there here x body values i there w = subst (λ (s : Scene). x < length s.given.names) (sym w.stays.scene) there

-- and with its turn
pub values_more : {old now after : Emitter} {m n : ℕ} (here : Here) (x body : ℕ) (values : List Node) (i k : ℕ) (a : Node) → IsCodableNodes old values → x < length old.code.given.names → i < length values → a ≡ slice_index_or values i a → ValuesUnderWay old now here x body values i m → CodesBefore now after here (phrase_in (scene now) (node_in a (scene now))) (held.ListTurn body x) n → k ≡ max m n → ValuesUnderWay old after here x body values (i + 1) k
values_more {old} {now} {after} {m} {n} here x body values i k a r there l is w part q =
    subst (λ z. ValuesUnderWay old after here x body values (i + 1) z) (sym q)
    (remains_part (before here (phrase_in (scene old) (node_in a (scene old))) (held.ListTurn body x)) (left_values (scene old) here x body (drop (i + 1) values)) (phrases_marks (nodes_phrase (scene old) (drop (i + 1) values)))
    (ap (λ vs. phrases_marks (nodes_phrase (scene old) vs)) taken) parted w (before_there (scene old) here (λ u. phrase_in u (node_in a u)) (held.ListTurn body x) w.stays.scene part))
  where
    text : text_view old.code.given x ≡ (control_name (scene old) x).text
    text = sym (ap (λ (y : Name). y.text) (name_viewed (scene old) r.fits.scene (phrase_context (scene old)) refl x there))

    taken : drop i values ≡ a ∷ drop (i + 1) values
    taken = next_out values i a l is

    told : (ts : List ℕ) → one (place_in (scene now) here) (instr.ListTurn body (control_name (scene old) x).text) ≡ one_in (scene now) here ts (held.ListTurn body x)
    told ts = ap (λ t. one (place_in (scene now) here) (instr.ListTurn body t)) (sym (ap (λ (u : Scene). text_view u.given x) w.stays.scene ∙ text))

    parted : (ts : List ℕ) → left_values (scene old) here x body (drop i values) (scene now) (next now) ts ≡ before here (phrase_in (scene old) (node_in a (scene old))) (held.ListTurn body x) (scene now) (next now) ts ▸ left_values (scene old) here x body (drop (i + 1) values) (scene now) (next now + length (before here (phrase_in (scene old) (node_in a (scene old))) (held.ListTurn body x) (scene now) (next now) ts)) ts
    parted ts =
        let p : Phrase = phrase_in (scene old) (node_in a (scene old)) in
        let first : List Coded = code_at (scene now) here mode.Value (next now) p ts in
        let turn : List Coded = one_in (scene now) here ts (held.ListTurn body x) in
        let rest : ℕ → List Coded = λ k. left_values (scene old) here x body (drop (i + 1) values) (scene now) k ts in
        let n : ℕ = size (known (coding_context (scene now) ts here)) p in
        let both = joined_length first turn in
        let one_is = length_code_at (scene now) here mode.Value (next now) p ts in
        let long : n + 1 ≡ length (first ▸ turn) = omega (arith, both, one_is) in
        ap (λ vs. left_values (scene old) here x body vs (scene now) (next now) ts) taken
        ∙ ap (λ t. first ▸ t ▸ rest (next now + (n + 1))) (told ts)
        ∙ sym (joined_assoc first turn (rest (next now + (n + 1))))
        ∙ ap (λ k. (first ▸ turn) ▸ rest (next now + k)) long

pub values_done : {old now : Emitter} {m : ℕ} (here : Here) (x body : ℕ) (values : List Node) (i : ℕ) → length values ≤ i → ValuesUnderWay old now here x body values i m → CodesValues old now here x body values m
values_done {old} {now} here x body values i l w =
    remains_none (ap (λ vs. phrases_marks (nodes_phrase (scene old) vs)) (drop_all i values l))
    (λ ts. ap (λ vs. left_values (scene old) here x body vs (scene now) (next now) ts) (drop_all i values l)) w
