-- A CASE is coded when what it goes by and its parts are.
use Rattle.std.proofs.Common.{◌≡◌, ℕ, max, Option, sym, ap, ◌∙◌, subst}
use Rattle.std.specs.Option.{option_map}
use Rattle.value_ops.specs.declared.values.SimpleType.{SimpleType}
use Rattle.algolw_tree.specs.declared.programs.Node.{Node}
use Rattle.algolw_typing.specs.ProgramView.{gives_view}
use Rattle.algolw_typing.specs.Typed as typed
use Rattle.phrase_code.specs.Coding.{phrase_count}
use Rattle.program_meaning.specs.Phrases as phrases
use Rattle.program_meaning.specs.Phrases.{Phrase, Phrases}
use Rattle.program_meaning.specs.Translating as translating
use Rattle.program_soundness.specs.Tables.{infos, nodes_infos}
use Rattle.stack_code.specs.CodeView.{KindsFit, statement_view}
use Rattle.stack_code.specs.declared.instructions.Instr.TheVariants as held
use Rattle.stack_code.specs.declared.instructions.Mode.TheVariants as mode
use Rattle.symbol_table.specs.declared.here.Here.{Here}
use Rattle.symbol_table.specs.Contexts.{Scene, numbers_in}
use Rattle.symbol_table.specs.Heres.{in_statement, type_given}
use Rattle.symbol_table.proofs.Fresh.{fresh_left, fresh_right}
use Rattle.code_emitter.specs.declared.emitter.Emitter.{Emitter}
use Rattle.code_emitter.specs.Appending.{begun, made_into}
use Rattle.code_emitter.specs.Forms.{parts_to}
use Rattle.code_emitter.specs.Parts.{Codes, CodesPhrase, Own, Stays, next, none_own, phrase_in, scene}
use Rattle.code_emitter.proofs.Cases.{case_codes, selection_codes}
use Rattle.stack_codegen.specs.declared.loops.Choices.{Choices}
use Rattle.stack_codegen.specs.Blocks.{CodesChoices, choices_phrase}
use Rattle.stack_codegen.specs.Codable.{CodesNode, IsCodable, IsCodableChoices, choice_count, choices_in, node_in, with_kind}
use Rattle.stack_codegen.specs.Operations.{CodesBefore}
use Rattle.stack_codegen.proofs.CaseParts.{count_choices}
use Rattle.stack_codegen.proofs.PhraseParts.{before_there}
use Rattle.stack_codegen.proofs.Ready.{stays_begun}
use Rattle.stack_codegen.proofs.Typing.{given_fits, type_given_same}
use Rattle.phrase_code.specs.Marks.{phrases_marks}

-- what is known of a CASE is known of its parts
pub case_ready : (e : Emitter) (n : Node) (c : Scene → typed.Node) (parts : Choices) → IsCodable e (with_kind n (λ s. typed.CaseDo (c s) (choices_in (numbers_in s) parts))) → IsCodable e c × IsCodableChoices e parts
case_ready e n c parts r =
    let s : Scene = scene e in (
      record { fits = r.fits; fresh = fresh_left s (infos (c s)) (nodes_infos (choices_in (numbers_in s) parts)) r.fresh; knows = r.knows.1.0; begun = r.begun.0; suits = r.suits.0 },
      record { fits = r.fits; fresh = fresh_right s (infos (c s)) (nodes_infos (choices_in (numbers_in s) parts)) r.fresh; knows = r.knows.1.1; begun = r.begun.1; suits = r.suits.1 },
    )

-- its type is one that the tables have, then too
pub case_type : {own : Own} {a d : Emitter} (node : Node) (c : Scene → typed.Node) (parts : Choices) → IsCodable a (with_kind node (λ s. typed.CaseDo (c s) (choices_in (numbers_in s) parts))) → Stays own a d → KindsFit d.code.given (type_given node.gives)
case_type {own} {a} {d} node c parts r x = subst (λ (s : Scene). KindsFit s.given (type_given node.gives)) (sym x.scene) (given_fits (scene a) r.fits.scene node.gives r.knows.0)

parts_there : {c d : Emitter} {n : ℕ} (s : Scene) (here : Here) (parts : Choices) → scene c ≡ s → CodesChoices c d here parts n → Codes none_own c d (parts_to here (next d) (choices_phrase s parts) (scene c) (next c)) (phrases_marks (choices_phrase s parts)) n
parts_there {c} {d} {n} s here parts e = subst (λ (u : Scene). Codes none_own c d (parts_to here (next d) (choices_phrase u parts) (scene c) (next c)) (phrases_marks (choices_phrase u parts)) n) e

pub case_done : {a b c d e : Emitter} {m n : ℕ} (here inner : Here) (node : Node) (subject : Node) (parts : Choices) (count z : ℕ) (t : Option SimpleType) → inner ≡ in_statement here node.statement → t ≡ type_given node.gives → IsCodable a (with_kind node (λ s. typed.CaseDo (node_in subject s) (choices_in (numbers_in s) parts)))
    → b ≡ begun a here node.statement → count ≡ choice_count parts
    → CodesBefore b c inner (phrase_in (scene b) (node_in subject (scene b))) (held.Choose count) m
    → CodesChoices c d inner parts n
    → e ≡ made_into d inner t → z ≡ max m n
    → CodesNode a e here mode.Value (with_kind node (λ s. typed.CaseDo (node_in subject s) (choices_in (numbers_in s) parts))) z
case_done {a} {b} {c} {d} {e} {m} {n} here inner node subject parts count z t qi qt r qb q first second qe qz =
    let at : Here = in_statement here node.statement in
    let s : Scene = scene a in
    let subject_of : Phrase = phrase_in s (node_in subject s) in
    let parts_of : Phrases = choices_phrase s parts in
    let to_b : scene b ≡ s = (stays_begun here node.statement r.fits.code qb).scene in
    let to_c : scene c ≡ s = first.stays.scene ∙ to_b in
    let fits : KindsFit b.code.given (type_given node.gives) = case_type node (node_in subject) parts r (stays_begun here node.statement r.fits.code qb) in
    let counted : count ≡ phrase_count parts_of = q ∙ sym (count_choices s parts) in
    let chosen : CodesBefore b c at subject_of (held.Choose (phrase_count parts_of)) m =
    subst (λ (h : Here). CodesBefore b c h subject_of (held.Choose (phrase_count parts_of)) m) qi
    (subst (λ k. CodesBefore b c inner subject_of (held.Choose k) m) counted (before_there s inner (λ u. phrase_in u (node_in subject u)) (held.Choose count) to_b first)) in
    let made : e ≡ made_into d at (type_given node.gives) = qe ∙ ap (λ (h : Here). made_into d h t) qi ∙ ap (made_into d at) qt in
    let both : CodesChoices c d at parts n = subst (λ (h : Here). CodesChoices c d h parts n) qi second in
    subst (λ k. CodesPhrase a e here mode.Value (phrases.Case (option_map (statement_view s.given) node.statement) (translating.type_given (option_map (gives_view (numbers_in s)) node.gives)) subject_of parts_of) k) (sym qz)
    (subst (λ u. CodesPhrase a e here mode.Value (phrases.Case (option_map (statement_view s.given) node.statement) u subject_of parts_of) (max m n)) (sym (type_given_same s node.gives))
    (case_codes here mode.Value node.statement (type_given node.gives) subject_of parts_of r.fits.code qb (selection_codes at (type_given node.gives) subject_of parts_of fits chosen (parts_there s at parts to_c both) made)))
