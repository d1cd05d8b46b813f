-- A WRITE with the lists behind its name.
use Rattle.std.proofs.Common.{◌≡◌, ℕ, ◌+◌, Bool, true, false, List, Option, Some, None, refl, sym, ap, ◌∙◌, subst}
use Rattle.value_ops.specs.declared.places.Place.{Place}
use Rattle.algolw_tree.specs.declared.programs.Node.{Node}
use Rattle.algolw_tree.specs.declared.programs.TypedActual.{TypedActual}
use Rattle.algolw_tree.specs.declared.programs.TypedList.{TypedList}
use Rattle.algolw_tree.specs.declared.standard.Standard.{Standard}
use Rattle.algolw_tree.specs.declared.standard.Standard.TheVariants as standard
use Rattle.algolw_typing.specs.ProgramView.{Numbers}
use Rattle.algolw_typing.specs.Typed as typed
use Rattle.algolw_typing.specs.Types.{has}
use Rattle.program_meaning.specs.Phrases as phrases
use Rattle.program_meaning.specs.Phrases.{Phrase}
use Rattle.program_meaning.specs.Translating as translating
use Rattle.program_meaning.specs.Translating.{roles_of, written_of}
use Rattle.phrase_code.specs.Coding as coding
use Rattle.phrase_code.specs.Coding.{◌▸◌, one}
use Rattle.compilable_programs.specs.Begun.{IsStatement, StatementIf, standard_procedures}
use Rattle.stack_code.specs.Code as code
use Rattle.stack_code.specs.CodeView.{Added, Given, InstrFits}
use Rattle.stack_code.specs.Instr as instr
use Rattle.stack_code.specs.declared.instructions.Instr.{Instr}
use Rattle.stack_code.specs.declared.instructions.Instr.TheVariants as held
use Rattle.stack_code.specs.declared.instructions.Mode.{Mode}
use Rattle.symbol_table.specs.declared.here.Here.{Here}
use Rattle.symbol_table.specs.declared.standings.Standing.{Standing}
use Rattle.symbol_table.specs.declared.standings.Standing.TheVariants as standing
use Rattle.symbol_table.specs.Contexts.{Scene, StandsAt, coding_context, numbers_in, phrase_context, place_of}
use Rattle.symbol_table.specs.Heres.{in_statement}
use Rattle.symbol_table.specs.Parts.{actuals_in, lists_in}
use Rattle.symbol_table.specs.Standings.{standing_of}
use Rattle.symbol_table.proofs.Places.{numbered_place}
use Rattle.symbol_table.proofs.There.{stands_there}
use Rattle.code_emitter.specs.declared.emitter.Emitter.{Emitter}
use Rattle.code_emitter.specs.Appending.{appended, with_name}
use Rattle.code_emitter.specs.Parts.{Codes, CodesPhrase, code_at, next, none_own, place_in, scene}
use Rattle.code_emitter.proofs.Joining.{codes_as}
use Rattle.stack_codegen.specs.declared.writes.Writing.{Writing}
use Rattle.stack_codegen.specs.Codable.{CodesNode, IsCodable, IsCodableActuals}
use Rattle.stack_codegen.specs.Listed.{AreParted, begins_with_phrases}
use Rattle.stack_codegen.specs.Names.{IsStandard, is_applied, named_node}
use Rattle.stack_codegen.specs.Writes.{CodesWrites, WritesSuit, end_at, writes_code, writes_marks}
use Rattle.stack_codegen.proofs.AppliedParts.{in_statement_same, none_of_standard, statement_place}
use Rattle.stack_codegen.proofs.NamedParts.{NamedSuit, actuals_ready, alone_name, at, lists_ready, name_in_table, named_as, named_phrase, split_is, split_suits, statement}
use Rattle.stack_codegen.proofs.PlanParts.{begun_list_codes}
use Rattle.stack_codegen.proofs.Ready.{ready_after, stays_step}

pub end_fits : (g : Given) (a : Added) (i : Instr) (p : Option ℕ) → i ≡ end_at p → InstrFits g a i
end_fits g a i p is = subst (InstrFits g a) (sym is) (by p)
  where
    by : (o : Option ℕ) → InstrFits g a (end_at o)
    by None = tt
    by (Some n) = tt

-- any other standard name is applied
other_applied : (k : Standard) → ((first : Bool) → k ≡ standard.Write first → ⊥) → is_applied (standing.Standard k) ≡ true
other_applied (standard.Write first) other = absurd (other first refl)
other_applied k other = refl

pub standard_applied : (e : Emitter) (name : ℕ) (k : Standard) → IsStandard e name k → ((first : Bool) → k ≡ standard.Write first → ⊥) → is_applied (standing_of e.symbols.names name) ≡ true
standard_applied e name k stands other = ap is_applied stands ∙ other_applied k other

-- ---- no list of phrases

pub write_alone : {a b : Emitter} {m : ℕ} (here : Here) (u : Mode) (node : Node) (name : ℕ) (first : Bool) (lists : List TypedList) (x : Standing) → x ≡ standing_of a.symbols.names name → IsCodable a (named_node node name lists) → IsStandard a name (standard.Write first) → ((ns : Numbers) → begins_with_phrases (lists_in ns lists) ≡ false) → m ≡ 0 → b ≡ with_name a here u x → CodesNode a b here u (named_node node name lists) m
write_alone {a} {b} {m} here u node name first lists x same r stands without none made =
    let s : Scene = scene a in
    let known = name_in_table a node name lists r in
    let w : Standing = standing.Standard (standard.Write first) in
    let coded : CodesPhrase a b here u (phrases.Named (at s name)) 0 = alone_name here u name w r.fits known stands (made ∙ ap (with_name a here u) (same ∙ stands)) in
    subst (λ n. CodesNode a b here u (named_node node name lists) n) (sym none)
    (subst (λ y. CodesPhrase a b here u y 0) (sym (named_phrase s node name w lists r.fits.scene known stands ∙ none_of_standard s node name (standard.Write first) (lists_in (numbers_in s) lists) refl (without (numbers_in s)))) coded)

-- ---- with one

module _ (a : Emitter) (here : Here) (node : Node) (name : ℕ) (first : Bool) (lists : List TypedList) (actuals : List TypedActual) (rest : List TypedList) (parted : AreParted lists actuals rest) (r : IsCodable a (named_node node name lists)) (stands : IsStandard a name (standard.Write first)) where
  abbrev s : Scene
  s = scene a

  abbrev w : Standing
  w = standing.Standard (standard.Write first)

  abbrev given : typed.Actuals
  given = actuals_in (numbers_in s) actuals

  abbrev inner : Here
  inner = in_statement here node.statement

  parts_suit : WritesSuit s given
  parts_suit = split_suits a lists actuals rest parted (NamedSuit node name w) (lists_ready a node name w lists stands r)

  parts_ready : IsCodableActuals a actuals WritesSuit
  parts_ready = actuals_ready a lists actuals rest parted (NamedSuit node name w) (lists_ready a node name w lists stands r) WritesSuit parts_suit

  pub writes_ready : {b : Emitter} (i : Here) → i ≡ inner → b ≡ appended a i held.Begin → IsCodableActuals b actuals WritesSuit
  writes_ready i is e = ready_after (stays_step i held.Begin r.fits.code tt e) parts_ready

  abbrev st : Place
  st = translating.statement_at node.first (statement s node)

  is_begun : IsStatement (statement s node)
  is_begun =
      let there : has standard_procedures (place_of s name) ≡ true = subst (StandsAt s (place_of s name)) stands (stands_there s r.fits.scene name) refl in
      subst (λ o. StatementIf o (statement s node)) (ap (has standard_procedures) (numbered_place s name) ∙ there) r.begun.0

  abbrev the_write : Phrase
  the_write = phrases.Write st first (roles_of (phrase_context s).known given) (written_of (phrase_context s) given)

  abbrev parts_from : ℕ → List ℕ → List code.Coded
  parts_from k ts = writes_code s (record { here = inner; first = first; position = None }) k given ts

  inside_is : (ts : List ℕ) → one (place_in s inner) instr.Begin ▸ parts_from (next a + 1) ts ≡ one st instr.Begin ▸ coding.code_writes (coding_context s ts here) st first None (next a + 1) (roles_of (phrase_context s).known given) (written_of (phrase_context s) given)
  inside_is ts =
      ap (λ p. one p instr.Begin ▸ coding.code_writes (coding_context s ts inner) p first None (next a + 1) (roles_of (phrase_context s).known given) (written_of (phrase_context s) given)) (statement_place s here node.first node.statement is_begun)
      ∙ ap (λ c. one st instr.Begin ▸ coding.code_writes c st first None (next a + 1) (roles_of (phrase_context s).known given) (written_of (phrase_context s) given)) (in_statement_same s ts here node.statement)

  pub writes_coded : {b d : Emitter} {m : ℕ} (u : Mode) (i : Here) → i ≡ inner → b ≡ appended a i held.Begin → CodesWrites b d i first actuals m → CodesNode a d here u (named_node node name lists) m
  writes_coded {b} {d} {m} u i is e c =
      let begun : b ≡ appended a inner held.Begin = e ∙ ap (λ (h : Here). appended a h held.Begin) is in
      let told : CodesWrites b d inner first actuals m = subst (λ (h : Here). CodesWrites b d h first actuals m) is c in
      let whole : Codes none_own a d (λ ts. one (place_in s inner) instr.Begin ▸ parts_from (next a + 1) ts) (writes_marks s given) m =
      subst (λ (x : Emitter). Codes none_own x d (writes_code (scene x) (record { here = inner; first = first; position = None }) (next x) (actuals_in (numbers_in (scene x)) actuals)) (writes_marks (scene x) (actuals_in (numbers_in (scene x)) actuals)) m
      → Codes none_own a d (λ ts. one (place_in s inner) instr.Begin ▸ parts_from (next a + 1) ts) (writes_marks s given) m) (sym begun)
      (begun_list_codes inner true (λ z k ts. writes_code z (record { here = inner; first = first; position = None }) k (actuals_in (numbers_in z) actuals) ts) r.fits.code refl) told in
      let coded : CodesPhrase a d here u the_write m = codes_as _ _ (λ ts k. inside_is ts) refl whole in
      subst (λ y. CodesPhrase a d here u y m)
      (sym (named_phrase s node name w lists r.fits.scene (name_in_table a node name lists r) stands ∙ ap (named_as s node name w) (split_is a lists actuals rest parted))) coded
