-- The body of a FOR, in which its control name is declared.
use Rattle.std.proofs.Common.{◌≡◌, ℕ, ◌+◌, List, [], true, refl, sym, ap, ◌∙◌, subst, arith}
use Rattle.algolw_tree.specs.declared.programs.Node.{Node}
use Rattle.algolw_typing.specs.ProgramView.{numbered}
use Rattle.algolw_typing.specs.Types.{has}
use Rattle.phrase_code.specs.Coding as coding
use Rattle.phrase_code.specs.Coding.{turn_context}
use Rattle.phrase_code.specs.Marks.{marks}
use Rattle.phrase_code.specs.Sizes.{Known, control_known}
use Rattle.program_meaning.specs.Translating as translating
use Rattle.program_soundness.specs.Tables.{control_info, infos}
use Rattle.compilable_programs.specs.Suits.{Suits}
use Rattle.stack_code.specs.Instr as instr
use Rattle.stack_code.specs.CodeView.{name_view}
use Rattle.stack_code.specs.declared.instructions.Mode.TheVariants as mode
use Rattle.symbol_table.specs.declared.here.Here.{Here}
use Rattle.symbol_table.specs.Contexts.{Scene, SceneFits, coding_context, in_turn, numbers_in, phrase_context}
use Rattle.symbol_table.specs.Heres.{with_entries}
use Rattle.symbol_table.specs.declared.symbols.SymbolMark.{SymbolMark}
use Rattle.symbol_table.specs.Symbols.{SymbolsView, control_standing, mark_of, taken_back, with_name}
use Rattle.symbol_table.proofs.Fitting.{turn_fits, turn_fresh}
use Rattle.symbol_table.proofs.Fresh.{fresh_left}
use Rattle.symbol_table.proofs.Inside.{codes_in_turn, known_in_turn, phrases_in_turn, turn_entry}
use Rattle.symbol_table.proofs.Knowing.{name_known}
use Rattle.symbol_table.proofs.TakenBack.{turn_taken_back}
use Rattle.symbol_table.proofs.Viewing.{name_viewed}
use Rattle.code_emitter.specs.declared.emitter.Emitter.{Emitter}
use Rattle.code_emitter.specs.Forms.{turn}
use Rattle.code_emitter.specs.Parts.{CodesPhrase, code_at, next, phrase_in, place_in, scene}
use Rattle.code_emitter.proofs.Joining.{codes_as, codes_most, codes_symbols}
use Rattle.stack_codegen.specs.Blocks.{CodesTurn, IsCodableTurn, control_name, turn_phrase}
use Rattle.stack_codegen.specs.Codable.{CodesNode, IsCodable, NodeSuits, node_in, sizes_known}

-- a control name is written as its number has it
pub control_named : (s : Scene) (x : ℕ) → SceneFits s → has (numbers_in s).names (numbered (numbers_in s).names x) ≡ true → control_name s x ≡ name_view s.given x
control_named s x fits had = name_viewed s fits (phrase_context s) refl x (name_known s fits x had)

-- in the body
abbrev pub inside : Scene → Here → ℕ → Scene
inside s here x = in_turn s x (turn_entry here)

module _ (s : Scene) (here : Here) (x : ℕ) (body : Node) (fits : SceneFits s) (had : has (numbers_in s).names (numbered (numbers_in s).names x) ≡ true) where
  pub turn_same : turn_phrase s x body ≡ phrase_in (inside s here x) (node_in body (inside s here x))
  turn_same = ap (λ c. translating.phrase_of c (node_in body s)) (sym (phrases_in_turn s x (turn_entry here) fits))

  sizes_same : control_known (control_name s x) (sizes_known s) ≡ sizes_known (inside s here x)
  sizes_same = ap (λ n. control_known n (sizes_known s)) (control_named s x fits had) ∙ sym (known_in_turn s [] here x fits)

  pub turn_suits : Suits (control_known (control_name s x) (sizes_known s)) (turn_phrase s x body) → NodeSuits (inside s here x) (node_in body (inside s here x))
  turn_suits h = subst (λ (ks : List Known). Suits ks (phrase_in (inside s here x) (node_in body (inside s here x)))) sizes_same (subst (λ p. Suits (control_known (control_name s x) (sizes_known s)) p) turn_same h)

  pub turn_code : (k : ℕ) (ts : List ℕ) → code_at (inside s here x) (with_entries here 2) mode.Value k (phrase_in (inside s here x) (node_in body (inside s here x))) ts ≡ turn here (control_name s x) (turn_phrase s x body) s k ts
  turn_code k ts =
      ap (λ c. coding.code c (place_in s here) instr.the_value k (phrase_in (inside s here x) (node_in body (inside s here x)))) (codes_in_turn s ts here x fits ∙ ap (turn_context (coding_context s ts here)) (sym (control_named s x fits had)))
      ∙ ap (λ p. coding.code (turn_context (coding_context s ts here) (control_name s x)) (place_in s here) instr.the_value k p) (sym turn_same)

-- with its control name declared, the body may be coded
turn_declared : (e : Emitter) (here : Here) (x : ℕ) (body : Node) → IsCodableTurn e x body → IsCodable (record e { symbols = with_name e.symbols x (control_standing (turn_entry here)) }) (node_in body)
turn_declared e here x body r =
    let s : Scene = scene e in
    record {
      fits = record {
        scene = turn_fits s x (turn_entry here) r.fits.scene r.knows.0 (fresh_left s (control_info (numbered (numbers_in s).names x)) (infos (node_in body s)) r.fresh);
        code = r.fits.code;
      };
      fresh = turn_fresh s x (turn_entry here) (infos (node_in body s)) r.fresh;
      knows = r.knows.1;
      begun = r.begun;
      suits = turn_suits s here x body r.fits.scene r.knows.0 r.suits;
    }

pub turn_ready : (e : Emitter) (here : Here) (x p : ℕ) (body : Node) (v : SymbolsView) → p ≡ here.entries + 1 → v ≡ with_name e.symbols x (control_standing (record { level = here.level; position = p })) → IsCodableTurn e x body → IsCodable (record e { symbols = v }) (node_in body)
turn_ready e here x p body v q is r =
    subst (λ (w : SymbolsView). IsCodable (record e { symbols = w }) (node_in body)) (sym (is ∙ ap (λ k. with_name e.symbols x (control_standing (record { level = here.level; position = k }))) q)) (turn_declared e here x body r)

turn_coded : {a b : Emitter} {m : ℕ} (here : Here) (x : ℕ) (body : Node) (w : SymbolsView) → IsCodableTurn a x body → CodesPhrase (record a { symbols = with_name a.symbols x (control_standing (turn_entry here)) }) b (with_entries here 2) mode.Value (phrase_in (inside (scene a) here x) (node_in body (inside (scene a) here x))) m → w ≡ taken_back b.symbols (mark_of a.symbols) → CodesTurn a (record b { symbols = w }) here x body (m + 1)
turn_coded {a} {b} {m} here x body w r part q =
    codes_most _ _ more
    (codes_as (turn here (control_name (scene a) x) (turn_phrase (scene a) x body) (scene a) (next a)) _ (λ ts h. turn_code (scene a) here x body r.fits.scene r.knows.0 (next a) ts) refl
    (codes_symbols a.symbols w back part))
  where
    back : w ≡ a.symbols
    back = q ∙ ap (λ (t : Scene). taken_back t.symbols (mark_of a.symbols)) part.stays.scene ∙ turn_taken_back a.symbols x (control_standing (turn_entry here))

    more : m + 1 ≡ 1 + marks (turn_phrase (scene a) x body)
    more = ap (λ k. k + 1) (part.most ∙ ap marks (sym (turn_same (scene a) here x body r.fits.scene r.knows.0))) ∙ omega arith

pub turn_done : {a b : Emitter} {m : ℕ} (here inner : Here) (x p n : ℕ) (body : Node) (v w : SymbolsView) (mark : SymbolMark) → IsCodableTurn a x body → mark ≡ mark_of a.symbols → p ≡ here.entries + 1 → v ≡ with_name a.symbols x (control_standing (record { level = here.level; position = p })) → inner ≡ with_entries here 2 → CodesNode (record a { symbols = v }) b inner mode.Value (node_in body) m → w ≡ taken_back b.symbols mark → n ≡ m + 1 → CodesTurn a (record b { symbols = w }) here x body n
turn_done {a} {b} {m} here inner x p n body v w mark r q1 q2 q3 q4 part q5 q6 =
    let named : v ≡ with_name a.symbols x (control_standing (turn_entry here)) = q3 ∙ ap (λ k. with_name a.symbols x (control_standing (record { level = here.level; position = k }))) q2 in
    let told : CodesNode (record a { symbols = with_name a.symbols x (control_standing (turn_entry here)) }) b (with_entries here 2) mode.Value (node_in body) m =
    subst (λ (h : Here). CodesNode (record a { symbols = with_name a.symbols x (control_standing (turn_entry here)) }) b h mode.Value (node_in body) m) q4
    (subst (λ (u : SymbolsView). CodesNode (record a { symbols = u }) b inner mode.Value (node_in body) m) named part) in
    subst (λ k. CodesTurn a (record b { symbols = w }) here x body k) (sym q6) (turn_coded here x body w r told (q5 ∙ ap (taken_back b.symbols) q1))
