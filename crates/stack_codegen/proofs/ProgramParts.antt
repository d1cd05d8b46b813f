-- A whole program: what its code begins with, and that it is coded when its block is.
use Rattle.std.proofs.Common.{◌≡◌, ℕ, ◌<◌, List, [], ◌∷◌, ◌++◌, length, map, Option, refl, sym, ap, ◌∙◌, subst, arith}
use Rattle.std.specs.List.{All}
use Rattle.std.specs.declared.alloc.Global.{Global}
use Rattle.std.specs.declared.vec.Vec.{Vec}
use Rattle.std.proofs.lemmas.List.{get_or_past, length-map}
use Rattle.std.proofs.lemmas.List.Elements.{All-nil}
use Rattle.value_ops.specs.declared.places.Place.{Place}
use Rattle.value_ops.specs.declared.values.ClassId.{ClassId}
use Rattle.algolw_tree.specs.declared.programs.NameInfo.{NameInfo}
use Rattle.algolw_tree.specs.declared.programs.Node.{Node}
use Rattle.algolw_tree.specs.declared.programs.Program.{Program}
use Rattle.algolw_typing.specs.Known.{Knows}
use Rattle.algolw_typing.specs.Naming.{Class}
use Rattle.algolw_typing.specs.ProgramView.{Numbers, class_in_table, node_view, numbered, numbers_of}
use Rattle.algolw_typing.specs.Programs.{TypedProgram}
use Rattle.algolw_typing.specs.Types.{ValueType}
use Rattle.program_meaning.specs.Phrases.{Phrase}
use Rattle.program_meaning.specs.Translating.{program_phrase}
use Rattle.program_soundness.specs.Tables.{infos}
use Rattle.program_soundness.proofs.Records.{place_read}
use Rattle.phrase_code.specs.Coding as coding
use Rattle.phrase_code.specs.Coding.{◌▸◌, one, outermost, program_code}
use Rattle.phrase_code.specs.Marks.{marks}
use Rattle.compilable_programs.specs.Begun.{Begun}
use Rattle.compilable_programs.specs.Compiled.{IsCompilable, class_places, name_places}
use Rattle.compilable_programs.specs.Suits.{Suits}
use Rattle.stack_code.specs.Code.{Code}
use Rattle.stack_code.specs.CodeView.{CodeFits, CodeView, Given, GivenFits, InstrFits, ProcedureFits, TextFits, code_view, coded_view, statement_view}
use Rattle.stack_code.specs.Instr as instr
use Rattle.stack_code.specs.Linking.{linked, linked_added, linked_coded}
use Rattle.stack_code.specs.Making.{given_by, no_instructions, nothing_added, with_marks}
use Rattle.stack_code.specs.declared.code.ProgramTables.{ProgramTables}
use Rattle.stack_code.specs.Run.{nowhere}
use Rattle.stack_code.specs.declared.instructions.Coded as held_coded
use Rattle.stack_code.specs.declared.instructions.Instr.TheVariants as held
use Rattle.stack_code.specs.declared.instructions.Mode.TheVariants as mode
use Rattle.symbol_table.specs.declared.here.Here.{Here}
use Rattle.symbol_table.specs.Contexts.{AreFresh, Scene, SceneFits, coding_context, numbers_in}
use Rattle.symbol_table.specs.Symbols.{SymbolsView, only_standard}
use Rattle.symbol_table.proofs.Started.{begun, begun_fits, begun_fresh, begun_phrase, class_names_known}
use Rattle.symbol_table.proofs.Written.{coded_places}
use Rattle.code_emitter.specs.declared.emitter.Emitter.{Emitter}
use Rattle.code_emitter.specs.Appending.{appended, final_targets}
use Rattle.code_emitter.specs.Parts.{Codes, CodesPhrase, code_at, linked_code, next, none_own, phrase_in, place_in, scene}
use Rattle.code_emitter.proofs.Composing.{meets_final}
use Rattle.code_emitter.proofs.Joining.{codes_is, codes_then_plain}
use Rattle.stack_codegen.specs.Codable.{IsCodable, NodeSuits, node_in}
use Rattle.stack_codegen.specs.Programs.{coded_name, given_of, outermost_here}

-- ---- what the code begins with

-- code without instructions fits, where what numbers stand for does
pub nothing_fits : (g : Given) (n : ℕ) → GivenFits g → CodeFits (record { instructions = []; marks = n; given = g; added = nothing_added })
nothing_fits g n h = record {
  given = h;
  instructions = All-nil (λ (i : held_coded.Coded). InstrFits g nothing_added i.does);
  procedures = All-nil (ProcedureFits g);
  texts = All-nil (TextFits g);
}

length-mapped : (cs : List Class) → length {A = List ℕ × List (List ℕ × ValueType)} (map (λ (c : Class). (c.name, c.fields)) cs) ≡ length cs
length-mapped [] = refl
length-mapped (c ∷ cs) = let e = length-mapped cs in omega (arith, e)

module _ (p : Program) (x : TypedProgram) (may : IsCompilable p x) where
  -- where its classes are declared
  places_are : (given_of p).class_places ≡ class_places x
  places_are = ap (λ (names : List NameInfo). map (numbered (map (λ i. i.place) names)) p.class_names.items) may.holds.names ∙ may.holds.class_names

  names_are : (given_of p).names ≡ map coded_name x.names
  names_are = ap (map coded_name) may.holds.names

  pub class_names_there : All (λ (n : ℕ). n < length p.names.items) p.class_names.items
  class_names_there =
      let many : length (name_places x) ≡ length p.names.items = length-map x.names (λ (i : NameInfo). i.place) ∙ ap length (sym may.holds.names) in
      subst (λ k. All (λ (n : ℕ). n < k) p.class_names.items) many (class_names_known p x may)

  as_many : length (class_places x) ≡ length p.classes.classes
  as_many =
      let table : length (map (class_in_table (numbers_of p x)) p.classes.classes) ≡ length p.classes.classes = length-map p.classes.classes (class_in_table (numbers_of p x)) in
      let placed : length (class_places x) ≡ length x.classes = length-map x.classes (λ (c : Class). c.place) in
      let same = ap length may.holds.classes in
      let named = length-mapped x.classes in
      omega (arith, table, placed, same, named)

  pub program_given_fits : GivenFits (given_of p)
  program_given_fits = record {
    counted = ap length places_are ∙ as_many;
    apart = λ n k l m e.
        (let many : length (given_of p).class_places ≡ length (class_places x) = ap length places_are in
        may.classes_apart n k (omega (arith, l, many)) (omega (arith, m, many))
        (ap (λ ps. numbered ps n) (sym places_are) ∙ place_read (numbered (given_of p).class_places n) (numbered (given_of p).class_places k) e ∙ ap (λ ps. numbered ps k) places_are));
    members =
        (let many : length x.classes ≡ length (given_of p).class_places = sym (ap length places_are ∙ length-map x.classes (λ (c : Class). c.place)) in
        subst (λ k. All (All (λ (c : ClassId). c.0 < k)) p.classes.sets) many may.holds.members);
  }

  abbrev first : Scene
  first = begun (given_of p) p.class_names.items

  -- its tree, as it is in memory
  numbers_same : numbers_in first ≡ numbers_of p x
  numbers_same =
      ap (λ (names : List Place). let ns : Numbers = record { names = names; classes = (given_of p).class_places; sets = p.classes.sets; statements = p.statements.items } in ns) (coded_places p.names.items)
      ∙ ap (λ (places : List Place). let ns : Numbers = record { names = map (λ (i : NameInfo). i.place) p.names.items; classes = places; sets = p.classes.sets; statements = p.statements.items } in ns) places_are

  root_same : node_in p.root first ≡ x.root
  root_same = ap (λ (ns : Numbers). node_view ns p.root) numbers_same ∙ may.holds.root

  pub program_same : program_phrase x ≡ phrase_in first (node_in p.root first)
  program_same = begun_phrase p x may (given_of p) names_are ∙ ap (phrase_in first) (sym root_same)

  names_same : (numbers_in first).names ≡ name_places x
  names_same = ap (λ (ns : Numbers). ns.names) numbers_same ∙ ap (map (λ (i : NameInfo). i.place)) may.holds.names

  -- where nothing is coded yet
  program_there : (e : Emitter) (n : ℕ) → e.code ≡ record { instructions = []; marks = n; given = given_of p; added = nothing_added } → e.symbols ≡ only_standard (length p.names.items) p.class_names.items → scene e ≡ first
  program_there e n q r =
      let many : length p.names.items ≡ length (given_of p).names = sym (length-map p.names.items coded_name) in
      ap (λ (c : CodeView). let s : Scene = record { given = c.given; symbols = e.symbols } in s) q
      ∙ ap (λ (v : SymbolsView). let s : Scene = record { given = given_of p; symbols = v } in s) (r ∙ ap (λ k. only_standard k p.class_names.items) many)

  -- it may be coded
  pub program_codable : (e : Emitter) (n : ℕ) → e.code ≡ record { instructions = []; marks = n; given = given_of p; added = nothing_added } → e.symbols ≡ only_standard (length p.names.items) p.class_names.items → IsCodable e (node_in p.root)
  program_codable e n q r =
      let there : scene e ≡ first = program_there e n q r in
      let fresh : AreFresh first (infos (node_in p.root first)) = subst (λ t. AreFresh first (infos t)) (sym root_same) (begun_fresh p x may (given_of p) names_are) in
      let knows : Knows (numbers_in first).names (given_of p).class_places (node_in p.root first) =
      subst (λ ps. Knows ps (given_of p).class_places (node_in p.root first)) (sym names_same)
      (subst (λ ps. Knows (name_places x) ps (node_in p.root first)) (sym places_are) (subst (λ t. Knows (name_places x) (class_places x) t) (sym root_same) may.knows)) in
      let starts : Begun (given_of p).class_places (node_in p.root first) = subst (λ ps. Begun ps (node_in p.root first)) (sym places_are) (subst (λ t. Begun (class_places x) t) (sym root_same) may.begun) in
      let suits : NodeSuits first (node_in p.root first) = subst (λ a. Suits [] a) program_same may.suits in
      record {
        fits = record {
          scene = subst SceneFits (sym there) (begun_fits p x may (given_of p) names_are places_are refl);
          code = subst CodeFits (sym q) (nothing_fits (given_of p) n program_given_fits);
        };
        fresh = subst (λ (s : Scene). AreFresh s (infos (node_in p.root s))) (sym there) fresh;
        knows = subst (λ (s : Scene). Knows (numbers_in s).names s.given.class_places (node_in p.root s)) (sym there) knows;
        begun = subst (λ (s : Scene). Begun s.given.class_places (node_in p.root s)) (sym there) starts;
        suits = subst (λ (s : Scene). NodeSuits s (node_in p.root s)) (sym there) suits;
      }

  -- the same, as it is made
  begun_as : (e : Emitter) (tables : ProgramTables) (code : CodeView) → given_by tables ≡ given_of p → code ≡ no_instructions tables → e.code ≡ code → e.code ≡ record { instructions = []; marks = 0; given = given_of p; added = nothing_added }
  begun_as e tables code g q r = r ∙ q ∙ ap (λ (h : Given). let c : CodeView = record { instructions = []; marks = 0; given = h; added = nothing_added } in c) g

  pub program_ready : (e : Emitter) (tables : ProgramTables) (code : CodeView) → given_by tables ≡ given_of p → code ≡ no_instructions tables → e.code ≡ code → e.symbols ≡ only_standard (length p.names.items) p.class_names.items → IsCodable e (node_in p.root)
  program_ready e tables code g q r s = program_codable e 0 (begun_as e tables code g q r) s

  pub program_coded : (e : Emitter) (tables : ProgramTables) (code : CodeView) → given_by tables ≡ given_of p → code ≡ no_instructions tables → e.code ≡ code → e.symbols ≡ only_standard (length p.names.items) p.class_names.items → program_code (phrase_in (scene e) (node_in p.root (scene e))) ≡ program_code (program_phrase x)
  program_coded e tables code g q r s = ap (λ (t : Scene). program_code (phrase_in t (node_in p.root t))) (program_there e 0 (begun_as e tables code g q r) s) ∙ ap program_code (sym program_same)

-- names stand for nothing yet
pub program_outermost : (e : Emitter) (count : ℕ) (names ts : List ℕ) → e.symbols ≡ only_standard count names → coding_context (scene e) ts (outermost_here e.code.given) ≡ outermost
program_outermost e count names ts q = ap (λ (v : SymbolsView). let s : Scene = record { given = e.code.given; symbols = v } in coding_context s ts (outermost_here e.code.given)) q

-- ---- its end

-- no statement
no_statement : (g : Given) → statement_view g (length g.statements) ≡ nowhere
no_statement g = get_or_past g.statements (length g.statements) nowhere (omega arith)

pub program_done : {a b c : Emitter} {m : ℕ} (d : Emitter) (here : Here) (node : Node) → a.code.instructions ≡ [] → ((ts : List ℕ) → coding_context (scene a) ts (outermost_here a.code.given) ≡ outermost) → here ≡ outermost_here a.code.given
    → CodesPhrase a b here mode.Value (phrase_in (scene a) (node_in node (scene a))) m → c ≡ appended b here held.Stop → d.code ≡ with_marks c.code m → d.targets ≡ c.targets
    → (made : CodeView) → made ≡ linked (final_targets d.targets.items) d.code → code_view made ≡ program_code (phrase_in (scene a) (node_in node (scene a)))
program_done {a} {b} {c} {m} d here node empty outer at part stop marked same made is =
    let s : Scene = scene a in
    let x : Phrase = phrase_in s (node_in node s) in
    let ts : List ℕ = final_targets c.targets.items in
    let whole : Codes none_own a c (λ ts. code_at s here mode.Value (next a) x ts ▸ one (place_in s here) instr.Stop) (marks x) m = codes_is stop (codes_then_plain here held.Stop refl tt part) in
    let placed : place_in s here ≡ nowhere = ap (place_in s) at ∙ no_statement a.code.given in
    let context : coding_context s ts here ≡ outermost = ap (coding_context s ts) at ∙ outer ts in
    let first : next a ≡ 0 = ap length empty in
    let codes : linked_code ts c ≡ coding.code outermost nowhere instr.the_value 0 x ▸ one nowhere instr.Stop =
    whole.behind ts (meets_final c.targets.items)
    ∙ ap (λ is. map (coded_view a.code.given (linked_added ts a.code.added)) (map (linked_coded ts) is) ++ (code_at s here mode.Value (next a) x ts ▸ one (place_in s here) instr.Stop)) empty
    ∙ ap (λ k. coding.code (coding_context s ts here) (place_in s here) instr.the_value k x ▸ one (place_in s here) instr.Stop) first
    ∙ ap (λ w. coding.code (coding_context s ts here) w instr.the_value 0 x ▸ one w instr.Stop) placed
    ∙ ap (λ k. coding.code k nowhere instr.the_value 0 x ▸ one nowhere instr.Stop) context in
    ap code_view (is ∙ ap (λ (v : Vec (Option ℕ) Global). linked (final_targets v.items) d.code) same ∙ ap (linked ts) marked)
    ∙ ap (λ is. let k : Code = record { instructions = is; marks = m } in k) codes
    ∙ ap (λ n. let k : Code = record { instructions = coding.code outermost nowhere instr.the_value 0 x ▸ one nowhere instr.Stop; marks = n } in k) part.most

-- what numbers stand for is what it was before
pub program_given : {k : ℕ} (a b c d : Emitter) → b.code.given ≡ a.code.given → c.code.given ≡ b.code.given → d.code ≡ with_marks c.code k → (made : CodeView) → made ≡ linked (final_targets d.targets.items) d.code → made.given ≡ a.code.given
program_given a b c d part stop marked made is = ap (λ (v : CodeView). v.given) (is ∙ ap (linked (final_targets d.targets.items)) marked) ∙ stop ∙ part

pub here_outermost : (g : Given) (n : ℕ) → n ≡ length g.statements → record { statement = n; level = 0; entries = 0 } ≡ outermost_here g
here_outermost g n q = ap (λ k. let h : Here = record { statement = k; level = 0; entries = 0 } in h) q
