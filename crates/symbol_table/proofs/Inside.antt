-- The contexts in a block, in a body and in the body of a FOR are those of the definitions.
use Rattle.std.proofs.Common.{◌≡◌, ℕ, ◌+◌, List, [], ◌∷◌, ◌++◌, length, map, refl, sym, ap, ◌∙◌, arith}
use Rattle.std.proofs.lemmas.List.{append-nil, length-map}
use Rattle.value_ops.specs.declared.places.Place.{Place}
use Rattle.algolw_tree.specs.declared.programs.TypedDecl.{TypedDecl, Simple, Array', Proc, Class}
use Rattle.algolw_tree.specs.declared.programs.TypedFormal.{TypedFormal}
use Rattle.algolw_tree.specs.declared.programs.TypedItem.{TypedItem}
use Rattle.algolw_typing.specs.Known.{KnowsDecls}
use Rattle.algolw_typing.specs.ProgramView.{formal_view, numbered}
use Rattle.program_meaning.specs.Phrases.{Decls, Items}
use Rattle.program_meaning.specs.Translating as translating
use Rattle.program_meaning.specs.Translating.{decls_of, items_of, with_known}
use Rattle.phrase_code.specs.Sizes as kinds
use Rattle.phrase_code.specs.Sizes.{Known, block_known, decls_size}
use Rattle.phrase_code.specs.Coding as coding
use Rattle.phrase_code.specs.Coding.{Stand, block_context, body_context, known, known_of, turn_context}
use Rattle.phrase_code.proofs.Sizes.{known_formals}
use Rattle.stack_code.specs.CodeView as code
use Rattle.stack_code.specs.CodeView.{name_view}
use Rattle.stack_code.specs.declared.heads.Formal.{Formal}
use Rattle.symbol_table.specs.declared.here.Here.{Here}
use Rattle.symbol_table.specs.declared.standings.Entry.{Entry}
use Rattle.symbol_table.specs.declared.standings.Standing.TheVariants as standing
use Rattle.symbol_table.specs.Blocks.{all_formals, block_names, decls_fields, decls_formals, entry_count, first_cursor, label_names, procedure_count, with_block}
use Rattle.symbol_table.specs.Contexts.{ClassesHad, Scene, SceneFits, coding_context, in_block, in_body, in_turn, info_of, knowns, numbers_in, phrase_context, place_of, stands}
use Rattle.symbol_table.specs.Heres.{inner_text, with_entries}
use Rattle.symbol_table.specs.Parts.{decls_in, items_in}
use Rattle.symbol_table.specs.Standings.{Names}
use Rattle.symbol_table.specs.Symbols.{SymbolsView, with_formals}
use Rattle.symbol_table.specs.Targets.{DeclsStand, ItemsStand}
use Rattle.symbol_table.proofs.Codes.{decls_at, decls_at_known, decls_stand, decls_there, entries_same, formals_stand, items_at, items_at_known, items_stand, items_there, stands_as_before}
use Rattle.symbol_table.proofs.Phrases.{decls_knowns, formals_knowns, knowns_as_before, labels_knowns}
use Rattle.symbol_table.proofs.Places.{numbered_place}
use Rattle.symbol_table.proofs.Placing.{ClassesOf, classes_of}

-- ---- contexts

same_phrases : (s : Scene) (a b : List translating.Known) → a ≡ b → ◌≡◌ {A = translating.Context} (record { names = map info_of s.given.names; known = a }) (record { names = map info_of s.given.names; known = b })
same_phrases s a b e = ap (λ (ks : List translating.Known). let c : translating.Context = record { names = map info_of s.given.names; known = ks } in c) e

same_codes : (level : ℕ) (a b : List Stand) (n m : ℕ) → a ≡ b → n ≡ m → ◌≡◌ {A = coding.Context} (record { names = a; level = level; count = n }) (record { names = b; level = level; count = m })
same_codes level a b n m e f =
    ap (λ (l : List Stand). let c : coding.Context = record { names = l; level = level; count = n } in c) e
    ∙ ap (λ (k : ℕ). let c : coding.Context = record { names = b; level = level; count = k } in c) f

-- ---- a block

classes_inside : (s : Scene) (here : Here) (target : ℕ) (all : List TypedDecl) (items : List TypedItem) (decls : List TypedDecl) → ClassesOf s decls → ClassesOf (in_block s here target all items) decls
classes_inside s here target all items [] k = tt
classes_inside s here target all items (Simple t xs ∷ rest) k = (tt, classes_inside s here target all items rest k.1)
classes_inside s here target all items (Array' t xs shape bounds ∷ rest) k = (tt, classes_inside s here target all items rest k.1)
classes_inside s here target all items (Proc p ∷ rest) k = (tt, classes_inside s here target all items rest k.1)
classes_inside s here target all items (Class x ∷ rest) k = (record { class = k.0.class; is = k.0.is; there = k.0.there }, classes_inside s here target all items rest k.1)

-- phrases in a block
pub phrases_in_block : (s : Scene) (here : Here) (target : ℕ) (decls : List TypedDecl) (items : List TypedItem) → SceneFits s → KnowsDecls (numbers_in s).names s.given.class_places (decls_in (numbers_in s) decls) → ClassesHad s.given.class_places (decls_in (numbers_in s) decls) → phrase_context (in_block s here target decls items) ≡ with_known (phrase_context s) (translating.decls_known (decls_in (numbers_in s) decls))
phrases_in_block s here target decls items fits kd kc =
    let v : SymbolsView = with_block s.symbols here target decls items in
    let labels : Names = label_names here.level (here.entries + entry_count decls) (target + procedure_count decls) items s.symbols.names in
    let whole = ap (λ fs. s.symbols.fields ++ fs) (sym (append-nil (decls_fields decls))) in
    same_phrases s (knowns (in_block s here target decls items) (block_names s.symbols here target decls items s.symbols.names)) (translating.decls_known (decls_in (numbers_in s) decls) ++ knowns s s.symbols.names)
    (decls_knowns (in_block s here target decls items) here.level (first_cursor s.symbols here target) decls s.symbols.fields [] (classes_inside s here target decls items decls (classes_of s fits decls kd kc)) whole refl labels
    ∙ ap (λ ks. translating.decls_known (decls_in (numbers_in s) decls) ++ ks)
    (labels_knowns (in_block s here target decls items) here.level (here.entries + entry_count decls) (target + procedure_count decls) items s.symbols.names
    ∙ knowns_as_before s v (decls_fields decls) refl s.symbols.names fits.names))

module _ (s : Scene) (ts : List ℕ) (here : Here) (target : ℕ) (decls : List TypedDecl) (items : List TypedItem) (pc : translating.Context) (fits : SceneFits s) (kd : KnowsDecls (numbers_in s).names s.given.class_places (decls_in (numbers_in s) decls)) (written : pc.names ≡ map info_of s.given.names) where
  abbrev inside : Scene
  inside = in_block s (with_entries here 1) target decls items

  abbrev outside : coding.Context
  outside = coding_context s ts here

  abbrev block_decls : Decls
  block_decls = decls_of pc (decls_in (numbers_in s) decls)

  abbrev block_items : Items
  block_items = items_of pc (items_in (numbers_in s) items)

  abbrev mark : ℕ
  mark = here.entries + 1 + entry_count decls

  stands_inside : stands inside ts inside.symbols.names ≡ decls_at ts here.level (here.entries + 1) target block_decls (items_at ts here.level mark (target + procedure_count decls) block_items outside.names)
  stands_inside =
      let v : SymbolsView = with_block s.symbols (with_entries here 1) target decls items in
      let labels : Names = label_names here.level mark (target + procedure_count decls) items s.symbols.names in
      let whole = ap (λ fs. s.symbols.formals ++ fs) (sym (append-nil (decls_formals decls))) in
      decls_stand s fits v ts pc written s.symbols.classes here.level (first_cursor s.symbols (with_entries here 1) target) decls s.symbols.formals [] kd whole refl labels
      ∙ ap (λ (l : List Stand). decls_at ts here.level (here.entries + 1) target block_decls l)
      (items_stand inside ts pc here.level mark (target + procedure_count decls) items s.symbols.names
      ∙ ap (λ (l : List Stand). items_at ts here.level mark (target + procedure_count decls) block_items l) (stands_as_before s v (decls_formals decls) refl ts s.symbols.names fits.names))

  -- what is known of the names in a block, wherever procedures and items stand
  pub known_in_block : (there : Here) → known (coding_context inside ts there) ≡ block_known block_decls block_items (known outside)
  known_in_block there =
      ap (map known_of) stands_inside
      ∙ decls_at_known ts here.level (here.entries + 1) target block_decls (items_at ts here.level mark (target + procedure_count decls) block_items outside.names)
      ∙ ap (λ (l : List Known). kinds.decls_known block_decls l) (items_at_known ts here.level mark (target + procedure_count decls) block_items outside.names)

  -- code in a block whose declarations' code begins at k
  pub codes_in_block : (k : ℕ) → DeclsStand (known outside) (block_known block_decls block_items (known outside)) k block_decls ts target → ItemsStand (block_known block_decls block_items (known outside)) (k + (decls_size (known outside) (block_known block_decls block_items (known outside)) block_decls + 1)) block_items ts (target + procedure_count decls) → coding_context inside ts (with_entries here (2 + entry_count decls)) ≡ block_context outside k block_decls block_items
  codes_in_block k d i =
      let all : List Known = block_known block_decls block_items (known outside) in
      let n = entries_same pc (numbers_in s) decls in
      let same_mark : mark ≡ here.entries + 1 + coding.entry_count block_decls = omega (arith, n) in
      same_codes here.level (stands inside ts inside.symbols.names) (block_context outside k block_decls block_items).names _ _
      (stands_inside
      ∙ decls_there ts (known outside) all here.level (here.entries + 1) k target block_decls (items_at ts here.level mark (target + procedure_count decls) block_items outside.names) d
      ∙ ap (λ (l : List Stand). coding.decl_stands (known outside) all here.level (here.entries + 1) k block_decls l)
      (items_there ts all here.level mark (k + (decls_size (known outside) all block_decls + 1)) (target + procedure_count decls) block_items outside.names i
      ∙ ap (λ (m : ℕ). coding.item_stands all here.level m (k + (decls_size (known outside) all block_decls + 1)) block_items outside.names) same_mark))
      (omega (arith, n))

-- ---- a body

pub phrases_in_body : (s : Scene) (level : ℕ) (fs : List TypedFormal) → SceneFits s → phrase_context (in_body s level (all_formals fs)) ≡ with_known (phrase_context s) (translating.formals_known (map (formal_view (numbers_in s)) fs))
phrases_in_body s level fs fits =
    let v : SymbolsView = with_formals s.symbols level (all_formals fs) in
    same_phrases s _ (translating.formals_known (map (formal_view (numbers_in s)) fs) ++ knowns s s.symbols.names)
    (formals_knowns (in_body s level (all_formals fs)) level 1 fs s.symbols.names
    ∙ ap (λ ks. translating.formals_known (map (formal_view (numbers_in s)) fs) ++ ks) (knowns_as_before s v [] (sym (append-nil s.symbols.fields)) s.symbols.names fits.names))

pub codes_in_body : (s : Scene) (ts : List ℕ) (here : Here) (fs : List Formal) → SceneFits s → coding_context (in_body s (here.level + 1) fs) ts (inner_text here (length fs)) ≡ body_context (coding_context s ts here) (map (code.formal_view s.given) fs)
codes_in_body s ts here fs fits =
    let v : SymbolsView = with_formals s.symbols (here.level + 1) fs in
    let n : length (map (code.formal_view s.given) fs) ≡ length fs = length-map fs (code.formal_view s.given) in
    same_codes (here.level + 1) _ (coding.formal_stands (here.level + 1) 1 (map (code.formal_view s.given) fs) (stands s ts s.symbols.names)) _ _
    (formals_stand (in_body s (here.level + 1) fs) ts (here.level + 1) 1 fs s.symbols.names
    ∙ ap (λ (l : List Stand). coding.formal_stands (here.level + 1) 1 (map (code.formal_view s.given) fs) l) (stands_as_before s v [] (sym (append-nil s.symbols.formals)) ts s.symbols.names fits.names))
    (omega (arith, n))

pub known_in_body : (s : Scene) (ts : List ℕ) (here : Here) (fs : List Formal) → SceneFits s → known (coding_context (in_body s (here.level + 1) fs) ts (inner_text here (length fs))) ≡ kinds.formals_known (map (code.formal_view s.given) fs) (known (coding_context s ts here))
known_in_body s ts here fs fits = ap known (codes_in_body s ts here fs fits) ∙ known_formals (here.level + 1) 1 (map (code.formal_view s.given) fs) (stands s ts s.symbols.names)

-- ---- the body of a FOR

-- the entry of its control name
abbrev pub turn_entry : Here → Entry
turn_entry here = record { level = here.level; position = here.entries + 1 }

pub phrases_in_turn : (s : Scene) (n : ℕ) (e : Entry) → SceneFits s → phrase_context (in_turn s n e) ≡ with_known (phrase_context s) (record { place = numbered (numbers_in s).names n; is = translating.a_control } ∷ [])
phrases_in_turn s n e fits =
    let v : SymbolsView = record s.symbols { names = (n, standing.Control e) ∷ s.symbols.names } in
    same_phrases s _ (record { place = numbered (numbers_in s).names n; is = translating.a_control } ∷ knowns s s.symbols.names)
    (ap (λ (p : Place). let k : translating.Known = record { place = p; is = translating.a_control } in k ∷ knowns (in_turn s n e) s.symbols.names) (sym (numbered_place s n))
    ∙ ap (λ (ks : List translating.Known). let k : translating.Known = record { place = numbered (numbers_in s).names n; is = translating.a_control } in k ∷ ks) (knowns_as_before s v [] (sym (append-nil s.symbols.fields)) s.symbols.names fits.names))

pub codes_in_turn : (s : Scene) (ts : List ℕ) (here : Here) (n : ℕ) → SceneFits s → coding_context (in_turn s n (turn_entry here)) ts (with_entries here 2) ≡ turn_context (coding_context s ts here) (name_view s.given n)
codes_in_turn s ts here n fits =
    let v : SymbolsView = record s.symbols { names = (n, standing.Control (turn_entry here)) ∷ s.symbols.names } in
    same_codes here.level _ (turn_context (coding_context s ts here) (name_view s.given n)).names _ _
    (ap (λ (l : List Stand). let y : Stand = record { place = place_of s n; kind = kinds.a_variable; level = here.level; position = here.entries + 1; target = 0 } in y ∷ l) (stands_as_before s v [] (sym (append-nil s.symbols.formals)) ts s.symbols.names fits.names))
    refl

pub known_in_turn : (s : Scene) (ts : List ℕ) (here : Here) (n : ℕ) → SceneFits s → known (coding_context (in_turn s n (turn_entry here)) ts (with_entries here 2)) ≡ kinds.control_known (name_view s.given n) (known (coding_context s ts here))
known_in_turn s ts here n fits = ap known (codes_in_turn s ts here n fits)
