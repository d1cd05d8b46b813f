-- A block is coded when what stands in it is.
use Rattle.std.proofs.Common.{◌≡◌, ℕ, ◌+◌, ◌<◌, max, List, [], ◌∷◌, ◌++◌, length, replicate, refl, sym, ap, ◌∙◌, subst, arith}
use Rattle.std.specs.Prelude.{Option, Some, None}
use Rattle.std.specs.List.{All}
use Rattle.std.specs.Option.{option_map}
use Rattle.std.specs.declared.vec.Vec.{Vec}
use Rattle.std.specs.declared.alloc.Global.{Global}
use Rattle.std.proofs.lemmas.List.{append_assoc, length-append, length-replicate}
use Rattle.std.proofs.lemmas.List.Elements.{All-cons, All-nil}
use Rattle.value_ops.specs.declared.places.Place.{Place}
use Rattle.algolw_tree.specs.declared.programs.Node.{Node}
use Rattle.algolw_tree.specs.declared.programs.TypedDecl.{TypedDecl, Simple, Array', Proc, Class}
use Rattle.algolw_tree.specs.declared.programs.TypedItem.{TypedItem}
use Rattle.algolw_typing.specs.Known.{KnowsDecls, KnowsItems}
use Rattle.algolw_typing.specs.Typed as typed
use Rattle.program_meaning.specs.Phrases as phrases
use Rattle.program_meaning.specs.Phrases.{block_places}
use Rattle.program_meaning.specs.Translating as translating
use Rattle.program_meaning.specs.Translating.{decls_of, items_of, with_known}
use Rattle.program_soundness.specs.Tables.{Info, decls_info, decls_infos, items_infos, labels_info}
use Rattle.phrase_code.specs.Coding as coding
use Rattle.phrase_code.specs.Coding.{◌▸◌, block_context, code_decls, code_items, known, one, stand_at}
use Rattle.phrase_code.specs.Marks.{decls_marks, items_marks, marks}
use Rattle.phrase_code.specs.Sizes.{Known, begin_size, block_known, decls_size, kind_at}
use Rattle.compilable_programs.specs.Suits.{DeclsAvoid, DeclsSuit, ItemsSuit}
use Rattle.stack_code.specs.Code as code
use Rattle.stack_code.specs.CodeView.{CodeFits, statement_view}
use Rattle.stack_code.specs.Instr as instr
use Rattle.stack_code.specs.declared.instructions.Instr.TheVariants as held
use Rattle.stack_code.specs.declared.instructions.Mode.{Mode}
use Rattle.symbol_table.specs.declared.here.Here.{Here}
use Rattle.symbol_table.specs.declared.standings.Standing.{Standing}
use Rattle.symbol_table.specs.Blocks.{block_names, entry_count, formals_in, procedure_count, with_block}
use Rattle.symbol_table.specs.Contexts.{AreFresh, ClassesHad, Scene, SceneFits, block_infos, coding_context, in_block, numbers_in, phrase_context}
use Rattle.symbol_table.specs.Heres.{in_statement, with_entries}
use Rattle.symbol_table.specs.Parts.{decls_in, items_in}
use Rattle.symbol_table.specs.Symbols.{SymbolsView, mark_of, taken_back}
use Rattle.symbol_table.specs.Targets.{DeclsStand, ItemsStand}
use Rattle.symbol_table.proofs.Cursors.{length-formals}
use Rattle.symbol_table.proofs.Fitting.{block_fits, block_fresh}
use Rattle.symbol_table.proofs.Fresh.{fresh_left, fresh_right}
use Rattle.symbol_table.proofs.Inside.{codes_in_block, known_in_block, phrases_in_block}
use Rattle.symbol_table.proofs.Procedures.{procedure_at, procedure_formals, procedure_found}
use Rattle.symbol_table.proofs.Requiring.{block_numbered, declared_had}
use Rattle.symbol_table.proofs.TakenBack.{block_taken_back}
use Rattle.code_emitter.specs.declared.emitter.Emitter.{Emitter}
use Rattle.code_emitter.specs.Appending.{appended, begun, with_targets}
use Rattle.code_emitter.specs.Parts.{Codes, Meets, code_at, linked_code, next, none_own, one_in, phrase_in, place_in, scene}
use Rattle.code_emitter.proofs.Composing.{known_anywhere, open_new, stays_targets}
use Rattle.code_emitter.proofs.Emitting.{joined_assoc, next_appended, targets_code}
use Rattle.code_emitter.proofs.Joining.{codes_as, codes_begun, codes_closed, codes_from, codes_front_plain, codes_is, codes_plain, codes_symbols, codes_then_plain}
use Rattle.code_emitter.proofs.Lines.{begun_codes}
use Rattle.stack_codegen.specs.Blocks.{AreDeclared, AreReserved, CodesScope, DeclIsDeclared, declared_size, decls_code, decls_phrase, items_phrase, scope_own}
use Rattle.stack_codegen.specs.Codable.{CodesNode, IsCodable, IsCodableDecls, IsCodableItems, sizes_known, with_kind}
use Rattle.stack_codegen.proofs.BlockNames.{block_beyond, block_kinds_beyond, decls_code_avoids, decls_size_avoids, decls_stand_avoid, decls_suit_avoids}

-- ---- what is declared

-- procedures are what they are declared as
declared_from : (s : Scene) (here : Here) (target : ℕ) (items : List TypedItem) (before after : List TypedDecl) → SceneFits (in_block s here target (before ++ after) items) → All (DeclIsDeclared (in_block s here target (before ++ after) items).symbols) after
declared_from s here target items before [] fits = All-nil (DeclIsDeclared (in_block s here target (before ++ []) items).symbols)
declared_from s here target items before (x ∷ rest) fits =
    let e : (before ++ x ∷ []) ++ rest ≡ before ++ x ∷ rest = append_assoc before (x ∷ []) rest in
    All-cons (DeclIsDeclared (in_block s here target (before ++ x ∷ rest) items).symbols) x rest (first x fits)
    (subst (λ ds. All (DeclIsDeclared (in_block s here target ds items).symbols) rest) e
    (declared_from s here target items (before ++ x ∷ []) rest (subst (λ ds. SceneFits (in_block s here target ds items)) (sym e) fits)))
  where
    first : (d : TypedDecl) → SceneFits (in_block s here target (before ++ d ∷ rest) items) → DeclIsDeclared (in_block s here target (before ++ d ∷ rest) items).symbols d
    first (Simple t xs) f = tt
    first (Array' t xs shape pairs) f = tt
    first (Class c) f = tt
    first (Proc p) f = record {
      procedure = procedure_at s.symbols here target before p;
      stands = procedure_found s here target before rest p items f;
      formals = procedure_formals s here target before rest p items;
      counted = sym (length-formals (formals_in p));
    }

-- ---- a block's own phrases

abbrev pub block_node : Node → List TypedDecl → List TypedItem → Scene → typed.Node
block_node node decls items = with_kind node (λ s. typed.Block (decls_in (numbers_in s) decls) (items_in (numbers_in s) items))

abbrev pub inner_context : List TypedDecl → Scene → translating.Context
inner_context decls s = with_known (phrase_context s) (translating.decls_known (decls_in (numbers_in s) decls))

abbrev pub own_decls : List TypedDecl → Scene → phrases.Decls
own_decls decls s = decls_of (inner_context decls s) (decls_in (numbers_in s) decls)

abbrev pub own_items : List TypedDecl → List TypedItem → Scene → phrases.Items
own_items decls items s = items_of (inner_context decls s) (items_in (numbers_in s) items)

-- its code, from behind its begin
abbrev pub block_form : Here → Place → phrases.Decls → phrases.Items → Scene → ℕ → List ℕ → List code.Coded
block_form here p ds is s k ts =
    let c : coding.Context = coding_context s ts here in
    let w : Place = place_in s here in
    one w (instr.EnterBlock p) ▸ code_decls (coding.with_entries 1 c) (block_context c (k + 1) ds is) w (k + 1) ds ▸ one w instr.Declared ▸
    code_items (block_context c (k + 1) ds is) w (k + 2 + decls_size (known c) (block_known ds is (known c)) ds) is ▸ one w (instr.LeaveBlock c.count)

block_is : (s : Scene) (here : Here) (wanted : Mode) (st : Option ℕ) (p : Place) (ds : phrases.Decls) (is : phrases.Items) (k : ℕ) (ts : List ℕ) → coding.begin_code (option_map (statement_view s.given) st) ▸ block_form (in_statement here st) p ds is s (k + begin_size (option_map (statement_view s.given) st)) ts ≡ code_at s here wanted k (phrases.Block (option_map (statement_view s.given) st) p ds is) ts
block_is s here wanted None p ds is k ts = refl
block_is s here wanted (Some statement) p ds is k ts = refl

-- ---- in the block

module _ (b : Emitter) (here : Here) (node : Node) (decls : List TypedDecl) (items : List TypedItem) (r : IsCodable b (block_node node decls items)) where
  abbrev s : Scene
  s = scene b

  abbrev outside : Here
  outside = with_entries here 1

  abbrev inside : Here
  inside = with_entries outside (entry_count decls + 1)

  abbrev ds : phrases.Decls
  ds = own_decls decls s

  abbrev is : phrases.Items
  is = own_items decls items s

  abbrev beyond : List Place
  beyond = block_places ds is

  avoid : DeclsAvoid beyond ds
  avoid = r.suits.0

  knows_decls : KnowsDecls (numbers_in s).names s.given.class_places (decls_in (numbers_in s) decls)
  knows_decls = r.knows.1.0

  knows_items : KnowsItems (numbers_in s).names s.given.class_places (items_in (numbers_in s) items)
  knows_items = r.knows.1.1

  had : ClassesHad s.given.class_places (decls_in (numbers_in s) decls)
  had = declared_had s.given.class_places (decls_in (numbers_in s) decls) r.begun.0

  abbrev inner : List Info
  inner = decls_infos (decls_in (numbers_in s) decls) ++ items_infos (items_in (numbers_in s) items)

  fresh : AreFresh s (block_infos s decls items ++ inner)
  fresh = subst (AreFresh s) (sym (append_assoc (decls_info (decls_in (numbers_in s) decls)) (labels_info (items_in (numbers_in s) items)) inner)) r.fresh

  -- what declaring requires
  pub numbered_names : (target : ℕ) → All (λ (name : ℕ × Standing). name.0 < b.symbols.count) (block_names b.symbols outside target decls items [])
  numbered_names target = block_numbered s outside target decls items r.fits.scene knows_decls knows_items had

  module _ (v : Vec (Option ℕ) Global) (first : ℕ) where
    abbrev entered : Emitter
    entered = appended b here (held.EnterBlock node.place)

    abbrev reserved : Emitter
    reserved = with_targets entered v

    abbrev pub within : Emitter
    within = record reserved { symbols = with_block b.symbols outside first decls items }

    abbrev t : Scene
    t = scene within

    fits_inside : SceneFits t
    fits_inside = block_fits s outside first decls items r.fits.scene knows_decls knows_items had (fresh_left s (block_infos s decls items) inner fresh)

    fresh_inside : AreFresh t inner
    fresh_inside = block_fresh s outside first decls items inner r.fits.scene knows_decls had fresh

    entered_fits : CodeFits entered.code
    entered_fits = let c = codes_plain none_own b here (held.EnterBlock node.place) r.fits.code tt refl in c.stays.fits

    same_context : phrase_context t ≡ inner_context decls s
    same_context = phrases_in_block s outside first decls items r.fits.scene knows_decls had

    same_decls : decls_phrase t decls ≡ ds
    same_decls = ap (λ (c : translating.Context). decls_of c (decls_in (numbers_in s) decls)) same_context

    same_items : items_phrase t items ≡ is
    same_items = ap (λ (c : translating.Context). items_of c (items_in (numbers_in s) items)) same_context

    -- what is known in it, wherever targets are
    known_there : (ts : List ℕ) → known (coding_context t ts here) ≡ block_known ds is (known (coding_context s ts here))
    known_there ts = known_in_block s ts here first decls items (inner_context decls s) r.fits.scene knows_decls refl here

    sizes_there : (ts : List ℕ) → sizes_known t ≡ block_known ds is (known (coding_context s ts here))
    sizes_there ts = known_anywhere t here [] ts ∙ known_there ts

    pub decls_ready : IsCodableDecls within decls
    decls_ready =
        let ks : List Known = sizes_known s in
        let inner_known : List Known = block_known ds is ks in
        let suits : DeclsSuit inner_known inner_known ds = decls_suit_avoids beyond ks inner_known inner_known (λ x h. sym (block_kinds_beyond x ds is ks h)) ds avoid r.suits.1 in
        record {
          fits = record { scene = fits_inside; code = entered_fits };
          fresh = fresh_left t (decls_infos (decls_in (numbers_in s) decls)) (items_infos (items_in (numbers_in s) items)) fresh_inside;
          knows = knows_decls;
          begun = r.begun.0;
          suits = subst (λ (x : phrases.Decls). DeclsSuit (sizes_known t) (sizes_known t) x) (sym same_decls) (subst (λ (l : List Known). DeclsSuit l l ds) (sym (sizes_there [])) suits);
        }

    pub items_ready : IsCodableItems within items
    items_ready = record {
      fits = record { scene = fits_inside; code = entered_fits };
      fresh = fresh_right t (decls_infos (decls_in (numbers_in s) decls)) (items_infos (items_in (numbers_in s) items)) fresh_inside;
      knows = knows_items;
      begun = r.begun.1;
      suits = subst (λ (x : phrases.Items). ItemsSuit (sizes_known t) x) (sym same_items) (subst (λ (l : List Known). ItemsSuit l is) (sym (sizes_there [])) r.suits.2);
    }

    pub are_declared : AreDeclared within.symbols decls
    are_declared = declared_from s outside first items [] decls fits_inside

    module _ (count : ℕ) (many : count ≡ procedure_count decls + length items) (at : first ≡ length b.targets.items) (added : v.items ≡ b.targets.items ++ replicate count None) where
      pub are_reserved : AreReserved within (scope_own first decls items)
      are_reserved =
          let long = ap length added ∙ length-append b.targets.items (replicate count None) in
          let n = length-replicate {A = Option ℕ} count None in
          let open_ = open_new b.targets.items v.items count added in
          record { there = omega arith; open_ = λ k h. open_ k (omega (arith, h), omega (arith, h)) }

      -- the code of what stands in it, as the block has it
      abbrev w : Place
      w = place_in s here

      abbrev c : List ℕ → coding.Context
      c ts = coding_context s ts here

      abbrev k : ℕ
      k = next b

      abbrev size_of_decls : List ℕ → ℕ
      size_of_decls ts = decls_size (known (c ts)) (block_known ds is (known (c ts))) ds

      abbrev scope_code : List ℕ → List code.Coded
      scope_code ts = decls_code t outside inside (next within) (decls_phrase t decls) ts ▸ one (place_in t inside) instr.Declared ▸ code_items (coding_context t ts inside) (place_in t inside) (next within + (declared_size t decls + 1)) (items_phrase t items)

      one_further : next within ≡ k + 1
      one_further = next_appended b here (held.EnterBlock node.place)

      inside_is : inside ≡ with_entries here (2 + entry_count decls)
      inside_is = let e : here.entries + 1 + (entry_count decls + 1) ≡ here.entries + (2 + entry_count decls) = omega arith in ap (λ n. let h : Here = record here { entries = n } in h) e

      declared_same : (ts : List ℕ) → declared_size t decls ≡ size_of_decls ts
      declared_same ts =
          ap (λ (x : phrases.Decls). decls_size (sizes_known t) (sizes_known t) x) same_decls
          ∙ ap (λ (l : List Known). decls_size l l ds) (sizes_there ts)
          ∙ decls_size_avoids beyond (block_known ds is (known (c ts))) (known (c ts)) (block_known ds is (known (c ts))) (λ x h. block_kinds_beyond x ds is (known (c ts)) h) ds avoid

      module _ {g : Emitter} {m : ℕ} (scope : CodesScope within g outside inside first decls items m) where
        context_same : (ts : List ℕ) → Meets g.targets.items ts → coding_context t ts inside ≡ block_context (c ts) (k + 1) ds is
        context_same ts h =
            let ks : List Known = known (c ts) in
            let inner_known : List Known = block_known ds is ks in
            let stand : DeclsStand inner_known inner_known (k + 1) ds ts first =
            subst (λ n. DeclsStand inner_known inner_known n ds ts first) one_further
            (subst (λ (l : List Known). DeclsStand l l (next within) ds ts first) (sizes_there ts)
            (subst (λ (x : phrases.Decls). DeclsStand (sizes_known t) (sizes_known t) (next within) x ts first) same_decls (scope.procedures ts h))) in
            let behind : next within + (declared_size t decls + 1) ≡ k + 1 + (size_of_decls ts + 1) = ap (λ n. n + (declared_size t decls + 1)) one_further ∙ ap (λ n. k + 1 + (n + 1)) (declared_same ts) in
            let items_stand : ItemsStand inner_known (k + 1 + (size_of_decls ts + 1)) is ts (first + procedure_count decls) =
            subst (λ n. ItemsStand inner_known n is ts (first + procedure_count decls)) behind
            (subst (λ (l : List Known). ItemsStand l (next within + (declared_size t decls + 1)) is ts (first + procedure_count decls)) (sizes_there ts)
            (subst (λ (x : phrases.Items). ItemsStand (sizes_known t) (next within + (declared_size t decls + 1)) x ts (first + procedure_count decls)) same_items (scope.labelled ts h))) in
            ap (λ (i : Here). coding_context t ts i) inside_is
            ∙ codes_in_block s ts here first decls items (inner_context decls s) r.fits.scene knows_decls refl (k + 1)
            (decls_stand_avoid beyond inner_known ks inner_known (λ x q. block_kinds_beyond x ds is ks q) (k + 1) ds ts first avoid stand) items_stand

        scope_is : (ts : List ℕ) → Meets g.targets.items ts → scope_code ts ≡ code_decls (coding.with_entries 1 (c ts)) (block_context (c ts) (k + 1) ds is) w (k + 1) ds ▸ one w instr.Declared ▸ code_items (block_context (c ts) (k + 1) ds is) w (k + 2 + size_of_decls ts) is
        scope_is ts h =
            let ctx : coding.Context = block_context (c ts) (k + 1) ds is in
            let same = context_same ts h in
            let o : coding.Context = coding_context t ts outside in
            let last : List code.Coded = one w instr.Declared in
            let number : next within + (declared_size t decls + 1) ≡ k + 2 + size_of_decls ts = let e = declared_same ts in let f = one_further in omega (arith, e, f) in
            let items_code : coding.Context → ℕ → phrases.Items → List code.Coded = λ i n x. code_items i w n x in
            ap (λ (x : phrases.Decls). code_decls o (coding_context t ts inside) w (next within) x ▸ last ▸ items_code (coding_context t ts inside) (next within + (declared_size t decls + 1)) (items_phrase t items)) same_decls
            ∙ ap (λ (x : phrases.Items). code_decls o (coding_context t ts inside) w (next within) ds ▸ last ▸ items_code (coding_context t ts inside) (next within + (declared_size t decls + 1)) x) same_items
            ∙ ap (λ (i : coding.Context). code_decls o i w (next within) ds ▸ last ▸ items_code i (next within + (declared_size t decls + 1)) is) same
            ∙ ap (λ n. code_decls o ctx w (next within) ds ▸ last ▸ items_code ctx n is) number
            ∙ ap (λ n. code_decls o ctx w n ds ▸ last ▸ items_code ctx (k + 2 + size_of_decls ts) is) one_further
            ∙ ap (λ l. l ▸ last ▸ items_code ctx (k + 2 + size_of_decls ts) is)
            (decls_code_avoids beyond o (coding.with_entries 1 (c ts)) ctx
            (record { names = λ x q. ap (λ (i : coding.Context). stand_at i.names x) same ∙ block_beyond x (c ts) (k + 1) ds is q; level = refl; count = refl })
            (λ x q. ap (λ (l : List Known). kind_at l x) (known_there ts) ∙ block_kinds_beyond x ds is (known (c ts)) q) ds avoid w (k + 1))

        abbrev after : Emitter
        after = record (appended g here (held.LeaveBlock here.entries)) { symbols = taken_back g.symbols (mark_of b.symbols) }

        pub inner_done : Codes none_own b after (block_form here node.place ds is s (next b)) (2 + max (decls_marks ds) (items_marks is)) (m + 2)
        inner_done =
            let old : SymbolsView = taken_back g.symbols (mark_of b.symbols) in
            let back : old ≡ b.symbols = ap (λ (x : Scene). taken_back x.symbols (mark_of b.symbols)) scope.codes.stays.scene ∙ block_taken_back b.symbols outside first decls items in
            let known_again : Codes (scope_own first decls items) reserved (record g { symbols = old }) scope_code (max (decls_marks (decls_phrase t decls)) (items_marks (items_phrase t items))) m = codes_symbols b.symbols old back scope.codes in
            let with_own : Codes (scope_own first decls items) entered (record g { symbols = old }) scope_code (max (decls_marks (decls_phrase t decls)) (items_marks (items_phrase t items))) m = codes_from (stays_targets entered v count entered_fits added) (λ ts. targets_code entered v ts) known_again in
            let closed : Codes none_own entered (record g { symbols = old }) scope_code (max (decls_marks (decls_phrase t decls)) (items_marks (items_phrase t items))) m = codes_closed (omega arith) with_own in
            let left = codes_then_plain here (held.LeaveBlock here.entries) refl tt closed in
            let all : Codes none_own b after (λ ts. one_in s here ts (held.EnterBlock node.place) ▸ (scope_code ts ▸ one_in (scene entered) here ts (held.LeaveBlock here.entries))) (max (decls_marks (decls_phrase t decls)) (items_marks (items_phrase t items))) m = codes_front_plain here (held.EnterBlock node.place) refl r.fits.code tt left in
            let most = all.most in
            let d_marks : decls_marks (decls_phrase t decls) ≡ decls_marks ds = ap decls_marks same_decls in
            let i_marks : items_marks (items_phrase t items) ≡ items_marks is = ap items_marks same_items in
            record {
              stays = all.stays;
              behind = λ ts h.
                  let first_code : List code.Coded = code_decls (coding.with_entries 1 (c ts)) (block_context (c ts) (k + 1) ds is) w (k + 1) ds in
                  let items_code : List code.Coded = code_items (block_context (c ts) (k + 1) ds is) w (k + 2 + size_of_decls ts) is in
                  let last : List code.Coded = one w (instr.LeaveBlock here.entries) in
                  all.behind ts h
                  ∙ ap (λ l. linked_code ts b ++ (one w (instr.EnterBlock node.place) ▸ (l ▸ last))) (scope_is ts h)
                  ∙ ap (λ l. linked_code ts b ++ (one w (instr.EnterBlock node.place) ▸ l)) (joined_assoc first_code (one w instr.Declared ▸ items_code) last ∙ ap (λ l. first_code ▸ l) (joined_assoc (one w instr.Declared) items_code last));
              most = omega (arith, most, d_marks, i_marks);
            }

-- ---- the whole

pub block_done : {e b z : Emitter} {n : ℕ} (here : Here) (wanted : Mode) (node : Node) (decls : List TypedDecl) (items : List TypedItem) → IsCodable e (block_node node decls items) → b ≡ begun e here node.statement → Codes none_own b z (block_form (in_statement here node.statement) node.place (own_decls decls (scene b)) (own_items decls items (scene b)) (scene b) (next b)) (2 + max (decls_marks (own_decls decls (scene b))) (items_marks (own_items decls items (scene b)))) n → CodesNode e z here wanted (block_node node decls items) n
block_done {e} {b} {z} {n} here wanted node decls items r q part =
    let s : Scene = scene e in
    let begin = codes_is q (codes_begun none_own e here node.statement r.fits.code) in
    let same : scene b ≡ s = begin.stays.scene in
    codes_as (code_at s here wanted (next e) (phrase_in s (block_node node decls items s))) (marks (phrase_in s (block_node node decls items s)))
    (λ ts h. block_is s here wanted node.statement node.place (own_decls decls s) (own_items decls items s) (next e) ts)
    (ap (λ (x : Scene). 2 + max (decls_marks (own_decls decls x)) (items_marks (own_items decls items x))) same)
    (begun_codes here node.statement (λ (x : Scene) k ts. block_form (in_statement here node.statement) node.place (own_decls decls x) (own_items decls items x) x k ts) r.fits.code q part)
