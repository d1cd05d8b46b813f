-- The declarations of a block are coded one by one.
use Rattle.std.proofs.Common.{◌≡◌, ℕ, ◌+◌, ◌<◌, ◌≤◌, max, List, [], ◌∷◌, drop, length, refl, sym, ap, ◌∙◌, subst, arith}
use Rattle.std.specs.Prelude.{slice_index_or}
use Rattle.std.proofs.lemmas.List.{append-nil, drop_all}
use Rattle.value_ops.specs.declared.places.Place.{Place}
use Rattle.algolw_tree.specs.declared.programs.TypedDecl.{TypedDecl, Simple, Array', Proc, Class}
use Rattle.algolw_tree.specs.declared.programs.TypedProc.{TypedProc'}
use Rattle.algolw_typing.specs.ProgramView.{decl_view}
use Rattle.algolw_typing.specs.Typed as typed
use Rattle.program_meaning.specs.Phrases as phrases
use Rattle.program_meaning.specs.Phrases.{no_decls}
use Rattle.program_meaning.specs.Copying.{dimensions}
use Rattle.program_meaning.specs.Translating as translating
use Rattle.program_meaning.specs.Translating.{bounds_of, decl_of, formals_known, formals_of, name_at, names_at, phrase_of, with_known}
use Rattle.program_soundness.specs.Tables.{decls_infos, inner_infos}
use Rattle.phrase_code.specs.Coding as coding
use Rattle.phrase_code.specs.Coding.{◌▸◌, body_context, code_bounds, code_decls, declare_arrays_code, declare_code, known, one, result_code}
use Rattle.phrase_code.specs.Marks.{decls_marks}
use Rattle.phrase_code.specs.Sizes.{Known, bounds_size, decls_size, result_size, size, text_size}
use Rattle.phrase_code.proofs.Sizes.{decls_sized, known_formals}
use Rattle.compilable_programs.specs.Suits.{DeclsSuit}
use Rattle.stack_code.specs.Code as code
use Rattle.stack_code.specs.CodeView.{CodeFits}
use Rattle.stack_code.specs.Instr as instr
use Rattle.symbol_table.specs.declared.here.Here.{Here}
use Rattle.symbol_table.specs.Blocks.{decl_entries, decl_procedures, procedure_count}
use Rattle.symbol_table.specs.Contexts.{AreFresh, Scene, coding_context, numbers_in, phrase_context}
use Rattle.symbol_table.specs.Heres.{with_entries}
use Rattle.symbol_table.specs.Parts.{decls_in}
use Rattle.symbol_table.specs.Targets.{DeclsStand}
use Rattle.symbol_table.proofs.Codes.{entries_same}
use Rattle.symbol_table.proofs.Declaring.{next_out}
use Rattle.symbol_table.proofs.Fresh.{fresh_left, fresh_right}
use Rattle.code_emitter.specs.declared.emitter.Emitter.{Emitter}
use Rattle.code_emitter.specs.Forms.{Form}
use Rattle.code_emitter.specs.Parts.{AreOpen, IsOwn, Meets, Own, next, place_in, scene}
use Rattle.code_emitter.proofs.Composing.{Within, known_anywhere, meets_before, open_after}
use Rattle.code_emitter.proofs.Emitting.{joined_assoc, joined_none}
use Rattle.code_emitter.proofs.Joining.{next_behind}
use Rattle.code_emitter.proofs.Remaining.{Remains, remains_all, remains_joined, remains_none}
use Rattle.stack_codegen.specs.Blocks.{AreDeclared, AreReserved, CodesDecls, DeclIsDeclared, decls_code, decls_own, decls_phrase}
use Rattle.stack_codegen.specs.Codable.{IsCodableDecls, sizes_known}
use Rattle.stack_codegen.proofs.Parts.{item_ready}
use Rattle.stack_codegen.proofs.Ready.{ready_after}

-- ---- one declaration in front of others

two_then : (a b r : List code.Coded) → a ▸ b ▸ r ≡ (a ▸ b ▸ []) ▸ r
two_then a b r = sym (joined_assoc a (b ▸ []) r ∙ ap (λ l. a ▸ l) (joined_assoc b [] r))

three_then : (a b c r : List code.Coded) → a ▸ b ▸ c ▸ r ≡ (a ▸ b ▸ c ▸ []) ▸ r
three_then a b c r = ap (λ l. a ▸ l) (two_then b c r) ∙ sym (joined_assoc a (b ▸ c ▸ []) r)

four_then : (a b c d r : List code.Coded) → a ▸ b ▸ c ▸ d ▸ r ≡ (a ▸ b ▸ c ▸ d ▸ []) ▸ r
four_then a b c d r = ap (λ l. a ▸ l) (three_then b c d r) ∙ sym (joined_assoc a (b ▸ c ▸ d ▸ []) r)

no_entries : (o : coding.Context) → o ≡ coding.with_entries 0 o
no_entries o = let e : o.count ≡ o.count + 0 = omega arith in ap (λ (n : ℕ). let c : coding.Context = record o { count = n } in c) e

module _ (c : translating.Context) (rest : phrases.Decls) (o i : coding.Context) (w : Place) (k : ℕ) where
  -- the others, so much further on
  abbrev behind : (entries size : ℕ) → List code.Coded
  behind n m = code_decls (coding.with_entries n o) i w (k + m) rest

  behind_same : (n m p q : ℕ) → n ≡ p → m ≡ q → behind n m ≡ behind p q
  behind_same n m p q e f = ap (λ x. behind x m) e ∙ ap (λ x. behind p x) f

  behind_nothing : (n : ℕ) → code_decls o i w (k + n) rest ≡ behind 0 (n + 0)
  behind_nothing n = let e : n ≡ n + 0 = omega arith in ap (λ (x : coding.Context). code_decls x i w (k + n) rest) (no_entries o) ∙ ap (λ x. behind 0 x) e

  one_parted : (d : typed.Decl) → code_decls o i w k (decl_of c d rest) ≡ code_decls o i w k (decl_of c d no_decls) ▸ behind (coding.entry_count (decl_of c d no_decls)) (decls_size (known o) (known i) (decl_of c d no_decls))
  one_parted (typed.Simple t xs) =
      let n : ℕ = length (names_at c xs) in
      let e : n ≡ n + 0 = omega arith in
      let d : List code.Coded = declare_code w (names_at c xs) in
      ap (λ l. d ▸ l) (behind_same n n (n + 0) (n + 0) e e) ∙ ap (λ l. l ▸ behind (n + 0) (n + 0)) (sym (joined_none d))
  one_parted (typed.Array t xs pairs) =
      let n : ℕ = length (names_at c xs) in
      let b : ℕ = bounds_size (known o) (bounds_of c pairs) in
      let e : n ≡ n + 0 = omega arith in
      let f : b + (1 + n) ≡ b + (1 + (n + 0)) = omega arith in
      let first : List code.Coded = code_bounds o w k (bounds_of c pairs) in
      let second : List code.Coded = one w (instr.Bounds (dimensions (bounds_of c pairs))) in
      let third : List code.Coded = declare_arrays_code w t (names_at c xs) in
      ap (λ l. first ▸ second ▸ third ▸ l) (behind_same n (b + (1 + n)) (n + 0) (b + (1 + (n + 0))) e f) ∙ three_then first second third (behind (n + 0) (b + (1 + (n + 0))))
  one_parted (typed.Proc p result x formals body) =
      let fs : List phrases.Formal = formals_of c formals in
      let a : phrases.Phrase = phrase_of (with_known c (formals_known formals)) body in
      let inner : coding.Context = body_context i fs in
      let n : ℕ = text_size (size (known inner) a + result_size result) in
      let first : List code.Coded = one w (instr.Procedure (record { name = (name_at c x.0).text; result = result; formals = fs }) (k + n)) in
      let second : List code.Coded = coding.code inner w instr.the_value (k + 1) a in
      ap (λ l. first ▸ second ▸ result_code w result ▸ one w instr.Return ▸ l) (behind_nothing n)
      ∙ four_then first second (result_code w result) (one w instr.Return) (behind 0 (n + 0))
      ∙ ap (λ (ks : List Known). (first ▸ second ▸ result_code w result ▸ one w instr.Return ▸ []) ▸ behind 0 (text_size (size ks a + result_size result) + 0)) (known_formals (i.level + 1) 1 fs i.names)
  one_parted (typed.Class x groups) =
      let e : k ≡ k + 0 = omega arith in
      ap (λ (x : coding.Context). code_decls x i w k rest) (no_entries o) ∙ ap (λ n. code_decls (coding.with_entries 0 o) i w n rest) e

-- ---- what is left

abbrev pub left_decls : (outside inside : Here) → List TypedDecl → Form
left_decls outside inside decls s k ts = decls_code s outside inside k (decls_phrase s decls) ts

abbrev pub marks_of_decls : Scene → List TypedDecl → ℕ
marks_of_decls s decls = decls_marks (decls_phrase s decls)

abbrev pub DeclsAt : Scene → ℕ → List TypedDecl → List ℕ → ℕ → Type 0
DeclsAt s k decls ts target = DeclsStand (sizes_known s) (sizes_known s) k (decls_phrase s decls) ts target

-- how many instructions one declaration has
abbrev pub decl_sized : Scene → TypedDecl → ℕ
decl_sized s d = decls_size (sizes_known s) (sizes_known s) (decls_phrase s (d ∷ []))

pub length_decl : (s : Scene) (outside inside : Here) (d : TypedDecl) (k : ℕ) (ts : List ℕ) → length (left_decls outside inside (d ∷ []) s k ts) ≡ decl_sized s d
length_decl s outside inside d k ts =
    let ds : phrases.Decls = decls_phrase s (d ∷ []) in
    let sized = decls_sized (coding_context s ts outside) (coding_context s ts inside) (place_in s outside) k ds in
    sized.by
    ∙ ap (λ (ks : List Known). decls_size ks (known (coding_context s ts inside)) ds) (known_anywhere s outside ts [])
    ∙ ap (λ (ks : List Known). decls_size (sizes_known s) ks ds) (known_anywhere s inside ts [])

pub parted_decls : (outside inside : Here) (d : TypedDecl) (rest : List TypedDecl) (s : Scene) (k : ℕ) (ts : List ℕ) → left_decls outside inside (d ∷ rest) s k ts ≡ left_decls outside inside (d ∷ []) s k ts ▸ left_decls (with_entries outside (decl_entries d)) inside rest s (k + length (left_decls outside inside (d ∷ []) s k ts)) ts
parted_decls outside inside d rest s k ts =
    let o : coding.Context = coding_context s ts outside in
    let i : coding.Context = coding_context s ts inside in
    let pc : translating.Context = phrase_context s in
    let w : Place = place_in s outside in
    let d_view : typed.Decl = decl_view (numbers_in s) d in
    let first : List code.Coded = left_decls outside inside (d ∷ []) s k ts in
    let sized = decls_sized o i w k (decls_phrase s (d ∷ [])) in
    let same = entries_same pc (numbers_in s) (d ∷ []) in
    let entries : coding.entry_count (decls_phrase s (d ∷ [])) ≡ decl_entries d = omega (arith, same) in
    one_parted pc (decls_phrase s rest) o i w k d_view
    ∙ ap (λ n. first ▸ code_decls (coding.with_entries n o) i w (k + decls_size (known o) (known i) (decls_phrase s (d ∷ []))) (decls_phrase s rest)) entries
    ∙ ap (λ n. first ▸ code_decls (coding.with_entries (decl_entries d) o) i w (k + n) (decls_phrase s rest)) (sym sized.by)

-- where its procedures stand, one declaration in front of others
abbrev procedures : typed.Decl → ℕ
procedures (typed.Proc p result x formals body) = 1
procedures d = 0

procedures_same : (s : Scene) (d : TypedDecl) → procedures (decl_view (numbers_in s) d) ≡ decl_procedures d
procedures_same s (Simple t xs) = refl
procedures_same s (Array' t xs shape pairs) = refl
procedures_same s (Proc (TypedProc' place result name formals q p f kind g st)) = refl
procedures_same s (Class x) = refl

module _ (c : translating.Context) (rest : phrases.Decls) (outside inside : List Known) (ts : List ℕ) where
  stand_moved : (j k m n : ℕ) → j ≡ k → m ≡ n → DeclsStand outside inside j rest ts m → DeclsStand outside inside k rest ts n
  stand_moved j k m n e f h = subst (λ x. DeclsStand outside inside x rest ts n) e (subst (λ x. DeclsStand outside inside j rest ts x) f h)

  stand_one : (k n : ℕ) (d : typed.Decl) → DeclsStand outside inside k (decl_of c d no_decls) ts n → DeclsStand outside inside (k + decls_size outside inside (decl_of c d no_decls)) rest ts (n + procedures d) → DeclsStand outside inside k (decl_of c d rest) ts n
  stand_one k n (typed.Simple t xs) first h = stand_moved (k + (length (names_at c xs) + 0)) (k + length (names_at c xs)) (n + 0) n (omega arith) (omega arith) h
  stand_one k n (typed.Array t xs pairs) first h =
      let b : ℕ = bounds_size outside (bounds_of c pairs) in
      stand_moved (k + (b + (1 + (length (names_at c xs) + 0)))) (k + (b + (1 + length (names_at c xs)))) (n + 0) n (omega arith) (omega arith) h
  stand_one k n (typed.Proc p result x formals body) first h = (first.0, h)
  stand_one k n (typed.Class x groups) first h = stand_moved (k + 0) k (n + 0) n (omega arith) (omega arith) h

pub stand_parted : (s : Scene) (k : ℕ) (d : TypedDecl) (rest : List TypedDecl) (ts : List ℕ) (n : ℕ) → DeclsAt s k (d ∷ []) ts n → DeclsAt s (k + decl_sized s d) rest ts (n + decl_procedures d) → DeclsAt s k (d ∷ rest) ts n
stand_parted s k d rest ts n first h =
    stand_one (phrase_context s) (decls_phrase s rest) (sizes_known s) (sizes_known s) ts k n (decl_view (numbers_in s) d) first
    (subst (λ m. DeclsAt s (k + decl_sized s d) rest ts (n + m)) (sym (procedures_same s d)) h)

-- its marks
marks_one : (c : translating.Context) (d : typed.Decl) (rest : phrases.Decls) → decls_marks (decl_of c d rest) ≡ max (decls_marks (decl_of c d no_decls)) (decls_marks rest)
marks_one c (typed.Simple t xs) rest = omega arith
marks_one c (typed.Array t xs pairs) rest = omega arith
marks_one c (typed.Proc p result x formals body) rest = omega arith
marks_one c (typed.Class x groups) rest = omega arith

pub marks_parted : (s : Scene) (d : TypedDecl) (rest : List TypedDecl) → marks_of_decls s (d ∷ rest) ≡ max (marks_of_decls s (d ∷ [])) (marks_of_decls s rest)
marks_parted s d rest = marks_one (phrase_context s) (decl_view (numbers_in s) d) (decls_phrase s rest)

-- ---- what is known of one, and of the others

suits_one : (c : translating.Context) (outside inside : List Known) (d : typed.Decl) (rest : phrases.Decls) → DeclsSuit outside inside (decl_of c d rest) → DeclsSuit outside inside (decl_of c d no_decls) × DeclsSuit outside inside rest
suits_one c outside inside (typed.Simple t xs) rest h = (tt, h)
suits_one c outside inside (typed.Array t xs pairs) rest h = ((h.0, tt), h.1)
suits_one c outside inside (typed.Proc p result x formals body) rest h = ((h.0, tt), h.1)
suits_one c outside inside (typed.Class x groups) rest h = (tt, h)

decls_tail : (e : Emitter) (d : TypedDecl) (rest : List TypedDecl) → IsCodableDecls e (d ∷ rest) → IsCodableDecls e rest
decls_tail e d rest r =
    let s : Scene = scene e in
    record {
      fits = r.fits;
      fresh = fresh_right s (inner_infos (decl_view (numbers_in s) d)) (decls_infos (decls_in (numbers_in s) rest)) r.fresh;
      knows = r.knows.1;
      begun = r.begun.1;
      suits = (suits_one (phrase_context s) (sizes_known s) (sizes_known s) (decl_view (numbers_in s) d) (decls_phrase s rest) r.suits).1;
    }

decls_head : (e : Emitter) (d : TypedDecl) (rest : List TypedDecl) → IsCodableDecls e (d ∷ rest) → IsCodableDecls e (d ∷ [])
decls_head e d rest r =
    let s : Scene = scene e in
    let mine = inner_infos (decl_view (numbers_in s) d) in
    record {
      fits = r.fits;
      fresh = subst (AreFresh s) (sym (append-nil mine)) (fresh_left s mine (decls_infos (decls_in (numbers_in s) rest)) r.fresh);
      knows = (r.knows.0, tt);
      begun = (r.begun.0, tt);
      suits = (suits_one (phrase_context s) (sizes_known s) (sizes_known s) (decl_view (numbers_in s) d) (decls_phrase s rest) r.suits).0;
    }

pub decl_ready : (e : Emitter) (decls : List TypedDecl) (i : ℕ) (d : TypedDecl) → i < length decls → d ≡ slice_index_or decls i d → IsCodableDecls e decls → IsCodableDecls e (d ∷ [])
decl_ready e decls i d = item_ready (IsCodableDecls e) (λ x. IsCodableDecls e (x ∷ [])) (decls_tail e) (decls_head e) decls i d

-- ---- declaration by declaration

-- Those in front of the ones that are left are coded, and their procedures stand at the targets from the first on. Outside are the entries by now.
pub record DeclsCoded (old now : Emitter) (outside there inside : Here) (first target : ℕ) (decls left : List TypedDecl) (m : ℕ) : Type 0 where
  pub coded : Remains (decls_own first decls) old now (left_decls outside inside decls (scene old) (next old)) (left_decls there inside left) (marks_of_decls (scene old) decls) (marks_of_decls (scene old) left) m
  pub statement : there.statement ≡ outside.statement
  pub level : there.level ≡ outside.level
  pub many : target + procedure_count left ≡ first + procedure_count decls
  pub from : first ≤ target
  pub within : first + procedure_count decls ≤ length now.targets.items
  pub open_ : AreOpen (decls_own target left) now.targets.items
  pub stand : (ts : List ℕ) → Meets now.targets.items ts → DeclsAt (scene old) (next now) left ts target → DeclsAt (scene old) (next old) decls ts first

pub decls_begin : (e : Emitter) (outside inside : Here) (first : ℕ) (decls : List TypedDecl) → CodeFits e.code → AreReserved e (decls_own first decls) → DeclsCoded e e outside outside inside first first decls decls 0
decls_begin e outside inside first decls fits reserved = record {
  coded = remains_all (decls_own first decls) e (left_decls outside inside decls) (marks_of_decls (scene e) decls) fits;
  statement = refl;
  level = refl;
  many = refl;
  from = omega arith;
  within = reserved.there;
  open_ = reserved.open_;
  stand = λ ts h k. k;
}

-- targets of one declaration's own
pub decl_reserved : {a now : Emitter} {outside there inside : Here} {first target : ℕ} {decls rest : List TypedDecl} {m : ℕ} (d : TypedDecl) → DeclsCoded a now outside there inside first target decls (d ∷ rest) m → AreReserved now (decls_own target (d ∷ []))
decl_reserved {rest = rest} d q =
    let many = q.many in
    let within = q.within in
    record { there = omega arith; open_ = λ k h. q.open_ k (h.0, omega (arith, h)) }

module _ {a now b : Emitter} {m n : ℕ} (outside there after inside : Here) (first target : ℕ) (decls rest : List TypedDecl) (d : TypedDecl) where
  one_more : DeclsCoded a now outside there inside first target decls (d ∷ rest) m → CodesDecls now b there inside target (d ∷ []) n → after ≡ with_entries there (decl_entries d) → DeclsCoded a b outside after inside first (target + decl_procedures d) decls rest (max m n)
  one_more q c e =
      let many = q.many in
      let from = q.from in
      let within = q.within in
      let longer = c.codes.stays.longer in
      let same : scene now ≡ scene a = q.coded.stays.scene in
      let own : Own = decls_own target (d ∷ []) in
      let others : Own = decls_own (target + decl_procedures d) rest in
      let one_open : AreOpen own now.targets.items = λ k h. q.open_ k (h.0, omega (arith, h)) in
      let is_in : Within own (decls_own first decls) = λ k h. (omega (arith, h, from), omega (arith, h, many)) in
      let room : target + decl_procedures d + procedure_count rest ≤ length now.targets.items = omega (arith, many, within) in
      let apart : (k : ℕ) → IsOwn others k → IsOwn own k → ⊥ = λ k h j. omega (arith, h, j) in
      let still : AreOpen others now.targets.items = λ k h. q.open_ k (omega (arith, h), omega (arith, h)) in
      let coded : Remains (decls_own first decls) a b (left_decls outside inside decls (scene a) (next a)) (left_decls (with_entries there (decl_entries d)) inside rest) (marks_of_decls (scene a) decls) (marks_of_decls (scene a) rest) (max m n) =
      remains_joined {two = own} {own = decls_own first decls} (left_decls there inside (d ∷ [])) (left_decls (with_entries there (decl_entries d)) inside rest) (marks_of_decls (scene a) rest) is_in one_open
      (marks_parted (scene a) d rest ∙ ap (λ s. max (marks_of_decls s (d ∷ [])) (marks_of_decls (scene a) rest)) (sym same))
      (λ ts. parted_decls there inside d rest (scene now) (next now) ts) q.coded c.codes in
      record {
        coded = subst (λ (h : Here). Remains (decls_own first decls) a b (left_decls outside inside decls (scene a) (next a)) (left_decls h inside rest) (marks_of_decls (scene a) decls) (marks_of_decls (scene a) rest) (max m n)) (sym e) coded;
        statement = ap (λ (h : Here). h.statement) e ∙ q.statement;
        level = ap (λ (h : Here). h.level) e ∙ q.level;
        many = omega (arith, many);
        from = omega (arith, from);
        within = omega (arith, within, longer);
        open_ = open_after others {other = own} {a = now} {b = b} room apart c.codes.stays still;
        stand = λ ts h k.
            let before = meets_before ts c.codes.stays one_open h in
            let at : DeclsAt (scene a) (next now) (d ∷ []) ts target = subst (λ s. DeclsAt s (next now) (d ∷ []) ts target) same (c.placed ts h) in
            let further : next b ≡ next now + decl_sized (scene a) d =
            next_behind ts c.codes h ∙ ap (λ x. next now + x) (length_decl (scene now) there inside d (next now) ts) ∙ ap (λ s. next now + decl_sized s d) same in
            q.stand ts before (stand_parted (scene a) (next now) d rest ts target at (subst (λ j. DeclsAt (scene a) j rest ts (target + decl_procedures d)) further k));
      }

pub decls_more : {a now b : Emitter} {m n : ℕ} (outside there after inside : Here) (first target : ℕ) (decls : List TypedDecl) (i : ℕ) (d : TypedDecl) → i < length decls → d ≡ slice_index_or decls i d → DeclsCoded a now outside there inside first target decls (drop i decls) m → CodesDecls now b there inside target (d ∷ []) n → after ≡ with_entries there (decl_entries d) → DeclsCoded a b outside after inside first (target + decl_procedures d) decls (drop (i + 1) decls) (max m n)
decls_more {a} {now} {b} {m} outside there after inside first target decls i d l is r =
    one_more outside there after inside first target decls (drop (i + 1) decls) d (subst (λ left. DeclsCoded a now outside there inside first target decls left m) (next_out decls i d l is) r)

pub decls_done : {a now : Emitter} {m : ℕ} (outside there inside : Here) (first target : ℕ) (decls : List TypedDecl) (i : ℕ) → length decls ≤ i → DeclsCoded a now outside there inside first target decls (drop i decls) m → CodesDecls a now outside inside first decls m
decls_done {a} {now} {m} outside there inside first target decls i l r =
    let q : DeclsCoded a now outside there inside first target decls [] m = subst (λ left. DeclsCoded a now outside there inside first target decls left m) (drop_all i decls l) r in
    record { codes = remains_none refl (λ ts. refl) q.coded; placed = λ ts h. q.stand ts h tt }

-- ---- what is known of one of them, where those in front of it are coded

module _ {a now : Emitter} {m : ℕ} (outside there inside : Here) (first target : ℕ) (decls : List TypedDecl) (i : ℕ) (d : TypedDecl) (l : i < length decls) (is : d ≡ slice_index_or decls i d) (q : DeclsCoded a now outside there inside first target decls (drop i decls) m) where
  pub decl_ready_there : IsCodableDecls a decls → IsCodableDecls now (d ∷ [])
  decl_ready_there r = ready_after q.coded.stays (decl_ready a decls i d l is r)

  pub decl_declared_there : AreDeclared a.symbols decls → DeclIsDeclared now.symbols d
  decl_declared_there all =
      let mine : DeclIsDeclared a.symbols d = subst (λ x. DeclIsDeclared a.symbols x) (sym is) (all i d l) in
      subst (λ (s : Scene). DeclIsDeclared s.symbols d) (sym q.coded.stays.scene) mine

  pub decl_reserved_there : AreReserved now (decls_own target (d ∷ []))
  decl_reserved_there = decl_reserved d (subst (λ left. DeclsCoded a now outside there inside first target decls left m) (next_out decls i d l is) q)

  -- a declaration more, from what the steps ensure
  pub decls_step : {b : Emitter} {n o : ℕ} (after : Here) (behind entries : ℕ) → CodesDecls now b there inside target (d ∷ []) n → after ≡ with_entries there entries → entries ≡ decl_entries d → behind ≡ target + decl_procedures d → o ≡ max m n → DeclsCoded a b outside after inside first behind decls (drop (i + 1) decls) o
  decls_step {b} {n} {o} after behind entries part at own then most =
      subst (λ k. DeclsCoded a b outside after inside first k decls (drop (i + 1) decls) o) (sym then)
      (subst (λ k. DeclsCoded a b outside after inside first (target + decl_procedures d) decls (drop (i + 1) decls) k) (sym most)
      (decls_more outside there after inside first target decls i d l is q part (at ∙ ap (λ k. with_entries there k) own)))
