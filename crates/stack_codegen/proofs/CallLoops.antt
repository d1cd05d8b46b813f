-- Loops over the actuals of a call: with what is left of the actuals, of the formals and of what is pending, what is coded by now is the whole.
use Rattle.std.proofs.Common.{◌≡◌, ℕ, zero, suc, ◌+◌, ◌<◌, ◌≤◌, max, List, [], ◌∷◌, ◌++◌, drop, length, map, Option, Some, None, refl, sym, ap, ◌∙◌, subst, arith}
use Rattle.std.specs.Prelude.{slice_get, slice_index_or}
use Rattle.std.specs.List.{All}
use Rattle.std.specs.Option.{option_map}
use Rattle.std.specs.declared.alloc.Global.{Global}
use Rattle.std.specs.declared.vec.Vec.{Vec}
use Rattle.std.proofs.lemmas.List.{append-nil, append_assoc, drop_all}
use Rattle.std.proofs.lemmas.List.Elements.{All-drop, All-head, All-tail, All-take}
use Rattle.value_ops.specs.declared.places.Place.{Place}
use Rattle.algolw_tree.specs.declared.programs.Node.{Node}
use Rattle.algolw_tree.specs.declared.programs.TypedActual.{TypedActual, Star, Phrase'}
use Rattle.algolw_typing.specs.Meanings as typing
use Rattle.algolw_typing.specs.ProgramView.{actual_view}
use Rattle.algolw_typing.specs.Typed as typed
use Rattle.program_meaning.specs.Phrases as phrases
use Rattle.program_meaning.specs.Phrases.{Actual, Actuals, no_actuals, actual_and}
use Rattle.program_meaning.specs.Translating.{actuals_of}
use Rattle.program_soundness.specs.Tables.{Info, actuals_infos, infos}
use Rattle.phrase_code.specs.Coding as coding
use Rattle.phrase_code.specs.Coding.{◌▸◌, code_actual, code_actuals, code_back, code_backs, code_text, code_texts, known, place_back_code, place_backs_code, text_heads}
use Rattle.phrase_code.specs.Marks.{actual_marks, actuals_marks}
use Rattle.phrase_code.specs.Sizes.{Known, actual_size, back_of_size, text_of_size}
use Rattle.phrase_code.proofs.Sizes.{actual_sized, back_of_sized, text_of_sized}
use Rattle.compilable_programs.specs.Suits.{ActualsSuit, ArePassed, IsPassed}
use Rattle.stack_code.specs.Code as code
use Rattle.stack_code.specs.CodeView.{CodeFits, FormalFits, FormalTypeFits, KindsFit, formal_type_view, formal_view}
use Rattle.stack_code.specs.declared.heads.Formal.{Formal}
use Rattle.stack_code.specs.declared.heads.FormalType.{FormalType}
use Rattle.symbol_table.specs.declared.here.Here.{Here}
use Rattle.symbol_table.specs.declared.standings.Procedure.{Procedure}
use Rattle.symbol_table.specs.Contexts.{AreFresh, Scene, SceneFits, coding_context, numbers_in, phrase_context}
use Rattle.symbol_table.specs.Heres as heres
use Rattle.symbol_table.specs.Heres.{type_given}
use Rattle.symbol_table.specs.Parts.{actuals_in}
use Rattle.symbol_table.specs.Symbols.{formal_at, formals_of}
use Rattle.symbol_table.proofs.Declaring.{next_out}
use Rattle.symbol_table.proofs.Fresh.{fresh_left, fresh_right}
use Rattle.code_emitter.specs.declared.emitter.Emitter.{Emitter}
use Rattle.code_emitter.specs.Forms.{Form}
use Rattle.code_emitter.specs.Parts.{Codes, next, none_own, place_in, scene}
use Rattle.code_emitter.proofs.Composing.{known_anywhere}
use Rattle.code_emitter.proofs.Joining.{codes_as, codes_most, codes_pending, next_by}
use Rattle.code_emitter.proofs.Remaining.{Remains, remains_all, remains_none, remains_part}
use Rattle.stack_codegen.specs.Calls.{CodesPending, InLineFit, PassedFit, actual_heads, actuals_given, all_back_marks, all_ready_marks, back_marks, first_pending, formals_given, passed, ready_marks}
use Rattle.stack_codegen.specs.Codable.{IsCodableActual, IsCodableActuals, IsReady, node_in, sizes_known}
use Rattle.stack_codegen.proofs.NodeSizes.{item_smaller, node_size, nothing, size_actual, size_actuals}
use Rattle.stack_codegen.proofs.Typing.{given_fits}

-- ---- lists

-- what is known where a list goes on with an element
pub tail_left : {X : Type 0} (xs : List X) (n : ℕ) (x : X) (ys : List X) → drop n xs ≡ x ∷ ys → drop (n + 1) xs ≡ ys
tail_left [] zero x ys e = absurd (cc)
tail_left [] (suc n) x ys e = absurd (cc)
tail_left (z ∷ xs) zero x ys e = cc
tail_left (z ∷ xs) (suc n) x ys e = let more : suc n + 1 ≡ suc (n + 1) = omega arith in ap (λ k. drop k (z ∷ xs)) more ∙ tail_left xs n x ys e

pub inside_left : {X : Type 0} (xs : List X) (n : ℕ) (x : X) (ys : List X) → drop n xs ≡ x ∷ ys → n < length xs
inside_left [] zero x ys e = absurd (cc)
inside_left [] (suc n) x ys e = absurd (cc)
inside_left (z ∷ xs) zero x ys e = omega arith
inside_left (z ∷ xs) (suc n) x ys e = let l = inside_left xs n x ys e in omega (arith, l)

pub first_left : {X : Type 0} (xs : List X) (n : ℕ) (d x : X) (ys : List X) → drop n xs ≡ x ∷ ys → slice_index_or xs n d ≡ x
first_left [] zero d x ys e = absurd (cc)
first_left [] (suc n) d x ys e = absurd (cc)
first_left (z ∷ xs) zero d x ys e = cc
first_left (z ∷ xs) (suc n) d x ys e = first_left xs n d x ys e

-- no value that is there is none
pub none_from : {X : Type 0} (o : Option X) → ((x : X) → o ≡ Some x → ⊥) → o ≡ None
none_from None h = refl
none_from (Some x) h = absurd (h x refl)

-- ---- what is known of actuals is known of the first of them, and of those behind it

-- an actual that is a phrase
abbrev pub phrase_actual : Node → TypedActual
phrase_actual n = Phrase' n.place n.first n.kind n.gives n.statement

-- what is left begins with the next
pub left_out : (P : List TypedActual → Type 0) (actuals : List TypedActual) (i : ℕ) (a : TypedActual) → i < length actuals → a ≡ slice_index_or actuals i a → P (drop i actuals) → P (a ∷ drop (i + 1) actuals)
left_out P actuals i a l is = subst P (next_out actuals i a l is)

-- the actual that it is
abbrev pub actual_at : Node → Scene → Actual
actual_at n s = passed s (node_in n s)

-- those that suit the formals of a procedure from a position on
abbrev pub LeftFit : (position : ℕ) → Procedure → Scene → typed.Actuals → Type 0
LeftFit position p s actuals = ArePassed (actuals_of (phrase_context s) actuals) (drop position (formals_given s p)) × ActualsSuit (sizes_known s) (actuals_of (phrase_context s) actuals)

-- the next is a phrase
pub left_node : (P : List TypedActual → Type 0) (actuals : List TypedActual) (i : ℕ) (a : TypedActual) (n : Node) → a ≡ phrase_actual n → i < length actuals → a ≡ slice_index_or actuals i a → P (drop i actuals) → P (phrase_actual n ∷ drop (i + 1) actuals)
left_node P actuals i a n e l is h = subst (λ x. P (x ∷ drop (i + 1) actuals)) e (left_out P actuals i a l is h)

-- the next is a star
pub left_past : (P : List TypedActual → Type 0) → ((q : Place) (rest : List TypedActual) → P (Star q ∷ rest) → P rest) → (actuals : List TypedActual) (i : ℕ) (a : TypedActual) (q : Place) → a ≡ Star q → i < length actuals → a ≡ slice_index_or actuals i a → P (drop i actuals) → P (drop (i + 1) actuals)
left_past P past actuals i a q e l is h = past q (drop (i + 1) actuals) (subst (λ x. P (x ∷ drop (i + 1) actuals)) e (left_out P actuals i a l is h))

-- it is smaller than all of them
pub actual_smaller : (actuals : List TypedActual) (i : ℕ) (a : TypedActual) (n : Node) → a ≡ phrase_actual n → i < length actuals → a ≡ slice_index_or actuals i a → 8 + node_size n ≤ size_actuals (actuals_in nothing actuals)
actual_smaller actuals i a n e l is = subst (λ x. 8 + size_actual (actual_view nothing x) ≤ size_actuals (actuals_in nothing actuals)) e (item_smaller (λ xs. size_actuals (actuals_in nothing xs)) (λ x. size_actual (actual_view nothing x)) (λ x xs. refl) actuals i a l is)

-- one that is no phrase is a star
pub star_is : (a : TypedActual) → ((n : Node) → a ≡ phrase_actual n → ⊥) → (q : Place) × (a ≡ Star q)
star_is (Star q) h = (q, refl)
star_is (Phrase' p f k g st) h = absurd (h (record { place = p; first = f; kind = k; gives = g; statement = st }) refl)

-- nothing is left
pub left_none : (P : List TypedActual → Type 0) (actuals : List TypedActual) (i : ℕ) → length actuals ≤ i → P (drop i actuals) → P []
left_none P actuals i l h = subst P (drop_all i actuals l) h

-- where other emitters have the same scene
pub ready_there : {a b : Emitter} {is : Scene → List Info} {K S F : Scene → Type 0} → scene b ≡ scene a → CodeFits b.code → IsReady a is K S F → IsReady b is K S F
ready_there {a} {b} {is} {K} {S} {F} e h r =
    let back : scene a ≡ scene b = sym e in
    record {
      fits = record { scene = subst SceneFits back r.fits.scene; code = h };
      fresh = subst (λ (s : Scene). AreFresh s (is s)) back r.fresh;
      knows = subst K back r.knows;
      begun = subst S back r.begun;
      suits = subst F back r.suits;
    }

pub passed_star : (e : Emitter) (q : Place) (rest : List TypedActual) → IsCodableActuals e (Star q ∷ rest) PassedFit → IsCodableActuals e rest PassedFit
passed_star e q rest r = record { fits = r.fits; fresh = r.fresh; knows = r.knows; begun = r.begun; suits = r.suits }

pub passed_phrase : (e : Emitter) (n : Node) (rest : List TypedActual) → IsCodableActuals e (phrase_actual n ∷ rest) PassedFit → IsCodableActual e (node_in n) × IsCodableActuals e rest PassedFit
passed_phrase e n rest r =
    let s : Scene = scene e in (
      record { fits = r.fits; fresh = fresh_left s (infos (node_in n s)) (actuals_infos (actuals_in (numbers_in s) rest)) r.fresh; knows = r.knows.0; begun = r.begun.0; suits = r.suits.0 },
      record { fits = r.fits; fresh = fresh_right s (infos (node_in n s)) (actuals_infos (actuals_in (numbers_in s) rest)) r.fresh; knows = r.knows.1; begun = r.begun.1; suits = r.suits.1 },
    )

-- ---- formals

-- the formal at a position, as phrases have it, and those behind it
pub record FormalNext (s : Scene) (p : Procedure) (position : ℕ) (f : FormalType) : Type 0 where
  pub formal : phrases.Formal
  pub is : formal.is ≡ formal_type_view s.given f
  pub left : drop position (formals_given s p) ≡ formal ∷ drop (position + 1) (formals_given s p)

pub formal_next : (s : Scene) (p : Procedure) (position : ℕ) (f : FormalType) → formal_at s.symbols p position ≡ Some f → FormalNext s p position f
formal_next s p position f e = let r = go (formals_of s.symbols p) position e in record { formal = r.0; is = r.1; left = r.2 }
  where
    go : (fs : List Formal) (n : ℕ) → option_map (λ (x : Formal). x.is) (slice_get fs n) ≡ Some f → (x : phrases.Formal) × (x.is ≡ formal_type_view s.given f) × (drop n (map (formal_view s.given) fs) ≡ x ∷ drop (n + 1) (map (formal_view s.given) fs))
    go [] n e = absurd (cc)
    go (x ∷ fs) zero e = let same : x.is ≡ f = cc in (formal_view s.given x, ap (formal_type_view s.given) same, refl)
    go (x ∷ fs) (suc n) e =
        let behind = go fs n e in
        let more : suc (n + 1) ≡ suc n + 1 = omega arith in
        (behind.0, behind.1, behind.2 ∙ ap (λ k. behind.0 ∷ drop k (map (formal_view s.given) (x ∷ fs))) more)

-- or there is none
pub no_formal_left : (s : Scene) (p : Procedure) (position : ℕ) → formal_at s.symbols p position ≡ None → drop position (formals_given s p) ≡ []
no_formal_left s p position e = go (formals_of s.symbols p) position e
  where
    go : (fs : List Formal) (n : ℕ) → option_map (λ (x : Formal). x.is) (slice_get fs n) ≡ None → drop n (map (formal_view s.given) fs) ≡ []
    go [] zero e = refl
    go [] (suc n) e = refl
    go (x ∷ fs) zero e = absurd (cc)
    go (x ∷ fs) (suc n) e = go fs n e

pub formal_fits : (s : Scene) (p : Procedure) (position : ℕ) (f : FormalType) → SceneFits s → formal_at s.symbols p position ≡ Some f → FormalTypeFits s.given f
formal_fits s p position f fits e = go (formals_of s.symbols p) position (All-take (FormalFits s.given) p.count (drop p.formals s.symbols.formals) (All-drop (FormalFits s.given) p.formals s.symbols.formals fits.formals)) e
  where
    go : (fs : List Formal) (n : ℕ) → All (FormalFits s.given) fs → option_map (λ (x : Formal). x.is) (slice_get fs n) ≡ Some f → FormalTypeFits s.given f
    go [] n a e = absurd (cc)
    go (x ∷ fs) zero a e = let same : x.is ≡ f = cc in subst (FormalTypeFits s.given) same (All-head (FormalFits s.given) x fs a).is
    go (x ∷ fs) (suc n) a e = go fs n (All-tail (FormalFits s.given) x fs a) e

-- ---- actuals for formals

pub left_star : (e : Emitter) (position : ℕ) (p : Procedure) (q : Place) (rest : List TypedActual) → IsCodableActuals e (Star q ∷ rest) (LeftFit position p) → IsCodableActuals e rest (LeftFit position p)
left_star e position p q rest r = record { fits = r.fits; fresh = r.fresh; knows = r.knows; begun = r.begun; suits = r.suits }

pub record LeftReady (e : Emitter) (position : ℕ) (p : Procedure) (n : Node) (more : List TypedActual) (f : FormalType) : Type 0 where
  pub actual : IsCodableActual e (node_in n)
  pub formal : FormalTypeFits e.code.given f
  pub passed : IsPassed (actual_at n (scene e)) (formal_type_view e.code.given f)
  pub rest : IsCodableActuals e more (LeftFit (position + 1) p)

pub left_phrase : (e : Emitter) (position : ℕ) (p : Procedure) (n : Node) (rest : List TypedActual) (f : FormalType) → formal_at e.symbols p position ≡ Some f → IsCodableActuals e (phrase_actual n ∷ rest) (LeftFit position p) → LeftReady e position p n rest f
left_phrase e position p n rest f found r =
    let s : Scene = scene e in
    let next : FormalNext s p position f = formal_next s p position f found in
    let both : ArePassed (actual_and (actual_at n s) (actuals_given s rest)) (next.formal ∷ drop (position + 1) (formals_given s p)) = subst (λ (fs : List phrases.Formal). ArePassed (actual_and (actual_at n s) (actuals_given s rest)) fs) next.left r.suits.0 in
    record {
      actual = record { fits = r.fits; fresh = fresh_left s (infos (node_in n s)) (actuals_infos (actuals_in (numbers_in s) rest)) r.fresh; knows = r.knows.0; begun = r.begun.0; suits = r.suits.1.0 };
      formal = formal_fits s p position f r.fits.scene found;
      passed = subst (IsPassed (actual_at n s)) next.is both.0;
      rest = record { fits = r.fits; fresh = fresh_right s (infos (node_in n s)) (actuals_infos (actuals_in (numbers_in s) rest)) r.fresh; knows = r.knows.1; begun = r.begun.1; suits = (both.1, r.suits.1.1) };
    }

-- there is a formal for each
pub left_found : (e : Emitter) (position : ℕ) (p : Procedure) (n : Node) (rest : List TypedActual) → formal_at e.symbols p position ≡ None → IsCodableActuals e (phrase_actual n ∷ rest) (LeftFit position p) → ⊥
left_found e position p n rest found r =
    let s : Scene = scene e in
    subst (λ (fs : List phrases.Formal). ArePassed (actual_and (actual_at n s) (actuals_given s rest)) fs) (no_formal_left s p position found) r.suits.0

-- and an actual for each formal
none_behind : (fs : List phrases.Formal) → ArePassed no_actuals fs → fs ≡ []
none_behind [] h = refl
none_behind (f ∷ fs) h = absurd h

-- ---- what is coded by now

-- the same names have the same kinds in each context
pub known_at : (s t : Scene) (here : Here) (ts : List ℕ) → s ≡ t → known (coding_context s ts here) ≡ sizes_known t
known_at s t here ts e = known_anywhere s here ts [] ∙ ap sizes_known e

-- Some actuals are coded, and where each begins is pending: with what is left it is the whole.
pub record Queues (old now : Emitter) (whole : List ℕ → List code.Coded) (rest : Form) (marked left m : ℕ) (heads more : List ℕ) : Type 0 where
  pub remains : Remains none_own old (record now { pending = old.pending }) whole rest marked left m
  pub pending : now.pending.items ++ more ≡ old.pending.items ++ heads

queues_part : {old now after : Emitter} {whole : List ℕ → List code.Coded} {rest : Form} {marked left m q n : ℕ} {heads more : List ℕ} (part behind : Form) (less k : ℕ) (fewer : List ℕ) → left ≡ max q less
    → ((ts : List ℕ) → rest (scene now) (next now) ts ≡ part (scene now) (next now) ts ▸ behind (scene now) (next now + length (part (scene now) (next now) ts)) ts)
    → more ≡ k ∷ fewer → Queues old now whole rest marked left m heads more → Codes none_own (record now { pending = old.pending }) (record after { pending = old.pending }) (part (scene now) (next now)) q n → after.pending.items ≡ now.pending.items ++ k ∷ [] → Queues old after whole behind marked less (max m n) heads fewer
queues_part {old} {now} part behind less k fewer marks parted split r c grown = record {
  remains = remains_part part behind less marks parted r.remains c;
  pending = ap (λ l. l ++ fewer) grown ∙ append_assoc now.pending.items (k ∷ []) fewer ∙ ap (λ l. now.pending.items ++ l) (sym split) ∙ r.pending;
}

queues_done : {old now : Emitter} {whole : List ℕ → List code.Coded} {rest : Form} {marked left m : ℕ} {heads more : List ℕ} → left ≡ 0 → ((ts : List ℕ) → rest (scene now) (next now) ts ≡ []) → more ≡ [] → Queues old now whole rest marked left m heads more → CodesPending old now whole marked m heads
queues_done {old} {now} marks empty none r = record {
  codes = remains_none marks empty r.remains;
  pending = sym (append-nil now.pending.items) ∙ ap (λ l. now.pending.items ++ l) (sym none) ∙ r.pending;
}

-- ---- texts

abbrev pub text_in : Here → Node → Form
text_in here n s k ts = code_text (coding_context s ts here) (place_in s here) k (actual_at n s)

abbrev pub texts_in : Here → List TypedActual → Form
texts_in here actuals s k ts = code_texts (coding_context s ts here) (place_in s here) k (actuals_given s actuals)

-- the texts of some actuals are coded by now, and these are left
pub record TextsBy (old now : Emitter) (here : Here) (actuals left : List TypedActual) (m : ℕ) : Type 0 where
  pub ready : IsCodableActuals old left PassedFit
  pub queued : Queues old now (texts_in here actuals (scene old) (next old)) (texts_in here left) (actuals_marks (actuals_given (scene old) actuals)) (actuals_marks (actuals_given (scene old) left)) m
      (text_heads (sizes_known (scene old)) (next old) (actuals_given (scene old) actuals)) (text_heads (sizes_known (scene old)) (next now) (actuals_given (scene old) left))

pub texts_first : (e : Emitter) (here : Here) (actuals : List TypedActual) → IsCodableActuals e actuals PassedFit → TextsBy e e here actuals actuals 0
texts_first e here actuals r = record { ready = r; queued = record { remains = remains_all none_own e (texts_in here actuals) (actuals_marks (actuals_given (scene e) actuals)) r.fits.code; pending = refl } }

pub texts_star : {old now : Emitter} {here : Here} {actuals : List TypedActual} {m : ℕ} (q : Place) (rest : List TypedActual) → TextsBy old now here actuals (Star q ∷ rest) m → TextsBy old now here actuals rest m
texts_star {old} q rest t = record { ready = passed_star old q rest t.ready; queued = record { remains = t.queued.remains; pending = t.queued.pending } }

-- what is left begins with a phrase, or with a star, or is nothing
pub texts_node : {old now : Emitter} {here : Here} {m : ℕ} (actuals : List TypedActual) (i : ℕ) (a : TypedActual) (n : Node) → a ≡ phrase_actual n → i < length actuals → a ≡ slice_index_or actuals i a → TextsBy old now here actuals (drop i actuals) m → TextsBy old now here actuals (phrase_actual n ∷ drop (i + 1) actuals) m
texts_node {old} {now} {here} {m} actuals i a n = left_node (λ l. TextsBy old now here actuals l m) actuals i a n

pub texts_past : {old now : Emitter} {here : Here} {m : ℕ} (actuals : List TypedActual) (i : ℕ) (a : TypedActual) (q : Place) → a ≡ Star q → i < length actuals → a ≡ slice_index_or actuals i a → TextsBy old now here actuals (drop i actuals) m → TextsBy old now here actuals (drop (i + 1) actuals) m
texts_past {old} {now} {here} {m} actuals i a q = left_past (λ l. TextsBy old now here actuals l m) texts_star actuals i a q

pub texts_end : {old now : Emitter} {here : Here} {m : ℕ} (actuals : List TypedActual) (i : ℕ) → length actuals ≤ i → TextsBy old now here actuals (drop i actuals) m → TextsBy old now here actuals [] m
texts_end {old} {now} {here} {m} actuals i = left_none (λ l. TextsBy old now here actuals l m) actuals i

pub texts_ready : {old now : Emitter} {here : Here} {actuals : List TypedActual} {m : ℕ} (n : Node) (rest : List TypedActual) → TextsBy old now here actuals (phrase_actual n ∷ rest) m → IsCodableActual now (node_in n)
texts_ready {old} n rest t = let s = t.queued.remains.stays in ready_there s.scene s.fits (passed_phrase old n rest t.ready).0

pub texts_more : {old now b : Emitter} {here : Here} {actuals : List TypedActual} {m q : ℕ} (n : Node) (rest : List TypedActual) (a : Actual) (v : Vec ℕ Global) (k j r : ℕ) → j ≡ q + 1 → r ≡ max m j → a ≡ actual_at n (scene now) → k ≡ next now → Codes none_own now b (λ ts. code_text (coding_context (scene now) ts here) (place_in (scene now) here) (next now) a) (actual_marks a) q → v.items ≡ b.pending.items ++ k ∷ []
    → TextsBy old now here actuals (phrase_actual n ∷ rest) m → TextsBy old (record b { pending = v }) here actuals rest r
texts_more {old} {now} {b} {here} {actuals} {m} {q} n rest a v k j r one most_of same at coded grown t =
    let s : Scene = scene now in
    let first : Scene = scene old in
    let e : s ≡ first = t.queued.remains.stays.scene in
    let part : Codes none_own now b (text_in here n s (next now)) (actual_marks (actual_at n s)) q = subst (λ x. Codes none_own now b (λ ts. code_text (coding_context s ts here) (place_in s here) (next now) x) (actual_marks x) q) same coded in
    let most : q ≡ actual_marks (actual_at n s) = part.most in
    let one_more : q + 1 ≡ 1 + actual_marks (actual_at n s) = omega (arith, most) in
    let aside : Codes none_own now b (text_in here n s (next now)) (1 + actual_marks (actual_at n s)) (q + 1) = codes_most (1 + actual_marks (actual_at n s)) (q + 1) one_more part in
    let far : next b ≡ next now + text_of_size (sizes_known first) (actual_at n first) =
    next_by (text_of_size (sizes_known first) (actual_at n first)) (λ ts. (text_of_sized (coding_context s ts here) (place_in s here) (next now) (actual_at n s)).by ∙ ap (λ names. text_of_size names (actual_at n s)) (known_at s first here ts e) ∙ ap (λ u. text_of_size (sizes_known first) (actual_at n u)) e) part in
    let told : r ≡ max m (q + 1) = most_of ∙ ap (max m) one in
    subst (λ z. TextsBy old (record b { pending = v }) here actuals rest z) (sym told) (record {
      ready = (passed_phrase old n rest t.ready).1;
      queued = queues_part (text_in here n) (texts_in here rest) (actuals_marks (actuals_given first rest)) k (text_heads (sizes_known first) (next b) (actuals_given first rest))
          (ap (λ u. max (1 + actual_marks (actual_at n u)) (actuals_marks (actuals_given first rest))) (sym e))
          (λ ts. ap (λ l. text_in here n s (next now) ts ▸ texts_in here rest s (next now + l) ts) (sym (text_of_sized (coding_context s ts here) (place_in s here) (next now) (actual_at n s)).by))
          (ap (λ j. j ∷ text_heads (sizes_known first) (next now + text_of_size (sizes_known first) (actual_at n first)) (actuals_given first rest)) (sym at) ∙ ap (λ j. k ∷ text_heads (sizes_known first) j (actuals_given first rest)) (sym far))
          t.queued (codes_pending old.pending old.pending refl aside) (grown ∙ ap (λ l. l ++ k ∷ []) part.stays.pending);
    })

pub texts_done : {old now : Emitter} {here : Here} {actuals : List TypedActual} {m : ℕ} → TextsBy old now here actuals [] m → CodesPending old now (texts_in here actuals (scene old) (next old)) (actuals_marks (actuals_given (scene old) actuals)) m (text_heads (sizes_known (scene old)) (next old) (actuals_given (scene old) actuals))
texts_done t = queues_done refl (λ ts. refl) refl t.queued

-- ---- in line

abbrev pub actual_in_line : Here → Node → FormalType → Form
actual_in_line here n f s k ts = code_actual (coding_context s ts here) (place_in s here) k (actual_at n s) (formal_type_view s.given f)

abbrev pub line_in : Here → Procedure → (position : ℕ) → List TypedActual → Form
line_in here p position actuals s k ts = code_actuals (coding_context s ts here) (place_in s here) k (actuals_given s actuals) (drop position (formals_given s p))

-- some actuals are coded by now, and these are left for the formals from a position on
pub record LineBy (old now : Emitter) (here : Here) (p : Procedure) (actuals left : List TypedActual) (position m : ℕ) : Type 0 where
  pub ready : IsCodableActuals old left (LeftFit position p)
  pub queued : Queues old now (line_in here p 0 actuals (scene old) (next old)) (line_in here p position left)
      (all_ready_marks (actuals_given (scene old) actuals) (formals_given (scene old) p)) (all_ready_marks (actuals_given (scene old) left) (drop position (formals_given (scene old) p))) m
      (actual_heads (sizes_known (scene old)) (next old) (actuals_given (scene old) actuals) (formals_given (scene old) p)) (actual_heads (sizes_known (scene old)) (next now) (actuals_given (scene old) left) (drop position (formals_given (scene old) p)))

pub line_first : (e : Emitter) (here : Here) (p : Procedure) (actuals : List TypedActual) → IsCodableActuals e actuals (InLineFit p) → LineBy e e here p actuals actuals 0 0
line_first e here p actuals r = record {
  ready = record { fits = r.fits; fresh = r.fresh; knows = r.knows; begun = r.begun; suits = r.suits };
  queued = record { remains = remains_all none_own e (line_in here p 0 actuals) (all_ready_marks (actuals_given (scene e) actuals) (formals_given (scene e) p)) r.fits.code; pending = refl };
}

pub line_star : {old now : Emitter} {here : Here} {p : Procedure} {actuals : List TypedActual} {position m : ℕ} (q : Place) (rest : List TypedActual) → LineBy old now here p actuals (Star q ∷ rest) position m → LineBy old now here p actuals rest position m
line_star {old} {now} {here} {p} {actuals} {position} q rest t = record { ready = left_star old position p q rest t.ready; queued = record { remains = t.queued.remains; pending = t.queued.pending } }

-- what is left begins with a phrase, or with a star, or is nothing
pub line_node : {old now : Emitter} {here : Here} {p : Procedure} {position m : ℕ} (actuals : List TypedActual) (i : ℕ) (a : TypedActual) (n : Node) → a ≡ phrase_actual n → i < length actuals → a ≡ slice_index_or actuals i a → LineBy old now here p actuals (drop i actuals) position m → LineBy old now here p actuals (phrase_actual n ∷ drop (i + 1) actuals) position m
line_node {old} {now} {here} {p} {position} {m} actuals i a n = left_node (λ l. LineBy old now here p actuals l position m) actuals i a n

pub line_past : {old now : Emitter} {here : Here} {p : Procedure} {position m : ℕ} (actuals : List TypedActual) (i : ℕ) (a : TypedActual) (q : Place) → a ≡ Star q → i < length actuals → a ≡ slice_index_or actuals i a → LineBy old now here p actuals (drop i actuals) position m → LineBy old now here p actuals (drop (i + 1) actuals) position m
line_past {old} {now} {here} {p} {position} {m} actuals i a q = left_past (λ l. LineBy old now here p actuals l position m) line_star actuals i a q

pub line_end : {old now : Emitter} {here : Here} {p : Procedure} {position m : ℕ} (actuals : List TypedActual) (i : ℕ) → length actuals ≤ i → LineBy old now here p actuals (drop i actuals) position m → LineBy old now here p actuals [] position m
line_end {old} {now} {here} {p} {position} {m} actuals i = left_none (λ l. LineBy old now here p actuals l position m) actuals i

-- what is known of the formal and the actual there
pub line_ready : {old now : Emitter} {here : Here} {p : Procedure} {actuals : List TypedActual} {position m : ℕ} (n : Node) (rest : List TypedActual) (f : FormalType) → formal_at now.symbols p position ≡ Some f → LineBy old now here p actuals (phrase_actual n ∷ rest) position m → LeftReady now position p n rest f
line_ready {old} {now} {here} {p} {actuals} {position} n rest f found t = let s = t.queued.remains.stays in left_phrase now position p n rest f found (ready_there s.scene s.fits t.ready)

pub line_actual : {old now : Emitter} {here : Here} {p : Procedure} {actuals : List TypedActual} {position m : ℕ} (n : Node) (rest : List TypedActual) (f : FormalType) (v : Vec ℕ Global) → formal_at now.symbols p position ≡ Some f → LineBy old now here p actuals (phrase_actual n ∷ rest) position m → IsCodableActual (record now { pending = v }) (node_in n)
line_actual {old} {now} n rest f v found t = ready_there {a = now} {b = record now { pending = v }} refl t.queued.remains.stays.fits (line_ready n rest f found t).actual

pub line_found : {old now : Emitter} {here : Here} {p : Procedure} {actuals : List TypedActual} {position m : ℕ} (n : Node) (rest : List TypedActual) → formal_at now.symbols p position ≡ None → LineBy old now here p actuals (phrase_actual n ∷ rest) position m → ⊥
line_found {old} {now} {here} {p} {actuals} {position} n rest found t = let s = t.queued.remains.stays in left_found now position p n rest found (ready_there s.scene s.fits t.ready)

pub line_more : {old now b : Emitter} {here : Here} {p : Procedure} {actuals : List TypedActual} {position m q : ℕ} (n : Node) (rest : List TypedActual) (f : FormalType) (v : Vec ℕ Global) (k j r : ℕ) → j ≡ q + 1 → r ≡ max m j → formal_at now.symbols p position ≡ Some f → k ≡ next now → v.items ≡ now.pending.items ++ k ∷ []
    → Codes none_own (record now { pending = v }) b (actual_in_line here n f (scene now) (next now)) (ready_marks (actual_at n (scene now)) (formal_type_view now.code.given f)) q → LineBy old now here p actuals (phrase_actual n ∷ rest) position m → LineBy old b here p actuals rest (position + 1) r
line_more {old} {now} {b} {here} {p} {actuals} {position} {m} {q} n rest f v k j r one most_of found at grown part t =
    let s : Scene = scene now in
    let first : Scene = scene old in
    let e : s ≡ first = t.queued.remains.stays.scene in
    let is : FormalNext s p position f = formal_next s p position f found in
    let was : FormalNext first p position f = subst (λ u. FormalNext u p position f) e is in
    let g : Actuals = actuals_given first rest in
    let fs : List phrases.Formal = drop (position + 1) (formals_given first p) in
    let a : Actual = actual_at n first in
    let most : q ≡ ready_marks (actual_at n s) (formal_type_view s.given f) = part.most in
    let one_more : q + 1 ≡ 1 + ready_marks (actual_at n s) (formal_type_view s.given f) = omega (arith, most) in
    let aside : Codes none_own (record now { pending = v }) b (actual_in_line here n f s (next now)) (1 + ready_marks (actual_at n s) (formal_type_view s.given f)) (q + 1) = codes_most (1 + ready_marks (actual_at n s) (formal_type_view s.given f)) (q + 1) one_more part in
    let far : next b ≡ next now + actual_size (sizes_known first) a was.formal.is =
    next_by (actual_size (sizes_known first) a was.formal.is)
    (λ ts. (actual_sized (coding_context s ts here) (place_in s here) (next now) (actual_at n s) (formal_type_view s.given f)).by ∙ ap (λ names. actual_size names (actual_at n s) (formal_type_view s.given f)) (known_at s first here ts e) ∙ ap (λ u. actual_size (sizes_known first) (actual_at n u) (formal_type_view u.given f)) e ∙ ap (actual_size (sizes_known first) a) (sym was.is)) part in
    let told : r ≡ max m (q + 1) = most_of ∙ ap (max m) one in
    subst (λ z. LineBy old b here p actuals rest (position + 1) z) (sym told) (record {
      ready = (left_phrase old position p n rest f (subst (λ (u : Scene). formal_at u.symbols p position ≡ Some f) e found) t.ready).rest;
      queued = queues_part (actual_in_line here n f) (line_in here p (position + 1) rest) (all_ready_marks g fs) k (actual_heads (sizes_known first) (next b) g fs)
          (ap (all_ready_marks (actual_and a g)) was.left ∙ ap (λ x. max (1 + ready_marks a x) (all_ready_marks g fs)) was.is ∙ ap (λ u. max (1 + ready_marks (actual_at n u) (formal_type_view u.given f)) (all_ready_marks g fs)) (sym e))
          (λ ts.
          let c : coding.Context = coding_context s ts here in
          let w : Place = place_in s here in
          let behind : List phrases.Formal = drop (position + 1) (formals_given s p) in
          ap (code_actuals c w (next now) (actual_and (actual_at n s) (actuals_given s rest))) is.left
          ∙ ap (λ x. code_actual c w (next now) (actual_at n s) x ▸ code_actuals c w (next now + actual_size (known c) (actual_at n s) x) (actuals_given s rest) behind) is.is
          ∙ ap (λ l. actual_in_line here n f s (next now) ts ▸ code_actuals c w (next now + l) (actuals_given s rest) behind) (sym (actual_sized c w (next now) (actual_at n s) (formal_type_view s.given f)).by))
          (ap (actual_heads (sizes_known first) (next now) (actual_and a g)) was.left ∙ ap (λ j. j ∷ actual_heads (sizes_known first) (next now + actual_size (sizes_known first) a was.formal.is) g fs) (sym at) ∙ ap (λ j. k ∷ actual_heads (sizes_known first) j g fs) (sym far))
          t.queued (codes_pending old.pending old.pending refl aside) (part.stays.pending ∙ grown);
    })

pub line_done : {old now : Emitter} {here : Here} {p : Procedure} {actuals : List TypedActual} {position m : ℕ} → LineBy old now here p actuals [] position m → CodesPending old now (line_in here p 0 actuals (scene old) (next old)) (all_ready_marks (actuals_given (scene old) actuals) (formals_given (scene old) p)) m (actual_heads (sizes_known (scene old)) (next old) (actuals_given (scene old) actuals) (formals_given (scene old) p))
line_done {old} {now} {here} {p} {actuals} {position} t =
    let was : drop position (formals_given (scene old) p) ≡ [] = none_behind (drop position (formals_given (scene old) p)) t.ready.suits.0 in
    let is : drop position (formals_given (scene now) p) ≡ [] = subst (λ (u : Scene). drop position (formals_given u p) ≡ []) (sym t.queued.remains.stays.scene) was in
    queues_done (ap (all_ready_marks no_actuals) was) (λ ts. ap (code_actuals (coding_context (scene now) ts here) (place_in (scene now) here) (next now) no_actuals) is) (ap (actual_heads (sizes_known (scene old)) (next now) no_actuals) was) t.queued

-- ---- assigning back in line

-- what begins the next actual is the next that is pending
pub heads_go_on : (names : List Known) (queue : List ℕ) (m k : ℕ) (given : Actuals) (fs : List phrases.Formal) → drop m queue ≡ actual_heads names k given fs → drop m queue ≡ actual_heads names (slice_index_or queue m 0) given fs
heads_go_on names queue m k no_actuals [] e = e
heads_go_on names queue m k no_actuals (f ∷ fs) e = e
heads_go_on names queue m k (actual_and a rest) [] e = e
heads_go_on names queue m k (actual_and a rest) (f ∷ fs) e = e ∙ ap (λ n. actual_heads names n (actual_and a rest) (f ∷ fs)) (sym (first_left queue m 0 k (actual_heads names (k + actual_size names a f.is) rest fs) e))

pub backs_go_on : (names : List Known) (queue : List ℕ) (m k : ℕ) (given : Actuals) (fs : List phrases.Formal) (c : coding.Context) (w : Place) (j i : ℕ) → drop m queue ≡ actual_heads names k given fs → code_backs c w j i k given fs ≡ code_backs c w j i (slice_index_or queue m 0) given fs
backs_go_on names queue m k no_actuals [] c w j i e = refl
backs_go_on names queue m k no_actuals (f ∷ fs) c w j i e = refl
backs_go_on names queue m k (actual_and a rest) [] c w j i e = refl
backs_go_on names queue m k (actual_and a rest) (f ∷ fs) c w j i e = ap (λ n. code_backs c w j i n (actual_and a rest) (f ∷ fs)) (sym (first_left queue m 0 k (actual_heads names (k + actual_size names a f.is) rest fs) e))

abbrev pub back_in : Here → (queue : List ℕ) → (first position : ℕ) → Node → FormalType → Form
back_in here queue first position n f s k ts = code_back (coding_context s ts here) (place_in s here) k position (slice_index_or queue (first + position) 0) (actual_at n s) (formal_type_view s.given f)

abbrev pub backs_in : Here → Procedure → (queue : List ℕ) → (first position : ℕ) → List TypedActual → Form
backs_in here p queue first position actuals s k ts = code_backs (coding_context s ts here) (place_in s here) k position (slice_index_or queue (first + position) 0) (actuals_given s actuals) (drop position (formals_given s p))

-- to some formals actuals are assigned back by now, and these are left
pub record BacksBy (old now : Emitter) (here : Here) (p : Procedure) (first : ℕ) (actuals left : List TypedActual) (position m : ℕ) : Type 0 where
  pub ready : IsCodableActuals old left (LeftFit position p)
  pub heads : drop (first + position) old.pending.items ≡ actual_heads (sizes_known (scene old)) (slice_index_or old.pending.items (first + position) 0) (actuals_given (scene old) left) (drop position (formals_given (scene old) p))
  pub remains : Remains none_own old now (backs_in here p old.pending.items first 0 actuals (scene old) (next old)) (backs_in here p old.pending.items first position left)
      (all_back_marks (actuals_given (scene old) actuals) (formals_given (scene old) p)) (all_back_marks (actuals_given (scene old) left) (drop position (formals_given (scene old) p))) m

pub backs_first : (e : Emitter) (here : Here) (p : Procedure) (first : ℕ) (actuals : List TypedActual) → IsCodableActuals e actuals (InLineFit p) → drop first e.pending.items ≡ actual_heads (sizes_known (scene e)) (first_pending e first) (actuals_given (scene e) actuals) (formals_given (scene e) p) → BacksBy e e here p first actuals actuals 0 0
backs_first e here p first actuals r heads = record {
  ready = record { fits = r.fits; fresh = r.fresh; knows = r.knows; begun = r.begun; suits = r.suits };
  heads = let none : first ≡ first + 0 = omega arith in subst (λ k. drop k e.pending.items ≡ actual_heads (sizes_known (scene e)) (slice_index_or e.pending.items k 0) (actuals_given (scene e) actuals) (formals_given (scene e) p)) none heads;
  remains = remains_all none_own e (backs_in here p e.pending.items first 0 actuals) (all_back_marks (actuals_given (scene e) actuals) (formals_given (scene e) p)) r.fits.code;
}

pub backs_star : {old now : Emitter} {here : Here} {p : Procedure} {first : ℕ} {actuals : List TypedActual} {position m : ℕ} (q : Place) (rest : List TypedActual) → BacksBy old now here p first actuals (Star q ∷ rest) position m → BacksBy old now here p first actuals rest position m
backs_star {old} {now} {here} {p} {first} {actuals} {position} q rest t = record { ready = left_star old position p q rest t.ready; heads = t.heads; remains = t.remains }

-- what is left begins with a phrase, or with a star, or is nothing
pub backs_node : {old now : Emitter} {here : Here} {p : Procedure} {first position m : ℕ} (actuals : List TypedActual) (i : ℕ) (a : TypedActual) (n : Node) → a ≡ phrase_actual n → i < length actuals → a ≡ slice_index_or actuals i a → BacksBy old now here p first actuals (drop i actuals) position m → BacksBy old now here p first actuals (phrase_actual n ∷ drop (i + 1) actuals) position m
backs_node {old} {now} {here} {p} {first} {position} {m} actuals i a n = left_node (λ l. BacksBy old now here p first actuals l position m) actuals i a n

pub backs_past : {old now : Emitter} {here : Here} {p : Procedure} {first position m : ℕ} (actuals : List TypedActual) (i : ℕ) (a : TypedActual) (q : Place) → a ≡ Star q → i < length actuals → a ≡ slice_index_or actuals i a → BacksBy old now here p first actuals (drop i actuals) position m → BacksBy old now here p first actuals (drop (i + 1) actuals) position m
backs_past {old} {now} {here} {p} {first} {position} {m} actuals i a q = left_past (λ l. BacksBy old now here p first actuals l position m) backs_star actuals i a q

pub backs_end : {old now : Emitter} {here : Here} {p : Procedure} {first position m : ℕ} (actuals : List TypedActual) (i : ℕ) → length actuals ≤ i → BacksBy old now here p first actuals (drop i actuals) position m → BacksBy old now here p first actuals [] position m
backs_end {old} {now} {here} {p} {first} {position} {m} actuals i = left_none (λ l. BacksBy old now here p first actuals l position m) actuals i

pub backs_ready : {old now : Emitter} {here : Here} {p : Procedure} {first : ℕ} {actuals : List TypedActual} {position m : ℕ} (n : Node) (rest : List TypedActual) (f : FormalType) → formal_at now.symbols p position ≡ Some f → BacksBy old now here p first actuals (phrase_actual n ∷ rest) position m → LeftReady now position p n rest f
backs_ready {old} {now} {here} {p} {first} {actuals} {position} n rest f found t = left_phrase now position p n rest f found (ready_there t.remains.stays.scene t.remains.stays.fits t.ready)

pub backs_found : {old now : Emitter} {here : Here} {p : Procedure} {first : ℕ} {actuals : List TypedActual} {position m : ℕ} (n : Node) (rest : List TypedActual) → formal_at now.symbols p position ≡ None → BacksBy old now here p first actuals (phrase_actual n ∷ rest) position m → ⊥
backs_found {old} {now} {here} {p} {first} {actuals} {position} n rest found t = left_found now position p n rest found (ready_there t.remains.stays.scene t.remains.stays.fits t.ready)

-- what is pending for it is there
pub backs_inside : {old now : Emitter} {here : Here} {p : Procedure} {first : ℕ} {actuals : List TypedActual} {position m : ℕ} (n : Node) (rest : List TypedActual) (f : FormalType) → formal_at now.symbols p position ≡ Some f → BacksBy old now here p first actuals (phrase_actual n ∷ rest) position m → first + position < length now.pending.items
backs_inside {old} {now} {here} {p} {first} {actuals} {position} n rest f found t =
    let s : Scene = scene old in
    let queue : List ℕ = old.pending.items in
    let was : FormalNext s p position f = formal_next s p position f (subst (λ (u : Scene). formal_at u.symbols p position ≡ Some f) t.remains.stays.scene found) in
    let there : ℕ = slice_index_or queue (first + position) 0 in
    let behind : List ℕ = actual_heads (sizes_known s) (there + actual_size (sizes_known s) (actual_at n s) was.formal.is) (actuals_given s rest) (drop (position + 1) (formals_given s p)) in
    let heads : drop (first + position) queue ≡ there ∷ behind = t.heads ∙ ap (actual_heads (sizes_known s) there (actuals_given s (phrase_actual n ∷ rest))) was.left in
    subst (λ l. first + position < length l) (sym t.remains.stays.pending) (inside_left queue (first + position) there behind heads)

pub backs_more : {old now b : Emitter} {here : Here} {p : Procedure} {first : ℕ} {actuals : List TypedActual} {position m q : ℕ} (n : Node) (rest : List TypedActual) (f : FormalType) (k i r d : ℕ) → r ≡ max m q → formal_at now.symbols p position ≡ Some f → k ≡ slice_index_or now.pending.items (first + position) d → i ≡ position
    → Codes none_own now b (λ ts. code_back (coding_context (scene now) ts here) (place_in (scene now) here) (next now) i k (actual_at n (scene now)) (formal_type_view now.code.given f)) (back_marks (actual_at n (scene now)) (formal_type_view now.code.given f)) q
    → BacksBy old now here p first actuals (phrase_actual n ∷ rest) position m → BacksBy old b here p first actuals rest (position + 1) r
backs_more {old} {now} {b} {here} {p} {first} {actuals} {position} {m} {q} n rest f k i r d told found at numbered part t =
    let s : Scene = scene now in
    let before : Scene = scene old in
    let queue : List ℕ = old.pending.items in
    let e : s ≡ before = t.remains.stays.scene in
    let is : FormalNext s p position f = formal_next s p position f found in
    let was : FormalNext before p position f = subst (λ u. FormalNext u p position f) e is in
    let a : Actual = actual_at n before in
    let g : Actuals = actuals_given before rest in
    let fs : List phrases.Formal = drop (position + 1) (formals_given before p) in
    let there : ℕ = slice_index_or queue (first + position) 0 in
    let more : drop (first + position) queue ≡ there ∷ actual_heads (sizes_known before) (there + actual_size (sizes_known before) a was.formal.is) g fs = t.heads ∙ ap (actual_heads (sizes_known before) there (actual_and a g)) was.left in
    let begins : k ≡ there = at ∙ ap (λ l. slice_index_or l (first + position) d) t.remains.stays.pending ∙ first_left queue (first + position) d there (actual_heads (sizes_known before) (there + actual_size (sizes_known before) a was.formal.is) g fs) more in
    let coded : Codes none_own now b (back_in here queue first position n f s (next now)) (back_marks (actual_at n s) (formal_type_view s.given f)) q =
    codes_as (back_in here queue first position n f s (next now)) (back_marks (actual_at n s) (formal_type_view s.given f))
    (λ ts h. ap (λ j. code_back (coding_context s ts here) (place_in s here) (next now) j k (actual_at n s) (formal_type_view s.given f)) numbered ∙ ap (λ j. code_back (coding_context s ts here) (place_in s here) (next now) position j (actual_at n s) (formal_type_view s.given f)) begins) refl part in
    let next_one : first + (position + 1) ≡ first + position + 1 = omega arith in
    let behind : drop (first + (position + 1)) queue ≡ actual_heads (sizes_known before) (there + actual_size (sizes_known before) a was.formal.is) g fs = ap (λ j. drop j queue) next_one ∙ tail_left queue (first + position) there (actual_heads (sizes_known before) (there + actual_size (sizes_known before) a was.formal.is) g fs) more in
    subst (λ z. BacksBy old b here p first actuals rest (position + 1) z) (sym told) (record {
      ready = (left_phrase old position p n rest f (subst (λ (u : Scene). formal_at u.symbols p position ≡ Some f) e found) t.ready).rest;
      heads = heads_go_on (sizes_known before) queue (first + (position + 1)) (there + actual_size (sizes_known before) a was.formal.is) g fs behind;
      remains = remains_part (back_in here queue first position n f) (backs_in here p queue first (position + 1) rest) (all_back_marks g fs)
          (ap (all_back_marks (actual_and a g)) was.left ∙ ap (λ x. max (back_marks a x) (all_back_marks g fs)) was.is ∙ ap (λ u. max (back_marks (actual_at n u) (formal_type_view u.given f)) (all_back_marks g fs)) (sym e))
          (λ ts.
          let c : coding.Context = coding_context s ts here in
          let w : Place = place_in s here in
          let x : typing.FormalType = formal_type_view s.given f in
          let now_left : List phrases.Formal = drop (position + 1) (formals_given s p) in
          let there_too : drop (first + (position + 1)) queue ≡ actual_heads (known c) (there + actual_size (known c) (actual_at n s) x) (actuals_given s rest) now_left =
          behind
          ∙ ap (λ y. actual_heads (sizes_known before) (there + actual_size (sizes_known before) a y) g fs) was.is
          ∙ ap (λ u. actual_heads (sizes_known before) (there + actual_size (sizes_known before) (actual_at n u) (formal_type_view u.given f)) (actuals_given u rest) (drop (position + 1) (formals_given u p))) (sym e)
          ∙ ap (λ names. actual_heads names (there + actual_size names (actual_at n s) x) (actuals_given s rest) now_left) (sym (known_at s before here ts e)) in
          ap (code_backs c w (next now) position there (actual_and (actual_at n s) (actuals_given s rest))) is.left
          ∙ ap (λ y. code_back c w (next now) position there (actual_at n s) y ▸ code_backs c w (next now + back_of_size (known c) (actual_at n s) y) (position + 1) (there + actual_size (known c) (actual_at n s) y) (actuals_given s rest) now_left) is.is
          ∙ ap (λ l. back_in here queue first position n f s (next now) ts ▸ l) (backs_go_on (known c) queue (first + (position + 1)) (there + actual_size (known c) (actual_at n s) x) (actuals_given s rest) now_left c w (next now + back_of_size (known c) (actual_at n s) x) (position + 1) there_too)
          ∙ ap (λ l. back_in here queue first position n f s (next now) ts ▸ backs_in here p queue first (position + 1) rest s (next now + l) ts) (sym (back_of_sized c w (next now) position there (actual_at n s) x).by))
          t.remains coded;
    })

pub backs_done : {old now : Emitter} {here : Here} {p : Procedure} {first : ℕ} {actuals : List TypedActual} {position m : ℕ} → BacksBy old now here p first actuals [] position m → Codes none_own old now (backs_in here p old.pending.items first 0 actuals (scene old) (next old)) (all_back_marks (actuals_given (scene old) actuals) (formals_given (scene old) p)) m
backs_done {old} {now} {here} {p} {first} {actuals} {position} t =
    let was : drop position (formals_given (scene old) p) ≡ [] = none_behind (drop position (formals_given (scene old) p)) t.ready.suits.0 in
    let is : drop position (formals_given (scene now) p) ≡ [] = subst (λ (u : Scene). drop position (formals_given u p) ≡ []) (sym t.remains.stays.scene) was in
    remains_none (ap (all_back_marks no_actuals) was) (λ ts. ap (code_backs (coding_context (scene now) ts here) (place_in (scene now) here) (next now) position (slice_index_or old.pending.items (first + position) 0) no_actuals) is) t.remains

-- where the procedure's entries are there, at the first that are pending
pub backs_told : {old now : Emitter} {q m : ℕ} (here called : Here) (p : Procedure) (first k : ℕ) (actuals : List TypedActual) → k ≡ p.count + 1 → called ≡ heres.with_entries here k → Codes none_own old now (backs_in called p old.pending.items first 0 actuals (scene old) (next old)) q m
    → Codes none_own old now (λ ts. code_backs (coding.with_entries (1 + p.count) (coding_context (scene old) ts here)) (place_in (scene old) here) (next old) 0 (first_pending old first) (actuals_given (scene old) actuals) (formals_given (scene old) p)) q m
backs_told {old} {now} {q} here called p first k actuals counted is part =
    let s : Scene = scene old in
    let queue : List ℕ = old.pending.items in
    let none : first + 0 ≡ first = omega arith in
    let many : here.entries + k ≡ here.entries + (1 + p.count) = omega (arith, counted) in
    codes_as (λ ts. code_backs (coding.with_entries (1 + p.count) (coding_context s ts here)) (place_in s here) (next old) 0 (first_pending old first) (actuals_given s actuals) (formals_given s p)) q
    (λ ts h.
    ap (λ (j : Here). backs_in j p queue first 0 actuals s (next old) ts) is
    ∙ ap (λ j. code_backs (record { names = (coding_context s ts here).names; level = here.level; count = j }) (place_in s here) (next old) 0 (slice_index_or queue (first + 0) 0) (actuals_given s actuals) (formals_given s p)) many
    ∙ ap (λ j. code_backs (coding.with_entries (1 + p.count) (coding_context s ts here)) (place_in s here) (next old) 0 (slice_index_or queue j 0) (actuals_given s actuals) (formals_given s p)) none) refl part

-- ---- assigning back where a call compares

pub texts_go_on : (names : List Known) (queue : List ℕ) (m k : ℕ) (given : Actuals) → drop m queue ≡ text_heads names k given → drop m queue ≡ text_heads names (slice_index_or queue m 0) given
texts_go_on names queue m k no_actuals e = e
texts_go_on names queue m k (actual_and a rest) e = e ∙ ap (λ n. text_heads names n (actual_and a rest)) (sym (first_left queue m 0 k (text_heads names (k + text_of_size names a) rest) e))

pub places_go_on : (names : List Known) (queue : List ℕ) (m k : ℕ) (given : Actuals) (w : Place) (i : ℕ) → drop m queue ≡ text_heads names k given → place_backs_code names w i k given ≡ place_backs_code names w i (slice_index_or queue m 0) given
places_go_on names queue m k no_actuals w i e = refl
places_go_on names queue m k (actual_and a rest) w i e = ap (λ n. place_backs_code names w i n (actual_and a rest)) (sym (first_left queue m 0 k (text_heads names (k + text_of_size names a) rest) e))

abbrev pub place_back_in : Here → (queue : List ℕ) → (first position : ℕ) → Node → Form
place_back_in here queue first position n s k ts = place_back_code (place_in s here) position (slice_index_or queue (first + position) 0) (actual_at n s)

abbrev pub place_backs_in : Here → (queue : List ℕ) → (first position : ℕ) → List TypedActual → Form
place_backs_in here queue first position actuals s k ts = place_backs_code (sizes_known s) (place_in s here) position (slice_index_or queue (first + position) 0) (actuals_given s actuals)

pub record PlacesBy (old now : Emitter) (here : Here) (first : ℕ) (actuals left : List TypedActual) (position : ℕ) : Type 0 where
  pub ready : IsCodableActuals old left PassedFit
  pub heads : drop (first + position) old.pending.items ≡ text_heads (sizes_known (scene old)) (slice_index_or old.pending.items (first + position) 0) (actuals_given (scene old) left)
  pub remains : Remains none_own old now (place_backs_in here old.pending.items first 0 actuals (scene old) (next old)) (place_backs_in here old.pending.items first position left) 0 0 0

pub places_first : (e : Emitter) (here : Here) (first : ℕ) (actuals : List TypedActual) → IsCodableActuals e actuals PassedFit → drop first e.pending.items ≡ text_heads (sizes_known (scene e)) (first_pending e first) (actuals_given (scene e) actuals) → PlacesBy e e here first actuals actuals 0
places_first e here first actuals r heads = record {
  ready = r;
  heads = let none : first ≡ first + 0 = omega arith in subst (λ k. drop k e.pending.items ≡ text_heads (sizes_known (scene e)) (slice_index_or e.pending.items k 0) (actuals_given (scene e) actuals)) none heads;
  remains = remains_all none_own e (place_backs_in here e.pending.items first 0 actuals) 0 r.fits.code;
}

pub places_star : {old now : Emitter} {here : Here} {first : ℕ} {actuals : List TypedActual} {position : ℕ} (q : Place) (rest : List TypedActual) → PlacesBy old now here first actuals (Star q ∷ rest) position → PlacesBy old now here first actuals rest position
places_star {old} q rest t = record { ready = passed_star old q rest t.ready; heads = t.heads; remains = t.remains }

-- what is left begins with a phrase, or with a star, or is nothing
pub places_node : {old now : Emitter} {here : Here} {first position : ℕ} (actuals : List TypedActual) (i : ℕ) (a : TypedActual) (n : Node) → a ≡ phrase_actual n → i < length actuals → a ≡ slice_index_or actuals i a → PlacesBy old now here first actuals (drop i actuals) position → PlacesBy old now here first actuals (phrase_actual n ∷ drop (i + 1) actuals) position
places_node {old} {now} {here} {first} {position} actuals i a n = left_node (λ l. PlacesBy old now here first actuals l position) actuals i a n

pub places_past : {old now : Emitter} {here : Here} {first position : ℕ} (actuals : List TypedActual) (i : ℕ) (a : TypedActual) (q : Place) → a ≡ Star q → i < length actuals → a ≡ slice_index_or actuals i a → PlacesBy old now here first actuals (drop i actuals) position → PlacesBy old now here first actuals (drop (i + 1) actuals) position
places_past {old} {now} {here} {first} {position} actuals i a q = left_past (λ l. PlacesBy old now here first actuals l position) places_star actuals i a q

pub places_end : {old now : Emitter} {here : Here} {first position : ℕ} (actuals : List TypedActual) (i : ℕ) → length actuals ≤ i → PlacesBy old now here first actuals (drop i actuals) position → PlacesBy old now here first actuals [] position
places_end {old} {now} {here} {first} {position} actuals i = left_none (λ l. PlacesBy old now here first actuals l position) actuals i

pub places_ready : {old now : Emitter} {here : Here} {first : ℕ} {actuals : List TypedActual} {position : ℕ} (n : Node) (rest : List TypedActual) → PlacesBy old now here first actuals (phrase_actual n ∷ rest) position → IsCodableActual now (node_in n)
places_ready {old} n rest t = ready_there t.remains.stays.scene t.remains.stays.fits (passed_phrase old n rest t.ready).0

-- a type that it gives is in the tables
pub places_kind : {old now : Emitter} {here : Here} {first : ℕ} {actuals : List TypedActual} {position : ℕ} (n : Node) (rest : List TypedActual) → PlacesBy old now here first actuals (phrase_actual n ∷ rest) position → KindsFit now.code.given (type_given n.gives)
places_kind {old} {now} n rest p = let r = places_ready n rest p in given_fits (scene now) r.fits.scene n.gives r.knows.0

pub places_inside : {old now : Emitter} {here : Here} {first : ℕ} {actuals : List TypedActual} {position : ℕ} (n : Node) (rest : List TypedActual) → PlacesBy old now here first actuals (phrase_actual n ∷ rest) position → first + position < length now.pending.items
places_inside {old} {now} {here} {first} {actuals} {position} n rest t =
    let s : Scene = scene old in
    let queue : List ℕ = old.pending.items in
    let there : ℕ = slice_index_or queue (first + position) 0 in
    let behind : List ℕ = text_heads (sizes_known s) (there + text_of_size (sizes_known s) (actual_at n s)) (actuals_given s rest) in
    subst (λ l. first + position < length l) (sym t.remains.stays.pending) (inside_left queue (first + position) there behind t.heads)

pub places_more : {old now b : Emitter} {here : Here} {first : ℕ} {actuals : List TypedActual} {position : ℕ} (n : Node) (rest : List TypedActual) (k i d : ℕ) → k ≡ slice_index_or now.pending.items (first + position) d → i ≡ position
    → Codes none_own now b (λ ts. place_back_code (place_in (scene now) here) i k (actual_at n (scene now))) 0 0 → PlacesBy old now here first actuals (phrase_actual n ∷ rest) position → PlacesBy old b here first actuals rest (position + 1)
places_more {old} {now} {b} {here} {first} {actuals} {position} n rest k i d at numbered part t =
    let s : Scene = scene now in
    let before : Scene = scene old in
    let queue : List ℕ = old.pending.items in
    let e : s ≡ before = t.remains.stays.scene in
    let a : Actual = actual_at n before in
    let g : Actuals = actuals_given before rest in
    let there : ℕ = slice_index_or queue (first + position) 0 in
    let begins : k ≡ there = at ∙ ap (λ l. slice_index_or l (first + position) d) t.remains.stays.pending ∙ first_left queue (first + position) d there (text_heads (sizes_known before) (there + text_of_size (sizes_known before) a) g) t.heads in
    let coded : Codes none_own now b (place_back_in here queue first position n s (next now)) 0 0 =
    codes_as (place_back_in here queue first position n s (next now)) 0 (λ ts h. ap (λ j. place_back_code (place_in s here) j k (actual_at n s)) numbered ∙ ap (λ j. place_back_code (place_in s here) position j (actual_at n s)) begins) refl part in
    let next_one : first + (position + 1) ≡ first + position + 1 = omega arith in
    let behind : drop (first + (position + 1)) queue ≡ text_heads (sizes_known before) (there + text_of_size (sizes_known before) a) g = ap (λ j. drop j queue) next_one ∙ tail_left queue (first + position) there (text_heads (sizes_known before) (there + text_of_size (sizes_known before) a) g) t.heads in
    let there_too : drop (first + (position + 1)) queue ≡ text_heads (sizes_known s) (there + text_of_size (sizes_known s) (actual_at n s)) (actuals_given s rest) = behind ∙ ap (λ u. text_heads (sizes_known u) (there + text_of_size (sizes_known u) (actual_at n u)) (actuals_given u rest)) (sym e) in
    record {
      ready = (passed_phrase old n rest t.ready).1;
      heads = texts_go_on (sizes_known before) queue (first + (position + 1)) (there + text_of_size (sizes_known before) a) g behind;
      remains = remains_part (place_back_in here queue first position n) (place_backs_in here queue first (position + 1) rest) 0 refl
          (λ ts. ap (λ l. place_back_in here queue first position n s (next now) ts ▸ l) (places_go_on (sizes_known s) queue (first + (position + 1)) (there + text_of_size (sizes_known s) (actual_at n s)) (actuals_given s rest) (place_in s here) (position + 1) there_too))
          t.remains coded;
    }

pub places_done : {old now : Emitter} {here : Here} {first : ℕ} {actuals : List TypedActual} {position : ℕ} → PlacesBy old now here first actuals [] position → Codes none_own old now (place_backs_in here old.pending.items first 0 actuals (scene old) (next old)) 0 0
places_done t = remains_none refl (λ ts. refl) t.remains
