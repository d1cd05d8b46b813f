-- A WRITE, part by part.
use Rattle.std.proofs.Common.{◌≡◌, ℕ, ◌+◌, ◌<◌, ◌≤◌, max, List, [], ◌∷◌, drop, length, Option, Some, None, refl, sym, ap, ◌∙◌, subst, arith}
use Rattle.std.specs.Prelude.{Bool, false, slice_index_or}
use Rattle.std.proofs.lemmas.List.{drop_all}
use Rattle.value_ops.specs.declared.places.Place.{Place}
use Rattle.algolw_tree.specs.declared.programs.Node.{Node}
use Rattle.algolw_tree.specs.declared.programs.TypedActual.{TypedActual, Star}
use Rattle.algolw_tree.specs.declared.standard.Width.{Width}
use Rattle.program_meaning.specs.Phrases.{Phrase, Role, placed, sets, no_phrases, phrase_and}
use Rattle.program_meaning.specs.Translating.{roles_of, written_of}
use Rattle.phrase_code.specs.Coding as coding
use Rattle.phrase_code.specs.Coding.{code_writes, known}
use Rattle.phrase_code.specs.Marks.{phrases_marks, width_marks}
use Rattle.phrase_code.specs.Sizes.{size}
use Rattle.stack_code.specs.Code as code
use Rattle.stack_code.specs.CodeView.{CodeFits}
use Rattle.stack_code.specs.declared.instructions.Instr.TheVariants as held
use Rattle.stack_code.specs.declared.instructions.Mode.TheVariants as mode
use Rattle.symbol_table.specs.declared.here.Here.{Here}
use Rattle.symbol_table.specs.Contexts.{Scene, coding_context, numbers_in, phrase_context}
use Rattle.symbol_table.specs.Parts.{actuals_in}
use Rattle.symbol_table.proofs.Declaring.{next_out}
use Rattle.code_emitter.specs.declared.emitter.Emitter.{Emitter}
use Rattle.code_emitter.specs.Appending.{appended}
use Rattle.code_emitter.specs.Forms.{Form}
use Rattle.code_emitter.specs.Parts.{Codes, CodesPhrase, next, none_own, one_in, place_in, scene}
use Rattle.code_emitter.proofs.Joining.{codes_as, codes_is, codes_plain}
use Rattle.code_emitter.proofs.Remaining.{Remains, remains_all, remains_each, remains_last, remains_left}
use Rattle.stack_codegen.specs.declared.writes.Writing.{Writing}
use Rattle.stack_codegen.specs.Codable.{node_in}
use Rattle.stack_codegen.specs.Writes.{CodesWrites, CodesWritten, behind_value, end_at, marks_at, open_at, role_in, value_in, writes_code, writes_marks, writing_behind, written_instr}
use Rattle.stack_codegen.proofs.ListParts.{as_actual}

-- ---- what is left

abbrev pub left_writes : Writing → List TypedActual → Form
left_writes w actuals s k ts = writes_code s w k (actuals_in (numbers_in s) actuals) ts

abbrev pub left_marks : Scene → List TypedActual → ℕ
left_marks s actuals = phrases_marks (written_of (phrase_context s) (actuals_in (numbers_in s) actuals))

abbrev pub left_roles : Scene → List TypedActual → List Role
left_roles s actuals = roles_of (phrase_context s).known (actuals_in (numbers_in s) actuals)

-- the mark of the widths' entry: where it isn't there yet, a setting may be left
abbrev pub own_left : Option ℕ → List Role → ℕ
own_left None roles = width_marks roles
own_left (Some p) roles = 1

abbrev at_start : Here → Bool → Writing
at_start here first = record { here = here; first = first; position = None }

-- the parts behind the i-th actual are left
pub record WritesLeft (old now : Emitter) (here : Here) (first : Bool) (w : Writing) (actuals : List TypedActual) (i m : ℕ) : Type 0 where
  pub left : Remains none_own old now (writes_code (scene old) (at_start here first) (next old) (actuals_in (numbers_in (scene old)) actuals)) (left_writes w (drop i actuals)) (left_marks (scene old) actuals) (left_marks (scene old) (drop i actuals)) m
  pub own : own_left w.position (left_roles (scene old) (drop i actuals)) ≡ width_marks (left_roles (scene old) actuals)

pub writes_begun : (e : Emitter) (here : Here) (first : Bool) (actuals : List TypedActual) → CodeFits e.code → WritesLeft e e here first (at_start here first) actuals 0 0
writes_begun e here first actuals h = record { left = remains_all none_own e (left_writes (at_start here first) actuals) (left_marks (scene e) actuals) h; own = refl }

-- ---- the part in front

module _ (old now b after : Emitter) (whole : List ℕ → List code.Coded) (marked m n : ℕ) (here : Here) (first : Bool) (x : Node) (rest : List TypedActual) where
  abbrev s : Scene
  s = scene now

  abbrev value : Phrase
  value = value_in s (node_in x s)

  abbrev Before : Option ℕ → Type 0
  Before p = Remains none_own old now whole (left_writes (record { here = here; first = first; position = p }) (as_actual x ∷ rest)) marked (left_marks s (as_actual x ∷ rest)) m

  abbrev Behind : Writing → Type 0
  Behind w = Remains none_own old after whole (left_writes w rest) marked (left_marks s rest) (max m n)

  -- with this role in front
  abbrev by_role : Option ℕ → List ℕ → Role → List code.Coded
  by_role p ts o = code_writes (coding_context s ts here) (place_in s here) first p (next now) (o ∷ left_roles s rest) (phrase_and value (written_of (phrase_context s) (actuals_in (numbers_in s) rest)))

  placed_step : (p : Option ℕ) → role_in s (node_in x s) ≡ placed → Before p → CodesPhrase now b here mode.Value value n → after ≡ appended b here (held.Write first p) → Behind (record { here = here; first = false; position = p })
  placed_step p is r c e = remains_each here mode.Value value (held.Write first p) (left_writes (record { here = here; first = false; position = p }) rest) (left_marks s rest) refl tt refl (λ ts. ap (by_role p ts) is) r c e

  sets_step : (p : Option ℕ) (width : Width) → role_in s (node_in x s) ≡ sets width → Before p → CodesPhrase now b here mode.Value value n → after ≡ appended b here (held.SetWidth width p) → Behind (open_at here first p)
  sets_step None width is r c e = remains_each here mode.Value value (held.SetWidth width None) (left_writes (open_at here first None) rest) (left_marks s rest) refl tt refl (λ ts. ap (by_role None ts) is) r c e
  sets_step (Some p) width is r c e = remains_each here mode.Value value (held.SetWidth width (Some p)) (left_writes (open_at here first (Some p)) rest) (left_marks s rest) refl tt refl (λ ts. ap (by_role (Some p) ts) is) r c e

  written_step : (p : Option ℕ) (o : Role) → role_in s (node_in x s) ≡ o → Before p → CodesPhrase now b here mode.Value value n → after ≡ appended b here (written_instr o (record { here = here; first = first; position = p })) → Behind (writing_behind o (record { here = here; first = first; position = p }))
  written_step p placed is r c e = placed_step p is r c e
  written_step p (sets width) is r c e = sets_step p width is r c e

-- the mark stays told
own_step : (w : Writing) (o : Role) (roles : List Role) → own_left w.position (o ∷ roles) ≡ own_left (writing_behind o w).position roles
own_step w o roles = by w.position o
  where
    by : (p : Option ℕ) (o : Role) → own_left p (o ∷ roles) ≡ own_left (writing_behind o (record { here = w.here; first = w.first; position = p })).position roles
    by None placed = refl
    by None (sets width) = refl
    by (Some p) placed = refl
    by (Some p) (sets width) = refl

-- ---- by index

pub writes_next : {old now after : Emitter} {m n k : ℕ} {w behind : Writing} (here : Here) (first : Bool) (actuals : List TypedActual) (i : ℕ) (x : Node) → i < length actuals → as_actual x ≡ slice_index_or actuals i (as_actual x) → k ≡ max m n → WritesLeft old now here first w actuals i m → CodesWritten now after w x n behind → WritesLeft old after here first behind actuals (i + 1) k
writes_next {old} {now} {after} {m} {n} {k} {w} {behind} here first actuals i x l is larger r c =
    let whole = writes_code (scene old) (at_start here first) (next old) (actuals_in (numbers_in (scene old)) actuals) in
    let all = left_marks (scene old) actuals in
    let o = role_in (scene now) (node_in x (scene now)) in
    let rest = drop (i + 1) actuals in
    let front = next_out actuals i (as_actual x) l is in
    let left : Remains none_own old now whole (left_writes w (as_actual x ∷ rest)) all (left_marks (scene now) (as_actual x ∷ rest)) m =
    subst (λ (s : Scene). Remains none_own old now whole (left_writes w (as_actual x ∷ rest)) all (left_marks s (as_actual x ∷ rest)) m) (sym r.left.stays.scene)
    (subst (λ (ys : List TypedActual). Remains none_own old now whole (left_writes w ys) all (left_marks (scene old) ys) m) front r.left) in
    let step : Remains none_own old after whole (left_writes (writing_behind o w) rest) all (left_marks (scene now) rest) (max m n) = written_step old now c.between after whole all m n w.here w.first x rest w.position o refl left c.value c.does in
    let there : Remains none_own old after whole (left_writes behind rest) all (left_marks (scene old) rest) (max m n) =
    subst (λ (s : Scene). Remains none_own old after whole (left_writes behind rest) all (left_marks s rest) (max m n)) r.left.stays.scene
    (subst (λ v. Remains none_own old after whole (left_writes v rest) all (left_marks (scene now) rest) (max m n)) (sym c.goes) step) in
    let role_same : role_in (scene old) (node_in x (scene old)) ≡ o = ap (λ (s : Scene). role_in s (node_in x s)) (sym r.left.stays.scene) in
    record {
      left = subst (λ j. Remains none_own old after whole (left_writes behind rest) all (left_marks (scene old) rest) j) (sym larger) there;
      own = ap (λ v. own_left v.position (left_roles (scene old) rest)) c.goes
          ∙ sym (own_step w o (left_roles (scene old) rest))
          ∙ sym (ap (λ o'. own_left w.position (o' ∷ left_roles (scene old) rest)) role_same)
          ∙ sym (ap (λ ys. own_left w.position (left_roles (scene old) ys)) front) ∙ r.own;
    }

pub writes_past : {old now : Emitter} {m : ℕ} {w : Writing} (here : Here) (first : Bool) (actuals : List TypedActual) (i : ℕ) (q : Place) → i < length actuals → Star q ≡ slice_index_or actuals i (Star q) → WritesLeft old now here first w actuals i m → WritesLeft old now here first w actuals (i + 1) m
writes_past {old} {now} {m} {w} here first actuals i q l is r =
    let front = next_out actuals i (Star q) l is in
    record {
      left = remains_left (left_writes w (drop (i + 1) actuals)) (left_marks (scene old) (drop (i + 1) actuals)) (λ ts. ap (λ ys. left_writes w ys (scene now) (next now) ts) front) (ap (left_marks (scene old)) front) r.left;
      own = sym (ap (λ ys. own_left w.position (left_roles (scene old) ys)) front) ∙ r.own;
    }

-- the end
end_codes : (e : Emitter) (w : Writing) (p : Option ℕ) → CodeFits e.code → Codes none_own e (appended e w.here (end_at p)) (λ ts. code_writes (coding_context (scene e) ts w.here) (place_in (scene e) w.here) w.first p (next e) [] no_phrases) 0 0
end_codes e w None h = codes_plain none_own e w.here held.Nothing h tt refl
end_codes e w (Some p) h = codes_plain none_own e w.here (held.CloseWidths p) h tt refl

pub writes_done : {old now after : Emitter} {m k : ℕ} {w : Writing} (here : Here) (first : Bool) (actuals : List TypedActual) (i : ℕ) → length actuals ≤ i → WritesLeft old now here first w actuals i m → after ≡ appended now w.here (end_at w.position) → k ≡ marks_at w.position + m → CodesWrites old after here first actuals k
writes_done {old} {now} {after} {m} {k} {w} here first actuals i l r e total =
    let gone = drop_all i actuals l in
    let left = subst (λ (ys : List TypedActual). Remains none_own old now (writes_code (scene old) (at_start here first) (next old) (actuals_in (numbers_in (scene old)) actuals)) (left_writes w ys) (left_marks (scene old) actuals) (left_marks (scene old) ys) m) gone r.left in
    let coded = remains_last left (codes_is e (end_codes now w w.position r.left.stays.fits)) in
    let own : marks_at w.position ≡ width_marks (left_roles (scene old) actuals) = own_end w.position ∙ sym (ap (λ ys. own_left w.position (left_roles (scene old) ys)) gone) ∙ r.own in
    let most = coded.most in
    record { stays = coded.stays; behind = coded.behind; most = omega (arith, most, own, total) }
  where
    own_end : (p : Option ℕ) → marks_at p ≡ own_left p []
    own_end None = refl
    own_end (Some p) = refl

-- ---- told by the code's own values

pub writes_told : {old now after : Emitter} {m n k : ℕ} {w behind : Writing} (here : Here) (first : Bool) (actuals : List TypedActual) (i : ℕ) (a : TypedActual) (x : Node) → a ≡ as_actual x → i < length actuals → a ≡ slice_index_or actuals i a → k ≡ max m n → WritesLeft old now here first w actuals i m → CodesWritten now after w x n behind → WritesLeft old after here first behind actuals (i + 1) k
writes_told here first actuals i a x is l there = writes_next here first actuals i x l (subst (λ y. y ≡ slice_index_or actuals i y) is there)

pub writes_over : {old now : Emitter} {m : ℕ} {w : Writing} (here : Here) (first : Bool) (actuals : List TypedActual) (i : ℕ) (a : TypedActual) (q : Place) → a ≡ Star q → i < length actuals → a ≡ slice_index_or actuals i a → WritesLeft old now here first w actuals i m → WritesLeft old now here first w actuals (i + 1) m
writes_over here first actuals i a q is l there = writes_past here first actuals i q l (subst (λ y. y ≡ slice_index_or actuals i y) is there)
