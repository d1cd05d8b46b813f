-- One declaration is coded when its parts are.
use Rattle.std.proofs.Common.{◌≡◌, ℕ, max, List, [], ◌∷◌, ◌++◌, refl, sym, ap, ◌∙◌, subst, arith}
use Rattle.std.specs.declared.vec.Vec.{Vec}
use Rattle.std.specs.declared.alloc.Global.{Global}
use Rattle.std.proofs.lemmas.List.{append-nil}
use Rattle.value_ops.specs.declared.places.Place.{Place}
use Rattle.value_ops.specs.declared.values.SimpleType.{SimpleType}
use Rattle.algolw_tree.specs.declared.programs.TypedBound.{TypedBound}
use Rattle.algolw_tree.specs.declared.programs.TypedClass.{TypedClass}
use Rattle.algolw_tree.specs.declared.programs.TypedDecl.{Array, Class, Simple}
use Rattle.algolw_typing.specs.Known.{KnowsDecl}
use Rattle.algolw_typing.specs.ProgramView.{decl_view, targets_view, type_view}
use Rattle.algolw_typing.specs.Typed as typed
use Rattle.algolw_typing.specs.Types.{ValueType}
use Rattle.program_meaning.specs.Copying.{dimensions}
use Rattle.program_meaning.specs.Phrases as phrases
use Rattle.program_meaning.specs.Translating.{decl_of}
use Rattle.program_soundness.specs.Tables.{bounds_infos, inner_infos}
use Rattle.phrase_code.specs.Coding.{◌▸◌, code_bounds, code_decls, declare_arrays_code, declare_code, one}
use Rattle.phrase_code.specs.Marks.{bounds_marks, decls_marks}
use Rattle.compilable_programs.specs.Begun.{DeclBegun}
use Rattle.compilable_programs.specs.Suits.{DeclsSuit}
use Rattle.stack_code.specs.Code as code
use Rattle.stack_code.specs.CodeView.{CodeFits, KindFits, kind_view}
use Rattle.stack_code.specs.Instr as instr
use Rattle.symbol_table.specs.declared.here.Here.{Here}
use Rattle.symbol_table.specs.Contexts.{AreFresh, Scene, coding_context, numbers_in, phrase_context}
use Rattle.symbol_table.specs.Parts.{bounds_in}
use Rattle.symbol_table.specs.Targets.{DeclsStand}
use Rattle.symbol_table.proofs.Knowing.{kind_known}
use Rattle.symbol_table.proofs.Viewing.{kind_same}
use Rattle.code_emitter.specs.declared.emitter.Emitter.{Emitter}
use Rattle.code_emitter.specs.Parts.{Codes, Stays, next, none_own, place_in, scene}
use Rattle.code_emitter.proofs.Composing.{none_within}
use Rattle.code_emitter.proofs.Emitting.{joined_assoc, joined_none}
use Rattle.code_emitter.proofs.Joining.{codes_as, codes_most, codes_nothing, codes_then, codes_wider}
use Rattle.stack_codegen.specs.Blocks.{CodesBounds, CodesDecls, bounds_phrase, decls_code, decls_own, decls_phrase}
use Rattle.stack_codegen.specs.Codable.{IsCodableBounds, IsCodableDecls, sizes_known}
use Rattle.stack_codegen.proofs.DeclaredNames.{AreKnown, names_in}
use Rattle.stack_codegen.proofs.NodeRows.{array_in}

-- ---- variables

pub simple_known : (e : Emitter) (t : SimpleType) (xs : Vec (ℕ × Place) Global) → IsCodableDecls e (Simple t xs ∷ []) → AreKnown (scene e) xs.items
simple_known e t xs r = r.knows.0.1

pub simple_done : {a b : Emitter} (outside inside : Here) (target : ℕ) (t : SimpleType) (xs : Vec (ℕ × Place) Global) → Codes none_own a b (λ ts. declare_code (place_in (scene a) outside) (names_in (scene a) xs.items)) 0 0 → CodesDecls a b outside inside target (Simple t xs ∷ []) 0
simple_done {a} outside inside target t xs c = record {
  codes = codes_wider (none_within (decls_own target (Simple t xs ∷ [])))
      (codes_as (λ ts. declare_code (place_in (scene a) outside) (names_in (scene a) xs.items) ▸ []) 0 (λ ts h. sym (joined_none (declare_code (place_in (scene a) outside) (names_in (scene a) xs.items)))) refl c);
  placed = λ ts h. tt;
}

-- ---- a record class

pub class_done : (e : Emitter) (outside inside : Here) (target : ℕ) (x : TypedClass) → CodeFits e.code → CodesDecls e e outside inside target (Class x ∷ []) 0
class_done e outside inside target x fits = record { codes = codes_nothing (decls_own target (Class x ∷ [])) e fits; placed = λ ts h. tt }

-- ---- arrays

module _ (e : Emitter) (t : SimpleType) (xs : Vec (ℕ × Place) Global) (v : Vec TypedBound Global) (r : IsCodableDecls e (Array t xs v ∷ [])) where
  abbrev s : Scene
  s = scene e

  view : decl_view (numbers_in s) (Array t xs v) ≡ typed.Array (type_view (numbers_in s) t) (targets_view (numbers_in s) xs.items) (bounds_in (numbers_in s) v.items)
  view = array_in (numbers_in s) t xs v

  knows : KnowsDecl (numbers_in s).names s.given.class_places (typed.Array (type_view (numbers_in s) t) (targets_view (numbers_in s) xs.items) (bounds_in (numbers_in s) v.items))
  knows = subst (λ (d : typed.Decl). KnowsDecl (numbers_in s).names s.given.class_places d) view r.knows.0

  pub array_kind : KindFits e.code.given t
  array_kind = kind_known s r.fits.scene t knows.0

  pub array_known : AreKnown s xs.items
  array_known = knows.1

  pub array_bounds : IsCodableBounds e v.items
  array_bounds = record {
    fits = r.fits;
    fresh = subst (AreFresh s) (append-nil (bounds_infos (bounds_in (numbers_in s) v.items))) (subst (λ (d : typed.Decl). AreFresh s (inner_infos d ++ [])) view r.fresh);
    knows = knows.2;
    begun = subst (λ (d : typed.Decl). DeclBegun s.given.class_places d) view r.begun.0;
    suits = (subst (λ (d : typed.Decl). DeclsSuit (sizes_known s) (sizes_known s) (decl_of (phrase_context s) d phrases.no_decls)) view r.suits).0;
  }

  -- the same behind its bounds
  pub kind_behind : {b : Emitter} → Stays none_own e b → KindFits b.code.given t
  kind_behind h = subst (λ (u : Scene). KindFits u.given t) (sym h.scene) array_kind

  pub names_behind : {b : Emitter} → Stays none_own e b → AreKnown (scene b) xs.items
  names_behind h = subst (λ (u : Scene). AreKnown u xs.items) (sym h.scene) array_known

array_is : (s : Scene) (t : SimpleType) (xs : Vec (ℕ × Place) Global) (v : Vec TypedBound Global) → decls_phrase s (Array t xs v ∷ []) ≡ phrases.arrays_and (kind_view s.given t) (names_in s xs.items) (bounds_phrase s v.items) phrases.no_decls
array_is s t xs v =
    ap (λ (d : typed.Decl). decl_of (phrase_context s) d phrases.no_decls) (array_in (numbers_in s) t xs v)
    ∙ ap (λ (u : ValueType). phrases.arrays_and u (names_in s xs.items) (bounds_phrase s v.items) phrases.no_decls) (kind_same s t)

pub array_done : {a b c : Emitter} {m : ℕ} (outside inside : Here) (target : ℕ) (t : SimpleType) (xs : Vec (ℕ × Place) Global) (v : Vec TypedBound Global) → CodesBounds a b outside v.items m → Codes none_own b c (λ ts. declare_arrays_code (place_in (scene b) outside) (kind_view b.code.given t) (names_in (scene b) xs.items)) 0 0 → CodesDecls a c outside inside target (Array t xs v ∷ []) m
array_done {a} {b} {c} {m} outside inside target t xs v first second =
    let s : Scene = scene a in
    let w : Place = place_in s outside in
    let ds : phrases.Decls = decls_phrase s (Array t xs v ∷ []) in
    let is = array_is s t xs v in
    let bounds : List ℕ → List code.Coded = λ ts. code_bounds (coding_context s ts outside) w (next a) (bounds_phrase s v.items) in
    let count : List code.Coded = one w (instr.Bounds (dimensions (bounds_phrase s v.items))) in
    let last : List code.Coded = declare_arrays_code w (kind_view s.given t) (names_in s xs.items) in
    let marked : decls_marks ds ≡ max (bounds_marks (bounds_phrase s v.items)) 0 = ap decls_marks is in
    let most = first.most in
    record {
      codes = codes_wider (none_within (decls_own target (Array t xs v ∷ [])))
          (codes_most (decls_marks ds) m (omega (arith, most, marked))
          (codes_as (λ ts. decls_code s outside inside (next a) ds ts) (decls_marks ds)
          (λ ts h.
          ap (λ (x : Scene). (bounds ts ▸ count) ▸ declare_arrays_code (place_in x outside) (kind_view x.given t) (names_in x xs.items)) first.stays.scene
          ∙ joined_assoc (bounds ts) count last
          ∙ ap (λ l. bounds ts ▸ (count ▸ l)) (sym (joined_none last))
          ∙ ap (λ (x : phrases.Decls). code_decls (coding_context s ts outside) (coding_context s ts inside) w (next a) x) (sym is))
          (sym marked) (codes_then first second)));
      placed = λ ts h. subst (λ (x : phrases.Decls). DeclsStand (sizes_known s) (sizes_known s) (next a) x ts target) (sym is) tt;
    }
