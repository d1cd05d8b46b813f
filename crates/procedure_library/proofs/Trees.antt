-- Whether trees in memory are libraries.
use Rattle.std.proofs.Common.{◌≡◌, ℕ, Bool, true, false, ◌&&◌, List, [], ◌∷◌, map, refl, sym, ap, ◌∙◌}
use Rattle.std.specs.List.{list_all}
use Rattle.std.specs.declared.boxed.Box.{Box}
use Rattle.std.specs.declared.alloc.Global.{Global}
use Rattle.std.specs.declared.vec.Vec.{Vec}
use Rattle.value_ops.specs.declared.places.Place.{Place}
use Rattle.algolw_tree.specs.declared.phrases.Kind as code
use Rattle.algolw_tree.specs.declared.phrases.Kind.{Kind, out-Kind, roll-Kind}
use Rattle.algolw_tree.specs.declared.phrases.Block.{Block}
use Rattle.algolw_tree.specs.declared.phrases.Listed.{Listed' as listed}
use Rattle.algolw_tree.specs.declared.phrases.Chain.{Chain' as chain}
use Rattle.algolw_tree.specs.declared.phrases.Conditional.{Conditional'}
use Rattle.algolw_tree.specs.declared.phrases.CaseValue.{CaseValue' as case_value}
use Rattle.algolw_tree.specs.declared.phrases.ForStep.{ForStep' as for_step}
use Rattle.algolw_tree.specs.declared.phrases.ForList.{ForList' as for_list}
use Rattle.algolw_tree.specs.declared.phrases.Item.{Item}
use Rattle.algolw_tree.specs.declared.phrases.Decl.{Decl}
use Rattle.algolw_tree.specs.declared.phrases.ProcDecl.{ProcDecl, ProcDecl'}
use Rattle.algolw_tree.specs.Grammar.{decls_of, items_of}
use Rattle.algolw_tree.specs.View.{kind_tree, decl_tree, item_tree, procedure_tree}
use Rattle.algolw_tree.specs.Libraries.{is_kept, are_kept, is_void, is_nothing, is_library_kind}

-- what is no block is no library
pub not_library : (k : Kind) → ((b : Box Block Global) → k ≡ code.Block b → ⊥) → is_library_kind (kind_tree k) ≡ false
unfolding out-Kind roll-Kind denote.Hole.Carrier.out denote.Hole.Carrier.roll
not_library (code.Block' q shape decls shape2 items) other = absurd (other _ (sym (code.roll-out-Kind (code.Block' q shape decls shape2 items))))
not_library (code.Listed' q (listed n shape lists)) other = refl
not_library (code.Chain' q (chain place first kind shape links)) other = refl
not_library (code.IfThen' q (Conditional' place first kind place2 first2 kind2 otherwise)) other = refl
not_library (code.CaseValue' q (case_value place first kind shape values)) other = refl
not_library (code.ForStep' q (for_step n place first kind step place2 first2 kind2 place3 first3 kind3)) other = refl
not_library (code.ForList' q (for_list n shape values place first kind)) other = refl
not_library k other = refl

pub some_thing : (k : Kind) → (k ≡ code.Empty → ⊥) → is_nothing (kind_tree k) ≡ false
some_thing code.Empty some = absurd (some refl)
some_thing (code.Listed' q (listed n shape lists)) some = refl
some_thing (code.Chain' q (chain place first kind shape links)) some = refl
some_thing (code.IfThen' q (Conditional' place first kind place2 first2 kind2 otherwise)) some = refl
some_thing (code.CaseValue' q (case_value place first kind shape values)) some = refl
some_thing (code.ForStep' q (for_step n place first kind step place2 first2 kind2 place3 first3 kind3)) some = refl
some_thing (code.ForList' q (for_list n shape values place first kind)) some = refl
some_thing k some = refl

pub kept_procedure : (p : ProcDecl) → is_kept (procedure_tree p) ≡ true
kept_procedure (ProcDecl' place result name formals q body_place first kind) = refl

-- all declarations
pub all_kept : (ds : List Decl) → list_all (λ d. is_kept (decl_tree d)) ds ≡ are_kept (decls_of (map decl_tree ds))
all_kept [] = refl
all_kept (d ∷ ds) = ap (λ (b : Bool). is_kept (decl_tree d) && b) (all_kept ds)
