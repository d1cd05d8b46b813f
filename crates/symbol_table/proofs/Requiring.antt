-- What declaring requires: names have numbers of the table.
use Rattle.std.proofs.Common.{◌≡◌, ℕ, ◌+◌, ◌<◌, List, [], true, sym, subst, arith}
use Rattle.std.specs.List.{All}
use Rattle.std.proofs.lemmas.List.{length-append}
use Rattle.std.proofs.lemmas.List.Elements.{All-drop, All-nil, All-take, All-weaker}
use Rattle.value_ops.specs.declared.places.Place.{Place}
use Rattle.algolw_tree.specs.declared.programs.TypedDecl.{TypedDecl}
use Rattle.algolw_tree.specs.declared.programs.TypedItem.{TypedItem}
use Rattle.algolw_typing.specs.Typed as typed
use Rattle.algolw_typing.specs.Known.{KnowsDecls, KnowsItems}
use Rattle.algolw_typing.specs.ProgramView.{numbered}
use Rattle.algolw_typing.specs.Types.{has}
use Rattle.compilable_programs.specs.Begun.{DeclsBegun}
use Rattle.stack_code.specs.CodeView.{FormalFits}
use Rattle.stack_code.specs.declared.heads.Formal.{Formal}
use Rattle.symbol_table.specs.declared.here.Here.{Here}
use Rattle.symbol_table.specs.declared.standings.Procedure.{Procedure}
use Rattle.symbol_table.specs.declared.standings.Standing.{Standing}
use Rattle.symbol_table.specs.Blocks.{block_names, decls_fields, decls_formals, entry_count, first_cursor, label_names, procedure_count, with_block}
use Rattle.symbol_table.specs.Contexts.{ClassesHad, Scene, SceneFits, numbers_in}
use Rattle.symbol_table.specs.Parts.{decls_in, items_in}
use Rattle.symbol_table.specs.Standings.{Names}
use Rattle.symbol_table.specs.Symbols.{SymbolsView, formals_of}
use Rattle.symbol_table.proofs.Fitting.{NameFits, decls_fit, labels_fit, with_symbols}
use Rattle.symbol_table.proofs.Knowing.{name_known}
use Rattle.symbol_table.proofs.Placing.{classes_of}

-- the classes of declarations that are begun are the program's
pub declared_had : (classes : List Place) (decls : typed.Decls) → DeclsBegun classes decls → ClassesHad classes decls
declared_had classes typed.no_decls b = tt
declared_had classes (typed.decl_and (typed.Simple t xs) rest) b = declared_had classes rest b.1
declared_had classes (typed.decl_and (typed.Array t xs pairs) rest) b = declared_had classes rest b.1
declared_had classes (typed.decl_and (typed.Proc p result x formals body) rest) b = declared_had classes rest b.1
declared_had classes (typed.decl_and (typed.Class x groups) rest) b = (b.0, declared_had classes rest b.1)

-- of a block
pub block_numbered : (s : Scene) (here : Here) (target : ℕ) (decls : List TypedDecl) (items : List TypedItem) → SceneFits s → KnowsDecls (numbers_in s).names s.given.class_places (decls_in (numbers_in s) decls) → KnowsItems (numbers_in s).names s.given.class_places (items_in (numbers_in s) items) → ClassesHad s.given.class_places (decls_in (numbers_in s) decls) → All (λ (name : ℕ × Standing). name.0 < s.symbols.count) (block_names s.symbols here target decls items [])
block_numbered s here target decls items fits kd ki kc =
    let v : SymbolsView = with_block s.symbols here target decls items in
    let n_fields = length-append s.symbols.fields (decls_fields decls) in
    let n_formals = length-append s.symbols.formals (decls_formals decls) in
    let labels : Names = label_names here.level (here.entries + entry_count decls) (target + procedure_count decls) items [] in
    let all : All (NameFits (with_symbols s v)) (block_names s.symbols here target decls items []) = decls_fit s fits v here.level (first_cursor s.symbols here target) decls labels (classes_of s fits decls kd kc) (omega (arith, n_fields)) (omega (arith, n_formals)) kd
    (labels_fit s fits v here.level (here.entries + entry_count decls) (target + procedure_count decls) items [] ki (All-nil (NameFits (with_symbols s v)))) in
    All-weaker (NameFits (with_symbols s v)) (λ (name : ℕ × Standing). name.0 < s.symbols.count) (λ x h. subst (λ (n : ℕ). x.0 < n) (sym fits.counted) h.0) (block_names s.symbols here target decls items []) all

-- of a body
pub formals_numbered : (s : Scene) (p : Procedure) → SceneFits s → All (λ (f : Formal). f.name < s.symbols.count) (formals_of s.symbols p)
formals_numbered s p fits =
    All-weaker (FormalFits s.given) (λ (f : Formal). f.name < s.symbols.count) (λ f h. subst (λ (n : ℕ). f.name < n) (sym fits.counted) h.name) (formals_of s.symbols p)
    (All-take (FormalFits s.given) p.count _ (All-drop (FormalFits s.given) p.formals s.symbols.formals fits.formals))

-- of a FOR
pub control_numbered : (s : Scene) (n : ℕ) → SceneFits s → has (numbers_in s).names (numbered (numbers_in s).names n) ≡ true → n < s.symbols.count
control_numbered s n fits had = subst (λ (k : ℕ). n < k) (sym fits.counted) (name_known s fits n had)
