-- The tree that each function codes, and what may be coded.
use Rattle.std.specs.Prelude.{ℕ, List, [], map, length, Option, Some, None}
use Rattle.std.specs.Option.{option_map}
use Rattle.std.specs.Borrow.{Bor}
use Rattle.value_ops.specs.declared.places.Place.{Place}
use Rattle.algolw_tree.specs.declared.programs.Node.{Node}
use Rattle.algolw_tree.specs.declared.programs.TypedActual.{TypedActual}
use Rattle.algolw_tree.specs.declared.programs.TypedBound.{TypedBound}
use Rattle.algolw_tree.specs.declared.programs.TypedDecl.{TypedDecl}
use Rattle.algolw_tree.specs.declared.programs.TypedItem.{TypedItem}
use Rattle.algolw_tree.specs.declared.programs.TypedList.{TypedList}
use Rattle.algolw_tree.specs.declared.programs.TypedPart.{TypedPart}
use Rattle.algolw_typing.specs.Typed as typed
use Rattle.algolw_typing.specs.Known.{Knows, KnowsActuals, KnowsBounds, KnowsDecls, KnowsItems, KnowsLists, KnowsNodes}
use Rattle.algolw_typing.specs.ProgramView.{Numbers, gives_view, node_view, numbered, part_view}
use Rattle.program_meaning.specs.Translating as translating
use Rattle.program_soundness.specs.Tables.{Info, actuals_infos, bounds_infos, decls_infos, infos, items_infos, lists_infos, nodes_infos}
use Rattle.phrase_code.specs.Coding as coding
use Rattle.phrase_code.specs.Sizes as sizes
use Rattle.stack_code.specs.declared.instructions.Mode.{Mode}
use Rattle.compilable_programs.specs.Begun.{ActualsBegun, AllBegun, Begun, BoundsBegun, DeclsBegun, ItemsBegun, ListsBegun}
use Rattle.compilable_programs.specs.Suits.{ActualSuits, AllSuit, BoundsSuit, DeclsSuit, ItemsSuit, Suits}
use Rattle.symbol_table.specs.declared.here.Here.{Here}
use Rattle.symbol_table.specs.Contexts.{AreFresh, Scene, numbers_in, phrase_context, stands}
use Rattle.symbol_table.specs.Parts.{actuals_in, bounds_in, decls_in, item_node, items_in, lists_in, nodes_in, parts_in}
use Rattle.code_emitter.specs.declared.emitter.Emitter.{Emitter}
use Rattle.code_emitter.specs.Parts.{CodesPhrase, EmitterFits, phrase_in, scene}
use Rattle.stack_codegen.specs.declared.loops.Choices.{Choices}
use Rattle.stack_codegen.specs.declared.loops.Choices.TheVariants as choice

-- ---- trees in memory

abbrev pub node_in : Node → Scene → typed.Node
node_in node s = node_view (numbers_in s) node

-- what stands in a row, where it may be missing, and behind the labels of an item
abbrev pub part_in : TypedPart → Scene → typed.Node
part_in part s = part_view (numbers_in s) part

abbrev pub item_in : TypedItem → Scene → typed.Node
item_in item s = item_node (numbers_in s) item

-- the node, of this kind
abbrev pub with_kind : Node → (Scene → typed.Kind) → Scene → typed.Node
with_kind node k s = typed.At node.place node.first (option_map (gives_view (numbers_in s)) node.gives) (option_map (numbered s.given.statements) node.statement) (k s)

-- ---- what may be coded

-- what is known of names, by which sizes go
abbrev pub sizes_known : Scene → List sizes.Known
sizes_known s = map coding.known_of (stands s [] s.symbols.names)

-- All that is known by now fits, what is declared inside is new, and so much is known of what is to be coded.
pub record IsReady (e : Emitter) (is : Scene → List Info) (Known Statements Fitting : Scene → Type 0) : Type 0 where
  pub fits : EmitterFits e
  pub fresh : AreFresh (scene e) (is (scene e))
  pub knows : Known (scene e)
  pub begun : Statements (scene e)
  pub suits : Fitting (scene e)

-- The same of a part of a tree: each name and class in it has a number, what counts its step is a statement, and it suits.
abbrev pub IsCodablePart : {T : Type 0} → Emitter → (Scene → T) → (is : T → List Info) → (Known : (names classes : List Place) → T → Type 0) → (Statements : (classes : List Place) → T → Type 0) → (Fitting : Scene → T → Type 0) → Type 0
IsCodablePart e part is Known Statements Fitting = IsReady e (λ s. is (part s)) (λ s. Known (numbers_in s).names s.given.class_places (part s)) (λ s. Statements s.given.class_places (part s)) (λ s. Fitting s (part s))

abbrev pub NodeSuits : Scene → typed.Node → Type 0
NodeSuits s node = Suits (sizes_known s) (phrase_in s node)

abbrev pub IsCodable : Emitter → (Scene → typed.Node) → Type 0
IsCodable e node = IsCodablePart e node infos Knows Begun NodeSuits

-- The phrase of a tree is coded.
abbrev pub CodesNode : (old new : Emitter) → Here → Mode → (Scene → typed.Node) → ℕ → Type 0
CodesNode old new here mode node m = CodesPhrase old new here mode (phrase_in (scene old) (node (scene old))) m

-- a phrase that may be missing, as the tree has it
abbrev pub IsCodablePerhaps : Emitter → Option (Bor Node) → Type 0
IsCodablePerhaps e None = EmitterFits e
IsCodablePerhaps e (Some a) = IsCodable e (node_in a.now)

-- ---- lists of phrases

abbrev pub NodesSuit : Scene → typed.Nodes → Type 0
NodesSuit s nodes = AllSuit (sizes_known s) (translating.phrases_of (phrase_context s) nodes)

abbrev pub IsCodableNodes : Emitter → List Node → Type 0
IsCodableNodes e nodes = IsCodablePart e (λ s. nodes_in (numbers_in s) nodes) nodes_infos KnowsNodes AllBegun NodesSuit

-- those that a CASE chooses from
abbrev pub choices_in : Numbers → Choices → typed.Nodes
choices_in ns (choice.Values values) = nodes_in ns values.now
choices_in ns (choice.Statements parts) = parts_in ns parts.now

abbrev pub choice_count : Choices → ℕ
choice_count (choice.Values values) = length values.now
choice_count (choice.Statements parts) = length parts.now

abbrev pub IsCodableChoices : Emitter → Choices → Type 0
IsCodableChoices e choices = IsCodablePart e (λ s. choices_in (numbers_in s) choices) nodes_infos KnowsNodes AllBegun NodesSuit

-- a list behind a name, and those behind it, for what is done with them
abbrev pub IsCodableActuals : Emitter → List TypedActual → (Scene → typed.Actuals → Type 0) → Type 0
IsCodableActuals e actuals Fitting = IsCodablePart e (λ s. actuals_in (numbers_in s) actuals) actuals_infos KnowsActuals ActualsBegun Fitting

abbrev pub IsCodableLists : Emitter → List TypedList → (Scene → typed.Lists → Type 0) → Type 0
IsCodableLists e lists Fitting = IsCodablePart e (λ s. lists_in (numbers_in s) lists) lists_infos KnowsLists ListsBegun Fitting

-- an actual
abbrev pub PassedSuits : Scene → typed.Node → Type 0
PassedSuits s node = ActualSuits (sizes_known s) (translating.actual_of (phrase_context s) node)

abbrev pub IsCodableActual : Emitter → (Scene → typed.Node) → Type 0
IsCodableActual e node = IsCodablePart e node infos Knows Begun PassedSuits

-- ---- parts of a block, in it

abbrev pub BoundsFit : Scene → typed.Bounds → Type 0
BoundsFit s bounds = BoundsSuit (sizes_known s) (translating.bounds_of (phrase_context s) bounds)

abbrev pub IsCodableBounds : Emitter → List TypedBound → Type 0
IsCodableBounds e bounds = IsCodablePart e (λ s. bounds_in (numbers_in s) bounds) bounds_infos KnowsBounds BoundsBegun BoundsFit

abbrev pub DeclsFit : Scene → typed.Decls → Type 0
DeclsFit s decls = DeclsSuit (sizes_known s) (sizes_known s) (translating.decls_of (phrase_context s) decls)

abbrev pub IsCodableDecls : Emitter → List TypedDecl → Type 0
IsCodableDecls e decls = IsCodablePart e (λ s. decls_in (numbers_in s) decls) decls_infos KnowsDecls DeclsBegun DeclsFit

abbrev pub ItemsFit : Scene → typed.Items → Type 0
ItemsFit s items = ItemsSuit (sizes_known s) (translating.items_of (phrase_context s) items)

abbrev pub IsCodableItems : Emitter → List TypedItem → Type 0
IsCodableItems e items = IsCodablePart e (λ s. items_in (numbers_in s) items) items_infos KnowsItems ItemsBegun ItemsFit
