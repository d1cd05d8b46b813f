-- What an actual is, by the phrase that it is.
use Rattle.std.proofs.Common.{◌≡◌, ℕ, ◌<◌, Bool, false, List, length, Option, Some, None, refl, sym, ap, ◌∙◌, subst}
use Rattle.std.specs.Option.{option_map}
use Rattle.std.specs.Borrow.{Bor}
use Rattle.std.specs.declared.vec.Vec.{Vec}
use Rattle.std.specs.declared.alloc.Global.{Global}
use Rattle.value_ops.specs.declared.places.Place.{Place}
use Rattle.value_ops.specs.declared.values.SimpleType.TheVariants as simple
use Rattle.algolw_tree.specs.declared.programs.Gives.{Gives}
use Rattle.algolw_tree.specs.declared.programs.Gives.TheVariants as gives
use Rattle.algolw_tree.specs.declared.programs.Node.{Node}
use Rattle.algolw_tree.specs.declared.programs.NodeKind.{NodeKind, Named, Named'}
use Rattle.algolw_tree.specs.declared.programs.TypedActual.{TypedActual}
use Rattle.algolw_tree.specs.declared.programs.TypedList.{TypedList}
use Rattle.algolw_typing.specs.Known.{Knows, KnowsGives, KnowsKind}
use Rattle.algolw_typing.specs.Typed as typed
use Rattle.algolw_typing.specs.Types as types
use Rattle.algolw_typing.specs.ProgramView.{Numbers, gives_view, kind_view, numbered}
use Rattle.algolw_typing.specs.ProgramView as program
use Rattle.program_meaning.specs.Phrases as phrases
use Rattle.program_meaning.specs.Translating as translating
use Rattle.program_meaning.specs.Translating.{actual_of, is_variable_node}
use Rattle.program_soundness.specs.Tables.{actuals_infos, infos, lists_infos}
use Rattle.compilable_programs.specs.Begun.{Begun}
use Rattle.stack_code.specs.CodeView as code
use Rattle.stack_code.specs.CodeView.{GivesFits}
use Rattle.symbol_table.specs.Contexts.{AreFresh, Scene, SceneFits, numbers_in, phrase_context}
use Rattle.symbol_table.specs.Parts.{actuals_in, lists_in}
use Rattle.symbol_table.specs.Standings.{standing_of}
use Rattle.symbol_table.proofs.Found.{name_declared}
use Rattle.symbol_table.proofs.Fresh.{fresh_left}
use Rattle.symbol_table.proofs.Knowing.{kind_known, name_known}
use Rattle.symbol_table.proofs.Sources.{variable_same}
use Rattle.code_emitter.specs.declared.emitter.Emitter.{Emitter}
use Rattle.code_emitter.specs.Parts.{phrase_in, scene}
use Rattle.stack_codegen.specs.declared.actuals.ActualKind.TheVariants as kind
use Rattle.stack_codegen.specs.Calls.{IsCodableKind, IsWithin, actual_in, is_variable_kind, passed}
use Rattle.stack_codegen.specs.Codable.{IsCodable, IsCodableActual, NodeSuits, PassedSuits, node_in}
use Rattle.stack_codegen.specs.Listed.{AreParted, begins_with_phrases}
use Rattle.stack_codegen.proofs.NodeRows.{named_in}

-- ---- what it gives

-- the same by all numbers and by those of types
pub gives_same : (s : Scene) (g : Gives) → gives_view (numbers_in s) g ≡ gives_view (code.numbers s.given) g
gives_same s gives.Statement = refl
gives_same s (gives.Simple simple.Integer) = refl
gives_same s (gives.Simple simple.Logical) = refl
gives_same s (gives.Simple simple.Bits) = refl
gives_same s (gives.Simple (simple.Str n)) = refl
gives_same s (gives.Simple (simple.Reference set)) = refl

pub gives_known : (s : Scene) → SceneFits s → (g : Gives) → KnowsGives s.given.class_places (Some (gives_view (numbers_in s) g)) → GivesFits s.given g
gives_known s fits gives.Statement k = tt
gives_known s fits (gives.Simple t) k = kind_known s fits t k

-- ---- whether it is a variable, by the name in front

variable_kind : (s : Scene) → SceneFits s → (p first : Place) (g : Option types.Gives) (st : Option Place) (k : NodeKind) → KnowsKind (numbers_in s).names s.given.class_places (kind_view (numbers_in s) k) → is_variable_node (phrase_context s) (typed.At p first g st (kind_view (numbers_in s) k)) ≡ is_variable_kind s.symbols.names k
variable_kind s fits p first g st (Named' n shape lists) known = ap translating.is_variable (name_declared s n fits (name_known s fits n known.0)) ∙ variable_same s (standing_of s.symbols.names n)
variable_kind s fits p first g st _ known = refl

-- ---- a phrase with a type

typed_phrase : (s : Scene) (node : Node) (g : Gives) → node.gives ≡ Some g → node_in node s ≡ typed.At node.place node.first (Some (gives_view (numbers_in s) g)) (option_map (numbered s.given.statements) node.statement) (kind_view (numbers_in s) node.kind)
typed_phrase s node g q = ap (λ o. typed.At node.place node.first (option_map (gives_view (numbers_in s)) o) (option_map (numbered s.given.statements) node.statement) (kind_view (numbers_in s) node.kind)) q

pub given_passed : (e : Emitter) (n : Node) (g : Gives) (v : Bool) → v ≡ is_variable_kind e.symbols.names n.kind → n.gives ≡ Some g → IsCodableActual e (node_in n) → phrases.Given v (gives_view (numbers_in (scene e)) g) n.first (phrase_in (scene e) (node_in n (scene e))) ≡ passed (scene e) (node_in n (scene e))
given_passed e n g v is q ready =
    let s : Scene = scene e in
    let there = typed_phrase s n g q in
    let known : KnowsKind (numbers_in s).names s.given.class_places (kind_view (numbers_in s) n.kind) = ready.knows.1 in
    ap (λ x. phrases.Given x (gives_view (numbers_in s) g) n.first (phrase_in s (node_in n s))) (is ∙ sym (variable_kind s ready.fits.scene n.place n.first (Some (gives_view (numbers_in s) g)) (option_map (numbered s.given.statements) n.statement) n.kind known))
    ∙ ap (λ t. phrases.Given (is_variable_node (phrase_context s) (typed.At n.place n.first (Some (gives_view (numbers_in s) g)) (option_map (numbered s.given.statements) n.statement) (kind_view (numbers_in s) n.kind))) (gives_view (numbers_in s) g) n.first (phrase_in s t)) there
    ∙ ap (actual_of (phrase_context s)) (sym there)

pub given_codable : (e : Emitter) (n : Node) (g : Gives) → n.gives ≡ Some g → IsCodableActual e (node_in n) → IsCodable e (node_in n) × GivesFits e.code.given g
given_codable e n g q ready =
    let s : Scene = scene e in
    let there = typed_phrase s n g q in (
      record {
        fits = ready.fits;
        fresh = ready.fresh;
        knows = ready.knows;
        begun = ready.begun;
        suits = subst (λ t. NodeSuits s t) (sym there) (subst (λ t. PassedSuits s t) there ready.suits);
      },
      gives_known s ready.fits.scene g (subst (λ o. KnowsGives s.given.class_places (option_map (gives_view (numbers_in s)) o)) q ready.knows.0),
    )

-- ---- a name without a type: an array or a procedure

untyped_name : (s : Scene) (node : Node) (name : ℕ) (lists : Vec TypedList Global) → node.gives ≡ None → node.kind ≡ Named name lists → node_in node s ≡ typed.At node.place node.first None (option_map (numbered s.given.statements) node.statement) (typed.Named (numbered (numbers_in s).names name) (lists_in (numbers_in s) lists.items))
untyped_name s node name lists q is =
    ap (λ o. typed.At node.place node.first (option_map (gives_view (numbers_in s)) o) (option_map (numbered s.given.statements) node.statement) (kind_view (numbers_in s) node.kind)) q
    ∙ ap (typed.At node.place node.first None (option_map (numbered s.given.statements) node.statement)) (ap (kind_view (numbers_in s)) is ∙ named_in (numbers_in s) name lists)

-- with subscripts in front of its lists
module _ (node : Node) (name : ℕ) (lists : Vec TypedList Global) (subscripts : Bor (List TypedActual)) (rest : List TypedList) (q : node.gives ≡ None) (is : node.kind ≡ Named name lists) (parted : AreParted lists.items subscripts.now rest) where
  subarray_node : (s : Scene) → node_in node s ≡ typed.At node.place node.first None (option_map (numbered s.given.statements) node.statement) (typed.Named (numbered (numbers_in s).names name) (typed.list_and (typed.OfActuals (parted (numbers_in s)).0 (actuals_in (numbers_in s) subscripts.now)) (lists_in (numbers_in s) rest)))
  subarray_node s = untyped_name s node name lists q is ∙ ap (λ l. typed.At node.place node.first None (option_map (numbered s.given.statements) node.statement) (typed.Named (numbered (numbers_in s).names name) l)) (parted (numbers_in s)).1

  pub subarray_passed : (s : Scene) → actual_in s (kind.Subarray name subscripts) ≡ passed s (node_in node s)
  subarray_passed s = ap (actual_of (phrase_context s)) (sym (subarray_node s))

  pub subarray_within : IsWithin node (kind.Subarray name subscripts)
  subarray_within ns = (numbered ns.names name, (parted ns).0, lists_in ns rest, ap (program.kind_view ns) is ∙ named_in ns name lists ∙ ap (typed.Named (numbered ns.names name)) (parted ns).1)

  pub subarray_codable : (e : Emitter) → IsCodableActual e (node_in node) → IsCodableKind e (kind.Subarray name subscripts)
  subarray_codable e ready =
      let s : Scene = scene e in
      let there = subarray_node s in
      let known = subst (Knows (numbers_in s).names s.given.class_places) there ready.knows in (
        name_known s ready.fits.scene name known.1.0,
        record {
          fits = ready.fits;
          fresh = fresh_left s (actuals_infos (actuals_in (numbers_in s) subscripts.now)) (lists_infos (lists_in (numbers_in s) rest)) (subst (λ t. AreFresh s (infos t)) there ready.fresh);
          knows = known.1.1.0;
          begun = (subst (Begun s.given.class_places) there ready.begun).1.0;
          suits = subst (λ t. PassedSuits s t) there ready.suits;
        },
      )

-- and without
alone_of : (c : translating.Context) (p first x : Place) (st : Option Place) (lists : typed.Lists) → begins_with_phrases lists ≡ false → phrases.Alone p (phrases.Named x) ≡ actual_of c (typed.At p first None st (typed.Named x lists))
alone_of c p first x st typed.no_lists h = refl
alone_of c p first x st (typed.list_and (typed.OfActuals q given) rest) h = absurd (cc h)
alone_of c p first x st (typed.list_and (typed.OfPart q a n) rest) h = refl

pub alone_passed : (node : Node) (name : ℕ) (lists : Vec TypedList Global) → node.gives ≡ None → node.kind ≡ Named name lists → ((ns : Numbers) → begins_with_phrases (lists_in ns lists.items) ≡ false) → (s : Scene) → actual_in s (kind.Alone node.place name) ≡ passed s (node_in node s)
alone_passed node name lists q is none s =
    alone_of (phrase_context s) node.place node.first (numbered (numbers_in s).names name) (option_map (numbered s.given.statements) node.statement) (lists_in (numbers_in s) lists.items) (none (numbers_in s))
    ∙ ap (actual_of (phrase_context s)) (sym (untyped_name s node name lists q is))

pub alone_codable : (node : Node) (name : ℕ) (lists : Vec TypedList Global) → node.gives ≡ None → node.kind ≡ Named name lists → (e : Emitter) → IsCodableActual e (node_in node) → name < length e.code.given.names
alone_codable node name lists q is e ready = name_known (scene e) ready.fits.scene name (subst (Knows (numbers_in (scene e)).names e.code.given.class_places) (untyped_name (scene e) node name lists q is) ready.knows).1.0
