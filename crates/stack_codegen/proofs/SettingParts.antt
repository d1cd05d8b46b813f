-- Which parts of a WRITE are settings, and what may be coded of them.
use Rattle.std.proofs.Common.{◌≡◌, ℕ, ◌+◌, ◌<◌, Bool, true, false, List, [], ◌∷◌, length, Option, Some, None, refl, sym, ap, ◌∙◌, subst, arith}
use Rattle.std.specs.Prelude.{⊤, IfSome, slice_index_or, if◌then◌else◌}
use Rattle.std.specs.Option.{option_map}
use Rattle.std.specs.Borrow.{Bor}
use Rattle.std.specs.declared.alloc.Global.{Global}
use Rattle.std.specs.declared.boxed.Box.{Box}
use Rattle.value_ops.specs.declared.places.Place.{Place}
use Rattle.algolw_tree.specs.declared.programs.Gives.{Gives}
use Rattle.algolw_tree.specs.declared.programs.Gives.TheVariants as gives
use Rattle.algolw_tree.specs.declared.programs.Node.{Node}
use Rattle.algolw_tree.specs.declared.programs.NodeKind.{NodeKind, Named', Assign'}
use Rattle.algolw_tree.specs.declared.programs.NodeKind as kinds
use Rattle.algolw_tree.specs.declared.programs.TypedActual.{TypedActual, Star, Phrase'}
use Rattle.algolw_tree.specs.declared.standard.Standard.TheVariants as standard
use Rattle.algolw_tree.specs.declared.standard.Width.{Width}
use Rattle.algolw_typing.specs.Known.{Knows, KnowsKind}
use Rattle.algolw_typing.specs.ProgramView.{Numbers, gives_view, kind_view, node_view, numbered}
use Rattle.algolw_typing.specs.Typed as typed
use Rattle.algolw_typing.specs.Types as types
use Rattle.program_meaning.specs.Phrases.{Phrase, Role, placed, sets}
use Rattle.program_meaning.specs.Translating as translating
use Rattle.program_meaning.specs.Translating.{kind_role, left_role, value_part, width_role}
use Rattle.program_soundness.specs.Tables.{actuals_infos, infos}
use Rattle.compilable_programs.specs.Begun.{Begun}
use Rattle.compilable_programs.specs.Suits.{Suits}
use Rattle.stack_code.specs.declared.instructions.Instr.TheVariants as held
use Rattle.stack_code.specs.declared.instructions.Mode.TheVariants as mode
use Rattle.symbol_table.specs.declared.standings.Standing.{Standing}
use Rattle.symbol_table.specs.declared.standings.Standing.TheVariants as standing
use Rattle.symbol_table.specs.Contexts.{AreFresh, Scene, SceneFits, declared_for, numbers_in, phrase_context}
use Rattle.symbol_table.specs.Parts.{actuals_in}
use Rattle.symbol_table.specs.Standings.{Names, standing_of}
use Rattle.symbol_table.proofs.Found.{name_declared}
use Rattle.symbol_table.proofs.Fresh.{fresh_left, fresh_right}
use Rattle.symbol_table.proofs.Knowing.{name_known}
use Rattle.code_emitter.specs.declared.emitter.Emitter.{Emitter}
use Rattle.code_emitter.specs.Appending.{appended}
use Rattle.code_emitter.specs.Parts.{CodesPhrase, phrase_in, scene}
use Rattle.stack_codegen.specs.declared.writes.Writing.{Writing}
use Rattle.stack_codegen.specs.Codable.{CodesNode, IsCodable, IsCodableActuals, node_in, sizes_known, with_kind}
use Rattle.stack_codegen.specs.Writes.{Assigns, CodesWritten, IsCodableWritten, WritesSuit, behind_value, is_statement, opened, role_for, role_in, set_in, value_in, width_assigned, width_named, width_of, writing_behind, written_instr}
use Rattle.stack_codegen.proofs.NodeKinds.{kind_sized}
use Rattle.stack_codegen.proofs.NodeSizes.{node_size, nothing}
use Rattle.stack_codegen.proofs.Nodes.{node_kind}
use Rattle.stack_codegen.proofs.Parts.{actuals_tail, item_ready}

-- ---- its role

module _ (s : Scene) (fits : SceneFits s) where
  width_same : (x : Standing) → width_role (declared_for s x) ≡ role_for (width_of x)
  width_same standing.Unknown = refl
  width_same (standing.Standard (standard.Function op)) = refl
  width_same (standing.Standard (standard.Read on)) = refl
  width_same (standing.Standard standard.ReadCard) = refl
  width_same (standing.Standard (standard.Write first)) = refl
  width_same (standing.Standard standard.IoControl) = refl
  width_same (standing.Standard standard.MaxInteger) = refl
  width_same (standing.Standard (standard.Variable width)) = refl
  width_same (standing.Variable t e) = refl
  width_same (standing.NameFormal t e) = refl
  width_same (standing.Control e) = refl
  width_same (standing.Array t e) = refl
  width_same (standing.Procedure y) = refl
  width_same (standing.ProcedureFormal t e) = refl
  width_same (standing.Class c) = refl
  width_same (standing.Field c n t) = refl
  width_same (standing.Label e target) = refl

  left_same : (p first : Place) (g : Option types.Gives) (st : Option Place) (k : NodeKind) → KnowsKind (numbers_in s).names s.given.class_places (kind_view (numbers_in s) k) → left_role (phrase_context s).known (typed.At p first g st (kind_view (numbers_in s) k)) ≡ role_for (width_named s.symbols.names k)
  left_same p first g st (Named' n shape lists) known = ap width_role (name_declared s n fits (name_known s fits n known.0)) ∙ width_same (standing_of s.symbols.names n)
  left_same p first g st _ known = refl

  assigned_same : (k : NodeKind) → KnowsKind (numbers_in s).names s.given.class_places (kind_view (numbers_in s) k) → kind_role (phrase_context s).known (Some types.Statement) (kind_view (numbers_in s) k) ≡ role_for (width_assigned s.symbols.names k)
  assigned_same (Assign' q p f k g st q2 p2 f2 k2 g2 s2) known = left_same p f (option_map (gives_view (numbers_in s)) g) (option_map (numbered s.given.statements) st) k known.0.1
  assigned_same _ known = refl

  abbrev by_gives : Option Gives → NodeKind → Role
  by_gives g k = role_for (if is_statement g then width_assigned s.symbols.names k else None)

  gives_same : (g : Option Gives) (k : NodeKind) → KnowsKind (numbers_in s).names s.given.class_places (kind_view (numbers_in s) k) → kind_role (phrase_context s).known (option_map (gives_view (numbers_in s)) g) (kind_view (numbers_in s) k) ≡ by_gives g k
  gives_same None k known = refl
  gives_same (Some gives.Statement) k known = assigned_same k known
  gives_same (Some (gives.Simple t)) k known = refl

pub role_same : (e : Emitter) (node : Node) → IsCodableWritten e node → role_in (scene e) (node_in node (scene e)) ≡ role_for (set_in e.symbols.names node)
role_same e node r = gives_same (scene e) r.fits.scene node.gives node.kind r.knows.1

-- ---- a part that is placed

module _ (e : Emitter) (node : Node) (r : IsCodableWritten e node) (none : None ≡ set_in e.symbols.names node) where
  placed_role : role_in (scene e) (node_in node (scene e)) ≡ placed
  placed_role = role_same e node r ∙ ap role_for (sym none)

  placed_value : value_in (scene e) (node_in node (scene e)) ≡ phrase_in (scene e) (node_in node (scene e))
  placed_value = ap (λ o. value_part o (phrase_in (scene e) (node_in node (scene e)))) placed_role

  pub placed_ready : IsCodable e (node_in node)
  placed_ready = record { fits = r.fits; fresh = r.fresh; knows = r.knows; begun = r.begun; suits = subst (Suits (sizes_known (scene e))) placed_value r.suits }

  pub placed_coded : {b d : Emitter} {m : ℕ} (w behind : Writing) → CodesNode e b w.here mode.Value (node_in node) m → d ≡ appended b w.here (held.Write w.first w.position) → behind ≡ behind_value w → CodesWritten e d w node m behind
  placed_coded {b} {d} {m} w behind c q goes = record {
    between = b;
    value = subst (λ y. CodesPhrase e b w.here mode.Value y m) (sym placed_value) c;
    does = q ∙ ap (λ o. appended b w.here (written_instr o w)) (sym placed_role);
    goes = goes ∙ ap (λ o. writing_behind o w) (sym placed_role);
  }

-- ---- a setting

module _ (e : Emitter) (node : Node) (r : IsCodableWritten e node) (width : Width) (value : Node) (some : Some width ≡ set_in e.symbols.names node) (assigns : Assigns node.kind value) where
  abbrev s : Scene
  s = scene e

  set_role : role_in s (node_in node s) ≡ sets width
  set_role = role_same e node r ∙ ap role_for (sym some)

  abbrev as_assigned : Scene → typed.Node
  as_assigned t = with_kind node (λ z. typed.Assign (node_in assigns.0 z) (node_in value z)) t

  is_assigned : node_in node s ≡ as_assigned s
  is_assigned = node_kind s node (λ z. typed.Assign (node_in assigns.0 z) (node_in value z)) (assigns.1 (numbers_in s))

  set_value : value_in s (node_in node s) ≡ phrase_in s (node_in value s)
  set_value = ap (λ o. value_part o (phrase_in s (node_in node s))) set_role ∙ ap (λ n. value_part (sets width) (phrase_in s n)) is_assigned

  pub set_ready : IsCodable e (node_in value)
  set_ready = record {
    fits = r.fits;
    fresh = fresh_right s (infos (node_in assigns.0 s)) (infos (node_in value s)) (subst (λ n. AreFresh s (infos n)) is_assigned r.fresh);
    knows = (subst (Knows (numbers_in s).names s.given.class_places) is_assigned r.knows).1.1;
    begun = (subst (Begun s.given.class_places) is_assigned r.begun).1;
    suits = subst (Suits (sizes_known s)) set_value r.suits;
  }

  pub set_smaller : node_size value < 2 + node_size node
  set_smaller = let size : node_size node ≡ 8 + (node_size assigns.0 + node_size value) = kind_sized node (typed.Assign (node_view nothing assigns.0) (node_view nothing value)) (assigns.1 nothing) in omega (arith, size)

  pub set_coded : {b d : Emitter} {m : ℕ} (w behind : Writing) → CodesNode e b w.here mode.Value (node_in value) m → d ≡ appended b w.here (held.SetWidth width w.position) → behind ≡ opened w → CodesWritten e d w node m behind
  set_coded {b} {d} {m} w behind c q goes = record {
    between = b;
    value = subst (λ y. CodesPhrase e b w.here mode.Value y m) (sym set_value) c;
    does = q ∙ ap (λ o. appended b w.here (written_instr o w)) (sym set_role);
    goes = goes ∙ ap (λ o. writing_behind o w) (sym set_role);
  }

-- ---- a part of a list

abbrev pub WrittenReady : Emitter → TypedActual → Type 0
WrittenReady e (Star q) = ⊤
WrittenReady e (Phrase' p f k g s) = IsCodableWritten e (record { place = p; first = f; kind = k; gives = g; statement = s })

written_head : (e : Emitter) (a : TypedActual) (rest : List TypedActual) → IsCodableActuals e (a ∷ rest) WritesSuit → WrittenReady e a
written_head e (Star q) rest r = tt
written_head e (Phrase' p f k g st) rest r =
    let n : Node = record { place = p; first = f; kind = k; gives = g; statement = st } in
    record { fits = r.fits; fresh = fresh_left (scene e) (infos (node_in n (scene e))) (actuals_infos (actuals_in (numbers_in (scene e)) rest)) r.fresh; knows = r.knows.0; begun = r.begun.0; suits = r.suits.0 }

pub written_listed : (e : Emitter) (actuals : List TypedActual) (i : ℕ) (a : TypedActual) (x : Node) → a ≡ Phrase' x.place x.first x.kind x.gives x.statement → i < length actuals → a ≡ slice_index_or actuals i a → IsCodableActuals e actuals WritesSuit → IsCodableWritten e x
written_listed e actuals i a x is l there r =
    subst (WrittenReady e) is (item_ready (λ ys. IsCodableActuals e ys WritesSuit) (WrittenReady e) (actuals_tail e WritesSuit (λ s q rest h. h) (λ s n rest h. h.1)) (written_head e) actuals i a l there r)

-- ---- told by the code's own values

pub assigns : (k : NodeKind) (a b : Box Node Global) (y : Node) → k ≡ kinds.Assign a b → y ≡ b.value → Assigns k y
assigns k a b y is lent = (a.value, λ ns. ap (kind_view ns) is ∙ ap (λ (z : Node). typed.Assign (node_view ns a.value) (node_view ns z)) (sym lent))

pub placed_told : (names : Names) (node : Node) (r : Option (Width × Bor Node)) → r ≡ None → option_map (λ x. x.0) r ≡ set_in names node → None ≡ set_in names node
placed_told names node r is told = sym (ap (option_map (λ x. x.0)) is) ∙ told

pub set_told : (names : Names) (node : Node) (r : Option (Width × Bor Node)) (x : Width × Bor Node) → r ≡ Some x → option_map (λ y. y.0) r ≡ set_in names node → IfSome r (λ y. Assigns node.kind y.1.now) → (Some x.0 ≡ set_in names node) × Assigns node.kind x.1.now
set_told names node r x is told assigns = (sym (ap (option_map (λ y. y.0)) is) ∙ told, subst (λ o. IfSome o (λ (y : Width × Bor Node). Assigns node.kind y.1.now)) is assigns)
