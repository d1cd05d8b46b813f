-- What is known of a phrase is known of what it is made of, kind by kind.
use Rattle.std.proofs.Common.{◌≡◌, ℕ, Bool, true, false, List, ◌++◌, Option, Some, None, ap, subst}
use Rattle.std.specs.Borrow.{Bor}
use Rattle.algolw_tree.specs.declared.phrases.RelOp.{RelOp}
use Rattle.value_ops.specs.declared.places.Place.{Place}
use Rattle.algolw_tree.specs.declared.programs.Node.{Node}
use Rattle.algolw_tree.specs.declared.programs.TypedLink.{TypedLink}
use Rattle.algolw_typing.specs.Known.{Knows}
use Rattle.algolw_typing.specs.ProgramView as program
use Rattle.algolw_typing.specs.ProgramView.{numbered}
use Rattle.algolw_typing.specs.Typed as typed
use Rattle.program_meaning.specs.Phrases.{Phrase}
use Rattle.program_meaning.specs.Translating.{negated, signed}
use Rattle.program_soundness.specs.Tables.{infos, links_infos, perhaps_infos}
use Rattle.phrase_code.specs.Sizes.{Known}
use Rattle.compilable_programs.specs.Begun.{Begun}
use Rattle.compilable_programs.specs.Suits.{Suits}
use Rattle.stack_code.specs.declared.instructions.Mode.{Mode}
use Rattle.symbol_table.specs.declared.here.Here.{Here}
use Rattle.symbol_table.specs.Contexts.{AreFresh, Scene, numbers_in, phrase_context}
use Rattle.symbol_table.specs.Parts.{links_in, perhaps_in}
use Rattle.symbol_table.proofs.Fresh.{fresh_left, fresh_right}
use Rattle.code_emitter.specs.declared.emitter.Emitter.{Emitter}
use Rattle.code_emitter.specs.Parts.{CodesPhrase, phrase_in, scene}
use Rattle.stack_codegen.specs.Codable.{CodesNode, IsCodable, IsCodablePerhaps, NodeSuits, node_in, sizes_known, with_kind}
use Rattle.stack_codegen.proofs.Parts.{IsCodableLinks, chain_suits}

-- ---- the same tree

pub ready_as : (e : Emitter) (f g : Scene → typed.Node) → f (scene e) ≡ g (scene e) → IsCodable e f → IsCodable e g
ready_as e f g q r =
    let s : Scene = scene e in
    record {
      fits = r.fits;
      fresh = subst (λ n. AreFresh s (infos n)) q r.fresh;
      knows = subst (λ n. Knows (numbers_in s).names s.given.class_places n) q r.knows;
      begun = subst (λ n. Begun s.given.class_places n) q r.begun;
      suits = subst (λ n. NodeSuits s n) q r.suits;
    }

pub codes_as_node : (old new : Emitter) (here : Here) (wanted : Mode) (f g : Scene → typed.Node) (m : ℕ) → f (scene old) ≡ g (scene old) → CodesNode old new here wanted f m → CodesNode old new here wanted g m
codes_as_node old new here wanted f g m q = subst (λ n. CodesPhrase old new here wanted (phrase_in (scene old) n) m) q

-- a node of this kind
pub node_kind : (s : Scene) (n : Node) (k : Scene → typed.Kind) → program.kind_view (numbers_in s) n.kind ≡ k s → node_in n s ≡ with_kind n k s
node_kind s n k q = ap (λ j. with_kind n (λ t. j) s) q

-- ---- kinds of one part

module _ (e : Emitter) (n : Node) (a : Scene → typed.Node) where
  negated_suits : (known : List Known) (b : Bool) (x : Phrase) → Suits known (negated b x) → Suits known x
  negated_suits known true x s = s
  negated_suits known false x s = s

  signed_suits : (known : List Known) (b : Bool) (x : Phrase) → Suits known (signed b x) → Suits known x
  signed_suits known true x s = s
  signed_suits known false x s = s

  pub negated_ready : IsCodable e (with_kind n (λ s. typed.Negated (a s))) → IsCodable e a
  negated_ready r = record { fits = r.fits; fresh = r.fresh; knows = r.knows.1; begun = r.begun; suits = negated_suits (sizes_known (scene e)) _ (phrase_in (scene e) (a (scene e))) r.suits }

  pub abs_ready : IsCodable e (with_kind n (λ s. typed.Abs (a s))) → IsCodable e a
  abs_ready r = record { fits = r.fits; fresh = r.fresh; knows = r.knows.1; begun = r.begun; suits = r.suits }

  pub signed_ready : (b : Bool) → IsCodable e (with_kind n (λ s. typed.Signed b (a s))) → IsCodable e a
  signed_ready b r = record { fits = r.fits; fresh = r.fresh; knows = r.knows.1; begun = r.begun; suits = signed_suits (sizes_known (scene e)) b (phrase_in (scene e) (a (scene e))) r.suits }

  pub is_class_ready : (x : Scene → Place) (q : Place) → IsCodable e (with_kind n (λ s. typed.IsClass (a s) (x s) q)) → IsCodable e a
  is_class_ready x q r = record { fits = r.fits; fresh = r.fresh; knows = r.knows.1.0; begun = r.begun.1; suits = r.suits }

  pub assert_ready : IsCodable e (with_kind n (λ s. typed.Assert (a s))) → IsCodable e a
  assert_ready r = record { fits = r.fits; fresh = r.fresh; knows = r.knows.1; begun = r.begun.1; suits = r.suits }

-- ---- of two

module _ (e : Emitter) (n : Node) (a b : Scene → typed.Node) where
  pub relation_ready : (o : RelOp) → IsCodable e (with_kind n (λ s. typed.Relation o (a s) (b s))) → IsCodable e a × IsCodable e b
  relation_ready o r =
      let s : Scene = scene e in (
        record { fits = r.fits; fresh = fresh_left s (infos (a s)) (infos (b s)) r.fresh; knows = r.knows.1.0; begun = r.begun.0; suits = r.suits.0 },
        record { fits = r.fits; fresh = fresh_right s (infos (a s)) (infos (b s)) r.fresh; knows = r.knows.1.1; begun = r.begun.1; suits = r.suits.1 },
      )

  pub assign_ready : IsCodable e (with_kind n (λ s. typed.Assign (a s) (b s))) → IsCodable e a × IsCodable e b
  assign_ready r =
      let s : Scene = scene e in (
        record { fits = r.fits; fresh = fresh_left s (infos (a s)) (infos (b s)) r.fresh; knows = r.knows.1.0; begun = r.begun.0; suits = r.suits.0 },
        record { fits = r.fits; fresh = fresh_right s (infos (a s)) (infos (b s)) r.fresh; knows = r.knows.1.1; begun = r.begun.1; suits = r.suits.1 },
      )

-- ---- an IF

pub if_ready : (e : Emitter) (n : Node) (c a : Scene → typed.Node) (b : Option (Bor Node)) → IsCodable e (with_kind n (λ s. typed.IfThen (c s) (a s) (perhaps_in (numbers_in s) b))) → IsCodable e c × IsCodable e a × IsCodablePerhaps e b
if_ready e n c a None r =
    let s : Scene = scene e in
    let inner = fresh_right s (infos (c s)) (infos (a s) ++ perhaps_infos typed.Missing) r.fresh in (
      record { fits = r.fits; fresh = fresh_left s (infos (c s)) (infos (a s) ++ perhaps_infos typed.Missing) r.fresh; knows = r.knows.1.0; begun = r.begun.0; suits = r.suits.0 },
      record { fits = r.fits; fresh = fresh_left s (infos (a s)) (perhaps_infos typed.Missing) inner; knows = r.knows.1.1; begun = r.begun.1; suits = r.suits.1 },
      r.fits,
    )
if_ready e n c a (Some b) r =
    let s : Scene = scene e in
    let inner = fresh_right s (infos (c s)) (infos (a s) ++ infos (node_in b.now s)) r.fresh in (
      record { fits = r.fits; fresh = fresh_left s (infos (c s)) (infos (a s) ++ infos (node_in b.now s)) r.fresh; knows = r.knows.1.0; begun = r.begun.0; suits = r.suits.0 },
      record { fits = r.fits; fresh = fresh_left s (infos (a s)) (infos (node_in b.now s)) inner; knows = r.knows.1.1; begun = r.begun.1; suits = r.suits.1 },
      record { fits = r.fits; fresh = fresh_right s (infos (a s)) (infos (node_in b.now s)) inner; knows = r.knows.1.2; begun = r.begun.2; suits = r.suits.2 },
    )

-- ---- a chain

pub chain_ready : (e : Emitter) (n : Node) (a : Scene → typed.Node) (links : List TypedLink) → IsCodable e (with_kind n (λ s. typed.Chain (a s) (links_in (numbers_in s) links))) → IsCodable e a × IsCodableLinks e links
chain_ready e n a links r =
    let s : Scene = scene e in
    let parts = chain_suits (sizes_known s) (phrase_context s) _ (phrase_in s (a s)) (links_in (numbers_in s) links) r.suits in (
      record { fits = r.fits; fresh = fresh_left s (infos (a s)) (links_infos (links_in (numbers_in s) links)) r.fresh; knows = r.knows.1.0; begun = r.begun.0; suits = parts.0 },
      record { fits = r.fits; fresh = fresh_right s (infos (a s)) (links_infos (links_in (numbers_in s) links)) r.fresh; knows = r.knows.1.1; begun = r.begun.1; suits = parts.1 },
    )
