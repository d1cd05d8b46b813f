-- What is known of lists is known of what is in them.
use Rattle.std.proofs.Common.{◌≡◌, ℕ, zero, suc, ◌+◌, ◌<◌, Bool, true, List, [], ◌∷◌, ◌++◌, drop, length, Option, Some, None, subst}
use Rattle.std.specs.Prelude.{⊤}
use Rattle.std.specs.Prelude.{slice_index_or}
use Rattle.value_ops.specs.declared.places.Place.{Place}
use Rattle.algolw_tree.specs.declared.phrases.Op.{Op}
use Rattle.algolw_tree.specs.declared.phrases.Op.TheVariants as op
use Rattle.algolw_tree.specs.declared.programs.Node.{Node}
use Rattle.algolw_tree.specs.declared.programs.TypedActual.{TypedActual, Star, Phrase'}
use Rattle.algolw_tree.specs.declared.programs.TypedBound.{TypedBound}
use Rattle.algolw_tree.specs.declared.programs.TypedItem.{TypedItem}
use Rattle.algolw_tree.specs.declared.programs.TypedLink.{TypedLink}
use Rattle.algolw_tree.specs.declared.programs.TypedPart.{TypedPart}
use Rattle.algolw_typing.specs.Known.{KnowsLinks, KnowsNodes}
use Rattle.algolw_typing.specs.Typed as typed
use Rattle.program_meaning.specs.Phrases.{Phrase}
use Rattle.program_meaning.specs.Translating as translating
use Rattle.program_meaning.specs.Translating.{chain_of, linked, phrase_of}
use Rattle.program_soundness.specs.Tables.{actuals_infos, bounds_infos, infos, items_infos, links_infos, nodes_infos}
use Rattle.phrase_code.specs.Sizes.{Known}
use Rattle.compilable_programs.specs.Begun.{AllBegun, LinksBegun}
use Rattle.compilable_programs.specs.Suits.{Suits}
use Rattle.symbol_table.specs.Contexts.{Scene, numbers_in, phrase_context}
use Rattle.symbol_table.specs.Parts.{actuals_in, bounds_in, items_in, links_in, nodes_in, parts_in}
use Rattle.symbol_table.proofs.Declaring.{next_out}
use Rattle.symbol_table.proofs.Fresh.{fresh_left, fresh_right}
use Rattle.code_emitter.specs.declared.emitter.Emitter.{Emitter}
use Rattle.code_emitter.specs.Parts.{EmitterFits, scene}
use Rattle.stack_codegen.specs.Calls.{PassedFit}
use Rattle.stack_codegen.specs.Codable.{IsCodable, IsCodableActual, IsCodableActuals, IsCodableBounds, IsCodableItems, IsCodableNodes, IsCodablePart, NodeSuits, NodesSuit, PassedSuits, item_in, node_in, part_in, sizes_known}
use Rattle.stack_codegen.specs.Listed.{ListedSuits, UseSuits, first_phrase}
use Rattle.stack_codegen.specs.declared.lists.ListUse.{ListUse}
use Rattle.stack_codegen.specs.declared.lists.ListUse.TheVariants as list

-- ---- any list

dropped_ready : {X : Type 0} (R : List X → Type 0) → ((x : X) (xs : List X) → R (x ∷ xs) → R xs) → (xs : List X) (i : ℕ) → R xs → R (drop i xs)
dropped_ready R tail [] zero r = r
dropped_ready R tail [] (suc i) r = r
dropped_ready R tail (x ∷ xs) zero r = r
dropped_ready R tail (x ∷ xs) (suc i) r = dropped_ready R tail xs i (tail x xs r)

pub item_ready : {X : Type 0} (R : List X → Type 0) (S : X → Type 0) → ((x : X) (xs : List X) → R (x ∷ xs) → R xs) → ((x : X) (xs : List X) → R (x ∷ xs) → S x) → (xs : List X) (i : ℕ) (x : X) → i < length xs → x ≡ slice_index_or xs i x → R xs → S x
item_ready R S tail head xs i x l is r = head x (drop (i + 1) xs) (subst R (next_out xs i x l is) (dropped_ready R tail xs i r))

-- ---- links

abbrev pub LinksSuit : List Known → translating.Context → typed.Links → Type 0
LinksSuit known c typed.no_links = ⊤
LinksSuit known c (typed.link_and (typed.Linked o q a) rest) = Suits known (phrase_of c a) × LinksSuit known c rest

linked_suits : (known : List Known) (logical : Bool) (o : Op) (a b : Phrase) → Suits known (linked logical o a b) → Suits known a × Suits known b
linked_suits known true op.And a b s = (s.0, s.1)
linked_suits known true op.Or a b s = (s.0, s.2)
linked_suits known logical o a b s = s

pub chain_suits : (known : List Known) (c : translating.Context) (logical : Bool) (a : Phrase) (links : typed.Links) → Suits known (chain_of c logical a links) → Suits known a × LinksSuit known c links
chain_suits known c logical a typed.no_links s = (s, tt)
chain_suits known c logical a (typed.link_and (typed.Linked o q b) rest) s =
    let r = chain_suits known c logical (linked logical o a (phrase_of c b)) rest s in
    let t = linked_suits known logical o a (phrase_of c b) r.0 in
    (t.0, (t.1, r.1))

abbrev pub IsCodableLinks : Emitter → List TypedLink → Type 0
IsCodableLinks e links = IsCodablePart e (λ s. links_in (numbers_in s) links) links_infos KnowsLinks LinksBegun (λ s ls. LinksSuit (sizes_known s) (phrase_context s) ls)

links_tail : (e : Emitter) (l : TypedLink) (ls : List TypedLink) → IsCodableLinks e (l ∷ ls) → IsCodableLinks e ls
links_tail e l ls r = record { fits = r.fits; fresh = fresh_right (scene e) (infos (node_in l.right (scene e))) (links_infos (links_in (numbers_in (scene e)) ls)) r.fresh; knows = r.knows.1; begun = r.begun.1; suits = r.suits.1 }

links_head : (e : Emitter) (l : TypedLink) (ls : List TypedLink) → IsCodableLinks e (l ∷ ls) → IsCodable e (node_in l.right)
links_head e l ls r = record { fits = r.fits; fresh = fresh_left (scene e) (infos (node_in l.right (scene e))) (links_infos (links_in (numbers_in (scene e)) ls)) r.fresh; knows = r.knows.0; begun = r.begun.0; suits = r.suits.0 }

pub link_ready : (e : Emitter) (links : List TypedLink) (i : ℕ) (l : TypedLink) → i < length links → l ≡ slice_index_or links i l → IsCodableLinks e links → IsCodable e (node_in l.right)
link_ready e links i l = item_ready (IsCodableLinks e) (λ x. IsCodable e (node_in x.right)) (links_tail e) (links_head e) links i l

-- ---- phrases

nodes_tail : (e : Emitter) (a : Node) (rest : List Node) → IsCodableNodes e (a ∷ rest) → IsCodableNodes e rest
nodes_tail e a rest r = record { fits = r.fits; fresh = fresh_right (scene e) (infos (node_in a (scene e))) (nodes_infos (nodes_in (numbers_in (scene e)) rest)) r.fresh; knows = r.knows.1; begun = r.begun.1; suits = r.suits.1 }

nodes_head : (e : Emitter) (a : Node) (rest : List Node) → IsCodableNodes e (a ∷ rest) → IsCodable e (node_in a)
nodes_head e a rest r = record { fits = r.fits; fresh = fresh_left (scene e) (infos (node_in a (scene e))) (nodes_infos (nodes_in (numbers_in (scene e)) rest)) r.fresh; knows = r.knows.0; begun = r.begun.0; suits = r.suits.0 }

pub node_ready : (e : Emitter) (nodes : List Node) (i : ℕ) (a : Node) → i < length nodes → a ≡ slice_index_or nodes i a → IsCodableNodes e nodes → IsCodable e (node_in a)
node_ready e nodes i a = item_ready (IsCodableNodes e) (λ x. IsCodable e (node_in x)) (nodes_tail e) (nodes_head e) nodes i a

-- ---- statements that may be missing

abbrev IsCodableParts : Emitter → List TypedPart → Type 0
IsCodableParts e parts = IsCodablePart e (λ s. parts_in (numbers_in s) parts) nodes_infos KnowsNodes AllBegun NodesSuit

parts_tail : (e : Emitter) (p : TypedPart) (rest : List TypedPart) → IsCodableParts e (p ∷ rest) → IsCodableParts e rest
parts_tail e p rest r = record { fits = r.fits; fresh = fresh_right (scene e) (infos (part_in p (scene e))) (nodes_infos (parts_in (numbers_in (scene e)) rest)) r.fresh; knows = r.knows.1; begun = r.begun.1; suits = r.suits.1 }

parts_head : (e : Emitter) (p : TypedPart) (rest : List TypedPart) → IsCodableParts e (p ∷ rest) → IsCodable e (part_in p)
parts_head e p rest r = record { fits = r.fits; fresh = fresh_left (scene e) (infos (part_in p (scene e))) (nodes_infos (parts_in (numbers_in (scene e)) rest)) r.fresh; knows = r.knows.0; begun = r.begun.0; suits = r.suits.0 }

pub part_ready : (e : Emitter) (parts : List TypedPart) (i : ℕ) (p : TypedPart) → i < length parts → p ≡ slice_index_or parts i p → IsCodableParts e parts → IsCodable e (part_in p)
part_ready e parts i p = item_ready (IsCodableParts e) (λ x. IsCodable e (part_in x)) (parts_tail e) (parts_head e) parts i p

-- ---- bounds

abbrev pub BothReady : Emitter → TypedBound → Type 0
BothReady e b = IsCodable e (node_in b.lower) × IsCodable e (node_in b.upper)

bounds_tail : (e : Emitter) (b : TypedBound) (rest : List TypedBound) → IsCodableBounds e (b ∷ rest) → IsCodableBounds e rest
bounds_tail e b rest r =
    let s : Scene = scene e in
    let more = fresh_right s (infos (node_in b.lower s)) (infos (node_in b.upper s) ++ bounds_infos (bounds_in (numbers_in s) rest)) r.fresh in
    record { fits = r.fits; fresh = fresh_right s (infos (node_in b.upper s)) (bounds_infos (bounds_in (numbers_in s) rest)) more; knows = r.knows.2; begun = r.begun.2; suits = r.suits.2 }

bounds_head : (e : Emitter) (b : TypedBound) (rest : List TypedBound) → IsCodableBounds e (b ∷ rest) → BothReady e b
bounds_head e b rest r =
    let s : Scene = scene e in
    let more = fresh_right s (infos (node_in b.lower s)) (infos (node_in b.upper s) ++ bounds_infos (bounds_in (numbers_in s) rest)) r.fresh in (
      record { fits = r.fits; fresh = fresh_left s (infos (node_in b.lower s)) (infos (node_in b.upper s) ++ bounds_infos (bounds_in (numbers_in s) rest)) r.fresh; knows = r.knows.0; begun = r.begun.0; suits = r.suits.0 },
      record { fits = r.fits; fresh = fresh_left s (infos (node_in b.upper s)) (bounds_infos (bounds_in (numbers_in s) rest)) more; knows = r.knows.1; begun = r.begun.1; suits = r.suits.1 },
    )

pub bound_ready : (e : Emitter) (bounds : List TypedBound) (i : ℕ) (b : TypedBound) → i < length bounds → b ≡ slice_index_or bounds i b → IsCodableBounds e bounds → BothReady e b
bound_ready e bounds i b = item_ready (IsCodableBounds e) (BothReady e) (bounds_tail e) (bounds_head e) bounds i b

-- ---- items

items_tail : (e : Emitter) (i : TypedItem) (rest : List TypedItem) → IsCodableItems e (i ∷ rest) → IsCodableItems e rest
items_tail e i rest r = record { fits = r.fits; fresh = fresh_right (scene e) (infos (item_in i (scene e))) (items_infos (items_in (numbers_in (scene e)) rest)) r.fresh; knows = r.knows.2; begun = r.begun.1; suits = r.suits.1 }

items_head : (e : Emitter) (i : TypedItem) (rest : List TypedItem) → IsCodableItems e (i ∷ rest) → IsCodable e (item_in i)
items_head e i rest r = record { fits = r.fits; fresh = fresh_left (scene e) (infos (item_in i (scene e))) (items_infos (items_in (numbers_in (scene e)) rest)) r.fresh; knows = r.knows.1; begun = r.begun.0; suits = r.suits.0 }

pub item_phrase_ready : (e : Emitter) (items : List TypedItem) (n : ℕ) (i : TypedItem) → n < length items → i ≡ slice_index_or items n i → IsCodableItems e items → IsCodable e (item_in i)
item_phrase_ready e items n i = item_ready (IsCodableItems e) (λ x. IsCodable e (item_in x)) (items_tail e) (items_head e) items n i

-- ---- what is in a list behind a name

-- an actual, where it is a phrase
abbrev pub PhraseReady : Emitter → TypedActual → Type 0
PhraseReady e (Star q) = ⊤
PhraseReady e (Phrase' p f k g s) = IsCodable e (node_in (record { place = p; first = f; kind = k; gives = g; statement = s }))

-- the same as an actual of a call
abbrev pub PassedReady : Emitter → TypedActual → Type 0
PassedReady e (Star q) = ⊤
PassedReady e (Phrase' p f k g s) = IsCodableActual e (node_in (record { place = p; first = f; kind = k; gives = g; statement = s }))

-- for what suits each: of the head, and of what is behind it
module _ (e : Emitter) (Fits : Scene → typed.Actuals → Type 0) where
  abbrev IsReadyFor : List TypedActual → Type 0
  IsReadyFor actuals = IsCodableActuals e actuals Fits

  pub actuals_tail : ((s : Scene) (q : Place) (rest : typed.Actuals) → Fits s (typed.actual_and (typed.Star q) rest) → Fits s rest) → ((s : Scene) (n : typed.Node) (rest : typed.Actuals) → Fits s (typed.actual_and (typed.Given n) rest) → Fits s rest) → (a : TypedActual) (rest : List TypedActual) → IsReadyFor (a ∷ rest) → IsReadyFor rest
  actuals_tail star given (Star q) rest r = record { fits = r.fits; fresh = r.fresh; knows = r.knows; begun = r.begun; suits = star (scene e) q (actuals_in (numbers_in (scene e)) rest) r.suits }
  actuals_tail star given (Phrase' p f k g st) rest r =
      let n : Node = record { place = p; first = f; kind = k; gives = g; statement = st } in
      record { fits = r.fits; fresh = fresh_right (scene e) (infos (node_in n (scene e))) (actuals_infos (actuals_in (numbers_in (scene e)) rest)) r.fresh; knows = r.knows.1; begun = r.begun.1; suits = given (scene e) (node_in n (scene e)) (actuals_in (numbers_in (scene e)) rest) r.suits }

  pub phrases_head : ((s : Scene) (n : typed.Node) (rest : typed.Actuals) → Fits s (typed.actual_and (typed.Given n) rest) → NodeSuits s n) → (a : TypedActual) (rest : List TypedActual) → IsReadyFor (a ∷ rest) → PhraseReady e a
  phrases_head given (Star q) rest r = tt
  phrases_head given (Phrase' p f k g st) rest r =
      let n : Node = record { place = p; first = f; kind = k; gives = g; statement = st } in
      record { fits = r.fits; fresh = fresh_left (scene e) (infos (node_in n (scene e))) (actuals_infos (actuals_in (numbers_in (scene e)) rest)) r.fresh; knows = r.knows.0; begun = r.begun.0; suits = given (scene e) (node_in n (scene e)) (actuals_in (numbers_in (scene e)) rest) r.suits }

  pub passed_head : ((s : Scene) (n : typed.Node) (rest : typed.Actuals) → Fits s (typed.actual_and (typed.Given n) rest) → PassedSuits s n) → (a : TypedActual) (rest : List TypedActual) → IsReadyFor (a ∷ rest) → PassedReady e a
  passed_head given (Star q) rest r = tt
  passed_head given (Phrase' p f k g st) rest r =
      let n : Node = record { place = p; first = f; kind = k; gives = g; statement = st } in
      record { fits = r.fits; fresh = fresh_left (scene e) (infos (node_in n (scene e))) (actuals_infos (actuals_in (numbers_in (scene e)) rest)) r.fresh; knows = r.knows.0; begun = r.begun.0; suits = given (scene e) (node_in n (scene e)) (actuals_in (numbers_in (scene e)) rest) r.suits }

-- those of a call
pub passed_ready : (e : Emitter) (actuals : List TypedActual) (i : ℕ) (a : TypedActual) → i < length actuals → a ≡ slice_index_or actuals i a → IsCodableActuals e actuals PassedFit → PassedReady e a
passed_ready e actuals i a = item_ready (λ ys. IsCodableActuals e ys PassedFit) (PassedReady e) (actuals_tail e PassedFit (λ s q rest h. h) (λ s n rest h. h.1)) (passed_head e PassedFit (λ s n rest h. h.0)) actuals i a

-- those of a list, by what it is for
pub listed_ready : (e : Emitter) (u : ListUse) (actuals : List TypedActual) (i : ℕ) (a : TypedActual) → i < length actuals → a ≡ slice_index_or actuals i a → IsCodableActuals e actuals (UseSuits u) → PhraseReady e a
listed_ready e u actuals i a = item_ready (λ ys. IsCodableActuals e ys (UseSuits u)) (PhraseReady e) (actuals_tail e (UseSuits u) (star u) (given u)) (phrases_head e (UseSuits u) (first u)) actuals i a
  where
    star : (v : ListUse) (s : Scene) (q : Place) (rest : typed.Actuals) → UseSuits v s (typed.actual_and (typed.Star q) rest) → UseSuits v s rest
    star list.Subscripts s q rest h = h
    star (list.Fields class) s q rest h = h
    star (list.Read on) s q rest h = h
    star list.ReadCard s q rest h = h

    given : (v : ListUse) (s : Scene) (n : typed.Node) (rest : typed.Actuals) → UseSuits v s (typed.actual_and (typed.Given n) rest) → UseSuits v s rest
    given list.Subscripts s n rest h = h.1
    given (list.Fields class) s n rest h = h.1
    given (list.Read on) s n rest h = h.1
    given list.ReadCard s n rest h = h.1

    first : (v : ListUse) (s : Scene) (n : typed.Node) (rest : typed.Actuals) → UseSuits v s (typed.actual_and (typed.Given n) rest) → NodeSuits s n
    first list.Subscripts s n rest h = h.0
    first (list.Fields class) s n rest h = h.0
    first (list.Read on) s n rest h = h.0
    first list.ReadCard s n rest h = h.0

pub phrase_listed : (e : Emitter) (u : ListUse) (actuals : List TypedActual) (i : ℕ) (a : TypedActual) (x : Node) → a ≡ Phrase' x.place x.first x.kind x.gives x.statement → i < length actuals → a ≡ slice_index_or actuals i a → IsCodableActuals e actuals (UseSuits u) → IsCodable e (node_in x)
phrase_listed e u actuals i a x is l there r = subst (PhraseReady e) is (listed_ready e u actuals i a l there r)

-- the first of a list, where that counts alone
abbrev pub FirstReady : Emitter → Option Node → Type 0
FirstReady e None = EmitterFits e
FirstReady e (Some a) = IsCodable e (node_in a)

pub first_ready : (e : Emitter) (actuals : List TypedActual) → IsCodableActuals e actuals (ListedSuits None) → FirstReady e (first_phrase actuals)
first_ready e [] r = r.fits
first_ready e (Star q ∷ rest) r = first_ready e rest (record { fits = r.fits; fresh = r.fresh; knows = r.knows; begun = r.begun; suits = r.suits })
first_ready e (Phrase' p f k g st ∷ rest) r =
    let n : Node = record { place = p; first = f; kind = k; gives = g; statement = st } in
    record { fits = r.fits; fresh = fresh_left (scene e) (infos (node_in n (scene e))) (actuals_infos (actuals_in (numbers_in (scene e)) rest)) r.fresh; knows = r.knows.0; begun = r.begun.0; suits = r.suits }
