-- What a function that reads gives, and the tokens that it leaves, where reading gives o.
use Rattle.std.specs.Prelude.{◌≡◌, List, [], ◌∷◌, Option, Some, None, Result, Ok, Err}
use Rattle.algolw_tree.specs.declared.tokens.Token.{Token}
use Rattle.algolw_tree.specs.declared.tokens.Symbol.{Symbol}
use Rattle.std.specs.declared.vec.Vec.{Vec}
use Rattle.std.specs.declared.alloc.Global.{Global}
use Rattle.algolw_tree.specs.declared.phrases.TypeSpec.{TypeSpec as Spec}
use Rattle.algolw_tree.specs.Tree.{Phrase, Placed, TypeSpec}
use Rattle.algolw_tree.specs.declared.phrases.Phrase.{Phrase as Held}
use Rattle.algolw_tree.specs.View.{spec_tree, tree}
use Rattle.std.specs.declared.boxed.Box.{Box}
use Rattle.algolw_grammar.specs.Readers.{Out, Got, Bad, Deep, Reader, mapped, gathered, read_labelled}
use Rattle.algolw_grammar.specs.Reading.{read_later}
use Rattle.algolw_grammar.specs.Taken.{label_taken}
use Rattle.kept_tokens.specs.Kept.{place_at}
use Rattle.token_reader.specs.declared.stop.Stop.{Stop}
use Rattle.token_reader.specs.declared.stop.Stop.TheVariants.{Memory, Unexpected, TooDeep}

abbrev pub Fails : {A : Type 0} → Stop → Out A → Type 0
Fails Memory o = Unit {0}
Fails (Unexpected p) o = (r : List Token) × (o ≡ Bad None r) × (p ≡ place_at r)
Fails (TooDeep p) o = (r : List Token) × (o ≡ Deep r) × (p ≡ place_at r)

abbrev pub Gives : {X A : Type 0} → (X → A) → Result X Stop → List Token → Out A → Type 0
Gives view (Ok x) rest o = o ≡ Got (view x) None rest
Gives view (Err e) rest o = Fails e o

-- the tree of a phrase in a box
abbrev pub boxed_tree : Box Held Global → Phrase
boxed_tree b = tree b.value

-- a list behind its first, which stands in front: others, each behind a separator
abbrev pub read_behind : {A : Type 0} → A → Symbol → Reader A → Reader (List A)
read_behind first separator p w = gathered (first ∷ []) (read_later separator p w)

-- what is read of a value that stands before it
abbrev pub read_given : {A B : Type 0} → A → Reader (A → B) → Reader B
read_given x p w = mapped (λ f. f x) (p w)

-- the names of a group, and their type
abbrev pub group_tree : Spec × Vec Placed Global → TypeSpec × List Placed
group_tree group = (spec_tree group.0, group.1.items)

-- A label at the front of tokens, and what stands behind it.
abbrev pub label_before : Option Placed → List Token → Option (Placed × List Token)
label_before None w = None
label_before (Some l) w = Some (l, w)

abbrev pub label_at : List Token → Option (Placed × List Token)
label_at [] = None
label_at (t ∷ []) = None
label_at (t ∷ k ∷ w) = label_before (label_taken t k) w

-- A label was read there, or there is none and nothing was.
abbrev pub ReadsLabel : Option Placed → List Token → List Token → Type 0
ReadsLabel (Some l) w rest = label_at w ≡ Some (l, rest)
ReadsLabel None w rest = (label_at w ≡ None) × (rest ≡ w)

-- These labels before what is read.
abbrev pub labelled : List Placed → Out Phrase → Out (List Placed × Phrase)
labelled ls (Got x d r) = Got (ls, x) d r
labelled ls (Bad d r) = Bad d r
labelled ls (Deep r) = Deep r

-- What is read of labels and a phrase is what is read behind the labels.
abbrev pub ReadsLabels : Result (Vec Placed Global) Stop → List Token → List Token → Type 0
ReadsLabels (Ok ls) w rest = (p : Reader Phrase) → read_labelled label_taken p w ≡ labelled ls.items (p rest)
ReadsLabels (Err e) w rest = e ≡ Memory
