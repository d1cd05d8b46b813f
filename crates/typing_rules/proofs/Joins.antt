-- How the values among parts join, at the part where a loop stands.
use Rattle.std.proofs.Common.{◌≡◌, ℕ, ◌+◌, ◌<◌, List, [], ◌∷◌, length, get_or, drop, sym, ap, ◌∙◌, refl, Option, Some, None}
use Rattle.std.proofs.lemmas.List.{at_drop_more}
use Rattle.algolw_typing.specs.Types as types
use Rattle.typing_rules.specs.Parts.{join_next, values_of}
use Rattle.typing_rules.specs.View.{value_type}
use Rattle.typing_rules.specs.declared.types.ValueType.{ValueType}
use Rattle.typing_rules.specs.declared.types.PhraseType.{PhraseType}
use Rattle.typing_rules.specs.declared.types.PhraseType.TheVariants as phrase

pub values_of-value : (parts : List PhraseType) (i : ℕ) (p : PhraseType) (t : ValueType) → i < length parts → p ≡ get_or parts i p → p ≡ phrase.Value t → values_of (drop i parts) ≡ value_type t ∷ values_of (drop (i + 1) parts)
values_of-value parts i p t within at is = at_drop_more values_of parts i p within ∙ ap (λ q. values_of (q ∷ drop (i + 1) parts)) (sym at ∙ is)

-- what values join to with those before them
abbrev pub join_more : Option types.ValueType → List types.ValueType → Option types.ValueType
join_more None ts = types.join_all ts
join_more (Some t) ts = types.join_behind (Some t) ts

-- what does not join, joins to nothing with more
join_behind-none : (ts : List types.ValueType) → types.join_behind None ts ≡ None
join_behind-none [] = refl
join_behind-none (t ∷ ts) = join_behind-none ts

pub join_more-stops : (o : Option types.ValueType) (t : types.ValueType) (ts : List types.ValueType) → join_next o t ≡ None → join_more o (t ∷ ts) ≡ None
join_more-stops None t ts e = cc
join_more-stops (Some s) t ts e = ap (λ x. types.join_behind x ts) e ∙ join_behind-none ts
