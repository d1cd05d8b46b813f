use Rattle.std.proofs.Common.{◌≡◌, ℕ, ◌+◌, ◌<◌, List, [], ◌∷◌, ◌++◌, length, get_or, map, take, true, refl, sym, ap, ◌∙◌}
use Rattle.std.proofs.lemmas.List.{map_more, map-append}
use Rattle.algolw_tree.specs.Tree.{Placed}
use Rattle.algolw_typing.specs.Known.{KnowsDeclared}
use Rattle.algolw_typing.specs.Types.{has}
use Rattle.algolw_typing.specs.Typing.{declare_at, declares_at}
use Rattle.program_numbers.specs.Makes.{target_in}
use Rattle.program_numbers.proofs.Making.{part_has}
use Rattle.program_numbers.proofs.numbering.Numbering.targets.Goals as goal

declared : (xs : List Placed) → declare_at xs ≡ map declares_at xs
declared [] = refl
declared (x ∷ xs) = ap (λ ys. declares_at x ∷ ys) (declared xs)

declared_more : (xs : List Placed) (i : ℕ) (x : Placed) → i < length xs → x ≡ get_or xs i x → declare_at (take (i + 1) xs) ≡ declare_at (take i xs) ++ declares_at x ∷ []
declared_more xs i x within item =
    declared (take (i + 1) xs) ∙ map_more declares_at xs i x within ∙ ap (λ z. map declares_at (take i xs) ++ declares_at z ∷ []) (sym item) ∙ ap (λ zs. zs ++ declares_at x ∷ []) (sym (declared (take i xs)))

pub likely_number-number-requires : goal.likely_number-number-requires
likely_number-number-requires c = part_has (λ xs. KnowsDeclared c.args.self.now.names (declare_at xs)) (λ x. has c.args.self.now.names x.1 ≡ true) (λ x xs h. h) c.args.names.now c.loop-name.name-index c.name-item.result c.loop-name-test.true c.name-item.is c.requires

pub loop-name-preserved : goal.loop-name-preserved
loop-name-preserved c =
    let n = c.args.self.now in
    let place = c.name-item.result.1 in
    ap (map (target_in n)) c.in_ok-push.ensures.items
    ∙ map-append (target_in n) c.loop-name.targets.items ((c.likely_number-number.result, place) ∷ [])
    ∙ ap (λ ys. ys ++ target_in n (c.likely_number-number.result, place) ∷ []) c.loop-name.invariant
    ∙ ap (λ q. declare_at (take c.loop-name.name-index c.args.names.now) ++ (q, place) ∷ []) c.likely_number-number.ensures.place
    ∙ sym (declared_more c.args.names.now c.loop-name.name-index c.name-item.result c.loop-name-test.true c.name-item.is)
