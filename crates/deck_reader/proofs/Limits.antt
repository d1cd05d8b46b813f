-- Bytes that pass a limit, with more behind them.
use Rattle.std.proofs.Common.{◌≡◌, ℕ, ◌+◌, ◌≤◌, Bool, true, false, ◌||◌, nat_lt, List, ◌++◌, length, map, refl, ap, ◌∙◌, arith, count_by, if◌then◌else◌}
use Rattle.std.proofs.lemmas.Bool.Decides.{nat_tests}
use Rattle.std.proofs.lemmas.List.{length-append, map-append}
use Rattle.std.proofs.lemmas.List.Sums.{sum_by-append}
use Rattle.deck_reader.specs.Cards.{cleaned, ended, under_way, unless_empty, cards}
use Rattle.deck_reader.specs.Forms.{is_head}
use Rattle.deck_reader.specs.Batch.{passes, too_large}
use Rattle.deck_reader.proofs.Cuts.{ended-prefix}

either : (a b c d : Bool) → (a || b) ≡ true → (a ≡ true → c ≡ true) → (b ≡ true → d ≡ true) → (c || d) ≡ true
either true b c d h k l = ap (λ (x : Bool). x || d) (k refl)
either false true true d h k l = refl
either false true false d h k l = l refl
either false false c d h k l = cc

more_bytes : (m n k : ℕ) → nat_lt m n ≡ true → n ≤ k → nat_lt m k ≡ true
more_bytes m n k h fits = grind (arith, nat_tests)

heads-append : (xs ys : List (List ℕ)) → count_by is_head (map cleaned (xs ++ ys)) ≡ count_by is_head (map cleaned xs) + count_by is_head (map cleaned ys)
heads-append xs ys = ap (count_by is_head) (map-append cleaned xs ys) ∙ sum_by-append (λ (c : List ℕ). if is_head c then 1 else 0) (map cleaned xs) (map cleaned ys)

-- bytes that pass a limit make the whole input too large, whatever comes behind them
pub passes_more : (input more : List ℕ) → passes input ≡ true → too_large (input ++ more) ≡ true
passes_more input more h =
    let prefix = ended-prefix input more in
    let last = unless_empty (under_way (input ++ more)) in
    let ended_heads : count_by is_head (map cleaned (ended (input ++ more))) ≡ count_by is_head (map cleaned (ended input)) + count_by is_head (map cleaned prefix.0) =
    ap (λ (ps : List (List ℕ)). count_by is_head (map cleaned ps)) prefix.1 ∙ heads-append (ended input) prefix.0 in
    let heads : count_by is_head (map cleaned (ended input)) ≤ count_by is_head (cards (input ++ more)) = omega (arith, heads-append (ended (input ++ more)) last, ended_heads) in
    either (nat_lt 4194304 (length input)) (nat_lt 2000 (count_by is_head (map cleaned (ended input)))) (nat_lt 4194304 (length (input ++ more))) (nat_lt 2000 (count_by is_head (cards (input ++ more)))) h
    (λ over. more_bytes 4194304 (length input) (length (input ++ more)) over (omega (arith, length-append input more)))
    (λ over. more_bytes 2000 (count_by is_head (map cleaned (ended input))) (count_by is_head (cards (input ++ more))) over heads)
