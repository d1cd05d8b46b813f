-- Looking up a word in a table.
use Rattle.std.proofs.Common.{◌≡◌, ℕ, List, [], ◌∷◌, Bool, true, false, cond, refl, map, Some}
use Rattle.std.specs.Option.{option_map}
use Rattle.std.specs.List.{find}
use Rattle.std.specs.Str.{bytes_eq}
use Rattle.std.specs.Borrow.{Bor}
use Rattle.algolw_tree.specs.declared.tokens.Word.{Word}
use Rattle.algolw_tree.specs.Words.{word_in}

pub found_word : (t : List (Bor (List ℕ) × Word)) (n : List ℕ) → option_map (λ e. e.1) (find (λ e. bytes_eq e.0.now n) t) ≡ word_in (map (λ e. (e.0.now, e.1)) t) n
found_word [] n = refl
found_word (e ∷ es) n = go (bytes_eq e.0.now n) (found_word es n)
  where
    go : (b : Bool) → option_map (λ e. e.1) (find (λ e. bytes_eq e.0.now n) es) ≡ word_in (map (λ e. (e.0.now, e.1)) es) n → option_map (λ e. e.1) (cond b (Some e) (find (λ e. bytes_eq e.0.now n) es)) ≡ cond b (Some e.1) (word_in (map (λ e. (e.0.now, e.1)) es) n)
    go true h = refl
    go false h = h
