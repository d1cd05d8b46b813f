use Rattle.std.proofs.Common.{◌≡◌, ◌++◌, ◌∷◌, ℕ, zero, suc, List, [], replicate, append_assoc, refl, ap, ◌∙◌}
use Rattle.record_store.proofs.fields.put_text.Goals as goal

one_more : (count : ℕ) → replicate {A = List ℕ} count [] ++ [] ∷ [] ≡ replicate (suc count) []
one_more zero = refl
one_more (suc count) = ap (λ (texts : List (List ℕ)). [] ∷ texts) (one_more count)

pub loop-texts-preserved : goal.loop-texts-preserved
loop-texts-preserved c =
    let before : List (List ℕ) = c.args.texts.now.items in
    let count = c.loop-texts.invariant.0.0 in
    let items = c.push_reserved.ensures.items
    ∙ ap (λ (texts : List (List ℕ)). texts ++ c.new.result ∷ []) c.loop-texts.invariant.0.1
    ∙ ap (λ (text : List ℕ). (before ++ replicate count []) ++ text ∷ []) c.new.ensures
    ∙ append_assoc before (replicate count []) ([] ∷ [])
    ∙ ap (λ (texts : List (List ℕ)). before ++ texts) (one_more count) in
    ((suc count, items), c.push_reserved.ensures.capacity ∙ c.loop-texts.invariant.1)
