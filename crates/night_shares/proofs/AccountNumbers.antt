-- The numbers of accounts.
use Rattle.std.proofs.Common.{◌≡◌, ℕ, ◌+◌, ◌<◌, ◌≤◌, Bool, true, false, nat_lt, nat_eq, not, cond, List, [], ◌∷◌, ◌++◌, Option, Some, None, length, take, get_or, refl, sym, ap, ◌∙◌, arith}
use Rattle.std.proofs.lemmas.Bool.Decides.{nat_tests}
use Rattle.std.proofs.lemmas.List.{length-append, length-take-le, take_more}
use Rattle.std.proofs.lemmas.List.Folds.{position_or_len_push}
use Rattle.std.proofs.lemmas.List.Sums.{prefix_len-le-length}
use Rattle.std.proofs.lemmas.Map.Text.{is_eq-slice_cmp}
use Rattle.std.proofs.lemmas.Slice.Eq.{bytes_eq-Decides}
use Rattle.std.specs.BTreeMap.{BTreeMap, get, is_at}
use Rattle.std.specs.List.{position_or_len}
use Rattle.std.specs.Option.{option_or, unwrap_or}
use Rattle.std.specs.Str.{bytes_eq}
use Rattle.short_text.specs.Order.{bytes_cmp}
use Rattle.deck_reader.specs.declared.batch.Account.{Account}
use Rattle.deck_reader.specs.Batch.{account_of}

-- what a search gives that one more may pass
one_more : (hit found : Bool) (at n : ℕ) → at ≤ n → nat_eq at n ≡ found
    → cond (nat_lt (cond found (n + cond hit 0 1) at) (n + 1)) (Some (cond found (n + cond hit 0 1) at)) None ≡ option_or (cond (nat_lt at n) (Some at) None) (cond hit (Some n) None)
one_more true true at n few e = grind (arith, nat_tests)
one_more false true at n few e = grind (arith, nat_tests)
one_more true false at n few e = grind (arith, nat_tests)
one_more false false at n few e = grind (arith, nat_tests)

-- an account more stands at the end
account_of-push : (accounts : List Account) (a : Account) (name : List ℕ) → account_of (accounts ++ a ∷ []) name ≡ option_or (account_of accounts name) (cond (bytes_eq a.name name) (Some (length accounts)) None)
account_of-push accounts a name =
    let p = λ (b : Account). bytes_eq b.name name in
    let at = position_or_len p accounts in
    let n = length accounts in
    let few : at ≤ n = prefix_len-le-length (λ (b : Account). not (p b)) accounts in
    ap (λ (i : ℕ). cond (nat_lt i (length (accounts ++ a ∷ []))) (Some i) None) (position_or_len_push p accounts a)
    ∙ ap (λ (m : ℕ). cond (nat_lt (cond (nat_eq at n) (n + cond (p a) 0 1) at) m) (Some (cond (nat_eq at n) (n + cond (p a) 0 1) at)) None) (length-append accounts (a ∷ []))
    ∙ one_more (p a) (nat_eq at n) at n few refl

-- what a name has behind an account of that name or another
by_name : (same : Bool) (at here : Option ℕ) (i : ℕ) → (same ≡ true → at ≡ here) → cond same (Some (unwrap_or here i)) at ≡ option_or at (cond same (Some i) None)
by_name true at None i f = ap (λ (p : Option ℕ). option_or p (Some i)) (sym (f refl))
by_name true at (Some n) i f = ap (λ (p : Option ℕ). option_or p (Some i)) (sym (f refl))
by_name false None here i f = refl
by_name false (Some n) here i f = refl

-- a name more among the numbers, as among the accounts
pub numbers-more : (accounts : List Account) (i : ℕ) (a : Account) (old : BTreeMap (List ℕ) ℕ) (held : Option ℕ) (value : ℕ) (name : List ℕ) → i < length accounts → a ≡ get_or accounts i a
    → ((q : List ℕ) → get bytes_cmp old q ≡ account_of (take i accounts) q)
    → value ≡ unwrap_or (get bytes_cmp old a.name) i
    → held ≡ cond (is_at (bytes_cmp a.name) name) (Some value) (get bytes_cmp old name)
    → held ≡ account_of (take (i + 1) accounts) name
numbers-more accounts i a old held value name within item at here is =
    let long : length (take i accounts) ≡ i = length-take-le i accounts (omega arith) in
    is
    ∙ ap (λ (b : Bool). cond b (Some value) (get bytes_cmp old name)) (is_eq-slice_cmp a.name name)
    ∙ ap (λ (v : ℕ). cond (bytes_eq a.name name) (Some v) (get bytes_cmp old name)) here
    ∙ by_name (bytes_eq a.name name) (get bytes_cmp old name) (get bytes_cmp old a.name) i (λ h. ap (get bytes_cmp old) (sym ((bytes_eq-Decides a.name name).0 h)))
    ∙ ap (λ (p : Option ℕ). option_or p (cond (bytes_eq a.name name) (Some i) None)) (at name)
    ∙ ap (λ (n : ℕ). option_or (account_of (take i accounts) name) (cond (bytes_eq a.name name) (Some n) None)) (sym long)
    ∙ sym (account_of-push (take i accounts) a name)
    ∙ ap (λ (b : Account). account_of (take i accounts ++ b ∷ []) name) item
    ∙ ap (λ (xs : List Account). account_of xs name) (sym (take_more accounts i a within))
