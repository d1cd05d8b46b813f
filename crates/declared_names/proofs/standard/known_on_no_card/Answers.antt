use Rattle.std.proofs.Common.{◌≡◌, ℕ, suc, ◌+◌, ◌<◌, true, List, ◌∷◌, Option, Some, length, get_or, drop, sym, ap, ◌∙◌, drop-cons, rules}
use Rattle.std.proofs.lemmas.Slice.Eq.{bytes_eq-Decides}
use Rattle.std.specs.Str.{bytes_eq}
use denote.Ref.{Bor}
use Rattle.algolw_tree.specs.declared.standard.Standard.{Standard}
use Rattle.algolw_tree.specs.Standards.{spelled}
use Rattle.algolw_typing.specs.Names.{Entry, in_scope}
use Rattle.algolw_typing.specs.Scopes.{Known, standard_entry, standard_entries}
use Rattle.declared_names.proofs.standard.known_on_no_card.Goals as goal

-- the first of standard names, where that is the name
at_first : (x : Bor (List ℕ) × Standard) (xs : List (Bor (List ℕ) × Standard)) (n : ℕ) (q : List ℕ) → bytes_eq x.0.now q ≡ true
    → Some (standard_entry q n x.1) ≡ in_scope (standard_entries n (spelled (x ∷ xs))) q
at_first x xs n q same =
    rw (same, in_scope) (ap {B = Option (Entry Known)} (λ (name : List ℕ). Some (standard_entry name n x.1)) (sym ((bytes_eq-Decides x.0.now q).0 same)))

found : (names : List (Bor (List ℕ) × Standard)) (i : ℕ) (q : List ℕ) (d : Bor (List ℕ) × Standard) → i < length names → bytes_eq (get_or names i d).0.now q ≡ true
    → in_scope (standard_entries (i + 1) (spelled (drop i names))) q ≡ in_scope (standard_entries 1 (spelled names)) q → Some (standard_entry q (i + 1) (get_or names i d).1) ≡ in_scope (standard_entries 1 (spelled names)) q
found names i q d within same left =
    at_first (get_or names i d) (drop (suc i) names) (i + 1) q same
    ∙ ap (λ (xs : List (Bor (List ℕ) × Standard)). in_scope (standard_entries (i + 1) (spelled xs)) q) (sym (drop-cons names i d within))
    ∙ left

pub returns-then-eq : goal.returns-then-eq
returns-then-eq c = found c.args.names.now c.loop-position.position c.args.name.now _ c.loop-position-test.true (search rules) c.loop-position.invariant
