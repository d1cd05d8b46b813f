-- Scopes that are passed over along a path.
use Rattle.std.proofs.Common.{◌≡◌, ℕ, ◌<◌, List, Option, Some, None, get_or, sym, ap, ◌∙◌}
use denote.Ref.{Bor}
use Rattle.algolw_typing.specs.Names.{declared, in_scope}
use Rattle.algolw_typing.specs.Scopes.{Scopes}
use Rattle.name_scopes.specs.Marks.{mark_of}
use Rattle.name_scopes.specs.Nearest.{kept_or}
use Rattle.name_scopes.proofs.Looking.{passed_over}
use Rattle.declared_names.specs.KnownPaths.{IsPath, behind, known_of, path_of}
use Rattle.declared_names.specs.Standards.{standard_path}
use Rattle.declared_names.specs.declared.innermost.Innermost.{Innermost}

-- a name that the innermost scope doesn't declare is looked for where its mark says
pub looked_for : (scopes : Option (Innermost × Bor Scopes)) (nearest : List (Option (Bor Scopes))) (path : Scopes) (own : Innermost) (outer : Bor Scopes) (o : Option (Bor Scopes)) (x : List ℕ)
    → IsPath scopes nearest → path_of scopes ≡ path → scopes ≡ Some (own, outer) → in_scope (known_of own) x ≡ None → get_or nearest (mark_of x) None ≡ o → mark_of x < 64 → declared (kept_or standard_path o) x ≡ declared path x
looked_for scopes nearest path own outer o x held view is none kept within =
    ap (λ k. declared (kept_or standard_path k) x) (sym kept)
    ∙ held.alike x within
    ∙ ap (λ s. declared (behind s) x) is
    ∙ sym (passed_over (known_of own) outer.now x none)
    ∙ sym (ap (λ s. declared (path_of s) x) is)
    ∙ ap (λ (p : Scopes). declared p x) view
