-- Where procedures and labelled items stand, by the numbers of their targets.
use Rattle.std.specs.Prelude.{◌≡◌, ℕ, ⊤, ◌+◌, List, length, slice_index_or}
use Rattle.program_meaning.specs.Phrases.{Items, no_items, item_and, Decls, no_decls, variables_and, arrays_and, procedure_and}
use Rattle.phrase_code.specs.Sizes.{Known, size, bounds_size, decls_size}

-- the targets from the n-th on are where these items stand, of which the first begins at k
abbrev pub ItemsStand : List Known → (k : ℕ) → Items → (targets : List ℕ) → (n : ℕ) → Type 0
ItemsStand known k no_items targets n = ⊤
ItemsStand known k (item_and labels a rest) targets n = (slice_index_or targets n n ≡ k) × ItemsStand known (k + size known a) rest targets (n + 1)

-- and where the procedures of these declarations stand, whose code begins at k
abbrev pub DeclsStand : (outside inside : List Known) → (k : ℕ) → Decls → (targets : List ℕ) → (n : ℕ) → Type 0
DeclsStand outside inside k no_decls targets n = ⊤
DeclsStand outside inside k (variables_and names rest) targets n = DeclsStand outside inside (k + length names) rest targets n
DeclsStand outside inside k (arrays_and t names pairs rest) targets n = DeclsStand outside inside (k + (bounds_size outside pairs + (1 + length names))) rest targets n
DeclsStand outside inside k (procedure_and x result formals body rest) targets n = (slice_index_or targets n n ≡ k) × DeclsStand outside inside (k + decls_size outside inside (procedure_and x result formals body no_decls)) rest targets (n + 1)
