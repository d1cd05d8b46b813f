-- What the chains have for a window.
use Rattle.std.specs.Prelude.{ℕ, ◌≡◌, ◌<◌, ⊤, List, Option, Some, drop, length, map, slice_get, slice_index}
use Rattle.std.specs.Borrow.{Bor}
use Rattle.std.specs.declared.alloc.Global.{Global}
use Rattle.std.specs.declared.vec.Vec.{Vec}
use Rattle.night_merge.specs.declared.plan.Entry.{Entry}
use Rattle.night_merge.specs.declared.plan.Entry.TheVariants.{Job, Refused}
use Rattle.night_merge.specs.declared.shelf.Part.{Part}
use Rattle.night_merge.specs.Entries.{count_of}
use Rattle.night_merge.specs.Parts.{part_at}

-- these are the listings of a window's parts, of each chain of which it has a job
abbrev pub HasTexts : (Part → Option (List ℕ)) → ℕ → List Entry → List (Vec ℕ Global) → Type 0
HasTexts known number entries texts = (chain : ℕ) (text : Vec ℕ Global) → slice_get texts chain ≡ Some text → 0 < count_of chain entries → known (part_at chain number) ≡ Some text.items

-- each chain has these
abbrev pub HasRests : (ℕ → List (List ℕ)) → List (Vec (Bor (List ℕ)) Global) → Type 0
HasRests rests owns = (chain : ℕ) (own : Vec (Bor (List ℕ)) Global) → slice_get owns chain ≡ Some own → map (λ r. r.now) own.items ≡ rests chain

-- behind so many that are taken, each chain has these
abbrev pub Supplies : (ℕ → List (List ℕ)) → List (Vec (Bor (List ℕ)) Global) → List ℕ → Type 0
Supplies supply owns taken = (chain : ℕ) (own : Vec (Bor (List ℕ)) Global) → slice_get owns chain ≡ Some own → drop (slice_index taken chain) (map (λ r. r.now) own.items) ≡ supply chain

-- each chain has as many as there are jobs of it
abbrev pub AreEnough : ℕ → (ℕ → List (List ℕ)) → List Entry → Type 0
AreEnough chains supply entries = (chain : ℕ) → chain < chains → length (supply chain) ≡ count_of chain entries

-- where a job is in a chain, that is one of so many, and it has another one
abbrev pub HasNext : ℕ → (ℕ → List (List ℕ)) → Entry → Type 0
HasNext chains supply (Job chain) = (chain < chains) × (0 < length (supply chain))
HasNext chains supply (Refused flaw name account_name) = ⊤

-- each chain has so many, whatever they are
abbrev pub HasCounts : List Entry → List (Vec (Bor (List ℕ)) Global) → Type 0
HasCounts entries owns = (chain : ℕ) (own : Vec (Bor (List ℕ)) Global) → slice_get owns chain ≡ Some own → length own.items ≡ count_of chain entries
