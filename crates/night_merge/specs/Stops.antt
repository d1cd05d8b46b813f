-- Why the joining of a night stops, by what stopped it.
use Rattle.std.specs.Prelude.{ℕ, ◌≡◌, ◌≤◌, ◌<◌, ◌⊎◌, ⊤, List, Option, None, Some}
use Rattle.night_merge.specs.declared.shelf.Part.{Part}
use Rattle.night_merge.specs.declared.shelf.Unfetched.{Unfetched}
use Rattle.night_merge.specs.declared.stop.Unread.{Unread}
use Rattle.night_merge.specs.declared.stop.Stop.{Stop}
use Rattle.night_merge.specs.declared.shelf.Unfetched.TheVariants as unfetched
use Rattle.night_merge.specs.declared.stop.Unread.TheVariants as unread
use Rattle.night_merge.specs.declared.stop.Stop.TheVariants as stop

abbrev pub stop_unread : Unread → Stop
stop_unread unread.NoMemory = stop.NoMemory
stop_unread unread.ReadFault = stop.ReadFault
stop_unread unread.BadPlan = stop.BadPlan

abbrev pub stop_unfetched : Unfetched → Stop
stop_unfetched unfetched.NoMemory = stop.NoMemory
stop_unfetched unfetched.ReadFault = stop.ReadFault

-- want of memory, or a read or a write that failed
abbrev pub IsFault : Stop → Type 0
IsFault stop.NoMemory = ⊤
IsFault stop.ReadFault = ⊤
IsFault stop.WriteFault = ⊤
IsFault stop.BadPlan = ⊥
IsFault (stop.Missing part) = ⊥
IsFault (stop.OtherListing part) = ⊥

-- one of these, or a part whose listing isn't there
abbrev pub IsFair : (Part → Option (List ℕ)) → Stop → Type 0
IsFair known stop.NoMemory = ⊤
IsFair known stop.ReadFault = ⊤
IsFair known stop.WriteFault = ⊤
IsFair known stop.BadPlan = ⊥
IsFair known (stop.Missing part) = known part ≡ None
IsFair known (stop.OtherListing part) = ⊥

-- the part that is named
abbrev pub named : Stop → Option Part
named stop.NoMemory = None
named stop.ReadFault = None
named stop.WriteFault = None
named stop.BadPlan = None
named (stop.Missing part) = Some part
named (stop.OtherListing part) = Some part

-- where a part is named, it is of this window
abbrev pub IsNamedIn : ℕ → Stop → Type 0
IsNamedIn number s = (part : Part) → named s ≡ Some part → part.window ≡ number

-- ---- where a night is joined from listings that needn't be those of its parts

-- whether a part is this one or comes before it: in an earlier window, or in the same one and in no later chain
abbrev pub IsUpTo : Part → Part → Type 0
IsUpTo last part = (part.window < last.window) ⊎ ((part.window ≡ last.window) × (part.chain ≤ last.chain))

-- of the parts before this window the listings are the same
abbrev pub AgreeBefore : (Part → Option (List ℕ)) → (Part → Option (List ℕ)) → ℕ → Type 0
AgreeBefore seen known number = (part : Part) → part.window < number → seen part ≡ known part

-- so are those of the parts up to this one
abbrev pub AgreeUpTo : (Part → Option (List ℕ)) → (Part → Option (List ℕ)) → Part → Type 0
AgreeUpTo seen known last = (part : Part) → IsUpTo last part → seen part ≡ known part

-- whether a part is of one of so many chains, in one of so many windows
abbrev pub IsAmong : ℕ → ℕ → Part → Type 0
IsAmong chains windows part = (0 < part.chain) × (part.chain ≤ chains) × (0 < part.window) × (part.window ≤ windows)

-- Why the listings `known` aren't joined to the night that has the listings `seen`: a fault, a part that has none, or one of its parts, up to which the two aren't the same.
-- Where this holds of each night by a plan, none of them has the listings that are there up to the part that is named.
abbrev pub IsWhy : ℕ → ℕ → (Part → Option (List ℕ)) → (Part → Option (List ℕ)) → Stop → Type 0
IsWhy chains windows seen known stop.NoMemory = ⊤
IsWhy chains windows seen known stop.ReadFault = ⊤
IsWhy chains windows seen known stop.WriteFault = ⊤
IsWhy chains windows seen known stop.BadPlan = ⊥
IsWhy chains windows seen known (stop.Missing part) = known part ≡ None
IsWhy chains windows seen known (stop.OtherListing part) = IsAmong chains windows part × (AgreeUpTo seen known part → ⊥)

-- want of memory, or that what this part has isn't its listing
abbrev pub IsOwn : Part → Stop → Type 0
IsOwn part stop.NoMemory = ⊤
IsOwn part stop.ReadFault = ⊥
IsOwn part stop.WriteFault = ⊥
IsOwn part stop.BadPlan = ⊥
IsOwn part (stop.Missing other) = ⊥
IsOwn part (stop.OtherListing other) = other ≡ part
