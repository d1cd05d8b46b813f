-- Why the joining of a night stops, whatever listings are there.
use Rattle.std.proofs.Common.{◌≡◌, ℕ, zero, suc, ◌+◌, ◌<◌, ◌≤◌, List, [], ◌∷◌, ◌++◌, Option, None, Some, length, map, slice_get, refl, sym, ap, ◌∙◌, arith, lit<, subst}
use Rattle.std.proofs.lemmas.List.{length-map}
use Rattle.std.specs.Borrow.{Bor}
use Rattle.std.specs.declared.alloc.Global.{Global}
use Rattle.std.specs.declared.vec.Vec.{Vec}
use Rattle.deck_reader.specs.declared.batch.Account.{Account}
use Rattle.night_merge.specs.declared.plan.Entry.{Entry}
use Rattle.night_merge.specs.declared.plan.Line.{Line}
use Rattle.night_merge.specs.declared.plan.Line.TheVariants.{Window, Stray}
use Rattle.night_merge.specs.declared.shelf.Part.{Part}
use Rattle.night_merge.specs.declared.shelf.Unfetched.{Unfetched}
use Rattle.night_merge.specs.declared.shelf.Unfetched.TheVariants as unfetched
use Rattle.night_merge.specs.declared.stop.Stop.{Stop}
use Rattle.night_merge.specs.declared.stop.Stop.TheVariants as stop
use Rattle.night_merge.specs.declared.stop.Unread.{Unread}
use Rattle.night_merge.specs.declared.stop.Unread.TheVariants as unread
use Rattle.night_merge.specs.Closing.{HasLeft}
use Rattle.night_merge.specs.Entries.{count_of}
use Rattle.night_merge.specs.Joining.{IsWindow}
use Rattle.night_merge.specs.Nights.{AreWindows}
use Rattle.night_merge.specs.Parts.{part_at}
use Rattle.night_merge.specs.Plan.{AreListed, entries_text, fed, first_line, lines_behind}
use Rattle.night_merge.specs.Stops.{AgreeBefore, AgreeUpTo, IsAmong, IsFair, IsFault, IsNamedIn, IsOwn, IsWhy, named, stop_unfetched, stop_unread}
use Rattle.night_merge.specs.Supplies.{AreEnough, HasCounts, HasRests}

-- ---- each stop has its reason

pub fair_why : (chains windows : ℕ) (seen known : Part → Option (List ℕ)) (s : Stop) → IsFair known s → IsWhy chains windows seen known s
fair_why chains windows seen known stop.NoMemory fair = fair
fair_why chains windows seen known stop.ReadFault fair = fair
fair_why chains windows seen known stop.WriteFault fair = fair
fair_why chains windows seen known stop.BadPlan fair = fair
fair_why chains windows seen known (stop.Missing part) fair = fair
fair_why chains windows seen known (stop.OtherListing part) fair = absurd fair

pub fault_why : (chains windows : ℕ) (seen known : Part → Option (List ℕ)) (s : Stop) → IsFault s → IsWhy chains windows seen known s
fault_why chains windows seen known stop.NoMemory fault = fault
fault_why chains windows seen known stop.ReadFault fault = fault
fault_why chains windows seen known stop.WriteFault fault = fault
fault_why chains windows seen known stop.BadPlan fault = fault
fault_why chains windows seen known (stop.Missing part) fault = absurd fault
fault_why chains windows seen known (stop.OtherListing part) fault = absurd fault

-- what would be want of memory, if the listings up to a part were the seen ones
pub own_why : (chains windows : ℕ) (seen known : Part → Option (List ℕ)) (part : Part) (s : Stop) → IsAmong chains windows part → IsOwn part s → (AgreeUpTo seen known part → s ≡ stop.NoMemory) → IsWhy chains windows seen known s
own_why chains windows seen known part stop.NoMemory among own want = own
own_why chains windows seen known part stop.ReadFault among own want = absurd own
own_why chains windows seen known part stop.WriteFault among own want = absurd own
own_why chains windows seen known part stop.BadPlan among own want = absurd own
own_why chains windows seen known part (stop.Missing other) among own want = absurd own
own_why chains windows seen known part (stop.OtherListing other) among own want =
    let A : Part → Type 0 = λ p. IsAmong chains windows p in
    let P : Part → Type 0 = λ p. AgreeUpTo seen known p in (
      subst A (sym own) among,
      λ agree.
          let memory : stop.OtherListing other ≡ stop.NoMemory = want (subst P own agree) in
          cc memory,
    )

pub unread_why : (chains windows : ℕ) (seen known : Part → Option (List ℕ)) (u : Unread) → (u ≡ unread.BadPlan → ⊥) → IsWhy chains windows seen known (stop_unread u)
unread_why chains windows seen known unread.NoMemory other = tt
unread_why chains windows seen known unread.ReadFault other = tt
unread_why chains windows seen known unread.BadPlan other = other refl

-- ---- a fault names no part

pub fault_unnamed : (s : Stop) (part : Part) → IsFault s → named s ≡ Some part → ⊥
fault_unnamed stop.NoMemory part fault names = let none : None ≡ Some part = names in cc none
fault_unnamed stop.ReadFault part fault names = let none : None ≡ Some part = names in cc none
fault_unnamed stop.WriteFault part fault names = let none : None ≡ Some part = names in cc none
fault_unnamed stop.BadPlan part fault names = fault
fault_unnamed (stop.Missing other) part fault names = fault
fault_unnamed (stop.OtherListing other) part fault names = fault

pub unread_unnamed : (u : Unread) (part : Part) → named (stop_unread u) ≡ Some part → ⊥
unread_unnamed unread.NoMemory part names = let none : None ≡ Some part = names in cc none
unread_unnamed unread.ReadFault part names = let none : None ≡ Some part = names in cc none
unread_unnamed unread.BadPlan part names = let none : None ≡ Some part = names in cc none

pub unfetched_unnamed : (u : Unfetched) (part : Part) → named (stop_unfetched u) ≡ Some part → ⊥
unfetched_unnamed unfetched.NoMemory part names = let none : None ≡ Some part = names in cc none
unfetched_unnamed unfetched.ReadFault part names = let none : None ≡ Some part = names in cc none

-- a part that is named is this one
pub named_part : (other part : Part) → Some other ≡ Some part → other ≡ part
named_part other part names = cc names

-- a part whose listing is another's is named by itself
pub own_named : (chain number : ℕ) (s : Stop) → IsOwn (part_at chain number) s → IsNamedIn number s
own_named chain number stop.NoMemory own = λ part names. let none : None ≡ Some part = names in cc none
own_named chain number stop.ReadFault own = absurd own
own_named chain number stop.WriteFault own = absurd own
own_named chain number stop.BadPlan own = absurd own
own_named chain number (stop.Missing other) own = absurd own
own_named chain number (stop.OtherListing other) own = λ part names. ap (λ (p : Part). p.window) (sym (named_part other part names) ∙ own)

-- ---- a window

-- a window that has the seen listings has the known ones, where they are the same
pub agree_window : (chains : ℕ) (accounts : List Account) (seen known : Part → Option (List ℕ)) (number : ℕ) (entries : List Entry) (rests : ℕ → List (List ℕ)) (before after : ℕ → ℕ)
    → AgreeBefore seen known (number + 1) → IsWindow chains accounts seen number entries rests before after → IsWindow chains accounts known number entries rests before after
agree_window chains accounts seen known number entries rests before after agree w = record {
  below = w.below;
  counted = w.counted;
  parts = λ chain text within some there. w.parts chain text within some (agree (part_at chain number) (omega arith) ∙ there);
  falls = w.falls;
  stays = w.stays;
}

-- what the chains have, whatever it is
supply_by : Option (Vec (Bor (List ℕ)) Global) → List (List ℕ)
supply_by None = []
supply_by (Some own) = map (λ (r : Bor (List ℕ)). r.now) own.items

pub supply_of : List (Vec (Bor (List ℕ)) Global) → ℕ → List (List ℕ)
supply_of owns chain = supply_by (slice_get owns chain)

pub supply_has : (owns : List (Vec (Bor (List ℕ)) Global)) → HasRests (supply_of owns) owns
unfolding supply_of supply_by
supply_has owns = λ chain own there. ap supply_by (sym there)

none_within : {A : Type 0} (xs : List A) (k : ℕ) → k < length xs → slice_get xs k ≡ None → ⊥
none_within [] k within e = omega (arith, within)
none_within (x ∷ xs) zero within e = cc e
none_within (x ∷ xs) (suc k) within e = none_within xs k (omega (arith, within)) e

enough_of : (owns : List (Vec (Bor (List ℕ)) Global)) (count : ℕ) (chain : ℕ) (found : Option (Vec (Bor (List ℕ)) Global)) → slice_get owns chain ≡ found → chain < length owns
    → ((own : Vec (Bor (List ℕ)) Global) → found ≡ Some own → length own.items ≡ count) → length (supply_by found) ≡ count
unfolding supply_by
enough_of owns count chain None e within counts = absurd (none_within owns chain within e)
enough_of owns count chain (Some own) e within counts = length-map own.items (λ (r : Bor (List ℕ)). r.now) ∙ counts own refl

pub supply_enough : (entries : List Entry) (owns : List (Vec (Bor (List ℕ)) Global)) → HasCounts entries owns → AreEnough (length owns) (supply_of owns) entries
unfolding supply_of supply_by
supply_enough entries owns counts = λ chain within. enough_of owns (count_of chain entries) chain (slice_get owns chain) refl within (λ own there. counts chain own there)
