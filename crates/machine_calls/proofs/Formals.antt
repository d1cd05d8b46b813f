-- The names of formals in scope.
use Rattle.std.proofs.Common.{◌≡◌, ℕ, suc, ◌+◌, ◌<◌, ◌≤◌, List, [], ◌∷◌, ◌++◌, true, nat_lt, length, map, take, get_or, append_assoc, refl, sym, ap, ◌∙◌, subst, arith}
use mathlib.Core.List.{reverse_aux}
use Rattle.std.specs.List.{All}
use Rattle.std.proofs.lemmas.Bool.Decides.{nat_tests}
use Rattle.std.proofs.lemmas.List.{take_more, length-take-le}
use Rattle.std.proofs.lemmas.List.Elements.{All-nil, All-cons, All-head, All-tail}
use Rattle.cell_store.specs.declared.entries.Entry as store
use Rattle.stack_code.specs.declared.heads.Formal.{Formal}
use Rattle.stack_code.specs.declared.heads.FormalType.{FormalType}
use Rattle.stack_code.specs.declared.heads.FormalType.TheVariants as formal
use Rattle.stack_code.specs.CodeView.{Given, formal_view, formal_type_view, text_view}
use Rattle.stack_code.specs.Limits.{FormalRuns}
use Rattle.stack_code.specs.Machine.{Machine, Entry}
use Rattle.stack_code.specs.Doing.{Row, ◌>>◌, enter, most_entries}
use Rattle.stack_code.specs.Table.{enter_formals, name_of}
use Rattle.machine_rows.specs.Seen.{IsClear, EntryFits, entry_of}
use Rattle.machine_calls.specs.Found.{entry_by, formal_entry, formal_entries}
use Rattle.machine_rows.proofs.Rows.{in_line, entry_more, clear_enter, enter_is}

-- a formal's entry
named_by : (g : Given) (f : FormalType) (name k : ℕ) → name_of (formal_type_view g f) (text_view g name) k ≡ entry_of g (entry_by f name k)
named_by g (formal.ByName t) name k = refl
named_by g (formal.Value t) name k = refl
named_by g (formal.Result t) name k = refl
named_by g (formal.ValueResult t) name k = refl
named_by g (formal.Array t n) name k = refl
named_by g (formal.Procedure t) name k = refl

-- entries with these on top, the last one the newest
abbrev pub with_formals : Given → ℕ → List Formal → Machine → Machine
with_formals g k fs m = record m { entries = reverse_aux (map (entry_of g) (formal_entries k fs)) m.entries }

-- they are entered, where there is room
pub record AreEntered (g : Given) (marks k : ℕ) (fs : List Formal) (rest : Row (Unit {0})) (m : Machine) : Type 0 where
  pub is : (enter_formals marks k (map (formal_view g) fs) >> rest) m ≡ rest (with_formals g k fs m)
  pub room : length m.entries + length fs ≤ most_entries marks

below : (a b : ℕ) → nat_lt a b ≡ true → suc a ≤ b
below a b h = grind (arith, nat_tests)

abbrev one_entry : Given → ℕ → Formal → Entry
one_entry g k f = name_of (formal_type_view g f.is) (text_view g f.name) k

abbrev tail_row : Given → (marks k : ℕ) → List Formal → Row (Unit {0}) → Row (Unit {0})
tail_row g marks k fs rest = enter_formals marks (k + 1) (map (formal_view g) fs) >> rest

-- one more
one_entered : (g : Given) (marks k : ℕ) (f : Formal) (fs : List Formal) (rest : Row (Unit {0})) (m : Machine) → IsClear ((enter_formals marks k (map (formal_view g) (f ∷ fs)) >> rest) m) →
    (length (entry_more (one_entry g k f) m).entries ≤ most_entries marks → IsClear (tail_row g marks k fs rest (entry_more (one_entry g k f) m)) → AreEntered g marks (k + 1) fs rest (entry_more (one_entry g k f) m)) → AreEntered g marks k (f ∷ fs) rest m
one_entered g marks k f fs rest m clear later = record { is = split ∙ one ∙ more.is ∙ ap (λ e. rest (with_formals g (k + 1) fs (entry_more e m))) (named_by g f.is f.name k); room = omega (arith, more.room) } where
  split : (enter_formals marks k (map (formal_view g) (f ∷ fs)) >> rest) m ≡ (enter marks (one_entry g k f) >> tail_row g marks k fs rest) m
  split = in_line (enter marks (one_entry g k f) m) (enter_formals marks (k + 1) (map (formal_view g) fs)) rest

  room : nat_lt (length m.entries) (most_entries marks) ≡ true
  room = clear_enter marks (one_entry g k f) (tail_row g marks k fs rest) m (subst IsClear split clear)

  one : (enter marks (one_entry g k f) >> tail_row g marks k fs rest) m ≡ tail_row g marks k fs rest (entry_more (one_entry g k f) m)
  one = enter_is marks (one_entry g k f) (tail_row g marks k fs rest) m room

  more : AreEntered g marks (k + 1) fs rest (entry_more (one_entry g k f) m)
  more = later (below (length m.entries) (most_entries marks) room) (subst IsClear (split ∙ one) clear)

pub formals_entered : (g : Given) (marks k : ℕ) (fs : List Formal) (rest : Row (Unit {0})) (m : Machine) → length m.entries ≤ most_entries marks → IsClear ((enter_formals marks k (map (formal_view g) fs) >> rest) m) → AreEntered g marks k fs rest m
formals_entered g marks k [] rest m few clear = record { is = refl; room = omega (arith, few) }
formals_entered g marks k (f ∷ fs) rest m few clear = one_entered g marks k f fs rest m clear (λ few' clear'. formals_entered g marks (k + 1) fs rest (entry_more (one_entry g k f) m) few' clear')

-- the newest on top
pub on_top : {A : Type 0} (xs ys zs : List A) → reverse_aux (xs ++ ys) zs ≡ reverse_aux ys (reverse_aux xs zs)
on_top [] ys zs = refl
on_top (x ∷ xs) ys zs = on_top xs ys (x ∷ zs)

-- their cells are told by 16 bits
pub entries_fit : (g : Given) (k : ℕ) (fs : List Formal) → All (FormalRuns g) fs → k + length fs ≤ 65536 → All (EntryFits g) (formal_entries k fs)
entries_fit g k [] h few = All-nil (EntryFits g)
entries_fit g k (f ∷ fs) h few = All-cons (EntryFits g) (formal_entry f k) (formal_entries (k + 1) fs) (one f.is) (entries_fit g (k + 1) fs (All-tail (FormalRuns g) f fs h) (omega (arith, few))) where
  name : f.name < length g.names
  name = (All-head (FormalRuns g) f fs h).name

  cell : k < 65536
  cell = omega (arith, few)

  one : (is : FormalType) → EntryFits g (entry_by is f.name k)
  one (formal.ByName t) = (name, cell)
  one (formal.Value t) = (name, cell)
  one (formal.Result t) = (name, cell)
  one (formal.ValueResult t) = (name, cell)
  one (formal.Array t n) = (name, cell)
  one (formal.Procedure t) = (name, cell)

-- one more of them
pub one_more : (k : ℕ) (fs : List Formal) (f : Formal) → formal_entries k (fs ++ f ∷ []) ≡ formal_entries k fs ++ formal_entry f (k + length fs) ∷ []
one_more k [] f = ap (λ n. formal_entry f n ∷ []) (zero_more k) where
  zero_more : (n : ℕ) → n ≡ n + 0
  zero_more n = omega arith
one_more k (x ∷ fs) f = ap (λ es. formal_entry x k ∷ es) (one_more (k + 1) fs f ∙ ap (λ n. formal_entries (k + 1) fs ++ formal_entry f n ∷ []) (shifted k (length fs))) where
  shifted : (a b : ℕ) → a + 1 + b ≡ a + suc b
  shifted a b = omega arith

-- ---- as the code enters them

pub entered_count : (k : ℕ) (fs : List Formal) → length (formal_entries k fs) ≡ length fs
entered_count k [] = refl
entered_count k (f ∷ fs) = ap suc (entered_count (k + 1) fs)

pub entered_more : (entries : List store.Entry) (k i : ℕ) (fs : List Formal) (d : Formal) → i < length fs → (entries ++ formal_entries k (take i fs)) ++ formal_entry (get_or fs i d) (k + i) ∷ [] ≡ entries ++ formal_entries k (take (i + 1) fs)
entered_more entries k i fs d h =
    append_assoc entries (formal_entries k (take i fs)) (formal_entry (get_or fs i d) (k + i) ∷ [])
    ∙ ap (λ n. entries ++ (formal_entries k (take i fs) ++ formal_entry (get_or fs i d) (k + n) ∷ [])) (sym (length-take-le i fs (below_or i (length fs) h)))
    ∙ ap (λ es. entries ++ es) (sym (one_more k (take i fs) (get_or fs i d)))
    ∙ ap (λ l. entries ++ formal_entries k l) (sym (take_more fs i d h))
  where
    below_or : (a b : ℕ) → a < b → a ≤ b
    below_or a b h = omega (arith, h)
