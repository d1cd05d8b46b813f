-- The libraries before the first head, when one card more comes.
use Rattle.std.proofs.Common.{◌≡◌, ◌⊎◌, ℕ, ◌+◌, ◌<◌, Bool, true, false, cond, not, ◌&&◌, ◌||◌, nat_lt, nat_le, List, [], ◌∷◌, ◌++◌, length, take, drop, map, Option, Some, None, codes, bytes_eq, refl, sym, ap, ◌∙◌, arith, inl, inr}
use Rattle.std.specs.List.{list_any}
use Rattle.std.specs.Option.{option_map}
use Rattle.std.proofs.lemmas.List.{length-append, length-map, map-append}
use Rattle.std.proofs.lemmas.Bool.Decides.{nat_tests}
use Rattle.std.proofs.lemmas.Option.{same_Some}
use Rattle.std.proofs.lemmas.List.Sums.{sum_by_push}
use Rattle.deck_reader.specs.declared.open_library.OpenLibrary.{OpenLibrary}
use Rattle.deck_reader.specs.declared.reading.Stage.{Stage}
use Rattle.deck_reader.specs.declared.reading.Stage.TheVariants.{Front, Library, Inside, Outside}
use Rattle.deck_reader.specs.LibraryView.{LibraryView, Shelved}
use Rattle.deck_reader.specs.Forms.{folded, ends_a_word, is_account, is_library, is_control_card, behind_blanks, name_of, parted, name_and_balance, library_card}
use Rattle.deck_reader.specs.CardFlaws.{is_long, is_foul}
use Rattle.deck_reader.specs.Named.{is_free}
use Rattle.deck_reader.specs.Batch.{Run, runs_by, account_on, library_on, libraries_on, with_library, is_ill, shelved, written, shelf_cards}
use Rattle.deck_reader.specs.Shelves.{unless_kept, free_name}
use Rattle.deck_reader.specs.Reading.{IsOpenLibrary, Grows, shut, shelf_with, EndsNone, EndsOpen, AtShelf}
use Rattle.deck_reader.proofs.Named.{stated-push}
use Rattle.deck_reader.proofs.Firsts.{list_any-push}
use Rattle.deck_reader.proofs.Runs.{with_card, runs-passing, runs-other, runs-none}
use Rattle.deck_reader.proofs.Settings.{if_some}
use Rattle.deck_reader.proofs.JobCards.{from_is_control}

-- ---- a card is of one kind

no_account_by : (card : List ℕ) → is_account card ≡ false → account_on card ≡ None
no_account_by card h =
    ap (λ (b : Bool). option_map (λ c. record { name = c.name; opening = c.balance }) (cond b (name_and_balance (parted 32 (behind_blanks (drop 8 card)))) None)) h

first_of_neither : (a b : Bool) → (a || b) ≡ false → a ≡ false
first_of_neither true b h = cc
first_of_neither false b h = refl

-- a card that is no control card opens no account
pub no_account : (card : List ℕ) → is_control_card card ≡ false → account_on card ≡ None
no_account card h = no_account_by card (first_of_neither (is_account card) _ h)

-- a card that begins a library opens no account
pub library_no_account : (card name : List ℕ) → library_card card ≡ Some name → account_on card ≡ None
library_no_account card name h =
    let begun = if_some (is_library card) (name_of (behind_blanks (drop 8 card))) name h in
    let word : folded (take 8 card) ≡ codes "%LIBRARY" = (from_is_control (codes "%LIBRARY") card begun.0).0 in
    no_account_by card (ap (λ (w : List ℕ). bytes_eq w (codes "%ACCOUNT") && ends_a_word (drop 8 card)) word)

-- such a card isn't blank
pub library_written : (card name : List ℕ) → library_card card ≡ Some name → 0 < length card
library_written [] name h = cc
library_written (c ∷ cs) name h = omega arith

list_any-mapped : {X Y : Type 0} (p : Y → Bool) (f : X → Y) (xs : List X) → list_any p (map f xs) ≡ list_any (λ x. p (f x)) xs
list_any-mapped p f [] = refl
list_any-mapped p f (x ∷ xs) = ap (λ (b : Bool). p (f x) || b) (list_any-mapped p f xs)

-- ---- the libraries of control cards

libraries-push : (controls : List Run) (run : Run) → libraries_on (controls ++ run ∷ []) ≡ with_library (libraries_on controls) (library_on run)
libraries-push controls run = stated-push (λ l. l.name) 20 library_on controls run

abbrev pub begun : List ℕ → List (List ℕ) → LibraryView
begun name cards = record { name = name; cards = cards }

kept_more : (controls : List Run) (run : Run) (name : List ℕ) → library_card run.head ≡ Some name → is_free (λ l. l.name) 20 (libraries_on controls) name ≡ true
    → libraries_on (controls ++ run ∷ []) ≡ libraries_on controls ++ begun name run.behind ∷ []
kept_more controls run name begins free =
    let ls = libraries_on controls in
    libraries-push controls run
    ∙ ap (λ (n : Option (List ℕ)). with_library ls (option_map (λ name. record { name = name; cards = run.behind }) n)) begins
    ∙ ap (λ (b : Bool). cond b (ls ++ begun name run.behind ∷ []) ls) free

-- the libraries of control cards of which the last one's is under way
pub open_libraries : (controls : List Run) (shelf : List Shelved) (library : OpenLibrary) (o : EndsOpen controls shelf library) → libraries_on controls ≡ libraries_on o.done ++ begun o.name o.last.behind ∷ []
open_libraries controls shelf library o = ap libraries_on o.are ∙ kept_more o.done o.last o.name o.begins o.free

pub shelf_cards-push : (ls : List LibraryView) (l : LibraryView) → shelf_cards (ls ++ l ∷ []) ≡ shelf_cards ls + (1 + written l.cards)
shelf_cards-push ls l = sum_by_push (λ l. 1 + written l.cards) ls l

-- ---- the library that is under way

shut_by : (b : Bool) (name : List ℕ) (behind : List (List ℕ)) (library : OpenLibrary) → library.is_ill ≡ b → IsOpenLibrary name behind library → shut library ≡ shelved (begun name behind)
shut_by true name behind library is stands =
    ap (λ (ill : Bool). record { name = library.name; library = cond ill None (Some (begun library.name library.cards)) }) is
    ∙ ap (λ (n : List ℕ). record { name = n; library = None }) stands.name_is
    ∙ ap (λ (ill : Bool). record { name = name; library = cond ill None (Some (begun name behind)) }) (sym is ∙ stands.ill_is)
shut_by false name behind library is stands =
    ap (λ (ill : Bool). record { name = library.name; library = cond ill None (Some (begun library.name library.cards)) }) is
    ∙ ap (λ (n : List ℕ). record { name = n; library = Some (begun n library.cards) }) stands.name_is
    ∙ ap (λ (cs : List (List ℕ)). record { name = name; library = Some (begun name cs) }) (stands.cards_are is)
    ∙ ap (λ (ill : Bool). record { name = name; library = cond ill None (Some (begun name behind)) }) (sym is ∙ stands.ill_is)

-- with the library under way, those of all control cards are there
pub all_there : (stage : Stage) (shelf : List Shelved) (controls : List Run) → AtShelf stage shelf controls → shelf_with stage shelf ≡ map shelved (libraries_on controls)
all_there Front shelf controls at = at.0
all_there (Library library) shelf controls at =
    let ls = libraries_on at.done in
    ap (λ (s : List Shelved). s ++ shut library ∷ []) at.shelf_is
    ∙ ap (λ (s : Shelved). map shelved ls ++ s ∷ []) (shut_by library.is_ill at.name at.last.behind library refl at.stands)
    ∙ sym (map-append shelved ls (begun at.name at.last.behind ∷ []))
    ∙ sym (ap (map shelved) (open_libraries controls shelf library at))
all_there (Inside job) shelf controls at = at
all_there Outside shelf controls at = at

or_true : (b : Bool) → (b || true) ≡ true
or_true true = refl
or_true false = refl

ill_more : (over full long foul l f : Bool) → (over ≡ true → full ≡ true) → (full || ((long || l) || (foul || f))) ≡ ((over || (long || foul)) || (full || (l || f)))
ill_more over true long foul l f h = sym (or_true (over || (long || foul)))
ill_more true false long foul l f h = let e : false ≡ true = h refl in cc
ill_more false false true foul l f h = refl
ill_more false false false true l f h = or_true l
ill_more false false false false l f h = refl

full : (n m : ℕ) → m ≡ n + 1 → nat_lt 500 m ≡ nat_le 500 n
full n m h = grind (arith, nat_tests)

over_is_full : (n : ℕ) → nat_lt 500 n ≡ true → nat_le 500 n ≡ true
over_is_full n h = grind (arith, nat_tests)

-- whether a library is ill formed with one card more
ill-push : (name : List ℕ) (cards : List (List ℕ)) (card : List ℕ) → is_ill (begun name (cards ++ card ∷ [])) ≡ (is_ill (begun name cards) || (nat_le 500 (length cards) || (is_long card || is_foul card)))
ill-push name cards card =
    let long = list_any is_long cards in
    let foul = list_any is_foul cards in
    ap (λ (b : Bool). b || (list_any is_long (cards ++ card ∷ []) || list_any is_foul (cards ++ card ∷ []))) (full (length cards) (length (cards ++ card ∷ [])) (omega (arith, length-append cards (card ∷ []))))
    ∙ ap (λ (b : Bool). nat_le 500 (length cards) || (b || list_any is_foul (cards ++ card ∷ []))) (list_any-push is_long cards card)
    ∙ ap (λ (b : Bool). nat_le 500 (length cards) || ((long || is_long card) || b)) (list_any-push is_foul cards card)
    ∙ ill_more (nat_lt 500 (length cards)) (nat_le 500 (length cards)) long foul (is_long card) (is_foul card) (over_is_full (length cards))

grown_ill : (b : Bool) (name : List ℕ) (behind : List (List ℕ)) (old : OpenLibrary) (card : List ℕ) → old.is_ill ≡ b → IsOpenLibrary name behind old
    → (old.is_ill || (nat_le 500 (length old.cards) || (is_long card || is_foul card))) ≡ (is_ill (begun name behind) || (nat_le 500 (length behind) || (is_long card || is_foul card)))
grown_ill true name behind old card is stands =
    ap (λ (b : Bool). b || (nat_le 500 (length old.cards) || (is_long card || is_foul card))) is
    ∙ sym (ap (λ (b : Bool). b || (nat_le 500 (length behind) || (is_long card || is_foul card))) (sym stands.ill_is ∙ is))
grown_ill false name behind old card is stands =
    ap (λ (cs : List (List ℕ)). old.is_ill || (nat_le 500 (length cs) || (is_long card || is_foul card))) (stands.cards_are is)
    ∙ ap (λ (b : Bool). b || (nat_le 500 (length behind) || (is_long card || is_foul card))) stands.ill_is

-- a library under way stands for one card more
pub grown : (name : List ℕ) (behind : List (List ℕ)) (old new : OpenLibrary) (card : List ℕ) → IsOpenLibrary name behind old → Grows old new card → IsOpenLibrary name (behind ++ card ∷ []) new
grown name behind old new card stands grows = record {
  name_is = grows.name ∙ stands.name_is;
  ill_is = grows.ill ∙ grown_ill old.is_ill name behind old card refl stands ∙ sym (ill-push name behind card);
  cards_are = λ well. grows.cards well ∙ ap (λ (cs : List (List ℕ)). cs ++ card ∷ []) (stands.cards_are (first_of_neither old.is_ill _ (sym grows.ill ∙ well)));
}

-- ---- one card more, before the first head

-- a card of the library that is under way
abbrev pub in_library : (cards : List (List ℕ)) (card : List ℕ) (shelf : List Shelved) (old new : OpenLibrary) → is_control_card card ≡ false → EndsOpen (runs_by is_control_card cards) shelf old → Grows old new card
    → EndsOpen (runs_by is_control_card (cards ++ card ∷ [])) shelf new
in_library cards card shelf old new other o grows = record {
  done = o.done;
  last = with_card o.last card;
  name = o.name;
  are = runs-other is_control_card cards card o.done o.last other o.are;
  begins = o.begins;
  free = o.free;
  shelf_is = o.shelf_is;
  stands = grown o.name o.last.behind old new card o.stands grows;
}

-- it is one more of the cards of libraries, unless it is blank
pub in_library-cards : (cards : List (List ℕ)) (card : List ℕ) (shelf : List Shelved) (old new : OpenLibrary) (more : ℕ) (other : is_control_card card ≡ false) (o : EndsOpen (runs_by is_control_card cards) shelf old) (grows : Grows old new card)
    → ((xs : List (List ℕ)) → written (xs ++ card ∷ []) ≡ written xs + more)
    → shelf_cards (libraries_on (runs_by is_control_card (cards ++ card ∷ []))) ≡ shelf_cards (libraries_on (runs_by is_control_card cards)) + more
in_library-cards cards card shelf old new more other o grows step =
    let ls = libraries_on o.done in
    let before = ap shelf_cards (open_libraries (runs_by is_control_card cards) shelf old o) ∙ shelf_cards-push ls (begun o.name o.last.behind) in
    let after = ap shelf_cards (open_libraries (runs_by is_control_card (cards ++ card ∷ [])) shelf new (in_library cards card shelf old new other o grows)) ∙ shelf_cards-push ls (begun o.name (o.last.behind ++ card ∷ [])) in
    omega (arith, before, after, step o.last.behind)

-- any other card that is no control card
pub in_none : (cards : List (List ℕ)) (card : List ℕ) → is_control_card card ≡ false → (runs_by is_control_card cards ≡ []) ⊎ EndsNone (runs_by is_control_card cards)
    → ((runs_by is_control_card (cards ++ card ∷ []) ≡ []) ⊎ EndsNone (runs_by is_control_card (cards ++ card ∷ []))) × (libraries_on (runs_by is_control_card (cards ++ card ∷ [])) ≡ libraries_on (runs_by is_control_card cards))
in_none cards card other (inl none) =
    let still = runs-none is_control_card cards card other none in
    (inl still, ap libraries_on (still ∙ sym none))
in_none cards card other (inr e) =
    let more = runs-other is_control_card cards card e.done e.last other e.are in (
      inr (record { done = e.done; last = with_card e.last card; are = more; none = e.none }),
      ap libraries_on more ∙ libraries-push e.done (with_card e.last card) ∙ e.none (e.last.behind ++ card ∷ [])
          ∙ sym (ap libraries_on e.are ∙ libraries-push e.done e.last ∙ e.none e.last.behind),
    )

free_shelved : (ls : List LibraryView) (name : List ℕ) → is_free (λ l. l.name) 20 (map shelved ls) name ≡ is_free (λ l. l.name) 20 ls name
free_shelved ls name =
    ap (λ (n : ℕ). nat_lt n 20 && not (list_any (λ (l : Shelved). bytes_eq l.name name) (map shelved ls))) (length-map ls shelved)
    ∙ ap (λ (b : Bool). nat_lt (length ls) 20 && not b) (list_any-mapped (λ (l : Shelved). bytes_eq l.name name) shelved ls)

-- a control card begins a library, which is kept, or none
pub data Kind (controls : List Run) (card : List ℕ) (name : Option (List ℕ)) : Type 0 where
  begins_one : (x : List ℕ) → name ≡ Some x → library_card card ≡ Some x → is_free (λ l. l.name) 20 (libraries_on controls) x ≡ true → Kind controls card name
  begins_none : name ≡ None → ((behind : List (List ℕ)) → with_library (libraries_on controls) (library_on (record { head = card; behind = behind })) ≡ libraries_on controls) → Kind controls card name

kind_by : (b : Bool) (r : Option (List ℕ)) (controls : List Run) (card : List ℕ) (name : Option (List ℕ)) → library_card card ≡ r → name ≡ unless_kept (map shelved (libraries_on controls)) r
    → ((x : List ℕ) → r ≡ Some x → is_free (λ l. l.name) 20 (libraries_on controls) x ≡ b) → Kind controls card name
kind_by b None controls card name is e free =
    begins_none e (λ behind. ap (λ (n : Option (List ℕ)). with_library (libraries_on controls) (option_map (λ name. record { name = name; cards = behind }) n)) is)
kind_by true (Some x) controls card name is e free =
    begins_one x (e ∙ ap (λ (b : Bool). cond b (Some x) None) (free_shelved (libraries_on controls) x ∙ free x refl)) is (free x refl)
kind_by false (Some x) controls card name is e free =
    let ls = libraries_on controls in
    begins_none (e ∙ ap (λ (b : Bool). cond b (Some x) None) (free_shelved ls x ∙ free x refl))
    (λ behind. ap (λ (n : Option (List ℕ)). with_library ls (option_map (λ name. record { name = name; cards = behind }) n)) is ∙ ap (λ (b : Bool). cond b (ls ++ begun x behind ∷ []) ls) (free x refl))

kind_of : (r : Option (List ℕ)) (controls : List Run) (card : List ℕ) (name : Option (List ℕ)) → library_card card ≡ r → name ≡ unless_kept (map shelved (libraries_on controls)) r → Kind controls card name
kind_of None controls card name is e = kind_by true None controls card name is e (λ x h. cc)
kind_of (Some y) controls card name is e =
    let F : List ℕ → Bool = λ x. is_free (λ l. l.name) 20 (libraries_on controls) x in
    kind_by (F y) (Some y) controls card name is e (λ x h. ap F (sym (same_Some y x h)))

-- by the libraries that are there
pub control_kind : (controls : List Run) (card : List ℕ) (shelf : List Shelved) → shelf ≡ map shelved (libraries_on controls) → Kind controls card (free_name shelf card)
control_kind controls card shelf are = kind_of (library_card card) controls card (free_name shelf card) refl (ap (λ (s : List Shelved). unless_kept s (library_card card)) are)

-- a control card begins a run of its own
pub control_run : (cards : List (List ℕ)) (card : List ℕ) → is_control_card card ≡ true → runs_by is_control_card (cards ++ card ∷ []) ≡ runs_by is_control_card cards ++ record { head = card; behind = [] } ∷ []
control_run cards card this = runs-passing is_control_card cards card this

pub begun_now : (cards : List (List ℕ)) (card name : List ℕ) (shelf : List Shelved) (library : OpenLibrary) → is_control_card card ≡ true → library_card card ≡ Some name → is_free (λ l. l.name) 20 (libraries_on (runs_by is_control_card cards)) name ≡ true
    → shelf ≡ map shelved (libraries_on (runs_by is_control_card cards)) → IsOpenLibrary name [] library → EndsOpen (runs_by is_control_card (cards ++ card ∷ [])) shelf library
begun_now cards card name shelf library this begins free are stands = record {
  done = runs_by is_control_card cards;
  last = record { head = card; behind = [] };
  name = name;
  are = control_run cards card this;
  begins = begins;
  free = free;
  shelf_is = are;
  stands = stands;
}

pub begun_cards : (cards : List (List ℕ)) (card name : List ℕ) → is_control_card card ≡ true → library_card card ≡ Some name → is_free (λ l. l.name) 20 (libraries_on (runs_by is_control_card cards)) name ≡ true
    → shelf_cards (libraries_on (runs_by is_control_card (cards ++ card ∷ []))) ≡ shelf_cards (libraries_on (runs_by is_control_card cards)) + 1
begun_cards cards card name this begins free =
    let controls = runs_by is_control_card cards in
    let run : Run = record { head = card; behind = [] } in
    ap shelf_cards (ap libraries_on (control_run cards card this) ∙ kept_more controls run name begins free) ∙ shelf_cards-push (libraries_on controls) (begun name [])

pub none_now : (cards : List (List ℕ)) (card : List ℕ) → is_control_card card ≡ true → ((behind : List (List ℕ)) → with_library (libraries_on (runs_by is_control_card cards)) (library_on (record { head = card; behind = behind })) ≡ libraries_on (runs_by is_control_card cards))
    → EndsNone (runs_by is_control_card (cards ++ card ∷ [])) × (libraries_on (runs_by is_control_card (cards ++ card ∷ [])) ≡ libraries_on (runs_by is_control_card cards))
none_now cards card this none = (
  record { done = runs_by is_control_card cards; last = record { head = card; behind = [] }; are = control_run cards card this; none = none },
  ap libraries_on (control_run cards card this) ∙ libraries-push (runs_by is_control_card cards) (record { head = card; behind = [] }) ∙ none [],
)
