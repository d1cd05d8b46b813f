-- Cells in line: their words, and what stands beside.
use Rattle.std.proofs.Common.{◌≡◌, ℕ, zero, suc, ◌+◌, ◌<◌, true, false, List, [], ◌∷◌, ◌++◌, length, take, replicate, Option, Some, None, get_or, refl, sym, ap, ◌∙◌, subst, arith}
use Rattle.std.specs.Prelude.{slice_get, slice_set, is_none, if◌then◌else◌, IfSome}
use Rattle.std.specs.Option.{option_and_then}
use Rattle.std.proofs.lemmas.List.{append_assoc, length-append, length-replicate, length-set, replicate-append-replicate}
use Rattle.cell_store.specs.declared.cells.Word as flat
use Rattle.cell_store.specs.declared.cells.Word.TheVariants as kind
use Rattle.cell_store.specs.declared.cells.Wide.{Wide}
use Rattle.cell_store.specs.declared.cells.Wide.TheVariants as wide
use Rattle.cell_store.specs.Cells.{Cell, Shelf, a_wide, nothing, word_in, wide_in, text_over}
use Rattle.cell_store.specs.Words.{Word, word_of, is_wide}
use Rattle.cell_store.specs.Held.{beside_at, held_by, held, word_cell, cells, AreBeside}

pub length_cells : (words : List flat.Word) (beside : List Wide) → length (cells words beside) ≡ length words
length_cells [] beside = refl
length_cells (s ∷ words) [] = ap suc (length_cells words [])
length_cells (s ∷ words) (w ∷ beside) = ap suc (length_cells words beside)

-- ---- words

pub none_wide : (v : flat.Word) → is_none (word_of v) ≡ is_wide v
none_wide kind.Nothing = refl
none_wide (kind.Integer n) = refl
none_wide kind.True = refl
none_wide kind.False = refl
none_wide (kind.Bits b) = refl
none_wide kind.Null = refl
none_wide (kind.Record r) = refl
none_wide (kind.Cell k) = refl
none_wide (kind.Field k) = refl
none_wide kind.Wide = refl

no_wide_by : (v : Option Word) (x : Wide) → is_none v ≡ false → held_by v (Some x) ≡ held_by v None
no_wide_by (Some v) x e = refl
no_wide_by None x e = absurd (cc e)

no_wide : (v : flat.Word) (x : Wide) → is_wide v ≡ false → held v (Some x) ≡ held v None
no_wide v x e = no_wide_by (word_of v) x (none_wide v ∙ e)

-- ---- a cell more

-- which holds a word
pub cells_push : (words : List flat.Word) (beside : List Wide) (v : flat.Word) → is_wide v ≡ false → cells (words ++ v ∷ []) beside ≡ cells words beside ++ word_cell v ∷ []
cells_push [] [] v i = refl
cells_push [] (w ∷ beside) v i = ap (λ c. c ∷ []) (no_wide v w i)
cells_push (s ∷ words) [] v i = ap (λ xs. held s None ∷ xs) (cells_push words [] v i)
cells_push (s ∷ words) (w ∷ beside) v i = ap (λ xs. held s (Some w) ∷ xs) (cells_push words beside v i)

pub beside_push : (words : List flat.Word) (beside : List Wide) (v : flat.Word) → is_wide v ≡ false → AreBeside words beside → AreBeside (words ++ v ∷ []) beside
beside_push [] [] v i h = (i, tt)
beside_push [] (w ∷ beside) v i h = tt
beside_push (s ∷ words) [] v i h = (h.0, beside_push words [] v i h.1)
beside_push (s ∷ words) (w ∷ beside) v i h = beside_push words beside v i h

-- many, which hold nothing
empty_cells : (k : ℕ) (beside : List Wide) → cells (replicate k kind.Nothing) beside ≡ replicate k nothing
empty_cells zero beside = refl
empty_cells (suc k) [] = ap (λ xs. nothing ∷ xs) (empty_cells k [])
empty_cells (suc k) (w ∷ beside) = ap (λ xs. nothing ∷ xs) (empty_cells k beside)

pub length_blank : (words : List flat.Word) (k : ℕ) → length (words ++ replicate k kind.Nothing) ≡ length words + k
length_blank words k = length-append words (replicate k kind.Nothing) ∙ ap (λ n. length words + n) (length-replicate k kind.Nothing)

pub cells_blank : (words : List flat.Word) (beside : List Wide) (k : ℕ) → cells (words ++ replicate k kind.Nothing) beside ≡ cells words beside ++ replicate k nothing
cells_blank [] beside k = empty_cells k beside
cells_blank (s ∷ words) [] k = ap (λ xs. held s None ∷ xs) (cells_blank words [] k)
cells_blank (s ∷ words) (w ∷ beside) k = ap (λ xs. held s (Some w) ∷ xs) (cells_blank words beside k)

pub more_nothing : (cs : List Cell) (m n : ℕ) → (cs ++ replicate m nothing) ++ replicate n nothing ≡ cs ++ replicate (m + n) nothing
more_nothing cs m n = append_assoc cs (replicate m nothing) (replicate n nothing) ∙ ap (λ (xs : List Cell). cs ++ xs) (replicate-append-replicate m n nothing)

empty_beside : (k : ℕ) (beside : List Wide) → AreBeside (replicate k kind.Nothing) beside
empty_beside zero beside = tt
empty_beside (suc k) [] = (refl, empty_beside k [])
empty_beside (suc k) (w ∷ beside) = empty_beside k beside

pub beside_blank : (words : List flat.Word) (beside : List Wide) (k : ℕ) → AreBeside words beside → AreBeside (words ++ replicate k kind.Nothing) beside
beside_blank [] beside k h = empty_beside k beside
beside_blank (s ∷ words) [] k h = (h.0, beside_blank words [] k h.1)
beside_blank (s ∷ words) (w ∷ beside) k h = beside_blank words beside k h

-- which holds what is put beside it
pub cells_push_wide : (words : List flat.Word) (beside : List Wide) (v : Wide) → length words < length beside → cells (words ++ kind.Wide ∷ []) (slice_set beside (length words) v) ≡ cells words beside ++ a_wide v ∷ []
cells_push_wide words [] v h = absurd (omega (arith, h))
cells_push_wide [] (w ∷ beside) v h = refl
cells_push_wide (s ∷ words) (w ∷ beside) v h = ap (λ xs. held s (Some w) ∷ xs) (cells_push_wide words beside v (omega (arith, h)))

pub beside_push_wide : (words : List flat.Word) (beside : List Wide) (v : Wide) → length words < length beside → AreBeside (words ++ kind.Wide ∷ []) (slice_set beside (length words) v)
beside_push_wide words [] v h = absurd (omega (arith, h))
beside_push_wide [] (w ∷ beside) v h = tt
beside_push_wide (s ∷ words) (w ∷ beside) v h = beside_push_wide words beside v (omega (arith, h))

-- ---- what is added beside changes no cell

pub cells_more : (words : List flat.Word) (beside wider : List Wide) → AreBeside words beside → take (length beside) wider ≡ beside → cells words wider ≡ cells words beside
cells_more [] beside wider h e = refl
cells_more (s ∷ words) [] [] h e = refl
cells_more (s ∷ words) [] (x ∷ wider) h e = (λ i. no_wide s x h.0 i ∷ cells_more words [] wider h.1 refl i)
cells_more (s ∷ words) (w ∷ beside) [] h e = absurd (cc e)
cells_more (s ∷ words) (w ∷ beside) (x ∷ wider) h e =
    let first : x ≡ w = cc e in
    let rest : take (length beside) wider ≡ beside = cc e in
    (λ i. held s (Some (first i)) ∷ cells_more words beside wider h rest i)

pub beside_more : (words : List flat.Word) (beside wider : List Wide) → AreBeside words beside → take (length beside) wider ≡ beside → AreBeside words wider
beside_more [] beside wider h e = tt
beside_more (s ∷ words) [] [] h e = h
beside_more (s ∷ words) [] (x ∷ wider) h e = beside_more words [] wider h.1 refl
beside_more (s ∷ words) (w ∷ beside) [] h e = absurd (cc e)
beside_more (s ∷ words) (w ∷ beside) (x ∷ wider) h e = let rest : take (length beside) wider ≡ beside = cc e in beside_more words beside wider h rest

pub length_set_beside : (beside : List Wide) (k : ℕ) (v : Wide) → length (slice_set beside k v) ≡ length beside
length_set_beside beside k v = length-set beside k v

pub length_set_words : (words : List flat.Word) (k : ℕ) (v : flat.Word) → length (slice_set words k v) ≡ length words
length_set_words words k v = length-set words k v

-- ---- a cell that is set

-- to a word
pub cells_set : (words : List flat.Word) (beside : List Wide) (k : ℕ) (v : flat.Word) → is_wide v ≡ false → cells (slice_set words k v) beside ≡ slice_set (cells words beside) k (word_cell v)
cells_set [] beside k v i = refl
cells_set (s ∷ words) [] zero v i = refl
cells_set (s ∷ words) [] (suc k) v i = ap (λ xs. held s None ∷ xs) (cells_set words [] k v i)
cells_set (s ∷ words) (w ∷ beside) zero v i = ap (λ c. c ∷ cells words beside) (no_wide v w i)
cells_set (s ∷ words) (w ∷ beside) (suc k) v i = ap (λ xs. held s (Some w) ∷ xs) (cells_set words beside k v i)

pub beside_set : (words : List flat.Word) (beside : List Wide) (k : ℕ) (v : flat.Word) → is_wide v ≡ false → AreBeside words beside → AreBeside (slice_set words k v) beside
beside_set [] beside k v i h = tt
beside_set (s ∷ words) [] zero v i h = (i, h.1)
beside_set (s ∷ words) [] (suc k) v i h = (h.0, beside_set words [] k v i h.1)
beside_set (s ∷ words) (w ∷ beside) zero v i h = h
beside_set (s ∷ words) (w ∷ beside) (suc k) v i h = beside_set words beside k v i h

-- to what is put beside it
pub cells_set_wide : (words : List flat.Word) (beside : List Wide) (k : ℕ) (v : Wide) → k < length words → k < length beside → cells (slice_set words k kind.Wide) (slice_set beside k v) ≡ slice_set (cells words beside) k (a_wide v)
cells_set_wide [] beside k v in_words in_beside = absurd (omega (arith, in_words))
cells_set_wide (s ∷ words) [] k v in_words in_beside = absurd (omega (arith, in_beside))
cells_set_wide (s ∷ words) (w ∷ beside) zero v in_words in_beside = refl
cells_set_wide (s ∷ words) (w ∷ beside) (suc k) v in_words in_beside = ap (λ xs. held s (Some w) ∷ xs) (cells_set_wide words beside k v (omega (arith, in_words)) (omega (arith, in_beside)))

pub beside_set_wide : (words : List flat.Word) (beside : List Wide) (k : ℕ) (v : Wide) → k < length beside → AreBeside words beside → AreBeside (slice_set words k kind.Wide) (slice_set beside k v)
beside_set_wide [] beside k v in_beside h = tt
beside_set_wide (s ∷ words) [] k v in_beside h = absurd (omega (arith, in_beside))
beside_set_wide (s ∷ words) (w ∷ beside) zero v in_beside h = h
beside_set_wide (s ∷ words) (w ∷ beside) (suc k) v in_beside h = beside_set_wide words beside k v (omega (arith, in_beside)) h

-- ---- cells that are given back

pub cells_take : (k : ℕ) (words : List flat.Word) (beside : List Wide) → cells (take k words) beside ≡ take k (cells words beside)
cells_take zero words beside = refl
cells_take (suc k) [] beside = refl
cells_take (suc k) (s ∷ words) [] = ap (λ xs. held s None ∷ xs) (cells_take k words [])
cells_take (suc k) (s ∷ words) (w ∷ beside) = ap (λ xs. held s (Some w) ∷ xs) (cells_take k words beside)

pub beside_take : (k : ℕ) (words : List flat.Word) (beside : List Wide) → AreBeside words beside → AreBeside (take k words) beside
beside_take zero words beside h = tt
beside_take (suc k) [] beside h = tt
beside_take (suc k) (s ∷ words) [] h = (h.0, beside_take k words [] h.1)
beside_take (suc k) (s ∷ words) (w ∷ beside) h = beside_take k words beside h

-- ---- a cell that is read

word_held_by : (v : Option Word) (w : Wide) → word_in (held_by v (Some w)) ≡ v
word_held_by (Some v) w = refl
word_held_by None w = refl

word_held : (v : flat.Word) (w : Wide) → word_in (held v (Some w)) ≡ word_of v
word_held v w = word_held_by (word_of v) w

no_word_by : (v : Option Word) → is_none v ≡ false → word_in (held_by v None) ≡ v
no_word_by (Some v) e = refl
no_word_by None e = absurd (cc e)

no_word : (v : flat.Word) → is_wide v ≡ false → word_in (held v None) ≡ word_of v
no_word v e = no_word_by (word_of v) (none_wide v ∙ e)

abbrev wide_beside : Option Wide → flat.Word → Option Wide
wide_beside beside v = if is_wide v then beside else None

wide_by : (v : Option Word) (w : Wide) → wide_in (held_by v (Some w)) ≡ (if is_none v then Some w else None)
wide_by (Some v) w = refl
wide_by None w = refl

wide_held : (v : flat.Word) (w : Wide) → wide_in (held v (Some w)) ≡ wide_beside (Some w) v
wide_held v w = wide_by (word_of v) w ∙ ap (λ b. if b then Some w else None) (none_wide v)

no_wide_none : (v : Option Word) → wide_in (held_by v None) ≡ None
no_wide_none (Some v) = refl
no_wide_none None = refl

wide_none : (v : flat.Word) → is_wide v ≡ false → wide_in (held v None) ≡ wide_beside None v
wide_none v e = no_wide_none (word_of v) ∙ ap (λ b. if b then None else None) (sym e)

pub word_at : (words : List flat.Word) (beside : List Wide) (k : ℕ) → AreBeside words beside → option_and_then word_in (slice_get (cells words beside) k) ≡ option_and_then word_of (slice_get words k)
word_at [] beside k h = refl
word_at (s ∷ words) [] zero h = no_word s h.0
word_at (s ∷ words) [] (suc k) h = word_at words [] k h.1
word_at (s ∷ words) (w ∷ beside) zero h = word_held s w
word_at (s ∷ words) (w ∷ beside) (suc k) h = word_at words beside k h

pub word_there : (words : List flat.Word) (beside : List Wide) (k : ℕ) (v : flat.Word) → AreBeside words beside → slice_get words k ≡ Some v → word_of v ≡ option_and_then word_in (slice_get (cells words beside) k)
word_there words beside k v h e = sym (word_at words beside k h ∙ ap (λ o. option_and_then word_of o) e)

pub wide_at : (words : List flat.Word) (beside : List Wide) (k : ℕ) → AreBeside words beside → option_and_then wide_in (slice_get (cells words beside) k) ≡ option_and_then (wide_beside (slice_get beside k)) (slice_get words k)
wide_at [] beside k h = refl
wide_at (s ∷ words) [] zero h = wide_none s h.0
wide_at (s ∷ words) [] (suc k) h = wide_at words [] k h.1
wide_at (s ∷ words) (w ∷ beside) zero h = wide_held s w
wide_at (s ∷ words) (w ∷ beside) (suc k) h = wide_at words beside k h

-- ---- what stands beside is read and changed where it stands

pub there_beside : (words : List flat.Word) (beside : List Wide) (k : ℕ) → AreBeside words beside → beside_at words k ≡ true → k < length beside
there_beside [] beside k h e = absurd (cc e)
there_beside (s ∷ words) [] zero h e = absurd (cc (h.0, e))
there_beside (s ∷ words) [] (suc k) h e = absurd (omega (arith, there_beside words [] k h.1 e))
there_beside (s ∷ words) (w ∷ beside) zero h e = omega arith
there_beside (s ∷ words) (w ∷ beside) (suc k) h e = omega (arith, there_beside words beside k h e)

pub wide_there : (words : List flat.Word) (beside : List Wide) (k : ℕ) → AreBeside words beside → beside_at words k ≡ true → option_and_then wide_in (slice_get (cells words beside) k) ≡ slice_get beside k
wide_there [] beside k h e = absurd (cc e)
wide_there (s ∷ words) [] zero h e = absurd (cc (h.0, e))
wide_there (s ∷ words) [] (suc k) h e = wide_there words [] k h.1 e
wide_there (s ∷ words) (w ∷ beside) zero h e = wide_held s w ∙ ap (λ b. if b then Some w else None) e
wide_there (s ∷ words) (w ∷ beside) (suc k) h e = wide_there words beside k h e

pub no_wide_there : (words : List flat.Word) (beside : List Wide) (k : ℕ) → AreBeside words beside → beside_at words k ≡ false → option_and_then wide_in (slice_get (cells words beside) k) ≡ None
no_wide_there [] beside k h e = refl
no_wide_there (s ∷ words) [] zero h e = wide_none s h.0 ∙ ap (λ b. if b then None else None) e
no_wide_there (s ∷ words) [] (suc k) h e = no_wide_there words [] k h.1 e
no_wide_there (s ∷ words) (w ∷ beside) zero h e = wide_held s w ∙ ap (λ b. if b then Some w else None) e
no_wide_there (s ∷ words) (w ∷ beside) (suc k) h e = no_wide_there words beside k h e

beside_held_by : (v : Option Word) (w : Wide) → is_none v ≡ true → held_by v (Some w) ≡ a_wide w
beside_held_by None w e = refl
beside_held_by (Some v) w e = absurd (cc e)

beside_held : (v : flat.Word) (w : Wide) → is_wide v ≡ true → held v (Some w) ≡ a_wide w
beside_held v w e = beside_held_by (word_of v) w (none_wide v ∙ e)

pub cells_rewrite : (words : List flat.Word) (beside : List Wide) (k : ℕ) (v : Wide) → AreBeside words beside → beside_at words k ≡ true → cells words (slice_set beside k v) ≡ slice_set (cells words beside) k (a_wide v)
cells_rewrite [] beside k v h e = absurd (cc e)
cells_rewrite (s ∷ words) [] zero v h e = absurd (cc (h.0, e))
cells_rewrite (s ∷ words) [] (suc k) v h e = ap (λ xs. held s None ∷ xs) (cells_rewrite words [] k v h.1 e)
cells_rewrite (s ∷ words) (w ∷ beside) zero v h e = ap (λ c. c ∷ cells words beside) (beside_held s v e)
cells_rewrite (s ∷ words) (w ∷ beside) (suc k) v h e = ap (λ xs. held s (Some w) ∷ xs) (cells_rewrite words beside k v h e)

pub beside_rewrite : (words : List flat.Word) (beside : List Wide) (k : ℕ) (v : Wide) → AreBeside words beside → AreBeside words (slice_set beside k v)
beside_rewrite [] beside k v h = tt
beside_rewrite (s ∷ words) [] k v h = h
beside_rewrite (s ∷ words) (w ∷ beside) zero v h = h
beside_rewrite (s ∷ words) (w ∷ beside) (suc k) v h = beside_rewrite words beside k v h

-- ---- a string is written over

abbrev pub text_at : ℕ → List ℕ → List Cell → ℕ → Option (List ℕ)
text_at from more cs k = option_and_then (text_over from more) (option_and_then wide_in (slice_get cs k))

got : (beside : List Wide) (k : ℕ) (w : Wide) → k < length beside → w ≡ get_or beside k w → slice_get beside k ≡ Some w
got [] k w h e = absurd (omega (arith, h))
got (x ∷ beside) zero w h e = ap (λ y. Some y) (sym e)
got (x ∷ beside) (suc k) w h e = got beside k w (omega (arith, h)) e

pub text_there : (words : List flat.Word) (beside : List Wide) (k from : ℕ) (more : List ℕ) (w : Wide) → AreBeside words beside → beside_at words k ≡ true → w ≡ get_or beside k w → text_at from more (cells words beside) k ≡ text_over from more w
text_there words beside k from more w h here e = ap (λ o. option_and_then (text_over from more) o) (wide_there words beside k h here ∙ got beside k w (there_beside words beside k h here) e)

each : {A : Type 0} (P Q : A → Type 0) (o : Option A) → ((a : A) → P a → Q a) → IfSome o P → IfSome o Q
each P Q None f i = tt
each P Q (Some a) f i = f a i

pub text_written : (words : List flat.Word) (beside : List Wide) (k from room : ℕ) (more : List ℕ) (w v : Wide) → AreBeside words beside → beside_at words k ≡ true → w ≡ get_or beside k w → IfSome (text_over from more w) (λ s. v ≡ wide.Str s)
    → IfSome (text_at from more (cells words beside) k) (λ s. ◌≡◌ {A = Shelf} (record { cells = cells words (slice_set beside k v); room = room }) (record { cells = slice_set (cells words beside) k (a_wide (wide.Str s)); room = room }))
text_written words beside k from room more w v h here e done =
    let at_text : List ℕ → Shelf = λ s. record { cells = slice_set (cells words beside) k (a_wide (wide.Str s)); room = room } in
    let new : Shelf = record { cells = cells words (slice_set beside k v); room = room } in
    subst (λ o. IfSome o (λ s. new ≡ at_text s)) (sym (text_there words beside k from more w h here e))
    (each (λ s. v ≡ wide.Str s) (λ s. new ≡ at_text s) (text_over from more w)
    (λ s is. ap (λ cs. record { cells = cs; room = room }) (cells_rewrite words beside k v h here ∙ ap (λ x. slice_set (cells words beside) k (a_wide x)) is)) done)
