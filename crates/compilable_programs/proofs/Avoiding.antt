-- What stands for names that a phrase has none of leaves its code.
use Rattle.std.proofs.Common.{◌≡◌, ℕ, ◌+◌, List, [], ◌∷◌, ◌++◌, map, length, refl, sym, subst, ap, ◌∙◌, append_assoc}
use Rattle.std.specs.Prelude.{Option, Some, None, Bool, true, false, ◌||◌}
use Rattle.value_ops.specs.declared.places.Place.{Place}
use Rattle.algolw_typing.specs.Types.{ValueType, Gives, Statement, Simple, is_place, has}
use Rattle.algolw_typing.specs.Meanings.{FormalType, by_name, by_value, by_result, by_value_result, for_array, for_procedure}
use Rattle.program_meaning.specs.Phrases.{Phrase, Empty, Constant, Named, Variable, Array, Label, Procedure, Copied, Unary, Binary, Relation, IsClass, Element, Field, Part, Record, RecordAlone, IfThen, Case, Block, Call, Assign, WhileDo, ForStep, ForList, Goto, Assert, Write, Read, ReadCard, IoControl, Phrases, no_phrases, phrase_and, Targets, no_targets, target_and, Subscripts, no_subscripts, star_and, subscript_and, Actuals, no_actuals, actual_and, Actual, Given, Alone, Subarray, Items, no_items, item_and, Bounds, no_bounds, bound_and, Decls, no_decls, variables_and, arrays_and, procedure_and, Name, Formal, with, with_phrases, with_targets, with_subscripts, with_actuals, with_actual, with_items, with_bounds, with_decls, kept, places, formal_places, decl_places, label_places, block_places, Role, placed, sets}
use Rattle.program_meaning.specs.State.{innermost}
use Rattle.program_meaning.specs.Copying.{dimensions, free_of}
use Rattle.stack_code.specs.Instr as instr
use Rattle.stack_code.specs.Instr.{Mode, Source, Reading, as_phrase, the_value, the_place, as_asked}
use Rattle.stack_code.specs.Code.{Coded}
use Rattle.phrase_code.specs.Sizes.{Kind, a_variable, an_array, a_procedure, a_label, Known, kind_of_formal, block_known, head_kind, call_kind, CallKind, in_line, through, stuck_call, bare_call_size, begin_size, text_size, result_size, size, jumps_size, parts_size, bounds_size, decls_size, actuals_size, actual_size, back_of_size, text_of_size}
use Rattle.phrase_code.specs.Coding.{◌▸◌, one, is_none, begin_code, make_code, result_code, declare_code, declare_arrays_code, text_code, Stand, Context, known_of, stand_at, with_entries, name_stands, formal_stands, label_stands, item_stands, decl_stands, entry_count, block_context, turn_context, stand_of, source_of, kind_of_stand, named_code, element_code, goto_code, phrase_count, subarray_code, hand_on_code, stars_of, jumps_code, given_code, back_code, text_heads, prepares_code, place_backs_code, call_code, alone_code, reading_of_name, reading_of_subarray, bare_call, code, code_each, code_fields, code_parts, code_list, code_writes, code_reads, code_cards, code_items, code_bounds, code_decls, code_subscripts, code_actuals, code_actual, code_backs, code_back, code_texts, code_text}
use Rattle.phrase_code.proofs.Sizes.{kind_found}
use Rattle.compilable_programs.specs.Suits.{Avoids}
use Rattle.compilable_programs.proofs.AvoidedSizes as sizes
use Rattle.compilable_programs.proofs.AvoidedSizes.{Alike, block_more, head_same, size_same, emptied, is_elsewhere}

-- the same stands for each name for which no other phrase is put
pub record StandAlike (f : Place → Phrase) (n m : List Stand) : Type 0 where
  pub by : (x : Place) → f x ≡ Named x → stand_at n x ≡ stand_at m x

-- where so much stands in a text so deep, with so many entries
abbrev pub of : List Stand → (level count : ℕ) → Context
of names level count = record { names = names; level = level; count = count }

pub known_alike : (f : Place → Phrase) (n m : List Stand) → StandAlike f n m → Alike f (map known_of n) (map known_of m)
known_alike f n m h = record { by = λ x e. kind_found n x ∙ ap kind_of_stand (h.by x e) ∙ sym (kind_found m x) }

-- ---- scopes

one_case : (ps : List Place) (f : Place → Phrase) (s : Stand) (n m : List Stand) (x : Place) (b : Bool) → ((elim (has ps x) [ true ↦ Named x | false ↦ f x ]) ≡ Named x → stand_at n x ≡ stand_at m x) → (elim (b || has ps x) [ true ↦ Named x | false ↦ f x ]) ≡ Named x
    → ◌≡◌ {A = Option Stand} (elim b [ true ↦ Some s | false ↦ stand_at n x ]) (elim b [ true ↦ Some s | false ↦ stand_at m x ])
one_case ps f s n m x true h e = refl
one_case ps f s n m x false h e = h e

one_more : (s : Stand) (ps : List Place) (f : Place → Phrase) (n m : List Stand) → StandAlike (kept ps f) n m → StandAlike (kept (s.place ∷ ps) f) (s ∷ n) (s ∷ m)
one_more s ps f n m h = record { by = λ x e. one_case ps f s n m x (is_place s.place x) (h.by x) e }

names_more : (xs : List Name) (ps : List Place) (f : Place → Phrase) (kind : Kind) (level position : ℕ) (n m : List Stand) → StandAlike (kept ps f) n m → StandAlike (kept (places xs ++ ps) f) (name_stands kind level position xs n) (name_stands kind level position xs m)
names_more [] ps f kind level position n m h = h
names_more (x ∷ xs) ps f kind level position n m h =
    one_more (record { place = x.place; kind = kind; level = level; position = position; target = 0 }) (places xs ++ ps) f (name_stands kind level (position + 1) xs n) (name_stands kind level (position + 1) xs m) (names_more xs ps f kind level (position + 1) n m h)

labels_more : (xs ps : List Place) (f : Place → Phrase) (level mark target : ℕ) (n m : List Stand) → StandAlike (kept ps f) n m → StandAlike (kept (xs ++ ps) f) (label_stands level mark target xs n) (label_stands level mark target xs m)
labels_more [] ps f level mark target n m h = h
labels_more (x ∷ xs) ps f level mark target n m h =
    one_more (record { place = x; kind = a_label; level = level; position = mark; target = target }) (xs ++ ps) f (label_stands level mark target xs n) (label_stands level mark target xs m) (labels_more xs ps f level mark target n m h)

formals_more : (fs : List Formal) (f : Place → Phrase) (level position : ℕ) (n m : List Stand) → StandAlike f n m → StandAlike (kept (formal_places fs) f) (formal_stands level position fs n) (formal_stands level position fs m)
formals_more [] f level position n m h = record { by = h.by }
formals_more (g ∷ fs) f level position n m h =
    one_more (record { place = g.name.place; kind = kind_of_formal g.is; level = level; position = position; target = 0 }) (formal_places fs) f (formal_stands level (position + 1) fs n) (formal_stands level (position + 1) fs m) (formals_more fs f level (position + 1) n m h)

items_more : (items : Items) (f g : Place → Phrase) (ki li : List Known) → Alike g ki li → with_items g items ≡ items → (level mark k : ℕ) (n m : List Stand) → StandAlike f n m → StandAlike (kept (label_places items) f) (item_stands ki level mark k items n) (item_stands li level mark k items m)
items_more no_items f g ki li i e level mark k n m h = record { by = h.by }
items_more (item_and labels a rest) f g ki li i e level mark k n m h =
    let s = size_same a g ki li i (cc e) in
    let more = items_more rest f g ki li i (cc e) level mark (k + size ki a) n m h in
    let same = subst (λ j. StandAlike (kept (label_places rest) f) (item_stands ki level mark (k + size ki a) rest n) (item_stands li level mark (k + j) rest m)) s more in
    labels_more labels (label_places rest) f level mark k (item_stands ki level mark (k + size ki a) rest n) (item_stands li level mark (k + size li a) rest m) same

decls_more : (decls : Decls) (ps : List Place) (f g : Place → Phrase) (ko lo ki li : List Known) → Alike f ko lo → Alike g ki li → with_decls f g decls ≡ decls → (level position k : ℕ) (n m : List Stand) → StandAlike (kept ps f) n m
    → StandAlike (kept (decl_places decls ++ ps) f) (decl_stands ko ki level position k decls n) (decl_stands lo li level position k decls m)
decls_more no_decls ps f g ko lo ki li o i e level position k n m h = h
decls_more (variables_and xs rest) ps f g ko lo ki li o i e level position k n m h =
    let a = decl_stands ko ki level (position + length xs) (k + length xs) rest n in
    let b = decl_stands lo li level (position + length xs) (k + length xs) rest m in
    subst (λ qs. StandAlike (kept qs f) (name_stands a_variable level position xs a) (name_stands a_variable level position xs b)) (sym (append_assoc (places xs) (decl_places rest) ps))
    (names_more xs (decl_places rest ++ ps) f a_variable level position a b (decls_more rest ps f g ko lo ki li o i (cc e) level (position + length xs) (k + length xs) n m h))
decls_more (arrays_and t xs pairs rest) ps f g ko lo ki li o i e level position k n m h =
    let s = sizes.bounds_same pairs f ko lo o (cc e) in
    let a = decl_stands ko ki level (position + length xs) (k + (bounds_size ko pairs + (1 + length xs))) rest n in
    let more = decls_more rest ps f g ko lo ki li o i (cc e) level (position + length xs) (k + (bounds_size ko pairs + (1 + length xs))) n m h in
    let same = subst (λ j. StandAlike (kept (decl_places rest ++ ps) f) a (decl_stands lo li level (position + length xs) (k + (j + (1 + length xs))) rest m)) s more in
    let b = decl_stands lo li level (position + length xs) (k + (bounds_size lo pairs + (1 + length xs))) rest m in
    subst (λ qs. StandAlike (kept qs f) (name_stands an_array level position xs a) (name_stands an_array level position xs b)) (sym (append_assoc (places xs) (decl_places rest) ps))
    (names_more xs (decl_places rest ++ ps) f an_array level position a b same)
decls_more (procedure_and x result formals body rest) ps f g ko lo ki li o i e level position k n m h =
    let own = procedure_and x result formals body no_decls in
    let s : decls_size ko ki own ≡ decls_size lo li own = sizes.decls_same own f g ko lo ki li o i (cc e) in
    let a = decl_stands ko ki level position (k + decls_size ko ki own) rest n in
    let more = decls_more rest ps f g ko lo ki li o i (cc e) level position (k + decls_size ko ki own) n m h in
    let same = subst (λ j. StandAlike (kept (decl_places rest ++ ps) f) a (decl_stands lo li level position (k + j) rest m)) s more in
    one_more (record { place = x.place; kind = a_procedure formals; level = level; position = 0; target = k }) (decl_places rest ++ ps) f a (decl_stands lo li level position (k + decls_size lo li own) rest m) same

block_stands_more : (decls : Decls) (items : Items) (f : Place → Phrase) (n m : List Stand) → StandAlike f n m → with_decls f (kept (block_places decls items) f) decls ≡ decls → with_items (kept (block_places decls items) f) items ≡ items → (level count k : ℕ)
    → StandAlike (kept (block_places decls items) f) (block_context (of n level count) k decls items).names (block_context (of m level count) k decls items).names
block_stands_more decls items f n m h d e level count k =
    let g = kept (block_places decls items) f in
    let ko = map known_of n in
    let lo = map known_of m in
    let ki = block_known decls items ko in
    let li = block_known decls items lo in
    let o = known_alike f n m h in
    let i = block_more decls items f ko lo o in
    let s = sizes.decls_same decls f g ko lo ki li o i d in
    let mark = count + 1 + entry_count decls in
    let a = item_stands ki level mark (k + (decls_size ko ki decls + 1)) items n in
    let more = items_more items f g ki li i e level mark (k + (decls_size ko ki decls + 1)) n m h in
    let same = subst (λ j. StandAlike (kept (label_places items) f) a (item_stands li level mark (k + (j + 1)) items m)) s more in
    decls_more decls (label_places items) f g ko lo ki li o i d level (count + 1) k a (item_stands li level mark (k + (decls_size lo li decls + 1)) items m) same

turn_more : (x : Name) (f : Place → Phrase) (level count : ℕ) (n m : List Stand) → StandAlike f n m → StandAlike (kept (x.place ∷ []) f) (turn_context (of n level count) x).names (turn_context (of m level count) x).names
turn_more x f level count n m h = one_more (record { place = x.place; kind = a_variable; level = level; position = count + 1; target = 0 }) [] f n m (record { by = h.by })

-- ---- heads and calls

stand_same : (a : Phrase) (f : Place → Phrase) (n m : List Stand) → StandAlike f n m → with f a ≡ a → (level count : ℕ) → stand_of (of n level count) a ≡ stand_of (of m level count) a
stand_same (Named x) f n m h e level count = h.by x e
stand_same _ f n m h e level count = refl

heads_same : (given : Actuals) (f : Place → Phrase) (k l : List Known) → Alike f k l → with_actuals f given ≡ given → (i : ℕ) → text_heads k i given ≡ text_heads l i given
heads_same no_actuals f k l h e i = refl
heads_same (actual_and a rest) f k l h e i = let s = sizes.text_same a f k l h (cc e) in let r = heads_same rest f k l h (cc e) (i + text_of_size k a) in cc

prepares_same : (given : Actuals) (f : Place → Phrase) (k l : List Known) → Alike f k l → with_actuals f given ≡ given → (w : Place) (s : Source) (i j : ℕ) → prepares_code k w s i j given ≡ prepares_code l w s i j given
prepares_same no_actuals f k l h e w s i j = refl
prepares_same (actual_and a rest) f k l h e w s i j = let t = sizes.text_same a f k l h (cc e) in let r = prepares_same rest f k l h (cc e) w s (i + 1) (j + text_of_size k a) in cc

place_backs_same : (given : Actuals) (f : Place → Phrase) (k l : List Known) → Alike f k l → with_actuals f given ≡ given → (w : Place) (i j : ℕ) → place_backs_code k w i j given ≡ place_backs_code l w i j given
place_backs_same no_actuals f k l h e w i j = refl
place_backs_same (actual_and a rest) f k l h e w i j = let t = sizes.text_same a f k l h (cc e) in let r = place_backs_same rest f k l h (cc e) w (i + 1) (j + text_of_size k a) in cc

call_same : (kind : CallKind) (o : Option Stand) (given : Actuals) (f : Place → Phrase) (n m : List Stand) → StandAlike f n m → with_actuals f given ≡ given → (level count : ℕ) (w : Place) (compares : Bool) (p : Place) (k : ℕ) (r s b c : List Formal → List Coded) (t u : ℕ → List Coded)
    → ((fs : List Formal) → r fs ≡ s fs) → ((fs : List Formal) → b fs ≡ c fs) → ((i : ℕ) → t i ≡ u i) → call_code (of n level count) w compares p k given kind o r b t ≡ call_code (of m level count) w compares p k given kind o s c u
call_same (in_line formals) None given f n m h e level count w compares p k r s b c t u x y z = refl
call_same (in_line formals) (Some q) given f n m h e level count w compares p k r s b c t u x y z = let d = x formals in let g = y formals in cc
call_same through None given f n m h e level count w compares p k r s b c t u x y z = refl
call_same through (Some q) given f n m h e level count w compares p k r s b c t u x y z =
    let i = known_alike f n m h in
    let a = heads_same given f (map known_of n) (map known_of m) i e k in
    let d = sizes.texts_same given f (map known_of n) (map known_of m) i e in
    let g = prepares_same given f (map known_of n) (map known_of m) i e w (source_of (of n level count) q) 0 k in
    let j = place_backs_same given f (map known_of n) (map known_of m) i e w 0 k in
    let v = z k in
    cc
call_same stuck_call o given f n m h e level count w compares p k r s b c t u x y z = refl

bare_same : (n m : List Stand) (level count : ℕ) (w p : Place) (k : ℕ) (kind : CallKind) (o : Option Stand) → call_code (of n level count) w true p k no_actuals kind o (λ fs. []) (λ fs. []) (λ i. []) ≡ call_code (of m level count) w true p k no_actuals kind o (λ fs. []) (λ fs. []) (λ i. [])
bare_same n m level count w p k (in_line formals) None = refl
bare_same n m level count w p k (in_line formals) (Some s) = refl
bare_same n m level count w p k through None = refl
bare_same n m level count w p k through (Some s) = refl
bare_same n m level count w p k stuck_call o = refl

bare_call_same : (n m : List Stand) (level count : ℕ) (w p : Place) (k : ℕ) (o : Option Stand) → bare_call (of n level count) w p k o ≡ bare_call (of m level count) w p k o
bare_call_same n m level count w p k o = bare_same n m level count w p k (call_kind true (kind_of_stand o)) o

name_read_same : (n m : List Stand) (level count : ℕ) (o : Option Stand) → reading_of_name (of n level count) o ≡ reading_of_name (of m level count) o
name_read_same n m level count None = refl
name_read_same n m level count (Some s) = refl

subarray_read_same : (n m : List Stand) (level count free : ℕ) (o : Option Stand) → reading_of_subarray (of n level count) free o ≡ reading_of_subarray (of m level count) free o
subarray_read_same n m level count free None = refl
subarray_read_same n m level count free (Some s) = refl

hand_on_same : (n m : List Stand) (level count : ℕ) (w : Place) (o : Option Stand) → hand_on_code (of n level count) w o ≡ hand_on_code (of m level count) w o
hand_on_same n m level count w None = refl
hand_on_same n m level count w (Some s) = refl

alone_same : (t : FormalType) (n m : List Stand) (level count : ℕ) (w : Place) (k : ℕ) (p : Place) (long : ℕ) (o : Option Stand) → alone_code t (of n level count) w k p long o ≡ alone_code t (of m level count) w k p long o
alone_same (by_value t) n m level count w k p long o = let b = bare_call_same n m level count w p k o in cc
alone_same (by_name t) n m level count w k p long o = let b = bare_call_same n m (level + 1) 1 w p (k + 1) o in let r = name_read_same n m level count o in cc
alone_same (for_procedure result) n m level count w k p long o = let b = hand_on_same n m level count w o in cc
alone_same (for_array t d) n m level count w k p long o = let b = hand_on_same n m level count w o in cc
alone_same (by_result t) n m level count w k p long o = refl
alone_same (by_value_result t) n m level count w k p long o = refl

-- the code of a phrase is the same wherever it is coded
abbrev SameAnywhere : (n m : List Stand) → (Context → Mode → ℕ → List Coded) → Type 0
SameAnywhere n m coded = (level count : ℕ) (u : Mode) (k : ℕ) → coded (of n level count) u k ≡ coded (of m level count) u k

given_same : (t : FormalType) (n m : List Stand) (level count : ℕ) (w : Place) (k : ℕ) (v : Bool) (g : Gives) (first : Place) (a b : ℕ) (coded : Context → Mode → ℕ → List Coded) → a ≡ b → SameAnywhere n m coded → given_code t (of n level count) w k v g first a coded ≡ given_code t (of m level count) w k v g first b coded
given_same (by_value t) n m level count w k v g first a b coded e h = let x = h level count the_value k in cc
given_same (by_result t) n m level count w k v g first a b coded e h = refl
given_same (by_value_result t) n m level count w k v g first a b coded e h = let x = h (level + 1) 1 as_asked (k + 1) in cc
given_same (by_name t) n m level count w k v g first a b coded e h = let x = h (level + 1) 1 as_asked (k + 1) in cc
given_same (for_procedure result) n m level count w k v g first a b coded e h = let x = h (level + 1) 1 as_asked (k + 1) in cc
given_same (for_array t d) n m level count w k v g first a b coded e h = refl

back_code_same : (t : FormalType) (n m : List Stand) (level count : ℕ) (w : Place) (k i kr : ℕ) (g : Gives) (coded : Context → Mode → ℕ → List Coded) → SameAnywhere n m coded → back_code t (of n level count) w k i kr g coded ≡ back_code t (of m level count) w k i kr g coded
back_code_same (by_result t) n m level count w k i kr (Simple u) coded h = let x = h level count the_place k in cc
back_code_same (by_result t) n m level count w k i kr Statement coded h = refl
back_code_same (by_value_result t) n m level count w k i kr g coded h = back_fixed t n m level count w k i kr g coded
  where
    back_fixed : (t : ValueType) (n m : List Stand) (level count : ℕ) (w : Place) (k i kr : ℕ) (g : Gives) (coded : Context → Mode → ℕ → List Coded) → back_code (by_value_result t) (of n level count) w k i kr g coded ≡ back_code (by_value_result t) (of m level count) w k i kr g coded
    back_fixed t n m level count w k i kr (Simple u) coded = refl
    back_fixed t n m level count w k i kr Statement coded = refl
back_code_same (by_value t) n m level count w k i kr g coded h = refl
back_code_same (by_name t) n m level count w k i kr g coded h = refl
back_code_same (for_procedure result) n m level count w k i kr g coded h = refl
back_code_same (for_array t d) n m level count w k i kr g coded h = refl

jumps_same : (parts : Phrases) (f : Place → Phrase) (k l : List Known) → Alike f k l → with_phrases f parts ≡ parts → (w : Place) (i : ℕ) → jumps_code k w i parts ≡ jumps_code l w i parts
jumps_same no_phrases f k l h e w i = refl
jumps_same (phrase_and a rest) f k l h e w i = let s = size_same a f k l h (cc e) in let r = jumps_same rest f k l h (cc e) w (i + (size k a + 1)) in cc

named_same : (n m : List Stand) (level count : ℕ) (w : Place) (u : Mode) (o : Option Stand) → named_code (of n level count) w u o ≡ named_code (of m level count) w u o
named_same n m level count w u None = refl
named_same n m level count w u (Some s) = refl

element_same : (n m : List Stand) (level count : ℕ) (w : Place) (u : Mode) (d : ℕ) (o : Option Stand) → element_code (of n level count) w u d o ≡ element_code (of m level count) w u d o
element_same n m level count w u d None = refl
element_same n m level count w u d (Some s) = refl

goto_same : (n m : List Stand) (level count : ℕ) (st : Place) (o : Option Stand) → goto_code (of n level count) st o ≡ goto_code (of m level count) st o
goto_same n m level count st None = refl
goto_same n m level count st (Some s) = refl

subarray_same : (n m : List Stand) (level count : ℕ) (w : Place) (stars : List Bool) (o : Option Stand) → subarray_code (of n level count) w stars o ≡ subarray_code (of m level count) w stars o
subarray_same n m level count w stars None = refl
subarray_same n m level count w stars (Some s) = refl

-- ---- code one behind another

joined : {a b c d : List Coded} → a ≡ b → c ≡ d → (a ▸ c) ≡ (b ▸ d)
joined {a} {b} {c} {d} x y = ap (λ (l : List Coded). l ▸ c) x ∙ ap (λ (l : List Coded). b ▸ l) y

same : (a : List Coded) → a ≡ a
same a = refl

texts_joined : (w : Place) (k : ℕ) (first : Place) {r q : Reading} {i j : ℕ} {a b : List Coded} → r ≡ q → i ≡ j → a ≡ b → text_code w k first r i a ≡ text_code w k first q j b
texts_joined w k first {r} {q} {i} {j} {a} {b} x y z = ap (λ (p : Reading). text_code w k first p i a) x ∙ ap (λ (l : ℕ). text_code w k first q l a) y ∙ ap (text_code w k first q j) z

-- ---- phrases

mutual
  pub code_same : (a : Phrase) (f : Place → Phrase) (n m : List Stand) → StandAlike f n m → with f a ≡ a → (level count : ℕ) (w : Place) (u : Mode) (k : ℕ) → code (of n level count) w u k a ≡ code (of m level count) w u k a
  code_same Empty f n m h e level count w u k = refl
  code_same (Constant v) f n m h e level count w u k = refl
  code_same (Named x) f n m h e level count w u k = ap (named_code (of n level count) w u) (h.by x e) ∙ named_same n m level count w u (stand_at m x)
  code_same (Variable i) f n m h e level count w u k = refl
  code_same (Array i given) f n m h e level count w u k = refl
  code_same (Label i) f n m h e level count w u k = refl
  code_same (Procedure i) f n m h e level count w u k = refl
  code_same (Copied i a) f n m h e level count w u k = refl
  code_same (Unary op a) f n m h e level count w u k =
      let x = code_same a f n m h (cc e) level count w the_value (k) in
      let r = joined x (same (one w (instr.Unary op))) in
      r
  code_same (Binary op a b) f n m h e level count w u k =
      let s = size_same a f (map known_of n) (map known_of m) (known_alike f n m h) (cc e) in
      let x = code_same a f n m h (cc e) level count w the_value (k) in
      let y = code_same b f n m h (cc e) level count w the_value (k + (size (map known_of n) a + 1)) ∙ ap (λ (i : ℕ). code (of m level count) w the_value (k + (i + 1)) b) s in
      let r = joined x (joined (same (one w instr.Push)) (joined y (same (one w (instr.Binary op))))) in
      r
  code_same (Relation op a b) f n m h e level count w u k =
      let s = size_same a f (map known_of n) (map known_of m) (known_alike f n m h) (cc e) in
      let x = code_same a f n m h (cc e) level count w the_value (k) in
      let y = code_same b f n m h (cc e) level count w the_value (k + (size (map known_of n) a + 1)) ∙ ap (λ (i : ℕ). code (of m level count) w the_value (k + (i + 1)) b) s in
      let r = joined x (joined (same (one w instr.Push)) (joined y (same (one w (instr.Relation op))))) in
      r
  code_same (IsClass a class) f n m h e level count w u k =
      let x = code_same a f n m h (cc e) level count w the_value (k) in
      let r = joined x (same (one w (instr.IsClass class))) in
      r
  code_same (Element a given) f n m h e level count w u k =
      let x = each_same given f n m h (cc e) level count w k in
      let y = ap (element_code (of n level count) w u (phrase_count given)) (stand_same a f n m h (cc e) level count) ∙ element_same n m level count w u (phrase_count given) (stand_of (of m level count) a) in
      let r = joined x y in
      r
  code_same (Field class position a) f n m h e level count w u k =
      let x = code_same a f n m h (cc e) level count w the_value (k) in
      let r = joined x (same (one w (instr.Field u class position))) in
      r
  code_same (Part whole long a b) f n m h e level count w u k =
      let s = size_same a f (map known_of n) (map known_of m) (known_alike f n m h) (cc e) in
      let x = code_same a f n m h (cc e) level count w u (k) in
      let y = code_same b f n m h (cc e) level count w the_value (k + (size (map known_of n) a + 1)) ∙ ap (λ (i : ℕ). code (of m level count) w the_value (k + (i + 1)) b) s in
      let r = joined x (joined (same (one w instr.Push)) (joined y (same (one w (instr.Part whole long))))) in
      r
  code_same (Record class types values) f n m h e level count w u k =
      let x = fields_same values types f n m h (cc e) level count w k in
      let r = joined x (same (one w (instr.MakeRecord class (phrase_count values)))) in
      r
  code_same (RecordAlone class i) f n m h e level count w u k = refl
  code_same (IfThen st t a b d) f n m h e level count w u k =
      let p = size_same a f (map known_of n) (map known_of m) (known_alike f n m h) (cc e) in
      let q = size_same b f (map known_of n) (map known_of m) (known_alike f n m h) (cc e) in
      let o = size_same d f (map known_of n) (map known_of m) (known_alike f n m h) (cc e) in
      let x = code_same a f n m h (cc e) level count (innermost w st) the_value (k + begin_size st) in
      let unless = ap (λ (i : ℕ). one (innermost w st) (instr.JumpUnless (k + begin_size st + i + size (map known_of n) b + 2))) p ∙ ap (λ (i : ℕ). one (innermost w st) (instr.JumpUnless (k + begin_size st + size (map known_of m) a + i + 2))) q in
      let y = code_same b f n m h (cc e) level count (innermost w st) the_value (k + begin_size st + size (map known_of n) a + 1) ∙ ap (λ (i : ℕ). code (of m level count) (innermost w st) the_value (k + begin_size st + i + 1) b) p in
      let behind = ap (λ (i : ℕ). one (innermost w st) (instr.Jump (k + begin_size st + i + size (map known_of n) b + 2 + size (map known_of n) d))) p ∙ ap (λ (i : ℕ). one (innermost w st) (instr.Jump (k + begin_size st + size (map known_of m) a + i + 2 + size (map known_of n) d))) q ∙ ap (λ (i : ℕ). one (innermost w st) (instr.Jump (k + begin_size st + size (map known_of m) a + size (map known_of m) b + 2 + i))) o in
      let z = code_same d f n m h (cc e) level count (innermost w st) the_value (k + begin_size st + size (map known_of n) a + size (map known_of n) b + 2) ∙ ap (λ (i : ℕ). code (of m level count) (innermost w st) the_value (k + begin_size st + i + size (map known_of n) b + 2) d) p ∙ ap (λ (i : ℕ). code (of m level count) (innermost w st) the_value (k + begin_size st + size (map known_of m) a + i + 2) d) q in
      let r = joined (same (begin_code st)) (joined x (joined unless (joined y (joined behind (joined z (same (make_code (innermost w st) t))))))) in
      r
  code_same (Case st t a parts) f n m h e level count w u k =
      let p = size_same a f (map known_of n) (map known_of m) (known_alike f n m h) (cc e) in
      let q = sizes.parts_same parts f (map known_of n) (map known_of m) (known_alike f n m h) (cc e) in
      let x = code_same a f n m h (cc e) level count (innermost w st) the_value (k + begin_size st) in
      let jumps = jumps_same parts f (map known_of n) (map known_of m) (known_alike f n m h) (cc e) (innermost w st) (k + begin_size st + size (map known_of n) a + 1 + jumps_size parts) ∙ ap (λ (i : ℕ). jumps_code (map known_of m) (innermost w st) (k + begin_size st + i + 1 + jumps_size parts) parts) p in
      let y = parts_same parts f n m h (cc e) level count (innermost w st) (k + begin_size st + size (map known_of n) a + 1 + jumps_size parts) (k + begin_size st + size (map known_of n) a + 1 + jumps_size parts + parts_size (map known_of n) parts) ∙ ap (λ (i : ℕ). code_parts (of m level count) (innermost w st) (k + begin_size st + i + 1 + jumps_size parts) (k + begin_size st + i + 1 + jumps_size parts + parts_size (map known_of n) parts) parts) p ∙ ap (λ (i : ℕ). code_parts (of m level count) (innermost w st) (k + begin_size st + size (map known_of m) a + 1 + jumps_size parts) (k + begin_size st + size (map known_of m) a + 1 + jumps_size parts + i) parts) q in
      let r = joined (same (begin_code st)) (joined x (joined (same (one (innermost w st) (instr.Choose (phrase_count parts)))) (joined jumps (joined y (same (make_code (innermost w st) t)))))) in
      r
  code_same (Block st p decls items) f n m h e level count w u k =
      let g = kept (block_places decls items) f in
      let ko = (map known_of n) in
      let lo = (map known_of m) in
      let o = known_alike f n m h in
      let first = k + begin_size st + 1 in
      let c = (block_context (of n level count) first decls items).names in
      let d = (block_context (of m level count) first decls items).names in
      let inside = block_stands_more decls items f n m h (cc e) (cc e) level count first in
      let s = sizes.decls_same decls f g ko lo (block_known decls items ko) (block_known decls items lo) o (block_more decls items f ko lo o) (cc e) in
      let x = decls_same decls f g n m c d h inside (cc e) level (count + 1) level (count + 2 + entry_count decls) (innermost w st) first in
      let y = items_same items g c d inside (cc e) level (count + 2 + entry_count decls) (innermost w st) (k + begin_size st + 2 + decls_size ko (block_known decls items ko) decls) ∙ ap (λ (i : ℕ). code_items (of d level (count + 2 + entry_count decls)) (innermost w st) (k + begin_size st + 2 + i) items) s in
      let r = joined (same (begin_code st)) (joined (same (one (innermost w st) (instr.EnterBlock p))) (joined x (joined (same (one (innermost w st) instr.Declared)) (joined y (same (one (innermost w st) (instr.LeaveBlock count))))))) in
      r
  code_same (Call st compares p a given) f n m h e level count w u k =
      let v : with_actuals f given ≡ given = cc e in
      let ko = map known_of n in
      let lo = map known_of m in
      let o = known_alike f n m h in
      let first = k + begin_size st in
      let ready : List Formal → List Coded = λ fs. code_actuals (of n level count) (innermost w st) first given fs in
      let back : List Formal → List Coded = λ fs. code_backs (with_entries (1 + length fs) (of n level count)) (innermost w st) (first + actuals_size ko given fs + 1) 0 first given fs in
      let texts : ℕ → List Coded = λ l. code_texts (of n level count) (innermost w st) l given in
      let other : List Formal → List Coded = λ fs. code_backs (with_entries (1 + length fs) (of m level count)) (innermost w st) (first + actuals_size lo given fs + 1) 0 first given fs in
      let coded =
      call_same (call_kind compares (kind_of_stand (stand_of (of n level count) a))) (stand_of (of n level count) a) given f n m h v level count (innermost w st) compares p first ready (λ fs. code_actuals (of m level count) (innermost w st) first given fs) back other texts
      (λ l. code_texts (of m level count) (innermost w st) l given) (λ fs. actuals_same given fs f n m h v level count (innermost w st) first)
      (λ fs.
      backs_same given fs f n m h v level (count + (1 + length fs)) (innermost w st) (first + actuals_size ko given fs + 1) 0 first
      ∙ ap (λ j. code_backs (with_entries (1 + length fs) (of m level count)) (innermost w st) (first + j + 1) 0 first given fs) (sizes.actuals_same given fs f ko lo o v))
      (λ l. texts_same given f n m h v level count (innermost w st) l) in
      let there = stand_same a f n m h (cc e) level count in
      let r =
      joined (same (begin_code st))
      (coded ∙ ap (λ (q : Option Stand). call_code (of m level count) (innermost w st) compares p first given (call_kind compares (kind_of_stand q)) q (λ fs. code_actuals (of m level count) (innermost w st) first given fs) other (λ l. code_texts (of m level count) (innermost w st) l given)) there) in
      r
  code_same (Assign st t a b) f n m h e level count w u k =
      let s = size_same a f (map known_of n) (map known_of m) (known_alike f n m h) (cc e) in
      let x = code_same a f n m h (cc e) level count (innermost w st) the_place (k + begin_size st) in
      let y = code_same b f n m h (cc e) level count (innermost w st) the_value (k + begin_size st + size (map known_of n) a + 1) ∙ ap (λ (i : ℕ). code (of m level count) (innermost w st) the_value (k + begin_size st + i + 1) b) s in
      let r = joined (same (begin_code st)) (joined x (joined (same (one (innermost w st) instr.Push)) (joined y (same (one (innermost w st) (instr.Assign t (is_none st))))))) in
      r
  code_same (WhileDo st a body) f n m h e level count w u k =
      let s = size_same body f (map known_of n) (map known_of m) (known_alike f n m h) (cc e) in
      let over = ap (λ (i : ℕ). one st (instr.Jump (k + 2 + i))) s in
      let x = code_same body f n m h (cc e) level count st the_value (k + 2) in
      let y = code_same a f n m h (cc e) level count st the_value (k + 2 + size (map known_of n) body) ∙ ap (λ (i : ℕ). code (of m level count) st the_value (k + 2 + i) a) s in
      let r = joined (same (one st instr.Begin)) (joined over (joined x (joined y (same (one st (instr.Again (k + 2))))))) in
      r
  code_same (ForStep st x a b d body) f n m h e level count w u k =
      let g = kept (x.place ∷ []) f in
      let c = (turn_context (of n level count) x).names in
      let o = (turn_context (of m level count) x).names in
      let inside = turn_more x f level count n m h in
      let p = size_same a f (map known_of n) (map known_of m) (known_alike f n m h) (cc e) in
      let q = size_same b f (map known_of n) (map known_of m) (known_alike f n m h) (cc e) in
      let v = size_same d f (map known_of n) (map known_of m) (known_alike f n m h) (cc e) in
      let s = size_same body g (map known_of c) (map known_of o) (known_alike g c o inside) (cc e) in
      let first = code_same a f n m h (cc e) level count st the_value (k + 1) in
      let second = code_same b f n m h (cc e) level count st the_value (k + 2 + size (map known_of n) a) ∙ ap (λ (i : ℕ). code (of m level count) st the_value (k + 2 + i) b) p in
      let third = code_same d f n m h (cc e) level count st the_value (k + 3 + size (map known_of n) a + size (map known_of n) b) ∙ ap (λ (i : ℕ). code (of m level count) st the_value (k + 3 + i + size (map known_of n) b) d) p ∙ ap (λ (i : ℕ). code (of m level count) st the_value (k + 3 + size (map known_of m) a + i) d) q in
      let over = ap (λ (i : ℕ). one st (instr.FirstTurn (k + 7 + i + size (map known_of n) b + size (map known_of n) d + size (map known_of c) body))) p ∙ ap (λ (i : ℕ). one st (instr.FirstTurn (k + 7 + size (map known_of m) a + i + size (map known_of n) d + size (map known_of c) body))) q ∙ ap (λ (i : ℕ). one st (instr.FirstTurn (k + 7 + size (map known_of m) a + size (map known_of m) b + i + size (map known_of c) body))) v ∙ ap (λ (i : ℕ). one st (instr.FirstTurn (k + 7 + size (map known_of m) a + size (map known_of m) b + size (map known_of m) d + i))) s in
      let fourth = code_same body g c o inside (cc e) level (count + 2) st the_value (k + 6 + size (map known_of n) a + size (map known_of n) b + size (map known_of n) d) ∙ ap (λ (i : ℕ). code (of o level (count + 2)) st the_value (k + 6 + i + size (map known_of n) b + size (map known_of n) d) body) p ∙ ap (λ (i : ℕ). code (of o level (count + 2)) st the_value (k + 6 + size (map known_of m) a + i + size (map known_of n) d) body) q ∙ ap (λ (i : ℕ). code (of o level (count + 2)) st the_value (k + 6 + size (map known_of m) a + size (map known_of m) b + i) body) v in
      let again = ap (λ (i : ℕ). one st (instr.NextTurn (k + 5 + i + size (map known_of n) b + size (map known_of n) d) count)) p ∙ ap (λ (i : ℕ). one st (instr.NextTurn (k + 5 + size (map known_of m) a + i + size (map known_of n) d) count)) q ∙ ap (λ (i : ℕ). one st (instr.NextTurn (k + 5 + size (map known_of m) a + size (map known_of m) b + i) count)) v in
      let r = joined (same (one st instr.Begin)) (joined first (joined (same (one st instr.Push)) (joined second (joined (same (one st instr.Push)) (joined third (joined (same (one st instr.Push)) (joined over (joined (same (one st (instr.Turn x.text))) (joined fourth again))))))))) in
      r
  code_same (ForList st x values body) f n m h e level count w u k =
      let g = kept (x.place ∷ []) f in
      let c = (turn_context (of n level count) x).names in
      let o = (turn_context (of m level count) x).names in
      let inside = turn_more x f level count n m h in
      let s = size_same body g (map known_of c) (map known_of o) (known_alike g c o inside) (cc e) in
      let over = ap (λ (i : ℕ). one st (instr.Jump (k + 3 + i))) s in
      let first = code_same body g c o inside (cc e) level (count + 2) st the_value (k + 2) in
      let second = list_same values x (k + 2) f n m h (cc e) level count st (k + 3 + size (map known_of c) body) ∙ ap (λ (i : ℕ). code_list (of m level count) st x (k + 2) (k + 3 + i) values) s in
      let r = joined (same (one st instr.Begin)) (joined over (joined first (joined (same (one st (instr.EndTurn count))) (joined second (same (one st instr.Nothing)))))) in
      r
  code_same (Goto st a) f n m h e level count w u k = ap (goto_code (of n level count) st) (stand_same a f n m h (cc e) level count) ∙ goto_same n m level count st (stand_of (of m level count) a)
  code_same (Assert st a) f n m h e level count w u k =
      let x = code_same a f n m h (cc e) level count st the_value (k + 1) in
      let r = joined (same (one st instr.Begin)) (joined x (same (one st instr.Assert))) in
      r
  code_same (Write st first roles values) f n m h e level count w u k =
      let x = writes_same values first None roles f n m h (cc e) level count st (k + 1) in
      let r = joined (same (one st instr.Begin)) x in
      r
  code_same (Read st next targets) f n m h e level count w u k =
      let x = reads_same targets next f n m h (cc e) level count st (k + 1) in
      let r = joined (same (one st instr.Begin)) (joined x (same (one st instr.Nothing))) in
      r
  code_same (ReadCard st targets) f n m h e level count w u k =
      let x = cards_same targets f n m h (cc e) level count st (k + 1) in
      let r = joined (same (one st instr.Begin)) (joined x (same (one st instr.Nothing))) in
      r
  code_same (IoControl st a) f n m h e level count w u k =
      let x = code_same a f n m h (cc e) level count st the_value (k + 1) in
      let r = joined (same (one st instr.Begin)) (joined x (same (one st instr.IoControl))) in
      r

  each_same : (as_ : Phrases) (f : Place → Phrase) (n m : List Stand) → StandAlike f n m → with_phrases f as_ ≡ as_ → (level count : ℕ) (w : Place) (k : ℕ) → code_each (of n level count) w k as_ ≡ code_each (of m level count) w k as_
  each_same no_phrases f n m h e level count w k = refl
  each_same (phrase_and a rest) f n m h e level count w k =
      let s = size_same a f (map known_of n) (map known_of m) (known_alike f n m h) (cc e) in
      let x = code_same a f n m h (cc e) level count w the_value k in
      let y = each_same rest f n m h (cc e) level count w (k + (size (map known_of n) a + 1)) ∙ ap (λ (i : ℕ). code_each (of m level count) w (k + (i + 1)) rest) s in
      let r = joined x (joined (same (one w instr.Push)) y) in
      r

  fields_same : (as_ : Phrases) (types : List ValueType) (f : Place → Phrase) (n m : List Stand) → StandAlike f n m → with_phrases f as_ ≡ as_ → (level count : ℕ) (w : Place) (k : ℕ) → code_fields (of n level count) w k types as_ ≡ code_fields (of m level count) w k types as_
  fields_same no_phrases types f n m h e level count w k = refl
  fields_same (phrase_and a rest) [] f n m h e level count w k =
      let s = size_same a f (map known_of n) (map known_of m) (known_alike f n m h) (cc e) in
      let x = code_same a f n m h (cc e) level count w the_value k in
      let y = fields_same rest [] f n m h (cc e) level count w (k + (size (map known_of n) a + 2)) ∙ ap (λ (i : ℕ). code_fields (of m level count) w (k + (i + 2)) [] rest) s in
      let r = joined x (joined (same (one w instr.Stuck)) (joined (same (one w instr.Stuck)) y)) in
      r
  fields_same (phrase_and a rest) (t ∷ types) f n m h e level count w k =
      let s = size_same a f (map known_of n) (map known_of m) (known_alike f n m h) (cc e) in
      let x = code_same a f n m h (cc e) level count w the_value k in
      let y = fields_same rest types f n m h (cc e) level count w (k + (size (map known_of n) a + 2)) ∙ ap (λ (i : ℕ). code_fields (of m level count) w (k + (i + 2)) types rest) s in
      let r = joined x (joined (same (one w (instr.Make t))) (joined (same (one w instr.Push)) y)) in
      r

  parts_same : (as_ : Phrases) (f : Place → Phrase) (n m : List Stand) → StandAlike f n m → with_phrases f as_ ≡ as_ → (level count : ℕ) (w : Place) (k end : ℕ) → code_parts (of n level count) w k end as_ ≡ code_parts (of m level count) w k end as_
  parts_same no_phrases f n m h e level count w k end = refl
  parts_same (phrase_and a rest) f n m h e level count w k end =
      let s = size_same a f (map known_of n) (map known_of m) (known_alike f n m h) (cc e) in
      let x = code_same a f n m h (cc e) level count w the_value k in
      let y = parts_same rest f n m h (cc e) level count w (k + (size (map known_of n) a + 1)) end ∙ ap (λ (i : ℕ). code_parts (of m level count) w (k + (i + 1)) end rest) s in
      let r = joined x (joined (same (one w (instr.Jump end))) y) in
      r

  list_same : (as_ : Phrases) (x : Name) (body : ℕ) (f : Place → Phrase) (n m : List Stand) → StandAlike f n m → with_phrases f as_ ≡ as_ → (level count : ℕ) (st : Place) (k : ℕ) → code_list (of n level count) st x body k as_ ≡ code_list (of m level count) st x body k as_
  list_same no_phrases x body f n m h e level count st k = refl
  list_same (phrase_and a rest) x body f n m h e level count st k =
      let s = size_same a f (map known_of n) (map known_of m) (known_alike f n m h) (cc e) in
      let z = code_same a f n m h (cc e) level count st the_value k in
      let y = list_same rest x body f n m h (cc e) level count st (k + (size (map known_of n) a + 1)) ∙ ap (λ (i : ℕ). code_list (of m level count) st x body (k + (i + 1)) rest) s in
      let r = joined z (joined (same (one st (instr.ListTurn body x.text))) y) in
      r

  writes_same : (as_ : Phrases) (first : Bool) (position : Option ℕ) (roles : List Role) (f : Place → Phrase) (n m : List Stand) → StandAlike f n m → with_phrases f as_ ≡ as_ → (level count : ℕ) (st : Place) (k : ℕ) → code_writes (of n level count) st first position k roles as_ ≡ code_writes (of m level count) st first position k roles as_
  writes_same no_phrases first position roles f n m h e level count st k = refl
  writes_same (phrase_and a rest) first position [] f n m h e level count st k =
      let s = size_same a f (map known_of n) (map known_of m) (known_alike f n m h) (cc e) in
      let x = code_same a f n m h (cc e) level count st the_value k in
      let y = writes_same rest first position [] f n m h (cc e) level count st (k + (size (map known_of n) a + 1)) ∙ ap (λ (i : ℕ). code_writes (of m level count) st first position (k + (i + 1)) [] rest) s in
      let r = joined x (joined (same (one st instr.Stuck)) y) in
      r
  writes_same (phrase_and a rest) first position (placed ∷ roles) f n m h e level count st k =
      let s = size_same a f (map known_of n) (map known_of m) (known_alike f n m h) (cc e) in
      let x = code_same a f n m h (cc e) level count st the_value k in
      let y = writes_same rest false position roles f n m h (cc e) level count st (k + (size (map known_of n) a + 1)) ∙ ap (λ (i : ℕ). code_writes (of m level count) st false position (k + (i + 1)) roles rest) s in
      let r = joined x (joined (same (one st (instr.Write first position))) y) in
      r
  writes_same (phrase_and a rest) first None (sets width ∷ roles) f n m h e level count st k =
      let s = size_same a f (map known_of n) (map known_of m) (known_alike f n m h) (cc e) in
      let x = code_same a f n m h (cc e) level count st the_value k in
      let y = writes_same rest first (Some count) roles f n m h (cc e) level (count + 1) st (k + (size (map known_of n) a + 1)) ∙ ap (λ (i : ℕ). code_writes (of m level (count + 1)) st first (Some count) (k + (i + 1)) roles rest) s in
      let r = joined x (joined (same (one st (instr.SetWidth width None))) y) in
      r
  writes_same (phrase_and a rest) first (Some p) (sets width ∷ roles) f n m h e level count st k =
      let s = size_same a f (map known_of n) (map known_of m) (known_alike f n m h) (cc e) in
      let x = code_same a f n m h (cc e) level count st the_value k in
      let y = writes_same rest first (Some p) roles f n m h (cc e) level count st (k + (size (map known_of n) a + 1)) ∙ ap (λ (i : ℕ). code_writes (of m level count) st first (Some p) (k + (i + 1)) roles rest) s in
      let r = joined x (joined (same (one st (instr.SetWidth width (Some p)))) y) in
      r

  reads_same : (targets : Targets) (next : Bool) (f : Place → Phrase) (n m : List Stand) → StandAlike f n m → with_targets f targets ≡ targets → (level count : ℕ) (st : Place) (k : ℕ) → code_reads (of n level count) st next k targets ≡ code_reads (of m level count) st next k targets
  reads_same no_targets next f n m h e level count st k = refl
  reads_same (target_and t a rest) next f n m h e level count st k =
      let s = size_same a f (map known_of n) (map known_of m) (known_alike f n m h) (cc e) in
      let x = code_same a f n m h (cc e) level count st the_place k in
      let y = reads_same rest false f n m h (cc e) level count st (k + (size (map known_of n) a + 1)) ∙ ap (λ (i : ℕ). code_reads (of m level count) st false (k + (i + 1)) rest) s in
      let r = joined x (joined (same (one st (instr.Read next t))) y) in
      r

  cards_same : (targets : Targets) (f : Place → Phrase) (n m : List Stand) → StandAlike f n m → with_targets f targets ≡ targets → (level count : ℕ) (st : Place) (k : ℕ) → code_cards (of n level count) st k targets ≡ code_cards (of m level count) st k targets
  cards_same no_targets f n m h e level count st k = refl
  cards_same (target_and t a rest) f n m h e level count st k =
      let s = size_same a f (map known_of n) (map known_of m) (known_alike f n m h) (cc e) in
      let x = code_same a f n m h (cc e) level count st the_place k in
      let y = cards_same rest f n m h (cc e) level count st (k + (size (map known_of n) a + 1)) ∙ ap (λ (i : ℕ). code_cards (of m level count) st (k + (i + 1)) rest) s in
      let r = joined x (joined (same (one st (instr.ReadCard t))) y) in
      r

  items_same : (items : Items) (f : Place → Phrase) (n m : List Stand) → StandAlike f n m → with_items f items ≡ items → (level count : ℕ) (w : Place) (k : ℕ) → code_items (of n level count) w k items ≡ code_items (of m level count) w k items
  items_same no_items f n m h e level count w k = refl
  items_same (item_and labels a no_items) f n m h e level count w k = code_same a f n m h (cc e) level count w the_value k
  items_same (item_and labels a (item_and more b rest)) f n m h e level count w k =
      let s = size_same a f (map known_of n) (map known_of m) (known_alike f n m h) (cc e) in
      let x = code_same a f n m h (cc e) level count w the_value k in
      let y = items_same (item_and more b rest) f n m h (cc e) level count w (k + size (map known_of n) a) ∙ ap (λ (i : ℕ). code_items (of m level count) w (k + i) (item_and more b rest)) s in
      let r = joined x y in
      r

  pub bounds_code_same : (bounds : Bounds) (f : Place → Phrase) (n m : List Stand) → StandAlike f n m → with_bounds f bounds ≡ bounds → (level count : ℕ) (w : Place) (k : ℕ) → code_bounds (of n level count) w k bounds ≡ code_bounds (of m level count) w k bounds
  bounds_code_same no_bounds f n m h e level count w k = refl
  bounds_code_same (bound_and a b rest) f n m h e level count w k =
      let p = size_same a f (map known_of n) (map known_of m) (known_alike f n m h) (cc e) in
      let q = size_same b f (map known_of n) (map known_of m) (known_alike f n m h) (cc e) in
      let x = code_same a f n m h (cc e) level count w the_value k in
      let y = code_same b f n m h (cc e) level count w the_value (k + (size (map known_of n) a + 1)) ∙ ap (λ (i : ℕ). code (of m level count) w the_value (k + (i + 1)) b) p in
      let z = bounds_code_same rest f n m h (cc e) level count w (k + (size (map known_of n) a + (1 + (size (map known_of n) b + 1)))) ∙ ap (λ (i : ℕ). code_bounds (of m level count) w (k + (i + (1 + (size (map known_of n) b + 1)))) rest) p ∙ ap (λ (i : ℕ). code_bounds (of m level count) w (k + (size (map known_of m) a + (1 + (i + 1)))) rest) q in
      let r = joined x (joined (same (one w instr.Push)) (joined y (joined (same (one w instr.Push)) z))) in
      r

  decls_same : (decls : Decls) (f g : Place → Phrase) (n m inner other : List Stand) → StandAlike f n m → StandAlike g inner other → with_decls f g decls ≡ decls → (level count l t : ℕ) (w : Place) (k : ℕ) → code_decls (of n level count) (of inner l t) w k decls ≡ code_decls (of m level count) (of other l t) w k decls
  decls_same no_decls f g n m inner other h i e level count l t w k = refl
  decls_same (variables_and names rest) f g n m inner other h i e level count l t w k =
      let x = decls_same rest f g n m inner other h i (cc e) level (count + length names) l t w (k + length names) in
      let r = joined (same (declare_code w names)) x in
      r
  decls_same (arrays_and type names pairs rest) f g n m inner other h i e level count l t w k =
      let s = sizes.bounds_same pairs f (map known_of n) (map known_of m) (known_alike f n m h) (cc e) in
      let x = bounds_code_same pairs f n m h (cc e) level count w k in
      let y = decls_same rest f g n m inner other h i (cc e) level (count + length names) l t w (k + (bounds_size (map known_of n) pairs + (1 + length names))) ∙ ap (λ (j : ℕ). code_decls (of m level (count + length names)) (of other l t) w (k + (j + (1 + length names))) rest) s in
      let r = joined x (joined (same (one w (instr.Bounds (dimensions pairs)))) (joined (same (declare_arrays_code w type names)) y)) in
      r
  decls_same (procedure_and x result formals body rest) f g n m inner other h i e level count l t w k =
      let own = kept (formal_places formals) g in
      let c = formal_stands (l + 1) 1 formals inner in
      let d = formal_stands (l + 1) 1 formals other in
      let j = formals_more formals g (l + 1) 1 inner other i in
      let s = size_same body own (map known_of c) (map known_of d) (known_alike own c d j) (cc e) in
      let head = ap (λ (q : ℕ). one w (instr.Procedure (record { name = x.text; result = result; formals = formals }) (k + text_size (q + result_size result)))) s in
      let y = code_same body own c d j (cc e) (l + 1) (1 + length formals) w the_value (k + 1) in
      let z = decls_same rest f g n m inner other h i (cc e) level count l t w (k + text_size (size (map known_of c) body + result_size result)) ∙ ap (λ (q : ℕ). code_decls (of m level count) (of other l t) w (k + text_size (q + result_size result)) rest) s in
      let r = joined head (joined y (joined (same (result_code w result)) (joined (same (one w instr.Return)) z))) in
      r

  subscripts_same : (given : Subscripts) (f : Place → Phrase) (n m : List Stand) → StandAlike f n m → with_subscripts f given ≡ given → (level count : ℕ) (w : Place) (k : ℕ) → code_subscripts (of n level count) w k given ≡ code_subscripts (of m level count) w k given
  subscripts_same no_subscripts f n m h e level count w k = refl
  subscripts_same (star_and rest) f n m h e level count w k = subscripts_same rest f n m h (cc e) level count w k
  subscripts_same (subscript_and a rest) f n m h e level count w k =
      let s = size_same a f (map known_of n) (map known_of m) (known_alike f n m h) (cc e) in
      let x = code_same a f n m h (cc e) level count w the_value k in
      let y = subscripts_same rest f n m h (cc e) level count w (k + (size (map known_of n) a + 1)) ∙ ap (λ (i : ℕ). code_subscripts (of m level count) w (k + (i + 1)) rest) s in
      let r = joined x (joined (same (one w instr.Push)) y) in
      r

  actuals_same : (given : Actuals) (fs : List Formal) (f : Place → Phrase) (n m : List Stand) → StandAlike f n m → with_actuals f given ≡ given → (level count : ℕ) (w : Place) (k : ℕ) → code_actuals (of n level count) w k given fs ≡ code_actuals (of m level count) w k given fs
  actuals_same no_actuals [] f n m h e level count w k = refl
  actuals_same no_actuals (g ∷ fs) f n m h e level count w k = refl
  actuals_same (actual_and a rest) [] f n m h e level count w k = refl
  actuals_same (actual_and a rest) (g ∷ fs) f n m h e level count w k =
      let s = sizes.actual_same a g.is f (map known_of n) (map known_of m) (known_alike f n m h) (cc e) in
      let x = actual_same a g.is f n m h (cc e) level count w k in
      let y = actuals_same rest fs f n m h (cc e) level count w (k + actual_size (map known_of n) a g.is) ∙ ap (λ (i : ℕ). code_actuals (of m level count) w (k + i) rest fs) s in
      let r = joined x y in
      r

  actual_same : (a : Actual) (t : FormalType) (f : Place → Phrase) (n m : List Stand) → StandAlike f n m → with_actual f a ≡ a → (level count : ℕ) (w : Place) (k : ℕ) → code_actual (of n level count) w k a t ≡ code_actual (of m level count) w k a t
  actual_same (Given v g first a) t f n m h e level count w k =
      given_same t n m level count w k v g first (size (map known_of n) a) (size (map known_of m) a) (λ d u l. code d w u l a) (size_same a f (map known_of n) (map known_of m) (known_alike f n m h) (cc e)) (λ l c u i. code_same a f n m h (cc e) l c w u i)
  actual_same (Alone p a) t f n m h e level count w k =
      let s = ap bare_call_size (head_same a f (map known_of n) (map known_of m) (known_alike f n m h) (cc e)) in
      let o = stand_same a f n m h (cc e) level count in
      ap (λ j. alone_code t (of n level count) w k p j (stand_of (of n level count) a)) s ∙ ap (alone_code t (of n level count) w k p (bare_call_size (head_kind (map known_of m) a))) o ∙ alone_same t n m level count w k p (bare_call_size (head_kind (map known_of m) a)) (stand_of (of m level count) a)
  actual_same (Subarray a given) t f n m h e level count w k =
      let x = subscripts_same given f n m h (cc e) level count w k in
      let y = ap (subarray_code (of n level count) w (stars_of given)) (stand_same a f n m h (cc e) level count) ∙ subarray_same n m level count w (stars_of given) (stand_of (of m level count) a) in
      let r = joined x (joined y (same (one w instr.Push))) in
      r

  backs_same : (given : Actuals) (fs : List Formal) (f : Place → Phrase) (n m : List Stand) → StandAlike f n m → with_actuals f given ≡ given → (level count : ℕ) (w : Place) (k i kr : ℕ) → code_backs (of n level count) w k i kr given fs ≡ code_backs (of m level count) w k i kr given fs
  backs_same no_actuals [] f n m h e level count w k i kr = refl
  backs_same no_actuals (g ∷ fs) f n m h e level count w k i kr = refl
  backs_same (actual_and a rest) [] f n m h e level count w k i kr = refl
  backs_same (actual_and a rest) (g ∷ fs) f n m h e level count w k i kr =
      let o = known_alike f n m h in
      let s = sizes.actual_same a g.is f (map known_of n) (map known_of m) o (cc e) in
      let t = sizes.back_same a g.is f (map known_of n) (map known_of m) o (cc e) in
      let x = back_same a g.is f n m h (cc e) level count w k i kr in
      let y =
      backs_same rest fs f n m h (cc e) level count w (k + back_of_size (map known_of n) a g.is) (i + 1) (kr + actual_size (map known_of n) a g.is)
      ∙ ap (λ (j : ℕ). code_backs (of m level count) w (k + j) (i + 1) (kr + actual_size (map known_of n) a g.is) rest fs) t
      ∙ ap (λ (j : ℕ). code_backs (of m level count) w (k + back_of_size (map known_of m) a g.is) (i + 1) (kr + j) rest fs) s in
      let r = joined x y in
      r

  back_same : (a : Actual) (t : FormalType) (f : Place → Phrase) (n m : List Stand) → StandAlike f n m → with_actual f a ≡ a → (level count : ℕ) (w : Place) (k i kr : ℕ) → code_back (of n level count) w k i kr a t ≡ code_back (of m level count) w k i kr a t
  back_same (Given v g first a) t f n m h e level count w k i kr = back_code_same t n m level count w k i kr g (λ d u l. code d w u l a) (λ l c u j. code_same a f n m h (cc e) l c w u j)
  back_same (Alone p a) t f n m h e level count w k i kr = refl
  back_same (Subarray a given) t f n m h e level count w k i kr = refl

  texts_same : (given : Actuals) (f : Place → Phrase) (n m : List Stand) → StandAlike f n m → with_actuals f given ≡ given → (level count : ℕ) (w : Place) (k : ℕ) → code_texts (of n level count) w k given ≡ code_texts (of m level count) w k given
  texts_same no_actuals f n m h e level count w k = refl
  texts_same (actual_and a rest) f n m h e level count w k =
      let s = sizes.text_same a f (map known_of n) (map known_of m) (known_alike f n m h) (cc e) in
      let x = text_same a f n m h (cc e) level count w k in
      let y = texts_same rest f n m h (cc e) level count w (k + text_of_size (map known_of n) a) ∙ ap (λ (i : ℕ). code_texts (of m level count) w (k + i) rest) s in
      let r = joined x y in
      r

  text_same : (a : Actual) (f : Place → Phrase) (n m : List Stand) → StandAlike f n m → with_actual f a ≡ a → (level count : ℕ) (w : Place) (k : ℕ) → code_text (of n level count) w k a ≡ code_text (of m level count) w k a
  text_same (Given v g first a) f n m h e level count w k =
      let s = size_same a f (map known_of n) (map known_of m) (known_alike f n m h) (cc e) in
      let x = code_same a f n m h (cc e) (level + 1) 1 w as_asked (k + 1) in
      ap (λ (i : ℕ). text_code w k first (as_phrase v g) i (code (of n (level + 1) 1) w as_asked (k + 1) a)) s ∙ ap (text_code w k first (as_phrase v g) (size (map known_of m) a)) x
  text_same (Alone p a) f n m h e level count w k =
      let s = ap bare_call_size (head_same a f (map known_of n) (map known_of m) (known_alike f n m h) (cc e)) in
      let o = stand_same a f n m h (cc e) level count in
      let r = ap (reading_of_name (of n level count)) o ∙ name_read_same n m level count (stand_of (of m level count) a) in
      let b = ap (bare_call (of n (level + 1) 1) w p (k + 1)) o ∙ bare_call_same n m (level + 1) 1 w p (k + 1) (stand_of (of m level count) a) in
      texts_joined w k p r s b
  text_same (Subarray a given) f n m h e level count w k =
      let s = ap (λ (i : ℕ). i + 1) (sizes.subscripts_same given f (map known_of n) (map known_of m) (known_alike f n m h) (cc e)) in
      let o = stand_same a f n m h (cc e) level count in
      let r = ap (reading_of_subarray (of n level count) (free_of given)) o ∙ subarray_read_same n m level count (free_of given) (stand_of (of m level count) a) in
      let x = subscripts_same given f n m h (cc e) (level + 1) 1 w (k + 1) in
      let b = ap (subarray_code (of n (level + 1) 1) w (stars_of given)) o ∙ subarray_same n m (level + 1) 1 w (stars_of given) (stand_of (of m level count) a) in
      let both = joined x b in
      texts_joined w k w r s both

-- ---- names that are avoided

-- two contexts in which what stands elsewhere is the same
pub record SameBut (places : List Place) (c d : Context) : Type 0 where
  pub names : (x : Place) → has places x ≡ false → stand_at c.names x ≡ stand_at d.names x
  pub level : c.level ≡ d.level
  pub count : c.count ≡ d.count

pub code_avoids : (places : List Place) (c d : Context) → SameBut places c d → (a : Phrase) → Avoids places a → (w : Place) (u : Mode) (k : ℕ) → code c w u k a ≡ code d w u k a
code_avoids places c d h a v w u k =
    let same = code_same a (emptied places) c.names d.names (record { by = λ x e. h.names x (is_elsewhere places x e) }) (v Empty) c.level c.count w u k in
    same ∙ ap (λ l. code (of d.names l c.count) w u k a) h.level ∙ ap (λ t. code (of d.names d.level t) w u k a) h.count
