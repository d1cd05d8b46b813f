-- The parts of a string, list by list.
use Rattle.std.proofs.Common.{◌≡◌, ℕ, ◌+◌, ◌<◌, ◌≤◌, max, ℤ, List, ◌∷◌, ◌++◌, drop, length, Option, Some, None, refl, sym, ap, ◌∙◌, subst}
use Rattle.std.specs.Prelude.{slice_index_or}
use Rattle.std.proofs.lemmas.List.{drop_all}
use Rattle.std.specs.declared.alloc.Global.{Global}
use Rattle.std.specs.declared.boxed.Box.{Box}
use Rattle.std.specs.declared.vec.Vec.{Vec}
use Rattle.value_ops.specs.declared.places.Place.{Place}
use Rattle.algolw_tree.specs.declared.programs.TypedActual.{TypedActual}
use Rattle.algolw_tree.specs.declared.programs.TypedListKind.{Actuals, Part}
use Rattle.algolw_tree.specs.declared.programs.Node.{Node}
use Rattle.algolw_tree.specs.declared.programs.TypedList.{TypedList}
use Rattle.algolw_typing.specs.Known.{KnowsLists}
use Rattle.algolw_typing.specs.Typed as typed
use Rattle.algolw_typing.specs.ProgramView.{Numbers, listing_view, node_view}
use Rattle.program_meaning.specs.Phrases as phrases
use Rattle.program_meaning.specs.Phrases.{Phrase}
use Rattle.program_meaning.specs.Translating as translating
use Rattle.program_meaning.specs.Translating.{parts_of, phrase_of, written}
use Rattle.program_soundness.specs.Tables.{infos, lists_infos}
use Rattle.phrase_code.specs.Sizes.{Known}
use Rattle.compilable_programs.specs.Begun.{ListsBegun}
use Rattle.compilable_programs.specs.Suits.{Suits}
use Rattle.stack_code.specs.declared.instructions.Instr.TheVariants as held
use Rattle.stack_code.specs.declared.instructions.Mode.{Mode}
use Rattle.symbol_table.specs.declared.here.Here.{Here}
use Rattle.symbol_table.specs.Contexts.{AreFresh, Scene, numbers_in, phrase_context}
use Rattle.symbol_table.specs.Parts as in_tree
use Rattle.symbol_table.specs.Parts.{lists_in}
use Rattle.symbol_table.proofs.Declaring.{next_out}
use Rattle.symbol_table.proofs.Fresh.{fresh_left, fresh_right}
use Rattle.code_emitter.specs.declared.emitter.Emitter.{Emitter}
use Rattle.code_emitter.specs.Appending.{appended}
use Rattle.code_emitter.specs.Parts.{CodesPhrase, none_own, phrase_in, scene, Stays}
use Rattle.code_emitter.proofs.Composing.{stays_appended, stays_then}
use Rattle.code_emitter.proofs.Lines.{pair_codes}
use Rattle.stack_codegen.specs.Codable.{IsCodable, IsCodableLists, node_in, sizes_known}
use Rattle.stack_codegen.specs.Listed.{AreParted, ContinuesParts, PartsSuit}
use Rattle.stack_codegen.specs.Operations.{CodesBefore, Continues}
use Rattle.stack_codegen.proofs.NodeRows.{actuals_in}
use Rattle.stack_codegen.proofs.Ready.{ready_after}

-- ---- what suits

-- where a string with its parts suits, it does, and any other that does may have these parts
pub parts_suit : (known : List Known) (c : translating.Context) (m : ℕ) (a : Phrase) (lists : typed.Lists) → Suits known (parts_of c m a lists) → Suits known a × ((b : Phrase) → Suits known b → Suits known (parts_of c m b lists))
parts_suit known c m a typed.no_lists s = (s, λ b t. t)
parts_suit known c m a (typed.list_and (typed.OfActuals q given) rest) s = (s, λ b t. t)
parts_suit known c m a (typed.list_and (typed.OfPart q start n) rest) s =
    let ih = parts_suit known c (written n) (phrases.Part m (written n) a (phrase_of c start)) rest s in
    (ih.0.0, λ b t. ih.1 (phrases.Part m (written n) b (phrase_of c start)) (t, ih.0.1))

-- the same, of a string that stands for itself
pub parts_after : (known : List Known) (c : translating.Context) (m : ℕ) (a : Phrase) (lists : typed.Lists) → Suits known (parts_of c m a lists) → Suits known (parts_of c m phrases.Empty lists)
parts_after known c m a lists s = (parts_suit known c m a lists s).1 phrases.Empty tt

-- ---- what is known of a part

-- a list is a part of a string: it begins there, and is so long
abbrev pub IsPart : TypedList → Node → ℤ → Type 0
IsPart l start n = (ns : Numbers) → listing_view ns l.place l.kind ≡ typed.OfPart l.place (node_view ns start) n

-- or it is none
abbrev pub IsNoPart : TypedList → Type 0
IsNoPart l = (ns : Numbers) → (q : Place) × (given : typed.Actuals) × (listing_view ns l.place l.kind ≡ typed.OfActuals q given)

pub is_part : (l : TypedList) (b : Box Node Global) (n : ℤ) (x : Node) → l.kind ≡ Part b n → x ≡ b.value → IsPart l x n
is_part l b n x is same ns = ap (listing_view ns l.place) is ∙ ap (λ y. typed.OfPart l.place (node_view ns y) n) (sym same)

pub is_no_part : (l : TypedList) (v : Vec TypedActual Global) → l.kind ≡ Actuals v → IsNoPart l
is_no_part l v is ns = (l.place, in_tree.actuals_in ns v.items, ap (listing_view ns l.place) is ∙ actuals_in ns l.place v)

-- lists that begin with phrases
pub parted_by : (lists : List TypedList) (l : TypedList) (v : Vec TypedActual Global) (actuals : List TypedActual) (rest : List TypedList) → lists ≡ l ∷ rest → l.kind ≡ Actuals v → actuals ≡ v.items → AreParted lists actuals rest
parted_by lists l v actuals rest front is there ns = (l.place, ap (lists_in ns) front ∙ ap (λ x. typed.list_and x (lists_in ns rest)) (ap (listing_view ns l.place) is ∙ actuals_in ns l.place v ∙ ap (λ xs. typed.OfActuals l.place (in_tree.actuals_in ns xs)) (sym there)))

-- lists that begin with a part
abbrev part_and : Emitter → TypedList → Node → ℤ → List TypedList → typed.Lists
part_and e l start n rest = typed.list_and (typed.OfPart l.place (node_in start (scene e)) n) (lists_in (numbers_in (scene e)) rest)

part_in : (e : Emitter) (l : TypedList) (start : Node) (n : ℤ) (rest : List TypedList) → IsPart l start n → lists_in (numbers_in (scene e)) (l ∷ rest) ≡ part_and e l start n rest
part_in e l start n rest is = ap (λ x. typed.list_and x (lists_in (numbers_in (scene e)) rest)) (is (numbers_in (scene e)))

module _ (e : Emitter) (m : ℕ) (l : TypedList) (start : Node) (n : ℤ) (rest : List TypedList) (is : IsPart l start n) (r : IsCodableLists e (l ∷ rest) (PartsSuit (Some m))) where
  abbrev both : typed.Lists
  both = part_and e l start n rest

  both_fresh : AreFresh (scene e) (infos (node_in start (scene e)) ++ lists_infos (lists_in (numbers_in (scene e)) rest))
  both_fresh = subst (λ (ls : typed.Lists). AreFresh (scene e) (lists_infos ls)) (part_in e l start n rest is) r.fresh

  both_known : KnowsLists (numbers_in (scene e)).names e.code.given.class_places both
  both_known = subst (λ (ls : typed.Lists). KnowsLists (numbers_in (scene e)).names e.code.given.class_places ls) (part_in e l start n rest is) r.knows

  both_begun : ListsBegun e.code.given.class_places both
  both_begun = subst (λ (ls : typed.Lists). ListsBegun e.code.given.class_places ls) (part_in e l start n rest is) r.begun

  both_suit : Suits (sizes_known (scene e)) (parts_of (phrase_context (scene e)) m phrases.Empty both)
  both_suit = subst (λ (ls : typed.Lists). Suits (sizes_known (scene e)) (parts_of (phrase_context (scene e)) m phrases.Empty ls)) (part_in e l start n rest is) r.suits

  abbrev there : Phrase
  there = phrase_in (scene e) (node_in start (scene e))

  start_suits : Suits (sizes_known (scene e)) there × Suits (sizes_known (scene e)) (parts_of (phrase_context (scene e)) (written n) phrases.Empty (lists_in (numbers_in (scene e)) rest))
  start_suits =
      let s = parts_suit (sizes_known (scene e)) (phrase_context (scene e)) (written n) (phrases.Part m (written n) phrases.Empty there) (lists_in (numbers_in (scene e)) rest) both_suit in
      (s.0.1, s.1 phrases.Empty tt)

  pub start_ready : IsCodable e (node_in start)
  start_ready = record { fits = r.fits; fresh = fresh_left (scene e) (infos (node_in start (scene e))) (lists_infos (lists_in (numbers_in (scene e)) rest)) both_fresh; knows = both_known.0; begun = both_begun.0; suits = start_suits.0 }

  pub rest_ready : IsCodableLists e rest (PartsSuit (Some (written n)))
  rest_ready = record { fits = r.fits; fresh = fresh_right (scene e) (infos (node_in start (scene e))) (lists_infos (lists_in (numbers_in (scene e)) rest)) both_fresh; knows = both_known.1; begun = both_begun.1; suits = start_suits.1 }

-- ---- list by list

-- a string of n characters is coded with its parts by now, and so many lists are left
pub record StringLeft (old now : Emitter) (here : Here) (n : ℕ) (whole : Phrase → Phrase) (left : List TypedList) (before m : ℕ) : Type 0 where
  pub ready : IsCodableLists now left (PartsSuit (Some n))
  pub there : scene now ≡ scene old
  pub parts : Phrase → Phrase
  pub continues : (u : Mode) → Continues old now here u parts before m
  pub same : (a : Phrase) → parts_of (phrase_context (scene old)) n (parts a) (lists_in (numbers_in (scene old)) left) ≡ whole a

-- a string with all its parts
abbrev pub whole_string : Emitter → ℕ → List TypedList → Phrase → Phrase
whole_string e n lists a = parts_of (phrase_context (scene e)) n a (lists_in (numbers_in (scene e)) lists)

pub string_begun : (e : Emitter) (here : Here) (n : ℕ) (lists : List TypedList) (m : ℕ) → IsCodableLists e lists (PartsSuit (Some n)) → StringLeft e e here n (whole_string e n lists) (drop 0 lists) m m
string_begun e here n lists m r = record { ready = r; there = refl; parts = λ a. a; continues = λ u first a part. part; same = λ a. refl }

module _ (lists : List TypedList) (i : ℕ) (l : TypedList) (inside : i < length lists) (is : l ≡ slice_index_or lists i l) where
  front : drop i lists ≡ l ∷ drop (i + 1) lists
  front = next_out lists i l inside is

  front_ready : (e : Emitter) (n : ℕ) → IsCodableLists e (drop i lists) (PartsSuit (Some n)) → IsCodableLists e (l ∷ drop (i + 1) lists) (PartsSuit (Some n))
  front_ready e n r = subst (λ (ls : List TypedList). IsCodableLists e ls (PartsSuit (Some n))) front r

pub part_begins : {old now b : Emitter} {before m : ℕ} (here : Here) (n : ℕ) (whole : Phrase → Phrase) (lists : List TypedList) (i : ℕ) (l : TypedList) → i < length lists → l ≡ slice_index_or lists i l → (x : Node) (k : ℤ) → IsPart l x k → StringLeft old now here n whole (drop i lists) before m → b ≡ appended now here held.Push → IsCodable b (node_in x)
part_begins {old} {now} {b} here n whole lists i l inside is x k part r e =
    let first : IsCodable now (node_in x) = start_ready now n l x k (drop (i + 1) lists) part (front_ready lists i l inside is now n r.ready) in
    let pushed : Stays none_own now (appended now here held.Push) = stays_appended none_own now here held.Push r.ready.fits.code tt in
    ready_after (subst (λ (c : Emitter). Stays none_own now c) (sym e) pushed) first

pub string_more : {old now b after : Emitter} {before m o : ℕ} (here : Here) (n count : ℕ) (whole : Phrase → Phrase) (lists : List TypedList) (i : ℕ) (l : TypedList) → i < length lists → l ≡ slice_index_or lists i l → (x : Node) (k : ℤ) → IsPart l x k → written k ≡ count → StringLeft old now here n whole (drop i lists) before m → b ≡ appended now here held.Push → CodesBefore b after here (phrase_in (scene b) (node_in x (scene b))) (held.Part n count) o → (p : ℕ) → p ≡ max m o → StringLeft old after here count whole (drop (i + 1) lists) before p
string_more {old} {now} {b} {after} {before} {m} {o} here n count whole lists i l inside is x k part long r e second p most =
    let pushed : Stays none_own now b = subst (λ (c : Emitter). Stays none_own now c) (sym e) (stays_appended none_own now here held.Push r.ready.fits.code tt) in
    let stays : Stays none_own now after = stays_then pushed second.stays in
    let start : Scene → Phrase = λ s. phrase_in s (node_in x s) in
    let rest : IsCodableLists now (drop (i + 1) lists) (PartsSuit (Some (written k))) = rest_ready now n l x k (drop (i + 1) lists) part (front_ready lists i l inside is now n r.ready) in
    subst (λ q. StringLeft old after here count whole (drop (i + 1) lists) before q) (sym most) (record {
      ready = subst (λ j. IsCodableLists after (drop (i + 1) lists) (PartsSuit (Some j))) long (ready_after stays rest);
      there = stays.scene ∙ r.there;
      parts = λ a. phrases.Part n count (r.parts a) (start (scene old));
      continues = λ u first a coded.
          let from : scene b ≡ scene first = ap scene e ∙ r.there ∙ coded.stays.scene in
          let moved : CodesBefore b after here (start (scene first)) (held.Part n count) o = subst (λ (s : Scene). CodesBefore b after here (start s) (held.Part n count) o) from second in
          let whole_part : CodesPhrase first after here u (phrases.Part n count (r.parts a) (start (scene first))) (max m o) = pair_codes here u (r.parts a) (start (scene first)) (held.Part n count) (r.continues u first a coded) e moved in
          subst (λ (s : Scene). CodesPhrase first after here u (phrases.Part n count (r.parts a) (start s)) (max m o)) (sym coded.stays.scene) whole_part;
      same = λ a.
          ap (λ j. parts_of (phrase_context (scene old)) j (phrases.Part n j (r.parts a) (start (scene old))) (lists_in (numbers_in (scene old)) (drop (i + 1) lists))) (sym long)
          ∙ sym (ap (parts_of (phrase_context (scene old)) n (r.parts a)) (ap (lists_in (numbers_in (scene old))) (front lists i l inside is) ∙ part_in old l x k (drop (i + 1) lists) part))
          ∙ r.same a;
    })

-- a list that is no part ends them
pub string_stopped : {old now : Emitter} {before m : ℕ} (here : Here) (n : ℕ) (whole : Phrase → Phrase) (lists : List TypedList) (i : ℕ) (l : TypedList) → i < length lists → l ≡ slice_index_or lists i l → IsNoPart l → StringLeft old now here n whole (drop i lists) before m → (u : Mode) → Continues old now here u whole before m
string_stopped {old} {now} {before} {m} here n whole lists i l inside is none r u first a coded =
    let ns : Numbers = numbers_in (scene old) in
    let h = none ns in
    let all : r.parts a ≡ whole a =
    sym (ap (parts_of (phrase_context (scene old)) n (r.parts a)) (ap (lists_in ns) (front lists i l inside is) ∙ ap (λ y. typed.list_and y (lists_in ns (drop (i + 1) lists))) h.2)) ∙ r.same a in
    subst (λ p. CodesPhrase first now here u p m) all (r.continues u first a coded)

pub string_done : {old now : Emitter} {before m : ℕ} (here : Here) (n : ℕ) (whole : Phrase → Phrase) (lists : List TypedList) (i : ℕ) → length lists ≤ i → StringLeft old now here n whole (drop i lists) before m → (u : Mode) → Continues old now here u whole before m
string_done {old} {now} {before} {m} here n whole lists i l r u first a coded =
    let all : r.parts a ≡ whole a = sym (ap (λ ls. parts_of (phrase_context (scene old)) n (r.parts a) (lists_in (numbers_in (scene old)) ls)) (drop_all i lists l)) ∙ r.same a in
    subst (λ p. CodesPhrase first now here u p m) all (r.continues u first a coded)

-- ---- the parts of what is given

pub given_parts : {old new : Emitter} (here : Here) (whole : Option ℕ) (n : ℕ) (lists : List TypedList) (before after : ℕ) → whole ≡ Some n → ContinuesParts old new here (Some n) lists before after → ContinuesParts old new here whole lists before after
given_parts {old} {new} here whole n lists before after is c = subst (λ o. ContinuesParts old new here o lists before after) (sym is) c

pub no_parts : (e : Emitter) (here : Here) (whole : Option ℕ) (lists : List TypedList) (m : ℕ) → whole ≡ None → ContinuesParts e e here whole lists m m
no_parts e here whole lists m is = subst (λ o. ContinuesParts e e here o lists m m) (sym is) (λ u first a part. part)
