-- A name with the lists behind it, by what it stands for.
use Rattle.std.proofs.Common.{◌≡◌, ℕ, ◌+◌, ◌<◌, List, [], ◌∷◌, ◌++◌, length, Option, Some, None, ◌⊎◌, inl, inr, refl, sym, ap, ◌∙◌, subst, arith}
use Rattle.std.specs.Option.{option_map}
use Rattle.value_ops.specs.declared.places.Place.{Place}
use Rattle.value_ops.specs.declared.values.SimpleType.{SimpleType}
use Rattle.value_ops.specs.declared.values.SimpleType.TheVariants as simple
use Rattle.algolw_tree.specs.declared.programs.Node.{Node}
use Rattle.algolw_tree.specs.declared.programs.TypedActual.{TypedActual, Star, Phrase'}
use Rattle.algolw_tree.specs.declared.programs.TypedList.{TypedList}
use Rattle.algolw_typing.specs.Known.{KnowsLists}
use Rattle.algolw_typing.specs.Typed as typed
use Rattle.algolw_typing.specs.ProgramView.{Numbers, numbered}
use Rattle.program_meaning.specs.Phrases as phrases
use Rattle.program_meaning.specs.Phrases.{Phrase}
use Rattle.program_meaning.specs.Translating as translating
use Rattle.program_meaning.specs.Translating.{first_of, given_of, name_at, named_of, number_of, parts_of, targets_of}
use Rattle.program_soundness.specs.Tables.{actuals_infos, lists_infos}
use Rattle.phrase_code.specs.Coding as coding
use Rattle.phrase_code.specs.Coding.{◌▸◌, Stand, element_code, named_code, one, stand_at}
use Rattle.compilable_programs.specs.Begun.{ListsBegun}
use Rattle.compilable_programs.specs.Suits.{Suits}
use Rattle.stack_code.specs.CodeView.{kind_view, kinds_view, mode_view}
use Rattle.stack_code.specs.declared.instructions.Mode.{Mode}
use Rattle.symbol_table.specs.declared.here.Here.{Here}
use Rattle.symbol_table.specs.declared.standings.Entry.{Entry}
use Rattle.symbol_table.specs.declared.standings.Standing.{Standing}
use Rattle.symbol_table.specs.declared.standings.Standing.TheVariants as standing
use Rattle.symbol_table.specs.Contexts.{AreFresh, Scene, SceneFits, coding_context, declared_for, numbers_in, phrase_context, place_of, stand_for}
use Rattle.symbol_table.specs.Parts.{actuals_in, lists_in}
use Rattle.symbol_table.specs.Standings.{standing_of}
use Rattle.symbol_table.proofs.Found.{name_declared, name_stands_for, stand_by_is}
use Rattle.symbol_table.proofs.Fresh.{fresh_left, fresh_right}
use Rattle.symbol_table.proofs.Knowing.{name_known}
use Rattle.code_emitter.specs.declared.emitter.Emitter.{Emitter}
use Rattle.code_emitter.specs.Appending.{with_name}
use Rattle.code_emitter.specs.Parts.{CodesPhrase, EmitterFits, phrase_in, place_in, scene}
use Rattle.code_emitter.proofs.Joining.{codes_as, codes_is}
use Rattle.code_emitter.proofs.Singles.{name_codes}
use Rattle.stack_codegen.specs.Codable.{CodesNode, IsCodable, IsCodableActuals, IsCodableLists, sizes_known}
use Rattle.stack_codegen.specs.Listed.{AreParted, ContinuesParts, PartsSuit, phrase_count}
use Rattle.stack_codegen.specs.Names.{AloneFits, alone_instr, is_applied, list_plan, named_node, standard_plan, with_alone}
use Rattle.stack_codegen.specs.Names as names
use Rattle.stack_codegen.proofs.Ready.{ready_after}
use Rattle.stack_codegen.proofs.StringParts.{parts_after}

-- ---- lengths of strings

pub length_same : (s : Scene) (t : SimpleType) → translating.length_of (kind_view s.given t) ≡ names.length_of t
length_same s simple.Integer = refl
length_same s simple.Logical = refl
length_same s simple.Bits = refl
length_same s (simple.Str n) = refl
length_same s (simple.Reference set) = refl

pub length_given_same : (s : Scene) (t : Option SimpleType) → translating.length_given (kinds_view s.given t) ≡ names.length_given t
length_given_same s None = refl
length_given_same s (Some t) = length_same s t

-- how many phrases a list has
pub count_same : (s : Scene) (actuals : List TypedActual) → coding.phrase_count (given_of (phrase_context s) (actuals_in (numbers_in s) actuals)) ≡ phrase_count actuals
count_same s [] = refl
count_same s (Star q ∷ rest) = count_same s rest ∙ (let e : phrase_count rest ≡ 0 + phrase_count rest = omega arith in e)
count_same s (Phrase' p f k g st ∷ rest) = let e = count_same s rest in omega (arith, e)

-- ---- the phrase of a name

-- where it stands, and its statement
abbrev pub at : Scene → ℕ → Place
at s name = numbered (numbers_in s).names name

abbrev pub statement : Scene → Node → Option Place
statement s node = option_map (numbered s.given.statements) node.statement

-- a name with lists, by what it stands for
abbrev pub named_as : Scene → Node → ℕ → Standing → typed.Lists → Phrase
named_as s node name x lists = named_of (phrase_context s) node.place node.first (statement s node) (at s name) (declared_for s x) lists

pub named_phrase : (s : Scene) (node : Node) (name : ℕ) (x : Standing) (lists : List TypedList) → SceneFits s → name < length s.given.names → standing_of s.symbols.names name ≡ x → phrase_in s (named_node node name lists s) ≡ named_as s node name x (lists_in (numbers_in s) lists)
named_phrase s node name x lists fits known is = ap (λ d. named_of (phrase_context s) node.place node.first (statement s node) (at s name) d (lists_in (numbers_in s) lists)) (name_declared s name fits known ∙ ap (declared_for s) is)

-- ---- what is known of the lists

pub name_in_table : (e : Emitter) (node : Node) (name : ℕ) (lists : List TypedList) → IsCodable e (named_node node name lists) → name < length e.code.given.names
name_in_table e node name lists r = name_known (scene e) r.fits.scene name r.knows.1.0

-- its lists suit the name
abbrev pub NamedSuit : Node → ℕ → Standing → Scene → typed.Lists → Type 0
NamedSuit node name x s lists = Suits (sizes_known s) (named_as s node name x lists)

pub lists_ready : (e : Emitter) (node : Node) (name : ℕ) (x : Standing) (lists : List TypedList) → standing_of e.symbols.names name ≡ x → IsCodable e (named_node node name lists) → IsCodableLists e lists (NamedSuit node name x)
lists_ready e node name x lists is r =
    record {
      fits = r.fits;
      fresh = r.fresh;
      knows = r.knows.1.1;
      begun = r.begun.1;
      suits = subst (Suits (sizes_known (scene e))) (named_phrase (scene e) node name x lists r.fits.scene (name_in_table e node name lists r) is) r.suits;
    }

-- what is known of lists in two parts
module _ (e : Emitter) (lists : List TypedList) (actuals : List TypedActual) (rest : List TypedList) (parted : AreParted lists actuals rest) where
  abbrev ns : Numbers
  ns = numbers_in (scene e)

  abbrev split : typed.Lists
  split = typed.list_and (typed.OfActuals (parted ns).0 (actuals_in ns actuals)) (lists_in ns rest)

  pub split_is : lists_in ns lists ≡ split
  split_is = (parted ns).1

  module _ (F : Scene → typed.Lists → Type 0) (r : IsCodableLists e lists F) where
    split_fresh : AreFresh (scene e) (actuals_infos (actuals_in ns actuals) ++ lists_infos (lists_in ns rest))
    split_fresh = subst (λ (ls : typed.Lists). AreFresh (scene e) (lists_infos ls)) split_is r.fresh

    split_known : KnowsLists ns.names e.code.given.class_places split
    split_known = subst (λ (ls : typed.Lists). KnowsLists ns.names e.code.given.class_places ls) split_is r.knows

    split_begun : ListsBegun e.code.given.class_places split
    split_begun = subst (λ (ls : typed.Lists). ListsBegun e.code.given.class_places ls) split_is r.begun

    pub split_suits : F (scene e) split
    split_suits = subst (F (scene e)) split_is r.suits

    pub actuals_ready : (G : Scene → typed.Actuals → Type 0) → G (scene e) (actuals_in ns actuals) → IsCodableActuals e actuals G
    actuals_ready G g = record { fits = r.fits; fresh = fresh_left (scene e) (actuals_infos (actuals_in ns actuals)) (lists_infos (lists_in ns rest)) split_fresh; knows = split_known.0; begun = split_begun.0; suits = g }

    pub behind_ready : (H : Scene → typed.Lists → Type 0) → H (scene e) (lists_in ns rest) → IsCodableLists e rest H
    behind_ready H h = record { fits = r.fits; fresh = fresh_right (scene e) (actuals_infos (actuals_in ns actuals)) (lists_infos (lists_in ns rest)) split_fresh; knows = split_known.1; begun = split_begun.1; suits = h }

-- ---- a variable

-- a string variable with its parts
pub variable_named : (s : Scene) (node : Node) (name : ℕ) (t : SimpleType) (lists : typed.Lists) → named_of (phrase_context s) node.place node.first (statement s node) (at s name) (translating.a_variable (kind_view s.given t)) lists ≡ parts_of (phrase_context s) (names.length_of t) (phrases.Named (at s name)) lists
variable_named s node name t typed.no_lists = refl
variable_named s node name t (typed.list_and (typed.OfActuals q given) rest) = refl
variable_named s node name t (typed.list_and (typed.OfPart q start n) rest) = ap (λ m. parts_of (phrase_context s) m (phrases.Named (at s name)) (typed.list_and (typed.OfPart q start n) rest)) (length_same s t)

-- a name alone
pub alone_name : {a b : Emitter} (here : Here) (u : Mode) (name : ℕ) (x : Standing) → EmitterFits a → name < length a.code.given.names → standing_of a.symbols.names name ≡ x → b ≡ with_name a here u x → CodesPhrase a b here u (phrases.Named (at (scene a) name)) 0
alone_name {a} here u name x fits known is e =
    codes_as _ 0
    (λ ts h. ap (named_code (coding_context (scene a) ts here) (place_in (scene a) here) (mode_view u)) (stand_by_is (scene a) ts (place_of (scene a) name) x ∙ sym (name_stands_for (scene a) ts here name fits.scene known ∙ ap (stand_for (scene a) ts (place_of (scene a) name)) is))) refl
    (codes_is e (name_codes a here fits.code u (place_of (scene a) name) x))

pub variable_ready : {a b : Emitter} (here : Here) (u : Mode) (node : Node) (name : ℕ) (t : SimpleType) (x : Standing) (lists : List TypedList) → standing_of a.symbols.names name ≡ x → declared_for (scene a) x ≡ translating.a_variable (kind_view a.code.given t) → IsCodable a (named_node node name lists) → b ≡ with_name a here u x → IsCodableLists b lists (PartsSuit (Some (names.length_of t)))
variable_ready {a} {b} here u node name t x lists is variable r e =
    let s : Scene = scene a in
    let ls : typed.Lists = lists_in (numbers_in s) lists in
    let ready = lists_ready a node name x lists is r in
    let coded = alone_name here u name x r.fits (name_in_table a node name lists r) is e in
    let whole : named_as s node name x ls ≡ parts_of (phrase_context s) (names.length_of t) (phrases.Named (at s name)) ls = ap (λ d. named_of (phrase_context s) node.place node.first (statement s node) (at s name) d ls) variable ∙ variable_named s node name t ls in
    let suits : PartsSuit (Some (names.length_of t)) s ls = parts_after (sizes_known s) (phrase_context s) (names.length_of t) (phrases.Named (at s name)) ls (subst (Suits (sizes_known s)) whole ready.suits) in
    ready_after coded.stays (record { fits = ready.fits; fresh = ready.fresh; knows = ready.knows; begun = ready.begun; suits = suits })

pub variable_done : {a b d : Emitter} {m k : ℕ} (here : Here) (u : Mode) (node : Node) (name : ℕ) (t : SimpleType) (x : Standing) (lists : List TypedList) → standing_of a.symbols.names name ≡ x → declared_for (scene a) x ≡ translating.a_variable (kind_view a.code.given t) → IsCodable a (named_node node name lists) → b ≡ with_name a here u x → m ≡ 0 → ContinuesParts b d here (Some (names.length_of t)) lists m k → CodesNode a d here u (named_node node name lists) k
variable_done {a} {b} {d} {m} {k} here u node name t x lists is variable r e none more =
    let s : Scene = scene a in
    let known = name_in_table a node name lists r in
    let coded = alone_name here u name x r.fits known is e in
    let first : CodesPhrase a b here u (phrases.Named (at s name)) m = subst (λ n. CodesPhrase a b here u (phrases.Named (at s name)) n) (sym none) coded in
    let all : CodesPhrase a d here u (parts_of (phrase_context s) (names.length_of t) (phrases.Named (at s name)) (lists_in (numbers_in s) lists)) k =
    subst (λ (y : Scene). CodesPhrase a d here u (parts_of (phrase_context y) (names.length_of t) (phrases.Named (at s name)) (lists_in (numbers_in y) lists)) k) coded.stays.scene (more u a (phrases.Named (at s name)) first) in
    subst (λ y. CodesPhrase a d here u y k)
    (sym (named_phrase s node name x lists r.fits.scene known is ∙ ap (λ d. named_of (phrase_context s) node.place node.first (statement s node) (at s name) d (lists_in (numbers_in s) lists)) variable ∙ variable_named s node name t (lists_in (numbers_in s) lists))) all

-- a variable, or a formal by name, of a type
abbrev pub IsVariable : Standing → SimpleType → Type 0
IsVariable x t = ((e : Entry) × (x ≡ standing.Variable t e)) ⊎ ((e : Entry) × (x ≡ standing.NameFormal t e))

variable_declared : (s : Scene) (x : Standing) (t : SimpleType) → IsVariable x t → declared_for s x ≡ translating.a_variable (kind_view s.given t)
variable_declared s x t (inl h) = ap (declared_for s) h.1
variable_declared s x t (inr h) = ap (declared_for s) h.1

pub variable_goes_on : {a b : Emitter} (here : Here) (u : Mode) (node : Node) (name : ℕ) (t : SimpleType) (x : Standing) (lists : List TypedList) (n : ℕ) → x ≡ standing_of a.symbols.names name → IsVariable x t → IsCodable a (named_node node name lists) → b ≡ with_name a here u x → n ≡ names.length_of t → IsCodableLists b lists (PartsSuit (Some n))
variable_goes_on {a} {b} here u node name t x lists n told is r e long =
    subst (λ k. IsCodableLists b lists (PartsSuit (Some k))) (sym long) (variable_ready here u node name t x lists (sym told) (variable_declared (scene a) x t is) r e)

pub variable_told : {a b d : Emitter} {m k : ℕ} (here : Here) (u : Mode) (node : Node) (name : ℕ) (t : SimpleType) (x : Standing) (lists : List TypedList) (n : ℕ) → x ≡ standing_of a.symbols.names name → IsVariable x t → IsCodable a (named_node node name lists) → b ≡ with_name a here u x → n ≡ names.length_of t → m ≡ 0 → ContinuesParts b d here (Some n) lists m k → CodesNode a d here u (named_node node name lists) k
variable_told {a} {b} {d} {m} {k} here u node name t x lists n told is r e long none more =
    variable_done here u node name t x lists (sym told) (variable_declared (scene a) x t is) r e none (subst (λ j. ContinuesParts b d here (Some j) lists m k) long more)
