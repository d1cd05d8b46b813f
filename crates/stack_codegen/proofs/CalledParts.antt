-- A name that is called, with the lists behind it.
use Rattle.std.proofs.Common.{◌≡◌, ℕ, ◌+◌, ◌<◌, Bool, true, false, List, [], length, Option, Some, None, inl, inr, refl, sym, ap, ◌∙◌, subst}
use Rattle.std.specs.Option.{option_map}
use Rattle.value_ops.specs.declared.places.Place.{Place}
use Rattle.value_ops.specs.declared.values.SimpleType.{SimpleType}
use Rattle.algolw_tree.specs.declared.programs.Node.{Node}
use Rattle.algolw_tree.specs.declared.programs.TypedActual.{TypedActual}
use Rattle.algolw_tree.specs.declared.programs.TypedList.{TypedList}
use Rattle.algolw_typing.specs.Typed as typed
use Rattle.algolw_typing.specs.Types.{ValueType}
use Rattle.program_meaning.specs.Phrases as phrases
use Rattle.program_meaning.specs.Phrases.{Phrase}
use Rattle.program_meaning.specs.Translating as translating
use Rattle.program_meaning.specs.Translating.{Declared, actuals_of, named_of, parts_of}
use Rattle.program_soundness.specs.Tables.{lists_infos}
use Rattle.phrase_code.specs.Coding.{◌▸◌, begin_code}
use Rattle.phrase_code.specs.Marks.{actuals_marks}
use Rattle.phrase_code.specs.Sizes.{begin_size}
use Rattle.compilable_programs.specs.Suits.{Suits}
use Rattle.stack_code.specs.Code as code
use Rattle.stack_code.specs.CodeView.{CodeFits, kinds_view, statement_view}
use Rattle.stack_code.specs.declared.instructions.Mode.{Mode}
use Rattle.symbol_table.specs.declared.here.Here.{Here}
use Rattle.symbol_table.specs.declared.standings.Standing.{Standing}
use Rattle.symbol_table.specs.Contexts.{Scene, declared_for, numbers_in, phrase_context}
use Rattle.symbol_table.specs.Heres.{in_statement}
use Rattle.symbol_table.specs.Parts.{actuals_in, lists_in}
use Rattle.symbol_table.specs.Standings.{standing_of}
use Rattle.symbol_table.proofs.Fresh.{fresh_left}
use Rattle.code_emitter.specs.declared.emitter.Emitter.{Emitter}
use Rattle.code_emitter.specs.Appending.{begun}
use Rattle.code_emitter.specs.Parts.{Codes, CodesPhrase, Stays, code_at, next, none_own, scene}
use Rattle.code_emitter.proofs.Joining.{codes_as, codes_begun}
use Rattle.code_emitter.proofs.Lines.{begun_codes}
use Rattle.stack_codegen.specs.Calls.{CallFits, IsCodableCall, actuals_given, called_code, name_phrase}
use Rattle.stack_codegen.specs.Codable.{CodesNode, IsCodable, IsCodableLists, sizes_known}
use Rattle.stack_codegen.specs.Listed.{AreCalled, ContinuesParts, PartsSuit, begins_with_phrases}
use Rattle.stack_codegen.specs.Names.{named_node}
use Rattle.stack_codegen.specs.Names as names
use Rattle.stack_codegen.proofs.Ready.{ready_after}
use Rattle.stack_codegen.proofs.StringParts.{parts_after, parts_suit}
use Rattle.stack_codegen.proofs.NamedParts.{NamedSuit, actuals_ready, at, behind_ready, length_given_same, lists_ready, name_in_table, named_as, named_phrase, statement}

-- ---- its phrase

-- a procedure, or a procedure formal, whose calls compare
abbrev pub declared_call : Bool → Option ValueType → Declared
declared_call false t = translating.a_procedure t
declared_call true t = translating.a_procedure_formal t

-- a call at a node
abbrev pub call_phrase : Scene → Node → ℕ → (compares : Bool) → List TypedActual → Phrase
call_phrase s node name compares actuals = phrases.Call (statement s node) compares node.place (name_phrase s name) (actuals_given s actuals)

-- where no list of phrases is in front it has no actuals
call_alone : (s : Scene) (node : Node) (name : ℕ) (compares : Bool) (t : Option SimpleType) (lists : typed.Lists) → begins_with_phrases lists ≡ false → named_of (phrase_context s) node.place node.first (statement s node) (at s name) (declared_call compares (kinds_view s.given t)) lists ≡ parts_of (phrase_context s) (translating.length_given (kinds_view s.given t)) (call_phrase s node name compares []) lists
call_alone s node name false t typed.no_lists h = refl
call_alone s node name true t typed.no_lists h = refl
call_alone s node name false t (typed.list_and (typed.OfPart q start n) rest) h = refl
call_alone s node name true t (typed.list_and (typed.OfPart q start n) rest) h = refl
call_alone s node name compares t (typed.list_and (typed.OfActuals q given) rest) h = absurd (cc h)

call_with : (s : Scene) (node : Node) (name : ℕ) (compares : Bool) (t : Option SimpleType) (q : Place) (actuals : List TypedActual) (rest : typed.Lists) → named_of (phrase_context s) node.place node.first (statement s node) (at s name) (declared_call compares (kinds_view s.given t)) (typed.list_and (typed.OfActuals q (actuals_in (numbers_in s) actuals)) rest) ≡ parts_of (phrase_context s) (translating.length_given (kinds_view s.given t)) (call_phrase s node name compares actuals) rest
call_with s node name false t q actuals rest = refl
call_with s node name true t q actuals rest = refl

pub called_named : (s : Scene) (node : Node) (name : ℕ) (x : Standing) (compares : Bool) (t : Option SimpleType) (lists : List TypedList) (actuals : List TypedActual) (rest : List TypedList) → declared_for s x ≡ declared_call compares (kinds_view s.given t) → AreCalled lists actuals rest → named_as s node name x (lists_in (numbers_in s) lists) ≡ parts_of (phrase_context s) (names.length_given t) (call_phrase s node name compares actuals) (lists_in (numbers_in s) rest)
called_named s node name x compares t lists actuals rest is called =
    ap (λ d. named_of (phrase_context s) node.place node.first (statement s node) (at s name) d (lists_in (numbers_in s) lists)) is
    ∙ by called
    ∙ ap (λ m. parts_of (phrase_context s) m (call_phrase s node name compares actuals) (lists_in (numbers_in s) rest)) (length_given_same s t)
  where
    by : AreCalled lists actuals rest → named_of (phrase_context s) node.place node.first (statement s node) (at s name) (declared_call compares (kinds_view s.given t)) (lists_in (numbers_in s) lists) ≡ parts_of (phrase_context s) (translating.length_given (kinds_view s.given t)) (call_phrase s node name compares actuals) (lists_in (numbers_in s) rest)
    by (inl parted) =
        ap (named_of (phrase_context s) node.place node.first (statement s node) (at s name) (declared_call compares (kinds_view s.given t))) (parted (numbers_in s)).1
        ∙ call_with s node name compares t (parted (numbers_in s)).0 actuals (lists_in (numbers_in s) rest)
    by (inr none) =
        call_alone s node name compares t (lists_in (numbers_in s) lists) (none.2 (numbers_in s))
        ∙ ap (λ ys. parts_of (phrase_context s) (translating.length_given (kinds_view s.given t)) (call_phrase s node name compares ys) (lists_in (numbers_in s) lists)) (sym none.0)
        ∙ ap (λ ls. parts_of (phrase_context s) (translating.length_given (kinds_view s.given t)) (call_phrase s node name compares actuals) (lists_in (numbers_in s) ls)) (sym none.1)

-- ---- what may be coded

module _ (e : Emitter) (node : Node) (name : ℕ) (x : Standing) (compares : Bool) (t : Option SimpleType) (lists : List TypedList) (actuals : List TypedActual) (rest : List TypedList) (is : standing_of e.symbols.names name ≡ x) (declared : declared_for (scene e) x ≡ declared_call compares (kinds_view e.code.given t)) (called : AreCalled lists actuals rest) (r : IsCodable e (named_node node name lists)) where
  call_lists : IsCodableLists e lists (NamedSuit node name x)
  call_lists = lists_ready e node name x lists is r

  call_suits : Suits (sizes_known (scene e)) (parts_of (phrase_context (scene e)) (names.length_given t) (call_phrase (scene e) node name compares actuals) (lists_in (numbers_in (scene e)) rest))
  call_suits = subst (Suits (sizes_known (scene e))) (called_named (scene e) node name x compares t lists actuals rest declared called) call_lists.suits

  call_fits : CallFits compares name (scene e) (actuals_in (numbers_in (scene e)) actuals)
  call_fits = (parts_suit (sizes_known (scene e)) (phrase_context (scene e)) (names.length_given t) (call_phrase (scene e) node name compares actuals) (lists_in (numbers_in (scene e)) rest) call_suits).0

  parts_fit : PartsSuit (Some (names.length_given t)) (scene e) (lists_in (numbers_in (scene e)) rest)
  parts_fit = parts_after (sizes_known (scene e)) (phrase_context (scene e)) (names.length_given t) (call_phrase (scene e) node name compares actuals) (lists_in (numbers_in (scene e)) rest) call_suits

  pub call_ready : IsCodableCall e compares name actuals
  call_ready = by called
    where
      by : AreCalled lists actuals rest → IsCodableCall e compares name actuals
      by (inl parted) = actuals_ready e lists actuals rest parted (NamedSuit node name x) call_lists (CallFits compares name) call_fits
      by (inr none) = subst (λ (ys : List TypedActual). IsCodableCall e compares name ys) (sym none.0) (record {
        fits = r.fits;
        fresh = fresh_left (scene e) [] (lists_infos (lists_in (numbers_in (scene e)) lists)) call_lists.fresh;
        knows = tt;
        begun = tt;
        suits = subst (λ (ys : List TypedActual). CallFits compares name (scene e) (actuals_in (numbers_in (scene e)) ys)) none.0 call_fits;
      })

  pub call_parts_ready : IsCodableLists e rest (PartsSuit (Some (names.length_given t)))
  call_parts_ready = by called
    where
      by : AreCalled lists actuals rest → IsCodableLists e rest (PartsSuit (Some (names.length_given t)))
      by (inl parted) = behind_ready e lists actuals rest parted (NamedSuit node name x) call_lists (PartsSuit (Some (names.length_given t))) parts_fit
      by (inr none) = subst (λ (ls : List TypedList). IsCodableLists e ls (PartsSuit (Some (names.length_given t)))) (sym none.1) (record {
        fits = r.fits;
        fresh = call_lists.fresh;
        knows = call_lists.knows;
        begun = call_lists.begun;
        suits = subst (λ (ls : List TypedList). PartsSuit (Some (names.length_given t)) (scene e) (lists_in (numbers_in (scene e)) ls)) none.1 parts_fit;
      })

-- ---- the code

-- behind the begin of its statement
pub statement_stays : {a b : Emitter} (here : Here) (st : Option ℕ) → CodeFits a.code → b ≡ begun a here st → Stays none_own a b
statement_stays {a} here st h e = subst (λ (b : Emitter). Stays none_own a b) (sym e) (codes_begun none_own a here st h).stays

-- a call from behind the begin of its statement
abbrev CallForm : Type 0
CallForm = Scene → ℕ → List ℕ → List code.Coded

abbrev call_form : Here → (compares : Bool) → Place → ℕ → List TypedActual → CallForm
call_form here compares site name actuals s k ts = called_code s here compares site k (name_phrase s name) (actuals_given s actuals) ts

-- it is told from the statement as from where the statement is
call_there : (s : Scene) (here : Here) (u : Mode) (k : ℕ) (st : Option ℕ) (compares : Bool) (site : Place) (name : ℕ) (actuals : List TypedActual) (ts : List ℕ) → begin_code (option_map (statement_view s.given) st) ▸ called_code s (in_statement here st) compares site (k + begin_size (option_map (statement_view s.given) st)) (name_phrase s name) (actuals_given s actuals) ts ≡ code_at s here u k (phrases.Call (option_map (statement_view s.given) st) compares site (name_phrase s name) (actuals_given s actuals)) ts
call_there s here u k None compares site name actuals ts = refl
call_there s here u k (Some n) compares site name actuals ts = refl

pub call_codes : {a b d : Emitter} {m : ℕ} (here : Here) (u : Mode) (st : Option ℕ) (compares : Bool) (site : Place) (name : ℕ) (actuals : List TypedActual) → CodeFits a.code → b ≡ begun a here st → Codes none_own b d (called_code (scene b) (in_statement here st) compares site (next b) (name_phrase (scene b) name) (actuals_given (scene b) actuals)) (actuals_marks (actuals_given (scene b) actuals)) m → CodesPhrase a d here u (phrases.Call (option_map (statement_view a.code.given) st) compares site (name_phrase (scene a) name) (actuals_given (scene a) actuals)) m
call_codes {a} {b} {d} {m} here u st compares site name actuals h e part =
    let there : scene b ≡ scene a = (statement_stays here st h e).scene in
    let whole = begun_codes here st (call_form (in_statement here st) compares site name actuals) h e part in
    codes_as _ _ (λ ts k. call_there (scene a) here u (next a) st compares site name actuals ts) (ap (λ (s : Scene). actuals_marks (actuals_given s actuals)) there) whole

pub called_done : {a b c d : Emitter} {m k : ℕ} (here : Here) (u : Mode) (node : Node) (name : ℕ) (x : Standing) (compares : Bool) (t : Option SimpleType) (lists : List TypedList) (actuals : List TypedActual) (rest : List TypedList) → standing_of a.symbols.names name ≡ x → declared_for (scene a) x ≡ declared_call compares (kinds_view a.code.given t) → AreCalled lists actuals rest → IsCodable a (named_node node name lists) → b ≡ begun a here node.statement
    → Codes none_own b c (called_code (scene b) (in_statement here node.statement) compares node.place (next b) (name_phrase (scene b) name) (actuals_given (scene b) actuals)) (actuals_marks (actuals_given (scene b) actuals)) m
    → ContinuesParts c d here (Some (names.length_given t)) rest m k → CodesNode a d here u (named_node node name lists) k
called_done {a} {b} {c} {d} {m} {k} here u node name x compares t lists actuals rest is declared called r e part more =
    let s : Scene = scene a in
    let known = name_in_table a node name lists r in
    let first : CodesPhrase a c here u (call_phrase s node name compares actuals) m = call_codes here u node.statement compares node.place name actuals r.fits.code e part in
    let all : CodesPhrase a d here u (parts_of (phrase_context s) (names.length_given t) (call_phrase s node name compares actuals) (lists_in (numbers_in s) rest)) k =
    subst (λ (y : Scene). CodesPhrase a d here u (parts_of (phrase_context y) (names.length_given t) (call_phrase s node name compares actuals) (lists_in (numbers_in y) rest)) k) first.stays.scene (more u a (call_phrase s node name compares actuals) first) in
    subst (λ y. CodesPhrase a d here u y k)
    (sym (named_phrase s node name x lists r.fits.scene known is ∙ called_named s node name x compares t lists actuals rest declared called)) all

-- ---- told by the code's own values

module _ (a b : Emitter) (here : Here) (node : Node) (name : ℕ) (z x : Standing) (compares : Bool) (t : Option SimpleType) (lists : List TypedList) (actuals : List TypedActual) (rest : List TypedList) (told : z ≡ standing_of b.symbols.names name) (is : z ≡ x) (declared : declared_for (scene a) x ≡ declared_call compares (kinds_view a.code.given t)) (called : AreCalled lists actuals rest) (r : IsCodable a (named_node node name lists)) (e : b ≡ begun a here node.statement) where
  begun_from : Stays none_own a b
  begun_from = statement_stays here node.statement r.fits.code e

  stands_before : standing_of a.symbols.names name ≡ x
  stands_before = ap (λ (s : Scene). standing_of s.symbols.names name) (sym begun_from.scene) ∙ sym told ∙ is

  pub call_known : name < length b.code.given.names
  call_known = subst (λ (s : Scene). name < length s.given.names) (sym begun_from.scene) (name_in_table a node name lists r)

  pub call_stands : standing_of b.symbols.names name ≡ x
  call_stands = sym told ∙ is

  pub call_begins : IsCodableCall b compares name actuals
  call_begins = ready_after begun_from (call_ready a node name x compares t lists actuals rest stands_before declared called r)

  -- behind the call
  pub call_goes_on : {c : Emitter} {code_of : List ℕ → List code.Coded} {p m : ℕ} (n : ℕ) → n ≡ names.length_given t → Codes none_own b c code_of p m → IsCodableLists c rest (PartsSuit (Some n))
  call_goes_on {c} n long part = subst (λ k. IsCodableLists c rest (PartsSuit (Some k))) (sym long) (ready_after part.stays (ready_after begun_from (call_parts_ready a node name x compares t lists actuals rest stands_before declared called r)))

  pub call_told : {c d : Emitter} {m k : ℕ} (inner : Here) (n : ℕ) → inner ≡ in_statement here node.statement → n ≡ names.length_given t
      → Codes none_own b c (called_code (scene b) inner compares node.place (next b) (name_phrase (scene b) name) (actuals_given (scene b) actuals)) (actuals_marks (actuals_given (scene b) actuals)) m
      → ContinuesParts c d here (Some n) rest m k → (u : Mode) → CodesNode a d here u (named_node node name lists) k
  call_told {c} {d} {m} {k} inner n there long part more u =
      called_done here u node name x compares t lists actuals rest stands_before declared called r e
      (subst (λ h. Codes none_own b c (called_code (scene b) h compares node.place (next b) (name_phrase (scene b) name) (actuals_given (scene b) actuals)) (actuals_marks (actuals_given (scene b) actuals)) m) there part)
      (subst (λ j. ContinuesParts c d here (Some j) rest m k) long more)
