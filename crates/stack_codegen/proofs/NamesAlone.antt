-- Names alone, and arrays, that are actuals: what is coded goes by what stands for them.
use Rattle.std.proofs.Common.{◌≡◌, ℕ, ◌+◌, ◌-◌, ◌<◌, Bool, true, List, [], ◌∷◌, ◌++◌, drop, length, map, Option, Some, None, refl, sym, ap, ◌∙◌, subst, arith}
use Rattle.std.specs.Prelude.{IfOk, OnOk, Result, Ok, Err}
use Rattle.std.specs.declared.alloc.AllocError.{AllocError}
use Rattle.std.proofs.Math.Seq.{drop-length}
use Rattle.std.proofs.lemmas.List.{length_push}
use Rattle.value_ops.specs.declared.places.Place.{Place}
use Rattle.algolw_tree.specs.declared.programs.TypedActual.{TypedActual}
use Rattle.program_meaning.specs.Translating.{subscripts_of}
use Rattle.phrase_code.specs.Coding.{◌▸◌, bare_call, hand_on_code, one, stand_at, stand_of, stars_of, subarray_code}
use Rattle.stack_code.specs.Code.{Coded}
use Rattle.stack_code.specs.CodeView.{CallView, CodeView, call_of, source_view}
use Rattle.stack_code.specs.CodeView as view
use Rattle.stack_code.specs.Instr as instr
use Rattle.stack_code.specs.Linking.{linked_added, linked_source}
use Rattle.stack_code.specs.Making.{with_stars}
use Rattle.stack_code.specs.declared.heads.Stars.{Stars}
use Rattle.stack_code.specs.declared.instructions.Instr.TheVariants as held
use Rattle.stack_code.specs.declared.instructions.Source.{Source}
use Rattle.symbol_table.specs.declared.here.Here.{Here}
use Rattle.symbol_table.specs.declared.standings.Entry.{Entry}
use Rattle.symbol_table.specs.declared.standings.Standing.{Standing}
use Rattle.symbol_table.specs.declared.standings.Standing.TheVariants as standing
use Rattle.symbol_table.specs.Contexts.{Scene, SceneFits, coding_context, numbers_in, phrase_context, place_of, stand_by, stand_for}
use Rattle.symbol_table.specs.Parts.{actuals_in}
use Rattle.symbol_table.specs.Standings.{entry_of, read_source, source_from, standing_of}
use Rattle.symbol_table.proofs.Found.{stand_by_is, stand_found}
use Rattle.symbol_table.proofs.Places.{numbered_place}
use Rattle.code_emitter.specs.declared.emitter.Emitter.{Emitter}
use Rattle.code_emitter.specs.Appending.{Compares, appended, with_source}
use Rattle.code_emitter.specs.Parts.{Codes, EmitterFits, Stays, next, none_own, place_in, scene}
use Rattle.code_emitter.proofs.Composing.{stays_stars}
use Rattle.code_emitter.proofs.Emitting.{stars_code}
use Rattle.code_emitter.proofs.Joining.{codes_as, codes_from, codes_is, codes_one, codes_plain, codes_then_one, codes_then_plain}
use Rattle.code_emitter.proofs.Singles.{compared_code, compared_there, source_codes, stays_compared}
use Rattle.code_emitter.proofs.Tables.{stars_fit, stars_found, tables_same}
use Rattle.stack_codegen.specs.Calls.{name_phrase}
use Rattle.stack_codegen.specs.Listed.{is_star}
use Rattle.stack_codegen.proofs.Subscripts.{stars_are}

-- where the last step is one without marks
pub alone_done : {T E A : Type 0} {P Q : T → Type 0} (r : Result T E) → IfOk r P → OnOk r A → ((x : T) → P x → A → Q x) → IfOk r Q
alone_done (Ok x) p q f = f x p q
alone_done (Err e) p q f = tt

pub none_marked : {a b : Emitter} {x : List ℕ → List Coded} {p : ℕ} {A : Type 0} (r : Result ℕ AllocError) → IfOk r (λ m. m ≡ 0) → OnOk r A → (A → Codes none_own a b x p 0) → IfOk r (λ m. Codes none_own a b x p m)
none_marked {a} {b} {x} {p} r none q f = alone_done r none q (λ m z h. subst (λ n. Codes none_own a b x p n) (sym z) (f h))

-- what stands for a name
pub name_stands : (s : Scene) (ts : List ℕ) (here : Here) (name : ℕ) → SceneFits s → name < length s.given.names → stand_of (coding_context s ts here) (name_phrase s name) ≡ stand_by s ts (place_of s name) (standing_of s.symbols.names name)
name_stands s ts here name fits l = ap (λ (p : Place). stand_at (coding_context s ts here).names p) (numbered_place s name) ∙ stand_found s ts here name fits l

pub name_stands_as : (s : Scene) (ts : List ℕ) (here : Here) (name : ℕ) → SceneFits s → name < length s.given.names → stand_of (coding_context s ts here) (name_phrase s name) ≡ stand_for s ts (place_of s name) (standing_of s.symbols.names name)
name_stands_as s ts here name fits l = name_stands s ts here name fits l ∙ stand_by_is s ts (place_of s name) (standing_of s.symbols.names name)

-- ---- a call without actuals that compares

-- of what is read so
abbrev bare_by : Place → (site : Place) → ℕ → List ℕ → Option Source → List Coded
bare_by w site k ts None = one w instr.Stuck
bare_by w site k ts (Some s) = one w (instr.Compare true (source_view (linked_source ts s)) [] (k + 2)) ▸ one w (instr.CallThrough (source_view (linked_source ts s)) site) ▸ one w instr.End

bare_is : (s : Scene) (ts : List ℕ) (here : Here) (p : Place) (x : Standing) (w site : Place) (k : ℕ) → bare_call (coding_context s ts here) w site k (stand_for s ts p x) ≡ bare_by w site k ts (read_source here x)
bare_is s ts here p standing.Unknown w site k = refl
bare_is s ts here p (standing.Standard n) w site k = refl
bare_is s ts here p (standing.Variable t e) w site k = refl
bare_is s ts here p (standing.NameFormal t e) w site k = refl
bare_is s ts here p (standing.Control e) w site k = refl
bare_is s ts here p (standing.Array t e) w site k = refl
bare_is s ts here p (standing.Procedure y) w site k = refl
bare_is s ts here p (standing.ProcedureFormal t e) w site k = refl
bare_is s ts here p (standing.Class c) w site k = refl
bare_is s ts here p (standing.Field c n t) w site k = refl
bare_is s ts here p (standing.Label e target) w site k = refl

abbrev pub bare_code : Emitter → Here → (site : Place) → (name : ℕ) → List ℕ → List Coded
bare_code a here site name ts = bare_call (coding_context (scene a) ts here) (place_in (scene a) here) site (next a) (stand_of (coding_context (scene a) ts here) (name_phrase (scene a) name))

bare_found : (a : Emitter) (here : Here) (site : Place) (name : ℕ) (o : Option Source) → EmitterFits a → name < length a.code.given.names → read_source here (standing_of a.symbols.names name) ≡ o → (ts : List ℕ) → bare_code a here site name ts ≡ bare_by (place_in (scene a) here) site (next a) ts o
bare_found a here site name o f l found ts =
    ap (bare_call (coding_context (scene a) ts here) (place_in (scene a) here) site (next a)) (name_stands_as (scene a) ts here name f.scene l)
    ∙ bare_is (scene a) ts here (place_of (scene a) name) (standing_of a.symbols.names name) (place_in (scene a) here) site (next a)
    ∙ ap (bare_by (place_in (scene a) here) site (next a) ts) found

pub bare_stuck : {a b : Emitter} (here : Here) (site : Place) (name : ℕ) → EmitterFits a → name < length a.code.given.names → read_source here (standing_of a.symbols.names name) ≡ None → b ≡ appended a here held.Stuck → Codes none_own a b (bare_code a here site name) 0 0
bare_stuck {a} here site name f l found q =
    codes_as (bare_code a here site name) 0 (λ ts m. sym (bare_found a here site name None f l found ts)) refl (codes_is q (codes_plain none_own a here held.Stuck f.code tt refl))

-- what is appended, by the call that it compares
abbrev bare_parts : Place → (site : Place) → CallView → List Coded
bare_parts w site v = one w (instr.Compare v.compares v.source v.heads v.end) ▸ one w (instr.CallThrough v.source site) ▸ one w instr.End

pub bare_done : {a b c d e : Emitter} (here : Here) (site : Place) (name : ℕ) (source : Source) (pending call end : ℕ) → EmitterFits a → name < length a.code.given.names → read_source here (standing_of a.symbols.names name) ≡ Some source → end ≡ next a + 2 → pending ≡ length a.pending.items → Compares a b source (drop pending a.pending.items) end → call ≡ length a.code.added.calls → c ≡ appended b here (held.Compare call) → d ≡ appended c here (held.CallThrough site call) → e ≡ appended d here held.End → Codes none_own a e (bare_code a here site name) 0 0
bare_done {a} {b} {c} {d} {e} here site name source pending call end f l found far all added number qc qd qe =
    codes_as (bare_code a here site name) 0 (λ ts m. same ts) refl (codes_from stays (λ ts. compared_code ts f.code added) parts)
  where
    stays : Stays none_own a b
    stays = stays_compared none_own f.code added

    there : call < length b.code.added.calls
    there =
        let n = length_push a.code.added.calls (record { source = source; compares = true; heads = added.heads; end = end }) in
        let m : length b.code.added.calls ≡ length (a.code.added.calls ++ record { source = source; compares = true; heads = added.heads; end = end } ∷ []) = ap (λ (x : Emitter). length x.code.added.calls) added.added in
        omega (arith, n, m, number)

    is : e ≡ appended (appended (appended b here (held.Compare call)) here (held.CallThrough site call)) here held.End
    is = qe ∙ ap (λ (x : Emitter). appended x here held.End) (qd ∙ ap (λ (x : Emitter). appended x here (held.CallThrough site call)) qc)

    parts : Codes none_own b e (λ ts. bare_parts (place_in (scene b) here) site (call_of (linked_added ts b.code.added) call)) 0 0
    parts = codes_is is (codes_then_plain here held.End refl tt (codes_then_one here (held.CallThrough site call) there (codes_one none_own b here (held.Compare call) stays.fits there)))

    same : (ts : List ℕ) → bare_parts (place_in (scene b) here) site (call_of (linked_added ts b.code.added) call) ≡ bare_code a here site name ts
    same ts =
        ap (λ (s : Scene). bare_parts (place_in s here) site (call_of (linked_added ts b.code.added) call)) stays.scene
        ∙ ap (λ n. bare_parts (place_in (scene a) here) site (call_of (linked_added ts b.code.added) n)) number
        ∙ ap (bare_parts (place_in (scene a) here) site) (compared_there b.code.added ts added (tables_same b.code.added))
        ∙ ap (λ hs. bare_parts (place_in (scene a) here) site (record { source = source_view (linked_source ts source); compares = true; heads = hs; end = end })) (ap (λ n. drop n a.pending.items) all ∙ drop-length a.pending.items)
        ∙ ap (λ n. bare_parts (place_in (scene a) here) site (record { source = source_view (linked_source ts source); compares = true; heads = []; end = n })) far
        ∙ sym (bare_found a here site name (Some source) f l found ts)

-- ---- what stands for it, pushed

pub hand_on_done : {a b c : Emitter} (here : Here) (name : ℕ) (x : Standing) → EmitterFits a → name < length a.code.given.names → x ≡ standing_of a.symbols.names name → b ≡ with_source a here (source_from here x) → c ≡ appended b here held.Push
    → Codes none_own a c (λ ts. hand_on_code (coding_context (scene a) ts here) (place_in (scene a) here) (stand_of (coding_context (scene a) ts here) (name_phrase (scene a) name)) ▸ one (place_in (scene a) here) instr.Push) 0 0
hand_on_done {a} here name x f l is qb qc =
    codes_is qc (codes_then_plain here held.Push refl tt (codes_is (qb ∙ ap (λ (y : Standing). with_source a here (source_from here y)) is)
    (codes_as (λ ts. hand_on_code (coding_context (scene a) ts here) (place_in (scene a) here) (stand_of (coding_context (scene a) ts here) (name_phrase (scene a) name))) 0
    (λ ts m. sym (ap (hand_on_code (coding_context (scene a) ts here) (place_in (scene a) here)) (name_stands (scene a) ts here name f.scene l))) refl
    (source_codes a here f.code (place_of (scene a) name) (standing_of a.symbols.names name)))))

-- ---- a part of an array

-- of one with this entry
abbrev part_by : Place → Here → List Bool → Option Entry → List Coded
part_by w here stars None = one w instr.Stuck
part_by w here stars (Some x) = one w (instr.Subarray (here.level - x.level) x.position stars)

part_is : (s : Scene) (ts : List ℕ) (here : Here) (p : Place) (x : Standing) (w : Place) (stars : List Bool) → subarray_code (coding_context s ts here) w stars (stand_for s ts p x) ≡ part_by w here stars (entry_of x)
part_is s ts here p standing.Unknown w stars = refl
part_is s ts here p (standing.Standard n) w stars = refl
part_is s ts here p (standing.Variable t e) w stars = refl
part_is s ts here p (standing.NameFormal t e) w stars = refl
part_is s ts here p (standing.Control e) w stars = refl
part_is s ts here p (standing.Array t e) w stars = refl
part_is s ts here p (standing.Procedure y) w stars = refl
part_is s ts here p (standing.ProcedureFormal t e) w stars = refl
part_is s ts here p (standing.Class c) w stars = refl
part_is s ts here p (standing.Field c n t) w stars = refl
part_is s ts here p (standing.Label e target) w stars = refl

abbrev pub part_in : Scene → Here → (name : ℕ) → List TypedActual → List ℕ → List Coded
part_in s here name subscripts ts = subarray_code (coding_context s ts here) (place_in s here) (stars_of (subscripts_of (phrase_context s) (actuals_in (numbers_in s) subscripts))) (stand_of (coding_context s ts here) (name_phrase s name))

abbrev pub part_code : Emitter → Here → (name : ℕ) → List TypedActual → List ℕ → List Coded
part_code a here name subscripts ts = part_in (scene a) here name subscripts ts

part_found : (a : Emitter) (here : Here) (name : ℕ) (subscripts : List TypedActual) (o : Option Entry) → EmitterFits a → name < length a.code.given.names → entry_of (standing_of a.symbols.names name) ≡ o → (ts : List ℕ) → part_code a here name subscripts ts ≡ part_by (place_in (scene a) here) here (map is_star subscripts) o
part_found a here name subscripts o f l found ts =
    ap (subarray_code (coding_context (scene a) ts here) (place_in (scene a) here) (stars_of (subscripts_of (phrase_context (scene a)) (actuals_in (numbers_in (scene a)) subscripts)))) (name_stands_as (scene a) ts here name f.scene l)
    ∙ part_is (scene a) ts here (place_of (scene a) name) (standing_of a.symbols.names name) (place_in (scene a) here) (stars_of (subscripts_of (phrase_context (scene a)) (actuals_in (numbers_in (scene a)) subscripts)))
    ∙ ap (part_by (place_in (scene a) here) here (stars_of (subscripts_of (phrase_context (scene a)) (actuals_in (numbers_in (scene a)) subscripts)))) found
    ∙ ap (λ stars. part_by (place_in (scene a) here) here stars o) (stars_are (phrase_context (scene a)) (numbers_in (scene a)) subscripts)

pub part_stuck : {a b : Emitter} (here : Here) (name : ℕ) (subscripts : List TypedActual) → EmitterFits a → name < length a.code.given.names → entry_of (standing_of a.symbols.names name) ≡ None → b ≡ appended a here held.Stuck → Codes none_own a b (part_code a here name subscripts) 0 0
part_stuck {a} here name subscripts f l found q =
    codes_as (part_code a here name subscripts) 0 (λ ts m. sym (part_found a here name subscripts None f l found ts)) refl (codes_is q (codes_plain none_own a here held.Stuck f.code tt refl))

-- stars that were added just now
pub stars_there : (c d : CodeView) (stars : Stars) (n : ℕ) → d ≡ with_stars c stars → n ≡ length c.added.stars → n < length d.added.stars
stars_there c d stars n is number =
    let e : length d.added.stars ≡ length (c.added.stars ++ stars ∷ []) = ap (λ (x : CodeView). length x.added.stars) is in
    let m = length_push c.added.stars stars in
    omega (arith, e, m, number)

part_as : {a c : Emitter} (here : Here) (name : ℕ) (subscripts : List TypedActual) (x : Entry) (stars : Stars) (n : ℕ) → EmitterFits a → name < length a.code.given.names → entry_of (standing_of a.symbols.names name) ≡ Some x → stars.are.items ≡ map is_star subscripts → n ≡ length a.code.added.stars → c ≡ appended (record a { code = with_stars a.code stars }) here (held.Subarray (here.level - x.level) x.position n) → Codes none_own a c (part_code a here name subscripts) 0 0
part_as {a} {c} here name subscripts x stars n f l found are number q =
    codes_as (part_code a here name subscripts) 0 (λ ts m. same ts) refl (codes_from (stays_stars none_own a stars f.code) (λ ts. stars_code a stars ts f.code)
    (codes_is q (codes_one none_own (record a { code = with_stars a.code stars }) here (held.Subarray (here.level - x.level) x.position n) (stars_fit a.code stars f.code) (stars_there a.code (with_stars a.code stars) stars n refl number))))
  where
    held_stars : (ts : List ℕ) → view.stars_of (linked_added ts (with_stars a.code stars).added) n ≡ stars.are.items
    held_stars ts = ap (view.stars_of (linked_added ts (with_stars a.code stars).added)) number ∙ stars_found a.code stars ts

    same : (ts : List ℕ) → one (place_in (scene a) here) (instr.Subarray (here.level - x.level) x.position (view.stars_of (linked_added ts (with_stars a.code stars).added) n)) ≡ part_code a here name subscripts ts
    same ts = ap (λ s. one (place_in (scene a) here) (instr.Subarray (here.level - x.level) x.position s)) (held_stars ts ∙ are) ∙ sym (part_found a here name subscripts (Some x) f l found ts)

pub part_done : {a c : Emitter} (here : Here) (name : ℕ) (subscripts : List TypedActual) (x : Entry) (stars : Stars) (n links : ℕ) (d : CodeView) → EmitterFits a → name < length a.code.given.names → entry_of (standing_of a.symbols.names name) ≡ Some x → stars.are.items ≡ map is_star subscripts → n ≡ length a.code.added.stars → d ≡ with_stars a.code stars → links ≡ here.level - x.level → c ≡ appended (record a { code = d }) here (held.Subarray links x.position n) → Codes none_own a c (part_code a here name subscripts) 0 0
part_done {a} {c} here name subscripts x stars n links d f l found are number added out q =
    part_as here name subscripts x stars n f l found are number
    (q ∙ ap (λ (e : CodeView). appended (record a { code = e }) here (held.Subarray links x.position n)) added ∙ ap (λ k. appended (record a { code = with_stars a.code stars }) here (held.Subarray k x.position n)) out)
