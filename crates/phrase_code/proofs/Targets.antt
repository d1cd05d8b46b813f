-- What the names of a context lead to stands in the code.
use Rattle.std.proofs.Common.{◌≡◌, ℕ, ◌+◌, List, [], ◌∷◌, length, Option, Some, None, ap, ◌∙◌, subst, arith}
use Rattle.std.specs.Prelude.{Bool, true, false}
use Rattle.value_ops.specs.declared.places.Place.{Place}
use Rattle.algolw_typing.specs.Types.{is_place}
use Rattle.algolw_typing.specs.Meanings.{FormalType, by_name, by_value, by_result, by_value_result, for_array, for_procedure}
use Rattle.program_meaning.specs.Phrases.{Phrase, Named, Items, no_items, item_and, Decls, no_decls, variables_and, arrays_and, procedure_and, Name, Formal}
use Rattle.stack_code.specs.Instr.{the_value, Reading, as_name, as_subarray}
use Rattle.stack_code.specs.Code.{Coded, procedure_of}
use Rattle.stack_code.specs.GoingOn.{Stands, StandsProcedure, StandsSource, StandsReading}
use Rattle.phrase_code.specs.Sizes.{Kind, a_variable, an_array, a_name_formal, a_procedure_formal, a_procedure, a_label, Known, kind_of_formal, formals_known, size, bounds_size, decls_size, items_size, result_size, text_size}
use Rattle.phrase_code.specs.Coding.{Stand, Context, known, stand_at, with_entries, name_stands, formal_stands, label_stands, item_stands, decl_stands, body_context, stand_of, source_of, source_by, links, declare_code, declare_arrays_code, result_code, reading_by, reading_of_name, reading_of_subarray, code, code_bounds, code_decls}
use Rattle.phrase_code.proofs.Sizes.{known_formals, code_sized, bounds_sized, declare_sized, declare_arrays_sized, result_sized}
use Rattle.phrase_code.proofs.Parts.{Written, rest}

module _ (program : List Coded) where
  abbrev pub Leads : Kind → ℕ → Type 0
  Leads (a_procedure formals) target = StandsProcedure program target
  Leads a_label target = Stands program target
  Leads kind target = Unit {0}

  abbrev pub AllLead : List Stand → Type 0
  AllLead [] = Unit {0}
  AllLead (s ∷ names) = Leads s.kind s.target × AllLead names

  abbrev pub FoundLeads : Option Stand → Type 0
  FoundLeads None = Unit {0}
  FoundLeads (Some s) = Leads s.kind s.target

  found_leads : (names : List Stand) (x : Place) → AllLead names → FoundLeads (stand_at names x)
  found_leads [] x h = tt
  found_leads (s ∷ names) x h = by (is_place s.place x) (found_leads names x h.1)
    where
      by : (b : Bool) → FoundLeads (stand_at names x) → FoundLeads (elim b [ true ↦ Some s | false ↦ stand_at names x ])
      by true f = h.0
      by false f = f

  pub leads : (c : Context) (a : Phrase) → AllLead c.names → FoundLeads (stand_of c a)
  leads c (Named x) h = found_leads c.names x h
  leads c _ h = tt

  pub source_leads : (c : Context) (s : Stand) → Leads s.kind s.target → StandsSource program (source_of c s)
  source_leads c s h = by s.kind h
    where
      by : (kind : Kind) → Leads kind s.target → StandsSource program (source_by kind (links c s) s)
      by (a_procedure formals) h = h
      by a_variable h = tt
      by an_array h = tt
      by a_name_formal h = tt
      by a_procedure_formal h = tt
      by a_label h = tt

  reading_leads : (kind : Kind) (r : Reading) → StandsReading program r → StandsReading program (reading_by kind r)
  reading_leads a_label r h = tt
  reading_leads a_variable r h = h
  reading_leads an_array r h = h
  reading_leads a_name_formal r h = h
  reading_leads a_procedure_formal r h = h
  reading_leads (a_procedure formals) r h = h

  pub name_reads : (c : Context) (o : Option Stand) → FoundLeads o → StandsReading program (reading_of_name c o)
  name_reads c None h = tt
  name_reads c (Some s) h = reading_leads s.kind (as_name (source_of c s)) (source_leads c s h)

  pub subarray_reads : (c : Context) (n : ℕ) (o : Option Stand) → FoundLeads o → StandsReading program (reading_of_subarray c n o)
  subarray_reads c n None h = tt
  subarray_reads c n (Some s) h = reading_leads s.kind (as_subarray (source_of c s) n) (source_leads c s h)

  -- ---- names of blocks and bodies

  names_lead : (kind : Kind) → Leads kind 0 → (level position : ℕ) (xs : List Name) (names : List Stand) → AllLead names → AllLead (name_stands kind level position xs names)
  names_lead kind u level position [] names h = h
  names_lead kind u level position (x ∷ xs) names h = (u, names_lead kind u level (position + 1) xs names h)

  formal_leads : (f : FormalType) → Leads (kind_of_formal f) 0
  formal_leads (by_name t) = tt
  formal_leads (by_value t) = tt
  formal_leads (by_result t) = tt
  formal_leads (by_value_result t) = tt
  formal_leads (for_array t n) = tt
  formal_leads (for_procedure result) = tt

  pub formals_lead : (level position : ℕ) (fs : List Formal) (names : List Stand) → AllLead names → AllLead (formal_stands level position fs names)
  formals_lead level position [] names h = h
  formals_lead level position (f ∷ fs) names h = (formal_leads f.is, formals_lead level (position + 1) fs names h)

  labels_lead : (level mark target : ℕ) → Stands program target → (xs : List Place) (names : List Stand) → AllLead names → AllLead (label_stands level mark target xs names)
  labels_lead level mark target t [] names h = h
  labels_lead level mark target t (x ∷ xs) names h = (t, labels_lead level mark target t xs names h)

  pub items_lead : (inside : List Known) (level mark k : ℕ) (items : Items) (names : List Stand) → Stands program (k + items_size inside items) → AllLead names → AllLead (item_stands inside level mark k items names)
  items_lead inside level mark k no_items names t h = h
  items_lead inside level mark k (item_and xs a no_items) names t h = labels_lead level mark k (omega (arith, t)) xs _ h
  items_lead inside level mark k (item_and xs a (item_and ys b more)) names t h =
      labels_lead level mark k (omega (arith, t)) xs _ (items_lead inside level mark (k + size inside a) (item_and ys b more) names (omega (arith, t)) h)

  -- the heads of procedures stand where declarations put them
  pub decls_lead : (outside inside : Context) (w : Place) (k level position : ℕ) (decls : Decls) (known_in : List Known) → known inside ≡ known_in → (names : List Stand) → Written program k (code_decls outside inside w k decls) → AllLead names → AllLead (decl_stands (known outside) known_in level position k decls names)
  decls_lead outside inside w k level position no_decls known_in e names h l = l
  decls_lead outside inside w k level position (variables_and xs more) known_in e names h l =
      let q = (declare_sized w xs).by in
      names_lead a_variable tt level position xs _ (decls_lead (with_entries (length xs) outside) inside w (k + length xs) level (position + length xs) more known_in e names
      (rest program k (k + length xs) (declare_code w xs) _ (omega (arith, q)) h) l)
  decls_lead outside inside w k level position (arrays_and t xs pairs more) known_in e names h l =
      let n = bounds_size (known outside) pairs in
      let p = (bounds_sized outside w k pairs).by in
      let q = (declare_arrays_sized w t xs).by in
      let g = rest program k (k + n) (code_bounds outside w k pairs) _ (omega (arith, p)) h in
      names_lead an_array tt level position xs _ (decls_lead (with_entries (length xs) outside) inside w (k + (n + (1 + length xs))) level (position + length xs) more known_in e names
      (rest program (k + n + 1) (k + (n + (1 + length xs))) (declare_arrays_code w t xs) _ (omega (arith, q)) g.1) l)
  decls_lead outside inside w k level position (procedure_and x result formals body more) known_in e names h l =
      let n = size (known (body_context inside formals)) body in
      let m = text_size (n + result_size result) in
      let p = (code_sized (body_context inside formals) w the_value (k + 1) body).by in
      let q = (result_sized w result).by in
      let g = rest program (k + 1) (k + 1 + n) (code (body_context inside formals) w the_value (k + 1) body) _ (omega (arith, p)) h.1 in
      let r = rest program (k + 1 + n) (k + 1 + n + result_size result) (result_code w result) _ (omega (arith, q)) g in
      let same : n ≡ size (formals_known formals known_in) body = ap (λ z. size z body) (known_formals (inside.level + 1) 1 formals inside.names ∙ ap (formals_known formals) e) in
      let here : k + 1 + n + result_size result + 1 ≡ k + m = omega arith in
      let there : k + m ≡ k + decls_size (known outside) known_in (procedure_and x result formals body no_decls) = omega (arith, same) in (
        record { head = _; is = ap procedure_of h.0 },
        subst (λ z. AllLead (decl_stands (known outside) known_in level position z more names)) there
            (decls_lead outside inside w (k + m) level position more known_in e names (subst (λ z. Written program z (code_decls outside inside w (k + m) more)) here r.1) l),
      )
