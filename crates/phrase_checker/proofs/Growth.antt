-- What is added to a log, one after the other and turn by turn.
use Rattle.std.proofs.Common.{◌≡◌, List, [], ◌∷◌, ◌++◌, map, sym, ap, ◌∙◌, append_assoc, append-nil}
use Rattle.std.proofs.lemmas.List.{map-append}
use Rattle.std.specs.Prelude.{Result, Ok, Err, OnOk}
use Rattle.value_ops.specs.declared.places.Diagnostic.{Diagnostic}
use Rattle.typed_findings.specs.Findings.{Found, finding_view}
use Rattle.typed_findings.specs.declared.finding.Finding.{Finding}
use Rattle.typed_findings.specs.declared.findings.Log.{Log}
use Rattle.phrase_checker.specs.Checked.{Adds}

abbrev pub seen : Log → List Found
seen l = map finding_view l.findings.items

pub nothing : (a : Log) → Adds a a [] []
nothing a = record { faults = sym (append-nil a.faults.items); findings = sym (append-nil (seen a)) }

-- one behind the other
pub behind : (a b c : Log) (ds es : List Diagnostic) (xs ys : List Found) → Adds a b ds xs → Adds b c es ys → Adds a c (ds ++ es) (xs ++ ys)
behind a b c ds es xs ys h k = record {
  faults = k.faults ∙ ap (λ (fs : List Diagnostic). fs ++ es) h.faults ∙ append_assoc a.faults.items ds es;
  findings = k.findings ∙ ap (λ (zs : List Found). zs ++ ys) h.findings ∙ append_assoc (seen a) xs ys;
}

-- the same in other words
pub as_well : (a b : Log) (ds es : List Diagnostic) (xs ys : List Found) → ds ≡ es → xs ≡ ys → Adds a b ds xs → Adds a b es ys
as_well a b ds es xs ys d x h = record {
  faults = h.faults ∙ ap (λ (fs : List Diagnostic). a.faults.items ++ fs) d;
  findings = h.findings ∙ ap (λ (zs : List Found). seen a ++ zs) x;
}

pub three_behind : (a b c d : Log) (ds es fs : List Diagnostic) (xs ys zs : List Found) → Adds a b ds xs → Adds b c es ys → Adds c d fs zs → Adds a d (ds ++ es ++ fs) (xs ++ ys ++ zs)
three_behind a b c d ds es fs xs ys zs h k l = behind a c d (ds ++ es) fs (xs ++ ys) zs (behind a b c ds es xs ys h k) l

pub four_behind : (a b c d e : Log) (ds es fs gs : List Diagnostic) (ws xs ys zs : List Found) → Adds a b ds ws → Adds b c es xs → Adds c d fs ys → Adds d e gs zs → Adds a e (ds ++ es ++ fs ++ gs) (ws ++ xs ++ ys ++ zs)
four_behind a b c d e ds es fs gs ws xs ys zs h k l m = behind a d e (ds ++ es ++ fs) gs (ws ++ xs ++ ys) zs (three_behind a b c d ds es fs ws xs ys h k l) m

-- faults alone, and one finding
pub faults_alone : (a b : Log) (ds : List Diagnostic) → b.faults.items ≡ a.faults.items ++ ds → seen b ≡ seen a → Adds a b ds []
faults_alone a b ds h k = record { faults = h; findings = k ∙ sym (append-nil (seen a)) }

pub one_more : (a b : Log) (f : Finding) → b.faults.items ≡ a.faults.items → b.findings.items ≡ a.findings.items ++ f ∷ [] → Adds a b [] (finding_view f ∷ [])
one_more a b f h k = record {
  faults = h ∙ sym (append-nil a.faults.items);
  findings = ap (map finding_view) k ∙ map-append finding_view a.findings.items (f ∷ []);
}

-- two facts of what is done where no memory is lacking
pub both_ok : {V E : Type 0} (r : Result V E) (P Q R : Type 0) → (P → Q → R) → OnOk r P → OnOk r Q → OnOk r R
both_ok (Ok v) P Q R f p q = f p q
both_ok (Err e) P Q R f p q = p

-- ---- turn by turn

-- what is added, with what is left to be added, is the whole
pub record SoFar (start now : Log) (inside left : List Diagnostic) (whole rest : List Found) : Type 0 where
  pub faults : start.faults.items ++ inside ≡ now.faults.items ++ left
  pub findings : seen start ++ whole ≡ seen now ++ rest

pub turn : (start now later : Log) (inside left left' own : List Diagnostic) (whole rest rest' xs : List Found) → SoFar start now inside left whole rest → left ≡ own ++ left' → rest ≡ xs ++ rest' → Adds now later own xs → SoFar start later inside left' whole rest'
turn start now later inside left left' own whole rest rest' xs h l r a = record {
  faults = h.faults ∙ ap (λ (fs : List Diagnostic). now.faults.items ++ fs) l ∙ sym (append_assoc now.faults.items own left') ∙ ap (λ (fs : List Diagnostic). fs ++ left') (sym a.faults);
  findings = h.findings ∙ ap (λ (zs : List Found). seen now ++ zs) r ∙ sym (append_assoc (seen now) xs rest') ∙ ap (λ (zs : List Found). zs ++ rest') (sym a.findings);
}

-- nothing is left
pub at_last : (start now : Log) (inside left : List Diagnostic) (whole rest : List Found) → left ≡ [] → rest ≡ [] → SoFar start now inside left whole rest → Adds start now inside whole
at_last start now inside left whole rest l r h = record {
  faults = sym (h.faults ∙ ap (λ (fs : List Diagnostic). now.faults.items ++ fs) l ∙ append-nil now.faults.items);
  findings = sym (h.findings ∙ ap (λ (zs : List Found). seen now ++ zs) r ∙ append-nil (seen now));
}
