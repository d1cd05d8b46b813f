-- Rows of which the parts are taken one by one.
use Rattle.std.proofs.Common.{◌≡◌, ℕ, suc, ◌+◌, ◌<◌, ◌≤◌, List, [], ◌∷◌, ◌++◌, map, length, get_or, drop, refl, sym, ap, subst, ◌∙◌, append-nil}
use Rattle.std.proofs.Math.ListN.{drop_of_length-le}
use Rattle.std.proofs.lemmas.List.{drop_more, map-append}
use Rattle.record_classes.specs.Classes.{Classes}
use Rattle.algolw_typing.specs.ProgramView.{Numbers}
use Rattle.typed_findings.specs.Findings.{Found}
use Rattle.program_numbers.specs.Makes.{Makes, MakesTaken, numbers_in}
use Rattle.program_numbers.specs.declared.numbering.Numbering.{Numbering}
use Rattle.program_numbers.proofs.Making.{makes, makes_as, makes_both, makes_of}
use Rattle.program_numbers.proofs.TakenParts.{Taking}

-- Some parts of a row are made: the whole is these, and what is taken of the rest.
pub record SoFar {X W : Type 0} (n : Numbering) (a b : Classes) (view : Numbers → List X) (onto : List X → W → W) (whole rest : W × List Found) : Type 0 where
  pub before : List X
  pub made : Makes n a b view before
  pub left : whole ≡ (onto before rest.0, rest.1)

-- A kind of row: how a part stands before others, and what is taken of a list of parts.
pub record Row {S X W : Type 0} (none : W) (and : X → W → W) (onto : List X → W → W) (all : List S → Taking W) (one : S → Taking X) : Type 0 where
  pub onto_none : (w : W) → onto [] w ≡ w
  pub onto_more : (xs : List X) (x : X) (w : W) → onto (xs ++ x ∷ []) w ≡ onto xs (and x w)
  pub all_none : (found : List Found) → all [] found ≡ (none, found)
  pub all_more : (s : S) (ss : List S) (found : List Found) → all (s ∷ ss) found ≡ (and (one s found).0 (all ss (one s found).1).0, (all ss (one s found).1).1)

module _ {S Y X W : Type 0} (n : Numbering) (V : Numbers → Y → X) (none : W) (and : X → W → W) (onto : List X → W → W) (all : List S → Taking W) (one : S → Taking X) (row : Row none and onto all one) where
  -- nothing is made before the first part
  pub start : (a : Classes) (ss : List S) (found : List Found) (ys : List Y) → ys ≡ [] → SoFar n a a (λ ns. map (V ns) ys) onto (all ss found) (all (drop 0 ss) found)
  start a ss found ys empty = record {
    before = [];
    made = makes n a (λ ns. map (V ns) ys) [] (λ sets. ap (map (V (numbers_in n sets))) empty);
    left = ap {B = W × List Found} (λ w. (w, (all ss found).1)) (sym (row.onto_none (all ss found).0));
  }

  -- the first part of the rest
  ahead : (ss : List S) (i : ℕ) (s : S) (found : List Found) → i < length ss → s ≡ get_or ss i s → all (drop i ss) found ≡ (and (one s found).0 (all (drop (i + 1) ss) (one s found).1).0, (all (drop (i + 1) ss) (one s found).1).1)
  ahead ss i s found within item =
      ap (λ xs. all xs found) (drop_more ss i s within ∙ ap (λ x. x ∷ drop (i + 1) ss) (sym item)) ∙ row.all_more s (drop (i + 1) ss) found

  pub turn : (a b c : Classes) (ss : List S) (i : ℕ) (s : S) (whole : W × List Found) (found behind : List Found) (ys more : List Y) (y : Y) → i < length ss → s ≡ get_or ss i s
      → SoFar n a b (λ ns. map (V ns) ys) onto whole (all (drop i ss) found) → MakesTaken n b c (λ ns. V ns y) behind (one s found) → more ≡ ys ++ y ∷ []
      → SoFar n a c (λ ns. map (V ns) more) onto whole (all (drop (i + 1) ss) behind)
  turn a b c ss i s whole found behind ys more y within item so taken is =
      let x : X = (one s found).0 in
      let rest : W × List Found = all (drop (i + 1) ss) (one s found).1 in
      subst (λ fs. SoFar n a c (λ ns. map (V ns) more) onto whole (all (drop (i + 1) ss) fs)) (sym taken.left) (record {
        before = so.before ++ x ∷ [];
        made = makes_of n a c (λ ns. (map (V ns) ys, V ns y)) (so.before, x) (λ (p : List X × X). p.0 ++ p.1 ∷ []) (λ ns. map (V ns) more) (so.before ++ x ∷ [])
            (λ sets. ap (map (V (numbers_in n sets))) is ∙ map-append (V (numbers_in n sets)) ys (y ∷ [])) refl
            (makes_both n a b c (λ ns. map (V ns) ys) (λ ns. V ns y) so.before x so.made taken.made);
        left = so.left ∙ ap {B = W × List Found} (λ (r : W × List Found). (onto so.before r.0, r.1)) (ahead ss i s found within item)
            ∙ ap {B = W × List Found} (λ w. (w, rest.1)) (sym (row.onto_more so.before x rest.0));
      })

  pub finish : (a b : Classes) (ss : List S) (i : ℕ) (whole : W × List Found) (found : List Found) (ys : List Y) → length ss ≤ i → SoFar n a b (λ ns. map (V ns) ys) onto whole (all (drop i ss) found)
      → MakesTaken n a b (λ ns. onto (map (V ns) ys) none) found whole
  finish a b ss i whole found ys past so =
      let end : whole ≡ (onto so.before none, found) = so.left ∙ ap {B = W × List Found} (λ (r : W × List Found). (onto so.before r.0, r.1)) (ap (λ xs. all xs found) (drop_of_length-le ss past) ∙ row.all_none found) in
      record {
        made = makes_of n a b (λ ns. map (V ns) ys) so.before (λ xs. onto xs none) (λ ns. onto (map (V ns) ys) none) whole.0 (λ sets. refl) (ap (λ (r : W × List Found). r.0) end) so.made;
        left = sym (ap (λ (r : W × List Found). r.1) end);
      }

  -- a part of a row has what the row has
  pub part_has : (P : W → Type 0) (Q : X → Type 0) → ((x : X) (w : W) → P (and x w) → Q x × P w) → ((xs : List X) (w : W) → P (onto xs w) → P w)
      → (a b : Classes) (ss : List S) (i : ℕ) (s : S) (whole : W × List Found) (found : List Found) (ys : List Y) → i < length ss → s ≡ get_or ss i s → SoFar n a b (λ ns. map (V ns) ys) onto whole (all (drop i ss) found) → P whole.0 → Q (one s found).0
  part_has P Q split behind a b ss i s whole found ys within item so h =
      let rest : P (all (drop i ss) found).0 = behind so.before (all (drop i ss) found).0 (subst P (ap (λ (r : W × List Found). r.0) so.left) h) in
      (split (one s found).0 (all (drop (i + 1) ss) (one s found).1).0 (subst P (ap (λ (r : W × List Found). r.0) (ahead ss i s found within item)) rest)).0

-- a list of what is made of the parts
pub finish_list : {S Y X : Type 0} (n : Numbering) (V : Numbers → Y → X) (all : List S → Taking (List X)) (one : S → Taking X) (row : Row {W = List X} [] (λ x xs. x ∷ xs) (λ xs w. xs ++ w) all one)
    → (a b : Classes) (ss : List S) (i : ℕ) (whole : List X × List Found) (found : List Found) (ys : List Y) → length ss ≤ i → SoFar {X = X} {W = List X} n a b (λ ns. map (V ns) ys) (λ xs w. xs ++ w) whole (all (drop i ss) found)
    → MakesTaken n a b (λ ns. map (V ns) ys) found whole
finish_list {S} {Y} {X} n V all one row a b ss i whole found ys past so =
    let taken : MakesTaken n a b (λ ns. map (V ns) ys ++ []) found whole = finish {W = List X} n V [] (λ x xs. x ∷ xs) (λ xs w. xs ++ w) all one row a b ss i whole found ys past so in
    record {
      made = makes_of n a b (λ ns. map (V ns) ys ++ []) whole.0 (λ xs. xs) (λ ns. map (V ns) ys) whole.0 (λ sets. sym (append-nil (map (V (numbers_in n sets)) ys))) refl taken.made;
      left = taken.left;
    }
