-- The record classes of a table, and the program in memory as a whole.
use Rattle.std.proofs.Common.{◌≡◌, ℕ, ◌+◌, ◌<◌, List, [], ◌∷◌, ◌++◌, map, take, length, get_or, sym, ap, subst, ◌∙◌}
use Rattle.std.proofs.lemmas.List.{map-append, take_more, length-map}
use Rattle.std.specs.List.{All}
use Rattle.value_ops.specs.declared.values.ClassId.{ClassId}
use Rattle.value_ops.specs.declared.values.SimpleType.{SimpleType}
use Rattle.value_ops.specs.declared.places.Place.{Place}
use Rattle.record_classes.specs.Classes.{Classes, with_class}
use Rattle.algolw_tree.specs.declared.programs.Program.{Program}
use Rattle.algolw_typing.specs.Types.{ValueType}
use Rattle.algolw_typing.specs.Naming.{Class}
use Rattle.algolw_typing.specs.Programs.{TypedProgram}
use Rattle.algolw_typing.specs.ProgramView.{Numbers, HoldsProgram, numbered, numbers_of, node_view, class_in_table}
use Rattle.program_numbers.specs.HoldsClasses.{HoldsClasses, field_in, named_class}
use Rattle.program_numbers.specs.Makes.{Sets, AreSets, Makes, numbers_in}
use Rattle.program_numbers.specs.declared.numbering.Numbering.{Numbering}
use Rattle.program_numbers.proofs.Making.{follows_itself, follows_on}

-- a class more, with the fields that were made
pub class_held : (n : Numbering) (t u v : Classes) (xs : List (List ℕ × List (List ℕ × ValueType))) (name : List ℕ) (fields : List (List ℕ × SimpleType)) (is : List (List ℕ × ValueType)) → HoldsClasses n t xs → Makes n t u (λ ns. map (field_in ns) fields) is
    → v ≡ with_class u name fields → HoldsClasses n v (xs ++ (name, is) ∷ [])
class_held n t u v xs name fields is held made e = subst (λ w. HoldsClasses n w (xs ++ (name, is) ∷ [])) (sym e) (record {
  sets = made.sets held.sets;
  means = λ later f r.
      ap (λ cs. map (class_in_table (numbers_in n later)) (cs ++ record { name = name; fields = fields } ∷ [])) made.classes
      ∙ map-append (class_in_table (numbers_in n later)) t.classes (record { name = name; fields = fields } ∷ [])
      ∙ ap (λ ys. ys ++ (name, map (field_in (numbers_in n later)) fields) ∷ []) (held.means later (follows_on t.sets u.sets later made.follows f) r)
      ∙ ap (λ fs. xs ++ (name, fs) ∷ []) (made.means later f r);
})

pub classes_more : {X : Type 0} (V : X → Class) (xs : List X) (i : ℕ) (x : X) → i < length xs → x ≡ get_or xs i x → map named_class (map V (take (i + 1) xs)) ≡ map named_class (map V (take i xs)) ++ named_class (V x) ∷ []
classes_more V xs i x within item =
    ap (λ ys. map named_class (map V ys)) (take_more xs i x within ∙ ap (λ y. take i xs ++ y ∷ []) (sym item))
    ∙ ap (map named_class) (map-append V (take i xs) (x ∷ []))
    ∙ map-append named_class (map V (take i xs)) (V x ∷ [])

-- the numbers of a program are those that its tree was made with
same_numbers : (n : Numbering) (names classes statements : List Place) (sets : Sets) → n.names ≡ names → n.classes ≡ classes → n.statements ≡ statements → numbers_in n sets ≡ record { names = names; classes = classes; sets = sets; statements = statements }
same_numbers n names classes statements sets e1 e2 e3 =
    ap {B = Numbers} (λ xs. record { names = xs; classes = n.classes; sets = sets; statements = n.statements }) e1
    ∙ ap {B = Numbers} (λ xs. record { names = names; classes = xs; sets = sets; statements = n.statements }) e2
    ∙ ap {B = Numbers} (λ xs. record { names = names; classes = classes; sets = sets; statements = xs }) e3

pub program_held : (n : Numbering) (t : Classes) (p : Program) (x : TypedProgram) → p.names.items ≡ x.names → p.statements.items ≡ x.statements → n.names ≡ map (λ i. i.place) p.names.items → n.classes ≡ map (λ c. c.place) x.classes → n.statements ≡ p.statements.items
    → map (numbered n.names) p.class_names.items ≡ map (λ (c : Class). c.place) x.classes → HoldsClasses n t (map named_class x.classes) → Makes n t p.classes (λ ns. node_view ns p.root) x.root → HoldsProgram p x
program_held n t p x names statements e1 e2 e3 numbers held made =
    let same : numbers_in n p.classes.sets ≡ numbers_of p x = same_numbers n (map (λ i. i.place) p.names.items) (map (λ c. c.place) x.classes) p.statements.items p.classes.sets e1 e2 e3 in
    let sets : AreSets n.classes p.classes.sets = made.sets held.sets in
    let count : length n.classes ≡ length x.classes = ap length e2 ∙ length-map x.classes (λ (c : Class). c.place) in
    record {
      names = names;
      statements = statements;
      classes = ap (λ ns. map (class_in_table ns) p.classes.classes) (sym same) ∙ ap (map (class_in_table (numbers_in n p.classes.sets))) made.classes ∙ held.means p.classes.sets made.follows sets;
      class_names = ap (λ is. map (numbered (map (λ i. i.place) is)) p.class_names.items) (sym names) ∙ ap (λ ps. map (numbered ps) p.class_names.items) (sym e1) ∙ numbers;
      members = subst (λ m. All (All (λ (c : ClassId). c.0 < m)) p.classes.sets) count sets.members;
      root = ap (λ ns. node_view ns p.root) (sym same) ∙ made.means p.classes.sets (follows_itself p.classes.sets) sets;
    }
