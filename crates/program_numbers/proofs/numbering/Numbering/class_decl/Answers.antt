use Rattle.std.proofs.Common.{ℕ, List, map, sym, ap, ◌∙◌}
use Rattle.std.specs.declared.vec.Vec.{Vec}
use Rattle.std.specs.declared.alloc.Global.{Global}
use Rattle.value_ops.specs.declared.places.Place.{Place}
use Rattle.algolw_tree.specs.declared.phrases.TypeSpec.{TypeSpec}
use Rattle.algolw_typing.specs.Typed as typed
use Rattle.program_numbers.specs.Makes.{numbers_in}
use Rattle.program_numbers.specs.ProgramParts.{group_in, group_tree}
use Rattle.program_numbers.specs.Taken.{groups_taken}
use Rattle.program_numbers.proofs.Making.{makes_of}
use Rattle.program_numbers.proofs.numbering.Numbering.class_decl.Goals as goal

pub returns : goal.returns
returns c =
    let n = c.args.self.now in
    let place = c.args.class.now.name.1 in
    let groups = c.in_ok-groups.groups.items in
    let taken = λ (xs : List (TypeSpec × Vec (List ℕ × Place) Global)). groups_taken (map group_tree xs) c.args.found.now in
    record {
      made = makes_of n _ _ (λ ns. map (group_in ns) groups) _ (typed.Class (place, place)) _ _ (λ sets. ap (λ q. typed.Class (q, place) (map (group_in (numbers_in n sets)) groups)) c.number.ensures.place)
          (ap (λ xs. typed.Class (place, place) (taken xs).0) (sym c.deref.ensures.value)) c.in_ok-groups.ensures.made;
      left = c.in_ok-groups.ensures.left ∙ ap (λ xs. (taken xs).1) c.deref.ensures.value;
    }
