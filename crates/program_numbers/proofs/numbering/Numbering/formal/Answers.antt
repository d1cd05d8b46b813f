use Rattle.std.proofs.Common.{List, sym, ap, subst, ◌∙◌}
use Rattle.std.specs.Prelude.{Option}
use Rattle.std.specs.Option.{option_map}
use Rattle.algolw_typing.specs.Known.{KnowsResult}
use Rattle.algolw_typing.specs.ProgramView.{type_view}
use Rattle.algolw_typing.specs.Typed as typed
use Rattle.algolw_typing.specs.Types.{ValueType}
use Rattle.algolw_typing.specs.Typing.{declare_at}
use Rattle.program_numbers.specs.Makes.{numbers_in}
use Rattle.program_numbers.proofs.Making.{makes_of}
use Rattle.program_numbers.proofs.numbering.Numbering.formal.Goals as goal

pub perhaps_type-requires : goal.perhaps_type-requires
perhaps_type-requires c = subst (KnowsResult c.args.self.now.classes) (sym c.take_type.ensures.first) c.requires.0

pub returns : goal.returns
returns c =
    let n = c.args.self.now in
    let f = c.args.formal.now in
    let made : Option ValueType → List typed.Placed → typed.Formal = λ type names. record { type = type; mode = f.mode; names = names; dimensions = f.dimensions } in
    record {
      made = makes_of n _ _ (λ ns. option_map (type_view ns) c.in_ok-spec.spec) _ (λ type. made type (declare_at f.names.items)) _ _
          (λ sets. ap (made (option_map (type_view (numbers_in n sets)) c.in_ok-spec.spec)) (c.in_ok-names.ensures ∙ ap declare_at c.deref.ensures.value)) (ap (λ type. made type (declare_at f.names.items)) (sym c.take_type.ensures.first)) c.in_ok-spec.ensures;
      left = c.take_type.ensures.rest;
    }
