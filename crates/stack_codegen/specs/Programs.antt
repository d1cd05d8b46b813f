-- What the numbers in the code of a program stand for, and where it begins.
use Rattle.std.specs.Prelude.{map, length}
use Rattle.algolw_tree.specs.declared.programs.NameInfo.{NameInfo}
use Rattle.algolw_tree.specs.declared.programs.Program.{Program}
use Rattle.algolw_typing.specs.ProgramView.{numbered}
use Rattle.stack_code.specs.CodeView.{Given}
use Rattle.stack_code.specs.declared.heads.CodedName.{CodedName}
use Rattle.symbol_table.specs.declared.here.Here.{Here}

-- a name, as code has it
abbrev pub coded_name : NameInfo → CodedName
coded_name i = record { place = i.place; text = i.name }

abbrev pub given_of : Program → Given
given_of p = record {
  statements = p.statements.items;
  names = map coded_name p.names.items;
  classes = p.classes;
  class_places = map (numbered (map (λ i. i.place) p.names.items)) p.class_names.items;
}

-- in no statement, where nothing stands yet
abbrev pub outermost_here : Given → Here
outermost_here g = record { statement = length g.statements; level = 0; entries = 0 }
