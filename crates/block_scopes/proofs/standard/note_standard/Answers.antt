use Rattle.std.proofs.Common.{◌≡◌, ◌++◌, List, subst}
use Rattle.std.specs.Result.{OnOk}
use Rattle.algolw_tree.specs.declared.programs.NameInfo.{NameInfo}
use Rattle.algolw_typing.specs.Naming.{infos, outermost, standard_names}
use Rattle.block_scopes.proofs.standard.note_standard.Goals as goal

pub returns : goal.returns
returns c =
    subst (λ (before : List NameInfo). OnOk c.add_on_no_card.result (c.add_on_no_card.new.found.items ≡ before ++ infos outermost standard_names)) c.in_ok-reserve.ensures.items c.add_on_no_card.ensures
