-- Operators that may leave out their right operand.
use Rattle.std.specs.Prelude.{Bool, true, false, Option, Some, None}
use Rattle.algolw_tree.specs.declared.phrases.Op.{Op}
use Rattle.algolw_tree.specs.declared.phrases.Op.TheVariants as op

-- the truth value of the left operand that decides an AND or an OR of LOGICALs, so that the right one isn't evaluated
abbrev pub deciding : Bool → Op → Option Bool
deciding true op.And = Some false
deciding true op.Or = Some true
deciding logical o = None
