use Rattle.stack_codegen.proofs.ActualKinds.{given_codable, given_passed}
use Rattle.stack_codegen.proofs.actuals.actual_kind.Goals as goal

pub returns-clause-codable : goal.returns-clause-codable
returns-clause-codable c = given_codable c.args.emitter.now c.args.node.now c.in-Some.gives c.in-Some.is c.requires

pub returns-clause-actual : goal.returns-clause-actual
returns-clause-actual c = given_passed c.args.emitter.now c.args.node.now c.in-Some.gives c.is_variable.result c.is_variable.ensures c.in-Some.is c.requires
