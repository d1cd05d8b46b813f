use Rattle.stack_code.specs.Instr.{the_value}
use Rattle.phrase_code.specs.Coding.{outermost, code, one}
use Rattle.stack_code.specs.Instr.{Stop}
use Rattle.stack_code.specs.Run.{nowhere}
use Rattle.phrase_code.proofs.Sizes.{code_sized, joined, single}
use Rattle.phrase_code.proofs.laws.code_is_sized.Goals as goal

pub returns : goal.returns
returns c = record { phrases = λ d w u k a. (code_sized d w u k a).by; programs = λ a. (joined (code_sized outermost nowhere the_value 0 a) (single nowhere Stop)).by }
