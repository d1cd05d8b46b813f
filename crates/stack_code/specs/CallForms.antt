-- A call that compares, by the form that it is kept in.
use Rattle.std.specs.Prelude.{[]}
use Rattle.stack_code.specs.declared.calls.CallForm.{CallForm}
use Rattle.stack_code.specs.declared.calls.CallForm.TheVariants as form
use Rattle.stack_code.specs.Calls.{ComparedCall}

abbrev pub call_in : CallForm → ComparedCall
call_in (form.Bare compares source end) = record { source = source; compares = compares; heads = []; end = end }
call_in (form.Full compares source end heads) = record { source = source; compares = compares; heads = heads.value.items; end = end }
