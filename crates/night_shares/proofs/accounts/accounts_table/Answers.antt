use Rattle.std.proofs.Common.{Option, Some, None, IfNone, ◌∙◌, sym}
use Rattle.accounts_text.proofs.Tables.{no_key, no_table, one_entry, some_table}
use Rattle.night_shares.proofs.accounts.accounts_table.Goals as goal

at_none : {A P : Type 0} (o : Option A) → P → IfNone o P
at_none None holds = holds
at_none (Some x) holds = tt

pub returns-then-len-ne1-clause-none : goal.returns-then-len-ne1-clause-none
returns-then-len-ne1-clause-none c = λ members same. c.if-len-ne1.true (c.len.ensures.len ∙ one_entry c.args.document.now.entries members same)

pub returns-in_err-get-clause-none : goal.returns-in_err-get-clause-none
returns-in_err-get-clause-none c = at_none c.from_residual.result (λ members same. no_key c.args.document.now.entries c.get.result c.in_err-get.was c.get.ensures.value members same)

pub returns-clause-some : goal.returns-clause-some
returns-clause-some c =
    some_table c.args.document.now.entries c.get.result c.in_ok-get.field-0 c.as_table.result (sym c.len.ensures.len ∙ c.if-len-ne1.false) c.in_ok-get.was c.get.ensures.value c.as_table.ensures

pub returns-clause-none : goal.returns-clause-none
returns-clause-none c =
    no_table c.args.document.now.entries c.get.result c.in_ok-get.field-0 c.as_table.result c.in_ok-get.was c.get.ensures.value c.as_table.ensures
