use Rattle.std.proofs.Common.{◌≡◌, [], ◌∷◌, ◌++◌, sym, ap, ◌∙◌, arith, append_assoc, append-nil}
use Rattle.std.specs.List.{list_all}
use Rattle.std.proofs.lemmas.Grind.{common_steps}
use Rattle.toml.specs.View.{members_view}
use Rattle.toml.proofs.Views.{Entry}
use Rattle.accounts_text.specs.Text.{is_account, members_of}
use Rattle.accounts_text.proofs.Members.{Stated, all_more, stated_at, stated_more}
use Rattle.accounts_text.proofs.Orders.{names_ascend}
use Rattle.night_shares.proofs.accounts.accounts_in.Goals as goal

pub entries-preserved : goal.entries-preserved
entries-preserved c =
    let (can, finite, done, whole, same, every) = c.entries.invariant in
    let e : Entry = (c.in-Some.name.now, c.in-Some.value.now) in
    let account = c.in-Some-account_at.account in
    let iter : c.entries.name-iterator ≡ e ∷ c.next.new.self = grind (arith, common_steps) in
    let says = c.in-Some-account_at.ensures.some in
    let states : Stated e account = record { name = says.0 ∙ c.as_str.ensures.value; number = says.1; rules = says.2 } in
    let pushed : c.add.new.accounts.items ≡ c.entries.accounts.items ++ account ∷ [] = c.in_ok-add-in-Some-account_at.ensures in (
      tt,
      tt,
      done ++ e ∷ [],
      whole ∙ ap (λ t. done ++ t) iter ∙ sym (append_assoc done (e ∷ []) c.next.new.self),
      stated_more done e c.entries.accounts.items account same states ∙ sym (ap members_of pushed),
      ap (list_all is_account) pushed ∙ all_more c.entries.accounts.items account every says.2,
    )

pub returns-in-None-account_at-clause-bad : goal.returns-in-None-account_at-clause-bad
returns-in-None-account_at-clause-bad c = λ _ accounts states.
    let (can, finite, done, whole, same, every) = c.entries.invariant in
    let e : Entry = (c.in-Some.name.now, c.in-Some.value.now) in
    let iter : c.entries.name-iterator ≡ e ∷ c.next.new.self = grind (arith, common_steps) in
    let all : c.args.table.now.entries ≡ done ++ e ∷ c.next.new.self = whole ∙ ap (λ t. done ++ t) iter in
    let (a, stated) = stated_at done c.next.new.self e accounts (sym (ap members_view all) ∙ states.same) states.rules.each in
    c.in-None-account_at.ensures.none a (stated.name ∙ sym c.as_str.ensures.value) stated.number stated.rules

pub returns-clause-ok : goal.returns-clause-ok
returns-clause-ok c =
    let (can, finite, done, whole, same, every) = c.entries.invariant in
    let none : c.entries.name-iterator ≡ [] = grind (arith, common_steps) in
    let all : c.args.table.now.entries ≡ done = whole ∙ ap (λ t. done ++ t) none ∙ append-nil done in
    let stated : members_view c.args.table.now.entries ≡ members_of c.entries.accounts.items = ap members_view all ∙ same in
    record {
      same = stated;
      rules = record {
        each = every;
        ascend = names_ascend c.args.table.now.entries c.entries.accounts.items stated c.iter-name-items.ensures.ordered;
      };
    }
