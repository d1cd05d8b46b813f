-- The command as clap sees it.
use Rattle.std.specs.Prelude.{Some, true, codes}
use Rattle.clap.specs.Walk.{Rule, Text}
use Rattle.clap.specs.Simple.{App, new_app, new_rule, on_top, with_rule}
use Rattle.clap.specs.declared.builder.action.ArgAction.TheVariants.{Set, SetTrue}

-- an option that takes a value
abbrev pub option_rule : Text → Rule
option_rule name = record (new_rule name) { long = Some name; action = Some Set }

-- a flag, which takes none
abbrev pub flag_rule : Text → Rule
flag_rule name = record (new_rule name) { long = Some name; action = Some SetTrue }

-- no options: the words are without the program's name, and there is no help and no version
abbrev pub bare_app : App
bare_app = on_top (λ s. record s {
  no_binary_name = true;
  disable_help_flag = true;
  disable_version_flag = true;
}) (new_app (codes "monitor"))

-- the five options, and the two flags
abbrev pub monitor_app : App
monitor_app = with_rule (with_rule (with_rule (with_rule (with_rule (with_rule (with_rule bare_app (option_rule (codes "workers")))
    (option_rule (codes "queue"))) (option_rule (codes "make"))) (option_rule (codes "jobs"))) (option_rule (codes "statement")))
    (flag_rule (codes "accounts"))) (flag_rule (codes "board"))
