use Rattle.std.proofs.Common.{ap, codes, true}
use Rattle.std.proofs.lemmas.Result.{IfOk-weaker}
use Rattle.clap.specs.Simple.{on_top}
use Rattle.clap.specs.Words.{App, Shape, new_app}
use Rattle.clap.specs.declared.builder.command.Command.TheViews.{out-Command}
use Rattle.boc_words.specs.Words.{Told, without_commands}
use Rattle.boc_words.proofs.Told.{told_fields}
use Rattle.boc_words.proofs.commands.without_commands.Goals as goal

abbrev with_version : Shape → Shape
with_version shape = record shape { has_version = true }

abbrev with_subcommand_required : Shape → Shape
with_subcommand_required shape = record shape { subcommand_required = true }

abbrev with_help_at_nothing : Shape → Shape
with_help_at_nothing shape = record shape { arg_required_else_help = true }

abbrev numbered : App
numbered = on_top with_version (new_app (codes "boc"))

abbrev wanting : App
wanting = on_top with_subcommand_required numbered

pub returns : goal.returns
returns c =
    let named : Told c.about.result (new_app (codes "boc")) =
    told_fields c.new.result c.about.result (new_app (codes "boc")) _ c.about.ensures c.new.ensures.app c.new.ensures.local in
    let helped : Told c.after_long_help.result (new_app (codes "boc")) =
    told_fields c.about.result c.after_long_help.result (new_app (codes "boc")) _ c.after_long_help.ensures named.app_is named.local in
    let one : Told c.version.result numbered =
    told_fields c.after_long_help.result c.version.result numbered _ c.version.ensures (ap (on_top with_version) helped.app_is) helped.local in
    let two : Told c.subcommand_required.result wanting =
    told_fields c.version.result c.subcommand_required.result wanting (record (out-Command c.version.result) { subcommand_required = true })
    c.subcommand_required.ensures
    (ap (on_top with_subcommand_required) one.app_is) one.local in
    let three : Told c.arg_required_else_help.result without_commands =
    told_fields c.subcommand_required.result c.arg_required_else_help.result without_commands
    (record (out-Command c.subcommand_required.result) { arg_required_else_help = true }) c.arg_required_else_help.ensures
    (ap (on_top with_help_at_nothing) two.app_is) two.local in
    IfOk-weaker c.bin_name.result _ _
    (λ parser called. told_fields c.arg_required_else_help.result parser without_commands _ called.0 three.app_is three.local) c.bin_name.ensures
