use Rattle.std.proofs.Common.{◌≡◌, ◌∙◌, ap, codes, true}
use Rattle.std.proofs.lemmas.Result.{IfOk-weaker}
use Rattle.clap.specs.Simple.{app_of_fields}
use Rattle.clap.specs.Words.{App, app_of, new_app}
use Rattle.template_program_words.specs.CommandLine.{bare_program}
use Rattle.template_program_words.proofs.options.bare_program.Goals as goal

abbrev telling : App → App
telling a = record a { top = record (a.top) { has_version = true } }

abbrev nameless : App → App
nameless a = record a { top = record (a.top) { no_binary_name = true } }

abbrev wanting : App → App
wanting a = record a { top = record (a.top) { subcommand_required = true } }

pub returns : goal.returns
returns c =
    let described : app_of c.about.result ≡ new_app (codes "template") = ap app_of_fields c.about.ensures ∙ c.new.ensures.app in
    let versioned : app_of c.version.result ≡ telling (app_of c.about.result) = ap app_of_fields c.version.ensures in
    let ended : app_of c.after_help.result ≡ app_of c.version.result = ap app_of_fields c.after_help.ensures in
    let without_name : app_of c.no_binary_name.result ≡ nameless (app_of c.after_help.result) = ap app_of_fields c.no_binary_name.ensures in
    let with_command : app_of c.subcommand_required.result ≡ wanting (app_of c.no_binary_name.result) =
    ap app_of_fields c.subcommand_required.ensures in
    let bare : app_of c.subcommand_required.result ≡ bare_program =
    with_command ∙ ap wanting (without_name ∙ ap nameless (ended ∙ versioned ∙ ap telling described)) in
    IfOk-weaker c.bin_name.result _ _ (λ command named. ap app_of_fields named.0 ∙ bare) c.bin_name.ensures
