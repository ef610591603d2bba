-- What `clap` reads of a command that is built step by step.
use Rattle.std.proofs.Common.{◌≡◌, ◌∙◌, ap, ap₂, sym, refl, false, ◌||◌, List, [], ◌∷◌, All, map}
use Rattle.std.proofs.lemmas.List.Elements.{All-head, All-tail}
use Rattle.clap.specs.Words.{AddsArg, AddsInTurn, AddsSubcommand, App, Rule, app_of, rule_of, with_rule, with_subcommand}
use Rattle.clap.specs.declared.builder.arg.Arg.{Arg}
use Rattle.clap.specs.declared.builder.command.Command.{Command}
use Rattle.clap.specs.declared.builder.command.Command.TheViews.{out-Command}
use Rattle.template_program_words.specs.CommandLine.{with_rules}

-- this command describes this app, and no argument of it is global
pub record Describes (command : Command) (app : App) : Type 0 where
  pub is : app_of command ≡ app
  pub local : (out-Command command).has_globals ≡ false

-- `arg`
pub app_of-arg : (old : Command) (arg : Arg) (new : Command) (app : App) (rule : Rule) → AddsArg old arg new
    → app_of old ≡ app → rule_of arg ≡ rule → arg.global ≡ false → app_of new ≡ with_rule app rule
app_of-arg old arg new app rule adds before is local = adds.shape local ∙ ap₂ with_rule before is

pub is_local-arg : (old : Command) (arg : Arg) (new : Command) → AddsArg old arg new
    → (out-Command old).has_globals ≡ false → arg.global ≡ false → (out-Command new).has_globals ≡ false
is_local-arg old arg new adds before local = adds.globals ∙ ap₂ (λ a b. a || b) before local

-- `args`
pub app_of-args : (old : Command) (args : List Arg) (new : Command) (app : App) → AddsInTurn AddsArg old args new
    → app_of old ≡ app → All (λ a. a.global ≡ false) args → app_of new ≡ with_rules app (map rule_of args)
app_of-args old [] new app adds before local = ap app_of (sym adds) ∙ before
app_of-args old (a ∷ args) new app (middle, first, adds) before local =
    app_of-args middle args new (with_rule app (rule_of a)) adds
    (app_of-arg old a middle app (rule_of a) first before refl (All-head (λ a. a.global ≡ false) a args local))
    (All-tail (λ a. a.global ≡ false) a args local)

pub is_local-args : (old : Command) (args : List Arg) (new : Command) → AddsInTurn AddsArg old args new
    → (out-Command old).has_globals ≡ false → All (λ a. a.global ≡ false) args → (out-Command new).has_globals ≡ false
is_local-args old [] new adds before local = ap (λ c. (out-Command c).has_globals) (sym adds) ∙ before
is_local-args old (a ∷ args) new (middle, first, adds) before local =
    is_local-args middle args new adds
    (is_local-arg old a middle first before (All-head (λ a. a.global ≡ false) a args local))
    (All-tail (λ a. a.global ≡ false) a args local)

pub Describes-args : (old : Command) (args : List Arg) (new : Command) (app : App) (rules : List Rule)
    → AddsInTurn AddsArg old args new → Describes old app → map rule_of args ≡ rules → All (λ a. a.global ≡ false) args
    → Describes new (with_rules app rules)
Describes-args old args new app rules adds before are local = record {
  is = app_of-args old args new app adds before.is local ∙ ap (with_rules app) are;
  local = is_local-args old args new adds before.local local;
}

-- `subcommand`
pub app_of-subcommand : (old below new : Command) (app inner : App) → AddsSubcommand old below new
    → app_of old ≡ app → app_of below ≡ inner → (out-Command below).has_globals ≡ false
    → app_of new ≡ with_subcommand app inner.top
app_of-subcommand old below new app inner adds before is local =
    adds.shape local ∙ ap₂ with_subcommand before (ap (λ (a : App). a.top) is)
