use Rattle.std.proofs.Common.{◌∙◌, ◌++◌, ℕ, List, ap, string_bytes, subst}
use Rattle.template_compiled.specs.Compiled.{Compiled}
use Rattle.template_compiled.specs.Sources.{Source}
use Rattle.template_program_parts.specs.Context.{text_pairs}
use Rattle.template_program_check.specs.Checked.{Checks}
use Rattle.template_program_check.specs.Ends.{TellsIfAsked}
use Rattle.template_program_check.proofs.telling.find.Goals as goal

pub returns-clause-found : goal.returns-clause-found
returns-clause-found c =
    let found = c.in_ok-lines.field-0 in
    let unknown = string_bytes c.in_ok-unknown.unknown in
    let checks = subst (λ (read : List ℕ → Source). Checks read (text_pairs c.args.templates.now) (string_bytes found.lines) found.accepted.items)
    (λ i. λ (text : List ℕ). c.in_ok-config.ensures.read text i) c.in_ok-lines.ensures.checks in
    let told = subst (λ (accepted : List Compiled). TellsIfAsked c.args.builtins accepted unknown) c.as_slice.ensures.value c.in_ok-unknown.ensures.told in
    let lines = c.in_ok-push_str.ensures.bytes ∙ ap (λ text. string_bytes found.lines ++ text) c.as_str.ensures.value in
    (string_bytes found.lines, (unknown, (found.accepted.items, checks, told, lines)))
