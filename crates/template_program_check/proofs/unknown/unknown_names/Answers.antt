use Rattle.std.proofs.Common.{ℕ, List, [], string_bytes, subst}
use Rattle.template_program_check.specs.Unknown.{TellsAll}
use Rattle.template_program_check.proofs.unknown.unknown_names.Goals as goal

pub returns-clause-told : goal.returns-clause-told
returns-clause-told c =
    subst (λ stored. TellsAll stored c.args.templates.now [] (string_bytes c.in_ok-lines_of.field-0)) (λ i. λ (name : List ℕ). c.in_ok-stored.ensures name i)
    c.in_ok-lines_of.ensures
