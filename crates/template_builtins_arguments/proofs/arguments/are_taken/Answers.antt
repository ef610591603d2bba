use Rattle.std.proofs.Common.{length, ap, ◌∙◌, nat_le, ◌&&◌, drop}
use Rattle.template_builtins_arguments.proofs.Taking.{taken}
use Rattle.template_builtins_arguments.specs.Arguments as read
use Rattle.template_builtins_arguments.specs.Given.{names_of}
use Rattle.template_builtins_arguments.proofs.arguments.are_taken.Goals as goal

pub returns-in-Some : goal.returns-in-Some
returns-in-Some c =
    let names = names_of c.args.names.now in
    let given = read.keywords_in c.args.values.now in
    let found = c.in-Some.ensures.lookup.0 in
    taken c.args.names.now c.in-Some.left.now (length c.by_place-count.result.now) found.0 found.2 given c.has_known.result c.has_known.ensures
    ∙ ap (λ (vs : _). nat_le (length vs) (length names) && read.has_known (drop (length vs) names) given) c.by_place-count.ensures
