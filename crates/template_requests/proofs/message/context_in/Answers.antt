use Rattle.std.proofs.Common.{codes}
use Rattle.json.specs.Value.{value_view}
use Rattle.template_requests.proofs.Numbered.{numbers_given}
use Rattle.template_requests.proofs.message.context_in.Goals as goal

pub to_vec-requires : goal.to_vec-requires
to_vec-requires c =
    numbers_given (codes "context") (value_view c.args.object.now) (value_view c.in-Some.context.now) c.requires.numbers c.in-Some.ensures
