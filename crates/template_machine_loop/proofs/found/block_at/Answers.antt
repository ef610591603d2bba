use Rattle.std.proofs.Common.{ap, ◌∙◌}
use Rattle.std.specs.Option.{option_and_then}
use Rattle.template_machine_loop.specs.Programs.{stream_at}
use Rattle.template_machine_loop.proofs.found.block_at.Goals as goal

pub returns-in-Some : goal.returns-in-Some
returns-in-Some g c = c.block_among.ensures ∙ ap (option_and_then (stream_at c.args.name.now)) c.in-Some.ensures

pub returns-in-None : goal.returns-in-None
returns-in-None g c = ap (option_and_then (stream_at c.args.name.now)) c.in-None.ensures
