use Rattle.template_machine_codes.proofs.Keyed as laws
use Rattle.template_machine_codes.proofs.streams.every_stream_leaves.Goals as goal

pub returns : goal.returns
returns c = laws.every_stream_leaves
