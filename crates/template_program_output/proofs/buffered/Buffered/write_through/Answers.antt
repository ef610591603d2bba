use Rattle.template_program_output.proofs.Told.{tells_more}
use Rattle.template_program_output.proofs.buffered.Buffered.write_through.Goals as goal

pub returns-then-bytes-capacity-clause-told : goal.returns-then-bytes-capacity-clause-told
returns-then-bytes-capacity-clause-told g c = tells_more _ _ _ _ c.in_ok-write_held.ensures.told c.write_whole.ensures.1
