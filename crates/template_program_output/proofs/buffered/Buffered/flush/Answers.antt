use Rattle.template_program_output.proofs.Told.{tells_flush, tells_more}
use Rattle.template_program_output.proofs.buffered.Buffered.flush.Goals as goal

pub returns-clause-told : goal.returns-clause-told
returns-clause-told g c = tells_more _ _ _ _ c.in_ok-write_held.ensures.told (tells_flush _ _ _ c.flush_once.ensures.told)
