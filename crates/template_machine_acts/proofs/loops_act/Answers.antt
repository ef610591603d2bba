use Rattle.template_machine_acts.proofs.Framing as laws
use Rattle.template_machine_acts.proofs.loops_act.Goals as goal

pub returns : goal.returns
returns c = record {
  opened = laws.open_loop_acts;
  next = laws.next_item_acts;
  over = laws.no_item_acts;
  did_not_iterate = laws.did_not_iterate_acts;
  closed = laws.close_loop_acts;
  left = laws.rounds_leave;
}
