use Rattle.template_machine_acts.proofs.Framing as laws
use Rattle.template_machine_acts.proofs.frames_act.Goals as goal

pub returns : goal.returns
returns c = record { store = laws.store_acts; exported = laws.export_acts; opened = laws.open_frame_acts; closed = laws.close_frame_acts }
