use Rattle.std.proofs.Common.{refl}
use Rattle.template_compiler_code.specs.Code as codes
use Rattle.template_machine_loop.proofs.Onward.{performed_onward, spares_onward}
use Rattle.template_machine_loop.proofs.keeping.end_keeping.Goals as goal

pub returns-clause-advances : goal.returns-clause-advances
returns-clause-advances c program code taken at =
    performed_onward program code codes.end_capture codes.end_capture c.args.place _ _ _ _ taken
    c.end_capture.result c.told_by.result c.onward.result at refl (c.end_capture.ensures program) c.told_by.ensures c.onward.ensures

pub returns-clause-spares : goal.returns-clause-spares
returns-clause-spares c = spares_onward c.args.place c.end_capture.result c.told_by.result c.onward.result c.told_by.ensures c.onward.ensures
