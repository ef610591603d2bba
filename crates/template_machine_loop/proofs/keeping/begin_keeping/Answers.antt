use Rattle.std.proofs.Common.{refl}
use Rattle.template_compiler_code.specs.Code as codes
use Rattle.template_compiler_code.specs.View.{is_kept}
use Rattle.template_machine_loop.proofs.Onward.{performed_onward, spares_onward}
use Rattle.template_machine_loop.proofs.keeping.begin_keeping.Goals as goal

pub returns-clause-advances : goal.returns-clause-advances
returns-clause-advances c program code operands taken at =
    performed_onward program code (codes.begin_capture (is_kept c.args.mode)) (codes.begin_capture (is_kept c.args.mode)) c.args.place operands operands _ _ taken
    c.begin_capture.result c.told_by.result c.onward.result at refl (c.begin_capture.ensures program operands) c.told_by.ensures c.onward.ensures

pub returns-clause-spares : goal.returns-clause-spares
returns-clause-spares c = spares_onward c.args.place c.begin_capture.result c.told_by.result c.onward.result c.told_by.ensures c.onward.ensures
