use Rattle.std.proofs.Common.{refl}
use Rattle.template_compiler_code.specs.Code as codes
use Rattle.template_machine_loop.proofs.Onward.{performed_onward, spares_onward}
use Rattle.template_machine_loop.proofs.keeping.set_attribute.Goals as goal

pub returns-clause-advances : goal.returns-clause-advances
returns-clause-advances c program code taken at =
    performed_onward program code (codes.set_attr c.args.name.now) (codes.set_attr c.args.name.now) c.args.place _ _ _ _ taken
    c.set_attr.result c.told_by.result c.onward.result at refl (c.set_attr.ensures program) c.told_by.ensures c.onward.ensures

pub returns-clause-spares : goal.returns-clause-spares
returns-clause-spares c = spares_onward c.args.place c.set_attr.result c.told_by.result c.onward.result c.told_by.ensures c.onward.ensures
