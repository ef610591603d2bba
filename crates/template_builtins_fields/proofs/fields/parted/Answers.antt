use Rattle.template_builtins_fields.proofs.Cutting.{layout_cut, layout_none, name_all, name_cut}
use Rattle.template_builtins_fields.proofs.fields.parted.Goals as goal

pub returns-in-Some-clause-name : goal.returns-in-Some-clause-name
returns-in-Some-clause-name c = name_cut c.args.field.now c.in-Some.name c.in-Some.layout c.in-Some.ensures.cases

pub returns-in-Some-clause-layout : goal.returns-in-Some-clause-layout
returns-in-Some-clause-layout c = layout_cut c.args.field.now c.in-Some.name c.in-Some.layout c.in-Some.ensures.cases

pub returns-in-None-clause-name : goal.returns-in-None-clause-name
returns-in-None-clause-name c = name_all c.args.field.now c.in-None.ensures.cases

pub returns-in-None-clause-layout : goal.returns-in-None-clause-layout
returns-in-None-clause-layout c = layout_none c.args.field.now c.in-None.ensures.cases
