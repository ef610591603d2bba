use Rattle.std.proofs.Common.{inr, arith}
use Rattle.template_compiler_code_shapes.specs.Outlines.{shape_of}
use Rattle.template_compiler_code_shapes.proofs.DeskLemmas.{set_noted, set_blanks, slot_none, slot_some, one_more, one_longer}
use Rattle.template_compiler_code_shapes.proofs.desk.Desk.note.Goals as goal

pub returns-in-Some-clause-clash : goal.returns-in-Some-clause-clash
returns-in-Some-clause-clash c = λ bad. (shape_of c.in-Some.there, slot_some c.args.self.now.slots.items c.args.place c.index.result.now c.in-Some.there c.requires c.index.ensures c.in-Some.is, λ same. let yes = c.is_same.ensures.1 same in cc)

pub returns-clause-stands : goal.returns-clause-stands
returns-clause-stands c =
    let slots = c.args.self.now.slots.items in
    let none = slot_none slots c.args.place c.index.result.now c.requires c.index.ensures c.in_default.not-Some in
    inr (none, set_noted slots c.args.place c.args.shape c.requires none, one_more c.args.self.now.waiting.items c.push.new.self.items c.args.place c.in-Ok.ensures.items)

pub returns-clause-lighter : goal.returns-clause-lighter
returns-clause-lighter c =
    let slots = c.args.self.now.slots.items in
    let none = slot_none slots c.args.place c.index.result.now c.requires c.index.ensures c.in_default.not-Some in
    let fewer = set_blanks slots c.args.place c.args.shape c.requires none in
    let longer = one_longer c.args.self.now.waiting.items c.push.new.self.items c.args.place c.in-Ok.ensures.items in
    omega arith
