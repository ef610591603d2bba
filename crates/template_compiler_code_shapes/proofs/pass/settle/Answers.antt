use Rattle.std.proofs.Common.{rules, suc, ◌+◌, ◌<◌, length, Option, Some, true, false, subst, arith}
use Rattle.std.specs.Prelude.{option_map}
use Rattle.template_compiler_code.specs.Listing.{code_in}
use Rattle.template_compiler_code_shapes.specs.Outlines.{shape_of}
use Rattle.template_compiler_code_shapes.specs.Desks.{noted_in, waiting_in, flag_in}
use Rattle.template_compiler_code_shapes.specs.Passes.{Ready}
use Rattle.template_compiler_code_shapes.specs.declared.outline.Outline.{Outline}
use Rattle.template_compiler_code_shapes.proofs.Visiting.{flag_sees, rests, goes, falls_noted, fall_reached, clash_bad, flag_at, at_next, clash_next}
use Rattle.template_compiler_code_shapes.proofs.pass.settle.Goals as goal

pub returns-in_default-clause-works : goal.returns-in_default-clause-works
returns-in_default-clause-works c =
    let code = code_in c.args.code.now in
    let mark = flag_in c.args.marks.now in
    let seen = flag_in c.args.seen.now.items in
    let desk = c.args.desk.now in
    let less : c.args.place < length c.args.seen.now.items = let e = c.requires.seen in let w = c.requires.within in omega arith in
    let P : Option Outline → Type 0 = λ o. Ready code mark (noted_in desk) seen (waiting_in desk) c.args.place (option_map shape_of o) in
    rests code mark seen (noted_in desk) (flag_in _) (waiting_in desk) c.args.place (suc c.args.place) (subst P c.in_default.is c.requires.ready) (flag_sees c.args.seen.now.items c.args.place less)

pub returns-in_err-note-clause-bad : goal.returns-in_err-note-clause-bad
returns-in_err-note-clause-bad c =
    let code = code_in c.args.code.now in
    let mark = flag_in c.args.marks.now in
    let seen = flag_in c.args.seen.now.items in
    let desk = c.args.desk.now in
    let t = shape_of c.in-Some.shape in
    let P : Option Outline → Type 0 = λ o. Ready code mark (noted_in desk) seen (waiting_in desk) c.args.place (option_map shape_of o) in
    let ready = subst P c.in-Some.is c.requires.ready in
    λ bad. clash_bad code mark seen desk c.args.place (suc c.args.place) (Some ready.visits.shape) t ready.visits.works (fall_reached code mark seen (noted_in desk) (waiting_in desk) c.args.place t ready)
    (clash_next desk c.args.place (c.args.place + 1) t (omega arith) (c.in_err-note.ensures.clash (search rules)))

pub returns-then-marks-place-clause-works : goal.returns-then-marks-place-clause-works
returns-then-marks-place-clause-works c =
    let code = code_in c.args.code.now in
    let mark = flag_in c.args.marks.now in
    let seen = flag_in c.args.seen.now.items in
    let desk = c.args.desk.now in
    let t = shape_of c.in-Some.shape in
    let less : c.args.place < length c.args.seen.now.items = let e = c.requires.seen in let w = c.requires.within in omega arith in
    let inside : c.args.place + 1 < length c.args.marks.now = let e = c.requires.marked in let w = c.requires.within in omega arith in
    let P : Option Outline → Type 0 = λ o. Ready code mark (noted_in desk) seen (waiting_in desk) c.args.place (option_map shape_of o) in
    let ready = subst P c.in-Some.is c.requires.ready in
    falls_noted code mark seen desk c.note.new.self (flag_in _) c.args.place (suc c.args.place) t c.requires.marks ready
    (flag_at c.args.marks.now c.args.place (c.args.place + 1) false true (omega arith) c.if-marks-place.true inside)
    (at_next desk c.note.new.self c.args.place (c.args.place + 1) t (omega arith) c.in_ok-note.ensures.stands)
    (flag_sees c.args.seen.now.items c.args.place less)

pub returns-clause-works : goal.returns-clause-works
returns-clause-works c =
    let code = code_in c.args.code.now in
    let mark = flag_in c.args.marks.now in
    let seen = flag_in c.args.seen.now.items in
    let desk = c.args.desk.now in
    let t = shape_of c.in-Some.shape in
    let less : c.args.place < length c.args.seen.now.items = let e = c.requires.seen in let w = c.requires.within in omega arith in
    let inside : c.args.place + 1 < length c.args.marks.now = let e = c.requires.marked in let w = c.requires.within in omega arith in
    let P : Option Outline → Type 0 = λ o. Ready code mark (noted_in desk) seen (waiting_in desk) c.args.place (option_map shape_of o) in
    let ready = subst P c.in-Some.is c.requires.ready in
    goes code mark seen (noted_in desk) (flag_in _) (waiting_in desk) c.args.place t c.requires.marks ready
    (flag_at c.args.marks.now c.args.place (c.args.place + 1) false false (omega arith) c.if-marks-place.false inside)
    (flag_sees c.args.seen.now.items c.args.place less)
