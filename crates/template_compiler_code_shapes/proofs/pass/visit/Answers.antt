use Rattle.std.proofs.Common.{rules, length, ◌∙◌}
use Rattle.std.specs.Prelude.{option_map}
use Rattle.template_compiler_code.specs.Listing.{code_in}
use Rattle.template_compiler_code_shapes.specs.Outlines.{shape_of}
use Rattle.template_compiler_code_shapes.specs.Ways.{effect_in}
use Rattle.template_compiler_code_shapes.specs.Desks.{noted_in, waiting_in, flag_in, room_in}
use Rattle.template_compiler_code_shapes.proofs.Visiting.{begin_visit, refuse, jump_leads, entry_leads, noted_way, ready, way_clash, way_within}
use Rattle.template_compiler_code_shapes.proofs.pass.visit.Goals as goal

pub returns-in_err-ways-clause-bad : goal.returns-in_err-ways-clause-bad
returns-in_err-ways-clause-bad c =
    let code = code_in c.args.code.now in
    let mark = flag_in c.args.marks.now in
    let seen = flag_in c.args.seen.now.items in
    let one = c.args.desk.now in
    let place = c.args.place in
    let m = c.requires.marks in
    λ bad. refuse code mark seen (noted_in one) (waiting_in one) place (shape_of c.args.shape) c.requires.works (c.in_err-ways.ensures.none (search rules))

pub note_jump-requires : goal.note_jump-requires
note_jump-requires c =
    let code = code_in c.args.code.now in
    let mark = flag_in c.args.marks.now in
    let seen = flag_in c.args.seen.now.items in
    let one = c.args.desk.now in
    let place = c.args.place in
    let m = c.requires.marks in
    let e = effect_in c.in_ok-ways.ways in
    let v = begin_visit code mark seen (noted_in one) (waiting_in one) place (shape_of c.args.shape) e c.requires.works c.in_ok-ways.ensures.ways in
    let leads = jump_leads code mark seen m place e (noted_in one) (waiting_in one) v in
    way_within c.in_ok-ways.ways.jumps (length code) (room_in one) c.requires.room (λ to t goes. (leads to t goes).0)

pub returns-in_err-note_jump-clause-bad : goal.returns-in_err-note_jump-clause-bad
returns-in_err-note_jump-clause-bad c =
    let code = code_in c.args.code.now in
    let mark = flag_in c.args.marks.now in
    let seen = flag_in c.args.seen.now.items in
    let one = c.args.desk.now in
    let place = c.args.place in
    let m = c.requires.marks in
    let e = effect_in c.in_ok-ways.ways in
    let v = begin_visit code mark seen (noted_in one) (waiting_in one) place (shape_of c.args.shape) e c.requires.works c.in_ok-ways.ensures.ways in
    let leads = jump_leads code mark seen m place e (noted_in one) (waiting_in one) v in
    λ bad. way_clash code mark seen one place e e.jumps v leads (c.in_err-note_jump.ensures.clash (search rules))

pub note_jump-requires-2 : goal.note_jump-requires-2
note_jump-requires-2 c =
    let code = code_in c.args.code.now in
    let mark = flag_in c.args.marks.now in
    let seen = flag_in c.args.seen.now.items in
    let one = c.args.desk.now in
    let place = c.args.place in
    let m = c.requires.marks in
    let e = effect_in c.in_ok-ways.ways in
    let v = begin_visit code mark seen (noted_in one) (waiting_in one) place (shape_of c.args.shape) e c.requires.works c.in_ok-ways.ensures.ways in
    let leads = jump_leads code mark seen m place e (noted_in one) (waiting_in one) v in
    let two = c.note_jump.new.self in
    let w = noted_way code mark seen m place e one two e.jumps v leads c.in_ok-note_jump.ensures.none c.in_ok-note_jump.ensures.stands in
    let enters = entry_leads code mark seen m place e (noted_in two) (waiting_in two) w in
    way_within c.in_ok-ways.ways.enters (length code) (room_in two) (c.note_jump.ensures.room ∙ c.requires.room) (λ to t goes. (enters to t goes).0)

pub returns-in_err-note_jump-2-clause-bad : goal.returns-in_err-note_jump-2-clause-bad
returns-in_err-note_jump-2-clause-bad c =
    let code = code_in c.args.code.now in
    let mark = flag_in c.args.marks.now in
    let seen = flag_in c.args.seen.now.items in
    let one = c.args.desk.now in
    let place = c.args.place in
    let m = c.requires.marks in
    let e = effect_in c.in_ok-ways.ways in
    let v = begin_visit code mark seen (noted_in one) (waiting_in one) place (shape_of c.args.shape) e c.requires.works c.in_ok-ways.ensures.ways in
    let leads = jump_leads code mark seen m place e (noted_in one) (waiting_in one) v in
    let two = c.note_jump.new.self in
    let w = noted_way code mark seen m place e one two e.jumps v leads c.in_ok-note_jump.ensures.none c.in_ok-note_jump.ensures.stands in
    let enters = entry_leads code mark seen m place e (noted_in two) (waiting_in two) w in
    λ bad. way_clash code mark seen two place e e.enters w enters (c.in_err-note_jump-2.ensures.clash (search rules))

pub settle-requires-clause-ready : goal.settle-requires-clause-ready
settle-requires-clause-ready c =
    let code = code_in c.args.code.now in
    let mark = flag_in c.args.marks.now in
    let seen = flag_in c.args.seen.now.items in
    let one = c.args.desk.now in
    let place = c.args.place in
    let m = c.requires.marks in
    let e = effect_in c.in_ok-ways.ways in
    let v = begin_visit code mark seen (noted_in one) (waiting_in one) place (shape_of c.args.shape) e c.requires.works c.in_ok-ways.ensures.ways in
    let leads = jump_leads code mark seen m place e (noted_in one) (waiting_in one) v in
    ready code mark seen m place e one c.note_jump.new.self c.note_jump-2.new.self (option_map shape_of c.in_ok-ways.ways.falls) v c.in_ok-note_jump.ensures.none c.in_ok-note_jump.ensures.stands c.in_ok-note_jump-2.ensures.none c.in_ok-note_jump-2.ensures.stands (search rules)
