use Rattle.std.proofs.Common.{rules, suc, ◌+◌, ◌<◌, ◌≤◌, inl, inr, length, Option, true, false, refl, sym, subst, ◌∙◌, arith}
use Rattle.std.specs.Prelude.{option_map}
use Rattle.template_compiler_code.specs.Listing.{code_in}
use Rattle.template_compiler_code_shapes.specs.Outlines.{shape_of}
use Rattle.template_compiler_code_shapes.specs.Passes.{Works}
use Rattle.template_compiler_code_shapes.specs.Desks.{noted_in, waiting_in, flag_in}
use Rattle.template_compiler_code_shapes.specs.declared.outline.Outline.{Outline}
use Rattle.template_compiler_code_shapes.proofs.Working.{taken_or_dropped, dropped, moved, placed}
use Rattle.template_compiler_code_shapes.proofs.Visiting.{flag_is}
use Rattle.template_compiler_code_shapes.proofs.pass.run_from.Goals as goal

pub returns-then-at-len-clause-works : goal.returns-then-at-len-clause-works
returns-then-at-len-clause-works c =
    let code = code_in c.args.code.now in
    let mark = flag_in c.args.marks.now in
    let seen = flag_in c.args.seen.now.items in
    let desk = c.args.desk.now in
    let at = c.args.at in
    let past : length code ≤ at = let h = c.if-at-len.true in let n = c.len.ensures.len in omega arith in
    dropped code mark (noted_in desk) seen (waiting_in desk) 0 at c.requires.works (inr (inl past))

pub returns-then-index-clause-works : goal.returns-then-index-clause-works
returns-then-index-clause-works c =
    let code = code_in c.args.code.now in
    let mark = flag_in c.args.marks.now in
    let seen = flag_in c.args.seen.now.items in
    let desk = c.args.desk.now in
    let at = c.args.at in
    let less : at < length code = let h = c.if-at-len.false in let n = c.len.ensures.len in omega arith in
    let in_seen : at < length c.args.seen.now.items = let e = c.requires.seen in omega arith in
    let in_room : at < length desk.slots.items = let e = c.requires.room in omega arith in
    dropped code mark (noted_in desk) seen (waiting_in desk) 0 at c.requires.works (inl (flag_is c.args.seen.now.items at c.index.result.now true in_seen (sym c.index.ensures ∙ c.if-index.true)))

pub loop-hand-init : goal.loop-hand-init
loop-hand-init c =
    let code = code_in c.args.code.now in
    let mark = flag_in c.args.marks.now in
    let seen = flag_in c.args.seen.now.items in
    let desk = c.args.desk.now in
    let at = c.args.at in
    let less : at < length code = let h = c.if-at-len.false in let n = c.len.ensures.len in omega arith in
    let in_seen : at < length c.args.seen.now.items = let e = c.requires.seen in omega arith in
    let fresh = flag_is c.args.seen.now.items at c.index.result.now false in_seen (sym c.index.ensures ∙ c.if-index.false) in
    record {
      works = taken_or_dropped code mark (noted_in desk) seen (waiting_in desk) at (option_map shape_of c.in_ok-first.first) c.requires.works (sym c.in_ok-first.ensures.noted) fresh less;
      room = refl;
      seen = refl;
      lighter = omega arith;
    }

pub visit-requires-clause-within : goal.visit-requires-clause-within
visit-requires-clause-within c =
    let code = code_in c.args.code.now in
    let P : Option Outline → Type 0 = λ o. Works code (flag_in c.args.marks.now) (noted_in c.loop-hand.desk) (flag_in c.loop-hand.seen.items) (waiting_in c.loop-hand.desk) c.loop-hand.place (option_map shape_of o) in
    let works = subst P c.in-Some.is c.loop-hand.invariant.works in
    ((works.here (shape_of c.in-Some.shape) refl).1).inside

pub loop-hand-preserved : goal.loop-hand-preserved
loop-hand-preserved c =
    let code = code_in c.args.code.now in
    let mark = flag_in c.args.marks.now in
    let seen = flag_in c.args.seen.now.items in
    let desk = c.args.desk.now in
    let at = c.args.at in
    let i = c.loop-hand.invariant in
    let v = c.in_ok-hand.ensures in
    record {
      works = placed code mark (noted_in c.visit.new.desk) (flag_in c.visit.new.seen.items) (waiting_in c.visit.new.desk) (suc c.loop-hand.place) (c.loop-hand.place + 1) (option_map shape_of c.in_ok-hand.hand) (omega arith) v.works;
      room = v.room ∙ i.room;
      seen = v.seen ∙ i.seen;
      lighter = let a = v.lighter in let b = i.lighter in omega arith;
    }

pub returns-clause-works : goal.returns-clause-works
returns-clause-works c =
    let code = code_in c.args.code.now in
    let mark = flag_in c.args.marks.now in
    let seen = flag_in c.args.seen.now.items in
    let desk = c.args.desk.now in
    let at = c.args.at in
    let P : Option Outline → Type 0 = λ o. Works code mark (noted_in c.loop-hand.desk) (flag_in c.loop-hand.seen.items) (waiting_in c.loop-hand.desk) c.loop-hand.place (option_map shape_of o) in
    moved code mark (noted_in c.loop-hand.desk) (flag_in c.loop-hand.seen.items) (waiting_in c.loop-hand.desk) c.loop-hand.place 0 (subst P c.in_default.is c.loop-hand.invariant.works)

pub returns-in_err-hand-clause-bad : goal.returns-in_err-hand-clause-bad
returns-in_err-hand-clause-bad c = λ bad. c.in_err-hand.ensures.bad (search rules)

pub overflow_add-place : goal.overflow_add-place
overflow_add-place c =
    let code = code_in c.args.code.now in
    let P : Option Outline → Type 0 = λ o. Works code (flag_in c.args.marks.now) (noted_in c.loop-hand.desk) (flag_in c.loop-hand.seen.items) (waiting_in c.loop-hand.desk) c.loop-hand.place (option_map shape_of o) in
    let works = subst P c.in-Some.is c.loop-hand.invariant.works in
    let inside : c.loop-hand.place < length code = ((works.here (shape_of c.in-Some.shape) refl).1).inside in
    omega (arith, inside, c.len.ensures.len, c.len.ensures.bound)
