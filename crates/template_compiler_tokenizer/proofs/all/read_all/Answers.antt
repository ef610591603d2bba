use Rattle.std.proofs.Common.{◌≤◌, length, ◌∙◌, subst, arith, Ok}
use Rattle.template_compiler_syntax.specs.Known.{Knows}
use Rattle.template_compiler_tokenizer.specs.Held.{HoldsRead, StandsIn, left_of}
use Rattle.template_compiler_tokenizer.specs.Inner.{ReadsSegment, standing}
use Rattle.template_compiler_placed_tokens.specs.Left.{left_at}
use Rattle.template_compiler_tokenizer.specs.declared.segment.Inner.{Inner}
use Rattle.template_compiler_placed_tokens.specs.declared.stage.Stage.{Stage}
use Rattle.template_compiler_tokenizer.proofs.Held.{still_held, still_fewer}
use Rattle.template_compiler_placed_tokens.proofs.Later.{knows_later}
use Rattle.template_compiler_tokenizer.proofs.all.read_all.Goals as goal
use Rattle.template_compiler_tokenizer.proofs.all.read_all.Goals.{in-Data+in-Inside, in-Data+in-Start, in_default}

pub parts-preserved-in-Ok : goal.parts-preserved-in-Ok
parts-preserved-in-Ok c =
    let x = c.args.syntax.now in
    let s = c.args.source.now in
    let at = c.parts.at in
    let m = c.match-stage in
    let old = c.args.tokens.now.items in
    let first = left_of x s c.args.first in
    let inner : Inner = record { depth = c.in-Inside-stage.depth; from = m.at.from; stretch = m.at.stretch } in
    let read : ReadsSegment x s c.in-Inside-stage.kind inner c.read_inside.new.at m.tokens.items c.read_inside.new.tokens.items (Ok c.in-Ok.last) =
    rw (c.of-end.ensures.syntax, c.of-end.ensures.kind) at c.in-Ok.ensures in
    let knows : Knows x s m.at.from m.finder = elim m.branch [
      | in-Data+in-Inside w ↦
          rw (w.at-is, w.finder-is)
          (knows_later x s at.from w.read_data.new.from w.read_data.new.finder (let h = w.in-Inside.ensures.reached.2 in omega arith) w.read_data.ensures.knows)
      | in-Data+in-Start w ↦
          rw (w.at-is, w.finder-is)
          (knows_later x s at.from w.read_data.new.from w.read_data.new.finder w.in-Start.ensures.reached.2 w.read_data.ensures.knows)
      | in_default w ↦ rw (w.at-is, w.finder-is) c.parts.invariant.knows
    ] in
    let held : HoldsRead s old first m.tokens.items (left_at x s m.stage m.at.from) = elim m.branch [
      | in-Data+in-Inside w ↦
          rw (w.stage-is, w.at-is, w.tokens-is)
          (still_held x s old c.parts.tokens.items w.read_data.new.tokens.items first _ c.parts.stage w.in-Data.left at.from w.in-Data.is
          c.parts.invariant.held w.in-Inside.ensures.reached.0.reads)
      | in-Data+in-Start w ↦
          rw (w.stage-is, w.at-is, w.tokens-is)
          (still_held x s old c.parts.tokens.items w.read_data.new.tokens.items first _ c.parts.stage w.in-Data.left at.from w.in-Data.is
          c.parts.invariant.held w.in-Start.ensures.reached.0.reads)
      | in_default w ↦ rw (w.stage-is, w.at-is, w.tokens-is) c.parts.invariant.held
    ] in
    record {
      stands = read.1;
      knows = knows_later x s m.at.from c.read_inside.new.at.from m.finder read.2 knows;
      held = subst (λ (g : Stage). HoldsRead s old first m.tokens.items (left_at x s g m.at.from)) c.in-Inside-stage.is held ∙ read.0;
    }

pub parts-smaller-in-Ok : goal.parts-smaller-in-Ok
parts-smaller-in-Ok c =
    let x = c.args.syntax.now in
    let s = c.args.source.now in
    let at = c.parts.at in
    let m = c.match-stage in
    let inner : Inner = record { depth = c.in-Inside-stage.depth; from = m.at.from; stretch = m.at.stretch } in
    let read : ReadsSegment x s c.in-Inside-stage.kind inner c.read_inside.new.at m.tokens.items c.read_inside.new.tokens.items (Ok c.in-Ok.last) =
    rw (c.of-end.ensures.syntax, c.of-end.ensures.kind) at c.in-Ok.ensures in
    let ahead : at.from ≤ m.at.from = elim m.branch [
      | in-Data+in-Inside w ↦ rw w.at-is (let h = w.in-Inside.ensures.reached.2 in omega arith)
      | in-Data+in-Start w ↦ rw w.at-is w.in-Start.ensures.reached.2
      | in_default w ↦ rw w.at-is (omega arith)
    ] in
    let fewer : length (left_at x s m.stage m.at.from) ≤ length (left_at x s c.parts.stage at.from) = elim m.branch [
      | in-Data+in-Inside w ↦
          rw (w.stage-is, w.at-is) (still_fewer x s _ c.parts.stage w.in-Data.left at.from w.in-Data.is w.in-Inside.ensures.reached.0.fewer)
      | in-Data+in-Start w ↦
          rw (w.stage-is, w.at-is) (still_fewer x s _ c.parts.stage w.in-Data.left at.from w.in-Data.is w.in-Start.ensures.reached.0.fewer)
      | in_default w ↦ rw (w.stage-is, w.at-is) (omega arith)
    ] in
    let inside = subst (λ (g : Stage). length (left_at x s g m.at.from) ≤ length (left_at x s c.parts.stage at.from)) c.in-Inside-stage.is fewer in
    let behind = read.2 in
    let less = read.3 in omega arith

pub read_piece-requires : goal.read_piece-requires
read_piece-requires c =
    let x = c.args.syntax.now in
    let s = c.args.source.now in
    let at = c.parts.at in
    let m = c.match-stage in
    let knows : Knows x s m.at.from m.finder = elim m.branch [
      | in-Data+in-Inside w ↦
          rw (w.at-is, w.finder-is)
          (knows_later x s at.from w.read_data.new.from w.read_data.new.finder (let h = w.in-Inside.ensures.reached.2 in omega arith) w.read_data.ensures.knows)
      | in-Data+in-Start w ↦
          rw (w.at-is, w.finder-is)
          (knows_later x s at.from w.read_data.new.from w.read_data.new.finder w.in-Start.ensures.reached.2 w.read_data.ensures.knows)
      | in_default w ↦ rw (w.at-is, w.finder-is) c.parts.invariant.knows
    ] in
    let stands : StandsIn x s (standing m.stage m.at) = elim m.branch [
      | in-Data+in-Inside w ↦
          rw (w.stage-is, w.at-is) ((w.in-Inside.ensures.reached.1, omega arith), w.in-Inside.ensures.reached.0.begins)
      | in-Data+in-Start w ↦
          rw (w.stage-is, w.at-is) ((w.in-Start.ensures.reached.1, w.in-Start.ensures.reached.3), w.in-Start.ensures.reached.0.begins)
      | in_default w ↦ rw (w.stage-is, w.at-is) c.parts.invariant.stands
    ] in
    record { stands = stands; knows = knows }
