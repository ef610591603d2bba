use Rattle.std.proofs.Common.{arith, sym, ◌∙◌}
use Rattle.template_builtins_layout.proofs.Counting.{shorter}
use Rattle.template_builtins_layout.proofs.Blanks.{passed_end, passed_more, passed_none, passed_stop}
use Rattle.template_builtins_layout.proofs.pieces.behind_ones.Goals as goal

pub loop-character-init : goal.loop-character-init
loop-character-init c = passed_none c.args.blank c.args.text.now c.utf8.text

pub returns-then-not-is_kind : goal.returns-then-not-is_kind
returns-then-not-is_kind c =
    let all = passed_stop _ _ _ _ c.in-Some.character c.loop-character.invariant c.in-Some.ensures.parts (sym c.is_kind.ensures ∙ c.if-not-is_kind.true) in
    record { parts = all.0; rest = all.1 }

pub loop-character-preserved : goal.loop-character-preserved
loop-character-preserved c =
    passed_more _ _ _ _ c.in-Some.character c.loop-character.invariant c.in-Some.ensures.parts (sym c.is_kind.ensures ∙ c.if-not-is_kind.false)

pub loop-character-smaller : goal.loop-character-smaller
loop-character-smaller c = omega (arith, shorter _ _ c.in-Some.character c.in-Some.ensures.parts)

pub returns : goal.returns
returns c =
    let all = passed_end _ _ _ c.loop-character.invariant c.in_default.ensures.parts in
    record { parts = all.0; rest = all.1 }
