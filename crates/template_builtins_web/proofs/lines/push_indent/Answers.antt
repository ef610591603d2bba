use Rattle.std.proofs.Common.{◌≡◌, ◌-◌, Ok, string_bytes, arith, sym, append-nil}
use Rattle.std.specs.List.{repeat}
use Rattle.template_values_print.proofs.PieceLemmas.{Writes-then}
use Rattle.template_values_print.specs.declared.pieces.Markup.TheVariants.{Plain}
use Rattle.template_builtins_web.proofs.LaidOut.{repeat_next}
use Rattle.template_builtins_web.proofs.lines.push_indent.Goals as goal

pub loop-left-preserved : goal.loop-left-preserved
loop-left-preserved c = λ res a w.
    let indent = c.args.indent.now in
    let left = c.loop-left.left - 1 in
    c.loop-left.invariant res a (rw (repeat_next indent c.loop-left.left (λ none. absurd (omega arith)))
    (Writes-then Plain (string_bytes c.loop-left.out) (string_bytes c.push.new.out) a (Ok indent) (Ok (repeat left indent)) res c.in_ok-push.ensures w))

pub returns : goal.returns
returns c =
    let none : c.loop-left.left ≡ 0 = omega arith in
    c.loop-left.invariant (Ok tt) (string_bytes c.loop-left.out) (rw none (sym (append-nil (string_bytes c.loop-left.out))))
