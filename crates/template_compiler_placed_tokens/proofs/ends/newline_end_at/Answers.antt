use Rattle.std.proofs.Common.{None, Some, arith}
use Rattle.template_compiler_placed_tokens.proofs.Cuts.{line_end_cut}
use Rattle.template_compiler_placed_tokens.proofs.Delimiters.{at_kind}
use Rattle.template_compiler_placed_tokens.proofs.EndBytes.{plain_end}
use Rattle.template_compiler_placed_tokens.proofs.ends.newline_end_at.Goals as goal

pub returns-in-Some-clause-found : goal.returns-in-Some-clause-found
returns-in-Some-clause-found c =
    let x = c.args.end.syntax.now in
    plain_end x c.args.bytes.now c.args.end.kind c.args.depth c.args.place c.in-Some.next c.in-Some.field-0-0 c.in-LineStatement.is (omega arith)
    (c.in-Some.ensures x)

pub returns-in-Some-clause-cut : goal.returns-in-Some-clause-cut
returns-in-Some-clause-cut c =
    let x = c.args.end.syntax.now in
    line_end_cut x c.args.bytes.now c.args.place (Some (c.in-Some.field-0-0, c.in-Some.next)) c.requires.within (c.in-Some.ensures x)

pub returns-in-None-clause-found : goal.returns-in-None-clause-found
returns-in-None-clause-found c = λ _.
    let x = c.args.end.syntax.now in
    at_kind x c.args.bytes.now c.args.place None c.in-LineStatement.is (c.in-None.ensures x)
