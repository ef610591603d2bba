use Rattle.std.proofs.Common.{subst}
use Rattle.template_compiler_placed_tokens.specs.Finds.{FindsDelimitedEnd}
use Rattle.template_compiler_placed_tokens.proofs.Cuts.{line_end_cut}
use Rattle.template_compiler_placed_tokens.proofs.Delimiters.{at_kind}
use Rattle.template_compiler_placed_tokens.proofs.EndBytes.{finds_delimited, finds_delimited_cut}
use Rattle.template_compiler_placed_tokens.proofs.ends.end_at.Goals as goal

pub returns-in-Variable : goal.returns-in-Variable
returns-in-Variable c =
    let x = c.args.end.syntax.now in
    let s = c.args.bytes.now in
    let text = c.args.end.delimiter.now in
    let r = c.delimited_end_at.result in
    let found : FindsDelimitedEnd s text c.args.place r =
    subst (λ t. FindsDelimitedEnd s t c.args.place r) c.as_bytes.ensures.value c.delimited_end_at.ensures in
    record {
      found = finds_delimited x s text c.args.end.kind c.args.place r c.in-Variable.is c.requires.end.text found;
      cut = finds_delimited_cut x s text c.args.end.kind c.args.place r c.in-Variable.is c.requires.end.text found (rw c.as_bytes.ensures.value at c.as_bytes.ensures.utf8);
    }

pub returns-in-LineStatement : goal.returns-in-LineStatement
returns-in-LineStatement c =
    let x = c.args.end.syntax.now in
    let s = c.args.bytes.now in
    let r = c.line_end_at.result in
    record {
      found = at_kind x s c.args.place r c.in-LineStatement.is (c.line_end_at.ensures x);
      cut = line_end_cut x s c.args.place r c.requires.within (c.line_end_at.ensures x);
    }
