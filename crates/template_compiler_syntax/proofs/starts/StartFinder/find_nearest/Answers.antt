use Rattle.std.proofs.Common.{[], ◌∷◌}
use Rattle.template_compiler_syntax.specs.declared.StartMarker.TheVariants.{Variable, Block, Comment, LineStatement}
use Rattle.template_compiler_syntax.proofs.NextStart.{nearest_next}
use Rattle.template_compiler_syntax.proofs.starts.StartFinder.find_nearest.Goals as goal

pub returns-clause-found : goal.returns-clause-found
returns-clause-found c =
    let x = c.args.syntax.now in
    let s = c.args.bytes.now in
    let from = c.args.from in
    let variable = c.nearer-nearest.ensures s from [] tt c.next_known-variable.ensures in
    let block = c.nearer-nearest-2.ensures s from (Variable ∷ []) variable c.next_known-block.ensures in
    let comment = c.nearer-nearest-3.ensures s from (Block ∷ Variable ∷ []) block c.next_known-comment.ensures in
    let line_statement = c.nearer-nearest-4.ensures s from (Comment ∷ Block ∷ Variable ∷ []) comment c.next_known-line_statement.ensures in
    nearest_next x s from c.nearer.result
    (c.nearer.ensures s from (LineStatement ∷ Comment ∷ Block ∷ Variable ∷ []) line_statement c.next_known-line_comment.ensures)
