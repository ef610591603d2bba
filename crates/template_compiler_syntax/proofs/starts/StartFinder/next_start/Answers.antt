use Rattle.std.proofs.lemmas.Bool.{OnTrue_at}
use Rattle.template_compiler_syntax.proofs.starts.StartFinder.next_start.Goals as goal

pub returns-then-self-clause-found : goal.returns-then-self-clause-found
returns-then-self-clause-found c =
    c.find_braces.ensures c.args.syntax.now (OnTrue_at c.if-self.true c.requires.knows.default_starts)
