use Rattle.template_builtins_web.proofs.Escaping.{path_set, query_set}
use Rattle.template_builtins_web.proofs.urls.escaped_set.Goals as goal

pub returns-then-in_path : goal.returns-then-in_path
returns-then-in_path c = rw c.if-in_path.true path_set

pub returns-else-in_path : goal.returns-else-in_path
returns-else-in_path c = rw c.if-in_path.false query_set
