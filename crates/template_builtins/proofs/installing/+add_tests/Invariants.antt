use Rattle.std.proofs.Common.{length}
use Rattle.template_builtins.proofs.installing.+add_tests.Given as goal

abbrev pub decreases-add_tests : goal.decreases-add_tests
decreases-add_tests g l = length l.table.now
