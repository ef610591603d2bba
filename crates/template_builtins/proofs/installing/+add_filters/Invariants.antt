use Rattle.std.proofs.Common.{length}
use Rattle.template_builtins.proofs.installing.+add_filters.Given as goal

abbrev pub decreases-add_filters : goal.decreases-add_filters
decreases-add_filters g l = length l.table.now
