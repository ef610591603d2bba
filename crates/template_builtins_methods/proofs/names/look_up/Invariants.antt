use Rattle.std.proofs.Common.{◌≡◌, length}
use Rattle.template_builtins_methods.specs.Methods.{named, rows_of}
use Rattle.template_builtins_methods.proofs.names.look_up.Given as goal

-- what is looked up stands in the rows that are left
abbrev pub invariant-loop-table : goal.invariant-loop-table
invariant-loop-table g l = named (rows_of l.table) l.name ≡ named (rows_of l.fn.table) l.name

abbrev pub decreases-loop-table : goal.decreases-loop-table
decreases-loop-table g l = length l.table
