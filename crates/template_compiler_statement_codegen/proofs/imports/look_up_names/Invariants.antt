-- The names so far.
use Rattle.std.proofs.Common.{take}
use Rattle.template_compiler_emission.specs.Puts.{Puts}
use Rattle.template_compiler_statement_codegen.proofs.Importing.{named_code}
use Rattle.template_compiler_statement_codegen.proofs.imports.look_up_names.Given as goal

abbrev pub invariant-loop-name : goal.invariant-loop-name
invariant-loop-name l = Puts (named_code (take l.name-index l.names)) l.initial.code l.code
