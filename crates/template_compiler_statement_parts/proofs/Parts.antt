-- What is read by what stands next and behind, each for the part that it names.
use Rattle.template_compiler_grammar.proofs.Pushes.{nodes_push, placed_imports_push}
use Rattle.template_compiler_statement_parts.proofs.Again.{context_again, paren_end_again, word_again}
use Rattle.template_compiler_statement_parts.proofs.Placed.{no_alias, no_paren_target}
use Rattle.template_compiler_statement_parts.proofs.Standing.{flag_none, no_more}

pub ruleset import_next = (placed_imports_push, no_alias)

pub ruleset target_next = (no_paren_target, paren_end_again)

pub ruleset more_targets_next = (nodes_push, no_more)

pub ruleset missing_next = (context_again, flag_none, word_again)
