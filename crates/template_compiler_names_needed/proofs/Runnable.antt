-- The bodies of a runnable template's blocks are runnable templates themselves: no `break` leads out of a block.
use Rattle.std.proofs.Common.{Bool, true, false}
use Rattle.std.specs.List.{All}
use Rattle.std.proofs.lemmas.List.Elements.{All-nil, All-cons, All-append}
use Rattle.template_compiler_tree.specs.Tree.{Statement, Statements, absent, given, for_loop, if_condition, with_block, set_block, auto_escape, filter_block, block, no_statements, statements_more}
use Rattle.template_compiler_walk.specs.Blocks.{Block, blocks_by, blocks_in}
use Rattle.template_compiler_walk.specs.Runnable.{IsRunnableStatement, AreRunnableStatements, IsRunnableTemplate}

abbrev pub RunsByItself : Block → Type 0
RunsByItself b = IsRunnableTemplate b.body

mutual
  block_runs : (looping : Bool) (s : Statement) → IsRunnableStatement looping s → All RunsByItself (blocks_by s)
  block_runs looping (for_loop target e condition recursive body otherwise) r =
      All-append RunsByItself (blocks_in body) (blocks_in otherwise) (blocks_run true body r.3) (blocks_run looping otherwise r.4)
  block_runs looping (if_condition e body otherwise) r =
      All-append RunsByItself (blocks_in body) (blocks_in otherwise) (blocks_run looping body r.1) (blocks_run looping otherwise r.2)
  block_runs looping (with_block _ body) r = blocks_run looping body r.1
  block_runs looping (set_block target absent body) r = blocks_run looping body r.1
  block_runs looping (set_block target (given filters) body) r = blocks_run looping body r.2
  block_runs looping (auto_escape e body) r = blocks_run looping body r.1
  block_runs looping (filter_block filters body) r = blocks_run looping body r.1
  block_runs looping (block name required body) r =
      All-cons RunsByItself (record { name = name; required = required; body = body }) (blocks_in body) r (blocks_run false body r)
  block_runs looping _ r = All-nil RunsByItself

  pub blocks_run : (looping : Bool) (ss : Statements) → AreRunnableStatements looping ss → All RunsByItself (blocks_in ss)
  blocks_run looping no_statements r = All-nil RunsByItself
  blocks_run looping (statements_more s ss) r =
      All-append RunsByItself (blocks_by s) (blocks_in ss) (block_runs looping s r.0) (blocks_run looping ss r.1)
