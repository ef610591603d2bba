use Rattle.std.proofs.Common.{◌≡◌, drop}
use Rattle.template_compiler_code.specs.Streams.{heads_of, streams_in}
use Rattle.template_machine_tables.specs.Streams.{home_of}
use Rattle.template_machine_meaning.specs.Bodies.{with_bodies}
use Rattle.template_machine_meaning.specs.Keeps.{KeepsBodies}
use Rattle.template_machine_tables.proofs.stack.BlockStack.append.Given as goal

-- with those that are left the blocks come to what all of them give; and each block has the bodies that it had, and others behind them
-- at most
abbrev pub invariant-loop-block : goal.invariant-loop-block
invariant-loop-block l =
    (with_bodies (home_of l.home) (heads_of (streams_in (drop l.block-index l.blocks))) l.self
    ≡ with_bodies (home_of l.home) (heads_of (streams_in l.blocks)) l.fn.self)
    × KeepsBodies l.fn.self l.self
