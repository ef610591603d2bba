-- The streams of a template's blocks.
use Rattle.std.specs.Prelude.{ℕ, List, Option, map, option_map}
use Rattle.template_compiler_tree.specs.Tree.{Statements}
use Rattle.template_compiler_walk.specs.Blocks.{Block, blocks_in, block_named}
use Rattle.template_compiler_code.specs.Streams.{BlockStream}
use Rattle.template_compiler_codegen.specs.Statements.{template_code}
use Rattle.template_compiler_generator.specs.Numbers.{numbered_in}

-- a block's stream: the code of its body, whose filters and tests have numbers of their own
abbrev pub stream_of : Block → BlockStream
stream_of b = record { name = b.name; required = b.required; code = numbered_in (template_code b.body) }

-- those of a template's blocks, in the order in which they stand, those inside others too
abbrev pub streams_of : Statements → List BlockStream
streams_of tree = map stream_of (blocks_in tree)

-- the one of a name
abbrev pub stream_named : List ℕ → Statements → Option BlockStream
stream_named name tree = option_map stream_of (block_named name tree)
