-- Streams, and where they are at home.
use Rattle.std.specs.Prelude.{ℕ, List, Option, None, Some, option_copied}
use Rattle.template_machine_meaning.specs.Keys as keys
use Rattle.template_machine_meaning.specs.Keys.{own, block_of}
use Rattle.template_machine_tables.specs.declared.home.Home.{Home}
use Rattle.template_machine_tables.specs.declared.home.Home.TheVariants.{Kept, Rendered, Standing}
use Rattle.template_machine_tables.specs.declared.home.Stream.{Stream}

abbrev pub home_of : Home → keys.Home
home_of Rendered = keys.rendered
home_of (Standing name) = keys.standing name.now
home_of (Kept number) = keys.kept number

-- a home's own stream, or that of a block
abbrev pub stream_at : keys.Home → Option (List ℕ) → keys.Stream
stream_at home None = own home
stream_at home (Some block) = block_of home block

abbrev pub stream_of : Stream → keys.Stream
stream_of s = stream_at (home_of s.home) (option_copied s.block)
