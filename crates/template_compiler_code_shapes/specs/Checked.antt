-- What contracts see of a stream that was accepted.
use Rattle.template_compiler_code.specs.declared.listing.Instructions.{Instructions}
use Rattle.template_compiler_code_shapes.specs.declared.StreamKind.{StreamKind}
use Rattle.template_compiler_code_shapes.specs.declared.checked.Checked.{Checked}

-- the instructions, as they were given
abbrev pub stream_in : Checked → Instructions
stream_in c = c.instructions

-- what they are a stream of
abbrev pub kind_in : Checked → StreamKind
kind_in c = c.kind
