-- What contracts see of the streams of a template that were accepted.
use Rattle.std.specs.Prelude.{◌≡◌, List, map}
use Rattle.std.specs.Cow.{cow_str_bytes}
use Rattle.template_compiler_code.specs.Listing.{code_in}
use Rattle.template_compiler_code.specs.Streams.{BlockStream}
use Rattle.template_compiler_code.specs.declared.blocks.CompiledBlock.{CompiledBlock}
use Rattle.template_compiler_code_shapes.specs.Checked.{kind_in, stream_in}
use Rattle.template_compiler_code_shapes.specs.Streams.{IsGood}
use Rattle.template_compiler_code_shapes.specs.declared.StreamKind.TheVariants.{Template}
use Rattle.template_compiled.specs.declared.checked.CheckedBlock.{CheckedBlock}

-- a block's name, whether a template that extends this one has to give a body of its own, and the code of its body here
abbrev pub checked_stream : CheckedBlock → BlockStream
checked_stream b = record { name = cow_str_bytes b.name; required = b.required; code = code_in (stream_in b.instructions) }

abbrev pub checked_streams : List CheckedBlock → List BlockStream
checked_streams = map checked_stream

-- it was accepted as a template's
abbrev pub IsOfTemplate : CheckedBlock → Type 0
IsOfTemplate b = kind_in b.instructions ≡ Template

-- its code is a good stream of a template
abbrev pub IsGoodBlock : CompiledBlock → Type 0
IsGoodBlock b = IsGood Template (code_in b.instructions)
