-- What a generator has generated.
use Rattle.std.specs.Prelude.{map, reverse, Option}
use Rattle.template_values_errors.specs.declared.ErrorKind.{ErrorKind}
use Rattle.template_compiler_code.specs.Listing.{name_in, source_in, code_in, places_in}
use Rattle.template_compiler_generator.specs.declared.blocks.Block.{Block}
use Rattle.template_compiler_generator.specs.declared.blocks.Block.TheVariants as kinds
use Rattle.template_compiler_generator.specs.declared.generator.CodeGenerator.{CodeGenerator}
use Rattle.template_compiler_generator.specs.Drafts.{Open, branch, loop, choice, Draft}

abbrev pub open_of : Block → Open
open_of (kinds.Branch jump) = branch jump
open_of (kinds.Loop asks) = loop asks
open_of (kinds.Choice jumps) = choice (reverse jumps.items)

abbrev pub draft_of : CodeGenerator → Draft
draft_of g = record {
  name = name_in g.code;
  source = source_in g.code;
  code = code_in g.code;
  marks = places_in g.code;
  blocks = reverse (map open_of g.blocks.items);
  line = g.line;
  spans = reverse g.spans.items;
}

-- the kind of the refusal that it answers from now on, if it does
abbrev pub refused_of : CodeGenerator → Option ErrorKind
refused_of g = g.refused
