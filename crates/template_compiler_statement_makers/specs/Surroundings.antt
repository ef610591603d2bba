-- What stands around a statement, and what begins one, as contracts see them.
use Rattle.std.specs.Prelude.{ℕ, List, Option, None, Some, codes, bytes_eq, if◌then◌else◌}
use Rattle.template_compiler_grammar.specs.TemplateGrammar as grammar
use Rattle.template_compiler_grammar.specs.TemplateReaderParts as reader
use Rattle.template_compiler_statement_makers.specs.declared.around.Around.{Around}
use Rattle.template_compiler_statement_makers.specs.declared.opening.Opening.{Opening}
use Rattle.template_compiler_statement_makers.specs.declared.opening.Opening.TheVariants.{For, If, With, Set, AutoEscape, Filter, Block, Import, From, Extends, Include, Macro, Call, Do, Break, Continue}

abbrev pub around_of : Around → grammar.Around
around_of a = record { loop = a.in_loop; macro = a.in_macro }

abbrev pub opening_of : Opening → reader.Opening
opening_of For = reader.for_tag
opening_of If = reader.if_tag
opening_of With = reader.with_tag
opening_of Set = reader.set_tag
opening_of AutoEscape = reader.autoescape_tag
opening_of Filter = reader.filter_tag
opening_of Block = reader.block_tag
opening_of Import = reader.import_tag
opening_of From = reader.from_tag
opening_of Extends = reader.extends_tag
opening_of Include = reader.include_tag
opening_of Macro = reader.macro_tag
opening_of Call = reader.call_tag
opening_of Do = reader.do_tag
opening_of Break = reader.break_tag
opening_of Continue = reader.continue_tag

-- what the other words begin
abbrev pub other_opening : List ℕ → Option reader.Opening
other_opening n =
    if bytes_eq (codes "from") n then Some reader.from_tag
    else if bytes_eq (codes "extends") n then Some reader.extends_tag
    else if bytes_eq (codes "include") n then Some reader.include_tag
    else if bytes_eq (codes "macro") n then Some reader.macro_tag
    else if bytes_eq (codes "call") n then Some reader.call_tag
    else if bytes_eq (codes "do") n then Some reader.do_tag
    else if bytes_eq (codes "break") n then Some reader.break_tag
    else if bytes_eq (codes "continue") n then Some reader.continue_tag
    else None
