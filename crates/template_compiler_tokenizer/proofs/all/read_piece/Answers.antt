use Rattle.template_compiler_tokenizer.specs.Held.{left_of}
use Rattle.template_compiler_tokenizer.proofs.Reading.{none_held}
use Rattle.template_compiler_tokenizer.proofs.all.read_piece.Goals as goal

pub returns-in-Err-hold-clause-read : goal.returns-in-Err-hold-clause-read
returns-in-Err-hold-clause-read c =
    none_held c.args.source.now c.args.tokens.now.items c.hold.new.tokens.items (left_of c.args.syntax.now c.args.source.now c.args.start)
    c.in-Err-hold.refused c.in-Err-hold.ensures.0 c.in-Err-hold.ensures.1
