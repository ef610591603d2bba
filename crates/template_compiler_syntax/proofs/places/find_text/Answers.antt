use Rattle.template_compiler_syntax.proofs.Searches.{found_text, no_text}
use Rattle.template_compiler_syntax.proofs.places.find_text.Goals as goal

pub returns-in-Some : goal.returns-in-Some
returns-in-Some c =
    found_text c.args.bytes.now c.args.text.now c.rest_from.result.now c.args.from c.in-Some.skipped c.requires.some c.rest_from.ensures c.in-Some.ensures

pub returns-in-None : goal.returns-in-None
returns-in-None c =
    no_text c.args.bytes.now c.args.text.now c.rest_from.result.now c.args.from c.requires.some c.rest_from.ensures c.in-None.ensures
