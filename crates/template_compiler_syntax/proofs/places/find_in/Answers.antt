use Rattle.template_compiler_syntax.proofs.Searches.{one_byte_needle}
use Rattle.template_compiler_syntax.proofs.places.find_in.Goals as goal

pub returns-in-len1 : goal.returns-in-len1
returns-in-len1 c = one_byte_needle c.args.rest.now c.args.text.now c.memchr.result c.in-len1.len_at_least c.in-len1.len_below c.memchr.ensures
