use Rattle.std.proofs.Common.{ap, sym}
use Rattle.template_requests.specs.Words.{escape_named}
use Rattle.template_requests.proofs.NoWord.{no_escape}
use Rattle.template_requests.proofs.leaves.escape_named.Goals as goal

pub returns-in-none : goal.returns-in-none
returns-in-none c = ap escape_named (sym c.in-none.is)

pub returns-in-html : goal.returns-in-html
returns-in-html c = ap escape_named (sym c.in-html.is)

pub returns-in-json : goal.returns-in-json
returns-in-json c = ap escape_named (sym c.in-json.is)

pub returns-in-name : goal.returns-in-name
returns-in-name c = ap escape_named (sym c.in-name.is)

pub returns-in_default : goal.returns-in_default
returns-in_default c =
    sym (no_escape c.args.word.now c.in_default.not-none c.in_default.not-html c.in_default.not-json c.in_default.not-name)
