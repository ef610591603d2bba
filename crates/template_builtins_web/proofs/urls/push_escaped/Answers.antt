use Rattle.template_builtins_web.proofs.Escaping.{escaped_by}
use Rattle.template_builtins_web.proofs.urls.push_escaped.Goals as goal

pub returns : goal.returns
returns c =
    rw (← escaped_by c.escaped_set.result c.args.in_path c.escaped_set.ensures c.args.text.now, ← c.utf8_percent_encode.ensures.text) c.append_to.ensures.ok
