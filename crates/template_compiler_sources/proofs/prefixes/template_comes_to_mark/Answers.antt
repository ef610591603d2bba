use Rattle.template_compiler_sources.proofs.Reached.{read_template, refused_template}
use Rattle.template_compiler_sources.proofs.prefixes.template_comes_to_mark.Goals as goal

pub returns-in-Ok : goal.returns-in-Ok
returns-in-Ok c = read_template c.args.tokens.now.spans c.args.tokens.now.left c.in-Ok._tree c.in-Ok.ensures

pub returns-in-Err-Token : goal.returns-in-Err-Token
returns-in-Err-Token c =
    refused_template c.args.tokens.now.spans c.args.tokens.now.left c.in-Err-Token.fault c.is_mark.result
    (rw c.in-Err-Token.field-0-is at c.in-Err-Token.ensures) c.is_mark.ensures
