use Rattle.std.proofs.Common.{sym, ◌∙◌, length}
use Rattle.template_compiler_placed_tokens.proofs.OneWord.{begins_name, name_begun}
use Rattle.template_compiler_placed_tokens.proofs.words.begins_with_name.Goals as goal

pub returns : goal.returns
returns c =
    let text = c.args.text.now in
    let name = c.args.name.now in
    let leads = c.leading_name.ensures in (
      λ same. begins_name text name (sym leads ∙ c.is_same.ensures.0 same) c.requires,
      λ begins. c.is_same.ensures.1 (leads ∙ name_begun text name (length name) begins),
    )
