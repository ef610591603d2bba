use Rattle.std.proofs.Common.{sym}
use Rattle.template_compiler_syntax.specs.Settings.{syntax_of}
use Rattle.template_compiler_syntax.proofs.Apart.{same_apart, all_apart, apart_all}
use Rattle.template_compiler_syntax.proofs.settings.Settings.are_apart.Goals as goal

pub returns : goal.returns
returns c =
    let is_v = c.as_str-variable.ensures.value in
    let is_b = c.as_str-block.ensures.value in
    let is_c = c.as_str-comment.ensures.value in
    let is_s = c.as_str-line_statement.ensures.value in
    let is_d = c.as_str-line_comment.ensures.value in
    let x = syntax_of c.args.self.now in (
      λ all. all_apart x (same_apart is_v is_b is_c is_s is_d (c.are_apart.ensures.0 all)),
      λ apart. c.are_apart.ensures.1 (same_apart (sym is_v) (sym is_b) (sym is_c) (sym is_s) (sym is_d) (apart_all x apart)),
    )
