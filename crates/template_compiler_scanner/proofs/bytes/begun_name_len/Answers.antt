use Rattle.std.proofs.Common.{◌+◌, ◌∙◌, ap, arith}
use Rattle.std.specs.List.{prefix_len}
use Rattle.std.proofs.lemmas.List.Sums.{prefix_len-le-length}
use Rattle.template_compiler_tokens.specs.Lexical.{is_name_part}
use Rattle.template_compiler_scanner.proofs.Names.{begun_len, begun_some}
use Rattle.template_compiler_scanner.proofs.bytes.begun_name_len.Goals as goal

pub split_at-requires : goal.split_at-requires
split_at-requires c = begun_some c.args.text.now c.requires

pub overflow_add-result : goal.overflow_add-result
overflow_add-result c =
    let s = c.args.text.now in
    let len = c.name_len.ensures in
    let most = prefix_len-le-length is_name_part c.split_at.result.1.now in
    let back = c.split_at.ensures.back_len in
    omega arith

pub returns : goal.returns
returns c =
    let s = c.args.text.now in
    ap (λ n. 1 + n) (c.name_len.ensures ∙ ap (λ t. prefix_len is_name_part t) c.split_at.ensures.back) ∙ begun_len s c.requires
