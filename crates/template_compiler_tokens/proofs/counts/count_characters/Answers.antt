use Rattle.std.proofs.Common.{arith}
use Rattle.template_compiler_tokens.proofs.Counting.{characters_between}
use Rattle.template_compiler_tokens.proofs.counts.count_characters.Goals as goal

pub returns : goal.returns
returns c =
    let whole = characters_between c.args.bytes.now in
    omega (arith, c.count_between.ensures, whole)
