use Rattle.std.proofs.Common.{sym, ◌∙◌, arith}
use Rattle.template_compiler_syntax.specs.declared.StartMarker.TheVariants.{Block}
use Rattle.template_compiler_placed_tokens.proofs.Delimiters.{place_passed, white_cut, white_no_block_end}
use Rattle.template_compiler_placed_tokens.proofs.Steps.{inside_blank}
use Rattle.template_compiler_tokenizer.proofs.reach.behind_white_space.Goals as goal

pub loop-bytes-preserved : goal.loop-bytes-preserved
loop-bytes-preserved c =
    let b = c.as_bytes-bytes.result.now in
    let place = c.loop-bytes.place in
    let white = sym c.is_white_at.ensures ∙ c.loop-bytes-test.true in
    let low = c.loop-bytes.invariant.low in
    record {
      low = omega arith;
      cut = white_cut b place c.as_bytes-bytes.ensures.utf8 c.loop-bytes.invariant.cut white;
      inside = λ x. place_passed x b Block 0 place c.args.from (c.loop-bytes.invariant.inside x) (λ closed. white_no_block_end x b place white) white;
      same = λ x. c.loop-bytes.invariant.same x ∙ inside_blank x b Block 0 place (λ closed. white_no_block_end x b place white) white;
    }
