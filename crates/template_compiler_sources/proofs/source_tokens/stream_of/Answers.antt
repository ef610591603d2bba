use Rattle.std.proofs.Common.{List, ◌++◌, sym, ap, ◌∙◌}
use Rattle.template_compiler_tokenizer.specs.Held.{spanned_of}
use Rattle.template_compiler_tokenizer.specs.Spans.{Spanned}
use Rattle.template_compiler_sources.proofs.Held.{holds_tokens}
use Rattle.template_compiler_sources.proofs.LeftOut.{append_taken}
use Rattle.template_compiler_sources.proofs.source_tokens.stream_of.Goals as goal

pub returns : goal.returns
returns c rest ends =
    let held = c.leave_scoped_out.new.tokens.items in
    let parts = append_taken c.args.scoped_blocks (spanned_of c.args.tokens.items) rest c.args.fault ends ∙
    ap (λ (ts : List Spanned). ts ++ rest) (sym c.leave_scoped_out.ensures) in
    holds_tokens held _ rest c.args.fault c.new.result c.new.ensures.tokens c.new.ensures.spans parts ends
