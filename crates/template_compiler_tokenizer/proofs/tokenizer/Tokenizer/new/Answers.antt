use Rattle.std.proofs.lemmas.Str.{IsCharBoundary-start}
use Rattle.template_compiler_tokenizer.proofs.AllTokens.{all_tokens, all_spans}
use Rattle.template_compiler_tokenizer.proofs.tokenizer.Tokenizer.new.Goals as goal

pub invariant_of-result : goal.invariant_of-result
invariant_of-result c = (
  IsCharBoundary-start c.template_text-text.result.now c.template_text-text.utf8,
  c.new-finder.ensures c.template_text-text.result.now,
  c.start.ensures c.template_text-text.result.now,
)

pub returns-clause-tokens : goal.returns-clause-tokens
returns-clause-tokens c = all_tokens c.args.syntax c.args.source.now c.template_text-text.result.now c.template_text-text.ensures

pub returns-clause-spans : goal.returns-clause-spans
returns-clause-spans c = all_spans c.args.syntax c.args.source.now c.template_text-text.result.now c.template_text-text.ensures
