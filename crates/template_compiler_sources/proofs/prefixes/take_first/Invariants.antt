use Rattle.std.proofs.Common.{◌≡◌, ◌≤◌, ◌-◌, ◌++◌, length, map}
use Rattle.template_compiler_tree.specs.declared.span.Span.{Span}
use Rattle.template_compiler_tokens.specs.View.{token_of}
use Rattle.template_compiler_tokens.specs.declared.token.Token.{Token}
use Rattle.template_compiler_sources.proofs.prefixes.take_first.Given as goal

-- those that were taken, and those that are left, are all
abbrev pub invariant-loop-tokens : goal.invariant-loop-tokens
invariant-loop-tokens l = record {
  every : l.fn.tokens.left ≡ map (λ (t : Token × Span). token_of t.0) l.first.items ++ l.tokens.left;
  within : length l.first.items ≤ l.count;
}

abbrev pub decreases-loop-tokens : goal.decreases-loop-tokens
decreases-loop-tokens l = l.count - length l.first.items
