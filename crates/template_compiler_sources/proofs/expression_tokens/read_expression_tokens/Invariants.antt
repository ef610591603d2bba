use denote.Shadow.{shadow}
use denote.Text.{Utf8}
use Rattle.std.proofs.Common.{List, ℕ, length}
use Rattle.template_compiler_tokens.specs.SourcePlaces.{IsBehind}
use Rattle.template_compiler_sources.proofs.Spelling.{GoesOn}
use Rattle.template_compiler_sources.proofs.expression_tokens.read_expression_tokens.Given as goal

-- with the tokens of what is left behind the place, those that were read are the text's
abbrev pub invariant-loop-rest : goal.invariant-loop-rest
invariant-loop-rest l = shadow (Utf8 l.rest) × ((before : List ℕ) × IsBehind before l.place × GoesOn l.text l.tokens.items before l.rest)

abbrev pub decreases-loop-rest : goal.decreases-loop-rest
decreases-loop-rest l = length l.rest
