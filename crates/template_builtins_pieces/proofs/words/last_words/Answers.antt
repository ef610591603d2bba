use Rattle.std.proofs.Common.{ℕ, List, Bor, ap, reverse, ◌∙◌}
use Rattle.template_builtins_pieces.specs.Reading.{all_shown}
use Rattle.template_builtins_pieces.specs.Words.{last_words}
use Rattle.template_builtins_pieces.proofs.Reversing.{reversed}
use Rattle.template_builtins_pieces.proofs.words.last_words.Goals as goal

pub returns : goal.returns
unfolding last_words
returns c = ap all_shown c.reverse.ensures.items ∙ reversed (λ (x : Bor (List ℕ)). x.now) c.in_ok-parts.parts.items ∙ ap reverse c.in_ok-parts.ensures
