-- A tokenizer, as contracts see it.
use Rattle.std.specs.Prelude.{ℕ, List, [], Option, None, Some}
use Rattle.template_values_errors.specs.declared.ErrorKind.{ErrorKind}
use Rattle.template_compiler_syntax.specs.Syntax.{Syntax}
use Rattle.template_compiler_tokens.specs.Token.{Token}
use Rattle.template_compiler_tokens.specs.Stretches.{BeginsBy}
use Rattle.template_compiler_tokens.specs.declared.stretch.Stretch.{Stretch}
use Rattle.template_compiler_syntax.specs.Known.{Knows}
use Rattle.template_compiler_syntax.specs.declared.starts.StartFinder.{StartFinder}
use Rattle.template_compiler_placed_tokens.specs.Left.{Placed, tokens_in, left_at}
use Rattle.template_compiler_tokenizer.specs.Spans.{Spanned, spans_in}
use Rattle.template_compiler_placed_tokens.specs.Reads.{IsStage, IsRefusedKind}
use Rattle.template_compiler_tokenizer.specs.declared.tokenizer.State.{State}
use Rattle.template_compiler_tokenizer.specs.declared.tokenizer.State.TheVariants.{Reading, Ended, Refused}

-- the tokens that are left, alone and with their spans, and the kind of the refusal that it answers from now on
pub record TokenizerView : Type 0 where
  pub filename : List ℕ
  pub source : List ℕ
  pub left : List Token
  pub spans : List Spanned
  pub refused : Option ErrorKind

abbrev pub placed_at : Syntax → List ℕ → State → ℕ → List Placed
placed_at x s (Reading stage) i = left_at x s stage i
placed_at x s Ended i = []
placed_at x s (Refused kind stage) i = left_at x s stage i

abbrev pub refusal_of : State → Option ErrorKind
refusal_of (Reading stage) = None
refusal_of Ended = None
refusal_of (Refused kind stage) = Some kind

abbrev pub view_of : List ℕ → List ℕ → Syntax → List ℕ → State → ℕ → TokenizerView
view_of name whole x s state i = record {
  filename = name;
  source = whole;
  left = tokens_in (placed_at x s state i);
  spans = spans_in s (placed_at x s state i);
  refused = refusal_of state;
}

-- it can read on from its place; or what stands there is refused
abbrev pub IsStanding : Syntax → List ℕ → StartFinder → State → ℕ → Stretch → Type 0
IsStanding x s finder (Reading stage) i stretch = IsStage x s stage i × Knows x s i finder × BeginsBy s i stretch
IsStanding x s finder Ended i stretch = Unit {0}
IsStanding x s finder (Refused kind stage) i stretch = IsRefusedKind (left_at x s stage i) kind
