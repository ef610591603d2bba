-- What the code of a piece does, from the lemmas of generated code.
use Rattle.std.proofs.Common.{ℕ, ◌+◌, List, ◌∷◌, length, refl}
use Rattle.template_compiler_process.proofs.Below.{below-refl}
use Rattle.template_compiler_code.specs.Code.{Operand, single, Code}
use Rattle.template_compiler_code.specs.Counting.{counts_before}
use Rattle.template_compiler_code.specs.Steps.{exec}
use Rattle.template_compiler_walk.specs.Statements.{Exits}
use Rattle.template_compiler_codegen.specs.Expressions.{expression_code}
use Rattle.template_compiler_codegen.specs.Statements.{Ways, statements_code}
use Rattle.template_compiler_codegen.proofs.Standing.{StandsAt}
use Rattle.template_compiler_codegen.proofs.Performing.{performs}
use Rattle.template_compiler_codegen.proofs.Statements.{Outs, performs_statements}
use Rattle.template_compiler_generator.specs.Pieces.{HasPiece, ExpressionsPerformAnywhere, WaysLead, StatementsPerformAnywhere}

stands : (code : List Code) (place : ℕ) (piece : List Code) → HasPiece code place piece → StandsAt code place piece
stands code place piece h = record { front = h.front; back = h.back; is = h.is; at = h.at }

has : (code : List Code) (place : ℕ) (piece : List Code) → StandsAt code place piece → HasPiece code place piece
has code place piece h = record { front = h.front; back = h.back; is = h.is; at = h.at }

outs : (code : List Code) (ways : Ways) (bound : ℕ) (exits : Exits) (operands : List Operand) → WaysLead code bound operands ways exits
    → Outs code ways bound exits operands
outs code ways bound exits operands lead = record {
  on_break = λ place h. lead.on_break place (has code place _ h);
  on_continue = λ place h. lead.on_continue place (has code place _ h);
}

pub expressions_anywhere : ExpressionsPerformAnywhere
expressions_anywhere e code place h behind =
    let done = performs e code place (stands code place (expression_code e place) h) behind in (
      done.0,
      λ operands.
          done.1 operands (λ v. exec code behind (place + length (expression_code e place)) (single v ∷ operands)) (λ v. below-refl _),
    )

pub statements_anywhere : StatementsPerformAnywhere
statements_anywhere tree n ways none code place h behind =
    let done = performs_statements n tree ways none code place (counts_before code place) refl (stands code place (statements_code ways tree place) h) behind in (
      done.0,
      λ operands exits lead.
          done.1 operands exits (exec code behind (place + length (statements_code ways tree place)) operands) (below-refl _)
          (outs code ways behind exits operands lead),
    )
