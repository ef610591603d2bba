-- The loop around statements, and what is put for them.
use Rattle.std.specs.Prelude.{◌≡◌, ℕ, List, [], ◌∷◌, ◌++◌, length, Option, Some, None}
use Rattle.template_compiler_tree.specs.Tree.{Statement, Statements}
use Rattle.template_compiler_tree_statements.specs.declared.statements.IfCond.{IfCond}
use Rattle.template_compiler_code.specs.Code.{Code, pop_frame, pop_auto_escape, end_capture, discard_top}
use Rattle.template_compiler_code.specs.Listing.{code_in}
use Rattle.template_compiler_code.specs.declared.listing.Instructions.{Instructions}
use Rattle.template_compiler_codegen.specs.Expressions.{Coded, one, nothing, then_code}
use Rattle.template_compiler_codegen.specs.Statements.{Ways, closing_with, statement_code, statements_code}
use Rattle.template_compiler_emission.specs.Puts.{Keeps, Puts}
use Rattle.template_compiler_statement_codegen.specs.Breaks.{Places, no_places, then_places, breaks_of, breaks_in, led}
use Rattle.template_compiler_tree_parts.specs.Listed.{statements_in}
use Rattle.template_compiler_statement_codegen.specs.Listed.{condition_of}
use Rattle.template_compiler_statement_codegen.specs.declared.rounds.Closing.{Closing}
use Rattle.template_compiler_statement_codegen.specs.declared.rounds.Closing.TheVariants.{Frame, AutoEscape, Capture, Text}
use Rattle.template_compiler_statement_codegen.specs.declared.rounds.Round.{Round}

abbrev pub closing_code : Closing → Code
closing_code Frame = pop_frame
closing_code AutoEscape = pop_auto_escape
closing_code Capture = end_capture
closing_code Text = discard_top

-- what closes all that is open, the innermost first
abbrev pub closed_by : List Closing → List Code
closed_by [] = []
closed_by (closing ∷ inner) = closed_by inner ++ closing_code closing ∷ []

-- where the ways out lead: `break` to a place that is not known yet
abbrev pub ways_of : Round → Ways
ways_of round = record { closings = closed_by round.closings.items; break_to = 0; continue_to = round.asks }

-- a piece of code stands behind the instructions, and the places of its breaks behind those of the loop
pub record Lowers (piece : Coded) (places : Places) (old new : Instructions) (round later : Round) : Type 0 where
  pub put : Puts piece old new
  pub breaks : later.breaks.items ≡ round.breaks.items ++ places (length (code_in old))
  pub asks : later.asks ≡ round.asks
  pub closings : later.closings.items ≡ round.closings.items

-- the same, where a piece is still left, and then jumps at some places are told that they lead to the end
pub record Remains (piece : Coded) (places : Places) (left : Coded) (left_places : Places) (ends : List ℕ) (old now : Instructions) (round later : Round) : Type 0 where
  pub code : (let all = code_in now ++ left (length (code_in now)) in led (length all) ends all) ≡ code_in old ++ piece (length (code_in old))
  pub breaks : later.breaks.items ++ left_places (length (code_in now)) ≡ round.breaks.items ++ places (length (code_in old))
  pub same : Keeps old now
  pub asks : later.asks ≡ round.asks
  pub closings : later.closings.items ≡ round.closings.items

abbrev pub LowersStatement : Statement → Instructions → Instructions → Round → Round → Type 0
LowersStatement s old new round later = Lowers (statement_code (ways_of round) s) (breaks_of (ways_of round) s) old new round later

abbrev pub LowersBody : Statements → Instructions → Instructions → Round → Round → Type 0
LowersBody ss old new round later = Lowers (statements_code (ways_of round) ss) (breaks_in (ways_of round) ss) old new round later

-- a body inside of what is closed behind it
abbrev pub closed_code : Code → Ways → Statements → Coded
closed_code close ways ss = then_code (statements_code (closing_with close ways) ss) (one close)

abbrev pub closed_places : Code → Ways → Statements → Places
closed_places close ways ss = then_places (statements_code (closing_with close ways) ss) (breaks_in (closing_with close ways) ss) no_places

-- what leaves a capture ends it, and drops its text
abbrev pub capturing : Ways → Ways
capturing ways = closing_with end_capture (closing_with discard_top ways)

-- a condition up to its else part, and the place of the jump past that, where it is not told yet
abbrev pub LowersBranch : IfCond → List ℕ → Instructions → Instructions → Round → Round → Type 0
LowersBranch c ends old new round later =
    Remains (statement_code (ways_of round) (condition_of c)) (breaks_of (ways_of round) (condition_of c))
    (statements_code (ways_of round) (statements_in c.false_body.items)) (breaks_in (ways_of round) (statements_in c.false_body.items))
    ends old new round later

-- a condition with the chain behind it, but for the jumps behind its branches, which are not told yet
abbrev pub LowersChain : IfCond → List ℕ → Instructions → Instructions → Round → Round → Type 0
LowersChain c ends old new round later =
    Remains (statement_code (ways_of round) (condition_of c)) (breaks_of (ways_of round) (condition_of c)) nothing no_places ends old new round later

abbrev pub places_in : Option ℕ → List ℕ
places_in (Some place) = place ∷ []
places_in None = []
