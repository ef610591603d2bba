-- How many macros and loops that may be called again stand in a tree, and which has a number: macros are counted as they
-- are made, so that those in a body come before its own; loops as they open. The body of a macro stands in the stream that
-- makes it, that of a block is a stream of its own.
use Rattle.std.specs.Prelude.{ℕ, ◌+◌, ◌==◌, Bool, true, false, if◌then◌else◌, Option, None, Some, nat_lt}
use Rattle.template_compiler_tree.specs.Tree.{Expression, Expressions, Statement, Statements, for_loop, if_condition, with_block, set_block, auto_escape, filter_block, macro, call_block, no_statements, statements_more}
use Rattle.template_compiler_process.specs.Process.{Counts, no_counts, counted_together}
use Rattle.template_compiler_walk.specs.Expressions.{Callee, by_block, callee_of}

abbrev pub one_macro : Counts
one_macro = record { macros = 1; rounds = 0 }

-- a loop counts where it may be called again
abbrev pub loop_counts : Bool → Counts
loop_counts true = record { macros = 0; rounds = 1 }
loop_counts false = no_counts

-- a macro, behind what stands in its body
abbrev pub macro_counts : Counts → Counts
macro_counts inner = counted_together inner one_macro

-- so it is of the body of a call block, which is made a macro where no block is called
abbrev pub caller_counts : Callee → Counts → Counts
caller_counts (by_block name) inner = no_counts
caller_counts _ inner = macro_counts inner

abbrev mutual
  pub counts_by : Statement → Counts
  counts_by (for_loop _ _ _ recursive body otherwise) =
      counted_together (loop_counts recursive) (counted_together (counts_among body) (counts_among otherwise))
  counts_by (if_condition _ body otherwise) = counted_together (counts_among body) (counts_among otherwise)
  counts_by (with_block _ body) = counts_among body
  counts_by (set_block _ _ body) = counts_among body
  counts_by (auto_escape _ body) = counts_among body
  counts_by (filter_block _ body) = counts_among body
  counts_by (macro _ _ _ body) = macro_counts (counts_among body)
  counts_by (call_block callee passed _ _ body) = caller_counts (callee_of callee passed) (counts_among body)
  counts_by _ = no_counts

  pub counts_among : Statements → Counts
  counts_among no_statements = no_counts
  counts_among (statements_more s ss) = counted_together (counts_by s) (counts_among ss)

-- what a macro does when it is called: its parameters, the defaults of the last of them, its body, and how many macros and
-- loops stand before it in its stream
pub record MacroBody : Type 0 where
  pub arguments : Expressions
  pub defaults : Expressions
  pub body : Statements
  pub first : Counts

-- the rounds of a loop: its target, its body, its else part, and how many stand before its body
pub record LoopRounds : Type 0 where
  pub target : Expression
  pub body : Statements
  pub otherwise : Statements
  pub first : Counts

-- the one of two places where a number is: the first, if it is below so many, else the other
abbrev pub below_or : {X : Type 0} → ℕ → ℕ → Option X → Option X → Option X
below_or number many first second = if nat_lt number many then first else second

abbrev pub within_caller : {X : Type 0} → Callee → Option X → Option X
within_caller (by_block name) found = None
within_caller _ found = found

abbrev mutual
  -- the macro of a number, in a statement behind so many
  pub macro_by : ℕ → Counts → Statement → Option MacroBody
  macro_by number first (for_loop _ _ _ recursive body otherwise) =
      let inner = counted_together first (loop_counts recursive) in
      let last = counted_together inner (counts_among body) in
      below_or number last.macros (macro_among number inner body) (macro_among number last otherwise)
  macro_by number first (if_condition _ body otherwise) =
      let last = counted_together first (counts_among body) in
      below_or number last.macros (macro_among number first body) (macro_among number last otherwise)
  macro_by number first (with_block _ body) = macro_among number first body
  macro_by number first (set_block _ _ body) = macro_among number first body
  macro_by number first (auto_escape _ body) = macro_among number first body
  macro_by number first (filter_block _ body) = macro_among number first body
  macro_by number first (macro _ arguments defaults body) =
      below_or number (counted_together first (counts_among body)).macros (macro_among number first body)
      (Some (record { arguments = arguments; defaults = defaults; body = body; first = first }))
  macro_by number first (call_block callee passed arguments defaults body) =
      within_caller (callee_of callee passed)
      (below_or number (counted_together first (counts_among body)).macros (macro_among number first body)
      (Some (record { arguments = arguments; defaults = defaults; body = body; first = first })))
  macro_by number first _ = None

  pub macro_among : ℕ → Counts → Statements → Option MacroBody
  macro_among number first no_statements = None
  macro_among number first (statements_more s ss) =
      let last = counted_together first (counts_by s) in
      below_or number last.macros (macro_by number first s) (macro_among number last ss)

-- the loop itself, if it has the number, or one that stands in it
abbrev pub rounds_or : Bool → ℕ → Counts → LoopRounds → Option LoopRounds → Option LoopRounds
rounds_or true number first own inner = if number == first.rounds then Some own else inner
rounds_or false number first own inner = inner

abbrev mutual
  -- so it is of the rounds of a loop that may be called again
  pub rounds_by : ℕ → Counts → Statement → Option LoopRounds
  rounds_by number first (for_loop target _ _ recursive body otherwise) =
      let inner = counted_together first (loop_counts recursive) in
      let last = counted_together inner (counts_among body) in
      rounds_or recursive number first (record { target = target; body = body; otherwise = otherwise; first = inner })
      (below_or number last.rounds (rounds_among number inner body) (rounds_among number last otherwise))
  rounds_by number first (if_condition _ body otherwise) =
      let last = counted_together first (counts_among body) in
      below_or number last.rounds (rounds_among number first body) (rounds_among number last otherwise)
  rounds_by number first (with_block _ body) = rounds_among number first body
  rounds_by number first (set_block _ _ body) = rounds_among number first body
  rounds_by number first (auto_escape _ body) = rounds_among number first body
  rounds_by number first (filter_block _ body) = rounds_among number first body
  rounds_by number first (macro _ _ _ body) = rounds_among number first body
  rounds_by number first (call_block callee passed _ _ body) = within_caller (callee_of callee passed) (rounds_among number first body)
  rounds_by number first _ = None

  pub rounds_among : ℕ → Counts → Statements → Option LoopRounds
  rounds_among number first no_statements = None
  rounds_among number first (statements_more s ss) =
      let last = counted_together first (counts_by s) in
      below_or number last.rounds (rounds_by number first s) (rounds_among number last ss)

-- those of a whole stream's tree
abbrev pub macro_numbered : ℕ → Statements → Option MacroBody
macro_numbered number tree = macro_among number no_counts tree

abbrev pub rounds_numbered : ℕ → Statements → Option LoopRounds
rounds_numbered number tree = rounds_among number no_counts tree
