-- The macros and the rounds of loops that stand in what is made of constructs that have a walk are made of such, too.
use Rattle.std.proofs.Common.{ℕ, ◌==◌, Bool, true, false, Option, None, Some, if◌then◌else◌}
use Rattle.std.specs.Prelude.{nat_lt}
use Rattle.template_compiler_tree.specs.Tree.{Statement, Statements, for_loop, if_condition, with_block, set_block, auto_escape, filter_block, macro, call_block, absent, given, no_statements, statements_more}
use Rattle.template_compiler_process.specs.Process.{Counts, no_counts, counted_together}
use Rattle.template_compiler_walk.specs.Expressions.{Callee, by_name, by_method, by_block, by_value, callee_of}
use Rattle.template_compiler_walk.specs.Counting.{loop_counts, counts_by, counts_among, MacroBody, LoopRounds, within_caller, macro_by, macro_among, rounds_or, rounds_by, rounds_among, macro_numbered, rounds_numbered}
use Rattle.template_compiler_walk.specs.Runnable.{AreRunnable, IsTarget, AreTargets, IsRunnableStatement, AreRunnableStatements, IsRunnableTemplate}

abbrev pub MacroRuns : MacroBody → Type 0
MacroRuns b = AreTargets b.arguments × AreRunnable b.defaults × AreRunnableStatements false b.body

abbrev pub RoundsRun : LoopRounds → Type 0
RoundsRun r = IsTarget r.target × AreRunnableStatements true r.body

-- what is found, if anything is
abbrev pub IsIfFound : {X : Type 0} → (X → Type 0) → Option X → Type 0
IsIfFound is None = Unit {0}
IsIfFound is (Some x) = is x

either_found : {X : Type 0} (is : X → Type 0) (b : Bool) (o p : Option X) → IsIfFound is o → IsIfFound is p → IsIfFound is (if b then o else p)
either_found is true o p first second = first
either_found is false o p first second = second

caller_found : {X : Type 0} (is : X → Type 0) (callee : Callee) (o : Option X) → IsIfFound is o → IsIfFound is (within_caller callee o)
caller_found is (by_block name) o found = tt
caller_found is (by_name name) o found = found
caller_found is (by_method name) o found = found
caller_found is by_value o found = found

mutual
  macro_in : (number : ℕ) (first : Counts) (looping : Bool) (st : Statement) → IsRunnableStatement looping st → IsIfFound MacroRuns (macro_by number first st)
  macro_in number first looping (for_loop target e condition recursive body otherwise) h =
      let inner = counted_together first (loop_counts recursive) in
      let last = counted_together inner (counts_among body) in
      either_found MacroRuns (nat_lt number last.macros) (macro_among number inner body) (macro_among number last otherwise)
      (macro_within number inner true body h.3) (macro_within number last looping otherwise h.4)
  macro_in number first looping (if_condition e body otherwise) h =
      let last = counted_together first (counts_among body) in
      either_found MacroRuns (nat_lt number last.macros) (macro_among number first body) (macro_among number last otherwise)
      (macro_within number first looping body h.1) (macro_within number last looping otherwise h.2)
  macro_in number first looping (with_block pairs body) h = macro_within number first looping body h.1
  macro_in number first looping (set_block target absent body) h = macro_within number first looping body h.1
  macro_in number first looping (set_block target (given filters) body) h = macro_within number first looping body h.2
  macro_in number first looping (auto_escape e body) h = macro_within number first looping body h.1
  macro_in number first looping (filter_block filters body) h = macro_within number first looping body h.1
  macro_in number first looping (macro name arguments defaults body) h =
      either_found MacroRuns (nat_lt number (counted_together first (counts_among body)).macros) (macro_among number first body)
      (Some (record { arguments = arguments; defaults = defaults; body = body; first = first }))
      (macro_within number first false body h.2) h
  macro_in number first looping (call_block callee passed arguments defaults body) h =
      let own : Option MacroBody = Some (record { arguments = arguments; defaults = defaults; body = body; first = first }) in
      let last : ℕ = (counted_together first (counts_among body)).macros in
      caller_found MacroRuns (callee_of callee passed) (if nat_lt number last then macro_among number first body else own)
      (either_found MacroRuns (nat_lt number last) (macro_among number first body) own (macro_within number first false body h.3) (h.1, h.2, h.3))
  macro_in number first looping _ h = tt

  macro_within : (number : ℕ) (first : Counts) (looping : Bool) (ss : Statements) → AreRunnableStatements looping ss → IsIfFound MacroRuns (macro_among number first ss)
  macro_within number first looping no_statements h = tt
  macro_within number first looping (statements_more st ss) h =
      let last = counted_together first (counts_by st) in
      either_found MacroRuns (nat_lt number last.macros) (macro_by number first st) (macro_among number last ss)
      (macro_in number first looping st h.0) (macro_within number last looping ss h.1)

own_found : (recursive : Bool) (number : ℕ) (first : Counts) (own : LoopRounds) (inner : Option LoopRounds) → RoundsRun own → IsIfFound RoundsRun inner
    → IsIfFound RoundsRun (rounds_or recursive number first own inner)
own_found true number first own inner runs found = either_found RoundsRun (number == first.rounds) (Some own) inner runs found
own_found false number first own inner runs found = found

mutual
  rounds_in : (number : ℕ) (first : Counts) (looping : Bool) (st : Statement) → IsRunnableStatement looping st → IsIfFound RoundsRun (rounds_by number first st)
  rounds_in number first looping (for_loop target e condition recursive body otherwise) h =
      let inner = counted_together first (loop_counts recursive) in
      let last = counted_together inner (counts_among body) in
      own_found recursive number first (record { target = target; body = body; otherwise = otherwise; first = inner })
      (if nat_lt number last.rounds then rounds_among number inner body else rounds_among number last otherwise) (h.0, h.3)
      (either_found RoundsRun (nat_lt number last.rounds) (rounds_among number inner body) (rounds_among number last otherwise)
      (rounds_within number inner true body h.3) (rounds_within number last looping otherwise h.4))
  rounds_in number first looping (if_condition e body otherwise) h =
      let last = counted_together first (counts_among body) in
      either_found RoundsRun (nat_lt number last.rounds) (rounds_among number first body) (rounds_among number last otherwise)
      (rounds_within number first looping body h.1) (rounds_within number last looping otherwise h.2)
  rounds_in number first looping (with_block pairs body) h = rounds_within number first looping body h.1
  rounds_in number first looping (set_block target absent body) h = rounds_within number first looping body h.1
  rounds_in number first looping (set_block target (given filters) body) h = rounds_within number first looping body h.2
  rounds_in number first looping (auto_escape e body) h = rounds_within number first looping body h.1
  rounds_in number first looping (filter_block filters body) h = rounds_within number first looping body h.1
  rounds_in number first looping (macro name arguments defaults body) h = rounds_within number first false body h.2
  rounds_in number first looping (call_block callee passed arguments defaults body) h =
      caller_found RoundsRun (callee_of callee passed) (rounds_among number first body) (rounds_within number first false body h.3)
  rounds_in number first looping _ h = tt

  rounds_within : (number : ℕ) (first : Counts) (looping : Bool) (ss : Statements) → AreRunnableStatements looping ss → IsIfFound RoundsRun (rounds_among number first ss)
  rounds_within number first looping no_statements h = tt
  rounds_within number first looping (statements_more st ss) h =
      let last = counted_together first (counts_by st) in
      either_found RoundsRun (nat_lt number last.rounds) (rounds_by number first st) (rounds_among number last ss)
      (rounds_in number first looping st h.0) (rounds_within number last looping ss h.1)

pub macro_runs : (number : ℕ) (t : Statements) → IsRunnableTemplate t → IsIfFound MacroRuns (macro_numbered number t)
macro_runs number t h = macro_within number no_counts false t h

pub rounds_run : (number : ℕ) (t : Statements) → IsRunnableTemplate t → IsIfFound RoundsRun (rounds_numbered number t)
rounds_run number t h = rounds_within number no_counts false t h
