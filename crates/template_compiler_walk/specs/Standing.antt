-- Where a statement stands in a tree, and behind how many macros, and loops that may be called again, a walk comes to it.
use Rattle.std.specs.Prelude.{ℕ, List, Bool}
use Rattle.template_compiler_tree.specs.Tree.{Expression, Expressions, Optional, Arguments, Statement, Statements, Assignments, for_loop, if_condition, with_block, set_block, auto_escape, filter_block, macro, call_block, statements_more}
use Rattle.template_compiler_process.specs.Process.{Counts, counted_together}
use Rattle.template_compiler_walk.specs.Expressions.{Callee, by_block, callee_of}
use Rattle.template_compiler_walk.specs.Counting.{loop_counts, counts_by, counts_among}

-- the body of a call block is made a macro, where no block is called
abbrev pub IsMade : Callee → Type 0
IsMade (by_block name) = ⊥
IsMade _ = Unit {0}

-- The walk of a statement behind so many goes over a body behind so many: so does a macro, when it is called.
pub data Enters : Statement → Counts → Statements → Counts → Type 0 where
  in_rounds : {first : Counts} {target e : Expression} {condition : Optional} {recursive : Bool} {body otherwise : Statements}
      → Enters (for_loop target e condition recursive body otherwise) first body (counted_together first (loop_counts recursive))
  behind_rounds : {first : Counts} {target e : Expression} {condition : Optional} {recursive : Bool} {body otherwise : Statements}
      → Enters (for_loop target e condition recursive body otherwise) first otherwise
      (counted_together (counted_together first (loop_counts recursive)) (counts_among body))
  in_branch : {first : Counts} {e : Expression} {body otherwise : Statements} → Enters (if_condition e body otherwise) first body first
  in_other : {first : Counts} {e : Expression} {body otherwise : Statements}
      → Enters (if_condition e body otherwise) first otherwise (counted_together first (counts_among body))
  in_with : {first : Counts} {assignments : Assignments} {body : Statements} → Enters (with_block assignments body) first body first
  in_set : {first : Counts} {target : Expression} {filters : Optional} {body : Statements} → Enters (set_block target filters body) first body first
  in_escape : {first : Counts} {e : Expression} {body : Statements} → Enters (auto_escape e body) first body first
  in_filter : {first : Counts} {filters : Expression} {body : Statements} → Enters (filter_block filters body) first body first
  in_macro : {first : Counts} {name : List ℕ} {arguments defaults : Expressions} {body : Statements}
      → Enters (macro name arguments defaults body) first body first
  in_caller : {first : Counts} {callee : Expression} {passed : Arguments} {arguments defaults : Expressions} {body : Statements}
      → IsMade (callee_of callee passed) → Enters (call_block callee passed arguments defaults body) first body first

-- A statement is one of these, or stands in the body of one: a walk that begins with them behind so many comes to it behind so many.
pub data Stands : Statement → Counts → Statements → Counts → Type 0 where
  here : {s : Statement} {ss : Statements} {first : Counts} → Stands s first (statements_more s ss) first
  later : {s t : Statement} {ss : Statements} {first before : Counts} → Stands s first ss (counted_together before (counts_by t))
      → Stands s first (statements_more t ss) before
  within : {s t : Statement} {body ss : Statements} {first before inner : Counts} → Enters t before body inner → Stands s first body inner
      → Stands s first (statements_more t ss) before
