-- The walk of statements: their events in the order of execution, and between them the priced steps. A loop does at
-- most so many rounds as the bound says.
use Rattle.std.specs.Prelude.{ℕ, ◌+◌, zero, suc, Bool, true, false, ◌&&◌, List, [], ◌∷◌, ◌++◌, Option, None, Some, codes, bytes_eq, if◌then◌else◌}
use Rattle.template_values_model.specs.Val as values
use Rattle.template_values_model.specs.Val.{Val}
use Rattle.template_values_operators.specs.Kinds.{is_undefined}
use Rattle.template_compiler_tree.specs.Tree as tree
use Rattle.template_compiler_tree.specs.Tree.{Expression, Optional, Expressions, Arguments, positional, no_arguments, arguments_more, Statement, Statements, Assignments, Imports, variable, attribute, list_literal, call, absent, given, no_expressions, expressions_more, raw, print, for_loop, if_condition, with_block, set, set_block, auto_escape, filter_block, block, import, from_import, extends, include, macro, continue_loop, break_loop, do_call, no_statements, statements_more, no_assignments, assignments_more, no_imports, imports_more}
use Rattle.template_compiler_tree.specs.Kinds.{is_empty}
use Rattle.template_compiler_process.specs.Process as events
use Rattle.template_compiler_process.specs.Process.{Counts, no_counts, counted_together, Making, Ask, store, set_attribute, unpack, spread, build_list, write_raw, write_value, open_frame, close_frame, Looping, open_loop, next_item, did_not_iterate, close_loop, open_escape, close_escape, begin_capture, end_capture, enclose, get_closure, build_macro, call_block, recurse, super_block, load_blocks, export_locals, Process, over, step, asks, cut_short, on_done, on_value, on_item, on_items, on_all, on_closure, done_asked, value_asked, truth_asked}
use Rattle.template_compiler_names.specs.Names.{reversed}
use Rattle.template_compiler_names.specs.Enclosed.{enclosed_names, uses_caller}
use Rattle.template_compiler_walk.specs.Expressions.{Giving, alone, passed_walk, Callee, by_name, by_block, callee_of, called_walk, expression_walk, expressions_walk, object_walk, positional_walks, keyword_walks, filters_walk}
use Rattle.template_compiler_walk.specs.Counting.{loop_counts, counts_by, counts_among, MacroBody, LoopRounds}

-- where `break` and `continue` lead
pub record Exits : Type 0 where
  pub on_break : Process
  pub on_continue : Process

-- outside of loops, where no `break` or `continue` stands
abbrev pub outside : Exits
outside = record { on_break = cut_short; on_continue = cut_short }

-- what is open is closed on the way out
abbrev pub closing : Ask → Exits → Exits
closing close exits = record { on_break = asks close (on_done exits.on_break); on_continue = asks close (on_done exits.on_continue) }

-- a capture ends on the way out, for a step, and its text is dropped
abbrev pub capture_left : Process → Process
capture_left out = value_asked end_capture (λ text. out)

abbrev pub capturing : Exits → Exits
capturing exits = record { on_break = capture_left exits.on_break; on_continue = capture_left exits.on_continue }

abbrev pub number_of : Expressions → ℕ
number_of no_expressions = 0
number_of (expressions_more e es) = suc (number_of es)

abbrev mutual
  -- a value is stored in a target: a name, an attribute of a namespace, or targets that it is unpacked into
  pub target_walk : Expression → Val → Process → Process
  target_walk (variable name) v go = done_asked (store name v) go
  target_walk (attribute e name) v go = expression_walk e (λ holder. done_asked (set_attribute name v holder) go)
  target_walk (list_literal targets) v go =
      let count = number_of targets in step (asks (unpack count v) (on_items count (λ vs. targets_walk targets vs go)))
  target_walk _ v go = cut_short

  -- from the first to the last
  pub targets_walk : Expressions → List Val → Process → Process
  targets_walk (expressions_more target targets) (v ∷ vs) go = target_walk target v (targets_walk targets vs go)
  targets_walk _ _ go = go

-- each value, and then its target
abbrev pub assignments_walk : Assignments → Process → Process
assignments_walk no_assignments go = go
assignments_walk (assignments_more target e more) go = expression_walk e (λ v. target_walk target v (assignments_walk more go))

-- so many rounds at most: an item is asked for, one step, and the round leads back by one step
abbrev pub rounds : ℕ → (Val → Exits → Process → Process) → Process → Process
rounds zero round finished = cut_short
rounds (suc n) round finished =
    let again = step (rounds n round finished) in
    step (asks next_item (on_item (λ v. round v (record { on_break = step finished; on_continue = again }) again) finished))

-- a loop has its variable, and a number behind so many if it may be called again
abbrev pub looping_behind : Bool → Counts → Looping
looping_behind recursive first = record { variable = true; rounds = if recursive then Some first.rounds else None }

-- a loop without its variable
abbrev pub nameless_loop : Looping
nameless_loop = record { variable = false; rounds = None }

-- so many rounds at most, each over an item that goes behind those that were kept, for three steps, or does not
abbrev pub kept_rounds : ℕ → (Val → Process → Process → Process) → List Val → (List Val → Process) → Process
kept_rounds zero round kept finished = cut_short
kept_rounds (suc n) round kept finished =
    step (asks next_item (on_item
    (λ v. round v (step (step (step (step (kept_rounds n round (kept ++ v ∷ []) finished))))) (step (kept_rounds n round kept finished)))
    (finished kept)))

-- whether an item is kept: it is stored in the target, and the condition tells
abbrev pub sifting : Expression → Expression → Val → Process → Process → Process
sifting target condition v keeps passes = target_walk target v (expression_walk condition (λ c. truth_asked c keeps passes))

-- what a loop goes over: the value of an expression; with a condition, the list of those of its items that it keeps,
-- which a loop of its own finds, without its variable
abbrev pub iterable_walk : ℕ → Expression → Expression → Optional → (Val → Process) → Process
iterable_walk n target e absent go = expression_walk e go
iterable_walk n target e (given condition) go =
    step (asks (spread []) (on_all (λ none_yet.
    expression_walk e (λ v. asks (open_loop nameless_loop v) (on_done
    (kept_rounds n (sifting target condition) none_yet (λ kept. asks close_loop (on_done (value_asked (build_list kept) go)))))))))

-- the end of a loop: its frame is closed; an else part runs where no item was given, behind a test
abbrev pub loop_end : Statements → Process → Process → Process
loop_end no_statements otherwise go = asks close_loop (on_done go)
loop_end (statements_more s ss) otherwise go =
    asks did_not_iterate (on_value (λ flag. asks close_loop (on_done (truth_asked flag otherwise go))))

-- what a print writes: a value; or what a block, `super()`, or the rounds of the loop over a value write by themselves
pub data Printed : Type 0 where
  prints_value : Printed
  prints_block : List ℕ → Printed
  prints_super : Printed
  prints_rounds : Expression → Printed

abbrev pub is_super_name : List ℕ → Bool
is_super_name name = bytes_eq name (codes "super")

abbrev pub is_loop_name : List ℕ → Bool
is_loop_name name = bytes_eq name (codes "loop")

-- `loop` is called with one plain argument
abbrev pub printed_rounds : Arguments → Printed
printed_rounds (arguments_more (positional e) no_arguments) = prints_rounds e
printed_rounds _ = prints_value

abbrev pub printed_by : Callee → Arguments → Printed
printed_by (by_name name) args =
    if is_super_name name && is_empty args then prints_super else if is_loop_name name then printed_rounds args else prints_value
printed_by (by_block name) args = prints_block name
printed_by _ args = prints_value

abbrev pub printed_of : Expression → Printed
printed_of (call callee args) = printed_by (callee_of callee args) args
printed_of _ = prints_value

abbrev pub printed_walk : Printed → Giving → Process → Process
printed_walk prints_value gives go = gives (λ v. done_asked (write_value v) go)
printed_walk (prints_block name) gives go = done_asked (call_block name) go
printed_walk prints_super gives go = done_asked super_block go
printed_walk (prints_rounds e) gives go = expression_walk e (λ v. done_asked (recurse v) go)

-- the names that are imported, and where each is stored: under itself, or under its alias
abbrev pub imported_names : Imports → Expressions
imported_names no_imports = no_expressions
imported_names (imports_more e alias more) = expressions_more e (imported_names more)

abbrev pub stored_as : Expression → Optional → Expression
stored_as e absent = e
stored_as e (given alias) = alias

-- from the last to the first
abbrev pub imports_stored : Imports → List Val → Process → Process
imports_stored (imports_more e alias more) (v ∷ vs) go = imports_stored more vs (target_walk (stored_as e alias) v go)
imports_stored _ vs go = go

-- a template runs in a frame of its own
abbrev pub apart : Expression → Process → Process
apart e go = asks open_frame (on_done (expression_walk e (λ v. done_asked (events.include false v) go)))

-- behind a branch that an else part follows, one step leads past that
abbrev pub past : Statements → Process → Process
past no_statements go = go
past (statements_more s ss) go = step go

-- the texts of the names of parameters
abbrev pub name_text : Expression → Val
name_text (variable name) = values.text name
name_text _ = values.text []

abbrev pub name_texts : Expressions → List Val
name_texts no_expressions = []
name_texts (expressions_more e es) = name_text e ∷ name_texts es

-- the making of a macro whose body stands behind so many
abbrev pub making_of : Counts → List ℕ → Expressions → Expressions → Statements → Making
making_of first name arguments defaults body = record {
  name = name;
  arguments = name_texts arguments;
  caller = uses_caller arguments defaults body;
  number = (counted_together first (counts_among body)).macros;
}

abbrev pub enclosed_walk : List (List ℕ) → Process → Process
enclosed_walk [] go = go
enclosed_walk (name ∷ names) go = done_asked (enclose name) (enclosed_walk names go)

-- a macro is made: a step leads past its body; its closure gets the names that it encloses
abbrev pub making_walk : Making → List (List ℕ) → Giving
making_walk making names go = step (enclosed_walk names (step (asks get_closure (on_closure (λ c. asks (build_macro making c) (on_value go))))))

abbrev pub declared_walk : Counts → List ℕ → Expressions → Expressions → Statements → Giving
declared_walk first name arguments defaults body go =
    making_walk (making_of first name arguments defaults body) (enclosed_names arguments defaults body) go

abbrev pub caller_name : List ℕ
caller_name = codes "caller"

-- the call of a call block: what its body is made is the last keyword, but where a block is called
abbrev pub calling_walk : Expression → Arguments → Giving → Giving
calling_walk callee passed caller go =
    called_walk (callee_of callee passed) (expression_walk callee) (object_walk callee)
    (λ front. passed_walk front (positional_walks passed) (keyword_walks passed ++ alone (caller_name, caller) ∷ [])) go

abbrev mutual
  pub statement_walk : ℕ → Counts → Statement → Exits → Process → Process
  statement_walk n first (raw text) exits go = done_asked (write_raw text) go
  statement_walk n first (print e) exits go = printed_walk (printed_of e) (expression_walk e) go
  statement_walk n first (for_loop target e condition recursive body otherwise) exits go =
      let own = counted_together first (loop_counts recursive) in
      iterable_walk n target e condition (λ v. asks (open_loop (looping_behind recursive first) v) (on_done
      (rounds n (λ item inner again. target_walk target item (statements_walk n own body inner again))
      (loop_end otherwise (statements_walk n (counted_together own (counts_among body)) otherwise exits go) go))))
  statement_walk n first (if_condition e body otherwise) exits go =
      expression_walk e (λ v. truth_asked v (statements_walk n first body exits (past otherwise go))
      (statements_walk n (counted_together first (counts_among body)) otherwise exits go))
  statement_walk n first (with_block assignments body) exits go =
      asks open_frame (on_done (assignments_walk assignments
      (statements_walk n first body (closing close_frame exits) (asks close_frame (on_done go)))))
  statement_walk n first (set target e) exits go = expression_walk e (λ v. target_walk target v go)
  statement_walk n first (set_block target absent body) exits go =
      asks (begin_capture true) (on_done
      (statements_walk n first body (capturing exits) (value_asked end_capture (λ text. target_walk target text go))))
  statement_walk n first (set_block target (given filters) body) exits go =
      asks (begin_capture true) (on_done
      (statements_walk n first body (capturing exits) (value_asked end_capture (λ text. filters_walk filters text (λ v. target_walk target v go)))))
  statement_walk n first (auto_escape e body) exits go =
      expression_walk e (λ v. asks (open_escape v) (on_done
      (statements_walk n first body (closing close_escape exits) (asks close_escape (on_done go)))))
  statement_walk n first (filter_block filters body) exits go =
      asks (begin_capture true) (on_done
      (statements_walk n first body (capturing exits) (value_asked end_capture (λ text. filters_walk filters text (λ v. done_asked (write_value v) go)))))
  statement_walk n first (block name required body) exits go = done_asked (call_block name) go
  statement_walk n first (import e target) exits go =
      asks (begin_capture true) (on_done (apart e
      (value_asked end_capture (λ text. asks (export_locals text) (on_value (λ m. asks close_frame (on_done (target_walk target m go))))))))
  statement_walk n first (from_import e names) exits go =
      asks (begin_capture false) (on_done (apart e
      (expressions_walk (imported_names names) (λ vs. asks close_frame (on_done
      (imports_stored names vs (value_asked end_capture (λ dropped. go))))))))
  statement_walk n first (extends e) exits go = expression_walk e (λ v. asks (load_blocks v) (on_done go))
  statement_walk n first (include e ignore_missing) exits go = expression_walk e (λ v. done_asked (events.include ignore_missing v) go)
  statement_walk n first (macro name arguments defaults body) exits go =
      declared_walk first name arguments defaults body (λ v. done_asked (store name v) go)
  statement_walk n first (tree.call_block callee passed arguments defaults body) exits go =
      calling_walk callee passed (declared_walk first caller_name arguments defaults body) (λ v. done_asked (write_value v) go)
  statement_walk n first (do_call callee args) exits go = expression_walk (call callee args) (λ v. go)
  statement_walk n first continue_loop exits go = exits.on_continue
  statement_walk n first break_loop exits go = exits.on_break
  statement_walk n first _ exits go = cut_short

  pub statements_walk : ℕ → Counts → Statements → Exits → Process → Process
  statements_walk n first no_statements exits go = go
  statements_walk n first (statements_more s ss) exits go = statement_walk n first s exits (statements_walk n (counted_together first (counts_by s)) ss exits go)

-- a whole template, which leaves no operand, and an expression alone, which leaves its value
abbrev pub template_walk : ℕ → Statements → Process
template_walk n tree = statements_walk n no_counts tree outside (over [])

abbrev pub standalone_walk : Expression → Process
standalone_walk e = expression_walk e (λ v. over (v ∷ []))

-- what is passed for a parameter is stored, or its default where nothing was passed
abbrev pub argument_walk : Expression → Optional → Val → Process → Process
argument_walk target absent v go = target_walk target v go
argument_walk target (given default) v go =
    step (truth_asked (values.truth (is_undefined v)) (expression_walk default (λ w. target_walk target w go)) (target_walk target v go))

-- the first default, if there is one, and the others
abbrev pub first_of : Expressions → Optional
first_of no_expressions = absent
first_of (expressions_more e es) = given e

abbrev pub rest_of : Expressions → Expressions
rest_of no_expressions = no_expressions
rest_of (expressions_more e es) = es

abbrev pub arguments_walk : Expressions → Expressions → List Val → Process → Process
arguments_walk (expressions_more target targets) defaults (v ∷ vs) go =
    argument_walk target (first_of defaults) v (arguments_walk targets (rest_of defaults) vs go)
arguments_walk _ defaults vs go = go

-- the body of a macro, over what is passed for its parameters, that for the last one first
abbrev pub macro_walk : ℕ → MacroBody → List Val → Process
macro_walk n m vs =
    arguments_walk (reversed m.arguments no_expressions) (reversed m.defaults no_expressions) vs
    (statements_walk n m.first m.body outside (over []))

-- the rounds of a loop that is called again: the answer to the closing of its frame ends them
abbrev pub rounds_walk : ℕ → LoopRounds → Process
rounds_walk n r =
    rounds n (λ item inner again. target_walk r.target item (statements_walk n r.first r.body inner again))
    (loop_end r.otherwise cut_short cut_short)
