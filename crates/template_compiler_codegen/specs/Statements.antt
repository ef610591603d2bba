-- The code of statements, from the place where they begin.
use Rattle.std.specs.Prelude.{ℕ, Bool, true, false, if◌then◌else◌, List, [], ◌∷◌, ◌++◌, None, pos}
use Rattle.template_compiler_tree.specs.declared.operators.BinOpKind.TheVariants.{Add}
use Rattle.template_values_model.specs.Val.{Val, int, list, vals_of}
use Rattle.template_compiler_tree.specs.Tree.{Expression, Optional, Expressions, Arguments, Statement, Statements, Assignments, Imports, variable, attribute, list_literal, call, absent, given, no_expressions, expressions_more, raw, print, for_loop, if_condition, with_block, set, set_block, auto_escape, filter_block, block, from_import, extends, macro, continue_loop, break_loop, do_call, no_statements, statements_more, no_assignments, assignments_more, no_imports, imports_more}
use Rattle.template_compiler_tree.specs.Tree as tree
use Rattle.template_compiler_names.specs.Names.{reversed}
use Rattle.template_compiler_names.specs.Enclosed.{enclosed_names, uses_caller}
use Rattle.template_compiler_walk.specs.Expressions.{alone, callee_of}
use Rattle.template_compiler_walk.specs.Counting.{MacroBody}
use Rattle.template_compiler_walk.specs.Statements.{number_of, Printed, prints_value, prints_block, prints_super, prints_rounds, printed_of, imported_names, stored_as, name_texts, caller_name, first_of, rest_of}
use Rattle.template_compiler_code.specs.Code.{Code, emit_raw, emit, store_local, set_attr, load_const, build_list, unpack_list, unpack_lists, operate, swap, dup_top, discard_top, jump_if_false, push_with, pop_frame, push_loop, push_did_not_iterate, pop_loop_frame, push_auto_escape, pop_auto_escape, begin_capture, end_capture, fast_super, fast_recurse, is_undefined, enclose, get_closure, build_macro, call_block, load_blocks, include, export_locals}
use Rattle.template_compiler_codegen.specs.Core.{Core, empty, straight, both, leaping, either, rounds, within, leave, sealed, chosen, choose, aside, flat}
pub use Rattle.template_compiler_codegen.specs.Core.{Ways, no_ways, own_ways, closing_with, rounds_code, aside_code, left_by}
use Rattle.template_compiler_codegen.specs.Expressions.{Coded, then_code, one, skipped, either_code, called_core, expression_core, object_core, positional_cores, keyword_cores, expressions_core, filters_core, expression_code}

abbrev mutual
  -- the value on top is stored in a target
  pub target_core : Expression → Core
  target_core (variable name) = straight (store_local name)
  target_core (attribute e name) = both (expression_core e) (straight (set_attr name))
  target_core (list_literal targets) = both (straight (unpack_list (number_of targets))) (targets_core targets)
  target_core _ = empty

  pub targets_core : Expressions → Core
  targets_core no_expressions = empty
  targets_core (expressions_more target targets) = both (target_core target) (targets_core targets)

abbrev pub assignments_core : Assignments → Core
assignments_core no_assignments = empty
assignments_core (assignments_more target e more) = both (expression_core e) (both (target_core target) (assignments_core more))

-- a loop has its variable, and may be called again or not
abbrev pub loop_flags : Bool → ℕ
loop_flags recursive = if recursive then 3 else 1

-- a loop that only finds what another goes over has none
abbrev pub no_flags : ℕ
no_flags = 0

-- what is added to a counted run, which takes its next value so
abbrev pub one_item : Val
one_item = int (pos 1)

-- the value on top goes into the counted run below it
abbrev pub keep_core : Core
keep_core = both (straight swap) (both (straight (load_const one_item)) (straight (operate Add)))

-- what a loop goes over: an expression; with a condition, the list of those of its items that the loop keeps, gathered in a
-- counted run
abbrev pub iterable_core : Expression → Expression → Optional → Core
iterable_core target e absent = expression_core e
iterable_core target e (given condition) =
    both (straight (unpack_lists 0)) (both (expression_core e) (both (straight (push_loop no_flags))
    (both (rounds (both (straight dup_top) (target_core target)) (sealed (both (expression_core condition) (either keep_core (straight discard_top)))))
    (both (straight pop_loop_frame) (straight (build_list None))))))

abbrev pub are_some : Statements → Bool
are_some no_statements = false
are_some (statements_more s ss) = true

-- behind the rounds: the loop's frame is closed; an else part runs where no item was given
abbrev pub loop_end_core : Statements → Core → Core
loop_end_core ss otherwise =
    chosen (are_some ss) (both (straight push_did_not_iterate) (both (straight pop_loop_frame) (leaping jump_if_false otherwise)))
    (straight pop_loop_frame)

-- a branch, with an else part where one follows
abbrev pub branches_core : Statements → Core → Core → Core
branches_core ss body otherwise = chosen (are_some ss) (either body otherwise) (leaping jump_if_false body)

-- what a print writes
abbrev pub printed_core : Printed → Core → Core
printed_core prints_value value_core = both (sealed value_core) (straight emit)
printed_core (prints_block name) value_core = straight (call_block name)
printed_core prints_super value_core = straight fast_super
printed_core (prints_rounds e) value_core = both (sealed (expression_core e)) (straight fast_recurse)

-- imported names are stored from the last to the first
abbrev pub imports_core : Imports → Core
imports_core no_imports = empty
imports_core (imports_more e alias more) = both (imports_core more) (target_core (stored_as e alias))

-- a template runs in a frame of its own
abbrev pub apart_core : Expression → Core
apart_core e = both (straight push_with) (both (sealed (expression_core e)) (straight (include false)))

-- a parameter is stored; with a default, that instead where nothing was passed
abbrev pub parameter_core : Expression → Optional → Core
parameter_core target absent = target_core target
parameter_core target (given default) =
    both (straight dup_top) (both (straight is_undefined)
    (both (leaping jump_if_false (both (straight discard_top) (expression_core default))) (target_core target)))

-- from the first of these to the last
abbrev pub parameters_core : Expressions → Expressions → Core
parameters_core no_expressions defaults = empty
parameters_core (expressions_more target targets) defaults =
    both (parameter_core target (first_of defaults)) (parameters_core targets (rest_of defaults))

-- the body of a macro, over what is passed for its parameters
abbrev pub bodied_core : Expressions → Expressions → Core → Core
bodied_core arguments defaults body =
    both (parameters_core (reversed arguments no_expressions) (reversed defaults no_expressions)) body

abbrev pub enclosed_core : List (List ℕ) → Core
enclosed_core [] = empty
enclosed_core (name ∷ names) = both (straight (enclose name)) (enclosed_core names)

-- whether a macro takes a caller
abbrev pub macro_flags : Bool → ℕ
macro_flags caller = if caller then 2 else 0

-- a macro is made of the closure and the list of its parameters' names
abbrev pub made_of_core : Expressions → List (List ℕ) → Core
made_of_core arguments names =
    both (enclosed_core names) (both (straight get_closure) (straight (load_const (list (vals_of (name_texts arguments))))))

abbrev pub declared_core : List ℕ → Expressions → Expressions → Statements → Core → Core
declared_core name arguments defaults body inner =
    aside (bodied_core arguments defaults inner) (made_of_core arguments (enclosed_names arguments defaults body))
    (λ offset. build_macro name offset (macro_flags (uses_caller arguments defaults body)))

-- the call of a call block: what its body is made is the last keyword, but where a block is called
abbrev pub calling_core : Expression → Arguments → Core → Core
calling_core callee passed caller =
    called_core (callee_of callee passed) (expression_core callee) (object_core callee) (positional_cores passed)
    (keyword_cores passed ++ alone (caller_name, caller) ∷ [])

abbrev mutual
  pub statement_core : Statement → Core
  statement_core (raw text) = straight (emit_raw text)
  statement_core (print e) = printed_core (printed_of e) (expression_core e)
  statement_core (for_loop target e condition recursive body otherwise) =
      both (sealed (iterable_core target e condition)) (both (straight (push_loop (loop_flags recursive)))
      (both (rounds (target_core target) (statements_core body))
      (loop_end_core otherwise (statements_core otherwise))))
  statement_core (if_condition e body otherwise) =
      both (sealed (expression_core e)) (branches_core otherwise (statements_core body) (statements_core otherwise))
  statement_core (with_block assignments body) =
      both (straight push_with) (both (sealed (assignments_core assignments))
      (both (within pop_frame (statements_core body)) (straight pop_frame)))
  statement_core (set target e) = both (sealed (expression_core e)) (sealed (target_core target))
  statement_core (set_block target absent body) =
      both (straight (begin_capture true)) (both (within discard_top (within end_capture (statements_core body)))
      (both (straight end_capture) (sealed (target_core target))))
  statement_core (set_block target (given filters) body) =
      both (straight (begin_capture true)) (both (within discard_top (within end_capture (statements_core body)))
      (both (straight end_capture) (both (sealed (filters_core filters)) (sealed (target_core target)))))
  statement_core (auto_escape e body) =
      both (sealed (expression_core e)) (both (straight push_auto_escape)
      (both (within pop_auto_escape (statements_core body)) (straight pop_auto_escape)))
  statement_core (filter_block filters body) =
      both (straight (begin_capture true)) (both (within discard_top (within end_capture (statements_core body)))
      (both (straight end_capture) (both (sealed (filters_core filters)) (straight emit))))
  statement_core (block name required body) = straight (call_block name)  -- its body is a stream of its own
  statement_core (tree.import e target) =
      both (straight (begin_capture true)) (both (apart_core e) (both (straight end_capture) (both (straight export_locals)
      (both (straight pop_frame) (sealed (target_core target))))))
  statement_core (from_import e names) =
      both (straight (begin_capture false)) (both (apart_core e) (both (sealed (expressions_core (imported_names names)))
      (both (straight pop_frame) (both (sealed (imports_core names)) (both (straight end_capture) (straight discard_top))))))
  statement_core (extends e) = both (sealed (expression_core e)) (straight load_blocks)
  statement_core (tree.include e ignore_missing) = both (sealed (expression_core e)) (straight (include ignore_missing))
  statement_core (macro name arguments defaults body) =
      both (sealed (declared_core name arguments defaults body (statements_core body))) (straight (store_local name))
  statement_core (tree.call_block callee passed arguments defaults body) =
      both (sealed (calling_core callee passed (declared_core caller_name arguments defaults body (statements_core body)))) (straight emit)
  statement_core (do_call callee args) = both (sealed (expression_core (call callee args))) (straight discard_top)
  statement_core continue_loop = leave false
  statement_core break_loop = leave true
  statement_core _ = empty  -- what has no walk has no code

  pub statements_core : Statements → Core
  statements_core no_statements = empty
  statements_core (statements_more s ss) = both (statement_core s) (statements_core ss)

abbrev pub target_code : Expression → Coded
target_code target = flat no_ways (target_core target)

abbrev pub targets_code : Expressions → Coded
targets_code targets = flat no_ways (targets_core targets)

abbrev pub assignments_code : Assignments → Coded
assignments_code assignments = flat no_ways (assignments_core assignments)

abbrev pub iterable_code : Expression → Expression → Optional → Coded
iterable_code target e condition = flat no_ways (iterable_core target e condition)

-- the part that keeps the items that a condition holds for, as it is laid out
abbrev pub keep_code : Coded
keep_code = flat no_ways keep_core

abbrev pub kept_code : Expression → Expression → Coded
kept_code target condition =
    rounds_code (then_code (one dup_top) (target_code target))
    (λ break_to continue_to. then_code (expression_code condition) (either_code keep_code (one discard_top)))

abbrev pub statement_code : Ways → Statement → Coded
statement_code ways s = flat ways (statement_core s)

abbrev pub statements_code : Ways → Statements → Coded
statements_code ways ss = flat ways (statements_core ss)

-- behind the rounds, and a branch, as they are laid out
abbrev pub loop_end_code : Statements → Coded → Coded
loop_end_code ss otherwise =
    choose (are_some ss) (then_code (one push_did_not_iterate) (then_code (one pop_loop_frame) (skipped jump_if_false otherwise)))
    (one pop_loop_frame)

abbrev pub branches_code : Statements → Coded → Coded → Coded
branches_code ss body otherwise = choose (are_some ss) (either_code body otherwise) (skipped jump_if_false body)

-- the body of a macro, as it is laid out
abbrev pub macro_code : MacroBody → Coded
macro_code m = flat no_ways (bodied_core m.arguments m.defaults (statements_core m.body))

-- a whole template, from the first place on
abbrev pub template_code : Statements → List Code
template_code tree = statements_code no_ways tree 0

-- an expression alone
abbrev pub standalone_code : Expression → List Code
standalone_code e = expression_code e 0
