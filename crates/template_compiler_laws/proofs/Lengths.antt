-- The code of a tree is no longer than the tree is large, wherever it begins.
use Rattle.std.proofs.Common.{◌≤◌, ◌≡◌, ℕ, ◌+◌, zero, suc, Bool, true, false, ◌&&◌, if◌then◌else◌, List, [], ◌∷◌, ◌++◌, length, Option, None, Some, arith, length-append}
use Rattle.template_values_model.specs.Val.{Val, silent_undefined, none, text, list, vals_of}
use Rattle.template_compiler_tree.specs.declared.operators.BinOpKind.{BinOpKind}
use Rattle.template_compiler_tree.specs.declared.operators.BinOpKind.TheVariants.{Add, ScAnd, ScOr}
use Rattle.template_compiler_tree.specs.Tree.{Expression, Optional, Expressions, Links, Arguments, unary, binary, chain, conditional, attribute, item, call, filtered, tested, list_literal, tuple_literal, map_literal, absent, given, no_expressions, expressions_more, no_links, links_more, no_arguments, arguments_more, positional, keyword, positional_spread, keyword_spread, Statement, print, for_loop, if_condition, with_block, set, set_block, auto_escape, filter_block, from_import, extends, macro, continue_loop, break_loop, do_call, Statements, no_statements, statements_more, Assignments, no_assignments, assignments_more, Imports, no_imports, imports_more}
use Rattle.template_compiler_tree.specs.Tree as tree
use Rattle.template_compiler_tree.specs.Kinds.{is_self_name, is_empty}
use Rattle.template_compiler_walk.specs.Constants.{constant_of}
use Rattle.template_compiler_walk.specs.Expressions.{Passing, alone, has_spread, Callee, by_name, by_method, by_block, by_value, attribute_called, callee_of}
use Rattle.template_compiler_names.specs.Names.{reversed}
use Rattle.template_compiler_names.specs.Enclosed.{enclosed_names, uses_caller}
use Rattle.template_compiler_walk.specs.Statements.{number_of, Printed, prints_value, prints_block, prints_super, prints_rounds, is_super_name, is_loop_name, printed_rounds, printed_by, printed_of, imported_names, stored_as, name_texts, caller_name}
use Rattle.template_compiler_code.specs.Code.{Code, get_attr, set_attr, get_item, slice, build_map, build_kwargs, merge_kwargs, build_list, build_tuple, call_function, call_method, call_object, apply_filter, perform_test, operate, compare_and_preserve, jump, jump_if_false, jump_if_false_or_pop, jump_if_true_or_pop, emit, load_const, unpack_list, unpack_lists, swap, dup_top, discard_top, push_with, pop_frame, push_loop, pop_loop_frame, push_auto_escape, pop_auto_escape, begin_capture, end_capture, fast_recurse, is_undefined, enclose, get_closure, build_macro, return, store_local, call_block, load_blocks, include, export_locals}
use Rattle.template_compiler_codegen.specs.Core.{Core, flat}
use Rattle.template_compiler_codegen.specs.Expressions.{Coded, unary_code, then_code, one, nothing, dropped, loaded, skipped, either_code, binary_code, entry_count, listed_core, mapped_core, at_most_one, stretches_core, entries_stretches_core, list_count, rest_count, merged_core, map_count, keywords_core, keyword_count, run_core, passed_core, passed_count, block_core, called_core, no_number, expression_core, object_core, positional_cores, keyword_cores, expression_code, optional_code, expressions_code, codes_of, entries_code, chain_code, linked_code, filter_code, filters_code, passed_code, argument_count}
use Rattle.template_compiler_codegen.specs.Statements.{Ways, no_ways, own_ways, closing_with, target_code, targets_code, assignments_code, loop_flags, no_flags, one_item, rounds_code, iterable_code, keep_code, kept_code, loop_end_code, branches_code, left_by, printed_core, imports_core, apart_core, parameter_core, parameters_core, enclosed_core, macro_flags, declared_core, calling_core, statements_core, statement_code, statements_code}
use Rattle.template_compiler_laws.proofs.Sizes.{expression_size, optional_size, expressions_size, arguments_size, chain_size, links_size, target_size, targets_size, stored_size, iterable_size, assignments_size, defaults_size, statement_size, statements_size}
use Rattle.template_compiler_laws.proofs.Depth.{IsWithin, AreWithin}
use Rattle.template_compiler_laws.proofs.Names.{more_targets_size, declared_more}

abbrev AtMost : Coded → ℕ → Type 0
AtMost f n = (place : ℕ) → length (f place) ≤ n

one_most : (c : Code) → AtMost (one c) 1
one_most c place = omega arith

then_most : (f g : Coded) (m n k : ℕ) → AtMost f m → AtMost g n → m + n ≤ k → AtMost (then_code f g) k
then_most f g m n k first second most place =
    let at = place + length (f place) in omega (arith, length-append (f place) (g at), first place, second at)

loaded_most : (o : Option Val) (f : Coded) (n : ℕ) → AtMost f n → 1 ≤ n → AtMost (loaded o f) n
loaded_most None f n most some place = most place
loaded_most (Some v) f n most some place = omega arith

skipped_most : (leap : ℕ → Code) (f : Coded) (m k : ℕ) → AtMost f m → suc m ≤ k → AtMost (skipped leap f) k
skipped_most leap f m k first most place = omega (arith, first (suc place))

either_most : (f g : Coded) (m n k : ℕ) → AtMost f m → AtMost g n → 2 + (m + n) ≤ k → AtMost (either_code f g) k
either_most f g m n k first second most place =
    let begins = suc (suc place + length (f (suc place))) in let other = g begins in
    omega (arith, first (suc place), second begins, length-append (f (suc place)) (jump (begins + length other) ∷ other))

binary_most : (op : BinOpKind) (f g : Coded) (m n : ℕ) → AtMost f m → AtMost g n → AtMost (binary_code op f g) (suc (m + n))
binary_most ScAnd f g m n first second =
    then_most f (skipped jump_if_false_or_pop g) m (suc n) (suc (m + n)) first (skipped_most jump_if_false_or_pop g n (suc n) second (omega arith)) (omega arith)
binary_most ScOr f g m n first second =
    then_most f (skipped jump_if_true_or_pop g) m (suc n) (suc (m + n)) first (skipped_most jump_if_true_or_pop g n (suc n) second (omega arith)) (omega arith)
binary_most op f g m n first second =
    then_most f (then_code g (one (operate op))) m (suc n) (suc (m + n)) first
    (then_most g (one (operate op)) n 1 (suc n) second (one_most (operate op)) (omega arith)) (omega arith)

and_one_most : (c : Code) (f : Coded) (m : ℕ) → AtMost f m → AtMost (then_code f (one c)) (suc m)
and_one_most c f m first = then_most f (one c) m 1 (suc m) first (one_most c) (omega arith)

-- the code of each of the expressions
abbrev AreAtMost : ℕ → Expressions → Type 0
AreAtMost deep no_expressions = Unit {0}
AreAtMost deep (expressions_more e es) = AtMost (expression_code e) (expression_size deep e) × AreAtMost deep es

chain_some : (deep : ℕ) (links : Links) → 1 ≤ chain_size deep links
chain_some deep no_links = omega arith
chain_some deep (links_more op e links) = omega arith

-- arguments that are passed by their place, and those that are passed by a name
abbrev positional_size : ℕ → Arguments → ℕ
positional_size deep no_arguments = 0
positional_size deep (arguments_more (positional e) args) = expression_size deep e + positional_size deep args
positional_size deep (arguments_more (positional_spread e) args) = suc (expression_size deep e + positional_size deep args)
positional_size deep (arguments_more _ args) = positional_size deep args

abbrev keyword_size : ℕ → Arguments → ℕ
keyword_size deep no_arguments = 0
keyword_size deep (arguments_more (keyword name e) args) = suc (expression_size deep e + keyword_size deep args)
keyword_size deep (arguments_more (keyword_spread e) args) = suc (expression_size deep e + keyword_size deep args)
keyword_size deep (arguments_more _ args) = keyword_size deep args

parted_size : (deep : ℕ) (args : Arguments) → positional_size deep args + keyword_size deep args ≤ arguments_size deep args
parted_size deep no_arguments = omega arith
parted_size deep (arguments_more (positional e) args) = omega (arith, parted_size deep args)
parted_size deep (arguments_more (keyword name e) args) = omega (arith, parted_size deep args)
parted_size deep (arguments_more (positional_spread e) args) = omega (arith, parted_size deep args)
parted_size deep (arguments_more (keyword_spread e) args) = omega (arith, parted_size deep args)

-- stretches of arguments, behind so many values or entries
abbrev stretches_code : ℕ → Arguments → Coded
stretches_code n args = flat no_ways (stretches_core n (positional_cores args))

abbrev named_code : ℕ → Arguments → Coded
named_code n args = flat no_ways (entries_stretches_core n (keyword_cores args))

listed_most : (n : ℕ) → AtMost (flat no_ways (listed_core n)) 1
listed_most zero = λ place. omega arith
listed_most (suc n) = one_most (build_list (Some (suc n)))

mapped_most : (n : ℕ) → AtMost (flat no_ways (mapped_core n)) 1
mapped_most zero = λ place. omega arith
mapped_most (suc n) = one_most (build_kwargs (suc n))

merged_most : (several : Bool) (n : ℕ) → AtMost (flat no_ways (merged_core several n)) 1
merged_most false n = λ place. omega arith
merged_most true n = one_most (merge_kwargs n)

run_most : (spread_one : Bool) (lists n : ℕ) → AtMost (flat no_ways (run_core spread_one lists n)) 2
run_most false lists n = λ place. omega arith
run_most true lists n =
    let c = unpack_lists (lists + at_most_one n) in
    then_most (flat no_ways (listed_core n)) (one c) 1 1 2 (listed_most n) (one_most c) (omega arith)

keywords_most : (deep : ℕ) (args : Arguments) → AtMost (named_code 0 args) (keyword_size deep args) → AtMost (flat no_ways (keywords_core (keyword_cores args))) (2 + keyword_size deep args)
keywords_most deep args most =
    let named = keyword_cores args in
    let mapped = flat no_ways (mapped_core (rest_count 0 named)) in
    let merged = flat no_ways (merged_core (has_spread named) (map_count named)) in
    then_most (named_code 0 args) (then_code mapped merged) (keyword_size deep args) 2 (2 + keyword_size deep args) most
    (then_most mapped merged 1 1 2 (mapped_most (rest_count 0 named)) (merged_most (has_spread named) (map_count named)) (omega arith)) (omega arith)

passed_most : (deep : ℕ) (front : ℕ) (args : Arguments) → AtMost (stretches_code front args) (positional_size deep args) → AtMost (named_code 0 args) (keyword_size deep args) →
    AtMost (passed_code front args) (4 + arguments_size deep args)
passed_most deep front args first later =
    let pieces = positional_cores args in let named = keyword_cores args in
    let keywords = flat no_ways (keywords_core named) in
    let count = rest_count front pieces + keyword_count named in
    let run = flat no_ways (run_core (has_spread pieces) (list_count front pieces) count) in
    let k = 2 + keyword_size deep args in
    then_most (stretches_code front args) (then_code keywords run) (positional_size deep args) (k + 2) (4 + arguments_size deep args) first
    (then_most keywords run k 2 (k + 2) (keywords_most deep args later) (run_most (has_spread pieces) (list_count front pieces) count) (omega arith)) (omega (arith, parted_size deep args))

-- a block's text
block_most : (name : List ℕ) → AtMost (flat no_ways (block_core name)) 3
block_most name =
    let ends = then_code (one (call_block name)) (one end_capture) in
    then_most (one (begin_capture true)) ends 1 2 3 (one_most (begin_capture true))
    (then_most (one (call_block name)) (one end_capture) 1 1 2 (one_most (call_block name)) (one_most end_capture) (omega arith)) (omega arith)

called_most : (callee : Callee) (whole object : Core) (cs : List (Passing Core Core)) (ns : List (Passing (List ℕ × Core) Core)) (m n k : ℕ) →
    AtMost (flat no_ways whole) m → AtMost (flat no_ways object) m → ((front : ℕ) → AtMost (flat no_ways (passed_core front cs ns)) n) → suc (m + n) ≤ k → 3 ≤ k →
    AtMost (flat no_ways (called_core callee whole object cs ns)) k
called_most (by_name name) whole object cs ns m n k f g h most few =
    let c = call_function name (passed_count 0 cs ns) in
    then_most (flat no_ways (passed_core 0 cs ns)) (one c) n 1 k (h 0) (one_most c) (omega arith)
called_most (by_method name) whole object cs ns m n k f g h most few =
    let c = call_method name (passed_count 1 cs ns) in let passed = flat no_ways (passed_core 1 cs ns) in
    then_most (flat no_ways object) (then_code passed (one c)) m (suc n) k g (and_one_most c passed n (h 1)) (omega arith)
called_most (by_block name) whole object cs ns m n k f g h most few = λ place. omega (arith, block_most name place, few)
called_most by_value whole object cs ns m n k f g h most few =
    let c = call_object (passed_count 1 cs ns) in let passed = flat no_ways (passed_core 1 cs ns) in
    then_most (flat no_ways whole) (then_code passed (one c)) m (suc n) k f (and_one_most c passed n (h 1)) (omega arith)

-- an instruction over a value and arguments
applied_most : (deep : ℕ) (c : Code) (args : Arguments) → AtMost (passed_code 1 args) (4 + arguments_size deep args) → AtMost (then_code (passed_code 1 args) (one c)) (5 + arguments_size deep args)
applied_most deep c args most = then_most (passed_code 1 args) (one c) (4 + arguments_size deep args) 1 (5 + arguments_size deep args) most (one_most c) (omega arith)

mutual
  pub expression_most : (deep : ℕ) (e : Expression) → AtMost (expression_code e) (expression_size deep e)
  expression_most deep (unary op e) =
      loaded_most (constant_of (unary op e)) (then_code (expression_code e) (one (unary_code op))) (suc (expression_size deep e))
      (and_one_most (unary_code op) (expression_code e) (expression_size deep e) (expression_most deep e)) (omega arith)
  expression_most deep (binary op left right) =
      loaded_most (constant_of (binary op left right)) (binary_code op (expression_code left) (expression_code right)) (suc (expression_size deep left + expression_size deep right))
      (binary_most op (expression_code left) (expression_code right) (expression_size deep left) (expression_size deep right) (expression_most deep left) (expression_most deep right)) (omega arith)
  expression_most deep (chain first links) =
      let some = chain_some deep links in
      loaded_most (constant_of (chain first links)) (then_code (expression_code first) (chain_code links)) (expression_size deep first + chain_size deep links)
      (then_most (expression_code first) (chain_code links) (expression_size deep first) (chain_size deep links) (expression_size deep first + chain_size deep links) (expression_most deep first) (chain_most deep links) (omega arith)) (omega arith)
  expression_most deep (conditional test branch otherwise) =
      let n = 2 + (expression_size deep branch + optional_size deep otherwise) in
      then_most (expression_code test) (either_code (expression_code branch) (optional_code silent_undefined otherwise)) (expression_size deep test) n (expression_size deep (conditional test branch otherwise))
      (expression_most deep test)
      (either_most (expression_code branch) (optional_code silent_undefined otherwise) (expression_size deep branch) (optional_size deep otherwise) n (expression_most deep branch) (optional_most deep silent_undefined otherwise) (omega arith))
      (omega arith)
  expression_most deep (attribute e name) = and_one_most (get_attr name) (expression_code e) (expression_size deep e) (expression_most deep e)
  expression_most deep (item e key) =
      then_most (expression_code e) (then_code (expression_code key) (one get_item)) (expression_size deep e) (suc (expression_size deep key)) (expression_size deep (item e key)) (expression_most deep e)
      (and_one_most get_item (expression_code key) (expression_size deep key) (expression_most deep key)) (omega arith)
  expression_most deep (tree.slice e start stop by) =
      let c = suc (optional_size deep by) in let b = optional_size deep stop + c in let a = optional_size deep start + b in
      let last = then_code (optional_code none by) (one slice) in let later = then_code (optional_code none stop) last in
      then_most (expression_code e) (then_code (optional_code none start) later) (expression_size deep e) a (expression_size deep (tree.slice e start stop by)) (expression_most deep e)
      (then_most (optional_code none start) later (optional_size deep start) b a (optional_most deep none start)
      (then_most (optional_code none stop) last (optional_size deep stop) c b (optional_most deep none stop)
      (and_one_most slice (optional_code none by) (optional_size deep by) (optional_most deep none by)) (omega arith)) (omega arith)) (omega arith)
  expression_most deep (call callee args) =
      called_most (callee_of callee args) (expression_core callee) (object_core callee) (positional_cores args) (keyword_cores args)
      (expression_size deep callee) (4 + arguments_size deep args) (expression_size deep (call callee args))
      (expression_most deep callee) (object_most deep callee) (λ front. passed_most deep front args (stretches_most deep args front) (named_most deep args 0)) (omega arith) (omega arith)
  expression_most deep (filtered name absent args) = λ place. omega arith
  expression_most deep (filtered name (given e) args) =
      then_most (expression_code e) (filter_code name args) (expression_size deep e) (5 + arguments_size deep args) (expression_size deep (filtered name (given e) args)) (expression_most deep e)
      (applied_most deep (apply_filter name (argument_count 1 args) no_number) args (passed_most deep 1 args (stretches_most deep args 1) (named_most deep args 0))) (omega arith)
  expression_most deep (tested name e args) =
      let c = perform_test name (argument_count 1 args) no_number in
      then_most (expression_code e) (then_code (passed_code 1 args) (one c)) (expression_size deep e) (5 + arguments_size deep args) (expression_size deep (tested name e args)) (expression_most deep e)
      (applied_most deep c args (passed_most deep 1 args (stretches_most deep args 1) (named_most deep args 0))) (omega arith)
  expression_most deep (list_literal es) =
      loaded_most (constant_of (list_literal es)) (then_code (expressions_code es) (one (build_list (Some (number_of es))))) (suc (expressions_size deep es))
      (and_one_most (build_list (Some (number_of es))) (expressions_code es) (expressions_size deep es) (expressions_most deep es)) (omega arith)
  expression_most deep (tuple_literal es) =
      loaded_most (constant_of (tuple_literal es)) (then_code (expressions_code es) (one (build_tuple (Some (number_of es))))) (suc (expressions_size deep es))
      (and_one_most (build_tuple (Some (number_of es))) (expressions_code es) (expressions_size deep es) (expressions_most deep es)) (omega arith)
  expression_most deep (map_literal ks vs) =
      let count = entry_count ks (codes_of vs) in
      loaded_most (constant_of (map_literal ks vs)) (then_code (entries_code ks (codes_of vs)) (one (build_map count))) (suc (expressions_size deep ks + expressions_size deep vs))
      (and_one_most (build_map count) (entries_code ks (codes_of vs)) (expressions_size deep ks + expressions_size deep vs) (entries_most deep ks vs (are_most deep vs))) (omega arith)
  expression_most deep _ = λ place. omega arith

  object_most : (deep : ℕ) (e : Expression) → AtMost (flat no_ways (object_core e)) (expression_size deep e)
  object_most deep (attribute e name) = λ place. omega (arith, expression_most deep e place)
  object_most deep _ = λ place. omega arith

  stretches_most : (deep : ℕ) (args : Arguments) (n : ℕ) → AtMost (stretches_code n args) (positional_size deep args)
  stretches_most deep no_arguments n = λ place. omega arith
  stretches_most deep (arguments_more (positional e) args) n =
      then_most (expression_code e) (stretches_code (suc n) args) (expression_size deep e) (positional_size deep args) (expression_size deep e + positional_size deep args)
      (expression_most deep e) (stretches_most deep args (suc n)) (omega arith)
  stretches_most deep (arguments_more (positional_spread e) args) n =
      let more = stretches_code 0 args in let m = expression_size deep e + positional_size deep args in
      then_most (flat no_ways (listed_core n)) (then_code (expression_code e) more) 1 m (suc m) (listed_most n)
      (then_most (expression_code e) more (expression_size deep e) (positional_size deep args) m (expression_most deep e) (stretches_most deep args 0) (omega arith)) (omega arith)
  stretches_most deep (arguments_more (keyword name e) args) n = stretches_most deep args n
  stretches_most deep (arguments_more (keyword_spread e) args) n = stretches_most deep args n

  named_most : (deep : ℕ) (args : Arguments) (n : ℕ) → AtMost (named_code n args) (keyword_size deep args)
  named_most deep no_arguments n = λ place. omega arith
  named_most deep (arguments_more (positional e) args) n = named_most deep args n
  named_most deep (arguments_more (keyword name e) args) n =
      let more = named_code (suc n) args in let m = expression_size deep e + keyword_size deep args in
      then_most (one (load_const (text name))) (then_code (expression_code e) more) 1 m (suc m) (one_most (load_const (text name)))
      (then_most (expression_code e) more (expression_size deep e) (keyword_size deep args) m (expression_most deep e) (named_most deep args (suc n)) (omega arith)) (omega arith)
  named_most deep (arguments_more (positional_spread e) args) n = named_most deep args n
  named_most deep (arguments_more (keyword_spread e) args) n =
      let more = named_code 0 args in let m = expression_size deep e + keyword_size deep args in
      then_most (flat no_ways (mapped_core n)) (then_code (expression_code e) more) 1 m (suc m) (mapped_most n)
      (then_most (expression_code e) more (expression_size deep e) (keyword_size deep args) m (expression_most deep e) (named_most deep args 0) (omega arith)) (omega arith)

  optional_most : (deep : ℕ) (missing : Val) (o : Optional) → AtMost (optional_code missing o) (optional_size deep o)
  optional_most deep missing absent = λ place. omega arith
  optional_most deep missing (given e) = expression_most deep e

  expressions_most : (deep : ℕ) (es : Expressions) → AtMost (expressions_code es) (expressions_size deep es)
  expressions_most deep no_expressions = λ place. omega arith
  expressions_most deep (expressions_more e es) =
      then_most (expression_code e) (expressions_code es) (expression_size deep e) (expressions_size deep es) (expression_size deep e + expressions_size deep es) (expression_most deep e) (expressions_most deep es) (omega arith)

  are_most : (deep : ℕ) (es : Expressions) → AreAtMost deep es
  are_most deep no_expressions = tt
  are_most deep (expressions_more e es) = (expression_most deep e, are_most deep es)

  entries_most : (deep : ℕ) (ks vs : Expressions) → AreAtMost deep vs → AtMost (entries_code ks (codes_of vs)) (expressions_size deep ks + expressions_size deep vs)
  entries_most deep no_expressions vs values = λ place. omega arith
  entries_most deep (expressions_more k ks) no_expressions values = λ place. omega arith
  entries_most deep (expressions_more k ks) (expressions_more v vs) values =
      let n = expressions_size deep ks + expressions_size deep vs in
      then_most (expression_code k) (then_code (expression_code v) (entries_code ks (codes_of vs))) (expression_size deep k) (expression_size deep v + n) (expressions_size deep (expressions_more k ks) + expressions_size deep (expressions_more v vs)) (expression_most deep k)
      (then_most (expression_code v) (entries_code ks (codes_of vs)) (expression_size deep v) n (expression_size deep v + n) (values.0) (entries_most deep ks vs (values.1)) (omega arith)) (omega arith)

  chain_most : (deep : ℕ) (links : Links) → AtMost (chain_code links) (chain_size deep links)
  chain_most deep no_links = λ place. omega arith
  chain_most deep (links_more op e links) =
      let c = compare_and_preserve op in let n = links_size deep links in
      then_most (then_code (expression_code e) (one c)) (then_code (linked_code links) dropped) (suc (expression_size deep e)) (n + 2) (chain_size deep (links_more op e links))
      (and_one_most c (expression_code e) (expression_size deep e) (expression_most deep e))
      (then_most (linked_code links) dropped n 2 (n + 2) (linked_most deep links) (λ place. omega arith) (omega arith)) (omega arith)

  linked_most : (deep : ℕ) (links : Links) → AtMost (linked_code links) (links_size deep links)
  linked_most deep no_links = λ place. omega arith
  linked_most deep (links_more op e links) =
      let c = compare_and_preserve op in let n = suc (expression_size deep e) + links_size deep links in
      skipped_most jump_if_false_or_pop (then_code (then_code (expression_code e) (one c)) (linked_code links)) n (links_size deep (links_more op e links))
      (then_most (then_code (expression_code e) (one c)) (linked_code links) (suc (expression_size deep e)) (links_size deep links) n
      (and_one_most c (expression_code e) (expression_size deep e) (expression_most deep e)) (linked_most deep links) (omega arith)) (omega arith)

arguments_most : (deep : ℕ) (args : Arguments) (front : ℕ) → AtMost (passed_code front args) (4 + arguments_size deep args)
arguments_most deep args front = passed_most deep front args (stretches_most deep args front) (named_most deep args 0)

-- the filters of a block
filters_most : (deep : ℕ) (e : Expression) → AtMost (filters_code e) (expression_size deep e)
filters_most deep (filtered name absent args) =
    λ place. omega (arith, applied_most deep (apply_filter name (argument_count 1 args) no_number) args (arguments_most deep args 1) place)
filters_most deep (filtered name (given e) args) =
    then_most (filters_code e) (filter_code name args) (expression_size deep e) (5 + arguments_size deep args) (expression_size deep (filtered name (given e) args)) (filters_most deep e)
    (applied_most deep (apply_filter name (argument_count 1 args) no_number) args (arguments_most deep args 1)) (omega arith)
filters_most deep _ = λ place. omega arith

mutual
  target_most : (deep : ℕ) (target : Expression) → AtMost (target_code target) (target_size deep target)
  target_most deep (attribute e name) = and_one_most (set_attr name) (expression_code e) (expression_size deep e) (expression_most deep e)
  target_most deep (list_literal targets) =
      then_most (one (unpack_list (number_of targets))) (targets_code targets) 1 (targets_size deep targets) (suc (targets_size deep targets)) (one_most (unpack_list (number_of targets))) (targets_most deep targets) (omega arith)
  target_most deep _ = λ place. omega arith

  targets_most : (deep : ℕ) (targets : Expressions) → AtMost (targets_code targets) (targets_size deep targets)
  targets_most deep no_expressions = λ place. omega arith
  targets_most deep (expressions_more target targets) =
      then_most (target_code target) (targets_code targets) (target_size deep target) (targets_size deep targets) (target_size deep target + targets_size deep targets) (target_most deep target) (targets_most deep targets) (omega arith)

assignments_most : (deep : ℕ) (gs : Assignments) → AtMost (assignments_code gs) (assignments_size deep gs)
assignments_most deep no_assignments = λ place. omega arith
assignments_most deep (assignments_more target e more) =
    let n = target_size deep target + assignments_size deep more in
    then_most (expression_code e) (then_code (target_code target) (assignments_code more)) (expression_size deep e) n (assignments_size deep (assignments_more target e more)) (expression_most deep e)
    (then_most (target_code target) (assignments_code more) (target_size deep target) (assignments_size deep more) n (target_most deep target) (assignments_most deep more) (omega arith)) (omega arith)

rounds_most : (target : Coded) (body : ℕ → ℕ → Coded) (m n : ℕ) → AtMost target m → ((b c : ℕ) → AtMost (body b c) n) → AtMost (rounds_code target body) (2 + (m + n))
rounds_most target body m n first second place =
    let stored = target (suc place) in let begins = suc place + length stored in
    let ends_at = suc (begins + length (body 0 0 begins)) in let inner = body ends_at place begins in
    omega (arith, first (suc place), second ends_at place begins, length-append stored (inner ++ (jump place ∷ [])), length-append inner (jump place ∷ []))

-- what a loop goes over
sifted_most : AtMost (either_code keep_code (one discard_top)) 6
sifted_most =
    let add = one (operate Add) in
    let load = one (load_const one_item) in
    either_most keep_code (one discard_top) 3 1 6
    (then_most (one swap) (then_code load add) 1 2 3 (one_most swap) (then_most load add 1 1 2 (one_most (load_const one_item)) (one_most (operate Add)) (omega arith)) (omega arith))
    (one_most discard_top) (omega arith)

iterable_most : (deep : ℕ) (target e : Expression) (condition : Optional) → AtMost (iterable_code target e condition) (iterable_size deep target e condition)
iterable_most deep target e absent = expression_most deep e
iterable_most deep target e (given condition) =
    let sift = either_code keep_code (one discard_top) in
    let ends = then_code (one pop_loop_frame) (one (build_list None)) in
    let rounds = kept_code target condition in
    let opens = then_code (one (push_loop no_flags)) (then_code rounds ends) in
    let stores = suc (target_size deep target) in
    let sifts = expression_size deep condition + 6 in
    let r = 2 + (stores + sifts) in
    then_most (one (unpack_lists 0)) (then_code (expression_code e) opens) 1 (expression_size deep e + (1 + (r + 2))) (iterable_size deep target e (given condition)) (one_most (unpack_lists 0))
    (then_most (expression_code e) opens (expression_size deep e) (1 + (r + 2)) (expression_size deep e + (1 + (r + 2))) (expression_most deep e)
    (then_most (one (push_loop no_flags)) (then_code rounds ends) 1 (r + 2) (1 + (r + 2)) (one_most (push_loop no_flags))
    (then_most rounds ends r 2 (r + 2)
    (rounds_most (then_code (one dup_top) (target_code target)) (λ b c. then_code (expression_code condition) sift) stores sifts
    (then_most (one dup_top) (target_code target) 1 (target_size deep target) stores (one_most dup_top) (target_most deep target) (omega arith))
    (λ b c. then_most (expression_code condition) sift (expression_size deep condition) 6 sifts (expression_most deep condition) sifted_most (omega arith)))
    (then_most (one pop_loop_frame) (one (build_list None)) 1 1 2 (one_most pop_loop_frame) (one_most (build_list None)) (omega arith)) (omega arith)) (omega arith)) (omega arith)) (omega arith)

loop_end_most : (otherwise : Statements) (f : Coded) (n : ℕ) → AtMost f n → AtMost (loop_end_code otherwise f) (3 + n)
loop_end_most no_statements f n most place = omega arith
loop_end_most (statements_more s ss) f n most place = omega (arith, most (suc (suc (suc place))), most (place + 1 + 1 + 1), most (suc (place + 1 + 1)))

branches_most : (otherwise : Statements) (f g : Coded) (m n : ℕ) → AtMost f m → AtMost g n → AtMost (branches_code otherwise f g) (2 + (m + n))
branches_most no_statements f g m n first second = skipped_most jump_if_false f m (2 + (m + n)) first (omega arith)
branches_most (statements_more s ss) f g m n first second = either_most f g m n (2 + (m + n)) first second (omega arith)

left_most : (closings : List Code) (to : ℕ) → AtMost (left_by closings to) (suc (length closings))
left_most closings to place = omega (arith, length-append closings (jump to ∷ []))

-- what the rounds of a loop are called over is a part of what is printed
abbrev RoundsFit : ℕ → ℕ → Printed → Type 0
RoundsFit deep n (prints_rounds e) = expression_size deep e ≤ n
RoundsFit deep n _ = Unit {0}

fits_argument : (deep n : ℕ) (args : Arguments) → arguments_size deep args ≤ n → RoundsFit deep n (printed_rounds args)
fits_argument deep n no_arguments h = tt
fits_argument deep n (arguments_more (positional e) no_arguments) h = omega (arith, h)
fits_argument deep n (arguments_more (positional e) (arguments_more other more)) h = tt
fits_argument deep n (arguments_more (keyword name e) more) h = tt
fits_argument deep n (arguments_more (positional_spread e) more) h = tt
fits_argument deep n (arguments_more (keyword_spread e) more) h = tt

fits_name : (deep n : ℕ) (args : Arguments) (parent loop : Bool) → arguments_size deep args ≤ n → RoundsFit deep n (if parent then prints_super else if loop then printed_rounds args else prints_value)
fits_name deep n args true loop h = tt
fits_name deep n args false true h = fits_argument deep n args h
fits_name deep n args false false h = tt

fits_attribute : (deep n : ℕ) (name : List ℕ) (args : Arguments) (of_self : Bool) → RoundsFit deep n (printed_by (attribute_called of_self name) args)
fits_attribute deep n name args true = tt
fits_attribute deep n name args false = tt

rounds_fit : (deep : ℕ) (e : Expression) → RoundsFit deep (expression_size deep e) (printed_of e)
rounds_fit deep (call (tree.variable name) args) =
    fits_name deep (expression_size deep (call (tree.variable name) args)) args (is_super_name name && is_empty args) (is_loop_name name) (omega arith)
rounds_fit deep (call (attribute e name) args) = fits_attribute deep (expression_size deep (call (attribute e name) args)) name args (is_self_name e && is_empty args)
rounds_fit deep _ = tt

-- what a print writes
printed_most : (deep : ℕ) (printed : Printed) (e : Expression) (ways : Ways) → RoundsFit deep (expression_size deep e) printed → AtMost (flat ways (printed_core printed (expression_core e))) (suc (expression_size deep e))
printed_most deep prints_value e ways fits = and_one_most emit (expression_code e) (expression_size deep e) (expression_most deep e)
printed_most deep (prints_block name) e ways fits = λ place. omega arith
printed_most deep prints_super e ways fits = λ place. omega arith
printed_most deep (prints_rounds items) e ways fits =
    then_most (expression_code items) (one fast_recurse) (expression_size deep items) 1 (suc (expression_size deep e)) (expression_most deep items) (one_most fast_recurse) (omega (arith, fits))

-- a template that runs in a frame of its own
apart_most : (deep : ℕ) (e : Expression) (ways : Ways) → AtMost (flat ways (apart_core e)) (2 + expression_size deep e)
apart_most deep e ways =
    then_most (one push_with) (then_code (expression_code e) (one (include false))) 1 (suc (expression_size deep e)) (2 + expression_size deep e) (one_most push_with)
    (and_one_most (include false) (expression_code e) (expression_size deep e) (expression_most deep e)) (omega arith)

imports_most : (deep : ℕ) (names : Imports) → AtMost (flat no_ways (imports_core names)) (stored_size deep names)
imports_most deep no_imports = λ place. omega arith
imports_most deep (imports_more e alias more) =
    let target = stored_as e alias in
    then_most (flat no_ways (imports_core more)) (target_code target) (stored_size deep more) (target_size deep target) (stored_size deep (imports_more e alias more))
    (imports_most deep more) (target_most deep target) (omega arith)

-- the parameters of a macro: without a default, and with one
plain_most : (deep : ℕ) (target : Expression) → AtMost (flat no_ways (parameter_core target absent)) (target_size deep target)
plain_most deep target = target_most deep target

default_most : (deep : ℕ) (target e : Expression) → AtMost (flat no_ways (parameter_core target (given e))) (target_size deep target + (4 + expression_size deep e))
default_most deep target e =
    let n = 2 + expression_size deep e in
    let m = n + target_size deep target in
    let inner = then_code (one discard_top) (expression_code e) in
    let chosen = then_code (skipped jump_if_false inner) (target_code target) in
    then_most (one dup_top) (then_code (one is_undefined) chosen) 1 (1 + m) (target_size deep target + (4 + expression_size deep e)) (one_most dup_top)
    (then_most (one is_undefined) chosen 1 m (1 + m) (one_most is_undefined)
    (then_most (skipped jump_if_false inner) (target_code target) n (target_size deep target) m
    (skipped_most jump_if_false inner (1 + expression_size deep e) n (then_most (one discard_top) (expression_code e) 1 (expression_size deep e) (1 + expression_size deep e) (one_most discard_top) (expression_most deep e) (omega arith)) (omega arith))
    (target_most deep target) (omega arith)) (omega arith)) (omega arith)

parameters_most : (deep : ℕ) (targets defaults : Expressions) → AtMost (flat no_ways (parameters_core targets defaults)) (targets_size deep targets + defaults_size deep defaults)
parameters_most deep no_expressions defaults = λ place. omega arith
parameters_most deep (expressions_more target targets) no_expressions =
    then_most (flat no_ways (parameter_core target absent)) (flat no_ways (parameters_core targets no_expressions)) (target_size deep target) (targets_size deep targets + 0)
    (targets_size deep (expressions_more target targets) + defaults_size deep no_expressions) (plain_most deep target) (parameters_most deep targets no_expressions) (omega arith)
parameters_most deep (expressions_more target targets) (expressions_more e defaults) =
    then_most (flat no_ways (parameter_core target (given e))) (flat no_ways (parameters_core targets defaults)) (target_size deep target + (4 + expression_size deep e)) (targets_size deep targets + defaults_size deep defaults)
    (targets_size deep (expressions_more target targets) + defaults_size deep (expressions_more e defaults)) (default_most deep target e) (parameters_most deep targets defaults) (omega arith)

reversed_targets : (deep : ℕ) (es behind : Expressions) → targets_size deep (reversed es behind) ≡ targets_size deep es + targets_size deep behind
reversed_targets deep no_expressions behind = omega arith
reversed_targets deep (expressions_more e es) behind = omega (arith, reversed_targets deep es (expressions_more e behind))

reversed_defaults : (deep : ℕ) (es behind : Expressions) → defaults_size deep (reversed es behind) ≡ defaults_size deep es + defaults_size deep behind
reversed_defaults deep no_expressions behind = omega arith
reversed_defaults deep (expressions_more e es) behind = omega (arith, reversed_defaults deep es (expressions_more e behind))

enclosed_code_most : (names : List (List ℕ)) → AtMost (flat no_ways (enclosed_core names)) (length names)
enclosed_code_most [] = λ place. omega arith
enclosed_code_most (name ∷ names) = then_most (one (enclose name)) (flat no_ways (enclosed_core names)) 1 (length names) (suc (length names)) (one_most (enclose name)) (enclosed_code_most names) (omega arith)

-- a macro: its body, and what encloses the names that it uses
declared_most : (deep : ℕ) (name : List ℕ) (arguments defaults : Expressions) (body : Statements) → AtMost (statements_code no_ways body) (statements_size deep 0 body)
    → AtMost (flat no_ways (declared_core name arguments defaults body (statements_core body))) (5 + (targets_size (suc deep) arguments + defaults_size (suc deep) defaults + statements_size (suc deep) 0 body))
declared_most deep name arguments defaults body inner place =
    let targets = reversed arguments no_expressions in
    let values = reversed defaults no_expressions in
    let names = enclosed_names arguments defaults body in
    let listed = load_const (list (vals_of (name_texts arguments))) in
    let parameters = flat no_ways (parameters_core targets values) in
    let bodied = then_code parameters (statements_code no_ways body) in
    let rest = then_code (flat no_ways (enclosed_core names)) (then_code (one get_closure) (one listed)) in
    let build = one (build_macro name (suc place) (macro_flags (uses_caller arguments defaults body))) in
    let p = targets_size (suc deep) targets + defaults_size deep values in
    let b = p + statements_size deep 0 body in
    let e = length names in
    let whole = 5 + (targets_size (suc deep) arguments + defaults_size (suc deep) defaults + statements_size (suc deep) 0 body) in
    let params : AtMost parameters p = λ at. omega (arith, parameters_most deep targets values at, more_targets_size deep targets) in
    then_most (skipped jump (then_code bodied (one return))) (then_code rest build) (2 + b) (3 + e) whole
    (skipped_most jump (then_code bodied (one return)) (suc b) (2 + b) (and_one_most return bodied b (then_most parameters (statements_code no_ways body) p (statements_size deep 0 body) b params inner (omega arith))) (omega arith))
    (then_most rest build (2 + e) 1 (3 + e)
    (then_most (flat no_ways (enclosed_core names)) (then_code (one get_closure) (one listed)) e 2 (2 + e) (enclosed_code_most names)
    (then_most (one get_closure) (one listed) 1 1 2 (one_most get_closure) (one_most listed) (omega arith)) (omega arith))
    (one_most (build_macro name (suc place) (macro_flags (uses_caller arguments defaults body)))) (omega arith))
    (omega (arith, declared_more deep arguments defaults body, reversed_targets (suc deep) arguments no_expressions, reversed_defaults deep defaults no_expressions)) place

-- keywords, and a last one
named_and_most : (deep : ℕ) (args : Arguments) (n : ℕ) (name : List ℕ) (c : Core) (m : ℕ) → AtMost (flat no_ways c) m
    → AtMost (flat no_ways (entries_stretches_core n (keyword_cores args ++ alone (name, c) ∷ []))) (keyword_size deep args + suc m)
named_and_most deep no_arguments n name c m most =
    then_most (one (load_const (text name))) (then_code (flat no_ways c) nothing) 1 m (0 + suc m) (one_most (load_const (text name)))
    (then_most (flat no_ways c) nothing m 0 m most (λ place. omega arith) (omega arith)) (omega arith)
named_and_most deep (arguments_more (positional e) args) n name c m most = named_and_most deep args n name c m most
named_and_most deep (arguments_more (keyword other e) args) n name c m most =
    let more = flat no_ways (entries_stretches_core (suc n) (keyword_cores args ++ alone (name, c) ∷ [])) in
    let rest = keyword_size deep args + suc m in
    then_most (one (load_const (text other))) (then_code (expression_code e) more) 1 (expression_size deep e + rest) (keyword_size deep (arguments_more (keyword other e) args) + suc m) (one_most (load_const (text other)))
    (then_most (expression_code e) more (expression_size deep e) rest (expression_size deep e + rest) (expression_most deep e) (named_and_most deep args (suc n) name c m most) (omega arith)) (omega arith)
named_and_most deep (arguments_more (positional_spread e) args) n name c m most = named_and_most deep args n name c m most
named_and_most deep (arguments_more (keyword_spread e) args) n name c m most =
    let more = flat no_ways (entries_stretches_core 0 (keyword_cores args ++ alone (name, c) ∷ [])) in
    let rest = keyword_size deep args + suc m in
    then_most (flat no_ways (mapped_core n)) (then_code (expression_code e) more) 1 (expression_size deep e + rest) (keyword_size deep (arguments_more (keyword_spread e) args) + suc m) (mapped_most n)
    (then_most (expression_code e) more (expression_size deep e) rest (expression_size deep e + rest) (expression_most deep e) (named_and_most deep args 0 name c m most) (omega arith)) (omega arith)

passed_and_most : (deep front : ℕ) (args : Arguments) (name : List ℕ) (c : Core) (m : ℕ) → AtMost (flat no_ways c) m
    → AtMost (flat no_ways (passed_core front (positional_cores args) (keyword_cores args ++ alone (name, c) ∷ []))) (5 + (arguments_size deep args + m))
passed_and_most deep front args name c m most =
    let pieces = positional_cores args in let named = keyword_cores args ++ alone (name, c) ∷ [] in
    let entries = flat no_ways (entries_stretches_core 0 named) in
    let mapped = flat no_ways (mapped_core (rest_count 0 named)) in
    let merged = flat no_ways (merged_core (has_spread named) (map_count named)) in
    let keywords = flat no_ways (keywords_core named) in
    let count = rest_count front pieces + keyword_count named in
    let run = flat no_ways (run_core (has_spread pieces) (list_count front pieces) count) in
    let n = keyword_size deep args + suc m in
    then_most (stretches_code front args) (then_code keywords run) (positional_size deep args) ((n + 2) + 2) (5 + (arguments_size deep args + m)) (stretches_most deep args front)
    (then_most keywords run (n + 2) 2 ((n + 2) + 2)
    (then_most entries (then_code mapped merged) n 2 (n + 2) (named_and_most deep args 0 name c m most)
    (then_most mapped merged 1 1 2 (mapped_most (rest_count 0 named)) (merged_most (has_spread named) (map_count named)) (omega arith)) (omega arith))
    (run_most (has_spread pieces) (list_count front pieces) count) (omega arith)) (omega (arith, parted_size deep args))

mutual
  statement_most : (deep : ℕ) (s : Statement) → IsWithin deep s → (ways : Ways) → AtMost (statement_code ways s) (statement_size deep (length ways.closings) s)
  statement_most deep (print e) within ways = printed_most deep (printed_of e) e ways (rounds_fit deep e)
  statement_most deep (for_loop target e condition recursive body otherwise) within ways =
      let n = length ways.closings in
      let inner = λ (b c : ℕ). statements_code (own_ways b c) body in
      let last = loop_end_code otherwise (statements_code ways otherwise) in
      let a = 3 + statements_size deep n otherwise in let r = 2 + (target_size deep target + statements_size deep 0 body) in
      then_most (iterable_code target e condition) (then_code (one (push_loop (loop_flags recursive))) (then_code (rounds_code (target_code target) inner) last)) (iterable_size deep target e condition) (1 + (r + a))
      (statement_size deep n (for_loop target e condition recursive body otherwise)) (iterable_most deep target e condition)
      (then_most (one (push_loop (loop_flags recursive))) (then_code (rounds_code (target_code target) inner) last) 1 (r + a) (1 + (r + a)) (one_most (push_loop (loop_flags recursive)))
      (then_most (rounds_code (target_code target) inner) last r a (r + a)
      (rounds_most (target_code target) inner (target_size deep target) (statements_size deep 0 body) (target_most deep target) (λ b c. statements_most deep body within.0 (own_ways b c)))
      (loop_end_most otherwise (statements_code ways otherwise) (statements_size deep n otherwise) (statements_most deep otherwise within.1 ways)) (omega arith)) (omega arith)) (omega arith)
  statement_most deep (if_condition e body otherwise) within ways =
      let n = length ways.closings in let m = 2 + (statements_size deep n body + statements_size deep n otherwise) in
      then_most (expression_code e) (branches_code otherwise (statements_code ways body) (statements_code ways otherwise)) (expression_size deep e) m
      (statement_size deep n (if_condition e body otherwise)) (expression_most deep e)
      (branches_most otherwise (statements_code ways body) (statements_code ways otherwise) (statements_size deep n body) (statements_size deep n otherwise) (statements_most deep body within.0 ways) (statements_most deep otherwise within.1 ways))
      (omega arith)
  statement_most deep (with_block assignments body) within ways =
      let n = length ways.closings in let inner = statements_code (closing_with pop_frame ways) body in
      let b = suc (statements_size deep (suc n) body) in let a = assignments_size deep assignments + b in
      then_most (one push_with) (then_code (assignments_code assignments) (then_code inner (one pop_frame))) 1 a (statement_size deep n (with_block assignments body)) (one_most push_with)
      (then_most (assignments_code assignments) (then_code inner (one pop_frame)) (assignments_size deep assignments) b a (assignments_most deep assignments)
      (and_one_most pop_frame inner (statements_size deep (suc n) body) (statements_most deep body within (closing_with pop_frame ways))) (omega arith)) (omega arith)
  statement_most deep (set target e) within ways =
      then_most (expression_code e) (target_code target) (expression_size deep e) (target_size deep target) (expression_size deep e + target_size deep target) (expression_most deep e) (target_most deep target) (omega arith)
  statement_most deep (set_block target absent body) within ways =
      let n = length ways.closings in let inner = closing_with end_capture (closing_with discard_top ways) in
      let bodied = statements_code inner body in let tail = then_code (one end_capture) (target_code target) in
      let b = statements_size deep (suc (suc n)) body in let t = suc (target_size deep target) in
      then_most (one (begin_capture true)) (then_code bodied tail) 1 (b + t) (statement_size deep n (set_block target absent body)) (one_most (begin_capture true))
      (then_most bodied tail b t (b + t) (statements_most deep body within inner)
      (then_most (one end_capture) (target_code target) 1 (target_size deep target) t (one_most end_capture) (target_most deep target) (omega arith)) (omega arith)) (omega arith)
  statement_most deep (set_block target (given filters) body) within ways =
      let n = length ways.closings in let inner = closing_with end_capture (closing_with discard_top ways) in
      let bodied = statements_code inner body in let stored = then_code (filters_code filters) (target_code target) in
      let tail = then_code (one end_capture) stored in
      let b = statements_size deep (suc (suc n)) body in let u = expression_size deep filters + target_size deep target in let t = suc u in
      then_most (one (begin_capture true)) (then_code bodied tail) 1 (b + t) (statement_size deep n (set_block target (given filters) body)) (one_most (begin_capture true))
      (then_most bodied tail b t (b + t) (statements_most deep body within inner)
      (then_most (one end_capture) stored 1 u t (one_most end_capture)
      (then_most (filters_code filters) (target_code target) (expression_size deep filters) (target_size deep target) u (filters_most deep filters) (target_most deep target) (omega arith)) (omega arith)) (omega arith)) (omega arith)
  statement_most deep (filter_block filters body) within ways =
      let n = length ways.closings in let inner = closing_with end_capture (closing_with discard_top ways) in
      let bodied = statements_code inner body in let printed = then_code (filters_code filters) (one emit) in
      let tail = then_code (one end_capture) printed in
      let b = statements_size deep (suc (suc n)) body in let u = suc (expression_size deep filters) in let t = suc u in
      then_most (one (begin_capture true)) (then_code bodied tail) 1 (b + t) (statement_size deep n (filter_block filters body)) (one_most (begin_capture true))
      (then_most bodied tail b t (b + t) (statements_most deep body within inner)
      (then_most (one end_capture) printed 1 u t (one_most end_capture) (and_one_most emit (filters_code filters) (expression_size deep filters) (filters_most deep filters)) (omega arith)) (omega arith)) (omega arith)
  statement_most zero (macro name arguments defaults body) within ways = absurd within
  statement_most (suc deep) (macro name arguments defaults body) within ways =
      let declared = flat no_ways (declared_core name arguments defaults body (statements_core body)) in
      let n = 5 + (targets_size (suc deep) arguments + defaults_size (suc deep) defaults + statements_size (suc deep) 0 body) in
      then_most declared (one (store_local name)) n 1 (statement_size (suc deep) (length ways.closings) (macro name arguments defaults body))
      (declared_most deep name arguments defaults body (statements_most deep body within no_ways)) (one_most (store_local name)) (omega arith)
  statement_most zero (tree.call_block callee passed arguments defaults body) within ways = absurd within
  statement_most (suc deep) (tree.call_block callee passed arguments defaults body) within ways =
      let declared = declared_core caller_name arguments defaults body (statements_core body) in
      let n = 5 + (targets_size (suc deep) arguments + defaults_size (suc deep) defaults + statements_size (suc deep) 0 body) in
      let m = 5 + (arguments_size (suc deep) passed + n) in
      let c = suc (expression_size (suc deep) callee + m) in
      then_most (flat no_ways (calling_core callee passed declared)) (one emit) c 1 (statement_size (suc deep) (length ways.closings) (tree.call_block callee passed arguments defaults body))
      (called_most (callee_of callee passed) (expression_core callee) (object_core callee) (positional_cores passed) (keyword_cores passed ++ alone (caller_name, declared) ∷ [])
      (expression_size (suc deep) callee) m c (expression_most (suc deep) callee) (object_most (suc deep) callee)
      (λ front. passed_and_most (suc deep) front passed caller_name declared n (declared_most deep caller_name arguments defaults body (statements_most deep body within no_ways))) (omega arith) (omega arith))
      (one_most emit) (omega arith)
  statement_most deep (do_call callee args) within ways =
      and_one_most discard_top (expression_code (call callee args)) (expression_size deep (call callee args)) (expression_most deep (call callee args))
  statement_most deep (auto_escape e body) within ways =
      let n = length ways.closings in let inner = statements_code (closing_with pop_auto_escape ways) body in
      let b = suc (statements_size deep (suc n) body) in
      then_most (expression_code e) (then_code (one push_auto_escape) (then_code inner (one pop_auto_escape))) (expression_size deep e) (1 + b) (statement_size deep n (auto_escape e body)) (expression_most deep e)
      (then_most (one push_auto_escape) (then_code inner (one pop_auto_escape)) 1 b (1 + b) (one_most push_auto_escape)
      (and_one_most pop_auto_escape inner (statements_size deep (suc n) body) (statements_most deep body within (closing_with pop_auto_escape ways))) (omega arith)) (omega arith)
  statement_most deep (tree.import e target) within ways =
      let closed = then_code (one pop_frame) (target_code target) in
      let exported = then_code (one export_locals) closed in
      let ended = then_code (one end_capture) exported in
      let c = suc (target_size deep target) in let b = suc c in let d = suc b in let a = 2 + expression_size deep e in
      then_most (one (begin_capture true)) (then_code (flat ways (apart_core e)) ended) 1 (a + d) (statement_size deep (length ways.closings) (tree.import e target)) (one_most (begin_capture true))
      (then_most (flat ways (apart_core e)) ended a d (a + d) (apart_most deep e ways)
      (then_most (one end_capture) exported 1 b d (one_most end_capture)
      (then_most (one export_locals) closed 1 c b (one_most export_locals)
      (then_most (one pop_frame) (target_code target) 1 (target_size deep target) c (one_most pop_frame) (target_most deep target) (omega arith)) (omega arith)) (omega arith)) (omega arith)) (omega arith)
  statement_most deep (from_import e names) within ways =
      let es = imported_names names in
      let stores = flat no_ways (imports_core names) in
      let ended = then_code (one end_capture) (one discard_top) in
      let stored = then_code stores ended in
      let closed = then_code (one pop_frame) stored in
      let s = stored_size deep names + 2 in let c = suc s in let m = expressions_size deep es + c in let a = 2 + expression_size deep e in
      then_most (one (begin_capture false)) (then_code (flat ways (apart_core e)) (then_code (expressions_code es) closed)) 1 (a + m)
      (statement_size deep (length ways.closings) (from_import e names)) (one_most (begin_capture false))
      (then_most (flat ways (apart_core e)) (then_code (expressions_code es) closed) a m (a + m) (apart_most deep e ways)
      (then_most (expressions_code es) closed (expressions_size deep es) c m (expressions_most deep es)
      (then_most (one pop_frame) stored 1 s c (one_most pop_frame)
      (then_most stores ended (stored_size deep names) 2 s (imports_most deep names)
      (then_most (one end_capture) (one discard_top) 1 1 2 (one_most end_capture) (one_most discard_top) (omega arith)) (omega arith)) (omega arith)) (omega arith)) (omega arith)) (omega arith)
  statement_most deep (extends e) within ways = and_one_most load_blocks (expression_code e) (expression_size deep e) (expression_most deep e)
  statement_most deep (tree.include e ignore_missing) within ways = and_one_most (include ignore_missing) (expression_code e) (expression_size deep e) (expression_most deep e)
  statement_most deep continue_loop within ways = left_most ways.closings ways.continue_to
  statement_most deep break_loop within ways = left_most ways.closings ways.break_to
  statement_most deep _ within ways = λ place. omega arith

  pub statements_most : (deep : ℕ) (ss : Statements) → AreWithin deep ss → (ways : Ways) → AtMost (statements_code ways ss) (statements_size deep (length ways.closings) ss)
  statements_most deep no_statements within ways = λ place. omega arith
  statements_most deep (statements_more s ss) within ways =
      let n = length ways.closings in
      then_most (statement_code ways s) (statements_code ways ss) (statement_size deep n s) (statements_size deep n ss) (statement_size deep n s + statements_size deep n ss) (statement_most deep s within.0 ways) (statements_most deep ss within.1 ways) (omega arith)
