-- The reader on statements.
use lib.Utf8.{encode}
use Rattle.std.specs.Str.{trim_start, chars}
use Rattle.std.specs.Prelude.{◌≡◌, true, false, pos, [], ◌∷◌, codes, Ok, Err, refl}
use Rattle.template_values_model.specs.Val.{int}
use Rattle.template_compiler_tree.specs.Tree.{variable, constant, attribute, filtered, list_literal, tuple_literal, absent, given, no_expressions, expressions_more, no_arguments, raw, print, for_loop, if_condition, with_block, set, set_block, block, import, from_import, include, macro, call_block, break_loop, do_call, no_statements, statements_more, no_assignments, assignments_more, no_imports, imports_more}
use Rattle.template_compiler_tokens.specs.Token.{bad_syntax, template_data, variable_start, variable_end, block_end, identifier, number, symbol, dot, comma, assign, pipe, paren_open, paren_close}
use Rattle.template_compiler_tokens.specs.Steps.{and_then, under, goes_on, many, all}
use Rattle.template_compiler_grammar.specs.ReaderParts.{dotted_step, name_of, text_step, paren_end, bracket_end, brace_end, colon_end, separated, unless_closing}
use Rattle.template_compiler_grammar.specs.TemplateWords.{opens, tag}
use Rattle.template_compiler_grammar.specs.TemplateGrammar.{nothing_around}
use Rattle.template_compiler_grammar.specs.TemplateReaderParts.{expect_word, expect_assign, print_end, tag_end, expect_tag, more_step, word_by, context_by, missing_behind, missing_by, end_name_by, block_end_by, only_call}
use Rattle.template_compiler_grammar.specs.Nodes.{bare}
use Rattle.template_compiler_grammar.specs.Reader.{primary_by, dot_part, part_step, parts_by, unary_by, optional_arguments_by, filter_by, test_arguments_by, test_by, is_by, filter_step, filtered_by, chain_step, filter_chain_by, power_behind, power_by, operand_behind, operand_step, binary_of, terms_by, not_in_link, link_behind, link_step, comparison_by, negation_by, operand_by, binary_by, else_behind, if_behind, expression_by, items_by, pairs_by, paren_behind, paren_by, list_by, map_by, bound_by, step_by, slice_by, item_by, subscript_behind, subscript_by, named_argument, argument_by, few_arguments, arguments_by, deeper, expression_at, condition_at, optional_arguments_at, filter_at, filter_chain_at}
use Rattle.template_compiler_grammar.specs.TemplateNodes.{bare_template}
use Rattle.template_compiler_grammar.specs.TemplateReader.{path_step, stored_by, path_by, target_by, one_target_by, more_targets_by, targets_by, inner_targets, value_by, values_by, assignment_by, assignments_by, loop_filter_by, alias_by, import_by, default_by, parameter_by, parameters_by, optional_parameters_by, body_by, else_by, for_body, for_in, for_by, branch_by, branch_step, if_by, with_by, set_values, set_body, set_behind, set_by, autoescape_by, filter_block_by, block_body, block_by, import_statement_by, from_by, extends_by, include_by, macro_by, call_body, call_by, do_by, in_loop, opened_by, opened_step, print_by, statement_step, statements_by, deeper_parameters, here_by, deeper_body, here, template_behind}
use Rattle.template_compiler_grammar.specs.TemplateReader as reader
use Rattle.template_compiler_grammar.specs.TreeReader.{statements_at, template_of}

-- texts and prints
texts_and_prints :
    (statements_at 3 nothing_around (template_data (codes "a") ∷ variable_start ∷ identifier (codes "x") ∷ variable_end ∷ []) ≡ Ok (statements_more (raw (codes "a")) (statements_more (print (variable (codes "x"))) no_statements), []))
unfolding expect_word expect_assign print_end tag_end expect_tag more_step path_step stored_by path_by target_by one_target_by more_targets_by targets_by inner_targets value_by values_by assignment_by assignments_by word_by context_by missing_behind missing_by loop_filter_by alias_by import_by default_by parameter_by parameters_by optional_parameters_by body_by else_by for_body for_in for_by branch_by branch_step if_by with_by set_values set_body set_behind set_by autoescape_by filter_block_by end_name_by block_end_by block_body block_by import_statement_by from_by extends_by include_by macro_by only_call call_body call_by do_by in_loop opened_by opened_step print_by statement_step statements_by deeper_parameters here_by deeper_body here bare bare_template statements_at reader.statements_at template_behind template_of reader.template_of dotted_step name_of text_step paren_end bracket_end brace_end colon_end separated unless_closing primary_by dot_part part_step parts_by unary_by optional_arguments_by filter_by test_arguments_by test_by is_by filter_step filtered_by chain_step filter_chain_by power_behind power_by operand_behind operand_step binary_of terms_by not_in_link link_behind link_step comparison_by negation_by operand_by binary_by else_behind if_behind expression_by items_by pairs_by paren_behind paren_by list_by map_by bound_by step_by slice_by item_by subscript_behind subscript_by named_argument argument_by few_arguments arguments_by deeper expression_at condition_at optional_arguments_at filter_at filter_chain_at and_then under goes_on many all
texts_and_prints = refl

-- an `elif` is the one statement of the other part, and takes no level
branches :
    (statements_at 1 nothing_around (opens (codes "if") (identifier (codes "a") ∷ block_end ∷ opens (codes "elif") (identifier (codes "b") ∷ block_end ∷ tag (codes "else") (template_data (codes "c") ∷ tag (codes "endif") [])))) ≡ Ok (statements_more (if_condition (variable (codes "a")) no_statements (statements_more (if_condition (variable (codes "b")) no_statements (statements_more (raw (codes "c")) no_statements)) no_statements)) no_statements, [])) ×
    (statements_at 1 nothing_around (opens (codes "if") (identifier (codes "a") ∷ block_end ∷ opens (codes "if") (identifier (codes "b") ∷ block_end ∷ tag (codes "endif") (tag (codes "endif") [])))) ≡ Err bad_syntax)
unfolding expect_word expect_assign print_end tag_end expect_tag more_step path_step stored_by path_by target_by one_target_by more_targets_by targets_by inner_targets value_by values_by assignment_by assignments_by word_by context_by missing_behind missing_by loop_filter_by alias_by import_by default_by parameter_by parameters_by optional_parameters_by body_by else_by for_body for_in for_by branch_by branch_step if_by with_by set_values set_body set_behind set_by autoescape_by filter_block_by end_name_by block_end_by block_body block_by import_statement_by from_by extends_by include_by macro_by only_call call_body call_by do_by in_loop opened_by opened_step print_by statement_step statements_by deeper_parameters here_by deeper_body here bare bare_template statements_at reader.statements_at template_behind template_of reader.template_of dotted_step name_of text_step paren_end bracket_end brace_end colon_end separated unless_closing primary_by dot_part part_step parts_by unary_by optional_arguments_by filter_by test_arguments_by test_by is_by filter_step filtered_by chain_step filter_chain_by power_behind power_by operand_behind operand_step binary_of terms_by not_in_link link_behind link_step comparison_by negation_by operand_by binary_by else_behind if_behind expression_by items_by pairs_by paren_behind paren_by list_by map_by bound_by step_by slice_by item_by subscript_behind subscript_by named_argument argument_by few_arguments arguments_by deeper expression_at condition_at optional_arguments_at filter_at filter_chain_at and_then under goes_on many all
branches = (refl, refl)

-- one target in parentheses is itself, several are unpacked, and no comma stands last
targets_of_loops :
    (statements_at 3 nothing_around (opens (codes "for") (symbol paren_open ∷ identifier (codes "a") ∷ symbol paren_close ∷ identifier (codes "in") ∷ identifier (codes "x") ∷ block_end ∷ tag (codes "endfor") [])) ≡ Ok (statements_more (for_loop (variable (codes "a")) (variable (codes "x")) absent false no_statements no_statements) no_statements, [])) ×
    (statements_at 3 nothing_around (opens (codes "for") (identifier (codes "a") ∷ symbol comma ∷ identifier (codes "b") ∷ identifier (codes "in") ∷ identifier (codes "x") ∷ identifier (codes "recursive") ∷ block_end ∷ tag (codes "endfor") [])) ≡ Ok (statements_more (for_loop (list_literal (expressions_more (variable (codes "a")) (expressions_more (variable (codes "b")) no_expressions))) (variable (codes "x")) absent true no_statements no_statements) no_statements, [])) ×
    (statements_at 3 nothing_around (opens (codes "for") (identifier (codes "a") ∷ symbol comma ∷ identifier (codes "in") ∷ identifier (codes "x") ∷ block_end ∷ tag (codes "endfor") [])) ≡ Err bad_syntax) ×
    (statements_at 3 nothing_around (opens (codes "for") (identifier (codes "loop") ∷ identifier (codes "in") ∷ identifier (codes "x") ∷ block_end ∷ tag (codes "endfor") [])) ≡ Err bad_syntax)
unfolding expect_word expect_assign print_end tag_end expect_tag more_step path_step stored_by path_by target_by one_target_by more_targets_by targets_by inner_targets value_by values_by assignment_by assignments_by word_by context_by missing_behind missing_by loop_filter_by alias_by import_by default_by parameter_by parameters_by optional_parameters_by body_by else_by for_body for_in for_by branch_by branch_step if_by with_by set_values set_body set_behind set_by autoescape_by filter_block_by end_name_by block_end_by block_body block_by import_statement_by from_by extends_by include_by macro_by only_call call_body call_by do_by in_loop opened_by opened_step print_by statement_step statements_by deeper_parameters here_by deeper_body here bare bare_template statements_at reader.statements_at template_behind template_of reader.template_of dotted_step name_of text_step paren_end bracket_end brace_end colon_end separated unless_closing primary_by dot_part part_step parts_by unary_by optional_arguments_by filter_by test_arguments_by test_by is_by filter_step filtered_by chain_step filter_chain_by power_behind power_by operand_behind operand_step binary_of terms_by not_in_link link_behind link_step comparison_by negation_by operand_by binary_by else_behind if_behind expression_by items_by pairs_by paren_behind paren_by list_by map_by bound_by step_by slice_by item_by subscript_behind subscript_by named_argument argument_by few_arguments arguments_by deeper expression_at condition_at optional_arguments_at filter_at filter_chain_at and_then under goes_on many all
targets_of_loops = (refl, refl, refl, refl)

-- `break` stands in a loop of the same body alone
ways_out_of_loops :
    (statements_at 3 nothing_around (opens (codes "for") (identifier (codes "a") ∷ identifier (codes "in") ∷ identifier (codes "x") ∷ block_end ∷ tag (codes "break") (tag (codes "endfor") []))) ≡ Ok (statements_more (for_loop (variable (codes "a")) (variable (codes "x")) absent false (statements_more (break_loop) no_statements) no_statements) no_statements, [])) ×
    (statements_at 3 nothing_around (tag (codes "break") []) ≡ Err bad_syntax) ×
    (statements_at 3 nothing_around (opens (codes "for") (identifier (codes "a") ∷ identifier (codes "in") ∷ identifier (codes "x") ∷ block_end ∷ tag (codes "else") (tag (codes "continue") (tag (codes "endfor") [])))) ≡ Err bad_syntax)
unfolding expect_word expect_assign print_end tag_end expect_tag more_step path_step stored_by path_by target_by one_target_by more_targets_by targets_by inner_targets value_by values_by assignment_by assignments_by word_by context_by missing_behind missing_by loop_filter_by alias_by import_by default_by parameter_by parameters_by optional_parameters_by body_by else_by for_body for_in for_by branch_by branch_step if_by with_by set_values set_body set_behind set_by autoescape_by filter_block_by end_name_by block_end_by block_body block_by import_statement_by from_by extends_by include_by macro_by only_call call_body call_by do_by in_loop opened_by opened_step print_by statement_step statements_by deeper_parameters here_by deeper_body here bare bare_template statements_at reader.statements_at template_behind template_of reader.template_of dotted_step name_of text_step paren_end bracket_end brace_end colon_end separated unless_closing primary_by dot_part part_step parts_by unary_by optional_arguments_by filter_by test_arguments_by test_by is_by filter_step filtered_by chain_step filter_chain_by power_behind power_by operand_behind operand_step binary_of terms_by not_in_link link_behind link_step comparison_by negation_by operand_by binary_by else_behind if_behind expression_by items_by pairs_by paren_behind paren_by list_by map_by bound_by step_by slice_by item_by subscript_behind subscript_by named_argument argument_by few_arguments arguments_by deeper expression_at condition_at optional_arguments_at filter_at filter_chain_at and_then under goes_on many all
ways_out_of_loops = (refl, refl, refl)

-- several values are a tuple; a set block takes filters
sets :
    (statements_at 3 nothing_around (opens (codes "set") (identifier (codes "a") ∷ symbol dot ∷ identifier (codes "b") ∷ symbol assign ∷ number 1 ∷ symbol comma ∷ number 2 ∷ block_end ∷ [])) ≡ Ok (statements_more (set (attribute (variable (codes "a")) (codes "b")) (tuple_literal (expressions_more (constant (int (pos 1))) (expressions_more (constant (int (pos 2))) no_expressions)))) no_statements, [])) ×
    (statements_at 3 nothing_around (opens (codes "set") (identifier (codes "a") ∷ symbol pipe ∷ identifier (codes "f") ∷ block_end ∷ tag (codes "endset") [])) ≡ Ok (statements_more (set_block (variable (codes "a")) (given (filtered (codes "f") absent no_arguments)) no_statements) no_statements, [])) ×
    (statements_at 3 nothing_around (opens (codes "set") (identifier (codes "a") ∷ symbol comma ∷ identifier (codes "b") ∷ block_end ∷ tag (codes "endset") [])) ≡ Err bad_syntax) ×
    (statements_at 3 nothing_around (opens (codes "set") (identifier (codes "a") ∷ symbol assign ∷ number 1 ∷ symbol comma ∷ block_end ∷ [])) ≡ Err bad_syntax)
unfolding expect_word expect_assign print_end tag_end expect_tag more_step path_step stored_by path_by target_by one_target_by more_targets_by targets_by inner_targets value_by values_by assignment_by assignments_by word_by context_by missing_behind missing_by loop_filter_by alias_by import_by default_by parameter_by parameters_by optional_parameters_by body_by else_by for_body for_in for_by branch_by branch_step if_by with_by set_values set_body set_behind set_by autoescape_by filter_block_by end_name_by block_end_by block_body block_by import_statement_by from_by extends_by include_by macro_by only_call call_body call_by do_by in_loop opened_by opened_step print_by statement_step statements_by deeper_parameters here_by deeper_body here bare bare_template statements_at reader.statements_at template_behind template_of reader.template_of dotted_step name_of text_step paren_end bracket_end brace_end colon_end separated unless_closing primary_by dot_part part_step parts_by unary_by optional_arguments_by filter_by test_arguments_by test_by is_by filter_step filtered_by chain_step filter_chain_by power_behind power_by operand_behind operand_step binary_of terms_by not_in_link link_behind link_step comparison_by negation_by operand_by binary_by else_behind if_behind expression_by items_by pairs_by paren_behind paren_by list_by map_by bound_by step_by slice_by item_by subscript_behind subscript_by named_argument argument_by few_arguments arguments_by deeper expression_at condition_at optional_arguments_at filter_at filter_chain_at and_then under goes_on many all
sets = (refl, refl, refl, refl)

-- behind a default each argument has one; no block stands in a macro
macros :
    (statements_at 3 nothing_around (opens (codes "macro") (identifier (codes "m") ∷ symbol paren_open ∷ identifier (codes "a") ∷ symbol comma ∷ identifier (codes "b") ∷ symbol assign ∷ number 1 ∷ symbol paren_close ∷ block_end ∷ tag (codes "endmacro") [])) ≡ Ok (statements_more (macro (codes "m") (expressions_more (variable (codes "a")) (expressions_more (variable (codes "b")) no_expressions)) (expressions_more (constant (int (pos 1))) no_expressions) no_statements) no_statements, [])) ×
    (statements_at 3 nothing_around (opens (codes "macro") (identifier (codes "m") ∷ symbol paren_open ∷ identifier (codes "a") ∷ symbol assign ∷ number 1 ∷ symbol comma ∷ identifier (codes "b") ∷ symbol paren_close ∷ block_end ∷ tag (codes "endmacro") [])) ≡ Err bad_syntax) ×
    (statements_at 3 nothing_around (opens (codes "macro") (identifier (codes "m") ∷ symbol paren_open ∷ symbol paren_close ∷ block_end ∷ opens (codes "block") (identifier (codes "b") ∷ block_end ∷ tag (codes "endblock") (tag (codes "endmacro") [])))) ≡ Err bad_syntax)
unfolding expect_word expect_assign print_end tag_end expect_tag more_step path_step stored_by path_by target_by one_target_by more_targets_by targets_by inner_targets value_by values_by assignment_by assignments_by word_by context_by missing_behind missing_by loop_filter_by alias_by import_by default_by parameter_by parameters_by optional_parameters_by body_by else_by for_body for_in for_by branch_by branch_step if_by with_by set_values set_body set_behind set_by autoescape_by filter_block_by end_name_by block_end_by block_body block_by import_statement_by from_by extends_by include_by macro_by only_call call_body call_by do_by in_loop opened_by opened_step print_by statement_step statements_by deeper_parameters here_by deeper_body here bare bare_template statements_at reader.statements_at template_behind template_of reader.template_of dotted_step name_of text_step paren_end bracket_end brace_end colon_end separated unless_closing primary_by dot_part part_step parts_by unary_by optional_arguments_by filter_by test_arguments_by test_by is_by filter_step filtered_by chain_step filter_chain_by power_behind power_by operand_behind operand_step binary_of terms_by not_in_link link_behind link_step comparison_by negation_by operand_by binary_by else_behind if_behind expression_by items_by pairs_by paren_behind paren_by list_by map_by bound_by step_by slice_by item_by subscript_behind subscript_by named_argument argument_by few_arguments arguments_by deeper expression_at condition_at optional_arguments_at filter_at filter_chain_at and_then under goes_on many all
macros = (refl, refl, refl)

-- a block's end has its name or none; a required one is blank
blocks :
    (statements_at 3 nothing_around (opens (codes "block") (identifier (codes "b") ∷ identifier (codes "required") ∷ block_end ∷ template_data (codes " ") ∷ opens (codes "endblock") (identifier (codes "b") ∷ block_end ∷ []))) ≡ Ok (statements_more (block (codes "b") true (statements_more (raw (codes " ")) no_statements)) no_statements, [])) ×
    (statements_at 3 nothing_around (opens (codes "block") (identifier (codes "b") ∷ block_end ∷ opens (codes "endblock") (identifier (codes "c") ∷ block_end ∷ []))) ≡ Err bad_syntax) ×
    (statements_at 3 nothing_around (opens (codes "block") (identifier (codes "b") ∷ identifier (codes "required") ∷ block_end ∷ template_data (codes "a") ∷ tag (codes "endblock") [])) ≡ Err bad_syntax)
unfolding trim_start chars encode expect_word expect_assign print_end tag_end expect_tag more_step path_step stored_by path_by target_by one_target_by more_targets_by targets_by inner_targets value_by values_by assignment_by assignments_by word_by context_by missing_behind missing_by loop_filter_by alias_by import_by default_by parameter_by parameters_by optional_parameters_by body_by else_by for_body for_in for_by branch_by branch_step if_by with_by set_values set_body set_behind set_by autoescape_by filter_block_by end_name_by block_end_by block_body block_by import_statement_by from_by extends_by include_by macro_by only_call call_body call_by do_by in_loop opened_by opened_step print_by statement_step statements_by deeper_parameters here_by deeper_body here bare bare_template statements_at reader.statements_at template_behind template_of reader.template_of dotted_step name_of text_step paren_end bracket_end brace_end colon_end separated unless_closing primary_by dot_part part_step parts_by unary_by optional_arguments_by filter_by test_arguments_by test_by is_by filter_step filtered_by chain_step filter_chain_by power_behind power_by operand_behind operand_step binary_of terms_by not_in_link link_behind link_step comparison_by negation_by operand_by binary_by else_behind if_behind expression_by items_by pairs_by paren_behind paren_by list_by map_by bound_by step_by slice_by item_by subscript_behind subscript_by named_argument argument_by few_arguments arguments_by deeper expression_at condition_at optional_arguments_at filter_at filter_chain_at and_then under goes_on many all
blocks = (refl, refl, refl)

-- what is opened is closed
unclosed :
    (statements_at 3 nothing_around (opens (codes "block") (identifier (codes "b") ∷ block_end ∷ template_data (codes "a") ∷ [])) ≡ Err bad_syntax) ×
    (statements_at 3 nothing_around (opens (codes "if") (identifier (codes "a") ∷ block_end ∷ template_data (codes "b") ∷ [])) ≡ Err bad_syntax)
unfolding trim_start chars encode expect_word expect_assign print_end tag_end expect_tag more_step path_step stored_by path_by target_by one_target_by more_targets_by targets_by inner_targets value_by values_by assignment_by assignments_by word_by context_by missing_behind missing_by loop_filter_by alias_by import_by default_by parameter_by parameters_by optional_parameters_by body_by else_by for_body for_in for_by branch_by branch_step if_by with_by set_values set_body set_behind set_by autoescape_by filter_block_by end_name_by block_end_by block_body block_by import_statement_by from_by extends_by include_by macro_by only_call call_body call_by do_by in_loop opened_by opened_step print_by statement_step statements_by deeper_parameters here_by deeper_body here bare bare_template statements_at reader.statements_at template_behind template_of reader.template_of dotted_step name_of text_step paren_end bracket_end brace_end colon_end separated unless_closing primary_by dot_part part_step parts_by unary_by optional_arguments_by filter_by test_arguments_by test_by is_by filter_step filtered_by chain_step filter_chain_by power_behind power_by operand_behind operand_step binary_of terms_by not_in_link link_behind link_step comparison_by negation_by operand_by binary_by else_behind if_behind expression_by items_by pairs_by paren_behind paren_by list_by map_by bound_by step_by slice_by item_by subscript_behind subscript_by named_argument argument_by few_arguments arguments_by deeper expression_at condition_at optional_arguments_at filter_at filter_chain_at and_then under goes_on many all
unclosed = (refl, refl)

-- `with context` changes nothing
other_templates :
    (statements_at 3 nothing_around (opens (codes "include") (identifier (codes "p") ∷ identifier (codes "with") ∷ identifier (codes "context") ∷ identifier (codes "ignore") ∷ identifier (codes "missing") ∷ block_end ∷ [])) ≡ Ok (statements_more (include (variable (codes "p")) true) no_statements, [])) ×
    (statements_at 3 nothing_around (opens (codes "from") (identifier (codes "p") ∷ identifier (codes "import") ∷ identifier (codes "a") ∷ identifier (codes "as") ∷ identifier (codes "b") ∷ symbol comma ∷ identifier (codes "c") ∷ identifier (codes "with") ∷ identifier (codes "context") ∷ block_end ∷ [])) ≡ Ok (statements_more (from_import (variable (codes "p")) (imports_more (variable (codes "a")) (given (variable (codes "b"))) (imports_more (variable (codes "c")) absent no_imports))) no_statements, [])) ×
    (statements_at 3 nothing_around (opens (codes "from") (identifier (codes "p") ∷ identifier (codes "import") ∷ identifier (codes "loop") ∷ identifier (codes "as") ∷ identifier (codes "l") ∷ block_end ∷ [])) ≡ Err bad_syntax) ×
    (statements_at 3 nothing_around (opens (codes "import") (identifier (codes "p") ∷ identifier (codes "as") ∷ identifier (codes "a") ∷ block_end ∷ [])) ≡ Ok (statements_more (import (variable (codes "p")) (variable (codes "a"))) no_statements, []))
unfolding expect_word expect_assign print_end tag_end expect_tag more_step path_step stored_by path_by target_by one_target_by more_targets_by targets_by inner_targets value_by values_by assignment_by assignments_by word_by context_by missing_behind missing_by loop_filter_by alias_by import_by default_by parameter_by parameters_by optional_parameters_by body_by else_by for_body for_in for_by branch_by branch_step if_by with_by set_values set_body set_behind set_by autoescape_by filter_block_by end_name_by block_end_by block_body block_by import_statement_by from_by extends_by include_by macro_by only_call call_body call_by do_by in_loop opened_by opened_step print_by statement_step statements_by deeper_parameters here_by deeper_body here bare bare_template statements_at reader.statements_at template_behind template_of reader.template_of dotted_step name_of text_step paren_end bracket_end brace_end colon_end separated unless_closing primary_by dot_part part_step parts_by unary_by optional_arguments_by filter_by test_arguments_by test_by is_by filter_step filtered_by chain_step filter_chain_by power_behind power_by operand_behind operand_step binary_of terms_by not_in_link link_behind link_step comparison_by negation_by operand_by binary_by else_behind if_behind expression_by items_by pairs_by paren_behind paren_by list_by map_by bound_by step_by slice_by item_by subscript_behind subscript_by named_argument argument_by few_arguments arguments_by deeper expression_at condition_at optional_arguments_at filter_at filter_chain_at and_then under goes_on many all
other_templates = (refl, refl, refl, refl)

-- what is called is a call; its body's arguments stand first
calls :
    (statements_at 3 nothing_around (opens (codes "call") (symbol paren_open ∷ identifier (codes "a") ∷ symbol paren_close ∷ identifier (codes "f") ∷ symbol paren_open ∷ symbol paren_close ∷ block_end ∷ tag (codes "endcall") [])) ≡ Ok (statements_more (call_block (variable (codes "f")) no_arguments (expressions_more (variable (codes "a")) no_expressions) no_expressions no_statements) no_statements, [])) ×
    (statements_at 3 nothing_around (opens (codes "do") (identifier (codes "f") ∷ block_end ∷ [])) ≡ Err bad_syntax) ×
    (statements_at 3 nothing_around (opens (codes "do") (identifier (codes "f") ∷ symbol paren_open ∷ symbol paren_close ∷ block_end ∷ [])) ≡ Ok (statements_more (do_call (variable (codes "f")) no_arguments) no_statements, []))
unfolding expect_word expect_assign print_end tag_end expect_tag more_step path_step stored_by path_by target_by one_target_by more_targets_by targets_by inner_targets value_by values_by assignment_by assignments_by word_by context_by missing_behind missing_by loop_filter_by alias_by import_by default_by parameter_by parameters_by optional_parameters_by body_by else_by for_body for_in for_by branch_by branch_step if_by with_by set_values set_body set_behind set_by autoescape_by filter_block_by end_name_by block_end_by block_body block_by import_statement_by from_by extends_by include_by macro_by only_call call_body call_by do_by in_loop opened_by opened_step print_by statement_step statements_by deeper_parameters here_by deeper_body here bare bare_template statements_at reader.statements_at template_behind template_of reader.template_of dotted_step name_of text_step paren_end bracket_end brace_end colon_end separated unless_closing primary_by dot_part part_step parts_by unary_by optional_arguments_by filter_by test_arguments_by test_by is_by filter_step filtered_by chain_step filter_chain_by power_behind power_by operand_behind operand_step binary_of terms_by not_in_link link_behind link_step comparison_by negation_by operand_by binary_by else_behind if_behind expression_by items_by pairs_by paren_behind paren_by list_by map_by bound_by step_by slice_by item_by subscript_behind subscript_by named_argument argument_by few_arguments arguments_by deeper expression_at condition_at optional_arguments_at filter_at filter_chain_at and_then under goes_on many all
calls = (refl, refl, refl)

-- a scope may store nothing; it takes one target at a time
scopes :
    (statements_at 3 nothing_around (tag (codes "with") (tag (codes "endwith") [])) ≡ Ok (statements_more (with_block no_assignments no_statements) no_statements, [])) ×
    (statements_at 3 nothing_around (opens (codes "with") (identifier (codes "a") ∷ symbol assign ∷ number 1 ∷ block_end ∷ tag (codes "endwith") [])) ≡ Ok (statements_more (with_block (assignments_more (variable (codes "a")) (constant (int (pos 1))) no_assignments) no_statements) no_statements, [])) ×
    (statements_at 3 nothing_around (opens (codes "with") (identifier (codes "a") ∷ symbol comma ∷ identifier (codes "b") ∷ symbol assign ∷ number 1 ∷ block_end ∷ tag (codes "endwith") [])) ≡ Err bad_syntax)
unfolding expect_word expect_assign print_end tag_end expect_tag more_step path_step stored_by path_by target_by one_target_by more_targets_by targets_by inner_targets value_by values_by assignment_by assignments_by word_by context_by missing_behind missing_by loop_filter_by alias_by import_by default_by parameter_by parameters_by optional_parameters_by body_by else_by for_body for_in for_by branch_by branch_step if_by with_by set_values set_body set_behind set_by autoescape_by filter_block_by end_name_by block_end_by block_body block_by import_statement_by from_by extends_by include_by macro_by only_call call_body call_by do_by in_loop opened_by opened_step print_by statement_step statements_by deeper_parameters here_by deeper_body here bare bare_template statements_at reader.statements_at template_behind template_of reader.template_of dotted_step name_of text_step paren_end bracket_end brace_end colon_end separated unless_closing primary_by dot_part part_step parts_by unary_by optional_arguments_by filter_by test_arguments_by test_by is_by filter_step filtered_by chain_step filter_chain_by power_behind power_by operand_behind operand_step binary_of terms_by not_in_link link_behind link_step comparison_by negation_by operand_by binary_by else_behind if_behind expression_by items_by pairs_by paren_behind paren_by list_by map_by bound_by step_by slice_by item_by subscript_behind subscript_by named_argument argument_by few_arguments arguments_by deeper expression_at condition_at optional_arguments_at filter_at filter_chain_at and_then under goes_on many all
scopes = (refl, refl, refl)
