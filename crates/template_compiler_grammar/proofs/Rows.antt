-- The reader on expressions.
use Rattle.std.specs.Prelude.{◌≡◌, ℕ, zero, suc, Bool, ◌++◌, replicate, pos, [], ◌∷◌, codes, Ok, Err, refl, List, true, false}
use Rattle.template_values_model.specs.Val.{int, text, none, truth}
use Rattle.template_compiler_tree.specs.Tree.{Expression, Arguments, variable, constant, slice, unary, binary, chain, conditional, filtered, tested, attribute, item, call, list_literal, tuple_literal, map_literal, absent, given, no_expressions, expressions_more, no_links, links_more, no_arguments, arguments_more, positional, keyword, positional_spread, keyword_spread}
use Rattle.template_compiler_tree.specs.declared.operators.UnaryOpKind.TheVariants.{Not, Neg}
use Rattle.template_compiler_tree.specs.declared.operators.BinOpKind.TheVariants.{Eq, Gt, ScAnd, ScOr, Add, Pow, In}
use Rattle.template_compiler_tree.specs.declared.operators.CompareOpKind.TheVariants as compare
use Rattle.template_compiler_tokens.specs.Token.{Token, bad_syntax, bad_escape, float_literal, bad, identifier, string, number, symbol, plus, minus, mul, pow, dot, comma, colon, assign, pipe, eq, gt, lt, bracket_open, bracket_close, paren_open, paren_close, brace_open, brace_close}
use Rattle.template_compiler_tokens.specs.Steps.{Read, many, all, and_then, under, goes_on}
use Rattle.template_compiler_grammar.specs.ReaderParts.{dotted_step, name_of, text_step, paren_end, bracket_end, brace_end, colon_end, separated, unless_closing}
use Rattle.template_compiler_grammar.specs.Nodes.{bare}
use Rattle.template_compiler_grammar.specs.Reader.{expression_by, deeper, primary_by, dot_part, part_step, parts_by, unary_by, optional_arguments_by, filter_by, test_arguments_by, test_by, is_by, filter_step, filtered_by, power_behind, power_by, operand_behind, operand_step, binary_of, terms_by, not_in_link, link_behind, link_step, comparison_by, negation_by, operand_by, binary_by, else_behind, if_behind, items_by, pairs_by, paren_behind, paren_by, list_by, map_by, bound_by, step_by, slice_by, item_by, subscript_behind, subscript_by, named_argument, argument_by, few_arguments, arguments_by}
use Rattle.template_compiler_grammar.specs.Reader as reader
use Rattle.template_compiler_grammar.specs.TreeReader.{expression_at}

-- an argument alone
abbrev argument : Expression → Arguments
argument e = arguments_more (positional e) no_arguments

-- powers go to the right, and a minus binds tighter
powers :
    (expression_at 9 (identifier (codes "x") ∷ symbol pow ∷ number 3 ∷ symbol pow ∷ number 2 ∷ []) ≡ Ok (binary Pow (variable (codes "x")) (binary Pow (constant (int (pos 3))) (constant (int (pos 2)))), [])) ×
    (expression_at 9 (number 2 ∷ symbol pow ∷ symbol minus ∷ number 1 ∷ symbol pow ∷ number 2 ∷ []) ≡ Ok (binary Pow (constant (int (pos 2))) (binary Pow (unary Neg (constant (int (pos 1)))) (constant (int (pos 2)))), []))
unfolding bare expression_at reader.expression_at expression_by deeper dotted_step name_of text_step paren_end bracket_end brace_end colon_end separated unless_closing primary_by dot_part part_step parts_by unary_by optional_arguments_by filter_by test_arguments_by test_by is_by filter_step filtered_by power_behind power_by operand_behind operand_step binary_of terms_by not_in_link link_behind link_step comparison_by negation_by operand_by binary_by else_behind if_behind items_by pairs_by paren_behind paren_by list_by map_by bound_by step_by slice_by item_by subscript_behind subscript_by named_argument argument_by few_arguments arguments_by many all and_then under goes_on
powers = (refl, refl)

-- a minus takes parts, and leaves filters and tests
minus_signs :
    (expression_at 9 (symbol minus ∷ identifier (codes "x") ∷ symbol pipe ∷ identifier (codes "f") ∷ []) ≡ Ok (filtered (codes "f") (given (unary Neg (variable (codes "x")))) no_arguments, [])) ×
    (expression_at 9 (symbol minus ∷ identifier (codes "x") ∷ identifier (codes "is") ∷ identifier (codes "t") ∷ []) ≡ Ok (tested (codes "t") (unary Neg (variable (codes "x"))) no_arguments, [])) ×
    (expression_at 9 (symbol minus ∷ identifier (codes "x") ∷ symbol dot ∷ identifier (codes "y") ∷ []) ≡ Ok (unary Neg (attribute (variable (codes "x")) (codes "y")), []))
unfolding bare expression_at reader.expression_at expression_by deeper dotted_step name_of text_step paren_end bracket_end brace_end colon_end separated unless_closing primary_by dot_part part_step parts_by unary_by optional_arguments_by filter_by test_arguments_by test_by is_by filter_step filtered_by power_behind power_by operand_behind operand_step binary_of terms_by not_in_link link_behind link_step comparison_by negation_by operand_by binary_by else_behind if_behind items_by pairs_by paren_behind paren_by list_by map_by bound_by step_by slice_by item_by subscript_behind subscript_by named_argument argument_by few_arguments arguments_by many all and_then under goes_on
minus_signs = (refl, refl, refl)

-- what begins an argument of a test begins one
bare_arguments :
    (expression_at 9 (identifier (codes "x") ∷ identifier (codes "is") ∷ identifier (codes "t") ∷ symbol minus ∷ number 1 ∷ []) ≡ Ok (tested (codes "t") (variable (codes "x")) (argument (unary Neg (constant (int (pos 1))))), [])) ×
    (expression_at 9 (identifier (codes "x") ∷ identifier (codes "is") ∷ identifier (codes "t") ∷ symbol bracket_open ∷ number 1 ∷ symbol bracket_close ∷ []) ≡ Ok (tested (codes "t") (variable (codes "x")) (argument (list_literal (expressions_more (constant (int (pos 1))) no_expressions))), [])) ×
    (expression_at 9 (identifier (codes "x") ∷ identifier (codes "is") ∷ identifier (codes "t") ∷ identifier (codes "a") ∷ symbol dot ∷ identifier (codes "b") ∷ []) ≡ Ok (tested (codes "t") (variable (codes "x")) (argument (attribute (variable (codes "a")) (codes "b"))), [])) ×
    (expression_at 9 (identifier (codes "x") ∷ identifier (codes "is") ∷ identifier (codes "not") ∷ identifier (codes "t") ∷ identifier (codes "and") ∷ identifier (codes "y") ∷ []) ≡ Ok (binary ScAnd (unary Not (tested (codes "t") (variable (codes "x")) no_arguments)) (variable (codes "y")), [])) ×
    (expression_at 9 (identifier (codes "x") ∷ identifier (codes "is") ∷ identifier (codes "t") ∷ symbol plus ∷ number 1 ∷ []) ≡ Ok (binary Add (tested (codes "t") (variable (codes "x")) no_arguments) (constant (int (pos 1))), [])) ×
    (expression_at 9 (identifier (codes "x") ∷ symbol pipe ∷ identifier (codes "f") ∷ symbol dot ∷ identifier (codes "g") ∷ symbol dot ∷ number 1 ∷ []) ≡ Ok (item (filtered (codes "f.g") (given (variable (codes "x"))) no_arguments) (constant (int (pos 1))), []))
unfolding bare expression_at reader.expression_at expression_by deeper dotted_step name_of text_step paren_end bracket_end brace_end colon_end separated unless_closing primary_by dot_part part_step parts_by unary_by optional_arguments_by filter_by test_arguments_by test_by is_by filter_step filtered_by power_behind power_by operand_behind operand_step binary_of terms_by not_in_link link_behind link_step comparison_by negation_by operand_by binary_by else_behind if_behind items_by pairs_by paren_behind paren_by list_by map_by bound_by step_by slice_by item_by subscript_behind subscript_by named_argument argument_by few_arguments arguments_by many all and_then under goes_on
bare_arguments = (refl, refl, refl, refl, refl, refl)

-- one comparison is an operator, more are one chain
comparisons :
    (expression_at 9 (number 1 ∷ identifier (codes "not") ∷ identifier (codes "in") ∷ identifier (codes "x") ∷ []) ≡ Ok (unary Not (binary In (constant (int (pos 1))) (variable (codes "x"))), [])) ×
    (expression_at 9 (identifier (codes "not") ∷ number 1 ∷ identifier (codes "in") ∷ identifier (codes "x") ∷ []) ≡ Ok (unary Not (binary In (constant (int (pos 1))) (variable (codes "x"))), [])) ×
    (expression_at 9 (number 1 ∷ symbol lt ∷ number 2 ∷ identifier (codes "not") ∷ identifier (codes "in") ∷ identifier (codes "x") ∷ []) ≡ Ok (chain (constant (int (pos 1))) (links_more compare.Lt (constant (int (pos 2))) (links_more compare.NotIn (variable (codes "x")) no_links)), [])) ×
    (expression_at 9 (number 1 ∷ symbol eq ∷ number 1 ∷ []) ≡ Ok (binary Eq (constant (int (pos 1))) (constant (int (pos 1))), []))
unfolding bare expression_at reader.expression_at expression_by deeper dotted_step name_of text_step paren_end bracket_end brace_end colon_end separated unless_closing primary_by dot_part part_step parts_by unary_by optional_arguments_by filter_by test_arguments_by test_by is_by filter_step filtered_by power_behind power_by operand_behind operand_step binary_of terms_by not_in_link link_behind link_step comparison_by negation_by operand_by binary_by else_behind if_behind items_by pairs_by paren_behind paren_by list_by map_by bound_by step_by slice_by item_by subscript_behind subscript_by named_argument argument_by few_arguments arguments_by many all and_then under goes_on
comparisons = (refl, refl, refl, refl)

-- a word is an operator where one can stand, else a name
words :
    (expression_at 9 (identifier (codes "if") ∷ []) ≡ Ok (variable (codes "if"), [])) ×
    (expression_at 9 (symbol minus ∷ identifier (codes "not") ∷ []) ≡ Ok (unary Neg (variable (codes "not")), [])) ×
    (expression_at 9 (identifier (codes "not") ∷ []) ≡ Err bad_syntax) ×
    (expression_at 9 (number 1 ∷ identifier (codes "if") ∷ identifier (codes "if") ∷ []) ≡ Ok (conditional (variable (codes "if")) (constant (int (pos 1))) absent, [])) ×
    (expression_at 9 (number 1 ∷ symbol gt ∷ identifier (codes "not") ∷ symbol paren_open ∷ identifier (codes "y") ∷ symbol paren_close ∷ []) ≡ Ok (binary Gt (constant (int (pos 1))) (call (variable (codes "not")) (argument (variable (codes "y")))), [])) ×
    (expression_at 9 (identifier (codes "True") ∷ identifier (codes "or") ∷ identifier (codes "none") ∷ []) ≡ Ok (binary ScOr (constant (truth true)) (constant none), []))
unfolding bare expression_at reader.expression_at expression_by deeper dotted_step name_of text_step paren_end bracket_end brace_end colon_end separated unless_closing primary_by dot_part part_step parts_by unary_by optional_arguments_by filter_by test_arguments_by test_by is_by filter_step filtered_by power_behind power_by operand_behind operand_step binary_of terms_by not_in_link link_behind link_step comparison_by negation_by operand_by binary_by else_behind if_behind items_by pairs_by paren_behind paren_by list_by map_by bound_by step_by slice_by item_by subscript_behind subscript_by named_argument argument_by few_arguments arguments_by many all and_then under goes_on
words = (refl, refl, refl, refl, refl, refl)

-- branches
branches :
    (expression_at 9 (number 1 ∷ identifier (codes "if") ∷ []) ≡ Err bad_syntax) ×
    (expression_at 9 (number 1 ∷ identifier (codes "if") ∷ identifier (codes "x") ∷ identifier (codes "else") ∷ number 2 ∷ identifier (codes "if") ∷ identifier (codes "y") ∷ []) ≡ Ok (conditional (variable (codes "x")) (constant (int (pos 1))) (given (conditional (variable (codes "y")) (constant (int (pos 2))) absent)), []))
unfolding bare expression_at reader.expression_at expression_by deeper dotted_step name_of text_step paren_end bracket_end brace_end colon_end separated unless_closing primary_by dot_part part_step parts_by unary_by optional_arguments_by filter_by test_arguments_by test_by is_by filter_step filtered_by power_behind power_by operand_behind operand_step binary_of terms_by not_in_link link_behind link_step comparison_by negation_by operand_by binary_by else_behind if_behind items_by pairs_by paren_behind paren_by list_by map_by bound_by step_by slice_by item_by subscript_behind subscript_by named_argument argument_by few_arguments arguments_by many all and_then under goes_on
branches = (refl, refl)

-- texts, brackets and slices
primaries :
    (expression_at 9 (string (codes "a") ∷ string (codes "b") ∷ symbol dot ∷ identifier (codes "c") ∷ []) ≡ Ok (attribute (constant (text (codes "ab"))) (codes "c"), [])) ×
    (expression_at 9 (symbol paren_open ∷ symbol paren_close ∷ []) ≡ Ok (tuple_literal no_expressions, [])) ×
    (expression_at 9 (symbol paren_open ∷ number 1 ∷ symbol paren_close ∷ []) ≡ Ok (constant (int (pos 1)), [])) ×
    (expression_at 9 (symbol paren_open ∷ number 1 ∷ symbol comma ∷ symbol paren_close ∷ []) ≡ Ok (tuple_literal (expressions_more (constant (int (pos 1))) no_expressions), [])) ×
    (expression_at 9 (symbol bracket_open ∷ symbol comma ∷ symbol bracket_close ∷ []) ≡ Err bad_syntax) ×
    (expression_at 9 (symbol brace_open ∷ string (codes "a") ∷ symbol colon ∷ number 1 ∷ symbol comma ∷ symbol brace_close ∷ []) ≡ Ok (map_literal (expressions_more (constant (text (codes "a"))) no_expressions) (expressions_more (constant (int (pos 1))) no_expressions), [])) ×
    (expression_at 9 (identifier (codes "x") ∷ symbol bracket_open ∷ symbol colon ∷ number 2 ∷ symbol bracket_close ∷ []) ≡ Ok (slice (variable (codes "x")) absent (given (constant (int (pos 2)))) absent, [])) ×
    (expression_at 9 (identifier (codes "x") ∷ symbol bracket_open ∷ number 1 ∷ symbol colon ∷ symbol colon ∷ number 2 ∷ symbol bracket_close ∷ []) ≡ Ok (slice (variable (codes "x")) (given (constant (int (pos 1)))) absent (given (constant (int (pos 2)))), [])) ×
    (expression_at 9 (identifier (codes "x") ∷ symbol bracket_open ∷ symbol bracket_close ∷ []) ≡ Err bad_syntax)
unfolding bare expression_at reader.expression_at expression_by deeper dotted_step name_of text_step paren_end bracket_end brace_end colon_end separated unless_closing primary_by dot_part part_step parts_by unary_by optional_arguments_by filter_by test_arguments_by test_by is_by filter_step filtered_by power_behind power_by operand_behind operand_step binary_of terms_by not_in_link link_behind link_step comparison_by negation_by operand_by binary_by else_behind if_behind items_by pairs_by paren_behind paren_by list_by map_by bound_by step_by slice_by item_by subscript_behind subscript_by named_argument argument_by few_arguments arguments_by many all and_then under goes_on
primaries = (refl, refl, refl, refl, refl, refl, refl, refl, refl)

-- arguments by place come first in the tree
arguments :
    (expression_at 9 (identifier (codes "f") ∷ symbol paren_open ∷ identifier (codes "a") ∷ symbol assign ∷ number 1 ∷ symbol comma ∷ number 2 ∷ symbol comma ∷ symbol pow ∷ identifier (codes "k") ∷ symbol comma ∷ symbol mul ∷ identifier (codes "p") ∷ symbol comma ∷ symbol paren_close ∷ []) ≡ Ok (call (variable (codes "f")) (arguments_more (positional (constant (int (pos 2)))) (arguments_more (positional_spread (variable (codes "p"))) (arguments_more (keyword (codes "a") (constant (int (pos 1)))) (arguments_more (keyword_spread (variable (codes "k"))) no_arguments)))), [])) ×
    (expression_at 9 (identifier (codes "f") ∷ symbol paren_open ∷ identifier (codes "true") ∷ symbol assign ∷ number 1 ∷ symbol paren_close ∷ []) ≡ Ok (call (variable (codes "f")) (arguments_more (keyword (codes "true") (constant (int (pos 1)))) no_arguments), []))
unfolding bare expression_at reader.expression_at expression_by deeper dotted_step name_of text_step paren_end bracket_end brace_end colon_end separated unless_closing primary_by dot_part part_step parts_by unary_by optional_arguments_by filter_by test_arguments_by test_by is_by filter_step filtered_by power_behind power_by operand_behind operand_step binary_of terms_by not_in_link link_behind link_step comparison_by negation_by operand_by binary_by else_behind if_behind items_by pairs_by paren_behind paren_by list_by map_by bound_by step_by slice_by item_by subscript_behind subscript_by named_argument argument_by few_arguments arguments_by many all and_then under goes_on
arguments = (refl, refl)

-- a refusal tells what stands there
refusals :
    (expression_at 9 (bad bad_escape ∷ []) ≡ Err bad_escape) ×
    (expression_at 9 (identifier (codes "x") ∷ symbol plus ∷ bad float_literal ∷ []) ≡ Err float_literal) ×
    (expression_at 9 (identifier (codes "x") ∷ identifier (codes "x") ∷ []) ≡ Ok (variable (codes "x"), identifier (codes "x") ∷ []))
unfolding bare expression_at reader.expression_at expression_by deeper dotted_step name_of text_step paren_end bracket_end brace_end colon_end separated unless_closing primary_by dot_part part_step parts_by unary_by optional_arguments_by filter_by test_arguments_by test_by is_by filter_step filtered_by power_behind power_by operand_behind operand_step binary_of terms_by not_in_link link_behind link_step comparison_by negation_by operand_by binary_by else_behind if_behind items_by pairs_by paren_behind paren_by list_by map_by bound_by step_by slice_by item_by subscript_behind subscript_by named_argument argument_by few_arguments arguments_by many all and_then under goes_on
refusals = (refl, refl, refl)

-- brackets and powers nest 150 deep, and no deeper
parens : ℕ → List Token
parens n = replicate n (symbol paren_open) ++ (number 1 ∷ replicate n (symbol paren_close))

raised : ℕ → List Token
raised zero = number 1 ∷ []
raised (suc n) = number 1 ∷ symbol pow ∷ raised n

is_read : Read Expression → Bool
is_read (Ok (e, [])) = true
is_read _ = false

nesting : (is_read (expression_at 150 (parens 150)) ≡ true) × (expression_at 150 (parens 151) ≡ Err bad_syntax) ×
    (is_read (expression_at 150 (raised 150)) ≡ true) × (expression_at 150 (raised 151) ≡ Err bad_syntax)
unfolding bare expression_at reader.expression_at expression_by deeper dotted_step name_of text_step paren_end bracket_end brace_end colon_end separated unless_closing primary_by dot_part part_step parts_by unary_by optional_arguments_by filter_by test_arguments_by test_by is_by filter_step filtered_by power_behind power_by operand_behind operand_step binary_of terms_by not_in_link link_behind link_step comparison_by negation_by operand_by binary_by else_behind if_behind items_by pairs_by paren_behind paren_by list_by map_by bound_by step_by slice_by item_by subscript_behind subscript_by named_argument argument_by few_arguments arguments_by many all and_then under goes_on parens raised is_read
nesting = (refl, refl, refl, refl)

-- a call has at most 2000 arguments
called : ℕ → List Token
called zero = symbol paren_close ∷ []
called (suc n) = number 1 ∷ symbol comma ∷ called n

many_arguments : (is_read (expression_at 9 (identifier (codes "f") ∷ symbol paren_open ∷ called 2000)) ≡ true) ×
    (expression_at 9 (identifier (codes "f") ∷ symbol paren_open ∷ called 2001) ≡ Err bad_syntax)
unfolding bare expression_at reader.expression_at expression_by deeper dotted_step name_of text_step paren_end bracket_end brace_end colon_end separated unless_closing primary_by dot_part part_step parts_by unary_by optional_arguments_by filter_by test_arguments_by test_by is_by filter_step filtered_by power_behind power_by operand_behind operand_step binary_of terms_by not_in_link link_behind link_step comparison_by negation_by operand_by binary_by else_behind if_behind items_by pairs_by paren_behind paren_by list_by map_by bound_by step_by slice_by item_by subscript_behind subscript_by named_argument argument_by few_arguments arguments_by many all and_then under goes_on parens raised is_read called
many_arguments = (refl, refl)
