-- Where the nodes of a template stand: the places of what the grammar reads, with the spans of all tokens.
use Rattle.std.specs.Prelude.{ℕ, codes, List, [], ◌∷◌, ◌++◌}
use Rattle.template_compiler_tree.specs.declared.span.Span.{Span}
use Rattle.template_compiler_tree.specs.Tree.{Statement, Statements}
use Rattle.template_compiler_tree.specs.NodePlaces.{Places, at, Parts, no_parts, parts_more, one, and_parts}
use Rattle.template_compiler_tokens.specs.Places.{stretch}
use Rattle.template_compiler_tokens.specs.Token.{Token, template_data, variable_start, identifier, symbol, paren_open}
use Rattle.template_compiler_grammar.specs.DerivedNodes.{and_place}
use Rattle.template_compiler_grammar.specs.DerivedExpressions.{expression_places, binary_places, filter_places}
use Rattle.template_compiler_grammar.specs.TemplateWords.{opens, tag}
use Rattle.template_compiler_grammar.specs.TemplateTrees.{Branches}
use Rattle.template_compiler_grammar.specs.TemplateGrammar.{Around, IsStatements, statements_end, statements_next, IsStatement, text_statement, print_statement, for_statement, if_statement, with_statement, set_statement, set_block_statement, autoescape_statement, filter_statement, block_statement, import_statement, from_statement, extends_statement, include_statement, macro_statement, call_statement, do_statement, break_statement, continue_statement, IsBranches, branches_end, branches_next, IsElse, no_else, an_else, IsTemplate, whole_template}
use Rattle.template_compiler_grammar.specs.DerivedParts.{target_places, targets_places, values_places, assignments_places, loop_filter_places, chain_places, stored_places, import_places, more_places, parameters_places, optional_parameters_places}

-- the branches of an `if` behind its first one: where each begins, its condition, its body
abbrev pub BranchPlaces : Type 0
BranchPlaces = List (List Token × Parts)

-- each is the one statement of the part before it, up to the end of the whole
abbrev pub branched_places : List Span → List Token → BranchPlaces → Parts → Parts
branched_places spans behind [] last = last
branched_places spans behind (b ∷ bs) last = one (at (stretch spans b.0 behind) (and_parts b.1 (branched_places spans behind bs last)))

abbrev mutual
  pub statements_places : {d : ℕ} {p : Around} {ts us : List Token} {ss all : Statements} →
      List Span → Parts → IsStatements d p ss ts all us → Parts
  statements_places spans ps statements_end = ps
  statements_places spans ps (statements_next next more) = statements_places spans (and_place ps (statement_places spans next)) more

  pub statement_places : {d : ℕ} {p : Around} {ts us : List Token} {s : Statement} → List Span → IsStatement d p ts s us → Places
  statement_places spans (text_statement {s = s} {ts = ts}) = at (stretch spans (template_data s ∷ ts) ts) no_parts
  statement_places spans (print_statement {ts = ts} {us = us} e) =
      at (stretch spans (variable_start ∷ ts) us) (one (expression_places spans e))
  statement_places spans (for_statement {ts = ts} {zs = zs} target iter filter recursive body other) =
      at (stretch spans (opens (codes "for") ts) zs) (parts_more (targets_places spans target)
      (parts_more (binary_places spans iter) (and_parts (loop_filter_places spans filter)
      (and_parts (statements_places spans no_parts body) (else_places spans other)))))
  statement_places spans (if_statement {ts = ts} {xs = xs} c body branches other is) =
      at (stretch spans (opens (codes "if") ts) xs) (parts_more (expression_places spans c)
      (and_parts (statements_places spans no_parts body) (branched_places spans xs (branches_places spans [] branches)
      (else_places spans other))))
  statement_places spans (with_statement {ts = ts} {vs = vs} pairs body) =
      at (stretch spans (opens (codes "with") ts) vs) (and_parts (assignments_places spans pairs) (statements_places spans no_parts body))
  statement_places spans (set_statement {ts = ts} {vs = vs} target e) =
      at (stretch spans (opens (codes "set") ts) vs) (parts_more (targets_places spans target) (one (values_places spans e)))
  statement_places spans (set_block_statement {ts = ts} {ws = ws} target filters body) =
      at (stretch spans (opens (codes "set") ts) ws) (parts_more (target_places spans target)
      (and_parts (chain_places spans no_parts filters) (statements_places spans no_parts body)))
  statement_places spans (autoescape_statement {ts = ts} {vs = vs} e body) =
      at (stretch spans (opens (codes "autoescape") ts) vs) (parts_more (expression_places spans e) (statements_places spans no_parts body))
  statement_places spans (filter_statement {ts = ts} {ws = ws} first filters body) =
      at (stretch spans (opens (codes "filter") ts) ws) (and_parts
      (chain_places spans (one (filter_places spans ts no_parts first)) filters) (statements_places spans no_parts body))
  statement_places spans (block_statement {n = n} {ts = ts} {ws = ws} outside required body blank end) =
      at (stretch spans (opens (codes "block") (identifier n ∷ ts)) ws) (statements_places spans no_parts body)
  statement_places spans (import_statement {ts = ts} {ws = ws} e name _) =
      at (stretch spans (opens (codes "import") ts) ws) (parts_more (expression_places spans e) (one (stored_places spans name)))
  statement_places spans (from_statement {ts = ts} {xs = xs} e first more _) =
      at (stretch spans (opens (codes "from") ts) xs) (parts_more (expression_places spans e)
      (more_places (λ a b ts us ps x. import_places spans ps x) (import_places spans no_parts first) more))
  statement_places spans (extends_statement {ts = ts} {us = us} e) =
      at (stretch spans (opens (codes "extends") ts) us) (one (expression_places spans e))
  statement_places spans (include_statement {ts = ts} {vs = vs} e missing) =
      at (stretch spans (opens (codes "include") ts) vs) (one (expression_places spans e))
  statement_places spans (macro_statement {n = n} {ts = ts} {vs = vs} free parameters body is) =
      at (stretch spans (opens (codes "macro") (identifier n ∷ symbol paren_open ∷ ts)) vs)
      (and_parts (parameters_places spans parameters) (statements_places spans no_parts body))
  -- the macro that the body is stands where the whole does
  statement_places spans (call_statement {ts = ts} {ws = ws} parameters call body is) =
      let whole = stretch spans (opens (codes "call") ts) ws in at whole
      (parts_more (expression_places spans call) (one (at whole
      (and_parts (optional_parameters_places spans parameters) (statements_places spans no_parts body)))))
  statement_places spans (do_statement {ts = ts} {us = us} call) =
      at (stretch spans (opens (codes "do") ts) us) (one (expression_places spans call))
  statement_places spans (break_statement {ts = ts} inside) = at (stretch spans (tag (codes "break") ts) ts) no_parts
  statement_places spans (continue_statement {ts = ts} inside) = at (stretch spans (tag (codes "continue") ts) ts) no_parts

  pub branches_places : {d : ℕ} {p : Around} {ts us : List Token} {bs all : Branches} →
      List Span → BranchPlaces → IsBranches d p bs ts all us → BranchPlaces
  branches_places spans ps branches_end = ps
  branches_places spans ps (branches_next {ts = ts} c body more) =
      branches_places spans
      (ps ++ (opens (codes "elif") ts, parts_more (expression_places spans c) (statements_places spans no_parts body)) ∷ []) more

  pub else_places : {d : ℕ} {p : Around} {end : _} {ts us : List Token} {body : Statements} →
      List Span → IsElse d p end ts body us → Parts
  else_places spans no_else = no_parts
  else_places spans (an_else body) = statements_places spans no_parts body

-- a whole template, from its first token to its last
abbrev pub template_places : {ts : List Token} {ss : Statements} → List Span → IsTemplate ts ss → Places
template_places spans (whole_template {ts = ts} body distinct) = at (stretch spans ts []) (statements_places spans no_parts body)
