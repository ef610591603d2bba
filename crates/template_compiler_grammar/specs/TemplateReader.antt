-- The reading of statements from left to right, with the places of their nodes: what the grammar's relation computes to. A
-- statement has the span of its start. The parser's functions cite it; that it is the grammar, and that its places are those of
-- the grammar, is proved.
use Rattle.std.specs.Prelude.{ℕ, zero, suc, Bool, true, false, if◌then◌else◌, codes, List, [], ◌∷◌, Option, None, Some, Result, Ok, Err}
use Rattle.template_compiler_tree.specs.declared.span.Span.{Span}
use Rattle.template_compiler_tree.specs.Tree.{Expression, variable, attribute, Arguments, Statement, raw, print, set, import, from_import, extends, include, continue_loop, break_loop, do_call}
use Rattle.template_compiler_tree.specs.Kinds.{call_parts}
use Rattle.template_compiler_tree.specs.NodePlaces.{Places, at, no_parts, parts_more, one}
use Rattle.template_compiler_tokens.specs.Places.{next_span, stretch}
use Rattle.template_compiler_tokens.specs.Token.{Token, TokenFault, bad_syntax, template_data, variable_start, block_start, block_end, identifier, symbol, dot, assign, paren_open, paren_close}
use Rattle.template_compiler_tokens.specs.Steps.{Read, fault, and_then, Step, goes, stops, under, all}
use Rattle.template_compiler_grammar.specs.Words.{is_word}
use Rattle.template_compiler_grammar.specs.ReaderParts.{too_deep, paren_end}
use Rattle.template_compiler_grammar.specs.Nodes.{placed, Node, node, Nodes, no_nodes, first_node, and_node, OptionalNode, no_node, given_node}
use Rattle.template_compiler_grammar.specs.Reader.{up_to, expression_at, condition_at, filter_at, filter_chain_at}
use Rattle.template_compiler_grammar.specs.TemplateWords.{is_reserved}
use Rattle.template_compiler_grammar.specs.TemplateTrees.{is_block_body, blocks_among, are_distinct}
use Rattle.template_compiler_grammar.specs.TemplateGrammar.{Around, nothing_around, loop_around, block_around, macro_around}
use Rattle.template_compiler_grammar.specs.TemplateReaderParts.{expect_word, expect_assign, print_end, tag_end, expect_tag, more_step, word_by, context_by, missing_by, is_nothing, begins_tag, begins_values, block_end_by, only_call, Opening, for_tag, if_tag, with_tag, set_tag, autoescape_tag, filter_tag, block_tag, import_tag, from_tag, extends_tag, include_tag, macro_tag, call_tag, do_tag, break_tag, continue_tag, opening}
use Rattle.template_compiler_grammar.specs.TemplateNodes.{unpacked_node, together_node, PlacedAssignments, no_placed_assignments, and_placed_assignment, PlacedImports, no_placed_imports, and_placed_import, PlacedParameters, no_placed_parameters, and_placed_plain, and_placed_default, PlacedStatement, statement_node, PlacedStatements, no_placed_statements, and_placed_statement, PlacedTemplate, PlacedBranch, PlacedBranches, no_placed_branches, and_placed_branch, for_node, if_node, with_node, set_block_node, auto_escape_node, filter_block_node, block_node, macro_node, call_block_node}

-- what can be read with so many levels left; bodies and parameters are one level deeper
pub record Here : Type 0 where
  pub inner : Bool → List Token → Read Node
  pub expression : List Token → Read Node
  pub condition : List Token → Read Node
  pub filter : OptionalNode → List Token → Read Node
  pub filters : OptionalNode → List Token → Read OptionalNode
  pub parameters : List Token → Read PlacedParameters
  pub body : Around → List Token → Read PlacedStatements

-- by the spans of all tokens
module _ (spans : List Span) where
  -- targets
  unfoldable pub path_step : Span → Node → List Token → Step Node
  path_step start e (symbol dot ∷ identifier n ∷ ts) = goes (node (attribute e.tree n) (up_to spans start ts) (one e.places)) ts
  path_step start e ts = stops

  unfoldable pub stored_by : List Token → Read Node
  stored_by (identifier n ∷ ts) =
      if is_reserved n then Err bad_syntax else Ok (node (variable n) (next_span spans (identifier n ∷ ts)) no_parts, ts)
  stored_by ts = Err (fault ts)

  unfoldable pub path_by : Bool → Span → Node → List Token → Read Node
  path_by false start e ts = Ok (e, ts)
  path_by true start e ts = all (path_step start) e ts

  -- by the reading of what stands in parentheses
  unfoldable pub target_by : Bool → (List Token → Read Node) → List Token → Read Node
  target_by dots inner (symbol paren_open ∷ ts) = and_then (inner ts) paren_end
  target_by dots inner ts = and_then (stored_by ts) (path_by dots (next_span spans ts))

  unfoldable pub one_target_by : Bool → (List Token → Read Node) → Nodes → List Token → Read Nodes
  one_target_by dots inner es ts = and_then (target_by dots inner ts) (λ e us. Ok (and_node es e, us))

  unfoldable pub more_targets_by : Bool → (List Token → Read Node) → Span → Node → List Token → Read Node
  more_targets_by dots inner start a ts =
      and_then (all (more_step (one_target_by dots inner)) (first_node a) ts) (λ es us. Ok (unpacked_node es (up_to spans start us), us))

  unfoldable pub targets_by : Bool → (List Token → Read Node) → List Token → Read Node
  targets_by dots inner ts = and_then (target_by dots inner ts) (more_targets_by dots inner (next_span spans ts))

  unfoldable pub inner_targets : Bool → ℕ → List Token → Read Node
  inner_targets dots zero = too_deep
  inner_targets dots (suc d) = targets_by dots (inner_targets dots d)

  -- values and assignments
  unfoldable pub value_by : (List Token → Read Node) → Nodes → List Token → Read Nodes
  value_by read es ts = and_then (read ts) (λ e us. Ok (and_node es e, us))

  unfoldable pub values_by : (List Token → Read Node) → List Token → Read Node
  values_by read ts =
      and_then (value_by read no_nodes ts) (λ es us. and_then (all (more_step (value_by read)) es us)
      (λ fs vs. Ok (together_node fs (stretch spans ts vs), vs)))

  unfoldable pub assignment_by : Here → PlacedAssignments → List Token → Read PlacedAssignments
  assignment_by r gs ts =
      and_then (target_by false (r.inner false) ts) (λ t us.
      and_then (expect_assign t us) (λ t vs. and_then (r.expression vs) (λ e ws. Ok (and_placed_assignment gs t e, ws))))

  unfoldable pub assignments_by : Here → List Token → Read PlacedAssignments
  assignments_by r (block_end ∷ ts) = Ok (no_placed_assignments, block_end ∷ ts)
  assignments_by r ts = and_then (assignment_by r no_placed_assignments ts) (all (more_step (assignment_by r)))

  unfoldable pub loop_filter_by : (List Token → Read Node) → List Token → Read OptionalNode
  loop_filter_by read [] = Ok (no_node, [])
  loop_filter_by read (t ∷ ts) =
      if is_word (codes "if") t then and_then (read ts) (λ e us. Ok (given_node e, us)) else Ok (no_node, t ∷ ts)

  -- imported names
  unfoldable pub alias_by : PlacedImports → Node → List Token → Read PlacedImports
  alias_by is n [] = Ok (and_placed_import is n no_node, [])
  alias_by is n (t ∷ ts) =
      if is_word (codes "as") t
      then and_then (stored_by ts) (λ a us. Ok (and_placed_import is n (given_node a), us))
      else Ok (and_placed_import is n no_node, t ∷ ts)

  unfoldable pub import_by : PlacedImports → List Token → Read PlacedImports
  import_by is ts = and_then (stored_by ts) (alias_by is)

  -- parameters
  unfoldable pub default_by : (List Token → Read Node) → PlacedParameters → Node → List Token → Read PlacedParameters
  default_by read p a (symbol assign ∷ ts) = and_then (read ts) (λ e us. Ok (and_placed_default p a e, us))
  default_by read p a ts = if is_nothing p.tree.1 then Ok (and_placed_plain p a, ts) else Err bad_syntax

  unfoldable pub parameter_by : (List Token → Read Node) → PlacedParameters → List Token → Read PlacedParameters
  parameter_by read p ts = and_then (stored_by ts) (default_by read p)

  unfoldable pub parameters_by : (List Token → Read Node) → List Token → Read PlacedParameters
  parameters_by read (symbol paren_close ∷ ts) = Ok (no_placed_parameters, ts)
  parameters_by read ts =
      and_then (parameter_by read no_placed_parameters ts)
      (λ p us. and_then (all (more_step (parameter_by read)) p us) paren_end)

  unfoldable pub optional_parameters_by : Here → List Token → Read PlacedParameters
  optional_parameters_by r (symbol paren_open ∷ ts) = r.parameters ts
  optional_parameters_by r ts = Ok (no_placed_parameters, ts)

  -- a body and its end
  unfoldable pub body_by : Here → Around → List ℕ → Span → (PlacedStatements → Span → PlacedStatement) → List Token → Read PlacedStatement
  body_by r p end start make ts =
      and_then (r.body p ts) (λ body us. and_then (expect_tag end body us) (λ body vs. Ok (make body (up_to spans start vs), vs)))

  unfoldable pub else_by : Here → Around → List ℕ → List Token → Read PlacedStatements
  else_by r p end ts =
      if begins_tag (codes "else") ts
      then and_then (expect_tag (codes "else") false ts) (λ x us. and_then (r.body p us) (expect_tag end))
      else expect_tag end no_placed_statements ts

  -- loops
  unfoldable pub for_body : Here → Around → Span → Node → Node → OptionalNode → Bool → List Token → Read PlacedStatement
  for_body r p start t i f b ts =
      and_then (tag_end b ts) (λ b us. and_then (r.body (loop_around p) us) (λ body vs.
      and_then (else_by r p (codes "endfor") vs) (λ other ws.
      Ok (for_node t i f b body other (up_to spans start ws), ws))))

  unfoldable pub for_in : Here → Around → Span → Node → List Token → Read PlacedStatement
  for_in r p start t ts =
      and_then (r.condition ts) (λ i us. and_then (loop_filter_by r.expression us) (λ f vs.
      and_then (word_by (codes "recursive") vs) (for_body r p start t i f)))

  unfoldable pub for_by : Here → Around → Span → List Token → Read PlacedStatement
  for_by r p start ts =
      and_then (targets_by false (r.inner false) ts) (λ t us. and_then (expect_word (codes "in") t us) (for_in r p start))

  -- conditions
  unfoldable pub branch_by : Here → Around → List Token → Read PlacedBranch
  branch_by r p ts =
      and_then (r.expression ts) (λ c us. and_then (tag_end c us) (λ c vs. and_then (r.body p vs)
      (λ body ws. Ok (placed (c.tree, body.tree) (parts_more c.places body.places), ws))))

  unfoldable pub branch_step : Here → Around → PlacedBranches → List Token → Step PlacedBranches
  branch_step r p bs (block_start ∷ t ∷ ts) =
      if is_word (codes "elif") t
      then under (branch_by r p ts) (λ b us. goes (and_placed_branch bs (next_span spans (block_start ∷ t ∷ ts)) b) us)
      else stops
  branch_step r p bs ts = stops

  unfoldable pub if_by : Here → Around → Span → List Token → Read PlacedStatement
  if_by r p start ts =
      and_then (branch_by r p ts) (λ b us. and_then (all (branch_step r p) no_placed_branches us) (λ bs vs.
      and_then (else_by r p (codes "endif") vs) (λ other ws. Ok (if_node b bs other (up_to spans start ws), ws))))

  -- scopes, sets and filters
  unfoldable pub with_by : Here → Around → Span → List Token → Read PlacedStatement
  with_by r p start ts =
      and_then (assignments_by r ts) (λ gs us. and_then (tag_end gs us) (λ gs vs.
      body_by r p (codes "endwith") start (with_node gs) vs))

  unfoldable pub set_values : Here → Span → Node → List Token → Read PlacedStatement
  set_values r start t ts =
      and_then (values_by r.expression ts) (λ e us. and_then (tag_end e us)
      (λ e vs. Ok (statement_node (set t.tree e.tree) (up_to spans start vs) (parts_more t.places (one e.places)), vs)))

  unfoldable pub set_body : Here → Around → Span → Node → List Token → Read PlacedStatement
  set_body r p start t ts =
      and_then (r.filters no_node ts) (λ f us. and_then (tag_end f us) (λ f vs.
      body_by r p (codes "endset") start (set_block_node t f) vs))

  -- behind the first target, which starts where the targets do
  unfoldable pub set_behind : Here → Around → Span → Span → Node → List Token → Read PlacedStatement
  set_behind r p start first t ts =
      if begins_values ts
      then and_then (more_targets_by true (r.inner true) first t ts) (λ u us. and_then (expect_assign u us) (set_values r start))
      else set_body r p start t ts

  unfoldable pub set_by : Here → Around → Span → List Token → Read PlacedStatement
  set_by r p start ts = and_then (target_by true (r.inner true) ts) (set_behind r p start (next_span spans ts))

  unfoldable pub autoescape_by : Here → Around → Span → List Token → Read PlacedStatement
  autoescape_by r p start ts =
      and_then (r.expression ts) (λ e us. and_then (tag_end e us) (λ e vs.
      body_by r p (codes "endautoescape") start (auto_escape_node e) vs))

  unfoldable pub filter_block_by : Here → Around → Span → List Token → Read PlacedStatement
  filter_block_by r p start ts =
      and_then (r.filter no_node ts) (λ e us. and_then (r.filters (given_node e) us) (λ f vs.
      and_then (tag_end f vs) (λ f ws. body_by r p (codes "endfilter") start (filter_block_node f) ws)))

  -- blocks
  unfoldable pub block_body : Here → Around → Span → List ℕ → Bool → List Token → Read PlacedStatement
  block_body r p start n b ts =
      and_then (tag_end b ts) (λ b us. and_then (r.body (block_around p) us) (λ body vs.
      if is_block_body b body.tree
      then and_then (block_end_by n body vs) (λ body ws. Ok (block_node n b body (up_to spans start ws), ws))
      else Err bad_syntax))

  unfoldable pub block_by : Here → Around → Span → List Token → Read PlacedStatement
  block_by r p start (identifier n ∷ ts) =
      if p.macro then Err bad_syntax else and_then (word_by (codes "required") ts) (block_body r p start n)
  block_by r p start ts = Err (fault ts)

  -- other templates
  unfoldable pub import_statement_by : Here → Span → List Token → Read PlacedStatement
  import_statement_by r start ts =
      and_then (r.expression ts) (λ e us. and_then (expect_word (codes "as") e us) (λ e vs.
      and_then (stored_by vs) (λ a ws. and_then (context_by a ws) (λ a xs. and_then (tag_end a xs)
      (λ a ys. Ok (statement_node (import e.tree a.tree) (up_to spans start ys) (parts_more e.places (one a.places)), ys))))))

  unfoldable pub from_by : Here → Span → List Token → Read PlacedStatement
  from_by r start ts =
      and_then (r.expression ts) (λ e us. and_then (expect_word (codes "import") e us) (λ e vs.
      and_then (import_by no_placed_imports vs) (λ is ws. and_then (all (more_step import_by) is ws) (λ js xs.
      and_then (context_by js xs) (λ js ys. and_then (tag_end js ys)
      (λ js zs. Ok (statement_node (from_import e.tree js.tree) (up_to spans start zs) (parts_more e.places js.places), zs)))))))

  unfoldable pub extends_by : Here → Span → List Token → Read PlacedStatement
  extends_by r start ts =
      and_then (r.expression ts) (λ e us. and_then (tag_end e us)
      (λ e vs. Ok (statement_node (extends e.tree) (up_to spans start vs) (one e.places), vs)))

  unfoldable pub include_by : Here → Span → List Token → Read PlacedStatement
  include_by r start ts =
      and_then (r.expression ts) (λ e us. and_then (missing_by us) (λ i vs. and_then (tag_end i vs)
      (λ i ws. Ok (statement_node (include e.tree i) (up_to spans start ws) (one e.places), ws))))

  -- macros and calls
  unfoldable pub macro_by : Here → Span → List Token → Read PlacedStatement
  macro_by r start (identifier n ∷ symbol paren_open ∷ ts) =
      if is_reserved n
      then Err bad_syntax
      else and_then (r.parameters ts) (λ q us. and_then (tag_end q us) (λ q vs.
      body_by r macro_around (codes "endmacro") start (macro_node n q) vs))
  macro_by r start (identifier n ∷ ts) = Err (fault ts)
  macro_by r start ts = Err (fault ts)

  unfoldable pub call_body : Here → Span → PlacedParameters → Places → Expression → Arguments → List Token → Read PlacedStatement
  call_body r start q call c args ts =
      and_then (tag_end q ts) (λ q us. body_by r macro_around (codes "endcall") start (call_block_node c args call q) us)

  unfoldable pub call_by : Here → Span → List Token → Read PlacedStatement
  call_by r start ts =
      and_then (optional_parameters_by r ts) (λ q us. and_then (r.expression us)
      (λ e vs. only_call (call_body r start q e.places) (call_parts e.tree) vs))

  unfoldable pub do_by : Here → Span → List Token → Read PlacedStatement
  do_by r start ts =
      and_then (r.expression ts) (λ e us. only_call (λ c args vs. and_then (tag_end e vs)
      (λ e ws. Ok (statement_node (do_call c args) (up_to spans start ws) (one e.places), ws))) (call_parts e.tree) us)

  unfoldable pub in_loop : Around → Statement → Span → List Token → Read PlacedStatement
  in_loop p s start ts =
      if p.loop then and_then (tag_end s ts) (λ s us. Ok (statement_node s (up_to spans start us) no_parts, us)) else Err bad_syntax

  unfoldable pub opened_by : Here → Around → Opening → Span → List Token → Read PlacedStatement
  opened_by r p for_tag = for_by r p
  opened_by r p if_tag = if_by r p
  opened_by r p with_tag = with_by r p
  opened_by r p set_tag = set_by r p
  opened_by r p autoescape_tag = autoescape_by r p
  opened_by r p filter_tag = filter_block_by r p
  opened_by r p block_tag = block_by r p
  opened_by r p import_tag = import_statement_by r
  opened_by r p from_tag = from_by r
  opened_by r p extends_tag = extends_by r
  opened_by r p include_tag = include_by r
  opened_by r p macro_tag = macro_by r
  opened_by r p call_tag = call_by r
  opened_by r p do_tag = do_by r
  opened_by r p break_tag = in_loop p break_loop
  opened_by r p continue_tag = in_loop p continue_loop

  unfoldable pub opened_step : Here → Around → Span → PlacedStatements → Option Opening → List Token → Step PlacedStatements
  opened_step r p start ss (Some o) ts = under (opened_by r p o start ts) (λ s us. goes (and_placed_statement ss s) us)
  opened_step r p start ss None ts = stops

  -- behind the start of a `{{`
  unfoldable pub print_by : Here → Span → List Token → Read PlacedStatement
  print_by r start ts =
      and_then (r.expression ts) (λ e us. and_then (print_end e us)
      (λ e vs. Ok (statement_node (print e.tree) (up_to spans start vs) (one e.places), vs)))

  -- a word that begins no statement is left to what stands around
  unfoldable pub statement_step : Here → Around → PlacedStatements → List Token → Step PlacedStatements
  statement_step r p ss (template_data s ∷ ts) =
      goes (and_placed_statement ss (statement_node (raw s) (stretch spans (template_data s ∷ ts) ts) no_parts)) ts
  statement_step r p ss (variable_start ∷ ts) =
      under (print_by r (next_span spans (variable_start ∷ ts)) ts) (λ s us. goes (and_placed_statement ss s) us)
  statement_step r p ss (block_start ∷ identifier n ∷ ts) =
      opened_step r p (next_span spans (block_start ∷ identifier n ∷ ts)) ss (opening n) ts
  statement_step r p ss ts = stops

  unfoldable pub statements_by : Here → Around → List Token → Read PlacedStatements
  statements_by r p = all (statement_step r p) no_placed_statements

  unfoldable pub deeper_parameters : ℕ → List Token → Read PlacedParameters
  deeper_parameters zero = too_deep
  deeper_parameters (suc d) = parameters_by (expression_at spans d)

  unfoldable pub here_by : ℕ → (Around → List Token → Read PlacedStatements) → Here
  here_by d body = record {
    inner = λ dots. inner_targets dots d;
    expression = expression_at spans d;
    condition = condition_at spans d;
    filter = filter_at spans d;
    filters = filter_chain_at spans d;
    parameters = deeper_parameters d;
    body = body;
  }

  unfoldable pub deeper_body : ℕ → Around → List Token → Read PlacedStatements
  deeper_body zero p = too_deep
  deeper_body (suc d) p = statements_by (here_by d (deeper_body d)) p

  unfoldable pub here : ℕ → Here
  here d = here_by d (deeper_body d)

  unfoldable pub statements_at : ℕ → Around → List Token → Read PlacedStatements
  statements_at d = statements_by (here d)

  -- nothing stands behind a template's statements
  unfoldable pub template_behind : Span → PlacedStatements → List Token → Result PlacedTemplate TokenFault
  template_behind start ss [] =
      if are_distinct (blocks_among ss.tree) then Ok (placed ss.tree (at (up_to spans start []) ss.places)) else Err bad_syntax
  template_behind start ss (t ∷ ts) = Err (fault (t ∷ ts))

  abbrev pub whole : Span → Read PlacedStatements → Result PlacedTemplate TokenFault
  whole start (Ok x) = template_behind start x.0 x.1
  whole start (Err f) = Err f

  unfoldable pub template_of : List Token → Result PlacedTemplate TokenFault
  template_of ts = whole (next_span spans ts) (statements_at 150 nothing_around ts)
