-- The heads of blocks, of macros and call blocks, and of `set`, up to the ends of their tags: what the reader with places reads of
-- them before the body.
use Rattle.std.specs.Prelude.{ℕ, Bool, true, if◌then◌else◌, codes, List, ◌∷◌, Err, Ok}
use Rattle.template_compiler_tree.specs.CallView.{call_places}
use Rattle.template_compiler_tree.specs.Tree.{Expression, Arguments}
use Rattle.template_compiler_tree.specs.Kinds.{call_parts}
use Rattle.template_compiler_tree.specs.NodePlaces.{Places}
use Rattle.template_compiler_tree.specs.View.{expression_of, arguments_in}
use Rattle.template_compiler_tree.specs.declared.span.Span.{Span}
use Rattle.template_compiler_tree_statements.specs.declared.statements.Stmt.TheVariants as statements
use Rattle.template_compiler_tokens.specs.Places.{next_span}
use Rattle.template_compiler_tokens.specs.Token.{Token, bad_syntax, identifier, symbol, paren_open}
use Rattle.template_compiler_tokens.specs.Steps.{Read, fault, and_then}
use Rattle.template_compiler_grammar.specs.TemplateWords.{is_reserved}
use Rattle.template_compiler_grammar.specs.TemplateTrees.{is_block_body}
use Rattle.template_compiler_grammar.specs.TemplateGrammar.{Around, block_around}
use Rattle.template_compiler_grammar.specs.TemplateReaderParts.{expect_assign, tag_end, begins_values, word_by, only_call, block_end_by}
use Rattle.template_compiler_grammar.specs.Nodes.{Node, OptionalNode, no_node}
use Rattle.template_compiler_grammar.specs.Reader.{up_to}
use Rattle.template_compiler_grammar.specs.TemplateNodes.{PlacedParameters, PlacedStatement, PlacedStatements, block_node, set_block_node}
use Rattle.template_compiler_grammar.specs.TemplateReader.{Here, target_by, more_targets_by, optional_parameters_by, set_values, body_by}
use Rattle.template_compiler_grammar.specs.Views.{statement_node_of}
use Rattle.template_compiler_statement_makers.specs.Begun.{set_block_of}
use Rattle.template_compiler_statement_parts.specs.Written.{placed_parameters_of}
use Rattle.template_compiler_statement_heads.specs.declared.block_heads.BlockHead.{BlockHead}
use Rattle.template_compiler_statement_heads.specs.declared.macros.MacroHead.{MacroHead}
use Rattle.template_compiler_statement_heads.specs.declared.macros.CallHead.{CallHead}
use Rattle.template_compiler_statement_heads.specs.declared.sets.SetHead.{SetHead}
use Rattle.template_compiler_statement_heads.specs.declared.sets.SetHead.TheVariants as heads

-- a block: its name, and whether it is required
unfoldable pub block_head : Bool → List Token → Read (List ℕ × Bool)
block_head in_macro (identifier n ∷ ts) =
    if in_macro then Err bad_syntax else and_then (word_by (codes "required") ts) (λ b us. tag_end (n, b) us)
block_head in_macro ts = Err (fault ts)

-- what is read behind the head of a block
abbrev pub ended_block : List Span → Span → List ℕ × Bool → PlacedStatements → List Token → Read PlacedStatement
ended_block spans start h body ts =
    if is_block_body h.1 body.tree
    then and_then (block_end_by h.0 body ts) (λ body us. Ok (block_node h.0 h.1 body (up_to spans start us), us))
    else Err bad_syntax

abbrev pub block_rest : List Span → Here → Around → Span → List ℕ × Bool → List Token → Read PlacedStatement
block_rest spans r p start h ts = and_then (r.body (block_around p) ts) (ended_block spans start h)

abbrev pub block_of : BlockHead → List ℕ × Bool
block_of head = (head.name.now, head.required)

-- a macro: its arguments and its name
abbrev pub declared_head : Here → List ℕ → List Token → Read (PlacedParameters × List ℕ)
declared_head r n ts = and_then (r.parameters ts) (λ q us. tag_end (q, n) us)

unfoldable pub macro_head : Here → List Token → Read (PlacedParameters × List ℕ)
macro_head r (identifier n ∷ symbol paren_open ∷ ts) = if is_reserved n then Err bad_syntax else declared_head r n ts
macro_head r (identifier n ∷ ts) = Err (fault ts)
macro_head r ts = Err (fault ts)

abbrev pub macro_of : MacroHead → PlacedParameters × List ℕ
macro_of head = (placed_parameters_of head.parameters, head.name.now)

-- a call block: the arguments of its body, and its call, where it stands and what it calls
abbrev pub call_head : List Span → Here → List Token → Read (PlacedParameters × Places × Expression × Arguments)
call_head spans r ts =
    and_then (optional_parameters_by spans r ts) (λ q us. and_then (r.expression us) (λ e vs.
    only_call (λ c args. tag_end (q, e.places, c, args)) (call_parts e.tree) vs))

abbrev pub call_of : CallHead → PlacedParameters × Places × Expression × Arguments
call_of head = (
  placed_parameters_of head.parameters,
  call_places head.call,
  expression_of head.call.value.node.expr,
  arguments_in head.call.value.node.args.items,
)

-- a `set` with its values, or a set block: its target and its filters
pub data SetRead : Type 0 where
  set_whole : PlacedStatement → SetRead
  set_over : Node × OptionalNode → SetRead

-- a `set` behind its first target, which starts where the targets do
abbrev pub set_targets : List Span → Here → Span → Span → Node → List Token → Read PlacedStatement
set_targets spans r start first t ts =
    and_then (more_targets_by spans true (r.inner true) first t ts) (λ u us. and_then (expect_assign u us) (set_values spans r start))

abbrev pub set_block_head : Here → Node → List Token → Read (Node × OptionalNode)
set_block_head r t ts = and_then (r.filters no_node ts) (λ f us. tag_end (t, f) us)

abbrev pub set_behind_head : List Span → Here → Span → Span → Node → List Token → Read SetRead
set_behind_head spans r start first t ts =
    if begins_values ts
    then and_then (set_targets spans r start first t ts) (λ s us. Ok (set_whole s, us))
    else and_then (set_block_head r t ts) (λ h us. Ok (set_over h, us))

abbrev pub set_head : List Span → Here → Span → List Token → Read SetRead
set_head spans r start ts = and_then (target_by spans true (r.inner true) ts) (set_behind_head spans r start (next_span spans ts))

abbrev pub set_head_of : SetHead → SetRead
set_head_of (heads.Values n) = set_whole (statement_node_of (statements.Set n))
set_head_of (heads.Block n) = set_over (set_block_of n)

-- what is read behind it: nothing, or a body
abbrev pub set_rest : List Span → Here → Around → Span → SetRead → List Token → Read PlacedStatement
set_rest spans r p start (set_whole s) ts = Ok (s, ts)
set_rest spans r p start (set_over h) ts = body_by spans r p (codes "endset") start (set_block_node h.0 h.1) ts
