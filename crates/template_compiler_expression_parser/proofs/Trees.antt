-- What is read with places, without them.
use Rattle.std.proofs.Common.{◌≡◌, ℕ, List, Result, Ok, Err, Option}
use Rattle.template_compiler_tree.specs.Tree.{Expression, Optional}
use Rattle.template_compiler_tree.specs.View.{expression_of, optional_in}
use Rattle.template_compiler_tree.specs.declared.expressions.Expr.{Expr}
use Rattle.template_compiler_tree.specs.declared.span.Span.{Span}
use Rattle.template_compiler_tokens.specs.Token.{Token}
use Rattle.template_compiler_tokens.specs.Steps.{Read}
use Rattle.template_compiler_grammar.specs.Nodes.{Node, OptionalNode, bare}
use Rattle.template_compiler_grammar.specs.Reader.{expression_at, condition_at, filter_at, filter_chain_at}
use Rattle.template_compiler_grammar.specs.TreeReader as trees
use Rattle.template_compiler_grammar.proofs.Readings.{bare_reads, bare_fails}
use Rattle.template_compiler_grammar.proofs.Sound.{expression_erased, condition_erased, filter_erased, filter_chain_erased}
use Rattle.template_compiler_stream.specs.declared.refusal.Refusal.{Refusal}
use Rattle.template_compiler_stream.specs.declared.refusal.Refusal.TheVariants as refusals
use Rattle.template_compiler_expression_parts.specs.Parsed.{Parsed, ParsedAs, ParsedOptional}

tree_read : (m : Read Node) (n : Read Expression) (us : List Token) (read : Result Expr Refusal) →
    bare m ≡ n → Parsed m us read → ParsedAs expression_of n us read
tree_read m n us (Ok e) h p = bare_reads h p
tree_read m n us (Err (refusals.Token f)) h p = bare_fails h p
tree_read m n us (Err refusals.OutOfMemory) h p = tt

optional_read : (m : Read OptionalNode) (n : Read Optional) (us : List Token) (read : Result (Option Expr) Refusal) →
    bare m ≡ n → ParsedOptional m us read → ParsedAs optional_in n us read
optional_read m n us (Ok e) h p = bare_reads h p
optional_read m n us (Err (refusals.Token f)) h p = bare_fails h p
optional_read m n us (Err refusals.OutOfMemory) h p = tt

pub expression_tree : (spans : List Span) (d : ℕ) (ts us : List Token) (read : Result Expr Refusal) →
    Parsed (expression_at spans d ts) us read → ParsedAs expression_of (trees.expression_at d ts) us read
expression_tree spans d ts us read p = tree_read _ _ us read (expression_erased spans d ts) p

pub condition_tree : (spans : List Span) (d : ℕ) (ts us : List Token) (read : Result Expr Refusal) →
    Parsed (condition_at spans d ts) us read → ParsedAs expression_of (trees.condition_at d ts) us read
condition_tree spans d ts us read p = tree_read _ _ us read (condition_erased spans d ts) p

pub filter_tree : (spans : List Span) (d : ℕ) (value : OptionalNode) (ts us : List Token) (read : Result Expr Refusal) →
    Parsed (filter_at spans d value ts) us read → ParsedAs expression_of (trees.filter_at d value.tree ts) us read
filter_tree spans d value ts us read p = tree_read _ _ us read (filter_erased spans d value ts) p

pub chain_tree : (spans : List Span) (d : ℕ) (value : OptionalNode) (ts us : List Token) (read : Result (Option Expr) Refusal) →
    ParsedOptional (filter_chain_at spans d value ts) us read → ParsedAs optional_in (trees.filter_chain_at d value.tree ts) us read
chain_tree spans d value ts us read p = optional_read _ _ us read (filter_chain_erased spans d value ts) p
