-- A chain of filters behind a filter is never empty.
use Rattle.std.proofs.Common.{◌≡◌, ℕ, List, Ok, None, Some, refl}
use Rattle.template_compiler_tree.specs.Tree.{Expression, Optional, absent, given}
use Rattle.template_compiler_tree.specs.View.{expression_of}
use Rattle.template_compiler_tree.specs.declared.expressions.Expr.{Expr}
use Rattle.template_compiler_tree.specs.declared.span.Span.{Span}
use Rattle.template_compiler_tokens.specs.Token.{Token}
use Rattle.template_compiler_grammar.specs.Grammar.{IsFilterChain, chain_end, chain_more}
use Rattle.template_compiler_grammar.specs.Reader.{filter_chain_at}
use Rattle.template_compiler_grammar.specs.Views.{optional_node_in}
use Rattle.template_compiler_grammar.proofs.Readings.{tree_of}
use Rattle.template_compiler_grammar.proofs.Sound.{filter_chain_both}

none_left : {d : ℕ} {v f : Optional} {ts us : List Token} → IsFilterChain d v ts f us → (e : Expression) → v ≡ given e → f ≡ absent → ⊥
none_left (chain_end {value = v}) e h k = cc
none_left (chain_more {e = x} y m) e h k = none_left m x refl k

pub filters_given : (spans : List Span) (d : ℕ) (first : Expr) (ts us : List Token) →
    filter_chain_at spans d (optional_node_in (Some first)) ts ≡ Ok (optional_node_in None, us) → ⊥
filters_given spans d first ts us h =
    let places = (optional_node_in (Some first)).places in
    none_left (tree_of (filter_chain_both spans spans d (given (expression_of first)) places places ts) h).0 (expression_of first) refl refl
