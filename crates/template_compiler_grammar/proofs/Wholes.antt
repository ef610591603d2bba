-- A statement stands from its first token to its last.
use Rattle.std.proofs.Common.{◌≡◌, ℕ, List, refl}
use Rattle.template_compiler_tree.specs.declared.span.Span.{Span}
use Rattle.template_compiler_tree.specs.Tree.{Statement}
use Rattle.template_compiler_tree.specs.NodePlaces.{span_at}
use Rattle.template_compiler_tokens.specs.Token.{Token}
use Rattle.template_compiler_grammar.specs.TemplateGrammar.{Around, IsStatement, text_statement, print_statement, for_statement, if_statement, with_statement, set_statement, set_block_statement, autoescape_statement, filter_statement, block_statement, import_statement, from_statement, extends_statement, include_statement, macro_statement, call_statement, do_statement, break_statement, continue_statement}
use Rattle.template_compiler_tokens.specs.Places.{stretch}
use Rattle.template_compiler_grammar.specs.DerivedStatements.{statement_places}

pub whole : (spans : List Span) (d : ℕ) (around : Around) (ts us : List Token) (s : Statement) (read : IsStatement d around ts s us) →
    span_at (statement_places spans read) ≡ stretch spans ts us
whole spans _ around _ _ _ text_statement = refl
whole spans _ around _ _ _ (print_statement _) = refl
whole spans _ around _ _ _ (for_statement _ _ _ _ _ _) = refl
whole spans _ around _ _ _ (if_statement _ _ _ _ _) = refl
whole spans _ around _ _ _ (with_statement _ _) = refl
whole spans _ around _ _ _ (set_statement _ _) = refl
whole spans _ around _ _ _ (set_block_statement _ _ _) = refl
whole spans _ around _ _ _ (autoescape_statement _ _) = refl
whole spans _ around _ _ _ (filter_statement _ _ _) = refl
whole spans _ around _ _ _ (block_statement _ _ _ _ _) = refl
whole spans _ around _ _ _ (import_statement _ _ _) = refl
whole spans _ around _ _ _ (from_statement _ _ _ _) = refl
whole spans _ around _ _ _ (extends_statement _) = refl
whole spans _ around _ _ _ (include_statement _ _) = refl
whole spans _ around _ _ _ (macro_statement _ _ _ _) = refl
whole spans _ around _ _ _ (call_statement _ _ _ _) = refl
whole spans _ around _ _ _ (do_statement _) = refl
whole spans _ around _ _ _ (break_statement _) = refl
whole spans _ around _ _ _ (continue_statement _) = refl
