-- A statement's blocks: its own name, and those of its bodies.
use Rattle.std.proofs.Common.{◌≡◌, true, false, List, [], ◌∷◌, ◌++◌, append_assoc, append-nil, refl, sym, ap, ◌∙◌}
use Rattle.template_compiler_tree.specs.Tree.{Statement, template, for_loop, if_condition, with_block, set_block, auto_escape, filter_block, block, macro, call_block, statements_more}
use Rattle.template_compiler_tree_statements.specs.View.{statement_of}
use Rattle.template_compiler_tree_statements.specs.declared.statements.Stmt.{Stmt}
use Rattle.template_compiler_tree_parts.specs.Bodies.{body_in, other_in}
use Rattle.template_compiler_tree_parts.specs.Kinds.{is_block}
use Rattle.template_compiler_tree_parts.specs.Listed as parts
use Rattle.template_compiler_tree_parts.specs.Within.{joined, picked_among}
use Rattle.template_compiler_tree_parts.proofs.Picked.{said}
use Rattle.template_compiler_statement_makers.specs.Listed.{statements_in}
use Rattle.template_compiler_grammar.specs.TemplateTrees.{blocks_in, blocks_among}
use Rattle.template_compiler_sources.specs.Own.{own_name}

own_first : (s : Statement) → blocks_in s ≡ own_name s ++ (blocks_among (body_in s) ++ blocks_among (other_in s))
own_first (template body) = sym (append-nil (blocks_among body))
own_first (for_loop target e condition recursive body otherwise) = refl
own_first (if_condition e body otherwise) = refl
own_first (with_block pairs body) = sym (append-nil (blocks_among body))
own_first (set_block target filters body) = sym (append-nil (blocks_among body))
own_first (auto_escape e body) = sym (append-nil (blocks_among body))
own_first (filter_block e body) = sym (append-nil (blocks_among body))
own_first (block name required body) = ap (λ ns. name ∷ ns) (sym (append-nil (blocks_among body)))
own_first (macro name taken defaults body) = sym (append-nil (blocks_among body))
own_first (call_block e given taken defaults body) = sym (append-nil (blocks_among body))
own_first _ = refl

pub none_picked : (s : Statement) → is_block s ≡ false → own_name s ≡ []
none_picked (block name required body) out = cc
none_picked _ out = refl

both_listed : (body : List Stmt) → parts.statements_in body ≡ statements_in body
both_listed [] = refl
both_listed (s ∷ ss) = ap (λ rest. statements_more (statement_of s) rest) (both_listed ss)

-- the names of those that are picked are those of the blocks
pub names_of : (body : List Stmt) →
    joined [] ◌++◌ own_name (picked_among is_block (λ s. true) (parts.statements_in body)) ≡ blocks_among (statements_in body)
names_of body =
    said [] ◌++◌ append_assoc append-nil (λ x. refl) is_block (λ s. true) own_name blocks_in blocks_among none_picked refl (λ s ss. refl) own_first
    (parts.statements_in body) ∙ ap blocks_among (both_listed body)
