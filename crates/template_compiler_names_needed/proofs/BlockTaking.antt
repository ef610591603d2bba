-- A statement's blocks: itself, and those of its bodies.
use Rattle.std.proofs.Common.{◌≡◌, true, false, if◌then◌else◌, [], ◌∷◌, ◌++◌, append_assoc, append-nil, refl, sym, ap}
use Rattle.template_compiler_tree.specs.Tree.{Statement, Statements, template, for_loop, if_condition, with_block, set_block, auto_escape, filter_block, block, macro, call_block}
use Rattle.template_compiler_tree_parts.specs.Bodies.{body_in, other_in}
use Rattle.template_compiler_tree_parts.specs.Kinds.{is_block, is_call_block, is_macro, is_template}
use Rattle.template_compiler_tree_parts.specs.Within.{joined, picked_among}
use Rattle.template_compiler_tree_parts.proofs.Picked.{said}
use Rattle.template_compiler_walk.specs.Blocks.{blocks_by, blocks_in}
use Rattle.template_compiler_names_needed.specs.Seen.{is_entered, own_blocks}

own_first : (s : Statement) → blocks_by s ≡ own_blocks s ++ (if is_entered s then blocks_in (body_in s) ++ blocks_in (other_in s) else [])
own_first (for_loop target e condition recursive body otherwise) = refl
own_first (if_condition e body otherwise) = refl
own_first (with_block pairs body) = sym (append-nil (blocks_in body))
own_first (set_block target filters body) = sym (append-nil (blocks_in body))
own_first (auto_escape e body) = sym (append-nil (blocks_in body))
own_first (filter_block e body) = sym (append-nil (blocks_in body))
own_first (block name required body) = ap (λ bs. record { name = name; required = required; body = body } ∷ bs) (sym (append-nil (blocks_in body)))
own_first _ = refl

pub none_picked : (s : Statement) → is_block s ≡ false → own_blocks s ≡ []
none_picked (block name required body) out = cc
none_picked _ out = refl

-- those that are picked are the blocks
pub blocks_of : (ss : Statements) → joined [] ◌++◌ own_blocks (picked_among is_block is_entered ss) ≡ blocks_in ss
blocks_of =
    said [] ◌++◌ append_assoc append-nil (λ x. refl) is_block is_entered own_blocks blocks_by blocks_in none_picked refl (λ s ss. refl) own_first

-- what no block stands in
pub entered : (s : Statement) → is_template s ≡ false → is_macro s ≡ false → is_call_block s ≡ false → is_entered s ≡ true
entered (template body) whole declared called = cc
entered (macro name taken defaults body) whole declared called = cc
entered (call_block e given taken defaults body) whole declared called = cc
entered _ whole declared called = refl
