-- The parts that statements are, and those that stand in them.
use Rattle.std.proofs.Common.{◌≡◌, Bool, true, false, Result, Ok, Err, IfOk, List, [], ◌∷◌, ◌++◌, append_assoc, append-nil, refl, sym, ap, ◌∙◌}
use Rattle.template_compiler_tree.specs.Tree.{Expression, Statement, Statements, template, for_loop, if_condition, with_block, set_block, auto_escape, filter_block, block, macro, call_block}
use Rattle.template_compiler_tree_statements.specs.View.{statement_of}
use Rattle.template_compiler_tree_statements.specs.declared.statements.Stmt.{Stmt}
use Rattle.template_compiler_tree_parts.specs.Bodies.{body_in, other_in}
use Rattle.template_compiler_tree_parts.specs.Kinds.{is_block, is_loop, is_template}
use Rattle.template_compiler_tree_parts.specs.Within.{joined, picked_among, picked_of}
use Rattle.template_compiler_tree_parts.proofs.Picked.{said, said_of}
use Rattle.template_compiler_names_closures.specs.Bodies.{is_part, own_part}
use Rattle.template_compiler_names_closures.specs.Units.{Part, part_of, parts_in, rounds_of, units_among, units_of}
use Rattle.template_compiler_names_closures.specs.declared.parts.Unit.{Unit}

pub one_pushed : (xs : List Unit) (x : Unit) → parts_in (xs ++ x ∷ []) ≡ parts_in xs ++ part_of x ∷ []
one_pushed [] x = refl
one_pushed (y ∷ xs) x = ap (λ ps. part_of y ∷ ps) (one_pushed xs x)

-- a statement is its own part, and its bodies
lone : (own : List Part) (body : Statements) → own ++ units_among body ≡ own ++ (units_among body ++ [])
lone own body = ap (λ ps. own ++ ps) (sym (append-nil (units_among body)))

own_first : (t : Statement) → units_of t ≡ own_part t ++ (units_among (body_in t) ++ units_among (other_in t))
own_first (template body) = lone (own_part (template body)) body
own_first (for_loop target e condition recursive body otherwise) = refl
own_first (if_condition e body otherwise) = refl
own_first (with_block pairs body) = lone [] body
own_first (set_block target filters body) = lone [] body
own_first (auto_escape e body) = lone [] body
own_first (filter_block e body) = lone [] body
own_first (block name required body) = lone (own_part (block name required body)) body
own_first (macro name taken defaults body) = lone [] body
own_first (call_block e given taken defaults body) = lone [] body
own_first _ = refl

no_rounds : (recursive : Bool) (target : Expression) (body : Statements) → recursive ≡ false → rounds_of recursive target body ≡ []
no_rounds true target body out = cc
no_rounds false target body out = refl

-- what is no template, no block and no loop is no part
pub no_part : (t : Statement) → is_template t ≡ false → is_block t ≡ false → is_loop t ≡ false → is_part t ≡ false
no_part (template body) whole named looping = cc
no_part (block name required body) whole named looping = cc
no_part (for_loop target e condition recursive body otherwise) whole named looping = cc
no_part _ whole named looping = refl

pub none_picked : (t : Statement) → is_part t ≡ false → own_part t ≡ []
none_picked (template body) out = cc
none_picked (block name required body) out = cc
none_picked (for_loop target e condition recursive body otherwise) out = no_rounds recursive target body out
none_picked _ out = refl

-- those that are picked are the units
pub units_said : (ss : Statements) → joined [] ◌++◌ own_part (picked_among is_part (λ t. true) ss) ≡ units_among ss
units_said =
    said [] ◌++◌ append_assoc append-nil (λ x. refl) is_part (λ t. true) own_part units_of units_among none_picked refl (λ s ss. refl) own_first

pub units_said_of : (t : Statement) → joined [] ◌++◌ own_part (picked_of is_part (λ s. true) t) ≡ units_of t
units_said_of =
    said_of [] ◌++◌ append_assoc append-nil (λ x. refl) is_part (λ t. true) own_part units_of units_among none_picked refl (λ s ss. refl) own_first

-- a statement that is a part
pub own_taken : {T E : Type 0} {s x : Stmt} (ps qs part : List Part) → s ≡ x → part ≡ own_part (statement_of x) → (r : Result T E) →
    IfOk r (λ _. qs ≡ ps ++ part) → IfOk r (λ _. qs ≡ ps ++ own_part (statement_of s))
own_taken ps qs part is own (Ok value) taken =
    taken ∙ ap (λ l. ps ++ l) own ∙ ap (λ (y : Stmt). ps ++ own_part (statement_of y)) (sym is)
own_taken ps qs part is own (Err error) taken = tt
