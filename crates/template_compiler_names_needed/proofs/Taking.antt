-- A statement's imported names: its own, and those of its bodies.
use Rattle.std.proofs.Common.{◌≡◌, ℕ, ◌+◌, ◌<◌, ◌≤◌, length, get_or, drop, Bool, true, false, not, ◌||◌, if◌then◌else◌, Result, Ok, Err, IfOk, List, [], ◌∷◌, ◌++◌, Option, Bor, Box, Global, refl, sym, ap, ◌∙◌}
use Rattle.std.specs.Str.{bytes_eq}
use Rattle.template_compiler_tree.specs.Tree.{Expression, Statement, Statements, template, for_loop, if_condition, with_block, set_block, auto_escape, filter_block, block, from_import, macro, call_block}
use Rattle.template_compiler_tree.specs.View.{expression_of}
use Rattle.template_compiler_tree.specs.declared.span.Spanned.{Spanned}
use Rattle.template_compiler_tree.specs.declared.expressions.Compare.{Compare}
use Rattle.template_compiler_tree.specs.declared.expressions.Expr.{Expr, Compare as CompareNode}
use Rattle.template_compiler_tree_statements.specs.View.{imports_in}
use Rattle.template_compiler_tree_parts.specs.Bodies.{body_in, other_in}
use Rattle.template_compiler_tree_parts.specs.Kinds.{is_import, is_template}
use Rattle.template_compiler_tree_parts.specs.Within.{joined, picked_among}
use Rattle.template_compiler_tree_parts.proofs.Picked.{said}
use Rattle.template_compiler_tree_parts.proofs.Trees.{chain_tree}
use Rattle.template_compiler_walk.specs.Imported.{is_imported, is_imported_by, is_name, is_one_of}
use Rattle.template_compiler_names.specs.Among.{Among, is_among}
use Rattle.template_compiler_names.proofs.Laws.{drop_at, drop_none, or_assoc, or_false}
use Rattle.template_compiler_names.proofs.Sets.{one_more}
use Rattle.template_compiler_names_needed.specs.Needed.{Takes, own_imports}

module _ (q : List ℕ) where
  alone : (body : Statements) → is_imported q body ≡ (false || (is_imported q body || false))
  alone body = sym (or_false (is_imported q body))

  own_first : (s : Statement) → is_imported_by q s ≡ (own_imports s q || (if not (is_template s) then is_imported q (body_in s) || is_imported q (other_in s) else false))
  own_first (for_loop target e condition recursive body otherwise) = refl
  own_first (if_condition e body otherwise) = refl
  own_first (with_block pairs body) = alone body
  own_first (set_block target filters body) = alone body
  own_first (auto_escape e body) = alone body
  own_first (filter_block e body) = alone body
  own_first (block name required body) = alone body
  own_first (from_import e names) = sym (or_false (is_one_of q names))
  own_first (macro name taken defaults body) = alone body
  own_first (call_block e given taken defaults body) = alone body
  own_first _ = refl

  pub none_picked : (s : Statement) → is_import s ≡ false → own_imports s q ≡ false
  none_picked (from_import e names) out = cc
  none_picked _ out = refl

  -- those that are picked import the names
  pub imports_said : (ss : Statements) → joined false ◌||◌ (λ s. own_imports s q) (picked_among is_import (λ s. not (is_template s)) ss) ≡ is_imported q ss
  imports_said =
      said false ◌||◌ (λ x y z. sym (or_assoc x y z)) or_false (λ x. refl) is_import (λ s. not (is_template s)) (λ s. own_imports s q) (is_imported_by q) (is_imported q)
      none_picked refl (λ s ss. refl) own_first

-- what is still to be taken: with it there are all
abbrev pub Left : List (Bor (List ℕ)) → Among → Among → Type 0
Left ns rest all = (q : List ℕ) → (is_among ns q || rest q) ≡ all q

pub behind : (ns ms : List (Bor (List ℕ))) (part rest all : Among) → Takes part ns ms → Left ns (λ q. part q || rest q) all → Left ms rest all
behind ns ms part rest all taken left q =
    ap (λ b. b || rest q) (taken q) ∙ sym (or_assoc (is_among ns q) (part q) (rest q)) ∙ left q

pub takes_as : {T E : Type 0} {part among : Among} (ns ms : List (Bor (List ℕ))) (r : Result T E) → ((q : List ℕ) → part q ≡ among q) →
    IfOk r (λ _. Takes part ns ms) → IfOk r (λ _. Takes among ns ms)
takes_as ns ms (Ok value) same taken = λ q. taken q ∙ ap (λ b. is_among ns q || b) (same q)
takes_as ns ms (Err error) same taken = tt

-- imports, one behind the other
abbrev pub names_of : List (Expr × Option Expr) → Among
names_of imports q = is_one_of q (imports_in imports)

pub import_item : (ns ms : List (Bor (List ℕ))) (all : Among) (xs : List (Expr × Option Expr)) (i : ℕ) (x : Expr × Option Expr) → i < length xs → x ≡ get_or xs i x →
    Takes (λ q. is_name q (expression_of x.0)) ns ms → Left ns (names_of (drop i xs)) all → Left ms (names_of (drop (i + 1) xs)) all
import_item ns ms all xs i x within read taken left =
    behind ns ms (λ q. is_name q (expression_of x.0)) (names_of (drop (i + 1) xs)) all taken
    (λ q. ap (λ (ys : List (Expr × Option Expr)). is_among ns q || names_of ys q) (sym (drop_at xs i x within read)) ∙ left q)

pub imports_done : (ns : List (Bor (List ℕ))) (all : Among) (xs : List (Expr × Option Expr)) (i : ℕ) → length xs ≤ i → Left ns (names_of (drop i xs)) all →
    (q : List ℕ) → is_among ns q ≡ all q
imports_done ns all xs i past left q =
    sym (or_false (is_among ns q)) ∙ ap (λ (ys : List (Expr × Option Expr)). is_among ns q || names_of ys q) (sym (drop_none xs i past)) ∙ left q

-- a name, and an expression that is none
pub one_name : (ns ms : List (Bor (List ℕ))) (x : Bor (List ℕ)) → ms ≡ ns ++ x ∷ [] → Takes (λ q. bytes_eq x.now q) ns ms
one_name ns ms x pushed q =
    sym (or_false (is_among ms q)) ∙ one_more ns ms x false q pushed ∙ ap (λ b. b || bytes_eq x.now q) (or_false (is_among ns q))

pub no_name : {e x : Expr} (ns : List (Bor (List ℕ))) → e ≡ x → ((q : List ℕ) → false ≡ is_name q (expression_of x)) → Takes (λ q. is_name q (expression_of e)) ns ns
no_name ns is none q =
    sym (or_false (is_among ns q)) ∙ ap (λ b. is_among ns q || b) (none q) ∙ ap (λ (y : Expr). is_among ns q || is_name q (expression_of y)) (sym is)

pub chain_name : (q : List ℕ) (n : Box (Spanned Compare) Global) → false ≡ is_name q (expression_of (CompareNode n))
chain_name q n = sym (ap (λ (t : Expression). is_name q t) (chain_tree n.value.node))
