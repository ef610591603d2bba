-- Along the comparisons of a chain: it goes on behind one that is constant and true, else ends.
use Rattle.std.proofs.Common.{◌≡◌, ℕ, ◌+◌, ◌<◌, Bool, true, false, cond, List, length, get_or, drop, Option, None, Some, refl, sym, ap, ◌∙◌}
use Rattle.std.proofs.lemmas.List.{drop_more}
use Rattle.std.specs.Prelude.{option_and_then}
use Rattle.template_values_model.specs.Val.{Val}
use Rattle.template_values_forms.specs.Known.{nothing_known}
use Rattle.template_compiler_tree.specs.declared.expressions.CompareOp.{CompareOp}
use Rattle.template_compiler_tree.specs.declared.operators.CompareOpKind.{CompareOpKind}
use Rattle.template_compiler_tree.specs.Tree.{Links, no_links, links_more}
use Rattle.template_compiler_tree.specs.View.{expression_of, links_in}
use Rattle.template_compiler_walk.specs.Constants.{chain_constant, chain_decided, constant_of, made}
use Rattle.template_compiler_walk.specs.Operators.{compared}
use Rattle.template_compiler_folding.specs.Folding.{comparison_folded, is_known_true}
use Rattle.template_compiler_folding.specs.Nodes.{constant_from}

-- the constant of a chain from a comparison on
abbrev pub constant_at : CompareOpKind → Links → Option Val → Option Val → Option Val
constant_at op rest left right = option_and_then (λ v. option_and_then
    (λ w. option_and_then (λ h. chain_decided h rest (chain_constant w rest)) (made (compared nothing_known op v w))) right) left

behind_true : (o : Option Val) (w : Val) (rest : Links) → is_known_true o ≡ true
    → constant_from o (Some w) rest ≡ option_and_then (λ h. chain_decided h rest (chain_constant w rest)) o
behind_true None w rest goes = cc
behind_true (Some h) w no_links goes = refl
behind_true (Some h) w (links_more op e rest) goes =
    sym (ap (λ (b : Bool). cond b (chain_constant w (links_more op e rest)) (Some h)) goes)

behind_other : (o : Option Val) (w : Val) (rest : Links) → is_known_true o ≡ false
    → o ≡ option_and_then (λ h. chain_decided h rest (chain_constant w rest)) o
behind_other None w rest ends = refl
behind_other (Some h) w no_links ends = refl
behind_other (Some h) w (links_more op e rest) ends =
    sym (ap (λ (b : Bool). cond b (chain_constant w (links_more op e rest)) (Some h)) ends)

known_goes : (op : CompareOpKind) (rest : Links) (left right : Option Val) → is_known_true (comparison_folded op left right) ≡ true
    → constant_from (comparison_folded op left right) right rest ≡ constant_at op rest left right
known_goes op rest None right goes = cc
known_goes op rest (Some v) None goes = cc
known_goes op rest (Some v) (Some w) goes = behind_true (made (compared nothing_known op v w)) w rest goes

known_ends : (op : CompareOpKind) (rest : Links) (left right : Option Val) → is_known_true (comparison_folded op left right) ≡ false
    → comparison_folded op left right ≡ constant_at op rest left right
known_ends op rest None right ends = refl
known_ends op rest (Some v) None ends = refl
known_ends op rest (Some v) (Some w) ends = behind_other (made (compared nothing_known op v w)) w rest ends

-- the comparisons from a place on
links_at : (ls : List CompareOp) (i : ℕ) (x : CompareOp) → i < length ls → x ≡ get_or ls i x
    → links_in (drop i ls) ≡ links_more x.op (expression_of x.expr) (links_in (drop (i + 1) ls))
links_at ls i x within read =
    ap (λ (l : List CompareOp). links_in l) (drop_more ls i x within) ∙
    ap (λ (y : CompareOp). links_more y.op (expression_of y.expr) (links_in (drop (i + 1) ls))) (sym read)

-- from one comparison to the next
pub link_goes : (ls : List CompareOp) (i : ℕ) (x : CompareOp) (holds left right later : Option Val) → i < length ls → x ≡ get_or ls i x
    → right ≡ constant_of (expression_of x.expr) → later ≡ comparison_folded x.op left right → is_known_true later ≡ true
    → constant_from later right (links_in (drop (i + 1) ls)) ≡ constant_from holds left (links_in (drop i ls))
link_goes ls i x holds left right later within read value compares goes =
    let rest = links_in (drop (i + 1) ls) in
    ap (λ (o : Option Val). constant_from o right rest) compares ∙
    known_goes x.op rest left right (sym (ap is_known_true compares) ∙ goes) ∙
    ap (λ (o : Option Val). constant_at x.op rest left o) value ∙
    ap (λ (l : Links). constant_from holds left l) (sym (links_at ls i x within read))

-- where it does not go on, the chain has that value
pub link_ends : (ls : List CompareOp) (i : ℕ) (x : CompareOp) (holds left right later : Option Val) → i < length ls → x ≡ get_or ls i x
    → right ≡ constant_of (expression_of x.expr) → later ≡ comparison_folded x.op left right → is_known_true later ≡ false
    → later ≡ constant_from holds left (links_in (drop i ls))
link_ends ls i x holds left right later within read value compares ends =
    let rest = links_in (drop (i + 1) ls) in
    compares ∙ known_ends x.op rest left right (sym (ap is_known_true compares) ∙ ends) ∙
    ap (λ (o : Option Val). constant_at x.op rest left o) value ∙
    ap (λ (l : Links). constant_from holds left l) (sym (links_at ls i x within read))
