-- What a tree adds to its left part makes its constant and its code: one step of the walk along a left chain.
use Rattle.std.proofs.Common.{◌≡◌, ℕ, ◌+◌, Bool, true, false, ◌&&◌, List, [], ◌∷◌, ◌++◌, length, Option, None, Some, refl, sym, ap, ◌∙◌, append-nil, append_assoc, add-zero, length-append}
use Rattle.std.specs.Prelude.{option_and_then}
use Rattle.template_values_model.specs.Val.{Val, none}
use Rattle.template_compiler_tree.specs.declared.operators.BinOpKind.{BinOpKind}
use Rattle.template_compiler_tree.specs.declared.operators.BinOpKind.TheVariants.{ScAnd, ScOr}
use Rattle.template_compiler_tree.specs.Kinds.{is_self_name, is_empty}
use Rattle.template_compiler_tree.specs.Tree.{Expression, Arguments, variable, constant, unary, binary, chain, conditional, filtered, tested, attribute, item, call, list_literal, tuple_literal, map_literal, absent, given}
use Rattle.template_compiler_tree.specs.Tree as tree
use Rattle.template_compiler_tree_parts.specs.Spine.{before}
use Rattle.template_compiler_expression_codegen.specs.Coded.{of_called, coded_left}
use Rattle.template_compiler_walk.specs.Constants.{constant_of, binary_constant, chain_constant}
use Rattle.template_compiler_walk.specs.Expressions.{attribute_called}
use Rattle.template_compiler_walk.specs.Runnable.{IsRunnable}
use Rattle.template_compiler_walk.specs.Statements.{number_of}
use Rattle.template_compiler_code.specs.Code.{Code, load_const, get_attr, get_item, slice, build_list, build_tuple, build_map, call_method, call_object}
use Rattle.template_compiler_codegen.specs.Core.{no_ways, flat}
use Rattle.template_compiler_codegen.specs.Expressions.{Coded, one, then_code, loaded, unary_code, binary_code, called_core, expression_core, positional_cores, keyword_cores, expression_code, optional_code, expressions_code, entries_code, entry_count, codes_of, chain_code, filter_code, passed_code, argument_count}
use Rattle.template_compiler_emission.specs.Puts.{unless, held, behind}
use Rattle.template_compiler_expression_codegen.specs.Own.{own_constant, own_code, operator_code, block_code, called_behind, test_code}

loads_known : (o : Option Val) (code : Coded) (v : Val) → o ≡ Some v → loaded o code ≡ one (load_const v)
loads_known o code v h = ap (λ (k : Option Val). loaded k code) h

-- a constant tree is loaded
pub constants_load : (e : Expression) (v : Val) → constant_of e ≡ Some v → expression_code e ≡ one (load_const v)
constants_load (constant w) v h = let same : w ≡ v = cc in ap (λ (u : Val). one (load_const u)) same
constants_load (unary op e) v h = loads_known (constant_of (unary op e)) (then_code (expression_code e) (one (unary_code op))) v h
constants_load (binary op l r) v h = loads_known (constant_of (binary op l r)) (binary_code op (expression_code l) (expression_code r)) v h
constants_load (chain first links) v h = loads_known (constant_of (chain first links)) (then_code (expression_code first) (chain_code links)) v h
constants_load (list_literal es) v h =
    loads_known (constant_of (list_literal es)) (then_code (expressions_code es) (one (build_list (Some (number_of es))))) v h
constants_load (tuple_literal es) v h =
    loads_known (constant_of (tuple_literal es)) (then_code (expressions_code es) (one (build_tuple (Some (number_of es))))) v h
constants_load (map_literal ks vs) v h =
    loads_known (constant_of (map_literal ks vs)) (then_code (entries_code ks (codes_of vs)) (one (build_map (entry_count ks (codes_of vs))))) v h
constants_load _ v h = cc

unless_loaded : (o : Option Val) (code : Coded) (p : ℕ) → unless o (loaded o code) p ≡ unless o code p
unless_loaded None code p = refl
unless_loaded (Some v) code p = refl

-- the constant of a tree with its code, where it is none, and what a tree makes of those of its left part
abbrev pub known : ℕ → Expression → Option Val × List Code
known p e = (constant_of e, unless (constant_of e) (expression_code e) p)

abbrev pub with_own : ℕ → Option Val × List Code → Expression → Option Val × List Code
with_own p left e = (own_constant left.0 e, left.1 ++ unless (own_constant left.0 e) (own_code left.0 e) (p + length left.1))

abbrev pub no_left : Option Val × List Code
no_left = (None, [])

abbrev pub add_own : ℕ → Option Val × List Code → Expression → Option Val × List Code
add_own p left (filtered name absent args) = (None, [])
add_own p left e = with_own p left e

pub own_runnable : (p : ℕ) (left : Option Val × List Code) (e : Expression) → IsRunnable e → add_own p left e ≡ with_own p left e
own_runnable p left (filtered name absent args) h = absurd h
own_runnable p left _ h = refl

at_first : (o : Option Val) (f g : Coded) (p : ℕ) → ((q : ℕ) → unless o f q ≡ unless o g q) →
    let left : Option Val × List Code = (o, unless o f p) in left ≡ (o, unless o g (p + 0))
at_first o f g p same = ap (λ (code : List Code). (o, code)) (same p ∙ ap (λ (q : ℕ). unless o g q) (sym (add-zero p)))

behind_left : (k o : Option Val) (code rest : Coded) (p : ℕ) → ((v : Val) → k ≡ Some v → code p ≡ load_const v ∷ []) → (k ≡ None → o ≡ None)
    → unless o (then_code code rest) p ≡ unless k code p ++ unless o (behind k rest) (p + length (unless k code p))
behind_left (Some v) (Some w) code rest p loads none_stays = refl
behind_left (Some v) None code rest p loads none_stays =
    ap (λ (c : List Code). c ++ rest (p + length c)) (loads v refl) ∙
    ap (λ (q : ℕ). load_const v ∷ rest (q + 1)) (sym (add-zero p))
behind_left None None code rest p loads none_stays = refl
behind_left None (Some w) code rest p loads none_stays = let never : Some w ≡ None = none_stays refl in cc

operator_behind : (op : BinOpKind) (left right : Coded) → binary_code op left right ≡ then_code left (operator_code op right)
operator_behind ScAnd left right = refl
operator_behind ScOr left right = refl
operator_behind _ left right = refl

along : (p : ℕ) (l : Expression) (o : Option Val) (rest : Coded) → (constant_of l ≡ None → o ≡ None) →
    unless o (then_code (expression_code l) rest) p ≡
    unless (constant_of l) (expression_code l) p ++ unless o (behind (constant_of l) rest) (p + length (unless (constant_of l) (expression_code l) p))
along p l o rest none_stays =
    behind_left (constant_of l) o (expression_code l) rest p (λ v e. ap (λ (f : Coded). f p) (constants_load l v e)) none_stays

-- an attribute that is called: a method behind its object, or a block
attribute_step : (p : ℕ) (b : Bool) (e : Expression) (name : List ℕ) (args : Arguments) →
    let callee = attribute_called b name in
    let left : Option Val × List Code = before (known p) no_left (of_called callee None (Some e) (Some (attribute e name))) in
    ◌≡◌ {A = Option Val × List Code} (None, flat no_ways (called_core callee (expression_core (attribute e name)) (expression_core e) (positional_cores args) (keyword_cores args)) p)
    (None, left.1 ++ called_behind callee left.0 args (p + length left.1))
attribute_step p true e name args = at_first None (block_code name) (block_code name) p (λ q. refl)
attribute_step p false e name args =
    ap (λ (code : List Code). (None, code))
    (along p e None (then_code (passed_code 1 args) (one (call_method name (argument_count 1 args)))) (λ h. refl))

pub own_step : (p : ℕ) (e : Expression) → known p e ≡ add_own p (before (known p) no_left (coded_left e)) e
own_step p (variable name) = refl
own_step p (constant v) = refl
own_step p (unary op e) =
    let code = then_code (expression_code e) (one (unary_code op)) in
    at_first (constant_of (unary op e)) (expression_code (unary op e)) code p (unless_loaded (constant_of (unary op e)) code)
own_step p (binary op l r) =
    let o = constant_of (binary op l r) in
    ap (λ (code : List Code). (o, code))
    (unless_loaded o (binary_code op (expression_code l) (expression_code r)) p ∙
    ap (λ (f : Coded). unless o f p) (operator_behind op (expression_code l) (expression_code r)) ∙
    along p l o (operator_code op (expression_code r))
    (λ e. ap (λ (k : Option Val). option_and_then (λ v. option_and_then (binary_constant op v) (constant_of r)) k) e))
own_step p (chain first links) =
    let o = constant_of (chain first links) in
    ap (λ (code : List Code). (o, code))
    (unless_loaded o (then_code (expression_code first) (chain_code links)) p ∙
    along p first o (chain_code links) (λ e. ap (λ (k : Option Val). option_and_then (λ v. chain_constant v links) k) e))
own_step p (conditional test branch otherwise) =
    let e = conditional test branch otherwise in at_first None (expression_code e) (expression_code e) p (λ q. refl)
own_step p (filtered name absent args) = refl
own_step p (filtered name (given e) args) = ap (λ (code : List Code). (None, code)) (along p e None (filter_code name args) (λ h. refl))
own_step p (tested name e args) = ap (λ (code : List Code). (None, code)) (along p e None (test_code name args) (λ h. refl))
own_step p (call (variable name) args) =
    let e = call (variable name) args in at_first None (expression_code e) (expression_code e) p (λ q. refl)
own_step p (call (attribute e name) args) = attribute_step p (is_self_name e && is_empty args) e name args
own_step p (call e args) =
    ap (λ (code : List Code). (None, code))
    (along p e None (then_code (passed_code 1 args) (one (call_object (argument_count 1 args)))) (λ h. refl))
own_step p (attribute e name) = ap (λ (code : List Code). (None, code)) (along p e None (one (get_attr name)) (λ h. refl))
own_step p (item e key) =
    ap (λ (code : List Code). (None, code)) (along p e None (then_code (expression_code key) (one get_item)) (λ h. refl))
own_step p (tree.slice e start stop by) =
    ap (λ (code : List Code). (None, code))
    (along p e None (then_code (optional_code none start) (then_code (optional_code none stop) (then_code (optional_code none by) (one slice)))) (λ h. refl))
own_step p (list_literal es) =
    let o = constant_of (list_literal es) in
    let code = then_code (expressions_code es) (one (build_list (Some (number_of es)))) in
    at_first o (expression_code (list_literal es)) code p (unless_loaded o code)
own_step p (tuple_literal es) =
    let o = constant_of (tuple_literal es) in
    let code = then_code (expressions_code es) (one (build_tuple (Some (number_of es)))) in
    at_first o (expression_code (tuple_literal es)) code p (unless_loaded o code)
own_step p (map_literal ks vs) =
    let o = constant_of (map_literal ks vs) in
    let code = then_code (entries_code ks (codes_of vs)) (one (build_map (entry_count ks (codes_of vs)))) in
    at_first o (expression_code (map_literal ks vs)) code p (unless_loaded o code)

-- the code of a node, put behind that of its left part
pub added : (begun left old new : List Code) (piece : Coded) → old ≡ begun ++ left → new ≡ old ++ piece (length old)
    → new ≡ begun ++ (left ++ piece (length begun + length left))
added begun left old new piece p q =
    q ∙ ap (λ (l : List Code). l ++ piece (length l)) p ∙
    ap (λ (m : ℕ). (begun ++ left) ++ piece m) (length-append begun left) ∙
    append_assoc begun left (piece (length begun + length left))

-- a tree whose constant, where it is one, is loaded behind it
pub whole : (e : Expression) (o : Option Val) (xs ys zs : List Code) → o ≡ constant_of e → ys ≡ xs ++ unless o (expression_code e) (length xs)
    → zs ≡ ys ++ held o (length ys) → zs ≡ xs ++ expression_code e (length xs)
whole e None xs ys zs is p q = q ∙ append-nil ys ∙ p
whole e (Some v) xs ys zs is p q =
    q ∙ ap (λ (l : List Code). l ++ load_const v ∷ []) (p ∙ append-nil xs) ∙
    ap (λ (f : Coded). xs ++ f (length xs)) (sym (constants_load e v (sym is)))

-- a left part that is loaded, where it was held back, and what stands behind it
pub loaded_behind : (k : Option Val) (rest : Coded) (xs ys zs : List Code) → ys ≡ xs ++ held k (length xs) → zs ≡ ys ++ rest (length ys)
    → zs ≡ xs ++ behind k rest (length xs)
loaded_behind None rest xs ys zs p q = q ∙ ap (λ (l : List Code). l ++ rest (length l)) (p ∙ append-nil xs)
loaded_behind (Some v) rest xs ys zs p q =
    q ∙ ap (λ (l : List Code). l ++ rest (length l)) p ∙
    ap (λ (m : ℕ). (xs ++ load_const v ∷ []) ++ rest m) (length-append xs (load_const v ∷ [])) ∙
    append_assoc xs (load_const v ∷ []) (rest (length xs + 1))
