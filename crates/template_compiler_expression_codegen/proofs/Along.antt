-- Along a left chain: each node is runnable, and adds its own to what stands.
use Rattle.std.proofs.Common.{◌≡◌, ℕ, ◌+◌, ◌<◌, ◌≤◌, zero, suc, Bool, true, false, ◌&&◌, Result, Ok, Err, List, [], ◌∷◌, ◌++◌, length, map, take, get_or, Option, None, Some, option_map, Bor, sym, ap, subst, ◌∙◌, add-zero, arith}
use Rattle.std.specs.List.{All, fold}
use Rattle.std.specs.Prelude.{OnOk}
use Rattle.std.proofs.lemmas.List.{take_more}
use Rattle.std.proofs.lemmas.List.Sums.{fold_push}
use Rattle.std.proofs.lemmas.List.Elements.{All-nil, All-head, All-tail, All-same, All-push, All-get_or}
use Rattle.template_values_model.specs.Val.{Val}
use Rattle.template_compiler_tree.specs.Tree.{Expression, slice, binary, chain, filtered, tested, variable, attribute, item, call, absent, given}
use Rattle.template_compiler_tree.specs.Kinds.{is_self_name, is_empty}
use Rattle.template_compiler_tree.specs.View.{expression_of}
use Rattle.template_compiler_tree.specs.declared.expressions.Expr.{Expr, size-Expr}
use Rattle.template_compiler_tree_parts.specs.Spine.{before}
use Rattle.template_compiler_expression_codegen.specs.Coded.{of_called, coded_spine, coded_left}
use Rattle.template_compiler_walk.specs.Constants.{constant_of}
use Rattle.template_compiler_walk.specs.Expressions.{attribute_called}
use Rattle.template_compiler_walk.specs.Runnable.{IsRunnable}
use Rattle.template_compiler_code.specs.Code.{Code}
use Rattle.template_compiler_codegen.specs.Expressions.{expression_code}
use Rattle.template_compiler_code.specs.Listing.{code_in}
use Rattle.template_compiler_code.specs.declared.listing.Instructions.{Instructions}
use Rattle.template_compiler_emission.specs.Puts.{Puts, unless}
use Rattle.template_compiler_emission.proofs.Putting.{same_then}
use Rattle.template_compiler_expression_codegen.specs.Own.{own_constant, own_code}
use Rattle.template_compiler_expression_codegen.proofs.Own.{known, add_own, with_own, no_left, own_step, own_runnable, added}

runnable_called : (b : Bool) (e t : Expression) (name : List ℕ) → All IsRunnable (coded_spine e) → IsRunnable t
    → All IsRunnable (of_called (attribute_called b name) [] (coded_spine e) (coded_spine (attribute e name)) ++ t ∷ [])
runnable_called true e t name along h = All-push IsRunnable [] t (All-nil IsRunnable) h
runnable_called false e t name along h = All-push IsRunnable (coded_spine e) t along h

runnable_along : (e : Expression) → IsRunnable e → All IsRunnable (coded_spine e)
runnable_along (slice e start stop by) h = All-push IsRunnable (coded_spine e) (slice e start stop by) (runnable_along e h.0) h
runnable_along (binary op l r) h = All-push IsRunnable (coded_spine l) (binary op l r) (runnable_along l h.0) h
runnable_along (chain e links) h = All-push IsRunnable (coded_spine e) (chain e links) (runnable_along e h.0) h
runnable_along (filtered name absent args) h = absurd h
runnable_along (filtered name (given e) args) h = All-push IsRunnable (coded_spine e) (filtered name (given e) args) (runnable_along e h.0) h
runnable_along (tested name e args) h = All-push IsRunnable (coded_spine e) (tested name e args) (runnable_along e h.0) h
runnable_along (call (variable name) args) h = All-push IsRunnable [] (call (variable name) args) (All-nil IsRunnable) h
runnable_along (call (attribute e name) args) h =
    runnable_called (is_self_name e && is_empty args) e (call (attribute e name) args) name (runnable_along e h.0) h
runnable_along (call e args) h = All-push IsRunnable (coded_spine e) (call e args) (runnable_along e h.0) h
runnable_along (attribute e name) h = All-push IsRunnable (coded_spine e) (attribute e name) (runnable_along e h) h
runnable_along (item e key) h = All-push IsRunnable (coded_spine e) (item e key) (runnable_along e h.0) h
runnable_along e h = All-push IsRunnable [] e (All-nil IsRunnable) h

-- the left part of a runnable tree is runnable
is_left : (l e : Expression) → IsRunnable e → ◌≡◌ {A = Option Expression} (Some l) (Some e) → IsRunnable l
is_left l e h same = let is : e ≡ l = cc in subst (λ (x : Expression). IsRunnable x) is h

left_called : (b : Bool) (e l : Expression) (name : List ℕ) → IsRunnable e
    → Some l ≡ of_called (attribute_called b name) None (Some e) (Some (attribute e name)) → IsRunnable l
left_called true e l name h left = absurd cc
left_called false e l name h left = is_left l e h left

pub left_runnable : (e l : Expression) → IsRunnable e → Some l ≡ coded_left e → IsRunnable l
left_runnable (slice e start stop by) l h left = is_left l e h.0 left
left_runnable (binary op a b) l h left = is_left l a h.0 left
left_runnable (chain e links) l h left = is_left l e h.0 left
left_runnable (filtered name absent args) l h left = absurd h
left_runnable (filtered name (given e) args) l h left = is_left l e h.0 left
left_runnable (tested name e args) l h left = is_left l e h.0 left
left_runnable (call (variable name) args) l h left = absurd cc
left_runnable (call (attribute e name) args) l h left = left_called (is_self_name e && is_empty args) e l name h.0 left
left_runnable (call e args) l h left = is_left l e h.0 left
left_runnable (attribute e name) l h left = is_left l e h left
left_runnable (item e key) l h left = is_left l e h.0 left
left_runnable _ l h left = absurd cc

at_place : (ns : List (Bor Expr)) (i : ℕ) (n : Bor Expr) → All IsRunnable (map (λ (m : Bor Expr). expression_of m.now) ns) → i < length ns
    → IsRunnable (expression_of (get_or ns i n).now)
at_place [] i n all h = absurd (omega arith)
at_place (m ∷ ms) zero n all h = All-head IsRunnable (expression_of m.now) (map (λ (m : Bor Expr). expression_of m.now) ms) all
at_place (m ∷ ms) (suc i) n all h =
    at_place ms i n (All-tail IsRunnable (expression_of m.now) (map (λ (m : Bor Expr). expression_of m.now) ms) all) (omega arith)

-- the nodes of the left chain of a runnable tree are runnable
pub runnable_at : (e : Expression) (ns : List (Bor Expr)) → IsRunnable e → map (λ (n : Bor Expr). expression_of n.now) ns ≡ coded_spine e
    → (i : ℕ) (n : Bor Expr) → i < length ns → n ≡ get_or ns i n → IsRunnable (expression_of n.now)
runnable_at e ns h nodes i n within read =
    let all = All-same IsRunnable (map (λ (m : Bor Expr). expression_of m.now) ns) (coded_spine e) nodes (runnable_along e h) in
    subst (λ (m : Bor Expr). IsRunnable (expression_of m.now)) (sym read) (at_place ns i n all within)

-- and no deeper than the tree
pub depth_at : (m : ℕ) (ns : List (Bor Expr)) → All (λ (n : Bor Expr). size-Expr n.now ≤ m) ns
    → (i : ℕ) (n : Bor Expr) → i < length ns → n ≡ get_or ns i n → size-Expr n.now ≤ m
depth_at m ns all i n within read =
    subst (λ (x : Bor Expr). size-Expr x.now ≤ m) (sym read) (All-get_or (λ (x : Bor Expr). size-Expr x.now ≤ m) ns i n within all)

abbrev pub so_far : ℕ → List (Bor Expr) → Option Val × List Code
so_far p ns = fold (λ a (n : Bor Expr). add_own p a (expression_of n.now)) no_left ns

-- one node more
pub one_node : (ns : List (Bor Expr)) (i : ℕ) (n : Bor Expr) (begun old new : List Code) (k o : Option Val) → i < length ns → n ≡ get_or ns i n
    → IsRunnable (expression_of n.now)
    → k ≡ (so_far (length begun) (take i ns)).0 → old ≡ begun ++ (so_far (length begun) (take i ns)).1
    → o ≡ own_constant k (expression_of n.now) → new ≡ old ++ unless o (own_code k (expression_of n.now)) (length old)
    → (o ≡ (so_far (length begun) (take (i + 1) ns)).0) × (new ≡ begun ++ (so_far (length begun) (take (i + 1) ns)).1)
one_node ns i n begun old new k o within read runnable known_is old_is own_is new_is =
    let p = length begun in
    let t = expression_of n.now in
    let s = so_far p (take i ns) in
    let f = λ (a : Option Val × List Code) (m : Bor Expr). add_own p a (expression_of m.now) in
    let more : so_far p (take (i + 1) ns) ≡ with_own p s t =
    ap (λ (l : List (Bor Expr)). fold f no_left l) (take_more ns i n within) ∙ fold_push f no_left (take i ns) (get_or ns i n) ∙
    ap (λ (m : Bor Expr). f s m) (sym read) ∙ own_runnable p s t runnable in
    let o_is : o ≡ own_constant s.0 t = own_is ∙ ap (λ (x : Option Val). own_constant x t) known_is in (
      o_is ∙ sym (ap (λ (a : Option Val × List Code). a.0) more),
      added begun s.1 old new (unless o (own_code k t)) old_is new_is ∙
          ap (λ (x : Option Val). begun ++ (s.1 ++ unless x (own_code k t) (p + length s.1))) o_is ∙
          ap (λ (x : Option Val). begun ++ (s.1 ++ unless (own_constant s.0 t) (own_code x t) (p + length s.1))) known_is ∙
          ap (λ (a : Option Val × List Code). begun ++ a.1) (sym more),
    )

pub nothing_there : (x : Option (Bor Expr)) (e : Expression) → x ≡ None → option_map (λ (part : Bor Expr). expression_of part.now) x ≡ coded_left e
    → coded_left e ≡ None
nothing_there None e n h = sym h
nothing_there (Some part) e n h = cc

-- a tree without a left part
pub alone : (e : Expression) (old new : List Code) (o : Option Val) → IsRunnable e → coded_left e ≡ None
    → o ≡ own_constant None e → new ≡ old ++ unless o (own_code None e) (length old)
    → (o ≡ constant_of e) × (new ≡ old ++ unless o (expression_code e) (length old))
alone e old new o runnable none own_is new_is =
    let p = length old in
    let same : known p e ≡ with_own p no_left e =
    own_step p e ∙ ap (λ (l : Option Expression). add_own p (before (known p) no_left l) e) none ∙ own_runnable p no_left e runnable in
    let o_is : o ≡ constant_of e = own_is ∙ sym (ap (λ (a : Option Val × List Code). a.0) same) in (
      o_is,
      new_is ∙ ap (λ (x : Option Val). old ++ unless x (own_code None e) p) own_is ∙
          ap (λ (q : ℕ). old ++ unless (own_constant None e) (own_code None e) q) (sym (add-zero p)) ∙
          ap (λ (a : Option Val × List Code). old ++ a.1) (sym same) ∙
          ap (λ (x : Option Val). old ++ unless x (expression_code e) p) (sym o_is),
    )

pub alone_put : {X E : Type 0} (e : Expression) (k o : Option Val) (old new : Instructions) (x : Result X E) → IsRunnable e → coded_left e ≡ None
    → k ≡ None → OnOk x (o ≡ own_constant k e) → OnOk x (Puts (unless o (own_code k e)) old new)
    → OnOk x ((o ≡ constant_of e) × Puts (unless o (expression_code e)) old new)
alone_put e k o old new (Ok _) runnable none known_is own_is put =
    let both = alone e (code_in old) (code_in new) o runnable none (own_is ∙ ap (λ (x : Option Val). own_constant x e) known_is)
    (put.code ∙ ap (λ (x : Option Val). code_in old ++ unless o (own_code x e) (length (code_in old))) known_is) in
    (both.0, record { code = both.1; same = put.same })
alone_put e k o old new (Err f) runnable none known_is own_is put = tt

-- a tree behind its left part
behind_part : (e l : Expression) (begun mid new : List Code) (k o : Option Val) → IsRunnable e → coded_left e ≡ Some l
    → k ≡ constant_of l → mid ≡ begun ++ unless k (expression_code l) (length begun)
    → o ≡ own_constant k e → new ≡ mid ++ unless o (own_code k e) (length mid)
    → (o ≡ constant_of e) × (new ≡ begun ++ unless o (expression_code e) (length begun))
behind_part e l begun mid new k o runnable part known_is mid_is own_is new_is =
    let p = length begun in
    let s : Option Val × List Code = known p l in
    let same : known p e ≡ with_own p s e =
    own_step p e ∙ ap (λ (x : Option Expression). add_own p (before (known p) no_left x) e) part ∙ own_runnable p s e runnable in
    let code_is : mid ≡ begun ++ s.1 = mid_is ∙ ap (λ (x : Option Val). begun ++ unless x (expression_code l) p) known_is in
    let own : o ≡ own_constant s.0 e = own_is ∙ ap (λ (x : Option Val). own_constant x e) known_is in
    let o_is : o ≡ constant_of e = own ∙ sym (ap (λ (a : Option Val × List Code). a.0) same) in (
      o_is,
      added begun s.1 mid new (unless o (own_code k e)) code_is new_is ∙
          ap (λ (x : Option Val). begun ++ (s.1 ++ unless x (own_code k e) (p + length s.1))) own ∙
          ap (λ (x : Option Val). begun ++ (s.1 ++ unless (own_constant s.0 e) (own_code x e) (p + length s.1))) known_is ∙
          ap (λ (a : Option Val × List Code). begun ++ a.1) (sym same) ∙
          ap (λ (x : Option Val). begun ++ unless x (expression_code e) p) (sym o_is),
    )

pub part_put : {X E : Type 0} (e l : Expression) (k o : Option Val) (begun mid new : Instructions) (x : Result X E) → IsRunnable e
    → Some l ≡ coded_left e → k ≡ constant_of l → Puts (unless k (expression_code l)) begun mid → OnOk x (o ≡ own_constant k e)
    → OnOk x (Puts (unless o (own_code k e)) mid new)
    → OnOk x ((o ≡ constant_of e) × Puts (unless o (expression_code e)) begun new)
part_put e l k o begun mid new (Ok _) runnable part known_is left own_is put =
    let both = behind_part e l (code_in begun) (code_in mid) (code_in new) k o runnable (sym part) known_is left.code own_is put.code in
    (both.0, record { code = both.1; same = same_then left.same put.same })
part_put e l k o begun mid new (Err f) runnable part known_is left own_is put = tt
