-- Macros: their parameters, and what makes them.
use Rattle.std.proofs.Common.{◌≡◌, ℕ, zero, suc, ◌+◌, ◌-◌, ◌<◌, ◌≤◌, Bor, List, [], ◌∷◌, ◌++◌, length, take, get_or, refl, sym, ap, subst, ◌∙◌, append-nil, length-append, arith}
use Rattle.std.proofs.Math.ListN.{set}
use Rattle.std.proofs.lemmas.List.{take_more}
use Rattle.template_values_model.specs.Val.{text}
use Rattle.template_compiler_tree.specs.CallView.{called}
use Rattle.template_compiler_tree.specs.Kinds.{calls_block}
use Rattle.template_compiler_tree.specs.Tree.{Expression, Expressions, Optional, absent, given, no_expressions, expressions_more}
use Rattle.template_compiler_tree.specs.View.{expression_of, expressions_in}
use Rattle.template_compiler_tree.specs.declared.calls.CallType.{CallType}
use Rattle.template_compiler_tree.specs.declared.calls.CallType.TheVariants.{Function, Method, Block, Object}
use Rattle.template_compiler_tree.specs.declared.expressions.Compare.{Compare' as compared}
use Rattle.template_compiler_tree.specs.declared.expressions.Expr.{Expr, Var, Compare'}
use Rattle.template_compiler_tree.specs.declared.expressions.Var.{Var as Name}
use Rattle.template_compiler_tree.specs.declared.span.Spanned.{Spanned}
use Rattle.template_compiler_tree_statements.specs.declared.statements.Macro.{Macro}
use Rattle.template_compiler_tree_parts.specs.Listed.{statements_in}
use Rattle.template_compiler_names.specs.Names.{reversed}
use Rattle.template_compiler_walk.specs.Runnable.{IsRunnable, AreRunnable, IsTarget, AreTargets}
use Rattle.template_compiler_walk.specs.Statements.{caller_name, first_of, name_text, rest_of}
use Rattle.template_compiler_code.specs.Code.{Code, dup_top, is_undefined, discard_top, jump_if_false, return, enclose}
use Rattle.template_compiler_code.specs.Listing.{code_in}
use Rattle.template_compiler_code.specs.declared.listing.Instructions.{Instructions}
use Rattle.template_compiler_codegen.specs.Core.{Core, no_ways, flat}
use Rattle.template_compiler_codegen.specs.Expressions.{one, then_code, skipped, expression_code}
use Rattle.template_compiler_codegen.specs.Statements.{parameter_core, declared_core, statements_core, statements_code, target_code}
use Rattle.template_compiler_emission.specs.declared.leaps.Leap.TheVariants.{Always}
use Rattle.template_compiler_emission.specs.Leaps.{leap_code}
use Rattle.template_compiler_emission.specs.Puts.{Keeps, Puts}
use Rattle.template_compiler_emission.proofs.Pieces.{two_pieces}
use Rattle.template_compiler_emission.proofs.Putting.{puts_nothing, puts_skipped, puts_then, same_itself, same_then}
use Rattle.template_compiler_expression_codegen.proofs.Begun.{then_nothing}
use Rattle.template_compiler_expression_codegen.proofs.Items.{then_assoc}
use Rattle.template_compiler_statement_codegen.specs.Macros.{backwards, declared_code, default_code, default_if_given, enclosed_code, made_code, parameters_code}

abbrev pub caller_of : Macro → Core
caller_of m =
    declared_core caller_name (expressions_in m.args.items) (expressions_in m.defaults.items) (statements_in m.body.items)
    (statements_core (statements_in m.body.items))

-- what calls no block
pub never_block : (t : CallType) → ((name : Bor (List ℕ)) → t ≡ Block name → ⊥) → (name : List ℕ) → called t ≡ calls_block name → ⊥
never_block (Function n) other name is = cc
never_block (Method e n) other name is = cc
never_block (Block n) other name is = other n refl
never_block (Object e) other name is = cc

-- what is no name has none
pub nameless : (e : Expr) → ((x : Spanned Name) → e ≡ Var x → ⊥) → text [] ≡ name_text (expression_of e)
nameless (Var n) other = absurd (other n refl)
nameless (Compare' p (compared expr shape ops) span) other = refl
nameless _ other = refl

-- the last one comes first
reversed_push : (es : List Expr) (e : Expr) (behind : Expressions)
    → reversed (expressions_in (es ++ e ∷ [])) behind ≡ expressions_more (expression_of e) (reversed (expressions_in es) behind)
reversed_push [] e behind = refl
reversed_push (x ∷ es) e behind = reversed_push es e (expressions_more (expression_of x) behind)

pub backwards_more : (es : List Expr) (i : ℕ) (e : Expr) → i < length es → e ≡ get_or es i e
    → backwards (take (i + 1) es) ≡ expressions_more (expression_of e) (backwards (take i es))
backwards_more es i e within read =
    ap (λ (l : List Expr). backwards l) (take_more es i e within) ∙
    ap (λ (x : Expr). backwards (take i es ++ x ∷ [])) (sym read) ∙ reversed_push (take i es) e no_expressions

pub target_at : (es : List Expr) (i : ℕ) (e : Expr) → AreTargets (expressions_in es) → i < length es → e ≡ get_or es i e → IsTarget (expression_of e)
target_at [] i e h within read = absurd (omega (arith, within))
target_at (x ∷ es) zero e h within read = subst (λ (y : Expr). IsTarget (expression_of y)) (sym read) h.0
target_at (x ∷ es) (suc i) e h within read = target_at es i e h.1 (omega (arith, within)) read

pub runnable_at : (es : List Expr) (i : ℕ) (e : Expr) → AreRunnable (expressions_in es) → i < length es → e ≡ get_or es i e → IsRunnable (expression_of e)
runnable_at [] i e h within read = absurd (omega (arith, within))
runnable_at (x ∷ es) zero e h within read = subst (λ (y : Expr). IsRunnable (expression_of y)) (sym read) h.0
runnable_at (x ∷ es) (suc i) e h within read = runnable_at es i e h.1 (omega (arith, within)) read

-- the first of the first defaults, from the last on
pub no_default : (ds : List Expr) (g : ℕ) (a : Instructions) → g ≡ 0 → Puts (default_if_given (first_of (backwards (take g ds)))) a a
no_default ds g a none = subst (λ (k : ℕ). Puts (default_if_given (first_of (backwards (take k ds)))) a a) (sym none) (puts_nothing a)

pub one_default : (ds : List Expr) (g i : ℕ) (d : Expr) {a b : Instructions} → g ≡ i + 1 → i < length ds → d ≡ get_or ds i d
    → Puts (default_code (expression_of d)) a b → Puts (default_if_given (first_of (backwards (take g ds)))) a b
one_default ds g i d {a} {b} last within read put =
    subst (λ (k : ℕ). Puts (default_if_given (first_of (backwards (take k ds)))) a b) (sym last)
    (subst (λ (es : Expressions). Puts (default_if_given (first_of es)) a b) (sym (backwards_more ds i d within read)) put)

-- and what is left of them
pub fewer_defaults : (ds : List Expr) (g fewer : ℕ) → g ≤ length ds → fewer ≡ g - 1 → rest_of (backwards (take g ds)) ≡ backwards (take fewer ds)
fewer_defaults ds zero fewer within is = let none : fewer ≡ 0 = omega (arith, is) in ap (λ (k : ℕ). backwards (take k ds)) (sym none)
fewer_defaults ds (suc i) fewer within is =
    let same : i ≡ fewer = omega (arith, is) in
    let more : suc i ≡ i + 1 = omega arith in
    let d = get_or ds i (dummy ds within) in
    ap (λ (k : ℕ). rest_of (backwards (take k ds))) more ∙
    ap rest_of (backwards_more ds i d (omega (arith, within)) (again ds i (dummy ds within) (omega (arith, within)))) ∙ ap (λ (k : ℕ). backwards (take k ds)) same
  where
    dummy : (es : List Expr) → suc i ≤ length es → Expr
    dummy [] less = absurd (omega (arith, less))
    dummy (e ∷ es) less = e

    again : (es : List Expr) (k : ℕ) (e : Expr) → k < length es → get_or es k e ≡ get_or es k (get_or es k e)
    again [] k e less = absurd (omega (arith, less))
    again (x ∷ es) zero e less = refl
    again (x ∷ es) (suc k) e less = again es k e (omega (arith, less))

-- a parameter, with its default or without one
parameter_parts : (o : Optional) (target : Expression) (q : ℕ) → then_code (default_if_given o) (target_code target) q ≡ flat no_ways (parameter_core target o) q
parameter_parts absent target q = then_nothing (target_code target) q
parameter_parts (given e) target q =
    let dup = one dup_top in
    let test = one is_undefined in
    let leap = skipped jump_if_false (then_code (one discard_top) (expression_code e)) in
    let store = target_code target in
    sym (then_assoc dup (then_code test leap) store q) ∙
    ap (λ (l : List Code). dup q ++ l) (sym (then_assoc test leap store (q + length (dup q))))

-- what is left of the parameters ends as all of them do
pub record Stores (targets defaults left kept : Expressions) (old now : Instructions) : Type 0 where
  pub code : code_in now ++ parameters_code left kept (length (code_in now)) ≡ code_in old ++ parameters_code targets defaults (length (code_in old))
  pub same : Keeps old now

pub stores_all : (targets defaults : Expressions) (a : Instructions) → Stores targets defaults targets defaults a a
stores_all targets defaults a = record { code = refl; same = same_itself a }

pub stores_next : {targets defaults left kept rest fewer : Expressions} (target : Expression) {a b c d : Instructions}
    → left ≡ expressions_more target rest → rest_of kept ≡ fewer → Stores targets defaults left kept a b
    → Puts (default_if_given (first_of kept)) b c → Puts (target_code target) c d → Stores targets defaults rest fewer a d
stores_next {targets} {defaults} {left} {kept} {rest} {fewer} target {a} {b} {c} {d} is less before default put =
    let both = puts_then default put in
    let n = length (code_in b) in
    let first = flat no_ways (parameter_core target (first_of kept)) in
    let here : code_in d ≡ code_in b ++ first n =
    both.code ∙ ap (λ (l : List Code). code_in b ++ l) (parameter_parts (first_of kept) target n) in
    record {
      code = ap (λ (es : Expressions). code_in d ++ parameters_code rest es (length (code_in d))) (sym less) ∙
          two_pieces first (parameters_code rest (rest_of kept)) (code_in b) (code_in d)
          (code_in d ++ parameters_code rest (rest_of kept) (length (code_in d))) here refl ∙
          ap (λ (es : Expressions). code_in b ++ parameters_code es kept n) (sym is) ∙ before.code;
      same = same_then before.same both.same;
    }

pub stores_end : {targets defaults left kept : Expressions} {a b : Instructions} → left ≡ no_expressions → Stores targets defaults left kept a b
    → Puts (parameters_code targets defaults) a b
stores_end {targets} {defaults} {left} {kept} {a} {b} none stores = record {
  code = sym (append-nil (code_in b)) ∙ ap (λ (es : Expressions). code_in b ++ parameters_code es kept (length (code_in b))) (sym none) ∙ stores.code;
  same = stores.same;
}

-- names, from the first on
pub record Encloses (names left : List (List ℕ)) (old now : Instructions) : Type 0 where
  pub code : code_in now ++ enclosed_code left (length (code_in now)) ≡ code_in old ++ enclosed_code names (length (code_in old))
  pub same : Keeps old now

pub encloses_all : (names : List (List ℕ)) (a : Instructions) → Encloses names names a a
encloses_all names a = record { code = refl; same = same_itself a }

pub encloses_next : {names left rest : List (List ℕ)} (name : List ℕ) {a b c : Instructions} → left ≡ name ∷ rest → Encloses names left a b
    → Puts (one (enclose name)) b c → Encloses names rest a c
encloses_next {names} {left} {rest} name {a} {b} {c} is before put =
    let n = length (code_in b) in
    record {
      code = two_pieces (one (enclose name)) (enclosed_code rest) (code_in b) (code_in c) (code_in c ++ enclosed_code rest (length (code_in c))) put.code refl ∙
          ap (λ (l : List (List ℕ)). code_in b ++ enclosed_code l n) (sym is) ∙ before.code;
      same = same_then before.same put.same;
    }

pub encloses_end : {names left : List (List ℕ)} {a b : Instructions} → left ≡ [] → Encloses names left a b → Puts (enclosed_code names) a b
encloses_end {names} {left} {a} {b} none encloses = record {
  code = sym (append-nil (code_in b)) ∙ ap (λ (l : List (List ℕ)). code_in b ++ enclosed_code l (length (code_in b))) (sym none) ∙ encloses.code;
  same = encloses.same;
}

-- a macro: a jump over its body, which ends by itself, and what makes it
pub puts_declared : (name : List ℕ) (m : Macro) (begins : ℕ) {a b c d e f g : Instructions} → begins ≡ length (code_in b)
    → Puts (one (leap_code Always 0)) a b → Puts (parameters_code (backwards m.args.items) (backwards m.defaults.items)) b c
    → Puts (statements_code no_ways (statements_in m.body.items)) c d → Puts (one return) d e
    → code_in f ≡ set (code_in e) (length (code_in a)) (leap_code Always (length (code_in e))) → Keeps e f → Puts (made_code name begins m) f g
    → Puts (declared_code name m) a g
puts_declared name m begins {a} {b} {c} {d} {e} {f} {g} at first stored body ended landed same made =
    let next : begins ≡ suc (length (code_in a)) =
    at ∙ ap length first.code ∙ length-append (code_in a) (leap_code Always 0 ∷ []) ∙ omega arith in
    let aside = puts_skipped Always first (puts_then (puts_then stored body) ended) landed same in
    let whole = puts_then aside (subst (λ (n : ℕ). Puts (made_code name n m) f g) next made) in
    record { code = whole.code; same = whole.same }
