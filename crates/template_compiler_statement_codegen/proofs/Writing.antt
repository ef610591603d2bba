-- What a print writes, and its code.
use Rattle.std.proofs.Common.{◌≡◌, ℕ, Bool, true, false, ◌&&◌, if◌then◌else◌, List, [], ◌∷◌, ◌++◌, length, get_or, refl, sym, ap, subst, ◌∙◌, append-nil, arith}
use Rattle.template_compiler_tree.specs.Tree.{Expression, Arguments, variable, attribute, call, no_arguments, arguments_more, positional, keyword, positional_spread, keyword_spread, print}
use Rattle.template_compiler_tree.specs.Kinds.{Called, calls_function, calls_method, calls_block, calls_value, is_self_name, is_empty, called_by}
use Rattle.template_compiler_tree.specs.View.{arguments_in, chain_of}
use Rattle.template_compiler_tree.specs.declared.calls.CallArg.{CallArg, Pos, Kwarg, PosSplat, KwargSplat}
use Rattle.template_compiler_walk.specs.Runnable.{IsRunnable, AreRunnableArguments}
use Rattle.template_compiler_tree.specs.declared.expressions.Compare.{Compare, Compare' as compared}
use Rattle.template_compiler_walk.specs.Expressions.{attribute_called}
use Rattle.template_compiler_walk.specs.Statements.{Printed, prints_value, prints_block, prints_super, prints_rounds, printed_by, printed_of, printed_rounds, is_super_name, is_loop_name}
use Rattle.template_compiler_code.specs.Listing.{code_in}
use Rattle.template_compiler_code.specs.declared.listing.Instructions.{Instructions}
use Rattle.template_compiler_codegen.specs.Core.{Core, no_ways, flat}
use Rattle.template_compiler_codegen.specs.Expressions.{expression_core}
use Rattle.template_compiler_codegen.specs.Statements.{Ways, printed_core, statement_code}
use Rattle.template_compiler_emission.specs.Puts.{Puts}
use Rattle.template_compiler_statement_codegen.specs.Breaks.{breaks}
use Rattle.template_compiler_statement_codegen.specs.Printing.{printed_named}
use Rattle.template_compiler_statement_codegen.specs.Rounds.{LowersStatement, ways_of}
use Rattle.template_compiler_statement_codegen.specs.declared.rounds.Round.{Round}

-- by what a call calls
abbrev pub printed_called : Called → Arguments → Printed
printed_called (calls_function name) args = printed_named name args
printed_called (calls_method e name) args = prints_value
printed_called (calls_block name) args = prints_block name
printed_called (calls_value e) args = prints_value

attribute_printed : (b : Bool) (e : Expression) (name : List ℕ) (args : Arguments)
    → printed_called (if b then calls_block name else calls_method e name) args ≡ printed_by (attribute_called b name) args
attribute_printed true e name args = refl
attribute_printed false e name args = refl

pub call_printed : (callee : Expression) (args : Arguments) → printed_called (called_by callee args) args ≡ printed_of (call callee args)
call_printed (variable name) args = refl
call_printed (attribute e name) args = attribute_printed (is_self_name e && is_empty args) e name args
call_printed _ args = refl

-- a chain of comparisons is a value
pub chain_printed : (c : Compare) → prints_value ≡ printed_of (chain_of c)
chain_printed (compared expr shape ops) = refl

-- the code of a print, by what it writes
pub puts_printed : (e : Expression) (p : Printed) {a b : Instructions} → p ≡ printed_of e → Puts (flat no_ways (printed_core p (expression_core e))) a b
    → Puts (statement_code no_ways (print e)) a b
puts_printed e p {a} {b} is put = subst (λ (q : Printed). Puts (flat no_ways (printed_core q (expression_core e))) a b) is put

-- it is the same whatever stands around it
anywhere : (p : Printed) (ways : Ways) (c : Core) → flat no_ways (printed_core p c) ≡ flat ways (printed_core p c)
anywhere prints_value ways c = refl
anywhere (prints_block name) ways c = refl
anywhere prints_super ways c = refl
anywhere (prints_rounds e) ways c = refl

no_breaks : (p : Printed) (ways : Ways) (c : Core) (place : ℕ) → breaks ways (printed_core p c) place ≡ []
no_breaks prints_value ways c place = refl
no_breaks (prints_block name) ways c place = refl
no_breaks prints_super ways c place = refl
no_breaks (prints_rounds e) ways c place = refl

pub lowers_printed : (e : Expression) (r : Round) {a b : Instructions} → Puts (statement_code no_ways (print e)) a b → LowersStatement (print e) a b r r
lowers_printed e r {a} {b} put =
    let p = printed_of e in
    let c = expression_core e in
    let w = ways_of r in
    record {
      put = record { code = put.code ∙ ap (λ f. code_in a ++ f (length (code_in a))) (anywhere p w c); same = put.same };
      breaks = sym (ap (λ (l : List ℕ). r.breaks.items ++ l) (no_breaks p w c (length (code_in a))) ∙ append-nil r.breaks.items);
      asks = refl;
      closings = refl;
    }

-- what the rounds run over is a part of what is printed
rounds_among : (args : Arguments) (x : Expression) → prints_rounds x ≡ printed_rounds args → AreRunnableArguments args → IsRunnable x
rounds_among (arguments_more (positional e) no_arguments) x is h = let same : x ≡ e = cc in rw same h.0
rounds_among no_arguments x is h = cc
rounds_among (arguments_more (positional e) (arguments_more a more)) x is h = cc
rounds_among (arguments_more (keyword name e) more) x is h = cc
rounds_among (arguments_more (positional_spread e) more) x is h = cc
rounds_among (arguments_more (keyword_spread e) more) x is h = cc

named_rounds : (is_super is_loop : Bool) (args : Arguments) (x : Expression)
    → prints_rounds x ≡ (if is_super then prints_super else if is_loop then printed_rounds args else prints_value) → AreRunnableArguments args → IsRunnable x
named_rounds true is_loop args x is h = cc
named_rounds false true args x is h = rounds_among args x is h
named_rounds false false args x is h = cc

attribute_rounds : (b : Bool) (name : List ℕ) (args : Arguments) (x : Expression) → prints_rounds x ≡ printed_by (attribute_called b name) args → IsRunnable x
attribute_rounds true name args x is = cc
attribute_rounds false name args x is = cc

pub rounds_run : (e x : Expression) → prints_rounds x ≡ printed_of e → IsRunnable e → IsRunnable x
rounds_run (call (variable name) args) x is h =
    named_rounds (is_super_name name && is_empty args) (is_loop_name name) args x is h.1
rounds_run (call (attribute e name) args) x is h = attribute_rounds (is_self_name e && is_empty args) name args x is
rounds_run (call callee args) x is h = cc
rounds_run e x is h = cc

-- one argument alone
pub one_passed : (xs : List CallArg) (a : CallArg) → length xs ≡ 1 → a ≡ get_or xs 0 a → printed_rounds (arguments_in (a ∷ [])) ≡ printed_rounds (arguments_in xs)
one_passed [] a one read = cc
one_passed (x ∷ []) a one read = ap (λ (y : CallArg). printed_rounds (arguments_in (y ∷ []))) read
one_passed (x ∷ y ∷ xs) a one read = absurd (omega (arith, one))

several_passed : (x y : CallArg) (xs : List CallArg) → prints_value ≡ printed_rounds (arguments_in (x ∷ y ∷ xs))
several_passed (Pos e) y xs = refl
several_passed (Kwarg name e) y xs = refl
several_passed (PosSplat e) y xs = refl
several_passed (KwargSplat e) y xs = refl

pub not_one_passed : (xs : List CallArg) → (length xs ≡ 1 → ⊥) → prints_value ≡ printed_rounds (arguments_in xs)
not_one_passed [] other = refl
not_one_passed (x ∷ []) other = absurd (other refl)
not_one_passed (x ∷ y ∷ xs) other = several_passed x y xs
