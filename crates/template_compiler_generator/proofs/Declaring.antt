-- The code of macros: it leaves one value, and its body, which it leaps over, is entered with the values that are passed and leaves
-- none.
use Rattle.std.proofs.Common.{◌≡◌, ℕ, suc, ◌+◌, ◌≤◌, Bool, true, false, cond, List, [], ◌∷◌, ◌++◌, length, replicate, None, Some, slice_get, refl, sym, ap, subst, ◌∙◌, append-nil, length-append, arith}
use Rattle.std.specs.Prelude.{option_map, is_some}
use Rattle.std.proofs.lemmas.Bool.{and_from}
use Rattle.template_values_model.specs.Val.{Val, list, vals_of, items_of}
use Rattle.template_values_core.specs.Answers.{text_in}
use Rattle.template_compiler_tree.specs.Tree.{Expression, Optional, Expressions, variable, absent, given as is_given, no_expressions, expressions_more}
use Rattle.template_compiler_names.specs.Names.{reversed}
use Rattle.template_compiler_walk.specs.Expressions.{Passing, alone, spreads}
use Rattle.template_compiler_walk.specs.Statements.{number_of, name_text, name_texts, first_of, rest_of}
use Rattle.template_compiler_walk.specs.Runnable.{IsRunnableIfGiven, AreRunnable, IsTarget, AreTargets}
use Rattle.template_compiler_code.specs.Code.{Code, load_const, jump, jump_if_false, dup_top, discard_top, is_undefined, enclose, get_closure, build_macro, return}
use Rattle.template_compiler_code_shapes.specs.Shapes.{Shape, single_form, closure_form, body_of, closure_taken, given, topped}
use Rattle.template_compiler_code_shapes.specs.Effects.{Effect, ending, code_before, are_texts, texts_loaded, making, effect_of}
use Rattle.template_compiler_codegen.specs.Core.{Core, no_ways, flat}
use Rattle.template_compiler_codegen.specs.Expressions.{Coded, then_code, one, skipped, expression_code}
use Rattle.template_compiler_codegen.specs.Statements.{target_code, parameter_core, parameters_core, enclosed_core, made_of_core, macro_flags}
use Rattle.template_compiler_codegen.proofs.Standing.{StandsAt, behind_one, instruction_at, behind_then, stands_first, stands_second}
use Rattle.template_compiler_codegen.proofs.Expressions.{behind_single, behind_skipped}
use Rattle.template_compiler_generator.proofs.Segments.{Free, Lands, Goes, goes_to, goes_on, goes_then, goes_dead, goes_with, goes_past, goes_making, gate, lands_at}
use Rattle.template_compiler_generator.proofs.Plain.{IsPlain, given_plain, traded_plain, lowered_plain, may_lead_to, jumps_forward}
use Rattle.template_compiler_generator.proofs.Moving.{Moves, EachNamed, stands_within, goes_single, goes_both, moves_one, moves_nothing, tests_on, moves_then, under_more, expression_moves, target_moves}

some_is : {A : Type 0} (x y : A) → Some x ≡ Some y → x ≡ y
some_is x y e = cc

-- the last argument that is passed by its name leaves a value too
pub named_last : (named : List (Passing (List ℕ × Core) Core)) (name : List ℕ) (c : Core) → EachNamed named → Moves (flat no_ways c) 0 1
    → EachNamed (named ++ alone (name, c) ∷ [])
named_last [] name c each x = (x, tt)
named_last (alone d ∷ named) name c each x = (each.0, named_last named name c each.1 x)
named_last (spreads d ∷ named) name c each x = (each.0, named_last named name c each.1 x)

-- a piece that is passed over where the value on top is false, over so many values
tested_moves : (f : Coded) (m : ℕ) → Moves f m m → Moves (skipped jump_if_false f) (suc m) m
tested_moves f m x code place s plain h =
    let t = given m s in
    let behind = suc place + length (f (suc place)) in
    let same : behind ≡ place + length (skipped jump_if_false f place) = behind_skipped jump_if_false f place in
    let within : behind ≤ length code = (let all = stands_within code place (skipped jump_if_false f place) h in omega arith) in
    let e : Effect = record { falls = Some t; jumps = Some (behind, t); enters = None } in
    let at = instruction_at code place (jump_if_false behind) (f (suc place)) h in
    goes_to code place behind (place + length (skipped jump_if_false f place)) (given (suc m) s) (Some t) Free same
    (goes_then code place (suc place) behind (given (suc m) s) t (Some t) (Some t) (Lands e) Free Free
    (goes_on code place (jump_if_false behind) (given (suc m) s) e at (tests_on code place behind t (given_plain code m s plain) at (omega arith) within) refl)
    (x code (suc place) s plain (behind_one code place (jump_if_false behind) (f (suc place)) h))
    (λ u g. some_is t u g) (λ table stands flows needs. (lands_at (Some t) behind t table (flows t refl), tt)))

-- parameters take the values that are passed
parameter_moves : (target : Expression) (default : Optional) → IsTarget target → IsRunnableIfGiven default → Moves (flat no_ways (parameter_core target default)) 1 0
parameter_moves target absent t r = target_moves target t
parameter_moves target (is_given e) t r =
    let inner = then_code (one discard_top) (expression_code e) in
    let leap = skipped jump_if_false inner in
    let stored = target_code target in
    moves_then (one dup_top) (then_code (one is_undefined) (then_code leap stored)) 1 2 0 (moves_one dup_top 1 2 (λ code place s plain. traded_plain 1 2 s plain.0))
    (moves_then (one is_undefined) (then_code leap stored) 2 2 0
    (over_more_one (one is_undefined) (moves_one is_undefined 1 1 (λ code place s plain. traded_plain 1 1 s plain.0)))
    (moves_then leap stored 2 1 0
    (tested_moves inner 1 (moves_then (one discard_top) (expression_code e) 1 0 1 (moves_one discard_top 1 0 (λ code place s plain. traded_plain 1 0 s plain.0)) (expression_moves e r)))
    (target_moves target t)))
  where
    over_more_one : (f : Coded) → Moves f 1 1 → Moves f 2 2
    over_more_one f x code place s plain h = x code place (given 1 s) (given_plain code 1 s plain) h

first_runs : (defaults : Expressions) → AreRunnable defaults → IsRunnableIfGiven (first_of defaults)
first_runs no_expressions r = tt
first_runs (expressions_more e es) r = r.0

rest_run : (defaults : Expressions) → AreRunnable defaults → AreRunnable (rest_of defaults)
rest_run no_expressions r = tt
rest_run (expressions_more e es) r = r.1

parameters_move : (targets defaults : Expressions) → AreTargets targets → AreRunnable defaults → Moves (flat no_ways (parameters_core targets defaults)) (number_of targets) 0
parameters_move no_expressions defaults t r = moves_nothing 0
parameters_move (expressions_more e es) defaults t r =
    let first = flat no_ways (parameter_core e (first_of defaults)) in
    let later = flat no_ways (parameters_core es (rest_of defaults)) in
    moves_then first later (suc (number_of es)) (number_of es) 0
    (under_more first (number_of es) (parameter_moves e (first_of defaults) t.0 (first_runs defaults r)))
    (parameters_move es (rest_of defaults) t.1 (rest_run defaults r))

-- the last one first
targets_turned : (es behind : Expressions) → AreTargets es → AreTargets behind → AreTargets (reversed es behind)
targets_turned no_expressions behind t u = u
targets_turned (expressions_more e es) behind t u = targets_turned es (expressions_more e behind) t.1 (t.0, u)

runnable_turned : (es behind : Expressions) → AreRunnable es → AreRunnable behind → AreRunnable (reversed es behind)
runnable_turned no_expressions behind t u = u
runnable_turned (expressions_more e es) behind t u = runnable_turned es (expressions_more e behind) t.1 (t.0, u)

as_many : (es behind : Expressions) → number_of (reversed es behind) ≡ length (name_texts es) + number_of behind
as_many no_expressions behind = omega arith
as_many (expressions_more e es) behind = as_many es (expressions_more e behind) ∙ omega arith

-- the names of parameters are texts
name_is_text : (e : Expression) → is_some (text_in (name_text e)) ≡ true
name_is_text (variable name) = refl
name_is_text _ = refl

all_texts : (es : Expressions) → are_texts (name_texts es) ≡ true
all_texts no_expressions = refl
all_texts (expressions_more e es) = and_from _ _ (name_is_text e) (all_texts es)

items_back : (vs : List Val) → items_of (vals_of vs) ≡ vs
items_back [] = refl
items_back (v ∷ vs) = ap (λ (l : List Val). v ∷ l) (items_back vs)

texts_counted : (es : Expressions) → texts_loaded (Some (load_const (list (vals_of (name_texts es))))) ≡ Some (length (name_texts es))
texts_counted es =
    ap (λ (vs : List Val). cond (are_texts vs) (Some (length vs)) None) (items_back (name_texts es)) ∙
    ap (λ (b : Bool). cond b (Some (length (name_texts es))) None) (all_texts es)

-- names are enclosed
encloses_move : (names : List (List ℕ)) → Moves (flat no_ways (enclosed_core names)) 0 0
encloses_move [] = moves_nothing 0
encloses_move (name ∷ names) =
    moves_then (one (enclose name)) (flat no_ways (enclosed_core names)) 0 0 0 (moves_one (enclose name) 0 0 (λ code place s plain. refl)) (encloses_move names)

-- what a macro is made of lies on top
made_of : (arguments : Expressions) (names : List (List ℕ)) (code : List Code) (place : ℕ) (s : Shape) → IsPlain code s
    → StandsAt code place (flat no_ways (made_of_core arguments names) place)
    → Goes code place (place + length (flat no_ways (made_of_core arguments names) place)) s (Some (given 1 (topped closure_form s))) Free
made_of arguments names code place s plain h =
    let load = load_const (list (vals_of (name_texts arguments))) in
    let encloses = flat no_ways (enclosed_core names) in
    let last = then_code (one get_closure) (one load) in
    let t = topped closure_form s in
    let mid = place + length (encloses place) in
    let load_at = mid + length (one get_closure mid) in
    let stands_last = stands_second code place encloses last h in
    goes_both code place encloses last s s (given 1 t) (encloses_move names code place s plain (stands_first code place encloses last h))
    (goes_both code mid (one get_closure) (one load) s t (given 1 t)
    (goes_single code mid get_closure s t Free (stands_first code mid (one get_closure) (one load) stands_last) refl)
    (goes_single code load_at load t (given 1 t) Free (stands_second code mid (one get_closure) (one load) stands_last) refl))

-- a macro is made of a closure and of the list of names that the instruction before loads
makes : (name : List ℕ) (offset flags before place n : ℕ) (code : List Code) (s : Shape) (v : Val) → IsPlain code s → place ≡ suc before → slice_get code before ≡ Some (load_const v)
    → texts_loaded (Some (load_const v)) ≡ Some n → slice_get code place ≡ Some (build_macro name offset flags) → offset ≤ length code
    → effect_of code place (build_macro name offset flags) (given 1 (topped closure_form s)) ≡ Some (record { falls = Some (given 1 s); jumps = None; enters = Some (offset, body_of n) })
makes name offset flags before place n code s v plain next loads counted at within =
    let t = given 1 (topped closure_form s) in
    let made : Shape → Effect = λ below. record { falls = Some (given 1 below); jumps = None; enters = Some (offset, body_of n) } in
    ap (λ k. making code offset (texts_loaded (code_before code k)) t) next ∙ ap (λ o. making code offset (texts_loaded o) t) loads ∙
    ap (λ o. making code offset o t) counted ∙
    ap (λ b. cond b (option_map made (closure_taken t t.operands)) None) (may_lead_to code offset (plain.1 place (build_macro name offset flags) offset at refl) within) ∙
    ap (option_map made) (lowered_plain s t.operands plain.0)

-- a macro's body, of which it is known how it goes
abbrev pub BodyGoes : Coded → Type 0
BodyGoes body = (code : List Code) (place : ℕ) (s : Shape) → IsPlain code s → StandsAt code place (body place)
    → (falls : Bool) × Goes code place (place + length (body place)) s (gate falls s) Free

-- where a body begins nothing is open
body_plain : (code : List Code) (s : Shape) → IsPlain code s → IsPlain code (body_of 0)
body_plain code s plain = ((omega arith, omega arith, omega arith), plain.1)

-- from its first place on, over the values that are passed
bodied : (targets defaults : Expressions) (body : Coded) → AreTargets targets → AreRunnable defaults → BodyGoes body → (code : List Code) (place : ℕ) → IsPlain code (body_of 0)
    → StandsAt code place (then_code (then_code (flat no_ways (parameters_core targets defaults)) body) (one return) place)
    → Goes code place (place + length (then_code (then_code (flat no_ways (parameters_core targets defaults)) body) (one return) place)) (body_of (number_of targets)) None Free
bodied targets defaults body t r x code place plain h =
    let n = number_of targets in
    let parameters = flat no_ways (parameters_core targets defaults) in
    let inner = then_code parameters body in
    let s = body_of 0 in
    let body_at = place + length (parameters place) in
    let return_at = place + length (inner place) in
    let last = return_at + length (one return return_at) in
    let whole = place + length (then_code inner (one return) place) in
    let same : whole ≡ last = behind_then inner (one return) place in
    let same_inner : return_at ≡ body_at + length (body body_at) = behind_then parameters body place in
    let stands_inner = stands_first code place inner (one return) h in
    let passed : given n s ≡ body_of n = ap (λ l. record (body_of n) { operands = l }) (append-nil (replicate n single_form)) in
    let stored : Goes code place body_at (given n s) (Some s) Free = parameters_move targets defaults t r code place s plain (stands_first code place parameters body stands_inner) in
    let ran = x code body_at s plain (stands_second code place parameters body stands_inner) in
    let gone : Goes code place return_at (given n s) (gate ran.0 s) Free =
    goes_to code place (body_at + length (body body_at)) return_at (given n s) (gate ran.0 s) Free (sym same_inner)
    (goes_then code place body_at (body_at + length (body body_at)) (given n s) s (Some s) (gate ran.0 s) Free Free Free stored ran.1 (λ u e. some_is s u e) (λ table stands flows needs. (tt, tt))) in
    let returned : Goes code return_at last s None Free =
    goes_to code return_at (suc return_at) last s None Free (behind_single return_at return)
    (goes_with code return_at (suc return_at) s None None (Lands ending) Free
    (goes_on code return_at return s ending (instruction_at code return_at return [] (stands_second code place inner (one return) h)) refl refl)
    (λ table flows. flows) (λ table stands flows needs to u e. absurd cc)) in
    let P : Shape → Type 0 = λ u. Goes code place whole u None Free in
    subst P passed (goes_to code place last whole (given n s) None Free (sym same) (ended ran.0 gone returned))
  where
    ended : {code : List Code} {from mid to : ℕ} {s u : Shape} (falls : Bool) → Goes code from mid s (gate falls u) Free → Goes code mid to u None Free → Goes code from to s None Free
    ended {code} {from} {mid} {to} {s} {u} true g k = goes_then code from mid to s u (Some u) None Free Free Free g k (λ v e. some_is u v e) (λ table stands flows needs. (tt, tt))
    ended {code} {from} {mid} {to} {s} {u} false g k = goes_dead code from mid to s Free k.ordered g

-- a macro is made, and leaves its value
pub declared_moves : (name : List ℕ) (arguments defaults : Expressions) (names : List (List ℕ)) (caller : Bool) (body : Coded) → AreTargets arguments → AreRunnable defaults → BodyGoes body
    → Moves (λ place. then_code
    (skipped jump (then_code (then_code (flat no_ways (parameters_core (reversed arguments no_expressions) (reversed defaults no_expressions))) body) (one return)))
    (then_code (flat no_ways (made_of_core arguments names)) (one (build_macro name (suc place) (macro_flags caller)))) place) 0 1
declared_moves name arguments defaults names caller body t r x code place s plain h =
    let turned = reversed arguments no_expressions in
    let inside = then_code (then_code (flat no_ways (parameters_core turned (reversed defaults no_expressions))) body) (one return) in
    let made = flat no_ways (made_of_core arguments names) in
    let make = build_macro name (suc place) (macro_flags caller) in
    let leap = skipped jump inside in
    let rest = then_code made (one make) in
    let v = list (vals_of (name_texts arguments)) in
    let n = length (name_texts arguments) in
    let past = suc place + length (inside (suc place)) in
    let same_past : past ≡ place + length (leap place) = behind_skipped jump inside place in
    let make_at = past + length (made past) in
    let behind = past + length (rest past) in
    let whole = place + length (then_code leap rest place) in
    let all = stands_within code place (then_code leap rest place) h in
    let same_whole : whole ≡ place + length (leap place) + length (rest (place + length (leap place))) = behind_then leap rest place in
    let same : behind ≡ whole = ap (λ (k : ℕ). k + length (rest k)) same_past ∙ sym same_whole in
    let stands_leap = stands_first code place leap rest h in
    let stands_rest : StandsAt code past (rest past) = (let P : ℕ → Type 0 = λ k. StandsAt code k (rest k) in subst P (sym same_past) (stands_second code place leap rest h)) in
    let stands_made = stands_first code past made (one make) stands_rest in
    let stands_make = stands_second code past made (one make) stands_rest in
    let e : Effect = record { falls = None; jumps = Some (past, s); enters = None } in
    let leap_at = instruction_at code place (jump past) (inside (suc place)) stands_leap in
    let within : past ≤ length code = omega (arith, length-append (leap place) (rest (place + length (leap place)))) in
    let ns : number_of turned ≡ n = as_many arguments no_expressions ∙ omega arith in
    let leapt : Goes code place (suc place) s None (Lands e) = goes_on code place (jump past) s e leap_at (jumps_forward code place None past s plain.1 (jump past) leap_at refl (omega arith) within) refl in
    let ran : Goes code (suc place) past (body_of n) None Free = (let P : ℕ → Type 0 = λ k. Goes code (suc place) past (body_of k) None Free in
    subst P ns (bodied turned (reversed defaults no_expressions) body (targets_turned arguments no_expressions t tt) (runnable_turned defaults no_expressions r tt) x code (suc place) (body_plain code s plain)
    (behind_one code place (jump past) (inside (suc place)) stands_leap))) in
    let makes_it : Goes code make_at (suc make_at) (given 1 (topped closure_form s)) (Some (given 1 s)) (λ table. table (suc place) ≡ Some (body_of n)) =
    goes_making code make_at make (given 1 (topped closure_form s)) (given 1 s) (suc place) (body_of n) (instruction_at code make_at make [] stands_make)
    (makes name (suc place) (macro_flags caller) (loaded_at past) make_at n code s v plain (next past) (loads past stands_made) (texts_counted arguments) (instruction_at code make_at make [] stands_make) (omega arith)) in
    let rested : Goes code past behind s (Some (given 1 s)) (λ table. table (suc place) ≡ Some (body_of n)) =
    goes_to code past (suc make_at) behind s (Some (given 1 s)) (λ table. table (suc place) ≡ Some (body_of n)) (behind_single make_at make ∙ sym (behind_then made (one make) past))
    (goes_then code past make_at (suc make_at) s (given 1 (topped closure_form s)) (Some (given 1 (topped closure_form s))) (Some (given 1 s)) Free
    (λ table. table (suc place) ≡ Some (body_of n)) (λ table. table (suc place) ≡ Some (body_of n)) (made_of arguments names code past s plain stands_made) makes_it
    (λ u g. some_is (given 1 (topped closure_form s)) u g) (λ table stands flows needs. (tt, needs))) in
    goes_to code place behind whole s (Some (given 1 s)) Free same
    (goes_past code place (suc place) past behind s (body_of n) s (Some (given 1 s)) (Lands e) Free (λ table. table (suc place) ≡ Some (body_of n)) Free leapt ran rested
    (λ table entered stands flows needs. (lands_at None past s table stands, tt, entered)))
  where
    encloses : Coded
    encloses = flat no_ways (enclosed_core names)

    -- where the list of names is loaded
    loaded_at : ℕ → ℕ
    loaded_at from = suc (from + length (encloses from))

    next : (from : ℕ) → from + length (flat no_ways (made_of_core arguments names) from) ≡ suc (loaded_at from)
    next from = omega (arith, length-append (encloses from) (get_closure ∷ load_const (list (vals_of (name_texts arguments))) ∷ []))

    loads : (from : ℕ) → StandsAt code from (flat no_ways (made_of_core arguments names) from) → slice_get code (loaded_at from) ≡ Some (load_const (list (vals_of (name_texts arguments))))
    loads from stands =
        let load = load_const (list (vals_of (name_texts arguments))) in
        let mid = from + length (encloses from) in
        let last = stands_second code from encloses (then_code (one get_closure) (one load)) stands in
        instruction_at code (suc mid) load [] (behind_one code mid get_closure (load ∷ []) last)
