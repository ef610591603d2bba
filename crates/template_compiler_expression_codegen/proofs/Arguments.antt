-- The arguments of a call, a filter or a test: those that are passed by their place, and those that are passed by a name, one
-- behind the other.
use Rattle.std.proofs.Common.{◌≡◌, ℕ, ◌+◌, ◌<◌, ◌≤◌, zero, suc, Bool, true, false, ◌||◌, ◌&&◌, Result, Ok, Err, Option, None, Some, Box, Global, List, [], ◌∷◌, ◌++◌, length, get_or, drop, refl, sym, ap, subst, ◌∙◌, append-nil, arith}
use Rattle.std.specs.Prelude.{OnOk, if◌then◌else◌}
use Rattle.std.proofs.lemmas.List.{drop_more, drop_all}
use Rattle.template_values_model.specs.Val.{Val, text}
use Rattle.template_compiler_tree.specs.Kinds.{is_self_name, is_empty}
use Rattle.template_compiler_tree.specs.Tree.{Arguments, Optional, absent, given, call, filtered, no_arguments, arguments_more}
use Rattle.template_compiler_tree.specs.View.{expression_of, argument_of, arguments_in}
use Rattle.template_compiler_tree.specs.declared.calls.CallArg.{CallArg, Pos, Kwarg, PosSplat, KwargSplat}
use Rattle.template_compiler_tree.specs.declared.span.Spanned.{Spanned}
use Rattle.template_compiler_tree.specs.declared.expressions.Compare.{Compare' as compared}
use Rattle.template_compiler_tree.specs.declared.expressions.Var.{Var as VarNode}
use Rattle.template_compiler_tree.specs.declared.expressions.GetAttr.{GetAttr as GetAttrNode}
use Rattle.template_compiler_tree.specs.declared.expressions.Expr.{Expr, Var, GetAttr, GetAttr', Compare'}
use Rattle.template_compiler_walk.specs.Runnable.{IsRunnable, AreRunnableArguments}
use Rattle.template_compiler_walk.specs.Expressions.{Passing, has_spread, Callee, by_value, attribute_called, callee_of}
use Rattle.template_compiler_code.specs.Code.{Code, load_const, build_kwargs, build_list, merge_kwargs, unpack_lists, call_function, call_method, call_object, apply_filter, perform_test}
use Rattle.template_compiler_code.specs.Listing.{code_in}
use Rattle.template_compiler_code.specs.declared.listing.Instructions.{Instructions}
use Rattle.template_compiler_codegen.specs.Core.{Core, no_ways, flat}
use Rattle.template_compiler_codegen.specs.Expressions.{Coded, one, then_code, no_number, at_most_one, list_count, rest_count, merged_count, map_count, keyword_count, called_core, expression_core, object_core, expression_code, filter_code, passed_code, argument_count, positional_cores, keyword_cores}
use Rattle.template_compiler_emission.specs.Puts.{Keeps, Puts, unless, held, behind}
use Rattle.template_compiler_emission.proofs.Pieces.{two_pieces}
use Rattle.template_compiler_emission.proofs.Putting.{puts_nothing, puts_then, same_itself, same_then}
use Rattle.template_compiler_expression_codegen.specs.Own.{block_code, call_code, called_behind, test_code}
use Rattle.template_compiler_expression_codegen.specs.Passing.{listed_code, mapped_code, merged_code, run_code, stretches_code, named_code, keywords_code, PassesOne, PassesByPlace, PassesByName, PassesAll, ArePassedByPlace, ArePassedByName}
use Rattle.template_compiler_expression_codegen.specs.declared.stretches.Stretches.{Stretches}
use Rattle.template_compiler_expression_codegen.proofs.Items.{then_assoc}
use Rattle.template_compiler_expression_codegen.proofs.Putting.{puts_as, puts_behind}

-- what is so many or one more becomes one list, or one keyword map
pub puts_no_list : (n : ℕ) (a : Instructions) → n ≡ 0 → Puts (listed_code n) a a
puts_no_list n a none = subst (λ (k : ℕ). Puts (listed_code k) a a) (sym none) (puts_nothing a)

pub puts_list : (n : ℕ) {a b : Instructions} → (n ≡ 0 → ⊥) → Puts (one (build_list (Some n))) a b → Puts (listed_code n) a b
puts_list zero some put = absurd (some refl)
puts_list (suc n) some put = put

pub puts_no_map : (n : ℕ) (a : Instructions) → n ≡ 0 → Puts (mapped_code n) a a
puts_no_map n a none = subst (λ (k : ℕ). Puts (mapped_code k) a a) (sym none) (puts_nothing a)

pub puts_map : (n : ℕ) {a b : Instructions} → (n ≡ 0 → ⊥) → Puts (one (build_kwargs n)) a b → Puts (mapped_code n) a b
puts_map zero some put = absurd (some refl)
puts_map (suc n) some put = put

pub none_counted : (m n : ℕ) → n ≡ 0 → m ≡ m + at_most_one n
none_counted m n none = let P : ℕ → Type 0 = λ k. m ≡ m + at_most_one k in let same : m ≡ m + 0 = omega arith in subst P (sym none) same

pub one_is_counted : (m n : ℕ) → (n ≡ 0 → ⊥) → m + 1 ≡ m + at_most_one n
one_is_counted m zero some = absurd (some refl)
one_is_counted m (suc n) some = refl

-- what holds in any case
pub always_ok : {X E P : Type 0} (x : Result X E) → P → OnOk x P
always_ok (Ok _) p = p
always_ok (Err _) p = tt

pub puts_unmerged : (several : Bool) (n : ℕ) (a : Instructions) → several ≡ false → Puts (merged_code several n) a a
puts_unmerged several n a h = subst (λ (b : Bool). Puts (merged_code b n) a a) (sym h) (puts_nothing a)

pub puts_merged : (several : Bool) (n : ℕ) {a b : Instructions} → several ≡ true → Puts (one (merge_kwargs n)) a b → Puts (merged_code several n) a b
puts_merged several n {a} {b} h put = subst (λ (x : Bool). Puts (merged_code x n) a b) (sym h) put

pub unmerged_counted : (several : Bool) (n : ℕ) → several ≡ false → n ≡ merged_count several n
unmerged_counted several n h = ap (λ (b : Bool). merged_count b n) (sym h)

pub merged_counted : (several : Bool) (n : ℕ) → several ≡ true → 1 ≡ merged_count several n
merged_counted several n h = ap (λ (b : Bool). merged_count b n) (sym h)

-- values that stay, or become a counted run
abbrev pub run_count : Bool → ℕ → Option ℕ
run_count spread n = if spread then None else Some n

pub puts_no_run : (spread : Bool) (lists n : ℕ) (a : Instructions) → spread ≡ false → Puts (run_code spread lists n) a a
puts_no_run spread lists n a h = subst (λ (b : Bool). Puts (run_code b lists n) a a) (sym h) (puts_nothing a)

pub puts_run : (spread : Bool) (lists n all : ℕ) {a b c : Instructions} → spread ≡ true → all ≡ lists + at_most_one n → Puts (listed_code n) a b
    → Puts (one (unpack_lists all)) b c → Puts (run_code spread lists n) a c
puts_run spread lists n all {a} {b} {c} h counted first last =
    subst (λ (x : Bool). Puts (run_code x lists n) a c) (sym h) (puts_then first (puts_as (ap unpack_lists counted) last))

pub no_run_counted : (spread : Bool) (n : ℕ) → spread ≡ false → ◌≡◌ {A = Option ℕ} (Some n) (run_count spread n)
no_run_counted spread n h = ap (λ (b : Bool). run_count b n) (sym h)

pub run_counted : (spread : Bool) (n : ℕ) → spread ≡ true → ◌≡◌ {A = Option ℕ} None (run_count spread n)
run_counted spread n h = ap (λ (b : Bool). run_count b n) (sym h)

arguments_at : (xs : List CallArg) (i : ℕ) (a : CallArg) → i < length xs → a ≡ get_or xs i a
    → arguments_in (drop i xs) ≡ arguments_more (argument_of a) (arguments_in (drop (i + 1) xs))
arguments_at xs i a within read =
    ap (λ (l : List CallArg). arguments_in l) (drop_more xs i a within) ∙
    ap (λ (x : CallArg). arguments_more (argument_of x) (arguments_in (drop (i + 1) xs))) (sym read)

-- each argument is runnable
pub argument_runnable : (xs : List CallArg) (i : ℕ) (a : CallArg) → AreRunnableArguments (arguments_in xs) → i < length xs → a ≡ get_or xs i a
    → AreRunnableArguments (arguments_in (a ∷ []))
argument_runnable [] i a h within read = absurd (omega (arith, within))
argument_runnable (Pos e ∷ xs) zero a h within read = subst (λ (x : CallArg). AreRunnableArguments (arguments_in (x ∷ []))) (sym read) (h.0, tt)
argument_runnable (Kwarg name e ∷ xs) zero a h within read =
    subst (λ (x : CallArg). AreRunnableArguments (arguments_in (x ∷ []))) (sym read) (h.0, tt)
argument_runnable (PosSplat e ∷ xs) zero a h within read =
    subst (λ (x : CallArg). AreRunnableArguments (arguments_in (x ∷ []))) (sym read) (h.0, tt)
argument_runnable (KwargSplat e ∷ xs) zero a h within read =
    subst (λ (x : CallArg). AreRunnableArguments (arguments_in (x ∷ []))) (sym read) (h.0, tt)
argument_runnable (Pos e ∷ xs) (suc i) a h within read = argument_runnable xs i a h.1 (omega (arith, within)) read
argument_runnable (Kwarg name e ∷ xs) (suc i) a h within read = argument_runnable xs i a h.1 (omega (arith, within)) read
argument_runnable (PosSplat e ∷ xs) (suc i) a h within read = argument_runnable xs i a h.1 (omega (arith, within)) read
argument_runnable (KwargSplat e ∷ xs) (suc i) a h within read = argument_runnable xs i a h.1 (omega (arith, within)) read

pub value_runnable : (a : CallArg) (e : Expr) → AreRunnableArguments (arguments_in (a ∷ [])) → a ≡ Pos e → IsRunnable (expression_of e)
value_runnable a e h is =
    let h' : AreRunnableArguments (arguments_in (Pos e ∷ [])) = subst (λ (x : CallArg). AreRunnableArguments (arguments_in (x ∷ []))) is h in h'.0

pub spread_runnable : (a : CallArg) (e : Expr) → AreRunnableArguments (arguments_in (a ∷ [])) → a ≡ PosSplat e → IsRunnable (expression_of e)
spread_runnable a e h is =
    let h' : AreRunnableArguments (arguments_in (PosSplat e ∷ [])) = subst (λ (x : CallArg). AreRunnableArguments (arguments_in (x ∷ []))) is h in h'.0

pub keyword_runnable : (a : CallArg) (name : _) (e : Expr) → AreRunnableArguments (arguments_in (a ∷ [])) → a ≡ Kwarg name e → IsRunnable (expression_of e)
keyword_runnable a name e h is =
    let h' : AreRunnableArguments (arguments_in (Kwarg name e ∷ [])) = subst (λ (x : CallArg). AreRunnableArguments (arguments_in (x ∷ []))) is h in h'.0

pub keyword_spread_runnable : (a : CallArg) (e : Expr) → AreRunnableArguments (arguments_in (a ∷ [])) → a ≡ KwargSplat e → IsRunnable (expression_of e)
keyword_spread_runnable a e h is =
    let h' : AreRunnableArguments (arguments_in (KwargSplat e ∷ [])) = subst (λ (x : CallArg). AreRunnableArguments (arguments_in (x ∷ []))) is h in h'.0

-- one argument is put
or_true : (b : Bool) → true ≡ (b || true)
or_true true = refl
or_true false = refl

pub passes_value : (a : CallArg) (e : Expr) (so_far now : Stretches) {s t : Instructions} → a ≡ Pos e → now.lists ≡ so_far.lists → now.last ≡ so_far.last + 1
    → now.spread ≡ so_far.spread → Puts (expression_code (expression_of e)) s t → PassesByPlace (argument_of a) so_far now s t
passes_value a e so_far now {s} {t} is lists last spread put =
    let value = expression_code (expression_of e) in
    let n = so_far.last in
    let p = length (code_in s) in
    let longer : now.last ≡ suc n = omega (arith, last) in
    let args : Arguments → List (Passing Core Core) = λ rest. positional_cores (arguments_more (argument_of a) rest) in
    let split : (rest : Arguments) → positional_cores (arguments_more (argument_of (Pos e)) rest) ≡ args rest =
    λ rest. ap (λ (x : CallArg). positional_cores (arguments_more (argument_of x) rest)) (sym is) in
    record {
      lists = λ rest. ap (λ (k : ℕ). k + list_count now.last (positional_cores rest)) lists ∙
          ap (λ (k : ℕ). so_far.lists + list_count k (positional_cores rest)) longer ∙
          ap (λ (l : List (Passing Core Core)). so_far.lists + list_count n l) (split rest);
      last = λ rest. ap (λ (k : ℕ). rest_count k (positional_cores rest)) longer ∙ ap (λ (l : List (Passing Core Core)). rest_count n l) (split rest);
      spread = λ rest. ap (λ (b : Bool). b || has_spread (positional_cores rest)) spread ∙
          ap (λ (l : List (Passing Core Core)). so_far.spread || has_spread l) (split rest);
      code = λ rest.
          let more = stretches_code (suc n) (positional_cores rest) in
          ap (λ (k : ℕ). code_in t ++ stretches_code k (positional_cores rest) (length (code_in t))) longer ∙
          two_pieces value more (code_in s) (code_in t) (code_in t ++ more (length (code_in t))) put.code refl ∙
          ap (λ (l : List (Passing Core Core)). code_in s ++ stretches_code n l p) (split rest);
      same = put.same;
    }

pub passes_spread : (a : CallArg) (e : Expr) (so_far now : Stretches) (before : ℕ) {r s t : Instructions} → a ≡ PosSplat e → before ≡ so_far.lists + at_most_one so_far.last
    → now.lists ≡ before + 1 → now.last ≡ 0 → now.spread ≡ true → Puts (listed_code so_far.last) r s → Puts (expression_code (expression_of e)) s t
    → PassesByPlace (argument_of a) so_far now r t
passes_spread a e so_far now before {r} {s} {t} is counted lists last spread first second =
    let value = expression_code (expression_of e) in
    let n = so_far.last in
    let listed = listed_code n in
    let p = length (code_in r) in
    let both = puts_then first second in
    let args : Arguments → List (Passing Core Core) = λ rest. positional_cores (arguments_more (argument_of a) rest) in
    let split : (rest : Arguments) → positional_cores (arguments_more (argument_of (PosSplat e)) rest) ≡ args rest =
    λ rest. ap (λ (x : CallArg). positional_cores (arguments_more (argument_of x) rest)) (sym is) in
    record {
      lists = λ rest.
          let later = list_count 0 (positional_cores rest) in
          let whole : now.lists + later ≡ so_far.lists + (at_most_one n + suc later) = omega (arith, counted, lists) in
          ap (λ (k : ℕ). now.lists + list_count k (positional_cores rest)) last ∙ whole ∙
          ap (λ (l : List (Passing Core Core)). so_far.lists + list_count n l) (split rest);
      last = λ rest. ap (λ (k : ℕ). rest_count k (positional_cores rest)) last ∙ ap (λ (l : List (Passing Core Core)). rest_count n l) (split rest);
      spread = λ rest. ap (λ (b : Bool). b || has_spread (positional_cores rest)) spread ∙ or_true so_far.spread ∙
          ap (λ (l : List (Passing Core Core)). so_far.spread || has_spread l) (split rest);
      code = λ rest.
          let more = stretches_code 0 (positional_cores rest) in
          ap (λ (k : ℕ). code_in t ++ stretches_code k (positional_cores rest) (length (code_in t))) last ∙
          two_pieces (then_code listed value) more (code_in r) (code_in t) (code_in t ++ more (length (code_in t))) both.code refl ∙
          ap (λ (l : List Code). code_in r ++ l) (sym (then_assoc listed value more p)) ∙
          ap (λ (l : List (Passing Core Core)). code_in r ++ stretches_code n l p) (split rest);
      same = both.same;
    }

passed_over : (a : CallArg) (so_far : Stretches) (s : Instructions) → ((rest : Arguments) → positional_cores rest ≡ positional_cores (arguments_more (argument_of a) rest))
    → PassesByPlace (argument_of a) so_far so_far s s
passed_over a so_far s same = record {
  lists = λ rest. ap (λ (l : List (Passing Core Core)). so_far.lists + list_count so_far.last l) (same rest);
  last = λ rest. ap (λ (l : List (Passing Core Core)). rest_count so_far.last l) (same rest);
  spread = λ rest. ap (λ (l : List (Passing Core Core)). so_far.spread || has_spread l) (same rest);
  code = λ rest. ap (λ (l : List (Passing Core Core)). code_in s ++ stretches_code so_far.last l (length (code_in s))) (same rest);
  same = same_itself s;
}

pub passes_over_keyword : (a : CallArg) (name : _) (e : Expr) (so_far : Stretches) (s : Instructions) → a ≡ Kwarg name e → PassesByPlace (argument_of a) so_far so_far s s
passes_over_keyword a name e so_far s is =
    passed_over a so_far s (λ rest. ap (λ (x : CallArg). positional_cores (arguments_more (argument_of x) rest)) (sym is))

pub passes_over_keyword_spread : (a : CallArg) (e : Expr) (so_far : Stretches) (s : Instructions) → a ≡ KwargSplat e → PassesByPlace (argument_of a) so_far so_far s s
passes_over_keyword_spread a e so_far s is =
    passed_over a so_far s (λ rest. ap (λ (x : CallArg). positional_cores (arguments_more (argument_of x) rest)) (sym is))

-- so it is of those that are passed by a name
abbrev Named : Type 0
Named = Passing (List ℕ × Core) Core

pub passes_keyword : (a : CallArg) (name : _) (e : Expr) (so_far now : Stretches) {r s t : Instructions} → a ≡ Kwarg name e → now.lists ≡ so_far.lists
    → now.last ≡ so_far.last + 1 → now.spread ≡ so_far.spread → Puts (one (load_const (text name.now))) r s → Puts (expression_code (expression_of e)) s t
    → PassesByName (argument_of a) so_far now r t
passes_keyword a name e so_far now {r} {s} {t} is lists last spread first second =
    let load = one (load_const (text name.now)) in
    let value = expression_code (expression_of e) in
    let n = so_far.last in
    let p = length (code_in r) in
    let both = puts_then first second in
    let longer : now.last ≡ suc n = omega (arith, last) in
    let args : Arguments → List Named = λ rest. keyword_cores (arguments_more (argument_of a) rest) in
    let split : (rest : Arguments) → keyword_cores (arguments_more (argument_of (Kwarg name e)) rest) ≡ args rest =
    λ rest. ap (λ (x : CallArg). keyword_cores (arguments_more (argument_of x) rest)) (sym is) in
    record {
      lists = λ rest. ap (λ (k : ℕ). k + list_count now.last (keyword_cores rest)) lists ∙
          ap (λ (k : ℕ). so_far.lists + list_count k (keyword_cores rest)) longer ∙
          ap (λ (l : List Named). so_far.lists + list_count n l) (split rest);
      last = λ rest. ap (λ (k : ℕ). rest_count k (keyword_cores rest)) longer ∙ ap (λ (l : List Named). rest_count n l) (split rest);
      spread = λ rest. ap (λ (b : Bool). b || has_spread (keyword_cores rest)) spread ∙
          ap (λ (l : List Named). so_far.spread || has_spread l) (split rest);
      code = λ rest.
          let more = named_code (suc n) (keyword_cores rest) in
          ap (λ (k : ℕ). code_in t ++ named_code k (keyword_cores rest) (length (code_in t))) longer ∙
          two_pieces (then_code load value) more (code_in r) (code_in t) (code_in t ++ more (length (code_in t))) both.code refl ∙
          ap (λ (l : List Code). code_in r ++ l) (sym (then_assoc load value more p)) ∙
          ap (λ (l : List Named). code_in r ++ named_code n l p) (split rest);
      same = both.same;
    }

pub passes_keyword_spread : (a : CallArg) (e : Expr) (so_far now : Stretches) (before : ℕ) {r s t : Instructions} → a ≡ KwargSplat e
    → before ≡ so_far.lists + at_most_one so_far.last → now.lists ≡ before + 1 → now.last ≡ 0 → now.spread ≡ true → Puts (mapped_code so_far.last) r s
    → Puts (expression_code (expression_of e)) s t → PassesByName (argument_of a) so_far now r t
passes_keyword_spread a e so_far now before {r} {s} {t} is counted lists last spread first second =
    let value = expression_code (expression_of e) in
    let n = so_far.last in
    let mapped = mapped_code n in
    let p = length (code_in r) in
    let both = puts_then first second in
    let args : Arguments → List Named = λ rest. keyword_cores (arguments_more (argument_of a) rest) in
    let split : (rest : Arguments) → keyword_cores (arguments_more (argument_of (KwargSplat e)) rest) ≡ args rest =
    λ rest. ap (λ (x : CallArg). keyword_cores (arguments_more (argument_of x) rest)) (sym is) in
    record {
      lists = λ rest.
          let later = list_count 0 (keyword_cores rest) in
          let whole : now.lists + later ≡ so_far.lists + (at_most_one n + suc later) = omega (arith, counted, lists) in
          ap (λ (k : ℕ). now.lists + list_count k (keyword_cores rest)) last ∙ whole ∙
          ap (λ (l : List Named). so_far.lists + list_count n l) (split rest);
      last = λ rest. ap (λ (k : ℕ). rest_count k (keyword_cores rest)) last ∙ ap (λ (l : List Named). rest_count n l) (split rest);
      spread = λ rest. ap (λ (b : Bool). b || has_spread (keyword_cores rest)) spread ∙ or_true so_far.spread ∙
          ap (λ (l : List Named). so_far.spread || has_spread l) (split rest);
      code = λ rest.
          let more = named_code 0 (keyword_cores rest) in
          ap (λ (k : ℕ). code_in t ++ named_code k (keyword_cores rest) (length (code_in t))) last ∙
          two_pieces (then_code mapped value) more (code_in r) (code_in t) (code_in t ++ more (length (code_in t))) both.code refl ∙
          ap (λ (l : List Code). code_in r ++ l) (sym (then_assoc mapped value more p)) ∙
          ap (λ (l : List Named). code_in r ++ named_code n l p) (split rest);
      same = both.same;
    }

name_passed_over : (a : CallArg) (so_far : Stretches) (s : Instructions) → ((rest : Arguments) → keyword_cores rest ≡ keyword_cores (arguments_more (argument_of a) rest))
    → PassesByName (argument_of a) so_far so_far s s
name_passed_over a so_far s same = record {
  lists = λ rest. ap (λ (l : List Named). so_far.lists + list_count so_far.last l) (same rest);
  last = λ rest. ap (λ (l : List Named). rest_count so_far.last l) (same rest);
  spread = λ rest. ap (λ (l : List Named). so_far.spread || has_spread l) (same rest);
  code = λ rest. ap (λ (l : List Named). code_in s ++ named_code so_far.last l (length (code_in s))) (same rest);
  same = same_itself s;
}

pub passes_over_value : (a : CallArg) (e : Expr) (so_far : Stretches) (s : Instructions) → a ≡ Pos e → PassesByName (argument_of a) so_far so_far s s
passes_over_value a e so_far s is = name_passed_over a so_far s (λ rest. ap (λ (x : CallArg). keyword_cores (arguments_more (argument_of x) rest)) (sym is))

pub passes_over_spread : (a : CallArg) (e : Expr) (so_far : Stretches) (s : Instructions) → a ≡ PosSplat e → PassesByName (argument_of a) so_far so_far s s
passes_over_spread a e so_far s is = name_passed_over a so_far s (λ rest. ap (λ (x : CallArg). keyword_cores (arguments_more (argument_of x) rest)) (sym is))

-- those that are left make of what is put what all make of what was before
pub record Passed (X : Type 0) (cores : Arguments → List (Passing X Core)) (code_of : ℕ → List (Passing X Core) → Coded) (front : ℕ) (all left : Arguments) (so_far : Stretches) (old new : Instructions) : Type 0 where
  pub lists : so_far.lists + list_count so_far.last (cores left) ≡ list_count front (cores all)
  pub last : rest_count so_far.last (cores left) ≡ rest_count front (cores all)
  pub spread : (so_far.spread || has_spread (cores left)) ≡ has_spread (cores all)
  pub code : code_in new ++ code_of so_far.last (cores left) (length (code_in new)) ≡ code_in old ++ code_of front (cores all) (length (code_in old))
  pub same : Keeps old new

abbrev pub PassedByPlace : ℕ → List CallArg → ℕ → Stretches → Instructions → Instructions → Type 0
PassedByPlace front xs i so_far old new = Passed Core positional_cores stretches_code front (arguments_in xs) (arguments_in (drop i xs)) so_far old new

abbrev pub PassedByName : List CallArg → ℕ → Stretches → Instructions → Instructions → Type 0
PassedByName xs i so_far old new = Passed (List ℕ × Core) keyword_cores named_code 0 (arguments_in xs) (arguments_in (drop i xs)) so_far old new

none_passed : (X : Type 0) (cores : Arguments → List (Passing X Core)) (code_of : ℕ → List (Passing X Core) → Coded) (front : ℕ) (all : Arguments) (so_far : Stretches) (a : Instructions)
    → so_far.lists ≡ 0 → so_far.last ≡ front → so_far.spread ≡ false → Passed X cores code_of front all all so_far a a
none_passed X cores code_of front all so_far a lists last spread =
    let none : so_far.lists + list_count front (cores all) ≡ list_count front (cores all) = omega (arith, lists) in
    record {
      lists = ap (λ (k : ℕ). so_far.lists + list_count k (cores all)) last ∙ none;
      last = ap (λ (k : ℕ). rest_count k (cores all)) last;
      spread = ap (λ (b : Bool). b || has_spread (cores all)) spread;
      code = ap (λ (k : ℕ). code_in a ++ code_of k (cores all) (length (code_in a))) last;
      same = same_itself a;
    }

pub none_by_place : (front : ℕ) (xs : List CallArg) (so_far : Stretches) (a : Instructions) → so_far.lists ≡ 0 → so_far.last ≡ front → so_far.spread ≡ false
    → PassedByPlace front xs 0 so_far a a
none_by_place front xs so_far a lists last spread = none_passed Core positional_cores stretches_code front (arguments_in xs) so_far a lists last spread

pub none_by_name : (xs : List CallArg) (so_far : Stretches) (a : Instructions) → so_far.lists ≡ 0 → so_far.last ≡ 0 → so_far.spread ≡ false → PassedByName xs 0 so_far a a
none_by_name xs so_far a lists last spread = none_passed (List ℕ × Core) keyword_cores named_code 0 (arguments_in xs) so_far a lists last spread

one_passed : (X : Type 0) (cores : Arguments → List (Passing X Core)) (code_of : ℕ → List (Passing X Core) → Coded) (front : ℕ) (all : Arguments) (xs : List CallArg) (i : ℕ) (x : CallArg) (so_far now : Stretches) {a b c : Instructions}
    → i < length xs → x ≡ get_or xs i x → Passed X cores code_of front all (arguments_in (drop i xs)) so_far a b → PassesOne X cores code_of (argument_of x) so_far now b c
    → Passed X cores code_of front all (arguments_in (drop (i + 1) xs)) now a c
one_passed X cores code_of front all xs i x so_far now {a} {b} {c} within read before step =
    let rest = arguments_in (drop (i + 1) xs) in
    let at = sym (arguments_at xs i x within read) in
    record {
      lists = step.lists rest ∙ ap (λ (args : Arguments). so_far.lists + list_count so_far.last (cores args)) at ∙ before.lists;
      last = step.last rest ∙ ap (λ (args : Arguments). rest_count so_far.last (cores args)) at ∙ before.last;
      spread = step.spread rest ∙ ap (λ (args : Arguments). so_far.spread || has_spread (cores args)) at ∙ before.spread;
      code = step.code rest ∙ ap (λ (args : Arguments). code_in b ++ code_of so_far.last (cores args) (length (code_in b))) at ∙ before.code;
      same = same_then before.same step.same;
    }

pub one_by_place : (front : ℕ) (xs : List CallArg) (i : ℕ) (x : CallArg) (so_far now : Stretches) {a b c : Instructions} → i < length xs → x ≡ get_or xs i x
    → PassedByPlace front xs i so_far a b → PassesByPlace (argument_of x) so_far now b c → PassedByPlace front xs (i + 1) now a c
one_by_place front xs i x so_far now within read before step = one_passed Core positional_cores stretches_code front (arguments_in xs) xs i x so_far now within read before step

pub one_by_name : (xs : List CallArg) (i : ℕ) (x : CallArg) (so_far now : Stretches) {a b c : Instructions} → i < length xs → x ≡ get_or xs i x
    → PassedByName xs i so_far a b → PassesByName (argument_of x) so_far now b c → PassedByName xs (i + 1) now a c
one_by_name xs i x so_far now within read before step = one_passed (List ℕ × Core) keyword_cores named_code 0 (arguments_in xs) xs i x so_far now within read before step

or_false : (b : Bool) → b ≡ (b || false)
or_false true = refl
or_false false = refl

all_passed : (X : Type 0) (cores : Arguments → List (Passing X Core)) (code_of : ℕ → List (Passing X Core) → Coded) (front : ℕ) (all : Arguments) (xs : List CallArg) (i : ℕ) (now : Stretches) {a b : Instructions}
    → cores no_arguments ≡ [] → ((n p : ℕ) → code_of n [] p ≡ []) → length xs ≤ i → Passed X cores code_of front all (arguments_in (drop i xs)) now a b
    → PassesAll X front (cores all) (code_of front (cores all)) now a b
all_passed X cores code_of front all xs i now {a} {b} none nothing_put over before =
    let empty : cores (arguments_in (drop i xs)) ≡ [] = ap (λ (l : List CallArg). cores (arguments_in l)) (drop_all i xs over) ∙ none in
    let counted : now.lists ≡ now.lists + 0 = omega arith in
    record {
      lists = counted ∙ ap (λ (l : List (Passing X Core)). now.lists + list_count now.last l) (sym empty) ∙ before.lists;
      last = ap (λ (l : List (Passing X Core)). rest_count now.last l) (sym empty) ∙ before.last;
      spread = or_false now.spread ∙ ap (λ (l : List (Passing X Core)). now.spread || has_spread l) (sym empty) ∙ before.spread;
      put = record {
        code = sym (append-nil (code_in b)) ∙ ap (λ (l : List Code). code_in b ++ l) (sym (nothing_put now.last (length (code_in b)))) ∙
            ap (λ (l : List (Passing X Core)). code_in b ++ code_of now.last l (length (code_in b))) (sym empty) ∙ before.code;
        same = before.same;
      };
    }

pub all_by_place : (front : ℕ) (xs : List CallArg) (i : ℕ) (now : Stretches) {a b : Instructions} → length xs ≤ i → PassedByPlace front xs i now a b
    → ArePassedByPlace front (arguments_in xs) now a b
all_by_place front xs i now over before = all_passed Core positional_cores stretches_code front (arguments_in xs) xs i now refl (λ n p. refl) over before

pub all_by_name : (xs : List CallArg) (i : ℕ) (now : Stretches) {a b : Instructions} → length xs ≤ i → PassedByName xs i now a b → ArePassedByName (arguments_in xs) now a b
all_by_name xs i now over before = all_passed (List ℕ × Core) keyword_cores named_code 0 (arguments_in xs) xs i now refl (λ n p. refl) over before

-- keyword arguments
pub puts_keywords : (args : Arguments) (now : Stretches) (maps : ℕ) {a b c d : Instructions} → ArePassedByName args now a b → maps ≡ now.lists + at_most_one now.last
    → Puts (mapped_code now.last) b c → Puts (merged_code now.spread maps) c d → Puts (keywords_code (keyword_cores args)) a d
puts_keywords args now maps {a} {b} {c} {d} named counted mapped merged =
    let ns = keyword_cores args in
    let all : maps ≡ map_count ns = counted ∙ ap (λ (k : ℕ). k + at_most_one now.last) named.lists ∙ ap (λ (k : ℕ). list_count 0 ns + at_most_one k) named.last in
    let second : Puts (mapped_code (rest_count 0 ns)) b c = subst (λ (k : ℕ). Puts (mapped_code k) b c) named.last mapped in
    let third : Puts (merged_code (has_spread ns) (map_count ns)) c d =
    subst (λ (k : ℕ). Puts (merged_code (has_spread ns) k) c d) all (subst (λ (x : Bool). Puts (merged_code x maps) c d) named.spread merged) in
    puts_then named.put (puts_then second third)

pub keywords_counted : (args : Arguments) (now : Stretches) (maps n : ℕ) {a b : Instructions} → ArePassedByName args now a b → maps ≡ now.lists + at_most_one now.last
    → n ≡ merged_count now.spread maps → n ≡ keyword_count (keyword_cores args)
keywords_counted args now maps n named counted merged =
    let ns = keyword_cores args in
    let all : maps ≡ map_count ns = counted ∙ ap (λ (k : ℕ). k + at_most_one now.last) named.lists ∙ ap (λ (k : ℕ). list_count 0 ns + at_most_one k) named.last in
    merged ∙ ap (λ (b : Bool). merged_count b maps) named.spread ∙ ap (λ (k : ℕ). merged_count (has_spread ns) k) all

-- all arguments
pub puts_passed : (front : ℕ) (args : Arguments) (now : Stretches) (named count : ℕ) {a b c d : Instructions} → ArePassedByPlace front args now a b
    → named ≡ keyword_count (keyword_cores args) → count ≡ now.last + named → Puts (keywords_code (keyword_cores args)) b c
    → Puts (run_code now.spread now.lists count) c d → Puts (passed_code front args) a d
puts_passed front args now named count {a} {b} {c} {d} passed keywords counted second third =
    let vs = positional_cores args in
    let n = rest_count front vs + keyword_count (keyword_cores args) in
    let all : count ≡ n = counted ∙ ap (λ (k : ℕ). k + named) passed.last ∙ ap (λ (k : ℕ). rest_count front vs + k) keywords in
    let run : Puts (run_code (has_spread vs) (list_count front vs) n) c d =
    subst (λ (k : ℕ). Puts (run_code (has_spread vs) (list_count front vs) k) c d) all
    (subst (λ (k : ℕ). Puts (run_code (has_spread vs) k count) c d) passed.lists (subst (λ (x : Bool). Puts (run_code x now.lists count) c d) passed.spread third)) in
    puts_then passed.put (puts_then second run)

pub passed_counted : (front : ℕ) (args : Arguments) (now : Stretches) (named count : ℕ) {a b : Instructions} → ArePassedByPlace front args now a b
    → named ≡ keyword_count (keyword_cores args) → count ≡ now.last + named → run_count now.spread count ≡ argument_count front args
passed_counted front args now named count passed keywords counted =
    let vs = positional_cores args in
    let all : count ≡ rest_count front vs + keyword_count (keyword_cores args) =
    counted ∙ ap (λ (k : ℕ). k + named) passed.last ∙ ap (λ (k : ℕ). rest_count front vs + k) keywords in
    ap (λ (b : Bool). run_count b count) passed.spread ∙ ap (λ (k : ℕ). run_count (has_spread vs) k) all

-- a call behind its arguments
pub puts_function : (v : Option Val) (e : Expr) (n : Spanned VarNode) (args : Arguments) (count : Option ℕ) {a b c : Instructions} → e ≡ Var n
    → count ≡ argument_count 0 args → Puts (passed_code 0 args) a b → Puts (one (call_function n.node.id.now count)) b c
    → Puts (call_code v (expression_of e) args) a c
puts_function v e n args count is counted first last =
    rw is (puts_then first (puts_as (ap (λ (k : Option ℕ). call_function n.node.id.now k) counted) last))

pub puts_method : (v : Option Val) (e : Expr) (n : Box (Spanned GetAttrNode) Global) (args : Arguments) (count : Option ℕ) {a b c d : Instructions}
    → e ≡ GetAttr n → (is_self_name (expression_of n.value.node.expr) && is_empty args) ≡ false → count ≡ argument_count 1 args
    → Puts (held v) a b → Puts (passed_code 1 args) b c
    → Puts (one (call_method n.value.node.name.now count)) c d → Puts (call_code v (expression_of e) args) a d
puts_method v e n args count {a} {b} {c} {d} is no_block counted object first last =
    let name = n.value.node.name.now in
    let put : Puts (called_behind (attribute_called false name) v args) a d =
    puts_behind v object (puts_then first (puts_as (ap (λ (k : Option ℕ). call_method name k) counted) last)) in
    rw is (subst (λ (x : Bool). Puts (called_behind (attribute_called x name) v args) a d) (sym no_block) put)

-- a call of a block
pub puts_block : (v : Option Val) (e : Expr) (n : Box (Spanned GetAttrNode) Global) (args : Arguments) {a b : Instructions} → e ≡ GetAttr n
    → (is_self_name (expression_of n.value.node.expr) && is_empty args) ≡ true → Puts (block_code n.value.node.name.now) a b
    → Puts (call_code v (expression_of e) args) a b
puts_block v e n args {a} {b} is block put =
    rw is (subst (λ (x : Bool). Puts (called_behind (attribute_called x n.value.node.name.now) v args) a b) (sym block) put)

whole_block : (x : Bool) → x ≡ true → (name : List ℕ) (args : Arguments) (whole object : Core) (cs : List (Passing Core Core)) (ns : List (Passing (List ℕ × Core) Core))
    (a b : Instructions) → Puts (called_behind (attribute_called x name) None args) a b → Puts (flat no_ways (called_core (attribute_called x name) whole object cs ns)) a b
whole_block true is name args whole object cs ns a b put = put
whole_block false is name args whole object cs ns a b put = let never : false ≡ true = is in absurd cc

pub puts_whole_block : (e : Expr) (n : Box (Spanned GetAttrNode) Global) (args : Arguments) (a b : Instructions) → e ≡ GetAttr n
    → (is_self_name (expression_of n.value.node.expr) && is_empty args) ≡ true → Puts (call_code None (expression_of e) args) a b
    → Puts (expression_code (call (expression_of e) args)) a b
puts_whole_block e n args a b is block put =
    let P : Expr → Type 0 = λ x. Puts (call_code None (expression_of x) args) a b → Puts (expression_code (call (expression_of x) args)) a b in
    let t = expression_of (GetAttr n) in
    let held : P (GetAttr n) =
    whole_block (is_self_name (expression_of n.value.node.expr) && is_empty args) block n.value.node.name.now args (expression_core t) (object_core t)
    (positional_cores args) (keyword_cores args) a b in
    subst P (sym is) held put

no_name_called : (e : Expr) (args : Arguments) → ((n : _) → e ≡ Var n → ⊥) → ((n : Box (Spanned GetAttrNode) Global) → e ≡ GetAttr n → ⊥)
    → callee_of (expression_of e) args ≡ by_value
no_name_called (Var n) args no_name no_method = absurd (no_name n refl)
no_name_called (GetAttr' p expr name span) args no_name no_method =
    absurd (no_method record { ptr = p.ptr; alloc = p.alloc; value = record { node = record { expr = expr; name = name }; span = span } } refl)
no_name_called (Compare' p (compared expr shape ops) span) args no_name no_method = refl
no_name_called _ args no_name no_method = refl

pub puts_value : (v : Option Val) (e : Expr) (args : Arguments) (count : Option ℕ) {a b c d : Instructions}
    → ((n : _) → e ≡ Var n → ⊥) → ((n : Box (Spanned GetAttrNode) Global) → e ≡ GetAttr n → ⊥) → count ≡ argument_count 1 args
    → Puts (held v) a b → Puts (passed_code 1 args) b c → Puts (one (call_object count)) c d → Puts (call_code v (expression_of e) args) a d
puts_value v e args count {a} {b} {c} {d} no_name no_method counted value first last =
    subst (λ (callee : Callee). Puts (called_behind callee v args) a d) (sym (no_name_called e args no_name no_method))
    (puts_behind v value (puts_then first (puts_as (ap (λ (k : Option ℕ). call_object k) counted) last)))

-- a filter or a test behind its arguments
pub puts_filter : (v : Option Val) (name held_name : List ℕ) (args : Arguments) (count : Option ℕ) {a b c d : Instructions} → held_name ≡ name
    → count ≡ argument_count 1 args → Puts (held v) a b → Puts (passed_code 1 args) b c → Puts (one (apply_filter held_name count no_number)) c d
    → Puts (behind v (filter_code name args)) a d
puts_filter v name held_name args count same counted value first last =
    puts_behind v value (puts_then first
    (puts_as (ap (λ (m : List ℕ). apply_filter m count no_number) same ∙ ap (λ (k : Option ℕ). apply_filter name k no_number) counted) last))

pub puts_test : (v : Option Val) (name held_name : List ℕ) (args : Arguments) (count : Option ℕ) {a b c d : Instructions} → held_name ≡ name
    → count ≡ argument_count 1 args → Puts (held v) a b → Puts (passed_code 1 args) b c → Puts (one (perform_test held_name count no_number)) c d
    → Puts (behind v (test_code name args)) a d
puts_test v name held_name args count same counted value first last =
    puts_behind v value (puts_then first
    (puts_as (ap (λ (m : List ℕ). perform_test m count no_number) same ∙ ap (λ (k : Option ℕ). perform_test name k no_number) counted) last))

pub filter_arguments : (name : List ℕ) (value : Optional) (args : Arguments) → IsRunnable (filtered name value args) → AreRunnableArguments args
filter_arguments name absent args h = absurd h
filter_arguments name (given e) args h = h.1

-- none of them is a constant
pub none_put : {X E : Type 0} (o : Option Val) (f : Coded) (x : Result X E) (a b : Instructions) → OnOk x (o ≡ None) → OnOk x (Puts f a b)
    → OnOk x (Puts (unless o f) a b)
none_put o f (Ok _) a b none put = subst (λ (k : Option Val). Puts (unless k f) a b) (sym none) put
none_put o f (Err _) a b none put = tt
