-- A call whose last keyword argument is put apart.
use Rattle.std.proofs.Common.{◌≡◌, ℕ, ◌+◌, suc, Bool, true, false, ◌&&◌, Option, None, Some, Box, Global, List, [], ◌∷◌, ◌++◌, length, refl, sym, ap, subst, ◌∙◌, append-nil, arith}
use Rattle.std.specs.Prelude.{if◌then◌else◌}
use Rattle.template_values_model.specs.Val.{text}
use Rattle.template_compiler_tree.specs.Kinds.{calls_block, calls_method, is_self_name, is_empty, called_by}
use Rattle.template_compiler_tree.specs.Tree.{Expression, Arguments, variable, attribute, call}
use Rattle.template_compiler_tree.specs.View.{expression_of}
use Rattle.template_compiler_tree.specs.declared.span.Spanned.{Spanned}
use Rattle.template_compiler_tree.specs.declared.expressions.Compare.{Compare' as compared}
use Rattle.template_compiler_tree.specs.declared.expressions.Expr.{Expr, Var, GetAttr, GetAttr', Compare'}
use Rattle.template_compiler_tree.specs.declared.expressions.GetAttr.{GetAttr as GetAttrNode}
use Rattle.template_compiler_walk.specs.Expressions.{Passing, alone, spreads, has_spread, attribute_called}
use Rattle.template_compiler_walk.specs.Statements.{caller_name}
use Rattle.template_compiler_code.specs.Code.{Code, load_const, call_function, call_method, call_object}
use Rattle.template_compiler_code.specs.Listing.{code_in}
use Rattle.template_compiler_code.specs.declared.listing.Instructions.{Instructions}
use Rattle.template_compiler_codegen.specs.Core.{Core, no_ways, flat}
use Rattle.template_compiler_codegen.specs.Expressions.{Coded, one, nothing, then_code, at_most_one, list_count, rest_count, merged_count, passed_core, passed_count, called_core, expression_core, expression_code, positional_cores, keyword_cores}
use Rattle.template_compiler_codegen.specs.Statements.{calling_core}
use Rattle.template_compiler_emission.specs.Puts.{Puts}
use Rattle.template_compiler_emission.proofs.Putting.{puts_then}
use Rattle.template_compiler_expression_codegen.specs.Begun.{AreCounted, ArgumentsBegin, front_code, front_count, called_with, arguments_begun, begun_code, begun_maps, begun_values, ended_with, ended_code}
use Rattle.template_compiler_expression_codegen.specs.Passing.{mapped_code, merged_code, run_code, stretches_code, named_code, PassesAll}
use Rattle.template_compiler_expression_codegen.specs.declared.calls.BegunCall.{BegunCall}
use Rattle.template_compiler_expression_codegen.specs.declared.stretches.Stretches.{Stretches}
use Rattle.template_compiler_expression_codegen.proofs.Items.{then_assoc}
use Rattle.template_compiler_expression_codegen.proofs.Putting.{puts_as}

-- pieces that are the same at each place
then_left : {f g : Coded} (h : Coded) → ((q : ℕ) → f q ≡ g q) → (q : ℕ) → then_code f h q ≡ then_code g h q
then_left {f} {g} h same q = ap (λ (xs : List Code). xs ++ h (q + length xs)) (same q)

then_right : (f : Coded) {g h : Coded} → ((q : ℕ) → g q ≡ h q) → (q : ℕ) → then_code f g q ≡ then_code f h q
then_right f {g} {h} same q = ap (λ (xs : List Code). f q ++ xs) (same (q + length (f q)))

pub then_nothing : (f : Coded) (q : ℕ) → then_code nothing f q ≡ f q
then_nothing f q = ap (λ (p : ℕ). f p) (omega arith)

-- one entry more, the last one
one_rest : {X : Type 0} (n : ℕ) (xs : List (Passing X Core)) (x : X) → rest_count n (xs ++ alone x ∷ []) ≡ suc (rest_count n xs)
one_rest n [] x = refl
one_rest n (alone y ∷ xs) x = one_rest (suc n) xs x
one_rest n (spreads y ∷ xs) x = one_rest 0 xs x

one_list : {X : Type 0} (n : ℕ) (xs : List (Passing X Core)) (x : X) → list_count n (xs ++ alone x ∷ []) ≡ list_count n xs
one_list n [] x = refl
one_list n (alone y ∷ xs) x = one_list (suc n) xs x
one_list n (spreads y ∷ xs) x = ap (λ (k : ℕ). at_most_one n + suc k) (one_list 0 xs x)

one_spread : {X : Type 0} (xs : List (Passing X Core)) (x : X) → has_spread (xs ++ alone x ∷ []) ≡ has_spread xs
one_spread [] x = refl
one_spread (alone y ∷ xs) x = one_spread xs x
one_spread (spreads y ∷ xs) x = refl

one_entry : (n : ℕ) (xs : List (Passing (List ℕ × Core) Core)) (name : List ℕ) (c : Core) (q : ℕ) → named_code n (xs ++ alone (name, c) ∷ []) q
    ≡ then_code (named_code n xs) (then_code (one (load_const (text name))) (flat no_ways c)) q
one_entry n [] name c q =
    ap (λ (xs : List Code). load_const (text name) ∷ xs) (append-nil (flat no_ways c (q + 1))) ∙
    sym (then_nothing (then_code (one (load_const (text name))) (flat no_ways c)) q)
one_entry n (alone y ∷ xs) name c q =
    let load = one (load_const (text y.0)) in
    let value = flat no_ways y.1 in
    let last = then_code (one (load_const (text name))) (flat no_ways c) in
    then_right load (then_right value (one_entry (suc n) xs name c)) q ∙
    then_right load (then_assoc value (named_code (suc n) xs) last) q ∙
    then_assoc load (then_code value (named_code (suc n) xs)) last q
one_entry n (spreads y ∷ xs) name c q =
    let mapped = mapped_code n in
    let value = flat no_ways y in
    let last = then_code (one (load_const (text name))) (flat no_ways c) in
    then_right mapped (then_right value (one_entry 0 xs name c)) q ∙
    then_right mapped (then_assoc value (named_code 0 xs) last) q ∙
    then_assoc mapped (then_code value (named_code 0 xs)) last q

-- the pieces of a call, in the order in which they are put and in that of its definition
arranged : (f s e l k m g r i all : Coded) → ((q : ℕ) → all q ≡ then_code e (then_code l k) q) → (q : ℕ) →
    then_code (then_code f (then_code s (then_code e l))) (then_code k (then_code m (then_code g (then_code r i)))) q
    ≡ then_code f (then_code (then_code s (then_code (then_code all (then_code m g)) r)) i) q
arranged f s e l k m g r i all same q =
    let rest = then_code m (then_code g (then_code r i)) in
    let tail = then_code k rest in
    sym (then_assoc f (then_code s (then_code e l)) tail q) ∙
    then_right f (λ p. sym (then_assoc s (then_code e l) tail p)) q ∙
    then_right f (then_right s (λ p. sym (then_assoc e l tail p))) q ∙
    then_right f (then_right s (λ p.
    then_right e (then_assoc l k rest) p ∙ then_assoc e (then_code l k) rest p ∙ sym (then_left rest same p) ∙
    then_right all (then_assoc m g (then_code r i)) p ∙ then_assoc all (then_code m g) (then_code r i) p ∙
    then_assoc (then_code all (then_code m g)) r i p)) q ∙
    then_right f (then_assoc s (then_code (then_code all (then_code m g)) r) i) q

-- what stands behind the entries, by what is counted of them
abbrev call_behind : (Option ℕ → Code) → ℕ → List (Passing Core Core) → Coded → ℕ → ℕ → Bool → Coded
call_behind calls front args entries lists rest spread =
    let maps = lists + at_most_one rest in
    let values = rest_count front args + merged_count spread maps in
    then_code (then_code (stretches_code front args) (then_code (then_code entries (then_code (mapped_code rest) (merged_code spread maps)))
    (run_code (has_spread args) (list_count front args) values)))
    (one (calls (if has_spread args then None else Some values)))

abbrev and_last : Arguments → Core → List (Passing (List ℕ × Core) Core)
and_last args caller = keyword_cores args ++ alone (caller_name, caller) ∷ []

counted_as : (calls : Option ℕ → Code) (front : ℕ) (args : Arguments) (caller : Core) (q : ℕ) →
    call_behind calls front (positional_cores args) (named_code 0 (and_last args caller)) (list_count 0 (keyword_cores args))
    (suc (rest_count 0 (keyword_cores args))) (has_spread (keyword_cores args)) q
    ≡ then_code (flat no_ways (passed_core front (positional_cores args) (and_last args caller)))
    (one (calls (passed_count front (positional_cores args) (and_last args caller)))) q
counted_as calls front args caller q =
    let named = keyword_cores args in
    let all = and_last args caller in
    let entries = named_code 0 all in
    let behind = call_behind calls front (positional_cores args) entries in
    ap (λ (n : ℕ). behind n (suc (rest_count 0 named)) (has_spread named) q) (sym (one_list 0 named (caller_name, caller))) ∙
    ap (λ (n : ℕ). behind (list_count 0 all) n (has_spread named) q) (sym (one_rest 0 named (caller_name, caller))) ∙
    ap (λ (b : Bool). behind (list_count 0 all) (rest_count 0 all) b q) (sym (one_spread named (caller_name, caller)))

called_as : (f : Coded) (calls : Option ℕ → Code) (front : ℕ) (args : Arguments) (caller : Core) (q : ℕ) →
    then_code (then_code f (arguments_begun front args caller_name)) (then_code (flat no_ways caller) (ended_with calls front args)) q
    ≡ then_code f (then_code (flat no_ways (passed_core front (positional_cores args) (and_last args caller)))
    (one (calls (passed_count front (positional_cores args) (and_last args caller))))) q
called_as f calls front args caller q =
    let named = keyword_cores args in
    let spread = has_spread (positional_cores args) in
    let lists = list_count front (positional_cores args) in
    let values = begun_values front args in
    arranged f (stretches_code front (positional_cores args)) (named_code 0 named) (one (load_const (text caller_name))) (flat no_ways caller)
    (mapped_code (suc (rest_count 0 named))) (merged_code (has_spread named) (begun_maps args)) (run_code spread lists values)
    (one (calls (if spread then None else Some values))) (named_code 0 (and_last args caller)) (one_entry 0 named caller_name caller) q ∙
    then_right f (counted_as calls front args caller) q

-- a call that calls no block, with what is put apart
abbrev CallsAs : Expression → Arguments → Core → Coded → Type 0
CallsAs callee args caller whole = (q : ℕ) →
    then_code (begun_code callee args caller_name) (then_code (flat no_ways caller) (ended_code callee args)) q ≡ whole q

attribute_as : (b : Bool) (e : Expression) (n : List ℕ) (args : Arguments) (caller whole : Core) →
    ((name : List ℕ) → (if b then calls_block n else calls_method e n) ≡ calls_block name → ⊥) →
    CallsAs (attribute e n) args caller
    (flat no_ways (called_core (attribute_called b n) whole (expression_core e) (positional_cores args) (and_last args caller)))
attribute_as true e n args caller whole other q = absurd (other n refl)
attribute_as false e n args caller whole other q = called_as (expression_code e) (call_method n) 1 args caller q

pub calls_with : (callee : Expression) (args : Arguments) (caller : Core) → ((name : List ℕ) → called_by callee args ≡ calls_block name → ⊥) →
    CallsAs callee args caller (flat no_ways (calling_core callee args caller))
calls_with (variable n) args caller other q =
    called_as nothing (call_function n) 0 args caller q ∙
    then_nothing (then_code (flat no_ways (passed_core 0 (positional_cores args) (and_last args caller)))
    (one (call_function n (passed_count 0 (positional_cores args) (and_last args caller))))) q
calls_with (attribute e n) args caller other q =
    attribute_as (is_self_name e && is_empty args) e n args caller (expression_core (attribute e n)) other q
calls_with e args caller other q = called_as (expression_code e) call_object 1 args caller q

pub puts_with_caller : (callee : Expression) (args : Arguments) (caller : Core) {a b : Instructions} →
    ((name : List ℕ) → called_by callee args ≡ calls_block name → ⊥) →
    Puts (then_code (begun_code callee args caller_name) (then_code (flat no_ways caller) (ended_code callee args))) a b →
    Puts (flat no_ways (calling_core callee args caller)) a b
puts_with_caller callee args caller {a} {b} other put = record {
  code = put.code ∙ ap (λ (l : List Code). code_in a ++ l) (calls_with callee args caller other (length (code_in a)));
  same = put.same;
}

-- where a block is called, its text is the value
attribute_block : (b : Bool) (e : Expression) (n name : List ℕ) (whole object : Core) (args : List (Passing Core Core)) (named others : List (Passing (List ℕ × Core) Core)) →
    (if b then calls_block n else calls_method e n) ≡ calls_block name →
    called_core (attribute_called b n) whole object args named ≡ called_core (attribute_called b n) whole object args others
attribute_block true e n name whole object args named others is = refl
attribute_block false e n name whole object args named others is = cc

block_as : (callee : Expression) (args : Arguments) (name : List ℕ) (caller : Core) → called_by callee args ≡ calls_block name →
    expression_core (call callee args) ≡ calling_core callee args caller
block_as (variable n) args name caller is = cc
block_as (attribute e n) args name caller is =
    attribute_block (is_self_name e && is_empty args) e n name (expression_core (attribute e n)) (expression_core e) (positional_cores args)
    (keyword_cores args) (and_last args caller) is
block_as e args name caller is = cc

pub puts_block_called : (callee : Expression) (args : Arguments) (name : List ℕ) (caller : Core) {a b : Instructions} →
    called_by callee args ≡ calls_block name → Puts (expression_code (call callee args)) a b → Puts (flat no_ways (calling_core callee args caller)) a b
puts_block_called callee args name caller {a} {b} is put = subst (λ (c : Core). Puts (flat no_ways c) a b) (block_as callee args name caller is) put

-- arguments as they are counted
pub counted_by : {X : Type 0} {front : ℕ} {args : List (Passing X Core)} {code : Coded} {now : Stretches} {a b : Instructions} →
    PassesAll X front args code now a b → AreCounted X front args now
counted_by p = record { lists = p.lists; last = p.last; spread = p.spread }

-- the rest of a call, by what was counted
pub puts_ended : (callee : Expression) (args : Arguments) (begun : BegunCall) (entries maps merged values : ℕ) (count : Option ℕ) {a b c d e : Instructions} →
    ArgumentsBegin (front_count callee) args begun → entries ≡ begun.named.last + 1 → maps ≡ begun.named.lists + at_most_one entries →
    merged ≡ merged_count begun.named.spread maps → values ≡ begun.passed.last + merged → count ≡ (if begun.passed.spread then None else Some values) →
    Puts (mapped_code entries) a b → Puts (merged_code begun.named.spread maps) b c →
    Puts (run_code begun.passed.spread begun.passed.lists values) c d → Puts (one (called_with callee count)) d e →
    Puts (ended_code callee args) a e
puts_ended callee args begun entries maps merged values count {a} {b} {c} {d} {e} is one_more at_maps at_merged at_values at_count first second third last =
    let named = keyword_cores args in
    let front = front_count callee in
    let passed = positional_cores args in
    let rest : entries ≡ suc (rest_count 0 named) = (let l = is.named.last in omega (arith, one_more, l)) in
    let here : maps ≡ begun_maps args =
    at_maps ∙ ap (λ (k : ℕ). begun.named.lists + at_most_one k) rest ∙ ap (λ (k : ℕ). k + 1) is.named.lists in
    let spread = is.named.spread in
    let counted : values ≡ begun_values front args =
    at_values ∙ ap (λ (k : ℕ). k + merged) is.passed.last ∙ ap (λ (k : ℕ). rest_count front passed + k)
    (at_merged ∙ ap (λ (k : ℕ). merged_count begun.named.spread k) here ∙ ap (λ (x : Bool). merged_count x (begun_maps args)) spread) in
    let told : count ≡ (if has_spread passed then None else Some (begun_values front args)) =
    at_count ∙ ap (λ (k : ℕ). if begun.passed.spread then None else Some k) counted ∙
    ap (λ (x : Bool). if x then None else Some (begun_values front args)) is.passed.spread in
    puts_then (subst (λ (k : ℕ). Puts (mapped_code k) a b) rest first)
    (puts_then (subst (λ (x : Bool). Puts (merged_code x (begun_maps args)) b c) spread (subst (λ (k : ℕ). Puts (merged_code begun.named.spread k) b c) here second))
    (puts_then (subst (λ (x : Bool). Puts (run_code x (list_count front passed) (begun_values front args)) c d) is.passed.spread
    (subst (λ (k : ℕ). Puts (run_code begun.passed.spread k (begun_values front args)) c d) is.passed.lists
    (subst (λ (k : ℕ). Puts (run_code begun.passed.spread begun.passed.lists k) c d) counted third)))
    (puts_as (ap (called_with callee) told) last)))

-- what is called where it is neither a name nor a method
pub value_called : (e : Expr) (count : Option ℕ) → ((n : _) → e ≡ Var n → ⊥) → ((n : Box (Spanned GetAttrNode) Global) → e ≡ GetAttr n → ⊥)
    → call_object count ≡ called_with (expression_of e) count
value_called (Var n) count no_name no_method = absurd (no_name n refl)
value_called (GetAttr' p expr name span) count no_name no_method =
    absurd (no_method record { ptr = p.ptr; alloc = p.alloc; value = record { node = record { expr = expr; name = name }; span = span } } refl)
value_called (Compare' p (compared expr shape ops) span) count no_name no_method = refl
value_called _ count no_name no_method = refl

pub value_front : (e : Expr) → ((n : _) → e ≡ Var n → ⊥) → ((n : Box (Spanned GetAttrNode) Global) → e ≡ GetAttr n → ⊥)
    → ◌≡◌ {A = Coded × ℕ} (expression_code (expression_of e), 1) (front_code (expression_of e), front_count (expression_of e))
value_front (Var n) no_name no_method = absurd (no_name n refl)
value_front (GetAttr' p expr name span) no_name no_method =
    absurd (no_method record { ptr = p.ptr; alloc = p.alloc; value = record { node = record { expr = expr; name = name }; span = span } } refl)
value_front (Compare' p (compared expr shape ops) span) no_name no_method = refl
value_front _ no_name no_method = refl
