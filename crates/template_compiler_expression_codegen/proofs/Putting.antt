-- What was put behind instructions of trees whose constant is held back.
use Rattle.std.proofs.Common.{◌≡◌, [], ◌++◌, ℕ, ltb, List, filter, length, take, Option, sym, ap, subst, ◌∙◌, append-nil, append_assoc, refl}
use Rattle.std.proofs.Math.ListN.{set}
use Rattle.std.proofs.lemmas.List.{take_at}
use Rattle.template_values_model.specs.Val.{Val}
use Rattle.template_compiler_tree.specs.declared.operators.CompareOpKind.{CompareOpKind}
use Rattle.template_compiler_tree.specs.Tree.{Expression, Links, Optional, links_more}
use Rattle.template_compiler_walk.specs.Constants.{constant_of}
use Rattle.template_compiler_code.specs.Code.{Code, swap, discard_top}
use Rattle.template_compiler_code.specs.Listing.{code_in, places_in, IsSameTemplate}
use Rattle.template_compiler_code.specs.declared.listing.Instructions.{Instructions}
use Rattle.template_compiler_codegen.specs.Expressions.{Coded, one, nothing, expression_code, optional_code, linked_code, chain_code}
use Rattle.template_compiler_emission.specs.declared.leaps.Leap.{Leap}
use Rattle.template_compiler_emission.specs.Leaps.{leap_code}
use Rattle.template_compiler_emission.specs.Puts.{Keeps, Puts, unless, held, behind}
use Rattle.template_compiler_emission.proofs.Putting.{keeps_cut, same_itself, same_then, puts_back, puts_then}
use Rattle.template_compiler_expression_codegen.specs.Chains.{Grows, link_code, linked_to, leaps_in, leapt}
use Rattle.template_compiler_expression_codegen.proofs.Linked.{linked_whole}
use Rattle.template_compiler_expression_codegen.proofs.Own.{whole, loaded_behind}

pub puts_whole : (t : Expression) {o : Option Val} {a b c : Instructions} → o ≡ constant_of t → Puts (unless o (expression_code t)) a b
    → Puts (held o) b c → Puts (expression_code t) a c
puts_whole t {o} {a} {b} {c} is p q =
    record { code = whole t o (code_in a) (code_in b) (code_in c) is p.code q.code; same = same_then p.same q.same }

pub puts_behind : (k : Option Val) {f : Coded} {a b c : Instructions} → Puts (held k) a b → Puts f b c → Puts (behind k f) a c
puts_behind k {f} {a} {b} {c} p q =
    record { code = loaded_behind k f (code_in a) (code_in b) (code_in c) p.code q.code; same = same_then p.same q.same }

pub puts_as : {x y : Code} {a b : Instructions} → x ≡ y → Puts (one x) a b → Puts (one y) a b
puts_as {x} {y} {a} {b} same p = subst (λ (c : Code). Puts (one c) a b) same p

pub grows_itself : (a : Instructions) → Grows a a
grows_itself a = record { rest = []; code = sym (append-nil (code_in a)); same = same_itself a }

pub grows_by : {f : Coded} {a b : Instructions} → Puts f a b → Grows a b
grows_by {f} {a} {b} p = record { rest = f (length (code_in a)); code = p.code; same = p.same }

pub grows_then : {a b c : Instructions} → Grows a b → Grows b c → Grows a c
grows_then {a} {b} {c} p q = record {
  rest = p.rest ++ q.rest;
  code = q.code ∙ ap (λ (l : List Code). l ++ q.rest) p.code ∙ append_assoc (code_in a) p.rest q.rest;
  same = same_then p.same q.same;
}

-- what stands behind the instructions is dropped again
pub grows_back : {a b c : Instructions} → Grows a b → code_in c ≡ take (length (code_in a)) (code_in b) → IsSameTemplate b c
    → places_in c ≡ filter (λ m. ltb m.start (length (code_in a))) (places_in b) → Puts nothing a c
grows_back {a} {b} {c} p dropped same cut = record {
  code = dropped ∙ ap (λ (l : List Code). take (length (code_in a)) l) p.code ∙ take_at (code_in a) p.rest (length (code_in a)) refl ∙
      sym (append-nil (code_in a));
  same = keeps_cut p.same same cut;
}

-- the same where a place is known to be the one up to which it is dropped
pub puts_back_at : {f : Coded} {a b c : Instructions} (n : ℕ) → n ≡ length (code_in a) → Puts f a b → code_in c ≡ take n (code_in b)
    → IsSameTemplate b c → places_in c ≡ filter (λ m. ltb m.start n) (places_in b) → Puts nothing a c
puts_back_at {f} {a} {b} {c} n at p dropped same cut =
    puts_back p (dropped ∙ ap (λ (k : ℕ). take k (code_in b)) at) same
    (cut ∙ ap (λ (k : ℕ). filter (λ m. ltb m.start k) (places_in b)) at)

pub grows_back_at : {a b c : Instructions} (n : ℕ) → n ≡ length (code_in a) → Grows a b → code_in c ≡ take n (code_in b)
    → IsSameTemplate b c → places_in c ≡ filter (λ m. ltb m.start n) (places_in b) → Puts nothing a c
grows_back_at {a} {b} {c} n at p dropped same cut =
    grows_back p (dropped ∙ ap (λ (k : ℕ). take k (code_in b)) at) same
    (cut ∙ ap (λ (k : ℕ). filter (λ m. ltb m.start k) (places_in b)) at)

-- a chain whose leaps were told their target
pub puts_chain : (op : CompareOpKind) (e : Expression) (links : Links) (leaps : List ℕ) {a b c d x y : Instructions} → Puts (link_code op e) a b
    → Puts (linked_to 0 links) b c → leaps ≡ leaps_in links (length (code_in b)) → code_in d ≡ leapt (length (code_in c)) leaps (code_in c)
    → Keeps c d → Puts (one swap) d x → Puts (one discard_top) x y → Puts (chain_code (links_more op e links)) a y
puts_chain op e links leaps {a} {b} {c} {d} {x} {y} first more places told same swapped discarded =
    let linked : Puts (linked_code links) b d = record {
      code = linked_whole links (code_in b) (code_in c) (code_in d) more.code (told ∙ ap (λ (ls : List ℕ). leapt (length (code_in c)) ls (code_in c)) places);
      same = same_then more.same same;
    } in
    puts_then first (puts_then linked (puts_then swapped discarded))

pub puts_optional : {m n : Val} (o : Optional) {a b : Instructions} → m ≡ n → Puts (optional_code m o) a b → Puts (optional_code n o) a b
puts_optional {m} {n} o {a} {b} same p = subst (λ (v : Val). Puts (optional_code v o) a b) same p

-- a jump whose place is known was told its target
pub landed_at : (leap : Leap) (place : ℕ) (xs ys zs : List Code) → place ≡ length xs → zs ≡ set ys place (leap_code leap (length ys))
    → zs ≡ set ys (length xs) (leap_code leap (length ys))
landed_at leap place xs ys zs at landed = landed ∙ ap (λ (m : ℕ). set ys m (leap_code leap (length ys))) at
