-- Operators behind their operands, of which each is dropped again, or put whole.
use Rattle.std.proofs.Common.{◌≡◌, ◌++◌, ℕ, false, is_some, List, length, Option, None, Some, Result, Ok, Err, sym, ap, subst, ◌∙◌, append-nil}
use Rattle.std.specs.Prelude.{OnOk}
use Rattle.std.proofs.Math.ListN.{set}
use Rattle.template_values_model.specs.Val.{Val}
use Rattle.template_compiler_tree.specs.Tree.{Expression}
use Rattle.template_compiler_walk.specs.Constants.{constant_of}
use Rattle.template_compiler_code.specs.Code.{Code}
use Rattle.template_compiler_code.specs.Listing.{code_in}
use Rattle.template_compiler_code.specs.declared.listing.Instructions.{Instructions}
use Rattle.template_compiler_codegen.specs.Expressions.{Coded, one, nothing, then_code, skipped, expression_code}
use Rattle.template_compiler_emission.specs.declared.leaps.Leap.{Leap}
use Rattle.template_compiler_emission.specs.Leaps.{leap_code}
use Rattle.template_compiler_emission.specs.Puts.{Puts, unless, held, behind}
use Rattle.template_compiler_emission.proofs.Putting.{same_then, puts_then, puts_skipped}
use Rattle.template_compiler_expression_codegen.specs.Ends.{CutOr, Lands}
use Rattle.template_compiler_expression_codegen.proofs.Own.{constants_load}
use Rattle.template_compiler_expression_codegen.proofs.Putting.{puts_back_at, puts_behind, puts_whole}

after_nothing : {f : Coded} {a b c : Instructions} → Puts nothing a b → Puts f b c → Puts f a c
after_nothing {f} {a} {b} {c} p q = record {
  code = q.code ∙ ap (λ (l : List Code). l ++ f (length l)) (p.code ∙ append-nil (code_in a));
  same = same_then p.same q.same;
}

-- code behind an operand, which is loaded first where it was held back
pub puts_over : (e : Expression) (f : Coded) (k : Option Val) {a b c : Instructions} → k ≡ constant_of e
    → Puts (unless k (expression_code e)) a b → Puts (behind k f) b c → Puts (then_code (expression_code e) f) a c
puts_over e f None is p q = puts_then p q
puts_over e f (Some v) {a} {b} {c} is p q =
    subst (λ (g : Coded). Puts (then_code g f) a c) (sym (constants_load e v (sym is))) (after_nothing p q)

pub ends_unary : {X E : Type 0} (e : Expression) (f : Coded) (n : ℕ) (k o : Option Val) (r : Result X E) {a b : Instructions}
    (c : Instructions) → n ≡ length (code_in a) → k ≡ constant_of e → Puts (unless k (expression_code e)) a b
    → OnOk r (CutOr n o b c (Puts (behind k f) b c)) → OnOk r (Puts (unless o (then_code (expression_code e) f)) a c)
ends_unary e f n k (Some v) (Ok _) c at is p q = puts_back_at n at p q.kept q.same q.places
ends_unary e f n k None (Ok _) c at is p q = puts_over e f k is p q
ends_unary e f n k o (Err x) c at is p q = tt

pub ends_operator : (left : Option Val) (e : Expression) (f : Coded) (n : ℕ) (k o : Option Val) {a m b : Instructions}
    (c : Instructions) → n ≡ length (code_in a) → Puts (held left) a m → k ≡ constant_of e
    → Puts (unless k (expression_code e)) m b → CutOr n o b c (Puts (behind k f) b c)
    → Puts (unless o (behind left (then_code (expression_code e) f))) a c
ends_operator left e f n k (Some v) c at l is p q = puts_back_at n at (puts_then l p) q.kept q.same q.places
ends_operator left e f n k None c at l is p q = puts_behind left l (puts_over e f k is p q)

pub ends_choice : (left : Option Val) (e : Expression) (leap : Leap) (n jump : ℕ) (k o : Option Val)
    {a m x b : Instructions} (c : Instructions) → n ≡ length (code_in a) → Puts (held left) a m → jump ≡ length (code_in m)
    → Puts (one (leap_code leap 0)) m x → k ≡ constant_of e → Puts (unless k (expression_code e)) x b
    → CutOr n o b c (Lands jump leap (held k) b c)
    → Puts (unless o (behind left (skipped (leap_code leap) (expression_code e)))) a c
ends_choice left e leap n jump k (Some v) c at l place j is p q =
    puts_back_at n at (puts_then l (puts_then j p)) q.kept q.same q.places
ends_choice left e leap n jump k None c at l place j is p q =
    puts_behind left l (puts_skipped leap j (puts_whole e is p q.put)
    (q.landed ∙ ap (λ (i : ℕ). set (code_in q.mid) i (leap_code leap (length (code_in q.mid)))) place) q.same)

-- behind a left side that was put
pub choice_behind_none : (k : Option Val) (leap : Leap) (f : Coded) {a d : Instructions} → is_some k ≡ false
    → Puts (skipped (leap_code leap) f) a d → Puts (unless k (behind k (skipped (leap_code leap) f))) a d
choice_behind_none None leap f none put = put
choice_behind_none (Some v) leap f none put = cc
