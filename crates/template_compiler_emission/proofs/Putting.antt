-- What was put behind instructions, piece by piece.
use Rattle.std.proofs.Common.{◌≡◌, ◌<◌, ℕ, Bool, cond, ltb, All, List, [], ◌∷◌, ◌++◌, filter, length, take, refl, sym, ap, subst, ◌∙◌, append-nil, append_assoc, length-append, arith}
use Rattle.std.proofs.Math.ListN.{set}
use Rattle.std.proofs.lemmas.Bool.{lt-ltb}
use Rattle.std.proofs.lemmas.List.{length-map, take_at}
use Rattle.std.proofs.lemmas.List.Elements.{All-head, All-tail, filter-append}
use Rattle.template_compiler_code.specs.Code.{Code}
use Rattle.template_compiler_code.specs.declared.marks.Mark.{Mark}
use Rattle.template_compiler_code.specs.Listing.{code_in, places_in, IsSameTemplate}
use Rattle.template_compiler_code.specs.View.{code_of}
use Rattle.template_compiler_code.specs.declared.listing.Instructions.{Instructions}
use Rattle.template_compiler_codegen.specs.Expressions.{Coded, one, nothing, then_code, skipped, either_code}
use Rattle.template_compiler_emission.specs.declared.leaps.Leap.{Leap}
use Rattle.template_compiler_emission.specs.declared.leaps.Leap.TheVariants.{Always, IfFalse}
use Rattle.template_compiler_emission.specs.Leaps.{leap_code}
use Rattle.template_compiler_emission.specs.Puts.{Keeps, Puts}
use Rattle.template_compiler_emission.proofs.Pieces.{two_pieces, leapt_over, either_one}

-- no mark is added, or one
pub keeps_places : {a b : Instructions} → IsSameTemplate a b → places_in b ≡ places_in a → Keeps a b
keeps_places {a} {b} p q = record { name = p.name; source = p.source; later = []; places = q ∙ sym (append-nil (places_in a)) }

pub keeps_more : {a b : Instructions} (mark : Mark) → IsSameTemplate a b → places_in b ≡ places_in a ++ mark ∷ [] → Keeps a b
keeps_more mark p q = record { name = p.name; source = p.source; later = mark ∷ []; places = q }

pub same_itself : (a : Instructions) → Keeps a a
same_itself a = record { name = refl; source = refl; later = []; places = sym (append-nil (places_in a)) }

pub same_then : {a b c : Instructions} → Keeps a b → Keeps b c → Keeps a c
same_then {a} {b} {c} p q = record {
  name = q.name ∙ p.name;
  source = q.source ∙ p.source;
  later = p.later ++ q.later;
  places = q.places ∙ ap (λ (l : List Mark). l ++ q.later) p.places ∙ append_assoc (places_in a) p.later q.later;
}

pub puts_nothing : (a : Instructions) → Puts nothing a a
puts_nothing a = record { code = sym (append-nil (code_in a)); same = same_itself a }

pub puts_then : {f g : Coded} {a b c : Instructions} → Puts f a b → Puts g b c → Puts (then_code f g) a c
puts_then {f} {g} {a} {b} {c} p q =
    record { code = two_pieces f g (code_in a) (code_in b) (code_in c) p.code q.code; same = same_then p.same q.same }

pub puts_skipped : (leap : Leap) {f : Coded} {a b c d : Instructions} → Puts (one (leap_code leap 0)) a b → Puts f b c
    → code_in d ≡ set (code_in c) (length (code_in a)) (leap_code leap (length (code_in c))) → Keeps c d
    → Puts (skipped (leap_code leap) f) a d
puts_skipped leap {f} {a} {b} {c} {d} p q landed same = record {
  code = leapt_over (leap_code leap) f (code_in a) (code_in b) (code_in c) (code_in d) p.code q.code landed;
  same = same_then p.same (same_then q.same same);
}

pub puts_either : {f g : Coded} {x a b c d e h : Instructions} → Puts (one (leap_code IfFalse 0)) x a → Puts f a b
    → Puts (one (leap_code Always 0)) b c → code_in d ≡ set (code_in c) (length (code_in x)) (leap_code IfFalse (length (code_in c)))
    → Keeps c d → Puts g d e → code_in h ≡ set (code_in e) (length (code_in b)) (leap_code Always (length (code_in e)))
    → Keeps e h → Puts (either_code f g) x h
puts_either {f} {g} {x} {a} {b} {c} {d} {e} {h} first branch leap landed same other last same_last = record {
  code = either_one f g (code_in x) (code_in a) (code_in b) (code_in c) (code_in d) (code_in e) (code_in h) first.code branch.code leap.code landed
      other.code last;
  same = same_then first.same (same_then branch.same (same_then leap.same (same_then same (same_then other.same same_last))));
}

-- marks within the code stay where it is cut behind it
kept_within : (n : ℕ) (marks : List Mark) → All (λ m. m.start < n) marks → filter (λ m. ltb m.start n) marks ≡ marks
kept_within n [] within = refl
kept_within n (m ∷ marks) within =
    let rest = filter (λ (x : Mark). ltb x.start n) marks in
    ap (λ (b : Bool). cond b (m ∷ rest) rest) (lt-ltb m.start n (All-head (λ (x : Mark). x.start < n) m marks within)) ∙
    ap (λ (l : List Mark). m ∷ l) (kept_within n marks (All-tail (λ (x : Mark). x.start < n) m marks within))

pub keeps_cut : {a b c : Instructions} → Keeps a b → IsSameTemplate b c
    → places_in c ≡ filter (λ m. ltb m.start (length (code_in a))) (places_in b) → Keeps a c
keeps_cut {a} {b} {c} p same cut =
    let n = length (code_in a) in
    let long : length a.code.items ≡ n = sym (length-map a.code.items code_of) in
    let within : All (λ m. m.start < n) (places_in a) = subst (λ (k : ℕ). All (λ m. m.start < k) (places_in a)) long a.placed in
    record {
      name = same.name ∙ p.name;
      source = same.source ∙ p.source;
      later = filter (λ m. ltb m.start n) p.later;
      places = cut ∙ ap (λ (l : List Mark). filter (λ m. ltb m.start n) l) p.places ∙
          filter-append (λ (m : Mark). ltb m.start n) (places_in a) p.later ∙
          ap (λ (l : List Mark). l ++ filter (λ m. ltb m.start n) p.later) (kept_within n (places_in a) within);
    }

-- what was put is dropped again
pub puts_back : {f : Coded} {a b c : Instructions} → Puts f a b → code_in c ≡ take (length (code_in a)) (code_in b) → IsSameTemplate b c
    → places_in c ≡ filter (λ m. ltb m.start (length (code_in a))) (places_in b) → Puts nothing a c
puts_back {f} {a} {b} {c} p dropped same cut = record {
  code = dropped ∙ ap (λ (l : List Code). take (length (code_in a)) l) p.code ∙
      take_at (code_in a) (f (length (code_in a))) (length (code_in a)) refl ∙ sym (append-nil (code_in a));
  same = keeps_cut p.same same cut;
}

-- the place of what was put first stays within the code
pub first_within : {x : Code} {f : Coded} {a b c : Instructions} → Puts (one x) a b → Puts f b c → length (code_in a) < length (code_in c)
first_within {x} {f} {a} {b} {c} p q =
    omega (arith, ap length p.code ∙ length-append (code_in a) (x ∷ []), ap length q.code ∙ length-append (code_in b) (f (length (code_in b))))
