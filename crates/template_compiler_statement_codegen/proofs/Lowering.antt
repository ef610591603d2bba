-- What was put for statements, piece by piece.
use Rattle.std.proofs.Common.{◌≡◌, ℕ, ◌+◌, suc, List, [], ◌∷◌, ◌++◌, length, refl, sym, ap, ◌∙◌, append-nil, append_assoc, length-append}
use Rattle.std.proofs.Math.ListN.{set}
use Rattle.std.proofs.lemmas.List.{length-set}
use Rattle.template_compiler_code.specs.Code.{Code, jump, jump_if_false}
use Rattle.template_compiler_code.specs.Listing.{code_in}
use Rattle.template_compiler_code.specs.declared.listing.Instructions.{Instructions}
use Rattle.template_compiler_codegen.specs.Expressions.{Coded, one, nothing, then_code, skipped, either_code}
use Rattle.template_compiler_codegen.specs.Statements.{Ways}
use Rattle.template_compiler_emission.specs.declared.leaps.Leap.{Leap}
use Rattle.template_compiler_emission.specs.declared.leaps.Leap.TheVariants.{Always, IfFalse}
use Rattle.template_compiler_emission.specs.Leaps.{leap_code}
use Rattle.template_compiler_emission.specs.Puts.{Keeps, Puts}
use Rattle.template_compiler_emission.proofs.Pieces.{two_pieces, one_longer, either_one}
use Rattle.template_compiler_emission.proofs.Putting.{same_itself, same_then, puts_then, puts_skipped}
use Rattle.template_compiler_statement_codegen.specs.Breaks.{Places, no_places, then_places, next_places, either_places, led}
use Rattle.template_compiler_statement_codegen.proofs.Leading.{led-append}
use Rattle.template_compiler_statement_codegen.specs.Rounds.{Lowers, Remains, closed_by, ways_of}
use Rattle.template_compiler_statement_codegen.specs.declared.rounds.Closing.{Closing}
use Rattle.template_compiler_statement_codegen.specs.declared.rounds.Round.{Round}

abbrev pub ways_at : List Code → ℕ → Ways
ways_at closings asks = record { closings = closings; break_to = 0; continue_to = asks }

abbrev pub ways_with : List Closing → ℕ → Ways
ways_with closings asks = ways_at (closed_by closings) asks

-- the ways out stay where what is open stays, and the place of asking
pub same_ways : (r s : Round) → s.asks ≡ r.asks → s.closings.items ≡ r.closings.items → ways_of s ≡ ways_of r
same_ways r s asks closings =
    ap (λ (n : ℕ). ways_with s.closings.items n) asks ∙ ap (λ (cs : List Closing). ways_with cs r.asks) closings

pub lowers_put : {f : Coded} {a b : Instructions} (r : Round) → Puts f a b → Lowers f no_places a b r r
lowers_put {f} {a} {b} r p = record { put = p; breaks = sym (append-nil r.breaks.items); asks = refl; closings = refl }

pub lowers_then : {f g : Coded} {ps qs : Places} {a b c : Instructions} {r s t : Round} → Lowers f ps a b r s → Lowers g qs b c s t
    → Lowers (then_code f g) (then_places f ps qs) a c r t
lowers_then {f} {g} {ps} {qs} {a} {b} {c} {r} {s} {t} p q =
    let n = length (code_in a) in
    let at : length (code_in b) ≡ n + length (f n) = ap length p.put.code ∙ length-append (code_in a) (f n) in
    record {
      put = puts_then p.put q.put;
      breaks = q.breaks ∙ ap (λ (l : List ℕ). l ++ qs (length (code_in b))) p.breaks ∙
          append_assoc r.breaks.items (ps n) (qs (length (code_in b))) ∙ ap (λ (m : ℕ). r.breaks.items ++ (ps n ++ qs m)) at;
      asks = q.asks ∙ p.asks;
      closings = q.closings ∙ p.closings;
    }

-- behind a piece without breaks, and before one
pub lowers_behind : {f g : Coded} {qs : Places} {a b c : Instructions} {r t : Round} → Puts f a b → Lowers g qs b c r t
    → Lowers (then_code f g) (then_places f no_places qs) a c r t
lowers_behind {f} {g} {qs} {a} {b} {c} {r} {t} p q = lowers_then (lowers_put r p) q

pub lowers_before : {f g : Coded} {ps : Places} {a b c : Instructions} {r s : Round} → Lowers f ps a b r s → Puts g b c
    → Lowers (then_code f g) (then_places f ps no_places) a c r s
lowers_before {f} {g} {ps} {a} {b} {c} {r} {s} p q = lowers_then p (lowers_put s q)

-- a piece that may be leapt over
pub lowers_skipped : (leap : Leap) {f : Coded} {ps : Places} {a b c d : Instructions} {r s : Round} → Puts (one (leap_code leap 0)) a b
    → Lowers f ps b c r s → code_in d ≡ set (code_in c) (length (code_in a)) (leap_code leap (length (code_in c))) → Keeps c d
    → Lowers (skipped (leap_code leap) f) (next_places ps) a d r s
lowers_skipped leap {f} {ps} {a} {b} {c} {d} {r} {s} first p landed same = record {
  put = puts_skipped leap first p.put landed same;
  breaks = p.breaks ∙ ap (λ (m : ℕ). r.breaks.items ++ ps m) (one_longer (code_in a) (code_in b) (leap_code leap 0) first.code);
  asks = p.asks;
  closings = p.closings;
}

led_long : (to : ℕ) (ps : List ℕ) (code : List Code) → length (led to ps code) ≡ length code
led_long to [] code = refl
led_long to (p ∷ ps) code = length-set (led to ps code) p (jump to) ∙ led_long to ps code

-- all is left at first
pub remains_all : (f : Coded) (ps : Places) (a : Instructions) (r : Round) → Remains f ps f ps [] a a r r
remains_all f ps a r = record { code = refl; breaks = refl; same = same_itself a; asks = refl; closings = refl }

-- one piece of what is left
pub remains_then : {piece f g : Coded} {places ps qs : Places} {a b c : Instructions} {r s t : Round}
    → Remains piece places (then_code f g) (then_places f ps qs) [] a b r s → Lowers f ps b c s t → Remains piece places g qs [] a c r t
remains_then {piece} {f} {g} {places} {ps} {qs} {a} {b} {c} {r} {s} {t} p q =
    let n = length (code_in b) in
    let m = length (code_in c) in
    let at : m ≡ n + length (f n) = ap length q.put.code ∙ length-append (code_in b) (f n) in
    record {
      code = two_pieces f g (code_in b) (code_in c) (code_in c ++ g m) q.put.code refl ∙ p.code;
      breaks = ap (λ (l : List ℕ). l ++ qs m) q.breaks ∙ append_assoc s.breaks.items (ps n) (qs m) ∙
          ap (λ (k : ℕ). s.breaks.items ++ (ps n ++ qs k)) at ∙ p.breaks;
      same = same_then p.same q.put.same;
      asks = q.asks ∙ p.asks;
      closings = q.closings ∙ p.closings;
    }

-- the last piece of what is left
pub remains_last : {piece f : Coded} {places ps : Places} {ends : List ℕ} {a b c : Instructions} {r s t : Round}
    → Remains piece places f ps ends a b r s → Lowers f ps b c s t → Remains piece places nothing no_places ends a c r t
remains_last {piece} {f} {places} {ps} {ends} {a} {b} {c} {r} {s} {t} p q = record {
  code = ap (λ (l : List Code). led (length l) ends l) (append-nil (code_in c) ∙ q.put.code) ∙ p.code;
  breaks = append-nil t.breaks.items ∙ q.breaks ∙ p.breaks;
  same = same_then p.same q.put.same;
  asks = q.asks ∙ p.asks;
  closings = q.closings ∙ p.closings;
}

-- nothing is left
pub remains_none : {piece : Coded} {places : Places} {a b : Instructions} {r s : Round} → Remains piece places nothing no_places [] a b r s
    → Lowers piece places a b r s
remains_none {piece} {places} {a} {b} {r} {s} p = record {
  put = record { code = sym (append-nil (code_in b)) ∙ p.code; same = p.same };
  breaks = sym (append-nil s.breaks.items) ∙ p.breaks;
  asks = p.asks;
  closings = p.closings;
}

-- nothing is left but the jumps to the end
pub remains_told : {piece : Coded} {places : Places} {ends : List ℕ} {a b c : Instructions} {r s : Round}
    → Remains piece places nothing no_places ends a b r s → code_in c ≡ led (length (code_in b)) ends (code_in b) → Keeps b c
    → Lowers piece places a c r s
remains_told {piece} {places} {ends} {a} {b} {c} {r} {s} p told same = record {
  put = record {
    code = told ∙ ap (λ (l : List Code). led (length l) ends l) (sym (append-nil (code_in b))) ∙ p.code;
    same = same_then p.same same;
  };
  breaks = sym (append-nil s.breaks.items) ∙ p.breaks;
  asks = p.asks;
  closings = p.closings;
}

-- a piece is left, and nothing behind it
pub remains_one : {piece f : Coded} {places ps : Places} {ends : List ℕ} {a b : Instructions} {r s : Round}
    → Remains piece places (then_code f nothing) (then_places f ps no_places) ends a b r s → Remains piece places f ps ends a b r s
remains_one {piece} {f} {places} {ps} {ends} {a} {b} {r} {s} p =
    let n = length (code_in b) in
    record {
      code = ap (λ (k : List Code). let l = code_in b ++ k in led (length l) ends l) (sym (append-nil (f n))) ∙ p.code;
      breaks = ap (λ (k : List ℕ). s.breaks.items ++ k) (sym (append-nil (ps n))) ∙ p.breaks;
      same = p.same;
      asks = p.asks;
      closings = p.closings;
    }

-- what was left of a piece is itself a piece of which something is left
pub remains_trans : {f g h : Coded} {ps qs us : Places} {ends more : List ℕ} {a b c : Instructions} {r s t : Round}
    → Remains f ps g qs ends a b r s → Remains g qs h us more b c s t → Remains f ps h us (ends ++ more) a c r t
remains_trans {f} {g} {h} {ps} {qs} {us} {ends} {more} {a} {b} {c} {r} {s} {t} p q =
    let all = code_in c ++ h (length (code_in c)) in
    let middle = code_in b ++ g (length (code_in b)) in
    let long : length all ≡ length middle = sym (led_long (length all) more all) ∙ ap length q.code in
    record {
      code = led-append (length all) ends more all ∙ ap (λ (l : List Code). led (length all) ends l) q.code ∙
          ap (λ (i : ℕ). led i ends middle) long ∙ p.code;
      breaks = q.breaks ∙ p.breaks;
      same = same_then p.same q.same;
      asks = q.asks ∙ p.asks;
      closings = q.closings ∙ p.closings;
    }

-- a test and its branch: nothing is left
pub branch_alone : {e f : Coded} {ps : Places} {b x y z d : Instructions} {s t : Round}
    → Puts e b x → Puts (one (leap_code IfFalse 0)) x y → Lowers f ps y z s t
    → code_in d ≡ set (code_in z) (length (code_in x)) (leap_code IfFalse (length (code_in z))) → Keeps z d
    → Remains (then_code e (skipped jump_if_false f)) (then_places e no_places (next_places ps)) nothing no_places [] b d s t
branch_alone {e} {f} {ps} {b} {x} {y} {z} {d} {s} {t} test first branch landed same =
    let whole = lowers_behind test (lowers_skipped IfFalse first branch landed same) in
    record {
      code = append-nil (code_in d) ∙ whole.put.code;
      breaks = append-nil t.breaks.items ∙ whole.breaks;
      same = whole.put.same;
      asks = whole.asks;
      closings = whole.closings;
    }

-- a test and its branch: what runs where it does not hold is left, and a jump to the end
pub branch_before : {e f g : Coded} {ps qs : Places} {b x y z c d : Instructions} {s t : Round}
    → Puts e b x → Puts (one (leap_code IfFalse 0)) x y → Lowers f ps y z s t → Puts (one (leap_code Always 0)) z c
    → code_in d ≡ set (code_in c) (length (code_in x)) (leap_code IfFalse (length (code_in c))) → Keeps c d
    → Remains (then_code e (either_code f g)) (then_places e no_places (either_places f ps qs)) g qs (length (code_in z) ∷ []) b d s t
branch_before {e} {f} {g} {ps} {qs} {b} {x} {y} {z} {c} {d} {s} {t} test first branch leap landed same =
    let n = length (code_in b) in
    let k = length (code_in x) in
    let m = length (code_in z) in
    let k_is : k ≡ n + length (e n) = ap length test.code ∙ length-append (code_in b) (e n) in
    let y_long : length (code_in y) ≡ suc k = one_longer (code_in x) (code_in y) (jump_if_false 0) first.code in
    let m_is : m ≡ suc k + length (f (suc k)) =
    ap length branch.put.code ∙ length-append (code_in y) (f (length (code_in y))) ∙ ap (λ (i : ℕ). i + length (f i)) y_long in
    let c_long : length (code_in c) ≡ suc m = one_longer (code_in z) (code_in c) (jump 0) leap.code in
    let d_long : length (code_in d) ≡ suc (suc k + length (f (suc k))) =
    ap length landed ∙ length-set (code_in c) k (jump_if_false (length (code_in c))) ∙ c_long ∙ ap suc m_is in
    let all = code_in d ++ g (length (code_in d)) in
    let told = set all m (jump (length all)) in
    record {
      code = two_pieces e (either_code f g) (code_in b) (code_in x) told test.code
          (either_one f g (code_in x) (code_in y) (code_in z) (code_in c) (code_in d) all told first.code branch.put.code leap.code landed refl refl);
      breaks = ap (λ (l : List ℕ). l ++ qs (length (code_in d))) branch.breaks ∙
          append_assoc s.breaks.items (ps (length (code_in y))) (qs (length (code_in d))) ∙
          ap (λ (i : ℕ). s.breaks.items ++ (ps i ++ qs (length (code_in d)))) y_long ∙
          ap (λ (i : ℕ). s.breaks.items ++ (ps (suc k) ++ qs i)) d_long ∙
          ap (λ (i : ℕ). s.breaks.items ++ either_places f ps qs i) k_is;
      same = same_then test.same (same_then first.same (same_then branch.put.same (same_then leap.same same)));
      asks = branch.asks;
      closings = branch.closings;
    }
