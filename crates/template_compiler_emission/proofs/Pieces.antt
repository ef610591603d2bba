-- Pieces of code that are put one behind the other, and jumps whose targets are told once they are known.
use Rattle.std.proofs.Common.{◌≡◌, ℕ, ◌+◌, suc, List, [], ◌∷◌, ◌++◌, length, sym, ap, ◌∙◌, append_assoc, add-one, length-append, arith}
use Rattle.std.proofs.Math.ListN.{set}
use Rattle.std.proofs.Math.Seq.{set-append_seam}
use Rattle.std.proofs.lemmas.List.{set_at, length_push}
use Rattle.template_compiler_code.specs.Code.{Code, jump, jump_if_false}
use Rattle.template_compiler_codegen.specs.Expressions.{Coded, then_code, skipped, either_code}

-- one piece, and another one behind it
pub two_pieces : (f g : Coded) (xs ys zs : List Code) → ys ≡ xs ++ f (length xs) → zs ≡ ys ++ g (length ys)
    → zs ≡ xs ++ then_code f g (length xs)
two_pieces f g xs ys zs p q =
    q ∙ ap (λ (l : List Code). l ++ g (length l)) p ∙
    ap (λ (m : ℕ). (xs ++ f (length xs)) ++ g m) (length-append xs (f (length xs))) ∙
    append_assoc xs (f (length xs)) (g (length xs + length (f (length xs))))

-- an instruction behind a list, and more behind that
pub one_more : (xs ys zs rest : List Code) (c : Code) → ys ≡ xs ++ c ∷ [] → zs ≡ ys ++ rest → zs ≡ xs ++ c ∷ rest
one_more xs ys zs rest c p q = q ∙ ap (λ (l : List Code). l ++ rest) p ∙ append_assoc xs (c ∷ []) rest

pub one_longer : (xs ys : List Code) (c : Code) → ys ≡ xs ++ c ∷ [] → length ys ≡ suc (length xs)
one_longer xs ys c p = ap length p ∙ length_push xs c ∙ add-one (length xs)

-- a piece that may be leapt over
pub leapt_over : (leap : ℕ → Code) (f : Coded) (xs ys zs ws : List Code) → ys ≡ xs ++ leap 0 ∷ [] → zs ≡ ys ++ f (length ys)
    → ws ≡ set zs (length xs) (leap (length zs)) → ws ≡ xs ++ skipped leap f (length xs)
leapt_over leap f xs ys zs ws p q r =
    let inner = f (suc (length xs)) in
    let zs_is : zs ≡ xs ++ leap 0 ∷ inner =
    one_more xs ys zs inner (leap 0) p (q ∙ ap (λ (m : ℕ). ys ++ f m) (one_longer xs ys (leap 0) p)) in
    let all = length-append xs (leap 0 ∷ inner) in
    let end : length zs ≡ suc (length xs) + length inner = ap length zs_is ∙ (omega (arith, all)) in
    r ∙ ap (λ (m : ℕ). set zs (length xs) (leap m)) end ∙
    ap (λ (l : List Code). set l (length xs) (leap (suc (length xs) + length inner))) zs_is ∙
    set-append_seam xs (leap 0) inner (leap (suc (length xs) + length inner))

-- two pieces of which the one or the other runs
pub either_one : (f g : Coded) (xs a b c d e h : List Code) → a ≡ xs ++ jump_if_false 0 ∷ [] → b ≡ a ++ f (length a)
    → c ≡ b ++ jump 0 ∷ [] → d ≡ set c (length xs) (jump_if_false (length c)) → e ≡ d ++ g (length d)
    → h ≡ set e (length b) (jump (length e)) → h ≡ xs ++ either_code f g (length xs)
either_one f g xs a b c d e h first then_is leap_is landed else_is last =
    let n = length xs in
    let inner = f (suc n) in
    let begins = suc (suc n + length inner) in
    let other = g begins in
    let b_is : b ≡ xs ++ jump_if_false 0 ∷ inner =
    one_more xs a b inner (jump_if_false 0) first (then_is ∙ ap (λ (m : ℕ). a ++ f m) (one_longer xs a (jump_if_false 0) first)) in
    let b_long : length b ≡ suc n + length inner = ap length b_is ∙ (omega (arith, length-append xs (jump_if_false 0 ∷ inner))) in
    let c_is : c ≡ xs ++ jump_if_false 0 ∷ (inner ++ jump 0 ∷ []) =
    leap_is ∙ ap (λ (l : List Code). l ++ jump 0 ∷ []) b_is ∙ append_assoc xs (jump_if_false 0 ∷ inner) (jump 0 ∷ []) in
    let c_long : length c ≡ begins = one_longer b c (jump 0) leap_is ∙ ap suc b_long in
    let d_is : d ≡ xs ++ jump_if_false begins ∷ (inner ++ jump 0 ∷ []) =
    landed ∙ ap (λ (m : ℕ). set c n (jump_if_false m)) c_long ∙ ap (λ (l : List Code). set l n (jump_if_false begins)) c_is ∙
    set-append_seam xs (jump_if_false 0) (inner ++ jump 0 ∷ []) (jump_if_false begins) in
    let front = xs ++ jump_if_false begins ∷ inner in
    let d_split : d ≡ front ++ jump 0 ∷ [] = d_is ∙ sym (append_assoc xs (jump_if_false begins ∷ inner) (jump 0 ∷ [])) in
    let front_long : length front ≡ length b = omega (arith, length-append xs (jump_if_false begins ∷ inner), b_long) in
    let d_long : length d ≡ begins = one_longer front d (jump 0) d_split ∙ ap suc (front_long ∙ b_long) in
    let e_is : e ≡ front ++ jump 0 ∷ other =
    one_more front d e other (jump 0) d_split (else_is ∙ ap (λ (m : ℕ). d ++ g m) d_long) in
    let e_long : length e ≡ begins + length other = ap length else_is ∙ length-append d (g (length d)) ∙ (ap (λ (m : ℕ). m + length (g m)) d_long) in
    last ∙ ap (λ (m : ℕ). set e (length b) (jump m)) e_long ∙
    ap (λ (l : List Code). set l (length b) (jump (begins + length other))) e_is ∙
    set_at front (jump 0) other (jump (begins + length other)) (length b) front_long ∙
    append_assoc xs (jump_if_false begins ∷ inner) (jump (begins + length other) ∷ other)
