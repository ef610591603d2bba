-- The rounds of a loop, whose end is told once it is known: to the asking, and then to the breaks.
use Rattle.std.proofs.Common.{◌≡◌, ℕ, ◌+◌, suc, List, [], ◌∷◌, ◌++◌, length, refl, sym, ap, ◌∙◌, append_assoc, length-append, arith}
use Rattle.std.proofs.Math.ListN.{set}
use Rattle.std.proofs.Math.Seq.{set-append_seam}
use Rattle.std.proofs.lemmas.List.{length-set}
use Rattle.template_compiler_tree.specs.Tree.{Statements}
use Rattle.template_compiler_code.specs.Code.{Code, jump, iterate}
use Rattle.template_compiler_codegen.specs.Expressions.{Coded}
use Rattle.template_compiler_codegen.specs.Statements.{own_ways, rounds_code, statements_code}
use Rattle.template_compiler_codegen.proofs.Lengths.{long_statements}
use Rattle.template_compiler_emission.proofs.Pieces.{one_more, one_longer}
use Rattle.template_compiler_statement_codegen.specs.Breaks.{breaks_in, led}
use Rattle.template_compiler_statement_codegen.proofs.Leading.{leads_statements}

pub rounds_told : (target : Coded) (body : Statements) (xs a b c d e f : List Code) → a ≡ xs ++ iterate 0 ∷ [] → b ≡ a ++ target (length a)
    → c ≡ b ++ statements_code (own_ways 0 (length xs)) body (length b) → d ≡ c ++ jump (length xs) ∷ []
    → e ≡ set d (length xs) (iterate (length d)) → f ≡ led (length e) (breaks_in (own_ways 0 (length xs)) body (length b)) e
    → f ≡ xs ++ rounds_code target (λ break_to continue_to. statements_code (own_ways break_to continue_to) body) (length xs)
rounds_told target body xs a b c d e f first stored_is body_is back landed told =
    let n = length xs in
    let w = own_ways 0 n in
    let stored = target (suc n) in
    let begins = suc n + length stored in
    let inner = statements_code w body begins in
    let ends = suc (begins + length (statements_code (own_ways 0 0) body begins)) in
    let b_is : b ≡ xs ++ iterate 0 ∷ stored =
    one_more xs a b stored (iterate 0) first (stored_is ∙ ap (λ (m : ℕ). a ++ target m) (one_longer xs a (iterate 0) first)) in
    let b_long : length b ≡ begins = ap length b_is ∙ (omega (arith, length-append xs (iterate 0 ∷ stored))) in
    let c_is : c ≡ xs ++ iterate 0 ∷ (stored ++ inner) =
    body_is ∙ ap (λ (m : ℕ). b ++ statements_code w body m) b_long ∙ ap (λ (l : List Code). l ++ inner) b_is ∙
    append_assoc xs (iterate 0 ∷ stored) inner in
    let d_is : d ≡ xs ++ iterate 0 ∷ ((stored ++ inner) ++ jump n ∷ []) =
    back ∙ ap (λ (l : List Code). l ++ jump n ∷ []) c_is ∙ append_assoc xs (iterate 0 ∷ (stored ++ inner)) (jump n ∷ []) in
    let c_long : length c ≡ begins + length inner =
    ap length body_is ∙ length-append b (statements_code w body (length b)) ∙ ap (λ (m : ℕ). m + length (statements_code w body m)) b_long in
    let long : length inner ≡ length (statements_code (own_ways 0 0) body begins) = long_statements body w (own_ways 0 0) refl begins in
    let d_long : length d ≡ ends = one_longer c d (jump n) back ∙ ap suc (c_long ∙ ap (λ (m : ℕ). begins + m) long) in
    let e_is : e ≡ xs ++ iterate ends ∷ ((stored ++ inner) ++ jump n ∷ []) =
    landed ∙ ap (λ (m : ℕ). set d n (iterate m)) d_long ∙ ap (λ (l : List Code). set l n (iterate ends)) d_is ∙
    set-append_seam xs (iterate 0) ((stored ++ inner) ++ jump n ∷ []) (iterate ends) in
    let front = xs ++ iterate ends ∷ stored in
    let front_long : length front ≡ begins = omega (arith, length-append xs (iterate ends ∷ stored)) in
    let e_split : e ≡ front ++ (inner ++ jump n ∷ []) =
    e_is ∙ ap (λ (l : List Code). xs ++ iterate ends ∷ l) (append_assoc stored inner (jump n ∷ [])) ∙
    sym (append_assoc xs (iterate ends ∷ stored) (inner ++ jump n ∷ [])) in
    let e_long : length e ≡ ends = ap length landed ∙ length-set d n (iterate (length d)) ∙ d_long in
    let led_is : led ends (breaks_in w body begins) (front ++ (inner ++ jump n ∷ [])) ≡ front ++ (statements_code (own_ways ends n) body begins ++ jump n ∷ []) =
    ap (λ (m : ℕ). led ends (breaks_in w body m) (front ++ (statements_code w body m ++ jump n ∷ []))) (sym front_long) ∙
    leads_statements ends body w front (jump n ∷ []) ∙
    ap (λ (m : ℕ). front ++ (statements_code (own_ways ends n) body m ++ jump n ∷ [])) front_long in
    told ∙ ap (λ (m : ℕ). led m (breaks_in w body (length b)) e) e_long ∙ ap (λ (m : ℕ). led ends (breaks_in w body m) e) b_long ∙
    ap (λ (l : List Code). led ends (breaks_in w body begins) l) e_split ∙ led_is ∙
    append_assoc xs (iterate ends ∷ stored) (statements_code (own_ways ends n) body begins ++ jump n ∷ [])
