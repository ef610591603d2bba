-- The statements of a body, one behind the other.
use Rattle.std.proofs.Common.{◌≡◌, ℕ, ◌+◌, ◌<◌, ◌≤◌, zero, suc, Bool, true, false, ◌==◌, refl, List, [], ◌∷◌, length, get_or, drop, sym, ap, subst, ◌∙◌, arith}
use Rattle.std.proofs.lemmas.Bool.Decides.{nat_tests}
use Rattle.std.proofs.lemmas.List.{drop_more, drop_all}
use Rattle.template_compiler_tree.specs.Tree.{Statements, statements_more}
use Rattle.template_compiler_tree_statements.specs.View.{statement_of}
use Rattle.template_compiler_tree_statements.specs.declared.statements.Stmt.{Stmt, size-Stmt}
use Rattle.template_compiler_walk.specs.Runnable.{IsRunnableStatement, AreRunnableStatements}
use Rattle.template_compiler_code.specs.declared.listing.Instructions.{Instructions}
use Rattle.template_compiler_codegen.specs.Statements.{Ways, statement_code, statements_code}
use Rattle.template_compiler_statement_codegen.specs.Breaks.{breaks_of, breaks_in}
use Rattle.template_compiler_tree_parts.specs.Listed.{statements_in}
use Rattle.template_compiler_statement_codegen.specs.Listed.{body_deep}
use Rattle.template_compiler_statement_codegen.specs.Rounds.{Lowers, LowersBody, LowersStatement, Remains, ways_of}
use Rattle.template_compiler_statement_codegen.specs.declared.rounds.Round.{Round}
use Rattle.template_compiler_statement_codegen.proofs.Lowering.{remains_none, remains_then, same_ways}

statements_at : (ss : List Stmt) (i : ℕ) (s : Stmt) → i < length ss → s ≡ get_or ss i s
    → statements_in (drop i ss) ≡ statements_more (statement_of s) (statements_in (drop (i + 1) ss))
statements_at ss i s within read =
    ap (λ (l : List Stmt). statements_in l) (drop_more ss i s within) ∙
    ap (λ (x : Stmt). statements_more (statement_of x) (statements_in (drop (i + 1) ss))) (sym read)

-- the statements from a place on are left
abbrev pub RemainsFrom : List Stmt → ℕ → Instructions → Instructions → Round → Round → Type 0
RemainsFrom ss i old now round later =
    Remains (statements_code (ways_of round) (statements_in ss)) (breaks_in (ways_of round) (statements_in ss))
    (statements_code (ways_of round) (statements_in (drop i ss))) (breaks_in (ways_of round) (statements_in (drop i ss))) [] old now round later

-- one statement more
pub statement_goes : (ss : List Stmt) (i : ℕ) (s : Stmt) {a b c : Instructions} {r m t : Round} → i < length ss → s ≡ get_or ss i s
    → RemainsFrom ss i a b r m → LowersStatement (statement_of s) b c m t → RemainsFrom ss (i + 1) a c r t
statement_goes ss i s {a} {b} {c} {r} {m} {t} within read p q =
    let w = ways_of r in
    let piece = statements_code w (statements_in ss) in
    let places = breaks_in w (statements_in ss) in
    let rest = statements_in (drop (i + 1) ss) in
    let here : Remains piece places (statements_code w (statements_more (statement_of s) rest)) (breaks_in w (statements_more (statement_of s) rest)) [] a b r m =
    subst (λ (left : Statements). Remains piece places (statements_code w left) (breaks_in w left) [] a b r m) (statements_at ss i s within read) p in
    let next : Lowers (statement_code w (statement_of s)) (breaks_of w (statement_of s)) b c m t =
    subst (λ (v : Ways). Lowers (statement_code v (statement_of s)) (breaks_of v (statement_of s)) b c m t) (same_ways r m p.asks p.closings) q in
    remains_then here next

pub statements_end : (ss : List Stmt) (i : ℕ) {a b : Instructions} {r s : Round} → length ss ≤ i → RemainsFrom ss i a b r s
    → LowersBody (statements_in ss) a b r s
statements_end ss i {a} {b} {r} {s} all p =
    let w = ways_of r in
    let piece = statements_code w (statements_in ss) in
    let places = breaks_in w (statements_in ss) in
    remains_none (subst (λ (l : List Stmt). Remains piece places (statements_code w (statements_in l)) (breaks_in w (statements_in l)) [] a b r s)
    (drop_all i ss all) p)

pub statement_runnable : (ss : List Stmt) (i : ℕ) (s : Stmt) → AreRunnableStatements true (statements_in ss) → i < length ss → s ≡ get_or ss i s
    → IsRunnableStatement true (statement_of s)
statement_runnable [] i s h within read = absurd (omega (arith, within))
statement_runnable (x ∷ ss) zero s h within read = subst (λ (y : Stmt). IsRunnableStatement true (statement_of y)) (sym read) h.0
statement_runnable (x ∷ ss) (suc i) s h within read = statement_runnable ss i s h.1 (omega (arith, within)) read

-- a statement is no deeper than the deepest one
statement_within : (ss : List Stmt) (i : ℕ) (d : Stmt) → i < length ss → size-Stmt (get_or ss i d) ≤ body_deep ss
statement_within [] i d h = absurd (omega (arith, h))
statement_within (s ∷ ss) zero d h = omega arith
statement_within (s ∷ ss) (suc i) d h = let inner : size-Stmt (get_or ss i d) ≤ body_deep ss = statement_within ss i d (omega (arith, h)) in omega arith

pub statement_deep : (ss : List Stmt) (i : ℕ) (s : Stmt) → i < length ss → s ≡ get_or ss i s → size-Stmt s ≤ body_deep ss
statement_deep ss i s h read =
    let same : size-Stmt s ≡ size-Stmt (get_or ss i s) = ap (λ (x : Stmt). size-Stmt x) read in omega (arith, statement_within ss i s h)

-- where all statements are smaller than a number, so is the deepest one
pub body_below : (ss : List Stmt) (m : ℕ) → 0 < m → ((i : ℕ) (d : Stmt) → i < length ss → size-Stmt (get_or ss i d) < m) → body_deep ss < m
body_below [] m h all = h
body_below (s ∷ ss) m h all =
    let rest : body_deep ss < m = body_below ss m h (λ i d within. all (suc i) d (omega (arith, within))) in
    omega (arith, all zero s (omega arith), rest)

-- whether there is a statement
is_zero : (n : ℕ) (none : Bool) → none ≡ (n == 0) → none ≡ true → n ≡ 0
is_zero n none tested holds = grind (arith, nat_tests)

not_zero : (n : ℕ) (none : Bool) → none ≡ (n == 0) → none ≡ false → 0 < n
not_zero n none tested holds = grind (arith, nat_tests)

without : (ss : List Stmt) → length ss ≡ 0 → ss ≡ []
without [] none = refl
without (s ∷ ss) none = absurd (omega (arith, none))

pub no_items : (ss : List Stmt) (n : ℕ) (none : Bool) → n ≡ length ss → none ≡ (n == 0) → none ≡ true → ss ≡ []
no_items ss n none long tested holds = without ss (sym long ∙ is_zero n none tested holds)

pub some_items : (ss : List Stmt) (n : ℕ) (none : Bool) → n ≡ length ss → none ≡ (n == 0) → none ≡ false → ss ≡ [] → ⊥
some_items ss n none long tested holds is =
    let same : length ss ≡ 0 = ap (λ (l : List Stmt). length l) is in
    let more : 0 < n = not_zero n none tested holds in absurd (omega (arith, same, more, long))
