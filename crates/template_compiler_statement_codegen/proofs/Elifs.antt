-- Along a chain of `elif`: each branch leaves its else part, and the jumps at the end of branches lead to the end of all.
use Rattle.std.proofs.Common.{◌≡◌, ℕ, true, List, [], ◌∷◌, ◌++◌, length, refl, sym, ap, subst}
use Rattle.std.proofs.Math.ListN.{set}
use Rattle.template_compiler_tree.specs.Tree.{Statements, no_statements, statements_more}
use Rattle.template_compiler_tree_statements.specs.declared.statements.IfCond.{IfCond}
use Rattle.template_compiler_tree_statements.specs.declared.statements.Stmt.{Stmt}
use Rattle.template_compiler_walk.specs.Runnable.{AreRunnableStatements, IsRunnableStatement}
use Rattle.template_compiler_code.specs.Listing.{code_in}
use Rattle.template_compiler_code.specs.declared.listing.Instructions.{Instructions}
use Rattle.template_compiler_codegen.specs.Expressions.{Coded, one, nothing, then_code}
use Rattle.template_compiler_codegen.specs.Statements.{Ways, branches_code, statement_code, statements_code}
use Rattle.template_compiler_emission.specs.declared.leaps.Leap.TheVariants.{Always, IfFalse}
use Rattle.template_compiler_emission.specs.Leaps.{leap_code}
use Rattle.template_compiler_emission.specs.Puts.{Keeps, Puts}
use Rattle.template_compiler_statement_codegen.specs.Breaks.{Places, no_places, then_places, branches_places, breaks_of, breaks_in}
use Rattle.template_compiler_tree_parts.specs.Listed.{statements_in}
use Rattle.template_compiler_statement_codegen.specs.Listed.{condition_of}
use Rattle.template_compiler_statement_codegen.specs.Rounds.{Lowers, LowersBody, LowersBranch, LowersChain, Remains, ways_of}
use Rattle.template_compiler_statement_codegen.specs.declared.rounds.Round.{Round}
use Rattle.template_compiler_statement_codegen.proofs.Lowering.{branch_alone, branch_before, remains_all, remains_last, remains_one, remains_trans, same_ways}

-- a branch without an else part
pub alone : {e : Coded} {f : Coded} {ps : Places} (ss : List Stmt) (w : Ways) {b x y z d : Instructions} {s t : Round} → ss ≡ []
    → Puts e b x → Puts (one (leap_code IfFalse 0)) x y → Lowers f ps y z s t
    → code_in d ≡ set (code_in z) (length (code_in x)) (leap_code IfFalse (length (code_in z))) → Keeps z d
    → Remains (then_code e (branches_code (statements_in ss) f (statements_code w (statements_in ss))))
    (then_places e no_places (branches_places (statements_in ss) f ps (breaks_in w (statements_in ss))))
    (statements_code w (statements_in ss)) (breaks_in w (statements_in ss)) [] b d s t
alone [] w none test first branch landed same = branch_alone test first branch landed same
alone (x ∷ ss) w none test first branch landed same = cc

-- a branch with one
pub before_other : {e : Coded} {f : Coded} {ps : Places} (ss : List Stmt) (w : Ways) (end : ℕ) {b x y z c d : Instructions} {s t : Round} → (ss ≡ [] → ⊥)
    → end ≡ length (code_in z)
    → Puts e b x → Puts (one (leap_code IfFalse 0)) x y → Lowers f ps y z s t → Puts (one (leap_code Always 0)) z c
    → code_in d ≡ set (code_in c) (length (code_in x)) (leap_code IfFalse (length (code_in c))) → Keeps c d
    → Remains (then_code e (branches_code (statements_in ss) f (statements_code w (statements_in ss))))
    (then_places e no_places (branches_places (statements_in ss) f ps (breaks_in w (statements_in ss))))
    (statements_code w (statements_in ss)) (breaks_in w (statements_in ss)) (end ∷ []) b d s t
before_other [] w end some at test first branch leap landed same = absurd (some refl)
before_other {e} {f} {ps} (h ∷ ss) w end {b} {x} {y} {z} {c} {d} {s} {t} some at test first branch leap landed same =
    let others = statements_in (h ∷ ss) in
    subst (λ (ends : List ℕ). Remains (then_code e (branches_code others f (statements_code w others)))
    (then_places e no_places (branches_places others f ps (breaks_in w others))) (statements_code w others) (breaks_in w others) ends b d s t)
    (ap (λ (m : ℕ). m ∷ []) (sym at)) (branch_before test first branch leap landed same)

-- what is left of the chain, where a condition is left
abbrev pub RemainsAt : IfCond → IfCond → List ℕ → Instructions → Instructions → Round → Round → Type 0
RemainsAt c at ends old now round later =
    Remains (statement_code (ways_of round) (condition_of c)) (breaks_of (ways_of round) (condition_of c))
    (statement_code (ways_of round) (condition_of at)) (breaks_of (ways_of round) (condition_of at)) ends old now round later

abbrev RemainsOther : IfCond → IfCond → List ℕ → Instructions → Instructions → Round → Round → Type 0
RemainsOther c at ends old now round later =
    Remains (statement_code (ways_of round) (condition_of c)) (breaks_of (ways_of round) (condition_of c))
    (statements_code (ways_of round) (statements_in at.false_body.items)) (breaks_in (ways_of round) (statements_in at.false_body.items)) ends old now round later

pub chain_begins : (c : IfCond) (a : Instructions) (r : Round) → RemainsAt c c [] a a r r
chain_begins c a r = remains_all (statement_code (ways_of r) (condition_of c)) (breaks_of (ways_of r) (condition_of c)) a r

-- its branch stands, and its else part is left
branched : (c at : IfCond) (ends more all : List ℕ) {a b d : Instructions} {r s t : Round} → all ≡ ends ++ more → RemainsAt c at ends a b r s
    → LowersBranch at more b d s t → RemainsOther c at all a d r t
branched c at ends more all {a} {b} {d} {r} {s} {t} same p q =
    let other = statements_in at.false_body.items in
    let here : Remains (statement_code (ways_of r) (condition_of at)) (breaks_of (ways_of r) (condition_of at)) (statements_code (ways_of r) other)
    (breaks_in (ways_of r) other) more b d s t =
    subst (λ (w : Ways). Remains (statement_code w (condition_of at)) (breaks_of w (condition_of at)) (statements_code w other) (breaks_in w other) more b d s t)
    (same_ways r s p.asks p.closings) q in
    subst (λ (l : List ℕ). RemainsOther c at l a d r t) (sym same) (remains_trans p here)

-- an `elif` is left
pub chain_goes : (c at later : IfCond) (ends more all : List ℕ) {a b d : Instructions} {r s t : Round} → all ≡ ends ++ more
    → statements_in at.false_body.items ≡ statements_more (condition_of later) no_statements → RemainsAt c at ends a b r s → LowersBranch at more b d s t
    → RemainsAt c later all a d r t
chain_goes c at later ends more all {a} {b} {d} {r} {s} {t} same tree p q =
    remains_one (subst (λ (ss : Statements). Remains (statement_code (ways_of r) (condition_of c)) (breaks_of (ways_of r) (condition_of c))
    (statements_code (ways_of r) ss) (breaks_in (ways_of r) ss) all a d r t) tree (branched c at ends more all same p q))

-- the last else part stands too
pub chain_last : (c at : IfCond) (ends more all : List ℕ) {a b d e : Instructions} {r s t u : Round} → all ≡ ends ++ more → RemainsAt c at ends a b r s
    → LowersBranch at more b d s t → LowersBody (statements_in at.false_body.items) d e t u
    → Remains (statement_code (ways_of r) (condition_of c)) (breaks_of (ways_of r) (condition_of c)) nothing no_places all a e r u
chain_last c at ends more all {a} {b} {d} {e} {r} {s} {t} {u} same p q last =
    let other = statements_in at.false_body.items in
    let left = branched c at ends more all same p q in
    let here : Lowers (statements_code (ways_of r) other) (breaks_in (ways_of r) other) d e t u =
    subst (λ (w : Ways). Lowers (statements_code w other) (breaks_in w other) d e t u) (same_ways r t left.asks left.closings) last in
    remains_last left here

-- the parts of a condition that runs
pub later_runs : (at later : IfCond) → IsRunnableStatement true (condition_of at) →
    statements_in at.false_body.items ≡ statements_more (condition_of later) no_statements → IsRunnableStatement true (condition_of later)
later_runs at later h tree =
    let runs : AreRunnableStatements true (statements_more (condition_of later) no_statements) =
    subst (λ (ss : Statements). AreRunnableStatements true ss) tree h.2 in
    runs.0

-- the next condition of the chain is left
pub chain_next : (c at node later : IfCond) (ends more all : List ℕ) {a b d : Instructions} {r s t : Round} → node ≡ at
    → statements_in at.false_body.items ≡ statements_more (condition_of later) no_statements → all ≡ ends ++ more → RemainsAt c at ends a b r s
    → LowersBranch node more b d s t → RemainsAt c later all a d r t
chain_next c at node later ends more all {a} {b} {d} {r} {s} {t} read tree same p q =
    chain_goes c at later ends more all same tree p (subst (λ (x : IfCond). LowersBranch x more b d s t) read q)

-- nothing is left behind the last else part
pub chain_ends : (c at node : IfCond) (body : List Stmt) (ends more all : List ℕ) {a b d e : Instructions} {r s t u : Round} → node ≡ at
    → body ≡ at.false_body.items → all ≡ ends ++ more → RemainsAt c at ends a b r s → LowersBranch node more b d s t
    → LowersBody (statements_in body) d e t u → LowersChain c all a e r u
chain_ends c at node body ends more all {a} {b} {d} {e} {r} {s} {t} {u} read other same p q last =
    chain_last c at ends more all same p (subst (λ (x : IfCond). LowersBranch x more b d s t) read q)
    (subst (λ (l : List Stmt). LowersBody (statements_in l) d e t u) other last)
