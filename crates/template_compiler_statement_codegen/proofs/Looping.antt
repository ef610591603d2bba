-- The rounds of a loop, and what stands behind them.
use Rattle.std.proofs.Common.{◌≡◌, ℕ, List, [], ◌∷◌, ◌++◌, length, refl, ap, ◌∙◌}
use Rattle.std.proofs.Math.ListN.{set}
use Rattle.template_compiler_tree.specs.Tree.{Statements}
use Rattle.template_compiler_tree_statements.specs.declared.statements.Stmt.{Stmt}
use Rattle.template_compiler_code.specs.Code.{jump, iterate, pop_loop_frame, push_did_not_iterate}
use Rattle.template_compiler_code.specs.Listing.{code_in}
use Rattle.template_compiler_code.specs.declared.listing.Instructions.{Instructions}
use Rattle.template_compiler_codegen.specs.Expressions.{Coded, one}
use Rattle.template_compiler_codegen.specs.Statements.{Ways, loop_end_code, own_ways, rounds_code, statements_code}
use Rattle.template_compiler_emission.specs.declared.leaps.Leap.TheVariants.{IfFalse, Iterate}
use Rattle.template_compiler_emission.specs.Leaps.{leap_code}
use Rattle.template_compiler_emission.specs.Puts.{Keeps, Puts}
use Rattle.template_compiler_emission.proofs.Putting.{same_then}
use Rattle.template_compiler_statement_codegen.specs.Breaks.{Places, breaks_in, led, loop_end_places}
use Rattle.template_compiler_statement_codegen.proofs.TellingRounds.{rounds_told}
use Rattle.template_compiler_tree_parts.specs.Listed.{statements_in}
use Rattle.template_compiler_statement_codegen.specs.Rounds.{Lowers, LowersBody, ways_of}
use Rattle.template_compiler_statement_codegen.specs.declared.rounds.Closing.{Closing}
use Rattle.template_compiler_statement_codegen.specs.declared.rounds.Round.{Round}
use Rattle.template_compiler_statement_codegen.proofs.Lowering.{lowers_behind, lowers_put, lowers_skipped, ways_with}

-- the rounds, whose end and breaks are told at the end
pub puts_rounds : (target : Coded) (ss : Statements) (asks : ℕ) {x a b c d e f : Instructions} (r s : Round) → asks ≡ length (code_in x)
    → r.asks ≡ asks → r.closings.items ≡ [] → r.breaks.items ≡ [] → Puts (one (leap_code Iterate 0)) x a → Puts target a b → LowersBody ss b c r s
    → Puts (one (jump asks)) c d → code_in e ≡ set (code_in d) asks (leap_code Iterate (length (code_in d))) → Keeps d e
    → code_in f ≡ led (length (code_in e)) s.breaks.items (code_in e) → Keeps e f
    → Puts (rounds_code target (λ break_to continue_to. statements_code (own_ways break_to continue_to) ss)) x f
puts_rounds target ss asks {x} {a} {b} {c} {d} {e} {f} r s at asked none_open no_breaks first stored body back landed same told same_last =
    let n = length (code_in x) in
    let own : ways_of r ≡ own_ways 0 n =
    ap (λ (cs : List Closing). ways_with cs r.asks) none_open ∙ ap (λ (m : ℕ). ways_with [] m) (asked ∙ at) in
    let body_code : code_in c ≡ code_in b ++ statements_code (own_ways 0 n) ss (length (code_in b)) =
    body.put.code ∙ ap (λ (w : Ways). code_in b ++ statements_code w ss (length (code_in b))) own in
    let places : s.breaks.items ≡ breaks_in (own_ways 0 n) ss (length (code_in b)) =
    body.breaks ∙ ap (λ (l : List ℕ). l ++ breaks_in (ways_of r) ss (length (code_in b))) no_breaks ∙
    ap (λ (w : Ways). breaks_in w ss (length (code_in b))) own in
    record {
      code = rounds_told target ss (code_in x) (code_in a) (code_in b) (code_in c) (code_in d) (code_in e) (code_in f) first.code stored.code body_code
          (back.code ∙ ap (λ (m : ℕ). code_in c ++ jump m ∷ []) at)
          (landed ∙ ap (λ (m : ℕ). set (code_in d) m (iterate (length (code_in d)))) at)
          (told ∙ ap (λ (l : List ℕ). led (length (code_in e)) l (code_in e)) places);
      same = same_then first.same (same_then stored.same (same_then body.put.same (same_then back.same (same_then same same_last))));
    }

-- behind the rounds of a loop without an else part
pub ends_alone : (ss : List Stmt) (f : Coded) (ps : Places) {a b : Instructions} (r : Round) → ss ≡ [] → Puts (one pop_loop_frame) a b
    → Lowers (loop_end_code (statements_in ss) f) (loop_end_places (statements_in ss) ps) a b r r
ends_alone [] f ps {a} {b} r none p = lowers_put r p
ends_alone (s ∷ ss) f ps {a} {b} r none p = cc

-- and with one
pub ends_otherwise : (ss : List Stmt) {f : Coded} {ps : Places} {a b c d e g : Instructions} {r s : Round} → (ss ≡ [] → ⊥) → Puts (one push_did_not_iterate) a b
    → Puts (one pop_loop_frame) b c → Puts (one (leap_code IfFalse 0)) c d → Lowers f ps d e r s
    → code_in g ≡ set (code_in e) (length (code_in c)) (leap_code IfFalse (length (code_in e))) → Keeps e g
    → Lowers (loop_end_code (statements_in ss) f) (loop_end_places (statements_in ss) ps) a g r s
ends_otherwise [] some first second leap body landed same = absurd (some refl)
ends_otherwise (x ∷ ss) some first second leap body landed same =
    lowers_behind first (lowers_behind second (lowers_skipped IfFalse leap body landed same))
