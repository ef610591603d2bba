-- The rounds of a loop that may be called again are found by its number in the code, where they perform their walk.
use Rattle.std.proofs.Common.{◌≡◌, ℕ, ◌+◌, ◌≤◌, suc, Bool, true, false, List, [], ◌∷◌, length, Option, Some, ◌==◌, if◌then◌else◌, refl, sym, ap, subst, ◌∙◌, arith}
use Rattle.std.proofs.lemmas.Bool.Decides.{nat_tests}
use Rattle.template_compiler_tree.specs.Tree.{Expression, Statement, Statements, absent, given, raw, print, for_loop, if_condition, with_block, set, set_block, auto_escape, filter_block, block, from_import, extends, macro, continue_loop, break_loop, do_call, no_statements, statements_more}
use Rattle.template_compiler_tree.specs.Tree as tree
use Rattle.template_compiler_process.specs.Process.{Counts, no_counts, counted_together, Process, cut_short, Below}
use Rattle.template_compiler_process.proofs.Below.{below-cut_short}
use Rattle.template_compiler_walk.specs.Expressions.{Callee, by_name, by_method, by_block, by_value, callee_of}
use Rattle.template_compiler_walk.specs.Counting.{loop_counts, counts_by, counts_among, LoopRounds, below_or, within_caller, rounds_or, rounds_by, rounds_among}
use Rattle.template_compiler_walk.specs.Statements.{statements_walk, outside, loop_end, rounds_walk, caller_name}
use Rattle.template_compiler_code.specs.Code.{Code, push_with, push_loop, emit, store_local, push_auto_escape, pop_frame, pop_auto_escape}
use Rattle.template_compiler_code.specs.Counting.{counts_before, rounds_from, rounds_at}
use Rattle.template_compiler_code.specs.Steps.{exec}
use Rattle.template_compiler_codegen.specs.Core.{then_code, one, Ways, no_ways, own_ways, closing_with, rounds_code, flat}
use Rattle.template_compiler_codegen.specs.Expressions.{expression_core, object_core, positional_cores, keyword_cores, filters_core}
use Rattle.template_compiler_codegen.specs.Statements.{target_code, assignments_core, iterable_core, loop_flags, loop_end_code, branches_code, declared_core, calling_core, statements_core, statement_code, statements_code, template_code}
use Rattle.template_compiler_codegen.specs.Laws.{RoundsPerform}
use Rattle.template_compiler_codegen.proofs.Standing.{StandsAt, behind_one, stands_first, stands_second}
use Rattle.template_compiler_codegen.proofs.Plain.{plain_counts, plain_expression, plain_object, plain_positional, plain_keyword, plain_assignments, plain_iterable}
use Rattle.template_compiler_codegen.proofs.Behind.{counted_behind, counts_of_front}
use Rattle.template_compiler_codegen.proofs.Counted.{CountNone, closed_none, loop_flags_count, counted_looped, counted_statement}
use Rattle.template_compiler_codegen.proofs.Numbers.{some_same, none_some, of_two, rounds_found}
use Rattle.template_compiler_codegen.proofs.Parts.{Placed, Found, found_first, found_second, found_behind, placed_from, placed_rounds, placed_captured, placed_end, placed_branch, placed_otherwise, declared_there, placed_body, CallsNoBlock, caller_there}
use Rattle.template_compiler_codegen.proofs.Statements.{PerformsAs, Walk, does_rounds, ends_loop, performs_statements}
use Rattle.template_compiler_codegen.proofs.Macros.{whole_placed}

-- the loop stands in the code under its number: its opening, and then its rounds and its end
record Stands (code : List Code) (number : ℕ) (r : LoopRounds) : Type 0 where
  before : Counts
  opens : Found code before (one (push_loop 3))
  is : before.rounds ≡ number
  ways : Ways
  none : CountNone ways
  there : StandsAt code (suc opens.at) (then_code (rounds_code (target_code r.target) (λ a b. statements_code (own_ways a b) r.body)) (loop_end_code r.otherwise (statements_code ways r.otherwise)) (suc opens.at))
  behind : counts_before code (suc opens.at) ≡ r.first

-- the loop itself has the number, or one that stands in it
loop_or : (recursive : Bool) {A : Type 0} (number : ℕ) (first : Counts) (own : LoopRounds) (inner : Option LoopRounds) (r : LoopRounds) → rounds_or recursive number first own inner ≡ Some r → first.rounds ≤ number
    → (recursive ≡ true → first.rounds ≡ number → own ≡ r → A) → (inner ≡ Some r → (counted_together first (loop_counts recursive)).rounds ≤ number → A) → A
loop_or true {A} number first own inner r e from f g = by (number == first.rounds) refl
  where
    by : (t : Bool) → (number == first.rounds) ≡ t → A
    by true is =
        let same : first.rounds ≡ number = grind (arith, nat_tests) in
        f refl same (some_same own r (sym (ap (λ b. if b then Some own else inner) is) ∙ e))
    by false is =
        let behind : first.rounds + 1 ≤ number = grind (arith, nat_tests) in
        g (sym (ap (λ b. if b then Some own else inner) is) ∙ e) behind
loop_or false number first own inner r e from f g = let behind : first.rounds + 0 ≤ number = omega (arith, from) in g e behind

-- in the body of a call block, but where a block is called
in_called : (callee : Callee) {X A : Type 0} (found : Option X) (x : X) → within_caller callee found ≡ Some x → (CallsNoBlock callee → found ≡ Some x → A) → A
in_called (by_name f) found x e go = go tt e
in_called (by_method f) found x e go = go tt e
in_called (by_block f) found x e go = none_some x e
in_called by_value found x e go = go tt e

-- the loop itself
loop_stands : (recursive : Bool) → recursive ≡ true → (target : Expression) (body otherwise : Statements) (ways : Ways) → CountNone ways → (code : List Code) (before : Counts)
    → Found code before (then_code (one (push_loop (loop_flags recursive))) (then_code (rounds_code (target_code target) (λ a b. statements_code (own_ways a b) body)) (loop_end_code otherwise (statements_code ways otherwise))))
    → (number : ℕ) → before.rounds ≡ number → (r : LoopRounds) → record { target = target; body = body; otherwise = otherwise; first = counted_together before (loop_counts recursive) } ≡ r → Stands code number r
loop_stands false again target body otherwise ways none code before f number is r equal = let no : true ≡ false = sym again in absurd (cc)
loop_stands true again target body otherwise ways none code before f number is r equal =
    let own : LoopRounds = record { target = target; body = body; otherwise = otherwise; first = counted_together before (loop_counts true) } in
    let rest = then_code (rounds_code (target_code target) (λ a b. statements_code (own_ways a b) body)) (loop_end_code otherwise (statements_code ways otherwise)) in
    let opens : Found code before (one (push_loop 3)) = record { at = f.at; there = stands_first code f.at (one (push_loop 3)) rest f.there; counted = f.counted } in
    let P : LoopRounds → Type 0 = λ x. Stands code number x in
    let next : f.at + length (one (push_loop 3) f.at) ≡ suc f.at = omega arith in
    let Q : ℕ → Type 0 = λ n. StandsAt code (suc f.at) (rest n) in
    subst P equal (record {
      before = before;
      opens = opens;
      is = is;
      ways = ways;
      none = none;
      there = subst Q next (behind_one code f.at (push_loop 3) (rest (f.at + length (one (push_loop 3) f.at))) f.there);
      behind = ap (counts_before code) (sym next) ∙ counted_behind code f.at (push_loop 3 ∷ []) opens.there before (loop_counts true) f.counted refl;
    })

mutual
  stands_by : (s : Statement) (ways : Ways) → CountNone ways → (code : List Code) (before : Counts) → Found code before (statement_code ways s) → (number : ℕ) → before.rounds ≤ number
      → (r : LoopRounds) → rounds_by number before s ≡ Some r → Stands code number r
  stands_by (for_loop target e condition recursive body otherwise) ways none code before f number from r is =
      let own = counted_together before (loop_counts recursive) in
      let last = counted_together own (counts_among body) in
      let push = one (push_loop (loop_flags recursive)) in
      let looped = rounds_code (target_code target) (λ a b. statements_code (own_ways a b) body) in
      let ended = loop_end_code otherwise (statements_code ways otherwise) in
      let opened = found_behind code before (flat no_ways (iterable_core target e condition)) (then_code push (then_code looped ended)) (plain_counts (plain_iterable target e condition) no_ways) f in
      let turned = found_second code before (loop_counts recursive) push (then_code looped ended) (loop_flags_count recursive) opened in
      let whole : LoopRounds = record { target = target; body = body; otherwise = otherwise; first = own } in
      loop_or recursive number before whole (below_or number last.rounds (rounds_among number own body) (rounds_among number last otherwise)) r is from
      (λ again same equal. loop_stands recursive again target body otherwise ways none code before opened number same r equal)
      (λ found from_own.
      of_two number last.rounds (rounds_among number own body) (rounds_among number last otherwise) r found
      (λ below inner. stands_among body code own (placed_rounds code own target body (found_first code own looped ended turned)) number from_own r inner)
      (λ behind inner. stands_among otherwise code last (placed_end code last otherwise ways none (found_second code own (counts_among body) looped ended (counted_looped target body) turned)) number behind r inner))
  stands_by (if_condition e body otherwise) ways none code before f number from r is =
      let last = counted_together before (counts_among body) in
      let branches = branches_code otherwise (statements_code ways body) (statements_code ways otherwise) in
      let chosen = found_behind code before (flat no_ways (expression_core e)) branches (plain_counts (plain_expression e) no_ways) f in
      of_two number last.rounds (rounds_among number before body) (rounds_among number last otherwise) r is
      (λ below found. stands_among body code before (placed_branch code before body otherwise ways none chosen) number from r found)
      (λ behind found. stands_among otherwise code last (placed_otherwise code before body otherwise ways none chosen) number behind r found)
  stands_by (with_block assignments body) ways none code before f number from r is =
      let inside = closing_with pop_frame ways in
      let bodied = then_code (statements_code inside body) (one pop_frame) in
      let assigned = flat no_ways (assignments_core assignments) in
      stands_among body code before (placed_from code before body inside (closed_none pop_frame ways refl none) (found_first code before (statements_code inside body) (one pop_frame)
      (found_behind code before assigned bodied (plain_counts (plain_assignments assignments) no_ways) (found_behind code before (one push_with) (then_code assigned bodied) (λ place. refl) f)))) number from r is
  stands_by (set_block target absent body) ways none code before f number from r is =
      stands_among body code before (placed_captured code before body (target_code target) ways none f) number from r is
  stands_by (set_block target (given filters) body) ways none code before f number from r is =
      stands_among body code before (placed_captured code before body (then_code (flat no_ways (filters_core filters)) (target_code target)) ways none f) number from r is
  stands_by (auto_escape e body) ways none code before f number from r is =
      let inside = closing_with pop_auto_escape ways in
      let bodied = then_code (statements_code inside body) (one pop_auto_escape) in
      stands_among body code before (placed_from code before body inside (closed_none pop_auto_escape ways refl none) (found_first code before (statements_code inside body) (one pop_auto_escape)
      (found_behind code before (one push_auto_escape) bodied (λ place. refl) (found_behind code before (flat no_ways (expression_core e)) (then_code (one push_auto_escape) bodied) (plain_counts (plain_expression e) no_ways) f)))) number from r is
  stands_by (filter_block filters body) ways none code before f number from r is =
      stands_among body code before (placed_captured code before body (then_code (flat no_ways (filters_core filters)) (one emit)) ways none f) number from r is
  stands_by (macro name arguments defaults body) ways none code before f number from r is =
      let declared = declared_there code before name arguments defaults body (found_first code before (flat no_ways (declared_core name arguments defaults body (statements_core body))) (one (store_local name)) f) in
      stands_among body code before (placed_body code before (counted_together before (counts_among body)) arguments defaults body declared) number from r is
  stands_by (tree.call_block callee passed arguments defaults body) ways none code before f number from r is =
      let core = declared_core caller_name arguments defaults body (statements_core body) in
      in_called (callee_of callee passed) (rounds_among number before body) r is
      (λ fits found.
      let declared = declared_there code before caller_name arguments defaults body
      (caller_there code before (callee_of callee passed) fits (expression_core callee) (object_core callee) (plain_expression callee) (plain_object callee) (positional_cores passed) (plain_positional passed) (keyword_cores passed) (plain_keyword passed)
      caller_name core (found_first code before (flat no_ways (calling_core callee passed core)) (one emit) f)) in
      stands_among body code before (placed_body code before (counted_together before (counts_among body)) arguments defaults body declared) number from r found)
  stands_by (tree.template body) ways none code before f number from r is = none_some r is
  stands_by (raw text) ways none code before f number from r is = none_some r is
  stands_by (print e) ways none code before f number from r is = none_some r is
  stands_by (set target e) ways none code before f number from r is = none_some r is
  stands_by (block name required body) ways none code before f number from r is = none_some r is
  stands_by (tree.import e target) ways none code before f number from r is = none_some r is
  stands_by (from_import e names) ways none code before f number from r is = none_some r is
  stands_by (extends e) ways none code before f number from r is = none_some r is
  stands_by (tree.include e missing) ways none code before f number from r is = none_some r is
  stands_by continue_loop ways none code before f number from r is = none_some r is
  stands_by break_loop ways none code before f number from r is = none_some r is
  stands_by (do_call callee args) ways none code before f number from r is = none_some r is

  stands_among : (ss : Statements) (code : List Code) (before : Counts) → Placed code before ss → (number : ℕ) → before.rounds ≤ number → (r : LoopRounds) → rounds_among number before ss ≡ Some r → Stands code number r
  stands_among no_statements code before p number from r is = none_some r is
  stands_among (statements_more s ss) code before p number from r is =
      let last = counted_together before (counts_by s) in
      let first = statement_code p.ways s in
      let rest = statements_code p.ways ss in
      let f : Found code before (then_code first rest) = record { at = p.at; there = p.there; counted = p.counted } in
      of_two number last.rounds (rounds_by number before s) (rounds_among number last ss) r is
      (λ below found. stands_by s p.ways p.none code before (found_first code before first rest f) number from r found)
      (λ behind found. stands_among ss code last (placed_from code last ss p.ways p.none (found_second code before (counts_by s) first rest (counted_statement s p.ways p.none) f)) number behind r found)

-- the rounds perform their walk
rounds_do : (code : List Code) (number : ℕ) (r : LoopRounds) (s : Stands code number r) (n : ℕ) → (j : ℕ) × Below (rounds_walk n r) (exec code j (suc s.opens.at) [])
rounds_do code number r s n =
    let place = suc s.opens.at in
    let looped = rounds_code (target_code r.target) (λ a b. statements_code (own_ways a b) r.body) in
    let ended = loop_end_code r.otherwise (statements_code s.ways r.otherwise) in
    let ends_at = place + length (looped place) in
    let looped_there = stands_first code place looped ended s.there in
    let counted = counted_behind code place (looped place) looped_there r.first (counts_among r.body) s.behind (counted_looped r.target r.body place) in
    let nowhere : Walk = λ before x go. cut_short in
    let unwalked : PerformsAs s.ways (statements_code s.ways r.otherwise) nowhere = λ code place before counted h k. (0, λ operands x go below outs. below-cut_short _) in
    let finished : Process = loop_end r.otherwise cut_short cut_short in
    let closes = ends_loop s.ways r.otherwise (statements_code s.ways r.otherwise) nowhere unwalked code ends_at (counted_together r.first (counts_among r.body)) counted (stands_second code place looped ended s.there) 0 in
    let turned = does_rounds n r.target r.body (λ before. statements_walk n before r.body) (λ a b. performs_statements n r.body (own_ways a b) refl) s.ways code place r.first s.behind looped_there closes.0 in (
      turned.0,
      turned.1 [] outside finished (closes.1 [] outside cut_short (below-cut_short _) (record { on_break = λ at h. below-cut_short _; on_continue = λ at h. below-cut_short _ }))
          (record { on_break = λ at h. below-cut_short _; on_continue = λ at h. below-cut_short _ }),
    )

-- where they are found
found_at : (code : List Code) (number : ℕ) (r : LoopRounds) (s : Stands code number r) → rounds_at code number ≡ Some (suc s.opens.at)
found_at code number r s =
    let h = s.opens.there in
    let there : 0 + length h.front ≡ s.opens.at = omega (arith, h.at) in
    ap (λ (c : List Code). rounds_from 0 c number) h.is
    ∙ rounds_found h.front 0 h.back number (ap (λ (c : Counts). c.rounds) (sym (counts_of_front code s.opens.at (push_loop 3 ∷ []) h) ∙ s.opens.counted) ∙ s.is)
    ∙ ap (λ (n : ℕ). Some (suc n)) there

pub rounds_perform : RoundsPerform
rounds_perform tree number r is =
    let code = template_code tree in
    let s = stands_among tree code no_counts (whole_placed tree) number (omega arith) r is in
    (suc s.opens.at, found_at code number r s, λ n. rounds_do code number r s n)
