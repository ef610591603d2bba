-- The macro of a number in a tree is found by it in the code, where its body performs its walk.
use Rattle.std.proofs.Common.{◌≡◌, ℕ, ◌+◌, ◌≤◌, ◌<◌, suc, Bool, true, false, List, [], ◌∷◌, ◌++◌, length, map, Option, Some, refl, sym, ap, subst, ◌∙◌, append_assoc, append-nil, arith}
use Rattle.template_values_model.specs.Val as values
use Rattle.template_values_model.specs.Val.{Val, list, vals_of}
use Rattle.template_values_operators.specs.Kinds as kinds
use Rattle.template_compiler_tree.specs.Tree.{Expression, Optional, Expressions, Statement, Statements, absent, given, raw, print, for_loop, if_condition, with_block, set, set_block, auto_escape, filter_block, block, from_import, extends, macro, continue_loop, break_loop, do_call, no_expressions, expressions_more, no_statements, statements_more}
use Rattle.template_compiler_tree.specs.Tree as tree
use Rattle.template_compiler_process.specs.Process.{Counts, no_counts, counted_together, truth_of, Process, over, step, asks, on_truth, Below}
use Rattle.template_compiler_process.proofs.Below.{below-cut_short, below-over, below-step}
use Rattle.template_compiler_names.specs.Names.{reversed}
use Rattle.template_compiler_walk.specs.Expressions.{expression_walk, Callee, by_name, by_method, by_block, by_value, callee_of}
use Rattle.template_compiler_walk.specs.Counting.{loop_counts, macro_counts, caller_counts, counts_by, counts_among, MacroBody, below_or, within_caller, macro_by, macro_among}
use Rattle.template_compiler_walk.specs.Statements.{number_of, target_walk, statements_walk, outside, name_texts, first_of, rest_of, argument_walk, arguments_walk, macro_walk, caller_name}
use Rattle.template_compiler_code.specs.Code.{Operand, single, Code, load_const, build_macro, dup_top, is_undefined, discard_top, jump_if_false, push_with, push_loop, emit, store_local, push_auto_escape, pop_frame, pop_auto_escape, return}
use Rattle.template_compiler_code.specs.Counting.{counts_in, macro_from, macro_at}
use Rattle.template_compiler_code.specs.Steps.{exec}
use Rattle.template_compiler_codegen.specs.Core.{then_code, one, skipped, Ways, no_ways, own_ways, closing_with, rounds_code, flat}
use Rattle.template_compiler_codegen.specs.Expressions.{expression_core, object_core, positional_cores, keyword_cores, expression_code, filters_core}
use Rattle.template_compiler_codegen.specs.Statements.{target_code, assignments_core, iterable_core, loop_flags, loop_end_code, branches_code, parameter_core, parameters_core, declared_core, calling_core, statements_core, statement_code, statements_code, template_code}
use Rattle.template_compiler_codegen.specs.Laws.{MacrosPerform}
use Rattle.template_compiler_codegen.proofs.Standing.{behind_one, instruction_at, below_at, behind_then, stands_first, stands_second}
use Rattle.template_compiler_codegen.proofs.Plain.{with_none, counts_append, plain_counts, plain_expression, plain_object, plain_positional, plain_keyword, plain_assignments, plain_iterable, plain_parameters}
use Rattle.template_compiler_codegen.proofs.Behind.{still_behind, counts_of_front}
use Rattle.template_compiler_codegen.proofs.Counted.{CountNone, closed_none, loop_flags_count, counted_looped, counted_statement}
use Rattle.template_compiler_codegen.proofs.Numbers.{some_same, none_some, of_two, listed_last, listed_end, macro_found}
use Rattle.template_compiler_codegen.proofs.Parts.{Placed, Found, found_first, found_second, found_behind, placed_from, placed_rounds, placed_captured, placed_end, placed_branch, placed_otherwise, Declared, declared_there, placed_body, CallsNoBlock, caller_there}
use Rattle.template_compiler_codegen.proofs.Expressions.{behind_single, moved, longer, tests_at, behind_skipped}
use Rattle.template_compiler_codegen.proofs.Performing.{performs}
use Rattle.template_compiler_codegen.proofs.Storing.{Stores, StoresAll, stores, no_targets, over_more}
use Rattle.template_compiler_codegen.proofs.Statements.{performs_statements, listed_back}
use Rattle.template_compiler_codegen.proofs.Whole.{stands_whole, at_beginning}

-- the macro stands in the code under its number
record Stands (code : List Code) (number : ℕ) (m : MacroBody) : Type 0 where
  total : Counts
  declared : Declared code m.first total m.arguments m.defaults m.body
  is : total.macros ≡ number

-- what is made of a body, or stands in it
found_declared : (code : List Code) (before : Counts) (name : List ℕ) (arguments defaults : Expressions) (body : Statements) → Found code before (flat no_ways (declared_core name arguments defaults body (statements_core body)))
    → (number : ℕ) → number < (counted_together before (macro_counts (counts_among body))).macros → (m : MacroBody)
    → below_or number (counted_together before (counts_among body)).macros (macro_among number before body) (Some (record { arguments = arguments; defaults = defaults; body = body; first = before })) ≡ Some m
    → (Placed code before body → macro_among number before body ≡ Some m → Stands code number m) → Stands code number m
found_declared code before name arguments defaults body f number less m e inner =
    let total = counted_together before (counts_among body) in
    let own : MacroBody = record { arguments = arguments; defaults = defaults; body = body; first = before } in
    let declared = declared_there code before name arguments defaults body f in
    of_two number total.macros (macro_among number before body) (Some own) m e
    (λ below found. inner (placed_body code before total arguments defaults body declared) found)
    (λ behind found.
    let many : number < before.macros + ((counts_among body).macros + 1) = less in
    let from : before.macros + (counts_among body).macros ≤ number = behind in
    let is : total.macros ≡ number = omega (arith, many, from) in
    let P : MacroBody → Type 0 = λ b. Stands code number b in
    subst P (some_same own m found) (record { total = total; declared = declared; is = is }))

-- what is made of the body of a call block, but where a block is called
in_caller : (callee : Callee) {X A : Type 0} (found : Option X) (x : X) (counts before : Counts) (number : ℕ) → within_caller callee found ≡ Some x → number < (counted_together before (caller_counts callee counts)).macros
    → (CallsNoBlock callee → found ≡ Some x → number < (counted_together before (macro_counts counts)).macros → A) → A
in_caller (by_name f) found x counts before number e less go = go tt e less
in_caller (by_method f) found x counts before number e less go = go tt e less
in_caller (by_block f) found x counts before number e less go = none_some x e
in_caller by_value found x counts before number e less go = go tt e less

-- a loop is no macro
loop_makes_none : (recursive : Bool) (before : Counts) (number : ℕ) → before.macros ≤ number → (counted_together before (loop_counts recursive)).macros ≤ number
loop_makes_none true before number h = let less : before.macros + 0 ≤ number = omega (arith, h) in less
loop_makes_none false before number h = let less : before.macros + 0 ≤ number = omega (arith, h) in less

mutual
  stands_by : (s : Statement) (ways : Ways) → CountNone ways → (code : List Code) (before : Counts) → Found code before (statement_code ways s) → (number : ℕ) → before.macros ≤ number
      → number < (counted_together before (counts_by s)).macros → (m : MacroBody) → macro_by number before s ≡ Some m → Stands code number m
  stands_by (for_loop target e condition recursive body otherwise) ways none code before f number from less m is =
      let own = counted_together before (loop_counts recursive) in
      let last = counted_together own (counts_among body) in
      let push = one (push_loop (loop_flags recursive)) in
      let looped = rounds_code (target_code target) (λ a b. statements_code (own_ways a b) body) in
      let ended = loop_end_code otherwise (statements_code ways otherwise) in
      let opened = found_behind code before (flat no_ways (iterable_core target e condition)) (then_code push (then_code looped ended)) (plain_counts (plain_iterable target e condition) no_ways) f in
      let turned = found_second code before (loop_counts recursive) push (then_code looped ended) (loop_flags_count recursive) opened in
      let from_own : own.macros ≤ number = loop_makes_none recursive before number from in
      of_two number last.macros (macro_among number own body) (macro_among number last otherwise) m is
      (λ below found. stands_among body code own (placed_rounds code own target body (found_first code own looped ended turned)) number from_own m found)
      (λ behind found. stands_among otherwise code last (placed_end code last otherwise ways none (found_second code own (counts_among body) looped ended (counted_looped target body) turned)) number behind m found)
  stands_by (if_condition e body otherwise) ways none code before f number from less m is =
      let last = counted_together before (counts_among body) in
      let branches = branches_code otherwise (statements_code ways body) (statements_code ways otherwise) in
      let chosen = found_behind code before (flat no_ways (expression_core e)) branches (plain_counts (plain_expression e) no_ways) f in
      of_two number last.macros (macro_among number before body) (macro_among number last otherwise) m is
      (λ below found. stands_among body code before (placed_branch code before body otherwise ways none chosen) number from m found)
      (λ behind found. stands_among otherwise code last (placed_otherwise code before body otherwise ways none chosen) number behind m found)
  stands_by (with_block assignments body) ways none code before f number from less m is =
      let inside = closing_with pop_frame ways in
      let bodied = then_code (statements_code inside body) (one pop_frame) in
      let assigned = flat no_ways (assignments_core assignments) in
      stands_among body code before (placed_from code before body inside (closed_none pop_frame ways refl none) (found_first code before (statements_code inside body) (one pop_frame)
      (found_behind code before assigned bodied (plain_counts (plain_assignments assignments) no_ways) (found_behind code before (one push_with) (then_code assigned bodied) (λ place. refl) f)))) number from m is
  stands_by (set_block target absent body) ways none code before f number from less m is =
      stands_among body code before (placed_captured code before body (target_code target) ways none f) number from m is
  stands_by (set_block target (given filters) body) ways none code before f number from less m is =
      stands_among body code before (placed_captured code before body (then_code (flat no_ways (filters_core filters)) (target_code target)) ways none f) number from m is
  stands_by (auto_escape e body) ways none code before f number from less m is =
      let inside = closing_with pop_auto_escape ways in
      let bodied = then_code (statements_code inside body) (one pop_auto_escape) in
      stands_among body code before (placed_from code before body inside (closed_none pop_auto_escape ways refl none) (found_first code before (statements_code inside body) (one pop_auto_escape)
      (found_behind code before (one push_auto_escape) bodied (λ place. refl) (found_behind code before (flat no_ways (expression_core e)) (then_code (one push_auto_escape) bodied) (plain_counts (plain_expression e) no_ways) f)))) number from m is
  stands_by (filter_block filters body) ways none code before f number from less m is =
      stands_among body code before (placed_captured code before body (then_code (flat no_ways (filters_core filters)) (one emit)) ways none f) number from m is
  stands_by (macro name arguments defaults body) ways none code before f number from less m is =
      found_declared code before name arguments defaults body (found_first code before (flat no_ways (declared_core name arguments defaults body (statements_core body))) (one (store_local name)) f) number less m is
      (λ placed found. stands_among body code before placed number from m found)
  stands_by (tree.call_block callee passed arguments defaults body) ways none code before f number from less m is =
      let declared = declared_core caller_name arguments defaults body (statements_core body) in
      let own : MacroBody = record { arguments = arguments; defaults = defaults; body = body; first = before } in
      let total = counted_together before (counts_among body) in
      in_caller (callee_of callee passed) (below_or number total.macros (macro_among number before body) (Some own)) m (counts_among body) before number is less
      (λ fits found few.
      found_declared code before caller_name arguments defaults body
      (caller_there code before (callee_of callee passed) fits (expression_core callee) (object_core callee) (plain_expression callee) (plain_object callee) (positional_cores passed) (plain_positional passed) (keyword_cores passed) (plain_keyword passed)
      caller_name declared (found_first code before (flat no_ways (calling_core callee passed declared)) (one emit) f)) number few m found
      (λ placed inner. stands_among body code before placed number from m inner))
  stands_by (tree.template body) ways none code before f number from less m is = none_some m is
  stands_by (raw text) ways none code before f number from less m is = none_some m is
  stands_by (print e) ways none code before f number from less m is = none_some m is
  stands_by (set target e) ways none code before f number from less m is = none_some m is
  stands_by (block name required body) ways none code before f number from less m is = none_some m is
  stands_by (tree.import e target) ways none code before f number from less m is = none_some m is
  stands_by (from_import e names) ways none code before f number from less m is = none_some m is
  stands_by (extends e) ways none code before f number from less m is = none_some m is
  stands_by (tree.include e missing) ways none code before f number from less m is = none_some m is
  stands_by continue_loop ways none code before f number from less m is = none_some m is
  stands_by break_loop ways none code before f number from less m is = none_some m is
  stands_by (do_call callee args) ways none code before f number from less m is = none_some m is

  stands_among : (ss : Statements) (code : List Code) (before : Counts) → Placed code before ss → (number : ℕ) → before.macros ≤ number → (m : MacroBody) → macro_among number before ss ≡ Some m → Stands code number m
  stands_among no_statements code before p number from m is = none_some m is
  stands_among (statements_more s ss) code before p number from m is =
      let last = counted_together before (counts_by s) in
      let first = statement_code p.ways s in
      let rest = statements_code p.ways ss in
      let f : Found code before (then_code first rest) = record { at = p.at; there = p.there; counted = p.counted } in
      of_two number last.macros (macro_by number before s) (macro_among number last ss) m is
      (λ below found. stands_by s p.ways p.none code before (found_first code before first rest f) number from below m found)
      (λ behind found. stands_among ss code last (placed_from code last ss p.ways p.none (found_second code before (counts_by s) first rest (counted_statement s p.ways p.none) f)) number behind m found)

-- a parameter is stored, or its default
stores_parameter : (target : Expression) (default : Optional) → Stores (flat no_ways (parameter_core target default)) (argument_walk target default)
stores_parameter target absent code place h k = stores target code place h k
stores_parameter target (given default) code place h k =
    let first = one dup_top in
    let second = one is_undefined in
    let inner = then_code (one discard_top) (expression_code default) in
    let third = skipped jump_if_false inner in
    let fourth = target_code target in
    let tested = then_code third fourth in
    let doubled = then_code second tested in
    let tests_undefined = place + length (first place) in
    let test_at = tests_undefined + length (second tests_undefined) in
    let store_at = test_at + length (third test_at) in
    let behind_first = stands_second code place first doubled h in
    let behind_second = stands_second code tests_undefined second tested behind_first in
    let skips = stands_first code test_at third fourth behind_second in
    let leap = suc test_at + length (inner (suc test_at)) in
    let within = behind_one code test_at (jump_if_false leap) (inner (suc test_at)) skips in
    let value_at = suc test_at + length (one discard_top (suc test_at)) in
    let stored = stores target code store_at (stands_second code test_at third fourth behind_second) k in
    let valued = performs default code value_at (stands_second code (suc test_at) (one discard_top) (expression_code default) within) stored.0 in
    let m = suc (valued.0 + stored.0) in (
      suc (suc (suc m)),
      λ v operands go below.
          let is = values.truth (kinds.is_undefined v) in
          let after : Val → Process = λ w. target_walk target w go in
          let there : (w : Val) → Below (after w) (exec code stored.0 store_at (single w ∷ operands)) =
          λ w. stored.1 w operands go
          (moved code k (place + length (then_code first doubled place)) (store_at + length (fourth store_at)) operands go (behind_then first doubled place ∙ behind_then second tested tests_undefined ∙ behind_then third fourth test_at) below) in
          let value_end : value_at + length (expression_code default value_at) ≡ store_at = sym (behind_then (one discard_top) (expression_code default) (suc test_at)) ∙ behind_skipped jump_if_false inner test_at in
          let given_so : Below (expression_walk default after) (exec code m (suc test_at) (single v ∷ operands)) =
          below_at code (suc test_at) discard_top (instruction_at code (suc test_at) discard_top [] (stands_first code (suc test_at) (one discard_top) (expression_code default) within)) (valued.0 + stored.0) (single v ∷ operands) (expression_walk default after)
          (moved code (valued.0 + stored.0) value_at (suc (suc test_at)) operands (expression_walk default after) (sym (behind_single (suc test_at) discard_top))
          (longer code valued.0 (valued.0 + stored.0) value_at operands (expression_walk default after) (omega arith)
          (valued.1 operands after (λ w. moved code stored.0 store_at (value_at + length (expression_code default value_at)) (single w ∷ operands) (after w) (sym value_end) (there w))))) in
          let kept_so : Below (after v) (exec code m leap (single v ∷ operands)) =
          moved code m store_at leap (single v ∷ operands) (after v) (sym (behind_skipped jump_if_false inner test_at)) (longer code stored.0 m store_at (single v ∷ operands) (after v) (omega arith) (there v)) in
          below_at code place dup_top (instruction_at code place dup_top [] (stands_first code place first doubled h)) (suc (suc m)) (single v ∷ operands) (argument_walk target (given default) v go)
          (moved code (suc (suc m)) tests_undefined (suc place) (single v ∷ single v ∷ operands) (argument_walk target (given default) v go) (sym (behind_single place dup_top))
          (below_at code tests_undefined is_undefined (instruction_at code tests_undefined is_undefined [] (stands_first code tests_undefined second tested behind_first)) (suc m) (single v ∷ single v ∷ operands) (argument_walk target (given default) v go)
          (below-step _ _
          (moved code (suc m) test_at (suc tests_undefined) (single is ∷ single v ∷ operands) (step (asks (truth_of is) (on_truth (expression_walk default after) (after v)))) (sym (behind_single tests_undefined is_undefined))
          (tests_at code test_at (jump_if_false leap) (inner (suc test_at)) skips m (single is ∷ single v ∷ operands) (truth_of is) (expression_walk default after) (after v) (exec code m (suc test_at) (single v ∷ operands)) (exec code m leap (single v ∷ operands)) refl
          given_so kept_so))))),
    )

-- all of them
stores_parameters : (targets defaults : Expressions) → StoresAll (flat no_ways (parameters_core targets defaults)) (arguments_walk targets defaults) (number_of targets)
stores_parameters no_expressions defaults code place h k = no_targets code place h k
stores_parameters (expressions_more target targets) defaults code place h k =
    let first = flat no_ways (parameter_core target (first_of defaults)) in
    let more = flat no_ways (parameters_core targets (rest_of defaults)) in
    let mid = place + length (first place) in
    let b = stores_parameters targets (rest_of defaults) code mid (stands_second code place first more h) k in
    let a = stores_parameter target (first_of defaults) code place (stands_first code place first more h) b.0 in (
      a.0,
      λ vs many operands go below.
          over_more code a.0 place (arguments_walk (expressions_more target targets) defaults) (number_of targets) operands go
          (λ v us few. a.1 v (map single us ++ operands) (arguments_walk targets (rest_of defaults) us go)
          (b.1 us few operands go (moved code k (place + length (then_code first more place)) (mid + length (more mid)) operands go (behind_then first more place) below)))
          vs many,
    )

reversed_number : (es behind : Expressions) → number_of (reversed es behind) ≡ number_of es + number_of behind
reversed_number no_expressions behind = let none : number_of behind ≡ 0 + number_of behind = omega arith in none
reversed_number (expressions_more e es) behind =
    let next : number_of es + suc (number_of behind) ≡ suc (number_of es) + number_of behind = omega arith in
    reversed_number es (expressions_more e behind) ∙ next

texts_number : (es : Expressions) → length (name_texts es) ≡ number_of es
texts_number no_expressions = refl
texts_number (expressions_more e es) = ap suc (texts_number es)

-- the body performs its walk
body_performs : (code : List Code) (number : ℕ) (m : MacroBody) (s : Stands code number m) (n : ℕ)
    → (j : ℕ) × ((vs : List Val) → length vs ≡ number_of m.arguments → Below (macro_walk n m vs) (exec code j s.declared.offset (map single vs)))
body_performs code number m s n =
    let d = s.declared in
    let targets = reversed m.arguments no_expressions in
    let defaults = reversed m.defaults no_expressions in
    let parameters = flat no_ways (parameters_core targets defaults) in
    let body = statements_code no_ways m.body in
    let bodied = then_code parameters body in
    let place = d.offset in
    let body_at = place + length (parameters place) in
    let ends_at = place + length (bodied place) in
    let there = stands_first code place bodied (one return) d.there in
    let stored_there = stands_first code place parameters body there in
    let counted = still_behind code place (parameters place) stored_there m.first d.behind (plain_counts (plain_parameters targets defaults) no_ways place) in
    let ended : Below (over []) (exec code 1 ends_at []) =
    below_at code ends_at return (instruction_at code ends_at return [] (stands_second code place bodied (one return) d.there)) 0 [] (over []) (below-over []) in
    let done = performs_statements n m.body no_ways refl code body_at m.first counted (stands_second code place parameters body there) 1 in
    let stored = stores_parameters targets defaults code place stored_there done.0 in
    let walk : Process = statements_walk n m.first m.body outside (over []) in
    let none_more : number_of m.arguments + 0 ≡ number_of m.arguments = omega arith in
    let so_many : number_of targets ≡ number_of m.arguments = reversed_number m.arguments no_expressions ∙ none_more in (
      stored.0,
      λ vs many.
          let P : List Operand → Type 0 = λ o. Below (macro_walk n m vs) (exec code stored.0 place o) in
          subst P (append-nil (map single vs))
          (stored.1 vs (many ∙ sym so_many) [] walk
          (done.1 [] outside (over []) (moved code 1 ends_at (body_at + length (body body_at)) [] (over []) (behind_then parameters body place) ended)
          (record { on_break = λ at h. below-cut_short _; on_continue = λ at h. below-cut_short _ }))),
    )

-- where it is found
found_at : (code : List Code) (number : ℕ) (m : MacroBody) (s : Stands code number m)
    → macro_at code number ≡ Some (record { offset = s.declared.offset; count = number_of m.arguments })
found_at code number m s =
    let d = s.declared in
    let h = d.made in
    let listed = load_const (list (vals_of (name_texts m.arguments))) in
    let build = build_macro d.name d.offset d.flags in
    let front = h.front ++ (listed ∷ []) in
    let whole : code ≡ front ++ (build ∷ h.back) = h.is ∙ sym (append_assoc h.front (listed ∷ []) (build ∷ h.back)) in
    let before : counts_in front ≡ s.total =
    counts_append h.front (listed ∷ []) ∙ with_none (counts_in h.front) ∙ sym (counts_of_front code d.at (listed ∷ build ∷ []) h) ∙ d.counted in
    let count : listed_last 0 front ≡ number_of m.arguments = listed_end 0 h.front listed ∙ ap length (listed_back (name_texts m.arguments)) ∙ texts_number m.arguments in
    ap (λ (c : List Code). macro_from 0 c number) whole
    ∙ macro_found front 0 d.name d.offset d.flags h.back number (ap (λ (c : Counts). c.macros) before ∙ s.is)
    ∙ ap (λ (k : ℕ). Some (record { offset = d.offset; count = k })) count

pub whole_placed : (tree : Statements) → Placed (template_code tree) no_counts tree
whole_placed tree = record { ways = no_ways; none = refl; at = 0; there = stands_whole (template_code tree); counted = at_beginning (template_code tree) }

pub macros_perform : MacrosPerform
macros_perform tree number m is =
    let code = template_code tree in
    let s = stands_among tree code no_counts (whole_placed tree) number (omega arith) m is in
    (s.declared.offset, found_at code number m s, λ n. body_performs code number m s n)
