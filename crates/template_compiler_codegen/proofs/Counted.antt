-- The code of statements counts as many macros and loops as the statements do.
use Rattle.std.proofs.Common.{◌≡◌, ℕ, ◌+◌, suc, Bool, true, false, List, [], ◌∷◌, ◌++◌, length, refl, sym, ap, ◌∙◌}
use Rattle.template_compiler_tree.specs.Tree.{Expression, Expressions, Arguments, Statement, Statements, absent, given, raw, print, for_loop, if_condition, with_block, set, set_block, auto_escape, filter_block, block, from_import, extends, macro, continue_loop, break_loop, do_call, call, no_expressions, no_statements, statements_more}
use Rattle.template_compiler_tree.specs.Tree as tree
use Rattle.template_compiler_process.specs.Process.{Counts, no_counts, counted_together}
use Rattle.template_compiler_names.specs.Names.{reversed}
use Rattle.template_compiler_names.specs.Enclosed.{enclosed_names, uses_caller}
use Rattle.template_values_model.specs.Val.{text}
use Rattle.template_compiler_walk.specs.Expressions.{Passing, alone, has_spread, Callee, by_name, by_method, by_block, by_value, callee_of}
use Rattle.template_compiler_walk.specs.Statements.{Printed, prints_value, prints_block, prints_super, prints_rounds, printed_of, imported_names, caller_name}
use Rattle.template_compiler_walk.specs.Counting.{one_macro, loop_counts, macro_counts, caller_counts, counts_by, counts_among}
use Rattle.template_compiler_code.specs.Code.{Code, load_const, jump, jump_if_false, push_with, pop_frame, push_loop, push_did_not_iterate, pop_loop_frame, push_auto_escape, pop_auto_escape, begin_capture, end_capture, emit, store_local, discard_top, call_function, call_method, call_object, build_macro, return}
use Rattle.template_compiler_code.specs.Counting.{counts_of, counts_in}
use Rattle.template_compiler_codegen.specs.Core.{Coded, then_code, one, nothing, skipped, either_code, Ways, no_ways, own_ways, closing_with, rounds_code, left_by, Core, straight, both, flat}
use Rattle.template_compiler_codegen.specs.Expressions.{list_count, rest_count, map_count, merged_core, mapped_core, keywords_core, keyword_count, stretches_core, entries_stretches_core, run_core, passed_core, passed_count, called_core, expression_core, object_core, positional_cores, keyword_cores, filters_core}
use Rattle.template_compiler_codegen.specs.Statements.{target_core, assignments_core, iterable_core, loop_flags, loop_end_code, branches_code, printed_core, apart_core, parameters_core, bodied_core, enclosed_core, made_of_core, macro_flags, declared_core, calling_core, statement_core, statements_core, statement_code, statements_code}
use Rattle.template_compiler_codegen.proofs.Plain.{none_with, with_none, none_together, counts_append, Plain, plain_empty, plain_straight, plain_both, plain_sealed, plain_counts, EachPlain, NamedPlain, none_named_plain, named_plain, merged_plain, plain_mapped, plain_stretches, plain_merged, plain_run, plain_expression, plain_object, plain_positional, plain_keyword, plain_expressions, plain_filters, plain_target, plain_assignments, plain_iterable, plain_imports, plain_parameters}

abbrev pub Counted : Coded → Counts → Type 0
Counted piece counts = (place : ℕ) → counts_in (piece place) ≡ counts

counted_then : (a b : Coded) (m n : Counts) → Counted a m → Counted b n → Counted (then_code a b) (counted_together m n)
counted_then a b m n f g place =
    let second = b (place + length (a place)) in
    counts_append (a place) second ∙ ap (λ (x : Counts). counted_together x (counts_in second)) (f place) ∙ ap (counted_together m) (g (place + length (a place)))

-- one of the two counts nothing
counted_second : (a b : Coded) (n : Counts) → Counted a no_counts → Counted b n → Counted (then_code a b) n
counted_second a b n f g place = counted_then a b no_counts n f g place ∙ none_with n

counted_first : (a b : Coded) (m : Counts) → Counted a m → Counted b no_counts → Counted (then_code a b) m
counted_first a b m f g place = counted_then a b m no_counts f g place ∙ with_none m

plainly : (c : Core) → Plain c → (ways : Ways) → Counted (flat ways c) no_counts
plainly c p ways = plain_counts p ways

counted_skipped : (leap : ℕ → Code) (a : Coded) (m : Counts) → ((to : ℕ) → counts_of (leap to) ≡ no_counts) → Counted a m → Counted (skipped leap a) m
counted_skipped leap a m none f place =
    let inner = a (suc place) in
    ap (λ (x : Counts). counted_together x (counts_in inner)) (none (suc place + length inner)) ∙ none_with (counts_in inner) ∙ f (suc place)

counted_either : (a b : Coded) (m n : Counts) → Counted a m → Counted b n → Counted (either_code a b) (counted_together m n)
counted_either a b m n f g place =
    let yes = a (suc place) in
    let begins = suc (suc place + length yes) in
    let other = b begins in
    let rest = jump (begins + length other) ∷ other in
    none_with (counts_in (yes ++ rest)) ∙ counts_append yes rest ∙ ap (λ (x : Counts). counted_together x (counts_in rest)) (f (suc place)) ∙ ap (counted_together m) (none_with (counts_in other) ∙ g begins)

counted_rounds : (target : Coded) (body : ℕ → ℕ → Coded) (m : Counts) → Counted target no_counts → ((a b : ℕ) → Counted (body a b) m) → Counted (rounds_code target body) m
counted_rounds target body m none f place =
    let stored = target (suc place) in
    let begins = suc place + length stored in
    let ends_at = suc (begins + length (body 0 0 begins)) in
    let piece = body ends_at place begins in
    let rest = piece ++ (jump place ∷ []) in
    none_with (counts_in (stored ++ rest)) ∙ counts_append stored rest ∙ ap (λ (x : Counts). counted_together x (counts_in rest)) (none (suc place))
    ∙ none_with (counts_in rest) ∙ counts_append piece (jump place ∷ []) ∙ with_none (counts_in piece) ∙ f ends_at place begins

counted_end : (otherwise : Statements) (other : Coded) → Counted other (counts_among otherwise) → Counted (loop_end_code otherwise other) (counts_among otherwise)
counted_end no_statements other f place = refl
counted_end (statements_more s ss) other f place =
    let tail = skipped jump_if_false other in
    counted_second (one push_did_not_iterate) (then_code (one pop_loop_frame) tail) (counts_among (statements_more s ss)) (λ place. refl)
    (counted_second (one pop_loop_frame) tail (counts_among (statements_more s ss)) (λ place. refl)
    (counted_skipped jump_if_false other (counts_among (statements_more s ss)) (λ to. refl) f)) place

counted_branches : (otherwise : Statements) (body other : Coded) (m : Counts) → Counted body m → Counted other (counts_among otherwise) → Counted (branches_code otherwise body other) (counted_together m (counts_among otherwise))
counted_branches no_statements body other m f g place = counted_skipped jump_if_false body m (λ to. refl) f place ∙ sym (with_none m)
counted_branches (statements_more s ss) body other m f g place = counted_either body other m (counts_among (statements_more s ss)) f g place

pub plain_enclosed : (names : List (List ℕ)) → Plain (enclosed_core names)
plain_enclosed [] = plain_empty
plain_enclosed (name ∷ names) = plain_both (plain_straight refl) (plain_enclosed names)

plain_made : (arguments : Expressions) (names : List (List ℕ)) → Plain (made_of_core arguments names)
plain_made arguments names = plain_both (plain_enclosed names) (plain_both (plain_straight refl) (plain_straight refl))

-- what is leapt over
counted_leapt : (arguments defaults : Expressions) (body : Statements) → Counted (statements_code no_ways body) (counts_among body)
    → Counted (skipped jump (then_code (flat no_ways (bodied_core arguments defaults (statements_core body))) (one return))) (counts_among body)
counted_leapt arguments defaults body f =
    let m = counts_among body in
    let parameters = flat no_ways (parameters_core (reversed arguments no_expressions) (reversed defaults no_expressions)) in
    let inner = then_code parameters (statements_code no_ways body) in
    counted_skipped jump (then_code inner (one return)) m (λ to. refl)
    (counted_first inner (one return) m (counted_second parameters (statements_code no_ways body) m (plainly (parameters_core (reversed arguments no_expressions) (reversed defaults no_expressions)) (plain_parameters (reversed arguments no_expressions) (reversed defaults no_expressions)) no_ways) f) (λ at. refl))

-- a macro, behind what its body counts
pub counted_declared : (name : List ℕ) (arguments defaults : Expressions) (body : Statements) → Counted (statements_code no_ways body) (counts_among body) → (ways : Ways)
    → Counted (flat ways (declared_core name arguments defaults body (statements_core body))) (macro_counts (counts_among body))
counted_declared name arguments defaults body f ways =
    let m = counts_among body in
    let inner = flat no_ways (bodied_core arguments defaults (statements_core body)) in
    let rest = flat no_ways (made_of_core arguments (enclosed_names arguments defaults body)) in
    let made = λ (offset : ℕ). build_macro name offset (macro_flags (uses_caller arguments defaults body)) in
    λ place.
    counted_then (skipped jump (then_code inner (one return))) (then_code rest (one (made (suc place)))) m one_macro
    (counted_leapt arguments defaults body f)
    (counted_second rest (one (made (suc place))) one_macro (plainly (made_of_core arguments (enclosed_names arguments defaults body)) (plain_made arguments (enclosed_names arguments defaults body)) no_ways) (λ at. refl))
    place

-- keywords that count nothing, and a last one
counted_entries : (n : ℕ) (named : List (Passing (List ℕ × Core) Core)) → NamedPlain named → (name : List ℕ) (c : Core) (m : Counts) → Counted (flat no_ways c) m
    → Counted (flat no_ways (entries_stretches_core n (named ++ alone (name, c) ∷ []))) m
counted_entries n _ none_named_plain name c m f =
    counted_second (one (load_const (text name))) (then_code (flat no_ways c) nothing) m (λ place. refl) (counted_first (flat no_ways c) nothing m f (λ place. refl))
counted_entries n _ (named_plain {name = other} {c = d} {args = named} p each) name c m f =
    let rest = flat no_ways (entries_stretches_core (suc n) (named ++ alone (name, c) ∷ [])) in
    counted_second (one (load_const (text other))) (then_code (flat no_ways d) rest) m (λ place. refl) (counted_second (flat no_ways d) rest m (plainly d p no_ways) (counted_entries (suc n) named each name c m f))
counted_entries n _ (merged_plain {c = d} {args = named} p each) name c m f =
    let rest = flat no_ways (entries_stretches_core 0 (named ++ alone (name, c) ∷ [])) in
    counted_second (flat no_ways (mapped_core n)) (then_code (flat no_ways d) rest) m (plainly (mapped_core n) (plain_mapped n) no_ways) (counted_second (flat no_ways d) rest m (plainly d p no_ways) (counted_entries 0 named each name c m f))

counted_passed : (front : ℕ) (args : List (Passing Core Core)) → EachPlain args → (named : List (Passing (List ℕ × Core) Core)) → NamedPlain named → (name : List ℕ) (c : Core) (m : Counts) → Counted (flat no_ways c) m
    → Counted (flat no_ways (passed_core front args (named ++ alone (name, c) ∷ []))) m
counted_passed front args plain named others name c m f =
    let all = named ++ alone (name, c) ∷ [] in
    let run = run_core (has_spread args) (list_count front args) (rest_count front args + keyword_count all) in
    let mapped = flat no_ways (mapped_core (rest_count 0 all)) in
    let merged = flat no_ways (merged_core (has_spread all) (map_count all)) in
    counted_second (flat no_ways (stretches_core front args)) (then_code (flat no_ways (keywords_core all)) (flat no_ways run)) m (plainly (stretches_core front args) (plain_stretches front plain) no_ways)
    (counted_first (flat no_ways (keywords_core all)) (flat no_ways run) m
    (counted_first (flat no_ways (entries_stretches_core 0 all)) (then_code mapped merged) m (counted_entries 0 named others name c m f)
    (counted_second mapped merged no_counts (plainly (mapped_core (rest_count 0 all)) (plain_mapped (rest_count 0 all)) no_ways) (plainly (merged_core (has_spread all) (map_count all)) (plain_merged (has_spread all) (map_count all)) no_ways)))
    (plainly run (plain_run (has_spread args) (list_count front args) (rest_count front args + keyword_count all)) no_ways))

counted_called : (callee : Callee) (whole object : Core) → Plain whole → Plain object → (args : List (Passing Core Core)) → EachPlain args → (named : List (Passing (List ℕ × Core) Core)) → NamedPlain named
    → (name : List ℕ) (c : Core) (m : Counts) → Counted (flat no_ways c) (macro_counts m) → Counted (flat no_ways (called_core callee whole object args (named ++ alone (name, c) ∷ []))) (caller_counts callee m)
counted_called (by_name f) whole object p q args plain named others name c m g =
    let all = named ++ alone (name, c) ∷ [] in
    counted_first (flat no_ways (passed_core 0 args all)) (one (call_function f (passed_count 0 args all))) (macro_counts m) (counted_passed 0 args plain named others name c (macro_counts m) g) (λ place. refl)
counted_called (by_method f) whole object p q args plain named others name c m g =
    let all = named ++ alone (name, c) ∷ [] in
    let passed = flat no_ways (passed_core 1 args all) in
    let last = one (call_method f (passed_count 1 args all)) in
    counted_second (flat no_ways object) (then_code passed last) (macro_counts m) (plainly object q no_ways)
    (counted_first passed last (macro_counts m) (counted_passed 1 args plain named others name c (macro_counts m) g) (λ place. refl))
counted_called (by_block f) whole object p q args plain named others name c m g = λ place. refl
counted_called by_value whole object p q args plain named others name c m g =
    let all = named ++ alone (name, c) ∷ [] in
    let passed = flat no_ways (passed_core 1 args all) in
    let last = one (call_object (passed_count 1 args all)) in
    counted_second (flat no_ways whole) (then_code passed last) (macro_counts m) (plainly whole p no_ways)
    (counted_first passed last (macro_counts m) (counted_passed 1 args plain named others name c (macro_counts m) g) (λ place. refl))

-- what is closed on a way out counts nothing
abbrev pub CountNone : Ways → Type 0
CountNone ways = counts_in ways.closings ≡ no_counts

-- one more that counts nothing, and what closes a capture
pub closed_none : (c : Code) (ways : Ways) → counts_of c ≡ no_counts → CountNone ways → CountNone (closing_with c ways)
closed_none c ways e none = none_together (counts_of c) (counts_in ways.closings) e none

pub captured_none : (ways : Ways) → CountNone ways → CountNone (closing_with end_capture (closing_with discard_top ways))
captured_none ways none = closed_none end_capture (closing_with discard_top ways) refl (closed_none discard_top ways refl none)

counted_out : (closings : List Code) (to : ℕ) → counts_in closings ≡ no_counts → Counted (left_by closings to) no_counts
counted_out closings to none place = counts_append closings (jump to ∷ []) ∙ with_none (counts_in closings) ∙ none

counted_printed : (printed : Printed) (e : Expression) (ways : Ways) → Counted (flat ways (printed_core printed (expression_core e))) no_counts
counted_printed prints_value e ways = plainly (printed_core prints_value (expression_core e)) (plain_both (plain_sealed (plain_expression e)) (plain_straight refl)) ways
counted_printed (prints_block name) e ways = λ place. refl
counted_printed prints_super e ways = λ place. refl
counted_printed (prints_rounds x) e ways = plainly (printed_core (prints_rounds x) (expression_core e)) (plain_both (plain_sealed (plain_expression x)) (plain_straight refl)) ways

pub plain_apart : (e : Expression) → Plain (apart_core e)
plain_apart e = plain_both (plain_straight refl) (plain_both (plain_sealed (plain_expression e)) (plain_straight refl))

-- a body with something open, which is closed behind it
counted_closed : (opens closes : Code) (body : Coded) (m : Counts) → counts_of opens ≡ no_counts → counts_of closes ≡ no_counts → Counted body m → Counted (then_code (one opens) (then_code body (one closes))) m
counted_closed opens closes body m e f g =
    counted_second (one opens) (then_code body (one closes)) m (λ place. ap (λ (x : Counts). counted_together x no_counts) e) (counted_first body (one closes) m g (λ place. ap (λ (x : Counts). counted_together x no_counts) f))

-- a capture, its body, and what takes its text
counted_capture : (body taking : Coded) (m : Counts) → Counted body m → Counted taking no_counts → Counted (then_code (one (begin_capture true)) (then_code body (then_code (one end_capture) taking))) m
counted_capture body taking m f g =
    counted_second (one (begin_capture true)) (then_code body (then_code (one end_capture) taking)) m (λ place. refl)
    (counted_first body (then_code (one end_capture) taking) m f (counted_second (one end_capture) taking no_counts (λ place. refl) g))

pub loop_flags_count : (recursive : Bool) (place : ℕ) → counts_in (one (push_loop (loop_flags recursive)) place) ≡ loop_counts recursive
loop_flags_count true place = refl
loop_flags_count false place = refl

mutual
  pub counted_statement : (s : Statement) (ways : Ways) → CountNone ways → Counted (statement_code ways s) (counts_by s)
  counted_statement (tree.template body) ways none = λ place. refl
  counted_statement (raw words) ways none = λ place. refl
  counted_statement (print e) ways none = counted_printed (printed_of e) e ways
  counted_statement (for_loop target e condition recursive body otherwise) ways none =
      let looped = rounds_code (flat no_ways (target_core target)) (λ a b. statements_code (own_ways a b) body) in
      let last = loop_end_code otherwise (statements_code ways otherwise) in
      let push = one (push_loop (loop_flags recursive)) in
      counted_second (flat no_ways (iterable_core target e condition)) (then_code push (then_code looped last)) (counts_by (for_loop target e condition recursive body otherwise)) (plainly (iterable_core target e condition) (plain_iterable target e condition) no_ways)
      (counted_then push (then_code looped last) (loop_counts recursive) (counted_together (counts_among body) (counts_among otherwise)) (loop_flags_count recursive)
      (counted_then looped last (counts_among body) (counts_among otherwise)
      (counted_rounds (flat no_ways (target_core target)) (λ a b. statements_code (own_ways a b) body) (counts_among body) (plainly (target_core target) (plain_target target) no_ways) (λ a b. counted_statements body (own_ways a b) refl))
      (counted_end otherwise (statements_code ways otherwise) (counted_statements otherwise ways none))))
  counted_statement (if_condition e body otherwise) ways none =
      counted_second (flat no_ways (expression_core e)) (branches_code otherwise (statements_code ways body) (statements_code ways otherwise)) (counts_by (if_condition e body otherwise)) (plainly (expression_core e) (plain_expression e) no_ways)
      (counted_branches otherwise (statements_code ways body) (statements_code ways otherwise) (counts_among body) (counted_statements body ways none) (counted_statements otherwise ways none))
  counted_statement (with_block assignments body) ways none =
      let bodied = then_code (statements_code (closing_with pop_frame ways) body) (one pop_frame) in
      counted_second (one push_with) (then_code (flat no_ways (assignments_core assignments)) bodied) (counts_among body) (λ place. refl)
      (counted_second (flat no_ways (assignments_core assignments)) bodied (counts_among body) (plainly (assignments_core assignments) (plain_assignments assignments) no_ways)
      (counted_first (statements_code (closing_with pop_frame ways) body) (one pop_frame) (counts_among body) (counted_statements body (closing_with pop_frame ways) (closed_none pop_frame ways refl none)) (λ place. refl)))
  counted_statement (set target e) ways none = plainly (statement_core (set target e)) (plain_both (plain_sealed (plain_expression e)) (plain_sealed (plain_target target))) ways
  counted_statement (set_block target absent body) ways none =
      let inside = closing_with end_capture (closing_with discard_top ways) in
      counted_capture (statements_code inside body) (flat no_ways (target_core target)) (counts_among body) (counted_statements body inside (captured_none ways none)) (plainly (target_core target) (plain_target target) no_ways)
  counted_statement (set_block target (given filters) body) ways none =
      let inside = closing_with end_capture (closing_with discard_top ways) in
      counted_capture (statements_code inside body) (then_code (flat no_ways (filters_core filters)) (flat no_ways (target_core target))) (counts_among body) (counted_statements body inside (captured_none ways none))
      (plainly (both (filters_core filters) (target_core target)) (plain_both (plain_filters filters) (plain_target target)) no_ways)
  counted_statement (auto_escape e body) ways none =
      let opened = then_code (statements_code (closing_with pop_auto_escape ways) body) (one pop_auto_escape) in
      counted_second (flat no_ways (expression_core e)) (then_code (one push_auto_escape) opened) (counts_among body) (plainly (expression_core e) (plain_expression e) no_ways)
      (counted_closed push_auto_escape pop_auto_escape (statements_code (closing_with pop_auto_escape ways) body) (counts_among body) refl refl
      (counted_statements body (closing_with pop_auto_escape ways) (closed_none pop_auto_escape ways refl none)))
  counted_statement (filter_block filters body) ways none =
      let inside = closing_with end_capture (closing_with discard_top ways) in
      counted_capture (statements_code inside body) (then_code (flat no_ways (filters_core filters)) (one emit)) (counts_among body) (counted_statements body inside (captured_none ways none))
      (plainly (both (filters_core filters) (straight emit)) (plain_both (plain_filters filters) (plain_straight refl)) no_ways)
  counted_statement (block name required body) ways none = λ place. refl
  counted_statement (tree.import e target) ways none =
      plainly (statement_core (tree.import e target)) (plain_both (plain_straight refl) (plain_both (plain_apart e) (plain_both (plain_straight refl) (plain_both (plain_straight refl) (plain_both (plain_straight refl) (plain_sealed (plain_target target))))))) ways
  counted_statement (from_import e names) ways none =
      plainly (statement_core (from_import e names)) (plain_both (plain_straight refl) (plain_both (plain_apart e) (plain_both (plain_sealed (plain_expressions (imported_names names)))
      (plain_both (plain_straight refl) (plain_both (plain_sealed (plain_imports names)) (plain_both (plain_straight refl) (plain_straight refl))))))) ways
  counted_statement (extends e) ways none = plainly (statement_core (extends e)) (plain_both (plain_sealed (plain_expression e)) (plain_straight refl)) ways
  counted_statement (tree.include e ignore_missing) ways none = plainly (statement_core (tree.include e ignore_missing)) (plain_both (plain_sealed (plain_expression e)) (plain_straight refl)) ways
  counted_statement (macro name arguments defaults body) ways none =
      counted_first (flat no_ways (declared_core name arguments defaults body (statements_core body))) (one (store_local name)) (macro_counts (counts_among body))
      (counted_declared name arguments defaults body (counted_statements body no_ways refl) no_ways) (λ place. refl)
  counted_statement (tree.call_block callee passed arguments defaults body) ways none =
      let declared = declared_core caller_name arguments defaults body (statements_core body) in
      counted_first (flat no_ways (calling_core callee passed declared)) (one emit) (caller_counts (callee_of callee passed) (counts_among body))
      (counted_called (callee_of callee passed) (expression_core callee) (object_core callee) (plain_expression callee) (plain_object callee) (positional_cores passed) (plain_positional passed) (keyword_cores passed) (plain_keyword passed)
      caller_name declared (counts_among body) (counted_declared caller_name arguments defaults body (counted_statements body no_ways refl) no_ways)) (λ place. refl)
  counted_statement (do_call callee args) ways none = plainly (statement_core (do_call callee args)) (plain_both (plain_sealed (plain_expression (call callee args))) (plain_straight refl)) ways
  counted_statement continue_loop ways none = counted_out ways.closings ways.continue_to none
  counted_statement break_loop ways none = counted_out ways.closings ways.break_to none

  pub counted_statements : (ss : Statements) (ways : Ways) → CountNone ways → Counted (statements_code ways ss) (counts_among ss)
  counted_statements no_statements ways none = λ place. refl
  counted_statements (statements_more s ss) ways none =
      counted_then (statement_code ways s) (statements_code ways ss) (counts_by s) (counts_among ss) (counted_statement s ways none) (counted_statements ss ways none)

-- The code of a tree counts what the tree does.
pub template_counts : (ss : Statements) (place : ℕ) → counts_in (statements_code no_ways ss place) ≡ counts_among ss
template_counts ss place = counted_statements ss no_ways refl place

-- what a macro leaps over counts what its body does
pub counted_body : (arguments defaults : Expressions) (body : Statements) → Counted (skipped jump (then_code (flat no_ways (bodied_core arguments defaults (statements_core body))) (one return))) (counts_among body)
counted_body arguments defaults body = counted_leapt arguments defaults body (counted_statements body no_ways refl)

pub counted_looped : (target : Expression) (body : Statements) → Counted (rounds_code (flat no_ways (target_core target)) (λ a b. statements_code (own_ways a b) body)) (counts_among body)
counted_looped target body =
    counted_rounds (flat no_ways (target_core target)) (λ a b. statements_code (own_ways a b) body) (counts_among body) (plainly (target_core target) (plain_target target) no_ways) (λ a b. counted_statements body (own_ways a b) refl)

pub counted_calling : (callee : Expression) (passed : Arguments) (arguments defaults : Expressions) (body : Statements)
    → Counted (flat no_ways (calling_core callee passed (declared_core caller_name arguments defaults body (statements_core body)))) (caller_counts (callee_of callee passed) (counts_among body))
counted_calling callee passed arguments defaults body =
    counted_called (callee_of callee passed) (expression_core callee) (object_core callee) (plain_expression callee) (plain_object callee) (positional_cores passed) (plain_positional passed) (keyword_cores passed) (plain_keyword passed)
    caller_name (declared_core caller_name arguments defaults body (statements_core body)) (counts_among body) (counted_declared caller_name arguments defaults body (counted_statements body no_ways refl) no_ways)
