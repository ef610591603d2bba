-- Where the bodies of statements stand in their code, and how many macros and loops stand before them.
use Rattle.std.proofs.Common.{◌≡◌, ℕ, ◌+◌, suc, true, List, [], ◌∷◌, ◌++◌, length, refl, sym, ap, subst, ◌∙◌, append_assoc, length-append, arith}
use Rattle.template_values_model.specs.Val.{list, vals_of, text}
use Rattle.template_compiler_tree.specs.Tree.{Expression, Expressions, Statements, no_expressions, no_statements, statements_more}
use Rattle.template_compiler_process.specs.Process.{Counts, no_counts, counted_together}
use Rattle.template_compiler_names.specs.Names.{reversed}
use Rattle.template_compiler_names.specs.Enclosed.{enclosed_names, uses_caller}
use Rattle.template_compiler_walk.specs.Expressions.{Passing, alone, has_spread, Callee, by_name, by_method, by_block, by_value}
use Rattle.template_compiler_walk.specs.Counting.{counts_among}
use Rattle.template_compiler_walk.specs.Statements.{name_texts}
use Rattle.template_compiler_code.specs.Code.{Code, load_const, jump, jump_if_false, push_did_not_iterate, pop_loop_frame, iterate, build_macro, get_closure, return, begin_capture, end_capture, discard_top, call_function, call_method, call_object}
use Rattle.template_compiler_code.specs.Counting.{counts_in, counts_before}
use Rattle.template_compiler_codegen.specs.Core.{Coded, then_code, one, nothing, skipped, Ways, no_ways, own_ways, closing_with, rounds_code, Core, flat}
use Rattle.template_compiler_codegen.specs.Expressions.{list_count, rest_count, map_count, merged_core, mapped_core, keywords_core, keyword_count, stretches_core, entries_stretches_core, run_core, passed_core, passed_count, called_core}
use Rattle.template_compiler_codegen.specs.Statements.{target_core, loop_end_code, branches_code, parameters_core, bodied_core, enclosed_core, made_of_core, macro_flags, declared_core, statements_core, statements_code}
use Rattle.template_compiler_codegen.proofs.Standing.{StandsAt, first_part, last_part, behind_one, stands_first, stands_second, stands_either}
use Rattle.template_compiler_codegen.proofs.Plain.{Plain, plain_counts, EachPlain, NamedPlain, none_named_plain, named_plain, merged_plain, plain_mapped, plain_stretches, plain_target, plain_parameters}
use Rattle.template_compiler_codegen.proofs.Behind.{still_behind, still_one, counted_behind}
use Rattle.template_compiler_codegen.proofs.Counted.{Counted, CountNone, captured_none, plain_enclosed, counted_statements, counted_body}

-- statements stand somewhere, behind so many macros and loops
pub record Placed (code : List Code) (before : Counts) (ss : Statements) : Type 0 where
  pub ways : Ways
  pub none : CountNone ways
  pub at : ℕ
  pub there : StandsAt code at (statements_code ways ss at)
  pub counted : counts_before code at ≡ before

-- so does any code
pub record Found (code : List Code) (before : Counts) (piece : Coded) : Type 0 where
  pub at : ℕ
  pub there : StandsAt code at (piece at)
  pub counted : counts_before code at ≡ before

pub found_first : (code : List Code) (before : Counts) (a b : Coded) → Found code before (then_code a b) → Found code before a
found_first code before a b f = record { at = f.at; there = stands_first code f.at a b f.there; counted = f.counted }

pub found_second : (code : List Code) (before counts : Counts) (a b : Coded) → Counted a counts → Found code before (then_code a b) → Found code (counted_together before counts) b
found_second code before counts a b own f =
    let first = stands_first code f.at a b f.there in record {
      at = f.at + length (a f.at);
      there = stands_second code f.at a b f.there;
      counted = counted_behind code f.at (a f.at) first before counts f.counted (own f.at);
    }

-- behind a piece that counts nothing
pub found_behind : (code : List Code) (before : Counts) (a b : Coded) → Counted a no_counts → Found code before (then_code a b) → Found code before b
found_behind code before a b none f =
    let first = stands_first code f.at a b f.there in record {
      at = f.at + length (a f.at);
      there = stands_second code f.at a b f.there;
      counted = still_behind code f.at (a f.at) first before f.counted (none f.at);
    }

pub placed_from : (code : List Code) (before : Counts) (ss : Statements) (ways : Ways) → CountNone ways → Found code before (statements_code ways ss) → Placed code before ss
placed_from code before ss ways none f = record { ways = ways; none = none; at = f.at; there = f.there; counted = f.counted }

-- behind an instruction that may lead past it
pub found_skipped : (code : List Code) (before : Counts) (leap : ℕ → Code) (a : Coded) → ((to : ℕ) → counts_in (leap to ∷ []) ≡ no_counts) → Found code before (skipped leap a) → Found code before a
found_skipped code before leap a none f =
    let inner = a (suc f.at) in
    let c = leap (suc f.at + length inner) in
    let next : f.at + length (c ∷ []) ≡ suc f.at = omega arith in record {
      at = suc f.at;
      there = behind_one code f.at c inner f.there;
      counted = ap (counts_before code) (sym next) ∙ still_behind code f.at (c ∷ []) (first_part code f.at (c ∷ []) inner f.there) before f.counted (none (suc f.at + length inner));
    }

-- the body of a loop, behind its opening
pub placed_rounds : (code : List Code) (before : Counts) (target : Expression) (body : Statements) → Found code before (rounds_code (flat no_ways (target_core target)) (λ a b. statements_code (own_ways a b) body)) → Placed code before body
placed_rounds code before target body f =
    let place = f.at in
    let stored = flat no_ways (target_core target) (suc place) in
    let begins = suc place + length stored in
    let ends_at = suc (begins + length (statements_code (own_ways 0 0) body begins)) in
    let piece = statements_code (own_ways ends_at place) body begins in
    let inner = behind_one code place (iterate ends_at) (stored ++ (piece ++ (jump place ∷ []))) f.there in
    let stores_there = first_part code (suc place) stored (piece ++ (jump place ∷ [])) inner in
    let counted_round = still_one code place (iterate ends_at) (stored ++ (piece ++ (jump place ∷ []))) f.there before f.counted refl in record {
      ways = own_ways ends_at place;
      none = refl;
      at = begins;
      there = first_part code begins piece (jump place ∷ []) (last_part code (suc place) stored (piece ++ (jump place ∷ [])) inner);
      counted = still_behind code (suc place) stored stores_there before counted_round (plain_counts (plain_target target) no_ways (suc place));
    }

-- nothing stands at any place that a piece stands at
nothing_there : (code : List Code) (before : Counts) (a : Coded) → Found code before a → Found code before nothing
nothing_there code before a f = record { at = f.at; there = first_part code f.at [] (a f.at) f.there; counted = f.counted }

-- the else part of a loop
pub placed_end : (code : List Code) (before : Counts) (otherwise : Statements) (ways : Ways) → CountNone ways → Found code before (loop_end_code otherwise (statements_code ways otherwise)) → Placed code before otherwise
placed_end code before no_statements ways none f = placed_from code before no_statements ways none (nothing_there code before (one pop_loop_frame) f)
placed_end code before (statements_more s ss) ways none f =
    let other = statements_code ways (statements_more s ss) in
    let tail = skipped jump_if_false other in
    let closed = found_behind code before (one push_did_not_iterate) (then_code (one pop_loop_frame) tail) (λ place. refl) f in
    placed_from code before (statements_more s ss) ways none
    (found_skipped code before jump_if_false other (λ to. refl) (found_behind code before (one pop_loop_frame) tail (λ place. refl) closed))

-- a body that is captured
pub placed_captured : (code : List Code) (before : Counts) (body : Statements) (taking : Coded) (ways : Ways) → CountNone ways
    → Found code before (then_code (one (begin_capture true)) (then_code (statements_code (closing_with end_capture (closing_with discard_top ways)) body) (then_code (one end_capture) taking))) → Placed code before body
placed_captured code before body taking ways none f =
    let inside = closing_with end_capture (closing_with discard_top ways) in
    let tail = then_code (one end_capture) taking in
    placed_from code before body inside (captured_none ways none) (found_first code before (statements_code inside body) tail
    (found_behind code before (one (begin_capture true)) (then_code (statements_code inside body) tail) (λ place. refl) f))

-- branches
pub placed_branch : (code : List Code) (before : Counts) (body otherwise : Statements) (ways : Ways) → CountNone ways → Found code before (branches_code otherwise (statements_code ways body) (statements_code ways otherwise)) → Placed code before body
placed_branch code before body no_statements ways none f = placed_from code before body ways none (found_skipped code before jump_if_false (statements_code ways body) (λ to. refl) f)
placed_branch code before body (statements_more s ss) ways none f =
    let yes = statements_code ways body in
    let other = statements_code ways (statements_more s ss) in
    let parts = stands_either code f.at yes other f.there in
    let begins = suc (suc f.at + length (yes (suc f.at))) in record {
      ways = ways;
      none = none;
      at = suc f.at;
      there = parts.left;
      counted = still_one code f.at (jump_if_false begins) parts.test parts.tests before f.counted refl;
    }

pub placed_otherwise : (code : List Code) (before : Counts) (body otherwise : Statements) (ways : Ways) → CountNone ways → Found code before (branches_code otherwise (statements_code ways body) (statements_code ways otherwise))
    → Placed code (counted_together before (counts_among body)) otherwise
placed_otherwise code before body no_statements ways none f =
    let yes = statements_code ways body in
    let inner = found_skipped code before jump_if_false yes (λ to. refl) f in record {
      ways = ways;
      none = none;
      at = inner.at + length (yes inner.at);
      there = record { front = inner.there.front ++ yes inner.at; back = inner.there.back; is = inner.there.is ∙ sym (append_assoc inner.there.front (yes inner.at) inner.there.back); at = length-append inner.there.front (yes inner.at) ∙ ap (λ n. n + length (yes inner.at)) inner.there.at };
      counted = counted_behind code inner.at (yes inner.at) inner.there before (counts_among body) inner.counted (counted_statements body ways none inner.at);
    }
placed_otherwise code before body (statements_more s ss) ways none f =
    let yes = statements_code ways body in
    let other = statements_code ways (statements_more s ss) in
    let parts = stands_either code f.at yes other f.there in
    let leap_at = suc f.at + length (yes (suc f.at)) in
    let begins = suc leap_at in
    let last = counted_together before (counts_among body) in
    let at_left = still_one code f.at (jump_if_false begins) parts.test parts.tests before f.counted refl in
    let at_leap = counted_behind code (suc f.at) (yes (suc f.at)) parts.left before (counts_among body) at_left (counted_statements body ways none (suc f.at)) in record {
      ways = ways;
      none = none;
      at = begins;
      there = parts.right;
      counted = still_one code leap_at (jump (begins + length (other begins))) parts.rest parts.leaps last at_leap refl;
    }

-- a macro that is made: the constant that lists its parameters' names and the making; its body, which ends by itself
pub record Declared (code : List Code) (before total : Counts) (arguments defaults : Expressions) (body : Statements) : Type 0 where
  pub at : ℕ
  pub name : List ℕ
  pub offset : ℕ
  pub flags : ℕ
  pub made : StandsAt code at (load_const (list (vals_of (name_texts arguments))) ∷ build_macro name offset flags ∷ [])
  pub counted : counts_before code at ≡ total
  pub there : StandsAt code offset (then_code (flat no_ways (bodied_core arguments defaults (statements_core body))) (one return) offset)
  pub behind : counts_before code offset ≡ before

pub declared_there : (code : List Code) (before : Counts) (name : List ℕ) (arguments defaults : Expressions) (body : Statements) → Found code before (flat no_ways (declared_core name arguments defaults body (statements_core body)))
    → Declared code before (counted_together before (counts_among body)) arguments defaults body
declared_there code before name arguments defaults body f =
    let place = f.at in
    let inner = then_code (flat no_ways (bodied_core arguments defaults (statements_core body))) (one return) in
    let skip = skipped jump inner in
    let names = enclosed_names arguments defaults body in
    let listed = list (vals_of (name_texts arguments)) in
    let flags = macro_flags (uses_caller arguments defaults body) in
    let build = build_macro name (suc place) flags in
    let enclosings = flat no_ways (enclosed_core names) in
    let closing = then_code (one get_closure) (one (load_const listed)) in
    let rest = flat no_ways (made_of_core arguments names) in
    let last = then_code rest (one build) in
    let total = counted_together before (counts_among body) in
    let skips : Found code before skip = record { at = place; there = stands_first code place skip last f.there; counted = f.counted } in
    let rest_at = place + length (skip place) in
    let get_at = rest_at + length (enclosings rest_at) in
    let at_rest = counted_behind code place (skip place) skips.there before (counts_among body) f.counted (counted_body arguments defaults body place) in
    let P : List Code → Type 0 = λ piece. StandsAt code rest_at piece in
    let rests = subst P (append_assoc (enclosings rest_at) (get_closure ∷ load_const listed ∷ []) (build ∷ [])) (stands_second code place skip last f.there) in
    let encloses_there = first_part code rest_at (enclosings rest_at) (get_closure ∷ load_const listed ∷ build ∷ []) rests in
    let gets = last_part code rest_at (enclosings rest_at) (get_closure ∷ load_const listed ∷ build ∷ []) rests in
    let at_get = still_behind code rest_at (enclosings rest_at) encloses_there total at_rest (plain_counts (plain_enclosed names) no_ways rest_at) in
    let leap = jump (suc place + length (inner (suc place))) in record {
      at = suc get_at;
      name = name;
      offset = suc place;
      flags = flags;
      made = behind_one code get_at get_closure (load_const listed ∷ build ∷ []) gets;
      counted = still_one code get_at get_closure (load_const listed ∷ build ∷ []) gets total at_get refl;
      there = behind_one code place leap (inner (suc place)) skips.there;
      behind = still_one code place leap (inner (suc place)) skips.there before f.counted refl;
    }

-- the statements of its body stand there
pub placed_body : (code : List Code) (before total : Counts) (arguments defaults : Expressions) (body : Statements) → Declared code before total arguments defaults body → Placed code before body
placed_body code before total arguments defaults body d =
    let parameters = flat no_ways (parameters_core (reversed arguments no_expressions) (reversed defaults no_expressions)) in
    let bodied = flat no_ways (bodied_core arguments defaults (statements_core body)) in
    placed_from code before body no_ways refl
    (found_behind code before parameters (statements_code no_ways body) (plain_counts (plain_parameters (reversed arguments no_expressions) (reversed defaults no_expressions)) no_ways)
    (found_first code before bodied (one return) (record { at = d.offset; there = d.there; counted = d.behind })))

-- the last keyword
entries_there : (code : List Code) (before : Counts) (n : ℕ) (named : List (Passing (List ℕ × Core) Core)) → NamedPlain named → (name : List ℕ) (c : Core)
    → Found code before (flat no_ways (entries_stretches_core n (named ++ alone (name, c) ∷ []))) → Found code before (flat no_ways c)
entries_there code before n _ none_named_plain name c f =
    found_first code before (flat no_ways c) nothing (found_behind code before (one (load_const (text name))) (then_code (flat no_ways c) nothing) (λ place. refl) f)
entries_there code before n _ (named_plain {name = other} {c = d} {args = named} p each) name c f =
    let rest = flat no_ways (entries_stretches_core (suc n) (named ++ alone (name, c) ∷ [])) in
    entries_there code before (suc n) named each name c
    (found_behind code before (flat no_ways d) rest (plain_counts p no_ways) (found_behind code before (one (load_const (text other))) (then_code (flat no_ways d) rest) (λ place. refl) f))
entries_there code before n _ (merged_plain {c = d} {args = named} p each) name c f =
    let rest = flat no_ways (entries_stretches_core 0 (named ++ alone (name, c) ∷ [])) in
    entries_there code before 0 named each name c
    (found_behind code before (flat no_ways d) rest (plain_counts p no_ways) (found_behind code before (flat no_ways (mapped_core n)) (then_code (flat no_ways d) rest) (plain_counts (plain_mapped n) no_ways) f))

passed_there : (code : List Code) (before : Counts) (front : ℕ) (args : List (Passing Core Core)) → EachPlain args → (named : List (Passing (List ℕ × Core) Core)) → NamedPlain named → (name : List ℕ) (c : Core)
    → Found code before (flat no_ways (passed_core front args (named ++ alone (name, c) ∷ []))) → Found code before (flat no_ways c)
passed_there code before front args plain named others name c f =
    let all = named ++ alone (name, c) ∷ [] in
    let run = flat no_ways (run_core (has_spread args) (list_count front args) (rest_count front args + keyword_count all)) in
    let mapped = flat no_ways (mapped_core (rest_count 0 all)) in
    let merged = flat no_ways (merged_core (has_spread all) (map_count all)) in
    let keywords = flat no_ways (keywords_core all) in
    entries_there code before 0 named others name c
    (found_first code before (flat no_ways (entries_stretches_core 0 all)) (then_code mapped merged)
    (found_first code before keywords run (found_behind code before (flat no_ways (stretches_core front args)) (then_code keywords run) (plain_counts (plain_stretches front plain) no_ways) f)))

-- whether no block is called
abbrev pub CallsNoBlock : Callee → Type 0
CallsNoBlock (by_block name) = ⊥
CallsNoBlock _ = Unit {0}

-- what is the last keyword of a call stands in it
pub caller_there : (code : List Code) (before : Counts) (callee : Callee) → CallsNoBlock callee → (whole object : Core) → Plain whole → Plain object → (args : List (Passing Core Core)) → EachPlain args
    → (named : List (Passing (List ℕ × Core) Core)) → NamedPlain named → (name : List ℕ) (c : Core) → Found code before (flat no_ways (called_core callee whole object args (named ++ alone (name, c) ∷ []))) → Found code before (flat no_ways c)
caller_there code before (by_name f) fits whole object p q args plain named others name c found =
    let all = named ++ alone (name, c) ∷ [] in
    passed_there code before 0 args plain named others name c (found_first code before (flat no_ways (passed_core 0 args all)) (one (call_function f (passed_count 0 args all))) found)
caller_there code before (by_method f) fits whole object p q args plain named others name c found =
    let all = named ++ alone (name, c) ∷ [] in
    let passed = flat no_ways (passed_core 1 args all) in
    let last = one (call_method f (passed_count 1 args all)) in
    passed_there code before 1 args plain named others name c (found_first code before passed last (found_behind code before (flat no_ways object) (then_code passed last) (plain_counts q no_ways) found))
caller_there code before (by_block f) fits whole object p q args plain named others name c found = absurd fits
caller_there code before by_value fits whole object p q args plain named others name c found =
    let all = named ++ alone (name, c) ∷ [] in
    let passed = flat no_ways (passed_core 1 args all) in
    let last = one (call_object (passed_count 1 args all)) in
    passed_there code before 1 args plain named others name c (found_first code before passed last (found_behind code before (flat no_ways whole) (then_code passed last) (plain_counts p no_ways) found))
