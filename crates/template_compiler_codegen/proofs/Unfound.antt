-- A number that no macro or loop of a tree has is beyond those that its code counts.
use Rattle.std.proofs.Common.{◌≡◌, ℕ, ◌+◌, ◌≤◌, ◌<◌, Bool, true, false, Option, None, Some, ◌==◌, if◌then◌else◌, nat_lt, refl, sym, ap, ◌∙◌, arith}
use Rattle.std.proofs.lemmas.Bool.Decides.{Decides-ltb, nat_tests}
use Rattle.template_compiler_tree.specs.Tree.{Statement, Statements, for_loop, if_condition, with_block, set_block, auto_escape, filter_block, macro, no_statements, statements_more}
use Rattle.template_compiler_tree.specs.Tree as tree
use Rattle.template_compiler_process.specs.Process.{Counts, no_counts, counted_together}
use Rattle.template_compiler_walk.specs.Expressions.{Callee, by_name, by_method, by_block, by_value, callee_of}
use Rattle.template_compiler_walk.specs.Counting.{loop_counts, caller_counts, counts_by, counts_among, MacroBody, LoopRounds, below_or, within_caller, macro_by, macro_among, rounds_or, rounds_by, rounds_among}
use Rattle.template_compiler_code.specs.Counting.{counts_in}
use Rattle.template_compiler_codegen.specs.Statements.{template_code}
use Rattle.template_compiler_codegen.specs.Laws.{NumbersAgree}
use Rattle.template_compiler_codegen.proofs.Counted.{template_counts}
use Rattle.template_compiler_codegen.proofs.Numbers.{macro_missing, rounds_missing}

none_of_two : {X A : Type 0} (number many : ℕ) (first second : Option X) → below_or number many first second ≡ None → (number < many → first ≡ None → A) → (many ≤ number → second ≡ None → A) → A
none_of_two {X} {A} number many first second e f g = by (nat_lt number many) refl
  where
    by : (t : Bool) → nat_lt number many ≡ t → A
    by true is = f ((Decides-ltb number many).0 is) (sym (ap (λ b. if b then first else second) is) ∙ e)
    by false is =
        let behind : many ≤ number = grind (arith, nat_tests) in
        g behind (sym (ap (λ b. if b then first else second) is) ∙ e)

some_none : {X : Type 0} {A : Type 0} (x : X) → Some x ≡ None → A
some_none x e = let no : ⊥ = cc in absurd no

-- two bodies, one behind the other: where neither has it, it is beyond both
beyond_two : (number first one other : ℕ) {X : Type 0} (a b : Option X) → below_or number (first + one) a b ≡ None → (a ≡ None → first + one ≤ number) → (first + one ≤ number → b ≡ None → first + one + other ≤ number)
    → first + (one + other) ≤ number
beyond_two number first one other a b e f g =
    none_of_two number (first + one) a b e
    (λ below none. let behind : first + one ≤ number = f none in absurd (omega (arith, below, behind)))
    (λ behind none. let all : first + one + other ≤ number = g behind none in omega (arith, all))

-- what is made of a body
beyond_made : (number first inner : ℕ) {X : Type 0} (a : Option X) (own : X) → below_or number (first + inner) a (Some own) ≡ None → (a ≡ None → first + inner ≤ number) → first + (inner + 1) ≤ number
beyond_made number first inner a own e f =
    none_of_two number (first + inner) a (Some own) e
    (λ below none. let behind : first + inner ≤ number = f none in absurd (omega (arith, below, behind)))
    (λ behind none. some_none own none)

beyond_caller : (callee : Callee) (number : ℕ) (before inner : Counts) {X : Type 0} (found : Option X) → before.macros ≤ number → within_caller callee found ≡ None → (found ≡ None → before.macros + (inner.macros + 1) ≤ number)
    → before.macros + (caller_counts callee inner).macros ≤ number
beyond_caller (by_name f) number before inner found from e go = go e
beyond_caller (by_method f) number before inner found from e go = go e
beyond_caller (by_block f) number before inner found from e go = omega (arith, from)
beyond_caller by_value number before inner found from e go = go e

loop_no_macro : (recursive : Bool) → (loop_counts recursive).macros ≡ 0
loop_no_macro true = refl
loop_no_macro false = refl

mutual
  macros_by : (s : Statement) (number : ℕ) (before : Counts) → before.macros ≤ number → macro_by number before s ≡ None → before.macros + (counts_by s).macros ≤ number
  macros_by (for_loop target e condition recursive body otherwise) number before from is =
      let own = counted_together before (loop_counts recursive) in
      let last = counted_together own (counts_among body) in
      let none = loop_no_macro recursive in
      let from_own : own.macros ≤ number = let less : before.macros + (loop_counts recursive).macros ≤ number = omega (arith, from, none) in less in
      let all : own.macros + ((counts_among body).macros + (counts_among otherwise).macros) ≤ number =
      beyond_two number own.macros (counts_among body).macros (counts_among otherwise).macros (macro_among number own body) (macro_among number last otherwise) is
      (λ inner. macros_among body number own from_own inner) (λ behind inner. macros_among otherwise number last behind inner) in
      let whole : (before.macros + (loop_counts recursive).macros) + ((counts_among body).macros + (counts_among otherwise).macros) ≤ number = all in
      omega (arith, whole)
  macros_by (if_condition e body otherwise) number before from is =
      let last = counted_together before (counts_among body) in
      beyond_two number before.macros (counts_among body).macros (counts_among otherwise).macros (macro_among number before body) (macro_among number last otherwise) is
      (λ inner. macros_among body number before from inner) (λ behind inner. macros_among otherwise number last behind inner)
  macros_by (with_block _ body) number before from is = macros_among body number before from is
  macros_by (set_block target filters body) number before from is = macros_among body number before from is
  macros_by (auto_escape e body) number before from is = macros_among body number before from is
  macros_by (filter_block filters body) number before from is = macros_among body number before from is
  macros_by (macro name arguments defaults body) number before from is =
      beyond_made number before.macros (counts_among body).macros (macro_among number before body) (record { arguments = arguments; defaults = defaults; body = body; first = before }) is
      (λ inner. macros_among body number before from inner)
  macros_by (tree.call_block callee passed arguments defaults body) number before from is =
      let own : MacroBody = record { arguments = arguments; defaults = defaults; body = body; first = before } in
      beyond_caller (callee_of callee passed) number before (counts_among body) (below_or number (counted_together before (counts_among body)).macros (macro_among number before body) (Some own)) from is
      (λ none. beyond_made number before.macros (counts_among body).macros (macro_among number before body) own none (λ inner. macros_among body number before from inner))
  macros_by _ number before from is = omega (arith, from)

  macros_among : (ss : Statements) (number : ℕ) (before : Counts) → before.macros ≤ number → macro_among number before ss ≡ None → before.macros + (counts_among ss).macros ≤ number
  macros_among no_statements number before from is = omega (arith, from)
  macros_among (statements_more s ss) number before from is =
      let last = counted_together before (counts_by s) in
      beyond_two number before.macros (counts_by s).macros (counts_among ss).macros (macro_by number before s) (macro_among number last ss) is
      (λ inner. macros_by s number before from inner) (λ behind inner. macros_among ss number last behind inner)

-- the loop itself does not have the number
beyond_loop : (recursive : Bool) (number : ℕ) (before : Counts) (own : LoopRounds) (inner : Option LoopRounds) → before.rounds ≤ number → rounds_or recursive number before own inner ≡ None
    → (inner ≡ None) × (before.rounds + (loop_counts recursive).rounds ≤ number)
beyond_loop false number before own inner from e = (e, let less : before.rounds + 0 ≤ number = omega (arith, from) in less)
beyond_loop true number before own inner from e = by (number == before.rounds) refl
  where
    by : (t : Bool) → (number == before.rounds) ≡ t → (inner ≡ None) × (before.rounds + 1 ≤ number)
    by true is = some_none own (sym (ap (λ b. if b then Some own else inner) is) ∙ e)
    by false is =
        let behind : before.rounds + 1 ≤ number = grind (arith, nat_tests) in
        (sym (ap (λ b. if b then Some own else inner) is) ∙ e, behind)

beyond_called : (callee : Callee) (number : ℕ) (before inner : Counts) {X : Type 0} (found : Option X) → before.rounds ≤ number → within_caller callee found ≡ None → (found ≡ None → before.rounds + inner.rounds ≤ number)
    → before.rounds + (caller_counts callee inner).rounds ≤ number
beyond_called (by_name f) number before inner found from e go = let less : before.rounds + inner.rounds ≤ number = go e in omega (arith, less)
beyond_called (by_method f) number before inner found from e go = let less : before.rounds + inner.rounds ≤ number = go e in omega (arith, less)
beyond_called (by_block f) number before inner found from e go = omega (arith, from)
beyond_called by_value number before inner found from e go = let less : before.rounds + inner.rounds ≤ number = go e in omega (arith, less)

mutual
  loops_by : (s : Statement) (number : ℕ) (before : Counts) → before.rounds ≤ number → rounds_by number before s ≡ None → before.rounds + (counts_by s).rounds ≤ number
  loops_by (for_loop target e condition recursive body otherwise) number before from is =
      let own = counted_together before (loop_counts recursive) in
      let last = counted_together own (counts_among body) in
      let whole : LoopRounds = record { target = target; body = body; otherwise = otherwise; first = own } in
      let none = beyond_loop recursive number before whole (below_or number last.rounds (rounds_among number own body) (rounds_among number last otherwise)) from is in
      let all : (before.rounds + (loop_counts recursive).rounds) + ((counts_among body).rounds + (counts_among otherwise).rounds) ≤ number =
      beyond_two number own.rounds (counts_among body).rounds (counts_among otherwise).rounds (rounds_among number own body) (rounds_among number last otherwise) none.0
      (λ inner. loops_among body number own none.1 inner) (λ behind inner. loops_among otherwise number last behind inner) in
      omega (arith, all)
  loops_by (if_condition e body otherwise) number before from is =
      let last = counted_together before (counts_among body) in
      beyond_two number before.rounds (counts_among body).rounds (counts_among otherwise).rounds (rounds_among number before body) (rounds_among number last otherwise) is
      (λ inner. loops_among body number before from inner) (λ behind inner. loops_among otherwise number last behind inner)
  loops_by (with_block _ body) number before from is = loops_among body number before from is
  loops_by (set_block target filters body) number before from is = loops_among body number before from is
  loops_by (auto_escape e body) number before from is = loops_among body number before from is
  loops_by (filter_block filters body) number before from is = loops_among body number before from is
  loops_by (macro name arguments defaults body) number before from is =
      let less : before.rounds + (counts_among body).rounds ≤ number = loops_among body number before from is in omega (arith, less)
  loops_by (tree.call_block callee passed arguments defaults body) number before from is =
      beyond_called (callee_of callee passed) number before (counts_among body) (rounds_among number before body) from is (λ inner. loops_among body number before from inner)
  loops_by _ number before from is = omega (arith, from)

  loops_among : (ss : Statements) (number : ℕ) (before : Counts) → before.rounds ≤ number → rounds_among number before ss ≡ None → before.rounds + (counts_among ss).rounds ≤ number
  loops_among no_statements number before from is = omega (arith, from)
  loops_among (statements_more s ss) number before from is =
      let last = counted_together before (counts_by s) in
      beyond_two number before.rounds (counts_by s).rounds (counts_among ss).rounds (rounds_by number before s) (rounds_among number last ss) is
      (λ inner. loops_by s number before from inner) (λ behind inner. loops_among ss number last behind inner)

pub numbers_agree : NumbersAgree
numbers_agree tree number =
    let code = template_code tree in
    let counts = template_counts tree 0 in (
      λ none.
          let under : 0 + (counts_among tree).macros ≤ number = macros_among tree number no_counts (omega arith) none in
          let beyond : (counts_among tree).macros ≤ number = omega (arith, under) in
          let many : (counts_in code).macros ≡ (counts_among tree).macros = ap (λ (c : Counts). c.macros) counts in
          macro_missing code 0 number (omega (arith, beyond, many)),
      λ none.
          let under : 0 + (counts_among tree).rounds ≤ number = loops_among tree number no_counts (omega arith) none in
          let beyond : (counts_among tree).rounds ≤ number = omega (arith, under) in
          let many : (counts_in code).rounds ≡ (counts_among tree).rounds = ap (λ (c : Counts). c.rounds) counts in
          rounds_missing code 0 number (omega (arith, beyond, many)),
    )
