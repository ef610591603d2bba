-- A whole stream: what runs outside of loops runs inside of them too, and nothing is open at first.
use Rattle.std.proofs.Common.{◌≡◌, ℕ, Bool, true, false, List, [], ap, subst, ◌∙◌, refl}
use Rattle.template_compiler_tree.specs.Tree.{Statement, Statements, absent, given, template, raw, print, for_loop, if_condition, with_block, set, set_block, auto_escape, filter_block, block, import, from_import, extends, include, macro, call_block, continue_loop, break_loop, do_call, no_statements, statements_more}
use Rattle.template_compiler_walk.specs.Runnable.{IsRunnableStatement, AreRunnableStatements}
use Rattle.template_compiler_code.specs.declared.listing.Instructions.{Instructions}
use Rattle.template_compiler_codegen.specs.Statements.{Ways, no_ways, statements_code}
use Rattle.template_compiler_emission.specs.Puts.{Puts}
use Rattle.template_compiler_statement_codegen.specs.Listed.{IsRunnableTree, body_in}
use Rattle.template_compiler_statement_codegen.specs.Rounds.{LowersBody, ways_of}
use Rattle.template_compiler_statement_codegen.specs.declared.rounds.Closing.{Closing}
use Rattle.template_compiler_statement_codegen.specs.declared.rounds.Round.{Round}
use Rattle.template_compiler_statement_codegen.proofs.Lowering.{ways_with}

mutual
  looser_statement : (looping : Bool) (s : Statement) → IsRunnableStatement looping s → IsRunnableStatement true s
  looser_statement looping (raw text) h = tt
  looser_statement looping (print e) h = h
  looser_statement looping (for_loop target e condition recursive body otherwise) h = (h.0, h.1, h.2, h.3, looser_statements looping otherwise h.4)
  looser_statement looping (if_condition e body otherwise) h = (h.0, looser_statements looping body h.1, looser_statements looping otherwise h.2)
  looser_statement looping (with_block pairs body) h = (h.0, looser_statements looping body h.1)
  looser_statement looping (set target e) h = h
  looser_statement looping (set_block target absent body) h = (h.0, looser_statements looping body h.1)
  looser_statement looping (set_block target (given filters) body) h = (h.0, h.1, looser_statements looping body h.2)
  looser_statement looping (filter_block filters body) h = (h.0, looser_statements looping body h.1)
  looser_statement looping (auto_escape e body) h = (h.0, looser_statements looping body h.1)
  looser_statement looping (block name required body) h = h
  looser_statement looping (import e target) h = h
  looser_statement looping (from_import e names) h = h
  looser_statement looping (extends e) h = h
  looser_statement looping (include e ignore_missing) h = h
  looser_statement looping (macro name arguments defaults body) h = h
  looser_statement looping (call_block callee passed arguments defaults body) h = h
  looser_statement looping (do_call callee args) h = h
  looser_statement looping continue_loop h = refl
  looser_statement looping break_loop h = refl
  looser_statement looping _ h = absurd h

  pub looser_statements : (looping : Bool) (ss : Statements) → AreRunnableStatements looping ss → AreRunnableStatements true ss
  looser_statements looping no_statements h = tt
  looser_statements looping (statements_more s ss) h = (looser_statement looping s h.0, looser_statements looping ss h.1)

tree_plain : (s : Statement) → IsRunnableTree s → AreRunnableStatements false (body_in s)
tree_plain (template body) h = h
tree_plain _ h = absurd h

pub tree_runs : (s : Statement) (ss : Statements) → ss ≡ body_in s → IsRunnableTree s → AreRunnableStatements false ss
tree_runs s ss is h = rw is (tree_plain s h)

pub puts_whole_body : (ss : Statements) {a b : Instructions} (r s : Round) → r.asks ≡ 0 → r.closings.items ≡ [] → LowersBody ss a b r s
    → Puts (statements_code no_ways ss) a b
puts_whole_body ss {a} {b} r s asks closings p =
    let outside : ways_of r ≡ no_ways = ap (λ (cs : List Closing). ways_with cs r.asks) closings ∙ ap (λ (n : ℕ). ways_with [] n) asks in
    subst (λ (w : Ways). Puts (statements_code w ss) a b) outside p.put
