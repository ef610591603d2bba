-- Sources import names, store what they import under names, and macros' parameters are names: so the grammar has it.
use Rattle.std.proofs.Common.{◌≡◌, ℕ, List, Option, None, Some, Result, Ok, Err, refl, sym, subst}
use Rattle.std.specs.Option.{option_map}
use Rattle.std.proofs.lemmas.Option.{none-some, same_Some}
use Rattle.template_compiler_tree.specs.Tree.{Expression, Expressions, no_expressions, expressions_more, Optional, absent, given, Statement, Statements, no_statements, statements_more, Imports, no_imports, imports_more}
use Rattle.template_compiler_tokens.specs.Token.{Token, TokenFault}
use Rattle.template_compiler_grammar.specs.TemplateGrammar.{Around, IsStored, stored, IsMore, more_end, more_next, IsImport, same_name, other_name, IsParameter, plain_parameter, default_parameter, IsParameters, none_declared, some_declared, IsOptionalParameters, not_declared, declared, IsStatements, statements_end, statements_next, IsStatement, text_statement, print_statement, for_statement, if_statement, with_statement, set_statement, set_block_statement, autoescape_statement, filter_statement, block_statement, import_statement, from_statement, extends_statement, include_statement, macro_statement, call_statement, do_statement, break_statement, continue_statement, IsBranches, branches_end, branches_next, IsElse, no_else, an_else, IsTemplate, whole_template}
use Rattle.template_compiler_grammar.specs.TreeReader.{template_of}
use Rattle.template_compiler_grammar.specs.Trees.{and_expression}
use Rattle.template_compiler_grammar.specs.TemplateTrees.{and_statement, and_import, Branches, no_branches, branches_more, and_branch, branched, Parameters}
use Rattle.template_compiler_grammar.proofs.TemplatesSound.{template_sound}
use Rattle.template_machine_meaning.specs.Isolation.{IsName, AreNames, AreAllNames, ImportsNamesAt, ImportsNames}
use Rattle.template_machine_meaning.specs.Meaning.{Standing}
use Rattle.template_compiled.specs.Compiled.{Compiled, standing_of}
use Rattle.template_compiled.specs.Sources.{Source, read, tokens_read, tree_in}
use Rattle.template_compiled.specs.Standing.{compiled_at}
use Rattle.template_machine_environment.specs.Extras.{Brought}
use Rattle.template_machine_environment.specs.Standing.{setting_of}
use Rattle.template_machine_environment.specs.declared.registry.Registry.{Registry}

-- one import more behind others
and_named : (is : Imports) (n : Expression) (a : Optional) → AreNames is → AreNames (imports_more n a no_imports) → AreNames (and_import is n a)
and_named no_imports n a are more = more
and_named (imports_more m absent rest) n a are more = (are.0, and_named rest n a are.1 more)
and_named (imports_more m (given b) rest) n a are more = (are.0, are.1, and_named rest n a are.2 more)

name_stored : {ts us : List Token} {e : Expression} → IsStored ts e us → IsName e
name_stored (stored free) = tt

import_named : {is js : Imports} {ts us : List Token} → IsImport is ts js us → AreNames is → AreNames js
import_named {is = is} (same_name {n = n} name all) are = subst AreNames (sym all) (and_named is n absent are (name_stored name, tt))
import_named {is = is} (other_name {n = n} {a = a} name alias all) are =
    subst AreNames (sym all) (and_named is n (given a) are (name_stored name, name_stored alias, tt))

imports_named : {is js : Imports} {ts us : List Token} → IsMore IsImport is ts js us → AreNames is → AreNames js
imports_named more_end are = are
imports_named (more_next one more) are = imports_named more (import_named one are)

-- one parameter more behind others
and_name : (es : Expressions) (e : Expression) → AreAllNames es → IsName e → AreAllNames (and_expression es e)
and_name no_expressions e are is = (is, tt)
and_name (expressions_more a rest) e are is = (are.0, and_name rest e are.1 is)

parameter_named : {d : ℕ} {p q : Parameters} {ts us : List Token} → IsParameter d p ts q us → AreAllNames p.0 → AreAllNames q.0
parameter_named (plain_parameter {a = a} {p = p} name none is) are =
    subst (λ (r : Parameters). AreAllNames r.0) (sym is) (and_name p.0 a are (name_stored name))
parameter_named (default_parameter {a = a} {p = p} name e is) are =
    subst (λ (r : Parameters). AreAllNames r.0) (sym is) (and_name p.0 a are (name_stored name))

more_named : {d : ℕ} {p q : Parameters} {ts us : List Token} → IsMore (IsParameter d) p ts q us → AreAllNames p.0 → AreAllNames q.0
more_named more_end are = are
more_named (more_next one more) are = more_named more (parameter_named one are)

parameters_named : {d : ℕ} {q : Parameters} {ts us : List Token} → IsParameters d ts q us → AreAllNames q.0
parameters_named (none_declared is) = subst (λ (r : Parameters). AreAllNames r.0) (sym is) tt
parameters_named (some_declared one more) = more_named more (parameter_named one tt)

declared_named : {d : ℕ} {q : Parameters} {ts us : List Token} → IsOptionalParameters d ts q us → AreAllNames q.0
declared_named (not_declared begins is) = subst (λ (r : Parameters). AreAllNames r.0) (sym is) tt
declared_named (declared parameters) = parameters_named parameters

-- one statement more behind others
and_imports : (ss : Statements) (s : Statement) → ImportsNames ss → ImportsNamesAt s → ImportsNames (and_statement ss s)
and_imports no_statements s names more = (more, tt)
and_imports (statements_more t rest) s names more = (names.0, and_imports rest s names.1 more)

-- branches, each with its body
abbrev BranchesImport : Branches → Type 0
BranchesImport no_branches = Unit {0}
BranchesImport (branches_more c body rest) = ImportsNames body × BranchesImport rest

and_branches : (bs : Branches) (c : Expression) (body : Statements) → BranchesImport bs → ImportsNames body → BranchesImport (and_branch bs c body)
and_branches no_branches c body names more = (more, tt)
and_branches (branches_more b other rest) c body names more = (names.0, and_branches rest c body names.1 more)

branched_imports : (bs : Branches) (other : Statements) → BranchesImport bs → ImportsNames other → ImportsNames (branched bs other)
branched_imports no_branches other names last = last
branched_imports (branches_more c body rest) other names last = ((names.0, branched_imports rest other names.1 last), tt)

mutual
  statements_import : {d : ℕ} {p : Around} {ss all : Statements} {ts us : List Token} → IsStatements d p ss ts all us → ImportsNames ss → ImportsNames all
  statements_import statements_end names = names
  statements_import (statements_next {s = s} {ss = ss} one more) names = statements_import more (and_imports ss s names (statement_imports one))

  else_imports : {d : ℕ} {p : Around} {end : List ℕ} {other : Statements} {ts us : List Token} → IsElse d p end ts other us → ImportsNames other
  else_imports no_else = tt
  else_imports (an_else body) = statements_import body tt

  branches_import : {d : ℕ} {p : Around} {bs cs : Branches} {ts us : List Token} → IsBranches d p bs ts cs us → BranchesImport bs → BranchesImport cs
  branches_import branches_end names = names
  branches_import (branches_next {c = c} {body = body} {bs = bs} e b more) names = branches_import more (and_branches bs c body names (statements_import b tt))

  statement_imports : {d : ℕ} {p : Around} {s : Statement} {ts us : List Token} → IsStatement d p ts s us → ImportsNamesAt s
  statement_imports text_statement = tt
  statement_imports (print_statement e) = tt
  statement_imports (for_statement t i f r body other) = (statements_import body tt, else_imports other)
  statement_imports (if_statement {bs = bs} {other = other} c body branches otherwise is) =
      subst ImportsNamesAt (sym is) (statements_import body tt, branched_imports bs other (branches_import branches tt) (else_imports otherwise))
  statement_imports (with_statement gs body) = statements_import body tt
  statement_imports (set_statement t e) = tt
  statement_imports (set_block_statement t f body) = statements_import body tt
  statement_imports (autoescape_statement e body) = statements_import body tt
  statement_imports (filter_statement f fs body) = statements_import body tt
  statement_imports (block_statement m r body b end) = statements_import body tt
  statement_imports (import_statement e a c) = tt
  statement_imports (from_statement e one more c) = imports_named more (import_named one tt)
  statement_imports (extends_statement e) = tt
  statement_imports (include_statement e m) = tt
  statement_imports (macro_statement free parameters body is) = subst ImportsNamesAt (sym is) (parameters_named parameters, statements_import body tt)
  statement_imports (call_statement parameters c body is) = subst ImportsNamesAt (sym is) (declared_named parameters, statements_import body tt)
  statement_imports (do_statement e) = tt
  statement_imports (break_statement l) = tt
  statement_imports (continue_statement l) = tt

template_imports : (ts : List Token) (ss : Statements) → IsTemplate ts ss → ImportsNames ss
template_imports ts ss (whole_template b distinct) = statements_import b tt

read_imports : (ts : List Token) (r : Result Statements TokenFault) → template_of ts ≡ r → ImportsNames (read r)
read_imports ts (Ok ss) is = template_imports ts ss (template_sound ts ss is)
read_imports ts (Err fault) is = tt

pub source_imports : (source : Source) → ImportsNames (tree_in source)
unfolding tree_in
source_imports source = read_imports (tokens_read source) (template_of (tokens_read source)) refl

there_imports : (o : Option Compiled) (t : Standing) → option_map standing_of o ≡ Some t → ImportsNames t.tree
there_imports None t at = absurd (none-some _ at)
there_imports (Some c) t at = subst (λ (u : Standing). ImportsNames u.tree) (same_Some _ _ at) (source_imports c.source)

-- and so does all that stands
pub standing_import : (k : Brought) (e : Registry) (name : List ℕ) (t : Standing) → (setting_of k e).templates name ≡ Some t → ImportsNames t.tree
standing_import k e name t at = there_imports (compiled_at e.templates name) t at
