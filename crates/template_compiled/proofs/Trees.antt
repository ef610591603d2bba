-- A source has one tree at most: the one that it is read to, which has a walk.
use Rattle.std.proofs.Common.{◌≡◌, ℕ, List, Result, Ok, Err, refl, ap, ◌∙◌}
use Rattle.template_compiler_tree.specs.Tree.{Statement, Statements, template}
use Rattle.template_compiler_walk.specs.Runnable.{IsRunnableTemplate}
use Rattle.template_compiler_laws.proofs.RunnableStatements.{template_runs}
use Rattle.template_compiler_statement_codegen.specs.Listed.{IsRunnableTree, body_in}
use Rattle.template_compiler_tokens.specs.Token.{Token, TokenFault}
use Rattle.template_compiler_syntax.specs.Syntax.{Syntax, IsUsable}
use Rattle.template_compiler_syntax.proofs.Theorems.{one_tokens, some_tokens}
use Rattle.template_compiler_grammar.specs.TreeReader.{template_of}
use Rattle.template_compiler_grammar.proofs.TemplateLaws.{tree_complete}
use Rattle.template_compiler_grammar.proofs.TemplatesSound.{template_sound}
use Rattle.template_compiler_sources.specs.Scoped.{taken_words}
use Rattle.template_compiler_sources.specs.Source.{IsSource, source_of}
use Rattle.template_compiled.specs.Sources.{Source, read, tokens_read, tree_in}

pub one_tree : (source : Source) (tree : Statements) → IsUsable source.syntax → IsSource source.syntax source.text (template tree) → tree_in source ≡ tree
unfolding tree_in
one_tree source tree usable (source_of {tokens = ts} spelled is) =
    let some = some_tokens source.syntax source.text in
    let same = one_tokens source.syntax source.text some.0 ts usable some.1 spelled in
    let taken = taken_words source.syntax.scoped_blocks ts in
    ap (λ (l : List Token). read (template_of (taken_words source.syntax.scoped_blocks l))) same ∙ ap read (tree_complete taken tree is)

read_runs : (tokens : List Token) (r : Result Statements TokenFault) → template_of tokens ≡ r → IsRunnableTemplate (read r)
read_runs tokens (Ok tree) is = template_runs (template_sound tokens tree is)
read_runs tokens (Err fault) is = tt

pub tree_runs : (source : Source) → IsRunnableTemplate (tree_in source)
unfolding tree_in
tree_runs source = read_runs (tokens_read source) (template_of (tokens_read source)) refl

pub source_runs : {x : Syntax} {text : List ℕ} (s : Statement) → IsSource x text s → IsRunnableTree s
source_runs s (source_of spelled is) = template_runs is

pub body_runs : (s : Statement) → IsRunnableTree s → IsRunnableTemplate (body_in s)
body_runs (template body) runs = runs
body_runs _ runs = absurd runs
