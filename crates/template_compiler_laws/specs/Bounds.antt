-- How much code a text has at most: 201 instructions for each of its bytes, and for one more: a name may
-- stand in 150 macros, each of which encloses it.
use Rattle.std.specs.Prelude.{ℕ, ◌+◌, ◌*◌, ◌^◌, ◌<◌, ◌≤◌, List, [], length}
use Rattle.std.specs.List.{All}
use Rattle.template_compiler_tree.specs.Tree.{Expression, Statements}
use Rattle.template_compiler_walk.specs.Blocks.{Block, blocks_in}
use Rattle.template_compiler_tokens.specs.Token.{Token}
use Rattle.template_compiler_syntax.specs.Syntax.{Syntax, IsUsable}
use Rattle.template_compiler_syntax.specs.Flat.{IsTokens}
use Rattle.template_compiler_sources.specs.Scoped.{taken_words}
use Rattle.template_compiler_sources.specs.Spelled.{IsSpelled}
use Rattle.template_compiler_grammar.specs.Grammar.{IsExpression}
use Rattle.template_compiler_grammar.specs.TemplateGrammar.{IsTemplate}
use Rattle.template_compiler_codegen.specs.Statements.{template_code, standalone_code}

-- so many instructions a text of that length has at most
abbrev pub code_bound : ℕ → ℕ
code_bound bytes = 201 * (bytes + 1)

-- The code of a template is bounded by the length of its source.
abbrev pub TemplatesAreBounded : Type 0
TemplatesAreBounded = (x : Syntax) (source : List ℕ) (tokens : List Token) (tree : Statements) → IsUsable x → IsTokens x source tokens →
    IsTemplate (taken_words x.scoped_blocks tokens) tree → length (template_code tree) ≤ code_bound (length source)

-- So is the code of each of its blocks.
abbrev pub BlocksAreBounded : Type 0
BlocksAreBounded = (x : Syntax) (source : List ℕ) (tokens : List Token) (tree : Statements) → IsUsable x → IsTokens x source tokens →
    IsTemplate (taken_words x.scoped_blocks tokens) tree → All (λ (b : Block). length (template_code b.body) ≤ code_bound (length source)) (blocks_in tree)

-- So is the code of an expression alone.
abbrev pub ExpressionsAreBounded : Type 0
ExpressionsAreBounded = (source : List ℕ) (tokens : List Token) (e : Expression) → IsSpelled source tokens →
    IsExpression 150 tokens e [] → length (standalone_code e) ≤ code_bound (length source)

-- A text of fewer than 2^24 bytes has fewer than 2^32 instructions.
abbrev pub ShortTextsFit : Type 0
ShortTextsFit = (bytes : ℕ) → bytes < 2 ^ 24 → code_bound bytes < 2 ^ 32
