pub use Rattle.template_values_errors.specs.Causes
pub use Rattle.template_values_errors.specs.Memory
pub use Rattle.template_values_errors.specs.Names
pub use Rattle.template_values_model.specs.Val
pub use Rattle.template_compiler_tokens.specs.Token
pub use Rattle.template_compiler_tokens.specs.View as TokenView
pub use Rattle.template_compiler_tokens.specs.Left
pub use Rattle.template_compiler_tokens.specs.Lexical
pub use Rattle.template_compiler_syntax.specs.Syntax
pub use Rattle.template_compiler_syntax.specs.Settings
pub use Rattle.template_compiler_syntax.specs.Segments
pub use Rattle.template_compiler_syntax.specs.Flat
pub use Rattle.template_compiler_tokenizer.specs.Tokenizer
pub use Rattle.template_compiler_tokenizer.specs.Stream
pub use Rattle.template_compiler_tokenizer.specs.Held
pub use Rattle.template_compiler_tokenizer.specs.Spans
pub use Rattle.template_compiler_tree.specs.Tree
pub use Rattle.template_compiler_tree.specs.View as TreeView
pub use Rattle.template_compiler_tree_statements.specs.View
pub use Rattle.template_compiler_tree.specs.CallView
pub use Rattle.template_compiler_tree.specs.Kinds
pub use Rattle.template_compiler_tree.specs.Places
pub use Rattle.template_compiler_grammar.specs.Grammar as ExpressionGrammar
pub use Rattle.template_compiler_grammar.specs.TemplateGrammar
pub use Rattle.template_compiler_grammar.specs.TreeReader
pub use Rattle.template_compiler_tokens.specs.Blame
pub use Rattle.template_compiler_stream.specs.Left as ReadTokens
pub use Rattle.template_compiler_stream.specs.Spans as ReadSpans
pub use Rattle.template_compiler_sources.specs.Spelled
pub use Rattle.template_compiler_sources.specs.Kinds as RefusalKinds
pub use Rattle.template_compiler_sources.specs.Source
pub use Rattle.template_compiler_sources.specs.Parsers
pub use Rattle.template_compiler_names.specs.Names as UsedNames
pub use Rattle.template_compiler_names.specs.Enclosed
pub use Rattle.template_compiler_names_statements.specs.Found
pub use Rattle.template_compiler_names_closures.specs.Closures
pub use Rattle.template_compiler_names_closures.specs.Units
pub use Rattle.template_compiler_process.specs.Process
pub use Rattle.template_compiler_process.specs.Drive
pub use Rattle.template_compiler_process.specs.Whole
pub use Rattle.template_compiler_walk.specs.Constants
pub use Rattle.template_compiler_walk.specs.Expressions as ExpressionWalk
pub use Rattle.template_compiler_walk.specs.Statements as StatementWalk
pub use Rattle.template_compiler_walk.specs.Counting as TreeCounting
pub use Rattle.template_compiler_walk.specs.Runnable
pub use Rattle.template_compiler_walk.specs.Blocks as TemplateBlocks
pub use Rattle.template_compiler_code.specs.Code
pub use Rattle.template_compiler_code.specs.View as CodeView
pub use Rattle.template_compiler_code.specs.Steps
pub use Rattle.template_compiler_code.specs.Counting as CodeCounting
pub use Rattle.template_compiler_code.specs.Prices
pub use Rattle.template_compiler_code.specs.Listing
pub use Rattle.template_compiler_code.specs.Laws as CodeLaws
pub use Rattle.template_compiler_code.specs.Streams as BlockStreams
pub use Rattle.template_compiler_code.specs.References
pub use Rattle.template_compiler_code.specs.Texts
pub use Rattle.template_compiler_codegen.specs.Core as CodeCore
pub use Rattle.template_compiler_codegen.specs.Expressions as ExpressionCode
pub use Rattle.template_compiler_codegen.specs.Statements as StatementCode
pub use Rattle.template_compiler_codegen.specs.Laws
pub use Rattle.template_compiler_generator.specs.Numbers
pub use Rattle.template_compiler_generator.specs.NumberLaws as NumberLaws
pub use Rattle.template_compiler_emission.specs.Puts
pub use Rattle.template_compiler_statement_codegen.specs.Listed
pub use Rattle.template_compiler_generator.specs.Alone
pub use Rattle.template_compiler_generator.specs.Drafts
pub use Rattle.template_compiler_generator.specs.View as DraftView
pub use Rattle.template_compiler_generator.specs.Laws as DraftLaws
pub use Rattle.template_compiler_laws.specs.Laws as TreeLaws
pub use Rattle.template_compiled.specs.Sources
pub use Rattle.template_compiled.specs.Compiled
pub use Rattle.template_compiled.specs.Streams as TemplateStreams
pub use Rattle.template_compiled.specs.Expressions as ExpressionSources
pub use Rattle.template_compiled.specs.Names as TemplateNames
pub use Rattle.template_compiled.specs.Plain
pub use Rattle.template_compiled.specs.Standing
pub use Rattle.template_machine_surroundings.specs.Rule
