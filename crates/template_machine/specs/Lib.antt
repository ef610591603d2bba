pub use Rattle.template_values_errors.specs.Causes
pub use Rattle.template_values_errors.specs.Memory
pub use Rattle.template_values_errors.specs.Names as ErrorNames
pub use Rattle.template_values_model.specs.Val
pub use Rattle.template_values_model.specs.Lookup
pub use Rattle.template_values_forms.specs.Frozen
pub use Rattle.template_values_named.specs.Named
pub use Rattle.template_machine_surroundings.specs.Rule
pub use Rattle.template_machine_surroundings.specs.Failures
pub use Rattle.template_machine_surroundings.specs.Wrapper
pub use Rattle.template_machine_surroundings.specs.Writes
pub use Rattle.template_machine_surroundings.specs.Answered
pub use Rattle.template_callables.specs.Callables
pub use Rattle.template_callables.specs.Answers as CallableAnswers
pub use Rattle.template_callables.specs.Eithers
pub use Rattle.template_callables.specs.Formats
pub use Rattle.template_callables.specs.Joins
pub use Rattle.template_callables.specs.Views as CallViews
pub use Rattle.template_compiler_process.specs.Process
pub use Rattle.template_compiler_process.specs.Trace
pub use Rattle.template_compiler_process.specs.Fuel
pub use Rattle.template_compiler_process.specs.Approximants
pub use Rattle.template_compiler_process.specs.Laws as ProcessLaws
pub use Rattle.template_compiler_code_shapes.specs.Shapes
pub use Rattle.template_compiler_code_shapes.specs.Streams
pub use Rattle.template_compiler_code_shapes.specs.Laws as StreamLaws
pub use Rattle.template_compiler_code_shapes.specs.Passes
pub use Rattle.template_compiler_code_shapes.specs.Checked
pub use Rattle.template_compiler_code.specs.Code
pub use Rattle.template_compiler_code.specs.Counting
pub use Rattle.template_compiler_code.specs.Steps
pub use Rattle.template_compiler_code.specs.Prices
pub use Rattle.template_compiler_code.specs.View as InstructionCodes
pub use Rattle.template_compiler_code.specs.Listing
pub use Rattle.template_compiler_code.specs.Streams as BlockStreams
pub use Rattle.template_machine_going.specs.Paying
pub use Rattle.template_machine_going.specs.Trackers
pub use Rattle.template_machine_operands.specs.Operands
pub use Rattle.template_machine_meaning.specs.World
pub use Rattle.template_machine_meaning.specs.Functions
pub use Rattle.template_machine_meaning.specs.Calls
pub use Rattle.template_machine_meaning.specs.Records
pub use Rattle.template_machine_meaning.specs.Undefined
pub use Rattle.template_machine_meaning.specs.Replies
pub use Rattle.template_machine_meaning.specs.Keys
pub use Rattle.template_machine_meaning.specs.Plans
pub use Rattle.template_machine_meaning.specs.Names as TemplateNames
pub use Rattle.template_machine_meaning.specs.Bodies
pub use Rattle.template_machine_meaning.specs.Blocks
pub use Rattle.template_machine_meaning.specs.Captures
pub use Rattle.template_machine_meaning.specs.Includes
pub use Rattle.template_machine_meaning.specs.Closures
pub use Rattle.template_machine_meaning.specs.Macros
pub use Rattle.template_machine_meaning.specs.Rounds
pub use Rattle.template_machine_meaning.specs.Surroundings
pub use Rattle.template_machine_meaning.specs.Meaning
pub use Rattle.template_machine_meaning.specs.Laws
pub use Rattle.template_machine_meaning.specs.Keeps
pub use Rattle.template_machine_tables.specs.Globals
pub use Rattle.template_machine_loops.specs.Loops
pub use Rattle.template_machine_frames.specs.Frames
pub use Rattle.template_machine_frames.specs.Names as ExportedNames
pub use Rattle.template_machine_tables.specs.Streams as Homes
pub use Rattle.template_machine_tables.specs.Stack as BlockBodies
pub use Rattle.template_machine_state.specs.Changes
pub use Rattle.template_machine_state.specs.Loaded
pub use Rattle.template_machine_calls.specs.Left as CallsLeft
pub use Rattle.template_machine_calls.specs.Formatted
pub use Rattle.template_machine_renders.specs.Laws as BlockRenders
pub use Rattle.template_machine_renders.specs.Plans as BlockPlans
pub use Rattle.template_compiler_syntax.specs.Syntax
pub use Rattle.template_compiler_names.specs.Names as UsedNames
pub use Rattle.template_compiled.specs.Sources
pub use Rattle.template_compiled.specs.Compiled
pub use Rattle.template_compiled.specs.Expressions as ExpressionSources
pub use Rattle.template_compiled.specs.Plain as PlainSources
pub use Rattle.template_compiled.specs.Streams as TemplateStreams
pub use Rattle.template_compiled.specs.Checked as CheckedTemplates
pub use Rattle.template_machine_environment.specs.Isolation
pub use Rattle.template_machine_environment.specs.Outcomes
pub use Rattle.template_machine_environment.specs.Escaped
pub use Rattle.template_machine_operations.specs.Modules as ModuleValues
pub use Rattle.template_output.specs.Captures as OutputCaptures
pub use Rattle.template_machine_operations.specs.Ranges
pub use Rattle.template_machine_environment.specs.Runnable
pub use Rattle.template_machine_environment.specs.Renders
pub use Rattle.template_machine_environment.specs.Extras
pub use Rattle.template_machine_environment.specs.Standing
pub use Rattle.template_machine_environment.specs.Renderings
pub use Rattle.template_machine_environment.specs.States
pub use Rattle.template_machine_environment.specs.Isolated
pub use Rattle.template_machine_environment.specs.Views
pub use Rattle.template_machine_environment.specs.Evaluations
pub use Rattle.template_machine_environment.specs.Plain as PlainRenders
pub use Rattle.template_machine_environment.specs.Reading
