-- What is generated onto no code is the piece alone; and what is accepted of it.
use Rattle.std.proofs.Common.{◌≡◌, List, [], ◌++◌, length, Result, Ok, Err, IfOk, ap, sym, subst, ◌∙◌}
use Rattle.template_values_errors.specs.declared.ErrorKind.{ErrorKind}
use Rattle.template_compiler_tree.specs.Tree.{Statement, template}
use Rattle.template_compiler_code.specs.Code.{Code}
use Rattle.template_compiler_code.specs.declared.listing.Instructions.{Instructions}
use Rattle.template_compiler_code_shapes.specs.Checked.{kind_in, stream_in}
use Rattle.template_compiler_code_shapes.specs.Streams.{IsGood}
use Rattle.template_compiler_code_shapes.specs.declared.StreamKind.TheVariants.{Template}
use Rattle.template_compiler_code_shapes.specs.declared.checked.Checked.{Checked}
use Rattle.template_compiler_statement_codegen.specs.Listed.{IsRunnableTree}
use Rattle.template_compiler_codegen.specs.Expressions.{Coded}
use Rattle.template_compiler_generator.specs.Alone.{CanStand}
use Rattle.template_compiler_generator.specs.Drafts.{Draft, Generates}

pub generated_whole : (piece : Coded) (before after : Draft) → before.code ≡ [] → Generates piece before after → after.code ≡ piece 0
generated_whole piece before after none g = g.code ∙ ap (λ (code : List Code). code ++ piece (length code)) none

-- a whole template whose constructs have a walk can be generated
pub tree_can_stand : (s : Statement) → IsRunnableTree s → CanStand s
tree_can_stand (template body) runs = runs
tree_can_stand _ runs = absurd runs

-- what is accepted is a template's where its code is good as one
pub told_template : (result : Result Checked (List ErrorKind)) (code : List Code) → IsGood Template code
    → IfOk result (λ checked. IsGood Template code → kind_in checked ≡ Template) → IfOk result (λ checked. kind_in checked ≡ Template)
told_template (Ok checked) code good first = first good
told_template (Err kinds) code good first = tt

-- what is so of the instructions is so of the stream that was accepted
pub told_stream : (P : Instructions → Type 0) (result : Result Checked (List ErrorKind)) (i : Instructions) → P i
    → IfOk result (λ checked. stream_in checked ≡ i) → IfOk result (λ checked. P (stream_in checked))
told_stream P (Ok checked) i holds is = subst P (sym is) holds
told_stream P (Err kinds) i holds is = tt
