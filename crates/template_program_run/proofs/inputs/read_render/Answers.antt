use Rattle.std.proofs.Common.{◌≡◌, ◌∙◌, ◌||◌, is_some, IfSome, List, Option, ℕ, ap, map, subst}
use Rattle.template_program_words.specs.Reading.{parts_of}
use Rattle.template_program_words.specs.declared.words.Words.TheVariants.{Render}
use Rattle.template_program_run.specs.Held.{all_held, origin_in}
use Rattle.template_program_run.specs.Naming.{Naming}
use Rattle.template_program_run.specs.Origins.{AreFrom, Origin, origins_of}
use Rattle.template_program_run.proofs.Piping.{from_other}
use Rattle.template_program_run.proofs.inputs.read_render.Goals as goal

pub returns-clause-given : goal.returns-clause-given
returns-clause-given g c =
    let content = g.R.FileSystem.content c.args.rt.now in
    let before = g.I.Reader.remaining c.args.input.now in
    let after = g.I.Reader.remaining c.read_templates_of.new.input in
    let origins = origins_of (Render c.args.words.now) in
    let documents = all_held c.in_ok-read_documents.field-0 in
    let same : map origin_in c.as_slice-2.result.now ≡ origins = ap (map origin_in) c.as_slice-2.ensures.value ∙ c.in_ok-origins.ensures in
    let read = subst (λ (os : List Origin). AreFrom content after os documents) same c.in_ok-read_documents.ensures.read in
    record {
      documents_read = from_other content after before origins documents
          (λ has bytes told. subst (λ (given : Option (List ℕ)). IfSome given (λ all. bytes ≡ all))
          (c.in_ok-templates.ensures.kept (ap (λ (n : Naming). n.input_is_taken) c.render_naming-naming.ensures ∙ ap (λ held. held || is_some c.args.words.now.expression) has)).1 told) read;
      values_read = c.in_ok-owned_definitions.ensures.texts ∙ ap (map parts_of) c.as_slice-3.ensures.value;
      floats_read = c.floats_of.ensures;
    }
