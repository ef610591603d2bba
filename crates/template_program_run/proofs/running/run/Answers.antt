use Rattle.std.proofs.Common.{◌≡◌, ℕ, List, Some, ap, option_copied, string_bytes, subst, sym}
use Rattle.template_machine_environment_settings.specs.Plain.{IsPlain, text_kept}
use Rattle.template_program_parts.specs.Context.{text_pairs}
use Rattle.template_program_run.specs.Answers.{AnswersWith}
use Rattle.template_program_run.specs.Given.{AreJson, given_in}
use Rattle.template_program_run.specs.History.{source_under, standing}
use Rattle.template_program_run.specs.Plain.{WritesOnRender}
use Rattle.template_program_run.specs.Served.{Served}
use Rattle.template_program_run.proofs.Bringing.{none_served}
use Rattle.template_program_run.proofs.Giving.{alone_as_slice}
use Rattle.template_program_run.proofs.running.run.Goals as goal

pub returns-clause-answers : goal.returns-clause-answers
returns-clause-answers g c =
    let plain = none_served c.new.result c.new.ensures.builtins c.new.ensures.escapes c.new.ensures.syntax c.new.ensures.names c.new.ensures.places in
    let given = given_in c.of_documents.result in
    let answers = subst (λ (served : Served). AnswersWith served c.args.request.now (text_pairs c.args.templates.now) given c.args.ids.now
    c.run_with.result (g.S.Sink.taken c.args.sink.now) (g.S.Sink.taken c.run_with.new.sink) (g.S.Sink.failures c.args.sink.now)
    (g.S.Sink.failures c.run_with.new.sink)) plain c.run_with.ensures.answers in
    let alone = alone_as_slice (option_copied c.args.context) c.json_document-document.result c.as_slice.result.now c.json_document-document.ensures c.as_slice.ensures in
    let documents = subst (AreJson (option_copied c.args.context)) (sym c.of_documents.ensures.documents) alone in (
      given,
      record {
        documents = documents;
        values = ap text_pairs c.of_documents.ensures.values;
        floats = c.of_documents.ensures.floats;
      },
      answers,
    )

pub returns-clause-plain : goal.returns-clause-plain
returns-clause-plain g c =
    let plain = none_served c.new.result c.new.ensures.builtins c.new.ensures.escapes c.new.ensures.syntax c.new.ensures.names c.new.ensures.places in
    let writes : Served → Type 0 = λ served. (text : List ℕ)
    → standing (text_pairs c.args.templates.now) (string_bytes c.args.request.now.main) ≡ Some text → IsPlain (source_under served text)
    → WritesOnRender c.args.request.now.command (g.S.Sink.taken c.args.sink.now) (g.S.Sink.taken c.run_with.new.sink)
    (text_kept (source_under served text)) c.run_with.result in
    subst writes plain c.run_with.ensures.plain
