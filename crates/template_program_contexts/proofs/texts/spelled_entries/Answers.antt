use Rattle.std.proofs.Common.{◌≡◌, inr, refl, sym, ap, ◌∙◌}
use Rattle.std.proofs.lemmas.Result.{IfOk-weaker}
use Rattle.template_values_errors.specs.declared.ErrorKind.TheVariants.{SyntaxError}
use Rattle.template_values_json.specs.Contexts.{fault_of_tree, tree_in, tree_of}
use Rattle.template_values_json.proofs.ContextDocuments.{tree_in_text, no_tree_in}
use Rattle.template_program_contexts.specs.Documents.{spelled_member}
use Rattle.template_program_contexts.proofs.texts.spelled_entries.Goals as goal

pub returns-in-Ok-clause-faultless : goal.returns-in-Ok-clause-faultless
returns-in-Ok-clause-faultless c =
    let same : tree_in c.args.bytes.now ≡ tree_of c.in-Ok.text.now = tree_in_text c.args.bytes.now c.in-Ok.ensures.1 ∙ ap tree_of (sym c.in-Ok.ensures.0) in
    IfOk-weaker c.text_entries.result _ _ (λ es none. ap fault_of_tree same ∙ none) c.text_entries.ensures.faultless

pub returns-in-Ok-clause-says : goal.returns-in-Ok-clause-says
returns-in-Ok-clause-says c =
    let same : tree_in c.args.bytes.now ≡ tree_of c.in-Ok.text.now = tree_in_text c.args.bytes.now c.in-Ok.ensures.1 ∙ ap tree_of (sym c.in-Ok.ensures.0) in
    IfOk-weaker c.text_entries.result _ _ (λ es say name. say name ∙ sym (ap (λ tree. spelled_member tree name) same)) c.text_entries.ensures.says

pub returns-in-Ok-clause-refused : goal.returns-in-Ok-clause-refused
returns-in-Ok-clause-refused c =
    let same : tree_in c.args.bytes.now ≡ tree_of c.in-Ok.text.now = tree_in_text c.args.bytes.now c.in-Ok.ensures.1 ∙ ap tree_of (sym c.in-Ok.ensures.0) in
    rw same c.text_entries.ensures.refused

pub returns-in-Err-clause-refused : goal.returns-in-Err-clause-refused
returns-in-Err-clause-refused c = rw (no_tree_in c.args.bytes.now c.in-Err.ensures, c.new.ensures) (inr (SyntaxError, refl, refl))
