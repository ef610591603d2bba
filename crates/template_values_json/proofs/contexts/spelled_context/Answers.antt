use Rattle.std.proofs.Common.{◌≡◌, inr, refl, sym, ap, ◌∙◌, option_map}
use Rattle.std.proofs.lemmas.Result.{IfOk-weaker}
use Rattle.template_values_errors.specs.declared.ErrorKind.TheVariants.{SyntaxError}
use Rattle.template_values_json.specs.Contexts.{fault_of_tree, tree_in, tree_of}
use Rattle.template_values_json.specs.Spelled.{spelled_value}
use Rattle.template_values_json.proofs.ContextDocuments.{tree_in_text, no_tree_in}
use Rattle.template_values_json.proofs.contexts.spelled_context.Goals as goal

pub returns-in-Ok-clause-faultless : goal.returns-in-Ok-clause-faultless
returns-in-Ok-clause-faultless c =
    let same : tree_in c.args.bytes.now ≡ tree_of c.in-Ok.text.now = tree_in_text c.args.bytes.now c.in-Ok.ensures.cases.1 ∙ ap tree_of (sym c.in-Ok.ensures.cases.0) in
    IfOk-weaker c.spelled_text.result _ _ (λ v none. ap fault_of_tree same ∙ none) c.spelled_text.ensures.faultless

pub returns-in-Ok-clause-is : goal.returns-in-Ok-clause-is
returns-in-Ok-clause-is c =
    let same : tree_in c.args.bytes.now ≡ tree_of c.in-Ok.text.now = tree_in_text c.args.bytes.now c.in-Ok.ensures.cases.1 ∙ ap tree_of (sym c.in-Ok.ensures.cases.0) in
    IfOk-weaker c.spelled_text.result _ _ (λ v is. ap (option_map spelled_value) same ∙ is) c.spelled_text.ensures.is

pub returns-in-Ok-clause-refused : goal.returns-in-Ok-clause-refused
returns-in-Ok-clause-refused c =
    let same : tree_in c.args.bytes.now ≡ tree_of c.in-Ok.text.now = tree_in_text c.args.bytes.now c.in-Ok.ensures.cases.1 ∙ ap tree_of (sym c.in-Ok.ensures.cases.0) in
    rw same c.spelled_text.ensures.refused

pub returns-in-Err-clause-refused : goal.returns-in-Err-clause-refused
returns-in-Err-clause-refused c = rw (no_tree_in c.args.bytes.now c.in-Err.ensures.cases.0, c.no_json.ensures) (inr (SyntaxError, refl, refl))
