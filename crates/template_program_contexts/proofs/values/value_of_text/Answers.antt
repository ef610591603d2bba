use Rattle.std.proofs.Common.{◌≡◌, ap, ◌∙◌, option_map}
use Rattle.std.proofs.lemmas.Result.{IfOk-weaker}
use Rattle.template_values_json.specs.Contexts.{context_of, tree_in, tree_of}
use Rattle.template_values_json.specs.Spelled.{spelled_value}
use Rattle.template_values_json.proofs.ContextDocuments.{tree_in_text}
use Rattle.template_program_contexts.specs.Values.{fault_of_tree, fault_of_value}
use Rattle.template_program_contexts.proofs.values.value_of_text.Goals as goal

pub returns-in-AsSpelled-clause-faultless : goal.returns-in-AsSpelled-clause-faultless
returns-in-AsSpelled-clause-faultless c =
    let s = c.args.text.now in
    let same : tree_in s ≡ tree_of s = tree_in_text s c.utf8.text in
    IfOk-weaker c.spelled_value.result _ _ (λ v none. ap (λ f. fault_of_value f s) c.in-AsSpelled.is ∙ ap fault_of_tree same ∙ none) c.spelled_value.ensures.faultless

pub returns-in-AsSpelled-clause-is : goal.returns-in-AsSpelled-clause-is
returns-in-AsSpelled-clause-is c =
    let s = c.args.text.now in
    let same : tree_in s ≡ tree_of s = tree_in_text s c.utf8.text in
    IfOk-weaker c.spelled_value.result _ _ (λ v is. ap (λ f. context_of f s) c.in-AsSpelled.is ∙ ap (option_map spelled_value) same ∙ is) c.spelled_value.ensures.is

pub returns-in-AsSpelled-clause-refused : goal.returns-in-AsSpelled-clause-refused
returns-in-AsSpelled-clause-refused c =
    let s = c.args.text.now in
    let same : tree_in s ≡ tree_of s = tree_in_text s c.utf8.text in
    rw (c.in-AsSpelled.is, same) c.spelled_value.ensures.refused
