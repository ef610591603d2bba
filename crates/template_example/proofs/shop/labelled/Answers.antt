use Rattle.std.proofs.Common.{◌∙◌, ap, codes, ◌++◌, [], ◌∷◌, Option, List, ℕ, string_bytes}
use Rattle.std.specs.Option.{option_map}
use Rattle.template_values.specs.Answers.{text_in}
use Rattle.template_values.specs.Val as values
use Rattle.template_values.specs.Val.{Val}
use Rattle.template_machine.specs.Callables.{escapes, finishes}
use Rattle.template_machine.specs.Extras.{UserAnswers, user_answers}
use Rattle.template_machine.specs.Joins.{keeps_name}
use Rattle.template_machine.specs.Reading.{extras_of}
use Rattle.template_machine.specs.States.{around_in, environment_in, world_in}
use Rattle.template_machine.specs.declared.Environment.{Environment}
use Rattle.template_example.specs.Says.{labelled, methods_say, own_says}
use Rattle.template_example.specs.declared.callables.ShopMethods.{ShopMethods}
use Rattle.template_example.specs.declared.callables.Own.{Own}
use Rattle.template_example.specs.declared.callables.Own.TheVariants as owns
use Rattle.template_example.proofs.Labels.{call_gives, call_tells}
use Rattle.template_example.proofs.shop.labelled.Goals as goal

-- what each of them answers, where nothing says how values are printed, and which templates are meant
abbrev shop_says : {F J : Type 0} → UserAnswers Own ShopMethods F J
shop_says = user_answers own_says methods_say (λ formatter view v. escapes v) (λ join. keeps_name)

pub returns : goal.returns
returns c =
    let s = c.in_ok-state.state in
    let shop = c.requires in
    let there = ap (λ (e : Environment _ _ _ _ _ _). option_map own_says ((extras_of e).filters (codes "label"))) c.in_ok-state.ensures.here
    ∙ ap (λ (o : Option Own). option_map own_says o) shop.stands in
    let text = ap (λ (v : Val). labelled (string_bytes shop.label.prefix) (text_in v)) c.in_ok-text.ensures.made
    ∙ ap (λ (prefix : List ℕ). finishes [] (values.text (prefix ++ c.args.text.now))) shop.prefixed in
    call_gives _ _ _ c.apply_filter.result
    (call_tells (around_in shop_says s) (world_in s) _ (own_says (owns.Label shop.label)) (codes "label") (c.in_ok-text.text ∷ []) _ there text)
    c.apply_filter.ensures.told
