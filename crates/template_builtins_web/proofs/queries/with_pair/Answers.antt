use Rattle.std.proofs.Common.{List, ℕ, ◌∷◌, ◌++◌, false, string_bytes}
use Rattle.std.proofs.lemmas.Result.{err_from_is_err_and}
use Rattle.template_callables.specs.Views.{seen_in}
use Rattle.template_builtins_arguments.specs.Parts.{text_of}
use Rattle.template_builtins_arguments.specs.Printing.{shown}
use Rattle.template_builtins_web.specs.Urls.{escaped}
use Rattle.template_builtins_web.proofs.Pairs.{second_refused}
use Rattle.template_builtins_web.proofs.queries.with_pair.Goals as goal

pub returns-in_err-content : goal.returns-in_err-content
returns-in_err-content c =
    let p = err_from_is_err_and c.from_residual-in_err-content.result c.from_residual-in_err-content.ensures.1 in
    let make : List ℕ → List ℕ → List ℕ = λ s t. c.args.before.now ++ (escaped false s ++ 61 ∷ escaped false t) in
    rw (p.1, p.2)
    (second_refused (text_of (seen_in c.args.view.now) c.args.key.now) (text_of (seen_in c.args.view.now) c.args.value.now) (string_bytes c.args.text) (shown c.in_ok-name.name) make _ c.in_ok-name.ensures c.in_err-content.ensures)
