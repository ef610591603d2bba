-- What is read behind an expression that is a call, and behind another one.
use Rattle.std.proofs.Common.{◌≡◌, List, Option, None, Some, Err, sym, ap}
use Rattle.std.specs.Global.{Box}
use Rattle.template_compiler_tree.specs.Tree.{Expression, Arguments}
use Rattle.template_compiler_tree.specs.View.{expression_of, arguments_in}
use Rattle.template_compiler_tree.specs.CallView.{call_in}
use Rattle.template_compiler_tree.specs.declared.calls.Call.{Call}
use Rattle.template_compiler_tree.specs.declared.span.Spanned.{Spanned}
use Rattle.template_compiler_tokens.specs.Token.{Token, bad_syntax}
use Rattle.template_compiler_tokens.specs.Steps.{Read}
use Rattle.template_compiler_grammar.specs.TemplateReaderParts.{only_call}

pub call_here : {A : Type 0} (go : Expression → Arguments → List Token → Read A) (o : Option (Expression × Arguments)) (n : Box (Spanned Call)) (ts : List Token) →
    call_in (Some n) ≡ o → only_call go o ts ≡ go (expression_of n.value.node.expr) (arguments_in n.value.node.args.items) ts
unfolding only_call
call_here go o n ts h = ap (λ o. only_call go o ts) (sym h)

pub no_call : {A : Type 0} (go : Expression → Arguments → List Token → Read A) (o : Option (Expression × Arguments)) (ts : List Token) →
    call_in None ≡ o → only_call go o ts ≡ Err bad_syntax
unfolding only_call
no_call go o ts h = ap (λ o. only_call go o ts) (sym h)
