use Rattle.std.proofs.Common.{◌≡◌, ◌∷◌, arith}
use Rattle.std.proofs.lemmas.Result.{IfOk-weaker}
use Rattle.json.specs.Lex.{tokens}
use Rattle.json.specs.Token.{Token}
use Rattle.template_values_core.specs.Shape.{pairs_in}
use Rattle.template_values_json.proofs.Turns.{object_read}
use Rattle.template_values_json.proofs.direct.entries_of_text.Goals as goal

pub returns-in-Some-BeginObject : goal.returns-in-Some-BeginObject
returns-in-Some-BeginObject c =
    let first : tokens c.args.text.now ≡ Token.begin_object ∷ c.next.new.self = grind arith in
    IfOk-weaker c.read_last.result _ _ (λ es read. object_read c.args.text.now c.next.new.self (pairs_in es.items) first read) c.read_last.ensures
