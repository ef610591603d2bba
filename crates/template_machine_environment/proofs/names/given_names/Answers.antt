use Rattle.std.proofs.Common.{rules, ◌≡◌, false, ◌||◌, codes, bytes_eq, ap, ◌∙◌}
use Rattle.std.specs.BTreeSet.{contains_text}
use Rattle.template_machine_environment.proofs.Naming.{given_is}
use Rattle.template_machine_environment.proofs.names.given_names.Goals as goal

pub returns-clause-given : goal.returns-clause-given
returns-clause-given c = λ q.
    let none : contains_text c.new-names.result q ≡ false = search rules in
    let first = c.in_ok-add_name.ensures.added q ∙ ap (λ b. b || bytes_eq (codes "self") q) none in
    let second = c.in_ok-add_name-2.ensures.added q ∙ ap (λ b. b || bytes_eq (codes "super") q) first in
    let third = c.in_ok-add_name-3.ensures.added q ∙ ap (λ b. b || bytes_eq (codes "loop") q) second in
    c.in_ok-add_name-4.ensures.added q ∙ ap (λ b. b || bytes_eq (codes "caller") q) third ∙ given_is q
