use Rattle.std.proofs.Common.{◌∙◌, ◌||◌, List, ℕ, ap, bytes_eq}
use Rattle.std.specs.BTreeSet.{contains_text}
use Rattle.template_compiler_names.proofs.owned.add_name.Goals as goal

pub returns-in_ok-add_text-clause-added : goal.returns-in_ok-add_text-clause-added
returns-in_ok-add_text-clause-added c = λ q.
    c.in_ok-add_text.ensures.added q ∙ ap (λ (bs : List ℕ). contains_text c.args.names.now q || bytes_eq bs q) c.in_ok-from_str.ensures.ok
