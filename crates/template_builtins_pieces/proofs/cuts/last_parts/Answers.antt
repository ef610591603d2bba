use Rattle.std.proofs.Common.{◌≡◌, ℕ, List, Bor, Some, ap, reverse, ◌∙◌}
use Rattle.std.specs.Int.{w128}
use Rattle.std.specs.Int.RustNames.{FitsSigned}
use Rattle.std.proofs.lemmas.Int.{to_z-of_z}
use Rattle.template_builtins_texts.specs.Replacing.{places_up_to}
use Rattle.template_builtins_pieces.specs.Cuts.{parts_back}
use Rattle.template_builtins_pieces.specs.Reading.{all_shown}
use Rattle.template_builtins_pieces.proofs.Reversing.{reversed}
use Rattle.template_builtins_pieces.proofs.cuts.last_parts.Goals as goal

pub returns : goal.returns
returns c =
    let fits : FitsSigned w128 c.args.count = c.ranges.count in
    let back : all_shown c.in_ok-parts.parts.items ≡ parts_back c.args.separator.now (places_up_to (Some c.args.count) c.args.text.now) c.args.text.now = simp to_z-of_z at c.in_ok-parts.ensures in
    ap all_shown c.reverse.ensures.items ∙ reversed (λ (x : Bor (List ℕ)). x.now) c.in_ok-parts.parts.items ∙ ap reverse back
