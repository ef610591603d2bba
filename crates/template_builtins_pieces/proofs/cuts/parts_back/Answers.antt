use Rattle.std.proofs.Common.{◌≡◌, ℕ, List, Bor, ◌+◌, Some, ap, ◌∙◌}
use Rattle.std.specs.Int.{w128}
use Rattle.std.specs.Int.RustNames.{FitsSigned}
use Rattle.std.proofs.lemmas.Int.{to_z-of_z}
use Rattle.std.proofs.lemmas.Iterator.Consumers.{map_from_collect}
use Rattle.template_builtins_texts.specs.Replacing.{places_up_to}
use Rattle.template_builtins_pieces.proofs.Parting.{yields_back}
use Rattle.template_builtins_pieces.proofs.cuts.parts_back.Goals as goal

pub returns : goal.returns
returns c =
    let fits : FitsSigned w128 c.args.count = c.ranges.count in
    let cuts : c.cuts_up_to.result ≡ places_up_to (Some c.args.count) c.args.text.now = simp to_z-of_z at c.cuts_up_to.ensures.is in
    map_from_collect _ c.collect.ensures.ran
    (yields_back c.args.separator.now c.args.text.now (places_up_to (Some c.args.count) c.args.text.now) c.requires c.rsplitn.ensures.text c.rsplitn.ensures.has_more
    (ap (λ (p : Bor (List ℕ)). p.now) c.rsplitn.ensures.pattern)
    (c.rsplitn.ensures.count ∙ ap (λ (k : ℕ). k + 1) cuts))
