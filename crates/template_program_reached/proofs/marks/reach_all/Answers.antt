use Rattle.std.proofs.Common.{◌≡◌, ◌∙◌, ◌+◌, ◌<◌, ◌∷◌, ◌++◌, [], List, ℕ, String, string_bytes, length, take, sym, ap, subst, arith}
use Rattle.std.specs.declared.alloc.Global.{Global}
use Rattle.std.proofs.lemmas.List.{map_more}
use Rattle.template_program_reached.specs.Places.{Reaches}
use Rattle.template_program_reached.specs.Views.{names_in}
use Rattle.template_program_reached.proofs.Marking.{reaches_both}
use Rattle.template_program_reached.proofs.marks.reach_all.Goals as goal

-- the place of one more name came
pub loop-name-preserved : goal.loop-name-preserved
loop-name-preserved c =
    let k = c.loop-name.name-index in
    let names = c.args.names.now in
    let item = c.name-item.result in
    let h : k < length names = omega arith in
    let more : names_in (take (k + 1) names) ≡ names_in (take k names) ++ c.as_str.result.now ∷ [] =
    map_more string_bytes names k item h
    ∙ ap (λ (s : String Global). names_in (take k names) ++ string_bytes s ∷ []) (sym c.name-item.is)
    ∙ ap (λ (s : List ℕ). names_in (take k names) ++ s ∷ []) (sym c.as_str.ensures.value) in (
      subst (λ (ns : List (List ℕ)). Reaches c.args.places.now ns c.args.found.now.order.items c.reach.new.found.order.items) (sym more)
          (reaches_both c.args.places.now (names_in (take k names))
          (c.as_str.result.now ∷ []) c.args.found.now.order.items c.loop-name.found.order.items
          c.reach.new.found.order.items c.loop-name.invariant.0 c.in_ok-reach.ensures.reached),
      c.in_ok-reach.ensures.marked,
      omega (arith, c.in_ok-reach.ensures.length, c.loop-name.invariant.2),
    )
