use Rattle.std.proofs.Common.{◌≡◌, ◌∙◌, ◌<◌, List, ℕ, String, length, get_or, sym, ap, subst, arith}
use Rattle.std.specs.declared.alloc.Global.{Global}
use Rattle.std.proofs.lemmas.List.{get_or_read}
use Rattle.template_compiler_syntax.specs.Syntax.{Syntax}
use Rattle.template_program_reached.specs.Loaded.{IsLoading}
use Rattle.template_program_reached.specs.Places.{IsLast, Reaches, TellPlaces, text_at}
use Rattle.template_program_reached.specs.Views.{names_in, texts_in}
use Rattle.template_program_reached.proofs.Searching.{search_begins, search_ends, search_goes}
use Rattle.template_program_reached.proofs.Texts.{length-texts, text_there}
use Rattle.template_program_reached.proofs.marks.reached.Goals as goal

pub loop-next-init : goal.loop-next-init
loop-next-init c =
    let texts = texts_in c.args.templates.now in (
      search_begins c.args.syntax.now c.args.places.now texts c.args.main.now c.in_ok-found.found.order.items c.reach.new.found.order.items
          (subst (TellPlaces c.args.places.now texts) (sym (length-texts c.args.templates.now)) c.requires)
          c.in_ok-found.ensures.order c.in_ok-reach.ensures.reached,
      c.in_ok-reach.ensures.marked,
      omega (arith, c.in_ok-reach.ensures.length, c.in_ok-found.ensures.length),
    )

pub loop-next-preserved : goal.loop-next-preserved
loop-next-preserved c =
    let texts = texts_in c.args.templates.now in
    let order = c.loop-next.found.order in
    let next = c.loop-next.next in
    let place = c.index-place.result.now in
    let t = c.index-templates-place.result in
    let within : next < length order.items = omega (arith, order.ok.0) in
    let at : place ≡ get_or order.items next 0 = get_or_read order.items next place within c.index-place.ensures 0 in
    let bound = c.loop-next.invariant.1.ordered next 0 within in
    let inside : place < length c.args.templates.now = omega (arith, bound.0, at, c.loop-next.invariant.2) in
    let source : c.as_str.result.now ≡ (text_at texts place).1 =
    c.as_str.ensures.value ∙ sym (ap (λ (p : List ℕ × List ℕ). p.1) (text_there c.args.templates.now place t inside)) in
    let loading : IsLoading c.args.syntax.now (text_at texts place).1 (names_in c.in_ok-names.names.items) =
    subst (λ (s : List ℕ). IsLoading c.args.syntax.now s (names_in c.in_ok-names.names.items)) source
    (subst (λ (x : Syntax). IsLoading x c.as_str.result.now
    (names_in c.in_ok-names.names.items)) c.in_ok-clone.ensures.cases c.in_ok-names.ensures.names) in
    let reaches : Reaches c.args.places.now (names_in c.in_ok-names.names.items) order.items c.reach_all.new.found.order.items =
    subst (λ (ns : List (String Global)). Reaches c.args.places.now
    (names_in ns) order.items c.reach_all.new.found.order.items) c.as_slice.ensures.value
    c.in_ok-reach_all.ensures.reached in (
      search_goes c.args.syntax.now c.args.places.now texts c.args.main.now next place (names_in c.in_ok-names.names.items) order.items
          c.reach_all.new.found.order.items (subst (TellPlaces c.args.places.now texts)
          (sym (length-texts c.args.templates.now)) c.requires)
          c.one_list_of_names.ensures within at loading reaches c.loop-next.invariant.0,
      c.in_ok-reach_all.ensures.marked,
      omega (arith, c.in_ok-reach_all.ensures.length, c.loop-next.invariant.2),
    )

pub returns-clause-marked : goal.returns-clause-marked
returns-clause-marked c = λ i name last.
    let texts = texts_in c.args.templates.now in
    search_ends c.args.syntax.now c.args.places.now texts c.args.main.now c.loop-next.next c.loop-next.found.order.items c.loop-next.found.marks.items
    (subst (TellPlaces c.args.places.now texts) (sym (length-texts c.args.templates.now)) c.requires)
    (omega (arith, c.loop-next.found.order.ok.0)) c.loop-next.invariant.0 c.loop-next.invariant.1 i name
    (subst (λ (n : ℕ). IsLast texts n name i) (sym (length-texts c.args.templates.now)) last)
