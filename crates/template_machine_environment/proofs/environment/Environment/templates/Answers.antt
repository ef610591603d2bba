use Rattle.std.proofs.Common.{◌≡◌, ◌∙◌, ap, sym, subst, refl, List, [], ◌∷◌, ◌++◌, map, Option, bytes_eq, ℕ}
use Rattle.std.specs.Cmp.Lexicographic.{slice_cmp}
use Rattle.std.specs.List.{find}
use Rattle.std.specs.List.Sorted.{IsStrictlySortedBy}
use Rattle.std.specs.Map.Iter.{deref}
use Rattle.std.specs.Option.{option_map}
use Rattle.std.specs.Ordering.{nat_cmp}
use Rattle.std.proofs.lemmas.List.{map-append}
use Rattle.std.proofs.lemmas.List.Elements.{All-push, All-same}
use Rattle.std.proofs.lemmas.Map.Iter.{iter_end}
use Rattle.template_compiled.specs.Compiled.{Compiled}
use Rattle.template_compiled.specs.Standing.{all_in}
use Rattle.template_machine_environment.specs.Views.{compiled_in, environment_of}
use Rattle.template_machine_environment.specs.declared.template.Template.{Template}
use Rattle.template_machine_environment.proofs.Listed.{found_by, map_twice}
use Rattle.template_machine_environment.proofs.environment.Environment.templates.Goals as goal

-- one more template
pub loop-compiled-preserved : goal.loop-compiled-preserved
loop-compiled-preserved g c =
    let listed = c.loop-compiled.listed.items in
    let own = λ (t : Template _ _ _ _ _ _). compiled_in t.compiled in
    let here = λ (t : Template _ _ _ _ _ _). environment_of t ≡ c.args.self.now in
    record {
      same = ap (map own) c.in_ok-push.ensures.items ∙ map-append own listed _
          ∙ ap (λ (ks : List Compiled). ks ++ c.in-Some.compiled.now ∷ []) c.loop-compiled.invariant.same
          ∙ sym (map-append deref c.loop-compiled.yielded (c.in-Some.compiled ∷ []));
      here = All-same here c.push.new.self.items _ c.in_ok-push.ensures.items (All-push here listed _ c.loop-compiled.invariant.here refl);
    }

-- all templates
pub returns-clause-listed : goal.returns-clause-listed
returns-clause-listed g c = λ name.
    let ended =
    iter_end deref (all_in c.args.self.now.registry.templates) c.loop-compiled.yielded c.into_iter-compiled-iterator.result c.loop-compiled.compiled-iterator
    c.next.new.self c.next.result (c.into_iter-compiled-iterator.ensures.into_iter_gives ∙ c.values-compiled-items.ensures.rest) c.loop-compiled.yielded_by c.in-None.is
    c.next.ensures.steps in
    let same = c.loop-compiled.invariant.same ∙ ended.0 in
    ap (λ (o : Option Compiled). option_map (λ k. k.source) o)
    (sym (c.values-compiled-items.ensures.found name) ∙ ap (λ (ks : List Compiled). find (λ k. bytes_eq name k.name) ks) (sym same))
    ∙ found_by (λ (t : Template _ _ _ _ _ _). compiled_in t.compiled) (λ k. k.source) (λ k. bytes_eq name k.name) c.loop-compiled.listed.items

pub returns-clause-ordered : goal.returns-clause-ordered
returns-clause-ordered g c =
    let ended =
    iter_end deref (all_in c.args.self.now.registry.templates) c.loop-compiled.yielded c.into_iter-compiled-iterator.result c.loop-compiled.compiled-iterator
    c.next.new.self c.next.result (c.into_iter-compiled-iterator.ensures.into_iter_gives ∙ c.values-compiled-items.ensures.rest) c.loop-compiled.yielded_by c.in-None.is
    c.next.ensures.steps in
    let same = c.loop-compiled.invariant.same ∙ ended.0 in
    subst (λ (names : List (List ℕ)). IsStrictlySortedBy (slice_cmp nat_cmp) names)
    (ap (λ (ks : List Compiled). map (λ k. k.name) ks) (sym same)
    ∙ map_twice (λ (t : Template _ _ _ _ _ _). compiled_in t.compiled) (λ k. k.name) c.loop-compiled.listed.items)
    c.values-compiled-items.ensures.ordered
