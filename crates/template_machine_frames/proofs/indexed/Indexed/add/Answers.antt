-- The local goes behind the others, and its place is kept.
use Rattle.std.proofs.Common.{◌≡◌, ◌∙◌, ℕ, sym, ap, subst, refl, List, ◌++◌, ◌∷◌, [], length, Some, arith}
use Rattle.std.specs.Borrow.{Bor}
use Rattle.std.specs.BTreeMap.{UpdatesBy}
use Rattle.std.specs.Cmp.Lexicographic.{slice_cmp}
use Rattle.std.specs.Ordering.{nat_cmp}
use Rattle.template_machine_meaning.specs.World.{local_at, put_local}
use Rattle.template_machine_frames.specs.declared.local.Local.{Local}
use Rattle.template_machine_frames.specs.Locals.{locals_of, TellPlaces}
use Rattle.template_machine_frames.proofs.Named.{no_place, put_new}
use Rattle.template_machine_frames.proofs.Places.{places_pushed}
use Rattle.template_machine_frames.proofs.indexed.Indexed.add.Goals as goal

pub invariant_of-self-2 : goal.invariant_of-self-2
invariant_of-self-2 c =
    let locals = c.self.inside.locals.items in
    let none = no_place c.args.name.now locals (ap (local_at c.args.name.now) c.self.view_is ∙ c.requires) in
    let long : c.len.result ≡ length locals = omega (arith, c.len.ensures, c.in_ok-reserve.ensures.len, c.self.inside.locals.ok.0) in
    let x : Local = record { name = c.args.name; value = c.args.value } in
    let pushed : c.push_reserved.new.self.items ≡ locals ++ x ∷ [] =
    c.push_reserved.ensures.items ∙ ap (λ (ls : List Local). ls ++ x ∷ []) c.in_ok-reserve.ensures.items in
    subst (λ (ls : List Local). TellPlaces c.insert.new.self ls) (sym pushed)
    (places_pushed c.self.inside.places c.insert.new.self locals c.args.name x refl none
    (subst (λ n. UpdatesBy (λ (x y : Bor (List ℕ)). slice_cmp nat_cmp x.now y.now) (λ k. slice_cmp nat_cmp c.args.name.now k.now) c.self.inside.places c.insert.new.self (Some n))
    long c.in_ok-insert.ensures.updates)
    c.self.invariant)

pub returns-clause-stored : goal.returns-clause-stored
returns-clause-stored c =
    let locals = c.self.inside.locals.items in
    let none = no_place c.args.name.now locals (ap (local_at c.args.name.now) c.self.view_is ∙ c.requires) in
    let x : Local = record { name = c.args.name; value = c.args.value } in
    ap locals_of (c.push_reserved.ensures.items ∙ ap (λ (ls : List Local). ls ++ x ∷ []) c.in_ok-reserve.ensures.items)
    ∙ put_new c.args.name.now c.args.value locals x none refl refl
    ∙ ap (put_local c.args.name.now c.args.value) c.self.view_is
