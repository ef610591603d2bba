-- Unpacking gives as many items as are wanted, or is refused.
use Rattle.std.proofs.Common.{◌≡◌, ℕ, suc, Bool, true, false, List, ◌∷◌, ◌++◌, map, length, ◌==◌, Option, None, Some, Result, Ok, Err, if◌then◌else◌, refl, sym, ap, subst, ◌∙◌}
use Rattle.template_values_errors.specs.declared.ErrorKind.{ErrorKind}
use Rattle.template_values_errors.specs.declared.ErrorKind.TheVariants.{CannotUnpack}
use Rattle.template_values_model.specs.Val.{Val}
use Rattle.template_compiler_process.specs.Process as events
use Rattle.template_compiler_process.specs.Process.{Counts, Process, items, on_items, amiss}
use Rattle.template_compiler_code.specs.Code.{Operand, single, unpack_list}
use Rattle.template_compiler_code.specs.Steps.{deed}
use Rattle.template_machine_meaning.specs.World.{World}
use Rattle.template_machine_meaning.specs.Replies.{replied_with}
use Rattle.template_machine_meaning.specs.Surroundings.{Programs, unpacked_into, unpacked}
use Rattle.template_machine_going.specs.Spots.{Spot}
use Rattle.template_machine_going.specs.Acts.{Next}
use Rattle.template_machine_acts.specs.Comings.{ComesTo, going_on, behind_it}
use Rattle.template_machine_acts.specs.Values.{UnpackActs}
use Rattle.template_machine_acts.proofs.Coming.{answered, refused}

module _ (s : Programs) (before : Counts) (x : Spot World) (n : ℕ) (v : Val) (below : List Operand) (e : x.operands ≡ single v ∷ below) where
  abbrev onto : List Val → Spot World
  onto vs = behind_it x (map single vs ++ below)

  abbrev after : (Next → List Val → Process)
  after next vs = next (suc x.place) (map single vs ++ below)

  asking : (next : Next) → deed next before (unpack_list n) x.place x.operands ≡ events.asks (events.unpack n v) (on_items n (after next))
  asking next = ap (λ o. deed next before (unpack_list n) x.place o) e

  refused_there : (r : Result (List Val) ErrorKind) (kind : ErrorKind) → unpacked_into n (unpacked v) ≡ r → r ≡ Err kind → ComesTo s before (unpack_list n) x (going_on onto (unpacked_into n (unpacked v)))
  refused_there r kind is err =
      subst (λ q. ComesTo s before (unpack_list n) x (going_on onto q)) (sym (is ∙ err))
      (refused s before (unpack_list n) (events.unpack n v) (λ next. on_items n (after next)) kind x asking (λ m. ap (replied_with x.world items) (is ∙ err)))

  counted : (vs : List Val) (b : Bool) → length vs == n ≡ b → unpacked v ≡ Some vs → ComesTo s before (unpack_list n) x (going_on onto (unpacked_into n (unpacked v)))
  counted vs true many is =
      let given : unpacked_into n (unpacked v) ≡ Ok vs = ap (unpacked_into n) is ∙ ap (λ b. if b then Ok vs else Err CannotUnpack) many in
      subst (λ q. ComesTo s before (unpack_list n) x (going_on onto q)) (sym given)
      (answered s before (unpack_list n) (events.unpack n v) (λ next. on_items n (after next)) (items vs) x (suc x.place) (map single vs ++ below) asking
      (λ m. ap (replied_with x.world items) given) (λ next. ap (λ b. if b then after next vs else amiss) many))
  counted vs false many is =
      refused_there (Err CannotUnpack) CannotUnpack (ap (unpacked_into n) is ∙ ap (λ b. if b then Ok vs else Err CannotUnpack) many) refl

  unpacks : (o : Option (List Val)) → unpacked v ≡ o → ComesTo s before (unpack_list n) x (going_on onto (unpacked_into n (unpacked v)))
  unpacks None is = refused_there (Err CannotUnpack) CannotUnpack (ap (unpacked_into n) is) refl
  unpacks (Some vs) is = counted vs (length vs == n) refl is

pub unpack_acts : UnpackActs
unpack_acts s before x n v below e = unpacks s before x n v below e (unpacked v) refl
