-- The rounds of a recursive loop.
use Rattle.std.proofs.Common.{◌≡◌, Bool, true, false, not, ◌&&◌, ◌||◌, codes, bytes_eq, refl, ap, ◌∙◌}
use Rattle.template_compiler_tree.specs.Tree.{Expression}
use Rattle.template_compiler_names.specs.Names.{Places, is_stored_in, place_in_target}
use Rattle.template_compiler_names.specs.Among.{just}
use Rattle.template_compiler_names.proofs.Laws.{turned}

-- a loop's target, then its body
rounded : (t s l b : Bool) → ((t || (not s && false)) || (not (s || l) && b)) ≡ (t || not s && (not l && b))
rounded true s l b = refl
rounded false true l b = refl
rounded false false l b = refl

pub rounds_use : (q : Places) (e : Expression) (b : Bool) →
    ((place_in_target q e || (not (is_stored_in q.name e) && false)) || (not (is_stored_in q.name e || just (codes "loop") q.name) && b))
    ≡ (place_in_target q e || not (is_stored_in q.name e) && (not (bytes_eq q.name (codes "loop")) && b))
rounds_use q e b =
    rounded (place_in_target q e) (is_stored_in q.name e) (just (codes "loop") q.name) b ∙
    ap (λ l. place_in_target q e || not (is_stored_in q.name e) && (not l && b)) (turned (codes "loop") q.name)
