use Rattle.std.proofs.Common.{◌≡◌, ◌<◌, ◌↔◌, List, String, Global, Option, Some, None, IsSome, [], ◌∷◌, length, map, string_bytes, ap, refl, arith}
use Rattle.template_compiler_statement_codegen.proofs.Declaring.{encloses_all, encloses_end, encloses_next}
use Rattle.template_compiler_statement_codegen.proofs.macros.enclose_all.Goals as goal

pub loop-name-init : goal.loop-name-init
loop-name-init c = encloses_all (map string_bytes c.args.names.keys) c.args.code.now

pub loop-name-preserved : goal.loop-name-preserved
loop-name-preserved c =
    encloses_next (string_bytes c.in-Some.name) (ap (λ (ks : List (String Global)). map string_bytes ks) c.in-Some.ensures.removal)
    c.loop-name.invariant c.in_ok-put.ensures.put

nothing : (o : Option (String Global)) → o ≡ None → IsSome o → ⊥
nothing None is some = cc
nothing (Some k) is some = cc

-- where no first one is, there is none
none_left : (ks : List (String Global)) (o : Option (String Global)) → o ≡ None → IsSome o ↔ (0 < length ks) → map string_bytes ks ≡ []
none_left [] o is first = refl
none_left (k ∷ ks) o is first = absurd (nothing o is (first.1 (omega arith)))

pub returns-clause-put : goal.returns-clause-put
returns-clause-put c =
    encloses_end (none_left c.loop-name.left.keys None refl c.in_default.ensures.variant) c.loop-name.invariant
