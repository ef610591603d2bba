-- What ten tests tell that all hold.
use Rattle.std.proofs.Common.{◌≡◌, Bool, true, [], ◌∷◌, refl}
use Rattle.std.specs.Prelude.{IsTrue, ◌&&◌}
use Rattle.std.specs.List.{list_all}
use Rattle.std.proofs.lemmas.Bool.{and_parts}

and_both : {a b : Bool} → IsTrue a → IsTrue b → IsTrue (a && b)
and_both {a = a} {b = b} p q = rw (p, q)

pub hold : (r0 r1 r2 r3 r4 r5 r6 r7 r8 r9 : Bool) → IsTrue r0 → IsTrue r1 → IsTrue r2 → IsTrue r3 → IsTrue r4 → IsTrue r5 → IsTrue r6 → IsTrue r7 → IsTrue r8 → IsTrue r9 →
    list_all (λ test. test) (r0 ∷ r1 ∷ r2 ∷ r3 ∷ r4 ∷ r5 ∷ r6 ∷ r7 ∷ r8 ∷ r9 ∷ []) ≡ true
hold r0 r1 r2 r3 r4 r5 r6 r7 r8 r9 h0 h1 h2 h3 h4 h5 h6 h7 h8 h9 =
    and_both h0 (and_both h1 (and_both h2 (and_both h3 (and_both h4 (and_both h5 (and_both h6 (and_both h7 (and_both h8 (and_both h9 (refl))))))))))

pub held : (r0 r1 r2 r3 r4 r5 r6 r7 r8 r9 : Bool) → list_all (λ test. test) (r0 ∷ r1 ∷ r2 ∷ r3 ∷ r4 ∷ r5 ∷ r6 ∷ r7 ∷ r8 ∷ r9 ∷ []) ≡ true →
    IsTrue r0 × IsTrue r1 × IsTrue r2 × IsTrue r3 × IsTrue r4 × IsTrue r5 × IsTrue r6 × IsTrue r7 × IsTrue r8 × IsTrue r9
held r0 r1 r2 r3 r4 r5 r6 r7 r8 r9 all =
    let p0 = and_parts _ _ all in
    let p1 = and_parts _ _ p0.1 in
    let p2 = and_parts _ _ p1.1 in
    let p3 = and_parts _ _ p2.1 in
    let p4 = and_parts _ _ p3.1 in
    let p5 = and_parts _ _ p4.1 in
    let p6 = and_parts _ _ p5.1 in
    let p7 = and_parts _ _ p6.1 in
    let p8 = and_parts _ _ p7.1 in
    let p9 = and_parts _ _ p8.1 in
    (p0.0, p1.0, p2.0, p3.0, p4.0, p5.0, p6.0, p7.0, p8.0, p9.0)
