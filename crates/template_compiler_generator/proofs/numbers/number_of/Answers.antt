use Rattle.std.proofs.Common.{◌≡◌, ◌∙◌, ◌<◌, ◌≤◌, ◌++◌, ◌∷◌, [], ℕ, List, length, sym, ap, map, Some, None, bytes_eq, position, arith}
use Rattle.std.proofs.lemmas.List.{length-map, map-append}
use Rattle.template_compiler_code.specs.Listing.{code_in}
use Rattle.template_compiler_generator.specs.Numbers.{name_at, number_among, place_among}
use Rattle.template_compiler_generator.proofs.Naming.{place_at, named_again, named_late, named_first}
use Rattle.template_compiler_generator.proofs.numbers.number_of.Goals as goal

pub returns-in-Some-clause-names : goal.returns-in-Some-clause-names
returns-in-Some-clause-names c =
    let name = c.args.name.now in
    let f = name_at (code_in c.args.code.now) in
    let places = c.args.names.now.items in
    let at : place_among (map f places) name ≡ Some c.in-Some.number =
    sym (place_at f places name) ∙ ap (position (λ p. bytes_eq (f p) name)) (sym c.deref.ensures.value) ∙ sym c.in-Some.ensures in
    (named_again (map f places) name c.in-Some.number at).0

pub returns-in-Some-clause-number : goal.returns-in-Some-clause-number
returns-in-Some-clause-number c =
    let name = c.args.name.now in
    let f = name_at (code_in c.args.code.now) in
    let places = c.args.names.now.items in
    let at : place_among (map f places) name ≡ Some c.in-Some.number =
    sym (place_at f places name) ∙ ap (position (λ p. bytes_eq (f p) name)) (sym c.deref.ensures.value) ∙ sym c.in-Some.ensures in
    (named_again (map f places) name c.in-Some.number at).1

pub returns-then-next-ge-MAX_LOCALS-clause-names : goal.returns-then-next-ge-MAX_LOCALS-clause-names
returns-then-next-ge-MAX_LOCALS-clause-names c =
    let name = c.args.name.now in
    let f = name_at (code_in c.args.code.now) in
    let places = c.args.names.now.items in
    let at : place_among (map f places) name ≡ None =
    sym (place_at f places name) ∙ ap (position (λ p. bytes_eq (f p) name)) (sym c.deref.ensures.value) ∙ sym c.in-None.ensures in
    let full : 50 ≤ length (map f places) = omega (arith, length-map places f, c.len-next.ensures, c.if-next-ge-MAX_LOCALS.true) in
    (named_late (map f places) name at full).0

pub returns-then-next-ge-MAX_LOCALS-clause-number : goal.returns-then-next-ge-MAX_LOCALS-clause-number
returns-then-next-ge-MAX_LOCALS-clause-number c =
    let name = c.args.name.now in
    let f = name_at (code_in c.args.code.now) in
    let places = c.args.names.now.items in
    let at : place_among (map f places) name ≡ None =
    sym (place_at f places name) ∙ ap (position (λ p. bytes_eq (f p) name)) (sym c.deref.ensures.value) ∙ sym c.in-None.ensures in
    let full : 50 ≤ length (map f places) = omega (arith, length-map places f, c.len-next.ensures, c.if-next-ge-MAX_LOCALS.true) in
    (named_late (map f places) name at full).1

pub returns-in_ok-push-in-None-clause-names : goal.returns-in_ok-push-in-None-clause-names
returns-in_ok-push-in-None-clause-names c =
    let name = c.args.name.now in
    let f = name_at (code_in c.args.code.now) in
    let places = c.args.names.now.items in
    let at : place_among (map f places) name ≡ None =
    sym (place_at f places name) ∙ ap (position (λ p. bytes_eq (f p) name)) (sym c.deref.ensures.value) ∙ sym c.in-None.ensures in
    let room : length (map f places) < 50 = omega (arith, length-map places f, c.len-next.ensures, c.if-next-ge-MAX_LOCALS.false) in
    ap (map f) c.in_ok-push-in-None.ensures.items ∙ map-append f places (c.args.place ∷ [])
    ∙ ap (λ (n : List ℕ). map f places ++ n ∷ []) c.requires.stands
    ∙ (named_first (map f places) name at room).0

pub returns-in_ok-push-in-None-clause-number : goal.returns-in_ok-push-in-None-clause-number
returns-in_ok-push-in-None-clause-number c =
    let name = c.args.name.now in
    let f = name_at (code_in c.args.code.now) in
    let places = c.args.names.now.items in
    let at : place_among (map f places) name ≡ None =
    sym (place_at f places name) ∙ ap (position (λ p. bytes_eq (f p) name)) (sym c.deref.ensures.value) ∙ sym c.in-None.ensures in
    let room : length (map f places) < 50 = omega (arith, length-map places f, c.len-next.ensures, c.if-next-ge-MAX_LOCALS.false) in
    let behind : map f c.push.new.self.items ≡ map f places ++ name ∷ [] =
    ap (map f) c.in_ok-push-in-None.ensures.items ∙ map-append f places (c.args.place ∷ []) ∙ ap (λ (n : List ℕ). map f places ++ n ∷ []) c.requires.stands in
    let next : c.len-next.result ≡ length (map f places) = omega (arith, length-map places f, c.len-next.ensures) in
    next ∙ (named_first (map f places) name at room).1 ∙ ap (λ (ns : List (List ℕ)). number_among ns name) (sym behind)
