-- No instruction of generated code leads to one that leans on the one before it.
use Rattle.std.proofs.Common.{◌≡◌, ℕ, zero, suc, ◌+◌, ◌≤◌, ◌⊎◌, inl, inr, Bool, true, false, ◌&&◌, if◌then◌else◌, List, [], ◌∷◌, ◌++◌, length, Option, None, Some, slice_get, refl, sym, ap, subst, ◌∙◌, append-nil, length-append, arith}
use Rattle.std.specs.Prelude.{not, is_some}
use Rattle.std.proofs.lemmas.Option.{slice_get_past}
use Rattle.template_compiler_tree.specs.Tree.{Expression, Statement, Expressions, Statements, Imports, no_expressions, absent, given, call, raw, print, for_loop, if_condition, with_block, set, set_block, auto_escape, filter_block, block, from_import, extends, macro, continue_loop, break_loop, do_call, no_statements, statements_more, no_imports, imports_more}
use Rattle.template_compiler_tree.specs.Tree as tree
use Rattle.template_values_model.specs.Val.{text}
use Rattle.template_compiler_names.specs.Names.{reversed}
use Rattle.template_compiler_names.specs.Enclosed.{enclosed_names}
use Rattle.template_compiler_walk.specs.Expressions.{Passing, alone, spreads, has_spread, Callee, by_name, by_method, by_block, by_value, callee_of}
use Rattle.template_compiler_walk.specs.Statements.{Printed, prints_value, prints_block, prints_super, prints_rounds, printed_of, imported_names, stored_as, caller_name}
use Rattle.template_compiler_code.specs.Code.{Code, load_const, jump, jump_if_false, iterate, return, call_function, call_method, call_object}
use Rattle.template_compiler_code_shapes.specs.Effects.{aim_of, leans}
use Rattle.template_compiler_codegen.specs.Core.{Core, empty, straight, both, leaping, either, rounds, within, leave, sealed, loading, chosen, aside, Ways, no_ways, own_ways, closing_with, flat}
use Rattle.template_compiler_codegen.specs.Expressions.{one, then_code, skipped, mapped_core, stretches_core, entries_stretches_core, list_count, rest_count, merged_core, map_count, keyword_count, run_core, passed_core, passed_count, called_core, object_core, positional_cores, keyword_cores, expression_core, expressions_core, filters_core}
use Rattle.template_compiler_codegen.specs.Statements.{target_core, assignments_core, iterable_core, loop_end_core, branches_core, printed_core, imports_core, apart_core, parameters_core, enclosed_core, made_of_core, declared_core, statement_core, statements_core, template_code, standalone_code}
use Rattle.template_compiler_codegen.proofs.Standing.{StandsAt, behind_one, instruction_at, behind_then, stands_first, stands_second, first_part, last_part, stands_either, behind_either}
use Rattle.template_compiler_codegen.proofs.Expressions.{behind_skipped}
use Rattle.template_compiler_codegen.proofs.Lengths.{long_core}
use Rattle.template_compiler_generator.proofs.Calm.{is_steady, leads_of, IsCalmCore, PassedCalm, NamedCalm, listed_calm, mapped_calm, stretches_calm, object_calm, positional_calm, keyword_calm, parameters_calm, expression_calm, expressions_calm, filters_calm, target_calm, assignments_calm, iterable_calm}

-- what stands at a place does not lean
abbrev pub Rests : List Code → ℕ → Type 0
Rests code place = leans (slice_get code place) ≡ false

-- nothing leads to what leans
abbrev pub IsCalm : List Code → Type 0
IsCalm code = (place : ℕ) (c : Code) (to : ℕ) → slice_get code place ≡ Some c → aim_of c ≡ Some to → Rests code to

steady_rests : (c : Code) → is_steady c ≡ true → leans (Some c) ≡ false
steady_rests c h = by_test (leans (Some c)) refl h
  where
    by_test : (b : Bool) → leans (Some c) ≡ b → (not b && not (is_some (aim_of c))) ≡ true → leans (Some c) ≡ false
    by_test true e k = let no : false ≡ true = k in absurd (cc)
    by_test false e k = e

steady_stays : (c : Code) → is_steady c ≡ true → aim_of c ≡ None
steady_stays c h = by_test (leans (Some c)) (aim_of c) h
  where
    by_test : (b : Bool) (o : Option ℕ) → (not b && not (is_some o)) ≡ true → o ≡ None
    by_test true o k = let no : false ≡ true = k in absurd (cc)
    by_test false None k = refl
    by_test false (Some to) k = let no : false ≡ true = k in absurd (cc)

leap_rests : (c : Code) (to : ℕ) → leads_of c ≡ Some to → leans (Some c) ≡ false
leap_rests c to h = by_test (leans (Some c)) refl h
  where
    by_test : (b : Bool) → leans (Some c) ≡ b → (if b then None else aim_of c) ≡ Some to → leans (Some c) ≡ false
    by_test true e k = absurd cc
    by_test false e k = e

leap_leads : (c : Code) (to : ℕ) → leads_of c ≡ Some to → aim_of c ≡ Some to
leap_leads c to h = by_test (leans (Some c)) h
  where
    by_test : (b : Bool) → (if b then None else aim_of c) ≡ Some to → aim_of c ≡ Some to
    by_test true k = absurd cc
    by_test false k = k

abbrev AreSteady : List Code → Type 0
AreSteady [] = Unit {0}
AreSteady (c ∷ code) = (is_steady c ≡ true) × AreSteady code

abbrev IsStraight : Core → Type 0
IsStraight (straight c) = Unit {0}
IsStraight _ = ⊥

-- the first instruction of a core does not lean
abbrev Begins : Core → Type 0
Begins empty = Unit {0}
Begins (straight c) = leans (Some c) ≡ false
Begins (both a b) = Begins a × (IsStraight a ⊎ Begins b)
Begins (leaping leap c) = (to : ℕ) → leans (Some (leap to)) ≡ false
Begins (either a b) = Unit {0}
Begins (rounds target body) = Unit {0}
Begins (within close c) = (is_steady close ≡ true) × Begins c
Begins (leave stays) = Unit {0}
Begins (sealed c) = Begins c
Begins (loading o c) = Begins c
Begins (chosen holds a b) = Begins a × Begins b
Begins (aside body rest make) = Unit {0}

-- one instruction, which leads to the next alone
abbrev IsStill : Core → Type 0
IsStill (straight c) = aim_of c ≡ None
IsStill _ = ⊥

-- instructions one behind the other, each of which leads to the next alone
abbrev AreStill : Core → Type 0
AreStill empty = Unit {0}
AreStill (straight c) = aim_of c ≡ None
AreStill (both a b) = AreStill a × AreStill b
AreStill _ = ⊥

abbrev IsEmpty : Core → Type 0
IsEmpty empty = Unit {0}
IsEmpty _ = ⊥

-- the first instruction of a core is its own, and does not lean
abbrev Starts : Core → Type 0
Starts (straight c) = leans (Some c) ≡ false
Starts (both a b) = Starts a ⊎ (IsEmpty a × Starts b)
Starts _ = ⊥

-- no leap of a core leads to what leans: none stands behind a piece that leaps
abbrev IsSafe : Core → Type 0
IsSafe empty = Unit {0}
IsSafe (straight c) = aim_of c ≡ None
IsSafe (both a b) = IsSafe b × (IsStill a ⊎ (IsSafe a × Begins b))
IsSafe (leaping leap c) = ((to : ℕ) → aim_of (leap to) ≡ Some to) × IsSafe c
IsSafe (either a b) = IsSafe a × IsSafe b × Begins b
IsSafe (rounds target body) = IsSafe target × IsSafe body × Begins body
IsSafe (within close c) = (is_steady close ≡ true) × IsSafe c
IsSafe (leave stays) = Unit {0}
IsSafe (sealed c) = IsSafe c
IsSafe (loading o c) = IsSafe c
IsSafe (chosen holds a b) = IsSafe a × IsSafe b
IsSafe (aside body rest make) = IsSafe body × Begins body × AreStill rest × Starts rest × ((to : ℕ) → aim_of (make to) ≡ Some to)

calm_begins : (c : Core) → IsCalmCore c → Begins c
calm_begins empty h = tt
calm_begins (straight c) h = steady_rests c h
calm_begins (both a b) h = (calm_begins a h.0, inr (calm_begins b h.1))
calm_begins (leaping leap c) h = λ to. leap_rests (leap to) to (h.0 to)
calm_begins (either a b) h = tt
calm_begins (rounds target body) h = tt
calm_begins (within close c) h = (h.0, calm_begins c h.1)
calm_begins (leave stays) h = tt
calm_begins (sealed c) h = calm_begins c h
calm_begins (loading o c) h = calm_begins c h
calm_begins (chosen holds a b) h = (calm_begins a h.0, calm_begins b h.1)
calm_begins (aside body rest make) h = absurd h

calm_safe : (c : Core) → IsCalmCore c → IsSafe c
calm_safe empty h = tt
calm_safe (straight c) h = steady_stays c h
calm_safe (both a b) h = (calm_safe b h.1, inr (calm_safe a h.0, calm_begins b h.1))
calm_safe (leaping leap c) h = ((λ to. leap_leads (leap to) to (h.0 to)), calm_safe c h.1)
calm_safe (either a b) h = (calm_safe a h.0, calm_safe b h.1, calm_begins b h.1)
calm_safe (rounds target body) h = (calm_safe target h.0, calm_safe body h.1, calm_begins body h.1)
calm_safe (within close c) h = (h.0, calm_safe c h.1)
calm_safe (leave stays) h = tt
calm_safe (sealed c) h = calm_safe c h
calm_safe (loading o c) h = calm_safe c h
calm_safe (chosen holds a b) h = (calm_safe a h.0, calm_safe b h.1)
calm_safe (aside body rest make) h = absurd h

-- where a piece is left, and its first place
pub record Around (code : List Code) (ways : Ways) : Type 0 where
  closings : AreSteady ways.closings
  first : Rests code 0
  on_break : Rests code ways.break_to
  on_continue : Rests code ways.continue_to

around_none : (code : List Code) → Rests code 0 → Around code no_ways
around_none code first = record { closings = tt; first = first; on_break = first; on_continue = first }

around_more : (code : List Code) (close : Code) (ways : Ways) → is_steady close ≡ true → Around code ways → Around code (closing_with close ways)
around_more code close ways steady r = record { closings = (steady, r.closings); first = r.first; on_break = r.on_break; on_continue = r.on_continue }

rests_there : (code : List Code) (place : ℕ) (c : Code) → slice_get code place ≡ Some c → leans (Some c) ≡ false → Rests code place
rests_there code place c at h = ap (λ o. leans o) at ∙ h

rests_as : (code : List Code) (m n : ℕ) → m ≡ n → Rests code m → Rests code n
rests_as code m n e h = let P : ℕ → Type 0 = λ q. Rests code q in subst P e h

left_rests : (closings : List Code) (to : ℕ) → AreSteady closings → (code : List Code) (place : ℕ) → StandsAt code place (closings ++ (jump to ∷ [])) → Rests code place
left_rests [] to h code place stands = rests_there code place (jump to) (instruction_at code place (jump to) [] stands) refl
left_rests (c ∷ closings) to h code place stands =
    rests_there code place c (instruction_at code place c (closings ++ (jump to ∷ [])) stands) (steady_rests c h.0)

straight_begins : (c : Core) (ways : Ways) → IsStraight c → Begins c → (code : List Code) (place : ℕ) → StandsAt code place (flat ways c place) → Rests code place
straight_begins (straight c) ways one h code place stands = rests_there code place c (instruction_at code place c [] stands) h
straight_begins _ ways one h code place stands = absurd one

-- behind all code nothing leans
rests_past : (code : List Code) (place : ℕ) → length code ≤ place → Rests code place
rests_past code place behind = ap (λ o. leans o) (slice_get_past code place behind)

-- a piece begins with what does not lean, where what follows it does so
begins_at : (c : Core) (ways : Ways) → Begins c → AreSteady ways.closings → (code : List Code) (place : ℕ) → StandsAt code place (flat ways c place)
    → Rests code (place + length (flat ways c place)) → Rests code place
begins_at empty ways h k code place stands end =
    let same : place + length (flat ways empty place) ≡ place = omega arith in rests_as code (place + length (flat ways empty place)) place same end
begins_at (straight c) ways h k code place stands end = rests_there code place c (instruction_at code place c [] stands) h
begins_at (both a b) ways h k code place stands end =
    let f = flat ways a in
    let g = flat ways b in
    let mid = place + length (f place) in
    elim h.1 [
      | inl one ↦ straight_begins a ways one h.0 code place (stands_first code place f g stands)
      | inr later ↦ begins_at a ways h.0 k code place (stands_first code place f g stands)
          (begins_at b ways later k code mid (stands_second code place f g stands)
          (rests_as code (place + length (flat ways (both a b) place)) (mid + length (g mid)) (behind_then f g place) end))
    ]
begins_at (leaping leap c) ways h k code place stands end =
    let inner = flat ways c (suc place) in
    let to = suc place + length inner in
    rests_there code place (leap to) (instruction_at code place (leap to) inner stands) (h to)
begins_at (either a b) ways h k code place stands end =
    let parts = stands_either code place (flat ways a) (flat ways b) stands in
    let begins = suc (suc place + length (flat ways a (suc place))) in
    rests_there code place (jump_if_false begins) (instruction_at code place (jump_if_false begins) parts.test parts.tests) refl
begins_at (rounds target body) ways h k code place stands end =
    let stored = flat no_ways target (suc place) in
    let begins = suc place + length stored in
    let ends_at = suc (begins + length (flat (own_ways 0 0) body begins)) in
    let round = flat (own_ways ends_at place) body begins in
    rests_there code place (iterate ends_at) (instruction_at code place (iterate ends_at) (stored ++ (round ++ (jump place ∷ []))) stands) refl
begins_at (within close c) ways h k code place stands end = begins_at c (closing_with close ways) h.1 (h.0, k) code place stands end
begins_at (leave true) ways h k code place stands end = left_rests ways.closings ways.break_to k code place stands
begins_at (leave false) ways h k code place stands end = left_rests ways.closings ways.continue_to k code place stands
begins_at (sealed c) ways h k code place stands end = begins_at c no_ways h tt code place stands end
begins_at (loading (Some v) c) ways h k code place stands end =
    rests_there code place (load_const v) (instruction_at code place (load_const v) [] stands) refl
begins_at (loading None c) ways h k code place stands end = begins_at c no_ways h tt code place stands end
begins_at (chosen true a b) ways h k code place stands end = begins_at a ways h.0 k code place stands end
begins_at (chosen false a b) ways h k code place stands end = begins_at b ways h.1 k code place stands end
begins_at (aside body rest make) ways h k code place stands end =
    let inside = then_code (flat no_ways body) (one return) in
    let behind = then_code (flat no_ways rest) (one (make (suc place))) in
    let to = suc place + length (inside (suc place)) in
    rests_there code place (jump to) (instruction_at code place (jump to) (inside (suc place)) (stands_first code place (skipped jump inside) behind stands)) refl

-- so it is of what starts by itself
starts_at : (c : Core) (ways : Ways) → Starts c → (code : List Code) (place : ℕ) → StandsAt code place (flat ways c place) → Rests code place
starts_at (straight c) ways h code place stands = rests_there code place c (instruction_at code place c [] stands) h
starts_at (both a b) ways (inl first) code place stands = starts_at a ways first code place (stands_first code place (flat ways a) (flat ways b) stands)
starts_at (both empty b) ways (inr later) code place stands =
    let same : place + length (flat ways empty place) ≡ place = omega arith in
    rests_as code (place + length (flat ways empty place)) place same
    (starts_at b ways later.1 code (place + length (flat ways empty place)) (stands_second code place (flat ways empty) (flat ways b) stands))
starts_at (both a b) ways (inr later) code place stands = absurd later.0
starts_at _ ways h code place stands = absurd h

-- each instruction of a piece leads where something is so
abbrev Aims : (ℕ → Type 0) → List Code → Type 0
Aims ok [] = Unit {0}
Aims ok (c ∷ code) = ((to : ℕ) → aim_of c ≡ Some to → ok to) × Aims ok code

aims_both : (ok : ℕ → Type 0) (code more : List Code) → Aims ok code → Aims ok more → Aims ok (code ++ more)
aims_both ok [] more h k = k
aims_both ok (c ∷ code) more h k = (h.0, aims_both ok code more h.1 k)

aims_everywhere : (ok : ℕ → Type 0) (code : List Code) → Aims ok code → (place : ℕ) (c : Code) (to : ℕ) → slice_get code place ≡ Some c → aim_of c ≡ Some to → ok to
aims_everywhere ok [] h place c to at aim = absurd cc
aims_everywhere ok (d ∷ code) h zero c to at aim =
    let same : d ≡ c = cc in h.0 to (ap (λ x. aim_of x) same ∙ aim)
aims_everywhere ok (d ∷ code) h (suc place) c to at aim = aims_everywhere ok code h.1 place c to at aim

-- an instruction that leads nowhere else, and one that leads to a place
aims_nowhere : (ok : ℕ → Type 0) (c : Code) → aim_of c ≡ None → (to : ℕ) → aim_of c ≡ Some to → ok to
aims_nowhere ok c none to e = absurd cc

aims_there : (ok : ℕ → Type 0) (c : Code) (at : ℕ) → aim_of c ≡ Some at → ok at → (to : ℕ) → aim_of c ≡ Some to → ok to
aims_there ok c at is h to e = let same : at ≡ to = cc in subst ok same h

steady_aims : (ok : ℕ → Type 0) (code : List Code) → AreSteady code → Aims ok code
steady_aims ok [] h = tt
steady_aims ok (c ∷ code) h = (aims_nowhere ok c (steady_stays c h.0), steady_aims ok code h.1)

still_aims : (ok : ℕ → Type 0) (c : Core) (ways : Ways) (place : ℕ) → IsStill c → Aims ok (flat ways c place)
still_aims ok (straight c) ways place h = (aims_nowhere ok c h, tt)
still_aims ok _ ways place h = absurd h

all_still : (ok : ℕ → Type 0) (c : Core) (ways : Ways) (place : ℕ) → AreStill c → Aims ok (flat ways c place)
all_still ok empty ways place h = tt
all_still ok (straight c) ways place h = (aims_nowhere ok c h, tt)
all_still ok (both a b) ways place h =
    aims_both ok (flat ways a place) (flat ways b (place + length (flat ways a place))) (all_still ok a ways place h.0)
    (all_still ok b ways (place + length (flat ways a place)) h.1)
all_still ok _ ways place h = absurd h

-- where a piece stands, nothing of it leads to what leans
aims_core : (c : Core) (ways : Ways) → IsSafe c → (code : List Code) → Around code ways → (place : ℕ) → StandsAt code place (flat ways c place)
    → Rests code (place + length (flat ways c place)) → Aims (Rests code) (flat ways c place)
aims_core empty ways h code r place stands end = tt
aims_core (straight c) ways h code r place stands end = (aims_nowhere (Rests code) c h, tt)
aims_core (both a b) ways h code r place stands end =
    let f = flat ways a in
    let g = flat ways b in
    let mid = place + length (f place) in
    let last = rests_as code (place + length (flat ways (both a b) place)) (mid + length (g mid)) (behind_then f g place) end in
    let stands_mid = stands_second code place f g stands in
    aims_both (Rests code) (f place) (g mid)
    (elim h.1 [
      | inl still ↦ still_aims (Rests code) a ways place still
      | inr safe ↦ aims_core a ways safe.0 code r place (stands_first code place f g stands) (begins_at b ways safe.1 r.closings code mid stands_mid last)
    ])
    (aims_core b ways h.0 code r mid stands_mid last)
aims_core (leaping leap c) ways h code r place stands end =
    let inner = flat ways c in
    let to = suc place + length (inner (suc place)) in
    let there = rests_as code (place + length (flat ways (leaping leap c) place)) to (sym (behind_skipped leap inner place)) end in
    (aims_there (Rests code) (leap to) to (h.0 to) there, aims_core c ways h.1 code r (suc place) (behind_one code place (leap to) (inner (suc place)) stands) there)
aims_core (either a b) ways h code r place stands end =
    let f = flat ways a in
    let g = flat ways b in
    let parts = stands_either code place f g stands in
    let leap_at = suc place + length (f (suc place)) in
    let begins = suc leap_at in
    let behind = begins + length (g begins) in
    let there = rests_as code (place + length (flat ways (either a b) place)) behind (sym (behind_either f g place)) end in
    let second = begins_at b ways h.2 r.closings code begins parts.right there in
    let leap = rests_there code leap_at (jump behind) (instruction_at code leap_at (jump behind) parts.rest parts.leaps) refl in (
      aims_there (Rests code) (jump_if_false begins) begins refl second,
      aims_both (Rests code) (f (suc place)) (jump behind ∷ g begins) (aims_core a ways h.0 code r (suc place) parts.left leap)
          (aims_there (Rests code) (jump behind) behind refl there, aims_core b ways h.1 code r begins parts.right there),
    )
aims_core (rounds target body) ways h code r place stands end =
    let stored = flat no_ways target (suc place) in
    let begins = suc place + length stored in
    let ends_at = suc (begins + length (flat (own_ways 0 0) body begins)) in
    let round = flat (own_ways ends_at place) body begins in
    let jump_at = begins + length round in
    let long : length round ≡ length (flat (own_ways 0 0) body begins) = long_core body (own_ways ends_at place) (own_ways 0 0) refl begins in
    let whole : place + length (flat ways (rounds target body) place) ≡ ends_at = omega (arith, length-append stored (round ++ (jump place ∷ [])), length-append round (jump place ∷ []), long) in
    let there = rests_as code (place + length (flat ways (rounds target body) place)) ends_at whole end in
    let here = rests_there code place (iterate ends_at) (instruction_at code place (iterate ends_at) (stored ++ (round ++ (jump place ∷ []))) stands) refl in
    let inner = behind_one code place (iterate ends_at) (stored ++ (round ++ (jump place ∷ []))) stands in
    let behind_stored = last_part code (suc place) stored (round ++ (jump place ∷ [])) inner in
    let stands_round = first_part code begins round (jump place ∷ []) behind_stored in
    let leap = rests_there code jump_at (jump place) (instruction_at code jump_at (jump place) [] (last_part code begins round (jump place ∷ []) behind_stored)) refl in
    let own : Around code (own_ways ends_at place) = record { closings = tt; first = r.first; on_break = there; on_continue = here } in
    let started = begins_at body (own_ways ends_at place) h.2 tt code begins stands_round leap in (
      aims_there (Rests code) (iterate ends_at) ends_at refl there,
      aims_both (Rests code) stored (round ++ (jump place ∷ []))
          (aims_core target no_ways h.0 code (around_none code r.first) (suc place) (first_part code (suc place) stored (round ++ (jump place ∷ [])) inner) started)
          (aims_both (Rests code) round (jump place ∷ []) (aims_core body (own_ways ends_at place) h.1 code own begins stands_round leap)
          (aims_there (Rests code) (jump place) place refl here, tt)),
    )
aims_core (within close c) ways h code r place stands end = aims_core c (closing_with close ways) h.1 code (around_more code close ways h.0 r) place stands end
aims_core (leave true) ways h code r place stands end =
    aims_both (Rests code) ways.closings (jump ways.break_to ∷ []) (steady_aims (Rests code) ways.closings r.closings)
    (aims_there (Rests code) (jump ways.break_to) ways.break_to refl r.on_break, tt)
aims_core (leave false) ways h code r place stands end =
    aims_both (Rests code) ways.closings (jump ways.continue_to ∷ []) (steady_aims (Rests code) ways.closings r.closings)
    (aims_there (Rests code) (jump ways.continue_to) ways.continue_to refl r.on_continue, tt)
aims_core (sealed c) ways h code r place stands end = aims_core c no_ways h code (around_none code r.first) place stands end
aims_core (loading (Some v) c) ways h code r place stands end = (aims_nowhere (Rests code) (load_const v) refl, tt)
aims_core (loading None c) ways h code r place stands end = aims_core c no_ways h code (around_none code r.first) place stands end
aims_core (chosen true a b) ways h code r place stands end = aims_core a ways h.0 code r place stands end
aims_core (chosen false a b) ways h code r place stands end = aims_core b ways h.1 code r place stands end
aims_core (aside body rest make) ways h code r place stands end =
    let f = flat no_ways body in
    let inside = then_code f (one return) in
    let made = flat no_ways rest in
    let behind = then_code made (one (make (suc place))) in
    let ok = Rests code in
    let to = suc place + length (inside (suc place)) in
    let ends_at = suc place + length (f (suc place)) in
    let past = place + length (skipped jump inside place) in
    let leapt = stands_first code place (skipped jump inside) behind stands in
    let stands_inside = behind_one code place (jump to) (inside (suc place)) leapt in
    let stands_body = stands_first code (suc place) f (one return) stands_inside in
    let ended = rests_there code ends_at return (instruction_at code ends_at return [] (stands_second code (suc place) f (one return) stands_inside)) refl in
    let begins = begins_at body no_ways h.1 tt code (suc place) stands_body ended in
    let there = rests_as code past to (sym (behind_skipped jump inside place))
    (starts_at rest no_ways h.3 code past (stands_first code past made (one (make (suc place))) (stands_second code place (skipped jump inside) behind stands))) in
    aims_both ok (skipped jump inside place) (behind past) (
      aims_there ok (jump to) to refl there,
      aims_both ok (f (suc place)) (return ∷ []) (aims_core body no_ways h.0 code (around_none code r.first) (suc place) stands_body ended) (aims_nowhere ok return refl, tt),
    )
    (aims_both ok (made past) (make (suc place) ∷ []) (all_still ok rest no_ways past h.2)
    (aims_there ok (make (suc place)) (suc place) (h.4 (suc place)) begins, tt))

-- statements
expression_begins : (e : Expression) → Begins (expression_core e)
expression_begins e = calm_begins (expression_core e) (expression_calm e)

expression_safe : (e : Expression) → IsSafe (expression_core e)
expression_safe e = calm_safe (expression_core e) (expression_calm e)

target_begins : (e : Expression) → Begins (target_core e)
target_begins e = calm_begins (target_core e) (target_calm e)

target_safe : (e : Expression) → IsSafe (target_core e)
target_safe e = calm_safe (target_core e) (target_calm e)

printed_begins : (p : Printed) (c : Core) → Begins c → Begins (printed_core p c)
printed_begins prints_value c h = (h, inr refl)
printed_begins (prints_block name) c h = refl
printed_begins prints_super c h = refl
printed_begins (prints_rounds e) c h = (expression_begins e, inr refl)

printed_safe : (p : Printed) (c : Core) → IsSafe c → IsSafe (printed_core p c)
printed_safe prints_value c h = (refl, inr (h, refl))
printed_safe (prints_block name) c h = refl
printed_safe prints_super c h = refl
printed_safe (prints_rounds e) c h = (refl, inr (expression_safe e, refl))

filters_safe : (e : Expression) → IsSafe (filters_core e)
filters_safe e = calm_safe (filters_core e) (filters_calm e)

filters_begin : (e : Expression) → Begins (filters_core e)
filters_begin e = calm_begins (filters_core e) (filters_calm e)

apart_safe : (e : Expression) → IsSafe (apart_core e)
apart_safe e = ((refl, inr (expression_safe e, refl)), inl refl)

imports_begin : (names : Imports) → Begins (imports_core names)
imports_begin no_imports = tt
imports_begin (imports_more e alias more) = (imports_begin more, inr (target_begins (stored_as e alias)))

imports_safe : (names : Imports) → IsSafe (imports_core names)
imports_safe no_imports = tt
imports_safe (imports_more e alias more) = (target_safe (stored_as e alias), inr (imports_safe more, target_begins (stored_as e alias)))

-- pieces one behind the other, each of which begins so, and leads so
abbrev AreFine : Core → Type 0
AreFine c = IsSafe c × Begins c

calm_fine : (c : Core) → IsCalmCore c → AreFine c
calm_fine c h = (calm_safe c h, calm_begins c h)

both_fine : (a b : Core) → AreFine a → AreFine b → AreFine (both a b)
both_fine a b f g = ((g.0, inr (f.0, g.1)), (f.1, inr g.1))

one_fine : (c : Code) → is_steady c ≡ true → AreFine (straight c)
one_fine c h = calm_fine (straight c) h

-- names with their values, of which the last one is whatever is fine
named_fine : (n : ℕ) (named : List (Passing (List ℕ × Core) Core)) (name : List ℕ) (c : Core) → NamedCalm named → AreFine c
    → AreFine (entries_stretches_core n (named ++ alone (name, c) ∷ []))
named_fine n [] name c h f = both_fine (straight (load_const (text name))) (both c empty) (one_fine (load_const (text name)) refl) (both_fine c empty f (tt, tt))
named_fine n (alone x ∷ named) name c h f =
    let rest = entries_stretches_core (suc n) (named ++ alone (name, c) ∷ []) in
    both_fine (straight (load_const (text x.0))) (both x.1 rest) (one_fine (load_const (text x.0)) refl)
    (both_fine x.1 rest (calm_fine x.1 h.0) (named_fine (suc n) named name c h.1 f))
named_fine n (spreads x ∷ named) name c h f =
    let rest = entries_stretches_core 0 (named ++ alone (name, c) ∷ []) in
    both_fine (mapped_core n) (both x rest) (calm_fine (mapped_core n) (mapped_calm n)) (both_fine x rest (calm_fine x h.0) (named_fine 0 named name c h.1 f))

passed_fine : (front : ℕ) (args : List (Passing Core Core)) (named : List (Passing (List ℕ × Core) Core)) → PassedCalm args
    → AreFine (entries_stretches_core 0 named) → AreFine (passed_core front args named)
passed_fine front args named h f =
    let entries = entries_stretches_core 0 named in
    let mapped = mapped_core (rest_count 0 named) in
    let merged = merged_core (has_spread named) (map_count named) in
    let count = rest_count front args + keyword_count named in
    let run = run_core (has_spread args) (list_count front args) count in
    both_fine (stretches_core front args) (both (both entries (both mapped merged)) run) (calm_fine (stretches_core front args) (stretches_calm front args h))
    (both_fine (both entries (both mapped merged)) run
    (both_fine entries (both mapped merged) f (calm_fine (both mapped merged) (mapped_calm (rest_count 0 named), (refl, tt))))
    (calm_fine run ((listed_calm count, refl), tt)))

calling_fine : (callee : Callee) (whole object : Core) (args : List (Passing Core Core)) (named : List (Passing (List ℕ × Core) Core)) → IsCalmCore whole → IsCalmCore object
    → PassedCalm args → AreFine (entries_stretches_core 0 named) → AreFine (called_core callee whole object args named)
calling_fine (by_name name) whole object args named f g h k =
    let act = call_function name (passed_count 0 args named) in
    both_fine (passed_core 0 args named) (straight act) (passed_fine 0 args named h k) (one_fine act refl)
calling_fine (by_method name) whole object args named f g h k =
    let act = call_method name (passed_count 1 args named) in
    let passed = passed_core 1 args named in
    both_fine object (both passed (straight act)) (calm_fine object g) (both_fine passed (straight act) (passed_fine 1 args named h k) (one_fine act refl))
calling_fine (by_block name) whole object args named f g h k = calm_fine (called_core (by_block name) whole object args named) (refl, (refl, refl))
calling_fine by_value whole object args named f g h k =
    let act = call_object (passed_count 1 args named) in
    let passed = passed_core 1 args named in
    both_fine whole (both passed (straight act)) (calm_fine whole f) (both_fine passed (straight act) (passed_fine 1 args named h k) (one_fine act refl))

-- what makes a macro
encloses_still : (names : List (List ℕ)) → AreStill (enclosed_core names)
encloses_still [] = tt
encloses_still (name ∷ names) = (refl, encloses_still names)

made_starts : (arguments : Expressions) (names : List (List ℕ)) → Starts (made_of_core arguments names)
made_starts arguments [] = inr (tt, inl refl)
made_starts arguments (name ∷ names) = inl (inl refl)

declared_fine : (name : List ℕ) (arguments defaults : Expressions) (body : Statements) → AreFine (statements_core body)
    → AreFine (declared_core name arguments defaults body (statements_core body))
declared_fine name arguments defaults body f =
    let parameters = parameters_core (reversed arguments no_expressions) (reversed defaults no_expressions) in
    let names = enclosed_names arguments defaults body in
    let bodied = both_fine parameters (statements_core body)
    (calm_fine parameters (parameters_calm (reversed arguments no_expressions) (reversed defaults no_expressions))) f in
    ((bodied.0, bodied.1, (encloses_still names, (refl, refl)), made_starts arguments names, (λ to. refl)), tt)

-- the ends of loops, and branches, whatever their parts are
loop_end_begins : (ss : Statements) (c : Core) → Begins (loop_end_core ss c)
loop_end_begins ss c = ((refl, inl tt), refl)

loop_end_safe : (ss : Statements) (c : Core) → IsSafe c → IsSafe (loop_end_core ss c)
loop_end_safe ss c h = (((((λ to. refl), h), inl refl), inl refl), refl)

branches_begin : (ss : Statements) (a b : Core) → Begins (branches_core ss a b)
branches_begin ss a b = (tt, (λ to. refl))

branches_safe : (ss : Statements) (a b : Core) → IsSafe a → IsSafe b → Begins b → IsSafe (branches_core ss a b)
branches_safe ss a b first second begins = ((first, second, begins), ((λ to. refl), first))

-- how a call with a macro as its last keyword argument begins, whatever that one leads to
named_begin : (n : ℕ) (named : List (Passing (List ℕ × Core) Core)) (name : List ℕ) (c : Core) → NamedCalm named → Begins c
    → Begins (entries_stretches_core n (named ++ alone (name, c) ∷ []))
named_begin n [] name c h f = (refl, inl tt)
named_begin n (alone x ∷ named) name c h f = (refl, inl tt)
named_begin n (spreads x ∷ named) name c h f =
    (calm_begins (mapped_core n) (mapped_calm n), inr (calm_begins x h.0, inr (named_begin 0 named name c h.1 f)))

passed_begins : (front : ℕ) (args : List (Passing Core Core)) (named : List (Passing (List ℕ × Core) Core)) → PassedCalm args
    → Begins (entries_stretches_core 0 named) → Begins (passed_core front args named)
passed_begins front args named h f =
    let mapped = both (mapped_core (rest_count 0 named)) (merged_core (has_spread named) (map_count named)) in
    let count = rest_count front args + keyword_count named in
    let run = run_core (has_spread args) (list_count front args) count in (
      calm_begins (stretches_core front args) (stretches_calm front args h),
      inr ((f, inr (calm_begins mapped (mapped_calm (rest_count 0 named), (refl, tt)))), inr (calm_begins run ((listed_calm count, refl), tt))),
    )

called_begins : (callee : Callee) (whole object : Core) (args : List (Passing Core Core)) (named : List (Passing (List ℕ × Core) Core)) → IsCalmCore whole → IsCalmCore object
    → PassedCalm args → Begins (entries_stretches_core 0 named) → Begins (called_core callee whole object args named)
called_begins (by_name name) whole object args named f g h k = (passed_begins 0 args named h k, inr refl)
called_begins (by_method name) whole object args named f g h k = (calm_begins object g, inr (passed_begins 1 args named h k, inr refl))
called_begins (by_block name) whole object args named f g h k = (refl, inl tt)
called_begins by_value whole object args named f g h k = (calm_begins whole f, inr (passed_begins 1 args named h k, inr refl))

mutual
  statement_begins : (st : Statement) → Begins (statement_core st)
  statement_begins (raw written) = refl
  statement_begins (print e) = printed_begins (printed_of e) (expression_core e) (expression_begins e)
  statement_begins (for_loop target e condition recursive body otherwise) =
      (calm_begins (iterable_core target e condition) (iterable_calm target e condition), inr (refl, inl tt))
  statement_begins (if_condition e body otherwise) = (expression_begins e, inr (branches_begin otherwise (statements_core body) (statements_core otherwise)))
  statement_begins (with_block _ body) = (refl, inl tt)
  statement_begins (set target e) = (expression_begins e, inr (target_begins target))
  statement_begins (set_block target absent body) = (refl, inl tt)
  statement_begins (set_block target (given filters) body) = (refl, inl tt)
  statement_begins (auto_escape e body) = (expression_begins e, inr (refl, inl tt))
  statement_begins (filter_block filters body) = (refl, inl tt)
  statement_begins (block name required body) = refl
  statement_begins (tree.import e target) = (refl, inl tt)
  statement_begins (from_import e names) = (refl, inl tt)
  statement_begins (extends e) = (expression_begins e, inr refl)
  statement_begins (tree.include e ignore_missing) = (expression_begins e, inr refl)
  statement_begins (macro name arguments defaults body) = (tt, inr refl)
  statement_begins (tree.call_block callee passed arguments defaults body) =
      let caller = declared_core caller_name arguments defaults body (statements_core body) in (
        called_begins (callee_of callee passed) (expression_core callee) (object_core callee) (positional_cores passed) (keyword_cores passed ++ alone (caller_name, caller) ∷ [])
            (expression_calm callee) (object_calm callee) (positional_calm passed) (named_begin 0 (keyword_cores passed) caller_name caller (keyword_calm passed) tt),
        inr refl,
      )
  statement_begins (do_call callee args) = (expression_begins (call callee args), inr refl)
  statement_begins continue_loop = tt
  statement_begins break_loop = tt
  statement_begins _ = tt

  statements_begin : (sts : Statements) → Begins (statements_core sts)
  statements_begin no_statements = tt
  statements_begin (statements_more st sts) = (statement_begins st, inr (statements_begin sts))

mutual
  statement_safe : (st : Statement) → IsSafe (statement_core st)
  statement_safe (raw written) = refl
  statement_safe (print e) = printed_safe (printed_of e) (expression_core e) (expression_safe e)
  statement_safe (for_loop target e condition recursive body otherwise) =
      let other = statements_core otherwise in (
        ((loop_end_safe otherwise other (statements_safe otherwise), inr ((target_safe target, statements_safe body, statements_begin body), loop_end_begins otherwise other)), inl refl),
        inr (calm_safe (iterable_core target e condition) (iterable_calm target e condition), (refl, inl tt)),
      )
  statement_safe (if_condition e body otherwise) =
      let a = statements_core body in
      let b = statements_core otherwise in
      (branches_safe otherwise a b (statements_safe body) (statements_safe otherwise) (statements_begin otherwise), inr (expression_safe e, branches_begin otherwise a b))
  statement_safe (with_block assignments body) =
      let core = assignments_core assignments in
      (((refl, inr ((refl, statements_safe body), refl)), inr (calm_safe core (assignments_calm assignments), ((refl, statements_begin body), inr refl))), inl refl)
  statement_safe (set target e) = (target_safe target, inr (expression_safe e, target_begins target))
  statement_safe (set_block target absent body) = (((target_safe target, inl refl), inr ((refl, (refl, statements_safe body)), (refl, inl tt))), inl refl)
  statement_safe (set_block target (given filters) body) =
      ((((target_safe target, inr (filters_safe filters, target_begins target)), inl refl), inr ((refl, (refl, statements_safe body)), (refl, inl tt))), inl refl)
  statement_safe (auto_escape e body) =
      (((refl, inr ((refl, statements_safe body), refl)), inl refl), inr (expression_safe e, (refl, inl tt)))
  statement_safe (filter_block filters body) =
      ((((refl, inr (filters_safe filters, refl)), inl refl), inr ((refl, (refl, statements_safe body)), (refl, inl tt))), inl refl)
  statement_safe (block name required body) = refl
  statement_safe (tree.import e target) =
      (((((target_safe target, inl refl), inl refl), inl refl), inr (apart_safe e, (refl, inl tt))), inl refl)
  statement_safe (from_import e names) =
      let core = expressions_core (imported_names names) in
      let calm = expressions_calm (imported_names names) in
      ((((((refl, inl refl), inr (imports_safe names, (refl, inl tt))), inl refl), inr (calm_safe core calm, (refl, inl tt))), inr (apart_safe e, (calm_begins core calm, inr (refl, inl tt)))), inl refl)
  statement_safe (extends e) = (refl, inr (expression_safe e, refl))
  statement_safe (tree.include e ignore_missing) = (refl, inr (expression_safe e, refl))
  statement_safe (macro name arguments defaults body) =
      (refl, inr ((declared_fine name arguments defaults body (statements_safe body, statements_begin body)).0, refl))
  statement_safe (tree.call_block callee passed arguments defaults body) =
      let caller = declared_core caller_name arguments defaults body (statements_core body) in
      let named = named_fine 0 (keyword_cores passed) caller_name caller (keyword_calm passed) (declared_fine caller_name arguments defaults body (statements_safe body, statements_begin body)) in
      let called = calling_fine (callee_of callee passed) (expression_core callee) (object_core callee) (positional_cores passed) (keyword_cores passed ++ alone (caller_name, caller) ∷ [])
      (expression_calm callee) (object_calm callee) (positional_calm passed) named in
      (refl, inr (called.0, refl))
  statement_safe (do_call callee args) = (refl, inr (expression_safe (call callee args), refl))
  statement_safe continue_loop = tt
  statement_safe break_loop = tt
  statement_safe _ = tt

  statements_safe : (sts : Statements) → IsSafe (statements_core sts)
  statements_safe no_statements = tt
  statements_safe (statements_more st sts) = (statements_safe sts, inr (statement_safe st, statements_begin sts))

-- whole code, from its first place on
stands_whole : (code : List Code) → StandsAt code 0 code
stands_whole code = record { front = []; back = []; is = sym (append-nil code); at = refl }

calm_whole : (c : Core) → IsSafe c → Begins c → IsCalm (flat no_ways c 0)
calm_whole c safe begins =
    let code = flat no_ways c 0 in
    let end = rests_past code (0 + length code) (omega arith) in
    let first = begins_at c no_ways begins tt code 0 (stands_whole code) end in
    aims_everywhere (Rests code) code (aims_core c no_ways safe code (around_none code first) 0 (stands_whole code) end)

pub template_calm : (tree : Statements) → IsCalm (template_code tree)
template_calm tree = calm_whole (statements_core tree) (statements_safe tree) (statements_begin tree)

pub expression_calm_whole : (e : Expression) → IsCalm (standalone_code e)
expression_calm_whole e = calm_whole (expression_core e) (expression_safe e) (expression_begins e)
