-- What was reached of some streams is reached where one is handed in that has not been known, and where one is there no more.
use Rattle.std.proofs.Common.{◌≡◌, ℕ, suc, ◌<◌, ◌==◌, Bool, true, false, if◌then◌else◌, List, Option, None, Some, refl, arith}
use Rattle.std.specs.Prelude.{All, nat_lt}
use Rattle.std.proofs.lemmas.Bool.{eqb-true, lt-ltb, ltb-true}
use Rattle.template_compiler_code.specs.Code.{Code}
use Rattle.template_machine_meaning.specs.Keys as keys
use Rattle.template_machine_meaning.specs.Keys.{Home, Stream, own, block_of}
use Rattle.template_machine_meaning.specs.Records.{all_loops}
use Rattle.template_machine_meaning.specs.World.{Loop, Macro, World}
use Rattle.template_machine_codes.specs.Streams.{AreRoundsReached, Codes, IsBodyReached, IsLoopReached, IsSound}
use Rattle.template_compiled.specs.Compiled.{Compiled}
use Rattle.template_machine_environment.specs.declared.registry.Registry.{Registry}
use Rattle.template_machine_environment_streams.specs.Held.{codes_at, is_known, is_known_home}

-- where all that is known stays so, and known streams have what code they had, if they have any
module _ (codes others : Codes) (known : (stream : Stream) → codes.known stream ≡ true → others.known stream ≡ true)
    (code : (stream : Stream) → codes.known stream ≡ true → (code : List Code) → others.code stream ≡ Some code → codes.code stream ≡ Some code) where
  body_stays : (stream : Stream) (number : ℕ) → IsBodyReached codes stream number → IsBodyReached others stream number
  body_stays stream number h = (known stream h.0, λ c is. h.1 c (code stream h.0 c is))

  rounds_stay : (stream : Stream) (number : ℕ) → AreRoundsReached codes stream number → AreRoundsReached others stream number
  rounds_stay stream number h = (known stream h.0, λ c is. h.1 c (code stream h.0 c is))

  loop_stays : (o : Option Loop) → IsLoopReached codes o → IsLoopReached others o
  loop_stays None h = tt
  loop_stays (Some l) h = λ r is. rounds_stay r.stream r.number (h r is)

  all_stay : {X : Type 0} (P Q : X → Type 0) → ((x : X) → P x → Q x) → (xs : List X) → All P xs → All Q xs
  all_stay P Q so xs h k d less = so _ (h k d less)

  pub sound_stays : (w : World) → IsSound codes w → IsSound others w
  sound_stays w h = record {
    macros = all_stay (λ (m : Macro). IsBodyReached codes m.stream m.number) (λ (m : Macro). IsBodyReached others m.stream m.number) (λ m. body_stays m.stream m.number) w.macros h.macros;
    loops = all_stay (IsLoopReached codes) (IsLoopReached others) loop_stays (all_loops w) h.loops;
  }

later_home : (numbers : ℕ) (home : Home) → is_known_home numbers home ≡ true → is_known_home (suc numbers) home ≡ true
later_home numbers keys.rendered is = refl
later_home numbers (keys.standing name) is = refl
later_home numbers (keys.kept number) is =
    let less : number < numbers = ltb-true number numbers is in
    let later : number < suc numbers = omega (arith, less) in
    lt-ltb number (suc numbers) later

later_known : (numbers : ℕ) (stream : Stream) → is_known numbers stream ≡ true → is_known (suc numbers) stream ≡ true
later_known numbers (own home) is = later_home numbers home is
later_known numbers (block_of home name) is = later_home numbers home is

module _ (e : Registry) (root : Option Compiled) (number : ℕ) (handed : List Code) where
  abbrev alone : Codes
  alone = codes_at e root None number

  abbrev with_it : Codes
  with_it = codes_at e root (Some (number, handed)) (suc number)

  abbrev behind : Codes
  behind = codes_at e root None (suc number)

  not_it : {X : Type 0} (other : ℕ) (b : Bool) → (number == other) ≡ b → nat_lt other number ≡ true → (code : List Code) → (if b then Some handed else None) ≡ Some code → X
  not_it other true same less code is =
      let one : number ≡ other = eqb-true number other same in
      let before : other < number = ltb-true other number less in
      absurd (omega (arith, one, before))
  not_it other false same less code is = absurd (cc)

  had_code : (stream : Stream) → alone.known stream ≡ true → (code : List Code) → with_it.code stream ≡ Some code → alone.code stream ≡ Some code
  had_code (own keys.rendered) known code is = is
  had_code (own (keys.standing name)) known code is = is
  had_code (own (keys.kept other)) known code is = not_it other (number == other) refl known code is
  had_code (block_of keys.rendered name) known code is = is
  had_code (block_of (keys.standing other) name) known code is = is
  had_code (block_of (keys.kept other) name) known code is = is

  pub sound_with : (w : World) → IsSound alone w → IsSound with_it w
  sound_with = sound_stays alone with_it (later_known number) had_code

  has_code : (stream : Stream) → with_it.known stream ≡ true → (code : List Code) → behind.code stream ≡ Some code → with_it.code stream ≡ Some code
  has_code (own keys.rendered) known code is = is
  has_code (own (keys.standing name)) known code is = is
  has_code (own (keys.kept other)) known code is = absurd (cc)
  has_code (block_of keys.rendered name) known code is = is
  has_code (block_of (keys.standing other) name) known code is = is
  has_code (block_of (keys.kept other) name) known code is = is

  pub sound_behind : (w : World) → IsSound with_it w → IsSound behind w
  sound_behind = sound_stays with_it behind (λ stream known. known) has_code
