-- The run of a key, a stream after another, each in the place of the one that extends it.
use Rattle.std.proofs.Common.{◌≡◌, ℕ, List, [], ◌∷◌, Option, None, Some, option_map, Result, Ok, Err, IsErrAnd, sym, ap, subst}
use Rattle.template_values_errors.specs.declared.ErrorKind.{ErrorKind}
use Rattle.template_values_errors.specs.declared.ErrorKind.TheVariants.{TemplateNotFound}
use Rattle.template_values_errors.specs.Memory.{NoMemory}
use Rattle.template_callables.specs.Callables.{Callables}
use Rattle.template_callables.specs.Joins.{Joins}
use Rattle.template_compiler_code.specs.Code.{Operand, Code}
use Rattle.template_compiler_code.specs.Steps.{values_in}
use Rattle.template_machine_meaning.specs.World.{World}
use Rattle.template_machine_meaning.specs.Keys as keys
use Rattle.template_machine_meaning.specs.Keys.{Stream, own, Key, whole_of}
use Rattle.template_machine_meaning.specs.Plans.{restarted}
use Rattle.template_machine_meaning.specs.Surroundings.{Programs, answer}
use Rattle.template_machine_going.specs.Outcomes.{Stops}
use Rattle.template_machine_going.specs.declared.stop.Stop.{Stop}
use Rattle.template_machine_going.specs.declared.stop.Stop.TheVariants.{Fault, Want}
use Rattle.template_machine_steps.specs.Performs.{spot}
use Rattle.template_machine_calls.specs.declared.rules.Rules.{Rules}
use Rattle.template_machine_loop.specs.Programs.{Standing, programs_under, code_at, Roots}
use Rattle.template_machine_loop.specs.Runs.{EndsOver, KeyRuns}
use Rattle.template_machine_loop.proofs.Streams.{stream_stops}
use Rattle.template_machine_loop.proofs.Restarts.{Reaches, reaches_itself, breaks_there, lacks_behind, over_there, lost_there, restarts_there}
use Rattle.template_machine_loop.proofs.Within.{runs_code, keyed, unkeyed}

module _ (standing : List ℕ → Option Standing) (joins : Joins) (callables : Callables) (roots : Roots) (rules : Rules) where
  abbrev s : Programs
  s = programs_under standing joins callables roots rules

  -- how far the run of a key has come: to the start of this code, from this world on
  abbrev pub ComesTo : Key → World → Option ℕ → Option (List ℕ) → List Code → World → Option ℕ → Option (List ℕ) → Type 0
  ComesTo key w left taken code v mid reached = (later : Stream) × (code_at standing roots later ≡ Some code) × Reaches s key w left taken (whole_of later) v mid reached

  pub comes_itself : (here : Stream) (code : List Code) (w : World) (left : Option ℕ) (taken : Option (List ℕ)) → code_at standing roots here ≡ Some code
      → ComesTo (whole_of here) w left taken code w left taken
  comes_itself here code w left taken at = (here, at, reaches_itself s (whole_of here) w left taken)

  -- the run of a key has come to the end of a stream, with this world
  pub record HasEnded (key : Key) (w : World) (left : Option ℕ) (taken : Option (List ℕ)) (after : World) (rest : Option ℕ) (written : Option (List ℕ)) : Type 0 where
    pub code : List Code
    pub world : World
    pub mid : Option ℕ
    pub reached : Option (List ℕ)
    pub come : ComesTo key w left taken code world mid reached
    pub operands : List Operand
    pub ends : EndsOver (answer s) code (spot 0 [] world mid reached) operands after rest written

  module _ (key : Key) (w : World) (left : Option ℕ) (taken : Option (List ℕ)) (code : List Code) (v : World) (mid : Option ℕ) (reached : Option (List ℕ))
      (come : ComesTo key w left taken code v mid reached) where
    -- the code stops
    pub key_stops : {X : Type 0} (stop : Stop) (result : Result X Stop) (after : World) (rest : Option ℕ) (written : Option (List ℕ))
        → Stops (answer s) code (spot 0 [] v mid reached) (spot 0 [] after rest written) stop → IsErrAnd result (λ told. told ≡ stop)
        → KeyRuns s key w left taken result after rest written
    key_stops stop (Ok x) after rest written h is = absurd is
    key_stops {X} stop (Err told) after rest written h is =
        subst (λ t. KeyRuns {X = X} s key w left taken (Err t) after rest written) (sym is)
        (breaks_there s key w left taken (whole_of come.0) v mid reached come.2 stop after rest written
        (stream_stops s (whole_of come.0) code (runs_code standing joins callables roots rules come.0 code come.1) v mid rest reached written stop after h))

    -- it comes to its end
    module _ (operands : List Operand) (after : World) (rest : Option ℕ) (written : Option (List ℕ)) (h : EndsOver (answer s) code (spot 0 [] v mid reached) operands after rest written) where
      pub key_ends : {X : Type 0} (x : X) → after.parent ≡ None → KeyRuns s key w left taken (Ok x) after rest written
      key_ends x alone =
          over_there s key w left taken (whole_of come.0) v mid reached come.2 code (runs_code standing joins callables roots rules come.0 code come.1) (values_in operands) after rest written
          h.items h.least h.bound h.is h.pays h.text alone

      pub key_lacks : (X : Type 0) (kinds : List ErrorKind) → NoMemory kinds → KeyRuns {X = X} s key w left taken (Err (Want kinds)) after rest written
      key_lacks X kinds why =
          lacks_behind s key w left taken (whole_of come.0) v mid reached come.2 code (runs_code standing joins callables roots rules come.0 code come.1) (values_in operands) after rest written
          h.items h.least h.bound h.is h.pays h.text kinds why

      pub key_lost : (X : Type 0) (name : List ℕ) (kinds : List ErrorKind) (then : World) → after.parent ≡ Some name → standing name ≡ None → kinds ≡ TemplateNotFound ∷ [] → then ≡ restarted name after
          → KeyRuns {X = X} s key w left taken (Err (Fault kinds)) then rest written
      key_lost X name kinds then extends none is same =
          subst (λ ks. KeyRuns {X = X} s key w left taken (Err (Fault ks)) then rest written) (sym is)
          (subst (λ (v : World). KeyRuns {X = X} s key w left taken (Err (Fault (TemplateNotFound ∷ []))) v rest written) (sym same)
          (lost_there s key w left taken (whole_of come.0) v mid reached come.2 code (runs_code standing joins callables roots rules come.0 code come.1) (values_in operands) after rest written
          h.items h.least h.bound h.is h.pays h.text name extends
          (unkeyed standing joins callables roots rules (own (keys.standing name)) (ap (option_map (λ (t : Standing). t.code)) none))))

      pub key_restarts : (name : List ℕ) (t : Standing) (then : World) → after.parent ≡ Some name → standing name ≡ Some t → then ≡ restarted name after
          → ComesTo key w left taken t.code then rest written
      key_restarts name t then extends there same =
          let next : Stream = own (keys.standing name) in
          let at : code_at standing roots next ≡ Some t.code = ap (option_map (λ (u : Standing). u.code)) there in (
            next,
            at,
            subst (λ u. Reaches s key w left taken (whole_of next) u rest written) (sym same)
                (restarts_there s key w left taken (whole_of come.0) v mid reached come.2 code (runs_code standing joins callables roots rules come.0 code come.1) (values_in operands) after rest written
                h.items h.least h.bound h.is h.pays h.text name extends (keyed standing joins callables roots rules next t.code at)),
          )
