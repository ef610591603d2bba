-- All streams that run in a state are verified, with one that is handed in.
use Rattle.std.proofs.Common.{◌≡◌, ℕ, suc, ◌<◌, ◌==◌, bytes_eq, Bool, true, false, if◌then◌else◌, List, [], ◌∷◌, map, Option, None, Some, refl, subst, arith}
use Rattle.std.specs.List.{All}
use Rattle.std.specs.Option.{option_and_then, option_map}
use Rattle.std.specs.Prelude.{nat_lt}
use Rattle.std.proofs.lemmas.Bool.{eqb-true, lt-ltb}
use Rattle.std.proofs.lemmas.List.Elements.{All-head, All-tail}
use Rattle.template_compiler_walk.specs.Blocks.{Block, blocks_in}
use Rattle.template_compiler_walk.specs.Runnable.{IsRunnableTemplate}
use Rattle.template_compiler_code.specs.Code.{Code}
use Rattle.template_compiler_code.specs.Streams.{BlockStream, stream_among}
use Rattle.template_compiler_code_shapes.specs.Streams.{IsGood}
use Rattle.template_compiler_code_shapes.specs.declared.StreamKind.{StreamKind}
use Rattle.template_compiler_code_shapes.specs.declared.StreamKind.TheVariants.{Template}
use Rattle.template_compiler_names_needed.proofs.Runnable.{RunsByItself, blocks_run}
use Rattle.template_compiler_generator.specs.Acceptance.{TemplatesAreAccepted}
use Rattle.template_machine_meaning.specs.Keys as keys
use Rattle.template_machine_meaning.specs.Keys.{own, block_of}
use Rattle.template_machine_renders.specs.Programs as units
use Rattle.template_machine_codes.specs.StreamLaws.{AreAllVerified}
use Rattle.template_machine_codes.specs.Streams.{Codes, IsVerified}
use Rattle.template_compiled.specs.Compiled.{Compiled}
use Rattle.template_compiled.specs.Sources.{tree_in}
use Rattle.template_compiled.specs.Standing.{compiled_at}
use Rattle.template_compiled.specs.Streams.{stream_of}
use Rattle.template_compiled.proofs.Trees.{tree_runs}
use Rattle.template_compiled.proofs.Good.{tree_is_good}
use Rattle.template_machine_environment.specs.Standing.{unit_of}
use Rattle.template_machine_environment.specs.declared.registry.Registry.{Registry}
use Rattle.template_machine_environment_streams.specs.Held.{codes_at}

-- what is in an option is the same
same_code : (code other : List Code) → Some code ≡ Some other → code ≡ other
same_code code other is = cc

no_code : {X : Type 0} (code : List Code) → None ≡ Some code → X
no_code code is = absurd (cc)

module _ (accepted : TemplatesAreAccepted) where
  -- the code of a template, and those of its blocks, are good
  template_good : (o : Option Compiled) (code : List Code) → option_map (λ (u : units.Standing). u.code) (option_map unit_of o) ≡ Some code → IsGood Template code
  template_good None code is = no_code code is
  template_good (Some c) code is = subst (IsGood Template) (same_code _ code is) (tree_is_good accepted (tree_in c.source) (tree_runs c.source))

  abbrev IsGoodAmong : List BlockStream → List ℕ → Type 0
  IsGoodAmong bs name = (code : List Code) → option_map (λ (b : BlockStream). b.code) (stream_among name bs) ≡ Some code → IsGood Template code

  either_good : (b : Block) (later : Option BlockStream) → IsRunnableTemplate b.body
      → ((code : List Code) → option_map (λ (b : BlockStream). b.code) later ≡ Some code → IsGood Template code) → (found : Bool)
      → (code : List Code) → option_map (λ (b : BlockStream). b.code) (if found then Some (stream_of b) else later) ≡ Some code → IsGood Template code
  either_good b later runs good true code is = subst (IsGood Template) (same_code _ code is) (tree_is_good accepted b.body runs)
  either_good b later runs good false code is = good code is

  among_good : (name : List ℕ) (bs : List Block) → All RunsByItself bs → IsGoodAmong (map stream_of bs) name
  among_good name [] run code is = no_code code is
  among_good name (b ∷ bs) run code is =
      either_good b (stream_among name (map stream_of bs)) (All-head RunsByItself b bs run) (among_good name bs (All-tail RunsByItself b bs run)) (bytes_eq b.name name) code is

  block_good : (name : List ℕ) (o : Option Compiled) (code : List Code)
      → option_map (λ (b : BlockStream). b.code) (option_and_then (units.stream_at name) (option_map unit_of o)) ≡ Some code → IsGood Template code
  block_good name None code is = no_code code is
  block_good name (Some c) code is = among_good name (blocks_in (tree_in c.source)) (blocks_run false (tree_in c.source) (tree_runs c.source)) code is

  as_template : (code : List Code) → IsGood Template code → IsVerified code
  as_template code good = record { kind = Template; good = good }

  -- so are all streams that there are, where none is handed in
  module _ (e : Registry) (root : Option Compiled) (numbers : ℕ) where
    pub alone_verified : AreAllVerified (codes_at e root None numbers)
    alone_verified (own keys.rendered) code is = (refl, as_template code (template_good root code is))
    alone_verified (own (keys.standing name)) code is = (refl, as_template code (template_good (compiled_at e.templates name) code is))
    alone_verified (own (keys.kept other)) code is = no_code code is
    alone_verified (block_of keys.rendered name) code is = (refl, as_template code (block_good name root code is))
    alone_verified (block_of (keys.standing other) name) code is = (refl, as_template code (block_good name (compiled_at e.templates other) code is))
    alone_verified (block_of (keys.kept other) name) code is = no_code code is

  -- and with a good one that is
  module _ (e : Registry) (root : Option Compiled) (number : ℕ) (kind : StreamKind) (handed : List Code) (good : IsGood kind handed) where
    abbrev codes : Codes
    codes = codes_at e root (Some (number, handed)) (suc number)

    kept_good : (code : List Code) (other : ℕ) (b : Bool) → (number == other) ≡ b → (if b then Some handed else None) ≡ Some code
        → (nat_lt other (suc number) ≡ true) × IsVerified code
    kept_good code other true same is =
        let one : number ≡ other = eqb-true number other same in
        let less : other < suc number = omega (arith, one) in
        (lt-ltb other (suc number) less, subst IsVerified (same_code handed code is) (record { kind = kind; good = good }))
    kept_good code other false same is = no_code code is

    pub all_verified : AreAllVerified codes
    all_verified (own keys.rendered) code is = (refl, as_template code (template_good root code is))
    all_verified (own (keys.standing name)) code is = (refl, as_template code (template_good (compiled_at e.templates name) code is))
    all_verified (own (keys.kept other)) code is = kept_good code other (number == other) refl is
    all_verified (block_of keys.rendered name) code is = (refl, as_template code (block_good name root code is))
    all_verified (block_of (keys.standing other) name) code is = (refl, as_template code (block_good name (compiled_at e.templates other) code is))
    all_verified (block_of (keys.kept other) name) code is = no_code code is
