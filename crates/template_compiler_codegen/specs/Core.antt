-- A core: a structured program between a tree and its code, and the flat code that it is laid out as.
use Rattle.std.specs.Prelude.{ℕ, ◌+◌, suc, Bool, true, false, List, [], ◌∷◌, ◌++◌, length, Option, None, Some}
use Rattle.template_values_model.specs.Val.{Val}
use Rattle.template_compiler_code.specs.Code.{Code, load_const, jump, jump_if_false, iterate, return}

-- code that begins at any place
abbrev pub Coded : Type 0
Coded = ℕ → List Code

-- one piece of code, and another behind it
abbrev pub then_code : Coded → Coded → Coded
then_code first second place = let code = first place in code ++ second (place + length code)

-- one instruction
abbrev pub one : Code → Coded
one c place = c ∷ []

abbrev pub nothing : Coded
nothing place = []

-- a constant is loaded; what is none has its own code
abbrev pub loaded : Option Val → Coded → Coded
loaded (Some v) code = one (load_const v)
loaded None code = code

-- a piece of code behind an instruction that may lead past it
abbrev pub skipped : (ℕ → Code) → Coded → Coded
skipped leap code place = let inner = code (suc place) in leap (suc place + length inner) ∷ inner

-- two pieces of code of which the one or the other runs: a jump leads past the second
abbrev pub either_code : Coded → Coded → Coded
either_code first second place =
    let yes_code = first (suc place) in
    let begins = suc (suc place + length yes_code) in
    let other = second begins in
    jump_if_false begins ∷ (yes_code ++ (jump (begins + length other) ∷ other))

-- where `break` and `continue` lead, and what they close on the way, the innermost first
pub record Ways : Type 0 where
  pub closings : List Code
  pub break_to : ℕ
  pub continue_to : ℕ

-- outside of loops
abbrev pub no_ways : Ways
no_ways = record { closings = []; break_to = 0; continue_to = 0 }

-- a loop's own
abbrev pub own_ways : ℕ → ℕ → Ways
own_ways break_to continue_to = record { closings = []; break_to = break_to; continue_to = continue_to }

-- one more thing is open
abbrev pub closing_with : Code → Ways → Ways
closing_with close ways = record ways { closings = close ∷ ways.closings }

-- a loop from its frame on: the asking, the target, the body, the way back; `body` is told where the loop ends and where
-- it asks
abbrev pub rounds_code : Coded → (ℕ → ℕ → Coded) → Coded
rounds_code target body place =
    let stored = target (suc place) in
    let begins = suc place + length stored in
    let ends_at = suc (begins + length (body 0 0 begins)) in
    iterate ends_at ∷ (stored ++ (body ends_at place begins ++ (jump place ∷ [])))

-- a body that runs elsewhere, which ends by itself and is leapt over; another piece; and an instruction that is told where the
-- body begins
abbrev pub aside_code : Coded → Coded → (ℕ → Code) → Coded
aside_code body rest make place = then_code (skipped jump (then_code body (one return))) (then_code rest (one (make (suc place)))) place

abbrev pub left_by : List Code → ℕ → Coded
left_by closings to place = closings ++ (jump to ∷ [])

-- the piece that is told by the choice
abbrev pub choose : Bool → Coded → Coded → Coded
choose true first second = first
choose false first second = second

-- what looks at a part of the tree (whether a constant is loaded, whether an else part follows) is a form of its own, so
-- that the code of a construct is the same whatever its parts are
pub data Core : Type 0 where
  empty : Core
  straight : Code → Core  -- an instruction that leads nowhere
  both : Core → Core → Core  -- the one, and the other behind it
  leaping : (ℕ → Code) → Core → Core  -- behind an instruction that may lead past it
  either : Core → Core → Core  -- the one or the other, by the value on top
  rounds : Core → Core → Core  -- of a loop, from its frame on: the target, the body
  within : Code → Core → Core  -- what leaves the piece does this first
  leave : Bool → Core  -- the loop: for good, or for its next item
  sealed : Core → Core  -- nothing in it leaves the loop
  loading : Option Val → Core → Core  -- a constant is loaded; what is none has its own code
  chosen : Bool → Core → Core → Core  -- the one where it is so, else the other
  aside : Core → Core → (ℕ → Code) → Core  -- a body that runs elsewhere; then a piece, and what is told where the body begins

-- the code of a core from any place on, and where it is left
abbrev pub flat : Ways → Core → Coded
flat ways empty = nothing
flat ways (straight c) = one c
flat ways (both a b) = then_code (flat ways a) (flat ways b)
flat ways (leaping leap c) = skipped leap (flat ways c)
flat ways (either a b) = either_code (flat ways a) (flat ways b)
flat ways (rounds target body) = rounds_code (flat no_ways target) (λ break_to continue_to. flat (own_ways break_to continue_to) body)
flat ways (within close c) = flat (closing_with close ways) c
flat ways (leave true) = left_by ways.closings ways.break_to
flat ways (leave false) = left_by ways.closings ways.continue_to
flat ways (sealed c) = flat no_ways c
flat ways (loading o c) = loaded o (flat no_ways c)
flat ways (chosen holds a b) = choose holds (flat ways a) (flat ways b)
flat ways (aside body rest make) = aside_code (flat no_ways body) (flat no_ways rest) make
