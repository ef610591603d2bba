-- Shapes of which nothing lies below the floor of the innermost recursive loop, in code of which no instruction leads to one
-- that leans on the one before it, and the effects of instructions on them.
use Rattle.std.proofs.Common.{◌≡◌, ℕ, zero, suc, ◌+◌, ◌<◌, ◌≤◌, Bool, true, false, cond, List, ◌++◌, length, replicate, Option, None, Some, slice_get, refl, sym, ap, ◌∙◌, append_assoc, length-append, arith}
use Rattle.std.specs.Prelude.{not, nat_lt, nat_le, option_map, option_and_then, ◌&&◌}
use Rattle.std.proofs.lemmas.Bool.{lt-ltb, le-ltb, le-leb, eq-eqb, and_from}
use Rattle.std.proofs.lemmas.List.{replicate-append-replicate}
use Rattle.template_compiler_code.specs.Code.{Code, iterate}
use Rattle.template_compiler_code_shapes.specs.declared.outline.Opened.{Opened}
use Rattle.template_compiler_code_shapes.specs.declared.outline.Opened.TheVariants.{Loop as loop_frame, Recursive as recursive_frame}
use Rattle.template_compiler_code_shapes.specs.Shapes.{Form, single_form, Shape, floor_of, below_values, lowered, taken, given, topped, opened, loop_closed, with_escape, escape_closed, with_capture, capture_closed, innermost_loop}
use Rattle.template_compiler_code.specs.Loops.{is_iterate_past}
use Rattle.template_compiler_code_shapes.specs.Effects.{falling, traded, is_behind, aim_of, leans, may_lead, may_jump, jumping, may_iterate}
use Rattle.template_compiler_generator.proofs.Aims.{IsCalm}

-- what the innermost recursive loop found lies there still
abbrev pub Sits : Shape → Type 0
Sits s =
    ((floor_of s.frames).operands ≤ length s.operands) × ((floor_of s.frames).escapes ≤ s.escapes) × ((floor_of s.frames).captures ≤ s.captures)

-- and no instruction leads to one that leans on the one before it
abbrev pub IsPlain : List Code → Shape → Type 0
IsPlain code s = Sits s × IsCalm code

-- with more on top, and with more that is open
pub given_plain : (code : List Code) (n : ℕ) (s : Shape) → IsPlain code s → IsPlain code (given n s)
given_plain code n s plain =
    let low = plain.0.0 in ((omega (arith, low, length-append (replicate n single_form) s.operands), plain.0.1, plain.0.2), plain.1)

pub topped_plain : (code : List Code) (form : Form) (s : Shape) → IsPlain code s → IsPlain code (topped form s)
topped_plain code form s plain = let low = plain.0.0 in ((omega (arith, low), plain.0.1, plain.0.2), plain.1)

pub escaped_plain : (code : List Code) (s : Shape) → IsPlain code s → IsPlain code (with_escape s)
escaped_plain code s plain = let low = plain.0.1 in ((plain.0.0, omega (arith, low), plain.0.2), plain.1)

pub captured_plain : (code : List Code) (s : Shape) → IsPlain code s → IsPlain code (with_capture s)
captured_plain code s plain = let low = plain.0.2 in ((plain.0.0, plain.0.1, omega (arith, low)), plain.1)

-- in the frame of a loop, which may be called again or not
abbrev pub frame_by : Bool → ℕ → Shape → Opened
frame_by true place s = recursive_frame place (record { operands = length s.operands; escapes = s.escapes; captures = s.captures })
frame_by false place s = loop_frame place

pub framed_plain : (code : List Code) (recursive : Bool) (place : ℕ) (s : Shape) → IsPlain code s → IsPlain code (opened (frame_by recursive place s) s)
framed_plain code true place s plain = ((omega arith, omega arith, omega arith), plain.1)
framed_plain code false place s plain = plain

pub framed_loop : (recursive : Bool) (place : ℕ) (s : Shape) → innermost_loop (opened (frame_by recursive place s) s).frames ≡ Some place
framed_loop true place s = refl
framed_loop false place s = refl

-- a loop's frame is closed, with so many values on top
pub frame_ends : (recursive : Bool) (n place : ℕ) (s : Shape) → loop_closed (given n (opened (frame_by recursive place s) s)) (opened (frame_by recursive place s) s).frames ≡ Some (given n s)
frame_ends true n place s =
    ap (λ b. cond b (Some (given n s)) None) (and_from _ _ (eq-eqb s.escapes s.escapes refl) (eq-eqb s.captures s.captures refl))
frame_ends false n place s = refl

below_given : (n : ℕ) (forms : List Form) → below_values n (replicate n single_form ++ forms) ≡ Some forms
below_given zero forms = refl
below_given (suc n) forms = below_given n forms

-- what was given may be taken
pub taken_plain : (n : ℕ) (s : Shape) → Sits s → taken n (given n s) ≡ Some s
taken_plain n s plain =
    let low : nat_le (floor_of s.frames).operands (length s.operands) ≡ true = le-leb (floor_of s.frames).operands (length s.operands) plain.0 in
    ap (option_and_then (lowered (given n s))) (below_given n s.operands) ∙ ap (λ b. cond b (Some s) None) low

pub traded_plain : (m k : ℕ) (s : Shape) → Sits s → traded m k (given m s) ≡ Some (falling (given k s))
traded_plain m k s plain = ap (option_map (λ below. falling (given k below))) (taken_plain m s plain)

-- what lies below operands is left where they are taken
pub lowered_plain : (s : Shape) (forms : List Form) → Sits s → lowered (record s { operands = forms }) s.operands ≡ Some s
lowered_plain s forms plain =
    let low : nat_le (floor_of s.frames).operands (length s.operands) ≡ true = le-leb (floor_of s.frames).operands (length s.operands) plain.0 in
    ap (λ b. cond b (Some s) None) low

-- so many values, and so many more
pub given_more : (n m : ℕ) (s : Shape) → given n (given m s) ≡ given (n + m) s
given_more n m s =
    ap (λ forms. record s { operands = forms })
    (sym (append_assoc (replicate n single_form) (replicate m single_form) s.operands) ∙ ap (λ l. l ++ s.operands) (replicate-append-replicate n m single_form))

pub escape_plain : (s : Shape) → Sits s → escape_closed (with_escape s) ≡ Some s
escape_plain s plain =
    let low = plain.1 in
    let is_open : nat_lt (floor_of s.frames).escapes (suc s.escapes) ≡ true = lt-ltb (floor_of s.frames).escapes (suc s.escapes) (omega (arith, low)) in
    ap (λ b. cond b (Some s) None) is_open

pub capture_plain : (s : Shape) → Sits s → capture_closed (with_capture s) ≡ Some s
capture_plain s plain =
    let low = plain.2 in
    let is_open : nat_lt (floor_of s.frames).captures (suc s.captures) ≡ true = lt-ltb (floor_of s.frames).captures (suc s.captures) (omega (arith, low)) in
    ap (λ b. cond b (Some s) None) is_open

-- within the code each place that does not lean may be led to
pub may_lead_to : (code : List Code) (to : ℕ) → leans (slice_get code to) ≡ false → to ≤ length code → may_lead code to ≡ true
may_lead_to code to rests within = and_from _ _ (le-leb to (length code) within) (ap not rests)

-- a jump on, by the instruction at the place
pub jumps_forward : (code : List Code) (place : ℕ) (falls : Option Shape) (to : ℕ) (s : Shape) → IsCalm code → (c : Code) → slice_get code place ≡ Some c → aim_of c ≡ Some to → place < to → to ≤ length code
    → jumping code place falls to s ≡ Some (record { falls = falls; jumps = Some (to, s); enters = None })
jumps_forward code place falls to s calm c at aim less within =
    let may : may_jump code place s to ≡ true = ap (λ b. cond b (may_lead code to) (is_behind to (innermost_loop s.frames) && is_iterate_past place (slice_get code to))) (lt-ltb place to less) ∙ may_lead_to code to (calm place c to at aim) within in
    ap (λ b. cond b (Some (record { falls = falls; jumps = Some (to, s); enters = None })) None) may

-- a jump back to the `Iterate` of the innermost loop
pub jumps_back : (code : List Code) (place : ℕ) (to push past : ℕ) (s : Shape) → to ≤ place → innermost_loop s.frames ≡ Some push → to ≡ suc push → slice_get code to ≡ Some (iterate past) → place < past
    → jumping code place None to s ≡ Some (record { falls = None; jumps = Some (to, s); enters = None })
jumps_back code place to push past s less loop home asks before =
    let behind : is_behind to (innermost_loop s.frames) ≡ true = ap (is_behind to) loop ∙ eq-eqb to (suc push) home in
    let there : is_iterate_past place (slice_get code to) ≡ true = ap (is_iterate_past place) asks ∙ lt-ltb place past before in
    let may : may_jump code place s to ≡ true = ap (λ b. cond b (may_lead code to) (is_behind to (innermost_loop s.frames) && is_iterate_past place (slice_get code to))) (le-ltb place to less) ∙ and_from _ _ behind there in
    ap (λ b. cond b (Some (record { falls = None; jumps = Some (to, s); enters = None })) None) may

-- a loop is asked for its next item
pub iterates : (code : List Code) (place to push : ℕ) (s : Shape) → IsCalm code → slice_get code place ≡ Some (iterate to) → innermost_loop s.frames ≡ Some push → place ≡ suc push → place < to → to ≤ length code → may_iterate code place s to ≡ true
iterates code place to push s calm at loop home less within =
    let behind : is_behind place (innermost_loop s.frames) ≡ true = ap (is_behind place) loop ∙ eq-eqb place (suc push) home in
    and_from _ _ behind (and_from _ _ (lt-ltb place to less) (may_lead_to code to (calm place (iterate to) to at refl) within))
