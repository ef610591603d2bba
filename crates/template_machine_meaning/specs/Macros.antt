-- Calls of macros: which argument each name has, and the run of a macro's body.
use Rattle.std.specs.Prelude.{ℕ, suc, ◌+◌, Bool, true, false, ◌&&◌, ◌||◌, List, [], ◌∷◌, length, Option, None, Some, unwrap_or, codes, Result, Ok, Err, if◌then◌else◌}
use Rattle.std.specs.Option.{option_map_or}
use Rattle.std.specs.Str.{bytes_eq}
use Rattle.template_values_errors.specs.declared.ErrorKind.{ErrorKind}
use Rattle.template_values_errors.specs.declared.ErrorKind.TheVariants.{InvalidOperation, TooManyArguments}
use Rattle.template_values_model.specs.Val.{Val, Pairs, no_pairs, pairs_more, undefined, keyword_map}
use Rattle.template_values_model.specs.Lookup.{is_text, entry_at}
use Rattle.template_values_core.specs.Answers.{text_in}
use Rattle.template_compiler_process.specs.Process.{Making}
use Rattle.template_machine_meaning.specs.World.{Bindings, Macro, World, keeps, empty_frame}
use Rattle.template_machine_meaning.specs.Replies.{refused}
use Rattle.template_machine_meaning.specs.Keys.{body_of}
use Rattle.template_machine_meaning.specs.Plans.{calls_macro, Within, Plan, replies, room_for}

-- what a call hands over: values in turn, and keywords, which stand last
pub record Handed : Type 0 where
  pub places : List Val
  pub keywords : Pairs

abbrev pub in_front : Val → Handed → Handed
in_front v h = record h { places = v ∷ h.places }

abbrev pub handed_over : List Val → Handed
handed_over [] = record { places = []; keywords = no_pairs }
handed_over (keyword_map keywords ∷ []) = record { places = []; keywords = keywords }
handed_over (v ∷ vs) = in_front v (handed_over vs)

-- an argument is given in its place or by its name, not twice; one that isn't is undefined
abbrev pub one_given : Option Val → Option Val → Option Val
one_given (Some v) (Some w) = None
one_given (Some v) None = Some v
one_given None (Some w) = Some w
one_given None None = Some undefined

-- what stands under a name among keywords
abbrev pub keyword_named : Pairs → Val → Option Val
keyword_named keywords name = elim (text_in name) [ None ↦ None | Some text ↦ entry_at text keywords ]

abbrev pub first_place : List Val → Option Val
first_place [] = None
first_place (v ∷ vs) = Some v

abbrev pub other_places : List Val → List Val
other_places [] = []
other_places (v ∷ vs) = vs

-- the arguments of names in turn, behind those that were found, the last one first; none where there are too many places, or
-- one is given twice
abbrev pub arguments_given : List Val → List Val → Pairs → List Val → Option (List Val)
arguments_given [] [] keywords found = Some found
arguments_given [] (v ∷ vs) keywords found = None
arguments_given (name ∷ names) vs keywords found =
    elim (one_given (first_place vs) (keyword_named keywords name)) [
      | None ↦ None
      | Some v ↦ arguments_given names (other_places vs) keywords (v ∷ found)
    ]

-- a keyword is one of the names, or `caller` where the macro takes one; keys that are no texts are passed over
abbrev pub is_one_of : List ℕ → List Val → Bool
is_one_of key [] = false
is_one_of key (name ∷ names) = is_text key name || is_one_of key names

abbrev pub takes_keyword : Macro → List ℕ → Bool
takes_keyword m key = is_one_of key m.arguments || m.caller && bytes_eq key (codes "caller")

abbrev pub takes_keywords : Macro → Pairs → Bool
takes_keywords m no_pairs = true
takes_keywords m (pairs_more key v keywords) = option_map_or (takes_keyword m) (text_in key) true && takes_keywords m keywords

-- what a macro runs over: its arguments, the last one first, and what stands under `caller`, if it takes one
pub record Bound : Type 0 where
  pub arguments : List Val
  pub locals : Bindings

abbrev pub caller_locals : Bool → Pairs → Bindings
caller_locals false keywords = []
caller_locals true keywords = (codes "caller", unwrap_or (entry_at (codes "caller") keywords) undefined) ∷ []

abbrev pub bound_by : Macro → Pairs → Option (List Val) → Result Bound ErrorKind
bound_by m keywords None = Err TooManyArguments
bound_by m keywords (Some vs) =
    if takes_keywords m keywords then Ok (record { arguments = vs; locals = caller_locals m.caller keywords })
    else Err TooManyArguments

abbrev pub bound : Macro → Handed → Result Bound ErrorKind
bound m h = bound_by m h.keywords (arguments_given m.arguments h.places h.keywords [])

-- so many levels deeper
abbrev pub macro_levels : ℕ
macro_levels = 6

-- a macro's body runs in a frame of its own, of which one level is; of the frames below it none is seen
abbrev pub macro_within : World → ℕ → Macro → Bound → Within
macro_within w pending m b = record {
  key = record { stream = m.stream; part = body_of m.number b.arguments };
  begins = record w {
    here = m.stream;
    block = None;
    parent = None;
    frames = record empty_frame { locals = b.locals; reads = m.closure } ∷ w.frames;
    base = length w.frames;
    floor = suc (length w.frames);
    outer = w.outer + 5 + pending;
    saved = [];
    first = w.escape;
    captures = keeps [] ∷ w.captures;
  };
  wraps = [];
  purpose = calls_macro;
  behind = [];
}

-- where so many further calls are pending, that count as levels too
abbrev pub bound_plan : ℕ → ℕ → World → Macro → Result Bound ErrorKind → Plan
bound_plan limit pending w m (Ok b) = room_for limit (macro_levels + pending) w (macro_within w pending m b)
bound_plan limit pending w m (Err kind) = replies (refused w kind)

abbrev pub macro_plan : ℕ → ℕ → World → List Val → Option Macro → Plan
macro_plan limit pending w vs None = replies (refused w InvalidOperation)
macro_plan limit pending w vs (Some m) = bound_plan limit pending w m (bound m (handed_over vs))

-- a macro that is made, in the stream that runs
abbrev pub macro_made : World → Making → Option ℕ → Macro
macro_made w m closure = record {
  name = m.name;
  arguments = m.arguments;
  caller = m.caller;
  stream = w.here;
  number = m.number;
  closure = closure;
}
