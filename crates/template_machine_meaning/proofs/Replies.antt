-- The answers over one context are those over the other, where both agree on the names.
use Rattle.std.proofs.Common.{◌≡◌, ℕ, inl, inr, zero, suc, ◌+◌, ◌-◌, Bool, true, false, nat_le, ◌==◌, ◌||◌, List, [], ◌∷◌, ◌++◌, length, take, Option, None, Some, Result, Ok, Err, map, refl, sym, ap, subst, ◌∙◌}
use Rattle.std.specs.Prelude.{if◌then◌else◌, IsSome, is_some, nat_lt, slice_get, slice_set, unwrap_or}
use Rattle.std.specs.Str.{bytes_eq}
use Rattle.std.proofs.lemmas.Bool.{or_cases}
use Rattle.std.proofs.lemmas.Slice.Eq.{bytes_eq-Decides}
use Rattle.template_values_errors.specs.declared.ErrorKind.{ErrorKind}
use Rattle.template_values_errors.specs.declared.ErrorKind.TheVariants.{InvalidOperation, UndefinedError, UnknownFunction, TemplateNotFound, UnknownBlock}
use Rattle.template_values_errors.specs.declared.modes.AutoEscape.{AutoEscape}
use Rattle.template_values_model.specs.Val as values
use Rattle.template_values_model.specs.Val.{Val, undefined}
use Rattle.template_values_core.specs.Answers.{text_in}
use Rattle.template_values_forms.specs.Escaped.{escaped}
use Rattle.template_values_forms.specs.Known as forms
use Rattle.template_values_forms.specs.Printed.{printed}
use Rattle.template_values_forms.specs.Truth as truths
use Rattle.template_values_operators.specs.Iterated.{iterated}
use Rattle.template_values_operators.specs.Kinds.{list_made}
use Rattle.template_values_operators.specs.Slices.{slice_of}
use Rattle.template_callables.specs.Callables as callables
use Rattle.template_callables.specs.Callables.{View, Formatted, writes, forbids, Asked, call, filter, test, lookup, call_macro, block, Stated, finishes, refuses, goes_on, Says}
use Rattle.template_compiler_names.specs.Among.{Among, nothing}
use Rattle.template_compiler_process.specs.Process.{Looping, Making, Ask, look_up, store, negate, invert, operate, compare, get_attribute, get_item, get_slice, set_attribute, build_list, build_tuple, build_map, build_kwargs, merge_kwargs, call_function, call_method, call_value, apply_filter, perform_test, truth_of, unpack, spread, write_raw, write_value, open_frame, close_frame, open_loop, next_item, did_not_iterate, close_loop, open_escape, close_escape, begin_capture, end_capture, enclose, get_closure, build_macro, recurse, call_block, super_block, load_blocks, export_locals, include, Answer, done, value, truth, items, closure, Told, tells, fails, breaks_off, leaves, Process, over, step, asks, amiss, cut_short, stuck}
use Rattle.template_compiler_process.specs.Drive.{End, ends, faults}
use Rattle.template_compiler_process.specs.Trace.{Item, paid, written, Reply, Run, run, behind, go_on, replied}
use Rattle.template_compiler_walk.specs.Containers.{tuple_made, map_made, kwargs_made}
use Rattle.template_compiler_walk.specs.Operators.{operated, compared, inverted, negated}
use Rattle.template_compiler_walk.specs.Statements.{is_super_name}
use Rattle.template_machine_meaning.specs.World.{Bindings, Rounds, Loop, Frame, Macro, Capture, World, local_at, closure_of, seen_frames, looked_up, value_named, given_at, put_given, drop_given, put_local, depth_of, has_room, loop_over, loop_frame, empty_frame}
use Rattle.template_machine_meaning.specs.Captures.{with_text, captured, is_dropping}
use Rattle.template_machine_meaning.specs.Closures.{put_in_closure, stands, writing, writes_of, enclosing}
use Rattle.template_machine_meaning.specs.Closures as scopes
use Rattle.template_machine_meaning.specs.Turnings.{Turning, to_truth, to_text, decided, worded, turned_value, turned_by, turned}
use Rattle.template_machine_meaning.specs.Bodies.{Bodies, bodies_at}
use Rattle.template_machine_meaning.specs.Names.{name_of}
use Rattle.template_machine_meaning.specs.Modules.{module_of}
use Rattle.template_machine_meaning.specs.Blocks.{block_within, lacks_body, body_plan, bodies_plan, block_plan, text_within, text_plan, block_called, super_within, behind_plan, super_in, super_from, super_called, is_among, loaded_head, loaded_as, loaded_named, load_plan}
use Rattle.template_machine_meaning.specs.Macros.{handed_over, Bound, bound, macro_levels, macro_within, bound_plan, macro_plan, macro_made}
use Rattle.template_machine_meaning.specs.Rounds.{loop_again, rounds_within, rounds_over, rounds_from, again_plan, innermost_loop, recursed, recurse_plan}
use Rattle.template_machine_meaning.specs.Records.{loops_of, loop_numbered, known_of, macro_of, loop_of}
use Rattle.template_machine_meaning.specs.Undefined.{forbids_printing, forbids_iterating, forbids_truth, forbids_slicing, forbids_operator, forbids_link}
use Rattle.template_machine_meaning.specs.Replies.{told, changed, refused, kinded, guarded, replied_with, changed_with}
use Rattle.template_machine_meaning.specs.Keys as keys
use Rattle.template_machine_meaning.specs.Keys.{Home, standing, Stream, Part, whole, body_of, rounds_of, Key, whole_of, Head, Around}
use Rattle.template_machine_meaning.specs.Plans as plans
use Rattle.template_machine_meaning.specs.Plans.{Purpose, includes, calls_block, takes_block, calls_super, calls_macro, runs_rounds, Plan, replies, enters, room_for, with_turning, Caller, outermost, with_writes, caller_of, after_by, given, wrapped_by, told_by, came, Runners, restarted, beneath, with_beneath, parent_run, went_on, followed_at, followed, as_set, came_from, settled}
use Rattle.template_machine_meaning.specs.Includes.{Found, Choice, choices_in, first_standing, include_levels, include_within, not_found, included_by, included_from}
use Rattle.template_machine_meaning.specs.Namespaces.{put_attribute, with_attribute}
use Rattle.template_machine_meaning.specs.Functions.{Invoked, filter_named, test_named, Called, gives, makes, compares, invokes, calls, runs_again, value_called, name_called, first_method, first_called}
use Rattle.template_machine_meaning.specs.Calls.{are_as_before, view_of, with_temps, said, unknown, stated_plan, tested, answered_by, called_plan, further_plan, beyond, call_plan}
use Rattle.template_machine_meaning.specs.Spreads.{items_of_each, merged_keywords}
use Rattle.template_machine_meaning.specs.Leaving.{is_held, loop_left, loops_behind, held_among, given_behind}
use Rattle.template_machine_meaning.specs.Surroundings.{printed_reply, escaped_reply, formatted_reply, format_reply, attribute_given, item_given, unpacked, unpacked_into, rounds_here, on_frames, on_own, on_loop, opened_loop, asked_once, next_reply, gave_none, closed_reply, escape_named, escape_put_back, plan, respond}
use Rattle.template_machine_meaning.specs.Isolation.{IsNoLookup, AsksNoName, SaysNoName, AskNoNames}
use Rattle.template_machine_meaning.proofs.Known as makings
use Rattle.template_machine_meaning.proofs.Known.{Known, base, inner, Grows, with_name, stored, closed, cleared, opened, IsInner, learnt, Made, unmade, enclosed_of, made, Leaves, Encloses, IsSafe, May, Within}
use Rattle.template_machine_meaning.proofs.Turned.{or_some, context_before, over_frames, over_context, Begun, grown_itself, grown_on, grown_appended, grown_taken, has_taken, IsHeld, is_called, FitsFrames, FitsIn, Fits, frames_grown, held_more, held_at, fits_less, fits_in, fits_grown, beneath_agrees, finds, same_loops, same_all_loops, same_known, same_depth, same_innermost, pushes, many, frames_stored, frames_cleared, frames_closed, frames_writing, writing_over, outermost_over, frames_same, frames_own, frames_under}

-- the same over the context
abbrev pub over_reply : Val → Reply World → Reply World
over_reply d r = record { told = r.told; items = r.items; after = over_context d r.after }

abbrev pub over_run : Val → Run World → Run World
over_run d r = record { items = r.items; end = r.end; after = over_context d r.after }

-- an answer was told
abbrev pub IsTold : Told → Type 0
IsTold (tells a) = Unit {0}
IsTold _ = ⊥

-- the process ends there by itself
abbrev pub IsLeft : Told → Type 0
IsLeft leaves = Unit {0}
IsLeft _ = ⊥

-- the process came to its end by itself
abbrev pub IsOver : End → Type 0
IsOver (ends operands) = Unit {0}
IsOver _ = ⊥

abbrev pub begun_at : Stream → List Bindings → List Frame → Begun
begun_at stream since beneath = record { stream = stream; since = since; beneath = beneath }

-- which closure the innermost frame writes is the same over the context
same_writes : (d : Val) (fs : List Frame) → writes_of (over_frames d fs) ≡ writes_of fs
same_writes d [] = refl
same_writes d (f ∷ fs) = refl

-- the turning of a value tells a value, or fails
turned_told : (known : forms.Known) (rule : AutoEscape) (t : Turning) (v : Val) → IsLeft (turned_value known rule t v) → ⊥
turned_told known rule to_truth v = not_left (kinded (truths.truth_of known v))
  where
    not_left : (r : Result Bool ErrorKind) → IsLeft (decided r) → ⊥
    not_left (Ok b) left = left
    not_left (Err kind) left = left
turned_told known rule to_text v = not_left (kinded (printed known v))
  where
    not_left : (r : Result (List ℕ) ErrorKind) → IsLeft (worded rule r) → ⊥
    not_left (Ok text) left = left
    not_left (Err kind) left = left

one_left : (w : World) (t : Turning) (told_before : Told) → IsLeft (turned_by w t told_before) → IsLeft told_before
one_left w t (tells (value v)) left = absurd (turned_told (known_of w) w.escape t v left)
one_left w t _ left = left

one_told : (w : World) (t : Turning) (told_before : Told) → IsTold (turned_by w t told_before) → IsTold told_before
one_told w t (tells (value v)) is = tt
one_told w t _ is = is

all_left : (w : World) (ts : List Turning) (told_before : Told) → IsLeft (turned w ts told_before) → IsLeft told_before
all_left w [] told_before left = left
all_left w (t ∷ ts) told_before left = one_left w t told_before (all_left w ts (turned_by w t told_before) left)

all_told : (w : World) (ts : List Turning) (told_before : Told) → IsTold (turned w ts told_before) → IsTold told_before
all_told w [] told_before is = is
all_told w (t ∷ ts) told_before is = one_told w t told_before (all_told w ts (turned_by w t told_before) is)

told_over : (wraps : List ErrorKind) (a : Answer) (e : End) → IsTold (told_by wraps a e) → IsOver e
told_over wraps a (ends operands) t = tt
told_over wraps a (faults kinds) t = absurd t
told_over wraps a _ t = absurd t

never_left : (wraps : List ErrorKind) (a : Answer) (e : End) → IsLeft (told_by wraps a e) → ⊥
never_left wraps a (ends operands) left = left
never_left wraps a (faults kinds) left = left
never_left wraps a _ left = left

-- a closure that does not stand has nothing
nothing_stands : (w : World) (number : Option ℕ) → stands w number ≡ false → (name : List ℕ) → IsSome (local_at name (closure_of w.closures number)) → ⊥
nothing_stands w None e name h = cc
nothing_stands w (Some number) e name h = nothing_in (slice_get w.closures number) e h
  where
    nothing_in : (o : Option Bindings) → is_some o ≡ false → IsSome (local_at name (unwrap_or o [])) → ⊥
    nothing_in None f i = cc
    nothing_in (Some held) f i = cc

-- how far the making of a macro has come is so in the world
abbrev pub FitsMade : World → Made → Type 0
FitsMade w unmade = Unit {0}
FitsMade w (makings.enclosing f) = IsHeld w.closures (writes_of w.frames) f
FitsMade w (makings.given c f) = IsHeld w.closures c f

made_of : (w : World) (used : Among) (c : Option ℕ) (m : Made) → FitsMade w m → Encloses used c m → IsHeld w.closures c used
made_of w used c (makings.given e f) making encloses =
    subst (λ (n : Option ℕ). IsHeld w.closures n used) encloses.0 (λ name i. making name (encloses.1 name i))
made_of w used c (makings.enclosing f) making encloses = absurd encloses
made_of w used c unmade making encloses = absurd encloses

first_held : (w : World) (m : Made) → FitsMade w m → IsHeld w.closures (writes_of w.frames) (enclosed_of m)
first_held w (makings.enclosing f) making = making
first_held w (makings.given c f) making = λ name i. absurd (cc)
first_held w unmade making = λ name i. absurd (cc)

-- the closure of a number has the name, or takes it
abbrev enclosing_by : List ℕ → Option ℕ → Val → World → World
enclosing_by name number v w = if is_some (local_at name (closure_of w.closures number)) then w else put_in_closure number name v w

-- The innermost frame writes a closure that stands, and that has these names.
record Ready (f : Among) (w : World) : Type 0 where
  number : ℕ
  entries : Bindings
  writes_there : writes_of w.frames ≡ Some number
  stands_there : slice_get w.closures number ≡ Some entries
  has : IsHeld w.closures (Some number) f

one_standing : (w : World) (number : ℕ) (o : Option Bindings) → slice_get w.closures number ≡ o → is_some o ≡ true → (entries : Bindings) × (slice_get w.closures number ≡ Some entries)
one_standing w number None e h = absurd (cc)
one_standing w number (Some entries) e h = (entries, e)

last_is : (cs : List Bindings) → slice_get (cs ++ [] ∷ []) (length cs) ≡ Some []
last_is [] = refl
last_is (c ∷ cs) = last_is cs

ready_there : (w : World) (f : Among) (number : Option ℕ) → writes_of w.frames ≡ number → IsHeld w.closures number f → stands w number ≡ true → Ready f w
ready_there w f None e h is = absurd (cc)
ready_there w f (Some number) e h is =
    let entries = one_standing w number (slice_get w.closures number) refl is in
    record { number = number; entries = entries.0; writes_there = e; stands_there = entries.1; has = h }

ready_by : (w : World) (f : Among) (x : Frame) (gs : List Frame) → w.frames ≡ x ∷ gs → IsHeld w.closures x.writes f → (b : Bool) → stands w x.writes ≡ b
    → Ready f (if b then w else record w { frames = record x { writes = Some (length w.closures) } ∷ gs; closures = w.closures ++ [] ∷ [] })
ready_by w f x gs e h true is = ready_there w f x.writes (ap writes_of e) h is
ready_by w f x gs e h false is = record {
  number = length w.closures;
  entries = [];
  writes_there = refl;
  stands_there = last_is w.closures;
  has = λ name i. absurd (nothing_stands w x.writes is name (h name i));
}

-- one name more is enclosed
own_or : (w : World) (name : List ℕ) (f : Among) (number : ℕ) → IsHeld w.closures (Some number) f → is_some (local_at name (closure_of w.closures (Some number))) ≡ true
    → IsHeld w.closures (Some number) (with_name name f)
own_or w name f number has e id i = elim (or_cases (bytes_eq name id) (f id) i) [
  | inl own ↦ subst (λ (n : List ℕ). IsSome (local_at n (closure_of w.closures (Some number)))) ((bytes_eq-Decides name id).0 own) e
  | inr other ↦ has id other
]

taken_or : (w : World) (name : List ℕ) (v : Val) (f : Among) (number : ℕ) (entries : Bindings) → slice_get w.closures number ≡ Some entries → IsHeld w.closures (Some number) f
    → IsHeld (slice_set w.closures number (put_local name v entries)) (Some number) (with_name name f)
taken_or w name v f number entries e has id i = elim (or_cases (bytes_eq name id) (f id) i) [
  | inl own ↦ has_taken w.closures number name id v entries e own
  | inr other ↦ grown_taken w.closures number name v entries e (Some number) id (has id other)
]

enclosed_by : (w : World) (name : List ℕ) (v : Val) (f : Among) (ready : Ready f w) → (b : Bool) → is_some (local_at name (closure_of w.closures (Some ready.number))) ≡ b
    → FitsMade (if b then w else put_in_closure (Some ready.number) name v w) (makings.enclosing (with_name name f))
enclosed_by w name v f ready true e =
    subst (λ (n : Option ℕ). IsHeld w.closures n (with_name name f)) (sym ready.writes_there) (own_or w name f ready.number ready.has e)
enclosed_by w name v f ready false e =
    subst (λ (o : Option Bindings). FitsMade (scopes.put_at w ready.number name v o) (makings.enclosing (with_name name f))) (sym ready.stands_there)
    (subst (λ (n : Option ℕ). IsHeld (slice_set w.closures ready.number (put_local name v ready.entries)) n (with_name name f)) (sym ready.writes_there)
    (taken_or w name v f ready.number ready.entries ready.stands_there ready.has))

enclosed_more : (w : World) (name : List ℕ) (f : Among) → Ready f w → FitsMade (enclosing name w) (makings.enclosing (with_name name f))
enclosed_more w name f ready =
    subst (λ (n : Option ℕ). FitsMade (enclosing_by name n (value_named name w) w) (makings.enclosing (with_name name f))) (sym ready.writes_there)
    (enclosed_by w name (value_named name w) f ready (is_some (local_at name (closure_of w.closures (Some ready.number)))) refl)

-- what wants a frame
abbrev at_frames : World → List Frame → (Frame → List Frame → Reply World) → Reply World
at_frames w fs reply = elim fs [ [] ↦ told w breaks_off | f ∷ gs ↦ reply f gs ]

enclosed_in : (w : World) (name : List ℕ) (m : Made) → FitsMade w m → (b : Answer) (fs : List Frame) → w.frames ≡ fs
    → (at_frames w fs (λ x gs. changed (enclosing name (writing x gs w)) done)).told ≡ tells b
    → FitsMade ((at_frames w fs (λ x gs. changed (enclosing name (writing x gs w)) done)).after) (makings.enclosing (with_name name (enclosed_of m)))
enclosed_in w name m making b [] e h = absurd (cc)
enclosed_in w name m making b (x ∷ gs) e h =
    let has : IsHeld w.closures x.writes (enclosed_of m) = subst (λ (n : Option ℕ). IsHeld w.closures n (enclosed_of m)) (ap writes_of e) (first_held w m making) in
    enclosed_more (writing x gs w) name (enclosed_of m) (ready_by w (enclosed_of m) x gs e has (stands w x.writes) refl)

given_in : (w : World) (m : Made) → FitsMade w m → (c : Option ℕ) (fs : List Frame) → w.frames ≡ fs
    → (at_frames w fs (λ x gs. told w (tells (closure x.writes)))).told ≡ tells (closure c)
    → FitsMade ((at_frames w fs (λ x gs. told w (tells (closure x.writes)))).after) (makings.given c (enclosed_of m))
given_in w m making c [] e h = absurd (cc)
given_in w m making c (x ∷ gs) e h =
    let same : x.writes ≡ c = cc in
    subst (λ (n : Option ℕ). IsHeld w.closures n (enclosed_of m)) (ap writes_of e ∙ same) (first_held w m making)

-- behind each event the making has come as far as is said
made_so : (a : Around) (runners : Runners) (w : World) (m : Made) → FitsMade w m → (e : Ask) (b : Answer) → (respond a runners w e).told ≡ tells b
    → FitsMade ((respond a runners w e).after) (made m e b)
made_so a runners w m making (enclose name) b h = enclosed_in w name m making b w.frames refl h
made_so a runners w m making get_closure (closure c) h = given_in w m making c w.frames refl h
made_so a runners w m making _ _ h = tt

-- where the rounds of a loop were called all is known as it is closed that was known at the start
left_known : (start k : Known) (cs : List Bindings) (names : List ℕ → Type 0) (uses : Stream → ℕ → Among) (d : Val) (under : List Frame) (f : Frame) (gs : List Frame)
    → FitsFrames names uses d cs under k (f ∷ gs) → (x : Loop) → f.loop ≡ Some x → x.called ≡ true → IsInner k → Leaves start k → Grows start k
left_known start (inner true ids k) cs names uses d under f gs h x e called is known_then = known_then
left_known start (inner false ids k) cs names uses d under f gs h x e called is known_then =
    let other : true ≡ false = sym called ∙ sym (ap is_called e) ∙ h.2 in absurd (cc)
left_known start (base ids) cs names uses d under f gs h x e called is known_then = absurd is

module _ (names : List ℕ → Type 0) (uses : Stream → ℕ → Among) (d : Val) where
  -- what is known where a part of a stream begins, and at its end
  abbrev pub from_part : Stream → Part → Known → Known
  from_part s whole k = k
  from_part s (body_of number vs) k = base (uses s number)
  from_part s (rounds_of number) k = inner true nothing k

  abbrev pub from_key : Key → Known → Known
  from_key key k = from_part key.stream key.part k

  -- The second reply is the first one over the context; and after an answer all is there that is known, or that was at the start,
  -- where the process ends.
  pub record Replies (begun : Begun) (start k : Known) (r q : Reply World) : Type 0 where
    pub same : q ≡ over_reply d r
    pub left : IsLeft r.told → Fits names uses d begun start r.after
    pub fits : IsTold r.told → Fits names uses d begun k r.after

  -- The same of runs that come to their end by themselves, in whichever stream.
  pub record Runs (since : List Bindings) (under : List Frame) (k : Known) (r q : Run World) : Type 0 where
    pub same : q ≡ over_run d r
    pub fits : IsOver r.end → (s : Stream) × Fits names uses d (begun_at s since under) k r.after

  -- how a key runs, whatever is known
  abbrev pub RunsSo : Key → Option (World → Run World) → Type 0
  RunsSo key None = Unit {0}
  RunsSo key (Some runs) = (since : List Bindings) (under : List Frame) (k : Known) (w : World) → Fits names uses d (begun_at key.stream since under) (from_key key k) w
      → Runs since under (from_key key k) (runs w) (runs (over_context d w))

  -- The second run within is the first one over the context: it begins where something is known, and behind it all is there
  -- that is to be known.
  pub record Enters (begun : Begun) (k : Known) (c : Caller) (since : List Bindings) (x y : plans.Within) : Type 0 where
    pub around : Known
    pub under : List Frame
    pub same : y ≡ record x { begins = over_context d x.begins }
    pub fits : Fits names uses d (begun_at x.key.stream since under) (from_key x.key around) x.begins
    pub back : (s : Stream) (v : World) → Fits names uses d (begun_at s since under) (from_key x.key around) v → Fits names uses d begun k (after_by x.purpose c v)

  -- from a caller on, where the closures hold so much
  abbrev pub Plans : Begun → Known → Known → Caller → List Bindings → Plan → Plan → Type 0
  Plans begun start k c since (replies r) (replies q) = Replies begun start k r q
  Plans begun start k c since (enters x) (enters y) = Enters begun k c since x y
  Plans begun start k c since _ _ = ⊥

  -- what is made of a value is the same, since what is known of records is
  turned_same : (w : World) (t : Turning) (told_before : Told) → turned_by (over_context d w) t told_before ≡ turned_by w t told_before
  turned_same w t (tells (value v)) = ap (λ (known : forms.Known). turned_value known w.escape t v) (same_known names uses d w)
  turned_same w t _ = refl

  all_same : (w : World) (ts : List Turning) (told_before : Told) → turned (over_context d w) ts told_before ≡ turned w ts told_before
  all_same w [] told_before = refl
  all_same w (t ∷ ts) told_before = ap (turned (over_context d w) ts) (turned_same w t told_before) ∙ all_same w ts (turned_by w t told_before)

  -- where the frames, the closures and the macros are as before
  module _ (begun : Begun) (start k : Known) where
    abbrev Fit : World → Type 0
    Fit w = Fits names uses d begun k w

    abbrev So : Reply World → Reply World → Type 0
    So = Replies begun start k

    abbrev PlansAt : World → Plan → Plan → Type 0
    PlansAt w p q = Plans begun start k (caller_of w) w.closures p q

    gave_so : {X : Type 0} (w : World) → Fit w → (answer : X → Answer) (r : Result X ErrorKind)
        → So (replied_with w answer r) (replied_with (over_context d w) answer r)
    gave_so w fits answer (Ok x) = record { same = refl; left = λ t. absurd t; fits = λ t. fits }
    gave_so w fits answer (Err kind) = record { same = refl; left = λ t. absurd t; fits = λ t. fits }

    refused_so : (w : World) (kind : ErrorKind) → So (refused w kind) (refused (over_context d w) kind)
    refused_so w kind = record { same = refl; left = λ t. absurd t; fits = λ t. absurd t }

    failed_so : (w : World) (kinds : List ErrorKind) → So (told w (fails kinds)) (told (over_context d w) (fails kinds))
    failed_so w kinds = record { same = refl; left = λ t. absurd t; fits = λ t. absurd t }

    compared_so : (w : World) → Fit w → (number : ℕ) (vs : List Val) (b : Bool)
        → So (if b then told w (tells (value (values.truth false))) else changed (record w { given = put_given number vs w.given }) (value (values.truth true)))
        (if b then told (over_context d w) (tells (value (values.truth false)))
        else changed (record (over_context d w) { given = put_given number vs w.given }) (value (values.truth true)))
    compared_so w fits number vs true = record { same = refl; left = λ t. absurd t; fits = λ t. fits }
    compared_so w fits number vs false = record { same = refl; left = λ t. absurd t; fits = λ t. fits }

    -- what is made of the value that a plan comes to
    turning_so : (t : Turning) (c : Caller) (since : List Bindings) (p q : Plan) → Plans begun start k c since p q → Plans begun start k c since (with_turning t p) (with_turning t q)
    turning_so t c since (replies r) (replies q) so = record {
      same = ap (λ (x : Reply World). record x { told = turned_by x.after t x.told }) so.same
          ∙ ap (λ (other : Told). record (over_reply d r) { told = other }) (turned_same r.after t r.told);
      left = λ is. so.left (one_left r.after t r.told is);
      fits = λ is. so.fits (one_told r.after t r.told is);
    }
    turning_so t c since (enters x) (enters y) so = record {
      around = so.around;
      under = so.under;
      same = ap (λ (z : plans.Within). record z { behind = z.behind ++ t ∷ [] }) so.same;
      fits = so.fits;
      back = so.back;
    }
    turning_so t c since (replies r) (enters y) so = absurd so
    turning_so t c since (enters x) (replies q) so = absurd so

    either_so : (b : Bool) (c : Caller) (since : List Bindings) (p q x y : Plan) → Plans begun start k c since p x → Plans begun start k c since q y
        → Plans begun start k c since (if b then p else q) (if b then x else y)
    either_so true c since p q x y first second = first
    either_so false c since p q x y first second = second

    -- where there is room
    room_so : (w : World) (limit levels : ℕ) → has_room limit levels (over_context d w) ≡ has_room limit levels w
    room_so w limit levels = ap (λ n. nat_le (n + w.outer + levels) limit) (many names uses d w.frames)

    roomy_so : (w : World) (x y : plans.Within) → Enters begun k (caller_of w) w.closures x y → (room : Bool)
        → PlansAt w (if room then enters x else replies (refused w InvalidOperation)) (if room then enters y else replies (refused (over_context d w) InvalidOperation))
    roomy_so w x y so true = so
    roomy_so w x y so false = refused_so w InvalidOperation

    room_for_so : (w : World) (limit levels : ℕ) (x y : plans.Within) → Enters begun k (caller_of w) w.closures x y → PlansAt w (room_for limit levels w x) (room_for limit levels (over_context d w) y)
    room_for_so w limit levels x y so =
        subst (λ room. PlansAt w (room_for limit levels w x) (if room then enters y else replies (refused (over_context d w) InvalidOperation)))
        (sym (room_so w limit levels)) (roomy_so w x y so (has_room limit levels w))

    -- what is put back behind a run within, over the frames that came of it
    back_so : (w : World) → Fit w → (s : Stream) (under : List Frame) (known_there : Known) (v : World) → Fits names uses d (begun_at s w.closures under) known_there v
        → (fs : List Frame) → FitsFrames names uses d v.closures begun.beneath k fs → FitsIn names uses d begun k fs w.base v.closures v.macros w.here
    back_so w fits s under known_there v h fs framed = record {
      framed = framed;
      count = fits.count;
      held = h.held;
      grown = grown_on begun.since w.closures v.closures fits.grown h.grown;
      there = fits.there;
    }

    -- a block runs in a frame of its own, whether it is called, or its text is wanted
    bodied_so : (w : World) (fits : Fit w) (a : Around) (name : List ℕ) (entered on : Home → Plan) → ((home : Home) → PlansAt w (entered home) (on home)) → (b : Bodies) (o : Option Home)
        → PlansAt w (body_plan a w name entered b o) (body_plan a (over_context d w) name on b o)
    bodied_so w fits a name entered on so b None = refused_so w UnknownBlock
    bodied_so w fits a name entered on so b (Some home) =
        either_so (lacks_body a name home b.homes) (caller_of w) w.closures (replies (refused w InvalidOperation)) (entered home)
        (replies (refused (over_context d w) InvalidOperation)) (on home) (refused_so w InvalidOperation) (so home)

    bodies_so : (w : World) (fits : Fit w) (a : Around) (name : List ℕ) (entered on : Home → Plan) → ((home : Home) → PlansAt w (entered home) (on home)) → (o : Option Bodies)
        → PlansAt w (bodies_plan a w name entered o) (bodies_plan a (over_context d w) name on o)
    bodies_so w fits a name entered on so None = refused_so w UnknownBlock
    bodies_so w fits a name entered on so (Some b) = bodied_so w fits a name entered on so b (slice_get b.homes b.place)

    text_within_so : (w : World) (fits : Fit w) (pending : ℕ) (name : List ℕ) (home : Home)
        → Enters begun k (caller_of w) w.closures (text_within w pending name home) (text_within (over_context d w) pending name home)
    text_within_so w fits pending name home = record {
      around = opened k;
      under = begun.beneath;
      same = λ i. record (text_within w pending name home) {
        begins = record ((text_within w pending name home).begins) {
          frames = sym (pushes names uses d w.closures begun.beneath k empty_frame w.frames fits.framed) i;
          floor = suc (many names uses d w.frames i);
        };
      };
      fits = record { framed = (λ id i. absurd (cc), fits.framed, refl); count = fits.count; held = fits.held; grown = grown_itself w.closures; there = refl };
      back = λ s v h. back_so w fits s begun.beneath (opened k) v h (outermost (length w.frames) v.frames)
          (frames_own names uses d w.closures v.closures begun.beneath false nothing k w.frames v.frames fits.framed h.framed);
    }

    text_plan_so : (w : World) (fits : Fit w) (a : Around) (pending : ℕ) (name : List ℕ) → PlansAt w (text_plan a pending w name) (text_plan a pending (over_context d w) name)
    text_plan_so w fits a pending name =
        bodies_so w fits a name (λ home. room_for a.limit (1 + pending) w (text_within w pending name home))
        (λ home. room_for a.limit (1 + pending) (over_context d w) (text_within (over_context d w) pending name home))
        (λ home. room_for_so w a.limit (1 + pending) (text_within w pending name home) (text_within (over_context d w) pending name home) (text_within_so w fits pending name home))
        (bodies_at name w.blocks)

    -- a macro runs in a frame of its own: of those beneath none is seen
    macro_within_so : (w : World) (fits : Fit w) (pending : ℕ) (m : Macro) (b : Bound) → IsHeld w.closures m.closure (uses m.stream m.number)
        → Enters begun k (caller_of w) w.closures (macro_within w pending m b) (macro_within (over_context d w) pending m b)
    macro_within_so w fits pending m b held =
        let own : Frame = record empty_frame { locals = b.locals; reads = m.closure } in
        record {
          around = k;
          under = w.frames;
          same = λ i. record (macro_within w pending m b) {
            begins = record ((macro_within w pending m b).begins) {
              frames = sym (pushes names uses d w.closures begun.beneath k own w.frames fits.framed) i;
              base = many names uses d w.frames i;
              floor = suc (many names uses d w.frames i);
            };
          };
          fits = record {
            framed = (
              λ name i. or_some (local_at name b.locals) (local_at name (closure_of w.closures m.closure)) (held name i),
              refl,
              λ name n. beneath_agrees names uses d w.closures begun.beneath k w.frames fits.framed name n,
            );
            count = refl;
            held = fits.held;
            grown = grown_itself w.closures;
            there = refl;
          };
          back = λ s v h. back_so w fits s w.frames (base (uses m.stream m.number)) v h (outermost (length w.frames) v.frames)
              (frames_under names uses d w.closures v.closures h.grown begun.beneath (uses m.stream m.number) k w.frames v.frames fits.framed h.framed);
        }

    bound_so : (w : World) (fits : Fit w) (limit pending : ℕ) (m : Macro) → IsHeld w.closures m.closure (uses m.stream m.number) → (r : Result Bound ErrorKind)
        → PlansAt w (bound_plan limit pending w m r) (bound_plan limit pending (over_context d w) m r)
    bound_so w fits limit pending m held (Ok b) =
        room_for_so w limit (macro_levels + pending) (macro_within w pending m b) (macro_within (over_context d w) pending m b) (macro_within_so w fits pending m b held)
    bound_so w fits limit pending m held (Err kind) = refused_so w kind

    macro_so : (w : World) (fits : Fit w) (limit pending : ℕ) (vs : List Val) (o : Option Macro) → ((m : Macro) → o ≡ Some m → IsHeld w.closures m.closure (uses m.stream m.number))
        → PlansAt w (macro_plan limit pending w vs o) (macro_plan limit pending (over_context d w) vs o)
    macro_so w fits limit pending vs None held = refused_so w InvalidOperation
    macro_so w fits limit pending vs (Some m) held = bound_so w fits limit pending m (held m refl) (bound m (handed_over vs))

    macro_held : (w : World) (fits : Fit w) (number : ℕ) (b : Bool) (m : Macro) → (if b then slice_get w.macros number else None) ≡ Some m → IsHeld w.closures m.closure (uses m.stream m.number)
    macro_held w fits number true m e = held_at names uses d w.closures w.macros number m e fits.held
    macro_held w fits number false m e = absurd (cc)

    -- the rounds of a loop run in the frames of the run that calls them, in a frame of their own
    abbrev rounds_deep : World → Bool → Loop → Rounds → List Val → ℕ → plans.Within
    rounds_deep w named l rounds vs n =
        let x = rounds_within w named l rounds vs in
        record x { begins = record (x.begins) { frames = loop_frame (record (loop_again w l rounds vs) { depth = n }) ∷ w.frames } }

    rounds_within_so : (w : World) (fits : Fit w) (named : Bool) (l : Loop) (rounds : Rounds) (vs : List Val)
        → Enters begun k (caller_of w) w.closures (rounds_within w named l rounds vs) (rounds_within (over_context d w) named l rounds vs)
    rounds_within_so w fits named l rounds vs =
        let own : Frame = loop_frame (loop_again w l rounds vs) in
        record {
          around = k;
          under = begun.beneath;
          same = ap (rounds_deep (over_context d w) named l rounds vs) (same_depth names uses d w.base w.frames) ∙ (λ i. record (rounds_within w named l rounds vs) {
            begins = record ((rounds_within w named l rounds vs).begins) {
              frames = sym (pushes names uses d w.closures begun.beneath k own w.frames fits.framed) i;
              floor = suc (many names uses d w.frames i);
            };
          });
          fits = record { framed = (λ id i. absurd (cc), fits.framed, refl); count = fits.count; held = fits.held; grown = grown_itself w.closures; there = refl };
          back = λ s v h. back_so w fits s begun.beneath (inner true nothing k) v h (outermost (length w.frames) v.frames)
              (frames_own names uses d w.closures v.closures begun.beneath true nothing k w.frames v.frames fits.framed h.framed);
        }

    over_so : (w : World) (fits : Fit w) (a : Around) (named : Bool) (l : Loop) (rounds : Rounds) (r : Result (List Val) ErrorKind)
        → PlansAt w (rounds_over a w named l rounds r) (rounds_over a (over_context d w) named l rounds r)
    over_so w fits a named l rounds (Ok vs) =
        room_for_so w a.limit 1 (rounds_within w named l rounds vs) (rounds_within (over_context d w) named l rounds vs) (rounds_within_so w fits named l rounds vs)
    over_so w fits a named l rounds (Err kind) = failed_so w (InvalidOperation ∷ kind ∷ [])

    from_so : (w : World) (fits : Fit w) (a : Around) (named : Bool) (v : Val) (l : Loop) (o : Option Rounds)
        → PlansAt w (rounds_from a w named v l o) (rounds_from a (over_context d w) named v l o)
    from_so w fits a named v l None = refused_so w InvalidOperation
    from_so w fits a named v l (Some rounds) =
        subst (λ (known : forms.Known). PlansAt w (rounds_from a w named v l (Some rounds))
        (rounds_over a (over_context d w) named l rounds (guarded (forbids_iterating a.undefined v) (kinded (iterated known v)))))
        (sym (same_known names uses d w)) (over_so w fits a named l rounds (guarded (forbids_iterating a.undefined v) (kinded (iterated (known_of w) v))))

    again_so : (w : World) (fits : Fit w) (a : Around) (vs : List Val) (o : Option Loop) → PlansAt w (again_plan a w vs o) (again_plan a (over_context d w) vs o)
    again_so w fits a (v ∷ []) (Some l) = from_so w fits a true v l l.rounds
    again_so w fits a [] o = refused_so w InvalidOperation
    again_so w fits a (v ∷ []) None = refused_so w InvalidOperation
    again_so w fits a (v ∷ u ∷ vs) o = refused_so w InvalidOperation

    recursed_so : (w : World) (fits : Fit w) (a : Around) (v : Val) (o : Option Loop) → PlansAt w (recursed a w v o) (recursed a (over_context d w) v o)
    recursed_so w fits a v None = refused_so w UnknownFunction
    recursed_so w fits a v (Some l) = from_so w fits a false v l l.rounds

    -- calls: what they make, compare or set is not in the frames
    module _ (a : Around) (ask : AskNoNames a.callables) where
      -- what is asked further, and is no name's value
      abbrev GoesSo : (World → Asked → Plan) → Type 0
      GoesSo go = (w : World) → Fit w → (asked : Asked) → IsNoLookup asked → PlansAt w (go w asked) (go (over_context d w) asked)

      module _ (pending : ℕ) (go : World → Asked → Plan) (so : GoesSo go) where
        stated_so : (w : World) → Fit w → (answer : Stated) → AsksNoName answer → PlansAt w (stated_plan go w answer) (stated_plan go (over_context d w) answer)
        stated_so w fits (finishes temps v) asks_none = record { same = refl; left = λ t. absurd t; fits = λ t. fits }
        stated_so w fits (refuses kinds) asks_none = record { same = refl; left = λ t. absurd t; fits = λ t. absurd t }
        stated_so w fits (goes_on temps asked) asks_none = so (with_temps temps w) fits asked asks_none

        tested_so : (what : Invoked) (w : World) (p q : Plan) → PlansAt w p q → PlansAt w (tested what p) (tested what q)
        tested_so (test_named name) w p q h = turning_so to_truth (caller_of w) w.closures p q h
        tested_so _ w p q h = h

        answered_so : (w : World) → Fit w → (what : Invoked) (vs : List Val) (o : Option Says) → SaysNoName o
            → PlansAt w (answered_by a go w what vs o) (answered_by a go (over_context d w) what vs o)
        answered_so w fits what vs None asks_none = refused_so w (unknown what)
        answered_so w fits what vs (Some says) asks_none =
            let answer = says (view_of a w) vs in
            tested_so what w (stated_plan go w answer) (stated_plan go (over_context d w) answer) (stated_so w fits answer (asks_none (view_of a w) vs))

        called_so : (w : World) → Fit w → (c : Called) → PlansAt w (called_plan a pending go w c) (called_plan a pending go (over_context d w) c)
        called_so w fits (gives r) = gave_so w fits value r
        called_so w fits (makes entries) = record { same = refl; left = λ t. absurd t; fits = λ t. fits }
        called_so w fits (compares number vs) = compared_so w fits number vs (are_as_before vs (given_at number w.given))
        called_so w fits (invokes what vs) = answered_so w fits what vs (said a.callables what) (ask what)
        called_so w fits (calls id number vs) =
            macro_so w fits a.limit pending vs (macro_of w id number) (λ m e. macro_held w fits number (id == w.id) m e)
        called_so w fits (runs_again id number vs) =
            subst (λ (loops : List (Option Loop)). PlansAt w (again_plan a w vs (loop_of w id number))
            (again_plan a (over_context d w) vs (if id == w.id then loop_numbered number loops else None)))
            (sym (same_all_loops names uses d w)) (again_so w fits a vs (loop_of w id number))

        further_so : GoesSo (further_plan a pending go)
        further_so w fits (call v vs) other = called_so w fits (value_called w.globals v vs)
        further_so w fits (filter name vs) other = answered_so w fits (filter_named name) vs (said a.callables (filter_named name)) (ask (filter_named name))
        further_so w fits (test name vs) other = answered_so w fits (test_named name) vs (said a.callables (test_named name)) (ask (test_named name))
        further_so w fits (lookup name) other = absurd other
        further_so w fits (call_macro name vs) other = absurd other
        further_so w fits (block name) other = text_plan_so w fits a pending name

      beyond_so : (pending left : ℕ) → GoesSo (beyond a pending left)
      beyond_so pending zero w fits asked other = refused_so w InvalidOperation
      beyond_so pending (suc left) w fits asked other = further_so (suc pending) (beyond a (suc pending) left) (beyond_so (suc pending) left) w fits asked other

      -- as many levels are left
      call_plans_so : (w : World) → Fit w → (c : Called) → PlansAt w (call_plan a w c) (call_plan a (over_context d w) c)
      call_plans_so w fits c =
          subst (λ n. PlansAt w (call_plan a w c) (called_plan a 0 (beyond a 0 (a.limit - (n + w.outer))) (over_context d w) c)) (sym (many names uses d w.frames))
          (called_so 0 (beyond a 0 (a.limit - depth_of w)) (beyond_so 0 (a.limit - depth_of w)) w fits c)

    -- what a safe name stands for; under all frames the globals are the same
    stands_so : (w : World) → Fit w → (name : List ℕ) → IsSafe names k name → looked_up name (over_context d w) ≡ looked_up name w
    stands_so w fits name safe = finds names uses d w.closures begun.beneath name (local_at name w.globals.named) k w.frames w.base fits.count fits.framed safe

    named_so : (w : World) → Fit w → (name : List ℕ) → IsSafe names k name → value_named name (over_context d w) ≡ value_named name w
    named_so w fits name safe = ap (λ (o : Option Val). unwrap_or o undefined) (stands_so w fits name safe)

    -- a closure takes a name
    put_at_so : (w : World) (fits : Fit w) (number : ℕ) (name : List ℕ) (v : Val) (o : Option Bindings) → slice_get w.closures number ≡ o
        → So (changed (scopes.put_at w number name v o) done) (changed (scopes.put_at (over_context d w) number name v o) done)
    put_at_so w fits number name v None e = record { same = refl; left = λ t. absurd t; fits = λ t. fits }
    put_at_so w fits number name v (Some held) e =
        let grown = grown_taken w.closures number name v held e in
        record {
          same = refl;
          left = λ t. absurd t;
          fits = λ t. fits_grown names uses d begun k k w w.frames (slice_set w.closures number (put_local name v held)) fits grown
              (frames_grown names uses d w.closures (slice_set w.closures number (put_local name v held)) grown begun.beneath k w.frames fits.framed);
        }

    in_closure_so : (w : World) (fits : Fit w) (number : Option ℕ) (name : List ℕ) (v : Val)
        → So (changed (put_in_closure number name v w) done) (changed (put_in_closure number name v (over_context d w)) done)
    in_closure_so w fits None name v = record { same = refl; left = λ t. absurd t; fits = λ t. fits }
    in_closure_so w fits (Some number) name v = put_at_so w fits number name v (slice_get w.closures number) refl

    -- the closure that the innermost frame writes has the name, or takes it
    taken_so : (w : World) (fits : Fit w) (name : List ℕ) (number : Option ℕ) (v : Val) (b : Bool)
        → So (changed (if b then w else put_in_closure number name v w) done)
        (changed (if b then over_context d w else put_in_closure number name v (over_context d w)) done)
    taken_so w fits name number v true = record { same = refl; left = λ t. absurd t; fits = λ t. fits }
    taken_so w fits name number v false = in_closure_so w fits number name v

    enclosing_so : (w : World) (fits : Fit w) (name : List ℕ) → IsSafe names k name
        → So (changed (enclosing name w) done) (changed (enclosing name (over_context d w)) done)
    enclosing_so w fits name safe =
        let number = writes_of w.frames in
        let v = value_named name w in
        subst (λ (n : Option ℕ). So (changed (enclosing name w) done) (changed (enclosing_by name n (value_named name (over_context d w)) (over_context d w)) done)) (sym (same_writes d w.frames))
        (subst (λ (u : Val). So (changed (enclosing name w) done) (changed (enclosing_by name number u (over_context d w)) done)) (sym (named_so w fits name safe))
        (taken_so w fits name number v (is_some (local_at name (closure_of w.closures number)))))

  module _ (begun : Begun) (start k : Known) (w : World) (fits : Fits names uses d begun k w) where
    abbrev other : World
    other = over_context d w

    abbrev Now : Known → Reply World → Reply World → Type 0
    Now l r q = Replies begun start l r q

    abbrev Come : Known → Plan → Plan → Type 0
    Come l p q = Plans begun start l (caller_of w) w.closures p q

    replied_so : {X : Type 0} (answer : X → Answer) (r : Result X ErrorKind) → Now k (replied_with w answer r) (replied_with other answer r)
    replied_so answer r = gave_so begun start k w fits answer r

    look_up_so : (name : List ℕ) → IsSafe names k name → Now k (told w (tells (value (value_named name w)))) (told other (tells (value (value_named name other))))
    look_up_so name safe = record {
      same = ap (λ (v : Val). told other (tells (value v))) (named_so begun start k w fits name safe);
      left = λ t. absurd t;
      fits = λ t. fits;
    }

    -- what a name stands for is called
    call_so : (a : Around) → AskNoNames a.callables → (name : List ℕ) (vs : List Val) → IsSafe names k name
        → Come k (call_plan a w (name_called w.globals (looked_up name w) vs)) (call_plan a other (name_called w.globals (looked_up name other) vs))
    call_so a ask name vs safe =
        subst (λ (o : Option Val). Come k (call_plan a w (name_called w.globals (looked_up name w) vs)) (call_plan a other (name_called w.globals o vs)))
        (sym (stands_so begun start k w fits name safe)) (call_plans_so begun start k a ask w fits (name_called w.globals (looked_up name w) vs))

    -- a namespace takes an attribute
    put_so : (number : ℕ) (name : List ℕ) (v : Val) (o : Option (List (Val × Val)))
        → Now k (changed_with w (λ after. done) (λ after. after) (put_attribute w number name v o)) (changed_with other (λ after. done) (λ after. after) (put_attribute other number name v o))
    put_so number name v (Some entries) = record { same = refl; left = λ t. absurd t; fits = λ t. fits }
    put_so number name v None = record { same = refl; left = λ t. absurd t; fits = λ t. fits }

    attribute_so : (name : List ℕ) (v holder : Val)
        → Now k (changed_with w (λ after. done) (λ after. after) (with_attribute w name v holder)) (changed_with other (λ after. done) (λ after. after) (with_attribute other name v holder))
    attribute_so name v (values.namespace id number) = put_so number name v ((known_of w).namespaces id number)
    attribute_so name v _ = record { same = refl; left = λ t. absurd t; fits = λ t. fits }

    -- a text is written, where these captures are open
    abbrev text_into : World → List ℕ → List Capture → Reply World
    text_into v text captures = elim captures [
      | [] ↦ record { told = tells done; items = written text ∷ []; after = v }
      | c ∷ cs ↦ changed (record v { captures = with_text text c ∷ cs }) done
    ]

    text_so : (text : List ℕ) (captures : List Capture) → Now k (text_into w text captures) (text_into other text captures)
    text_so text [] = record { same = refl; left = λ t. absurd t; fits = λ t. fits }
    text_so text (c ∷ cs) = record { same = refl; left = λ t. absurd t; fits = λ t. fits }

    printed_so : (r : Result (List ℕ) ErrorKind) → Now k (printed_reply w r) (printed_reply other r)
    printed_so (Ok text) = text_so text w.captures
    printed_so (Err kind) = record { same = refl; left = λ t. absurd t; fits = λ t. fits }

    -- a value is written: under the escape in force, or as a formatter says
    escaped_so : (v : Val) → Now k (escaped_reply w v) (escaped_reply other v)
    escaped_so v =
        subst (λ (known : forms.Known). Now k (escaped_reply w v) (printed_reply other (kinded (escaped w.escape known v)))) (sym (same_known names uses d w))
        (printed_so (kinded (escaped w.escape (known_of w) v)))

    formatted_so : (v : Val) (f : Formatted) → Now k (formatted_reply w v f) (formatted_reply other v f)
    formatted_so v (writes text) = text_so text w.captures
    formatted_so v (callables.escapes value_there) = escaped_so value_there
    formatted_so v (forbids kinds) = failed_so begun start k w kinds

    format_so : (a : Around) (v : Val) (o : Option (View → Val → Formatted)) → Now k (format_reply a w v o) (format_reply a other v o)
    format_so a v None = escaped_so v
    format_so a v (Some formats) = formatted_so v (formats (view_of a w) v)

    written_so : (a : Around) (v : Val) (b : Bool)
        → Now k (if b then refused w UndefinedError else format_reply a w v a.callables.formats) (if b then refused other UndefinedError else format_reply a other v a.callables.formats)
    written_so a v true = refused_so begun start k w UndefinedError
    written_so a v false = format_so a v a.callables.formats

    -- what wants a frame
    abbrev Framed : List Frame → Type 0
    Framed fs = FitsFrames names uses d w.closures begun.beneath k fs

    -- the frame over there
    abbrev there_of : Frame → List Frame → Frame
    there_of f gs = record f { context = context_before d gs f.context }

    framed_so : (l : Known) (reply on : Frame → List Frame → Reply World) (fs : List Frame) → Framed fs
        → ((f : Frame) (gs : List Frame) → Framed (f ∷ gs) → Now l (reply f gs) (on (there_of f gs) (over_frames d gs)))
        → Now l (at_frames w fs reply) (at_frames other (over_frames d fs) on)
    framed_so l reply on [] h so = record { same = refl; left = λ t. absurd t; fits = λ t. absurd t }
    framed_so l reply on (f ∷ gs) h so = so f gs h

    -- or one that may be closed
    own_by : (l : Known) (reply on : Frame → List Frame → Reply World)
        → ((f : Frame) (gs : List Frame) → Framed (f ∷ gs) → Now l (reply f gs) (on (there_of f gs) (over_frames d gs)))
        → (b : Bool) → Now l (if b then on_frames w reply else told w breaks_off) (if b then on_frames other on else told other breaks_off)
    own_by l reply on so true = framed_so l reply on w.frames fits.framed so
    own_by l reply on so false = record { same = refl; left = λ t. absurd t; fits = λ t. absurd t }

    own_so : (l : Known) (reply on : Frame → List Frame → Reply World)
        → ((f : Frame) (gs : List Frame) → Framed (f ∷ gs) → Now l (reply f gs) (on (there_of f gs) (over_frames d gs)))
        → Now l (on_own w reply) (on_own other on)
    own_so l reply on so =
        subst (λ n. Now l (on_own w reply) (if nat_lt w.floor n then on_frames other on else told other breaks_off)) (sym (many names uses d w.frames))
        (own_by l reply on so (nat_lt w.floor (length w.frames)))

    -- or a loop's, which the run may ask
    asked_so : (l : Known) (r q : Reply World) → Now l r q → (b : Bool) → Now l (if b then r else told w breaks_off) (if b then q else told other breaks_off)
    asked_so l r q so true = so
    asked_so l r q so false = record { same = refl; left = λ t. absurd t; fits = λ t. absurd t }

    abbrev at_loop : World → ℕ → (Frame → Loop → List Frame → Reply World) → Frame → List Frame → Option Loop → Reply World
    at_loop v n reply f fs o = elim o [ None ↦ told v breaks_off | Some x ↦ if x.called || nat_lt v.floor n then reply f x fs else told v breaks_off ]

    looped_so : (l : Known) (reply on : Frame → Loop → List Frame → Reply World) (f : Frame) (gs : List Frame) (o : Option Loop)
        → ((x : Loop) → o ≡ Some x → Now l (reply f x gs) (on (there_of f gs) x (over_frames d gs)))
        → Now l (at_loop w (length w.frames) reply f gs o) (at_loop other (length w.frames) on (there_of f gs) (over_frames d gs) o)
    looped_so l reply on f gs None so = record { same = refl; left = λ t. absurd t; fits = λ t. absurd t }
    looped_so l reply on f gs (Some x) so = asked_so l (reply f x gs) (on (there_of f gs) x (over_frames d gs)) (so x refl) (x.called || nat_lt w.floor (length w.frames))

    loop_so : (l : Known) (reply on : Frame → Loop → List Frame → Reply World)
        → ((f : Frame) (gs : List Frame) → Framed (f ∷ gs) → (x : Loop) → f.loop ≡ Some x → Now l (reply f x gs) (on (there_of f gs) x (over_frames d gs)))
        → Now l (on_loop w reply) (on_loop other on)
    loop_so l reply on so =
        subst (λ n. Now l (on_loop w reply) (on_frames other (λ f fs. at_loop other n on f fs f.loop))) (sym (many names uses d w.frames))
        (framed_so l (λ f fs. at_loop w (length w.frames) reply f fs f.loop) (λ f fs. at_loop other (length w.frames) on f fs f.loop) w.frames fits.framed
        (λ f gs h. looped_so l reply on f gs f.loop (λ x e. so f gs h x e)))

    next_so : (f : Frame) (gs : List Frame) → Framed (f ∷ gs) → (x : Loop) → f.loop ≡ Some x → (o : Option Val)
        → Now (cleared k) (next_reply w f x gs o) (next_reply other (there_of f gs) x (over_frames d gs) o)
    next_so f gs h x e (Some v) = record {
      same = refl;
      left = λ t. absurd t;
      fits = λ t. fits_in names uses d begun k (cleared k) w (record f { locals = []; loop = Some (asked_once x) } ∷ gs) fits
          (frames_cleared names uses d w.closures begun.beneath k f gs [] (Some (asked_once x)) (sym (ap is_called e)) h);
    }
    next_so f gs h x e None = record {
      same = refl;
      left = λ t. absurd t;
      fits = λ t. fits_in names uses d begun k (cleared k) w (record f { loop = Some (asked_once x) } ∷ gs) fits
          (frames_cleared names uses d w.closures begun.beneath k f gs f.locals (Some (asked_once x)) (sym (ap is_called e)) h);
    }

    -- a frame is closed
    shut_so : (f : Frame) (gs : List Frame) → IsInner k → Framed (f ∷ gs) → Fits names uses d begun (closed k) (record w { frames = gs })
    shut_so f gs is h = fits_in names uses d begun k (closed k) w gs fits (frames_closed names uses d w.closures begun.beneath k f gs is h)

    -- and a loop's: where its rounds were called the run ends
    ended_so : (x : Loop) (gs : List Frame) → Fits names uses d begun (closed k) (record w { frames = gs }) → (b : Bool)
        → Now (closed k) (changed (record (if b then record w { closed = w.closed ++ x ∷ [] } else record w { given = drop_given x.number w.given }) { frames = gs }) done)
        (changed (record (if b then record other { closed = w.closed ++ x ∷ [] } else record other { given = drop_given x.number w.given }) { frames = over_frames d gs }) done)
    ended_so x gs h true = record { same = refl; left = λ t. absurd t; fits = λ t. h }
    ended_so x gs h false = record { same = refl; left = λ t. absurd t; fits = λ t. h }

    closing_so : (f : Frame) (gs : List Frame) → IsInner k → Framed (f ∷ gs) → (x : Loop) → (x.called ≡ true → Grows start k) → (b : Bool) → x.called ≡ b
        → Now (closed k) (if b then told w leaves else changed (record (loop_left w x) { frames = gs }) done)
        (if b then told other leaves else changed (record (loop_left other x) { frames = over_frames d gs }) done)
    closing_so f gs is h x grows true e = record { same = refl; left = λ t. fits_less names uses d begun start k w (grows e) fits; fits = λ t. absurd t }
    closing_so f gs is h x grows false e = ended_so x gs (shut_so f gs is h) (is_held w x)

    -- what opens a frame, in a state of which so many loops were opened
    abbrev opens : World → ℕ → Frame → Bool → Reply World
    opens v count f room = changed_with v (λ after. done) (λ after. after) (if room then Ok (record v { frames = f ∷ v.frames; opened = count }) else Err InvalidOperation)

    opened_so : (count : ℕ) (f : Frame) (room : Bool) → is_called f.loop ≡ false → Now (opened k) (opens w count f room) (opens other count f room)
    opened_so count f true fresh = record {
      same = ap (λ (fs : List Frame). changed (record w { frames = fs; opened = count }) done) (sym (pushes names uses d w.closures begun.beneath k f w.frames fits.framed));
      left = λ t. absurd t;
      fits = λ t. fits_in names uses d begun k (opened k) w (f ∷ w.frames) fits (λ name i. absurd (cc), fits.framed, fresh);
    }
    opened_so count f false fresh = record { same = refl; left = λ t. absurd t; fits = λ t. absurd t }

    opens_so : (limit count : ℕ) (f : Frame) → is_called f.loop ≡ false → Now (opened k) (opens w count f (has_room limit 1 w)) (opens other count f (has_room limit 1 other))
    opens_so limit count f fresh =
        let at = opened_so count f (has_room limit 1 w) fresh in
        record { same = ap (opens other count f) (room_so begun start k w limit 1) ∙ at.same; left = at.left; fits = at.fits }

    open_loop_so : (limit : ℕ) (how : Looping) (r : Result (List Val) ErrorKind)
        → Now (opened k) (changed_with w (λ after. done) (λ after. after) (opened_loop limit w how r)) (changed_with other (λ after. done) (λ after. after) (opened_loop limit other how r))
    open_loop_so limit how (Ok vs) =
        let own : Loop = loop_over w how.variable (rounds_here w how.rounds) vs in
        subst (λ n. Now (opened k) (opens w (w.opened + 1) (loop_frame own) (has_room limit 1 w)) (opens other (w.opened + 1) (loop_frame (record own { depth = n })) (has_room limit 1 other)))
        (sym (same_depth names uses d w.base w.frames)) (opens_so limit (w.opened + 1) (loop_frame own) refl)
    open_loop_so limit how (Err kind) = record { same = refl; left = λ t. absurd t; fits = λ t. absurd t }

    -- what looks into records
    at_known : (l : Known) (p : Plan) (f : forms.Known → Plan) → Come l p (f (known_of w)) → Come l p (f (known_of other))
    at_known l p f h = subst (λ (known : forms.Known). Come l p (f known)) (sym (same_known names uses d w)) h

    escape_so : (r : Result AutoEscape ErrorKind)
        → Now k (changed_with w (λ rule. done) (λ rule. record w { escape = rule; saved = w.escape ∷ w.saved }) r) (changed_with other (λ rule. done) (λ rule. record other { escape = rule; saved = w.escape ∷ w.saved }) r)
    escape_so (Ok rule) = record { same = refl; left = λ t. absurd t; fits = λ t. fits }
    escape_so (Err kind) = record { same = refl; left = λ t. absurd t; fits = λ t. fits }

    put_back_so : (rules : List AutoEscape) → Now k (escape_put_back w rules) (escape_put_back other rules)
    put_back_so [] = record { same = refl; left = λ t. absurd t; fits = λ t. absurd t }
    put_back_so (rule ∷ rules) = record { same = refl; left = λ t. absurd t; fits = λ t. fits }

    -- the innermost of these captures ends
    abbrev ended_among : World → List Capture → Reply World
    ended_among v captures = elim captures [
      | [] ↦ told v breaks_off
      | c ∷ cs ↦ changed (record v { captures = cs }) (value (captured v.escape c))
    ]

    capture_so : (captures : List Capture) → Now k (ended_among w captures) (ended_among other captures)
    capture_so [] = record { same = refl; left = λ t. absurd t; fits = λ t. absurd t }
    capture_so (c ∷ cs) = record { same = refl; left = λ t. absurd t; fits = λ t. fits }

    -- a name is stored, in the innermost frame and in the closure that it writes
    store_so : (name : List ℕ) (v : Val) (f : Frame) (gs : List Frame) → Framed (f ∷ gs)
        → Now (stored name k) (changed (scopes.stored name v f gs w) done) (changed (scopes.stored name v (there_of f gs) (over_frames d gs) other) done)
    store_so name v f gs h =
        let fs = record f { locals = put_local name v f.locals } ∷ gs in
        in_closure_so begun start (stored name k) (record w { frames = fs })
        (fits_in names uses d begun k (stored name k) w fs fits (frames_stored names uses d w.closures begun.beneath name v k f gs h)) f.writes name v

    -- a name is enclosed: the innermost frame makes the closure that it writes, if it has none
    enclose_by : (name : List ℕ) → IsSafe names k name → (f : Frame) (gs : List Frame) → Framed (f ∷ gs) → (b : Bool)
        → Now k (changed (enclosing name (if b then w else record w { frames = record f { writes = Some (length w.closures) } ∷ gs; closures = w.closures ++ [] ∷ [] })) done)
        (changed (enclosing name (if b then other else record other { frames = record (there_of f gs) { writes = Some (length w.closures) } ∷ over_frames d gs; closures = w.closures ++ [] ∷ [] })) done)
    enclose_by name safe f gs h true = enclosing_so begun start k w fits name safe
    enclose_by name safe f gs h false =
        let fs = record f { writes = Some (length w.closures) } ∷ gs in
        let more = w.closures ++ [] ∷ [] in
        enclosing_so begun start k (record w { frames = fs; closures = more })
        (fits_grown names uses d begun k k w fs more fits (grown_appended w.closures)
        (frames_grown names uses d w.closures more (grown_appended w.closures) begun.beneath k fs
        (frames_writing names uses d w.closures begun.beneath k (Some (length w.closures)) (f ∷ gs) h))) name safe

    -- a macro is made of a closure that has what its body uses
    build_so : (m : Making) (c : Option ℕ) → IsHeld w.closures c (uses begun.stream m.number)
        → Now k (changed (record w { macros = w.macros ++ macro_made w m c ∷ [] }) (value (values.macro_record w.id (length w.macros))))
        (changed (record other { macros = w.macros ++ macro_made w m c ∷ [] }) (value (values.macro_record w.id (length w.macros))))
    build_so m c held = record {
      same = refl;
      left = λ t. absurd t;
      fits = λ t. record {
        framed = fits.framed;
        count = fits.count;
        held = held_more names uses d w.closures w.macros (macro_made w m c) fits.held (subst (λ (s : Stream). IsHeld w.closures c (uses s m.number)) (sym fits.there) held);
        grown = fits.grown;
        there = fits.there;
      };
    }

    -- runs within
    given_over : (p : Purpose) (v : World) → given p (caller_of other) (over_context d v) ≡ given p (caller_of w) v
    given_over includes v = refl
    given_over calls_block v = refl
    given_over takes_block v = refl
    given_over (calls_super named name place) v = refl
    given_over calls_macro v = refl
    given_over (runs_rounds named) v = refl

    frames_back : (v : World) → outermost (length (over_frames d w.frames)) (over_frames d v.frames) ≡ over_frames d (outermost (length w.frames) v.frames)
    frames_back v = ap (λ n. outermost n (over_frames d v.frames)) (many names uses d w.frames) ∙ outermost_over names uses d (length w.frames) v.frames

    include_back : (v : World) → with_writes (writes_of (over_frames d w.frames)) (outermost (length (over_frames d w.frames)) (over_frames d v.frames))
        ≡ over_frames d (with_writes (writes_of w.frames) (outermost (length w.frames) v.frames))
    include_back v = ap (λ (n : Option ℕ). with_writes n (outermost (length (over_frames d w.frames)) (over_frames d v.frames))) (same_writes d w.frames)
        ∙ ap (with_writes (writes_of w.frames)) (frames_back v) ∙ sym (writing_over names uses d (writes_of w.frames) (outermost (length w.frames) v.frames))

    -- the same loops go
    loops_back : (v : World) → loops_behind (length (over_frames d w.frames)) (over_context d v) ≡ loops_behind (length w.frames) v
    loops_back v = ap (λ n. take (length (over_frames d v.frames) - n) (loops_of (over_frames d v.frames))) (many names uses d w.frames)
        ∙ ap (λ n. take (n - length w.frames) (loops_of (over_frames d v.frames))) (many names uses d v.frames)
        ∙ ap (λ (loops : List (Option Loop)). take (length v.frames - length w.frames) loops) (same_loops names uses d v.frames)

    -- a world with these frames, where these loops went
    abbrev back_with : World → World → List (Option Loop) → List Frame → World
    back_with v after loops fs = record after { frames = fs; given = given_behind v.held loops v.given; closed = v.closed ++ held_among v.held loops }

    back_over : (v after : World) (fs gs : List Frame) → fs ≡ over_frames d gs
        → back_with v after (loops_behind (length (over_frames d w.frames)) (over_context d v)) fs ≡ back_with v after (loops_behind (length w.frames) v) (over_frames d gs)
    back_over v after fs gs same = ap (λ (loops : List (Option Loop)). back_with v after loops fs) (loops_back v)
        ∙ ap (λ (hs : List Frame). back_with v after (loops_behind (length w.frames) v) hs) same

    kept_over : (v after : World) → back_with v after (loops_behind (length (over_frames d w.frames)) (over_context d v)) (outermost (length (over_frames d w.frames)) (over_frames d v.frames))
        ≡ back_with v after (loops_behind (length w.frames) v) (over_frames d (outermost (length w.frames) v.frames))
    kept_over v after = back_over v after (outermost (length (over_frames d w.frames)) (over_frames d v.frames)) (outermost (length w.frames) v.frames) (frames_back v)

    after_over : (p : Purpose) (v : World) → after_by p (caller_of other) (over_context d v) ≡ over_context d (after_by p (caller_of w) v)
    after_over includes v =
        back_over v (after_by includes (caller_of w) v) (with_writes (writes_of (over_frames d w.frames)) (outermost (length (over_frames d w.frames)) (over_frames d v.frames)))
        (with_writes (writes_of w.frames) (outermost (length w.frames) v.frames)) (include_back v)
    after_over calls_block v = kept_over v (after_by calls_block (caller_of w) v)
    after_over takes_block v = kept_over v (after_by takes_block (caller_of w) v)
    after_over (calls_super named name place) v = kept_over v (after_by (calls_super named name place) (caller_of w) v)
    after_over calls_macro v = kept_over v (after_by calls_macro (caller_of w) v)
    after_over (runs_rounds named) v = kept_over v (after_by (runs_rounds named) (caller_of w) v)

    -- what comes of the same run over the context
    abbrev came_with : plans.Within → Run World → World → Answer → Reply World
    came_with x r after a = record { told = turned after x.behind (told_by x.wraps a r.end); items = map (wrapped_by x.wraps) r.items; after = after }

    came_over : (x : plans.Within) (r : Run World) → came other x (over_run d r) ≡ over_reply d (came w x r)
    came_over x r =
        let after = after_by x.purpose (caller_of w) r.after in
        let a = given x.purpose (caller_of w) r.after in
        ap (came_with x r (after_by x.purpose (caller_of other) (over_context d r.after))) (given_over x.purpose r.after)
        ∙ ap (λ (v : World). came_with x r v a) (after_over x.purpose r.after)
        ∙ ap (λ (t : Told). record (over_reply d (came w x r)) { told = t }) (all_same after x.behind (told_by x.wraps a r.end))

    came_so : (l : Known) (x y : plans.Within) → (so : Enters begun l (caller_of w) w.closures x y) → (r q : Run World) → Runs w.closures so.under (from_key x.key so.around) r q
        → Now l (came w x r) (came other y q)
    came_so l x y so r q runs =
        let after = after_by x.purpose (caller_of w) r.after in
        let a = given x.purpose (caller_of w) r.after in
        record {
          same = ap (λ (z : plans.Within). came other z q) so.same ∙ ap (came other (record x { begins = over_context d x.begins })) runs.same ∙ came_over x r;
          left = λ t. absurd (never_left x.wraps a r.end (all_left after x.behind (told_by x.wraps a r.end) t));
          fits = λ t.
              let there = runs.fits (told_over x.wraps a r.end (all_told after x.behind (told_by x.wraps a r.end) t)) in
              so.back there.0 r.after there.1;
        }

    came_from_so : (l : Known) (x y : plans.Within) → Enters begun l (caller_of w) w.closures x y → (o : Option (World → Run World)) → RunsSo x.key o → Now l (came_from w x o) (came_from other y o)
    came_from_so l x y so None runs =
        subst (λ (z : plans.Within). Now l (refused (as_set w x) InvalidOperation) (refused (as_set other z) InvalidOperation)) (sym so.same)
        (refused_so begun start l (as_set w x) InvalidOperation)
    came_from_so l x y so (Some runs) all =
        let z : plans.Within = record x { begins = over_context d x.begins } in
        subst (λ (u : plans.Within). Now l (came w x (runs x.begins)) (came other u (runs u.begins))) (sym so.same)
        (came_so l x z (record { around = so.around; under = so.under; same = refl; fits = so.fits; back = so.back }) (runs x.begins) (runs z.begins)
        (all w.closures so.under so.around x.begins so.fits))

    settled_so : (l : Known) (runners : Runners) → ((key : Key) → RunsSo key (runners key)) → (p q : Plan) → Come l p q → Now l (settled runners w p) (settled runners other q)
    settled_so l runners so (replies r) (replies q) same = same
    settled_so l runners so (enters x) (enters y) same =
        subst (λ (u : Key). Now l (came_from w x (runners x.key)) (came_from other y (runners u))) (sym (ap (λ (u : plans.Within). u.key) same.same))
        (came_from_so l x y same (runners x.key) (so x.key))
    settled_so l runners so (replies r) (enters y) same = absurd same
    settled_so l runners so (enters x) (replies q) same = absurd same

    done_so : Now k (told w (tells done)) (told other (tells done))
    done_so = record { same = refl; left = λ t. absurd t; fits = λ t. fits }

    -- includes
    entered_so : (found : Found) → Enters begun k (caller_of w) w.closures (include_within w found) (include_within other found)
    entered_so found = record {
      around = k;
      under = begun.beneath;
      same = λ i. record (include_within w found) {
        begins = record ((include_within w found).begins) { frames = sym (writing_over names uses d None w.frames) i; floor = many names uses d w.frames i };
      };
      fits = record {
        framed = frames_writing names uses d w.closures begun.beneath k None w.frames fits.framed;
        count = fits.count;
        held = fits.held;
        grown = grown_itself w.closures;
        there = refl;
      };
      back = λ s v h. back_so begun start k w fits s begun.beneath k v h (with_writes (writes_of w.frames) (outermost (length w.frames) v.frames))
          (frames_writing names uses d v.closures begun.beneath k (writes_of w.frames) (outermost (length w.frames) v.frames)
          (frames_same names uses d w.closures v.closures begun.beneath k w.frames v.frames fits.framed h.framed));
    }

    missing_so : (ignore_missing : Bool) (vs : List Val) → Now k (not_found w ignore_missing vs) (not_found other ignore_missing vs)
    missing_so true vs = done_so
    missing_so false [] = done_so
    missing_so false (v ∷ vs) = refused_so begun start k w TemplateNotFound

    by_so : (limit : ℕ) (ignore_missing : Bool) (vs : List Val) (r : Choice)
        → Come k (included_by limit w ignore_missing vs r) (included_by limit other ignore_missing vs r)
    by_so limit ignore_missing vs (Ok None) = missing_so ignore_missing vs
    by_so limit ignore_missing vs (Ok (Some found)) = room_for_so begun start k w limit include_levels (include_within w found) (include_within other found) (entered_so found)
    by_so limit ignore_missing vs (Err kinds) = failed_so begun start k w kinds

    included_so : (a : Around) (ignore_missing : Bool) (choices : Result (List Val) ErrorKind)
        → Come k (included_from a w ignore_missing choices) (included_from a other ignore_missing choices)
    included_so a ignore_missing (Ok vs) = by_so a.limit ignore_missing vs (first_standing a (name_of a w.here) vs)
    included_so a ignore_missing (Err kind) = refused_so begun start k w kind

    -- blocks: each runs in a frame of its own
    block_so : (name : List ℕ) (home : Home) → Enters begun k (caller_of w) w.closures (block_within w name home) (block_within other name home)
    block_so name home = record {
      around = opened k;
      under = begun.beneath;
      same = λ i. record (block_within w name home) {
        begins = record ((block_within w name home).begins) {
          frames = sym (pushes names uses d w.closures begun.beneath k empty_frame w.frames fits.framed) i;
          floor = suc (many names uses d w.frames i);
        };
      };
      fits = record { framed = (λ id i. absurd (cc), fits.framed, refl); count = fits.count; held = fits.held; grown = grown_itself w.closures; there = refl };
      back = λ s v h. back_so begun start k w fits s begun.beneath (opened k) v h (outermost (length w.frames) v.frames)
          (frames_own names uses d w.closures v.closures begun.beneath false nothing k w.frames v.frames fits.framed h.framed);
    }

    block_called_so : (a : Around) (name : List ℕ) → Come k (block_called a w name) (block_called a other name)
    block_called_so a name =
        either_so begun start k (is_some w.parent || is_dropping w.captures) (caller_of w) w.closures (replies (told w (tells done))) (block_plan a w name) (replies (told other (tells done))) (block_plan a other name)
        done_so
        (bodies_so begun start k w fits a name (λ home. room_for a.limit 1 w (block_within w name home)) (λ home. room_for a.limit 1 other (block_within other name home))
        (λ home. room_for_so begun start k w a.limit 1 (block_within w name home) (block_within other name home) (block_so name home)) (bodies_at name w.blocks))

    -- and what stands behind it
    super_so : (named : Bool) (name : List ℕ) (place : ℕ) (home : Home)
        → Enters begun k (caller_of w) w.closures (super_within w named name place home) (super_within other named name place home)
    super_so named name place home = record {
      around = opened k;
      under = begun.beneath;
      same = λ i. record (super_within w named name place home) {
        begins = record ((super_within w named name place home).begins) {
          frames = sym (pushes names uses d w.closures begun.beneath k empty_frame w.frames fits.framed) i;
          floor = suc (many names uses d w.frames i);
        };
      };
      fits = record { framed = (λ id i. absurd (cc), fits.framed, refl); count = fits.count; held = fits.held; grown = grown_itself w.closures; there = refl };
      back = λ s v h. back_so begun start k w fits s begun.beneath (opened k) v h (outermost (length w.frames) v.frames)
          (frames_own names uses d w.closures v.closures begun.beneath false nothing k w.frames v.frames fits.framed h.framed);
    }

    behind_so : (a : Around) (named : Bool) (name : List ℕ) (place : ℕ) (o : Option Home) → Come k (behind_plan a w named name place o) (behind_plan a other named name place o)
    behind_so a named name place None = refused_so begun start k w InvalidOperation
    behind_so a named name place (Some home) =
        room_for_so begun start k w a.limit 1 (super_within w named name place home) (super_within other named name place home) (super_so named name place home)

    super_in_so : (a : Around) (named : Bool) (name : List ℕ) (o : Option Bodies) → Come k (super_in a w named name o) (super_in a other named name o)
    super_in_so a named name None = refused_so begun start k w InvalidOperation
    super_in_so a named name (Some b) = behind_so a named name b.place (slice_get b.homes (suc b.place))

    super_from_so : (a : Around) (named : Bool) (o : Option (List ℕ)) → Come k (super_from a w named o) (super_from a other named o)
    super_from_so a named None = refused_so begun start k w InvalidOperation
    super_from_so a named (Some name) = super_in_so a named name (bodies_at name w.blocks)

    super_called_so : (a : Around) (vs : List Val) → Come k (super_called a w vs) (super_called a other vs)
    super_called_so a [] = super_from_so a true w.block
    super_called_so a (v ∷ vs) = refused_so begun start k w InvalidOperation

    -- a template that is extended is loaded
    head_so : (name : List ℕ) (o : Option Head) → Come k (loaded_head w name o) (loaded_head other name o)
    head_so name None = refused_so begun start k w TemplateNotFound
    head_so name (Some h) = record { same = refl; left = λ t. absurd t; fits = λ t. fits }

    as_so : (a : Around) (r : Result (List ℕ) (List ErrorKind)) → Come k (loaded_as a w r) (loaded_as a other r)
    as_so a (Ok name) =
        either_so begun start k (is_among name w.loaded) (caller_of w) w.closures (replies (refused w InvalidOperation)) (loaded_head w name (a.head (standing name)))
        (replies (refused other InvalidOperation)) (loaded_head other name (a.head (standing name))) (refused_so begun start k w InvalidOperation) (head_so name (a.head (standing name)))
    as_so a (Err kinds) = failed_so begun start k w kinds

    loaded_so : (a : Around) (o : Option (List ℕ)) → Come k (loaded_named a w o) (loaded_named a other o)
    loaded_so a None = refused_so begun start k w InvalidOperation
    loaded_so a (Some name) = as_so a (a.joins name (name_of a w.here))

    load_so : (a : Around) (parent : Option (List ℕ)) (v : Val) → Come k (load_plan a w parent v) (load_plan a other parent v)
    load_so a None v = loaded_so a (text_in v)
    load_so a (Some parent) v = refused_so begun start k w InvalidOperation

    known_so : {X : Type 0} (answer : X → Answer) (r : forms.Known → Result X ErrorKind)
        → Now k (replied_with w answer (r (known_of w))) (replied_with other answer (r (known_of other)))
    known_so answer r =
        at_known k (replies (replied_with w answer (r (known_of w)))) (λ known. replies (replied_with other answer (r known))) (replied_so answer (r (known_of w)))

    -- each event that may be asked
    plans_so : (a : Around) → AskNoNames a.callables → (m : Made) → FitsMade w m → (e : Ask) → May names (uses begun.stream) start k m e → Come (learnt k e) (plan a w e) (plan a other e)
    plans_so a ask m making (look_up name) may = look_up_so name may
    plans_so a ask m making (store name v) may =
        framed_so (stored name k) (λ f fs. changed (scopes.stored name v f fs w) done) (λ f fs. changed (scopes.stored name v f fs other) done) w.frames fits.framed (λ f gs h. store_so name v f gs h)
    plans_so a ask m making (negate v) may = replied_so value (kinded (negated v))
    plans_so a ask m making (invert v) may =
        known_so value (λ known. guarded (forbids_truth a.undefined v) (kinded (inverted known v)))
    plans_so a ask m making (operate op left right) may =
        known_so value (λ known. guarded (forbids_operator a.undefined op left right) (kinded (operated known op left right)))
    plans_so a ask m making (compare op left right) may =
        known_so value (λ known. guarded (forbids_link a.undefined op left right) (kinded (compared known op left right)))
    plans_so a ask m making (get_attribute v name) may = known_so value (λ known. attribute_given a.undefined known v name)
    plans_so a ask m making (get_item v key) may = known_so value (λ known. item_given a.undefined known v key)
    plans_so a ask m making (get_slice v begin stop by) may = replied_so value (guarded (forbids_slicing a.undefined v) (kinded (slice_of v begin stop by)))
    plans_so a ask m making (build_list vs) may = replied_so value (kinded (list_made vs))
    plans_so a ask m making (build_tuple vs) may = replied_so value (kinded (tuple_made vs))
    plans_so a ask m making (build_map entries) may = replied_so value (kinded (map_made entries))
    plans_so a ask m making (build_kwargs entries) may = replied_so value (kinded (kwargs_made entries))
    plans_so a ask m making (merge_kwargs vs) may = known_so value (λ known. merged_keywords a.undefined known vs)
    plans_so a ask m making (apply_filter name vs) may = call_plans_so begun start k a ask w fits (invokes (filter_named name) vs)
    plans_so a ask m making (perform_test name vs) may = call_plans_so begun start k a ask w fits (invokes (test_named name) vs)
    plans_so a ask m making (call_function name vs) may =
        either_so begun start k (is_super_name name) (caller_of w) w.closures (super_called a w vs) (call_plan a w (name_called w.globals (looked_up name w) vs))
        (super_called a other vs) (call_plan a other (name_called w.globals (looked_up name other) vs)) (super_called_so a vs) (call_so a ask name vs may)
    plans_so a ask m making (set_attribute name v holder) may = attribute_so name v holder
    plans_so a ask m making (call_method name vs) may =
        at_known k (call_plan a w (first_method w.globals (known_of w) name vs))
        (λ known. call_plan a other (first_method w.globals known name vs))
        (call_plans_so begun start k a ask w fits (first_method w.globals (known_of w) name vs))
    plans_so a ask m making (call_value vs) may = call_plans_so begun start k a ask w fits (first_called w.globals vs)
    plans_so a ask m making (truth_of v) may = known_so truth (λ known. guarded (forbids_truth a.undefined v) (kinded (truths.truth_of known v)))
    plans_so a ask m making (unpack n v) may = replied_so items (unpacked_into n (unpacked v))
    plans_so a ask m making (spread vs) may = known_so items (λ known. items_of_each known vs)
    plans_so a ask m making (write_raw text) may = text_so text w.captures
    plans_so a ask m making (write_value v) may = written_so a v (forbids_printing a.undefined v)
    plans_so a ask m making open_frame may = opens_so a.limit w.opened empty_frame refl
    plans_so a ask m making close_frame may =
        own_so (closed k) (λ f fs. changed (record w { frames = fs }) done) (λ f fs. changed (record other { frames = fs }) done)
        (λ f gs h. record { same = refl; left = λ t. absurd t; fits = λ t. shut_so f gs may h })
    plans_so a ask m making (open_loop how v) may =
        let r : forms.Known → Result (List Val) ErrorKind = λ known. guarded (forbids_iterating a.undefined v) (kinded (iterated known v)) in
        let opening : World → Result (List Val) ErrorKind → Plan = λ v r. replies (changed_with v (λ after. done) (λ after. after) (opened_loop a.limit v how r)) in
        at_known (opened k) (opening w (r (known_of w))) (λ known. opening other (r known)) (open_loop_so a.limit how (r (known_of w)))
    plans_so a ask m making next_item may =
        loop_so (cleared k) (λ f x fs. next_reply w f x fs (slice_get x.items x.asked)) (λ f x fs. next_reply other f x fs (slice_get x.items x.asked))
        (λ f gs h x e. next_so f gs h x e (slice_get x.items x.asked))
    plans_so a ask m making did_not_iterate may =
        loop_so k (λ f x fs. told w (tells (value (values.truth (gave_none x))))) (λ f x fs. told other (tells (value (values.truth (gave_none x)))))
        (λ f gs h x e. record { same = refl; left = λ t. absurd t; fits = λ t. fits })
    plans_so a ask m making close_loop may =
        loop_so (closed k) (λ f x fs. closed_reply w x fs) (λ f x fs. closed_reply other x fs)
        (λ f gs h x e. closing_so f gs may.0 h x (λ is. left_known start k w.closures names uses d begun.beneath f gs h x e is may.0 may.1) x.called refl)
    plans_so a ask m making (open_escape v) may = escape_so (escape_named w.first v (text_in v))
    plans_so a ask m making close_escape may = put_back_so w.saved
    plans_so a ask m making (begin_capture keep) may = record { same = refl; left = λ t. absurd t; fits = λ t. fits }
    plans_so a ask m making end_capture may = capture_so w.captures
    plans_so a ask m making (enclose name) may =
        framed_so k (λ f fs. changed (enclosing name (writing f fs w)) done) (λ f fs. changed (enclosing name (writing f fs other)) done) w.frames fits.framed
        (λ f gs h. enclose_by name may f gs h (stands w f.writes))
    plans_so a ask m making get_closure may =
        framed_so k (λ f fs. told w (tells (closure f.writes))) (λ f fs. told other (tells (closure f.writes))) w.frames fits.framed
        (λ f gs h. record { same = refl; left = λ t. absurd t; fits = λ t. fits })
    plans_so a ask m making (build_macro what c) may = build_so what c (made_of w (uses begun.stream what.number) c m making may)
    plans_so a ask m making (recurse v) may =
        subst (λ (o : Option Loop). Come k (recurse_plan a w v) (recursed a other v o)) (sym (same_innermost names uses d w.base w.frames))
        (recursed_so begun start k w fits a v (innermost_loop (seen_frames w)))
    plans_so a ask m making (call_block name) may = block_called_so a name
    plans_so a ask m making super_block may = super_from_so a false w.block
    plans_so a ask m making (load_blocks v) may = load_so a w.parent v
    plans_so a ask m making (export_locals v) may =
        framed_so k (λ f fs. replied_with w value (kinded (module_of f.locals v))) (λ f fs. replied_with other value (kinded (module_of f.locals v))) w.frames fits.framed
        (λ f gs h. replied_so value (kinded (module_of f.locals v)))
    plans_so a ask m making (include ignore_missing v) may =
        at_known k (included_from a w ignore_missing (choices_in (known_of w) v)) (λ known. included_from a other ignore_missing (choices_in known v))
        (included_so a ignore_missing (choices_in (known_of w) v))

    pub responds_so : (a : Around) → AskNoNames a.callables → (runners : Runners) → ((key : Key) → RunsSo key (runners key)) → (m : Made) → FitsMade w m → (e : Ask)
        → May names (uses begun.stream) start k m e → Now (learnt k e) (respond a runners w e) (respond a runners other e)
    responds_so a ask runners so m making e may = settled_so (learnt k e) runners so (plan a w e) (plan a other e) (plans_so a ask m making e may)

  -- a process that asks what it may
  module _ (begun : Begun) where
    abbrev Ends : Known → Run World → Run World → Type 0
    Ends start r q = Runs begun.since begun.beneath start r q

    told_so : (start : Known) (go on : Answer → World → Run World) (after : World) (t : Told) → (IsLeft t → Fits names uses d begun start after)
        → ((a : Answer) → t ≡ tells a → Ends start (go a after) (on a (over_context d after))) → Ends start (go_on go after t) (go_on on (over_context d after) t)
    told_so start go on after (tells a) left so = so a refl
    told_so start go on after (fails kinds) left so = record { same = refl; fits = λ t. absurd t }
    told_so start go on after breaks_off left so = record { same = refl; fits = λ t. absurd t }
    told_so start go on after leaves left so = record { same = refl; fits = λ t. (begun.stream, left tt) }

    replied_on : (start : Known) (go : Answer → World → Run World) (r q : Reply World) → q ≡ over_reply d r → (IsLeft r.told → Fits names uses d begun start r.after)
        → ((a : Answer) → r.told ≡ tells a → Ends start (go a r.after) (go a (over_context d r.after))) → Ends start (replied go r) (replied go q)
    replied_on start go r q same left so =
        let at = told_so start go go r.after r.told left so in
        record { same = ap (replied go) same ∙ ap (behind r.items) at.same; fits = at.fits }

    is_told : (t : Told) (a : Answer) → t ≡ tells a → IsTold t
    is_told (tells b) a e = tt
    is_told (fails kinds) a e = absurd (cc)
    is_told breaks_off a e = absurd (cc)
    is_told leaves a e = absurd (cc)

    pub runs_so : (a : Around) → AskNoNames a.callables → (runners : Runners) → ((key : Key) → RunsSo key (runners key))
        → (start : Known) (p : Process) (k : Known) (m : Made) (w : World) → Fits names uses d begun k w → FitsMade w m → Within names (uses begun.stream) start k m p
        → Ends start (run (respond a runners) p w) (run (respond a runners) p (over_context d w))
    runs_so a ask runners so start (over operands) k m w fits making h = record { same = refl; fits = λ t. (begun.stream, fits_less names uses d begun start k w h fits) }
    runs_so a ask runners so start (step p) k m w fits making h =
        let at = runs_so a ask runners so start p k m w fits making h in
        record { same = ap (behind (paid [] ∷ [])) at.same; fits = at.fits }
    runs_so a ask runners so start (asks e go) k m w fits making h =
        let at = responds_so begun start k w fits a ask runners so m making e h.0 in
        let r = respond a runners w e in
        replied_on start (λ b v. run (respond a runners) (go b) v) r (respond a runners (over_context d w) e) at.same at.left
        (λ b is. runs_so a ask runners so start (go b) (learnt k e) (made m e b) r.after (at.fits (is_told r.told b is)) (made_so a runners w m making e b is) (h.1 b))
    runs_so a ask runners so start amiss k m w fits making h = record { same = refl; fits = λ t. absurd t }
    runs_so a ask runners so start cut_short k m w fits making h = record { same = refl; fits = λ t. absurd t }
    runs_so a ask runners so start stuck k m w fits making h = record { same = refl; fits = λ t. absurd t }

  -- what follows in a template that is extended begins where the run ended
  over_beneath : (operands : List Val) (e : End) → IsOver (beneath operands e) → IsOver e
  over_beneath operands (ends more) t = tt
  over_beneath operands _ t = t

  module _ (runners : Runners) (so : (key : Key) → RunsSo key (runners key)) (since : List Bindings) (under : List Frame) (k : Known) where
    parent_so : (key : Key) (o : Option (World → Run World)) → RunsSo key o → (w : World) → Fits names uses d (begun_at key.stream since under) (from_key key k) w
        → Runs since under (from_key key k) (parent_run o w) (parent_run o (over_context d w))
    parent_so key None runs w fits = record { same = refl; fits = λ t. absurd t }
    parent_so key (Some r) runs w fits = runs since under k w fits

    beneath_so : (before : List Item) (operands : List Val) (r q : Run World) → Runs since under k r q → Runs since under k (behind before (with_beneath operands r)) (behind before (with_beneath operands q))
    beneath_so before operands r q runs = record {
      same = ap (λ (x : Run World). behind before (with_beneath operands x)) runs.same;
      fits = λ t. runs.fits (over_beneath operands r.end t);
    }

    restarted_fits : (s : Stream) (name : List ℕ) (w : World) → Fits names uses d (begun_at s since under) k w
        → Fits names uses d (begun_at (keys.own (standing name)) since under) k (restarted name w)
    restarted_fits s name w fits = record { framed = fits.framed; count = fits.count; held = fits.held; grown = fits.grown; there = refl }

    on_so : (operands : List Val) (r : Run World) (s : Stream) → Fits names uses d (begun_at s since under) k r.after → (parent : Option (List ℕ))
        → Runs since under k (went_on runners operands r parent) (went_on runners operands (over_run d r) parent)
    on_so operands r s fits None = record { same = refl; fits = λ t. (s, fits) }
    on_so operands r s fits (Some name) =
        let key = whole_of (keys.own (standing name)) in
        beneath_so r.items operands (parent_run (runners key) (restarted name r.after)) (parent_run (runners key) (over_context d (restarted name r.after)))
        (parent_so key (runners key) (so key) (restarted name r.after) (restarted_fits s name r.after fits))

    at_so : (r : Run World) → (IsOver r.end → (s : Stream) × Fits names uses d (begun_at s since under) k r.after) → (e : End) → (IsOver e → IsOver r.end)
        → Runs since under k (followed_at runners r e) (followed_at runners (over_run d r) e)
    at_so r fits (ends operands) is = let there = fits (is tt) in on_so operands r there.0 there.1 r.after.parent
    at_so r fits _ is = record { same = refl; fits = fits }

    pub followed_so : (part : Part) (r q : Run World) → Runs since under k r q → Runs since under k (followed runners part r) (followed runners part q)
    followed_so whole r q runs =
        subst (λ (x : Run World). Runs since under k (followed_at runners r r.end) (followed_at runners x x.end)) (sym runs.same) (at_so r runs.fits r.end (λ t. t))
    followed_so _ r q runs = runs
