-- Each event that opens and closes nothing settles, where keys come to their ends one level deeper, and keeps what the world has.
use Rattle.std.proofs.Common.{◌≡◌, ℕ, ◌+◌, ◌≤◌, inl, inr, Bool, true, false, List, [], ◌∷◌, ◌++◌, ◌==◌, length, is_some, slice_get, slice_set, map, Option, None, Some, Result, Ok, Err, refl, sym, ap, subst, ◌∙◌}
use Rattle.std.proofs.lemmas.Bool.{eqb-true}
use Rattle.std.specs.BTreeMap.{insert_entry}
use Rattle.std.specs.Prelude.{if◌then◌else◌}
use Rattle.template_values_errors.specs.declared.ErrorKind.{ErrorKind}
use Rattle.template_values_errors.specs.declared.ErrorKind.TheVariants.{InvalidOperation, UndefinedError, CannotUnpack}
use Rattle.template_values_model.specs.Val as values
use Rattle.template_values_model.specs.Val.{Val}
use Rattle.template_values_core.specs.Order.{val_cmp}
use Rattle.template_values_forms.specs.Escaped.{escaped}
use Rattle.template_values_forms.specs.Truth as truths
use Rattle.template_callables.specs.Callables as callables
use Rattle.template_callables.specs.Callables.{View, Formatted, writes, forbids}
use Rattle.template_compiler_process.specs.Process as events
use Rattle.template_compiler_process.specs.Process.{Making, Ask, store, set_attribute, unpack, spread, truth_of, write_raw, write_value, call_function, export_locals, enclose, get_closure, build_macro, Answer, done, value, truth, items, tells, fails, Process, asks, amiss, on_done, on_value, on_truth, on_items, on_all, on_closure}
use Rattle.template_compiler_process.specs.Trace.{written, Reply, run, replied}
use Rattle.template_compiler_walk.specs.Statements.{is_super_name}
use Rattle.template_machine_meaning.specs.World.{Bindings, Frame, Capture, World, local_at, closure_of, put_local, value_named, looked_up, depth_of}
use Rattle.template_machine_meaning.specs.Records.{known_of}
use Rattle.template_machine_meaning.specs.Captures.{with_text}
use Rattle.template_machine_meaning.specs.Undefined.{forbids_printing, forbids_truth}
use Rattle.template_machine_meaning.specs.Replies.{told, changed, refused, kinded, guarded, replied_with, changed_with}
use Rattle.template_machine_meaning.specs.Namespaces.{may_hold_loop, put_attribute}
use Rattle.template_machine_meaning.specs.Closures as closures
use Rattle.template_machine_meaning.specs.Closures.{put_at, put_in_closure, stands, writing, writes_of, enclosing}
use Rattle.template_machine_meaning.specs.Macros.{macro_made}
use Rattle.template_machine_meaning.specs.Modules.{module_of}
use Rattle.template_machine_meaning.specs.Functions.{Called, name_called}
use Rattle.template_machine_meaning.specs.Plans.{caller_of}
use Rattle.template_machine_meaning.specs.Spreads.{items_of_each}
use Rattle.template_machine_meaning.specs.Blocks.{super_called}
use Rattle.template_machine_meaning.specs.Calls.{view_of, call_plan}
use Rattle.template_machine_meaning.specs.Surroundings.{Programs, plan, unpacked, unpacked_into, text_reply, printed_reply, formatted_reply, format_reply, answer}
use Rattle.template_machine_meaning.proofs.Settling.{answered}
use Rattle.template_machine_meaning.proofs.Keeping.{Keeps, keeps_itself, loops_of, met, top, IsFramed, on_frames_is}
use Rattle.template_machine_codes.specs.Streams.{Codes, IsBodyReached}
use Rattle.template_machine_codes.proofs.Sound.{Each, each_append, MacroSound, LoopSound, Sound, Held, held_itself}
use Rattle.template_machine_codes.proofs.Settling.{Settles, settles_now, settles_failed, settles_value, settles_items, settles_given, settles_before, settles_to}
use Rattle.template_machine_codes.proofs.Calling.{settles_plan, call_comes}
use Rattle.template_machine_codes.proofs.Within.{AllReach, Holds, Enters, holds_stand, entries, settles_super}

module _ (names : List (List ℕ)) (codes : Codes) (s : Programs) (w : World) (sound : Sound codes w) where
  abbrev HeldSo : {O : Type 0} → O → World → Type 0
  HeldSo o v = Held names codes w v

  abbrev pub Gives : Ask → Type 0
  Gives e = Settles codes {O = Val} s w HeldSo (λ m go. asks e (on_value go))

  abbrev pub Does : Ask → Type 0
  Does e = Settles codes {O = Unit {0}} s w HeldSo (λ m go. asks e (on_done (go tt)))

  itself : Keeps names w w
  itself = keeps_itself names w

  held : Held names codes w w
  held = held_itself names codes w sound

  -- in a world that has the same macros and loops
  held_so : (z : World) → Keeps names w z → Each (MacroSound codes) z.macros → Each (LoopSound codes) (loops_of z.frames) → Each (LoopSound codes) (map Some z.closed) → z.here ≡ w.here → Held names codes w z
  held_so z kept macros frames closed here = record { kept = kept; sound = record { macros = macros; frames = frames; closed = closed }; here = here }

  -- a value is given, or refused, and nothing changes
  pub given : (e : Ask) (r : Result Val ErrorKind) → ((n : ℕ) → answer s n w e ≡ replied_with w value r) → Gives e
  given e r is = settles_value codes s w HeldSo e r sound (λ v. held) is

  pub spread_gives : (vs : List Val) → Settles codes {O = List Val} s w HeldSo (λ m go. asks (spread vs) (on_all go))
  spread_gives vs = settles_items codes s w HeldSo (spread vs) (items_of_each (known_of w) vs) sound (λ us. held) (λ n. refl)

  -- a test of a value
  abbrev decided_by : (Bool → Process) → Answer → Process
  decided_by go = on_truth (go true) (go false)

  decided : (e : Ask) (r : Result Bool ErrorKind) → ((n : ℕ) → answer s n w e ≡ replied_with w truth r)
      → Settles codes {O = Bool} s w HeldSo (λ m go. asks e (decided_by go))
  decided e (Ok true) is = inl (record { items = []; least = 0; out = true; after = w; shaped = held; is = λ n m le ge go. answered s w e (told w (tells (truth true))) decided_by is n go })
  decided e (Ok false) is = inl (record { items = []; least = 0; out = false; after = w; shaped = held; is = λ n m le ge go. answered s w e (told w (tells (truth false))) decided_by is n go })
  decided e (Err kind) is = inr (record { items = []; least = 0; kinds = kind ∷ []; after = w; kept = sound; is = λ n m le ge go. answered s w e (refused w kind) decided_by is n go })

  pub truth_decides : (v : Val) → Settles codes {O = Bool} s w HeldSo (λ m go. asks (truth_of v) (on_truth (go true) (go false)))
  truth_decides v = decided (truth_of v) (guarded (forbids_truth s.around.undefined v) (kinded (truths.truth_of (known_of w) v))) (λ n. refl)

  -- the items of a value, where they are as many as are wanted
  module _ (n : ℕ) (v : Val) where
    abbrev Counted : List Val → World → Type 0
    Counted vs y = Held names codes w y × (length vs ≡ n)

    counted_by : (vs : List Val) → unpacked v ≡ Some vs → (b : Bool) → (length vs == n) ≡ b
        → Settles codes {O = List Val} s w Counted (λ m go. asks (unpack n v) (on_items n go))
    counted_by vs is true e = inl (record {
      items = [];
      least = 0;
      out = vs;
      after = w;
      shaped = (held, eqb-true (length vs) n e);
      is = λ k m le ge go.
          ap (λ o. replied (λ a t. run (answer s k) (on_items n go a) t) (replied_with w items (unpacked_into n o))) is
          ∙ ap (λ b. replied (λ a t. run (answer s k) (on_items n go a) t) (replied_with w items (if b then Ok vs else Err CannotUnpack))) e
          ∙ ap (λ b. run (answer s k) (if b then go vs else amiss) w) e;
    })
    counted_by vs is false e =
        settles_failed codes s w Counted (unpack n v) (CannotUnpack ∷ []) (on_items n) sound
        (λ k. ap (λ o. replied_with w items (unpacked_into n o)) is ∙ ap (λ b. replied_with w items (if b then Ok vs else Err CannotUnpack)) e)

    unpacked_by : (o : Option (List Val)) → unpacked v ≡ o → Settles codes {O = List Val} s w Counted (λ m go. asks (unpack n v) (on_items n go))
    unpacked_by None is =
        settles_failed codes s w Counted (unpack n v) (CannotUnpack ∷ []) (on_items n) sound (λ k. ap (λ o. replied_with w items (unpacked_into n o)) is)
    unpacked_by (Some vs) is = counted_by vs is (length vs == n) refl

    pub unpack_gives : Settles codes {O = List Val} s w (λ vs y. Held names codes w y × (length vs ≡ n)) (λ m go. asks (unpack n v) (on_items n go))
    unpack_gives = unpacked_by (unpacked v) refl

  -- a text is written, where these captures are open
  abbrev text_into : List ℕ → List Capture → Reply World
  text_into text captures = elim captures [
    | [] ↦ record { told = tells done; items = written text ∷ []; after = w }
    | c ∷ cs ↦ changed (record w { captures = with_text text c ∷ cs }) done
  ]

  written_out : (e : Ask) (text : List ℕ) → ((n : ℕ) → answer s n w e ≡ text_reply w text) → (captures : List Capture) → w.captures ≡ captures → Does e
  written_out e text is [] none =
      settles_before codes s w w HeldSo (written text ∷ []) 0 (λ m go. asks e (on_done (go tt))) (λ m go. go tt)
      (λ n m le ge go. ap (replied (λ a t. run (answer s n) (on_done (go tt) a) t)) (is n ∙ ap (text_into text) none))
      (settles_now codes s w HeldSo tt held)
  written_out e text is (c ∷ cs) some =
      let z : World = record w { captures = with_text text c ∷ cs } in
      let kept : Keeps names w z = record { loops = itself.loops; outer = itself.outer; floor = itself.floor; saved = itself.saved; captures = ap (λ (ds : List Capture). length ds + met w.parent) (sym some); meets = itself.meets; loads = itself.loads; added = itself.added } in
      settles_to codes s w z HeldSo e (λ m go. go tt) (λ n. is n ∙ ap (text_into text) some) (settles_now codes s z HeldSo tt (held_so z kept sound.macros sound.frames sound.closed refl))

  pub raw_written : (text : List ℕ) → Does (write_raw text)
  raw_written text = written_out (write_raw text) text (λ n. refl) w.captures refl

  failed_out : (e : Ask) (kinds : List ErrorKind) → ((n : ℕ) → answer s n w e ≡ told w (fails kinds)) → Does e
  failed_out e kinds is = settles_failed codes s w HeldSo e kinds (λ go. on_done (go tt)) sound is

  -- a value is written: under the escape in force, or as a formatter says
  module _ (v : Val) where
    text_out : (r : Result (List ℕ) ErrorKind) → ((n : ℕ) → answer s n w (write_value v) ≡ printed_reply w r) → Does (write_value v)
    text_out (Ok text) is = written_out (write_value v) text is w.captures refl
    text_out (Err kind) is = failed_out (write_value v) (kind ∷ []) is

    formatted_out : (f : Formatted) → ((n : ℕ) → answer s n w (write_value v) ≡ formatted_reply w v f) → Does (write_value v)
    formatted_out (writes text) is = written_out (write_value v) text is w.captures refl
    formatted_out (callables.escapes other) is = text_out (kinded (escaped w.escape (known_of w) other)) is
    formatted_out (forbids kinds) is = failed_out (write_value v) kinds is

    format_out : (o : Option (View → Val → Formatted)) → ((n : ℕ) → answer s n w (write_value v) ≡ format_reply s.around w v o) → Does (write_value v)
    format_out None is = text_out (kinded (escaped w.escape (known_of w) v)) is
    format_out (Some formats) is = formatted_out (formats (view_of s.around w) v) is

    printed_by_rule : (b : Bool) → forbids_printing s.around.undefined v ≡ b → Does (write_value v)
    printed_by_rule true e =
        failed_out (write_value v) (UndefinedError ∷ [])
        (λ n. ap (λ (b : Bool). if b then refused w UndefinedError else format_reply s.around w v s.around.callables.formats) e)
    printed_by_rule false e =
        format_out s.around.callables.formats
        (λ n. ap (λ (b : Bool). if b then refused w UndefinedError else format_reply s.around w v s.around.callables.formats) e)

    pub value_written : Does (write_value v)
    value_written = printed_by_rule (forbids_printing s.around.undefined v) refl

  -- a namespace that is known takes the value, one that is not refuses it
  put_by : (name : List ℕ) (v holder : Val) (number : ℕ) (o : Option (List (Val × Val)))
      → ((n : ℕ) → answer s n w (set_attribute name v holder) ≡ changed_with w (λ after. done) (λ after. after) (put_attribute w number name v o)) → Does (set_attribute name v holder)
  put_by name v holder number None is = settles_failed codes s w HeldSo (set_attribute name v holder) (InvalidOperation ∷ []) (λ go. on_done (go tt)) sound is
  put_by name v holder number (Some entries) is =
      let z : World = record w { namespaces = slice_set w.namespaces number (insert_entry val_cmp entries (values.text name) v); held = if may_hold_loop v then w.opened else w.held } in
      let kept : Keeps names w z = record { loops = itself.loops; outer = itself.outer; floor = itself.floor; saved = itself.saved; captures = itself.captures; meets = itself.meets; loads = itself.loads; added = itself.added } in
      settles_to codes s w z HeldSo (set_attribute name v holder) (λ m go. go tt) is (settles_now codes s z HeldSo tt (held_so z kept sound.macros sound.frames sound.closed refl))

  pub attribute_set : (name : List ℕ) (v holder : Val) → Does (set_attribute name v holder)
  attribute_set name v (values.namespace id number) =
      put_by name v (values.namespace id number) number ((known_of w).namespaces id number) (λ n. refl)
  attribute_set name v holder = settles_failed codes s w HeldSo (set_attribute name v holder) (InvalidOperation ∷ []) (λ go. on_done (go tt)) sound (λ n. refl)

  -- a macro is made
  pub macro_built : (making : Making) (c : Option ℕ) → IsBodyReached codes w.here making.number → Gives (build_macro making c)
  macro_built making c reached =
      let z : World = record w { macros = w.macros ++ macro_made w making c ∷ [] } in
      let kept : Keeps names w z = record { loops = itself.loops; outer = itself.outer; floor = itself.floor; saved = itself.saved; captures = itself.captures; meets = itself.meets; loads = itself.loads; added = itself.added } in
      settles_given codes s w z HeldSo (build_macro making c) (values.macro_record w.id (length w.macros))
      (held_so z kept (each_append (MacroSound codes) w.macros (macro_made w making c ∷ []) sound.macros (reached, tt)) sound.frames sound.closed refl) (λ n. refl)

  -- a closure has another value under a name
  put_kept : (z : World) (number : ℕ) (name : List ℕ) (v : Val) (o : Option Bindings) → Held names codes w z → Held names codes w (put_at z number name v o)
  put_kept z number name v None h = h
  put_kept z number name v (Some bound) h =
      let k = h.kept in
      record {
        kept = record { loops = k.loops; outer = k.outer; floor = k.floor; saved = k.saved; captures = k.captures; meets = k.meets; loads = k.loads; added = k.added };
        sound = record { macros = h.sound.macros; frames = h.sound.frames; closed = h.sound.closed };
        here = h.here;
      }

  closure_kept : (z : World) (o : Option ℕ) (name : List ℕ) (v : Val) → Held names codes w z → Held names codes w (put_in_closure o name v z)
  closure_kept z None name v h = h
  closure_kept z (Some number) name v h = put_kept z number name v (slice_get z.closures number) h

  -- what asks for the innermost frame
  module _ (framed : IsFramed w) where
    pub stored : (name : List ℕ) (v : Val) → Does (store name v)
    stored name v =
        let t = top w framed.loop framed.others framed.loops in
        let there : World = record w { frames = record t.frame { locals = put_local name v t.frame.locals } ∷ t.rest } in
        let kept : Keeps names w there = record { loops = sym (ap loops_of t.frames); outer = itself.outer; floor = itself.floor; saved = itself.saved; captures = itself.captures; meets = itself.meets; loads = itself.loads; added = itself.added } in
        let z : World = closures.stored name v t.frame t.rest w in
        settles_to codes s w z HeldSo (store name v) (λ m go. go tt)
        (λ n. on_frames_is w t.frame t.rest t.frames (λ f fs. changed (closures.stored name v f fs w) done))
        (settles_now codes s z HeldSo tt (closure_kept there t.frame.writes name v
        (held_so there kept sound.macros (subst (Each (LoopSound codes)) (ap loops_of t.frames) sound.frames) sound.closed refl)))

    -- a closure takes names
    writing_kept : (f : Frame) (fs : List Frame) → w.frames ≡ f ∷ fs → (b : Bool)
        → Held names codes w (if b then w else record w { frames = record f { writes = Some (length w.closures) } ∷ fs; closures = w.closures ++ [] ∷ [] })
    writing_kept f fs is true = held
    writing_kept f fs is false =
        let z : World = record w { frames = record f { writes = Some (length w.closures) } ∷ fs; closures = w.closures ++ [] ∷ [] } in
        let kept : Keeps names w z = record { loops = sym (ap loops_of is); outer = itself.outer; floor = itself.floor; saved = itself.saved; captures = itself.captures; meets = itself.meets; loads = itself.loads; added = itself.added } in
        held_so z kept sound.macros (subst (Each (LoopSound codes)) (ap loops_of is) sound.frames) sound.closed refl

    enclosing_kept : (z : World) (name : List ℕ) → Held names codes w z → (b : Bool) → Held names codes w (if b then z else put_in_closure (writes_of z.frames) name (value_named name z) z)
    enclosing_kept z name h true = h
    enclosing_kept z name h false = closure_kept z (writes_of z.frames) name (value_named name z) h

    pub enclosed : (name : List ℕ) → Does (enclose name)
    enclosed name =
        let t = top w framed.loop framed.others framed.loops in
        let v : World = writing t.frame t.rest w in
        let z : World = enclosing name v in
        settles_to codes s w z HeldSo (enclose name) (λ m go. go tt)
        (λ n. on_frames_is w t.frame t.rest t.frames (λ f fs. changed (enclosing name (writing f fs w)) done))
        (settles_now codes s z HeldSo tt
        (enclosing_kept v name (writing_kept t.frame t.rest t.frames (stands w t.frame.writes)) (is_some (local_at name (closure_of v.closures (writes_of v.frames))))))

    pub closure_got : Settles codes {O = Option ℕ} s w HeldSo (λ m go. asks get_closure (on_closure go))
    closure_got =
        let t = top w framed.loop framed.others framed.loops in
        inl (record {
          items = [];
          least = 0;
          out = t.frame.writes;
          after = w;
          shaped = held;
          is = λ n m le ge go.
              ap (replied (λ a u. run (answer s n) (on_closure go a) u)) (on_frames_is w t.frame t.rest t.frames (λ f fs. told w (tells (events.closure f.writes))));
        })

    pub exported : (v : Val) → Gives (export_locals v)
    exported v =
        let t = top w framed.loop framed.others framed.loops in
        given (export_locals v) (kinded (module_of t.frame.locals v))
        (λ n. on_frames_is w t.frame t.rest t.frames (λ f fs. replied_with w value (kinded (module_of f.locals v))))

  -- what is called comes to its end deeper
  module _ (depth : ℕ) (deeper : AllReach names codes s depth) (deep : depth ≤ depth_of w) where
    pub called : (e : Ask) (c : Called) → plan s.around w e ≡ call_plan s.around w c → Gives e
    called e c planned =
        settles_plan codes s (Holds names codes s depth deeper w deep (caller_of w)) (Held names codes w) (λ y h. h.0) (λ y h. h.0.sound) w sound e (call_plan s.around w c) planned
        (call_comes (Holds names codes s depth deeper w deep (caller_of w)) (holds_stand names codes s depth deeper w deep (caller_of w)) (Enters names codes s depth deeper w deep (caller_of w)) s.around
        (entries names codes s depth deeper w deep (caller_of w)) w (held, refl) c)

    function_by : (name : List ℕ) (vs : List Val) (b : Bool) → is_super_name name ≡ b → Gives (call_function name vs)
    function_by name vs true e =
        settles_super names codes s w sound depth deeper deep (call_function name vs) vs
        (ap (λ b. if b then super_called s.around w vs else call_plan s.around w (name_called w.globals (looked_up name w) vs)) e)
    function_by name vs false e =
        called (call_function name vs) (name_called w.globals (looked_up name w) vs)
        (ap (λ b. if b then super_called s.around w vs else call_plan s.around w (name_called w.globals (looked_up name w) vs)) e)

    pub function_called : (name : List ℕ) (vs : List Val) → Gives (call_function name vs)
    function_called name vs = function_by name vs (is_super_name name) refl
