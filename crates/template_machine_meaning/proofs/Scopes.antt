-- Stores, attributes, frames, loops and escapes settle, and keep what the world around them has.
use Rattle.std.proofs.Common.{◌≡◌, ℕ, ◌≤◌, inl, Bool, true, false, List, [], ◌∷◌, ◌++◌, ◌==◌, length, is_some, slice_get, slice_set, Option, None, Some, Ok, Err, refl, sym, ap, ◌∙◌}
use Rattle.std.specs.BTreeMap.{insert_entry}
use Rattle.std.specs.Prelude.{if◌then◌else◌}
use Rattle.template_values_errors.specs.declared.ErrorKind.TheVariants.{InvalidOperation, CannotUnpack}
use Rattle.template_values_model.specs.Val as values
use Rattle.template_values_model.specs.Val.{Val}
use Rattle.template_values_core.specs.Order.{val_cmp}
use Rattle.template_compiler_tree.specs.Tree.{Expression, Optional, Expressions, variable, attribute, list_literal, absent, given, no_expressions, expressions_more, Assignments, no_assignments, assignments_more}
use Rattle.template_compiler_process.specs.Process as events
use Rattle.template_compiler_process.specs.Process.{Making, Ask, store, set_attribute, unpack, close_frame, enclose, get_closure, build_macro, done, items, tells, step, asks, amiss, on_done, on_value, on_items, on_closure, truth_of, on_truth}
use Rattle.template_compiler_process.specs.Trace.{run, replied}
use Rattle.template_values_operators.specs.Kinds.{is_undefined}
use Rattle.template_compiler_walk.specs.Statements.{number_of, target_walk, targets_walk, assignments_walk, enclosed_walk, making_walk, argument_walk, first_of, rest_of, arguments_walk}
use Rattle.template_compiler_walk.specs.Expressions.{expression_walk}
use Rattle.template_compiler_walk.specs.Runnable.{IsRunnableIfGiven, AreRunnable, IsTarget, AreTargets, AreAssignments}
use Rattle.template_machine_meaning.specs.World.{Bindings, Frame, World, local_at, closure_of, put_local, value_named, depth_of, has_room}
use Rattle.template_machine_meaning.specs.Records.{known_of}
use Rattle.template_machine_meaning.specs.Replies.{told, changed, replied_with, changed_with}
use Rattle.template_machine_meaning.specs.Namespaces.{may_hold_loop, put_attribute}
use Rattle.template_machine_meaning.specs.Closures as closures
use Rattle.template_machine_meaning.specs.Closures.{put_at, put_in_closure, stands, writing, writes_of, enclosing}
use Rattle.template_machine_meaning.specs.Macros.{macro_made}
use Rattle.template_machine_meaning.specs.Surroundings.{Programs, unpacked, unpacked_into, pushed, answer}
use Rattle.template_machine_meaning.proofs.Settling.{Walk, Settles, settles_then, settles_now, settles_step, settles_given, settles_refused, settles_before, settles_to}
use Rattle.template_machine_meaning.proofs.Keeping.{Keeps, loops_of, Top, top, IsFramed, behind_frame, may_close, on_frames_is, on_own_is}
use Rattle.template_machine_meaning.proofs.Entering.{AllCome}
use Rattle.template_machine_meaning.proofs.Blocks.{Kept}
use Rattle.template_machine_meaning.proofs.Expressions.{settles_tested, settles_expression}

module _ (names : List (List ℕ)) (s : Programs) (depth : ℕ) (deeper : AllCome names s depth) (base : World) (framed : IsFramed base) (deep : depth ≤ depth_of base) where
  -- what settles from every world that keeps what the base has
  abbrev Stays : Walk (Unit {0}) → Type 0
  Stays P = (w : World) → Keeps names base w → Settles {O = Unit {0}} s w (Kept names base) P

  -- a closure has another value under a name
  put_kept : (w : World) (number : ℕ) (name : List ℕ) (v : Val) (o : Option Bindings) → Keeps names base w → Keeps names base (put_at w number name v o)
  put_kept w number name v None kept = kept
  put_kept w number name v (Some held) kept =
      record { loops = kept.loops; outer = kept.outer; floor = kept.floor; saved = kept.saved; captures = kept.captures; meets = kept.meets; loads = kept.loads; added = kept.added }

  closure_kept : (w : World) (o : Option ℕ) (name : List ℕ) (v : Val) → Keeps names base w → Keeps names base (put_in_closure o name v w)
  closure_kept w None name v kept = kept
  closure_kept w (Some number) name v kept = put_kept w number name v (slice_get w.closures number) kept

  stored : (name : List ℕ) (v : Val) → Stays (λ m go. step (asks (store name v) (on_done (go tt))))
  stored name v w kept =
      let t = top w framed.loop framed.others (kept.loops ∙ framed.loops) in
      let there : World = record w { frames = record t.frame { locals = put_local name v t.frame.locals } ∷ t.rest } in
      let kept_there : Keeps names base there = record { loops = sym (ap loops_of t.frames) ∙ kept.loops; outer = kept.outer; floor = kept.floor; saved = kept.saved; captures = kept.captures; meets = kept.meets; loads = kept.loads; added = kept.added } in
      let z : World = closures.stored name v t.frame t.rest w in
      settles_step s w (Kept names base) (λ m go. asks (store name v) (on_done (go tt)))
      (settles_to s w z (Kept names base) (store name v) (λ m go. go tt)
      (λ n. on_frames_is w t.frame t.rest t.frames (λ f fs. changed (closures.stored name v f fs w) done))
      (settles_now s z (Kept names base) tt (closure_kept there t.frame.writes name v kept_there)))

  -- a closure takes names
  writing_kept : (w : World) (f : Frame) (fs : List Frame) → w.frames ≡ f ∷ fs → Keeps names base w → (b : Bool)
      → Keeps names base (if b then w else record w { frames = record f { writes = Some (length w.closures) } ∷ fs; closures = w.closures ++ [] ∷ [] })
  writing_kept w f fs is kept true = kept
  writing_kept w f fs is kept false =
      record { loops = sym (ap loops_of is) ∙ kept.loops; outer = kept.outer; floor = kept.floor; saved = kept.saved; captures = kept.captures; meets = kept.meets; loads = kept.loads; added = kept.added }

  enclosing_kept : (w : World) (name : List ℕ) → Keeps names base w → (b : Bool)
      → Keeps names base (if b then w else put_in_closure (writes_of w.frames) name (value_named name w) w)
  enclosing_kept w name kept true = kept
  enclosing_kept w name kept false = closure_kept w (writes_of w.frames) name (value_named name w) kept

  enclosed : (name : List ℕ) → Stays (λ m go. asks (enclose name) (on_done (go tt)))
  enclosed name w kept =
      let t = top w framed.loop framed.others (kept.loops ∙ framed.loops) in
      let v : World = writing t.frame t.rest w in
      let z : World = enclosing name v in
      settles_to s w z (Kept names base) (enclose name) (λ m go. go tt)
      (λ n. on_frames_is w t.frame t.rest t.frames (λ f fs. changed (enclosing name (writing f fs w)) done))
      (settles_now s z (Kept names base) tt
      (enclosing_kept v name (writing_kept w t.frame t.rest t.frames kept (stands w t.frame.writes)) (is_some (local_at name (closure_of v.closures (writes_of v.frames))))))

  all_enclosed : (ids : List (List ℕ)) → Stays (λ m go. enclosed_walk ids (go tt))
  all_enclosed [] w kept = settles_now s w (Kept names base) tt kept
  all_enclosed (id ∷ ids) w kept =
      settles_step s w (Kept names base) (λ m go. asks (enclose id) (on_done (enclosed_walk ids (go tt))))
      (settles_then s w (Kept names base) (Kept names base) (λ m go. asks (enclose id) (on_done (go tt))) (λ o m go. enclosed_walk ids (go tt)) (enclosed id w kept)
      (λ o x k. all_enclosed ids x k))

  -- and a macro is made
  closure_got : (w : World) → Keeps names base w → Settles {O = Option ℕ} s w (Kept names base) (λ m go. asks get_closure (on_closure go))
  closure_got w kept =
      let t = top w framed.loop framed.others (kept.loops ∙ framed.loops) in
      inl (record {
        items = [];
        least = 0;
        out = t.frame.writes;
        after = w;
        shaped = kept;
        is = λ n m le ge go.
            ap (replied (λ a u. run (answer s n) (on_closure go a) u)) (on_frames_is w t.frame t.rest t.frames (λ f fs. told w (tells (events.closure f.writes))));
      })

  macro_built : (making : Making) (c : Option ℕ) (w : World) → Keeps names base w → Settles {O = Val} s w (Kept names base) (λ m go. asks (build_macro making c) (on_value go))
  macro_built making c w kept =
      let z : World = record w { macros = w.macros ++ macro_made w making c ∷ [] } in
      let kept_there : Keeps names base z = record { loops = kept.loops; outer = kept.outer; floor = kept.floor; saved = kept.saved; captures = kept.captures; meets = kept.meets; loads = kept.loads; added = kept.added } in
      settles_given s w z (Kept names base) (build_macro making c) (values.macro_record w.id (length w.macros)) kept_there (λ n. refl)

  pub settles_making : (making : Making) (ids : List (List ℕ)) (w : World) → Keeps names base w → Settles {O = Val} s w (Kept names base) (λ m go. making_walk making ids go)
  settles_making making ids w kept =
      settles_step s w (Kept names base) (λ m go. enclosed_walk ids (step (asks get_closure (on_closure (λ c. asks (build_macro making c) (on_value go))))))
      (settles_then s w (Kept names base) (Kept names base) (λ m go. enclosed_walk ids (go tt)) (λ o m go. step (asks get_closure (on_closure (λ c. asks (build_macro making c) (on_value go))))) (all_enclosed ids w kept)
      (λ o x k. settles_step s x (Kept names base) (λ m go. asks get_closure (on_closure (λ c. asks (build_macro making c) (on_value go))))
      (settles_then s x (Kept names base) (Kept names base) (λ m go. asks get_closure (on_closure go)) (λ c m go. asks (build_macro making c) (on_value go)) (closure_got x k)
      (λ c y l. macro_built making c y l))))

  -- the items of a value, where they are as many as there are targets
  counted_by : (n : ℕ) (v : Val) (w : World) → Keeps names base w → (Q : List Val → Walk (Unit {0})) → ((vs : List Val) → Stays (Q vs)) → (vs : List Val) → unpacked v ≡ Some vs
      → (b : Bool) → (length vs == n) ≡ b → Settles {O = Unit {0}} s w (Kept names base) (λ m go. asks (unpack n v) (on_items n (λ us. Q us m go)))
  counted_by n v w kept Q stays vs is true e =
      settles_before s w w (Kept names base) [] 0 (λ m go. asks (unpack n v) (on_items n (λ us. Q us m go))) (Q vs)
      (λ k m le ge go.
      ap (λ o. replied (λ a t. run (answer s k) (on_items n (λ us. Q us m go) a) t) (replied_with w items (unpacked_into n o))) is
      ∙ ap (λ b. replied (λ a t. run (answer s k) (on_items n (λ us. Q us m go) a) t) (replied_with w items (if b then Ok vs else Err CannotUnpack))) e
      ∙ ap (λ b. run (answer s k) (if b then Q vs m go else amiss) w) e)
      (stays vs w kept)
  counted_by n v w kept Q stays vs is false e =
      settles_refused s w (Kept names base) (unpack n v) CannotUnpack (λ m go. on_items n (λ us. Q us m go))
      (λ k. ap (λ o. replied_with w items (unpacked_into n o)) is ∙ ap (λ b. replied_with w items (if b then Ok vs else Err CannotUnpack)) e)

  unpacked_by : (n : ℕ) (v : Val) (w : World) → Keeps names base w → (Q : List Val → Walk (Unit {0})) → ((vs : List Val) → Stays (Q vs))
      → (o : Option (List Val)) → unpacked v ≡ o → Settles {O = Unit {0}} s w (Kept names base) (λ m go. asks (unpack n v) (on_items n (λ vs. Q vs m go)))
  unpacked_by n v w kept Q stays None is =
      settles_refused s w (Kept names base) (unpack n v) CannotUnpack (λ m go. on_items n (λ vs. Q vs m go)) (λ k. ap (λ o. replied_with w items (unpacked_into n o)) is)
  unpacked_by n v w kept Q stays (Some vs) is = counted_by n v w kept Q stays vs is (length vs == n) refl

  -- a namespace that is known takes the value, one that is not refuses it
  put_by : (name : List ℕ) (v holder : Val) (number : ℕ) (w : World) → Keeps names base w → (o : Option (List (Val × Val)))
      → ((n : ℕ) → answer s n w (set_attribute name v holder) ≡ changed_with w (λ after. done) (λ after. after) (put_attribute w number name v o))
      → Settles {O = Unit {0}} s w (Kept names base) (λ m go. asks (set_attribute name v holder) (on_done (go tt)))
  put_by name v holder number w kept None is = settles_refused s w (Kept names base) (set_attribute name v holder) InvalidOperation (λ m go. on_done (go tt)) is
  put_by name v holder number w kept (Some entries) is =
      let z : World = record w { namespaces = slice_set w.namespaces number (insert_entry val_cmp entries (values.text name) v); held = if may_hold_loop v then w.opened else w.held } in
      let kept_there : Keeps names base z = record { loops = kept.loops; outer = kept.outer; floor = kept.floor; saved = kept.saved; captures = kept.captures; meets = kept.meets; loads = kept.loads; added = kept.added } in
      settles_to s w z (Kept names base) (set_attribute name v holder) (λ m go. go tt) is (settles_now s z (Kept names base) tt kept_there)

  attribute_set : (name : List ℕ) (v holder : Val) → Stays (λ m go. asks (set_attribute name v holder) (on_done (go tt)))
  attribute_set name v (values.namespace id number) w kept =
      put_by name v (values.namespace id number) number w kept ((known_of w).namespaces id number) (λ n. refl)
  attribute_set name v holder w kept = settles_refused s w (Kept names base) (set_attribute name v holder) InvalidOperation (λ m go. on_done (go tt)) (λ n. refl)

  mutual
    pub settles_target : (target : Expression) → IsTarget target → (v : Val) → Stays (λ m go. target_walk target v (go tt))
    settles_target (variable name) h v w kept = stored name v w kept
    settles_target (attribute e name) h v w kept =
        settles_then s w (Kept names base) (Kept names base) (λ m go. expression_walk e go) (λ holder m go. step (asks (set_attribute name v holder) (on_done (go tt)))) (settles_expression names s depth deeper base deep e h w kept)
        (λ holder x k. settles_step s x (Kept names base) (λ m go. asks (set_attribute name v holder) (on_done (go tt))) (attribute_set name v holder x k))
    settles_target (list_literal targets) h v w kept =
        settles_step s w (Kept names base) (λ m go. asks (unpack (number_of targets) v) (on_items (number_of targets) (λ vs. targets_walk targets vs (go tt))))
        (unpacked_by (number_of targets) v w kept (λ vs m go. targets_walk targets vs (go tt)) (λ vs. settles_targets targets h vs) (unpacked v) refl)
    settles_target _ h v w kept = absurd h

    settles_targets : (targets : Expressions) → AreTargets targets → (vs : List Val) → Stays (λ m go. targets_walk targets vs (go tt))
    settles_targets no_expressions h vs w kept = settles_now s w (Kept names base) tt kept
    settles_targets (expressions_more target targets) h [] w kept = settles_now s w (Kept names base) tt kept
    settles_targets (expressions_more target targets) h (v ∷ vs) w kept =
        settles_then s w (Kept names base) (Kept names base) (λ m go. target_walk target v (go tt)) (λ o m go. targets_walk targets vs (go tt)) (settles_target target h.0 v w kept)
        (λ o x k. settles_targets targets h.1 vs x k)

  pub settles_assignments : (assignments : Assignments) → AreAssignments assignments → Stays (λ m go. assignments_walk assignments (go tt))
  settles_assignments no_assignments h w kept = settles_now s w (Kept names base) tt kept
  settles_assignments (assignments_more target e more) h w kept =
      settles_then s w (Kept names base) (Kept names base) (λ m go. expression_walk e go) (λ v m go. target_walk target v (assignments_walk more (go tt))) (settles_expression names s depth deeper base deep e h.1 w kept)
      (λ v x k. settles_then s x (Kept names base) (Kept names base) (λ m go. target_walk target v (go tt)) (λ o m go. assignments_walk more (go tt)) (settles_target target h.0 v x k)
      (λ o y l. settles_assignments more h.2 y l))

  -- what is passed for parameters is stored, or their defaults
  argument_settles : (target : Expression) → IsTarget target → (o : Optional) → IsRunnableIfGiven o → (v : Val) → Stays (λ m go. argument_walk target o v (go tt))
  argument_settles target h absent runs v w kept = settles_target target h v w kept
  argument_settles target h (given default) runs v w kept =
      settles_step s w (Kept names base) (λ m go. step (asks (truth_of (values.truth (is_undefined v))) (on_truth (expression_walk default (λ u. target_walk target u (go tt))) (target_walk target v (go tt)))))
      (settles_tested s w (Kept names base) (values.truth (is_undefined v)) (λ m go. expression_walk default (λ u. target_walk target u (go tt))) (λ m go. target_walk target v (go tt))
      (settles_then s w (Kept names base) (Kept names base) (λ m go. expression_walk default go) (λ u m go. target_walk target u (go tt)) (settles_expression names s depth deeper base deep default runs w kept)
      (λ u x k. settles_target target h u x k))
      (settles_target target h v w kept))

  first_runs : (defaults : Expressions) → AreRunnable defaults → IsRunnableIfGiven (first_of defaults)
  first_runs no_expressions h = tt
  first_runs (expressions_more e es) h = h.0

  rest_runs : (defaults : Expressions) → AreRunnable defaults → AreRunnable (rest_of defaults)
  rest_runs no_expressions h = tt
  rest_runs (expressions_more e es) h = h.1

  pub settles_arguments : (targets defaults : Expressions) → AreTargets targets → AreRunnable defaults → (vs : List Val) → Stays (λ m go. arguments_walk targets defaults vs (go tt))
  settles_arguments no_expressions defaults h runs vs w kept = settles_now s w (Kept names base) tt kept
  settles_arguments (expressions_more target targets) defaults h runs [] w kept = settles_now s w (Kept names base) tt kept
  settles_arguments (expressions_more target targets) defaults h runs (v ∷ vs) w kept =
      settles_then s w (Kept names base) (Kept names base) (λ m go. argument_walk target (first_of defaults) v (go tt)) (λ o m go. arguments_walk targets (rest_of defaults) vs (go tt))
      (argument_settles target h.0 (first_of defaults) (first_runs defaults runs) v w kept)
      (λ o x k. settles_arguments targets (rest_of defaults) h.1 (rest_runs defaults runs) vs x k)

-- where a frame is pushed there is room for it, or the event is refused
pub settles_pushed : {O : Type 0} (s : Programs) (w u : World) (shape : O → World → Type 0) (e : Ask) (f : Frame) (Q : Walk O) (room : Bool) → has_room s.around.limit 1 u ≡ room
    → ((n : ℕ) → answer s n w e ≡ changed_with w (λ after. done) (λ after. after) (pushed s.around.limit u f)) → Settles {O = O} s (behind_frame u f) shape Q → Settles {O = O} s w shape (λ m go. asks e (on_done (Q m go)))
settles_pushed s w u shape e f Q true room is q =
    settles_to s w (behind_frame u f) shape e Q (λ n. is n ∙ ap (λ b. changed_with w (λ after. done) (λ after. after) (if b then Ok (behind_frame u f) else Err InvalidOperation)) room) q
settles_pushed s w u shape e f Q false room is q =
    settles_refused s w shape e InvalidOperation (λ m go. on_done (Q m go)) (λ n. is n ∙ ap (λ b. changed_with w (λ after. done) (λ after. after) (if b then Ok (behind_frame u f) else Err InvalidOperation)) room)

-- a world behind a frame whose loop is this one, or any: what is kept there keeps the base once the frame is closed
closed : (names : List (List ℕ)) (base w : World) (f : Frame) → Keeps names (behind_frame base f) w → (t : Top w f.loop (loops_of base.frames)) → Keeps names base (record w { frames = t.rest })
closed names base w f kept t = record { loops = t.others; outer = kept.outer; floor = kept.floor; saved = kept.saved; captures = kept.captures; meets = kept.meets; loads = kept.loads; added = kept.added }

-- a frame is closed
pub settles_closed : {O : Type 0} (names : List (List ℕ)) (s : Programs) (base w : World) (f : Frame) → base.floor ≤ length base.frames → Keeps names (behind_frame base f) w
    → (shape : O → World → Type 0) (Q : Walk O) → ((z : World) → Keeps names base z → Settles {O = O} s z shape Q)
    → Settles {O = O} s w shape (λ m go. asks close_frame (on_done (Q m go)))
settles_closed names s base w f floored kept shape Q next =
    let t = top w f.loop (loops_of base.frames) kept.loops in
    let z : World = record w { frames = t.rest } in
    settles_to s w z shape close_frame Q
    (λ n. on_own_is w t.frame t.rest t.frames (may_close names base w f floored kept t) (λ g gs. changed (record w { frames = gs }) done))
    (next z (closed names base w f kept t))
