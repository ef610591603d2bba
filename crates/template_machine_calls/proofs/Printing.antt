-- The text of a printed value goes into the innermost capture, or into the sink.
use Rattle.std.proofs.Common.{◌≡◌, ◌↔◌, inl, inr, Bool, true, false, ℕ, suc, ◌<◌, List, [], ◌∷◌, ◌++◌, Option, None, Result, Ok, Err, IsErrAnd, length, append-nil, arith, refl, sym, ap, ◌∙◌, subst}
use Rattle.std.proofs.lemmas.Bool.{false≢true}
use Rattle.template_values_errors.specs.declared.ErrorKind.{ErrorKind}
use Rattle.template_values_errors.specs.Memory.{NoMemory}
use Rattle.template_values_errors.specs.declared.modes.UndefinedBehavior.TheVariants.{Lenient}
use Rattle.template_values_model.specs.Val.{Val}
use Rattle.template_callables.specs.Callables.{no_callables}
use Rattle.template_callables.specs.Joins.{keeps_name}
use Rattle.template_compiler_process.specs.Process as events
use Rattle.template_compiler_process.specs.Process.{Counts, Answer, done, fails, on_done}
use Rattle.template_compiler_process.specs.Trace.{written, run, replied}
use Rattle.template_compiler_code.specs.Code.{Operand, single, emit}
use Rattle.template_machine_surroundings.specs.Writes.{AppendsBeginning}
use Rattle.template_machine_meaning.specs.Captures.{with_text}
use Rattle.template_machine_meaning.specs.Keeps.{KeepsWorld}
use Rattle.template_machine_meaning.specs.Replies.{told}
use Rattle.template_machine_meaning.specs.Surroundings.{Programs, answer, text_reply, written_reply}
use Rattle.template_machine_meaning.specs.World.{Capture, World}
use Rattle.template_machine_meaning.proofs.RunsKept.{world_stays}
use Rattle.template_machine_going.specs.Acts.{Next, Acts}
use Rattle.template_machine_going.specs.Outcomes.{WantsWith, faulting, StepsOut}
use Rattle.template_machine_going.specs.Told.{CountsFailures, FaultsSo, SparesSink, stop_of, stop_writing, told_writing}
use Rattle.template_machine_going.specs.declared.stop.Stop.{Stop}
use Rattle.template_machine_going.specs.declared.stop.Stop.TheVariants.{Fault, Want}
use Rattle.template_machine_going.proofs.Paths.{paid_nothing}
use Rattle.template_machine_going.proofs.Telling.{same_stop, told_spares, wants_written}
use Rattle.template_machine_operations.specs.Outcomes.{TellsFailures, Writes}
use Rattle.template_machine_state.specs.Changes.{capture_changed, caught}
use Rattle.template_machine_acts.proofs.Capturing.{passed_on, print_captures}
use Rattle.template_machine_acts.proofs.Laws.{print_acts, print_faults}
use Rattle.template_machine_steps.specs.Performs.{StepsHeardWriting, spot}
use Rattle.template_machine_steps.proofs.Hearing.{err_heard, heard_on, heard_writes}
use Rattle.template_machine_steps.proofs.Keeping.{stays}
use Rattle.template_machine_steps.proofs.Performing.{HaltsHere, wanted_here}
use Rattle.template_machine_steps.proofs.Stepping.{Halting, want_out}

-- programs of no key
abbrev pub no_programs : Programs
no_programs = record { process = λ n key. None; around = record { name = []; head = λ home. None; joins = keeps_name; callables = no_callables; limit = 0; undefined = Lenient } }

-- what is refused so is none of a sink that failed
so_spares : (is : List ErrorKind → Type 0) (stop : Stop) → FaultsSo is stop → SparesSink stop
so_spares is (Fault kinds) so = λ e. cc
so_spares is (Want kinds) why = λ e. cc

-- no failure is counted where the sink took nothing
spared_counts : (X : Type 0) (stop : Stop) (before after : ℕ) → SparesSink stop → after ≡ before → CountsFailures {X = X} (Err stop) before after
spared_counts X (Fault kinds) before after spares same = same
spared_counts X (Want kinds) before after spares same = inr ((λ is. spares (ap Want is)), same)

pub spared_failures : {X : Type 0} (result : Result X Stop) (stop : Stop) (count : ℕ) → SparesSink stop
    → IsErrAnd result (λ other. other ≡ stop) → CountsFailures result count count
spared_failures {X} (Ok x) stop count spares is = absurd is
spared_failures {X} (Err other) stop count spares is = spared_counts X other count count (subst SparesSink (sym is) spares) refl

pub told_failures : {X : Type 0} (result : Result X Stop) (kinds : List ErrorKind) (count : ℕ) → IsErrAnd result (λ stop. stop ≡ stop_of kinds)
    → CountsFailures result count count
told_failures result kinds count is = spared_failures result (stop_of kinds) count (told_spares kinds) is

-- what a call that may write tells of the sink is what it counts
pub failures_counted : (X : Type 0) (kinds : List ErrorKind) (before after : ℕ) → TellsFailures {X = X} (Err kinds) before after
    → CountsFailures {X = X} (Err (stop_writing kinds)) before after
failures_counted X kinds before after (inl rose) =
    subst (λ ks. CountsFailures {X = X} (Err (stop_writing ks)) before after) (sym rose.0) (inl (refl, rose.1))
failures_counted X kinds before after (inr other) =
    subst (λ (stop : Stop). CountsFailures {X = X} (Err stop) before after) (sym (same_stop kinds other.0))
    (spared_counts X (stop_of kinds) before after (told_spares kinds) other.1)

pub counted_as : (X : Type 0) (kinds : List ErrorKind) (stop : Stop) (before after : ℕ) → stop ≡ stop_writing kinds → TellsFailures {X = X} (Err kinds) before after
    → CountsFailures {X = X} (Err stop) before after
counted_as X kinds stop before after is tells =
    subst (λ (other : Stop). CountsFailures {X = X} (Err other) before after) (sym is) (failures_counted X kinds before after tells)

-- no capture is open
pub none_open : (b : Bool) (captures : List Capture) → (b ≡ true) ↔ (0 < length captures) → b ≡ false → captures ≡ []
none_open b [] is lacks = refl
none_open b (c ∷ cs) is lacks = absurd (false≢true (sym lacks ∙ is.1 (omega arith)))

beginning_alone : (before after : Option (List ℕ)) (text : List ℕ) → AppendsBeginning before after text → AppendsBeginning before after (text ++ [])
beginning_alone before after text appends = subst (AppendsBeginning before after) (sym (append-nil text)) appends

-- what an instruction that prints goes on with
abbrev going : (place : ℕ) (below : List Operand) → Next → Answer → events.Process
going place below next = on_done (next (suc place) below)

module _ (s : Programs) (v : Val) (below : List Operand) (w : World) where
  module _ (text : List ℕ) (given : written_reply s.around w v ≡ text_reply w text) where
    sink_wanted : (before : Counts) (place : ℕ) (left : Option ℕ) (taken after : Option (List ℕ)) → w.captures ≡ [] → AppendsBeginning taken after text
        → WantsWith (answer s) before emit (spot place (single v ∷ below) w left taken) left after
    sink_wanted before place left taken after none appends next = record {
      items = written text ∷ [];
      least = 0;
      rest = λ n. run (answer s n) (going place below next done) w;
      remained = left;
      is = λ n le. ap (replied (λ b t. run (answer s n) (going place below next b) t)) (given ∙ passed_on w text none);
      pays = paid_nothing left;
      stays = inl refl;
      text = beginning_alone taken after text appends;
    }

    sink_steps : {X : Type 0} (before : Counts) (place : ℕ) (left : Option ℕ) (taken after : Option (List ℕ)) (result : Result X (List ErrorKind)) → w.captures ≡ []
        → Writes text result taken after
        → StepsOut (answer s) before emit (spot place (single v ∷ below) w left taken) (told_writing result) (spot (suc place) below w left after)
    sink_steps before place left taken after (Ok x) none wrote =
        print_acts s before (spot place (single v ∷ below) w left taken) v below text after refl none given wrote
    sink_steps before place left taken after (Err kinds) none wrote =
        wants_written World (answer s) before emit (spot place (single v ∷ below) w left taken) (spot (suc place) below w left after) kinds wrote.0
        (sink_wanted before place left taken after none wrote.1)

    -- where no capture is open, the sink takes it
    pub sink_out : {X : Type 0} (taken after : Option (List ℕ)) (result : Result X (List ErrorKind)) (same : Result X Stop) → same ≡ told_writing result
        → w.captures ≡ [] → Writes text result taken after → StepsHeardWriting s emit (single v ∷ below) w taken same suc below w after
    sink_out {X} taken after result same is none wrote =
        subst (λ (r : Result X Stop). StepsHeardWriting s emit (single v ∷ below) w taken r suc below w after) (sym is)
        (record { out = λ before place left. sink_steps before place left taken after result none wrote; keeps = stays (told_writing result) w })

    caught_acts : (before : Counts) (place : ℕ) (left : Option ℕ) (taken : Option (List ℕ)) (captures : List Capture) → w.captures ≡ captures → 0 < length captures
        → Acts (answer s) before emit (spot place (single v ∷ below) w left taken)
        (spot (suc place) below (record w { captures = capture_changed (with_text text) captures }) left taken)
    caught_acts before place left taken [] among lt = absurd (omega (arith, lt))
    caught_acts before place left taken (c ∷ cs) among lt = print_captures s before (spot place (single v ∷ below) w left taken) v below text c cs refl among given

    -- else the innermost one does
    pub caught_out : {X : Type 0} (taken : Option (List ℕ)) (after : World) (x : X) → 0 < length w.captures → after ≡ caught text w
        → StepsHeardWriting s emit (single v ∷ below) w taken (Ok x) suc below after taken
    caught_out taken after x lt is = record {
      out = λ before place left.
          subst (λ t. Acts (answer s) before emit (spot place (single v ∷ below) w left taken) (spot (suc place) below t left taken)) (sym is)
          (caught_acts before place left taken w.captures refl lt);
      keeps = tt;
    }

  -- or no memory is left for it
  pub uncaught_out : {X : Type 0} (taken : Option (List ℕ)) (after : World) (kinds : List ErrorKind) (result : Result X Stop) → NoMemory kinds → after ≡ w
      → IsErrAnd result (λ stop. stop ≡ stop_of kinds) → StepsHeardWriting s emit (single v ∷ below) w taken result suc below after taken
  uncaught_out taken after kinds result why same is =
      heard_writes s emit (single v ∷ below) w taken result suc below after
      (err_heard s emit (single v ∷ below) w result suc below after kinds is
      (want_out s emit (single v ∷ below) w (Err kinds) suc below after kinds (subst (KeepsWorld w) (sym same) (world_stays w)) why refl))

  -- it is refused
  refused_halts : (stop : Stop) → FaultsSo (λ kinds. written_reply s.around w v ≡ told w (fails kinds)) stop → Halting s emit (single v ∷ below) w w stop
  refused_halts (Fault kinds) refuses place left taken =
      λ before to operands. faulting (print_faults s before (spot place (single v ∷ below) w left taken) v below kinds refl refuses)
  refused_halts (Want kinds) why place left taken =
      subst (λ ks. HaltsHere s emit (spot place (single v ∷ below) w left taken) w (Want ks)) (sym why) (wanted_here s emit (spot place (single v ∷ below) w left taken) w)

  pub refused_out : {X : Type 0} (taken : Option (List ℕ)) (stop : Stop) (result : Result X Stop)
      → FaultsSo (λ kinds. written_reply s.around w v ≡ told w (fails kinds)) stop → IsErrAnd result (λ other. other ≡ stop)
      → StepsHeardWriting s emit (single v ∷ below) w taken result suc below w taken
  refused_out taken stop result why is =
      heard_writes s emit (single v ∷ below) w taken result suc below w
      (heard_on s emit (single v ∷ below) w result suc below w stop (world_stays w) (so_spares (λ kinds. written_reply s.around w v ≡ told w (fails kinds)) stop why)
      (refused_halts stop why) is)

pub refused_failures : {X : Type 0} (is : List ErrorKind → Type 0) (stop : Stop) (result : Result X Stop) (count : ℕ) → FaultsSo is stop
    → IsErrAnd result (λ other. other ≡ stop) → CountsFailures result count count
refused_failures is stop result count why same = spared_failures result stop count (so_spares is stop why) same
