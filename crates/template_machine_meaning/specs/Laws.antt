-- The laws of meanings under bounds.
use Rattle.std.specs.Prelude.{◌≡◌, ℕ, ◌<◌, ◌≤◌, true, List, [], ◌∷◌, length, Option, None, Some, IsSome}
use Rattle.std.specs.Option.{ForSome}
use Rattle.template_values_model.specs.Val.{Val}
use Rattle.template_compiler_tree.specs.Tree.{Expression}
use Rattle.template_compiler_process.specs.Process.{Process, Below}
use Rattle.template_compiler_process.specs.Drive.{End, ends, faults}
use Rattle.template_compiler_process.specs.Trace.{run}
use Rattle.template_compiler_process.specs.Approximants.{Extends, IsFinished}
use Rattle.template_compiler_walk.specs.Runnable.{IsRunnable, IsRunnableTemplate}
use Rattle.template_compiler_walk.specs.Statements.{standalone_walk}
use Rattle.template_machine_meaning.specs.World.{Loop, Frame, World}
use Rattle.template_machine_meaning.specs.Records.{loop_numbered, all_loops}
use Rattle.template_machine_meaning.specs.Plans.{ran}
use Rattle.template_machine_meaning.specs.Blocks.{is_among}
use Rattle.template_machine_meaning.specs.Keys.{Part, rounds_of, Key}
use Rattle.template_machine_meaning.specs.Surroundings.{Programs, runners, answer}
use Rattle.template_machine_meaning.specs.Meaning.{Standing, Setting, walks_of, named_so, meaning, evaluation, evaluated}

-- the second goes further
abbrev pub ProcessGoesFurther : Option Process → Option Process → Type 0
ProcessGoesFurther None None = Unit {0}
ProcessGoesFurther (Some p) (Some q) = Below p q
ProcessGoesFurther _ _ = ⊥

-- under greater bounds the process of each key goes further
abbrev pub Rises : Programs → Type 0
Rises s = (n m : ℕ) (key : Key) → n ≤ m → ProcessGoesFurther (s.process n key) (s.process m key)

-- Under a greater bound a process that goes further gives a run that extends.
abbrev pub BoundsExtend : Type 0
BoundsExtend = (s : Programs) → Rises s → (n m : ℕ) → n ≤ m → (p q : Process) (w : World) → Below p q
    → Extends (run (answer s n) p w) (run (answer s m) q w)

-- A meaning that is finished under a bound is the same under every greater one, and what is not has begun there.
abbrev pub MeaningsExtend : Type 0
MeaningsExtend = (setting : Setting) (n m : ℕ) → n ≤ m → (root : Standing) (w : World)
    → Extends (meaning setting root n w) (meaning setting root m w)

-- So it is of what each key comes to.
abbrev pub KeysExtend : Type 0
KeysExtend = (setting : Setting) (root : Option Standing) (n m : ℕ) → n ≤ m → (key : Key) (w : World)
    → Extends (ran (runners (walks_of setting root) n key) w) (ran (runners (walks_of setting root) m key) w)

-- each template that stands is made of constructs that have a walk
abbrev pub AreAllRunnable : Setting → Type 0
AreAllRunnable setting = (name : List ℕ) (t : Standing) → setting.templates name ≡ Some t → IsRunnableTemplate t.tree

-- so many names of templates are enough to list all that stand
abbrev pub ListsAll : Setting → List (List ℕ) → Type 0
ListsAll setting names = (name : List ℕ) → IsSome (setting.templates name) → is_among name names ≡ true

-- a run may begin here: there is a frame, it owns none of those that it may not close, and it extends no template yet
pub record MayBegin (w : World) : Type 0 where
  pub framed : 0 < length w.frames
  pub floor : w.floor ≤ length w.frames
  pub alone : w.parent ≡ None

-- Where rounds begin that are called, the innermost frame is their loop's, and no frame may be closed.
pub record MayGoRound (w : World) : Type 0 where
  pub frame : Frame
  pub frames : List Frame
  pub is : w.frames ≡ frame ∷ frames
  pub floor : w.floor ≡ length w.frames
  pub loop : Loop
  pub looping : frame.loop ≡ Some loop
  pub called : loop.called ≡ true

abbrev pub MayStart : Part → World → Type 0
MayStart (rounds_of number) w = MayGoRound w
MayStart part w = MayBegin w

-- Every run ends: under some bound it is finished.
abbrev pub EveryRunEnds : Type 0
EveryRunEnds = (setting : Setting) (names : List (List ℕ)) → ListsAll setting names → AreAllRunnable setting → (root : Standing)
    → IsRunnableTemplate root.tree → (w : World) → MayBegin w → (n : ℕ) × IsFinished (meaning setting root n w).end

-- So does what each key comes to that finds something, where a template is rendered or none is, whatever its name is.
abbrev pub EveryKeyEnds : Type 0
EveryKeyEnds = (setting : Setting) (names : List (List ℕ)) → ListsAll setting names → AreAllRunnable setting → (root : Option Standing)
    → ForSome root (λ t. IsRunnableTemplate t.tree) → (name : List ℕ) (key : Key) → IsSome ((walks_of setting root).process 0 key)
    → (w : World) → MayStart key.part w → (n : ℕ) × IsFinished (ran (runners (named_so name (walks_of setting root)) n key) w).end

-- A run that is finished under two bounds is the same under both.
abbrev pub OneMeaning : Type 0
OneMeaning = (setting : Setting) (n m : ℕ) (root : Standing) (w : World)
    → IsFinished (meaning setting root n w).end → IsFinished (meaning setting root m w).end
    → meaning setting root n w ≡ meaning setting root m w

-- the run leaves one value, or ends with a fault
abbrev pub GivesOne : End → Type 0
GivesOne (ends (v ∷ [])) = Unit {0}
GivesOne (faults kinds) = Unit {0}
GivesOne _ = ⊥

-- an expression may be evaluated alone: there are no blocks, no macros and no loops to be called
pub record IsAlone (w : World) : Type 0 where
  pub blocks : w.blocks ≡ []
  pub macros : w.macros ≡ []
  pub loops : (number : ℕ) → loop_numbered number (all_loops w) ≡ None

-- Every expression comes to its value, or to a fault, where nothing that runs can be called.
abbrev pub EveryEvaluationGives : Type 0
EveryEvaluationGives = (setting : Setting) (e : Expression) → IsRunnable e → (w : World) → IsAlone w → GivesOne (evaluation setting e w).end

-- So it does over a context, where its value is handed out.
abbrev pub EveryExpressionGives : Type 0
EveryExpressionGives = (setting : Setting) (id : ℕ) (e : Expression) → IsRunnable e → (context : Val)
    → GivesOne (evaluated setting id e context).end

-- Under every bound an expression does the same, where nothing that runs can be called.
abbrev pub EvaluationsNeedNoBound : Type 0
EvaluationsNeedNoBound = (setting : Setting) (n : ℕ) (e : Expression) (w : World) → IsAlone w
    → run (answer (walks_of setting None) n) (standalone_walk e) w ≡ evaluation setting e w
