-- A process driven by a list of what is told: which steps and events it takes, and how it ends.
use Rattle.std.specs.Prelude.{List, [], ◌∷◌}
use Rattle.template_values_errors.specs.declared.ErrorKind.{ErrorKind}
use Rattle.template_values_model.specs.Val.{Val}
use Rattle.template_compiler_process.specs.Process.{Ask, Told, tells, fails, breaks_off, leaves, Process, over, step, asks, amiss, cut_short, stuck}

-- what a process does in turn: a priced step, or an event
pub data Mark : Type 0 where
  paid : Mark
  asked : Ask → Mark

-- how a process comes to its end
pub data End : Type 0 where
  ends : List Val → End  -- by itself, with these operands left
  faults : List ErrorKind → End  -- with an error, whose kinds are these, outermost first
  breaks : End  -- what an event started did not come to its end
  waits : End  -- nothing more was told
  mistaken : End  -- an answer was of the wrong sort
  cuts : End  -- its bound ran out
  sticks : End  -- it lacked an operand

-- the marks, the end, and what was not used of what was told
pub record Driven : Type 0 where
  pub marks : List Mark
  pub end : End
  pub rest : List Told

abbrev pub marked : Mark → Driven → Driven
marked m d = record d { marks = m ∷ d.marks }

abbrev pub drive : Process → List Told → Driven
drive (over vs) ts = record { marks = []; end = ends vs; rest = ts }
drive (step p) ts = marked paid (drive p ts)
drive (asks e k) [] = record { marks = asked e ∷ []; end = waits; rest = [] }
drive (asks e k) (tells a ∷ ts) = marked (asked e) (drive (k a) ts)
drive (asks e k) (fails ks ∷ ts) = record { marks = asked e ∷ []; end = faults ks; rest = ts }
drive (asks e k) (breaks_off ∷ ts) = record { marks = asked e ∷ []; end = breaks; rest = ts }
drive (asks e k) (leaves ∷ ts) = record { marks = asked e ∷ []; end = ends []; rest = ts }
drive amiss ts = record { marks = []; end = mistaken; rest = ts }
drive cut_short ts = record { marks = []; end = cuts; rest = ts }
drive stuck ts = record { marks = []; end = sticks; rest = ts }

-- the bound did not run out
abbrev pub IsUncut : End → Type 0
IsUncut cuts = ⊥
IsUncut _ = Unit {0}
