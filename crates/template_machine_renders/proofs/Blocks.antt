-- From the run of a block's code to what the block means.
use Rattle.std.proofs.Common.{◌≡◌, ℕ, ◌≤◌, List, [], ◌∷◌, Option, None, Some, Ok, Err, refl, sym, ap, subst, ◌∙◌}
use Rattle.template_values_errors.specs.declared.ErrorKind.{ErrorKind}
use Rattle.template_compiler_process.specs.Approximants.{IsFinished}
use Rattle.template_compiler_process.specs.Drive.{End, ends, faults, breaks, waits, mistaken, cuts, sticks}
use Rattle.template_compiler_process.specs.Process.{Answer, Told, tells, fails, breaks_off, leaves, done}
use Rattle.template_compiler_process.specs.Trace.{Reply, Run}
use Rattle.template_machine_meaning.specs.World.{World}
use Rattle.template_machine_meaning.specs.Blocks.{block_plan}
use Rattle.template_machine_meaning.specs.Plans.{Within, Plan, replies, enters, after_by, caller_of, given, told_by, came_from}
use Rattle.template_machine_meaning.specs.Turnings.{Turning, turned}
use Rattle.template_machine_meaning.specs.Surroundings.{Programs, runners}
use Rattle.template_machine_meaning.specs.Meaning.{Standing, Setting, walks_of, named_so}
use Rattle.template_machine_meaning.proofs.Entering.{Finds, found_run}
use Rattle.template_machine_codes.specs.Codes.{codes_of}
use Rattle.template_machine_codes.proofs.Alike.{ProgramsFollow, codes_follow, runners_alike}
use Rattle.template_machine_loop.specs.Plans.{Tells, end_of, replies_of, run_of}
use Rattle.template_machine_loop.specs.Runs.{EndsSo}
use Rattle.template_machine_renders.specs.Laws.{BlocksRender, block_run}
use Rattle.template_machine_renders.proofs.Coming.{ComeTo, breaks_meant, ended_there, ends_meant, stops_so}

-- there is nothing under later bounds either; or a run from the world on that is finished is the same there
abbrev Alike : Option (World → Run World) → (ℕ → Option (World → Run World)) → World → Type 0
Alike None later w = (m : ℕ) → later m ≡ None
Alike (Some runs) later w = IsFinished (runs w).end → (least : ℕ) × ((m : ℕ) → least ≤ m → Finds (later m) w (runs w))

-- what is told of a run is finished where that is
finished_within : (wraps : List ErrorKind) (a : Answer) (e : End) → IsFinished (end_of (told_by wraps a e)) → IsFinished e
finished_within wraps a (ends operands) finished = tt
finished_within wraps a (faults kinds) finished = tt
finished_within wraps a breaks finished = finished
finished_within wraps a waits finished = absurd finished
finished_within wraps a mistaken finished = absurd finished
finished_within wraps a cuts finished = absurd finished
finished_within wraps a sticks finished = absurd finished

turned_lost : (w : World) (ts : List Turning) → turned w ts breaks_off ≡ breaks_off
turned_lost w [] = refl
turned_lost w (t ∷ ts) = turned_lost w ts

-- so it is, where something is made of the value
finished_turned : (w : World) (ts : List Turning) (t : Told) → IsFinished (end_of (turned w ts t)) → IsFinished (end_of t)
finished_turned w ts (tells a) finished = tt
finished_turned w ts (fails kinds) finished = tt
finished_turned w ts breaks_off finished = subst (λ (t : Told). IsFinished (end_of t)) (turned_lost w ts) finished
finished_turned w ts leaves finished = tt

module _ (s t : Programs) (follows : ProgramsFollow s t) where
  from_alike : (w : World) (x : Within) (o : Option (World → Run World)) (later : ℕ → Option (World → Run World)) → Alike o later x.begins
      → IsFinished (run_of (came_from w x o)).end → (least : ℕ) × ((m : ℕ) → least ≤ m → came_from w x (later m) ≡ came_from w x o)
  from_alike w x None later alike finished = (0, λ m le. ap (came_from w x) (alike m))
  from_alike w x (Some runs) later alike finished =
      let a : Answer = given x.purpose (caller_of w) (runs x.begins).after in
      let told : IsFinished (end_of (told_by x.wraps a (runs x.begins).end)) =
      finished_turned (after_by x.purpose (caller_of w) (runs x.begins).after) x.behind (told_by x.wraps a (runs x.begins).end) finished in
      let same = alike (finished_within x.wraps a (runs x.begins).end told) in
      (same.0, λ m le. found_run w x (later m) (runs x.begins) (same.1 m le))

  -- what a plan comes to, where it is finished, it comes to in the programs that follow
  pub replies_alike : (n : ℕ) (w : World) (p : Plan) → IsFinished (run_of (replies_of s p w n)).end
      → (least : ℕ) × ((m : ℕ) → least ≤ m → replies_of t p w m ≡ replies_of s p w n)
  replies_alike n w (replies r) finished = (0, λ m le. refl)
  replies_alike n w (enters x) finished =
      from_alike w x (runners s n x.key) (λ m. runners t m x.key) (runners_alike s t follows n x.key x.begins) finished

  pub plan_alike : (n : ℕ) (w : World) (p : Plan) → IsFinished (run_of (replies_of s p w n)).end
      → ComeTo (λ m. run_of (replies_of t p w m)) (run_of (replies_of s p w n))
  plan_alike n w p finished = let same = replies_alike n w p finished in (same.0, λ m le. ap run_of (same.1 m le))

-- the code of all keys follows their trees, whatever the name is
pub named_follow : (setting : Setting) (root : Option Standing) (name : List ℕ)
    → ProgramsFollow (named_so name (walks_of setting root)) (named_so name (codes_of setting root))
named_follow setting root name = record { around = refl; follow = (codes_follow setting root).follow }

-- what tells an answer comes to an end
pub tells_ends : (told_in : ℕ → Reply World) (a : Answer) (after : World) (left rest : Option ℕ) (taken written : Option (List ℕ)) → Tells told_in a after left rest taken written
    → EndsSo (λ n. run_of (told_in n)) after left rest taken written
tells_ends told_in a after left rest taken written h = record {
  items = h.items;
  least = h.least;
  operands = [];
  is = λ n le. ap run_of (h.is n le) ∙ sym (ended_there h.items (ends []) after);
  pays = h.pays;
  text = h.text;
}

pub blocks_render : (X : Type 0) → BlocksRender X
blocks_render X setting root name block w after fuel left before taken (Ok x) h n finished =
    let s = named_so name (walks_of setting root) in
    let t = named_so name (codes_of setting root) in
    let p = block_plan s.around w block in
    ends_meant (λ m. run_of (replies_of t p w m)) (block_run s w block n) after fuel left before taken
    (plan_alike s t (named_follow setting root name) n w p finished)
    (tells_ends (replies_of t p w) done after fuel left before taken h)
blocks_render X setting root name block w after fuel left before taken (Err stop) h n finished =
    let s = named_so name (walks_of setting root) in
    let t = named_so name (codes_of setting root) in
    let p = block_plan s.around w block in
    stops_so X (block_run s w block n) after fuel left before taken stop finished
    (breaks_meant (λ m. run_of (replies_of t p w m)) (block_run s w block n) stop after fuel left before taken
    (plan_alike s t (named_follow setting root name) n w p finished) h)
