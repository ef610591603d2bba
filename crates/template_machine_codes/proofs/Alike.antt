-- A run of trees that is finished is the run of their codes, and of whatever goes as far.
use Rattle.std.proofs.Common.{◌≡◌, ℕ, ◌+◌, ◌==◌, ◌≤◌, ◌⊎◌, inl, inr, zero, suc, Bool, true, false, if◌then◌else◌, List, [], ◌∷◌, length, map, Option, None, Some, option_map, refl, sym, ap, subst, ◌∙◌, arith}
use Rattle.std.specs.Option.{option_and_then}
use Rattle.std.proofs.lemmas.Bool.Decides.{nat_tests}
use Rattle.template_values_errors.specs.declared.ErrorKind.{ErrorKind}
use Rattle.template_values_model.specs.Val.{Val}
use Rattle.template_compiler_tree.specs.Tree.{Statements}
use Rattle.template_compiler_process.specs.Process.{Ask, Answer, Told, tells, fails, breaks_off, leaves, Process, over, step, asks, amiss, cut_short, stuck, Below}
use Rattle.template_compiler_process.specs.Drive.{End, ends, faults, breaks, waits, mistaken, cuts, sticks}
use Rattle.template_compiler_process.specs.Trace.{paid, Reply, Run, run, behind, ended, go_on, replied}
use Rattle.template_compiler_process.specs.Approximants.{IsFinished}
use Rattle.template_compiler_process.proofs.Below.{below-trans}
use Rattle.template_compiler_walk.specs.Counting.{MacroBody, LoopRounds, macro_numbered, rounds_numbered}
use Rattle.template_compiler_walk.specs.Statements.{number_of, standalone_walk, template_walk, macro_walk, rounds_walk}
use Rattle.template_compiler_code.specs.Code.{Code, Operand, single}
use Rattle.template_compiler_code.specs.Steps.{exec}
use Rattle.template_compiler_code.proofs.Rising.{exec_more}
use Rattle.template_compiler_codegen.specs.Statements.{standalone_code, template_code}
use Rattle.template_compiler_codegen.proofs.Whole.{expressions_perform, templates_perform}
use Rattle.template_compiler_codegen.proofs.Macros.{macros_perform}
use Rattle.template_compiler_codegen.proofs.Rounds.{rounds_perform}
use Rattle.template_compiler_codegen.proofs.Unfound.{numbers_agree}
use Rattle.template_machine_meaning.specs.World.{World}
use Rattle.template_machine_meaning.specs.Keys.{standing, own, Part, whole, body_of, rounds_of, Key, whole_of, Around}
use Rattle.template_machine_meaning.specs.Turnings.{turned}
use Rattle.template_machine_meaning.specs.Plans.{Within, Plan, replies, enters, caller_of, after_by, given, told_by, Runners, ran, restarted, beneath, with_beneath, parent_run, went_on, followed_at, followed, came_from, settled}
use Rattle.template_machine_meaning.specs.Surroundings.{plan, Programs, runners, answer}
use Rattle.template_machine_meaning.specs.Meaning.{Standing, Setting, tree_of, body_walk, part_walk, walks_of, top}
use Rattle.template_machine_meaning.proofs.Bounds.{turned_broken}
use Rattle.template_machine_meaning.proofs.Entering.{Finds, found_run}
use Rattle.template_machine_meaning.proofs.Ends.{found_parent}
use Rattle.template_machine_codes.specs.Codes.{body_coded, part_coded, codes_of}
use Rattle.template_machine_codes.specs.Laws.{CodeMeansExpression, CodeMeansTree, CodesMeanKeys}

-- where there is a process there is one, under every bound that is great enough, that goes as far; where there is none there never is
abbrev pub FollowedBy : Option Process → (ℕ → Option Process) → Type 0
FollowedBy None later = (m : ℕ) → later m ≡ None
FollowedBy (Some p) later = (j : ℕ) × ((m : ℕ) → j ≤ m → (q : Process) × (later m ≡ Some q) × Below p q)

pub record ProgramsFollow (s t : Programs) : Type 0 where
  pub around : t.around ≡ s.around
  pub follow : (n : ℕ) (key : Key) → FollowedBy (s.process n key) (λ m. t.process m key)

-- there is nothing under later bounds either; or a run from the world on that is finished is the same there
abbrev Alike : Option (World → Run World) → (ℕ → Option (World → Run World)) → World → Type 0
Alike None later w = (m : ℕ) → later m ≡ None
Alike (Some runs) later w = IsFinished (runs w).end → (least : ℕ) × ((m : ℕ) → least ≤ m → Finds (later m) w (runs w))

finished_or : (wraps : List ErrorKind) (a : Answer) (e : End) → IsFinished e ⊎ (told_by wraps a e ≡ breaks_off)
finished_or wraps a (ends operands) = inl tt
finished_or wraps a (faults kinds) = inl tt
finished_or wraps a breaks = inr refl
finished_or wraps a waits = inr refl
finished_or wraps a mistaken = inr refl
finished_or wraps a cuts = inr refl
finished_or wraps a sticks = inr refl

module _ (s t : Programs) (follows : ProgramsFollow s t) where
  -- an event is answered alike, from some bound on; or what it starts does not come to its end
  abbrev SameReply : Reply World → (ℕ → Reply World) → Type 0
  SameReply r later = (r.told ≡ breaks_off) ⊎ ((least : ℕ) × ((m : ℕ) → least ≤ m → later m ≡ r))

  abbrev RunnersAlike : ℕ → Type 0
  RunnersAlike n = (key : Key) (w : World) → Alike (runners s n key) (λ m. runners t m key) w

  from_alike : (w : World) (x : Within) (o : Option (World → Run World)) (later : ℕ → Option (World → Run World)) → Alike o later x.begins
      → SameReply (came_from w x o) (λ m. came_from w x (later m))
  from_alike w x None later alike = inr (0, λ m le. ap (came_from w x) (alike m))
  from_alike w x (Some runs) later alike =
      elim (finished_or x.wraps (given x.purpose (caller_of w) (runs x.begins).after) (runs x.begins).end) [
        | inl finished ↦ let same = alike finished in inr (same.0, λ m le. found_run w x (later m) (runs x.begins) (same.1 m le))
        | inr broken ↦
            let after = after_by x.purpose (caller_of w) (runs x.begins).after in
            inl (ap (turned after x.behind) broken ∙ turned_broken after x.behind)
      ]

  settled_alike : (n : ℕ) → RunnersAlike n → (w : World) (p : Plan) → SameReply (settled (runners s n) w p) (λ m. settled (runners t m) w p)
  settled_alike n alike w (replies r) = inr (0, λ m le. refl)
  settled_alike n alike w (enters x) = from_alike w x (runners s n x.key) (λ m. runners t m x.key) (alike x.key x.begins)

  abbrev AnsweredAlike : ℕ → World → Ask → Type 0
  AnsweredAlike n w e = SameReply (answer s n w e) (λ m. answer t m w e)

  around_alike : (n : ℕ) (w : World) (e : Ask) → SameReply (settled (runners s n) w (plan s.around w e)) (λ m. settled (runners t m) w (plan s.around w e)) → AnsweredAlike n w e
  around_alike n w e (inl broken) = inl broken
  around_alike n w e (inr same) = inr (same.0, λ m le. ap (λ (a : Around). settled (runners t m) w (plan a w e)) follows.around ∙ same.1 m le)

  answered_alike : (n : ℕ) → RunnersAlike n → (w : World) (e : Ask) → AnsweredAlike n w e
  answered_alike n alike w e = around_alike n w e (settled_alike n alike w (plan s.around w e))

  -- a process that goes as far comes to the same, from some bound on
  abbrev RunAlike : ℕ → Process → World → Type 0
  RunAlike n p w = IsFinished (run (answer s n) p w).end
      → (least : ℕ) × ((m : ℕ) → least ≤ m → (q : Process) → Below p q → run (answer t m) q w ≡ run (answer s n) p w)

  -- what follows an event, whatever was told
  told_alike : (n : ℕ) (k : Answer → Process) → ((a : Answer) (w : World) → RunAlike n (k a) w) → (w : World) (told : Told)
      → IsFinished (go_on (λ a v. run (answer s n) (k a) v) w told).end
      → (least : ℕ) × ((m : ℕ) → least ≤ m → (l : Answer → Process) → ((a : Answer) → Below (k a) (l a))
      → go_on (λ a v. run (answer t m) (l a) v) w told ≡ go_on (λ a v. run (answer s n) (k a) v) w told)
  told_alike n k alike w (tells a) finished = let same = alike a w finished in (same.0, λ m le l h. same.1 m le (l a) (h a))
  told_alike n k alike w (fails kinds) finished = (0, λ m le l h. refl)
  told_alike n k alike w breaks_off finished = absurd finished
  told_alike n k alike w leaves finished = (0, λ m le l h. refl)

  -- whatever goes as far as an event and what follows it
  asked_below : (n m : ℕ) (e : Ask) (k : Answer → Process) (w : World) → answer t m w e ≡ answer s n w e
      → ((l : Answer → Process) → ((a : Answer) → Below (k a) (l a))
      → go_on (λ a v. run (answer t m) (l a) v) (answer s n w e).after (answer s n w e).told ≡ go_on (λ a v. run (answer s n) (k a) v) (answer s n w e).after (answer s n w e).told)
      → (q : Process) → Below (asks e k) q → run (answer t m) q w ≡ run (answer s n) (asks e k) w
  unfolding Below
  asked_below n m e k w same later (asks f l) h =
      let P : Ask → Type 0 = λ x. run (answer t m) (asks x l) w ≡ run (answer s n) (asks e k) w in
      let r = answer s n w e in
      subst P h.0 (ap (replied (λ a v. run (answer t m) (l a) v)) same ∙ ap (behind r.items) (later l h.1))
  asked_below n m e k w same later _ h = absurd h

  asked_alike : (n : ℕ) (e : Ask) (k : Answer → Process) (w : World) → AnsweredAlike n w e → ((a : Answer) (w : World) → RunAlike n (k a) w) → RunAlike n (asks e k) w
  asked_alike n e k w (inl broken) alike finished =
      let r = answer s n w e in
      let P : Told → Type 0 = λ told. IsFinished (behind r.items (go_on (λ a v. run (answer s n) (k a) v) r.after told)).end in
      absurd (subst P broken finished)
  asked_alike n e k w (inr same) alike finished =
      let r = answer s n w e in
      let later = told_alike n k alike r.after r.told finished in
      (same.0 + later.0, λ m le q h. asked_below n m e k w (same.1 m (omega arith)) (later.1 m (omega arith)) q h)

  -- a step, and whatever goes as far
  step_below : (n m : ℕ) (p : Process) (w : World) → ((q : Process) → Below p q → run (answer t m) q w ≡ run (answer s n) p w)
      → (q : Process) → Below (step p) q → run (answer t m) q w ≡ run (answer s n) (step p) w
  unfolding Below
  step_below n m p w same (step q) h = ap (behind (paid [] ∷ [])) (same q h)
  step_below n m p w same _ h = absurd h

  over_below : (n m : ℕ) (operands : List Val) (w : World) → (q : Process) → Below (over operands) q → run (answer t m) q w ≡ run (answer s n) (over operands) w
  unfolding Below
  over_below n m operands w (over others) h = ap (λ vs. ended (ends vs) w) (sym h)
  over_below n m operands w _ h = absurd h

  run_alike : (n : ℕ) → RunnersAlike n → (p : Process) (w : World) → RunAlike n p w
  run_alike n alike (over operands) w finished = (0, λ m le q h. over_below n m operands w q h)
  run_alike n alike (step p) w finished = let same = run_alike n alike p w finished in (same.0, λ m le q h. step_below n m p w (λ r i. same.1 m le r i) q h)
  run_alike n alike (asks e k) w finished = asked_alike n e k w (answered_alike n alike w e) (λ a v. run_alike n alike (k a) v) finished
  run_alike n alike amiss w finished = absurd finished
  run_alike n alike cut_short w finished = absurd finished
  run_alike n alike stuck w finished = absurd finished

  -- a key that finds nothing under one bound finds nothing under any
  none_later : (key : Key) → ((m : ℕ) → t.process m key ≡ None) → (m : ℕ) → runners t m key ≡ None
  none_later key none zero = let f : Process → World → Run World = λ p w. ended breaks w in ap (option_map f) (none 0)
  none_later key none (suc m) =
      let f : Process → World → Run World = λ p w. followed (runners t m) key.part (run (answer t m) p w) in ap (option_map f) (none m)

  nothing_ran : (key : Key) (w : World) (o : Option Process) → FollowedBy o (λ m. t.process m key)
      → Alike (option_map (λ (p : Process) (v : World). ended breaks v) o) (λ m. runners t m key) w
  nothing_ran key w None follow = none_later key follow
  nothing_ran key w (Some p) follow = λ finished. absurd finished

  -- what follows in a template that is extended is finished where what it follows is
  finished_on : (part_runs : Runners) (r : Run World) (e : End) → r.end ≡ e → IsFinished (followed_at part_runs r e).end → IsFinished r.end
  finished_on part_runs r (ends operands) is finished = subst IsFinished (sym is) tt
  finished_on part_runs r (faults kinds) is finished = subst IsFinished (sym is) tt
  finished_on part_runs r _ is finished = finished

  finished_first : (part_runs : Runners) (part : Part) (r : Run World) → IsFinished (followed part_runs part r).end → IsFinished r.end
  finished_first part_runs whole r finished = finished_on part_runs r r.end refl finished
  finished_first part_runs _ r finished = finished

  finished_beneath : (operands : List Val) (e : End) → IsFinished (beneath operands e) → IsFinished e
  finished_beneath operands (ends more) finished = tt
  finished_beneath operands _ finished = finished

  -- and is the same from some bound on
  parent_alike : (w : World) (o : Option (World → Run World)) (later : ℕ → Option (World → Run World)) → Alike o later w → IsFinished (parent_run o w).end
      → (least : ℕ) × ((m : ℕ) → least ≤ m → parent_run (later m) w ≡ parent_run o w)
  parent_alike w None later alike finished = (0, λ m le. ap (λ (x : Option (World → Run World)). parent_run x w) (alike m))
  parent_alike w (Some runs) later alike finished = let same = alike finished in (same.0, λ m le. found_parent (later m) w (runs w) (same.1 m le))

  module _ (n : ℕ) (alike : RunnersAlike n) (r : Run World) where
    abbrev Follows : (Runners → Run World) → Type 0
    Follows f = IsFinished (f (runners s n)).end → (least : ℕ) × ((m : ℕ) → least ≤ m → f (runners t m) ≡ f (runners s n))

    on_alike : (operands : List Val) (parent : Option (List ℕ)) → Follows (λ part_runs. went_on part_runs operands r parent)
    on_alike operands None finished = (0, λ m le. refl)
    on_alike operands (Some name) finished =
        let key = whole_of (own (standing name)) in
        let begun : World = restarted name r.after in
        let q : Run World = parent_run (runners s n key) begun in
        let same = parent_alike begun (runners s n key) (λ m. runners t m key) (alike key begun) (finished_beneath operands q.end finished) in
        (same.0, λ m le. ap (λ (x : Run World). behind r.items (with_beneath operands x)) (same.1 m le))

    at_alike : (e : End) → Follows (λ part_runs. followed_at part_runs r e)
    at_alike (ends operands) finished = on_alike operands r.after.parent finished
    at_alike _ finished = (0, λ m le. refl)

    followed_alike : (part : Part) → Follows (λ part_runs. followed part_runs part r)
    followed_alike whole finished = at_alike r.end finished
    followed_alike _ finished = (0, λ m le. refl)

  finds_later : (m : ℕ) (part : Part) (w : World) (o : Option Process) (q : Process) (r : Run World) → o ≡ Some q → followed (runners t m) part (run (answer t m) q w) ≡ r
      → Finds (option_map (λ (p : Process) (v : World). followed (runners t m) part (run (answer t m) p v)) o) w r
  finds_later m part w o q r is same =
      subst (λ (x : Option Process). Finds (option_map (λ (p : Process) (v : World). followed (runners t m) part (run (answer t m) p v)) x) w r) (sym is) same

  process_ran : (n : ℕ) → RunnersAlike n → (key : Key) (w : World) (o : Option Process) → FollowedBy o (λ m. t.process m key)
      → Alike (option_map (λ (p : Process) (v : World). followed (runners s n) key.part (run (answer s n) p v)) o) (λ m. runners t m key) w
  process_ran n alike key w None follow = none_later key follow
  process_ran n alike key w (Some p) follow = λ finished. (suc ((same finished).0 + (further finished).0 + follow.0), λ m le. at_bound finished m le)
    where
      same : IsFinished (followed (runners s n) key.part (run (answer s n) p w)).end → (least : ℕ) × ((m : ℕ) → least ≤ m → (q : Process) → Below p q → run (answer t m) q w ≡ (run (answer s n) p w))
      same finished = run_alike n alike p w (finished_first (runners s n) key.part (run (answer s n) p w) finished)

      further : IsFinished (followed (runners s n) key.part (run (answer s n) p w)).end → (least : ℕ) × ((m : ℕ) → least ≤ m → followed (runners t m) key.part (run (answer s n) p w) ≡ followed (runners s n) key.part (run (answer s n) p w))
      further finished = followed_alike n alike (run (answer s n) p w) key.part finished

      at_bound : (finished : IsFinished (followed (runners s n) key.part (run (answer s n) p w)).end) (m : ℕ) → suc ((same finished).0 + (further finished).0 + follow.0) ≤ m → Finds (runners t m key) w (followed (runners s n) key.part (run (answer s n) p w))
      at_bound finished zero le = absurd (omega arith)
      at_bound finished (suc k) le =
          let found = follow.1 k (omega arith) in
          finds_later k key.part w (t.process k key) found.0 (followed (runners s n) key.part (run (answer s n) p w)) found.1
          (ap (followed (runners t k) key.part) ((same finished).1 k (omega arith) found.0 found.2) ∙ (further finished).1 k (omega arith))

  pub runners_alike : (n : ℕ) → RunnersAlike n
  runners_alike zero key w = nothing_ran key w (s.process 0 key) (follows.follow 0 key)
  runners_alike (suc n) key w = process_ran n (runners_alike n) key w (s.process n key) (follows.follow n key)

  -- a run that is finished, where another goes as far
  pub finished_alike : (n : ℕ) (p : Process) (w : World) → RunAlike n p w
  finished_alike n p w = run_alike n (runners_alike n) p w

  ran_later : (w : World) (o : Option (World → Run World)) (r : Run World) → Finds o w r → ran o w ≡ r
  ran_later w None r found = absurd found
  ran_later w (Some runs) r found = found

  ran_alike : (w : World) (o : Option (World → Run World)) (later : ℕ → Option (World → Run World)) → Alike o later w → IsFinished (ran o w).end
      → (least : ℕ) × ((m : ℕ) → least ≤ m → ran (later m) w ≡ ran o w)
  ran_alike w None later alike finished = absurd finished
  ran_alike w (Some runs) later alike finished = let same = alike finished in (same.0, λ m le. ran_later w (later m) (runs w) (same.1 m le))

  pub keys_alike : (key : Key) (w : World) (n : ℕ) → IsFinished (ran (runners s n key) w).end
      → (least : ℕ) × ((m : ℕ) → least ≤ m → ran (runners t m key) w ≡ ran (runners s n key) w)
  keys_alike key w n finished = ran_alike w (runners s n key) (λ m. runners t m key) (runners_alike n key w) finished

-- code that goes as far as a process, where it may run for long enough
goes_on : (p : Process) (code : List Code) (j place : ℕ) (operands : List Operand) → Below p (exec code j place operands)
    → FollowedBy (Some p) (λ m. Some (exec code m place operands))
goes_on p code j place operands below =
    (j, λ m le. (exec code m place operands, refl, below-trans p (exec code j place operands) (exec code m place operands) below (exec_more code j m le place operands)))

same_later : (o : Option Process) (f g : ℕ → Option Process) → ((m : ℕ) → f m ≡ g m) → FollowedBy o g → FollowedBy o f
same_later None f g same follow = λ m. same m ∙ follow m
same_later (Some p) f g same follow = (follow.0, λ m le. let at = follow.1 m le in (at.0, same m ∙ at.1, at.2))

same_number : (a b : ℕ) → (a == b) ≡ true → b ≡ a
same_number a b e = grind (arith, nat_tests)

-- of each part of a tree
module _ (t : Statements) (n : ℕ) where
  body_follows : (number : ℕ) (vs : List Val) (b : MacroBody) (offset : ℕ)
      → ((n : ℕ) → (j : ℕ) × ((us : List Val) → length us ≡ number_of b.arguments → Below (macro_walk n b us) (exec (template_code t) j offset (map single us))))
      → (same : Bool) → (number_of b.arguments == length vs) ≡ same
      → FollowedBy (if same then Some (macro_walk n b vs) else None) (λ m. if same then Some (exec (template_code t) m offset (map single vs)) else None)
  body_follows number vs b offset performed true e =
      let at = performed n in
      goes_on (macro_walk n b vs) (template_code t) at.0 offset (map single vs) (at.1 vs (same_number (number_of b.arguments) (length vs) e))
  body_follows number vs b offset performed false e = λ m. refl

  macro_follows : (number : ℕ) (vs : List Val) (o : Option MacroBody) → macro_numbered number t ≡ o
      → FollowedBy (option_and_then (body_walk n vs) o) (λ m. part_coded m (body_of number vs) t)
  macro_follows number vs None none = λ m. ap (option_and_then (body_coded m vs t)) ((numbers_agree t number).0 none)
  macro_follows number vs (Some b) found =
      let performed = macros_perform t number b found in
      same_later (body_walk n vs b) (λ m. part_coded m (body_of number vs) t) (λ m. if number_of b.arguments == length vs then Some (exec (template_code t) m performed.0 (map single vs)) else None)
      (λ m. ap (option_and_then (body_coded m vs t)) performed.1)
      (body_follows number vs b performed.0 performed.2 (number_of b.arguments == length vs) refl)

  loop_follows : (number : ℕ) (o : Option LoopRounds) → rounds_numbered number t ≡ o
      → FollowedBy (option_map (rounds_walk n) o) (λ m. part_coded m (rounds_of number) t)
  loop_follows number None none = λ m. ap (option_map (λ (place : ℕ). exec (template_code t) m place [])) ((numbers_agree t number).1 none)
  loop_follows number (Some r) found =
      let performed = rounds_perform t number r found in
      let at = performed.2 n in
      same_later (Some (rounds_walk n r)) (λ m. part_coded m (rounds_of number) t) (λ m. Some (exec (template_code t) m performed.0 []))
      (λ m. ap (option_map (λ (place : ℕ). exec (template_code t) m place [])) performed.1)
      (goes_on (rounds_walk n r) (template_code t) at.0 performed.0 [] at.1)

  part_follows : (part : Part) → FollowedBy (part_walk n part t) (λ m. part_coded m part t)
  part_follows whole = let performed = templates_perform t n in goes_on (template_walk n t) (template_code t) performed.0 0 [] performed.1
  part_follows (body_of number vs) = macro_follows number vs (macro_numbered number t) refl
  part_follows (rounds_of number) = loop_follows number (rounds_numbered number t) refl

code_follows : (n : ℕ) (part : Part) (o : Option Statements) → FollowedBy (option_and_then (part_walk n part) o) (λ m. option_and_then (part_coded m part) o)
code_follows n part None = λ m. refl
code_follows n part (Some t) = part_follows t n part

pub codes_follow : (setting : Setting) (root : Option Standing) → ProgramsFollow (walks_of setting root) (codes_of setting root)
codes_follow setting root = record { around = refl; follow = λ n key. code_follows n key.part (tree_of setting root key.stream) }

pub codes_mean_keys : CodesMeanKeys
codes_mean_keys setting root key w n finished = keys_alike (walks_of setting root) (codes_of setting root) (codes_follow setting root) key w n finished

pub code_means_tree : CodeMeansTree
code_means_tree setting root w n finished = codes_mean_keys setting (Some root) top w (suc n) finished

-- an expression's code, where it may run for long enough
pub code_means_expression : CodeMeansExpression
code_means_expression setting e w finished =
    let same = finished_alike (walks_of setting None) (codes_of setting None) (codes_follow setting None) 0 (standalone_walk e) w finished in
    let performed = expressions_perform e in (
      same.0 + performed.0,
      λ m le.
          same.1 m (omega arith) (exec (standalone_code e) m 0 [])
          (below-trans (standalone_walk e) (exec (standalone_code e) performed.0 0 []) (exec (standalone_code e) m 0 []) performed.1 (exec_more (standalone_code e) performed.0 m (omega arith) 0 [])),
    )
