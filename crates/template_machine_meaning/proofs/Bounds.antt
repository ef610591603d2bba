-- Greater bounds give runs that extend.
use Rattle.std.proofs.Common.{◌≡◌, ℕ, ◌==◌, ◌≤◌, inl, inr, zero, suc, Bool, true, false, if◌then◌else◌, List, [], ◌∷◌, length, ◌++◌, Option, None, Some, option_map, map, refl, sym, ap, subst, ◌∙◌, append_assoc, append-nil, arith}
use Rattle.std.specs.Option.{option_and_then}
use Rattle.std.proofs.lemmas.List.{map-append}
use Rattle.template_values_errors.specs.declared.ErrorKind.{ErrorKind}
use Rattle.template_compiler_tree.specs.Tree.{Statements}
use Rattle.template_compiler_process.specs.Process.{Ask, Answer, breaks_off, Process, Below}
use Rattle.template_values_model.specs.Val.{Val}
use Rattle.template_compiler_process.specs.Drive.{End, ends, breaks, cuts}
use Rattle.template_compiler_process.specs.Trace.{Item, Run, run, ended, behind}
use Rattle.template_compiler_process.specs.Fuel.{Begins}
use Rattle.template_compiler_process.specs.Approximants.{IsUnfinished, Extends, RepliesMore}
use Rattle.template_compiler_process.proofs.Approximants.{runs_further}
use Rattle.template_compiler_walk.specs.Statements.{number_of, macro_walk, rounds_walk}
use Rattle.template_compiler_walk.specs.Counting.{MacroBody, LoopRounds, macro_numbered, rounds_numbered}
use Rattle.template_compiler_walk.proofs.Rising.{walks_rise, macros_rise, rounds_rise}
use Rattle.template_machine_meaning.specs.World.{World}
use Rattle.template_machine_meaning.specs.Keys.{standing, own, Part, whole, body_of, rounds_of, Key, whole_of, Around}
use Rattle.template_machine_meaning.specs.Turnings.{Turning, turned}
use Rattle.template_machine_meaning.specs.Plans.{Within, Plan, replies, enters, caller_of, after_by, given, wrapped_by, told_by, came, Runners, ran, restarted, beneath, with_beneath, parent_run, went_on, followed_at, followed, came_from, settled}
use Rattle.template_machine_meaning.specs.Surroundings.{plan, respond, Programs, runners, answer}
use Rattle.template_machine_meaning.specs.Meaning.{Standing, Setting, tree_of, body_walk, part_walk, walks_of, top}
use Rattle.template_machine_meaning.specs.Laws.{ProcessGoesFurther, Rises, BoundsExtend, KeysExtend, MeaningsExtend}

-- the second runs further
abbrev RunsMore : Option (World → Run World) → Option (World → Run World) → Type 0
RunsMore None None = Unit {0}
RunsMore (Some r) (Some q) = (w : World) → Extends (r w) (q w)
RunsMore _ _ = ⊥

abbrev RunnersMore : Runners → Runners → Type 0
RunnersMore r q = (key : Key) → RunsMore (r key) (q key)

broken_off : (wraps : List ErrorKind) (a : Answer) (e : End) → IsUnfinished e → told_by wraps a e ≡ breaks_off
broken_off wraps a breaks h = refl
broken_off wraps a cuts h = refl
broken_off wraps a _ h = absurd h

pub turned_broken : (w : World) (ts : List Turning) → turned w ts breaks_off ≡ breaks_off
turned_broken w [] = refl
turned_broken w (t ∷ ts) = turned_broken w ts

-- what comes of a run within, whatever was planned
came_more : (w : World) (x : Within) (r q : Run World) → Extends r q → RepliesMore (came w x r) (came w x q)
came_more w x r q (inl same) = inl (ap (came w x) same)
came_more w x r q (inr more) =
    let a = given x.purpose (caller_of w) r.after in
    let after = after_by x.purpose (caller_of w) r.after in
    inr (ap (turned after x.behind) (broken_off x.wraps a r.end more.0) ∙ turned_broken after x.behind, (map (wrapped_by x.wraps) more.1.0, ap (map (wrapped_by x.wraps)) more.1.1 ∙ map-append (wrapped_by x.wraps) r.items more.1.0))

came_from_more : (w : World) (x : Within) (o p : Option (World → Run World)) → RunsMore o p → RepliesMore (came_from w x o) (came_from w x p)
came_from_more w x None None more = inl refl
came_from_more w x (Some r) (Some q) more = came_more w x (r x.begins) (q x.begins) (more x.begins)
came_from_more w x _ _ more = absurd more

settled_more : (r q : Runners) → RunnersMore r q → (w : World) (p : Plan) → RepliesMore (settled r w p) (settled q w p)
settled_more r q more w (replies reply) = inl refl
settled_more r q more w (enters x) = came_from_more w x (r x.key) (q x.key) (more x.key)

respond_more : (a : Around) (r q : Runners) → RunnersMore r q → (w : World) (e : Ask) → RepliesMore (respond a r w e) (respond a q w e)
respond_more a r q more w e = settled_more r q more w (plan a w e)

-- what follows in a template that is extended
behind_more : (items : List Item) (r q : Run World) → Extends r q → Extends (behind items r) (behind items q)
behind_more items r q (inl same) = inl (ap (behind items) same)
behind_more items r q (inr more) = inr (more.0, (more.1.0, ap (λ (xs : List Item). items ++ xs) more.1.1 ∙ sym (append_assoc items r.items more.1.0)))

unfinished_beneath : (operands : List Val) (e : End) → IsUnfinished e → IsUnfinished (beneath operands e)
unfinished_beneath operands breaks h = tt
unfinished_beneath operands cuts h = tt
unfinished_beneath operands _ h = absurd h

beneath_more : (operands : List Val) (r q : Run World) → Extends r q → Extends (with_beneath operands r) (with_beneath operands q)
beneath_more operands r q (inl same) = inl (ap (with_beneath operands) same)
beneath_more operands r q (inr more) = inr (unfinished_beneath operands r.end more.0, more.1)

parent_more : (o p : Option (World → Run World)) → RunsMore o p → (w : World) → Extends (parent_run o w) (parent_run p w)
parent_more None None more w = inl refl
parent_more (Some r) (Some q) more w = more w
parent_more _ _ more w = absurd more

module _ (r q : Runners) (more : RunnersMore r q) where
  on_more : (operands : List Val) (a : Run World) (parent : Option (List ℕ)) → Extends (went_on r operands a parent) (went_on q operands a parent)
  on_more operands a None = inl refl
  on_more operands a (Some name) =
      let key = whole_of (own (standing name)) in
      behind_more a.items _ _ (beneath_more operands _ _ (parent_more (r key) (q key) (more key) (restarted name a.after)))

  at_more : (a : Run World) (e : End) → Extends (followed_at r a e) (followed_at q a e)
  at_more a (ends operands) = on_more operands a a.after.parent
  at_more a _ = inl refl

  alike_more : (part : Part) (a : Run World) → Extends (followed r part a) (followed q part a)
  alike_more whole a = at_more a a.end
  alike_more _ a = inl refl

  at_once : (a : Run World) (e : End) → IsUnfinished e → followed_at r a e ≡ a
  at_once a (ends operands) h = absurd h
  at_once a _ h = refl

  unfinished_stays : (part : Part) (a : Run World) → IsUnfinished a.end → followed r part a ≡ a
  unfinished_stays whole a h = at_once a a.end h
  unfinished_stays _ a h = refl

  on_begins : (operands : List Val) (b : Run World) (parent : Option (List ℕ)) → Begins b.items (went_on q operands b parent).items
  on_begins operands b None = ([], sym (append-nil b.items))
  on_begins operands b (Some name) = (_, refl)

  at_begins : (b : Run World) (e : End) → Begins b.items (followed_at q b e).items
  at_begins b (ends operands) = on_begins operands b b.after.parent
  at_begins b _ = ([], sym (append-nil b.items))

  followed_begins : (part : Part) (b : Run World) → Begins b.items (followed q part b).items
  followed_begins whole b = at_begins b b.end
  followed_begins _ b = ([], sym (append-nil b.items))

  further_begins : (xs ys zs : List Item) → Begins xs ys → Begins ys zs → Begins xs zs
  further_begins xs ys zs f g = (f.0 ++ g.0, g.1 ∙ ap (λ ws. ws ++ g.0) f.1 ∙ append_assoc xs f.0 g.0)

  followed_more : (part : Part) (a b : Run World) → Extends a b → Extends (followed r part a) (followed q part b)
  followed_more part a b (inl same) = subst (λ (z : Run World). Extends (followed r part a) (followed q part z)) (sym same) (alike_more part a)
  followed_more part a b (inr further) =
      subst (λ (z : Run World). Extends z (followed q part b)) (sym (unfinished_stays part a further.0))
      (inr (further.0, further_begins a.items b.items (followed q part b).items further.1 (followed_begins part b)))

-- processes that go further
process_more : (f g : Process → World → Run World) → (o p : Option Process) → ProcessGoesFurther o p → ((a b : Process) → Below a b → (w : World) → Extends (f a w) (g b w))
    → RunsMore (option_map f o) (option_map g p)
process_more f g None None further more = tt
process_more f g (Some a) (Some b) further more = more a b further
process_more f g _ _ further more = absurd further

-- what is cut short at once is extended by every run
nothing_more : (w : World) (q : Run World) → Extends (ended breaks w) q
nothing_more w q = inr (tt, (q.items, refl))

runners_more : (s : Programs) → Rises s → (n m : ℕ) → n ≤ m → RunnersMore (runners s n) (runners s m)
runners_more s rises zero zero less key =
    process_more (λ p w. ended breaks w) (λ p w. ended breaks w) (s.process 0 key) (s.process 0 key) (rises 0 0 key less) (λ a b h w. nothing_more w (ended breaks w))
runners_more s rises zero (suc m) less key =
    process_more (λ p w. ended breaks w) (λ p w. followed (runners s m) key.part (run (respond s.around (runners s m)) p w)) (s.process 0 key) (s.process m key) (rises 0 m key (omega arith))
    (λ a b h w. nothing_more w (followed (runners s m) key.part (run (respond s.around (runners s m)) b w)))
runners_more s rises (suc n) zero less key = absurd (omega arith)
runners_more s rises (suc n) (suc m) less key =
    let more = runners_more s rises n m (omega arith) in
    process_more (λ p w. followed (runners s n) key.part (run (respond s.around (runners s n)) p w)) (λ p w. followed (runners s m) key.part (run (respond s.around (runners s m)) p w))
    (s.process n key) (s.process m key) (rises n m key (omega arith))
    (λ a b h w. followed_more (runners s n) (runners s m) more key.part _ _
    (runs_further World (answer s n) (answer s m) (respond_more s.around (runners s n) (runners s m) more) a b w h))

pub bounds_extend : BoundsExtend
bounds_extend s rises n m less p q w h =
    runs_further World (answer s n) (answer s m) (respond_more s.around (runners s n) (runners s m) (runners_more s rises n m less)) p q w h

ran_more : (o p : Option (World → Run World)) → RunsMore o p → (w : World) → Extends (ran o w) (ran p w)
ran_more None None more w = inl refl
ran_more (Some r) (Some q) more w = more w
ran_more _ _ more w = absurd more

-- each part of a tree rises
body_rises : (n m : ℕ) → n ≤ m → (vs : List Val) (b : MacroBody) (same : Bool)
    → ProcessGoesFurther (if same then Some (macro_walk n b vs) else None) (if same then Some (macro_walk m b vs) else None)
body_rises n m less vs b true = macros_rise b vs n m less
body_rises n m less vs b false = tt

macro_rises : (n m : ℕ) → n ≤ m → (vs : List Val) (o : Option MacroBody) → ProcessGoesFurther (option_and_then (body_walk n vs) o) (option_and_then (body_walk m vs) o)
macro_rises n m less vs None = tt
macro_rises n m less vs (Some b) = body_rises n m less vs b (number_of b.arguments == length vs)

loop_rises : (n m : ℕ) → n ≤ m → (o : Option LoopRounds) → ProcessGoesFurther (option_map (rounds_walk n) o) (option_map (rounds_walk m) o)
loop_rises n m less None = tt
loop_rises n m less (Some r) = rounds_rise r n m less

part_rises : (n m : ℕ) → n ≤ m → (part : Part) (t : Statements) → ProcessGoesFurther (part_walk n part t) (part_walk m part t)
part_rises n m less whole t = walks_rise t n m less
part_rises n m less (body_of number vs) t = macro_rises n m less vs (macro_numbered number t)
part_rises n m less (rounds_of number) t = loop_rises n m less (rounds_numbered number t)

tree_rises : (n m : ℕ) → n ≤ m → (part : Part) (o : Option Statements) → ProcessGoesFurther (option_and_then (part_walk n part) o) (option_and_then (part_walk m part) o)
tree_rises n m less part None = tt
tree_rises n m less part (Some t) = part_rises n m less part t

pub walks_of_rise : (setting : Setting) (root : Option Standing) → Rises (walks_of setting root)
walks_of_rise setting root n m key less = tree_rises n m less key.part (tree_of setting root key.stream)

pub keys_extend : KeysExtend
keys_extend setting root n m less key w =
    let s = walks_of setting root in
    ran_more (runners s n key) (runners s m key) (runners_more s (walks_of_rise setting root) n m less key) w

pub meanings_extend : MeaningsExtend
meanings_extend setting n m less root w =
    let s = walks_of setting (Some root) in
    ran_more (runners s (suc n) top) (runners s (suc m) top) (runners_more s (walks_of_rise setting (Some root)) (suc n) (suc m) (omega arith) top) w
