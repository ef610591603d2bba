-- A process that goes further, under surroundings that reply more, gives a run that extends.
use Rattle.std.proofs.Common.{◌≡◌, inl, inr, List, [], ◌∷◌, ◌++◌, refl, sym, ap, subst, ◌∙◌, append_assoc, append-nil, arith}
use Rattle.template_compiler_process.specs.Process.{Ask, Answer, Told, tells, fails, breaks_off, leaves, over, step, asks, amiss, cut_short, stuck, Below}
use Rattle.template_compiler_process.specs.Drive.{End}
use Rattle.template_compiler_process.specs.Trace.{Item, paid, Reply, Run, run, behind, go_on, replied}
use Rattle.template_compiler_process.specs.Fuel.{Begins}
use Rattle.template_compiler_process.specs.Approximants.{IsUnfinished, Extends, RepliesMore, RunsFurther}

-- what comes behind the same items extends as it did
pub extends-behind : {S : Type 0} (items : List Item) (r q : Run S) → Extends r q → Extends (behind items r) (behind items q)
extends-behind items r q (inl same) = inl (ap (behind items) same)
extends-behind items r q (inr more) =
    inr (more.0, (more.1.0, ap (λ is. items ++ is) more.1.1 ∙ sym (append_assoc items r.items more.1.0)))

-- a run that is cut short at once is extended by every run
pub extends-unfinished : {S : Type 0} (items : List Item) (e : End) (s : S) (q : Run S) → IsUnfinished e → Begins items q.items → Extends (record { items = items; end = e; after = s }) q
extends-unfinished items e s q unfinished begins = inr (unfinished, begins)

-- what is told leads on as each answer does
told_further : {S : Type 0} (k l : Answer → S → Run S) (s : S) (told : Told) → ((a : Answer) → Extends (k a s) (l a s)) → Extends (go_on k s told) (go_on l s told)
told_further k l s (tells a) further = further a
told_further k l s (fails kinds) further = inl refl
told_further k l s breaks_off further = inl refl
told_further k l s leaves further = inl refl

-- a reply that breaks off ends the run there
broken_off : {S : Type 0} (k : Answer → S → Run S) (r : Reply S) (q : Run S) → r.told ≡ breaks_off → Begins r.items q.items → Extends (replied k r) q
broken_off k r q is begins =
    let P : Told → Type 0 = λ told. Extends (behind r.items (go_on k r.after told)) q in
    subst P (sym is) (inr (tt, (begins.0, begins.1 ∙ ap (λ is. is ++ begins.0) (sym (append-nil r.items)))))

-- two replies, of which the second says more
replied_further : {S : Type 0} (k l : Answer → S → Run S) (r q : Reply S) → ((a : Answer) → Extends (k a r.after) (l a r.after)) → RepliesMore r q → Extends (replied k r) (replied l q)
replied_further k l r q further (inl same) =
    let P : Reply _ → Type 0 = λ x. Extends (replied k r) (replied l x) in
    subst P (sym same) (extends-behind r.items (go_on k r.after r.told) (go_on l r.after r.told) (told_further k l r.after r.told further))
replied_further k l r q further (inr more) =
    let rest = go_on l q.after q.told in
    broken_off k r (replied l q) more.0 (more.1.0 ++ rest.items, ap (λ is. is ++ rest.items) more.1.1 ∙ append_assoc r.items more.1.0 rest.items)

pub runs_further : (S : Type 0) → RunsFurther S
unfolding Below
runs_further S answer other more cut_short q s h = inr (tt, ((run other q s).items, refl))
runs_further S answer other more (over vs) (over ws) s h = inl (cc)
runs_further S answer other more (step p) (step q) s h =
    extends-behind (paid [] ∷ []) (run answer p s) (run other q s) (runs_further S answer other more p q s h)
runs_further S answer other more (asks e k) (asks f l) s h =
    let P : Ask → Type 0 = λ x. Extends (run answer (asks e k) s) (run other (asks x l) s) in
    subst P h.0 (replied_further (λ a t. run answer (k a) t) (λ a t. run other (l a) t) (answer s e) (other s e)
    (λ a. runs_further S answer other more (k a) (l a) (answer s e).after (h.1 a)) (more s e))
runs_further S answer other more amiss amiss s h = inl refl
runs_further S answer other more stuck stuck s h = inl refl
runs_further S answer other more _ _ s h = search arith
