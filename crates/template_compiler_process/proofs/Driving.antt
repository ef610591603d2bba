-- Processes that are below one another are driven alike, and run alike.
use Rattle.std.proofs.Common.{◌≡◌, [], ◌∷◌, refl, ap, subst, arith}
use Rattle.template_compiler_process.specs.Process.{Ask, Answer, Told, tells, fails, breaks_off, leaves, over, step, asks, amiss, cut_short, stuck, Below}
use Rattle.template_compiler_process.specs.Drive as drives
use Rattle.template_compiler_process.specs.Drive.{Driven, drive, marked, asked, End, ends, faults, breaks, waits, IsUncut}
use Rattle.template_compiler_process.specs.Trace.{Run, run, behind, go_on, paid}
use Rattle.template_compiler_process.specs.Laws.{DrivenAlike, RunAlike}

pub driven_alike : DrivenAlike
unfolding Below
driven_alike (over vs) (over ws) told h uncut = cc
driven_alike (step p) (step q) told h uncut = ap (marked drives.paid) (driven_alike p q told h uncut)
driven_alike (asks e k) (asks f l) [] h uncut = cc
driven_alike (asks e k) (asks f l) (tells a ∷ told) h uncut = let ih = driven_alike (k a) (l a) told (h.1 a) uncut in cc
driven_alike (asks e k) (asks f l) (fails kinds ∷ told) h uncut = cc
driven_alike (asks e k) (asks f l) (breaks_off ∷ told) h uncut = cc
driven_alike (asks e k) (asks f l) (leaves ∷ told) h uncut = cc
driven_alike amiss amiss told h uncut = refl
driven_alike stuck stuck told h uncut = refl
driven_alike cut_short q told h uncut = absurd uncut
driven_alike _ _ told h uncut = search arith

-- what is told leads both to the same, where each answer does
told_alike : {S : Type 0} → (k l : Answer → S → Run S) (s : S) (told : Told) → ((a : Answer) → IsUncut (k a s).end → l a s ≡ k a s) → IsUncut (go_on k s told).end → go_on l s told ≡ go_on k s told
told_alike k l s (tells a) alike uncut = alike a uncut
told_alike k l s (fails kinds) alike uncut = refl
told_alike k l s breaks_off alike uncut = refl
told_alike k l s leaves alike uncut = refl

pub run_alike : (S : Type 0) → RunAlike S
unfolding Below
run_alike S answer (over vs) (over ws) s h uncut = cc
run_alike S answer (step p) (step q) s h uncut = ap (behind (paid [] ∷ [])) (run_alike S answer p q s h uncut)
run_alike S answer (asks e k) (asks f l) s h uncut =
    let P : Ask → Type 0 = λ x. run answer (asks x l) s ≡ run answer (asks e k) s in
    let r = answer s e in
    subst P h.0 (ap (behind r.items) (told_alike (λ a t. run answer (k a) t) (λ a t. run answer (l a) t) r.after r.told (λ a u. run_alike S answer (k a) (l a) r.after (h.1 a) u) uncut))
run_alike S answer amiss amiss s h uncut = refl
run_alike S answer stuck stuck s h uncut = refl
run_alike S answer cut_short q s h uncut = absurd uncut
run_alike S answer _ _ s h uncut = search arith
