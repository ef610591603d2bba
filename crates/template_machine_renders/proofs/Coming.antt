-- From a run of a template's code to its render, and from one of an expression's code to its value.
use Rattle.std.proofs.Common.{◌≡◌, ℕ, ◌+◌, ◌≤◌, List, [], ◌∷◌, ◌++◌, Option, None, Ok, Err, inl, inr, append-nil, refl, sym, ap, subst, ◌∙◌, arith}
use Rattle.std.specs.Io.KnownBytes.{Appends}
use Rattle.template_values_errors.specs.declared.ErrorKind.TheVariants.{OutOfFuel}
use Rattle.template_values_model.specs.Val.{Val}
use Rattle.template_compiler_tree.specs.Tree.{Expression}
use Rattle.template_compiler_walk.specs.Runnable.{IsRunnable}
use Rattle.template_compiler_code.specs.Code.{Operand, single, Code}
use Rattle.template_compiler_code.specs.Steps.{values_in}
use Rattle.template_compiler_codegen.specs.Statements.{standalone_code}
use Rattle.template_compiler_process.specs.Approximants.{IsFinished}
use Rattle.template_compiler_process.specs.Drive.{End, ends, breaks, waits, mistaken, cuts, sticks, IsUncut}
use Rattle.template_compiler_process.specs.Drive as drives
use Rattle.template_compiler_process.specs.Fuel.{under}
use Rattle.template_compiler_process.specs.Trace.{Item, paid, Run, behind, ended, text_of, price_of}
use Rattle.template_compiler_process.proofs.Cuts.{text-append}
use Rattle.template_machine_surroundings.specs.Writes.{AppendsBeginning}
use Rattle.template_machine_surroundings.proofs.Beginnings.{beginning_longer}
use Rattle.template_machine_meaning.specs.World.{World}
use Rattle.template_machine_meaning.specs.Surroundings.{answer}
use Rattle.template_machine_meaning.specs.Meaning.{Setting, evaluation, meaning}
use Rattle.template_machine_meaning.specs.Laws.{GivesOne, IsAlone}
use Rattle.template_machine_meaning.proofs.Evaluating.{every_evaluation_gives}
use Rattle.template_machine_codes.specs.Codes.{codes_of}
use Rattle.template_machine_codes.proofs.Alike.{code_means_expression, code_means_tree}
use Rattle.template_machine_going.specs.Spots.{Spot}
use Rattle.template_machine_going.specs.Paying.{Paid}
use Rattle.template_machine_going.specs.Outcomes.{Stops, faults, runs_out, strays}
use Rattle.template_machine_going.specs.Strays.{IsLost, Strays, StraysFrom}
use Rattle.template_machine_going.specs.declared.stop.Stop.{Stop}
use Rattle.template_machine_going.specs.declared.stop.Stop.TheVariants.{Fault, Want}
use Rattle.template_machine_going.proofs.Paths.{behind-behind}
use Rattle.template_machine_loop.specs.Runs.{Breaks, faulting, running_out, straying, EndsOver, EndsSo}
use Rattle.template_machine_renders.specs.Renders.{at_start, GivesValue, IsOver, IsDone, IsShort, LeavesFuel, LeavesWorld, Renders, leaves}
use Rattle.template_machine_renders.specs.Laws.{EndsRender, ExpressionsEvaluate, StopsRender}
use Rattle.template_machine_renders.proofs.Fuels.{lasts, rests, ends_spent, spent_leaves, begins, short_spent}
use Rattle.template_machine_renders.proofs.Meanings.{Means, ended_means, begun_means}

-- nothing comes behind an end
pub ended_there : (items : List Item) (end : End) (w : World) → behind items (ended end w) ≡ record { items = items; end = end; after = w }
ended_there items end w = λ i. record { items = append-nil items i; end = end; after = w }

done : (fuel left : Option ℕ) (r : Run World) (before taken : Option (List ℕ)) → IsOver r.end → Paid (price_of r.items) fuel left
    → Appends before taken (text_of r.items) → IsDone fuel r r.after left before taken
done fuel left r before taken over pays text =
    let same = lasts fuel left r pays in
    record {
      over = subst (λ (q : Run World). IsOver q.end) (sym same) over;
      text = subst (λ (q : Run World). Appends before taken (text_of q.items)) (sym same) text;
      world = ap (λ (q : Run World). q.after) same;
      left_is = rests fuel left r pays;
    }

-- runs come to a run, under every bound that is great enough
abbrev pub ComeTo : (ℕ → Run World) → Run World → Type 0
ComeTo runs meant = (least : ℕ) × ((m : ℕ) → least ≤ m → runs m ≡ meant)

-- runs that came to their end did so
pub ends_meant : (runs : ℕ → Run World) (meant : Run World) (after : World) (fuel left : Option ℕ) (before taken : Option (List ℕ)) → ComeTo runs meant
    → EndsSo runs after fuel left before taken → IsDone fuel meant after left before taken
ends_meant runs meant after fuel left before taken come e =
    let r : Run World = record { items = e.items; end = ends e.operands; after = after } in
    let m = come.0 + e.least in
    let means : meant ≡ r = sym (come.1 m (omega arith)) ∙ e.is m (omega arith) ∙ ended_there e.items (ends e.operands) after in
    subst (λ (q : Run World). IsDone fuel q after left before taken) (sym means) (done fuel left r before taken tt e.pays e.text)

-- and runs that are lost are so
strays_meant : (runs : ℕ → Run World) (meant : Run World) → ComeTo runs meant → Strays runs → Strays (λ n. meant)
strays_meant runs meant come f = record {
  items = f.items;
  least = 0;
  end = f.end;
  world = f.world;
  is = λ n le. sym (come.1 (come.0 + f.least) (omega arith)) ∙ f.is (come.0 + f.least) (omega arith);
  lost = f.lost;
}

-- and runs that stopped are it up to there
pub breaks_meant : (runs : ℕ → Run World) (meant : Run World) (stop : Stop) (after : World) (fuel left : Option ℕ) (before taken : Option (List ℕ)) → ComeTo runs meant
    → Breaks runs stop after fuel left before taken → Breaks (λ n. meant) stop after fuel left before taken
breaks_meant runs meant (Fault kinds) after fuel left before taken come (faulting f) = faulting (record {
  items = f.items;
  least = 0;
  is = λ n le. sym (come.1 (come.0 + f.least) (omega arith)) ∙ f.is (come.0 + f.least) (omega arith);
  pays = f.pays;
  text = f.text;
})
breaks_meant runs meant (Fault kinds) after fuel left before taken come (running_out f) = running_out (record {
  items = f.items;
  least = 0;
  wraps = f.wraps;
  rest = λ n. f.rest (come.0 + f.least);
  remained = f.remained;
  is = λ n le. sym (come.1 (come.0 + f.least) (omega arith)) ∙ f.is (come.0 + f.least) (omega arith);
  kinds_are = f.kinds_are;
  pays = f.pays;
  spent = f.spent;
  nothing = f.nothing;
  text = f.text;
})
breaks_meant runs meant (Fault kinds) after fuel left before taken come (straying bad f) = straying bad (strays_meant runs meant come f)
breaks_meant runs meant (Want kinds) after fuel left before taken come (why, inl f) = (
  why,
  inl (record {
    items = f.items;
    least = 0;
    rest = λ n. f.rest (come.0 + f.least);
    remained = f.remained;
    is = λ n le. sym (come.1 (come.0 + f.least) (omega arith)) ∙ f.is (come.0 + f.least) (omega arith);
    pays = f.pays;
    stays = f.stays;
    text = f.text;
  }),
)
breaks_meant runs meant (Want kinds) after fuel left before taken come (why, inr f) = (why, inr (strays_meant runs meant come f))

-- what is lost has no end, though no bound ran out
lost_uncut : (e : End) → IsLost e → IsUncut e
lost_uncut breaks lost = tt
lost_uncut mistaken lost = tt
lost_uncut sticks lost = tt
lost_uncut (ends operands) lost = tt
lost_uncut (drives.faults kinds) lost = tt
lost_uncut waits lost = tt
lost_uncut cuts lost = absurd lost

lost_unfinished : (e : End) → IsLost e → IsFinished e → ⊥
lost_unfinished breaks lost finished = finished
lost_unfinished mistaken lost finished = finished
lost_unfinished sticks lost finished = finished
lost_unfinished (ends operands) lost finished = lost
lost_unfinished (drives.faults kinds) lost finished = lost
lost_unfinished waits lost finished = lost
lost_unfinished cuts lost finished = lost

text_behind : (items : List Item) (q : Run World) (before taken : Option (List ℕ)) → AppendsBeginning before taken (text_of items)
    → AppendsBeginning before taken (text_of (behind items q).items)
text_behind items q before taken begun =
    subst (AppendsBeginning before taken) (sym (text-append items q.items)) (beginning_longer before taken (text_of items) (text_of q.items) begun)

-- a run that is finished is not lost
strays_unfinished : (meant : Run World) → Strays (λ n. meant) → IsFinished meant.end → ⊥
strays_unfinished meant o finished =
    let same : meant ≡ record { items = o.items; end = o.end; after = o.world } = o.is o.least (omega arith) ∙ ended_there o.items o.end o.world in
    lost_unfinished o.end o.lost (subst (λ (q : Run World). IsFinished q.end) same finished)

-- a run that stopped, under its fuel
pub stops_there : (X : Type 0) (meant : Run World) (after : World) (fuel left : Option ℕ) (before taken : Option (List ℕ)) (stop : Stop)
    → IsFinished meant.end → Breaks (λ n. meant) stop after fuel left before taken → Renders {X = X} (Err stop) before taken (under fuel meant)
stops_there X meant after fuel left before taken (Fault kinds) finished (faulting f) =
    let r : Run World = record { items = f.items; end = drives.faults kinds; after = after } in
    let is : meant ≡ r = f.is f.least (omega arith) ∙ ended_there f.items (drives.faults kinds) after in
    let same = ap (under fuel) is ∙ lasts fuel left r f.pays in
    subst (λ (q : Run World). Renders {X = X} (Err (Fault kinds)) before taken q) (sym same) (refl, f.text)
stops_there X meant after fuel left before taken (Fault kinds) finished (running_out o) =
    let rest = o.rest o.least in
    let r : Run World = record { items = o.items; end = drives.faults (o.wraps ++ OutOfFuel ∷ []); after = rest.after } in
    let same = ap (under fuel) (o.is o.least (omega arith)) ∙ ends_spent fuel o.remained o.items o.wraps rest o.pays o.spent
    ∙ ended_there o.items (drives.faults (o.wraps ++ OutOfFuel ∷ [])) rest.after in
    subst (λ (q : Run World). Renders {X = X} (Err (Fault kinds)) before taken q) (sym same) (ap (λ ks. drives.faults ks) (sym o.kinds_are), o.text)
stops_there X meant after fuel left before taken (Fault kinds) finished (straying is o) = absurd (strays_unfinished meant o finished)
stops_there X meant after fuel left before taken (Want kinds) finished (why, inr o) = absurd (strays_unfinished meant o finished)
stops_there X meant after fuel left before taken (Want kinds) finished (why, inl o) =
    let cut = begins fuel o.remained o.items (o.rest o.least) o.pays in
    let same = ap (under fuel) (o.is o.least (omega arith)) ∙ cut.1 in
    subst (λ (q : Run World). Renders {X = X} (Err (Want kinds)) before taken q) (sym same) (why, text_behind o.items cut.0 before taken o.text)

-- and what it leaves of the fuel
pub stops_leave : (X : Type 0) (meant : Run World) (after : World) (fuel left : Option ℕ) (before taken : Option (List ℕ)) (stop : Stop)
    → IsFinished meant.end → Breaks (λ n. meant) stop after fuel left before taken → LeavesFuel {X = X} fuel meant (Err stop) left
stops_leave X meant after fuel left before taken (Fault kinds) finished (faulting f) =
    let r : Run World = record { items = f.items; end = drives.faults kinds; after = after } in
    let is : meant ≡ r = f.is f.least (omega arith) ∙ ended_there f.items (drives.faults kinds) after in
    subst (λ (q : Run World). left ≡ leaves fuel q) (sym is) (rests fuel left r f.pays)
stops_leave X meant after fuel left before taken (Fault kinds) finished (running_out o) =
    let there : Run World = behind o.items (behind (paid o.wraps ∷ []) (o.rest o.least)) in
    let is : meant ≡ there = o.is o.least (omega arith) in
    subst (λ (q : Run World). left ≡ leaves fuel q) (sym is)
    (o.nothing ∙ sym (spent_leaves fuel o.remained o.items o.wraps (o.rest o.least) o.pays o.spent))
stops_leave X meant after fuel left before taken (Fault kinds) finished (straying is o) = absurd (strays_unfinished meant o finished)
stops_leave X meant after fuel left before taken (Want kinds) finished broke = tt

-- and of the world
stops_world : (meant : Run World) (after : World) (fuel left : Option ℕ) (before taken : Option (List ℕ)) (stop : Stop)
    → IsFinished meant.end → Breaks (λ n. meant) stop after fuel left before taken → LeavesWorld fuel meant stop after
stops_world meant after fuel left before taken (Fault kinds) finished (faulting f) =
    let is = f.is f.least (omega arith) ∙ ended_there f.items (drives.faults kinds) after in
    inr (ap (λ (q : Run World). q.after) (sym is))
stops_world meant after fuel left before taken (Fault kinds) finished (running_out o) =
    inl (subst (IsShort fuel) (sym (o.is o.least (omega arith))) (short_spent fuel o.remained o.items o.wraps (o.rest o.least) o.pays o.spent))
stops_world meant after fuel left before taken (Fault kinds) finished (straying is o) = absurd (strays_unfinished meant o finished)
stops_world meant after fuel left before taken (Want kinds) finished broke = tt

pub stops_so : (X : Type 0) (meant : Run World) (after : World) (fuel left : Option ℕ) (before taken : Option (List ℕ)) (stop : Stop)
    → IsFinished meant.end → Breaks (λ n. meant) stop after fuel left before taken
    → Renders {X = X} (Err stop) before taken (under fuel meant) × LeavesFuel {X = X} fuel meant (Err stop) left × LeavesWorld fuel meant stop after
stops_so X meant after fuel left before taken stop finished broke = (
  stops_there X meant after fuel left before taken stop finished broke,
  stops_leave X meant after fuel left before taken stop finished broke,
  stops_world meant after fuel left before taken stop finished broke,
)

pub ends_render : EndsRender
ends_render setting root w after fuel left before taken e n finished =
    ends_meant _ (meaning setting root n w) after fuel left before taken (code_means_tree setting root w n finished) e

pub stops_render : (X : Type 0) → StopsRender X
stops_render X setting root w after fuel left before taken stop stops n finished =
    stops_there X (meaning setting root n w) after fuel left before taken stop finished
    (breaks_meant _ (meaning setting root n w) stop after fuel left before taken (code_means_tree setting root w n finished) stops)

-- an expression's run leaves one value, or ends with a fault
one_finished : (e : End) → GivesOne e → IsFinished e
one_finished (ends operands) gives = tt
one_finished (drives.faults kinds) gives = tt
one_finished _ gives = gives

only_one : (v : Val) (vs : List Val) → GivesOne (ends (v ∷ vs)) → ends (v ∷ vs) ≡ ends (v ∷ [])
only_one v [] gives = refl
only_one v (w ∷ vs) gives = absurd gives

expression_means : (setting : Setting) (e : Expression) → IsRunnable e → (w : World) → IsAlone w → Means setting (standalone_code e) w (evaluation setting e w)
expression_means setting e runs w none =
    code_means_expression setting e w (one_finished (evaluation setting e w).end (every_evaluation_gives setting e runs w none))

-- where its code is at its end
evaluation_over : (setting : Setting) (e : Expression) → IsRunnable e → (w after : World) → IsAlone w → (fuel left : Option ℕ) (before taken : Option (List ℕ))
    (operands : List Operand) → EndsOver (answer (codes_of setting None)) (standalone_code e) (at_start w fuel before) operands after left taken
    → ((under fuel (evaluation setting e w)).end ≡ ends (values_in operands)) × ((under fuel (evaluation setting e w)).after ≡ after) × GivesOne (ends (values_in operands))
evaluation_over setting e runs w after none fuel left before taken operands h =
    let r : Run World = record { items = h.items; end = ends (values_in operands); after = after } in
    let is = ended_means setting (standalone_code e) (evaluation setting e w) (at_start w fuel before) h.least h.bound r refl refl (expression_means setting e runs w none) tt
    (λ m le. h.is m le ∙ ended_there h.items (ends (values_in operands)) after) in
    let same = ap (under fuel) is ∙ lasts fuel left r h.pays in (
      ap (λ (q : Run World). q.end) same,
      ap (λ (q : Run World). q.after) same,
      subst (λ (q : Run World). GivesOne q.end) is (every_evaluation_gives setting e runs w none),
    )

-- a run of code that stands alone, which is lost, is what the code means
lost_meant : (setting : Setting) (code : List Code) (meant : Run World) (w : World) (fuel : Option ℕ) (before : Option (List ℕ)) → Means setting code w meant
    → StraysFrom (answer (codes_of setting None)) code (at_start w fuel before) → Strays (λ n. meant)
lost_meant setting code meant w fuel before means f =
    let o = f.1 in
    let r : Run World = record { items = o.items; end = o.end; after = o.world } in
    let is = ended_means setting code meant (at_start w fuel before) o.least f.0 r refl refl means (lost_uncut o.end o.lost)
    (λ m le. o.is m le ∙ ended_there o.items o.end o.world) in
    record {
      items = o.items;
      least = 0;
      end = o.end;
      world = o.world;
      is = λ n le. is ∙ sym (ended_there o.items o.end o.world);
      lost = o.lost;
    }

-- and one which stopped is it up to there
stops_meant : (setting : Setting) (code : List Code) (meant : Run World) (w : World) (fuel : Option ℕ) (before : Option (List ℕ)) (y : Spot World) (stop : Stop)
    → Means setting code w meant → Stops (answer (codes_of setting None)) code (at_start w fuel before) y stop
    → Breaks (λ n. meant) stop y.world fuel y.left before y.taken
stops_meant setting code meant w fuel before y (Fault kinds) means (faults f) =
    let r : Run World = record { items = f.1.items; end = drives.faults kinds; after = y.world } in
    let is = ended_means setting code meant (at_start w fuel before) f.1.least f.0 r refl refl means tt
    (λ m le. f.1.is m le ∙ ended_there f.1.items (drives.faults kinds) y.world) in
    faulting (record {
      items = f.1.items;
      least = 0;
      is = λ n le. is ∙ sym (ended_there f.1.items (drives.faults kinds) y.world);
      pays = f.1.pays;
      text = f.1.text;
    })
stops_meant setting code meant w fuel before y (Fault kinds) means (runs_out f) =
    let o = f.1 in
    let is = begun_means setting code meant (at_start w fuel before) o.least f.0 (o.items ++ paid o.wraps ∷ []) o.rest refl refl means
    (λ m le. o.is m le ∙ behind-behind o.items (paid o.wraps ∷ []) (o.rest m)) in
    running_out (record {
      items = o.items;
      least = 0;
      wraps = o.wraps;
      rest = λ n. is.0;
      remained = o.remained;
      is = λ n le. is.1 ∙ sym (behind-behind o.items (paid o.wraps ∷ []) is.0);
      kinds_are = o.kinds_are;
      pays = o.pays;
      spent = o.spent;
      nothing = o.nothing;
      text = o.text;
    })
stops_meant setting code meant w fuel before y (Fault kinds) means (strays bad f) = straying bad (lost_meant setting code meant w fuel before means f)
stops_meant setting code meant w fuel before y (Want kinds) means (why, inl f) =
    let o = f.1 in
    let is = begun_means setting code meant (at_start w fuel before) o.least f.0 o.items o.rest refl refl means o.is in (
      why,
      inl (record {
        items = o.items;
        least = 0;
        rest = λ n. is.0;
        remained = o.remained;
        is = λ n le. is.1;
        pays = o.pays;
        stays = o.stays;
        text = o.text;
      }),
    )
stops_meant setting code meant w fuel before y (Want kinds) means (why, inr f) = (why, inr (lost_meant setting code meant w fuel before means f))

gives_stop : (stop : Stop) (before taken : Option (List ℕ)) (after : World) (r : Run World) → Renders {X = Val} (Err stop) before taken r
    → GivesValue (Err stop) after r
gives_stop (Fault kinds) before taken after r renders = renders.0
gives_stop (Want kinds) before taken after r renders = renders.0

pub expressions_evaluate : ExpressionsEvaluate
expressions_evaluate setting e runs w after none fuel left before taken (Ok v) (below, h) =
    let over = evaluation_over setting e runs w after none fuel left before taken (single v ∷ below) h in
    (over.0 ∙ only_one v (values_in below) over.2, over.1)
expressions_evaluate setting e runs w after none fuel left before taken (Err stop) (inl stops) =
    gives_stop stop before taken after (under fuel (evaluation setting e w))
    (stops_there Val (evaluation setting e w) after fuel left before taken stop
    (one_finished (evaluation setting e w).end (every_evaluation_gives setting e runs w none))
    (stops_meant setting (standalone_code e) (evaluation setting e w) w fuel before (at_start after left taken) stop (expression_means setting e runs w none) stops))
expressions_evaluate setting e runs w after none fuel left before taken (Err stop) (inr (bad, h)) =
    absurd (evaluation_over setting e runs w after none fuel left before taken [] h).2
