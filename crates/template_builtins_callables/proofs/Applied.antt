-- What `map` makes with the filter of a name.
use Rattle.std.proofs.Common.{arith, ◌≡◌, ◌∙◌, ap, refl, Bool, true, false, cond, List, [], ◌∷◌, length, Ok, Err}
use Rattle.template_values_errors.specs.declared.ErrorKind.{ErrorKind}
use Rattle.template_values_model.specs.Val.{Val}
use Rattle.template_callables.specs.Callables.{View}
use Rattle.template_builtins_arguments.specs.Answers.{Made, Tells, then as after}
use Rattle.template_builtins_arguments.specs.Parts.{items_of}
use Rattle.template_builtins_callables.specs.Builtins.{filter_by}
use Rattle.template_builtins_paths.specs.Items.{each}
use Rattle.template_builtins_paths.proofs.Steps.{after_ok, tells_after_err}
use Rattle.template_builtins_callables.specs.Each.{listed}
use Rattle.template_builtins_callables.specs.Filtered.{alone_filtered, applies_other, few, filtered, made_with, mapped}
use Rattle.template_builtins_callables.specs.declared.filter.Filter.{Filter}

-- the first argument names a filter
pub by_name : (filter : Filter) (view : View) (v : Val) (vs : List Val) (name : Val) (rest : List Val) → vs ≡ name ∷ rest
    → applies_other filter name rest ≡ true
    → filtered filter view v vs ≡ mapped (λ other item. filtered other view item rest) view v name rest
unfolding made_with
by_name filter view v vs name rest are other =
    ap (λ (us : List Val). made_with us filter view v) are
    ∙ ap (λ (b : Bool). cond b (mapped (λ o item. made_with rest o view item) view v name rest) (alone_filtered filter view v (name ∷ rest))) other

-- it does not
pub without : (filter : Filter) (view : View) (v : Val) (vs : List Val) (name : Val) (rest : List Val) → vs ≡ name ∷ rest
    → applies_other filter name rest ≡ false → filtered filter view v vs ≡ alone_filtered filter view v vs
unfolding made_with
without filter view v vs name rest are other = rw (are, other) refl

-- so many arguments may stand there
after_few : (apply : Filter → Val → Made) (view : View) (v name : Val) (rest : List Val) (u : Unit {0}) → few rest ≡ Ok u
    → mapped apply view v name rest ≡ after (items_of view v) (λ items. after (filter_by name) (λ other. listed (each (apply other) items)))
after_few apply view v name rest u are_few = after_ok (few rest) u _ are_few

-- and the items are found
after_items : (apply : Filter → Val → Made) (view : View) (v name : Val) (rest items : List Val) (u : Unit {0}) → few rest ≡ Ok u
    → items_of view v ≡ Ok items → mapped apply view v name rest ≡ after (filter_by name) (λ other. listed (each (apply other) items))
after_items apply view v name rest items u are_few are =
    after_few apply view v name rest u are_few ∙ after_ok (items_of view v) items _ are

-- and the filter
after_name : (apply : Filter → Val → Made) (view : View) (v name : Val) (rest items : List Val) (other : Filter) (u : Unit {0})
    → few rest ≡ Ok u → items_of view v ≡ Ok items → filter_by name ≡ Ok other
    → mapped apply view v name rest ≡ listed (each (apply other) items)
after_name apply view v name rest items other u are_few are is =
    after_items apply view v name rest items u are_few are ∙ after_ok (filter_by name) other _ is

module _ (filter : Filter) (view : View) (v : Val) (vs : List Val) (name : Val) (rest : List Val) (are : vs ≡ name ∷ rest)
    (applies : applies_other filter name rest ≡ true) where
  pub by_items : (items : List Val) (other : Filter) (u : Unit {0}) → few rest ≡ Ok u → items_of view v ≡ Ok items
      → filter_by name ≡ Ok other → filtered filter view v vs ≡ listed (each (λ item. filtered other view item rest) items)
  by_items items other u are_few items_are is =
      by_name filter view v vs name rest are applies
      ∙ after_name (λ o item. filtered o view item rest) view v name rest items other u are_few items_are is

  -- what is refused on the way is what the whole refuses
  pub few_fail : (kinds : List ErrorKind) → Tells {T = Unit {0}} (Err kinds) (few rest) → Tells {T = Val} (Err kinds) (filtered filter view v vs)
  few_fail kinds failed =
      rw (by_name filter view v vs name rest are applies) (tells_after_err {T = Unit {0}} {U = Val} (few rest) _ kinds failed)

  pub items_fail : (u : Unit {0}) (kinds : List ErrorKind) → few rest ≡ Ok u → Tells {T = List Val} (Err kinds) (items_of view v)
      → Tells {T = Val} (Err kinds) (filtered filter view v vs)
  items_fail u kinds are_few failed =
      rw (by_name filter view v vs name rest are applies ∙ after_few (λ o item. filtered o view item rest) view v name rest u are_few)
      (tells_after_err {T = List Val} {U = Val} (items_of view v) _ kinds failed)

  pub name_fails : (items : List Val) (u : Unit {0}) (kinds : List ErrorKind) → few rest ≡ Ok u → items_of view v ≡ Ok items
      → Tells {T = Filter} (Err kinds) (filter_by name) → Tells {T = Val} (Err kinds) (filtered filter view v vs)
  name_fails items u kinds are_few items_are failed =
      rw (by_name filter view v vs name rest are applies ∙ after_items (λ o item. filtered o view item rest) view v name rest items u are_few items_are)
      (tells_after_err {T = Filter} {U = Val} (filter_by name) _ kinds failed)

  pub item_fails : (items : List Val) (other : Filter) (u : Unit {0}) (kinds : List ErrorKind) → few rest ≡ Ok u
      → items_of view v ≡ Ok items → filter_by name ≡ Ok other
      → Tells {T = List Val} (Err kinds) (each (λ item. filtered other view item rest) items)
      → Tells {T = Val} (Err kinds) (filtered filter view v vs)
  item_fails items other u kinds are_few items_are is failed =
      rw (by_items items other u are_few items_are is)
      (tells_after_err {T = List Val} {U = Val} (each (λ item. filtered other view item rest) items) _ kinds failed)

-- no argument is given
pub bare : (filter : Filter) (view : View) (v : Val) (vs : List Val) → length vs ≡ 0
    → filtered filter view v vs ≡ alone_filtered filter view v vs
unfolding made_with
bare filter view v [] none_given = refl
bare filter view v (w ∷ ws) none_given = absurd (omega arith)
