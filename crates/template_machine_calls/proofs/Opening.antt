-- What the state itself is asked leaves what is open as it was.
use Rattle.std.proofs.Common.{◌≡◌, ℕ, Bool, true, false, List, if◌then◌else◌, refl, sym, ap, subst}
use Rattle.template_values_model.specs.Val as values
use Rattle.template_values_model.specs.Val.{Val}
use Rattle.template_callables.specs.Callables.{Asked}
use Rattle.template_compiler_process.specs.Process.{tells, breaks_off, value}
use Rattle.template_machine_meaning.specs.Calls.{are_as_before, called_plan}
use Rattle.template_machine_meaning.specs.Functions.{compares}
use Rattle.template_machine_meaning.specs.Keys.{Around}
use Rattle.template_machine_meaning.specs.Namespaces.{made_namespace}
use Rattle.template_machine_meaning.specs.Plans.{Plan, replies, enters}
use Rattle.template_machine_meaning.specs.Replies.{told, changed}
use Rattle.template_machine_meaning.specs.World.{World, given_at, put_given}
use Rattle.template_machine_calls.specs.Left.{IsOpenAlike}
use Rattle.template_machine_calls.proofs.Printing.{no_programs}

-- such a world by another name
open_as : (w v after : World) → after ≡ v → IsOpenAlike w v → IsOpenAlike w after
open_as w v after is alike = subst (IsOpenAlike w) (sym is) alike

-- a namespace is made
pub made_open : (w after : World) (entries : List (Val × Val)) → after ≡ made_namespace w entries → IsOpenAlike w after
made_open w after entries is = open_as w (made_namespace w entries) after is refl

-- the world that a reply leaves
abbrev left_in : World → Plan → World
left_in w (replies r) = r.after
left_in w (enters x) = w

-- or arguments are compared with those of the call before
either_open : (w after : World) (number : ℕ) (vs : List Val) (b is : Bool)
    → replies (if b then told w (tells (value (values.truth false))) else changed (record w { given = put_given number vs w.given }) (value (values.truth true)))
    ≡ replies (changed after (value (values.truth is))) → IsOpenAlike w after
either_open w after number vs true is same = open_as w w after (sym (ap (left_in w) same)) refl
either_open w after number vs false is same =
    open_as w (record w { given = put_given number vs w.given }) after (sym (ap (left_in w) same)) refl

pub compared_open : (w after : World) (number : ℕ) (vs : List Val) (is : Bool)
    → ((a : Around) (pending : ℕ) (go : World → Asked → Plan) → called_plan a pending go w (compares number vs) ≡ replies (changed after (value (values.truth is))))
    → IsOpenAlike w after
compared_open w after number vs is so =
    either_open w after number vs (are_as_before vs (given_at number w.given)) is (so no_programs.around 0 (λ t asked. replies (told t breaks_off)))
