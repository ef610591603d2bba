-- What is known of a result, told of what it has.
use Rattle.std.proofs.Common.{Result, Ok, Err, IfOk, IfErr}

pub if_ok : {T E : Type 0} {P Q : T → Type 0} → ((x : T) → P x → Q x) → (r : Result T E) → IfOk r P → IfOk r Q
if_ok tells (Ok x) known = tells x known
if_ok tells (Err e) known = known

pub if_err : {T E : Type 0} {P Q : E → Type 0} → ((e : E) → P e → Q e) → (r : Result T E) → IfErr r P → IfErr r Q
if_err tells (Ok x) known = known
if_err tells (Err e) known = tells e known
