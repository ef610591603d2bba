use Rattle.std.proofs.Common.{[], ◌∷◌, refl}
use Rattle.template_compiler_names.specs.Goes.{knows_further}
use Rattle.template_compiler_names.proofs.Laws.{goes_nowhere}
use Rattle.template_compiler_names.proofs.Sets.{one_more}
use Rattle.template_compiler_names.proofs.state.Names.store.Goals as goal

pub returns-then-len-lt-FEW : goal.returns-then-len-lt-FEW
returns-then-len-lt-FEW c =
    let still = goes_nowhere c.args.self.now in
    record {
      found = still.found;
      knows = λ q. one_more c.args.self.now.few.items c.push.new.self.items c.args.name (knows_further c.args.self.now q) q c.in_ok-push.ensures.items;
      few = (c.args.name ∷ [], c.in_ok-push.ensures.items);
      outer = refl;
      nested = refl;
    }
