use Rattle.std.proofs.Common.{◌||◌, refl, ap, ◌∙◌, bytes_eq}
use Rattle.std.specs.List.{list_any}
use Rattle.template_compiler_names.specs.Among.{is_among}
use Rattle.template_compiler_names.specs.Goes.{has}
use Rattle.template_compiler_names.proofs.Laws.{goes_nowhere}
use Rattle.template_compiler_names.proofs.Sets.{has_more, stored_here}
use Rattle.template_compiler_names.proofs.state.Names.store_further.Goals as goal

pub returns : goal.returns
returns c =
    let old = c.args.self.now in
    let still = goes_nowhere old in
    record {
      found = still.found;
      knows = λ q.
          ap (λ h. is_among old.few.items q || (list_any (λ region. has region q) old.outer.items || h))
          (has_more old.here c.insert.new.self c.args.name.now q (c.in_ok-insert.ensures.updates.0 record { ref_ptr = (0, 0); now = q })) ∙
          stored_here (is_among old.few.items q) (list_any (λ region. has region q) old.outer.items) (has old.here q) (bytes_eq c.args.name.now q);
      few = still.few;
      outer = refl;
      nested = refl;
    }
