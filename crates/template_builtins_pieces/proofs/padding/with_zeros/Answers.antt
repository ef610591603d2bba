use Rattle.template_builtins_pieces.proofs.Signs.{sign_edge}
use Rattle.template_builtins_pieces.proofs.padding.with_zeros.Goals as goal

pub split_at-requires : goal.split_at-requires
split_at-requires c = rw c.sign_length.ensures (sign_edge c.args.text.now c.utf8.text)
