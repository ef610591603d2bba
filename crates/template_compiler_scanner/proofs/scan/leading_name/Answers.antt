use Rattle.template_compiler_scanner.proofs.Names.{name_cut}
use Rattle.template_compiler_scanner.proofs.scan.leading_name.Goals as goal

pub split_at-requires : goal.split_at-requires
split_at-requires c = rw (c.name_len.ensures, c.as_bytes.ensures.value) (name_cut c.args.text.now c.utf8.text)
