use Rattle.template_compiler_tokenizer.proofs.reach.read_data.Goals as goal

pub returns-in-None-clause-reached : goal.returns-in-None-clause-reached
returns-in-None-clause-reached c = c.read_last.ensures c.args.from.now c.args.stretch.now
