use Rattle.template_machine_acts.proofs.Planning as laws
use Rattle.template_machine_acts.proofs.blocks_ask.Goals as goal

pub returns : goal.returns
returns c = record {
  call = laws.call_block_asks;
  fast_super = laws.fast_super_asks;
  super_named = laws.super_asks;
  load = laws.load_blocks_asks;
  includes = laws.include_asks;
  again = laws.recurse_asks;
  planned = laws.super_planned;
}
