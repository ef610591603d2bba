use Rattle.template_program_words.proofs.syntax.syntax_words.Goals as goal

pub returns : goal.returns
returns c = record {
  trim_blocks = c.is_flagged.ensures;
  lstrip_blocks = c.is_flagged-2.ensures;
  keep_trailing_newline = c.is_flagged-3.ensures;
  scoped_blocks = c.is_flagged-4.ensures;
  line_statement = c.text.ensures;
  line_comment = c.text-2.ensures;
  block_start = c.text-3.ensures;
  block_end = c.text-4.ensures;
  variable_start = c.text-5.ensures;
  variable_end = c.text-6.ensures;
  comment_start = c.text-7.ensures;
  comment_end = c.text-8.ensures;
}
