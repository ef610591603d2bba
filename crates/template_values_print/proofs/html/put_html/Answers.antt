use Rattle.template_values_print.proofs.HtmlTexts.{html-utf8}
use Rattle.template_values_print.proofs.html.put_html.Goals as goal

pub returns-clause-text : goal.returns-clause-text
returns-clause-text c = html-utf8 c.args.text.now c.utf8.text
