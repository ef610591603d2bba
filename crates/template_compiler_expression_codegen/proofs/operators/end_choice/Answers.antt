use Rattle.template_compiler_expression_codegen.proofs.operators.end_choice.Goals as goal

pub returns-in-Some-clause-put : goal.returns-in-Some-clause-put
returns-in-Some-clause-put c = record { kept = c.truncate.ensures.kept; same = c.truncate.ensures.same; places = c.truncate.ensures.places }

pub returns-in_ok-load-in-None-clause-put : goal.returns-in_ok-load-in-None-clause-put
returns-in_ok-load-in-None-clause-put c =
    record { mid = c.load.new.code; put = c.in_ok-load-in-None.ensures.put; landed = c.land.ensures.landed; same = c.land.ensures.same }
