use Rattle.std.proofs.Common.{refl, String, string_bytes}
use Rattle.std.specs.declared.alloc.Global.{Global}
use Rattle.std.proofs.lemmas.Result.{err_from_is_err_and}
use Rattle.template_machine_environment.proofs.Capturing.{text_done, text_stopped}
use Rattle.template_machine_environment.proofs.state.State.render_block.Goals as goal

pub returns-in_err-render_block_to_write-clause-text : goal.returns-in_err-render_block_to_write-clause-text
returns-in_err-render_block_to_write-clause-text g c = λ n finished.
    let p = err_from_is_err_and c.from_residual.result c.from_residual.ensures.1 in
    rw (p.1, p.2)
    (text_stopped _ _ (λ (text : String Global). string_bytes text) _ _ _ _ (c.in_err-render_block_to_write.ensures.renders n finished))

pub returns-clause-text : goal.returns-clause-text
returns-clause-text g c = λ n finished.
    text_done _ c.render_block_to_write.new.sink (λ text. string_bytes text) _ _ _ _ c.new-text.ensures.bytes
    (c.in_ok-render_block_to_write.ensures.renders n finished)

pub returns-in_err-render_block_to_write-clause-remains : goal.returns-in_err-render_block_to_write-clause-remains
returns-in_err-render_block_to_write-clause-remains g c = λ n finished.
    let p = err_from_is_err_and c.from_residual.result c.from_residual.ensures.1 in
    rw (p.1, p.2) (c.in_err-render_block_to_write.ensures.remains refl n finished)

pub returns-clause-remains : goal.returns-clause-remains
returns-clause-remains g c = λ n finished. c.in_ok-render_block_to_write.ensures.remains refl n finished

pub returns-in_err-render_block_to_write-clause-world : goal.returns-in_err-render_block_to_write-clause-world
returns-in_err-render_block_to_write-clause-world g c = λ n finished.
    let p = err_from_is_err_and c.from_residual.result c.from_residual.ensures.1 in
    rw (p.1, p.2) (c.in_err-render_block_to_write.ensures.world refl n finished)

pub returns-clause-world : goal.returns-clause-world
returns-clause-world g c = λ n finished. c.in_ok-render_block_to_write.ensures.world refl n finished
