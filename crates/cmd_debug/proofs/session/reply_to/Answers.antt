use Rattle.std.proofs.Common.{◌∙◌, Err, Ok, ap, refl}
use Rattle.bench_debug.specs.Tables.{tables_in}
use Rattle.bench_spec.specs.Taken.{Run}
use Rattle.debug_text.specs.Replies.{reply_text}
use Rattle.debug_text.specs.Tables.{Tables}
use Rattle.cmd_debug.proofs.SessionLemmas.{replied_of}
use Rattle.cmd_debug.proofs.session.reply_to.Goals as goal

-- a reply is put
pub returns-in-Ok-clause-replied : goal.returns-in-Ok-clause-replied
returns-in-Ok-clause-replied g c =
    replied_of _ _ c.args.line.now c.args.out.now.items _ _ (Ok c.in-Ok.reply) c.put_reply.result c.in-Ok.ensures.does
    (ap (λ (t : Tables). reply_text t c.in-Ok.reply) (c.tables_in.ensures ∙ ap (λ (run : Run). tables_in run.settings) c.core.ensures)) c.put_reply.ensures

-- or a fault
pub returns-in-Err-clause-replied : goal.returns-in-Err-clause-replied
returns-in-Err-clause-replied g c =
    replied_of _ _ c.args.line.now c.args.out.now.items _ _ (Err c.in-Err.fault) c.put_fault.result c.in-Err.ensures.does refl c.put_fault.ensures
