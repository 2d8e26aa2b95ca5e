use Rattle.std.proofs.Common.{rules}
use Rattle.live_threads.proofs.TogetherLemmas.{ok_together}
use Rattle.test_live_tcp.proofs.loopback.fn.a_session_is_charged_over_loopback.together.Goals as goal

-- each is a world of its bench
pub returns : goal.returns
returns g c =
    ok_together _ _ c.args.livings c.map_vec.result (λ living r says. search rules) c.map_vec.ensures.len
    c.map_vec.ensures.each
