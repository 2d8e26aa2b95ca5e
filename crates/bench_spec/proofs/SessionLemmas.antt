-- The log of a session's timer is legal, whole.
use Rattle.std.proofs.Common.{[], Some, None, refl, arith}
use Rattle.std.specs.Prelude.{take}
use Rattle.base_codes.specs.DeedCodes.{coded}
use Rattle.tab_step.specs.Moves.{scene_of}
use Rattle.bench_item.specs.Posts.{no_facts}
use Rattle.bench_item.specs.declared.source.Source.TheVariants.{Clock, Desk, Shard}
use Rattle.bench_item.specs.declared.step.Step.TheVariants.{Drop, Fired, Lift, Told}
use Rattle.bench_item.specs.declared.entry.Handled.TheVariants.{Move, Stale}
use Rattle.bench_spec.specs.ExampleLog.{carried, regs_with}
use Rattle.bench_spec.specs.Legal.{IsLegal, IsMove, MayFollow}
use Rattle.bench_spec.specs.SessionLog.{arm_law, armed_with, arming, ending, event, fired_with, log, session, settings}
use Rattle.bench_spec.specs.SessionLog.{table, told, works}
use Rattle.bench_spec.proofs.OrderLemmas.{order_by}
use Rattle.bench_spec.proofs.PermitLemmas.{permitted}
use Rattle.bench_spec.proofs.TextLemmas.{octet_is_utf8}

begins : IsMove settings.node.laws table (arming 0 0 0)
begins = record {
  row = refl;
  moves = record {
    state = refl;
    runs = (
      (arming 0 0 0).deeds,
      [],
      permitted arm_law (scene_of (regs_with 0) no_facts) (regs_with 1) (arming 0 0 0).deeds refl refl,
      refl,
      refl,
    );
    regs = refl;
  };
}

goes_on : IsMove settings.node.laws table (arming 1 1 1)
goes_on = record {
  row = refl;
  moves = record {
    state = refl;
    runs = (
      (arming 1 1 1).deeds,
      [],
      permitted arm_law (scene_of (regs_with 1) no_facts) (regs_with 2) (arming 1 1 1).deeds refl refl,
      refl,
      refl,
    );
    regs = refl;
  };
}

ends : IsMove settings.node.laws table ending
ends = record { row = refl; moves = record { state = refl; runs = refl; regs = refl } }

follows_1 : MayFollow settings [] (carried (Told 0 session (event 0)) None)
follows_1 =
    record {
      could = rw (octet_is_utf8 120 (omega arith)) refl;
      parts = (refl, refl);
      order =
          order_by settings (take 1 log) (tt, tt);
    }

follows_2 : MayFollow settings (take 1 log) (carried (Lift (Desk 0)) (Some (told 0)))
follows_2 =
    record { could = refl; parts = (refl, refl); order = order_by settings (take 2 log) (((refl, refl, refl), tt), tt) }

follows_3 : MayFollow settings (take 2 log) (carried (Drop (Desk 0)) (Some (told 0)))
follows_3 =
    record { could = refl; parts = (refl, refl); order = order_by settings (take 3 log) (((refl, refl, refl), tt), tt) }

follows_4 : MayFollow settings (take 3 log) (works (told 0) (Move (arming 0 0 0)))
unfolding coded
follows_4 = record {
  could = refl;
  parts = (refl, refl, record { machine = refl; before = refl; event = refl; move = begins; outcomes = refl });
  order = order_by settings (take 4 log) (((refl, refl, refl), tt), (refl, tt));
}

follows_5 : MayFollow settings (take 4 log) (carried (Lift (Shard 0)) (Some (armed_with 1)))
unfolding coded
follows_5 = record {
  could = refl;
  parts = (refl, refl);
  order = order_by settings (take 5 log) (((refl, refl, refl), ((refl, refl, refl), tt)), (refl, tt));
}

follows_6 : MayFollow settings (take 5 log) (carried (Drop (Shard 0)) (Some (armed_with 1)))
unfolding coded
follows_6 = record {
  could = refl;
  parts = (refl, refl);
  order = order_by settings (take 6 log) (((refl, refl, refl), ((refl, refl, refl), tt)), (refl, tt));
}

follows_7 : MayFollow settings (take 6 log) (carried (Fired 0 1) (Some (fired_with 1)))
unfolding coded
follows_7 = record {
  could = refl;
  parts = (refl, refl);
  order = order_by settings (take 7 log) (((refl, refl, refl), ((refl, refl, refl), tt)), (refl, tt));
}

follows_8 : MayFollow settings (take 7 log) (carried (Told 0 session (event 1)) None)
unfolding coded
follows_8 = record {
  could = rw (octet_is_utf8 120 (omega arith)) refl;
  parts = (refl, refl);
  order = order_by settings (take 8 log) (((refl, refl, refl), ((refl, refl, refl), tt)), (refl, tt));
}

follows_9 : MayFollow settings (take 8 log) (carried (Lift (Desk 0)) (Some (told 1)))
unfolding coded
follows_9 = record {
  could = refl;
  parts = (refl, refl);
  order = order_by settings (take 9 log) (((refl, refl, refl), ((refl, refl, refl), tt)), (refl, tt));
}

follows_10 : MayFollow settings (take 9 log) (carried (Drop (Desk 0)) (Some (told 1)))
unfolding coded
follows_10 = record {
  could = refl;
  parts = (refl, refl);
  order = order_by settings (take 10 log) (((refl, refl, refl), ((refl, refl, refl), tt)), (refl, tt));
}

follows_11 : MayFollow settings (take 10 log) (carried (Lift Clock) (Some (fired_with 1)))
unfolding coded
follows_11 = record {
  could = refl;
  parts = (refl, refl);
  order =
      order_by settings (take 11 log)
      (((refl, refl, refl), ((refl, refl, refl), ((refl, refl, refl), tt))), (refl, tt));
}

follows_12 : MayFollow settings (take 11 log) (carried (Drop Clock) (Some (fired_with 1)))
unfolding coded
follows_12 = record {
  could = refl;
  parts = (refl, refl);
  order =
      order_by settings (take 12 log)
      (((refl, refl, refl), ((refl, refl, refl), ((refl, refl, refl), tt))), (refl, tt));
}

follows_13 : MayFollow settings (take 12 log) (works (told 1) (Move (arming 1 1 1)))
unfolding coded
follows_13 = record {
  could = refl;
  parts = (refl, refl, record { machine = refl; before = refl; event = refl; move = goes_on; outcomes = refl });
  order =
      order_by settings (take 13 log)
      (((refl, refl, refl), ((refl, refl, refl), ((refl, refl, refl), tt))), (refl, tt));
}

follows_14 : MayFollow settings (take 13 log) (works (fired_with 1) (Stale 1))
unfolding coded
follows_14 = record {
  could = refl;
  parts = (refl, refl, refl);
  order =
      order_by settings (take 14 log)
      (((refl, refl, refl), ((refl, refl, refl), ((refl, refl, refl), tt))), (refl, tt));
}

follows_15 : MayFollow settings (take 14 log) (carried (Lift (Shard 0)) (Some (armed_with 2)))
unfolding coded
follows_15 = record {
  could = refl;
  parts = (refl, refl);
  order =
      order_by settings (take 15 log)
      (((refl, refl, refl), ((refl, refl, refl), ((refl, refl, refl), tt))), (refl, tt));
}

follows_16 : MayFollow settings (take 15 log) (carried (Drop (Shard 0)) (Some (armed_with 2)))
unfolding coded
follows_16 = record {
  could = refl;
  parts = (refl, refl);
  order =
      order_by settings (take 16 log)
      (((refl, refl, refl), ((refl, refl, refl), ((refl, refl, refl), tt))), (refl, tt));
}

follows_17 : MayFollow settings (take 16 log) (carried (Fired 0 2) (Some (fired_with 2)))
unfolding coded
follows_17 = record {
  could = refl;
  parts = (refl, refl);
  order =
      order_by settings (take 17 log)
      (((refl, refl, refl), ((refl, refl, refl), ((refl, refl, refl), tt))), (refl, tt));
}

follows_18 : MayFollow settings (take 17 log) (carried (Lift Clock) (Some (fired_with 2)))
unfolding coded
follows_18 = record {
  could = refl;
  parts = (refl, refl);
  order =
      order_by settings (take 18 log)
      (((refl, refl, refl), ((refl, refl, refl), ((refl, refl, refl), tt))), (refl, tt));
}

follows_19 : MayFollow settings (take 18 log) (carried (Drop Clock) (Some (fired_with 2)))
unfolding coded
follows_19 = record {
  could = refl;
  parts = (refl, refl);
  order =
      order_by settings (take 19 log)
      (((refl, refl, refl), ((refl, refl, refl), ((refl, refl, refl), tt))), (refl, tt));
}

follows_20 : MayFollow settings (take 19 log) (works (fired_with 2) (Move ending))
unfolding coded
follows_20 = record {
  could = refl;
  parts = (refl, refl, record { machine = refl; before = refl; event = refl; move = ends; outcomes = refl });
  order =
      order_by settings (take 20 log)
      (((refl, refl, refl), ((refl, refl, refl), ((refl, refl, refl), tt))), (refl, tt));
}

pub is_legal : IsLegal settings log
is_legal = (
  follows_1,
  (
    follows_2,
    (
      follows_3,
      (
        follows_4,
        (
          follows_5,
          (
            follows_6,
            (
              follows_7,
              (
                follows_8,
                (
                  follows_9,
                  (
                    follows_10,
                    (
                      follows_11,
                      (
                        follows_12,
                        (
                          follows_13,
                          (
                            follows_14,
                            (follows_15, (follows_16, (follows_17, (follows_18, (follows_19, (follows_20, tt)))))),
                          ),
                        ),
                      ),
                    ),
                  ),
                ),
              ),
            ),
          ),
        ),
      ),
    ),
  ),
)
