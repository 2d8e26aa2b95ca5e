-- The logs of two requests on two shards are legal, whole.
use Rattle.std.proofs.Common.{[], Some, None, refl, arith}
use Rattle.std.specs.Prelude.{take}
use Rattle.base_codes.specs.DeedCodes.{coded}
use Rattle.acct_book.specs.Sums.{debited, left_where, own, unpaid}
use Rattle.acct_totals.specs.declared.op.Outcome.TheVariants.{Refused}
use Rattle.tab_step.specs.Moves.{scene_of}
use Rattle.bench_item.specs.declared.source.Source.TheVariants.{Desk, Shard}
use Rattle.bench_item.specs.declared.step.Step.TheVariants.{Drop, Lift}
use Rattle.bench_spec.specs.ChargeLog.{ask_law, asked, at, begin, facts_told, initial, log, log_z, loop_law, looped}
use Rattle.bench_spec.specs.ChargeLog.{of_x, of_y, of_z, offered_x, offered_y, offered_z, request, requested}
use Rattle.bench_spec.specs.ChargeLog.{reserve_law, reserved_x, reserved_y, reserving_z, settings, tells, works}
use Rattle.bench_spec.specs.ExampleLog.{carried}
use Rattle.bench_spec.specs.Legal.{IsLegal, IsMove, MayFollow}
use Rattle.bench_spec.proofs.OrderLemmas.{order_by}
use Rattle.bench_spec.proofs.PermitLemmas.{permitted}
use Rattle.bench_spec.proofs.TextLemmas.{octet_is_utf8}

-- each move is by the one row of its table
asks_x : IsMove settings.node.laws settings.client (asked 0 of_x)
asks_x = record {
  row = refl;
  moves = record {
    state = refl;
    runs = (
      (asked 0 of_x).deeds,
      [],
      permitted ask_law (scene_of (at 0 0).regs (facts_told of_x)) (at 0 0).regs (asked 0 of_x).deeds refl refl,
      refl,
      refl,
    );
    regs = refl;
  };
}

asks_y : IsMove settings.node.laws settings.client (asked 4097 of_y)
asks_y = record {
  row = refl;
  moves = record {
    state = refl;
    runs = (
      (asked 4097 of_y).deeds,
      [],
      permitted ask_law (scene_of (at 0 4097).regs (facts_told of_y)) (at 0 4097).regs (asked 4097 of_y).deeds refl
          refl,
      refl,
      refl,
    );
    regs = refl;
  };
}

asks_z : IsMove settings.node.laws settings.client (asked 4097 of_z)
asks_z = record {
  row = refl;
  moves = record {
    state = refl;
    runs = (
      (asked 4097 of_z).deeds,
      [],
      permitted ask_law (scene_of (at 0 4097).regs (facts_told of_z)) (at 0 4097).regs (asked 4097 of_z).deeds refl
          refl,
      refl,
      refl,
    );
    regs = refl;
  };
}

loops_x : IsMove settings.node.laws settings.peer (looped of_x)
loops_x = record {
  row = refl;
  moves = record {
    state = refl;
    runs = (
      (looped of_x).deeds,
      [],
      permitted loop_law (scene_of (at 0 4096).regs (requested of_x)) (at 0 4096).regs (looped of_x).deeds refl refl,
      refl,
      refl,
    );
    regs = refl;
  };
}

loops_y : IsMove settings.node.laws settings.peer (looped of_y)
loops_y = record {
  row = refl;
  moves = record {
    state = refl;
    runs = (
      (looped of_y).deeds,
      [],
      permitted loop_law (scene_of (at 0 4096).regs (requested of_y)) (at 0 4096).regs (looped of_y).deeds refl refl,
      refl,
      refl,
    );
    regs = refl;
  };
}

loops_z : IsMove settings.node.laws settings.peer (looped of_z)
loops_z = record {
  row = refl;
  moves = record {
    state = refl;
    runs = (
      (looped of_z).deeds,
      [],
      permitted loop_law (scene_of (at 0 4096).regs (requested of_z)) (at 0 4096).regs (looped of_z).deeds refl refl,
      refl,
      refl,
    );
    regs = refl;
  };
}

reserves_x : IsMove settings.node.laws settings.server reserved_x
reserves_x = record {
  row = refl;
  moves = record {
    state = refl;
    runs = (
      reserved_x.deeds,
      [],
      permitted reserve_law (scene_of (at 0 1).regs offered_x) (at 0 1).regs reserved_x.deeds refl refl,
      refl,
      refl,
    );
    regs = refl;
  };
}

reserves_y : IsMove settings.node.laws settings.server reserved_y
reserves_y = record {
  row = refl;
  moves = record {
    state = refl;
    runs = (
      reserved_y.deeds,
      [],
      permitted reserve_law (scene_of (at 0 4098).regs offered_y) (at 0 4098).regs reserved_y.deeds refl refl,
      refl,
      refl,
    );
    regs = refl;
  };
}

reserves_z : IsMove settings.node.laws settings.server (reserving_z Refused)
reserves_z = record {
  row = refl;
  moves = record {
    state = refl;
    runs = (
      (reserving_z Refused).deeds,
      [],
      permitted reserve_law (scene_of (at 0 4098).regs offered_z) (at 0 4098).regs (reserving_z Refused).deeds refl
          refl,
      refl,
      refl,
    );
    regs = refl;
  };
}

-- each entry may follow those before it: the request of `x`,
follows_1 : MayFollow settings [] (carried (tells 0 of_x) None)
unfolding coded
follows_1 = record {
  could = rw (octet_is_utf8 120 (omega arith)) refl;
  parts = (refl, refl);
  order =
      order_by settings (take 1 log)
      (tt, tt);
}

follows_2 : MayFollow settings (take 1 log) (carried (Lift (Desk 0)) (Some (begin of_x)))
unfolding coded
follows_2 = record {
  could = refl;
  parts = (refl, refl);
  order =
      order_by settings (take 2 log)
      (((refl, refl, refl), tt), tt);
}

follows_3 : MayFollow settings (take 2 log) (carried (Drop (Desk 0)) (Some (begin of_x)))
unfolding coded
follows_3 = record {
  could = refl;
  parts = (refl, refl);
  order =
      order_by settings (take 3 log)
      (((refl, refl, refl), tt), tt);
}

follows_4 : MayFollow settings (take 3 log) (works 0 (begin of_x) (asked 0 of_x))
unfolding coded
follows_4 = record {
  could = refl;
  parts = (refl, refl, record { machine = refl; before = refl; event = refl; move = asks_x; outcomes = refl });
  order =
      order_by settings (take 4 log)
      (((refl, refl, refl), tt), (refl, tt));
}

follows_5 : MayFollow settings (take 4 log) (carried (Lift (Shard 0)) (Some (request of_x)))
unfolding coded
follows_5 = record {
  could = refl;
  parts = (refl, refl);
  order =
      order_by settings (take 5 log)
      (((refl, refl, refl), ((refl, refl, refl), tt)), (refl, tt));
}

follows_6 : MayFollow settings (take 5 log) (carried (Drop (Shard 0)) (Some (request of_x)))
unfolding coded
follows_6 = record {
  could = refl;
  parts = (refl, refl);
  order =
      order_by settings (take 6 log)
      (((refl, refl, refl), ((refl, refl, refl), tt)), (refl, tt));
}

follows_7 : MayFollow settings (take 6 log) (works 1 (request of_x) (looped of_x))
unfolding coded
follows_7 = record {
  could = refl;
  parts = (refl, refl, record { machine = refl; before = refl; event = refl; move = loops_x; outcomes = refl });
  order =
      order_by settings (take 7 log)
      (((refl, refl, refl), ((refl, refl, refl), tt)), (refl, (refl, tt)));
}

follows_8 : MayFollow settings (take 7 log) (carried (Lift (Shard 1)) (Some (initial of_x)))
unfolding coded
follows_8 = record {
  could = refl;
  parts = (refl, refl);
  order =
      order_by settings (take 8 log)
      (((refl, refl, refl), ((refl, refl, refl), ((refl, refl, refl), tt))), (refl, (refl, tt)));
}

follows_9 : MayFollow settings (take 8 log) (carried (Drop (Shard 1)) (Some (initial of_x)))
unfolding coded
follows_9 = record {
  could = refl;
  parts = (refl, refl);
  order =
      order_by settings (take 9 log)
      (((refl, refl, refl), ((refl, refl, refl), ((refl, refl, refl), tt))), (refl, (refl, tt)));
}

follows_10 : MayFollow settings (take 9 log) (works 0 (initial of_x) reserved_x)
unfolding coded own left_where debited unpaid
follows_10 = record {
  could = refl;
  parts = (refl, refl, record { machine = refl; before = refl; event = refl; move = reserves_x; outcomes = refl });
  order =
      order_by settings (take 10 log)
      (((refl, refl, refl), ((refl, refl, refl), ((refl, refl, refl), tt))), (refl, (refl, tt)));
}

-- that of `y`,
follows_11 : MayFollow settings (take 10 log) (carried (tells 1 of_y) None)
unfolding coded
follows_11 = record {
  could = rw (octet_is_utf8 121 (omega arith)) refl;
  parts = (refl, refl);
  order =
      order_by settings (take 11 log)
      (((refl, refl, refl), ((refl, refl, refl), ((refl, refl, refl), tt))), (refl, (refl, tt)));
}

follows_12 : MayFollow settings (take 11 log) (carried (Lift (Desk 1)) (Some (begin of_y)))
unfolding coded
follows_12 = record {
  could = refl;
  parts = (refl, refl);
  order =
      order_by settings (take 12 log)
      (((refl, refl, refl), ((refl, refl, refl), ((refl, refl, refl), ((refl, refl, refl), tt)))), (refl, (refl, tt)));
}

follows_13 : MayFollow settings (take 12 log) (carried (Drop (Desk 1)) (Some (begin of_y)))
unfolding coded
follows_13 = record {
  could = refl;
  parts = (refl, refl);
  order =
      order_by settings (take 13 log)
      (((refl, refl, refl), ((refl, refl, refl), ((refl, refl, refl), ((refl, refl, refl), tt)))), (refl, (refl, tt)));
}

follows_14 : MayFollow settings (take 13 log) (works 1 (begin of_y) (asked 4097 of_y))
unfolding coded
follows_14 = record {
  could = refl;
  parts = (refl, refl, record { machine = refl; before = refl; event = refl; move = asks_y; outcomes = refl });
  order =
      order_by settings (take 14 log)
      (((refl, refl, refl), ((refl, refl, refl), ((refl, refl, refl), ((refl, refl, refl), tt)))), (refl, (refl, tt)));
}

follows_15 : MayFollow settings (take 14 log) (carried (Lift (Shard 1)) (Some (request of_y)))
unfolding coded
follows_15 = record {
  could = refl;
  parts = (refl, refl);
  order =
      order_by settings (take 15 log)
      (((refl, refl, refl), ((refl, refl, refl), ((refl, refl, refl), ((refl, refl, refl), tt)))), (refl, (refl, tt)));
}

follows_16 : MayFollow settings (take 15 log) (carried (Drop (Shard 1)) (Some (request of_y)))
unfolding coded
follows_16 = record {
  could = refl;
  parts = (refl, refl);
  order =
      order_by settings (take 16 log)
      (((refl, refl, refl), ((refl, refl, refl), ((refl, refl, refl), ((refl, refl, refl), tt)))), (refl, (refl, tt)));
}

follows_17 : MayFollow settings (take 16 log) (works 1 (request of_y) (looped of_y))
unfolding coded
follows_17 = record {
  could = refl;
  parts = (refl, refl, record { machine = refl; before = refl; event = refl; move = loops_y; outcomes = refl });
  order =
      order_by settings (take 17 log)
      (((refl, refl, refl), ((refl, refl, refl), ((refl, refl, refl), ((refl, refl, refl), tt)))), (refl, (refl, tt)));
}

follows_18 : MayFollow settings (take 17 log) (carried (Lift (Shard 1)) (Some (initial of_y)))
unfolding coded
follows_18 = record {
  could = refl;
  parts = (refl, refl);
  order =
      order_by settings (take 18 log)
      (((refl, refl, refl), ((refl, refl, refl), ((refl, refl, refl), ((refl, refl, refl), tt)))), (refl, (refl, tt)));
}

follows_19 : MayFollow settings (take 18 log) (carried (Drop (Shard 1)) (Some (initial of_y)))
unfolding coded
follows_19 = record {
  could = refl;
  parts = (refl, refl);
  order =
      order_by settings (take 19 log)
      (((refl, refl, refl), ((refl, refl, refl), ((refl, refl, refl), ((refl, refl, refl), tt)))), (refl, (refl, tt)));
}

follows_20 : MayFollow settings (take 19 log) (works 1 (initial of_y) reserved_y)
unfolding coded own left_where debited unpaid
follows_20 = record {
  could = refl;
  parts = (refl, refl, record { machine = refl; before = refl; event = refl; move = reserves_y; outcomes = refl });
  order =
      order_by settings (take 20 log)
      (((refl, refl, refl), ((refl, refl, refl), ((refl, refl, refl), ((refl, refl, refl), tt)))), (refl, (refl, tt)));
}

-- and that of `y` where it is for the same account
refused_11 : MayFollow settings (take 10 log_z) (carried (tells 1 of_z) None)
unfolding coded
refused_11 = record {
  could = rw (octet_is_utf8 121 (omega arith)) refl;
  parts = (refl, refl);
  order =
      order_by settings (take 11 log_z)
      (((refl, refl, refl), ((refl, refl, refl), ((refl, refl, refl), tt))), (refl, (refl, tt)));
}

refused_12 : MayFollow settings (take 11 log_z) (carried (Lift (Desk 1)) (Some (begin of_z)))
unfolding coded
refused_12 = record {
  could = refl;
  parts = (refl, refl);
  order =
      order_by settings (take 12 log_z)
      (((refl, refl, refl), ((refl, refl, refl), ((refl, refl, refl), ((refl, refl, refl), tt)))), (refl, (refl, tt)));
}

refused_13 : MayFollow settings (take 12 log_z) (carried (Drop (Desk 1)) (Some (begin of_z)))
unfolding coded
refused_13 = record {
  could = refl;
  parts = (refl, refl);
  order =
      order_by settings (take 13 log_z)
      (((refl, refl, refl), ((refl, refl, refl), ((refl, refl, refl), ((refl, refl, refl), tt)))), (refl, (refl, tt)));
}

refused_14 : MayFollow settings (take 13 log_z) (works 1 (begin of_z) (asked 4097 of_z))
unfolding coded
refused_14 = record {
  could = refl;
  parts = (refl, refl, record { machine = refl; before = refl; event = refl; move = asks_z; outcomes = refl });
  order =
      order_by settings (take 14 log_z)
      (((refl, refl, refl), ((refl, refl, refl), ((refl, refl, refl), ((refl, refl, refl), tt)))), (refl, (refl, tt)));
}

refused_15 : MayFollow settings (take 14 log_z) (carried (Lift (Shard 1)) (Some (request of_z)))
unfolding coded
refused_15 = record {
  could = refl;
  parts = (refl, refl);
  order =
      order_by settings (take 15 log_z)
      (((refl, refl, refl), ((refl, refl, refl), ((refl, refl, refl), ((refl, refl, refl), tt)))), (refl, (refl, tt)));
}

refused_16 : MayFollow settings (take 15 log_z) (carried (Drop (Shard 1)) (Some (request of_z)))
unfolding coded
refused_16 = record {
  could = refl;
  parts = (refl, refl);
  order =
      order_by settings (take 16 log_z)
      (((refl, refl, refl), ((refl, refl, refl), ((refl, refl, refl), ((refl, refl, refl), tt)))), (refl, (refl, tt)));
}

refused_17 : MayFollow settings (take 16 log_z) (works 1 (request of_z) (looped of_z))
unfolding coded
refused_17 = record {
  could = refl;
  parts = (refl, refl, record { machine = refl; before = refl; event = refl; move = loops_z; outcomes = refl });
  order =
      order_by settings (take 17 log_z)
      (((refl, refl, refl), ((refl, refl, refl), ((refl, refl, refl), ((refl, refl, refl), tt)))), (refl, (refl, tt)));
}

refused_18 : MayFollow settings (take 17 log_z) (carried (Lift (Shard 1)) (Some (initial of_z)))
unfolding coded
refused_18 = record {
  could = refl;
  parts = (refl, refl);
  order =
      order_by settings (take 18 log_z)
      (((refl, refl, refl), ((refl, refl, refl), ((refl, refl, refl), ((refl, refl, refl), tt)))), (refl, (refl, tt)));
}

refused_19 : MayFollow settings (take 18 log_z) (carried (Drop (Shard 1)) (Some (initial of_z)))
unfolding coded
refused_19 = record {
  could = refl;
  parts = (refl, refl);
  order =
      order_by settings (take 19 log_z)
      (((refl, refl, refl), ((refl, refl, refl), ((refl, refl, refl), ((refl, refl, refl), tt)))), (refl, (refl, tt)));
}

refused_20 : MayFollow settings (take 19 log_z) (works 1 (initial of_z) (reserving_z Refused))
unfolding coded own left_where debited unpaid
refused_20 = record {
  could = refl;
  parts = (refl, refl, record { machine = refl; before = refl; event = refl; move = reserves_z; outcomes = refl });
  order =
      order_by settings (take 20 log_z)
      (((refl, refl, refl), ((refl, refl, refl), ((refl, refl, refl), ((refl, refl, refl), tt)))), (refl, (refl, tt)));
}

pub is_legal : IsLegal settings log
is_legal = (
  follows_1,
  (
    follows_2,
    (
      follows_3,
      (
        follows_4,
        (
          follows_5,
          (
            follows_6,
            (
              follows_7,
              (
                follows_8,
                (
                  follows_9,
                  (
                    follows_10,
                    (
                      follows_11,
                      (
                        follows_12,
                        (
                          follows_13,
                          (
                            follows_14,
                            (follows_15, (follows_16, (follows_17, (follows_18, (follows_19, (follows_20, tt)))))),
                          ),
                        ),
                      ),
                    ),
                  ),
                ),
              ),
            ),
          ),
        ),
      ),
    ),
  ),
)

pub z_is_legal : IsLegal settings log_z
z_is_legal = (
  follows_1,
  (
    follows_2,
    (
      follows_3,
      (
        follows_4,
        (
          follows_5,
          (
            follows_6,
            (
              follows_7,
              (
                follows_8,
                (
                  follows_9,
                  (
                    follows_10,
                    (
                      refused_11,
                      (
                        refused_12,
                        (
                          refused_13,
                          (
                            refused_14,
                            (refused_15, (refused_16, (refused_17, (refused_18, (refused_19, (refused_20, tt)))))),
                          ),
                        ),
                      ),
                    ),
                  ),
                ),
              ),
            ),
          ),
        ),
      ),
    ),
  ),
)
