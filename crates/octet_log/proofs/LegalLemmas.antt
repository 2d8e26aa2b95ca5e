-- The log from octets to a reservation is legal, whole.
use Rattle.std.proofs.Common.{◌≡◌, ℕ, List, [], ◌∷◌, ◌++◌, false, Some, None, refl, sym, ◌∙◌, ap, subst}
use Rattle.std.specs.Prelude.{◌||◌, is_some, option_to_list, replicate, slice_set, take, if◌then◌else◌}
use Rattle.std.specs.List.{list_any}
use Rattle.base_codes.specs.DeedCodes.{coded}
use Rattle.acct_book.specs.Sums.{debited, left_where, own, unpaid}
use Rattle.bench_item.specs.declared.hears.LineEvent.TheVariants.{Disconnected}
use Rattle.bench_item.specs.declared.hears.Turn.{Turn}
use Rattle.bench_item.specs.declared.item.Item.{Item}
use Rattle.bench_item.specs.declared.opening.Opening.TheVariants.{Accepted}
use Rattle.bench_item.specs.declared.source.Source.TheVariants.{Line, Shard}
use Rattle.bench_item.specs.declared.step.Step.TheVariants.{Came, Drop, Joined, Lift, Work}
use Rattle.bench_line.specs.Messages.{cut_by, fault_in, messages, rest_of}
use Rattle.bench_line.specs.Talk.{after_turns, at_first, does_close, posts_by, posts_in, turns}
use Rattle.line_message.specs.Turned.{turned}
use Rattle.bench_spec.specs.ExampleLog.{carried}
use Rattle.bench_spec.specs.Legal.{IsLegal, IsMove, MayFollow}
use Rattle.octet_log.specs.Log.{before_ccr, before_cer, ccr, cer, connected, connection, initial, log, received}
use Rattle.octet_log.specs.Log.{reception}
use Rattle.octet_log.specs.Log.{settings}
use Rattle.bench_spec.specs.Played.{entry_by, move_of}
use Rattle.bench_spec.specs.Rules.{listening, meaning_of}
use Rattle.octet_log.proofs.MeaningLemmas.{both_turns}
use Rattle.bench_spec.proofs.OrderLemmas.{IsCarriedBy, order_by}
use Rattle.bench_spec.proofs.PlayedLemmas.{played_is_move}

-- what the line puts out of the piece, by what it makes of the messages
abbrev put_out_by : List Turn → List Item
put_out_by done =
    posts_in done
    ++ (if list_any does_close done then []
    else (if false || is_some (fault_in (cer ++ ccr)) then
    option_to_list (turned (listening settings) (after_turns (at_first 1 Accepted) done) Disconnected)
    else []))

no_fault : is_some (fault_in (cer ++ ccr)) ≡ false
unfolding messages cut_by rest_of
no_fault = refl

line_put_out : posts_by (meaning_of settings) 1 Accepted false false (cer ++ ccr) ≡ connected ∷ received ∷ []
unfolding posts_by
line_put_out = ap put_out_by both_turns ∙ rw no_fault refl

of_line : (ls ds : List Item) → IsCarriedBy (connected ∷ received ∷ []) ls ds
    → IsCarriedBy (posts_by (meaning_of settings) 1 Accepted false false (cer ++ ccr)) ls ds
of_line ls ds = subst (λ ps. IsCarriedBy ps ls ds) (sym line_put_out)

follows_1 : MayFollow settings [] (carried Joined None)
follows_1 = record { could = refl; parts = (refl, refl); order = order_by settings (take 1 log) (tt, tt) }

follows_2 : MayFollow settings (take 1 log) (carried (Came 1 (cer ++ ccr)) None)
unfolding posts_by turns messages cut_by rest_of
follows_2 = record { could = refl; parts = (refl, refl); order = order_by settings (take 2 log) (tt, tt) }

follows_3 : MayFollow settings (take 2 log) (carried (Lift (Line 1)) (Some connected))
follows_3 = record {
  could = rw line_put_out refl;
  parts = (refl, refl);
  order = order_by settings (take 3 log) ((of_line (connected ∷ []) [] (refl, refl, refl), tt), tt);
}

-- the moves: by the first row of the peers' table, by the second, and by the third of the servers'
greets_peer : IsMove settings.node.laws settings.peer (move_of settings before_cer connection)
greets_peer =
    played_is_move settings settings.peer before_cer connection
    (record { state = 0; regs = replicate 64 0 }) connection.event
    (0, record { state = 0; kind = 0; guards = []; actions = 0 ∷ 1 ∷ 2 ∷ []; next = 1 }) refl
    (refl, (refl, (refl, tt)))

abbrev peer_regs : List ℕ
peer_regs = 0 ∷ 1 ∷ 0 ∷ 1 ∷ 1 ∷ 1 ∷ replicate 9 0 ++ 1 ∷ replicate 48 0

forwards : IsMove settings.node.laws settings.peer (move_of settings before_ccr reception)
unfolding coded own left_where debited unpaid
forwards =
    played_is_move settings settings.peer before_ccr reception
    (record { state = 1; regs = peer_regs }) reception.event
    (1, record { state = 1; kind = 1; guards = []; actions = 3 ∷ []; next = 1 }) refl
    (refl, tt)

reserves : IsMove settings.node.laws settings.server (move_of settings (take 14 log) initial)
unfolding coded own left_where debited unpaid
reserves =
    played_is_move settings settings.server (take 14 log) initial
    (record { state = 0; regs = slice_set (replicate 64 0) 14 1 })
    (record { kind = 22; facts = slice_set (slice_set initial.event.facts 12 2001) 13 60 })
    (2, record { state = 0; kind = 0; guards = 2 ∷ []; actions = 2 ∷ 3 ∷ 0 ∷ 4 ∷ []; next = 1 }) refl
    (refl, (refl, (refl, (refl, tt))))

follows_4 : MayFollow settings (take 3 log) (carried (Drop (Line 1)) (Some connected))
unfolding coded own left_where debited unpaid
follows_4 = record {
  could = refl;
  parts = (refl, refl);
  order = order_by settings (take 4 log) ((of_line (connected ∷ []) (connected ∷ []) (refl, refl, refl), tt), tt);
}

follows_5 : MayFollow settings (take 4 log) (entry_by settings (take 4 log) (Work 0))
unfolding coded own left_where debited unpaid
follows_5 = record {
  could = refl;
  parts = (refl, refl, record { machine = refl; before = refl; event = refl; move = greets_peer; outcomes = refl });
  order =
      order_by settings (take 5 log) ((of_line (connected ∷ []) (connected ∷ []) (refl, refl, refl), tt), (refl, tt));
}

follows_6 : MayFollow settings (take 5 log) (carried (Lift (Line 1)) (Some received))
unfolding coded own left_where debited unpaid
follows_6 = record {
  could = rw line_put_out refl;
  parts = (refl, refl);
  order =
      order_by settings (take 6 log)
      ((of_line (connected ∷ received ∷ []) (connected ∷ []) (refl, refl, refl), tt), (refl, tt));
}

follows_7 : MayFollow settings (take 6 log) (carried (Drop (Line 1)) (Some received))
unfolding coded own left_where debited unpaid
follows_7 = record {
  could = refl;
  parts = (refl, refl);
  order =
      order_by settings (take 7 log)
      ((of_line (connected ∷ received ∷ []) (connected ∷ received ∷ []) (refl, refl, refl), tt), (refl, tt));
}

follows_8 : MayFollow settings (take 7 log) (entry_by settings (take 7 log) (Work 0))
unfolding coded own left_where debited unpaid
follows_8 = record {
  could = refl;
  parts = (refl, refl, record { machine = refl; before = refl; event = refl; move = forwards; outcomes = refl });
  order =
      order_by settings (take 8 log)
      ((of_line (connected ∷ received ∷ []) (connected ∷ received ∷ []) (refl, refl, refl), tt), (refl, tt));
}

follows_9 : MayFollow settings (take 8 log) (entry_by settings (take 8 log) (Lift (Shard 0)))
unfolding coded own left_where debited unpaid
follows_9 = record {
  could = refl;
  parts = (refl, refl);
  order =
      order_by settings (take 9 log) (
        (of_line (connected ∷ received ∷ []) (connected ∷ received ∷ []) (refl, refl, refl), ((refl, refl, refl), tt)),
        (refl, tt),
      );
}

follows_10 : MayFollow settings (take 9 log) (entry_by settings (take 9 log) (Drop (Shard 0)))
unfolding coded own left_where debited unpaid
follows_10 = record {
  could = refl;
  parts = (refl, refl);
  order =
      order_by settings (take 10 log) (
        (of_line (connected ∷ received ∷ []) (connected ∷ received ∷ []) (refl, refl, refl), ((refl, refl, refl), tt)),
        (refl, tt),
      );
}

follows_11 : MayFollow settings (take 10 log) (entry_by settings (take 10 log) (Lift (Shard 0)))
unfolding coded own left_where debited unpaid
follows_11 = record {
  could = refl;
  parts = (refl, refl);
  order =
      order_by settings (take 11 log) (
        (of_line (connected ∷ received ∷ []) (connected ∷ received ∷ []) (refl, refl, refl), ((refl, refl, refl), tt)),
        (refl, tt),
      );
}

follows_12 : MayFollow settings (take 11 log) (entry_by settings (take 11 log) (Drop (Shard 0)))
unfolding coded own left_where debited unpaid
follows_12 = record {
  could = refl;
  parts = (refl, refl);
  order =
      order_by settings (take 12 log) (
        (of_line (connected ∷ received ∷ []) (connected ∷ received ∷ []) (refl, refl, refl), ((refl, refl, refl), tt)),
        (refl, tt),
      );
}

follows_13 : MayFollow settings (take 12 log) (entry_by settings (take 12 log) (Lift (Shard 0)))
unfolding coded own left_where debited unpaid
follows_13 = record {
  could = refl;
  parts = (refl, refl);
  order =
      order_by settings (take 13 log) (
        (of_line (connected ∷ received ∷ []) (connected ∷ received ∷ []) (refl, refl, refl), ((refl, refl, refl), tt)),
        (refl, tt),
      );
}

follows_14 : MayFollow settings (take 13 log) (entry_by settings (take 13 log) (Drop (Shard 0)))
unfolding coded own left_where debited unpaid
follows_14 = record {
  could = refl;
  parts = (refl, refl);
  order =
      order_by settings (take 14 log) (
        (of_line (connected ∷ received ∷ []) (connected ∷ received ∷ []) (refl, refl, refl), ((refl, refl, refl), tt)),
        (refl, tt),
      );
}

follows_15 : MayFollow settings (take 14 log) (entry_by settings (take 14 log) (Work 0))
unfolding coded own left_where debited unpaid
follows_15 = record {
  could = refl;
  parts = (refl, refl, record { machine = refl; before = refl; event = refl; move = reserves; outcomes = refl });
  order =
      order_by settings (take 15 log) (
        (of_line (connected ∷ received ∷ []) (connected ∷ received ∷ []) (refl, refl, refl), ((refl, refl, refl), tt)),
        (refl, tt),
      );
}

pub is_legal : IsLegal settings log
unfolding coded own left_where debited unpaid
is_legal = (
  follows_1,
  (
    follows_2,
    (
      follows_3,
      (
        follows_4,
        (
          follows_5,
          (
            follows_6,
            (
              follows_7,
              (
                follows_8,
                (follows_9, (follows_10, (follows_11, (follows_12, (follows_13, (follows_14, (follows_15, tt))))))),
              ),
            ),
          ),
        ),
      ),
    ),
  ),
)
