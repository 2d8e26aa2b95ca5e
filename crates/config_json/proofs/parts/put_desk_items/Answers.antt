use Rattle.config_json.specs.Json.{desk_item}
use Rattle.config_json.proofs.TextLemmas.{item_more}
use Rattle.config_json.proofs.parts.put_desk_items.Goals as goal

-- one more was put
pub loop-desk-preserved : goal.loop-desk-preserved
loop-desk-preserved c =
    item_more desk_item c.args.out.now.items c.loop-desk.out.items c.put_desk.new.out.items c.args.desks.now c.loop-desk.desk-index
    c.desk-item.result c.loop-desk-test.true c.desk-item.is c.loop-desk.invariant c.in_ok-put_desk.ensures
