-- Parts of an item's line as they stand there, and what they are.
use Rattle.step_text.specs.Shown.{key_shown}
use Rattle.log_text.specs.declared.item.Who.{Who}
use Rattle.log_text.specs.declared.item.ItemLine.{ItemLine}
use Rattle.log_text.specs.declared.item.ItemLine.TheVariants as item
use Rattle.log_text.specs.declared.item.ShownWho.{ShownWho}
use Rattle.log_text.specs.declared.item.ShownItem.{ShownItem}
use Rattle.log_text.specs.declared.item.ShownItem.TheVariants.{TooBusy, Stale, Moved}

abbrev pub who_shown : ShownWho → Who
who_shown who = record { key = key_shown who.key; kind = who.kind }

abbrev pub item_shown : ShownItem → ItemLine
item_shown TooBusy = item.TooBusy
item_shown (Stale who state) = item.Stale (who_shown who) state
item_shown (Moved who before after row) = item.Moved (who_shown who) before after row
