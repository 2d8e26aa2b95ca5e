-- Where machines stood when they were looked at.
use Rattle.std.specs.Prelude.{List, Option, find, option_map}
use Rattle.bench_item.specs.Keys.{is_same_key}
use Rattle.bench_item.specs.declared.key.Key.{Key}
use Rattle.tab_step.specs.declared.machine.MachineState.{MachineState}
use Rattle.thread_node.specs.declared.board.Stood.{Stood}

-- where a machine stood, if it was looked at and there
abbrev pub found : List Stood → Key → Option MachineState
found stood key = option_map (λ s. s.state) (find (λ s. is_same_key s.key key) stood)
