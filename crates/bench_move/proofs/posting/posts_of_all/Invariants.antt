use Rattle.std.proofs.Common.{◌≡◌, take}
use Rattle.std.specs.List.{flat_map}
use Rattle.bench_item.specs.Posts.{posts_of}
use Rattle.bench_item.specs.Keys.{node_of}
use Rattle.bench_post.specs.Nodes.{doer_of}
use Rattle.bench_move.proofs.posting.posts_of_all.Given as goal

abbrev pub invariant-loop-deed : goal.invariant-loop-deed
invariant-loop-deed l = l.posts.items ≡ flat_map (posts_of (node_of l.laws l.peers) (doer_of l.machine l.item)) (take l.deed-index l.deeds)
