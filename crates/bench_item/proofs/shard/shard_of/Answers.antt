use Rattle.std.proofs.Common.{◌≡◌, ◌<◌, ℕ, ◌+◌, ◌%◌, List, length, take, get_or, ap, ◌∙◌, sym, arith}
use Rattle.std.proofs.lemmas.List.Sums.{sum_by_more}
use Rattle.std.proofs.Math.Nat.{mod-add-mod}
use Rattle.std.specs.Prelude.{sum}
use Rattle.bench_item.proofs.shard.shard_of.Goals as goal

-- the sum of one octet more
sum_more : (octets : List ℕ) (i octet : ℕ) → i < length octets → octet ≡ get_or octets i 0 → sum (take (i + 1) octets) ≡ sum (take i octets) + octet
sum_more octets i octet lt is = sum_by_more (λ x. x) octets i 0 lt ∙ ap (λ n. sum (take i octets) + n) (sym is)

-- what it leaves
left_more : (shards left octet i : ℕ) (octets : List ℕ) → i < length octets → left % shards ≡ sum (take i octets) % shards → octet ≡ get_or octets i 0
    → (left + octet) % shards ≡ sum (take (i + 1) octets) % shards
left_more shards left octet i octets lt before is =
    sym (mod-add-mod left shards octet) ∙ ap (λ n. (n + octet) % shards) before ∙ mod-add-mod (sum (take i octets)) shards octet
    ∙ ap (λ n. n % shards) (sym (sum_more octets i octet lt is))

pub loop-octet-preserved : goal.loop-octet-preserved
loop-octet-preserved c =
    (c.folded-sum.ensures.same ∙ left_more c.args.shards c.loop-octet.sum c.from.result c.loop-octet.octet-index c.args.name.now c.loop-octet-test.true c.loop-octet.invariant.0 c.from.ensures, c.folded-sum.ensures.small)
