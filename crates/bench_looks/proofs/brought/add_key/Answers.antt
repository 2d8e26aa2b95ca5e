use Rattle.std.proofs.Common.{◌≡◌, ◌∙◌, ◌++◌, [], ◌∷◌, ap, subst, sym}
use Rattle.std.specs.List.{list_any}
use Rattle.std.proofs.lemmas.Bool.{eq-eqb}
use Rattle.bench_item.specs.Keys.{home}
use Rattle.bench_looks.specs.Brought.{BringsKeys}
use Rattle.bench_looks.specs.Tallies.{is_key}
use Rattle.bench_looks.proofs.PlaceLemmas.{brings-new, brings-there}
use Rattle.bench_spec.specs.Machines.{directory}
use Rattle.bench_looks.proofs.brought.add_key.Goals as goal

pub returns-then-is_known : goal.returns-then-is_known
returns-then-is_known c =
    let node = c.args.core.now.settings.node in
    let shard = c.args.shard in
    let key = c.args.key.now in
    let keys = c.args.keys.now.items in
    let here : home node.shards key.name ≡ shard =
    ap (λ n. home n key.name) (sym c.shards.ensures.count) ∙ sym c.home.ensures.is ∙ c.if-home-shard.false in
    let known : c.is_known.result ≡ list_any (is_key key) (directory node shard [] ++ keys) =
    c.is_known.ensures
    ∙ ap (λ s. list_any (is_key key) (directory node s [] ++ c.deref.result.now)) here
    ∙ ap (λ ks. list_any (is_key key) (directory node shard [] ++ ks)) c.deref.ensures.value in
    brings-there node shard keys key (eq-eqb (home node.shards key.name) shard here) (sym known ∙ c.if-is_known.true)

pub returns : goal.returns
returns c =
    let node = c.args.core.now.settings.node in
    let shard = c.args.shard in
    let key = c.args.key.now in
    let keys = c.args.keys.now.items in
    let here : home node.shards key.name ≡ shard =
    ap (λ n. home n key.name) (sym c.shards.ensures.count) ∙ sym c.home.ensures.is ∙ c.if-home-shard.false in
    let known : c.is_known.result ≡ list_any (is_key key) (directory node shard [] ++ keys) =
    c.is_known.ensures
    ∙ ap (λ s. list_any (is_key key) (directory node s [] ++ c.deref.result.now)) here
    ∙ ap (λ ks. list_any (is_key key) (directory node shard [] ++ ks)) c.deref.ensures.value in
    subst (BringsKeys node shard keys (key ∷ []))
    (sym (c.in_ok-push.ensures.items ∙ ap (λ k. keys ++ k ∷ []) c.in_ok-key.ensures))
    (brings-new node shard keys key (eq-eqb (home node.shards key.name) shard here) (sym known ∙ c.if-is_known.false))
