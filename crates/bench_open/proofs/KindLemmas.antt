-- Laws that lack a kind of some role.
use Rattle.std.proofs.Common.{◌≡◌, ℕ, Bool, true, false, List, ◌++◌, ap, length, refl, sym, ◌∙◌}
use Rattle.std.specs.Prelude.{◌==◌, ◌||◌, is_none, map, not}
use Rattle.std.specs.List.{list_any}
use Rattle.std.proofs.lemmas.Bool.{or_left, or_right}
use Rattle.std.proofs.lemmas.List.Folds.{list_any-append}
use Rattle.base_list.specs.Named.{place_of}
use Rattle.client_rules.specs.Kinds as client
use Rattle.peer_rules.specs.Kinds as peer
use Rattle.server_rules.specs.Kinds as server
use Rattle.tab_law.specs.Books.{Laws}
use Rattle.tab_step.specs.Bind.{lacking}
use Rattle.bench_spec.specs.Opening.{role_kinds}
use Rattle.bench_open.specs.Kinds.{lacks_role_kind}
use Rattle.bench_open.specs.declared.kinds.TheConstants.{PEER, CLIENT, SERVER}
use Rattle.bench_open.proofs.ListLemmas.{any-filter, any-map}

-- whether a name is no kind of these laws
abbrev pub is_lacking : Laws → List ℕ → Bool
is_lacking laws name = is_none (place_of name laws.kinds)

any-lacking : (laws : Laws) (names : List (List ℕ)) → list_any (is_lacking laws) names ≡ not (length (lacking laws.kinds names) == 0)
any-lacking laws names = any-filter (is_lacking laws) names

all_names : map peer.name_of PEER ++ (map client.name_of CLIENT ++ map server.name_of SERVER) ≡ role_kinds
all_names = refl

three : (test : List ℕ → Bool) (xs ys zs : List (List ℕ)) → (list_any test xs || (list_any test ys || list_any test zs)) ≡ list_any test (xs ++ (ys ++ zs))
three test xs ys zs = ap (λ (b : Bool). list_any test xs || b) (sym (list_any-append test ys zs)) ∙ sym (list_any-append test xs (ys ++ zs))

-- whether laws lack a kind of a peer's events, of a client's, of a server's
abbrev pub peer_lacks : Laws → Bool
peer_lacks laws = list_any (λ kind. is_lacking laws (peer.name_of kind)) PEER

abbrev pub client_lacks : Laws → Bool
client_lacks laws = list_any (λ kind. is_lacking laws (client.name_of kind)) CLIENT

abbrev pub server_lacks : Laws → Bool
server_lacks laws = list_any (λ kind. is_lacking laws (server.name_of kind)) SERVER

-- a peer's, a client's or a server's
lacks-some : (laws : Laws) → (peer_lacks laws || (client_lacks laws || server_lacks laws)) ≡ lacks_role_kind laws
unfolding lacks_role_kind
lacks-some laws =
    ap (λ (b : Bool). b || (client_lacks laws || server_lacks laws)) (sym (any-map (is_lacking laws) peer.name_of PEER))
    ∙ ap (λ (b : Bool). list_any (is_lacking laws) (map peer.name_of PEER) || (b || server_lacks laws)) (sym (any-map (is_lacking laws) client.name_of CLIENT))
    ∙ ap (λ (b : Bool). list_any (is_lacking laws) (map peer.name_of PEER) || (list_any (is_lacking laws) (map client.name_of CLIENT) || b)) (sym (any-map (is_lacking laws) server.name_of SERVER))
    ∙ three (is_lacking laws) (map peer.name_of PEER) (map client.name_of CLIENT) (map server.name_of SERVER)
    ∙ any-lacking laws (map peer.name_of PEER ++ (map client.name_of CLIENT ++ map server.name_of SERVER))
    ∙ ap (λ (names : List (List ℕ)). not (length (lacking laws.kinds names) == 0)) all_names

pub lacks-peer : (laws : Laws) → peer_lacks laws ≡ true → true ≡ lacks_role_kind laws
lacks-peer laws h = sym (or_left (peer_lacks laws) (client_lacks laws || server_lacks laws) h) ∙ lacks-some laws

pub lacks-client : (laws : Laws) → client_lacks laws ≡ true → true ≡ lacks_role_kind laws
lacks-client laws h =
    sym (or_right (peer_lacks laws) (client_lacks laws || server_lacks laws) (or_left (client_lacks laws) (server_lacks laws) h)) ∙ lacks-some laws

alone : (a b c : Bool) → a ≡ false → b ≡ false → c ≡ (a || (b || c))
alone a b c n m = rw (n, m) refl

pub lacks-server : (laws : Laws) → peer_lacks laws ≡ false → client_lacks laws ≡ false → server_lacks laws ≡ lacks_role_kind laws
lacks-server laws n m = alone (peer_lacks laws) (client_lacks laws) (server_lacks laws) n m ∙ lacks-some laws
