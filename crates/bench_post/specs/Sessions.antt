-- What the events of credit control are called, and whose they are.
use Rattle.std.specs.Prelude.{ℕ, List}
use Rattle.bench_item.specs.declared.key.Role.{Role}
use Rattle.bench_item.specs.declared.key.Role.TheVariants as role
use Rattle.client_rules.specs.Kinds.{name_of as client_name_of}
use Rattle.server_rules.specs.Kinds.{name_of as server_name_of}
use Rattle.bench_post.specs.declared.session.SessionEvent.{SessionEvent}
use Rattle.bench_post.specs.declared.session.SessionEvent.TheVariants.{Server, Client}

-- whose event it is
abbrev pub role_of : SessionEvent → Role
role_of (Server kind) = role.Server
role_of (Client kind) = role.Client

-- the name of its kind
abbrev pub name_of : SessionEvent → List ℕ
name_of (Server kind) = server_name_of kind
name_of (Client kind) = client_name_of kind

-- both
abbrev pub as_event : SessionEvent → Role × List ℕ
as_event event = (role_of event, name_of event)
