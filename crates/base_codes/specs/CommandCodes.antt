-- Command Codes by number and name (RFC 6733 section 3.1, RFC 8506 section 3).
use Rattle.std.specs.Prelude.{ℕ, ◌==◌, List, [], ◌∷◌, Option, codes}
use Rattle.std.specs.List.{find}
use Rattle.base_codes.specs.declared.command_code.CommandCode.{CommandCode}
use Rattle.base_codes.specs.declared.command_code.CommandCode.TheVariants.{CapabilitiesExchange, ReAuth, CreditControl}
use Rattle.base_codes.specs.declared.command_code.CommandCode.TheVariants.{DeviceWatchdog, DisconnectPeer}

-- the number of each
abbrev pub number_of : CommandCode → ℕ
number_of CapabilitiesExchange = 257
number_of ReAuth = 258
number_of CreditControl = 272
number_of DeviceWatchdog = 280
number_of DisconnectPeer = 282

-- its name
abbrev pub name_of : CommandCode → List ℕ
name_of CapabilitiesExchange = codes "Capabilities-Exchange"
name_of ReAuth = codes "Re-Auth"
name_of CreditControl = codes "Credit-Control"
name_of DeviceWatchdog = codes "Device-Watchdog"
name_of DisconnectPeer = codes "Disconnect-Peer"

-- all of them
abbrev pub all : List CommandCode
all =
    CapabilitiesExchange ∷ ReAuth ∷ CreditControl ∷ DeviceWatchdog ∷ DisconnectPeer ∷ []

-- the one with a number
unfoldable pub coded : ℕ → Option CommandCode
coded number = find (λ code. number_of code == number) all
