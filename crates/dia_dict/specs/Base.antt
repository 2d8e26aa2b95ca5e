-- The AVPs that every dictionary has, by AVP Code.
use Rattle.std.specs.Prelude.{ℕ, List, [], ◌∷◌, None, codes}
use Rattle.std.specs.Borrow.{Bor}
use Rattle.dia_dict.specs.declared.definition.AvpKind.{AvpKind}
use Rattle.dia_dict.specs.declared.definition.AvpKind.TheVariants.{Unsigned32, Unsigned64, Enumerated, Utf8String}
use Rattle.dia_dict.specs.declared.definition.AvpKind.TheVariants.{DiameterIdentity, Address, Grouped}
use Rattle.dia_dict.specs.declared.definition.AvpKind.TheVariants.{Time, OctetString}
use Rattle.dia_dict.specs.declared.definition.Definition.{Definition}

-- an AVP of the base protocol or of credit control, without a vendor
abbrev pub of_base : ℕ → List ℕ → AvpKind → Definition
of_base code name kind = record { code = code; vendor = None; name = name; kind = kind }

-- a line of the table: AVP Code, name and type
abbrev pub of_line : ℕ × Bor (List ℕ) × AvpKind → Definition
of_line line = of_base line.0 line.1.now line.2

-- the AVPs of the base protocol and of credit control (RFC 6733 section 4.5, RFC 8506 section 8);
-- Failed-AVP and Proxy-Info are kept as octets
abbrev pub base : List Definition
base =
    of_base 1 (codes "User-Name") Utf8String
    ∷ of_base 55 (codes "Event-Timestamp") Time
    ∷ of_base 257 (codes "Host-IP-Address") Address
    ∷ of_base 258 (codes "Auth-Application-Id") Unsigned32
    ∷ of_base 259 (codes "Acct-Application-Id") Unsigned32
    ∷ of_base 260 (codes "Vendor-Specific-Application-Id") Grouped
    ∷ of_base 263 (codes "Session-Id") Utf8String
    ∷ of_base 264 (codes "Origin-Host") DiameterIdentity
    ∷ of_base 265 (codes "Supported-Vendor-Id") Unsigned32
    ∷ of_base 266 (codes "Vendor-Id") Unsigned32
    ∷ of_base 267 (codes "Firmware-Revision") Unsigned32
    ∷ of_base 268 (codes "Result-Code") Unsigned32
    ∷ of_base 269 (codes "Product-Name") Utf8String
    ∷ of_base 273 (codes "Disconnect-Cause") Enumerated
    ∷ of_base 278 (codes "Origin-State-Id") Unsigned32
    ∷ of_base 279 (codes "Failed-AVP") OctetString
    ∷ of_base 281 (codes "Error-Message") Utf8String
    ∷ of_base 282 (codes "Route-Record") DiameterIdentity
    ∷ of_base 283 (codes "Destination-Realm") DiameterIdentity
    ∷ of_base 284 (codes "Proxy-Info") OctetString
    ∷ of_base 285 (codes "Re-Auth-Request-Type") Enumerated
    ∷ of_base 293 (codes "Destination-Host") DiameterIdentity
    ∷ of_base 295 (codes "Termination-Cause") Enumerated
    ∷ of_base 296 (codes "Origin-Realm") DiameterIdentity
    ∷ of_base 299 (codes "Inband-Security-Id") Unsigned32
    ∷ of_base 411 (codes "CC-Correlation-Id") OctetString
    ∷ of_base 412 (codes "CC-Input-Octets") Unsigned64
    ∷ of_base 414 (codes "CC-Output-Octets") Unsigned64
    ∷ of_base 415 (codes "CC-Request-Number") Unsigned32
    ∷ of_base 416 (codes "CC-Request-Type") Enumerated
    ∷ of_base 417 (codes "CC-Service-Specific-Units") Unsigned64
    ∷ of_base 418 (codes "CC-Session-Failover") Enumerated
    ∷ of_base 419 (codes "CC-Sub-Session-Id") Unsigned64
    ∷ of_base 420 (codes "CC-Time") Unsigned32
    ∷ of_base 421 (codes "CC-Total-Octets") Unsigned64
    ∷ of_base 422 (codes "Check-Balance-Result") Enumerated
    ∷ of_base 427 (codes "Credit-Control-Failure-Handling") Enumerated
    ∷ of_base 428 (codes "Direct-Debiting-Failure-Handling") Enumerated
    ∷ of_base 430 (codes "Final-Unit-Indication") Grouped
    ∷ of_base 431 (codes "Granted-Service-Unit") Grouped
    ∷ of_base 432 (codes "Rating-Group") Unsigned32
    ∷ of_base 436 (codes "Requested-Action") Enumerated
    ∷ of_base 437 (codes "Requested-Service-Unit") Grouped
    ∷ of_base 439 (codes "Service-Identifier") Unsigned32
    ∷ of_base 443 (codes "Subscription-Id") Grouped
    ∷ of_base 444 (codes "Subscription-Id-Data") Utf8String
    ∷ of_base 446 (codes "Used-Service-Unit") Grouped
    ∷ of_base 448 (codes "Validity-Time") Unsigned32
    ∷ of_base 449 (codes "Final-Unit-Action") Enumerated
    ∷ of_base 450 (codes "Subscription-Id-Type") Enumerated
    ∷ of_base 455 (codes "Multiple-Services-Indicator") Enumerated
    ∷ of_base 456 (codes "Multiple-Services-Credit-Control") Grouped
    ∷ of_base 458 (codes "User-Equipment-Info") Grouped
    ∷ of_base 459 (codes "User-Equipment-Info-Type") Enumerated
    ∷ of_base 460 (codes "User-Equipment-Info-Value") OctetString
    ∷ of_base 461 (codes "Service-Context-Id") Utf8String
    ∷ []
