-- The kinds of events of a client's machine (RFC 8506 section 7), in the order of their first appearance in the table.
use Rattle.std.specs.Prelude.{ℕ, List, [], ◌∷◌, codes}
use Rattle.base_list.specs.declared.named.Named.{Named}
use Rattle.tab_role.specs.Entries.{kind}
use Rattle.client_rules.specs.declared.kind.ClientKind.{ClientKind}
use Rattle.client_rules.specs.declared.kind.ClientKind.TheVariants.{Begin, One, CcaI, CcaFault, SendFail, Tx, More, End}
use Rattle.client_rules.specs.declared.kind.ClientKind.TheVariants.{CcaU, CcaT, CcaE}

-- the name of each
abbrev pub name_of : ClientKind → List ℕ
name_of Begin = codes "Begin"
name_of One = codes "One"
name_of CcaI = codes "CCA-I"
name_of CcaFault = codes "CCA-Fault"
name_of SendFail = codes "Send-Fail"
name_of Tx = codes "Tx"
name_of More = codes "More"
name_of End = codes "End"
name_of CcaU = codes "CCA-U"
name_of CcaT = codes "CCA-T"
name_of CcaE = codes "CCA-E"

-- all of them
abbrev pub kinds : List (Named (Unit {0}))
kinds =
    kind (codes "Begin")
    ∷ kind (codes "One")
    ∷ kind (codes "CCA-I")
    ∷ kind (codes "CCA-Fault")
    ∷ kind (codes "Send-Fail")
    ∷ kind (codes "Tx")
    ∷ kind (codes "More")
    ∷ kind (codes "End")
    ∷ kind (codes "CCA-U")
    ∷ kind (codes "CCA-T")
    ∷ kind (codes "CCA-E")
    ∷ []
