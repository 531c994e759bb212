-- The clients of the meter (DLMS UA Green Book, reserved client service access points). A client more is a row more in each
-- table here; what is said of clients elsewhere is said by these.
use Rattle.std.specs.Prelude.{ℕ, Bool, true, false, ◌==◌, if◌then◌else◌, List, [], ◌∷◌, Option, Some, None}
use Rattle.dlms_frame.specs.declared.client.Client.{Client}
use Rattle.dlms_frame.specs.declared.client.Client.TheVariants.{Public, Management, Reader}

-- the client's service access point
abbrev pub sap_of : Client → ℕ
sap_of Public = 16
sap_of Management = 1
sap_of Reader = 2

-- whether the client has to know a secret of its own
abbrev pub has_secret : Client → Bool
has_secret Public = false
has_secret Management = true
has_secret Reader = true

-- all of them
abbrev pub clients : List Client
clients = Public ∷ Management ∷ Reader ∷ []

-- the one among these with this service access point
abbrev pub one_with : ℕ → List Client → Option Client
one_with sap [] = None
one_with sap (client ∷ others) = if sap == sap_of client then Some client else one_with sap others

-- the client of a service access point, if it is one's
abbrev pub client_of : ℕ → Option Client
client_of sap = one_with sap clients
