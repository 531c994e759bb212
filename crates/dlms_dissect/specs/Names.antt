-- Names of the standards.
use Rattle.std.specs.Prelude.{ℕ, List, codes}
use Rattle.dlms_dissect.specs.declared.control.Control.{Control}
use Rattle.dlms_dissect.specs.declared.control.Control.TheVariants.{Snrm, Disc, Ua, Dm, Frmr, Ui, Information, Ready, NotReady, Other}

-- the frames, by the names of IEC 62056-46, 6.4.3
abbrev pub control_name : Control → List ℕ
control_name Snrm = codes "SNRM"
control_name Disc = codes "DISC"
control_name Ua = codes "UA"
control_name Dm = codes "DM"
control_name Frmr = codes "FRMR"
control_name Ui = codes "UI"
control_name (Information send receive) = codes "I"
control_name (Ready receive) = codes "RR"
control_name (NotReady receive) = codes "RNR"
control_name Other = codes "unknown control field"
