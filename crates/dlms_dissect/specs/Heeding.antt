-- How a frame without an APDU changes a session (IEC 62056-46, 6.4.3).
use Rattle.std.specs.Prelude.{ℕ, ◌&&◌, if◌then◌else◌, Bool, true, false, Option, Some, None}
use Rattle.dlms_dissect.specs.declared.control.Control.{Control}
use Rattle.dlms_dissect.specs.declared.control.Control.TheVariants.{Snrm, Disc, Ua, Dm, Frmr, Ui, Information, Ready, NotReady, Other}
use Rattle.dlms_dissect.specs.declared.parties.Side.{Side}
use Rattle.dlms_dissect.specs.declared.parties.Side.TheVariants.{Client, Meter}
use Rattle.dlms_dissect.specs.declared.talks.Talk.{Talk}
use Rattle.dlms_dissect.specs.Control.{control_of, has_poll}
use Rattle.dlms_dissect.specs.Talks.{awaited, forgotten, opened_talk}

-- it may come from this side, or from the one that is not known
abbrev pub may_send_client : Option Side → Bool
may_send_client (Some Meter) = false
may_send_client _ = true

abbrev pub may_send_meter : Option Side → Bool
may_send_meter (Some Client) = false
may_send_meter _ = true

-- SNRM and DISC are the client's, all others without numbers the meter's
abbrev pub may_send : Control → Option Side → Bool
may_send Snrm side = may_send_client side
may_send Disc side = may_send_client side
may_send _ side = may_send_meter side

-- with its poll bit, from the end that sends such frames
abbrev pub is_heeded : Option Side → ℕ → Bool
is_heeded side octet = has_poll octet && may_send (control_of octet) side

abbrev pub expected_by : {A : Type 0} → Option Side → ℕ → Talk A → Talk A
expected_by (Some Meter) number t = awaited t number
expected_by _ number t = t

abbrev pub heeded_of : {A : Type 0} → Control → Bool → Option Side → Talk A → Talk A
heeded_of Snrm heeded side t = if heeded then forgotten t else t
heeded_of Disc heeded side t = if heeded then forgotten t else t
heeded_of Dm heeded side t = if heeded then forgotten t else t
heeded_of Ua heeded side t = if heeded then opened_talk t else t
heeded_of (Ready number) heeded side t = expected_by side number t
heeded_of (NotReady number) heeded side t = expected_by side number t
heeded_of _ heeded side t = t

-- the link goes down, comes up, or the meter says which number it awaits
abbrev pub heeded : {A : Type 0} → Talk A → Option Side → ℕ → Talk A
heeded t side octet = heeded_of (control_of octet) (is_heeded side octet) side t
