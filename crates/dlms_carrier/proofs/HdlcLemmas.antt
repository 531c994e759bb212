-- What one call of the carrier over HDLC does.
use Rattle.std.proofs.Common.{◌≡◌, ℕ, List, [], length, take, refl, subst, Option}
use Rattle.std.specs.Prelude.{IsSome}
use Rattle.dlms_frame.specs.Frame.{Parts}
use Rattle.dlms_frame.specs.Stream.{Takes}
use Rattle.dlms_link.specs.Client.{ClientRecord, IsIdle}
use Rattle.dlms_link.specs.declared.out.ClientOut.{ClientOut}
use Rattle.dlms_link.specs.declared.out.ClientOut.TheVariants as out
use Rattle.dlms_carrier.specs.Hdlc.{Handles, HdlcValue, Hears, IsClear, IsReadAfter, Reports}
use Rattle.dlms_carrier.specs.declared.event.Event.{Event}
use Rattle.dlms_carrier.specs.declared.event.Event.TheVariants as event

reports_apdu : (output : ClientOut) (result : Event) (text : List ℕ) → result ≡ event.Apdu → Reports output result text → output ≡ out.Apdu
reports_apdu out.Nothing result text e h = let is = h.0 in cc
reports_apdu out.Up result text e h = let is = h.0 in cc
reports_apdu (out.Send frame) result text e h = let is = h.0 in cc
reports_apdu out.Apdu result text e h = refl
reports_apdu out.Down result text e h = let is = h.0 in cc

reports_up : (output : ClientOut) (result : Event) (text : List ℕ) → result ≡ event.Up → Reports output result text → output ≡ out.Up
reports_up out.Nothing result text e h = let is = h.0 in cc
reports_up out.Up result text e h = refl
reports_up (out.Send frame) result text e h = let is = h.0 in cc
reports_up out.Apdu result text e h = let is = h.0 in cc
reports_up out.Down result text e h = let is = h.0 in cc

-- octets were read, and no frame changed anything
pub heard_none : (r c new : HdlcValue) (octets : List ℕ) (count : ℕ) (frame : Option Parts) (kept : List ℕ) → r ≡ c → Takes r.kept (take count octets) frame kept
    → Handles frame r.link out.Nothing new.link → new.text ≡ [] → new.kept ≡ kept → Hears c octets count event.Nothing new
heard_none r c new octets count frame kept is takes handles text same =
    subst (λ (v : HdlcValue). Hears v octets count event.Nothing new) is (record {
      taken = count;
      kept = kept;
      frame = frame;
      output = out.Nothing;
      takes = takes;
      handles = handles;
      reports = (refl, text);
      reads = (refl, same);
      answers = λ e. cc;
    })

reads_all : (output : ClientOut) (kept : List ℕ) (taken arrived : ℕ) (new : HdlcValue) → (output ≡ out.Nothing → ⊥) → IsClear new → IsReadAfter output kept taken arrived arrived new
reads_all out.Nothing kept taken arrived new some clear = absurd (some refl)
reads_all out.Up kept taken arrived new some clear = (refl, clear)
reads_all (out.Send frame) kept taken arrived new some clear = (refl, clear)
reads_all out.Apdu kept taken arrived new some clear = (refl, clear)
reads_all out.Down kept taken arrived new some clear = (refl, clear)

-- octets were read up to a frame that changed something, and the others dropped
pub heard_some : (r c new : HdlcValue) (octets : List ℕ) (taken : ℕ) (frame : Option Parts) (kept : List ℕ) (output : ClientOut) (result : Event) → r ≡ c
    → Takes r.kept (take taken octets) frame kept → Handles frame r.link output new.link → (output ≡ out.Apdu → IsSome r.link.waits × IsIdle new.link)
    → (output ≡ out.Nothing → ⊥) → Reports output result new.text → IsClear new → Hears c octets (length octets) result new
heard_some r c new octets taken frame kept output result is takes handles answers some reports clear =
    subst (λ (v : HdlcValue). Hears v octets (length octets) result new) is (record {
      taken = taken;
      kept = kept;
      frame = frame;
      output = output;
      takes = takes;
      handles = handles;
      reports = reports;
      reads = reads_all output kept taken (length octets) new some clear;
      answers = λ e. answers (reports_apdu output result new.text e reports);
    })

pub is_up : (output : ClientOut) (result : Event) (text : List ℕ) (new : ClientRecord) → Reports output result text → (output ≡ out.Up → IsIdle new) → result ≡ event.Up → IsIdle new
is_up output result text new reports up e = up (reports_up output result text e reports)
