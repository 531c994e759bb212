-- Reading a capture file: from one packet to the next.
use Rattle.std.specs.Prelude.{ℕ, zero, suc, ◌-◌, ◌≤◌, ◌<◌, ◌≡◌, List, length, [], ◌∷◌, ◌++◌, take, drop, Option, Some, None, option_and_then, Result, Ok, Err}
use Rattle.std.specs.declared.alloc.AllocError.{AllocError}
use Rattle.dlms_capture.specs.Captured.{Captured, captured_of}
use Rattle.dlms_capture.specs.PcapFormat as pcap
use Rattle.dlms_capture.specs.PcapngFormat.{Content, interface, packet, other, packet_or_other, content_at}
use Rattle.dlms_capture.specs.Fronts.{front_at}
use Rattle.dlms_capture.specs.declared.pcapng.Interface.{Interface}
use Rattle.dlms_capture.specs.declared.front.Form.{Form}
use Rattle.dlms_capture.specs.declared.front.Form.TheVariants as form
use Rattle.dlms_capture.specs.declared.front.Front.{Front}
use Rattle.dlms_capture.specs.declared.front.Front.TheVariants as front
use Rattle.dlms_capture.specs.declared.file.File.{File}
use Rattle.dlms_capture.specs.declared.file.Found.{Found}
use Rattle.dlms_capture.specs.declared.file.Found.TheVariants as found
use Rattle.dlms_capture.specs.declared.file.Next.{Next}
use Rattle.dlms_capture.specs.declared.file.Next.TheVariants as next

-- what is known of a file, the interfaces of its section, and the octets that have come and are not read
pub record Reading : Type 0 where
  pub form : Form
  pub interfaces : List Interface
  pub rest : List ℕ

abbrev pub reading_of : {A : Type 0} → File A → Reading
reading_of file = record {
  form = file.form;
  interfaces = file.interfaces.items;
  rest = drop file.done file.kept.items;
}

-- what a packet record or block of these octets is
abbrev pub content_in : Form → List Interface → List ℕ → Content
content_in form.Begins interfaces octets = other
content_in (form.Pcap head) interfaces octets = packet_or_other (pcap.packet_at head octets)
content_in (form.PcapNg endian) interfaces octets = content_at endian interfaces octets
content_in form.Broken interfaces octets = other

-- the front of a file: not whole yet, not of a capture, passed without a packet, or a packet; with the rest to be read after it
pub data Step : Type 0 where
  awaits : Reading → Step
  fails : Reading → Step
  passes : Reading → Step
  gives : Captured → Reading → Step

abbrev pub behind : ℕ → Reading → Reading
behind len reading = record reading { rest = drop len reading.rest }

-- an interface is one of its section from then on
abbrev pub step_by_content : Content → Reading → Step
step_by_content (interface i) after =
    passes (record after { interfaces = after.interfaces ++ i ∷ [] })
step_by_content (packet p) after = gives p after
step_by_content other after = passes after

-- a section has its own byte order, and none of the interfaces of the section before
abbrev pub step_by : Front → Reading → Step
step_by front.Part reading = awaits reading
step_by front.Broken reading = fails (record reading { form = form.Broken })
step_by (front.Header head) reading = passes (record (behind 24 reading) { form = form.Pcap head })
step_by (front.Section endian len) reading = passes (record {
  form = form.PcapNg endian;
  interfaces = [];
  rest = drop len reading.rest;
})
step_by (front.Whole len) reading =
    step_by_content (content_in reading.form reading.interfaces (take len reading.rest))
    (behind len reading)

unfoldable pub step_of : Reading → Step
step_of reading = step_by (front_at reading.form reading.rest) reading

abbrev pub passed : Step → Option Reading
passed (awaits after) = None
passed (fails after) = None
passed (passes after) = Some after
passed (gives p after) = None

-- the reading n steps on, if no packet is among them
unfoldable pub passed_by : ℕ → Reading → Option Reading
passed_by zero reading = Some reading
passed_by (suc n) reading = option_and_then (λ mid. passed (step_of mid)) (passed_by n reading)

-- some steps on, none of which is a packet, it is the other reading
pub record LeadsTo (old new : Reading) : Type 0 where
  pub steps : ℕ
  pub leads : passed_by steps old ≡ Some new

-- the first step that is no pass
pub record ComesTo (old : Reading) (step : Step) : Type 0 where
  pub mid : Reading
  pub leads : LeadsTo old mid
  pub comes : step_of mid ≡ step

-- ---- what the calls say

-- the same with more octets
abbrev pub with_more : List ℕ → Reading → Reading
with_more octets reading = record reading { rest = reading.rest ++ octets }

-- the next step in a file, and the rest of it
abbrev pub step_by_next : Next → Reading → Step
step_by_next (next.Packet p) after = gives (captured_of p) after
step_by_next next.More after = awaits after
step_by_next next.Broken after = fails after

abbrev pub packet_in : Content → Option Captured
packet_in (interface i) = None
packet_in (packet p) = Some p
packet_in other = None

-- the packet in the octets from this place up to those that are not read
abbrev pub packet_from : {A : Type 0} → File A → ℕ → Option Captured
packet_from file from = packet_in
    (content_in file.form file.interfaces.items
    (take (file.done - from) (drop from file.kept.items)))

pub record IsPacketFrom {A : Type 0} (file : File A) (from : ℕ) (p : Captured) : Type 0 where
  pub packet_is : packet_from file from ≡ Some p
  pub begins : from ≤ file.done
  pub ends : file.done ≤ length file.kept.items

-- the next step takes up an interface, and so needs memory
pub record AwaitsMemory (reading : Reading) : Type 0 where
  pub taken : Interface
  pub after : Reading
  pub step : step_of reading ≡ passes after
  pub takes : after.interfaces ≡ reading.interfaces ++ taken ∷ []

-- what one step found
abbrev pub StepFinds : {A : Type 0} → File A → File A → Found → Type 0
StepFinds old new found.More = step_of (reading_of old) ≡ awaits (reading_of new)
StepFinds old new found.Broken = step_of (reading_of old) ≡ fails (reading_of new)
StepFinds old new found.Passed = (step_of (reading_of old) ≡ passes (reading_of new))
    × (length (reading_of new).rest < length (reading_of old).rest)
StepFinds old new (found.Packet from) = (p : Captured) × IsPacketFrom new from p
    × (step_of (reading_of old) ≡ gives p (reading_of new))

-- what was found where packets are looked for
abbrev pub Finds : {A : Type 0} → File A → File A → Found → Type 0
Finds old new found.More = ComesTo (reading_of old) (awaits (reading_of new))
Finds old new found.Broken = ComesTo (reading_of old) (fails (reading_of new))
Finds old new found.Passed = ⊥
Finds old new (found.Packet from) = (p : Captured) × IsPacketFrom new from p
    × ComesTo (reading_of old) (gives p (reading_of new))

-- what the next call says, and leaves: the first step that is no pass; if memory is refused, some steps on, before an interface
abbrev pub NextIs : {A : Type 0} → Reading → Result Next AllocError → File A → Type 0
NextIs old (Ok found) new = ComesTo old (step_by_next found (reading_of new))
NextIs old (Err e) new = LeadsTo old (reading_of new) × AwaitsMemory (reading_of new)
