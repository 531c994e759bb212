-- The segments and blocks of an APDU, joined.
use Rattle.std.specs.Prelude.{◌==◌, ◌||◌, ◌&&◌, ◌%◌, not, nat_le, if◌then◌else◌, ℕ, Bool, true, false, List, [], ◌∷◌, ◌++◌, length, Option, Some, None, is_some, option_map}
use Rattle.dlms_frame.specs.Frame.{Parts}
use Rattle.dlms_frame.specs.declared.frame.Address.{Address}
use Rattle.dlms_frame.specs.declared.frame.Address.TheVariants.{One, Two, Four}
use Rattle.dlms_listen.specs.declared.fault.Skip.{Skip}
use Rattle.dlms_listen.specs.declared.fault.Skip.TheVariants as skip
use Rattle.dlms_listen.specs.declared.segments.TheConstants.{MOST_JOINED}
use Rattle.dlms_transfer.specs.Blocks as blocks
use Rattle.dlms_transfer.specs.Blocks.{Blocked, Part}
use Rattle.dlms_transfer.specs.declared.blocks.Outcome as transfer
use Rattle.dlms_transfer.specs.declared.blocks.Step.{Step}
use Rattle.dlms_transfer.specs.declared.blocks.Step.TheVariants.{More, Whole, NotNext, Long}

-- whether an APDU is complete, and the cause of octets left out
pub record Outcome : Type 0 where
  pub complete : Bool
  pub skip : Option Skip

-- ---- segments (IEC 62056-46, segmentation)

-- the octets of an APDU that came so far, and the addresses of its segments while the last one has not come
pub record Segmented : Type 0 where
  pub octets : List ℕ
  pub ends : Option (Address × Address)

-- the outcome of a frame, and the segments after it
pub record Segment : Type 0 where
  pub outcome : Outcome
  pub kept : Segmented

-- the octets after an LLC header (IEC 62056-46, 5.3.2): E6 E7 00 from a meter, E6 E6 00 from a client
abbrev pub behind_llc : List ℕ → Option (List ℕ)
behind_llc (a ∷ b ∷ c ∷ apdu) =
    if (a == 0xE6) && (((b == 0xE6) || (b == 0xE7)) && (c == 0)) then Some apdu else None
behind_llc _ = None

-- an information frame, or a UI frame with or without its poll bit (IEC 62056-46, 6.4.3)
abbrev pub carries_apdu : ℕ → Bool
carries_apdu control = (control % 2 == 0) || ((control == 0x03) || (control == 0x13))

abbrev pub same_address : Address → Address → Bool
same_address (One a) (One b) = a == b
same_address (Two a b) (Two c d) = (a == c) && (b == d)
same_address (Four a b) (Four c d) = (a == c) && (b == d)
same_address a b = false

-- segments are open between these addresses
abbrev pub is_between : Option (Address × Address) → Address → Address → Bool
is_between None dest src = false
is_between (Some ends) dest src = (same_address ends.0 dest) && (same_address ends.1 src)

-- the frame goes on with the open segments: it is between their addresses, and has no LLC header
abbrev pub is_next : Segmented → Parts → Bool
is_next kept frame =
    (is_between kept.ends frame.dest frame.src) && not (is_some (behind_llc frame.info))

abbrev pub left_out : Skip → Segment
left_out why = record {
  outcome = record { complete = false; skip = Some why };
  kept = record { octets = []; ends = None };
}

-- these octets are the APDU so far, and all of it unless further segments follow; too many are left out
abbrev pub segments_so_far : Parts → Option Skip → List ℕ → Segment
segments_so_far frame before octets =
    if nat_le (length octets) MOST_JOINED
    then record {
      outcome = record { complete = not frame.segmented; skip = before };
      kept = record {
        octets = octets;
        ends = if frame.segmented then Some (frame.dest, frame.src)
            else None;
      };
    }
    else left_out skip.Long

-- the first segment of an APDU tears the open ones
abbrev pub first_segment : Segmented → Parts → Option (List ℕ) → Segment
first_segment kept frame None = left_out skip.NoLlc
first_segment kept frame (Some apdu) =
    segments_so_far frame (if is_some kept.ends then Some skip.Torn else None) apdu

-- what a frame brings
abbrev pub segment_of : Segmented → Parts → Segment
segment_of kept frame =
    if carries_apdu frame.control
    then (if is_next kept frame then segments_so_far frame None (kept.octets ++ frame.info)
    else first_segment kept frame (behind_llc frame.info))
    else record {
      outcome = record { complete = false; skip = Some (skip.Control frame.control) };
      kept = kept;
    }

-- ---- blocks (IEC 62056-5-3, 9.3.5, general block transfer)

abbrev pub torn : Bool → Option Skip
torn is_torn = if is_torn then Some skip.TornBlocks else None

-- whether an APDU is complete with a block, and the cause of octets left out
abbrev pub heard_as : Step → Bool → Outcome
heard_as More is_torn = record { complete = false; skip = torn is_torn }
heard_as Whole is_torn = record { complete = true; skip = torn is_torn }
heard_as NotNext is_torn = record { complete = false; skip = Some skip.TornBlocks }
heard_as Long is_torn = record { complete = false; skip = Some skip.Long }

abbrev pub heard : transfer.Outcome → Outcome
heard outcome = heard_as outcome.step outcome.is_torn

-- the outcome of an APDU that is a block
abbrev pub outcome_of : Blocked → Option Part → Option Outcome
outcome_of kept block = option_map heard (blocks.outcome_of kept block)
