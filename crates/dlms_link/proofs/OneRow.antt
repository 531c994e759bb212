-- Handing up an APDU and answering it are one row of the table.
use Rattle.std.proofs.Common.{◌≡◌, ℕ, List, refl, Some}
use Rattle.dlms_frame.specs.Frame.{Parts}
use Rattle.dlms_link.specs.declared.server_row.ServerRow.TheVariants.{HandsUp}
use Rattle.dlms_link.specs.Kept.{Kept, Fresh, Good, TooLong, BadStart, kept_after, from_client}
use Rattle.dlms_link.specs.Server.{ServerRecord, answered, link_step, row_of, row_done, server_send, told, by_row}

-- an answer is waited for, whatever came
waited : (r : ServerRecord) (answer : List ℕ) (k : Kept) → row_done r answer (told k) ≡ ((server_send r answer).0, Some (server_send r answer).1)
waited r answer Fresh = refl
waited r answer (Good apdu) = refl
waited r answer TooLong = refl
waited r answer BadStart = refl

pub one_row : (r : ServerRecord) (f : Parts) (answer : List ℕ) → row_of r f ≡ HandsUp → link_step r f answer ≡ answered r f answer
one_row r f answer e = rw e (waited (by_row r f HandsUp).0 answer (kept_after from_client r.kept f.info))
