-- An opened telegram that cannot be read is refused.
use Rattle.std.proofs.Common.{◌≡◌, List, ℕ, Option, IsSome, inl, inr}
use Rattle.dlms_keys.specs.declared.station.Station.{Station}
use Rattle.dlms_security.specs.Form.{kind_of}
use Rattle.dlms_telegram.specs.Telegram as telegrams
use Rattle.dlms_listen.specs.Unsealing.{IsRefusedTelegram, Unseals}
use Rattle.dlms_listen.specs.declared.counters.Sender.{Sender}
use Rattle.dlms_listen.specs.declared.fault.Refusal.{Refusal}
use Rattle.dlms_listen.specs.declared.fault.Refusal.TheVariants as refusal
use Rattle.dlms_listen.specs.declared.receiver.Seal.{Seal}

pub unread : (keys : Option (List Station)) (senders : List Sender) (octets plain : List ℕ) (seal : Seal) (why : Refusal)
    → IsSome (kind_of octets) → Unseals keys octets seal plain → why ≡ refusal.Malformed → telegrams.IsNone plain
    → IsRefusedTelegram keys senders octets why
unread keys senders octets plain seal why some opens malformed none = inr (inr (some, (plain, seal, opens, inl (malformed, none))))
