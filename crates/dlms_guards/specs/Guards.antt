-- The guard of an association by settings.
use Rattle.std.specs.Prelude.{ℕ, true, List, [], Option, None}
use Rattle.dlms_keys.specs.Settings.{SettingsValue}
use Rattle.dlms_secured.specs.Guard.{GuardValue, hidden, layer_of}
use Rattle.dlms_secured.specs.declared.stage.Stage.TheVariants.{Closed}
use Rattle.dlms_security.specs.declared.kind.KeyKind.TheVariants.{Global}

-- A guard that has these settings, and sent nothing yet: its next counter is this one, and none is left.
abbrev pub guard_by : SettingsValue → (challenge : List ℕ) → (dedicated : Option (List ℕ))
    → ℕ → GuardValue
guard_by s challenge dedicated first = record {
  security = record {
    kind = Global;
    own = s.title;
    peer = None;
    encryption = s.encryption_key;
    authentication = s.authentication_key;
    policy = s.policy;
    next = first;
    reserved = first;
    accepted = None;
  };
  dedicated = layer_of s.title s.authentication_key s.policy (hidden s.policy dedicated);
  key = hidden s.policy dedicated;
  authentication = s.authentication_key;
  form = s.messages;
  challenge = challenge;
  unused = true;
  stage = Closed;
  initiate = [];
  handed = [];
}
