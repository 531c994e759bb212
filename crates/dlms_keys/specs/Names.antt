-- The names of the settings.
use Rattle.std.specs.Prelude.{codes, ℕ, List, [], ◌∷◌}
use Rattle.dlms_keys.specs.declared.setting.Setting.{Setting}
use Rattle.dlms_keys.specs.declared.setting.Setting.TheVariants.{Title, EncryptionKey, AuthenticationKey, Policy, Messages, Dedicated, Counters}

abbrev pub name_of : Setting → List ℕ
name_of Title = codes "title"
name_of EncryptionKey = codes "encryption-key"
name_of AuthenticationKey = codes "authentication-key"
name_of Policy = codes "policy"
name_of Messages = codes "messages"
name_of Dedicated = codes "dedicated"
name_of Counters = codes "counters"

abbrev pub settings : List Setting
settings = Title ∷ EncryptionKey ∷ AuthenticationKey ∷ Policy ∷ Messages ∷ Dedicated ∷ Counters ∷ []
