-- Values that a setting may not have.
use Rattle.std.proofs.Common.{◌≡◌, ◌≢◌, ◌∙◌, sym, ap, None, refl, List, ℕ}
use Rattle.toml.specs.Data.{Data, string, as_str}
use Rattle.dlms_keys.specs.Settings.{IsLawful, policy_word, form_word}
use Rattle.dlms_keys.specs.declared.setting.Setting.{Setting}
use Rattle.dlms_keys.specs.declared.setting.Setting.TheVariants.{Title, EncryptionKey, AuthenticationKey, Policy, Messages, Dedicated, Counters}

is_text : (value : Data) (text : List ℕ) → as_str value ≡ None → value ≡ string text → ⊥
is_text value text none same = let clash = sym none ∙ ap as_str same in cc

-- a value that is no text is not lawful where a text is
pub no_text : (setting : Setting) (value : Data) → setting ≢ Dedicated → as_str value ≡ None
    → IsLawful setting value → ⊥
no_text Title value other none (octets, hex) = is_text value hex.text none hex.is
no_text EncryptionKey value other none (octets, hex) = is_text value hex.text none hex.is
no_text AuthenticationKey value other none (octets, hex) = is_text value hex.text none hex.is
no_text Policy value other none (policy, same) = is_text value (policy_word policy) none same
no_text Messages value other none (form, same) = is_text value (form_word form) none same
no_text Dedicated value other none lawful = other refl
no_text Counters value other none (path, same) = is_text value path none same
