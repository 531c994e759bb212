-- Numbers in a line, and the space that parts two of them.
use Rattle.std.proofs.Common.{arith, refl, sym, subst, ◌∙◌, ◌≡◌, ◌≢◌, ◌<◌, ◌+◌, ◌^◌, ℕ, List, [], ◌∷◌, ◌++◌, length, get_or, take}
use Rattle.std.specs.Str.Parse.{AllDigits}
use Rattle.std.specs.Char.{digit_value}
use Rattle.std.proofs.lemmas.List.{take_more}
use Rattle.dlms_words.specs.Numbers.{IsNumberOf}
use Rattle.dlms_program.specs.Orders.{HasNoSpace, SpellsPulses}

pub no_space-append : (bytes : List ℕ) (byte : ℕ) → HasNoSpace bytes → byte ≢ 32 → HasNoSpace (bytes ++ byte ∷ [])
no_space-append [] byte h k = (k, tt)
no_space-append (b ∷ bytes) byte h k = (h.0, no_space-append bytes byte h.1 k)

-- the first bytes up to one that is no space
pub no_space-more : (bytes : List ℕ) (at : ℕ) → at < length bytes → HasNoSpace (take at bytes) → get_or bytes at 0 ≢ 32 → HasNoSpace (take (at + 1) bytes)
no_space-more bytes at within h k = subst HasNoSpace (sym (take_more bytes at 0 within)) (no_space-append (take at bytes) (get_or bytes at 0) h k)

-- digits have no space
pub digits_no_space : (digits : List ℕ) → AllDigits 10 digits → HasNoSpace digits
digits_no_space [] h = tt
digits_no_space (c ∷ cs) h = ((λ e. let bad : digit_value 32 < 10 = subst (λ (b : ℕ). digit_value b < 10) e h.0 in absurd (omega arith)), digits_no_space cs h.1)

-- the parts before and after the first space
pub same_parts : (a b c d : List ℕ) → HasNoSpace a → HasNoSpace c → a ++ 32 ∷ b ≡ c ++ 32 ∷ d → (a ≡ c) × (b ≡ d)
same_parts [] b [] d h k e = (refl, cc)
same_parts [] b (x ∷ c) d h k e = absurd (k.0 (cc))
same_parts (x ∷ a) b [] d h k e = absurd (h.0 (cc))
same_parts (x ∷ a) b (y ∷ c) d h k e =
    let first : x ≡ y = cc in
    let rest : a ++ 32 ∷ b ≡ c ++ 32 ∷ d = cc in
    let parts : (a ≡ c) × (b ≡ d) = same_parts a b c d h.1 k.1 rest in
    (cc, parts.1)

pub no_parts : (a c d : List ℕ) → HasNoSpace a → a ≡ c ++ 32 ∷ d → ⊥
no_parts [] [] d h e = cc
no_parts [] (y ∷ c) d h e = cc
no_parts (x ∷ a) [] d h e = h.0 (cc)
no_parts (x ∷ a) (y ∷ c) d h e = let rest : a ≡ c ++ 32 ∷ d = cc in no_parts a c d h.1 rest

-- the fields of a line of pulses are no others
pub pulses_parts : (fields a b : List ℕ) (channel count : ℕ) → HasNoSpace a → fields ≡ a ++ 32 ∷ b → SpellsPulses (80 ∷ 32 ∷ fields) channel count
    → (channel < 2 ^ 8) × (count < 2 ^ 32) × IsNumberOf a channel × IsNumberOf b count
pulses_parts fields a b channel count h e spells =
    let there : fields ≡ spells.channel_digits ++ 32 ∷ spells.count_digits = cc (spells.text) in
    let parts : (a ≡ spells.channel_digits) × (b ≡ spells.count_digits) = same_parts a b spells.channel_digits spells.count_digits h (digits_no_space spells.channel_digits spells.channel_number.numeral.1) (sym e ∙ there) in (
      spells.channel_fits,
      spells.count_fits,
      subst (λ (ds : List ℕ). IsNumberOf ds channel) (sym parts.0) spells.channel_number,
      subst (λ (ds : List ℕ). IsNumberOf ds count) (sym parts.1) spells.count_number,
    )

pub no_pulses : (fields : List ℕ) (channel count : ℕ) → HasNoSpace fields → SpellsPulses (80 ∷ 32 ∷ fields) channel count → ⊥
no_pulses fields channel count h spells =
    let there : fields ≡ spells.channel_digits ++ 32 ∷ spells.count_digits = cc (spells.text) in
    no_parts fields spells.channel_digits spells.count_digits h there
