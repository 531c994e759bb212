-- The protection of messages under security suite 0 (IEC 62056-5-3; Green Book 9.2.7.2, and 9.2.7.4 for mechanism 5). `key` is the
-- block cipher key, `authentication` the authentication key.
use Rattle.std.specs.Prelude.{◌≡◌, ◌<◌, ◌^◌, ℕ, List, [], ◌∷◌, ◌++◌}
use Rattle.std.specs.Int.{w32, to_be_bytes}
use Rattle.dlms_cipher.specs.Gcm.{ctr, tag_of}

-- The security control octet: bits 0 to 3 number the suite, bit 4 is authentication, bit 5 encryption. Bits 6 (broadcast key) and
-- 7 (compression) are 0.
abbrev pub authenticated : ℕ
authenticated = 0x10

abbrev pub authenticated_encrypted : ℕ
authenticated_encrypted = 0x30

-- the initialization vector: the sender's system title in 8 octets, and the invocation counter in 4
abbrev pub nonce_of : List ℕ → ℕ → List ℕ
nonce_of title counter = title ++ to_be_bytes w32 counter

-- the ciphertext of a message, or the message of a ciphertext
abbrev pub cipher_of : List ℕ → List ℕ → ℕ → List ℕ → List ℕ
cipher_of key title counter text = ctr key (nonce_of title counter) text

-- the tag of a message that is authenticated and encrypted; the additional data are the control octet and the authentication key
abbrev pub sealed_tag : List ℕ → List ℕ → List ℕ → ℕ → List ℕ → List ℕ
sealed_tag key authentication title counter ciphertext =
    tag_of key (nonce_of title counter) (authenticated_encrypted ∷ authentication) ciphertext

-- the tag of a message that is authenticated only; the additional data are the control octet, the authentication key and the
-- message, and the plaintext is empty
abbrev pub signed_tag : List ℕ → List ℕ → List ℕ → ℕ → List ℕ → List ℕ
signed_tag key authentication title counter text =
    tag_of key (nonce_of title counter) (authenticated ∷ authentication ++ text) []

-- the answer to a challenge under authentication mechanism 5 (GMAC): control octet, counter, and the tag of the challenge
abbrev pub answer_of : List ℕ → List ℕ → List ℕ → ℕ → List ℕ → List ℕ
answer_of key authentication title counter challenge =
    authenticated ∷ to_be_bytes w32 counter ++ signed_tag key authentication title counter challenge

-- these octets are the answer to the challenge under some invocation counter
abbrev pub IsAnswer : List ℕ → List ℕ → List ℕ → List ℕ → List ℕ → Type 0
IsAnswer key authentication title challenge answer =
    (counter : ℕ) × (counter < 2 ^ 32)
    × (answer ≡ answer_of key authentication title counter challenge)
