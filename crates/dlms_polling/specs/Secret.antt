-- A secret in a file, or the first one of a client.
use Rattle.std.specs.Prelude.{◌≡◌, ◌⊎◌, ◌<◌, ℕ, List, [], ◌∷◌, ◌++◌, length, Option, Some, None, Ok, Err}
use Rattle.dlms_carrier.specs.declared.any.Route.{Route}
use Rattle.dlms_frame.specs.declared.client.Client.{Client}
use Rattle.dlms_frame.specs.declared.client.Client.TheVariants.{Public, Management, Reader}
use Rattle.dlms_state.specs.Events.{first_secret}
use Rattle.dlms_state.specs.declared.event.SecretOf.TheVariants as state
use Rattle.dlms_lines.specs.Watching.{Sight, Sees}
use Rattle.dlms_lines.specs.Watching.Sight.{Reads}
use Rattle.dlms_lines.specs.declared.fault.FieldFault.{FieldFault}
use Rattle.dlms_lines.specs.declared.fault.FieldFault.TheVariants.{System, Secret}
use Rattle.dlms_state.specs.declared.event.TheConstants.{MOST_SECRET}

-- the bytes without this one at their end, if they have it there
abbrev pub IsWithout : ℕ → List ℕ → List ℕ → Type 0
IsWithout byte bytes rest = (bytes ≡ rest ++ byte ∷ [])
    ⊎ ((rest ≡ bytes) × ((before : List ℕ) → bytes ≡ before ++ byte ∷ [] → ⊥))

-- the bytes without the end of a line, if they have one: a line feed, and a carriage return before it if one is there
abbrev pub IsWithoutLineEnd : List ℕ → List ℕ → Type 0
IsWithoutLineEnd bytes rest =
    ((line : List ℕ) × (bytes ≡ line ++ 10 ∷ []) × IsWithout 13 line rest)
    ⊎ ((rest ≡ bytes) × ((before : List ℕ) → bytes ≡ before ++ 10 ∷ [] → ⊥))

-- the secret of a client as a new meter knows it; the public client has none
abbrev pub first_of : Client → List ℕ
first_of Public = []
first_of Management = first_secret state.Management
first_of Reader = first_secret state.Reader

-- ---- the secret that a client sends

-- the one in the file if one is given, otherwise this one
abbrev pub Finds : List ℕ → Option (List ℕ) → Option (List Sight) → Option (List Sight) → List ℕ
    → Type 0
Finds first None seen seen' secret = (secret ≡ first) × Sees seen seen' []
Finds first (Some file) seen seen' secret = (bytes : List ℕ)
    × Sees seen seen' (Reads file (Ok bytes) ∷ [])
    × ((rest : List ℕ) → IsWithoutLineEnd bytes rest → secret ≡ rest)

-- why there is none: the file could not be read, or its contents are too long
abbrev pub FindsNoneIn : List ℕ → Option (List Sight) → Option (List Sight) → FieldFault → Type 0
FindsNoneIn file seen seen' (System place error) = (place.now ≡ file)
    × Sees seen seen' (Reads file (Err error) ∷ [])
FindsNoneIn file seen seen' Secret = (bytes : List ℕ) × Sees seen seen' (Reads file (Ok bytes) ∷ [])
    × ((rest : List ℕ) → IsWithoutLineEnd bytes rest → MOST_SECRET < length rest)
FindsNoneIn file seen seen' _ = ⊥

abbrev pub FindsNone : Option (List ℕ) → Option (List Sight) → Option (List Sight) → FieldFault
    → Type 0
FindsNone None seen seen' fault = ⊥
FindsNone (Some file) seen seen' fault = FindsNoneIn file seen seen' fault

-- the public client has none, and for it no file is read
abbrev pub FindsSecret : Client → Option (List ℕ) → Option (List Sight) → Option (List Sight)
    → List ℕ → Type 0
FindsSecret Public file seen seen' secret = (secret ≡ []) × Sees seen seen' []
FindsSecret Management file seen seen' secret = Finds (first_of Management) file seen seen' secret
FindsSecret Reader file seen seen' secret = Finds (first_of Reader) file seen seen' secret

abbrev pub FindsNoSecret : Client → Option (List ℕ) → Option (List Sight) → Option (List Sight)
    → FieldFault → Type 0
FindsNoSecret Public file seen seen' fault = ⊥
FindsNoSecret Management file seen seen' fault = FindsNone file seen seen' fault
FindsNoSecret Reader file seen seen' fault = FindsNone file seen seen' fault

-- ---- the secret that a poll sends

-- the one in the file if one is given, otherwise none
abbrev pub FindsGiven : Option (List ℕ) → Option (List Sight) → Option (List Sight)
    → Option (List ℕ) → Type 0
FindsGiven None seen seen' secret = (secret ≡ None) × Sees seen seen' []
FindsGiven (Some file) seen seen' None = ⊥
FindsGiven (Some file) seen seen' (Some secret) = Finds [] (Some file) seen seen' secret

-- Over a route only the one in a file is sent: a meter there need not be this project's, whose first secrets are known. Without a
-- route it is the client's.
abbrev pub FindsSent : Option Route → Client → Option (List ℕ) → Option (List Sight)
    → Option (List Sight) → Option (List ℕ) → Type 0
FindsSent (Some route) client file seen seen' secret = FindsGiven file seen seen' secret
FindsSent None client file seen seen' None = ⊥
FindsSent None client file seen seen' (Some secret) = FindsSecret client file seen seen' secret

abbrev pub FindsNoneSent : Option Route → Client → Option (List ℕ) → Option (List Sight)
    → Option (List Sight) → FieldFault → Type 0
FindsNoneSent (Some route) client file seen seen' fault = FindsNone file seen seen' fault
FindsNoneSent None client file seen seen' fault = FindsNoSecret client file seen seen' fault
