-- What a meter that serves, or a head end that polls, asks of the world besides the line, one question after another.
use Rattle.std.specs.Prelude.{◌≡◌, ◌++◌, ℕ, Bool, true, false, List, Option, Some, None, option_map, Result, Ok, Err}
use Rattle.std.specs.declared.io.Error.{Error}
use Rattle.std.specs.declared.net.socket_addr.SocketAddr.{SocketAddr}
pub use Rattle.dlms_filing.specs.Filing.{error_in}

-- A file was read for a secret: these are its first bytes, or that failed; the clock of the day was looked at: this many seconds
-- have passed since 1970, or it failed; the steady clock began anew, or that failed. The steady clock was looked at: this many
-- whole seconds have passed, or it failed. It was asked at this second whether another connection waits; the next connection was
-- taken at this second, from this address, if there was one, or that failed; it was made ready, or that failed; an association
-- request from this address was refused at this second; the client that is served has proved a secret at this second; and a while
-- went by.
pub data Sight : Type 0 where
  Reads : (file : List ℕ) (bytes : Result (List ℕ) Error) → Sight
  Dates : (second : Result ℕ Error) → Sight
  Starts : (failed : Option Error) → Sight
  Second : (now : Option ℕ) → Sight
  Another : (now : ℕ) (waits : Bool) → Sight
  Next : (now : ℕ) (came : Result (Option SocketAddr) Error) → Sight
  Prepares : (failed : Option Error) → Sight
  Bars : (address : SocketAddr) (now : ℕ) → Sight
  Trusts : (now : ℕ) → Sight
  Pauses : Sight

-- if the questions are known, this came after them
abbrev pub Sees : Option (List Sight) → Option (List Sight) → List Sight → Type 0
Sees None new sights = Unit {0}
Sees (Some before) None sights = ⊥
Sees (Some before) (Some after) sights = after ≡ before ++ sights

abbrev pub ok_in : {X E : Type 0} → Result X E → Option X
ok_in (Ok x) = Some x
ok_in (Err e) = None

abbrev pub bytes_in : {V E : Type 0} → Result V E → (V → List ℕ) → Result (List ℕ) E
bytes_in (Ok found) bytes = Ok (bytes found)
bytes_in (Err e) bytes = Err e

abbrev pub has_any : {X : Type 0} → Option X → Bool
has_any None = false
has_any (Some x) = true

-- the address from which a connection came, if one did
abbrev pub came_in : {X E : Type 0} → Result (Option X) E → (X → SocketAddr)
    → Result (Option SocketAddr) E
came_in (Ok found) address = Ok (option_map address found)
came_in (Err e) address = Err e
