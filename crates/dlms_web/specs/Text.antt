-- Octets in the page's buffer.
use Rattle.std.specs.Prelude.{◌≡◌, ◌<◌, ◌≤◌, ◌++◌, ℕ, List, length, drop}

-- All of them are put at its beginning, and the rest stays; nothing is put into a buffer that is too short.
pub record Puts (told old : List ℕ) (code size : ℕ) (new : List ℕ) : Type 0 where
  pub count : size ≡ length told
  pub whole : length told ≤ length old → (code ≡ 0) × (new ≡ told ++ drop (length told) old)
  pub short : length old < length told → (code ≡ 2) × (new ≡ old)
