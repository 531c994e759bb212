-- Places in a stretch.
use Rattle.std.specs.Prelude.{ℕ, ◌+◌, min}

-- the place this many bytes after another one, counted up to 2^64 - 1
abbrev pub place_behind : ℕ → ℕ → ℕ
place_behind place count = min (place + count) 18446744073709551615
