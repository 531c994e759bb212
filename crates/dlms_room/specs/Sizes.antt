-- The sizes of blocks. A request is rounded up, so that a freed block fits many later requests: to a multiple of 16 bytes, above 1024
-- bytes to a multiple of 1024, and above 65536 bytes to a multiple of 65536.
use Rattle.std.specs.Prelude.{ℕ, ◌+◌, ◌*◌, ◌/◌, nat_le, if◌then◌else◌}

abbrev pub block_size : ℕ → ℕ
block_size n = if nat_le n 1024 then (n + 15) / 16 * 16
    else (if nat_le n 65536 then (n + 1023) / 1024 * 1024 else (n + 65535) / 65536 * 65536)
