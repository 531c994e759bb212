-- What a room and a block own: bytes in which no value lies, as units of 16 bytes that are aligned to 16.
use Rattle.std.specs.Prelude.{ℕ, ◌/◌, ◌^◌, ◌<◌}
use mir.Syntax.{Ty, w128, ty_int, ty_array}
use prog.Memory.{size}
use base.Fml.{Fml, fwand, fex}
use denote.RawPtr.{Ptr, room_for}
use Rattle.dlms_room.specs.Sizes.{block_size}

abbrev pub units_of : ℕ → Ty
units_of n = ty_array (ty_int w128) (n / 16)

-- n free bytes at p
abbrev pub bytes_at : Ptr → ℕ → Fml
bytes_at p n = room_for (units_of n) p

-- The right to give the block at p back, which was lent for a value of type τ: with the room for τ, it is the whole block again.
abbrev pub block_rest : Ty → Ptr → Fml
block_rest τ p = fex (size τ < 2 ^ 62)
    (λ _. fwand (room_for τ p) (bytes_at p (block_size (size τ))))
