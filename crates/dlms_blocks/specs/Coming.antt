-- A value to set that comes in blocks.
use Rattle.std.specs.Prelude.{ℕ, ◌+◌, ◌==◌, ◌&&◌, nat_le, nat_lt, Bool, true, false, List, [], ◌++◌, length, Option, Some, None, Result, Ok, Err, if◌then◌else◌}
use Rattle.dlms_blocks.specs.declared.block.PutStep.{PutStep}
use Rattle.dlms_blocks.specs.declared.block.PutStep.TheVariants.{More, Whole}
use Rattle.dlms_blocks.specs.declared.block.TheConstants.{LONG_SET_ABORTED, NO_LONG_SET, UNKNOWN_BLOCK}
use Rattle.dlms_blocks.specs.declared.put_in.TheConstants.{MOST_BYTES}

-- the bytes joined so far, and the number of the last block accepted if a further one is to come
pub record Coming : Type 0 where
  pub joined : List ℕ
  pub taken : Option ℕ

-- no transfer
abbrev pub nothing : Coming
nothing = record { joined = []; taken = None }

abbrev pub step_of : Bool → PutStep
step_of true = Whole
step_of false = More

-- a block that fits: the bytes joined, and the number, unless the value is whole
abbrev pub taken_on : Bool → ℕ → List ℕ → Coming
taken_on last number joined = record { joined = joined; taken = if last then None else Some number }

-- a first block has number 1, and at most 1,024 bytes
abbrev pub first_answer : Bool → ℕ → List ℕ → Result PutStep ℕ
first_answer last number bytes =
    if number == 1 then (if nat_le (length bytes) MOST_BYTES then Ok (step_of last)
    else Err LONG_SET_ABORTED) else Err UNKNOWN_BLOCK

abbrev pub first_after : Bool → ℕ → List ℕ → Coming
first_after last number bytes =
    if number == 1 then (if nat_le (length bytes) MOST_BYTES then taken_on last 1 bytes
    else nothing) else nothing

-- the number is the next one; after 2^32 - 1 none is
abbrev pub follows : ℕ → ℕ → Bool
follows before number = nat_lt before 4294967295 && (number == before + 1)

-- a further block; the results are those if no transfer is open, for another number, and for more bytes in all than fit
abbrev pub more_answer : Option ℕ → List ℕ → Bool → ℕ → List ℕ → Result PutStep ℕ
more_answer None joined last number bytes = Err NO_LONG_SET
more_answer (Some before) joined last number bytes =
    if follows before number then (if nat_le (length joined + length bytes) MOST_BYTES
    then Ok (step_of last) else Err LONG_SET_ABORTED) else Err UNKNOWN_BLOCK

abbrev pub more_after : Option ℕ → Coming → Bool → ℕ → List ℕ → Coming
more_after None c last number bytes = c
more_after (Some before) c last number bytes =
    if follows before number then (if nat_le (length c.joined + length bytes) MOST_BYTES
    then taken_on last number (c.joined ++ bytes) else nothing) else nothing
