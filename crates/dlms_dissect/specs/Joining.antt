-- The position of a block among those before it, by the definitions of dlms_blocks.
use Rattle.std.specs.Prelude.{ℕ, ◌+◌, ◌==◌, nat_lt, if◌then◌else◌, Bool, List, length, Option, None, Result, Ok, Err}
use Rattle.dlms_blocks.specs.Coming.{nothing}
use Rattle.dlms_blocks.specs.Joining.{Joining, empty, is_next, with_block}
use Rattle.dlms_blocks.specs.declared.block.PutStep.{PutStep}
use Rattle.dlms_blocks.specs.declared.block.PutStep.TheVariants as step
use Rattle.dlms_dissect.specs.declared.joining.Joined.{Joined}
use Rattle.dlms_dissect.specs.declared.joining.Joined.TheVariants.{More, Whole, NotNext, TooLong}
use Rattle.dlms_dissect.specs.declared.joining.TheConstants.{MOST_VALUE}
use Rattle.dlms_dissect.specs.declared.named.Asked.{Asked}
use Rattle.dlms_dissect.specs.Asked.{of_invoke}
use Rattle.dlms_dissect.specs.Transfers.{TwoTransfers}

-- no block came
abbrev pub none : TwoTransfers
none = record { got = empty; got_of = None; put = nothing; put_of = None }

-- another value is asked for: none is read in blocks any more
abbrev pub dropped : TwoTransfers → TwoTransfers
dropped t = record t { got = empty; got_of = None }

-- The object of a block of a value that is read: the block with number 1 has the requested object, and a further one that of the
-- first; and each has the invoke-id-and-priority of the request.
abbrev pub read_of : TwoTransfers → Option Asked → ℕ → ℕ → Option Asked
read_of t asked invoke number = of_invoke (if number == 1 then asked else t.got_of) invoke

-- the block of number 1 begins a value
abbrev pub begun : Joining → ℕ → Joining
begun j number = if number == 1 then empty else j

-- the value would be longer than what is joined
abbrev pub is_too_long : Joining → List ℕ → Bool
is_too_long j raw = nat_lt MOST_VALUE (length j.joined + length raw)

-- the next block is joined, unless the value is then too long
abbrev pub got_answer : Joining → Bool → ℕ → List ℕ → Joined
got_answer j last number raw =
    if is_too_long j raw then TooLong
    else if is_next j number then (if last then Whole else More)
    else NotNext

abbrev pub got_after : Joining → Bool → ℕ → List ℕ → Joining
got_after j last number raw =
    if is_too_long j raw then j
    else if is_next j number then with_block j last number raw
    else j

-- for a value to set, the meter's answer: 17 if it is too long, and another result if the block is not the next one
abbrev pub put_answer : Result PutStep ℕ → Joined
put_answer (Ok step.More) = More
put_answer (Ok step.Whole) = Whole
put_answer (Err code) = if code == 17 then TooLong else NotNext
