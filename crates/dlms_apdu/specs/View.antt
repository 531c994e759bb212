-- The content of a `Request` and a `Response`.
use Rattle.std.specs.Prelude.{Option, option_map}
use Rattle.dlms_data.specs.declared.descriptor.Selector.{Selector}
use Rattle.dlms_data.specs.View.{value_of}
use Rattle.dlms_apdu.specs.declared.request.Request.{Request}
use Rattle.dlms_apdu.specs.declared.request.Request.TheVariants.{GetNormal, GetNext, SetNormal, SetFirst, SetBlock, ActionNormal, ActionFirst, ActionBlock}
use Rattle.dlms_apdu.specs.declared.response.Response.{Response}
use Rattle.dlms_apdu.specs.declared.response.Response.TheVariants as answer
use Rattle.dlms_apdu.specs.declared.parts.Block.{Block}
use Rattle.dlms_apdu.specs.Forms.{BlockForm, Selection, RequestForm, ResponseForm, get_normal, get_next, set_normal, set_first, set_block, action_normal, action_first, action_block, get_data, get_result, get_block, get_block_result, set_result, set_block_taken, set_last, action_result, action_block_taken, exception}

abbrev pub selection_of : {A : Type 0} → Selector A → Selection
selection_of s = record { number = s.number; value = value_of s.value }

abbrev pub request_of : {A : Type 0} → Request A → RequestForm
request_of (GetNormal invoke d s) = get_normal invoke d (option_map selection_of s)
request_of (GetNext invoke n) = get_next invoke n
request_of (SetNormal invoke d s v) = set_normal invoke d (option_map selection_of s) (value_of v)
request_of (SetFirst invoke d s last n raw) =
    set_first invoke d (option_map selection_of s) last n raw.now
request_of (SetBlock invoke last n raw) = set_block invoke last n raw.now
request_of (ActionNormal invoke d p) = action_normal invoke d (option_map value_of p)
request_of (ActionFirst invoke d last n raw) = action_first invoke d last n raw.now
request_of (ActionBlock invoke last n raw) = action_block invoke last n raw.now

abbrev pub response_of : {A : Type 0} → Response A → ResponseForm
response_of (answer.GetData invoke v) = get_data invoke (value_of v)
response_of (answer.GetResult invoke r) = get_result invoke r
response_of (answer.GetBlock invoke last n raw) = get_block invoke last n raw.now
response_of (answer.GetBlockResult invoke n r) = get_block_result invoke n r
response_of (answer.SetResult invoke r) = set_result invoke r
response_of (answer.SetBlock invoke n) = set_block_taken invoke n
response_of (answer.SetLast invoke r n) = set_last invoke r n
response_of (answer.ActionResult invoke r) = action_result invoke r
response_of (answer.ActionBlock invoke n) = action_block_taken invoke n
response_of (answer.Exception state service) = exception state service

abbrev pub block_of : Block → BlockForm
block_of b = record { last = b.last; number = b.number; raw = b.raw.now }
