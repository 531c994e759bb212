-- The reported content of a request and of a response (IEC 62056-5-3): everything except the octets of a secret and of blocks.
use Rattle.std.specs.Prelude.{◌≡◌, ℕ, Bool, true, false, codes, List, length, Option, Some, None, option_and_then}
use Rattle.dlms_data.specs.declared.data.Data.{Data}
use Rattle.dlms_data.specs.declared.descriptor.Descriptor.{Descriptor}
use Rattle.dlms_data.specs.declared.descriptor.Selector.{Selector}
use Rattle.dlms_apdu.specs.declared.request.Request.{Request}
use Rattle.dlms_apdu.specs.declared.request.Request.TheVariants.{GetNormal, GetNext, SetNormal, SetFirst, SetBlock, ActionNormal, ActionFirst, ActionBlock}
use Rattle.dlms_apdu.specs.declared.response.Response.{Response}
use Rattle.dlms_apdu.specs.declared.response.Response.TheVariants as answer
use Rattle.dlms_dissect.specs.declared.named.Asked.{Asked}
use Rattle.dlms_dissect.specs.declared.secrecy.Secrecy.{Secrecy}
use Rattle.dlms_dissect.specs.declared.secrecy.Secrecy.TheVariants.{Open, Unknown, Secret}
use Rattle.dlms_dissect.specs.declared.said.Content.{Content}
use Rattle.dlms_dissect.specs.declared.said.Content.TheVariants as told
use Rattle.dlms_dissect.specs.Asked.{of_invoke}
use Rattle.dlms_dissect.specs.Secrets.{secrecy_at, told_as}

-- of a value that is a secret, that it is one; of one that may be, itself, veiled; of another one the value
abbrev pub Shows : {A : Type 0} → Secrecy → Data A → Content A → Type 0
Shows Secret value content = content ≡ told.Secret
Shows Unknown value (told.Unknown veiled) = veiled.value.now ≡ value
Shows Unknown value _ = ⊥
Shows Open value (told.Value shown) = shown.now ≡ value
Shows Open value _ = ⊥

-- the parameter of a method, if there is one
abbrev pub ShowsParameter : {A : Type 0} → Secrecy → Option (Data A) → Content A → Type 0
ShowsParameter known None content = content ≡ told.Nothing
ShowsParameter known (Some value) content = Shows known value content

-- the secrecy of an attribute's value, or of a method's parameter, and how it is reported
abbrev pub known_of : Bool → Descriptor → Bool → Secrecy
known_of raw d method = told_as raw (secrecy_at (record { descriptor = d; method = method }))

abbrev pub ShowsRequest : {A : Type 0} → Bool → Request A → Content A → Type 0
ShowsRequest raw (GetNormal invoke d s) content = content ≡ told.Nothing
ShowsRequest raw (GetNext invoke n) content = content ≡ told.Next n
ShowsRequest raw (SetNormal invoke d s v) content = Shows (known_of raw d false) v content
ShowsRequest raw (SetFirst invoke d s last n octets) content =
    content ≡ told.Block last n (length octets.now)
ShowsRequest raw (SetBlock invoke last n octets) content =
    content ≡ told.Block last n (length octets.now)
ShowsRequest raw (ActionNormal invoke d p) content = ShowsParameter (known_of raw d true) p content
ShowsRequest raw (ActionFirst invoke d last n octets) content =
    content ≡ told.Block last n (length octets.now)
ShowsRequest raw (ActionBlock invoke last n octets) content =
    content ≡ told.Block last n (length octets.now)

-- by the secrecy of the requested value
abbrev pub ShowsResponse : {A : Type 0} → Secrecy → Response A → Content A → Type 0
ShowsResponse known (answer.GetData invoke v) content = Shows known v content
ShowsResponse known (answer.GetResult invoke r) content = content ≡ told.Access r
ShowsResponse known (answer.GetBlock invoke last n raw) content =
    content ≡ told.Block last n (length raw.now)
ShowsResponse known (answer.GetBlockResult invoke n r) content = content ≡ told.AccessOfBlock n r
ShowsResponse known (answer.SetResult invoke r) content = content ≡ told.Access r
ShowsResponse known (answer.SetBlock invoke n) content = content ≡ told.Taken n
ShowsResponse known (answer.SetLast invoke r n) content = content ≡ told.AccessBehind n r
ShowsResponse known (answer.ActionResult invoke r) content = content ≡ told.Action r
ShowsResponse known (answer.ActionBlock invoke n) content = content ≡ told.Taken n
ShowsResponse known (answer.Exception state service) content =
    content ≡ told.Exception state service

-- what a request names, and whether that is a method
abbrev pub asks : ℕ → Descriptor → Bool → Option Asked
asks invoke d method = Some (record {
  invoke = invoke;
  named = record { descriptor = d; method = method };
})

abbrev pub asked_of : {A : Type 0} → Request A → Option Asked
asked_of (GetNormal invoke d s) = asks invoke d false
asked_of (GetNext invoke n) = None
asked_of (SetNormal invoke d s v) = asks invoke d false
asked_of (SetFirst invoke d s last n raw) = asks invoke d false
asked_of (SetBlock invoke last n raw) = None
asked_of (ActionNormal invoke d p) = asks invoke d true
asked_of (ActionFirst invoke d last n raw) = asks invoke d true
asked_of (ActionBlock invoke last n raw) = None

-- the invoke-id-and-priority; an exception has none
abbrev pub request_invoke : {A : Type 0} → Request A → ℕ
request_invoke (GetNormal invoke d s) = invoke
request_invoke (GetNext invoke n) = invoke
request_invoke (SetNormal invoke d s v) = invoke
request_invoke (SetFirst invoke d s last n raw) = invoke
request_invoke (SetBlock invoke last n raw) = invoke
request_invoke (ActionNormal invoke d p) = invoke
request_invoke (ActionFirst invoke d last n raw) = invoke
request_invoke (ActionBlock invoke last n raw) = invoke

abbrev pub response_invoke : {A : Type 0} → Response A → Option ℕ
response_invoke (answer.GetData invoke v) = Some invoke
response_invoke (answer.GetResult invoke r) = Some invoke
response_invoke (answer.GetBlock invoke last n raw) = Some invoke
response_invoke (answer.GetBlockResult invoke n r) = Some invoke
response_invoke (answer.SetResult invoke r) = Some invoke
response_invoke (answer.SetBlock invoke n) = Some invoke
response_invoke (answer.SetLast invoke r n) = Some invoke
response_invoke (answer.ActionResult invoke r) = Some invoke
response_invoke (answer.ActionBlock invoke n) = Some invoke
response_invoke (answer.Exception state service) = None

-- the selector of a request
abbrev pub request_selector : {A : Type 0} → Request A → Option (Selector A)
request_selector (GetNormal invoke d s) = s
request_selector (GetNext invoke n) = None
request_selector (SetNormal invoke d s v) = s
request_selector (SetFirst invoke d s last n raw) = s
request_selector (SetBlock invoke last n raw) = None
request_selector (ActionNormal invoke d p) = None
request_selector (ActionFirst invoke d last n raw) = None
request_selector (ActionBlock invoke last n raw) = None

-- the object that the request of a response asked for, if the response has its invoke-id-and-priority
abbrev pub answered : {A : Type 0} → Option Asked → Response A → Option Asked
answered asked r = option_and_then (of_invoke asked) (response_invoke r)

-- the names of the forms
abbrev pub request_form : {A : Type 0} → Request A → List ℕ
request_form (GetNormal invoke d s) = codes "get-request-normal"
request_form (GetNext invoke n) = codes "get-request-next"
request_form (SetNormal invoke d s v) = codes "set-request-normal"
request_form (SetFirst invoke d s last n raw) = codes "set-request-with-first-datablock"
request_form (SetBlock invoke last n raw) = codes "set-request-with-datablock"
request_form (ActionNormal invoke d p) = codes "action-request-normal"
request_form (ActionFirst invoke d last n raw) = codes "action-request-with-first-pblock"
request_form (ActionBlock invoke last n raw) = codes "action-request-with-pblock"

abbrev pub response_form : {A : Type 0} → Response A → List ℕ
response_form (answer.GetData invoke v) = codes "get-response-normal"
response_form (answer.GetResult invoke r) = codes "get-response-normal"
response_form (answer.GetBlock invoke last n raw) = codes "get-response-with-datablock"
response_form (answer.GetBlockResult invoke n r) = codes "get-response-with-datablock"
response_form (answer.SetResult invoke r) = codes "set-response-normal"
response_form (answer.SetBlock invoke n) = codes "set-response-datablock"
response_form (answer.SetLast invoke r n) = codes "set-response-last-datablock"
response_form (answer.ActionResult invoke r) = codes "action-response-normal"
response_form (answer.ActionBlock invoke n) = codes "action-response-next-pblock"
response_form (answer.Exception state service) = codes "exception-response"
