-- The canonical spelling is a spelling.
use Rattle.std.proofs.Common.{◌≡◌, ◌<◌, ◌^◌, ℕ, Bool, true, false, ltb, List, [], ◌∷◌, ◌++◌, length, Option, Some, None, Result, Ok, Err, IfOk, OnOk, refl, subst, sym, arith}
use Rattle.byteorder.specs.Endian.{big_bytes}
use Rattle.dlms_data.specs.declared.descriptor.Descriptor.{Descriptor}
use Rattle.dlms_data.specs.Value.{Value}
use Rattle.dlms_data.specs.Bits.{digit}
use Rattle.dlms_data.specs.Writing.{short_length, Fits}
use Rattle.dlms_data.proofs.Written.{number_back, length_spelled, is_spelled}
use Rattle.dlms_apdu.specs.Forms.{Selection, RequestForm, ResponseForm, get_normal, get_next, set_normal, set_first, set_block, action_normal, action_first, action_block, get_data, get_result, get_block, get_block_result, set_result, set_block_taken, set_last, action_result, action_block_taken, exception}
use Rattle.dlms_apdu.specs.Spelling.{◌▷◌, IsNumber, IsFlag, IsDescriptor, IsSelector, IsParameter, IsRaw, SpellsRequest, SpellsResponse}
use Rattle.dlms_apdu.specs.Writing.{descriptor_bytes, selector_bytes, parameter_bytes, raw_bytes, block_bytes, request_bytes, response_bytes, SelectorFits, ParameterFits, RawFits, RequestFits, ResponseFits, DescriptorInRange, RequestInRange, ResponseInRange, IsShort}

four : (n : ℕ) → n < 2 ^ 32 → IsNumber 4 n (big_bytes 4 n)
four n h = (refl, number_back 4 n (omega arith))

flag : (b : Bool) → IsFlag b (digit b ∷ [])
flag true = (1, refl, refl)
flag false = (0, refl, refl)

descriptor : (d : Descriptor) → DescriptorInRange d → IsDescriptor d (descriptor_bytes d)
descriptor d h =
    (big_bytes 2 d.class, d.name ++ d.id ∷ [], refl, (refl, number_back 2 d.class (omega arith)), (d.name, d.id ∷ [], refl, (h.1, refl), refl))

selector : (s : Option Selection) → SelectorFits s → IsSelector s (selector_bytes s)
selector None h = refl
selector (Some s) h = (1 ∷ [], _, refl, refl, (s.number ∷ [], _, refl, refl, is_spelled s.value h))

parameter : (p : Option Value) → ParameterFits p → IsParameter p (parameter_bytes p)
parameter None h = refl
parameter (Some v) h = (1 ∷ [], _, refl, refl, is_spelled v h)

raw : (b : List ℕ) → RawFits b → IsRaw b (raw_bytes b)
raw b h = (short_length (length b), b, refl, length_spelled (length b) h, refl)

block : (last : Bool) (n : ℕ) (b : List ℕ) → n < 2 ^ 32 → RawFits b → (IsFlag last ▷ IsNumber 4 n ▷ IsRaw b) (block_bytes last n b)
block last n b small h = (digit last ∷ [], _, refl, flag last, (big_bytes 4 n, raw_bytes b, refl, four n small, raw b h))

pub request_spelled : (r : RequestForm) → RequestFits r → RequestInRange r → SpellsRequest (request_bytes r) r
request_spelled (get_normal i d s) fits h = (_ ∷ [], _, refl, refl, (_ ∷ [], _, refl, refl, (_ ∷ [], _, refl, refl, (descriptor_bytes d, _, refl, descriptor d h, selector s fits))))
request_spelled (get_next i n) fits h = (_ ∷ [], _, refl, refl, (_ ∷ [], _, refl, refl, (_ ∷ [], _, refl, refl, four n h)))
request_spelled (set_normal i d s v) fits h =
    (_ ∷ [], _, refl, refl, (_ ∷ [], _, refl, refl, (_ ∷ [], _, refl, refl, (descriptor_bytes d, _, refl, descriptor d h, (selector_bytes s, _, refl, selector s fits.0, is_spelled v fits.1)))))
request_spelled (set_first i d s last n b) fits h =
    (_ ∷ [], _, refl, refl, (_ ∷ [], _, refl, refl, (_ ∷ [], _, refl, refl, (descriptor_bytes d, _, refl, descriptor d h.0, (selector_bytes s, _, refl, selector s fits.0, block last n b h.1 fits.1)))))
request_spelled (set_block i last n b) fits h = (_ ∷ [], _, refl, refl, (_ ∷ [], _, refl, refl, (_ ∷ [], _, refl, refl, block last n b h fits)))
request_spelled (action_normal i d p) fits h = (_ ∷ [], _, refl, refl, (_ ∷ [], _, refl, refl, (_ ∷ [], _, refl, refl, (descriptor_bytes d, _, refl, descriptor d h, parameter p fits))))
request_spelled (action_first i d last n b) fits h =
    (_ ∷ [], _, refl, refl, (_ ∷ [], _, refl, refl, (_ ∷ [], _, refl, refl, (descriptor_bytes d, _, refl, descriptor d h.0, block last n b h.1 fits))))
request_spelled (action_block i last n b) fits h = (_ ∷ [], _, refl, refl, (_ ∷ [], _, refl, refl, (_ ∷ [], _, refl, refl, block last n b h fits)))

pub response_spelled : (r : ResponseForm) → ResponseFits r → ResponseInRange r → SpellsResponse (response_bytes r) r
response_spelled (get_data i v) fits h = (_ ∷ [], _, refl, refl, (_ ∷ [], _, refl, refl, (_ ∷ [], _, refl, refl, (_ ∷ [], _, refl, refl, is_spelled v fits))))
response_spelled (get_result i r) fits h = (_ ∷ [], _, refl, refl, (_ ∷ [], _, refl, refl, (_ ∷ [], _, refl, refl, (_ ∷ [], _, refl, refl, refl))))
response_spelled (get_block i last n b) fits h =
    (_ ∷ [], _, refl, refl, (_ ∷ [], _, refl, refl, (_ ∷ [], _, refl, refl, (digit last ∷ [], _, refl, flag last, (big_bytes 4 n, 0 ∷ raw_bytes b, refl, four n h, (0 ∷ [], raw_bytes b, refl, refl, raw b fits))))))
response_spelled (get_block_result i n r) fits h =
    (_ ∷ [], _, refl, refl, (_ ∷ [], _, refl, refl, (_ ∷ [], _, refl, refl, (1 ∷ [], _, refl, flag true, (big_bytes 4 n, 1 ∷ r ∷ [], refl, four n h, (1 ∷ [], r ∷ [], refl, refl, refl))))))
response_spelled (set_result i r) fits h = (_ ∷ [], _, refl, refl, (_ ∷ [], _, refl, refl, (_ ∷ [], _, refl, refl, refl)))
response_spelled (set_block_taken i n) fits h = (_ ∷ [], _, refl, refl, (_ ∷ [], _, refl, refl, (_ ∷ [], _, refl, refl, four n h)))
response_spelled (set_last i r n) fits h = (_ ∷ [], _, refl, refl, (_ ∷ [], _, refl, refl, (_ ∷ [], _, refl, refl, (_ ∷ [], _, refl, refl, four n h))))
response_spelled (action_result i r) fits h = (_ ∷ [], _, refl, refl, (_ ∷ [], _, refl, refl, (_ ∷ [], _, refl, refl, (_ ∷ [], _, refl, refl, refl))))
response_spelled (action_block_taken i n) fits h = (_ ∷ [], _, refl, refl, (_ ∷ [], _, refl, refl, (_ ∷ [], _, refl, refl, four n h)))
response_spelled (exception state service) fits h = (_ ∷ [], _, refl, refl, (_ ∷ [], _, refl, refl, refl))

-- ---- of what was written

pub request_was : {T E : Type 0} (items : T → List ℕ) (r : RequestForm) (result : Result T E) → RequestFits r → IfOk result (λ out. items out ≡ request_bytes r) → OnOk result (RequestInRange r)
    → IfOk result (λ out. SpellsRequest (items out) r)
request_was items r (Ok out) fits e h = subst (λ (w : List ℕ). SpellsRequest w r) (sym e) (request_spelled r fits h)
request_was items r (Err e) fits f h = tt

pub response_was : {T E : Type 0} (items : T → List ℕ) (r : ResponseForm) (result : Result T E) → ResponseFits r → IfOk result (λ out. items out ≡ response_bytes r) → OnOk result (ResponseInRange r)
    → IfOk result (λ out. SpellsResponse (items out) r)
response_was items r (Ok out) fits e h = subst (λ (w : List ℕ). SpellsResponse w r) (sym e) (response_spelled r fits h)
response_was items r (Err e) fits f h = tt

short_fits : (r : ResponseForm) → IsShort r → ResponseFits r
short_fits (get_data i v) h = absurd h
short_fits (get_block i last n b) h = absurd h
short_fits _ h = tt

pub short_was : (text : List ℕ) (r : ResponseForm) → IsShort r → text ≡ response_bytes r → ResponseInRange r → SpellsResponse text r
short_was text r short e h = subst (λ (w : List ℕ). SpellsResponse w r) (sym e) (response_spelled r (short_fits r short) h)
