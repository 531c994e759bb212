-- Choice is final: whatever bytes follow, it is reported again.
use Rattle.std.proofs.Common.{◌≡◌, ℕ, ◌-◌, Bool, true, false, cond, ltb, eqb, ◌||◌, if◌then◌else◌, List, [], ◌∷◌, ◌++◌, length, take, drop, Option, Result, Ok, Err, refl, sym, ap, ◌∙◌, ◌⊎◌, inl, inr}
use Rattle.dlms_data.specs.Value.{Value}
use Rattle.dlms_axdr.specs.Reading.{Fault, short, no_type, no_length, too_deep, ◌>>=◌, taken_at as data_taken_at, number_at as data_number_at, length_at, octets_at}
use Rattle.dlms_data.specs.Reading.{data_at}
use Rattle.dlms_apdu.specs.declared.fault.Refusal.{Refusal}
use Rattle.dlms_apdu.specs.declared.fault.Refusal.TheVariants.{Short, Choice, Trailing, Data}
use Rattle.dlms_apdu.specs.Forms.{action_result}
use Rattle.dlms_apdu.specs.Reading.{and_then, byte_at, taken_at, number_at, flag_at, descriptor_at, value_from, value_at, length_refusal, raw_from, raw_at, ended, chosen, choice_at, no_option_at, some_selector_at, selector_at, some_parameter_at, parameter_at, block_at, get_normal_at, get_next_at, set_normal_at, set_first_at, set_block_at, action_normal_at, action_first_at, action_block_at, get_at, set_at, action_at, request_at, get_data_at, get_result_at, get_answer_at, get_raw_at, get_block_result_at, get_block_answer_at, set_result_at, set_block_taken_at, set_last_at, action_result_at, action_block_taken_at, exception_at, get_response_at, set_response_at, action_response_at, response_at}
use Rattle.dlms_apdu.specs.Spelling.{IsByte, IsNumber, IsFlag, AreBytes, IsDescriptor, IsSelector, IsParameter, IsRaw, IsValue}
use Rattle.dlms_apdu.proofs.Takes.{Takes, failed, regrouped, byte_takes, byte_again, taken_takes, taken_again, number_takes, number_again, flag_takes, flag_again, descriptor_takes, descriptor_again, value_takes, value_again, raw_takes, raw_again}
use Rattle.dlms_apdu.proofs.Options.{IsBlock, selector_takes, selector_again, parameter_takes, parameter_again, block_takes, block_again}

-- if it reports Choice, it does so whatever bytes follow
abbrev IsFirm : {Y : Type 0} → (List ℕ → Result Y Refusal) → Type 0
IsFirm r = (bytes more : List ℕ) → r bytes ≡ Err Choice → r (bytes ++ more) ≡ Err Choice

-- what is read is read however the bytes go on
abbrev Goes : {X : Type 0} → (List ℕ → Result (X × List ℕ) Refusal) → Type 0
Goes {X} r = (bytes more : List ℕ) (x : X × List ℕ) → r bytes ≡ Ok x → r (bytes ++ more) ≡ Ok (x.0, x.1 ++ more)

goes_by : {X : Type 0} (P : X → List ℕ → Type 0) (r : List ℕ → Result (X × List ℕ) Refusal) → ((bytes : List ℕ) (x : X × List ℕ) → r bytes ≡ Ok x → Takes P bytes x)
    → ((x : X) (front rest : List ℕ) → P x front → r (front ++ rest) ≡ Ok (x, rest)) → Goes r
goes_by P r takes again bytes more x e =
    let t = takes bytes x e in
    ap r (regrouped bytes t.0 x.1 more t.1) ∙ again x.0 t.0 (x.1 ++ more) t.2

outcome : {A B : Type 0} (r : Result A Refusal) (f : A → Result B Refusal) (e : Refusal) → and_then r f ≡ Err e → (r ≡ Err e) ⊎ ((x : A) × (r ≡ Ok x) × (f x ≡ Err e))
unfolding and_then
outcome (Ok x) f e h = inr (x, refl, h)
outcome (Err d) f e h = let same : d ≡ e = cc in inl (ap failed same)

firm_step : {X B : Type 0} (r : List ℕ → Result (X × List ℕ) Refusal) (f : X × List ℕ → Result B Refusal) → IsFirm r → Goes r → ((x : X) → IsFirm (λ rest. f (x, rest))) → IsFirm (λ bytes. and_then (r bytes) f)
unfolding and_then
firm_step r f firm goes further bytes more e =
    elim (outcome (r bytes) f Choice e) [
      | inl h ↦ rw (firm bytes more h) refl
      | inr h ↦ rw (goes bytes more h.0 h.1) (further h.0.0 h.0.1 more h.2)
    ]

ended_firm : {Y : Type 0} (y : Y) → IsFirm (ended y)
unfolding and_then
ended_firm y [] more e = absurd cc
ended_firm y (b ∷ rest) more e = absurd cc

-- ---- choices

abbrev AllFirm : {Y : Type 0} → List (ℕ × (List ℕ → Result Y Refusal)) → Type 0
AllFirm [] = Unit {0}
AllFirm (row ∷ rows) = IsFirm row.1 × AllFirm rows

either_firm : {A : Type 0} (c : Bool) (x y v w : Result A Refusal) → (x ≡ Err Choice → v ≡ Err Choice) → (y ≡ Err Choice → w ≡ Err Choice) → cond c x y ≡ Err Choice → cond c v w ≡ Err Choice
either_firm true x y v w f g e = f e
either_firm false x y v w f g e = g e

chosen_firm : {Y : Type 0} (rows : List (ℕ × (List ℕ → Result Y Refusal))) → AllFirm rows → (b : ℕ) (rest more : List ℕ) → chosen rows b rest ≡ Err Choice → chosen rows b (rest ++ more) ≡ Err Choice
chosen_firm [] firm b rest more e = refl
chosen_firm (row ∷ rows) firm b rest more e =
    either_firm (eqb b row.0) (row.1 rest) (chosen rows b rest) (row.1 (rest ++ more)) (chosen rows b (rest ++ more)) (firm.0 rest more) (chosen_firm rows firm.1 b rest more) e

choice_firm : {Y : Type 0} (rows : List (ℕ × (List ℕ → Result Y Refusal))) → AllFirm rows → IsFirm (choice_at rows)
choice_firm rows firm [] more e = absurd cc
choice_firm rows firm (b ∷ rest) more e = chosen_firm rows firm b rest more e

-- ---- parts

byte_firm : IsFirm byte_at
byte_firm [] more e = absurd cc
byte_firm (b ∷ rest) more e = absurd cc

byte_goes : Goes byte_at
byte_goes = goes_by IsByte byte_at byte_takes byte_again

guard_firm : {A B : Type 0} (b : Bool) (x : A) (y : Result B Refusal) → cond b (failed Short) (Ok x) ≡ Err Choice → y ≡ Err Choice
guard_firm true x y e = absurd cc
guard_firm false x y e = absurd cc

taken_firm : (n : ℕ) → IsFirm (taken_at n)
unfolding taken_at
taken_firm n bytes more e = guard_firm (ltb (length bytes) n) (take n bytes, drop n bytes) _ e

taken_goes : (n : ℕ) → Goes (taken_at n)
taken_goes n = goes_by (AreBytes n) (taken_at n) (taken_takes n) (taken_again n)

number_firm : (k : ℕ) → IsFirm (number_at k)
unfolding number_at
number_firm k = firm_step (taken_at k) _ (taken_firm k) (taken_goes k) (λ t rest more e. absurd cc)

number_goes : (k : ℕ) → Goes (number_at k)
number_goes k = goes_by (IsNumber k) (number_at k) (number_takes k) (number_again k)

flag_firm : IsFirm flag_at
unfolding flag_at
flag_firm = firm_step byte_at _ byte_firm byte_goes (λ b rest more e. absurd cc)

flag_goes : Goes flag_at
flag_goes = goes_by IsFlag flag_at flag_takes flag_again

descriptor_firm : IsFirm descriptor_at
unfolding descriptor_at
descriptor_firm =
    firm_step (number_at 2) _ (number_firm 2) (number_goes 2) (λ c. firm_step (taken_at 6) _ (taken_firm 6) (taken_goes 6) (λ n. firm_step byte_at _ byte_firm byte_goes (λ i rest more e. absurd cc)))

descriptor_goes : Goes descriptor_at
descriptor_goes = goes_by IsDescriptor descriptor_at descriptor_takes descriptor_again

value_never : {B : Type 0} (r : Result (Value × List ℕ) Fault) (y : Result B Refusal) → value_from r ≡ Err Choice → y ≡ Err Choice
value_never (Ok x) y e = absurd cc
value_never (Err f) y e = absurd cc

value_firm : IsFirm value_at
value_firm bytes more e = value_never (data_at 8 bytes) _ e

value_goes : Goes value_at
value_goes = goes_by IsValue value_at value_takes value_again

some_selector_firm : IsFirm some_selector_at
unfolding some_selector_at
some_selector_firm = firm_step byte_at _ byte_firm byte_goes (λ n. firm_step value_at _ value_firm value_goes (λ v rest more e. absurd cc))

selector_firm : IsFirm selector_at
unfolding selector_at
selector_firm = choice_firm ((0, no_option_at) ∷ (1, some_selector_at) ∷ []) (λ rest more e. absurd cc, (some_selector_firm, tt))

selector_goes : Goes selector_at
selector_goes = goes_by IsSelector selector_at selector_takes selector_again

some_parameter_firm : IsFirm some_parameter_at
unfolding some_parameter_at
some_parameter_firm = firm_step value_at _ value_firm value_goes (λ v rest more e. absurd cc)

parameter_firm : IsFirm parameter_at
unfolding parameter_at
parameter_firm = choice_firm ((0, no_option_at) ∷ (1, some_parameter_at) ∷ []) (λ rest more e. absurd cc, (some_parameter_firm, tt))

parameter_goes : Goes parameter_at
parameter_goes = goes_by IsParameter parameter_at parameter_takes parameter_again

-- ---- raw bytes: a length that begins wrongly

abbrev faulty : {A : Type 0} → Fault → Result A Fault
faulty f = Err f

raw_wrong : {A : Type 0} (r : Result A Fault) → raw_from r ≡ Err Choice → (f : Fault) × (r ≡ faulty f) × (length_refusal f ≡ Choice)
raw_wrong (Ok x) e = absurd cc
raw_wrong (Err f) e = let same : length_refusal f ≡ Choice = cc in (f, refl, same)

not_short : (f : Fault) → length_refusal f ≡ Choice → f ≡ short → ⊥
not_short short h e = cc
not_short no_type h e = cc
not_short no_length h e = cc
not_short too_deep h e = cc

bound : {A B : Type 0} (r : Result A Fault) (k : A → Result B Fault) (f : Fault) → (r >>= k) ≡ faulty f → ((x : A) → k x ≡ faulty f → f ≡ short) → length_refusal f ≡ Choice → r ≡ faulty f
bound (Ok x) k f e only h = absurd (not_short f h (only x e))
bound (Err d) k f e only h = let same : d ≡ f = cc in ap faulty same

short_guard : {A : Type 0} (b : Bool) (x : A) (f : Fault) → cond b (faulty short) (Ok x) ≡ faulty f → f ≡ short
short_guard true x f e = cc
short_guard false x f e = absurd cc

taken_short : (n : ℕ) (bytes : List ℕ) (f : Fault) → data_taken_at n bytes ≡ faulty f → f ≡ short
unfolding data_taken_at
taken_short n bytes f e = short_guard (ltb (length bytes) n) (take n bytes, drop n bytes) f e

number_short : (r : Result (List ℕ × List ℕ) Fault) (k : List ℕ × List ℕ → ℕ × List ℕ) (f : Fault) → (r ≡ faulty f → f ≡ short) → (r >>= λ t. Ok (k t)) ≡ faulty f → f ≡ short
number_short (Ok x) k f only e = absurd cc
number_short (Err d) k f only e = let same : d ≡ f = cc in only (ap faulty same)

length_shape : {A : Type 0} (c d : Bool) (x y : A) (n m : Result A Fault) (f : Fault) → cond c (Ok x) (cond d (faulty no_length) n) ≡ faulty f → (n ≡ faulty f → f ≡ short) → length_refusal f ≡ Choice
    → cond c (Ok y) (cond d (faulty no_length) m) ≡ faulty f
length_shape true d x y n m f e only h = absurd cc
length_shape false true x y n m f e only h = e
length_shape false false x y n m f e only h = absurd (not_short f h (only e))

length_wrong : (bytes more : List ℕ) (f : Fault) → length_at bytes ≡ faulty f → length_refusal f ≡ Choice → length_at (bytes ++ more) ≡ faulty f
unfolding length_at data_number_at
length_wrong [] more f e h = let is : f ≡ short = cc in absurd (not_short f h is)
length_wrong (b ∷ rest) more f e h =
    length_shape (ltb b 128) (ltb b 129 || ltb 132 b) (b, rest) (b, rest ++ more) (data_number_at (b - 128) rest) (data_number_at (b - 128) (rest ++ more)) f e
    (number_short (data_taken_at (b - 128) rest) _ f (taken_short (b - 128) rest f)) h

raw_firm : IsFirm raw_at
unfolding octets_at
raw_firm bytes more e =
    let w = raw_wrong (octets_at bytes) e in
    let length : length_at bytes ≡ faulty w.0 = bound (length_at bytes) (λ n. data_taken_at n.0 n.1) w.0 w.1 (λ n. taken_short n.0 n.1 w.0) w.2 in
    rw (length_wrong bytes more w.0 length w.2) (ap failed w.2)

raw_goes : Goes raw_at
raw_goes = goes_by IsRaw raw_at raw_takes raw_again

block_firm : IsFirm block_at
unfolding block_at
block_firm =
    firm_step flag_at _ flag_firm flag_goes (λ f. firm_step (number_at 4) _ (number_firm 4) (number_goes 4) (λ n. firm_step raw_at _ raw_firm raw_goes (λ r rest more e. absurd cc)))

block_goes : Goes block_at
block_goes = goes_by IsBlock block_at block_takes block_again

-- ---- requests

get_normal_firm : IsFirm get_normal_at
unfolding get_normal_at
get_normal_firm = firm_step byte_at _ byte_firm byte_goes (λ i. firm_step descriptor_at _ descriptor_firm descriptor_goes (λ d. firm_step selector_at _ selector_firm selector_goes (λ s. ended_firm _)))

get_next_firm : IsFirm get_next_at
unfolding get_next_at
get_next_firm = firm_step byte_at _ byte_firm byte_goes (λ i. firm_step (number_at 4) _ (number_firm 4) (number_goes 4) (λ n. ended_firm _))

set_normal_firm : IsFirm set_normal_at
unfolding set_normal_at
set_normal_firm = firm_step byte_at _ byte_firm byte_goes (λ i. firm_step descriptor_at _ descriptor_firm descriptor_goes (λ d. firm_step selector_at _ selector_firm selector_goes (λ s. firm_step value_at _ value_firm value_goes (λ v. ended_firm _))))

set_first_firm : IsFirm set_first_at
unfolding set_first_at
set_first_firm = firm_step byte_at _ byte_firm byte_goes (λ i. firm_step descriptor_at _ descriptor_firm descriptor_goes (λ d. firm_step selector_at _ selector_firm selector_goes (λ s. firm_step block_at _ block_firm block_goes (λ b. ended_firm _))))

set_block_firm : IsFirm set_block_at
unfolding set_block_at
set_block_firm = firm_step byte_at _ byte_firm byte_goes (λ i. firm_step block_at _ block_firm block_goes (λ b. ended_firm _))

action_normal_firm : IsFirm action_normal_at
unfolding action_normal_at
action_normal_firm = firm_step byte_at _ byte_firm byte_goes (λ i. firm_step descriptor_at _ descriptor_firm descriptor_goes (λ d. firm_step parameter_at _ parameter_firm parameter_goes (λ p. ended_firm _)))

action_first_firm : IsFirm action_first_at
unfolding action_first_at
action_first_firm = firm_step byte_at _ byte_firm byte_goes (λ i. firm_step descriptor_at _ descriptor_firm descriptor_goes (λ d. firm_step block_at _ block_firm block_goes (λ b. ended_firm _)))

action_block_firm : IsFirm action_block_at
unfolding action_block_at
action_block_firm = firm_step byte_at _ byte_firm byte_goes (λ i. firm_step block_at _ block_firm block_goes (λ b. ended_firm _))

get_firm : IsFirm get_at
unfolding get_at
get_firm = choice_firm ((1, get_normal_at) ∷ (2, get_next_at) ∷ []) (get_normal_firm, (get_next_firm, tt))

set_firm : IsFirm set_at
unfolding set_at
set_firm = choice_firm ((1, set_normal_at) ∷ (2, set_first_at) ∷ (3, set_block_at) ∷ []) (set_normal_firm, (set_first_firm, (set_block_firm, tt)))

action_firm : IsFirm action_at
unfolding action_at
action_firm = choice_firm ((1, action_normal_at) ∷ (4, action_first_at) ∷ (6, action_block_at) ∷ []) (action_normal_firm, (action_first_firm, (action_block_firm, tt)))

pub request_firm : IsFirm request_at
unfolding request_at
request_firm = choice_firm ((0xC0, get_at) ∷ (0xC1, set_at) ∷ (0xC3, action_at) ∷ []) (get_firm, (set_firm, (action_firm, tt)))

-- ---- responses

get_data_firm : (i : ℕ) → IsFirm (get_data_at i)
unfolding get_data_at
get_data_firm i = firm_step value_at _ value_firm value_goes (λ v. ended_firm _)

get_result_firm : (i : ℕ) → IsFirm (get_result_at i)
unfolding get_result_at
get_result_firm i = firm_step byte_at _ byte_firm byte_goes (λ q. ended_firm _)

get_answer_firm : IsFirm get_answer_at
unfolding get_answer_at
get_answer_firm = firm_step byte_at _ byte_firm byte_goes (λ i. choice_firm ((0, get_data_at i) ∷ (1, get_result_at i) ∷ []) (get_data_firm i, (get_result_firm i, tt)))

get_raw_firm : (i : ℕ) (last : Bool) (n : ℕ) → IsFirm (get_raw_at i last n)
unfolding get_raw_at
get_raw_firm i last n = firm_step raw_at _ raw_firm raw_goes (λ w. ended_firm _)

get_block_result_firm : (i : ℕ) (n : ℕ) → IsFirm (get_block_result_at i n)
unfolding get_block_result_at
get_block_result_firm i n = firm_step byte_at _ byte_firm byte_goes (λ q. ended_firm _)

rows_firm : (i : ℕ) (last : Bool) (n : ℕ) → AllFirm ((0, get_raw_at i last n) ∷ (if last then (1, get_block_result_at i n) ∷ [] else []))
rows_firm i true n = (get_raw_firm i true n, (get_block_result_firm i n, tt))
rows_firm i false n = (get_raw_firm i false n, tt)

get_block_answer_firm : IsFirm get_block_answer_at
unfolding get_block_answer_at
get_block_answer_firm =
    firm_step byte_at _ byte_firm byte_goes (λ i. firm_step flag_at _ flag_firm flag_goes (λ f. firm_step (number_at 4) _ (number_firm 4) (number_goes 4)
    (λ n. choice_firm ((0, get_raw_at i f n) ∷ (if f then (1, get_block_result_at i n) ∷ [] else [])) (rows_firm i f n))))

set_result_firm : IsFirm set_result_at
unfolding set_result_at
set_result_firm = firm_step byte_at _ byte_firm byte_goes (λ i. firm_step byte_at _ byte_firm byte_goes (λ q. ended_firm _))

set_block_taken_firm : IsFirm set_block_taken_at
unfolding set_block_taken_at
set_block_taken_firm = firm_step byte_at _ byte_firm byte_goes (λ i. firm_step (number_at 4) _ (number_firm 4) (number_goes 4) (λ n. ended_firm _))

set_last_firm : IsFirm set_last_at
unfolding set_last_at
set_last_firm = firm_step byte_at _ byte_firm byte_goes (λ i. firm_step byte_at _ byte_firm byte_goes (λ q. firm_step (number_at 4) _ (number_firm 4) (number_goes 4) (λ n. ended_firm _)))

action_block_taken_firm : IsFirm action_block_taken_at
unfolding action_block_taken_at
action_block_taken_firm = firm_step byte_at _ byte_firm byte_goes (λ i. firm_step (number_at 4) _ (number_firm 4) (number_goes 4) (λ n. ended_firm _))

exception_firm : IsFirm exception_at
unfolding exception_at
exception_firm = firm_step byte_at _ byte_firm byte_goes (λ i. firm_step byte_at _ byte_firm byte_goes (λ q. ended_firm _))

action_result_firm : IsFirm action_result_at
unfolding action_result_at
action_result_firm =
    firm_step byte_at _ byte_firm byte_goes (λ i. firm_step byte_at _ byte_firm byte_goes (λ q. choice_firm ((0, ended (action_result i q)) ∷ []) (ended_firm (action_result i q), tt)))

get_response_firm : IsFirm get_response_at
unfolding get_response_at
get_response_firm = choice_firm ((1, get_answer_at) ∷ (2, get_block_answer_at) ∷ []) (get_answer_firm, (get_block_answer_firm, tt))

set_response_firm : IsFirm set_response_at
unfolding set_response_at
set_response_firm = choice_firm ((1, set_result_at) ∷ (2, set_block_taken_at) ∷ (3, set_last_at) ∷ []) (set_result_firm, (set_block_taken_firm, (set_last_firm, tt)))

action_response_firm : IsFirm action_response_at
unfolding action_response_at
action_response_firm = choice_firm ((1, action_result_at) ∷ (4, action_block_taken_at) ∷ []) (action_result_firm, (action_block_taken_firm, tt))

pub response_firm : IsFirm response_at
unfolding response_at
response_firm = choice_firm ((0xC4, get_response_at) ∷ (0xC5, set_response_at) ∷ (0xC7, action_response_at) ∷ (0xD8, exception_at) ∷ []) (get_response_firm, (set_response_firm, (action_response_firm, (exception_firm, tt))))
