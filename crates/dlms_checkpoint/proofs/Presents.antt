-- Bytes of a version, in the present layout.
use Rattle.std.proofs.Common.{◌≡◌, ℕ, ◌+◌, ◌-◌, ◌≤◌, List, ◌++◌, length, take, drop, refl, sym, ap, ◌∙◌, arith, append_assoc}
use Rattle.std.proofs.lemmas.List.{length-append, length-take, length-take-le, length-drop, take-take, drop-take, take_at, drop_at, take-append-le, drop-append-le}
use Rattle.std.proofs.Math.Seq.{take-add}
use Rattle.dlms_state.specs.StateValue.{StateValue}
use Rattle.dlms_checkpoint.specs.Checkpoint.{field}
use Rattle.dlms_checkpoint.specs.Layouts.{IsCheckpointOf, as_present, first_settings, head_length, missing}
use Rattle.dlms_checkpoint.specs.declared.version.Version.{Version}
use Rattle.dlms_checkpoint.specs.declared.version.Version.TheVariants.{Rings, Columns}

length-settings : length first_settings ≡ 22
unfolding first_settings field
length-settings = refl

pub present_long : (version : Version) (bytes : List ℕ) → length (as_present version bytes) ≡ length bytes + missing version
present_long Rings bytes =
    omega (arith, length-append (take 286 bytes) (first_settings ++ drop 286 bytes), length-append first_settings (drop 286 bytes), length-settings, length-take 286 bytes, length-drop 286 bytes)
present_long Columns bytes = omega arith

pub few_missing : (version : Version) → missing version ≤ 22
few_missing Rings = omega arith
few_missing Columns = omega arith

-- this many bytes more than the front has
take_past : (front behind : List ℕ) (a k n : ℕ) → length front ≡ a → n ≡ a + k → take n (front ++ behind) ≡ front ++ take k behind
take_past front behind a k n long is =
    ap (λ (m : ℕ). take m (front ++ behind)) is ∙ take-add a k (front ++ behind)
    ∙ ap (λ (l : List ℕ). l ++ take k (drop a (front ++ behind))) (take_at front behind a long) ∙ ap (λ (l : List ℕ). front ++ take k l) (drop_at front behind a long)

pub present_take : (version : Version) (n : ℕ) (bytes : List ℕ) → 286 ≤ n → 286 ≤ length bytes → as_present version (take n bytes) ≡ take (n + missing version) (as_present version bytes)
present_take Rings n bytes low long =
    let behind : List ℕ = drop 286 bytes in
    let count : n ≡ 286 + (n - 286) = omega (arith, low) in
    let back : drop 286 (take n bytes) ≡ take (n - 286) behind = ap (λ (k : ℕ). drop 286 (take k bytes)) count ∙ drop-take 286 (n - 286) bytes in
    ap (λ (l : List ℕ). l ++ (first_settings ++ drop 286 (take n bytes))) (take-take 286 n bytes low)
    ∙ ap (λ (l : List ℕ). take 286 bytes ++ (first_settings ++ l)) back
    ∙ sym (ap (λ (l : List ℕ). take 286 bytes ++ l) (take_past first_settings behind 22 (n - 286) (22 + (n - 286)) length-settings refl))
    ∙ sym (take_past (take 286 bytes) (first_settings ++ behind) 286 (22 + (n - 286)) (n + 22) (length-take-le 286 bytes long) (omega (arith, low)))
present_take Columns n bytes low long = let same : n ≡ n + 0 = omega arith in ap (λ (k : ℕ). take k bytes) same

pub present_append : (version : Version) (bytes more : List ℕ) → 286 ≤ length bytes → as_present version (bytes ++ more) ≡ as_present version bytes ++ more
present_append Rings bytes more long =
    ap (λ (l : List ℕ). l ++ (first_settings ++ drop 286 (bytes ++ more))) (take-append-le 286 bytes more long)
    ∙ ap (λ (l : List ℕ). take 286 bytes ++ (first_settings ++ l)) (drop-append-le 286 bytes more long)
    ∙ ap (λ (l : List ℕ). take 286 bytes ++ l) (sym (append_assoc first_settings (drop 286 bytes) more))
    ∙ sym (append_assoc (take 286 bytes) (first_settings ++ drop 286 bytes) more)
present_append Columns bytes more long = refl

pub head_enough : (version : Version) → 286 ≤ head_length version
head_enough Rings = omega arith
head_enough Columns = omega arith

pub whole_head : (version : Version) → head_length version + missing version ≡ 324
whole_head Rings = refl
whole_head Columns = refl

-- what the head of a version says in the present layout
pub head_present : (version : Version) (bytes : List ℕ) → head_length version ≤ length bytes → as_present version (take (head_length version) bytes) ≡ take 324 (as_present version bytes)
head_present version bytes long =
    let low = head_enough version in
    present_take version (head_length version) bytes low (omega (arith, low, long)) ∙ ap (λ (k : ℕ). take k (as_present version bytes)) (whole_head version)

-- the same state in the present layout
pub in_present : (version : Version) (s : StateValue) (bytes : List ℕ) → IsCheckpointOf version s bytes → IsCheckpointOf Columns s (as_present version bytes)
in_present version s bytes is = record { spelled = is.spelled; legal = is.legal }

pub from_present : (version : Version) (s : StateValue) (bytes : List ℕ) → IsCheckpointOf Columns s (as_present version bytes) → IsCheckpointOf version s bytes
from_present version s bytes is = record { spelled = is.spelled; legal = is.legal }
