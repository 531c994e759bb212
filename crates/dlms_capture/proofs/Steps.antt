-- One step over a file, over plain lists.
use Rattle.std.proofs.Common.{◌≡◌, ◌<◌, ◌≤◌, ◌-◌, ◌+◌, [], ℕ, List, length, take, drop, refl, arith, ap, ◌∙◌, sym}
use Rattle.std.proofs.lemmas.List.{drop-drop, length-drop}
use Rattle.dlms_capture.specs.declared.pcap.Head.{Head}
use Rattle.dlms_capture.specs.declared.interface.Endian.{Endian}
use Rattle.dlms_capture.specs.declared.pcapng.Interface.{Interface}
use Rattle.dlms_capture.specs.declared.front.Form.{Form}
use Rattle.dlms_capture.specs.declared.front.Form.TheVariants as forms
use Rattle.dlms_capture.specs.declared.front.Front.{Front}
use Rattle.dlms_capture.specs.declared.front.Front.TheVariants as fronts
use Rattle.dlms_capture.specs.PcapngFormat.{Content}
use Rattle.dlms_capture.specs.Fronts.{front_at}
use Rattle.dlms_capture.specs.Reading.{Reading, passes, content_in, step_of, step_by, step_by_content}

abbrev pub at : Form → List Interface → List ℕ → Reading
at form interfaces rest = record { form = form; interfaces = interfaces; rest = rest }

-- a step is the one of the front
pub by_front : (reading : Reading) (front : Front) → front ≡ front_at reading.form reading.rest → step_of reading ≡ step_by front reading
unfolding step_of
by_front reading front is = rw (sym is) refl

pub shorter : (kept : List ℕ) (done len : ℕ) → 0 < len → len ≤ length (drop done kept) → length (drop (done + len) kept) < length (drop done kept)
shorter kept done len some come = omega (arith, length-drop done kept, length-drop (done + len) kept)

pub in_kept : (kept : List ℕ) (done len : ℕ) → 0 < len → len ≤ length (drop done kept) → done + len ≤ length kept
in_kept kept done len some come = omega (arith, length-drop done kept)

pub of_header : (form : Form) (is : List Interface) (kept : List ℕ) (done : ℕ) (head : Head) → fronts.Header head ≡ front_at form (drop done kept)
    → step_of (at form is (drop done kept)) ≡ passes (at (forms.Pcap head) is (drop (done + 24) kept))
of_header form is kept done head front = by_front (at form is (drop done kept)) _ front ∙ ap (λ rest. passes (at (forms.Pcap head) is rest)) (drop-drop 24 done kept)

pub of_section : (form after : Form) (is new : List Interface) (kept same : List ℕ) (done still len : ℕ) (endian : Endian)
    → fronts.Section endian len ≡ front_at form (drop done kept) → 0 < len → len ≤ length (drop done kept)
    → after ≡ forms.PcapNg endian → new ≡ [] → same ≡ kept → still ≡ done
    → (step_of (at form is (drop done kept)) ≡ passes (at after new (drop (still + len) same))) × (length (drop (still + len) same) < length (drop done kept))
of_section form after is new kept same done still len endian front some come form_is none kept_is done_is =
    let step : step_of (at form is (drop done kept)) ≡ passes (at (forms.PcapNg endian) [] (drop (done + len) kept)) =
    by_front (at form is (drop done kept)) _ front ∙ ap (λ rest. passes (at (forms.PcapNg endian) [] rest)) (drop-drop len done kept)
    in rw (form_is, none, kept_is, done_is) (step, shorter kept done len some come)

pub of_content : (form : Form) (is : List Interface) (kept : List ℕ) (done len : ℕ) (content : Content) → fronts.Whole len ≡ front_at form (drop done kept)
    → content ≡ content_in form is (take (done + len - done) (drop done kept))
    → step_of (at form is (drop done kept)) ≡ step_by_content content (at form is (drop (done + len) kept))
of_content form is kept done len content front found =
    let same : done + len - done ≡ len = omega arith in
    by_front (at form is (drop done kept)) _ front
    ∙ ap (λ c. step_by_content c (at form is (drop len (drop done kept)))) (sym (found ∙ ap (λ n. content_in form is (take n (drop done kept))) same))
    ∙ ap (λ rest. step_by_content content (at form is rest)) (drop-drop len done kept)
