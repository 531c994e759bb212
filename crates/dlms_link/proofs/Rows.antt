-- Which row of the meter's table, and which way of the client's, a frame of the other end takes.
use Rattle.std.proofs.Common.{◌≡◌, ◌≢◌, ℕ, ◌<◌, ◌==◌, if◌then◌else◌, refl, arith, true, false, Bool, List, [], Option, None, Some}
use Rattle.std.specs.Prelude.{IfSome}
use Rattle.std.proofs.lemmas.Bool.Decides.{nat_tests}
use Rattle.dlms_frame.specs.Client.{sap_of}
use Rattle.dlms_frame.specs.declared.client.Client.{Client}
use Rattle.dlms_frame.specs.declared.frame.Address.{Address}
use Rattle.dlms_frame.specs.declared.frame.Address.TheVariants.{One, Two, Four}
use Rattle.dlms_frame.specs.Frame.{Parts}
use Rattle.dlms_link.specs.declared.control.Control.TheVariants.{Information, Ready}
use Rattle.dlms_link.specs.Octet.{control_of, information_octet, ready_octet, before}
use Rattle.dlms_link.specs.Kept.{is_more}
use Rattle.dlms_link.specs.Parameters.{IsProposable, proposed_information, size_of}
use Rattle.dlms_link.specs.Server.{fresh_server, ServerRecord, row_of, was_information}
use Rattle.dlms_link.specs.declared.server_row.ServerRow.{ServerRow}
use Rattle.dlms_link.specs.declared.server_row.ServerRow.TheVariants.{Connects, Refuses, Disconnects, Keeps, HandsUp, Repeats, SendsNext}
use Rattle.dlms_link.specs.Client.{ClientRecord, same_address, to_meter, way_of, is_answer}
use Rattle.dlms_link.specs.declared.client_row.ClientRow.TheVariants.{Takes, LetsNext}
use Rattle.dlms_link.proofs.Numbers.{control_of-information, control_of-ready, before_differs}
use Rattle.dlms_link.proofs.Proposals.{proposal_is_read}

same : (n : ℕ) → (n == n) ≡ true
same n = grind (arith, nat_tests)

other : (m n : ℕ) → m ≢ n → (m == n) ≡ false
other m n h = grind (arith, nat_tests)

module _ (r : ServerRecord) (info : List ℕ) (segmented : Bool) where
  -- an I with the numbers that are expected
  pub row_of-expected : (s n : ℕ) → s < 8 → n < 8 → r.up ≡ true → r.receive_next ≡ s → r.send_next ≡ n → row_of r (to_meter r.client (information_octet s n) segmented info) ≡ (if segmented then Keeps else HandsUp)
  unfolding row_of
  row_of-expected s n hs hn up es en = rw (same (sap_of r.client), up, control_of-information s n hs hn, es, en, same s, same n) refl

  -- an I once more
  pub row_of-repeated : (s n : ℕ) → s < 8 → n < 8 → r.up ≡ true → r.took_information ≡ true → before r.receive_next ≡ s → r.receive_next < 8 → row_of r (to_meter r.client (information_octet s n) segmented info) ≡ Repeats
  unfolding row_of
  row_of-repeated s n hs hn up took es lt =
      let apart : (s == r.receive_next) ≡ false = other s r.receive_next (λ e. before_differs r.receive_next lt (cc)) in
      let here : (s == before r.receive_next) ≡ true = grind (arith, nat_tests) in
      rw (same (sap_of r.client), up, control_of-information s n hs hn, apart, here, took) refl

  -- an RR that lets the next segment go
  pub row_of-goes_on : (n : ℕ) → n < 8 → r.up ≡ true → r.send_next ≡ n → is_more r.unsent ≡ true → row_of r (to_meter r.client (ready_octet n) segmented info) ≡ SendsNext
  unfolding row_of
  row_of-goes_on n hn up en more = rw (same (sap_of r.client), up, control_of-ready n hn, en, same n, more) refl

  -- that RR once more
  pub row_of-ready_repeated : (n : ℕ) → n < 8 → r.up ≡ true → before r.send_next ≡ n → r.send_next < 8 → was_information r.last ≡ true → row_of r (to_meter r.client (ready_octet n) segmented info) ≡ Repeats
  unfolding row_of
  row_of-ready_repeated n hn up en lt was =
      let apart : (n == r.send_next) ≡ false = other n r.send_next (λ e. before_differs r.send_next lt (cc)) in
      let here : (n == before r.send_next) ≡ true = grind (arith, nat_tests) in
      rw (same (sap_of r.client), up, control_of-ready n hn, apart, here, was) refl

same_address-refl : (a : Address) → same_address a a ≡ true
same_address-refl (One a) = same a
same_address-refl (Two a b) = rw (same a, same b) refl
same_address-refl (Four a b) = rw (same a, same b) refl

either : (b : Bool) (x : ServerRow) → (if b then x else x) ≡ x
either true x = refl
either false x = refl

pub row_of-snrm : (r : ServerRecord) → row_of r (to_meter r.client 147 false []) ≡ Connects 128
unfolding row_of control_of size_of
row_of-snrm r = rw (same (sap_of r.client)) (either r.up (Connects 128))

-- and with a proposal
pub row_of-snrm_with : (p : Option ℕ) → IfSome p IsProposable → (r : ServerRecord) → row_of r (to_meter r.client 147 false (proposed_information p)) ≡ Connects 128
unfolding row_of control_of
row_of-snrm_with None fair r = row_of-snrm r
row_of-snrm_with (Some size) fair r = rw (same (sap_of r.client), (proposal_is_read size fair).1) (either r.up (Connects 128))

pub row_of-disc_up : (r : ServerRecord) → r.up ≡ true → row_of r (to_meter r.client 83 false []) ≡ Disconnects
unfolding row_of control_of
row_of-disc_up r up = rw (same (sap_of r.client), up) refl

pub row_of-disc_down : (r : ServerRecord) → r.up ≡ false → row_of r (to_meter r.client 83 false []) ≡ Refuses
unfolding row_of control_of
row_of-disc_down r up = rw (same (sap_of r.client), up) refl

-- a link that is down refuses the frame, to the address that the client speaks to
abbrev pub IsRefused : Client → Parts → Type 0
IsRefused who q = (row_of (fresh_server who) q ≡ Refuses) × (q.dest ≡ One 1)

pub information_refused : (who : Client) (segmented : Bool) (info : List ℕ) (s n : ℕ) → s < 8 → n < 8 → IsRefused who (to_meter who (information_octet s n) segmented info)
unfolding row_of
information_refused who segmented info s n hs hn = (rw (same (sap_of who), control_of-information s n hs hn) refl, refl)

pub ready_refused : (who : Client) (n : ℕ) → n < 8 → IsRefused who (to_meter who (ready_octet n) false [])
unfolding row_of
ready_refused who n hn = (rw (same (sap_of who), control_of-ready n hn) refl, refl)

module _ (c : ClientRecord) where
  pub is_answer-to_client : (octet : ℕ) (segmented : Bool) (info : List ℕ) → is_answer c (record { segmented = segmented; dest = One c.own; src = c.server; control = octet; info = info }) ≡ true
  unfolding is_answer
  is_answer-to_client octet segmented info = rw (same c.own, same_address-refl c.server) refl

  pub way_of-expected : (s n : ℕ) → c.receive_next ≡ s → c.send_next ≡ n → way_of c (Information s n) ≡ Takes
  unfolding way_of
  way_of-expected s n es en = rw (es, en, same s, same n) refl

  pub way_of-goes_on : (n : ℕ) → c.send_next ≡ n → is_more c.unsent ≡ true → way_of c (Ready n) ≡ LetsNext
  unfolding way_of
  way_of-goes_on n en more = rw (en, same n, more) refl
