-- A connection over a line that loses nothing: it comes up, APDUs go in one frame each and their answers in segments, and it ends.
use Rattle.std.proofs.Common.{◌≡◌, ℕ, ◌<◌, ◌≤◌, refl, arith, true, false, Bool, List, [], ◌∷◌, ◌++◌, length, take, drop, Some, None}
use Rattle.std.proofs.lemmas.List.{append-nil, take_all, drop_all}
use Rattle.dlms_frame.specs.Frame.{Parts}
use Rattle.dlms_frame.specs.declared.client.Client.{Client}
use Rattle.dlms_frame.specs.declared.frame.Address.TheVariants.{One}
use Rattle.dlms_link.proofs.Joining.{kept_goes_on}
use Rattle.dlms_link.proofs.Numbers.{control_of-information, control_of-ua}
use Rattle.dlms_link.proofs.Rows.{row_of-expected, row_of-goes_on, row_of-snrm, row_of-disc_up, is_answer-to_client, way_of-expected}
use Rattle.dlms_link.proofs.Sound.{at, server_at, client_at, snrm, disc, ua_up, gone}
use Rattle.dlms_link.proofs.Steps.{whole_good}
use Rattle.dlms_link.specs.Client.{client_step, to_meter}
use Rattle.dlms_link.specs.Kept.{Kept, Fresh, Good, kept_after, llc, from_client, from_meter, is_more}
use Rattle.dlms_link.specs.Octet.{information_octet, ready_octet, next}
use Rattle.dlms_link.specs.Server.{ServerRecord, server_on, row_of, to_client}
use Rattle.dlms_link.specs.World.{LinkWorld as Link, happens, start, Connect, Give, Disconnect, ReachesMeter, ReachesClient}
use Rattle.dlms_link.specs.declared.last_answer.Answer.TheVariants.{NoAnswer, WasInformation}
use Rattle.dlms_link.specs.declared.last_answer.Answer.{Answer}
use Rattle.dlms_link.specs.declared.out.ClientOut.TheVariants as out
use Rattle.dlms_link.specs.declared.out.LinkOut.TheVariants.{Apdu, Reply, Up, Down}
use Rattle.dlms_link.specs.declared.phase.Phase.TheVariants.{Connecting, Open, Closing}
use Rattle.dlms_link.specs.declared.server_row.ServerRow.TheVariants.{HandsUp, SendsNext}

-- an APDU in one frame is read again
read_whole : (side : ℕ) (apdu : List ℕ) → length apdu ≤ 1024 → kept_after side Fresh (llc side ++ apdu) ≡ Good apdu
read_whole side apdu short =
    let on : (bytes : List ℕ) × (kept_after side Fresh (llc side ++ apdu) ≡ Good bytes) × (bytes ++ [] ≡ apdu) = kept_goes_on side Fresh (llc side ++ apdu) [] apdu (append-nil (llc side ++ apdu)) (omega arith) short in
    whole_good (kept_after side Fresh (llc side ++ apdu)) on.0 apdu on.1 on.2

module _ (who : Client) where
  -- ---- it comes up

  -- the UA comes
  abbrev pub called : Link
  called = record { meter = server_at who 0 0 NoAnswer false Fresh [] [] 128; client = client_at who Connecting 0 0 (Some (snrm who)) 0 Fresh [] []; up_line = []; down_line = ua_up who ∷ []; asked = []; served = []; answers = []; taken = [] }

  -- the link is up and awaits nothing
  abbrev pub idle : (s n : ℕ) → Answer → Bool → (had heard : List ℕ) → (given got : List (List ℕ)) → Link
  idle s n last took had heard given got = record { meter = server_at who n s last took Fresh had [] 128; client = client_at who Open s n None 0 Fresh heard []; up_line = []; down_line = []; asked = given; served = given; answers = got; taken = got }

  -- whatever the meter's end was
  pub calls : (m : ServerRecord) (answer : List ℕ) (short : length answer ≤ 1024) → happens (happens (record (start who) { meter = at who m }) Connect) (ReachesMeter answer short) ≡ called
  calls m answer short = rw (row_of-snrm (at who m)) refl

  pub is_called : (m : ServerRecord) → (server_on (at who m) (snrm who)).1 ≡ Up (ua_up who)
  is_called m = rw (row_of-snrm (at who m)) refl

  pub comes_up : happens called ReachesClient ≡ idle 0 0 NoAnswer false [] [] [] []
  comes_up = rw (is_answer-to_client called.client 115 false (ua_up who).info, control_of-ua) refl

  pub gives_up : (client_step called.client (ua_up who)).1 ≡ out.Up
  gives_up = rw (is_answer-to_client called.client 115 false (ua_up who).info, control_of-ua) refl

  -- ---- an APDU and its answer

  abbrev pub request : (s n : ℕ) → List ℕ → Parts
  request s n apdu = to_meter who (information_octet s n) false (llc from_client ++ apdu)

  -- a segment of an answer, and the rest of it
  abbrev pub part : (n s : ℕ) → (info left : List ℕ) → Parts
  part n s info left = to_client who (One 1) (information_octet n s) (is_more left) info

  -- such a segment is on the line
  abbrev pub coming : (s n : ℕ) → Parts → Bool → Kept → (had heard info left answer : List ℕ) → (given got : List (List ℕ)) → Link
  coming s n q took kept had heard info left answer given got = record { meter = server_at who (next n) s (WasInformation (part n s info left)) took Fresh had left 128; client = client_at who Open s n (Some q) 0 kept heard []; up_line = []; down_line = part n s info left ∷ []; asked = given; served = given; answers = got ++ answer ∷ []; taken = got }

  -- a receive-ready is, by which the poller lets the next segment go
  abbrev pub ready : ℕ → Parts
  ready n = to_meter who (ready_octet n) false []

  abbrev pub readying : (s n : ℕ) → Answer → Bool → (bytes had heard left answer : List ℕ) → (given got : List (List ℕ)) → Link
  readying s n last took bytes had heard left answer given got = record { meter = server_at who n s last took Fresh had left 128; client = client_at who Open s n (Some (ready n)) 0 (Good bytes) heard []; up_line = ready n ∷ []; down_line = []; asked = given; served = given; answers = got ++ answer ∷ []; taken = got }

  module _ (s n : ℕ) (hs : s < 8) (hn : n < 8) (took : Bool) (had heard answer : List ℕ) (given got : List (List ℕ)) where
    module _ (out_frame : Parts) (kept : Kept) (info : List ℕ) where
      -- one that others follow
      module _ (y : ℕ) (left bytes : List ℕ) (is : kept_after from_meter kept info ≡ Good bytes) where
        abbrev pub one : Link
        one = coming s n out_frame took kept had heard info (y ∷ left) answer given got

        pub lets_next : (client_step one.client (part n s info (y ∷ left))).1 ≡ out.Send (ready (next n))
        lets_next =
            rw (is_answer-to_client one.client (information_octet n s) true info, control_of-information n s hn hs, control_of-information n s hn hs, way_of-expected one.client n s refl refl, is) refl

        pub segment_taken : happens one ReachesClient ≡ readying s (next n) (WasInformation (part n s info (y ∷ left))) took bytes had heard (y ∷ left) answer given got
        segment_taken =
            rw (is_answer-to_client one.client (information_octet n s) true info, control_of-information n s hn hs, control_of-information n s hn hs, way_of-expected one.client n s refl refl, is) refl

      -- the last one
      module _ (is : kept_after from_meter kept info ≡ Good answer) where
        abbrev pub last_one : Link
        last_one = coming s n out_frame took kept had heard info [] answer given got

        pub taken_up : (client_step last_one.client (part n s info [])).1 ≡ out.Apdu
        taken_up =
            rw (is_answer-to_client last_one.client (information_octet n s) false info, control_of-information n s hn hs, control_of-information n s hn hs, way_of-expected last_one.client n s refl refl, is) refl

        pub takes : happens last_one ReachesClient ≡ idle s (next n) (WasInformation (part n s info [])) took had answer given (got ++ answer ∷ [])
        takes =
            rw (is_answer-to_client last_one.client (information_octet n s) false info, control_of-information n s hn hs, control_of-information n s hn hs, way_of-expected last_one.client n s refl refl, is) refl

    module _ (last : Answer) (y : ℕ) (left bytes : List ℕ) where
      abbrev pub waiting : Link
      waiting = readying s n last took bytes had heard (y ∷ left) answer given got

      goes_on : row_of waiting.meter (ready n) ≡ SendsNext
      goes_on = row_of-goes_on waiting.meter [] false n hn refl refl refl

      pub sends_next : (server_on waiting.meter (ready n)).1 ≡ Reply (part n s (take 128 (y ∷ left)) (drop 128 (y ∷ left)))
      sends_next = rw goes_on refl

      pub segment_sent : (none : List ℕ) (short : length none ≤ 1024) → happens waiting (ReachesMeter none short) ≡ coming s n (ready n) false (Good bytes) had heard (take 128 (y ∷ left)) (drop 128 (y ∷ left)) answer given got
      segment_sent none short = rw goes_on refl

  module _ (s n : ℕ) (hs : s < 8) (hn : n < 8) (last : Answer) (took : Bool) (had heard : List ℕ) (given got : List (List ℕ)) (apdu : List ℕ) (small : length apdu ≤ 125) where
    -- the APDU is on the line
    abbrev pub asking : Link
    asking = record { meter = server_at who n s last took Fresh had [] 128; client = client_at who Open (next s) n (Some (request s n apdu)) 0 Fresh heard []; up_line = request s n apdu ∷ []; down_line = []; asked = given ++ apdu ∷ []; served = given; answers = got; taken = got }

    pub gives : (short : length apdu ≤ 1024) → happens (idle s n last took had heard given got) (Give apdu short) ≡ asking
    gives short = rw (take_all 125 apdu small, drop_all 125 apdu small) refl

    expected : row_of asking.meter (request s n apdu) ≡ HandsUp
    expected = row_of-expected asking.meter (llc from_client ++ apdu) false s n hs hn refl refl refl

    pub hands_up : ((server_on asking.meter (request s n apdu)).1 ≡ Apdu) × ((server_on asking.meter (request s n apdu)).0.apdu ≡ apdu)
    hands_up = (rw (expected, read_whole from_client apdu (omega (arith, small))) refl, rw (expected, read_whole from_client apdu (omega (arith, small))) refl)

    -- its answer is, in a first segment
    pub answers : (answer : List ℕ) (short : length answer ≤ 1024) →
        happens asking (ReachesMeter answer short)
        ≡ coming (next s) n (request s n apdu) true Fresh apdu heard (take 128 (llc from_meter ++ answer)) (drop 128 (llc from_meter ++ answer)) answer (given ++ apdu ∷ []) got
    answers answer short = rw (expected, read_whole from_client apdu (omega (arith, small))) refl

  -- ---- it ends

  module _ (s n : ℕ) (last : Answer) (took : Bool) (had heard : List ℕ) (given got : List (List ℕ)) where
    -- the DISC is on the line
    abbrev pub leaving : Link
    leaving = record { meter = server_at who n s last took Fresh had [] 128; client = client_at who Closing s n (Some (disc who)) 0 Fresh heard []; up_line = disc who ∷ []; down_line = []; asked = given; served = given; answers = got; taken = got }

    pub leaves : happens (idle s n last took had heard given got) Disconnect ≡ leaving
    leaves = refl

    pub is_left : (server_on leaving.meter (disc who)).1 ≡ Down (gone who true)
    is_left = rw (row_of-disc_up leaving.meter refl) refl

    -- the UA to it is
    abbrev pub left : Link
    left = record { meter = record (server_at who n s last took Fresh had [] 128) { up = false }; client = client_at who Closing s n (Some (disc who)) 0 Fresh heard []; up_line = []; down_line = gone who true ∷ []; asked = given; served = given; answers = got; taken = got }

    pub goes_down : (answer : List ℕ) (short : length answer ≤ 1024) → happens leaving (ReachesMeter answer short) ≡ left
    goes_down answer short = rw (row_of-disc_up leaving.meter refl) refl

    pub is_down : (client_step left.client (gone who true)).1 ≡ out.Down
    is_down = rw (is_answer-to_client left.client 115 false [], control_of-ua) refl
