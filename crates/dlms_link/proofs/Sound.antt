-- The states that a run of both ends can reach.
use Rattle.std.proofs.Common.{◌≡◌, ℕ, ◌<◌, ◌≤◌, ap, true, false, Bool, cond, List, [], ◌∷◌, ◌++◌, length, Option, None, Some}
use Rattle.dlms_frame.specs.Client.{sap_of}
use Rattle.dlms_frame.specs.declared.client.Client.{Client}
use Rattle.dlms_frame.specs.declared.frame.Address.TheVariants.{One}
use Rattle.dlms_frame.specs.Frame.{Parts}
use Rattle.dlms_link.specs.declared.last_answer.Answer.{Answer}
use Rattle.dlms_link.specs.declared.last_answer.Answer.TheVariants.{NoAnswer, WasReady, WasInformation}
use Rattle.dlms_link.specs.declared.phase.Phase.{Phase}
use Rattle.dlms_link.specs.declared.phase.Phase.TheVariants.{Closed, Connecting, Open, Closing}
use Rattle.dlms_link.specs.Octet.{information_octet, ready_octet, next}
use Rattle.dlms_link.specs.Kept.{Kept, Fresh, Good, from_client, from_meter, is_more}
use Rattle.dlms_link.specs.Parameters.{information_of, own_parameters, proposed_information}
use Rattle.dlms_link.specs.Server.{ServerRecord, fresh_server, row_of, to_client}
use Rattle.dlms_link.specs.declared.server_row.ServerRow.TheVariants.{Repeats}
use Rattle.dlms_link.specs.Client.{ClientRecord, to_meter}
use Rattle.dlms_link.specs.World.{LinkWorld, IsBeginningOf}
use Rattle.dlms_link.proofs.Joining.{Joins, IsFirst}
use Rattle.dlms_link.proofs.Rows.{IsRefused}

abbrev pub server_at : Client → ℕ → ℕ → Answer → Bool → Kept → List ℕ → List ℕ → ℕ → ServerRecord
server_at who n s last took k ap u size = record { client = who; up = true; send_next = n; receive_next = s; last = last; took_information = took; kept = k; apdu = ap; unsent = u; size = size; waits = None }

abbrev pub client_with : Option ℕ → Client → Phase → ℕ → ℕ → Option Parts → ℕ → Kept → List ℕ → List ℕ → ClientRecord
client_with p who phase s n waits t k x u = record { own = sap_of who; server = One 1; phase = phase; send_next = s; receive_next = n; waits = waits; repeats = t; kept = k; apdu = x; unsent = u; proposal = p; size = 128 }

-- one that proposes nothing
abbrev pub client_at : Client → Phase → ℕ → ℕ → Option Parts → ℕ → Kept → List ℕ → List ℕ → ClientRecord
client_at who phase s n waits t k x u = client_with None who phase s n waits t k x u

-- the meter's end of this client's link, in any state
abbrev pub at : Client → ServerRecord → ServerRecord
at who m = record m { client = who }

-- the frame is on the line, or nothing is
abbrev pub on_line : Bool → Parts → List Parts
on_line true f = f ∷ []
on_line false f = []

pub data Line : Type 0 where
  Silent : Line
  Going : Line
  Coming : Line

abbrev pub going : Line → Parts → List Parts
going Silent f = []
going Going f = f ∷ []
going Coming f = []

abbrev pub coming : Line → Parts → List Parts
coming Silent f = []
coming Going f = []
coming Coming f = f ∷ []

abbrev pub snrm_with : Option ℕ → Client → Parts
snrm_with p who = to_meter who 147 false (proposed_information p)

abbrev pub snrm : Client → Parts
snrm who = to_meter who 147 false []

abbrev pub disc : Client → Parts
disc who = to_meter who 83 false []

abbrev pub ua_up : Client → Parts
ua_up who = to_client who (One 1) 115 false (information_of (own_parameters 128))

-- UA or DM to a DISC
abbrev pub gone : Client → Bool → Parts
gone who was_up = to_client who (One 1) (cond was_up 115 31) false []

pub data SoundWith (p : Option ℕ) (who : Client) : LinkWorld → Type 0 where
  -- the client's link is closed, and nothing is on the line
  Away : (m : ServerRecord) (x : List ℕ) (asked served answers taken : List (List ℕ)) → IsBeginningOf served asked → IsBeginningOf taken answers →
      SoundWith p who (record { meter = at who m; client = client_with p who Closed 0 0 None 0 Fresh x []; up_line = []; down_line = []; asked = asked; served = served; answers = answers; taken = taken })
  -- the SNRM is out, and hasn't reached the meter or its answer was lost
  Calling : (sent : Bool) (m : ServerRecord) (t : ℕ) (x : List ℕ) →
      SoundWith p who (record { meter = at who m; client = client_with p who Connecting 0 0 (Some (snrm_with p who)) t Fresh x []; up_line = on_line sent (snrm_with p who); down_line = []; asked = []; served = []; answers = []; taken = [] })
  -- the UA comes
  Called : (t : ℕ) (x : List ℕ) →
      SoundWith p who (record { meter = server_at who 0 0 NoAnswer false Fresh [] [] 128; client = client_with p who Connecting 0 0 (Some (snrm_with p who)) t Fresh x []; up_line = []; down_line = ua_up who ∷ []; asked = []; served = []; answers = []; taken = [] })
  -- the DISC is out
  Leaving : (sent : Bool) (m : ServerRecord) (s n t : ℕ) (k : Kept) (x u : List ℕ) (asked served answers taken : List (List ℕ)) → IsBeginningOf served asked → IsBeginningOf taken answers →
      SoundWith p who (record { meter = at who m; client = client_with p who Closing s n (Some (disc who)) t k x u; up_line = on_line sent (disc who); down_line = []; asked = asked; served = served; answers = answers; taken = taken })
  -- its answer comes
  Left : (was_up : Bool) (m : ServerRecord) (s n t : ℕ) (k : Kept) (x u : List ℕ) (asked served answers taken : List (List ℕ)) → IsBeginningOf served asked → IsBeginningOf taken answers →
      SoundWith p who (record { meter = at who m; client = client_with p who Closing s n (Some (disc who)) t k x u; up_line = []; down_line = gone who was_up ∷ []; asked = asked; served = served; answers = answers; taken = taken })
  -- the link is up and awaits nothing
  Idle : (s n size : ℕ) (last : Answer) (took : Bool) (ap x : List ℕ) (given got : List (List ℕ)) → s < 8 → n < 8 → 3 ≤ size →
      SoundWith p who (record { meter = server_at who n s last took Fresh ap [] size; client = client_with p who Open s n None 0 Fresh x []; up_line = []; down_line = []; asked = given; served = given; answers = got; taken = got })
  -- a segment of the client's APDU is out, and the meter hasn't taken it
  Asking : (sent : Bool) (s n size t : ℕ) (last : Answer) (took : Bool) (k : Kept) (ap x info u apdu : List ℕ) (given got : List (List ℕ)) → s < 8 → n < 8 → 3 ≤ size →
      Joins from_client k (info ++ u) apdu → IsFirst k info → length apdu ≤ 1024 →
      SoundWith p who (record { meter = server_at who n s last took k ap [] size; client = client_with p who Open (next s) n (Some (to_meter who (information_octet s n) (is_more u) info)) t Fresh x u; up_line = on_line sent (to_meter who (information_octet s n) (is_more u) info); down_line = []; asked = given ++ apdu ∷ []; served = given; answers = got; taken = got })
  -- the meter has taken it, and its RR answers it
  Received : (line : Line) (s n size t y : ℕ) (bytes ap x info u apdu : List ℕ) (given got : List (List ℕ)) → s < 8 → n < 8 → 3 ≤ size →
      bytes ++ (y ∷ u) ≡ apdu → length apdu ≤ 1024 →
      SoundWith p who (record { meter = server_at who n (next s) (WasReady (to_client who (One 1) (ready_octet (next s)) false [])) true (Good bytes) ap [] size; client = client_with p who Open (next s) n (Some (to_meter who (information_octet s n) true info)) t Fresh x (y ∷ u); up_line = going line (to_meter who (information_octet s n) true info); down_line = coming line (to_client who (One 1) (ready_octet (next s)) false []); asked = given ++ apdu ∷ []; served = given; answers = got; taken = got })
  -- a segment of the meter's answer is out, and the client's last frame asks for it again
  Answered : (line : Line) (s n size t : ℕ) (q : Parts) (took : Bool) (k : Kept) (ap x info u answer : List ℕ) (given got : List (List ℕ)) → s < 8 → n < 8 → 3 ≤ size →
      Joins from_meter k (info ++ u) answer → IsFirst k info → length answer ≤ 1024 →
      row_of (server_at who (next n) s (WasInformation (to_client who (One 1) (information_octet n s) (is_more u) info)) took Fresh ap u size) q ≡ Repeats → IsRefused who q →
      SoundWith p who (record { meter = server_at who (next n) s (WasInformation (to_client who (One 1) (information_octet n s) (is_more u) info)) took Fresh ap u size; client = client_with p who Open s n (Some q) t k x []; up_line = going line q; down_line = coming line (to_client who (One 1) (information_octet n s) (is_more u) info); asked = given; served = given; answers = got ++ answer ∷ []; taken = got })
  -- the client's RR is out, and the meter hasn't taken it
  Readying : (sent : Bool) (s n size t y : ℕ) (last : Answer) (took : Bool) (bytes ap x u answer : List ℕ) (given got : List (List ℕ)) → s < 8 → n < 8 → 3 ≤ size →
      bytes ++ (y ∷ u) ≡ answer → length answer ≤ 1024 →
      SoundWith p who (record { meter = server_at who n s last took Fresh ap (y ∷ u) size; client = client_with p who Open s n (Some (to_meter who (ready_octet n) false [])) t (Good bytes) x []; up_line = on_line sent (to_meter who (ready_octet n) false []); down_line = []; asked = given; served = given; answers = got ++ answer ∷ []; taken = got })
  -- the meter has come back with its link down, and the client doesn't know
  LostCalled : (t : ℕ) (x : List ℕ) →
      SoundWith p who (record { meter = fresh_server who; client = client_with p who Connecting 0 0 (Some (snrm_with p who)) t Fresh x []; up_line = []; down_line = ua_up who ∷ []; asked = []; served = []; answers = []; taken = [] })
  LostIdle : (s n : ℕ) (x : List ℕ) (asked served answers taken : List (List ℕ)) → s < 8 → n < 8 → IsBeginningOf served asked → IsBeginningOf taken answers →
      SoundWith p who (record { meter = fresh_server who; client = client_with p who Open s n None 0 Fresh x []; up_line = []; down_line = []; asked = asked; served = served; answers = answers; taken = taken })
  LostAsking : (sent : Bool) (q : Parts) (s n t : ℕ) (k : Kept) (x u : List ℕ) (asked served answers taken : List (List ℕ)) → IsRefused who q → IsBeginningOf served asked → IsBeginningOf taken answers →
      SoundWith p who (record { meter = fresh_server who; client = client_with p who Open s n (Some q) t k x u; up_line = on_line sent q; down_line = []; asked = asked; served = served; answers = answers; taken = taken })
  Denied : (q : Parts) (s n t : ℕ) (k : Kept) (x u : List ℕ) (asked served answers taken : List (List ℕ)) → IsRefused who q → IsBeginningOf served asked → IsBeginningOf taken answers →
      SoundWith p who (record { meter = fresh_server who; client = client_with p who Open s n (Some q) t k x u; up_line = []; down_line = gone who false ∷ []; asked = asked; served = served; answers = answers; taken = taken })
  LostReceived : (s n t y : ℕ) (x info u apdu : List ℕ) (given got : List (List ℕ)) → s < 8 → n < 8 →
      SoundWith p who (record { meter = fresh_server who; client = client_with p who Open (next s) n (Some (to_meter who (information_octet s n) true info)) t Fresh x (y ∷ u); up_line = []; down_line = to_client who (One 1) (ready_octet (next s)) false [] ∷ []; asked = given ++ apdu ∷ []; served = given; answers = got; taken = got })
  LostAnswered : (s n t : ℕ) (q : Parts) (k : Kept) (x info u answer : List ℕ) (given got : List (List ℕ)) → s < 8 → n < 8 →
      Joins from_meter k (info ++ u) answer → IsFirst k info → length answer ≤ 1024 → IsRefused who q →
      SoundWith p who (record { meter = fresh_server who; client = client_with p who Open s n (Some q) t k x []; up_line = []; down_line = to_client who (One 1) (information_octet n s) (is_more u) info ∷ []; asked = given; served = given; answers = got ++ answer ∷ []; taken = got })

-- the same of a client that proposes nothing
abbrev pub Sound : Client → LinkWorld → Type 0
Sound who w = SoundWith None who w
