-- The same link between other addresses: they decide which frames a link takes and where its own frames go, and nothing else.
use Rattle.std.specs.Prelude.{◌≡◌, ℕ, List, true, false, Option, option_map}
use Rattle.dlms_frame.specs.declared.frame.Address.{Address}
use Rattle.dlms_frame.specs.declared.frame.Address.TheVariants.{One}
use Rattle.dlms_frame.specs.Frame.{Parts}
use Rattle.dlms_link.specs.declared.out.ClientOut.{ClientOut}
use Rattle.dlms_link.specs.declared.out.ClientOut.TheVariants.{Nothing, Up, Send, Apdu, Down}
use Rattle.dlms_link.specs.Client.{ClientRecord, client_connect, client_disconnect, client_send, client_step, client_timeout, is_answer}

-- a client's own service access point, and the address of its meter
pub record Pair : Type 0 where
  pub own : ℕ
  pub server : Address

-- a frame of the client, from these addresses
abbrev pub outward : Pair → Parts → Parts
outward pair f = record f { dest = pair.server; src = One pair.own }

-- a frame of the meter, to these addresses
abbrev pub inward : Pair → Parts → Parts
inward pair f = record f { dest = One pair.own; src = pair.server }

-- the same link between these addresses
abbrev pub readdressed : Pair → ClientRecord → ClientRecord
readdressed pair c = record c {
  own = pair.own;
  server = pair.server;
  waits = option_map (outward pair) c.waits;
}

abbrev pub out_readdressed : Pair → ClientOut → ClientOut
out_readdressed pair Nothing = Nothing
out_readdressed pair Up = Up
out_readdressed pair (Send f) = Send (outward pair f)
out_readdressed pair Apdu = Apdu
out_readdressed pair Down = Down

-- a link and its output; a link and the frame that it sends; a link and the frame that it repeats, if any
abbrev pub both_readdressed : Pair → ClientRecord × ClientOut → ClientRecord × ClientOut
both_readdressed pair done = (readdressed pair done.0, out_readdressed pair done.1)

abbrev pub sent_readdressed : Pair → ClientRecord × Parts → ClientRecord × Parts
sent_readdressed pair done = (readdressed pair done.0, outward pair done.1)

abbrev pub again_readdressed : Pair → ClientRecord × Option Parts → ClientRecord × Option Parts
again_readdressed pair done = (readdressed pair done.0, option_map (outward pair) done.1)

-- Between these addresses each call does the same as between any others.
pub record AddressesAreFree (pair : Pair) (c : ClientRecord) : Type 0 where
  pub connects : client_connect (readdressed pair c) ≡ readdressed pair (client_connect c)
  pub sends : (apdu : List ℕ)
      → client_send (readdressed pair c) apdu ≡ sent_readdressed pair (client_send c apdu)
  pub disconnects : client_disconnect (readdressed pair c) ≡ readdressed pair (client_disconnect c)
  pub times_out : client_timeout (readdressed pair c) ≡ again_readdressed pair (client_timeout c)
  pub takes : (f : Parts) → is_answer c f ≡ true
      → client_step (readdressed pair c) (inward pair f) ≡ both_readdressed pair (client_step c f)
  pub passes : (f : Parts) → is_answer c f ≡ false → client_step c f ≡ (c, Nothing)
