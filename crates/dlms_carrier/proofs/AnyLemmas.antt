-- A new carrier.
use Rattle.std.proofs.Common.{◌≡◌, refl, sym, subst, ap}
use Rattle.dlms_link.specs.Client.{ClientRecord, IsDown}
use Rattle.dlms_carrier.specs.Any.{AnyValue, Hdlc, Tcp, IsFresh, is_down}
use Rattle.dlms_carrier.specs.Tcp.{TcpValue}
use Rattle.dlms_carrier.specs.declared.any.Route.{Route}
use Rattle.dlms_carrier.specs.declared.any.Route.TheVariants as by

-- a new one has no connection
pub fresh_is_down : (route : Route) (c : AnyValue) → IsFresh route c → is_down c
fresh_is_down (by.Hdlc own server proposal) (Hdlc c) h = subst (λ (link : ClientRecord). IsDown link) (sym h.link) (refl, refl)
fresh_is_down (by.Hdlc own server proposal) (Tcp c) h = absurd h
fresh_is_down (by.Tcp own server) (Hdlc c) h = absurd h
fresh_is_down (by.Tcp own server) (Tcp c) h = ap (λ (v : TcpValue). v.phase) h
