-- Both carriers hand an APDU up only as they read octets.
use Rattle.std.proofs.Common.{◌≡◌, ◌∙◌, refl, sym, ap, ℕ, List, [], ◌∷◌, Option, Some, None}
use Rattle.std.specs.List.{cons_option}
use Rattle.dlms_carrier.specs.Any.{AnyValue, Hdlc, Tcp, Steps, apdu_of, out_of}
use Rattle.dlms_carrier.specs.Carrying.{Input, Begin, Give, Feed, Wait, End, Call, Runs, handed_at, handed_up}
use Rattle.dlms_carrier.specs.Hdlc.{HdlcValue, Repeats, Steps as HdlcSteps}
use Rattle.dlms_carrier.specs.Tcp.{TcpValue, Steps as TcpSteps}
use Rattle.dlms_carrier.specs.declared.event.Event.{Event}
use Rattle.dlms_carrier.specs.declared.event.Event.TheVariants as event
use Rattle.dlms_client.specs.Run.{heard, heard_by}

-- these events hand nothing up
unheard : (result is : Event) (apdu : List ℕ) → result ≡ is → handed_at is apdu ≡ None → None ≡ handed_at result apdu
unheard result is apdu e none = sym (ap (λ (e : Event). handed_at e apdu) e ∙ none)

repeats : (frame : _) (result : Event) (text apdu : List ℕ) → Repeats frame result text → None ≡ handed_at result apdu
repeats (Some frame) result text apdu h = unheard result event.Nothing apdu h.0 refl
repeats None result text apdu h = unheard result event.TimedOut apdu h.0 refl

hdlc_heard : (input : Input) (old new : HdlcValue) (result : Event) (apdu : List ℕ) → HdlcSteps old input result new → heard_by input (handed_at result apdu) ≡ handed_at result apdu
hdlc_heard Begin old new result apdu h = unheard result event.Nothing apdu h.none refl
hdlc_heard (Give a) old new result apdu h = unheard result event.Nothing apdu h.none refl
hdlc_heard (Feed octets count) old new result apdu h = refl
hdlc_heard Wait old new result apdu h = repeats _ result new.text apdu h.repeats
hdlc_heard End old new result apdu h = unheard result event.Nothing apdu h.none refl

tcp_heard : (input : Input) (old new : TcpValue) (result : Event) (apdu : List ℕ) → TcpSteps old input result new → heard_by input (handed_at result apdu) ≡ handed_at result apdu
tcp_heard Begin old new result apdu h = unheard result event.Up apdu h.1 refl
tcp_heard (Give a) old new result apdu h = unheard result event.Nothing apdu h.2 refl
tcp_heard (Feed octets count) old new result apdu h = refl
tcp_heard Wait old new result apdu h = unheard result event.TimedOut apdu h.1 refl
tcp_heard End old new result apdu h = unheard result event.Down apdu h.1 refl

any_heard : (input : Input) (old new : AnyValue) (result : Event) (apdu : List ℕ) → Steps old input result new → heard_by input (handed_at result apdu) ≡ handed_at result apdu
any_heard input (Hdlc old) (Hdlc new) result apdu h = hdlc_heard input old new result apdu h
any_heard input (Hdlc old) (Tcp new) result apdu h = absurd h
any_heard input (Tcp old) (Hdlc new) result apdu h = absurd h
any_heard input (Tcp old) (Tcp new) result apdu h = tcp_heard input old new result apdu h

pub no_other : (calls : List Call) (old new : AnyValue) → Runs Steps out_of apdu_of old calls new → heard calls ≡ handed_up calls
no_other [] old new h = refl
no_other (call ∷ calls) old new (mid, does, runs) =
    ap (λ (o : Option (List ℕ)). cons_option o (heard calls)) (any_heard call.input old mid call.event call.apdu does.step) ∙ ap (λ (l : List (List ℕ)). cons_option (handed_at call.event call.apdu) l) (no_other calls mid new runs)
