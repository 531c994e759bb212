-- A poll that trusts the columns and takes three answers is done, over a carrier of which nothing is known.
use Rattle.std.proofs.Common.{◌≡◌, inl, inr, refl, sym, subst, append-nil, ℕ, true, List, [], ◌∷◌, ◌++◌, Ok}
use Rattle.dlms_acse.specs.Writing.{release_request}
use Rattle.dlms_blocks.specs.Joining.{empty}
use Rattle.dlms_carrier.specs.Carrying.{Call as CarrierCall, Input, Runs as CarrierRuns, Begin as BeginOf, Give, Feed as FeedOf, End}
use Rattle.dlms_carrier.specs.declared.event.Event.{Event}
use Rattle.dlms_carrier.specs.declared.event.Event.TheVariants as event
use Rattle.dlms_headend.specs.Asking.{IsBufferRequest}
use Rattle.dlms_headend.specs.CarrierPollValue.{CarrierPollValue, TermsValue}
use Rattle.dlms_headend.specs.CarrierPolling.{fresh_over}
use Rattle.dlms_headend.specs.CarrierPolling.ComesUp.{IsOpened}
use Rattle.dlms_headend.specs.CarrierPolling.{IsOdd}
use Rattle.dlms_headend.specs.CarrierPolling.Stops.{IsEnough}
use Rattle.dlms_headend.specs.CarrierPolling.TakesOver.{IsTaken}
use Rattle.dlms_headend.specs.CarrierRun.{Beside, Call, Begin, Feed, IsShare}
use Rattle.dlms_headend.specs.Due.{association_with}
use Rattle.dlms_headend.specs.Due.AsksFor.{Associates, Gets, Releases}
use Rattle.dlms_headend.specs.Poll.{Accepts, HasBlocks, HasNamed, HasPolled, HasReleased, Spells, is_release}
use Rattle.dlms_headend.specs.declared.plan.Columns.TheVariants.{Trusted}
use Rattle.dlms_headend.specs.declared.row.Row.{Row}
use Rattle.dlms_headend.specs.declared.stage.PollCourse.TheVariants.{Connecting, Running, Done}
use Rattle.dlms_headend.specs.declared.stage.Stage.TheVariants.{Getting, Releasing, Leaving}
use Rattle.dlms_headend.specs.declared.step.PollOutcome.{PollOutcome}
use Rattle.dlms_headend.specs.declared.step.PollOutcome.TheVariants as outcome
use Rattle.dlms_world.specs.Carrier.{any_carrier}

module _ (terms : TermsValue) (get one two three : List ℕ) (rows : List Row) (trusts : terms.columns ≡ Trusted) (accepts : Accepts one) (spells : Spells 0 [] two rows) (ends : is_release three ≡ true) (wanted : IsBufferRequest terms.after terms.until get) where
  -- ---- what the answers say

  pub blocks : HasBlocks terms.columns (one ∷ []) 0 []
  blocks = subst (λ c. HasBlocks c (one ∷ []) 0 []) (sym trusts) (record { response = one; names = []; blocks = []; are = refl; accepts = accepts; named = refl; come = (refl, refl) })

  pub then_rows : (apdus : List (List ℕ)) → HasBlocks terms.columns apdus 0 [] → HasNamed terms.columns (apdus ++ two ∷ []) rows
  then_rows apdus h = subst (λ c. HasNamed c (apdus ++ two ∷ []) rows) (sym trusts) (record {
    before = apdus ++ two ∷ [];
    names = [];
    are = sym (append-nil (apdus ++ two ∷ []));
    polled = record { before = apdus; answer = two; taken = 0; joined = []; are = refl; blocks = subst (λ c. HasBlocks c apdus 0 []) trusts h; spelled = spells };
    named = refl;
  })

  pub then_release : (apdus : List (List ℕ)) → HasNamed terms.columns apdus rows → HasReleased terms.columns (apdus ++ three ∷ []) rows
  then_release apdus h = record { before = apdus; answer = three; are = refl; polled = h; released = ends }

  pub then_polled : (apdus : List (List ℕ)) → HasReleased terms.columns apdus rows → HasPolled terms.columns apdus rows
  then_polled apdus h = record { before = h.before; more = h.answer ∷ []; are = h.are; polled = h.polled }

  -- ---- the calls, and the poll between them

  abbrev pub feed : PollOutcome → Call
  feed o = Feed [] 0 (Ok o)

  abbrev pub calls : List Call
  calls = Begin ∷ feed outcome.Nothing ∷ feed outcome.Nothing ∷ feed outcome.Nothing ∷ feed outcome.Nothing ∷ feed outcome.Done ∷ []

  abbrev pub Poll : Type 0
  Poll = CarrierPollValue (List ℕ)

  abbrev pub new : Poll
  new = fresh_over [] terms

  abbrev pub begun : Poll
  begun = record new { course = Connecting }

  abbrev pub up : Poll
  up = record new { course = Running }

  abbrev pub gets : Poll
  gets = record up { carrier = one; talk = record { stage = Getting 0; blocks = empty; rows = [] } }

  abbrev pub releases : Poll
  releases = record up { carrier = two; talk = record { stage = Releasing; blocks = empty; rows = rows } }

  abbrev pub leaves : Poll
  leaves = record up { carrier = three; talk = record { stage = Leaving; blocks = empty; rows = rows } }

  abbrev pub done : Poll
  done = record leaves { course = Done }

  -- ---- the carrier's calls

  abbrev pub call : Input → Event → List ℕ → CarrierCall
  call input event apdu = record { input = input; event = event; out = []; apdu = apdu }

  abbrev pub first : List CarrierCall
  first = call BeginOf event.Nothing [] ∷ []

  abbrev pub second : List CarrierCall
  second = call (FeedOf [] 0) event.Up [] ∷ call (Give (association_with terms.secret)) event.Nothing [] ∷ []

  abbrev pub third : List CarrierCall
  third = call (FeedOf [] 0) event.Apdu one ∷ call (Give get) event.Nothing one ∷ []

  abbrev pub fourth : List CarrierCall
  fourth = call (FeedOf [] 0) event.Apdu two ∷ call (Give release_request) event.Nothing two ∷ []

  abbrev pub fifth : List CarrierCall
  fifth = call (FeedOf [] 0) event.Apdu three ∷ call End event.Nothing three ∷ []

  abbrev pub last : List CarrierCall
  last = call (FeedOf [] 0) event.Down three ∷ []

  pub step : {input : Input} {event : Event} (old apdu : List ℕ) → Rattle.dlms_carrier.specs.Carrying.Does any_carrier.steps any_carrier.out_of any_carrier.apdu_of old (call input event apdu) apdu
  step old apdu = record { step = tt; out = refl; apdu = refl }

  -- ---- each call

  pub begins : IsShare any_carrier [] new Begin first begun
  begins = record {
    is_call = (refl, record { event = event.Nothing; carrier = []; begins = tt; follows = refl });
    carrier = ([], step [] [], refl);
    octets = refl;
    takes = (refl, refl);
    told = λ none. absurd none;
  }

  pub comes_up : IsShare any_carrier [] begun (feed outcome.Nothing) second up
  comes_up = record {
    is_call = λ apdus fits. record { event = event.Up; carrier = []; feeds = tt; comes = IsOpened refl (record { event = event.Nothing; carrier = []; gives = tt; after = refl }) refl };
    carrier = ([], step [] [], ([], step [] [], refl));
    octets = refl;
    takes = (refl, refl, refl);
    told = λ none. absurd none;
  }

  pub takes_one : IsShare any_carrier [] up (feed outcome.Nothing) third gets
  takes_one = record {
    is_call = λ apdus fits.
        let here : HasBlocks terms.columns (apdus ++ one ∷ []) 0 [] = subst (λ l. HasBlocks terms.columns (l ++ one ∷ []) 0 []) (sym fits.0) blocks in
        record {
          event = event.Apdu;
          carrier = one;
          feeds = tt;
          comes = IsTaken gets.talk (record { running = refl; awaits = tt }) (λ odd. let e = odd.releasing in cc) (here, record { count = refl; open_end = refl }, refl)
              (inl (record { request = get; event = event.Nothing; carrier = one; awaits = tt; asks = Gets [] here wanted; gives = tt; answer = refl; after = refl }));
        };
    carrier = (one, step [] one, (one, step one one, refl));
    octets = refl;
    takes = (blocks, record { count = refl; open_end = refl }, refl);
    told = λ none. absurd none;
  }

  pub takes_two : IsShare any_carrier (one ∷ []) gets (feed outcome.Nothing) fourth releases
  takes_two = record {
    is_call = λ apdus fits. record {
      event = event.Apdu;
      carrier = two;
      feeds = tt;
      comes = IsTaken releases.talk (record { running = refl; awaits = tt }) (λ odd. let e = odd.releasing in cc) (then_rows apdus fits.0)
          (inl (record { request = release_request; event = event.Nothing; carrier = two; awaits = tt; asks = Releases rows (then_rows apdus fits.0) refl; gives = tt; answer = refl; after = refl }));
    };
    carrier = (two, step one two, (two, step two two, refl));
    octets = refl;
    takes = then_rows (one ∷ []) blocks;
    told = λ none. absurd none;
  }

  pub takes_three : IsShare any_carrier (one ∷ two ∷ []) releases (feed outcome.Nothing) fifth leaves
  takes_three = record {
    is_call = λ apdus fits. record {
      event = event.Apdu;
      carrier = three;
      feeds = tt;
      comes = IsTaken leaves.talk (record { running = refl; awaits = tt }) (λ odd. let e = odd.other in cc (e, ends)) (then_release apdus fits)
          (inr (record { event = event.Nothing; carrier = three; released = then_release apdus fits; ends = tt; leaves = record { answer = refl; after = refl } }));
    };
    carrier = (three, step two three, (three, step three three, refl));
    octets = refl;
    takes = then_release (one ∷ two ∷ []) (then_rows (one ∷ []) blocks);
    told = λ none. absurd none;
  }

  pub goes_down : IsShare any_carrier (one ∷ two ∷ three ∷ []) leaves (feed outcome.Done) last done
  goes_down = record {
    is_call = λ apdus fits. record { event = event.Down; carrier = three; feeds = tt; comes = IsEnough (record { running = refl; late = tt }) (record { answer = refl; after = refl }) };
    carrier = (three, step three three, refl);
    octets = refl;
    takes = then_polled (one ∷ two ∷ three ∷ []) (then_release (one ∷ two ∷ []) (then_rows (one ∷ []) blocks));
    told = λ is. refl;
  }

  -- ---- all of them

  abbrev pub shares : List (List CarrierCall)
  shares = first ∷ second ∷ third ∷ fourth ∷ fifth ∷ last ∷ []

  abbrev pub poll : Beside any_carrier [] terms calls done
  poll = record {
    shares = shares;
    each = (begun, begins, (up, comes_up, (gets, takes_one, (releases, takes_two, (leaves, takes_three, (done, goes_down, refl))))));
    run = ([], step [] [], ([], step [] [], ([], step [] [], (one, step [] one, (one, step one one, (two, step one two, (two, step two two, (three, step two three, (three, step three three, (three, step three three, refl))))))))));
    turns = (Associates refl refl, (Gets [] blocks wanted, (Releases rows (then_rows (one ∷ []) blocks) refl, tt)));
    takes = then_polled (one ∷ two ∷ three ∷ []) (then_release (one ∷ two ∷ []) (then_rows (one ∷ []) blocks));
    told = λ is. refl;
    done = λ is. then_polled (one ∷ two ∷ three ∷ []) (then_release (one ∷ two ∷ []) (then_rows (one ∷ []) blocks));
  }
