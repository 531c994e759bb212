use Rattle.std.proofs.Common.{rules, None, Some, [], length, take, drop, refl, sym, ap, subst, ◌∙◌, inl, arith}
use Rattle.std.proofs.lemmas.List.{append-nil, take-append-drop, take_all}
use Rattle.dlms_listen.specs.Line.{Line, TakesMessages}
use Rattle.dlms_listen.specs.declared.fault.Skip.TheVariants as skip
use Rattle.dlms_listen.specs.declared.carrier.Carrier.TheVariants.{Wrapper}
use Rattle.dlms_listen.specs.declared.listener.Found.TheVariants as place
use Rattle.dlms_listen.proofs.listener.Listener.feed_messages.Goals as goal

pub returns-in-Some-clause-takes : goal.returns-in-Some-clause-takes
returns-in-Some-clause-takes c =
    let read = take c.feed-count.result c.args.octets.now in
    let new : Line = record {
      carrier = Some Wrapper;
      frames = c.self.inside.deframer;
      messages = c.feed-count.new.self;
      segments = c.self.inside.segments;
      blocks = c.join_apdu-found.new.blocks;
      telegrams = c.self.inside.telegrams;
      found = c.join_apdu-found.result.0;
      skipped = c.join_apdu-found.result.1;
    } in
    subst (λ old. TakesMessages old read new) c.self.view_is (record {
      carrier = refl;
      frames = refl;
      telegrams = refl;
      limit = c.feed-count.ensures.limit;
      read = read;
      left = [];
      text = sym (append-nil read);
      takes = c.feed-count.ensures.takes;
      all = inl refl;
      segments = refl;
      blocks = search rules;
      found = search rules;
      stops = λ r. ap (λ n. take n c.args.octets.now) (c.feed-count.ensures.refused r);
      skipped = search rules;
      header = search rules;
      quiet = search rules;
    })

pub returns-then-count-gt0-clause-takes : goal.returns-then-count-gt0-clause-takes
returns-then-count-gt0-clause-takes c =
    let octets = c.args.octets.now in
    let read = take c.feed-count.result octets in
    let left = drop c.feed-count.result octets in
    let new : Line = record {
      carrier = Some Wrapper;
      frames = c.self.inside.deframer;
      messages = c.feed-count.new.self;
      segments = c.self.inside.segments;
      blocks = c.self.inside.blocks;
      telegrams = c.self.inside.telegrams;
      found = place.Nothing;
      skipped = Some (skip.Header c.in-Some-fault.fault);
    } in
    subst (λ old. TakesMessages old (take (length octets) octets) new) c.self.view_is (record {
      carrier = refl;
      frames = refl;
      telegrams = refl;
      limit = c.feed-count.ensures.limit;
      read = read;
      left = left;
      text = take_all (length octets) octets (omega arith) ∙ sym (take-append-drop c.feed-count.result octets);
      takes = c.feed-count.ensures.takes;
      all = search rules;
      segments = refl;
      blocks = search rules;
      found = search rules;
      stops = λ r. ap (λ n. take n octets) (c.feed-count.ensures.refused r);
      skipped = search rules;
      header = search rules;
      quiet = search rules;
    })

pub returns-in-None-clause-takes : goal.returns-in-None-clause-takes
returns-in-None-clause-takes c =
    let read = take c.feed-count.result c.args.octets.now in
    let new : Line = record {
      carrier = Some Wrapper;
      frames = c.self.inside.deframer;
      messages = c.feed-count.new.self;
      segments = c.self.inside.segments;
      blocks = c.self.inside.blocks;
      telegrams = c.self.inside.telegrams;
      found = place.Nothing;
      skipped = None;
    } in
    subst (λ old. TakesMessages old read new) c.self.view_is (record {
      carrier = refl;
      frames = refl;
      telegrams = refl;
      limit = c.feed-count.ensures.limit;
      read = read;
      left = [];
      text = sym (append-nil read);
      takes = c.feed-count.ensures.takes;
      all = inl refl;
      segments = refl;
      blocks = search rules;
      found = search rules;
      stops = λ r. ap (λ n. take n c.args.octets.now) (c.feed-count.ensures.refused r);
      skipped = search rules;
      header = search rules;
      quiet = search rules;
    })
