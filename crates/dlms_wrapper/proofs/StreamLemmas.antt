-- A stream has one list of messages, however it is cut into pieces.
use Rattle.std.proofs.Common.{◌≡◌, ℕ, List, [], ◌∷◌, ◌++◌, refl, sym, ap, subst, ◌∙◌, append_assoc, arith, Option, Some, None, All}
use Rattle.std.proofs.lemmas.List.{append-nil}
use Rattle.std.proofs.lemmas.List.Elements.{All-cons, All-head, All-tail}
use Rattle.dlms_wrapper.specs.Message.{IsMessage, Parts, message_bytes}
use Rattle.dlms_wrapper.specs.Stream.{Call, Feeds, HasNoMessage, IsFound, Splits, bytes_of, messages_of, found_bytes, stream_of}
use Rattle.dlms_wrapper.proofs.HeaderLemmas.{one_message}

-- one call, and what the others return
one_more : (limit : ℕ) (old mid new taken : List ℕ) (found : Option Parts) (calls : List Call) → old ++ taken ≡ found_bytes found ++ mid → IsFound limit found
    → Splits limit (mid ++ bytes_of calls) (messages_of calls) new
    → Splits limit (old ++ (taken ++ bytes_of calls)) (messages_of (record { taken = taken; found = found } ∷ calls)) new
one_more limit old mid new taken None calls text fits others = record {
  text = sym (append_assoc old taken (bytes_of calls)) ∙ (ap (λ t. t ++ bytes_of calls) text ∙ others.text);
  each = others.each;
  partial = others.partial;
}
one_more limit old mid new taken (Some m) calls text fits others = record {
  text = sym (append_assoc old taken (bytes_of calls)) ∙ (ap (λ t. t ++ bytes_of calls) text ∙ (append_assoc (message_bytes m) mid (bytes_of calls) ∙ (ap (λ t. message_bytes m ++ t) others.text ∙ sym (append_assoc (message_bytes m) (stream_of (messages_of calls)) new))));
  each = All-cons (IsMessage limit) m (messages_of calls) fits others.each;
  partial = others.partial;
}

runs : (limit : ℕ) (calls : List Call) (old new : List ℕ) → HasNoMessage limit old → Feeds limit old calls new → Splits limit (old ++ bytes_of calls) (messages_of calls) new
runs limit [] old new none fed = record {
  text = append-nil old ∙ sym fed;
  each = λ k d within. absurd (omega arith);
  partial = subst (HasNoMessage limit) (sym fed) none;
}
runs limit (call ∷ calls) old new none (mid, takes, fed) =
    one_more limit old mid new call.taken call.found calls takes.text takes.message (runs limit calls mid new takes.rest fed)

no_octets : (limit : ℕ) → HasNoMessage limit []
no_octets limit m after fits e = cc

pub any_run : (limit : ℕ) (calls : List Call) (new : List ℕ) → Feeds limit [] calls new → Splits limit (bytes_of calls) (messages_of calls) new
any_run limit calls new fed = runs limit calls [] new (no_octets limit) fed

-- ---- one list

pub one_list : (limit : ℕ) (stream : List ℕ) (ms ns : List Parts) (rest left : List ℕ) → Splits limit stream ms rest → Splits limit stream ns left → (ms ≡ ns) × (rest ≡ left)
one_list limit stream [] [] rest left a b = (refl, sym a.text ∙ b.text)
one_list limit stream [] (n ∷ ns) rest left a b =
    absurd (a.partial n (stream_of ns ++ left) (All-head (IsMessage limit) n ns b.each) (sym a.text ∙ (b.text ∙ append_assoc (message_bytes n) (stream_of ns) left)))
one_list limit stream (m ∷ ms) [] rest left a b =
    absurd (b.partial m (stream_of ms ++ rest) (All-head (IsMessage limit) m ms a.each) (sym b.text ∙ (a.text ∙ append_assoc (message_bytes m) (stream_of ms) rest)))
one_list limit stream (m ∷ ms) (n ∷ ns) rest left a b =
    let e : message_bytes m ++ (stream_of ms ++ rest) ≡ message_bytes n ++ (stream_of ns ++ left) = sym (append_assoc (message_bytes m) (stream_of ms) rest) ∙ (sym a.text ∙ (b.text ∙ append_assoc (message_bytes n) (stream_of ns) left)) in
    let front = one_message m n (stream_of ms ++ rest) (stream_of ns ++ left) e in
    let others = one_list limit (stream_of ms ++ rest) ms ns rest left (record { text = refl; each = All-tail (IsMessage limit) m ms a.each; partial = a.partial }) (record { text = front.1; each = All-tail (IsMessage limit) n ns b.each; partial = b.partial }) in
    (ap (λ x. x ∷ ms) front.0 ∙ ap (λ xs. n ∷ xs) others.0, others.1)

-- ---- written messages are read again

pub written_again : (limit : ℕ) (ms : List Parts) (calls : List Call) (new : List ℕ) → All (IsMessage limit) ms → Feeds limit [] calls new → bytes_of calls ≡ stream_of ms → (messages_of calls ≡ ms) × (new ≡ [])
written_again limit ms calls new each fed e =
    one_list limit (bytes_of calls) (messages_of calls) ms new [] (any_run limit calls new fed) (record { text = e ∙ sym (append-nil (stream_of ms)); each = each; partial = no_octets limit })
