-- The calls of a listener give the APDUs of the line's messages.
use Rattle.std.proofs.Common.{◌≡◌, ◌⊎◌, ℕ, List, [], ◌∷◌, ◌++◌, length, arith, refl, sym, ap, subst, ◌∙◌, inl, inr, append_assoc, Option, Some, None, option_to_list, All}
use Rattle.std.proofs.lemmas.List.{append-nil}
use Rattle.std.proofs.lemmas.List.Elements.{All-cons, All-nil}
use Rattle.dlms_wrapper.specs.Message.{IsMessage, Parts, message_bytes}
use Rattle.dlms_wrapper.specs.Stream as messages
use Rattle.dlms_listen.specs.Joined.{Segmented}
use Rattle.dlms_transfer.specs.Blocks.{Blocked}
use Rattle.dlms_listen.specs.Line.{Line, TakesBy, TakesMessages, apdu_at, carrier_in, with_message}
use Rattle.dlms_listen.specs.Cutting.{Call, Feeds, apdus_of, apdus_of_messages, octets_of}
use Rattle.dlms_listen.specs.declared.carrier.Carrier.TheVariants.{Wrapper}
use Rattle.dlms_listen.specs.declared.listener.Found.{Found}

-- no message begins with a refused header, whatever follows
abbrev pub StaysRefused : ℕ → Type 0
StaysRefused limit = (bytes more after : List ℕ) (m : Parts) → messages.IsRefused limit bytes → IsMessage limit m
    → bytes ++ more ≡ message_bytes m ++ after → ⊥

-- octets that were taken and not read follow only a refused header
abbrev pub IsLate : ℕ → List ℕ → List ℕ → Type 0
IsLate limit bytes late = ((late ≡ []) × messages.HasNoMessage limit bytes) ⊎ messages.IsRefused limit bytes

-- the stream that is left, with the octets that come, is messages whose APDUs are these, and a rest
pub record Run (limit : ℕ) (segments : Segmented) (blocks : Blocked) (stream : List ℕ) (apdus : List (List ℕ)) : Type 0 where
  pub ms : List Parts
  pub rest : List ℕ
  pub text : stream ≡ messages.stream_of ms ++ rest
  pub each : All (IsMessage limit) ms
  pub partial : messages.HasNoMessage limit rest
  pub same : apdus ≡ apdus_of_messages segments blocks ms

abbrev apdus_from : Found → Segmented → Blocked → Option Parts → List Parts → List (List ℕ)
apdus_from found segments blocks message ms = option_to_list (apdu_at found segments.octets message blocks.octets) ++ apdus_of_messages segments blocks ms

no_more : (limit : ℕ) (bytes late : List ℕ) → StaysRefused limit → IsLate limit bytes late → messages.HasNoMessage limit (bytes ++ late)
no_more limit bytes late stays (inl none) = subst (λ xs. messages.HasNoMessage limit xs) (sym (append-nil bytes) ∙ ap (λ xs. bytes ++ xs) (sym none.0)) none.1
no_more limit bytes late stays (inr refused) = λ m after fits e. stays bytes late after m refused fits e

-- what a call read, if it found this message or none, and the run after it
one_more : (limit : ℕ) (segments next_segments : Segmented) (blocks next_blocks : Blocked) (found : Found) (message : Option Parts)
    (stream next : List ℕ) (apdus : List (List ℕ))
    → messages.IsFound limit message → stream ≡ messages.found_bytes message ++ next
    → next_segments ≡ segments → next_blocks ≡ (with_message segments blocks message).blocks → found ≡ (with_message segments blocks message).found
    → Run limit next_segments next_blocks next apdus
    → Run limit segments blocks stream (option_to_list (apdu_at found next_segments.octets message next_blocks.octets) ++ apdus)
one_more limit segments next_segments blocks next_blocks found None stream next apdus is_found text s b f run = record {
  ms = run.ms;
  rest = run.rest;
  text = text ∙ run.text;
  each = run.each;
  partial = run.partial;
  same = ap (λ xs. option_to_list (apdu_at found next_segments.octets None next_blocks.octets) ++ xs) run.same
      ∙ ap (λ x. apdus_from x next_segments next_blocks None run.ms) f
      ∙ ap (λ x. apdus_of_messages x next_blocks run.ms) s ∙ ap (λ x. apdus_of_messages segments x run.ms) b;
}
one_more limit segments next_segments blocks next_blocks found (Some m) stream next apdus is_found text s b f run = record {
  ms = m ∷ run.ms;
  rest = run.rest;
  text = text ∙ ap (λ xs. message_bytes m ++ xs) run.text ∙ sym (append_assoc (message_bytes m) (messages.stream_of run.ms) run.rest);
  each = All-cons (IsMessage limit) m run.ms is_found run.each;
  partial = run.partial;
  same = ap (λ xs. option_to_list (apdu_at found next_segments.octets (Some m) next_blocks.octets) ++ xs) run.same
      ∙ ap (λ x. apdus_from x next_segments next_blocks (Some m) run.ms) f
      ∙ ap (λ x. apdus_from (with_message segments blocks (Some m)).found x next_blocks (Some m) run.ms) s
      ∙ ap (λ x. apdus_from (with_message segments blocks (Some m)).found segments x (Some m) run.ms) b;
}

four : (a b c d : List ℕ) → (a ++ []) ++ ((b ++ c) ++ d) ≡ (a ++ b) ++ (c ++ d)
four a b c d = ap (λ x. x ++ ((b ++ c) ++ d)) (append-nil a) ∙ ap (λ x. a ++ x) (append_assoc b c d) ∙ sym (append_assoc a b (c ++ d))

late_after : (limit : ℕ) (next left : List ℕ) → messages.HasNoMessage limit next → (left ≡ []) ⊎ messages.IsRefused limit next → IsLate limit next left
late_after limit next left none (inl nil) = inl (nil, none)
late_after limit next left none (inr refused) = inr refused

-- no octets begin with no message
pub nothing_begins : (limit : ℕ) → messages.HasNoMessage limit []
nothing_begins limit m after fits e = absurd (omega (arith, ap length e))

-- the stream before a call is the message that it found, and the stream after it
text_of : (limit : ℕ) (bytes late read left more next : List ℕ) (message : Option Parts) → StaysRefused limit → IsLate limit bytes late
    → (messages.IsRefused limit bytes → read ≡ []) → messages.Takes limit bytes (record { taken = read; found = message }) next
    → (left ≡ []) ⊎ messages.IsRefused limit next
    → (late' : List ℕ) × IsLate limit next late' × ((bytes ++ late) ++ ((read ++ left) ++ more) ≡ messages.found_bytes message ++ ((next ++ late') ++ more))
text_of limit bytes late read left more next message stays (inl none) stops takes all = (
  left,
  late_after limit next left takes.rest all,
  ap (λ x. (bytes ++ x) ++ ((read ++ left) ++ more)) none.0 ∙ four bytes read left more
      ∙ ap (λ x. x ++ (left ++ more)) takes.text
      ∙ append_assoc (messages.found_bytes message) next (left ++ more)
      ∙ ap (λ x. messages.found_bytes message ++ x) (sym (append_assoc next left more)),
)
text_of limit bytes late read left more next (Some m) stays (inr refused) stops takes all = absurd (stays bytes read next m refused takes.message takes.text)
text_of limit bytes late read left more next None stays (inr refused) stops takes all =
    let same : bytes ≡ next = sym (append-nil bytes) ∙ ap (λ x. bytes ++ x) (sym (stops refused)) ∙ takes.text in (
      late ++ left,
      inr (subst (λ x. messages.IsRefused limit x) same refused),
      ap (λ x. (bytes ++ late) ++ ((x ++ left) ++ more)) (stops refused)
          ∙ sym (append_assoc (bytes ++ late) left more)
          ∙ ap (λ x. x ++ more) (append_assoc bytes late left)
          ∙ ap (λ x. (x ++ (late ++ left)) ++ more) same,
    )

pub message_calls : (calls : List Call) (old new : Line) (late : List ℕ) (limit : ℕ) → old.carrier ≡ Some Wrapper → old.messages.limit ≡ limit
    → StaysRefused limit → IsLate limit old.messages.bytes late → Feeds old calls new
    → Run limit old.segments old.blocks ((old.messages.bytes ++ late) ++ octets_of calls) (apdus_of calls)
message_calls [] old new late limit wrapper is_limit stays is_late fed = record {
  ms = [];
  rest = old.messages.bytes ++ late;
  text = append-nil (old.messages.bytes ++ late);
  each = All-nil (IsMessage limit);
  partial = no_more limit old.messages.bytes late stays is_late;
  same = refl;
}
message_calls (call ∷ calls) old new late limit wrapper is_limit stays is_late (mid, takes, apdu, fed) =
    let t : TakesMessages old call.taken mid = subst (λ k. TakesBy (carrier_in k call.taken) old call.taken mid) wrapper takes in
    let next_limit : mid.messages.limit ≡ limit = t.limit ∙ is_limit in
    let read : messages.Takes limit old.messages.bytes (record { taken = t.read; found = mid.messages.message }) mid.messages.bytes =
    subst (λ n. messages.Takes n old.messages.bytes (record { taken = t.read; found = mid.messages.message }) mid.messages.bytes) is_limit t.takes in
    let stops : messages.IsRefused limit old.messages.bytes → t.read ≡ [] = subst (λ n. messages.IsRefused n old.messages.bytes → t.read ≡ []) is_limit t.stops in
    let all : (t.left ≡ []) ⊎ messages.IsRefused limit mid.messages.bytes = subst (λ n. (t.left ≡ []) ⊎ messages.IsRefused n mid.messages.bytes) next_limit t.all in
    let after = text_of limit old.messages.bytes late t.read t.left (octets_of calls) mid.messages.bytes mid.messages.message stays is_late stops read all in
    let text : (old.messages.bytes ++ late) ++ (call.taken ++ octets_of calls) ≡ messages.found_bytes mid.messages.message ++ ((mid.messages.bytes ++ after.0) ++ octets_of calls) =
    ap (λ x. (old.messages.bytes ++ late) ++ (x ++ octets_of calls)) t.text ∙ after.2 in
    let run = message_calls calls mid new after.0 limit t.carrier next_limit stays after.1 fed in
    subst (λ a. Run limit old.segments old.blocks ((old.messages.bytes ++ late) ++ (call.taken ++ octets_of calls)) (option_to_list a ++ apdus_of calls)) (sym apdu)
    (one_more limit old.segments mid.segments old.blocks mid.blocks mid.found mid.messages.message _ _ (apdus_of calls) read.message text t.segments t.blocks t.found run)
