-- Paths and queries as text: from the two promises, the identity on texts and what the new packet means.
use Prim.Native.Nat.{ℕ, ◌+◌, ◌≤◌}
use mathlib.Core.Path.{◌≡◌, refl, sym, ap, subst, ◌∙◌}
use mathlib.Core.List.{List, [], ◌∷◌, map}
use native.Mathlib.Omega.{arith}
use lib.ListN.{length, take}
use borrow.Author.Tests.{le-ltb}
use Rattle.std.specs.Prelude.{Result, Ok, Err}
use Rattle.ground.specs.Part.{Bytes}
use Rattle.ground.proofs.Choice.{on, on_lt, on_le, on_eq}
use Rattle.ground.proofs.Part.{bytes_take, bytes_drop}
use Rattle.rfc.specs.Message.{Message}
use Rattle.rfc.specs.Percent.{Read, good, bad_text, bad_option}
use Rattle.rfc.specs.Target.{Target, Values, values, target_of, options_of, text_of, spelt}
use Rattle.rfc.proofs.Target.{target_back, written_spelt}
use Rattle.uri_text.specs.Sayable.{SayableTarget}
use Rattle.uri_text.proofs.Said.{says as says-sayable}
use Rattle.refusal.specs.Answer.{Answer, given, onward, written, fitted, after}
use Rattle.refusal.specs.Number.{number_of}
use Rattle.refusal.specs.declared.Fault.{Fault}
use Rattle.refusal.specs.declared.Fault.TheVariants.{Refused, BadOption}
use Rattle.refusal.proofs.Answers.{not_refused}
use Rattle.refusal.proofs.Distinct.{distinct, one_written}
use Rattle.refusal.proofs.Fitted.{front_after}
use Rattle.refusal.specs.declared.Refusal.{Refusal}
use Rattle.packet.specs.Limits.{max_store, max_options}
use Rattle.packet.specs.Packet.{Stores, stores, store_of as homeStore, new_packet, bytes_in, records_of}
use Rattle.packet.specs.Meaning.{option_of, meaning}
use Rattle.packet.specs.declared.Packet.{Packet}
use Rattle.packet.specs.declared.Home.{Home}
use Rattle.packet.specs.declared.Home.TheVariants.{Datagram, Edits}
use Rattle.packet.specs.declared.OptionRecord.{OptionRecord}
use Rattle.judging.specs.Judge.{lengths_of, is_too_long, bad_packet}
use Rattle.uri_text.specs.Reading.{reading}
use Rattle.uri_text.specs.Judging.{judged_read}
use Rattle.uri_text.specs.Tally.{Tally, total, tallied}
use Rattle.uri_text.specs.declared.BadPart.TheVariants.{Text as NoText, Option as NoOption}
use Rattle.uri_text.proofs.Identity.{identity, stable}
use Rattle.target_writing.specs.ToText.{text_in, writable}
use Rattle.target_reading.specs.FromText.{Reply, passes, refused, refused_at, placed, reply_to, packet_for, packet_of, packet_read, store_of, bare, told, FromText}
use Rattle.target_reading.proofs.Meaning.{options_are}
use Rattle.guarantees.proofs.Refusals.{output_kept, not_err}
use Rattle.transfer_guarantees.specs.Targets.{target_in, WritesText, WritesSpelt, new_message, MeansTarget, HasRoom, Identity, Stable, TextKept, StoreKept, OneText, OneTarget, StableCalls, TextLeaves, ToldApart}
use Rattle.guarantees.proofs.Homes.{frozen_stays}
use Rattle.guarantees.specs.Apart.{TellsApart}

-- Where something is written, it is the text.
was_text : (s : Stores) (p : Packet) (a : Answer (List ℕ)) (n : ℕ) (old : List ℕ) → a ≡ writable s p → onward a (fitted (length old)) ≡ given n → a ≡ given (text_in s p)
unfolding writable
was_text s p a n old e g =
    on (λ (x : Answer (List ℕ)). a ≡ x → a ≡ given (text_in s p)) (is_too_long (lengths_of s))
    (λ _ q. not_refused (sym (ap (λ (x : Answer (List ℕ)). onward x (fitted (length old))) (sym q) ∙ g)))
    (λ _. on (λ (x : Answer (List ℕ)). a ≡ x → a ≡ given (text_in s p)) (bad_packet (lengths_of s) p)
    (λ _ q. not_refused (sym (ap (λ (x : Answer (List ℕ)). onward x (fitted (length old))) (sym q) ∙ g))) (λ _ q. q)) e

pub writes_text : WritesText
unfolding text_in
writes_text s p old r new n w is =
    let g : onward (writable s p) (fitted (length old)) ≡ given n = sym w.answer ∙ ap written is in
    let a : writable s p ≡ given (text_in s p) = was_text s p (writable s p) n old refl g in
    let f : fitted (length old) (text_in s p) ≡ given n = ap (λ (x : Answer (List ℕ)). onward x (fitted (length old))) (sym a) ∙ g in
    ap (take n) (w.output ∙ ap (λ (x : Answer (List ℕ)). after (onward x (fitted (length old))) 0 (text_in s p) old) a)
    ∙ front_after old (text_in s p) n f

-- The values of a packet are bytes where its stores are.
value_bytes : (s : List ℕ) (start len : ℕ) → Bytes s → Bytes (bytes_in s start len)
unfolding bytes_in
value_bytes s start len b = on_le Bytes (start + len) (length s) (λ _. bytes_take len _ (bytes_drop start s b)) (λ _. tt)

home_bytes : (s : Stores) (h : Home) → Bytes s.datagram → Bytes s.edits → Bytes (homeStore s h)
home_bytes s Datagram d e = d
home_bytes s Edits d e = e

values_bytes : (s : Stores) (n : ℕ) (rs : List OptionRecord) → Bytes s.datagram → Bytes s.edits → Values (values n (map (option_of s) rs))
values_bytes s n [] d e = tt
values_bytes s n (r ∷ rs) d e =
    on_eq Values r.number n
    (λ _. (value_bytes (homeStore s r.home) r.start r.len (home_bytes s r.home d e), values_bytes s n rs d e))
    (λ _. values_bytes s n rs d e)

pub writes_spelt : WritesSpelt
writes_spelt s p old r new n d e w is =
    ap (spelt 0) (writes_text s p old r new n w is)
    ∙ written_spelt (target_in s p) (values_bytes s 11 (records_of p) d e) (values_bytes s 15 (records_of p) d e)

-- A reply that passes.
no_pass : {A : Type 0} {a : A} {k : ℕ} {C : Type 0} → refused k ≡ passes a → C
no_pass e = absurd (let z : ◌≡◌ {A = ℕ} 0 1 = cc in omega arith)

no_pass_at : {A : Type 0} {a : A} {k i : ℕ} {C : Type 0} → refused_at k i ≡ passes a → C
no_pass_at e = absurd (let z : ◌≡◌ {A = ℕ} 0 1 = cc in omega arith)

passed : (a : Reply Target) → passes tt ≡ bare a → (t : Target) × (a ≡ passes t)
passed (passes t) e = (t, refl)
passed (refused k) e = no_pass (sym e)
passed (refused_at k i) e = no_pass_at (sym e)

same_passes : {A : Type 0} {a b : A} → passes a ≡ passes b → a ≡ b
same_passes e = cc

-- What a text says that passes, and the room for it.
says : (store : List ℕ) (start : ℕ) (s : List ℕ) (t : Target) → reply_to (length store) start s ≡ passes t → (reading s ≡ good t) × HasRoom t start store
unfolding reply_to
says store start s t e =
    on_lt (λ (a : Reply Target). a ≡ passes t → (reading s ≡ good t) × HasRoom t start store) max_store (length store)
    (λ _ q. no_pass q) (λ short q. by (reading s) refl short q) e
  where
    by : (r : Read Target) → reading s ≡ r → length store ≤ max_store → placed (length store) start r ≡ passes t → (reading s ≡ good t) × HasRoom t start store
    by (good u) is short q =
        on_lt (λ (a : Reply Target). a ≡ passes t → (reading s ≡ good t) × HasRoom t start store) max_options (length u.path + length u.query)
        (λ _ q₂. no_pass q₂)
        (λ few. on_lt (λ (a : Reply Target). a ≡ passes t → (reading s ≡ good t) × HasRoom t start store) (length store) (start + (total u.path + total u.query))
        (λ _ q₂. no_pass q₂)
        (λ room q₂. subst (λ (x : Target). (reading s ≡ good x) × HasRoom x start store) (same_passes q₂) (is, record { short = short; few = few; room = room }))) q
    by bad_text is short q = no_pass q
    by (bad_option i) is short q = no_pass_at q

-- The range of no bytes.
no_bytes : (s : List ℕ) → bytes_in s 0 0 ≡ []
unfolding bytes_in
no_bytes s = on_le (λ (x : List ℕ). x ≡ []) (0 + 0) (length s) (λ _. refl) (λ _. refl)

-- The packet for a target, over the store that holds its values, means the new message with its options.
new_with : (d old : List ℕ) (start : ℕ) (t : Target) → length t.path + length t.query ≤ max_options → start + (total t.path + total t.query) ≤ length old → meaning (stores d (store_of start (passes t) old)) (packet_for start t) ≡ new_message (options_of t)
unfolding new_packet packet_for
new_with d old start t few room =
    let os = options_are start t few d old room in
    λ i. record { version = 1; type = 0; code = 1; id = 0; token = no_bytes d i; options = os i; payload = no_bytes d i }

pub means_target : MeansTarget
means_target s start old r new w q is =
    let f = passed (reply_to (length old) start s) (sym (ap told is) ∙ w.outcome) in
    let t : Target = f.0 in
    let g = says old start s t f.1 in
    let p : q ≡ packet_for start t = sym (ap packet_read is) ∙ (w.packet ∙ ap (packet_of start) f.1) in
    let n = w.store ∙ ap (λ (a : Reply Target). store_of start a old) f.1 in (
      t,
      g.0,
      λ d.
          ap (λ (x : Packet). meaning (stores d new) x) p
          ∙ (ap (λ (x : List ℕ). meaning (stores d x) (packet_for start t)) n ∙ new_with d old start t g.1.few g.1.room),
    )

told_passes : (r : Result Packet Fault) → told r ≡ passes tt → (p : Packet) × (r ≡ Ok p)
told_passes (Ok p) e = (p, refl)
told_passes (Err (Refused k)) e = no_pass e
told_passes (Err (BadOption i)) e = no_pass_at e

same_good : {A : Type 0} {a b : A} → good a ≡ good b → a ≡ b
same_good e = cc

-- A text that says a target passes where there is room for it.
has_passed : (store : List ℕ) (start : ℕ) (s : List ℕ) (t : Target) → reading s ≡ good t → HasRoom t start store → reply_to (length store) start s ≡ passes t
unfolding reply_to
has_passed store start s t e h =
    rw (le-ltb max_store (length store) h.short, e, le-ltb max_options (length t.path + length t.query) h.few, le-ltb (length store) (start + (total t.path + total t.query)) h.room)
    refl

pub identity_holds : Identity
identity_holds s p old r new n w is sayable start old₂ room r₂ new₂ back =
    let t : Target = target_in s p in
    let text : FromText (text_of t) start old₂ r₂ new₂ = subst (λ (x : List ℕ). FromText x start old₂ r₂ new₂) (writes_text s p old r new n w is) back in
    let reads : reading (text_of t) ≡ good t = identity t sayable in
    let reply = has_passed old₂ start (text_of t) t reads room in
    let done = told_passes r₂ (text.outcome ∙ ap bare reply) in
    let m = means_target (text_of t) start old₂ r₂ new₂ text done.0 done.1 in
    let same : m.0 ≡ t = same_good (sym m.1 ∙ reads) in
    (done.0, done.1, λ d. ap (λ (x : Message). target_of x.options) (m.2 d) ∙ (target_back m.0 ∙ same))

pub stable_holds : Stable
stable_holds = stable

pub stable_calls : StableCalls
stable_calls s start old r new from p is d old₂ w text n to length_is start₃ old₃ room q new₃ back =
    let m = means_target s start old r new from p is in
    let same : target_in (stores d new) p ≡ m.0 = ap (λ (x : Message). target_of x.options) (m.2 d) ∙ target_back m.0 in
    identity_holds (stores d new) p old₂ w text n to length_is (subst SayableTarget (sym same) (says-sayable s m.0 m.1)) start₃ old₃ room q new₃ back

pub text_leaves : TextLeaves
text_leaves datagram text start old r new promise range e = frozen_stays datagram old new range e

pub text_kept : TextKept
text_kept s p old r new w e is = output_kept (onward (writable s p) (fitted (length old))) 0 (text_in s p) old r new w.answer w.output e is

pub store_kept : StoreKept
store_kept s start old r new w f is = by (reply_to (length old) start s) refl
  where
    by : (a : Reply Target) → reply_to (length old) start s ≡ a → (new ≡ old) × (packet_read r ≡ new_packet)
    by (passes t) e = not_err (sym (told_passes r (w.outcome ∙ ap bare e)).1 ∙ is)
    by (refused k) e = (w.store ∙ ap (λ (a : Reply Target). store_of start a old) e, w.packet ∙ ap (packet_of start) e)
    by (refused_at k i) e = (w.store ∙ ap (λ (a : Reply Target). store_of start a old) e, w.packet ∙ ap (packet_of start) e)

pub one_text : OneText
one_text s p old r q new also w v = (one_written r q (w.answer ∙ sym v.answer), w.output ∙ sym v.output)

one_told : (r q : Result Packet Fault) → told r ≡ told q → packet_read r ≡ packet_read q → r ≡ q
one_told (Ok a) (Ok b) e p = ap Ok p
one_told (Ok a) (Err (Refused k)) e p = no_pass (sym e)
one_told (Ok a) (Err (BadOption i)) e p = no_pass_at (sym e)
one_told (Err (Refused j)) (Ok b) e p = no_pass e
one_told (Err (Refused j)) (Err (Refused k)) e p = let n : number_of j ≡ number_of k = cc in ap (λ (x : Refusal). Err (Refused x)) (distinct j k n)
one_told (Err (Refused j)) (Err (BadOption i)) e p = let z : ◌≡◌ {A = ℕ} 0 1 = cc in absurd (omega arith)
one_told (Err (BadOption i)) (Ok b) e p = no_pass_at e
one_told (Err (BadOption i)) (Err (Refused k)) e p = let z : ◌≡◌ {A = ℕ} 0 1 = cc in absurd (omega arith)
one_told (Err (BadOption i)) (Err (BadOption j)) e p = let n : i ≡ j = cc in ap (λ (x : ℕ). Err (BadOption x)) n

pub one_target : OneTarget
one_target s start old r q new also w v = (one_told r q (w.outcome ∙ sym v.outcome) (w.packet ∙ sym v.packet), w.store ∙ sym v.store)

one_uri_part : TellsApart judged_read
one_uri_part (Ok m) (Ok n) e = cc
one_uri_part (Ok m) (Err NoText) e = cc
one_uri_part (Ok m) (Err (NoOption j)) e = cc
one_uri_part (Err NoText) (Ok n) e = cc
one_uri_part (Err NoText) (Err NoText) e = refl
one_uri_part (Err NoText) (Err (NoOption j)) e = cc
one_uri_part (Err (NoOption i)) (Ok n) e = cc
one_uri_part (Err (NoOption i)) (Err NoText) e = cc
one_uri_part (Err (NoOption i)) (Err (NoOption j)) e = cc

one_uri_text : TellsApart tallied
one_uri_text (Ok a) (Ok b) e =
    let k : ◌≡◌ {A = Tally} (record { count = a.count; bytes = a.bytes }) (record { count = b.count; bytes = b.bytes }) = same_good e in
    λ i. Ok (record { count = (k i).count; bytes = (k i).bytes })
one_uri_text (Ok a) (Err NoText) e = cc
one_uri_text (Ok a) (Err (NoOption j)) e = cc
one_uri_text (Err NoText) (Ok b) e = cc
one_uri_text (Err NoText) (Err NoText) e = refl
one_uri_text (Err NoText) (Err (NoOption j)) e = cc
one_uri_text (Err (NoOption i)) (Ok b) e = cc
one_uri_text (Err (NoOption i)) (Err NoText) e = cc
one_uri_text (Err (NoOption i)) (Err (NoOption j)) e = cc

pub told_apart : ToldApart
told_apart =
    record {
      uri_parts = one_uri_part;
      uri_texts = one_uri_text;
    }
