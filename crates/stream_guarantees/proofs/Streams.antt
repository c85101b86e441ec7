-- Streams: what is read, and that freezing and thawing undo each other.
use Prim.Native.Nat.{ℕ, ◌+◌, ◌*◌, ◌<◌, ◌≤◌}
use mathlib.Core.Path.{◌≡◌, refl, sym, ap, subst, ◌∙◌}
use mathlib.Core.Bool.{true}
use mathlib.Core.List.{List, [], ◌∷◌, ◌++◌, map, append_assoc}
use native.Mathlib.Nat.{zero-add, add-zero}
use native.Mathlib.Omega.{arith}
use lib.ListN.{length, take, drop, length-append}
use lib.Seq.{sets, length-sets, take-append_seam, take_at, drop-append_seam, drop-append-add}
use borrow.Author.Tests.{le-ltb}
use Rattle.std.specs.Prelude.{Result, Ok, Err}
use Rattle.ground.proofs.Choice.{on_lt}
use Rattle.ground.proofs.Part.{put_front, sets_append}
use Rattle.rfc.specs.Message.{WellFormed, layout}
use Rattle.refusal.specs.Answer.{Answer, given, refused, onward, written, after, room_from}
use Rattle.refusal.specs.declared.Refusal.TheVariants.{BadFreeze}
use Rattle.refusal.proofs.Answers.{not_refused, same_given, same_refused, onward_given, on_given, on_refused}
use Rattle.refusal.proofs.Distinct.{distinct, one_written}
use Rattle.refusal.specs.declared.Refusal.{Refusal}
use Rattle.packet.specs.Limits.{full_size, max_store}
use Rattle.packet.specs.Packet.{Stores, stores}
use Rattle.packet.specs.Meaning.{meaning}
use Rattle.packet.specs.Shape.{Shaped}
use Rattle.packet.specs.declared.Packet.{Packet}
use Rattle.judging.specs.Judge.{is_too_long}
use Rattle.reading.specs.Reading.{reading}
use Rattle.reading.proofs.Accept.{accepted}
use Rattle.reading.proofs.Complete.{reads_layout}
use Rattle.reading.proofs.Kept.{Kept, kept}
use Rattle.reading.proofs.Taken.{Taken, taken}
use Rattle.measuring.specs.declared.Limit.TheVariants.{Given}
use Rattle.writing.specs.Writing.{writing, bytes_written, Held}
use Rattle.writing.proofs.Sizes.{message_length}
use Rattle.writing.proofs.Strict.{Writable, strict_writes, strict_written}
use Rattle.stream.specs.declared.Form.{Form}
use Rattle.stream.specs.declared.Step.{Step}
use Rattle.stream.specs.declared.Tally.{Tally as Told}
use Rattle.stream.specs.Answers.{Extent, Tally, step_read, judged as streamJudged}
use Rattle.stream.specs.Stream.{Frozen, Sized, AllSized, message_of, stream_of, datagrams_of}
use Rattle.stream.specs.Messages.{thawed}
use Rattle.stream.proofs.Complete.{parts}
use Rattle.stream.proofs.Exact.{exact, stream_append, Only19}
use Rattle.stream.proofs.Sizes.{message_size_lem}
use Rattle.thawing.specs.Thawing.{all_strict, strict, thawed_strictly, Counts, counts_of, strictly_in, Strictly, entries, listed, thawing, Thaws}
use Rattle.thawing.specs.declared.Strict.{Strict}
use Rattle.thawing.proofs.Apart.{standing_judged}
use Rattle.thawing.proofs.Thawed.{Counted, counted, thawed_of, strict_same}
use Rattle.thawing.proofs.Listing.{entries_length}
use Rattle.freezing.specs.Freezing.{frozen_in, strict_datagram, freezing, Freezes}
use Rattle.freezing.proofs.Full.{never_twelve}
use Rattle.stream_guarantees.specs.StreamOf.{AllAccepted, IsStreamOf}
use Rattle.stream_guarantees.specs.Streams.{JudgedInPlace, JudgedExactly, OneList, Roomy, Holds, ThawsExactly, Thawing, Appended, Item, AllProper, message_for, InTurn, FrozenThenThawed, ThawedThenFrozen, RoomOfTheStream, NoStream, PeersAt, MessageSizes, Comes, AllCome, StreamAgain, StreamKept, ToldApart, OneThawing, OneFreezing}
use Rattle.guarantees.specs.Apart.{TellsApart}
use Rattle.guarantees.proofs.StrictReading.{done}
use Rattle.guarantees.proofs.Refusals.{output_kept, said_apart}

pub judged_in_place : JudgedInPlace
judged_in_place form before after m r z p =
    let s : List ℕ = before ++ (message_of form m ++ after) in
    let k = parts form s (length before) m after (omega (arith, length-append before (message_of form m ++ after))) z.peer (drop-append_seam before (message_of form m ++ after)) in
    p ∙ standing_judged form s (length before + 19) (length m.datagram) m.datagram refl (λ _. record { rest = 3 ∷ after; inside = k.inside; bytes = k.chunks })

-- A list is strict exactly when each datagram is accepted.
pub all_strict_lem : (l : List Frozen) → AllAccepted l → all_strict l ≡ given tt
all_strict_lem [] a = refl
all_strict_lem (m ∷ l) a = rw a.0.1 (all_strict_lem l a.1)

all_by : (m : Frozen) (l : List Frozen) (a : Answer Packet) → reading true m.datagram ≡ a → (all_strict l ≡ given tt → AllAccepted l) → onward a (λ p. all_strict l) ≡ given tt → AllAccepted (m ∷ l)
all_by m l (given p) q f e = ((p, q), f e)
all_by m l (refused k) q f e = not_refused (sym e)

pub all_accepted : (l : List Frozen) → all_strict l ≡ given tt → AllAccepted l
all_accepted [] e = tt
all_accepted (m ∷ l) e = all_by m l (reading true m.datagram) refl (all_accepted l) e

strict_by : (l v : List Frozen) (a : Answer (Unit {0})) → onward a (λ _. given l) ≡ given v → a ≡ given tt
strict_by l v (given u) e = refl
strict_by l v (refused k) e = not_refused (sym e)

strict_given : (l v : List Frozen) → strict l ≡ given v → all_strict l ≡ given tt
unfolding strict
strict_given l v e = strict_by l v (all_strict l) e

given_strict : (l : List Frozen) → AllAccepted l → strict l ≡ given l
unfolding strict
given_strict l a = rw (all_strict_lem l a) refl

module _ (form : Form) (s : List ℕ) where
  -- What is read strictly is the stream of such a list, and the other way round.
  pub is_stream : (l : List Frozen) → thawed_strictly form s ≡ given l → IsStreamOf form s l
  is_stream l e =
      let h = (exact form).sound s l (thawed_of form s l e) in
      let o = onward_given (thawed form s) strict l e in
      let same : o.0 ≡ l = strict_same o.0 l o.2 in
      record { sized = h.1; accepted = all_accepted l (strict_given l l (rw same at o.2)); bytes = h.0 }

  pub of_stream : (l : List Frozen) → IsStreamOf form s l → thawed_strictly form s ≡ given l
  of_stream l i =
      let t : thawed form s ≡ given l = ap (thawed form) i.bytes ∙ (exact form).complete l i.sized in
      ap (λ (a : Answer (List Frozen)). onward a strict) t ∙ given_strict l i.accepted

pub one_list : OneList
one_list form s l m i j = (exact form).unique l m i.sized j.sized (sym i.bytes ∙ j.bytes)

judged_by : (form other : Form) (s : List ℕ) (r : Result Strict Refusal) → Strictly form other s r → (l : List Frozen) → thawed_strictly form s ≡ given l → (t : Strict) × (r ≡ Ok t)
judged_by form other s (Ok t) p l e = (t, refl)
judged_by form other s (Err k) p l e = not_refused (sym (p ∙ ap (counts_of other) e))

pub judged_exactly : JudgedExactly
judged_exactly form other s r p = (
  λ x. let t : Strict = x.0 in let c : Counted form other s t.count t.bytes t.chunks = counted form other s t.count t.bytes t.chunks (sym (ap strictly_in x.1) ∙ p) in (c.messages, is_stream form s c.messages c.are),
  λ x. judged_by form other s r p x.0 (of_stream form s x.0 x.1),
)

-- A refusal that is 19 is BadFreeze.
pub is_19 : (r : Result Strict Refusal) → strictly_in r ≡ refused 19 → r ≡ Err BadFreeze
is_19 (Ok t) e = not_refused e
is_19 (Err x) e = ap Err (distinct x BadFreeze (same_refused e))

-- Bytes that are no stream of a form aren't read in it.
pub not_thawed : (form : Form) (s : List ℕ) → ((l : List Frozen) → AllSized l → s ≡ stream_of form l → ⊥) → thawed form s ≡ refused 19
not_thawed form s none = by (thawed form s) refl ((exact form).refusal s)
  where
    by : (a : Answer (List Frozen)) → thawed form s ≡ a → Only19 a → thawed form s ≡ refused 19
    by (given l) e o = let h = (exact form).sound s l e in absurd (none l h.1 h.0)
    by (refused k) e o = e ∙ ap refused o

pub no_stream : NoStream
no_stream form other s r p none =
    is_19 r (p ∙ ap (λ (a : Answer (List Frozen)). counts_of other (onward a strict)) (not_thawed form s none))

pub message_sizes : MessageSizes
message_sizes = message_size_lem

-- The peers of a list's stream behind other bytes.
peers_from : (form : Form) (front : List ℕ) (l : List Frozen) → AllSized l → PeersAt form (front ++ stream_of form l) (length front) l
unfolding message_of
peers_from form front [] a = tt
peers_from form front (m ∷ l) a =
    let one : List ℕ = message_of form m in
    let rest : List ℕ = stream_of form l in
    let later : PeersAt form (front ++ (one ++ rest)) (length front + length one) l =
    subst (λ (k : ℕ). PeersAt form (front ++ (one ++ rest)) k l) (length-append front one)
    (subst (λ (s : List ℕ). PeersAt form s (length (front ++ one)) l) (append_assoc front one rest) (peers_from form (front ++ one) l a.1)) in
    let here : take 18 (drop (length front + 1) (front ++ (one ++ rest))) ≡ m.peer =
    ap (take 18) (drop-append-add front (one ++ rest) 1 ∙ append_assoc m.peer _ rest) ∙ take_at m.peer _ 18 a.0.peer in
    (here, later)

module _ (form : Form) (s oldList oldOut : List ℕ) (r : Result ℕ Refusal) (newList newOut : List ℕ) (promise : Thaws form s oldList oldOut r newList newOut) where
  holds : (l : List Frozen) → IsStreamOf form s l → Roomy l oldList oldOut → Holds form l oldList oldOut r newList newOut
  unfolding thawing listed
  holds l i room =
      let e = of_stream form s l i in
      let t : thawed form s ≡ given l = thawed_of form s l e in
      let a : thawing form (length oldList) (length oldOut) s ≡ given (length l) =
      rw (e, le-ltb (length oldList) (3 * length l) room.places, le-ltb (length oldOut) (length (datagrams_of l)) room.room) refl in
      let n = entries_length form 0 0 l in
      record {
        answer = one_written r (Ok (length l)) (promise.answer ∙ a);
        list = promise.list ∙ (rw (a, t) (put_front oldList (entries form 0 0 l) (omega (arith, n, room.places)) ∙ ap (λ (k : ℕ). entries form 0 0 l ++ drop k oldList) n));
        output = promise.output ∙ (rw (a, t) (put_front oldOut (datagrams_of l) room.room));
      }

  fits_by : (n : ℕ) (l : List Frozen) → listed (length oldList) (length oldOut) l ≡ given n → Roomy l oldList oldOut
  unfolding listed
  fits_by n l =
      let P : Answer ℕ → Type 0 = λ a. a ≡ given n → Roomy l oldList oldOut in
      on_lt P (length oldList) (3 * length l) (λ h e. not_refused (sym e))
      (λ h. on_lt P (length oldOut) (length (datagrams_of l)) (λ k e. not_refused (sym e)) (λ k e. record { places = h; room = k }))

  read_as : (n : ℕ) → r ≡ Ok n → (l : List Frozen) × IsStreamOf form s l × Roomy l oldList oldOut
  unfolding thawing
  read_as n e =
      let o = onward_given (thawed_strictly form s) (listed (length oldList) (length oldOut)) n (sym promise.answer ∙ ap written e) in
      (o.0, is_stream form s o.0 o.1, fits_by n o.0 o.2)

  thaws_exactly : ThawsExactly form s oldList oldOut r newList newOut
  thaws_exactly =
      record {
        holds = holds;
        peers = λ l i. subst (λ (t : List ℕ). PeersAt form t 0 l) (sym i.bytes) (peers_from form [] l i.sized);
        exactly = (λ x. read_as x.0 x.1, λ x. (length x.0, (holds x.0 x.1 x.2).answer));
      }

pub thawing_exactly : Thawing
thawing_exactly form s oldList oldOut r newList newOut p = thaws_exactly form s oldList oldOut r newList newOut p

pub appended : Appended
appended form l m = stream_append form l m

-- An item that was frozen.
record Froze (form : Form) (i : Item) (old : List ℕ) (start n : ℕ) (mid : List ℕ) : Type 0 where
  writable : Writable (Given full_size) full_size i.lent i.packet
  length_is : n ≡ length (message_of form (message_for i))
  room : start + length (message_of form (message_for i)) ≤ length old
  out : mid ≡ sets old start (message_of form (message_for i))

room_by : (size start : ℕ) (bytes : List ℕ) (k n : ℕ) → room_from size start bytes k ≡ given n → (start + length bytes ≤ size) × (k ≡ n)
room_by size start bytes k n =
    on_lt (λ (a : Answer ℕ). a ≡ given n → (start + length bytes ≤ size) × (k ≡ n)) size (start + length bytes) (λ h e. not_refused (sym e)) (λ h e. (h, same_given e))

froze : (form : Form) (i : Item) → Shaped i.packet → Held i.lent → (old : List ℕ) (start : ℕ) (r : Result ℕ Refusal) (n : ℕ) (mid : List ℕ) → Freezes form i.peer i.packet i.lent old start r mid → r ≡ Ok n → Froze form i old start n mid
unfolding freezing strict_datagram
froze form i shaped b old start r n mid f e =
    let a : freezing form (length old) start i.peer i.lent i.packet ≡ given n = sym f.answer ∙ ap written e in
    let o = onward_given (strict_datagram i.lent i.packet) (λ d. frozen_in form (length old) start (record { peer = i.peer; datagram = d })) n a in
    let q = onward_given (writing true (Given full_size) full_size i.lent i.packet) (λ k. given (bytes_written true i.lent i.packet)) o.0 o.1 in
    let w = strict_written (Given full_size) full_size i.lent i.packet shaped b q.0 q.1 in
    let d : layout (meaning i.lent i.packet) ≡ o.0 = same_given q.2 in
    let k = room_by (length old) start (message_of form (message_for i)) (length (message_of form (message_for i))) n (rw d o.2) in
    record {
      writable = w.0;
      length_is = sym k.1;
      room = k.0;
      out = f.output ∙ ap (λ (x : Answer ℕ). after x start (message_of form (message_for i)) old) a;
    }

-- The message of a packet that was written is one of a stream: of 4..1,280 bytes, and accepted by strict reading.
module _ (i : Item) (w : Writable (Given full_size) full_size i.lent i.packet) where
  proper : length i.peer ≡ 18 → Sized (message_for i)
  proper z = record { peer = z; least = omega (arith, message_length (meaning i.lent i.packet)); most = w.fits }

  reads : (p : Packet) × (reading true (layout (meaning i.lent i.packet)) ≡ given p)
  reads = let b = reads_layout (meaning i.lent i.packet) w.wellformed (omega (arith, w.fits)) in (b.packet, b.is)

-- Items that were frozen in turn: their messages are those of a stream, which stands from the start to the end.
record Turned (form : Form) (l : List Item) (old : List ℕ) (start end : ℕ) (new : List ℕ) : Type 0 where
  sized : AllSized (map message_for l)
  accepts : AllAccepted (map message_for l)
  end_is : end ≡ start + length (stream_of form (map message_for l))
  within : start ≤ length old → end ≤ length old
  out : new ≡ sets old start (stream_of form (map message_for l))

turned : (form : Form) (l : List Item) → AllProper l → (old : List ℕ) (start end : ℕ) (new : List ℕ) → InTurn form l old start end new → Turned form l old start end new
turned form [] a old start end new t =
    record { sized = tt; accepts = tt; end_is = t.0 ∙ sym (add-zero start); within = λ h. omega (arith, t.0); out = t.1 }
turned form (i ∷ l) a old start end new t =
    let f : Froze form i old start t.1 t.2 = froze form i a.0.1 a.0.2 old start t.0 t.1 t.2 t.3 t.4 in
    let g : Turned form l t.2 (start + t.1) end new = turned form l a.1 t.2 (start + t.1) end new t.5 in
    let m : List ℕ = message_of form (message_for i) in
    let r : List ℕ = stream_of form (map message_for l) in
    let k : length t.2 ≡ length old = ap length f.out ∙ length-sets old start m in
    record {
      sized = (proper i f.writable a.0.0, g.sized);
      accepts = (reads i f.writable, g.accepts);
      end_is = g.end_is ∙ omega (arith, f.length_is, length-append m r);
      within = λ h. omega (arith, k, f.room, f.length_is, g.within (omega (arith, k, f.room, f.length_is)));
      out = g.out ∙ (ap (λ (x : List ℕ). sets x (start + t.1) r) f.out
          ∙ (ap (λ (n : ℕ). sets (sets old start m) (start + n) r) f.length_is ∙ sym (sets_append old start m r)));
    }

-- What was frozen in turn from 0 is the stream of the messages.
stands : (form : Form) (l : List Item) → AllProper l → (old : List ℕ) (end : ℕ) (new : List ℕ) → InTurn form l old 0 end new → take end new ≡ stream_of form (map message_for l)
stands form l a old end new t =
    let g = turned form l a old 0 end new t in
    let x : List ℕ = stream_of form (map message_for l) in
    let e : end ≡ length x = g.end_is ∙ zero-add (length x) in
    ap (λ (n : ℕ). take n new) e ∙ (ap (take (length x)) (g.out ∙ put_front old x (omega (arith, g.within (omega arith), e))) ∙ take-append_seam x (drop (length x) old))

pub frozen_then_thawed : FrozenThenThawed
frozen_then_thawed form l a old end new t oldList oldOut r newList newOut room promise =
    let g = turned form l a old 0 end new t in
    let s = stands form l a old end new t in
    (s, holds form (take end new) oldList oldOut r newList newOut promise (map message_for l) (record { sized = g.sized; accepted = g.accepts; bytes = s }) room)

-- The message of an item that comes of a message is that one.
same_message : (m : Frozen) (i : Item) → Comes m i → message_for i ≡ m
same_message m i c =
    let s : List ℕ = m.datagram in
    let p : Packet = c.packet in
    let gives : reading true s ≡ given p = done (Ok p) p (reading true s) c.read refl in
    let a = on_given (λ (q : Packet). (beside : List ℕ) → WellFormed (meaning (stores s beside) q) × (layout (meaning (stores s beside) q) ≡ s)) (reading true s) p (accepted s c.bytes) gives c.edits in
    ap message_for c.is ∙ ap (λ (x : List ℕ). record { peer = m.peer; datagram = x }) a.1

same_messages : (l : List Frozen) (k : List Item) → AllCome l k → map message_for k ≡ l
same_messages [] [] c = refl
same_messages [] (i ∷ k) c = absurd c
same_messages (m ∷ l) [] c = absurd c
same_messages (m ∷ l) (i ∷ k) c = rw (same_message m i c.0, same_messages l k c.1) refl

pub stream_again : StreamAgain
stream_again form s l is k c a old end new t = stands form k a old end new t ∙ (ap (stream_of form) (same_messages l k c) ∙ sym is.bytes)

pub thawed_then_frozen : ThawedThenFrozen
unfolding freezing strict_datagram is_too_long
thawed_then_frozen form m d p b read is most edits held short old start r new room f =
    let s : List ℕ = m.datagram in
    let t : Stores = stores s edits in
    let gives : reading true s ≡ given p = done d p (reading true s) read is in
    let a = on_given (λ (q : Packet). (beside : List ℕ) → WellFormed (meaning (stores s beside) q) × (layout (meaning (stores s beside) q) ≡ s)) (reading true s) p (accepted s b) gives edits in
    let k = on_given (Kept s) (reading true s) p (kept true s b) gives in
    let fits = (on_given (Taken true s) (reading true s) p (taken true s b) gives).fits in
    let n : ℕ = length (layout (meaning t p)) in
    let e : n ≡ length s = ap length a.1 in
    let w = strict_writes (Given full_size) full_size t p k.1 (record { store = rw (le-ltb max_store (length s) fits) (le-ltb max_store (length edits) short); records = k.0 edits; wellformed = a.0; within = le-ltb full_size n (omega arith); fits = omega arith }) in
    let z : Frozen = record { peer = m.peer; datagram = bytes_written true t p } in
    let same : z ≡ m = ap (λ (x : List ℕ). record { peer = m.peer; datagram = x }) a.1 in
    let h : freezing form (length old) start m.peer t p ≡ given (length (message_of form m)) =
    rw w (ap (λ (x : Frozen). frozen_in form (length old) start x) same ∙ rw (le-ltb (length old) (start + length (message_of form m)) room) refl) in (
      one_written r (Ok (length (message_of form m))) (f.answer ∙ h),
      f.output ∙ (ap (λ (x : Answer ℕ). after x start (message_of form z) old) h ∙ ap (λ (x : Frozen). sets old start (message_of form x)) same),
    )

-- A refusal of the writer isn't 12, and of the stream it is.
twelve_by : (form : Form) (peer : List ℕ) (s : Stores) (p : Packet) → Shaped p → Held s → (room start : ℕ) (a : Answer ℕ) → writing true (Given full_size) full_size s p ≡ a
    → onward (onward a (λ n. given (bytes_written true s p))) (λ d. frozen_in form room start (record { peer = peer; datagram = d })) ≡ refused 12
    → (length (layout (meaning s p)) ≤ full_size) × (room < start + length (message_of form (record { peer = peer; datagram = layout (meaning s p) })))
twelve_by form peer s p shaped b room start (given n) q e =
    let w = strict_written (Given full_size) full_size s p shaped b n q in
    let m : List ℕ = message_of form (record { peer = peer; datagram = layout (meaning s p) }) in (
      w.0.fits,
      on_lt (λ (x : Answer ℕ). x ≡ refused 12 → room < start + length m) room (start + length m) (λ h z. h) (λ h z. not_refused z) e,
    )
twelve_by form peer s p shaped b room start (refused k) q e =
    absurd (on_refused (λ (j : ℕ). j ≡ 12 → ⊥) (writing true (Given full_size) full_size s p) k (never_twelve s p) q (same_refused e))

pub room_of_the_stream : RoomOfTheStream
unfolding freezing strict_datagram
room_of_the_stream form peer p shaped s b old start r new f e =
    twelve_by form peer s p shaped b (length old) start (writing true (Given full_size) full_size s p) refl (sym f.answer ∙ ap written e)

pub stream_kept : StreamKept
stream_kept form peer p s old start r new q e is =
    output_kept (freezing form (length old) start peer s p) start (message_of form (record { peer = peer; datagram = bytes_written true s p })) old r new q.answer q.output e is

one_step : TellsApart step_read
one_step =
    said_apart Step Extent step_read (λ s. record { len = s.len; next = s.next })
    (record { value = λ v. refl; refusal = λ e. refl; one = λ v w e. λ i. record { len = (e i).len; next = (e i).next } })

one_stream : TellsApart streamJudged
one_stream =
    said_apart Told Tally streamJudged (λ t. record { count = t.count; bytes = t.bytes })
    (record { value = λ v. refl; refusal = λ e. refl; one = λ v w e. λ i. record { count = (e i).count; bytes = (e i).bytes } })

one_strict : TellsApart strictly_in
one_strict =
    said_apart Strict Counts strictly_in (λ t. record { count = t.count; bytes = t.bytes; chunks = t.chunks })
    (record { value = λ v. refl; refusal = λ e. refl; one = λ v w e. λ i. record { count = (e i).count; bytes = (e i).bytes; chunks = (e i).chunks } })

pub told_apart : ToldApart
told_apart =
    record {
      messages = one_step;
      streams = one_stream;
      strict_streams = one_strict;
    }

pub one_thawing : OneThawing
one_thawing form s oldList oldOut r q list alsoList out alsoOut x y =
    (one_written r q (x.answer ∙ sym y.answer), x.list ∙ sym y.list, x.output ∙ sym y.output)

pub one_freezing : OneFreezing
one_freezing form peer p s old start r q new also x y = (one_written r q (x.answer ∙ sym y.answer), x.output ∙ sym y.output)
