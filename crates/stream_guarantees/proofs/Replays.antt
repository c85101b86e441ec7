-- Traces: what is judged. Replays: the calls in turn over the messages of a trace, and what they leave.
use Prim.Native.Nat.{ℕ, suc, ◌-◌, ◌<◌, ◌≤◌}
use mathlib.Core.Path.{◌≡◌, refl, sym, ap, subst, ◌∙◌}
use mathlib.Core.List.{List, [], ◌∷◌, ◌++◌, map, append-nil, map-append}
use native.Mathlib.Omega.{arith}
use lib.ListN.{length, drop, length-append, length-map}
use lib.Seq.{sets}
use borrow.Author.Tests.{lt-ltb, le-ltb}
use Rattle.std.specs.Prelude.{Result, Ok, Err}
use Rattle.ground.specs.Part.{Bytes}
use Rattle.ground.proofs.Part.{put_front}
use Rattle.rfc.specs.Duplicates.{Arrival, Verdict, history, history_from, fresh, fresh_after, last_time}
use Rattle.refusal.specs.Answer.{Answer, given, refused, onward, outcome}
use Rattle.refusal.specs.Number.{number_of}
use Rattle.refusal.specs.declared.Refusal.{Refusal}
use Rattle.refusal.specs.declared.Refusal.TheVariants.{NoRoom, BadFreeze}
use Rattle.refusal.proofs.Answers.{not_refused, onward_given, on_given}
use Rattle.refusal.proofs.Distinct.{one_outcome}
use Rattle.header.specs.Header.{number_of_type}
use Rattle.header.specs.declared.Header.{Header}
use Rattle.stream.specs.declared.Form.{Form}
use Rattle.stream.specs.Stream.{stream_of}
use Rattle.stream.proofs.Exact.{Only19}
use Rattle.thawing.specs.Thawing.{strict, counts_of}
use Rattle.hearing.specs.Bytes.{table_size}
use Rattle.hearing.specs.Hearing.{Fits, hearing, leaving, verdict_of, heard_of, clearing, Hears, Clears}
use Rattle.hearing.specs.Calls.{letter, calling, Calls, further, calls_from, AllFit, Ran}
use Rattle.hearing.specs.Told.{Holds, Why, Ended}
use Rattle.hearing.specs.declared.Verdict.{Verdict as Word}
use Rattle.hearing.proofs.Telling.{told_why, why_told}
use Rattle.hearing.proofs.Step.{kept}
use Rattle.hearing.proofs.Turns.{with_room, listed, agrees_in, whole, ended, followed, in_two, in_order}
use Rattle.hearing.proofs.Cleared.{cleared_holds}
use Rattle.tracing.specs.Trace.{Timed, AllTimed, trace_of, messages_of}
use Rattle.tracing.specs.TimedMessages.{form_of, traced}
use Rattle.tracing.specs.Judging.{strictly, traced_strictly, count_of, judged, Judges}
use Rattle.tracing.specs.Arrivals.{arrival_of, arrivals_of}
use Rattle.tracing.proofs.Exact.{exact, one_form, trace_append, stream_no_trace, trace_no_stream}
use Rattle.tracing.proofs.Counted.{strict_list, traced_of, Counted, counted, uncounted}
use Rattle.tracing.proofs.Arrivals.{header_read, id_small}
use Rattle.tracing.proofs.Bytes.{AllBytes, traced_bytes}
use Rattle.tracing.proofs.Distinct.{one_judged, one_timed, one_arrived}
use Rattle.replaying.specs.Replaying.{begins, cleared, replayed_from, replaying, Replays}
use Rattle.replaying.specs.declared.Replayed.{Replayed}
use Rattle.replaying.proofs.Begun.{cleared_by}
use Rattle.stream_guarantees.specs.Replays.{IsTraceOf, TraceJudgedExactly, OneTrace, TraceCounted, NoTrace, NoStreamIsTrace, NoTraceIsStream, TraceAppended, IdentifiedByMeaning, Begins, NoneRefused, Stops, Leaves, InTurn, ReplaysExactly, Replaying, ReplayKept, ToldApart, OneReplay}
use Rattle.stream_guarantees.proofs.Streams.{all_strict_lem, all_accepted, is_19}
use Rattle.stream_guarantees.proofs.Duplicates.{done_size, behind_zeros}

-- What is judged is the trace of such a list, and the other way round.
is_trace : (s : List ℕ) → Bytes s → (l : List Timed) → traced_strictly s ≡ given l → IsTraceOf (form_of s) s l
is_trace s b l e =
    let h = exact.sound s l b (traced_of s l e) in
    let o = onward_given (traced s) strictly l e in
    let k = strict_list o.0 l o.2 in
    record { timed = h.1; accepted = all_accepted (messages_of l) (rw k.same at k.all); bytes = h.0 }

of_trace : (form : Form) (s : List ℕ) (l : List Timed) → IsTraceOf form s l → traced_strictly s ≡ given l
unfolding strictly
of_trace form s l i =
    let t : traced s ≡ given l = ap traced i.bytes ∙ exact.complete form l i.timed in
    ap (λ (a : Answer (List Timed)). onward a strictly) t ∙ rw (all_strict_lem (messages_of l) i.accepted) refl

judged_by : (s : List ℕ) (r : Result ℕ Refusal) → Judges s r → (l : List Timed) → traced_strictly s ≡ given l → r ≡ Ok (length l)
judged_by s r p l e = one_judged r (Ok (length l)) (p ∙ ap count_of e)

pub trace_judged_exactly : TraceJudgedExactly
trace_judged_exactly s b r p = (
  λ x. let c : Counted s x.0 = counted s x.0 (sym (ap judged x.1) ∙ p) in (form_of s, c.messages, is_trace s b c.messages c.are),
  λ x. (length x.1, judged_by s r p x.1 (of_trace x.0 s x.1 x.2)),
)

pub trace_counted : TraceCounted
trace_counted form s l i r p = judged_by s r p l (of_trace form s l i)

no_bytes : (form : Form) (l : List Timed) → l ≡ [] → trace_of form l ≡ []
no_bytes form l e = ap (trace_of form) e

pub one_trace : OneTrace
one_trace f g s l m i j = (
  exact.unique f g l m i.timed j.timed (sym i.bytes ∙ j.bytes),
  λ some. one_form f g l m i.timed j.timed (sym i.bytes ∙ j.bytes) (λ e. some (i.bytes ∙ no_bytes f l e)),
)

-- A trace that isn't read is refused 19.
not_traced : (s : List ℕ) (r : Result ℕ Refusal) → Judges s r → traced s ≡ refused 19 → r ≡ Err BadFreeze
not_traced s r p e = one_judged r (Err BadFreeze) (p ∙ ap (λ (a : Answer (List Timed)). count_of (onward a strictly)) e)

pub no_trace : NoTrace
no_trace s b r p none = by (traced s) refl (exact.refusal s)
  where
    by : (a : Answer (List Timed)) → traced s ≡ a → Only19 a → r ≡ Err BadFreeze
    by (given l) e o = let h = exact.sound s l b e in absurd (none (form_of s) l h.1 h.0)
    by (refused k) e o = not_traced s r p (e ∙ ap refused o)

pub no_stream_is_trace : NoStreamIsTrace
no_stream_is_trace form m l r p = not_traced (stream_of form (m ∷ l)) r p (stream_no_trace form m l)

pub no_trace_is_stream : NoTraceIsStream
no_trace_is_stream form other counted m l r p =
    is_19 r (p ∙ ap (λ (a : _). counts_of counted (onward a strict)) (trace_no_stream form other m l))

pub trace_appended : TraceAppended
trace_appended = trace_append

pub identified_by_meaning : IdentifiedByMeaning
unfolding arrival_of
identified_by_meaning m p b e edits =
    let h = header_read m.message.datagram p b e in
    (ap (λ (x : Header). number_of_type x.message_type) h, ap (λ (x : Header). x.message_id) h)

-- Messages of a trace are such as calls can be given.
all_fit : (l : List Timed) → AllTimed l → AllBytes l → AllFit (arrivals_of l)
unfolding arrival_of
all_fit [] t b = tt
all_fit (m ∷ l) t b =
    (record { time = t.0.0; peer = t.0.1.peer; id = id_small m t.0.1.least b.0 }, all_fit l t.1 b.1)

fit_front : (front rest : List Timed) → AllFit (arrivals_of (front ++ rest)) → AllFit (arrivals_of front)
fit_front [] rest f = tt
fit_front (m ∷ front) rest f = (f.0, fit_front front rest f.1)

-- Calls in turn are refused exactly where the history refuses one of their messages.
none_turn : (room before : ℕ) (s : List ℕ) (news : List Arrival) (m : Arrival) (ms : List Arrival) → Holds before s news → Fits m
    → ((t : List ℕ) → Holds m.time t (fresh_after news m) → (calls_from (room - 1) m.time t ms).outcome ≡ given tt → NoneRefused (room - 1) m.time (fresh_after news m) ms)
    → (a : Answer Verdict) → calling room before s m ≡ a → (further a s (calls_from (room - 1) m.time (leaving a m s) ms)).outcome ≡ given tt → NoneRefused room before news (m ∷ ms)
none_turn room before s news m ms h f next (given v) c e = (
  λ k w. not_refused (sym c ∙ (agrees_in room before s news m h ∙ why_told room before news m k w)),
  next (leaving (given v) m s) (kept before s news m h f v (listed room before s m v c).heard) e,
)
none_turn room before s news m ms h f next (refused k) c e = not_refused (sym e)

none_refused : (room before : ℕ) (s : List ℕ) (news ms : List Arrival) → Holds before s news → AllFit ms → (calls_from room before s ms).outcome ≡ given tt → NoneRefused room before news ms
unfolding calls_from
none_refused room before s news [] h f e = tt
none_refused room before s news (m ∷ ms) h f e =
    none_turn room before s news m ms h f.0 (λ t k x. none_refused (room - 1) m.time t (fresh_after news m) ms k f.1 x) (calling room before s m) refl e

done_turn : (room before : ℕ) (s : List ℕ) (news : List Arrival) (m : Arrival) (ms : List Arrival) → Holds before s news → Fits m → ((k : ℕ) → Why room before news m k → ⊥)
    → ((t : List ℕ) → Holds m.time t (fresh_after news m) → (calls_from (room - 1) m.time t ms).outcome ≡ given tt)
    → (a : Answer Verdict) → calling room before s m ≡ a → (further a s (calls_from (room - 1) m.time (leaving a m s) ms)).outcome ≡ given tt
done_turn room before s news m ms h f x next (given v) c = next (leaving (given v) m s) (kept before s news m h f v (listed room before s m v c).heard)
done_turn room before s news m ms h f x next (refused k) c = absurd (x k (told_why room before news m k (sym (agrees_in room before s news m h) ∙ c)))

all_done : (room before : ℕ) (s : List ℕ) (news ms : List Arrival) → Holds before s news → AllFit ms → NoneRefused room before news ms → (calls_from room before s ms).outcome ≡ given tt
unfolding calls_from
all_done room before s news [] h f x = refl
all_done room before s news (m ∷ ms) h f x =
    done_turn room before s news m ms h f.0 x.0 (λ t k. all_done (room - 1) m.time t (fresh_after news m) ms k f.1 x.1) (calling room before s m) refl

-- No more is listed than there are places for; and where nothing is listed the table is as it was.
few_turn : (room before : ℕ) (s : List ℕ) (m : Arrival) (ms : List Arrival) → ((t : List ℕ) → length (calls_from (room - 1) m.time t ms).listing ≤ room - 1)
    → (a : Answer Verdict) → calling room before s m ≡ a → length (further a s (calls_from (room - 1) m.time (leaving a m s) ms)).listing ≤ room
few_turn room before s m ms next (given v) c = omega (arith, next (leaving (given v) m s), (listed room before s m v c).some)
few_turn room before s m ms next (refused k) c = omega arith

few_listed : (room before : ℕ) (s : List ℕ) (ms : List Arrival) → length (calls_from room before s ms).listing ≤ room
unfolding calls_from
few_listed room before s [] = omega arith
few_listed room before s (m ∷ ms) = few_turn room before s m ms (λ t. few_listed (room - 1) m.time t ms) (calling room before s m) refl

quiet_turn : (s : List ℕ) (rest : Calls) (a : Answer Verdict) → length (further a s rest).listing ≡ 0 → ((further a s rest).listing ≡ []) × ((further a s rest).table ≡ s)
quiet_turn s rest (given v) e = absurd (omega arith)
quiet_turn s rest (refused k) e = (refl, refl)

quiet : (room before : ℕ) (s : List ℕ) (ms : List Arrival) → length (calls_from room before s ms).listing ≡ 0 → ((calls_from room before s ms).listing ≡ []) × ((calls_from room before s ms).table ≡ s)
unfolding calls_from
quiet room before s [] e = (refl, refl)
quiet room before s (m ∷ ms) e = quiet_turn s (calls_from (room - 1) m.time (leaving (calling room before s m) m s) ms) (calling room before s m) e

-- Messages heard one after the other are calls in turn, where the listing has a place for each.
in_turn_one : (room before : ℕ) (s : List ℕ) (m : Arrival) (ms : List Arrival) (r : Result Word Refusal) (mid : List ℕ) (v : Verdict) → 0 < room → Hears before m s r mid → heard_of r ≡ given v
    → calls_from room before s (m ∷ ms) ≡ further (given v) s (calls_from (room - 1) m.time mid ms)
unfolding calls_from
in_turn_one room before s m ms r mid v some h e =
    let a : hearing before s m ≡ given v = sym h.answer ∙ e in
    let c : calling room before s m ≡ given v = with_room room before s m some ∙ a in
    let t : mid ≡ leaving (given v) m s = h.table ∙ ap (λ (x : Answer Verdict). leaving x m s) a in
    rw (c, t) refl

as_calls : (room before : ℕ) (ms : List Arrival) (old letters left : List ℕ) → length ms ≤ room → InTurn before ms old letters left
    → calls_from room before old ms ≡ record { listing = letters; table = left; outcome = given tt }
unfolding calls_from
as_calls room before [] old letters left n x =
    sym (ap (λ (l : List ℕ). record { listing = l; table = left; outcome = given tt }) x.0 ∙ ap (λ (t : List ℕ). record { listing = []; table = t; outcome = given tt }) x.1)
as_calls room before (m ∷ ms) old letters left n x =
    let v = verdict_of x.1 in
    in_turn_one room before old m ms x.0 x.2 v (omega arith) x.4 (ap heard_of x.5)
    ∙ (ap (further (given v) old) (as_calls (room - 1) m.time ms x.2 x.3 left (omega arith) x.7)
    ∙ ap (λ (l : List ℕ). record { listing = l; table = left; outcome = given tt }) (sym x.6))

letters_length : (before : ℕ) (ms : List Arrival) (old letters left : List ℕ) → InTurn before ms old letters left → length letters ≡ length ms
letters_length before [] old letters left x = ap length x.0
letters_length before (m ∷ ms) old letters left x = ap length x.6 ∙ ap suc (letters_length m.time ms x.2 x.3 left x.7)

history_length : (news ms : List Arrival) → length (history_from news ms) ≡ length ms
history_length news [] = refl
history_length news (m ∷ ms) = ap suc (history_length (fresh_after news m) ms)

-- A list whose arrivals are in two parts is in two parts.
record Split (l : List Timed) (front : List Arrival) (at : Arrival) : Type 0 where
  first : List Timed
  one : Timed
  others : List Timed
  is : l ≡ first ++ (one ∷ others)
  before : arrivals_of first ≡ front
  here : arrival_of one ≡ at

split_more : (m : Timed) (l : List Timed) (x : Arrival) (front : List Arrival) (at : Arrival) → arrival_of m ≡ x → Split l front at → Split (m ∷ l) (x ∷ front) at
split_more m l x front at e p =
    record {
      first = m ∷ p.first;
      one = p.one;
      others = p.others;
      is = ap (λ (r : List Timed). m ∷ r) p.is;
      before = ap (λ (y : Arrival). y ∷ arrivals_of p.first) e ∙ ap (λ (r : List Arrival). x ∷ r) p.before;
      here = p.here;
    }

head_is : (x y : Arrival) (xs ys : List Arrival) → x ∷ xs ≡ y ∷ ys → x ≡ y
head_is x y xs ys e = cc

tail_is : (x y : Arrival) (xs ys : List Arrival) → x ∷ xs ≡ y ∷ ys → xs ≡ ys
tail_is x y xs ys e = cc

split : (l : List Timed) (front : List Arrival) (at : Arrival) (rest : List Arrival) → arrivals_of l ≡ front ++ (at ∷ rest) → Split l front at
split [] [] at rest e = absurd (omega (arith, ap length e))
split [] (x ∷ front) at rest e = absurd (omega (arith, ap length e))
split (m ∷ l) [] at rest e =
    record { first = []; one = m; others = l; is = refl; before = refl; here = head_is (arrival_of m) at (arrivals_of l) rest e }
split (m ∷ l) (x ∷ front) at rest e =
    split_more m l x front at (head_is (arrival_of m) x (arrivals_of l) (front ++ (at ∷ rest)) e) (split l front at rest (tail_is (arrival_of m) x (arrivals_of l) (front ++ (at ∷ rest)) e))

-- The calls where the first of the messages that are left is refused.
refused_first : (room before : ℕ) (s : List ℕ) (m : Arrival) (ms : List Arrival) (k : ℕ) → calling room before s m ≡ refused k
    → calls_from room before s (m ∷ ms) ≡ record { listing = []; table = s; outcome = refused k }
unfolding calls_from
refused_first room before s m ms k e = rw e refl

-- A cleared table holds nothing, and the bytes after it are as they were.
none_held : (table : List ℕ) → table_size ≤ length table → Holds 0 (cleared table) []
unfolding cleared
none_held table h = cleared_holds table h

cleared_behind : (table : List ℕ) → drop table_size (cleared table) ≡ drop table_size table
unfolding cleared
cleared_behind table = behind_zeros table table_size

-- A replay that doesn't begin.
module _ (s table listing : List ℕ) (r : Replayed) (left listed : List ℕ) (promise : Replays s table listing r left listed) where
  pub unbegun : (k : ℕ) → begins s (length table) ≡ refused k → Ran (record { listing = []; table = table; outcome = refused k }) listing (outcome r.outcome) r.count left listed
  unfolding replaying
  unbegun k e = subst (λ (a : Answer (List Timed)). Ran (replayed_from a (length listing) table) listing (outcome r.outcome) r.count left listed) e promise

  as_judged : (j : Result ℕ Refusal) → Judges s j → (e : Refusal) → j ≡ Err e → r.outcome ≡ Err e
  unfolding begins
  as_judged j p e i =
      let t : traced_strictly s ≡ refused (number_of e) = uncounted s (number_of e) (sym (ap judged i) ∙ p) in
      one_outcome r.outcome (Err e) (unbegun (number_of e) (rw t refl)).outcome

  too_short : (j : Result ℕ Refusal) → Judges s j → (n : ℕ) → j ≡ Ok n → length table < table_size → r.outcome ≡ Err NoRoom
  unfolding begins
  too_short j p n i h =
      let c : Counted s n = counted s n (sym (ap judged i) ∙ p) in
      one_outcome r.outcome (Err NoRoom) (unbegun 12 (rw (c.are, lt-ltb (length table) table_size h) refl)).outcome

  -- It is refused, whatever for.
  some_refusal : (o : Result (Unit {0}) Refusal) (k : ℕ) → outcome o ≡ refused k → (e : Refusal) × (o ≡ Err e)
  some_refusal (Ok u) k e = not_refused e
  some_refusal (Err x) k e = (x, refl)

  begins_so : Bytes s → (l : List Timed) → begins s (length table) ≡ given l → Begins s table l
  unfolding begins
  begins_so b l e =
      let o = onward_given (traced_strictly s) (λ v. onward (clearing (length table)) (λ _. given v)) l e in
      let q = onward_given (clearing (length table)) (λ _. given o.0) l o.2 in
      record { form = form_of s; trace = is_trace s b l (o.1 ∙ q.2); size = done_size (length table) q.1 }

  never_begun : Bytes s → ((l : List Timed) → Begins s table l → ⊥) → ((e : Refusal) × (r.outcome ≡ Err e)) × (r.count ≡ 0) × (left ≡ table) × (listed ≡ listing)
  never_begun b none = by (begins s (length table)) refl
    where
      by : (a : Answer (List Timed)) → begins s (length table) ≡ a → ((e : Refusal) × (r.outcome ≡ Err e)) × (r.count ≡ 0) × (left ≡ table) × (listed ≡ listing)
      by (given l) e = absurd (none l (begins_so b l e))
      by (refused k) e = let u = unbegun k e in (some_refusal r.outcome k u.outcome, u.count, u.table, u.listing)

-- A replay that begins: its calls, over the cleared table.
module _ (s : List ℕ) (small : Bytes s) (table listing : List ℕ) (r : Replayed) (left listed : List ℕ) (promise : Replays s table listing r left listed) where
  abbrev calls_of : List Timed → Calls
  calls_of l = calls_from (length listing) 0 (cleared table) (arrivals_of l)

  module _ (l : List Timed) (b : Begins s table l) where
    traced_so : traced_strictly s ≡ given l
    traced_so = of_trace b.form s l b.trace

    begins_with : begins s (length table) ≡ given l
    unfolding begins
    begins_with = rw (traced_so, le-ltb (length table) table_size b.size) refl

    ran : Ran (calls_of l) listing (outcome r.outcome) r.count left listed
    unfolding replaying
    ran = subst (λ (a : Answer (List Timed)). Ran (replayed_from a (length listing) table) listing (outcome r.outcome) r.count left listed) begins_with promise

    holds_none : Holds 0 (cleared table) []
    holds_none = none_held table b.size

    fit : AllFit (arrivals_of l)
    fit = all_fit l b.trace.timed (on_given AllBytes (traced s) l (traced_bytes (form_of s) s small (length s) 0) (traced_of s l traced_so))

    is_done : (r.outcome ≡ Ok tt) → (calls_of l).outcome ≡ given tt
    is_done e = sym ran.outcome ∙ ap outcome e

    is_refused : (e : Refusal) → r.outcome ≡ Err e → (calls_of l).outcome ≡ refused (number_of e)
    is_refused e i = sym ran.outcome ∙ ap outcome i

  -- What messages leave that aren't refused.
  leaves : (front : List Timed) → table_size ≤ length table → AllFit (arrivals_of front) → (calls_of front).outcome ≡ given tt
      → r.count ≡ length (calls_of front).listing → left ≡ (calls_of front).table → listed ≡ sets listing 0 (calls_of front).listing
      → Leaves front table listing r.count left listed
  leaves front size f e n t v =
      let d : Calls = calls_of front in
      let w = whole (length listing) 0 (cleared table) [] (arrivals_of front) (none_held table size) f e in
      let o = in_order (length listing) 0 (cleared table) (arrivals_of front) e in
      let k : length d.listing ≡ length front =
      ap length w.listing ∙ (length-map (history (arrivals_of front)) letter ∙ (history_length [] (arrivals_of front) ∙ length-map front arrival_of)) in
      record {
        count = n ∙ k;
        letters = v ∙ (put_front listing d.listing (omega (arith, k, o.places, length-map front arrival_of))
            ∙ (ap (λ (x : List ℕ). x ++ drop (length d.listing) listing) w.listing ∙ ap (λ (j : ℕ). map letter (history (arrivals_of front)) ++ drop j listing) k));
        holds = rw t w.holds;
        behind = ap (drop table_size) t ∙ (w.behind ∙ cleared_behind table);
      }

  -- The first message that is refused ends the calls, with what those before it left.
  module _ (l : List Timed) (b : Begins s table l) (e : Refusal) (x : Stops (length listing) l e) where
    front_fits : AllFit (arrivals_of x.front)
    front_fits = fit_front x.front (x.at ∷ x.rest) (subst (λ (v : List Timed). AllFit (arrivals_of v)) x.split (fit l b))

    front_done : (calls_of x.front).outcome ≡ given tt
    front_done = all_done (length listing) 0 (cleared table) [] (arrivals_of x.front) (holds_none l b) front_fits x.none

    stopped : calls_of l ≡ record { listing = (calls_of x.front).listing; table = (calls_of x.front).table; outcome = refused (number_of e) }
    stopped =
        let d : Calls = calls_of x.front in
        let f : List Arrival = arrivals_of x.front in
        let n : length f ≡ length x.front = length-map x.front arrival_of in
        let w = whole (length listing) 0 (cleared table) [] f (holds_none l b) front_fits front_done in
        let c : calling (length listing - length f) (last_time 0 f) d.table (arrival_of x.at) ≡ refused (number_of e) =
        agrees_in (length listing - length f) (last_time 0 f) d.table (fresh f) (arrival_of x.at) w.holds
        ∙ why_told (length listing - length f) (last_time 0 f) (fresh f) (arrival_of x.at) (number_of e) (rw n x.why) in
        ap calls_of x.split
        ∙ (ap (calls_from (length listing) 0 (cleared table)) (map-append arrival_of x.front (x.at ∷ x.rest))
        ∙ (in_two (length listing) 0 (cleared table) f (arrivals_of (x.at ∷ x.rest)) front_done
        ∙ (ap (followed d) (refused_first (length listing - length f) (last_time 0 f) d.table (arrival_of x.at) (arrivals_of x.rest) (number_of e) c)
        ∙ ap (λ (v : List ℕ). record { listing = v; table = d.table; outcome = refused (number_of e) }) (append-nil d.listing))))

    stops_there : r.outcome ≡ Err e
    stops_there = one_outcome r.outcome (Err e) ((ran l b).outcome ∙ ap (λ (c : Calls). c.outcome) stopped)

    leaves_front : Leaves x.front table listing r.count left listed
    leaves_front =
        let q = ran l b in
        leaves x.front b.size front_fits front_done
        (q.count ∙ ap (λ (c : Calls). length c.listing) stopped) (q.table ∙ ap (λ (c : Calls). c.table) stopped) (q.listing ∙ ap (λ (c : Calls). sets listing 0 c.listing) stopped)

  stops_at : (l : List Timed) (b : Begins s table l) (e : Refusal) → r.outcome ≡ Err e → Stops (length listing) l e
  stops_at l b e i =
      let y : Ended (length listing) 0 (cleared table) [] (arrivals_of l) (number_of e) (calls_of l) =
      ended (length listing) 0 (cleared table) [] (arrivals_of l) (number_of e) (holds_none l b) (fit l b) (is_refused l b e i) in
      let p = split l y.front y.at y.rest y.split in
      let f : AllFit (arrivals_of p.first) = fit_front p.first (p.one ∷ p.others) (subst (λ (v : List Timed). AllFit (arrivals_of v)) p.is (fit l b)) in
      let Refuses : ℕ → List Arrival → Arrival → Type 0 = λ j f a. Why (length listing - j) (last_time 0 f) (fresh f) a (number_of e) in
      let n : length y.front ≡ length p.first = ap length (sym p.before) ∙ length-map p.first arrival_of in
      record {
        front = p.first;
        at = p.one;
        rest = p.others;
        split = p.is;
        none = none_refused (length listing) 0 (cleared table) [] (arrivals_of p.first) (holds_none l b) f (rw p.before y.whole);
        why = subst (λ (a : Arrival). Refuses (length p.first) (arrivals_of p.first) a) (sym p.here)
            (subst (λ (f : List Arrival). Refuses (length p.first) f y.at) (sym p.before) (subst (λ (j : ℕ). Refuses j y.front y.at) n y.why));
      }

  -- One call for each message that is listed.
  one_by_one : (front rest : List Timed) → Begins s table (front ++ rest) → r.count ≡ length front
      → (o : Result (Unit {0}) Refusal) (mid : List ℕ) → Clears table o mid → (letters last : List ℕ) → InTurn 0 (arrivals_of front) mid letters last
      → (left ≡ last) × (listed ≡ letters ++ drop (length front) listing)
  one_by_one front rest b n o mid cl letters last x =
      let f : List Arrival = arrivals_of front in
      let q = ran (front ++ rest) b in
      let k : length f ≡ length front = length-map front arrival_of in
      let m : mid ≡ cleared table = cleared_by table o mid cl (rw (le-ltb (length table) table_size b.size) refl) in
      let room : length front ≤ length listing = omega (arith, n, q.count, few_listed (length listing) 0 (cleared table) (arrivals_of (front ++ rest))) in
      let d : calls_from (length listing) 0 (cleared table) f ≡ record { listing = letters; table = last; outcome = given tt } =
      ap (λ (t : List ℕ). calls_from (length listing) 0 t f) (sym m) ∙ as_calls (length listing) 0 f mid letters last (omega arith) x in
      let more : Calls = calls_from (length listing - length f) (last_time 0 f) last (arrivals_of rest) in
      let c : calls_of (front ++ rest) ≡ record { listing = letters ++ more.listing; table = more.table; outcome = more.outcome } =
      ap (calls_from (length listing) 0 (cleared table)) (map-append arrival_of front rest)
      ∙ (in_two (length listing) 0 (cleared table) f (arrivals_of rest) (ap (λ (y : Calls). y.outcome) d)
      ∙ ap (λ (y : Calls). followed y (calls_from (length listing - length f) (last_time 0 f) y.table (arrivals_of rest))) d) in
      let h : length letters ≡ length front = letters_length 0 f mid letters last x ∙ k in
      let z = quiet (length listing - length f) (last_time 0 f) last (arrivals_of rest)
      (omega (arith, n, q.count, ap (λ (y : Calls). length y.listing) c, length-append letters more.listing)) in (
        q.table ∙ (ap (λ (y : Calls). y.table) c ∙ z.1),
        q.listing
            ∙ (ap (λ (y : Calls). sets listing 0 y.listing) c
            ∙ (ap (λ (v : List ℕ). sets listing 0 (letters ++ v)) z.0
            ∙ (ap (sets listing 0) (append-nil letters)
            ∙ (put_front listing letters (omega arith) ∙ ap (λ (j : ℕ). letters ++ drop j listing) h)))),
      )

  replays_exactly : ReplaysExactly s table listing r left listed
  replays_exactly =
      record {
        done = λ l b. (
          λ e. none_refused (length listing) 0 (cleared table) [] (arrivals_of l) (holds_none l b) (fit l b) (is_done l b e),
          λ x. one_outcome r.outcome (Ok tt) ((ran l b).outcome ∙ all_done (length listing) 0 (cleared table) [] (arrivals_of l) (holds_none l b) (fit l b) x),
        );
        whole = λ l b e. let q = ran l b in leaves l b.size (fit l b) (is_done l b e) q.count q.table q.listing;
        stops = λ l b e. (stops_at l b e, stops_there l b e);
        part = leaves_front;
        calls = one_by_one;
        judged = as_judged s table listing r left listed promise;
        short = too_short s table listing r left listed promise;
        never = never_begun s table listing r left listed promise small;
      }

pub replaying_exactly : Replaying
replaying_exactly s b table listing r left listed p = replays_exactly s b table listing r left listed p

pub replay_kept : ReplayKept
replay_kept s table listing r left listed p k e = let u = unbegun s table listing r left listed p k e in (u.count, u.table, u.listing)

pub told_apart : ToldApart
told_apart =
    record {
      traces = one_judged;
      timed_messages = one_timed;
      arrivals = one_arrived;
    }

pub one_replay : OneReplay
one_replay s table listing r q left also listed other x y =
    let outcome = one_outcome r.outcome q.outcome (x.outcome ∙ sym y.outcome) in
    let count = x.count ∙ sym y.count in
    (λ k. record { outcome = outcome k; count = count k }, x.table ∙ sym y.table, x.listing ∙ sym y.listing)
