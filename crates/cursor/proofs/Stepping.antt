-- What the steps of a cursor give together is what reading gives, in both modes.
use Prim.Native.Nat.{ℕ, zero, suc, ◌+◌, ◌-◌, ◌≤◌}
use mathlib.Core.Path.{◌≡◌, refl, sym, ap, ◌∙◌}
use mathlib.Core.Bool.{Bool, true, false}
use mathlib.Core.List.{List, [], ◌∷◌}
use native.Mathlib.Omega.{arith}
use lib.ListN.{length}
use lib.Dec.{eqb}
use borrow.Author.Tests.{ne_eqb}
use Rattle.ground.specs.Choice.{both}
use Rattle.ground.specs.Part.{Bytes}
use Rattle.refusal.specs.Answer.{Answer, given, refused, onward}
use Rattle.refusal.proofs.Answers.{on_given, not_refused, same_given}
use Rattle.header.specs.Header.{token_of}
use Rattle.header.specs.declared.HeaderRaw.{HeaderRaw}
use Rattle.packet.specs.declared.OptionRecord.{OptionRecord}
use Rattle.packet.specs.declared.Packet.{Packet}
use Rattle.packet.specs.declared.Range.{Range}
use Rattle.option_reading.specs.Option.{Place, ended, option, place_at, end}
use Rattle.option_reading.proofs.Within.{Inside, place_inside}
use Rattle.reading.specs.Headed.{headed}
use Rattle.reading.specs.Options.{Tail, before, options}
use Rattle.reading.specs.Reading.{longest, packet_of, finished, reading}
use Rattle.reading.proofs.Headed.{Roomy, headed_opens}
use Rattle.cursor.specs.Cursor.{Started, first, start_of, rest, rest_at, record_of, accepting}
use Rattle.cursor.specs.Walk.{Walked, on_seen, joined, walk, accepting_from, collected, stepping, Run, goes, ends, stops}
use Rattle.cursor.specs.declared.Cursor.{Cursor}
use Rattle.cursor.proofs.Places.{step_inside}
use Rattle.cursor.proofs.Passing.{step_passes}

-- What the tail of the options' reading is to one who walks.
abbrev closed : Bool → List ℕ → Tail → Answer Walked
closed strict s t =
    onward (rest_at strict s t.marked t.payload) (λ p. given (record { records = t.records; payload = p }))

rest_seen : (a : Answer Range) (next : OptionRecord → Cursor → Answer Walked)
    → on_seen (onward a (λ p. given (rest p))) next ≡ onward a (λ p. given (record { records = []; payload = p }))
rest_seen (given p) next = refl
rest_seen (refused k) next = refl

rest_joined : (a : Answer Range) (r : OptionRecord) (rs : List OptionRecord)
    → onward (onward a (λ p. given (record { records = rs; payload = p }))) (joined r)
    ≡ onward a (λ p. given (record { records = r ∷ rs; payload = p }))
rest_joined (given p) r rs = refl
rest_joined (refused k) r rs = refl

joined_closed : (strict : Bool) (s : List ℕ) (r : OptionRecord) (a : Answer Tail)
    → onward (onward a (closed strict s)) (joined r) ≡ onward (onward a (before r)) (closed strict s)
joined_closed strict s r (given t) = rest_joined (rest_at strict s t.marked t.payload) r t.records
joined_closed strict s r (refused k) = refl

module _ (strict : Bool) (s : List ℕ) (short : length s ≤ 70000) (bytes : Bytes s) where
  abbrev cursor : ℕ → ℕ → ℕ → Cursor
  cursor room number at = record { strict = strict; number = number; at = at; left = room }

  -- The walk where no room is left, and where there is some, by what stands at the cursor.
  full : (steps number at : ℕ) → at ≤ length s → (p : Answer Place) → place_at (longest strict) s number at ≡ p
      → walk (suc steps) s (cursor zero number at) ≡ onward (options (longest strict) s zero number at) (closed strict s)
  unfolding walk options
  full steps number at h (refused k) e = rw (step_inside s (cursor zero number at) short h, e)
  full steps number at h (given (ended marked payload)) e =
      rw (step_inside s (cursor zero number at) short h, e) (rest_seen (rest_at strict s marked payload) _)
  full steps number at h (given (option r)) e = rw (step_inside s (cursor zero number at) short h, e)

  more : (room steps number at : ℕ) → at ≤ length s
      → ((number' at' : ℕ) → at' ≤ length s
      → walk (suc steps) s (cursor room number' at') ≡ onward (options (longest strict) s room number' at') (closed strict s))
      → (p : Answer Place) → place_at (longest strict) s number at ≡ p
      → walk (suc (suc steps)) s (cursor (suc room) number at) ≡ onward (options (longest strict) s (suc room) number at) (closed strict s)
  unfolding walk options
  more room steps number at h rec (refused k) e = rw (step_inside s (cursor (suc room) number at) short h, e)
  more room steps number at h rec (given (ended marked payload)) e =
      rw (step_inside s (cursor (suc room) number at) short h, e) (rest_seen (rest_at strict s marked payload) _)
  more room steps number at h rec (given (option r)) e =
      let inside : end r ≤ length s = on_given (Inside s) (place_at (longest strict) s number at) (option r) (place_inside (longest strict) s number at bytes) e in
      let left : eqb (suc room) 0 ≡ false = ne_eqb (suc room) 0 (λ z. omega arith) in
      let one : suc room - 1 ≡ room = omega arith in
      rw (step_inside s (cursor (suc room) number at) short h, e, left, one)
      (ap (λ (a : Answer Walked). onward a (joined r)) (rec r.number (end r) inside)
      ∙ joined_closed strict s r (options (longest strict) s room r.number (end r)))

  -- The walk from a cursor, in more steps than there may be options, is the reading of the options from there.
  pub walk_is : (room steps number at : ℕ) → room ≤ steps → at ≤ length s
      → walk (suc steps) s (cursor room number at) ≡ onward (options (longest strict) s room number at) (closed strict s)
  walk_is zero steps number at fits h = full steps number at h (place_at (longest strict) s number at) refl
  walk_is (suc room) zero number at fits h = absurd (omega arith)
  walk_is (suc room) (suc steps) number at fits h =
      more room steps number at h (λ n a. walk_is room steps n a (omega arith)) (place_at (longest strict) s number at) refl

-- A loop of steps gives what the walk gives.
pub steps_walk : {s : List ℕ} {c : Cursor} {rs : List OptionRecord} {a : Answer Range} → Run s c rs a → (n : ℕ) → c.left ≤ n
    → walk (suc n) s c ≡ onward a (λ p. given (record { records = rs; payload = p }))
unfolding walk
steps_walk (stops k e) n h = rw (sym e)
steps_walk (ends e) n h = rw (sym e)
steps_walk (goes {c} {number} {value} {next} e run) zero h = absurd (omega (arith, (step_passes _ c (record_of number value) next (sym e)).falls))
steps_walk (goes {c} {number} {value} {next} {rs} {a} e run) (suc n) h =
    rw (sym e)
    (ap (λ (w : Answer Walked). onward w (joined (record_of number value))) (steps_walk run n (omega (arith, (step_passes _ c (record_of number value) next (sym e)).falls)))
    ∙ rest_joined a (record_of number value) rs)

-- What is finished, by way of what a walk collects.
by_test : {A : Type 0} (t : Bool) → (t ≡ true → A) → (t ≡ false → A) → A
by_test true f g = f refl
by_test false f g = g refl

finished_is : (strict : Bool) (s : List ℕ) (raw : HeaderRaw) (t : Tail)
    → finished strict s raw t ≡ onward (closed strict s t) (λ w. given (collected raw w))
unfolding finished packet_of rest_at collected
finished_is strict s raw t =
    by_test (both strict (both t.marked (eqb t.payload (length s)))) (λ e. rw e) (λ e. rw e)

onward_finished : (strict : Bool) (s : List ℕ) (raw : HeaderRaw) (a : Answer Tail)
    → onward a (finished strict s raw) ≡ onward (onward a (closed strict s)) (λ w. given (collected raw w))
onward_finished strict s raw (given t) = finished_is strict s raw t
onward_finished strict s raw (refused k) = refl

-- Reading is the fold of the steps, and 129 of them are enough: any more give the same.
module _ (strict : Bool) (s : List ℕ) (bytes : Bytes s) (steps : ℕ) (enough : 128 ≤ steps) where
  from_header : (a : Answer HeaderRaw) → Roomy s a
      → onward a (λ raw. onward (options (longest strict) s 128 0 (4 + token_of raw)) (finished strict s raw))
      ≡ onward (onward a (λ raw. given (first strict raw))) (λ o. onward (walk (suc steps) s o.cursor) (λ w. given (collected o.raw w)))
  from_header (given raw) h =
      onward_finished strict s raw (options (longest strict) s 128 0 (4 + token_of raw))
      ∙ ap (λ (a : Answer Walked). onward a (λ w. given (collected raw w))) (sym (walk_is strict s h.1 bytes 128 steps 0 (4 + token_of raw) enough h.0))
  from_header (refused k) h = refl

  pub reading_is_stepping : reading strict s ≡ stepping (suc steps) strict s
  reading_is_stepping =
      (headed_opens strict s).is ∙ from_header (headed strict s) (headed_opens strict s).roomy

-- A walk starts with room for 128 options.
pub starts_with : (strict : Bool) (a : Answer HeaderRaw) (o : Started) → onward a (λ raw. given (first strict raw)) ≡ given o → o.cursor.left ≡ 128
starts_with strict (given raw) o e = sym (ap (λ (o : Started). o.cursor.left) (same_given e))
starts_with strict (refused k) o e = not_refused (sym e)

collects : (raw : HeaderRaw) (rs : List OptionRecord) (a : Answer Range)
    → onward (onward a (λ p. given (record { records = rs; payload = p }))) (λ w. given (collected raw w))
    ≡ onward a (λ p. given (collected raw (record { records = rs; payload = p })))
collects raw rs (given p) = refl
collects raw rs (refused k) = refl

module _ (strict : Bool) (s : List ℕ) (bytes : Bytes s) where
  -- A walk that isn't started: its refusal is that of reading.
  pub reading_unstarted : (k : ℕ) → start_of strict s ≡ refused k → reading strict s ≡ refused k
  reading_unstarted k e =
      reading_is_stepping strict s bytes 128 (omega arith)
      ∙ ap (λ (t : Answer Started). onward t (λ o. onward (walk 129 s o.cursor) (λ w. given (collected o.raw w)))) e

  -- One that is: reading is what the walk collects.
  reading_started : (o : Started) → start_of strict s ≡ given o → reading strict s ≡ onward (walk 129 s o.cursor) (λ w. given (collected o.raw w))
  reading_started o e =
      reading_is_stepping strict s bytes 128 (omega arith)
      ∙ ap (λ (t : Answer Started). onward t (λ o. onward (walk 129 s o.cursor) (λ w. given (collected o.raw w)))) e

  -- So it is what any loop collects that starts a walk and steps to its end.
  pub reading_is_steps : (o : Started) → start_of strict s ≡ given o → (rs : List OptionRecord) (a : Answer Range) → Run s o.cursor rs a
      → reading strict s ≡ onward a (λ p. given (collected o.raw (record { records = rs; payload = p })))
  reading_is_steps o e rs a run =
      reading_started o e
      ∙ (ap (λ (w : Answer Walked). onward w (λ w. given (collected o.raw w))) (steps_walk run 128 (omega (arith, starts_with strict (headed strict s) o e)))
      ∙ collects o.raw rs a)

  -- Reading accepts what the steps accept.
  drops : (raw : HeaderRaw) (a : Answer Walked)
      → ◌≡◌ {A = Answer (Unit {0})} (onward (onward a (λ w. given (collected raw w))) (λ _. given tt)) (onward a (λ _. given tt))
  drops raw (given w) = refl
  drops raw (refused k) = refl

  pub accepting_started : (o : Started) → start_of strict s ≡ given o → accepting strict s ≡ accepting_from s o.cursor
  accepting_started o e =
      ap (λ (a : Answer Packet). onward a (λ _. given tt)) (reading_started o e)
      ∙ (drops o.raw (walk 129 s o.cursor)
      ∙ ap (λ (n : ℕ). onward (walk (suc n) s o.cursor) (λ _. given tt)) (sym (starts_with strict (headed strict s) o e)))

  pub accepting_unstarted : (k : ℕ) → start_of strict s ≡ refused k → accepting strict s ≡ refused k
  accepting_unstarted k e = ap (λ (a : Answer Packet). onward a (λ _. given tt)) (reading_unstarted k e)
