-- What calls that are all answered leave: each answer says what was asked and that its piece was put, and the pieces one after the
-- other are the layout.
use Prim.Native.Nat.{ℕ, ◌+◌, ◌≤◌}
use mathlib.Core.Path.{◌≡◌, refl, sym, ap, subst, ◌∙◌}
use mathlib.Core.Bool.{Bool, true, false, not}
use mathlib.Core.List.{List, [], ◌∷◌}
use native.Mathlib.Nat.{zero-add}
use native.Mathlib.Omega.{arith}
use lib.Dec.{ltb, leb, eqb}
use lib.ListN.{length, take}
use lib.Seq.{sets}
use borrow.Author.Tests.{ltb-false, eqb-true, not-false, eq-eqb}
use Rattle.std.specs.Prelude.{Result, Ok}
use Rattle.ground.specs.Choice.{both}
use Rattle.ground.proofs.Choice.{on, on_lt, on_eq, not_both}
use Rattle.ground.proofs.Part.{put_front}
use Rattle.rfc.specs.Message.{Message, Opt, Rising, Options, WellFormed, option_layout, options_layout, payload_layout, layout}
use Rattle.refusal.specs.Answer.{Answer, given, written, room_from, after}
use Rattle.refusal.specs.Number.{number_of}
use Rattle.refusal.proofs.Answers.{not_refused, same_given, onward_given}
use Rattle.refusal.proofs.Distinct.{one_written}
use Rattle.refusal.specs.declared.Refusal.{Refusal}
use Rattle.class.specs.Class.{byte_of}
use Rattle.class.specs.declared.MessageClass.{MessageClass}
use Rattle.class.specs.declared.MessageClass.TheVariants.{Empty, Request, Response, Reserved}
use Rattle.header.specs.declared.Header.{Header}
use Rattle.header.proofs.Raw.{type_small}
use Rattle.placing.specs.Put.{Put}
use Rattle.placing.proofs.Puts.{put_none, put_put, put_length}
use Rattle.laying.specs.Laying.{head_layout}
use Rattle.laying.proofs.Pieces.{layout_pieces}
use Rattle.building.specs.Building.{built_of, Starts, Adds, Ends, empty_in, token_carried, strict_start, start_judged, begun, added, adding, sent_by, ending}
use Rattle.building.specs.declared.Builder.{Builder}
use Rattle.packet.specs.Limits.{max_store}
use Rattle.packet.specs.Packet.{Stores, stores, nowhere, bytes_in, bytes_of}
use Rattle.packet.specs.Meaning.{meaning}
use Rattle.packet.specs.declared.Packet.{Packet}
use Rattle.packet.specs.declared.Range.{Range}
use Rattle.judging.specs.Judge.{lengths_of}
use Rattle.judging.proofs.Good.{good}
use Rattle.reading.specs.Reading.{FromBytes}
use Rattle.measuring.specs.Measuring.{sent_payload}
use Rattle.measuring.specs.declared.Limit.TheVariants.{Unlimited}
use Rattle.measuring.proofs.Sizes.{measured_fits}
use Rattle.writing.specs.Writing.{ToBytes, bytes_written, writing}
use Rattle.writing.proofs.Sizes.{written_length}
use Rattle.writing.proofs.Answers.{writing_measured}
use Rattle.guarantees.specs.Wrote.{Wrote}
use Rattle.guarantees.specs.Apart.{TellsApart}
use Rattle.guarantees.proofs.Refusals.{output_kept, kept_by, said_apart}
use Rattle.guarantees.proofs.StrictReading.{found}
use Rattle.guarantees.proofs.RoundTrips.{front}
use Rattle.guarantees.specs.Building.{Parts, whole, sent_whole, AddsAll, Run, BuildsLayout, BuildsAsWriting, TypedOptions, Typed, BuildsWellFormed, BuiltThenRead, BuildKept, ToldApart, OneBuild, OnePiece}

-- Bytes at a place, where there was room for them.
placed : {A : Type 0} (room at : ℕ) (bytes : List ℕ) (a x : A) → room_from room at bytes a ≡ given x → (x ≡ a) × (at + length bytes ≤ room)
placed {A} room at bytes a x =
    on_lt (λ (b : Answer A). b ≡ given x → (x ≡ a) × (at + length bytes ≤ room)) room (at + length bytes)
    (λ h e. not_refused (sym e)) (λ h e. (sym (same_given e), h))

-- A call that was answered put its bytes.
put_there : {A : Type 0} (a : Answer A) (x : A) (at : ℕ) (bytes old new : List ℕ) → a ≡ given x → new ≡ after a at bytes old → Put old at bytes (at + length bytes) new
put_there a x at bytes old new e o = record { next = refl; out = rw e at o }

-- What an answered start says.
record Started (strict : Bool) (h : Header) (token old : List ℕ) (b : Builder) (new : List ℕ) : Type 0 where
  judged : strict_start strict h (length token) ≡ given tt
  is : b ≡ begun strict h token
  fits : length (head_layout h token) ≤ length old
  put : Put old 0 (head_layout h token) (length (head_layout h token)) new

started : (strict : Bool) (h : Header) (token old : List ℕ) (b : Builder) (new : List ℕ) → Starts strict h token old (Ok b) new → Started strict h token old b new
unfolding start_judged
started strict h token old b new p =
    let e = onward_given (start_judged strict h (length token)) (λ _. room_from (length old) 0 (head_layout h token) (begun strict h token)) b (sym p.answer) in
    let q = placed (length old) 0 (head_layout h token) (begun strict h token) b e.2 in
    let P : Answer (Unit {0}) → Type 0 = λ a. a ≡ given tt → strict_start strict h (length token) ≡ given tt in
    record {
      judged =
          on_lt P 3 h.version (λ v g. not_refused (sym g))
          (λ v. on_lt P 15 (length token) (λ t g. not_refused (sym g)) (λ t g. g)) e.1;
      is = q.0;
      fits = omega (arith, q.1);
      put = rw (zero-add (length (head_layout h token))) at (put_there _ b 0 (head_layout h token) old new (sym p.answer) p.output);
    }

-- What an answered option says.
record Took (b : Builder) (o : Opt) (old : List ℕ) (c : Builder) (new : List ℕ) : Type 0 where
  room : b.left ≡ 0 → ⊥
  rises : b.before ≤ o.number
  short : length o.value ≤ 65804
  carries : both b.strict b.empty ≡ false
  is : c ≡ added b o
  fits : b.at + length (option_layout b.before o) ≤ length old
  put : Put old b.at (option_layout b.before o) (b.at + length (option_layout b.before o)) new

took : (b : Builder) (o : Opt) (old : List ℕ) (c : Builder) (new : List ℕ) → Adds b o old (Ok c) new → Took b o old c new
unfolding adding
took b o old c new p =
    let bytes = option_layout b.before o in
    let put = put_there (adding b o (length old)) c b.at bytes old new (sym p.answer) p.output in
    let P : Answer Builder → Type 0 = λ a. a ≡ given c → Took b o old c new in
    on_eq P b.left 0 (λ l e. not_refused (sym e))
    (λ l. on_lt P o.number b.before (λ n e. not_refused (sym e))
    (λ n. on_lt P 65804 (length o.value) (λ v e. not_refused (sym e))
    (λ v. on P (both b.strict b.empty) (λ s e. not_refused (sym e))
    (λ s e.
    let q = placed (length old) b.at bytes (added b o) c e in
    record { room = l; rises = n; short = v; carries = s; is = q.0; fits = q.1; put = put }))))
    (sym p.answer)

-- What options say that were all taken.
pub record Filled (b : Builder) (old : List ℕ) (os : List Opt) (last : Builder) (new : List ℕ) : Type 0 where
  pub strict : last.strict ≡ b.strict
  pub empty : last.empty ≡ b.empty
  pub rising : Rising b.before os
  pub count : length os ≤ b.left
  pub values : TypedOptions os → Options os
  pub bare : both b.strict b.empty ≡ true → os ≡ []
  pub put : Put old b.at (options_layout b.before os) last.at new

pub filled : (os : List Opt) (b : Builder) (old : List ℕ) (last : Builder) (new : List ℕ) → AddsAll b old os last new → Filled b old os last new
filled [] b old last new a =
    rw (a.0, a.1) (record { strict = refl; empty = refl; rising = tt; count = omega arith; values = λ h. tt; bare = λ e. refl; put = put_none old b.at })
filled (o ∷ os) b old last new a =
    let t = took b o old a.0 a.1 a.2 in
    let f = filled os a.0 a.1 last new a.3 in
    let c = a.0 in
    let is = t.is in
    let before : c.before ≡ o.number = ap (λ (x : Builder). x.before) is in
    let at : c.at ≡ b.at + length (option_layout b.before o) = ap (λ (x : Builder). x.at) is in
    record {
      strict = f.strict ∙ ap (λ (x : Builder). x.strict) is;
      empty = f.empty ∙ ap (λ (x : Builder). x.empty) is;
      rising = (t.rises, subst (λ (n : ℕ). Rising n os) before f.rising);
      count = omega (arith, f.count, ap (λ (x : Builder). x.left) is, left_some b.left t.room);
      values = λ h. (omega (arith, h.0), t.short, h.1, f.values h.2);
      bare = λ e. absurd (let z : true ≡ false = sym e ∙ t.carries in not-true z);
      put =
          put_put _ _ _ _ _ _ _ _ t.put
          (subst (λ (n : ℕ). Put a.1 (b.at + length (option_layout b.before o)) (options_layout n os) last.at new) before
          (subst (λ (n : ℕ). Put a.1 n (options_layout c.before os) last.at new) at f.put));
    }
  where
    left_some : (n : ℕ) → (n ≡ 0 → ⊥) → 1 ≤ n
    left_some n h = omega (arith, h)

    not-true : true ≡ false → ⊥
    not-true e = let z : ◌≡◌ {A = ℕ} 0 1 = cc in omega arith

-- What an answered end says.
record Ended (b : Builder) (payload old : List ℕ) (n : ℕ) (new : List ℕ) : Type 0 where
  carries : both b.empty (both b.strict (ltb 0 (length payload))) ≡ false
  fits : n ≤ length old
  put : Put old b.at (payload_layout (sent_by b.empty payload)) n new

ended : (b : Builder) (payload old : List ℕ) (n : ℕ) (new : List ℕ) → Ends b payload old (Ok n) new → Ended b payload old n new
unfolding ending
ended b payload old n new p =
    let bytes = payload_layout (sent_by b.empty payload) in
    let put = put_there (ending b payload (length old)) n b.at bytes old new (sym p.answer) p.output in
    let P : Answer ℕ → Type 0 = λ a. a ≡ given n → Ended b payload old n new in
    on_lt P 70000 (length payload) (λ l e. not_refused (sym e))
    (λ l. on P (both b.empty (both b.strict (ltb 0 (length payload)))) (λ s e. not_refused (sym e))
    (λ s e.
    let q = placed (length old) b.at bytes (b.at + length bytes) n e in
    record { carries = s; fits = omega (arith, q.0, q.1); put = rw (sym q.0) at put }))
    (sym p.answer)

-- No bytes where there is none.
pub no_bytes : (l : List ℕ) → ltb 0 (length l) ≡ false → l ≡ []
no_bytes [] e = refl
no_bytes (b ∷ l) e = absurd (omega (arith, ltb-false 0 (length (b ∷ l)) e))

-- A test that fails after two that hold.
pub third : (a b c : Bool) → both a (both b c) ≡ false → a ≡ true → b ≡ true → c ≡ false
third a b c e p q = rw (p, q) at e

-- What a run says: its pieces were put one after the other, and strict mode had nothing to refuse.
module _ (strict : Bool) (parts : Parts) (old : List ℕ) (n : ℕ) (new : List ℕ) (run : Run strict parts old n new) where
  start : Started strict parts.header parts.token old run.first run.headed
  start = started strict parts.header parts.token old run.first run.headed run.starts

  fill : Filled (begun strict parts.header parts.token) run.headed parts.options run.last run.filled
  fill =
      subst (λ (b : Builder). Filled b run.headed parts.options run.last run.filled) start.is
      (filled parts.options run.first run.headed run.last run.filled run.adds)

  end : Ended run.last parts.payload run.filled n new
  end = ended run.last parts.payload run.filled n new run.ends

  -- An empty message in strict mode came with no payload.
  no_payload : strict ≡ true → byte_of parts.header.code ≡ 0 → parts.payload ≡ []
  no_payload t z =
      no_bytes parts.payload
      (third run.last.empty run.last.strict (ltb 0 (length parts.payload)) end.carries
      (fill.empty ∙ (ap (λ (b : Bool). empty_in b parts.header.code) t ∙ eq-eqb (byte_of parts.header.code) 0 z)) (fill.strict ∙ t))

  all_put : Put old 0 (layout (sent_whole strict parts)) n new
  all_put =
      rw (sym (layout_pieces parts.header parts.token parts.options (sent_by (empty_in strict parts.header.code) parts.payload)))
      (put_put _ _ _ _ _ _ _ _ start.put
      (put_put _ _ _ _ _ _ _ _ fill.put
      (subst (λ (e : Bool). Put run.filled run.last.at (payload_layout (sent_by e parts.payload)) n new) fill.empty end.put)))

  within : length (layout (sent_whole strict parts)) ≤ length old
  within = omega (arith, end.fits, all_put.next, put_length _ _ _ _ _ start.put, put_length _ _ _ _ _ fill.put)

  laid_out : Wrote (layout (sent_whole strict parts)) old (Ok n) new
  laid_out =
      record {
        answer = ap Ok (all_put.next ∙ zero-add (length (layout (sent_whole strict parts))));
        output = all_put.out ∙ put_front old (layout (sent_whole strict parts)) within;
      }

pub builds_layout : BuildsLayout
builds_layout = laid_out

-- A range of no bytes names none.
nothing_named : (s : Stores) → bytes_of s nowhere ≡ []
unfolding bytes_in
nothing_named s = on (λ (l : List ℕ). l ≡ []) (leb (0 + 0) (length s.datagram)) (λ h. refl) (λ h. refl)

-- The payload that writing sends is the builder's, where strict mode has none to refuse.
pub sent_bytes : (strict : Bool) (code : MessageClass) (s : Stores) (payload : Range) → (strict ≡ true → byte_of code ≡ 0 → bytes_of s payload ≡ [])
    → bytes_of s (sent_payload strict code payload) ≡ sent_by (empty_in strict code) (bytes_of s payload)
sent_bytes true code s payload f =
    on_eq (λ (l : List ℕ). bytes_of s payload ≡ l) (byte_of code) 0 (λ e. f refl e) (λ e. refl)
sent_bytes false Empty s payload f = nothing_named s
sent_bytes false (Request r) s payload f = refl
sent_bytes false (Response r) s payload f = refl
sent_bytes false (Reserved b) s payload f = refl

-- A message with another payload.
abbrev carrying : Message → List ℕ → Message
carrying m payload =
    record {
      version = m.version;
      type = m.type;
      code = m.code;
      id = m.id;
      token = m.token;
      options = m.options;
      payload = payload;
    }

module _ (strict : Bool) (parts : Parts) (old : List ℕ) (n : ℕ) (new : List ℕ) (run : Run strict parts old n new) (p : Packet) (s : Stores) (h : p.header ≡ parts.header) (e : meaning s p ≡ whole parts) where
  same_payload : bytes_of s p.payload ≡ parts.payload
  same_payload = ap (λ (m : Message). m.payload) e

  same_class : p.header.code ≡ parts.header.code
  same_class = ap (λ (x : Header). x.code) h

  same_sent : bytes_of s (sent_payload strict p.header.code p.payload) ≡ sent_by (empty_in strict parts.header.code) parts.payload
  same_sent =
      sent_bytes strict p.header.code s p.payload (λ t z. same_payload ∙ no_payload strict parts old n new run t (sym (ap byte_of same_class) ∙ z))
      ∙ (ap (λ (c : MessageClass). sent_by (empty_in strict c) (bytes_of s p.payload)) same_class
      ∙ ap (sent_by (empty_in strict parts.header.code)) same_payload)

  same_bytes : bytes_written strict s p ≡ layout (sent_whole strict parts)
  same_bytes =
      ap (λ (l : List ℕ). layout (carrying (meaning s p) l)) same_sent
      ∙ ap (λ (m : Message). layout (carrying m (sent_by (empty_in strict parts.header.code) parts.payload))) e

  same_output : (r : Result ℕ Refusal) (also : List ℕ) → ToBytes strict Unlimited p s old r also → (k : ℕ) → r ≡ Ok k → (k ≡ n) × (also ≡ new)
  same_output r also promise k is =
      let w : writing strict Unlimited (length old) s p ≡ given k = sym promise.answer ∙ ap written is in
      let f = measured_fits strict Unlimited (length old) (lengths_of s) p k (sym (writing_measured strict Unlimited (length old) s p) ∙ w) in
      let size = written_length strict s p (good (lengths_of s) p f.good) in
      let put = all_put strict parts old n new run in
      let out : also ≡ sets old 0 (bytes_written strict s p) = rw w at promise.output in
      (omega (arith, f.size, size, ap length same_bytes, put.next), out ∙ (ap (sets old 0) same_bytes ∙ sym put.out))

pub builds_as_writing : BuildsAsWriting
builds_as_writing strict parts old n new run p s h e = (same_bytes strict parts old n new run p s h e, same_output strict parts old n new run p s h e)

-- What strict mode asked of header and token.
record Asked (h : Header) (token : List ℕ) : Type 0 where
  version : h.version ≡ 1
  short : length token ≤ 8
  carried : token_carried h.code (length token) ≡ false

asked : (h : Header) (token : List ℕ) → strict_start true h (length token) ≡ given tt → Asked h token
unfolding strict_start
asked h token =
    let P : Answer (Unit {0}) → Type 0 = λ b. b ≡ given tt → Asked h token in
    on P (not (eqb h.version 1)) (λ v e. not_refused (sym e))
    (λ v. on_lt P 8 (length token) (λ t e. not_refused (sym e))
    (λ t. on P (token_carried h.code (length token)) (λ k e. not_refused (sym e))
    (λ k e. record { version = eqb-true h.version 1 (not-false (eqb h.version 1) v); short = t; carried = k })))

module _ (parts : Parts) (typed : Typed parts) (old : List ℕ) (n : ℕ) (new : List ℕ) (run : Run true parts old n new) where
  -- Strict mode sends all the parts.
  all_sent : sent_whole true parts ≡ whole parts
  all_sent =
      ap (carrying (whole parts))
      (on_eq (λ (l : List ℕ). l ≡ parts.payload) (byte_of parts.header.code) 0 (λ z. sym (no_payload true parts old n new run refl z)) (λ z. refl))

  well_formed : WellFormed (whole parts)
  well_formed =
      let a = asked parts.header parts.token (start true parts old n new run).judged in
      let f = fill true parts old n new run in
      record {
        version = a.version;
        type = omega (arith, type_small parts.header.message_type);
        code = omega (arith, typed.code);
        id = omega (arith, typed.id);
        token_length = a.short;
        token = typed.token;
        count = f.count;
        rising = f.rising;
        options = f.values typed.options;
        payload = typed.payload;
        empty = λ z.
            let t = eq-eqb (byte_of parts.header.code) 0 z in
            record {
              token = no_bytes parts.token (not_both (eqb (byte_of parts.header.code) 0) (ltb 0 (length parts.token)) a.carried t);
              options = f.bare t;
              payload = no_payload true parts old n new run refl z;
            };
      }

  laid_whole : Wrote (layout (whole parts)) old (Ok n) new
  laid_whole = subst (λ (m : Message). Wrote (layout m) old (Ok n) new) all_sent (laid_out true parts old n new run)

  read_back : n ≤ max_store → (d : Result Packet Refusal) → FromBytes true (take n new) d → (q : Packet) × (d ≡ Ok q) × ((edits : List ℕ) → meaning (stores (take n new) edits) q ≡ whole parts)
  read_back short d read =
      let put = all_put true parts old n new run in
      let same : n ≡ length (layout (whole parts)) = put.next ∙ (zero-add _ ∙ ap (λ (m : Message). length (layout m)) all_sent) in
      let bytes : take n new ≡ layout (whole parts) = ap (λ (i : ℕ). take i new) same ∙ front (layout (whole parts)) old new laid_whole.output in
      found (take n new) (omega (arith, ap length bytes)) d read (whole parts) (record { well_formed = well_formed; bytes = sym bytes })

pub builds_well_formed : BuildsWellFormed
builds_well_formed parts typed old n new run = (well_formed parts typed old n new run, laid_whole parts typed old n new run)

pub built_then_read : BuiltThenRead
built_then_read = read_back

pub build_kept : BuildKept
build_kept = (
  λ a at bytes old r new q e is. kept_by a at bytes old new (number_of e) (sym q.answer ∙ ap built_of is) q.output,
  λ b payload old r new q e is. output_kept (ending b payload (length old)) b.at (payload_layout (sent_by b.empty payload)) old r new q.answer q.output e is,
)

one_builder : TellsApart built_of
one_builder = said_apart Builder Builder built_of (λ b. b) (record { value = λ v. refl; refusal = λ e. refl; one = λ v w e. e })

pub told_apart : ToldApart
told_apart = record { builders = one_builder }

pub one_build : OneBuild
one_build a at bytes old r q new also x y = (one_builder r q (x.answer ∙ sym y.answer), x.output ∙ sym y.output)

pub one_piece : OnePiece
one_piece a at bytes old r q new also x y = (one_written r q (x.answer ∙ sym y.answer), x.output ∙ sym y.output)
