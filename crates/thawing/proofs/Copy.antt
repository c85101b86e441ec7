-- Copying the bytes of a message's chunks: what is known before each chunk, and how a turn goes.
use Prim.Native.Nat.{ℕ, ◌+◌, ◌-◌, ◌<◌, ◌≤◌, min}
use mathlib.Core.Path.{◌≡◌, sym, ap, subst, ◌∙◌}
use mathlib.Core.List.{List, ◌∷◌, ◌++◌, append_assoc}
use native.Mathlib.Omega.{arith}
use lib.ListN.{length, take, drop, length-take, length-drop, take-append-drop, drop_of_length-le}
use Rattle.ground.specs.Part.{part}
use Rattle.refusal.specs.Answer.{Answer, given, refused}
use Rattle.refusal.proofs.Answers.{Given}
use Rattle.placing.specs.Put.{Puts}
use Rattle.placing.proofs.Puts.{Putting, putting_start, putting_turn, putting_end}
use Rattle.stream.specs.declared.Form.{Form}
use Rattle.stream.specs.Stream.{full, head_size, chunk_of, chunk_count, chunks_of}
use Rattle.stream.specs.Messages.{Body, body_at, end_of_chunk}
use Rattle.stream.proofs.Sound.{Stands, body_sound, full_some}
use Rattle.stream.proofs.Complete.{Chunked, chunk_complete, chunks_first}
use Rattle.stream.proofs.Chunks.{next_rest, next_length}
use Rattle.thawing.specs.Message.{body_bytes}

-- The chunks of these bytes stand at a position.
pub record Standing (form : Form) (s : List ℕ) (at : ℕ) (x : List ℕ) : Type 0 where
  pub rest : List ℕ
  pub inside : at ≤ length s
  pub bytes : drop at s ≡ chunks_of form (chunk_count form (length x)) x ++ rest

standing_by : (form : Form) (s : List ℕ) (from : ℕ) (a : Answer Body) → Given (Stands form s (full form) from) a → 0 < length (body_bytes a) → Standing form s from (body_bytes a)
standing_by form s from (given b) h l = record { rest = 3 ∷ drop b.next s; inside = omega (arith, h.room, h.inside); bytes = h.bytes }
standing_by form s from (refused k) h l = absurd (omega arith)

-- The first of them.
pub standing_chunk : (form : Form) (s : List ℕ) (at : ℕ) (x : List ℕ) (w : Standing form s at x) → 1 ≤ length x
    → Chunked form s at (take (full form) x) (chunks_of form (chunk_count form (length (drop (full form) x))) (drop (full form) x) ++ w.rest)
standing_chunk form s at x w some =
    let c : List ℕ = take (full form) x in
    let r : List ℕ = chunks_of form (chunk_count form (length (drop (full form) x))) (drop (full form) x) in
    let k : length c ≡ min (full form) (length x) = length-take (full form) x in
    chunk_complete form s at c (r ++ w.rest) (omega (arith, full_some form)) (omega arith) w.inside
    (w.bytes ∙ (ap (λ (l : List ℕ). l ++ w.rest) (chunks_first form x some) ∙ append_assoc (chunk_of form c) r w.rest))

-- Before a chunk: once the bytes that are left are put, all are; and their chunks stand in the stream.
pub record CopyWalk (form : Form) (s d old : List ℕ) (to : ℕ) (new : List ℕ) (at done next : ℕ) : Type 0 where
  pub put : Putting old to d new next (drop done d)
  pub inside : done ≤ length d
  pub stands : done < length d → Standing form s at (drop done d)

pub copy_start : (form : Form) (s old : List ℕ) (to from : ℕ) → CopyWalk form s (body_bytes (body_at form s (length s) (full form) from)) old to old from 0 to
copy_start form s old to from =
    let d : List ℕ = body_bytes (body_at form s (length s) (full form) from) in
    record {
      put = putting_start old to d;
      inside = omega arith;
      stands = standing_by form s from (body_at form s (length s) (full form) from) (body_sound form s (length s) (full form) from);
    }

module _ (form : Form) (s d old : List ℕ) (to : ℕ) (new : List ℕ) (at done next : ℕ) (w : CopyWalk form s d old to new at done next) where
  pub copy_done : length d ≤ done → Puts old to d next new
  copy_done h = putting_end w.put (drop_of_length-le d h)

  module _ (n : ℕ) (h : done < length d) (least : n ≡ min (full form) (length d - done)) where
    pub copy_chunk : Chunked form s at (take (full form) (drop done d)) (chunks_of form (chunk_count form (length (drop (full form) (drop done d)))) (drop (full form) (drop done d)) ++ (w.stands h).rest)
    copy_chunk = standing_chunk form s at (drop done d) (w.stands h) (rw length-drop (omega arith))

    pub copy_part : part s (at + head_size form) n ≡ take (full form) (drop done d)
    copy_part = ap (part s (at + head_size form)) (sym (next_length form d done n least)) ∙ copy_chunk.bytes

    pub copy_inside : end_of_chunk form at n ≤ length s
    copy_inside = subst (λ (k : ℕ). end_of_chunk form at k ≤ length s) (next_length form d done n least) copy_chunk.inside

    pub copy_turn : (r : ℕ) (newer : List ℕ) → Puts new next (take (full form) (drop done d)) r newer → CopyWalk form s d old to newer (end_of_chunk form at n) (done + n) r
    copy_turn r newer p =
        let c : List ℕ = take (full form) (drop done d) in
        let e : drop done d ≡ c ++ drop (done + n) d =
        sym (take-append-drop (full form) (drop done d)) ∙ ap (λ (l : List ℕ). c ++ l) (sym (next_rest form d done n least)) in
        record {
          put = putting_turn w.put e p;
          inside = omega arith;
          stands = λ l. record {
            rest = (w.stands h).rest;
            inside = copy_inside;
            bytes = ap (λ (k : ℕ). drop (end_of_chunk form at k) s) (sym (next_length form d done n least)) ∙ (copy_chunk.after
                ∙ ap (λ (y : List ℕ). chunks_of form (chunk_count form (length y)) y ++ (w.stands h).rest) (sym (next_rest form d done n least)));
          };
        }
