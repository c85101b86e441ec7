-- The loops that put values.
use Prim.Native.Nat.{ℕ, zero, suc, ◌+◌, ◌-◌, ◌<◌, ◌≤◌}
use mathlib.Core.Path.{◌≡◌, refl, sym, ap, subst, ◌∙◌}
use mathlib.Core.List.{List, [], ◌∷◌, ◌++◌, append_assoc, append-nil}
use native.Mathlib.Nat.{add-zero, zero-add, zero-sub}
use native.Mathlib.Numerals.{add-one}
use native.Mathlib.Omega.{arith}
use lib.Dec.{eqb}
use lib.ListN.{length, take, drop, set, length-append, length-drop, length-set}
use lib.Seq.{sets, length-sets, drop-drop, take-nil, take-length}
use Rattle.ground.proofs.Choice.{on, by_eq}
use Rattle.ground.proofs.Part.{sets_append}
use Rattle.rfc.specs.Uri.{Kind, segment, query}
use Rattle.rfc.specs.Percent.{good, bad_text, on_good, before, any, decode}
use Rattle.rfc.specs.Target.{Target, path_of, query_of, split, parts, segments_of}
use Rattle.rfc.specs.Text.{joined}
use Rattle.rfc.proofs.Percent.{no_text, good_same, on_good_lem, before_good, decoded}
use Rattle.placing.specs.Put.{Put}
use Rattle.placing.proofs.Puts.{put_put}
use Rattle.percent.proofs.Stepping.{Took}
use Rattle.uri_text.specs.Reading.{ruled, value_of, values_of, reading}
use Rattle.uri_text.specs.Tally.{first_length, total}
use Rattle.uri_text.proofs.Said.{ruled_says}
use Rattle.uri_text.proofs.Tallying.{first_small, split_last, split_next, parts_some, rest_all, path_take, query_drop, queried}
use Rattle.packet.specs.Limits.{max_options}
use Rattle.packet.specs.declared.OptionRecord.{OptionRecord}
use Rattle.packet.specs.declared.Home.TheVariants.{Edits}
use Rattle.target_reading.specs.FromText.{records_at}
use Rattle.target_reading.specs.Placing.{goods, bytes_of, Places, values_in, Placeable, Fills}
use Rattle.target_reading.specs.declared.Filled.{Filled}

-- What was put, and what is left to decode, are the whole value.
pub record Decoding (kind : Kind) (s v old : List ℕ) (at : ℕ) (new : List ℕ) (next i : ℕ) : Type 0 where
  pub front : List ℕ
  pub rest : List ℕ
  pub put : Put old at front next new
  pub left : decode kind (drop i s) ≡ good rest
  pub all : front ++ rest ≡ v

pub decoding_start : (kind : Kind) (s v old : List ℕ) (at : ℕ) → decode kind s ≡ good v → Decoding kind s v old at old at 0
decoding_start kind s v old at e = record { front = []; rest = v; put = record { next = sym (add-zero at); out = refl }; left = e; all = refl }

module _ (kind : Kind) (s v old : List ℕ) (at : ℕ) (new : List ℕ) (next i : ℕ) (w : Decoding kind s v old at new next i) where
  pub decoding_kept : length new ≡ length old
  decoding_kept = ap length w.put.out ∙ length-sets old at w.front

  pub decoding_end : decode kind (drop i s) ≡ good [] → Put old at v next new
  decoding_end h =
      let n : [] ≡ w.rest = good_same [] w.rest (sym h ∙ w.left) in
      let e : w.front ≡ v = sym (append-nil w.front) ∙ (ap (λ (x : List ℕ). w.front ++ x) n ∙ w.all) in
      subst (λ (x : List ℕ). Put old at x next new) e w.put

  pub decoding_never : decode kind (drop i s) ≡ bad_text → ⊥
  decoding_never e = no_text w.rest (sym e ∙ w.left)

  module _ (b after : ℕ) (t : Took kind any s i b after) where
    pub decoding_room : at + length v ≤ length old → next < length new
    decoding_room r =
        before_good (λ x. w.front ++ x ≡ v → next < length new) b (decode kind (drop after s)) w.rest (sym t.is ∙ w.left)
        (λ x q e. omega (arith, decoding_kept, w.put.next, sym (ap length e) ∙ length-append w.front (b ∷ x))) w.all

    pub decoding_turn : Decoding kind s v old at (set new next b) (next + 1) after
    decoding_turn =
        before_good (λ x. w.front ++ x ≡ v → Decoding kind s v old at (set new next b) (next + 1) after) b (decode kind (drop after s)) w.rest (sym t.is ∙ w.left)
        (λ x q e. record {
          front = w.front ++ (b ∷ []);
          rest = x;
          put = put_put old new (set new next b) w.front (b ∷ []) at next (next + 1) w.put (record { next = refl; out = refl });
          left = q;
          all = append_assoc w.front (b ∷ []) x ∙ e;
        }) w.all

-- Values that are still owed: once they are put, all are.
pub record Owing (number : ℕ) (vs : List (List ℕ)) (old : List ℕ) (f : Filled) (rest : List (List ℕ)) (new : List ℕ) (options : List OptionRecord) (count at : ℕ) : Type 0 where
  pub few : count + length rest ≤ max_options
  pub room : at + total rest ≤ length new
  pub array : length options ≡ max_options
  pub kept : length new ≡ length old
  pub records : sets options count (records_at number at rest) ≡ sets f.options f.count (records_at number f.at vs)
  pub bytes : sets new at (joined rest) ≡ sets old f.at (joined vs)
  pub counts : count + length rest ≡ f.count + length vs
  pub places : at + total rest ≡ f.at + total vs

module _ (number : ℕ) (vs : List (List ℕ)) (old : List ℕ) (f : Filled) where
  abbrev made : (at len : ℕ) → OptionRecord
  made at len = record { number = number; home = Edits; spare = 0; start = at; len = len }

  pub owing_step : (v : List ℕ) (ws : List (List ℕ)) (new : List ℕ) (options : List OptionRecord) (count at : ℕ) → Owing number vs old f (v ∷ ws) new options count at → (next : ℕ) (newer : List ℕ) → Put new at v next newer → Owing number vs old f ws newer (set options count (made at (next - at))) (count + 1) next
  owing_step v ws new options count at w next newer p =
      let n : length newer ≡ length new = ap length p.out ∙ length-sets new at v in
      let l : next - at ≡ length v = omega (arith, p.next) in
      record {
        few = omega (arith, w.few);
        room = omega (arith, w.room, n, p.next);
        array = length-set options count (made at (next - at)) ∙ w.array;
        kept = n ∙ w.kept;
        records =
            ap (λ (k : ℕ). sets (set options count (made at k)) (count + 1) (records_at number next ws)) l
            ∙ (ap (λ (k : ℕ). sets (set options count (made at (length v))) k (records_at number next ws)) (add-one count)
            ∙ (ap (λ (k : ℕ). sets (set options count (made at (length v))) (suc count) (records_at number k ws)) p.next ∙ w.records));
        bytes =
            ap (λ (k : ℕ). sets newer k (joined ws)) p.next
            ∙ (ap (λ (x : List ℕ). sets x (at + length v) (joined ws)) p.out ∙ (sym (sets_append new at v (joined ws)) ∙ w.bytes));
        counts = omega (arith, w.counts);
        places = omega (arith, w.places, p.next);
      }

-- A part's own value, and those of the parts after it.
pub record Firsts (kind : Kind) (count : ℕ) (p : List ℕ) (ss rest : List (List ℕ)) : Type 0 where
  pub after : List (List ℕ)
  pub decodes : decode kind p ≡ good (bytes_of kind p)
  pub both : rest ≡ (bytes_of kind p ∷ after)
  pub later : values_of kind (count + 1) ss ≡ good after

pub firsts : (kind : Kind) (count : ℕ) (p : List ℕ) (ss rest : List (List ℕ)) → values_of kind count (p ∷ ss) ≡ good rest → Firsts kind count p ss rest
firsts kind count p ss rest e =
    on_good_lem (value_of kind count p) (λ v. before v (values_of kind (count + 1) ss)) rest (Firsts kind count p ss rest) e
    (λ v q r. before_good (Firsts kind count p ss) v (values_of kind (count + 1) ss) rest r
    (λ ws l. on_good_lem (decode kind p) (ruled kind count) v (Firsts kind count p ss (v ∷ ws)) q
    (λ x d g.
    let b : bytes_of kind p ≡ x = ap goods d in
    let y : x ≡ v = (ruled_says kind count x v (decoded kind any p x tt d).bytes g).0 in
    record { after = ws; decodes = d ∙ ap good (sym b); both = ap (λ (z : List ℕ). z ∷ ws) (sym (b ∙ y)); later = l })))

-- Before a part: what is owed is what the parts from here on say.
pub record Filling (kind : Kind) (number sep : ℕ) (s : List ℕ) (vs : List (List ℕ)) (old : List ℕ) (f : Filled) (new : List ℕ) (options : List OptionRecord) (count at from : ℕ) : Type 0 where
  pub rest : List (List ℕ)
  pub left : values_of kind count (split sep (drop from s)) ≡ good rest
  pub place : from ≤ length s
  pub owing : Owing number vs old f rest new options count at

pub filling_start : (kind : Kind) (number sep : ℕ) (s old : List ℕ) (f : Filled) → Placeable kind sep s old f → (length s ≡ 0 → ⊥) → Filling kind number sep s (values_in kind sep s f.count) old f old f.options f.count f.at 0
filling_start kind number sep s old f p h =
    record {
      rest = values_in kind sep s f.count;
      left = ap (values_of kind f.count) (sym (parts_some sep s h)) ∙ p.good;
      place = omega arith;
      owing = record { few = p.few; room = p.room; array = p.array; kept = refl; records = refl; bytes = refl; counts = refl; places = refl };
    }

-- Where there is no text there is nothing to put.
pub filling_none : (kind : Kind) (number sep : ℕ) (s old : List ℕ) (f r : Filled) → length s ≡ 0 → r ≡ f → Fills kind number sep s old f r old
filling_none kind number sep [] old f r h e =
    record {
      options = ap (λ (x : Filled). x.options) e;
      count = ap (λ (x : Filled). x.count) e ∙ sym (add-zero f.count);
      at = ap (λ (x : Filled). x.at) e ∙ sym (add-zero f.at);
      store = refl;
    }
filling_none kind number sep (c ∷ s) old f r h e = absurd (omega arith)

module _ (kind : Kind) (number sep : ℕ) (s : List ℕ) (vs : List (List ℕ)) (old : List ℕ) (f : Filled) (new : List ℕ) (options : List OptionRecord) (count at from : ℕ) (w : Filling kind number sep s vs old f new options count at from)
    (end : ℕ) (found : end ≡ from + first_length sep (drop from s)) where
  pub end_inside : end ≤ length s
  end_inside = omega (arith, found, first_small sep (drop from s), length-drop from s, w.place)

  -- The part that ends here.
  abbrev this : List ℕ
  this = take (end - from) (drop from s)

  -- The parts after it.
  abbrev others : (ss : List (List ℕ)) → Type 0
  others ss = split sep (drop from s) ≡ (this ∷ ss)

  last_part : end ≡ length s → others []
  last_part e =
      let x : List ℕ = drop from s in
      let k : first_length sep x ≡ length x = omega (arith, found, length-drop from s, w.place) in
      let m : end - from ≡ length x = omega (arith, found, length-drop from s, w.place) in
      split_last sep x k ∙ ap (λ (p : List ℕ). p ∷ []) (sym (ap (λ (n : ℕ). take n x) m ∙ take-length x))

  next_part : (end ≡ length s → ⊥) → others (split sep (drop (end + 1) s))
  next_part e =
      let x : List ℕ = drop from s in
      let k : first_length sep x < length x = omega (arith, found, length-drop from s, w.place, end_inside) in
      let m : end - from ≡ first_length sep x = omega (arith, found) in
      let n : from + suc (first_length sep x) ≡ end + 1 = omega (arith, found) in
      let t : drop (suc (first_length sep x)) x ≡ drop (end + 1) s = drop-drop (suc (first_length sep x)) from s ∙ ap (λ (n : ℕ). drop n s) n in
      split_next sep x k ∙ (ap (λ (n : ℕ). take n x ∷ split sep (drop (suc (first_length sep x)) x)) (sym m) ∙ ap (λ (y : List ℕ). take (end - from) x ∷ split sep y) t)

  split_here : (ss : List (List ℕ)) → others ss → Firsts kind count this ss w.rest
  split_here ss o = firsts kind count this ss w.rest (ap (values_of kind count) (sym o) ∙ w.left)

  some : {A : Type 0} → ((ss : List (List ℕ)) → others ss → A) → A
  some k = by_eq end (length s) (λ e. k [] (last_part e)) (λ e. k (split sep (drop (end + 1) s)) (next_part e))

  pub places_here : Places kind this new at
  places_here =
      some (λ ss o.
      let g = split_here ss o in
      record { good = g.decodes; room = omega (arith, w.owing.room, ap total g.both) })

  pub count_here : count < max_options
  count_here = some (λ ss o. let g = split_here ss o in omega (arith, w.owing.few, ap length g.both))

  module _ (next : ℕ) (newer : List ℕ) (p : Put new at (bytes_of kind this) next newer) where
    moved : (ss : List (List ℕ)) (g : Firsts kind count this ss w.rest) → Owing number vs old f g.after newer (set options count (made number vs old f at (next - at))) (count + 1) next
    moved ss g =
        owing_step number vs old f (bytes_of kind this) g.after new options count at
        (subst (λ (r : List (List ℕ)). Owing number vs old f r new options count at) g.both w.owing) next newer p

    pub next_inside : (at ≤ next) × (next ≤ length new)
    next_inside = let k = places_here in (omega (arith, p.next), omega (arith, p.next, k.room))

    pub filling_turn : (end ≡ length s → ⊥) → Filling kind number sep s vs old f newer (set options count (made number vs old f at (next - at))) (count + 1) next (end + 1)
    filling_turn e =
        let g = split_here (split sep (drop (end + 1) s)) (next_part e) in
        record { rest = g.after; left = g.later; place = omega (arith, end_inside); owing = moved (split sep (drop (end + 1) s)) g }

    pub filling_end : (end ≡ length s) → Owing number vs old f [] newer (set options count (made number vs old f at (next - at))) (count + 1) next
    filling_end e =
        let g = split_here [] (last_part e) in
        subst (λ (r : List (List ℕ)). Owing number vs old f r newer (set options count (made number vs old f at (next - at))) (count + 1) next) (sym (good_same [] g.after g.later)) (moved [] g)

-- Nothing is owed any more.
pub filled_all : (kind : Kind) (number sep : ℕ) (s old : List ℕ) (f : Filled) (new : List ℕ) (options : List OptionRecord) (count at : ℕ) → Owing number (values_in kind sep s f.count) old f [] new options count at → Fills kind number sep s old f (record { options = options; count = count; at = at }) new
filled_all kind number sep s old f new options count at w =
    record { options = w.records; count = omega (arith, w.counts); at = omega (arith, w.places); store = w.bytes }

-- Records put one after the other.
pub records_append : (l : List OptionRecord) (i : ℕ) (vs ws : List OptionRecord) → sets l i (vs ++ ws) ≡ sets (sets l i vs) (i + length vs) ws
records_append l i [] ws = rw add-zero
records_append l i (v ∷ vs) ws =
    records_append (set l i v) (suc i) vs ws ∙ ap (λ (k : ℕ). sets (sets l i (v ∷ vs)) k ws) (omega arith)

pub records_count : (number at : ℕ) (vs : List (List ℕ)) → length (records_at number at vs) ≡ length vs
records_count number at [] = refl
records_count number at (v ∷ vs) = ap suc (records_count number (at + length v) vs)

pub joined_length : (vs : List (List ℕ)) → length (joined vs) ≡ total vs
joined_length [] = refl
joined_length (v ∷ vs) = length-append v (joined vs) ∙ ap (λ (n : ℕ). length v + n) (joined_length vs)

-- Path and query of a text that is read, by the place of its first `?`.
segments_parts : (p : List ℕ) (ss : List (List ℕ)) → segments_of p ≡ good ss → ss ≡ parts 0x2F (drop 1 p)
segments_parts [] ss e = sym (good_same [] ss e)
segments_parts (c ∷ p) ss e =
    on (λ r. r ≡ good ss → ss ≡ parts 0x2F p) (eqb c 0x2F) (λ _ q. sym (good_same (parts 0x2F p) ss q)) (λ _ q. absurd (no_text ss q)) e

after_first : (n : ℕ) (s : List ℕ) → take (n - 1) (drop 1 s) ≡ drop 1 (take n s)
after_first zero [] = refl
after_first zero (c ∷ s) = ap (λ (k : ℕ). take k s) (zero-sub 1)
after_first (suc n) [] = take-nil (suc n - 1)
after_first (suc n) (c ∷ s) = ap (λ (k : ℕ). take k s) (suc_sub_one n)
  where
    suc_sub_one : (n : ℕ) → suc n - 1 ≡ n
    suc_sub_one n = omega arith

module _ (s : List ℕ) (t : Target) (e : reading s ≡ good t) (mark : ℕ) (found : mark ≡ 0 + first_length 0x3F s) where
  at_mark : mark ≡ first_length 0x3F s
  at_mark = found ∙ zero-add (first_length 0x3F s)

  pub segments_read : values_of segment 0 (parts 0x2F (take (mark - 1) (drop 1 s))) ≡ good t.path
  unfolding reading
  segments_read =
      on_good_lem (segments_of (path_of s)) (λ ss. on_good (values_of segment 0 ss) (queried s)) t (values_of segment 0 (parts 0x2F (take (mark - 1) (drop 1 s))) ≡ good t.path) e
      (λ ss q r. on_good_lem (values_of segment 0 ss) (queried s) t (values_of segment 0 (parts 0x2F (take (mark - 1) (drop 1 s))) ≡ good t.path) r
      (λ path p r₂. on_good_lem (values_of query (length path) (parts 0x26 (query_of s))) (λ qs. good (record { path = path; query = qs })) t (values_of segment 0 (parts 0x2F (take (mark - 1) (drop 1 s))) ≡ good t.path) r₂
      (λ qs g r₃.
      let same : record { path = path; query = qs } ≡ t = good_same (record { path = path; query = qs }) t r₃ in
      let text : take (mark - 1) (drop 1 s) ≡ drop 1 (path_of s) = after_first mark s ∙ ap (drop 1) (ap (λ (n : ℕ). take n s) at_mark ∙ sym (path_take s)) in
      ap (λ (x : List ℕ). values_of segment 0 (parts 0x2F x)) text
      ∙ (ap (values_of segment 0) (sym (segments_parts (path_of s) ss q)) ∙ (p ∙ ap (λ (x : Target). good x.path) same)))))

  pub query_read : values_of query (length t.path) (parts 0x26 (take (length s - (mark + 1)) (drop (mark + 1) s))) ≡ good t.query
  unfolding reading
  query_read =
      on_good_lem (segments_of (path_of s)) (λ ss. on_good (values_of segment 0 ss) (queried s)) t (values_of query (length t.path) (parts 0x26 (take (length s - (mark + 1)) (drop (mark + 1) s))) ≡ good t.query) e
      (λ ss q r. on_good_lem (values_of segment 0 ss) (queried s) t (values_of query (length t.path) (parts 0x26 (take (length s - (mark + 1)) (drop (mark + 1) s))) ≡ good t.query) r
      (λ path p r₂. on_good_lem (values_of query (length path) (parts 0x26 (query_of s))) (λ qs. good (record { path = path; query = qs })) t (values_of query (length t.path) (parts 0x26 (take (length s - (mark + 1)) (drop (mark + 1) s))) ≡ good t.query) r₂
      (λ qs g r₃.
      let same : record { path = path; query = qs } ≡ t = good_same (record { path = path; query = qs }) t r₃ in
      let text : take (length s - (mark + 1)) (drop (mark + 1) s) ≡ query_of s = rest_all (mark + 1) s ∙ (ap (λ (n : ℕ). drop n s) (add-one mark ∙ ap suc at_mark) ∙ sym (query_drop s)) in
      ap (λ (x : List ℕ). values_of query (length t.path) (parts 0x26 x)) text
      ∙ (ap (λ (x : Target). values_of query (length x.path) (parts 0x26 (query_of s))) (sym same) ∙ (g ∙ ap (λ (x : Target). good x.query) same)))))
