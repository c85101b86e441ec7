-- What a text that is read says can be said: its values are bytes that meet the rules, and none stands for one empty value.
use Prim.Native.Nat.{ℕ, ◌+◌, ◌*◌, ◌≤◌}
use mathlib.Core.Path.{◌≡◌, refl, subst, ◌∙◌}
use mathlib.Core.Bool.{Bool, true, false}
use mathlib.Core.List.{List, [], ◌∷◌}
use native.Mathlib.Omega.{arith}
use lib.Dec.{T, eqb, ltb}
use lib.ListN.{length}
use borrow.Author.Tests.{ltb-false, eqb-true}
use Rattle.ground.specs.Choice.{either}
use Rattle.ground.specs.Part.{Bytes}
use Rattle.ground.proofs.Choice.{on, neither}
use Rattle.rfc.specs.Uri.{Kind, segment, query}
use Rattle.rfc.specs.Percent.{good, before, on_good, any, decode}
use Rattle.rfc.specs.Target.{Target, path_of, query_of, parts, segments_of, dotted, one_empty}
use Rattle.rfc.proofs.Uri.{not-false}
use Rattle.rfc.proofs.Percent.{no_text, no_option, good_same, on_good_lem, before_good, Decoded, decoded}
use Rattle.rfc.proofs.Target.{parts_more}
use Rattle.utf8.specs.Walk.{text}
use Rattle.utf8.proofs.Grammar.{texts}
use Rattle.uri_text.specs.Reading.{ruled, value_of, values_of, reading}
use Rattle.uri_text.specs.Sayable.{Sayable, AllSayable, SayableTarget}

holds : (t : Bool) → t ≡ true → T t
holds true e = tt
holds false e = absurd (not-false false e refl)

pub ruled_says : (kind : Kind) (index : ℕ) (v w : List ℕ) → Bytes v → ruled kind index v ≡ good w → (v ≡ w) × Sayable kind v
unfolding ruled
ruled_says kind index v w b e =
    on (λ r. r ≡ good w → (v ≡ w) × Sayable kind v) (text v)
    (λ u. on (λ r. r ≡ good w → (v ≡ w) × Sayable kind v) (either (ltb 255 (length v)) (dotted kind v))
    (λ _. λ q. absurd (no_option index w q))
    (λ n. λ q.
    let f : (ltb 255 (length v) ≡ false) × (dotted kind v ≡ false) = neither (ltb 255 (length v)) (dotted kind v) n in
    (good_same v w q, record { bytes = b; utf8 = (texts v).0 (holds (text v) u); short = ltb-false 255 (length v) f.0; undotted = f.1 })))
    (λ _. λ q. absurd (no_text w q)) e

pub value_says : (kind : Kind) (index : ℕ) (s w : List ℕ) → value_of kind index s ≡ good w → Sayable kind w × (length s ≤ 3 * length w)
value_says kind index s w e =
    on_good_lem (decode kind s) (λ v. ruled kind index v) w (Sayable kind w × (length s ≤ 3 * length w)) e
    (λ v q r.
    let d : Decoded any s v = decoded kind any s v tt q in
    let f : (v ≡ w) × Sayable kind v = ruled_says kind index v w d.bytes r in
    subst (λ (x : List ℕ). Sayable kind x × (length s ≤ 3 * length x)) f.0 (f.1, omega (arith, d.long)))

-- What the values of parts say of the parts.
pub record Said (kind : Kind) (ss vs : List (List ℕ)) : Type 0 where
  pub all : AllSayable kind vs
  pub none : vs ≡ [] → ss ≡ []
  pub one : one_empty vs ≡ true → ss ≡ ([] ∷ [])

only : (v : List ℕ) (ws : List (List ℕ)) → one_empty (v ∷ ws) ≡ true → (length v ≡ 0) × (ws ≡ [])
only v [] e = (eqb-true (length v) 0 e, refl)
only v (w ∷ ws) e = absurd (not-false false e refl)

no_length : (s : List ℕ) → length s ≤ 0 → s ≡ []
no_length [] h = refl
no_length (x ∷ s) h = absurd (omega arith)

pub values_say : (kind : Kind) (index : ℕ) (ss vs : List (List ℕ)) → values_of kind index ss ≡ good vs → Said kind ss vs
values_say kind index [] vs e =
    subst (Said kind []) (good_same [] vs e) (record { all = tt; none = λ _. refl; one = λ q. absurd (not-false false q refl) })
values_say kind index (s ∷ ss) vs e =
    on_good_lem (value_of kind index s) (λ v. before v (values_of kind (index + 1) ss)) vs (Said kind (s ∷ ss) vs) e
    (λ v q r. before_good (Said kind (s ∷ ss)) v (values_of kind (index + 1) ss) vs r
    (λ ws p.
    let f : Sayable kind v × (length s ≤ 3 * length v) = value_says kind index s v q in
    let more : Said kind ss ws = values_say kind (index + 1) ss ws p in
    record {
      all = (f.0, more.all);
      none = λ z. let y : ◌≡◌ {A = ℕ} 0 1 = cc in absurd (omega arith);
      one = λ o.
          let l : (length v ≡ 0) × (ws ≡ []) = only v ws o in
          let a : s ≡ [] = no_length s (omega (arith, f.1, l.0)) in
          let b : ss ≡ [] = more.none l.1 in
          cc;
    }))

segments_more : (p : List ℕ) (ss : List (List ℕ)) → segments_of p ≡ good ss → ss ≡ ([] ∷ []) → ⊥
segments_more [] ss e q = let r : [] ≡ ss = good_same [] ss e in let z : ◌≡◌ {A = ℕ} 0 1 = cc in omega arith
segments_more (c ∷ p) ss e q =
    on (λ r. r ≡ good ss → ⊥) (eqb c 0x2F) (λ _. λ g. parts_more 0x2F p (good_same (parts 0x2F p) ss g ∙ q)) (λ _. λ g. no_text ss g) e

not-true : (t : Bool) → (t ≡ true → ⊥) → t ≡ false
not-true true f = absurd (f refl)
not-true false f = refl

pub says : (s : List ℕ) (t : Target) → reading s ≡ good t → SayableTarget t
unfolding reading
says s t e =
    on_good_lem (segments_of (path_of s))
    (λ ss. on_good (values_of segment 0 ss) (λ path. on_good (values_of query (length path) (parts 0x26 (query_of s))) (λ qs. good (record { path = path; query = qs }))))
    t (SayableTarget t) e
    (λ ss q r. on_good_lem (values_of segment 0 ss)
    (λ path. on_good (values_of query (length path) (parts 0x26 (query_of s))) (λ qs. good (record { path = path; query = qs })))
    t (SayableTarget t) r
    (λ path p r₂. on_good_lem (values_of query (length path) (parts 0x26 (query_of s))) (λ qs. good (record { path = path; query = qs }))
    t (SayableTarget t) r₂
    (λ qs g r₃.
    let a : Said segment ss path = values_say segment 0 ss path p in
    let b : Said query (parts 0x26 (query_of s)) qs = values_say query (length path) (parts 0x26 (query_of s)) qs g in
    subst SayableTarget (good_same (record { path = path; query = qs }) t r₃)
    (record {
      segments = a.all;
      parts = b.all;
      path = not-true (one_empty path) (λ o. segments_more (path_of s) ss q (a.one o));
      query = not-true (one_empty qs) (λ o. parts_more 0x26 (query_of s) (b.one o));
    }))))
