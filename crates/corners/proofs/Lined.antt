-- The channels in line: one more channel, absent or put in its place, and which channels there are at the end. Assumes nothing.
use mathlib.Core.Path.{◌≡◌, sym, subst, ◌∙◌}
use mathlib.Core.Logic.{◌⊎◌, inl, inr}
use mathlib.Core.Bool.{Bool, not, ◌&&◌}
use mathlib.Core.List.Memᴰ
use mathlib.Core.List.{List, [], ◌∷◌}
use Prim.Native.Nat.{ℕ, suc, zero, ◌+◌, ◌-◌, ◌≤◌, ◌<◌}
use native.Mathlib.Nat.{le_refl, eq-or-lt_of_le}
use native.Mathlib.Omega.{arith}
use lib.Dec.{T, T_not, eqb}
use lib.Ieee.{Float, eq}
use lib.Ieee.Fits.{and_i, and_l, and_r}
use Rattle.ieee.specs.Units.{F32}
use Rattle.ieee.proofs.Compare.{eq→, →eq}
use Rattle.vectors.specs.declared.Vec3.{Vec3}
use Rattle.corners.specs.Choice.{every_of}
use Rattle.corners.specs.Table.{Table, alike, distinct}
use Rattle.corners.proofs.Lists.{In, Each, keep→, →keep, every→}
use Rattle.corners.proofs.Tables.{all_tame}
use Rattle.corners.specs.EqualRuns.{Members}
use Rattle.corners.specs.SpeakerOrder.{precedes, is_marked, speakers_of, Inserted, InLine}
use Rattle.corners.proofs.Rising.{less_or_not}
use Rattle.corners.proofs.Lexical.{Fine, Lex, lex_of, of_lex, other_way, lex_chain}

-- ---- the channels from a on
from_to : ℕ → ℕ → List ℕ
from_to a zero = []
from_to a (suc m) = a ∷ from_to (suc a) m

in_from : (m a k : ℕ) → a ≤ k → k < a + m → In k (from_to a m)
unfolding from_to
in_from zero a k h i = absurd (omega arith)
in_from (suc m) a k h i = elim (eq-or-lt_of_le h) [
  | inl e ↦ Memᴰ.head (sym e)
  | inr l ↦ Memᴰ.tail (in_from m (suc a) k (omega arith) (omega arith))
]

from_in : (m a k : ℕ) → In k (from_to a m) → k < a + m
unfolding from_to
from_in zero a k h = absurd (Memᴰ.not-nil h)
from_in (suc m) a k h = elim (Memᴰ.cases_cons h) [
  | inl e ↦ omega arith
  | inr l ↦ let i = from_in m (suc a) k l in omega arith
]

abbrev twelve : List ℕ
twelve = 0 ∷ 1 ∷ 2 ∷ 3 ∷ 4 ∷ 5 ∷ 6 ∷ 7 ∷ 8 ∷ 9 ∷ 10 ∷ 11 ∷ []

pub channel_in : (k : ℕ) → k < 12 → In k twelve
unfolding from_to
channel_in k h = in_from 12 0 k (omega arith) h

pub speaker_in : (p : List Bool) (k : ℕ) → k < 12 → T (is_marked p k) → In k (speakers_of p)
unfolding speakers_of
speaker_in p k h t = →keep (is_marked p) twelve (channel_in k h) t

pub in_speaker : (p : List Bool) (k : ℕ) → In k (speakers_of p) → (k < 12) × T (is_marked p k)
unfolding speakers_of from_to
in_speaker p k m = let n = keep→ (is_marked p) (from_to 0 12) m in (from_in 12 0 k n.0, n.1)

-- ---- two channels of a table stand apart
alike_turned : (v w : Vec3) → Fine v → Fine w → T (alike v w) → T (alike w v)
alike_turned v w f g t =
    let r = and_r (eq v.x w.x) (eq v.y w.y && eq v.z w.z) t in
    and_i (eq w.x v.x) (eq w.y v.y && eq w.z v.z) (turned v.x w.x f.x g.x (and_l (eq v.x w.x) (eq v.y w.y && eq v.z w.z) t))
    (and_i (eq w.y v.y) (eq w.z v.z) (turned v.y w.y f.y g.y (and_l (eq v.y w.y) (eq v.z w.z) r))
    (turned v.z w.z f.z g.z (and_r (eq v.y w.y) (eq v.z w.z) r)))
  where
    turned : (a b : Float) → F32 a → F32 b → T (eq a b) → T (eq b a)
    turned a b f g t = →eq b a g f (sym (eq→ a b f g t))

module _ (sp : ℕ → Vec3) where
  apart : (l : List ℕ) → T (distinct sp l) → Each (λ k. Fine (sp k)) l → (i j : ℕ) → In i l → In j l → (i ≡ j → ⊥) → T (alike (sp i) (sp j)) → ⊥
  unfolding distinct
  apart [] d f i j m n q t = Memᴰ.not-nil m
  apart (k ∷ l) d f i j m n q t = elim (Memᴰ.cases_cons m) [
    | inl e ↦ elim (Memᴰ.cases_cons n) [
      | inl g ↦ q (e ∙ sym g)
      | inr g ↦ away j g (subst (λ (x : ℕ). T (alike (sp x) (sp j))) e t)
    ]
    | inr e ↦ elim (Memᴰ.cases_cons n) [
      | inl g ↦ away i e (subst (λ (x : ℕ). T (alike (sp x) (sp i))) g (alike_turned (sp i) (sp j) (f i m) (f j n) t))
      | inr g ↦ apart l (and_r (every_of far l) (distinct sp l) d) (λ a o. f a (Memᴰ.tail o)) i j e g q t
    ]
  ]
    where
      far : ℕ → Bool
      far j = not (eqb k j) && not (alike (sp k) (sp j))

      away : (j : ℕ) → In j l → T (alike (sp k) (sp j)) → ⊥
      away j o s = T_not (alike (sp k) (sp j)) (and_r (not (eqb k j)) (not (alike (sp k) (sp j))) (every→ far l (and_l (every_of far l) (distinct sp l) d) j o)) s

pub fine_in : (sp : ℕ → Vec3) (l : List ℕ) → Table sp l → Each (λ k. Fine (sp k)) l
fine_in sp l t k m = let a = all_tame sp l t.placed k m in record { x = a.x.f32; y = a.y.f32; z = a.z.f32 }

-- ---- one more channel
pub line_start : (sp : ℕ → Vec3) (here : ℕ → Bool) (channel : ℕ → ℕ) → InLine sp here 0 0 channel
line_start sp here channel = record {
  few = le_refl 0;
  into = λ i q. absurd (none q);
  out = λ j q t. absurd (none q);
  rising = λ i j p q. absurd (none q);
}
  where
    none : {j : ℕ} → j < 0 → ⊥
    none h = omega arith

-- it is absent
pub line_past : {sp : ℕ → Vec3} {here : ℕ → Bool} {k n : ℕ} {channel : ℕ → ℕ} → InLine sp here k n channel → T (not (here k)) → InLine sp here (k + 1) n channel
line_past {sp} {here} {k} {n} {channel} r t = record {
  few = omega (arith, r.few);
  into = λ i q. let h = r.into i q in (omega (arith, h.0), h.1);
  out = λ j q u. elim (less_or_not j k) [
    | inl h ↦ r.out j h u
    | inr h ↦ let e : j ≡ k = omega arith in absurd (T_not (here k) t (subst (λ (x : ℕ). T (here x)) e u))
  ];
  rising = r.rising;
}

-- it is put in its place
module _ {sp : ℕ → Vec3} {here : ℕ → Bool} {k n : ℕ} {was after : ℕ → ℕ} (r : InLine sp here k n was) (s : Inserted sp was n k after) (t : T (here k))
    (fine : (j : ℕ) → j < k + 1 → T (here j) → Fine (sp j)) (away : (j : ℕ) → j < k → T (here j) → T (alike (sp k) (sp j)) → ⊥) where
  -- where a channel was
  Spot : ℕ → Type 0
  Spot i = ((i < s.at) × (after i ≡ was i)) ⊎ (((i ≡ s.at) × (after i ≡ k)) ⊎ ((j : ℕ) × (i ≡ j + 1) × (s.at ≤ j) × (j < n) × (after i ≡ was j)))

  spot : (i : ℕ) → i < n + 1 → Spot i
  unfolding Spot
  spot i q = elim (less_or_not i s.at) [
    | inl h ↦ inl (h, s.low i h)
    | inr h ↦ elim (eq-or-lt_of_le h) [
      | inl e ↦ inr (inl (sym e, subst (λ (x : ℕ). after x ≡ k) e s.there))
      | inr l ↦ let e : i - 1 + 1 ≡ i = omega arith in
          inr (inr (i - 1, sym e, omega arith, omega arith, subst (λ (x : ℕ). after x ≡ was (i - 1)) e (s.high (i - 1) (omega arith) (omega arith))))
    ]
  ]

  fine_k : Fine (sp k)
  fine_k = fine k (omega arith) t

  fine_was : (i : ℕ) → i < n → Fine (sp (was i))
  fine_was i q = let h = r.into i q in fine (was i) (omega (arith, h.0)) h.1

  -- those before it come before it
  left_of : (i : ℕ) → i < s.at → T (precedes (sp (was i)) (sp k))
  left_of i q = of_lex (sp (was i)) (sp k) (fine_was i (omega (arith, s.most))) fine_k (elim (less_or_not i last) [
    | inl h ↦ lex_chain (sp (was i)) (sp (was last)) (sp k)
        (lex_of (sp (was i)) (sp (was last)) (fine_was i (omega (arith, s.most))) (fine_was last inside) (r.rising i last h inside)) base
    | inr h ↦ let e : last ≡ i = omega arith in subst (λ (x : ℕ). Lex (sp (was x)) (sp k)) e base
  ])
    where
      last : ℕ
      last = s.at - 1

      inside : last < n
      inside = omega (arith, s.most)

      next : last + 1 ≡ s.at
      next = omega arith

      base : Lex (sp (was last)) (sp k)
      base = let h = r.into last inside in other_way (sp k) (sp (was last)) fine_k (fine_was last inside) (s.left last next) (away (was last) h.0 h.1)

  two : {i j a b : ℕ} → after i ≡ a → after j ≡ b → T (precedes (sp a) (sp b)) → T (precedes (sp (after i)) (sp (after j)))
  two {i} {j} {a} {b} p q u = subst (λ (x : ℕ). T (precedes (sp x) (sp (after j)))) (sym p) (subst (λ (x : ℕ). T (precedes (sp a) (sp x))) (sym q) u)

  in_order : (i j : ℕ) → i < j → Spot i → Spot j → T (precedes (sp (after i)) (sp (after j)))
  unfolding Spot
  in_order i j q (inl p) (inl o) = two p.1 o.1 (r.rising i j q (omega (arith, o.0, s.most)))
  in_order i j q (inl p) (inr (inl o)) = two p.1 o.1 (left_of i p.0)
  in_order i j q (inl p) (inr (inr o)) = two p.1 o.4 (r.rising i o.0 (omega (arith, p.0, o.2)) o.3)
  in_order i j q (inr (inl p)) (inl o) = absurd (omega (arith, p.0, o.0))
  in_order i j q (inr (inl p)) (inr (inl o)) = absurd (omega (arith, p.0, o.0))
  in_order i j q (inr (inl p)) (inr (inr o)) = two p.1 o.4 (s.right o.0 o.2 o.3)
  in_order i j q (inr (inr p)) (inl o) = absurd (omega (arith, p.1, p.2, o.0))
  in_order i j q (inr (inr p)) (inr (inl o)) = absurd (omega (arith, p.1, p.2, o.0))
  in_order i j q (inr (inr p)) (inr (inr o)) = two p.4 o.4 (r.rising p.0 o.0 (omega (arith, p.1, o.1)) o.3)

  marked : (i : ℕ) → Spot i → (after i < k + 1) × T (here (after i))
  unfolding Spot
  marked i (inl p) = let h = r.into i (omega (arith, p.0, s.most)) in subst (λ (x : ℕ). (x < k + 1) × T (here x)) (sym p.1) (omega (arith, h.0), h.1)
  marked i (inr (inl p)) = subst (λ (x : ℕ). (x < k + 1) × T (here x)) (sym p.1) (omega arith, t)
  marked i (inr (inr p)) = let h = r.into p.0 p.3 in subst (λ (x : ℕ). (x < k + 1) × T (here x)) (sym p.4) (omega (arith, h.0), h.1)

  found : (j : ℕ) → j < k + 1 → T (here j) → (i : ℕ) × (i < n + 1) × (j ≡ after i)
  found j q u = elim (less_or_not j k) [
    | inl h ↦ let o = r.out j h u in elim (less_or_not o.0 s.at) [
      | inl l ↦ (o.0, omega (arith, o.1), o.2 ∙ sym (s.low o.0 l))
      | inr l ↦ (o.0 + 1, omega (arith, o.1), o.2 ∙ sym (s.high o.0 l o.1))
    ]
    | inr h ↦ let e : j ≡ k = omega arith in (s.at, omega (arith, s.most), e ∙ sym s.there)
  ]

  pub line_in : InLine sp here (k + 1) (n + 1) after
  line_in = record {
    few = omega (arith, r.few);
    into = λ i q. marked i (spot i q);
    out = found;
    rising = λ i j p q. in_order i j p (spot i (omega arith)) (spot j q);
  }

-- ---- what a table says of its marked channels
module _ {sp : ℕ → Vec3} (p : List Bool) (t : Table sp (speakers_of p)) where
  pub fine_marked : (j : ℕ) → j < 12 → T (is_marked p j) → Fine (sp j)
  fine_marked j q u = fine_in sp (speakers_of p) t j (speaker_in p j q u)

  pub away_marked : (k : ℕ) → k < 12 → T (is_marked p k) → (j : ℕ) → j < k → T (is_marked p j) → T (alike (sp k) (sp j)) → ⊥
  away_marked k q u j l w s = apart sp (speakers_of p) t.distinct (fine_in sp (speakers_of p) t) k j (speaker_in p k q u) (speaker_in p j (omega arith) w) (λ e. omega arith) s

  -- all twelve have been tried
  pub all_lined : {n : ℕ} {channel : ℕ → ℕ} → InLine sp (is_marked p) 12 n channel → Members channel 0 n (speakers_of p)
  all_lined {n} {channel} r = record {
    into = λ i o q. let h = r.into i q in speaker_in p (channel i) h.0 h.1;
    out = λ k m. let h = in_speaker p k m in let o = r.out k h.0 h.1 in (o.0, omega arith, o.1, o.2);
  }
