-- The walk over runs: what is known at each step, and that where it stops it has found the two ends, or the two sides, of the choice. Assumes nothing.
use mathlib.Core.Path.{◌≡◌, refl, sym, subst, ◌∙◌}
use mathlib.Core.Logic.{◌⊎◌, inl, inr}
use mathlib.Core.Bool.{Bool, true, false, not}
use mathlib.Core.List.{List}
use Prim.Native.Nat.{ℕ, ◌+◌, ◌≤◌, ◌<◌}
use native.Mathlib.Nat.{le_refl, le_trans, le_of_lt, le_of_eq, lt_of_lt_of_le, lt_of_le_of_lt, lt_trans}
use native.Mathlib.Omega.{arith}
use lib.Dec.{T, T_not}
use lib.Ieee.{Float, binary32, fits, le, eq}
use Rattle.ieee.specs.Units.{F32}
use Rattle.corners.specs.Choice.{keep, first, or_list, below, above, level, end, flank}
use Rattle.corners.proofs.Lists.{In, keep→, →keep}
use Rattle.corners.specs.Found.{side_of}
use Rattle.corners.specs.EqualRuns.{Members, Runs, Along, LastRun, Walked, EndsAt, SidesAt}
use Rattle.corners.proofs.Rising.{less_or_not, through, eq_le, eq_both, squeezed}
use Rattle.corners.proofs.Segments.{each_member, part, or_some, or_none, only_first, none_below, none_above, below_run, above_run}

-- the other end, where the walk stopped at i
abbrev pub HighAt : ℕ → ℕ → ℕ → ℕ → Type 0
HighAt b low i high = ((i < b) × (high ≡ i)) ⊎ ((i ≡ b) × (high ≡ low))

module _ {c : ℕ → Float} {e : ℕ → ℕ} {a b : ℕ} {v : Float} where
  pub walk_start : a < b → Walked c e a b v a a
  walk_start q = record {
    from = le_refl a;
    to = le_of_lt q;
    up = λ j aj ja. absurd (empty aj ja);
    start = λ j aj ja ab t. empty aj ja;
    last = inl (refl, refl);
  }
    where
      empty : {i j : ℕ} → i ≤ j → j < i → ⊥
      empty h k = omega arith

  pub walk_step : {low i : ℕ} → T (fits binary32 v) → Runs c e a b → Walked c e a b v low i → i < b → T (le (c i) v) → Walked c e a b v i (e i)
  walk_step {low} {i} w r q ib t = record {
    from = le_trans q.from (le_of_lt further);
    to = inside;
    up = λ j aj je. elim (less_or_not j i) [
      | inl ji ↦ q.up j aj ji
      | inr ij ↦ let jb = lt_of_lt_of_le je inside in through (c j) (c i) v (r.fine j aj jb) (r.fine i q.from ib) w (r.equal i j q.from ij je ib) t
    ];
    start = λ j aj je eb h. let jb = lt_of_lt_of_le je inside in r.beyond i (e i) q.from (le_refl (e i)) ib eb
        (through (c (e i)) (c j) (c i) (r.fine (e i) (le_trans q.from (le_of_lt further)) eb) (r.fine j aj jb) (r.fine i q.from ib).fit h (level_with j aj je));
    last = inr (record { from = q.from; less = further; next = refl; start = λ j aj ji h. q.start j aj ji ib h });
  }
    where
      further : i < e i
      further = r.further i q.from ib

      inside : e i ≤ b
      inside = r.inside i q.from ib

      level_with : (j : ℕ) → a ≤ j → j < e i → T (le (c j) (c i))
      level_with j aj je = elim (less_or_not j i) [ inl ji ↦ r.rising j i aj (le_of_lt ji) ib | inr ij ↦ r.equal i j q.from ij je ib ]

pub low_inside : {c : ℕ → Float} {e : ℕ → ℕ} {a b low i : ℕ} → a < b → i ≤ b → ((i ≡ a) × (low ≡ a)) ⊎ LastRun c e a low i → (a ≤ low) × (low < b)
low_inside ab ib (inl k) = (omega arith, omega arith)
low_inside ab ib (inr k) = (k.from, lt_of_lt_of_le k.less ib)

-- ---- the same of channels that stand at the coordinates
abbrev at2 : {a a' b b' : Float} → a ≡ a' → b ≡ b' → T (le a b) → T (le a' b')
at2 {a} {a'} {b} {b'} p q t = subst (λ (x : Float). T (le a' x)) q (subst (λ (x : Float). T (le x b)) p t)

module _ {c : ℕ → Float} {e : ℕ → ℕ} {a b : ℕ} (ch : ℕ → ℕ) (C : ℕ → Float) (s : Along c a b ch C) where
  runs_of : Runs c e a b → Runs (λ i. C (ch i)) e a b
  runs_of r = record {
    fine = λ i ai ib. subst F32 (s i ai ib) (r.fine i ai ib);
    rising = λ i j ai ij jb. at2 (s i ai (lt_of_le_of_lt ij jb)) (s j (le_trans ai ij) jb) (r.rising i j ai ij jb);
    further = r.further;
    inside = r.inside;
    equal = λ i j ai ij je ib. at2 (s j (le_trans ai ij) (lt_of_lt_of_le je (r.inside i ai ib))) (s i ai ib) (r.equal i j ai ij je ib);
    beyond = λ i j ai ej ib jb t. r.beyond i j ai ej ib jb
        (at2 (sym (s j (le_trans ai (le_trans (le_of_lt (r.further i ai ib)) ej)) jb)) (sym (s i ai ib)) t);
  }

  walk_of : {v : Float} {low i : ℕ} → Walked c e a b v low i → Walked (λ i. C (ch i)) e a b v low i
  walk_of {v} {low} {i} q = record {
    from = q.from;
    to = q.to;
    up = λ j aj ji. at2 (s j aj (lt_of_lt_of_le ji q.to)) refl (q.up j aj ji);
    start = λ j aj ji ib t. q.start j aj ji ib (at2 (sym (s i q.from ib)) (sym (s j aj (lt_of_lt_of_le ji q.to))) t);
    last = elim q.last [
      | inl h ↦ inl h
      | inr h ↦ let lb = lt_of_lt_of_le h.less q.to in inr (record {
        from = h.from;
        less = h.less;
        next = h.next;
        start = λ j aj jl t. h.start j aj jl (at2 (sym (s low h.from lb)) (sym (s j aj (lt_of_lt_of_le jl (le_of_lt lb)))) t);
      })
    ];
  }

-- ---- where it stopped
module _ (ch : ℕ → ℕ) (C : ℕ → Float) {e : ℕ → ℕ} {a b : ℕ} {v : Float} {low i high : ℕ} (w : T (fits binary32 v)) (r : Runs (λ i. C (ch i)) e a b) (ab : a < b)
    (q : Walked (λ i. C (ch i)) e a b v low i) (stop : i < b → T (le (C (ch i)) v) → ⊥) (hh : HighAt b low i high) (l : List ℕ) (h : Members ch a b l) where
  on : (j : ℕ) → i ≤ j → j < b → T (le (C (ch j)) v) → ⊥
  on j ij jb t =
      let ib = lt_of_le_of_lt ij jb in
      stop ib (through (C (ch i)) (C (ch j)) v (r.fine i q.from ib) (r.fine j (le_trans q.from ij) jb) w (r.rising i j q.from ij jb) t)

  low_run : LastRun (λ i. C (ch i)) e a low i → Members ch low (e low) (below C v l)
  low_run k = subst (λ (x : ℕ). Members ch low x (below C v l)) (sym k.next)
      (below_run ch C a b l h v r.fine r.rising i q.from q.to q.up on low k.from k.less
      (λ j lj ji. r.equal low j k.from lj (lt_of_lt_of_le ji (le_of_eq (sym k.next))) (lt_of_lt_of_le k.less q.to)) k.start)

  high_run : i < b → Members ch i (e i) (above C v l)
  high_run ib = above_run ch C a b l h v r.fine r.rising i q.from q.to q.up on (e i) (r.further i q.from ib) (r.inside i q.from ib)
      (λ j ij je. r.equal i j q.from ij je ib) (λ j ej jb. r.beyond i j q.from ej ib jb)

  low_further : LastRun (λ i. C (ch i)) e a low i → low < e low
  low_further k = lt_of_lt_of_le k.less (le_of_eq (sym k.next))

  low_end : Members ch low (e low) (end false C v l)
  unfolding end
  low_end = elim q.last [
    | inl k ↦ or_none (below C v l) (above C v l) (none_below ch C a b l h v r.fine r.rising i q.from q.to q.up on k.0)
        (subst (λ (x : ℕ). Members ch x (e x) (above C v l)) (k.0 ∙ sym k.1) (high_run (subst (λ (x : ℕ). x < b) (sym k.0) ab)))
    | inr k ↦ or_some (below C v l) (above C v l) (low_further k) (low_run k)
  ]

  high_end : Members ch high (e high) (end true C v l)
  unfolding end
  high_end = elim hh [
    | inl k ↦ subst (λ (x : ℕ). Members ch x (e x) (or_list (above C v l) (below C v l))) (sym k.1)
        (or_some (above C v l) (below C v l) (r.further i q.from k.0) (high_run k.0))
    | inr k ↦ subst (λ (x : ℕ). Members ch x (e x) (or_list (above C v l) (below C v l))) (sym k.1)
        (or_none (above C v l) (below C v l) (none_above ch C a b l h v r.fine r.rising i q.from q.to q.up on k.0) (filled k.0))
  ]
    where
      filled : i ≡ b → Members ch low (e low) (below C v l)
      filled ib = elim q.last [ inl m ↦ absurd (apart m.0 ib ab) | inr m ↦ low_run m ]
        where
          apart : {x y z : ℕ} → x ≡ y → x ≡ z → y < z → ⊥
          apart p q r = omega arith

  -- ---- the sides: runs of one
  module _ (one : (i : ℕ) → e i ≡ i + 1) where
    single : {m : List ℕ} {j : ℕ} → Members ch j (e j) m → Members ch j (j + 1) m
    single {m} {j} k = subst (λ (x : ℕ). Members ch j x m) (one j) k

    low_in : (a ≤ low) × (low < b)
    low_in = low_inside ab q.to q.last

    level_run : T (eq (C (ch low)) v) → Members ch low (low + 1) (level C v l)
    unfolding level
    level_run t = part h (keep at l) low (low + 1) (λ k m. (keep→ at l m).0) out into
      where
        at : ℕ → Bool
        at k = eq (C k) v

        apart : (i j : ℕ) → a ≤ i → i < j → j < b → T (eq (C (ch i)) v) → T (eq (C (ch j)) v) → ⊥
        apart i j ai ij jb d g =
            let ib = lt_trans ij jb in
            r.beyond i j ai (subst (λ (x : ℕ). x ≤ j) (sym (one i)) (omega arith)) ib jb
            (eq_both (C (ch j)) (C (ch i)) v (r.fine j (le_trans ai (le_of_lt ij)) jb) (r.fine i ai ib) w g d)

        out : (i : ℕ) → a ≤ i → i < b → In (ch i) (keep at l) → (low ≤ i) × (i < low + 1)
        out i ai ib m =
            let d = (keep→ at l m).1 in (
              elim (less_or_not i low) [ inl k ↦ absurd (apart i low ai k low_in.1 d t) | inr k ↦ k ],
              elim (less_or_not low i) [ inl k ↦ absurd (apart low i low_in.0 k ib t d) | inr k ↦ omega arith ],
            )

        into : (i : ℕ) → low ≤ i → i < low + 1 → In (ch i) (keep at l)
        into i li il =
            let x : low ≡ i = omega arith in
            subst (λ (x : ℕ). In (ch x) (keep at l)) x (→keep at l (h.into low low_in.0 low_in.1) t)

    none_level : T (not (eq (C (ch low)) v)) → (k : ℕ) → In k (level C v l) → ⊥
    unfolding level
    none_level t k m = let n = keep→ (λ k. eq (C k) v) l m in each_member h (λ k. T (eq (C k) v) → ⊥) none k n.0 n.1
      where
        none : (j : ℕ) → a ≤ j → j < b → T (eq (C (ch j)) v) → ⊥
        none j aj jb d = elim (less_or_not j i) [
          | inl ji ↦ elim q.last [
            | inl z ↦ empty aj ji z.0
            | inr z ↦ let jl : j ≤ low = before_next ji (sym z.next ∙ one low) in T_not (eq (C (ch low)) v) t (squeezed (C (ch j)) (C (ch low)) v (r.fine j aj jb)
                (r.fine low low_in.0 low_in.1) w d (r.rising j low aj jl low_in.1) (q.up low low_in.0 z.less))
          ]
          | inr ij ↦ on j ij jb (eq_le (C (ch j)) v d)
        ]
          where
            empty : {x y z : ℕ} → x ≤ y → y < z → z ≡ x → ⊥
            empty p q r = omega arith

            before_next : {x y z : ℕ} → x < y → y ≡ z + 1 → x ≤ z
            before_next p q = omega arith

    low_side : first (flank false C v l) ≡ ch low
    unfolding flank
    low_side = only_first (end false C v l) (single low_end)

    at_side : T (eq (C (ch low)) v) → first (flank true C v l) ≡ ch low
    unfolding flank
    at_side t = only_first (or_list (level C v l) (end true C v l)) (or_some (level C v l) (end true C v l) (omega arith) (level_run t))

    high_side : T (not (eq (C (ch low)) v)) → first (flank true C v l) ≡ ch high
    unfolding flank
    high_side t = only_first (or_list (level C v l) (end true C v l)) (or_none (level C v l) (end true C v l) (none_level t) (single high_end))

-- ---- the contracts
module _ {c : ℕ → Float} {e : ℕ → ℕ} {a b : ℕ} {v : Float} {low i high : ℕ} (w : T (fits binary32 v)) (r : Runs c e a b) (ab : a < b) (q : Walked c e a b v low i)
    (stop : i < b → T (le (c i) v) → ⊥) (hh : HighAt b low i high) where
  stop_of : (ch : ℕ → ℕ) (C : ℕ → Float) → Along c a b ch C → i < b → T (le (C (ch i)) v) → ⊥
  stop_of ch C s ib t = stop ib (at2 (sym (s i q.from ib)) refl t)

  high_in : (a ≤ high) × (high < b)
  high_in = elim hh [
    | inl k ↦ (subst (λ (x : ℕ). a ≤ x) (sym k.1) q.from, subst (λ (x : ℕ). x < b) (sym k.1) k.0)
    | inr k ↦ let n = low_inside ab q.to q.last in (subst (λ (x : ℕ). a ≤ x) (sym k.1) n.0, subst (λ (x : ℕ). x < b) (sym k.1) n.1)
  ]

  pub ends_at : EndsAt c e a b v (record { low = low; high = high })
  ends_at = record {
    from = λ top. elim top as (λ q. a ≤ side_of q (record { low = low; high = high })) [ false ↦ (low_inside ab q.to q.last).0 | true ↦ high_in.0 ];
    to = λ top. elim top as (λ q. side_of q (record { low = low; high = high }) < b) [ false ↦ (low_inside ab q.to q.last).1 | true ↦ high_in.1 ];
    is = λ ch C l s h top. elim top as (λ q. Members ch (side_of q (record { low = low; high = high })) (e (side_of q (record { low = low; high = high }))) (end q C v l)) [
      | false ↦ low_end ch C w (runs_of ch C s r) ab (walk_of ch C s q) (stop_of ch C s) hh l h
      | true ↦ high_end ch C w (runs_of ch C s r) ab (walk_of ch C s q) (stop_of ch C s) hh l h
    ];
  }

  module _ (one : (i : ℕ) → e i ≡ i + 1) where
    -- a speaker at v itself
    pub level_at : T (eq (c low) v) → SidesAt c a b v (record { low = low; high = low })
    level_at t = record {
      from = λ right. elim right as (λ q. a ≤ side_of q (record { low = low; high = low })) [ false ↦ (low_inside ab q.to q.last).0 | true ↦ (low_inside ab q.to q.last).0 ];
      to = λ right. elim right as (λ q. side_of q (record { low = low; high = low }) < b) [ false ↦ (low_inside ab q.to q.last).1 | true ↦ (low_inside ab q.to q.last).1 ];
      is = λ ch C l s h right. elim right as (λ q. first (flank q C v l) ≡ ch (side_of q (record { low = low; high = low }))) [
        | false ↦ low_side ch C w (runs_of ch C s r) ab (walk_of ch C s q) (stop_of ch C s) hh l h one
        | true ↦ at_side ch C w (runs_of ch C s r) ab (walk_of ch C s q) (stop_of ch C s) hh l h one
            (let n = low_inside ab q.to q.last in subst (λ (x : Float). T (eq x v)) (s low n.0 n.1) t)
      ];
    }

    -- none there
    pub sides_at : T (not (eq (c low) v)) → SidesAt c a b v (record { low = low; high = high })
    sides_at t = record {
      from = λ right. elim right as (λ q. a ≤ side_of q (record { low = low; high = high })) [ false ↦ (low_inside ab q.to q.last).0 | true ↦ high_in.0 ];
      to = λ right. elim right as (λ q. side_of q (record { low = low; high = high }) < b) [ false ↦ (low_inside ab q.to q.last).1 | true ↦ high_in.1 ];
      is = λ ch C l s h right. elim right as (λ q. first (flank q C v l) ≡ ch (side_of q (record { low = low; high = high }))) [
        | false ↦ low_side ch C w (runs_of ch C s r) ab (walk_of ch C s q) (stop_of ch C s) hh l h one
        | true ↦ high_side ch C w (runs_of ch C s r) ab (walk_of ch C s q) (stop_of ch C s) hh l h one
            (let n = low_inside ab q.to q.last in subst (λ (x : Float). T (not (eq x v))) (s low n.0 n.1) t)
      ];
    }

-- all of the row is up to v: its last speaker is both sides
pub row_passed : {c : ℕ → Float} {e : ℕ → ℕ} {a b : ℕ} {v : Float} {low i : ℕ} → T (fits binary32 v) → Runs c e a b → a < b → Walked c e a b v low i →
    (i < b → T (le (c i) v) → ⊥) → i ≡ b → ((i : ℕ) → e i ≡ i + 1) → SidesAt c a b v (record { low = low; high = low })
row_passed {c} {e} {a} {b} {v} {low} {i} w r ab q stop ib one = go (eq (c low) v) (λ t. t) (λ t. t)
  where
    go : (x : Bool) → (T x → T (eq (c low) v)) → (T (not x) → T (not (eq (c low) v))) → SidesAt c a b v (record { low = low; high = low })
    go true h k = level_at w r ab q stop (inr (ib, refl)) one (h tt)
    go false h k = sides_at w r ab q stop (inr (ib, refl)) one (k tt)
