-- What loses, with each step, at least the part r / p of its height above a floor c. From a or below, at most p / (p + r s) of that height is left after s steps
-- (`fallen_next`), with no power of 1 - r / p; so it is at a or below all the way (`not_above`), and at b or below as soon as r s / p is enough (`lands`). Assumes nothing.
use mathlib.Core.Path.{◌≡◌}
use mathlib.Core.List.{[], ◌∷◌}
use Prim.Native.Nat.{ℕ, ◌+◌, ◌*◌, ◌<◌, ◌≤◌}
use native.Mathlib.Nat.{mul-pos}
use native.Mathlib.Omega.{arith}
use lib.Dec.{lt→ltb}
use lib.IntN.{ℤ, pos, ◌+ℤ◌, ◌-ℤ◌, ◌*ℤ◌}
use Rattle.ieee.proofs.Ring.{var, con, ◌⊕◌, ◌⊖◌, ◌⊗◌, ring}
use Rattle.ieee.proofs.NotNegative.{NN, nn, nn_add, nn_mul, nn_by, nn_sub, nn_cancel}

-- a step from w to w'
pub record Loses (p r : ℕ) (c w w' : ℤ) : Type 0 where
  pub loss : NN ((pos p -ℤ pos r) *ℤ (w -ℤ c) -ℤ pos p *ℤ (w' -ℤ c))

-- w, s steps after what was at a or below
pub record Fallen (p r s : ℕ) (a c w : ℤ) : Type 0 where
  pub fall : NN (pos p *ℤ (a -ℤ c) -ℤ (pos p +ℤ pos r *ℤ pos s) *ℤ (w -ℤ c))

pub fallen_start : (p r : ℕ) {a c w : ℤ} → NN (a -ℤ w) → Fallen p r 0 a c w
fallen_start p r {a} {c} {w} h = record { fall = nn_by (identity (pos p) (pos r) a c w) (nn_mul (nn p) h) }
  where
    identity : (p r a c w : ℤ) → p *ℤ (a -ℤ c) -ℤ (p +ℤ r *ℤ pos 0) *ℤ (w -ℤ c) ≡ p *ℤ (a -ℤ w)
    identity p r a c w =
        let P = var 0 in let A = var 2 in let C = var 3 in let W = var 4 in
        ring (p ∷ r ∷ a ∷ c ∷ w ∷ []) (P ⊗ (A ⊖ C) ⊖ (P ⊕ var 1 ⊗ con (pos 0)) ⊗ (W ⊖ C)) (P ⊗ (A ⊖ W)) tt

module _ (p r : ℕ) (some : 0 < p) (a c : ℤ) (above : NN (a -ℤ c)) where
  pub fallen_next : {s : ℕ} {w w' : ℤ} → r ≤ p → Fallen p r s a c w → Loses p r c w w' → Fallen p r (1 + s) a c w'
  fallen_next {s} {w} {w'} few h l = record {
    fall =
        nn_cancel (pos (p * (p + r * s))) (pos p *ℤ (a -ℤ c) -ℤ (pos p +ℤ pos r *ℤ pos (1 + s)) *ℤ (w' -ℤ c)) (lt→ltb 0 _ (mul-pos some (omega arith)))
        (nn_by (identity (pos p) (pos r) (pos s) (a -ℤ c) (w -ℤ c) (w' -ℤ c))
        (nn_add (nn_add
        (nn_mul (nn ((p + r * s) * (p + r * (1 + s)))) l.loss)
        (nn_mul (nn_mul (nn (p + r * (1 + s))) (nn_sub p r few)) h.fall))
        (nn_mul (nn (p * (r * r) * (1 + s))) above)));
  }
    where
      identity : (p r s a w w' : ℤ) → let j = p +ℤ r *ℤ s in let i = p +ℤ r *ℤ (pos 1 +ℤ s) in p *ℤ j *ℤ (p *ℤ a -ℤ i *ℤ w') ≡
          j *ℤ i *ℤ ((p -ℤ r) *ℤ w -ℤ p *ℤ w') +ℤ i *ℤ (p -ℤ r) *ℤ (p *ℤ a -ℤ j *ℤ w) +ℤ p *ℤ (r *ℤ r) *ℤ (pos 1 +ℤ s) *ℤ a
      identity p r s a w w' =
          let P = var 0 in let Q = var 1 in let S = con (pos 1) ⊕ var 2 in let A = var 3 in let W = var 4 in let W' = var 5 in
          let J = P ⊕ Q ⊗ var 2 in let I = P ⊕ Q ⊗ S in
          ring (p ∷ r ∷ s ∷ a ∷ w ∷ w' ∷ []) (P ⊗ J ⊗ (P ⊗ A ⊖ I ⊗ W'))
          (J ⊗ I ⊗ ((P ⊖ Q) ⊗ W ⊖ P ⊗ W') ⊕ I ⊗ (P ⊖ Q) ⊗ (P ⊗ A ⊖ J ⊗ W) ⊕ P ⊗ (Q ⊗ Q) ⊗ S ⊗ A) tt

  under : {s : ℕ} (b : ℤ) {w : ℤ} → Fallen p r s a c w → NN ((pos p +ℤ pos r *ℤ pos s) *ℤ (b -ℤ c) -ℤ pos p *ℤ (a -ℤ c)) → NN (b -ℤ w)
  under {s} b {w} h k =
      nn_cancel (pos (p + r * s)) (b -ℤ w) (lt→ltb 0 (p + r * s) (omega arith)) (nn_by (identity (pos p +ℤ pos r *ℤ pos s) (pos p *ℤ (a -ℤ c)) b c w) (nn_add h.fall k))
    where
      identity : (j q b c w : ℤ) → j *ℤ (b -ℤ w) ≡ (q -ℤ j *ℤ (w -ℤ c)) +ℤ (j *ℤ (b -ℤ c) -ℤ q)
      identity j q b c w =
          let J = var 0 in let Q = var 1 in let B = var 2 in let C = var 3 in let W = var 4 in
          ring (j ∷ q ∷ b ∷ c ∷ w ∷ []) (J ⊗ (B ⊖ W)) ((Q ⊖ J ⊗ (W ⊖ C)) ⊕ (J ⊗ (B ⊖ C) ⊖ Q)) tt

  -- t / q is a part that r s / p has reached
  pub lands : (q t : ℕ) → 0 < q → {s : ℕ} (b : ℤ) {w : ℤ} → t * p ≤ q * (r * s) → NN (pos (q + t) *ℤ (b -ℤ c) -ℤ pos q *ℤ (a -ℤ c)) → Fallen p r s a c w → NN (b -ℤ w)
  lands q t more {s} b {w} time enough h =
      under b h
      (nn_cancel (pos q) ((pos p +ℤ pos r *ℤ pos s) *ℤ (b -ℤ c) -ℤ pos p *ℤ (a -ℤ c)) (lt→ltb 0 q more)
      (nn_by (identity (pos p) (pos q) (pos r *ℤ pos s) (pos t) (a -ℤ c) (b -ℤ c)) (nn_add (nn_mul (nn p) enough) (nn_mul (nn_sub (q * (r * s)) (t * p) time) high))))
    where
      high : NN (b -ℤ c)
      high =
          nn_cancel (pos (q + t)) (b -ℤ c) (lt→ltb 0 (q + t) (omega arith)) (nn_by (parts (pos (q + t) *ℤ (b -ℤ c)) (pos q *ℤ (a -ℤ c))) (nn_add enough (nn_mul (nn q) above)))
        where
          parts : (x y : ℤ) → x ≡ (x -ℤ y) +ℤ y
          parts x y = ring (x ∷ y ∷ []) (var 0) ((var 0 ⊖ var 1) ⊕ var 1) tt

      identity : (p q n t a b : ℤ) → q *ℤ ((p +ℤ n) *ℤ b -ℤ p *ℤ a) ≡ p *ℤ ((q +ℤ t) *ℤ b -ℤ q *ℤ a) +ℤ (q *ℤ n -ℤ t *ℤ p) *ℤ b
      identity p q n t a b =
          let P = var 0 in let Q = var 1 in let N = var 2 in let S = var 3 in let A = var 4 in let B = var 5 in
          ring (p ∷ q ∷ n ∷ t ∷ a ∷ b ∷ []) (Q ⊗ ((P ⊕ N) ⊗ B ⊖ P ⊗ A)) (P ⊗ ((Q ⊕ S) ⊗ B ⊖ Q ⊗ A) ⊕ (Q ⊗ N ⊖ S ⊗ P) ⊗ B) tt

  pub not_above : {s : ℕ} {w : ℤ} → Fallen p r s a c w → NN (a -ℤ w)
  not_above = lands 1 0 (omega arith) a (omega arith) (nn_by (same (a -ℤ c)) (nn 0))
    where
      same : (x : ℤ) → pos 1 *ℤ x -ℤ pos 1 *ℤ x ≡ pos 0
      same x = ring (x ∷ []) (con (pos 1) ⊗ var 0 ⊖ con (pos 1) ⊗ var 0) (con (pos 0)) tt
