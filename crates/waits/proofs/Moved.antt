-- A whole update that stands elsewhere with the same bytes is a whole update, of as many records. Assumes nothing.
use mathlib.Core.Path.{◌≡◌, refl, sym, ap, ◌∙◌}
use mathlib.Core.Bool.{Bool, ◌&&◌}
use mathlib.Core.List.{List}
use mathlib.Core.Logic.{⊎_elim}
use Prim.Native.Nat.{ℕ, zero, suc, ◌+◌, ◌*◌, ◌≤◌, ◌<◌}
use native.Mathlib.Nat.{eq-or-lt_of_le}
use native.Mathlib.Omega.{arith}
use Rattle.fields.specs.RecordBytes.{all}
use Rattle.fields.specs.Update.{objects, elements}
use Rattle.fields.specs.Block.{blocks, is_block}
use Rattle.fields.specs.Object.{is_object}
use Rattle.fields.proofs.All.{all_same}
use Rattle.records.specs.Laid.{is_whole_element, is_whole_update, element_end, element_at, block_at, object_at, update_end}
use Rattle.waits.proofs.Alike.{Like, elements_like, objects_like, blocks_like, update_like, element_like, block_like, object_like}

-- the records of m from s up to t are those of y from d on
abbrev pub Region : List ℕ → ℕ → ℕ → List ℕ → ℕ → Type 0
Region m s t y d = (a b : ℕ) → s ≤ a → a < t → a + d ≡ b + s → Like m a y b

-- elements stand one behind the other
pub element_further : (m : List ℕ) (u e : ℕ) → element_at m u e < element_at m u (suc e)
unfolding element_at
element_further m u e = omega arith

element_ends : (m : List ℕ) (u e : ℕ) → element_at m u (suc e) ≡ element_end m (objects m u) (element_at m u e)
unfolding element_at
element_ends m u e = refl

pub elements_rise : (m : List ℕ) (u e n : ℕ) → e ≤ n → element_at m u e ≤ element_at m u n
elements_rise m u e zero h = ap_le (let q : e ≡ 0 = omega (arith, h) in q)
  where
    ap_le : e ≡ 0 → element_at m u e ≤ element_at m u 0
    ap_le q = let r : element_at m u e ≡ element_at m u 0 = ap (element_at m u) q in omega (arith, r)
elements_rise m u e (suc n) h =
    ⊎_elim
    (λ (q : e ≡ suc n). let r : element_at m u e ≡ element_at m u (suc n) = ap (element_at m u) q in omega (arith, r))
    (λ (l : e < suc n). let a = elements_rise m u e n (omega (arith, l)) in let b = element_further m u n in omega (arith, a, b))
    (eq-or-lt_of_le h)

pub after_first : (m : List ℕ) (u e : ℕ) → u + 1 ≤ element_at m u e
unfolding element_at
after_first m u e = let a = elements_rise m u 0 e (omega arith) in omega (arith, a)

module _ (m y : List ℕ) (s t d : ℕ) (r : Region m s t y d) where
  -- an element of n objects that ends in the region
  module _ (n a b : ℕ) (from : s ≤ a) (to : element_end m n a ≤ t) (at : a + d ≡ b + s) where
    first : Like m a y b
    first = r a b from (omega (arith, to)) at

    same_blocks : blocks y b ≡ blocks m a
    same_blocks = blocks_like m y a b first

    pub end_moved : element_end m n a + d ≡ element_end y n b + s
    end_moved = let e = same_blocks in let p : n * blocks y b ≡ n * blocks m a = ap (λ (k : ℕ). n * k) e in omega (arith, at, e, p)

    pub element_moved : is_whole_element y n b ≡ is_whole_element m n a
    unfolding is_whole_element
    element_moved =
        joined (element_like m y a b first)
        (ap (all (λ k. is_block y (block_at b k))) same_blocks
        ∙ all_same _ _ (blocks m a) (λ k h. block_like m y (block_at a k) (block_at b k) (r (block_at a k) (block_at b k) (omega (arith, from)) (omega (arith, h, to))
        (omega (arith, at)))))
        (ap (λ (k : ℕ). all (λ i. is_object y (object_at y b i)) (n * k)) same_blocks
        ∙ all_same _ _ (n * blocks m a) (λ k h. object_like m y (object_at m a k) (object_at y b k)
        (r (object_at m a k) (object_at y b k) (omega (arith, from)) (omega (arith, h, to)) (let e = same_blocks in omega (arith, at, e)))))
      where
        joined : {p p' q q' v v' : Bool} → p ≡ p' → q ≡ q' → v ≡ v' → p && q && v ≡ p' && q' && v'
        joined x y z = cc

  -- an update that does
  module _ (u v : ℕ) (from : s ≤ u) (to : update_end m u ≤ t) (at : u + d ≡ v + s) where
    head : Like m u y v
    head = r u v from (let l = after_first m u (elements m u) in omega (arith, l, to)) at

    elements_moved : (e : ℕ) → e ≤ elements m u → element_at m u e + d ≡ element_at y v e + s
    unfolding element_at
    elements_moved zero h = omega (arith, at)
    elements_moved (suc e) h =
        let o = objects_like m y u v head in
        let l = elements_rise m u (suc e) (elements m u) h in
        let f = after_first m u e in
        end_moved (objects m u) (element_at m u e) (element_at y v e) (omega (arith, f, from)) (omega (arith, l, to)) (elements_moved e (omega (arith, h)))
        ∙ ap (λ (n : ℕ). element_end y n (element_at y v e) + s) (sym o)

    pub update_moved : is_whole_update y v ≡ is_whole_update m u
    unfolding is_whole_update
    update_moved =
        joined (update_like m y u v head)
        (ap (λ (k : ℕ). all (λ e. is_whole_element y (objects y v) (element_at y v e)) k) (elements_like m y u v head)
        ∙ all_same _ _ (elements m u) (λ e h.
        let l = elements_rise m u (suc e) (elements m u) h in
        let f = after_first m u e in
        ap (λ (n : ℕ). is_whole_element y n (element_at y v e)) (objects_like m y u v head)
        ∙ element_moved (objects m u) (element_at m u e) (element_at y v e) (omega (arith, f, from)) (within e l) (elements_moved e (omega (arith, h)))))
      where
        joined : {p p' q q' : Bool} → p ≡ p' → q ≡ q' → p && q ≡ p' && q'
        joined x y = cc

        within : (e : ℕ) → element_at m u (suc e) ≤ element_at m u (elements m u) → element_end m (objects m u) (element_at m u e) ≤ t
        within e l = let q = element_ends m u e in omega (arith, l, to, q)

    pub update_end_moved : update_end m u + d ≡ update_end y v + s
    update_end_moved = elements_moved (elements m u) (omega arith) ∙ ap (λ (k : ℕ). element_at y v k + s) (sym (elements_like m y u v head))
