-- The formats of a vector and of an info are lawful, and an info is in range exactly if its head is. Assumes nothing.
use mathlib.Core.Path.{◌≡◌, refl}
use mathlib.Core.Bool.{Bool, true, ◌&&◌}
use mathlib.Core.List.{List}
use Prim.Native.Nat.{ℕ, ◌%◌, ◌/◌}
use native.Mathlib.Omega.{arith}
use lib.Dec.{T, ltb, ltb→lt, lt→ltb}
use lib.Ieee.Fits.{and_l, and_r}
use lib.ListN.{get_or}
use Rattle.vectors.specs.Head.{head_word, head_in}
use Rattle.vectors.proofs.Theorems.{head_reads_back}
use Rattle.formats.specs.Format.{float, ◌⊗◌, all_at, array}
use Rattle.formats.specs.Lawful.{Lawful}
use Rattle.formats.specs.Vector.{Singles, vec_format}
use Rattle.formats.specs.Info.{flags_below, anchor_below, HeadIn, head_valid, info_head, InfoIn, info_format}
use Rattle.formats.proofs.Places.{and_in}
use Rattle.formats.proofs.Word.{lawful_one_word, lawful_float}
use Rattle.formats.proofs.PairsAndArrays.{lawful_pair, lawful_struct, lawful_ranged}
use Rattle.formats.proofs.Loops.{and_true, all_same}

pub lawful_vec : Lawful vec_format
lawful_vec =
    lawful_ranged Singles _ (λ v h. (h.x, (h.y, h.z))) (λ v h. record { x = h.0; y = h.1.0; z = h.1.1 })
    (lawful_struct _ _ _ (λ v. refl) (λ y. refl) (lawful_pair float (float ⊗ float) lawful_float (lawful_pair float float lawful_float lawful_float)))

-- ---- the head

-- a word passes the test exactly if its fields are in range
module _ (n : ℕ) where
  abbrev D : Bool
  D = ltb n 262144

  abbrev F : Bool
  F = ltb (n % 256) flags_below

  abbrev A : Bool
  A = ltb (n / 256 % 256) anchor_below

  pub head_within : T (head_valid n) → HeadIn (head_in n)
  head_within t =
      record {
        flags = ltb→lt (n % 256) flags_below (and_r D F (and_l (D && F) A t));
        anchor = ltb→lt (n / 256 % 256) anchor_below (and_r (D && F) A t);
        depth = let l = ltb→lt n 262144 (and_l D F (and_l (D && F) A t)) in omega arith;
      }

  pub head_exact : HeadIn (head_in n) → T (head_valid n)
  head_exact h =
      let d = h.depth in
      and_in (D && F) A (and_in D F (lt→ltb n 262144 (omega arith)) (lt→ltb (n % 256) flags_below h.flags)) (lt→ltb (n / 256 % 256) anchor_below h.anchor)

pub lawful_info_head : Lawful info_head
lawful_info_head =
    lawful_one_word head_word head_in head_valid HeadIn (λ n. Unit {0})
    (record {
      small = λ h i. let f = i.flags in let a = i.anchor in let d = i.depth in omega arith;
      again = λ h i. head_reads_back h (let f = i.flags in omega arith) (let a = i.anchor in omega arith);
      tidy = λ h i. tt;
      within = head_within;
      plain = λ n t. tt;
      exact = λ n i c. head_exact n i;
    })

-- ---- the info

pub lawful_info : Lawful info_format
lawful_info =
    let f = lawful_float in
    lawful_ranged InfoIn _
    (λ i h. (h.head, (h.gain, (h.size, (h.distance, (h.screen, (h.position, (h.last, h.send))))))))
    (λ i (head, (gain, (size, (distance, (screen, (position, (last, send))))))).
    record { head = head; gain = gain; size = size; distance = distance; screen = screen; position = position; last = last; send = send })
    (lawful_struct _ _ _ (λ i. refl) (λ y. refl)
    (lawful_pair info_head _ lawful_info_head (lawful_pair float _ f (lawful_pair float _ f (lawful_pair float _ f (lawful_pair float _ f
    (lawful_pair vec_format _ lawful_vec (lawful_pair vec_format float lawful_vec f))))))))

-- the test of n infos is that of their heads
pub infos_test : (w : List ℕ) (n at : ℕ) → (array n info_format).test w at ≡ all_at (λ a. head_valid (get_or w a 0)) info_format.width n at
infos_test w = all_same info_format.width (info_format.test w) (λ a. head_valid (get_or w a 0)) (λ a. and_true (head_valid (get_or w a 0)) true refl)
