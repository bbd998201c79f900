-- An info says all that its object's record says. Assumes nothing.
use Rattle.std.proofs.Common.{◌≡◌, ℕ, ◌+◌, ◌*◌, ◌≤◌, true, ◌&&◌, eqb, leb, List, ap, ◌∙◌, arith, leb-true}
use Rattle.words.specs.Words.{float_at}
use Rattle.vectors.specs.Head.{Head}
use Rattle.vectors.proofs.Heads.{head_reads_back}
use Rattle.fields.specs.RecordBytes.{byte, kind}
use Rattle.fields.specs.Object.{is_object, maybe_of, position_of, object_of}
use Rattle.fields.specs.ObjectInfos.{head_said, stored_info, object_from, object_of_info}
use Rattle.fields.proofs.All.{and_left, and_right}

module _ (m : List ℕ) (r : ℕ) (object : is_object m r ≡ true) where
  flags_few : byte m r 2 ≤ 63
  unfolding is_object
  flags_few = leb-true _ _ (and_right (eqb (kind m r) 4 && leb (byte m r 1) 2) _ (and_left _ _ (and_left _ _ object)))

  anchor_listed : byte m r 1 ≤ 2
  unfolding is_object
  anchor_listed = leb-true _ _ (and_right (eqb (kind m r) 4) _ (and_left _ _ (and_left _ _ (and_left _ _ object))))

  plain : object_from (head_said m r) (stored_info m r) ≡ object_of m r
  unfolding float_at maybe_of position_of
  plain =
      let y : 40 * r + 8 + 4 ≡ 40 * r + 12 = omega arith in
      let z : 40 * r + 8 + 8 ≡ 40 * r + 16 = omega arith in
      rw (y, z)

  pub info_says_all : object_of_info (stored_info m r) ≡ object_of m r
  info_says_all = ap (λ (h : Head). object_from h (stored_info m r)) (head_reads_back (head_said m r) (omega (arith, flags_few)) (omega (arith, anchor_listed))) ∙ plain
