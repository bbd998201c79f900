-- The hall that is made of a table: its arrays can be walked, and the marked speakers stand in them. Assumes nothing.
use mathlib.Core.Path.{◌≡◌, sym, ap, subst, ◌∙◌}
use mathlib.Core.List.{Memᴰ}
use mathlib.Core.Bool.{Bool}
use mathlib.Core.List.{List}
use Prim.Native.Nat.{ℕ, ◌≤◌, ◌<◌}
use native.Mathlib.Nat.{le_trans, lt_of_lt_of_le}
use native.Mathlib.Omega.{arith}
use lib.ListN.{replicate, get_or-replicate}
use Rattle.vectors.specs.declared.Vec3.{Vec3}
use Rattle.corners.specs.Table.{Table}
use Rattle.corners.proofs.Lists.{some_of}
use Rattle.corners.specs.declared.Axis.TheVariants.{X, Y, Z}
use Rattle.corners.specs.Axes.{place_among, speaker_at, channel_at, along, index_at}
use Rattle.corners.specs.declared.Speaker.{Speaker}
use Rattle.corners.specs.EqualRuns.{Members}
use Rattle.corners.specs.SpeakerOrder.{is_marked, speakers_of, InLine, Gathered, RunEnds}
use Rattle.corners.specs.Sorted.{Sorted}
use Rattle.corners.proofs.Lexical.{Fine, Lex, lex_of}
use Rattle.corners.proofs.Lined.{fine_marked, all_lined}
use Rattle.corners.proofs.RunEnds.{layer_most, walkable}

module _ (P : List Vec3) (p : List Bool) (t : Table (place_among P) (speakers_of p)) (n : ℕ) (ch : List ℕ)
    (line : InLine (place_among P) (is_marked p) 12 n (index_at ch)) where
  pub channel_below : (i : ℕ) → i < n → index_at ch i < 12
  channel_below i q = (line.into i q).0

  some_there : 0 < n
  some_there =
      let m = some_of (speakers_of p) t.some in
      let o = (all_lined p t line).out m.0 m.1 in
      omega (arith, o.2)

  fine_there : (i : ℕ) → i < n → Fine (place_among P (index_at ch i))
  fine_there i q = let h = line.into i q in fine_marked p t (index_at ch i) h.0 h.1

  module _ (s : List Speaker) (g : Gathered (place_among P) (index_at ch) n s) where
    abbrev place : ℕ → Vec3
    place i = (speaker_at s i).place

    channel_is : (i : ℕ) → i < n → channel_at s i ≡ index_at ch i
    channel_is i q = ap (λ (k : Speaker). k.channel) (g i q)

    place_is : (i : ℕ) → i < n → place i ≡ place_among P (index_at ch i)
    place_is i q = ap (λ (k : Speaker). k.place) (g i q)

    stands : (i : ℕ) → i < n → place i ≡ place_among P (channel_at s i)
    stands i q = place_is i q ∙ ap (place_among P) (sym (channel_is i q))

    fine : (i : ℕ) → i < n → Fine (place i)
    fine i q = subst Fine (sym (place_is i q)) (fine_there i q)

    rising : (i j : ℕ) → i < j → j < n → Lex (place i) (place j)
    rising i j ij jn =
        let q : i < n = omega arith in
        subst (λ (v : Vec3). Lex v (place j)) (sym (place_is i q)) (subst (λ (v : Vec3). Lex (place_among P (index_at ch i)) v) (sym (place_is j jn))
        (lex_of (place_among P (index_at ch i)) (place_among P (index_at ch j)) (fine_there i q) (fine_there j jn) (line.rising i j ij jn)))

    members : Members (channel_at s) 0 n (speakers_of p)
    members =
        let m = all_lined p t line in
        record {
          into = λ i o q. subst (λ (k : ℕ). Memᴰ k (speakers_of p)) (sym (channel_is i q)) (m.into i o q);
          out = λ k i. let o = m.out k i in (o.0, o.1, o.2, o.3 ∙ sym (channel_is o.0 o.2));
        }

    bounds_are : (i : ℕ) → i < n → index_at (replicate 12 n) i ≡ n
    bounds_are i q = get_or-replicate 12 i n 0 (lt_of_lt_of_le q line.few)

    module _ (layers : List ℕ) (l : RunEnds (along Y s) (index_at (replicate 12 n)) n (index_at layers)) where
      pub layer_below : (i : ℕ) → i < n → index_at layers i ≤ 12
      layer_below i q =
          le_trans (layer_most (along X s) (along Y s) (along Z s) (index_at layers) (index_at (replicate 12 n)) n bounds_are fine rising l i q) line.few

      pub made : (rows : List ℕ) → RunEnds (along Z s) (index_at layers) n (index_at rows) →
          Sorted (place_among P) (speakers_of p) (record { speakers = s; layers = layers; rows = rows; count = n })
      made rows r = record {
        walk = walkable (along X s) (along Y s) (along Z s) (index_at layers) (index_at (replicate 12 n)) n bounds_are fine rising l (index_at rows) r some_there line.few;
        stand = record {
          members = members;
          at_x = λ i o q. ap (λ (v : Vec3). v.x) (stands i q);
          at_y = λ i o q. ap (λ (v : Vec3). v.y) (stands i q);
          at_z = λ i o q. ap (λ (v : Vec3). v.z) (stands i q);
        };
      }
